-- What calls of a seat add to its entries, and what these leave under an admission.
use Rattle.std.proofs.Common.{◌≡◌, ℕ, ◌+◌, ◌≤◌, false, List, [], ◌∷◌, ◌++◌, length, refl, sym, ◌∙◌, ap, subst, arith, le_refl, append_assoc, append-nil, length-append, Ok, Err}
use Rattle.std.specs.Prelude.{Option}
use Rattle.std.specs.List.{AllByRecursion}
use Rattle.std.proofs.lemmas.List.Elements.{filter-append}
use Rattle.rtsp_record.specs.declared.holdings.Thing.{Thing}
use Rattle.rtsp_record.specs.declared.changes.Entry.{Entry}
use Rattle.rtsp_record.specs.declared.changes.Record.{Record}
use Rattle.rtsp_record.specs.Records.{session_of}
use Rattle.rtsp_record.specs.Books.{Session, effect, book_of}
use Rattle.rtsp_record.specs.Journals.{is_add_of}
use Rattle.rtsp_book.specs.declared.steps.Step.{Step}
use Rattle.rtsp_book.specs.declared.refusals.Refusal.{Refusal}
use Rattle.rtsp_book.specs.Made.{made}
use Rattle.rtsp_book.specs.Replies.{refusals}
use Rattle.rtsp_book.proofs.Granted.{accepted}
use Rattle.rtsp_lock.specs.declared.view.View.{View}
use Rattle.rtsp_lock.specs.Calls.{Acted}
use Rattle.rtsp_admit.specs.Refused.{is_open_of, openings}
use Rattle.rtsp_admit.proofs.Rows.{Within}
use Rattle.rtsp_admit.proofs.Leading.{Leads, leads_one, IsOwn, all_append}

-- how many Opens of the session
abbrev pub opens : ℕ → List Entry → ℕ
opens s j = length (openings s j)

pub opens_append : (s : ℕ) (j k : List Entry) → opens s (j ++ k) ≡ opens s j + opens s k
opens_append s j k = ap length (filter-append (λ (e : Entry). is_open_of s e.change) j k) ∙ length-append (openings s j) (openings s k)

-- the records of a step that was accepted
pub made_is : (v u : View) (step : Step) (rs : List Record) → (acted : Acted v u step (Ok rs)) → made v.whole (book_of acted.journal) step ≡ rs
made_is v u step rs acted = (accepted (refusals v.whole (length acted.journal) (book_of acted.journal) step) (made v.whole (book_of acted.journal) step) rs acted.answers).1

-- calls of a seat that add these entries, of the session and without a stream under the admission, with so many Opens at most; where at most the first two things stood under it by the seat's own entries, now at most the others do
pub record Goes (s a n : ℕ) (x y x' y' : Option Thing) (v u : View) : Type 0 where
  pub more : List Entry
  pub mine : u.mine ≡ v.mine ++ more
  pub actor : u.actor ≡ v.actor
  pub few : opens s more ≤ n
  pub own : AllByRecursion (IsOwn v.actor s a) more
  pub leads : (before : List Entry) → Leads v.actor a x y before → Leads v.actor a x' y' (before ++ more)

module _ (s a : ℕ) (x y : Option Thing) where
  pub goes_none : (v u : View) → u ≡ v → Goes s a 0 x y x y v u
  goes_none v u e = record {
    more = [];
    mine = ap (λ (w : View). w.mine) e ∙ sym (append-nil v.mine);
    actor = ap (λ (w : View). w.actor) e;
    few = le_refl 0;
    own = tt;
    leads = λ before l. subst (Leads v.actor a x y) (sym (append-nil before)) l;
  }

  -- a step that is refused
  pub goes_refused : (v u : View) (step : Step) (refusal : Refusal) → Acted v u step (Err refusal) → Goes s a 0 x y x y v u
  goes_refused v u step refusal acted = record {
    more = [];
    mine = acted.mine;
    actor = acted.stays.actor;
    few = le_refl 0;
    own = tt;
    leads = λ before l. subst (Leads v.actor a x y) (sym (append-nil before)) l;
  }

  -- a step that makes one record of the session, and adds no stream under the admission
  pub goes_one : (x' y' : Option Thing) (n : ℕ) (v u : View) (step : Step) (r : Record) → Acted v u step (Ok (r ∷ [])) → session_of r ≡ s → is_add_of a r ≡ false → opens s (record { actor = v.actor; change = r } ∷ []) ≤ n → ((o : Option Session) → Within a x y o → Within a x' y' (effect r o)) → Goes s a n x y x' y' v u
  goes_one x' y' n v u step r acted same off few change =
      let e : Entry = record { actor = v.actor; change = r } in
      record {
        more = e ∷ [];
        mine = acted.mine;
        actor = acted.stays.actor;
        few = few;
        own = (record { actor = refl; session = same; no_add = off }, tt);
        leads = λ before l. leads_one v.actor a x y x' y' before e change l;
      }

-- calls after calls
pub goes_then : (s a n : ℕ) (x y x' y' x2 y2 : Option Thing) (v w u : View) → Goes s a n x y x' y' v w → Goes s a 0 x' y' x2 y2 w u → Goes s a n x y x2 y2 v u
goes_then s a n x y x' y' x2 y2 v w u g h =
    let few = opens_append s g.more h.more in
    let one = g.few in
    let two = h.few in
    record {
      more = g.more ++ h.more;
      mine = h.mine ∙ (ap (λ (l : List Entry). l ++ h.more) g.mine ∙ append_assoc v.mine g.more h.more);
      actor = h.actor ∙ g.actor;
      few = omega (arith, few, one, two);
      own = all_append (IsOwn v.actor s a) g.more h.more g.own (subst (λ (by : ℕ). AllByRecursion (IsOwn by s a) h.more) g.actor h.own);
      leads = λ before l.
          let first = subst (λ (by : ℕ). Leads by a x' y' (before ++ g.more)) (sym g.actor) (g.leads before l) in
          subst (Leads v.actor a x2 y2) (append_assoc before g.more h.more) (subst (λ (by : ℕ). Leads by a x2 y2 ((before ++ g.more) ++ h.more)) g.actor (h.leads (before ++ g.more) first));
    }
