-- What the replies rest on: look-ups as counts, and how long an end is.
use Rattle.std.proofs.Common.{◌≡◌, ℕ, ◌+◌, ◌≤◌, Bool, false, List, [], ◌∷◌, ◌++◌, length, drop, flat_map, refl, sym, ◌∙◌, ap, subst, arith, add-one, drop-cons, append_assoc, length-append}
use Rattle.std.specs.Prelude.{Option, Some, None, is_some, option_map, slice_get}
use Rattle.std.proofs.lemmas.Option.{slice_get_within, get_or_from_slice_get}
use Rattle.std.specs.FinMap.{get, entries, entries_sorted, get-entries}
use Rattle.rtsp_record.specs.declared.holdings.Whole.{Whole}
use Rattle.rtsp_record.specs.declared.holdings.Thing.{Thing}
use Rattle.rtsp_book.specs.declared.steps.Commit.{Commit}
use Rattle.rtsp_record.specs.declared.changes.Record.{Record}
use Rattle.rtsp_record.specs.declared.changes.Record.TheVariants.{Open, Hold, Add, Bind}
use Rattle.rtsp_record.specs.Records.{holds}
use Rattle.rtsp_record.specs.Books.{Session, Book}
use Rattle.rtsp_record.specs.Sums.{owed}
use Rattle.rtsp_record.specs.Rules.{Own, AllAllowed, IsFree}
use Rattle.rtsp_sessions.specs.Searches.{first_with}
use Rattle.rtsp_sessions.specs.Lookups.{TakesNone, TakesNoMemory, session_at, number_of}
use Rattle.rtsp_book.specs.Made.{committing, made}
use Rattle.rtsp_book.specs.Replies.{is_wrong_hold, is_wrong_commit, is_startup_taken, is_unready_commit}
use Rattle.rtsp_record.proofs.Trims.{AllFine}
use Rattle.rtsp_sessions.proofs.FirstRows.{first_found}
use Rattle.rtsp_book.proofs.Granted.{own_hold, committed}
use Rattle.rtsp_record.specs.Sound.{SoundRow, Sound}
use Rattle.rtsp_book.specs.Returns.{ending}
use Rattle.rtsp_book.proofs.Runs.{OwnAll, Giving, all_lone, lone_allowed}
use Rattle.rtsp_book.proofs.Ending.{ending_own, giving_ending}
use Rattle.rtsp_book.proofs.Giving.{gives_few}

-- Look-ups.

-- the session of the first number that passes is the first that does
pub found_view : (b : Book) (p : ℕ × Session → Bool) (s : ℕ) → Some s ≡ number_of p (entries b) → session_at b s ≡ first_with p (entries b)
found_view b p s h =
    elim (first_with p (entries b)) as (λ o. first_with p (entries b) ≡ o → Some s ≡ option_map (λ e. e.0) o → session_at b s ≡ o) [
      | None ↦ λ _ h. absurd cc
      | Some e ↦ λ is h.
          let same : s ≡ e.0 = cc in
          ap (session_at b) same ∙ ap (option_map (λ f. (e.0, f))) (get-entries b e.0 ∙ first_found p (entries b) e (entries_sorted b) is)
    ] refl h

-- no number passes where no session does
pub none_found : (p : ℕ × Session → Bool) (es : List (ℕ × Session)) → None ≡ number_of p es → None ≡ first_with p es
none_found p es h = elim (first_with p es) as (λ o. None ≡ option_map (λ e. e.0) o → None ≡ o) [ None ↦ λ _. refl | Some e ↦ λ h. absurd cc ] h

-- Rows given back one after another.

-- what stands from a place on is the row there and the rest
drop_there : {X : Type 0} (es : List X) (i : ℕ) (x : X) → slice_get es i ≡ Some x → drop i es ≡ x ∷ drop (i + 1) es
drop_there es i x h =
    drop-cons es i x (slice_get_within es i x h) ∙ (λ t. get_or_from_slice_get es i x x h t ∷ drop (sym (add-one i) t) es)

module _ {X R : Type 0} where
  -- with what one row gives back made
  pub row_made : (g : X → List R) (made all : List R) (es : List X) (i : ℕ) (x : X) → slice_get es i ≡ Some x → made ++ flat_map g (drop i es) ≡ all → (made ++ g x) ++ flat_map g (drop (i + 1) es) ≡ all
  row_made g made all es i x h is =
      append_assoc made (g x) (flat_map g (drop (i + 1) es)) ∙ ap (λ es. made ++ flat_map g es) (sym (drop_there es i x h)) ∙ is

  -- there is room for it
  pub row_fits : (g : X → List R) (made all : List R) (es : List X) (i : ℕ) (x : X) → slice_get es i ≡ Some x → made ++ flat_map g (drop i es) ≡ all → length made + length (g x) ≤ length all
  row_fits g made all es i x h is =
      omega (arith, length-append (made ++ g x) (flat_map g (drop (i + 1) es)), length-append made (g x), ap length (row_made g made all es i x h is))

-- Ends.

-- the end of a sound session is short
pub ending_short : (w : Whole) (b : Book) (s : ℕ) (f : Session) → Sound w b → get b s ≡ Some f → length (ending s f) ≤ 51
ending_short w b s f ok is =
    let own = subst (OwnAll (ending s f)) (sym is) (ending_own w s f (subst (SoundRow w) is (ok.rows s))).0 in
    gives_few w s b (ending s f) ok (giving_ending s f) (lone_allowed w s b (ending s f) (all_lone s (ending s f) (giving_ending s f)) own)

pub short_view : (w : Whole) (b : Book) (s : ℕ) (v : ℕ × Session) → Sound w b → v.0 ≡ s → get b s ≡ Some v.1 → length (ending v.0 v.1) ≤ 51
short_view w b s v ok at is = ending_short w b v.0 v.1 ok (ap (get b) at ∙ is)

pub short_found : (w : Whole) (b : Book) (p : ℕ × Session → Bool) (v : ℕ × Session) → Sound w b → Some v ≡ first_with p (entries b) → length (ending v.0 v.1) ≤ 51
short_found w b p v ok is = ending_short w b v.0 v.1 ok (get-entries b v.0 ∙ first_found p (entries b) v (entries_sorted b) (sym is))

-- What is made where no earlier refusal fits is allowed.

seen : (s : ℕ) (o : Option Session) (q : Option (ℕ × Session)) → q ≡ option_map (λ f. (s, f)) o → is_some q ≡ is_some o
seen s None q is = ap is_some is
seen s (Some f) q is = ap is_some is

module _ (w : Whole) (n : ℕ) (b : Book) (ok : Sound w b) (room : n + owed b ≤ w.journal) where
  pub hold_allowed : (s a : ℕ) (x : Thing) (f : Session) (rs : List Record) → get b s ≡ Some f → is_wrong_hold a x f ≡ false → IsFree w b x → rs ≡ holds s a x ∷ [] → AllAllowed w b rs
  hold_allowed s a x f rs there right free is =
      subst (AllAllowed w b) (sym is) ((subst (Own (holds s a x)) (sym there) (own_hold w n b ok room s a x (Some f) refl right), free), tt)

  pub commit_allowed : (c : Commit) (f : Session) (rs : List Record) → get b c.session ≡ Some f → is_wrong_commit c.admission c.stream f ≡ false → is_startup_taken b c.startup f ≡ false → is_unready_commit c.admission f ≡ false → rs ≡ committing c f → AllAllowed w b rs
  commit_allowed c f rs there right free ready is = subst (AllAllowed w b) (sym is) (committed w n b ok room c f there right free ready)

-- Answers of records, over any sound book.

giving_frees : (s : ℕ) (r : Record) → Giving s r → TakesNone r
giving_frees s (Open l) h = absurd h
giving_frees s (Hold x) h = absurd h
giving_frees s (Add u) h = absurd h
giving_frees s (Bind k) h = absurd h
giving_frees s r h = tt

all_free : (s : ℕ) (rs : List Record) → AllFine (Giving s) rs → TakesNoMemory rs
all_free s [] h = tt
all_free s (r ∷ rs) h = (giving_frees s r h.0, all_free s rs h.1)
