-- What a refused admission leaves.
use Rattle.std.proofs.Common.{◌≡◌, ◌≢◌, ◌⊎◌, ℕ, ◌≤◌, Bool, true, false, ◌&&◌, not, cond, List, [], ◌∷◌, ◌++◌, length, drop, refl, sym, ◌∙◌, ap, subst, arith, append_assoc, append-nil, inl, inr, ⊎_elim, Result, Ok, Err, ◌==◌, true≢false}
use Rattle.std.specs.Prelude.{Option, Some, None, is_none, option_map, filter}
use Rattle.std.specs.List.{AllByRecursion}
use Rattle.std.proofs.lemmas.Bool.{and_parts, cases_eq}
use Rattle.std.proofs.lemmas.List.Elements.{filter-append}
use Rattle.std.proofs.Math.Seq.{drop-append_seam}
use Rattle.std.specs.FinMap.{get}
use Rattle.rtsp_record.specs.declared.holdings.Admission.{Admission}
use Rattle.rtsp_record.specs.declared.holdings.Whole.{Whole}
use Rattle.rtsp_record.specs.declared.changes.Entry.{Entry}
use Rattle.rtsp_record.specs.declared.changes.Record.{Record}
use Rattle.rtsp_record.specs.declared.changes.Record.TheVariants.{Open, Hold, Add}
use Rattle.rtsp_record.specs.Tables.{Table, set}
use Rattle.rtsp_record.specs.Books.{Session, Book, bare, kept, under, book_of}
use Rattle.rtsp_record.specs.Rules.{as_rate, IsLegal}
use Rattle.rtsp_record.specs.Sums.{one_if}
use Rattle.rtsp_record.specs.Journals.{thinned, is_add_of, HasNoAdd}
use Rattle.rtsp_record.specs.Sound.{SoundRow}
use Rattle.rtsp_book.specs.declared.asks.Admitted.{Admitted}
use Rattle.rtsp_book.specs.declared.asks.Ask.{Ask}
use Rattle.rtsp_book.specs.declared.refusals.Refusal.{Refusal}
use Rattle.rtsp_book.specs.declared.steps.Chain.{Chain}
use Rattle.rtsp_book.specs.declared.steps.Step.TheVariants as step
use Rattle.rtsp_book.specs.Kept.{entries_by}
use Rattle.rtsp_book.specs.Answers.{written}
use Rattle.rtsp_book.specs.Returns.{ending}
use Rattle.rtsp_book.specs.Made.{taking_back, unwinding, of_living, made}
use Rattle.rtsp_book.specs.Replies.{is_empty_chain, answered, no_refusal}
use Rattle.rtsp_record.proofs.Tables.{same_table, set-same}
use Rattle.rtsp_record.proofs.Sound.{sound_of}
use Rattle.rtsp_record.proofs.Strands.{row_after}
use Rattle.rtsp_record.proofs.Trims.{AllFine}
use Rattle.rtsp_book.proofs.Keeping.{book-extended}
use Rattle.rtsp_book.proofs.Giving.{unwinding_gives, living_gives}
use Rattle.rtsp_book.proofs.Runs.{Giving, all_lone, lone_row}
use Rattle.rtsp_book.proofs.Ending.{ending_own}
use Rattle.rtsp_undo.proofs.Journals.{less_admission_law, less_gone_law}
use Rattle.rtsp_lock.specs.declared.view.View.{View}
use Rattle.rtsp_lock.specs.Calls.{Acted}
use Rattle.rtsp_admit.specs.declared.failure.Failure.{Failure}
use Rattle.rtsp_admit.specs.declared.failure.Failure.TheVariants as failure
use Rattle.rtsp_admit.specs.Binder.{Calls}
use Rattle.rtsp_admit.specs.Steps.{chain_left}
use Rattle.rtsp_admit.specs.Runs.{State, Admits}
use Rattle.rtsp_lock.specs.Entries.{OnlyOf, Part, LeftOf, Has, entries_of}
use Rattle.rtsp_lock.specs.Numbers.{is_use_of, uses, streams_under}
use Rattle.rtsp_lock.proofs.Entries.{own_all, only_part, filters, part_passing}
use Rattle.rtsp_admit.specs.Refused.{is_open_of, openings, added, NothingLeft, SessionGone, UsedAlone, RefusalsLeaveNothing}
use Rattle.rtsp_admit.specs.Numbers.{RefusalsLeaveNothingUnused, RefusalsLeaveNothingDrawn}
use Rattle.rtsp_admit.proofs.Rows.{Upto, Within, Left, count, left_quiet, both_back, IsFirst, IsSecond}
use Rattle.rtsp_admit.proofs.Leading.{IsOwn, leads_none, left_of, all_filter}
use Rattle.rtsp_admit.proofs.Keeping.{admissions_keep}
use Rattle.rtsp_admit.proofs.Going.{opens, opens_append, made_is}
use Rattle.rtsp_admit.proofs.Breaking.{Keeps, keeps_fails, second_is}

-- Records that give back are no Holds, Adds or Opens.

giving_takes : (s a : ℕ) (r : Record) → Giving s r → is_use_of a r ≡ false
giving_takes s a (Hold k) h = absurd h
giving_takes s a (Add d) h = absurd h
giving_takes s a r h = refl

giving_opens : (s t : ℕ) (r : Record) → Giving s r → is_open_of t r ≡ false
giving_opens s t (Open l) h = absurd h
giving_opens s t r h = refl

giving_count : (s a by : ℕ) (rs : List Record) → AllFine (Giving s) rs → count a (entries_by by rs) ≡ 0
giving_count s a by [] g = refl
giving_count s a by (r ∷ rs) g =
    let e : Entry = record { actor = by; change = r } in
    ap (λ v. length (cond v (e ∷ uses a (entries_by by rs)) (uses a (entries_by by rs)))) (giving_takes s a r g.0) ∙ giving_count s a by rs g.1

giving_opened : (s t by : ℕ) (rs : List Record) → AllFine (Giving s) rs → opens t (entries_by by rs) ≡ 0
giving_opened s t by [] g = refl
giving_opened s t by (r ∷ rs) g =
    let e : Entry = record { actor = by; change = r } in
    ap (λ v. length (cond v (e ∷ openings t (entries_by by rs)) (openings t (entries_by by rs)))) (giving_opens s t r g.0) ∙ giving_opened s t by rs g.1

-- nothing under the admission, and no session where it was opened
pub record Row (a : ℕ) (opened : Bool) (o : Option Session) : Type 0 where
  pub nothing : Within a None None o
  pub gone : opened ≡ true → o ≡ None

unwound_row : (w : Whole) (ch : Chain) (o : Option Session) → SoundRow w o → IsFirst ch.first → IsSecond ch.second → Within ch.admission ch.first ch.second o → Row ch.admission ch.opened (row_after (of_living o (unwinding ch)) o)
unwound_row w ch None ok first second h = record { nothing = tt; gone = λ _. refl }
unwound_row w ch (Some f) ok first second h =
    elim (ch.opened) as (λ t. Row ch.admission t (row_after (cond t (ending ch.session f) (taking_back ch.session ch.admission f ch.second ++ taking_back ch.session ch.admission f ch.first)) (Some f))) [
      | true ↦
          let none = (ending_own w ch.session f ok).1 in
          record { nothing = subst (Within ch.admission None None) (sym none) tt; gone = λ _. none }
      | false ↦ record { nothing = both_back ch.session ch.admission f ch.first ch.second first second h; gone = λ e. absurd cc }
    ]

-- nothing under the admission after a journal, and no session where it was opened
pub record Gone (s a : ℕ) (opened : Bool) (j : List Entry) : Type 0 where
  pub left : Left s a None None j
  pub gone : opened ≡ true → get (book_of j) s ≡ None

not_so : false ≡ true → ⊥
not_so e = cc

refused_is : (t : Bool) (q : Refusal) (rs : List Record) → answered (record no_refusal { no_session = t }) rs ≡ Err q → t ≡ true
refused_is true q rs h = refl
refused_is false q rs h = absurd cc

none_is : {X : Type 0} (o : Option X) → is_none o ≡ true → o ≡ None
none_is None h = refl
none_is (Some x) h = absurd cc

-- an Unwind makes no Hold, Add or Open
record Quiet (s a : ℕ) (es : List Entry) : Type 0 where
  pub takes : count a es ≡ 0
  pub opens : opens s es ≡ 0

unwind_quiet : (ch : Chain) (answer : Result (List Record) Refusal) (v u : View) → Acted v u (step.Unwind ch) answer → Quiet ch.session ch.admission (entries_by v.actor (written answer))
unwind_quiet ch answer v u h = quiet answer h
  where
    quiet : (answer : Result (List Record) Refusal) → Acted v u (step.Unwind ch) answer → Quiet ch.session ch.admission (entries_by v.actor (written answer))
    quiet (Err r) acted = record { takes = refl; opens = refl }
    quiet (Ok rs) acted =
        let is = made_is v u (step.Unwind ch) rs acted in
        let gives = living_gives ch.session (get (book_of acted.journal) ch.session) (unwinding ch) (unwinding_gives ch) in
        subst (λ rs. Quiet ch.session ch.admission (entries_by v.actor rs)) is (record {
          takes = giving_count ch.session ch.admission v.actor (made v.whole (book_of acted.journal) (step.Unwind ch)) gives;
          opens = giving_opened ch.session ch.session v.actor (made v.whole (book_of acted.journal) (step.Unwind ch)) gives;
        })

unwound : (ch : Chain) (answer : Result (List Record) Refusal) (v u : View) (h : Acted v u (step.Unwind ch) answer) → IsFirst ch.first → IsSecond ch.second → Left ch.session ch.admission ch.first ch.second h.journal → Gone ch.session ch.admission ch.opened u.seen
unwound ch answer v u h first second left = gone answer h left
  where
    gone : (answer : Result (List Record) Refusal) (acted : Acted v u (step.Unwind ch) answer) → Left ch.session ch.admission ch.first ch.second acted.journal → Gone ch.session ch.admission ch.opened u.seen
    gone (Err r) acted there =
        let b = book_of acted.journal in
        let none : get b ch.session ≡ None =
        ⊎_elim
        (λ e. none_is (get b ch.session) (and_parts (is_none (get b ch.session)) (not (is_empty_chain ch)) (refused_is (is_none (get b ch.session) && not (is_empty_chain ch)) r (made v.whole b (step.Unwind ch)) e)).0)
        (λ e. absurd (not_so e.1))
        acted.answers in
        subst (Gone ch.session ch.admission ch.opened) (sym (acted.seen ∙ append-nil acted.journal)) (record {
          left = record { others = there.others; own = subst (Within ch.admission None None) (sym none) tt; no_add = there.no_add };
          gone = λ _. none;
        })
    gone (Ok rs) acted there =
        let b = book_of acted.journal in
        let is = made_is v u (step.Unwind ch) rs acted in
        let o = get b ch.session in
        let mades = of_living o (unwinding ch) in
        let gives = living_gives ch.session o (unwinding ch) (unwinding_gives ch) in
        let after = left_quiet ch.session ch.admission ch.first ch.second acted.journal (entries_by v.actor mades) (giving_count ch.session ch.admission v.actor mades gives) there in
        let row = unwound_row v.whole ch o ((sound_of v.whole acted.journal acted.found.legal).rows ch.session) first second there.own in
        let ends : get (book_of (acted.journal ++ entries_by v.actor mades)) ch.session ≡ row_after mades o =
        ap (λ (b : Book). get b ch.session) (book-extended acted.journal v.actor mades) ∙ lone_row ch.session b mades (all_lone ch.session mades gives) in
        subst (Gone ch.session ch.admission ch.opened) (sym (acted.seen ∙ ap (λ rs. acted.journal ++ entries_by v.actor rs) (sym is))) (record {
          left = record { others = after.others; own = subst (Within ch.admission None None) (sym ends) row.nothing; no_add = after.no_add };
          gone = λ e. ends ∙ row.gone e;
        })

-- a rate that isn't held
no_rate : (r : Option ℕ) → as_rate r ≡ None → r ≡ None
no_rate None h = refl
no_rate (Some n) h = absurd cc

either_none : {X : Type 0} (o : Option X) → (o ≡ None) ⊎ (o ≡ None) → o ≡ None
either_none o h = ⊎_elim (λ e. e) (λ e. e) h

nothing_bare : (d : Admission) → Upto None None d → d ≡ bare
nothing_bare d h =
    let rate = no_rate d.rate (either_none (as_rate d.rate) h.rate) in
    let address = either_none d.address h.address in
    let stream = h.stream in
    λ i. record { rate = rate i; address = address i; stream = stream i }

-- in no session
all_within : (s a : ℕ) (j : List Entry) → Left s a None None j → (q : ℕ) → Within a None None (get (book_of j) q)
all_within s a j l q = elim (cases_eq q s) [
  | inl e ↦ subst (λ t. Within a None None (get (book_of j) t)) (sym e) l.own
  | inr n ↦ l.others q n
]

thin_nothing : (w : Whole) (a : ℕ) (o : Option Session) → SoundRow w o → Within a None None o → option_map (thinned a) o ≡ o
thin_nothing w a None ok h = refl
thin_nothing w a (Some f) ok h =
    let none : get f.admissions a ≡ None = sym (ok.normal a) ∙ ap kept (nothing_bare (under f a) h) in
    ap (λ (t : Table Admission). Some (record f { admissions = t })) (ap (set f.admissions a) (sym none) ∙ set-same f.admissions a)

nothing_left : (w : Whole) (s a : ℕ) (j : List Entry) → IsLegal w j → Left s a None None j → NothingLeft a j
nothing_left w s a j legal l = record {
  nothing = λ q f is. nothing_bare (under f a) (subst (Within a None None) is (all_within s a j l q));
  book = same_table _ _ (λ q. (less_admission_law w a j legal l.no_add).1 q ∙ thin_nothing w a (get (book_of j) q) ((sound_of w j legal).rows q) (all_within s a j l q));
}

no_entries : (j : List Entry) → length j ≤ 0 → j ≡ []
no_entries [] h = refl
no_entries (e ∷ j) h = absurd (omega arith)

-- The Adds under a number.

add_is_use : (a : ℕ) (r : Record) → is_add_of a r ≡ true → is_use_of a r ≡ true
add_is_use a (Add d) h = h
add_is_use a r h = absurd cc

-- of those that pass one test those that pass another, which no other does
within_filter : (p q : Entry → Bool) → ((e : Entry) → p e ≡ true → q e ≡ true) → (j : List Entry) → filter p (filter q j) ≡ filter p j
within_filter p q implies [] = refl
within_filter p q implies (e ∷ j) =
    let rest = within_filter p q implies j in
    elim (q e) as (λ t. q e ≡ t → filter p (cond t (e ∷ filter q j) (filter q j)) ≡ cond (p e) (e ∷ filter p j) (filter p j)) [
      | true ↦ λ _. ap (λ (l : List Entry). cond (p e) (e ∷ l) l) rest
      | false ↦ λ off. elim (p e) as (λ t. p e ≡ t → filter p (filter q j) ≡ cond t (e ∷ filter p j) (filter p j)) [ true ↦ λ on. absurd (true≢false (sym (implies e on) ∙ off)) | false ↦ λ _. rest ] refl
    ] refl

streams_in_uses : (a : ℕ) (j : List Entry) → streams_under a (uses a j) ≡ streams_under a j
streams_in_uses a j = within_filter (λ (e : Entry). is_add_of a e.change) (λ (e : Entry). is_use_of a e.change) (λ e on. add_is_use a e.change on) j

-- a seat's own entries that add no stream have none
own_streams : (by s a : ℕ) (j : List Entry) → AllByRecursion (IsOwn by s a) j → streams_under a j ≡ []
own_streams by s a [] own = refl
own_streams by s a (e ∷ j) own = ap (λ (t : Bool). cond t (e ∷ streams_under a j) (streams_under a j)) own.0.no_add ∙ own_streams by s a j own.1

-- where there is none, no stream is added
no_adds_in : (a : ℕ) (j : List Entry) → streams_under a j ≡ [] → HasNoAdd a j
no_adds_in a [] none = tt
no_adds_in a (e ∷ j) none =
    elim (is_add_of a e.change) as (λ t. is_add_of a e.change ≡ t → cond t (e ∷ streams_under a j) (streams_under a j) ≡ [] → HasNoAdd a (e ∷ j)) [
      | true ↦ λ _ l. absurd cc
      | false ↦ λ off l. (off, no_adds_in a j l)
    ] refl none

module _ {B : Type 0} (calls : Calls B) (ask : Ask) where
  session_gone : (w : Whole) (t : Bool) (v u : View) (j : List Entry) → IsLegal w j → opens ask.session (added v u) ≤ one_if t → (t ≡ true → get (book_of j) ask.session ≡ None) → openings ask.session (added v u) ≢ [] → SessionGone ask.session j
  session_gone w true v u j legal few gone opened = let none = gone refl in record { gone = none; book = less_gone_law w ask.session j legal none }
  session_gone w false v u j legal few gone opened = absurd (opened (no_entries (openings ask.session (added v u)) few))

  -- what a refused admission added before its Unwind and by it
  record Ended (cause : Failure) (v u : View) (journal more last : List Entry) : Type 0 where
    pub is : added v u ≡ more ++ last
    pub mine : u.mine ≡ v.mine ++ (more ++ last)
    pub seen : uses ask.admission u.seen ≡ uses ask.admission journal
    pub few : opens ask.session (added v u) ≤ one_if (chain_left ask cause).opened
    pub same : uses ask.admission (added v u) ≡ uses ask.admission more

  -- entries that are followed by such without a Hold or Add
  then_quiet : (j last : List Entry) → count ask.admission last ≡ 0 → uses ask.admission (j ++ last) ≡ uses ask.admission j
  then_quiet j last none =
      filter-append (λ (e : Entry). is_use_of ask.admission e.change) j last
      ∙ (ap (λ (l : List Entry). uses ask.admission j ++ l) (no_entries (uses ask.admission last) (omega (arith, none)))
      ∙ append-nil (uses ask.admission j))

  ended : (refusal : Refusal) (s t : State B) (run : Admits calls ask (Err refusal) s t) → (keeps : Keeps ask (one_if (chain_left ask run.cause).opened) None None (chain_left ask run.cause).first (chain_left ask run.cause).second s.view run.broken.view)
      → Quiet ask.session ask.admission (entries_by run.broken.view.actor (written run.answer))
      → Ended run.cause s.view t.view run.unwinds.journal keeps.more (entries_by run.broken.view.actor (written run.answer))
  ended refusal s t run keeps quiet =
      let v = s.view in
      let last = entries_by run.broken.view.actor (written run.answer) in
      let mine : t.view.mine ≡ v.mine ++ (keeps.more ++ last) = run.unwinds.mine ∙ (ap (λ (l : List Entry). l ++ last) keeps.mine ∙ append_assoc v.mine keeps.more last) in
      let is : added v t.view ≡ keeps.more ++ last = ap (drop (length v.mine)) mine ∙ drop-append_seam v.mine (keeps.more ++ last) in
      let few = keeps.few in
      let size = opens_append ask.session keeps.more last in
      let none = quiet.opens in
      record {
        is = is;
        mine = mine;
        seen = ap (uses ask.admission) run.unwinds.seen ∙ then_quiet run.unwinds.journal last quiet.takes;
        few = subst (λ es. opens ask.session es ≤ one_if (chain_left ask run.cause).opened) (sym is) (omega (arith, few, size, none));
        same = ap (uses ask.admission) is ∙ then_quiet keeps.more last quiet.takes;
      }

  chain_quiet : (cause : Failure) (answer : Result (List Record) Refusal) (v u : View) → Acted v u (step.Unwind (chain_left ask cause)) answer → Quiet ask.session ask.admission (entries_by v.actor (written answer))
  chain_quiet (failure.Open refusal) answer v u h = unwind_quiet (chain_left ask (failure.Open refusal)) answer v u h
  chain_quiet cause answer v u h = unwind_quiet (chain_left ask cause) answer v u h

  -- what an unwound chain leaves
  gone_after : (cause : Failure) (answer : Result (List Record) Refusal) (v u : View) (h : Acted v u (step.Unwind (chain_left ask cause)) answer) → IsSecond (chain_left ask cause).second
      → Left ask.session ask.admission (chain_left ask cause).first (chain_left ask cause).second h.journal → Gone ask.session ask.admission (chain_left ask cause).opened u.seen
  gone_after (failure.Open refusal) answer v u h second l = unwound (chain_left ask (failure.Open refusal)) answer v u h tt second l
  gone_after cause answer v u h second l = unwound (chain_left ask cause) answer v u h tt second l

  -- what stands after a refused admission whose number no other call used
  gone_alone : (refusal : Refusal) (s t : State B) (run : Admits calls ask (Err refusal) s t) → UsedAlone ask.admission s.view t.view → Gone ask.session ask.admission (chain_left ask run.cause).opened t.view.seen
  gone_alone refusal s t run alone =
      let cause = run.cause in
      let v = s.view in
      let w = run.broken.view in
      let u = t.view in
      let a = ask.admission in
      let keeps = keeps_fails calls ask cause s run.broken run.fails in
      let end = ended refusal s t run keeps (chain_quiet cause run.answer w u run.unwinds) in
      let journal = run.unwinds.journal in
      let part : Part (uses a journal) (uses a keeps.more) = subst (λ (l : List Entry). Part l (uses a keeps.more)) end.seen (subst (Part (uses a u.seen)) end.same alone) in
      let found : LeftOf (v.mine ++ keeps.more) (entries_of v.actor journal) = subst (λ (n : ℕ). LeftOf (v.mine ++ keeps.more) (entries_of n journal)) keeps.actor (subst (λ (m : List Entry). LeftOf m (entries_of w.actor journal)) keeps.mine run.unwinds.found.mine) in
      let left = left_of v.actor ask.session a keeps.more journal keeps.own part (chain_left ask cause).first (chain_left ask cause).second v.mine found (keeps.leads [] (leads_none v.actor a)) in
      gone_after cause run.answer w u run.unwinds (second_is calls ask cause s run.broken run.fails) left

  -- at most one Open was added
  few_opened : (refusal : Refusal) (s t : State B) (run : Admits calls ask (Err refusal) s t) → opens ask.session (added s.view t.view) ≤ one_if (chain_left ask run.cause).opened
  few_opened refusal s t run = (ended refusal s t run (keeps_fails calls ask run.cause s run.broken run.fails) (chain_quiet run.cause run.answer run.broken.view t.view run.unwinds)).few

  pub leaves_nothing : RefusalsLeaveNothing calls ask
  leaves_nothing refusal s t run alone =
      let u = t.view in
      let gone = gone_alone refusal s t run alone in
      let legal = run.unwinds.stays.stands.legal in
      record {
        admission = nothing_left u.whole ask.session ask.admission u.seen legal gone.left;
        session = session_gone u.whole (chain_left ask run.cause).opened s.view u u.seen legal (few_opened refusal s t run) gone.gone;
      }

  -- each Hold and Add under an unused number is the admission's own, where nobody else has one
  uses_alone : (refusal : Refusal) (s t : State B) → Admits calls ask (Err refusal) s t → uses ask.admission s.view.mine ≡ [] → OnlyOf t.view.actor (uses ask.admission t.view.seen) → UsedAlone ask.admission s.view t.view
  uses_alone refusal s t run before others =
      let v = s.view in
      let u = t.view in
      let a = ask.admission in
      let p : Entry → Bool = λ e. is_use_of a e.change in
      let keeps = keeps_fails calls ask run.cause s run.broken run.fails in
      let last = entries_by run.broken.view.actor (written run.answer) in
      let end = ended refusal s t run keeps (chain_quiet run.cause run.answer run.broken.view u run.unwinds) in
      let own : uses a (entries_of u.actor u.seen) ≡ uses a u.seen = sym (filters (λ (e : Entry). e.actor == u.actor) p u.seen) ∙ own_all u.actor (uses a u.seen) others in
      let mine : uses a u.mine ≡ uses a (added v u) =
      ap (uses a) end.mine ∙ (filter-append p v.mine (keeps.more ++ last) ∙ (ap (λ (l : List Entry). l ++ uses a (keeps.more ++ last)) before ∙ ap (uses a) (sym end.is))) in
      subst (Part (uses a u.seen)) mine (subst (λ (l : List Entry). Part l (uses a u.mine)) own (part_passing p (entries_of u.actor u.seen) u.mine run.unwinds.stays.stands.mine.part))

  pub leaves_nothing_unused : RefusalsLeaveNothingUnused calls ask
  leaves_nothing_unused refusal s t run unused others = leaves_nothing refusal s t run (uses_alone refusal s t run unused.unused others)

  -- over the steps of an admission its seat knows as before which numbers its lock's seats use, and has drawn what it had
  knows_still : (result : Result Admitted Refusal) (s t : State B) → Admits calls ask result s t → s.view.numbers_drawn ≡ true → Has s.view.drawn ask.admission → (t.view.numbers_drawn ≡ true) × Has t.view.drawn ask.admission
  knows_still result s t run on drawn =
      admissions_keep calls ask (λ (x : View). (x.numbers_drawn ≡ true) × Has x.drawn ask.admission) (λ v u step answer of acted own. (acted.stays.same_numbers ∙ own.0, subst (λ (d : List ℕ). Has d ask.admission) (sym acted.drawn) own.1)) result s t run (on, drawn)

  -- the uses of an unused number in a history are what these calls added, where none is another's
  uses_added : (refusal : Refusal) (s t : State B) (run : Admits calls ask (Err refusal) s t) → uses ask.admission s.view.mine ≡ [] → OnlyOf t.view.actor (uses ask.admission t.view.history)
      → uses ask.admission t.view.history ≡ uses ask.admission (keeps_fails calls ask run.cause s run.broken run.fails).more
  uses_added refusal s t run before own =
      let v = s.view in
      let u = t.view in
      let a = ask.admission in
      let p : Entry → Bool = λ e. is_use_of a e.change in
      let keeps = keeps_fails calls ask run.cause s run.broken run.fails in
      let last = entries_by run.broken.view.actor (written run.answer) in
      let end = ended refusal s t run keeps (chain_quiet run.cause run.answer run.broken.view u run.unwinds) in
      let mine : uses a u.history ≡ uses a u.mine = sym (own_all u.actor (uses a u.history) own) ∙ (filters (λ (e : Entry). e.actor == u.actor) p u.history ∙ ap (uses a) (sym run.unwinds.stays.follows.mine)) in
      let added_is : uses a u.mine ≡ uses a (added v u) =
      ap (uses a) end.mine ∙ (filter-append p v.mine (keeps.more ++ last) ∙ (ap (λ (l : List Entry). l ++ uses a (keeps.more ++ last)) before ∙ ap (uses a) (sym end.is))) in
      mine ∙ (added_is ∙ end.same)

  -- no stream was ever added under an unused number whose admission was refused
  no_streams : (refusal : Refusal) (s t : State B) (run : Admits calls ask (Err refusal) s t) → uses ask.admission s.view.mine ≡ [] → OnlyOf t.view.actor (uses ask.admission t.view.history) → streams_under ask.admission t.view.history ≡ []
  no_streams refusal s t run before own =
      let a = ask.admission in
      let keeps = keeps_fails calls ask run.cause s run.broken run.fails in
      sym (streams_in_uses a t.view.history)
      ∙ (ap (streams_under a) (uses_added refusal s t run before own) ∙ own_streams s.view.actor ask.session a (uses a keeps.more) (all_filter (IsOwn s.view.actor ask.session a) (λ (e : Entry). is_use_of a e.change) keeps.more keeps.own))

  pub leaves_nothing_drawn : RefusalsLeaveNothingDrawn calls ask
  leaves_nothing_drawn refusal s t run on unused =
      let u = t.view in
      let a = ask.admission in
      let knows = knows_still (Err refusal) s t run on unused.drawn in
      let used = run.unwinds.stays.used in
      let follows = run.unwinds.stays.follows.is in
      let own : OnlyOf u.actor (uses a u.history) = used.own knows.0 a knows.1 in
      let streams = no_streams refusal s t run unused.unused own in
      let others : OnlyOf u.actor (uses a u.seen) = only_part u.actor (uses a u.seen) (uses a u.history) (used.backed a streams) own in
      let alone = uses_alone refusal s t run unused.unused others in
      let gone = gone_alone refusal s t run alone in
      let same : book_of u.seen ≡ book_of u.history = sym follows.book in
      record {
        journal = leaves_nothing refusal s t run alone;
        history = nothing_left u.whole ask.session a u.history follows.legal (record {
          others = λ q apart. subst (λ (b : Book). Within a None None (get b q)) same (gone.left.others q apart);
          own = subst (λ (b : Book). Within a None None (get b ask.session)) same gone.left.own;
          no_add = no_adds_in a u.history streams;
        });
        session = session_gone u.whole (chain_left ask run.cause).opened s.view u u.history follows.legal (few_opened refusal s t run) (λ opened. ap (λ (b : Book). get b ask.session) (sym same) ∙ gone.gone opened);
      }
