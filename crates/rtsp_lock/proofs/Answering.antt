-- What a call promises, from what it found and what it put back.
use mathlib.Core.List.{IsPrefix}
use Rattle.std.proofs.Common.{◌≡◌, Bool, true, ◌⊎◌, ℕ, ◌+◌, ◌-◌, ◌≤◌, ◌<◌, ⊎_elim, inl, inr, List, [], ◌∷◌, ◌++◌, length, drop, ap, sym, ◌∙◌, subst, arith, append-nil, le_refl, refl, Option, Result, Ok, Err, IfOk, OnErr}
use Rattle.std.proofs.Math.Seq.{drop-append_seam}
use Rattle.std.proofs.Math.ListN.{drop_of_length-le}
use Rattle.atomic_table.specs.Table.{Me}
use Rattle.rtsp_record.specs.declared.holdings.Whole.{Whole}
use Rattle.rtsp_record.specs.declared.changes.Entry.{Entry}
use Rattle.rtsp_record.specs.declared.changes.Record.{Record}
use Rattle.rtsp_record.specs.Books.{book_of}
use Rattle.rtsp_record.specs.Sums.{owed, returns}
use Rattle.rtsp_record.proofs.Sound.{amount-empty}
use Rattle.std.specs.FinMap.{empty}
use Rattle.rtsp_record.specs.Rules.{IsLegal}
use Rattle.rtsp_record.specs.Journals.{less_ended}
use Rattle.rtsp_book.specs.declared.steps.Step.{Step}
use Rattle.rtsp_book.specs.declared.refusals.Refusal.{Refusal}
use Rattle.rtsp_book.specs.declared.kept.NumbersSpent.{NumbersSpent}
use Rattle.rtsp_book.specs.Kept.{History, history, entries_by, extended, shortened, forgotten}
use Rattle.rtsp_book.proofs.LeavingOut.{either_way}
use Rattle.rtsp_book.specs.Answers.{Answers, written, noted_by}
use Rattle.rtsp_lock.specs.declared.view.View.{View}
use Rattle.rtsp_lock.specs.Entries.{entries_of, OnlyOf, Later, LeftOf, IsHistoryOf, Has}
use Rattle.rtsp_lock.specs.Numbers.{uses, is_use_of, UnderThese, MayName, IsBacked, UsedBy, IsUnusedFrom}
use Rattle.rtsp_lock.specs.Rule.{Fits, Leaves, Abreast, first_view}
use Rattle.rtsp_lock.specs.Steps.{Follows, holding, noting, settled, parent, child, numbers}
use Rattle.rtsp_lock.specs.Calls.{Found, Stays, Acted, Looked, Drew, Made, Forgot}
use Rattle.rtsp_lock.proofs.Entries.{prefix_self, later_self, left_own, left_ended, left_none, only_by, only_more, only_none, only_passing, has_append, has_numbers}
use Rattle.rtsp_lock.proofs.Holder.{ended_shorter}
use Rattle.rtsp_lock.proofs.Histories.{history_more, history_ended, history_same, own_more}
use Rattle.rtsp_lock.proofs.Abreast.{abreast_more, abreast_same, abreast_later}
use Rattle.rtsp_lock.proofs.Backing.{backed_more, backed_still, backed_ended}
use Rattle.rtsp_lock.proofs.Using.{answered_under, under_none}
use Rattle.rtsp_lock.proofs.Naming.{names_drawn}

-- the view of a seat that is known
pub view_is : {m m' : Me (Option History) View} → m ≡ m' → m.0 ≡ m'.0
view_is e = ap (λ (m : Me (Option History) View). m.0) e

-- a book as the calls of `Kept` leave it: legal, and within its limit
pub record Lawful (k : History) : Type 0 where
  pub legal : IsLegal k.whole k.journal
  pub limit : length k.journal + owed (book_of k.journal) ≤ k.whole.journal

-- a book that is lawful, of this whole
lawful_in : (w : Whole) (k : History) → k.whole ≡ w → Lawful k → IsLegal w k.journal × (length k.journal + owed (book_of k.journal) ≤ w.journal)
lawful_in w k whole lawful = subst (λ (x : Whole). IsLegal x k.journal × (length k.journal + owed (book_of k.journal) ≤ x.journal)) whole (lawful.legal, lawful.limit)

-- what a seat found
pub finds : (v : View) (k : History) → k.whole ≡ v.whole → Lawful k → Fits v.whole k.journal k.next k.rounds v → Found v k.journal k.rounds
finds v k whole lawful fits = let l = lawful_in v.whole k whole lawful in record { legal = l.0; limit = l.1; later = fits.later; mine = fits.mine }

-- the view of a seat that holds a book
abbrev pub held_as : View → List Entry → History → View
held_as v s k = holding v s k.journal k.next k.rounds

-- the view of a seat that notes a book
abbrev pub noted_as : View → History → View
noted_as v k = noting v k.journal k.next k.rounds

-- the view of a seat that found a book and left another one with entries of its own
pub record After (v v' : View) (s : List Entry) (k k' : History) (es : List Entry) : Type 0 where
  pub whole : v'.whole ≡ v.whole
  pub actor : v'.actor ≡ v.actor
  pub seen : v'.seen ≡ k'.journal
  pub rounds : v'.seen_rounds ≡ k'.rounds
  pub mine : v'.mine ≡ v.mine ++ es
  pub next : v'.next ≡ k'.next
  pub history : v'.history ≡ s ++ es
  pub drawn : IsPrefix v.drawn v'.drawn
  pub alone : v'.alone ≡ v.alone
  pub cut : v'.cut ≡ v.cut
  pub same_numbers : v'.numbers_drawn ≡ v.numbers_drawn
  pub drew : (n : ℕ) → Has v'.drawn n → Has v.drawn n ⊎ (k.next ≤ n)

-- what stands in the numbers from one on, behind others, is one of those or none below it
drew_from : (drawn : List ℕ) (from next : ℕ) (now : List ℕ) → now ≡ drawn ++ numbers from (next - from) → (n : ℕ) → Has now n → Has drawn n ⊎ (from ≤ n)
drew_from drawn from next now is n has =
    ⊎_elim (λ (old : Has drawn n). inl old) (λ (new : Has (numbers from (next - from)) n). inr (has_numbers from (next - from) n new).0) (has_append drawn (numbers from (next - from)) n (subst (λ (l : List ℕ). Has l n) is has))

-- no number stands in none
drew_none : (drawn : List ℕ) (from below : ℕ) (now : List ℕ) → now ≡ drawn ++ numbers from (from - from) → (n : ℕ) → Has now n → Has drawn n ⊎ (below ≤ n)
drew_none drawn from below now is n has =
    ⊎_elim (λ (old : Has drawn n). inl old) (λ (new : Has (numbers from (from - from)) n). let b = has_numbers from (from - from) n new in absurd (omega (arith, b.0, b.1))) (has_append drawn (numbers from (from - from)) n (subst (λ (l : List ℕ). Has l n) is has))

pub after : (v v' v1 v2 : View) (s : List Entry) (k k' : History) (es : List Entry) → v1 ≡ held_as v s k → v2 ≡ noted_as v1 k' → v' ≡ settled v2 → drop (length k.journal) k'.journal ≡ es
    → After v v' s k k' es × (v'.drawn ≡ v.drawn ++ numbers k.next (k'.next - k.next))
after v v' v1 v2 s k k' es held noted put more =
    let e : v' ≡ settled (noted_as (held_as v s k) k') = put ∙ ap settled (noted ∙ ap (λ (x : View). noted_as x k') held) in (
      record {
        whole = ap (λ (x : View). x.whole) e;
        actor = ap (λ (x : View). x.actor) e;
        seen = ap (λ (x : View). x.seen) e;
        rounds = ap (λ (x : View). x.seen_rounds) e;
        mine = ap (λ (x : View). x.mine) e ∙ ap (λ (l : List Entry). v.mine ++ l) more;
        next = ap (λ (x : View). x.next) e;
        history = ap (λ (x : View). x.history) e ∙ ap (λ (l : List Entry). s ++ l) more;
        drawn = (numbers k.next (k'.next - k.next), sym (ap (λ (x : View). x.drawn) e));
        alone = ap (λ (x : View). x.alone) e;
        cut = ap (λ (x : View). x.cut) e;
        same_numbers = ap (λ (x : View). x.numbers_drawn) e;
        drew = drew_from v.drawn k.next k'.next v'.drawn (ap (λ (x : View). x.drawn) e);
      },
      ap (λ (x : View). x.drawn) e,
    )

-- the same, told of the seat as it was before
pub after_alone : {v v' : View} {s : List Entry} {k k' : History} {es : List Entry} → After v v' s k k' es → After v (record v' { alone = v.alone; cut = v.cut }) s k k' es
after_alone a = record { whole = a.whole; actor = a.actor; seen = a.seen; rounds = a.rounds; mine = a.mine; next = a.next; history = a.history; drawn = a.drawn; alone = refl; cut = refl; same_numbers = a.same_numbers; drew = a.drew }

-- what stands behind what was found, where entries were added
pub added_is : (j j' es : List Entry) → j' ≡ j ++ es → drop (length j) j' ≡ es
added_is j j' es more = ap (λ (l : List Entry). drop (length j) l) more ∙ drop-append_seam j es

-- where the journal is the same
pub same_is : (j j' : List Entry) → j' ≡ j → drop (length j) j' ≡ []
same_is j j' same = added_is j j' [] (same ∙ sym (append-nil j))

-- where ended sessions were forgotten
pub ended_is : (j j' : List Entry) → j' ≡ less_ended j → drop (length j) j' ≡ []
ended_is j j' ended = ap (λ (l : List Entry). drop (length j) l) ended ∙ drop_of_length-le (less_ended j) (ended_shorter j)

-- where nothing is noted, what was found is what is left
pub unnoted : (v v1 : View) (s : List Entry) (k : History) → v1 ≡ held_as v s k → v1 ≡ noted_as v1 k
unnoted v v1 s k held = held ∙ sym (ap (λ (x : View). noted_as x k) held)

-- the same where a seat was made
pub after_cut : (v v' v1 v2 v3 : View) (s : List Entry) (k k' : History) → v1 ≡ held_as v s k → v2 ≡ noted_as v1 k' → v3 ≡ parent v2 → v' ≡ settled v3 → k'.journal ≡ k.journal → After v (record v' { alone = v.alone; cut = v.cut }) s k k' []
after_cut v v' v1 v2 v3 s k k' held noted cut put same =
    let e : v' ≡ settled (parent (noted_as (held_as v s k) k')) = put ∙ ap settled (cut ∙ ap parent (noted ∙ ap (λ (x : View). noted_as x k') held)) in
    record {
      whole = ap (λ (x : View). x.whole) e;
      actor = ap (λ (x : View). x.actor) e;
      seen = ap (λ (x : View). x.seen) e;
      rounds = ap (λ (x : View). x.seen_rounds) e;
      mine = ap (λ (x : View). x.mine) e ∙ ap (λ (l : List Entry). v.mine ++ l) (same_is k.journal k'.journal same);
      next = ap (λ (x : View). x.next) e;
      history = ap (λ (x : View). x.history) e ∙ ap (λ (l : List Entry). s ++ l) (same_is k.journal k'.journal same);
      drawn = (numbers k'.next (k'.next - k'.next), sym (ap (λ (x : View). x.drawn) e));
      alone = refl;
      cut = refl;
      same_numbers = ap (λ (x : View). x.numbers_drawn) e;
      drew = drew_none v.drawn k'.next k.next v'.drawn (ap (λ (x : View). x.drawn) e);
    }

-- what a seat has follows once its own entries stand behind the history
follows_now : (v v' : View) (s : List Entry) (k k' : History) (es : List Entry) → After v v' s k k' es → Follows v s k.journal → IsHistoryOf v.whole (s ++ es) k'.journal → OnlyOf v.actor es → Follows v' v'.history v'.seen
follows_now v v' s k k' es a follows told own = record {
  is = subst (λ (j : List Entry). IsHistoryOf v'.whole v'.history j) (sym a.seen) (subst (λ (l : List Entry). IsHistoryOf v'.whole l k'.journal) (sym a.history) (subst (λ (w : Whole). IsHistoryOf w (s ++ es) k'.journal) (sym a.whole) told));
  begins = prefix_self v'.history;
  mine = a.mine ∙ (ap (λ (l : List Entry). l ++ es) follows.mine ∙ (own_more v.actor s es own ∙ (λ i. entries_of (sym a.actor i) (sym a.history i))));
}

-- what a seat found of uses, in the history of the journal found
pub record Uses (v : View) (s : List Entry) (k : History) : Type 0 where
  pub used : UsedBy v s k.journal
  pub unused : IsUnusedFrom k.next v s

-- none but the seat uses its numbers once its own entries stand behind the history
used_now : (v v' : View) (s : List Entry) (k k' : History) (es : List Entry) → After v v' s k k' es → Uses v s k → OnlyOf v.actor es → IsBacked (s ++ es) k'.journal → UsedBy v' v'.history v'.seen
used_now v v' s k k' es a u own backed = record {
  own = λ on n has.
      let was : v.numbers_drawn ≡ true = sym a.same_numbers ∙ on in
      let before : OnlyOf v.actor (uses n s) =
      ⊎_elim (λ (old : Has v.drawn n). u.used.own was n old) (λ (le : k.next ≤ n). only_none v.actor (uses n s) (u.unused was n le)) (a.drew n has) in
      let all : OnlyOf v.actor (uses n (s ++ es)) =
      only_more v.actor (λ (e : Entry). is_use_of n e.change) s es before (only_passing v.actor (λ (e : Entry). is_use_of n e.change) es own) in
      subst (λ (l : List Entry). OnlyOf v'.actor (uses n l)) (sym a.history) (subst (λ (actor : ℕ). OnlyOf actor (uses n (s ++ es))) (sym a.actor) all);
  backed = subst (IsBacked v'.history) (sym a.seen) (subst (λ (l : List Entry). IsBacked l k'.journal) (sym a.history) backed);
}

-- what stays of a seat
pub stays : (v v' : View) (s : List Entry) (k k' : History) (es : List Entry) → After v v' s k k' es → Follows v s k.journal → IsHistoryOf v.whole (s ++ es) k'.journal → OnlyOf v.actor es → k'.whole ≡ v.whole → Lawful k' → Fits v.whole k.journal k.next k.rounds v → LeftOf (v.mine ++ es) (entries_of v.actor k'.journal) → k.next ≤ k'.next
    → Abreast v k'.rounds k'.journal (s ++ es)
    → Uses v s k
    → IsBacked (s ++ es) k'.journal
    → Stays v v'
stays v v' s k k' es a follows told own whole lawful fits left up abreast used backed =
    let same : k'.whole ≡ v'.whole = whole ∙ sym a.whole in
    let l = lawful_in v'.whole k' same lawful in
    let le = fits.next in
    let next = a.next in
    let mine : LeftOf v'.mine (entries_of v'.actor k'.journal) =
    subst (λ (m : List Entry). LeftOf m (entries_of v'.actor k'.journal)) (sym a.mine)
    (subst (λ (n : ℕ). LeftOf (v.mine ++ es) (entries_of n k'.journal)) (sym a.actor) left) in
    let later : Later v'.seen_rounds v'.seen k'.rounds k'.journal =
    subst (λ (j : List Entry). Later v'.seen_rounds j k'.rounds k'.journal) (sym a.seen) (subst (λ (q : ℕ). Later q k'.journal k'.rounds k'.journal) (sym a.rounds) (later_self k'.rounds k'.journal)) in
    record {
      whole = a.whole;
      actor = a.actor;
      next = omega (arith, le, up, next);
      drawn = a.drawn;
      cut = a.cut;
      stands = subst (λ (j : List Entry). Found v' j v'.seen_rounds) (sym a.seen) (subst (λ (q : ℕ). Found v' k'.journal q) (sym a.rounds) (record { legal = l.0; limit = l.1; later = later; mine = mine }));
      follows = follows_now v v' s k k' es a follows told own;
      abreast = subst (λ (j : List Entry). Abreast v v'.seen_rounds j v'.history) (sym a.seen)
          (subst (λ (q : ℕ). Abreast v q k'.journal v'.history) (sym a.rounds) (subst (λ (l : List Entry). Abreast v k'.rounds k'.journal l) (sym a.history) abreast));
      same_numbers = a.same_numbers;
      used = used_now v v' s k k' es a used own backed;
    }

-- what an act leaves, accepted or refused
pub act_leaves : (k k' : History) (actor : ℕ) (answer : Result (List Record) Refusal) → k' ≡ noted_by actor k answer → k' ≡ extended k actor (written answer)
act_leaves k k' actor (Ok made) noted = noted
act_leaves k k' actor (Err r) noted = noted ∙ ap (λ (j : List Entry). history k.whole j k.next k.rounds) (sym (append-nil k.journal))

pub numbers_none : (a b : ℕ) → b ≡ a → numbers a (b - a) ≡ []
numbers_none a b e = let none : b - a ≡ 0 = omega (arith, e) in ap (numbers a) none

numbers_one : (a b : ℕ) → b ≡ a + 1 → numbers a (b - a) ≡ a ∷ []
numbers_one a b e = let one : b - a ≡ 1 = omega (arith, e) in ap (numbers a) one

-- a seat's turn: it holds a book, notes what it leaves, and puts that back
pub record Turn (v v1 v2 v' : View) (s : List Entry) (k k' : History) : Type 0 where
  pub held : v1 ≡ held_as v s k
  pub follows : Follows v s k.journal
  pub noted : v2 ≡ noted_as v1 k'
  pub put : v' ≡ settled v2
  pub whole : k.whole ≡ v.whole
  pub lawful : Lawful k
  pub left : Lawful k'
  pub fits : Fits v.whole k.journal k.next k.rounds v
  pub alone : v.alone ≡ true → k.journal ≡ v.seen
  pub abreast : Abreast v k.rounds k.journal s
  pub used : Uses v s k

-- a turn in which a step was answered
pub acts : {v v1 v2 v' : View} {s : List Entry} {k k' : History} (actor : ℕ) (step : Step) (answer : Result (List Record) Refusal) → Turn v v1 v2 v' s k k' → actor ≡ v.actor → Answers k.whole k.journal step answer → k' ≡ noted_by actor k answer → Acted v v' step answer
acts {v = v} {v1 = v1} {v2 = v2} {v' = v'} {s = s} {k = k} {k' = k'} actor step answer t is answers noted =
    let leaves = act_leaves k k' actor answer noted in
    let es = entries_by v.actor (written answer) in
    let more : k'.journal ≡ k.journal ++ es = ap (λ (h : History). h.journal) leaves ∙ ap (λ (n : ℕ). k.journal ++ entries_by n (written answer)) is in
    let same : k'.next ≡ k.next = ap (λ (h : History). h.next) leaves in
    let of : k'.whole ≡ v.whole = ap (λ (h : History). h.whole) leaves ∙ t.whole in
    let own = only_by v.actor (written answer) in
    let told : IsHistoryOf v.whole (s ++ es) k'.journal =
    subst (λ (j : List Entry). IsHistoryOf v.whole (s ++ es) j) (sym more) (history_more v.whole s k.journal es t.follows.is (subst (IsLegal v.whole) more (lawful_in v.whole k' of t.left).0)) in
    let a = after v v' v1 v2 s k k' es t.held t.noted t.put (added_is k.journal k'.journal es more) in
    let rounds : v'.seen_rounds ≡ k.rounds = a.0.rounds ∙ ap (λ (h : History). h.rounds) leaves in
    let left : LeftOf (v.mine ++ es) (entries_of v.actor k'.journal) =
    subst (λ (j : List Entry). LeftOf (v.mine ++ es) (entries_of v.actor j)) (sym more) (left_own v.actor v.mine k.journal es t.fits.mine (only_by v.actor (written answer))) in
    record {
      journal = k.journal;
      found = subst (λ (q : ℕ). Found v k.journal q) (sym rounds) (finds v k t.whole t.lawful t.fits);
      answers = subst (λ (w : Whole). Answers w k.journal step answer) t.whole answers;
      seen = a.0.seen ∙ more;
      history = s;
      follows = t.follows;
      goes_on = a.0.history;
      mine = a.0.mine;
      drawn = a.1 ∙ (ap (λ (l : List ℕ). v.drawn ++ l) (numbers_none k.next k'.next same) ∙ append-nil v.drawn);
      alone = record { found = t.alone; still = a.0.alone };
      stays = stays v v' s k k' es a.0 t.follows told own of t.left t.fits left (omega (arith, same))
          (subst (λ (j : List Entry). Abreast v k'.rounds j (s ++ es)) (sym more) (abreast_more v k.rounds k'.rounds k.journal s es (ap (λ (h : History). h.rounds) leaves) t.abreast))
          t.used (subst (IsBacked (s ++ es)) (sym more) (backed_more s k.journal es t.used.used.backed));
    }

-- a book as it was, but that its next number may be greater
pub record Kept_as (k k' : History) : Type 0 where
  pub journal : k'.journal ≡ k.journal
  pub whole : k'.whole ≡ k.whole
  pub rounds : k'.rounds ≡ k.rounds
  pub up : k.next ≤ k'.next

-- a look leaves the book as it is
look_leaves : (k : History) → Kept_as k k
look_leaves k = record { journal = refl; whole = refl; rounds = refl; up = le_refl k.next }

-- a draw, accepted or refused
pub draw_leaves : (k k' : History) (drawn : Result ℕ NumbersSpent) (most : ℕ) → IfOk drawn (λ n. (n ≡ k.next) × (n < most) × (k' ≡ record k { next = n + 1 })) → OnErr drawn ((k.next ≡ most) × (k' ≡ k)) → Kept_as k k'
draw_leaves k k' (Ok n) most ok err =
    let is = ok.0 in
    let next : k'.next ≡ n + 1 = ap (λ (h : History). h.next) ok.2 in
    record { journal = ap (λ (h : History). h.journal) ok.2; whole = ap (λ (h : History). h.whole) ok.2; rounds = ap (λ (h : History). h.rounds) ok.2; up = omega (arith, is, next) }
draw_leaves k k' (Err e) most ok err = record { journal = ap (λ (h : History). h.journal) err.1; whole = ap (λ (h : History). h.whole) err.1; rounds = ap (λ (h : History). h.rounds) err.1; up = let same : k'.next ≡ k.next = ap (λ (h : History). h.next) err.1 in omega (arith, same) }

-- a call that leaves the journal as it is
pub looks : (v v' : View) (s : List Entry) (k k' : History) → After v v' s k k' [] → Follows v s k.journal → k.whole ≡ v.whole → Lawful k → Lawful k' → Fits v.whole k.journal k.next k.rounds v → (v.alone ≡ true → k.journal ≡ v.seen)
    → Abreast v k.rounds k.journal s
    → Uses v s k
    → Kept_as k k'
    → Looked v v'
looks v v' s k k' a follows whole lawful lawful' fits alone abreast used leaves =
    let same : v'.history ≡ s = a.history ∙ append-nil s in
    let told : IsHistoryOf v.whole (s ++ []) k'.journal = history_same v.whole s k'.journal (subst (λ (j : List Entry). IsHistoryOf v.whole s j) (sym leaves.journal) follows.is) in
    let left : LeftOf (v.mine ++ []) (entries_of v.actor k'.journal) =
    subst (λ (m : List Entry). LeftOf m (entries_of v.actor k'.journal)) (sym (append-nil v.mine)) (subst (λ (j : List Entry). LeftOf v.mine (entries_of v.actor j)) (sym leaves.journal) fits.mine) in
    record {
      journal = k.journal;
      found = subst (λ (q : ℕ). Found v k.journal q) (sym (a.rounds ∙ leaves.rounds)) (finds v k whole lawful fits);
      seen = a.seen ∙ leaves.journal;
      follows = subst (λ (l : List Entry). Follows v l k.journal) (sym same) follows;
      mine = a.mine ∙ append-nil v.mine;
      alone = record { found = alone; still = a.alone };
      stays = stays v v' s k k' [] a follows told tt (leaves.whole ∙ whole) lawful' fits left leaves.up (abreast_same v k.rounds k'.rounds k.journal k'.journal s leaves.rounds leaves.journal abreast)
          used (backed_still s k'.journal (subst (IsBacked s) (sym leaves.journal) used.used.backed));
    }

-- a turn in which ended sessions were forgotten
pub forgets : {v v1 v2 v' : View} {s : List Entry} {k k' : History} → Turn v v1 v2 v' s k k' → k' ≡ forgotten k → Forgot v v'
forgets {v = v} {v1 = v1} {v2 = v2} {v' = v'} {s = s} {k = k} {k' = k'} t is = ⊎_elim (λ (e : forgotten k ≡ k). same (is ∙ e)) (λ (e : forgotten k ≡ shortened k). shorter (is ∙ e)) (either_way k)
  where
    told_after : (j : List Entry) → k'.journal ≡ j → IsHistoryOf v.whole s j → IsHistoryOf v.whole (s ++ []) k'.journal
    told_after j is told = history_same v.whole s k'.journal (subst (λ (l : List Entry). IsHistoryOf v.whole s l) (sym is) told)

    leave : (of : k'.whole ≡ k.whole) (next : k'.next ≡ k.next) (none : drop (length k.journal) k'.journal ≡ []) (left : LeftOf v.mine (entries_of v.actor k'.journal)) (told : IsHistoryOf v.whole (s ++ []) k'.journal) (abreast : Abreast v k'.rounds k'.journal (s ++ [])) (backed : IsBacked s k'.journal) → Forgot v v'
    leave of next none left told abreast backed =
        let a = after v v' v1 v2 s k k' [] t.held t.noted t.put none in
        let whole : k'.whole ≡ v.whole = of ∙ t.whole in
        let found : history v'.whole v'.seen v'.next v'.seen_rounds ≡ k' = λ i. history ((a.0.whole ∙ sym whole) i) (a.0.seen i) (a.0.next i) (a.0.rounds i) in
        let old : k ≡ history v.whole k.journal v'.next k.rounds = λ i. history (t.whole i) k.journal ((sym (a.0.next ∙ next)) i) k.rounds in
        record {
          journal = k.journal;
          rounds = k.rounds;
          found = finds v k t.whole t.lawful t.fits;
          forgets = found ∙ (is ∙ ap forgotten old);
          follows = subst (λ (l : List Entry). Follows v l k.journal) (sym (a.0.history ∙ append-nil s)) t.follows;
          mine = a.0.mine ∙ append-nil v.mine;
          drawn = a.1 ∙ (ap (λ (l : List ℕ). v.drawn ++ l) (numbers_none k.next k'.next next) ∙ append-nil v.drawn);
          alone = record { found = t.alone; still = a.0.alone };
          stays = stays v v' s k k' [] a.0 t.follows told tt whole t.left t.fits (subst (λ (m : List Entry). LeftOf m (entries_of v.actor k'.journal)) (sym (append-nil v.mine)) left) (omega (arith, next)) abreast t.used (backed_still s k'.journal backed);
        }

    same : k' ≡ k → Forgot v v'
    same e =
        let journal : k'.journal ≡ k.journal = ap (λ (h : History). h.journal) e in
        leave (ap (λ (h : History). h.whole) e) (ap (λ (h : History). h.next) e) (same_is k.journal k'.journal journal) (subst (λ (j : List Entry). LeftOf v.mine (entries_of v.actor j)) (sym journal) t.fits.mine) (told_after k.journal journal t.follows.is)
        (abreast_same v k.rounds k'.rounds k.journal k'.journal s (ap (λ (h : History). h.rounds) e) journal t.abreast)
        (subst (IsBacked s) (sym journal) t.used.used.backed)

    shorter : k' ≡ shortened k → Forgot v v'
    shorter e =
        let journal : k'.journal ≡ less_ended k.journal = ap (λ (h : History). h.journal) e in
        leave (ap (λ (h : History). h.whole) e) (ap (λ (h : History). h.next) e) (ended_is k.journal k'.journal journal) (subst (λ (j : List Entry). LeftOf v.mine (entries_of v.actor j)) (sym journal) (left_ended v.actor v.mine k.journal t.fits.mine)) (told_after (less_ended k.journal) journal (history_ended v.whole s k.journal t.follows.is (lawful_in v.whole k t.whole t.lawful).0))
        (abreast_later v k.rounds k'.rounds k'.journal (s ++ []) t.fits.later.rounds (ap (λ (h : History). h.rounds) e))
        (subst (IsBacked s) (sym journal) (backed_ended s k.journal t.used.used.backed))

pub draws : (v v' v1 v2 : View) (s : List Entry) (k k' : History) (drawn : Result ℕ NumbersSpent) (most : ℕ) → v1 ≡ held_as v s k → v2 ≡ noted_as v1 k' → v' ≡ settled v2 → Fits v.whole k.journal k.next k.rounds v → k'.journal ≡ k.journal
    → IfOk drawn (λ n. (n ≡ k.next) × (n < most) × (k' ≡ record k { next = n + 1 })) → IfOk drawn (λ n. Drew v v' n)
draws v v' v1 v2 s k k' (Err e) most held noted put fits same ok = ok
draws v v' v1 v2 s k k' (Ok n) most held noted put fits same ok =
    let is = ok.0 in
    let next : k'.next ≡ n + 1 = ap (λ (h : History). h.next) ok.2 in
    let a = after v v' v1 v2 s k k' [] held noted put (same_is k.journal k'.journal same) in
    let one : numbers k.next (k'.next - k.next) ≡ n ∷ [] = numbers_one k.next k'.next (omega (arith, is, next)) ∙ ap (λ (x : ℕ). x ∷ []) (sym is) in
    let le = fits.next in
    record {
      fresh = λ h. let lt = fits.drawn n h in absurd (omega (arith, lt, is));
      up = omega (arith, le, is);
      drawn = a.1 ∙ ap (λ (l : List ℕ). v.drawn ++ l) one;
      next = a.0.next ∙ next;
    }

pub makes : (v v' v1 v2 v3 u : View) (s : List Entry) (k k' : History) (n most : ℕ) → v1 ≡ held_as v s k → v2 ≡ noted_as v1 k' → v3 ≡ parent v2 → v' ≡ settled v3 → u ≡ child v2 → k.whole ≡ v.whole → Lawful k → Fits v.whole k.journal k.next k.rounds v
    → ((a : ℕ) → k.next ≤ a → entries_of a k.journal ≡ []) → Follows v s k.journal → ((a : ℕ) → k.next ≤ a → entries_of a s ≡ []) → (n ≡ k.next) × (n < most) × (k' ≡ record k { next = n + 1 }) → Made v v' u
makes v v' v1 v2 v3 u s k k' n most held noted cut put made whole lawful fits fresh follows new ok =
    let e : v2 ≡ noted_as (held_as v s k) k' = noted ∙ ap (λ (x : View). noted_as x k') held in
    let f : u ≡ child (noted_as (held_as v s k) k') = made ∙ ap child e in
    let p : v' ≡ settled (parent (noted_as (held_as v s k) k')) = put ∙ ap settled (cut ∙ ap parent e) in
    let is : u.actor ≡ k.next = ap (λ (x : View). x.actor) f in
    let next : v'.next ≡ k'.next = ap (λ (x : View). x.next) p in
    let up : k'.next ≡ n + 1 = ap (λ (h : History). h.next) ok.2 in
    let n_is = ok.0 in
    let lt = fits.actor in
    let le = fits.next in
    let seen : u.seen ≡ k.journal = ap (λ (x : View). x.seen) f in
    let rounds : u.seen_rounds ≡ k.rounds = ap (λ (x : View). x.seen_rounds) f in
    let of : u.whole ≡ v.whole = ap (λ (x : View). x.whole) f in
    let mine : u.mine ≡ [] = ap (λ (x : View). x.mine) f in
    let history : u.history ≡ s = ap (λ (x : View). x.history) f in
    let goes : v'.history ≡ s = ap (λ (x : View). x.history) p ∙ (ap (λ (l : List Entry). s ++ l) (same_is k.journal k'.journal (ap (λ (h : History). h.journal) ok.2)) ∙ append-nil s) in
    let l = lawful_in u.whole k (whole ∙ sym of) lawful in
    let left : LeftOf u.mine (entries_of u.actor k.journal) = subst (λ (m : List Entry). LeftOf m (entries_of u.actor k.journal)) (sym mine) (left_none u.actor k.journal (fresh u.actor (omega (arith, is)))) in
    record {
      whole = of;
      other = λ same. absurd (omega (arith, is, same, lt));
      fresh = λ h. let b = fits.drawn u.actor h in absurd (omega (arith, is, b));
      up = omega (arith, is, le);
      next = omega (arith, next, up, n_is, is);
      same_next = ap (λ (x : View). x.next) f ∙ sym next;
      seen = seen ∙ (sym (ap (λ (h : History). h.journal) ok.2) ∙ sym (ap (λ (x : View). x.seen) p));
      rounds = rounds ∙ (sym (ap (λ (h : History). h.rounds) ok.2) ∙ sym (ap (λ (x : View). x.seen_rounds) p));
      history = history ∙ sym goes;
      follows = record {
        is = subst (λ (j : List Entry). IsHistoryOf u.whole u.history j) (sym seen) (subst (λ (l : List Entry). IsHistoryOf u.whole l k.journal) (sym history) (subst (λ (w : Whole). IsHistoryOf w s k.journal) (sym of) follows.is));
        begins = prefix_self u.history;
        mine = mine ∙ (sym (new u.actor (omega (arith, is))) ∙ ap (entries_of u.actor) (sym history));
      };
      mine = mine;
      drawn = ap (λ (x : View). x.drawn) f;
      cut = ap (λ (x : View). x.cut) p ∙ ap (λ (a : ℕ). v.cut ++ a ∷ []) (sym is);
      uncut = ap (λ (x : View). x.cut) f;
      alone = (ap (λ (x : View). x.alone) p, ap (λ (x : View). x.alone) f);
      same_numbers = ap (λ (x : View). x.numbers_drawn) f;
      stands = subst (λ (j : List Entry). Found u j u.seen_rounds) (sym seen) (record {
        legal = l.0;
        limit = l.1;
        later = subst (λ (j : List Entry). Later u.seen_rounds j u.seen_rounds k.journal) (sym seen) (later_self u.seen_rounds k.journal);
        mine = left;
      });
    }

-- a seat that forgot notes what it left
pub forget_leaves : (v v1 : View) (s : List Entry) (k k' : History) → v1 ≡ held_as v s k → k' ≡ forgotten k → Leaves (noted_as v1 k') v1.found v1.found_rounds
forget_leaves v v1 s k k' held is =
    let found : v1.found ≡ k.journal = ap (λ (x : View). x.found) held in
    let rounds : v1.found_rounds ≡ k.rounds = ap (λ (x : View). x.found_rounds) held in
    ⊎_elim
    (λ (e : forgotten k ≡ k).
    let same : k' ≡ k = is ∙ e in
    inl (record { more = []; left = ap (λ (h : History). h.journal) same ∙ sym found ∙ sym (append-nil v1.found); own = tt; used = λ _. under_none v1.drawn [] refl; rounds = ap (λ (h : History). h.rounds) same ∙ sym rounds }))
    (λ (e : forgotten k ≡ shortened k).
    let shorter : k' ≡ shortened k = is ∙ e in
    inr (inl (record { left = ap (λ (h : History). h.journal) shorter ∙ ap less_ended (sym found); rounds = ap (λ (h : History). h.rounds) shorter ∙ ap (λ (n : ℕ). n + 1) (sym rounds) })))
    (either_way k)

-- and puts that back
pub forget_puts : (v v1 v2 : View) (s : List Entry) (k k' : History) → v1 ≡ held_as v s k → v2 ≡ noted_as v1 k' → k.whole ≡ v.whole → k' ≡ forgotten k → k' ≡ history v2.whole v2.left v2.left_next v2.left_rounds
forget_puts v v1 v2 s k k' held noted whole is =
    let of : k'.whole ≡ k.whole =
    ap (λ (h : History). h.whole) is
    ∙ ⊎_elim (λ (e : forgotten k ≡ k). ap (λ (h : History). h.whole) e) (λ (e : forgotten k ≡ shortened k). ap (λ (h : History). h.whole) e) (either_way k) in
    let e : v2 ≡ noted_as (held_as v s k) k' = noted ∙ ap (λ (x : View). noted_as x k') held in
    let same : k'.whole ≡ v.whole = of ∙ whole in
    sym (ap (λ (x : View). history x.whole x.left x.left_next x.left_rounds) e ∙ ap (λ (w : Whole). history w k'.journal k'.next k'.rounds) (sym same))

-- a seat that added nothing notes what it left
pub same_leaves : (v v1 : View) (s : List Entry) (k k' : History) → v1 ≡ held_as v s k → Kept_as k k' → Leaves (noted_as v1 k') v1.found v1.found_rounds
same_leaves v v1 s k k' held same =
    inl (record {
      more = [];
      left = same.journal ∙ (sym (ap (λ (x : View). x.found) held) ∙ sym (append-nil v1.found));
      own = tt;
      used = λ _. under_none v1.drawn [] refl;
      rounds = same.rounds ∙ sym (ap (λ (x : View). x.found_rounds) held);
    })

-- a seat that answered a step which it may name notes what it left
pub act_notes : (drawn : Bool) (v v1 : View) (s : List Entry) (k k' : History) (actor : ℕ) (step : Step) (answer : Result (List Record) Refusal) → v1 ≡ held_as v s k → actor ≡ v.actor → MayName drawn v step → Answers k.whole k.journal step answer → k' ≡ noted_by actor k answer → v1.numbers_drawn ≡ drawn
    → Leaves (noted_as v1 k') v1.found v1.found_rounds
act_notes drawn v v1 s k k' actor step answer held is may answers noted known =
    let es = entries_by actor (written answer) in
    let leaves = act_leaves k k' actor answer noted in
    let by : actor ≡ v1.actor = is ∙ sym (ap (λ (x : View). x.actor) held) in
    let drew : v.drawn ≡ v1.drawn = sym (ap (λ (x : View). x.drawn) held) in
    inl (record {
      more = es;
      left = ap (λ (h : History). h.journal) leaves ∙ ap (λ (j : List Entry). j ++ es) (sym (ap (λ (x : View). x.found) held));
      own = subst (λ (n : ℕ). OnlyOf n es) by (only_by actor (written answer));
      used = λ on. subst (λ (l : List ℕ). UnderThese l es) drew (answered_under v.drawn actor k.whole k.journal step answer (names_drawn drawn v step (sym known ∙ on) may) answers);
      rounds = ap (λ (h : History). h.rounds) leaves ∙ sym (ap (λ (x : View). x.found_rounds) held);
    })

-- a look puts back the book that it found, as it was
pub only_looks : {v v1 v' : View} (s : List Entry) (k : History) → v1 ≡ held_as v s k → v' ≡ settled v1 → k ≡ history v.whole k.journal k.next k.rounds → IsLegal k.whole k.journal → length k.journal + owed (book_of k.journal) ≤ k.whole.journal → Fits v.whole k.journal k.next k.rounds v
    → Follows v s k.journal
    → (v.alone ≡ true → k.journal ≡ v.seen)
    → Abreast v k.rounds k.journal s
    → Uses v s k
    → Looked v v'
only_looks {v = v} {v1 = v1} {v' = v'} s k held put value legal limit fits follows alone abreast used =
    let a = after v v' v1 v1 s k k [] held (unnoted v v1 s k held) put (same_is k.journal k.journal refl) in
    let lawful : Lawful k = record { legal = legal; limit = limit } in
    looks v v' s k k a.0 follows (ap (λ (h : History). h.whole) value) lawful lawful fits alone abreast used (look_leaves k)

-- and draws no number
pub look_draws_none : (v v1 v' : View) (s : List Entry) (k : History) → v1 ≡ held_as v s k → v' ≡ settled v1 → v'.drawn ≡ v.drawn
look_draws_none v v1 v' s k held put =
    let a = after v v' v1 v1 s k k [] held (unnoted v v1 s k held) put (same_is k.journal k.journal refl) in
    a.1 ∙ (ap (λ (l : List ℕ). v.drawn ++ l) (numbers_none k.next k.next refl) ∙ append-nil v.drawn)

-- the maker of a seat has drawn what it had
pub cut_draws_none : (v v' v1 v2 v3 : View) (s : List Entry) (k k' : History) → v1 ≡ held_as v s k → v2 ≡ noted_as v1 k' → v3 ≡ parent v2 → v' ≡ settled v3 → v'.drawn ≡ v.drawn
cut_draws_none v v' v1 v2 v3 s k k' held noted cut put =
    let e : v' ≡ settled (parent (noted_as (held_as v s k) k')) = put ∙ ap settled (cut ∙ ap parent (noted ∙ ap (λ (x : View). noted_as x k') held)) in
    ap (λ (x : View). x.drawn) e ∙ (ap (λ (l : List ℕ). v.drawn ++ l) (numbers_none k'.next k'.next refl) ∙ append-nil v.drawn)

-- the view of the seat that opens the lock
pub stands_first : (drawn : Bool) (w : Whole) (v : View) → v ≡ first_view drawn w → Found v [] 0
stands_first drawn w v is =
    let nothing : owed empty ≡ 0 = amount-empty returns in
    subst (λ (x : View). Found x [] 0) (sym is) (record { legal = tt; limit = omega (arith, nothing); later = later_self 0 []; mine = left_none 0 [] refl })

-- and the history that it has follows
pub follows_first : (drawn : Bool) (w : Whole) (v : View) → v ≡ first_view drawn w → Follows v [] []
follows_first drawn w v is = subst (λ (x : View). Follows x [] []) (sym is) (record { is = record { legal = tt; book = refl }; begins = prefix_self []; mine = refl })

-- a seat that made another leaves the journal as it is
pub cut_unchanged : (v v1 v2 : View) (s : List Entry) (k k' : History) → v1 ≡ held_as v s k → v2 ≡ noted_as v1 k' → Kept_as k k' → (v2.left ≡ v2.found) × (v2.left_rounds ≡ v2.found_rounds)
cut_unchanged v v1 v2 s k k' held noted same =
    let e : v2 ≡ noted_as (held_as v s k) k' = noted ∙ ap (λ (x : View). noted_as x k') held in (
      ap (λ (x : View). x.left) e ∙ (same.journal ∙ sym (ap (λ (x : View). x.found) e)),
      ap (λ (x : View). x.left_rounds) e ∙ (same.rounds ∙ sym (ap (λ (x : View). x.found_rounds) e)),
    )
