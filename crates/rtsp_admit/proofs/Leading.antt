-- What a seat's own entries leave under an admission, where ended sessions may be forgotten with what the seat did in them.
use Rattle.std.proofs.Common.{◌≡◌, ◌≢◌, ◌==◌, ℕ, suc, ◌+◌, ◌-◌, ◌≤◌, ◌<◌, Bool, true, false, cond, List, [], ◌∷◌, ◌++◌, length, drop, refl, sym, ◌∙◌, ap, subst, arith, ⊎_elim, append-nil, append_assoc, length-append, eq-eqb, ne_eqb}
use Rattle.std.specs.Prelude.{Option, None, filter}
use Rattle.std.specs.List.{AllByRecursion}
use Rattle.std.specs.FinMap.{get, empty}
use Rattle.std.proofs.lemmas.Bool.{cases_lt}
use Rattle.std.proofs.lemmas.List.{drop-append-le}
use Rattle.std.proofs.lemmas.List.Elements.{filter-append}
use Rattle.std.proofs.Math.ListN.{drop_of_length-le}
use Rattle.std.proofs.Math.Seq.{drop-append-add}
use Rattle.rtsp_record.specs.declared.holdings.Thing.{Thing}
use Rattle.rtsp_record.specs.declared.changes.Record.{Record}
use Rattle.rtsp_record.specs.declared.changes.Entry.{Entry}
use Rattle.rtsp_record.specs.Records.{session_of}
use Rattle.rtsp_record.specs.Books.{Session, effect, records_of, book_of}
use Rattle.rtsp_record.specs.Journals.{strand, is_add_of, HasNoAdd}
use Rattle.rtsp_record.proofs.Strands.{row_after, strand_row}
use Rattle.rtsp_record.proofs.Tables.{get-none}
use Rattle.rtsp_book.proofs.LeavingOut.{records-filter, filter_shorter}
use Rattle.rtsp_book.proofs.Keeping.{records-append}
use Rattle.rtsp_book.proofs.Runs.{row_after-append}
use Rattle.rtsp_lock.specs.Entries.{entries_of, OnlyOf, Part, LeftOf}
use Rattle.rtsp_lock.proofs.Entries.{filters, own_all}
use Rattle.rtsp_lock.specs.Numbers.{is_use_of, uses}
use Rattle.rtsp_admit.proofs.Rows.{Within, Left, count, quiet_row, within_more, no_add_of}

-- Entries left out of a list.

-- what holds of each of a list holds of each of a part of it
all_part : (P : Entry → Type 0) (i j : List Entry) → Part i j → AllByRecursion P j → AllByRecursion P i
all_part P i [] p h = subst (AllByRecursion P) (sym p) tt
all_part P i (e ∷ j) p h =
    ⊎_elim (λ (q : Part i j). all_part P i j q h.1) (λ (q : (rest : List Entry) × (i ≡ e ∷ rest) × Part rest j). subst (AllByRecursion P) (sym q.1) (h.0, all_part P q.0 j q.2 h.1)) p

pub all_filter : (P : Entry → Type 0) (p : Entry → Bool) (j : List Entry) → AllByRecursion P j → AllByRecursion P (filter p j)
all_filter P p [] h = tt
all_filter P p (e ∷ j) h =
    let rest = all_filter P p j h.1 in
    elim (p e) as (λ t. AllByRecursion P (cond t (e ∷ filter p j) (filter p j))) [ true ↦ (h.0, rest) | false ↦ rest ]

pub all_append : (P : Entry → Type 0) (i j : List Entry) → AllByRecursion P i → AllByRecursion P j → AllByRecursion P (i ++ j)
all_append P [] j h g = g
all_append P (e ∷ i) j h g = (h.0, all_append P i j h.1 g)

part_length : (i j : List Entry) → Part i j → length i ≤ length j
part_length i [] p = let same : length i ≡ 0 = ap length p in omega (arith, same)
part_length i (e ∷ j) p =
    ⊎_elim
    (λ (q : Part i j). let le = part_length i j q in omega (arith, le))
    (λ (q : (rest : List Entry) × (i ≡ e ∷ rest) × Part rest j). let le = part_length q.0 j q.2 in let same : length i ≡ suc (length q.0) = ap length q.1 in omega (arith, le, same))
    p

-- a list whose last passing entry is this one, cut at it
record Split (p : Entry → Bool) (j xs : List Entry) (e : Entry) : Type 0 where
  pub first : List Entry
  pub last : List Entry
  pub is : j ≡ first ++ e ∷ last
  pub before : filter p first ≡ xs
  pub after : filter p last ≡ []

abbrev head_of : Entry → List Entry → Entry
head_of d [] = d
head_of d (x ∷ xs) = x

abbrev tail_of : List Entry → List Entry
tail_of [] = []
tail_of (x ∷ xs) = xs

-- one more entry before it
split_more : (p : Entry → Bool) (d : Entry) (j xs xs' : List Entry) (e : Entry) (t : Bool) → p d ≡ t → cond t (d ∷ xs) xs ≡ xs' → Split p j xs e → Split p (d ∷ j) xs' e
split_more p d j xs xs' e t is all r = record {
  first = d ∷ r.first;
  last = r.last;
  is = ap (λ (l : List Entry). d ∷ l) r.is;
  before = ap (λ b. cond b (d ∷ filter p r.first) (filter p r.first)) is ∙ (ap (λ (l : List Entry). cond t (d ∷ l) l) r.before ∙ all);
  after = r.after;
}

split_here : (p : Entry → Bool) (d : Entry) (j xs : List Entry) (e : Entry) → p d ≡ true → d ∷ filter p j ≡ xs ++ e ∷ [] → ((ys : List Entry) → filter p j ≡ ys ++ e ∷ [] → Split p j ys e) → Split p (d ∷ j) xs e
split_here p d j [] e on h rest = record { first = []; last = j; is = ap (λ (x : Entry). x ∷ j) (ap (head_of d) h); before = refl; after = ap tail_of h }
split_here p d j (x ∷ xs) e on h rest = split_more p d j xs (x ∷ xs) e true on (ap (λ (y : Entry). y ∷ xs) (ap (head_of d) h)) (rest xs (ap tail_of h))

split_last : (p : Entry → Bool) (j xs : List Entry) (e : Entry) → filter p j ≡ xs ++ e ∷ [] → Split p j xs e
split_last p [] xs e h = let size : 0 ≡ length xs + 1 = ap length h ∙ length-append xs (e ∷ []) in absurd (omega (arith, size))
split_last p (d ∷ j) xs e h =
    elim (p d) as (λ t. p d ≡ t → cond t (d ∷ filter p j) (filter p j) ≡ xs ++ e ∷ [] → Split p (d ∷ j) xs e) [
      | true ↦ λ on same. split_here p d j xs e on same (λ ys is. split_last p j ys e is)
      | false ↦ λ off same. split_more p d j xs xs e false off refl (split_last p j xs e same)
    ] refl h

only_append : (by : ℕ) (i j : List Entry) → OnlyOf by (i ++ j) → OnlyOf by i × OnlyOf by j
only_append by [] j h = (tt, h)
only_append by (e ∷ i) j h = let rest = only_append by i j h.1 in ((h.0, rest.0), rest.1)

behind : (by a : ℕ) (e : Entry) (t : Bool) (l : List Entry) → OnlyOf by (cond t (e ∷ uses a l) (uses a l)) → OnlyOf by (uses a l)
behind by a e true l h = h.1
behind by a e false l h = h

-- What stands under an admission after entries of its session.

pub quiet_rows : (a : ℕ) (x y : Option Thing) (j : List Entry) (o : Option Session) → count a j ≡ 0 → Within a x y o → Within a x y (row_after (records_of j) o)
quiet_rows a x y [] o none h = h
quiet_rows a x y (e ∷ j) o none h =
    elim (is_use_of a e.change) as (λ v. is_use_of a e.change ≡ v → length (cond v (e ∷ uses a j) (uses a j)) ≡ 0 → Within a x y (row_after (records_of j) (effect e.change o))) [
      | true ↦ λ _ l. absurd (omega arith)
      | false ↦ λ off l. quiet_rows a x y j (effect e.change o) l (quiet_row a x y e.change o off h)
    ] refl none

-- where all Holds and Adds are of an actor whose own entries have none, there is none
no_uses : (by a : ℕ) (j : List Entry) → count a (entries_of by j) ≡ 0 → OnlyOf by (uses a j) → count a j ≡ 0
no_uses by a j none own =
    ap length (sym (own_all by (uses a j) own) ∙ filters (λ (e : Entry). e.actor == by) (λ (e : Entry). is_use_of a e.change) j) ∙ none

module _ (by a : ℕ) where
  -- whatever is left of a seat's own entries, if all Holds and Adds are among them: after entries without such and a last part of these, at most these two things stand under the admission
  abbrev pub Leads : Option Thing → Option Thing → List Entry → Type 0
  Leads x y own =
      (j before : List Entry) (k : ℕ) (o : Option Session) → count a before ≡ 0 → entries_of by j ≡ before ++ drop k own → OnlyOf by (uses a j) → Within a None None o
      → Within a x y (row_after (records_of j) o)

  drop_none : (k : ℕ) → ◌≡◌ {A = List Entry} (drop k []) []
  drop_none k = drop_of_length-le [] (omega arith)

  pub leads_none : Leads None None []
  leads_none j before k o none is own h =
      quiet_rows a None None j o (no_uses by a j (ap (count a) (is ∙ ap (λ (l : List Entry). before ++ l) (drop_none k) ∙ append-nil before) ∙ none) own) h

  -- one more entry of the seat
  pub leads_one : (x y x' y' : Option Thing) (own : List Entry) (e : Entry) → ((o : Option Session) → Within a x y o → Within a x' y' (effect e.change o)) → Leads x y own → Leads x' y' (own ++ e ∷ [])
  leads_one x y x' y' own e step leads j before k o none is only h = ⊎_elim gone there (cases_lt (length own) k)
    where
      there : k ≤ length own → Within a x' y' (row_after (records_of j) o)
      there le =
          let last : entries_of by j ≡ (before ++ drop k own) ++ e ∷ [] = is ∙ (ap (λ (l : List Entry). before ++ l) (drop-append-le k own (e ∷ []) le) ∙ sym (append_assoc before (drop k own) (e ∷ []))) in
          let s = split_last (λ (e : Entry). e.actor == by) j (before ++ drop k own) e last in
          let all : uses a j ≡ uses a s.first ++ uses a (e ∷ s.last) = ap (uses a) s.is ∙ filter-append (λ (e : Entry). is_use_of a e.change) s.first (e ∷ s.last) in
          let parts = only_append by (uses a s.first) (uses a (e ∷ s.last)) (subst (OnlyOf by) all only) in
          let first = leads s.first before k o none s.before parts.0 h in
          let rest : OnlyOf by (uses a s.last) = behind by a e (is_use_of a e.change) s.last parts.1 in
          let quiet = no_uses by a s.last (ap (count a) s.after) rest in
          let ends : row_after (records_of j) o ≡ row_after (records_of s.last) (effect e.change (row_after (records_of s.first) o)) =
          ap (λ (l : List Entry). row_after (records_of l) o) s.is
          ∙ (ap (λ (rs : List Record). row_after rs o) (records-append s.first (e ∷ s.last))
          ∙ row_after-append (records_of s.first) (records_of (e ∷ s.last)) o) in
          subst (Within a x' y') (sym ends) (quiet_rows a x' y' s.last (effect e.change (row_after (records_of s.first) o)) quiet (step (row_after (records_of s.first) o) first))

      -- where none of them is left there is no Hold or Add
      gone : length own < k → Within a x' y' (row_after (records_of j) o)
      gone more =
          let size = length-append own (e ∷ []) in
          let empty : drop k (own ++ e ∷ []) ≡ [] = drop_of_length-le (own ++ e ∷ []) (omega (arith, more, size)) in
          let quiet = no_uses by a j (ap (count a) (is ∙ ap (λ (l : List Entry). before ++ l) empty ∙ append-nil before) ∙ none) only in
          quiet_rows a x' y' j o quiet (within_more a x' y' o h)

-- an entry of the seat in the admission's session, which adds no stream under it
pub record IsOwn (by s a : ℕ) (e : Entry) : Type 0 where
  pub actor : e.actor ≡ by
  pub session : session_of e.change ≡ s
  pub no_add : is_add_of a e.change ≡ false

own_only : (by s a : ℕ) (j : List Entry) → AllByRecursion (IsOwn by s a) j → OnlyOf by j
own_only by s a [] h = tt
own_only by s a (e ∷ j) h = (h.0.actor, own_only by s a j h.1)

own_strand : (by s a : ℕ) (j : List Entry) → AllByRecursion (IsOwn by s a) j → strand s j ≡ j
own_strand by s a [] h = refl
own_strand by s a (e ∷ j) h = ap (λ t. cond t (e ∷ strand s j) (strand s j)) (eq-eqb (session_of e.change) s h.0.session) ∙ ap (λ (l : List Entry). e ∷ l) (own_strand by s a j h.1)

other_strand : (by s a q : ℕ) (j : List Entry) → q ≢ s → AllByRecursion (IsOwn by s a) j → strand q j ≡ []
other_strand by s a q [] ne h = refl
other_strand by s a q (e ∷ j) ne h =
    ap (λ t. cond t (e ∷ strand q j) (strand q j)) (ne_eqb (session_of e.change) q (λ same. ne (sym same ∙ h.0.session))) ∙ other_strand by s a q j ne h.1

own_no_add : (by s a : ℕ) (j : List Entry) → AllByRecursion (IsOwn by s a) (uses a j) → HasNoAdd a j
own_no_add by s a [] h = tt
own_no_add by s a (e ∷ j) h =
    elim (is_use_of a e.change) as (λ v. is_use_of a e.change ≡ v → AllByRecursion (IsOwn by s a) (cond v (e ∷ uses a j) (uses a j)) → HasNoAdd a (e ∷ j)) [
      | true ↦ λ _ all. (all.0.no_add, own_no_add by s a j all.1)
      | false ↦ λ off all. (no_add_of a e.change off, own_no_add by s a j all)
    ] refl h

-- the row of a session is what its strand makes
row_is : (j : List Entry) (s : ℕ) → get (book_of j) s ≡ row_after (records_of (strand s j)) None
row_is j s = strand_row s (records_of j) empty ∙ ap (row_after (filter (λ r. session_of r == s) (records_of j))) (get-none s) ∙ ap (λ rs. row_after rs None) (sym (records-filter (λ r. session_of r == s) j))

-- What is left under the admission after a journal whose Holds and Adds under it are among those that the seat added in the session.

abbrev is_use : ℕ → Entry → Bool
is_use a e = is_use_of a e.change

abbrev is_in : ℕ → Entry → Bool
is_in s e = session_of e.change == s

abbrev is_by : ℕ → Entry → Bool
is_by by e = e.actor == by

module _ (by s a : ℕ) (more j : List Entry) (owns : AllByRecursion (IsOwn by s a) more) (part : Part (uses a j) (uses a more)) where
  -- all Holds and Adds are the seat's own
  uses_own : AllByRecursion (IsOwn by s a) (uses a j)
  uses_own = all_part (IsOwn by s a) (uses a j) (uses a more) part (all_filter (IsOwn by s a) (is_use a) more owns)

  -- so no other session has any
  none_elsewhere : (q : ℕ) → q ≢ s → Within a None None (get (book_of j) q)
  none_elsewhere q ne =
      let none : count a (strand q j) ≡ 0 = ap length (filters (is_use a) (is_in q) j ∙ other_strand by s a q (uses a j) ne uses_own) in
      subst (Within a None None) (sym (row_is j q)) (quiet_rows a None None (strand q j) None none tt)

  -- those in the session are the seat's
  strand_own : OnlyOf by (uses a (strand s j))
  strand_own = subst (OnlyOf by) (sym (filters (is_use a) (is_in s) j)) (own_only by s a (filter (is_in s) (uses a j)) (all_filter (IsOwn by s a) (is_in s) (uses a j) uses_own))

  -- and no more than were added
  strand_few : count a (entries_of by (strand s j)) ≤ count a more
  strand_few =
      let first = part_length (uses a j) (uses a more) part in
      let second = filter_shorter (is_in s) (uses a j) in
      let third = filter_shorter (is_by by) (filter (is_in s) (uses a j)) in
      let same : count a (entries_of by (strand s j)) ≡ length (filter (is_by by) (filter (is_in s) (uses a j))) = ap length (filters (is_use a) (is_by by) (strand s j) ∙ ap (filter (is_by by)) (filters (is_use a) (is_in s) j)) in
      omega (arith, first, second, third, same)

  module _ (x y : Option Thing) (mine : List Entry) (left : LeftOf (mine ++ more) (entries_of by j)) (leads : Leads by a x y more) where
    -- the seat's entries of the session are what it had and added there, from the cut on
    strand_is : entries_of by (strand s j) ≡ drop (left.cut s) (strand s mine ++ more)
    strand_is =
        filters (is_by by) (is_in s) j
        ∙ (left.strands s ∙ ap (drop (left.cut s)) (filter-append (is_in s) mine more ∙ ap (λ (l : List Entry). strand s mine ++ l) (own_strand by s a more owns)))

    -- a cut through what it had leaves all that was added, and nothing of the admission before it
    cut_before : left.cut s ≤ length (strand s mine) → Within a x y (row_after (records_of (strand s j)) None)
    cut_before le =
        let before = drop (left.cut s) (strand s mine) in
        let is : entries_of by (strand s j) ≡ before ++ more = strand_is ∙ drop-append-le (left.cut s) (strand s mine) more le in
        let size : count a (entries_of by (strand s j)) ≡ count a before + count a more = ap (count a) is ∙ (ap length (filter-append (is_use a) before more) ∙ length-append (uses a before) (uses a more)) in
        let few = strand_few in
        leads (strand s j) before 0 None (omega (arith, size, few)) is strand_own tt

    -- a cut through what was added leaves the rest of that
    cut_within : length (strand s mine) < left.cut s → Within a x y (row_after (records_of (strand s j)) None)
    cut_within lt =
        let k = left.cut s - length (strand s mine) in
        let cut : left.cut s ≡ length (strand s mine) + k = omega (arith, lt) in
        let is : entries_of by (strand s j) ≡ drop k more = strand_is ∙ (ap (λ n. drop n (strand s mine ++ more)) cut ∙ drop-append-add (strand s mine) more k) in
        leads (strand s j) [] k None refl is strand_own tt

    -- either way no more is left than the seat's own entries leave
    pub left_of : Left s a x y j
    left_of = record {
      others = none_elsewhere;
      own = subst (Within a x y) (sym (row_is j s)) (⊎_elim cut_within cut_before (cases_lt (length (strand s mine)) (left.cut s)));
      no_add = own_no_add by s a j uses_own;
    }
