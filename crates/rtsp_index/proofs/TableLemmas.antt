-- A table of sessions as a book: what it has at a number, and what one change of it makes.
use Rattle.std.proofs.Common.{◌≡◌, ◌≢◌, ℕ, ◌+◌, ◌<◌, Bool, true, false, cond, List, [], ◌∷◌, length, refl, sym, ◌∙◌, ap, subst, inl, inr, arith}
use Rattle.std.specs.Prelude.{Option, Some, None, Result, Ok, Err, OnOk, IsOk, is_some, option_map, option_and_then, nat_eq, nat_le, slice_get, IsSome, ◌≤◌}
use Rattle.std.specs.FinMap.{get, entries}
use Rattle.std.specs.Map.{lookup}
use Rattle.std.proofs.lemmas.Bool.{both_ways, leb-true, eqb-true, ne_eqb, cases_eq}
use Rattle.std.proofs.lemmas.Option.{none-some, same_Some, slice_get_within}
use Rattle.std.proofs.lemmas.Map.Entries.{place_from_lookup}
use Rattle.std.proofs.lemmas.Bool.Decides.{nat_tests}
use Rattle.slab.specs.Slab.{Slab, Updates, get as row_in}
use Rattle.rtsp_record.specs.Tables.{set}
use Rattle.rtsp_record.specs.Books.{Session, Book}
use Rattle.rtsp_record.proofs.Tables.{tied, same_table, get-set, get-set_own, get-set_else, get-none}
use Rattle.rtsp_sessions.specs.Lookups.{session_at, expired_in}
use Rattle.rtsp_sessions.specs.Searches.{is_expired}
use Rattle.rtsp_index.specs.declared.table.SessionTable.{SessionTable}
use Rattle.rtsp_index.specs.declared.moments.Moments.{Moments}
use Rattle.rtsp_index.specs.Dating.{moment_at, AreDated}
use Rattle.rtsp_index.specs.Contents.{HasRoom}
use Rattle.rtsp_index.specs.Searching.{Passes}
use Rattle.rtsp_index.specs.Placing.{row_at, number_at, gathered, IsPlaced}
use Rattle.rtsp_index.proofs.SearchLemmas.{least_number}

tied_is : (q k : ℕ) → tied q k ≡ nat_eq q k
tied_is q k = grind (arith, nat_tests)

-- what the book of these places has at a number
pub at_place : (rows : Slab (ℕ × Session)) (es : List (ℕ × ℕ)) (q : ℕ) → get (gathered rows es) q ≡ option_and_then (row_at rows) (lookup (nat_eq q) es)
at_place rows [] q = get-none q
at_place rows (e ∷ es) q =
    get-set (gathered rows es) e.0 q (row_at rows e.1)
    ∙ ap (λ t. cond t (row_at rows e.1) (get (gathered rows es) q)) (tied_is q e.0)
    ∙ elim (nat_eq q e.0) as (λ t. cond t (row_at rows e.1) (get (gathered rows es) q) ≡ option_and_then (row_at rows) (cond t (Some e.1) (lookup (nat_eq q) es))) [
      | true ↦ refl
      | false ↦ at_place rows es q
    ]

-- the row of a number
numbered : (o : Option (ℕ × Session)) (s : ℕ) → option_map (λ v. v.0) o ≡ Some s → (f : Session) × (o ≡ Some (s, f))
numbered None s h = absurd cc
numbered (Some v) s h = let same : v.0 ≡ s = cc in (v.1, λ t. Some (same t, v.1))

-- a change of a table: the rows stand at their places, and the book has this at the number
pub record Written (es ds : List (ℕ × ℕ)) (rows more : Slab (ℕ × Session)) (s : ℕ) (o : Option Session) : Type 0 where
  pub placed : IsPlaced (λ q. lookup (nat_eq q) ds) more
  pub table : gathered more ds ≡ set (gathered rows es) s o

-- One change of a table, of which es are the places before it and ds after.
module _ (es ds : List (ℕ × ℕ)) (rows more : Slab (ℕ × Session)) (s : ℕ)
    (placed : IsPlaced (λ q. lookup (nat_eq q) es) rows)
    (others : (q : ℕ) → nat_eq s q ≡ false → lookup (nat_eq q) ds ≡ lookup (nat_eq q) es)
    (kept : (q k : ℕ) (f : Session) → q ≢ s → row_in rows k ≡ Some (q, f) → row_in more k ≡ row_in rows k) where
  else_place : (q : ℕ) → q ≢ s → lookup (nat_eq q) ds ≡ lookup (nat_eq q) es
  else_place q apart = others q (ne_eqb s q (λ e. apart (sym e)))

  place_after : ((k : ℕ) → lookup (nat_eq s) ds ≡ Some k → number_at more k ≡ Some s) → IsPlaced (λ q. lookup (nat_eq q) ds) more
  place_after own q k at =
      elim (cases_eq q s) [
        | inl same ↦ own k (ap (λ q. lookup (nat_eq q) ds) (sym same) ∙ at) ∙ ap (λ q. Some q) (sym same)
        | inr apart ↦
            let number = placed q k (sym (else_place q apart) ∙ at) in
            let row = numbered (row_in rows k) q number in
            ap (option_map (λ (v : ℕ × Session). v.0)) (kept q k row.0 apart row.1) ∙ number
      ]

  same_row : (q : ℕ) → q ≢ s → option_and_then (row_at more) (lookup (nat_eq q) ds) ≡ option_and_then (row_at rows) (lookup (nat_eq q) es)
  same_row q apart =
      ap (option_and_then (row_at more)) (else_place q apart)
      ∙ elim (lookup (nat_eq q) es) as (λ o. lookup (nat_eq q) es ≡ o → option_and_then (row_at more) o ≡ option_and_then (row_at rows) o) [
        | None ↦ λ _. refl
        | Some k ↦ λ at. let row = numbered (row_in rows k) q (placed q k at) in ap (option_map (λ (v : ℕ × Session). v.1)) (kept q k row.0 apart row.1)
      ] refl

  book_after : (o : Option Session) → option_and_then (row_at more) (lookup (nat_eq s) ds) ≡ o → gathered more ds ≡ set (gathered rows es) s o
  book_after o own =
      same_table _ _ (λ q. elim (cases_eq q s) [
        | inl same ↦ at_place more ds q ∙ ap (λ q. option_and_then (row_at more) (lookup (nat_eq q) ds)) same ∙ own ∙ sym (get-set_own (gathered rows es) s o) ∙ ap (get (set (gathered rows es) s o)) (sym same)
        | inr apart ↦ at_place more ds q ∙ same_row q apart ∙ sym (at_place rows es q) ∙ sym (get-set_else (gathered rows es) s q o apart)
      ])

  pub written : (k : ℕ) (v : ℕ × Session) → lookup (nat_eq s) ds ≡ Some k → row_in more k ≡ Some v → v.0 ≡ s → Written es ds rows more s (Some v.1)
  written k v at row number =
      record {
        placed = place_after (λ j there.
            let same : k ≡ j = same_Some k j (sym at ∙ there) in
            ap (number_at more) (sym same) ∙ ap (option_map (λ (v : ℕ × Session). v.0)) row ∙ ap (λ n. Some n) number);
        table = book_after (Some v.1) (ap (option_and_then (row_at more)) at ∙ ap (option_map (λ (v : ℕ × Session). v.1)) row);
      }

  pub taken : lookup (nat_eq s) ds ≡ None → Written es ds rows more s None
  taken none =
      record {
        placed = place_after (λ j there. let bad = sym none ∙ there in absurd cc);
        table = book_after None (ap (option_and_then (row_at more)) none);
      }

-- the rows of two numbers aren't the same
other_place : (rows : Slab (ℕ × Session)) (s q j k : ℕ) (f : Session) → number_at rows k ≡ Some s → q ≢ s → row_in rows j ≡ Some (q, f) → j ≢ k
other_place rows s q j k f number apart row same =
    let there : number_at rows k ≡ Some q = ap (number_at rows) (sym same) ∙ ap (option_map (λ (v : ℕ × Session). v.0)) row in
    apart (same_Some q s (sym there ∙ number))

-- a vacant place isn't that of a row
vacant_place : (rows : Slab (ℕ × Session)) (q j k : ℕ) (f : Session) → row_in rows k ≡ None → row_in rows j ≡ Some (q, f) → j ≢ k
vacant_place rows q j k f none row same = let bad = sym none ∙ ap (row_in rows) (sym same) ∙ row in absurd cc

module _ (es ds : List (ℕ × ℕ)) (rows more : Slab (ℕ × Session)) (s k : ℕ)
    (placed : IsPlaced (λ q. lookup (nat_eq q) es) rows)
    (others : (q : ℕ) → nat_eq s q ≡ false → lookup (nat_eq q) ds ≡ lookup (nat_eq q) es) where
  -- a row at a vacant place
  pub opened : (v : ℕ × Session) → row_in rows k ≡ None → Updates rows more k (Some v) → lookup (nat_eq s) ds ≡ Some k → v.0 ≡ s → Written es ds rows more s (Some v.1)
  opened v none up at number = written es ds rows more s placed others (λ q j f apart row. up.others j (vacant_place rows q j k f none row)) k v at up.changed number

  -- the row at the place of the number taken out
  pub closed : lookup (nat_eq s) es ≡ Some k → Updates rows more k None → lookup (nat_eq s) ds ≡ None → Written es ds rows more s None
  closed at up none = taken es ds rows more s placed others (λ q j f apart row. up.others j (other_place rows s q j k f (placed s k at) apart row)) none

  -- another row at the place of the number
  pub changed : (v : ℕ × Session) → lookup (nat_eq s) es ≡ Some k → Updates rows more k (Some v) → lookup (nat_eq s) ds ≡ Some k → v.0 ≡ s → Written es ds rows more s (Some v.1)
  changed v was up at number = written es ds rows more s placed others (λ q j f apart row. up.others j (other_place rows s q j k f (placed s k was) apart row)) k v at up.changed number

-- a session with no place doesn't live
pub no_place : (es : List (ℕ × ℕ)) (rows : Slab (ℕ × Session)) (s : ℕ) → lookup (nat_eq s) es ≡ None → get (gathered rows es) s ≡ None
no_place es rows s none = at_place rows es s ∙ ap (option_and_then (row_at rows)) none

-- the row at the place of a number is there
pub row_is : (es : List (ℕ × ℕ)) (rows : Slab (ℕ × Session)) (s k : ℕ) → IsPlaced (λ q. lookup (nat_eq q) es) rows → lookup (nat_eq s) es ≡ Some k → IsSome (row_in rows k)
row_is es rows s k placed at = let row = numbered (row_in rows k) s (placed s k at) in subst IsSome (sym row.1) refl

-- the row at the place of a number has the number
pub row_number : (es : List (ℕ × ℕ)) (rows : Slab (ℕ × Session)) (s k : ℕ) (v : ℕ × Session) → IsPlaced (λ q. lookup (nat_eq q) es) rows → lookup (nat_eq s) es ≡ Some k → ◌≡◌ {A = Option (ℕ × Session)} (Some v) (row_in rows k) → v.0 ≡ s
row_number es rows s k v placed at is = same_Some v.0 s (ap (option_map (λ (v : ℕ × Session). v.0)) is ∙ placed s k at)

-- the session of a row lives
pub row_lives : (es : List (ℕ × ℕ)) (rows : Slab (ℕ × Session)) (s k : ℕ) (v : ℕ × Session) → lookup (nat_eq s) es ≡ Some k → ◌≡◌ {A = Option (ℕ × Session)} (Some v) (row_in rows k) → get (gathered rows es) s ≡ Some v.1
row_lives es rows s k v at is = at_place rows es s ∙ ap (option_and_then (row_at rows)) at ∙ ap (option_map (λ (v : ℕ × Session). v.1)) (sym is)

-- the row at the place of a number is the session
pub row_there : (es : List (ℕ × ℕ)) (rows : Slab (ℕ × Session)) (s k : ℕ) (o : Option (ℕ × Session)) → IsPlaced (λ q. lookup (nat_eq q) es) rows → lookup (nat_eq s) es ≡ Some k → o ≡ row_in rows k → o ≡ session_at (gathered rows es) s
row_there es rows s k o placed at is =
    let row = numbered (row_in rows k) s (placed s k at) in
    is ∙ row.1 ∙ sym (ap (option_map (λ (f : Session). (s, f))) (at_place rows es s ∙ ap (option_and_then (row_at rows)) at ∙ ap (option_map (λ (v : ℕ × Session). v.1)) row.1))

-- a session lives where its number has a place
pub lives_here : (es : List (ℕ × ℕ)) (rows : Slab (ℕ × Session)) (s : ℕ) → IsPlaced (λ q. lookup (nat_eq q) es) rows → is_some (lookup (nat_eq s) es) ≡ is_some (get (gathered rows es) s)
lives_here es rows s placed =
    elim (lookup (nat_eq s) es) as (λ o. lookup (nat_eq s) es ≡ o → is_some o ≡ is_some (get (gathered rows es) s)) [
      | None ↦ λ none. sym (ap is_some (no_place es rows s none))
      | Some k ↦ λ at.
          let row = numbered (row_in rows k) s (placed s k at) in
          sym (ap is_some (at_place rows es s ∙ ap (option_and_then (row_at rows)) at ∙ ap (option_map (λ (v : ℕ × Session). v.1)) row.1))
    ] refl

-- what an accepted call ensures
pub on_ok : {A B : Type 0} (r : Result A B) (P : Type 0) → OnOk r P → IsOk r → P
on_ok (Ok x) P h is = h
on_ok (Err e) P h is = absurd cc

pub none_is : {X : Type 0} (o : Option X) → o ≡ None → IsSome o → ⊥
none_is None h is = absurd cc
none_is (Some x) h is = absurd cc

-- room for more is room for less
pub less_room : (t : SessionTable) (n m : ℕ) → HasRoom t (n + m) → HasRoom t n
less_room t n m h = (omega (arith, h.0), omega (arith, h.1), λ some. h.2 (omega (arith, some)))

-- the session of a place lives
pub lives : (es : List (ℕ × ℕ)) (rows : Slab (ℕ × Session)) (s k : ℕ) → IsPlaced (λ q. lookup (nat_eq q) es) rows → lookup (nat_eq s) es ≡ Some k
    → (f : Session) × (get (gathered rows es) s ≡ Some f) × (row_in rows k ≡ Some (s, f))
lives es rows s k placed at =
    let row = numbered (row_in rows k) s (placed s k at) in
    (row.0, at_place rows es s ∙ ap (option_and_then (row_at rows)) at ∙ ap (option_map (λ (v : ℕ × Session). v.1)) row.1, row.1)

-- two sessions of one number are one
pub same_session : (o : Option Session) (f g : Session) → o ≡ Some f → o ≡ Some g → f ≡ g
same_session o f g one two = same_Some f g (sym one ∙ two)

-- what a test says of the session of a number
pub told_apart : (p : ℕ × Session → Bool) (b : Book) (s : ℕ) (t : Bool) → ((f : Session) → get b s ≡ Some f → t ≡ p (s, f)) → t ≡ false → Passes p b s → ⊥
told_apart p b s t is off h = both_ways (p (s, h.0)) (sym (is h.0 h.1) ∙ off) h.2

-- the entry that stands there has this number
pub same_first : (s k : ℕ) (e : ℕ × ℕ) → ◌≡◌ {A = Option (ℕ × ℕ)} (Some (s, k)) (Some e) → s ≡ e.0
same_first s k e h = cc

-- an entry of this number stands among these
pub record HasEntry (es : List (ℕ × ℕ)) (s : ℕ) : Type 0 where
  pub index : ℕ
  pub entry : ℕ × ℕ
  pub stands : slice_get es index ≡ Some entry
  pub number : entry.0 ≡ s
  pub within : index < length es

-- each living session has an entry among the places
pub has_entry : (es : List (ℕ × ℕ)) (rows : Slab (ℕ × Session)) (s : ℕ) (f : Session) → get (gathered rows es) s ≡ Some f → HasEntry es s
has_entry es rows s f is =
    elim (lookup (nat_eq s) es) as (λ o. lookup (nat_eq s) es ≡ o → HasEntry es s) [
      | None ↦ λ none. let bad = sym (no_place es rows s none) ∙ is in absurd cc
      | Some k ↦ λ at.
          let place = place_from_lookup (nat_eq s) es k at in
          record { index = place.0; entry = (place.1, k); stands = place.2; number = sym (eqb-true s place.1 place.3); within = slice_get_within es place.0 (place.1, k) place.2 }
    ] refl

-- Rows and the moments of their places.

-- a row is written at a place, and its expiry
pub dated_with : (rows more : Slab (ℕ × Session)) (m next : Moments) (k : ℕ) (v : ℕ × Session) → AreDated rows m → Updates rows more k (Some v) → k < m.places → next.places ≡ m.places
    → moment_at next k ≡ v.1.expires → ((p : ℕ) → p ≢ k → moment_at next p ≡ moment_at m p) → AreDated more next
dated_with rows more m next k v dated up within places here others j w at =
    elim (cases_eq j k) [
      | inl same ↦
          let is : v ≡ w = same_Some v w (sym up.changed ∙ ap (row_in more) (sym same) ∙ at) in
          (omega (arith, same, places, within), ap (moment_at next) same ∙ here ∙ ap (λ (v : ℕ × Session). v.1.expires) is)
      | inr apart ↦
          let was = dated j w (sym (up.others j apart) ∙ at) in
          (omega (arith, was.0, places), others j apart ∙ was.1)
    ]

-- the row of a place is taken out
pub dated_without : (rows more : Slab (ℕ × Session)) (m next : Moments) (k : ℕ) → AreDated rows m → Updates rows more k None → next.places ≡ m.places
    → ((p : ℕ) → p ≢ k → moment_at next p ≡ moment_at m p) → AreDated more next
dated_without rows more m next k dated up places others j w at =
    elim (cases_eq j k) [
      | inl same ↦ absurd (none-some w (sym up.changed ∙ ap (row_in more) (sym same) ∙ at))
      | inr apart ↦
          let was = dated j w (sym (up.others j apart) ∙ at) in
          (omega (arith, was.0, places), others j apart ∙ was.1)
    ]

-- the expiry of a living session stands at a place
date_of : (es : List (ℕ × ℕ)) (rows : Slab (ℕ × Session)) (m : Moments) (s : ℕ) (f : Session) → AreDated rows m → get (gathered rows es) s ≡ Some f → (k : ℕ) × (k < m.places) × (moment_at m k ≡ f.expires)
date_of es rows m s f dated at =
    elim (lookup (nat_eq s) es) as (λ o. option_and_then (row_at rows) o ≡ Some f → (k : ℕ) × (k < m.places) × (moment_at m k ≡ f.expires)) [
      | None ↦ λ bad. absurd cc
      | Some k ↦ λ is.
          elim (row_in rows k) as (λ o. row_in rows k ≡ o → option_map (λ (v : ℕ × Session). v.1) o ≡ Some f → (k : ℕ) × (k < m.places) × (moment_at m k ≡ f.expires)) [
            | None ↦ λ _ bad. absurd cc
            | Some v ↦ λ row is.
                let date = dated k v row in
                (k, date.0, date.1 ∙ ap (λ (f : Session). f.expires) (same_Some v.1 f is))
          ] refl is
    ] (sym (at_place rows es s) ∙ at)

-- no session has expired before the least moment
pub none_due : (es : List (ℕ × ℕ)) (rows : Slab (ℕ × Session)) (m : Moments) (moment least : ℕ) → AreDated rows m → ((p : ℕ) → p < m.places → least ≤ moment_at m p) → moment < least
    → None ≡ expired_in moment (entries (gathered rows es))
none_due es rows m moment least dated below early =
    least_number (gathered rows es) (is_expired moment) None tt (λ s h. late s h.0 h.1 h.2)
  where
    late : (s : ℕ) (f : Session) → get (gathered rows es) s ≡ Some f → nat_le f.expires moment ≡ true → ⊥
    late s f at on =
        let date = date_of es rows m s f dated at in
        absurd (omega (arith, below date.0 date.1, date.2, early, leb-true f.expires moment on))
