-- The numbers of sessions above another, gathered one after another.
use Rattle.std.proofs.Common.{◌≡◌, ◌≢◌, ℕ, ◌+◌, Bool, true, false, cond, List, [], ◌∷◌, ◌++◌, take, drop, refl, sym, ◌∙◌, ap, inl, inr}
use Rattle.std.specs.Prelude.{Option, Some, None, option_map, option_and_then, nat_eq, slice_get}
use Rattle.std.specs.Ordering.{nat_cmp}
use Rattle.std.specs.Cmp.{nat_cmp_total}
use Rattle.std.specs.FinMap.{get, entries, put, entries-insert}
use Rattle.std.specs.Map.{lookup}
use Rattle.std.proofs.lemmas.Bool.{cases_eq, eq-eqb, ne_eqb}
use Rattle.std.proofs.lemmas.List.{take_more, take-append-drop}
use Rattle.std.proofs.lemmas.Option.{slice_get_within, get_or_from_slice_get}
use Rattle.slab.specs.Slab.{Slab}
use Rattle.rtsp_record.specs.Tables.{set}
use Rattle.rtsp_record.specs.Books.{Session, Book}
use Rattle.rtsp_record.proofs.Tables.{same_table, get-set_own, get-set_else}
use Rattle.rtsp_sessions.specs.Lookups.{is_above, numbers_above, inserted}
use Rattle.rtsp_sessions.proofs.NumberLemmas.{inserted_first, above_put, below_put}
use Rattle.rtsp_index.specs.declared.table.SessionTable.{SessionTable}
use Rattle.rtsp_index.specs.Contents.{sessions_of_first, StandsAt}
use Rattle.rtsp_index.specs.Placing.{row_at, gathered}
use Rattle.rtsp_index.proofs.TableLemmas.{at_place, lives}

-- what is found among the first is found among all
lookup_first : (p : ℕ → Bool) (xs ys : List (ℕ × ℕ)) (v : ℕ) → lookup p xs ≡ Some v → lookup p (xs ++ ys) ≡ Some v
lookup_first p [] ys v h = absurd cc
lookup_first p (e ∷ xs) ys v h =
    elim (p e.0) as (λ t. cond t (Some e.1) (lookup p xs) ≡ Some v → cond t (Some e.1) (lookup p (xs ++ ys)) ≡ Some v) [ true ↦ λ h. h | false ↦ λ h. lookup_first p xs ys v h ] h

lookup_last : (p : ℕ → Bool) (xs ys : List (ℕ × ℕ)) → lookup p xs ≡ None → lookup p (xs ++ ys) ≡ lookup p ys
lookup_last p [] ys h = refl
lookup_last p (e ∷ xs) ys h =
    elim (p e.0) as (λ t. cond t (Some e.1) (lookup p xs) ≡ None → cond t (Some e.1) (lookup p (xs ++ ys)) ≡ lookup p ys) [ true ↦ λ h. absurd cc | false ↦ λ h. lookup_last p xs ys h ] h

-- the sessions of the first numbers, and of the next one
module _ (rows : Slab (ℕ × Session)) (es : List (ℕ × ℕ)) (i s k : ℕ) (there : slice_get es i ≡ Some (s, k)) (found : lookup (nat_eq s) es ≡ Some k) where
  abbrev xs : List (ℕ × ℕ)
  xs = take i es

  split : take (i + 1) es ≡ xs ++ (s, k) ∷ []
  split = take_more es i (s, k) (slice_get_within es i (s, k) there) ∙ ap (λ (e : ℕ × ℕ). xs ++ e ∷ []) (get_or_from_slice_get es i (s, k) (s, k) there)

  here : lookup (nat_eq s) (xs ++ (s, k) ∷ []) ≡ Some k
  here =
      elim (lookup (nat_eq s) xs) as (λ o. lookup (nat_eq s) xs ≡ o → lookup (nat_eq s) (xs ++ (s, k) ∷ []) ≡ Some k) [
        | None ↦ λ none. lookup_last (nat_eq s) xs ((s, k) ∷ []) none ∙ ap (λ t. cond t (Some k) None) (eq-eqb s s refl)
        | Some v ↦ λ some.
            let all : lookup (nat_eq s) es ≡ Some v = ap (lookup (nat_eq s)) (sym (take-append-drop i es)) ∙ lookup_first (nat_eq s) xs (drop i es) v some in
            lookup_first (nat_eq s) xs ((s, k) ∷ []) v some ∙ (sym all ∙ found)
      ] refl

  else_ : (q : ℕ) → q ≢ s → lookup (nat_eq q) (xs ++ (s, k) ∷ []) ≡ lookup (nat_eq q) xs
  else_ q apart =
      elim (lookup (nat_eq q) xs) as (λ o. lookup (nat_eq q) xs ≡ o → lookup (nat_eq q) (xs ++ (s, k) ∷ []) ≡ o) [
        | None ↦ λ none. lookup_last (nat_eq q) xs ((s, k) ∷ []) none ∙ ap (λ t. cond t (Some k) None) (ne_eqb q s apart)
        | Some v ↦ λ some. lookup_first (nat_eq q) xs ((s, k) ∷ []) v some
      ] refl

  pub gathered_more : gathered rows (take (i + 1) es) ≡ set (gathered rows xs) s (row_at rows k)
  gathered_more =
      ap (gathered rows) split
      ∙ same_table _ _ (λ q. elim (cases_eq q s) [
        | inl same ↦
            ap (get (gathered rows (xs ++ (s, k) ∷ []))) same
            ∙ (at_place rows (xs ++ (s, k) ∷ []) s
            ∙ (ap (option_and_then (row_at rows)) here
            ∙ (sym (get-set_own (gathered rows xs) s (row_at rows k))
            ∙ ap (get (set (gathered rows xs) s (row_at rows k))) (sym same))))
        | inr apart ↦
            at_place rows (xs ++ (s, k) ∷ []) q
            ∙ (ap (option_and_then (row_at rows)) (else_ q apart)
            ∙ (sym (at_place rows xs q)
            ∙ sym (get-set_else (gathered rows xs) s q (row_at rows k) apart)))
      ])

-- the next number of a table
module _ (t : SessionTable) (a : Option ℕ) (i s : ℕ) (at : StandsAt t i s) where
  abbrev b : Book
  b = sessions_of_first t i

  row : (f : Session) × (sessions_of_first t (i + 1) ≡ set b s (Some f))
  row =
      let there = lives t.places.entries t.rows s at.place t.placed at.found in
      (there.0, gathered_more t.rows t.places.entries i s at.place at.there at.found ∙ ap (λ (o : Option (ℕ × Session)). set b s (option_map (λ v. v.1) o)) there.2)

  more : entries (sessions_of_first t (i + 1)) ≡ put nat_cmp s row.0 (entries b)
  more = ap entries row.1 ∙ entries-insert nat_cmp_total b s row.0

  pub next_above : (found new : List ℕ) → is_above a s ≡ true → found ≡ take 256 (numbers_above a (entries b)) → new ≡ take 256 (inserted s found) → new ≡ take 256 (numbers_above a (entries (sessions_of_first t (i + 1))))
  next_above found new on before put =
      put
      ∙ (ap (λ (l : List ℕ). take 256 (inserted s l)) before
      ∙ (inserted_first 256 s (numbers_above a (entries b))
      ∙ (ap (take 256) (sym (above_put a s row.0 (entries b) on))
      ∙ ap (λ (l : List (ℕ × Session)). take 256 (numbers_above a l)) (sym more))))

  pub next_skipped : (found : List ℕ) → is_above a s ≡ false → found ≡ take 256 (numbers_above a (entries b)) → found ≡ take 256 (numbers_above a (entries (sessions_of_first t (i + 1))))
  next_skipped found off before =
      before
      ∙ (ap (take 256) (sym (below_put a s row.0 (entries b) off))
      ∙ ap (λ (l : List (ℕ × Session)). take 256 (numbers_above a l)) (sym more))
