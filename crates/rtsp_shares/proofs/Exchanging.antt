-- What becomes of counts where one of a list goes, comes or is replaced.
use Rattle.std.proofs.Common.{◌≡◌, ℕ, ◌+◌, ◌≤◌, ◌<◌, Bool, true, false, cond, List, [], ◌∷◌, ◌++◌, length, get_or, set, ap, refl, arith}
use Rattle.std.specs.Prelude.{Some, slice_get, ◌==◌}
use Rattle.std.specs.List.{count_by, swap_remove}
use Rattle.std.proofs.lemmas.Bool.{eqb-true}
use Rattle.std.proofs.lemmas.List.{length_push}
use Rattle.std.proofs.lemmas.List.Sums.{sum_by-swap_remove, sum_by-set, sum_by_push}
use Rattle.std.proofs.lemmas.Option.{get_or_from_slice_get, slice_get_within}
use Rattle.rtsp_shares.specs.Places.{Places, ArePlacesWithin, Exchanges, places_of, held}
use Rattle.rtsp_shares.specs.declared.place.Place.{Place}

-- one of those that pass a test, or none
abbrev one : {X : Type 0} → (X → Bool) → X → ℕ
one test x = cond (test x) 1 0

-- one is gone, and the last comes to its place
pub gone_at : {X : Type 0} (xs new : List X) (at : ℕ) (d : X) → new ≡ swap_remove xs at d → at < length xs → Exchanges xs new (get_or xs at d ∷ []) []
gone_at xs new at d e lt test = omega (arith, ap (count_by test) e, sum_by-swap_remove (one test) xs at d lt)

pub gone_one : {X : Type 0} (xs new : List X) (at : ℕ) (x d : X) → new ≡ swap_remove xs at d → slice_get xs at ≡ Some x → Exchanges xs new (x ∷ []) []
gone_one xs new at x d e is test =
    omega (arith, gone_at xs new at d e (slice_get_within xs at x is) test, ap (one test) (get_or_from_slice_get xs at x d is))

-- one is replaced
pub replaced_one : {X : Type 0} (xs : List X) (at : ℕ) (x y : X) → slice_get xs at ≡ Some x → Exchanges xs (set xs at y) (x ∷ []) (y ∷ [])
replaced_one xs at x y is test =
    omega (arith, sum_by-set (one test) xs at y x (slice_get_within xs at x is), ap (one test) (get_or_from_slice_get xs at x x is))

-- one more of some of whom there is one less than there might be
one_more : (count : ℕ → ℕ) (widest address : ℕ) → ((q : ℕ) → count q ≤ widest) → count address < widest → (q : ℕ) → count q + cond (address == q) 1 0 ≤ widest
one_more count widest address all less q = by (address == q) (λ e. e)
  where
    by : (b : Bool) → (b ≡ true → (address == q) ≡ true) → count q + cond b 1 0 ≤ widest
    by true is = omega (arith, less, ap count (eqb-true address q (is refl)))
    by false is = omega (arith, all q)

-- a place more, of an address whose share isn't spent
pub places_more : (s : Places) (address : ℕ) → ArePlacesWithin s → places_of address s.taken < s.share → length s.taken < s.most → ArePlacesWithin (record s { taken = s.taken ++ held address ∷ [] })
places_more s address within less room = record {
  share = λ q. omega (arith, sum_by_push (one (λ place. place.address == q)) s.taken (held address), one_more (λ p. places_of p s.taken) s.widest address within.share (omega (arith, less, within.widest)) q);
  widest = within.widest;
  most = omega (arith, length_push s.taken (held address));
}

-- no more of each
pub places_less : (s : Places) (new : List Place) → ArePlacesWithin s → ((q : ℕ) → places_of q new ≤ places_of q s.taken) → length new ≤ length s.taken → ArePlacesWithin (record s { taken = new })
places_less s new within fewer shorter = record { share = λ q. omega (arith, within.share q, fewer q); widest = within.widest; most = omega (arith, within.most) }
