-- The order in which the packets of a play are sent, place by place.
use Rattle.std.proofs.Common.{◌≡◌, ℕ, zero, suc, ◌+◌, ◌-◌, ◌*◌, ◌<◌, ◌≤◌, List, [], ◌∷◌, ◌++◌, length, map, drop, take, refl, ap, ◌∙◌, subst, get_or, arith, length-append, Option, Some}
use Rattle.std.specs.Prelude.{slice_get, option_map}
use Rattle.std.proofs.lemmas.List.{length-map}
use Rattle.std.proofs.lemmas.Option.{slice_get-map, slice_get-get_or, none-some}
use Rattle.std.proofs.Math.Nat.{suc-mul, mul-zero}
use Rattle.rtsp_record.specs.declared.phases.Phase.{Phase}
use Rattle.rtsp_rtp.specs.declared.source.Source.{Source}
use Rattle.rtsp_rtp.specs.declared.sender_state.SenderState.{SenderState}
use Rattle.rtsp_rtp.specs.Sinks.{Calls}
use Rattle.rtsp_rtp.specs.Pacing.{schedule}
use Rattle.rtsp_rtp.specs.Turns.{UnitSent, AllSent}

-- each unit has a packet of each source
pub schedule-length : (xs : List Source) (i n : ℕ) → length (schedule xs i n) ≡ n * length xs
schedule-length xs i zero = grind arith
schedule-length xs i (suc n) =
    length-append (map (λ (x : Source). (i, x)) xs) (schedule xs (i + 1) n)
    ∙ omega (arith, length-map {B = ℕ × Source} xs (λ (x : Source). (i, x)), schedule-length xs (i + 1) n, suc-mul n (length xs))

module _ {X : Type 0} where
  front : (xs ys : List X) (j : ℕ) (x : X) → slice_get xs j ≡ Some x → slice_get (xs ++ ys) j ≡ Some x
  front [] ys j x is = absurd (none-some x is)
  front (z ∷ xs) ys zero x is = is
  front (z ∷ xs) ys (suc j) x is = front xs ys j x is

  past : (xs ys : List X) (j : ℕ) → slice_get (xs ++ ys) (length xs + j) ≡ slice_get ys j
  past [] ys j = let e : 0 + j ≡ j = omega arith in ap (λ (m : ℕ). slice_get ys m) e
  past (z ∷ xs) ys j = let e : suc (length xs) + j ≡ suc (length xs + j) = omega arith in ap (λ (m : ℕ). slice_get (z ∷ xs ++ ys) m) e ∙ past xs ys j

  behind : (xs ys : List X) (n j : ℕ) → length xs ≡ n → slice_get (xs ++ ys) (n + j) ≡ slice_get ys j
  behind xs ys n j is = subst (λ (m : ℕ). slice_get (xs ++ ys) (m + j) ≡ slice_get ys j) is (past xs ys j)

  -- the element at a place of what is left
  pub left_at : (n m : ℕ) (xs : List X) → slice_get (drop n xs) m ≡ slice_get xs (n + m)
  left_at zero m xs = let e : m ≡ 0 + m = omega arith in ap (λ (k : ℕ). slice_get xs k) e
  left_at (suc n) m [] = refl
  left_at (suc n) m (x ∷ xs) = let e : suc (n + m) ≡ suc n + m = omega arith in left_at n m xs ∙ ap (λ (k : ℕ). slice_get (x ∷ xs) k) e

-- what is sent for a unit and a source
at_unit : (xs : List Source) (i n u j p : ℕ) (x : Source) → u < n → slice_get xs j ≡ Some x → p ≡ u * length xs + j → slice_get (schedule xs i n) p ≡ Some (i + u, x)
at_unit xs i zero u j p x below is at = absurd (omega (arith, below))
at_unit xs i (suc n) zero j p x below is at =
    let here : p ≡ j = at ∙ grind arith in
    let unit : i ≡ i + 0 = omega arith in
    ap (λ (m : ℕ). slice_get (schedule xs i (suc n)) m) here
    ∙ (front (map (λ (y : Source). (i, y)) xs) (schedule xs (i + 1) n) j (i, x) (slice_get-map (λ (y : Source). (i, y)) xs j ∙ ap (λ (o : Option Source). option_map (λ (y : Source). (i, y)) o) is)
    ∙ ap (λ (m : ℕ). Some (m, x)) unit)
at_unit xs i (suc n) (suc u) j p x below is at =
    let later : p ≡ length xs + (u * length xs + j) = omega (arith, at, suc-mul u (length xs)) in
    let unit : i + 1 + u ≡ i + suc u = omega arith in
    ap (λ (m : ℕ). slice_get (schedule xs i (suc n)) m) later
    ∙ (behind (map (λ (y : Source). (i, y)) xs) (schedule xs (i + 1) n) (length xs) (u * length xs + j) (length-map {B = ℕ × Source} xs (λ (y : Source). (i, y)))
    ∙ (at_unit xs (i + 1) n u j (u * length xs + j) x (omega (arith, below)) is refl
    ∙ ap (λ (m : ℕ). Some (m, x)) unit))

pub right_pos : (d n k : ℕ) → d < n * k → 0 < k
right_pos d n zero h = absurd (omega (arith, h, mul-zero n))
right_pos d n (suc k) h = omega arith

-- the next one of those that are left, as it is found in a list of the same sources
pub next_at : (xs ys : List Source) (units from u place : ℕ) (d : Source) → ys ≡ xs → place < length ys → u < units → from ≤ u * length xs + place
    → slice_get (drop from (schedule xs 0 units)) (u * length xs + place - from) ≡ Some (u, get_or ys place d)
next_at xs ys units from u place d same among is begun =
    let p = u * length xs + place in
    let back : from + (p - from) ≡ p = omega (arith, begun) in
    let unit : 0 + u ≡ u = omega arith in
    let x = get_or ys place d in
    let found : slice_get xs place ≡ Some x = subst (λ (zs : List Source). slice_get zs place ≡ Some x) same (slice_get-get_or ys place d among) in
    left_at from (p - from) (schedule xs 0 units)
    ∙ (ap (λ (m : ℕ). slice_get (schedule xs 0 units) m) back
    ∙ (at_unit xs 0 units u place p x is found refl
    ∙ ap (λ (m : ℕ). Some (m, x)) unit))

module _ {S : Type 0} (calls : Calls S) (phase : Phase) (unit_ms : ℕ) where
  -- one unit more was sent
  pub sent_next : (slots : List (ℕ × Source)) (m : ℕ) (x : ℕ × Source) (c e f : List SenderState) (s d u : S) → AllSent calls phase unit_ms (take m slots) c e s d → slice_get slots m ≡ Some x → UnitSent calls phase unit_ms x.0 x.1 e f d u → AllSent calls phase unit_ms (take (suc m) slots) c f s u
  sent_next [] m x c e f s d u before is one = absurd (none-some x is)
  sent_next (y ∷ slots) zero x c e f s d u before is one =
      let same : x ≡ y = cc in
      (f, u, subst (λ (z : ℕ × Source). UnitSent calls phase unit_ms z.0 z.1 c f s u) same (subst (λ (n : List SenderState). UnitSent calls phase unit_ms x.0 x.1 n f s u) before.0 (subst (λ (v : S). UnitSent calls phase unit_ms x.0 x.1 e f v u) before.1 one)), (refl, refl))
  sent_next (y ∷ slots) (suc m) x c e f s d u before is one = (before.0, before.1, before.2, sent_next slots m x before.0 e f before.1 d u before.3 is one)
