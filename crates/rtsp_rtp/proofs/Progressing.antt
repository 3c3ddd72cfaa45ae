-- The unit and the place of the next packet, and how many packets come before it.
use Rattle.std.proofs.Common.{◌≡◌, ℕ, ◌+◌, ◌-◌, ◌*◌, ◌/◌, ◌<◌, ◌≤◌, ap, sym, ◌∙◌, arith}
use Rattle.std.proofs.lemmas.Nat.{div-mul-add, mul-le}
use Rattle.std.proofs.Math.Nat.{add-mul}

-- all come before it where its unit is the one behind the last
pub at_last : (n u place units : ℕ) → u * n + place ≤ units * n → u ≡ units → u * n + place ≡ units * n
at_last n u place units within is = let same : u * n ≡ units * n = ap (λ (m : ℕ). m * n) is in omega (arith, within, same)

-- and only there
pub only_at_last : (n u place units : ℕ) → 0 < n → place ≤ n - 1 → u * n + place ≡ units * n → u ≡ units
only_at_last n u place units some placed is =
    let none : units * n ≡ units * n + 0 = omega arith in
    sym (div-mul-add u n place (omega (arith, some, placed)))
    ∙ (ap (λ (m : ℕ). m / n) (is ∙ none)
    ∙ div-mul-add units n 0 some)

-- fewer come before it than before the first that isn't due, where its unit is due
pub before_due : (n u place units : ℕ) → place < n → u < units → u * n + place < units * n
before_due n u place units among is =
    let rows : (u + 1) * n ≤ units * n = mul-le (u + 1) n units n (omega (arith, is)) (omega arith) in
    omega (arith, rows, among, add-mul u 1 n)

-- and else no fewer
pub past_due : (n u place units : ℕ) → (u < units → ⊥) → units * n ≤ u * n + place
past_due n u place units not =
    let rows : units * n ≤ u * n = mul-le units n u n (omega (arith, not)) (omega arith) in
    omega (arith, rows)

-- the moment of the next packet, counted from the beginning of the play
pub moment_of : (n u place unit_ms a b : ℕ) → 0 < n → place ≤ n - 1 → a ≡ u → b ≡ unit_ms → a * b ≡ (u * n + place) / n * unit_ms
moment_of n u place unit_ms a b some placed is ms =
    ap (λ (m : ℕ). m * b) (is ∙ sym (div-mul-add u n place (omega (arith, some, placed)))) ∙ ap (λ (m : ℕ). (u * n + place) / n * m) ms
