-- What is told of numbers, one after another.
use Rattle.std.proofs.Common.{◌≡◌, ℕ, Bool, subst}
use Rattle.rtsp_shares.specs.Living.{Asked, none, more, WasTold}

module _ {L : Type 0} (tells : L → ℕ → Bool → L → Type 0) where
  -- asked once
  pub asked_once : (a b : L) (number : ℕ) (lives : Bool) → tells a number lives b → Asked tells a b
  asked_once a b number lives t = more a b number lives none t

  -- of one question the answer was told
  pub told_once : (a b : L) (number : ℕ) (lives said : Bool) → lives ≡ said → tells a number lives b → WasTold tells a b number said
  told_once a b number lives said is t = subst (WasTold tells a b number) is (record { before = a; after = b; earlier = none; told = t; later = none })
