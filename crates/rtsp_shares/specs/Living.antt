-- What was told of numbers. `tells before number lives after` says that whoever is asked, as it was `before`, whether what has this number lives,
-- tells `lives` and is `after` from then on.
use Rattle.std.specs.Prelude.{ℕ, Bool}

module _ {L : Type 0} (tells : L → ℕ → Bool → L → Type 0) where
  -- who was asked about some numbers, one after another
  pub data Asked (first : L) : L → Type 0 where
    none : Asked first first
    more : (before after : L) (number : ℕ) (lives : Bool) → Asked first before → tells before number lives after → Asked first after

  -- meanwhile what has this number was told to live, or not to
  pub record WasTold (first last : L) (number : ℕ) (lives : Bool) : Type 0 where
    pub before : L
    pub after : L
    pub earlier : Asked first before
    pub told : tells before number lives after
    pub later : Asked after last
