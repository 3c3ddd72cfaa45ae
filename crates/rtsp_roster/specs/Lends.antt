-- What a roster ends as, once what it lent is over.
use Rattle.std.specs.Prelude.{ℕ, Option}
use Rattle.std.specs.Borrow.{Lends, LendsIf, Fml, RattleType, MutBor}
use Rattle.slab.specs.Slab.{with_value}
use Rattle.rtsp_roster.specs.Rosters.{Rosters}
use Rattle.rtsp_roster.specs.contracts.roster.Roster.{the_row}

module _ (T : RattleType) (r : MutBor (Rosters T.Denot)) (key : ℕ) where
  -- the key has the last value written through the reference
  abbrev pub lends_value : MutBor T.Denot → Fml
  lends_value lent = Lends (the_row T) T r lent (λ w. record r.now { living = with_value r.now.living key w })

  -- the same where there is a reference, and at `None` the roster stays as it is
  abbrev pub lends_get : Option (MutBor T.Denot) → Fml
  lends_get lent = LendsIf (the_row T) T r lent (λ w. record r.now { living = with_value r.now.living key w }) r.now
