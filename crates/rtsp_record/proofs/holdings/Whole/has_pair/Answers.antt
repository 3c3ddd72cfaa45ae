use Rattle.std.proofs.Common.{◌≡◌, ℕ, ◌-◌, ◌/◌, ◌%◌, ◌≤◌, arith}
use Rattle.std.specs.Prelude.{IsTrue, nat_lt}
use Rattle.std.proofs.lemmas.Bool.{ltb-true, lt-ltb}
use Rattle.std.proofs.lemmas.Bool.Decides.{nat_tests}
use Rattle.rtsp_record.specs.declared.holdings.Thing.TheVariants.{Pair}
use Rattle.rtsp_record.specs.declared.holdings.Whole.{Whole}
use Rattle.rtsp_record.specs.Rules.{InWhole}
use Rattle.rtsp_record.proofs.holdings.Whole.has_pair.Goals as goal

pair_in : (w : Whole) (p : ℕ) → w.first_port ≤ p → (p - w.first_port) % 2 ≡ 0 → (IsTrue (nat_lt ((p - w.first_port) / 2) w.pairs) → InWhole w (Pair p)) × (InWhole w (Pair p) → IsTrue (nat_lt ((p - w.first_port) / 2) w.pairs))
pair_in w p le even = (
  λ h. ((p - w.first_port) / 2, ltb-true _ _ h, omega (arith, even)),
  λ h. let at = h.2 in lt-ltb _ _ (omega (arith, at, h.1)),
)

pub returns : goal.returns
returns c =
    let even = c.if-past-eq1.false in
    pair_in c.args.self.now c.args.first (omega arith) (grind (arith, nat_tests))
