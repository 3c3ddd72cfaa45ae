use Rattle.std.proofs.Common.{◌≡◌, ℕ, true, not, nat_eq, arith}
use Rattle.std.proofs.lemmas.Bool.Decides.{nat_tests}
use Rattle.rtsp_pools.proofs.ChanLemmas.{some_held}
use Rattle.rtsp_pools.proofs.chan_pool.ChanPool.has_held.Goals as goal

isnt : (n : ℕ) → not (nat_eq n 0) ≡ true → n ≡ 0 → ⊥
isnt n h e = grind (arith, nat_tests)

pub returns-clause-yes : goal.returns-clause-yes
returns-clause-yes c h = some_held c.args.self.now c.args.conn c.bits.result c.bits.ensures c.bits.type_inv (isnt c.bits.result h)
