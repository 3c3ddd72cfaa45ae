use Rattle.std.proofs.Common.{◌≡◌, ℕ, ◌+◌, ◌*◌, sym, ap, ◌∙◌, arith}
use Rattle.std.proofs.Math.Nat.{one-mul}
use Rattle.rtsp_record.specs.Sums.{one_if}
use Rattle.rtsp_pools.specs.Bits.{count_below}
use Rattle.rtsp_pools.specs.Pools.{is_free_port}
use Rattle.rtsp_pools.proofs.BitLemmas.{flag}
use Rattle.rtsp_pools.proofs.PortLemmas.{port_at}
use Rattle.rtsp_pools.proofs.LeastLemmas.{counted}
use Rattle.rtsp_pools.proofs.pair_pool.PairPool.free_ports.Goals as goal

pub returns : goal.returns
returns c =
    let pool = c.args.self.now in
    let words = pool.ports.words.items in
    let at : (j : ℕ) → pool.whole.first_port + 1 * j ≡ pool.whole.first_port + j = λ j. omega (arith, one-mul j) in
    c.len.ensures ∙ ap (count_below words) pool.each
    ∙ counted 1 words (is_free_port pool) pool.whole.first_port (2 * pool.whole.pairs)
    (λ j lt. flag words j ∙ ap one_if (sym (ap (is_free_port pool) (at j) ∙ port_at pool j)))
