use Rattle.std.proofs.Common.{◌==◌, ◌*◌, ap, ◌∙◌, arith}
use Rattle.rtsp_pools.proofs.PortLemmas.{all_paired}
use Rattle.rtsp_pools.proofs.pair_pool.PairPool.open.Goals as goal

pub invariant_of-result : goal.invariant_of-result
invariant_of-result c =
    let free = c.in_ok-free.free in
    let ports = c.in_ok-ports.ports in
    let pairs = c.in_ok-free.ensures in
    let numbers = c.in_ok-ports.ensures in
    record {
      numbered = c.requires;
      sized = pairs.limit ∙ c.from.ensures;
      each = numbers.limit ∙ ap (λ n. 2 * n) c.from-2.ensures;
      paired = all_paired ports.words.items free.words.items c.from.result (2 * c.from-2.result) (omega (arith, c.from.ensures, c.from-2.ensures))
          pairs.full numbers.full (λ k late. ap (λ b. b == 1) (free.summed.past k (omega (arith, late, pairs.limit)))) (λ k late. ap (λ b. b == 1) (ports.summed.past k (omega (arith, late, numbers.limit))));
    }
