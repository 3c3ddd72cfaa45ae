use Rattle.std.proofs.Common.{◌≡◌, List, ℕ, ◌*◌, ◌≤◌, replicate, sym, subst, rules, arith}
use Rattle.rtsp_pools.specs.Bits.{IsSummed}
use Rattle.rtsp_pools.proofs.BitLemmas.{summed_none}
use Rattle.rtsp_pools.proofs.bit_set.BitSet.empty.Goals as goal

pub invariant_of-result : goal.invariant_of-result
invariant_of-result c =
    let limit = c.args.limit in
    let long = c.div_ceil-long.result in
    let tall = c.div_ceil.result in
    let words : c.in_ok-words.words.items ≡ replicate long 0 = search rules in
    let summary : c.in_ok-summary.summary.items ≡ replicate tall 0 = search rules in
    let all : limit ≤ 64 * long = omega (arith, c.div_ceil-long.ensures) in
    let each : long ≤ 64 * tall = omega (arith, c.div_ceil.ensures) in
    record {
      summed = subst (λ (ws : List ℕ). IsSummed limit ws c.in_ok-summary.summary.items 0) (sym words)
          (subst (λ (ws : List ℕ). IsSummed limit (replicate long 0) ws 0) (sym summary)
          (summed_none limit long tall all each (omega (arith, c.div_ceil.ensures, c.div_ceil-long.ensures, c.requires))));
    }
