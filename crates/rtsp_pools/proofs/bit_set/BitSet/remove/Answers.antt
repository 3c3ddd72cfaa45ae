use Rattle.std.proofs.Common.{◌≡◌, ◌≢◌, ℕ, ◌+◌, ◌-◌, ◌/◌, ◌<◌, List, get_or, true, nat_eq, not, ◌∙◌, refl, sym, ap, arith}
use Rattle.rtsp_record.specs.Sums.{one_if}
use Rattle.rtsp_pools.specs.Bits.{bit_of, has, count_below, IsSummed}
use Rattle.rtsp_pools.proofs.BitLemmas.{is_there, flag_off, flag_on, count_more, summed_with, read}
use Rattle.rtsp_pools.proofs.bit_set.BitSet.remove.Goals as goal

one_less : (limit : ℕ) (words summary next : List ℕ) (count n : ℕ) → IsSummed limit words summary count → n < limit → has words n ≡ true → bit_of next n ≡ 0
    → ((k : ℕ) → k ≢ n → bit_of next k ≡ bit_of words k) → count ≡ count_below next limit + 1
one_less limit words summary next count n sound within was is others =
    sound.counted ∙ count_more next words n limit within is (is_there words n was) (λ k apart. sym (others k apart))

pub overflow_sub-self : goal.overflow_sub-self
overflow_sub-self c =
    let old = c.args.self.now in
    let word = c.write_bit.ensures in
    omega (arith, one_less old.limit old.words.items old.summary.items c.write_bit.new.words.items old.count c.args.number old.summed c.requires.within c.requires.there word.there word.others)

pub invariant_of-self : goal.invariant_of-self
invariant_of-self c =
    let old = c.args.self.now in
    let n = c.args.number in
    let word = c.write_bit.ensures in
    let flag = c.write_bit-2.ensures in
    let next = c.write_bit.new.words.items in
    let left : c.index.result.now ≡ get_or next (n / 64) 0 = read next (n / 64) c.index.result.now (omega (arith, word.len, old.summed.long, c.requires.within)) c.index.ensures in
    let there : bit_of c.write_bit-2.new.words.items (n / 64) ≡ one_if (not (nat_eq (get_or next (n / 64) 0) 0)) = flag.there ∙ ap (λ w. one_if (not (nat_eq w 0))) left in
    let less = one_less old.limit old.words.items old.summary.items next old.count n old.summed c.requires.within c.requires.there word.there word.others in
    record {
      summed = summed_with old.limit old.count (old.count - 1) n _ old.words.items old.summary.items next c.write_bit-2.new.words.items old.summed
          word.len flag.len word.apart word.others there (flag_off (get_or next (n / 64) 0) _ refl) (flag_on (get_or next (n / 64) 0) _ refl) flag.others c.requires.within
          (omega (arith, less));
    }
