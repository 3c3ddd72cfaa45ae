use Rattle.std.proofs.Common.{◌+◌, ◌∙◌, sym, ap, arith}
use Rattle.rtsp_pools.proofs.BitLemmas.{isnt_there, positive, count_more, count_small, summed_with}
use Rattle.rtsp_pools.proofs.bit_set.BitSet.insert.Goals as goal

pub overflow_add-self : goal.overflow_add-self
overflow_add-self c = omega (arith, c.args.self.now.summed.counted, count_small c.args.self.now.words.items c.args.self.now.limit, c.requires.within, c.args.self.now.summed.long, c.args.self.now.summed.tall, c.args.self.now.summed.few)

pub invariant_of-self : goal.invariant_of-self
invariant_of-self c =
    let old = c.args.self.now in
    let n = c.args.number in
    let word = c.write_bit.ensures in
    let flag = c.write_bit-2.ensures in
    let more = count_more old.words.items c.write_bit.new.words.items n old.limit c.requires.within (isnt_there old.words.items n c.requires.new) word.there word.others in
    record {
      summed = summed_with old.limit old.count (old.count + 1) n 1 old.words.items old.summary.items c.write_bit.new.words.items c.write_bit-2.new.words.items old.summed
          word.len flag.len word.apart word.others flag.there (λ h. absurd (omega (arith, h))) (λ h. positive _ _ word.there) flag.others c.requires.within
          (ap (λ m. m + 1) old.summed.counted ∙ sym more);
    }
