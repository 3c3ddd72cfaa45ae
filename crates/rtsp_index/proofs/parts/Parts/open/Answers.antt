use Rattle.std.proofs.Common.{sym, subst, arith}
use Rattle.rtsp_record.proofs.Sound.{sound-empty}
use Rattle.rtsp_index.specs.Agreeing.{Agree}
use Rattle.rtsp_index.proofs.parts.Parts.open.Goals as goal

pub returns-clause-agree : goal.returns-clause-agree
returns-clause-agree c =
    let w = c.args.whole.now in
    subst (λ b. Agree w b c.in_ok-pools.pools c.new-2.result c.new-3.result) (sym c.new.ensures)
    (record {
      sound = sound-empty w;
      ports = c.requires;
      small = omega arith;
      whole = c.in_ok-pools.ensures.whole;
      pools = c.in_ok-pools.ensures.free;
      names = c.new-2.ensures;
      counts = c.new-3.ensures;
    })
