use Rattle.std.proofs.Common.{None, ◌∙◌, ℕ, List, slice_index_or, subst}
use Rattle.rtsp_rtp.specs.declared.source.Source.{Source}
use Rattle.rtsp_content.specs.declared.packing.Packing.TheVariants.{Single}
use Rattle.rtsp_rtp.proofs.Leaving.{said_more, said_all}
use Rattle.rtsp_rtp.proofs.goodbye.say_goodbye.Goals as goal

pub loop-source-preserved : goal.loop-source-preserved
loop-source-preserved g c = λ u rest.
    let sends = g.S.ControlSink.sends in
    let xs = c.args.sources.now in
    let i = c.loop-source.source-index in
    let d : Source = record { track = 0; payload_type = 0; packing = Single; octets = 0; ticks = 0; ssrc = 0; seq = 0; rtptime = 0 } in
    let said = subst (λ (p : List ℕ). sends c.loop-source.sink (slice_index_or xs i d).track p c.send_control.new.self) (c.put_whole.ensures ∙ c.goodbye.ensures) c.send_control.ensures in
    c.loop-source.invariant u (said_more sends xs i d c.loop-source.sink c.send_control.new.self u c.loop-source-test.true said rest)

pub returns : goal.returns
returns g c = c.loop-source.invariant c.loop-source.sink (said_all g.S.ControlSink.sends c.args.sources.now c.loop-source.source-index c.loop-source.sink c.loop-source-test.false)
