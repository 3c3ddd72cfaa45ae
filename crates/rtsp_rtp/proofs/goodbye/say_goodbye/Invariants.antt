use Rattle.std.proofs.Common.{drop}
use Rattle.rtsp_rtp.specs.Goodbyes.{SaysGoodbye}
use Rattle.rtsp_rtp.proofs.goodbye.say_goodbye.Given as goal

-- the goodbyes that are left are all that is missing
abbrev pub invariant-loop-source : goal.invariant-loop-source
invariant-loop-source g l =
    (u : _) → SaysGoodbye g.S.ControlSink.sends (drop l.source-index l.sources) l.sink u → SaysGoodbye g.S.ControlSink.sends l.sources l.fn.sink u
