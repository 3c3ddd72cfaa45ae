-- A pacer, as its fields give it.
use Rattle.std.specs.Prelude.{length}
use Rattle.rtsp_rtp.specs.declared.pacer.Pacer.TheInside.{Inside}
use Rattle.rtsp_rtp.specs.Pacing.{Pacing, IsPacing}
use Rattle.rtsp_rtp.specs.Progress.{pacing_of, IsPlaced}

abbrev pub pacing_view : Inside → Pacing
pacing_view p = pacing_of p.play p.next p.states

pub record IsInside (p : Inside) : Type 0 where
  pub pacing : IsPacing (pacing_view p)
  pub placed : IsPlaced (length p.play.sources) p.next
