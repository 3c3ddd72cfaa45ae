-- What the code counts, as measures.
use Rattle.rtsp_record.specs.Sums as sums
use Rattle.rtsp_record.specs.Sums.{UdpPort, Channel, sessions, with_id, bindings, rates, covering, streams, clashing, elsewhere, other_tracks, returns}
use Rattle.rtsp_sessions.specs.declared.measures.Measure.{Measure}
use Rattle.rtsp_sessions.specs.declared.measures.Measure.TheVariants as measure

-- how much each part of a session counts by the measure of this name
abbrev pub measure_of : Measure → sums.Measure
measure_of measure.Sessions = sessions
measure_of (measure.Id id) = with_id id
measure_of (measure.Binding c i) = bindings c i
measure_of measure.Rates = rates
measure_of (measure.Port p) = covering (UdpPort p)
measure_of (measure.Channel c k) = covering (Channel c k)
measure_of measure.Streams = streams
measure_of (measure.Clashing v) = clashing v
measure_of (measure.Elsewhere v) = elsewhere v
measure_of (measure.OtherTracks t) = other_tracks t
measure_of measure.Returns = returns
