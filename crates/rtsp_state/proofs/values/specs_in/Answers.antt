use Rattle.std.proofs.Common.{ap}
use Rattle.rtsp_transport.specs.Transport.{SpellsTransport}
use Rattle.rtsp_transport.specs.TransportReading.{transports_of}
use Rattle.rtsp_transport.proofs.TransportLemmas.{transports_read}
use Rattle.rtsp_state.specs.Values.{read_by, specs_in}
use Rattle.rtsp_state.proofs.ReadLemmas.{read_ok, refused}
use Rattle.rtsp_state.proofs.values.specs_in.Goals as goal

pub returns-in-Ok : goal.returns-in-Ok
unfolding specs_in
returns-in-Ok c = ap read_by (read_ok SpellsTransport transports_of transports_read c.args.value.now _ c.in-Ok.ensures.found)

pub returns-in-Err : goal.returns-in-Err
unfolding specs_in
returns-in-Err c = refused SpellsTransport transports_of transports_read c.args.value.now _ c.fault_of.result c.in-Err.ensures.fault c.fault_of.ensures
