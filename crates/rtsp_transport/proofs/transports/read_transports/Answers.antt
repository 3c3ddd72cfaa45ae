use Rattle.rtsp_transport.specs.Transport.{SpellsTransport}
use Rattle.rtsp_transport.specs.TransportReading.{transports_of}
use Rattle.rtsp_transport.proofs.ReadsLemmas.{found, only, refused}
use Rattle.rtsp_transport.proofs.TransportLemmas.{transports_read}
use Rattle.rtsp_transport.proofs.transports.read_transports.Goals as goal

pub returns-clause-found : goal.returns-clause-found
returns-clause-found c = found SpellsTransport transports_of transports_read (λ v. v.items) c.args.text.now c.transports_of.result c.transports_of.ensures

pub returns-clause-only : goal.returns-clause-only
returns-clause-only c = only SpellsTransport transports_of transports_read (λ v. v.items) c.args.text.now c.transports_of.result c.transports_of.ensures

pub returns-clause-fault : goal.returns-clause-fault
returns-clause-fault c = refused SpellsTransport transports_of transports_read (λ v. v.items) c.args.text.now c.transports_of.result c.transports_of.ensures
