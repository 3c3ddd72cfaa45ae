-- The law over the readers.
use Rattle.rtsp_text.proofs.DecimalLemmas.{numbers}
use Rattle.rtsp_transport.specs.Laws.{HeaderGrammar}
use Rattle.rtsp_transport.proofs.PickingLemmas.{picks}
use Rattle.rtsp_transport.proofs.SessionLemmas.{session_is}
use Rattle.rtsp_transport.proofs.TagsLemmas.{tags_read}
use Rattle.rtsp_transport.proofs.TransportLemmas.{transports_read}

pub header_grammar : HeaderGrammar
header_grammar = record {
  transport = transports_read;
  require = tags_read;
  session = session_is;
  cseq = numbers 9;
  pipelined_requests = numbers 8;
  pick = picks;
}
