-- What is answered before a session is looked up, and what is handed on.
use Rattle.std.specs.Prelude.{ℕ, [], None, Result, Ok, Err}
use Rattle.rtsp_grammar.specs.declared.message.Request.{Request}
use Rattle.rtsp_content.specs.TableValue.{TableValue}
use Rattle.rtsp_state.specs.declared.status.Status.TheVariants.{BadRequest}
use Rattle.rtsp_state.specs.declared.fault.Fault.{Fault}
use Rattle.rtsp_state.specs.declared.order_of_refusals.Asked.{Asked}
use Rattle.rtsp_state.specs.declared.request.Screen.{Screen}
use Rattle.rtsp_state.specs.declared.request.Screen.TheVariants.{Answered, Asks}
use Rattle.rtsp_state.specs.ParsedRequest.{ParsedValue}
use Rattle.rtsp_state.specs.OrderOfRefusals.{cseq_of, asked_of}
use Rattle.rtsp_state.specs.Response.{response, refused}

-- what is handed on of a request that is decided
abbrev pub parsed : ℕ → Asked → Request → ParsedValue
parsed cseq asked request = record {
  cseq = cseq;
  method = asked.method;
  target = asked.target;
  name = asked.name;
  headers = request.headers;
  body = request.body;
}

-- the response of the first six places, without CSeq where there is none to show, or what the request asks
abbrev pub screened : Request → Result ℕ Fault → Result Asked Fault → Screen
screened request (Err fault) asked = Answered (response BadRequest [] [])
screened request (Ok cseq) (Err fault) = Answered (refused (record { cseq = cseq; session = None }) fault)
screened request (Ok cseq) (Ok asked) = Asks (parsed cseq asked request)

unfoldable pub screen : TableValue → Request → Screen
screen table request = screened request (cseq_of request.headers) (asked_of table request)
