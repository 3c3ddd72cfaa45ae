-- What is answered where a message can't be read (RFC 7826 section 17): a response without a number, of fixed bytes.
use Rattle.std.specs.Prelude.{ℕ, List, ◌++◌, codes, [], ◌∷◌}
use Rattle.rtsp_grammar.specs.declared.fault.MessageFault.{MessageFault}
use Rattle.rtsp_grammar.specs.declared.fault.MessageFault.TheVariants.{BadLine, BadHeader, HeadTooLong, UriTooLong, BodyTooLong, BadLength, OutOfMemory}

-- a status line and the empty line
abbrev pub bare_response : List ℕ → List ℕ
bare_response status = codes "RTSP/2.0 " ++ status ++ 13 ∷ 10 ∷ 13 ∷ 10 ∷ []

-- 414 for a URI that is too long, 500 for want of memory, else 400
unfoldable pub fault_response : MessageFault → List ℕ
fault_response UriTooLong = bare_response (codes "414 Request-URI Too Long")
fault_response OutOfMemory = bare_response (codes "500 Internal Server Error")
fault_response BadLine = bare_response (codes "400 Bad Request")
fault_response BadHeader = bare_response (codes "400 Bad Request")
fault_response HeadTooLong = bare_response (codes "400 Bad Request")
fault_response BodyTooLong = bare_response (codes "400 Bad Request")
fault_response BadLength = bare_response (codes "400 Bad Request")
