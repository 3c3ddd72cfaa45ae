-- Values of a request's headers, and its URI, as the lower crates read them.
use Rattle.std.specs.Prelude.{ℕ, ◌-◌, Bool, not, ◌&&◌, ◌||◌, ◌==◌, nat_lt, nat_le, List, [], ◌∷◌, ◌++◌, length, codes, bytes_eq, slice_get, slice_index, filter, Option, Some, None, Result, Ok, Err, if◌then◌else◌}
use Rattle.std.specs.List.{list_all, flat_map}
use Rattle.std.specs.Str.{is_utf8}
use Rattle.std.specs.Str.Parse.{digits_value}
use Rattle.rtsp_grammar.specs.Header.{HeaderText, values_of}
use Rattle.rtsp_transport.specs.Session.{is_session_name, name_of}
use Rattle.rtsp_transport.specs.Tags.{is_known, tags_of}
use Rattle.rtsp_transport.specs.TransportReading.{transports_of}
use Rattle.rtsp_transport.specs.declared.spec.Spec.{Spec}
use Rattle.rtsp_transport.specs.declared.fault.TextFault.{TextFault}
use Rattle.rtsp_transport.specs.declared.fault.TextFault.TheVariants as texts
use Rattle.url.specs.declared.slicing.Position.TheVariants.{BeforeScheme, AfterPath}
use Rattle.url.specs.declared.error.ParseError.{ParseError}
use Rattle.url.specs.Parser.{parse_url}
use Rattle.url.specs.Parts.{Parts, text_between}
use Rattle.rtsp_state.specs.declared.status.Status.TheVariants.{BadRequest}
use Rattle.rtsp_state.specs.declared.fault.Fault.{Fault}
use Rattle.rtsp_state.specs.declared.fault.Fault.TheVariants.{Refused, OutOfMemory}

-- the value of a header that may stand once at most
abbrev pub single_of : List (List ℕ) → Result (Option (List ℕ)) Fault
single_of values = if nat_lt 1 (length values) then Err (Refused BadRequest) else Ok (slice_get values 0)

abbrev pub single_value : List ℕ → List HeaderText → Result (Option (List ℕ)) Fault
single_value name headers = single_of (values_of name headers)

-- a text behind a comma and a space
abbrev pub behind_comma : List ℕ → List ℕ
behind_comma text = codes ", " ++ text

-- texts joined by a comma and a space
abbrev pub joined : List (List ℕ) → List ℕ
joined [] = []
joined (text ∷ texts) = text ++ flat_map behind_comma texts

-- several headers of a name are one
abbrev pub joined_of : List (List ℕ) → Option (List ℕ)
joined_of [] = None
joined_of (value ∷ values) = Some (joined (value ∷ values))

abbrev pub joined_in : List ℕ → List HeaderText → Option (List ℕ)
joined_in name headers = joined_of (values_of name headers)

-- the digits 0 to 9 and a to f
abbrev pub is_hex_digit : ℕ → Bool
is_hex_digit b = (nat_le 48 b && nat_le b 57) || (nat_le 97 b && nat_le b 102)

-- the session's id that a name is: 32 of those digits
unfoldable pub id_of : List ℕ → Option ℕ
id_of name = if length name == 32 && list_all is_hex_digit name then Some (digits_value 16 name) else None

-- the scheme of a connection as it is, or of one under TLS, which ends in front of the server
abbrev pub is_rtsp : List ℕ → Bool
is_rtsp scheme = bytes_eq scheme (codes "rtsp") || bytes_eq scheme (codes "rtsps")

-- the URL that a reading gave, if its scheme is rtsp or rtsps
abbrev pub of_scheme : Result Parts ParseError → Option Parts
of_scheme (Ok url) = if is_rtsp url.scheme then Some url else None
of_scheme (Err e) = None

-- the rtsp URL that a text is, by the URL Standard
abbrev pub rtsp_url : List ℕ → Option Parts
rtsp_url text = of_scheme (parse_url None text)

-- the rtsp URL that bytes are; none where they are no text
unfoldable pub uri_of : List ℕ → Option Parts
uri_of bytes = if is_utf8 bytes then rtsp_url bytes else None

-- the URL as it is written, without query and fragment
abbrev pub bare_text : Parts → List ℕ
bare_text url = text_between url BeforeScheme AfterPath

abbrev pub ends_in_slash : List ℕ → Bool
ends_in_slash text = nat_lt 0 (length text) && slice_index text (length text - 1) == 47

-- the text, with one slash at its end
unfoldable pub with_slash : List ℕ → List ℕ
with_slash text = if ends_in_slash text then text else text ++ 47 ∷ []

-- the name in a Session header, before what is ignored; none where it is malformed
unfoldable pub session_name : List ℕ → Option (List ℕ)
session_name value = if is_session_name (name_of value) then Some (name_of value) else None

-- a malformed value is refused
abbrev pub fault_of : TextFault → Fault
fault_of texts.Malformed = Refused BadRequest
fault_of texts.OutOfMemory = OutOfMemory

abbrev pub read_by : {X : Type 0} → Result X TextFault → Result X Fault
read_by (Ok x) = Ok x
read_by (Err fault) = Err (fault_of fault)

-- the option tags of a Require header
unfoldable pub tags_in : List ℕ → Result (List (List ℕ)) Fault
tags_in value = read_by (tags_of value)

-- the specifications of a Transport header
unfoldable pub specs_in : List ℕ → Result (List Spec) Fault
specs_in value = read_by (transports_of value)

-- the option tags that this server doesn't know
abbrev pub unknown_tags : List (List ℕ) → List (List ℕ)
unknown_tags tags = filter (λ tag. not (is_known tag)) tags
