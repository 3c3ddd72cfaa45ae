-- How a head is read, line by line. That this is what the rules say is the law `ReadsRules`.
use Rattle.std.specs.Prelude.{◌≡◌, ◌≢◌, ℕ, ◌+◌, ◌-◌, ◌*◌, Bool, false, ◌&&◌, ◌==◌, nat_lt, nat_eq, List, [], ◌∷◌, ◌++◌, length, drop, codes, Option, Some, None, Result, Ok, Err, if◌then◌else◌}
use Rattle.std.specs.Char.{is_ascii_digit}
use Rattle.std.specs.List.{list_all, starts_with}
use Rattle.rtsp_text.specs.Results.{◌>>=◌}
use Rattle.rtsp_text.specs.Bytes.{is_number, is_token}
use Rattle.rtsp_text.specs.Trim.{trim_end, trimmed}
use Rattle.rtsp_text.specs.SplitOnce.{split_once}
use Rattle.rtsp_grammar.specs.Bytes.{is_value_byte}
use Rattle.rtsp_grammar.specs.Folds.{begins_blank, fold_text}
use Rattle.rtsp_grammar.specs.Head.{HeadRule}
use Rattle.rtsp_grammar.specs.Header.{HeaderText, values_of}
use Rattle.rtsp_grammar.specs.Length.{is_length}
use Rattle.rtsp_grammar.specs.Method.{method_of}
use Rattle.rtsp_grammar.specs.Number.{number_of}
use Rattle.rtsp_grammar.specs.Words.{is_method, is_uri}
use Rattle.rtsp_grammar.specs.declared.head.Head.{Head}
use Rattle.rtsp_grammar.specs.declared.version.Version.{Version}
use Rattle.rtsp_grammar.specs.declared.version.Version.TheVariants.{Rtsp2, Other}
use Rattle.rtsp_grammar.specs.declared.start_line.StartLine.{StartLine}
use Rattle.rtsp_grammar.specs.declared.start_line.StartLine.TheVariants.{Request, Status}
use Rattle.rtsp_grammar.specs.declared.fault.MessageFault.{MessageFault}
use Rattle.rtsp_grammar.specs.declared.fault.MessageFault.TheVariants.{BadLine, UriTooLong, BadHeader, HeadTooLong, BodyTooLong, BadLength}

-- the first of lines, up to its CR, and the others, after the LF
abbrev pub line_and_others : List ℕ → Option (List ℕ × List ℕ) → List ℕ × List ℕ
line_and_others lines None = (lines, [])
line_and_others lines (Some halves) = (halves.0, drop 1 halves.1)

-- the first line of a text of lines, and the others
abbrev pub split_line : List ℕ → List ℕ × List ℕ
split_line lines = line_and_others lines (split_once 13 lines)

-- two numbers in digits
abbrev pub are_numbers : Option (List ℕ × List ℕ) → Bool
are_numbers None = false
are_numbers (Some numbers) = is_number numbers.0 && is_number numbers.1

-- the protocol's name, a slash, digits, a dot, digits
abbrev pub is_version : List ℕ → Bool
is_version text = starts_with nat_eq text (codes "RTSP/") && are_numbers (split_once 46 (drop 5 text))

-- 2 and 0
abbrev pub are_2_and_0 : Option (List ℕ × List ℕ) → Bool
are_2_and_0 None = false
are_2_and_0 (Some numbers) = number_of numbers.0 == 2 && number_of numbers.1 == 0

-- a version whose numbers are 2 and 0
abbrev pub is_version_2_0 : List ℕ → Bool
is_version_2_0 text = is_version text && are_2_and_0 (split_once 46 (drop 5 text))

-- the version that a text is
unfoldable pub version_of : List ℕ → Version
version_of text = if is_version_2_0 text then Rtsp2 else Other text

-- a method, and what is split after it: a URI and a version
abbrev pub request_of : List ℕ → Option (List ℕ × List ℕ) → Result StartLine MessageFault
request_of method None = Err BadLine
request_of method (Some (uri, version)) =
    if is_method method && is_uri uri && is_version version
    then (if nat_lt 1024 (length uri) then Err UriTooLong else Ok (Request (method_of method) uri (version_of version)))
    else Err BadLine

-- a request line, by what is before its first space and after it
abbrev pub request_of_halves : Option (List ℕ × List ℕ) → Result StartLine MessageFault
request_of_halves None = Err BadLine
request_of_halves (Some (method, rest)) = request_of method (split_once 32 rest)

-- a request line
unfoldable pub request_line_of : List ℕ → Result StartLine MessageFault
request_line_of line = request_of_halves (split_once 32 line)

-- three digits, a space and the reason
abbrev pub status_of : List ℕ → List ℕ → Result StartLine MessageFault
status_of version (a ∷ b ∷ c ∷ space ∷ reason) =
    if is_ascii_digit a && is_ascii_digit b && is_ascii_digit c && space == 32
    then Ok (Status (version_of version) (100 * (a - 48) + 10 * (b - 48) + (c - 48)) reason)
    else Err BadLine
status_of version other = Err BadLine

-- a status line, by what is before its first space and after it
abbrev pub status_of_halves : Option (List ℕ × List ℕ) → Result StartLine MessageFault
status_of_halves None = Err BadLine
status_of_halves (Some (version, rest)) = if is_version version then status_of version rest else Err BadLine

-- a status line
unfoldable pub status_line_of : List ℕ → Result StartLine MessageFault
status_line_of line = status_of_halves (split_once 32 line)

-- the first line of a message
unfoldable pub start_of : List ℕ → Result StartLine MessageFault
start_of line = if starts_with nat_eq line (codes "RTSP/") then status_line_of line else request_line_of line

-- what continues the line before these lines, and the lines with what continues them
unfoldable pub folded : List (List ℕ) → List ℕ × List (List ℕ)
folded [] = ([], [])
folded (line ∷ lines) =
    if begins_blank line then (fold_text line ++ (folded lines).0, (folded lines).1) else ([], (line ++ (folded lines).0) ∷ (folded lines).1)

-- the lines after those that continue the line before
unfoldable pub after_folds : List (List ℕ) → List (List ℕ)
after_folds [] = []
after_folds (line ∷ lines) = if begins_blank line then after_folds lines else line ∷ lines

-- the first line must continue none
abbrev pub unfolded_or_bad : List ℕ × List (List ℕ) → Result (List (List ℕ)) MessageFault
unfolded_or_bad ([], lines) = Ok lines
unfolded_or_bad (b ∷ more, lines) = Err BadHeader

-- lines with what continues them
abbrev pub unfolded : List (List ℕ) → Result (List (List ℕ)) MessageFault
unfolded lines = unfolded_or_bad (folded lines)

-- lines with what continues them, at most 64
unfoldable pub unfold_lines : List (List ℕ) → Result (List (List ℕ)) MessageFault
unfold_lines lines = do
  unfolded_lines ← unfolded lines
  if nat_lt 64 (length unfolded_lines) then Err HeadTooLong else Ok unfolded_lines

-- a name and a value
abbrev pub header_of_halves : Option (List ℕ × List ℕ) → Result HeaderText MessageFault
header_of_halves None = Err BadHeader
header_of_halves (Some (name, value)) =
    if is_token (trim_end name) && list_all is_value_byte (trimmed value)
    then Ok (record { name = trim_end name; value = trimmed value })
    else Err BadHeader

-- one header
unfoldable pub header_of : List ℕ → Result HeaderText MessageFault
header_of line = header_of_halves (split_once 58 line)

-- one header of each line
unfoldable pub headers_of : List (List ℕ) → Result (List HeaderText) MessageFault
headers_of [] = Ok []
headers_of (line ∷ lines) = do
  first ← header_of line
  others ← headers_of lines
  Ok (first ∷ others)

-- the headers of header lines
unfoldable pub header_lines_of : List (List ℕ) → Result (List HeaderText) MessageFault
header_lines_of lines = do
  unfolded_lines ← unfold_lines lines
  headers_of unfolded_lines

-- the length that a value announces
abbrev pub length_of_value : List ℕ → Result ℕ MessageFault
length_of_value value =
    if is_length value
    then (if nat_lt 65536 (number_of value) then Err BodyTooLong else Ok (number_of value))
    else Err BadLength

-- no value is no body
abbrev pub length_of_values : List (List ℕ) → Result ℕ MessageFault
length_of_values [] = Ok 0
length_of_values (value ∷ []) = length_of_value value
length_of_values (value ∷ other ∷ values) = Err BadLength

-- the length of the body of a message with these headers
unfoldable pub body_length : List HeaderText → Result ℕ MessageFault
body_length headers = length_of_values (values_of (codes "Content-Length") headers)

-- the head of these lines, and the length of its body
unfoldable pub head_of : List (List ℕ) → Result (Head × ℕ) MessageFault
head_of [] = Err BadLine
head_of (first ∷ others) = do
  start ← start_of first
  headers ← header_lines_of others
  length ← body_length headers
  Ok (record { start = start; headers = headers }, length)

-- what is read of a head's lines is what the rules say of them
abbrev pub ReadsRules : Type 0
ReadsRules = (lines : List (List ℕ)) → lines ≢ [] → HeadRule lines (head_of lines)

-- and the rules say nothing else
abbrev pub OneReading : Type 0
OneReading = (lines : List (List ℕ)) (read : Result (Head × ℕ) MessageFault) → HeadRule lines read → head_of lines ≡ read
