-- The option tags of a Require header (RFC 7826 section 18.43).
use Rattle.std.specs.Prelude.{◌≡◌, ◌≢◌, ℕ, Bool, true, false, not, ◌||◌, List, [], codes, Result, Ok, Err, if◌then◌else◌}
use Rattle.std.specs.List.{join_with_byte}
use Rattle.std.specs.Str.{bytes_eq}
use Rattle.rtsp_text.specs.Bytes.{is_token}
use Rattle.rtsp_text.specs.Results.{each_of}
use Rattle.rtsp_transport.specs.Paired.{Paired}
use Rattle.rtsp_transport.specs.Split.{is_closed, split}
use Rattle.rtsp_text.specs.Trim.{IsPadded, trimmed}
use Rattle.rtsp_transport.specs.declared.fault.TextFault.{TextFault}
use Rattle.rtsp_transport.specs.declared.fault.TextFault.TheVariants.{Malformed}

-- The part is a token with spaces and tabs round it.
pub record SpellsTag (part tag : List ℕ) : Type 0 where
  pub padded : IsPadded part tag
  pub token : is_token tag ≡ true

-- The text is tags with commas between them, at least one.
pub record SpellsTags (text : List ℕ) (tags : List (List ℕ)) : Type 0 where
  pub parts : List (List ℕ)
  pub joined : text ≡ join_with_byte 44 parts
  pub some : parts ≢ []
  pub each : Paired SpellsTag parts tags

-- what this server can do
abbrev pub is_known : List ℕ → Bool
is_known tag = bytes_eq tag (codes "play.basic") || bytes_eq tag (codes "setup.rtp.rtcp.mux")

-- ---- the one list of tags of a text, read from left to right

unfoldable pub tag_of : List ℕ → Result (List ℕ) TextFault
tag_of part = if is_token (trimmed part) then Ok (trimmed part) else Err Malformed

abbrev pub tags_in : List (List ℕ) → Result (List (List ℕ)) TextFault
tags_in parts = each_of tag_of parts

unfoldable pub tags_of : List ℕ → Result (List (List ℕ)) TextFault
tags_of text = if not (is_closed false text) then Err Malformed else tags_in (split false 44 text)
