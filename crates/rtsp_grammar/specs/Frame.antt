-- Frames of a channel (RFC 7826 section 14).
use Rattle.std.specs.Prelude.{◌≡◌, ℕ, ◌+◌, ◌*◌, ◌<◌, ◌^◌, List, [], ◌∷◌, ◌++◌, length}
use Rattle.std.specs.Int.{w16, to_be_bytes}
use Rattle.rtsp_grammar.specs.declared.message.Frame.{Frame}

-- `$`, the channel, two bytes of length with the most significant first, and the payload
abbrev pub frame_text : Frame → List ℕ
frame_text f = 36 ∷ f.channel ∷ to_be_bytes w16 (length f.payload) ++ f.payload

-- what can stand in a frame
pub record IsFrame (f : Frame) : Type 0 where
  pub channel : f.channel < 2 ^ 8
  pub payload : length f.payload < 2 ^ 16

-- the first byte is a frame's
abbrev pub BeginsFrame : List ℕ → Type 0
BeginsFrame [] = ⊥
BeginsFrame (b ∷ bytes) = b ≡ 36

-- fewer bytes than the frame's length says, or less than a length
abbrev pub IsShortFrame : List ℕ → Type 0
IsShortFrame (sign ∷ channel ∷ high ∷ low ∷ bytes) = length bytes < 256 * high + low
IsShortFrame bytes = Unit {0}

-- the bytes of a frame, or of its length where that isn't whole
abbrev pub frame_len : List ℕ → ℕ
frame_len (sign ∷ channel ∷ high ∷ low ∷ bytes) = 4 + (256 * high + low)
frame_len bytes = 4
