-- The addresses of a client (RFC 7826 section 18.54, dest_addr).
use Rattle.std.specs.Prelude.{◌≡◌, ◌<◌, ◌≤◌, ℕ, true, ◌==◌, ◌&&◌, nat_le, List, [], ◌∷◌, ◌++◌, Option, Some, None, if◌then◌else◌}
use Rattle.std.specs.List.{list_all}
use Rattle.rtsp_text.specs.Bytes.{is_other}
use Rattle.rtsp_text.specs.Options.{◌>>=◌}
use Rattle.rtsp_text.specs.Decimal.{SpellsNumber, number_of}
use Rattle.rtsp_text.specs.SplitOnce.{split_once}

-- a host, which may be empty, and a port
pub record Place : Type 0 where
  pub host : List ℕ
  pub port : ℕ

-- The text is a host without a colon, a colon and a port from 1 to 65,535.
pub record SpellsPlace (text : List ℕ) (place : Place) : Type 0 where
  pub digits : List ℕ
  pub parts : text ≡ place.host ++ 58 ∷ digits
  pub host : list_all (is_other 58) place.host ≡ true
  pub port : SpellsNumber 5 digits place.port
  pub some : 0 < place.port
  pub few : place.port ≤ 65535

-- where RTP goes, and where RTCP goes
pub record Places : Type 0 where
  pub rtp : Place
  pub rtcp : Place

-- The text is two quoted addresses joined by a slash. A quote ends at the next one.
pub record SpellsPlaces (text : List ℕ) (places : Places) : Type 0 where
  pub first : List ℕ
  pub second : List ℕ
  pub parts : text ≡ 34 ∷ first ++ 34 ∷ 47 ∷ 34 ∷ second ++ 34 ∷ []
  pub first_closed : list_all (is_other 34) first ≡ true
  pub second_closed : list_all (is_other 34) second ≡ true
  pub rtp : SpellsPlace first places.rtp
  pub rtcp : SpellsPlace second places.rtcp

-- The text is one quoted address.
pub record SpellsQuoted (text : List ℕ) (place : Place) : Type 0 where
  pub inner : List ℕ
  pub parts : text ≡ 34 ∷ inner ++ 34 ∷ []
  pub closed : list_all (is_other 34) inner ≡ true
  pub spells : SpellsPlace inner place

-- ---- the one address or pair of a text, read from left to right

-- what follows this byte, where the text begins with it
abbrev pub after : ℕ → List ℕ → Option (List ℕ)
after byte [] = None
after byte (b ∷ bytes) = if b == byte then Some bytes else None

-- what is in quotes at the front, and the text after them
unfoldable pub quoted_of : List ℕ → Option (List ℕ × List ℕ)
quoted_of text = do
  rest ← after 34 text
  split_once 34 rest

-- two texts, where nothing is after the second
abbrev pub alone : List ℕ → List ℕ × List ℕ → Option (List ℕ × List ℕ)
alone first (second, []) = Some (first, second)
alone first (second, b ∷ bytes) = None

unfoldable pub quoted_pair : List ℕ → Option (List ℕ × List ℕ)
quoted_pair text = do
  first ← quoted_of text
  rest ← after 47 first.1
  second ← quoted_of rest
  alone first.0 second

-- a text, where nothing is after it
abbrev pub whole : List ℕ × List ℕ → Option (List ℕ)
whole (inner, []) = Some inner
whole (inner, b ∷ bytes) = None

unfoldable pub quoted_whole : List ℕ → Option (List ℕ)
quoted_whole text = do
  parts ← quoted_of text
  whole parts

abbrev pub port_in : ℕ → Option ℕ
port_in n = if nat_le 1 n && nat_le n 65535 then Some n else None

unfoldable pub port_of : List ℕ → Option ℕ
port_of digits = do
  n ← number_of 5 digits
  port_in n

unfoldable pub place_of : List ℕ → Option Place
place_of text = do
  parts ← split_once 58 text
  port ← port_of parts.1
  Some (record { host = parts.0; port = port })

unfoldable pub quoted_place_of : List ℕ → Option Place
quoted_place_of text = do
  inner ← quoted_whole text
  place_of inner

unfoldable pub places_of : List ℕ → Option Places
places_of text = do
  parts ← quoted_pair text
  rtp ← place_of parts.0
  rtcp ← place_of parts.1
  Some (record { rtp = rtp; rtcp = rtcp })
