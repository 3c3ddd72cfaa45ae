-- What parameters ask for.
use Rattle.std.specs.Prelude.{ℕ, Bool, false, not, ◌||◌, ◌&&◌, is_some, List, Option, Some, None, codes}
use Rattle.std.specs.List.{find}
use Rattle.rtsp_transport.specs.Names.{is_named, is_unserved}
use Rattle.rtsp_transport.specs.declared.spec.Parameter.{Parameter}

-- a mode that is PLAY, in quotes or not
abbrev pub is_play : Option (List ℕ) → Bool
is_play None = false
is_play (Some mode) = is_named mode (codes "PLAY") || is_named mode (codes "\"PLAY\"")

-- RTCP-mux with a value, which it never has (RFC 7826 section 18.54)
unfoldable pub mux_has_value : Parameter → Bool
mux_has_value p = is_named p.name (codes "RTCP-mux") && is_some p.value

-- the parameter asks for more than this server serves
unfoldable pub asks_more : Parameter → Bool
asks_more p = (is_unserved p.name || mux_has_value p) || (is_named p.name (codes "mode") && not (is_play p.value))

-- the first parameter of a name
abbrev pub first_named : List ℕ → List Parameter → Option Parameter
first_named name parameters = find (λ p. is_named p.name name) parameters

-- the value of a parameter, where there is one
abbrev pub value_in : Option Parameter → Option (List ℕ)
value_in None = None
value_in (Some p) = p.value

-- the value of the first parameter of a name
abbrev pub first_value : List ℕ → List Parameter → Option (List ℕ)
first_value name parameters = value_in (first_named name parameters)

-- RTP and RTCP are to share one port (RFC 5761)
abbrev pub has_mux : List Parameter → Bool
has_mux parameters = is_some (first_named (codes "RTCP-mux") parameters)
