-- Words of a message: tokens, methods and URIs (RFC 7826 section 20.1).
use Rattle.std.specs.Prelude.{ℕ, Bool, ◌&&◌, not, nat_eq, List, [], ◌∷◌}
use Rattle.std.specs.List.{starts_with}
use Rattle.rtsp_text.specs.Bytes.{is_some_of, is_token}
use Rattle.rtsp_grammar.specs.Bytes.{is_uri_byte}

-- a token that doesn't begin with `$`, the sign of a frame
abbrev pub is_method : List ℕ → Bool
is_method bytes = is_token bytes && not (starts_with nat_eq bytes (36 ∷ []))

-- one byte of a URI or more
abbrev pub is_uri : List ℕ → Bool
is_uri bytes = is_some_of is_uri_byte bytes
