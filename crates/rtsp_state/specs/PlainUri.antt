-- URIs of the plain form, which the parser of URLs leaves as they are: `rtsp://host/path` or `rtsp://host:port/path`,
-- and the same with `rtsps`, the host in lower case, with no escape, no segment that begins with a dot, no query and no fragment.
use Rattle.std.specs.Prelude.{◌≡◌, ℕ, ◌^◌, ◌<◌, Bool, true, false, not, ◌&&◌, ◌||◌, ◌==◌, nat_le, List, [], ◌∷◌, ◌++◌, length, codes, decimal, Option, Some, None, IfSome}
use Rattle.std.specs.List.{list_all}

-- a byte of a host: a to z, 0 to 9, a hyphen or a dot
abbrev pub is_host_byte : ℕ → Bool
is_host_byte b = (nat_le 97 b && nat_le b 122) || (nat_le 48 b && nat_le b 57) || b == 45 || b == 46

-- a byte of a path: one of those, A to Z, an underscore or a slash
abbrev pub is_path_byte : ℕ → Bool
is_path_byte b = is_host_byte b || (nat_le 65 b && nat_le b 90) || b == 95 || b == 47

-- a byte of a path that may stand right behind the other: after a slash no dot
abbrev pub may_follow : ℕ → ℕ → Bool
may_follow before b = is_path_byte b && not (before == 47 && b == 46)

-- each byte may stand behind the one before it, and the first behind this one
abbrev pub is_plain_after : ℕ → List ℕ → Bool
is_plain_after before [] = true
is_plain_after before (b ∷ bytes) = may_follow before b && is_plain_after b bytes

-- a slash, and then bytes of a path
abbrev pub is_plain_path : List ℕ → Bool
is_plain_path [] = false
is_plain_path (b ∷ bytes) = b == 47 && is_plain_after 47 bytes

-- the schemes, and how each is written
pub data Scheme : Type 0 where
  rtsp : Scheme
  rtsps : Scheme

abbrev pub scheme_text : Scheme → List ℕ
scheme_text rtsp = codes "rtsp"
scheme_text rtsps = codes "rtsps"

-- the text is a scheme, and then the rest
pub record FollowsScheme (text rest : List ℕ) : Type 0 where
  pub scheme : Scheme
  pub spelled : text ≡ scheme_text scheme ++ (codes "://" ++ rest)

-- a port as it is written behind a host, or nothing
abbrev pub port_text : Option ℕ → List ℕ
port_text None = []
port_text (Some port) = codes ":" ++ decimal port

-- the text is a port, or none, and then the rest
pub record FollowsPort (text rest : List ℕ) : Type 0 where
  pub port : Option ℕ
  pub fits : IfSome port (λ n. n < 2 ^ 16)
  pub spelled : text ≡ port_text port ++ rest

-- the text is a plain URI with this path
pub record IsPlainUri (text path : List ℕ) : Type 0 where
  pub host : List ℕ
  pub behind : List ℕ
  pub begins : FollowsScheme text (host ++ behind)
  pub some : 0 < length host
  pub named : list_all is_host_byte host ≡ true
  pub follows : FollowsPort behind path
  pub plain : is_plain_path path ≡ true
