-- Names and protocols, which are compared without regard to ASCII case.
use Rattle.std.specs.Prelude.{ℕ, Bool, ◌||◌, nat_eq, List, map, codes}
use Rattle.std.specs.Char.{to_ascii_lowercase}
use Rattle.std.specs.Cmp.Lexicographic.{pointwise}

-- the names are one but for the case of their letters
abbrev pub is_named : List ℕ → List ℕ → Bool
is_named name other = pointwise nat_eq (map to_ascii_lowercase name) (map to_ascii_lowercase other)

-- RTP over UDP (RFC 7826 appendix C.1.1)
unfoldable pub is_udp : List ℕ → Bool
is_udp protocol = is_named protocol (codes "RTP/AVP") || is_named protocol (codes "RTP/AVP/UDP")

-- RTP over the connection itself (RFC 7826 section 14)
unfoldable pub is_tcp : List ℕ → Bool
is_tcp protocol = is_named protocol (codes "RTP/AVP/TCP")

-- a parameter of this name asks for more than this server serves
unfoldable pub is_unserved : List ℕ → Bool
is_unserved name =
    (((((is_named name (codes "multicast") || is_named name (codes "ttl")) || is_named name (codes "layers")) || is_named name (codes "setup"))
    || is_named name (codes "connection")) || is_named name (codes "MIKEY"))
