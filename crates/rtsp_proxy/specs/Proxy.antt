-- The header at the front of a connection (the PROXY protocol, versions 1 and 2).
use Rattle.std.specs.Prelude.{ℕ, List, [], ◌∷◌, codes}
use Rattle.rtsp_proxy.specs.declared.seen.ProxyFault.TheVariants.{NoHeader}
use Rattle.rtsp_proxy.specs.declared.seen.Seen.{Seen}
use Rattle.rtsp_proxy.specs.declared.seen.Seen.TheVariants.{Undecided, Refused}
use Rattle.rtsp_proxy.specs.Front.{Fronts, whole, part, other, begins}
use Rattle.rtsp_proxy.specs.Line.{line_of}
use Rattle.rtsp_proxy.specs.Binary.{binary_of}

abbrev pub word : List ℕ
word = codes "PROXY "

-- CR LF CR LF NUL CR LF QUIT LF
abbrev pub signature : List ℕ
signature = 13 ∷ 10 ∷ 13 ∷ 10 ∷ 0 ∷ 13 ∷ 10 ∷ 81 ∷ 85 ∷ 73 ∷ 84 ∷ 10 ∷ []

abbrev pub in_binary : Fronts → Seen
in_binary (whole rest) = binary_of rest
in_binary part = Undecided
in_binary other = Refused NoHeader

abbrev pub in_line : List ℕ → Fronts → Seen
in_line text (whole rest) = line_of rest
in_line text part = Undecided
in_line text other = in_binary (begins signature text)

unfoldable pub proxy_of : List ℕ → Seen
proxy_of text = in_line text (begins word text)
