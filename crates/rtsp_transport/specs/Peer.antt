-- The text of an IPv4 address.
use Rattle.std.specs.Prelude.{ℕ, Bool, ◌/◌, ◌%◌, List, ◌∷◌, ◌++◌, nat_eq, length, drop, decimal, Option, Some, None, if◌then◌else◌}
use Rattle.std.specs.List.{starts_with}
use Rattle.std.specs.Cmp.Lexicographic.{pointwise}
use Rattle.rtsp_text.specs.Options.{◌>>=◌}
use Rattle.rtsp_transport.specs.Address.{after}

-- four decimal numbers, the most significant first, with dots between them
abbrev pub peer_text : ℕ → List ℕ
peer_text peer = decimal (peer / 0x1000000) ++ 46 ∷ (decimal (peer / 0x10000 % 256) ++ 46 ∷ (decimal (peer / 0x100 % 256) ++ 46 ∷ decimal (peer % 256)))

-- what follows this front, where the text begins with it
unfoldable pub after_text : List ℕ → List ℕ → Option (List ℕ)
after_text front text = if starts_with nat_eq text front then Some (drop (length front) text) else None

-- the text after an address
unfoldable pub after_peer : ℕ → List ℕ → Option (List ℕ)
after_peer peer text = do
  a ← after_text (decimal (peer / 0x1000000)) text
  b ← after 46 a
  c ← after_text (decimal (peer / 0x10000 % 256)) b
  d ← after 46 c
  e ← after_text (decimal (peer / 0x100 % 256)) d
  f ← after 46 e
  after_text (decimal (peer % 256)) f

-- the text is the address's
abbrev pub is_peer : ℕ → List ℕ → Bool
is_peer peer text = pointwise nat_eq text (peer_text peer)
