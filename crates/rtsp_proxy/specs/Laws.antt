-- Laws over headers.
use Rattle.std.specs.Prelude.{◌≡◌, ◌≢◌, ◌<◌, ◌≤◌, ◌+◌, ◌^◌, ◌/◌, ◌%◌, ℕ, List, [], ◌∷◌, ◌++◌, length, codes, decimal}
use Rattle.rtsp_proxy.specs.declared.seen.Origin.TheVariants.{Own, Player}
use Rattle.rtsp_proxy.specs.declared.seen.Seen.{Seen}
use Rattle.rtsp_proxy.specs.declared.seen.Seen.TheVariants.{Undecided, Header}
use Rattle.rtsp_proxy.specs.Binary.{two, four}
use Rattle.rtsp_proxy.specs.Proxy.{word, signature, proxy_of}

-- what is told of a text is told of each longer one
abbrev pub AnswerStays : Type 0
AnswerStays = (text more : List ℕ) → proxy_of text ≢ Undecided → proxy_of (text ++ more) ≡ proxy_of text

-- a text of which nothing is told yet is short: so few bytes of a connection are ever kept
abbrev pub IsShortUntold : Type 0
IsShortUntold = (text : List ℕ) → proxy_of text ≡ Undecided → length text < 2064

-- an address in text: four numbers, the most significant first, with dots between them
abbrev pub dotted : ℕ → List ℕ
dotted n = decimal (n / 0x1000000) ++ 46 ∷ (decimal (n / 0x10000 % 256) ++ 46 ∷ (decimal (n / 0x100 % 256) ++ 46 ∷ decimal (n % 256)))

-- two texts with a space between them
abbrev pub spaced : List ℕ → List ℕ → List ℕ
spaced front back = front ++ 32 ∷ back

-- what a balancer writes by version 1 of a connection over IPv4: from where to where it goes
abbrev pub line_for : ℕ → ℕ → ℕ → ℕ → List ℕ
line_for source target port target_port =
    word ++ (spaced (codes "TCP4") (spaced (dotted source) (spaced (dotted target) (spaced (decimal port) (decimal target_port)))) ++ 13 ∷ 10 ∷ [])

-- that is read as the player's address and port, whatever follows
abbrev pub LineIsRead : Type 0
LineIsRead = (source target port target_port : ℕ) (text : List ℕ) → source < 2 ^ 32 → target < 2 ^ 32 → port < 2 ^ 16 → target_port < 2 ^ 16
    → proxy_of (line_for source target port target_port ++ text) ≡ Header (Player source port) (length (line_for source target port target_port))

-- what a balancer writes by version 2 of one over IPv4, and whatever it tells besides, is read as the player's address and port
abbrev pub PlayerIsRead : Type 0
PlayerIsRead = (a b c d e f g h high low i j : ℕ) (told text : List ℕ) → length told + 12 ≤ 2048 → (m l : ℕ) → two m l ≡ length told + 12
    → proxy_of (signature ++ 0x21 ∷ 0x11 ∷ m ∷ l ∷ a ∷ b ∷ c ∷ d ∷ e ∷ f ∷ g ∷ h ∷ high ∷ low ∷ i ∷ j ∷ told ++ text)
    ≡ Header (Player (four a b c d) (two high low)) (28 + length told)

-- what it writes of a connection of its own, as of a check, is read as that
abbrev pub OwnIsRead : Type 0
OwnIsRead = (family m l : ℕ) (told text : List ℕ) → length told ≤ 2048 → two m l ≡ length told
    → proxy_of (signature ++ 0x20 ∷ family ∷ m ∷ l ∷ told ++ text) ≡ Header Own (16 + length told)
