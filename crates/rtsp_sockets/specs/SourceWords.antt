-- Words are bytes of their source, each given once and in order.
use Rattle.std.specs.Prelude.{◌≡◌, ℕ, List, ◌++◌, drop, length, Option}
use Rattle.std.specs.Int.{Width, w16, w32, w128, byte_len, from_le_bytes}
use Rattle.std.specs.Io.KnownBytes.{prepend_known, Consumes}
use Rattle.rtsp_traits.specs.Devices.{WordCalls}
use Rattle.rtsp_sockets.specs.declared.words.SourceWords.{SourceWords}

-- from these bytes on some were left out, and then these were given
abbrev pub Draws : Option (List ℕ) → List ℕ → Option (List ℕ) → Type 0
Draws old bytes new = (skipped : List ℕ) × Consumes old new (skipped ++ bytes)

-- some were left out
abbrev pub Loses : Option (List ℕ) → Option (List ℕ) → Type 0
Loses old new = (skipped : List ℕ) × Consumes old new skipped

module _ {S : Type 0} (remaining : S → Option (List ℕ)) where
  -- the bytes that may be given from here on, where those of the source are known: what the pool has left, and then what the source has
  abbrev pub unread : SourceWords S → Option (List ℕ)
  unread w = prepend_known (drop w.used w.pool) (remaining w.source)

  -- a word was given, which is as many bytes as it is wide, in little-endian order
  pub record Gives (width : Width) (b : SourceWords S) (word : ℕ) (c : SourceWords S) : Type 0 where
    pub bytes : List ℕ
    pub size : length bytes ≡ byte_len width
    pub is : word ≡ from_le_bytes width bytes
    pub drawn : Draws (unread b) bytes (unread c)

  -- none was given
  abbrev pub Fails : SourceWords S → SourceWords S → Type 0
  Fails b c = Loses (unread b) (unread c)

  -- the calls of such a source
  abbrev pub calls : WordCalls (SourceWords S)
  calls = record {
    ids = Gives w128;
    ssrcs = Gives w32;
    seqs = Gives w16;
    rtptimes = Gives w32;
    fails = Fails;
    failures = λ b. b.failed;
  }
