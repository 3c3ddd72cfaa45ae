-- Ids and SSRCs that are counted from 1; sequence numbers and timestamps begin at 0.
use Rattle.std.specs.Prelude.{◌≡◌, ◌⊎◌, ℕ, ◌+◌, ◌-◌, ◌^◌}
use Rattle.rtsp_record.specs.Counters.{raised}
use Rattle.rtsp_traits.specs.Devices.{WordCalls}
use Rattle.rtspd.specs.declared.devices.counted_words.CountedWords.{CountedWords}

-- one more id
abbrev pub GivesId : CountedWords → ℕ → CountedWords → Type 0
GivesId b word c = (word ≡ b.ids + 1) × (c ≡ record b { ids = b.ids + 1 })

-- one more SSRC
abbrev pub GivesSsrc : CountedWords → ℕ → CountedWords → Type 0
GivesSsrc b word c = (word ≡ b.ssrcs + 1) × (c ≡ record b { ssrcs = b.ssrcs + 1 })

-- a sequence number or a timestamp
abbrev pub GivesZero : CountedWords → ℕ → CountedWords → Type 0
GivesZero b word c = (word ≡ 0) × (c ≡ b)

-- only the count of failures is changed
abbrev pub Counts : CountedWords → CountedWords → Type 0
Counts b c = c ≡ record b { failed = raised b.failed }

-- the ids or the SSRCs are spent, and that was counted
pub record Fails (b c : CountedWords) : Type 0 where
  pub spent : (b.ids ≡ 2 ^ 128 - 1) ⊎ (b.ssrcs ≡ 2 ^ 32 - 1)
  pub counted : Counts b c

-- the calls of such a source
abbrev pub calls : WordCalls CountedWords
calls = record {
  ids = GivesId;
  ssrcs = GivesSsrc;
  seqs = GivesZero;
  rtptimes = GivesZero;
  fails = Fails;
  failures = λ b. b.failed;
}
