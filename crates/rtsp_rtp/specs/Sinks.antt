-- What the calls of a sink do.
use Rattle.std.specs.Prelude.{◌≡◌, ℕ, List}
use Rattle.rtsp_record.specs.Counters.{raised}
use Rattle.rtsp_rtp.specs.declared.part.SlotFault.{SlotFault}

-- a sink before and after it gave the octets of a track's unit, sent a packet of a track, heard what is wrong with a slot, sent a report of a track, or failed; and how many calls have failed, up to the greatest u64
pub record Calls (S : Type 0) : Type 1 where
  pub octets : S → ℕ → ℕ → List ℕ → S → Type 0
  pub sends : S → ℕ → List ℕ → S → Type 0
  pub refuses : S → ℕ → ℕ → SlotFault → S → Type 0
  pub reports : S → ℕ → List ℕ → S → Type 0
  pub fails : S → S → Type 0
  pub failures : S → ℕ

module _ {S : Type 0} (calls : Calls S) where
  -- it gave the octets of a unit, and no failure was counted
  pub record Took (track unit : ℕ) (octets : List ℕ) (s u : S) : Type 0 where
    pub call : calls.octets s track unit octets u
    pub count : calls.failures u ≡ calls.failures s

  -- it sent a packet, and no failure was counted
  pub record Sent (track : ℕ) (packet : List ℕ) (s u : S) : Type 0 where
    pub call : calls.sends s track packet u
    pub count : calls.failures u ≡ calls.failures s

  -- it heard what is wrong with a unit that is a slot, and no failure was counted
  pub record Refused (track unit : ℕ) (fault : SlotFault) (s u : S) : Type 0 where
    pub call : calls.refuses s track unit fault u
    pub count : calls.failures u ≡ calls.failures s

  -- it sent a report of a track, and no failure was counted
  pub record Reported (track : ℕ) (report : List ℕ) (s u : S) : Type 0 where
    pub call : calls.reports s track report u
    pub count : calls.failures u ≡ calls.failures s

  -- a call failed, and that was counted
  pub record Failed (s u : S) : Type 0 where
    pub call : calls.fails s u
    pub count : calls.failures u ≡ raised (calls.failures s)
