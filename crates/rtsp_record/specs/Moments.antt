-- How far a play is at a moment.
use Rattle.std.specs.Prelude.{ℕ, ◌+◌, ◌-◌, ◌/◌, ◌%◌, ◌^◌, min}
use Rattle.rtsp_record.specs.declared.phases.Phase.{Phase}
use Rattle.rtsp_record.specs.declared.phases.Phase.TheVariants.{Ready, Playing, Ended}

-- how many units of this play are due at moment m; a difference below zero is 0
abbrev pub due : Phase → ℕ → ℕ → ℕ
due (Ready at sent) unit_ms m = 0
due (Playing from stop sent since) unit_ms m = min (stop - from) ((m - since) / unit_ms + 1)
due (Ended at sent) unit_ms m = 0

-- the unit where the next play begins
abbrev pub point : Phase → ℕ → ℕ → ℕ
point (Ready at sent) unit_ms m = at
point (Playing from stop sent since) unit_ms m = from + due (Playing from stop sent since) unit_ms m
point (Ended at sent) unit_ms m = at

-- the units sent in earlier plays
abbrev pub sent_before : Phase → ℕ
sent_before (Ready at sent) = sent
sent_before (Playing from stop sent since) = sent
sent_before (Ended at sent) = sent

-- the units sent in all plays with what is due of this one
abbrev pub sent_with_due : Phase → ℕ → ℕ → ℕ
sent_with_due p unit_ms m = (sent_before p + due p unit_ms m) % 2 ^ 32
