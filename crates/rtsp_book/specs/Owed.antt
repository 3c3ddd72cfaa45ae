-- How many returns are owed after records, one after another.
use Rattle.std.specs.Prelude.{ℕ, ◌+◌, ◌-◌, List, [], ◌∷◌}
use Rattle.rtsp_record.specs.declared.changes.Record.{Record}
use Rattle.rtsp_record.specs.Records.{inverse_of}
use Rattle.rtsp_record.specs.Sums.{newly_owed}

-- how many returns are owed after more records, of those owed before
abbrev pub owed_with : ℕ → List Record → ℕ
owed_with n [] = n
owed_with n (r ∷ rs) = owed_with (n + newly_owed r - newly_owed (inverse_of r)) rs
