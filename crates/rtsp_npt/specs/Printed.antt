-- Printed times and ranges.
use Rattle.std.specs.Prelude.{ℕ, ◌*◌, ◌/◌, List, ◌∷◌, ◌++◌, codes, decimal}
use Rattle.rtsp_text.specs.Decimal.{three_digits}
use Rattle.rtsp_npt.specs.Bytes.{dash, point}

-- so many milliseconds, as seconds with three decimals
unfoldable pub millis_text : ℕ → List ℕ
millis_text ms = decimal (ms / 1000) ++ point ∷ three_digits ms

-- the time at which a unit begins
abbrev pub time_text : ℕ → ℕ → List ℕ
time_text unit unit_ms = millis_text (unit * unit_ms)

-- the units from `from` on and before `stop`
abbrev pub range_text : ℕ → ℕ → ℕ → List ℕ
range_text from stop unit_ms = codes "npt=" ++ time_text from unit_ms ++ dash ∷ time_text stop unit_ms

-- the stop alone
abbrev pub stop_text : ℕ → ℕ → List ℕ
stop_text stop unit_ms = codes "npt=-" ++ time_text stop unit_ms
