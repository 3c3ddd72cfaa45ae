-- How the parts of a session are stored, so that a list of fields can be seen as a session.
use Rattle.std.specs.Prelude.{ℕ, Option, refl}
use Rattle.std.specs.Coded.{Coded, code_by, coded×, coded_ℕ, coded_option}
use Rattle.std.specs.FinMap.{code}
use Rattle.rtsp_record.specs.declared.holdings.Admission.{Admission}
use Rattle.rtsp_record.specs.declared.phases.Phase.{Phase}
use Rattle.rtsp_record.specs.Tables.{Table}
use Rattle.rtsp_record.specs.Books.{Session}

-- a table of admissions
abbrev pub admissions_code : Coded Admission → Coded (Table Admission)
admissions_code admission = code coded_ℕ admission

-- a session with its number
abbrev pub session_code : Coded Admission → Coded Phase → Coded (ℕ × Session)
session_code admission phase = coded× coded_ℕ (
    code_by (ℕ × (ℕ × (ℕ × (Phase × (Option (ℕ × ℕ) × Table Admission)))))
    (coded× coded_ℕ (coded× coded_ℕ (coded× coded_ℕ (coded× phase (coded× (coded_option (coded× coded_ℕ coded_ℕ)) (admissions_code admission))))))
    (λ f. (f.id, (f.conn, (f.expires, (f.phase, (f.binding, f.admissions))))))
    (λ p. record { id = p.0; conn = p.1.0; expires = p.1.1.0; phase = p.1.1.1.0; binding = p.1.1.1.1.0; admissions = p.1.1.1.1.1 })
    (λ _. refl))
