-- What a step is answered from.
use Rattle.std.specs.Prelude.{◌≡◌, ℕ, ◌+◌, ◌≤◌, refl}
use Rattle.std.specs.Coded.{Coded, code_by, coded×, coded_ℕ}
use Rattle.std.specs.FinMap.{code}
use Rattle.rtsp_record.specs.declared.holdings.Admission.{Admission}
use Rattle.rtsp_record.specs.declared.holdings.Whole.{Whole}
use Rattle.rtsp_record.specs.declared.phases.Phase.{Phase}
use Rattle.rtsp_record.specs.Books.{Book}
use Rattle.rtsp_record.specs.Sums.{owed}
use Rattle.rtsp_record.specs.Sound.{Sound}
use Rattle.rtsp_sessions.specs.Plain.{one_session_code}

-- what there is to hold, how many entries the journal has, and its book
pub record Case : Type 0 where
  pub whole : Whole
  pub entries : ℕ
  pub book : Book

-- how a case is stored
abbrev pub case_code : Coded Whole → Coded Admission → Coded Phase → Coded Case
case_code whole admission phase =
    code_by (Whole × (ℕ × Book)) (coded× whole (coded× coded_ℕ (code coded_ℕ (one_session_code admission phase)))) (λ c. (c.whole, (c.entries, c.book))) (λ p. record { whole = p.0; entries = p.1.0; book = p.1.1 }) (λ _. refl)

-- the whole is the book's, the book is sound, and the journal has room for the returns that it owes
pub record IsCase (of w : Whole) (n : ℕ) (b : Book) : Type 0 where
  pub same_whole : of ≡ w
  pub sound : Sound w b
  pub room : n + owed b ≤ w.journal
