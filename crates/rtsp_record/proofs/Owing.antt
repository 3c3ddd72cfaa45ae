-- How many returns are owed after a record.
use Rattle.std.proofs.Common.{◌≡◌, ◌+◌, ◌≤◌, not, refl, arith}
use Rattle.rtsp_record.specs.declared.holdings.Whole.{Whole}
use Rattle.rtsp_record.specs.declared.changes.Record.{Record}
use Rattle.rtsp_record.specs.declared.changes.Record.TheVariants.{Open, Move}
use Rattle.rtsp_record.specs.Records.{inverse_of}
use Rattle.rtsp_record.specs.Books.{Book, after}
use Rattle.rtsp_record.specs.Sums.{is_opening, returns, owed, newly_owed}
use Rattle.rtsp_record.specs.Rules.{Allowed}
use Rattle.rtsp_record.proofs.Balance.{gain, balance}
use Rattle.rtsp_record.proofs.Sound.{at_most_one}

gain_newly : (r : Record) → gain returns r ≡ newly_owed r
gain_newly (Open k) = refl
gain_newly r = refl

pub newly_one : (r : Record) → newly_owed r ≤ 1
newly_one (Move k) = at_most_one (not (is_opening k.to))
newly_one r = omega arith

-- after an allowed record
pub one_owed : (w : Whole) (b : Book) (r : Record) → Allowed w b r → owed (after b r) + newly_owed (inverse_of r) ≡ owed b + newly_owed r
one_owed w b r h = omega (arith, balance returns b r h.0, gain_newly r, gain_newly (inverse_of r))
