use Rattle.rtsp_record.specs.declared.holdings.Admission.{Admission}
use Rattle.rtsp_sessions.proofs.SortedRows.{no_rows}
use Rattle.rtsp_sessions.proofs.admissions.Admissions.new.Goals as goal

pub returns : goal.returns
returns c = no_rows {X = Admission}
