use Rattle.std.proofs.Common.{◌≡◌, ℕ, drop}
use Rattle.rtsp_record.specs.declared.holdings.Admission.{Admission}
use Rattle.rtsp_sessions.specs.Searches.{is_chan_of, first_with}
use Rattle.rtsp_sessions.proofs.views.any_channels_of.Given as goal

abbrev pub invariant-loop-row : goal.invariant-loop-row
invariant-loop-row l = first_with (λ (e : ℕ × Admission). is_chan_of l.conn e.1.address) (drop l.row-index l.rows) ≡ first_with (λ e. is_chan_of l.conn e.1.address) l.rows
