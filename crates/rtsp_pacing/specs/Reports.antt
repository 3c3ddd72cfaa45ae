-- RTCP that comes over a connection is a sign of life of the session that plays over it (RFC 7826 section 10.5).
use Rattle.std.specs.Prelude.{◌≡◌, ℕ, ◌+◌, ◌*◌, ◌==◌, ◌&&◌, Bool, false, max, List, Option, Some, None, Result, if◌then◌else◌}
use Rattle.std.specs.List.{list_any}
use Rattle.std.specs.FinMap.{entries}
use Rattle.rtsp_record.specs.declared.changes.Record.{Record}
use Rattle.rtsp_record.specs.declared.holdings.Thing.{Thing}
use Rattle.rtsp_record.specs.declared.holdings.Thing.TheVariants.{Chan}
use Rattle.rtsp_record.specs.declared.holdings.Admission.{Admission}
use Rattle.rtsp_record.specs.Books.{Session, book_of}
use Rattle.rtsp_book.specs.declared.refusals.Refusal.{Refusal}
use Rattle.rtsp_book.specs.declared.steps.Step.TheVariants.{Touch}
use Rattle.rtsp_content.specs.declared.server.Server.{Server}
use Rattle.rtsp_lock.specs.declared.names.Name.TheVariants.{Number}
use Rattle.rtsp_lock.specs.declared.view.View.{View}
use Rattle.rtsp_lock.specs.Calls.{Acted, Looked}
use Rattle.rtsp_lock.specs.Named.{session_named}
use Rattle.rtsp_state.specs.Context.{expiry}
use Rattle.rtsp_state.specs.Renewal.{later_by}
use Rattle.rtsp_pacing.specs.declared.reports.Report.{Report}

-- by so many milliseconds a report moves the end of its session at least: a fifth of the timeout, or the step of renewals where that is longer
abbrev pub report_step : Server → ℕ
report_step server = max server.renewal_step (200 * server.timeout)

-- the address is a pair of channels of the report's connection, and the report's channel is the second one, which is RTCP's (RFC 7826 section 14)
abbrev pub is_rtcp_of : Report → Option Thing → Bool
is_rtcp_of report (Some (Chan conn first)) = conn == report.conn && first + 1 == report.channel
is_rtcp_of report other = false

-- under the admission are such channels
abbrev pub is_rtcp_under : Report → ℕ × Admission → Bool
is_rtcp_under report e = is_rtcp_of report e.1.address

abbrev pub has_rtcp : Report → Session → Bool
has_rtcp report f = list_any (is_rtcp_under report) (entries f.admissions)

-- the end that a report gives the session that was found
abbrev pub report_end : Server → Report → Session → Option ℕ
report_end server report f =
    if has_rtcp report f then later_by (report_step server) f.expires (expiry report.moment server.timeout) else None

-- a session is given an end, if there is one; that may be refused, as for want of room in the journal
abbrev pub Renews : ℕ → Option ℕ → View → View → Type 0
Renews session None v u = u ≡ v
Renews session (Some until) v u = (answer : Result (List Record) Refusal) × Acted v u (Touch session until) answer

-- the session that was found is given its end; without one nothing is done
abbrev pub RenewsFound : Server → Report → Option (ℕ × Session) → View → View → Type 0
RenewsFound server report None v u = u ≡ v
RenewsFound server report (Some view) v u = Renews view.0 (report_end server report view.1) v u

-- a report about the session of this number was heard
pub record Hears (server : Server) (session : ℕ) (report : Report) (v u : View) : Type 0 where
  pub between : View
  pub looked : Looked v between
  pub renews : RenewsFound server report (session_named (book_of between.seen) (Number session)) between u
