-- The renewal of the session that a request names.
use Rattle.std.specs.Prelude.{ℕ, ◌≡◌, ◌≤◌, ◌<◌, ◌+◌, nat_le, max, Option, Some, None, if◌then◌else◌}
use Rattle.rtsp_grammar.specs.declared.message.Response.{Response}
use Rattle.rtsp_book.specs.declared.refusals.Refusal.{Refusal}
use Rattle.rtsp_content.specs.TableValue.{TableValue}
use Rattle.rtsp_content.specs.Server.{IsWithinLimits}
use Rattle.rtsp_state.specs.declared.method.Method.{Method}
use Rattle.rtsp_state.specs.declared.method.Method.TheVariants as methods
use Rattle.rtsp_state.specs.ParsedRequest.{ParsedValue}
use Rattle.rtsp_state.specs.Response.{refusal_response}
use Rattle.rtsp_state.specs.Context.{Living, expiry}
use Rattle.rtsp_state.specs.StateTable.{start_of}

-- a new end of a session, where it is later than the old one by the step at least
abbrev pub later_by : ℕ → ℕ → ℕ → Option ℕ
later_by step expires until = if nat_le (expires + step) until then Some until else None

-- 7. a request that names a living session renews it to this moment, but for TEARDOWN
abbrev pub renewal_of : Method → Option ℕ → Option ℕ
renewal_of methods.Teardown until = None
renewal_of other until = until

unfoldable pub renewal : TableValue → ParsedValue → Living → ℕ → Option ℕ
renewal table request view moment =
    renewal_of request.method (later_by table.server.renewal_step view.1.expires (expiry moment table.server.timeout))

-- where the renewal is refused, the request ends with that refusal
unfoldable pub renewal_refused : ParsedValue → Living → Refusal → Response
renewal_refused request view refusal = refusal_response (start_of request.cseq (Some view)) refusal

-- the end of a session after its renewal, from the end that it had
abbrev pub end_after : ℕ → Option ℕ → ℕ
end_after expires None = expires
end_after expires (Some until) = until

-- a session and a request that may renew it, at some moment: by any method but TEARDOWN
pub record Renewing : Type 0 where
  pub table : TableValue
  pub request : ParsedValue
  pub view : Living
  pub moment : ℕ
  pub within : IsWithinLimits table.server
  pub renews : ¬ (request.method ≡ methods.Teardown)

-- where the timeout ends, counted from the request, and when the session then ends
abbrev pub until_of : Renewing → ℕ
until_of r = expiry r.moment r.table.server.timeout

abbrev pub end_of : Renewing → ℕ
end_of r = end_after r.view.1.expires (renewal r.table r.request r.view r.moment)

-- renewals move the ends of sessions in steps
pub record RenewsInSteps : Type 0 where
  -- an end is moved by the step at least
  pub moves : (r : Renewing) (until : ℕ) → renewal r.table r.request r.view r.moment ≡ Some until → r.view.1.expires + r.table.server.renewal_step ≤ until
  -- a session ends after the timeout from its last request, less the step
  pub lasts : (r : Renewing) → until_of r < end_of r + r.table.server.renewal_step
  -- with the step 1 it ends at the timeout from then, if that is later
  pub by_one : (r : Renewing) → r.table.server.renewal_step ≡ 1 → end_of r ≡ max r.view.1.expires (until_of r)
