-- The headers of each response stand in their order.
use Rattle.std.proofs.Common.{◌≡◌, ℕ, List, [], ◌∷◌, ◌++◌, Option, Some, None, Result, Ok, Err, refl, sym, ap, subst}
use Rattle.std.specs.Prelude.{IsTrue}
use Rattle.rtsp_grammar.specs.Header.{HeaderText}
use Rattle.rtsp_grammar.specs.declared.message.Request.{Request}
use Rattle.rtsp_grammar.specs.declared.message.Response.{Response}
use Rattle.rtsp_record.specs.declared.changes.Record.{Record}
use Rattle.rtsp_record.specs.declared.phases.Phase.{Phase}
use Rattle.rtsp_book.specs.declared.asks.Admitted.{Admitted}
use Rattle.rtsp_book.specs.declared.refusals.Refusal.{Refusal}
use Rattle.rtsp_book.specs.declared.refusals.Refusal.TheVariants as refusals
use Rattle.rtsp_content.specs.TableValue.{TableValue}
use Rattle.rtsp_state.specs.declared.words.Field.{Field}
use Rattle.rtsp_state.specs.declared.words.Field.TheVariants as fields
use Rattle.rtsp_state.specs.declared.status.Status.TheVariants as statuses
use Rattle.rtsp_state.specs.declared.fault.Fault.{Fault}
use Rattle.rtsp_state.specs.declared.fault.Fault.TheVariants as faults
use Rattle.rtsp_state.specs.declared.order_of_refusals.Asked.{Asked}
use Rattle.rtsp_state.specs.declared.response_start.ResponseStart.{ResponseStart}
use Rattle.rtsp_state.specs.declared.step_plan.Details.{Details}
use Rattle.rtsp_state.specs.declared.step_plan.Details.TheVariants as details
use Rattle.rtsp_state.specs.declared.step_plan.StepPlan.{StepPlan}
use Rattle.rtsp_state.specs.declared.plan.Plan.{Plan}
use Rattle.rtsp_state.specs.declared.plan.Plan.TheVariants as plans
use Rattle.rtsp_state.specs.declared.setup_plan.SessionKey.{SessionKey}
use Rattle.rtsp_state.specs.declared.setup_plan.SetupPlan.{SetupPlan}
use Rattle.rtsp_state.specs.declared.request.Screen.{Screen}
use Rattle.rtsp_state.specs.declared.request.Screen.TheVariants.{Answered, Asks}
use Rattle.rtsp_state.specs.OrderOfRefusals.{cseq_of, asked_of}
use Rattle.rtsp_state.specs.ParsedRequest.{ParsedValue}
use Rattle.rtsp_state.specs.Words.{name_of_field}
use Rattle.rtsp_state.specs.Status.{status_of}
use Rattle.rtsp_state.specs.Lines.{start_lines}
use Rattle.rtsp_state.specs.Response.{refused, refusal_response, without_session}
use Rattle.rtsp_state.specs.Context.{Living}
use Rattle.rtsp_state.specs.Screen.{screen, screened}
use Rattle.rtsp_state.specs.SetupPlan.{setup_start}
use Rattle.rtsp_state.specs.StateTable.{decide, settled, cell, context_of, start_of}
use Rattle.rtsp_state.specs.Renewal.{renewal_refused}
use Rattle.rtsp_state.specs.Answer.{step_answer, setup_answer, moved, shown_lines}
use Rattle.rtsp_state.specs.Laws.{Asking, plan_of, is_ascending, AreFrom, AreInOrder, AnswersInOrder}
use Rattle.rtsp_state.proofs.RuleLemmas.{Rules, Whatever}
use Rattle.rtsp_state.proofs.RowLemmas.{Behind, Sound, sound_cell, behind_refused, nothing}

-- ---- after a start

-- what is ascending from one place on is so from a place before it
lower : (fs : List Field) → IsTrue (is_ascending 2 fs) → IsTrue (is_ascending 1 fs)
lower [] h = refl
lower (fields.CSeq ∷ fs) h = absurd cc
lower (fields.Session ∷ fs) h = absurd cc
lower (fields.Public ∷ fs) h = h
lower (fields.Allow ∷ fs) h = h
lower (fields.Unsupported ∷ fs) h = h
lower (fields.Transport ∷ fs) h = h
lower (fields.AcceptRanges ∷ fs) h = h
lower (fields.MediaProperties ∷ fs) h = h
lower (fields.MediaRange ∷ fs) h = h
lower (fields.Range ∷ fs) h = h
lower (fields.SeekStyle ∷ fs) h = h
lower (fields.RtpInfo ∷ fs) h = h
lower (fields.ContentBase ∷ fs) h = h
lower (fields.ContentType ∷ fs) h = h
lower (fields.ContentLength ∷ fs) h = h

in_order : (cseq : ℕ) (session : Option ℕ) (lines : List HeaderText) → AreFrom 2 lines → AreInOrder (start_lines (record { cseq = cseq; session = session }) ++ lines)
in_order cseq None lines h = record {
  fields = fields.CSeq ∷ h.fields;
  names = ap (λ (ns : List (List ℕ)). name_of_field fields.CSeq ∷ ns) h.names;
  ascending = lower h.fields h.ascending;
}
in_order cseq (Some id) lines h = record {
  fields = fields.CSeq ∷ fields.Session ∷ h.fields;
  names = ap (λ (ns : List (List ℕ)). name_of_field fields.CSeq ∷ name_of_field fields.Session ∷ ns) h.names;
  ascending = h.ascending;
}

pub behind_order : (start : ResponseStart) (given : Response) → Behind start given → AreInOrder given.headers
behind_order start given b = subst (λ hs. AreInOrder hs) (sym b.headers) (in_order start.cseq start.session b.lines b.order)

pub refused_order : (start : ResponseStart) (f : Fault) → AreInOrder (refused start f).headers
refused_order start f = behind_order start (refused start f) (behind_refused start f)

pub turned_order : (start : ResponseStart) (r : Refusal) → AreInOrder (refusal_response start r).headers
turned_order start refusals.NoSession = refused_order (without_session start) (faults.Refused statuses.SessionNotFound)
turned_order start refusals.TooManySessions = refused_order start (faults.Refused (status_of refusals.TooManySessions))
turned_order start refusals.NoBandwidth = refused_order start (faults.Refused (status_of refusals.NoBandwidth))
turned_order start refusals.NoPair = refused_order start (faults.Refused (status_of refusals.NoPair))
turned_order start refusals.NoChannel = refused_order start (faults.Refused (status_of refusals.NoChannel))
turned_order start refusals.WrongState = refused_order start (faults.Refused (status_of refusals.WrongState))
turned_order start refusals.IdTaken = refused_order start (faults.Refused (status_of refusals.IdTaken))
turned_order start refusals.StartupTaken = refused_order start (faults.Refused (status_of refusals.StartupTaken))
turned_order start refusals.NotHeld = refused_order start (faults.Refused (status_of refusals.NotHeld))
turned_order start refusals.JournalFull = refused_order start (faults.Refused (status_of refusals.JournalFull))
turned_order start refusals.NothingDue = refused_order start (faults.Refused (status_of refusals.NothingDue))
turned_order start refusals.NumbersSpent = refused_order start (faults.Refused (status_of refusals.NumbersSpent))
turned_order start refusals.OutOfMemory = refused_order start (faults.Refused (status_of refusals.OutOfMemory))

-- ---- what came of a step and of an admission

pub shown_behind : (s : Details) (phase : Option Phase) → AreFrom 2 (shown_lines s phase)
shown_behind details.Nothing phase = nothing
shown_behind (details.Paused timing at) phase = record { fields = fields.Range ∷ []; names = refl; ascending = refl }
shown_behind (details.Played timing info) phase = record { fields = fields.Range ∷ fields.SeekStyle ∷ fields.RtpInfo ∷ []; names = refl; ascending = refl }

step_order : (plan : StepPlan) (made : Result (List Record) Refusal) → AreInOrder (step_answer plan made).headers
step_order plan (Ok receipt) = in_order plan.done.cseq plan.done.session (shown_lines plan.details (moved receipt)) (shown_behind plan.details (moved receipt))
step_order plan (Err r) = turned_order plan.start r

setup_order : (plan : SetupPlan) (source : Option ℕ) (drawn : SessionKey) (made : Result Admitted Refusal) → AreInOrder (setup_answer plan source drawn made).headers
setup_order plan source drawn (Ok made) = record {
  fields = fields.CSeq ∷ fields.Session ∷ fields.Transport ∷ fields.AcceptRanges ∷ fields.MediaProperties ∷ fields.MediaRange ∷ [];
  names = refl;
  ascending = refl;
}
setup_order plan source drawn (Err r) = turned_order (setup_start plan) r

-- ---- what is decided

abbrev IfAnswer : Plan → Type 0
IfAnswer (plans.Answer given) = AreInOrder given.headers
IfAnswer (plans.Step plan) = Unit {0}
IfAnswer (plans.Admit plan) = Unit {0}

settled_order : (start : ResponseStart) (view : Option Living) (timeout : ℕ) (rules : Result Plan Fault) → Rules (Sound start view timeout) Whatever rules → IfAnswer (settled start rules)
settled_order start view timeout (Err f) sound = refused_order start f
settled_order start view timeout (Ok (plans.Answer given)) sound = behind_order start given sound
settled_order start view timeout (Ok (plans.Step plan)) sound = tt
settled_order start view timeout (Ok (plans.Admit plan)) sound = tt

plan_order : (a : Asking) → IfAnswer (plan_of a)
unfolding decide
plan_order a =
    let context = context_of a.table a.request a.view a.peer a.moment in
    settled_order (start_of a.request.cseq a.view) a.view a.table.server.timeout
    (cell context a.request.method a.view a.request.name a.request.target)
    (sound_cell context a.request.method a.view a.request.name a.request.target)

given_order : (a : Asking) (given : Response) → plan_of a ≡ plans.Answer given → AreInOrder given.headers
given_order a given e = subst (λ (p : Plan). IfAnswer p) e (plan_order a)

abbrev IfAnswered : Screen → Type 0
IfAnswered (Answered given) = AreInOrder given.headers
IfAnswered (Asks parsed) = Unit {0}

screened_order : (request : Request) (cseq : Result ℕ Fault) (asked : Result Asked Fault) → IfAnswered (screened request cseq asked)
screened_order request (Err f) asked = nothing
screened_order request (Ok cseq) (Err f) = refused_order (record { cseq = cseq; session = None }) f
screened_order request (Ok cseq) (Ok asked) = tt

screen_order : (table : TableValue) (request : Request) (given : Response) → screen table request ≡ Answered given → AreInOrder given.headers
unfolding screen
screen_order table request given e = subst (λ (s : Screen). IfAnswered s) e (screened_order request (cseq_of request.headers) (asked_of table request))

renewal_order : (request : ParsedValue) (view : Living) (r : Refusal) → AreInOrder (renewal_refused request view r).headers
unfolding renewal_refused
renewal_order request view r = turned_order (start_of request.cseq (Some view)) r

pub answers_in_order : AnswersInOrder
answers_in_order = record {
  screened = screen_order;
  renewal = renewal_order;
  planned = given_order;
  stepped = step_order;
  set_up = setup_order;
  fault = refused_order;
  refusal = turned_order;
}
