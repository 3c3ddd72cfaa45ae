-- Where a response shows a session.
use Rattle.std.proofs.Common.{◌≡◌, ℕ, suc, Bool, true, false, List, [], ◌∷◌, ◌++◌, Option, Some, None, Result, Ok, Err, refl, sym, ap, subst, arith, ◌∙◌}
use Rattle.std.specs.Prelude.{IsTrue, nat_le, map, codes, if◌then◌else◌}
use Rattle.std.proofs.lemmas.Bool.{and_parts, le-leb, leb-true}
use Rattle.rtsp_grammar.specs.Header.{HeaderText, values_of, is_named}
use Rattle.rtsp_grammar.specs.declared.message.Request.{Request}
use Rattle.rtsp_grammar.specs.declared.message.Response.{Response}
use Rattle.rtsp_text.specs.Hexadecimal.{hex_text}
use Rattle.rtsp_record.specs.declared.changes.Record.{Record}
use Rattle.rtsp_book.specs.declared.refusals.Refusal.{Refusal}
use Rattle.rtsp_book.specs.declared.refusals.Refusal.TheVariants as refusals
use Rattle.rtsp_book.specs.declared.asks.Admitted.{Admitted}
use Rattle.rtsp_content.specs.TableValue.{TableValue}
use Rattle.rtsp_state.specs.declared.words.Field.{Field}
use Rattle.rtsp_state.specs.declared.words.Field.TheVariants as fields
use Rattle.rtsp_state.specs.declared.status.Status.TheVariants as statuses
use Rattle.rtsp_state.specs.declared.fault.Fault.{Fault}
use Rattle.rtsp_state.specs.declared.fault.Fault.TheVariants as faults
use Rattle.rtsp_state.specs.declared.order_of_refusals.Asked.{Asked}
use Rattle.rtsp_state.specs.declared.response_start.ResponseStart.{ResponseStart}
use Rattle.rtsp_state.specs.declared.step_plan.StepPlan.{StepPlan}
use Rattle.rtsp_state.specs.declared.plan.Plan.{Plan}
use Rattle.rtsp_state.specs.declared.plan.Plan.TheVariants as plans
use Rattle.rtsp_state.specs.declared.setup_plan.SessionKey.{SessionKey}
use Rattle.rtsp_state.specs.declared.setup_plan.SetupSession.{SetupSession}
use Rattle.rtsp_state.specs.declared.setup_plan.SetupSession.TheVariants.{New, Living as Lives}
use Rattle.rtsp_state.specs.declared.setup_plan.SetupPlan.{SetupPlan}
use Rattle.rtsp_state.specs.declared.request.Screen.{Screen}
use Rattle.rtsp_state.specs.declared.request.Screen.TheVariants.{Answered, Asks}
use Rattle.rtsp_state.specs.Words.{name_of_field, text_of}
use Rattle.rtsp_state.specs.OrderOfRefusals.{cseq_of, asked_of}
use Rattle.rtsp_state.specs.ParsedRequest.{ParsedValue}
use Rattle.rtsp_state.specs.Status.{status_of}
use Rattle.rtsp_state.specs.Lines.{start_lines}
use Rattle.rtsp_state.specs.Response.{refused, refusal_response, without_session}
use Rattle.rtsp_state.specs.Context.{Living}
use Rattle.rtsp_state.specs.Screen.{screen, screened}
use Rattle.rtsp_state.specs.SetupPlan.{key_of, id_known, setup_start}
use Rattle.rtsp_state.specs.StateTable.{decide, settled, cell, context_of, start_of, shown_id}
use Rattle.rtsp_state.specs.Renewal.{renewal_refused}
use Rattle.rtsp_state.specs.Answer.{step_answer, setup_answer, moved, shown_lines}
use Rattle.rtsp_state.specs.Laws.{Asking, plan_of, index_of, is_ascending, AreFrom, sessions_in, shown, timed, still_shown, ends, left_of, session_in, StepsIn, SetsUpIn, id_in, ShowsSession}
use Rattle.rtsp_state.proofs.RuleLemmas.{Rules, Whatever}
use Rattle.rtsp_state.proofs.RowLemmas.{Behind, InSession, Sound, sound_cell, behind_refused}
use Rattle.rtsp_state.proofs.OrderLemmas.{shown_behind}

-- ---- what a start shows

-- no field after Session is named so
other_name : (f : Field) → IsTrue (nat_le 2 (index_of f)) → is_named (name_of_field f) (codes "Session") ≡ false
unfolding name_of_field
other_name fields.CSeq h = absurd cc
other_name fields.Session h = absurd cc
other_name fields.Public h = refl
other_name fields.Allow h = refl
other_name fields.Unsupported h = refl
other_name fields.Transport h = refl
other_name fields.AcceptRanges h = refl
other_name fields.MediaProperties h = refl
other_name fields.MediaRange h = refl
other_name fields.Range h = refl
other_name fields.SeekStyle h = refl
other_name fields.RtpInfo h = refl
other_name fields.ContentBase h = refl
other_name fields.ContentType h = refl
other_name fields.ContentLength h = refl

-- what comes after such a field is after Session too
after : (f : Field) (fs : List Field) → IsTrue (is_ascending (suc (index_of f)) fs) → IsTrue (nat_le 2 (index_of f)) → IsTrue (is_ascending 2 fs)
after f [] later least = refl
after f (g ∷ gs) later least =
    let parts = and_parts (nat_le (suc (index_of f)) (index_of g)) (is_ascending (suc (index_of g)) gs) later in
    let least_too : nat_le 2 (index_of g) ≡ true = le-leb 2 (index_of g) (omega (arith, leb-true 2 (index_of f) least, leb-true (suc (index_of f)) (index_of g) parts.0)) in
    rw least_too parts.1

-- a header of another name isn't looked at
passed : (h : HeaderText) (hs : List HeaderText) → is_named h.name (codes "Session") ≡ false → values_of (codes "Session") hs ≡ [] → values_of (codes "Session") (h ∷ hs) ≡ []
unfolding values_of
passed h hs other rest = rw other rest

none_among : (fs : List Field) (lines : List HeaderText) → map (λ h. h.name) lines ≡ map name_of_field fs → IsTrue (is_ascending 2 fs) → values_of (codes "Session") lines ≡ []
unfolding values_of
none_among fs [] names ascending = refl
none_among [] (h ∷ hs) names ascending = absurd cc
none_among (f ∷ fs) (h ∷ hs) names ascending =
    let parts = and_parts (nat_le 2 (index_of f)) (is_ascending (suc (index_of f)) fs) ascending in
    let here : h.name ≡ name_of_field f = cc in
    let rest : map (λ h. h.name) hs ≡ map name_of_field fs = cc in
    passed h hs (subst (λ (n : List ℕ). is_named n (codes "Session") ≡ false) (sym here) (other_name f parts.0)) (none_among fs hs rest (after f fs parts.1 parts.0))

-- the id of a session, if any
abbrev id_texts : Option ℕ → List (List ℕ)
id_texts None = []
id_texts (Some id) = hex_text 32 id ∷ []

front_shows : (cseq : ℕ) (session : Option ℕ) (lines : List HeaderText) → AreFrom 2 lines → values_of (codes "Session") (start_lines (record { cseq = cseq; session = session }) ++ lines) ≡ id_texts session
unfolding values_of name_of_field
front_shows cseq None lines among = none_among among.fields lines among.names among.ascending
front_shows cseq (Some id) lines among = ap (λ (rest : List (List ℕ)). hex_text 32 id ∷ rest) (none_among among.fields lines among.names among.ascending)

behind_shows : (start : ResponseStart) (given : Response) → Behind start given → sessions_in given ≡ id_texts start.session
behind_shows start given b = ap (λ (hs : List HeaderText). values_of (codes "Session") hs) b.headers ∙ front_shows start.cseq start.session b.lines b.order

refused_shows : (start : ResponseStart) (f : Fault) → sessions_in (refused start f) ≡ id_texts start.session
refused_shows start f = behind_shows start (refused start f) (behind_refused start f)

same_shown : (view : Option Living) → id_texts (shown_id view) ≡ shown view
same_shown None = refl
same_shown (Some v) = refl

-- ---- a refused step

turned_shows : (start : ResponseStart) (view : Option Living) (r : Refusal) → start.session ≡ shown_id view → sessions_in (refusal_response start r) ≡ still_shown view r
turned_shows start view refusals.NoSession e = refused_shows (without_session start) (faults.Refused statuses.SessionNotFound)
turned_shows start view refusals.TooManySessions e = refused_shows start (faults.Refused (status_of refusals.TooManySessions)) ∙ ap id_texts e ∙ same_shown view
turned_shows start view refusals.NoBandwidth e = refused_shows start (faults.Refused (status_of refusals.NoBandwidth)) ∙ ap id_texts e ∙ same_shown view
turned_shows start view refusals.NoPair e = refused_shows start (faults.Refused (status_of refusals.NoPair)) ∙ ap id_texts e ∙ same_shown view
turned_shows start view refusals.NoChannel e = refused_shows start (faults.Refused (status_of refusals.NoChannel)) ∙ ap id_texts e ∙ same_shown view
turned_shows start view refusals.WrongState e = refused_shows start (faults.Refused (status_of refusals.WrongState)) ∙ ap id_texts e ∙ same_shown view
turned_shows start view refusals.IdTaken e = refused_shows start (faults.Refused (status_of refusals.IdTaken)) ∙ ap id_texts e ∙ same_shown view
turned_shows start view refusals.StartupTaken e = refused_shows start (faults.Refused (status_of refusals.StartupTaken)) ∙ ap id_texts e ∙ same_shown view
turned_shows start view refusals.NotHeld e = refused_shows start (faults.Refused (status_of refusals.NotHeld)) ∙ ap id_texts e ∙ same_shown view
turned_shows start view refusals.JournalFull e = refused_shows start (faults.Refused (status_of refusals.JournalFull)) ∙ ap id_texts e ∙ same_shown view
turned_shows start view refusals.NothingDue e = refused_shows start (faults.Refused (status_of refusals.NothingDue)) ∙ ap id_texts e ∙ same_shown view
turned_shows start view refusals.NumbersSpent e = refused_shows start (faults.Refused (status_of refusals.NumbersSpent)) ∙ ap id_texts e ∙ same_shown view
turned_shows start view refusals.OutOfMemory e = refused_shows start (faults.Refused (status_of refusals.OutOfMemory)) ∙ ap id_texts e ∙ same_shown view

-- ---- what a plan knows of its session

abbrev InView : Option Living → StepPlan → Type 0
InView None s = ⊥
InView (Some v) s = (session_in s.step ≡ Some v.0) × (id_texts s.done.session ≡ (if ends v s.step then [] else shown (Some v)))

abbrev Planned : Option Living → ℕ → Plan → Type 0
Planned view timeout (plans.Answer given) = sessions_in given ≡ shown view
Planned view timeout (plans.Step s) = (s.start.session ≡ shown_id view) × InView view s
Planned view timeout (plans.Admit a) = (a.timeout ≡ timeout) × SetsUpIn view a.session

done_shows : (b : Bool) (start : ResponseStart) (v : Living) → start.session ≡ Some v.1.id → id_texts (if b then without_session start else start).session ≡ (if b then [] else shown (Some v))
done_shows true start v e = refl
done_shows false start v e = ap id_texts e

in_view : (start : ResponseStart) (view : Option Living) (s : StepPlan) → start.session ≡ shown_id view → InSession start view s → InView view s
in_view start None s e inside = inside
in_view start (Some v) s e inside = (inside.0, ap (λ (f : ResponseStart). id_texts f.session) inside.1 ∙ done_shows (ends v s.step) start v e)

settled_planned : (start : ResponseStart) (view : Option Living) (timeout : ℕ) → start.session ≡ shown_id view → (rules : Result Plan Fault) → Rules (Sound start view timeout) Whatever rules → Planned view timeout (settled start rules)
settled_planned start view timeout e (Err f) sound = refused_shows start f ∙ ap id_texts e ∙ same_shown view
settled_planned start view timeout e (Ok (plans.Answer given)) sound = behind_shows start given sound ∙ ap id_texts e ∙ same_shown view
settled_planned start view timeout e (Ok (plans.Step s)) sound = (ap (λ (f : ResponseStart). f.session) sound.0 ∙ e, in_view start view s e sound.1)
settled_planned start view timeout e (Ok (plans.Admit a)) sound = (sound.1, sound.2)

plan_planned : (a : Asking) → Planned a.view a.table.server.timeout (plan_of a)
unfolding decide
plan_planned a =
    let context = context_of a.table a.request a.view a.peer a.moment in
    settled_planned (start_of a.request.cseq a.view) a.view a.table.server.timeout refl
    (cell context a.request.method a.view a.request.name a.request.target)
    (sound_cell context a.request.method a.view a.request.name a.request.target)

planned_at : (a : Asking) (p : Plan) → plan_of a ≡ p → Planned a.view a.table.server.timeout p
planned_at a p e = subst (λ (q : Plan). Planned a.view a.table.server.timeout q) e (plan_planned a)

-- ---- steps

in_the_session : (view : Option Living) (s : StepPlan) → InView view s → StepsIn view s.step
in_the_session None s inside = inside
in_the_session (Some v) s inside = inside.0

steps_in : (a : Asking) (plan : StepPlan) → plan_of a ≡ plans.Step plan → StepsIn a.view plan.step
steps_in a plan e = in_the_session a.view plan (planned_at a (plans.Step plan) e).1

done_in : (view : Option Living) (s : StepPlan) (v : Living) → InView view s → view ≡ Some v → id_texts s.done.session ≡ left_of v s.step
done_in view s v inside e = let at : InView (Some v) s = subst (λ (w : Option Living). InView w s) e inside in at.1

step_done : (a : Asking) (plan : StepPlan) (v : Living) (receipt : List Record) → plan_of a ≡ plans.Step plan → a.view ≡ Some v → sessions_in (step_answer plan (Ok receipt)) ≡ left_of v plan.step
step_done a s v receipt e living = front_shows s.done.cseq s.done.session (shown_lines s.details (moved receipt)) (shown_behind s.details (moved receipt)) ∙ done_in a.view s v (planned_at a (plans.Step s) e).1 living

step_undone : (a : Asking) (plan : StepPlan) (r : Refusal) → plan_of a ≡ plans.Step plan → sessions_in (step_answer plan (Err r)) ≡ still_shown a.view r
step_undone a s r e = turned_shows s.start a.view r (planned_at a (plans.Step s) e).0

-- ---- admissions

sets_up : (a : Asking) (plan : SetupPlan) → plan_of a ≡ plans.Admit plan → SetsUpIn a.view plan.session
sets_up a plan e = (planned_at a (plans.Admit plan) e).1

admitted_shows : (plan : SetupPlan) (source : Option ℕ) (drawn : SessionKey) (made : Admitted) → sessions_in (setup_answer plan source drawn (Ok made)) ≡ timed (key_of plan.session drawn).id plan.timeout
unfolding values_of name_of_field text_of
admitted_shows plan source drawn made = refl

-- the key of a session that is opened, or lives
same_id : (view : Option Living) (session : SetupSession) (drawn : SessionKey) → SetsUpIn view session → (key_of session drawn).id ≡ id_in view drawn
same_id None (New expires startup) drawn h = refl
same_id None (Lives key) drawn h = absurd h
same_id (Some v) session drawn h = ap (λ (s : SetupSession). (key_of s drawn).id) h

set_up : (a : Asking) (plan : SetupPlan) (source : Option ℕ) (drawn : SessionKey) (made : Admitted) → plan_of a ≡ plans.Admit plan → sessions_in (setup_answer plan source drawn (Ok made)) ≡ timed (id_in a.view drawn) a.table.server.timeout
set_up a plan source drawn made e =
    admitted_shows plan source drawn made
    ∙ ap (λ (id : ℕ). timed id plan.timeout) (same_id a.view plan.session drawn (planned_at a (plans.Admit plan) e).1)
    ∙ ap (λ (t : ℕ). timed (id_in a.view drawn) t) (planned_at a (plans.Admit plan) e).0

same_start : (view : Option Living) (session : SetupSession) → SetsUpIn view session → id_known session ≡ shown_id view
same_start None (New expires startup) h = refl
same_start None (Lives key) h = absurd h
same_start (Some v) session h = ap id_known h

refused_setup : (a : Asking) (plan : SetupPlan) (source : Option ℕ) (drawn : SessionKey) (r : Refusal) → plan_of a ≡ plans.Admit plan → sessions_in (setup_answer plan source drawn (Err r)) ≡ still_shown a.view r
refused_setup a plan source drawn r e = turned_shows (setup_start plan) a.view r (same_start a.view plan.session (planned_at a (plans.Admit plan) e).1)

-- ---- answers at once

abbrev NoneIf : Screen → Type 0
NoneIf (Answered given) = sessions_in given ≡ []
NoneIf (Asks parsed) = Unit {0}

screened_none : (request : Request) (cseq : Result ℕ Fault) (asked : Result Asked Fault) → NoneIf (screened request cseq asked)
unfolding values_of
screened_none request (Err f) asked = refl
screened_none request (Ok cseq) (Err f) = refused_shows (record { cseq = cseq; session = None }) f
screened_none request (Ok cseq) (Ok asked) = tt

screen_none : (table : TableValue) (request : Request) (given : Response) → screen table request ≡ Answered given → sessions_in given ≡ []
unfolding screen
screen_none table request given e = subst (λ (s : Screen). NoneIf s) e (screened_none request (cseq_of request.headers) (asked_of table request))

renewal_shows : (request : ParsedValue) (view : Living) (r : Refusal) → sessions_in (renewal_refused request view r) ≡ still_shown (Some view) r
unfolding renewal_refused
renewal_shows request view r = turned_shows (start_of request.cseq (Some view)) (Some view) r refl

pub shows_session : ShowsSession
shows_session = record {
  screened = screen_none;
  renewal = renewal_shows;
  planned = λ a given e. planned_at a (plans.Answer given) e;
  steps_in = steps_in;
  done = step_done;
  undone = step_undone;
  sets_up = sets_up;
  set_up = set_up;
  refused_setup = refused_setup;
}
