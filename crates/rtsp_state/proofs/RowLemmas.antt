-- What each row of the state table answers, and asks for.
use Rattle.std.proofs.Common.{◌≡◌, ℕ, List, [], ◌∷◌, ◌++◌, Option, Some, None, Result, refl, sym}
use Rattle.std.specs.Prelude.{not, length, codes, slice_get, is_some, ◌||◌, ◌==◌, if◌then◌else◌}
use Rattle.std.specs.List.{list_any}
use Rattle.std.proofs.lemmas.List.{append-nil}
use Rattle.rtsp_grammar.specs.Header.{HeaderText}
use Rattle.rtsp_grammar.specs.declared.message.Response.{Response}
use Rattle.rtsp_record.specs.Rules.{is_ready}
use Rattle.rtsp_state.specs.declared.words.Field.TheVariants as fields
use Rattle.rtsp_state.specs.declared.method.Method.{Method}
use Rattle.rtsp_state.specs.declared.method.Method.TheVariants as methods
use Rattle.rtsp_state.specs.declared.status.Status.{Status}
use Rattle.rtsp_state.specs.declared.status.Status.TheVariants as statuses
use Rattle.rtsp_state.specs.declared.fault.Fault.{Fault}
use Rattle.rtsp_state.specs.declared.fault.Fault.TheVariants as faults
use Rattle.rtsp_state.specs.declared.request.Target.{Target}
use Rattle.rtsp_state.specs.declared.request.Target.TheVariants as targets
use Rattle.rtsp_state.specs.declared.request.Name.{Name}
use Rattle.rtsp_state.specs.declared.response_start.ResponseStart.{ResponseStart}
use Rattle.rtsp_state.specs.declared.plan.Plan.{Plan}
use Rattle.rtsp_state.specs.declared.plan.Plan.TheVariants as plans
use Rattle.rtsp_state.specs.declared.step_plan.StepPlan.{StepPlan}
use Rattle.rtsp_text.specs.Results.{◌>>=◌}
use Rattle.rtsp_state.specs.Fault.{must}
use Rattle.rtsp_state.specs.Lines.{start_lines, public_line, unsupported_line}
use Rattle.rtsp_state.specs.Response.{refused, without_session, status_lines}
use Rattle.rtsp_state.specs.Values.{joined_in}
use Rattle.rtsp_state.specs.Context.{ContextValue, Living, streams_of, is_other, has_track, known}
use Rattle.rtsp_state.specs.Options.{options}
use Rattle.rtsp_state.specs.Describe.{describe}
use Rattle.rtsp_state.specs.Setup.{setup, setup_track, may_set_up, delivery_in, session_of}
use Rattle.rtsp_state.specs.Play.{play, play_presentation, units_asked}
use Rattle.rtsp_state.specs.Pause.{pause, pause_presentation}
use Rattle.rtsp_state.specs.Teardown.{teardown, teardown_presentation, teardown_track, has_one}
use Rattle.rtsp_state.specs.GetParameter.{get_parameter, get_parameter_body, get_parameters, parameters_in, is_position}
use Rattle.rtsp_state.specs.SetParameter.{set_parameter}
use Rattle.rtsp_state.specs.Aim.{own_of, aimed}
use Rattle.rtsp_state.specs.StateTable.{in_session, row, session_found, cell}
use Rattle.rtsp_state.specs.Laws.{AreFrom, ends, session_in, SetsUpIn}
use Rattle.rtsp_state.proofs.RuleLemmas.{Rules, Whatever, follow, either}

-- after its start a response has headers in order, all after Session
pub record Behind (start : ResponseStart) (given : Response) : Type 0 where
  pub lines : List HeaderText
  pub headers : given.headers ≡ start_lines start ++ lines
  pub order : AreFrom 2 lines

-- a step is in the living session, whose start is without it where the step ends it
abbrev pub InSession : ResponseStart → Option Living → StepPlan → Type 0
InSession start None s = ⊥
InSession start (Some v) s = (session_in s.step ≡ Some v.0) × (s.done ≡ (if ends v s.step then without_session start else start))

abbrev pub Sound : ResponseStart → Option Living → ℕ → Plan → Type 0
Sound start view timeout (plans.Answer given) = Behind start given
Sound start view timeout (plans.Step s) = (s.start ≡ start) × InSession start view s
Sound start view timeout (plans.Admit a) = (a.cseq ≡ start.cseq) × (a.timeout ≡ timeout) × SetsUpIn view a.session

abbrev pub SoundRow : ContextValue → Option Living → Result Plan Fault → Type 0
SoundRow context view rules = Rules (Sound context.start view context.table.server.timeout) Whatever rules

-- ---- answers

-- no headers are in order
pub nothing : {least : ℕ} → AreFrom least []
nothing = record { fields = []; names = refl; ascending = refl }

sound_options : (context : ContextValue) (view : Option Living) → SoundRow context view (options context)
sound_options context view = record { lines = public_line ∷ []; headers = refl; order = record { fields = fields.Public ∷ []; names = refl; ascending = refl } }

sound_describe : (context : ContextValue) (view : Option Living) (target : Target) → SoundRow context view (describe context target)
sound_describe context view targets.Server = tt
sound_describe context view targets.Star = tt
sound_describe context view (targets.Track base p t) = tt
sound_describe context view (targets.Presentation base p) =
    follow (Sound context.start view context.table.server.timeout) (known (slice_get context.table.presentations p)) _
    λ presentation. record {
      lines = _;
      headers = refl;
      order = record { fields = fields.ContentBase ∷ fields.ContentType ∷ fields.ContentLength ∷ []; names = refl; ascending = refl };
    }

sound_set_parameter : (context : ContextValue) (view : Option Living) → SoundRow context view (set_parameter context)
sound_set_parameter context view =
    follow (Sound context.start view context.table.server.timeout) (must (length context.body == 0) statuses.ParameterNotUnderstood) _
    λ u. record { lines = []; headers = refl; order = nothing }

sound_get_parameters : (context : ContextValue) (view : Option Living) (p : ℕ) → SoundRow context view (get_parameters context view p)
sound_get_parameters context view p =
    follow (Sound context.start view context.table.server.timeout) (parameters_in 64 context.body) _
    λ names. follow (Sound context.start view context.table.server.timeout) (must (is_some view || not (list_any is_position names)) statuses.SessionNotFound) _
    λ living. follow (Sound context.start view context.table.server.timeout) (known (slice_get context.table.presentations p)) _
    λ presentation. record {
      lines = _;
      headers = refl;
      order = record { fields = fields.ContentType ∷ fields.ContentLength ∷ []; names = refl; ascending = refl };
    }

sound_get_parameter_body : (context : ContextValue) (view : Option Living) (target : Target) → SoundRow context view (get_parameter_body context view target)
sound_get_parameter_body context view (targets.Presentation base p) = sound_get_parameters context view p
sound_get_parameter_body context view (targets.Track base p t) = sound_get_parameters context view p
sound_get_parameter_body context view targets.Star = tt
sound_get_parameter_body context view targets.Server = tt

sound_get_parameter : (context : ContextValue) (view : Option Living) (target : Target) → SoundRow context view (get_parameter context view target)
sound_get_parameter context view target =
    either (Sound context.start view context.table.server.timeout) Whatever (length context.body == 0) _ _
    (record { lines = []; headers = refl; order = nothing })
    (sound_get_parameter_body context view target)

-- ---- steps

sound_play_presentation : (context : ContextValue) (v : Living) (base : List ℕ) (p : ℕ) → SoundRow context (Some v) (play_presentation context v base p)
sound_play_presentation context v base p =
    follow (Sound context.start (Some v) context.table.server.timeout) (must (not (is_other p (streams_of v.1))) statuses.SessionNotFound) _
    λ same. follow (Sound context.start (Some v) context.table.server.timeout) (must (not (length (streams_of v.1) == 0)) statuses.MethodNotValid) _
    λ some. follow (Sound context.start (Some v) context.table.server.timeout) (known (slice_get context.table.presentations p)) _
    λ presentation. follow (Sound context.start (Some v) context.table.server.timeout) (units_asked context v presentation) _
    λ units. (refl, (refl, refl))

sound_play : (context : ContextValue) (v : Living) (target : Target) → SoundRow context (Some v) (play context v target)
sound_play context v (targets.Presentation base p) = sound_play_presentation context v base p
sound_play context v (targets.Track base p t) = tt
sound_play context v targets.Star = tt
sound_play context v targets.Server = tt

sound_pause_presentation : (context : ContextValue) (v : Living) (p : ℕ) → SoundRow context (Some v) (pause_presentation context v p)
sound_pause_presentation context v p =
    follow (Sound context.start (Some v) context.table.server.timeout) (must (not (is_other p (streams_of v.1))) statuses.SessionNotFound) _
    λ same. follow (Sound context.start (Some v) context.table.server.timeout) (must (not (length (streams_of v.1) == 0)) statuses.MethodNotValid) _
    λ some. follow (Sound context.start (Some v) context.table.server.timeout) (known (slice_get context.table.presentations p)) _
    λ presentation. (refl, (refl, refl))

sound_pause : (context : ContextValue) (v : Living) (target : Target) → SoundRow context (Some v) (pause context v target)
sound_pause context v (targets.Presentation base p) = sound_pause_presentation context v p
sound_pause context v (targets.Track base p t) = tt
sound_pause context v targets.Star = tt
sound_pause context v targets.Server = tt

sound_teardown_presentation : (context : ContextValue) (v : Living) (p : ℕ) → SoundRow context (Some v) (teardown_presentation context v p)
sound_teardown_presentation context v p =
    follow (Sound context.start (Some v) context.table.server.timeout) (must (not (is_other p (streams_of v.1))) statuses.SessionNotFound) _
    λ same. (refl, (refl, refl))

sound_teardown_track : (context : ContextValue) (v : Living) (p t : ℕ) → SoundRow context (Some v) (teardown_track context v p t)
sound_teardown_track context v p t =
    follow (Sound context.start (Some v) context.table.server.timeout) (must (not (is_other p (streams_of v.1))) statuses.SessionNotFound) _
    λ same. follow (Sound context.start (Some v) context.table.server.timeout) (must (has_track t (streams_of v.1)) statuses.MethodNotValid) _
    λ there. follow (Sound context.start (Some v) context.table.server.timeout) (must (is_ready v.1.phase || has_one v) statuses.MethodNotValid) _
    λ may. (refl, (refl, refl))

sound_teardown : (context : ContextValue) (v : Living) (target : Target) → SoundRow context (Some v) (teardown context v target)
sound_teardown context v (targets.Presentation base p) = sound_teardown_presentation context v p
sound_teardown context v (targets.Track base p t) = sound_teardown_track context v p t
sound_teardown context v targets.Star = tt
sound_teardown context v targets.Server = tt

-- ---- admissions

set_up_in : (context : ContextValue) (view : Option Living) (name : Option Name) → SetsUpIn view (session_of context view name)
set_up_in context None name = tt
set_up_in context (Some v) name = refl

sound_setup_track : (context : ContextValue) (view : Option Living) (name : Option Name) (p t : ℕ) → SoundRow context view (setup_track context view name p t)
sound_setup_track context view name p t =
    follow (Sound context.start view context.table.server.timeout) (may_set_up p view) _
    λ free. follow (Sound context.start view context.table.server.timeout) (delivery_in context.peer (joined_in (codes "Transport") context.headers)) _
    λ delivery. follow (Sound context.start view context.table.server.timeout) (known (slice_get context.table.presentations p)) _
    λ presentation. follow (Sound context.start view context.table.server.timeout) (known (slice_get presentation.tracks t)) _
    λ track. (refl, refl, set_up_in context view name)

sound_setup : (context : ContextValue) (view : Option Living) (name : Option Name) (target : Target) → SoundRow context view (setup context view name target)
sound_setup context view name (targets.Presentation base p) = tt
sound_setup context view name (targets.Track base p t) = sound_setup_track context view name p t
sound_setup context view name targets.Star = tt
sound_setup context view name targets.Server = tt

-- ---- the table

-- of a row that is only for living sessions
sound_in : (context : ContextValue) (view : Option Living) (f : Living → Result Plan Fault) → ((v : Living) → SoundRow context (Some v) (f v)) → SoundRow context view (in_session view >>= f)
sound_in context None f sound = tt
sound_in context (Some v) f sound = sound v

sound_row : (context : ContextValue) (method : Method) (view : Option Living) (name : Option Name) (target : Target) → SoundRow context view (row context method view name target)
sound_row context methods.Options view name target = sound_options context view
sound_row context methods.Describe view name target = sound_describe context view target
sound_row context methods.Setup view name target = sound_setup context view name target
sound_row context methods.Teardown view name target = sound_in context view _ (λ v. sound_teardown context v target)
sound_row context methods.Play view name target = sound_in context view _ (λ v. sound_play context v target)
sound_row context methods.Pause view name target = sound_in context view _ (λ v. sound_pause context v target)
sound_row context methods.GetParameter view name target = sound_get_parameter context view target
sound_row context methods.SetParameter view name target = sound_set_parameter context view

pub sound_cell : (context : ContextValue) (method : Method) (view : Option Living) (name : Option Name) (target : Target) → SoundRow context view (cell context method view name target)
sound_cell context method view name target =
    follow (Sound context.start view context.table.server.timeout) (session_found method name view) _
    λ living. follow (Sound context.start view context.table.server.timeout) (aimed context.table (own_of method view) target) _
    λ aim. sound_row context method view name aim

-- ---- refusals

pub behind_refused : (start : ResponseStart) (fault : Fault) → Behind start (refused start fault)
behind_refused start (faults.Unsupported tags) = record { lines = unsupported_line tags ∷ []; headers = refl; order = record { fields = fields.Unsupported ∷ []; names = refl; ascending = refl } }
behind_refused start faults.OutOfMemory = record { lines = []; headers = sym (append-nil (start_lines start)); order = nothing }
behind_refused start (faults.Refused status) = record { lines = status_lines status; headers = refl; order = of_status status }
  where
    of_status : (s : Status) → AreFrom 2 (status_lines s)
    of_status statuses.MethodNotValid = record { fields = fields.Allow ∷ []; names = refl; ascending = refl }
    of_status statuses.HeaderNotValid = record { fields = fields.AcceptRanges ∷ []; names = refl; ascending = refl }
    of_status other = nothing
