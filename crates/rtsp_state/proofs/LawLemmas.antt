-- The laws of answers.
use Rattle.std.proofs.Common.{refl, arith, ◌≡◌}
use Rattle.rtsp_book.specs.declared.refusals.Refusal.{Refusal}
use Rattle.rtsp_book.specs.declared.refusals.Refusal.TheVariants as refusals
use Rattle.rtsp_state.specs.declared.status.Status.TheVariants as statuses
use Rattle.rtsp_state.specs.declared.fault.Fault.TheVariants as faults
use Rattle.rtsp_state.specs.declared.response_start.ResponseStart.{ResponseStart}
use Rattle.rtsp_state.specs.Status.{code, status_of}
use Rattle.rtsp_state.specs.Response.{refusal_response}
use Rattle.rtsp_state.specs.SetupPlan.{setup_start}
use Rattle.rtsp_state.specs.Laws.{AnswersRefusal, ShowsAllowed}

turned_by : (start : ResponseStart) (r : Refusal) → (refusal_response start r).status ≡ code (status_of r)
turned_by start refusals.NoSession = refl
turned_by start refusals.TooManySessions = refl
turned_by start refusals.NoBandwidth = refl
turned_by start refusals.NoPair = refl
turned_by start refusals.NoChannel = refl
turned_by start refusals.WrongState = refl
turned_by start refusals.IdTaken = refl
turned_by start refusals.StartupTaken = refl
turned_by start refusals.NotHeld = refl
turned_by start refusals.JournalFull = refl
turned_by start refusals.NothingDue = refl
turned_by start refusals.NumbersSpent = refl
turned_by start refusals.OutOfMemory = refl

pub answers_refusal : AnswersRefusal
answers_refusal = record { step = λ plan r. turned_by plan.start r; setup = λ plan source drawn r. turned_by (setup_start plan) r }

pub shows_allowed : ShowsAllowed
shows_allowed start (faults.Refused statuses.Success) e = absurd (omega (arith, e))
shows_allowed start (faults.Refused statuses.BadRequest) e = absurd (omega (arith, e))
shows_allowed start (faults.Refused statuses.NotFound) e = absurd (omega (arith, e))
shows_allowed start (faults.Refused statuses.ParameterNotUnderstood) e = absurd (omega (arith, e))
shows_allowed start (faults.Refused statuses.NotEnoughBandwidth) e = absurd (omega (arith, e))
shows_allowed start (faults.Refused statuses.SessionNotFound) e = absurd (omega (arith, e))
shows_allowed start (faults.Refused statuses.MethodNotValid) e = refl
shows_allowed start (faults.Refused statuses.HeaderNotValid) e = absurd (omega (arith, e))
shows_allowed start (faults.Refused statuses.InvalidRange) e = absurd (omega (arith, e))
shows_allowed start (faults.Refused statuses.AggregateNotAllowed) e = absurd (omega (arith, e))
shows_allowed start (faults.Refused statuses.OnlyAggregateAllowed) e = absurd (omega (arith, e))
shows_allowed start (faults.Refused statuses.UnsupportedTransport) e = absurd (omega (arith, e))
shows_allowed start (faults.Refused statuses.DestinationProhibited) e = absurd (omega (arith, e))
shows_allowed start (faults.Refused statuses.ServerError) e = absurd (omega (arith, e))
shows_allowed start (faults.Refused statuses.NotImplemented) e = absurd (omega (arith, e))
shows_allowed start (faults.Refused statuses.Unavailable) e = absurd (omega (arith, e))
shows_allowed start (faults.Refused statuses.VersionNotSupported) e = absurd (omega (arith, e))
shows_allowed start (faults.Refused statuses.OptionNotSupported) e = absurd (omega (arith, e))
shows_allowed start (faults.Unsupported tags) e = absurd (omega (arith, e))
shows_allowed start faults.OutOfMemory e = absurd (omega (arith, e))
