-- What the plans of a table's requests meet.
use Rattle.rtsp_book.specs.Replies.{IsAskable}
use Rattle.rtsp_state.specs.declared.plan.Plan.{Plan}
use Rattle.rtsp_state.specs.declared.plan.Plan.TheVariants as plans

-- a step is one that the book may be asked for
abbrev pub IsConducted : Plan → Type 0
IsConducted (plans.Answer given) = Unit {0}
IsConducted (plans.Step plan) = IsAskable plan.step
IsConducted (plans.Admit plan) = Unit {0}
