use Rattle.std.proofs.Common.{ℕ, List, ◌++◌, ◌∙◌, sym, ap}
use Rattle.rtsp_grammar.specs.Writing.{response_text}
use Rattle.rtsp_state.specs.declared.fault.Fault.{Fault}
use Rattle.rtsp_state.specs.declared.fault.Fault.TheVariants as faults
use Rattle.rtsp_state.specs.Response.{refused}
use Rattle.rtsp_state.proofs.reply.write_fault.Goals as goal

pub returns-in-Refused-clause-text : goal.returns-in-Refused-clause-text
returns-in-Refused-clause-text c = c.write_refused.ensures.text ∙ ap (λ (f : Fault). c.args.room.now.text ++ response_text (refused c.args.start f)) (sym c.in-Refused.is)

pub returns-in-Unsupported-clause-text : goal.returns-in-Unsupported-clause-text
returns-in-Unsupported-clause-text c =
    c.write_unsupported.ensures.text
    ∙ ap (λ (t : List ℕ). c.args.room.now.text ++ response_text (refused c.args.start (faults.Unsupported t))) c.as_bytes.ensures
    ∙ ap (λ (f : Fault). c.args.room.now.text ++ response_text (refused c.args.start f)) (sym c.in-Unsupported.is)

pub returns-in-OutOfMemory-clause-text : goal.returns-in-OutOfMemory-clause-text
returns-in-OutOfMemory-clause-text c = c.write_plain.ensures.text ∙ ap (λ (f : Fault). c.args.room.now.text ++ response_text (refused c.args.start f)) (sym c.in-OutOfMemory.is)
