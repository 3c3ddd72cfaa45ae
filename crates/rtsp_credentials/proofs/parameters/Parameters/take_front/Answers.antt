use Rattle.std.proofs.Common.{◌∙◌, sym, ap, subst, Option, Some, None, List, ℕ, Bor}
use Rattle.std.specs.Option.{option_map}
use Rattle.rtsp_text.specs.Slices.{held}
use Rattle.rtsp_credentials.specs.Field.{name_of}
use Rattle.rtsp_credentials.specs.Front.{Gathers}
use Rattle.rtsp_credentials.specs.ParameterView.{shown}
use Rattle.rtsp_credentials.proofs.Fronts.{front_put, part_taken}
use Rattle.rtsp_credentials.proofs.parameters.Parameters.take_front.Goals as goal

pub returns-in_err-fill-clause-taken : goal.returns-in_err-fill-clause-taken
returns-in_err-fill-clause-taken c =
    subst (λ (o : Option (Option (Bor (List ℕ)))). Gathers c.args.text.now (shown c.args.self.now) (shown c.fill.new.self) (option_map held o)) (sym c.from_residual.ensures)
    (front_put c.args.text.now (name_of c.in-Some.front.field) c.in-Some.front.value.now (held c.in-Some.front.left) (shown c.args.self.now) None c.in-Some.ensures
    (sym (ap (option_map (λ (done : Unit {0}). shown c.fill.new.self)) c.in_err-fill.was) ∙ c.fill.ensures))

pub returns-in-Some-clause-taken : goal.returns-in-Some-clause-taken
returns-in-Some-clause-taken c =
    front_put c.args.text.now (name_of c.in-Some.front.field) c.in-Some.front.value.now (held c.in-Some.front.left) (shown c.args.self.now) (Some (shown c.fill.new.self)) c.in-Some.ensures
    (sym (ap (option_map (λ (done : Unit {0}). shown c.fill.new.self)) c.in_ok-fill.was) ∙ c.fill.ensures)

pub returns-in_err-take-clause-taken : goal.returns-in_err-take-clause-taken
returns-in_err-take-clause-taken c =
    subst (λ (o : Option (Option (Bor (List ℕ)))). Gathers c.args.text.now (shown c.args.self.now) (shown c.take.new.self) (option_map held o)) (sym c.from_residual-in_err-take.ensures)
    (part_taken c.args.text.now c.first_part.result.0.now (held c.first_part.result.1) (shown c.args.self.now) None c.first_part.ensures.parts
    (sym (ap (option_map (λ (done : Unit {0}). shown c.take.new.self)) c.in_err-take.was) ∙ c.take.ensures))

pub returns-clause-taken : goal.returns-clause-taken
returns-clause-taken c =
    part_taken c.args.text.now c.first_part.result.0.now (held c.first_part.result.1) (shown c.args.self.now) (Some (shown c.take.new.self)) c.first_part.ensures.parts
    (sym (ap (option_map (λ (done : Unit {0}). shown c.take.new.self)) c.in_ok-take.was) ∙ c.take.ensures)
