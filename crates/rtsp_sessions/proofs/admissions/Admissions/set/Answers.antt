use Rattle.std.proofs.Common.{sym, ap, ◌∙◌, arith}
use Rattle.std.specs.FinMap.{get}
use Rattle.rtsp_record.specs.declared.holdings.Admission.{Admission}
use Rattle.rtsp_record.specs.Tables.{Table, set}
use Rattle.rtsp_record.proofs.Tables.{set-same}
use Rattle.rtsp_sessions.proofs.SortedRows.{absent}
use Rattle.rtsp_sessions.proofs.FixedRows.{first_replaced, first_cut, first_put, has_room}
use Rattle.rtsp_sessions.proofs.admissions.Admissions.set.Goals as goal

pub invariant_of-self : goal.invariant_of-self
invariant_of-self c =
    (c.self.invariant.0, (first_replaced c.self.inside.len c.args.admission c.in-Ok.index c.in-Some.held c.self.inside.rows c.self.invariant.1 c.in-Ok.ensures.ok).in_order)

pub invariant_of-self-in-None : goal.invariant_of-self-in-None
invariant_of-self-in-None c =
    (omega (arith, c.self.invariant.0), (first_cut c.self.inside.len c.args.admission c.in-Ok.index c.self.inside.rows _ c.self.invariant.1 c.in-Ok.ensures.ok (omega (arith, c.self.invariant.0)) c.copy_within.ensures.after).in_order)

pub copy_within-requires-in-Some-held-clause-dest_in_bounds : goal.copy_within-requires-in-Some-held-clause-dest_in_bounds
copy_within-requires-in-Some-held-clause-dest_in_bounds c =
    let room = has_room c.self.inside.len c.args.admission c.in-Err.index 16 c.self.inside.rows c.args.self.now c.args.held c.in-Some-held.held c.self.invariant.1 c.in-Err.ensures.err (omega (arith, c.self.invariant.0)) c.self.view_is c.in-Some-held.is c.requires in
    omega (arith, room.0, room.1, c.self.invariant.0)

pub bounds-self-inside-index-in-Some-held : goal.bounds-self-inside-index-in-Some-held
bounds-self-inside-index-in-Some-held c =
    let room = has_room c.self.inside.len c.args.admission c.in-Err.index 16 c.self.inside.rows c.args.self.now c.args.held c.in-Some-held.held c.self.invariant.1 c.in-Err.ensures.err (omega (arith, c.self.invariant.0)) c.self.view_is c.in-Some-held.is c.requires in
    omega (arith, room.0, room.1)

pub invariant_of-self-in-Some-held : goal.invariant_of-self-in-Some-held
invariant_of-self-in-Some-held c =
    let room = has_room c.self.inside.len c.args.admission c.in-Err.index 16 c.self.inside.rows c.args.self.now c.args.held c.in-Some-held.held c.self.invariant.1 c.in-Err.ensures.err (omega (arith, c.self.invariant.0)) c.self.view_is c.in-Some-held.is c.requires in
    (omega (arith, room.0), (first_put c.self.inside.len c.args.admission c.in-Err.index c.in-Some-held.held c.self.inside.rows _ c.self.invariant.1 c.in-Err.ensures.err (omega (arith, room.0)) c.copy_within-in-Some-held.ensures.after).in_order)

pub returns-in-Some : goal.returns-in-Some
returns-in-Some c =
    (first_replaced c.self.inside.len c.args.admission c.in-Ok.index c.in-Some.held c.self.inside.rows c.self.invariant.1 c.in-Ok.ensures.ok).table
    ∙ (λ t. set (c.self.view_is t) c.args.admission (sym c.in-Some.is t))

pub returns-in-None : goal.returns-in-None
returns-in-None c =
    (first_cut c.self.inside.len c.args.admission c.in-Ok.index c.self.inside.rows _ c.self.invariant.1 c.in-Ok.ensures.ok (omega (arith, c.self.invariant.0)) c.copy_within.ensures.after).table
    ∙ (λ t. set (c.self.view_is t) c.args.admission (sym c.in-None.is t))

pub returns-in-Some-held : goal.returns-in-Some-held
returns-in-Some-held c =
    let room = has_room c.self.inside.len c.args.admission c.in-Err.index 16 c.self.inside.rows c.args.self.now c.args.held c.in-Some-held.held c.self.invariant.1 c.in-Err.ensures.err (omega (arith, c.self.invariant.0)) c.self.view_is c.in-Some-held.is c.requires in
    (first_put c.self.inside.len c.args.admission c.in-Err.index c.in-Some-held.held c.self.inside.rows _ c.self.invariant.1 c.in-Err.ensures.err (omega (arith, room.0)) c.copy_within-in-Some-held.ensures.after).table
    ∙ (λ t. set (c.self.view_is t) c.args.admission (sym c.in-Some-held.is t))

pub returns-in-None-held : goal.returns-in-None-held
returns-in-None-held c =
    let none = ap (λ (t : Table Admission). get t c.args.admission) (sym c.self.view_is) ∙ absent c.args.admission _ c.in-Err.index c.self.invariant.1 c.in-Err.ensures.err in
    sym (set-same c.args.self.now c.args.admission) ∙ ap (set c.args.self.now c.args.admission) (none ∙ sym c.in-None-held.is)
