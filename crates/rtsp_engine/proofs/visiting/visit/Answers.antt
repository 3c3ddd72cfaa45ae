use Rattle.std.proofs.Common.{refl, ◌∙◌, arith}
use Rattle.rtsp_engine.specs.declared.visiting.VisitEnd.TheVariants.{More, Waits}
use Rattle.rtsp_engine.proofs.Batches.{batch_none, batch_more, batch_kept, delivered_visits, ended_visits, moves, none_visits, told_visits}
use Rattle.rtsp_engine.proofs.Going.{progress_none}
use Rattle.rtsp_engine.proofs.Pieces.{no_pieces, one_piece, reads_none, reads_after}
use Rattle.rtsp_engine.proofs.visiting.visit.Goals as goal

pub loop-count-init : goal.loop-count-init
loop-count-init g c = record { batch = batch_none _ _ c.clear.ensures.text (progress_none _ _ _ _); undecided = λ first. first; reads = refl; writes = refl; pieces = no_pieces _ _ }

pub returns-in-Err-clause-visited : goal.returns-in-Err-clause-visited
returns-in-Err-clause-visited g c =
    ended_visits _ _ c.write_answers.result c.in-Err.end (g.O.ByteOut.contents c.write_answers.new.writer) c.ended.ensures
    (batch_kept _ _ (g.I.PieceIn.remaining c.read_or_end.new.reader) c.loop-count.invariant.batch c.in-Err.ensures.kept) c.loop-count.invariant.undecided
    c.write_answers.ensures.all c.write_answers.ensures.part (none_visits _ _ c.in-Err.end c.in-Err.ensures.none)

pub returns-in-Err-push-clause-visited : goal.returns-in-Err-push-clause-visited
returns-in-Err-push-clause-visited g c =
    told_visits _ _ c.push.new.input c.tell.result (g.O.ByteOut.contents c.tell.new.writer) c.loop-count.invariant.batch c.in-Ok.ensures.piece c.in-Err-push.ensures.ends c.tell.ensures.same c.tell.ensures.told

pub returns-in-Some-clause-visited : goal.returns-in-Some-clause-visited
returns-in-Some-clause-visited g c =
    delivered_visits _ _ c.deliver.new.room.text c.in-Some.end (g.O.ByteOut.contents c.deliver.new.writer)
    (batch_more _ _ c.loop-count.invariant.batch c.in-Ok.ensures.piece c.in-Ok-push.ensures.goes_on c.in-Some.ensures.same) (λ _. c.in-Ok-push.ensures.undecided) c.in-Some.ensures.delivers

pub returns-then-not-reads_all-clause-visited : goal.returns-then-not-reads_all-clause-visited
returns-then-not-reads_all-clause-visited g c =
    ended_visits _ _ c.write_answers-then-not-reads_all.result Waits (g.O.ByteOut.contents c.write_answers-then-not-reads_all.new.writer) c.ended-then-not-reads_all.ensures
    (moves _ _ c.deliver.new.room.text (g.O.ByteOut.contents c.deliver.new.writer)
    (batch_more _ _ c.loop-count.invariant.batch c.in-Ok.ensures.piece c.in-Ok-push.ensures.goes_on c.in-None.ensures.same) c.in-None.ensures.delivers) (λ _. c.in-Ok-push.ensures.undecided)
    c.write_answers-then-not-reads_all.ensures.all c.write_answers-then-not-reads_all.ensures.part (λ goes. goes)

pub loop-count-preserved : goal.loop-count-preserved
loop-count-preserved g c =
    record {
      batch = moves _ _ c.deliver.new.room.text (g.O.ByteOut.contents c.deliver.new.writer)
          (batch_more _ _ c.loop-count.invariant.batch c.in-Ok.ensures.piece c.in-Ok-push.ensures.goes_on c.in-None.ensures.same) c.in-None.ensures.delivers;
      undecided = λ _. c.in-Ok-push.ensures.undecided;
      reads = c.in-Ok.ensures.cause ∙ c.loop-count.invariant.reads;
      writes = c.in-None.ensures.cause ∙ c.loop-count.invariant.writes;
      pieces = one_piece c.loop-count.invariant.pieces c.in-Ok.ensures.piece (omega (arith, c.loop-count.auto.buffer, c.read_or_end.auto.buffer));
    }

pub returns-clause-visited : goal.returns-clause-visited
returns-clause-visited g c =
    ended_visits _ _ c.write_answers-2.result More (g.O.ByteOut.contents c.write_answers-2.new.writer) c.ended-2.ensures
    c.loop-count.invariant.batch c.loop-count.invariant.undecided c.write_answers-2.ensures.all c.write_answers-2.ensures.part (λ goes. goes)

pub returns-in-Err-clause-reads : goal.returns-in-Err-clause-reads
returns-in-Err-clause-reads g c =
    reads_none c.write_answers.result c.in-Err.end c.loop-count.invariant.pieces c.in-Err.ensures.kept c.in-Err.ensures.none c.ended.ensures (omega (arith, c.loop-count-test.true))

pub returns-in-Err-push-clause-reads : goal.returns-in-Err-push-clause-reads
returns-in-Err-push-clause-reads g c = reads_after c.loop-count.invariant.pieces c.in-Ok.ensures.piece c.loop-count-test.true (omega (arith, c.loop-count.auto.buffer, c.read_or_end.auto.buffer))

pub returns-in-Some-clause-reads : goal.returns-in-Some-clause-reads
returns-in-Some-clause-reads g c = reads_after c.loop-count.invariant.pieces c.in-Ok.ensures.piece c.loop-count-test.true (omega (arith, c.loop-count.auto.buffer, c.read_or_end.auto.buffer))

pub returns-then-not-reads_all-clause-reads : goal.returns-then-not-reads_all-clause-reads
returns-then-not-reads_all-clause-reads g c = reads_after c.loop-count.invariant.pieces c.in-Ok.ensures.piece c.loop-count-test.true (omega (arith, c.loop-count.auto.buffer, c.read_or_end.auto.buffer))
