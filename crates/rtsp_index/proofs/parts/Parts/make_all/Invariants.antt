use Rattle.std.proofs.Common.{◌≡◌, drop}
use Rattle.std.specs.Prelude.{count_by}
use Rattle.rtsp_record.specs.Books.{after_all}
use Rattle.rtsp_record.specs.Rules.{AllAllowed}
use Rattle.rtsp_sessions.specs.Plain.{is_open}
use Rattle.rtsp_index.specs.Following.{is_bind, is_chan_hold}
use Rattle.rtsp_index.specs.Agreeing.{book_in, AllAgree, HasRoomFor}
use Rattle.rtsp_index.proofs.parts.Parts.make_all.Given as goal

abbrev pub invariant-loop-change : goal.invariant-loop-change
invariant-loop-change l =
    record {
      agree : AllAgree l.self;
      whole : l.self.whole ≡ l.initial.self.whole;
      allowed : AllAllowed l.self.whole (book_in l.self) (drop l.change-index l.changes);
      made : after_all (book_in l.self) (drop l.change-index l.changes) ≡ after_all (book_in l.initial.self) l.changes;
      room : HasRoomFor l.self (count_by is_open (drop l.change-index l.changes)) (count_by is_bind (drop l.change-index l.changes)) (count_by is_chan_hold (drop l.change-index l.changes));
    }
