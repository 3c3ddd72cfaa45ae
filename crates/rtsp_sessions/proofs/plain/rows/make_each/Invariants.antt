use Rattle.std.proofs.Common.{◌≡◌, ◌+◌, ◌≤◌, drop, vec_len, vec_capacity, count_by}
use Rattle.rtsp_record.specs.Books.{after_all}
use Rattle.rtsp_sessions.specs.Plain.{InOrder, table_of, AllFit, is_open}
use Rattle.rtsp_sessions.proofs.plain.rows.make_each.Given as goal

abbrev pub invariant-loop-change : goal.invariant-loop-change
invariant-loop-change l =
    record {
      in_order : InOrder l.rows.items;
      fit : AllFit (table_of l.rows.items) (drop l.change-index l.changes);
      made : after_all (table_of l.rows.items) (drop l.change-index l.changes) ≡ after_all (table_of l.initial.rows.items) l.changes;
      room : vec_len l.rows + count_by is_open (drop l.change-index l.changes) ≤ vec_capacity l.rows;
    }
