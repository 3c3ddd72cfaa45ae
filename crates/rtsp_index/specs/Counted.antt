-- Counts that are those of a book.
use Rattle.std.specs.Prelude.{◌≡◌}
use Rattle.rtsp_record.specs.Books.{Book}
use Rattle.rtsp_record.specs.Sums.{living, owed}
use Rattle.rtsp_index.specs.declared.counts.Counts.{Counts}
use Rattle.rtsp_index.specs.Bound.{AreBindingsOf}

-- how many live in the book, what is owed for it, and how many are bound to each connection
pub record AreCountsOf (b : Book) (n : Counts) : Type 0 where
  pub living : n.living ≡ living b
  pub owed : n.owed ≡ owed b
  pub bindings : AreBindingsOf b n.bindings
