-- Parts that speak of one book.
use Rattle.std.specs.Prelude.{◌≡◌, ℕ, ◌+◌, ◌^◌, ◌<◌, ◌≤◌}
use Rattle.indexmap.specs.IndexMap.{spare}
use Rattle.rtsp_record.specs.declared.holdings.Whole.{Whole}
use Rattle.rtsp_record.specs.Books.{Book}
use Rattle.rtsp_record.specs.declared.changes.Record.{Record}
use Rattle.rtsp_record.specs.Sums.{one_if}
use Rattle.rtsp_record.specs.Sound.{Sound}
use Rattle.rtsp_record.specs.Choices.{HasPorts}
use Rattle.rtsp_sessions.specs.Plain.{is_open}
use Rattle.rtsp_index.specs.declared.counts.Counts.{Counts}
use Rattle.rtsp_index.specs.declared.names.Names.{Names}
use Rattle.rtsp_index.specs.declared.pools.Pools.{Pools}
use Rattle.rtsp_index.specs.declared.parts.Parts.{Parts}
use Rattle.rtsp_index.specs.Contents.{sessions_in, HasRoom}
use Rattle.rtsp_index.specs.Following.{is_bind, is_chan_hold}
use Rattle.rtsp_index.specs.Pooling.{ArePoolsOf}
use Rattle.rtsp_index.specs.Named.{AreNamesOf}
use Rattle.rtsp_index.specs.Counted.{AreCountsOf}

-- the living sessions
abbrev pub book_in : Parts → Book
book_in p = sessions_in p.sessions

-- the book is sound in its whole, which has its ports, and pools, names and counts are those of the book
pub record Agree (w : Whole) (b : Book) (free : Pools) (index : Names) (sums : Counts) : Type 0 where
  pub sound : Sound w b
  pub ports : HasPorts w
  pub small : w.sessions < 2 ^ 16
  pub whole : free.pairs.whole ≡ w
  pub pools : ArePoolsOf b free
  pub names : AreNamesOf b index
  pub counts : AreCountsOf b sums

-- all parts agree
abbrev pub AllAgree : Parts → Type 0
AllAgree p = Agree p.whole (book_in p) p.pools p.names p.counts

-- so many more sessions, startup numbers and Holds of channels want no memory
pub record HasRoomFor (p : Parts) (opens binds holds : ℕ) : Type 0 where
  pub rows : HasRoom p.sessions opens
  pub ids : opens ≤ spare p.names.ids
  pub startups : binds ≤ spare p.names.startups
  pub chans : holds ≤ spare p.pools.chans.held
  pub bindings : binds ≤ spare p.counts.bindings.counts

-- there is room for so much more beside the record
abbrev pub HasRoomBeside : Parts → Record → ℕ → ℕ → ℕ → Type 0
HasRoomBeside p r opens binds holds = HasRoomFor p (opens + one_if (is_open r)) (binds + one_if (is_bind r)) (holds + one_if (is_chan_hold r))
