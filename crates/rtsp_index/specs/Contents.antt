-- The book of a table of sessions, and its room.
use Rattle.std.specs.Prelude.{◌≡◌, ℕ, ◌<◌, ◌≤◌, nat_eq, take, slice_get, Some}
use Rattle.slab.specs.Slab.{HasRoomFor}
use Rattle.indexmap.specs.IndexMap.{spare, get as get_place}
use Rattle.rtsp_record.specs.Books.{Book}
use Rattle.rtsp_index.specs.declared.table.SessionTable.{SessionTable}
use Rattle.rtsp_index.specs.Placing.{gathered}

-- the living sessions
abbrev pub sessions_in : SessionTable → Book
sessions_in t = gathered t.rows t.places.entries

-- the living sessions of the first n numbers of `places`
abbrev pub sessions_of_first : SessionTable → ℕ → Book
sessions_of_first t n = gathered t.rows (take n t.places.entries)

-- at this index of `places` stands this number, which has a row
pub record StandsAt (t : SessionTable) (index number : ℕ) : Type 0 where
  pub place : ℕ
  pub there : slice_get t.places.entries index ≡ Some (number, place)
  pub found : get_place nat_eq t.places number ≡ Some place

-- so many more sessions need no memory
abbrev pub HasRoom : SessionTable → ℕ → Type 0
HasRoom t n = (n ≤ spare t.places) × HasRoomFor t.rows n × (0 < n → t.rows.capacity ≤ t.expiries.places)
