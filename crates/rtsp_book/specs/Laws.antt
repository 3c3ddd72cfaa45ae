-- What every answer keeps.
use Rattle.std.specs.Prelude.{◌≡◌, ℕ, ◌+◌, ◌≤◌, false, List, length, Ok}
use Rattle.rtsp_record.specs.declared.holdings.Whole.{Whole}
use Rattle.rtsp_record.specs.declared.changes.Entry.{Entry}
use Rattle.rtsp_record.specs.declared.changes.Record.{Record}
use Rattle.rtsp_record.specs.Books.{Book, after_all, book_of}
use Rattle.rtsp_record.specs.Rules.{AllAllowed, IsLegal}
use Rattle.rtsp_record.specs.Sums.{owed}
use Rattle.rtsp_book.specs.declared.steps.Step.{Step}
use Rattle.rtsp_book.specs.Replies.{reply, is_growing, IsAskable}

-- the records are allowed one after another after n entries with this book, and with what is owed then they are within the limit
pub record IsGranted (w : Whole) (n : ℕ) (b : Book) (rs : List Record) : Type 0 where
  pub allowed : AllAllowed w b rs
  pub room : n + length rs + owed (after_all b rs) ≤ w.journal

-- what a step is answered may be recorded
abbrev pub Granted : Type 0
Granted = (w : Whole) (j : List Entry) (step : Step) (rs : List Record) → IsLegal w j → length j + owed (book_of j) ≤ w.journal → IsAskable step → reply w j step ≡ Ok rs → IsGranted w (length j) (book_of j) rs

-- the steps that give back leave entries and owed returns together as many as before, and make at most 64 records
pub record GivesBack (b : Book) (rs : List Record) : Type 0 where
  pub owed_less : length rs + owed (after_all b rs) ≡ owed b
  pub short : length rs ≤ 64

-- so it is for each of these steps
abbrev pub GivingBack : Type 0
GivingBack = (w : Whole) (j : List Entry) (step : Step) (rs : List Record) → IsLegal w j → length j + owed (book_of j) ≤ w.journal → IsAskable step → is_growing step ≡ false → reply w j step ≡ Ok rs → GivesBack (book_of j) rs
