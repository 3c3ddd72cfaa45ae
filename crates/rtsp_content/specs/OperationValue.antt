-- What `serve` keeps and shows, as contracts see it.
use Rattle.std.specs.Prelude.{ℕ, Bool, List, Option}
use Rattle.rtsp_content.specs.JournalFilesValue.{JournalFilesValue}

pub record OperationValue : Type 0 where
  pub journal : Option JournalFilesValue
  pub access_log : Bool
  pub status : Option (List ℕ)
  pub proxy : List ℕ
  pub status_open : Bool
  pub drain : ℕ
  pub users : Option (List ℕ)
  pub watch : Bool
