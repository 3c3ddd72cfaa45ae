-- Names that are those of a book.
use Rattle.std.specs.Prelude.{nat_eq}
use Rattle.indexmap.specs.IndexMap.{get}
use Rattle.rtsp_record.specs.Books.{Book}
use Rattle.rtsp_index.specs.declared.names.Names.{Names}
use Rattle.rtsp_index.specs.Naming.{id_of, startup_of, name_at, same_startup, IsIndex}

-- each id and each startup number finds its session
pub record AreNamesOf (b : Book) (n : Names) : Type 0 where
  pub ids : IsIndex (name_at id_of b) (λ i. get nat_eq n.ids i)
  pub startups : IsIndex (name_at startup_of b) (λ k. get same_startup n.startups k)
