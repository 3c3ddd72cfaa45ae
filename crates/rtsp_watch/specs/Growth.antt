-- What a connection is answered over content that goes on between its visits.
use Rattle.std.specs.Prelude.{◌≡◌, ℕ, List}
use Rattle.rtsp_content.specs.TableValue.{TableValue}
use Rattle.rtsp_content.specs.Growing.{Extends}
use Rattle.rtsp_grammar.specs.declared.message.Item.{Item}
use Rattle.rtsp_traits.specs.Devices.{Devices}
use Rattle.rtsp_engine.specs.Served.{Line}
use Rattle.rtsp_engine.specs.Serving.{Serving}
use Rattle.rtsp_engine.specs.Visiting.{Visits, VisitsChain}
use Rattle.rtsp_engine.specs.declared.visiting.VisitEnd.{VisitEnd}
use Rattle.rtsp_watch.specs.Understanding.{AnswersUnderstood, GivesUpUnderstood}

-- the same player and seat, with this content
abbrev pub with_table : TableValue → Serving → Serving
with_table table s = record { service = record { table = table; asker = s.service.asker }; view = s.view }

-- the same line, to them
abbrev pub line_with : TableValue → Line Serving → Line Serving
line_with table s = record { unread = s.unread; output = record { text = s.output.text; answerer = with_table table s.output.answerer } }

module _ {B W C P S : Type 0} (d : Devices B W C P S) where
  module _ (opening : TableValue) where
    -- an item is answered from the content of its moment, which extends the opening one; the player stays, and the seat goes on
    pub record AnswersThen (old : Serving) (item : Item) (bytes : List ℕ) (new : Serving) : Type 0 where
      pub table : TableValue
      pub extends : Extends opening table
      pub answers : AnswersUnderstood d (with_table table old) item bytes (with_table table new)
      pub same : new.service ≡ old.service

    -- memory ran out over an item, by the content of its moment
    pub record GivesUpThen (old : Serving) (item : Item) (new : Serving) : Type 0 where
      pub table : TableValue
      pub extends : Extends opening table
      pub gives_up : GivesUpUnderstood d (with_table table old) item (with_table table new)
      pub same : new.service ≡ old.service

  -- of a visit over content that extends the opening one each item is answered from the content of its moment
  abbrev pub VisitsThen : Type 0
  VisitsThen = (opening : TableValue) (start rest : List ℕ) (end : VisitEnd) (s t : Line Serving) → Extends opening s.output.answerer.service.table
      → Visits (AnswersUnderstood d) (GivesUpUnderstood d) start rest end s t
      → Visits (AnswersThen opening) (GivesUpThen opening) start rest end (line_with opening s) (line_with opening t)

  -- such visits chain, whatever content each has: all together are one, of which each item is answered so
  abbrev pub ThenChains : Type 0
  ThenChains = (opening : TableValue) → VisitsChain (AnswersThen opening) (GivesUpThen opening)
