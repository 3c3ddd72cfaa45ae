-- How the items of a connection are answered by one who is watched.
use Rattle.std.specs.Prelude.{◌≡◌, ℕ, List}
use Rattle.rtsp_grammar.specs.declared.message.Item.{Item}
use Rattle.rtsp_watch.specs.declared.watching.Watched.{Watched}

module _ {A T : Type 0} (Answers : A → Item → List ℕ → A → Type 0) (GivesUp : A → Item → A → Type 0) where
  -- whoever is watched answers as without it, and stays the same one
  abbrev pub AnswersWatched : Watched A T → Item → List ℕ → Watched A T → Type 0
  AnswersWatched old item bytes new = Answers old.answerer.now item bytes new.answerer.now × (new.answerer.ghost_name ≡ old.answerer.ghost_name)

  -- whoever is watched gives up as without it, and stays the same one
  abbrev pub GivesUpWatched : Watched A T → Item → Watched A T → Type 0
  GivesUpWatched old item new = GivesUp old.answerer.now item new.answerer.now × (new.answerer.ghost_name ≡ old.answerer.ghost_name)
