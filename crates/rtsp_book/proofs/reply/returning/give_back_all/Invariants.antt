use Rattle.std.proofs.Common.{◌≡◌, ◌++◌, drop, flat_map}
use Rattle.std.specs.FinMap.{entries}
use Rattle.rtsp_book.specs.Returns.{giving_back}
use Rattle.rtsp_book.proofs.reply.returning.give_back_all.Given as goal

-- what was given back, with what is left to give
abbrev pub invariant-loop-index : goal.invariant-loop-index
invariant-loop-index l = l.made ++ flat_map (giving_back l.session) (drop l.index (entries l.admissions)) ≡ l.initial.made ++ flat_map (giving_back l.session) (entries l.admissions)
