-- What is known of the front of a text that is read in pieces.
use Rattle.std.specs.Prelude.{◌≡◌, ◌≢◌, ℕ, ◌<◌, ◌≤◌, Bool, true, false, List, [], ◌++◌, length, drop, Option, Some, None, Ok}
use Rattle.std.specs.List.{AllByRecursion}
use Rattle.rtsp_grammar.specs.Frame.{BeginsFrame}
use Rattle.rtsp_text.specs.Line.{IsPlain}
use Rattle.rtsp_grammar.specs.Lines.{blank_text, lines_text, IsLine}
use Rattle.rtsp_grammar.specs.Answer.{Decides, IsUndecided}
use Rattle.rtsp_grammar.specs.declared.read.Front.{Front}
use Rattle.rtsp_grammar.specs.declared.read.Front.TheVariants as fronts
use Rattle.rtsp_grammar.specs.declared.feed.Progress.{Progress}
use Rattle.rtsp_grammar.specs.declared.feed.Progress.TheVariants as progresses
use Rattle.rtsp_grammar.specs.declared.scan.ScanPlace.{ScanPlace}
use Rattle.rtsp_grammar.specs.declared.scan.Reached.{Reached}
use Rattle.rtsp_grammar.specs.declared.scan.Reached.TheVariants as reaches

-- what a line that ends leads to; an empty line after another ends the head
abbrev pub reached_after : Reached → Bool → Option Reached
reached_after reaches.Start true = Some reaches.Start
reached_after reaches.LineEnd true = None
reached_after reaches.Line true = Some reaches.LineEnd
reached_after reached false = Some reaches.LineEnd

-- what bytes of a line that isn't ended lead to, if there are any
abbrev pub reached_within : Reached → Bool → Reached
reached_within reached true = reached
reached_within reached false = reaches.Line

-- no frame stands where no line has begun
abbrev pub BeginsNoFrame : Reached → List ℕ → Type 0
BeginsNoFrame reaches.Start left = ¬ BeginsFrame left
BeginsNoFrame reaches.LineEnd left = Unit {0}
BeginsNoFrame reaches.Line left = Unit {0}

-- no line has begun, or the last one is ended, or bytes of one that isn't ended stand there
abbrev pub HasReached : Reached → List (List ℕ) → List ℕ → Type 0
HasReached reaches.Start lines part = (lines ≡ []) × (part ≡ [])
HasReached reaches.LineEnd lines part = (lines ≢ []) × (part ≡ [])
HasReached reaches.Line lines part = 0 < length part

-- before rest there are empty lines, lines and the front of a line: no head ends there, and no frame begins
pub record IsReached (text : List ℕ) (reached : Reached) (rest : List ℕ) : Type 0 where
  pub blank : ℕ
  pub lines : List (List ℕ)
  pub part : List ℕ
  pub parts : text ≡ blank_text blank ++ (lines_text lines ++ (part ++ rest))
  pub each : AllByRecursion IsLine lines
  pub plain : IsPlain part
  pub no_frame : ¬ BeginsFrame (lines_text lines ++ part)
  pub reached_is : HasReached reached lines part

-- no head ends before the place
pub record IsPlace (text : List ℕ) (place : ScanPlace) : Type 0 where
  pub within : place.at ≤ length text
  pub reached : IsReached text place.reached (drop place.at text)

-- the text and each longer one with fewer than so many bytes are undecided
abbrev pub IsShortOf : List ℕ → ℕ → Type 0
IsShortOf text whole = (more : List ℕ) → length (text ++ more) < whole → IsUndecided (text ++ more)

-- an item, a head that is open, or a text that is undecided while it has fewer bytes than this
abbrev pub IsFront : List ℕ → Front → Type 0
IsFront text (fronts.Item item len) = Decides text (Ok (item, len))
IsFront text fronts.OpenHead = IsUndecided text
IsFront text (fronts.Short whole) = IsUndecided text × IsShortOf text whole

-- what the progress says of the unread bytes is true
abbrev pub HasProgress : List ℕ → Progress → Type 0
HasProgress text progresses.Fresh = Unit {0}
HasProgress text (progresses.Head place) = IsPlace text place
HasProgress text (progresses.Whole len) = IsShortOf text len
