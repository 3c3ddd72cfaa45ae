-- What the bytes at the front of a connection's input are: an item, a fault, or not yet known.
use Rattle.std.specs.Prelude.{◌≡◌, ℕ, ◌<◌, ◌≤◌, ◌⊎◌, List, ◌++◌, length, take, Option, Some, None, Result, Ok, Err}
use Rattle.std.specs.List.{AllByRecursion}
use Rattle.rtsp_grammar.specs.Frame.{BeginsFrame, IsShortFrame}
use Rattle.rtsp_grammar.specs.Head.{HeadRule}
use Rattle.rtsp_grammar.specs.Item.{IsHeadText, Spells}
use Rattle.rtsp_grammar.specs.Lines.{blank_text, IsBrokenHead, IsOpenHead}
use Rattle.rtsp_grammar.specs.declared.head.Head.{Head}
use Rattle.rtsp_grammar.specs.declared.message.Item.{Item}
use Rattle.rtsp_grammar.specs.declared.fault.MessageFault.{MessageFault}
use Rattle.rtsp_grammar.specs.declared.fault.MessageFault.TheVariants.{BadLine, HeadTooLong, OutOfMemory}

-- what stands after the empty lines, in the 8,192 bytes that a head may have, is no frame
pub record HasMessage (text message : List ℕ) : Type 0 where
  pub blank : ℕ
  pub parts : take 8192 text ≡ blank_text blank ++ message
  pub no_frame : ¬ BeginsFrame message

-- a CR or an LF alone ends a line of the head
pub record BreaksLine (text : List ℕ) : Type 0 where
  pub message : List ℕ
  pub has : HasMessage text message
  pub broken : IsBrokenHead message

-- 8,192 bytes without the head's end
pub record PassesLimit (text : List ℕ) : Type 0 where
  pub message : List ℕ
  pub has : HasMessage text message
  pub open_end : IsOpenHead message
  pub long : 8192 ≤ length text

-- the first rule that the head's lines break has this fault
pub record BreaksRule (text : List ℕ) (fault : MessageFault) : Type 0 where
  pub front : List ℕ
  pub rest : List ℕ
  pub parts : text ≡ front ++ rest
  pub lines : List (List ℕ)
  pub head_text : IsHeadText front lines
  pub rules : HeadRule lines (Err fault)

abbrev pub HasFault : List ℕ → MessageFault → Type 0
HasFault text fault = (((fault ≡ BadLine) × BreaksLine text) ⊎ ((fault ≡ HeadTooLong) × PassesLimit text)) ⊎ BreaksRule text fault

-- a frame that isn't whole
pub record IsPartialFrame (text : List ℕ) : Type 0 where
  pub blank : ℕ
  pub few : blank < 4096
  pub message : List ℕ
  pub parts : text ≡ blank_text blank ++ message
  pub begins : BeginsFrame message
  pub short : IsShortFrame message

-- a head that isn't whole
pub record IsPartialHead (text : List ℕ) : Type 0 where
  pub message : List ℕ
  pub has : HasMessage text message
  pub open_end : IsOpenHead message
  pub short : length text < 8192

-- a head, and less than the body that it announces
pub record IsPartialBody (text : List ℕ) : Type 0 where
  pub front : List ℕ
  pub rest : List ℕ
  pub parts : text ≡ front ++ rest
  pub lines : List (List ℕ)
  pub head_text : IsHeadText front lines
  pub head : Head
  pub announced : ℕ
  pub rules : HeadRule lines (Ok (head, announced))
  pub short : length rest < announced

-- more bytes are needed to tell
abbrev pub IsUndecided : List ℕ → Type 0
IsUndecided text = (IsPartialFrame text ⊎ IsPartialHead text) ⊎ IsPartialBody text

-- the text's answer, whatever follows it: an item with the bytes that it takes, or a fault
abbrev pub Decides : List ℕ → Result (Item × ℕ) MessageFault → Type 0
Decides text (Ok found) = (found.1 ≤ length text) × Spells (take found.1 text) found.0
Decides text (Err fault) = HasFault text fault

-- a text has at most one answer, and a longer text has no other
abbrev pub OneAnswer : Type 0
OneAnswer = (text more : List ℕ) (a b : Result (Item × ℕ) MessageFault) → Decides text a → Decides (text ++ more) b → a ≡ b

-- an answer is that of each longer text
abbrev pub Stays : Type 0
Stays = (text more : List ℕ) (a : Result (Item × ℕ) MessageFault) → Decides text a → Decides (text ++ more) a

-- an undecided text has no answer
abbrev pub NoAnswer : Type 0
NoAnswer = (text : List ℕ) (a : Result (Item × ℕ) MessageFault) → IsUndecided text → Decides text a → ⊥

-- each number is a byte
abbrev pub AreBytes : List ℕ → Type 0
AreBytes text = AllByRecursion (λ b. b < 256) text

-- an undecided text of bytes can be made longer, so that it has an answer
abbrev pub OpensOut : Type 0
OpensOut = (text : List ℕ) → AreBytes text → IsUndecided text → (more : List ℕ) × (a : Result (Item × ℕ) MessageFault) × AreBytes more × Decides (text ++ more) a

-- what was returned is the answer a, unless memory ran out
abbrev pub Answers : Result (Option (Item × ℕ)) MessageFault → Result (Item × ℕ) MessageFault → Type 0
Answers (Ok (Some found)) a = a ≡ Ok found
Answers (Ok None) a = ⊥
Answers (Err fault) a = (fault ≡ OutOfMemory) ⊎ (a ≡ Err fault)

-- nothing was found, unless memory ran out
abbrev pub FindsNothing : Result (Option (Item × ℕ)) MessageFault → Type 0
FindsNothing (Ok (Some found)) = ⊥
FindsNothing (Ok None) = Unit {0}
FindsNothing (Err fault) = fault ≡ OutOfMemory
