-- The items of a stream, however it comes in pieces.
use Rattle.std.specs.Prelude.{◌≡◌, ℕ, ◌⊎◌, List, [], ◌∷◌, ◌++◌, drop, Option, Some, None, IfSome, Result, Ok, Err}
use Rattle.rtsp_grammar.specs.Answer.{Decides, HasFault, IsUndecided}
use Rattle.rtsp_grammar.specs.declared.message.Item.{Item}
use Rattle.rtsp_grammar.specs.declared.fault.MessageFault.{MessageFault}
use Rattle.rtsp_grammar.specs.declared.fault.MessageFault.TheVariants.{OutOfMemory}

-- the text is these items, one after another, and then rest
abbrev pub HasItems : List ℕ → List Item → List ℕ → Type 0
HasItems text [] rest = text ≡ rest
HasItems text (item ∷ items) rest = (n : ℕ) × Decides text (Ok (item, n)) × HasItems (drop n text) items rest

-- no item stands at the front: more bytes are needed to tell, or the text has a fault
abbrev pub IsEnd : List ℕ → Type 0
IsEnd text = IsUndecided text ⊎ ((fault : MessageFault) × HasFault text fault)

-- the items of a text are the first of those of a longer text
abbrev pub KeepsItems : Type 0
KeepsItems = (text more rest left : List ℕ) (items others : List Item) → HasItems text items rest → HasItems (text ++ more) others left → IsEnd left
    → (later : List Item) × (others ≡ items ++ later) × HasItems (rest ++ more) later left

-- what a Feed holds: the bytes that were pushed and are in no item that it gave, and the fault that it keeps
pub record Feeding : Type 0 where
  pub unread : List ℕ
  pub fault : Option MessageFault

-- unread bytes, and no fault yet
abbrev pub waiting : List ℕ → Feeding
waiting unread = record { unread = unread; fault = None }

-- the next item of these unread bytes is given, or none is whole, or they have a fault, which is kept
abbrev pub Takes : List ℕ → Feeding → Result (Option Item) MessageFault → Type 0
Takes unread new (Ok (Some item)) = (n : ℕ) × Decides unread (Ok (item, n)) × (new ≡ waiting (drop n unread))
Takes unread new (Ok None) = IsUndecided unread × (new ≡ waiting unread)
Takes unread new (Err fault) = ((fault ≡ OutOfMemory) × (new ≡ waiting unread)) ⊎ (HasFault unread fault × (new ≡ record { unread = unread; fault = Some fault }))

-- the item that an answer gives
abbrev pub given : Result (Option Item) MessageFault → List Item
given (Ok (Some item)) = item ∷ []
given (Ok None) = []
given (Err fault) = []

-- a Feed to which this text was pushed, in whatever pieces, and which gave these items of it
pub record IsFed (text : List ℕ) (items : List Item) (feed : Feeding) : Type 0 where
  pub has : HasItems text items feed.unread
  pub kept : IfSome feed.fault (λ f. HasFault feed.unread f)

-- Feeds that have given all items of a text have given the same, and have the same left
abbrev pub HoweverCut : Type 0
HoweverCut = (text : List ℕ) (items others : List Item) (one other : Feeding) → IsFed text items one → IsFed text others other → IsEnd one.unread → IsEnd other.unread
    → (items ≡ others) × (one.unread ≡ other.unread)
