-- An item takes some bytes, and a Feed that gives one has fewer left.
use Rattle.std.proofs.Common.{◌≡◌, ℕ, ◌<◌, zero, suc, List, [], ◌∷◌, ◌++◌, length, take, Option, Some, None, ap, subst, arith, length-append}
use Rattle.std.specs.Prelude.{Result, Ok, IfNone}
use Rattle.std.proofs.lemmas.List.{length-drop}
use Rattle.rtsp_grammar.specs.Answer.{Decides}
use Rattle.rtsp_grammar.specs.Frame.{frame_text}
use Rattle.rtsp_grammar.specs.Item.{Spells, IsHeadText}
use Rattle.rtsp_grammar.specs.Lines.{blank_text, lines_text}
use Rattle.rtsp_grammar.specs.Stream.{Feeding, Takes}
use Rattle.rtsp_grammar.specs.declared.fault.MessageFault.{MessageFault}
use Rattle.rtsp_grammar.specs.declared.message.Item.{Item}
use Rattle.rtsp_grammar.specs.declared.message.Item.TheVariants as items

head_some : (front : List ℕ) (lines : List (List ℕ)) → IsHeadText front lines → 0 < length front
head_some front lines h =
    omega (arith, ap length h.parts, length-append (blank_text h.blank) (lines_text lines ++ 13 ∷ 10 ∷ []), length-append (lines_text lines) (13 ∷ 10 ∷ []))

spelled_some : (text : List ℕ) (item : Item) → Spells text item → 0 < length text
spelled_some text (items.Frame frame) h = omega (arith, ap length h.parts, length-append (blank_text h.blank) (frame_text frame))
spelled_some text (items.Request request) h = omega (arith, ap length h.parts, length-append h.front request.body, head_some h.front h.lines h.head_text)
spelled_some text (items.Response response) h = omega (arith, ap length h.parts, length-append h.front response.body, head_some h.front h.lines h.head_text)

takes_some : (bytes : List ℕ) (item : Item) (size : ℕ) → Decides bytes (Ok (item, size)) → 0 < size
takes_some bytes item zero h = absurd (omega (arith, spelled_some (take 0 bytes) item h.1))
takes_some bytes item (suc n) h = omega arith

-- what `next` did, where no fault was kept
pub taken : (feed new : Feeding) (result : Result (Option Item) MessageFault) → feed.fault ≡ None → IfNone feed.fault (Takes feed.unread new result) → Takes feed.unread new result
taken feed new result none h = subst (λ z. IfNone z (Takes feed.unread new result)) none h

pub taken_item : (feed new : Feeding) (found : Option Item) (item : Item) → found ≡ Some item → feed.fault ≡ None → IfNone feed.fault (Takes feed.unread new (Ok found)) → Takes feed.unread new (Ok (Some item))
taken_item feed new found item is none h = taken feed new (Ok (Some item)) none (subst (λ (z : Option Item). IfNone feed.fault (Takes feed.unread new (Ok z))) is h)

pub takes_less : (unread : List ℕ) (new : Feeding) (item : Item) → Takes unread new (Ok (Some item)) → length new.unread < length unread
takes_less unread new item h = omega (arith, takes_some unread item h.0 h.1, ap (λ (z : Feeding). length z.unread) h.2, length-drop h.0 unread, h.1.0)
