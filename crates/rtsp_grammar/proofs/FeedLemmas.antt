-- What a Feed knows of its unread bytes, and the items that it has given.
use Rattle.std.proofs.Common.{◌≡◌, ◌≢◌, ℕ, ◌+◌, ◌<◌, ◌⊎◌, List, [], ◌∷◌, ◌++◌, length, take, drop, refl, sym, ap, subst, ◌∙◌, append_assoc, arith, inl, inr, Option, Some, None, Result, Ok, Err}
use Rattle.std.specs.Prelude.{IfSome, IfNone, OnOk, nat_lt}
use Rattle.std.specs.Bool.{OnTrue}
use Rattle.std.proofs.lemmas.Bool.{OnTrue_from, ltb-true}
use Rattle.std.proofs.lemmas.List.{length-append, length-drop, append-nil, drop-append-le, take-append-drop}
use Rattle.rtsp_grammar.specs.Frame.{BeginsFrame}
use Rattle.rtsp_grammar.specs.Head.{HeadRule}
use Rattle.rtsp_grammar.specs.Item.{HasBlank}
use Rattle.rtsp_grammar.specs.Lines.{IsHead}
use Rattle.rtsp_grammar.specs.Reading.{head_of}
use Rattle.rtsp_grammar.specs.Answer.{Decides, HasFault, IsUndecided}
use Rattle.rtsp_grammar.specs.Scan.{IsShortOf, HasProgress}
use Rattle.rtsp_grammar.specs.Stream.{HasItems, IsEnd, Feeding, waiting, Takes, given, IsFed}
use Rattle.rtsp_grammar.specs.declared.feed.Progress.{Progress}
use Rattle.rtsp_grammar.specs.declared.feed.Progress.TheVariants as progresses
use Rattle.rtsp_grammar.specs.declared.head.Head.{Head}
use Rattle.rtsp_grammar.specs.declared.message.Item.{Item}
use Rattle.rtsp_grammar.specs.declared.fault.MessageFault.{MessageFault}
use Rattle.rtsp_grammar.specs.declared.fault.MessageFault.TheVariants.{BadLine, BadHeader, HeadTooLong, UriTooLong, BodyTooLong, BadLength, OutOfMemory}
use Rattle.rtsp_grammar.proofs.HeadRules.{head_reads}
use Rattle.rtsp_grammar.proofs.ItemLemmas.{head_found}
use Rattle.rtsp_grammar.proofs.LongerLemmas.{stays}
use Rattle.rtsp_grammar.proofs.ScanLemmas.{place_more}
use Rattle.rtsp_grammar.proofs.StreamLemmas.{keeps_items, goes_on}

-- ---- a length that is missing

pub body_short : (text message : List ℕ) (n : ℕ) (lines : List (List ℕ)) (len : ℕ) (head : Head) (announced : ℕ) → HasBlank (take 8192 text) n → message ≡ drop n (take 8192 text) → ¬ BeginsFrame message → IsHead message lines len
    → head_of lines ≡ Ok (head, announced) → IsShortOf text (n + len + announced)
body_short text message n lines len head announced b e not_frame h reads more short =
    let f = head_found text message n lines len b e not_frame h in inr (record {
      front = take (n + len) text;
      rest = drop (n + len) text ++ more;
      parts = ap (λ (t : List ℕ). t ++ more) (sym (take-append-drop (n + len) text)) ∙ append_assoc (take (n + len) text) (drop (n + len) text) more;
      lines = lines;
      head_text = f.0;
      head = head;
      announced = announced;
      rules = subst (HeadRule lines) reads (head_reads lines f.0.some);
      short = omega (arith, short, f.1, length-append text more, length-append (drop (n + len) text) more, length-drop (n + len) text);
    })

pub short_more : (text more : List ℕ) (whole : ℕ) → IsShortOf text whole → IsShortOf (text ++ more) whole
short_more text more whole s others lt =
    let e : (text ++ more) ++ others ≡ text ++ (more ++ others) = append_assoc text more others in
    subst IsUndecided (sym e) (s (more ++ others) (subst (λ (t : List ℕ). length t < whole) e lt))

pub short_now : (text : List ℕ) (whole : ℕ) → IsShortOf text whole → length text < whole → IsUndecided text
short_now text whole s lt = subst IsUndecided (append-nil text) (s [] (subst (λ (t : List ℕ). length t < whole) (sym (append-nil text)) lt))

-- what is known stays so when more bytes come
pub progress_more : (text more : List ℕ) (progress : Progress) → HasProgress text progress → HasProgress (text ++ more) progress
progress_more text more progresses.Fresh h = tt
progress_more text more (progresses.Head place) h = place_more text more place h
progress_more text more (progresses.Whole whole) h = short_more text more whole h

pub whole_short : (now : Feeding) (bytes : List ℕ) (fault : Option MessageFault) (progress : Progress) (n whole : ℕ) → record { unread = bytes; fault = fault } ≡ now → HasProgress bytes progress → progress ≡ progresses.Whole whole → n ≡ length bytes
    → OnTrue (nat_lt n whole) (IsUndecided now.unread)
whole_short now bytes fault progress n whole e h is len =
    OnTrue_from (nat_lt n whole) (IsUndecided now.unread) (λ t. subst IsUndecided (ap (λ (x : Feeding). x.unread) e) (short_now bytes whole (subst (HasProgress bytes) is h) (omega (arith, ltb-true n whole t, len))))

pub head_short : (now : Feeding) (bytes slice : List ℕ) (fault : Option MessageFault) (n : ℕ) → record { unread = bytes; fault = fault } ≡ now → slice ≡ bytes → n ≡ length bytes → n < 8192 → (length slice < 8192 → IsUndecided slice) → IsUndecided now.unread
head_short now bytes slice fault n e same len lt open_end = subst IsUndecided (same ∙ ap (λ (x : Feeding). x.unread) e) (open_end (omega (arith, lt, len, ap length same)))

pub pushed : (old piece new : List ℕ) (progress : Progress) (spare : ℕ) → HasProgress old progress → new ≡ old ++ piece → 0 < length piece → HasProgress new progress × (new ≡ [] → spare ≡ 0)
pushed old piece new progress spare h e some =
    (subst (λ (t : List ℕ). HasProgress t progress) (sym e) (progress_more old piece progress h), λ none. absurd (omega (arith, ap length none, ap length e, length-append old piece, some)))

-- ---- a fault

is_memory : (f : MessageFault) → (f ≡ OutOfMemory) ⊎ (f ≢ OutOfMemory)
is_memory BadLine = inr (λ e. absurd cc)
is_memory BadHeader = inr (λ e. absurd cc)
is_memory HeadTooLong = inr (λ e. absurd cc)
is_memory UriTooLong = inr (λ e. absurd cc)
is_memory BodyTooLong = inr (λ e. absurd cc)
is_memory BadLength = inr (λ e. absurd cc)
is_memory OutOfMemory = inl refl

abbrev faulty : List ℕ → MessageFault → Feeding
faulty unread fault = record { unread = unread; fault = Some fault }

pub fault_takes : (old now new : Feeding) (text : List ℕ) (f : MessageFault) → now ≡ old → text ≡ old.unread → (f ≡ OutOfMemory) ⊎ HasFault text f → (f ≡ OutOfMemory → new ≡ now) → (f ≢ OutOfMemory → new ≡ faulty now.unread f) → IfNone old.fault (Takes old.unread new (Err f))
fault_takes old now new text f same e found memory kept = go old.fault refl where
  go : (o : Option MessageFault) → old.fault ≡ o → IfNone o (Takes old.unread new (Err f))
  go (Some other) is = tt
  go None is = elim (is_memory f) [
    | inl m ↦ inl (m, memory m ∙ same ∙ ap (λ (o : Option MessageFault). record { unread = old.unread; fault = o }) is)
    | inr other ↦ elim found [
      | inl m ↦ absurd (other m)
      | inr h ↦ inr (subst (λ (t : List ℕ). HasFault t f) e h, kept other ∙ ap (λ (x : Feeding). faulty x.unread f) same)
    ]
  ]

-- ---- the items that were given

items_longer : (text more rest : List ℕ) (items : List Item) → HasItems text items rest → HasItems (text ++ more) items (rest ++ more)
items_longer text more rest [] h = ap (λ (t : List ℕ). t ++ more) h
items_longer text more rest (item ∷ items) h =
    (h.0, stays text more (Ok (item, h.0)) h.1, subst (λ (t : List ℕ). HasItems t items (rest ++ more)) (sym (drop-append-le h.0 text more h.1.0)) (items_longer (drop h.0 text) more rest items h.2))

items_more : (text rest : List ℕ) (items : List Item) (item : Item) (n : ℕ) → HasItems text items rest → Decides rest (Ok (item, n)) → HasItems text (items ++ item ∷ []) (drop n rest)
items_more text rest [] item n h d = (n, subst (λ (t : List ℕ). Decides t (Ok (item, n))) (sym h) d, ap (drop n) h)
items_more text rest (first ∷ items) item n h d = (h.0, h.1, items_more (drop h.0 text) rest items item n h.2 d)

pub fed_more : (text more : List ℕ) (items : List Item) (old new : Feeding) → IsFed text items old → new ≡ waiting (old.unread ++ more) → IsFed (text ++ more) items new
fed_more text more items old new f e = rw e (record { has = items_longer text more old.unread items f.has; kept = tt })

same_items : (text : List ℕ) (items : List Item) (old new : Feeding) → IsFed text items old → new ≡ old → IsFed text (items ++ []) new
same_items text items old new f e = rw (append-nil items, e) f

pub fed_kept : (text : List ℕ) (items : List Item) (old new : Feeding) (result : Result (Option Item) MessageFault) (fault : MessageFault) → IsFed text items old → result ≡ Err fault → new ≡ old → IsFed text (items ++ given result) new
fed_kept text items old new result fault f r e = rw r (same_items text items old new f e)

pub fed_next : (text : List ℕ) (items : List Item) (old new : Feeding) (result : Result (Option Item) MessageFault) → IsFed text items old → Takes old.unread new result → IsFed text (items ++ given result) new
fed_next text items old new (Ok (Some item)) f t = rw t.2 (record { has = items_more text old.unread items item t.0 f.has t.1; kept = tt })
fed_next text items old new (Ok None) f t = rw (append-nil items, t.1) (record { has = f.has; kept = tt })
fed_next text items old new (Err fault) f (inl t) = rw (append-nil items, t.1) (record { has = f.has; kept = tt })
fed_next text items old new (Err fault) f (inr t) = rw (append-nil items, t.1) (record { has = f.has; kept = t.0 })

pub fed_push : {T : Type 0} (text piece : List ℕ) (items : List Item) (old new : Feeding) (result : Result T MessageFault) → IsFed text items old → OnOk result ((old.fault ≡ None) × (new ≡ waiting (old.unread ++ piece))) → OnOk result (IsFed (text ++ piece) items new)
fed_push text piece items old new (Ok x) f t = fed_more text piece items old new f t.1
fed_push text piece items old new (Err fault) f t = tt

pub fed_result : (text : List ℕ) (items : List Item) (old new : Feeding) (result : Result (Option Item) MessageFault) → IsFed text items old → IfSome old.fault (λ f. (result ≡ Err f) × (new ≡ old)) → IfNone old.fault (Takes old.unread new result)
    → IsFed text (items ++ given result) new
fed_result text items old new result f kept takes = go old.fault kept takes where
  go : (o : Option MessageFault) → IfSome o (λ f. (result ≡ Err f) × (new ≡ old)) → IfNone o (Takes old.unread new result) → IsFed text (items ++ given result) new
  go (Some fault) k t = fed_kept text items old new result fault f k.0 k.1
  go None k t = fed_next text items old new result f t

-- ---- however it was cut

same_end : (text one other : List ℕ) (items others : List Item) → HasItems text items one → HasItems text others other → IsEnd one → IsEnd other → (items ≡ others) × (one ≡ other)
same_end text one other items others a b end_one end_other =
    let r = keeps_items text [] one other items others a (subst (λ (t : List ℕ). HasItems t others other) (sym (append-nil text)) b) end_other in
    go r.0 r.1 (subst (λ (t : List ℕ). HasItems t r.0 other) (append-nil one) r.2) where
      go : (later : List Item) → others ≡ items ++ later → HasItems one later other → (items ≡ others) × (one ≡ other)
      go [] e h = (sym (e ∙ append-nil items), h)
      go (item ∷ later) e h = absurd (goes_on one item h.0 h.1 end_one)

pub however_cut : (text : List ℕ) (items others : List Item) (one other : Feeding) → IsFed text items one → IsFed text others other → IsEnd one.unread → IsEnd other.unread → (items ≡ others) × (one.unread ≡ other.unread)
however_cut text items others one other a b end_one end_other = same_end text one.unread other.unread items others a.has b.has end_one end_other
