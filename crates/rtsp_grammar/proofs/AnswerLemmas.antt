-- A text has one answer.
use Rattle.std.proofs.Common.{◌≡◌, ℕ, ◌+◌, ◌-◌, ◌*◌, ◌/◌, ◌%◌, ◌<◌, ◌≤◌, List, [], ◌∷◌, ◌++◌, length, take, drop, refl, sym, ap, subst, ◌∙◌, append_assoc, arith, inl, inr, Result, Ok, Err}
use Rattle.std.proofs.lemmas.List.{take_at, take-append-drop, length-append, length-take, append_cancel_left}
use Rattle.rtsp_grammar.specs.Lines.{blank_text, lines_text}
use Rattle.rtsp_grammar.specs.Frame.{frame_text, IsFrame}
use Rattle.rtsp_grammar.specs.Reading.{head_of}
use Rattle.rtsp_grammar.specs.Item.{SpellsFrame, SpellsMessage, request_head, response_head, message_of}
use Rattle.rtsp_grammar.specs.Answer.{BreaksRule, Decides}
use Rattle.rtsp_grammar.specs.declared.head.Head.{Head}
use Rattle.rtsp_grammar.specs.declared.message.Item.{Item}
use Rattle.rtsp_grammar.specs.declared.message.Item.TheVariants as items
use Rattle.rtsp_grammar.specs.declared.message.Frame.{Frame}
use Rattle.rtsp_grammar.specs.declared.fault.MessageFault.{MessageFault}
use Rattle.rtsp_grammar.specs.declared.fault.MessageFault.TheVariants.{BadLine, HeadTooLong}
use Rattle.rtsp_grammar.proofs.BlankLemmas.{length-blank_text}
use Rattle.rtsp_grammar.proofs.HeadRules.{head_only}
use Rattle.rtsp_grammar.proofs.ViewLemmas.{ends_head, breaks, stops}
use Rattle.rtsp_grammar.proofs.ShapeLemmas.{Kind, framed, lined, Shape, same_shape, frame_window, head_shape, broken_shape, open_shape}

-- empty lines, a frame and what follows
pub record FrameFate (text : List ℕ) (k : ℕ) (item : Item) (n : ℕ) : Type 0 where
  pub frame : Frame
  pub rest : List ℕ
  pub is : item ≡ items.Frame frame
  pub parts : text ≡ blank_text k ++ (frame_text frame ++ rest)
  pub fits : IsFrame frame
  pub len : n ≡ 2 * k + length (frame_text frame)

abbrev pub head_bytes : ℕ → List (List ℕ) → List ℕ
head_bytes k lines = blank_text k ++ (lines_text lines ++ 13 ∷ 10 ∷ [])

-- a head, its body and what follows
pub record MessageFate (text : List ℕ) (k : ℕ) (lines : List (List ℕ)) (item : Item) (n : ℕ) : Type 0 where
  pub head : Head
  pub body : List ℕ
  pub rest : List ℕ
  pub is : item ≡ message_of head.start head.headers body
  pub parts : text ≡ head_bytes k lines ++ (body ++ rest)
  pub reads : head_of lines ≡ Ok (head, length body)
  pub len : n ≡ length (head_bytes k lines) + length body

-- what a shape's answer is
abbrev pub Fate : List ℕ → ℕ → Kind → Result (Item × ℕ) MessageFault → Type 0
Fate text k (framed m) (Ok found) = FrameFate text k found.0 found.1
Fate text k (framed m) (Err fault) = ⊥
Fate text k (lined lines (ends_head rest)) (Ok found) = MessageFate text k lines found.0 found.1
Fate text k (lined lines (ends_head rest)) (Err fault) = head_of lines ≡ Err fault
Fate text k (lined lines breaks) (Ok found) = ⊥
Fate text k (lined lines breaks) (Err fault) = fault ≡ BadLine
Fate text k (lined lines stops) (Ok found) = ⊥
Fate text k (lined lines stops) (Err fault) = (fault ≡ HeadTooLong) × (8192 ≤ length text)

pub record Fated (text : List ℕ) (a : Result (Item × ℕ) MessageFault) : Type 0 where
  pub k : ℕ
  pub kind : Kind
  pub shape : Shape (take 8192 text) k kind
  pub fate : Fate text k kind a

-- the frame of a text
fated_frame : (text : List ℕ) (n : ℕ) (frame : Frame) → n ≤ length text → SpellsFrame (take n text) frame → Fated text (Ok (items.Frame frame, n))
fated_frame text n frame le s =
    let parts : text ≡ blank_text s.blank ++ (frame_text frame ++ drop n text) = sym (take-append-drop n text) ∙ ap (λ (x : List ℕ). x ++ drop n text) s.parts ∙ append_assoc (blank_text s.blank) (frame_text frame) (drop n text) in
    record {
      k = s.blank;
      kind = framed (take (8192 - 2 * s.blank) (frame_text frame ++ drop n text));
      shape = frame_window text (frame_text frame ++ drop n text) s.blank parts s.few refl;
      fate = record {
        frame = frame;
        rest = drop n text;
        is = refl;
        parts = parts;
        fits = s.fits;
        len = omega (arith, length-take n text, ap length s.parts, length-append (blank_text s.blank) (frame_text frame), length-blank_text s.blank);
      };
    }

-- the message of a text
fated_message : (text : List ℕ) (n : ℕ) (head : Head) (body : List ℕ) (item : Item) → item ≡ message_of head.start head.headers body → n ≤ length text → SpellsMessage (take n text) head body → Fated text (Ok (item, n))
fated_message text n head body item is le s =
    let whole : text ≡ s.front ++ (body ++ drop n text) = sym (take-append-drop n text) ∙ ap (λ (x : List ℕ). x ++ drop n text) s.parts ∙ append_assoc s.front body (drop n text) in
    record {
      k = s.head_text.blank;
      kind = lined s.lines (ends_head (take (8192 - length s.front) (body ++ drop n text)));
      shape = head_shape text s.front (body ++ drop n text) s.lines s.head_text whole;
      fate = record {
        head = head;
        body = body;
        rest = drop n text;
        is = is;
        parts = whole ∙ ap (λ (x : List ℕ). x ++ (body ++ drop n text)) s.head_text.parts;
        reads = head_only s.lines (Ok (head, length body)) s.rules;
        len = omega (arith, length-take n text, ap length s.parts, length-append s.front body, ap length s.head_text.parts);
      };
    }

fated_rule : (text : List ℕ) (fault : MessageFault) → BreaksRule text fault → Fated text (Err fault)
fated_rule text fault r = record {
  k = r.head_text.blank;
  kind = lined r.lines (ends_head (take (8192 - length r.front) r.rest));
  shape = head_shape text r.front r.rest r.lines r.head_text r.parts;
  fate = head_only r.lines (Err fault) r.rules;
}

pub fated : (text : List ℕ) (a : Result (Item × ℕ) MessageFault) → Decides text a → Fated text a
fated text (Ok (items.Frame frame, n)) d = fated_frame text n frame d.0 d.1
fated text (Ok (items.Request r, n)) d = fated_message text n (request_head r) r.body (items.Request r) refl d.0 d.1
fated text (Ok (items.Response r, n)) d = fated_message text n (response_head r) r.body (items.Response r) refl d.0 d.1
fated text (Err fault) (inl (inl h)) = record { k = h.1.has.blank; kind = lined h.1.broken.lines breaks; shape = broken_shape text h.1.message h.1.has h.1.broken; fate = h.0 }
fated text (Err fault) (inl (inr h)) = record { k = h.1.has.blank; kind = lined h.1.open_end.lines stops; shape = open_shape text h.1.message h.1.has h.1.open_end; fate = (h.0, h.1.long) }
fated text (Err fault) (inr h) = fated_rule text fault h

-- the parts of two frames are the same
record IsSameFront (a b c : ℕ) (xs : List ℕ) (d e f : ℕ) (ys : List ℕ) : Type 0 where
  channel : a ≡ d
  high : b ≡ e
  low : c ≡ f
  bytes : xs ≡ ys

same_front : (a b c d e f : ℕ) (xs ys : List ℕ) → 36 ∷ a ∷ b ∷ c ∷ xs ≡ 36 ∷ d ∷ e ∷ f ∷ ys → IsSameFront a b c xs d e f ys
same_front a b c d e f xs ys h = record { channel = cc; high = cc; low = cc; bytes = cc }

-- two frames at one place are one
same_length_front : (xs ys a b : List ℕ) → length xs ≡ length ys → xs ++ a ≡ ys ++ b → xs ≡ ys
same_length_front xs ys a b l e = sym (take_at xs a (length ys) l) ∙ ap (take (length ys)) e ∙ take_at ys b (length ys) refl

frame_of : ℕ → List ℕ → Frame
frame_of c p = record { channel = c; payload = p }

same_number : (m n : ℕ) → m < 65536 → n < 65536 → m / 256 % 256 ≡ n / 256 % 256 → m % 256 ≡ n % 256 → m ≡ n
same_number m n p q h l = omega arith

same_frame : (f g : Frame) (x y : List ℕ) → IsFrame f → IsFrame g → frame_text f ++ x ≡ frame_text g ++ y → f ≡ g
unfolding frame_of
same_frame f g x y p q e =
    let h = same_front _ _ _ _ _ _ (f.payload ++ x) (g.payload ++ y) e in
    let l : length f.payload ≡ length g.payload = same_number (length f.payload) (length g.payload) p.payload q.payload h.high h.low in
    ap (λ (c : ℕ). frame_of c f.payload) h.channel ∙ ap (frame_of g.channel) (same_length_front f.payload g.payload x y l h.bytes)

abbrev done : (item : Item) (n : ℕ) → Result (Item × ℕ) MessageFault
done item n = Ok (item, n)

pub same_pair : (x y : Head × ℕ) → ◌≡◌ {A = Result (Head × ℕ) MessageFault} (Ok x) (Ok y) → x ≡ y
same_pair x y e = cc

abbrev of_head : Head → List ℕ → Item
of_head head body = message_of head.start head.headers body

same_fate : (text : List ℕ) (k : ℕ) (x : Kind) (a b : Result (Item × ℕ) MessageFault) → Fate text k x a → Fate text k x b → a ≡ b
same_fate text k (framed m) (Ok (x, n)) (Ok (y, o)) p q =
    let e : p.frame ≡ q.frame = same_frame p.frame q.frame p.rest q.rest p.fits q.fits (append_cancel_left (blank_text k) (frame_text p.frame ++ p.rest) (frame_text q.frame ++ q.rest) (sym p.parts ∙ q.parts)) in
    let item : x ≡ y = p.is ∙ ap (λ (f : Frame). items.Frame f) e ∙ sym q.is in
    let len : n ≡ o = p.len ∙ ap (λ (h : Frame). 2 * k + length (frame_text h)) e ∙ sym q.len in
    ap (λ (i : Item). done i n) item ∙ ap (done y) len
same_fate text k (framed m) (Ok found) (Err fault) p q = absurd q
same_fate text k (framed m) (Err fault) b p q = absurd p
same_fate text k (lined lines (ends_head rest)) (Ok (x, n)) (Ok (y, o)) p q =
    let same = same_pair (p.head, length p.body) (q.head, length q.body) (sym p.reads ∙ q.reads) in
    let heads : p.head ≡ q.head = ap (λ (r : Head × ℕ). r.0) same in
    let lens : length p.body ≡ length q.body = ap (λ (r : Head × ℕ). r.1) same in
    let tails : p.body ++ p.rest ≡ q.body ++ q.rest = append_cancel_left (head_bytes k lines) (p.body ++ p.rest) (q.body ++ q.rest) (sym p.parts ∙ q.parts) in
    let bodies : p.body ≡ q.body = same_length_front p.body q.body p.rest q.rest lens tails in
    let item : x ≡ y = p.is ∙ ap (λ (h : Head). of_head h p.body) heads ∙ ap (of_head q.head) bodies ∙ sym q.is in
    let len : n ≡ o = p.len ∙ ap (λ (m : ℕ). length (head_bytes k lines) + m) lens ∙ sym q.len in
    ap (λ (i : Item). done i n) item ∙ ap (done y) len
same_fate text k (lined lines (ends_head rest)) (Ok found) (Err fault) p q = let e = p.reads in absurd cc
same_fate text k (lined lines (ends_head rest)) (Err fault) (Ok found) p q = let e = q.reads in absurd cc
same_fate text k (lined lines (ends_head rest)) (Err fault) (Err other) p q = cc
same_fate text k (lined lines breaks) (Ok found) b p q = absurd p
same_fate text k (lined lines breaks) (Err fault) (Ok found) p q = absurd q
same_fate text k (lined lines breaks) (Err fault) (Err other) p q = cc
same_fate text k (lined lines stops) (Ok found) b p q = absurd p
same_fate text k (lined lines stops) (Err fault) (Ok found) p q = absurd q
same_fate text k (lined lines stops) (Err fault) (Err other) p q = let e = p.0 in let d = q.0 in cc

pub one_answer : (text : List ℕ) (a b : Result (Item × ℕ) MessageFault) → Decides text a → Decides text b → a ≡ b
one_answer text a b p q =
    let f = fated text a p in
    let g = fated text b q in
    let s = same_shape (take 8192 text) f.k g.k f.kind g.kind f.shape g.shape in
    let moved : Fate text g.k g.kind a = subst (λ (k : ℕ). Fate text k g.kind a) s.0 (subst (λ (x : Kind). Fate text f.k x a) s.1 f.fate) in
    same_fate text g.k g.kind a b moved g.fate
