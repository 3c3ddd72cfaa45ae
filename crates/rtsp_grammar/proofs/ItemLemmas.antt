-- An item found at the front of a text.
use Rattle.std.proofs.Common.{◌≡◌, ℕ, ◌+◌, ◌<◌, ◌≤◌, ◌⊎◌, List, [], ◌∷◌, ◌++◌, length, get_or, take, drop, refl, sym, ap, subst, ◌∙◌, append_assoc, arith, inl, inr, Ok, Err, Result, min, false, eqb}
use Rattle.std.proofs.lemmas.List.{take_at, take-append-drop, length-append, length-take, length-drop, take-take, drop-append-le}
use Rattle.std.proofs.Math.Seq.{take-append-add}
use Rattle.rtsp_text.specs.Results.{Gives}
use Rattle.rtsp_grammar.specs.Lines.{blank_text, lines_text, IsHead, IsOpenHead}
use Rattle.rtsp_grammar.specs.Frame.{frame_text, IsFrame, BeginsFrame}
use Rattle.rtsp_grammar.specs.Head.{HeadRule}
use Rattle.rtsp_grammar.specs.Header.{HeaderText}
use Rattle.rtsp_grammar.specs.Reading.{head_of}
use Rattle.rtsp_grammar.specs.Item.{BeginsBlank, IsBlank, HasBlank, SpellsFrame, IsHeadText, SpellsMessage, message_of, Spells}
use Rattle.rtsp_grammar.specs.Answer.{HasMessage, BreaksRule, HasFault, IsUndecided}
use Rattle.rtsp_grammar.specs.declared.head.Head.{Head}
use Rattle.rtsp_grammar.specs.declared.message.Frame.{Frame}
use Rattle.rtsp_grammar.specs.declared.start_line.StartLine.{StartLine}
use Rattle.rtsp_grammar.specs.declared.start_line.StartLine.TheVariants as starts
use Rattle.rtsp_grammar.specs.declared.fault.MessageFault.{MessageFault}
use Rattle.rtsp_grammar.specs.declared.fault.MessageFault.TheVariants.{OutOfMemory}
use Rattle.rtsp_grammar.proofs.BlankLemmas.{length-blank_text}
use Rattle.rtsp_grammar.proofs.HeadRules.{head_reads}

-- a front of a text that is known to begin with it
pub front_is : (text a b : List ℕ) (n : ℕ) → text ≡ a ++ b → length a ≡ n → take n text ≡ a
front_is text a b n e l = ap (take n) e ∙ take_at a b n l

blank_length : (text : List ℕ) (n : ℕ) (b : IsBlank text n) → length (blank_text b.count) ≡ n
blank_length text n b = length-blank_text b.count ∙ sym b.twice

pub frame_spelled : (text : List ℕ) (n m : ℕ) (frame : Frame) → IsBlank text n → n < 8192 → IsFrame frame → take m (drop n text) ≡ frame_text frame → m ≤ length (drop n text) → SpellsFrame (take (n + m) text) frame
frame_spelled text n m frame b lt fits e le =
    let whole : drop n text ≡ frame_text frame ++ drop m (drop n text) = sym (take-append-drop m (drop n text)) ∙ ap (λ (x : List ℕ). x ++ drop m (drop n text)) e in
    let parts : text ≡ (blank_text b.count ++ frame_text frame) ++ drop m (drop n text) = b.parts ∙ ap (λ (x : List ℕ). blank_text b.count ++ x) whole ∙ sym (append_assoc (blank_text b.count) (frame_text frame) (drop m (drop n text))) in
    let len : length (frame_text frame) ≡ m = sym (ap length e) ∙ length-take m (drop n text) ∙ omega arith in
    record {
      blank = b.count;
      few = omega (arith, b.twice);
      parts = front_is text (blank_text b.count ++ frame_text frame) (drop m (drop n text)) (n + m) parts (length-append (blank_text b.count) (frame_text frame) ∙ omega (arith, blank_length text n b, len));
      fits = fits;
    }

pub has_message : (text message : List ℕ) (n : ℕ) → HasBlank (take 8192 text) n → message ≡ drop n (take 8192 text) → ¬ BeginsFrame message → HasMessage text message
has_message text message n b e not_frame = record {
  blank = b.front.count;
  parts = b.front.parts ∙ ap (λ (x : List ℕ). blank_text b.front.count ++ x) (sym e);
  no_frame = not_frame;
}

-- what begins a frame does so whatever follows
pub begins_more : (xs ys : List ℕ) → BeginsFrame xs → BeginsFrame (xs ++ ys)
begins_more [] ys h = absurd h
begins_more (x ∷ xs) ys h = h

pub head_found : (text message : List ℕ) (n : ℕ) (lines : List (List ℕ)) (len : ℕ) → HasBlank (take 8192 text) n → message ≡ drop n (take 8192 text) → ¬ BeginsFrame message → IsHead message lines len → IsHeadText (take (n + len) text) lines × (n + len ≤ length text)
head_found text message n lines len b e not_frame h =
    let split : lines_text lines ++ 13 ∷ 10 ∷ h.rest ≡ (lines_text lines ++ 13 ∷ 10 ∷ []) ++ h.rest = sym (append_assoc (lines_text lines) (13 ∷ 10 ∷ []) h.rest) in
    let whole : take 8192 text ≡ (blank_text b.front.count ++ (lines_text lines ++ 13 ∷ 10 ∷ [])) ++ h.rest = b.front.parts ∙ ap (λ (x : List ℕ). blank_text b.front.count ++ x) (sym e ∙ h.begins.parts ∙ split) ∙ sym (append_assoc (blank_text b.front.count) (lines_text lines ++ 13 ∷ 10 ∷ []) h.rest) in
    let message_len : length (lines_text lines ++ 13 ∷ 10 ∷ []) + length h.rest ≡ len + length h.rest = sym (length-append (lines_text lines ++ 13 ∷ 10 ∷ []) h.rest) ∙ sym (ap length (h.begins.parts ∙ split)) ∙ sym h.length in
    let front_len : length (blank_text b.front.count ++ (lines_text lines ++ 13 ∷ 10 ∷ [])) ≡ n + len = length-append (blank_text b.front.count) (lines_text lines ++ 13 ∷ 10 ∷ []) ∙ omega (arith, blank_length (take 8192 text) n b.front, message_len) in
    let total : n + len + length h.rest ≡ length (take 8192 text) = sym (ap (λ (k : ℕ). k + length h.rest) front_len) ∙ sym (length-append (blank_text b.front.count ++ (lines_text lines ++ 13 ∷ 10 ∷ [])) h.rest) ∙ sym (ap length whole) in
    let within : n + len ≤ min 8192 (length text) = omega (arith, total, length-take 8192 text) in
    let front : take (n + len) text ≡ blank_text b.front.count ++ (lines_text lines ++ 13 ∷ 10 ∷ []) = sym (take-take (n + len) 8192 text (omega arith)) ∙ front_is (take 8192 text) (blank_text b.front.count ++ (lines_text lines ++ 13 ∷ 10 ∷ [])) h.rest (n + len) whole front_len in (
      record {
        blank = b.front.count;
        parts = front;
        each = h.begins.each;
        some = λ none. b.next (subst BeginsBlank (sym (ap (λ (ls : List (List ℕ)). lines_text ls ++ 13 ∷ 10 ∷ h.rest) none) ∙ sym h.begins.parts ∙ e) (refl, refl));
        no_frame = λ begins. not_frame (subst BeginsFrame (sym h.begins.parts) (begins_more (lines_text lines) (13 ∷ 10 ∷ h.rest) begins));
        short = omega (arith, length-take (n + len) text);
      },
      omega arith,
    )

-- what was read of a head is what the rules say
ruled : (text : List ℕ) (lines : List (List ℕ)) (r : Result (Head × ℕ) MessageFault) → IsHeadText text lines → head_of lines ≡ r → HeadRule lines r
ruled text lines r h e = subst (HeadRule lines) e (head_reads lines h.some)

rule_broken : (text message : List ℕ) (n : ℕ) (lines : List (List ℕ)) (len : ℕ) (fault : MessageFault) → HasBlank (take 8192 text) n → message ≡ drop n (take 8192 text) → ¬ BeginsFrame message → IsHead message lines len → head_of lines ≡ Err fault → BreaksRule text fault
rule_broken text message n lines len fault b e not_frame h reads =
    let f = (head_found text message n lines len b e not_frame h).0 in record {
      front = take (n + len) text;
      rest = drop (n + len) text;
      parts = sym (take-append-drop (n + len) text);
      lines = lines;
      head_text = f;
      rules = ruled (take (n + len) text) lines (Err fault) f reads;
    }

pub partial : (text message : List ℕ) (n : ℕ) → HasBlank (take 8192 text) n → message ≡ drop n (take 8192 text) → ¬ BeginsFrame message → IsOpenHead message → length text < 8192 → IsUndecided text
partial text message n b e not_frame o lt = inl (inr (record { message = message; has = has_message text message n b e not_frame; open_end = o; short = lt }))

-- what stands after empty lines of the window stands after them in the text
pub rest_of_window : (text : List ℕ) (n : ℕ) → IsBlank (take 8192 text) n → drop n text ≡ drop n (take 8192 text) ++ drop 8192 text
rest_of_window text n b = ap (drop n) (sym (take-append-drop 8192 text)) ∙ drop-append-le n (take 8192 text) (drop 8192 text) b.within

pub blank_of_window : (text : List ℕ) (n : ℕ) → IsBlank (take 8192 text) n → IsBlank text n
blank_of_window text n b = record {
  count = b.count;
  twice = b.twice;
  parts = sym (take-append-drop 8192 text) ∙ ap (λ (x : List ℕ). x ++ drop 8192 text) b.parts ∙ append_assoc (blank_text b.count) (drop n (take 8192 text)) (drop 8192 text) ∙ ap (λ (x : List ℕ). blank_text b.count ++ x) (sym (rest_of_window text n b));
  within = omega (arith, b.within, length-take 8192 text);
}

begins_at : (message : List ℕ) → 0 < length message → get_or message 0 0 ≡ 36 → BeginsFrame message
begins_at [] lt e = absurd (omega arith)
begins_at (x ∷ xs) lt e = e

pub frame_of_window : (text message : List ℕ) (n : ℕ) → IsBlank (take 8192 text) n → message ≡ drop n (take 8192 text) → 0 < length message → get_or message 0 0 ≡ 36 → BeginsFrame (drop n text) × (n < 8192)
frame_of_window text message n b e lt sign =
    (subst BeginsFrame (ap (λ (x : List ℕ). x ++ drop 8192 text) e ∙ sym (rest_of_window text n b)) (begins_more message (drop 8192 text) (begins_at message lt sign)), omega (arith, ap length e, length-drop n (take 8192 text), length-take 8192 text))

pub broken_rules : (text message : List ℕ) (n : ℕ) (lines : List (List ℕ)) (len : ℕ) (fault : MessageFault) → HasBlank (take 8192 text) n → message ≡ drop n (take 8192 text) → ¬ BeginsFrame message → IsHead message lines len
    → Gives OutOfMemory (Err fault) (head_of lines) → (fault ≡ OutOfMemory) ⊎ HasFault text fault
broken_rules text message n lines len fault b e not_frame h (inl memory) = inl memory
broken_rules text message n lines len fault b e not_frame h (inr reads) = inr (inr (rule_broken text message n lines len fault b e not_frame h reads))

pub not_empty : (xs : List ℕ) → false ≡ eqb (length xs) 0 → 0 < length xs
not_empty [] e = absurd cc
not_empty (x ∷ xs) e = omega arith

pub partial_body : (text message : List ℕ) (n : ℕ) (lines : List (List ℕ)) (len : ℕ) (head : Head) (announced : ℕ) → HasBlank (take 8192 text) n → message ≡ drop n (take 8192 text) → ¬ BeginsFrame message → IsHead message lines len
    → head_of lines ≡ Ok (head, announced) → length (drop (n + len) text) < announced → IsUndecided text
partial_body text message n lines len head announced b e not_frame h reads short =
    let f = (head_found text message n lines len b e not_frame h).0 in inr (record {
      front = take (n + len) text;
      rest = drop (n + len) text;
      parts = sym (take-append-drop (n + len) text);
      lines = lines;
      head_text = f;
      head = head;
      announced = announced;
      rules = ruled (take (n + len) text) lines (Ok (head, announced)) f reads;
      short = short;
    })

take_both : (a b : ℕ) (text : List ℕ) → a ≤ length text → take (a + b) text ≡ take a text ++ take b (drop a text)
take_both a b text le =
    let l : length (take a text) ≡ a = length-take a text ∙ omega arith in
    ap (λ (t : List ℕ). take (a + b) t) (sym (take-append-drop a text)) ∙ ap (λ (k : ℕ). take (k + b) (take a text ++ drop a text)) (sym l) ∙ take-append-add (take a text) (drop a text) b

abbrev counted : Head → ℕ → Result (Head × ℕ) MessageFault
counted head n = Ok (head, n)

-- a message is an item
pub spells_message : (text : List ℕ) (start : StartLine) (headers : List HeaderText) (body : List ℕ) → SpellsMessage text (record { start = start; headers = headers }) body → Spells text (message_of start headers body)
spells_message text (starts.Request method uri version) headers body s = s
spells_message text (starts.Status version status reason) headers body s = s

pub body_found : (text message : List ℕ) (n : ℕ) (lines : List (List ℕ)) (len : ℕ) (head : Head) (body : List ℕ) (announced : ℕ) → HasBlank (take 8192 text) n → message ≡ drop n (take 8192 text) → ¬ BeginsFrame message → IsHead message lines len
    → head_of lines ≡ Ok (head, announced) → announced ≤ length (drop (n + len) text) → body ≡ take announced (drop (n + len) text) → Spells (take (n + len + announced) text) (message_of head.start head.headers body)
body_found text message n lines len head body announced b e not_frame h reads le is =
    let f = head_found text message n lines len b e not_frame h in
    let long : length body ≡ announced = ap length is ∙ length-take announced (drop (n + len) text) ∙ omega arith in
    spells_message (take (n + len + announced) text) head.start head.headers body (record {
      front = take (n + len) text;
      parts = take_both (n + len) announced text f.1 ∙ ap (λ (t : List ℕ). take (n + len) text ++ t) (sym is);
      lines = lines;
      head_text = f.0;
      rules = ruled (take (n + len) text) lines (Ok (head, length body)) f.0 (reads ∙ ap (λ (k : ℕ). counted head k) (sym long));
    })
