-- A text that leaves it open has a longer one with an answer.
use Rattle.std.proofs.Common.{◌≡◌, ℕ, zero, suc, ◌+◌, ◌-◌, ◌*◌, ◌/◌, ◌%◌, ◌<◌, ◌⊎◌, List, [], ◌∷◌, ◌++◌, length, take, refl, sym, ap, subst, ◌∙◌, append_assoc, arith, inl, inr, Ok, Err, Result}
use Rattle.std.specs.Prelude.{replicate}
use Rattle.std.proofs.lemmas.List.{take_all, length-append, length-replicate}
use Rattle.rtsp_grammar.specs.Answer.{BreaksLine, IsPartialFrame, IsPartialHead, IsPartialBody, IsUndecided, Decides, AreBytes}
use Rattle.rtsp_grammar.specs.Frame.{frame_text, BeginsFrame, IsShortFrame}
use Rattle.rtsp_grammar.specs.Head.{HeadRule}
use Rattle.rtsp_grammar.specs.Item.{message_of}
use Rattle.rtsp_text.specs.Line.{BeginsBare}
use Rattle.rtsp_grammar.specs.Lines.{blank_text, lines_text}
use Rattle.rtsp_grammar.specs.declared.head.Head.{Head}
use Rattle.rtsp_grammar.specs.declared.message.Item.{Item}
use Rattle.rtsp_grammar.specs.declared.message.Item.TheVariants as items
use Rattle.rtsp_grammar.specs.declared.fault.MessageFault.{MessageFault}
use Rattle.rtsp_grammar.specs.declared.fault.MessageFault.TheVariants.{BadLine}
use Rattle.rtsp_grammar.proofs.ItemLemmas.{spells_message}

-- more bytes, with which the text has an answer
abbrev pub Opened : List ℕ → Type 0
Opened text = (more : List ℕ) × (a : Result (Item × ℕ) MessageFault) × AreBytes more × Decides (text ++ more) a

zeros : (n : ℕ) → AreBytes (replicate n 0)
zeros zero = tt
zeros (suc n) = (omega arith, zeros n)

all_back : (xs ys : List ℕ) → AreBytes (xs ++ ys) → AreBytes ys
all_back [] ys h = h
all_back (x ∷ xs) ys h = all_back xs ys h.1

-- ---- a body that isn't whole

counted : (lines : List (List ℕ)) (head : Head) (n m : ℕ) → n ≡ m → HeadRule lines (Ok (head, n)) → HeadRule lines (Ok (head, m))
counted lines head n m e h = subst (λ (k : ℕ). HeadRule lines (Ok (head, k))) e h

open_body : (text : List ℕ) → IsPartialBody text → Opened text
open_body text p =
    let more : List ℕ = replicate (p.announced - length p.rest) 0 in
    let len : p.announced ≡ length (p.rest ++ more) = omega (arith, p.short, length-append p.rest more, length-replicate {A = ℕ} (p.announced - length p.rest) 0) in (
      more,
      Ok (message_of p.head.start p.head.headers (p.rest ++ more), length (text ++ more)),
      zeros (p.announced - length p.rest),
      (
        omega arith,
        spells_message (take (length (text ++ more)) (text ++ more)) p.head.start p.head.headers (p.rest ++ more) (record {
          front = p.front;
          parts = take_all (length (text ++ more)) (text ++ more) (omega arith) ∙ ap (λ (t : List ℕ). t ++ more) p.parts ∙ append_assoc p.front p.rest more;
          lines = p.lines;
          head_text = p.head_text;
          rules = counted p.lines p.head p.announced (length (p.rest ++ more)) len p.rules;
        }),
      ),
    )

-- ---- a head that isn't whole

no_frame_byte : (message : List ℕ) (b : ℕ) → (b ≡ 36 → ⊥) → ¬ BeginsFrame message → ¬ BeginsFrame (message ++ b ∷ [])
no_frame_byte [] b other not_frame h = other h
no_frame_byte (x ∷ xs) b other not_frame h = not_frame h

-- one more byte ends a line as no line may end
broken_byte : (text : List ℕ) (p : IsPartialHead text) (b : ℕ) → (b ≡ 36 → ⊥) → BeginsBare (p.open_end.open_end.rest ++ b ∷ []) → BreaksLine (text ++ b ∷ [])
broken_byte text p b other bare =
    let o = p.open_end in
    let short = p.short in
    record {
      message = p.message ++ b ∷ [];
      has = record {
        blank = p.has.blank;
        parts = take_all 8192 (text ++ b ∷ []) (omega (arith, length-append text (b ∷ []))) ∙ ap (λ (t : List ℕ). t ++ b ∷ []) (sym (take_all 8192 text (omega arith)) ∙ p.has.parts) ∙ append_assoc (blank_text p.has.blank) p.message (b ∷ []);
        no_frame = no_frame_byte p.message b other p.has.no_frame;
      };
      broken = record {
        lines = o.lines;
        rest = o.rest ++ b ∷ [];
        begins = record { parts = ap (λ (t : List ℕ). t ++ b ∷ []) o.begins.parts ∙ append_assoc (lines_text o.lines) o.rest (b ∷ []); each = o.begins.each };
        broken = record {
          line = o.open_end.line;
          rest = o.open_end.rest ++ b ∷ [];
          parts = ap (λ (t : List ℕ). t ++ b ∷ []) o.open_end.parts ∙ append_assoc o.open_end.line o.open_end.rest (b ∷ []);
          plain = o.open_end.plain;
          bare = bare;
        };
      };
    }

open_head : (text : List ℕ) → IsPartialHead text → Opened text
open_head text p = go p.open_end.open_end.short where
  go : (p.open_end.open_end.rest ≡ []) ⊎ (p.open_end.open_end.rest ≡ 13 ∷ []) → Opened text
  go (inl e) = (10 ∷ [], Err BadLine, (omega arith, tt), inl (inl (refl, broken_byte text p 10 (λ h. absurd (omega arith)) (subst (λ (r : List ℕ). BeginsBare (r ++ 10 ∷ [])) (sym e) refl))))
  go (inr e) = (65 ∷ [], Err BadLine, (omega arith, tt), inl (inl (refl, broken_byte text p 65 (λ h. absurd (omega arith)) (subst (λ (r : List ℕ). BeginsBare (r ++ 65 ∷ [])) (sym e) (inr (refl, λ h. absurd (omega arith)))))))

-- ---- a frame that isn't whole

frame_again : (c h l : ℕ) (payload : List ℕ) → h < 256 → l < 256 → length payload ≡ 256 * h + l → 36 ∷ c ∷ h ∷ l ∷ payload ≡ frame_text (record { channel = c; payload = payload })
frame_again c h l payload p q e =
    let x : h ≡ length payload / 256 % 256 = omega arith in
    let y : l ≡ length payload % 256 = omega arith in
    ap (λ (n : ℕ). 36 ∷ c ∷ n ∷ l ∷ payload) x ∙ ap (λ (n : ℕ). 36 ∷ c ∷ (length payload / 256 % 256) ∷ n ∷ payload) y

abbrev frame_answer : ℕ → List ℕ → List ℕ → Result (Item × ℕ) MessageFault
frame_answer c payload text = Ok (items.Frame (record { channel = c; payload = payload }), length text)

frame_whole : (text : List ℕ) (k c h l : ℕ) (payload : List ℕ) → k < 4096 → c < 256 → h < 256 → l < 256 → length payload ≡ 256 * h + l → text ≡ blank_text k ++ 36 ∷ c ∷ h ∷ l ∷ payload
    → Decides text (frame_answer c payload text)
frame_whole text k c h l payload few x y z len parts = (
  omega arith,
  record {
    blank = k;
    few = few;
    parts = take_all (length text) text (omega arith) ∙ parts ∙ ap (λ (t : List ℕ). blank_text k ++ t) (frame_again c h l payload y z len);
    fits = record { channel = omega arith; payload = omega arith };
  },
)

longer : (text message more : List ℕ) (k : ℕ) → text ≡ blank_text k ++ message → text ++ more ≡ blank_text k ++ (message ++ more)
longer text message more k e = ap (λ (t : List ℕ). t ++ more) e ∙ append_assoc (blank_text k) message more

open_message : (text message : List ℕ) (k : ℕ) → k < 4096 → text ≡ blank_text k ++ message → AreBytes message → BeginsFrame message → IsShortFrame message → Opened text
open_message text [] k few e bytes begins short = absurd begins
open_message text (a ∷ []) k few e bytes begins short =
    let more : List ℕ = 0 ∷ 0 ∷ 0 ∷ [] in
    (more, frame_answer 0 [] (text ++ more), (omega arith, (omega arith, (omega arith, tt))), frame_whole (text ++ more) k 0 0 0 [] few (omega arith) (omega arith) (omega arith) refl (longer text (a ∷ []) more k e ∙ ap (λ (s : ℕ). blank_text k ++ s ∷ more) begins))
open_message text (a ∷ c ∷ []) k few e bytes begins short =
    let more : List ℕ = 0 ∷ 0 ∷ [] in
    (more, frame_answer c [] (text ++ more), (omega arith, (omega arith, tt)), frame_whole (text ++ more) k c 0 0 [] few bytes.1.0 (omega arith) (omega arith) refl (longer text (a ∷ c ∷ []) more k e ∙ ap (λ (s : ℕ). blank_text k ++ s ∷ c ∷ more) begins))
open_message text (a ∷ c ∷ h ∷ []) k few e bytes begins short =
    let pad : List ℕ = replicate (256 * h) 0 in
    let more : List ℕ = 0 ∷ pad in
    (more, frame_answer c pad (text ++ more), (omega arith, zeros (256 * h)), frame_whole (text ++ more) k c h 0 pad few bytes.1.0 bytes.1.1.0 (omega arith) (omega (arith, length-replicate {A = ℕ} (256 * h) 0)) (longer text (a ∷ c ∷ h ∷ []) more k e ∙ ap (λ (s : ℕ). blank_text k ++ s ∷ c ∷ h ∷ more) begins))
open_message text (a ∷ c ∷ h ∷ l ∷ bs) k few e bytes begins short =
    let more : List ℕ = replicate (256 * h + l - length bs) 0 in (
      more,
      frame_answer c (bs ++ more) (text ++ more),
      zeros (256 * h + l - length bs),
      frame_whole (text ++ more) k c h l (bs ++ more) few bytes.1.0 bytes.1.1.0 bytes.1.1.1.0 (omega (arith, length-append bs more, length-replicate {A = ℕ} (256 * h + l - length bs) 0))
          (longer text (a ∷ c ∷ h ∷ l ∷ bs) more k e ∙ ap (λ (s : ℕ). blank_text k ++ s ∷ c ∷ h ∷ l ∷ (bs ++ more)) begins),
    )

open_frame : (text : List ℕ) → AreBytes text → IsPartialFrame text → Opened text
open_frame text bytes p = open_message text p.message p.blank p.few p.parts (all_back (blank_text p.blank) p.message (subst AreBytes p.parts bytes)) p.begins p.short

pub opens_out : (text : List ℕ) → AreBytes text → IsUndecided text → Opened text
opens_out text bytes (inl (inl p)) = open_frame text bytes p
opens_out text bytes (inl (inr p)) = open_head text p
opens_out text bytes (inr p) = open_body text p
