-- The items of a longer stream.
use Rattle.std.proofs.Common.{◌≡◌, ℕ, List, [], ◌∷◌, ◌++◌, drop, refl, sym, ap, subst, ◌∙◌, inl, inr, Result, Ok, Err}
use Rattle.std.proofs.lemmas.List.{drop-append-le}
use Rattle.rtsp_grammar.specs.Answer.{Decides}
use Rattle.rtsp_grammar.specs.Stream.{HasItems, IsEnd}
use Rattle.rtsp_grammar.specs.declared.message.Item.{Item}
use Rattle.rtsp_grammar.specs.declared.fault.MessageFault.{MessageFault}
use Rattle.rtsp_grammar.proofs.AnswerLemmas.{one_answer}
use Rattle.rtsp_grammar.proofs.LongerLemmas.{stays, no_answer}

abbrev taken : Item → ℕ → Result (Item × ℕ) MessageFault
taken item n = Ok (item, n)

-- where an item stands, the text doesn't end
pub goes_on : (text : List ℕ) (item : Item) (n : ℕ) → Decides text (taken item n) → IsEnd text → ⊥
goes_on text item n d (inl open_end) = no_answer text (taken item n) open_end d
goes_on text item n d (inr h) = let e = one_answer text (taken item n) (Err h.0) d h.1 in absurd cc

same_pair : (x y : Item × ℕ) → ◌≡◌ {A = Result (Item × ℕ) MessageFault} (Ok x) (Ok y) → x ≡ y
same_pair x y e = cc

pub keeps_items : (text more rest left : List ℕ) (items others : List Item) → HasItems text items rest → HasItems (text ++ more) others left → IsEnd left
    → (later : List Item) × (others ≡ items ++ later) × HasItems (rest ++ more) later left
keeps_items text more rest left [] others p q e = (others, refl, subst (λ (t : List ℕ). HasItems (t ++ more) others left) p q)
keeps_items text more rest left (item ∷ items) [] p q e = absurd (goes_on (text ++ more) item p.0 (stays text more (taken item p.0) p.1) (subst IsEnd (sym q) e))
keeps_items text more rest left (item ∷ items) (other ∷ others) p q e =
    let same : taken item p.0 ≡ taken other q.0 = one_answer (text ++ more) (taken item p.0) (taken other q.0) (stays text more (taken item p.0) p.1) q.1 in
    let pair = same_pair (item, p.0) (other, q.0) same in
    let items_same : item ≡ other = ap (λ (x : Item × ℕ). x.0) pair in
    let lens_same : p.0 ≡ q.0 = ap (λ (x : Item × ℕ). x.1) pair in
    let dropped : drop q.0 (text ++ more) ≡ drop p.0 text ++ more = ap (λ (n : ℕ). drop n (text ++ more)) (sym lens_same) ∙ drop-append-le p.0 text more p.1.0 in
    let r = keeps_items (drop p.0 text) more rest left items others p.2 (subst (λ (t : List ℕ). HasItems t others left) dropped q.2) e in
    (r.0, ap (λ (os : List Item). other ∷ os) r.1 ∙ ap (λ (o : Item). o ∷ (items ++ r.0)) (sym items_same), r.2)
