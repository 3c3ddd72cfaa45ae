-- Plays that are linked one behind another.
use Rattle.std.proofs.Common.{◌≡◌, ◌≢◌, ◌≤◌, ℕ, ◌+◌, suc, List, [], ◌∷◌, ◌⊎◌, inl, inr, length, Option, Some, None, IsSome, refl, sym, ◌∙◌, ap, subst, arith}
use Rattle.std.proofs.lemmas.Bool.{cases_eq}
use Rattle.slab.specs.Slab.{get, with_value, ContainsKey}
use Rattle.slab.proofs.SlabLemmas.{Updates-with_value}
use Rattle.rtsp_pacing.specs.declared.play.PacedPlay.{PacedPlay}
use Rattle.rtsp_pacing.specs.declared.plays.Linked.{Linked}
use Rattle.rtsp_pacing.specs.declared.plays.PacerPlays.{PacerPlays}
use Rattle.rtsp_pacing.specs.Plays.{KeepsOthers, IsLinked, Turns, IsChain, IsNone}

some_same : (a b : Linked) → Some a ≡ Some b → a ≡ b
some_same a b e = cc

-- one play is another one now
contains : (p : PacerPlays) (key : ℕ) (l : Linked) → get p.plays key ≡ Some l → ContainsKey p.plays key
contains p key l e = subst IsSome (sym e) refl

pub links : (p : PacerPlays) (key : ℕ) (l m : Linked) → get p.plays key ≡ Some l → IsLinked (record { plays = with_value p.plays key m; latest = p.latest }) key m.before
links p key l m e = record { linked = m; there = (Updates-with_value p.plays key m (contains p key l e)).changed; behind = refl }

pub links_others : (p : PacerPlays) (key : ℕ) (l m : Linked) → get p.plays key ≡ Some l → KeepsOthers p key (record { plays = with_value p.plays key m; latest = p.latest })
links_others p key l m e = (Updates-with_value p.plays key m (contains p key l e)).others

pub turned : (p : PacerPlays) (key : ℕ) (l : Linked) (play : PacedPlay) → get p.plays key ≡ Some l
    → Turns p key l.before (record { plays = with_value p.plays key (record { play = play; before = l.before }); latest = p.latest })
turned p key l play e = record {
  was = record { linked = l; there = e; behind = refl };
  is = links p key l (record { play = play; before = l.before }) e;
  others = links_others p key l (record { play = play; before = l.before }) e;
}

-- a chain that doesn't have a key stays, whatever becomes of the play of that key
pub chain_kept : (p q : PacerPlays) (key : ℕ) (last : Option ℕ) (keys : List ℕ) → KeepsOthers p key q → IsChain p last keys → IsNone key keys → IsChain q last keys
chain_kept p q key None [] others chain none = tt
chain_kept p q key None (k ∷ ks) others chain none = absurd chain
chain_kept p q key (Some last) [] others chain none = absurd chain
chain_kept p q key (Some last) (k ∷ ks) others chain none =
    let apart : last ≢ key = λ e. none.0 (chain.0 ∙ e) in
    (chain.0, chain.1, others last apart ∙ chain.2, chain_kept p q key chain.1.before ks others chain.3 none.1)

-- from one play on there is one chain
chain_same : (p : PacerPlays) (last : Option ℕ) (keys others : List ℕ) → IsChain p last keys → IsChain p last others → keys ≡ others
chain_same p None [] [] c d = refl
chain_same p None (k ∷ ks) others c d = absurd c
chain_same p None [] (j ∷ js) c d = absurd d
chain_same p (Some last) [] others c d = absurd c
chain_same p (Some last) (k ∷ ks) [] c d = absurd d
chain_same p (Some last) (k ∷ ks) (j ∷ js) c d =
    let same : c.1 ≡ d.1 = some_same c.1 d.1 (sym c.2 ∙ d.2) in
    let rest : IsChain p c.1.before js = subst (λ (l : Linked). IsChain p l.before js) (sym same) d.3 in
    let tail : ks ≡ js = chain_same p c.1.before ks js c.3 rest in
    ap (λ k. k ∷ ks) (c.0 ∙ sym d.0) ∙ ap (λ l. j ∷ l) tail

-- a chain has a key, with a chain from there on, or it hasn't
chain_from : (p : PacerPlays) (key : ℕ) (last : Option ℕ) (keys : List ℕ) → IsChain p last keys → IsNone key keys ⊎ ((rest : List ℕ) × IsChain p (Some key) rest × length rest ≤ length keys)
chain_from p key None [] c = inl tt
chain_from p key None (k ∷ ks) c = absurd c
chain_from p key (Some last) [] c = absurd c
chain_from p key (Some last) (k ∷ ks) c = elim (cases_eq k key) [
  | inl e ↦ inr (k ∷ ks, subst (λ z. IsChain p (Some z) (k ∷ ks)) (sym c.0 ∙ e) c, omega arith)
  | inr apart ↦ elim (chain_from p key c.1.before ks c.3) [
    | inl none ↦ inl (apart, none)
    | inr more ↦ inr (more.0, more.1, shorter (length more.0) (length ks) more.2)
  ]
]
  where
    shorter : (m n : ℕ) → m ≤ n → m ≤ suc n
    shorter m n h = omega arith

-- no play is twice in a chain
pub chain_once : (p : PacerPlays) (key : ℕ) (keys : List ℕ) → IsChain p (Some key) (key ∷ keys) → IsNone key keys
chain_once p key keys c = elim (chain_from p key c.1.before keys c.3) [
  | inl none ↦ none
  | inr more ↦
      let same = chain_same p (Some key) (key ∷ keys) more.0 c more.1 in
      let size : suc (length keys) ≡ length more.0 = ap length same in
      let short : length more.0 ≤ length keys = more.2 in
      absurd (omega (arith, size, short))
]

-- a play behind which a chain is linked
pub chain_more : (p q : PacerPlays) (key : ℕ) (before : Option ℕ) (keys : List ℕ) → IsLinked q key before → KeepsOthers p key q → IsChain p before keys → IsNone key keys → IsChain q (Some key) (key ∷ keys)
chain_more p q key before keys linked others chain none =
    (refl, linked.linked, linked.there, subst (λ o. IsChain q o keys) (sym linked.behind) (chain_kept p q key before keys others chain none))

-- The walk down a chain.

-- so many of the plays of a chain had their turn, and the others are still linked
pub record Walked (p : PacerPlays) (last : ℕ) (q : PacerPlays) (next : Option ℕ) (turns : ℕ) (keys : List ℕ) : Type 0 where
  pub rest : List ℕ
  pub chain : IsChain q next rest
  pub count : turns + length rest ≡ length keys

pub walk_begins : (p : PacerPlays) (last : ℕ) (keys : List ℕ) → IsChain p (Some last) keys → Walked p last p (Some last) 0 keys
walk_begins p last keys chain = record { rest = keys; chain = chain; count = omega arith }

-- the next one had its turn, and then something became of it alone
pub walk_on : (p q : PacerPlays) (last key turns : ℕ) (before : Option ℕ) (keys : List ℕ) (r s : PacerPlays) → Turns q key before r → KeepsOthers r key s → Walked p last q (Some key) turns keys → Walked p last s before (turns + 1) keys
walk_on p q last key turns before keys r s turned others walked = go walked.rest walked.chain walked.count
  where
    go : (rest : List ℕ) → IsChain q (Some key) rest → turns + length rest ≡ length keys → Walked p last s before (turns + 1) keys
    go [] chain count = absurd chain
    go (k ∷ ks) chain count =
        let here : IsChain q (Some key) (key ∷ ks) = subst (λ z. IsChain q (Some key) (z ∷ ks)) chain.0 chain in
        let none = chain_once q key ks here in
        let same : chain.1 ≡ turned.was.linked = some_same chain.1 turned.was.linked (sym chain.2 ∙ turned.was.there) in
        let behind : chain.1.before ≡ before = ap (λ (l : Linked). l.before) same ∙ turned.was.behind in
        let tail : IsChain q before ks = subst (λ o. IsChain q o ks) behind chain.3 in
        let after : IsChain r before ks = chain_kept q r key before ks turned.others tail none in
        record { rest = ks; chain = chain_kept r s key before ks others after none; count = omega (arith, count) }

pub walk_ends : (p : PacerPlays) (last : ℕ) (q : PacerPlays) (turns : ℕ) (keys : List ℕ) → Walked p last q None turns keys → turns ≡ length keys
walk_ends p last q turns keys walked = go walked.rest walked.chain walked.count
  where
    go : (rest : List ℕ) → IsChain q None rest → turns + length rest ≡ length keys → turns ≡ length keys
    go [] chain count = omega (arith, count)
    go (k ∷ ks) chain count = absurd chain
