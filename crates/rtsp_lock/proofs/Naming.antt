-- Which numbers a seat may name, and a step of it.
use Rattle.std.proofs.Common.{◌≡◌, ℕ, Bool, true, false, List, [], sym, ◌∙◌, subst, true≢false}
use Rattle.std.specs.Prelude.{Some, None}
use Rattle.std.proofs.lemmas.Option.{none-some, same_Some}
use Rattle.rtsp_book.specs.declared.steps.Step.{Step}
use Rattle.rtsp_lock.specs.declared.view.View.{View}
use Rattle.rtsp_lock.specs.Entries.{Has}
use Rattle.rtsp_lock.specs.Numbers.{admission_of, NamesDrawn, MayUse, MayName, UsesDrawn}
use Rattle.rtsp_lock.proofs.Using.{under_none}

-- a step that names no number may be named
pub names_none : (drawn : Bool) (v : View) (step : Step) → admission_of step ≡ None → MayName drawn v step
names_none false v step none = tt
names_none true v step none = λ a there. absurd (none-some a (sym none ∙ there))

-- one that names a number which the seat may use
pub names_used : (drawn : Bool) (v : View) (step : Step) (a : ℕ) → admission_of step ≡ Some a → MayUse drawn v a → MayName drawn v step
names_used false v step a is may = tt
names_used true v step a is may = λ x there. subst (Has v.drawn) (same_Some a x (sym is ∙ there)) may

-- a number that it drew it may use
pub drawn_used : (drawn : Bool) (v : View) (a : ℕ) → Has v.drawn a → MayUse drawn v a
drawn_used false v a has = tt
drawn_used true v a has = has

-- over calls that draw none
pub use_still : (drawn : Bool) (v u : View) (a : ℕ) → u.drawn ≡ v.drawn → MayUse drawn v a → MayUse drawn u a
use_still false v u a same may = tt
use_still true v u a same may = subst (λ (l : List ℕ). Has l a) (sym same) may

pub names_still : (drawn : Bool) (v u : View) (step : Step) → u.drawn ≡ v.drawn → MayName drawn v step → MayName drawn u step
names_still false v u step same may = tt
names_still true v u step same may = λ a is. subst (λ (l : List ℕ). Has l a) (sym same) (may a is)

-- where it may name drawn numbers alone, a step names such a number, or none
pub names_drawn : (drawn : Bool) (v : View) (step : Step) → drawn ≡ true → MayName drawn v step → NamesDrawn v step
names_drawn false v step on may = absurd (true≢false (sym on))
names_drawn true v step on may = may

-- a seat that has made nothing uses no number
pub made_none : (v : View) → v.mine ≡ [] → UsesDrawn v
made_none v none = under_none v.drawn v.mine none
