-- There is one pick of a list.
use Rattle.std.proofs.Common.{◌≡◌, ℕ, List, [], ◌∷◌, ◌++◌, refl, sym, ap, subst, ◌∙◌}
use Rattle.std.specs.List.{AllByRecursion}
use Rattle.rtsp_transport.specs.Fitting.{fit_of}
use Rattle.rtsp_transport.specs.Picking.{IsForeign, IsUsable, NotUsable, IsFirst, HasForeign, Picks, pick_of}
use Rattle.rtsp_transport.specs.declared.picks.Pick.{Pick}
use Rattle.rtsp_transport.specs.declared.picks.Pick.TheVariants.{Udp, Mux, Inter, Unsupported, Prohibited}
use Rattle.rtsp_transport.specs.declared.spec.Spec.{Spec}
use Rattle.rtsp_transport.proofs.FittingLemmas.{usable_only}
use Rattle.rtsp_transport.proofs.PickingLemmas.{picks}

-- none of those that are no use is usable
no_first : (peer : ℕ) (before behind : List Spec) (spec : Spec) (pick : Pick) → AllByRecursion (NotUsable peer) (before ++ spec ∷ behind) → IsUsable peer spec pick → ⊥
no_first peer [] behind spec pick none u = none.0 pick u
no_first peer (s ∷ before) behind spec pick none u = no_first peer before behind spec pick none.1 u

none_first : (peer : ℕ) (specs : List Spec) (pick : Pick) → AllByRecursion (NotUsable peer) specs → IsFirst peer specs pick → ⊥
none_first peer specs pick none f = no_first peer f.before f.behind f.spec pick (subst (λ (l : List Spec). AllByRecursion (NotUsable peer) l) f.parts none) f.usable

no_foreign : (peer : ℕ) (before behind : List Spec) (spec : Spec) → AllByRecursion (λ (s : Spec). ¬ IsForeign peer s) (before ++ spec ∷ behind) → IsForeign peer spec → ⊥
no_foreign peer [] behind spec none u = none.0 u
no_foreign peer (s ∷ before) behind spec none u = no_foreign peer before behind spec none.1 u

none_foreign : (peer : ℕ) (specs : List Spec) → AllByRecursion (λ (s : Spec). ¬ IsForeign peer s) specs → HasForeign peer specs → ⊥
none_foreign peer specs none f = no_foreign peer f.before f.behind f.spec (subst (λ (l : List Spec). AllByRecursion (λ (s : Spec). ¬ IsForeign peer s) l) f.parts none) f.foreign

-- of two splits, each before its first usable one, the picks are one
first_same : (peer : ℕ) (b1 t1 b2 t2 : List Spec) (s1 s2 : Spec) (p q : Pick) → b1 ++ s1 ∷ t1 ≡ b2 ++ s2 ∷ t2 → AllByRecursion (NotUsable peer) b1 → AllByRecursion (NotUsable peer) b2 → IsUsable peer s1 p → IsUsable peer s2 q → p ≡ q
first_same peer [] t1 [] t2 s1 s2 p q e n1 n2 u1 u2 =
    let s : s1 ≡ s2 = cc in
    sym (usable_only peer s1 p u1) ∙ ap (fit_of peer) s ∙ usable_only peer s2 q u2
first_same peer [] t1 (x ∷ b2) t2 s1 s2 p q e n1 n2 u1 u2 =
    let s : s1 ≡ x = cc in absurd (n2.0 p (subst (λ (y : Spec). IsUsable peer y p) s u1))
first_same peer (x ∷ b1) t1 [] t2 s1 s2 p q e n1 n2 u1 u2 =
    let s : s2 ≡ x = cc in absurd (n1.0 q (subst (λ (y : Spec). IsUsable peer y q) s u2))
first_same peer (x ∷ b1) t1 (y ∷ b2) t2 s1 s2 p q e n1 n2 u1 u2 =
    let r : b1 ++ s1 ∷ t1 ≡ b2 ++ s2 ∷ t2 = cc in first_same peer b1 t1 b2 t2 s1 s2 p q r n1.1 n2.1 u1 u2

same_first : (peer : ℕ) (specs : List Spec) (p q : Pick) → IsFirst peer specs p → IsFirst peer specs q → p ≡ q
same_first peer specs p q f g = first_same peer f.before f.behind g.before g.behind f.spec g.spec p q (sym f.parts ∙ g.parts) f.none g.none f.usable g.usable

-- what is the first usable one is the pick
one_first : (peer : ℕ) (specs : List Spec) (p q : Pick) → IsFirst peer specs p → Picks peer specs q → p ≡ q
one_first peer specs p (Udp a b) f g = same_first peer specs p (Udp a b) f g
one_first peer specs p (Mux a) f g = same_first peer specs p (Mux a) f g
one_first peer specs p (Inter w) f g = same_first peer specs p (Inter w) f g
one_first peer specs p Unsupported f g = absurd (none_first peer specs p g.0 f)
one_first peer specs p Prohibited f g = absurd (none_first peer specs p g.0 f)

one_pick : (peer : ℕ) (specs : List Spec) (p q : Pick) → Picks peer specs p → Picks peer specs q → p ≡ q
one_pick peer specs (Udp a b) q f g = one_first peer specs (Udp a b) q f g
one_pick peer specs (Mux a) q f g = one_first peer specs (Mux a) q f g
one_pick peer specs (Inter w) q f g = one_first peer specs (Inter w) q f g
one_pick peer specs Unsupported (Udp a b) f g = absurd (none_first peer specs (Udp a b) f.0 g)
one_pick peer specs Unsupported (Mux a) f g = absurd (none_first peer specs (Mux a) f.0 g)
one_pick peer specs Unsupported (Inter w) f g = absurd (none_first peer specs (Inter w) f.0 g)
one_pick peer specs Unsupported Unsupported f g = refl
one_pick peer specs Unsupported Prohibited f g = absurd (none_foreign peer specs f.1 g.1)
one_pick peer specs Prohibited (Udp a b) f g = absurd (none_first peer specs (Udp a b) f.0 g)
one_pick peer specs Prohibited (Mux a) f g = absurd (none_first peer specs (Mux a) f.0 g)
one_pick peer specs Prohibited (Inter w) f g = absurd (none_first peer specs (Inter w) f.0 g)
one_pick peer specs Prohibited Unsupported f g = absurd (none_foreign peer specs g.1 f.1)
one_pick peer specs Prohibited Prohibited f g = refl

pub picked : (peer : ℕ) (specs : List Spec) (p : Pick) → Picks peer specs p → p ≡ pick_of peer specs
picked peer specs p f = one_pick peer specs p (pick_of peer specs) f (picks peer specs)
