-- The pick of a list.
use Rattle.std.proofs.Common.{◌≡◌, ◌⊎◌, ℕ, ◌+◌, ◌<◌, ◌≤◌, List, [], ◌∷◌, length, get_or, drop, refl, sym, ap, subst, ◌∙◌, inl, inr}
use Rattle.std.proofs.lemmas.List.{drop_more, drop_all}
use Rattle.rtsp_transport.specs.Fitting.{fit_of}
use Rattle.rtsp_transport.specs.Picking.{IsForeign, IsUsable, NotUsable, IsFirst, HasForeign, Picks, prohibited_or, better, pick_of}
use Rattle.rtsp_transport.specs.declared.picks.Pick.{Pick}
use Rattle.rtsp_transport.specs.declared.picks.Pick.TheVariants.{Udp, Mux, Inter, Unsupported, Prohibited}
use Rattle.rtsp_transport.specs.declared.spec.Spec.{Spec}
use Rattle.rtsp_transport.proofs.FittingLemmas.{Fits, fits, usable_only, foreign_only}

-- a refusal is no use
none_unsupported : (peer : ℕ) (spec : Spec) → fit_of peer spec ≡ Unsupported → NotUsable peer spec
none_unsupported peer spec e pick u = subst (λ (p : Pick). IsUsable peer spec p) (sym (usable_only peer spec pick u) ∙ e) u

none_prohibited : (peer : ℕ) (spec : Spec) → fit_of peer spec ≡ Prohibited → NotUsable peer spec
none_prohibited peer spec e pick u = subst (λ (p : Pick). IsUsable peer spec p) (sym (usable_only peer spec pick u) ∙ e) u

not_foreign : (peer : ℕ) (spec : Spec) → fit_of peer spec ≡ Unsupported → ¬ IsForeign peer spec
not_foreign peer spec e f = let c = foreign_only peer spec f in absurd cc

-- one that is no use before the others
later : (peer : ℕ) (spec : Spec) (specs : List Spec) (pick : Pick) → NotUsable peer spec → IsFirst peer specs pick → IsFirst peer (spec ∷ specs) pick
later peer spec specs pick n f = record {
  before = spec ∷ f.before;
  spec = f.spec;
  behind = f.behind;
  parts = ap (λ (xs : List Spec). spec ∷ xs) f.parts;
  none = (n, f.none);
  usable = f.usable;
}

at_once : (peer : ℕ) (spec : Spec) (specs : List Spec) (pick : Pick) → IsUsable peer spec pick → IsFirst peer (spec ∷ specs) pick
at_once peer spec specs pick u = record { before = []; spec = spec; behind = specs; parts = refl; none = tt; usable = u }

foreign_later : (peer : ℕ) (spec : Spec) (specs : List Spec) → HasForeign peer specs → HasForeign peer (spec ∷ specs)
foreign_later peer spec specs f = record { before = spec ∷ f.before; spec = f.spec; behind = f.behind; parts = ap (λ (xs : List Spec). spec ∷ xs) f.parts; foreign = f.foreign }

foreign_here : (peer : ℕ) (spec : Spec) (specs : List Spec) → IsForeign peer spec → HasForeign peer (spec ∷ specs)
foreign_here peer spec specs f = record { before = []; spec = spec; behind = specs; parts = refl; foreign = f }

after_unsupported : (peer : ℕ) (spec : Spec) (specs : List Spec) (rest : Pick) → fit_of peer spec ≡ Unsupported → Picks peer specs rest → Picks peer (spec ∷ specs) rest
after_unsupported peer spec specs (Udp a b) e p = later peer spec specs (Udp a b) (none_unsupported peer spec e) p
after_unsupported peer spec specs (Mux a) e p = later peer spec specs (Mux a) (none_unsupported peer spec e) p
after_unsupported peer spec specs (Inter w) e p = later peer spec specs (Inter w) (none_unsupported peer spec e) p
after_unsupported peer spec specs Unsupported e p = ((none_unsupported peer spec e, p.0), (not_foreign peer spec e, p.1))
after_unsupported peer spec specs Prohibited e p = ((none_unsupported peer spec e, p.0), foreign_later peer spec specs p.1)

after_prohibited : (peer : ℕ) (spec : Spec) (specs : List Spec) (rest : Pick) → fit_of peer spec ≡ Prohibited → IsForeign peer spec → Picks peer specs rest → Picks peer (spec ∷ specs) (prohibited_or rest)
after_prohibited peer spec specs (Udp a b) e f p = later peer spec specs (Udp a b) (none_prohibited peer spec e) p
after_prohibited peer spec specs (Mux a) e f p = later peer spec specs (Mux a) (none_prohibited peer spec e) p
after_prohibited peer spec specs (Inter w) e f p = later peer spec specs (Inter w) (none_prohibited peer spec e) p
after_prohibited peer spec specs Unsupported e f p = ((none_prohibited peer spec e, p.0), foreign_here peer spec specs f)
after_prohibited peer spec specs Prohibited e f p = ((none_prohibited peer spec e, p.0), foreign_here peer spec specs f)

pub picks : (peer : ℕ) (specs : List Spec) → Picks peer specs (pick_of peer specs)
unfolding pick_of
picks peer [] = (tt, tt)
picks peer (spec ∷ specs) = go (picks peer specs) (fit_of peer spec) refl (fits peer spec) where
  go : Picks peer specs (pick_of peer specs) → (fit : Pick) → fit_of peer spec ≡ fit → Fits peer spec fit → Picks peer (spec ∷ specs) (better fit (pick_of peer specs))
  go p (Udp a b) e f = at_once peer spec specs (Udp a b) f
  go p (Mux a) e f = at_once peer spec specs (Mux a) f
  go p (Inter w) e f = at_once peer spec specs (Inter w) f
  go p Unsupported e f = after_unsupported peer spec specs (pick_of peer specs) e p
  go p Prohibited e f = after_prohibited peer spec specs (pick_of peer specs) e f p

-- ---- a loop over the list

-- nothing usable was met
abbrev pub IsRefusal : Pick → Type 0
IsRefusal pick = (pick ≡ Unsupported) ⊎ (pick ≡ Prohibited)

prohibited_twice : (rest : Pick) → prohibited_or (prohibited_or rest) ≡ prohibited_or rest
prohibited_twice (Udp a b) = refl
prohibited_twice (Mux a) = refl
prohibited_twice (Inter w) = refl
prohibited_twice Unsupported = refl
prohibited_twice Prohibited = refl

pub begin : (peer : ℕ) (specs : List Spec) → IsRefusal Unsupported × (better Unsupported (pick_of peer specs) ≡ pick_of peer specs)
begin peer specs = (inl refl, refl)

pick_at : (peer : ℕ) (specs : List Spec) (i : ℕ) (d : Spec) → i < length specs → pick_of peer (drop i specs) ≡ better (fit_of peer (get_or specs i d)) (pick_of peer (drop (i + 1) specs))
unfolding pick_of
pick_at peer specs i d lt = ap (pick_of peer) (drop_more specs i d lt)

abbrev pub PicksOn : ℕ → List Spec → ℕ → Pick → Type 0
PicksOn peer specs i refusal = IsRefusal refusal × (better refusal (pick_of peer (drop i specs)) ≡ pick_of peer specs)

pub past_unsupported : (peer : ℕ) (specs : List Spec) (i : ℕ) (d : Spec) (refusal : Pick) → i < length specs → fit_of peer (get_or specs i d) ≡ Unsupported → PicksOn peer specs i refusal → PicksOn peer specs (i + 1) refusal
past_unsupported peer specs i d refusal lt e p =
    (p.0, ap (better refusal) (sym (pick_at peer specs i d lt ∙ ap (λ (f : Pick). better f (pick_of peer (drop (i + 1) specs))) e)) ∙ p.1)

pub past_prohibited : (peer : ℕ) (specs : List Spec) (i : ℕ) (d : Spec) (refusal : Pick) → i < length specs → fit_of peer (get_or specs i d) ≡ Prohibited → PicksOn peer specs i refusal → PicksOn peer specs (i + 1) Prohibited
past_prohibited peer specs i d refusal lt e (inl u, h) =
    (inr refl, sym (pick_at peer specs i d lt ∙ ap (λ (f : Pick). better f (pick_of peer (drop (i + 1) specs))) e) ∙ ap (λ (f : Pick). better f (pick_of peer (drop i specs))) (sym u) ∙ h)
past_prohibited peer specs i d refusal lt e (inr u, h) =
    (inr refl, sym (prohibited_twice (pick_of peer (drop (i + 1) specs))) ∙ ap prohibited_or (sym (pick_at peer specs i d lt ∙ ap (λ (f : Pick). better f (pick_of peer (drop (i + 1) specs))) e)) ∙ ap (λ (f : Pick). better f (pick_of peer (drop i specs))) (sym u) ∙ h)

-- a use wins
wins : (refusal fit rest : Pick) → IsRefusal refusal → better fit rest ≡ fit → prohibited_or fit ≡ fit → better refusal (better fit rest) ≡ fit
wins refusal fit rest (inl u) b p = ap (λ (f : Pick). better f (better fit rest)) u ∙ b
wins refusal fit rest (inr u) b p = ap (λ (f : Pick). better f (better fit rest)) u ∙ ap prohibited_or b ∙ p

pub at_use : (peer : ℕ) (specs : List Spec) (i : ℕ) (d : Spec) (refusal fit : Pick) → i < length specs → fit_of peer (get_or specs i d) ≡ fit → ¬ fit ≡ Unsupported → ¬ fit ≡ Prohibited → PicksOn peer specs i refusal → Picks peer specs fit
at_use peer specs i d refusal fit lt e n m p = subst (λ (f : Pick). Picks peer specs f) (sym p.1 ∙ ap (better refusal) (pick_at peer specs i d lt ∙ ap (λ (f : Pick). better f (pick_of peer (drop (i + 1) specs))) e) ∙ kind fit n m) (picks peer specs) where
  kind : (f : Pick) → ¬ f ≡ Unsupported → ¬ f ≡ Prohibited → better refusal (better f (pick_of peer (drop (i + 1) specs))) ≡ f
  kind (Udp a b) n m = wins refusal (Udp a b) (pick_of peer (drop (i + 1) specs)) p.0 refl refl
  kind (Mux a) n m = wins refusal (Mux a) (pick_of peer (drop (i + 1) specs)) p.0 refl refl
  kind (Inter w) n m = wins refusal (Inter w) (pick_of peer (drop (i + 1) specs)) p.0 refl refl
  kind Unsupported n m = absurd (n refl)
  kind Prohibited n m = absurd (m refl)

pub at_end : (peer : ℕ) (specs : List Spec) (i : ℕ) (refusal : Pick) → length specs ≤ i → PicksOn peer specs i refusal → Picks peer specs refusal
unfolding pick_of
at_end peer specs i refusal le p = subst (λ (f : Pick). Picks peer specs f) (sym p.1 ∙ ap (λ (xs : List Spec). better refusal (pick_of peer xs)) (drop_all i specs le) ∙ kind refusal p.0) (picks peer specs) where
  kind : (f : Pick) → IsRefusal f → better f Unsupported ≡ f
  kind f (inl u) = ap (λ (g : Pick). better g Unsupported) u ∙ sym u
  kind f (inr u) = ap (λ (g : Pick). better g Unsupported) u ∙ sym u
