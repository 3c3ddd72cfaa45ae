-- What is meant alike by a table that goes on.
use Rattle.std.proofs.Common.{◌≡◌, ◌∙◌, sym, refl, ap, subst, ℕ, zero, suc, ◌+◌, Bool, true, false, cond, bytes_eq, List, [], ◌∷◌, ◌⊎◌, inl, inr, Option, Some, None, Ok, slice_get, arith}
use Rattle.std.specs.Prelude.{not, ◌&&◌}
use Rattle.std.proofs.lemmas.Bool.{false≢true}
use Rattle.std.proofs.lemmas.Option.{same_Some}
use Rattle.std.proofs.lemmas.Slice.Eq.{bytes_eq-Decides}
use Rattle.rtsp_text.specs.Results.{◌>>=◌}
use Rattle.rtsp_content.specs.PresentationValue.{PresentationValue, presentation_names}
use Rattle.rtsp_content.specs.TableValue.{TableValue, IsTableWithin}
use Rattle.rtsp_content.specs.Withdrawn.{is_gone, is_withdrawn}
use Rattle.rtsp_content.specs.Offering.{is_offered_as, is_namesake, offered_from, offered_named, offered_like, meant_of, track_as}
use Rattle.rtsp_content.specs.Growing.{Extends, IsSamePlace}
use Rattle.rtsp_state.specs.declared.request.Target.{Target}
use Rattle.rtsp_state.specs.declared.request.Target.TheVariants as targets
use Rattle.rtsp_state.specs.Context.{known}
use Rattle.rtsp_state.specs.Alike.{IsHeld, AgreeOn}
use Rattle.rtsp_state.specs.Growth.{HasOwn, IsSameOwn, IsKeptAt, IsKept, MeansAlike, OffersRest, AnswersAlike}
use Rattle.rtsp_state.proofs.AlikeLemmas.{agree-held, reads-alike, asks-alike, asks-same}
use Rattle.rtsp_state.proofs.GrowthLemmas.{track-alike, decides-by-place, renews-alike}

-- ---- what is offered under a name

offered-parts : (gone same : Bool) → (not gone && same) ≡ true → (gone ≡ false) × (same ≡ true)
offered-parts true same e = absurd cc
offered-parts false same e = (refl, e)

-- one of the name is offered at the place
record OfferedAt (ps : List PresentationValue) (withdrawn : List Bool) (name : List ℕ) (i place : ℕ) : Type 0 where
  k : ℕ
  counted : place ≡ i + k
  p : PresentationValue
  stands : slice_get ps k ≡ Some p
  offered : is_withdrawn withdrawn place ≡ false
  named : p.name ≡ name

offered-found : (i : ℕ) (ps : List PresentationValue) (withdrawn : List Bool) (name : List ℕ) (place : ℕ) → offered_from i ps withdrawn name ≡ Some place → OfferedAt ps withdrawn name i place
unfolding offered_from
offered-found i [] withdrawn name place e = absurd cc
offered-found i (p ∷ ps) withdrawn name place e = go (is_offered_as p (slice_get withdrawn i) name) refl e (offered-found (i + 1) ps withdrawn name place) where
  go : (b : Bool) → is_offered_as p (slice_get withdrawn i) name ≡ b → cond b (Some i) (offered_from (i + 1) ps withdrawn name) ≡ Some place
      → (offered_from (i + 1) ps withdrawn name ≡ Some place → OfferedAt ps withdrawn name (i + 1) place) → OfferedAt (p ∷ ps) withdrawn name i place
  go true is h more =
      let parts = offered-parts (is_gone (slice_get withdrawn i)) (bytes_eq p.name name) is in
      let at : i ≡ place = same_Some i place h in
      record {
        k = zero;
        counted = omega (arith, at);
        p = p;
        stands = refl;
        offered = subst (λ q. is_withdrawn withdrawn q ≡ false) at parts.0;
        named = (bytes_eq-Decides p.name name).0 parts.1;
      }
  go false is h more =
      let r = more h in
      record { k = suc r.k; counted = omega (arith, r.counted); p = r.p; stands = r.stands; offered = r.offered; named = r.named }

-- found here, or later
or-later : (i : ℕ) (b : Bool) (later : Option ℕ) → (found : ℕ) × (later ≡ Some found) → (found : ℕ) × (cond b (Some i) later ≡ Some found)
or-later i true later it = (i, refl)
or-later i false later it = it

-- where one of the name is offered, some place is found
offered-some : (i k : ℕ) (ps : List PresentationValue) (withdrawn : List Bool) (name : List ℕ) (place : ℕ) (p : PresentationValue) → place ≡ i + k → slice_get ps k ≡ Some p
    → is_withdrawn withdrawn place ≡ false → p.name ≡ name → (found : ℕ) × (offered_from i ps withdrawn name ≡ Some found)
unfolding offered_from
offered-some i k [] withdrawn name place p counted stands offered named = absurd cc
offered-some i zero (x ∷ ps) withdrawn name place p counted stands offered named =
    let at : place ≡ i = omega (arith, counted) in
    let on : is_withdrawn withdrawn i ≡ false = subst (λ q. is_withdrawn withdrawn q ≡ false) at offered in
    let same : x ≡ p = same_Some x p stands in
    let is : bytes_eq x.name name ≡ true = (bytes_eq-Decides x.name name).1 (ap (λ (y : PresentationValue). y.name) same ∙ named) in
    (i, rw (on, is) refl)
offered-some i (suc k) (x ∷ ps) withdrawn name place p counted stands offered named =
    or-later i (is_offered_as x (slice_get withdrawn i) name) (offered_from (i + 1) ps withdrawn name) (offered-some (i + 1) k ps withdrawn name place p (omega (arith, counted)) stands offered named)

-- ---- that it is one place

name-of : (ps : List PresentationValue) (i : ℕ) (p : PresentationValue) → slice_get ps i ≡ Some p → slice_get (presentation_names ps) i ≡ Some p.name
name-of [] i p e = absurd cc
name-of (q ∷ ps) zero p e = let same : q ≡ p = cc in ap (λ (x : PresentationValue). Some x.name) same
name-of (q ∷ ps) (suc i) p e = name-of ps i p e

-- of two that are offered under one name both are at one place
one-place : (table : TableValue) → IsTableWithin table → (i j : ℕ) (a b : PresentationValue) → slice_get table.presentations i ≡ Some a → slice_get table.presentations j ≡ Some b
    → b.name ≡ a.name → is_withdrawn table.withdrawn i ≡ false → is_withdrawn table.withdrawn j ≡ false → i ≡ j
one-place table within i j a b at_i at_j same on_i on_j =
    within.presentations_distinct i j a.name (name-of table.presentations i a at_i) (name-of table.presentations j b at_j ∙ ap Some same) on_i on_j

-- it is found where it is offered
found-there : (table : TableValue) → IsTableWithin table → (name : List ℕ) (place : ℕ) (p : PresentationValue) → slice_get table.presentations place ≡ Some p → p.name ≡ name
    → is_withdrawn table.withdrawn place ≡ false → offered_from 0 table.presentations table.withdrawn name ≡ Some place
found-there table within name place p stands named on =
    let some = offered-some 0 place table.presentations table.withdrawn name place p (omega arith) stands on named in
    let it = offered-found 0 table.presentations table.withdrawn name some.0 some.1 in
    let counted : it.k ≡ some.0 = omega (arith, it.counted) in
    let at : slice_get table.presentations some.0 ≡ Some it.p = subst (λ q. slice_get table.presentations q ≡ Some it.p) counted it.stands in
    some.1 ∙ ap Some (one-place table within some.0 place it.p p at stands (named ∙ sym it.named) it.offered on)

-- ---- what is meant

-- both mean one place, at which something stands
record Means (old new : TableValue) (own : Option ℕ) (p : ℕ) : Type 0 where
  place : ℕ
  before : meant_of old own p ≡ Some place
  after : meant_of new own p ≡ Some place
  held : IsHeld old place
  same : IsSamePlace old new place

-- what is offered, or is offered under the name
record Likes (table : TableValue) (x : PresentationValue) (place : ℕ) : Type 0 where
  like : PresentationValue
  stands : slice_get table.presentations place ≡ Some like
  named : like.name ≡ x.name

likes : (table : TableValue) (p : ℕ) (x : PresentationValue) (place : ℕ) → slice_get table.presentations p ≡ Some x → offered_like table p ≡ Some place → Likes table x place
likes table p x place at e = go (is_withdrawn table.withdrawn p) e where
  go : (b : Bool) → cond (not b) (Some p) (offered_named table (slice_get table.presentations p)) ≡ Some place → Likes table x place
  go false h = let same : p ≡ place = same_Some p place h in record { like = x; stands = subst (λ q. slice_get table.presentations q ≡ Some x) same at; named = refl }
  go true h =
      let found : offered_from 0 table.presentations table.withdrawn x.name ≡ Some place = rw at at h in
      let it = offered-found 0 table.presentations table.withdrawn x.name place found in
      let counted : it.k ≡ place = omega (arith, it.counted) in
      record { like = it.p; stands = subst (λ q. slice_get table.presentations q ≡ Some it.p) counted it.stands; named = it.named }

-- what is offered still is meant still
likes-still : (new : TableValue) → IsTableWithin new → (p : ℕ) (x : PresentationValue) (place : ℕ) (like : PresentationValue) → slice_get new.presentations p ≡ Some x
    → slice_get new.presentations place ≡ Some like → like.name ≡ x.name → is_withdrawn new.withdrawn place ≡ false → offered_like new p ≡ Some place
likes-still new within p x place like at stands named on = go (is_withdrawn new.withdrawn p) refl where
  go : (b : Bool) → is_withdrawn new.withdrawn p ≡ b → cond (not b) (Some p) (offered_named new (slice_get new.presentations p)) ≡ Some place
  go false off = ap Some (one-place new within p place x like at stands named off on)
  go true off = rw at (found-there new within x.name place like stands named on)

-- for whoever has no streams of it
offered-means : (old new : TableValue) → Extends old new → IsTableWithin new → (p place : ℕ) → IsSamePlace old new p → IsSamePlace old new place → IsHeld old p → offered_like old p ≡ Some place → is_withdrawn new.withdrawn place ≡ false
    → (offered_like new p ≡ Some place) × IsHeld old place
offered-means old new x within p place same_p same_place held e on =
    let it = likes old p held.0 place held.1 e in
    let there : IsHeld old place = (it.like, it.stands) in
    (likes-still new within p held.0 place it.like (agree-held old new x p same_p held ∙ held.1) (agree-held old new x place same_place there ∙ it.stands) it.named on, there)

namesakes : (one other : Option PresentationValue) (a b : PresentationValue) → one ≡ Some a → other ≡ Some b → b.name ≡ a.name → is_namesake one other ≡ true
namesakes one other a b is_a is_b same = rw (is_a, is_b) ((bytes_eq-Decides a.name b.name).1 (sym same))

means : (old new : TableValue) → Extends old new → IsTableWithin new → (own : Option ℕ) (p : ℕ) → IsSamePlace old new p → IsHeld old p → HasOwn old own → IsSameOwn old new own → IsKeptAt old new own p → Means old new own p
means old new x within None p same held owns mine kept = go kept.stays where
  go : (None ≡ Some kept.meant) ⊎ (is_withdrawn new.withdrawn kept.meant ≡ false) → Means old new None p
  go (inl none) = absurd cc
  go (inr on) = let it = offered-means old new x within p kept.meant same kept.same held kept.is on in record { place = kept.meant; before = kept.is; after = it.0; held = it.1; same = kept.same }
means old new x within (Some own) p same held owns mine kept = go (is_namesake (slice_get old.presentations own) (slice_get old.presentations p)) refl kept.is where
  alike : is_namesake (slice_get new.presentations own) (slice_get new.presentations p) ≡ is_namesake (slice_get old.presentations own) (slice_get old.presentations p)
  alike = rw (agree-held old new x own mine owns, agree-held old new x p same held) refl

  other : is_namesake (slice_get old.presentations own) (slice_get old.presentations p) ≡ false → offered_like old p ≡ Some kept.meant
      → (Some own ≡ Some kept.meant) ⊎ (is_withdrawn new.withdrawn kept.meant ≡ false) → (offered_like new p ≡ Some kept.meant) × IsHeld old kept.meant
  other is e (inr on) = offered-means old new x within p kept.meant same kept.same held e on
  other is e (inl meant) =
      let it = likes old p held.0 kept.meant held.1 e in
      let at : slice_get old.presentations own ≡ Some it.like = subst (λ q. slice_get old.presentations q ≡ Some it.like) (sym (same_Some own kept.meant meant)) it.stands in
      absurd (false≢true (sym is ∙ namesakes (slice_get old.presentations own) (slice_get old.presentations p) it.like held.0 at held.1 (sym it.named)))

  go : (b : Bool) → is_namesake (slice_get old.presentations own) (slice_get old.presentations p) ≡ b → cond b (Some own) (offered_like old p) ≡ Some kept.meant → Means old new (Some own) p
  go true is e = record { place = own; before = rw is refl; after = rw (alike, is) refl; held = owns; same = mine }
  go false is e =
      let it = other is e kept.stays in
      record { place = kept.meant; before = rw is e; after = rw (alike, is) it.0; held = it.1; same = kept.same }

-- ---- what is decided

on-track : (table : TableValue) (base : List ℕ) (q : ℕ) (o : Option ℕ) (aim : Target) → (known o >>= λ u. Ok (targets.Track base q u)) ≡ Ok aim → (P : Target → Type 0) → ((u : ℕ) → P (targets.Track base q u)) → P aim
on-track table base q (Some u) aim e P all = let same : targets.Track base q u ≡ aim = cc in subst P same (all u)
on-track table base q None aim e P all = absurd cc

means-alike : (old new : TableValue) → Extends old new → IsTableWithin new → (own : Option ℕ) (target : Target) → IsKept old new own target → MeansAlike old new own target
means-alike old new x within own (targets.Presentation base p) kept =
    let it = means old new x within own p kept.same kept.there kept.own_there kept.own_same kept.kept in
    record {
      meant = rw (it.before, it.after) refl;
      stands = λ aim e.
          let is : Ok (targets.Presentation base it.place) ≡ Ok aim = rw it.before at e in
          let same : targets.Presentation base it.place ≡ aim = cc in
          subst (AgreeOn old new) same (agree-held old new x it.place it.same it.held);
    }
means-alike old new x within own (targets.Track base p t) kept =
    let it = means old new x within own p kept.same kept.there kept.own_there kept.own_same kept.kept in
    let there = agree-held old new x it.place it.same it.held in
    record {
      meant = rw (it.before, it.after, track-alike old new p t it.place there (agree-held old new x p kept.same kept.there)) refl;
      stands = λ aim e. on-track old base it.place (track_as old p t it.place) aim (rw it.before at e) (AgreeOn old new) (λ u. there);
    }
means-alike old new x within own targets.Server kept = record { meant = refl; stands = λ aim e. let same : targets.Server ≡ aim = cc in subst (AgreeOn old new) same tt }
means-alike old new x within own targets.Star kept = record { meant = refl; stands = λ aim e. let same : targets.Star ≡ aim = cc in subst (AgreeOn old new) same tt }

pub offers-rest : OffersRest
offers-rest old new x within timed request view kept peer moment = decides-by-place old new timed request view (means-alike old new x within _ request.target kept) peer moment

pub answers-alike : AnswersAlike
answers-alike old new x within timed request view has same kept = record {
  read = reads-alike old new x request has same;
  renewed = λ parsed living moment. renews-alike old new timed parsed living moment;
  decided = λ parsed asks peer moment.
      let asked = asks-alike old new x request parsed asks in
      let it = kept parsed asks in
      offers-rest old new x within timed.timeout parsed view (record { there = asked.0; same = asks-same old new request parsed same asks; own_there = it.0; own_same = it.1; kept = it.2 }) peer moment;
}
