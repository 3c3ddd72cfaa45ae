-- One step of the search for what is offered under a name.
use Rattle.std.proofs.Common.{◌≡◌, refl, ℕ, ◌+◌, ◌<◌, ◌≤◌, Bool, true, false, List, length, drop, get_or, None, Some, slice_get}
use Rattle.std.proofs.lemmas.List.{drop_more, drop_all}
use Rattle.rtsp_content.specs.PresentationValue.{PresentationValue}
use Rattle.rtsp_content.specs.Offering.{is_offered_as, offered_from}

pub offered_from-here : (ps : List PresentationValue) (withdrawn : List Bool) (name : List ℕ) (i : ℕ) (p : PresentationValue) → i < length ps → p ≡ get_or ps i p
    → is_offered_as p (slice_get withdrawn i) name ≡ true → offered_from i (drop i ps) withdrawn name ≡ Some i
unfolding offered_from
offered_from-here ps withdrawn name i p h is here = rw (drop_more ps i p h, ← is, here) refl

pub offered_from-more : (ps : List PresentationValue) (withdrawn : List Bool) (name : List ℕ) (i : ℕ) (p : PresentationValue) → i < length ps → p ≡ get_or ps i p
    → is_offered_as p (slice_get withdrawn i) name ≡ false → offered_from i (drop i ps) withdrawn name ≡ offered_from (i + 1) (drop (i + 1) ps) withdrawn name
unfolding offered_from
offered_from-more ps withdrawn name i p h is other = rw (drop_more ps i p h, ← is, other) refl

pub offered_from-end : (ps : List PresentationValue) (withdrawn : List Bool) (name : List ℕ) (i : ℕ) → length ps ≤ i → offered_from i (drop i ps) withdrawn name ≡ None
unfolding offered_from
offered_from-end ps withdrawn name i h = rw (drop_all i ps h) refl
