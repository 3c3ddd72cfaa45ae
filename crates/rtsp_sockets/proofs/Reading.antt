-- What is read of a file's front.
use Rattle.std.proofs.Common.{◌≡◌, ◌≤◌, ℕ, ◌+◌, ◌-◌, ◌*◌, List, Option, Some, Result, Ok, Err, refl, ◌∙◌, ap, subst, sym, take, drop, take-take, length, arith}
use Rattle.std.specs.Prelude.{slice_range, slice_get, None, IfSome, IfNone, OnOk, unwrap_or}
use Rattle.std.specs.Global.{Vec}
use Rattle.std.proofs.lemmas.List.{drop-drop, drop-take}
use Rattle.rtsp_sockets.specs.declared.media.Place.{Place}
use Rattle.rtsp_sockets.specs.Files.{StandAt}
use Rattle.rtsp_sockets.specs.Media.{IsPlaceOf, StandInFile, opened, file_at}

-- a range within the first n is a range of the whole
front : (xs : List ℕ) (n at m : ℕ) → at + m ≤ n → slice_range (slice_range xs 0 (0 + n)) at (at + m) ≡ slice_range xs at (at + m)
front xs n at m within =
    let all : (0 + n) - 0 ≡ at + (n - at) = omega arith in
    ap (λ k. take ((at + m) - at) (drop at (take k (drop 0 xs)))) all
    ∙ ap (take ((at + m) - at)) (drop-take at (n - at) xs)
    ∙ take-take ((at + m) - at) (n - at) (drop at xs) (omega arith)

-- what stands at a place of what is held stands there in the file
pub stand_held : (text : Option (List ℕ)) (bytes : List ℕ) (at : ℕ) (out : List ℕ) → StandAt text 0 bytes → at + length out ≤ length bytes → out ≡ slice_range bytes at (at + length out) → StandAt text at out
stand_held text bytes at out held within there file known = there ∙ ap (λ l. slice_range l at (at + length out)) (held file known) ∙ front file (length bytes) at (length out) within

-- a range within a range is a range of the whole
inner : (xs : List ℕ) (base n at m : ℕ) → at + m ≤ n → slice_range (slice_range xs base (base + n)) at (at + m) ≡ slice_range xs (base + at) (base + at + m)
inner xs base n at m within =
    let all : (base + n) - base ≡ at + (n - at) = omega arith in
    let some : (base + at + m) - (base + at) ≡ (at + m) - at = omega arith in
    ap (λ k. take ((at + m) - at) (drop at (take k (drop base xs)))) all
    ∙ ap (take ((at + m) - at)) (drop-take at (n - at) (drop base xs))
    ∙ take-take ((at + m) - at) (n - at) (drop at (drop base xs)) (omega arith)
    ∙ ap (take ((at + m) - at)) (drop-drop at base xs)
    ∙ ap (λ k. take k (drop (base + at) xs)) (sym some)

-- what stands at a place of what is kept, which stands at a place itself, stands behind that in the file
stand_behind : (text : Option (List ℕ)) (bytes : List ℕ) (base at : ℕ) (out : List ℕ) → StandAt text base bytes → at + length out ≤ length bytes → out ≡ slice_range bytes at (at + length out) → StandAt text (base + at) out
stand_behind text bytes base at out kept within there file known = there ∙ ap (λ l. slice_range l at (at + length out)) (kept file known) ∙ inner file base (length bytes) at (length out) within

-- the same of a copy that may have failed
pub read_kept : {A E : Type 0} (r : Result A E) (text : Option (List ℕ)) (bytes : List ℕ) (base at n : ℕ) (out : List ℕ) → StandAt text base bytes → base ≤ at → length out ≡ n
    → OnOk r ((at - base) + n ≤ length bytes) → OnOk r (out ≡ slice_range bytes (at - base) ((at - base) + n)) → OnOk r (StandAt text at out)
read_kept (Ok x) text bytes base at n out kept from size within there =
    let place : base + (at - base) ≡ at = omega arith in
    subst (λ p. StandAt text p out) place
    (stand_behind text bytes base (at - base) out kept (subst (λ k. (at - base) + k ≤ length bytes) (sym size) within) (subst (λ k. out ≡ slice_range bytes (at - base) ((at - base) + k)) (sym size) there))
read_kept (Err e) text bytes base at n out kept from size within there = tt

-- the same of a read that may have failed
pub read_held : {A E : Type 0} (r : Result A E) (text : Option (List ℕ)) (bytes : List ℕ) (at n : ℕ) (out : List ℕ) → StandAt text 0 bytes → length out ≡ n
    → OnOk r (at + n ≤ length bytes) → OnOk r (out ≡ slice_range bytes at (at + n)) → OnOk r (StandAt text at out)
read_held (Ok x) text bytes at n out held size within there =
    stand_held text bytes at out held (subst (λ k. at + k ≤ length bytes) (sym size) within) (subst (λ k. out ≡ slice_range bytes at (at + k)) (sym size) there)
read_held (Err e) text bytes at n out held size within there = tt

-- where octets stand, by the place of their track and what is open there
stand_opened : {M N : Type 0} (text : N → Option (List ℕ)) (of : M → N) (files : List (Option M)) (places : List (Vec Place)) (presentation track unit : ℕ) (octets : List ℕ) (place : Place) (file : N) (o : Option (Option M))
    → slice_get files place.file ≡ o → IsPlaceOf places presentation track place → opened of o ≡ Some file → StandAt (text file) (unit * place.octets) octets
    → StandInFile (λ m. text (of m)) files places presentation track unit octets
stand_opened text of files places presentation track unit octets place file (Some (Some m)) here is_place is_file stand =
    let same : of m ≡ file = ap (λ o. unwrap_or o (of m)) is_file in
    record {
      place = place;
      is_place = is_place;
      file = m;
      is_file = ap (opened (λ f. f)) here;
      stand = subst (λ f. StandAt (text f) (unit * place.octets) octets) (sym same) stand;
    }
stand_opened text of files places presentation track unit octets place file (Some None) here is_place is_file stand = absurd cc
stand_opened text of files places presentation track unit octets place file None here is_place is_file stand = absurd cc

-- the same of a read that may have failed
pub found_stand : {A E M N : Type 0} (text : N → Option (List ℕ)) (of : M → N) (r : Result A E) (files : List (Option M)) (places : List (Vec Place)) (presentation track unit : ℕ) (octets : List ℕ) (place : Place) (file : N)
    → IsPlaceOf places presentation track place → Some file ≡ file_at of files place.file → OnOk r (StandAt (text file) (unit * place.octets) octets)
    → OnOk r (StandInFile (λ m. text (of m)) files places presentation track unit octets)
found_stand text of (Ok x) files places presentation track unit octets place file is_place is_file stand =
    stand_opened text of files places presentation track unit octets place file (slice_get files place.file) refl is_place (sym is_file) stand
found_stand text of (Err e) files places presentation track unit octets place file is_place is_file stand = tt

pub found_place : (places : List (Vec Place)) (presentation track : ℕ) (tracks : Vec Place) (r : Option Place) → slice_get places presentation ≡ Some tracks → slice_get tracks.items track ≡ r → IfSome r (IsPlaceOf places presentation track)
found_place places presentation track tracks (Some place) here there = record { tracks = tracks; of_presentation = here; of_track = there }
found_place places presentation track tracks None here there = tt

-- two places of one track are the same
same_place : (places : List (Vec Place)) (presentation track : ℕ) (tracks : Vec Place) (r : Option Place) (place : Place) → slice_get places presentation ≡ Some tracks → slice_get tracks.items track ≡ r
    → IsPlaceOf places presentation track place → r ≡ Some place
same_place places presentation track tracks r place here there is =
    let tracks_is : is.tracks ≡ tracks = ap (λ (o : Option (Vec Place)). unwrap_or o tracks) (sym is.of_presentation ∙ here) in
    sym there ∙ ap (λ (t : Vec Place). slice_get t.items track) (sym tracks_is) ∙ is.of_track

-- a track without a place has none
pub no_place : (places : List (Vec Place)) (presentation track : ℕ) (tracks : Vec Place) (r : Option Place) → slice_get places presentation ≡ Some tracks → slice_get tracks.items track ≡ r
    → IfNone r ((place : Place) → ¬ IsPlaceOf places presentation track place)
no_place places presentation track tracks (Some place) here there = tt
no_place places presentation track tracks None here there = λ place is. subst (λ (o : Option Place). IfSome o (λ _. ⊥)) (same_place places presentation track tracks None place here there is) tt
