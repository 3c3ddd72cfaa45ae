-- What is found is what the path names.
use Rattle.std.proofs.Common.{◌≡◌, ◌∙◌, ap, sym, refl, ℕ, ◌+◌, ◌<◌, ◌≤◌, Bool, true, false, cond, ltb, List, [], ◌∷◌, ◌++◌, length, drop, get_or, Option, None, Some, inl, inr, ◌⊎◌, arith, suc, zero, codes, slice_get, ◌≢◌, subst}
use Rattle.std.specs.Prelude.{not, nat_le}
use Rattle.std.specs.List.{position_from, position_or_len}
use Rattle.std.specs.Str.{bytes_eq}
use Rattle.std.proofs.lemmas.List.{drop_more, drop_all, length-drop}
use Rattle.std.proofs.lemmas.List.Sums.{passes_at_first, fails_before_first}
use Rattle.std.proofs.lemmas.Iterator.Adapters.{position_from-zero}
use Rattle.std.proofs.lemmas.Option.{slice_get-get_or, get_or_from_slice_get, slice_get_within, same_Some}
use Rattle.std.proofs.lemmas.Slice.Eq.{bytes_eq-Decides}
use Rattle.std.proofs.lemmas.Bool.{cases_Bool, cases_lt, ltb-true, ltb-false, false≢true}
use Rattle.rtsp_content.specs.declared.found.Found.{Found}
use Rattle.rtsp_content.specs.declared.found.Found.TheVariants.{Presentation, Track, Nothing}
use Rattle.rtsp_content.specs.TrackValue.{TrackValue}
use Rattle.rtsp_content.specs.PresentationValue.{PresentationValue}
use Rattle.rtsp_content.specs.TableValue.{TableValue}
use Rattle.rtsp_content.specs.Paths.{presentation_path, track_path, is_presentation_path, is_track_path, track_found, found_at, number_found, is_less, elder, find_from, find_of, IsPathOf, Names}
use Rattle.rtsp_content.specs.Numbers.{number_at}
use Rattle.rtsp_content.proofs.AgeLemmas.{less_is, less_isnt, IsFound, found_or, found_at-number, elder-none}

-- one step of the search
pub find_from-step : (numbers : List ℕ) (ps : List PresentationValue) (i : ℕ) (path : List ℕ) (p : PresentationValue) → i < length ps → p ≡ get_or ps i p
    → find_from numbers i (drop i ps) path ≡ elder numbers (found_at i p path) (find_from numbers (i + 1) (drop (i + 1) ps) path)
unfolding find_from
find_from-step numbers ps i path p h is = rw (drop_more ps i p h, ← is) refl

pub find_from-end : (numbers : List ℕ) (ps : List PresentationValue) (i : ℕ) (path : List ℕ) → length ps ≤ i → find_from numbers i (drop i ps) path ≡ Nothing
unfolding find_from
find_from-end numbers ps i path h = rw (drop_all i ps h) refl

-- the test of a presentation's path says so, and so does that of a track's
presentation_path-true : (p : PresentationValue) (path : List ℕ) → is_presentation_path p path ≡ true → IsPathOf p path
presentation_path-true p path h =
    elim (cases_Bool (bytes_eq path (presentation_path p))) [
      | inl bare ↦ inl ((bytes_eq-Decides path (presentation_path p)).0 bare)
      | inr other ↦ inr ((bytes_eq-Decides path (presentation_path p ++ codes "/")).0 (rw other at h))
    ]

presentation_path-false : (p : PresentationValue) (path : List ℕ) → is_presentation_path p path ≡ false → IsPathOf p path → ⊥
presentation_path-false p path h (inl bare) = false≢true (sym h ∙ rw ((bytes_eq-Decides path (presentation_path p)).1 bare) refl)
presentation_path-false p path h (inr slash) =
    elim (cases_Bool (bytes_eq path (presentation_path p))) [
      | inl bare ↦ false≢true (sym h ∙ rw bare refl)
      | inr other ↦ false≢true (sym h ∙ rw (other, (bytes_eq-Decides path (presentation_path p ++ codes "/")).1 slash) refl)
    ]

-- an element that passes stands at the place
record PassesAt {X : Type 0} (test : X → Bool) (xs : List X) (j : ℕ) : Type 0 where
  element : X
  stands : slice_get xs j ≡ Some element
  passes : test element ≡ true

-- the place of an element that passes, or none passes
abbrev Places : {X : Type 0} → (X → Bool) → List X → Option ℕ → Type 0
Places {X} test xs (Some j) = PassesAt test xs j
Places {X} test xs None = (k : ℕ) (x : X) → slice_get xs k ≡ Some x → test x ≡ false

places : {X : Type 0} (test : X → Bool) (xs : List X) → Places test xs (position_from test 0 xs)
places test [] = λ k x there. absurd cc
places {X} test (x ∷ rest) = subst (Places test xs) (position_from-zero test xs) (go (ltb j (length xs)) refl) where
  xs : List X
  xs = x ∷ rest

  j : ℕ
  j = position_or_len test xs

  go : (b : Bool) → ltb j (length xs) ≡ b → Places test xs (cond b (Some j) None)
  go true low = record { element = get_or xs j x; stands = slice_get-get_or xs j x (ltb-true j (length xs) low); passes = passes_at_first test xs x (ltb-true j (length xs) low) }
  go false high = λ k y there.
      ap test (sym (get_or_from_slice_get xs k y y there)) ∙ fails_before_first test xs k y (omega (arith, ltb-false j (length xs) high, slice_get_within xs k y there))

-- what stands at a place, and what follows it
at_front : {X : Type 0} (xs : List X) (i : ℕ) (x : X) (rest : List X) → drop i xs ≡ x ∷ rest → (slice_get xs i ≡ Some x) × (drop (i + 1) xs ≡ rest)
at_front [] zero x rest h = absurd cc
at_front [] (suc i) x rest h = absurd cc
at_front (y ∷ xs) zero x rest h = (cc, cc)
at_front (y ∷ xs) (suc i) x rest h =
    let later = at_front xs i x rest h in
    let next : suc i + 1 ≡ suc (i + 1) = omega arith in
    (later.0, ap (λ k. drop k (y ∷ xs)) next ∙ later.1)

-- no path of the presentation, and of none of its tracks
abbrev IsElsewhere : List ℕ → PresentationValue → Type 0
IsElsewhere path p = (¬ IsPathOf p path) × ((j : ℕ) (t : TrackValue) → slice_get p.tracks j ≡ Some t → path ≢ track_path p t)

-- ---- what is found among those from a place on

-- it is what the path names of the presentation at some place, and none that it names is elder
pub record FirstAt (numbers : List ℕ) (all : List PresentationValue) (i : ℕ) (path : List ℕ) (f : Found) : Type 0 where
  pub k : ℕ
  pub from : i ≤ k
  pub p : PresentationValue
  pub stands : slice_get all k ≡ Some p
  pub is : found_at k p path ≡ f
  pub found : IsFound f
  pub least : (j : ℕ) (q : PresentationValue) → i ≤ j → slice_get all j ≡ Some q → IsFound (found_at j q path)
      → (number_at numbers k < number_at numbers j) ⊎ ((number_at numbers k ≡ number_at numbers j) × (k ≤ j))

-- where nothing is found, the path names nothing
pub nothing-found : (numbers : List ℕ) (all : List PresentationValue) (path : List ℕ) (i : ℕ) (ps : List PresentationValue) → drop i all ≡ ps → find_from numbers i ps path ≡ Nothing
    → (j : ℕ) (q : PresentationValue) → i ≤ j → slice_get all j ≡ Some q → IsFound (found_at j q path) → ⊥
unfolding find_from
nothing-found numbers all path i [] end e j q high there found = omega (arith, high, length-drop i all, ap length end, slice_get_within all j q there)
nothing-found numbers all path i (p ∷ ps) from e j q high there found =
    let front = at_front all i p ps from in
    let none = elder-none numbers (found_at i p path) (find_from numbers (i + 1) ps path) e in
    elim (cases_lt i j) [
      | inl low ↦ nothing-found numbers all path (i + 1) ps front.1 none.1 j q (omega (arith, low)) there found
      | inr other ↦
          let same : i ≡ j = omega (arith, high, other) in
          let is : p ≡ q = same_Some p q (sym front.0 ∙ ap (slice_get all) same ∙ there) in
          subst IsFound (sym (ap (λ k. found_at k q path) same) ∙ sym (ap (λ r. found_at i r path) is) ∙ none.0) found
    ]

pub first-found : (numbers : List ℕ) (all : List PresentationValue) (path : List ℕ) (i : ℕ) (ps : List PresentationValue) → drop i all ≡ ps → IsFound (find_from numbers i ps path)
    → FirstAt numbers all i path (find_from numbers i ps path)
unfolding find_from
first-found numbers all path i [] end found = absurd found
first-found numbers all path i (p ∷ ps) from found =
    go (first-found numbers all path (i + 1) ps front.1) (is_less (number_found numbers rest) (number_found numbers here)) refl found where
      here : Found
      here = found_at i p path

      rest : Found
      rest = find_from numbers (i + 1) ps path

      front : (slice_get all i ≡ Some p) × (drop (i + 1) all ≡ ps)
      front = at_front all i p ps from

      -- what is said of the numbers of both
      numbers-less : (b : Bool) → (r : FirstAt numbers all (i + 1) path rest) → IsFound here → is_less (number_found numbers rest) (number_found numbers here) ≡ b
          → not (nat_le (number_at numbers i) (number_at numbers r.k)) ≡ b
      numbers-less b r is e =
          sym (ap (λ x. is_less x (number_found numbers here)) (found_at-number numbers r.k r.p path rest r.is r.found) ∙ ap (is_less (Some (number_at numbers r.k))) (found_at-number numbers i p path here refl is)) ∙ e

      later : (r : FirstAt numbers all (i + 1) path rest) → IsFound here → is_less (number_found numbers rest) (number_found numbers here) ≡ false → (j : ℕ) → i < j
          → (number_at numbers r.k < number_at numbers j) ⊎ ((number_at numbers r.k ≡ number_at numbers j) × (r.k ≤ j))
          → (number_at numbers i < number_at numbers j) ⊎ ((number_at numbers i ≡ number_at numbers j) × (i ≤ j))
      later r is e j low one =
          let up : number_at numbers i ≤ number_at numbers r.k = less_isnt (number_at numbers r.k) (number_at numbers i) (numbers-less false r is e) in
          let high : number_at numbers i ≤ number_at numbers j = elim one [
            | inl less ↦ omega (arith, up, less)
            | inr eq ↦ omega (arith, up, eq.0)
          ] in
          elim (cases_lt (number_at numbers i) (number_at numbers j)) [
            | inl less ↦ inl less
            | inr other ↦ inr (omega (arith, high, other), omega (arith, low))
          ]

      go : (IsFound rest → FirstAt numbers all (i + 1) path rest) → (b : Bool) → is_less (number_found numbers rest) (number_found numbers here) ≡ b → IsFound (cond b rest here)
          → FirstAt numbers all i path (cond b rest here)
      go more true e is =
          let r = more is in
          record {
            k = r.k;
            from = omega (arith, r.from);
            p = r.p;
            stands = r.stands;
            is = r.is;
            found = is;
            least = λ j q high there found. elim (cases_lt i j) [
              | inl low ↦ r.least j q (omega (arith, low)) there found
              | inr other ↦
                  let same : i ≡ j = omega (arith, high, other) in
                  let eq : p ≡ q = same_Some p q (sym front.0 ∙ ap (slice_get all) same ∙ there) in
                  let there_found : IsFound here = subst IsFound (sym (ap (λ k. found_at k q path) same) ∙ sym (ap (λ x. found_at i x path) eq)) found in
                  inl (subst (λ k. number_at numbers r.k < number_at numbers k) same (less_is (number_at numbers r.k) (number_at numbers i) (numbers-less true r there_found e)))
            ];
          }
      go more false e is = record {
        k = i;
        from = omega arith;
        p = p;
        stands = front.0;
        is = refl;
        found = is;
        least = λ j q high there found. elim (cases_lt i j) [
          | inl low ↦ elim (found_or rest) [
            | inl none ↦ absurd (nothing-found numbers all path (i + 1) ps front.1 none j q (omega (arith, low)) there found)
            | inr some ↦ let r = more some in later r is e j low (r.least j q (omega (arith, low)) there found)
          ]
          | inr other ↦
              let same : i ≡ j = omega (arith, high, other) in
              inr (ap (number_at numbers) same, omega (arith, same))
        ];
      }

-- ---- what it names

-- what is found of a presentation is what the path names, and where nothing is, it is no path of that
abbrev Here : TableValue → List ℕ → PresentationValue → Found → Type 0
Here table path p (Presentation i) = Names table path (Presentation i)
Here table path p (Track i j) = Names table path (Track i j)
Here table path p Nothing = IsElsewhere path p

here-names : (table : TableValue) (path : List ℕ) (i : ℕ) (p : PresentationValue) → slice_get table.presentations i ≡ Some p → Here table path p (found_at i p path)
here-names table path i p there = go (is_presentation_path p path) refl (position_from (is_track_path p path) 0 p.tracks) (places (is_track_path p path) p.tracks) where
  go : (b : Bool) → is_presentation_path p path ≡ b → (r : Option ℕ) → Places (is_track_path p path) p.tracks r → Here table path p (cond b (Presentation i) (track_found i r))
  go true bare r h = record { presentation = p; stands = there; path_is = presentation_path-true p path bare }
  go false other (Some j) h = record {
    presentation = p;
    track = h.element;
    stands = there;
    track_stands = h.stands;
    path_is = (bytes_eq-Decides path (track_path p h.element)).0 h.passes;
  }
  go false other None none = (presentation_path-false p path other, λ j t at is. false≢true (sym (none j t at) ∙ (bytes_eq-Decides path (track_path p t)).1 is))

-- what is found is what the path names
pub find_of-names : (table : TableValue) (path : List ℕ) → Names table path (find_of table path)
find_of-names table path = go (find_of table path) refl where
  first : IsFound (find_of table path) → FirstAt table.numbers table.presentations 0 path (find_of table path)
  first = first-found table.numbers table.presentations path 0 table.presentations refl

  named : (f : Found) → find_of table path ≡ f → (is : IsFound f) → (k : ℕ) × (p : PresentationValue) × (slice_get table.presentations k ≡ Some p) × (found_at k p path ≡ f)
  named f e is = let r = first (subst IsFound (sym e) is) in (r.k, r.p, r.stands, r.is ∙ e)

  go : (f : Found) → find_of table path ≡ f → Names table path f
  go (Presentation i) e = let r = named (Presentation i) e tt in subst (Here table path r.1) r.3 (here-names table path r.0 r.1 r.2)
  go (Track i j) e = let r = named (Track i j) e tt in subst (Here table path r.1) r.3 (here-names table path r.0 r.1 r.2)
  go Nothing e = λ k p there. none k p there (found_at k p path) refl (here-names table path k p there) where
    none : (k : ℕ) (p : PresentationValue) → slice_get table.presentations k ≡ Some p → (f : Found) → found_at k p path ≡ f → Here table path p f → IsElsewhere path p
    none k p there (Presentation i) is here = absurd (nothing-found table.numbers table.presentations path 0 table.presentations refl e k p (omega arith) there (subst IsFound (sym is) tt))
    none k p there (Track i j) is here = absurd (nothing-found table.numbers table.presentations path 0 table.presentations refl e k p (omega arith) there (subst IsFound (sym is) tt))
    none k p there Nothing is here = here
