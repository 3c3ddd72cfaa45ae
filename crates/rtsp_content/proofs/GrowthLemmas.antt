-- What a table that goes on leaves as it is.
use Rattle.std.proofs.Common.{◌≡◌, ◌∙◌, sym, refl, ap, subst, ℕ, zero, suc, ◌+◌, ◌<◌, ◌≤◌, Bool, true, false, cond, List, [], ◌∷◌, ◌++◌, Option, Some, None, slice_get, get_or, length, inl, inr, ◌⊎◌, arith, length-append}
use Rattle.std.specs.Prelude.{slice_set, Result, Ok, Err, OnOk}
use Rattle.std.specs.List.{position_from}
use Rattle.std.proofs.lemmas.Bool.{cases_lt, false≢true}
use Rattle.std.proofs.lemmas.Option.{slice_get_within, slice_get-get_or, same_Some}
use Rattle.rtsp_content.specs.declared.found.Found.{Found}
use Rattle.rtsp_content.specs.declared.found.Found.TheVariants.{Presentation, Track, Nothing}
use Rattle.rtsp_content.specs.declared.server.Server.{Server}
use Rattle.rtsp_content.specs.declared.standing.Standing.{Standing}
use Rattle.rtsp_content.specs.PresentationValue.{PresentationValue, presentation_names}
use Rattle.rtsp_content.specs.TableValue.{TableValue}
use Rattle.rtsp_content.specs.Numbers.{number_in, number_at}
use Rattle.rtsp_content.specs.Paths.{is_presentation_path, is_track_path, track_found, found_at, find_of}
use Rattle.rtsp_content.specs.Withdrawn.{is_gone, is_withdrawn, AreOfferedDistinct}
use Rattle.rtsp_content.specs.Growing.{IsFixed, StandsIn, IsSamePlace, IsAbove, IsNotBelow, Extends, is_free, GivesOnly, IsSameFound, IsOffered, Giving, Places, AreEven, IsGiven, Offers, OffersWhat, places_in, table_with, KeepsPlaces, FindsAlike, ExtendsChain}
use Rattle.rtsp_content.proofs.AgeLemmas.{IsFound, found_or}
use Rattle.rtsp_content.proofs.PathLemmas.{FirstAt, first-found, nothing-found}

pub keeps-places : KeepsPlaces
keeps-places old new x place p same e = x.stays place p e same

-- the number of a place never falls
not-less : (old new : TableValue) → Extends old new → (place : ℕ) → place < length old.presentations → number_at old.numbers place ≤ number_at new.numbers place
not-less old new x place low = elim (x.given place low) [
  | inl same ↦ omega (arith, same)
  | inr above ↦ let up = above place low in omega (arith, up)
]

pub extends-chain : ExtendsChain
extends-chain one two three x y = record {
  server = record {
    first_port = y.server.first_port ∙ x.server.first_port;
    pairs = y.server.pairs ∙ x.server.pairs;
    uplink = y.server.uplink ∙ x.server.uplink;
    sessions = y.server.sessions ∙ x.server.sessions;
    journal = y.server.journal ∙ x.server.journal;
    workers = y.server.workers ∙ x.server.workers;
  };
  places = omega (arith, x.places, y.places);
  stays = λ place p stands same.
      let low = slice_get_within one.presentations place p stands in
      let low' : place < length two.presentations = omega (arith, low, x.places) in
      let first = not-less one two x place low in
      let last = not-less two three y place low' in
      y.stays place p (x.stays place p stands (omega (arith, first, last, same))) (omega (arith, first, last, same));
  given = λ place low. elim (y.given place (omega (arith, low, x.places))) [
    | inr above ↦ inr (λ q low_q. let up = above q (omega (arith, low_q, x.places)) in let first = not-less one two x q low_q in omega (arith, up, first))
    | inl same ↦ elim (x.given place low) [
      | inl same' ↦ inl (same ∙ same')
      | inr above ↦ inr (λ q low_q. let up = above q low_q in omega (arith, up, same))
    ]
  ];
  behind = λ place high low. elim (cases_lt place (length two.presentations)) [
    | inl within ↦ λ q low_q. let up = x.behind place high within q low_q in let last = not-less two three y place within in omega (arith, up, last)
    | inr over ↦ λ q low_q. let up = y.behind place over low q (omega (arith, low_q, x.places)) in let first = not-less one two x q low_q in omega (arith, up, first)
  ];
}

-- ---- what a path names

-- the place of what is found is the same, and something is found
same-found : (old new : TableValue) (f : Found) → IsSameFound old new f → IsFound f
same-found old new (Presentation i) same = tt
same-found old new (Track i j) same = tt
same-found old new Nothing same = absurd same

same-at : (old new : TableValue) (path : List ℕ) (i : ℕ) (p : PresentationValue) (f : Found) → found_at i p path ≡ f → IsSameFound old new f → IsSamePlace old new i
same-at old new path i p f e same = go (is_presentation_path p path) (position_from (is_track_path p path) 0 p.tracks) e where
  go : (b : Bool) (r : Option ℕ) → cond b (Presentation i) (track_found i r) ≡ f → IsSamePlace old new i
  go true r e = subst (IsSameFound old new) (sym e) same
  go false (Some j) e = subst (IsSameFound old new) (sym e) same
  go false None e = absurd (subst (IsSameFound old new) (sym e) same)

-- of two each of which is none elder than the other both are one
one-place : (m n i j : ℕ) → (m < n) ⊎ ((m ≡ n) × (i ≤ j)) → (n < m) ⊎ ((n ≡ m) × (j ≤ i)) → i ≡ j
one-place m n i j (inl a) (inl b) = absurd (omega (arith, a, b))
one-place m n i j (inl a) (inr b) = absurd (omega (arith, a, b.0))
one-place m n i j (inr a) (inl b) = absurd (omega (arith, a.0, b))
one-place m n i j (inr a) (inr b) = omega (arith, a.1, b.1)

pub finds-alike : FindsAlike
finds-alike old new x path same = at_one where
  one : FirstAt old.numbers old.presentations 0 path (find_of old path)
  one = first-found old.numbers old.presentations path 0 old.presentations refl (same-found old new (find_of old path) same)

  stays_number : IsSamePlace old new one.k
  stays_number = same-at old new path one.k one.p (find_of old path) one.is same

  low : one.k < length old.presentations
  low = slice_get_within old.presentations one.k one.p one.stands

  still : StandsIn new.presentations one.p one.k
  still = x.stays one.k one.p one.stands stays_number

  is_found : IsFound (found_at one.k one.p path)
  is_found = subst IsFound (sym one.is) one.found

  found : IsFound (find_of new path)
  found = elim (found_or (find_of new path)) [
    | inl none ↦ absurd (nothing-found new.numbers new.presentations path 0 new.presentations refl none one.k one.p (omega arith) still is_found)
    | inr some ↦ some
  ]

  two : FirstAt new.numbers new.presentations 0 path (find_of new path)
  two = first-found new.numbers new.presentations path 0 new.presentations refl found

  is_found_two : IsFound (found_at two.k two.p path)
  is_found_two = subst IsFound (sym two.is) two.found

  back : (number_at new.numbers one.k < number_at new.numbers two.k) ⊎ ((number_at new.numbers one.k ≡ number_at new.numbers two.k) × (one.k ≤ two.k))
  back = elim (cases_lt two.k (length old.presentations)) [
    | inl within ↦ elim (x.given two.k within) [
      | inr above ↦ let up = above one.k low in inl (omega (arith, up, stays_number))
      | inl kept ↦
          let was = slice_get-get_or old.presentations two.k one.p within in
          let is : get_or old.presentations two.k one.p ≡ two.p = same_Some (get_or old.presentations two.k one.p) two.p (sym (x.stays two.k (get_or old.presentations two.k one.p) was kept) ∙ two.stands) in
          let there : StandsIn old.presentations two.p two.k = was ∙ ap Some is in
          elim (one.least two.k two.p (omega arith) there is_found_two) [
            | inl less ↦ inl (omega (arith, less, kept, stays_number))
            | inr eq ↦ inr (omega (arith, eq.0, kept, stays_number), eq.1)
          ]
    ]
    | inr over ↦
        let within_new = slice_get_within new.presentations two.k two.p two.stands in
        let up = x.behind two.k over within_new one.k low in
        elim (cases_lt (number_at new.numbers one.k) (number_at new.numbers two.k)) [
          | inl less ↦ inl less
          | inr high ↦ inr (omega (arith, up, high, stays_number), omega (arith, low, over))
        ]
  ]

  place : one.k ≡ two.k
  place = one-place (number_at new.numbers one.k) (number_at new.numbers two.k) one.k two.k back (two.least one.k one.p (omega arith) still is_found)

  at_one : find_of new path ≡ find_of old path
  at_one =
      let is : two.p ≡ one.p = same_Some two.p one.p (sym two.stands ∙ sym (ap (slice_get new.presentations) place) ∙ still) in
      sym two.is ∙ ap (λ p. found_at two.k p path) is ∙ sym (ap (λ k. found_at k one.p path) place) ∙ one.is
