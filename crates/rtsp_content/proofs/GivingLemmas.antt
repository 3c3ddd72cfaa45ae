-- What a table is made longer by.
use Rattle.std.proofs.Common.{◌≡◌, ◌∙◌, sym, refl, ap, subst, ℕ, zero, suc, ◌+◌, ◌<◌, ◌≤◌, Bool, true, false, cond, List, [], ◌∷◌, ◌++◌, Option, Some, None, slice_get, get_or, length, inl, inr, ◌⊎◌, arith, length-append}
use Rattle.std.specs.Prelude.{slice_set, Result, Ok, Err, OnOk}
use Rattle.std.specs.List.{position_from}
use Rattle.std.proofs.lemmas.Bool.{cases_lt, false≢true}
use Rattle.std.proofs.lemmas.Option.{slice_get_within, slice_get-get_or, same_Some}
use Rattle.rtsp_content.specs.declared.found.Found.{Found}
use Rattle.rtsp_content.specs.declared.found.Found.TheVariants.{Presentation, Track, Nothing}
use Rattle.rtsp_content.specs.declared.server.Server.{Server}
use Rattle.rtsp_content.specs.declared.standing.Standing.{Standing}
use Rattle.rtsp_content.specs.PresentationValue.{PresentationValue, presentation_names}
use Rattle.rtsp_content.specs.TableValue.{TableValue}
use Rattle.rtsp_content.specs.Numbers.{number_in, number_at}
use Rattle.rtsp_content.specs.Paths.{is_presentation_path, is_track_path, track_found, found_at, find_of}
use Rattle.rtsp_content.specs.Withdrawn.{is_gone, is_withdrawn, AreOfferedDistinct}
use Rattle.rtsp_content.specs.Growing.{IsFixed, StandsIn, IsSamePlace, IsAbove, IsNotBelow, Extends, is_free, GivesOnly, IsSameFound, IsOffered, Giving, Places, AreEven, IsGiven, Offers, OffersWhat, places_in, table_with, KeepsPlaces, FindsAlike, ExtendsChain}
use Rattle.rtsp_content.proofs.AgeLemmas.{IsFound, found_or}
use Rattle.rtsp_content.proofs.PathLemmas.{FirstAt, first-found, nothing-found}

-- two numbers are the same or not
same_or : (i j : ℕ) → (i ≡ j) ⊎ ¬ (i ≡ j)
same_or i j = elim (cases_lt i j) [
  | inl low ↦ inr (λ e. absurd (omega (arith, low, e)))
  | inr high ↦ elim (cases_lt j i) [
    | inl low ↦ inr (λ e. absurd (omega (arith, low, e)))
    | inr other ↦ inl (omega (arith, high, other))
  ]
]

-- one of the name at a place
record Named (ps : List PresentationValue) (i : ℕ) (name : List ℕ) : Type 0 where
  p : PresentationValue
  stands : slice_get ps i ≡ Some p
  is : p.name ≡ name

named-at : (ps : List PresentationValue) (i : ℕ) (name : List ℕ) → slice_get (presentation_names ps) i ≡ Some name → Named ps i name
named-at [] i name e = absurd cc
named-at (p ∷ ps) zero name e = record { p = p; stands = refl; is = cc }
named-at (p ∷ ps) (suc i) name e = let rest = named-at ps i name e in record { p = rest.p; stands = rest.stands; is = rest.is }

name-of : (ps : List PresentationValue) (i : ℕ) (p : PresentationValue) → slice_get ps i ≡ Some p → slice_get (presentation_names ps) i ≡ Some p.name
name-of [] i p e = absurd cc
name-of (q ∷ ps) zero p e = let same : q ≡ p = cc in ap (λ (x : PresentationValue). Some x.name) same
name-of (q ∷ ps) (suc i) p e = name-of ps i p e

-- where a presentation that is offered is among the first of those that are wanted
pub record Among (wanted : TableValue) (k : ℕ) (q : PresentationValue) : Type 0 where
  pub i : ℕ
  pub below : i < k
  pub stands : StandsIn wanted.presentations q i
  pub offered : is_withdrawn wanted.withdrawn i ≡ false

-- the first so many that are wanted are offered, and no others; what stood at places stands there, unless they were given to others
pub record Grown (old : TableValue) (giving : Giving) (wanted : TableValue) (k : ℕ) (now : Places) : Type 0 where
  pub even : AreEven now
  pub places : length old.presentations ≤ length now.presentations
  pub stays : (i : ℕ) (p : PresentationValue) → StandsIn old.presentations p i → number_at now.numbers i ≡ number_at old.numbers i → StandsIn now.presentations p i
  pub given : (i : ℕ) → i < length old.presentations → (number_at now.numbers i ≡ number_at old.numbers i) ⊎ IsGiven giving now i
  pub behind : (i : ℕ) → length old.presentations ≤ i → i < length now.presentations → giving.behind ≤ number_at now.numbers i
  pub all : (i : ℕ) (p : PresentationValue) → i < k → StandsIn wanted.presentations p i → is_withdrawn wanted.withdrawn i ≡ false → IsOffered now.presentations now.withdrawn p
  pub only : (j : ℕ) (q : PresentationValue) → StandsIn now.presentations q j → is_withdrawn now.withdrawn j ≡ false → Among wanted k q
  pub distinct : AreOfferedDistinct now.withdrawn (presentation_names now.presentations)

-- the number that is given is above all of the old table, and that of what is behind is below none
pub record IsYounger (old : TableValue) (giving : Giving) : Type 0 where
  pub given : IsAbove old giving.number
  pub behind : IsNotBelow old giving.behind
  pub above : giving.behind ≤ giving.number

pub younger-than : (old : TableValue) (free : List Bool) (numbers : List ℕ) (behind given : ℕ) → numbers ≡ old.numbers → ((p : ℕ) → number_at numbers p ≤ behind) → behind < given
    → IsYounger old (record { free = free; number = given; behind = behind })
younger-than old free numbers behind given is newest more = record {
  given = λ p low. let up = all p in omega (arith, up, more);
  behind = λ p low. all p;
  above = omega (arith, more);
} where
  all : (p : ℕ) → number_at old.numbers p ≤ behind
  all p = subst (λ ns. number_at ns p ≤ behind) is (newest p)

pub grown-start : (old : TableValue) (giving : Giving) (wanted : TableValue) (now : Places) → now.presentations ≡ old.presentations → AreEven now
    → ((i : ℕ) → i < length old.presentations → is_withdrawn now.withdrawn i ≡ true) → ((i : ℕ) → i < length old.presentations → number_at now.numbers i ≡ number_at old.numbers i)
    → Grown old giving wanted 0 now
grown-start old giving wanted now is even gone numbers = record {
  even = even;
  places = omega (arith, ap length is);
  stays = λ i p stands same. ap (λ ps. slice_get ps i) is ∙ stands;
  given = λ i low. inl (numbers i low);
  behind = λ i high low. absurd (omega (arith, high, low, ap length is));
  all = λ i p low stands offered. absurd (omega (arith, low));
  only = λ j q stands offered. absurd (none j q stands offered);
  distinct = λ i j name at_i at_j off_i off_j. let it = named-at now.presentations i name at_i in absurd (none i it.p it.stands off_i);
} where
  none : (j : ℕ) (q : PresentationValue) → StandsIn now.presentations q j → is_withdrawn now.withdrawn j ≡ false → ⊥
  none j q stands offered =
      let low = slice_get_within now.presentations j q stands in
      false≢true (sym offered ∙ gone j (omega (arith, low, ap length is)))

later : (wanted : TableValue) (k : ℕ) (q : PresentationValue) → Among wanted k q → Among wanted (k + 1) q
later wanted k q it = record { i = it.i; below = omega (arith, it.below); stands = it.stands; offered = it.offered }

-- one that is withdrawn there is left out
pub grown-skip : (old : TableValue) (giving : Giving) (wanted : TableValue) (k : ℕ) (now : Places) → Grown old giving wanted k now
    → is_withdrawn wanted.withdrawn k ≡ true → Grown old giving wanted (k + 1) now
grown-skip old giving wanted k now it gone = record {
  even = it.even;
  places = it.places;
  stays = it.stays;
  given = it.given;
  behind = it.behind;
  all = λ i p low stands offered. elim (same_or i k) [
    | inl same ↦ absurd (false≢true (sym offered ∙ ap (is_withdrawn wanted.withdrawn) same ∙ gone))
    | inr other ↦ it.all i p (omega (arith, low, other)) stands offered
  ];
  only = λ j q stands offered. later wanted k q (it.only j q stands offered);
  distinct = it.distinct;
}

-- one more is offered
pub grown-offer : (old : TableValue) (giving : Giving) (wanted : TableValue) (k : ℕ) (now : Places) (p : PresentationValue) (new : Places) → IsYounger old giving
    → AreOfferedDistinct wanted.withdrawn (presentation_names wanted.presentations) → Grown old giving wanted k now → StandsIn wanted.presentations p k → is_withdrawn wanted.withdrawn k ≡ false
    → Offers giving now p new → Grown old giving wanted (k + 1) new
grown-offer old giving wanted k now p new younger apart it here on step = record {
  even = step.even;
  places = omega (arith, it.places, step.places);
  stays = λ i q stands same.
      let low = slice_get_within old.presentations i q stands in
      elim (step.given i (omega (arith, low, it.places))) [
        | inr given ↦ absurd (number-given i low given same)
        | inl kept ↦ elim (step.keep i q (it.stays i q stands (sym kept ∙ same))) [
          | inl stands' ↦ stands'
          | inr given ↦ absurd (number-given i low given same)
        ]
      ];
  given = λ i low. elim (step.given i (omega (arith, low, it.places))) [
    | inr given ↦ inr given
    | inl kept ↦ elim (it.given i low) [
      | inl same ↦ inl (kept ∙ same)
      | inr given ↦ inr (given.0, kept ∙ given.1)
    ]
  ];
  behind = λ i high low. elim (cases_lt i (length now.presentations)) [
    | inr over ↦ let at = step.behind i over low in omega (arith, at)
    | inl within ↦ elim (step.given i within) [
      | inr given ↦ omega (arith, given.1, younger.above)
      | inl kept ↦ let up = it.behind i high within in omega (arith, up, kept)
    ]
  ];
  all = λ i q low stands offered. elim (same_or i k) [
    | inl same ↦ subst (IsOffered new.presentations new.withdrawn) (is_it i q same stands) (step.place, step.stands, step.offered)
    | inr other ↦ let was = it.all i q (omega (arith, low, other)) stands offered in let is = step.stay was.0 q was.1 was.2 in (was.0, is.0, is.1)
  ];
  only = λ j q stands offered. elim (same_or j step.place) [
    | inl same ↦ record { i = k; below = omega arith; stands = subst (λ x. StandsIn wanted.presentations x k) (same_Some p q (sym step.stands ∙ ap (slice_get new.presentations) (sym same) ∙ stands)) here; offered = on }
    | inr other ↦ let was = step.others j q other stands offered in later wanted k q (it.only j q was.0 was.1)
  ];
  distinct = λ i j name at_i at_j off_i off_j.
      let one = named-at new.presentations i name at_i in
      let two = named-at new.presentations j name at_j in
      elim (same_or i step.place) [
        | inl same_i ↦ elim (same_or j step.place) [
          | inl same_j ↦ same_i ∙ sym same_j
          | inr other_j ↦ absurd (clash two.p (is_p i one.p same_i one.stands name one.is ∙ sym two.is) (let was = step.others j two.p other_j two.stands off_j in it.only j two.p was.0 was.1))
        ]
        | inr other_i ↦ elim (same_or j step.place) [
          | inl same_j ↦ absurd (clash one.p (is_p j two.p same_j two.stands name two.is ∙ sym one.is) (let was = step.others i one.p other_i one.stands off_i in it.only i one.p was.0 was.1))
          | inr other_j ↦
              let was_i = step.others i one.p other_i one.stands off_i in
              let was_j = step.others j two.p other_j two.stands off_j in
              it.distinct i j name (name-of now.presentations i one.p was_i.0 ∙ ap Some one.is) (name-of now.presentations j two.p was_j.0 ∙ ap Some two.is) was_i.1 was_j.1
        ]
      ];
} where
  number-given : (i : ℕ) → i < length old.presentations → IsGiven giving new i → number_at new.numbers i ≡ number_at old.numbers i → ⊥
  number-given i low given same = let up = younger.given i low in omega (arith, up, given.1, same)

  is_it : (i : ℕ) (q : PresentationValue) → i ≡ k → StandsIn wanted.presentations q i → p ≡ q
  is_it i q same stands = same_Some p q (sym here ∙ ap (slice_get wanted.presentations) (sym same) ∙ stands)

  is_p : (i : ℕ) (q : PresentationValue) → i ≡ step.place → slice_get new.presentations i ≡ Some q → (name : List ℕ) → q.name ≡ name → p.name ≡ name
  is_p i q same stands name is = ap (λ (x : PresentationValue). x.name) (same_Some p q (sym step.stands ∙ ap (slice_get new.presentations) (sym same) ∙ stands)) ∙ is

  clash : (q : PresentationValue) → p.name ≡ q.name → Among wanted k q → ⊥
  clash q same found =
      let at : k ≡ found.i = apart k found.i q.name (name-of wanted.presentations k p here ∙ ap Some same) (name-of wanted.presentations found.i q found.stands) on found.offered in
      omega (arith, found.below, at)

pub grown-end : (old : TableValue) (giving : Giving) (wanted : TableValue) (k : ℕ) (now : Places) → length wanted.presentations ≤ k → Grown old giving wanted k now
    → OffersWhat wanted now.presentations now.withdrawn
grown-end old giving wanted k now high it = λ p. (
  λ offered. it.all offered.0 p (omega (arith, high, slice_get_within wanted.presentations offered.0 p offered.1)) offered.1 offered.2,
  λ offered. let found = it.only offered.0 p offered.1 offered.2 in (found.i, found.stands, found.offered),
)

-- a table that has grown so goes on
pub grown-extends : (old : TableValue) (giving : Giving) (wanted : TableValue) (k : ℕ) (s : Standing) → IsYounger old giving → Grown old giving wanted k (places_in s)
    → (server : Server) → IsFixed old.server server → Extends old (table_with server s)
grown-extends old giving wanted k s younger it server fixed = record {
  server = fixed;
  places = it.places;
  stays = it.stays;
  given = λ i low. elim (it.given i low) [
    | inl same ↦ inl same
    | inr given ↦ inr (λ q low_q. let up = younger.given q low_q in omega (arith, up, given.1))
  ];
  behind = λ i high low q low_q. let up = younger.behind q low_q in let is = it.behind i high low in omega (arith, up, is);
}

-- it gives only what is free
pub grown-gives : (old : TableValue) (giving : Giving) (free : List Bool) (wanted : TableValue) (k : ℕ) (s : Standing) (server : Server)
    → ((i : ℕ) → is_free giving.free i ≡ true → (is_free free i ≡ true) × (is_withdrawn old.withdrawn i ≡ true))
    → Grown old giving wanted k (places_in s) → GivesOnly old free (table_with server s)
grown-gives old giving free wanted k s server may it i low = elim (it.given i low) [
  | inl same ↦ inl same
  | inr given ↦ inr (may i given.0)
]

-- ---- one step

length-slice_set : {X : Type 0} (xs : List X) (i : ℕ) (b : X) → length (slice_set xs i b) ≡ length xs
length-slice_set [] i b = refl
length-slice_set (x ∷ xs) zero b = refl
length-slice_set (x ∷ xs) (suc i) b = ap suc (length-slice_set xs i b)

get-slice_set : {X : Type 0} (xs : List X) (i : ℕ) (b : X) → i < length xs → slice_get (slice_set xs i b) i ≡ Some b
get-slice_set [] i b low = absurd (omega (arith, low))
get-slice_set (x ∷ xs) zero b low = refl
get-slice_set (x ∷ xs) (suc i) b low = get-slice_set xs i b (omega (arith, low))

get-other : {X : Type 0} (xs : List X) (i j : ℕ) (b : X) → ¬ (j ≡ i) → slice_get (slice_set xs i b) j ≡ slice_get xs j
get-other [] i j b n = refl
get-other (x ∷ xs) zero zero b n = absurd (n refl)
get-other (x ∷ xs) zero (suc j) b n = refl
get-other (x ∷ xs) (suc i) zero b n = refl
get-other (x ∷ xs) (suc i) (suc j) b n = get-other xs i j b (λ e. n (ap suc e))

-- what stands there is offered
pub offers-there : (giving : Giving) (old : Places) (p : PresentationValue) (place : ℕ) → AreEven old → StandsIn old.presentations p place
    → Offers giving old p (record { presentations = old.presentations; withdrawn = slice_set old.withdrawn place false; numbers = old.numbers })
offers-there giving old p place even stands = record {
  even = record { withdrawn = length-slice_set old.withdrawn place false ∙ even.withdrawn; numbers = even.numbers };
  place = place;
  stands = stands;
  offered = ap is_gone (get-slice_set old.withdrawn place false (omega (arith, slice_get_within old.presentations place p stands, even.withdrawn)));
  others = λ i q other at on. (at, ap is_gone (sym (get-other old.withdrawn place i false other)) ∙ on);
  stay = λ i q at on. elim (same_or i place) [
    | inl same ↦ (at, ap (λ j. is_withdrawn (slice_set old.withdrawn place false) j) same ∙ ap is_gone (get-slice_set old.withdrawn place false (omega (arith, slice_get_within old.presentations place p stands, even.withdrawn))))
    | inr other ↦ (at, ap is_gone (get-other old.withdrawn place i false other) ∙ on)
  ];
  keep = λ i q at. inl at;
  places = omega arith;
  given = λ i low. inl refl;
  behind = λ i high low. absurd (omega (arith, high, low));
}

-- what is given a place is offered there
pub offers-given : (giving : Giving) (old : Places) (p : PresentationValue) (place : ℕ) → AreEven old → place < length old.withdrawn → is_withdrawn old.withdrawn place ≡ true → is_free giving.free place ≡ true
    → Offers giving old p (record { presentations = slice_set old.presentations place p; withdrawn = slice_set old.withdrawn place false; numbers = slice_set old.numbers place giving.number })
offers-given giving old p place even low gone free = record {
  even = record {
    withdrawn = length-slice_set old.withdrawn place false ∙ even.withdrawn ∙ sym (length-slice_set old.presentations place p);
    numbers = length-slice_set old.numbers place giving.number ∙ even.numbers ∙ sym (length-slice_set old.presentations place p);
  };
  place = place;
  stands = get-slice_set old.presentations place p (omega (arith, low, even.withdrawn));
  offered = ap is_gone (get-slice_set old.withdrawn place false low);
  others = λ i q other at on. (sym (get-other old.presentations place i p other) ∙ at, ap is_gone (sym (get-other old.withdrawn place i false other)) ∙ on);
  stay = λ i q at on. elim (same_or i place) [
    | inl same ↦ absurd (false≢true (sym on ∙ ap (is_withdrawn old.withdrawn) same ∙ gone))
    | inr other ↦ (get-other old.presentations place i p other ∙ at, ap is_gone (get-other old.withdrawn place i false other) ∙ on)
  ];
  keep = λ i q at. elim (same_or i place) [
    | inl same ↦ inr (there i same)
    | inr other ↦ inl (get-other old.presentations place i p other ∙ at)
  ];
  places = omega (arith, length-slice_set old.presentations place p);
  given = λ i low. elim (same_or i place) [
    | inl same ↦ inr (there i same)
    | inr other ↦ inl (ap number_in (get-other old.numbers place i giving.number other))
  ];
  behind = λ i high low. absurd (omega (arith, high, low, length-slice_set old.presentations place p));
} where
  there : (i : ℕ) → i ≡ place → (is_free giving.free i ≡ true) × (number_at (slice_set old.numbers place giving.number) i ≡ giving.number)
  there i same = (
    ap (is_free giving.free) same ∙ free,
    ap (number_at (slice_set old.numbers place giving.number)) same ∙ ap number_in (get-slice_set old.numbers place giving.number (omega (arith, low, even.withdrawn, even.numbers))),
  )

get-end : {X : Type 0} (xs : List X) (x : X) (n : ℕ) → n ≡ length xs → slice_get (xs ++ x ∷ []) n ≡ Some x
get-end [] x n e = rw e refl
get-end (y ∷ xs) x zero e = absurd (omega (arith, e))
get-end (y ∷ xs) x (suc n) e = get-end xs x n (omega (arith, e))

-- behind the end of a list with one more nothing stands
get-before : {X : Type 0} (xs : List X) (x : X) (i : ℕ) (q : X) → ¬ (i ≡ length xs) → slice_get (xs ++ x ∷ []) i ≡ Some q → slice_get xs i ≡ Some q
get-before [] x zero q n e = absurd (n refl)
get-before [] x (suc i) q n e = absurd cc
get-before (y ∷ xs) x zero q n e = e
get-before (y ∷ xs) x (suc i) q n e = get-before xs x i q (λ s. n (ap suc s)) e

-- before that end the same stands
get-front : {X : Type 0} (xs : List X) (x : X) (i : ℕ) → i < length xs → slice_get (xs ++ x ∷ []) i ≡ slice_get xs i
get-front [] x i low = absurd (omega (arith, low))
get-front (y ∷ xs) x zero low = refl
get-front (y ∷ xs) x (suc i) low = get-front xs x i (omega (arith, low))

-- what is put behind all others is offered
pub offers-behind : (giving : Giving) (old : Places) (p : PresentationValue) → AreEven old
    → Offers giving old p (record { presentations = old.presentations ++ p ∷ []; withdrawn = old.withdrawn ++ false ∷ []; numbers = old.numbers ++ giving.behind ∷ [] })
offers-behind giving old p even = record {
  even = record {
    withdrawn = omega (arith, length-append old.withdrawn (false ∷ []), longer, even.withdrawn);
    numbers = omega (arith, length-append old.numbers (giving.behind ∷ []), longer, even.numbers);
  };
  place = length old.presentations;
  stands = get-end old.presentations p (length old.presentations) refl;
  offered = ap is_gone (get-end old.withdrawn false (length old.presentations) (sym even.withdrawn));
  others = λ i q other at on.
      let before = get-before old.presentations p i q other at in
      (before, sym (ap is_gone (get-front old.withdrawn false i (omega (arith, slice_get_within old.presentations i q before, even.withdrawn)))) ∙ on);
  stay = λ i q at on.
      let low = slice_get_within old.presentations i q at in
      (get-front old.presentations p i low ∙ at, ap is_gone (get-front old.withdrawn false i (omega (arith, low, even.withdrawn))) ∙ on);
  keep = λ i q at. inl (get-front old.presentations p i (slice_get_within old.presentations i q at) ∙ at);
  places = omega (arith, longer);
  given = λ i low. inl (ap number_in (get-front old.numbers giving.behind i (omega (arith, low, even.numbers))));
  behind = λ i high low. ap number_in (get-end old.numbers giving.behind i (omega (arith, high, low, longer, even.numbers)));
} where
  longer : length (old.presentations ++ p ∷ []) ≡ length old.presentations + 1
  longer = length-append old.presentations (p ∷ [])

-- one more is said to be free, or isn't
pub free-more : (vs : List Bool) (b : Bool) (P : ℕ → Type 0) → ((i : ℕ) → is_free vs i ≡ true → P i) → (b ≡ true → P (length vs)) → (i : ℕ) → is_free (vs ++ b ∷ []) i ≡ true → P i
free-more vs b P before here i e = elim (cases_lt i (length vs)) [
  | inl low ↦ before i (sym (ap is_gone (get-front vs b i low)) ∙ e)
  | inr high ↦ elim (same_or i (length vs)) [
    | inl same ↦ subst P (sym same) (here (sym (ap is_gone (get-end vs b i same)) ∙ e))
    | inr other ↦ before i (sym (ap is_gone (get-beyond vs b i (omega (arith, high, other)))) ∙ e)
  ]
] where
  get-beyond : {X : Type 0} (xs : List X) (x : X) (i : ℕ) → length xs < i → slice_get (xs ++ x ∷ []) i ≡ slice_get xs i
  get-beyond [] x zero high = absurd (omega (arith, high))
  get-beyond [] x (suc i) high = refl
  get-beyond (y ∷ xs) x zero high = absurd (omega (arith, high))
  get-beyond (y ∷ xs) x (suc i) high = get-beyond xs x i (omega (arith, high))

-- ---- the same, of a call that is done or isn't

abbrev places_of : List PresentationValue → List Bool → List ℕ → Places
places_of ps ws ns = record { presentations = ps; withdrawn = ws; numbers = ns }

same-places : (new : Standing) (ps : List PresentationValue) (ws : List Bool) (ns : List ℕ) → new.presentations.items ≡ ps → new.withdrawn.items ≡ ws → new.numbers.items ≡ ns
    → places_in new ≡ places_of ps ws ns
same-places new ps ws ns a b c = ap (λ x. places_of x new.withdrawn.items new.numbers.items) a ∙ ap (λ x. places_of ps x new.numbers.items) b ∙ ap (λ x. places_of ps ws x) c

pub offers-then : {E : Type 0} (r : Result (Unit {0}) E) (giving : Giving) (old : Places) (p : PresentationValue) (new : Standing) (ps : List PresentationValue) (ws : List Bool) (ns : List ℕ)
    → OnOk r (new.presentations.items ≡ ps) → OnOk r (new.withdrawn.items ≡ ws) → OnOk r (new.numbers.items ≡ ns)
    → Offers giving old p (record { presentations = ps; withdrawn = ws; numbers = ns }) → OnOk r (Offers giving old p (places_in new))
offers-then (Ok x) giving old p new ps ws ns a b c it = subst (Offers giving old p) (sym (same-places new ps ws ns a b c)) it
offers-then (Err e) giving old p new ps ws ns a b c it = tt
