-- Which of what is found has stood at its place for the longest.
use Rattle.std.proofs.Common.{◌≡◌, ◌∙◌, ap, sym, refl, ℕ, ◌<◌, ◌≤◌, Bool, true, false, cond, List, Option, None, Some, arith, subst, inl, inr, ◌⊎◌}
use Rattle.std.specs.Prelude.{not, nat_le, nat_eq}
use Rattle.std.specs.List.{position_from}
use Rattle.std.specs.Option.{option_eq}
use Rattle.std.proofs.lemmas.Bool.{leb-true, leb-false, le-leb, eqb-true}
use Rattle.rtsp_content.specs.declared.found.Found.{Found}
use Rattle.rtsp_content.specs.declared.found.Found.TheVariants.{Presentation, Track, Nothing}
use Rattle.rtsp_content.specs.Numbers.{number_at}
use Rattle.rtsp_content.specs.PresentationValue.{PresentationValue}
use Rattle.rtsp_content.specs.Paths.{is_presentation_path, is_track_path, track_found, found_at, number_found, is_less, elder}

-- ---- numbers

pub less_is : (a b : ℕ) → not (nat_le b a) ≡ true → a < b
less_is a b e = go (nat_le b a) refl e where
  go : (t : Bool) → nat_le b a ≡ t → not t ≡ true → a < b
  go true h e = absurd cc
  go false h e = leb-false b a h

pub less_isnt : (a b : ℕ) → not (nat_le b a) ≡ false → b ≤ a
less_isnt a b e = go (nat_le b a) refl e where
  go : (t : Bool) → nat_le b a ≡ t → not t ≡ false → b ≤ a
  go true h e = leb-true b a h
  go false h e = absurd cc

is_lt : (a b : ℕ) → a < b → not (nat_le b a) ≡ true
is_lt a b low = go (nat_le b a) refl where
  go : (t : Bool) → nat_le b a ≡ t → not (nat_le b a) ≡ true
  go true h = absurd (omega (arith, low, leb-true b a h))
  go false h = ap not h

isnt_lt : (a b : ℕ) → b ≤ a → not (nat_le b a) ≡ false
isnt_lt a b high = ap not (le-leb b a high)

less_trans : (x y z : Option ℕ) → is_less x y ≡ true → is_less y z ≡ true → is_less x z ≡ true
less_trans (Some a) (Some b) (Some c) e f = is_lt a c (omega (arith, less_is a b e, less_is b c f))
less_trans (Some a) (Some b) None e f = refl
less_trans (Some a) None z e f = absurd cc
less_trans None y z e f = absurd cc

less_back : (x y z : Option ℕ) → is_less y x ≡ false → is_less z y ≡ false → is_less z x ≡ false
less_back x y None e f = refl
less_back (Some a) (Some b) (Some c) e f = isnt_lt c a (omega (arith, less_isnt b a e, less_isnt c b f))
less_back (Some a) None (Some c) e f = absurd cc
less_back None (Some b) (Some c) e f = absurd cc
less_back None None (Some c) e f = absurd cc

none_less : (x : Option ℕ) → is_less x (Some 0) ≡ false
none_less (Some a) = isnt_lt a 0 (omega arith)
none_less None = refl

-- ---- the elder of two

pub elder-assoc : (numbers : List ℕ) (f g h : Found) → elder numbers (elder numbers f g) h ≡ elder numbers f (elder numbers g h)
elder-assoc numbers f g h = go (is_less (key g) (key f)) refl (is_less (key h) (key g)) refl where
  key : Found → Option ℕ
  key x = number_found numbers x

  go : (a : Bool) → is_less (key g) (key f) ≡ a → (b : Bool) → is_less (key h) (key g) ≡ b → elder numbers (cond a g f) h ≡ elder numbers f (cond b h g)
  go true e1 true e2 = rw (e2, less_trans (key h) (key g) (key f) e2 e1) refl
  go true e1 false e2 = rw (e2, e1) refl
  go false e1 true e2 = refl
  go false e1 false e2 = rw (less_back (key f) (key g) (key h) e1 e2, e1) refl

pub elder-nothing : (numbers : List ℕ) (f : Found) → elder numbers Nothing f ≡ f
elder-nothing numbers (Presentation i) = refl
elder-nothing numbers (Track i j) = refl
elder-nothing numbers Nothing = refl

pub elder-alone : (numbers : List ℕ) (f : Found) → elder numbers f Nothing ≡ f
elder-alone numbers (Presentation i) = refl
elder-alone numbers (Track i j) = refl
elder-alone numbers Nothing = refl

pub is_none_younger : (x : Option ℕ) → option_eq nat_eq x (Some 0) ≡ true → x ≡ Some 0
is_none_younger (Some n) e = ap Some (eqb-true n 0 e)
is_none_younger None e = absurd cc

-- none is elder than what was never given to another
pub eldest : (numbers : List ℕ) (f g : Found) → number_found numbers f ≡ Some 0 → elder numbers f g ≡ f
eldest numbers f g e = rw (e, none_less (number_found numbers g)) refl

-- ---- what is found

abbrev pub IsFound : Found → Type 0
IsFound (Presentation i) = Unit {0}
IsFound (Track i j) = Unit {0}
IsFound Nothing = ⊥

pub found_or : (f : Found) → (f ≡ Nothing) ⊎ IsFound f
found_or (Presentation i) = inr tt
found_or (Track i j) = inr tt
found_or Nothing = inl refl

pub found_at-number : (numbers : List ℕ) (i : ℕ) (p : PresentationValue) (path : List ℕ) (f : Found) → found_at i p path ≡ f → IsFound f → number_found numbers f ≡ Some (number_at numbers i)
found_at-number numbers i p path f e is = go (is_presentation_path p path) (position_from (is_track_path p path) 0 p.tracks) e where
  go : (b : Bool) (r : Option ℕ) → cond b (Presentation i) (track_found i r) ≡ f → number_found numbers f ≡ Some (number_at numbers i)
  go true r e = ap (number_found numbers) (sym e)
  go false (Some j) e = ap (number_found numbers) (sym e)
  go false None e = absurd (subst IsFound (sym e) is)

pub elder-none : (numbers : List ℕ) (f g : Found) → elder numbers f g ≡ Nothing → (f ≡ Nothing) × (g ≡ Nothing)
elder-none numbers Nothing g e = (refl, sym (elder-nothing numbers g) ∙ e)
elder-none numbers (Presentation i) g e = go g (is_less (number_found numbers g) (number_found numbers (Presentation i))) refl e where
  go : (g : Found) (b : Bool) → is_less (number_found numbers g) (number_found numbers (Presentation i)) ≡ b → cond b g (Presentation i) ≡ Nothing → (Presentation i ≡ Nothing) × (g ≡ Nothing)
  go (Presentation k) true h e = absurd cc
  go (Track k j) true h e = absurd cc
  go Nothing true h e = absurd cc
  go g false h e = absurd cc
elder-none numbers (Track i t) g e = go g (is_less (number_found numbers g) (number_found numbers (Track i t))) refl e where
  go : (g : Found) (b : Bool) → is_less (number_found numbers g) (number_found numbers (Track i t)) ≡ b → cond b g (Track i t) ≡ Nothing → (Track i t ≡ Nothing) × (g ≡ Nothing)
  go (Presentation k) true h e = absurd cc
  go (Track k j) true h e = absurd cc
  go Nothing true h e = absurd cc
  go g false h e = absurd cc
