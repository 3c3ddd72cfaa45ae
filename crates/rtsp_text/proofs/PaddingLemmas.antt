-- A text has one core.
use Rattle.std.proofs.Common.{◌≡◌, ℕ, ◌+◌, ◌-◌, ◌<◌, ◌≤◌, List, [], ◌∷◌, ◌++◌, length, get_or, take, drop, refl, sym, ap, subst, ◌∙◌, arith, true, false}
use Rattle.std.specs.Prelude.{reverse}
use Rattle.std.specs.List.{list_all, prefix_len, suffix_len}
use Rattle.std.proofs.lemmas.List.{take_at, drop_at, append-nil, length-append, get_or_append_left, get_or-append_right, take-append-drop, length-take, get_or-drop, get_or-take, length-drop, get_or-reverse, length-reverse}
use Rattle.std.proofs.lemmas.List.Sums.{prefix_len_is, suffix_len_is, prefix_len_passes, prefix_len_stops, prefix_len-le-length}
use Rattle.rtsp_text.specs.Bytes.{is_blank}
use Rattle.rtsp_text.specs.Trim.{trim_start, trim_end, trimmed, HasPlainEnds, IsPadded}
use Rattle.rtsp_text.proofs.ByteLemmas.{all_get, all_from_get, all_joined}

-- blanks behind a text go
pub trim_end_pad : (xs pad : List ℕ) → list_all is_blank pad ≡ true → (0 < length xs → is_blank (get_or xs (length xs - 1) 0) ≡ false) → trim_end (xs ++ pad) ≡ xs
trim_end_pad xs pad blank last =
    let n : suffix_len is_blank (xs ++ pad) ≡ length (xs ++ pad) - length xs =
    suffix_len_is is_blank (xs ++ pad) (length xs) 0 (omega (arith, length-append xs pad))
    (λ k le lt. rw (get_or-append_right xs pad (length xs) k 0 refl le) (all_get is_blank pad (k - length xs) blank (omega (arith, length-append xs pad))))
    (λ lt. rw (get_or_append_left xs pad 0 (length xs - 1) (omega arith)) (last lt)) in
    ap (λ (k : ℕ). take k (xs ++ pad)) (omega (arith, length-append xs pad)) ∙ take_at xs pad (length xs) refl

-- and so do blanks in front of it
pub trim_start_pad : (pad xs : List ℕ) → list_all is_blank pad ≡ true → (0 < length xs → is_blank (get_or xs 0 0) ≡ false) → trim_start (pad ++ xs) ≡ xs
trim_start_pad pad xs blank first =
    let n : prefix_len is_blank (pad ++ xs) ≡ length pad =
    prefix_len_is is_blank (pad ++ xs) (length pad) 0 (omega (arith, length-append pad xs))
    (λ k lt. rw (get_or_append_left pad xs 0 k lt) (all_get is_blank pad k blank lt))
    (λ lt. rw (get_or-append_right pad xs (length pad) (length pad) 0 refl (omega arith)) (let z : length pad - length pad ≡ 0 = omega arith in rw z (first (omega (arith, length-append pad xs))))) in
    ap (λ (k : ℕ). drop k (pad ++ xs)) n ∙ drop_at pad xs (length pad) refl

pub core_trimmed : (before core behind : List ℕ) → HasPlainEnds core → list_all is_blank before ≡ true → list_all is_blank behind ≡ true → trim_end (trim_start (before ++ (core ++ behind))) ≡ core
core_trimmed before [] behind ends a b =
    let none : trim_start (before ++ behind) ≡ [] = ap trim_start (sym (append-nil (before ++ behind))) ∙ trim_start_pad (before ++ behind) [] (all_joined is_blank before behind a b) (λ lt. absurd (omega arith)) in
    rw none refl
core_trimmed before (x ∷ core) behind ends a b =
    let s : trim_start (before ++ ((x ∷ core) ++ behind)) ≡ (x ∷ core) ++ behind = trim_start_pad before ((x ∷ core) ++ behind) a (λ lt. ends.first (omega arith)) in
    rw s (trim_end_pad (x ∷ core) behind b ends.last)

pub padded_only : (text core : List ℕ) → IsPadded text core → trimmed text ≡ core
unfolding trimmed
padded_only text core p = ap (λ (t : List ℕ). trim_end (trim_start t)) p.parts ∙ core_trimmed p.before core p.behind p.ends p.before_blank p.behind_blank

pub front_blank : (xs : List ℕ) → list_all is_blank (take (prefix_len is_blank xs) xs) ≡ true
front_blank xs = all_from_get is_blank (take (prefix_len is_blank xs) xs) (λ i lt.
    let below : i < prefix_len is_blank xs = omega (arith, length-take (prefix_len is_blank xs) xs) in
    rw (get_or-take (prefix_len is_blank xs) xs i 0 below) (prefix_len_passes is_blank xs i 0 below))

pub after_front : (xs : List ℕ) → 0 < length (trim_start xs) → is_blank (get_or (trim_start xs) 0 0) ≡ false
after_front xs lt =
    let short : prefix_len is_blank xs < length xs = omega (arith, length-drop (prefix_len is_blank xs) xs) in
    rw (get_or-drop (prefix_len is_blank xs) xs 0 0) (let z : prefix_len is_blank xs + 0 ≡ prefix_len is_blank xs = omega arith in rw z (prefix_len_stops is_blank xs 0 short))

-- how many bytes are left of a text without the blanks behind it
abbrev pub kept : List ℕ → ℕ
kept xs = length xs - suffix_len is_blank xs

suffix_short : (xs : List ℕ) → suffix_len is_blank xs ≤ length xs
suffix_short xs = omega (arith, prefix_len-le-length is_blank (reverse xs), length-reverse xs)

pub back_blank : (xs : List ℕ) → list_all is_blank (drop (kept xs) xs) ≡ true
back_blank xs = all_from_get is_blank (drop (kept xs) xs) (λ i lt.
    let s = suffix_short xs in
    let at : kept xs + i < length xs = omega (arith, length-drop (kept xs) xs) in
    let there : length xs - 1 - (kept xs + i) < prefix_len is_blank (reverse xs) = omega arith in
    let same : length xs - 1 - (length xs - 1 - (kept xs + i)) ≡ kept xs + i = omega arith in
    let e : get_or (reverse xs) (length xs - 1 - (kept xs + i)) 0 ≡ get_or xs (length xs - 1 - (length xs - 1 - (kept xs + i))) 0 = get_or-reverse xs (length xs - 1 - (kept xs + i)) 0 (omega arith) in
    rw get_or-drop (subst (λ (k : ℕ). is_blank (get_or xs k 0) ≡ true) same (subst (λ (b : ℕ). is_blank b ≡ true) e (prefix_len_passes is_blank (reverse xs) (length xs - 1 - (kept xs + i)) 0 there))))

pub before_back : (xs : List ℕ) → 0 < length (trim_end xs) → is_blank (get_or (trim_end xs) (length (trim_end xs) - 1) 0) ≡ false
before_back xs lt =
    let s = suffix_short xs in
    let len : length (trim_end xs) ≡ kept xs = length-take (kept xs) xs ∙ omega arith in
    let short : prefix_len is_blank (reverse xs) < length (reverse xs) = omega (arith, length-reverse xs) in
    let same : length xs - 1 - suffix_len is_blank xs ≡ length (trim_end xs) - 1 = omega arith in
    let e : get_or (reverse xs) (suffix_len is_blank xs) 0 ≡ get_or xs (length xs - 1 - suffix_len is_blank xs) 0 = get_or-reverse xs (suffix_len is_blank xs) 0 (omega (arith, length-reverse xs)) in
    rw (get_or-take (kept xs) xs (length (trim_end xs) - 1) 0 (omega arith)) (subst (λ (k : ℕ). is_blank (get_or xs k 0) ≡ false) same (subst (λ (b : ℕ). is_blank b ≡ false) e (prefix_len_stops is_blank (reverse xs) 0 short)))

first_of_front : (xs : List ℕ) (n : ℕ) → 0 < length (take n xs) → get_or (take n xs) 0 0 ≡ get_or xs 0 0
first_of_front xs n lt = get_or-take n xs 0 0 (omega (arith, length-take n xs))

pub trimmed_padded : (text : List ℕ) → IsPadded text (trimmed text)
unfolding trimmed
trimmed_padded text = record {
  before = take (prefix_len is_blank text) text;
  behind = drop (kept (trim_start text)) (trim_start text);
  parts = sym (take-append-drop (prefix_len is_blank text) text) ∙ ap (λ (x : List ℕ). take (prefix_len is_blank text) text ++ x) (sym (take-append-drop (kept (trim_start text)) (trim_start text)));
  before_blank = front_blank text;
  behind_blank = back_blank (trim_start text);
  ends = record {
    first = λ lt. rw (first_of_front (trim_start text) (kept (trim_start text)) lt) (after_front text (omega (arith, length-take (kept (trim_start text)) (trim_start text))));
    last = before_back (trim_start text);
  };
}
