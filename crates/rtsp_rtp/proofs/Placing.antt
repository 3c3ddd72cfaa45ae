-- A header and a payload where a packet stands in its buffer.
use Rattle.std.proofs.Common.{◌≡◌, ℕ, suc, ◌+◌, ◌-◌, ◌≤◌, List, [], ◌∷◌, ◌++◌, length, take, take_at, drop, ap, sym, ◌∙◌, arith, append_assoc}
use Rattle.std.proofs.Math.ListN.{set, length-set}
use Rattle.std.proofs.Math.Seq.{take-suc-set}
use Rattle.std.proofs.lemmas.List.{drop-take, drop_at, drop-set-lt, take-append-drop, length-take-le, length-append, length-drop}
use Rattle.std.proofs.lemmas.Slice.{take-put_mid}
use borrow.Rule.Slice.PartMut.{put_mid, mid_of}
use Rattle.rtsp_rtp.specs.Buffers.{datagram_in}

-- a list with elements written over one by one, from a place on
abbrev pub written : List ℕ → ℕ → List ℕ → List ℕ
written b k [] = b
written b k (x ∷ xs) = written (set b k x) (suc k) xs

pub written_is : (xs b : List ℕ) (k : ℕ) → k + length xs ≤ length b → written b k xs ≡ take k b ++ (xs ++ drop (k + length xs) b)
written_is [] b k fits =
    let none : k ≡ k + 0 = omega arith in
    sym (take-append-drop k b) ∙ ap (λ (n : ℕ). take k b ++ drop n b) none
written_is (x ∷ xs) b k fits =
    let more : suc k + length xs ≡ k + suc (length xs) = omega arith in
    let same : length (set b k x) ≡ length b = length-set b k x in
    written_is xs (set b k x) (suc k) (omega (arith, fits, same))
    ∙ (ap (λ (l : List ℕ). l ++ (xs ++ drop (suc k + length xs) (set b k x))) (take-suc-set b k x (omega (arith, fits)))
    ∙ (append_assoc (take k b) (x ∷ []) (xs ++ drop (suc k + length xs) (set b k x))
    ∙ (ap (λ (l : List ℕ). take k b ++ (x ∷ xs ++ l)) (drop-set-lt (suc k + length xs) b k x (omega arith))
    ∙ ap (λ (n : ℕ). take k b ++ (x ∷ xs ++ drop n b)) more)))

-- a header leaves the buffer's length
pub wide : (b h y : List ℕ) → length b ≡ 1416 → length h ≡ 12 → y ≡ take 4 b ++ (h ++ drop 16 b) → length y ≡ 1416
wide b h y all twelve is =
    let r = drop 16 b in
    omega (arith, ap (λ (l : List ℕ). length l) is, length-append (take 4 b) (h ++ r), length-append h r, length-take-le 4 b (omega (arith, all)), length-drop 16 b, twelve, all)

-- the room for the payload
pub payload_room : (y : List ℕ) (n : ℕ) → length y ≡ 1416 → n ≤ 1400 → length (mid_of 16 (16 + n - 16) y) ≡ n
payload_room y n all fits =
    let n' : 16 + n - 16 ≡ n = omega arith in
    let behind : n ≤ length (drop 16 y) = omega (arith, length-drop 16 y, all, fits) in
    ap (λ (k : ℕ). length (take k (drop 16 y))) n' ∙ length-take-le n (drop 16 y) behind

pub placed : (b h y z : List ℕ) (k n : ℕ) → length b ≡ 1416 → length h ≡ 12 → y ≡ take 4 b ++ (h ++ drop 16 b) → length z ≡ n → n ≤ 1400 → datagram_in (put_mid 16 k y z) (12 + n) ≡ h ++ z
placed b h y z k n all twelve is some fits =
    let four : length (take 4 b) ≡ 4 = length-take-le 4 b (omega (arith, all)) in
    let first : take 16 y ≡ take 4 b ++ h =
    ap (λ (l : List ℕ). take 16 l) (is ∙ sym (append_assoc (take 4 b) h (drop 16 b)))
    ∙ take_at (take 4 b ++ h) (drop 16 b) 16 (omega (arith, length-append (take 4 b) h, four, twelve))
    in
    let far : 16 ≤ length y = omega (arith, wide b h y all twelve is) in
    let both : take (4 + (12 + n)) (put_mid 16 k y z) ≡ (take 4 b ++ h) ++ z =
    take-put_mid 16 k y z (4 + (12 + n)) (omega (arith, some)) far ∙ ap (λ (l : List ℕ). l ++ z) first
    in
    sym (drop-take 4 (12 + n) (put_mid 16 k y z))
    ∙ (ap (λ (l : List ℕ). drop 4 l) (both ∙ append_assoc (take 4 b) h z)
    ∙ drop_at (take 4 b) (h ++ z) 4 four)
