-- A text without the blanks at its ends.
use Rattle.std.proofs.Common.{◌≡◌, ℕ, ◌-◌, ◌<◌, ◌≤◌, true, false, List, [], length, get_or, take, drop, sym, ap, ◌∙◌, arith}
use Rattle.std.specs.List.{prefix_len, suffix_len}
use Rattle.std.proofs.lemmas.List.{take_rest, drop_all}
use Rattle.std.proofs.lemmas.List.Sums.{prefix_len_is, suffix_len_is}
use Rattle.rtsp_text.specs.Bytes.{is_blank}
use Rattle.rtsp_text.specs.Trim.{trim_start, trim_end}

pub trim_start_at : (bytes : List ℕ) (i : ℕ) → i < length bytes → ((k : ℕ) → k < i → is_blank (get_or bytes k 0) ≡ true) → is_blank (get_or bytes i 0) ≡ false
    → take (length bytes - i) (drop i bytes) ≡ trim_start bytes
trim_start_at bytes i lt before at =
    let n : prefix_len is_blank bytes ≡ i = prefix_len_is is_blank bytes i 0 (omega arith) before (λ _. at) in
    take_rest bytes i ∙ ap (λ (k : ℕ). drop k bytes) (sym n)

pub trim_start_all : (bytes : List ℕ) (i : ℕ) → length bytes ≤ i → ((k : ℕ) → k < i → is_blank (get_or bytes k 0) ≡ true) → [] ≡ trim_start bytes
trim_start_all bytes i le before =
    let n : prefix_len is_blank bytes ≡ length bytes = prefix_len_is is_blank bytes (length bytes) 0 (omega arith) (λ k lt. before k (omega arith)) (λ lt. absurd (omega arith)) in
    sym (ap (λ (k : ℕ). drop k bytes) n ∙ drop_all (length bytes) bytes (omega arith))

pub trim_end_at : (bytes : List ℕ) (end : ℕ) → end ≤ length bytes → ((k : ℕ) → end ≤ k → k < length bytes → is_blank (get_or bytes k 0) ≡ true) → (0 < end → is_blank (get_or bytes (end - 1) 0) ≡ false)
    → take end bytes ≡ trim_end bytes
trim_end_at bytes end le after at =
    let n : suffix_len is_blank bytes ≡ length bytes - end = suffix_len_is is_blank bytes end 0 le after at in
    ap (λ (k : ℕ). take k bytes) (omega arith)
