-- Lengths of what is written, counted up to a limit.
use Rattle.std.proofs.Common.{◌≡◌, ℕ, ◌+◌, ◌≤◌, min, List, length, drop, ap, ◌∙◌, arith, slice_get, Some}
use Rattle.std.proofs.lemmas.List.{length-append, drop_all}
use Rattle.rtsp_grammar.specs.Header.{HeaderText}
use Rattle.rtsp_grammar.specs.Writing.{header_text, headers_text}
use Rattle.rtsp_grammar.proofs.PlaceLemmas.{text_at}

counts_on : (limit total len new first rest all : ℕ) → new ≡ min (total + len) limit → len ≡ min first limit → all ≡ first + rest → min (new + rest) limit ≡ min (total + all) limit
counts_on limit total len new first rest all a b c = omega arith

pub step_len : (limit : ℕ) (hs : List HeaderText) (i : ℕ) (h : HeaderText) (total len new goal : ℕ) → slice_get hs i ≡ Some h → len ≡ min (length (header_text h)) limit → new ≡ min (total + len) limit
    → min (total + length (headers_text (drop i hs))) limit ≡ goal → min (new + length (headers_text (drop (i + 1) hs))) limit ≡ goal
step_len limit hs i h total len new goal at l n so_far =
    counts_on limit total len new (length (header_text h)) (length (headers_text (drop (i + 1) hs))) (length (headers_text (drop i hs))) n l
    (ap length (text_at hs i h at) ∙ length-append (header_text h) (headers_text (drop (i + 1) hs))) ∙ so_far

no_headers : (hs : List HeaderText) (i : ℕ) → length hs ≤ i → length (headers_text (drop i hs)) ≡ 0
unfolding headers_text
no_headers hs i le = ap (λ (l : List HeaderText). length (headers_text l)) (drop_all i hs le)

pub done_len : (limit : ℕ) (hs : List HeaderText) (i total goal : ℕ) → length hs ≤ i → total ≤ limit → min (total + length (headers_text (drop i hs))) limit ≡ goal → total ≡ goal
done_len limit hs i total goal le small so_far = let none = no_headers hs i le in omega arith
