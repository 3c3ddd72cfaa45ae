-- What is found at the front of a text.
use Rattle.std.proofs.Common.{◌≡◌, ◌≢◌, ℕ, ◌+◌, ◌<◌, ◌⊎◌, Bool, true, false, eqb, List, [], ◌∷◌, ◌++◌, length, get_or, take, drop, refl, sym, ap, subst, ◌∙◌, arith, inl, inr}
use Rattle.std.specs.Prelude.{not, ◌||◌}
use Rattle.std.proofs.lemmas.List.{take-append-drop, take_all, append-nil, drop_more, drop_all}
use Rattle.std.proofs.lemmas.Bool.{eqb-true}
use Rattle.rtsp_text.specs.Bytes.{is_line_byte}
use Rattle.rtsp_text.specs.Span.{IsSpan}
use Rattle.rtsp_text.specs.Line.{HasLine, IsBroken, IsOpen, IsPlain, BeginsBare}

-- a byte that ends a line is a CR or an LF
end_byte : (b : ℕ) → is_line_byte b ≡ false → (b ≡ 13) ⊎ (b ≡ 10)
end_byte b e = go (eqb b 13) (eqb b 10) refl refl e where
  go : (x y : Bool) → eqb b 13 ≡ x → eqb b 10 ≡ y → not (x || y) ≡ false → (b ≡ 13) ⊎ (b ≡ 10)
  go true y p q e = inl (eqb-true b 13 p)
  go false true p q e = inr (eqb-true b 10 q)
  go false false p q e = absurd cc

-- the front of the span, its first byte after it, and the rest
one_more : (bytes : List ℕ) (n : ℕ) → n < length bytes → bytes ≡ take n bytes ++ (get_or bytes n 0 ∷ drop (n + 1) bytes)
one_more bytes n lt = sym (take-append-drop n bytes) ∙ ap (λ (r : List ℕ). take n bytes ++ r) (drop_more bytes n 0 lt)

pub returned : (bytes : List ℕ) (n : ℕ) → IsSpan is_line_byte bytes n → n < length bytes → get_or bytes n 0 ≢ 10 → get_or bytes n 0 ≡ 13
returned bytes n span lt ne = elim (end_byte (get_or bytes n 0) (span.stops lt)) [ inl e ↦ e | inr e ↦ absurd (ne e) ]

pub ended : (bytes : List ℕ) (n : ℕ) → IsSpan is_line_byte bytes n → n + 1 < length bytes → get_or bytes n 0 ≢ 10 → get_or bytes (n + 1) 0 ≡ 10 → HasLine bytes (take n bytes) (drop (n + 2) bytes)
ended bytes n span lt ne e =
    let first : n < length bytes = omega arith in
    let more : drop (n + 1) bytes ≡ 10 ∷ drop (n + 2) bytes = drop_more bytes (n + 1) 0 lt ∙ ap (λ (b : ℕ). b ∷ drop (n + 1 + 1) bytes) e ∙ ap (λ (k : ℕ). 10 ∷ drop k bytes) (omega arith) in
    record {
      parts = one_more bytes n first ∙ ap (λ (b : ℕ). take n bytes ++ (b ∷ drop (n + 1) bytes)) (returned bytes n span first ne) ∙ ap (λ (r : List ℕ). take n bytes ++ (13 ∷ r)) more;
      plain = span.passes;
    }

pub open_at_end : (bytes : List ℕ) (n : ℕ) → IsSpan is_line_byte bytes n → n ≡ length bytes → (o : IsOpen bytes) × (o.line ≡ bytes)
open_at_end bytes n span e = (
  record {
    line = bytes;
    rest = [];
    parts = sym (append-nil bytes);
    plain = subst (λ (t : List ℕ). IsPlain t) (take_all n bytes (omega (arith, e))) span.passes;
    short = inl refl;
  },
  refl,
)

pub open_at_return : (bytes : List ℕ) (n : ℕ) → IsSpan is_line_byte bytes n → n < length bytes → get_or bytes n 0 ≢ 10 → n + 1 ≡ length bytes → (o : IsOpen bytes) × (o.line ≡ take n bytes)
open_at_return bytes n span lt ne e = (
  record {
    line = take n bytes;
    rest = drop n bytes;
    parts = sym (take-append-drop n bytes);
    plain = span.passes;
    short = inr (drop_more bytes n 0 lt ∙ ap (λ (b : ℕ). b ∷ drop (n + 1) bytes) (returned bytes n span lt ne) ∙ ap (λ (r : List ℕ). 13 ∷ r) (drop_all (n + 1) bytes (omega arith)));
  },
  refl,
)

pub broken_feed : (bytes : List ℕ) (n : ℕ) → IsSpan is_line_byte bytes n → n < length bytes → get_or bytes n 0 ≡ 10 → IsBroken bytes
broken_feed bytes n span lt e = record {
  line = take n bytes;
  rest = get_or bytes n 0 ∷ drop (n + 1) bytes;
  parts = one_more bytes n lt;
  plain = span.passes;
  bare = go (get_or bytes n 0) (drop (n + 1) bytes) e;
} where
  go : (b : ℕ) (rest : List ℕ) → b ≡ 10 → BeginsBare (b ∷ rest)
  go b [] e = e
  go b (c ∷ rest) e = inl e

pub broken_return : (bytes : List ℕ) (n : ℕ) → IsSpan is_line_byte bytes n → n + 1 < length bytes → get_or bytes n 0 ≢ 10 → get_or bytes (n + 1) 0 ≢ 10 → IsBroken bytes
broken_return bytes n span lt ne e =
    let first : n < length bytes = omega arith in record {
      line = take n bytes;
      rest = get_or bytes n 0 ∷ get_or bytes (n + 1) 0 ∷ drop (n + 1 + 1) bytes;
      parts = one_more bytes n first ∙ ap (λ (r : List ℕ). take n bytes ++ (get_or bytes n 0 ∷ r)) (drop_more bytes (n + 1) 0 lt);
      plain = span.passes;
      bare = inr (returned bytes n span first ne, e);
    }
