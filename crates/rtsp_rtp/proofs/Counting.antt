-- Sequence numbers and timestamps count modulo 2^16 and 2^32, so what was sent may be counted modulo 2^32.
use Rattle.std.proofs.Common.{Bool, ◌≡◌, ℕ, ◌+◌, ◌*◌, ◌%◌, ◌^◌, List, ◌∷◌, [], ◌++◌, refl, ap, sym, ◌∙◌, arith}
use Rattle.std.proofs.lemmas.Nat.{mod-pow-add, mul-mod_first}
use Rattle.std.proofs.Math.Nat.{add-mod-mod}
use Rattle.std.specs.Prelude.{slice_index_or}
use Rattle.std.specs.Int.{w16, w32, to_be_bytes}
use Rattle.rtsp_rtp.specs.declared.source.Source.{Source}
use Rattle.rtsp_rtp.specs.Packets.{seq_after, timestamp_after, header_of, kind_of, marked_header}

-- modulo 2^32 and then modulo 2^16
twice : (n : ℕ) → n % 2 ^ 32 % 2 ^ 16 ≡ n % 2 ^ 16
twice n =
    ap (λ (m : ℕ). m % 2 ^ 16) (mod-pow-add n 16 16)
    ∙ grind (arith)

pub seq_wraps : (x : Source) (n : ℕ) → seq_after x (n % 2 ^ 32) ≡ seq_after x n
seq_wraps x n =
    sym (add-mod-mod x.seq (n % 2 ^ 32) (2 ^ 16))
    ∙ (ap (λ (m : ℕ). (x.seq + m) % 2 ^ 16) (twice n)
    ∙ add-mod-mod x.seq n (2 ^ 16))

pub timestamp_wraps : (x : Source) (n : ℕ) → timestamp_after x (n % 2 ^ 32) ≡ timestamp_after x n
timestamp_wraps x n =
    sym (add-mod-mod x.rtptime ((n % 2 ^ 32) * x.ticks) (2 ^ 32))
    ∙ (ap (λ (m : ℕ). (x.rtptime + m) % 2 ^ 32) (mul-mod_first n x.ticks (2 ^ 32))
    ∙ add-mod-mod x.rtptime (n * x.ticks) (2 ^ 32))

pub header_wraps : (x : Source) (n : ℕ) → header_of x (n % 2 ^ 32) ≡ header_of x n
header_wraps x n =
    ap (λ (q : ℕ). 128 ∷ x.payload_type ∷ to_be_bytes w16 q ++ to_be_bytes w32 (timestamp_after x (n % 2 ^ 32)) ++ to_be_bytes w32 x.ssrc) (seq_wraps x n)
    ∙ ap (λ (t : ℕ). 128 ∷ x.payload_type ∷ to_be_bytes w16 (seq_after x n) ++ to_be_bytes w32 t ++ to_be_bytes w32 x.ssrc) (timestamp_wraps x n)

-- the header of a source after n packets of the session, counted modulo 2^32 in two parts
pub header_is : (x y : Source) (before n i : ℕ) → x ≡ y → before ≡ n → header_of x ((before + i) % 2 ^ 32) ≡ header_of y (n + i)
header_is x y before n i same sent =
    header_wraps x (before + i) ∙ (ap (λ (z : Source). header_of z (before + i)) same ∙ ap (λ (m : ℕ). header_of y (m + i)) sent)

-- the twelve bytes, one by one
pub bytes_of : (x : Source) (n : ℕ) (q t r : List ℕ) → q ≡ to_be_bytes w16 ((x.seq + n % 65536) % 2 ^ 16) → t ≡ to_be_bytes w32 ((x.rtptime + (n * x.ticks) % 2 ^ 32) % 2 ^ 32) → r ≡ to_be_bytes w32 x.ssrc
    → 128 ∷ x.payload_type ∷ slice_index_or q 0 0 ∷ slice_index_or q 1 0 ∷ slice_index_or t 0 0 ∷ slice_index_or t 1 0 ∷ slice_index_or t 2 0 ∷ slice_index_or t 3 0 ∷ slice_index_or r 0 0 ∷ slice_index_or r 1 0 ∷ slice_index_or r 2 0 ∷ slice_index_or r 3 0 ∷ [] ≡ header_of x n
bytes_of x n q t r eq et er =
    let q' : q ≡ to_be_bytes w16 (seq_after x n) = eq ∙ ap (λ (m : ℕ). to_be_bytes w16 m) (add-mod-mod x.seq n (2 ^ 16)) in
    let t' : t ≡ to_be_bytes w32 (timestamp_after x n) = et ∙ ap (λ (m : ℕ). to_be_bytes w32 m) (add-mod-mod x.rtptime (n * x.ticks) (2 ^ 32)) in
    rw (q', t', er) refl

-- the same twelve bytes of a packet with a marker bit, a number and a timestamp
pub head_bytes : (x : Source) (marker : Bool) (n s k : ℕ) (q t r : List ℕ) → k ≡ kind_of x marker → q ≡ to_be_bytes w16 n → t ≡ to_be_bytes w32 s → r ≡ to_be_bytes w32 x.ssrc
    → 128 ∷ k ∷ slice_index_or q 0 0 ∷ slice_index_or q 1 0 ∷ slice_index_or t 0 0 ∷ slice_index_or t 1 0 ∷ slice_index_or t 2 0 ∷ slice_index_or t 3 0 ∷ slice_index_or r 0 0 ∷ slice_index_or r 1 0 ∷ slice_index_or r 2 0 ∷ slice_index_or r 3 0 ∷ [] ≡ marked_header x marker n s
head_bytes x marker n s k q t r ek eq et er = rw (ek, eq, et, er) refl
