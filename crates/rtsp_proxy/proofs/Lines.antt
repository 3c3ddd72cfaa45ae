-- A header of version 1, as a balancer writes it.
use Rattle.std.proofs.Common.{◌≡◌, ◌∙◌, sym, refl, ap, subst, ℕ, ◌+◌, ◌<◌, Bool, true, false, cond, eqb, ltb, List, [], ◌∷◌, ◌++◌, length, Option, Some, None, Ok, arith, length-append, append_assoc, codes, bytes_eq}
use Rattle.std.specs.Prelude.{◌||◌}
use Rattle.std.specs.Char.{is_ascii_digit}
use Rattle.std.specs.List.{list_all}
use Rattle.std.proofs.lemmas.Bool.{false_from_ne_true, ltb-true}
use Rattle.rtsp_text.specs.Bytes.{is_other}
use Rattle.rtsp_text.specs.SplitOnce.{split_once}
use Rattle.rtsp_text.proofs.ByteLemmas.{all_other, all_joined, all_weaker}
use Rattle.rtsp_text.proofs.SplitLemmas.{split_found}
use Rattle.rtsp_proxy.specs.declared.seen.Origin.{Origin}
use Rattle.rtsp_proxy.specs.declared.seen.Origin.TheVariants.{Own, Player}
use Rattle.rtsp_proxy.specs.declared.seen.Seen.TheVariants.{Header}
use Rattle.rtsp_proxy.specs.Front.{begins, whole}
use Rattle.rtsp_proxy.specs.Line.{line_of, origin_of, tcp4_of, without_cr}
use Rattle.rtsp_proxy.specs.Proxy.{word, proxy_of}
use Rattle.rtsp_proxy.proofs.Addresses.{is_dotted, IsAddress, IsPort, fields}

tcp4-read : (source target port target_port : List ℕ) (a b p q : ℕ) → IsAddress source a → IsAddress target b → IsPort port p → IsPort target_port q
    → tcp4_of (source ++ 32 ∷ (target ++ 32 ∷ (port ++ 32 ∷ target_port))) ≡ Some (Player a p)
unfolding tcp4_of
tcp4-read source target port target_port a b p q s t m n =
    rw (
      split_found 32 source (target ++ 32 ∷ (port ++ 32 ∷ target_port)) (all_other is_dotted 32 source refl s.bytes),
      s.read,
      split_found 32 target (port ++ 32 ∷ target_port) (all_other is_dotted 32 target refl t.bytes),
      t.read,
      split_found 32 port target_port (all_other is_ascii_digit 32 port refl m.bytes),
      m.read,
      n.read,
    ) refl

origin-read : (source target port target_port : List ℕ) (a b p q : ℕ) → IsAddress source a → IsAddress target b → IsPort port p → IsPort target_port q
    → origin_of (fields source target port target_port) ≡ Ok (Player a p)
unfolding origin_of
origin-read source target port target_port a b p q s t m n =
    rw (tcp4-read source target port target_port a b p q s t m n) refl

-- no such byte is in the fields
none-in : (c : ℕ) → is_dotted c ≡ false → is_ascii_digit c ≡ false → is_other c 32 ≡ true → list_all (is_other c) (codes "TCP4") ≡ true
    → (source target port target_port : List ℕ) (a b p q : ℕ) → IsAddress source a → IsAddress target b → IsPort port p → IsPort target_port q
    → list_all (is_other c) (fields source target port target_port) ≡ true
none-in c dotted digit space front source target port target_port a b p q s t m n =
    let last = all_other is_ascii_digit c target_port digit n.bytes in
    let ports = all_joined (is_other c) port (32 ∷ target_port) (all_other is_ascii_digit c port digit m.bytes) (both _ space last) in
    let targets = all_joined (is_other c) target (32 ∷ (port ++ 32 ∷ target_port)) (all_other is_dotted c target dotted t.bytes) (both _ space ports) in
    let sources = all_joined (is_other c) source (32 ∷ (target ++ 32 ∷ (port ++ 32 ∷ target_port))) (all_other is_dotted c source dotted s.bytes) (both _ space targets) in
    all_joined (is_other c) (codes "TCP4") (32 ∷ (source ++ 32 ∷ (target ++ 32 ∷ (port ++ 32 ∷ target_port)))) front (both _ space sources)
  where
    both : (xs : List ℕ) → is_other c 32 ≡ true → list_all (is_other c) xs ≡ true → list_all (is_other c) (32 ∷ xs) ≡ true
    both xs h k = rw (h, k) refl

without-read : (line : List ℕ) → list_all (is_other 13) line ≡ true → without_cr (line ++ 13 ∷ []) ≡ Some line
unfolding without_cr
without-read line e = rw (split_found 13 line [] e) refl

line-read : (line text : List ℕ) (origin : Origin) → list_all (is_other 10) line ≡ true → list_all (is_other 13) line ≡ true → length line < 100 → origin_of line ≡ Ok origin
    → line_of (line ++ 13 ∷ 10 ∷ text) ≡ Header origin (8 + length line)
unfolding line_of
line-read line text origin no_lf no_cr short read =
    let with_cr : list_all (is_other 10) (line ++ 13 ∷ []) ≡ true = all_joined (is_other 10) line (13 ∷ []) no_lf refl in
    let parts : line ++ 13 ∷ 10 ∷ text ≡ (line ++ 13 ∷ []) ++ 10 ∷ text = sym (append_assoc line (13 ∷ []) (10 ∷ text)) in
    let long : length (line ++ 13 ∷ []) ≡ length line + 1 = length-append line (13 ∷ []) in
    let few : ltb 100 (length (line ++ 13 ∷ [])) ≡ false = false_from_ne_true (ltb 100 (length (line ++ 13 ∷ []))) (λ t. let lt = ltb-true 100 (length (line ++ 13 ∷ [])) t in absurd (omega (arith, lt, long, short))) in
    let size : 6 + length (line ++ 13 ∷ []) + 1 ≡ 8 + length line = omega (arith, long) in
    rw (parts, split_found 10 (line ++ 13 ∷ []) text with_cr, few, without-read line no_cr, read) (ap (Header origin) size)

pub texts-are-read : (source target port target_port text : List ℕ) (a b p q : ℕ) → IsAddress source a → IsAddress target b → IsPort port p → IsPort target_port q
    → length (fields source target port target_port) < 100
    → proxy_of (word ++ fields source target port target_port ++ 13 ∷ 10 ∷ text) ≡ Header (Player a p) (8 + length (fields source target port target_port))
unfolding proxy_of begins
texts-are-read source target port target_port text a b p q s t m n short =
    line-read (fields source target port target_port) text (Player a p)
    (none-in 10 refl refl refl refl source target port target_port a b p q s t m n)
    (none-in 13 refl refl refl refl source target port target_port a b p q s t m n)
    short (origin-read source target port target_port a b p q s t m n)
