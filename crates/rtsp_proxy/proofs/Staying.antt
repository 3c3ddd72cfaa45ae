-- What more bytes leave as it is.
use Rattle.std.proofs.Common.{◌≡◌, ◌≢◌, ◌∙◌, sym, refl, ap, subst, ℕ, zero, suc, ◌+◌, ◌<◌, ◌≤◌, Bool, true, false, cond, eqb, ltb, nat_eq, List, [], ◌∷◌, ◌++◌, length, take, drop, Option, Some, None, Result, Ok, Err, ◌⊎◌, inl, inr, arith, length-append, eq-eqb}
use Rattle.std.specs.Prelude.{not, ◌&&◌, if◌then◌else◌}
use Rattle.std.specs.Option.{option_map}
use Rattle.std.specs.List.{starts_with}
use Rattle.std.proofs.lemmas.Bool.{cases_Bool, eqb-true, ltb-true, ltb-false, lt-ltb, false_from_ne_true}
use Rattle.std.proofs.lemmas.Option.{same_Some}
use Rattle.std.proofs.lemmas.List.{take-append-le}
use Rattle.rtsp_text.specs.SplitOnce.{split_once}
use Rattle.rtsp_proxy.specs.declared.seen.Origin.{Origin}
use Rattle.rtsp_proxy.specs.declared.seen.Origin.TheVariants.{Own, Player}
use Rattle.rtsp_proxy.specs.declared.seen.ProxyFault.{ProxyFault}
use Rattle.rtsp_proxy.specs.declared.seen.ProxyFault.TheVariants.{TooLong, NoHeader, Unknown}
use Rattle.rtsp_proxy.specs.declared.seen.Seen.{Seen}
use Rattle.rtsp_proxy.specs.declared.seen.Seen.TheVariants.{Undecided, Refused, Header}
use Rattle.rtsp_proxy.specs.Front.{Fronts, whole, part, other, begins}
use Rattle.rtsp_proxy.specs.Line.{line_in, line_of, header_by, header_or, origin_of, without_cr}
use Rattle.rtsp_proxy.specs.Binary.{binary_by, binary_of, origin_in, two, four}
use Rattle.rtsp_proxy.specs.Proxy.{word, signature, in_binary, in_line, proxy_of}

-- ---- the front

eqb_self : (n : ℕ) → eqb n n ≡ true
eqb_self n = eq-eqb n n refl

eqb_flip : (a b : ℕ) → eqb a b ≡ false → eqb b a ≡ false
eqb_flip a b e = false_from_ne_true (eqb b a) (λ t. let same : b ≡ a = eqb-true b a t in let no : true ≡ false = sym (eq-eqb a b (sym same)) ∙ e in cc)

begins-same : (p : ℕ) (fixed text : List ℕ) → begins (p ∷ fixed) (p ∷ text) ≡ begins fixed text
unfolding begins
begins-same p fixed text = rw (eqb_self p) refl

begins-differ : (p b : ℕ) (fixed text : List ℕ) → eqb p b ≡ false → begins (p ∷ fixed) (b ∷ text) ≡ other
unfolding begins
begins-differ p b fixed text e = rw (e, eqb_flip p b e) refl

-- a part stays open; the whole and something else stay
pub data Stays (fixed text more : List ℕ) : Type 0 where
  Open : begins fixed text ≡ part → length text < length fixed → Stays fixed text more
  Has : (rest : List ℕ) → begins fixed text ≡ whole rest → begins fixed (text ++ more) ≡ whole (rest ++ more) → length text ≡ length fixed + length rest → Stays fixed text more
  Lacks : begins fixed text ≡ other → begins fixed (text ++ more) ≡ other → Stays fixed text more

stays-more : (p b : ℕ) (fixed text more : List ℕ) → Stays fixed text more → (x : Bool) → eqb p b ≡ x → Stays (p ∷ fixed) (b ∷ text) more
stays-more p b fixed text more h true e =
    subst (λ (c : ℕ). Stays (p ∷ fixed) (c ∷ text) more) (eqb-true p b e)
    (elim h [
      | Open is few ↦ Open (begins-same p fixed text ∙ is) (omega (arith, few))
      | Has rest is longer long ↦ Has rest (begins-same p fixed text ∙ is) (begins-same p fixed (text ++ more) ∙ longer) (omega (arith, long))
      | Lacks is longer ↦ Lacks (begins-same p fixed text ∙ is) (begins-same p fixed (text ++ more) ∙ longer)
    ])
stays-more p b fixed text more h false e = Lacks (begins-differ p b fixed text e) (begins-differ p b fixed (text ++ more) e)

pub stays : (fixed text more : List ℕ) → Stays fixed text more
unfolding begins
stays [] text more = Has text refl refl (omega arith)
stays (p ∷ fixed) [] more = Open refl (omega arith)
stays (p ∷ fixed) (b ∷ text) more = stays-more p b fixed text more (stays fixed text more) (eqb p b) refl

-- ---- a line

abbrev halves_at : List ℕ → List ℕ → Option (List ℕ × List ℕ)
halves_at front back = Some (front, back)

-- one step of a split
abbrev cut : Bool → ℕ → List ℕ → Option (List ℕ × List ℕ) → Option (List ℕ × List ℕ)
cut x b text r = if x then Some ([], text) else option_map (λ (p : List ℕ × List ℕ). (b ∷ p.0, p.1)) r

some-more : (b : ℕ) (text more : List ℕ) (p : List ℕ × List ℕ) (x : Bool) (r s : Option (List ℕ × List ℕ)) → ((q : List ℕ × List ℕ) → r ≡ Some q → s ≡ Some (q.0, q.1 ++ more))
    → cut x b text r ≡ Some p
    → cut x b (text ++ more) s ≡ Some (p.0, p.1 ++ more)
some-more b text more p true r s ih e = subst (λ (q : List ℕ × List ℕ). halves_at [] (text ++ more) ≡ halves_at q.0 (q.1 ++ more)) (same_Some ([], text) p e) refl
some-more b text more p false None s ih e = absurd cc
some-more b text more p false (Some q) s ih e = rw (ih q refl) (subst (λ (t : List ℕ × List ℕ). halves_at (b ∷ q.0) (q.1 ++ more) ≡ halves_at t.0 (t.1 ++ more)) (same_Some (b ∷ q.0, q.1) p e) refl)

-- where a text is split it stays split
pub split-some : (byte : ℕ) (text more : List ℕ) (p : List ℕ × List ℕ) → split_once byte text ≡ Some p → split_once byte (text ++ more) ≡ Some (p.0, p.1 ++ more)
split-some byte [] more p e = absurd cc
split-some byte (b ∷ text) more p e = some-more b text more p (eqb b byte) (split_once byte text) (split_once byte (text ++ more)) (λ q h. split-some byte text more q h) e

none-more : (b : ℕ) (text : List ℕ) (others : List ℕ) (q : List ℕ × List ℕ) (x : Bool) (r s : Option (List ℕ × List ℕ)) → (r ≡ None → (t : List ℕ × List ℕ) → s ≡ Some t → length text ≤ length t.0)
    → cut x b text r ≡ None
    → cut x b others s ≡ Some q
    → length (b ∷ text) ≤ length q.0
none-more b text others q true r s ih e h = absurd cc
none-more b text others q false (Some t) s ih e h = absurd cc
none-more b text others q false None None ih e h = absurd cc
none-more b text others q false None (Some t) ih e h =
    subst (λ (u : List ℕ × List ℕ). length (b ∷ text) ≤ length u.0) (same_Some (b ∷ t.0, t.1) q h) (let few = ih refl t refl in omega arith)

-- where it isn't split, a longer one is split behind it
pub split-none : (byte : ℕ) (text more : List ℕ) (q : List ℕ × List ℕ) → split_once byte text ≡ None → split_once byte (text ++ more) ≡ Some q → length text ≤ length q.0
split-none byte [] more q e s = omega arith
split-none byte (b ∷ text) more q e s = none-more b text (text ++ more) q (eqb b byte) (split_once byte text) (split_once byte (text ++ more)) (λ h t u. split-none byte text more t h u) e s

not-below : (a b : ℕ) → b ≤ a → ltb a b ≡ false
not-below a b le = false_from_ne_true (ltb a b) (λ t. let lt = ltb-true a b t in absurd (omega (arith, lt, le)))

binary_by-stays : (verb family size : ℕ) (body more : List ℕ) → binary_by verb family size body ≢ Undecided → binary_by verb family size (body ++ more) ≡ binary_by verb family size body
binary_by-stays verb family size body more told = go (not (eqb verb 0x20) && not (eqb verb 0x21)) (ltb 2048 size) (ltb (length body) size) refl told where
  go : (x y z : Bool) → ltb (length body) size ≡ z
      → cond x (Refused Unknown) (cond y (Refused TooLong) (cond z Undecided (header_or (16 + size) (origin_in verb family (take size body))))) ≢ Undecided
      → cond x (Refused Unknown) (cond y (Refused TooLong) (cond (ltb (length (body ++ more)) size) Undecided (header_or (16 + size) (origin_in verb family (take size (body ++ more))))))
      ≡ cond x (Refused Unknown) (cond y (Refused TooLong) (cond z Undecided (header_or (16 + size) (origin_in verb family (take size body)))))
  go true y z e told = refl
  go false true z e told = refl
  go false false true e told = absurd (told refl)
  go false false false e told =
      let le = ltb-false (length body) size e in
      rw (not-below (length (body ++ more)) size (omega (arith, le, length-append body more)), take-append-le size body more le) refl

pub binary-stays : (rest more : List ℕ) → binary_of rest ≢ Undecided → binary_of (rest ++ more) ≡ binary_of rest
binary-stays [] more told = absurd (told refl)
binary-stays (a ∷ []) more told = absurd (told refl)
binary-stays (a ∷ b ∷ []) more told = absurd (told refl)
binary-stays (a ∷ b ∷ c ∷ []) more told = absurd (told refl)
binary-stays (a ∷ b ∷ c ∷ d ∷ body) more told = binary_by-stays a b (two c d) body more told

pub line-stays : (rest more : List ℕ) → line_of rest ≢ Undecided → line_of (rest ++ more) ≡ line_of rest
unfolding line_of
line-stays rest more told = go (split_once 10 rest) refl told where
  too-long : (s : Option (List ℕ × List ℕ)) → split_once 10 (rest ++ more) ≡ s → split_once 10 rest ≡ None → 101 ≤ length rest → line_in (rest ++ more) s ≡ Refused TooLong
  too-long None e none long = rw (not-below (length (rest ++ more)) 101 (omega (arith, long, length-append rest more))) refl
  too-long (Some q) e none long = rw (lt-ltb 100 (length q.0) (let few = split-none 10 rest more q none e in omega (arith, long, few))) refl

  untold : (x : Bool) → ltb (length rest) 101 ≡ x → split_once 10 rest ≡ None → cond x Undecided (Refused TooLong) ≢ Undecided → line_in (rest ++ more) (split_once 10 (rest ++ more)) ≡ cond x Undecided (Refused TooLong)
  untold true e none told = absurd (told refl)
  untold false e none told = too-long (split_once 10 (rest ++ more)) refl none (ltb-false (length rest) 101 e)

  go : (r : Option (List ℕ × List ℕ)) → split_once 10 rest ≡ r → line_in rest r ≢ Undecided → line_in (rest ++ more) (split_once 10 (rest ++ more)) ≡ line_in rest r
  go (Some p) e told = rw (split-some 10 rest more p e) refl
  go None e told = untold (ltb (length rest) 101) refl e told

-- ---- a header

in_binary-stays : (text more : List ℕ) → Stays signature text more → in_binary (begins signature text) ≢ Undecided → in_binary (begins signature (text ++ more)) ≡ in_binary (begins signature text)
in_binary-stays text more (Open is few) told = absurd (told (ap in_binary is))
in_binary-stays text more (Lacks is longer) told = rw (is, longer) refl
in_binary-stays text more (Has rest is longer long) told = rw (is, longer) (binary-stays rest more (λ e. told (ap in_binary is ∙ e)))

pub proxy-stays : (text more : List ℕ) → proxy_of text ≢ Undecided → proxy_of (text ++ more) ≡ proxy_of text
unfolding proxy_of
proxy-stays text more told = go (stays word text more) told where
  go : Stays word text more → in_line text (begins word text) ≢ Undecided → in_line (text ++ more) (begins word (text ++ more)) ≡ in_line text (begins word text)
  go (Open is few) told = absurd (told (ap (in_line text) is))
  go (Has rest is longer long) told = rw (is, longer) (line-stays rest more (λ e. told (ap (in_line text) is ∙ e)))
  go (Lacks is longer) told = rw (is, longer) (in_binary-stays text more (stays signature text more) (λ e. told (ap (in_line text) is ∙ e)))

-- ---- how short a text is of which nothing is told

line-short : (rest : List ℕ) → line_of rest ≡ Undecided → length rest < 101
unfolding line_of
line-short rest e = go (split_once 10 rest) e where
  header_by-told : (size : ℕ) (fields : Option (List ℕ)) → header_by size fields ≡ Undecided → ⊥
  header_by-told size None e = absurd cc
  header_by-told size (Some fields) e = told (origin_of fields) e where
    told : (r : Result Origin ProxyFault) → header_or size r ≡ Undecided → ⊥
    told (Ok origin) e = absurd cc
    told (Err fault) e = absurd cc

  many : (x : Bool) (size : ℕ) (fields : Option (List ℕ)) → cond x (Refused TooLong) (header_by size fields) ≡ Undecided → ⊥
  many true size fields e = absurd cc
  many false size fields e = header_by-told size fields e

  few : (x : Bool) → ltb (length rest) 101 ≡ x → cond x Undecided (Refused TooLong) ≡ Undecided → length rest < 101
  few true l e = ltb-true (length rest) 101 l
  few false l e = absurd cc

  go : (r : Option (List ℕ × List ℕ)) → line_in rest r ≡ Undecided → length rest < 101
  go None e = few (ltb (length rest) 101) refl e
  go (Some p) e = absurd (many (ltb 100 (length p.0)) (6 + length p.0 + 1) (without_cr p.0) e)

binary_by-short : (verb family size : ℕ) (body : List ℕ) → binary_by verb family size body ≡ Undecided → length body < 2048
binary_by-short verb family size body e = go (not (eqb verb 0x20) && not (eqb verb 0x21)) (ltb 2048 size) (ltb (length body) size) refl refl e where
  told : (n : ℕ) (r : Result Origin ProxyFault) → header_or n r ≡ Undecided → ⊥
  told n (Ok origin) e = absurd cc
  told n (Err fault) e = absurd cc

  go : (x y z : Bool) → ltb 2048 size ≡ y → ltb (length body) size ≡ z
      → cond x (Refused Unknown) (cond y (Refused TooLong) (cond z Undecided (header_or (16 + size) (origin_in verb family (take size body))))) ≡ Undecided → length body < 2048
  go true y z l s e = absurd cc
  go false true z l s e = absurd cc
  go false false true l s e = let few = ltb-false 2048 size l in let lt = ltb-true (length body) size s in omega (arith, few, lt)
  go false false false l s e = absurd (told (16 + size) (origin_in verb family (take size body)) e)

binary-short : (rest : List ℕ) → binary_of rest ≡ Undecided → length rest < 2052
binary-short [] e = omega arith
binary-short (a ∷ []) e = omega arith
binary-short (a ∷ b ∷ []) e = omega arith
binary-short (a ∷ b ∷ c ∷ []) e = omega arith
binary-short (a ∷ b ∷ c ∷ d ∷ body) e = let few = binary_by-short a b (two c d) body e in omega (arith, few)

pub proxy-short : (text : List ℕ) → proxy_of text ≡ Undecided → length text < 2064
unfolding proxy_of
proxy-short text e = go (stays word text []) e where
  binary : Stays signature text [] → in_binary (begins signature text) ≡ Undecided → length text < 2064
  binary (Open is few) e = omega (arith, few)
  binary (Has rest is longer long) e = let few = binary-short rest (sym (ap in_binary is) ∙ e) in omega (arith, few, long)
  binary (Lacks is longer) e = let no : Refused NoHeader ≡ Undecided = sym (ap in_binary is) ∙ e in absurd cc

  go : Stays word text [] → in_line text (begins word text) ≡ Undecided → length text < 2064
  go (Open is few) e = omega (arith, few)
  go (Has rest is longer long) e = let few = line-short rest (sym (ap (in_line text) is) ∙ e) in omega (arith, few, long)
  go (Lacks is longer) e = binary (stays signature text []) (sym (ap (in_line text) is) ∙ e)

-- ---- a player over IPv4

body-read : (a b c d e f g h high low i j : ℕ) (told text : List ℕ) (size : ℕ) → length told + 12 ≤ 2048 → size ≡ length told + 12
    → binary_by 0x21 0x11 size (a ∷ b ∷ c ∷ d ∷ e ∷ f ∷ g ∷ h ∷ high ∷ low ∷ i ∷ j ∷ told ++ text) ≡ Header (Player (four a b c d) (two high low)) (28 + length told)
body-read a b c d e f g h high low i j told text size few is =
    let big : size ≡ suc (suc (suc (suc (suc (suc (suc (suc (suc (suc (suc (suc (length told)))))))))))) = omega (arith, is) in
    let low : ltb 2048 size ≡ false = false_from_ne_true (ltb 2048 size) (λ t. let lt = ltb-true 2048 size t in absurd (omega (arith, lt, few, is))) in
    let there : ltb (suc (suc (suc (suc (suc (suc (suc (suc (suc (suc (suc (suc (length (told ++ text)))))))))))))) size ≡ false = not-below _ size (omega (arith, is, length-append told text)) in
    let sum : 16 + size ≡ 28 + length told = omega (arith, is) in
    rw (low, there, sum, big) refl

pub binary-read : (a b c d e f g h high low i j : ℕ) (told text : List ℕ) → length told + 12 ≤ 2048 → (m l : ℕ) → two m l ≡ length told + 12
    → proxy_of (signature ++ 0x21 ∷ 0x11 ∷ m ∷ l ∷ a ∷ b ∷ c ∷ d ∷ e ∷ f ∷ g ∷ h ∷ high ∷ low ∷ i ∷ j ∷ told ++ text) ≡ Header (Player (four a b c d) (two high low)) (28 + length told)
unfolding proxy_of begins
binary-read a b c d e f g h high low i j told text few m l is = body-read a b c d e f g h high low i j told text (two m l) few is

-- ---- a balancer's own

own-body : (family size : ℕ) (told text : List ℕ) → length told ≤ 2048 → size ≡ length told → binary_by 0x20 family size (told ++ text) ≡ Header Own (16 + length told)
own-body family size told text few is =
    let low : ltb 2048 size ≡ false = not-below 2048 size (omega (arith, few, is)) in
    let there : ltb (length (told ++ text)) size ≡ false = not-below (length (told ++ text)) size (omega (arith, is, length-append told text)) in
    rw (low, there) (ap (λ n. Header Own (16 + n)) is)

pub own-read : (family m l : ℕ) (told text : List ℕ) → length told ≤ 2048 → two m l ≡ length told
    → proxy_of (signature ++ 0x20 ∷ family ∷ m ∷ l ∷ told ++ text) ≡ Header Own (16 + length told)
unfolding proxy_of begins
own-read family m l told text few is = own-body family (two m l) told text few is
