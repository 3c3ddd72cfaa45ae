-- A time is read exactly where it is spelled.
use Rattle.std.proofs.Common.{◌≡◌, ℕ, ◌+◌, ◌-◌, ◌*◌, ◌^◌, ◌<◌, Bool, true, false, cond, eqb, List, ◌∷◌, ◌++◌, length, refl, sym, ap, subst, ◌∙◌, arith, inl, inr, Option, Some, None, nat_le}
use Rattle.std.specs.Prelude.{◌||◌}
use Rattle.std.specs.Char.{is_ascii_digit}
use Rattle.std.specs.List.{list_all}
use Rattle.std.proofs.lemmas.Bool.{leb-true, le-leb, or_left}
use Rattle.std.proofs.lemmas.List.{length-append}
use Rattle.rtsp_npt.specs.Bytes.{colon, point}
use Rattle.rtsp_npt.specs.Times.{SpellsSixtieth, SpellsClock, SpellsSeconds, SpellsFraction, SpellsTime}
use Rattle.rtsp_npt.specs.Reading.{sixtieth_of, clock_of, seconds_of, fraction_of, pointed_of, time_of}
use Rattle.rtsp_text.specs.Decimal.{SpellsNumber, digits_number, number_of}
use Rattle.rtsp_text.specs.Options.{◌>>=◌}
use Rattle.rtsp_text.specs.SplitOnce.{split_once}
use Rattle.rtsp_text.proofs.ByteLemmas.{all_weaker, all_joined, all_other}
use Rattle.rtsp_text.proofs.DecimalLemmas.{digit_bytes, number_found, number_again, numbers}
use Rattle.rtsp_text.proofs.FindsLemmas.{chain_found, sound_at}
use Rattle.rtsp_text.proofs.SplitLemmas.{split_found, split_missed, split_parts}

pub guarded : {A : Type 0} (b : Bool) (o : Option A) (y : A) → cond b o None ≡ Some y → (b ≡ true) × (o ≡ Some y)
guarded true o y e = (refl, e)
guarded false o y e = absurd cc

-- numbers

pub number_spells : (most : ℕ) (text : List ℕ) (n : ℕ) → number_of most text ≡ Some n → SpellsNumber most text n
number_spells most text n e = sound_at (SpellsNumber most) (number_of most) (numbers most) text n e

pub number_reads : (most : ℕ) (text : List ℕ) (n : ℕ) → SpellsNumber most text n → number_of most text ≡ Some n
number_reads most text n h = (numbers most).complete text n h

pub sixtieth_spells : (text : List ℕ) (n : ℕ) → sixtieth_of text ≡ Some n → SpellsSixtieth text n
unfolding sixtieth_of
sixtieth_spells text n e =
    let b = chain_found (number_of 2 text) (λ (k : ℕ). cond (nat_le k 59) (Some k) None) n e in
    let g = guarded (nat_le b.0 59) (Some b.0) n b.2 in
    let same : b.0 ≡ n = cc in
    record { number = number_spells 2 text n (b.1 ∙ g.1); below = let le = leb-true b.0 59 g.0 in omega (arith, le, same) }

pub sixtieth_reads : (text : List ℕ) (n : ℕ) → SpellsSixtieth text n → sixtieth_of text ≡ Some n
unfolding sixtieth_of
sixtieth_reads text n h = rw (number_reads 2 text n h.number, le-leb n 59 h.below) refl

-- the bytes of a clock, and of a time

abbrev pub is_clock_byte : ℕ → Bool
is_clock_byte b = is_ascii_digit b || eqb b 58

abbrev pub is_time_byte : ℕ → Bool
is_time_byte b = is_clock_byte b || eqb b 46

pub number_bytes : (most : ℕ) (text : List ℕ) (n : ℕ) → SpellsNumber most text n → list_all is_ascii_digit text ≡ true
number_bytes most text n h = digit_bytes text h.digits.1

clock_digits : (text : List ℕ) → list_all is_ascii_digit text ≡ true → list_all is_clock_byte text ≡ true
clock_digits text e = all_weaker is_ascii_digit is_clock_byte text (λ b h. or_left (is_ascii_digit b) (eqb b 58) h) e

pub clock_bytes : (text : List ℕ) (n : ℕ) → SpellsSeconds text n → list_all is_clock_byte text ≡ true
clock_bytes text n (inl h) = clock_digits text (number_bytes 19 text n h)
clock_bytes text n (inr h) =
    let hours = clock_digits h.hours (number_bytes 19 h.hours h.hour h.spells_hour) in
    let minutes = clock_digits h.minutes (number_bytes 2 h.minutes h.minute h.spells_minute.number) in
    let seconds = clock_digits h.seconds (number_bytes 2 h.seconds h.second h.spells_second.number) in
    let rest = all_joined is_clock_byte h.minutes (colon ∷ h.seconds) minutes seconds in
    subst (λ (t : List ℕ). list_all is_clock_byte t ≡ true) (sym h.parts) (all_joined is_clock_byte h.hours (colon ∷ (h.minutes ++ colon ∷ h.seconds)) hours rest)

time_clock : (text : List ℕ) → list_all is_clock_byte text ≡ true → list_all is_time_byte text ≡ true
time_clock text e = all_weaker is_clock_byte is_time_byte text (λ b h. or_left (is_clock_byte b) (eqb b 46) h) e

pub time_bytes : (text : List ℕ) (t : ℕ) → SpellsTime text t → list_all is_time_byte text ≡ true
time_bytes text t (inl h) = time_clock text (clock_bytes text h.second h.spells_second)
time_bytes text t (inr h) =
    let whole = time_clock h.whole (clock_bytes h.whole h.second h.spells_second) in
    let behind = time_clock h.fraction (clock_digits h.fraction (digit_bytes h.fraction h.spells_behind.digits)) in
    subst (λ (t : List ℕ). list_all is_time_byte t ≡ true) (sym h.parts) (all_joined is_time_byte h.whole (point ∷ h.fraction) whole behind)

pub seconds_some : (text : List ℕ) (n : ℕ) → SpellsSeconds text n → 0 < length text
seconds_some text n (inl h) = h.digits.0
seconds_some text n (inr h) = omega (arith, ap length h.parts, length-append h.hours (colon ∷ (h.minutes ++ colon ∷ h.seconds)))

pub time_some : (text : List ℕ) (t : ℕ) → SpellsTime text t → 0 < length text
time_some text t (inl h) = seconds_some text h.second h.spells_second
time_some text t (inr h) = omega (arith, ap length h.parts, length-append h.whole (point ∷ h.fraction))

-- seconds

clock_spells : (text : List ℕ) (parts : List ℕ × List ℕ) (n : ℕ) → text ≡ parts.0 ++ colon ∷ parts.1 → clock_of text (Some parts) ≡ Some n → SpellsClock text n
clock_spells text parts n at e =
    let b = chain_found (split_once colon parts.1) (λ (s : List ℕ × List ℕ). number_of 19 parts.0 >>= λ hours. sixtieth_of s.0 >>= λ minutes. sixtieth_of s.1 >>= λ seconds. Some (hours * 3600 + minutes * 60 + seconds)) n e in
    let h = chain_found (number_of 19 parts.0) (λ hours. sixtieth_of b.0.0 >>= λ minutes. sixtieth_of b.0.1 >>= λ seconds. Some (hours * 3600 + minutes * 60 + seconds)) n b.2 in
    let m = chain_found (sixtieth_of b.0.0) (λ minutes. sixtieth_of b.0.1 >>= λ seconds. Some (h.0 * 3600 + minutes * 60 + seconds)) n h.2 in
    let s = chain_found (sixtieth_of b.0.1) (λ seconds. Some (h.0 * 3600 + m.0 * 60 + seconds)) n m.2 in
    record {
      hours = parts.0;
      minutes = b.0.0;
      seconds = b.0.1;
      parts = at ∙ ap (λ (r : List ℕ). parts.0 ++ colon ∷ r) (split_parts colon parts.1 b.0 b.1).0;
      hour = h.0;
      minute = m.0;
      second = s.0;
      spells_hour = number_spells 19 parts.0 h.0 h.1;
      spells_minute = sixtieth_spells b.0.0 m.0 m.1;
      spells_second = sixtieth_spells b.0.1 s.0 s.1;
      value = let e : n ≡ h.0 * 3600 + m.0 * 60 + s.0 = cc s.2 in e;
    }

pub seconds_spells : (text : List ℕ) (n : ℕ) → seconds_of text ≡ Some n → SpellsSeconds text n
unfolding seconds_of
seconds_spells text n e = go (split_once colon text) refl e where
  go : (o : Option (List ℕ × List ℕ)) → split_once colon text ≡ o → clock_of text o ≡ Some n → SpellsSeconds text n
  go None s e = inl (number_spells 19 text n e)
  go (Some parts) s e = inr (clock_spells text parts n (split_parts colon text parts s).0 e)

clock_reads : (text : List ℕ) (n : ℕ) (h : SpellsClock text n) → clock_of text (Some (h.hours, h.minutes ++ colon ∷ h.seconds)) ≡ Some n
clock_reads text n h =
    let digits = number_bytes 2 h.minutes h.minute h.spells_minute.number in
    let s : split_once colon (h.minutes ++ colon ∷ h.seconds) ≡ Some (h.minutes, h.seconds) = split_found colon h.minutes h.seconds (all_other is_ascii_digit colon h.minutes refl digits) in
    rw (s, number_reads 19 h.hours h.hour h.spells_hour, sixtieth_reads h.minutes h.minute h.spells_minute, sixtieth_reads h.seconds h.second h.spells_second) (ap (λ (k : ℕ). Some k) (sym h.value))

pub seconds_reads : (text : List ℕ) (n : ℕ) → SpellsSeconds text n → seconds_of text ≡ Some n
unfolding seconds_of
seconds_reads text n (inl h) =
    let s : split_once colon text ≡ None = split_missed colon text (all_other is_ascii_digit colon text refl (number_bytes 19 text n h)) in
    rw s (number_reads 19 text n h)
seconds_reads text n (inr h) =
    let digits = number_bytes 19 h.hours h.hour h.spells_hour in
    let s : split_once colon text ≡ Some (h.hours, h.minutes ++ colon ∷ h.seconds) = ap (split_once colon) h.parts ∙ split_found colon h.hours (h.minutes ++ colon ∷ h.seconds) (all_other is_ascii_digit colon h.hours refl digits) in
    ap (clock_of text) s ∙ clock_reads text n h

-- times

pub fraction_spells : (text : List ℕ) (n : ℕ) → fraction_of text ≡ Some n → SpellsFraction text n
unfolding fraction_of
fraction_spells text n e =
    let g = guarded (nat_le (length text) 9) (digits_number text >>= λ k. Some (k * 10 ^ (9 - length text))) n e in
    let b = chain_found (digits_number text) (λ k. Some (k * 10 ^ (9 - length text))) n g.1 in
    let f = number_found text b.0 b.1 in
    let same : b.0 * 10 ^ (9 - length text) ≡ n = cc b.2 in
    record { digits = f.0; few = leb-true (length text) 9 g.0; value = sym same ∙ ap (λ (k : ℕ). k * 10 ^ (9 - length text)) f.1 }

pub fraction_reads : (text : List ℕ) (n : ℕ) → SpellsFraction text n → fraction_of text ≡ Some n
unfolding fraction_of
fraction_reads text n h = rw (le-leb (length text) 9 h.few, number_again text h.digits) (ap (λ (k : ℕ). Some k) (sym h.value))

pub time_spells : (text : List ℕ) (t : ℕ) → time_of text ≡ Some t → SpellsTime text t
unfolding time_of
time_spells text t e = go (split_once point text) refl e where
  go : (o : Option (List ℕ × List ℕ)) → split_once point text ≡ o → pointed_of text o ≡ Some t → SpellsTime text t
  go None s e =
      let b = chain_found (seconds_of text) (λ k. Some (k * 10 ^ 9)) t e in
      let same : b.0 * 10 ^ 9 ≡ t = cc b.2 in
      inl (record { second = b.0; spells_second = seconds_spells text b.0 b.1; value = sym same })
  go (Some parts) s e =
      let b = chain_found (seconds_of parts.0) (λ k. fraction_of parts.1 >>= λ nanos. Some (k * 10 ^ 9 + nanos)) t e in
      let f = chain_found (fraction_of parts.1) (λ nanos. Some (b.0 * 10 ^ 9 + nanos)) t b.2 in
      let same : b.0 * 10 ^ 9 + f.0 ≡ t = cc f.2 in
      inr (record {
        whole = parts.0;
        fraction = parts.1;
        parts = (split_parts point text parts s).0;
        second = b.0;
        behind = f.0;
        spells_second = seconds_spells parts.0 b.0 b.1;
        spells_behind = fraction_spells parts.1 f.0 f.1;
        value = sym same;
      })

pub time_reads : (text : List ℕ) (t : ℕ) → SpellsTime text t → time_of text ≡ Some t
unfolding time_of
time_reads text t (inl h) =
    let s : split_once point text ≡ None = split_missed point text (all_other is_clock_byte point text refl (clock_bytes text h.second h.spells_second)) in
    rw (s, seconds_reads text h.second h.spells_second) (ap (λ (k : ℕ). Some k) (sym h.value))
time_reads text t (inr h) =
    let bytes = clock_bytes h.whole h.second h.spells_second in
    let s : split_once point text ≡ Some (h.whole, h.fraction) = ap (split_once point) h.parts ∙ split_found point h.whole h.fraction (all_other is_clock_byte point h.whole refl bytes) in
    rw (s, seconds_reads h.whole h.second h.spells_second, fraction_reads h.fraction h.behind h.spells_behind) (ap (λ (k : ℕ). Some k) (sym h.value))
