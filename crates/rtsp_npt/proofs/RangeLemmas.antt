-- A range is read exactly where it is spelled, and each fault found exactly where it is.
use Rattle.std.proofs.Common.{◌≡◌, ℕ, ◌-◌, ◌⊎◌, Bool, true, false, cond, eqb, List, [], ◌∷◌, ◌++◌, length, take, drop, map, refl, sym, ap, subst, ◌∙◌, arith, inl, inr, Option, Some, None, Result, Ok, Err, nat_eq}
use Rattle.std.specs.Prelude.{not, ◌||◌, codes, ◌↔◌}
use Rattle.std.specs.Char.{to_ascii_lowercase}
use Rattle.std.specs.Option.{ok_or}
use Rattle.std.specs.List.{list_all, starts_with, ends_with}
use Rattle.std.specs.Cmp.Lexicographic.{same_text, bytes_decides}
use Rattle.std.proofs.lemmas.Bool.{and_parts, and_from, both_ways, eqb-true, false_from_ne_true, or_left, or_right}
use Rattle.std.proofs.lemmas.List.{take-append-drop}
use Rattle.std.proofs.lemmas.List.Prefix.{end_rest}
use Rattle.rtsp_npt.specs.Bytes.{equals, dash, IsToken, IsNpt}
use Rattle.rtsp_npt.specs.Ranges.{HasTimes, SpellsSide, SpellsSides, SpellsRange, IsOtherUnit, IsNotNpt, HasNow, IsBadNpt, HasFault}
use Rattle.rtsp_npt.specs.Reading.{time_of, is_npt, has_now, side_of, bounds_of, sides_of, times_of, spec_of, range_of}
use Rattle.rtsp_npt.specs.declared.range.Range.{Range}
use Rattle.rtsp_npt.specs.declared.time.Time.{Time}
use Rattle.rtsp_npt.specs.declared.fault.RangeFault.{RangeFault}
use Rattle.rtsp_npt.specs.declared.fault.RangeFault.TheVariants as faults
use Rattle.rtsp_text.specs.Bytes.{is_other, is_token, is_token_byte}
use Rattle.rtsp_text.specs.Options.{◌>>=◌}
use Rattle.rtsp_text.specs.SplitOnce.{split_once}
use Rattle.rtsp_text.proofs.ByteLemmas.{all_joined, all_other, all_parts, some_from, some_parts}
use Rattle.rtsp_text.proofs.SplitLemmas.{split_found, split_missed, split_parts}
use Rattle.rtsp_npt.proofs.TimeLemmas.{is_time_byte, time_bytes, time_some, time_spells, time_reads}

-- ---- units

npt_test : (unit : List ℕ) → IsNpt unit → is_npt unit ≡ true
npt_test unit h = (bytes_decides (map to_ascii_lowercase unit) (codes "npt")).1 h

npt_is : (unit : List ℕ) → is_npt unit ≡ true → IsNpt unit
npt_is unit e = same_text (map to_ascii_lowercase unit) (codes "npt") (sym e)

token_test : (text : List ℕ) → IsToken text → is_token text ≡ true
token_test text h = some_from is_token_byte text h.some h.bytes

token_is : (text : List ℕ) → is_token text ≡ true → IsToken text
token_is text e = let t = some_parts is_token_byte text e in record { some = t.0; bytes = t.1 }

-- a letter's case doesn't make it `=`
lower_equals : (b : ℕ) → is_other equals (to_ascii_lowercase b) ≡ true → is_other equals b ≡ true
lower_equals b e = go (eqb b equals) refl where
  go : (x : Bool) → eqb b equals ≡ x → not (eqb b equals) ≡ true
  go true h =
      let same : b ≡ equals = eqb-true b equals h in
      let bad : is_other equals (to_ascii_lowercase equals) ≡ true = subst (λ (c : ℕ). is_other equals (to_ascii_lowercase c) ≡ true) same e in
      absurd (both_ways false refl bad)
  go false h = rw h refl

lower_no_equals : (unit : List ℕ) → list_all (is_other equals) (map to_ascii_lowercase unit) ≡ true → list_all (is_other equals) unit ≡ true
lower_no_equals [] e = refl
lower_no_equals (b ∷ unit) e =
    let t = and_parts (is_other equals (to_ascii_lowercase b)) (list_all (is_other equals) (map to_ascii_lowercase unit)) e in
    and_from (is_other equals b) (list_all (is_other equals) unit) (lower_equals b t.0) (lower_no_equals unit t.1)

npt_no_equals : (unit : List ℕ) → IsNpt unit → list_all (is_other equals) unit ≡ true
npt_no_equals unit h = lower_no_equals unit (subst (λ (t : List ℕ). list_all (is_other equals) t ≡ true) (sym h) refl)

token_no_equals : (unit : List ℕ) → IsToken unit → list_all (is_other equals) unit ≡ true
token_no_equals unit h = all_other is_token_byte equals unit refl h.bytes

-- ---- what is spelled is read

npt_alone : (text : List ℕ) → IsNpt text → range_of text ≡ Ok (record { start = None; stop = None })
unfolding range_of
npt_alone text h = rw (split_missed equals text (npt_no_equals text h), npt_test text h) refl

times_read : (text times : List ℕ) → HasTimes text times → range_of text ≡ times_of times
unfolding range_of
times_read text times h =
    let s : split_once equals text ≡ Some (h.unit, times) = ap (split_once equals) h.parts ∙ split_found equals h.unit times (npt_no_equals h.unit h.npt) in
    rw (s, npt_test h.unit h.npt) refl

other_fault : (unit : List ℕ) → IsOtherUnit unit → (is_npt unit ≡ false) × (is_token unit ≡ true)
other_fault unit h = (false_from_ne_true (is_npt unit) (λ e. h.other (npt_is unit e)), token_test unit h.token)

other_read : (text : List ℕ) → IsNotNpt text → range_of text ≡ Err faults.NotNpt
unfolding range_of
other_read text (inl h) =
    let f = other_fault text h in
    rw (split_missed equals text (token_no_equals text h.token), f.0, f.1) refl
other_read text (inr h) =
    let f = other_fault h.unit h.other in
    let s : split_once equals text ≡ Some (h.unit, h.rest) = ap (split_once equals) h.parts ∙ split_found equals h.unit h.rest (token_no_equals h.unit h.other.token) in
    rw (s, f.0, f.1) refl

-- `now` at either side

now_first : (other : List ℕ) → has_now (codes "now" ++ dash ∷ other) ≡ true
now_first other = or_left (starts_with nat_eq (codes "now" ++ dash ∷ other) (codes "now-")) (ends_with nat_eq (codes "now" ++ dash ∷ other) (codes "-now")) refl

now_last : (other : List ℕ) → has_now (other ++ dash ∷ codes "now") ≡ true
now_last other =
    let times = other ++ dash ∷ codes "now" in
    let e : drop (length times - 4) times ≡ codes "-now" = end_rest times (codes "-now") other refl in
    or_right (starts_with nat_eq times (codes "now-")) (ends_with nat_eq times (codes "-now")) ((bytes_decides (codes "-now") (drop (length times - 4) times)).1 (sym e))

now_times : (times : List ℕ) → has_now times ≡ true → times_of times ≡ Err faults.Now
unfolding times_of
now_times times e = rw e refl

now_read : (text : List ℕ) → HasNow text → range_of text ≡ Err faults.Now
now_read text h = go h.times where
  go : HasTimes text (codes "now" ++ dash ∷ h.other) ⊎ HasTimes text (h.other ++ dash ∷ codes "now") → range_of text ≡ Err faults.Now
  go (inl t) = times_read text (codes "now" ++ dash ∷ h.other) t ∙ now_times (codes "now" ++ dash ∷ h.other) (now_first h.other)
  go (inr t) = times_read text (h.other ++ dash ∷ codes "now") t ∙ now_times (h.other ++ dash ∷ codes "now") (now_last h.other)

-- a text of times has no `n`
abbrev HasNoN : List ℕ → Type 0
HasNoN times = list_all (is_other 110) times ≡ true

no_n_parts : (k : ℕ) (times : List ℕ) → HasNoN times → HasNoN (take k times) × HasNoN (drop k times)
no_n_parts k times h = all_parts (is_other 110) (take k times) (drop k times) (ap (list_all (is_other 110)) (take-append-drop k times) ∙ h)

no_now : (times : List ℕ) → HasNoN times → has_now times ≡ false
no_now times h =
    let first : starts_with nat_eq times (codes "now-") ≡ false = false_from_ne_true (starts_with nat_eq times (codes "now-")) (λ e.
    let same : codes "now-" ≡ take 4 times = same_text (codes "now-") (take 4 times) (sym e) in
    both_ways false refl (subst (λ (t : List ℕ). list_all (is_other 110) t ≡ true) (sym same) (no_n_parts 4 times h).0)) in
    let last : ends_with nat_eq times (codes "-now") ≡ false = false_from_ne_true (ends_with nat_eq times (codes "-now")) (λ e.
    let same : codes "-now" ≡ drop (length times - 4) times = same_text (codes "-now") (drop (length times - 4) times) (sym e) in
    both_ways false refl (subst (λ (t : List ℕ). list_all (is_other 110) t ≡ true) (sym same) (no_n_parts (length times - 4) times h).1)) in
    rw (first, last) refl

side_bytes : (text : List ℕ) (time : Option Time) → SpellsSide text time → list_all is_time_byte text ≡ true
side_bytes text None h = rw h refl
side_bytes text (Some time) h = time_bytes text time.nanos h

side_read : (text : List ℕ) (time : Option Time) → SpellsSide text time → side_of text ≡ Some time
side_read text None h = rw h refl
side_read [] (Some time) h = absurd (let some = time_some [] time.nanos h in omega (arith, some))
side_read (b ∷ text) (Some time) h = rw (time_reads (b ∷ text) time.nanos h) refl

sides_read : (text : List ℕ) (range : Range) → SpellsSides text range.start range.stop → bounds_of range.start range.stop ≡ Some range → range_of text ≡ Ok range
unfolding times_of
sides_read text range h e =
    let no_n = λ (side : List ℕ) (bytes : list_all is_time_byte side ≡ true). all_other is_time_byte 110 side refl bytes in
    let first = side_bytes h.first range.start h.spells_start in
    let last = side_bytes h.last range.stop h.spells_stop in
    let n = no_now (h.first ++ dash ∷ h.last) (all_joined (is_other 110) h.first (dash ∷ h.last) (no_n h.first first) (no_n h.last last)) in
    let at = split_found dash h.first h.last (all_other is_time_byte dash h.first refl first) in
    times_read text (h.first ++ dash ∷ h.last) h.times ∙ rw (n, at, side_read h.first range.start h.spells_start, side_read h.last range.stop h.spells_stop, e) refl

pub spelled_read : (text : List ℕ) (range : Range) → SpellsRange text range → range_of text ≡ Ok range
spelled_read text range h = go range.start range.stop h where
  go : (start stop : Option Time) → SpellsRange text (record { start = start; stop = stop }) → range_of text ≡ Ok (record { start = start; stop = stop })
  go None None h = npt_alone text h
  go None (Some stop) h = sides_read text (record { start = None; stop = Some stop }) h refl
  go (Some start) stop h = sides_read text (record { start = Some start; stop = stop }) h refl

-- ---- what is read is spelled

-- what the reading of a text tells of it, but for a text that is malformed
abbrev Tells : List ℕ → Result Range RangeFault → Type 0
Tells text (Ok range) = SpellsRange text range
Tells text (Err faults.NotNpt) = IsNotNpt text
Tells text (Err faults.Now) = HasNow text
Tells text (Err faults.BadNpt) = Unit {0}

side_spells : (text : List ℕ) (time : Option Time) → side_of text ≡ Some time → SpellsSide text time
side_spells [] None e = refl
side_spells [] (Some time) e = absurd cc
side_spells (b ∷ text) time e = go (time_of (b ∷ text)) refl time e where
  go : (o : Option ℕ) → time_of (b ∷ text) ≡ o → (time : Option Time) → (o >>= λ nanos. Some (Some (record { nanos = nanos }))) ≡ Some time → SpellsSide (b ∷ text) time
  go None f time e = absurd cc
  go (Some nanos) f time e = subst (SpellsSide (b ∷ text)) (let same : Some (record { nanos = nanos }) ≡ time = cc e in same) (time_spells (b ∷ text) nanos f)

sides_tell : (text first last : List ℕ) → HasTimes text (first ++ dash ∷ last) → Tells text (ok_or (sides_of first last) faults.BadNpt)
sides_tell text first last times = go (side_of first) refl (side_of last) refl where
  go : (a : Option (Option Time)) → side_of first ≡ a → (b : Option (Option Time)) → side_of last ≡ b → Tells text (ok_or (a >>= λ start. b >>= λ stop. bounds_of start stop) faults.BadNpt)
  go None e b f = tt
  go (Some start) e None f = tt
  go (Some None) e (Some None) f = tt
  go (Some None) e (Some (Some stop)) f = record { first = first; last = last; times = times; spells_start = side_spells first None e; spells_stop = side_spells last (Some stop) f }
  go (Some (Some start)) e (Some stop) f = record { first = first; last = last; times = times; spells_start = side_spells first (Some start) e; spells_stop = side_spells last stop f }

along : (text a b : List ℕ) → a ≡ b → HasTimes text a → HasTimes text b
along text a b e h = subst (HasTimes text) e h

now_tells : (text times : List ℕ) → HasTimes text times → has_now times ≡ true → HasNow text
now_tells text times h e = go (starts_with nat_eq times (codes "now-")) refl e where
  go : (x : Bool) → starts_with nat_eq times (codes "now-") ≡ x → (x || ends_with nat_eq times (codes "-now")) ≡ true → HasNow text
  go true s e =
      let same : codes "now-" ≡ take 4 times = same_text (codes "now-") (take 4 times) (sym s) in
      let parts : times ≡ codes "now-" ++ drop 4 times = sym (take-append-drop 4 times) ∙ ap (λ (r : List ℕ). r ++ drop 4 times) (sym same) in
      record { other = drop 4 times; times = inl (along text times (codes "now-" ++ drop 4 times) parts h) }
  go false s e =
      let k = length times - 4 in
      let same : codes "-now" ≡ drop (length times - 4) times = same_text (codes "-now") (drop (length times - 4) times) (sym e) in
      let parts : times ≡ take (length times - 4) times ++ codes "-now" = sym (take-append-drop (length times - 4) times) ∙ ap (λ (r : List ℕ). take (length times - 4) times ++ r) (sym same) in
      record { other = take (length times - 4) times; times = inr (along text times (take (length times - 4) times ++ codes "-now") parts h) }

times_tell : (text times : List ℕ) → HasTimes text times → Tells text (times_of times)
unfolding times_of
times_tell text times h = go (has_now times) refl where
  split : (o : Option (List ℕ × List ℕ)) → split_once dash times ≡ o → Tells text (ok_or (o >>= λ parts. sides_of parts.0 parts.1) faults.BadNpt)
  split None s = tt
  split (Some parts) s = sides_tell text parts.0 parts.1 (along text times (parts.0 ++ dash ∷ parts.1) (split_parts dash times parts s).0 h)

  go : (b : Bool) → has_now times ≡ b → Tells text (cond b (Err faults.Now) (ok_or (split_once dash times >>= λ parts. sides_of parts.0 parts.1) faults.BadNpt))
  go true e = now_tells text times h e
  go false e = split (split_once dash times) refl

other_unit : (unit : List ℕ) → is_npt unit ≡ false → is_token unit ≡ true → IsOtherUnit unit
other_unit unit n t = record { token = token_is unit t; other = λ h. both_ways (is_npt unit) n (npt_test unit h) }

alone_tells : (text : List ℕ) (a b : Bool) → is_npt text ≡ a → is_token text ≡ b → Tells text (cond a (Ok (record { start = None; stop = None })) (Err (cond b faults.NotNpt faults.BadNpt)))
alone_tells text true b n t = npt_is text n
alone_tells text false true n t = inl (other_unit text n t)
alone_tells text false false n t = tt

behind_tells : (text unit rest : List ℕ) (a b : Bool) → text ≡ unit ++ equals ∷ rest → is_npt unit ≡ a → is_token unit ≡ b → Tells text (cond a (times_of rest) (Err (cond b faults.NotNpt faults.BadNpt)))
behind_tells text unit rest true b at n t = times_tell text rest (record { unit = unit; npt = npt_is unit n; parts = at })
behind_tells text unit rest false true at n t = inr (record { unit = unit; rest = rest; other = other_unit unit n t; parts = at })
behind_tells text unit rest false false at n t = tt

range_tells : (text : List ℕ) → Tells text (range_of text)
unfolding range_of
range_tells text = go (split_once equals text) refl where
  go : (o : Option (List ℕ × List ℕ)) → split_once equals text ≡ o → Tells text (spec_of text o)
  go None s = alone_tells text (is_npt text) (is_token text) refl refl
  go (Some parts) s = behind_tells text parts.0 parts.1 (is_npt parts.0) (is_token parts.0) (split_parts equals text parts s).0 refl refl

read_tells : (text : List ℕ) (read : Result Range RangeFault) → range_of text ≡ read → Tells text read
read_tells text read e = subst (Tells text) e (range_tells text)

-- ---- both ways

pub range_exact : (text : List ℕ) (range : Range) → (range_of text ≡ Ok range) ↔ SpellsRange text range
range_exact text range = (λ e. read_tells text (Ok range) e, λ h. spelled_read text range h)

bad_tells : (text : List ℕ) → range_of text ≡ Err faults.BadNpt → IsBadNpt text
bad_tells text e = record {
  not_other = λ h. let f = other_read text h in cc;
  not_now = λ h. let f = now_read text h in cc;
  no_range = λ range h. let f = spelled_read text range h in cc;
}

bad_read : (text : List ℕ) (read : Result Range RangeFault) → range_of text ≡ read → IsBadNpt text → read ≡ Err faults.BadNpt
bad_read text (Ok range) e h = absurd (h.no_range range (read_tells text (Ok range) e))
bad_read text (Err faults.NotNpt) e h = absurd (h.not_other (read_tells text (Err faults.NotNpt) e))
bad_read text (Err faults.Now) e h = absurd (h.not_now (read_tells text (Err faults.Now) e))
bad_read text (Err faults.BadNpt) e h = refl

pub fault_exact : (text : List ℕ) (fault : RangeFault) → (range_of text ≡ Err fault) ↔ HasFault text fault
fault_exact text faults.NotNpt = (λ e. read_tells text (Err faults.NotNpt) e, λ h. other_read text h)
fault_exact text faults.Now = (λ e. read_tells text (Err faults.Now) e, λ h. now_read text h)
fault_exact text faults.BadNpt = (λ e. bad_tells text e, λ h. bad_read text (range_of text) refl h)
