-- What the lower crates read, as functions of the text.
use Rattle.std.proofs.Common.{◌≡◌, ◌⊎◌, ℕ, Bool, true, false, List, Option, Some, None, Result, Ok, Err, refl, sym, ap, subst, ◌∙◌, inl, inr}
use Rattle.rtsp_text.specs.Decimal as digits
use Rattle.rtsp_text.specs.Decimal.{SpellsNumber}
use Rattle.rtsp_transport.specs.Session.{SpellsSession, is_session_name, name_of}
use Rattle.rtsp_transport.specs.Reads.{Reads, Refuses, IsSpelled}
use Rattle.rtsp_transport.specs.declared.fault.TextFault.{TextFault}
use Rattle.rtsp_transport.specs.declared.fault.TextFault.TheVariants.{Malformed, OutOfMemory}
use Rattle.rtsp_text.proofs.FindsLemmas.{sound_at}
use Rattle.rtsp_text.proofs.DecimalLemmas.{numbers}
use Rattle.rtsp_transport.proofs.SessionLemmas.{name_only, name_spelled}
use Rattle.std.specs.Str.{IsUtf8, is_utf8}
use Rattle.std.proofs.lemmas.Str.{IsUtf8-from_is_utf8, is_utf8-from_IsUtf8}
use Rattle.rtsp_state.specs.declared.fault.Fault.{Fault}
use Rattle.rtsp_state.specs.declared.fault.Fault.TheVariants as faults
use Rattle.rtsp_state.specs.Values.{session_name, uri_of, rtsp_url, fault_of, read_by}

-- ---- numbers

pub some_number : (most : ℕ) (text : List ℕ) (n : ℕ) → SpellsNumber most text n → digits.number_of most text ≡ Some n
some_number most text n s = (numbers most).complete text n s

pub no_number : (most : ℕ) (text : List ℕ) → ((n : ℕ) → ¬ SpellsNumber most text n) → digits.number_of most text ≡ None
no_number most text none = go (digits.number_of most text) refl where
  go : (o : Option ℕ) → digits.number_of most text ≡ o → digits.number_of most text ≡ None
  go None e = e
  go (Some n) e = absurd (none n (sound_at (SpellsNumber most) (digits.number_of most) (numbers most) text n e))

-- ---- names of sessions

pub some_name : (text name : List ℕ) → SpellsSession text name → session_name text ≡ Some name
unfolding session_name
some_name text name s = let r = name_only text name s in rw (r.1) (ap Some r.0)

pub no_name : (text : List ℕ) → ((name : List ℕ) → ¬ SpellsSession text name) → session_name text ≡ None
unfolding session_name
no_name text none = go (is_session_name (name_of text)) refl where
  go : (t : Bool) → is_session_name (name_of text) ≡ t → session_name text ≡ None
  go true e = absurd (none (name_of text) (name_spelled text e))
  go false e = rw e refl

-- ---- what a reader reads

pub read_ok : {T Y : Type 0} (Spells : T → Y → Type 0) (read : T → Result Y TextFault) → Reads Spells read → (text : T) (y : Y) → Spells text y → read text ≡ Ok y
read_ok Spells read r text y s = r.complete text y s

pub read_err : {T Y : Type 0} (Spells : T → Y → Type 0) (read : T → Result Y TextFault) → Reads Spells read → (text : T) → ((y : Y) → ¬ Spells text y) → read text ≡ Err Malformed
read_err {T} {Y} Spells read r text none = go (read text) refl where
  go : (o : Result Y TextFault) → read text ≡ o → read text ≡ Err Malformed
  go (Ok y) e = absurd (none y (subst (λ (o : Result Y TextFault). IsSpelled (Spells text) o) e (r.sound text)))
  go (Err f) e = e ∙ ap Err (subst (λ (o : Result Y TextFault). IsSpelled (Spells text) o) e (r.sound text))

-- what is read, or what it is refused for
pub refused : {T Y : Type 0} (Spells : T → Y → Type 0) (read : T → Result Y TextFault) → Reads Spells read → (text : T) (f : TextFault) (o : Fault) → Refuses (Spells text) f → o ≡ fault_of f → (o ≡ faults.OutOfMemory) ⊎ (read_by (read text) ≡ Err o)
refused Spells read r text Malformed o h e = inr (go h ∙ ap Err (sym e)) where
  go : Refuses (Spells text) Malformed → read_by (read text) ≡ Err (fault_of Malformed)
  go (inl x) = absurd cc
  go (inr p) = ap read_by (read_err Spells read r text p.1)
refused Spells read r text OutOfMemory o h e = inl e

-- ---- request URIs

pub uri_some : (text : List ℕ) → IsUtf8 text → uri_of text ≡ rtsp_url text
unfolding uri_of
uri_some text u = let e = is_utf8-from_IsUtf8 text u in rw e refl

pub uri_none : (text : List ℕ) → ¬ IsUtf8 text → uri_of text ≡ None
unfolding uri_of
uri_none text refuted = go (is_utf8 text) refl where
  go : (t : Bool) → is_utf8 text ≡ t → uri_of text ≡ None
  go true e = absurd (refuted (IsUtf8-from_is_utf8 text e))
  go false e = rw e refl
