-- What is read of a Transport header is what its grammar has.
use Rattle.std.proofs.Common.{◌≡◌, ◌≢◌, ℕ, ◌≤◌, Bool, true, false, cond, List, [], ◌∷◌, ◌++◌, length, Option, Some, None, Result, Ok, Err, nat_lt, refl, sym, ap, subst, ◌∙◌, inl, inr}
use Rattle.std.specs.Prelude.{not}
use Rattle.std.specs.List.{AllByRecursion}
use Rattle.std.proofs.lemmas.Bool.{ltb-false, le-ltb}
use Rattle.rtsp_text.specs.Trim.{trimmed, IsPadded}
use Rattle.rtsp_text.specs.SplitOnce.{split_once, IsSplitAt}
use Rattle.rtsp_transport.specs.Split.{IsPart, IsSplit, is_closed, split}
use Rattle.rtsp_text.specs.Results.{◌>>=◌, Gives}
use Rattle.rtsp_transport.specs.Paired.{Paired}
use Rattle.rtsp_transport.specs.Reads.{IsSpelled, Reads}
use Rattle.rtsp_transport.specs.Transport.{SpellsParameter, SpellsProtocol, SpellsSpec, SpellsTransport}
use Rattle.rtsp_transport.specs.TransportReading.{some_text, named, parameter_of, parameters_of, protocol_of, spec_in, spec_of, specs_of, transports_of}
use Rattle.rtsp_transport.specs.declared.spec.Parameter.{Parameter}
use Rattle.rtsp_transport.specs.declared.spec.Spec.{Spec}
use Rattle.rtsp_transport.specs.declared.fault.TextFault.{TextFault}
use Rattle.rtsp_transport.specs.declared.fault.TextFault.TheVariants.{Malformed, OutOfMemory}
use Rattle.rtsp_text.proofs.PaddingLemmas.{padded_only, trimmed_padded}
use Rattle.rtsp_text.proofs.SplitLemmas.{split_found, split_missed, split_is as split_is_at}
use Rattle.rtsp_transport.proofs.PartsLemmas.{split_is, split_only, part_closed}
use Rattle.rtsp_transport.proofs.ReadsLemmas.{each_reads, each_sound, each_complete}

pub some_ok : (text : List ℕ) → text ≢ [] → some_text text ≡ Ok text
some_ok [] some = absurd (some refl)
some_ok (b ∷ bytes) some = refl

joined_some : (front : List ℕ) (b : ℕ) (rest : List ℕ) → front ++ b ∷ rest ≢ []
joined_some [] b rest e = absurd cc
joined_some (x ∷ front) b rest e = absurd cc

-- ---- parameters

parameter_sound : (part : List ℕ) → IsSpelled (SpellsParameter part) (parameter_of part)
unfolding parameter_of
parameter_sound part = go (trimmed part) (trimmed_padded part) where
  cut : (b : ℕ) (text : List ℕ) → IsPadded part (b ∷ text) → (r : Option (List ℕ × List ℕ)) → IsSplitAt 61 (b ∷ text) r → SpellsParameter part (named (b ∷ text) r)
  cut b text p None h = record { padded = p; some = λ e. absurd cc; name = h }
  cut b text p (Some q) h = record { padded = subst (λ (t : List ℕ). IsPadded part t) h.0 p; some = joined_some q.0 61 q.1; name = h.1 }

  go : (t : List ℕ) → IsPadded part t → IsSpelled (SpellsParameter part) (some_text t >>= λ text. Ok (named text (split_once 61 text)))
  go [] p = refl
  go (b ∷ text) p = cut b text p (split_once 61 (b ∷ text)) (split_is_at 61 (b ∷ text))

parameter_complete : (part name : List ℕ) (value : Option (List ℕ)) → SpellsParameter part (record { name = name; value = value }) → parameter_of part ≡ Ok (record { name = name; value = value })
unfolding parameter_of
parameter_complete part name None s =
    let t : trimmed part ≡ name = padded_only part name s.padded in
    let o = some_ok name s.some in
    let c = split_missed 61 name s.name in
    rw t (rw o (rw c refl))
parameter_complete part name (Some value) s =
    let t : trimmed part ≡ name ++ 61 ∷ value = padded_only part (name ++ 61 ∷ value) s.padded in
    let o = some_ok (name ++ 61 ∷ value) s.some in
    let c = split_found 61 name value s.name in
    rw t (rw o (rw c refl))

parameter_reads : Reads SpellsParameter parameter_of
parameter_reads = record { sound = parameter_sound; complete = λ part p s. parameter_complete part p.name p.value s }

-- ---- protocols

protocol_sound : (part : List ℕ) → IsSpelled (SpellsProtocol part) (protocol_of part)
unfolding protocol_of
protocol_sound part = go (trimmed part) (trimmed_padded part) where
  go : (t : List ℕ) → IsPadded part t → IsSpelled (SpellsProtocol part) (some_text t)
  go [] p = refl
  go (b ∷ text) p = record { padded = p; some = λ e. absurd cc }

protocol_complete : (part protocol : List ℕ) → SpellsProtocol part protocol → protocol_of part ≡ Ok protocol
unfolding protocol_of
protocol_complete part protocol s = ap some_text (padded_only part protocol s.padded) ∙ some_ok protocol s.some

-- ---- specifications

abbrev made_spec : List ℕ → List Parameter → Spec
made_spec protocol parameters = record { protocol = protocol; parameters = parameters }

spec_sound : (text : List ℕ) → is_closed false text ≡ true → IsSpelled (SpellsSpec text) (spec_of text)
unfolding spec_of
spec_sound text closed = go (split false 59 text) (split_is 59 text closed) where
  inner : (first : List ℕ) (others : List (List ℕ)) → IsSplit 59 text (first ∷ others) → (a : Result (List ℕ) TextFault) (b : Result (List Parameter) TextFault) → IsSpelled (SpellsProtocol first) a → IsSpelled (Paired SpellsParameter others) b
      → IsSpelled (SpellsSpec text) (a >>= λ protocol. b >>= λ parameters. Ok (made_spec protocol parameters))
  inner first others s (Ok protocol) (Ok parameters) p q = record { first = first; others = others; split = s; protocol = p; parameters = q }
  inner first others s (Ok protocol) (Err f) p q = q
  inner first others s (Err f) b p q = p

  go : (parts : List (List ℕ)) → IsSplit 59 text parts → IsSpelled (SpellsSpec text) (spec_in parts)
  go [] s = refl
  go (first ∷ others) s = inner first others s (protocol_of first) (parameters_of others) (protocol_sound first) ((each_reads SpellsParameter parameter_of parameter_reads).sound others)

spec_complete : (text : List ℕ) (spec : Spec) → SpellsSpec text spec → spec_of text ≡ Ok spec
unfolding spec_of
spec_complete text spec s =
    let e = (split_only 59 text (s.first ∷ s.others) refl s.split).0 in
    let p = protocol_complete s.first spec.protocol s.protocol in
    let q = (each_reads SpellsParameter parameter_of parameter_reads).complete s.others spec.parameters s.parameters in
    rw e (rw (p, q) refl)

-- ---- the whole value

parts_sound : (parts : List (List ℕ)) → AllByRecursion (IsPart 44) parts → IsSpelled (Paired SpellsSpec parts) (specs_of parts)
parts_sound parts each = each_sound SpellsSpec spec_of (IsPart 44) (λ part e. spec_sound part (part_closed 44 part e)) parts each

-- a fault of a specification is the value's, also where there are too many
pub fault_read : (text : List ℕ) (f : TextFault) → is_closed false text ≡ true → Gives OutOfMemory (Err f) (specs_of (split false 44 text)) → Gives OutOfMemory (Err f) (transports_of text)
unfolding transports_of
fault_read text f closed (inl e) = inl e
fault_read text f closed (inr e) = inr (rw closed (go (nat_lt 16 (length (split false 44 text))))) where
  malformed : f ≡ Malformed
  malformed = subst (λ (r : Result (List Spec) TextFault). IsSpelled (Paired SpellsSpec (split false 44 text)) r) e (parts_sound (split false 44 text) (split_is 44 text closed).each)

  go : (x : Bool) → cond x (Err Malformed) (specs_of (split false 44 text)) ≡ Err f
  go true = ap Err (sym malformed)
  go false = e

transports_sound : (text : List ℕ) → IsSpelled (SpellsTransport text) (transports_of text)
unfolding transports_of
transports_sound text = go (is_closed false text) (nat_lt 16 (length (split false 44 text))) refl refl where
  made : IsSplit 44 text (split false 44 text) → length (split false 44 text) ≤ 16 → (r : Result (List Spec) TextFault) → IsSpelled (Paired SpellsSpec (split false 44 text)) r → IsSpelled (SpellsTransport text) r
  made s few (Ok specs) p = record { parts = split false 44 text; split = s; few = few; each = p }
  made s few (Err f) p = p

  go : (x y : Bool) → is_closed false text ≡ x → nat_lt 16 (length (split false 44 text)) ≡ y → IsSpelled (SpellsTransport text) (cond (not x) (Err Malformed) (cond y (Err Malformed) (specs_of (split false 44 text))))
  go false y e l = refl
  go true true e l = refl
  go true false e l =
      let s = split_is 44 text e in
      made s (ltb-false _ _ l) (specs_of (split false 44 text)) (parts_sound (split false 44 text) s.each)

transports_complete : (text : List ℕ) (specs : List Spec) → SpellsTransport text specs → transports_of text ≡ Ok specs
unfolding transports_of
transports_complete text specs s =
    let p = split_only 44 text s.parts refl s.split in
    let e = p.0 in let c = p.1 in
    let few : nat_lt 16 (length s.parts) ≡ false = le-ltb 16 (length s.parts) s.few in
    let r = each_complete SpellsSpec spec_of spec_complete s.parts specs s.each in
    rw c (rw e (rw few r))

pub transports_read : Reads SpellsTransport transports_of
transports_read = record { sound = transports_sound; complete = transports_complete }
