-- What the parts of a Transport header spell.
use Rattle.std.proofs.Common.{◌≡◌, ℕ, Bool, false, List, [], ◌∷◌, ◌++◌, map, Option, Some, None, refl, ap, ◌∙◌}
use Rattle.std.specs.Prelude.{◌||◌}
use Rattle.std.specs.List.{list_any}
use Rattle.rtsp_text.specs.Trim.{trimmed}
use Rattle.rtsp_text.proofs.PaddingLemmas.{padded_only}
use Rattle.rtsp_text.proofs.SplitLemmas.{split_found, split_missed}
use Rattle.rtsp_transport.specs.Paired.{Paired}
use Rattle.rtsp_transport.specs.Split.{split}
use Rattle.rtsp_transport.specs.Transport.{SpellsParameter, SpellsSpec, SpellsTransport}
use Rattle.rtsp_transport.specs.declared.spec.Parameter.{Parameter}
use Rattle.rtsp_transport.specs.declared.spec.Spec.{Spec}
use Rattle.rtsp_transport.proofs.PartsLemmas.{split_only}
use Rattle.rtsp_dialect.specs.ClientPort.{is_old}
use Rattle.rtsp_dialect.specs.ClientPortText.{parameter_in, spec_in, is_old_text, has_old}
use Rattle.rtsp_dialect.proofs.Rewritten.{old_text}

parameter_parts : (part name : List ℕ) (value : Option (List ℕ)) → SpellsParameter part (record { name = name; value = value }) → parameter_in part ≡ record { name = name; value = value }
unfolding parameter_in
parameter_parts part name None s =
    let t : trimmed part ≡ name = padded_only part name s.padded in
    let c = split_missed 61 name s.name in
    rw t (rw c refl)
parameter_parts part name (Some value) s =
    let t : trimmed part ≡ name ++ 61 ∷ value = padded_only part (name ++ 61 ∷ value) s.padded in
    let c = split_found 61 name value s.name in
    rw t (rw c refl)

pub parameter_read : (part : List ℕ) (p : Parameter) → SpellsParameter part p → parameter_in part ≡ p
parameter_read part p s = parameter_parts part p.name p.value s

parameters_read : (parts : List (List ℕ)) (ps : List Parameter) → Paired SpellsParameter parts ps → map parameter_in parts ≡ ps
parameters_read [] [] h = refl
parameters_read [] (p ∷ ps) h = absurd h
parameters_read (part ∷ parts) [] h = absurd h
parameters_read (part ∷ parts) (p ∷ ps) h =
    ap (λ (q : Parameter). q ∷ map parameter_in parts) (parameter_read part p h.0) ∙ ap (λ (qs : List Parameter). p ∷ qs) (parameters_read parts ps h.1)

abbrev made : List ℕ → List Parameter → Spec
made protocol parameters = record { protocol = protocol; parameters = parameters }

spec_read : (text : List ℕ) (spec : Spec) (s : SpellsSpec text spec) → spec_in s.first s.others ≡ spec
spec_read text spec s =
    ap (λ (t : List ℕ). made t (map parameter_in s.others)) (padded_only s.first spec.protocol s.protocol.padded)
    ∙ ap (λ (ps : List Parameter). made spec.protocol ps) (parameters_read s.others spec.parameters s.parameters)

pub spec_parts : (text : List ℕ) (spec : Spec) (s : SpellsSpec text spec) → split false 59 text ≡ s.first ∷ s.others
spec_parts text spec s = (split_only 59 text (s.first ∷ s.others) refl s.split).0

pub text_is_old : (text : List ℕ) (spec : Spec) → SpellsSpec text spec → is_old_text text ≡ is_old spec
text_is_old text spec s = old_text text s.first s.others (spec_parts text spec s) ∙ ap is_old (spec_read text spec s)

texts_are_old : (parts : List (List ℕ)) (specs : List Spec) → Paired SpellsSpec parts specs → list_any is_old_text parts ≡ list_any is_old specs
texts_are_old [] [] h = refl
texts_are_old [] (spec ∷ specs) h = absurd h
texts_are_old (part ∷ parts) [] h = absurd h
texts_are_old (part ∷ parts) (spec ∷ specs) h =
    ap (λ (b : Bool). b || list_any is_old_text parts) (text_is_old part spec h.0) ∙ ap (λ (b : Bool). is_old spec || b) (texts_are_old parts specs h.1)

pub value_parts : (value : List ℕ) (specs : List Spec) (s : SpellsTransport value specs) → split false 44 value ≡ s.parts
value_parts value specs s = (split_only 44 value s.parts refl s.split).0

pub value_has_old : (value : List ℕ) (specs : List Spec) → SpellsTransport value specs → has_old value ≡ list_any is_old specs
unfolding has_old
value_has_old value specs s = ap (list_any is_old_text) (value_parts value specs s) ∙ texts_are_old s.parts specs s.each
