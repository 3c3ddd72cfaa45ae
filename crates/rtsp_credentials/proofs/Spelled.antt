-- The parameters of a list.
use Rattle.std.proofs.Common.{◌≡◌, ℕ, Bool, true, false, cond, List, [], ◌∷◌, length, Option, Some, None, refl, sym, ◌∙◌, ap, subst}
use Rattle.std.specs.Prelude.{◌==◌, ◌&&◌, not}
use Rattle.std.specs.List.{join_with_byte}
use Rattle.std.proofs.lemmas.Bool.{eqb-true, and_parts}
use Rattle.rtsp_text.specs.Options.{◌>>=◌}
use Rattle.rtsp_text.specs.Trim.{trimmed, IsPadded}
use Rattle.rtsp_text.proofs.PaddingLemmas.{padded_only, trimmed_padded}
use Rattle.rtsp_transport.specs.Split.{onto_first, split}
use Rattle.rtsp_transport.proofs.PartsLemmas.{split_only}
use Rattle.rtsp_credentials.specs.Parameters.{ParameterTexts, no_parameters, put, parameter_of, taken, gathered}
use Rattle.rtsp_credentials.specs.Grammar.{PartSpells, PartsSpell, put_one, put_all, ReadsGrammar}
use Rattle.rtsp_credentials.proofs.Values.{bind_some, no_bytes, some_bytes, parameter_read, parameter_spelled}

-- ---- one part

some_core : (core : List ℕ) (p : List ℕ × List ℕ) → parameter_of core ≡ Some p → (length core == 0) ≡ false
unfolding parameter_of
some_core [] p h = absurd cc
some_core (x ∷ xs) p h = some_bytes x xs

pub part_read : (ps : ParameterTexts) (part : List ℕ) (v : Option (List ℕ × List ℕ)) → PartSpells part v → taken ps part ≡ put_one ps v
unfolding taken
part_read ps part None s = ap (λ (xs : List ℕ). cond (length xs == 0) (Some ps) (parameter_of xs >>= (λ (p : List ℕ × List ℕ). put ps p.0 p.1))) (padded_only part [] s)
part_read ps part (Some p) s =
    let read = parameter_read s.core p s.spelled in
    ap (λ (xs : List ℕ). cond (length xs == 0) (Some ps) (parameter_of xs >>= (λ (p : List ℕ × List ℕ). put ps p.0 p.1))) (padded_only part s.core s.padded)
    ∙ ap (λ (b : Bool). cond b (Some ps) (parameter_of s.core >>= (λ (p : List ℕ × List ℕ). put ps p.0 p.1))) (some_core s.core p read)
    ∙ ap (λ (o : Option (List ℕ × List ℕ)). o >>= (λ (p : List ℕ × List ℕ). put ps p.0 p.1)) read

part_spelled : (ps qs : ParameterTexts) (part : List ℕ) → taken ps part ≡ Some qs → (v : Option (List ℕ × List ℕ)) × (PartSpells part v × (put_one ps v ≡ Some qs))
unfolding taken
part_spelled ps qs part h = go (length (trimmed part) == 0) refl h where
  go : (x : Bool) → (length (trimmed part) == 0) ≡ x → cond x (Some ps) (parameter_of (trimmed part) >>= (λ (p : List ℕ × List ℕ). put ps p.0 p.1)) ≡ Some qs
      → (v : Option (List ℕ × List ℕ)) × (PartSpells part v × (put_one ps v ≡ Some qs))
  go true q h = (None, (subst (λ (xs : List ℕ). IsPadded part xs) (no_bytes (trimmed part) q) (trimmed_padded part), h))
  go false q h =
      let s = bind_some (parameter_of (trimmed part)) (λ (p : List ℕ × List ℕ). put ps p.0 p.1) qs h in
      (Some s.0, (record { core = trimmed part; padded = trimmed_padded part; spelled = parameter_spelled (trimmed part) s.0 s.1.0 }, s.1.1))

-- ---- all parts

parts_read : (ps : ParameterTexts) (parts : List (List ℕ)) (vs : List (Option (List ℕ × List ℕ))) → PartsSpell parts vs → gathered ps parts ≡ put_all ps vs
unfolding gathered
parts_read ps [] [] s = refl
parts_read ps [] (v ∷ vs) s = absurd s
parts_read ps (part ∷ parts) [] s = absurd s
parts_read ps (part ∷ parts) (v ∷ vs) s = ap (λ (o : Option ParameterTexts). o >>= (λ (qs : ParameterTexts). gathered qs parts)) (part_read ps part v s.0) ∙ go (put_one ps v) (λ qs. parts_read qs parts vs s.1) where
  go : (o : Option ParameterTexts) → ((qs : ParameterTexts) → gathered qs parts ≡ put_all qs vs) → (o >>= (λ (qs : ParameterTexts). gathered qs parts)) ≡ (o >>= (λ (qs : ParameterTexts). put_all qs vs))
  go None again = refl
  go (Some qs) again = again qs

parts_spelled : (ps qs : ParameterTexts) (parts : List (List ℕ)) → gathered ps parts ≡ Some qs → (vs : List (Option (List ℕ × List ℕ))) × (PartsSpell parts vs × (put_all ps vs ≡ Some qs))
unfolding gathered
parts_spelled ps qs [] h = ([], (tt, h))
parts_spelled ps qs (part ∷ parts) h =
    let s = bind_some (taken ps part) (λ (m : ParameterTexts). gathered m parts) qs h in
    let t = part_spelled ps s.0 part s.1.0 in
    let u = parts_spelled s.0 qs parts s.1.1 in
    (t.0 ∷ u.0, ((t.1.0, u.1.0), ap (λ (o : Option ParameterTexts). o >>= (λ (m : ParameterTexts). put_all m u.0)) t.1.1 ∙ u.1.1))

-- ---- the text

joined_onto : (b : ℕ) (parts : List (List ℕ)) → join_with_byte 44 (onto_first (b ∷ []) parts) ≡ b ∷ join_with_byte 44 parts
joined_onto b [] = refl
joined_onto b (part ∷ []) = refl
joined_onto b (part ∷ next ∷ parts) = refl

begins_onto : (front : List ℕ) (parts : List (List ℕ)) → join_with_byte 44 ([] ∷ onto_first front parts) ≡ 44 ∷ join_with_byte 44 (onto_first front parts)
begins_onto front [] = refl
begins_onto front (part ∷ parts) = refl

begins : (inside : Bool) (text : List ℕ) → join_with_byte 44 ([] ∷ split inside 44 text) ≡ 44 ∷ join_with_byte 44 (split inside 44 text)
unfolding split
begins inside [] = refl
begins inside (b ∷ bytes) = go (b == 34) ((b == 44) && not inside) where
  go : (x y : Bool) → join_with_byte 44 ([] ∷ cond x (onto_first (b ∷ []) (split (not inside) 44 bytes)) (cond y ([] ∷ split false 44 bytes) (onto_first (b ∷ []) (split inside 44 bytes))))
      ≡ 44 ∷ join_with_byte 44 (cond x (onto_first (b ∷ []) (split (not inside) 44 bytes)) (cond y ([] ∷ split false 44 bytes) (onto_first (b ∷ []) (split inside 44 bytes))))
  go true y = begins_onto (b ∷ []) (split (not inside) 44 bytes)
  go false true = refl
  go false false = begins_onto (b ∷ []) (split inside 44 bytes)

split_joined : (inside : Bool) (text : List ℕ) → join_with_byte 44 (split inside 44 text) ≡ text
unfolding split
split_joined inside [] = refl
split_joined inside (b ∷ bytes) = go (b == 34) ((b == 44) && not inside) refl (λ i. split_joined i bytes) where
  go : (x y : Bool) → ((b == 44) && not inside) ≡ y → ((i : Bool) → join_with_byte 44 (split i 44 bytes) ≡ bytes)
      → join_with_byte 44 (cond x (onto_first (b ∷ []) (split (not inside) 44 bytes)) (cond y ([] ∷ split false 44 bytes) (onto_first (b ∷ []) (split inside 44 bytes)))) ≡ b ∷ bytes
  go true y e again = joined_onto b (split (not inside) 44 bytes) ∙ ap (λ (xs : List ℕ). b ∷ xs) (again (not inside))
  go false true e again = begins false bytes ∙ ap (λ (xs : List ℕ). 44 ∷ xs) (again false) ∙ ap (λ (n : ℕ). n ∷ bytes) (sym (eqb-true b 44 (and_parts (b == 44) (not inside) e).0))
  go false false e again = joined_onto b (split inside 44 bytes) ∙ ap (λ (xs : List ℕ). b ∷ xs) (again inside)

pub reads_grammar : ReadsGrammar
reads_grammar = record {
  sound = λ text qs h.
      let s = parts_spelled no_parameters qs (split false 44 text) h in
      record { parts = split false 44 text; joined = sym (split_joined false text); values = s.0; spell = s.1.0; known = s.1.1 };
  complete = λ text qs s is. ap (gathered no_parameters) (split_only 44 text s.parts refl is).0 ∙ parts_read no_parameters s.parts s.values s.spell ∙ s.known;
}
