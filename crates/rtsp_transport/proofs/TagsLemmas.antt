-- What is read of a Require header is what its grammar has.
use Rattle.std.proofs.Common.{◌≡◌, ℕ, Bool, true, false, cond, eqb, List, [], ◌∷◌, ◌++◌, length, Result, Ok, Err, refl, ap, ◌∙◌}
use Rattle.std.specs.Prelude.{not, ◌&&◌}
use Rattle.std.specs.List.{list_all, AllByRecursion}
use Rattle.rtsp_text.specs.Bytes.{is_blank, is_token, is_token_byte}
use Rattle.rtsp_transport.specs.Paired.{Paired}
use Rattle.rtsp_transport.specs.Reads.{IsSpelled, Reads}
use Rattle.rtsp_transport.specs.Split.{is_part, IsPart, IsSplit, is_closed, split}
use Rattle.rtsp_transport.specs.Tags.{SpellsTag, SpellsTags, tag_of, tags_in, tags_of}
use Rattle.rtsp_text.specs.Trim.{trimmed}
use Rattle.rtsp_transport.specs.declared.fault.TextFault.{TextFault}
use Rattle.rtsp_transport.specs.declared.fault.TextFault.TheVariants.{Malformed}
use Rattle.std.proofs.lemmas.Bool.{and_parts, and_from, not-true}
use Rattle.rtsp_text.proofs.ByteLemmas.{other, all_weaker, all_joined}
use Rattle.rtsp_text.proofs.PaddingLemmas.{padded_only, trimmed_padded}
use Rattle.rtsp_transport.proofs.PartsLemmas.{split_is, split_only}
use Rattle.rtsp_transport.proofs.ReadsLemmas.{each_reads}

-- ---- one tag

tag_sound : (part : List ℕ) → IsSpelled (SpellsTag part) (tag_of part)
unfolding tag_of
tag_sound part = go (is_token (trimmed part)) refl where
  go : (x : Bool) → is_token (trimmed part) ≡ x → IsSpelled (SpellsTag part) (cond x (Ok (trimmed part)) (Err Malformed))
  go true e = record { padded = trimmed_padded part; token = e }
  go false e = refl

tag_complete : (part tag : List ℕ) → SpellsTag part tag → tag_of part ≡ Ok tag
unfolding tag_of
tag_complete part tag s =
    let t = padded_only part tag s.padded in
    let k = s.token in
    rw t (rw k refl)

tag_reads : Reads SpellsTag tag_of
tag_reads = record { sound = tag_sound; complete = tag_complete }

-- ---- a tag's part has no quote and no comma

-- a byte that is neither a quote nor a comma
abbrev is_plain : ℕ → Bool
is_plain b = not (eqb b 34) && not (eqb b 44)

plain_part : (part : List ℕ) → list_all is_plain part ≡ true → is_part false 44 part ≡ true
plain_part [] e = refl
plain_part (b ∷ bytes) e =
    let s = and_parts (is_plain b) (list_all is_plain bytes) e in
    let t = and_parts (not (eqb b 34)) (not (eqb b 44)) s.0 in
    let q = not-true (eqb b 34) t.0 in
    rw q (and_from (not (eqb b 44)) (is_part false 44 bytes) t.1 (plain_part bytes s.1))

plain_of : (p : ℕ → Bool) (bytes : List ℕ) → p 34 ≡ false → p 44 ≡ false → list_all p bytes ≡ true → list_all is_plain bytes ≡ true
plain_of p bytes q c e = all_weaker p is_plain bytes (λ b h. and_from (not (eqb b 34)) (not (eqb b 44)) (other p 34 b q h) (other p 44 b c h)) e

tag_part : (part tag : List ℕ) → SpellsTag part tag → IsPart 44 part
tag_part part tag s =
    let t = (and_parts (not (eqb (length tag) 0)) (list_all is_token_byte tag) s.token).1 in
    let p = s.padded in
    let all : list_all is_plain (p.before ++ (tag ++ p.behind)) ≡ true =
    all_joined is_plain p.before (tag ++ p.behind) (plain_of is_blank p.before refl refl p.before_blank)
    (all_joined is_plain tag p.behind (plain_of is_token_byte tag refl refl t) (plain_of is_blank p.behind refl refl p.behind_blank)) in
    plain_part part (ap (list_all is_plain) p.parts ∙ all)

tag_parts : (parts tags : List (List ℕ)) → Paired SpellsTag parts tags → AllByRecursion (IsPart 44) parts
tag_parts [] [] p = tt
tag_parts [] (t ∷ tags) p = tt
tag_parts (part ∷ parts) [] p = absurd p
tag_parts (part ∷ parts) (t ∷ tags) p = (tag_part part t p.0, tag_parts parts tags p.1)

-- ---- all tags

tags_sound : (text : List ℕ) → IsSpelled (SpellsTags text) (tags_of text)
unfolding tags_of
tags_sound text = go (is_closed false text) refl where
  made : IsSplit 44 text (split false 44 text) → (r : Result (List (List ℕ)) TextFault) → IsSpelled (Paired SpellsTag (split false 44 text)) r → IsSpelled (SpellsTags text) r
  made s (Ok tags) p = record { parts = split false 44 text; joined = s.joined; some = s.some; each = p }
  made s (Err f) p = p

  go : (x : Bool) → is_closed false text ≡ x → IsSpelled (SpellsTags text) (cond (not x) (Err Malformed) (tags_in (split false 44 text)))
  go false e = refl
  go true e = made (split_is 44 text e) (tags_in (split false 44 text)) ((each_reads SpellsTag tag_of tag_reads).sound (split false 44 text))

tags_complete : (text : List ℕ) (tags : List (List ℕ)) → SpellsTags text tags → tags_of text ≡ Ok tags
unfolding tags_of
tags_complete text tags s =
    let p = split_only 44 text s.parts refl (record { joined = s.joined; each = tag_parts s.parts tags s.each; some = s.some }) in
    let e = p.0 in let c = p.1 in
    rw c (rw e ((each_reads SpellsTag tag_of tag_reads).complete s.parts tags s.each))

pub tags_read : Reads SpellsTags tags_of
tags_read = record { sound = tags_sound; complete = tags_complete }
