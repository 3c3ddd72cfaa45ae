-- Reading a version is the relation.
use Rattle.std.proofs.Common.{◌≡◌, ℕ, List, [], ◌∷◌, ◌++◌, take, drop, refl, sym, ap, ◌∙◌, Bool, true, false, cond, eqb, eq-eqb, Option, Some, None}
use Rattle.std.specs.Prelude.{codes, nat_eq}
use Rattle.std.specs.List.{list_all, starts_with}
use Rattle.std.specs.Char.{is_ascii_digit}
use Rattle.std.specs.Cmp.Lexicographic.{same_text}
use Rattle.std.proofs.lemmas.Bool.{eqb-true, and_parts, and_from, both_ways}
use Rattle.std.proofs.lemmas.List.{take-append-drop}
use Rattle.rtsp_text.specs.Bytes.{is_other, is_number}
use Rattle.rtsp_text.proofs.ByteLemmas.{some_parts, some_other, all_other, all_joined}
use Rattle.rtsp_grammar.specs.Number.{number_of}
use Rattle.rtsp_grammar.specs.Reading.{are_numbers, are_2_and_0, is_version, is_version_2_0, version_of}
use Rattle.rtsp_grammar.specs.Version.{IsVersion, IsVersion20, SpellsVersion, version_text, IsCanonicalVersion}
use Rattle.rtsp_grammar.specs.declared.version.Version.{Version}
use Rattle.rtsp_grammar.specs.declared.version.Version.TheVariants.{Rtsp2, Other}
use Rattle.rtsp_text.specs.SplitOnce.{split_once}
use Rattle.rtsp_text.proofs.SplitLemmas.{split_found, split_parts}
use Rattle.rtsp_grammar.proofs.ClassLemmas.{AreLineBytes, class_line}

-- what a text begins with
pub prefix_parts : (text : List ℕ) → starts_with nat_eq text (codes "RTSP/") ≡ true → text ≡ codes "RTSP/" ++ drop 5 text
prefix_parts text e =
    let name : codes "RTSP/" ≡ take 5 text = same_text (codes "RTSP/") (take 5 text) (sym e) in
    sym (take-append-drop 5 text) ∙ ap (λ (x : List ℕ). x ++ drop 5 text) (sym name)

pub version_found : (text : List ℕ) → is_version text ≡ true → IsVersion text
version_found text e = go (split_once 46 (drop 5 text)) refl outer.1 where
  outer : (starts_with nat_eq text (codes "RTSP/") ≡ true) × (are_numbers (split_once 46 (drop 5 text)) ≡ true)
  outer = and_parts (starts_with nat_eq text (codes "RTSP/")) (are_numbers (split_once 46 (drop 5 text))) e

  go : (halves : Option (List ℕ × List ℕ)) → split_once 46 (drop 5 text) ≡ halves → are_numbers halves ≡ true → IsVersion text
  go None s h = absurd cc
  go (Some (major, minor)) s h =
      let numbers = and_parts (is_number major) (is_number minor) h in
      record {
        major = major;
        minor = minor;
        parts = prefix_parts text outer.0 ∙ ap (λ (x : List ℕ). codes "RTSP/" ++ x) (split_parts 46 (drop 5 text) (major, minor) s).0;
        major_number = numbers.0;
        minor_number = numbers.1;
      }

version_split : (text : List ℕ) (v : IsVersion text) → split_once 46 (drop 5 text) ≡ Some (v.major, v.minor)
version_split text v = ap (λ (t : List ℕ). split_once 46 (drop 5 t)) v.parts ∙ split_found 46 v.major v.minor (some_other is_ascii_digit 46 v.major refl v.major_number)

pub version_tested : (text : List ℕ) → IsVersion text → is_version text ≡ true
version_tested text v =
    let name : starts_with nat_eq text (codes "RTSP/") ≡ true = ap (λ (t : List ℕ). starts_with nat_eq t (codes "RTSP/")) v.parts in
    let numbers : are_numbers (split_once 46 (drop 5 text)) ≡ true = ap are_numbers (version_split text v) ∙ and_from (is_number v.major) (is_number v.minor) v.major_number v.minor_number in
    and_from (starts_with nat_eq text (codes "RTSP/")) (are_numbers (split_once 46 (drop 5 text))) name numbers

-- each byte of a version
version_all : (p : ℕ → Bool) (text : List ℕ) → IsVersion text → list_all p (codes "RTSP/") ≡ true → p 46 ≡ true → ((xs : List ℕ) → list_all is_ascii_digit xs ≡ true → list_all p xs ≡ true) → list_all p text ≡ true
version_all p text v name dot digits =
    let major = digits v.major (some_parts is_ascii_digit v.major v.major_number).1 in
    let minor = digits v.minor (some_parts is_ascii_digit v.minor v.minor_number).1 in
    ap (list_all p) v.parts ∙ all_joined p (codes "RTSP/") (v.major ++ 46 ∷ v.minor) name (all_joined p v.major (46 ∷ v.minor) major (and_from (p 46) (list_all p v.minor) dot minor))

pub version_line : (text : List ℕ) → IsVersion text → AreLineBytes text
version_line text v = version_all _ text v refl refl (λ xs h. class_line is_ascii_digit xs refl refl h)

pub version_no_space : (text : List ℕ) → IsVersion text → list_all (is_other 32) text ≡ true
version_no_space text v = version_all (is_other 32) text v refl refl (λ xs h. all_other is_ascii_digit 32 xs refl h)

-- ---- the version 2.0

version20_found : (text : List ℕ) → is_version_2_0 text ≡ true → IsVersion20 text
version20_found text e =
    let outer = and_parts (is_version text) (are_2_and_0 (split_once 46 (drop 5 text))) e in
    let v = version_found text outer.0 in
    let inner = and_parts (eqb (number_of v.major) 2) (eqb (number_of v.minor) 0) (sym (ap are_2_and_0 (version_split text v)) ∙ outer.1) in
    record { version = v; major = eqb-true (number_of v.major) 2 inner.0; minor = eqb-true (number_of v.minor) 0 inner.1 }

version20_tested : (text : List ℕ) → IsVersion20 text → is_version_2_0 text ≡ true
version20_tested text v =
    let numbers : are_2_and_0 (split_once 46 (drop 5 text)) ≡ true = ap are_2_and_0 (version_split text v.version) ∙ and_from (eqb (number_of v.version.major) 2) (eqb (number_of v.version.minor) 0) (eq-eqb (number_of v.version.major) 2 v.major) (eq-eqb (number_of v.version.minor) 0 v.minor) in
    and_from (is_version text) (are_2_and_0 (split_once 46 (drop 5 text))) (version_tested text v.version) numbers

-- a text spells the version that it is
pub version_spelled : (text : List ℕ) → is_version text ≡ true → SpellsVersion text (version_of text)
unfolding version_of
version_spelled text is = go (is_version_2_0 text) refl where
  go : (b : Bool) → is_version_2_0 text ≡ b → SpellsVersion text (cond b Rtsp2 (Other text))
  go true e = version20_found text e
  go false e = (record { version = version_found text is; other = λ v. both_ways (is_version_2_0 text) e (version20_tested text v) }, refl)

-- and no other
pub version_again : (text : List ℕ) (version : Version) → SpellsVersion text version → version_of text ≡ version
unfolding version_of
version_again text Rtsp2 v = let is = version20_tested text v in rw is refl
version_again text (Other other) v = go (is_version_2_0 text) refl where
  go : (b : Bool) → is_version_2_0 text ≡ b → cond b Rtsp2 (Other text) ≡ Other other
  go true e = absurd (v.0.other (version20_found text e))
  go false e = ap Other v.1

pub spelling_is_version : (text : List ℕ) (version : Version) → SpellsVersion text version → IsVersion text
spelling_is_version text Rtsp2 v = v.version
spelling_is_version text (Other other) v = v.0.version

-- a version that is written is spelled
pub version_written : (version : Version) → IsCanonicalVersion version → SpellsVersion (version_text version) version
version_written Rtsp2 h = record { version = record { major = 50 ∷ []; minor = 48 ∷ []; parts = refl; major_number = refl; minor_number = refl }; major = refl; minor = refl }
version_written (Other text) h = (h, refl)
