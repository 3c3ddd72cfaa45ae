-- A URL without query and fragment is the front of its text.
use Rattle.std.proofs.Common.{◌≡◌, ℕ, List, [], ◌∷◌, ◌++◌, take, length, is_some, unwrap_or, ap, ◌∙◌}
use Rattle.std.proofs.lemmas.List.{append_assoc, append-nil}
use Rattle.std.proofs.Math.Seq.{take-append_seam}
use Rattle.url.specs.Input.{when}
use Rattle.url.specs.Parts.{Parts, serialize}
use Rattle.rtsp_state.specs.Values.{bare_text}

abbrev query_and_fragment : Parts → List ℕ
query_and_fragment url =
    when (is_some url.query) (63 ∷ []) ++ (unwrap_or url.query [] ++ (when (is_some url.fragment) (35 ∷ []) ++ (unwrap_or url.fragment [] ++ [])))

whole : (url : Parts) → serialize url ≡ bare_text url ++ query_and_fragment url
whole url = simp (append_assoc, append-nil)

pub bare_front : (url : Parts) → take (length (bare_text url)) (serialize url) ≡ bare_text url
bare_front url = ap (take (length (bare_text url))) (whole url) ∙ take-append_seam (bare_text url) (query_and_fragment url)
