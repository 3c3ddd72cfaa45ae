use Rattle.std.proofs.Common.{◌≡◌, ◌∙◌, ap, sym, bytes_eq, List, Bor, Some, ℕ, get_or, drop, ◌+◌, ◌++◌, []}
use Rattle.std.proofs.lemmas.Bool.Decides.{Decides-eqb}
use Rattle.std.proofs.lemmas.Slice.Eq.{strip_prefix_is}
use Rattle.rtsp_text.specs.Slices.{joined}
use Rattle.rtsp_content.proofs.Joined.{flat_map-drop, bytes_eq-behind, bytes_eq-not_behind}
use Rattle.rtsp_content.proofs.found.is_joined.Goals as goal

pub returns-in-None : goal.returns-in-None
returns-in-None c =
    let piece = get_or c.args.pieces.now c.loop-piece.piece-index (record { ref_ptr = (0, 0); now = [] }) in
    let left = flat_map-drop (λ (p : Bor (List ℕ)). p.now) c.args.pieces.now c.loop-piece.piece-index (record { ref_ptr = (0, 0); now = [] }) c.loop-piece-test.true in
    bytes_eq-not_behind c.loop-piece.rest.now piece.now (joined (drop (c.loop-piece.piece-index + 1) c.args.pieces.now)) c.in-None.ensures.cases
    ∙ sym (ap (bytes_eq c.loop-piece.rest.now) left) ∙ sym c.loop-piece.invariant

pub loop-piece-preserved : goal.loop-piece-preserved
loop-piece-preserved c =
    let piece = get_or c.args.pieces.now c.loop-piece.piece-index (record { ref_ptr = (0, 0); now = [] }) in
    let more = joined (drop (c.loop-piece.piece-index + 1) c.args.pieces.now) in
    let left = flat_map-drop (λ (p : Bor (List ℕ)). p.now) c.args.pieces.now c.loop-piece.piece-index (record { ref_ptr = (0, 0); now = [] }) c.loop-piece-test.true in
    let split : c.loop-piece.rest.now ≡ piece.now ++ c.in-Some.tail.now = strip_prefix_is Decides-eqb c.loop-piece.rest.now piece.now (Some c.in-Some.tail) c.in-Some.ensures.cases in
    c.loop-piece.invariant ∙ ap (bytes_eq c.loop-piece.rest.now) left ∙ ap (λ (s : List ℕ). bytes_eq s (piece.now ++ more)) split ∙ bytes_eq-behind piece.now c.in-Some.tail.now more
