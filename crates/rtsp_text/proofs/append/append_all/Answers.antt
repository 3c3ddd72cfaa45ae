use Rattle.std.proofs.Common.{◌≡◌, ◌∙◌, ap, sym, length, [], arith, ◌+◌, ◌≤◌, take, get_or, Bor, List, ℕ, length-append, vec_len, vec_capacity}
use Rattle.std.proofs.lemmas.Bool.{false≢true}
use Rattle.std.specs.List.{flat_map}
use Rattle.rtsp_text.proofs.AppendLemmas.{texts_len}
use Rattle.rtsp_text.proofs.append.append_all.Goals as goal

pub returns-then-is_err-clause-succeeds : goal.returns-then-is_err-clause-succeeds
returns-then-is_err-clause-succeeds c = λ room.
    let within = texts_len (λ (p : Bor (List ℕ)). p.now) c.args.pieces.now c.loop-piece.piece-index (record { ref_ptr = (0, 0); now = [] }) c.loop-piece-test.true in
    let long : length c.loop-piece.out.items ≡ length c.args.out.now.items + length (flat_map (λ p. p.now) (take c.loop-piece.piece-index c.args.pieces.now)) =
    ap length c.loop-piece.invariant.written ∙ length-append c.args.out.now.items (flat_map (λ p. p.now) (take c.loop-piece.piece-index c.args.pieces.now)) in
    let fits : vec_len c.loop-piece.out + length (get_or c.args.pieces.now c.loop-piece.piece-index (record { ref_ptr = (0, 0); now = [] })).now ≤ vec_capacity c.loop-piece.out =
    omega (arith, c.loop-piece.out.ok, c.args.out.now.ok, c.loop-piece.invariant.capacity) in
    absurd (false≢true (sym c.if-is_err.ensures.negation ∙ c.extend_from_slice.ensures.succeeds fits))
