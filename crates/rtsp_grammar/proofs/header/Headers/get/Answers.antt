use Rattle.std.proofs.Common.{arith, sym, ◌∙◌, ap, Some, slice_get, List, ℕ, length, take, drop}
use Rattle.std.proofs.lemmas.List.{length-map}
use Rattle.rtsp_grammar.specs.Header.{HeaderText}
use Rattle.rtsp_grammar.specs.Headers.{header_at}
use Rattle.rtsp_grammar.proofs.PlaceLemmas.{got, got_at}
use Rattle.rtsp_grammar.proofs.header.Headers.get.Goals as goal

pub returns : goal.returns
returns c =
    let n = length-map c.self.inside.places.items (header_at c.self.inside.bytes.items) in
    let m = ap (λ (hs : List HeaderText). length hs) c.self.view_is in
    let at = got_at c.self.inside.bytes.items c.self.inside.places.items c.args.index c.index-place.result.now (omega (arith, n, m, c.requires)) c.index-place.ensures c.self.invariant in
    let f1 = c.split_at.ensures.front ∙ ap (λ (l : List ℕ). take c.index-place.result.now.end l) c.deref.ensures.value in
    let f2 = c.split_at-2.ensures.front ∙ ap (λ (l : List ℕ). take c.index-place.result.now.value l) f1 in
    let n = c.split_at-3.ensures.back ∙ ap (λ (l : List ℕ). drop c.index-place.result.now.name l) f2 in
    let v = c.split_at-2.ensures.back ∙ ap (λ (l : List ℕ). drop c.index-place.result.now.value l) f1 in
    ap (λ (hs : List HeaderText). slice_get hs c.args.index) (sym c.self.view_is) ∙ at.1 ∙ ap (λ (h : HeaderText). Some h) (got c.self.inside.bytes.items c.index-place.result.now at.0)
    ∙ ap (λ (a : List ℕ). Some (record { name = a; value = drop c.index-place.result.now.value (take c.index-place.result.now.end c.self.inside.bytes.items) })) (sym n)
    ∙ ap (λ (a : List ℕ). Some (record { name = c.split_at-3.result.1.now; value = a })) (sym v)
