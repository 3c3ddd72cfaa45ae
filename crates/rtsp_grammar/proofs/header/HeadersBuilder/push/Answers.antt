use Rattle.std.proofs.Common.{arith, ◌∙◌, ap, ◌≡◌, [], ◌∷◌, ◌++◌, length, List, ℕ}
use Rattle.std.proofs.lemmas.List.{length-append}
use Rattle.rtsp_grammar.specs.HeadersBuilder.{BuiltHeaders}
use Rattle.rtsp_grammar.specs.Headers.{headers_at, AreWithin}
use Rattle.rtsp_grammar.specs.declared.header.Place.{Place}
use Rattle.rtsp_grammar.proofs.PlaceLemmas.{pushed}
use Rattle.rtsp_grammar.proofs.header.HeadersBuilder.push.Goals as goal

both : (c : goal.After-push_reserved) → AreWithin c.extend_from_slice-2.new.self.items c.push_reserved.new.self.items × (headers_at c.extend_from_slice-2.new.self.items c.push_reserved.new.self.items ≡ headers_at c.self.inside.bytes.items c.self.inside.places.items ++ record { name = c.args.name.now; value = c.args.value.now } ∷ [])
both c =
    let e1 : c.extend_from_slice.new.self.items ≡ c.self.inside.bytes.items ++ c.args.name.now = rw (c.unwrap.ensures, c.reserve-2.ensures.items) at c.extend_from_slice.ensures.items in
    let e2 : c.extend_from_slice-2.new.self.items ≡ c.extend_from_slice.new.self.items ++ c.args.value.now = rw c.unwrap-2.ensures at c.extend_from_slice-2.ensures.items in
    let e3 : c.push_reserved.new.self.items ≡ c.self.inside.places.items ++ record { name = c.len-name_at.result; value = c.len-value_at.result; end = c.len-end.result } ∷ [] = rw c.reserve.ensures.items at c.push_reserved.ensures.items in
    pushed c.self.inside.bytes.items c.args.name.now c.args.value.now c.extend_from_slice.new.self.items c.extend_from_slice-2.new.self.items c.self.inside.places.items c.push_reserved.new.self.items c.len-name_at.result c.len-value_at.result c.len-end.result c.self.invariant e1 e2
    (c.len-name_at.ensures ∙ c.reserve-2.new.self.ok.0 ∙ ap (λ (l : List ℕ). length l) c.reserve-2.ensures.items)
    (c.len-value_at.ensures ∙ c.extend_from_slice.new.self.ok.0)
    (c.len-end.ensures ∙ c.extend_from_slice-2.new.self.ok.0) e3

pub invariant_of-self-2 : goal.invariant_of-self-2
invariant_of-self-2 c = (both c).0

pub returns-clause-ok : goal.returns-clause-ok
returns-clause-ok c =
    let e1 : c.extend_from_slice.new.self.items ≡ c.self.inside.bytes.items ++ c.args.name.now = rw (c.unwrap.ensures, c.reserve-2.ensures.items) at c.extend_from_slice.ensures.items in
    let e2 : c.extend_from_slice-2.new.self.items ≡ c.extend_from_slice.new.self.items ++ c.args.value.now = rw c.unwrap-2.ensures at c.extend_from_slice-2.ensures.items in
    let l1 = ap (λ (l : List ℕ). length l) e1 ∙ length-append c.self.inside.bytes.items c.args.name.now in
    let l2 = ap (λ (l : List ℕ). length l) e2 ∙ length-append c.extend_from_slice.new.self.items c.args.value.now in
    let e3 = rw c.reserve.ensures.items at c.push_reserved.ensures.items in
    let l3 = ap (λ (l : List Place). length l) e3 ∙ length-append c.self.inside.places.items (record { name = c.len-name_at.result; value = c.len-value_at.result; end = c.len-end.result } ∷ []) in
    let h = (both c).1 ∙ ap (λ (d : BuiltHeaders). d.headers ++ record { name = c.args.name.now; value = c.args.value.now } ∷ []) c.self.view_is in
    let p = ap (λ (d : BuiltHeaders). d.lines) c.self.view_is in
    let q = ap (λ (d : BuiltHeaders). d.bytes) c.self.view_is in
    (h, omega (arith, l3, p, c.reserve.ensures.capacity, c.push_reserved.ensures.capacity), omega (arith, l1, l2, q, c.reserve-2.ensures.capacity, c.extend_from_slice.ensures.capacity, c.extend_from_slice-2.ensures.capacity))
