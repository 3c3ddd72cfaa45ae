use Rattle.std.proofs.Common.{◌≡◌, ◌∙◌, sym, refl, ap, subst, ◌<◌, ◌≤◌, ◌+◌, ℕ, length, Bool, List, true, false, Some, slice_get, arith}
use Rattle.std.proofs.lemmas.Option.{slice_get_read}
use Rattle.rtsp_content.specs.Growing.{Giving, Offers, StandsIn, places_in}
use Rattle.rtsp_content.specs.Numbers.{number_at}
use Rattle.rtsp_content.specs.PresentationValue.{presentation_names}
use Rattle.rtsp_content.specs.TableValue.{TableValue}
use Rattle.rtsp_content.specs.Withdrawn.{is_withdrawn, AreOfferedDistinct}
use Rattle.rtsp_content.proofs.GivingLemmas.{IsYounger, younger-than, grown-start, grown-skip, grown-offer, grown-end, grown-extends, grown-gives}
use Rattle.rtsp_content.proofs.growing.grown.Goals as goal
use Rattle.rtsp_content.proofs.growing.grown.Goals.{then-not-is_gone+in_ok-offer, else-not-is_gone}

pub loop-place-init : goal.loop-place-init
loop-place-init c =
    let v = c.old.view_is in
    let now = places_in c.in_ok-standing.standing in
    let giving : Giving = record { free = c.in_ok-free.free.items; number = c.in-Some.given; behind = c.newest-behind.result } in
    let is = c.in_ok-standing.ensures.presentations ∙ ap (λ (t : TableValue). t.presentations) v in
    let gone = subst (λ (t : TableValue). (i : ℕ) → i < length t.presentations → is_withdrawn now.withdrawn i ≡ true) v c.in_ok-standing.ensures.gone in
    let numbers = subst (λ (t : TableValue). (i : ℕ) → i < length t.presentations → number_at now.numbers i ≡ number_at t.numbers i) v
    (λ i low. c.in_ok-standing.ensures.numbers i low ∙ ap (λ ns. number_at ns i) c.as_slice-2.ensures.value) in
    grown-start c.args.old.now giving c.args.wanted.now now is c.in_ok-standing.ensures.even gone numbers

pub loop-place-preserved : goal.loop-place-preserved
loop-place-preserved c =
    let giving : Giving = record { free = c.in_ok-free.free.items; number = c.in-Some.given; behind = c.newest-behind.result } in
    let old = c.args.old.now in
    let wanted = c.args.wanted.now in
    let younger : IsYounger old giving = younger-than old c.in_ok-free.free.items c.as_slice.result.now c.newest-behind.result c.in-Some.given
    (c.as_slice.ensures.value ∙ ap (λ (t : TableValue). t.numbers) c.old.view_is) c.newest-behind.ensures (omega (arith, c.in-Some.ensures)) in
    let v = c.wanted.view_is in
    let place = c.loop-place.place in
    let withdrawn = ap (λ (t : TableValue). t.withdrawn) v in
    let gone : c.is_gone.result ≡ is_withdrawn wanted.withdrawn place = c.is_gone.ensures ∙ ap (λ ws. is_withdrawn ws place) (c.as_slice-in-loop-place.ensures.value ∙ withdrawn) in
    elim c.if-not-is_gone.branch [
      | then-not-is_gone+in_ok-offer w ↦
          let p = w.index-presentation.result.now in
          let low : place < length c.wanted.inside.presentations.items = omega (arith, c.loop-place-test.true, c.len-place-end.ensures, c.wanted.inside.presentations.ok.0) in
          let at : slice_get c.wanted.inside.presentations.items place ≡ Some p = slice_get_read c.wanted.inside.presentations.items (length c.wanted.inside.presentations.items) place p refl low w.index-presentation.ensures in
          let here : StandsIn wanted.presentations p place = subst (λ (t : TableValue). StandsIn t.presentations p place) v at in
          let apart : AreOfferedDistinct wanted.withdrawn (presentation_names wanted.presentations) = subst (λ (t : TableValue). AreOfferedDistinct t.withdrawn (presentation_names t.presentations)) v c.wanted.invariant.presentations_distinct in
          let on : is_withdrawn wanted.withdrawn place ≡ false = sym gone ∙ w.if-not-is_gone.true in
          let offers = subst (λ (free : List Bool). Offers (record { free = free; number = c.in-Some.given; behind = c.newest-behind.result }) (places_in c.loop-place.standing) p (places_in w.offer.new.self)) w.as_slice-then-not-is_gone.ensures.value w.in_ok-offer.ensures in
          rw (w.standing-is) (grown-offer old giving wanted place (places_in c.loop-place.standing) p (places_in w.offer.new.self) younger apart c.loop-place.invariant here on offers)
      | else-not-is_gone w ↦
          let off : is_withdrawn wanted.withdrawn place ≡ true = sym gone ∙ w.if-not-is_gone.false in
          rw (w.standing-is) (grown-skip old giving wanted place (places_in c.loop-place.standing) c.loop-place.invariant off)
    ]

pub returns-clause-extends : goal.returns-clause-extends
returns-clause-extends c =
    let giving : Giving = record { free = c.in_ok-free.free.items; number = c.in-Some.given; behind = c.newest-behind.result } in
    let younger : IsYounger c.args.old.now giving = younger-than c.args.old.now c.in_ok-free.free.items c.as_slice.result.now c.newest-behind.result c.in-Some.given
    (c.as_slice.ensures.value ∙ ap (λ (t : TableValue). t.numbers) c.old.view_is) c.newest-behind.ensures (omega (arith, c.in-Some.ensures)) in
    grown-extends c.args.old.now giving c.args.wanted.now c.loop-place.place c.loop-place.standing younger c.loop-place.invariant

pub returns-clause-gives : goal.returns-clause-gives
returns-clause-gives c =
    let giving : Giving = record { free = c.in_ok-free.free.items; number = c.in-Some.given; behind = c.newest-behind.result } in
    grown-gives c.args.old.now giving c.args.free.now c.args.wanted.now c.loop-place.place c.loop-place.standing c.args.old.now.server c.in_ok-free.ensures c.loop-place.invariant

pub returns-clause-offers : goal.returns-clause-offers
returns-clause-offers c =
    let giving : Giving = record { free = c.in_ok-free.free.items; number = c.in-Some.given; behind = c.newest-behind.result } in
    let same : length c.wanted.inside.presentations.items ≡ length c.args.wanted.now.presentations = ap (λ (t : TableValue). length t.presentations) c.wanted.view_is in
    let high : length c.args.wanted.now.presentations ≤ c.loop-place.place = omega (arith, c.loop-place-test.false, c.len-place-end.ensures, c.wanted.inside.presentations.ok.0, same) in
    grown-end c.args.old.now giving c.args.wanted.now c.loop-place.place (places_in c.loop-place.standing) high c.loop-place.invariant
