use Rattle.std.proofs.Common.{◌≡◌, ◌∙◌, ◌+◌, sym, ap, subst, ◌++◌, ◌∷◌, [], Bool, List, ℕ, length, true, arith, length-append}
use Rattle.rtsp_content.specs.Growing.{is_free}
use Rattle.rtsp_content.specs.Withdrawn.{is_withdrawn}
use Rattle.rtsp_content.proofs.GivingLemmas.{free-more}
use Rattle.rtsp_content.proofs.growing.givable.Goals as goal

pub loop-place-preserved : goal.loop-place-preserved
loop-place-preserved c =
    let before = c.loop-place.givable.items in
    let b : Bool = c.is_givable.result in
    let longer : c.push.new.self.items ≡ before ++ b ∷ [] = c.in_ok-push.ensures.items in
    let count : length before ≡ c.loop-place.place = c.loop-place.invariant.0 in (
      omega (arith, ap length longer, length-append before (b ∷ []), count),
      λ i e. free-more before b (λ p. (is_free c.args.free.now p ≡ true) × (is_withdrawn c.args.table.now.withdrawn p ≡ true)) c.loop-place.invariant.1
          (λ yes. subst (λ p. (is_free c.args.free.now p ≡ true) × (is_withdrawn c.args.table.now.withdrawn p ≡ true)) (sym count) (c.is_givable.ensures yes)) i
          (sym (ap (λ vs. is_free vs i) longer) ∙ e),
    )
