-- Renewals move the ends of sessions in steps.
use Rattle.std.proofs.Common.{◌≡◌, ℕ, ◌+◌, ◌<◌, ◌≤◌, Bool, true, false, cond, refl, sym, ap, subst, ◌∙◌, arith, Option, Some, None, nat_le, max}
use Rattle.std.proofs.lemmas.Bool.{leb-true, leb-false}
use Rattle.rtsp_state.specs.declared.method.Method.{Method}
use Rattle.rtsp_state.specs.declared.method.Method.TheVariants as methods
use Rattle.rtsp_state.specs.Renewal.{later_by, renewal_of, renewal, end_after, Renewing, until_of, end_of, RenewsInSteps}

moves_by : (step e u n : ℕ) → later_by step e u ≡ Some n → e + step ≤ n
moves_by step e u n h = go (nat_le (e + step) u) refl h where
  go : (b : Bool) → nat_le (e + step) u ≡ b → cond b (Some u) None ≡ Some n → e + step ≤ n
  go true is h = let same : u ≡ n = cc in omega (arith, leb-true (e + step) u is, same)
  go false is h = absurd cc

lasts_by : (step e u : ℕ) → 1 ≤ step → u < end_after e (later_by step e u) + step
lasts_by step e u some = go (nat_le (e + step) u) refl where
  go : (b : Bool) → nat_le (e + step) u ≡ b → u < end_after e (cond b (Some u) None) + step
  go true is = omega (arith, some)
  go false is = leb-false (e + step) u is

later_by_one : (step e u : ℕ) → step ≡ 1 → end_after e (later_by step e u) ≡ max e u
later_by_one step e u one = go (nat_le (e + step) u) refl where
  go : (b : Bool) → nat_le (e + step) u ≡ b → end_after e (cond b (Some u) None) ≡ max e u
  go true is = omega (arith, one, leb-true (e + step) u is)
  go false is = omega (arith, one, leb-false (e + step) u is)

-- each method but TEARDOWN renews
other_renews : (m : Method) (until : Option ℕ) → ¬ (m ≡ methods.Teardown) → renewal_of m until ≡ until
other_renews methods.Options until other = refl
other_renews methods.Describe until other = refl
other_renews methods.Setup until other = refl
other_renews methods.Play until other = refl
other_renews methods.Pause until other = refl
other_renews methods.Teardown until other = absurd (other refl)
other_renews methods.GetParameter until other = refl
other_renews methods.SetParameter until other = refl

renewal_is : (r : Renewing) → renewal r.table r.request r.view r.moment ≡ later_by r.table.server.renewal_step r.view.1.expires (until_of r)
unfolding renewal
renewal_is r = other_renews r.request.method (later_by r.table.server.renewal_step r.view.1.expires (until_of r)) r.renews

end_is : (r : Renewing) → end_of r ≡ end_after r.view.1.expires (later_by r.table.server.renewal_step r.view.1.expires (until_of r))
end_is r = ap (end_after r.view.1.expires) (renewal_is r)

pub renews_in_steps : RenewsInSteps
renews_in_steps = record {
  moves = λ r until e. moves_by r.table.server.renewal_step r.view.1.expires (until_of r) until (sym (renewal_is r) ∙ e);
  lasts = λ r. subst (λ (n : ℕ). until_of r < n + r.table.server.renewal_step) (sym (end_is r)) (lasts_by r.table.server.renewal_step r.view.1.expires (until_of r) r.within.step_least);
  by_one = λ r one. end_is r ∙ later_by_one r.table.server.renewal_step r.view.1.expires (until_of r) one;
}
