-- What is in the whole and free, as tests.
use Rattle.std.proofs.Common.{◌≡◌, ◌==◌, ℕ, ◌+◌, ◌/◌, ◌%◌, ◌<◌, Bool, true, ◌&&◌, ◌||◌, refl, sym, ◌∙◌, ap, arith}
use Rattle.std.specs.Prelude.{IsTrue, nat_eq}
use Rattle.std.proofs.lemmas.Bool.{eqb-true, eq-eqb, and_from, or_left, or_right}
use Rattle.std.proofs.lemmas.Bool.Decides.{nat_tests}
use Rattle.rtsp_record.specs.declared.holdings.Thing.TheVariants.{Pair, Port, Chan}
use Rattle.rtsp_record.specs.declared.holdings.Whole.{Whole}
use Rattle.rtsp_record.specs.Books.{Book}
use Rattle.rtsp_record.specs.Sums.{UdpPort, Channel, amount, covering}
use Rattle.rtsp_record.specs.Rules.{InWhole, IsFree}
use Rattle.rtsp_record.specs.Choices.{is_port_free, is_pair_free, is_chan_free}
use Rattle.rtsp_record.proofs.Choices.{pair_is_free, port_is_free, chan_is_free}

pub zero_is : (n m : ℕ) → n ≡ m → (IsTrue (nat_eq n 0) → m ≡ 0) × (m ≡ 0 → IsTrue (nat_eq n 0))
zero_is n m same = (λ h. grind (arith, nat_tests), λ h. grind (arith, nat_tests))

both_zero : (n m : ℕ) → n ≡ 0 → m ≡ 0 → ((n == 0) && (m == 0)) ≡ true
both_zero n m one two = grind (arith, nat_tests)

pub both_tests : (u v r s : Bool) → r ≡ u → r ≡ true → s ≡ v → s ≡ (u && v)
both_tests u v r s one is two = two ∙ sym (ap (λ t. t && v) (sym one ∙ is))

pub even_chan : (w : Whole) (c k : ℕ) → k < 256 → (IsTrue (nat_eq (k % 2) 0) → InWhole w (Chan c k)) × (InWhole w (Chan c k) → IsTrue (nat_eq (k % 2) 0))
even_chan w c k small = (
  λ h. let even : k % 2 ≡ 0 = eqb-true (k % 2) 0 h in (k / 2, omega (arith, even), omega (arith, even)),
  λ h. let at = h.1 in eq-eqb (k % 2) 0 (omega (arith, at)),
)

pub free_pair : (w : Whole) (b : Book) (p : ℕ) (r : Bool) → InWhole w (Pair p) → r ≡ is_pair_free b p → (IsTrue r → IsFree w b (Pair p)) × (IsFree w b (Pair p) → IsTrue r)
free_pair w b p r inside is = (
  λ h. pair_is_free w b p inside (sym is ∙ h),
  λ f. is ∙ both_zero (amount (covering (UdpPort p)) b) (amount (covering (UdpPort (p + 1))) b)
      (f.free (UdpPort p) (or_left (p == p) (p == p + 1) (eq-eqb p p refl)))
      (f.free (UdpPort (p + 1)) (or_right (p + 1 == p) (p + 1 == p + 1) (eq-eqb (p + 1) (p + 1) refl))),
)

pub free_port : (w : Whole) (b : Book) (p : ℕ) (r : Bool) → InWhole w (Port p) → r ≡ is_port_free b p → (IsTrue r → IsFree w b (Port p)) × (IsFree w b (Port p) → IsTrue r)
free_port w b p r inside is = (
  λ h. port_is_free w b p inside (sym is ∙ h),
  λ f. is ∙ ap (λ n. n == 0) (f.free (UdpPort p) (eq-eqb p p refl)),
)

pub free_chan : (w : Whole) (b : Book) (c k : ℕ) (r : Bool) → InWhole w (Chan c k) → r ≡ is_chan_free b c k → (IsTrue r → IsFree w b (Chan c k)) × (IsFree w b (Chan c k) → IsTrue r)
free_chan w b c k r inside is = (
  λ h. chan_is_free w b c k inside (sym is ∙ h),
  λ f. is ∙ both_zero (amount (covering (Channel c k)) b) (amount (covering (Channel c (k + 1))) b)
      (f.free (Channel c k) (and_from (c == c) (k == k || k == k + 1) (eq-eqb c c refl) (or_left (k == k) (k == k + 1) (eq-eqb k k refl))))
      (f.free (Channel c (k + 1)) (and_from (c == c) (k + 1 == k || k + 1 == k + 1) (eq-eqb c c refl) (or_right (k + 1 == k) (k + 1 == k + 1) (eq-eqb (k + 1) (k + 1) refl)))),
)
