-- The slots of a wheel up to a moment.
use Rattle.std.proofs.Common.{◌≡◌, ◌<◌, ◌+◌, ◌∙◌, ℕ, Option, Some, None, ◌%◌, List, ap, inl, inr, sym, subst, length, replicate, arith, lt_of_le_of_lt}
use Rattle.std.specs.Prelude.{slice_get}
use Rattle.std.proofs.lemmas.List.{length-replicate, get_or-replicate}
use Rattle.std.proofs.lemmas.Option.{slice_get-get_or}
use Rattle.std.proofs.lemmas.Bool.{cases_eq}
use Rattle.rtsp_pacing.specs.Wheel.{Turning, head, IsBareBefore, IsBare, IsBareUntil, IsNext}

pub bare_none : (w : Turning) → IsBareBefore w (w.done + 1)
bare_none w moment later below = absurd (omega (arith, later, below))

-- one slot more
pub bare_more : (w : Turning) (n : ℕ) → IsBareBefore w (w.done + n) → head w (w.done + n) ≡ Some None → IsBareBefore w (w.done + (n + 1))
bare_more w n bare h moment later below = elim (cases_eq moment (w.done + n)) [
  | inl same ↦ ap (λ m. head w m) same ∙ h
  | inr apart ↦ bare moment later (omega (arith, below, apart))
]

pub bare_all : (w : Turning) (end : ℕ) → IsBare w → IsBareUntil w end
bare_all w end bare moment later come near = bare moment later near

pub bare_short : (w : Turning) (end next : ℕ) → IsNext w next → end < next → IsBareUntil w end
bare_short w end next n short moment later come near = n.bare_before moment later (lt_of_le_of_lt come short)

abbrev pub nobody : Option ℕ
nobody = None

-- the slots to which nothing was linked
pub bare_slot : (i : ℕ) → i < 1024 → slice_get (replicate 1024 nobody) i ≡ Some nobody
bare_slot i small =
    let short : i < length (replicate 1024 nobody) = subst (λ n. i < n) (sym (length-replicate 1024 nobody)) small in
    slice_get-get_or (replicate 1024 nobody) i nobody short ∙ ap Some (get_or-replicate 1024 i nobody nobody small)

pub bare_new : (w : Turning) → w.heads ≡ replicate 1024 None → IsBare w
bare_new w e moment later below =
    subst (λ (hs : List (Option ℕ)). slice_get hs (moment % 1024) ≡ Some None) (sym e) (bare_slot (moment % 1024) (omega arith))
