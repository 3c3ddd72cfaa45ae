-- What it says that a test of a step passed or failed.
use Rattle.std.proofs.Common.{◌≡◌, ℕ, ◌<◌, true, false, refl, ap, arith}
use Rattle.std.specs.Prelude.{Option, Some, None, IsSome, is_some, is_none, nat_lt}
use Rattle.std.proofs.lemmas.Bool.Decides.{nat_tests}
use Rattle.rtsp_record.specs.declared.holdings.Thing.{Thing}
use Rattle.rtsp_record.specs.Books.{Session, under}
use Rattle.rtsp_record.specs.Rules.{alike, is_this, is_held}
use Rattle.rtsp_record.proofs.SameWords.{same_thing}

pub none_there : {A : Type 0} (o : Option A) → is_some o ≡ false → o ≡ None
none_there None h = refl
none_there (Some x) h = absurd cc

pub some_there : {A : Type 0} (o : Option A) → is_none o ≡ false → IsSome o
some_there None h = absurd cc
some_there (Some x) h = refl

pub no_more : (n : ℕ) → nat_lt 0 n ≡ false → n ≡ 0
no_more n h = grind (arith, nat_tests)

pub some_more : (n : ℕ) → nat_lt 0 n ≡ true → 0 < n
some_more n h = grind (arith, nat_tests)

pub held_is : (f : Session) (a : ℕ) (x : Thing) → is_held f a x ≡ true → alike x (under f a) ≡ Some x
held_is f a x h = elim (alike x (under f a)) as (λ o. is_this x o ≡ true → o ≡ Some x) [ None ↦ λ h. absurd cc | Some y ↦ λ h. ap Some (same_thing y x h) ] h
