-- What `get_one` of `u64` gives is the number of the option's text.
use Rattle.std.proofs.Common.{◌≡◌, ◌∙◌, ℕ, Bool, true, false, List, Option, Some, None, Result, Ok, Err, refl, ap, arith, ◌<◌, ◌^◌, option_and_then}
use Rattle.std.specs.Str.Parse.{ParsesUnsigned, digits_value, without_leading_plus}
use Rattle.clap.specs.Words.{ReadsOne, Text, one_text, rows_of}
use Rattle.clap.specs.ValueTests.{accepts}
use Rattle.clap.specs.declared.parser.matches.Found.{Found}
use Rattle.clap.proofs.ValueTestLemmas.{accepts-Accepts, Accepts-accepts}
use Rattle.clap.proofs.WalkLemmas.{one_text-rows}
use Rattle.rtsp_command_line.specs.CommandLine.{any_number, number_of, number_in}

-- a text that `u64` reads has the number, and no other has one
pub text_number : (E : Type 0) (gives : List ℕ → Result ℕ E → Type 0) → ((t : List ℕ) (x : Result ℕ E) → gives t x → ParsesUnsigned 64 10 t x)
    → (t : List ℕ) (r : Option ℕ) → ReadsOne gives t r → r ≡ number_of t
text_number E gives parses t (Some n) h =
    let p = parses t (Ok n) h in
    let fits : digits_value 10 (without_leading_plus t) < 2 ^ 64 = p.0.1 in
    rw (Accepts-accepts false any_number t (p.0.0, fits, omega arith, omega arith)) (ap Some p.1)
text_number E gives parses t None h = go (accepts false any_number t) refl
  where
    go : (b : Bool) → accepts false any_number t ≡ b → None ≡ number_of t
    go false e = rw e refl
    go true e =
        let a = accepts-Accepts false any_number t e in
        absurd (parses t (Err h.0) h.1 (a.0, a.1))

pub option_number : (E : Type 0) (gives : List ℕ → Result ℕ E → Type 0) → ((t : List ℕ) (x : Result ℕ E) → gives t x → ParsesUnsigned 64 10 t x)
    → (f : Found) (id : Text) (r : Option ℕ) → (one_text f id ≡ None → r ≡ None) → ((t : List ℕ) → one_text f id ≡ Some t → ReadsOne gives t r)
    → r ≡ number_in id (rows_of f)
option_number E gives parses f id r none value = go (one_text f id) refl ∙ ap (option_and_then number_of) (one_text-rows f id)
  where
    go : (o : Option Text) → one_text f id ≡ o → r ≡ option_and_then number_of o
    go None e = none e
    go (Some t) e = text_number E gives parses t r (value t e)
