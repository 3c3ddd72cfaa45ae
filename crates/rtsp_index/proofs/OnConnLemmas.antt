-- Where nothing is held of a connection and nothing bound to it, no session is on it; and how the bindings of a connection follow the records of a book.
use Rattle.std.proofs.Common.{◌≡◌, ◌==◌, ℕ, ◌+◌, Bool, true, false, ◌&&◌, ◌||◌, cond, List, [], ◌∷◌, refl, sym, ◌∙◌, ap, arith}
use Rattle.std.specs.Prelude.{Option, Some, None, option_map, is_some, sum_by}
use Rattle.std.specs.FinMap.{entries}
use Rattle.std.proofs.lemmas.Bool.{eqb-true, or_from}
use Rattle.std.proofs.lemmas.Bool.Decides.{nat_tests}
use Rattle.std.proofs.lemmas.List.Sums.{sum_by-cons}
use Rattle.rtsp_record.specs.declared.holdings.Admission.{Admission}
use Rattle.rtsp_record.specs.declared.holdings.Thing.{Thing}
use Rattle.rtsp_record.specs.declared.holdings.Thing.TheVariants.{Chan}
use Rattle.rtsp_record.specs.Books.{Session, Book}
use Rattle.rtsp_record.specs.Sums.{one_if, if_there, Channel, of_admission, of_session, amount, covering}
use Rattle.rtsp_sessions.specs.Searches.{first_with, is_chan_of, is_binding_of, is_on}
use Rattle.rtsp_sessions.specs.Lookups.{number_of}
use Rattle.rtsp_index.specs.Bound.{bindings_of}

covered : (c d k : ℕ) → (d == c) ≡ true → one_if (c == d && (k == k || k == k + 1)) ≡ 1
covered c d k h = grind (arith, nat_tests)

-- channels of a connection cover one of its channels
channel_there : (c : ℕ) (o : Option Thing) → is_chan_of c o ≡ true → (k : ℕ) × (if_there (covering (Channel c k)).thing o ≡ 1)
channel_there c (Some (Chan d k)) h = (k, covered c d k h)
channel_there c o h = absurd cc

no_channels : (c : ℕ) (es : List (ℕ × Admission)) → ((l : ℕ) → sum_by (λ e. of_admission (covering (Channel c l)) e.1) es ≡ 0) → is_some (first_with (λ e. is_chan_of c e.1.address) es) ≡ false
no_channels c [] none = refl
no_channels c (e ∷ es) none =
    elim (is_chan_of c e.1.address) as (λ t. is_chan_of c e.1.address ≡ t → is_some (cond t (Some e) (first_with (λ (e : ℕ × Admission). is_chan_of c e.1.address) es)) ≡ false) [
      | true ↦ λ on.
          let there = channel_there c e.1.address on in
          absurd (omega (arith, there.1, none there.0, sum_by-cons (λ (e : ℕ × Admission). of_admission (covering (Channel c there.0)) e.1) e es))
      | false ↦ λ _. no_channels c es (λ l. omega (arith, none l, sum_by-cons (λ (e : ℕ × Admission). of_admission (covering (Channel c l)) e.1) e es))
    ] refl

off_if : (t : Bool) → one_if t ≡ 0 → t ≡ false
off_if true h = absurd cc
off_if false h = refl

no_binding : (c : ℕ) (o : Option (ℕ × ℕ)) → if_there (bindings_of c).binding o ≡ 0 → is_binding_of c o ≡ false
no_binding c None h = refl
no_binding c (Some k) h = off_if (k.0 == c) h

none_among : (c : ℕ) (es : List (ℕ × Session)) → ((l : ℕ) → sum_by (λ e. of_session (covering (Channel c l)) e.1) es ≡ 0) → sum_by (λ e. of_session (bindings_of c) e.1) es ≡ 0 → number_of (is_on c) es ≡ None
none_among c [] held bound = refl
none_among c (e ∷ es) held bound =
    let channels = no_channels c (entries e.1.admissions) (λ l. omega (arith, held l, sum_by-cons (λ (e : ℕ × Session). of_session (covering (Channel c l)) e.1) e es)) in
    let binding = no_binding c e.1.binding (omega (arith, bound, sum_by-cons (λ (e : ℕ × Session). of_session (bindings_of c) e.1) e es)) in
    ap (λ t. option_map (λ (e : ℕ × Session). e.0) (cond t (Some e) (first_with (is_on c) es))) (or_from _ _ channels binding)
    ∙ none_among c es (λ l. omega (arith, held l, sum_by-cons (λ (e : ℕ × Session). of_session (covering (Channel c l)) e.1) e es)) (omega (arith, bound, sum_by-cons (λ (e : ℕ × Session). of_session (bindings_of c) e.1) e es))

-- no channel of the connection is held, and nothing is bound to it
pub none_on : (b : Book) (c : ℕ) → ((l : ℕ) → (amount (covering (Channel c l)) b == 0) ≡ true) → amount (bindings_of c) b ≡ 0 → None ≡ number_of (is_on c) (entries b)
none_on b c free none = sym (none_among c (entries b) (λ l. eqb-true _ _ (free l)) none)
