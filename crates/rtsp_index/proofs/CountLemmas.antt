-- Counts follow the records of a book.
use Rattle.std.proofs.Common.{◌≡◌, ◌==◌, ℕ, ◌+◌, ◌-◌, ◌^◌, ◌<◌, ◌≤◌, List, [], ◌∷◌, refl, sym, ◌∙◌, ap, subst, arith}
use Rattle.std.specs.Prelude.{Option, Some, None, sum_by}
use Rattle.std.specs.FinMap.{entries, entries_sorted, get-entries}
use Rattle.std.proofs.lemmas.List.Sums.{sum_by-cons}
use Rattle.rtsp_record.specs.declared.holdings.Whole.{Whole}
use Rattle.rtsp_record.specs.declared.payloads.Binding.{Binding}
use Rattle.rtsp_record.specs.declared.changes.Record.{Record}
use Rattle.rtsp_record.specs.declared.changes.Record.TheVariants.{Open, Bind, Unbind}
use Rattle.rtsp_record.specs.Records.{inverse_of}
use Rattle.rtsp_record.specs.Books.{Session, Book, after}
use Rattle.rtsp_record.specs.Sums.{one_if, if_there, of_session, amount, sessions, returns, living, owed}
use Rattle.rtsp_record.specs.Sound.{Sound}
use Rattle.rtsp_record.proofs.Tables.{same_table}
use Rattle.rtsp_record.proofs.Sound.{at_most_one}
use Rattle.rtsp_record.proofs.Balance.{gain, balance}
use Rattle.rtsp_record.proofs.Options.{no_admissions}
use Rattle.rtsp_sessions.specs.Plain.{table_of, is_open}
use Rattle.rtsp_sessions.proofs.SortedRows.{told, get_from}
use Rattle.rtsp_sessions.proofs.FitLemmas.{owed_few}
use Rattle.rtsp_index.specs.Following.{Follows}
use Rattle.rtsp_index.specs.Bound.{bindings_of}

opens_gain : (r : Record) → gain sessions r ≡ one_if (is_open r)
opens_gain (Open k) = refl
opens_gain r = refl

pub living_after : (w : Whole) (b : Book) (r : Record) → Follows w b r → living (after b r) + one_if (is_open (inverse_of r)) ≡ living b + one_if (is_open r)
living_after w b r f = omega (arith, balance sessions b r f.allowed.0, opens_gain r, opens_gain (inverse_of r))

-- the rows of a book make the book
table_back : (b : Book) → table_of (entries b) ≡ b
table_back b = same_table _ _ (λ q. get_from (entries b) q (told _ (entries_sorted b)) ∙ sym (get-entries b q))

pub living_small : (w : Whole) (b : Book) (r : Record) → Follows w b r → w.sessions < 2 ^ 16 → living b < 2 ^ 16
living_small w b r f small = omega (arith, f.sound.few, small)

pub owed_small : (w : Whole) (b : Book) (r : Record) → Follows w b r → w.sessions < 2 ^ 16 → owed b < 2 ^ 32
owed_small w b r f small =
    omega (arith, small, ap owed (table_back b), owed_few w (entries b) (told _ (entries_sorted b)) (subst (Sound w) (sym (table_back b)) f.sound))

pub bound_after : (w : Whole) (b : Book) (r : Record) (c : ℕ) → Follows w b r → amount (bindings_of c) (after b r) + gain (bindings_of c) (inverse_of r) ≡ amount (bindings_of c) b + gain (bindings_of c) r
bound_after w b r c f = balance (bindings_of c) b r f.allowed.0

-- no more are bound to a connection than live
one_bound : (c : ℕ) (o : Option (ℕ × ℕ)) → if_there (bindings_of c).binding o ≤ if_there (λ _. 1) o
one_bound c None = omega arith
one_bound c (Some k) = at_most_one (k.0 == c)

no_more_bound : (c : ℕ) (es : List (ℕ × Session)) → sum_by (λ e. of_session (bindings_of c) e.1) es ≤ sum_by (λ e. of_session returns e.1) es
no_more_bound c [] = omega arith
no_more_bound c (e ∷ es) =
    omega (arith, no_more_bound c es, sum_by-cons (λ (e : ℕ × Session). of_session (bindings_of c) e.1) e es, sum_by-cons (λ (e : ℕ × Session). of_session returns e.1) e es, one_bound c e.1.binding, no_admissions (entries e.1.admissions))

pub bound_small : (w : Whole) (b : Book) (r : Record) (c : ℕ) → Follows w b r → w.sessions < 2 ^ 16 → amount (bindings_of c) b < 2 ^ 32 - 1
bound_small w b r c f small =
    omega (arith, small, no_more_bound c (entries b), ap owed (table_back b), owed_few w (entries b) (told _ (entries_sorted b)) (subst (Sound w) (sym (table_back b)) f.sound))

-- a Bind is one more on its connection, an Unbind one less, and another record none
pub bound_by : (w : Whole) (b : Book) (r : Record) (k : Binding) → r ≡ Bind k → Follows w b r → (c : ℕ) → amount (bindings_of c) (after b r) ≡ amount (bindings_of c) b + one_if (k.conn == c)
bound_by w b r k is =
    subst (λ r. Follows w b r → (c : ℕ) → amount (bindings_of c) (after b r) ≡ amount (bindings_of c) b + one_if (k.conn == c)) (sym is)
    (λ f c. omega (arith, bound_after w b (Bind k) c f))

pub unbound_by : (w : Whole) (b : Book) (r : Record) (k : Binding) → r ≡ Unbind k → Follows w b r → (c : ℕ) → amount (bindings_of c) (after b r) + one_if (k.conn == c) ≡ amount (bindings_of c) b
unbound_by w b r k is =
    subst (λ r. Follows w b r → (c : ℕ) → amount (bindings_of c) (after b r) + one_if (k.conn == c) ≡ amount (bindings_of c) b) (sym is)
    (λ f c. omega (arith, bound_after w b (Unbind k) c f))

pub bound_still : (w : Whole) (b : Book) (r : Record) → ((k : Binding) → r ≡ Bind k → ⊥) → ((k : Binding) → r ≡ Unbind k → ⊥) → Follows w b r → (c : ℕ) → amount (bindings_of c) (after b r) ≡ amount (bindings_of c) b
bound_still w b (Bind k) h g f c = absurd (h k refl)
bound_still w b (Unbind k) h g f c = absurd (g k refl)
bound_still w b r h g f c = omega (arith, bound_after w b r c f)
