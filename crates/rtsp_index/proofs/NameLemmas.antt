-- Names follow the records of a book.
use Rattle.std.proofs.Common.{◌≡◌, ◌≢◌, ◌==◌, ◌<◌, ℕ, Bool, true, false, ◌&&◌, ◌⊎◌, refl, sym, ◌∙◌, ap, inl, inr, arith}
use Rattle.std.specs.Prelude.{Option, Some, None, option_and_then, nat_eq}
use Rattle.std.specs.FinMap.{get, entries, empty}
use Rattle.std.proofs.lemmas.Bool.{eqb-true, eq-eqb, cases_eq, and_parts}
use Rattle.std.proofs.lemmas.Bool.Decides.{nat_tests}
use Rattle.std.proofs.lemmas.Option.{none-some, same_Some}
use Rattle.rtsp_record.specs.declared.payloads.Life.{Life}
use Rattle.rtsp_record.specs.declared.payloads.Binding.{Binding}
use Rattle.rtsp_record.specs.declared.changes.Record.{Record}
use Rattle.rtsp_record.specs.declared.changes.Record.TheVariants.{Open, Close, Bind, Unbind}
use Rattle.rtsp_record.specs.Records.{session_of}
use Rattle.rtsp_record.specs.Books.{Session, Book, effect, after}
use Rattle.rtsp_record.specs.Sums.{Measure, one_if, if_there, of_session, amount, with_id, bindings}
use Rattle.rtsp_record.specs.Rules.{Own, Living}
use Rattle.rtsp_record.proofs.Tables.{weigh, get-set_own, get-set_else, get-none, total-at}
use Rattle.rtsp_sessions.specs.Lookups.{is_startup, number_of, with_id_in, with_startup_in}
use Rattle.rtsp_index.specs.Searching.{Passes}
use Rattle.rtsp_index.specs.Naming.{id_of, startup_of, name_at, same_startup, IsIndex}
use Rattle.rtsp_index.proofs.SearchLemmas.{only_number}

-- What sessions have of one kind of names.
module _ {K : Type 0} (of : Session → Option K) where
  name_else : (b : Book) (r : Record) (q : ℕ) → q ≢ session_of r → name_at of (after b r) q ≡ name_at of b q
  name_else b r q apart = ap (option_and_then of) (get-set_else b (session_of r) q (effect r (get b (session_of r))) apart)

  name_own : (b : Book) (r : Record) → name_at of (after b r) (session_of r) ≡ option_and_then of (effect r (get b (session_of r)))
  name_own b r = ap (option_and_then of) (get-set_own b (session_of r) (effect r (get b (session_of r))))

  -- after a record that leaves the session its name
  pub names_stay : (b : Book) (r : Record) (found : K → Option ℕ) → option_and_then of (effect r (get b (session_of r))) ≡ name_at of b (session_of r) → IsIndex (name_at of b) found → IsIndex (name_at of (after b r)) found
  names_stay b r found row was = record { named = λ j q h. sym (same q) ∙ was.named j q h; finds = λ j q h. was.finds j q (same q ∙ h) } where
    same : (q : ℕ) → name_at of b q ≡ name_at of (after b r) q
    same q =
        elim (cases_eq q (session_of r)) [
          | inl here ↦ ap (name_at of b) here ∙ sym row ∙ sym (name_own b r) ∙ ap (name_at of (after b r)) (sym here)
          | inr apart ↦ sym (name_else b r q apart)
        ]

  pub empty_index : (found : K → Option ℕ) → ((k : K) → found k ≡ None) → IsIndex (name_at of empty) found
  empty_index found none =
      record { named = λ k s h. absurd (none-some s (sym (none k) ∙ h)); finds = λ k s h. absurd (none-some k (sym (ap (option_and_then of) (get-none s)) ∙ h)) }

  -- where none is counted with a name, none has it
  pub no_name : (m : Measure) (b : Book) (k : K) (q : ℕ) → amount m b ≡ 0 → ((f : Session) → of f ≡ Some k → 0 < of_session m f) → name_at of b q ≡ Some k → ⊥
  no_name m b k q none counted has =
      elim (get b q) as (λ o. get b q ≡ o → option_and_then of o ≡ Some k → ⊥) [
        | None ↦ λ _ h. none-some k h
        | Some f ↦ λ at h. absurd (omega (arith, none, total-at (λ e. of_session m e.1) b q, ap (weigh (λ (e : ℕ × Session). of_session m e.1) q) at, counted f h))
      ] refl has

  -- what a name finds is the first session that has it
  name_number : (b : Book) (found : K → Option ℕ) (k : K) (test : ℕ × Session → Bool) → ((e : ℕ × Session) → of e.1 ≡ Some k → test e ≡ true) → ((e : ℕ × Session) → test e ≡ true → of e.1 ≡ Some k)
      → IsIndex (name_at of b) found → found k ≡ number_of test (entries b)
  name_number b found k test passes only ok = only_number b test (found k) (λ s h. there s (ok.named k s h)) (λ s h. ok.finds k s (ap (option_and_then of) h.1 ∙ only (s, h.0) h.2)) where
    there : (s : ℕ) → name_at of b s ≡ Some k → Passes test b s
    there s h =
        elim (get b s) as (λ o. get b s ≡ o → option_and_then of o ≡ Some k → Passes test b s) [
          | None ↦ λ _ h. absurd (none-some k h)
          | Some f ↦ λ at h. (f, at, passes (s, f) h)
        ] refl h

-- An index after a record that gives or takes a name.
module _ {K : Type 0} (of : Session → Option K) (b : Book) (r : Record) (k : K) (found next : K → Option ℕ)
    (either : (j : K) → (j ≡ k) ⊎ (j ≡ k → ⊥))
    (was : IsIndex (name_at of b) found)
    (kept : (j : K) → (j ≡ k → ⊥) → next j ≡ found j) where
  pub name_given : name_at of b (session_of r) ≡ None → ((q : ℕ) → name_at of b q ≡ Some k → ⊥) → option_and_then of (effect r (get b (session_of r))) ≡ Some k → next k ≡ Some (session_of r) → IsIndex (name_at of (after b r)) next
  name_given none free row finds =
      let now = name_own of b r ∙ row in
      record {
        named = λ j q h. elim (either j) [
          | inl same ↦
              let here : session_of r ≡ q = same_Some (session_of r) q (sym finds ∙ ap next (sym same) ∙ h) in
              ap (name_at of (after b r)) (sym here) ∙ now ∙ ap (λ k. Some k) (sym same)
          | inr apart ↦
              let there = was.named j q (sym (kept j apart) ∙ h) in
              name_else of b r q (λ e. none-some j (sym none ∙ ap (name_at of b) (sym e) ∙ there)) ∙ there
        ];
        finds = λ j q h. elim (cases_eq q (session_of r)) [
          | inl same ↦
              let here : k ≡ j = same_Some k j (sym now ∙ ap (name_at of (after b r)) (sym same) ∙ h) in
              ap next (sym here) ∙ finds ∙ ap (λ n. Some n) (sym same)
          | inr apart ↦
              let there = sym (name_else of b r q apart) ∙ h in
              kept j (λ e. free q (there ∙ ap (λ k. Some k) e)) ∙ was.finds j q there
        ];
      }

  pub name_taken : name_at of b (session_of r) ≡ Some k → option_and_then of (effect r (get b (session_of r))) ≡ None → next k ≡ None → IsIndex (name_at of (after b r)) next
  name_taken had row none =
      let gone = name_own of b r ∙ row in
      record {
        named = λ j q h. elim (either j) [
          | inl same ↦ absurd (none-some q (sym none ∙ ap next (sym same) ∙ h))
          | inr apart ↦
              let there = was.named j q (sym (kept j apart) ∙ h) in
              name_else of b r q (λ e. apart (same_Some j k (sym there ∙ ap (name_at of b) e ∙ had))) ∙ there
        ];
        finds = λ j q h. elim (cases_eq q (session_of r)) [
          | inl same ↦ absurd (none-some j (sym gone ∙ ap (name_at of (after b r)) (sym same) ∙ h))
          | inr apart ↦
              let there = was.finds j q (sym (name_else of b r q apart) ∙ h) in
              kept j (λ e. apart (same_Some q (session_of r) (sym there ∙ ap found e ∙ was.finds k (session_of r) had))) ∙ there
        ];
      }

pub either_startup : (k j : ℕ × ℕ) → (j ≡ k) ⊎ (j ≡ k → ⊥)
either_startup k j =
    elim (cases_eq j.0 k.0) [
      | inl one ↦ elim (cases_eq j.1 k.1) [
        | inl two ↦ inl (λ t. (one t, two t))
        | inr apart ↦ inr (λ e. apart (ap (λ (k : ℕ × ℕ). k.1) e))
      ]
      | inr apart ↦ inr (λ e. apart (ap (λ (k : ℕ × ℕ). k.0) e))
    ]

pub apart_startup : (k j : ℕ × ℕ) → (j ≡ k → ⊥) → same_startup k j ≡ false
apart_startup k j h =
    elim (same_startup k j) as (λ t. same_startup k j ≡ t → t ≡ false) [
      | true ↦ λ e. let parts = and_parts (nat_eq k.0 j.0) (nat_eq k.1 j.1) e in absurd (h (λ t. (sym (eqb-true k.0 j.0 parts.0) t, sym (eqb-true k.1 j.1 parts.1) t)))
      | false ↦ λ _. refl
    ] refl

-- What a record makes of ids and startup numbers.

-- records after which a session has the id that it had
pub id_row : (r : Record) (o : Option Session) → ((k : Life) → r ≡ Open k → ⊥) → ((k : Life) → r ≡ Close k → ⊥) → option_and_then id_of (effect r o) ≡ option_and_then id_of o
id_row (Open k) o h g = absurd (h k refl)
id_row (Close k) o h g = absurd (g k refl)
id_row r None h g = refl
id_row r (Some f) h g = refl

-- and those after which it has its startup number
pub startup_row : (r : Record) (o : Option Session) → Own r o → ((k : Binding) → r ≡ Bind k → ⊥) → ((k : Binding) → r ≡ Unbind k → ⊥)
    → option_and_then startup_of (effect r o) ≡ option_and_then startup_of o
startup_row (Open k) o own h g = sym (ap (option_and_then startup_of) own)
startup_row (Close k) o own h g = sym (ap (option_and_then startup_of) own)
startup_row (Bind k) o own h g = absurd (h k refl)
startup_row (Unbind k) o own h g = absurd (g k refl)
startup_row r None own h g = refl
startup_row r (Some f) own h g = refl

pub living_binding : (o : Option Session) (v : Option (ℕ × ℕ)) → Living o (λ f. f.binding ≡ v) → option_and_then startup_of o ≡ v
living_binding None v h = absurd h
living_binding (Some f) v h = h

pub bound_row : (o : Option Session) (k : Binding) → Living o (λ f. f.binding ≡ None) → option_and_then startup_of (effect (Bind k) o) ≡ Some (k.conn, k.number)
bound_row None k h = absurd h
bound_row (Some f) k h = refl

pub unbound_row : (o : Option Session) (k : Binding) → option_and_then startup_of (effect (Unbind k) o) ≡ None
unbound_row None k = refl
unbound_row (Some f) k = refl

-- Names that are counted.

pub no_id : (b : Book) (i q : ℕ) → amount (with_id i) b ≡ 0 → name_at id_of b q ≡ Some i → ⊥
no_id b i q none = no_name id_of (with_id i) b i q none (λ f h. let one = counted f i (same_Some f.id i h) in omega (arith, one)) where
  counted : (f : Session) (i : ℕ) → f.id ≡ i → one_if (f.id == i) ≡ 1
  counted f i same = grind (arith, nat_tests)

pub no_startup : (b : Book) (c i q : ℕ) → amount (bindings c i) b ≡ 0 → name_at startup_of b q ≡ Some (c, i) → ⊥
no_startup b c i q none = no_name startup_of (bindings c i) b (c, i) q none (λ f h. omega (arith, ap (if_there (bindings c i).binding) h, counted c i)) where
  counted : (c i : ℕ) → one_if (c == c && i == i) ≡ 1
  counted c i = grind (arith, nat_tests)

-- Look-ups.

pub id_number : (b : Book) (found : ℕ → Option ℕ) (i : ℕ) → IsIndex (name_at id_of b) found → found i ≡ with_id_in i (entries b)
id_number b found i ok = name_number id_of b found i (λ e. e.1.id == i) (λ e h. ap (λ n. n == i) (same_Some e.1.id i h) ∙ eq-eqb i i refl) (λ e h. ap (λ n. Some n) (eqb-true e.1.id i h)) ok

has_startup : (c i : ℕ) (o : Option (ℕ × ℕ)) → is_startup c i o ≡ true → o ≡ Some (c, i)
has_startup c i None h = absurd cc
has_startup c i (Some k) h = let parts = and_parts (k.0 == c) (k.1 == i) h in λ t. Some (eqb-true k.0 c parts.0 t, eqb-true k.1 i parts.1 t)

is_this_startup : (c i : ℕ) (o : Option (ℕ × ℕ)) → o ≡ Some (c, i) → is_startup c i o ≡ true
is_this_startup c i o h = ap (is_startup c i) h ∙ (λ t. eq-eqb c c refl t && (i == i)) ∙ eq-eqb i i refl

pub startup_number : (b : Book) (found : ℕ × ℕ → Option ℕ) (c i : ℕ) → IsIndex (name_at startup_of b) found → found (c, i) ≡ with_startup_in c i (entries b)
startup_number b found c i ok = name_number startup_of b found (c, i) (λ e. is_startup c i e.1.binding) (λ e h. is_this_startup c i e.1.binding h) (λ e h. has_startup c i e.1.binding h) ok
