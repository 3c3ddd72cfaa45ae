-- What records freed of ports, unbound record by record.
use Rattle.std.proofs.Common.{◌≡◌, ℕ, ◌+◌, ◌<◌, ◌≤◌, List, ◌∷◌, length, drop, get_or, refl, sym, ◌∙◌, ap, subst}
use Rattle.std.specs.Prelude.{Option, Some, None, filter_map, map}
use Rattle.std.specs.List.{cons_option}
use Rattle.std.proofs.lemmas.List.{drop_more, drop_all}
use Rattle.rtsp_record.specs.declared.changes.Record.{Record}
use Rattle.rtsp_book.specs.Receipts.{freed_as}
use Rattle.rtsp_admit.specs.declared.udp_ports.UdpPorts.{UdpPorts}
use Rattle.rtsp_admit.specs.Binder.{Calls, Unbound, UnboundAll, booked, freed_of}
use Rattle.rtsp_admit.specs.Steps.{ports_from}

module _ {B : Type 0} (calls : Calls B) (kind : UdpPorts) where
  -- of no record
  pub all_unbound : (rs : List Record) (n : ℕ) (b : B) → length rs ≤ n → UnboundAll calls (freed_of kind (drop n rs)) b b
  all_unbound rs n b all = subst (λ (l : List Record). UnboundAll calls (freed_of kind l) b b) (sym (drop_all n rs all)) refl

  -- of one record, by what it frees, and those after it
  first_unbound : (rs : List Record) (i : ℕ) (r : Record) (o : Option (ℕ × ℕ)) (b c : B) → i < length rs → r ≡ get_or rs i r → freed_as (booked kind) r ≡ o
      → UnboundAll calls (map (λ (x : ℕ × ℕ). (x.0, ports_from kind x.1)) (cons_option o (filter_map (freed_as (booked kind)) (drop (i + 1) rs)))) b c → UnboundAll calls (freed_of kind (drop i rs)) b c
  first_unbound rs i r o b c lt is frees done =
      let rest = drop (i + 1) rs in
      let here : drop i rs ≡ r ∷ rest = drop_more rs i r lt ∙ ap (λ (x : Record). x ∷ rest) (sym is) in
      subst (λ (l : List Record). UnboundAll calls (freed_of kind l) b c) (sym here)
      (subst (λ (o : Option (ℕ × ℕ)). UnboundAll calls (map (λ (x : ℕ × ℕ). (x.0, ports_from kind x.1)) (cons_option o (filter_map (freed_as (booked kind)) rest))) b c) (sym frees) done)

  -- of a record that frees such ports, and those after it
  pub one_unbound : (rs : List Record) (i : ℕ) (r : Record) (p : ℕ × ℕ) (b d c : B) → i < length rs → r ≡ get_or rs i r → freed_as (booked kind) r ≡ Some p
      → Unbound calls p.0 (ports_from kind p.1) b d → UnboundAll calls (freed_of kind (drop (i + 1) rs)) d c → UnboundAll calls (freed_of kind (drop i rs)) b c
  one_unbound rs i r p b d c lt is frees unbound rest = first_unbound rs i r (Some p) b c lt is frees (d, unbound, rest)

  -- of a record that frees none, and those after it
  pub none_unbound : (rs : List Record) (i : ℕ) (r : Record) (b c : B) → i < length rs → r ≡ get_or rs i r → freed_as (booked kind) r ≡ None → UnboundAll calls (freed_of kind (drop (i + 1) rs)) b c → UnboundAll calls (freed_of kind (drop i rs)) b c
  none_unbound rs i r b c lt is frees rest = first_unbound rs i r None b c lt is frees rest
