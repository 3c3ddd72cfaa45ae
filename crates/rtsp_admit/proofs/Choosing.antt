-- Where ports are chosen.
use Rattle.std.proofs.Common.{◌≡◌, ℕ, ◌≤◌, ◌<◌, false, List, [], ◌∷◌, length, refl, sym, ◌∙◌, ap, subst, arith, Ok}
use Rattle.std.specs.Prelude.{Option, Some, None, is_none}
use Rattle.std.proofs.lemmas.Bool.{and_parts, leb-true}
use Rattle.std.proofs.lemmas.Option.{none-some, same_Some}
use Rattle.rtsp_record.specs.declared.changes.Record.{Record}
use Rattle.rtsp_record.specs.declared.holdings.Thing.TheVariants.{Pair, Port}
use Rattle.rtsp_record.specs.declared.holdings.Whole.{Whole}
use Rattle.rtsp_record.specs.Records.{holds}
use Rattle.rtsp_record.specs.Books.{Book, book_of}
use Rattle.rtsp_book.specs.declared.asks.Ask.{Ask}
use Rattle.rtsp_record.specs.Choices.{is_pair_free, is_port_free, least_pair, least_port}
use Rattle.rtsp_record.proofs.Choices.{pair_found, port_found}
use Rattle.rtsp_book.specs.Made.{hold_chosen, as_pair, as_port, made}
use Rattle.rtsp_book.specs.Replies.{refusals}
use Rattle.rtsp_book.proofs.Granted.{accepted}
use Rattle.rtsp_lock.specs.declared.view.View.{View}
use Rattle.rtsp_lock.specs.Calls.{Acted}
use Rattle.rtsp_admit.specs.declared.udp_ports.UdpPorts.{UdpPorts}
use Rattle.rtsp_admit.specs.declared.udp_ports.UdpPorts.TheVariants as udp
use Rattle.rtsp_admit.specs.Steps.{ports_from, next_above, ports_step, first_port_of, first_port_in}
use Rattle.rtsp_admit.specs.Runs.{Held}
use Rattle.rtsp_admit.proofs.Going.{made_is}

-- the ports chosen are not below where they are looked for
pair_from : (w : Whole) (b : Book) (from l : ℕ) → least_pair w b from ≡ Some l → from ≤ l
pair_from w b from l is = leb-true from l (and_parts _ _ (pair_found (is_pair_free b) w from l is).taken).0

port_from : (w : Whole) (b : Book) (from l : ℕ) → least_port w b from ≡ Some l → from ≤ l
port_from w b from l is = leb-true from l (and_parts _ _ (port_found (is_port_free b) w from l is).taken).0

pair_held : (s a p : ℕ) (o : Option ℕ) → hold_chosen s a (as_pair o) ≡ holds s a (Pair p) ∷ [] → o ≡ Some p
pair_held s a p None h = absurd cc
pair_held s a p (Some q) h = ap first_port_in h

port_held : (s a p : ℕ) (o : Option ℕ) → hold_chosen s a (as_port o) ≡ holds s a (Port p) ∷ [] → o ≡ Some p
port_held s a p None h = absurd cc
port_held s a p (Some q) h = ap first_port_in h

-- the ports that were held are not below where they were looked for
pub held_from : (ask : Ask) (kind : UdpPorts) (from p : ℕ) (v u : View) → Held ask (ports_step ask kind from) (ports_from kind p) v u → from ≤ p
held_from ask udp.Pair from p v u held =
    pair_from v.whole (book_of held.journal) from p (pair_held ask.session ask.admission p (least_pair v.whole (book_of held.journal) from) (made_is v u (ports_step ask udp.Pair from) (holds ask.session ask.admission (Pair p) ∷ []) held))
held_from ask udp.Port from p v u held =
    port_from v.whole (book_of held.journal) from p (port_held ask.session ask.admission p (least_port v.whole (book_of held.journal) from) (made_is v u (ports_step ask udp.Port from) (holds ask.session ask.admission (Port p) ∷ []) held))

-- the next try is above them
pub tries_above : (kind : UdpPorts) (p : ℕ) → p < next_above kind p
tries_above udp.Pair p = omega arith
tries_above udp.Port p = omega arith

-- a Hold of ports, and nothing else
record HoldsPorts (ask : Ask) (kind : UdpPorts) (rs : List Record) : Type 0 where
  pub first : ℕ
  pub is : rs ≡ holds ask.session ask.admission (ports_from kind first) ∷ []

pair_made : (ask : Ask) (o : Option ℕ) → is_none o ≡ false → HoldsPorts ask udp.Pair (hold_chosen ask.session ask.admission (as_pair o))
pair_made ask None h = absurd cc
pair_made ask (Some p) h = record { first = p; is = refl }

port_made : (ask : Ask) (o : Option ℕ) → is_none o ≡ false → HoldsPorts ask udp.Port (hold_chosen ask.session ask.admission (as_port o))
port_made ask None h = absurd cc
port_made ask (Some p) h = record { first = p; is = refl }

-- what a step for ports records
ports_made : (ask : Ask) (kind : UdpPorts) (from : ℕ) (v u : View) (rs : List Record) → Acted v u (ports_step ask kind from) (Ok rs) → HoldsPorts ask kind rs
ports_made ask udp.Pair from v u rs acted =
    let b = book_of acted.journal in
    let step = ports_step ask udp.Pair from in
    let answer = accepted (refusals v.whole (length acted.journal) b step) (made v.whole b step) rs acted.answers in
    subst (HoldsPorts ask udp.Pair) answer.1 (pair_made ask (least_pair v.whole b from) answer.0.no_pair)
ports_made ask udp.Port from v u rs acted =
    let b = book_of acted.journal in
    let step = ports_step ask udp.Port from in
    let answer = accepted (refusals v.whole (length acted.journal) b step) (made v.whole b step) rs acted.answers in
    subst (HoldsPorts ask udp.Port) answer.1 (port_made ask (least_port v.whole b from) answer.0.no_pair)

first_of : (kind : UdpPorts) (p : ℕ) → first_port_of (ports_from kind p) ≡ Some p
first_of udp.Pair p = refl
first_of udp.Port p = refl

-- they are told by the first of them
pub ports_held : (ask : Ask) (kind : UdpPorts) (from p : ℕ) (v u : View) (rs : List Record) → Acted v u (ports_step ask kind from) (Ok rs) → Some p ≡ first_port_in rs → Held ask (ports_step ask kind from) (ports_from kind p) v u
ports_held ask kind from p v u rs acted told =
    let ports = ports_made ask kind from v u rs acted in
    let first : p ≡ ports.first = same_Some p ports.first (told ∙ ap first_port_in ports.is ∙ first_of kind ports.first) in
    let is : rs ≡ holds ask.session ask.admission (ports_from kind p) ∷ [] = subst (λ (n : ℕ). rs ≡ holds ask.session ask.admission (ports_from kind n) ∷ []) (sym first) ports.is in
    subst (λ (l : List Record). Acted v u (ports_step ask kind from) (Ok l)) is acted

pub some_held : (ask : Ask) (kind : UdpPorts) (from : ℕ) (v u : View) (rs : List Record) → Acted v u (ports_step ask kind from) (Ok rs) → None ≡ first_port_in rs → ⊥
some_held ask kind from v u rs acted told =
    let ports = ports_made ask kind from v u rs acted in
    none-some ports.first (told ∙ ap first_port_in ports.is ∙ first_of kind ports.first)
