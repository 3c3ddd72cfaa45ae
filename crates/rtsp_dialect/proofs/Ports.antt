-- Two ports, and the addresses in their place.
use Rattle.std.proofs.Common.{◌≡◌, ℕ, ◌<◌, ◌≤◌, true, List, [], ◌∷◌, ◌++◌, Some, refl, ap, subst, append_assoc}
use Rattle.std.specs.Prelude.{codes}
use Rattle.std.specs.Char.{is_ascii_digit}
use Rattle.std.specs.List.{list_all}
use Rattle.std.proofs.lemmas.Option.{same_Some}
use Rattle.rtsp_text.specs.Bytes.{is_other}
use Rattle.rtsp_text.specs.Options.{◌>>=◌}
use Rattle.rtsp_text.specs.SplitOnce.{split_once}
use Rattle.rtsp_text.specs.Decimal.{SpellsNumber}
use Rattle.rtsp_text.proofs.ByteLemmas.{all_other}
use Rattle.rtsp_text.proofs.DecimalLemmas.{digit_bytes}
use Rattle.rtsp_text.proofs.FindsLemmas.{chain_found}
use Rattle.rtsp_text.proofs.SplitLemmas.{split_parts, split_found}
use Rattle.rtsp_transport.specs.Address.{SpellsPlace, port_of}
use Rattle.rtsp_transport.proofs.AddressLemmas.{port_found, port_some}
use Rattle.rtsp_dialect.specs.ClientPort.{port_pair}
use Rattle.rtsp_dialect.specs.Within.{SpellsPorts}
use Rattle.rtsp_dialect.specs.Laws.{SaysPorts}

-- each two ports are a pair
pub pair_some : (text : List ℕ) (rtp rtcp : ℕ) → SpellsPorts text rtp rtcp → (ports : List ℕ × List ℕ) × (port_pair text ≡ Some ports)
unfolding port_pair
pair_some text rtp rtcp s =
    let none : list_all (is_other 45) s.first ≡ true = all_other is_ascii_digit 45 s.first refl (digit_bytes s.first s.rtp_port.digits.1) in
    let cut = split_found 45 s.first s.second none in
    let a = port_some s.first rtp s.rtp_port s.rtp_some s.rtp_few in
    let b = port_some s.second rtcp s.rtcp_port s.rtcp_some s.rtcp_few in
    ((s.first, s.second), rw s.parts (rw cut (rw (a, b) refl)))

-- digits have no quote
closed : (digits : List ℕ) (n : ℕ) → SpellsNumber 5 digits n → list_all (is_other 34) digits ≡ true
closed digits n s = all_other is_ascii_digit 34 digits refl (digit_bytes digits s.digits.1)

place_only : (digits : List ℕ) (n : ℕ) → SpellsNumber 5 digits n × (0 < n) × (n ≤ 65535) → SpellsPlace (58 ∷ digits) (record { host = []; port = n })
place_only digits n p = record { digits = digits; parts = refl; host = refl; port = p.0; some = p.1; few = p.2 }

cut_says : (text : List ℕ) (ports : List ℕ × List ℕ) (rtp rtcp : ℕ) → text ≡ ports.0 ++ 45 ∷ ports.1 → port_of ports.0 ≡ Some rtp → port_of ports.1 ≡ Some rtcp → SaysPorts text ports
cut_says text ports rtp rtcp parts a b =
    let p = port_found ports.0 rtp a in
    let q = port_found ports.1 rtcp b in
    record {
      rtp = rtp;
      rtcp = rtcp;
      old = record { first = ports.0; second = ports.1; parts = parts; rtp_port = p.0; rtcp_port = q.0; rtp_some = p.1; rtp_few = p.2; rtcp_some = q.1; rtcp_few = q.2 };
      new = record {
        first = 58 ∷ ports.0;
        second = 58 ∷ ports.1;
        parts = ap (λ (xs : List ℕ). xs ++ 34 ∷ []) (append_assoc (34 ∷ 58 ∷ ports.0) (codes "\"/\":") ports.1);
        first_closed = closed ports.0 rtp p.0;
        second_closed = closed ports.1 rtcp q.0;
        rtp = place_only ports.0 rtp p;
        rtcp = place_only ports.1 rtcp q;
      };
    }

pub says_ports : (text : List ℕ) (ports : List ℕ × List ℕ) → port_pair text ≡ Some ports → SaysPorts text ports
unfolding port_pair
says_ports text ports e =
    let s = chain_found (split_once 45 text) (λ parts. port_of parts.0 >>= λ rtp. port_of parts.1 >>= λ rtcp. Some parts) ports e in
    let t = chain_found (port_of s.0.0) (λ rtp. port_of s.0.1 >>= λ rtcp. Some s.0) ports s.2 in
    let u = chain_found (port_of s.0.1) (λ rtcp. Some s.0) ports t.2 in
    subst (λ (p : List ℕ × List ℕ). SaysPorts text p) (same_Some s.0 ports u.2) (cut_says text s.0 t.0 u.0 (split_parts 45 text s.0 s.1).0 t.1 u.1)
