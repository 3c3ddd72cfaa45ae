use Rattle.std.proofs.Common.{ℕ, List, ◌∙◌, ap, sym, subst}
use Rattle.std.specs.Prelude.{IsOk}
use Rattle.rtsp_text.specs.Appending.{HasRoom}
use Rattle.rtsp_transport.specs.Granted.{transport_text}
use Rattle.rtsp_transport.proofs.GrantedLemmas.{udp_pieces, mux_pieces}
use Rattle.rtsp_transport.proofs.write.write_transport.Goals as goal

pub returns-in-Udp-clause-ok : goal.returns-in-Udp-clause-ok
returns-in-Udp-clause-ok c =
    rw c.in-Udp.is
    (simp (c.as_bytes.ensures.value, c.format.ensures.text, c.as_bytes-in-Udp.ensures.value, c.format-in-Udp.ensures.text, c.as_bytes-in-Udp-2.ensures.value, c.format-in-Udp-2.ensures.text, c.as_bytes-in-Udp-3.ensures.value, c.format-in-Udp-3.ensures.text, c.from.ensures, c.hex_digits_u32.ensures, udp_pieces) at c.append_all.ensures.ok)

pub returns-in-Udp-clause-succeeds : goal.returns-in-Udp-clause-succeeds
returns-in-Udp-clause-succeeds c =
    let text = udp_pieces c.in-Udp.client_rtp c.in-Udp.client_rtcp c.in-Udp.server_rtp c.in-Udp.ssrc ∙ ap transport_text (sym c.in-Udp.is) in
    subst (λ (t : List ℕ). HasRoom c.args.out.now t → IsOk c.append_all.result) text
    (simp (c.as_bytes.ensures.value, c.format.ensures.text, c.as_bytes-in-Udp.ensures.value, c.format-in-Udp.ensures.text, c.as_bytes-in-Udp-2.ensures.value, c.format-in-Udp-2.ensures.text, c.as_bytes-in-Udp-3.ensures.value, c.format-in-Udp-3.ensures.text, c.from.ensures, c.hex_digits_u32.ensures) at c.append_all.ensures.succeeds)

pub returns-in-Mux-clause-ok : goal.returns-in-Mux-clause-ok
returns-in-Mux-clause-ok c =
    rw c.in-Mux.is
    (simp (c.as_bytes-in-Mux.ensures.value, c.format-in-Mux.ensures.text, c.as_bytes-in-Mux-2.ensures.value, c.format-in-Mux-2.ensures.text, c.hex_digits_u32-in-Mux.ensures, mux_pieces) at c.append_all-in-Mux.ensures.ok)
