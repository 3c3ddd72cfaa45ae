use Rattle.std.proofs.Common.{ℕ, List, subst}
use Rattle.std.specs.Prelude.{IsOk}
use Rattle.rtsp_text.specs.Appending.{HasRoom}
use Rattle.rtsp_transport.proofs.GrantedLemmas.{udp_from_pieces}
use Rattle.rtsp_transport.proofs.write.write_udp_from.Goals as goal

pub returns-clause-ok : goal.returns-clause-ok
returns-clause-ok c = simp (c.as_bytes-first.ensures.value, c.format.ensures.text, c.as_bytes-second.ensures.value, c.format-2.ensures.text, c.as_bytes-third.ensures.value, c.format-3.ensures.text, c.as_bytes-fourth.ensures.value, c.format-4.ensures.text, c.as_bytes.ensures.value, c.format-5.ensures.text, c.as_bytes-2.ensures.value, c.format-6.ensures.text, c.as_bytes-3.ensures.value, c.format-7.ensures.text, c.as_bytes-4.ensures.value, c.format-8.ensures.text, c.from.ensures, c.hex_digits_u32.ensures, udp_from_pieces) at c.append_all.ensures.ok

pub returns-clause-succeeds : goal.returns-clause-succeeds
returns-clause-succeeds c =
    subst (λ (t : List ℕ). HasRoom c.args.out.now t → IsOk c.append_all.result) (udp_from_pieces c.args.client_rtp c.args.client_rtcp c.args.host c.args.server_rtp c.args.ssrc)
    (simp (c.as_bytes-first.ensures.value, c.format.ensures.text, c.as_bytes-second.ensures.value, c.format-2.ensures.text, c.as_bytes-third.ensures.value, c.format-3.ensures.text, c.as_bytes-fourth.ensures.value, c.format-4.ensures.text, c.as_bytes.ensures.value, c.format-5.ensures.text, c.as_bytes-2.ensures.value, c.format-6.ensures.text, c.as_bytes-3.ensures.value, c.format-7.ensures.text, c.as_bytes-4.ensures.value, c.format-8.ensures.text, c.from.ensures, c.hex_digits_u32.ensures) at c.append_all.ensures.succeeds)
