-- The Transport header of an answer, by the pieces that are written.
use Rattle.std.proofs.Common.{ℕ, ◌≡◌, ◌+◌, ◌/◌, ◌%◌, List, [], ◌∷◌, ◌++◌, sym, codes, decimal, append_assoc}
use Rattle.std.specs.List.{concat}
use Rattle.std.proofs.lemmas.List.{append-nil}
use Rattle.rtsp_text.specs.Hexadecimal.{hex_text}
use Rattle.rtsp_transport.specs.Granted.{udp_text, mux_text, udp_from_text, mux_from_text}

-- The fixed texts are variables here, since `simp` would compute them to their bytes.
udp_regrouped : (front quote one slash two close middle three four behind last : List ℕ) →
    front ++ (quote ++ one ++ slash ++ two ++ close) ++ middle ++ (quote ++ three ++ slash ++ four ++ close) ++ behind ++ last ≡
    front ++ (quote ++ (one ++ (slash ++ (two ++ (close ++ (middle ++ (quote ++ (three ++ (slash ++ (four ++ (close ++ (behind ++ (last ++ [])))))))))))))
udp_regrouped front quote one slash two close middle three four behind last = simp (append_assoc, append-nil)

mux_regrouped : (front quote one close middle two behind last : List ℕ) →
    front ++ (quote ++ one ++ close) ++ middle ++ (quote ++ two ++ close) ++ behind ++ last ≡
    front ++ (quote ++ (one ++ (close ++ (middle ++ (quote ++ (two ++ (close ++ (behind ++ (last ++ [])))))))))
mux_regrouped front quote one close middle two behind last = simp (append_assoc, append-nil)

-- where two fixed texts meet, one piece has both
pub udp_pieces : (client_rtp client_rtcp server_rtp ssrc : ℕ) →
    concat (
    codes "RTP/AVP;unicast;dest_addr=\":" ∷ decimal client_rtp ∷ codes "\"/\":" ∷ decimal client_rtcp ∷
    codes "\";src_addr=\":" ∷ decimal server_rtp ∷ codes "\"/\":" ∷ decimal (server_rtp + 1) ∷
    codes "\";ssrc=" ∷ hex_text 8 ssrc ∷ []) ≡ udp_text client_rtp client_rtcp server_rtp ssrc
udp_pieces client_rtp client_rtcp server_rtp ssrc =
    sym (udp_regrouped (codes "RTP/AVP;unicast;dest_addr=") (codes "\":") (decimal client_rtp) (codes "\"/\":") (decimal client_rtcp) (codes "\"") (codes ";src_addr=") (decimal server_rtp) (decimal (server_rtp + 1)) (codes ";ssrc=") (hex_text 8 ssrc))

pub mux_pieces : (client server ssrc : ℕ) →
    concat (
    codes "RTP/AVP;unicast;dest_addr=\":" ∷ decimal client ∷ codes "\";src_addr=\":" ∷ decimal server ∷
    codes "\";RTCP-mux;ssrc=" ∷ hex_text 8 ssrc ∷ []) ≡ mux_text client server ssrc
mux_pieces client server ssrc =
    sym (mux_regrouped (codes "RTP/AVP;unicast;dest_addr=") (codes "\":") (decimal client) (codes "\"") (codes ";src_addr=") (decimal server) (codes ";RTCP-mux;ssrc=") (hex_text 8 ssrc))

-- ---- from another host

udp_from_regrouped : (front colon one slash two close middle quote a dot b c d mark three four stroke behind last : List ℕ) →
    front ++ (colon ++ one ++ slash ++ two ++ close) ++ middle ++ ((quote ++ (a ++ (dot ++ (b ++ (dot ++ (c ++ (dot ++ d)))))) ++ mark ++ three ++ close) ++ stroke ++ (quote ++ (a ++ (dot ++ (b ++ (dot ++ (c ++ (dot ++ d)))))) ++ mark ++ four ++ close)) ++ behind ++ last ≡
    front ++ (colon ++ (one ++ (slash ++ (two ++ (close ++ (middle ++ (quote ++ (a ++ (dot ++ (b ++ (dot ++ (c ++ (dot ++ (d ++ (mark ++ (three ++ (close ++ (stroke ++ (quote ++ (a ++ (dot ++ (b ++ (dot ++ (c ++ (dot ++ (d ++ (mark ++ (four ++ (close ++ (behind ++ (last ++ [])))))))))))))))))))))))))))))))
udp_from_regrouped front colon one slash two close middle quote a dot b c d mark three four stroke behind last = simp (append_assoc, append-nil)

mux_from_regrouped : (front colon one close middle quote a dot b c d mark two behind last : List ℕ) →
    front ++ (colon ++ one ++ close) ++ middle ++ (quote ++ (a ++ (dot ++ (b ++ (dot ++ (c ++ (dot ++ d)))))) ++ mark ++ two ++ close) ++ behind ++ last ≡
    front ++ (colon ++ (one ++ (close ++ (middle ++ (quote ++ (a ++ (dot ++ (b ++ (dot ++ (c ++ (dot ++ (d ++ (mark ++ (two ++ (close ++ (behind ++ (last ++ [])))))))))))))))))
mux_from_regrouped front colon one close middle quote a dot b c d mark two behind last = simp (append_assoc, append-nil)

pub udp_from_pieces : (client_rtp client_rtcp host server_rtp ssrc : ℕ) →
    concat (
    codes "RTP/AVP;unicast;dest_addr=\":" ∷ decimal client_rtp ∷ codes "\"/\":" ∷ decimal client_rtcp ∷ codes "\";src_addr=\"" ∷
    decimal (host / 0x1000000) ∷ codes "." ∷ decimal (host / 0x10000 % 256) ∷ codes "." ∷ decimal (host / 0x100 % 256) ∷ codes "." ∷ decimal (host % 256) ∷
    codes ":" ∷ decimal server_rtp ∷ codes "\"/\"" ∷
    decimal (host / 0x1000000) ∷ codes "." ∷ decimal (host / 0x10000 % 256) ∷ codes "." ∷ decimal (host / 0x100 % 256) ∷ codes "." ∷ decimal (host % 256) ∷
    codes ":" ∷ decimal (server_rtp + 1) ∷ codes "\";ssrc=" ∷ hex_text 8 ssrc ∷ []) ≡ udp_from_text client_rtp client_rtcp host server_rtp ssrc
udp_from_pieces client_rtp client_rtcp host server_rtp ssrc =
    sym (udp_from_regrouped (codes "RTP/AVP;unicast;dest_addr=") (codes "\":") (decimal client_rtp) (codes "\"/\":") (decimal client_rtcp) (codes "\"") (codes ";src_addr=") (codes "\"") (decimal (host / 0x1000000)) (codes ".") (decimal (host / 0x10000 % 256)) (decimal (host / 0x100 % 256)) (decimal (host % 256)) (codes ":") (decimal server_rtp) (decimal (server_rtp + 1)) (codes "/") (codes ";ssrc=") (hex_text 8 ssrc))

pub mux_from_pieces : (client host server ssrc : ℕ) →
    concat (
    codes "RTP/AVP;unicast;dest_addr=\":" ∷ decimal client ∷ codes "\";src_addr=\"" ∷
    decimal (host / 0x1000000) ∷ codes "." ∷ decimal (host / 0x10000 % 256) ∷ codes "." ∷ decimal (host / 0x100 % 256) ∷ codes "." ∷ decimal (host % 256) ∷
    codes ":" ∷ decimal server ∷ codes "\";RTCP-mux;ssrc=" ∷ hex_text 8 ssrc ∷ []) ≡ mux_from_text client host server ssrc
mux_from_pieces client host server ssrc =
    sym (mux_from_regrouped (codes "RTP/AVP;unicast;dest_addr=") (codes "\":") (decimal client) (codes "\"") (codes ";src_addr=") (codes "\"") (decimal (host / 0x1000000)) (codes ".") (decimal (host / 0x10000 % 256)) (decimal (host / 0x100 % 256)) (decimal (host % 256)) (codes ":") (decimal server) (codes ";RTCP-mux;ssrc=") (hex_text 8 ssrc))
