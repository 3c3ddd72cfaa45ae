-- The Transport header of a response (RFC 7826 section 18.54).
use Rattle.std.specs.Prelude.{ℕ, ◌+◌, List, ◌++◌, codes, decimal}
use Rattle.rtsp_text.specs.Hexadecimal.{hex_text}
use Rattle.rtsp_transport.specs.Peer.{peer_text}
use Rattle.rtsp_transport.specs.declared.write.Granted.{Granted}
use Rattle.rtsp_transport.specs.declared.write.Granted.TheVariants.{Udp, Mux, UdpFrom, MuxFrom, Inter}

-- a quoted address without a host
abbrev pub port_text : ℕ → List ℕ
port_text port = codes "\":" ++ decimal port ++ codes "\""

-- two quoted addresses without hosts, joined by a slash
abbrev pub ports_text : ℕ → ℕ → List ℕ
ports_text rtp rtcp = codes "\":" ++ decimal rtp ++ codes "\"/\":" ++ decimal rtcp ++ codes "\""

-- a quoted address with its host, which is told where it isn't the one that the client connected to
abbrev pub hosted_text : ℕ → ℕ → List ℕ
hosted_text host port = codes "\"" ++ peer_text host ++ codes ":" ++ decimal port ++ codes "\""

-- two of them, joined by a slash
abbrev pub hosted_pair_text : ℕ → ℕ → ℕ → List ℕ
hosted_pair_text host rtp rtcp = hosted_text host rtp ++ codes "/" ++ hosted_text host rtcp

-- the protocol, the client's ports and the server's, and the SSRC
abbrev pub udp_text : ℕ → ℕ → ℕ → ℕ → List ℕ
udp_text client_rtp client_rtcp server_rtp ssrc =
    codes "RTP/AVP;unicast;dest_addr=" ++ ports_text client_rtp client_rtcp ++ codes ";src_addr=" ++ ports_text server_rtp (server_rtp + 1) ++ codes ";ssrc=" ++ hex_text 8 ssrc

-- the protocol, one port of each, and the SSRC
abbrev pub mux_text : ℕ → ℕ → ℕ → List ℕ
mux_text client server ssrc =
    codes "RTP/AVP;unicast;dest_addr=" ++ port_text client ++ codes ";src_addr=" ++ port_text server ++ codes ";RTCP-mux;ssrc=" ++ hex_text 8 ssrc

-- as udp_text, from this host
abbrev pub udp_from_text : ℕ → ℕ → ℕ → ℕ → ℕ → List ℕ
udp_from_text client_rtp client_rtcp host server_rtp ssrc =
    codes "RTP/AVP;unicast;dest_addr=" ++ ports_text client_rtp client_rtcp
    ++ codes ";src_addr=" ++ hosted_pair_text host server_rtp (server_rtp + 1) ++ codes ";ssrc=" ++ hex_text 8 ssrc

-- as mux_text, from this host
abbrev pub mux_from_text : ℕ → ℕ → ℕ → ℕ → List ℕ
mux_from_text client host server ssrc =
    codes "RTP/AVP;unicast;dest_addr=" ++ port_text client ++ codes ";src_addr=" ++ hosted_text host server ++ codes ";RTCP-mux;ssrc=" ++ hex_text 8 ssrc

-- the protocol, the two channels, and the SSRC
abbrev pub inter_text : ℕ → ℕ → List ℕ
inter_text channel ssrc =
    codes "RTP/AVP/TCP;unicast;interleaved=" ++ decimal channel ++ codes "-" ++ decimal (channel + 1) ++ codes ";ssrc=" ++ hex_text 8 ssrc

-- the header's value for each kind of transport
abbrev pub transport_text : Granted → List ℕ
transport_text (Udp client_rtp client_rtcp server_rtp ssrc) = udp_text client_rtp client_rtcp server_rtp ssrc
transport_text (Mux client server ssrc) = mux_text client server ssrc
transport_text (UdpFrom client_rtp client_rtcp host server_rtp ssrc) = udp_from_text client_rtp client_rtcp host server_rtp ssrc
transport_text (MuxFrom client host server ssrc) = mux_from_text client host server ssrc
transport_text (Inter channel ssrc) = inter_text channel ssrc
