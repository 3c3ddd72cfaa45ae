-- The RTP-Info header (RFC 7826 section 18.45).
use Rattle.std.specs.Prelude.{ℕ, ◌+◌, ◌*◌, ◌%◌, List, [], ◌∷◌, ◌++◌, decimal}
use Rattle.std.specs.List.{flat_map}
use Rattle.rtsp_grammar.specs.Header.{HeaderText}
use Rattle.rtsp_text.specs.Hexadecimal.{hex_text}
use Rattle.rtsp_state.specs.declared.words.Field.TheVariants as fields
use Rattle.rtsp_state.specs.declared.words.Word.TheVariants as words
use Rattle.rtsp_state.specs.declared.rtp_info.StreamInfo.{StreamInfo}
use Rattle.rtsp_state.specs.Words.{name_of_field, text_of}

-- the sequence number of a play's first packet: the session's first one and those of the units that were sent, modulo 2^16
unfoldable pub seq_text : StreamInfo → ℕ → List ℕ
seq_text p sent = text_of words.SeqIs ++ decimal ((p.seq + sent * p.packets) % 65536)

-- the timestamp of that packet, modulo 2^32
unfoldable pub rtptime_text : StreamInfo → ℕ → List ℕ
rtptime_text p sent = text_of words.RtptimeIs ++ decimal ((p.rtptime + sent * p.ticks) % 4294967296)

unfoldable pub source_part : StreamInfo → List ℕ
source_part p = text_of words.UrlIs ++ p.url ++ text_of words.SsrcIs ++ hex_text 8 p.ssrc

unfoldable pub stream_info_text : StreamInfo → ℕ → List ℕ
stream_info_text p sent = source_part p ++ seq_text p sent ++ rtptime_text p sent

unfoldable pub next_stream_info : ℕ → StreamInfo → List ℕ
next_stream_info sent p = text_of words.Comma ++ stream_info_text p sent

-- one part a stream, with commas between them
abbrev pub info_text : List StreamInfo → ℕ → List ℕ
info_text [] sent = []
info_text (p ∷ ps) sent = stream_info_text p sent ++ flat_map (next_stream_info sent) ps

abbrev pub info_line : List StreamInfo → ℕ → HeaderText
info_line parts sent = record { name = name_of_field fields.RtpInfo; value = info_text parts sent }
