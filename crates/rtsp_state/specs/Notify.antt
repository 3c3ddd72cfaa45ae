-- PLAY_NOTIFY at the end of a stream (RFC 7826 section 13.5.1).
use Rattle.std.specs.Prelude.{ℕ, List, [], ◌∷◌, ◌++◌, codes, decimal, option_map, Option}
use Rattle.rtsp_grammar.specs.Header.{HeaderText}
use Rattle.rtsp_grammar.specs.declared.message.Request.{Request}
use Rattle.rtsp_grammar.specs.declared.method.Method.TheVariants as methods
use Rattle.rtsp_grammar.specs.declared.version.Version.TheVariants.{Rtsp2}
use Rattle.rtsp_npt.specs.Printed.{stop_text}
use Rattle.rtsp_record.specs.declared.phases.Phase.{Phase}
use Rattle.rtsp_record.specs.declared.phases.Phase.TheVariants as phases
use Rattle.rtsp_content.specs.PresentationValue.{PresentationValue}
use Rattle.rtsp_state.specs.declared.words.Field.TheVariants as fields
use Rattle.rtsp_state.specs.declared.media_uri.MediaUri.{MediaUri}
use Rattle.rtsp_state.specs.declared.end_of_stream.EndedPlay.{EndedPlay}
use Rattle.rtsp_state.specs.Words.{name_of_field}
use Rattle.rtsp_state.specs.Values.{uri_of, bare_text, with_slash}
use Rattle.rtsp_state.specs.Lines.{cseq_line, session_line}
use Rattle.rtsp_state.specs.Info.{info_line}
use Rattle.rtsp_state.specs.Context.{Living, streams_of}
use Rattle.rtsp_state.specs.Play.{rtp_info_from}

-- the URI that a text is, with the base of the URIs of its tracks
abbrev pub media_uri : List ℕ → Option MediaUri
media_uri text = option_map (λ url. record { text = text; base = with_slash (bare_text url) }) (uri_of text)

-- a play has reached its stop
abbrev pub IsEnded : Phase → Type 0
IsEnded (phases.Ended at sent) = Unit {0}
IsEnded (phases.Ready at sent) = ⊥
IsEnded (phases.Playing from stop sent since) = ⊥

-- the unit at which an ended play stopped
abbrev pub stop_of : Phase → ℕ
stop_of (phases.Ended at sent) = at
stop_of (phases.Ready at sent) = 0
stop_of (phases.Playing from stop sent since) = 0

-- how many units were sent before it and in it
abbrev pub sent_of : Phase → ℕ
sent_of (phases.Ended at sent) = sent
sent_of (phases.Ready at sent) = 0
sent_of (phases.Playing from stop sent since) = 0

-- why the request is sent (RFC 7826 section 18.32)
abbrev pub reason_line : HeaderText
reason_line = record { name = codes "Notify-Reason"; value = codes "end-of-stream" }

-- the PLAY was answered 200
unfoldable pub success_text : List ℕ
success_text = codes " status=200 reason=\"OK\""

-- the CSeq of the PLAY, and what it was answered (RFC 7826 section 18.42)
abbrev pub request_status_text : ℕ → List ℕ
request_status_text play_cseq = codes "cseq=" ++ decimal play_cseq ++ success_text

abbrev pub request_status_line : ℕ → HeaderText
request_status_line play_cseq = record { name = codes "Request-Status"; value = request_status_text play_cseq }

-- where the play stopped
abbrev pub stop_line : ℕ → ℕ → HeaderText
stop_line stop unit_ms = record { name = name_of_field fields.Range; value = stop_text stop unit_ms }

-- RTP-Info has the sequence number and the timestamp that a next packet would have
abbrev pub end_lines : EndedPlay → List HeaderText
end_lines p =
    cseq_line p.cseq ∷ session_line p.session ∷ reason_line ∷ request_status_line p.play_cseq ∷ stop_line p.stop p.unit_ms ∷ info_line p.info p.sent ∷ []

abbrev pub ended_play : MediaUri → Living → PresentationValue → ℕ → ℕ → EndedPlay
ended_play uri view presentation cseq play_cseq = record {
  cseq = cseq;
  session = view.1.id;
  play_cseq = play_cseq;
  stop = stop_of view.1.phase;
  unit_ms = presentation.unit_ms;
  sent = sent_of view.1.phase;
  info = rtp_info_from uri.base (streams_of view.1) 0 presentation.tracks;
}

-- the URI is that of the PLAY
abbrev pub notify : MediaUri → Living → PresentationValue → ℕ → ℕ → Request
notify uri view presentation cseq play_cseq = record {
  method = methods.PlayNotify;
  uri = uri.text;
  version = Rtsp2;
  headers = end_lines (ended_play uri view presentation cseq play_cseq);
  body = [];
}
