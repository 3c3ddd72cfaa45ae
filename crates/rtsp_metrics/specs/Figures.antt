-- The figures of a server, family by family.
use Rattle.std.specs.Prelude.{ℕ, ◌+◌, List, [], ◌∷◌, ◌++◌, Some, None, codes, decimal}
use Rattle.std.specs.List.{concat}
use Rattle.rtsp_metrics.specs.declared.snapshot.BookFigures.{BookFigures}
use Rattle.rtsp_metrics.specs.declared.snapshot.ByMethod.{ByMethod}
use Rattle.rtsp_metrics.specs.declared.snapshot.ByOutcome.{ByOutcome}
use Rattle.rtsp_metrics.specs.declared.snapshot.Counts.{Counts}
use Rattle.rtsp_metrics.specs.declared.snapshot.Held.{Held}
use Rattle.rtsp_metrics.specs.declared.snapshot.Lateness.{Lateness}
use Rattle.rtsp_metrics.specs.declared.snapshot.Refusals.{Refusals}
use Rattle.rtsp_metrics.specs.declared.snapshot.Snapshot.{Snapshot}
use Rattle.rtsp_metrics.specs.Families.{Sample, Family, gauge, counter, held_and_free, exposition, seconds_text, eighths_text}

-- a figure that a label marks
abbrev pub labelled : List ℕ → ℕ → Sample
labelled mark n = record { mark = mark; value = decimal n }

-- how long the server runs, and the connections that it has
unfoldable pub server_families : Snapshot → List Family
server_families s =
    gauge (codes "rtspd_uptime_seconds") (Some (codes "seconds")) (codes "Since the server began.") s.uptime_seconds ∷
    held_and_free (codes "rtspd_connections") None (codes "Connections that are open, and that may be.") s.connections ∷ []

-- the journal's entries: those written, those kept for what is to be given back, and those that it takes besides
unfoldable pub journal_family : BookFigures → Family
journal_family b =
    record {
      name = codes "rtspd_journal_entries";
      kind = codes "gauge";
      unit = None;
      help = codes "Entries of the journal: written, owed to what is held, and free.";
      samples = labelled (codes "{state=\"written\"}") b.entries ∷ labelled (codes "{state=\"owed\"}") b.owed ∷ labelled (codes "{state=\"free\"}") b.room ∷ [];
    }

-- the uplink, in bytes
unfoldable pub uplink_family : Held → Family
uplink_family rate =
    record {
      name = codes "rtspd_uplink_bytes_per_second";
      kind = codes "gauge";
      unit = Some (codes "bytes_per_second");
      help = codes "The uplink, as sessions hold it.";
      samples =
          record { mark = codes "{state=\"held\"}"; value = eighths_text rate.held } ∷
          record { mark = codes "{state=\"free\"}"; value = eighths_text rate.free } ∷ [];
    }

-- what the book has
unfoldable pub book_families : BookFigures → List Family
book_families b =
    gauge (codes "rtspd_sessions") None (codes "Sessions that live.") b.sessions ∷
    uplink_family b.rate ∷
    held_and_free (codes "rtspd_port_pairs") None (codes "Pairs of UDP ports: free where both ports are.") b.pairs ∷
    held_and_free (codes "rtspd_ports") None (codes "UDP ports, as sessions hold them.") b.ports ∷
    journal_family b ∷ []

-- the mark of requests of a method, by the first digit of their status
abbrev pub request_mark : List ℕ → List ℕ → List ℕ
request_mark method class = concat (codes "_total{method=\"" ∷ method ∷ codes "\",class=\"" ∷ class ∷ codes "\"}" ∷ [])

-- the requests of a method
unfoldable pub method_samples : List ℕ → ByOutcome → List Sample
method_samples method n =
    labelled (request_mark method (codes "2xx")) n.success ∷
    labelled (request_mark method (codes "3xx")) n.redirection ∷
    labelled (request_mark method (codes "4xx")) n.client_error ∷
    labelled (request_mark method (codes "5xx")) n.server_error ∷ []

-- the requests of the four methods that begin a play
abbrev pub first_samples : ByMethod → List Sample
first_samples n =
    method_samples (codes "OPTIONS") n.options ++ (method_samples (codes "DESCRIBE") n.describe ++
    (method_samples (codes "SETUP") n.setup ++ method_samples (codes "PLAY") n.play))

-- the requests of the other methods
abbrev pub other_samples : ByMethod → List Sample
other_samples n =
    method_samples (codes "PAUSE") n.pause ++ (method_samples (codes "TEARDOWN") n.teardown ++
    (method_samples (codes "GET_PARAMETER") n.get_parameter ++ (method_samples (codes "SET_PARAMETER") n.set_parameter ++ method_samples (codes "other") n.other)))

-- the requests that were answered
unfoldable pub requests_family : ByMethod → Family
requests_family n =
    record {
      name = codes "rtspd_requests";
      kind = codes "counter";
      unit = None;
      help = codes "Requests that were answered.";
      samples = first_samples n ++ other_samples n;
    }

-- the requests that were refused
unfoldable pub refusals_family : Refusals → Family
refusals_family n =
    record {
      name = codes "rtspd_refusals";
      kind = codes "counter";
      unit = None;
      help = codes "Requests that were refused.";
      samples =
          labelled (codes "_total{reason=\"bandwidth\"}") n.bandwidth ∷
          labelled (codes "_total{reason=\"unavailable\"}") n.unavailable ∷
          labelled (codes "_total{reason=\"session\"}") n.session ∷
          labelled (codes "_total{reason=\"path\"}") n.path ∷
          labelled (codes "_total{reason=\"state\"}") n.state ∷
          labelled (codes "_total{reason=\"transport\"}") n.transport ∷
          labelled (codes "_total{reason=\"credentials\"}") n.credentials ∷
          labelled (codes "_total{reason=\"other\"}") n.other ∷ [];
    }

-- the packets that were at most so late: up to 10 ms
abbrev pub early_buckets : Lateness → List Sample
early_buckets n =
    labelled (codes "_bucket{le=\"0.001\"}") n.within_1_ms ∷
    labelled (codes "_bucket{le=\"0.002\"}") (n.within_1_ms + n.within_2_ms) ∷
    labelled (codes "_bucket{le=\"0.005\"}") (n.within_1_ms + n.within_2_ms + n.within_5_ms) ∷
    labelled (codes "_bucket{le=\"0.01\"}") (n.within_1_ms + n.within_2_ms + n.within_5_ms + n.within_10_ms) ∷ []

-- the packets that were at most 10 ms late
abbrev pub early : Lateness → ℕ
early n = n.within_1_ms + n.within_2_ms + n.within_5_ms + n.within_10_ms

-- the packets that were at most 400 ms late
abbrev pub soon : Lateness → ℕ
soon n = early n + n.within_20_ms + n.within_40_ms + n.within_100_ms + n.within_400_ms

-- all packets
abbrev pub all_packets : Lateness → ℕ
all_packets n = soon n + n.within_1_s + n.within_4_s + n.within_10_s + n.later

-- the packets that were at most so late: from 20 ms on; and all
abbrev pub late_buckets : Lateness → List Sample
late_buckets n =
    labelled (codes "_bucket{le=\"0.02\"}") (early n + n.within_20_ms) ∷
    labelled (codes "_bucket{le=\"0.04\"}") (early n + n.within_20_ms + n.within_40_ms) ∷
    labelled (codes "_bucket{le=\"0.1\"}") (early n + n.within_20_ms + n.within_40_ms + n.within_100_ms) ∷
    labelled (codes "_bucket{le=\"0.4\"}") (soon n) ∷
    labelled (codes "_bucket{le=\"1.0\"}") (soon n + n.within_1_s) ∷
    labelled (codes "_bucket{le=\"4.0\"}") (soon n + n.within_1_s + n.within_4_s) ∷
    labelled (codes "_bucket{le=\"10.0\"}") (soon n + n.within_1_s + n.within_4_s + n.within_10_s) ∷
    labelled (codes "_bucket{le=\"+Inf\"}") (all_packets n) ∷
    labelled (codes "_count") (all_packets n) ∷ []

-- how late all packets were together
abbrev pub lateness_sum : Lateness → List Sample
lateness_sum n = record { mark = codes "_sum"; value = seconds_text n.sum_ms } ∷ []

-- how late packets were sent
unfoldable pub lateness_family : Lateness → Family
lateness_family n =
    record {
      name = codes "rtspd_packet_lateness_seconds";
      kind = codes "histogram";
      unit = Some (codes "seconds");
      help = codes "How late RTP packets were sent.";
      samples = early_buckets n ++ (late_buckets n ++ lateness_sum n);
    }

-- connections and packets
unfoldable pub traffic_families : Counts → List Family
traffic_families n =
    counter (codes "rtspd_connections_accepted") (codes "Connections that were let in.") n.connections.accepted ∷
    counter (codes "rtspd_connections_refused") (codes "Connections that were closed at once.") n.connections.refused ∷
    counter (codes "rtspd_headers_refused") (codes "Connections of balancers whose header was refused.") n.connections.headers_refused ∷
    counter (codes "rtspd_packets_sent") (codes "RTP packets that were sent.") n.packets.sent ∷
    counter (codes "rtspd_packets_lost") (codes "RTP packets that could not be sent.") n.packets.lost ∷ []

-- what the server did by itself
unfoldable pub keeping_families : Counts → List Family
keeping_families n =
    counter (codes "rtspd_sessions_expired") (codes "Sessions that ended since nothing renewed them.") n.expired ∷
    counter (codes "rtspd_journal_shortenings") (codes "Times that entries left the journal: of ended sessions, or by a checkpoint.") n.shortenings ∷
    counter (codes "rtspd_media_failures") (codes "Times that the file of a track could not be read.") n.media_failures ∷
    counter (codes "rtspd_log_lines_dropped") (codes "Lines of the log for which there was no room.") n.log_lines_dropped ∷ []

-- what was asked, and how it was answered
abbrev pub answer_families : Counts → List Family
answer_families n = requests_family n.requests ∷ refusals_family n.refusals ∷ lateness_family n.lateness ∷ []

-- the families of a server
abbrev pub families : Snapshot → List Family
families s =
    server_families s ++ (book_families s.book ++ (traffic_families s.counts ++ (answer_families s.counts ++ keeping_families s.counts)))

-- the text of all figures
unfoldable pub metrics_text : Snapshot → List ℕ → List ℕ
metrics_text s further = exposition (families s) further
