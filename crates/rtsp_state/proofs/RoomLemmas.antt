-- How long the parts of a response are at most.
use Rattle.std.proofs.Common.{◌≡◌, ℕ, take, get_or, ◌+◌, ◌*◌, ◌/◌, ◌%◌, ◌^◌, ◌<◌, ◌≤◌, List, [], ◌∷◌, ◌++◌, length, ap, arith, lit<, lit≤}
use Rattle.std.specs.Prelude.{◌-◌, min, codes, decimal, Result, OnOk}
use Rattle.std.specs.declared.alloc.AllocError.{AllocError}
use Rattle.std.proofs.lemmas.Result.{on_ok_weaker}
use Rattle.std.proofs.Math.Nat.{mul-le-mul}
use Rattle.std.proofs.lemmas.Fmt.{length-decimal-le}
use Rattle.std.proofs.lemmas.List.{length-append}
use Rattle.std.proofs.lemmas.List.Sums.{sum_by_more_le, sum_by_more}
use Rattle.rtsp_text.specs.Hexadecimal.{hex_text}
use Rattle.rtsp_transport.specs.Granted.{port_text, ports_text, hosted_text, hosted_pair_text, transport_text}
use Rattle.rtsp_transport.specs.Peer.{peer_text}
use Rattle.rtsp_transport.specs.declared.write.Granted.TheVariants.{Udp, Mux, UdpFrom, MuxFrom, Inter}
use Rattle.rtsp_text.proofs.HexLemmas.{length-hex_text}
use Rattle.rtsp_state.specs.declared.rtp_info.StreamInfo.{StreamInfo}
use Rattle.rtsp_state.specs.FixedText.{word_room}
use Rattle.rtsp_state.specs.Bounds.{stream_room, info_room}
use Rattle.rtsp_state.specs.Room.{RoomText, Takes}
use Rattle.rtsp_state.specs.Words.{text_of}
use Rattle.rtsp_state.specs.declared.words.Word.{Word}
use Rattle.rtsp_state.specs.declared.words.Word.TheVariants as words
use Rattle.rtsp_npt.specs.Printed.{millis_text, time_text, range_text, stop_text}

pub decimal_of_32 : (n : ℕ) → n < 2 ^ 32 → length (decimal n) ≤ 10
decimal_of_32 n small = length-decimal-le 10 n (lit< tt) (omega arith) (omega arith)

pub decimal_of_64 : (n : ℕ) → n < 2 ^ 64 → length (decimal n) ≤ 20
decimal_of_64 n small = length-decimal-le 20 n (lit< tt) (omega arith) (omega arith)

decimal_of_17 : (n : ℕ) → n < 2 ^ 17 → length (decimal n) ≤ 6
decimal_of_17 n small = length-decimal-le 6 n (lit< tt) (omega arith) (omega arith)

millis_most : (ms : ℕ) → ms < 2 ^ 64 → length (millis_text ms) ≤ 21
unfolding millis_text
millis_most ms small =
    let d = length-decimal-le 17 (ms / 1000) (lit< tt) (omega arith) (omega arith) in
    let a = length-append (decimal (ms / 1000)) (46 ∷ (48 + ms / 100 % 10) ∷ (48 + ms / 10 % 10) ∷ (48 + ms % 10) ∷ []) in
    omega (arith, d, a)

product : (a b : ℕ) → a ≤ 4294967295 → b ≤ 4294967295 → a * b ≤ 4294967295 * 4294967295
product a b x y = mul-le-mul {n₁ = a} {m₁ = b} {n₂ = 4294967295} {m₂ = 4294967295} x y

pub time_most : (unit unit_ms : ℕ) → unit < 2 ^ 32 → unit_ms < 2 ^ 32 → length (time_text unit unit_ms) ≤ 21
time_most unit unit_ms a b =
    let m = product unit unit_ms (omega (arith, a)) (omega (arith, b)) in
    millis_most (unit * unit_ms) (omega (arith, m))

-- ---- lists one after another

pub appended : (xs ys : List ℕ) → length (xs ++ ys) ≡ length xs + length ys
appended xs ys = length-append xs ys

join3 : (a b c : List ℕ) → length (a ++ b ++ c) ≡ length a + length b + length c
join3 a b c = let x = length-append (a ++ b) c in let y = length-append a b in omega (arith, x, y)

join5 : (a b c d e : List ℕ) → length (a ++ b ++ c ++ d ++ e) ≡ length a + length b + length c + length d + length e
join5 a b c d e = let x = length-append (a ++ b ++ c ++ d) e in let y = length-append (a ++ b ++ c) d in let z = join3 a b c in omega (arith, x, y, z)

join6 : (a b c d e f : List ℕ) → length (a ++ b ++ c ++ d ++ e ++ f) ≡ length a + length b + length c + length d + length e + length f
join6 a b c d e f = let x = length-append (a ++ b ++ c ++ d ++ e) f in let y = join5 a b c d e in omega (arith, x, y)

-- ---- ranges and transports

pub range_most : (from stop unit_ms : ℕ) → from < 2 ^ 32 → stop < 2 ^ 32 → unit_ms < 2 ^ 32 → length (range_text from stop unit_ms) ≤ 47
range_most from stop unit_ms a b c =
    let f = time_most from unit_ms a c in
    let s = time_most stop unit_ms b c in
    let e : length (range_text from stop unit_ms) ≡ 4 + length (time_text from unit_ms) + length (45 ∷ time_text stop unit_ms) = join3 (codes "npt=") (time_text from unit_ms) (45 ∷ time_text stop unit_ms) in
    omega (arith, f, s, e)

pub stop_most : (stop unit_ms : ℕ) → stop < 2 ^ 32 → unit_ms < 2 ^ 32 → length (stop_text stop unit_ms) ≤ 26
stop_most stop unit_ms b c =
    let s = time_most stop unit_ms b c in
    let e : length (stop_text stop unit_ms) ≡ 5 + length (time_text stop unit_ms) = length-append (codes "npt=-") (time_text stop unit_ms) in
    omega (arith, s, e)

ports_most : (a b : ℕ) → a < 2 ^ 17 → b < 2 ^ 17 → length (ports_text a b) ≤ 19
ports_most a b x y =
    let p = decimal_of_17 a x in
    let q = decimal_of_17 b y in
    let e : length (ports_text a b) ≡ 2 + length (decimal a) + 4 + length (decimal b) + 1 = join5 (codes "\":") (decimal a) (codes "\"/\":") (decimal b) (codes "\"") in
    omega (arith, p, q, e)

port_most : (a : ℕ) → a < 2 ^ 17 → length (port_text a) ≤ 9
port_most a x =
    let p = decimal_of_17 a x in
    let e : length (port_text a) ≡ 2 + length (decimal a) + 1 = join3 (codes "\":") (decimal a) (codes "\"") in
    omega (arith, p, e)

pub id_most : (n : ℕ) → length (hex_text 32 n) ≤ 32
id_most n = let e = length-hex_text 32 n in omega (arith, e)

pub ssrc_most : (n : ℕ) → length (hex_text 8 n) ≤ 8
ssrc_most n = let e = length-hex_text 8 n in omega (arith, e)

pub udp_most : (a b p ssrc : ℕ) → a < 2 ^ 16 → b < 2 ^ 16 → p < 2 ^ 16 → length (transport_text (Udp a b p ssrc)) ≤ 88
udp_most a b p ssrc x y z =
    let u = ports_most a b (omega (arith, x)) (omega (arith, y)) in
    let v = ports_most p (p + 1) (omega (arith, z)) (omega (arith, z)) in
    let s = ssrc_most ssrc in
    let e : length (transport_text (Udp a b p ssrc)) ≡ 26 + length (ports_text a b) + 10 + length (ports_text p (p + 1)) + 6 + length (hex_text 8 ssrc) = join6 (codes "RTP/AVP;unicast;dest_addr=") (ports_text a b) (codes ";src_addr=") (ports_text p (p + 1)) (codes ";ssrc=") (hex_text 8 ssrc) in
    omega (arith, u, v, s, e)

pub mux_most : (a p ssrc : ℕ) → a < 2 ^ 16 → p < 2 ^ 16 → length (transport_text (Mux a p ssrc)) ≤ 88
mux_most a p ssrc x y =
    let u = port_most a (omega (arith, x)) in
    let v = port_most p (omega (arith, y)) in
    let s = ssrc_most ssrc in
    let e : length (transport_text (Mux a p ssrc)) ≡ 26 + length (port_text a) + 10 + length (port_text p) + 15 + length (hex_text 8 ssrc) = join6 (codes "RTP/AVP;unicast;dest_addr=") (port_text a) (codes ";src_addr=") (port_text p) (codes ";RTCP-mux;ssrc=") (hex_text 8 ssrc) in
    omega (arith, u, v, s, e)

-- ---- transports from another host

byte_most : (n : ℕ) → n < 2 ^ 8 → length (decimal n) ≤ 3
byte_most n small = length-decimal-le 3 n (lit< tt) (omega arith) (omega arith)

join4 : (a b c d : List ℕ) → length (a ++ 46 ∷ (b ++ 46 ∷ (c ++ 46 ∷ d))) ≡ length a + length b + length c + length d + 3
join4 a b c d =
    let x = length-append a (46 ∷ (b ++ 46 ∷ (c ++ 46 ∷ d))) in
    let y = length-append b (46 ∷ (c ++ 46 ∷ d)) in
    let z = length-append c (46 ∷ d) in
    omega (arith, x, y, z)

peer_most : (host : ℕ) → host < 2 ^ 32 → length (peer_text host) ≤ 15
peer_most host small =
    let a = byte_most (host / 0x1000000) (omega (arith, small)) in
    let b = byte_most (host / 0x10000 % 256) (omega arith) in
    let c = byte_most (host / 0x100 % 256) (omega arith) in
    let d = byte_most (host % 256) (omega arith) in
    let e : length (peer_text host) ≡ length (decimal (host / 0x1000000)) + length (decimal (host / 0x10000 % 256)) + length (decimal (host / 0x100 % 256)) + length (decimal (host % 256)) + 3 =
    join4 (decimal (host / 0x1000000)) (decimal (host / 0x10000 % 256)) (decimal (host / 0x100 % 256)) (decimal (host % 256)) in
    omega (arith, a, b, c, d, e)

hosted_most : (host port : ℕ) → host < 2 ^ 32 → port < 2 ^ 17 → length (hosted_text host port) ≤ 24
hosted_most host port x y =
    let h = peer_most host x in
    let p = decimal_of_17 port y in
    let e : length (hosted_text host port) ≡ 1 + length (peer_text host) + 1 + length (decimal port) + 1 = join5 (codes "\"") (peer_text host) (codes ":") (decimal port) (codes "\"") in
    omega (arith, h, p, e)

hosted_pair_most : (host a b : ℕ) → host < 2 ^ 32 → a < 2 ^ 17 → b < 2 ^ 17 → length (hosted_pair_text host a b) ≤ 49
hosted_pair_most host a b h x y =
    let p = hosted_most host a h x in
    let q = hosted_most host b h y in
    let e : length (hosted_pair_text host a b) ≡ length (hosted_text host a) + 1 + length (hosted_text host b) = join3 (hosted_text host a) (codes "/") (hosted_text host b) in
    omega (arith, p, q, e)

pub udp_from_most : (a b host p ssrc : ℕ) → a < 2 ^ 16 → b < 2 ^ 16 → host < 2 ^ 32 → p < 2 ^ 16 → length (transport_text (UdpFrom a b host p ssrc)) ≤ 118
udp_from_most a b host p ssrc x y h z =
    let u = ports_most a b (omega (arith, x)) (omega (arith, y)) in
    let v = hosted_pair_most host p (p + 1) h (omega (arith, z)) (omega (arith, z)) in
    let s = ssrc_most ssrc in
    let e : length (transport_text (UdpFrom a b host p ssrc)) ≡ 26 + length (ports_text a b) + 10 + length (hosted_pair_text host p (p + 1)) + 6 + length (hex_text 8 ssrc) = join6 (codes "RTP/AVP;unicast;dest_addr=") (ports_text a b) (codes ";src_addr=") (hosted_pair_text host p (p + 1)) (codes ";ssrc=") (hex_text 8 ssrc) in
    omega (arith, u, v, s, e)

pub mux_from_most : (a host p ssrc : ℕ) → a < 2 ^ 16 → host < 2 ^ 32 → p < 2 ^ 16 → length (transport_text (MuxFrom a host p ssrc)) ≤ 118
mux_from_most a host p ssrc x h y =
    let u = port_most a (omega (arith, x)) in
    let v = hosted_most host p h (omega (arith, y)) in
    let s = ssrc_most ssrc in
    let e : length (transport_text (MuxFrom a host p ssrc)) ≡ 26 + length (port_text a) + 10 + length (hosted_text host p) + 15 + length (hex_text 8 ssrc) = join6 (codes "RTP/AVP;unicast;dest_addr=") (port_text a) (codes ";src_addr=") (hosted_text host p) (codes ";RTCP-mux;ssrc=") (hex_text 8 ssrc) in
    omega (arith, u, v, s, e)

pub inter_most : (k ssrc : ℕ) → k < 2 ^ 8 → length (transport_text (Inter k ssrc)) ≤ 88
inter_most k ssrc x =
    let u = decimal_of_17 k (omega (arith, x)) in
    let v = decimal_of_17 (k + 1) (omega (arith, x)) in
    let s = ssrc_most ssrc in
    let e : length (transport_text (Inter k ssrc)) ≡ 32 + length (decimal k) + 1 + length (decimal (k + 1)) + 6 + length (hex_text 8 ssrc) = join6 (codes "RTP/AVP/TCP;unicast;interleaved=") (decimal k) (codes "-") (decimal (k + 1)) (codes ";ssrc=") (hex_text 8 ssrc) in
    omega (arith, u, v, s, e)

-- a fixed text
pub word_most : (of : Word) → length (text_of of) ≤ word_room of
unfolding text_of
word_most words.AllMethods = lit≤ tt
word_most words.AlwaysMethods = lit≤ tt
word_most words.Npt = lit≤ tt
word_most words.Timeout = lit≤ tt
word_most words.RandomAccess = lit≤ tt
word_most words.Immutable = lit≤ tt
word_most words.Rap = lit≤ tt
word_most words.Sdp = lit≤ tt
word_most words.Parameters = lit≤ tt
word_most words.UrlIs = lit≤ tt
word_most words.SsrcIs = lit≤ tt
word_most words.SeqIs = lit≤ tt
word_most words.RtptimeIs = lit≤ tt
word_most words.Comma = lit≤ tt
word_most words.PositionIs = lit≤ tt
word_most words.DurationIs = lit≤ tt
word_most words.LineEnd = lit≤ tt

-- ---- the streams of RTP-Info

-- where there is room for all, there is room for the next one
pub next_room : (ps : List StreamInfo) (i : ℕ) (item : StreamInfo) (start now : ℕ) → i < length ps → item ≡ get_or ps i item → info_room ps ≤ start → start ≤ now + info_room (take i ps) → stream_room item ≤ now
next_room ps i item start now lt is all used =
    let e = ap stream_room is in
    let l = sum_by_more_le stream_room ps i item lt in
    omega (arith, e, l, all, used)

-- the next one adds its own room
pub streams_next : (ps : List StreamInfo) (i : ℕ) (item : StreamInfo) → i < length ps → item ≡ get_or ps i item → info_room (take (i + 1) ps) ≡ info_room (take i ps) + stream_room item
streams_next ps i item lt is =
    let e = ap stream_room is in
    let l = sum_by_more stream_room ps i item lt in
    omega (arith, e, l)

-- ---- bounds

-- what took no more than one number took no more than a greater one
pub takes_more : (old new : RoomText) (a b : ℕ) → Takes old new a → a ≤ b → Takes old new b
takes_more old new a b t le = record { within = omega (arith, t.within, le); spare = omega (arith, t.spare, le) }

-- room that was asked for by a saturated sum is room for the sum
pub reserved : (result : Result (Unit {0}) AllocError) (need asked spare : ℕ) → asked ≡ min need (2 ^ 64 - 1) → spare < 2 ^ 64 - 1 → OnOk result (asked ≤ spare) → OnOk result (need ≤ spare)
reserved result need asked spare is top ok = on_ok_weaker result (λ enough. omega (arith, is, top, enough)) ok
