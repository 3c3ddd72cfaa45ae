-- RTCP that ends the streams of a play (RFC 3550 sections 6.1, 6.4.2, 6.5 and 6.6).
use Rattle.std.specs.Prelude.{◌≡◌, ℕ, ◌+◌, List, [], ◌∷◌, ◌++◌, codes}
use Rattle.std.specs.Int.{w16, w32, to_be_bytes}
use Rattle.rtsp_rtp.specs.declared.source.Source.{Source}

-- version 2 without padding, and a count; the kind; how many words of 32 bits follow these four bytes; and what does
abbrev pub rtcp_packet : ℕ → ℕ → ℕ → List ℕ → List ℕ
rtcp_packet count kind words rest = (128 + count) ∷ kind ∷ to_be_bytes w16 words ++ rest

-- a receiver report (201) of a source without report blocks, which each compound packet begins with
abbrev pub empty_report : ℕ → List ℕ
empty_report ssrc = rtcp_packet 0 201 1 (to_be_bytes w32 ssrc)

-- a source description (202), of the canonical name (1), which is this server's in all its sessions; a byte of 0 ends it
abbrev pub description : ℕ → List ℕ
description ssrc = rtcp_packet 1 202 3 (to_be_bytes w32 ssrc ++ 1 ∷ 5 ∷ codes "rtspd" ++ 0 ∷ [])

-- a goodbye (203) of one source
abbrev pub farewell : ℕ → List ℕ
farewell ssrc = rtcp_packet 1 203 1 (to_be_bytes w32 ssrc)

-- the compound packet by which a source leaves
abbrev pub goodbye_of : ℕ → List ℕ
goodbye_of ssrc = empty_report ssrc ++ description ssrc ++ farewell ssrc

-- each of the sources said goodbye, one after another; how RTCP of a track is sent is given
abbrev pub SaysGoodbye : {S : Type 0} → (S → ℕ → List ℕ → S → Type 0) → List Source → S → S → Type 0
SaysGoodbye sends [] s u = u ≡ s
SaysGoodbye sends (x ∷ xs) s u = (d : _) × sends s x.track (goodbye_of x.ssrc) d × SaysGoodbye sends xs d u
