-- What a specification comes to, read from its parameters.
use Rattle.std.specs.Prelude.{ℕ, ◌||◌, ◌&&◌, not, is_some, List, Option, Some, None, codes, if◌then◌else◌}
use Rattle.std.specs.List.{list_any}
use Rattle.rtsp_text.specs.Options.{◌>>=◌}
use Rattle.rtsp_transport.specs.Address.{Place, Places, quoted_place_of, places_of}
use Rattle.rtsp_transport.specs.Hosts.{allows, is_bracketed}
use Rattle.rtsp_transport.specs.Names.{is_udp, is_tcp}
use Rattle.rtsp_transport.specs.Parameters.{asks_more, first_named, first_value, has_mux}
use Rattle.rtsp_transport.specs.Channels.{pair_of}
use Rattle.rtsp_transport.specs.declared.picks.Pick.{Pick}
use Rattle.rtsp_transport.specs.declared.picks.Pick.TheVariants.{Udp, Mux, Inter, Unsupported, Prohibited}
use Rattle.rtsp_transport.specs.declared.spec.Parameter.{Parameter}
use Rattle.rtsp_transport.specs.declared.spec.Spec.{Spec}

abbrev pub udp_to : ℕ → Option Places → Pick
udp_to peer None = Unsupported
udp_to peer (Some places) =
    if is_bracketed places.rtp.host || is_bracketed places.rtcp.host then Unsupported
    else (if allows peer places.rtp.host && allows peer places.rtcp.host then Udp places.rtp.port places.rtcp.port else Prohibited)

unfoldable pub udp_fit : ℕ → List Parameter → Pick
udp_fit peer parameters = udp_to peer (first_value (codes "dest_addr") parameters >>= places_of)

abbrev pub mux_to : ℕ → Option Place → Pick
mux_to peer None = Unsupported
mux_to peer (Some place) = if is_bracketed place.host then Unsupported else (if allows peer place.host then Mux place.port else Prohibited)

unfoldable pub mux_fit : ℕ → List Parameter → Pick
mux_fit peer parameters = mux_to peer (first_value (codes "dest_addr") parameters >>= quoted_place_of)

abbrev pub inter_on : Option (List ℕ) → Pick
inter_on None = Unsupported
inter_on (Some text) = Inter (pair_of text)

unfoldable pub inter_fit : List Parameter → Pick
inter_fit parameters = if is_some (first_named (codes "dest_addr") parameters) then Unsupported else inter_on (first_value (codes "interleaved") parameters)

unfoldable pub fit_of : ℕ → Spec → Pick
fit_of peer spec =
    if list_any asks_more spec.parameters then Unsupported
    else (if is_udp spec.protocol then (if has_mux spec.parameters then mux_fit peer spec.parameters else udp_fit peer spec.parameters)
    else (if is_tcp spec.protocol && not (has_mux spec.parameters) then inter_fit spec.parameters else Unsupported))
