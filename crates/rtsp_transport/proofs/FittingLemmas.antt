-- What a specification comes to is what is said of its form.
use Rattle.std.proofs.Common.{◌≡◌, ℕ, Bool, true, false, cond, eqb, List, length, get_or, map, Option, Some, None, refl, sym, ap, ◌∙◌, inl, inr, eq-eqb, arith}
use Rattle.std.specs.Prelude.{◌||◌, ◌&&◌, not, is_some, codes}
use Rattle.std.specs.Char.{to_ascii_lowercase}
use Rattle.std.specs.Cmp.Lexicographic.{same_text}
use Rattle.std.specs.List.{list_any}
use Rattle.std.proofs.lemmas.Bool.{eqb-true, or_cases, or_left, or_right, or_parts, or_from, false_from_ne_true, and_parts, and_from, both_ways}
use Rattle.std.proofs.lemmas.List.{nil_from_length}
use Rattle.rtsp_text.specs.Options.{◌>>=◌}
use Rattle.rtsp_transport.specs.Address.{Place, Places, SpellsQuoted, SpellsPlaces, quoted_place_of, places_of}
use Rattle.rtsp_transport.specs.Hosts.{AllowsHost, allows, is_bracketed}
use Rattle.rtsp_transport.specs.Names.{is_named, is_udp, is_tcp}
use Rattle.rtsp_transport.specs.Parameters.{asks_more, first_named, first_value, has_mux}
use Rattle.rtsp_transport.specs.Peer.{peer_text, is_peer}
use Rattle.rtsp_transport.specs.Fitting.{udp_to, udp_fit, mux_to, mux_fit, inter_on, inter_fit, fit_of}
use Rattle.rtsp_transport.specs.Picking.{IsOverUdp, IsUdpForm, IsUdp, IsMuxForm, IsMux, IsForeignUdp, IsForeignMux, IsForeign, IsInterleaved, IsUsable}
use Rattle.rtsp_transport.specs.declared.picks.Pick.{Pick}
use Rattle.rtsp_transport.specs.declared.picks.Pick.TheVariants.{Udp, Mux, Inter, Unsupported, Prohibited}
use Rattle.rtsp_transport.specs.declared.spec.Spec.{Spec}
use Rattle.rtsp_transport.proofs.PeerLemmas.{peer_is}
use Rattle.rtsp_transport.proofs.AddressLemmas.{quoted_sound, quoted_complete, places_sound, places_complete}
use Rattle.rtsp_transport.proofs.ChannelLemmas.{is_pair, one_pair}

-- ---- hosts

allowed : (peer : ℕ) (host : List ℕ) → allows peer host ≡ true → AllowsHost peer host
allowed peer host e = elim (or_cases (eqb (length host) 0) (is_peer peer host) e) [
  | inl z ↦ inl (nil_from_length host (eqb-true (length host) 0 z))
  | inr p ↦ inr (same_text host (peer_text peer) (sym p))
]

allowing : (peer : ℕ) (host : List ℕ) → AllowsHost peer host → allows peer host ≡ true
allowing peer host (inl e) = or_left (eqb (length host) 0) (is_peer peer host) (eq-eqb (length host) 0 (ap length e))
allowing peer host (inr e) = or_right (eqb (length host) 0) (is_peer peer host) (peer_is peer host e)

-- ---- protocols

apart : (protocol x y : List ℕ) → is_named protocol x ≡ true → is_named protocol y ≡ true → map to_ascii_lowercase x ≡ map to_ascii_lowercase y
apart protocol x y p q = sym (same_text (map to_ascii_lowercase protocol) (map to_ascii_lowercase x) (sym p)) ∙ same_text (map to_ascii_lowercase protocol) (map to_ascii_lowercase y) (sym q)

ninth : List ℕ → ℕ
ninth text = get_or text 8 0

no_letter : ◌≡◌ {A = ℕ} 0 116 → ⊥
no_letter e = omega (arith, e)

other_letter : ◌≡◌ {A = ℕ} 117 116 → ⊥
other_letter e = omega (arith, e)

not_both : (protocol : List ℕ) → is_tcp protocol ≡ true → is_udp protocol ≡ true → ⊥
unfolding is_tcp is_udp ninth
not_both protocol t u = elim (or_cases (is_named protocol (codes "RTP/AVP")) (is_named protocol (codes "RTP/AVP/UDP")) u) [
  | inl p ↦ no_letter (ap ninth (apart protocol (codes "RTP/AVP") (codes "RTP/AVP/TCP") p t))
  | inr p ↦ other_letter (ap ninth (apart protocol (codes "RTP/AVP/UDP") (codes "RTP/AVP/TCP") p t))
]

-- ---- what is usable is found

fit_udp : (peer : ℕ) (spec : Spec) (one_port : Bool) (text : List ℕ) → IsOverUdp spec one_port text → fit_of peer spec ≡ cond one_port (mux_fit peer spec.parameters) (udp_fit peer spec.parameters)
unfolding fit_of
fit_udp peer spec one_port text o = let s = o.served in let u = o.protocol in let m = o.mux in rw (s, u, m) refl

fit_tcp : (peer : ℕ) (spec : Spec) → list_any asks_more spec.parameters ≡ false → has_mux spec.parameters ≡ false → is_tcp spec.protocol ≡ true → fit_of peer spec ≡ inter_fit spec.parameters
unfolding fit_of
fit_tcp peer spec s m t = let u : is_udp spec.protocol ≡ false = false_from_ne_true (is_udp spec.protocol) (not_both spec.protocol t) in rw (s, u, t, m) refl

form_fit : (peer : ℕ) (spec : Spec) (places : Places) → IsUdpForm spec places → fit_of peer spec ≡ cond (allows peer places.rtp.host && allows peer places.rtcp.host) (Udp places.rtp.port places.rtcp.port) Prohibited
unfolding udp_fit
form_fit peer spec places f =
    let plain = or_from (is_bracketed places.rtp.host) (is_bracketed places.rtcp.host) f.rtp_plain f.rtcp_plain in
    fit_udp peer spec false f.text f.over ∙ ap (λ (o : Option (List ℕ)). udp_to peer (o >>= places_of)) f.over.value ∙ ap (udp_to peer) (places_complete f.text places f.spells)
    ∙ ap (λ (x : Bool). cond x Unsupported (cond (allows peer places.rtp.host && allows peer places.rtcp.host) (Udp places.rtp.port places.rtcp.port) Prohibited)) plain

udp_only : (peer : ℕ) (spec : Spec) (a b : ℕ) → IsUdp peer spec a b → fit_of peer spec ≡ Udp a b
udp_only peer spec a b s =
    let t = and_from (allows peer s.places.rtp.host) (allows peer s.places.rtcp.host) (allowing peer s.places.rtp.host s.rtp_host) (allowing peer s.places.rtcp.host s.rtcp_host) in
    form_fit peer spec s.places s.form ∙ ap (λ (x : Bool). cond x (Udp s.places.rtp.port s.places.rtcp.port) Prohibited) t ∙ ap (λ (n : ℕ). Udp n s.places.rtcp.port) s.rtp ∙ ap (λ (n : ℕ). Udp a n) s.rtcp

mux_form_fit : (peer : ℕ) (spec : Spec) (place : Place) → IsMuxForm spec place → fit_of peer spec ≡ cond (allows peer place.host) (Mux place.port) Prohibited
unfolding mux_fit
mux_form_fit peer spec place f =
    fit_udp peer spec true f.text f.over ∙ ap (λ (o : Option (List ℕ)). mux_to peer (o >>= quoted_place_of)) f.over.value ∙ ap (mux_to peer) (quoted_complete f.text place f.spells)
    ∙ ap (λ (x : Bool). cond x Unsupported (cond (allows peer place.host) (Mux place.port) Prohibited)) f.plain

mux_only : (peer : ℕ) (spec : Spec) (port : ℕ) → IsMux peer spec port → fit_of peer spec ≡ Mux port
mux_only peer spec port s =
    mux_form_fit peer spec s.place s.form ∙ ap (λ (x : Bool). cond x (Mux s.place.port) Prohibited) (allowing peer s.place.host s.host) ∙ ap Mux s.same

foreign_udp : (peer : ℕ) (spec : Spec) → IsForeignUdp peer spec → fit_of peer spec ≡ Prohibited
foreign_udp peer spec s =
    let t : (allows peer s.places.rtp.host && allows peer s.places.rtcp.host) ≡ false = false_from_ne_true (allows peer s.places.rtp.host && allows peer s.places.rtcp.host) (λ e. let p = and_parts (allows peer s.places.rtp.host) (allows peer s.places.rtcp.host) e in s.foreign (allowed peer s.places.rtp.host p.0, allowed peer s.places.rtcp.host p.1)) in
    form_fit peer spec s.places s.form ∙ ap (λ (x : Bool). cond x (Udp s.places.rtp.port s.places.rtcp.port) Prohibited) t

foreign_mux : (peer : ℕ) (spec : Spec) → IsForeignMux peer spec → fit_of peer spec ≡ Prohibited
foreign_mux peer spec s =
    let t : allows peer s.place.host ≡ false = false_from_ne_true (allows peer s.place.host) (λ e. s.foreign (allowed peer s.place.host e)) in
    mux_form_fit peer spec s.place s.form ∙ ap (λ (x : Bool). cond x (Mux s.place.port) Prohibited) t

pub foreign_only : (peer : ℕ) (spec : Spec) → IsForeign peer spec → fit_of peer spec ≡ Prohibited
foreign_only peer spec (inl s) = foreign_udp peer spec s
foreign_only peer spec (inr s) = foreign_mux peer spec s

inter_only : (peer : ℕ) (spec : Spec) (wish : Option ℕ) → IsInterleaved spec wish → fit_of peer spec ≡ Inter wish
unfolding inter_fit
inter_only peer spec wish s =
    fit_tcp peer spec s.served s.apart s.protocol ∙ ap (λ (x : Bool). cond x Unsupported (inter_on (first_value (codes "interleaved") spec.parameters))) (ap is_some s.no_address) ∙ ap inter_on s.value ∙ ap Inter (one_pair s.text wish s.wished)

pub usable_only : (peer : ℕ) (spec : Spec) (pick : Pick) → IsUsable peer spec pick → fit_of peer spec ≡ pick
usable_only peer spec (Udp a b) s = udp_only peer spec a b s
usable_only peer spec (Mux port) s = mux_only peer spec port s
usable_only peer spec (Inter wish) s = inter_only peer spec wish s
usable_only peer spec Unsupported s = absurd s
usable_only peer spec Prohibited s = absurd s

-- ---- what is found is usable

abbrev pub Fits : ℕ → Spec → Pick → Type 0
Fits peer spec (Udp a b) = IsUdp peer spec a b
Fits peer spec (Mux port) = IsMux peer spec port
Fits peer spec (Inter wish) = IsInterleaved spec wish
Fits peer spec Unsupported = Unit {0}
Fits peer spec Prohibited = IsForeign peer spec

udp_fits : (peer : ℕ) (spec : Spec) → list_any asks_more spec.parameters ≡ false → is_udp spec.protocol ≡ true → has_mux spec.parameters ≡ false → Fits peer spec (udp_fit peer spec.parameters)
unfolding udp_fit
udp_fits peer spec served udp apart = value (first_value (codes "dest_addr") spec.parameters) refl where
  hosts : (places : Places) → IsUdpForm spec places → (x y : Bool) → allows peer places.rtp.host ≡ x → allows peer places.rtcp.host ≡ y → Fits peer spec (cond (x && y) (Udp places.rtp.port places.rtcp.port) Prohibited)
  hosts places f true true p q = record { places = places; form = f; rtp_host = allowed peer places.rtp.host p; rtcp_host = allowed peer places.rtcp.host q; rtp = refl; rtcp = refl }
  hosts places f true false p q = inl (record { places = places; form = f; foreign = λ h. both_ways (allows peer places.rtcp.host) q (allowing peer places.rtcp.host h.1) })
  hosts places f false y p q = inl (record { places = places; form = f; foreign = λ h. both_ways (allows peer places.rtp.host) p (allowing peer places.rtp.host h.0) })

  plain : (text : List ℕ) → first_value (codes "dest_addr") spec.parameters ≡ Some text → (places : Places) → SpellsPlaces text places → (x : Bool) → (is_bracketed places.rtp.host || is_bracketed places.rtcp.host) ≡ x
      → Fits peer spec (cond x Unsupported (cond (allows peer places.rtp.host && allows peer places.rtcp.host) (Udp places.rtp.port places.rtcp.port) Prohibited))
  plain text v places s true e = tt
  plain text v places s false e =
      let p = or_parts (is_bracketed places.rtp.host) (is_bracketed places.rtcp.host) e in
      hosts places (record { text = text; over = record { protocol = udp; served = served; mux = apart; value = v }; spells = s; rtp_plain = p.0; rtcp_plain = p.1 }) (allows peer places.rtp.host) (allows peer places.rtcp.host) refl refl

  found : (text : List ℕ) → first_value (codes "dest_addr") spec.parameters ≡ Some text → (o : Option Places) → places_of text ≡ o → Fits peer spec (udp_to peer o)
  found text v None e = tt
  found text v (Some places) e = plain text v places (places_sound text places e) (is_bracketed places.rtp.host || is_bracketed places.rtcp.host) refl

  value : (o : Option (List ℕ)) → first_value (codes "dest_addr") spec.parameters ≡ o → Fits peer spec (udp_to peer (o >>= places_of))
  value None v = tt
  value (Some text) v = found text v (places_of text) refl

mux_fits : (peer : ℕ) (spec : Spec) → list_any asks_more spec.parameters ≡ false → is_udp spec.protocol ≡ true → has_mux spec.parameters ≡ true → Fits peer spec (mux_fit peer spec.parameters)
unfolding mux_fit
mux_fits peer spec served udp mux = value (first_value (codes "dest_addr") spec.parameters) refl where
  hosts : (place : Place) → IsMuxForm spec place → (x : Bool) → allows peer place.host ≡ x → Fits peer spec (cond x (Mux place.port) Prohibited)
  hosts place f true p = record { place = place; form = f; host = allowed peer place.host p; same = refl }
  hosts place f false p = inr (record { place = place; form = f; foreign = λ h. both_ways (allows peer place.host) p (allowing peer place.host h) })

  plain : (text : List ℕ) → first_value (codes "dest_addr") spec.parameters ≡ Some text → (place : Place) → SpellsQuoted text place → (x : Bool) → is_bracketed place.host ≡ x
      → Fits peer spec (cond x Unsupported (cond (allows peer place.host) (Mux place.port) Prohibited))
  plain text v place s true e = tt
  plain text v place s false e =
      hosts place (record { text = text; over = record { protocol = udp; served = served; mux = mux; value = v }; spells = s; plain = e }) (allows peer place.host) refl

  found : (text : List ℕ) → first_value (codes "dest_addr") spec.parameters ≡ Some text → (o : Option Place) → quoted_place_of text ≡ o → Fits peer spec (mux_to peer o)
  found text v None e = tt
  found text v (Some place) e = plain text v place (quoted_sound text place e) (is_bracketed place.host) refl

  value : (o : Option (List ℕ)) → first_value (codes "dest_addr") spec.parameters ≡ o → Fits peer spec (mux_to peer (o >>= quoted_place_of))
  value None v = tt
  value (Some text) v = found text v (quoted_place_of text) refl

inter_fits : (peer : ℕ) (spec : Spec) → list_any asks_more spec.parameters ≡ false → is_tcp spec.protocol ≡ true → has_mux spec.parameters ≡ false → Fits peer spec (inter_fit spec.parameters)
unfolding inter_fit
inter_fits peer spec served tcp apart = address (first_named (codes "dest_addr") spec.parameters) refl where
  value : first_named (codes "dest_addr") spec.parameters ≡ None → (o : Option (List ℕ)) → first_value (codes "interleaved") spec.parameters ≡ o → Fits peer spec (inter_on o)
  value n None v = tt
  value n (Some text) v = record { protocol = tcp; served = served; apart = apart; no_address = n; text = text; value = v; wished = is_pair text }

  address : (o : Option _) → first_named (codes "dest_addr") spec.parameters ≡ o → Fits peer spec (cond (is_some o) Unsupported (inter_on (first_value (codes "interleaved") spec.parameters)))
  address (Some p) e = tt
  address None e = value e (first_value (codes "interleaved") spec.parameters) refl

pub fits : (peer : ℕ) (spec : Spec) → Fits peer spec (fit_of peer spec)
unfolding fit_of
fits peer spec = go (list_any asks_more spec.parameters) (is_udp spec.protocol) (is_tcp spec.protocol) (has_mux spec.parameters) refl refl refl refl where
  go : (x y z m : Bool) → list_any asks_more spec.parameters ≡ x → is_udp spec.protocol ≡ y → is_tcp spec.protocol ≡ z → has_mux spec.parameters ≡ m
      → Fits peer spec (cond x Unsupported (cond y (cond m (mux_fit peer spec.parameters) (udp_fit peer spec.parameters)) (cond (z && not m) (inter_fit spec.parameters) Unsupported)))
  go true y z m p q r s = tt
  go false true z true p q r s = mux_fits peer spec p q s
  go false true z false p q r s = udp_fits peer spec p q s
  go false false true true p q r s = tt
  go false false true false p q r s = inter_fits peer spec p r s
  go false false false m p q r s = tt
