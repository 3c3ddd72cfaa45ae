-- What was given back of pairs or of single ports, record by record.
use Rattle.std.proofs.Common.{◌≡◌, ℕ, ◌+◌, ◌<◌, List, [], ◌∷◌, ◌++◌, length, take, get_or, refl, sym, ◌∙◌, ap}
use Rattle.std.specs.Prelude.{Option, Some, None, filter_map}
use Rattle.std.specs.List.{cons_option}
use Rattle.std.proofs.lemmas.List.{take_more}
use Rattle.std.proofs.lemmas.List.Elements.{filter_map-append}
use Rattle.rtsp_record.specs.declared.changes.Record.{Record}
use Rattle.rtsp_sessions.specs.declared.udp_ports.UdpPorts.{UdpPorts}
use Rattle.rtsp_book.specs.Receipts.{freed_as}

-- of one more record
pub freed_next : (ports : UdpPorts) (rs : List Record) (i : ℕ) (d : Record) (o : Option (ℕ × ℕ)) → i < length rs → o ≡ freed_as ports (get_or rs i d) → filter_map (freed_as ports) (take (i + 1) rs) ≡ filter_map (freed_as ports) (take i rs) ++ cons_option o []
freed_next ports rs i d o lt is =
    ap (filter_map (freed_as ports)) (take_more rs i d lt) ∙ filter_map-append (freed_as ports) (take i rs) (get_or rs i d ∷ []) ∙ ap (λ o. filter_map (freed_as ports) (take i rs) ++ cons_option o []) (sym is)

pub no_value : (o : Option (ℕ × ℕ)) → ((p : ℕ × ℕ) → o ≡ Some p → ⊥) → o ≡ None
no_value None h = refl
no_value (Some p) h = absurd (h p refl)
