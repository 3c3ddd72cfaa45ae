-- Repaired specifications say what they said.
use Rattle.std.proofs.Common.{◌≡◌, ◌≢◌, ℕ, ◌≤◌, Bool, true, false, cond, List, [], ◌∷◌, map, Option, Some, None, refl, sym, ap, subst, ◌∙◌}
use Rattle.std.specs.Prelude.{not, ◌&&◌, ◌||◌, filter, is_some, codes}
use Rattle.std.specs.List.{list_any, join_with_byte, AllByRecursion}
use Rattle.std.proofs.lemmas.Bool.{and_parts, or_parts, or_from, not-true}
use Rattle.std.proofs.Math.Bool.{and-false}
use Rattle.std.proofs.lemmas.List.{length-map}
use Rattle.rtsp_text.specs.Options.{◌>>=◌}
use Rattle.rtsp_transport.specs.Names.{is_udp}
use Rattle.rtsp_transport.specs.Paired.{Paired}
use Rattle.rtsp_transport.specs.Split.{IsPart, split}
use Rattle.rtsp_transport.specs.Transport.{SpellsParameter, SpellsSpec, SpellsTransport}
use Rattle.rtsp_transport.specs.declared.spec.Parameter.{Parameter}
use Rattle.rtsp_transport.specs.declared.spec.Spec.{Spec}
use Rattle.rtsp_dialect.specs.ClientPort.{port_pair, is_client_port, client_ports, has_ports, is_unclear, is_single, has_ports_alone, is_old, address_or, repaired_parameter, repaired_spec}
use Rattle.rtsp_dialect.specs.ClientPortText.{parameter_in, is_old_text, address_part, repaired_part, repaired_parts, repaired_spec_text, has_old, repaired_transport}
use Rattle.rtsp_dialect.specs.Within.{HasNoClientPort}
use Rattle.rtsp_dialect.specs.Laws.{ports_only}
use Rattle.rtsp_dialect.proofs.Ports.{says_ports}
use Rattle.rtsp_dialect.proofs.Quoted.{pieces, together, address_among, address_padded}
use Rattle.rtsp_dialect.proofs.Reading.{parameter_read, spec_parts, text_is_old, value_parts, value_has_old}
use Rattle.rtsp_dialect.proofs.Rewritten.{plain_spec, plain_transport}

client_found : (p : Parameter) (ports : List ℕ × List ℕ) → client_ports p ≡ Some ports → (text : List ℕ) × (port_pair text ≡ Some ports)
unfolding client_ports
client_found p ports e = go (is_client_port p) p.value e where
  go : (x : Bool) (value : Option (List ℕ)) → cond x (value >>= port_pair) None ≡ Some ports → (text : List ℕ) × (port_pair text ≡ Some ports)
  go true (Some text) h = (text, h)
  go true None h = absurd cc
  go false value h = absurd cc

-- ---- parameters

parameter_by : (part : List ℕ) (p : Parameter) (o : Option (List ℕ × List ℕ)) → SpellsParameter part p → client_ports p ≡ o → SpellsParameter (address_part part o) (address_or p o)
parameter_by part p None s e = s
parameter_by part p (Some ports) s e = record { padded = address_padded ports; some = λ z. absurd cc; name = refl }

parameter_repaired : (part : List ℕ) (p : Parameter) → SpellsParameter part p → SpellsParameter (repaired_part part) (repaired_parameter p)
unfolding repaired_part
parameter_repaired part p s =
    subst (λ (q : Parameter). SpellsParameter (address_part part (client_ports q)) (repaired_parameter p)) (sym (parameter_read part p s)) (parameter_by part p (client_ports p) s refl)

parameters_repaired : (parts : List (List ℕ)) (ps : List Parameter) → Paired SpellsParameter parts ps → Paired SpellsParameter (map repaired_part parts) (map repaired_parameter ps)
parameters_repaired [] [] h = tt
parameters_repaired [] (p ∷ ps) h = absurd h
parameters_repaired (part ∷ parts) [] h = absurd h
parameters_repaired (part ∷ parts) (p ∷ ps) h = (parameter_repaired part p h.0, parameters_repaired parts ps h.1)

module _ (separator : ℕ) (name : IsPart separator (codes "dest_addr=")) (slash : IsPart separator (codes "/")) where
  among : (part : List ℕ) → IsPart separator part → IsPart separator (repaired_part part)
  unfolding repaired_part
  among part h = go (client_ports (parameter_in part)) refl where
    go : (o : Option (List ℕ × List ℕ)) → client_ports (parameter_in part) ≡ o → IsPart separator (address_part part o)
    go None e = h
    go (Some ports) e =
        let f = client_found (parameter_in part) ports e in
        let s = says_ports f.0 ports f.1 in
        address_among separator name slash ports (ports_only s.rtp s.rtcp) s.new

  all_among : (parts : List (List ℕ)) → AllByRecursion (IsPart separator) parts → AllByRecursion (IsPart separator) (map repaired_part parts)
  all_among [] each = tt
  all_among (part ∷ parts) each = (among part each.0, all_among parts each.1)

-- ---- specifications

pub plain_stays : (spec : Spec) → is_old spec ≡ false → repaired_spec spec ≡ spec
plain_stays spec e = rw e refl

pub old_changes : (spec : Spec) → is_old spec ≡ true → repaired_spec spec ≡ record spec { parameters = map repaired_parameter spec.parameters }
old_changes spec e = rw e refl

old_text_is : (text first : List ℕ) (others : List (List ℕ)) → is_old_text text ≡ true → split false 59 text ≡ first ∷ others → repaired_spec_text text ≡ join_with_byte 59 (first ∷ map repaired_part others)
unfolding repaired_spec_text
old_text_is text first others old e = rw old (ap (λ (ps : List (List ℕ)). join_with_byte 59 (repaired_parts ps)) e)

-- the text stands between commas, and spells the specification
record Stands (text : List ℕ) (spec : Spec) : Type 0 where
  part : IsPart 44 text
  spells : SpellsSpec text spec

old_stands : (text : List ℕ) (spec : Spec) → Stands text spec → is_old_text text ≡ true → Stands (repaired_spec_text text) (record spec { parameters = map repaired_parameter spec.parameters })
old_stands text spec s old =
    let t = s.spells in
    let whole = subst (λ (z : List ℕ). IsPart 44 z) t.split.joined s.part in
    let each = pieces (t.first ∷ t.others) t.split.each whole in
    subst (λ (z : List ℕ). Stands z (record spec { parameters = map repaired_parameter spec.parameters })) (sym (old_text_is text t.first t.others old (spec_parts text spec t)))
    (record {
      part = together t.first (map repaired_part t.others) each.0 (all_among 44 refl refl t.others each.1);
      spells = record {
        first = t.first;
        others = map repaired_part t.others;
        split = record { joined = refl; each = (t.split.each.0, all_among 59 refl refl t.others t.split.each.1); some = λ z. absurd cc };
        protocol = t.protocol;
        parameters = parameters_repaired t.others spec.parameters t.parameters;
      };
    })

stands_repaired : (text : List ℕ) (spec : Spec) → Stands text spec → Stands (repaired_spec_text text) (repaired_spec spec)
stands_repaired text spec s = go (is_old_text text) refl where
  go : (x : Bool) → is_old_text text ≡ x → Stands (repaired_spec_text text) (repaired_spec spec)
  go true e = subst (λ (z : Spec). Stands (repaired_spec_text text) z) (sym (old_changes spec (sym (text_is_old text spec s.spells) ∙ e))) (old_stands text spec s e)
  go false e =
      subst (λ (z : Spec). Stands (repaired_spec_text text) z) (sym (plain_stays spec (sym (text_is_old text spec s.spells) ∙ e)))
      (subst (λ (z : List ℕ). Stands z spec) (sym (plain_spec text e)) s)

abbrev AllStand : List (List ℕ) → List Spec → Type 0
AllStand parts specs = AllByRecursion (IsPart 44) parts × Paired SpellsSpec parts specs

all_stand : (parts : List (List ℕ)) (specs : List Spec) → AllByRecursion (IsPart 44) parts → Paired SpellsSpec parts specs → AllStand (map repaired_spec_text parts) (map repaired_spec specs)
all_stand [] [] each h = (tt, tt)
all_stand [] (spec ∷ specs) each h = absurd h
all_stand (part ∷ parts) [] each h = absurd h
all_stand (part ∷ parts) (spec ∷ specs) each h =
    let s = stands_repaired part spec (record { part = each.0; spells = h.0 }) in
    let r = all_stand parts specs each.1 h.1 in
    ((s.part, r.0), (s.spells, r.1))

-- ---- the whole value

none_old : (specs : List Spec) → list_any is_old specs ≡ false → map repaired_spec specs ≡ specs
none_old [] e = refl
none_old (spec ∷ specs) e =
    let s = or_parts (is_old spec) (list_any is_old specs) e in
    ap (λ (z : Spec). z ∷ map repaired_spec specs) (plain_stays spec s.0) ∙ ap (λ (zs : List Spec). spec ∷ zs) (none_old specs s.1)

map_some : (parts : List (List ℕ)) → parts ≢ [] → map repaired_spec_text parts ≢ []
map_some [] some e = some refl
map_some (part ∷ parts) some e = absurd cc

old_value_is : (value : List ℕ) (parts : List (List ℕ)) → has_old value ≡ true → split false 44 value ≡ parts → repaired_transport value ≡ join_with_byte 44 (map repaired_spec_text parts)
unfolding repaired_transport
old_value_is value parts old e = rw old (ap (λ (ps : List (List ℕ)). join_with_byte 44 (map repaired_spec_text ps)) e)

pub transport_repaired : (value : List ℕ) (specs : List Spec) → SpellsTransport value specs → SpellsTransport (repaired_transport value) (map repaired_spec specs)
transport_repaired value specs s = go (has_old value) refl (all_stand s.parts specs s.split.each s.each) where
  go : (x : Bool) → has_old value ≡ x → AllStand (map repaired_spec_text s.parts) (map repaired_spec specs) → SpellsTransport (repaired_transport value) (map repaired_spec specs)
  go true e all =
      subst (λ (z : List ℕ). SpellsTransport z (map repaired_spec specs)) (sym (old_value_is value s.parts e (value_parts value specs s)))
      (record {
        parts = map repaired_spec_text s.parts;
        split = record { joined = refl; each = all.0; some = map_some s.parts s.split.some };
        few = subst (λ (n : ℕ). n ≤ 16) (sym (length-map s.parts repaired_spec_text)) s.few;
        each = all.1;
      })
  go false e all =
      subst (λ (z : List ℕ). SpellsTransport z (map repaired_spec specs)) (sym (plain_transport value e))
      (subst (λ (ss : List Spec). SpellsTransport value ss) (sym (none_old specs (sym (value_has_old value specs s) ∙ e))) s)

-- ---- no client_port

no_ports : (p : Parameter) → is_client_port p ≡ false → has_ports p ≡ false
unfolding client_ports
no_ports p e = rw e refl

none_with_ports : (ps : List Parameter) → list_any is_client_port ps ≡ false → filter has_ports ps ≡ []
none_with_ports [] e = refl
none_with_ports (p ∷ ps) e =
    let s = or_parts (is_client_port p) (list_any is_client_port ps) e in
    ap (λ (b : Bool). cond b (p ∷ filter has_ports ps) (filter has_ports ps)) (no_ports p s.0) ∙ none_with_ports ps s.1

none_alone : (ps : List Parameter) → list_any is_client_port ps ≡ false → has_ports_alone ps ≡ false
unfolding has_ports_alone
none_alone ps e = ap (λ (qs : List Parameter). is_single qs && not (list_any is_unclear ps)) (none_with_ports ps e)

pub new_is_not_old : (spec : Spec) → HasNoClientPort spec → is_old spec ≡ false
new_is_not_old spec h = ap (λ (b : Bool). is_udp spec.protocol && b) (none_alone spec.parameters h) ∙ and-false (is_udp spec.protocol)

clear_changes : (p : Parameter) → is_unclear p ≡ false → is_client_port (repaired_parameter p) ≡ false
unfolding is_unclear
clear_changes p u = go (client_ports p) refl where
  unnamed : (a b x : Bool) → (a || (b && not x)) ≡ false → x ≡ false → b ≡ false
  unnamed true b x h e = absurd cc
  unnamed false true true h e = absurd cc
  unnamed false true false h e = absurd cc
  unnamed false false x h e = refl

  go : (o : Option (List ℕ × List ℕ)) → client_ports p ≡ o → is_client_port (address_or p o) ≡ false
  go None e = unnamed _ (is_client_port p) (has_ports p) u (ap is_some e)
  go (Some ports) e = refl

all_clear_change : (ps : List Parameter) → list_any is_unclear ps ≡ false → list_any is_client_port (map repaired_parameter ps) ≡ false
all_clear_change [] e = refl
all_clear_change (p ∷ ps) e =
    let s = or_parts (is_unclear p) (list_any is_unclear ps) e in
    or_from (is_client_port (repaired_parameter p)) (list_any is_client_port (map repaired_parameter ps)) (clear_changes p s.0) (all_clear_change ps s.1)

alone_clear : (ps : List Parameter) → has_ports_alone ps ≡ true → list_any is_unclear ps ≡ false
unfolding has_ports_alone
alone_clear ps e = not-true (list_any is_unclear ps) (and_parts (is_single (filter has_ports ps)) (not (list_any is_unclear ps)) e).1

pub old_gets_new : (spec : Spec) → is_old spec ≡ true → HasNoClientPort (repaired_spec spec)
old_gets_new spec e =
    let s = and_parts (is_udp spec.protocol) (has_ports_alone spec.parameters) e in
    subst (λ (z : Spec). HasNoClientPort z) (sym (old_changes spec e)) (all_clear_change spec.parameters (alone_clear spec.parameters s.1))
