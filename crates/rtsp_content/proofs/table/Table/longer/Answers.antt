use Rattle.std.proofs.Common.{rules, ◌≡◌, ◌≤◌, ◌∙◌, sym, refl, ap, subst, length, arith}
use Rattle.rtsp_content.specs.declared.server.Server.{Server}
use Rattle.rtsp_content.specs.TableValue.{TableValue}
use Rattle.rtsp_content.specs.TableView.{table_value}
use Rattle.rtsp_content.specs.Growing.{IsFixed, Extends, table_with}
use Rattle.rtsp_content.proofs.table.Table.longer.Goals as goal

pub invariant_of-result : goal.invariant_of-result
invariant_of-result c =
    let s = c.in_ok-presentations.field-0 in
    let fixed : IsFixed c.args.self.now.server c.args.self.now.server = record { first_port = refl; pairs = refl; uplink = refl; sessions = refl; journal = refl; workers = refl } in
    let more = c.in_ok-presentations.ensures.extends c.args.self.now.server fixed in
    let least : length c.self.inside.presentations.items ≡ length c.args.self.now.presentations = ap (λ (t : TableValue). length t.presentations) c.self.view_is in
    record {
      server = c.wanted.invariant.server;
      presentations_least = omega (arith, c.self.invariant.presentations_least, least, more.places);
      presentations_most = omega (arith, c.if-len-gt-MAX_PLACES.false, c.len.ensures, s.presentations.ok.0);
      presentations_distinct = c.in_ok-presentations.ensures.distinct;
    }

pub returns-clause-extends : goal.returns-clause-extends
returns-clause-extends c =
    let fixed : IsFixed c.args.self.now.server c.wanted.inside.server = search rules in
    c.in_ok-presentations.ensures.extends c.wanted.inside.server fixed
