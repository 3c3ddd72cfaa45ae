use Rattle.std.proofs.Common.{List, subst}
use Rattle.rtsp_record.specs.declared.changes.Record.{Record}
use Rattle.rtsp_admit.specs.declared.udp_ports.UdpPorts.TheVariants as udp
use Rattle.rtsp_admit.specs.Binder.{UnboundAll, freed_of}
use Rattle.rtsp_admit.proofs.Having.{unbound_then}
use Rattle.rtsp_admit.proofs.binder.unbind_freed.Goals as goal

pub returns : goal.returns
returns g c =
    let calls = g.B.Binder.calls in
    let made = c.args.made.now in
    let is = c.records-changes.ensures.value in
    let b = c.args.binder.now in
    let d = c.unbind_all.new.binder in
    let e = c.unbind_all-2.new.binder in
    let pairs = subst (λ (rs : List Record). UnboundAll calls (freed_of udp.Pair rs) b d) is c.unbind_all.ensures in
    let ports = subst (λ (rs : List Record). UnboundAll calls (freed_of udp.Port rs) d e) is c.unbind_all-2.ensures in
    unbound_then calls (freed_of udp.Pair made) (freed_of udp.Port made) b d e pairs ports
