use Rattle.rtsp_traits.specs.Has.{has}
use Rattle.rtsp_traits.proofs.laws.law_admitted_gains_ports.Goals as goal

pub returns : goal.returns
returns c = λ granted s t run.
    let gains = c.law_admitted_address.ensures granted s t run in
    record { commit = gains.commit; others = gains.others; addresses = gains.addresses has c.law_ports_show.ensures }
