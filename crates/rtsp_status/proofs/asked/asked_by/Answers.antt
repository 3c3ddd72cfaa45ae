use Rattle.std.proofs.Common.{◌≡◌, ℕ, List, codes, sym, subst}
use Rattle.rtsp_status.specs.Asking.{Asks}
use Rattle.rtsp_status.proofs.asked.asked_by.Goals as goal

pub returns-then-is_look : goal.returns-then-is_look
returns-then-is_look c = c.looked_at.ensures c.args.method.now (c.is_look.ensures.0 c.if-is_look.true)

pub returns-in-POST : goal.returns-in-POST
returns-in-POST c =
    subst (λ (m : List ℕ). Asks m c.args.path.now c.args.nearness c.args.is_open c.args.is_plain c.posted_to.result)
    (sym c.in-POST.is) (c.posted_to.ensures c.args.is_open c.args.is_plain)
