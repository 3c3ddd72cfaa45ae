use Rattle.rtsp_credentials.proofs.Listed.{inserts, refuses}
use Rattle.rtsp_credentials.proofs.digests.Digests.add.Goals as goal

pub returns-clause-ok : goal.returns-clause-ok
returns-clause-ok c = rw (← c.self.view_is) (inserts c.self.inside.secrets c.in_ok-name.name c.args.name.now c.args.secret.now c.in_ok-secret.secret c.insert.new.self.entries c.must.result c.in_ok-name.ensures.items c.in_ok-secret.ensures c.in_ok-old.ensures.entries c.in_ok-old.old c.is_none.result c.in_ok-old.ensures.old c.is_none.ensures c.must.ensures)

pub returns-clause-err : goal.returns-clause-err
returns-clause-err c = rw (← c.self.view_is) (refuses c.self.inside.secrets c.in_ok-name.name c.args.name.now c.args.secret.now c.in_ok-secret.secret c.insert.new.self.entries c.must.result c.in_ok-name.ensures.items c.in_ok-secret.ensures c.in_ok-old.ensures.entries c.in_ok-old.old c.is_none.result c.in_ok-old.ensures.old c.is_none.ensures c.must.ensures)
