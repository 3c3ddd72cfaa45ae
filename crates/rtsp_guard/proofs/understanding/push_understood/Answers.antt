use Rattle.std.proofs.Common.{◌≡◌, rules}
use Rattle.rtsp_content.specs.declared.server.Players.TheVariants.{Strict, Gstreamer}
use Rattle.rtsp_traits.specs.Devices.{devices}
use Rattle.rtsp_guard.proofs.Lent.{takes, faults, Here, Up, HereRepaired, UpRepaired, strict_answers, strict_gives_up, gstreamer_answers, gstreamer_gives_up}
use Rattle.rtsp_guard.proofs.understanding.push_understood.Goals as goal

pub returns-in-Strict-clause-goes_on : goal.returns-in-Strict-clause-goes_on
returns-in-Strict-clause-goes_on g c =
    let d = devices g.B.Binder.calls g.W.Words.calls g.C.Clock.tells g.P.Plays.calls g.S.Shares.calls in
    let is : c.args.desk.now.table.now.server.players ≡ Strict = search rules in
    takes d (Here d) (Up d) Strict (strict_answers d) (strict_gives_up d) c.push_strict.result _ _ _ _ _ _ is c.push_strict.ensures.goes_on

pub returns-in-Strict-clause-ends : goal.returns-in-Strict-clause-ends
returns-in-Strict-clause-ends g c =
    let d = devices g.B.Binder.calls g.W.Words.calls g.C.Clock.tells g.P.Plays.calls g.S.Shares.calls in
    let is : c.args.desk.now.table.now.server.players ≡ Strict = search rules in
    faults d (Here d) (Up d) Strict (strict_answers d) (strict_gives_up d) c.push_strict.result _ _ _ _ _ is c.push_strict.ensures.ends

pub returns-in-Gstreamer-clause-goes_on : goal.returns-in-Gstreamer-clause-goes_on
returns-in-Gstreamer-clause-goes_on g c =
    let d = devices g.B.Binder.calls g.W.Words.calls g.C.Clock.tells g.P.Plays.calls g.S.Shares.calls in
    let is : c.args.desk.now.table.now.server.players ≡ Gstreamer = search rules in
    takes d (HereRepaired d) (UpRepaired d) Gstreamer (gstreamer_answers d) (gstreamer_gives_up d) c.push_repaired.result _ _ _ _ _ _ is c.push_repaired.ensures.goes_on

pub returns-in-Gstreamer-clause-ends : goal.returns-in-Gstreamer-clause-ends
returns-in-Gstreamer-clause-ends g c =
    let d = devices g.B.Binder.calls g.W.Words.calls g.C.Clock.tells g.P.Plays.calls g.S.Shares.calls in
    let is : c.args.desk.now.table.now.server.players ≡ Gstreamer = search rules in
    faults d (HereRepaired d) (UpRepaired d) Gstreamer (gstreamer_answers d) (gstreamer_gives_up d) c.push_repaired.result _ _ _ _ _ is c.push_repaired.ensures.ends
