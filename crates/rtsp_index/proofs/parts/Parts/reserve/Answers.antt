use Rattle.std.proofs.Common.{◌≤◌, sym, subst, ◌∙◌}
use Rattle.std.specs.Prelude.{count_by}
use Rattle.indexmap.specs.IndexMap.{spare}
use Rattle.rtsp_sessions.specs.Plain.{is_open}
use Rattle.rtsp_index.specs.Contents.{HasRoom}
use Rattle.rtsp_index.specs.Following.{is_chan_hold}
use Rattle.rtsp_index.proofs.parts.Parts.reserve.Goals as goal

pub returns-clause-room : goal.returns-clause-room
returns-clause-room c =
    record {
      rows = subst (λ t. HasRoom t (count_by is_open c.args.changes.now)) (sym (c.reserve_names.ensures.sessions ∙ c.reserve_channels.ensures.sessions)) c.in_ok-reserve_sessions.ensures.rows;
      ids = c.in_ok-reserve_names.ensures.ids;
      startups = c.in_ok-reserve_names.ensures.startups;
      bindings = c.in_ok-reserve_names.ensures.bindings;
      chans = subst (λ p. count_by is_chan_hold c.args.changes.now ≤ spare p.chans.held) (sym c.reserve_names.ensures.pools) c.in_ok-reserve_channels.ensures.chans;
    }
