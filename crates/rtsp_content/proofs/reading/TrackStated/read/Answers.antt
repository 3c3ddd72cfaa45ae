use Rattle.std.proofs.Common.{◌≡◌, false, rules}
use Rattle.std.specs.String.{string_bytes}
use Rattle.rtsp_content.specs.Track.{has_track}
use Rattle.rtsp_content.proofs.reading.TrackStated.read.Goals as goal

pub returns-clause-fresh : goal.returns-clause-fresh
returns-clause-fresh c =
    let free : has_track (string_bytes c.in_ok-name.name) c.args.before.now ≡ false = search rules in
    free
