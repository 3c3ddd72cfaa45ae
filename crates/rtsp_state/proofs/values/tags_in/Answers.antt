use Rattle.std.proofs.Common.{ap}
use Rattle.rtsp_transport.specs.Tags.{SpellsTags, tags_of}
use Rattle.rtsp_transport.proofs.TagsLemmas.{tags_read}
use Rattle.rtsp_state.specs.Values.{read_by, tags_in}
use Rattle.rtsp_state.proofs.ReadLemmas.{read_ok, refused}
use Rattle.rtsp_state.proofs.values.tags_in.Goals as goal

pub returns-in-Ok : goal.returns-in-Ok
unfolding tags_in
returns-in-Ok c = ap read_by (read_ok SpellsTags tags_of tags_read c.args.value.now _ c.in-Ok.ensures.found)

pub returns-in-Err : goal.returns-in-Err
unfolding tags_in
returns-in-Err c = refused SpellsTags tags_of tags_read c.args.value.now _ c.fault_of.result c.in-Err.ensures.fault c.fault_of.ensures
