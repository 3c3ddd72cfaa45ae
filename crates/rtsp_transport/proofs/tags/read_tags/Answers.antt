use Rattle.rtsp_transport.specs.Tags.{SpellsTags, tags_of}
use Rattle.rtsp_transport.proofs.ReadsLemmas.{found, only, refused}
use Rattle.rtsp_transport.proofs.TagsLemmas.{tags_read}
use Rattle.rtsp_transport.proofs.tags.read_tags.Goals as goal

pub returns-clause-found : goal.returns-clause-found
returns-clause-found c = found SpellsTags tags_of tags_read (λ v. v.items) c.args.text.now c.tags_of.result c.tags_of.ensures

pub returns-clause-only : goal.returns-clause-only
returns-clause-only c = only SpellsTags tags_of tags_read (λ v. v.items) c.args.text.now c.tags_of.result c.tags_of.ensures

pub returns-clause-fault : goal.returns-clause-fault
returns-clause-fault c = refused SpellsTags tags_of tags_read (λ v. v.items) c.args.text.now c.tags_of.result c.tags_of.ensures
