use Rattle.std.proofs.Common.{refl, sym, ◌∙◌}
use Rattle.rtsp_text.specs.SplitOnce.{split_once}
use Rattle.rtsp_grammar.specs.Bytes.{is_uri_byte}
use Rattle.rtsp_grammar.proofs.SpanLemmas.{split_by_span, some_split, all_split, no_split}
use Rattle.rtsp_grammar.proofs.words.split_uri.Goals as goal

pub returns-clause-some : goal.returns-clause-some
returns-clause-some c = some_split is_uri_byte (split_once 32 c.args.text.now) c.split_space.result (c.split_space.ensures ∙ sym (split_by_span is_uri_byte 32 refl c.args.text.now c.uri_len.result c.uri_len.ensures))

pub returns-clause-uri : goal.returns-clause-uri
returns-clause-uri c = all_split is_uri_byte (split_once 32 c.args.text.now) c.split_space.result (c.split_space.ensures ∙ sym (split_by_span is_uri_byte 32 refl c.args.text.now c.uri_len.result c.uri_len.ensures))

pub returns-clause-none : goal.returns-clause-none
returns-clause-none c = no_split is_uri_byte (split_once 32 c.args.text.now) c.split_space.result (c.split_space.ensures ∙ sym (split_by_span is_uri_byte 32 refl c.args.text.now c.uri_len.result c.uri_len.ensures))
