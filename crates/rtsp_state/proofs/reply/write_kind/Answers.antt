use Rattle.std.proofs.Common.{ℕ, List, [], ◌++◌, ◌∙◌, sym, ap, append-nil, arith, length}
use Rattle.rtsp_grammar.specs.Writing.{response_text}
use Rattle.rtsp_state.specs.declared.reply.Kind.{Kind}
use Rattle.rtsp_state.specs.declared.reply.Kind.TheVariants as kinds
use Rattle.rtsp_state.specs.declared.status.Status.TheVariants as statuses
use Rattle.rtsp_grammar.specs.Header.{HeaderText}
use Rattle.rtsp_state.specs.Lines.{start_lines}
use Rattle.rtsp_state.specs.Response.{response}
use Rattle.rtsp_state.specs.Reply.{reply_of, open_size}
use Rattle.rtsp_state.proofs.RoomLemmas.{takes_more}
use Rattle.rtsp_state.proofs.reply.write_kind.Goals as goal

pub write_unnumbered-requires : goal.write_unnumbered-requires
write_unnumbered-requires c = omega (arith, ap open_size c.in-Unnumbered.is, c.requires)

pub returns-in-Unnumbered-clause-text : goal.returns-in-Unnumbered-clause-text
returns-in-Unnumbered-clause-text c = c.write_unnumbered.ensures.text ∙ ap (λ (k : Kind). c.args.room.now.text ++ response_text (reply_of k)) (sym c.in-Unnumbered.is)

pub returns-in-Unnumbered-clause-room : goal.returns-in-Unnumbered-clause-room
returns-in-Unnumbered-clause-room c = takes_more _ _ _ _ c.write_unnumbered.ensures.room (omega (arith, ap open_size c.in-Unnumbered.is))

pub write_fault-requires : goal.write_fault-requires
write_fault-requires c = omega (arith, ap open_size c.in-Refused.is, c.requires)

pub returns-in-Refused-clause-text : goal.returns-in-Refused-clause-text
returns-in-Refused-clause-text c = c.write_fault.ensures.text ∙ ap (λ (k : Kind). c.args.room.now.text ++ response_text (reply_of k)) (sym c.in-Refused.is)

pub returns-in-Refused-clause-room : goal.returns-in-Refused-clause-room
returns-in-Refused-clause-room c = takes_more _ _ _ _ c.write_fault.ensures.room (omega (arith, ap open_size c.in-Refused.is))

pub write_options-requires : goal.write_options-requires
write_options-requires c = omega (arith, ap open_size c.in-Options.is, c.requires)

pub returns-in-Options-clause-text : goal.returns-in-Options-clause-text
returns-in-Options-clause-text c = c.write_options.ensures.text ∙ ap (λ (k : Kind). c.args.room.now.text ++ response_text (reply_of k)) (sym c.in-Options.is)

pub returns-in-Options-clause-room : goal.returns-in-Options-clause-room
returns-in-Options-clause-room c = takes_more _ _ _ _ c.write_options.ensures.room (omega (arith, ap open_size c.in-Options.is))

pub write_plain-requires : goal.write_plain-requires
write_plain-requires c = omega (arith, ap open_size c.in-Plain.is, c.requires)

pub returns-in-Plain-clause-text : goal.returns-in-Plain-clause-text
returns-in-Plain-clause-text c =
    c.write_plain.ensures.text
    ∙ ap (λ (hs : List HeaderText). c.args.room.now.text ++ response_text (response statuses.Success hs [])) (sym (append-nil (start_lines c.in-Plain.start)))
    ∙ ap (λ (k : Kind). c.args.room.now.text ++ response_text (reply_of k)) (sym c.in-Plain.is)

pub returns-in-Plain-clause-room : goal.returns-in-Plain-clause-room
returns-in-Plain-clause-room c = takes_more _ _ _ _ c.write_plain.ensures.room (omega (arith, ap open_size c.in-Plain.is))

pub write_described-requires : goal.write_described-requires
write_described-requires c = omega (arith, ap open_size c.in-Described.is, ap length c.as_bytes.ensures, ap length c.as_bytes-in-Described.ensures, c.requires)

pub returns-in-Described-clause-text : goal.returns-in-Described-clause-text
returns-in-Described-clause-text c =
    c.write_described.ensures.text
    ∙ ap (λ (b : List ℕ). c.args.room.now.text ++ response_text (reply_of (kinds.Described c.in-Described.start b c.as_bytes-in-Described.result.now))) c.as_bytes.ensures
    ∙ ap (λ (b : List ℕ). c.args.room.now.text ++ response_text (reply_of (kinds.Described c.in-Described.start c.in-Described.base b))) c.as_bytes-in-Described.ensures
    ∙ ap (λ (k : Kind). c.args.room.now.text ++ response_text (reply_of k)) (sym c.in-Described.is)

pub returns-in-Described-clause-room : goal.returns-in-Described-clause-room
returns-in-Described-clause-room c = takes_more _ _ _ _ c.write_described.ensures.room (omega (arith, ap open_size c.in-Described.is, ap length c.as_bytes.ensures, ap length c.as_bytes-in-Described.ensures))

pub write_parameters-requires : goal.write_parameters-requires
write_parameters-requires c = omega (arith, ap open_size c.in-Parameters.is, ap length c.as_bytes-in-Parameters.ensures, c.requires)

pub returns-in-Parameters-clause-text : goal.returns-in-Parameters-clause-text
returns-in-Parameters-clause-text c =
    c.write_parameters.ensures.text
    ∙ ap (λ (b : List ℕ). c.args.room.now.text ++ response_text (reply_of (kinds.Parameters c.in-Parameters.start b))) c.as_bytes-in-Parameters.ensures
    ∙ ap (λ (k : Kind). c.args.room.now.text ++ response_text (reply_of k)) (sym c.in-Parameters.is)

pub returns-in-Parameters-clause-room : goal.returns-in-Parameters-clause-room
returns-in-Parameters-clause-room c = takes_more _ _ _ _ c.write_parameters.ensures.room (omega (arith, ap open_size c.in-Parameters.is, ap length c.as_bytes-in-Parameters.ensures))
