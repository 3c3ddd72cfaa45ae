use Rattle.std.proofs.Common.{◌≡◌, Ok, Err, IfOk, IfErr, Result, sym, subst}
use Rattle.rtsp_grammar.specs.Header.{HeaderText}
use Rattle.rtsp_grammar.specs.HeaderView.{shown}
use Rattle.rtsp_grammar.specs.declared.fault.MessageFault.{MessageFault}
use Rattle.rtsp_grammar.proofs.NameLemmas.{header_by_parts}
use Rattle.rtsp_grammar.proofs.header_line.header_of.Goals as goal

pub returns-clause-ok : goal.returns-clause-ok
returns-clause-ok c =
    let read = header_by_parts c.args.line.now c.split_at.result.0.now c.split_at.result.1.now c.trim_start.result.now c.token_len.result c.token_len.ensures c.split_at.ensures.front c.split_at.ensures.back c.trim_start.ensures in
    subst (λ (r : Result HeaderText MessageFault). IfOk c.named_header.result (λ h. r ≡ Ok (shown h))) (sym read) c.named_header.ensures.ok

pub returns-clause-err : goal.returns-clause-err
returns-clause-err c =
    let read = header_by_parts c.args.line.now c.split_at.result.0.now c.split_at.result.1.now c.trim_start.result.now c.token_len.result c.token_len.ensures c.split_at.ensures.front c.split_at.ensures.back c.trim_start.ensures in
    subst (λ (r : Result HeaderText MessageFault). IfErr c.named_header.result (λ fault. r ≡ Err fault)) (sym read) c.named_header.ensures.err
