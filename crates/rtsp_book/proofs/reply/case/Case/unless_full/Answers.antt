use Rattle.std.proofs.Common.{ap, sym, ◌∙◌, cond, length, arith, Ok, Err}
use Rattle.rtsp_book.specs.declared.refusals.Refusal.TheVariants.{JournalFull}
use Rattle.rtsp_book.specs.Cases.{Case}
use Rattle.rtsp_record.specs.Sums.{owed}
use Rattle.rtsp_book.proofs.Owing.{case_then, full, not_full, owed_at_most, some_records}
use Rattle.rtsp_book.proofs.reply.case.Case.unless_full.Goals as goal

pub overflow_add-self-inside-2 : goal.overflow_add-self-inside-2
overflow_add-self-inside-2 g c =
    let k = c.args.self.now in
    let made = c.args.made.now in
    let owes = case_then _ k made _ _ _ c.self.view_is c.records-changes.ensures.value c.requires c.owed.ensures c.owed_after.ensures in
    omega (arith, owes, owed_at_most k.whole k.book made c.requires, c.self.invariant.room, ap (λ (x : Case). owed x.book) c.self.view_is, ap length c.records-changes.ensures.value, c.records-changes.ensures.short)

pub returns-then-self-changes : goal.returns-then-self-changes
returns-then-self-changes g c =
    let k = c.args.self.now in
    let made = c.args.made.now in
    let same = c.records-changes.ensures.value in
    let owes = case_then _ k made _ _ _ c.self.view_is same c.requires c.owed.ensures c.owed_after.ensures in
    let some = some_records c.records-changes.result.now (sym c.is_empty.ensures ∙ c.if-is_empty.false) in
    let is = full k.whole k.entries k.book made (omega (arith, some, ap length same)) (omega (arith, c.if-self-changes.true, owes, ap length same, ap (λ (x : Case). x.whole.journal) c.self.view_is, ap (λ (x : Case). x.entries) c.self.view_is)) in
    sym (ap (λ t. cond t (Err JournalFull) (Ok made)) is)

pub returns : goal.returns
returns g c =
    let k = c.args.self.now in
    let made = c.args.made.now in
    let same = c.records-changes.ensures.value in
    let owes = case_then _ k made _ _ _ c.self.view_is same c.requires c.owed.ensures c.owed_after.ensures in
    let is = not_full k.whole k.entries k.book made (omega (arith, c.if-self-changes.false, owes, ap length same, ap (λ (x : Case). x.whole.journal) c.self.view_is, ap (λ (x : Case). x.entries) c.self.view_is)) in
    sym (ap (λ t. cond t (Err JournalFull) (Ok made)) is)
