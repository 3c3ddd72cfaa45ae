use Rattle.std.proofs.Common.{List, ℕ, length, sym, ap, subst, ◌∙◌, arith}
use Rattle.std.specs.FinMap.{entries}
use Rattle.rtsp_record.specs.Books.{Session, Book, after_all}
use Rattle.rtsp_sessions.specs.Plain.{AllFit, table_of}
use Rattle.rtsp_sessions.proofs.FitLemmas.{none_opens}
use Rattle.rtsp_sessions.proofs.SortedRows.{entries_of}
use Rattle.rtsp_sessions.proofs.plain.rows.Rows.make_all.Goals as goal

pub returns-in_err-reserve-clause-gives : goal.returns-in_err-reserve-clause-gives
returns-in_err-reserve-clause-gives c give = absurd (omega (arith, c.in_err-reserve.ensures.full, c.openings.ensures, none_opens c.args.changes.now give, c.self.inside.views.ok.0))

pub make_each-requires-clause-fit : goal.make_each-requires-clause-fit
make_each-requires-clause-fit c =
    subst (λ (es : List (ℕ × Session)). AllFit (table_of es) c.args.changes.now) (sym c.in_ok-reserve.ensures.items) (subst (λ (b : Book). AllFit b c.args.changes.now) (sym c.self.view_is) c.requires.fit)

pub invariant_of-self-2 : goal.invariant_of-self-2
invariant_of-self-2 c =
    let made = c.make_each.ensures.table ∙ ap (λ (es : List (ℕ × Session)). after_all (table_of es) c.args.changes.now) c.in_ok-reserve.ensures.items ∙ ap (λ (b : Book). after_all b c.args.changes.now) c.self.view_is in
    record {
      in_order = c.make_each.ensures.in_order;
      few = omega (arith, c.requires.few, ap (λ (b : Book). length (entries b)) made, ap length (entries_of {X = Session} c.make_each.new.rows.items c.make_each.ensures.in_order));
    }
