use Rattle.std.proofs.Common.{sym, subst, arith}
use Rattle.rtsp_index.specs.Contents.{sessions_in}
use Rattle.rtsp_index.specs.Searching.{passes, Passes, AtMost}
use Rattle.rtsp_index.proofs.TableLemmas.{has_entry}
use Rattle.rtsp_index.proofs.SearchLemmas.{least_number}
use Rattle.rtsp_index.proofs.table.SessionTable.least.Goals as goal

pub returns : goal.returns
returns c =
    let t = c.args.self.now in
    let b = sessions_in t in
    let p = passes c.args.search.now in
    least_number b p c.loop-index.least c.loop-index.invariant.found (λ s h.
    let entry = has_entry t.places.entries t.rows s h.0 h.1 in
    subst (AtMost c.loop-index.least) entry.number (c.loop-index.invariant.least entry.index entry.entry (omega (arith, entry.within, c.len-index-end.ensures.len)) entry.stands (subst (Passes p b) (sym entry.number) h)))
