use Rattle.std.proofs.Common.{◌≡◌, ◌-◌, ◌++◌, codes, arith, sym, ◌∙◌, ap, subst}
use Rattle.std.specs.List.{flat_map}
use Rattle.std.specs.FinMap.{get, entries}
use Rattle.rtsp_record.specs.Books.{Book, book_of}
use Rattle.rtsp_record.specs.Sums.{amount, held_rate}
use Rattle.rtsp_record.specs.declared.holdings.Whole.{Whole}
use Rattle.rtsp_text.specs.Appending.{Appends}
use Rattle.std.proofs.lemmas.Result.{err_from_is_err_and}
use Rattle.rtsp_text.proofs.AppendLemmas.{appends_four, kept_front}
use Rattle.rtsp_record.specs.Choices.{HasPorts}
use Rattle.rtsp_record.specs.Ports.{pairs, singles, ports, free_pairs, free_ports}
use Rattle.rtsp_journal_text.specs.BookText.{session_text, held_line, rate_line, pairs_line, ports_line, singles_line}
use Rattle.rtsp_record.proofs.Sound.{sound_of}
use Rattle.rtsp_record.proofs.Ports.{ports_law, ports_left}
use Rattle.rtsp_journal_text.proofs.Walks.{none_above}
use Rattle.rtsp_journal_text.proofs.book.write_book.Goals as goal

pub write_sessions-requires-clause-last : goal.write_sessions-requires-clause-last
write_sessions-requires-clause-last g c s lt =
    ap (λ (b : Book). get b s) (c.book-book.ensures.contents ∙ ap book_of (sym c.journal.ensures.value)) ∙ none_above c.last_session.result c.journal.result.now c.last_session.ensures s lt

pub write_sessions-requires-clause-few : goal.write_sessions-requires-clause-few
write_sessions-requires-clause-few g c =
    let h = c.args.kept.now in
    let has : HasPorts h.whole = subst HasPorts c.whole-whole.ensures.value c.whole-whole.ensures.ports in
    omega (arith, ports_law h.whole h.journal c.journal.ensures.legal, ap (amount ports) c.book-book.ensures.contents, has)

pub overflow_sub-whole : goal.overflow_sub-whole
overflow_sub-whole g c =
    let h = c.args.kept.now in
    omega (
      arith,
      (sound_of h.whole h.journal c.journal.ensures.legal).rate,
      c.held_rate-rate.ensures,
      ap held_rate c.book-book.ensures.contents,
      ap (λ (w : Whole). w.uplink) c.whole-whole.ensures.value,
    )

pub free_ports-requires : goal.free_ports-requires
free_ports-requires g c =
    let h = c.args.kept.now in
    let contents = c.book-book.ensures.contents in
    let held = c.in_ok-held.ensures in
    let all = ap (λ (w : Whole). w.pairs) c.whole-whole.ensures.value in
    omega (arith, ports_left h.whole h.journal c.journal.ensures.legal, held.pairs, held.singles, ap (amount pairs) contents, ap (amount singles) contents, all)

pub returns-in_err-write_held-2 : goal.returns-in_err-write_held-2
returns-in_err-write_held-2 g c =
    let b = book_of c.args.kept.now.journal in
    let old = c.args.out.now.items in
    let first = c.write_sessions.new.out.items in
    let second = c.write_held.new.out.items in
    let new = c.write_held-2.new.out.items in
    let sessions : first ≡ old ++ flat_map session_text (entries b) = c.in_ok-held.ensures.text ∙ ap (λ (b : Book). old ++ flat_map session_text (entries b)) c.book-book.ensures.contents in
    let p = err_from_is_err_and c.from_residual-in_err-write_held-2.result c.from_residual-in_err-write_held-2.ensures.1 in
    rw p.1 (kept_front old first new _ sessions (kept_front first second new _ c.in_ok-write_held.ensures c.in_err-write_held-2.ensures))

pub returns : goal.returns
returns g c =
    let h = c.args.kept.now in
    let w = h.whole in
    let b = book_of h.journal in
    let contents = c.book-book.ensures.contents in
    let whole = c.whole-whole.ensures.value in
    let counts = c.in_ok-held.ensures in
    let old = c.args.out.now.items in
    let first = c.write_sessions.new.out.items in
    let second = c.write_held.new.out.items in
    let third = c.write_held-2.new.out.items in
    let new = c.write_singles.new.out.items in
    let result = c.write_singles.result in
    let sessions : first ≡ old ++ flat_map session_text (entries b) = counts.text ∙ ap (λ (b : Book). old ++ flat_map session_text (entries b)) contents in
    let bits : c.held_rate-rate.result ≡ held_rate b = c.held_rate-rate.ensures ∙ ap held_rate contents in
    let uplink : c.whole-whole.result.now.uplink ≡ w.uplink = ap (λ (w : Whole). w.uplink) whole in
    let rates : second ≡ first ++ rate_line w b = c.in_ok-write_held.ensures ∙ (λ i. first ++ held_line (codes "rate") (bits i) (uplink i - bits i)) in
    let paired : c.in_ok-held.held.pairs ≡ amount pairs b = counts.pairs ∙ ap (amount pairs) contents in
    let free : c.from.result ≡ free_pairs w b = c.from.ensures ∙ c.free_pairs.ensures ∙ (λ i. free_pairs (c.book-book.ensures.whole i) (contents i)) in
    let twos : third ≡ second ++ pairs_line w b = c.in_ok-write_held-2.ensures ∙ (λ i. second ++ held_line (codes "pairs") (paired i) (free i)) in
    let single : c.in_ok-held.held.singles ≡ amount singles b = counts.singles ∙ ap (amount singles) contents in
    let left : c.free_ports.result ≡ free_ports w b = omega (arith, ports_left w h.journal c.journal.ensures.legal, paired, single, c.free_ports.ensures, ap (λ (w : Whole). w.pairs) whole) in
    let ends : Appends result third new (ports_line w b) = subst (Appends result third new) (λ i. singles_line (single i) (left i)) c.write_singles.ensures in
    appends_four result old first second third new (flat_map session_text (entries b)) (rate_line w b) (pairs_line w b) (ports_line w b) sessions rates twos ends
