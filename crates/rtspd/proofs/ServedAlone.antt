-- How one connection is served alone.
use Rattle.std.proofs.Common.{◌≡◌, ℕ, List, [], refl, sym, ◌∙◌, subst, Option, false}
use Rattle.rtsp_record.specs.declared.holdings.Whole.{Whole}
use Rattle.rtsp_book.specs.Kept.{History}
use Rattle.rtsp_lock.specs.Calls.{seat_view, Looked, Finished}
use Rattle.rtsp_lock.specs.Rule.{first_view}
use Rattle.rtsp_lock.specs.declared.seat.BookSeat.{BookSeat}
use Rattle.rtsp_lock.specs.declared.view.View.{View}
use Rattle.rtsp_admit.specs.Numbers.{OwnsAll, OwnsAllLasts}
use Rattle.rtsp_engine.specs.declared.desk.Desk.{Desk}
use Rattle.rtsp_lock.specs.declared.numbering.AnyNumbers.{AnyNumbers}
use Rattle.rtsp_engine.specs.declared.serving.ServeEnd.{ServeEnd}
use Rattle.rtsp_engine.specs.Additions.{ServedGrows}
use Rattle.rtsp_engine.specs.DeskAnswers.{EndsAt}
use Rattle.rtsp_admit.specs.Refused.{LeftNothing}
use Rattle.rtsp_engine.specs.Numbers.{EndsCleanly}
use Rattle.rtsp_engine.specs.Served.{line, parts}
use Rattle.rtsp_content.specs.TableValue.{TableValue}
use Rattle.rtsp_traits.specs.declared.port_set.PortSet.{PortSet}
use Rattle.rtspd.specs.declared.devices.counted_words.CountedWords.{CountedWords}
use Rattle.rtspd.specs.declared.devices.standing_clock.StandingClock.{StandingClock}
use Rattle.rtspd.specs.declared.devices.no_plays.NoPlays.{NoPlays}
use Rattle.rtsp_traits.specs.declared.no_shares.NoShares.{NoShares}
use Rattle.rtspd.specs.Alone.{stdio_devices, IsWholeOf, IsFresh, ServedAlone}
use Rattle.rtsp_traits.specs.PortSet.{NoneBound}

-- a seat that has just opened a lock and drawn a number
pub record IsNew (w : Whole) (v : View) : Type 0 where
  pub whole : v.whole ≡ w
  pub owns : OwnsAll v
  pub seen : v.seen ≡ []
  pub mine : v.mine ≡ []

pub drawn_new : (w : Whole) (v u : View) → OwnsAllLasts → v ≡ first_view false w → Looked v u → IsNew w u
drawn_new w v u lasts is looked =
    let from = subst (λ (x : View). Looked x u) is looked in
    record { whole = from.stays.whole; owns = lasts.looked (first_view false w) u (lasts.first false w) from; seen = from.seen ∙ from.alone.found refl; mine = from.mine }

pub whole_is : (table : TableValue) (w v : Whole) → v ≡ w → (w.first_port ≡ table.server.first_port) × (w.pairs ≡ table.server.pairs)
    → (w.uplink ≡ table.server.uplink) × (w.sessions ≡ table.server.sessions) → w.journal ≡ table.server.journal → IsWholeOf table v
whole_is table w v is ports limits journal =
    subst (λ (x : Whole). IsWholeOf table x) (sym is)
    (record { first_port = ports.0; pairs = ports.1; uplink = limits.0; sessions = limits.1; journal = journal })

pub bound_none : (first pairs first' pairs' : ℕ) (b : PortSet) → (first ≡ first') × (pairs ≡ pairs') → NoneBound first pairs b → NoneBound first' pairs' b
bound_none first pairs first' pairs' b same none = subst (λ (p : ℕ). NoneBound p pairs' b) same.0 (subst (λ (n : ℕ). NoneBound first n b) same.1 none)

module _ {R I O : Type 0} (remaining : I → Option (List ℕ)) (contents : O → Option (List ℕ)) (table : TableValue) (end : ServeEnd) (kept : History) (i j : I) (o p : O)
    (first last : Desk R PortSet CountedWords StandingClock NoPlays NoShares AnyNumbers) where
  pub alone_served : (seat : BookSeat) (u : View) → IsFresh table first → last.seat.now ≡ seat → ServedGrows stdio_devices R AnyNumbers
      → EndsAt stdio_devices remaining contents end (parts i o first) (parts j p last)
      → (OwnsAll (seat_view first.seat.now) → EndsCleanly stdio_devices LeftNothing remaining contents end (parts i o first) (parts j p last))
      → (OwnsAll (seat_view first.seat.now) → OwnsAll (seat_view last.seat.now))
      → Finished (seat_view seat) u kept → ServedAlone R remaining contents table end kept i j o p
  alone_served seat u fresh is grows ends cleanly owns finishes =
      let finished = subst (λ (s : BookSeat). Finished (seat_view s) u kept) (sym is) finishes in
      let mine = owns fresh.owns in
      let grown = grows.ended [] end (line remaining contents (parts i o first)) (line remaining contents (parts j p last)) ends in
      record {
        first = first;
        last = last;
        fresh = fresh;
        ends = ends;
        cleanly = cleanly fresh.owns;
        records = grown;
        owns = mine;
        whole = subst (λ (x : Whole). IsWholeOf table x) (sym (finished.whole ∙ grown.whole)) fresh.whole;
        journal = finished.alone.found mine.alone;
        found = finished.found;
      }
