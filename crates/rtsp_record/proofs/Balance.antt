-- What a record adds to a sum over the book, its inverse takes away.
use Rattle.std.proofs.Common.{◌≡◌, ℕ, ◌+◌, refl, ap, arith}
use Rattle.std.specs.Prelude.{Option, Some, None}
use Rattle.std.specs.FinMap.{get}
use Rattle.rtsp_record.specs.declared.holdings.Thing.{Thing}
use Rattle.rtsp_record.specs.declared.holdings.Thing.TheVariants.{Rate}
use Rattle.rtsp_record.specs.declared.changes.Record.{Record}
use Rattle.rtsp_record.specs.declared.changes.Record.TheVariants.{Open, Close, Hold, Free, Add, Drop, Move, Touch, Bind}
use Rattle.rtsp_record.specs.Records.{inverse_of, session_of}
use Rattle.rtsp_record.specs.declared.holdings.Admission.{Admission}
use Rattle.rtsp_record.specs.Books.{Session, Book, opening, opened, holding, freed, streaming, under, with_under, effect, after}
use Rattle.rtsp_record.specs.Sums.{Measure, if_there, of_admission, of_session, amount}
use Rattle.rtsp_record.specs.Rules.{as_rate, alike, Own}
use Rattle.rtsp_record.proofs.Tables.{weigh, total-set, total-empty}
use Rattle.rtsp_record.proofs.Rows.{total-under}

-- what a record brings to a sum
abbrev pub gain : Measure → Record → ℕ
gain m (Open k) = m.life k.id + m.phase opening
gain m (Hold k) = m.thing k.thing
gain m (Add k) = m.stream k.stream
gain m (Move k) = m.phase k.to
gain m (Bind k) = m.binding (k.conn, k.number)
gain m r = 0

pub rate_none : (d : Admission) (n : ℕ) → alike (Rate n) d ≡ None → d.rate ≡ None
rate_none d n h = elim (d.rate) as (λ o. as_rate o ≡ None → o ≡ None) [ None ↦ λ _. refl | Some m ↦ λ e. absurd cc ] h

pub rate_some : (d : Admission) (n m : ℕ) → alike (Rate n) d ≡ Some (Rate m) → d.rate ≡ Some m
rate_some d n m h = elim (d.rate) as (λ o. as_rate o ≡ Some (Rate m) → o ≡ Some m) [ None ↦ λ e. absurd cc | Some k ↦ λ e. cc ] h

pub hold_more : (m : Measure) (x : Thing) (d : Admission) → alike x d ≡ None → of_admission m (holding x d) ≡ of_admission m d + m.thing x
hold_more m (Rate n) d h = omega (arith, ap (if_there (λ n. m.thing (Rate n))) (rate_none d n h))
hold_more m x d h = omega (arith, ap (if_there m.thing) h)

pub free_less : (m : Measure) (x : Thing) (d : Admission) → alike x d ≡ Some x → of_admission m (freed x d) + m.thing x ≡ of_admission m d
free_less m (Rate n) d h = omega (arith, ap (if_there (λ n. m.thing (Rate n))) (rate_some d n n h))
free_less m x d h = omega (arith, ap (if_there m.thing) h)

-- the sum over a session with something else under an admission
pub session-under : (m : Measure) (f : Session) (a : ℕ) (d : Admission) → of_session m (with_under f a d) + of_admission m (under f a) ≡ of_session m f + of_admission m d
session-under m f a d = omega (arith, total-under (λ e. of_admission m e.1) f a d refl)

pub session-opened : (m : Measure) (id c e : ℕ) → of_session m (opened id c e) ≡ m.life id + m.phase opening
session-opened m id c e = omega (arith, total-empty (λ e. of_admission m e.1))

abbrev pub row_sum : Measure → ℕ → Option Session → ℕ
row_sum m s o = weigh (λ e. of_session m e.1) s o

pub row_balance : (m : Measure) (r : Record) (o : Option Session) → Own r o → row_sum m (session_of r) (effect r o) + gain m (inverse_of r) ≡ row_sum m (session_of r) o + gain m r
row_balance m (Open k) o h = omega (arith, session-opened m k.id k.conn k.expires, ap (row_sum m k.session) h)
row_balance m (Close k) o h = omega (arith, session-opened m k.id k.conn k.expires, ap (row_sum m k.session) h)
row_balance m r None h = absurd h
row_balance m (Hold k) (Some f) h = omega (arith, session-under m f k.admission (holding k.thing (under f k.admission)), hold_more m k.thing (under f k.admission) h.no_such)
row_balance m (Free k) (Some f) h = omega (arith, session-under m f k.admission (freed k.thing (under f k.admission)), free_less m k.thing (under f k.admission) h.held)
row_balance m (Add k) (Some f) h = omega (arith, session-under m f k.admission (streaming (Some k.stream) (under f k.admission)), ap (if_there m.stream) h.no_stream)
row_balance m (Drop k) (Some f) h = omega (arith, session-under m f k.admission (streaming None (under f k.admission)), ap (if_there m.stream) h.there)
row_balance m (Move k) (Some f) h = omega (arith, ap m.phase h.phase)
row_balance m (Touch k) (Some f) h = refl
row_balance m r (Some f) h = omega (arith, ap (if_there m.binding) h)

-- one equation for every sum and every record
pub balance : (m : Measure) (b : Book) (r : Record) → Own r (get b (session_of r)) → amount m (after b r) + gain m (inverse_of r) ≡ amount m b + gain m r
balance m b r h =
    omega (arith, total-set (λ e. of_session m e.1) b (session_of r) (effect r (get b (session_of r))) (get b (session_of r)) refl, row_balance m r (get b (session_of r)) h)
