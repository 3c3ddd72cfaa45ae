-- What a step is answered: its records, or the first refusal that fits.
use Rattle.std.specs.Prelude.{◌≢◌, ℕ, ◌+◌, ◌≤◌, ◌<◌, Bool, true, false, ◌&&◌, ◌||◌, not, nat_lt, nat_le, if◌then◌else◌, List, [], ◌∷◌, length, is_some, is_none, Option, Some, None, Result, Ok, Err}
use Rattle.std.specs.FinMap.{get, entries}
use Rattle.rtsp_record.specs.declared.holdings.Thing.{Thing}
use Rattle.rtsp_record.specs.declared.holdings.Thing.TheVariants.{Pair, Port, Chan, Rate}
use Rattle.rtsp_record.specs.declared.streams.Stream.{Stream}
use Rattle.rtsp_record.specs.declared.holdings.Whole.{Whole}
use Rattle.rtsp_record.specs.declared.changes.Record.{Record}
use Rattle.rtsp_record.specs.Records.{holds}
use Rattle.rtsp_record.specs.declared.changes.Entry.{Entry}
use Rattle.rtsp_sessions.specs.declared.startups.Startup.{Startup}
use Rattle.rtsp_book.specs.declared.steps.Chain.{Chain}
use Rattle.rtsp_book.specs.declared.steps.Step.{Step}
use Rattle.rtsp_book.specs.declared.steps.Step.TheVariants.{Open, HoldRate, HoldPair, HoldPort, HoldChan, Return, Commit, Unwind, Play, Pause, Finish, Touch, DropTrack, End, Expire, Hangup}
use Rattle.rtsp_book.specs.declared.steps.Play.{Play as PlayStep}
use Rattle.rtsp_book.specs.declared.refusals.Refusal.{Refusal}
use Rattle.rtsp_book.specs.declared.refusals.Refusal.TheVariants.{NoSession, TooManySessions, NoBandwidth, NoPair, NoChannel, WrongState, IdTaken, StartupTaken, NotHeld, JournalFull, NothingDue}
use Rattle.rtsp_record.specs.Books.{Session, Book, under, after_all, book_of}
use Rattle.rtsp_record.specs.Sums.{of_session, amount, with_id, bindings, elsewhere, other_tracks, living, held_rate, owed, others_holding}
use Rattle.rtsp_record.specs.Rules.{is_ready, is_playing, alike, is_held, if_living}
use Rattle.rtsp_record.specs.Choices.{least_pair, least_port, chosen_chan, IsWish}
use Rattle.rtsp_sessions.specs.Searches.{first_with, is_expired, is_of_track, is_on}
use Rattle.rtsp_book.specs.Sessions.{has_stream, has_stream_under}
use Rattle.rtsp_book.specs.Made.{is_unfinished, made, start_of}

-- a stream or such a thing under the admission, or 16 others that hold something
abbrev pub is_wrong_hold : ℕ → Thing → Session → Bool
is_wrong_hold a x f = has_stream_under f a || is_some (alike x (under f a)) || nat_le 16 (others_holding f a)

-- not Ready, a stream under the admission, or a stream of another presentation
abbrev pub is_wrong_commit : ℕ → Stream → Session → Bool
is_wrong_commit a v f = not (is_ready f.phase) || has_stream_under f a || nat_lt 0 (of_session (elsewhere v) f)

-- a startup number is given, and the session has a binding or the number is taken
abbrev pub is_startup_taken : Book → Option Startup → Session → Bool
is_startup_taken b None f = false
is_startup_taken b (Some u) f = is_some f.binding || nat_lt 0 (amount (bindings u.conn u.number) b)

-- no rate or no address under the admission
abbrev pub is_unready_commit : ℕ → Session → Bool
is_unready_commit a f = is_none (under f a).rate || is_none (under f a).address

-- no stream, or nothing to play
abbrev pub is_wrong_play : PlayStep → Session → Bool
is_wrong_play d f = not (has_stream f) || nat_le d.stop (start_of d.from f.phase d.unit_ms d.now)

-- nothing was done
abbrev pub is_empty_chain : Chain → Bool
is_empty_chain ch = not ch.opened && is_none ch.first && is_none ch.second

-- there are records, and n entries with these and the returns owed after them are above the limit
abbrev pub is_full : Whole → ℕ → Book → List Record → Bool
is_full w n b [] = false
is_full w n b (r ∷ rs) = nat_lt w.journal (n + length (r ∷ rs) + owed (after_all b (r ∷ rs)))

-- which refusals fit a step, by ascending number
pub record Refusals : Type 0 where
  pub no_session : Bool
  pub too_many_sessions : Bool
  pub no_bandwidth : Bool
  pub no_pair : Bool
  pub no_channel : Bool
  pub wrong_state : Bool
  pub id_taken : Bool
  pub startup_taken : Bool
  pub not_held : Bool
  pub journal_full : Bool
  pub nothing_due : Bool

-- none fits
abbrev pub no_refusal : Refusals
no_refusal = record { no_session = false; too_many_sessions = false; no_bandwidth = false; no_pair = false; no_channel = false; wrong_state = false; id_taken = false; startup_taken = false; not_held = false; journal_full = false; nothing_due = false }

-- when each refusal fits a step after n entries with this book; the others never do
abbrev pub refusals : Whole → ℕ → Book → Step → Refusals
refusals w n b (Open l) = record no_refusal {
  too_many_sessions = nat_le w.sessions (living b);
  id_taken = is_some (get b l.session) || nat_lt 0 (amount (with_id l.id) b);
  journal_full = is_full w n b (made w b (Open l));
}
refusals w n b (HoldRate s a bits) = record no_refusal {
  no_session = is_none (get b s);
  no_bandwidth = nat_lt w.uplink (held_rate b + bits);
  wrong_state = if_living (get b s) (is_wrong_hold a (Rate bits));
  journal_full = is_full w n b (made w b (HoldRate s a bits));
}
refusals w n b (HoldPair s a from) = record no_refusal {
  no_session = is_none (get b s);
  no_pair = is_none (least_pair w b from);
  wrong_state = if_living (get b s) (is_wrong_hold a (Pair 0));
  journal_full = is_full w n b (made w b (HoldPair s a from));
}
refusals w n b (HoldPort s a from) = record no_refusal {
  no_session = is_none (get b s);
  no_pair = is_none (least_port w b from);
  wrong_state = if_living (get b s) (is_wrong_hold a (Port 0));
  journal_full = is_full w n b (made w b (HoldPort s a from));
}
refusals w n b (HoldChan h) = record no_refusal {
  no_session = is_none (get b h.session);
  no_channel = is_none (chosen_chan b h.conn h.wish);
  wrong_state = if_living (get b h.session) (is_wrong_hold h.admission (Chan h.conn 0));
  journal_full = is_full w n b (made w b (HoldChan h));
}
refusals w n b (Return s a x) = record no_refusal {
  no_session = is_none (get b s);
  wrong_state = if_living (get b s) (λ f. has_stream_under f a);
  not_held = if_living (get b s) (λ f. not (is_held f a x));
}
refusals w n b (Commit c) = record no_refusal {
  no_session = is_none (get b c.session);
  wrong_state = if_living (get b c.session) (is_wrong_commit c.admission c.stream);
  startup_taken = if_living (get b c.session) (is_startup_taken b c.startup);
  not_held = if_living (get b c.session) (is_unready_commit c.admission);
  journal_full = is_full w n b (made w b (Commit c));
}
refusals w n b (Unwind ch) = record no_refusal { no_session = is_none (get b ch.session) && not (is_empty_chain ch) }
refusals w n b (Play d) = record no_refusal {
  no_session = is_none (get b d.session);
  wrong_state = if_living (get b d.session) (is_wrong_play d);
  journal_full = is_full w n b (made w b (Play d));
}
refusals w n b (Pause s unit_ms now) = record no_refusal {
  no_session = is_none (get b s);
  wrong_state = if_living (get b s) (λ f. not (has_stream f));
  journal_full = is_full w n b (made w b (Pause s unit_ms now));
}
refusals w n b (Finish s unit_ms now) = record no_refusal {
  no_session = is_none (get b s);
  wrong_state = if_living (get b s) (λ f. not (is_playing f.phase));
  journal_full = not (if_living (get b s) (λ f. is_unfinished f.phase unit_ms now)) && is_full w n b (made w b (Finish s unit_ms now));
  nothing_due = if_living (get b s) (λ f. is_unfinished f.phase unit_ms now);
}
refusals w n b (Touch s until) = record no_refusal {
  no_session = is_none (get b s);
  journal_full = is_full w n b (made w b (Touch s until));
}
refusals w n b (DropTrack s t) = record no_refusal {
  no_session = is_none (get b s);
  wrong_state = if_living (get b s) (λ f. not (is_ready f.phase) && nat_lt 0 (of_session (other_tracks t) f));
  not_held = if_living (get b s) (λ f. is_none (first_with (is_of_track t) (entries f.admissions)));
}
refusals w n b (End s) = record no_refusal { no_session = is_none (get b s) }
refusals w n b (Expire now) = record no_refusal { nothing_due = is_none (first_with (is_expired now) (entries b)) }
refusals w n b (Hangup c) = record no_refusal { nothing_due = is_none (first_with (is_on c) (entries b)) }

-- the refusal that fits and has the least number, else the records
abbrev pub answered : Refusals → List Record → Result (List Record) Refusal
answered c rs =
    if c.no_session then Err NoSession
    else if c.too_many_sessions then Err TooManySessions
    else if c.no_bandwidth then Err NoBandwidth
    else if c.no_pair then Err NoPair
    else if c.no_channel then Err NoChannel
    else if c.wrong_state then Err WrongState
    else if c.id_taken then Err IdTaken
    else if c.startup_taken then Err StartupTaken
    else if c.not_held then Err NotHeld
    else if c.journal_full then Err JournalFull
    else if c.nothing_due then Err NothingDue
    else Ok rs

-- the answer after n entries with this book
abbrev pub answer : Whole → ℕ → Book → Step → Result (List Record) Refusal
answer w n b step = answered (refusals w n b step) (made w b step)

-- the answer where a living session is to hold a thing that is free
abbrev pub hold_answer : Whole → ℕ → Book → ℕ → Thing → ℕ × Session → Result (List Record) Refusal
hold_answer w n b a x v =
    if is_wrong_hold a x v.1 then Err WrongState
    else if is_full w n b (holds v.0 a x ∷ []) then Err JournalFull
    else Ok (holds v.0 a x ∷ [])

-- the records of a step, or its refusal
abbrev pub reply : Whole → List Entry → Step → Result (List Record) Refusal
reply w j step = answer w (length j) (book_of j) step

-- the steps that may want memory, or be refused for a full journal
abbrev pub is_growing : Step → Bool
is_growing (Open l) = true
is_growing (HoldRate s a n) = true
is_growing (HoldPair s a from) = true
is_growing (HoldPort s a from) = true
is_growing (HoldChan h) = true
is_growing (Commit c) = true
is_growing (Play d) = true
is_growing (Pause s unit_ms now) = true
is_growing (Finish s unit_ms now) = true
is_growing (Touch s until) = true
is_growing step = false

-- two things of a chain are different
abbrev pub AreDifferent : Option Thing → Option Thing → Type 0
AreDifferent (Some x) (Some y) = x ≢ y
AreDifferent o p = Unit {0}

-- what the caller of a step has to see to
abbrev pub IsAskable : Step → Type 0
IsAskable (HoldChan h) = IsWish h.wish
IsAskable (Unwind ch) = AreDifferent ch.first ch.second
IsAskable (Play d) = (0 < d.unit_ms) × (d.unit_ms ≤ 1000) × (d.stop ≤ 10000000)
IsAskable (Pause s unit_ms now) = (0 < unit_ms) × (unit_ms ≤ 1000)
IsAskable (Finish s unit_ms now) = (0 < unit_ms) × (unit_ms ≤ 1000)
IsAskable step = Unit {0}
