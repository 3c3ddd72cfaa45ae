-- What a step is answered may be recorded.
use Rattle.std.proofs.Common.{◌≡◌, ℕ, ◌+◌, ◌≤◌, ◌<◌, Bool, true, false, ◌&&◌, ◌||◌, not, cond, List, [], ◌∷◌, ◌++◌, length, refl, sym, ◌∙◌, ap, subst, arith}
use Rattle.std.specs.Prelude.{Option, Some, None, Result, Ok, Err, is_some, is_none, nat_lt, option_map}
use Rattle.std.proofs.lemmas.Bool.{not-false, or_parts}
use Rattle.std.proofs.lemmas.Bool.Decides.{nat_tests}
use Rattle.std.specs.FinMap.{get, entries, entries_sorted, get-entries}
use Rattle.rtsp_record.specs.declared.holdings.Thing.{Thing}
use Rattle.rtsp_record.specs.declared.holdings.Thing.TheVariants.{Pair, Port, Chan, Rate}
use Rattle.rtsp_record.specs.declared.phases.Phase.{Phase}
use Rattle.rtsp_record.specs.declared.phases.Phase.TheVariants.{Ready, Playing, Ended}
use Rattle.rtsp_record.specs.declared.streams.Stream.{Stream}
use Rattle.rtsp_record.specs.declared.holdings.Whole.{Whole}
use Rattle.rtsp_record.specs.declared.changes.Record.{Record}
use Rattle.rtsp_record.specs.declared.changes.Record.TheVariants as change
use Rattle.rtsp_record.specs.declared.payloads.Life.{Life}
use Rattle.rtsp_record.specs.Records.{holds, frees, moves, touches, binds}
use Rattle.rtsp_sessions.specs.declared.startups.Startup.{Startup}
use Rattle.rtsp_book.specs.declared.steps.Chain.{Chain}
use Rattle.rtsp_book.specs.declared.steps.Step.{Step}
use Rattle.rtsp_book.specs.declared.steps.Step.TheVariants as step
use Rattle.rtsp_book.specs.declared.steps.Step.TheVariants.{Open, HoldRate, HoldPair, HoldPort, HoldChan, Return, Unwind, Pause, Finish, Touch, DropTrack, End, Expire, Hangup}
use Rattle.rtsp_book.specs.declared.steps.ChannelHold.{ChannelHold}
use Rattle.rtsp_book.specs.declared.steps.Commit.{Commit}
use Rattle.rtsp_book.specs.declared.steps.Play.{Play}
use Rattle.rtsp_book.specs.declared.refusals.Refusal.{Refusal}
use Rattle.rtsp_book.specs.declared.refusals.Refusal.TheVariants.{NoSession, TooManySessions, NoBandwidth, NoPair, NoChannel, WrongState, IdTaken, StartupTaken, NotHeld, JournalFull, NothingDue}
use Rattle.rtsp_book.specs.Laws.{IsGranted}
use Rattle.rtsp_record.specs.declared.holdings.Admission.{Admission}
use Rattle.rtsp_record.specs.Books.{Session, Book, or_bare, under, after_all, book_of}
use Rattle.rtsp_record.specs.Sums.{Spot, UdpPort, Channel, covers, covering, of_session, amount, with_id, bindings, streams, elsewhere, other_tracks, owed}
use Rattle.rtsp_record.specs.Rules.{is_ready, IsPlaying, alike, Own, IsFree, AllAllowed}
use Rattle.rtsp_record.specs.Choices.{least_pair, least_port, chosen_chan, IsWish}
use Rattle.rtsp_record.specs.Moments.{point, sent_with_due}
use Rattle.rtsp_record.specs.Rules.{if_living}
use Rattle.rtsp_sessions.specs.Searches.{first_with, is_of_track, is_expired, is_channelled, is_on}
use Rattle.rtsp_book.specs.Sessions.{has_stream_under, has_stream}
use Rattle.rtsp_book.specs.Returns.{giving_back, unbinding, ending}
use Rattle.rtsp_book.specs.Made.{hold_chosen, adding, binding_to, committing, taking_back, unwinding, begun, playing, pausing, finishing, is_unfinished, touching, giving_back_found, dropping_track, ending_found, hanging_up, of_living, made}
use Rattle.rtsp_book.specs.Replies.{is_wrong_hold, is_wrong_commit, is_startup_taken, is_unready_commit, is_wrong_play, is_full, Refusals, refusals, answered, AreDifferent, IsAskable}
use Rattle.rtsp_book.specs.Laws.{Granted}
use Rattle.rtsp_record.specs.Sound.{SoundSession, SoundRow, Sound}
use Rattle.rtsp_record.proofs.Sound.{sound_of}
use Rattle.rtsp_record.proofs.Back.{allowed-append}
use Rattle.rtsp_record.proofs.Trims.{AllFine}
use Rattle.rtsp_record.proofs.Strands.{row_after}
use Rattle.rtsp_book.proofs.Runs.{OwnAll, Lone, Giving, all_lone, lone_allowed, lone_row, owed_given}
use Rattle.rtsp_book.proofs.Ending.{giving_run, ending_own, giving_under, giving_unbinding, giving_ending}
use Rattle.rtsp_record.proofs.Choices.{chosen_pair, chosen_port, chosen_chan_free}
use Rattle.rtsp_book.proofs.Tests.{none_there, some_there, no_more, some_more}
use Rattle.rtsp_book.proofs.TakenBack.{own_return, two_back}
use Rattle.rtsp_sessions.proofs.FirstRows.{first_found}
use Rattle.rtsp_book.proofs.Committing.{MayCommit, Adding, adding_run, lone_adding, lone_bound}

-- no refusal fits
pub record NoneFits (c : Refusals) : Type 0 where
  pub no_session : c.no_session ≡ false
  pub too_many_sessions : c.too_many_sessions ≡ false
  pub no_bandwidth : c.no_bandwidth ≡ false
  pub no_pair : c.no_pair ≡ false
  pub no_channel : c.no_channel ≡ false
  pub wrong_state : c.wrong_state ≡ false
  pub id_taken : c.id_taken ≡ false
  pub startup_taken : c.startup_taken ≡ false
  pub not_held : c.not_held ≡ false
  pub journal_full : c.journal_full ≡ false
  pub nothing_due : c.nothing_due ≡ false

-- an answer of records passed a refusal
passed : (t : Bool) (refusal : Refusal) (rest : Result (List Record) Refusal) (qs : List Record) → cond t (Err refusal) rest ≡ Ok qs → (t ≡ false) × (rest ≡ Ok qs)
passed true refusal rest qs h = absurd cc
passed false refusal rest qs h = (refl, h)

-- an answer of records is these records, and no refusal fits
pub accepted : (c : Refusals) (rs qs : List Record) → answered c rs ≡ Ok qs → NoneFits c × (rs ≡ qs)
accepted c rs qs h =
    let a = passed c.no_session NoSession _ qs h in
    let b = passed c.too_many_sessions TooManySessions _ qs a.1 in
    let d = passed c.no_bandwidth NoBandwidth _ qs b.1 in
    let e = passed c.no_pair NoPair _ qs d.1 in
    let f = passed c.no_channel NoChannel _ qs e.1 in
    let g = passed c.wrong_state WrongState _ qs f.1 in
    let i = passed c.id_taken IdTaken _ qs g.1 in
    let j = passed c.startup_taken StartupTaken _ qs i.1 in
    let k = passed c.not_held NotHeld _ qs j.1 in
    let l = passed c.journal_full JournalFull _ qs k.1 in
    let m = passed c.nothing_due NothingDue _ qs l.1 in (
      record { no_session = a.0; too_many_sessions = b.0; no_bandwidth = d.0; no_pair = e.0; no_channel = f.0; wrong_state = g.0; id_taken = i.0; startup_taken = j.0; not_held = k.0; journal_full = l.0; nothing_due = m.0 },
      ok_same rs qs m.1,
    )
  where
    ok_same : (rs qs : List Record) → ◌≡◌ {A = Result (List Record) Refusal} (Ok rs) (Ok qs) → rs ≡ qs
    ok_same rs qs h = cc

not_full : (w : Whole) (n : ℕ) (b : Book) (rs : List Record) → n + owed b ≤ w.journal → is_full w n b rs ≡ false → n + length rs + owed (after_all b rs) ≤ w.journal
not_full w n b [] room h = omega (arith, room)
not_full w n b (r ∷ rs) room h = grind (arith, nat_tests)

module _ (w : Whole) (n : ℕ) (b : Book) (ok : Sound w b) (room : n + owed b ≤ w.journal) where
  nothing_made : IsGranted w n b []
  nothing_made = record { allowed = tt; room = omega (arith, room) }

  -- records that only give back
  pub giving : (s : ℕ) (rs : List Record) → AllFine (Giving s) rs → OwnAll rs (get b s) → IsGranted w n b rs
  giving s rs g h =
      let allowed = lone_allowed w s b rs (all_lone s rs g) h in
      record { allowed = allowed; room = omega (arith, room, owed_given w s b rs g allowed) }

  pub own_hold : (s a : ℕ) (x : Thing) (o : Option Session) → is_none o ≡ false → if_living o (is_wrong_hold a x) ≡ false → Own (holds s a x) o
  own_hold s a x None lives right = absurd cc
  own_hold s a x (Some f) lives right =
      let first = or_parts (has_stream_under f a || is_some (alike x (under f a))) _ right in
      let parts = or_parts (has_stream_under f a) (is_some (alike x (under f a))) first.0 in
      record { no_stream = none_there (under f a).stream parts.0; no_such = none_there (alike x (under f a)) parts.1; few = grind (arith, nat_tests) }

  hold_granted : (s a : ℕ) (x : Thing) → is_none (get b s) ≡ false → if_living (get b s) (is_wrong_hold a x) ≡ false → IsFree w b x → is_full w n b (holds s a x ∷ []) ≡ false → IsGranted w n b (holds s a x ∷ [])
  hold_granted s a x lives right free full =
      record { allowed = ((own_hold s a x (get b s) lives right, free), tt); room = not_full w n b (holds s a x ∷ []) room full }

  -- of one record that asks nothing of others
  lone_one : (s : ℕ) (r : Record) → Lone s r → Own r (get b s) → is_full w n b (r ∷ []) ≡ false → IsGranted w n b (r ∷ [])
  lone_one s r l h full = record { allowed = lone_allowed w s b (r ∷ []) (l, tt) (h, tt); room = not_full w n b (r ∷ []) room full }

  pub unwound : (ch : Chain) (f : Session) → get b ch.session ≡ Some f → AreDifferent ch.first ch.second → OwnAll (unwinding ch f) (Some f) × AllFine (Giving ch.session) (unwinding ch f)
  unwound ch f is apart =
      elim (ch.opened) as (λ t. OwnAll (cond t (ending ch.session f) (taking_back ch.session ch.admission f ch.second ++ taking_back ch.session ch.admission f ch.first)) (Some f) × AllFine (Giving ch.session) (cond t (ending ch.session f) (taking_back ch.session ch.admission f ch.second ++ taking_back ch.session ch.admission f ch.first))) [
        | true ↦ ((ending_own w ch.session f (subst (SoundRow w) is (ok.rows ch.session))).0, giving_ending ch.session f)
        | false ↦ two_back ch.session ch.admission f ch.first ch.second apart
      ]

  pub ended : (s : ℕ) (f : Session) → get b s ≡ Some f → IsGranted w n b (ending s f)
  ended s f is = giving s (ending s f) (giving_ending s f) (subst (OwnAll (ending s f)) (sym is) (ending_own w s f (subst (SoundRow w) is (ok.rows s))).0)

  may_commit : (a : ℕ) (v : Stream) (f : Session) → is_wrong_commit a v f ≡ false → is_unready_commit a f ≡ false → MayCommit f a v
  may_commit a v f right ready =
      let first = or_parts (not (is_ready f.phase) || has_stream_under f a) _ right in
      let parts = or_parts (not (is_ready f.phase)) (has_stream_under f a) first.0 in
      let there = or_parts (is_none (under f a).rate) (is_none (under f a).address) ready in
      record {
        ready = not-false (is_ready f.phase) parts.0;
        rate = some_there (under f a).rate there.0;
        address = some_there (under f a).address there.1;
        no_stream = none_there (under f a).stream parts.1;
        same_place = no_more (of_session (elsewhere v) f) first.1;
      }

  -- the startup number of a commit is bound to nobody else
  bound : (c : Commit) (f : Session) (add : Adding c.session c.admission c.stream f (first_with (is_of_track c.stream.track) (entries f.admissions))) (rs : List Record) → rs ≡ adding c.session c.admission c.stream (first_with (is_of_track c.stream.track) (entries f.admissions)) → get b c.session ≡ Some f → AllFine (Lone c.session) rs → AllAllowed w b rs → (o : Option Startup) → is_startup_taken b o f ≡ false → AllAllowed w (after_all b rs) (binding_to c.session o)
  bound c f add rs same is lone allowed None free = tt
  bound c f add rs same is lone allowed (Some u) free =
      let parts = or_parts (is_some f.binding) (nat_lt 0 (amount (bindings u.conn u.number) b)) free in
      let left : get (after_all b rs) c.session ≡ Some add.left = lone_row c.session b rs lone ∙ ap (row_after rs) is ∙ ap (λ rs. row_after rs (Some f)) same ∙ add.run.ends in
      ((subst (λ o. Own (binds c.session u.conn u.number) o) (sym left) (add.binding ∙ none_there f.binding parts.0), omega (arith, lone_bound w c.session u.conn u.number b rs lone allowed, no_more _ parts.1)), tt)

  pub committed : (c : Commit) (f : Session) → get b c.session ≡ Some f → is_wrong_commit c.admission c.stream f ≡ false → is_startup_taken b c.startup f ≡ false → is_unready_commit c.admission f ≡ false → AllAllowed w b (committing c f)
  committed c f is right free ready =
      let s = c.session in
      let sound : SoundSession w f = subst (SoundRow w) is (ok.rows s) in
      let o = first_with (is_of_track c.stream.track) (entries f.admissions) in
      let add = adding_run w s c.admission c.stream f sound (may_commit c.admission c.stream f right ready) in
      let rs = adding s c.admission c.stream o in
      let lone = lone_adding s c.admission c.stream o in
      let allowed = lone_allowed w s b rs lone (subst (OwnAll rs) (sym is) add.run.own) in
      allowed-append w b rs (binding_to s c.startup) allowed (bound c f add rs refl is lone allowed c.startup free)

  -- the stream of a track with what is held under it
  track_dropped : (s t : ℕ) (f : Session) (o : Option (ℕ × Admission)) → get b s ≡ Some f → is_ready f.phase ≡ true → ((e : ℕ × Admission) → o ≡ Some e → under f e.0 ≡ e.1) → IsGranted w n b (giving_back_found s o)
  track_dropped s t f None is ready there = nothing_made
  track_dropped s t f (Some e) is ready there =
      let sound : SoundSession w f = subst (SoundRow w) is (ok.rows s) in
      let run = giving_run s e.0 f e.1 (record { ready = ready; normal = sound.normal; proper = λ a x some. (sound.in_whole a x some).1 }) (there e refl) in
      giving s (giving_back s e) (giving_under s e) (subst (OwnAll (giving_back s e)) (sym is) run.own)

  pub dropped : (s t : ℕ) (f : Session) → get b s ≡ Some f → (not (is_ready f.phase) && nat_lt 0 (of_session (other_tracks t) f)) ≡ false → IsGranted w n b (dropping_track s t f)
  dropped s t f is right =
      elim (nat_lt 0 (of_session (other_tracks t) f)) as (λ v. (not (is_ready f.phase) && v) ≡ false → IsGranted w n b (cond v (giving_back_found s (first_with (is_of_track t) (entries f.admissions))) (ending s f))) [
        | true ↦ λ right. track_dropped s t f (first_with (is_of_track t) (entries f.admissions)) is (not_and (is_ready f.phase) right) (λ e some. ap or_bare (get-entries f.admissions e.0 ∙ first_found (is_of_track t) (entries f.admissions) e (entries_sorted f.admissions) some))
        | false ↦ λ _. ended s f is
      ] right
    where
      not_and : (v : Bool) → (not v && true) ≡ false → v ≡ true
      not_and true h = refl
      not_and false h = absurd cc

  found_there : (p : ℕ × Session → Bool) (e : ℕ × Session) → first_with p (entries b) ≡ Some e → get b e.0 ≡ Some e.1
  found_there p e is = get-entries b e.0 ∙ first_found p (entries b) e (entries_sorted b) is

  own_unbinding : (s : ℕ) (f : Session) → OwnAll (unbinding s f.binding) (Some f)
  own_unbinding s f = elim (f.binding) as (λ o. f.binding ≡ o → OwnAll (unbinding s o) (Some f)) [ None ↦ λ _. tt | Some k ↦ λ is. (is, tt) ] refl

  hung_up : (c : ℕ) (e : ℕ × Session) → get b e.0 ≡ Some e.1 → IsGranted w n b (hanging_up c (Some e))
  hung_up c e is =
      elim (is_channelled c e.1) as (λ t. IsGranted w n b (cond t (ending e.0 e.1) (unbinding e.0 e.1.binding))) [
        | true ↦ ended e.0 e.1 is
        | false ↦ giving e.0 (unbinding e.0 e.1.binding) (giving_unbinding e.0 e.1.binding) (subst (OwnAll (unbinding e.0 e.1.binding)) (sym is) (own_unbinding e.0 e.1))
      ]

  pub own_move : (s : ℕ) (f : Session) (q : Phase) → get b s ≡ Some f → (IsPlaying q → 0 < of_session streams f) → Own (moves s f.phase q) (get b s)
  own_move s f q is stream = subst (Own (moves s f.phase q)) (sym is) (record { phase = refl; stream = stream })

  paused : (s unit_ms now : ℕ) (f : Session) → get b s ≡ Some f → is_full w n b (pausing s unit_ms now f.phase) ≡ false → IsGranted w n b (pausing s unit_ms now f.phase)
  paused s unit_ms now f is full =
      let q = Ready (point f.phase unit_ms now) (sent_with_due f.phase unit_ms now) in
      elim (is_ready f.phase) as (λ t. is_full w n b (cond t [] (moves s f.phase q ∷ [])) ≡ false → IsGranted w n b (cond t [] (moves s f.phase q ∷ []))) [
        | true ↦ λ _. nothing_made
        | false ↦ λ full. lone_one s (moves s f.phase q) refl (own_move s f q is (λ p. absurd cc)) full
      ] full

  finished : (s unit_ms now : ℕ) (f : Session) (p : Phase) → get b s ≡ Some f → f.phase ≡ p → is_full w n b (finishing s unit_ms now p) ≡ false → IsGranted w n b (finishing s unit_ms now p)
  finished s unit_ms now f (Ready at sent) is same full = nothing_made
  finished s unit_ms now f (Playing from stop sent since) is same full =
      lone_one s (moves s (Playing from stop sent since) (Ended stop (sent_with_due (Playing from stop sent since) unit_ms now))) refl
      (subst (Own (moves s (Playing from stop sent since) (Ended stop (sent_with_due (Playing from stop sent since) unit_ms now)))) (sym is) (record { phase = same; stream = λ p. absurd cc })) full
  finished s unit_ms now f (Ended at sent) is same full = nothing_made

  touched : (s until : ℕ) (f : Session) → get b s ≡ Some f → is_full w n b (touching s f.expires until) ≡ false → IsGranted w n b (touching s f.expires until)
  touched s until f is full =
      elim (nat_lt f.expires until) as (λ t. is_full w n b (cond t (touches s f.expires until ∷ []) []) ≡ false → IsGranted w n b (cond t (touches s f.expires until ∷ []) [])) [
        | true ↦ λ full. lone_one s (touches s f.expires until) refl (subst (Own (touches s f.expires until)) (sym is) refl) full
        | false ↦ λ _. nothing_made
      ] full

  -- a session that lives, or nothing is made
  by_row : (s : ℕ) (P : Option Session → Type 0) → P None → ((f : Session) → get b s ≡ Some f → P (Some f)) → P (get b s)
  by_row s P none some = elim (get b s) as (λ o. get b s ≡ o → P o) [ None ↦ λ _. none | Some f ↦ λ is. some f is ] refl

  -- What each step makes where no refusal fits it.

  open_granted : (l : Life) → NoneFits (refusals w n b (Open l)) → IsGranted w n b (made w b (Open l))
  open_granted l h =
      let free = or_parts (is_some (get b l.session)) _ h.id_taken in
      let few = h.too_many_sessions in
      record {
        allowed = ((none_there (get b l.session) free.0, record { id_free = no_more (amount (with_id l.id) b) free.1; few = grind (arith, nat_tests) }), tt);
        room = not_full w n b (change.Open l ∷ []) room h.journal_full;
      }

  hold_rate_granted : (s a bits : ℕ) → NoneFits (refusals w n b (HoldRate s a bits)) → IsGranted w n b (made w b (HoldRate s a bits))
  hold_rate_granted s a bits h =
      let fits = h.no_bandwidth in
      hold_granted s a (Rate bits) h.no_session h.wrong_state (record { in_whole = tt; free = λ q is. no_spot q is; rate = grind (arith, nat_tests) }) h.journal_full
    where
      no_spot : (q : Spot) → covers q (Rate bits) ≡ true → amount (covering q) b ≡ 0
      no_spot (UdpPort q) is = absurd cc
      no_spot (Channel d l) is = absurd cc

  -- what was found is held, or nothing is made
  found_granted : (s a : ℕ) (g : ℕ → Thing) (o : Option ℕ) → is_none (get b s) ≡ false → ((p : ℕ) → if_living (get b s) (is_wrong_hold a (g p)) ≡ false) → ((p : ℕ) → o ≡ Some p → IsFree w b (g p))
      → is_full w n b (hold_chosen s a (option_map g o)) ≡ false → IsGranted w n b (hold_chosen s a (option_map g o))
  found_granted s a g None lives right free full = nothing_made
  found_granted s a g (Some p) lives right free full = hold_granted s a (g p) lives (right p) (free p refl) full

  hold_pair_granted : (s a from : ℕ) → NoneFits (refusals w n b (HoldPair s a from)) → IsGranted w n b (made w b (HoldPair s a from))
  hold_pair_granted s a from h = found_granted s a Pair (least_pair w b from) h.no_session (λ _. h.wrong_state) (chosen_pair w b from) h.journal_full

  hold_port_granted : (s a from : ℕ) → NoneFits (refusals w n b (HoldPort s a from)) → IsGranted w n b (made w b (HoldPort s a from))
  hold_port_granted s a from h = found_granted s a Port (least_port w b from) h.no_session (λ _. h.wrong_state) (chosen_port w b from) h.journal_full

  hold_chan_granted : (k : ChannelHold) → IsWish k.wish → NoneFits (refusals w n b (HoldChan k)) → IsGranted w n b (made w b (HoldChan k))
  hold_chan_granted k ask h =
      found_granted k.session k.admission (Chan k.conn) (chosen_chan b k.conn k.wish) h.no_session (λ _. h.wrong_state) (λ l is. chosen_chan_free w b k.conn k.wish l ask is) h.journal_full

  commit_granted : (c : Commit) → NoneFits (refusals w n b (step.Commit c)) → IsGranted w n b (made w b (step.Commit c))
  commit_granted c h =
      by_row c.session (λ o. if_living o (is_wrong_commit c.admission c.stream) ≡ false → if_living o (is_startup_taken b c.startup) ≡ false → if_living o (is_unready_commit c.admission) ≡ false → is_full w n b (of_living o (committing c)) ≡ false → IsGranted w n b (of_living o (committing c)))
      (λ _ _ _ _. nothing_made)
      (λ f is right free ready full. record { allowed = committed c f is right free ready; room = not_full w n b (committing c f) room full })
      h.wrong_state h.startup_taken h.not_held h.journal_full

  unwind_granted : (ch : Chain) → AreDifferent ch.first ch.second → IsGranted w n b (made w b (Unwind ch))
  unwind_granted ch apart =
      by_row ch.session (λ o. IsGranted w n b (of_living o (unwinding ch))) nothing_made
      (λ f is. let back = unwound ch f is apart in giving ch.session (unwinding ch f) back.1 (subst (OwnAll (unwinding ch f)) (sym is) back.0))

  played : (d : Play) (f : Session) → get b d.session ≡ Some f → is_wrong_play d f ≡ false → is_full w n b (playing d f.phase) ≡ false → IsGranted w n b (playing d f.phase)
  played d f is right full =
      let has = not-false (has_stream f) (or_parts (not (has_stream f)) _ right).0 in
      lone_one d.session (moves d.session f.phase (begun d f.phase)) refl (own_move d.session f (begun d f.phase) is (λ _. some_more (of_session streams f) has)) full

  play_granted : (d : Play) → NoneFits (refusals w n b (step.Play d)) → IsGranted w n b (made w b (step.Play d))
  play_granted d h =
      by_row d.session (λ o. if_living o (is_wrong_play d) ≡ false → is_full w n b (of_living o (λ f. playing d f.phase)) ≡ false → IsGranted w n b (of_living o (λ f. playing d f.phase)))
      (λ _ _. nothing_made)
      (played d)
      h.wrong_state h.journal_full

  pause_granted : (s unit_ms now : ℕ) → NoneFits (refusals w n b (Pause s unit_ms now)) → IsGranted w n b (made w b (Pause s unit_ms now))
  pause_granted s unit_ms now h =
      by_row s (λ o. is_full w n b (of_living o (λ f. pausing s unit_ms now f.phase)) ≡ false → IsGranted w n b (of_living o (λ f. pausing s unit_ms now f.phase)))
      (λ _. nothing_made)
      (paused s unit_ms now)
      h.journal_full

  finish_granted : (s unit_ms now : ℕ) → NoneFits (refusals w n b (Finish s unit_ms now)) → IsGranted w n b (made w b (Finish s unit_ms now))
  finish_granted s unit_ms now h =
      by_row s (λ o. (not (if_living o (λ f. is_unfinished f.phase unit_ms now)) && is_full w n b (of_living o (λ f. finishing s unit_ms now f.phase))) ≡ false → if_living o (λ f. is_unfinished f.phase unit_ms now) ≡ false → IsGranted w n b (of_living o (λ f. finishing s unit_ms now f.phase)))
      (λ _ _. nothing_made)
      (λ f is full due. finished s unit_ms now f f.phase is refl (second_off (is_unfinished f.phase unit_ms now) (is_full w n b (finishing s unit_ms now f.phase)) due full))
      h.journal_full h.nothing_due
    where
      second_off : (u v : Bool) → u ≡ false → (not u && v) ≡ false → v ≡ false
      second_off true v off h = absurd cc
      second_off false v off h = h

  touch_granted : (s until : ℕ) → NoneFits (refusals w n b (Touch s until)) → IsGranted w n b (made w b (Touch s until))
  touch_granted s until h =
      by_row s (λ o. is_full w n b (of_living o (λ f. touching s f.expires until)) ≡ false → IsGranted w n b (of_living o (λ f. touching s f.expires until)))
      (λ _. nothing_made)
      (touched s until)
      h.journal_full

  drop_track_granted : (s t : ℕ) → NoneFits (refusals w n b (DropTrack s t)) → IsGranted w n b (made w b (DropTrack s t))
  drop_track_granted s t h =
      by_row s (λ o. if_living o (λ f. not (is_ready f.phase) && nat_lt 0 (of_session (other_tracks t) f)) ≡ false → IsGranted w n b (of_living o (dropping_track s t)))
      (λ _. nothing_made)
      (dropped s t)
      h.wrong_state

  end_granted : (s : ℕ) → IsGranted w n b (made w b (End s))
  end_granted s = by_row s (λ o. IsGranted w n b (of_living o (ending s))) nothing_made (ended s)

  expire_granted : (now : ℕ) → IsGranted w n b (made w b (Expire now))
  expire_granted now =
      elim (first_with (is_expired now) (entries b)) as (λ o. first_with (is_expired now) (entries b) ≡ o → IsGranted w n b (ending_found o)) [
        | None ↦ λ _. nothing_made
        | Some e ↦ λ is. ended e.0 e.1 (found_there (is_expired now) e is)
      ] refl

  hang_up_granted : (c : ℕ) → IsGranted w n b (made w b (Hangup c))
  hang_up_granted c =
      elim (first_with (is_on c) (entries b)) as (λ o. first_with (is_on c) (entries b) ≡ o → IsGranted w n b (hanging_up c o)) [
        | None ↦ λ _. nothing_made
        | Some e ↦ λ is. hung_up c e (found_there (is_on c) e is)
      ] refl

  pub made_granted : (step : Step) → IsAskable step → NoneFits (refusals w n b step) → IsGranted w n b (made w b step)
  made_granted (Open l) ask h = open_granted l h
  made_granted (HoldRate s a bits) ask h = hold_rate_granted s a bits h
  made_granted (HoldPair s a from) ask h = hold_pair_granted s a from h
  made_granted (HoldPort s a from) ask h = hold_port_granted s a from h
  made_granted (HoldChan k) ask h = hold_chan_granted k ask h
  made_granted (Return s a x) ask h = giving s (frees s a x ∷ []) (refl, tt) (own_return s a x (get b s) h.no_session h.wrong_state h.not_held, tt)
  made_granted (step.Commit c) ask h = commit_granted c h
  made_granted (Unwind ch) ask h = unwind_granted ch ask
  made_granted (step.Play d) ask h = play_granted d h
  made_granted (Pause s unit_ms now) ask h = pause_granted s unit_ms now h
  made_granted (Finish s unit_ms now) ask h = finish_granted s unit_ms now h
  made_granted (Touch s until) ask h = touch_granted s until h
  made_granted (DropTrack s t) ask h = drop_track_granted s t h
  made_granted (End s) ask h = end_granted s
  made_granted (Expire now) ask h = expire_granted now
  made_granted (Hangup c) ask h = hang_up_granted c

pub granted_law : Granted
granted_law w j step rs legal room ask is =
    let h = accepted (refusals w (length j) (book_of j) step) (made w (book_of j) step) rs is in
    subst (IsGranted w (length j) (book_of j)) h.1 (made_granted w (length j) (book_of j) (sound_of w j legal) room step ask h.0)
