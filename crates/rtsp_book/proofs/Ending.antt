-- The end of a session gives back all that it has, and is allowed record by record.
use Rattle.std.proofs.Common.{◌≡◌, ◌==◌, ℕ, true, false, T, cond, List, [], ◌∷◌, ◌++◌, refl, sym, ◌∙◌, ap, subst, arith, append_assoc}
use Rattle.std.specs.Prelude.{Option, Some, None, flat_map}
use Rattle.std.proofs.lemmas.Bool.{and_parts}
use Rattle.std.proofs.lemmas.Bool.Decides.{nat_tests}
use Rattle.std.specs.Ordering.{nat_cmp}
use Rattle.std.specs.FinMap.{get, find, empty, entries, entries_sorted, is_sorted, get-entries}
use Rattle.rtsp_record.specs.declared.holdings.Thing.{Thing}
use Rattle.rtsp_record.specs.declared.holdings.Thing.TheVariants.{Rate}
use Rattle.rtsp_record.specs.declared.phases.Phase.{Phase}
use Rattle.rtsp_record.specs.declared.phases.Phase.TheVariants.{Ready, Playing, Ended}
use Rattle.rtsp_record.specs.declared.streams.Stream.{Stream}
use Rattle.rtsp_record.specs.declared.holdings.Whole.{Whole}
use Rattle.rtsp_record.specs.declared.changes.Record.{Record}
use Rattle.rtsp_record.specs.Records.{closes, frees, moves}
use Rattle.rtsp_record.specs.Tables.{Table, set}
use Rattle.rtsp_record.specs.declared.holdings.Admission.{Admission}
use Rattle.rtsp_record.specs.Books.{Session, opening, opened, bare, or_bare, kept, streaming, under, with_under}
use Rattle.rtsp_record.specs.Sums.{is_opening}
use Rattle.rtsp_record.specs.Rules.{IsReady, as_rate, IsAddress}
use Rattle.rtsp_record.specs.Journals.{thinned}
use Rattle.rtsp_book.specs.Returns.{dropping, freeing, freeing_rate, giving_back, resetting, unbinding, ending}
use Rattle.rtsp_record.proofs.Tables.{own, at_key, same_table, get-set, get-none, set-twice, set-same}
use Rattle.rtsp_record.specs.Sound.{Normal}
use Rattle.rtsp_record.proofs.Rows.{under-own, at_under, normal-under}
use Rattle.rtsp_record.specs.Sound.{SoundSession}
use Rattle.rtsp_record.proofs.Strands.{row_after}
use Rattle.rtsp_record.proofs.Trims.{AllFine}
use Rattle.rtsp_sessions.proofs.FirstRows.{sorted_parts, below_none}
use Rattle.rtsp_book.proofs.Runs.{OwnAll, row_after-append, own-append, Run, run-none, run-append, run-to, Giving, fine-append}

-- a session that can give back all that stands under its admissions
pub record Givable (f : Session) : Type 0 where
  pub ready : IsReady f.phase
  pub normal : Normal f
  pub proper : (a : ℕ) (x : Thing) → (under f a).address ≡ Some x → IsAddress x

pub with_under-same : (f : Session) (a : ℕ) (d : Admission) → Normal f → d ≡ under f a → with_under f a d ≡ f
with_under-same f a d normal is = ap (λ (t : Table Admission). record f { admissions = t }) (ap (set f.admissions a) (ap kept is ∙ normal a) ∙ set-same f.admissions a)

pub with_under-twice : (f : Session) (a : ℕ) (d e : Admission) → with_under (with_under f a d) a e ≡ with_under f a e
with_under-twice f a d e = ap (λ (t : Table Admission). record f { admissions = t }) (set-twice f.admissions a (kept d) (kept e))

pub dropping_run : (s a : ℕ) (f : Session) (d : Admission) → IsReady f.phase → Normal f → under f a ≡ d → Run (dropping s a d.stream) f (with_under f a (streaming None d))
dropping_run s a f d ready normal is =
    elim (d.stream) as (λ o. d.stream ≡ o → Run (dropping s a o) f (with_under f a (streaming None d))) [
      | None ↦ λ none. run-to [] f f (with_under f a (streaming None d)) (sym (with_under-same f a (streaming None d) normal (ap (λ (o : Option Stream). record d { stream = o }) (sym none) ∙ sym is))) (run-none f)
      | Some v ↦ λ some. record {
        own = (record { ready = ready; there = ap (λ (d : Admission). d.stream) is ∙ some }, tt);
        ends = ap (λ d. Some (with_under f a (streaming None d))) is;
      }
    ] refl

free_one : (s a : ℕ) (f : Session) (d : Admission) (x : Thing) → under f a ≡ d → d.stream ≡ None → IsAddress x → d.address ≡ Some x → Run (frees s a x ∷ []) f (with_under f a (record d { address = None }))
free_one s a f d (Rate n) is no_stream h some = absurd h
free_one s a f d x is no_stream h some =
    record {
      own = (record { held = ap (λ (d : Admission). d.address) is ∙ some; no_stream = ap (λ (d : Admission). d.stream) is ∙ no_stream }, tt);
      ends = ap (λ (d : Admission). Some (with_under f a (record d { address = None }))) is;
    }

pub freeing_run : (s a : ℕ) (f : Session) (d : Admission) → Normal f → under f a ≡ d → d.stream ≡ None → ((x : Thing) → d.address ≡ Some x → IsAddress x) → Run (freeing s a d.address) f (with_under f a (record d { address = None }))
freeing_run s a f d normal is no_stream proper =
    elim (d.address) as (λ o. d.address ≡ o → Run (freeing s a o) f (with_under f a (record d { address = None }))) [
      | None ↦ λ none. run-to [] f f (with_under f a (record d { address = None })) (sym (with_under-same f a (record d { address = None }) normal (ap (λ (o : Option Thing). record d { address = o }) (sym none) ∙ sym is))) (run-none f)
      | Some x ↦ λ some. free_one s a f d x is no_stream (proper x some) some
    ] refl

pub freeing_rate_run : (s a : ℕ) (f : Session) (d : Admission) → Normal f → under f a ≡ d → d.stream ≡ None → Run (freeing_rate s a d.rate) f (with_under f a (record d { rate = None }))
freeing_rate_run s a f d normal is no_stream =
    elim (d.rate) as (λ o. d.rate ≡ o → Run (freeing_rate s a o) f (with_under f a (record d { rate = None }))) [
      | None ↦ λ none. run-to [] f f (with_under f a (record d { rate = None })) (sym (with_under-same f a (record d { rate = None }) normal (ap (λ (o : Option ℕ). record d { rate = o }) (sym none) ∙ sym is))) (run-none f)
      | Some n ↦ λ some. record {
        own = (record { held = ap (λ (d : Admission). as_rate d.rate) is ∙ ap as_rate some; no_stream = ap (λ (d : Admission). d.stream) is ∙ no_stream }, tt);
        ends = ap (λ (d : Admission). Some (with_under f a (record d { rate = None }))) is;
      }
    ] refl

-- all that stands under one admission
pub giving_run : (s a : ℕ) (f : Session) (d : Admission) → Givable f → under f a ≡ d → Run (giving_back s (a, d)) f (thinned a f)
giving_run s a f d ok is =
    let d1 : Admission = streaming None d in
    let d2 : Admission = record d1 { address = None } in
    let d3 : Admission = record d2 { rate = None } in
    let f1 = with_under f a d1 in
    let f2 = with_under f1 a d2 in
    let f3 = with_under f2 a d3 in
    let n1 = normal-under f a d1 ok.normal in
    let n2 = normal-under f1 a d2 n1 in
    let last : f3 ≡ thinned a f = with_under-twice f1 a d2 d3 ∙ with_under-twice f a d1 d3 in
    run-append (dropping s a d.stream) (freeing s a d.address ++ freeing_rate s a d.rate) f f1 (thinned a f)
    (dropping_run s a f d ok.ready ok.normal is)
    (run-append (freeing s a d.address) (freeing_rate s a d.rate) f1 f2 (thinned a f)
    (freeing_run s a f1 d1 n1 (under-own f a d1) refl (λ x some. ok.proper a x (ap (λ (d : Admission). d.address) is ∙ some)))
    (run-to (freeing_rate s a d.rate) f2 f3 (thinned a f) last (freeing_rate_run s a f2 d2 n2 (under-own f1 a d2) refl)))

givable_thinned : (a : ℕ) (f : Session) → Givable f → Givable (thinned a f)
givable_thinned a f ok =
    record {
      ready = ok.ready;
      normal = normal-under f a bare ok.normal;
      proper = λ b x. at_under f a bare b (λ d. d.address ≡ Some x → IsAddress x) (λ _ some. absurd cc) (ok.proper b x);
    }

-- without admissions
abbrev pub cleared : Session → Session
cleared f = record f { admissions = empty }

-- all that stands under these admissions, which are all there are
giving_all : (s : ℕ) (f : Session) (es : List (ℕ × Admission)) → Givable f → T (is_sorted nat_cmp es) → ((a : ℕ) → get f.admissions a ≡ find nat_cmp a es) → Run (flat_map (giving_back s) es) f (cleared f)
giving_all s f [] ok sorted all =
    run-to [] f f (cleared f) (ap (λ (t : Table Admission). record f { admissions = t }) (same_table f.admissions empty (λ a. all a ∙ sym (get-none a)))) (run-none f)
giving_all s f (e ∷ es) ok sorted all =
    let parts = sorted_parts e es sorted in
    let there : get f.admissions e.0 ≡ Some e.1 = all e.0 ∙ ap (λ t. cond t (Some e.1) (find nat_cmp e.0 es)) (own e.0) in
    let rest : (a : ℕ) → get (thinned e.0 f).admissions a ≡ find nat_cmp a es = λ a.
    get-set f.admissions e.0 a None
    ∙ at_key e.0 a (λ t. get f.admissions a ≡ cond t (Some e.1) (find nat_cmp a es) → cond t None (get f.admissions a) ≡ find nat_cmp a es) (λ _ same _. sym (ap (λ a. find nat_cmp a es) same ∙ below_none e.0 es parts.0)) (λ _ is. is) (all a) in
    run-append (giving_back s e) (flat_map (giving_back s) es) f (thinned e.0 f) (cleared f)
    (giving_run s e.0 f e.1 ok (ap or_bare there))
    (giving_all s (thinned e.0 f) es (givable_thinned e.0 f ok) parts.1 rest)

zero_is : (n : ℕ) → (n == 0) ≡ true → n ≡ 0
zero_is n h = grind (arith, nat_tests)

is_at_opening : (p : Phase) → is_opening p ≡ true → p ≡ opening
is_at_opening (Ready at sent) h = let parts = and_parts (at == 0) (sent == 0) h in λ i. Ready (zero_is at parts.0 i) (zero_is sent parts.1 i)
is_at_opening (Playing from stop sent since) h = absurd cc
is_at_opening (Ended at sent) h = absurd cc

resetting_run : (s : ℕ) (f : Session) → Run (resetting s f.phase) f (record f { phase = opening })
resetting_run s f =
    elim (is_opening f.phase) as (λ t. is_opening f.phase ≡ t → Run (cond t [] (moves s f.phase opening ∷ [])) f (record f { phase = opening })) [
      | true ↦ λ is. run-to [] f f (record f { phase = opening }) (ap (λ p. record f { phase = p }) (is_at_opening f.phase is)) (run-none f)
      | false ↦ λ off. record { own = (record { phase = refl; stream = λ p. absurd cc }, tt); ends = refl }
    ] refl

unbinding_run : (s : ℕ) (f : Session) → Run (unbinding s f.binding) f (record f { binding = None })
unbinding_run s f =
    elim (f.binding) as (λ o. f.binding ≡ o → Run (unbinding s o) f (record f { binding = None })) [
      | None ↦ λ none. run-to [] f f (record f { binding = None }) (ap (λ (o : Option (ℕ × ℕ)). record f { binding = o }) none) (run-none f)
      | Some k ↦ λ some. record { own = (some, tt); ends = refl }
    ] refl

-- the end of a session is allowed, and leaves none
pub ending_own : (w : Whole) (s : ℕ) (f : Session) → SoundSession w f → OwnAll (ending s f) (Some f) × (row_after (ending s f) (Some f) ≡ None)
ending_own w s f ok =
    let f0 : Session = record f { phase = opening } in
    let f1 = cleared f0 in
    let f2 : Session = record f1 { binding = None } in
    let es = flat_map (giving_back s) (entries f.admissions) in
    let close = closes s f.id f.conn f.expires ∷ [] in
    let givable : Givable f0 = record { ready = refl; normal = ok.normal; proper = λ a x some. (ok.in_whole a x some).1 } in
    let run = run-append (resetting s f.phase) (es ++ unbinding s f.binding) f f0 f2 (resetting_run s f)
    (run-append es (unbinding s f.binding) f0 f1 f2 (giving_all s f0 (entries f.admissions) givable (entries_sorted f.admissions) (λ a. get-entries f.admissions a)) (unbinding_run s f1)) in
    closed (resetting s f.phase) es (unbinding s f.binding) run
  where
    closed : (xs ys zs : List Record) → Run (xs ++ (ys ++ zs)) f (opened f.id f.conn f.expires) → OwnAll (xs ++ (ys ++ (zs ++ closes s f.id f.conn f.expires ∷ []))) (Some f) × (row_after (xs ++ (ys ++ (zs ++ closes s f.id f.conn f.expires ∷ []))) (Some f) ≡ None)
    closed xs ys zs run =
        let close = closes s f.id f.conn f.expires ∷ [] in
        let same : (xs ++ (ys ++ zs)) ++ close ≡ xs ++ (ys ++ (zs ++ close)) = append_assoc xs (ys ++ zs) close ∙ ap (λ v. xs ++ v) (append_assoc ys zs close) in
        subst (λ rs. OwnAll rs (Some f) × (row_after rs (Some f) ≡ None)) same
        (own-append (xs ++ (ys ++ zs)) close (Some f) run.own (run.ends, tt), row_after-append (xs ++ (ys ++ zs)) close (Some f))

pub giving_dropping : (s a : ℕ) (o : Option Stream) → AllFine (Giving s) (dropping s a o)
giving_dropping s a None = tt
giving_dropping s a (Some v) = (refl, tt)

pub giving_freeing : (s a : ℕ) (o : Option Thing) → AllFine (Giving s) (freeing s a o)
giving_freeing s a None = tt
giving_freeing s a (Some x) = (refl, tt)

pub giving_freeing_rate : (s a : ℕ) (o : Option ℕ) → AllFine (Giving s) (freeing_rate s a o)
giving_freeing_rate s a None = tt
giving_freeing_rate s a (Some n) = (refl, tt)

pub giving_under : (s : ℕ) (e : ℕ × Admission) → AllFine (Giving s) (giving_back s e)
giving_under s e =
    fine-append (Giving s) (dropping s e.0 e.1.stream) (freeing s e.0 e.1.address ++ freeing_rate s e.0 e.1.rate) (giving_dropping s e.0 e.1.stream)
    (fine-append (Giving s) (freeing s e.0 e.1.address) (freeing_rate s e.0 e.1.rate) (giving_freeing s e.0 e.1.address) (giving_freeing_rate s e.0 e.1.rate))

giving_each : (s : ℕ) (es : List (ℕ × Admission)) → AllFine (Giving s) (flat_map (giving_back s) es)
giving_each s [] = tt
giving_each s (e ∷ es) = fine-append (Giving s) (giving_back s e) (flat_map (giving_back s) es) (giving_under s e) (giving_each s es)

giving_reset : (s : ℕ) (p : Phase) → AllFine (Giving s) (resetting s p)
giving_reset s p = elim (is_opening p) as (λ t. is_opening p ≡ t → AllFine (Giving s) (cond t [] (moves s p opening ∷ []))) [ true ↦ λ _. tt | false ↦ λ off. ((refl, off, refl), tt) ] refl

pub giving_unbinding : (s : ℕ) (o : Option (ℕ × ℕ)) → AllFine (Giving s) (unbinding s o)
giving_unbinding s None = tt
giving_unbinding s (Some k) = (refl, tt)

pub giving_ending : (s : ℕ) (f : Session) → AllFine (Giving s) (ending s f)
giving_ending s f =
    let es = flat_map (giving_back s) (entries f.admissions) in
    let close = closes s f.id f.conn f.expires ∷ [] in
    fine-append (Giving s) (resetting s f.phase) (es ++ (unbinding s f.binding ++ close)) (giving_reset s f.phase)
    (fine-append (Giving s) es (unbinding s f.binding ++ close) (giving_each s (entries f.admissions))
    (fine-append (Giving s) (unbinding s f.binding) close (giving_unbinding s f.binding) (refl, tt)))
