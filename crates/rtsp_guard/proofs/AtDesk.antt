-- A desk behind a gate.
use Rattle.std.proofs.Common.{◌≡◌, ℕ, List, [], ◌∷◌, Result, Ok, Err, OnOk, IfErr, refl, sym, ◌∙◌, ap, subst, inl, inr}
use Rattle.rtsp_grammar.specs.declared.fault.MessageFault.{MessageFault}
use Rattle.rtsp_grammar.specs.declared.message.Item.{Item}
use Rattle.rtsp_grammar.specs.declared.message.Item.TheVariants as items
use Rattle.rtsp_grammar.specs.declared.message.Request.{Request}
use Rattle.rtsp_credentials.specs.declared.gate.Gate.{Gate}
use Rattle.rtsp_credentials.specs.declared.users.Users.{Users}
use Rattle.rtsp_credentials.specs.declared.refusal.Refusal.{Refusal}
use Rattle.rtsp_credentials.specs.Verdict.{passed}
use Rattle.rtsp_traits.specs.Devices.{Devices}
use Rattle.rtsp_engine.specs.Desk.{state, SameParts}
use Rattle.rtsp_engine.specs.DeskAnswers.{AnswersAt, GivesUpAt}
use Rattle.rtsp_engine.specs.Served.{Output, Served}
use Rattle.rtsp_engine.specs.declared.desk.Desk.{Desk}
use Rattle.rtsp_engine.proofs.Keeping.{answered_keeps, fault_keeps}
use Rattle.rtsp_engine.proofs.Parts.{same_parts, same_again}
use Rattle.rtsp_guard.specs.Guarding.{Kept, turned, AnswersBy, GivesUpBy, AnswersGuarded, GivesUpGuarded}
use Rattle.rtsp_dialect.specs.Repair.{repaired, repaired_item}
use Rattle.rtsp_dialect.specs.Repairing.{AnswersRepaired, GivesUpRepaired}
use Rattle.rtsp_guard.specs.AtDesk.{NoneIsLetThrough, TakesAtDesk, FaultsAtDesk, TakesRepairedAtDesk, FaultsRepairedAtDesk}
use Rattle.rtsp_guard.specs.Quiet.{OnlyCounted, Unchanged, ChangesNothing}
use Rattle.rtsp_guard.proofs.Counting.{same_gate, after_counted, counted_again, stays_refused}

pub behind : (users : Users) (gate : Gate) (item : Item) (others : List Item) → NoneIsLetThrough users gate (item ∷ others) → NoneIsLetThrough users gate others
behind users gate (items.Request request) others none = none.1
behind users gate (items.Response response) others none = none
behind users gate (items.Frame frame) others none = none

module _ {R B W C P S N : Type 0} (d : Devices B W C P S) where
  abbrev Same : Kept (Desk R B W C P S N) → Kept (Desk R B W C P S N) → Type 0
  Same s t = SameParts s.answerer t.answerer

  abbrev Here : Kept (Desk R B W C P S N) → Item → List ℕ → Kept (Desk R B W C P S N) → Type 0
  Here = AnswersGuarded (AnswersAt d) (GivesUpAt d)

  abbrev Up : Kept (Desk R B W C P S N) → Item → Kept (Desk R B W C P S N) → Type 0
  Up = GivesUpGuarded (AnswersAt d) (GivesUpAt d)

  turned_same : (refusal : Refusal) (s t : Kept (Desk R B W C P S N)) → t ≡ turned refusal s → Same s t
  turned_same refusal s t e = subst (λ (z : Kept (Desk R B W C P S N)). Same s z) (sym e) (same_parts s.answerer)

  by_same : (verdict : Result Gate Refusal) (s t : Kept (Desk R B W C P S N)) (request : Request) (bytes : List ℕ) → AnswersBy (AnswersAt d) (GivesUpAt d) verdict s request bytes t → Same s t
  by_same (Ok gate) s t request bytes h = h.reaches.answers.1
  by_same (Err refusal) s t request bytes h = turned_same refusal s t h.1

  up_same : (verdict : Result Gate Refusal) (s t : Kept (Desk R B W C P S N)) (request : Request) → GivesUpBy (AnswersAt d) (GivesUpAt d) verdict s request t → Same s t
  up_same (Ok gate) s t request (inl same) = subst (λ (z : Kept (Desk R B W C P S N)). Same s z) (sym same) (same_parts s.answerer)
  up_same (Ok gate) s t request (inr h) = h.gives_up.gives_up.1
  up_same (Err refusal) s t request h = turned_same refusal s t h

  here_same : (s t : Kept (Desk R B W C P S N)) (item : Item) (bytes : List ℕ) → Here s item bytes t → Same s t
  here_same s t (items.Request request) bytes h = by_same (passed s.users s.gate request) s t request bytes h
  here_same s t (items.Response response) bytes h = h.answers.1
  here_same s t (items.Frame frame) bytes h = h.answers.1

  lost_same : (s t : Kept (Desk R B W C P S N)) (item : Item) → Up s item t → Same s t
  lost_same s t (items.Request request) h = up_same (passed s.users s.gate request) s t request h
  lost_same s t (items.Response response) h = h.gives_up.1
  lost_same s t (items.Frame frame) h = h.gives_up.1

  pub pushed_same : (pushed : Result (Unit {0}) MessageFault) (bytes rest : List ℕ) (s t : Output (Kept (Desk R B W C P S N)))
      → OnOk pushed (TakesAtDesk d bytes rest s t) → IfErr pushed (λ f. FaultsAtDesk d bytes f s t) → Same s.answerer t.answerer
  pushed_same (Ok done) bytes rest s t ok err = answered_keeps Here Up Same (λ s. same_parts s.answerer) (λ s t u h k. same_again s.answerer t.answerer u.answerer h k) here_same lost_same bytes rest s t ok
  pushed_same (Err fault) bytes rest s t ok err = fault_keeps Here Up Same (λ s. same_parts s.answerer) (λ s t u h k. same_again s.answerer t.answerer u.answerer h k) here_same lost_same bytes fault s t err

  -- ---- where each request is repaired first

  abbrev R' : Kept (Desk R B W C P S N) → Item → List ℕ → Kept (Desk R B W C P S N) → Type 0
  R' = AnswersRepaired Here Up

  abbrev L' : Kept (Desk R B W C P S N) → Item → Kept (Desk R B W C P S N) → Type 0
  L' = GivesUpRepaired Here Up

  repaired_here : (s t : Kept (Desk R B W C P S N)) (item : Item) (bytes : List ℕ) → R' s item bytes t → Same s t
  repaired_here s t item bytes h = here_same s t (repaired_item item) bytes h

  repaired_lost : (s t : Kept (Desk R B W C P S N)) (item : Item) → L' s item t → Same s t
  repaired_lost s t (items.Request request) (inl e) = subst (λ (z : Kept (Desk R B W C P S N)). Same z t) e (same_parts t.answerer)
  repaired_lost s t (items.Request request) (inr h) = lost_same s t (items.Request (repaired request)) h
  repaired_lost s t (items.Response response) h = lost_same s t (items.Response response) h
  repaired_lost s t (items.Frame frame) h = lost_same s t (items.Frame frame) h

  pub repaired_same : (pushed : Result (Unit {0}) MessageFault) (bytes rest : List ℕ) (s t : Output (Kept (Desk R B W C P S N)))
      → OnOk pushed (TakesRepairedAtDesk d bytes rest s t) → IfErr pushed (λ f. FaultsRepairedAtDesk d bytes f s t) → Same s.answerer t.answerer
  repaired_same (Ok done) bytes rest s t ok err = answered_keeps R' L' Same (λ s. same_parts s.answerer) (λ s t u h k. same_again s.answerer t.answerer u.answerer h k) repaired_here repaired_lost bytes rest s t ok
  repaired_same (Err fault) bytes rest s t ok err = fault_keeps R' L' Same (λ s. same_parts s.answerer) (λ s t u h k. same_again s.answerer t.answerer u.answerer h k) repaired_here repaired_lost bytes fault s t err

  -- ---- refused requests

  unchanged : (s t : Kept (Desk R B W C P S N)) → t ≡ s → Unchanged s t
  unchanged s t e = subst (λ (z : Kept (Desk R B W C P S N)). Unchanged s z) (sym e) (record { state = refl; gate = same_gate s.gate s.gate refl; users = refl })

  turned_unchanged : (refusal : Refusal) (s t : Kept (Desk R B W C P S N)) → t ≡ turned refusal s → Unchanged s t
  turned_unchanged refusal s t e = subst (λ (z : Kept (Desk R B W C P S N)). Unchanged s z) (sym e) (record { state = refl; gate = after_counted refusal s.gate; users = refl })

  again : (s t u : Kept (Desk R B W C P S N)) → Unchanged s t → Unchanged t u → Unchanged s u
  again s t u h k = record { state = k.state ∙ h.state; gate = counted_again s.gate t.gate u.gate h.gate k.gate; users = k.users ∙ h.users }

  refused : (verdict : Result Gate Refusal) (refusal : Refusal) (s t : Kept (Desk R B W C P S N)) (request : Request) (bytes : List ℕ) → verdict ≡ Err refusal
      → AnswersBy (AnswersAt d) (GivesUpAt d) verdict s request bytes t → Unchanged s t
  refused (Ok gate) refusal s t request bytes e h = absurd cc
  refused (Err other) refusal s t request bytes e h = turned_unchanged other s t h.1

  one : (users : Users) (gate : Gate) (s t : Kept (Desk R B W C P S N)) (item : Item) (others : List Item) (bytes : List ℕ) → s.users ≡ users → OnlyCounted gate s.gate
      → NoneIsLetThrough users gate (item ∷ others) → Here s item bytes t → Unchanged s t
  one users gate s t (items.Request request) others bytes u g none h =
      let r = stays_refused users gate s.gate request none.0.0 g none.0.1 in
      refused (passed s.users s.gate request) r.0 s t request bytes (ap (λ (x : Users). passed x s.gate request) u ∙ r.1) h
  one users gate s t (items.Response response) others bytes u g none h = record { state = h.answers.0.1; gate = same_gate s.gate t.gate h.goes_on; users = h.users }
  one users gate s t (items.Frame frame) others bytes u g none h = record { state = h.answers.0.1; gate = same_gate s.gate t.gate h.goes_on; users = h.users }

  served_quiet : (users : Users) (gate : Gate) (all : List Item) (bytes output : List ℕ) (s t : Kept (Desk R B W C P S N)) → s.users ≡ users → s.gate ≡ gate
      → NoneIsLetThrough users gate all → Served Here Up all bytes s output t → Unchanged s t
  served_quiet users gate [] bytes output s t u g none h = unchanged s t h.2
  served_quiet users gate (item ∷ before) bytes output s t u g none h =
      let so_far = served_quiet users gate before h.front h.first s h.mid u g (behind users gate item before none) h.before in
      let counted = subst (λ (x : Gate). OnlyCounted x h.mid.gate) g so_far.gate in
      again s h.mid t so_far (one users gate h.mid t item before h.last (so_far.users ∙ u) counted none h.answer)

  pub changes_nothing : ChangesNothing R N d
  changes_nothing bytes rest s t h none = served_quiet s.answerer.users s.answerer.gate h.items h.done h.output s.answerer t.answerer refl refl none h.served
