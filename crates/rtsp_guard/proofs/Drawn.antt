-- Of the SETUPs that were refused behind a gate nothing is left, where all seats use drawn numbers alone.
use Rattle.std.proofs.Common.{◌≡◌, ℕ, List, Result, Ok, Err, OnOk, IfErr, sym, subst, inl, inr}
use Rattle.rtsp_grammar.specs.declared.fault.MessageFault.{MessageFault}
use Rattle.rtsp_grammar.specs.declared.message.Item.{Item}
use Rattle.rtsp_grammar.specs.declared.message.Item.TheVariants as items
use Rattle.rtsp_grammar.specs.declared.message.Request.{Request}
use Rattle.rtsp_credentials.specs.declared.gate.Gate.{Gate}
use Rattle.rtsp_credentials.specs.declared.refusal.Refusal.{Refusal}
use Rattle.rtsp_credentials.specs.Verdict.{passed}
use Rattle.rtsp_traits.specs.Devices.{Devices}
use Rattle.rtsp_engine.specs.Numbers.{AnswersMeantDrawn}
use Rattle.rtsp_engine.specs.Served.{Output}
use Rattle.rtsp_engine.specs.Serving.{Serving, AnswersFrom, GivesUpFrom}
use Rattle.rtsp_engine.proofs.Cleaning.{meant_drawn, lost_drawn}
use Rattle.rtsp_engine.proofs.Strengthening.{answered_more, fault_more, visits_more}
use Rattle.rtsp_dialect.specs.Repair.{understood}
use Rattle.rtsp_watch.specs.Understanding.{players_served}
use Rattle.rtsp_guard.specs.Guarding.{Kept, Reaches, AnswersBy, GivesUpBy, AnswersGuarded, GivesUpGuarded}
use Rattle.rtsp_guard.specs.Understanding.{IsAlone, as_it_is, AnswersUnderstood, GivesUpUnderstood, TakesPiece, FaultsPiece, AnswersUnderstoodDrawn, LeavesTaken, LeavesFaulted, VisitedDrawn}

still_alone : (s t : Kept Serving) → t ≡ s → IsAlone s → IsAlone t
still_alone s t e is = subst (λ (z : Kept Serving). IsAlone z) (sym e) is

module _ {B W C P S : Type 0} (d : Devices B W C P S) where
  reached : (gate : Gate) (item : Item) (s t : Kept Serving) (bytes : List ℕ) → IsAlone s → Reaches (AnswersFrom d) (GivesUpFrom d) gate s item bytes t
      → Reaches (AnswersMeantDrawn d as_it_is) (GivesUpFrom d) gate s item bytes t × IsAlone t
  reached gate item s t bytes is h =
      let r = meant_drawn d as_it_is s.answerer t.answerer item bytes is h.answers in
      (record { answers = r.0; goes_on = h.goes_on; users = h.users }, r.1)

  by_drawn : (verdict : Result Gate Refusal) (s t : Kept Serving) (request : Request) (bytes : List ℕ) → IsAlone s
      → AnswersBy (AnswersFrom d) (GivesUpFrom d) verdict s request bytes t → AnswersBy (AnswersMeantDrawn d as_it_is) (GivesUpFrom d) verdict s request bytes t × IsAlone t
  by_drawn (Ok gate) s t request bytes is h =
      let r = reached gate (items.Request h.seen) s t bytes is h.reaches in
      (record { seen = h.seen; taken = h.taken; reaches = r.0 }, r.1)
  by_drawn (Err refusal) s t request bytes is h = (h, subst (λ (z : Kept Serving). IsAlone z) (sym h.1) is)

  up_drawn : (verdict : Result Gate Refusal) (s t : Kept Serving) (request : Request) → IsAlone s → GivesUpBy (AnswersFrom d) (GivesUpFrom d) verdict s request t → IsAlone t
  up_drawn (Ok gate) s t request is (inl same) = still_alone s t same is
  up_drawn (Ok gate) s t request is (inr h) = lost_drawn d as_it_is s.answerer t.answerer (items.Request h.seen) is h.gives_up.gives_up
  up_drawn (Err refusal) s t request is h = subst (λ (z : Kept Serving). IsAlone z) (sym h) is

  item_drawn : (item : Item) (s t : Kept Serving) (bytes : List ℕ) → IsAlone s
      → AnswersGuarded (AnswersFrom d) (GivesUpFrom d) s item bytes t → AnswersGuarded (AnswersMeantDrawn d as_it_is) (GivesUpFrom d) s item bytes t × IsAlone t
  item_drawn (items.Request request) s t bytes is h = by_drawn (passed s.users s.gate request) s t request bytes is h
  item_drawn (items.Response response) s t bytes is h = reached s.gate (items.Response response) s t bytes is h
  item_drawn (items.Frame frame) s t bytes is h = reached s.gate (items.Frame frame) s t bytes is h

  lost_alone : (item : Item) (s t : Kept Serving) → IsAlone s → GivesUpGuarded (AnswersFrom d) (GivesUpFrom d) s item t → IsAlone t
  lost_alone (items.Request request) s t is h = up_drawn (passed s.users s.gate request) s t request is h
  lost_alone (items.Response response) s t is h = lost_drawn d as_it_is s.answerer t.answerer (items.Response response) is h.gives_up
  lost_alone (items.Frame frame) s t is h = lost_drawn d as_it_is s.answerer t.answerer (items.Frame frame) is h.gives_up

  understood_drawn : (s t : Kept Serving) (item : Item) (bytes : List ℕ) → IsAlone s → AnswersUnderstood d s item bytes t → AnswersUnderstoodDrawn d s item bytes t × IsAlone t
  understood_drawn s t item bytes is h = item_drawn (understood (players_served s.answerer) item) s t bytes is h

  understood_lost : (s t : Kept Serving) (item : Item) → IsAlone s → GivesUpUnderstood d s item t → IsAlone t
  understood_lost s t item is (inl same) = still_alone s t same is
  understood_lost s t item is (inr h) = lost_alone (understood (players_served s.answerer) item) s t is h

  pub takes_cleanly : (pushed : Result (Unit {0}) MessageFault) (bytes rest : List ℕ) (s t : Output (Kept Serving)) → OnOk pushed (TakesPiece d bytes rest s t) → OnOk pushed (LeavesTaken d bytes rest s t)
  takes_cleanly (Ok done) bytes rest s t h =
      λ is. answered_more (AnswersUnderstood d) (AnswersUnderstoodDrawn d) (GivesUpUnderstood d) IsAlone understood_drawn understood_lost bytes rest s t is h
  takes_cleanly (Err fault) bytes rest s t h = tt

  pub faults_cleanly : (pushed : Result (Unit {0}) MessageFault) (bytes : List ℕ) (s t : Output (Kept Serving))
      → IfErr pushed (λ f. FaultsPiece d bytes f s t) → IfErr pushed (λ f. LeavesFaulted d bytes f s t)
  faults_cleanly (Ok done) bytes s t h = tt
  faults_cleanly (Err fault) bytes s t h =
      λ is. fault_more (AnswersUnderstood d) (AnswersUnderstoodDrawn d) (GivesUpUnderstood d) IsAlone understood_drawn understood_lost bytes fault s t is h

  pub visited_drawn : VisitedDrawn d
  visited_drawn start rest end s t is h =
      visits_more (AnswersUnderstood d) (AnswersUnderstoodDrawn d) (GivesUpUnderstood d) IsAlone understood_drawn understood_lost end start rest s t is h
