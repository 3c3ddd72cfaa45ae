-- What is known of each answer makes more of a visit, as it is seen by what stays of the answerer.
use Rattle.std.proofs.Common.{◌≡◌, ℕ, List, [], ◌∷◌, ◌++◌, ap, sym, subst, inl, inr}
use Rattle.rtsp_content.specs.TableValue.{TableValue}
use Rattle.rtsp_content.specs.Growing.{Extends}
use Rattle.rtsp_grammar.specs.declared.fault.MessageFault.{MessageFault}
use Rattle.rtsp_grammar.specs.declared.message.Item.{Item}
use Rattle.rtsp_traits.specs.Devices.{Devices}
use Rattle.rtsp_engine.specs.Served.{Output, Line, Served, Answered, Progress, Faulted, FaultedAfter, Gathered, BreaksOff}
use Rattle.rtsp_engine.specs.Serving.{Serving}
use Rattle.rtsp_engine.specs.Visiting.{Goes, Visits}
use Rattle.rtsp_engine.specs.declared.visiting.VisitEnd.{VisitEnd}
use Rattle.rtsp_engine.specs.declared.visiting.VisitEnd.TheVariants.{More, Waits, Closed, ReadFault, WriteFault, Fault}
use Rattle.rtsp_engine.proofs.Batches.{visits_chain}
use Rattle.rtsp_watch.specs.Understanding.{AnswersUnderstood, GivesUpUnderstood}
use Rattle.rtsp_watch.specs.Growth.{with_table, AnswersThen, GivesUpThen, VisitsThen, ThenChains}

module _ (R M : Serving → Item → List ℕ → Serving → Type 0) (L K : Serving → Item → Serving → Type 0) (f : Serving → Serving) (P : Serving → Type 0)
    (answers : (s t : Serving) (item : Item) (bytes : List ℕ) → P s → R s item bytes t → M (f s) item bytes (f t) × P t)
    (gives_up : (s t : Serving) (item : Item) → P s → L s item t → K (f s) item (f t) × P t) where
  -- the same, as it is seen
  abbrev seen : Output Serving → Output Serving
  seen s = record { text = s.text; answerer = f s.answerer }

  abbrev seen_line : Line Serving → Line Serving
  seen_line s = record { unread = s.unread; output = seen s.output }

  served_then : (items : List Item) (bytes output : List ℕ) (s t : Serving) → P s → Served R L items bytes s output t → Served M K items bytes (f s) output (f t) × P t
  served_then [] bytes output s t p h = ((h.0, h.1, ap f h.2), subst P (sym h.2) p)
  served_then (item ∷ before) bytes output s t p h =
      let first = served_then before h.front h.first s h.mid p h.before in
      let last = answers h.mid t item h.last first.1 h.answer in
      (record { front = h.front; back = h.back; first = h.first; last = h.last; mid = f h.mid; before = first.0; spelled = h.spelled; answer = last.0; parts = h.parts; answers = h.answers }, last.1)

  answered_then : (bytes rest : List ℕ) (s t : Output Serving) → P s.answerer → Answered R L bytes rest s t
      → Answered M K bytes rest (seen s) (seen t) × P t.answerer
  answered_then bytes rest s t p h =
      let r = served_then h.items h.done h.output s.answerer t.answerer p h.served in
      (record { items = h.items; done = h.done; output = h.output; parts = h.parts; written = h.written; served = r.0 }, r.1)

  progress_then : (start rest : List ℕ) (s t : Line Serving) → P s.output.answerer → Progress R L start rest s t
      → Progress M K start rest (seen_line s) (seen_line t) × P t.output.answerer
  progress_then start rest s t p h =
      let r = answered_then (start ++ h.bytes) rest s.output t.output p h.answered in
      (record { bytes = h.bytes; read = h.read; answered = r.0 }, r.1)

  faulted_then : (rest : List ℕ) (fault : MessageFault) (s t : Serving) → P s → Faulted R L rest fault s t → Faulted M K rest fault (f s) (f t) × P t
  faulted_then rest fault s t p (inl has) = (inl (has.0, ap f has.1), subst P (sym has.1) p)
  faulted_then rest fault s t p (inr (is, inl same)) = (inr (is, inl (ap f same)), subst P (sym same) p)
  faulted_then rest fault s t p (inr (is, inr given)) =
      let left = gives_up s t given.item p given.left in
      (inr (is, inr (record { item = given.item; size = given.size; stands = given.stands; left = left.0 })), left.1)

  fault_then : (bytes : List ℕ) (fault : MessageFault) (s t : Output Serving) → P s.answerer → FaultedAfter R L bytes fault s t
      → FaultedAfter M K bytes fault (seen s) (seen t) × P t.answerer
  fault_then bytes fault s t p h =
      let a = answered_then bytes h.rest s _ p h.answered in
      let g = faulted_then h.rest fault h.mid t.answerer a.1 h.faulted in
      (record { rest = h.rest; mid = f h.mid; answered = a.0; faulted = g.0 }, g.1)

  gathered_then : (bytes text : List ℕ) (s t : Serving) → P s → Gathered R L bytes text s t → Gathered M K bytes text (f s) (f t) × P t
  gathered_then bytes text s t p (inl (rest, h)) = let r = answered_then bytes rest _ _ p h in (inl (rest, r.0), r.1)
  gathered_then bytes text s t p (inr (fault, h)) = let r = fault_then bytes fault _ _ p h in (inr (fault, r.0), r.1)

  breaks_then : (bytes : List ℕ) (s t : Output Serving) → P s.answerer → BreaksOff R L bytes s t
      → BreaksOff M K bytes (seen s) (seen t)
  breaks_then bytes s t p (inl cut) =
      let r = gathered_then bytes cut.text s.answerer t.answerer p cut.gathered in
      inl (record { text = cut.text; gathered = r.0; part = cut.part })
  breaks_then bytes s t p (inr cut) =
      let r = fault_then bytes cut.fault s _ p cut.faulted in
      inr (record { between = cut.between; fault = cut.fault; faulted = r.0; part = cut.part })

  goes_then : (start rest : List ℕ) (s t : Line Serving) → P s.output.answerer → Goes R L start rest s t
      → Goes M K start rest (seen_line s) (seen_line t)
  goes_then start rest s t p h = let r = progress_then start rest s t p h.progress in record { progress = r.0; undecided = h.undecided }

  visits_then : (start rest : List ℕ) (end : VisitEnd) (s t : Line Serving) → P s.output.answerer → Visits R L start rest end s t
      → Visits M K start rest end (seen_line s) (seen_line t)
  visits_then start rest More s t p h = goes_then start rest s t p h
  visits_then start rest Waits s t p h = goes_then start rest s t p h
  visits_then start rest Closed s t p h = goes_then start rest s t p h
  visits_then start rest ReadFault s t p h = goes_then start rest s t p h
  visits_then start rest WriteFault s t p h =
      let before = progress_then start h.held s h.between p h.before in
      let breaks = breaks_then (h.held ++ h.piece) h.between.output t.output before.1 h.breaks in
      record { held = h.held; between = seen_line h.between; before = before.0; piece = h.piece; read = h.read; breaks = breaks }
  visits_then start rest (Fault fault) s t p h =
      let progress = progress_then start h.rest s _ p h.progress in
      let faulted = faulted_then h.rest fault h.between.answerer t.output.answerer progress.1 h.faulted in
      record { rest = h.rest; between = seen h.between; progress = progress.0; faulted = faulted.0; told = h.told }

module _ {B W C P S : Type 0} (d : Devices B W C P S) (opening : TableValue) where
  -- the content of a visit is one, and extends the opening one
  abbrev Grown : Serving → Type 0
  Grown s = Extends opening s.service.table

  -- the new side of an answer, with the old side's content
  back-with : (old new : Serving) → new.service ≡ old.service → new ≡ with_table old.service.table new
  back-with old new same = ap (λ service. record { service = record { table = service.table; asker = new.service.asker }; view = new.view }) same

  answers-then : (s t : Serving) (item : Item) (bytes : List ℕ) → Grown s → AnswersUnderstood d s item bytes t → AnswersThen d opening (with_table opening s) item bytes (with_table opening t) × Grown t
  answers-then s t item bytes p a = (
    record { table = s.service.table; extends = p; answers = subst (λ new. AnswersUnderstood d s item bytes new) (back-with s t a.same) a; same = ap (λ service. record { table = opening; asker = service.asker }) a.same },
    subst (λ service. Extends opening service.table) (sym a.same) p,
  )

  gives-up-then : (s t : Serving) (item : Item) → Grown s → GivesUpUnderstood d s item t → GivesUpThen d opening (with_table opening s) item (with_table opening t) × Grown t
  gives-up-then s t item p a = (
    record { table = s.service.table; extends = p; gives_up = subst (λ new. GivesUpUnderstood d s item new) (back-with s t a.same) a; same = ap (λ service. record { table = opening; asker = service.asker }) a.same },
    subst (λ service. Extends opening service.table) (sym a.same) p,
  )

module _ {B W C P S : Type 0} (d : Devices B W C P S) where
  pub visits-then : VisitsThen d
  visits-then opening start rest end s t p h =
      visits_then (AnswersUnderstood d) (AnswersThen d opening) (GivesUpUnderstood d) (GivesUpThen d opening) (with_table opening) (Grown d opening)
      (answers-then d opening) (gives-up-then d opening) start rest end s t p h

  pub then-chains : ThenChains d
  then-chains opening = visits_chain (AnswersThen d opening) (GivesUpThen d opening)
