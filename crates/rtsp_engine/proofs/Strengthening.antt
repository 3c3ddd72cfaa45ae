-- Where what is known of the answerer makes more of each answer, it makes more of what a connection has been answered.
use Rattle.std.proofs.Common.{ℕ, List, [], ◌∷◌, ◌++◌, sym, subst, inl, inr}
use Rattle.rtsp_grammar.specs.declared.fault.MessageFault.{MessageFault}
use Rattle.rtsp_grammar.specs.declared.message.Item.{Item}
use Rattle.rtsp_engine.specs.Served.{Output, Line, Served, Answered, Progress, Faulted, FaultedAfter, Gathered, BreaksOff, LastBreaksOff, Tells, Rests, EndsFrom}
use Rattle.rtsp_engine.specs.Visiting.{Goes, Visits}
use Rattle.rtsp_engine.specs.declared.serving.ServeEnd.{ServeEnd}
use Rattle.rtsp_engine.specs.declared.visiting.VisitEnd.{VisitEnd}
use Rattle.rtsp_engine.specs.declared.visiting.VisitEnd.TheVariants as visit
use Rattle.rtsp_engine.specs.declared.serving.ServeEnd.TheVariants.{Closed, ReadFault, WriteFault, Fault, TurnsSpent}

module _ {S : Type 0} (R M : S → Item → List ℕ → S → Type 0) (L : S → Item → S → Type 0) (P : S → Type 0)
    (answers : (s t : S) (item : Item) (bytes : List ℕ) → P s → R s item bytes t → M s item bytes t × P t) (gives_up : (s t : S) (item : Item) → P s → L s item t → P t) where
  served_more : (items : List Item) (bytes output : List ℕ) (s t : S) → P s → Served R L items bytes s output t → Served M L items bytes s output t × P t
  served_more [] bytes output s t p h = (h, subst P (sym h.2) p)
  served_more (item ∷ before) bytes output s t p h =
      let first = served_more before h.front h.first s h.mid p h.before in
      let last = answers h.mid t item h.last first.1 h.answer in
      (record { front = h.front; back = h.back; first = h.first; last = h.last; mid = h.mid; before = first.0; spelled = h.spelled; answer = last.0; parts = h.parts; answers = h.answers }, last.1)

  pub answered_more : (bytes rest : List ℕ) (s t : Output S) → P s.answerer → Answered R L bytes rest s t → Answered M L bytes rest s t × P t.answerer
  answered_more bytes rest s t p h =
      let r = served_more h.items h.done h.output s.answerer t.answerer p h.served in
      (record { items = h.items; done = h.done; output = h.output; parts = h.parts; written = h.written; served = r.0 }, r.1)

  progress_more : (start rest : List ℕ) (s t : Line S) → P s.output.answerer → Progress R L start rest s t → Progress M L start rest s t × P t.output.answerer
  progress_more start rest s t p h =
      let r = answered_more (start ++ h.bytes) rest s.output t.output p h.answered in
      (record { bytes = h.bytes; read = h.read; answered = r.0 }, r.1)

  faulted_more : (rest : List ℕ) (fault : MessageFault) (s t : S) → P s → Faulted R L rest fault s t → Faulted M L rest fault s t × P t
  faulted_more rest fault s t p (inl has) = (inl has, subst P (sym has.1) p)
  faulted_more rest fault s t p (inr (is, inl same)) = (inr (is, inl same), subst P (sym same) p)
  faulted_more rest fault s t p (inr (is, inr given)) =
      (inr (is, inr (record { item = given.item; size = given.size; stands = given.stands; left = given.left })), gives_up s t given.item p given.left)

  pub fault_more : (bytes : List ℕ) (fault : MessageFault) (s t : Output S) → P s.answerer → FaultedAfter R L bytes fault s t → FaultedAfter M L bytes fault s t × P t.answerer
  fault_more bytes fault s t p h =
      let a = answered_more bytes h.rest s _ p h.answered in
      let f = faulted_more h.rest fault h.mid t.answerer a.1 h.faulted in
      (record { rest = h.rest; mid = h.mid; answered = a.0; faulted = f.0 }, f.1)

  gathered_more : (bytes text : List ℕ) (s t : S) → P s → Gathered R L bytes text s t → Gathered M L bytes text s t × P t
  gathered_more bytes text s t p (inl (rest, h)) = let r = answered_more bytes rest _ _ p h in (inl (rest, r.0), r.1)
  gathered_more bytes text s t p (inr (fault, h)) = let r = fault_more bytes fault _ _ p h in (inr (fault, r.0), r.1)

  breaks_more : (bytes : List ℕ) (s t : Output S) → P s.answerer → BreaksOff R L bytes s t → BreaksOff M L bytes s t × P t.answerer
  breaks_more bytes s t p (inl cut) =
      let r = gathered_more bytes cut.text s.answerer t.answerer p cut.gathered in
      (inl (record { text = cut.text; gathered = r.0; part = cut.part }), r.1)
  breaks_more bytes s t p (inr cut) =
      let r = fault_more bytes cut.fault s _ p cut.faulted in
      (inr (record { between = cut.between; fault = cut.fault; faulted = r.0; part = cut.part }), r.1)

  rests_more : (start : List ℕ) (s t : Line S) → P s.output.answerer → Rests R L start s t → Rests M L start s t × P t.output.answerer
  rests_more start s t p h =
      let r = progress_more start h.rest s t p h.progress in
      (record { rest = h.rest; progress = r.0; undecided = h.undecided }, r.1)

  breaks_off_more : (start : List ℕ) (s t : Line S) → P s.output.answerer → LastBreaksOff R L start s t → LastBreaksOff M L start s t × P t.output.answerer
  breaks_off_more start s t p h =
      let before = progress_more start h.held s h.between p h.before in
      let breaks = breaks_more (h.held ++ h.piece) h.between.output t.output before.1 h.breaks in
      (record { held = h.held; between = h.between; before = before.0; piece = h.piece; read = h.read; breaks = breaks.0 }, breaks.1)

  tells_more : (start : List ℕ) (fault : MessageFault) (s t : Line S) → P s.output.answerer → Tells R L start fault s t → Tells M L start fault s t × P t.output.answerer
  tells_more start fault s t p h =
      let progress = progress_more start h.rest s _ p h.progress in
      let faulted = faulted_more h.rest fault h.between.answerer t.output.answerer progress.1 h.faulted in
      (record { rest = h.rest; between = h.between; progress = progress.0; faulted = faulted.0; told = h.told }, faulted.1)

  pub ends_more : (end : ServeEnd) (start : List ℕ) (s t : Line S) → P s.output.answerer → EndsFrom R L start end s t → EndsFrom M L start end s t × P t.output.answerer
  ends_more Closed start s t p h = rests_more start s t p h
  ends_more ReadFault start s t p h = rests_more start s t p h
  ends_more TurnsSpent start s t p h = rests_more start s t p h
  ends_more WriteFault start s t p h = breaks_off_more start s t p h
  ends_more (Fault fault) start s t p h = tells_more start fault s t p h

-- the same of a visit
module _ {S : Type 0} (R M : S → Item → List ℕ → S → Type 0) (L : S → Item → S → Type 0) (P : S → Type 0)
    (answers : (s t : S) (item : Item) (bytes : List ℕ) → P s → R s item bytes t → M s item bytes t × P t) (gives_up : (s t : S) (item : Item) → P s → L s item t → P t) where
  goes_more : (start rest : List ℕ) (s t : Line S) → P s.output.answerer → Goes R L start rest s t → Goes M L start rest s t × P t.output.answerer
  goes_more start rest s t p h =
      let r = progress_more R M L P answers gives_up start rest s t p h.progress in
      (record { progress = r.0; undecided = h.undecided }, r.1)

  pub visits_more : (end : VisitEnd) (start rest : List ℕ) (s t : Line S) → P s.output.answerer → Visits R L start rest end s t → Visits M L start rest end s t × P t.output.answerer
  visits_more visit.More start rest s t p h = goes_more start rest s t p h
  visits_more visit.Waits start rest s t p h = goes_more start rest s t p h
  visits_more visit.Closed start rest s t p h = goes_more start rest s t p h
  visits_more visit.ReadFault start rest s t p h = goes_more start rest s t p h
  visits_more visit.WriteFault start rest s t p h = breaks_off_more R M L P answers gives_up start s t p h
  visits_more (visit.Fault fault) start rest s t p h = tells_more R M L P answers gives_up start fault s t p h
