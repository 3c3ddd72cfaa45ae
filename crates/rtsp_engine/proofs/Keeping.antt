-- What each answer keeps, a connection keeps.
use Rattle.std.proofs.Common.{ℕ, List, [], ◌∷◌, sym, subst, inl, inr}
use Rattle.rtsp_grammar.specs.declared.fault.MessageFault.{MessageFault}
use Rattle.rtsp_grammar.specs.declared.message.Item.{Item}
use Rattle.rtsp_engine.specs.Served.{Output, Line, Served, Answered, Faulted, FaultedAfter, BreaksOff, EndsFrom}
use Rattle.rtsp_engine.specs.declared.serving.ServeEnd.{ServeEnd}
use Rattle.rtsp_engine.specs.declared.serving.ServeEnd.TheVariants.{Closed, ReadFault, WriteFault, Fault, TurnsSpent}

module _ {S : Type 0} (R : S → Item → List ℕ → S → Type 0) (L : S → Item → S → Type 0) (K : S → S → Type 0)
    (same : (s : S) → K s s) (again : (s t u : S) → K s t → K t u → K s u)
    (answers : (s t : S) (item : Item) (bytes : List ℕ) → R s item bytes t → K s t) (gives_up : (s t : S) (item : Item) → L s item t → K s t) where
  served_keeps : (items : List Item) (bytes output : List ℕ) (s t : S) → Served R L items bytes s output t → K s t
  served_keeps [] bytes output s t h = subst (λ z. K s z) (sym h.2) (same s)
  served_keeps (item ∷ before) bytes output s t h = again s h.mid t (served_keeps before h.front h.first s h.mid h.before) (answers h.mid t item h.last h.answer)

  pub answered_keeps : (bytes rest : List ℕ) (s t : Output S) → Answered R L bytes rest s t → K s.answerer t.answerer
  answered_keeps bytes rest s t h = served_keeps h.items h.done h.output s.answerer t.answerer h.served

  faulted_keeps : (rest : List ℕ) (fault : MessageFault) (s t : S) → Faulted R L rest fault s t → K s t
  faulted_keeps rest fault s t h =
      elim h [
        | inl has ↦ subst (λ z. K s z) (sym has.1) (same s)
        | inr wants ↦ elim wants.1 [
          | inl is ↦ subst (λ z. K s z) (sym is) (same s)
          | inr given ↦ gives_up s t given.item given.left
        ]
      ]

  pub fault_keeps : (bytes : List ℕ) (fault : MessageFault) (s t : Output S) → FaultedAfter R L bytes fault s t → K s.answerer t.answerer
  fault_keeps bytes fault s t h = again s.answerer h.mid t.answerer (answered_keeps bytes h.rest s _ h.answered) (faulted_keeps h.rest fault h.mid t.answerer h.faulted)

  breaks_keep : (bytes : List ℕ) (s t : Output S) → BreaksOff R L bytes s t → K s.answerer t.answerer
  breaks_keep bytes s t h =
      elim h [
        | inl cut ↦ elim cut.gathered [
          | inl done ↦ answered_keeps bytes done.0 _ _ done.1
          | inr fault ↦ fault_keeps bytes fault.0 _ _ fault.1
        ]
        | inr cut ↦ fault_keeps bytes cut.fault s _ cut.faulted
      ]

  pub ends_keep : (end : ServeEnd) (start : List ℕ) (s t : Line S) → EndsFrom R L start end s t → K s.output.answerer t.output.answerer
  ends_keep Closed start s t h = answered_keeps _ h.rest s.output t.output h.progress.answered
  ends_keep ReadFault start s t h = answered_keeps _ h.rest s.output t.output h.progress.answered
  ends_keep TurnsSpent start s t h = answered_keeps _ h.rest s.output t.output h.progress.answered
  ends_keep WriteFault start s t h =
      again s.output.answerer h.between.output.answerer t.output.answerer (answered_keeps _ h.held s.output h.between.output h.before.answered) (breaks_keep _ h.between.output t.output h.breaks)
  ends_keep (Fault fault) start s t h =
      again s.output.answerer h.between.answerer t.output.answerer (answered_keeps _ h.rest s.output h.between h.progress.answered) (faulted_keeps h.rest fault h.between.answerer t.output.answerer h.faulted)
