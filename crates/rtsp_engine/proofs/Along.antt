-- What was answered by somebody is answered, too, by whatever of that stays from one item to the next.
use Rattle.std.proofs.Common.{ℕ, List, [], ◌∷◌, ap, inl, inr}
use Rattle.rtsp_grammar.specs.declared.fault.MessageFault.{MessageFault}
use Rattle.rtsp_grammar.specs.declared.message.Item.{Item}
use Rattle.rtsp_engine.specs.Desk.{served}
use Rattle.rtsp_engine.specs.Served.{Output, Served, Answered, Faulted, FaultedAfter}

-- what stays of the answerer
abbrev pub along : {S T : Type 0} → (S → T) → Output S → Output T
along f s = record { text = s.text; answerer = f s.answerer }

module _ {S T : Type 0} (R : S → Item → List ℕ → S → Type 0) (L : S → Item → S → Type 0) (R' : T → Item → List ℕ → T → Type 0) (L' : T → Item → T → Type 0) (f : S → T)
    (answers : (s t : S) (item : Item) (bytes : List ℕ) → R s item bytes t → R' (f s) item bytes (f t)) (gives_up : (s t : S) (item : Item) → L s item t → L' (f s) item (f t)) where
  served_along : (items : List Item) (bytes output : List ℕ) (s t : S) → Served R L items bytes s output t → Served R' L' items bytes (f s) output (f t)
  served_along [] bytes output s t h = (h.0, h.1, ap f h.2)
  served_along (item ∷ before) bytes output s t h = record {
    front = h.front;
    back = h.back;
    first = h.first;
    last = h.last;
    mid = f h.mid;
    before = served_along before h.front h.first s h.mid h.before;
    spelled = h.spelled;
    answer = answers h.mid t item h.last h.answer;
    parts = h.parts;
    answers = h.answers;
  }

  pub answered_along : (bytes rest : List ℕ) (s t : Output S) → Answered R L bytes rest s t → Answered R' L' bytes rest (along f s) (along f t)
  answered_along bytes rest s t h = record {
    items = h.items;
    done = h.done;
    output = h.output;
    parts = h.parts;
    written = h.written;
    served = served_along h.items h.done h.output s.answerer t.answerer h.served;
  }

  faulted_along : (rest : List ℕ) (fault : MessageFault) (s t : S) → Faulted R L rest fault s t → Faulted R' L' rest fault (f s) (f t)
  faulted_along rest fault s t h =
      elim h [
        | inl has ↦ inl (has.0, ap f has.1)
        | inr wants ↦ inr (wants.0, elim wants.1 [ inl same ↦ inl (ap f same) | inr left ↦ inr (record { item = left.item; size = left.size; stands = left.stands; left = gives_up s t left.item left.left }) ])
      ]

  pub fault_along : (bytes : List ℕ) (fault : MessageFault) (s t : Output S) → FaultedAfter R L bytes fault s t → FaultedAfter R' L' bytes fault (along f s) (along f t)
  fault_along bytes fault s t h = record {
    rest = h.rest;
    mid = f h.mid;
    answered = answered_along bytes h.rest s (record { text = t.text; answerer = h.mid }) h.answered;
    faulted = faulted_along h.rest fault h.mid t.answerer h.faulted;
  }
