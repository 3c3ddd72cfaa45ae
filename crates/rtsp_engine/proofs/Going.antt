-- How a serving goes on.
use Rattle.std.proofs.Common.{◌≡◌, ℕ, List, [], ◌++◌, ◌∷◌, Option, refl, sym, ◌∙◌, ap, subst, append_assoc, append-nil, take, drop, inl, inr}
use Rattle.std.specs.Prelude.{None, Some, Result, Ok, Err, OnOk, IfErr, IfSome, IfNone}
use Rattle.std.proofs.lemmas.List.{take-append-drop}
use Rattle.std.specs.Io.KnownBytes.{Appends, Consumes, Keeps}
use Rattle.rtsp_grammar.specs.Answer.{Decides, HasFault, IsUndecided, Stays}
use Rattle.rtsp_grammar.specs.Stream.{Feeding, Takes}
use Rattle.rtsp_grammar.specs.declared.fault.MessageFault.{MessageFault}
use Rattle.rtsp_grammar.specs.declared.fault.MessageFault.TheVariants.{OutOfMemory}
use Rattle.rtsp_grammar.specs.declared.message.Item.{Item}
use Rattle.rtsp_engine.specs.FaultResponses.{fault_response}
use Rattle.rtsp_engine.specs.Served.{Output, Line, Served, Answered, Progress, Rests, FaultedAfter, EndsFrom, EndsHere, Written, with_text, with_output, answered_by}
use Rattle.rtsp_engine.specs.declared.serving.ServeEnd.{ServeEnd}
use Rattle.rtsp_engine.specs.declared.serving.ServeEnd.TheVariants.{Closed, ReadFault, WriteFault, Fault, TurnsSpent}
use Rattle.std.proofs.KnownBytes.{Appends-nil, Appends-trans, Consumes-kept, Consumes-nil, Consumes-trans}

module _ {S : Type 0} (R : S → Item → List ℕ → S → Type 0) (L : S → Item → S → Type 0) where
  served_append : (newer older : List Item) (first last o p : List ℕ) (s t u : S) → Served R L older first s o t → Served R L newer last t p u → Served R L (newer ++ older) (first ++ last) s (o ++ p) u
  served_append [] older first last o p s t u h k =
      subst (λ z. Served R L older (first ++ last) s (o ++ p) z) (sym k.2)
      (subst (λ z. Served R L older (first ++ z) s (o ++ p) t) (sym k.0)
      (subst (λ z. Served R L older (first ++ []) s (o ++ z) t) (sym k.1)
      (subst (λ z. Served R L older z s (o ++ []) t) (sym (append-nil first))
      (subst (λ z. Served R L older first s z t) (sym (append-nil o)) h))))
  served_append (item ∷ newer) older first last o p s t u h k = record {
    front = first ++ k.front;
    back = k.back;
    first = o ++ k.first;
    last = k.last;
    mid = k.mid;
    before = served_append newer older first k.front o k.first s t k.mid h k.before;
    spelled = k.spelled;
    answer = k.answer;
    parts = ap (λ z. first ++ z) k.parts ∙ sym (append_assoc first k.front k.back);
    answers = ap (λ z. o ++ z) k.answers ∙ sym (append_assoc o k.first k.last);
  }

  -- what was answered of some bytes, and then of the rest with more bytes
  pub answered_more : (bytes rest more last : List ℕ) (s t u : Output S) → Answered R L bytes rest s t → Answered R L (rest ++ more) last t u → Answered R L (bytes ++ more) last s u
  answered_more bytes rest more last s t u h k = record {
    items = k.items ++ h.items;
    done = h.done ++ k.done;
    output = h.output ++ k.output;
    parts = ap (λ z. z ++ more) h.parts ∙ append_assoc h.done rest more ∙ ap (λ z. h.done ++ z) k.parts ∙ sym (append_assoc h.done k.done last);
    written = Appends-trans s.text t.text u.text h.output k.output h.written k.written;
    served = served_append k.items h.items h.done k.done h.output k.output s.answerer t.answerer u.answerer h.served k.served;
  }

  pub progress_more : (start rest last : List ℕ) (s t u : Line S) → Progress R L start rest s t → Progress R L rest last t u → Progress R L start last s u
  progress_more start rest last s t u h k = record {
    bytes = h.bytes ++ k.bytes;
    read = Consumes-trans s.unread t.unread u.unread h.bytes k.bytes h.read k.read;
    answered = subst (λ z. Answered R L z last s.output u.output) (append_assoc start h.bytes k.bytes) (answered_more (start ++ h.bytes) rest k.bytes last s.output t.output u.output h.answered k.answered);
  }

  -- nothing was answered of some bytes
  pub answered_rest : (bytes : List ℕ) (s : Output S) → Answered R L bytes bytes s s
  answered_rest bytes s = record { items = []; done = []; output = []; parts = refl; written = Appends-nil s.text; served = (refl, refl, refl) }

  pub progress_none : (start : List ℕ) (s : Line S) → Progress R L start start s s
  progress_none start s = record {
    bytes = [];
    read = Consumes-nil s.unread;
    answered = subst (λ z. Answered R L z start s.output s.output) (sym (append-nil start)) (answered_rest start s.output);
  }

  -- an end after a read that gave nothing
  pub rests_kept : (start rest : List ℕ) (s t : Line S) (left : Option (List ℕ)) → Progress R L start rest s t → Keeps t.unread left → IsUndecided rest → Rests R L start s (record { unread = left; output = t.output })
  rests_kept start rest s t left h kept undecided = record {
    rest = rest;
    progress = record { bytes = h.bytes; read = Consumes-kept s.unread t.unread left h.bytes h.read kept; answered = h.answered };
    undecided = undecided;
  }

  -- an end that was met while no bytes were read
  ends_more : (end : ServeEnd) (start rest bytes : List ℕ) (s t u : Line S) → Progress R L start rest s t → Consumes t.unread u.unread bytes → EndsHere R L (rest ++ bytes) end t.output u.output → EndsFrom R L start end s u
  ends_more WriteFault start rest bytes s t u h r k = record { held = rest; between = t; before = h; piece = bytes; read = r; breaks = k }
  ends_more (Fault fault) start rest bytes s t u h r k =
      let between : Output S = answered_by k.faulted.mid (with_text k.between u.output) in
      record {
        rest = k.faulted.rest;
        between = between;
        progress = progress_more start rest k.faulted.rest s t (with_output between u) h (record { bytes = bytes; read = r; answered = k.faulted.answered });
        faulted = k.faulted.faulted;
        told = k.told;
      }
  ends_more Closed start rest bytes s t u h r k = absurd k
  ends_more ReadFault start rest bytes s t u h r k = absurd k
  ends_more TurnsSpent start rest bytes s t u h r k = absurd k

  -- memory ran out before anything was answered
  wants_memory : (bytes : List ℕ) (s : Output S) → FaultedAfter R L bytes OutOfMemory s s
  wants_memory bytes s = record { rest = bytes; mid = s.answerer; answered = answered_rest bytes s; faulted = inr (refl, inl refl) }

  -- one more item, at the front of the rest
  answered_item : (bytes rest answer : List ℕ) (item : Item) (size : ℕ) (s t u : Output S)
      → Answered R L bytes rest s t → Decides rest (Ok (item, size)) → R t.answerer item answer u.answerer → Appends t.text u.text answer → Answered R L bytes (drop size rest) s u
  answered_item bytes rest answer item size s t u h stands made writes = record {
    items = item ∷ h.items;
    done = h.done ++ take size rest;
    output = h.output ++ answer;
    parts = h.parts ∙ ap (λ z. h.done ++ z) (sym (take-append-drop size rest)) ∙ sym (append_assoc h.done (take size rest) (drop size rest));
    written = Appends-trans s.text t.text u.text h.output answer h.written writes;
    served = record {
      front = h.done;
      back = take size rest;
      first = h.output;
      last = answer;
      mid = t.answerer;
      before = h.served;
      spelled = stands.1;
      answer = made;
      parts = refl;
      answers = refl;
    };
  }

  -- the item that was taken is answered
  pub answered_next : (bytes answer : List ℕ) (feed new : Feeding) (item : Item) (s t u : Output S)
      → Answered R L bytes feed.unread s t → Takes feed.unread new (Ok (Some item)) → R t.answerer item answer u.answerer → Appends t.text u.text answer → Answered R L bytes new.unread s u
  answered_next bytes answer feed new item s t u h takes made writes =
      subst (λ (z : Feeding). Answered R L bytes z.unread s u) (sym takes.2) (answered_item bytes feed.unread answer item takes.0 s t u h takes.1 made writes)

  -- what can't be read is at the front of the rest
  pub fault_next : (fault : MessageFault) (bytes : List ℕ) (feed new : Feeding) (s t : Output S)
      → Answered R L bytes feed.unread s t → Takes feed.unread new (Err fault) → FaultedAfter R L bytes fault s t
  fault_next fault bytes feed new s t h takes = record {
    rest = feed.unread;
    mid = t.answerer;
    answered = h;
    faulted = elim takes [ inl wants ↦ inr (wants.0, inl refl) | inr has ↦ inl (has.0, refl) ];
  }

  -- a fault that was met before
  fault_before : (held more : List ℕ) (fault : MessageFault) (s : Output S) → Stays → HasFault held fault → FaultedAfter R L (held ++ more) fault s s
  fault_before held more fault s stays h = record { rest = held ++ more; mid = s.answerer; answered = answered_rest (held ++ more) s; faulted = inl (stays held more (Err fault) h, refl) }

  -- a piece that wasn't taken: for a fault that was met before, or for want of memory
  pub refused : (kept : Option MessageFault) (held more : List ℕ) (pushed : Result (Unit {0}) MessageFault) (s : Output S)
      → Stays → IfSome kept (λ f. HasFault held f) → IfSome kept (λ f. pushed ≡ Err f) → IfNone kept (IfErr pushed (λ f. f ≡ OutOfMemory))
      → IfErr pushed (λ f. FaultedAfter R L (held ++ more) f s s)
  refused (Some fault) held more pushed s stays has is none = subst (λ z. IfErr z (λ f. FaultedAfter R L (held ++ more) f s s)) (sym is) (fault_before held more fault s stays has)
  refused None held more (Ok done) s stays has is none = tt
  refused None held more (Err fault) s stays has is none = subst (λ z. FaultedAfter R L (held ++ more) z s s) (sym none) (wants_memory (held ++ more) s)

  -- answers that were gathered in one text are written
  gathered : (bytes rest text : List ℕ) (s t : Output S) → Answered R L bytes rest (with_text (Some []) s) (with_text (Some text) t) → Appends s.text t.text text → Answered R L bytes rest s t
  gathered bytes rest text s t h writes = record {
    items = h.items;
    done = h.done;
    output = h.output;
    parts = h.parts;
    written = subst (λ z. Appends s.text t.text z) h.written writes;
    served = h.served;
  }

  -- the same, where there was a fault after them
  gathered_fault : (bytes text : List ℕ) (fault : MessageFault) (s t : Output S)
      → FaultedAfter R L bytes fault (with_text (Some []) s) (with_text (Some text) t) → Appends s.text t.text text → FaultedAfter R L bytes fault s t
  gathered_fault bytes text fault s t h writes = record { rest = h.rest; mid = h.mid; answered = gathered bytes h.rest text s (answered_by h.mid t) h.answered writes; faulted = h.faulted }

  -- what is written after the items were answered
  ends_written : (bytes rest text : List ℕ) (done : Unit {0}) (end : ServeEnd) (s t : Output S)
      → Answered R L bytes rest (with_text (Some []) s) (with_text (Some text) t) → Written (Some end) (Ok done) text s.text t.text → EndsHere R L bytes end s t
  ends_written bytes rest text done WriteFault s t h k = inl (record { text = text; gathered = inl (rest, h); part = k })
  ends_written bytes rest text done Closed s t h k = absurd k
  ends_written bytes rest text done ReadFault s t h k = absurd k
  ends_written bytes rest text done TurnsSpent s t h k = absurd k
  ends_written bytes rest text done (Fault fault) s t h k = absurd k

  -- what is written after a fault
  ends_told : (bytes text : List ℕ) (fault : MessageFault) (end : ServeEnd) (s t : Output S)
      → FaultedAfter R L bytes fault (with_text (Some []) s) (with_text (Some text) t) → Written (Some end) (Err fault) text s.text t.text → EndsHere R L bytes end s t
  ends_told bytes text fault WriteFault s t h k =
      elim k [
        | inl part ↦ inl (record { text = text; gathered = inr (fault, h); part = part })
        | inr mute ↦ inr (record { between = mute.between; fault = fault; faulted = gathered_fault bytes text fault s (with_text mute.between t) h mute.answers; part = mute.part })
      ]
  ends_told bytes text fault (Fault told) s t h k = record {
    between = k.1.between;
    faulted = subst (λ z. FaultedAfter R L bytes z s (with_text k.1.between t)) (sym k.0) (gathered_fault bytes text fault s (with_text k.1.between t) h k.1.answers);
    told = subst (λ z. Appends k.1.between t.text (fault_response z)) (sym k.0) k.1.told;
  }
  ends_told bytes text fault Closed s t h k = absurd k
  ends_told bytes text fault ReadFault s t h k = absurd k
  ends_told bytes text fault TurnsSpent s t h k = absurd k

  -- an end after a piece was pushed, and what is known then was written
  ends_pushed : (bytes rest text : List ℕ) (pushed : Result (Unit {0}) MessageFault) (end : ServeEnd) (s t : Output S)
      → OnOk pushed (Answered R L bytes rest (with_text (Some []) s) (with_text (Some text) t)) → IfErr pushed (λ f. FaultedAfter R L bytes f (with_text (Some []) s) (with_text (Some text) t))
      → Written (Some end) pushed text s.text t.text → EndsHere R L bytes end s t
  ends_pushed bytes rest text (Ok done) end s t ok err h = ends_written bytes rest text done end s t ok h
  ends_pushed bytes rest text (Err fault) end s t ok err h = ends_told bytes text fault end s t err h

  -- the end of a connection after a piece was pushed
  pub ends_after : (start held piece rest text : List ℕ) (pushed : Result (Unit {0}) MessageFault) (end : ServeEnd) (s t u : Line S)
      → Progress R L start held s t → Consumes t.unread u.unread piece
      → OnOk pushed (Answered R L (held ++ piece) rest (with_text (Some []) t.output) (with_text (Some text) u.output))
      → IfErr pushed (λ f. FaultedAfter R L (held ++ piece) f (with_text (Some []) t.output) (with_text (Some text) u.output))
      → Written (Some end) pushed text t.output.text u.output.text → EndsFrom R L start end s u
  ends_after start held piece rest text pushed end s t u h read ok err written =
      ends_more end start held piece s t u h read (ends_pushed (held ++ piece) rest text pushed end t.output u.output ok err written)

  -- a piece was pushed, and the answers were written
  pub progress_after : (start held piece rest text : List ℕ) (pushed : Result (Unit {0}) MessageFault) (s t u : Line S)
      → Progress R L start held s t → Consumes t.unread u.unread piece
      → OnOk pushed (Answered R L (held ++ piece) rest (with_text (Some []) t.output) (with_text (Some text) u.output))
      → Written None pushed text t.output.text u.output.text → Progress R L start rest s u
  progress_after start held piece rest text (Ok done) s t u h read ok written =
      progress_more start held rest s t u h (record { bytes = piece; read = read; answered = gathered (held ++ piece) rest text t.output u.output ok written })
  progress_after start held piece rest text (Err fault) s t u h read ok written = absurd written

-- what is left after answers that were written is undecided
pub undecided_after : (rest text : List ℕ) (pushed : Result (Unit {0}) MessageFault) (a b : Option (List ℕ)) → OnOk pushed (IsUndecided rest) → Written None pushed text a b → IsUndecided rest
undecided_after rest text (Ok done) a b undecided written = undecided
undecided_after rest text (Err fault) a b undecided written = absurd written
