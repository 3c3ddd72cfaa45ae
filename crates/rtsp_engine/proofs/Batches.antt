-- How a visit to a connection goes on: what has been read since answers were last written, and what they are.
use Rattle.std.proofs.Common.{◌≡◌, ℕ, List, [], ◌++◌, Option, refl, sym, subst, take, append_assoc, append-nil, inl, inr}
use Rattle.std.specs.Prelude.{Some, Result, Ok, Err, OnOk, OnErr}
use Rattle.std.specs.Io.KnownBytes.{Appends, Consumes, Keeps}
use Rattle.rtsp_grammar.specs.Answer.{IsUndecided}
use Rattle.rtsp_grammar.specs.declared.fault.MessageFault.{MessageFault}
use Rattle.rtsp_grammar.specs.declared.message.Item.{Item}
use Rattle.rtsp_engine.specs.Served.{Line, Output, Answered, Progress, Faulted, FaultedAfter, LastBreaksOff, EndsFrom, Written, with_text, with_output}
use Rattle.rtsp_engine.specs.Streams.{WritesPart}
use Rattle.rtsp_engine.specs.Visiting.{Came, FindsNone, Goes, Visits, VisitsChain, Moves, Delivers, ended, serve_end}
use Rattle.rtsp_engine.specs.declared.serving.ServeEnd.{ServeEnd}
use Rattle.rtsp_engine.specs.declared.visiting.VisitEnd.{VisitEnd}
use Rattle.rtsp_engine.specs.declared.visiting.VisitEnd.TheVariants.{More, Waits, Closed, ReadFault, WriteFault, Fault}
use Rattle.rtsp_engine.proofs.Going.{answered_more, answered_rest, progress_more, progress_after, ends_after}
use Rattle.std.proofs.KnownBytes.{Consumes-kept, Consumes-nil, Consumes-trans}

-- the same line, where other text is known
abbrev pub wrote : {S : Type 0} → Option (List ℕ) → Line S → Line S
wrote text t = record { unread = t.unread; output = with_text text t.output }

module _ {S : Type 0} (R : S → Item → List ℕ → S → Type 0) (L : S → Item → S → Type 0) where
  -- answers were written, and this is gathered of what was read since
  pub record Batch (start rest text : List ℕ) (s t : Line S) : Type 0 where
    pub held : List ℕ
    pub mid : Line S
    pub before : Progress R L start held s mid
    pub bytes : List ℕ
    pub read : Consumes mid.unread t.unread bytes
    pub gathered : Answered R L (held ++ bytes) rest (with_text (Some []) mid.output) (with_text (Some text) t.output)
    pub kept : mid.output.text ≡ t.output.text

  pub batch_none : {start rest text : List ℕ} {s t : Line S} → text ≡ [] → Progress R L start rest s t → Batch start rest text s t
  batch_none {rest = rest} {t = t} empty h = record {
    held = rest;
    mid = t;
    before = h;
    bytes = [];
    read = Consumes-nil t.unread;
    gathered = let now = with_text (Some []) t.output in
        subst (λ (z : List ℕ). Answered R L (rest ++ []) rest now (with_text (Some z) t.output)) (sym empty) (subst (λ (z : List ℕ). Answered R L z rest now now) (sym (append-nil rest)) (answered_rest R L rest now));
    kept = refl;
  }

  -- a piece more was read and answered
  pub batch_more : {start rest text last more buffer : List ℕ} {n : ℕ} {s t : Line S} {left : Option (List ℕ)} {next other : S} → Batch start rest text s t → Came t.unread left n buffer
      → Answered R L (rest ++ take n buffer) last (record { text = Some text; answerer = t.output.answerer }) (record { text = Some more; answerer = next }) → other ≡ next
      → Batch start last more s (record { unread = left; output = record { text = t.output.text; answerer = other } })
  batch_more {rest = rest} {text = text} {last = last} {more = more} {buffer = buffer} {n = n} {t = t} {left = left} {next = next} {other = other} h came answered same =
      let piece = take n buffer in
      let start_text : Output S = with_text (Some []) h.mid.output in
      record {
        held = h.held;
        mid = h.mid;
        before = h.before;
        bytes = h.bytes ++ piece;
        read = Consumes-trans h.mid.unread t.unread left h.bytes piece h.read came.read;
        gathered = subst (λ (z : S). Answered R L (h.held ++ (h.bytes ++ piece)) last start_text (record { text = Some more; answerer = z })) (sym same)
            (subst (λ (z : List ℕ). Answered R L z last start_text (record { text = Some more; answerer = next })) (append_assoc h.held h.bytes piece)
            (answered_more R L (h.held ++ h.bytes) rest piece last start_text (with_text (Some text) t.output) (record { text = Some more; answerer = next }) h.gathered answered));
        kept = h.kept;
      }

  -- nothing was read
  pub batch_kept : {start rest text : List ℕ} {s t : Line S} (left : Option (List ℕ)) → Batch start rest text s t → Keeps t.unread left → Batch start rest text s (record { unread = left; output = t.output })
  batch_kept {t = t} left h kept = record {
    held = h.held;
    mid = h.mid;
    before = h.before;
    bytes = h.bytes;
    read = Consumes-kept h.mid.unread t.unread left h.bytes h.read kept;
    gathered = h.gathered;
    kept = h.kept;
  }

  -- what was gathered is written
  pub written : (start rest text : List ℕ) (s t : Line S) (now : Option (List ℕ)) → Batch start rest text s t → Appends t.output.text now text → Progress R L start rest s (wrote now t)
  written start rest text s t now h writes =
      progress_after R L start h.held h.bytes rest text (Ok tt) s h.mid (wrote now t) h.before h.read h.gathered (subst (λ z. Appends z now text) (sym h.kept) writes)

  -- a part of it is written
  pub breaks : (start rest text : List ℕ) (s t : Line S) (now : Option (List ℕ)) → Batch start rest text s t → WritesPart t.output.text now text → LastBreaksOff R L start s (wrote now t)
  breaks start rest text s t now h part = record {
    held = h.held;
    between = h.mid;
    before = h.before;
    piece = h.bytes;
    read = h.read;
    breaks = inl (record { text = text; gathered = inl (rest, h.gathered); part = subst (λ z. WritesPart z now text) (sym h.kept) part });
  }

  -- a fault was met in a piece, and told as far as it could be
  faults : {start rest text more buffer : List ℕ} {n : ℕ} {fault : MessageFault} {s t : Line S} {left : Option (List ℕ)} {next other : S} (end : ServeEnd) (now : Option (List ℕ)) → Batch start rest text s t
      → Came t.unread left n buffer → FaultedAfter R L (rest ++ take n buffer) fault (record { text = Some text; answerer = t.output.answerer }) (record { text = Some more; answerer = next }) → other ≡ next
      → Written (Some end) (Err fault) more t.output.text now → EndsFrom R L start end s (record { unread = left; output = record { text = now; answerer = other } })
  faults {start = start} {rest = rest} {text = text} {more = more} {buffer = buffer} {n = n} {fault = fault} {s = s} {t = t} {left = left} {other = other} end now h came k same told =
      let piece = take n buffer in
      let faulted : FaultedAfter R L (h.held ++ (h.bytes ++ piece)) fault (with_text (Some []) h.mid.output) (record { text = Some more; answerer = other }) = record {
        rest = k.rest;
        mid = k.mid;
        answered = subst (λ z. Answered R L z k.rest (with_text (Some []) h.mid.output) (record { text = Some more; answerer = k.mid })) (append_assoc h.held h.bytes piece)
            (answered_more R L (h.held ++ h.bytes) rest piece k.rest (with_text (Some []) h.mid.output) (with_text (Some text) t.output) (record { text = Some more; answerer = k.mid }) h.gathered k.answered);
        faulted = subst (λ (z : S). Faulted R L k.rest fault k.mid z) (sym same) k.faulted;
      } in
      ends_after R L start h.held (h.bytes ++ piece) [] more (Err fault) end s h.mid (record { unread = left; output = record { text = now; answerer = other } }) h.before
      (Consumes-trans h.mid.unread t.unread left h.bytes piece h.read came.read) tt faulted (subst (λ z. Written (Some end) (Err fault) more z now) (sym h.kept) told)

  -- a visit that ends so
  pub told_visits : {start rest text more buffer : List ℕ} {n : ℕ} {fault : MessageFault} {s t : Line S} {left : Option (List ℕ)} {next other : S} (last : List ℕ) (end : VisitEnd) (now : Option (List ℕ))
      → Batch start rest text s t → Came t.unread left n buffer
      → FaultedAfter R L (rest ++ take n buffer) fault (record { text = Some text; answerer = t.output.answerer }) (record { text = Some more; answerer = next }) → other ≡ next
      → Written (Some (serve_end end)) (Err fault) more t.output.text now → Visits R L start last end s (record { unread = left; output = record { text = now; answerer = other } })
  told_visits last More now h came k same told = absurd told
  told_visits last Waits now h came k same told = absurd told
  told_visits last Closed now h came k same told = absurd told
  told_visits last ReadFault now h came k same told = absurd told
  told_visits last WriteFault now h came k same told = faults (serve_end WriteFault) now h came k same told
  told_visits last (Fault fault) now h came k same told = faults (serve_end (Fault fault)) now h came k same told

  -- one that ends where no piece came
  pub none_visits : {start rest : List ℕ} {s t : Line S} (end : VisitEnd) → FindsNone end → Goes R L start rest s t → Visits R L start rest end s t
  none_visits More none h = absurd none
  none_visits Waits none h = h
  none_visits Closed none h = h
  none_visits ReadFault none h = h
  none_visits WriteFault none h = absurd none
  none_visits (Fault fault) none h = absurd none

  -- one that ends once the last answers are written
  pub ended_visits : {E : Type 0} {start rest text : List ℕ} {result : VisitEnd} {s t : Line S} (r : Result (Unit {0}) E) (end : VisitEnd) (now : Option (List ℕ)) → result ≡ ended r end
      → Batch start rest text s t → (IsUndecided start → IsUndecided rest) → OnOk r (Appends t.output.text now text) → OnErr r (WritesPart t.output.text now text)
      → (Goes R L start rest s (wrote now t) → Visits R L start rest end s (wrote now t)) → Visits R L start rest result s (wrote now t)
  ended_visits {E = E} {start = start} {rest = rest} {text = text} {s = s} {t = t} r end now is h undecided ok err goes = subst (λ z. Visits R L start rest z s (wrote now t)) (sym is) (at_end r ok err)
    where
      at_end : (r : Result (Unit {0}) E) → OnOk r (Appends t.output.text now text) → OnErr r (WritesPart t.output.text now text) → Visits R L start rest (ended r end) s (wrote now t)
      at_end (Ok done) ok err = goes (record { progress = written start rest text s t now h ok; undecided = undecided })
      at_end (Err fault) ok err = breaks start rest text s t now h err

  -- answers were delivered, and the visit goes on
  pub moves : {start rest text : List ℕ} {s t : Line S} (left : List ℕ) (now : Option (List ℕ)) → Batch start rest text s t → Moves t.output.text text now left → Batch start rest left s (wrote now t)
  moves {start = start} {rest = rest} {text = text} {s = s} {t = t} left now h m =
      elim m [
        | inl same ↦ subst (λ z. Batch start rest z s (wrote now t)) (sym same.1) (subst (λ z. Batch start rest text s (wrote z t)) (sym same.0) h)
        | inr all ↦ batch_none all.1 (written start rest text s t now h all.0)
      ]

  -- or it ends with them
  pub delivered_visits : {start rest text : List ℕ} {s t : Line S} (left : List ℕ) (end : VisitEnd) (now : Option (List ℕ)) → Batch start rest text s t → (IsUndecided start → IsUndecided rest)
      → Delivers (Some end) t.output.text text now left → Visits R L start rest end s (wrote now t)
  delivered_visits {start = start} {rest = rest} {text = text} {s = s} {t = t} left More now h undecided d = record { progress = written start rest text s t now h d; undecided = undecided }
  delivered_visits {start = start} {rest = rest} {text = text} {s = s} {t = t} left WriteFault now h undecided d = breaks start rest text s t now h d
  delivered_visits left Waits now h undecided d = absurd d
  delivered_visits left Closed now h undecided d = absurd d
  delivered_visits left ReadFault now h undecided d = absurd d
  delivered_visits left (Fault fault) now h undecided d = absurd d

  pub visits_chain : VisitsChain R L
  visits_chain start held rest More s t u h k = record { progress = progress_more R L start held rest s t u h.progress k.progress; undecided = λ first. k.undecided (h.undecided first) }
  visits_chain start held rest Waits s t u h k = record { progress = progress_more R L start held rest s t u h.progress k.progress; undecided = λ first. k.undecided (h.undecided first) }
  visits_chain start held rest Closed s t u h k = record { progress = progress_more R L start held rest s t u h.progress k.progress; undecided = λ first. k.undecided (h.undecided first) }
  visits_chain start held rest ReadFault s t u h k = record { progress = progress_more R L start held rest s t u h.progress k.progress; undecided = λ first. k.undecided (h.undecided first) }
  visits_chain start held rest WriteFault s t u h k = record {
    held = k.held;
    between = k.between;
    before = progress_more R L start held k.held s t k.between h.progress k.before;
    piece = k.piece;
    read = k.read;
    breaks = k.breaks;
  }
  visits_chain start held rest (Fault fault) s t u h k = record {
    rest = k.rest;
    between = k.between;
    progress = progress_more R L start held k.rest s t (with_output k.between u) h.progress k.progress;
    faulted = k.faulted;
    told = k.told;
  }
