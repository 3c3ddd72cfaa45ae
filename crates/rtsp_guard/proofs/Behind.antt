-- What was answered behind a gate.
use Rattle.std.proofs.Common.{◌≡◌, ℕ, List, Some, Result, Ok, Err, OnOk, IfErr, refl, ◌∙◌, ap, subst, inl, inr}
use Rattle.rtsp_grammar.specs.declared.fault.MessageFault.{MessageFault}
use Rattle.rtsp_grammar.specs.declared.message.Item.{Item}
use Rattle.rtsp_grammar.specs.declared.message.Item.TheVariants as items
use Rattle.rtsp_grammar.specs.declared.message.Request.{Request}
use Rattle.rtsp_credentials.specs.declared.gate.Gate.{Gate}
use Rattle.rtsp_credentials.specs.declared.users.Users.{Users}
use Rattle.rtsp_credentials.specs.declared.refusal.Refusal.{Refusal}
use Rattle.rtsp_credentials.specs.Verdict.{passed}
use Rattle.rtsp_engine.specs.Served.{Output, Answered, FaultedAfter}
use Rattle.rtsp_engine.proofs.Along.{answered_along, fault_along}
use Rattle.rtsp_engine.proofs.Keeping.{answered_keeps, fault_keeps}
use Rattle.rtsp_guard.specs.Guarding.{Kept, keeps, turned, AnswersBy, GivesUpBy, AnswersGuarded, GivesUpGuarded, TakesGuarded, FaultsGuarded, of, AnswersBehind, GivesUpBehind}
use Rattle.rtsp_guard.specs.declared.guarding.Guarded.{Guarded}

-- the users stay
abbrev pub Stays : {A : Type 0} → Kept A → Kept A → Type 0
Stays old new = new.users ≡ old.users

turned_stays : {A : Type 0} (refusal : Refusal) (old new : Kept A) → new ≡ turned refusal old → Stays old new
turned_stays {A = A} refusal old new e = ap (λ (k : Kept A). k.users) e

module _ {A : Type 0} (Answers : A → Item → List ℕ → A → Type 0) (GivesUp : A → Item → A → Type 0) where
  by_stays : (verdict : Result Gate Refusal) (old : Kept A) (request : Request) (bytes : List ℕ) (new : Kept A) → AnswersBy Answers GivesUp verdict old request bytes new → Stays old new
  by_stays (Ok gate) old request bytes new h = h.reaches.users
  by_stays (Err refusal) old request bytes new h = turned_stays refusal old new h.1

  up_stays : (verdict : Result Gate Refusal) (old : Kept A) (request : Request) (new : Kept A) → GivesUpBy Answers GivesUp verdict old request new → Stays old new
  up_stays (Ok gate) old request new (inl same) = ap (λ (k : Kept A). k.users) same
  up_stays (Ok gate) old request new (inr h) = h.gives_up.users
  up_stays (Err refusal) old request new h = turned_stays refusal old new h

  pub answers_stays : (item : Item) (old : Kept A) (bytes : List ℕ) (new : Kept A) → AnswersGuarded Answers GivesUp old item bytes new → Stays old new
  answers_stays (items.Request request) old bytes new h = by_stays (passed old.users old.gate request) old request bytes new h
  answers_stays (items.Response response) old bytes new h = h.users
  answers_stays (items.Frame frame) old bytes new h = h.users

  pub gives_up_stays : (item : Item) (old new : Kept A) → GivesUpGuarded Answers GivesUp old item new → Stays old new
  gives_up_stays (items.Request request) old new h = up_stays (passed old.users old.gate request) old request new h
  gives_up_stays (items.Response response) old new h = h.users
  gives_up_stays (items.Frame frame) old new h = h.users

module _ {A P : Type 0} (Answers : A → Item → List ℕ → A → Type 0) (GivesUp : A → Item → A → Type 0) where
  -- the same one answers, and the users are the same
  pub record Keeps (s t : Guarded A P) : Type 0 where
    pub answerer : t.answerer.ghost_name ≡ s.answerer.ghost_name
    pub users : t.users.now ≡ s.users.now

  pub keeps_both : (s t : Guarded A P) → t.answerer.ghost_name ≡ s.answerer.ghost_name → Stays (of s) (of t) → Keeps s t
  keeps_both s t name stays = record { answerer = name; users = stays }

  pub pushed_keeps : (pushed : Result (Unit {0}) MessageFault) (bytes rest : List ℕ) (s t : Output (Guarded A P))
      → OnOk pushed (Answered (AnswersBehind Answers GivesUp) (GivesUpBehind Answers GivesUp) bytes rest s t)
      → IfErr pushed (λ f. FaultedAfter (AnswersBehind Answers GivesUp) (GivesUpBehind Answers GivesUp) bytes f s t) → Keeps s.answerer t.answerer
  pushed_keeps (Ok done) bytes rest s t ok err =
      answered_keeps (AnswersBehind Answers GivesUp) (GivesUpBehind Answers GivesUp) Keeps (λ s. record { answerer = refl; users = refl })
      (λ s t u h k. record { answerer = k.answerer ∙ h.answerer; users = k.users ∙ h.users })
      (λ s t item bytes h. keeps_both s t h.1 (answers_stays Answers GivesUp item _ bytes _ h.0)) (λ s t item h. keeps_both s t h.1 (gives_up_stays Answers GivesUp item _ _ h.0)) bytes rest s t ok
  pushed_keeps (Err fault) bytes rest s t ok err =
      fault_keeps (AnswersBehind Answers GivesUp) (GivesUpBehind Answers GivesUp) Keeps (λ s. record { answerer = refl; users = refl })
      (λ s t u h k. record { answerer = k.answerer ∙ h.answerer; users = k.users ∙ h.users })
      (λ s t item bytes h. keeps_both s t h.1 (answers_stays Answers GivesUp item _ bytes _ h.0)) (λ s t item h. keeps_both s t h.1 (gives_up_stays Answers GivesUp item _ _ h.0)) bytes fault s t err

  pub taken_behind : (pushed : Result (Unit {0}) MessageFault) (bytes rest old text : List ℕ) (s t : Guarded A P) (new : Kept A) → of t ≡ new
      → OnOk pushed (Answered (AnswersBehind Answers GivesUp) (GivesUpBehind Answers GivesUp) bytes rest (record { text = Some old; answerer = s }) (record { text = Some text; answerer = t }))
      → OnOk pushed (TakesGuarded Answers GivesUp bytes rest (record { text = Some old; answerer = of s }) (record { text = Some text; answerer = new }))
  taken_behind (Ok done) bytes rest old text s t new is h =
      subst (λ z. TakesGuarded Answers GivesUp bytes rest (record { text = Some old; answerer = of s }) (record { text = Some text; answerer = z })) is
      (answered_along (AnswersBehind Answers GivesUp) (GivesUpBehind Answers GivesUp) (AnswersGuarded Answers GivesUp) (GivesUpGuarded Answers GivesUp) of (λ s t item bytes h. h.0) (λ s t item h. h.0) bytes rest _ _ h)
  taken_behind (Err fault) bytes rest old text s t new is h = tt

  pub faulted_behind : (pushed : Result (Unit {0}) MessageFault) (bytes old text : List ℕ) (s t : Guarded A P) (new : Kept A) → of t ≡ new
      → IfErr pushed (λ f. FaultedAfter (AnswersBehind Answers GivesUp) (GivesUpBehind Answers GivesUp) bytes f (record { text = Some old; answerer = s }) (record { text = Some text; answerer = t }))
      → IfErr pushed (λ f. FaultsGuarded Answers GivesUp bytes f (record { text = Some old; answerer = of s }) (record { text = Some text; answerer = new }))
  faulted_behind (Ok done) bytes old text s t new is h = tt
  faulted_behind (Err fault) bytes old text s t new is h =
      subst (λ z. FaultsGuarded Answers GivesUp bytes fault (record { text = Some old; answerer = of s }) (record { text = Some text; answerer = z })) is
      (fault_along (AnswersBehind Answers GivesUp) (GivesUpBehind Answers GivesUp) (AnswersGuarded Answers GivesUp) (GivesUpGuarded Answers GivesUp) of (λ s t item bytes h. h.0) (λ s t item h. h.0) bytes fault _ _ h)

  pub guarded_as : (t : Guarded A P) (gate : Gate) (users : Users) (answerer : A) → t.gate ≡ gate → t.users.now ≡ users → t.answerer.now ≡ answerer → of t ≡ keeps gate users answerer
  guarded_as t gate users answerer g u a =
      ap (λ (x : Gate). keeps x t.users.now t.answerer.now) g ∙ ap (λ (x : Users). keeps gate x t.answerer.now) u ∙ ap (λ (x : A). keeps gate users x) a
