-- What a request is answered, from the parts of its answering.
use Rattle.std.proofs.Common.{◌≡◌, ◌++◌, ℕ, List, Option, None, Result, Ok, Err, OnOk, OnErr, inl, inr, refl}
use Rattle.rtsp_grammar.specs.declared.message.Response.{Response}
use Rattle.rtsp_grammar.specs.Writing.{response_text}
use Rattle.rtsp_record.specs.Books.{Session}
use Rattle.rtsp_state.specs.ParsedRequest.{ParsedValue}
use Rattle.rtsp_engine.specs.Conducting.{DoesNothing}
use Rattle.rtsp_engine.specs.Conversing.{Finds, OnlyRenews, ConductsRenewed, Ends, RespondsFound, RespondsParsed, LacksFound, OnlyFinds}
use Rattle.rtsp_engine.specs.Desk.{Service, State}
use Rattle.rtsp_traits.specs.Devices.{Devices}
use Rattle.rtsp_engine.specs.Writing.{Writes}

module _ {B W C P S : Type 0} (d : Devices B W C P S) (service : Service) where
  -- a request that was conducted after the renewal of its session
  pub found_ok : {A E : Type 0} (r : Result A E) (uri : List ℕ) (request : ParsedValue) (found again : Option (ℕ × Session)) (moment : ℕ) (s mid t : State B W C P S) (old new : List ℕ)
      → OnOk r (Writes (λ x. ConductsRenewed d service uri request again moment x mid t) old new) → OnlyRenews d service request found again moment s mid
      → OnOk r (Writes (λ x. RespondsFound d service uri request found moment x s t) old new)
  found_ok (Ok done) uri request found again moment s mid t old new h renews = record {
    response = h.response;
    is = inl (record { again = again; mid = mid; renews = renews; conducts = h.is });
    text = h.text;
  }
  found_ok (Err fault) uri request found again moment s mid t old new h renews = h

  -- one for which there was no memory after it
  pub found_lacks : {A E : Type 0} (r : Result A E) (request : ParsedValue) (found again : Option (ℕ × Session)) (moment : ℕ) (s mid t : State B W C P S)
      → OnErr r (DoesNothing d mid t) → OnlyRenews d service request found again moment s mid → OnErr r (LacksFound d service request found moment s t)
  found_lacks (Ok done) request found again moment s mid t h renews = h
  found_lacks (Err fault) request found again moment s mid t h renews = inl (record { again = again; mid = mid; renews = renews; nothing = h })

  -- one whose renewal was refused
  pub found_refused : {A E : Type 0} (r : Result A E) (uri : List ℕ) (request : ParsedValue) (found : Option (ℕ × Session)) (moment : ℕ) (response : Response) (s t : State B W C P S) (old new : List ℕ)
      → OnOk r (new ≡ old ++ response_text response) → Ends d service request found moment response s t
      → OnOk r (Writes (λ x. RespondsFound d service uri request found moment x s t) old new)
  found_refused (Ok done) uri request found moment response s t old new h ends = record { response = response; is = inr ends; text = h }
  found_refused (Err fault) uri request found moment response s t old new h ends = h

  -- a request whose session was looked up
  pub parsed_ok : {A E : Type 0} (r : Result A E) (uri : List ℕ) (request : ParsedValue) (found : Option (ℕ × Session)) (moment : ℕ) (s mid t : State B W C P S) (old new : List ℕ)
      → OnOk r (Writes (λ x. RespondsFound d service uri request found moment x mid t) old new) → Finds d service request found moment s mid
      → OnOk r (Writes (λ x. RespondsParsed d service uri request x s t) old new)
  parsed_ok (Ok done) uri request found moment s mid t old new h finds = record {
    response = h.response;
    is = record { found = found; moment = moment; mid = mid; finds = finds; goes_on = h.is };
    text = h.text;
  }
  parsed_ok (Err fault) uri request found moment s mid t old new h finds = h

  -- the same, where there was no memory
  pub parsed_lacks : {A E : Type 0} (r : Result A E) (request : ParsedValue) (found : Option (ℕ × Session)) (moment : ℕ) (s mid t : State B W C P S)
      → OnErr r (LacksFound d service request found moment mid t) → Finds d service request found moment s mid → OnErr r (OnlyFinds d service request s t)
  parsed_lacks (Ok done) request found moment s mid t h finds = h
  parsed_lacks (Err fault) request found moment s mid t h finds = record { found = found; moment = moment; mid = mid; finds = finds; goes_on = h }

  -- without a session nothing is renewed
  none_renews : (request : ParsedValue) (moment : ℕ) (s : State B W C P S) → OnlyRenews d service request None None moment s s
  none_renews request moment s = record { renews = (refl, refl); others = refl }

  -- a request that names no session
  pub unnamed_ok : {A E : Type 0} (r : Result A E) (uri : List ℕ) (request : ParsedValue) (moment : ℕ) (s mid t : State B W C P S) (old new : List ℕ)
      → OnOk r (Writes (λ x. ConductsRenewed d service uri request None moment x mid t) old new) → Finds d service request None moment s mid
      → OnOk r (Writes (λ x. RespondsParsed d service uri request x s t) old new)
  unnamed_ok r uri request moment s mid t old new h finds =
      parsed_ok r uri request None moment s mid t old new (found_ok r uri request None None moment mid mid t old new h (none_renews request moment mid)) finds

  -- the same, where there was no memory
  pub unnamed_lacks : {A E : Type 0} (r : Result A E) (request : ParsedValue) (moment : ℕ) (s mid t : State B W C P S)
      → OnErr r (DoesNothing d mid t) → Finds d service request None moment s mid → OnErr r (OnlyFinds d service request s t)
  unnamed_lacks r request moment s mid t h finds =
      parsed_lacks r request None moment s mid t (found_lacks r request None None moment mid mid t h (none_renews request moment mid)) finds
