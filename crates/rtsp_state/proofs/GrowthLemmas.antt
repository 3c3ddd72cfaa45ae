-- What a table that goes on leaves as it is decided.
use Rattle.std.proofs.Common.{◌≡◌, refl, ap, ℕ, true, ◌⊎◌, inl, inr, Option, Some, None, Result, Ok, Err, slice_get}
use Rattle.rtsp_content.specs.PresentationValue.{PresentationValue}
use Rattle.rtsp_content.specs.TableValue.{TableValue}
use Rattle.rtsp_content.specs.Withdrawn.{is_withdrawn}
use Rattle.rtsp_content.specs.Offering.{is_namesake, meant_of, offered_named, track_as}
use Rattle.rtsp_content.specs.Growing.{Extends, IsSamePlace}
use Rattle.rtsp_text.specs.Results.{◌>>=◌}
use Rattle.rtsp_state.specs.declared.method.Method.{Method}
use Rattle.rtsp_state.specs.declared.method.Method.TheVariants as methods
use Rattle.rtsp_state.specs.declared.status.Status.TheVariants.{NotFound}
use Rattle.rtsp_state.specs.declared.fault.Fault.{Fault}
use Rattle.rtsp_state.specs.declared.fault.Fault.TheVariants.{Refused}
use Rattle.rtsp_state.specs.declared.request.Target.{Target}
use Rattle.rtsp_state.specs.declared.request.Target.TheVariants as targets
use Rattle.rtsp_state.specs.declared.request.Name.{Name}
use Rattle.rtsp_state.specs.declared.plan.Plan.{Plan}
use Rattle.rtsp_state.specs.ParsedRequest.{ParsedValue}
use Rattle.rtsp_state.specs.Context.{Living, known}
use Rattle.rtsp_state.specs.Aim.{place_of, own_of, aimed}
use Rattle.rtsp_state.specs.StateTable.{decide, row, cell, context_of, settled, start_of, session_found}
use Rattle.rtsp_state.specs.Renewal.{renewal}
use Rattle.rtsp_state.specs.Alike.{IsSameOn, AgreeAt, AgreeOn}
use Rattle.rtsp_state.specs.Growth.{IsOwn, IsAt, PlaysOn, IsGone, DecidesByPlace, RenewsAlike}
use Rattle.rtsp_state.proofs.AlikeLemmas.{agree-held}

row-alike : (old new : TableValue) → new.server.timeout ≡ old.server.timeout → (request : ParsedValue) (view : Option Living) (peer moment : ℕ) (method : Method) (name : Option Name) (target : Target) → AgreeOn old new target
    → row (context_of new request view peer moment) method view name target ≡ row (context_of old request view peer moment) method view name target
row-alike old new s request view peer moment methods.Options name target a = refl
row-alike old new s request view peer moment methods.SetParameter name target a = refl
row-alike old new s request view peer moment methods.Describe name (targets.Presentation base p) a = rw a refl
row-alike old new s request view peer moment methods.Describe name (targets.Track base p t) a = refl
row-alike old new s request view peer moment methods.Describe name targets.Server a = refl
row-alike old new s request view peer moment methods.Describe name targets.Star a = refl
row-alike old new s request view peer moment methods.Setup name (targets.Presentation base p) a = refl
row-alike old new s request None peer moment methods.Setup name (targets.Track base p t) a = rw (a, s) refl
row-alike old new s request (Some v) peer moment methods.Setup name (targets.Track base p t) a = rw (a, s) refl
row-alike old new s request view peer moment methods.Setup name targets.Server a = refl
row-alike old new s request view peer moment methods.Setup name targets.Star a = refl
row-alike old new s request view peer moment methods.Teardown name (targets.Presentation base p) a = refl
row-alike old new s request view peer moment methods.Teardown name (targets.Track base p t) a = refl
row-alike old new s request view peer moment methods.Teardown name targets.Server a = refl
row-alike old new s request view peer moment methods.Teardown name targets.Star a = refl
row-alike old new s request view peer moment methods.Play name (targets.Presentation base p) a = rw a refl
row-alike old new s request view peer moment methods.Play name (targets.Track base p t) a = refl
row-alike old new s request view peer moment methods.Play name targets.Server a = refl
row-alike old new s request view peer moment methods.Play name targets.Star a = refl
row-alike old new s request view peer moment methods.Pause name (targets.Presentation base p) a = rw a refl
row-alike old new s request view peer moment methods.Pause name (targets.Track base p t) a = refl
row-alike old new s request view peer moment methods.Pause name targets.Server a = refl
row-alike old new s request view peer moment methods.Pause name targets.Star a = refl
row-alike old new s request view peer moment methods.GetParameter name (targets.Presentation base p) a = rw a refl
row-alike old new s request view peer moment methods.GetParameter name (targets.Track base p t) a = rw a refl
row-alike old new s request view peer moment methods.GetParameter name targets.Server a = refl
row-alike old new s request view peer moment methods.GetParameter name targets.Star a = refl

-- ---- whoever has it

-- namesakes are there
record There (one other : Option PresentationValue) : Type 0 where
  first : PresentationValue
  is_first : one ≡ Some first
  second : PresentationValue
  is_second : other ≡ Some second

namesakes-there : (one other : Option PresentationValue) → is_namesake one other ≡ true → There one other
namesakes-there (Some a) (Some b) e = record { first = a; is_first = refl; second = b; is_second = refl }
namesakes-there (Some a) None e = absurd cc
namesakes-there None other e = absurd cc

-- the plan at what is meant, where the own place is meant
at-own : (table : TableValue) (own p : ℕ) → is_namesake (slice_get table.presentations own) (slice_get table.presentations p) ≡ true → meant_of table (Some own) p ≡ Some own
at-own table own p e = rw e refl

-- the name is that of the same tables
own_is : (method : Method) (living : Living) (own : ℕ) → place_of (Some living) ≡ Some own → ¬ (method ≡ methods.Describe) → own_of method (Some living) ≡ Some own
own_is methods.Describe living own e n = absurd (n refl)
own_is method living own e n = e

pub track-alike : (old new : TableValue) (p t own : ℕ) → AgreeAt old new own → AgreeAt old new p → track_as new p t own ≡ track_as old p t own
track-alike old new p t own a b = rw (a, b) refl

chain-alike : {A : Type 0} (o : Option A) (f g : A → Result Plan Fault) → ((x : A) → f x ≡ g x) → (known o >>= f) ≡ (known o >>= g)
chain-alike (Some x) f g same = same x
chain-alike None f g same = refl

aim-alike : (old new : TableValue) → Extends old new → new.server.timeout ≡ old.server.timeout → (request : ParsedValue) (view : Option Living) (own : ℕ) (peer moment : ℕ) (method : Method) (name : Option Name) (target : Target) → IsOwn old own target → IsSamePlace old new own → IsSameOn old new target
    → (aimed new (Some own) target >>= λ aim. row (context_of new request view peer moment) method view name aim)
    ≡ (aimed old (Some own) target >>= λ aim. row (context_of old request view peer moment) method view name aim)
aim-alike old new x s request view own peer moment method name (targets.Presentation base p) e mine same =
    let there = namesakes-there (slice_get old.presentations own) (slice_get old.presentations p) e in
    let a = agree-held old new x own mine (there.first, there.is_first) in
    let b = agree-held old new x p same (there.second, there.is_second) in
    let e' : is_namesake (slice_get new.presentations own) (slice_get new.presentations p) ≡ true = rw (a, b) e in
    rw (at-own old own p e, at-own new own p e') (row-alike old new s request view peer moment method name (targets.Presentation base own) a)
aim-alike old new x s request view own peer moment method name (targets.Track base p t) e mine same =
    let there = namesakes-there (slice_get old.presentations own) (slice_get old.presentations p) e in
    let a = agree-held old new x own mine (there.first, there.is_first) in
    let b = agree-held old new x p same (there.second, there.is_second) in
    let e' : is_namesake (slice_get new.presentations own) (slice_get new.presentations p) ≡ true = rw (a, b) e in
    rw (at-own old own p e, at-own new own p e', track-alike old new p t own a b) (go (track_as old p t own) a) where
      go : (o : Option ℕ) → AgreeAt old new own
          → ((known o >>= λ u. Ok (targets.Track base own u)) >>= λ aim. row (context_of new request view peer moment) method view name aim)
          ≡ ((known o >>= λ u. Ok (targets.Track base own u)) >>= λ aim. row (context_of old request view peer moment) method view name aim)
      go (Some u) a = row-alike old new s request view peer moment method name (targets.Track base own u) a
      go None a = refl
aim-alike old new x s request view own peer moment method name targets.Server e mine same = row-alike old new s request view peer moment method name targets.Server tt
aim-alike old new x s request view own peer moment method name targets.Star e mine same = row-alike old new s request view peer moment method name targets.Star tt

pub plays-on : PlaysOn
unfolding decide
plays-on old new x s request living own is n e mine same peer moment =
    let it = own_is request.method living own is n in
    let alike : cell (context_of new request (Some living) peer moment) request.method (Some living) request.name request.target
    ≡ cell (context_of old request (Some living) peer moment) request.method (Some living) request.name request.target
    = rw it (aim-alike old new x s request (Some living) own peer moment request.method request.name request.target e mine same) in
    ap (settled (start_of request.cseq (Some living))) alike

-- ---- whoever comes

gone-aim : (table : TableValue) (p : ℕ) → is_withdrawn table.withdrawn p ≡ true → offered_named table (slice_get table.presentations p) ≡ None → meant_of table None p ≡ None
gone-aim table p gone none = rw gone none

aimed-gone : (table : TableValue) (p : ℕ) (target : Target) → IsAt p target → meant_of table None p ≡ None → aimed table None target ≡ Err (Refused NotFound)
aimed-gone table p (targets.Presentation base q) at e = rw (at, e) refl
aimed-gone table p (targets.Track base q t) at e = rw (at, e) refl
aimed-gone table p targets.Server at e = absurd at
aimed-gone table p targets.Star at e = absurd at

none-own : (method : Method) (view : Option Living) → (method ≡ methods.Describe) ⊎ ((method ≡ methods.Setup) × (view ≡ None)) → own_of method view ≡ None
none-own method view (inl describes) = rw describes refl
none-own method view (inr comes) = rw (comes.0, comes.1) refl

pub is-gone : IsGone
unfolding decide
is-gone table request view p comes found at gone none peer moment =
    let aims : aimed table (own_of request.method view) request.target ≡ Err (Refused NotFound)
    = rw (none-own request.method view comes) (aimed-gone table p request.target at (gone-aim table p gone none)) in
    let lacks : cell (context_of table request view peer moment) request.method view request.name request.target ≡ Err (Refused NotFound) = rw (found, aims) refl in
    ap (settled (start_of request.cseq view)) lacks

-- ---- by what is meant

aims-alike : (old new : TableValue) → new.server.timeout ≡ old.server.timeout → (request : ParsedValue) (view : Option Living) (peer moment : ℕ) (method : Method) (name : Option Name) (aims : Result Target Fault)
    → ((aim : Target) → aims ≡ Ok aim → AgreeOn old new aim)
    → (aims >>= λ aim. row (context_of new request view peer moment) method view name aim) ≡ (aims >>= λ aim. row (context_of old request view peer moment) method view name aim)
aims-alike old new s request view peer moment method name (Ok aim) stands = row-alike old new s request view peer moment method name aim (stands aim refl)
aims-alike old new s request view peer moment method name (Err fault) stands = refl

pub decides-by-place : DecidesByPlace
unfolding decide
decides-by-place old new s request view alike peer moment =
    let aims = aimed old (own_of request.method view) request.target in
    ap (λ plan. settled (start_of request.cseq view) (session_found request.method request.name view >>= λ living. plan))
    (rw alike.meant (aims-alike old new s request view peer moment request.method request.name aims alike.stands))

pub renews-alike : RenewsAlike
unfolding renewal
renews-alike old new timed request living moment = rw (timed.timeout, timed.renewal_step) refl
