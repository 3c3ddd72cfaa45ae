-- What is read alike by a table that goes on.
use Rattle.std.proofs.Common.{◌≡◌, ◌≢◌, ◌∙◌, sym, refl, ap, subst, ℕ, ◌+◌, Bool, true, false, cond, bytes_eq, List, [], ◌∷◌, ◌++◌, Option, Some, None, Result, Ok, Err, codes}
use Rattle.url.specs.Parts.{Parts}
use Rattle.rtsp_text.specs.Results.{◌>>=◌}
use Rattle.rtsp_grammar.specs.declared.message.Request.{Request}
use Rattle.rtsp_content.specs.declared.found.Found.{Found}
use Rattle.rtsp_content.specs.declared.found.Found.TheVariants as found
use Rattle.rtsp_content.specs.TableValue.{TableValue}
use Rattle.rtsp_content.specs.Paths.{find_of, Names}
use Rattle.rtsp_content.specs.Growing.{Extends, IsSamePlace, IsSameFound}
use Rattle.rtsp_content.proofs.GrowthLemmas.{keeps-places, finds-alike}
use Rattle.rtsp_content.proofs.PathLemmas.{find_of-names}
use Rattle.rtsp_state.specs.declared.method.Method.{Method}
use Rattle.rtsp_state.specs.declared.method.Method.TheVariants as methods
use Rattle.rtsp_state.specs.declared.status.Status.TheVariants.{NotFound, BadRequest}
use Rattle.rtsp_state.specs.declared.fault.Fault.{Fault}
use Rattle.rtsp_state.specs.declared.fault.Fault.TheVariants.{Refused}
use Rattle.rtsp_state.specs.declared.request.Target.{Target}
use Rattle.rtsp_state.specs.declared.request.Target.TheVariants as targets
use Rattle.rtsp_state.specs.declared.request.Name.{Name}
use Rattle.rtsp_state.specs.declared.request.Screen.TheVariants.{Asks}
use Rattle.rtsp_state.specs.declared.order_of_refusals.Asked.{Asked}
use Rattle.rtsp_state.specs.Method.{method_of, takes_star}
use Rattle.rtsp_state.specs.Values.{uri_of, bare_text, with_slash}
use Rattle.rtsp_state.specs.OrderOfRefusals.{served, version_rule, require_rule, name_of, cseq_of, target_at, media_of, target_of, asked_of}
use Rattle.rtsp_state.specs.ParsedRequest.{ParsedValue}
use Rattle.rtsp_state.specs.Screen.{screen, screened, parsed as parsed_as}
use Rattle.rtsp_state.specs.Alike.{Has, IsSameOn, NamesSame, IsHeld, IsThere, AgreeAt, AgreeOn, ReadsAlike, AsksAlike}

-- ---- what a path names

-- the place of what is found isn't given to another, where that of no target is that it makes
found-same : (old new : TableValue) (base : List ℕ) (f : Found) → f ≢ found.Nothing → ((target : Target) → target_at base f ≡ Ok target → IsSameOn old new target) → IsSameFound old new f
found-same old new base (found.Presentation p) n same = same (targets.Presentation base p) refl
found-same old new base (found.Track p t) n same = same (targets.Track base p t) refl
found-same old new base found.Nothing n same = absurd (n refl)

-- ---- what a URI names

not-missing : (base : List ℕ) (f : Found) → target_at base f ≢ Err (Refused NotFound) → f ≢ found.Nothing
not-missing base f n e = n (ap (target_at base) e)

media-longer : (old new : TableValue) → Extends old new → (parts : Option Parts) → media_of old parts ≢ Err (Refused NotFound)
    → ((target : Target) → media_of old parts ≡ Ok target → IsSameOn old new target) → media_of new parts ≡ media_of old parts
media-longer old new x None n same = refl
media-longer old new x (Some url) n same =
    let base = with_slash (bare_text url) in
    ap (target_at base) (finds-alike old new x url.path (found-same old new base (find_of old url.path) (not-missing base (find_of old url.path) n) same))

-- the target of a text that is `*` or isn't
abbrev starred : Bool → Bool → Result Target Fault → Result Target Fault
starred is takes media = cond is (cond takes (Ok targets.Star) (Err (Refused BadRequest))) media

star-longer : (old new : TableValue) → Extends old new → (is takes : Bool) (parts : Option Parts) → starred is takes (media_of old parts) ≢ Err (Refused NotFound)
    → ((target : Target) → starred is takes (media_of old parts) ≡ Ok target → IsSameOn old new target)
    → starred is takes (media_of new parts) ≡ starred is takes (media_of old parts)
star-longer old new x true takes parts n same = refl
star-longer old new x false takes parts n same = media-longer old new x parts n same

target-longer : (old new : TableValue) → Extends old new → (method : Method) (text : List ℕ) → target_of old method text ≢ Err (Refused NotFound)
    → ((target : Target) → target_of old method text ≡ Ok target → IsSameOn old new target) → target_of new method text ≡ target_of old method text
target-longer old new x methods.Options text n same = refl
target-longer old new x method text n same = star-longer old new x (bytes_eq text (codes "*")) (takes_star method) (uri_of text) n same

-- ---- what is read

abbrev asked_with : Method → Target → Option Name → Asked
asked_with method target name = record { method = method; target = target; name = name }

asked-longer : (old new : TableValue) → Extends old new → (request : Request) → Has old request → NamesSame old new request → asked_of new request ≡ asked_of old request
unfolding asked_of
asked-longer old new x request has same = go (method_of request.method) refl where
  go : (m : Option Method) → method_of request.method ≡ m
      → (version_rule request.version >>= λ version. served m >>= λ method. require_rule request.headers >>= λ require. target_of new method request.uri >>= λ target. name_of method request.headers >>= λ name. Ok (asked_with method target name))
      ≡ (version_rule request.version >>= λ version. served m >>= λ method. require_rule request.headers >>= λ require. target_of old method request.uri >>= λ target. name_of method request.headers >>= λ name. Ok (asked_with method target name))
  go None e = refl
  go (Some method) e = rw (target-longer old new x method request.uri (has method e) (λ target is. same method target e is)) refl

pub reads-alike : ReadsAlike
unfolding screen
reads-alike old new x request has same = ap (screened request (cseq_of request.headers)) (asked-longer old new x request has same)

-- ---- what is handed on

-- a table that goes on has the same where something stands, at a place that wasn't given to another
pub agree-held : (old new : TableValue) → Extends old new → (p : ℕ) → IsSamePlace old new p → IsHeld old p → AgreeAt old new p
agree-held old new x p same held = keeps-places old new x p held.0 same held.1 ∙ sym held.1

agree-there : (old new : TableValue) → Extends old new → (target : Target) → IsThere old target → IsSameOn old new target → AgreeOn old new target
agree-there old new x (targets.Presentation base p) held same = agree-held old new x p same held
agree-there old new x (targets.Track base p t) held same = agree-held old new x p same held
agree-there old new x targets.Server held same = tt
agree-there old new x targets.Star held same = tt

at-there : (table : TableValue) (path base : List ℕ) (f : Found) (target : Target) → Names table path f → target_at base f ≡ Ok target → IsThere table target
at-there table path base (found.Presentation p) target n e = let same : targets.Presentation base p ≡ target = cc in subst (IsThere table) same (n.presentation, n.stands)
at-there table path base (found.Track p t) target n e = let same : targets.Track base p t ≡ target = cc in subst (IsThere table) same (n.presentation, n.stands)
at-there table path base found.Nothing target n e = absurd cc

media-there : (table : TableValue) (parts : Option Parts) (target : Target) → media_of table parts ≡ Ok target → IsThere table target
media-there table None target e = absurd cc
media-there table (Some url) target e = at-there table url.path (with_slash (bare_text url)) (find_of table url.path) target (find_of-names table url.path) e

star-there : (table : TableValue) (is takes : Bool) (parts : Option Parts) (target : Target) → starred is takes (media_of table parts) ≡ Ok target → IsThere table target
star-there table true true parts target e = let same : targets.Star ≡ target = cc in subst (IsThere table) same tt
star-there table true false parts target e = absurd cc
star-there table false takes parts target e = media-there table parts target e

target-there : (table : TableValue) (method : Method) (text : List ℕ) (target : Target) → target_of table method text ≡ Ok target → IsThere table target
target-there table methods.Options text target e = let same : targets.Server ≡ target = cc in subst (IsThere table) same tt
target-there table method text target e = star-there table (bytes_eq text (codes "*")) (takes_star method) (uri_of text) target e

-- each step of what was read in steps
chain_ok : {A B : Type 0} (r : Result A Fault) (f : A → Result B Fault) (y : B) → (r >>= f) ≡ Ok y → (x : A) × (r ≡ Ok x) × (f x ≡ Ok y)
chain_ok (Ok x) f y e = (x, refl, e)
chain_ok (Err fault) f y e = absurd cc

served-some : (o : Option Method) (method : Method) → served o ≡ Ok method → o ≡ Some method
served-some (Some m) method e = cc
served-some None method e = absurd cc

-- what holds of the target of the URI holds of the one that is asked for
abbrev OfTarget : TableValue → Request → (Target → Type 0) → Type 0
OfTarget table request P = (method : Method) (target : Target) → method_of request.method ≡ Some method → target_of table method request.uri ≡ Ok target → P target

asked-has : (table : TableValue) (request : Request) (P : Target → Type 0) → OfTarget table request P → (asked : Asked) → asked_of table request ≡ Ok asked → P asked.target
unfolding asked_of
asked-has table request P all asked e =
    let one = chain_ok (version_rule request.version) (λ version. served (method_of request.method) >>= λ method. require_rule request.headers >>= λ require. target_of table method request.uri >>= λ target. name_of method request.headers >>= λ name. Ok (asked_with method target name)) asked e in
    let two = chain_ok (served (method_of request.method)) (λ method. require_rule request.headers >>= λ require. target_of table method request.uri >>= λ target. name_of method request.headers >>= λ name. Ok (asked_with method target name)) asked one.2 in
    let three = chain_ok (require_rule request.headers) (λ require. target_of table two.0 request.uri >>= λ target. name_of two.0 request.headers >>= λ name. Ok (asked_with two.0 target name)) asked two.2 in
    let four = chain_ok (target_of table two.0 request.uri) (λ target. name_of two.0 request.headers >>= λ name. Ok (asked_with two.0 target name)) asked three.2 in
    let five = chain_ok (name_of two.0 request.headers) (λ name. Ok (asked_with two.0 four.0 name)) asked four.2 in
    let same : asked_with two.0 four.0 five.0 ≡ asked = cc in
    subst (λ (a : Asked). P a.target) {x = asked_with two.0 four.0 five.0} same (all two.0 four.0 (served-some (method_of request.method) two.0 two.1) four.1)

asks-has : (table : TableValue) (request : Request) (P : Target → Type 0) → OfTarget table request P → (parsed : ParsedValue) → screen table request ≡ Asks parsed → P parsed.target
unfolding screen
asks-has table request P all parsed e = go (cseq_of request.headers) (asked_of table request) refl e where
  go : (c : Result ℕ Fault) (a : Result Asked Fault) → asked_of table request ≡ a → screened request c a ≡ Asks parsed → P parsed.target
  go (Err f) a h e = absurd cc
  go (Ok n) (Err f) h e = absurd cc
  go (Ok n) (Ok asked) h e = let same : parsed_as n asked request ≡ parsed = cc in subst (λ (p : ParsedValue). P p.target) same (asked-has table request P all asked h)

asks-there : (table : TableValue) (request : Request) (parsed : ParsedValue) → screen table request ≡ Asks parsed → IsThere table parsed.target
asks-there table request parsed e = asks-has table request (IsThere table) (λ method target is named. target-there table method request.uri target named) parsed e

-- the place that a request names wasn't given to another, so that which it asks for wasn't
pub asks-same : (old new : TableValue) (request : Request) (parsed : ParsedValue) → NamesSame old new request → screen old request ≡ Asks parsed → IsSameOn old new parsed.target
asks-same old new request parsed same e = asks-has old request (IsSameOn old new) same parsed e

pub asks-alike : AsksAlike
asks-alike old new x request parsed e = let there = asks-there old request parsed e in (there, agree-there old new x parsed.target there)
