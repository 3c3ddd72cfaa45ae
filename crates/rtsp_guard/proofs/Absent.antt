-- A request that is hidden, and the same about something that isn't there.
use Rattle.std.proofs.Common.{◌≡◌, ℕ, suc, ◌+◌, List, [], ◌∷◌, ◌++◌, drop, slice_get, Option, Some, None, Result, Ok, Err, refl, sym, ◌∙◌, ap, arith, append_assoc}
use Rattle.rtsp_text.specs.Results.{◌>>=◌}
use Rattle.rtsp_grammar.specs.Header.{HeaderText}
use Rattle.rtsp_grammar.specs.declared.message.Request.{Request}
use Rattle.rtsp_grammar.proofs.PlaceLemmas.{drop_by}
use Rattle.rtsp_content.specs.TableValue.{TableValue}
use Rattle.rtsp_state.specs.declared.fault.Fault.{Fault}
use Rattle.rtsp_state.specs.declared.fault.Fault.TheVariants.{Refused}
use Rattle.rtsp_state.specs.declared.method.Method.{Method}
use Rattle.rtsp_state.specs.declared.method.Method.TheVariants as methods
use Rattle.rtsp_state.specs.declared.order_of_refusals.Asked.{Asked}
use Rattle.rtsp_state.specs.declared.status.Status.TheVariants.{NotFound}
use Rattle.rtsp_state.specs.About.{nowhere}
use Rattle.rtsp_state.specs.Method.{method_of}
use Rattle.rtsp_state.specs.OrderOfRefusals.{cseq_of, served, version_rule, require_rule, target_of, name_of, asked_of}
use Rattle.rtsp_state.specs.Screen.{screened, screen}
use Rattle.rtsp_state.proofs.NowhereLemmas.{names_nothing}
use Rattle.rtsp_guard.specs.Hiding.{hidden, IsAbsent, HidesAsAbsent}

-- ---- headers, one after another

pub copied_more : (hs : List HeaderText) (i : ℕ) (h : HeaderText) (built next : List HeaderText) → slice_get hs i ≡ Some h → next ≡ built ++ h ∷ [] → built ++ drop i hs ≡ hs → next ++ drop (i + 1) hs ≡ hs
copied_more hs i h built next at n so_far =
    let s : suc i ≡ i + 1 = omega arith in
    let here = drop_by hs i h at ∙ ap (λ (n : ℕ). h ∷ drop n hs) s in
    ap (λ (xs : List HeaderText). xs ++ drop (i + 1) hs) n ∙ append_assoc built (h ∷ []) (drop (i + 1) hs) ∙ sym (ap (λ (xs : List HeaderText). built ++ xs) here) ∙ so_far

-- ---- the fifth place of the order of refusals

nothing_either : (table : TableValue) (method : Method) (uri : List ℕ) → target_of table method uri ≡ Err (Refused NotFound) → target_of table method nowhere ≡ Err (Refused NotFound)
nothing_either table methods.Options uri e = absurd cc
nothing_either table methods.Describe uri e = names_nothing table
nothing_either table methods.Setup uri e = names_nothing table
nothing_either table methods.Play uri e = names_nothing table
nothing_either table methods.Pause uri e = names_nothing table
nothing_either table methods.Teardown uri e = names_nothing table
nothing_either table methods.GetParameter uri e = names_nothing table
nothing_either table methods.SetParameter uri e = names_nothing table

method_served : (found : Option Method) (method : Method) → served found ≡ Ok method → found ≡ Some method
method_served (Some other) method e = cc
method_served None method e = absurd cc

-- ---- the others

in_both : {A M C T N Z E : Type 0} (a : Result A E) (m : Result M E) (c : Result C E) (t u : M → Result T E) (n : M → Result N E) (z : M → T → N → Z)
    → ((x : M) → m ≡ Ok x → t x ≡ u x)
    → (a >>= λ _. m >>= λ x. c >>= λ _. t x >>= λ y. n x >>= λ w. Ok (z x y w)) ≡ (a >>= λ _. m >>= λ x. c >>= λ _. u x >>= λ y. n x >>= λ w. Ok (z x y w))
in_both (Err e) m c t u n z same = refl
in_both (Ok a) (Err e) c t u n z same = refl
in_both (Ok a) (Ok x) (Err e) t u n z same = refl
in_both (Ok a) (Ok x) (Ok c) t u n z same = ap (λ r. r >>= λ y. n x >>= λ w. Ok (z x y w)) (same x refl)

asks_alike : (table : TableValue) (request : Request) → IsAbsent table request → asked_of table (hidden request) ≡ asked_of table request
unfolding asked_of
asks_alike table request absent =
    in_both (version_rule request.version) (served (method_of request.method)) (require_rule request.headers) (λ method. target_of table method nowhere) (λ method. target_of table method request.uri)
    (λ method. name_of method request.headers) _
    (λ method e. let gone = absent method (method_served (method_of request.method) method e) in nothing_either table method request.uri gone ∙ sym gone)

-- what is handed on has no URI but that of its target
screens_alike : (request : Request) (cseq : Result ℕ Fault) (asked : Result Asked Fault) → screened (hidden request) cseq asked ≡ screened request cseq asked
screens_alike request (Err fault) asked = refl
screens_alike request (Ok cseq) (Err fault) = refl
screens_alike request (Ok cseq) (Ok asked) = refl

pub hides_as_absent : HidesAsAbsent
unfolding screen
hides_as_absent table request absent =
    ap (screened (hidden request) (cseq_of request.headers)) (asks_alike table request absent) ∙ screens_alike request (cseq_of request.headers) (asked_of table request)
