-- What needs no repair stays.
use Rattle.std.proofs.Common.{◌≡◌, ℕ, Bool, true, false, List, [], ◌∷◌, map, Option, Some, None, refl, ap, ◌∙◌}
use Rattle.std.specs.Prelude.{◌&&◌, is_some, cond}
use Rattle.std.specs.List.{list_any}
use Rattle.std.proofs.lemmas.Bool.{or_parts}
use Rattle.rtsp_grammar.specs.Header.{HeaderText}
use Rattle.rtsp_grammar.specs.declared.message.Request.{Request}
use Rattle.rtsp_dialect.specs.Startup.{long_startup, startup_or, repaired_startup}
use Rattle.rtsp_dialect.specs.ClientPortText.{has_old, repaired_transport}
use Rattle.rtsp_dialect.specs.Repair.{is_startup, is_transport, needs_repair, repaired_value, repaired_header, repaired}
use Rattle.rtsp_dialect.proofs.Rewritten.{plain_transport}

short_stays : (value : List ℕ) (n : Option ℕ) → is_some n ≡ false → startup_or value n ≡ value
short_stays value None e = refl
short_stays value (Some n) e = absurd cc

pub value_stays : (h : HeaderText) → needs_repair h ≡ false → repaired_value h ≡ h.value
unfolding needs_repair repaired_value
value_stays h e = go (is_startup h) (is_transport h) e where
  go : (x y : Bool) → cond x (is_some (long_startup h.value)) (y && has_old h.value) ≡ false → cond x (repaired_startup h.value) (cond y (repaired_transport h.value) h.value) ≡ h.value
  go true y n = short_stays h.value (long_startup h.value) n
  go false true n = plain_transport h.value n
  go false false n = refl

pub headers_stay : (hs : List HeaderText) → list_any needs_repair hs ≡ false → map repaired_header hs ≡ hs
headers_stay [] e = refl
headers_stay (h ∷ hs) e =
    let s = or_parts (needs_repair h) (list_any needs_repair hs) e in
    ap (λ (v : List ℕ). (record { name = h.name; value = v }) ∷ map repaired_header hs) (value_stays h s.0) ∙ ap (λ (xs : List HeaderText). h ∷ xs) (headers_stay hs s.1)

pub request_stays : (r : Request) → list_any needs_repair r.headers ≡ false → repaired r ≡ r
request_stays r e = ap (λ (hs : List HeaderText). record r { headers = hs }) (headers_stay r.headers e)
