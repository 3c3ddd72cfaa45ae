-- The laws over repairs.
use Rattle.std.proofs.Common.{◌≡◌, ◌⊎◌, ℕ, ◌<◌, ◌^◌, ◌%◌, Bool, true, false, cond, List, [], ◌∷◌, length, map, nat_lt, Option, Some, None, refl, sym, ap, subst, ◌∙◌, arith, inl, inr}
use Rattle.std.specs.Prelude.{not, ◌&&◌, ◌||◌, filter, is_some, decimal}
use Rattle.std.specs.List.{list_any, AllByRecursion}
use Rattle.std.proofs.lemmas.Bool.{le-ltb, lt-ltb, ltb-true, ltb-false}
use Rattle.std.proofs.lemmas.Fmt.{decimal_is_IsNumeral, length-decimal-le}
use Rattle.rtsp_text.specs.Decimal.{SpellsNumber}
use Rattle.rtsp_text.proofs.DecimalLemmas.{numbers}
use Rattle.rtsp_grammar.specs.Header.{HeaderText}
use Rattle.rtsp_transport.specs.declared.spec.Spec.{Spec}
use Rattle.rtsp_dialect.specs.Startup.{long_startup, startup_or, repaired_startup}
use Rattle.rtsp_dialect.specs.ClientPort.{is_old, repaired_spec}
use Rattle.rtsp_dialect.specs.ClientPortText.{has_old, repaired_transport}
use Rattle.rtsp_dialect.specs.Repair.{is_startup, is_transport, needs_repair, repaired_value, repaired_header}
use Rattle.rtsp_dialect.specs.Within.{IsStartup, IsTransport, IsValue, IsHeader, HasNoClientPort}
use Rattle.rtsp_dialect.specs.Laws.{RepairsToItself, RepairedIsWithin, RestStays, SaysTheSame, is_other}
use Rattle.rtsp_dialect.proofs.Ports.{pair_some, says_ports}
use Rattle.rtsp_dialect.proofs.Reading.{value_has_old}
use Rattle.rtsp_dialect.proofs.Spoken.{plain_stays, transport_repaired, new_is_not_old, old_gets_new}
use Rattle.rtsp_dialect.proofs.Staying.{request_stays}

-- ---- what is within the grammar needs no repair

short_startup : (value : List ℕ) → IsStartup 8 value → long_startup value ≡ None
unfolding long_startup
short_startup value s = rw (le-ltb 8 (length value) s.1.few) refl

none_old : (specs : List Spec) → AllByRecursion HasNoClientPort specs → list_any is_old specs ≡ false
none_old [] each = refl
none_old (spec ∷ specs) each = ap (λ (b : Bool). b || list_any is_old specs) (new_is_not_old spec each.0) ∙ none_old specs each.1

new_transport : (value : List ℕ) → IsTransport HasNoClientPort value → has_old value ≡ false
new_transport value t = value_has_old value t.specs t.spells ∙ none_old t.specs t.each

header_needs_none : (h : HeaderText) → IsHeader 8 HasNoClientPort h → needs_repair h ≡ false
unfolding needs_repair
header_needs_none h is = go (is_startup h) (is_transport h) is where
  go : (x y : Bool) → IsValue 8 HasNoClientPort x y h.value → cond x (is_some (long_startup h.value)) (y && has_old h.value) ≡ false
  go true y s = ap is_some (short_startup h.value s)
  go false true s = new_transport h.value s
  go false false s = refl

headers_need_none : (hs : List HeaderText) → AllByRecursion (IsHeader 8 HasNoClientPort) hs → list_any needs_repair hs ≡ false
headers_need_none [] each = refl
headers_need_none (h ∷ hs) each = ap (λ (b : Bool). b || list_any needs_repair hs) (header_needs_none h each.0) ∙ headers_need_none hs each.1

pub repairs_to_itself : RepairsToItself
repairs_to_itself r within = request_stays r (headers_need_none r.headers within)

-- ---- what is repaired is within the grammar

remainder_small : (n : ℕ) → n % 100000000 < 100000000
remainder_small n = omega arith

written_startup : (n : ℕ) → SpellsNumber 8 (decimal (n % 100000000)) (n % 100000000)
written_startup n =
    let small = remainder_small n in
    let fits : n % 100000000 < 2 ^ 64 = omega (arith, small) in
    let numeral = decimal_is_IsNumeral (n % 100000000) fits in
    record { digits = numeral.0; few = length-decimal-le 8 (n % 100000000) (omega arith) (omega (arith, small)) fits; value = sym numeral.1 }

long_is : (value : List ℕ) (n : ℕ) → 8 < length value → SpellsNumber 10 value n → long_startup value ≡ Some n
unfolding long_startup
long_is value n long s = rw (lt-ltb 8 (length value) long) ((numbers 10).complete value n s)

startup_says : (value : List ℕ) (n : ℕ) → 8 < length value → SpellsNumber 10 value n → SpellsNumber 8 (repaired_startup value) (n % 100000000)
startup_says value n long s = subst (λ (o : Option ℕ). SpellsNumber 8 (startup_or value o) (n % 100000000)) (sym (long_is value n long s)) (written_startup n)

not_long : (value : List ℕ) → nat_lt 8 (length value) ≡ false → long_startup value ≡ None
unfolding long_startup
not_long value e = rw e refl

startup_within : (value : List ℕ) → IsStartup 10 value → IsStartup 8 (repaired_startup value)
startup_within value s = go (nat_lt 8 (length value)) refl where
  go : (x : Bool) → nat_lt 8 (length value) ≡ x → IsStartup 8 (repaired_startup value)
  go true e = (s.0 % 100000000, startup_says value s.0 (ltb-true 8 (length value) e) s.1)
  go false e =
      subst (λ (o : Option ℕ). IsStartup 8 (startup_or value o)) (sym (not_long value e))
      (s.0, record { digits = s.1.digits; few = ltb-false 8 (length value) e; value = s.1.value })

abbrev IsSpokenSpec : Spec → Type 0
IsSpokenSpec spec = HasNoClientPort spec ⊎ (is_old spec ≡ true)

spec_within : (spec : Spec) → IsSpokenSpec spec → HasNoClientPort (repaired_spec spec)
spec_within spec (inl new) = subst (λ (z : Spec). HasNoClientPort z) (sym (plain_stays spec (new_is_not_old spec new))) new
spec_within spec (inr old) = old_gets_new spec old

specs_within : (specs : List Spec) → AllByRecursion IsSpokenSpec specs → AllByRecursion HasNoClientPort (map repaired_spec specs)
specs_within [] each = tt
specs_within (spec ∷ specs) each = (spec_within spec each.0, specs_within specs each.1)

transport_within : (value : List ℕ) → IsTransport IsSpokenSpec value → IsTransport HasNoClientPort (repaired_transport value)
transport_within value t = record { specs = map repaired_spec t.specs; spells = transport_repaired value t.specs t.spells; each = specs_within t.specs t.each }

header_within : (h : HeaderText) → IsHeader 10 IsSpokenSpec h → IsHeader 8 HasNoClientPort (repaired_header h)
unfolding repaired_value
header_within h is = go (is_startup h) (is_transport h) is where
  go : (x y : Bool) → IsValue 10 IsSpokenSpec x y h.value → IsValue 8 HasNoClientPort x y (cond x (repaired_startup h.value) (cond y (repaired_transport h.value) h.value))
  go true y s = startup_within h.value s
  go false true s = transport_within h.value s
  go false false s = tt

headers_within : (hs : List HeaderText) → AllByRecursion (IsHeader 10 IsSpokenSpec) hs → AllByRecursion (IsHeader 8 HasNoClientPort) (map repaired_header hs)
headers_within [] each = tt
headers_within (h ∷ hs) each = (header_within h each.0, headers_within hs each.1)

pub repaired_is_within : RepairedIsWithin
repaired_is_within r spoken = headers_within r.headers spoken

-- ---- what stays

names_stay : (hs : List HeaderText) → map (λ (h : HeaderText). h.name) (map repaired_header hs) ≡ map (λ (h : HeaderText). h.name) hs
names_stay [] = refl
names_stay (h ∷ hs) = ap (λ (ns : List (List ℕ)). h.name ∷ ns) (names_stay hs)

other_stays : (h : HeaderText) → is_other h ≡ true → repaired_header h ≡ h
unfolding repaired_value
other_stays h e = go (is_startup h) (is_transport h) e where
  made : List ℕ → HeaderText
  made value = record { name = h.name; value = value }

  go : (x y : Bool) → not (x || y) ≡ true → made (cond x (repaired_startup h.value) (cond y (repaired_transport h.value) h.value)) ≡ h
  go true y n = absurd cc
  go false true n = absurd cc
  go false false n = refl

others_stay : (hs : List HeaderText) → filter is_other (map repaired_header hs) ≡ filter is_other hs
others_stay [] = refl
others_stay (h ∷ hs) = go (is_other h) refl (others_stay hs) where
  go : (x : Bool) → is_other h ≡ x → filter is_other (map repaired_header hs) ≡ filter is_other hs → cond x (repaired_header h ∷ filter is_other (map repaired_header hs)) (filter is_other (map repaired_header hs)) ≡ cond x (h ∷ filter is_other hs) (filter is_other hs)
  go true e rest = ap (λ (k : HeaderText). k ∷ filter is_other (map repaired_header hs)) (other_stays h e) ∙ ap (λ (ks : List HeaderText). h ∷ ks) rest
  go false e rest = rest

pub rest_stays : RestStays
rest_stays = record {
  method = λ r. refl;
  uri = λ r. refl;
  version = λ r. refl;
  body = λ r. refl;
  names = λ r. names_stay r.headers;
  others = λ r. others_stay r.headers;
}

pub says_the_same : SaysTheSame
says_the_same = record { startup = startup_says; transport = transport_repaired; ports = says_ports; pairs = pair_some }
