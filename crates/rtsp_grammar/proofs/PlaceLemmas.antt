use Rattle.std.proofs.Common.{arith, ap, sym, refl, ◌∙◌, ◌≡◌, ℕ, ◌+◌, ◌-◌, ◌≤◌, ◌<◌, List, [], ◌∷◌, ◌++◌, length, take, drop, map, slice_get, get_or, zero, suc, Some, subst}
use Rattle.std.proofs.Math.Seq.{take-append_seam, drop-append_seam}
use Rattle.std.proofs.lemmas.List.{append_assoc, append-nil, drop_all, take_all, drop-take, take-take, take-append-le, drop-append-le, length-append, length-drop}
use Rattle.rtsp_grammar.specs.Header.{HeaderText}
use Rattle.rtsp_grammar.specs.Writing.{header_text, headers_text}
use Rattle.rtsp_grammar.specs.Headers.{header_at, headers_at, IsWithin, AreWithin}
use Rattle.rtsp_grammar.specs.declared.header.Place.{Place}

pub part_kept : (bytes more : List ℕ) (from to : ℕ) → from ≤ to → to ≤ length bytes → take (to - from) (drop from (bytes ++ more)) ≡ take (to - from) (drop from bytes)
part_kept bytes more from to a b =
    ap (λ (l : List ℕ). take (to - from) l) (drop-append-le from bytes more (omega arith))
    ∙ take-append-le (to - from) (drop from bytes) more (let e = length-drop from bytes in omega (arith, e))

pub header_kept : (bytes more : List ℕ) (p : Place) → IsWithin bytes p → header_at (bytes ++ more) p ≡ header_at bytes p
header_kept bytes more p w =
    let a = part_kept bytes more p.name p.value w.0 (omega (arith, w.1, w.2)) in
    let b = part_kept bytes more p.value p.end w.1 w.2 in
    rw (a, b) refl

pub headers_kept : (bytes more : List ℕ) (ps : List Place) → AreWithin bytes ps → headers_at (bytes ++ more) ps ≡ headers_at bytes ps
headers_kept bytes more [] w = refl
headers_kept bytes more (p ∷ ps) w =
    let a = header_kept bytes more p w.0 in
    let b = headers_kept bytes more ps w.1 in
    rw (a, b) refl

pub within_kept : (bytes more : List ℕ) (ps : List Place) → AreWithin bytes ps → AreWithin (bytes ++ more) ps
within_kept bytes more [] w = w
within_kept bytes more (p ∷ ps) w = ((w.0.0, w.0.1, let e = length-append bytes more in omega (arith, e, w.0.2)), within_kept bytes more ps w.1)

pub map_last : (f : Place → HeaderText) (ps : List Place) (p : Place) → map f (ps ++ p ∷ []) ≡ map f ps ++ f p ∷ []
map_last f [] p = refl
map_last f (q ∷ ps) p = ap (λ (l : List HeaderText). f q ∷ l) (map_last f ps p)

-- what stands between two lengths
pub part_at : (front part behind : List ℕ) → take (length (front ++ part) - length front) (drop (length front) ((front ++ part) ++ behind)) ≡ part
part_at front part behind =
    let a : drop (length front) ((front ++ part) ++ behind) ≡ part ++ behind = ap (λ (l : List ℕ). drop (length front) l) (append_assoc front part behind) ∙ drop-append_seam front (part ++ behind) in
    let n : length (front ++ part) - length front ≡ length part = (let e = length-append front part in omega (arith, e)) in
    rw (a, n) (take-append_seam part behind)

pub last_at : (front part : List ℕ) → take (length (front ++ part) - length front) (drop (length front) (front ++ part)) ≡ part
last_at front part =
    let a = drop-append_seam front part in
    let n : length (front ++ part) - length front ≡ length part = (let e = length-append front part in omega (arith, e)) in
    rw (a, n) (take_all (length part) part (omega arith))

pub pushed_headers : (bytes name value : List ℕ) (ps : List Place) → AreWithin bytes ps →
    headers_at ((bytes ++ name) ++ value) (ps ++ record { name = length bytes; value = length (bytes ++ name); end = length ((bytes ++ name) ++ value) } ∷ [])
    ≡ headers_at bytes ps ++ record { name = name; value = value } ∷ []
pushed_headers bytes name value ps w =
    let a = map_last (header_at ((bytes ++ name) ++ value)) ps (record { name = length bytes; value = length (bytes ++ name); end = length ((bytes ++ name) ++ value) }) in
    let b : headers_at ((bytes ++ name) ++ value) ps ≡ headers_at bytes ps = ap (λ (l : List ℕ). headers_at l ps) (append_assoc bytes name value) ∙ headers_kept bytes (name ++ value) ps w in
    let c = part_at bytes name value in
    let d = last_at (bytes ++ name) value in
    a ∙ rw (b, c, d) refl

pub within_last : (bytes : List ℕ) (ps : List Place) (p : Place) → AreWithin bytes ps → IsWithin bytes p → AreWithin bytes (ps ++ p ∷ [])
within_last bytes [] p w h = (h, w)
within_last bytes (q ∷ ps) p w h = (w.0, within_last bytes ps p w.1 h)

pub pushed_within : (bytes name value : List ℕ) (ps : List Place) → AreWithin bytes ps →
    AreWithin ((bytes ++ name) ++ value) (ps ++ record { name = length bytes; value = length (bytes ++ name); end = length ((bytes ++ name) ++ value) } ∷ [])
pushed_within bytes name value ps w =
    let e = length-append bytes name in
    let f = length-append (bytes ++ name) value in
    within_last ((bytes ++ name) ++ value) ps (record { name = length bytes; value = length (bytes ++ name); end = length ((bytes ++ name) ++ value) })
    (subst (λ (l : List ℕ). AreWithin l ps) (sym (append_assoc bytes name value)) (within_kept bytes (name ++ value) ps w))
    (omega (arith, e), omega (arith, f), omega arith)

-- the same header seen from its place
pub got : (bytes : List ℕ) (p : Place) → IsWithin bytes p →
    header_at bytes p ≡ record { name = drop p.name (take p.value (take p.end bytes)); value = drop p.value (take p.end bytes) }
got bytes p w =
    let a : take p.value (take p.end bytes) ≡ take p.value bytes = take-take p.value p.end bytes w.1 in
    let b : drop p.name (take p.value bytes) ≡ take (p.value - p.name) (drop p.name bytes) = ap (λ (n : ℕ). drop p.name (take n bytes)) (omega (arith, w.0)) ∙ drop-take p.name (p.value - p.name) bytes in
    let c : drop p.value (take p.end bytes) ≡ take (p.end - p.value) (drop p.value bytes) = ap (λ (n : ℕ). drop p.value (take n bytes)) (omega (arith, w.1)) ∙ drop-take p.value (p.end - p.value) bytes in
    rw (a, b, c) refl

pub pushed : (bytes name value one all : List ℕ) (ps qs : List Place) (start middle stop : ℕ) → AreWithin bytes ps →
    one ≡ bytes ++ name → all ≡ one ++ value → start ≡ length bytes → middle ≡ length one → stop ≡ length all → qs ≡ ps ++ record { name = start; value = middle; end = stop } ∷ [] →
    AreWithin all qs × (headers_at all qs ≡ headers_at bytes ps ++ record { name = name; value = value } ∷ [])
pushed bytes name value one all ps qs start middle stop w e1 e2 s m t e3 =
    rw (e3, s, m, t, e2, e1) (pushed_within bytes name value ps w, pushed_headers bytes name value ps w)

pub got_at : (bytes : List ℕ) (ps : List Place) (i : ℕ) (p : Place) → i < length ps → p ≡ get_or ps i p → AreWithin bytes ps → IsWithin bytes p × (slice_get (headers_at bytes ps) i ≡ Some (header_at bytes p))
got_at bytes [] i p lt e w = absurd (omega (arith, lt))
got_at bytes (q ∷ ps) zero p lt e w = (subst (λ (x : Place). IsWithin bytes x) (sym e) w.0, ap (λ (x : Place). Some (header_at bytes x)) (sym e))
got_at bytes (q ∷ ps) (suc i) p lt e w = got_at bytes ps i p (omega (arith, lt)) e w.1

pub drop_by : (hs : List HeaderText) (i : ℕ) (h : HeaderText) → slice_get hs i ≡ Some h → drop i hs ≡ h ∷ drop (suc i) hs
drop_by [] i h e = absurd cc
drop_by (x ∷ hs) zero h e = let p : x ≡ h = cc in ap (λ (y : HeaderText). y ∷ hs) p
drop_by (x ∷ hs) (suc i) h e = drop_by hs i h e

pub text_at : (hs : List HeaderText) (i : ℕ) (h : HeaderText) → slice_get hs i ≡ Some h → headers_text (drop i hs) ≡ header_text h ++ headers_text (drop (i + 1) hs)
unfolding headers_text
text_at hs i h e = let s : suc i ≡ i + 1 = omega arith in ap (λ (l : List HeaderText). headers_text l) (drop_by hs i h e) ∙ ap (λ (n : ℕ). header_text h ++ headers_text (drop n hs)) s

pub text_step : (out new all : List ℕ) (hs : List HeaderText) (i : ℕ) (h : HeaderText) → slice_get hs i ≡ Some h → new ≡ out ++ header_text h → out ++ headers_text (drop i hs) ≡ all → new ++ headers_text (drop (i + 1) hs) ≡ all
text_step out new all hs i h e n v = ap (λ (l : List ℕ). l ++ headers_text (drop (i + 1) hs)) n ∙ append_assoc out (header_text h) (headers_text (drop (i + 1) hs)) ∙ ap (λ (l : List ℕ). out ++ l) (sym (text_at hs i h e)) ∙ v

pub text_fits : (out all : List ℕ) (hs : List HeaderText) (i : ℕ) (h : HeaderText) → slice_get hs i ≡ Some h → out ++ headers_text (drop i hs) ≡ all → length out + length (header_text h) ≤ length all
text_fits out all hs i h e v =
    let a = ap (λ (l : List ℕ). length l) v in
    let b = length-append out (headers_text (drop i hs)) in
    let c = ap (λ (l : List ℕ). length l) (text_at hs i h e) in
    let d = length-append (header_text h) (headers_text (drop (i + 1) hs)) in
    omega (arith, a, b, c, d)

pub text_end : (out all : List ℕ) (hs : List HeaderText) (i : ℕ) → length hs ≤ i → out ++ headers_text (drop i hs) ≡ all → out ≡ all
unfolding headers_text
text_end out all hs i n v = sym (append-nil out) ∙ ap (λ (l : List HeaderText). out ++ headers_text l) (sym (drop_all i hs n)) ∙ v
