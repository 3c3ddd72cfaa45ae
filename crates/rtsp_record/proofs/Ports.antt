-- The covered ports and the free ones are all ports of the whole.
use Rattle.std.proofs.Common.{◌≡◌, ◌==◌, ℕ, ◌+◌, ◌*◌, ◌<◌, ◌≤◌, zero, suc, Bool, true, false, ◌||◌, List, [], ◌∷◌, refl, sym, ◌∙◌, ap, arith}
use Rattle.std.proofs.lemmas.Bool.{eq-eqb, ne_eqb, or_right}
use Rattle.std.proofs.lemmas.Bool.Decides.{nat_tests}
use Rattle.std.specs.Prelude.{Option, Some, None, sum_by}
use Rattle.std.proofs.lemmas.List.Sums.{sum_by-cons}
use Rattle.std.specs.FinMap.{empty, entries}
use Rattle.rtsp_record.specs.declared.holdings.Thing.{Thing}
use Rattle.rtsp_record.specs.declared.holdings.Thing.TheVariants.{Pair, Port, Rate}
use Rattle.rtsp_record.specs.declared.holdings.Whole.{Whole}
use Rattle.rtsp_record.specs.declared.changes.Entry.{Entry}
use Rattle.rtsp_record.specs.declared.changes.Record.{Record}
use Rattle.rtsp_record.specs.declared.changes.Record.TheVariants.{Hold, Free}
use Rattle.rtsp_record.specs.Records.{holds}
use Rattle.rtsp_record.specs.Books.{Session, Book, after, after_all, records_of, book_of}
use Rattle.rtsp_record.specs.declared.holdings.Admission.{Admission}
use Rattle.rtsp_record.specs.Sums.{Measure, nothing, one_if, if_there, of_admission, of_session, amount, UdpPort, covering}
use Rattle.rtsp_record.specs.Rules.{Allowed, AllAllowed, IsLegal}
use Rattle.rtsp_record.specs.Sound.{Sound}
use Rattle.rtsp_record.proofs.Balance.{balance}
use Rattle.rtsp_record.proofs.Options.{nought}
use Rattle.rtsp_record.proofs.Sound.{same_nat, amount-empty, sound-empty, sound-after}
use Rattle.rtsp_record.proofs.Back.{allowed-inverse, after-inverse}
use Rattle.rtsp_record.specs.Choices.{count_of, is_free}
use Rattle.rtsp_record.specs.Ports.{pairs, singles, ports, free_ports, AllPorts}

-- what counts things alone
abbrev things : (Thing → ℕ) → Measure
things g = record nothing { thing = g }

-- held things that cover the port
abbrev held_at : Book → ℕ → ℕ
held_at b q = amount (covering (UdpPort q)) b

abbrev counted : Whole → Book → ℕ
counted w b = amount ports b + free_ports w b

pub count_same : (step : ℕ) (f g : ℕ → Bool) (p n : ℕ) → ((q : ℕ) → p ≤ q → f q ≡ g q) → count_of step f p n ≡ count_of step g p n
unfolding count_of
count_same step f g p zero h = refl
count_same step f g p (suc n) h =
    let rest = count_same step f g (p + step) n (λ q le. h q (omega (arith, le))) in
    omega (arith, ap one_if (h p (omega arith)), rest)

-- none is held there
abbrev free_at : (ℕ → ℕ) → ℕ → Bool
free_at held q = held q == 0

-- where one port more is held, one less is free
free_less : (g h : ℕ → ℕ) (p n k x : ℕ) → k < n → x ≡ p + k → ((q : ℕ) → h q ≡ g q + one_if (q == x)) → g x ≡ 0 → count_of 1 (free_at h) p n + 1 ≡ count_of 1 (free_at g) p n
unfolding count_of
free_less g h p zero k x within at more free = absurd (omega (arith, within))
free_less g h p (suc n) zero x within at more free =
    let here : x ≡ p = omega (arith, at) in
    let held : h p ≡ 1 = omega (arith, more p, ap one_if (eq-eqb p x (sym here)), ap g here, free) in
    let off : free_at h p ≡ false = ne_eqb (h p) 0 (λ none. omega (arith, held, none)) in
    let on : free_at g p ≡ true = eq-eqb (g p) 0 (ap g (sym here) ∙ free) in
    let rest = count_same 1 (free_at h) (free_at g) (p + 1) n (λ q le. ap (λ m. m == 0) (omega (arith, more q, ap one_if (ne_eqb q x (λ e. omega (arith, e, here, le)))))) in
    omega (arith, ap one_if off, ap one_if on, rest)
free_less g h p (suc n) (suc k) x within at more free =
    let first : h p ≡ g p = omega (arith, more p, ap one_if (ne_eqb p x (λ e. omega (arith, e, at)))) in
    omega (arith, ap (λ m. one_if (m == 0)) first, free_less g h (p + 1) n k x (omega (arith, within)) (omega (arith, at)) more free)

-- what a pair covers is its first port and its second
two_ports : (q x : ℕ) → one_if (q == x || q == x + 1) ≡ one_if (q == x) + one_if (q == x + 1)
two_ports q x = by_first (q == x) refl
  where
    apart : (q x : ℕ) → (q == x) ≡ true → (q == x + 1) ≡ false
    apart q x h = grind (arith, nat_tests)

    by_first : (t : Bool) → (q == x) ≡ t → one_if (q == x || q == x + 1) ≡ one_if (q == x) + one_if (q == x + 1)
    by_first true is = omega (arith, ap (λ t. one_if (t || q == x + 1)) is, ap one_if is, ap one_if (apart q x is))
    by_first false is = omega (arith, ap (λ t. one_if (t || q == x + 1)) is, ap one_if is)

counted_same : (w : Whole) (b c : Book) → amount ports c ≡ amount ports b → ((q : ℕ) → held_at c q ≡ held_at b q) → counted w c ≡ counted w b
counted_same w b c held same =
    omega (arith, held, count_same 1 (free_at (held_at c)) (free_at (held_at b)) w.first_port (2 * w.pairs) (λ q _. ap (λ n. n == 0) (same q)))

counted_still : (w : Whole) (b c : Book) → ((g : Thing → ℕ) → amount (things g) c ≡ amount (things g) b) → counted w c ≡ counted w b
counted_still w b c same = counted_same w b c (same ports.thing) (λ q. same (covering (UdpPort q)).thing)

counted_hold : (w : Whole) (b : Book) (s a : ℕ) (x : Thing) → Allowed w b (holds s a x) → counted w (after b (holds s a x)) ≡ counted w b
counted_hold w b s a (Port x) h =
    let c = after b (holds s a (Port x)) in
    let place = h.1.in_whole in
    let free : held_at b x ≡ 0 = h.1.free (UdpPort x) (same_nat x) in
    let more : (q : ℕ) → held_at c q ≡ held_at b q + one_if (q == x) = λ q. omega (arith, balance (covering (UdpPort q)) b (holds s a (Port x)) h.0) in
    omega (arith, balance ports b (holds s a (Port x)) h.0, free_less (held_at b) (held_at c) w.first_port (2 * w.pairs) place.0 x place.1 place.2 more free)
counted_hold w b s a (Pair x) h =
    let c = after b (holds s a (Pair x)) in
    let place = h.1.in_whole in
    let i = place.0 in
    let first : held_at b x ≡ 0 = h.1.free (UdpPort x) (ap (λ t. t || x == x + 1) (same_nat x)) in
    let second : held_at b (x + 1) ≡ 0 = h.1.free (UdpPort (x + 1)) (or_right (x + 1 == x) (x + 1 == x + 1) (same_nat (x + 1))) in
    let middle : ℕ → ℕ = λ q. held_at b q + one_if (q == x) in
    let more : (q : ℕ) → held_at c q ≡ middle q + one_if (q == x + 1) = λ q. omega (arith, balance (covering (UdpPort q)) b (holds s a (Pair x)) h.0, two_ports q x) in
    let one = free_less (held_at b) middle w.first_port (2 * w.pairs) (2 * i) x (omega (arith, place.1)) place.2 (λ q. refl) first in
    let two = free_less middle (held_at c) w.first_port (2 * w.pairs) (2 * i + 1) (x + 1) (omega (arith, place.1)) (omega (arith, place.2)) more (omega (arith, second, ap one_if (ne_eqb (x + 1) x (λ e. omega (arith, e))))) in
    omega (arith, balance ports b (holds s a (Pair x)) h.0, one, two)
counted_hold w b s a x h =
    counted_same w b (after b (holds s a x)) (omega (arith, balance ports b (holds s a x) h.0)) (λ q. omega (arith, balance (covering (UdpPort q)) b (holds s a x) h.0))

counted_after : (w : Whole) (b : Book) (r : Record) → Sound w b → Allowed w b r → counted w (after b r) ≡ counted w b
counted_after w b (Hold k) ok h = counted_hold w b k.session k.admission k.thing h
counted_after w b (Free k) ok h =
    sym (counted_hold w (after b (Free k)) k.session k.admission k.thing (allowed-inverse w b (Free k) ok h)) ∙ ap (counted w) (after-inverse w b (Free k) ok h)
counted_after w b r ok h = counted_still w b (after b r) (λ g. omega (arith, balance (things g) b r h.0))

counted_all : (w : Whole) (b : Book) (rs : List Record) → Sound w b → AllAllowed w b rs → counted w (after_all b rs) ≡ counted w b
counted_all w b [] ok h = refl
counted_all w b (r ∷ rs) ok h = counted_all w (after b r) rs (sound-after w b r ok h.0) h.1 ∙ counted_after w b r ok h.0

all_free : (p n : ℕ) → count_of 1 (λ q. is_free empty (UdpPort q)) p n ≡ n
unfolding count_of
all_free p zero = refl
all_free p (suc n) =
    let on : one_if (is_free empty (UdpPort p)) ≡ 1 = ap (λ m. one_if (m == 0)) (amount-empty (covering (UdpPort p))) in
    omega (arith, on, all_free (p + 1) n)

pub ports_law : (w : Whole) (j : List Entry) → AllPorts w j
ports_law w j legal = counted_all w empty (records_of j) (sound-empty w) legal ∙ omega (arith, amount-empty ports, all_free w.first_port (2 * w.pairs))

-- A measure that counts as two others do, the first of them twice.

if_there_both : {X : Type 0} (f g h : X → ℕ) (o : Option X) → ((x : X) → h x ≡ 2 * f x + g x) → if_there h o ≡ 2 * if_there f o + if_there g o
if_there_both f g h None is = omega arith
if_there_both f g h (Some x) is = is x

sum_both : {X : Type 0} (f g h : X → ℕ) (xs : List X) → ((x : X) → h x ≡ 2 * f x + g x) → sum_by h xs ≡ 2 * sum_by f xs + sum_by g xs
sum_both f g h [] is = omega arith
sum_both f g h (x ∷ xs) is = omega (arith, sum_by-cons f x xs, sum_by-cons g x xs, sum_by-cons h x xs, is x, sum_both f g h xs is)

admission_both : (f g h : Thing → ℕ) (d : Admission) → ((x : Thing) → h x ≡ 2 * f x + g x) → of_admission (things h) d ≡ 2 * of_admission (things f) d + of_admission (things g) d
admission_both f g h d is = omega (arith, if_there_both (λ n. f (Rate n)) (λ n. g (Rate n)) (λ n. h (Rate n)) d.rate (λ n. is (Rate n)), if_there_both f g h d.address is, nought d.stream)

session_both : (f g h : Thing → ℕ) (s : Session) → ((x : Thing) → h x ≡ 2 * f x + g x) → of_session (things h) s ≡ 2 * of_session (things f) s + of_session (things g) s
session_both f g h s is =
    let each : (e : ℕ × Admission) → of_admission (things h) e.1 ≡ 2 * of_admission (things f) e.1 + of_admission (things g) e.1 = λ e. admission_both f g h e.1 is in
    omega (arith, sum_both (λ (e : ℕ × Admission). of_admission (things f) e.1) (λ (e : ℕ × Admission). of_admission (things g) e.1) (λ (e : ℕ × Admission). of_admission (things h) e.1) (entries s.admissions) each, nought s.binding)

-- a pair covers two ports, and a port by itself covers one
pub covered_by : (b : Book) → amount ports b ≡ 2 * amount pairs b + amount singles b
covered_by b =
    sum_both (λ (e : ℕ × Session). of_session pairs e.1) (λ (e : ℕ × Session). of_session singles e.1) (λ (e : ℕ × Session). of_session ports e.1) (entries b) (λ e. session_both pairs.thing singles.thing ports.thing e.1 each)
  where
    each : (x : Thing) → ports.thing x ≡ 2 * pairs.thing x + singles.thing x
    each (Pair p) = omega arith
    each x = omega arith

-- what pairs and single ports leave of all ports is free
pub ports_left : (w : Whole) (j : List Entry) → IsLegal w j → 2 * amount pairs (book_of j) + amount singles (book_of j) + free_ports w (book_of j) ≡ 2 * w.pairs
ports_left w j legal = omega (arith, ports_law w j legal, covered_by (book_of j))
