-- Parts that agree stay so.
use Rattle.std.proofs.Common.{◌≡◌, ℕ, ◌+◌, ◌<◌, Bool, true, false, not, List, [], ◌∷◌, length, drop, get_or, add-one, drop-cons, refl, sym, ◌∙◌, ap, subst, arith}
use Rattle.std.specs.Prelude.{Option, IsTrue, count_by, is_some, nat_lt}
use Rattle.std.specs.FinMap.{entries}
use Rattle.std.proofs.lemmas.Bool.{ltb-false}
use Rattle.std.proofs.lemmas.List.Sums.{sum_by-cons}
use Rattle.rtsp_record.specs.declared.holdings.Whole.{Whole}
use Rattle.rtsp_record.specs.declared.changes.Record.{Record}
use Rattle.rtsp_record.specs.declared.changes.Record.TheVariants.{Hold, Bind}
use Rattle.rtsp_record.specs.Books.{Book, after, after_all}
use Rattle.rtsp_record.specs.Sums.{one_if, amount, with_id, bindings}
use Rattle.rtsp_record.specs.Rules.{Allowed, AllAllowed}
use Rattle.rtsp_record.specs.Sound.{Sound}
use Rattle.rtsp_record.proofs.Sound.{sound-after}
use Rattle.rtsp_sessions.specs.Lookups.{with_id_in, with_startup_in, TakesNone, TakesNoMemory}
use Rattle.rtsp_sessions.specs.Plain.{FitsIn, is_open}
use Rattle.rtsp_sessions.proofs.Counted.{id_counted, startup_counted}
use Rattle.rtsp_sessions.proofs.FitLemmas.{all_fit}
use Rattle.rtsp_index.specs.declared.counts.Counts.{Counts}
use Rattle.rtsp_index.specs.declared.names.Names.{Names}
use Rattle.rtsp_index.specs.declared.pools.Pools.{Pools}
use Rattle.rtsp_index.specs.declared.table.SessionTable.{SessionTable}
use Rattle.rtsp_index.specs.Contents.{HasRoom}
use Rattle.rtsp_index.specs.Following.{Follows, is_bind, is_chan_hold}
use Rattle.rtsp_index.specs.Pooling.{ArePoolsOf}
use Rattle.rtsp_index.specs.Named.{AreNamesOf}
use Rattle.rtsp_index.specs.Counted.{AreCountsOf}
use Rattle.rtsp_index.specs.declared.parts.Parts.{Parts}
use Rattle.rtsp_index.specs.Agreeing.{Agree, HasRoomFor}
use Rattle.rtsp_index.proofs.TableLemmas.{less_room}

-- a record that is allowed where all parts agree
pub follows : (w : Whole) (b : Book) (pools : Pools) (names : Names) (counts : Counts) (r : Record) → Agree w b pools names counts → Allowed w b r → Follows w b r
follows w b pools names counts r ok h = record { sound = ok.sound; allowed = h }

pub follows_in : (w : Whole) (b : Book) (pools : Pools) (names : Names) (counts : Counts) (r : Record) → Agree w b pools names counts → Allowed w b r → Follows pools.pairs.whole b r
follows_in w b pools names counts r ok h = subst (λ w. Follows w b r) (sym ok.whole) (record { sound = ok.sound; allowed = h })

-- it fits its session
pub fits : (w : Whole) (b : Book) (r : Record) → Sound w b → Allowed w b r → FitsIn b r
fits w b r ok h = (all_fit w b (r ∷ []) ok (h, tt)).0

-- the parts after memory was taken
pub reserved : (w : Whole) (b c : Book) (pools more : Pools) (names next : Names) (counts now : Counts) → Agree w b pools names counts → c ≡ b → more.pairs.whole ≡ pools.pairs.whole
    → ((b : Book) → ArePoolsOf b pools → ArePoolsOf b more) → ((b : Book) → AreNamesOf b names → AreNamesOf b next) → ((b : Book) → AreCountsOf b counts → AreCountsOf b now) → Agree w c more next now
reserved w b c pools more names next counts now ok same whole keeps finds counted =
    subst (λ c. Agree w c more next now) (sym same)
    (record {
      sound = ok.sound;
      ports = ok.ports;
      small = ok.small;
      whole = whole ∙ ok.whole;
      pools = keeps b ok.pools;
      names = finds b ok.names;
      counts = counted b ok.counts;
    })

-- the parts after a record
pub made : (w : Whole) (b c : Book) (pools more : Pools) (names next : Names) (counts now : Counts) (r : Record) → Agree w b pools names counts → Allowed w b r → c ≡ after b r → more.pairs.whole ≡ pools.pairs.whole
    → ArePoolsOf (after b r) more → AreNamesOf (after b r) next → AreCountsOf (after b r) now → Agree w c more next now
made w b c pools more names next counts now r ok h same whole pooled named counted =
    subst (λ c. Agree w c more next now) (sym same)
    (record {
      sound = sound-after w b r ok.sound h;
      ports = ok.ports;
      small = ok.small;
      whole = whole ∙ ok.whole;
      pools = pooled;
      names = named;
      counts = counted;
    })

pub room_if_open : (t : SessionTable) (r : Record) → HasRoom t (one_if (is_open r)) → IsTrue (is_open r) → HasRoom t 1
room_if_open t r room h = subst (λ o. HasRoom t (one_if o)) h room

-- records that want no memory bind nothing and hold nothing
no_bind : (r : Record) → TakesNone r → one_if (is_bind r) ≡ 0
no_bind (Bind k) h = absurd h
no_bind r h = refl

no_chans : (r : Record) → TakesNone r → one_if (is_chan_hold r) ≡ 0
no_chans (Hold k) h = absurd h
no_chans r h = refl

pub none_binds : (rs : List Record) → TakesNoMemory rs → count_by is_bind rs ≡ 0
none_binds [] h = refl
none_binds (r ∷ rs) h = omega (arith, sum_by-cons (λ r. one_if (is_bind r)) r rs, none_binds rs h.1, no_bind r h.0)

pub none_holds : (rs : List Record) → TakesNoMemory rs → count_by is_chan_hold rs ≡ 0
none_holds [] h = refl
none_holds (r ∷ rs) h = omega (arith, sum_by-cons (λ r. one_if (is_chan_hold r)) r rs, none_holds rs h.1, no_chans r h.0)

abbrev pub Both : Type 0 → Type 0 → Type 0
Both A B = (A → B) × (B → A)

-- a test that none is there, and their number
none_there : (t : Bool) (n : ℕ) → not t ≡ nat_lt 0 n → Both (IsTrue t) (n ≡ 0)
none_there true n h = (λ _. omega (arith, ltb-false 0 n (sym h)), λ _. refl)
none_there false n h = (λ bad. absurd cc, λ none. absurd (cc (h, ap (nat_lt 0) none)))

-- no session has the id where none is counted
pub id_free : (b : Book) (i : ℕ) (o : Option ℕ) (t : Bool) → o ≡ with_id_in i (entries b) → is_some o ≡ not t → Both (IsTrue t) (amount (with_id i) b ≡ 0)
id_free b i o t is seen = none_there t (amount (with_id i) b) (sym seen ∙ ap is_some is ∙ id_counted b i)

-- no session has the startup number where none is counted
pub startup_free : (b : Book) (c i : ℕ) (o : Option ℕ) (t : Bool) → o ≡ with_startup_in c i (entries b) → is_some o ≡ not t → Both (IsTrue t) (amount (bindings c i) b ≡ 0)
startup_free b c i o t is seen = none_there t (amount (bindings c i) b) (sym seen ∙ ap is_some is ∙ startup_counted b c i)

-- The next of the records.

next_record : (cs : List Record) (k : ℕ) (r : Record) → k < length cs → r ≡ get_or cs k r → drop k cs ≡ r ∷ drop (k + 1) cs
next_record cs k r lt is = drop-cons cs k r lt ∙ (λ t. sym is t ∷ drop (sym (add-one k) t) cs)

pub allowed_next : (w : Whole) (b : Book) (cs : List Record) (k : ℕ) (r : Record) → k < length cs → r ≡ get_or cs k r → AllAllowed w b (drop k cs) → Allowed w b r × AllAllowed w (after b r) (drop (k + 1) cs)
allowed_next w b cs k r lt is h = subst (AllAllowed w b) (next_record cs k r lt is) h

pub made_next : (b : Book) (cs : List Record) (k : ℕ) (r : Record) → k < length cs → r ≡ get_or cs k r → after_all b (drop k cs) ≡ after_all (after b r) (drop (k + 1) cs)
made_next b cs k r lt is = ap (after_all b) (next_record cs k r lt is)

count_next : (p : Record → Bool) (cs : List Record) (k : ℕ) (r : Record) → k < length cs → r ≡ get_or cs k r → count_by p (drop k cs) ≡ count_by p (drop (k + 1) cs) + one_if (p r)
count_next p cs k r lt is = omega (arith, ap (count_by p) (next_record cs k r lt is), sum_by-cons (λ r. one_if (p r)) r (drop (k + 1) cs))

pub room_next : (p : Parts) (cs : List Record) (k : ℕ) (r : Record) → k < length cs → r ≡ get_or cs k r → HasRoomFor p (count_by is_open (drop k cs)) (count_by is_bind (drop k cs)) (count_by is_chan_hold (drop k cs))
    → HasRoomFor p (count_by is_open (drop (k + 1) cs) + one_if (is_open r)) (count_by is_bind (drop (k + 1) cs) + one_if (is_bind r)) (count_by is_chan_hold (drop (k + 1) cs) + one_if (is_chan_hold r))
room_next p cs k r lt is room =
    subst (λ n. HasRoomFor p n (count_by is_bind (drop (k + 1) cs) + one_if (is_bind r)) (count_by is_chan_hold (drop (k + 1) cs) + one_if (is_chan_hold r))) (count_next is_open cs k r lt is)
    (subst (λ n. HasRoomFor p (count_by is_open (drop k cs)) n (count_by is_chan_hold (drop (k + 1) cs) + one_if (is_chan_hold r))) (count_next is_bind cs k r lt is)
    (subst (λ n. HasRoomFor p (count_by is_open (drop k cs)) (count_by is_bind (drop k cs)) n) (count_next is_chan_hold cs k r lt is) room))

pub room_now : (p : Parts) (i j k x y z : ℕ) → HasRoomFor p (i + x) (j + y) (k + z) → HasRoomFor p x y z
room_now p i j k x y z room =
    record {
      rows = less_room p.sessions x i (subst (λ n. HasRoom p.sessions n) (sum_of i x) room.rows);
      ids = omega (arith, room.ids);
      startups = omega (arith, room.startups);
      chans = omega (arith, room.chans);
      bindings = omega (arith, room.bindings);
    }
  where
    sum_of : (n m : ℕ) → n + m ≡ m + n
    sum_of n m = omega arith
