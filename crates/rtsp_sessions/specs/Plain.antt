-- Rows in ascending order of their numbers, and a book that is kept so.
use Rattle.std.specs.Prelude.{◌≡◌, ℕ, ◌<◌, ◌≤◌, ◌^◌, ◌⊎◌, Bool, true, false, Option, None, option_map, List, [], ◌∷◌, length, IsSome, IsTrue, slice_index_or, refl}
use Rattle.std.specs.Ordering.{nat_cmp}
use Rattle.std.specs.FinMap.{get, entries, is_sorted, from_sorted, code}
use Rattle.std.specs.Coded.{Coded, code_by, coded×, coded_ℕ, coded_option}
use Rattle.rtsp_record.specs.declared.holdings.Whole.{Whole}
use Rattle.rtsp_record.specs.declared.holdings.Admission.{Admission}
use Rattle.rtsp_record.specs.declared.phases.Phase.{Phase}
use Rattle.rtsp_record.specs.declared.changes.Record.{Record}
use Rattle.rtsp_record.specs.declared.changes.Record.TheVariants.{Open, Close, Hold, Add}
use Rattle.rtsp_record.specs.Tables.{Table, set}
use Rattle.rtsp_record.specs.Records.{session_of}
use Rattle.rtsp_record.specs.Books.{Session, Book, after}
use Rattle.rtsp_record.specs.Rules.{Living}
use Rattle.rtsp_record.specs.Sound.{Sound}
use Rattle.rtsp_sessions.specs.Codes.{admissions_code}
use Rattle.rtsp_record.specs.Choices.{HasPorts}

-- each number is below those after it
abbrev pub InOrder : {X : Type 0} → List (ℕ × X) → Type 0
InOrder es = IsTrue (is_sorted nat_cmp es)

-- the table of these rows
abbrev pub table_of : {X : Type 0} → List (ℕ × X) → Table X
table_of es = from_sorted es

-- the i-th row has this number
pub record Stands {X : Type 0} (k : ℕ) (es : List (ℕ × X)) (i : ℕ) : Type 0 where
  pub within : i < length es
  pub is : (d : ℕ × X) → (slice_index_or es i d).0 ≡ k

-- no row has this number, and one would stand before the i-th
pub record Belongs {X : Type 0} (k : ℕ) (es : List (ℕ × X)) (i : ℕ) : Type 0 where
  pub within : i ≤ length es
  pub before : (j : ℕ) (d : ℕ × X) → j < i → (slice_index_or es j d).0 < k
  pub behind : (j : ℕ) (d : ℕ × X) → i ≤ j → j < length es → k < (slice_index_or es j d).0

-- rows in order, and the table of others with this at a number
pub record Written {X : Type 0} (es : List (ℕ × X)) (k : ℕ) (o : Option X) (gs : List (ℕ × X)) : Type 0 where
  pub in_order : InOrder gs
  pub table : table_of gs ≡ set (table_of es) k o

-- the admission has a row, or there is room for one
abbrev pub RoomUnder : Session → ℕ → Type 0
RoomUnder f a = IsSome (get f.admissions a) ⊎ (length (entries f.admissions) < 16)

-- a record that changes a living session, and for which it has room
abbrev pub RoomFor : Record → Session → Type 0
RoomFor (Open k) f = ⊥
RoomFor (Close k) f = ⊥
RoomFor (Hold k) f = RoomUnder f k.admission
RoomFor (Add k) f = RoomUnder f k.admission
RoomFor r f = Unit {0}

-- the session of a row, where there is one
abbrev pub session_in : Option (ℕ × Session) → Option Session
session_in o = option_map (λ e. e.1) o

-- what a plain book is
pub record PlainState : Type 0 where
  pub whole : Whole
  pub book : Book

-- how a session is stored
abbrev pub one_session_code : Coded Admission → Coded Phase → Coded Session
one_session_code admission phase =
    code_by (ℕ × (ℕ × (ℕ × (Phase × (Option (ℕ × ℕ) × Table Admission)))))
    (coded× coded_ℕ (coded× coded_ℕ (coded× coded_ℕ (coded× phase (coded× (coded_option (coded× coded_ℕ coded_ℕ)) (admissions_code admission))))))
    (λ f. (f.id, (f.conn, (f.expires, (f.phase, (f.binding, f.admissions))))))
    (λ p. record { id = p.0; conn = p.1.0; expires = p.1.1.0; phase = p.1.1.1.0; binding = p.1.1.1.1.0; admissions = p.1.1.1.1.1 })
    (λ _. refl)

-- how sessions by their numbers are stored
abbrev pub book_code : Coded Admission → Coded Phase → Coded Book
book_code admission phase = code coded_ℕ (one_session_code admission phase)

-- how a plain book is stored
abbrev pub plain_code : Coded Whole → Coded Admission → Coded Phase → Coded PlainState
plain_code whole admission phase =
    code_by (Whole × Book) (coded× whole (book_code admission phase)) (λ v. (v.whole, v.book)) (λ p. record { whole = p.0; book = p.1 }) (λ _. refl)

-- a record for which there is a place: an Open of a session that doesn't live, a Close of one that lives, or a change for which this has room
abbrev pub FitsIn : Book → Record → Type 0
FitsIn b (Open k) = get b k.session ≡ None
FitsIn b (Close k) = IsSome (get b k.session)
FitsIn b r = Living (get b (session_of r)) (RoomFor r)

-- each has its place after those before it
abbrev pub AllFit : Book → List Record → Type 0
AllFit b [] = Unit {0}
AllFit b (r ∷ rs) = FitsIn b r × AllFit (after b r) rs

-- an Open
abbrev pub is_open : Record → Bool
is_open (Open k) = true
is_open r = false

-- rows in order, few enough that no sum over them is too large
pub record AreRows (es : List (ℕ × Session)) : Type 0 where
  pub in_order : InOrder es
  pub few : length es < 2 ^ 32

-- the book is sound, and the whole has its ports
pub record IsPlain (w : Whole) (b : Book) : Type 0 where
  pub sound : Sound w b
  pub ports : HasPorts w
