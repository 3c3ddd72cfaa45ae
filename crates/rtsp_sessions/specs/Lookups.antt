-- What look-ups give, and which changes want no memory.
use Rattle.std.specs.Prelude.{◌==◌, ℕ, Bool, true, false, ◌&&◌, not, nat_le, nat_lt, if◌then◌else◌, List, [], ◌∷◌, map, filter, option_map, Option, Some, None}
use Rattle.std.specs.FinMap.{get}
use Rattle.rtsp_record.specs.declared.changes.Record.{Record}
use Rattle.rtsp_record.specs.declared.changes.Record.TheVariants.{Open, Hold, Add, Bind}
use Rattle.rtsp_record.specs.Books.{Session, Book}
use Rattle.rtsp_sessions.specs.declared.startups.Startup.{Startup}
use Rattle.rtsp_sessions.specs.Searches.{first_with, is_settled, is_expired, is_on}

-- a living session with its number
abbrev pub session_at : Book → ℕ → Option (ℕ × Session)
session_at b s = option_map (λ f. (s, f)) (get b s)

-- the changes for which a book wants no memory
abbrev pub TakesNone : Record → Type 0
TakesNone (Open l) = ⊥
TakesNone (Hold h) = ⊥
TakesNone (Add u) = ⊥
TakesNone (Bind k) = ⊥
TakesNone r = Unit {0}

-- none of them wants memory
abbrev pub TakesNoMemory : List Record → Type 0
TakesNoMemory [] = Unit {0}
TakesNoMemory (r ∷ rs) = TakesNone r × TakesNoMemory rs

-- the number of the first session that passes
abbrev pub number_of : (ℕ × Session → Bool) → List (ℕ × Session) → Option ℕ
number_of p es = option_map (λ e. e.0) (first_with p es)

-- the least not below a number
abbrev pub first_from : ℕ → List (ℕ × Session) → Option ℕ
first_from from es = number_of (λ e. nat_le from e.0) es

-- the number is above another, or there is no other
abbrev pub is_above : Option ℕ → ℕ → Bool
is_above None n = true
is_above (Some m) n = nat_lt m n

-- the numbers above another, or all, in ascending order
abbrev pub numbers_above : Option ℕ → List (ℕ × Session) → List ℕ
numbers_above m es = map (λ e. e.0) (filter (λ e. is_above m e.0) es)

-- a number among others in ascending order; where it is one of them they stay as they are
abbrev pub inserted : ℕ → List ℕ → List ℕ
inserted n [] = n ∷ []
inserted n (m ∷ ms) = if nat_lt n m then n ∷ m ∷ ms else (if n == m then m ∷ ms else m ∷ inserted n ms)

-- the least of which a SETUP is under way
abbrev pub unsettled_in : List (ℕ × Session) → Option ℕ
unsettled_in es = number_of (λ e. not (is_settled e.1)) es

-- the one with this id
abbrev pub with_id_in : ℕ → List (ℕ × Session) → Option ℕ
with_id_in id es = number_of (λ e. e.1.id == id) es

-- the binding is of this startup number on this connection
abbrev pub is_startup : ℕ → ℕ → Option (ℕ × ℕ) → Bool
is_startup c i None = false
is_startup c i (Some k) = k.0 == c && k.1 == i

-- the one with this startup number
abbrev pub with_startup_in : ℕ → ℕ → List (ℕ × Session) → Option ℕ
with_startup_in c i es = number_of (λ e. is_startup c i e.1.binding) es

-- the least that has expired
abbrev pub expired_in : ℕ → List (ℕ × Session) → Option ℕ
expired_in now es = number_of (is_expired now) es

-- the least on the connection
abbrev pub on_conn_in : ℕ → List (ℕ × Session) → Option ℕ
on_conn_in c es = number_of (is_on c) es

-- a startup number with its connection as a pair
abbrev pub as_binding : Option Startup → Option (ℕ × ℕ)
as_binding None = None
as_binding (Some u) = Some (u.conn, u.number)
