-- What sessions are found by.
use Rattle.std.specs.Prelude.{◌≡◌, ℕ, Bool, ◌&&◌, nat_eq, option_and_then, Option, Some}
use Rattle.std.specs.FinMap.{get}
use Rattle.rtsp_record.specs.Books.{Session, Book}

-- what a session is found by: its id, and its startup number with the connection
abbrev pub id_of : Session → Option ℕ
id_of f = Some f.id

abbrev pub startup_of : Session → Option (ℕ × ℕ)
startup_of f = f.binding

-- the name of a living session
abbrev pub name_at : {K : Type 0} → (Session → Option K) → Book → ℕ → Option K
name_at of b s = option_and_then of (get b s)

-- two startup numbers with their connections are equal
abbrev pub same_startup : ℕ × ℕ → ℕ × ℕ → Bool
same_startup k l = nat_eq k.0 l.0 && nat_eq k.1 l.1

-- each name finds the session that has it, and no other
pub record IsIndex {K : Type 0} (name : ℕ → Option K) (found : K → Option ℕ) : Type 0 where
  pub named : (k : K) (s : ℕ) → found k ≡ Some s → name s ≡ Some k
  pub finds : (k : K) (s : ℕ) → name s ≡ Some k → found k ≡ Some s
