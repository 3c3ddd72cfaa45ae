-- What sessions are searched by, and the least that passes.
use Rattle.std.specs.Prelude.{◌≡◌, ℕ, ◌<◌, ◌≤◌, Bool, true, not, nat_le, IfSome, List, Option, Some, None, slice_get}
use Rattle.std.specs.FinMap.{get}
use Rattle.rtsp_record.specs.Books.{Session, Book}
use Rattle.rtsp_sessions.specs.Searches.{is_settled, is_expired, is_on}
use Rattle.rtsp_index.specs.declared.search.Search.{Search}
use Rattle.rtsp_index.specs.declared.search.Search.TheVariants.{From, Expired, OnConn, Unsettled}

-- the session passes the search
abbrev pub passes : Search → ℕ × Session → Bool
passes (From n) e = nat_le n e.0
passes (Expired now) e = is_expired now e
passes (OnConn c) e = is_on c e
passes Unsettled e = not (is_settled e.1)

-- the session of this number lives, and passes
abbrev pub Passes : (ℕ × Session → Bool) → Book → ℕ → Type 0
Passes p b s = (f : Session) × (get b s ≡ Some f) × (p (s, f) ≡ true)

-- not more than this number
abbrev pub AtMost : Option ℕ → ℕ → Type 0
AtMost None n = ⊥
AtMost (Some m) n = m ≤ n

-- the least number of the first n that passes
pub record IsLeastOf (p : ℕ × Session → Bool) (b : Book) (es : List (ℕ × ℕ)) (n : ℕ) (best : Option ℕ) : Type 0 where
  pub found : IfSome best (Passes p b)
  pub least : (j : ℕ) (e : ℕ × ℕ) → j < n → slice_get es j ≡ Some e → Passes p b e.0 → AtMost best e.0
