-- Who lives, and who is to be visited.
use Rattle.std.specs.Prelude.{◌≡◌, ◌≢◌, ◌⊎◌, ℕ, IfNone, ◌+◌, ◌≤◌, ◌<◌, List, [], ◌∷◌, ◌++◌, Option, Some, None, min, refl}
use Rattle.std.specs.Coded.{Coded, code_by, coded×, coded_ℕ, coded_list}
use Rattle.rtsp_roster.specs.declared.roster.TheConstants.{IN_A_ROW}
use Rattle.slab.specs.Slab.{Slab, ContainsKey, slab_code}
use Rattle.rtsp_roster.specs.Lines.{Keys, IsIn, IsOut, TakesFirst, TakesOut, times}

-- what lives, by key; the keys of those of which was told and of those that come again, which are to be
-- visited; and how many of the first went before one of the others came, or as many as may
pub record Rosters (T : Type 0) : Type 0 where
  pub living : Slab T
  pub fresh : Keys
  pub again : Keys
  pub passed : ℕ

-- a line is stored as the pair of its fields, and a roster as the tuple of its own
abbrev pub keys_code : Coded Keys
keys_code = code_by (List ℕ × ℕ) (coded× (coded_list coded_ℕ) coded_ℕ) (λ k. (k.keys, k.room)) (λ p. record { keys = p.0; room = p.1 }) (λ _. refl)

abbrev pub rosters_code : {T : Type 0} → Coded T → Coded (Rosters T)
rosters_code {T} code =
    code_by
    (Slab T × (Keys × (Keys × ℕ)))
    (coded× (slab_code code) (coded× keys_code (coded× keys_code coded_ℕ)))
    (λ r. (r.living, (r.fresh, (r.again, r.passed))))
    (λ p. record { living = p.0; fresh = p.1.0; again = p.1.1.0; passed = p.1.1.1 })
    (λ _. refl)

-- a key is in the two lines once at most, and only if it lives; whoever lives has room in both
pub record IsRoster {T : Type 0} (living : Slab T) (fresh again : Keys) : Type 0 where
  pub once : (key : ℕ) → times key fresh.keys + times key again.keys ≤ 1
  pub fresh_lives : (key : ℕ) → IsIn key fresh.keys → ContainsKey living key
  pub again_lives : (key : ℕ) → IsIn key again.keys → ContainsKey living key
  pub fresh_room : (key : ℕ) → ContainsKey living key → key < fresh.room
  pub again_room : (key : ℕ) → ContainsKey living key → key < again.room

module _ {T : Type 0} where
  -- the key is in the queue, in one line or in the other
  abbrev pub IsQueued : Rosters T → ℕ → Type 0
  IsQueued r key = IsIn key r.fresh.keys ⊎ IsIn key r.again.keys

  -- the keys that are to be visited stay
  pub record KeepsLines (old new : Rosters T) : Type 0 where
    pub fresh : new.fresh.keys ≡ old.fresh.keys
    pub again : new.again.keys ≡ old.again.keys
    pub passed : new.passed ≡ old.passed

  -- what lives stays, and who went before
  pub record KeepsRest (old new : Rosters T) : Type 0 where
    pub living : new.living ≡ old.living
    pub passed : new.passed ≡ old.passed

  -- a key that lives comes behind the others of a line, unless it is in the queue; else nothing changes
  pub record Queues (old : Rosters T) (line : Keys) (key : ℕ) (new : Keys) : Type 0 where
    pub room : new.room ≡ line.room
    pub put : ContainsKey old.living key → (IsQueued old key → ⊥) → new.keys ≡ line.keys ++ key ∷ []
    pub queued : IsQueued old key → new.keys ≡ line.keys
    pub gone : (ContainsKey old.living key → ⊥) → new.keys ≡ line.keys

  -- a key is the first of those of which was told, one more of which went before the others
  abbrev pub FromFresh : Rosters T → Option ℕ → Rosters T → Type 0
  FromFresh old key new =
      TakesFirst old.fresh key new.fresh × (new.again ≡ old.again) × (new.passed ≡ min (old.passed + 1) IN_A_ROW)

  -- it is the first of those that come again, and none went before the next of them
  abbrev pub FromAgain : Rosters T → Option ℕ → Rosters T → Type 0
  FromAgain old key new = TakesFirst old.again key new.again × (new.fresh ≡ old.fresh) × (new.passed ≡ 0)

  -- a key is the first of one line or of the other: of those of which was told, but for where as many
  -- went before as may and others come again; there is none only where none is in either
  pub record NextIs (old : Rosters T) (key : Option ℕ) (new : Rosters T) : Type 0 where
    pub living : new.living ≡ old.living
    pub takes : FromFresh old key new ⊎ FromAgain old key new
    pub first : old.passed < IN_A_ROW → old.fresh.keys ≢ [] → FromFresh old key new
    pub others : IN_A_ROW ≤ old.passed → old.again.keys ≢ [] → FromAgain old key new
    pub none : IfNone key ((old.fresh.keys ≡ []) × (old.again.keys ≡ []))
