-- What an outlet has after a frame.
use Rattle.std.proofs.Common.{◌≡◌, ◌≢◌, ◌++◌, ◌⊎◌, ◌∙◌, ℕ, List, ap, subst, append-nil, inl, inr}
use Rattle.rtsp_sockets.specs.declared.put.Put.{Put}
use Rattle.rtsp_sockets.specs.declared.put.Put.TheVariants as puts
use Rattle.rtsp_pacing.specs.Channels.{Puts, PutsAgain, Keeps, taken_of}

-- what tells a frame that was dropped from one whose connection is closed
abbrev is_dropped : Put → Type 0
is_dropped puts.Sent = ⊥
is_dropped puts.Kept = ⊥
is_dropped puts.Dropped = Unit {0}
is_dropped puts.Closed = ⊥

dropped≢closed : puts.Dropped ≢ puts.Closed
dropped≢closed e = subst is_dropped e tt

module _ {O : Type 0} (P : O → List ℕ → Put → O → Type 0) (F : O → O → Type 0) where
  again : (bytes : O → List ℕ) → Keeps P F bytes → (before after : O) (frame : List ℕ) (put : Put) → PutsAgain P F before frame put after → put ≢ puts.Closed → bytes after ≡ bytes before ++ taken_of frame put
  again bytes keeps before after frame put a open_still =
      let full : bytes a.full ≡ bytes before = keeps.put before frame puts.Dropped a.full a.dropped dropped≢closed ∙ append-nil (bytes before) in
      let offered : bytes a.offered ≡ bytes before = keeps.offer a.full a.offered a.offers ∙ full in
      keeps.put a.offered frame put after a.puts open_still ∙ ap (λ (z : List ℕ). z ++ taken_of frame put) offered

  pub in_order : (bytes : O → List ℕ) → Keeps P F bytes → (before after : O) (frame : List ℕ) (put : Put) → Puts P F before frame put after → put ≢ puts.Closed → bytes after ≡ bytes before ++ taken_of frame put
  in_order bytes keeps before after frame put (inl p) open_still = keeps.put before frame put after p.0 open_still
  in_order bytes keeps before after frame put (inr a) open_still = again bytes keeps before after frame put a open_still
