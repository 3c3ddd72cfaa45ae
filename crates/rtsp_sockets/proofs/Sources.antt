-- What is drawn of a pool and of its source.
use Rattle.std.proofs.Common.{◌≤◌, ℕ, ◌+◌, List, [], ◌++◌, Option, None, Some, Result, Ok, Err, sym, subst, ◌∙◌, ap, append_assoc, take, drop, take_all, length, arith}
use Rattle.std.specs.Prelude.{slice_range}
use Rattle.std.proofs.lemmas.List.{drop_all}
use Rattle.std.proofs.lemmas.List.Folds.{drop_split}
use Rattle.std.proofs.KnownBytes.{Consumes-trans}
use Rattle.std.specs.Io.KnownBytes.{prepend_known, Consumes, Keeps, ReadConsumes}
use Rattle.rtsp_sockets.specs.SourceWords.{Draws, Loses}

consumes_none : (a b : Option (List ℕ)) → Keeps a b → Consumes a b []
consumes_none None b h = tt
consumes_none (Some xs) None h = absurd h
consumes_none (Some xs) (Some ys) h = sym h

-- a read that filled the pool
pub read_whole : (a b : Option (List ℕ)) (pool : List ℕ) (n : ℕ) → length pool ≤ n → Consumes a b (take n pool) → Consumes a b pool
read_whole a b pool n full h = subst (Consumes a b) (take_all n pool full) h

-- any other
pub read_lost : {E : Type 0} (a b : Option (List ℕ)) (r : Result ℕ E) (buf : List ℕ) → ReadConsumes a b r buf → Loses a b
read_lost a b (Ok n) buf h = (take n buf, h.0)
read_lost a b (Err e) buf h = ([], consumes_none a b h)

-- the next bytes of the pool
pub draws_next : (a : Option (List ℕ)) (pool : List ℕ) (u n : ℕ) → Draws (prepend_known (drop u pool) a) (slice_range pool u (u + n)) (prepend_known (drop (u + n) pool) a)
draws_next None pool u n = ([], tt)
draws_next (Some xs) pool u n = ([], ap (λ l. l ++ xs) (drop_split pool u (u + n) (omega arith)) ∙ append_assoc (slice_range pool u (u + n)) (drop (u + n) pool) xs)

-- the pool was filled anew; what was left of the one before is left out
pub loses_anew : (a b : Option (List ℕ)) (left pool : List ℕ) → Consumes a b pool → Loses (prepend_known left a) (prepend_known (drop 0 pool) b)
loses_anew None b left pool h = (left, tt)
loses_anew (Some xs) None left pool h = absurd h
loses_anew (Some xs) (Some ys) left pool h = (left, ap (λ l. left ++ l) h)

-- the pool is spent
pub loses_left : (a b : Option (List ℕ)) (left pool : List ℕ) (n : ℕ) → length pool ≤ n → Loses a b → Loses (prepend_known left a) (prepend_known (drop n pool) b)
loses_left None b left pool n spent h = ([], tt)
loses_left (Some xs) None left pool n spent h = absurd h.1
loses_left (Some xs) (Some ys) left pool n spent h = (
  left ++ h.0,
  ap (λ l. left ++ l) h.1 ∙ sym (append_assoc left h.0 ys) ∙ ap (λ l. (left ++ h.0) ++ (l ++ ys)) (sym (drop_all n pool spent)),
)

-- some were left out before
pub draws_after : (a b c : Option (List ℕ)) (bytes : List ℕ) → Loses a b → Draws b bytes c → Draws a bytes c
draws_after a b c bytes lost drawn = (lost.0 ++ drawn.0, subst (Consumes a c) (sym (append_assoc lost.0 drawn.0 bytes)) (Consumes-trans a b c lost.0 (drawn.0 ++ bytes) lost.1 drawn.1))
