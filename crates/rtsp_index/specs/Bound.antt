-- How many sessions are bound to a connection.
use Rattle.std.specs.Prelude.{◌≡◌, ◌==◌, ℕ, nat_eq}
use Rattle.indexmap.specs.IndexMap.{get}
use Rattle.rtsp_record.specs.Books.{Book}
use Rattle.rtsp_record.specs.Sums.{Measure, nothing, one_if, amount}
use Rattle.rtsp_pools.specs.Pools.{or_zero}
use Rattle.rtsp_index.specs.declared.bindings.Bindings.{Bindings}

-- bindings of any startup number on this connection
abbrev pub bindings_of : ℕ → Measure
bindings_of c = record nothing { binding = λ k. one_if (k.0 == c) }

-- how many are counted on this connection
abbrev pub bound_on : Bindings → ℕ → ℕ
bound_on n c = or_zero (get nat_eq n.counts c)

-- on each connection as many are counted as there are in the book
abbrev pub AreBindingsOf : Book → Bindings → Type 0
AreBindingsOf b n = (c : ℕ) → bound_on n c ≡ amount (bindings_of c) b
