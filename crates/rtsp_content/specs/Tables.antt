-- The tables of an array, read one after the other.
use Rattle.std.specs.Prelude.{ℕ, Bool, List, [], ◌∷◌, ◌++◌, Ok, bytes_eq}
use Rattle.std.specs.List.{list_any}
use Rattle.rtsp_text.specs.Results.{◌>>=◌}
use Rattle.toml.specs.Data.{Data, Items, Members, no_items, item, as_table}
use Rattle.rtsp_content.specs.Fault.{Read}
use Rattle.rtsp_content.specs.Keys.{of_type}

-- what the tables state after those before, each read beside them
unfoldable pub each_from : {T : Type 0} → (List T → Data → Read T) → List T → Items → Read (List T)
each_from read before no_items = Ok before
each_from read before (item d ds) = read before d >>= (λ next. each_from read (before ++ next ∷ []) ds)

-- the same of what has to be a table
abbrev pub in_table : {T : Type 0} → (List T → Members → Read T) → List T → Data → Read T
in_table said before d = of_type (as_table d) >>= said before

-- some one of them has the name
abbrev pub has_name : {T : Type 0} → (T → List ℕ) → List ℕ → List T → Bool
has_name name_of name ts = list_any (λ t. bytes_eq (name_of t) name) ts
