-- One more table of an array, read after those before it.
use Rattle.std.proofs.Common.{◌≡◌, ℕ, ◌+◌, ◌<◌, ◌≤◌, List, [], ◌∷◌, ◌++◌, length, drop, get_or, Ok, Err, refl}
use Rattle.std.proofs.lemmas.List.{drop_all}
use Rattle.toml.specs.Data.{Data}
use Rattle.toml.specs.declared.value.Value.{Value}
use Rattle.toml.specs.View.{view, items_view}
use Rattle.toml.proofs.Views.{items_view-drop}
use Rattle.rtsp_content.specs.declared.fault.TableFault.{TableFault}
use Rattle.rtsp_content.specs.Fault.{Read}
use Rattle.rtsp_content.specs.Tables.{each_from}

pub each_from-ok : {T : Type 0} (read : List T → Data → Read T) (before : List T) (vs : List Value) (i : ℕ) (v : Value) (t : T) → i < length vs
    → read before (view (get_or vs i v)) ≡ Ok t
    → each_from read before (items_view (drop i vs)) ≡ each_from read (before ++ t ∷ []) (items_view (drop (i + 1) vs))
unfolding each_from
each_from-ok read before vs i v t h ok = rw (items_view-drop vs i v h, ok) refl

pub each_from-err : {T : Type 0} (read : List T → Data → Read T) (before : List T) (vs : List Value) (i : ℕ) (v : Value) (e : TableFault) → i < length vs
    → read before (view (get_or vs i v)) ≡ Err e
    → each_from read before (items_view (drop i vs)) ≡ Err e
unfolding each_from
each_from-err read before vs i v e h err = rw (items_view-drop vs i v h, err) refl

pub each_from-end : {T : Type 0} (read : List T → Data → Read T) (before : List T) (vs : List Value) (i : ℕ) → length vs ≤ i
    → each_from read before (items_view (drop i vs)) ≡ Ok before
unfolding each_from
each_from-end read before vs i h = rw (drop_all i vs h) refl
