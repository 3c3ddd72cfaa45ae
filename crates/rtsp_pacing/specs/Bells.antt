-- Which pacer has a session.
use Rattle.std.specs.Prelude.{ℕ, ◌%◌, ◌*◌, ◌/◌, ◌^◌, List, [], ◌∷◌, length, Option, None, slice_get}
use Rattle.rtsp_pacing.specs.declared.bell.Bell.{Bell}

-- a number that looks drawn by chance, also where sessions come in steps of two or four (Knuth, multiplicative hashing)
abbrev pub spread : ℕ → ℕ
spread session = session * 11400714819323198485 % 2 ^ 64 / 2 ^ 32

-- the sessions are dealt out to the pacers by their numbers; without a pacer there is no bell
abbrev pub bell_of : List Bell → ℕ → Option Bell
bell_of [] session = None
bell_of (bell ∷ bells) session = slice_get (bell ∷ bells) (spread session % length (bell ∷ bells))
