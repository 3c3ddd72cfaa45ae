-- The bytes of a text.
use Rattle.std.specs.Prelude.{ℕ, List}
use Rattle.rtsp_text.specs.declared.text.Bytes.{Bytes}
use Rattle.rtsp_text.specs.declared.text.Bytes.TheVariants.{Owned, Fixed}

-- whether they are its own or the program's
abbrev pub bytes_in : Bytes → List ℕ
bytes_in (Owned v) = v.items
bytes_in (Fixed b) = b.now
