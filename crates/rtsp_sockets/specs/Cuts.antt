-- The parts of files that are read at once.
use Rattle.std.specs.Prelude.{ℕ, ◌-◌, ◌*◌, ◌/◌, min}
use Rattle.rtsp_sockets.specs.declared.cut.Cut.{Cut}

-- of the parts that a file of so many bytes is cut into, each as long but the last, the one that a place is in
abbrev pub cut_around : ℕ → ℕ → ℕ → ℕ → Cut
cut_around file at step len = record { file = file; at = at / step * step; len = min step (len - at / step * step) }
