-- How many ports, and how many pairs of them, are free.
use Rattle.std.specs.Prelude.{ℕ, ◌*◌}
use Rattle.rtsp_record.specs.declared.holdings.Whole.{Whole}
use Rattle.rtsp_record.specs.Books.{Book}
use Rattle.rtsp_record.specs.Choices.{count_of, is_port_free, is_pair_free}

-- how many pairs of the whole have both ports free
abbrev pub free_pairs : Whole → Book → ℕ
free_pairs w b = count_of 2 (is_pair_free b) w.first_port w.pairs

-- how many ports of the whole are free
abbrev pub free_ports : Whole → Book → ℕ
free_ports w b = count_of 1 (is_port_free b) w.first_port (2 * w.pairs)
