-- A presentation with its users, as its fields give it.
use Rattle.std.specs.Prelude.{option_map, string_bytes}
use Rattle.rtsp_content.specs.declared.allowed.AllowedRow.TheInside.{Inside}
use Rattle.rtsp_content.specs.AllowedValue.{AllowedValue}

abbrev pub row_value : Inside → AllowedValue
row_value r = record { name = string_bytes r.name; users = option_map (λ v. v.items) r.users }
