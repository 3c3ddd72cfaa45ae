-- What a table of a configuration says of how the packets of a unit stand in its track's file.
use Rattle.std.specs.Prelude.{ℕ, codes, Option, Some, None, Ok, Err, if◌then◌else◌, bytes_eq}
use Rattle.toml.specs.Data.{Data, Members, string, get_member}
use Rattle.rtsp_content.specs.declared.fault.TableFault.TheVariants.{BadValue}
use Rattle.rtsp_content.specs.declared.limits.TheConstants.{MAX_PACKETS}
use Rattle.rtsp_content.specs.declared.packing.Packing.{Packing}
use Rattle.rtsp_content.specs.declared.packing.Packing.TheVariants.{Single, Slots, Equal}
use Rattle.rtsp_content.specs.Fault.{Read}
use Rattle.rtsp_text.specs.Results.{◌>>=◌}
use Rattle.rtsp_content.specs.Keys.{optional_number_at}

-- the packing that a word names, of units of m packets
abbrev pub as_packing : ℕ → Data → Read Packing
as_packing m (string text) = if bytes_eq text (codes "slots") then Ok (Slots m) else (if bytes_eq text (codes "equal") then Ok (Equal m) else Err BadValue)
as_packing m _ = Err BadValue

-- slots where no word is said
abbrev pub packing_in : ℕ → Option Data → Read Packing
packing_in m None = Ok (Slots m)
packing_in m (Some d) = as_packing m d

-- one packet where their number isn't said; then the word counts for nothing
abbrev pub packing_by : Option ℕ → Members → Read Packing
packing_by None ms = Ok Single
packing_by (Some m) ms = packing_in m (get_member (codes "packing") ms)

abbrev pub packing_of : Members → Read Packing
packing_of ms = optional_number_at (codes "packets") 1 MAX_PACKETS ms >>= (λ m. packing_by m ms)
