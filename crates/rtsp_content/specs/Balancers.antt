-- The balancers of a configuration.
use Rattle.std.specs.Prelude.{ℕ, List, [], codes, Option, Some, None, Ok, Err}
use Rattle.toml.specs.Data.{Data, Members, string, get_member}
use Rattle.rtsp_text.specs.Results.{◌>>=◌}
use Rattle.rtsp_proxy.specs.Line.{address_of}
use Rattle.rtsp_content.specs.declared.fault.TableFault.TheVariants.{BadValue}
use Rattle.rtsp_content.specs.declared.limits.TheConstants.{MAX_BALANCERS}
use Rattle.rtsp_content.specs.Fault.{Read}
use Rattle.rtsp_content.specs.Keys.{of_type, list_in}
use Rattle.rtsp_content.specs.Tables.{each_from}

-- an IPv4 address in text
abbrev pub as_address : Data → Read ℕ
as_address (string text) = of_type (address_of text)
as_address _ = Err BadValue

-- the same whatever stands before it
abbrev pub beside : List ℕ → Data → Read ℕ
beside before d = as_address d

-- 1 to 16 addresses, or none where nothing is said
abbrev pub balancers_in : Option Data → Read (List ℕ)
balancers_in None = Ok []
balancers_in (Some d) = list_in MAX_BALANCERS (Some d) >>= each_from beside []

abbrev pub balancers_of : Members → Read (List ℕ)
balancers_of server = balancers_in (get_member (codes "proxy") server)
