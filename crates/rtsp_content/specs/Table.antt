-- The table of what is served, and the configuration that states it.
use Rattle.std.specs.Prelude.{ℕ, List, [], codes, Option, Some, None, Ok, Err}
use Rattle.toml.specs.Data.{Members, get_member}
use Rattle.rtsp_content.specs.declared.fault.TableFault.TheVariants.{NotToml}
use Rattle.rtsp_content.specs.declared.keys.Form.TheVariants.{Folder}
use Rattle.rtsp_content.specs.Fault.{Read}
use Rattle.rtsp_text.specs.Results.{◌>>=◌}
use Rattle.rtsp_content.specs.Keys.{table_in, list_in, optional_text_at}
use Rattle.rtsp_content.specs.declared.limits.TheConstants.{MAX_PRESENTATIONS}
use Rattle.rtsp_content.specs.MediaPath.{media_folder}
use Rattle.rtsp_content.specs.Server.{server_of}
use Rattle.rtsp_content.specs.Presentation.{presentations_from}
use Rattle.rtsp_content.specs.TableValue.{TableValue}

-- what the whole of a document at the path says
abbrev pub table_of : List ℕ → Members → Read TableValue
table_of path ms = do
  numbers ← table_in (get_member (codes "server") ms)
  server ← server_of numbers
  media ← optional_text_at (codes "media") Folder numbers
  items ← list_in MAX_PRESENTATIONS (get_member (codes "presentation") ms)
  presentations ← presentations_from (media_folder path media) [] items
  Ok (record { server = server; presentations = presentations; withdrawn = []; numbers = [] })

-- the same of a text, by what TOML makes of it
abbrev pub table_of_document : List ℕ → Option Members → Read TableValue
table_of_document path None = Err NotToml
table_of_document path (Some ms) = table_of path ms
