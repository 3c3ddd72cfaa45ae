-- What a configuration says for those who run the server.
use Rattle.std.specs.Prelude.{ℕ, true, List, codes, Option, Some, None, Ok, Err}
use Rattle.toml.specs.Data.{Members, get_member}
use Rattle.rtsp_content.specs.declared.fault.TableFault.TheVariants.{NotToml}
use Rattle.rtsp_content.specs.declared.keys.Form.TheVariants.{Folder, Address}
use Rattle.rtsp_content.specs.declared.limits.TheConstants.{MAX_DRAIN, DEFAULT_DRAIN}
use Rattle.rtsp_content.specs.Fault.{Read}
use Rattle.rtsp_text.specs.Results.{◌>>=◌}
use Rattle.rtsp_content.specs.Keys.{table_in, flag_at, flag_at_or, number_at_or, optional_text_at}
use Rattle.rtsp_content.specs.MediaPath.{media_folder}
use Rattle.rtsp_content.specs.Balancers.{balancers_of}
use Rattle.rtsp_content.specs.JournalFiles.{files_of}
use Rattle.rtsp_content.specs.OperationValue.{OperationValue}

-- what the whole of a document at the path says
abbrev pub operation_of : List ℕ → Members → Read OperationValue
operation_of path ms = do
  server ← table_in (get_member (codes "server") ms)
  folder ← optional_text_at (codes "journal_files") Folder server
  journal ← files_of (media_folder path folder) server
  access_log ← flag_at (codes "access_log") server
  status ← optional_text_at (codes "status") Address server
  proxy ← balancers_of server
  status_open ← flag_at (codes "status_open") server
  drain ← number_at_or (codes "drain") 1 MAX_DRAIN DEFAULT_DRAIN server
  users ← optional_text_at (codes "users") Folder server
  watch ← flag_at_or (codes "watch") true server
  Ok (record {
    journal = journal;
    access_log = access_log;
    status = status;
    proxy = proxy;
    status_open = status_open;
    drain = drain;
    users = media_folder path users;
    watch = watch;
  })

-- the same of a text, by what TOML makes of it
abbrev pub operation_of_document : List ℕ → Option Members → Read OperationValue
operation_of_document path None = Err NotToml
operation_of_document path (Some ms) = operation_of path ms
