-- What `serve` keeps and shows, as its fields give it.
use Rattle.std.specs.Prelude.{option_map, string_bytes}
use Rattle.rtsp_content.specs.declared.operation.Operation.TheInside.{Inside}
use Rattle.rtsp_content.specs.OperationValue.{OperationValue}

abbrev pub operation_value : Inside → OperationValue
operation_value o = record {
  journal = o.journal;
  access_log = o.access_log;
  status = option_map (λ text. string_bytes text) o.status;
  proxy = o.proxy.items;
  status_open = o.status_open;
  drain = o.drain;
  users = option_map (λ text. string_bytes text) o.users;
  watch = o.watch;
}
