-- What is seen of headers that are being made.
use Rattle.std.specs.Prelude.{◌-◌, length, vec_capacity}
use Rattle.rtsp_grammar.specs.Headers.{headers_at}
use Rattle.rtsp_grammar.specs.HeadersBuilder.{BuiltHeaders}
use Rattle.rtsp_grammar.specs.declared.header.HeadersBuilder.TheInside.{Inside}

-- the headers, and what is left of the two buffers' capacities
abbrev pub built_headers : Inside → BuiltHeaders
built_headers b = record {
  headers = headers_at b.bytes.items b.places.items;
  lines = vec_capacity b.places - length b.places.items;
  bytes = vec_capacity b.bytes - length b.bytes.items;
}
