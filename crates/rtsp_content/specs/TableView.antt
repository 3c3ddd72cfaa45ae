-- The table, as its fields give it.
use Rattle.rtsp_content.specs.declared.table.Table.TheInside.{Inside}
use Rattle.rtsp_content.specs.TableValue.{TableValue}

abbrev pub table_value : Inside → TableValue
table_value t = record { server = t.server; presentations = t.presentations.items; withdrawn = t.withdrawn.items; numbers = t.numbers.items }
