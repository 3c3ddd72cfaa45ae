-- What a borrowed header shows.
use Rattle.rtsp_grammar.specs.Header.{HeaderText}
use Rattle.rtsp_grammar.specs.declared.header.Header.{Header}

abbrev pub shown : Header → HeaderText
shown h = record { name = h.name.now; value = h.value.now }
