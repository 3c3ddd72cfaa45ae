-- What a borrowed count shows.
use Rattle.rtsp_credentials.specs.Digest.{CountText}
use Rattle.rtsp_credentials.specs.declared.count.Count.{Count}

abbrev pub shown : Count → CountText
shown c = record { nc = c.nc.now; cnonce = c.cnonce.now }
