-- What addresses say, without where their hosts are in memory.
use Rattle.rtsp_transport.specs.Address.{Place, Places}
use Rattle.rtsp_transport.specs.declared.address.Address.{Address}

abbrev pub place : Address → Place
place a = record { host = a.host.now; port = a.port }

abbrev pub places : Address × Address → Places
places p = record { rtp = place p.0; rtcp = place p.1 }
