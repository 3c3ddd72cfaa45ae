use Rattle.rtsp_dialect.proofs.Rewritten.{address_written}
use Rattle.rtsp_dialect.proofs.transport.write_address.Goals as goal

pub returns : goal.returns
returns c =
    address_written c.extend_from_slice-5.result c.args.out.now.items _ _ _ _ c.extend_from_slice-5.new.self.items c.args.rtp.now c.args.rtcp.now
    c.in_ok-extend_from_slice.ensures.items c.in_ok-extend_from_slice-2.ensures.items c.in_ok-extend_from_slice-3.ensures.items c.in_ok-extend_from_slice-4.ensures.items c.extend_from_slice-5.ensures.items
