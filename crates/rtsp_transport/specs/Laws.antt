-- The readers that specifications above this crate cite are the grammar of the header values.
use Rattle.std.specs.Prelude.{◌≡◌, ◌↔◌, ℕ, true, List}
use Rattle.rtsp_text.specs.Decimal.{SpellsNumber, number_of}
use Rattle.rtsp_text.specs.Options.{Finds}
use Rattle.rtsp_transport.specs.Picking.{Picks, pick_of}
use Rattle.rtsp_transport.specs.Reads.{Reads}
use Rattle.rtsp_transport.specs.Session.{SpellsSession, is_session_name, name_of}
use Rattle.rtsp_transport.specs.Tags.{SpellsTags, tags_of}
use Rattle.rtsp_transport.specs.Transport.{SpellsTransport}
use Rattle.rtsp_transport.specs.TransportReading.{transports_of}
use Rattle.rtsp_transport.specs.declared.spec.Spec.{Spec}

-- What is read of each header value is what it spells, and all that it spells is read.
pub record HeaderGrammar : Type 0 where
  pub transport : Reads SpellsTransport transports_of
  pub require : Reads SpellsTags tags_of
  pub session : (text name : List ℕ) → SpellsSession text name ↔ ((name_of text ≡ name) × (is_session_name name ≡ true))
  pub cseq : Finds (SpellsNumber 9) (number_of 9)
  pub pipelined_requests : Finds (SpellsNumber 8) (number_of 8)
  pub pick : (peer : ℕ) (specs : List Spec) → Picks peer specs (pick_of peer specs)
