-- The table as contracts see it.
use Rattle.std.specs.Prelude.{ℕ, ◌≤◌, Bool, List, length}
use Rattle.rtsp_content.specs.declared.server.Server.{Server}
use Rattle.rtsp_content.specs.declared.limits.TheConstants.{MAX_PLACES}
use Rattle.rtsp_content.specs.Server.{IsWithinLimits}
use Rattle.rtsp_content.specs.Withdrawn.{AreOfferedDistinct}
use Rattle.rtsp_content.specs.PresentationValue.{PresentationValue, presentation_names}

pub record TableValue : Type 0 where
  pub server : Server
  -- what stands at each place
  pub presentations : List PresentationValue
  -- of each place up to some whether what stands there is offered no more
  pub withdrawn : List Bool
  -- of each place up to some its number
  pub numbers : List ℕ

-- the limits of the server's numbers and of how many places there are
pub record IsTableWithin (table : TableValue) : Type 0 where
  pub server : IsWithinLimits table.server
  pub presentations_least : 1 ≤ length table.presentations
  pub presentations_most : length table.presentations ≤ MAX_PLACES
  pub presentations_distinct : AreOfferedDistinct table.withdrawn (presentation_names table.presentations)
