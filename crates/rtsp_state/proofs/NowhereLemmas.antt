-- A URI without a path names nothing, whatever is served.
use Rattle.std.proofs.Common.{◌≡◌, ℕ, ◌+◌, List, [], ◌∷◌, Some, None, refl, ap, ◌∙◌, lit<}
use Rattle.std.specs.Prelude.{codes}
use Rattle.std.specs.List.{position_from}
use Rattle.std.proofs.lemmas.List.Elements.{All-nil}
use Rattle.url.specs.declared.scheme.SchemeType.TheVariants.{NotSpecial}
use Rattle.url.specs.Path.{IsSegment}
use Rattle.url.specs.Parts.{Parts}
use Rattle.rtsp_content.specs.TrackValue.{TrackValue}
use Rattle.rtsp_content.specs.PresentationValue.{PresentationValue}
use Rattle.rtsp_content.specs.declared.found.Found.TheVariants.{Nothing}
use Rattle.rtsp_content.specs.Paths.{is_track_path, find_from}
use Rattle.rtsp_state.specs.Values.{uri_of}
use Rattle.rtsp_state.specs.OrderOfRefusals.{media_of}
use Rattle.rtsp_state.specs.PlainUri.{rtsp}
use Rattle.rtsp_state.proofs.PlainUriLemmas.{ArePlain, plain_parts, own_uri}
use Rattle.rtsp_state.specs.About.{nowhere, NamesNothing}

-- it has no segment
are_plain : ArePlain (codes "nowhere") None []
are_plain = record {
  some = lit< tt;
  named = refl;
  fits = tt;
  segments = record { segments = []; joined = refl; each = All-nil (IsSegment NotSpecial) };
}

abbrev url : Parts
url = plain_parts rtsp (codes "nowhere") None []

read : uri_of nowhere ≡ Some url
read = own_uri rtsp (codes "nowhere") None [] are_plain

-- each path begins with a slash
no_track : (p : PresentationValue) (i : ℕ) (ts : List TrackValue) → position_from (is_track_path p []) i ts ≡ None
no_track p i [] = refl
no_track p i (t ∷ ts) = no_track p (i + 1) ts

nothing_there : (numbers : List ℕ) (i : ℕ) (ps : List PresentationValue) → find_from numbers i ps [] ≡ Nothing
unfolding find_from
nothing_there numbers i [] = refl
nothing_there numbers i (p ∷ ps) = rw (no_track p 0 p.tracks, nothing_there numbers (i + 1) ps) refl

pub names_nothing : NamesNothing
names_nothing table = ap (media_of table) read ∙ rw (nothing_there table.numbers 0 table.presentations) refl
