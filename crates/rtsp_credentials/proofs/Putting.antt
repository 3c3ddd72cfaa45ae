-- Parameters that are put by their names.
use Rattle.std.proofs.Common.{◌≡◌, ℕ, Bool, true, false, cond, List, Option, Some, None, refl}
use Rattle.rtsp_transport.specs.Names.{is_named}
use Rattle.rtsp_credentials.specs.declared.field.Field.{Field}
use Rattle.rtsp_credentials.specs.declared.field.Field.TheVariants.{Username, Realm, Nonce, Uri, Response, Algorithm, Qop, Nc, Cnonce}
use Rattle.rtsp_credentials.specs.Field.{name_of, field_named}
use Rattle.rtsp_credentials.specs.Parameters.{ParameterTexts, put}

abbrev pub put_found : ParameterTexts → List ℕ → Option Field → Option ParameterTexts
put_found ps value (Some field) = put ps (name_of field) value
put_found ps value None = Some ps

either : (ps : ParameterTexts) (value : List ℕ) (is : Bool) (field : Field) (rest : Option Field) (this others : Option ParameterTexts)
    → this ≡ put ps (name_of field) value → others ≡ put_found ps value rest → cond is this others ≡ put_found ps value (cond is (Some field) rest)
either ps value true field rest this others e f = e
either ps value false field rest this others e f = f

-- which of the nine is named decides
pub put_by : (ps : ParameterTexts) (name value : List ℕ) → put ps name value ≡ put_found ps value (field_named name)
unfolding put
put_by ps name value =
    go Username _ _ (go Realm _ _ (go Nonce _ _ (go Uri _ _ (go Response _ _ (go Algorithm _ _ (go Qop _ _ (go Nc _ _ (go Cnonce None (Some ps) refl)))))))) where
      go : (field : Field) (rest : Option Field) (others : Option ParameterTexts) → others ≡ put_found ps value rest
          → cond (is_named name (name_of field)) (put ps (name_of field) value) others ≡ put_found ps value (cond (is_named name (name_of field)) (Some field) rest)
      go field rest others e = either ps value (is_named name (name_of field)) field rest (put ps (name_of field) value) others refl e
