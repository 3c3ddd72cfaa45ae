-- The parameters of a Digest authorization, by their names (RFC 7616 section 3.4).
use Rattle.std.specs.Prelude.{ℕ, List, codes, Option, Some, None, if◌then◌else◌}
use Rattle.rtsp_transport.specs.Names.{is_named}
use Rattle.rtsp_credentials.specs.declared.field.Field.{Field}
use Rattle.rtsp_credentials.specs.declared.field.Field.TheVariants.{Username, Realm, Nonce, Uri, Response, Algorithm, Qop, Nc, Cnonce}

-- the name, as nearly all write it
abbrev pub name_of : Field → List ℕ
name_of Username = codes "username"
name_of Realm = codes "realm"
name_of Nonce = codes "nonce"
name_of Uri = codes "uri"
name_of Response = codes "response"
name_of Algorithm = codes "algorithm"
name_of Qop = codes "qop"
name_of Nc = codes "nc"
name_of Cnonce = codes "cnonce"

-- the one of a name, whatever the case of its letters
abbrev pub field_named : List ℕ → Option Field
field_named name =
    if is_named name (codes "username") then Some Username
    else (if is_named name (codes "realm") then Some Realm
    else (if is_named name (codes "nonce") then Some Nonce
    else (if is_named name (codes "uri") then Some Uri
    else (if is_named name (codes "response") then Some Response
    else (if is_named name (codes "algorithm") then Some Algorithm
    else (if is_named name (codes "qop") then Some Qop
    else (if is_named name (codes "nc") then Some Nc
    else (if is_named name (codes "cnonce") then Some Cnonce
    else None))))))))
