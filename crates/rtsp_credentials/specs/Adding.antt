-- One more user among those of a file before it.
use Rattle.std.specs.Prelude.{ℕ, Bool, not, is_some, List, [], ◌∷◌, ◌++◌, Result, Ok, Err, if◌then◌else◌}
use Rattle.rtsp_text.specs.Results.{◌>>=◌}
use Rattle.rtsp_credentials.specs.User.{User, user, secret_at}
use Rattle.rtsp_credentials.specs.declared.algorithm.Algorithm.{Algorithm}
use Rattle.rtsp_credentials.specs.declared.algorithm.Algorithm.TheVariants.{Md5, Sha256}
use Rattle.rtsp_credentials.specs.declared.users.UserTable.{UserTable}
use Rattle.rtsp_credentials.specs.declared.users_fault.UsersFault.{UsersFault}
use Rattle.rtsp_credentials.specs.declared.users_fault.UsersFault.TheVariants as faults

abbrev pub must : Bool → UsersFault → Result (Unit {0}) UsersFault
must holds fault = if holds then Ok tt else Err fault

-- with one more user at the end, whose name none of them has
unfoldable pub with_new : List User → List ℕ → List ℕ → Result (List User) UsersFault
with_new users name secret = do
  once ← must (not (is_some (secret_at users name))) faults.Twice
  Ok (users ++ user name secret ∷ [])

-- with one more user, by a hash function
abbrev pub table_with : UserTable → Algorithm → List ℕ → List ℕ → Result UserTable UsersFault
table_with table Md5 name secret = with_new table.md5 name secret >>= (λ users. Ok (record table { md5 = users }))
table_with table Sha256 name secret = with_new table.sha256 name secret >>= (λ users. Ok (record table { sha256 = users }))
