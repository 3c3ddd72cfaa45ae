-- A file of users: lines name:realm:digest, as htdigest writes them.
use Rattle.std.specs.Prelude.{ℕ, Bool, true, not, ◌==◌, ◌&&◌, ◌||◌, nat_le, List, [], ◌∷◌, length, bytes_eq, Option, Some, None, Result, Ok, Err, if◌then◌else◌}
use Rattle.std.specs.List.{list_all}
use Rattle.rtsp_text.specs.Results.{◌>>=◌}
use Rattle.rtsp_text.specs.SplitOnce.{split_once}
use Rattle.rtsp_transport.specs.Split.{onto_first}
use Rattle.rtsp_credentials.specs.Adding.{must, table_with}
use Rattle.rtsp_credentials.specs.Users.{offer_in}
use Rattle.rtsp_credentials.specs.declared.algorithm.Algorithm.{Algorithm}
use Rattle.rtsp_credentials.specs.declared.algorithm.Algorithm.TheVariants.{Md5, Sha256}
use Rattle.rtsp_credentials.specs.declared.users.UserTable.{UserTable}
use Rattle.rtsp_credentials.specs.declared.users.Users.{Users}
use Rattle.rtsp_credentials.specs.declared.users_fault.UsersFault.{UsersFault}
use Rattle.rtsp_credentials.specs.declared.users_fault.UsersFault.TheVariants as faults

-- the lines of a text: what is between its line ends
unfoldable pub lines : List ℕ → List (List ℕ)
lines [] = [] ∷ []
lines (b ∷ bytes) = if b == 10 then [] ∷ lines bytes else onto_first (b ∷ []) (lines bytes)

abbrev pub lines_left : Option (List ℕ) → List (List ℕ)
lines_left None = []
lines_left (Some text) = lines text

-- a byte of a name or a realm, which means itself in quotes
abbrev pub is_name_byte : ℕ → Bool
is_name_byte b = nat_le 32 b && not (b == 34 || b == 92 || b == 127)

abbrev pub is_name : List ℕ → Bool
is_name text = not (length text == 0) && list_all is_name_byte text

abbrev pub is_digit : ℕ → Bool
is_digit b = (nat_le 48 b && nat_le b 57) || (nat_le 97 b && nat_le b 102)

-- the hash function whose digests have so many hexadecimal digits
abbrev pub algorithm_by : ℕ → Option Algorithm
algorithm_by digits = if digits == 32 then Some Md5 else if digits == 64 then Some Sha256 else None

-- the hash function that a text is a digest of
abbrev pub algorithm_of : List ℕ → Option Algorithm
algorithm_of text = if list_all is_digit text then algorithm_by (length text) else None

abbrev pub halves_or : Option (List ℕ × List ℕ) → Result (List ℕ × List ℕ) UsersFault
halves_or None = Err faults.NoLine
halves_or (Some p) = Ok p

abbrev pub algorithm_or : Option Algorithm → Result Algorithm UsersFault
algorithm_or None = Err faults.WrongDigest
algorithm_or (Some algorithm) = Ok algorithm

-- a line's name, realm and digest, with the hash function that it is of
pub record LineTexts : Type 0 where
  pub name : List ℕ
  pub realm : List ℕ
  pub digest : List ℕ
  pub algorithm : Algorithm

unfoldable pub line_of : List ℕ → Result LineTexts UsersFault
line_of line = do
  first ← halves_or (split_once 58 line)
  second ← halves_or (split_once 58 first.1)
  named ← must (is_name first.0) faults.WrongName
  ruled ← must (is_name second.0) faults.WrongRealm
  algorithm ← algorithm_or (algorithm_of second.1)
  Ok (record { name = first.0; realm = second.0; digest = second.1; algorithm = algorithm })

-- the realm and the users so far
pub record FoundUsers : Type 0 where
  pub realm : Option (List ℕ)
  pub users : UserTable

abbrev pub no_users : FoundUsers
no_users = record { realm = None; users = record { md5 = []; sha256 = [] } }

abbrev pub is_realm : Option (List ℕ) → List ℕ → Bool
is_realm None realm = true
is_realm (Some first) realm = bytes_eq first realm

-- with the user of one more line
unfoldable pub joined_by : FoundUsers → LineTexts → Result FoundUsers UsersFault
joined_by found line = do
  same ← must (is_realm found.realm line.realm) faults.OtherRealm
  users ← table_with found.users line.algorithm line.name line.digest
  Ok (record { realm = Some line.realm; users = users })

-- an empty line has none
unfoldable pub added : FoundUsers → List ℕ → Result FoundUsers UsersFault
added found line = if length line == 0 then Ok found else (line_of line >>= joined_by found)

unfoldable pub all_added : FoundUsers → List (List ℕ) → Result FoundUsers UsersFault
all_added found [] = Ok found
all_added found (line ∷ lines) = added found line >>= (λ (more : FoundUsers). all_added more lines)

abbrev pub users_among : FoundUsers → Option (List ℕ) → Result Users UsersFault
users_among found None = Err faults.Empty
users_among found (Some realm) = Ok (record { realm = realm; users = found.users; offer = offer_in found.users })

-- the users of a file
unfoldable pub users_of : List ℕ → Result Users UsersFault
users_of text = all_added no_users (lines text) >>= (λ (found : FoundUsers). users_among found found.realm)
