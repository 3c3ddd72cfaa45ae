-- The users of a server.
use Rattle.std.specs.Prelude.{ℕ, Bool, true, false, not, ◌==◌, List, length, Option}
use Rattle.rtsp_credentials.specs.User.{User, secret_at}
use Rattle.rtsp_credentials.specs.declared.algorithm.Algorithm.{Algorithm}
use Rattle.rtsp_credentials.specs.declared.algorithm.Algorithm.TheVariants.{Md5, Sha256}
use Rattle.rtsp_credentials.specs.declared.users.Offer.{Offer}
use Rattle.rtsp_credentials.specs.declared.users.Offer.TheVariants as offers
use Rattle.rtsp_credentials.specs.declared.users.UserTable.{UserTable}

-- the users with a digest of a hash function
abbrev pub users_by : UserTable → Algorithm → List User
users_by table Md5 = table.md5
users_by table Sha256 = table.sha256

-- H(A1) of a user
abbrev pub secret_in : UserTable → List ℕ → Algorithm → Option (List ℕ)
secret_in table name algorithm = secret_at (users_by table algorithm) name

-- by whether some digest is of SHA-256, and whether one is of MD5
abbrev pub offer_of : Bool → Bool → Offer
offer_of true true = offers.Both
offer_of true false = offers.Sha256
offer_of false md5 = offers.Md5

abbrev pub has_users : UserTable → Algorithm → Bool
has_users table algorithm = not (length (users_by table algorithm) == 0)

-- the hash functions that the users' digests are of
abbrev pub offer_in : UserTable → Offer
offer_in table = offer_of (has_users table Sha256) (has_users table Md5)
