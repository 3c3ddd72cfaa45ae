-- What a configuration says of whom its presentations are there for.
use Rattle.std.specs.Prelude.{ℕ, Bool, not, nat_le, List, [], codes, Option, Some, None, Ok, Err, if◌then◌else◌}
use Rattle.std.specs.List.{list_any}
use Rattle.toml.specs.Data.{Data, Items, Members, string, get_member, as_table, as_array}
use Rattle.rtsp_text.specs.Results.{◌>>=◌}
use Rattle.rtsp_content.specs.declared.fault.TableFault.TheVariants.{NotToml, Missing, BadValue}
use Rattle.rtsp_content.specs.declared.keys.Form.TheVariants.{Name}
use Rattle.rtsp_content.specs.declared.limits.TheConstants.{MAX_ALLOWED, MAX_PRESENTATIONS}
use Rattle.rtsp_content.specs.Fault.{Read, must}
use Rattle.rtsp_content.specs.Keys.{of_type, item_count, table_in, list_in, text_at}
use Rattle.rtsp_content.specs.Tables.{each_from}
use Rattle.rtsp_content.specs.AllowedValue.{AllowedValue, names_users}

-- any text names a user
abbrev pub as_user : Data → Read (List ℕ)
as_user (string text) = Ok text
as_user _ = Err BadValue

-- the same whatever stands before it
abbrev pub alone : {T : Type 0} → (Data → Read T) → List T → Data → Read T
alone read before d = read d

-- a list of users, which may be empty
abbrev pub names_of : Items → Read (List (List ℕ))
names_of items = must (nat_le (item_count items) MAX_ALLOWED) BadValue >>= (λ _. each_from (alone as_user) [] items)

abbrev pub names_in : Data → Read (List (List ℕ))
names_in d = of_type (as_array d) >>= names_of

-- it may be missing, and is none then
abbrev pub users_named : Option Data → Read (Option (List (List ℕ)))
users_named None = Ok None
users_named (Some d) = names_in d >>= (λ users. Ok (Some users))

abbrev pub users_in : Members → Read (Option (List (List ℕ)))
users_in ms = users_named (get_member (codes "allow") ms)

-- what a table `[[presentation]]` says
abbrev pub row_of : Members → Read AllowedValue
row_of ms = do
  name ← text_at (codes "name") Name ms
  users ← users_in ms
  Ok (record { name = name; users = users })

abbrev pub as_row : Data → Read AllowedValue
as_row d = of_type (as_table d) >>= row_of

-- users are named only where `[server]` has some
abbrev pub with_users : Option Data → List AllowedValue → Read (Unit {0})
with_users (Some users) rows = Ok tt
with_users None rows = must (not (list_any names_users rows)) Missing

abbrev pub rows_of : Members → Read (List AllowedValue)
rows_of ms = do
  server ← table_in (get_member (codes "server") ms)
  items ← list_in MAX_PRESENTATIONS (get_member (codes "presentation") ms)
  rows ← each_from (alone as_row) [] items
  users ← with_users (get_member (codes "users") server) rows
  Ok rows

-- none where each is there for everybody
abbrev pub where_named : List AllowedValue → Option (List AllowedValue)
where_named rows = if list_any names_users rows then Some rows else None

-- what the whole of a document says
abbrev pub allowed_of : Members → Read (Option (List AllowedValue))
allowed_of ms = rows_of ms >>= (λ rows. Ok (where_named rows))

-- the same of a text, by what TOML makes of it
abbrev pub allowed_of_document : Option Members → Read (Option (List AllowedValue))
allowed_of_document None = Err NotToml
allowed_of_document (Some ms) = allowed_of ms
