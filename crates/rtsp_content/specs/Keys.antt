-- What a key of a TOML table says, or its fault.
use Rattle.std.specs.Prelude.{ℕ, Bool, false, ◌≤◌, ◌&&◌, ◌+◌, pos, nat_le, List, Option, Some, None, Ok, Err, if◌then◌else◌}
use Rattle.toml.specs.Data.{Data, Items, no_items, item, Members, integer, string, boolean, get_member, as_table, as_array}
use Rattle.rtsp_content.specs.declared.fault.TableFault.TheVariants.{Missing, BadValue}
use Rattle.rtsp_content.specs.declared.keys.Form.{Form}
use Rattle.rtsp_content.specs.Fault.{Read}
use Rattle.rtsp_text.specs.Results.{◌>>=◌}
use Rattle.rtsp_content.specs.Form.{has_form}

-- a whole number from `least` to `most`
abbrev pub as_number : ℕ → ℕ → Data → Read ℕ
as_number least most (integer (pos n)) = if nat_le least n && nat_le n most then Ok n else Err BadValue
as_number least most _ = Err BadValue

-- a number that has to be there
abbrev pub number_in : ℕ → ℕ → Option Data → Read ℕ
number_in least most None = Err Missing
number_in least most (Some d) = as_number least most d

abbrev pub number_at : List ℕ → ℕ → ℕ → Members → Read ℕ
number_at key least most ms = number_in least most (get_member key ms)

-- a number that may be missing
abbrev pub number_in_or : ℕ → ℕ → ℕ → Option Data → Read ℕ
number_in_or least most default None = Ok default
number_in_or least most default (Some d) = as_number least most d

abbrev pub number_at_or : List ℕ → ℕ → ℕ → ℕ → Members → Read ℕ
number_at_or key least most default ms = number_in_or least most default (get_member key ms)

-- a number that may be missing, and is none then
abbrev pub optional_number_in : ℕ → ℕ → Option Data → Read (Option ℕ)
optional_number_in least most None = Ok None
optional_number_in least most (Some d) = as_number least most d >>= (λ n. Ok (Some n))

abbrev pub optional_number_at : List ℕ → ℕ → ℕ → Members → Read (Option ℕ)
optional_number_at key least most ms = optional_number_in least most (get_member key ms)

-- yes or no, and no where nothing is said
abbrev pub as_flag : Data → Read Bool
as_flag (boolean flag) = Ok flag
as_flag _ = Err BadValue

abbrev pub flag_in : Option Data → Read Bool
flag_in None = Ok false
flag_in (Some d) = as_flag d

abbrev pub flag_at : List ℕ → Members → Read Bool
flag_at key ms = flag_in (get_member key ms)

-- the same, or else what is meant where the key is missing
abbrev pub flag_in_or : Bool → Option Data → Read Bool
flag_in_or default None = Ok default
flag_in_or default (Some d) = as_flag d

abbrev pub flag_at_or : List ℕ → Bool → Members → Read Bool
flag_at_or key default ms = flag_in_or default (get_member key ms)

-- a text of the form
abbrev pub as_text : Form → Data → Read (List ℕ)
as_text form (string text) = if has_form form text then Ok text else Err BadValue
as_text form _ = Err BadValue

abbrev pub text_in : Form → Option Data → Read (List ℕ)
text_in form None = Err Missing
text_in form (Some d) = as_text form d

abbrev pub text_at : List ℕ → Form → Members → Read (List ℕ)
text_at key form ms = text_in form (get_member key ms)

-- a text that may be missing, and is none then
abbrev pub optional_text_in : Form → Option Data → Read (Option (List ℕ))
optional_text_in form None = Ok None
optional_text_in form (Some d) = as_text form d >>= (λ text. Ok (Some text))

abbrev pub optional_text_at : List ℕ → Form → Members → Read (Option (List ℕ))
optional_text_at key form ms = optional_text_in form (get_member key ms)

-- what toml's accessor gave, or a value of another type
abbrev pub of_type : {T : Type 0} → Option T → Read T
of_type None = Err BadValue
of_type (Some x) = Ok x

-- a table
abbrev pub table_in : Option Data → Read Members
table_in None = Err Missing
table_in (Some d) = of_type (as_table d)

-- how many items
abbrev pub item_count : Items → ℕ
item_count no_items = 0
item_count (item d ds) = 1 + item_count ds

-- there are 1 to `most` items
abbrev pub AreFew : ℕ → Items → Type 0
AreFew most ds = (1 ≤ item_count ds) × (item_count ds ≤ most)

-- an array of 1 to `most` items
abbrev pub few : ℕ → Items → Read Items
few most ds = if nat_le 1 (item_count ds) && nat_le (item_count ds) most then Ok ds else Err BadValue

abbrev pub list_in : ℕ → Option Data → Read Items
list_in most None = Err Missing
list_in most (Some d) = of_type (as_array d) >>= few most
