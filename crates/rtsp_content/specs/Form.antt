-- The forms of the texts in a configuration.
use Rattle.std.specs.Prelude.{ℕ, ◌==◌, ◌&&◌, ◌||◌, Bool, true, not, List, length, nat_le}
use Rattle.std.specs.List.{list_all}
use Rattle.rtsp_content.specs.declared.limits.TheConstants.{MAX_NAME, MAX_ENCODING, MAX_FORMAT_PARAMETERS, MAX_FOLDER, MAX_ADDRESS}
use Rattle.rtsp_content.specs.declared.keys.Form.{Form}
use Rattle.rtsp_content.specs.declared.keys.Form.TheVariants.{Name, Encoding, FormatParameters, Folder, Address, Path}

-- a to z
abbrev pub is_lowercase : ℕ → Bool
is_lowercase b = nat_le 97 b && nat_le b 122

-- A to Z
abbrev pub is_uppercase : ℕ → Bool
is_uppercase b = nat_le 65 b && nat_le b 90

-- 0 to 9
abbrev pub is_digit : ℕ → Bool
is_digit b = nat_le 48 b && nat_le b 57

-- a to z, a digit, `-` or `_`
abbrev pub is_name_byte : ℕ → Bool
is_name_byte b = is_lowercase b || is_digit b || (b == 45) || (b == 95)

-- a letter, a digit or `-`
abbrev pub is_encoding_byte : ℕ → Bool
is_encoding_byte b = is_lowercase b || is_uppercase b || is_digit b || (b == 45)

-- a printable character of ASCII or the space, so neither a line end nor a control
abbrev pub is_parameter_byte : ℕ → Bool
is_parameter_byte b = nat_le 32 b && nat_le b 126

-- any byte of a text but the controls of ASCII
abbrev pub is_folder_byte : ℕ → Bool
is_folder_byte b = nat_le 32 b && not (b == 127)

-- a digit, `.` or `:`
abbrev pub is_address_byte : ℕ → Bool
is_address_byte b = is_digit b || (b == 46) || (b == 58)

-- how many of some bytes there may be: 1 to `most`
abbrev pub is_short : ℕ → List ℕ → Bool
is_short most text = nat_le 1 (length text) && nat_le (length text) most

-- a name: 1 to 64 of its bytes
abbrev pub is_name : List ℕ → Bool
is_name text = is_short MAX_NAME text && list_all is_name_byte text

-- an encoding's name: 1 to 32 of its bytes
abbrev pub is_encoding : List ℕ → Bool
is_encoding text = is_short MAX_ENCODING text && list_all is_encoding_byte text

-- the format parameters of an encoding: 1 to 1,024 of their bytes
abbrev pub is_format_parameters : List ℕ → Bool
is_format_parameters text = is_short MAX_FORMAT_PARAMETERS text && list_all is_parameter_byte text

-- the path of a folder: 1 to 1,024 of its bytes
abbrev pub is_folder : List ℕ → Bool
is_folder text = is_short MAX_FOLDER text && list_all is_folder_byte text

-- an address with a port: 1 to 21 of their bytes
abbrev pub is_address : List ℕ → Bool
is_address text = is_short MAX_ADDRESS text && list_all is_address_byte text

-- the text has the form; a path is taken as it is
abbrev pub has_form : Form → List ℕ → Bool
has_form Name text = is_name text
has_form Encoding text = is_encoding text
has_form FormatParameters text = is_format_parameters text
has_form Folder text = is_folder text
has_form Address text = is_address text
has_form Path text = true
