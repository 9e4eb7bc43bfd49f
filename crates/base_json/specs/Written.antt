-- Lists, texts and numbers as JSON data.
use Rattle.std.specs.Prelude.{ℕ, if◌then◌else◌, List, ℤ, pos, negsuc, int_lt, int_le}
use Rattle.std.specs.Str.{encode_utf8_all}
use Rattle.serde_json.specs.Data.{Data, null, number, string, array, unsigned}
use Rattle.serde_json.specs.Find.{of_integer}
use Rattle.serde_json.specs.View.{items_of}

abbrev pub list_data : List Data → Data
list_data ds = array (items_of ds)

-- each byte is the character of that number
abbrev pub text_data : List ℕ → Data
text_data bytes = string (encode_utf8_all bytes)

abbrev pub number_data : ℕ → Data
number_data n = number (unsigned n)

-- null where it does not fit 64 bits
abbrev pub whole_data : ℤ → Data
whole_data z =
    if int_lt z (pos 0)
    then (if int_le (negsuc 9223372036854775807) z then number (of_integer z) else null)
    else (if int_lt z (pos 18446744073709551616) then number (of_integer z) else null)
