-- The characters that the rules of fixed form name.
use Rattle.std.specs.Prelude.{ℕ, ◌-◌, List, Bool, ◌&&◌, ◌||◌, if◌then◌else◌, nat_le, nat_eq}
use Rattle.std.specs.List.{list_any}

abbrev pub tab : ℕ
tab = 9

abbrev pub line_feed : ℕ
line_feed = 10

abbrev pub carriage_return : ℕ
carriage_return = 13

abbrev pub space : ℕ
space = 32

abbrev pub apostrophe : ℕ
apostrophe = 39

abbrev pub is_one_of : List ℕ → ℕ → Bool
is_one_of cs b = list_any (nat_eq b) cs

abbrev pub is_space : ℕ → Bool
is_space b = nat_eq b space

abbrev pub is_tab : ℕ → Bool
is_tab b = nat_eq b tab

abbrev pub is_blank : ℕ → Bool
is_blank b = is_space b || is_tab b

-- 0 to 9
abbrev pub is_digit : ℕ → Bool
is_digit b = nat_le 48 b && nat_le b 57

-- the number that a digit stands for
abbrev pub digit_number : ℕ → ℕ
digit_number b = b - 48

-- printable ASCII, which runs from the blank to ~, or a tab
abbrev pub is_allowed : ℕ → Bool
is_allowed b = (nat_le space b && nat_le b 126) || is_tab b

-- a to z become A to Z
abbrev pub upper_case : ℕ → ℕ
upper_case b = if nat_le 97 b && nat_le b 122 then b - 32 else b
