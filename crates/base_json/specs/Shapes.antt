-- What JSON data says, by its shape: none where it has another.
use Rattle.std.specs.Prelude.{ℕ, ◌+◌, Bool, true, false, if◌then◌else◌, nat_eq, nat_lt, List, [], ◌∷◌, ℤ, Option, Some, None, option_map, option_and_then}
use Rattle.std.specs.List.{list_all}
use Rattle.std.specs.Str.{chars}
use Rattle.serde_json.specs.Data.{Data, null, boolean, number, string, array, object, Items, no_items, item, Members, no_members, member}
use Rattle.serde_json.specs.Find.{get, as_number, as_str, as_array, as_u64, as_integer}

-- ---- shapes

abbrev pub data_of_items : Items → List Data
data_of_items no_items = []
data_of_items (item d ds) = d ∷ data_of_items ds

abbrev pub list_of : Data → Option (List Data)
list_of d = option_map data_of_items (as_array d)

abbrev pub count_of_members : Members → ℕ
count_of_members no_members = 0
count_of_members (member k d ms) = count_of_members ms + 1

-- an object with so many members
abbrev pub has_members : ℕ → Data → Bool
has_members n null = false
has_members n (boolean b) = false
has_members n (number x) = false
has_members n (string s) = false
has_members n (array ds) = false
has_members n (object ms) = nat_eq (count_of_members ms) n

abbrev pub pair_in : List Data → Option (Data × Data)
pair_in [] = None
pair_in (a ∷ []) = None
pair_in (a ∷ b ∷ []) = Some (a, b)
pair_in (a ∷ b ∷ c ∷ ds) = None

abbrev pub triple_in : List Data → Option (Data × (Data × Data))
triple_in [] = None
triple_in (a ∷ ds) = option_map (λ p. (a, p)) (pair_in ds)

abbrev pub pair_of : Data → Option (Data × Data)
pair_of d = option_and_then pair_in (list_of d)

abbrev pub triple_of : Data → Option (Data × (Data × Data))
triple_of d = option_and_then triple_in (list_of d)

-- what is made of the member with a key
abbrev pub member_as : {T : Type 0} → (Data → Option T) → List ℕ → Data → Option T
member_as f k d = option_and_then f (get k d)

-- what is made of each of a list
abbrev pub each_as : {T : Type 0} → (Data → Option T) → List Data → Option (List T)
each_as f [] = Some []
each_as f (d ∷ ds) = option_and_then (λ x. option_map (λ xs. x ∷ xs) (each_as f ds)) (f d)

abbrev pub list_as : {T : Type 0} → (Data → Option T) → Data → Option (List T)
list_as f d = option_and_then (each_as f) (list_of d)

abbrev pub when : {T : Type 0} → Bool → T → Option T
when b x = if b then Some x else None

-- ---- plain values

abbrev pub number_below : ℕ → Data → Option ℕ
number_below n d = option_and_then (λ k. when (nat_lt k n) k) (option_and_then as_u64 (as_number d))

abbrev pub offset_of : Data → Option ℕ
offset_of d = option_and_then as_u64 (as_number d)

abbrev pub whole_of : Data → Option ℤ
whole_of d = option_and_then as_integer (as_number d)

abbrev pub is_latin : List ℕ → Bool
is_latin cs = list_all (λ c. nat_lt c 256) cs

-- each character is the byte of its number
abbrev pub latin : List ℕ → Option (List ℕ)
latin text = when (is_latin (chars text)) (chars text)

abbrev pub text_of : Data → Option (List ℕ)
text_of d = option_and_then latin (as_str d)

abbrev pub flag_from : ℕ → Option Bool
flag_from n = if nat_eq n 0 then Some false else (if nat_eq n 1 then Some true else None)

-- 1 is true and 0 is false
abbrev pub flag_of : Data → Option Bool
flag_of d = option_and_then flag_from (offset_of d)
