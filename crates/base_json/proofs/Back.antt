-- Data whose compact text is read again as this data.
use Rattle.std.proofs.Common.{◌≡◌, ℕ, ◌^◌, ◌<◌, ◌≤◌, Bool, true, false, List, [], ◌∷◌, ◌++◌, Some, Option, option_map, option_and_then, IsUtf8, refl, sym, ap, ◌∙◌, arith, append-nil, ltb-true}
use Rattle.std.specs.Prelude.{ℤ, pos, negsuc, int_lt, int_le, if◌then◌else◌}
use Rattle.std.proofs.lemmas.Bool.{leb-true}
use Rattle.std.proofs.lemmas.Fmt.{IsAscii-decimal, IsAscii-signed}
use Rattle.std.proofs.lemmas.Str.{IsUtf8-append, IsUtf8-nil, IsUtf8-from_ascii}
use Rattle.json.specs.Lex.{tokens}
use Rattle.json.specs.Token.{Token}
use Rattle.json.specs.Json as json
use Rattle.json.specs.Tree as tree
use Rattle.json.proofs.Printed.Decimals.{IsNumber-decimal, IsNumber-signed_decimal}
use Rattle.json.proofs.Printed.Tokens.{tokens-print}
use Rattle.json.proofs.Printed.Trees.{value-json_tokens, ArePrintable-json_tokens}
use Rattle.json.proofs.Printed.Utf8.{are_ascii, IsUtf8-are_ascii, IsUtf8-quoted, IsUtf8-boolean}
use Rattle.serde_json.specs.Data.{Data, null, boolean, number, string, array, object, negative, Items, no_items, item, Members, no_members, member, put, depth, items_depth, members_depth}
use Rattle.serde_json.specs.Find.{of_integer}
use Rattle.serde_json.specs.Read.{of_json, of_items, of_members, max_depth, read}
use Rattle.serde_json.specs.Written.{outline, items_outline, members_outline, compact_text, comma_if, items_text, members_text}
use Rattle.serde_json.proofs.Numbers.{number_of-decimal, number_of-negative}
use Rattle.serde_json.proofs.Texts.{print-outline}
use Rattle.base_json.specs.Written.{number_data, whole_data}

-- its text is UTF-8, its numbers are numbers of JSON, and its outline is read as it
pub record IsBack (d : Data) : Type 0 where
  pub utf8 : IsUtf8 (compact_text d)
  pub numbers : tree.HasNumbers (outline d)
  pub same : of_json (outline d) ≡ Some d

pub record AreBack (ds : Items) : Type 0 where
  pub utf8 : (later : Bool) → IsUtf8 (items_text later ds)
  pub numbers : tree.ItemsHaveNumbers (items_outline ds)
  pub same : of_items (items_outline ds) ≡ Some ds

-- members which, put into those that were found, give all
pub record MembersBack (ms found all : Members) : Type 0 where
  pub utf8 : (later : Bool) → IsUtf8 (members_text later ms)
  pub numbers : tree.MembersHaveNumbers (members_outline ms)
  pub same : of_members (members_outline ms) found ≡ Some all

-- ---- parts

pub null_back : IsBack null
null_back = record { utf8 = IsUtf8-are_ascii (compact_text null) refl; numbers = tt; same = refl }

pub boolean_back : (b : Bool) → IsBack (boolean b)
boolean_back b = record { utf8 = IsUtf8-boolean b; numbers = tt; same = refl }

pub word_back : (w : List ℕ) → are_ascii w ≡ true → IsBack (string w)
word_back w e = record { utf8 = IsUtf8-quoted w (IsUtf8-are_ascii w e); numbers = tt; same = refl }

pub string_back : (s : List ℕ) → IsUtf8 s → IsBack (string s)
string_back s u = record { utf8 = IsUtf8-quoted s u; numbers = tt; same = refl }

pub number_back : (n : ℕ) → n < 2 ^ 64 → IsBack (number_data n)
number_back n h = record { utf8 = IsUtf8-from_ascii _ (IsAscii-decimal n h); numbers = IsNumber-decimal n h; same = ap (option_map number) (number_of-decimal n h) }

pub negative_back : (n : ℕ) → n < 2 ^ 63 → IsBack (number (negative (negsuc n)))
negative_back n h =
    record { utf8 = IsUtf8-from_ascii _ (IsAscii-signed (negsuc n) h); numbers = IsNumber-signed_decimal (negsuc n) h; same = ap (option_map number) (number_of-negative n h) }

if_back : (b : Bool) (d e : Data) → (b ≡ true → IsBack d) → (b ≡ false → IsBack e) → IsBack (if b then d else e)
if_back true d e f g = f refl
if_back false d e f g = g refl

-- null where it does not fit
pub whole_back : (z : ℤ) → IsBack (whole_data z)
whole_back (pos n) =
    if_back (int_lt (pos n) (pos 0)) (if int_le (negsuc 9223372036854775807) (pos n) then number (of_integer (pos n)) else null)
    (if int_lt (pos n) (pos 18446744073709551616) then number (of_integer (pos n)) else null)
    (λ e. let l : n < 0 = ltb-true n 0 e in absurd (omega arith))
    (λ e. if_back (int_lt (pos n) (pos 18446744073709551616)) (number (of_integer (pos n))) null (λ f. number_back n (ltb-true n 18446744073709551616 f)) (λ f. null_back))
whole_back (negsuc n) =
    if_back (int_le (negsuc 9223372036854775807) (negsuc n)) (number (of_integer (negsuc n))) null
    (λ f. let l : n ≤ 9223372036854775807 = leb-true n 9223372036854775807 f in negative_back n (omega arith)) (λ f. null_back)

comma_utf8 : (later : Bool) → IsUtf8 (comma_if later)
comma_utf8 true = IsUtf8-are_ascii (44 ∷ []) refl
comma_utf8 false = IsUtf8-nil

-- ---- arrays

pub no_items_back : AreBack no_items
no_items_back = record { utf8 = λ later. IsUtf8-are_ascii (93 ∷ []) refl; numbers = tt; same = refl }

pub item_back : {d : Data} {ds : Items} → IsBack d → AreBack ds → AreBack (item d ds)
item_back {d} {ds} h k = record {
  utf8 = λ later. IsUtf8-append (comma_if later) (compact_text d ++ items_text true ds) (comma_utf8 later) (IsUtf8-append (compact_text d) (items_text true ds) h.utf8 (k.utf8 true));
  numbers = (h.numbers, k.numbers);
  same = ap (option_and_then (λ e. option_map (item e) (of_items (items_outline ds)))) h.same ∙ ap (option_map (item d)) k.same;
}

pub array_back : {ds : Items} → AreBack ds → IsBack (array ds)
array_back {ds} k = record {
  utf8 = IsUtf8-append (91 ∷ []) (items_text false ds) (IsUtf8-are_ascii (91 ∷ []) refl) (k.utf8 false);
  numbers = k.numbers;
  same = ap (option_map array) k.same;
}

-- ---- objects

pub no_members_back : {all : Members} → MembersBack no_members all all
no_members_back {all} = record { utf8 = λ later. IsUtf8-are_ascii (125 ∷ []) refl; numbers = tt; same = refl }

pub member_back : {k : List ℕ} {d : Data} {ms found all : Members} → are_ascii k ≡ true → IsBack d → MembersBack ms (put k d found) all → MembersBack (member k d ms) found all
member_back {k} {d} {ms} {found} {all} u h m =
    let value = IsUtf8-append (compact_text d) (members_text true ms) h.utf8 (m.utf8 true) in
    let behind = IsUtf8-append (58 ∷ []) (compact_text d ++ members_text true ms) (IsUtf8-are_ascii (58 ∷ []) refl) value in
    record {
      utf8 = λ later. IsUtf8-append (comma_if later) _ (comma_utf8 later) (IsUtf8-append _ (58 ∷ (compact_text d ++ members_text true ms)) (IsUtf8-quoted k (IsUtf8-are_ascii k u)) behind);
      numbers = (h.numbers, m.numbers);
      same = ap (option_and_then (λ e. of_members (members_outline ms) (put k e found))) h.same ∙ m.same;
    }

-- the keys of an object ascend
pub object_back : {ms : Members} → MembersBack ms no_members ms → IsBack (object ms)
object_back {ms} m = record {
  utf8 = IsUtf8-append (123 ∷ []) (members_text false ms) (IsUtf8-are_ascii (123 ∷ []) refl) (m.utf8 false);
  numbers = m.numbers;
  same = ap (option_map object) m.same;
}

-- ---- what is read

mutual
  outline_depth : (d : Data) → tree.depth (outline d) ≡ depth d
  outline_depth null = refl
  outline_depth (boolean b) = refl
  outline_depth (number n) = refl
  outline_depth (string s) = refl
  outline_depth (array ds) = omega (arith, items_outline_depth ds)
  outline_depth (object ms) = omega (arith, members_outline_depth ms)

  items_outline_depth : (ds : Items) → tree.items_depth (items_outline ds) ≡ items_depth ds
  items_outline_depth no_items = refl
  items_outline_depth (item d ds) = omega (arith, outline_depth d, items_outline_depth ds)

  members_outline_depth : (ms : Members) → tree.members_depth (members_outline ms) ≡ members_depth ms
  members_outline_depth no_members = refl
  members_outline_depth (member k d ms) = omega (arith, outline_depth d, members_outline_depth ms)

abbrev whole : Option (json.Json × List Token) → Option Data
whole o = option_and_then of_json (option_and_then (λ p. json.if_last p.0 p.1) o)

-- the compact text of such data is read as it
pub read_back : (d : Data) → IsBack d → depth d ≤ 127 → read (compact_text d) ≡ Some d
read_back d h l =
    let ts = tree.json_tokens (outline d) in
    let same : tokens (compact_text d) ≡ tree.json_tokens (outline d) = ap tokens (sym (print-outline d)) ∙ tokens-print ts (ArePrintable-json_tokens (outline d) h.numbers) in
    ap whole (ap (json.value max_depth) (same ∙ sym (append-nil ts)) ∙ value-json_tokens (outline d) max_depth [] (omega (arith, outline_depth d))) ∙ h.same
