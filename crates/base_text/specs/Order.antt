-- The order of the results of a base: by their modules, then by their kinds.
use Rattle.std.specs.Prelude.{ℕ, Bool, true, ◌&&◌, ◌||◌, nat_lt, nat_eq, List, [], ◌∷◌, length, unwrap_or}
use Rattle.f77_ast.specs.Symbols.{number_from}
use Rattle.session_texts.specs.pipsmake_rules.declared.kind.Kind.{Kind}
use Rattle.session_texts.specs.pipsmake_rules.Kinds.{number_of}
use Rattle.base_values.specs.Sizes.{kind_of}
use Rattle.base_text.specs.declared.base.StoredResult.{StoredResult}

-- ---- by a name and a kind

-- the place of a module among modules with these names
abbrev pub module_place : List (List ℕ) → List ℕ → ℕ
module_place names x = unwrap_or (number_from 0 names x) (length names)

-- a result of the first module and kind is before one of the second module and kind
abbrev pub comes_before : List (List ℕ) → List ℕ → Kind → List ℕ → Kind → Bool
comes_before names x k y j =
    nat_lt (module_place names x) (module_place names y) || (nat_eq (module_place names x) (module_place names y) && nat_lt (number_of k) (number_of j))

-- each is before the next, by the name and the kind of each, so that none of a module and kind comes twice
abbrev pub in_order_by : {A : Type 0} → (A → List ℕ) → (A → Kind) → List (List ℕ) → List A → Bool
in_order_by name kind names [] = true
in_order_by name kind names (a ∷ []) = true
in_order_by name kind names (a ∷ b ∷ cs) = comes_before names (name a) (kind a) (name b) (kind b) && in_order_by name kind names (b ∷ cs)

-- ---- results

abbrev pub result_name : StoredResult → List ℕ
result_name r = r.name

abbrev pub result_kind : StoredResult → Kind
result_kind r = kind_of r.value

-- the place of its module among modules with these names
abbrev pub place_of : List (List ℕ) → StoredResult → ℕ
place_of names r = module_place names (result_name r)

abbrev pub kind_place : StoredResult → ℕ
kind_place r = number_of (result_kind r)

abbrev pub is_before : List (List ℕ) → StoredResult → StoredResult → Bool
is_before names r q = comes_before names (result_name r) (result_kind r) (result_name q) (result_kind q)

abbrev pub are_in_order : List (List ℕ) → List StoredResult → Bool
are_in_order names rs = in_order_by result_name result_kind names rs
