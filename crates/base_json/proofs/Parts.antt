-- The parts of arrays and objects.
use Rattle.std.proofs.Common.{◌≡◌, ℕ, ◌+◌, List, [], ◌∷◌, length, map, get_or, Option, Some, None, option_map, arith, refl, sym, ap, ◌∙◌, add-one}
use Rattle.serde_json.specs.Data.{Data, Items, no_items, item, Members, no_members, member}
use Rattle.serde_json.specs.View.{view, items_of, items_view, members_view}
use Rattle.serde_json.specs.declared.value.Value.{Value}
use Rattle.serde_json.proofs.Views.{Entry}
use Rattle.base_json.specs.Shapes.{data_of_items, list_of, count_of_members, pair_in, triple_in}

pub data-items : (ds : List Data) → data_of_items (items_of ds) ≡ ds
data-items [] = refl
data-items (d ∷ ds) = ap (λ es. d ∷ es) (data-items ds)

-- the values of an array
pub list_view : (vs : List Value) → data_of_items (items_view vs) ≡ map view vs
list_view vs = data-items (map view vs)

pub ruleset arrays = (list_view)

pub members_counted : (es : List Entry) → count_of_members (members_view es) ≡ length es
members_counted [] = refl
members_counted (e ∷ es) = ap (λ n. n + 1) (members_counted es) ∙ add-one (length es)

pub ruleset objects = (members_counted)

pub pair_some : (vs : List Value) (a b : Value) → length vs ≡ 2 → a ≡ get_or vs 0 a → b ≡ get_or vs 1 b → Some (view a, view b) ≡ pair_in (map view vs)
pair_some [] a b h d e = absurd (omega arith)
pair_some (v ∷ []) a b h d e = absurd (omega arith)
pair_some (v ∷ w ∷ []) a b h d e = rw (d, e) refl
pair_some (v ∷ w ∷ x ∷ xs) a b h d e = absurd (omega arith)

pub pair_none : (vs : List Value) → (length vs ≡ 2 → ⊥) → None ≡ pair_in (map view vs)
pair_none [] h = refl
pair_none (v ∷ []) h = refl
pair_none (v ∷ w ∷ []) h = absurd (h refl)
pair_none (v ∷ w ∷ x ∷ xs) h = refl

pub triple_some : (vs : List Value) (a b c : Value) → length vs ≡ 3 → a ≡ get_or vs 0 a → b ≡ get_or vs 1 b → c ≡ get_or vs 2 c → Some (view a, (view b, view c)) ≡ triple_in (map view vs)
triple_some [] a b c h d e f = absurd (omega arith)
triple_some (v ∷ []) a b c h d e f = absurd (omega arith)
triple_some (v ∷ w ∷ []) a b c h d e f = absurd (omega arith)
triple_some (v ∷ w ∷ x ∷ []) a b c h d e f = rw (d, e, f) refl
triple_some (v ∷ w ∷ x ∷ y ∷ ys) a b c h d e f = absurd (omega arith)

pub triple_none : (vs : List Value) → (length vs ≡ 3 → ⊥) → None ≡ triple_in (map view vs)
triple_none [] h = refl
triple_none (v ∷ []) h = refl
triple_none (v ∷ w ∷ []) h = refl
triple_none (v ∷ w ∷ x ∷ []) h = absurd (h refl)
triple_none (v ∷ w ∷ x ∷ y ∷ ys) h = refl

pub ruleset pairs = (pair_some, pair_none, triple_some, triple_none)
