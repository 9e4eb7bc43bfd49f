-- Items of EQUIVALENCE and DATA are the same, whatever the lines.
use Rattle.std.proofs.Common.{◌≡◌, ℕ, Bool, true, false, List, [], ◌∷◌, map, Option, Some, None, refl, sym, ap, ◌∙◌, subst}
use Rattle.f77_ast.specs.Trees.{ExprTree, ExprTrees}
use Rattle.f77_ast.specs.Trees as tree
use Rattle.f77_ast.specs.Symbols.{number_from}
use Rattle.fx_lists.specs.declared.refusal.Refusal.{Refusal}
use Rattle.f77_names.specs.Entries.{EntryTree, find, place_in, has_shape}
use Rattle.f77_names.specs.Tables.{NameTable}
use Rattle.f77_checks.specs.Dimensions.{dims_in, const_value_in}
use Rattle.storage_data.specs.Units.{place_of, units_by, units_of_entry, units_of}
use Rattle.storage_data.specs.Items.{element_fault, item_fault, both, check_items, with_number, numbers_of, position_at, element_position, item_position}
use Rattle.roundtrip_programs.proofs.Found.{SameFound, noted_same}
use Rattle.roundtrip_programs.proofs.Bare.{bare, bares, bare_found, bare_table, find_bare, shape_bare}
use Rattle.roundtrip_programs.proofs.Sorts.{expr_same, subscripts_same}
use Rattle.roundtrip_programs.proofs.Shapes.{dims_bare, const_value_in_bare}

-- ---- names and units

names_bare : (es : List EntryTree) → map (λ e. e.name) es ≡ map (λ e. e.name) (bares es)
names_bare [] = refl
names_bare (e ∷ es) = ap (λ (xs : List (List ℕ)). e.name ∷ xs) (names_bare es)

pub place_bare : (t : NameTable) (x : List ℕ) → place_of t x ≡ place_of (bare_table t) x
unfolding place_in
place_bare t x = ap (λ xs. number_from 0 xs x) (names_bare t.entries)

units_entry_bare : (t : NameTable) (o : Option EntryTree) → units_of_entry t o ≡ units_of_entry (bare_table t) (bare_found o)
units_entry_bare t None = refl
units_entry_bare t (Some e) = ap units_by (dims_bare t e)

pub units_bare : (t : NameTable) (x : List ℕ) → units_of t x ≡ units_of (bare_table t) x
units_bare t x = units_entry_bare t (find x t.entries) ∙ ap (units_of_entry (bare_table t)) (sym (find_bare x t.entries))

-- ---- positions

numbers_bare : (t : NameTable) (es : ExprTrees) → numbers_of t es ≡ numbers_of (bare_table t) es
numbers_bare t tree.no_exprs = refl
numbers_bare t (tree.more_exprs e es) = ap (λ w. with_number w (numbers_of t es)) (const_value_in_bare t e) ∙ ap (with_number (const_value_in (bare_table t) e)) (numbers_bare t es)

element_position_bare : (t : NameTable) (o : Option EntryTree) (es : ExprTrees) → element_position t o es ≡ element_position (bare_table t) (bare_found o) es
element_position_bare t None es = refl
element_position_bare t (Some e) es = ap (λ ds. position_at ds (numbers_of t es)) (dims_bare t e) ∙ ap (position_at (dims_in (bare_table t) (bare e))) (numbers_bare t es)

pub position_bare : (t : NameTable) (i : ExprTree) → item_position t i ≡ item_position (bare_table t) i
position_bare t (tree.name x) = refl
position_bare t (tree.element x es) = element_position_bare t (find x t.entries) es ∙ ap (λ o. element_position (bare_table t) o es) (sym (find_bare x t.entries))
position_bare t (tree.int n) = refl
position_bare t (tree.log b) = refl
position_bare t (tree.paren e) = refl
position_bare t (tree.unary o e) = refl
position_bare t (tree.binary o a b) = refl
position_bare t (tree.chars x) = refl

-- ---- refusals

nothing_same : SameFound None None
nothing_same = record { same = refl }

element_fault_same : (b : Bool) (t : NameTable) (x : List ℕ) (es : ExprTrees) (l m : ℕ) → SameFound (element_fault b t x es l) (element_fault b (bare_table t) x es m)
element_fault_same true t x es l m = expr_same t (tree.element x es) l m nothing_same
element_fault_same false t x es l m = noted_same _ _ _ _ _ _ refl (subscripts_same t es l m nothing_same)

pub fault_same : (t : NameTable) (i : ExprTree) (l m : ℕ) → SameFound (item_fault t i l) (item_fault (bare_table t) i m)
fault_same t (tree.element x es) l m =
    subst (λ b. SameFound (element_fault (has_shape x t.entries) t x es l) (element_fault b (bare_table t) x es m)) (shape_bare x t.entries)
    (element_fault_same (has_shape x t.entries) t x es l m)
fault_same t (tree.name x) l m = nothing_same
fault_same t (tree.int n) l m = nothing_same
fault_same t (tree.log b) l m = nothing_same
fault_same t (tree.paren e) l m = nothing_same
fault_same t (tree.unary o e) l m = nothing_same
fault_same t (tree.binary o a b) l m = nothing_same
fault_same t (tree.chars x) l m = nothing_same

both_same : (a b f g : Option Refusal) → SameFound a b → SameFound f g → SameFound (both a f) (both b g)
both_same None None f g k h = h
both_same None (Some s) f g k h = let e = k.same in cc
both_same (Some r) None f g k h = let e = k.same in cc
both_same (Some r) (Some s) f g k h = noted_same _ _ _ _ _ _ refl h

pub items_same : (t : NameTable) (is : List ExprTree) (l m : ℕ) {f g : Option Refusal} → SameFound f g → SameFound (check_items t is l f) (check_items (bare_table t) is m g)
items_same t [] l m h = h
items_same t (i ∷ is) l m {f} {g} h = items_same t is l m (both_same (item_fault t i l) (item_fault (bare_table t) i m) f g (fault_same t i l m) h)
