-- The variables of affine forms and of the systems of conditions: tracked cells.
use Rattle.std.proofs.Common.{◌≡◌, ℕ, Bool, true, false, ◌&&◌, List, [], ◌∷◌, Option, Some, None, ℤ, pos, negsuc, ◌+ℤ◌, ◌*ℤ◌, refl, inr}
use Rattle.std.specs.Prelude.{◌-ℤ◌, if◌then◌else◌}
use Rattle.affine_systems.specs.declared.row.Var.{Var}
use Rattle.affine_systems.specs.declared.row.Var.TheVariants.{Cell}
use Rattle.affine_systems.specs.declared.row.Row.{Row}
use Rattle.affine_systems.specs.Terms.{add_terms, has_no_terms, Ascends}
use Rattle.affine_systems.specs.Rows.{row, system, combined_terms}
use Rattle.affine_systems.specs.Normal.{is_small, are_small}
use Rattle.affine_systems.proofs.Basics.{if_cases}
use Rattle.affine_systems.proofs.AscendLaws.{ascends-combined, ascends-add_terms}
use Rattle.f77_ast.specs.declared.expr.UnaryOp.{UnaryOp}
use Rattle.f77_ast.specs.declared.expr.UnaryOp.TheVariants.{Plus, Minus, Not}
use Rattle.f77_ast.specs.declared.expr.BinaryOp.{BinaryOp}
use Rattle.f77_ast.specs.declared.expr.BinaryOp.TheVariants.{Add, Sub, Mul, Div, Pow, Eq, Ne, Lt, Le, Gt, Ge, And, Or, Eqv, Neqv}
use Rattle.f77_ast.specs.Trees.{ExprTree}
use Rattle.f77_ast.specs.Trees as tree
use Rattle.f77_ast.specs.declared.constant.Constant.{Constant}
use Rattle.f77_ast.specs.declared.constant.Constant.TheVariants.{Int, Log}
use Rattle.f77_ast.specs.declared.constant.ConstantValue.{ConstantValue}
use Rattle.f77_ast.specs.declared.constant.ConstantValue.TheVariants.{Is, Faults, Varies}
use Rattle.f77_ast.specs.Constants.{const_value}
use Rattle.affine_forms.specs.declared.affine.Affine.{Affine}
use Rattle.affine_forms.specs.declared.conditions.Condition.{Condition}
use Rattle.affine_forms.specs.Scalars.{Scalars}
use Rattle.affine_forms.specs.Forms.{affine, limited, plus, times, sum_of, product, product_of, times_of, unary_form, binary_form, cell_form, name_form, constant_or, affine_of}
use Rattle.affine_forms.specs.Comparisons.{var_form, difference, at_most_row, below_row, same_row, one_row, at_most, below, same}
use Rattle.affine_forms.specs.Conditions.{no_rows, infeasible, of_truth, constant_condition, comparison, comparison_of_forms, unary_condition, binary_condition, condition_of}
use Rattle.laws_lines.specs.Variables.{EachVar}
use Rattle.laws_lines.proofs.RowVars.{each-add_terms, each-combined, Given}
use Rattle.laws_lines.proofs.SystemVars.{IsNeat, tidy_neat, meet_neat}

-- ---- forms

abbrev pub IsFormOf : (Var → Type 0) → Affine → Type 0
IsFormOf such f = Ascends f.terms × EachVar such f.terms

-- a form over some variables, where there is one
abbrev pub FormOf : (Var → Type 0) → Option Affine → Type 0
FormOf such None = Unit {0}
FormOf such (Some f) = IsFormOf such f

limited_of : (such : Var → Type 0) (f : Affine) → IsFormOf such f → FormOf such (limited f)
limited_of such f h = if_cases (FormOf such) (is_small f.constant && are_small f.terms) (Some f) None (λ e. h) (λ e. tt)

plus_of : (such : Var → Type 0) (f : Affine) (k : ℤ) (g : Affine) → IsFormOf such f → IsFormOf such g → FormOf such (plus f k g)
plus_of such f k g h i =
    limited_of such (affine (combined_terms (pos 1) f.terms k g.terms) (f.constant +ℤ (k *ℤ g.constant)))
    (ascends-combined (pos 1) f.terms k g.terms, each-combined such (pos 1) f.terms k g.terms h.1 i.1)

times_form : (such : Var → Type 0) (k : ℤ) (f : Affine) → IsFormOf such f → FormOf such (times k f)
times_form such k f h =
    limited_of such (affine (add_terms k f.terms []) (k *ℤ f.constant)) (ascends-add_terms k f.terms [] tt, each-add_terms such k f.terms [] h.1 tt)

sum_form : (such : Var → Type 0) (f : Option Affine) (k : ℤ) (g : Option Affine) → FormOf such f → FormOf such g → FormOf such (sum_of f k g)
sum_form such (Some f) k (Some g) h i = plus_of such f k g h i
sum_form such (Some f) k None h i = tt
sum_form such None k g h i = tt

product_form : (such : Var → Type 0) (f g : Affine) → IsFormOf such f → IsFormOf such g → FormOf such (product f g)
product_form such f g h i =
    if_cases (FormOf such) (has_no_terms f.terms) (times f.constant g) (if has_no_terms g.terms then times g.constant f else None)
    (λ e. times_form such f.constant g i)
    (λ e. if_cases (FormOf such) (has_no_terms g.terms) (times g.constant f) None (λ k. times_form such g.constant f h) (λ k. tt))

products_form : (such : Var → Type 0) (f g : Option Affine) → FormOf such f → FormOf such g → FormOf such (product_of f g)
products_form such (Some f) (Some g) h i = product_form such f g h i
products_form such (Some f) None h i = tt
products_form such None g h i = tt

times_maybe : (such : Var → Type 0) (k : ℤ) (f : Option Affine) → FormOf such f → FormOf such (times_of k f)
times_maybe such k (Some f) h = times_form such k f h
times_maybe such k None h = tt

unary_of : (such : Var → Type 0) (o : UnaryOp) (f : Option Affine) → FormOf such f → FormOf such (unary_form o f)
unary_of such Plus f h = h
unary_of such Minus f h = times_maybe such (negsuc 0) f h
unary_of such Not f h = tt

binary_of : (such : Var → Type 0) (o : BinaryOp) (f g : Option Affine) → FormOf such f → FormOf such g → FormOf such (binary_form o f g)
binary_of such Add f g h i = sum_form such f (pos 1) g h i
binary_of such Sub f g h i = sum_form such f (negsuc 0) g h i
binary_of such Mul f g h i = products_form such f g h i
binary_of such Div f g h i = tt
binary_of such Pow f g h i = tt
binary_of such Eq f g h i = tt
binary_of such Ne f g h i = tt
binary_of such Lt f g h i = tt
binary_of such Le f g h i = tt
binary_of such Gt f g h i = tt
binary_of such Ge f g h i = tt
binary_of such And f g h i = tt
binary_of such Or f g h i = tt
binary_of such Eqv f g h i = tt
binary_of such Neqv f g h i = tt

constant_form : (such : Var → Type 0) (w : ConstantValue) (f : Option Affine) → FormOf such f → FormOf such (constant_or w f)
constant_form such (Is (Int n)) f h = limited_of such (affine [] n) (tt, tt)
constant_form such (Is (Log b)) f h = h
constant_form such Faults f h = h
constant_form such Varies f h = h

-- the form of one variable
pub var_of : (such : Var → Type 0) (v : Var) → such v → IsFormOf such (var_form v)
var_of such v h = ((refl, tt, tt), (h, tt))

-- the names that stand for cells stand for such cells
abbrev pub NamesCells : (Var → Type 0) → Scalars → Type 0
NamesCells such k = (x : List ℕ) (c : ℕ) → k.cell x ≡ Some c → such (Cell c)

cell_of : (such : Var → Type 0) (o : Option ℕ) → ((c : ℕ) → o ≡ Some c → such (Cell c)) → FormOf such (cell_form o)
cell_of such None f = tt
cell_of such (Some c) f = ((refl, tt, tt), (f c refl, tt))

pub affine_over : (such : Var → Type 0) (k : Scalars) → NamesCells such k → (e : ExprTree) → FormOf such (affine_of k e)
affine_over such k n (tree.int m) = constant_form such (const_value k.value (tree.int m)) None tt
affine_over such k n (tree.log b) = constant_form such (const_value k.value (tree.log b)) None tt
affine_over such k n (tree.name x) = constant_form such (const_value k.value (tree.name x)) (name_form k x) (cell_of such (k.cell x) (λ c e. n x c e))
affine_over such k n (tree.element x es) = constant_form such (const_value k.value (tree.element x es)) None tt
affine_over such k n (tree.paren e) = constant_form such (const_value k.value (tree.paren e)) (affine_of k e) (affine_over such k n e)
affine_over such k n (tree.unary o e) = constant_form such (const_value k.value (tree.unary o e)) (unary_form o (affine_of k e)) (unary_of such o (affine_of k e) (affine_over such k n e))
affine_over such k n (tree.binary o a b) =
    constant_form such (const_value k.value (tree.binary o a b)) (binary_form o (affine_of k a) (affine_of k b))
    (binary_of such o (affine_of k a) (affine_of k b) (affine_over such k n a) (affine_over such k n b))
affine_over such k n (tree.chars x) = constant_form such (const_value k.value (tree.chars x)) None tt

-- ---- rows of two forms

pub compared_given : (such : Var → Type 0) (q : Bool) (f g : Affine) (b : ℤ) → EachVar such f.terms → EachVar such g.terms → Given such (row q (difference f g) b)
compared_given such q f g b h i = (ascends-combined (pos 1) f.terms (negsuc 0) g.terms, each-combined such (pos 1) f.terms (negsuc 0) g.terms h i)

one_neat : (such : Var → Type 0) (r : Row) → Given such r → IsNeat such (one_row r)
one_neat such r h = tidy_neat such (system (r ∷ []) false) (h, tt)

at_most_neat : (such : Var → Type 0) (f g : Affine) → IsFormOf such f → IsFormOf such g → IsNeat such (at_most f g)
at_most_neat such f g h i = one_neat such (at_most_row f g) (compared_given such false f g (g.constant -ℤ f.constant) h.1 i.1)

below_neat : (such : Var → Type 0) (f g : Affine) → IsFormOf such f → IsFormOf such g → IsNeat such (below f g)
below_neat such f g h i = one_neat such (below_row f g) (compared_given such false f g ((g.constant -ℤ f.constant) -ℤ pos 1) h.1 i.1)

same_neat : (such : Var → Type 0) (f g : Affine) → IsFormOf such f → IsFormOf such g → IsNeat such (same f g)
same_neat such f g h i = one_neat such (same_row f g) (compared_given such true f g (g.constant -ℤ f.constant) h.1 i.1)

-- ---- conditions

pub none_neat : (such : Var → Type 0) → IsNeat such no_rows
none_neat such = tt

pub infeasible_neat : (such : Var → Type 0) → IsNeat such infeasible
infeasible_neat such = ((inr refl, tt), tt)

-- both sides of a condition
abbrev pub ConditionOf : (Var → Type 0) → Condition → Type 0
ConditionOf such c = IsNeat such c.yes × IsNeat such c.no

truth_of : (such : Var → Type 0) (b : Bool) → ConditionOf such (of_truth b)
truth_of such true = (none_neat such, infeasible_neat such)
truth_of such false = (infeasible_neat such, none_neat such)

constant_cond : (such : Var → Type 0) (o : Option Constant) → ConditionOf such (constant_condition o)
constant_cond such (Some (Log b)) = truth_of such b
constant_cond such (Some (Int n)) = (tt, tt)
constant_cond such None = (tt, tt)

comparison_cond : (such : Var → Type 0) (o : BinaryOp) (f g : Affine) → IsFormOf such f → IsFormOf such g → ConditionOf such (comparison o f g)
comparison_cond such Lt f g h i = (below_neat such f g h i, at_most_neat such g f i h)
comparison_cond such Le f g h i = (at_most_neat such f g h i, below_neat such g f i h)
comparison_cond such Gt f g h i = (below_neat such g f i h, at_most_neat such f g h i)
comparison_cond such Ge f g h i = (at_most_neat such g f i h, below_neat such f g h i)
comparison_cond such Eq f g h i = (same_neat such f g h i, tt)
comparison_cond such Ne f g h i = (tt, same_neat such f g h i)
comparison_cond such Add f g h i = (tt, tt)
comparison_cond such Sub f g h i = (tt, tt)
comparison_cond such Mul f g h i = (tt, tt)
comparison_cond such Div f g h i = (tt, tt)
comparison_cond such Pow f g h i = (tt, tt)
comparison_cond such And f g h i = (tt, tt)
comparison_cond such Or f g h i = (tt, tt)
comparison_cond such Eqv f g h i = (tt, tt)
comparison_cond such Neqv f g h i = (tt, tt)

forms_cond : (such : Var → Type 0) (o : BinaryOp) (f g : Option Affine) → FormOf such f → FormOf such g → ConditionOf such (comparison_of_forms o f g)
forms_cond such o (Some f) (Some g) h i = comparison_cond such o f g h i
forms_cond such o (Some f) None h i = (tt, tt)
forms_cond such o None g h i = (tt, tt)

unary_cond : (such : Var → Type 0) (o : UnaryOp) (c : Condition) → ConditionOf such c → ConditionOf such (unary_condition o c)
unary_cond such Plus c h = (tt, tt)
unary_cond such Minus c h = (tt, tt)
unary_cond such Not c h = (h.1, h.0)

binary_cond : (such : Var → Type 0) (o : BinaryOp) (c d : Condition) (f g : Option Affine) → ConditionOf such c → ConditionOf such d → FormOf such f → FormOf such g → ConditionOf such (binary_condition o c d f g)
binary_cond such And c d f g h i j k = (meet_neat such c.yes d.yes h.0 i.0, tt)
binary_cond such Or c d f g h i j k = (tt, meet_neat such c.no d.no h.1 i.1)
binary_cond such Eq c d f g h i j k = forms_cond such Eq f g j k
binary_cond such Ne c d f g h i j k = forms_cond such Ne f g j k
binary_cond such Lt c d f g h i j k = forms_cond such Lt f g j k
binary_cond such Le c d f g h i j k = forms_cond such Le f g j k
binary_cond such Gt c d f g h i j k = forms_cond such Gt f g j k
binary_cond such Ge c d f g h i j k = forms_cond such Ge f g j k
binary_cond such Add c d f g h i j k = forms_cond such Add f g j k
binary_cond such Sub c d f g h i j k = forms_cond such Sub f g j k
binary_cond such Mul c d f g h i j k = forms_cond such Mul f g j k
binary_cond such Div c d f g h i j k = forms_cond such Div f g j k
binary_cond such Pow c d f g h i j k = forms_cond such Pow f g j k
binary_cond such Eqv c d f g h i j k = forms_cond such Eqv f g j k
binary_cond such Neqv c d f g h i j k = forms_cond such Neqv f g j k

pub condition_over : (such : Var → Type 0) (k : Scalars) → NamesCells such k → (e : ExprTree) → ConditionOf such (condition_of k e)
condition_over such k n (tree.int m) = (tt, tt)
condition_over such k n (tree.log b) = truth_of such b
condition_over such k n (tree.name x) = constant_cond such (k.value x)
condition_over such k n (tree.element x es) = (tt, tt)
condition_over such k n (tree.paren e) = condition_over such k n e
condition_over such k n (tree.unary o e) = unary_cond such o (condition_of k e) (condition_over such k n e)
condition_over such k n (tree.binary o a b) =
    binary_cond such o (condition_of k a) (condition_of k b) (affine_of k a) (affine_of k b) (condition_over such k n a) (condition_over such k n b) (affine_over such k n a) (affine_over such k n b)
condition_over such k n (tree.chars x) = (tt, tt)
