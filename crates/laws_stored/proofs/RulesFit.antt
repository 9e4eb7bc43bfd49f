-- Rules of transformers give systems that calls take.
use Rattle.std.proofs.Common.{ℕ, suc, arith, Bool, true, false, List, [], ◌∷◌, ◌++◌, Option, Some, None, ℤ, pos, negsuc, refl, inl, inr}
use Rattle.affine_systems.specs.declared.row.Row.{Row}
use Rattle.affine_systems.specs.declared.row.System.{System}
use Rattle.affine_systems.specs.Given.{Fits}
use Rattle.affine_systems.specs.Calls.{meet}
use Rattle.affine_systems.proofs.Basics.{if_cases}
use Rattle.affine_systems.proofs.AscendLaws.{ascends-combined}
use Rattle.hull_projection.specs.Hull.{hull}
use Rattle.hull_projection.proofs.ProjectLaws.{project_fits}
use Rattle.preconditions.specs.transformer_algebra.Renaming.{rename_all, push_rows}
use Rattle.preconditions.specs.transformer_algebra.Fresh.{fresh_over, above_rows}
use Rattle.f77_ast.specs.Trees.{ExprTree, ExprTrees}
use Rattle.f77_ast.specs.Trees as tree
use Rattle.f77_ast.specs.declared.constant.Constant.{Constant}
use Rattle.f77_ast.specs.declared.constant.Constant.TheVariants.{Int, Log}
use Rattle.f77_ast.specs.declared.expr.UnaryOp.{UnaryOp}
use Rattle.f77_ast.specs.declared.expr.UnaryOp.TheVariants.{Plus, Minus, Not}
use Rattle.f77_ast.specs.declared.expr.BinaryOp.{BinaryOp}
use Rattle.f77_ast.specs.declared.expr.BinaryOp.TheVariants.{Add, Sub, Mul, Div, Pow, Eq, Ne, Lt, Le, Gt, Ge, And, Or, Eqv, Neqv}
use Rattle.f77_ast.specs.Summaries.{SummaryTree}
use Rattle.affine_forms.specs.declared.affine.Affine.{Affine}
use Rattle.affine_forms.specs.declared.conditions.Condition.{Condition}
use Rattle.affine_forms.specs.Scalars.{Scalars}
use Rattle.affine_forms.specs.Forms.{affine_of}
use Rattle.affine_forms.specs.Comparisons.{var_form, at_most_row, below_row, same_row, one_row}
use Rattle.affine_forms.specs.Conditions.{no_rows, infeasible, of_truth, constant_condition, comparison, comparison_of_forms, unary_condition, binary_condition, condition_of}
use Rattle.preconditions.specs.transformer_algebra.declared.transformer.Transformer.{Transformer}
use Rattle.preconditions.specs.transformer_algebra.declared.loop_parts.LoopParts.{LoopParts}
use Rattle.preconditions.specs.transformer_algebra.Cells.{others}
use Rattle.preconditions.specs.transformer_algebra.Halves.{first_names, second_names, middle, to_cells, cell_vars}
use Rattle.preconditions.specs.transformer_algebra.Transformers.{exit_system, followed, without, apply, equals, complete, all_cells, hull_of_arms, one_of, iterate}
use Rattle.preconditions.specs.transformer_algebra.Loops.{index_becomes, index_form, goes_up, within_rows, beyond_rows, start, start_form, unguard, beyond_last, zero_iterations, first_iterations, some_iterations, counted_by, loop_transformer}
use Rattle.preconditions.proofs.TransformerAlgebra.GivenSteps.{are_cells}
use Rattle.preconditions.specs.call_translation.Scopes.{ScopeTree}
use Rattle.preconditions.specs.call_translation.Call.{CallTree, form_row, form_at, row_of, rows_from, names_from}
use Rattle.preconditions.specs.call_translation.Variables.{auxiliaries_in}
use Rattle.preconditions.specs.call_translation.Summary.{summary_vars, call_system, call_transformer}
use Rattle.f77_ast.specs.Shared.{place_at}
use Rattle.affine_systems.specs.declared.row.Var.{Var}
use Rattle.affine_systems.specs.declared.row.Var.TheVariants.{Cell, Exit, Phi, Aux}
use Rattle.laws_stored.proofs.Tidied.{IsAscending, AreAscending, ascending-append, tidy_fit, meet_fit, push_fit, of_rows_fit, rename_fit}
use Rattle.laws_stored.proofs.Hulls.{hull_fit, closure_fit}

-- ---- rows of two forms

pub at_most_ascending : (f g : Affine) → IsAscending (at_most_row f g)
at_most_ascending f g = ascends-combined (pos 1) f.terms (negsuc 0) g.terms

pub below_ascending : (f g : Affine) → IsAscending (below_row f g)
below_ascending f g = ascends-combined (pos 1) f.terms (negsuc 0) g.terms

pub same_ascending : (f g : Affine) → IsAscending (same_row f g)
same_ascending f g = ascends-combined (pos 1) f.terms (negsuc 0) g.terms

pub none_fit : Fits no_rows
none_fit = (omega arith, inr tt)

pub infeasible_fit : Fits infeasible
infeasible_fit = (omega arith, inl refl)

-- ---- conditions

abbrev ConditionFits : Condition → Type 0
ConditionFits c = Fits c.yes × Fits c.no

truth_fits : (b : Bool) → ConditionFits (of_truth b)
truth_fits true = (none_fit, infeasible_fit)
truth_fits false = (infeasible_fit, none_fit)

constant_fits : (o : Option Constant) → ConditionFits (constant_condition o)
constant_fits (Some (Log b)) = truth_fits b
constant_fits (Some (Int n)) = (none_fit, none_fit)
constant_fits None = (none_fit, none_fit)

one_fits : (r : Row) → IsAscending r → Fits (one_row r)
one_fits r h = tidy_fit (record { rows = r ∷ []; weak = false }) (h, tt)

comparison_fits : (o : BinaryOp) (f g : Affine) → ConditionFits (comparison o f g)
comparison_fits Lt f g = (one_fits (below_row f g) (below_ascending f g), one_fits (at_most_row g f) (at_most_ascending g f))
comparison_fits Le f g = (one_fits (at_most_row f g) (at_most_ascending f g), one_fits (below_row g f) (below_ascending g f))
comparison_fits Gt f g = (one_fits (below_row g f) (below_ascending g f), one_fits (at_most_row f g) (at_most_ascending f g))
comparison_fits Ge f g = (one_fits (at_most_row g f) (at_most_ascending g f), one_fits (below_row f g) (below_ascending f g))
comparison_fits Eq f g = (one_fits (same_row f g) (same_ascending f g), none_fit)
comparison_fits Ne f g = (none_fit, one_fits (same_row f g) (same_ascending f g))
comparison_fits Add f g = (none_fit, none_fit)
comparison_fits Sub f g = (none_fit, none_fit)
comparison_fits Mul f g = (none_fit, none_fit)
comparison_fits Div f g = (none_fit, none_fit)
comparison_fits Pow f g = (none_fit, none_fit)
comparison_fits And f g = (none_fit, none_fit)
comparison_fits Or f g = (none_fit, none_fit)
comparison_fits Eqv f g = (none_fit, none_fit)
comparison_fits Neqv f g = (none_fit, none_fit)

forms_fit : (o : BinaryOp) (f g : Option Affine) → ConditionFits (comparison_of_forms o f g)
forms_fit o (Some f) (Some g) = comparison_fits o f g
forms_fit o (Some f) None = (none_fit, none_fit)
forms_fit o None g = (none_fit, none_fit)

unary_fits : (o : UnaryOp) (c : Condition) → ConditionFits c → ConditionFits (unary_condition o c)
unary_fits Plus c h = (none_fit, none_fit)
unary_fits Minus c h = (none_fit, none_fit)
unary_fits Not c h = (h.1, h.0)

binary_fits : (o : BinaryOp) (c d : Condition) (f g : Option Affine) → ConditionFits c → ConditionFits d → ConditionFits (binary_condition o c d f g)
binary_fits And c d f g h i = (meet_fit c.yes d.yes h.0 i.0, none_fit)
binary_fits Or c d f g h i = (none_fit, meet_fit c.no d.no h.1 i.1)
binary_fits Eq c d f g h i = forms_fit Eq f g
binary_fits Ne c d f g h i = forms_fit Ne f g
binary_fits Lt c d f g h i = forms_fit Lt f g
binary_fits Le c d f g h i = forms_fit Le f g
binary_fits Gt c d f g h i = forms_fit Gt f g
binary_fits Ge c d f g h i = forms_fit Ge f g
binary_fits Add c d f g h i = forms_fit Add f g
binary_fits Sub c d f g h i = forms_fit Sub f g
binary_fits Mul c d f g h i = forms_fit Mul f g
binary_fits Div c d f g h i = forms_fit Div f g
binary_fits Pow c d f g h i = forms_fit Pow f g
binary_fits Eqv c d f g h i = forms_fit Eqv f g
binary_fits Neqv c d f g h i = forms_fit Neqv f g

pub condition_fits : (k : Scalars) (e : ExprTree) → ConditionFits (condition_of k e)
condition_fits k (tree.int m) = (none_fit, none_fit)
condition_fits k (tree.log b) = truth_fits b
condition_fits k (tree.name x) = constant_fits (k.value x)
condition_fits k (tree.element x es) = (none_fit, none_fit)
condition_fits k (tree.paren e) = condition_fits k e
condition_fits k (tree.unary o e) = unary_fits o (condition_of k e) (condition_fits k e)
condition_fits k (tree.binary o a b) = binary_fits o (condition_of k a) (condition_of k b) (affine_of k a) (affine_of k b) (condition_fits k a) (condition_fits k b)
condition_fits k (tree.chars x) = (none_fit, none_fit)

-- ---- rules of transformers

pub exit_fits : (c : ℕ) (f : Option Affine) → Fits (exit_system c f)
exit_fits c None = none_fit
exit_fits c (Some f) = of_rows_fit (same_row (var_form (Exit c)) f ∷ []) (same_ascending (var_form (Exit c)) f, tt)

pub followed_fits : (a b : Transformer) → Fits (followed a b).system
followed_fits a b =
    let n = fresh_over a.system b.system in
    let first = rename_all (first_names n b.cells a.cells) a.system in
    let second = rename_all (second_names n b.cells a.cells) b.system in
    project_fits (meet first second) (middle n b.cells a.cells) (meet_fit first second (rename_fit (first_names n b.cells a.cells) a.system) (rename_fit (second_names n b.cells a.cells) b.system))

pub without_fits : (cs : List ℕ) (s : System) → Fits s → Fits (without cs s)
without_fits cs s h = project_fits s (cell_vars cs) h

pub apply_fits : (t : Transformer) (s : System) → Fits (apply t s)
apply_fits t s = rename_fit (to_cells t.cells) (without t.cells (meet t.system s))

equals_ascending : (cs : List ℕ) → AreAscending (equals cs)
equals_ascending [] = tt
equals_ascending (c ∷ cs) = (same_ascending (var_form (Exit c)) (var_form (Cell c)), equals_ascending cs)

pub complete_fits : (cs : List ℕ) (t : Transformer) → Fits t.system → Fits (complete cs t)
complete_fits cs t h = push_fit t.system (equals (others cs t.cells)) h (equals_ascending (others cs t.cells))

abbrev pub AreFit : List Transformer → Type 0
AreFit [] = Unit {0}
AreFit (t ∷ ts) = Fits t.system × AreFit ts

arms_fit : (cs : List ℕ) (s : System) (ts : List Transformer) → Fits s → AreFit ts → Fits (hull_of_arms cs s ts)
arms_fit cs s [] h k = h
arms_fit cs s (t ∷ ts) h k = arms_fit cs (hull s (complete cs t)) ts (hull_fit s (complete cs t) h (complete_fits cs t k.0)) k.1

pub one_of_fits : (ts : List Transformer) → AreFit ts → Fits (one_of ts).system
one_of_fits [] h = infeasible_fit
one_of_fits (t ∷ ts) h = let cs = all_cells (t ∷ ts) in arms_fit cs (complete cs t) ts (complete_fits cs t h.0) h.1

pub iterate_fits : (t : Transformer) → Fits t.system → Fits (iterate t).system
iterate_fits t h = closure_fit (cell_vars t.cells) t.system (are_cells t.cells) h

-- ---- rules of a DO

pub within_ascending : (s : Option ℤ) (f g : Option Affine) → AreAscending (within_rows s f g)
within_ascending (Some s) (Some f) (Some g) = (if_cases IsAscending (goes_up s) (at_most_row f g) (at_most_row g f) (λ e. at_most_ascending f g) (λ e. at_most_ascending g f), tt)
within_ascending (Some s) (Some f) None = tt
within_ascending (Some s) None g = tt
within_ascending None f g = tt

pub beyond_ascending : (s : Option ℤ) (f g : Option Affine) → AreAscending (beyond_rows s f g)
beyond_ascending (Some s) (Some f) (Some g) = (if_cases IsAscending (goes_up s) (below_row g f) (below_row f g) (λ e. below_ascending g f) (λ e. below_ascending f g), tt)
beyond_ascending (Some s) (Some f) None = tt
beyond_ascending (Some s) None g = tt
beyond_ascending None f g = tt

becomes_fits : (l : LoopParts) (f : Option Affine) → Fits (index_becomes l f).system
becomes_fits l f = if_cases Fits l.tracked (exit_system l.index f) no_rows (λ e. exit_fits l.index f) (λ e. none_fit)

zero_fits : (l : LoopParts) (t : Transformer) → Fits (zero_iterations l t)
zero_fits l t =
    push_fit (start l).system (unguard l ++ equals (others t.cells (start l).cells)) (becomes_fits l (start_form l))
    (ascending-append (unguard l) (equals (others t.cells (start l).cells)) (beyond_ascending l.step l.first l.last) (equals_ascending (others t.cells (start l).cells)))

some_fits : (l : LoopParts) (t : Transformer) → Fits (some_iterations l t).system
some_fits l t = push_fit (followed (first_iterations l t) t).system (beyond_last l (Exit l.index)) (followed_fits (first_iterations l t) t) (beyond_ascending l.step (index_form l (Exit l.index)) l.last)

pub loop_fits : (l : LoopParts) (t : Transformer) → Fits (loop_transformer l t).system
loop_fits l t = go l.step
  where
    go : (s : Option ℤ) → Fits (counted_by s l t)
    go None = none_fit
    go (Some s) = hull_fit (zero_iterations l t) (some_iterations l t).system (zero_fits l t) (some_fits l t)

-- ---- CALLs

form_ascending : (v : Var) (f : Option Affine) → AreAscending (form_row v f)
form_ascending v None = tt
form_ascending v (Some f) = (same_ascending (var_form v) f, tt)

row_ascending : (c : CallTree) (n : ℕ) (v : Var) → AreAscending (row_of c n v)
row_ascending c n (Cell d) = form_ascending (Aux n) (form_at c (place_at c.symbols d))
row_ascending c n (Exit d) = tt
row_ascending c n (Phi d) = tt
row_ascending c n (Aux d) = tt

rows_ascending : (c : CallTree) (n : ℕ) (vs : List Var) → AreAscending (rows_from c n vs)
rows_ascending c n [] = tt
rows_ascending c n (v ∷ vs) = ascending-append (row_of c n v) (rows_from c (suc n) vs) (row_ascending c n v) (rows_ascending c (suc n) vs)

call_fits : (c : CallTree) (t : Transformer) → Fits (call_system c t)
call_fits c t =
    let n = above_rows 0 t.system.rows in
    let ns = names_from c n [] (summary_vars t) in
    let rows = rows_from c n (summary_vars t) in
    project_fits (push_rows (rename_all ns t.system) rows) (auxiliaries_in ns) (push_fit (rename_all ns t.system) rows (rename_fit ns t.system) (rows_ascending c n (summary_vars t)))

pub called_fits : (m : ScopeTree) (s : Option (SummaryTree Transformer)) (es : ExprTrees) → Fits (call_transformer m s es).system
called_fits m None es = none_fit
called_fits m (Some s) es = call_fits (record { caller = m; actuals = es; symbols = s.symbols }) s.value
