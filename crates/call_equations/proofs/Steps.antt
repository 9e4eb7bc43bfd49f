-- Steps of the loops over subscripts and rows, and what is handed on may be handed on.
use Rattle.std.proofs.Common.{◌≡◌, None, map, length, refl, ℕ, ◌<◌, ◌≤◌, ◌^◌, List, [], ◌∷◌, ◌++◌, ℤ, unsigned_abs, add-one, append_assoc, append-nil, arith}
use Rattle.affine_systems.specs.declared.row.Row.{Row}
use Rattle.affine_systems.specs.Rows.{AllRows}
use Rattle.affine_systems.specs.Given.{IsGiven}
use Rattle.f77_ast.specs.declared.expr.Expr.{Expr, the_lemmas}
use Rattle.f77_ast.specs.Plain.{expr_trees}
use Rattle.f77_ast.specs.declared.symbol.Bound.{Bound}
use Rattle.f77_ast.specs.Symbols.{bound_tree}
use Rattle.f77_ast.proofs.Plainly.{expr_lists}
use Rattle.affine_forms.specs.Forms.{affine, IsSmallForm}
use Rattle.call_translation.proofs.Steps.{given-push}
use Rattle.call_equations.specs.Sides.{SidesTree}
use Rattle.call_equations.specs.Positions.{element_position}
use Rattle.affine_systems.proofs.RenameSteps.{given_append as given-append}

pub number_small : (n : ℤ) → unsigned_abs n < 2 ^ 62 → IsSmallForm (affine [] n)
number_small n h = ((tt, tt), h)

pub ruleset rows = (given-push, number_small, append_assoc, append-nil)

pub ruleset row_items = (given-push, append_assoc, append-nil, add-one)

pub ruleset row_lists = (given-append, append_assoc, append-nil)

pub ruleset lists = (append_assoc, append-nil)

pub element-none : (c : SidesTree) (k : ℕ) (es : List Expr) (bs : List Bound) → length bs < 1 → 1 ≤ length es → None ≡ element_position c k (expr_trees es) (map bound_tree bs)
element-none c k [] bs l h = absurd (omega (arith, h))
element-none c k (e ∷ es) [] l h = refl
element-none c k (e ∷ es) (b ∷ bs) l h = absurd (omega (arith, l))

pub ruleset expr_numbers = (expr_lists, the_lemmas, add-one, element-none)
