-- A CALL of a small program: CALL S(N,N+1) where N==1 and K==5, of SUBROUTINE S(I,J), which adds J to I and 1 to K. Both modules have COMMON /B/ with
-- two variables. The transformer of the CALL and the entry of S are computed.
use Rattle.std.proofs.Common.{◌≡◌, ℕ, List, [], ◌∷◌, map, Some, Bool, true, false, refl, pos}
use Rattle.std.specs.Prelude.{codes}
use Rattle.affine_systems.specs.declared.row.Var.TheVariants.{Cell, Exit}
use Rattle.affine_systems.specs.Terms.{term}
use Rattle.affine_systems.specs.declared.row.Row.{Row}
use Rattle.f77_ast.specs.declared.decl.Scalar.TheVariants.{Int}
use Rattle.f77_ast.specs.declared.expr.BinaryOp.TheVariants.{Add}
use Rattle.f77_ast.specs.Trees.{ExprTrees, no_exprs, more_exprs, int, name, binary}
use Rattle.f77_ast.specs.declared.symbol.Place.{Place}
use Rattle.f77_ast.specs.declared.symbol.Place.TheVariants.{Local, Dummy, Block}
use Rattle.f77_ast.specs.Symbols.{SymbolTree, value_in}
use Rattle.preconditions.specs.transformer_algebra.Renaming.{of_rows}
use Rattle.affine_forms.specs.Scalars.{cell_in}
use Rattle.affine_forms.specs.Forms.{affine}
use Rattle.affine_forms.specs.Comparisons.{var_form, same_row}
use Rattle.preconditions.specs.transformer_algebra.declared.transformer.Transformer.{Transformer}
use Rattle.preconditions.specs.transformer_algebra.Transformers.{transformer}
use Rattle.preconditions.specs.call_translation.Scopes.{ScopeTree}
use Rattle.preconditions.specs.call_translation.Call.{CallTree}
use Rattle.preconditions.specs.call_translation.Summary.{call_transformer}
use Rattle.preconditions.specs.call_translation.Sites.{HoldingSite}
use Rattle.preconditions.specs.call_translation.SiteEntry.{site_entry}
use Rattle.affine_systems.specs.Terms as terms
use Rattle.affine_systems.specs.Points as points
use Rattle.affine_systems.specs.Normal as normal
use Rattle.affine_systems.specs.Rows as rows
use Rattle.affine_systems.specs.Tidy as tidy

abbrev pub scalar : List ℕ → Place → SymbolTree
scalar x p = record { name = x; scalar = Int; bounds = []; place = p; saved = false; initial = [] }

abbrev pub scope : List SymbolTree → List Bool → ScopeTree
scope ss flags = record { symbols = ss; tracked = flags; names = map (λ (s : SymbolTree). s.name) ss; scalars = record { value = value_in ss; cell = cell_in (map (λ (s : SymbolTree). s.name) ss) flags } }

abbrev pub main : ScopeTree
main = scope (scalar (codes "K") (Block (codes "B") 0) ∷ scalar (codes "M") (Block (codes "B") 1) ∷ scalar (codes "N") (Local 1 0) ∷ []) (true ∷ true ∷ true ∷ [])

abbrev pub called : ScopeTree
called = scope
    (scalar (codes "I") (Dummy 1) ∷ scalar (codes "J") (Dummy 2) ∷ scalar (codes "K") (Block (codes "B") 0) ∷ scalar (codes "L") (Block (codes "B") 1) ∷ [])
    (true ∷ true ∷ true ∷ true ∷ [])

abbrev pub actuals : ExprTrees
actuals = more_exprs (name (codes "N")) (more_exprs (binary Add (name (codes "N")) (int (pos 1))) no_exprs)

abbrev pub call : CallTree
call = record { caller = main; actuals = actuals; symbols = called.symbols }

-- I' == I + J, K' == K + 1
abbrev pub summary_rows : List Row
summary_rows = same_row (var_form (Exit 1)) (affine (term (Cell 1) (pos 1) ∷ term (Cell 2) (pos 1) ∷ []) (pos 0)) ∷ same_row (var_form (Exit 3)) (affine (term (Cell 3) (pos 1) ∷ []) (pos 1)) ∷ []

abbrev pub summary : Transformer
summary = transformer (1 ∷ 3 ∷ []) []
    (of_rows summary_rows)

-- K' == K + 1, N' == 2*N + 1
does_this : call_transformer main (Some (record { symbols = called.symbols; value = summary })) actuals ≡
    transformer (1 ∷ 3 ∷ []) []
    (of_rows (same_row (var_form (Exit 1)) (affine (term (Cell 1) (pos 1) ∷ []) (pos 1)) ∷ same_row (var_form (Exit 3)) (affine (term (Cell 3) (pos 2) ∷ []) (pos 1)) ∷ []))
unfolding tidy.turn_limit normal.is_small normal.divisor normal.gcd terms.var_eq terms.var_lt rows.shape_cmp points.factor_of
does_this = refl

-- K == 5, N == 1
abbrev pub site_rows : List Row
site_rows = same_row (var_form (Cell 1)) (affine [] (pos 5)) ∷ same_row (var_form (Cell 3)) (affine [] (pos 1)) ∷ []

abbrev pub site : HoldingSite
site = record { caller = main; actuals = actuals; value = of_rows site_rows }

-- I == 1, J == 2, K == 5
begins_so : site_entry called site ≡
    of_rows (same_row (var_form (Cell 1)) (affine [] (pos 1)) ∷ same_row (var_form (Cell 2)) (affine [] (pos 2)) ∷ same_row (var_form (Cell 3)) (affine [] (pos 5)) ∷ [])
unfolding tidy.turn_limit normal.is_small normal.divisor normal.gcd terms.var_eq terms.var_lt rows.shape_cmp points.factor_of
begins_so = refl
