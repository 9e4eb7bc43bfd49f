-- The relations on tables that are made by hand.
use Rattle.std.proofs.Common.{◌≡◌, ℕ, pos, false, List, [], ◌∷◌, Some, None, refl, ap, sym, ◌∙◌}
use Rattle.std.specs.Prelude.{codes}
use Rattle.f77_ast.specs.declared.decl.Scalar.TheVariants.{Int}
use Rattle.f77_ast.specs.Trees.{ExprTree, ExprTrees, name, int, element, no_exprs, more_exprs}
use Rattle.f77_ast.specs.DeclTrees.{EntityTree, DataTree, DeclTree, common, equivalence}
use Rattle.f77_ast.specs.declared.constant.Constant.TheVariants as constant
use Rattle.f77_ast.specs.declared.symbol.Place.{Place}
use Rattle.f77_ast.specs.declared.symbol.Place.TheVariants.{Local, Block}
use Rattle.f77_ast.specs.declared.symbol.InitialRun.{InitialRun}
use Rattle.f77_ast.specs.Symbols.{BoundTree, SymbolTree}
use Rattle.f77_ast.specs.Shared.{group_unit}
use Rattle.storage_layout.specs.Statements.{members}
use Rattle.laws_programs.specs.Layout.Layout.{LieInARow, element_number, ShareTheirFirst, in_group, Chained, GivesItsValues}
use Rattle.f77_names.proofs.Example.{scalar_named as entity}

abbrev scalar_at : List ℕ → Place → SymbolTree
scalar_at x p = record { name = x; scalar = Int; bounds = []; place = p; saved = false; initial = [] }

abbrev up_to : ℕ → BoundTree
up_to n = record { low = int (pos 1); high = Some (int (pos n)) }

-- J(2,3)
abbrev matrix_at : Place → List InitialRun → SymbolTree
matrix_at p rs = record { name = codes "J"; scalar = Int; bounds = up_to 2 ∷ up_to 3 ∷ []; place = p; saved = false; initial = rs }

abbrev two : ℕ → ℕ → ExprTrees
two m n = more_exprs (int (pos m)) (more_exprs (int (pos n)) no_exprs)

-- ---- COMMON /B/ I, J(2,3), /C/ M and COMMON /B/ L

abbrev first_common : DeclTree
first_common = common (record { block = codes "B"; members = entity (codes "I") ∷ entity (codes "J") ∷ [] } ∷ record { block = codes "C"; members = entity (codes "M") ∷ [] } ∷ [])

abbrev blocks : List DeclTree
blocks = first_common ∷ common (record { block = codes "B"; members = entity (codes "L") ∷ [] } ∷ []) ∷ []

abbrev i_first : List SymbolTree
i_first = scalar_at (codes "I") (Block (codes "B") 0) ∷ matrix_at (Block (codes "B") 1) [] ∷ scalar_at (codes "M") (Block (codes "C") 0) ∷ scalar_at (codes "L") (Block (codes "B") 7) ∷ []

in_order : LieInARow i_first (codes "B") 0 (members (codes "B") blocks)
in_order = (scalar_at (codes "I") (Block (codes "B") 0), refl, refl, (matrix_at (Block (codes "B") 1) [], refl, refl, (scalar_at (codes "L") (Block (codes "B") 7), refl, refl, tt)))

-- L before I is not the order of the text
abbrev l_first : List SymbolTree
l_first = scalar_at (codes "I") (Block (codes "B") 7) ∷ matrix_at (Block (codes "B") 1) [] ∷ scalar_at (codes "M") (Block (codes "C") 0) ∷ scalar_at (codes "L") (Block (codes "B") 0) ∷ []

not_reversed : LieInARow l_first (codes "B") 0 (members (codes "B") blocks) → ⊥
not_reversed h =
    let named : Some (scalar_at (codes "I") (Block (codes "B") 7)) ≡ Some h.0 = h.1 in
    let same : scalar_at (codes "I") (Block (codes "B") 7) ≡ h.0 = cc in
    let at : Block (codes "B") 7 ≡ Block (codes "B") 0 = ap (λ (s : SymbolTree). s.place) same ∙ h.2 in
    cc

-- ---- J(1,1), J(2,1), J(1,2), ..

second : element_number i_first (matrix_at (Block (codes "B") 1) []) (two 2 1) ≡ Some 1
second = refl

third : element_number i_first (matrix_at (Block (codes "B") 1) []) (two 1 2) ≡ Some 2
third = refl

-- ---- EQUIVALENCE (I, J(1,2)): I is the third unit of J

abbrev together : List ExprTree
together = name (codes "I") ∷ element (codes "J") (two 1 2) ∷ []

abbrev behind : List SymbolTree
behind = matrix_at (Local 1 0) [] ∷ scalar_at (codes "I") (Local 1 2) ∷ []

shared : ShareTheirFirst behind together
shared = (group_unit 1 2, (refl, (refl, tt)))

-- a table that leaves the statement out does not meet it
abbrev apart : List SymbolTree
apart = matrix_at (Local 1 0) [] ∷ scalar_at (codes "I") (Local 2 0) ∷ []

not_apart : ShareTheirFirst apart together → ⊥
not_apart h =
    let first : Some (group_unit 2 0) ≡ Some h.0 = h.1.0 in
    let second : Some (group_unit 1 2) ≡ Some h.0 = h.1.1.0 in
    let same : Some (group_unit 2 0) ≡ Some (group_unit 1 2) = first ∙ sym second in
    cc

associated : Chained (equivalence (together ∷ []) ∷ []) (codes "I") (codes "J")
associated = ([], in_group together (0, refl) (0, refl) (1, refl))

-- ---- DATA J /2*0, 3*7, 5/

abbrev values : DataTree
values = record {
  targets = name (codes "J") ∷ [];
  values = record { repeat = Some 2; value = int (pos 0) } ∷ record { repeat = Some 3; value = int (pos 7) } ∷ record { repeat = None; value = int (pos 5) } ∷ [];
}

abbrev begun : List SymbolTree
begun = matrix_at (Local 1 0) (record { offset = 0; count = 2; value = pos 0 } ∷ record { offset = 2; count = 3; value = pos 7 } ∷ record { offset = 5; count = 1; value = pos 5 } ∷ []) ∷ []

filled : GivesItsValues begun values
filled =
    ((constant.Int (pos 0), refl, refl), ((constant.Int (pos 0), refl, refl), ((constant.Int (pos 7), refl, refl), ((constant.Int (pos 7), refl, refl), ((constant.Int (pos 7), refl, refl), ((constant.Int (pos 5), refl, refl), tt))))))
