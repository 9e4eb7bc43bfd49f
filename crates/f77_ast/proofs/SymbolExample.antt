-- Which variables of a small table share storage.
use Rattle.std.proofs.Common.{◌≡◌, List, [], ◌∷◌, Some, true, false, refl, pos, ℕ, ℤ}
use Rattle.std.specs.Prelude.{codes}
use Rattle.f77_ast.specs.declared.decl.Scalar.TheVariants.{Int}
use Rattle.f77_ast.specs.Trees as tree
use Rattle.f77_ast.specs.declared.symbol.Place.{Place}
use Rattle.f77_ast.specs.declared.symbol.Place.TheVariants.{Local, Block, Constant}
use Rattle.f77_ast.specs.declared.variable.Variable.TheVariants.{Own, Block as Whole, Saved}
use Rattle.f77_ast.specs.Symbols.{SymbolTree}
use Rattle.f77_ast.specs.Units.{units_in}
use Rattle.f77_ast.specs.Shared.{overlap}

abbrev scalar_of : List ℕ → Place → SymbolTree
scalar_of x p = record { name = x; scalar = Int; bounds = []; place = p; saved = false; initial = [] }

abbrev array_of : List ℕ → ℤ → List ℕ → Place → SymbolTree
array_of x low high p = record {
  name = x;
  scalar = Int;
  bounds = record { low = tree.int low; high = Some (tree.name high) } ∷ [];
  place = p;
  saved = false;
  initial = [];
}

-- COMMON /B/ A(0:N),I; EQUIVALENCE (A(3),J); PARAMETER (N=3); INTEGER K
abbrev table : List SymbolTree
table =
    array_of (codes "A") (pos 0) (codes "N") (Block (codes "B") 0)
    ∷ scalar_of (codes "I") (Block (codes "B") 4)
    ∷ scalar_of (codes "J") (Block (codes "B") 3)
    ∷ scalar_of (codes "N") (Constant (pos 3))
    ∷ scalar_of (codes "K") (Local 1 0)
    ∷ []

a_has_four : units_in table (array_of (codes "A") (pos 0) (codes "N") (Block (codes "B") 0)) ≡ 4
a_has_four = refl

a_and_j : overlap table (Own 1) (Own 3) ≡ true
a_and_j = refl

a_and_i : overlap table (Own 1) (Own 2) ≡ false
a_and_i = refl

the_block_and_i : overlap table (Whole (codes "B")) (Own 2) ≡ true
the_block_and_i = refl

the_block_and_k : overlap table (Own 5) (Whole (codes "B")) ≡ false
the_block_and_k = refl

saved_of_one_module : overlap table (Saved (codes "S") (codes "I")) (Saved (codes "S") (codes "J")) ≡ true
saved_of_one_module = refl
