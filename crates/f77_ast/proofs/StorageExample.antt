-- Sizes of small tables, computed.
use Rattle.std.proofs.Common.{◌≡◌, ℕ, List, [], ◌∷◌, Some, false, refl, pos}
use Rattle.std.specs.Prelude.{codes}
use Rattle.f77_ast.specs.declared.decl.Scalar.TheVariants.{Int}
use Rattle.f77_ast.specs.Trees.{int}
use Rattle.f77_ast.specs.declared.symbol.Place.{Place}
use Rattle.f77_ast.specs.declared.symbol.Place.TheVariants.{Local, Dummy, Block}
use Rattle.f77_ast.specs.Symbols.{SymbolTree}
use Rattle.f77_ast.specs.Storages.{group_storage, block_storage, size_of}

-- so many units of a name from a place on
abbrev lies : List ℕ → ℕ → Place → SymbolTree
lies x n p = record { name = x; scalar = Int; bounds = record { low = int (pos 1); high = Some (int (pos n)) } ∷ []; place = p; saved = false; initial = [] }

-- J(3) from the first unit of a group on, K(4) behind its first two, I(5) in a block, M(9) a dummy
abbrev table : List SymbolTree
table = lies (codes "J") 3 (Local 1 0) ∷ lies (codes "K") 4 (Local 1 2) ∷ lies (codes "I") 5 (Block (codes "B") 1) ∷ lies (codes "M") 9 (Dummy 1) ∷ []

group_of_two : size_of table (group_storage 1) ≡ 6
group_of_two = refl

block_of_one : size_of table (block_storage (codes "B")) ≡ 6
block_of_one = refl

empty_group : size_of table (group_storage 2) ≡ 0
empty_group = refl
