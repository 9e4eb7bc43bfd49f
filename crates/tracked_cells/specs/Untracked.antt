-- Units of blocks that may not be tracked: some module has there something else than one INTEGER scalar that is in no EQUIVALENCE.
use Rattle.std.specs.Prelude.{ℕ, Bool, false, ◌||◌, List, [], ◌∷◌, map, filter, if◌then◌else◌}
use Rattle.f77_ast.specs.DeclTrees.{ParsedTree}
use Rattle.f77_ast.specs.declared.symbol.Place.{Place}
use Rattle.f77_ast.specs.declared.symbol.Place.TheVariants.{Block}
use Rattle.f77_ast.specs.declared.variable.Unit.{Unit as BlockUnit}
use Rattle.f77_ast.specs.Symbols.{SymbolTree}
use Rattle.tracked_cells.specs.Equivalences.{equivalenced_names}
use Rattle.tracked_cells.specs.Standing.{untracks}
use Rattle.tracked_cells.specs.Scalars.{all_scalars}

-- some module, of those with these names in their EQUIVALENCEs and these symbols, untracks a unit
abbrev pub some_untracks : List (List (List ℕ)) → List (List SymbolTree) → Place → Bool
some_untracks [] sss at = false
some_untracks (names ∷ more) [] at = false
some_untracks (names ∷ more) (ss ∷ sss) at = untracks names ss at || some_untracks more sss at

-- the names in the EQUIVALENCEs of each module
abbrev pub equivalenced_names_of_all : List ParsedTree → List (List (List ℕ))
equivalenced_names_of_all ps = map (λ p. equivalenced_names p.module_read) ps

abbrev pub begin_of : BlockUnit → Place
begin_of u = Block u.block u.offset

-- a unit, if some module untracks it
abbrev pub one_untrackable : List (List (List ℕ)) → List (List SymbolTree) → BlockUnit → List BlockUnit
one_untrackable names sss u = if some_untracks names sss (begin_of u) then u ∷ [] else []

-- the units that some module untracks
abbrev pub untrackable : List (List (List ℕ)) → List (List SymbolTree) → List BlockUnit → List BlockUnit
untrackable names sss us = filter (λ u. some_untracks names sss (begin_of u)) us

-- the units at which some module has an INTEGER scalar, and which some module untracks
abbrev pub untracked_of : List ParsedTree → List (List SymbolTree) → List BlockUnit
untracked_of ps sss = untrackable (equivalenced_names_of_all ps) sss (all_scalars sss [])
