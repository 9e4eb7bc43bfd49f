-- The equations between the subscripts of a variable of the callee and of the variable of the caller that it is, one rule for each kind of variable.
use Rattle.std.specs.Prelude.{ℕ, Bool, true, false, List, [], ◌∷◌, length, Option, Some, None, if◌then◌else◌}
use Rattle.affine_systems.specs.declared.row.Row.{Row}
use Rattle.affine_systems.specs.Rows.{AllRows}
use Rattle.affine_systems.specs.Given.{IsGiven}
use Rattle.f77_ast.specs.Trees.{ExprTree, ExprTrees}
use Rattle.f77_ast.specs.Trees as tree
use Rattle.f77_ast.specs.declared.symbol.Place.{Place}
use Rattle.f77_ast.specs.declared.symbol.Place.TheVariants.{Local, Dummy, Block, Constant}
use Rattle.f77_ast.specs.declared.variable.Variable.{Variable}
use Rattle.f77_ast.specs.declared.variable.Variable.TheVariants.{Own, Block as Whole, Saved}
use Rattle.f77_ast.specs.Symbols.{BoundTree, SymbolTree, number_from}
use Rattle.f77_ast.specs.Shared.{symbol_at}
use Rattle.tracked_cells.specs.Standing.{has_bounds}
use Rattle.effects.specs.Callee.{first_like}
use Rattle.call_translation.specs.Actuals.{actual_of}
use Rattle.call_equations.specs.declared.link.Link.{Link}
use Rattle.call_equations.specs.Sides.{SidesTree}
use Rattle.call_equations.specs.Rows.{subscript_rows, all_affine, bounds_rows}
use Rattle.call_equations.specs.Forms.{equation}
use Rattle.call_equations.specs.Positions.{aligned_rows, whole_position, element_position, dummy_position, block_position}

-- its rows may be given to calls
abbrev pub LinkFits : Link → Type 0
LinkFits l = AllRows IsGiven l.rows

abbrev pub link : Variable → ℕ → Bool → List Row → Bool → Link
link v r m rs e = record { variable = v; rank = r; moved = m; rows = rs; exact = e }

-- the same elements with the same subscripts
abbrev pub same_elements : Variable → Link
same_elements v = link v 0 false [] true

-- ---- a dummy (ANSI X3.9-1978 §15.9.3)

-- a scalar: the variable, or the element with these subscripts
abbrev pub scalar_link : ℕ → Link
scalar_link n = link (Own n) 0 true [] true

abbrev pub element_link : SidesTree → ℕ → ExprTrees → List BoundTree → Link
element_link c n es as' = link (Own n) 0 true (subscript_rows c.caller 1 es as') (all_affine c.caller es as')

-- equal places, and these rows; within the constant bounds where the places have no forms
abbrev pub by_position : ℕ → ℕ → Option Row → List Row → List Row → Link
by_position n r None more bounds = link (Own n) r true bounds false
by_position n r (Some row) more bounds = link (Own n) r true (row ∷ more) true

abbrev pub actual_bounds : SidesTree → List BoundTree → List Row
actual_bounds c as' = bounds_rows c.caller.scalars.value 1 as'

abbrev pub whole_by_position : SidesTree → ℕ → List BoundTree → List BoundTree → Link
whole_by_position c n as' ds = by_position n (length ds) (equation (whole_position c 1 as') (dummy_position c (length ds) 1 ds)) (actual_bounds c as') (actual_bounds c as')

abbrev pub aligned_or : ℕ → ℕ → Option (List Row) → Link → Link
aligned_or n r None l = l
aligned_or n r (Some rs) l = link (Own n) r true rs true

-- an array whose actual is a whole array
abbrev pub array_link : SidesTree → ℕ → List BoundTree → List BoundTree → Link
array_link c n as' ds = aligned_or n (length ds) (aligned_rows c (length ds) 1 as' ds) (whole_by_position c n as' ds)

-- where both have one dimension, the bounds of the caller's array need not be said
abbrev pub bounds_unless_lines : List Row → List BoundTree → List BoundTree → List Row
bounds_unless_lines bounds [] ds = bounds
bounds_unless_lines bounds (a ∷ []) [] = bounds
bounds_unless_lines bounds (a ∷ []) (d ∷ []) = []
bounds_unless_lines bounds (a ∷ []) (d ∷ (e ∷ ds)) = bounds
bounds_unless_lines bounds (a ∷ (b ∷ as')) ds = bounds

-- an array whose actual is an element: it begins there
abbrev pub rest_link : SidesTree → ℕ → ExprTrees → List BoundTree → List BoundTree → Link
rest_link c n es as' ds = by_position n (length ds) (equation (element_position c 1 es as') (dummy_position c (length ds) 1 ds)) (bounds_unless_lines (actual_bounds c as') as' ds) (actual_bounds c as')

-- by the bounds of the dummy
abbrev pub variable_link : SidesTree → ℕ → List BoundTree → List BoundTree → Link
variable_link c n as' [] = scalar_link n
variable_link c n as' (d ∷ ds) = array_link c n as' (d ∷ ds)

abbrev pub subscripts_link : SidesTree → ℕ → ExprTrees → List BoundTree → List BoundTree → Link
subscripts_link c n es as' [] = element_link c n es as'
subscripts_link c n es as' (d ∷ ds) = rest_link c n es as' (d ∷ ds)

abbrev pub is_constant : Place → Bool
is_constant (Local g o) = false
is_constant (Dummy m) = false
is_constant (Block b o) = false
is_constant (Constant v) = true

-- a constant is an expression, which has a unit of its own; so is a function
abbrev pub variable_at : SidesTree → List BoundTree → ℕ → Option SymbolTree → Option Link
variable_at c ds n None = None
variable_at c ds n (Some t) = if is_constant t.place then None else Some (variable_link c n t.bounds ds)

abbrev pub element_at : SidesTree → List BoundTree → ExprTrees → ℕ → Option SymbolTree → Option Link
element_at c ds es n None = None
element_at c ds es n (Some t) = if has_bounds t.bounds then Some (subscripts_link c n es t.bounds ds) else None

abbrev pub variable_of : SidesTree → List BoundTree → Option ℕ → Option Link
variable_of c ds None = None
variable_of c ds (Some n) = variable_at c ds n (symbol_at c.caller.symbols n)

abbrev pub element_of : SidesTree → List BoundTree → ExprTrees → Option ℕ → Option Link
element_of c ds es None = None
element_of c ds es (Some n) = element_at c ds es n (symbol_at c.caller.symbols n)

abbrev pub expr_link : SidesTree → List BoundTree → ExprTree → Option Link
expr_link c ds (tree.int n) = None
expr_link c ds (tree.log b) = None
expr_link c ds (tree.name x) = variable_of c ds (number_from 1 c.caller.names x)
expr_link c ds (tree.element x es) = element_of c ds es (number_from 1 c.caller.names x)
expr_link c ds (tree.paren e) = None
expr_link c ds (tree.unary o e) = None
expr_link c ds (tree.binary o a b) = None
expr_link c ds (tree.chars x) = None

abbrev pub actual_link : SidesTree → List BoundTree → Option ExprTree → Option Link
actual_link c ds None = None
actual_link c ds (Some e) = expr_link c ds e

-- ---- a variable of a block (ANSI X3.9-1978 §8.3)

abbrev pub by_unit : List ℕ → ℕ → Option Row → Link
by_unit b r None = link (Whole b) r true [] false
by_unit b r (Some row) = link (Whole b) r true (row ∷ []) true

-- the units of the block
abbrev pub block_link : SidesTree → List ℕ → ℕ → List BoundTree → Link
block_link c b o ds = by_unit b (length ds) (equation (block_position o) (dummy_position c (length ds) 1 ds))

abbrev pub like_or_block : SidesTree → List ℕ → ℕ → List BoundTree → Option ℕ → Link
like_or_block c b o ds None = block_link c b o ds
like_or_block c b o ds (Some n) = same_elements (Own n)

-- the first variable of the caller at the same unit that has the same type, rank and bounds; else the block
abbrev pub common_link : SidesTree → List ℕ → ℕ → SymbolTree → Link
common_link c b o s = like_or_block c b o s.bounds (first_like 1 c.caller.symbols b o c.callee.symbols s c.caller.symbols)

-- ---- all variables

abbrev pub if_saved : SidesTree → SymbolTree → Option Link
if_saved c s = if s.saved then Some (same_elements (Saved c.name s.name)) else None

abbrev pub place_link : SidesTree → SymbolTree → Place → Option Link
place_link c s (Local g o) = if_saved c s
place_link c s (Dummy d) = actual_link c s.bounds (actual_of c.actuals d)
place_link c s (Block b o) = Some (common_link c b o s)
place_link c s (Constant v) = None

abbrev pub symbol_link : SidesTree → Option SymbolTree → Option Link
symbol_link c None = None
symbol_link c (Some s) = place_link c s s.place

-- none of an expression's unit, and of a local that is not saved
abbrev pub link_of : SidesTree → Variable → Option Link
link_of c (Own n) = symbol_link c (symbol_at c.callee.symbols n)
link_of c (Whole b) = Some (same_elements (Whole b))
link_of c (Saved s x) = Some (same_elements (Saved s x))
