-- Whether each iteration of a DO may have its own copy of a variable.
use Rattle.std.specs.Prelude.{Bool, true, false, not, ◌&&◌, ◌||◌, List, [], ◌∷◌, Option, Some, None}
use Rattle.affine_systems.specs.declared.row.System.{System}
use Rattle.affine_systems.specs.Calls.{meet}
use Rattle.hull_projection.specs.Refute.{refuted}
use Rattle.f77_ast.specs.Trees.{LoopTree}
use Rattle.f77_ast.specs.DeclTrees.{ModuleTree}
use Rattle.f77_ast.specs.Symbols.{SymbolTree}
use Rattle.f77_ast.specs.declared.variable.Variable.{Variable}
use Rattle.f77_ast.specs.declared.marks.Private.{Private}
use Rattle.f77_ast.specs.declared.marks.Private.TheVariants.{Yes, Name, Carried, Live}
use Rattle.in_out_regions.specs.region_sets.declared.region.Region.{Region}
use Rattle.privatizer.specs.Uses.{Uses}
use Rattle.privatizer.specs.Names.{may_copy}
use Rattle.f77_ast.specs.Variables.{same_variable}

-- a system has a point where another holds, as far as is known
abbrev pub may_hold : System → System → Bool
may_hold p s = not (refuted (meet s p).rows)

abbrev pub some_may_hold : System → List System → Bool
some_may_hold p [] = false
some_may_hold p (s ∷ ss) = may_hold p s || some_may_hold p ss

abbrev pub region_may : System → Variable → Region → Bool
region_may p v r = same_variable r.variable v && some_may_hold p r.pieces

-- where p holds, a unit of the variable may lie in one of the regions
abbrev pub may_lie : System → Variable → List Region → Bool
may_lie p v [] = false
may_lie p v (r ∷ rs) = region_may p v r || may_lie p v rs

-- the body reads a unit of it before it writes it: it may come from an earlier iteration
abbrev pub is_carried : Uses → Variable → Bool
is_carried u v = may_lie u.head v u.ins

-- what the DO writes of it is used later
abbrev pub is_live : Uses → Variable → Bool
is_live u v = may_lie u.before v u.outs

-- the first reason, in this order
abbrev pub private_by : Bool → Bool → Bool → Private
private_by false carried live = Name
private_by true true live = Carried
private_by true false true = Live
private_by true false false = Yes

abbrev pub private_in : ModuleTree → List SymbolTree → Uses → Variable → Private
private_in m ss u v = private_by (may_copy m ss v) (is_carried u v) (is_live u v)

-- of a DO, where it is there
abbrev pub private_at : ModuleTree → List SymbolTree → Variable → (LoopTree → Uses) → Option LoopTree → Private
private_at m ss v uses None = Name
private_at m ss v uses (Some l) = private_in m ss (uses l) v
