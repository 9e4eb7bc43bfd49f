-- What it means that each iteration of a DO may have its own copy of a variable.
use Rattle.std.specs.Prelude.{◌≡◌, ℕ, Bool, true, false, List, Option, Some, None, ℤ}
use Rattle.affine_systems.specs.declared.row.System.{System}
use Rattle.f77_ast.specs.Trees.{LoopTree}
use Rattle.f77_ast.specs.declared.variable.Variable.{Variable}
use Rattle.preconditions.specs.transformer_algebra.Claims.{Scene, HoldsAt}
use Rattle.f77_ast.specs.declared.marks.Private.{Private}
use Rattle.f77_ast.specs.declared.marks.Private.TheVariants as answer
use Rattle.in_out_regions.specs.region_sets.declared.region.Access.{Access}
use Rattle.in_out_regions.specs.region_sets.declared.region.Access.TheVariants.{In, Out}
use Rattle.in_out_regions.specs.region_sets.declared.region.Region.{Region}
use Rattle.in_out_regions.specs.region_sets.Claims.{Places, LiesInSet}
use Rattle.privatizer.specs.Uses.{Uses}
use Rattle.f77_ast.specs.Variables.{same_variable}

-- no other variable has the unit
abbrev pub IsAlone : Places → Variable → ℕ → Type 0
IsAlone at v u = (w : Variable) (phi : ℕ → ℤ) → at w phi ≡ Some u → same_variable w v ≡ true

-- where p holds, none of the units that lie in the regions of a kind is one of the variable
abbrev pub NoneLies : System → Access → List Region → Variable → Type 0
NoneLies p k rs v =
    (m : Scene) (at : Places) (x : ℕ → ℤ) → HoldsAt m p x → (units : ℕ → Bool) → ((u : ℕ) → units u ≡ true → LiesInSet m at k rs x u) →
    (u : ℕ) → IsAlone at v u → units u ≡ false

pub record IsPrivate (u : Uses) (v : Variable) : Type 0 where
  -- what an iteration reads before it writes it has no unit of the variable, where that lies in the IN regions of the body
  pub written_first : NoneLies u.head In u.ins v
  -- nor has what the DO writes and the rest of the run reads, where that lies in the OUT regions of the DO
  pub dead : NoneLies u.before Out u.outs v

-- of a DO, which is there
abbrev pub IsPrivateAt : (LoopTree → Uses) → Option LoopTree → Variable → Type 0
IsPrivateAt uses None v = ⊥
IsPrivateAt uses (Some l) v = IsPrivate (uses l) v

abbrev pub IfPrivate : Private → (LoopTree → Uses) → Option LoopTree → Variable → Type 0
IfPrivate answer.Yes uses o v = IsPrivateAt uses o v
IfPrivate answer.Name uses o v = Unit {0}
IfPrivate answer.Carried uses o v = Unit {0}
IfPrivate answer.Live uses o v = Unit {0}
