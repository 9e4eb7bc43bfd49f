-- Steps of the loops over cells and subscripts, and over pairs of regions.
use Rattle.std.proofs.Common.{◌≡◌, ℕ, List, [], ◌∷◌, ◌++◌, Option, Some, None, append_assoc, append-nil, refl}
use Rattle.affine_systems.specs.declared.row.Var.{Var}
use Rattle.affine_systems.specs.declared.row.Var.TheVariants.{Cell, Exit, Phi, Aux}
use Rattle.affine_systems.specs.declared.row.System.{System}
use Rattle.dependence_test.specs.Variables.{before_subscript}
use Rattle.dependence_test.specs.Conflicts.{or_else}

pub subscript_more : (v : Var) (ks : List ℕ) → before_subscript v [] ++ ks ≡ before_subscript v ks
subscript_more (Cell n) ks = refl
subscript_more (Exit n) ks = refl
subscript_more (Phi n) ks = refl
subscript_more (Aux n) ks = refl

pub ruleset lists = (append_assoc, append-nil, subscript_more)

pub else_some : (o q : Option System) (s : System) → Some s ≡ o → or_else o q ≡ Some s
else_some None q s e = cc
else_some (Some r) q s e = cc

pub else_none : (o q : Option System) → None ≡ o → or_else o q ≡ q
else_none None q e = refl
else_none (Some r) q e = cc

pub ruleset pairs = (else_some, else_none)
