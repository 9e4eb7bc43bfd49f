-- The variables of two iterations: the cells that an iteration changes have numbers of their own in each, and so do the subscripts of the later
-- one, where the two are of different variables.
use Rattle.std.specs.Prelude.{ℕ, ◌+◌, List, [], ◌∷◌}
use Rattle.affine_systems.specs.declared.row.Var.{Var}
use Rattle.affine_systems.specs.declared.row.Var.TheVariants.{Cell, Exit, Phi, Aux}
use Rattle.affine_systems.specs.declared.row.System.{System}
use Rattle.affine_systems.specs.Calls.{meet}
use Rattle.hull_projection.specs.Variables.{row_vars}
use Rattle.preconditions.specs.transformer_algebra.declared.naming.Naming.{Naming}
use Rattle.preconditions.specs.transformer_algebra.Renaming.{naming, renamed_by, rename_all}
use Rattle.dependence_test.specs.declared.body.LoopBody.{LoopBody}

-- ---- cells

-- each becomes an auxiliary variable, numbered from a on
abbrev pub cell_namings : ℕ → List ℕ → List Naming
cell_namings a [] = []
cell_namings a (c ∷ cs) = naming (Cell c) (Aux a) ∷ cell_namings (a + 1) cs

-- what holds where an iteration begins, with a system there
abbrev pub at_iteration : ℕ → LoopBody → System → System
at_iteration a b s = rename_all (cell_namings a b.cells) (meet b.head s)

-- the index there
abbrev pub index_at : ℕ → LoopBody → Var
index_at a b = renamed_by (cell_namings a b.cells) (Cell b.index)

-- ---- subscripts

abbrev pub before_subscript : Var → List ℕ → List ℕ
before_subscript (Cell n) ks = ks
before_subscript (Exit n) ks = ks
before_subscript (Phi n) ks = n ∷ ks
before_subscript (Aux n) ks = ks

abbrev pub subscripts : List Var → List ℕ
subscripts [] = []
subscripts (v ∷ vs) = before_subscript v (subscripts vs)

-- those that a system names, ascending
abbrev pub named_subscripts : System → List ℕ
named_subscripts s = subscripts (row_vars s.rows)

-- each becomes an auxiliary variable, numbered from a on
abbrev pub subscript_namings : ℕ → List ℕ → List Naming
subscript_namings a [] = []
subscript_namings a (k ∷ ks) = naming (Phi k) (Aux a) ∷ subscript_namings (a + 1) ks

abbrev pub with_own_subscripts : ℕ → System → System
with_own_subscripts a s = rename_all (subscript_namings a (named_subscripts s)) s
