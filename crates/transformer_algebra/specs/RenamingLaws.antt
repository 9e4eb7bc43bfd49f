-- What renaming keeps of the points.
use Rattle.std.specs.Prelude.{List}
use Rattle.affine_systems.specs.declared.row.System.{System}
use Rattle.affine_systems.specs.Points.{Point, HoldsAll}
use Rattle.transformer_algebra.specs.declared.naming.Naming.{Naming}
use Rattle.transformer_algebra.specs.Renaming.{renamed_by, rename_all}

-- a point that reads what stands for each variable is a point of t
abbrev pub RenamesPoints : List Naming → System → System → Type 0
RenamesPoints ns s t = (p : Point) → HoldsAll (λ v. p (renamed_by ns v)) s.rows → HoldsAll p t.rows

abbrev pub RenamingKeepsPoints : Type 0
RenamingKeepsPoints = (ns : List Naming) (s : System) → RenamesPoints ns s (rename_all ns s)
