-- What renaming and adding rows keep of the points.
use Rattle.std.proofs.Common.{◌≡◌, List, map, ◌++◌, false, subst, sym}
use Rattle.affine_systems.specs.declared.row.Row.{Row}
use Rattle.affine_systems.specs.declared.row.System.{System}
use Rattle.affine_systems.specs.Points.{Point, HoldsAll}
use Rattle.affine_systems.specs.Rows.{system, renamed_row}
use Rattle.affine_systems.proofs.TidyLaws.{tidy_holds}
use Rattle.affine_systems.proofs.CallLaws.{renamed_same, append_all}
use Rattle.transformer_algebra.specs.declared.naming.Naming.{Naming}
use Rattle.transformer_algebra.specs.Renaming.{renamed_by, rename_all, push_rows, of_rows}
use Rattle.transformer_algebra.specs.RenamingLaws.{RenamesPoints, RenamingKeepsPoints}

pub rename_all_holds : RenamingKeepsPoints
rename_all_holds ns s p h = tidy_holds p (system (map (renamed_row (renamed_by ns)) s.rows) s.weak) ((renamed_same p (renamed_by ns) s.rows).0 h)

pub renames_points : (ns : List Naming) (s t : System) → t ≡ rename_all ns s → RenamesPoints ns s t
renames_points ns s t e = subst (RenamesPoints ns s) (sym e) (rename_all_holds ns s)

pub push_rows_holds : (s : System) (rs : List Row) (p : Point) → HoldsAll p s.rows → HoldsAll p rs → HoldsAll p (push_rows s rs).rows
push_rows_holds s rs p h k = tidy_holds p (system (s.rows ++ rs) s.weak) ((append_all p s.rows rs).0 (h, k))

pub of_rows_holds : (rs : List Row) (p : Point) → HoldsAll p rs → HoldsAll p (of_rows rs).rows
of_rows_holds rs p h = tidy_holds p (system rs false) h
