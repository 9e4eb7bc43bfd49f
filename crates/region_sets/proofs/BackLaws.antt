-- What the calls on systems keep backwards, where no row was lost; and that a result which lost no row has operands that lost none.
use Rattle.std.proofs.Common.{◌≡◌, List, [], ◌∷◌, ◌++◌, map, ◌||◌, true, false}
use Rattle.std.proofs.lemmas.Bool.{or_parts}
use Rattle.affine_systems.specs.declared.row.Var.{Var}
use Rattle.affine_systems.specs.declared.row.Row.{Row}
use Rattle.affine_systems.specs.declared.row.System.{System}
use Rattle.affine_systems.specs.Points.{Point, HoldsAll}
use Rattle.affine_systems.specs.Rows.{system, renamed_row}
use Rattle.affine_systems.specs.Items.{items_from}
use Rattle.affine_systems.specs.Tidy.{tidy, tidy_items}
use Rattle.affine_systems.specs.Calls.{meet}
use Rattle.affine_systems.specs.Eliminate.{eliminate, eliminate_item}
use Rattle.affine_systems.proofs.TidyLaws.{tidy_back}
use Rattle.affine_systems.proofs.CallLaws.{append_all, renamed_same}
use Rattle.hull_projection.specs.declared.projection.Shadow.{Shadow}
use Rattle.hull_projection.specs.Project.{shadow, shadow_after, eliminate_each, project}
use Rattle.hull_projection.specs.Variables.{in_order}
use Rattle.transformers.specs.transformer_algebra.declared.naming.Naming.{Naming}
use Rattle.transformers.specs.transformer_algebra.Renaming.{renamed_by, rename_all, push_rows}

-- ---- no row was lost

pub tidy_weak : (s : System) → (tidy s).weak ≡ false → s.weak ≡ false
tidy_weak s h = (or_parts s.weak (tidy_items false (items_from 0 s.rows)).lost h).0

pub rename_weak : (ns : List Naming) (s : System) → (rename_all ns s).weak ≡ false → s.weak ≡ false
rename_weak ns s h = tidy_weak (system (map (renamed_row (renamed_by ns)) s.rows) s.weak) h

pub push_weak : (s : System) (rs : List Row) → (push_rows s rs).weak ≡ false → s.weak ≡ false
push_weak s rs h = tidy_weak (system (s.rows ++ rs) s.weak) h

pub meet_weak : (a b : System) → (meet a b).weak ≡ false → (a.weak ≡ false) × (b.weak ≡ false)
meet_weak a b h = or_parts a.weak b.weak (tidy_weak (system (a.rows ++ b.rows) (a.weak || b.weak)) h)

eliminate_weak : (s : System) (v : Var) → (eliminate s v).system.weak ≡ false → s.weak ≡ false
eliminate_weak s v h = (or_parts s.weak (eliminate_item false v (items_from 0 s.rows)).lost h).0

each_weak : (s : Shadow) (vs : List Var) → (eliminate_each s vs).system.weak ≡ false → s.system.weak ≡ false
each_weak s [] h = h
each_weak s (v ∷ vs) h = eliminate_weak s.system v (each_weak (shadow_after s (eliminate s.system v)) vs h)

pub project_weak : (s : System) (vs : List Var) → (project s vs).system.weak ≡ false → s.weak ≡ false
project_weak s vs h = each_weak (shadow s true) (in_order vs) h

-- ---- backwards

pub rename_all_back : (ns : List Naming) (s : System) (p : Point) → (rename_all ns s).weak ≡ false → HoldsAll p (rename_all ns s).rows → HoldsAll (λ v. p (renamed_by ns v)) s.rows
rename_all_back ns s p w h = (renamed_same p (renamed_by ns) s.rows).1 (tidy_back p (system (map (renamed_row (renamed_by ns)) s.rows) s.weak) w h)

pub push_rows_back : (s : System) (rs : List Row) (p : Point) → (push_rows s rs).weak ≡ false → HoldsAll p (push_rows s rs).rows → HoldsAll p s.rows × HoldsAll p rs
push_rows_back s rs p w h = (append_all p s.rows rs).1 (tidy_back p (system (s.rows ++ rs) s.weak) w h)
