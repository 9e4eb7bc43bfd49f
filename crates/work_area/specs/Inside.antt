-- What the fields of a work area mean.
use Rattle.std.specs.Prelude.{◌≡◌, ◌≤◌, []}
use Rattle.std.specs.Vec.{vec_capacity}
use Rattle.affine_systems.specs.Rows.{system}
use Rattle.affine_systems.specs.Items.{rows_of}
use Rattle.affine_systems.specs.Given.{Fits}
use Rattle.work_area.specs.declared.work.Work.TheInside.{Inside}
use Rattle.work_area.specs.Columns.{InColumns, noted_rows}
use Rattle.work_area.specs.Tables.{items_of, IsReady}
use Rattle.work_area.specs.Area.{Area, area}

abbrev pub area_in : Inside → Area
area_in w = area (system (rows_of (items_of w.tables)) w.weak) w.columns

-- the places have room for the columns, a system that fits is held, and the sum has just the variables of its rows
pub record IsWork (w : Inside) : Type 0 where
  pub ready : IsReady w.columns w.tables
  pub sum : w.columns ≤ vec_capacity w.sum
  pub noted : w.sum.items ≡ noted_rows [] (rows_of (items_of w.tables))
  pub held : InColumns w.columns (items_of w.tables)
  pub fits : Fits (area_in w).system
