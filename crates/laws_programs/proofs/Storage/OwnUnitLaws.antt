-- Units of expressions that are actuals.
use Rattle.std.proofs.Common.{◌≡◌, ℕ, ◌<◌, true, false, List, Some, refl, sym, ap, ◌∙◌, arith}
use Rattle.f77_ast.specs.DeclTrees.{ParsedTree}
use Rattle.f77_ast.specs.Calls.{in_place}
use Rattle.f77_ast.specs.Symbols.{SymbolTree}
use Rattle.call_graph.specs.declared.graph.Graph.{Graph}
use Rattle.f77_meaning.specs.Areas.{Area, own, unit_at}
use Rattle.f77_meaning.specs.Modules.{known_of, fixed}
use Rattle.f77_meaning.proofs.UnitLaws.{units_differ}
use Rattle.f77_meaning.proofs.ModuleLaws.{has_room, own_units_apart}
use Rattle.laws_programs.specs.Storage.Programs.{IsLinked, IsModule, known}
use Rattle.laws_programs.specs.Storage.CellLaws.{units, OwnUnitsAreNoNames, OwnUnitsDiffer}
use Rattle.laws_programs.proofs.Storage.ModuleLaws.{declared, area_known, own_known, names_tell_modules}
use Rattle.laws_programs.proofs.Storage.PlaceLaws.{Lies, somewhere, missing, lies, missing_has_none, unit_positive}

pub own_units_are_no_names : OwnUnitsAreNoNames
own_units_are_no_names ps sss g l i j p q ss tt' m n v call place = go (lies (units ps sss g) (known p ss) v)
  where
    go : Lies (units ps sss g) (known p ss) v → in_place (fixed (units ps sss g) (known p ss) v) (unit_at (units ps sss g) (own q.module_read.name call place) 0) ≡ false
    go (somewhere s a e f) = own_units_apart (known_of ps sss) g (known p ss) v s a q.module_read.name call place (declared ps sss i p ss m v s e) f (area_known ps sss g l i p ss m v s a e f) (own_known ps sss g j q tt' n call place)
    go (missing e) = missing_has_none (units ps sss g) (known p ss) v (unit_at (units ps sss g) (own q.module_read.name call place) 0) e (unit_positive (units ps sss g) (own q.module_read.name call place) 0 (own_known ps sss g j q tt' n call place) (has_room (known_of ps sss)))

pub own_units_differ : OwnUnitsDiffer
own_units_differ ps sss g l i j p q ss tt' m n call place call' place' e =
    let same = units_differ (units ps sss g) (own p.module_read.name call place) (own q.module_read.name call' place') 0 0 (own_known ps sss g i p ss m call place) (own_known ps sss g j q tt' n call' place') (has_room (known_of ps sss)) (has_room (known_of ps sss)) e in
    let area = same.0 in
    let names : p.module_read.name ≡ q.module_read.name = cc in
    let calls : call ≡ call' = cc in
    let places : place ≡ place' = cc in
    (names_tell_modules ps sss g l i j p q ss tt' m n names, calls, places)
