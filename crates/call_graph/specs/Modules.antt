-- How many modules there are, their names, and their main program.
use Rattle.std.specs.Prelude.{ℕ, suc, Bool, true, false, ◌&&◌, ◌||◌, nat_eq, List, [], ◌∷◌, map, slice_get, Option, Some, None, option_map, if◌then◌else◌}
use Rattle.std.specs.List.{list_any}
use Rattle.f77_ast.specs.declared.places.Part.{Part}
use Rattle.f77_ast.specs.declared.places.Part.TheVariants as part
use Rattle.f77_ast.specs.declared.places.Spot.{Spot}
use Rattle.f77_ast.specs.DeclTrees.{ParsedTree}
use Rattle.f77_ast.specs.Symbols.{number_from}
use Rattle.f77_ast.specs.Hidden.{carrier_in}
pub use Rattle.tracked_cells.specs.Names.{names_of}
use Rattle.fx_lists.specs.declared.code.Code.TheVariants.{TwoMains, ModuleTwice, TooManyModules}
use Rattle.call_graph.specs.declared.refusal.Fault.{Fault}
use Rattle.call_graph.specs.declared.refusal.Fault.TheVariants as fault

-- ---- lines

abbrev pub first_line : List Spot → ℕ
first_line [] = 0
first_line (q ∷ qs) = q.first

-- the line of a module is that of its first statement
abbrev pub module_line : ParsedTree → ℕ
module_line p = first_line p.places.spots

abbrev pub is_statement : ℕ → Part → Bool
is_statement n part.Title = false
is_statement n (part.Decl m) = false
is_statement n (part.Stmt m) = nat_eq m n
is_statement n (part.ElseIf m k) = false
is_statement n (part.Else m) = false
is_statement n (part.Close m) = false
is_statement n part.End = false

-- the line of an executable statement
abbrev pub statement_line : ℕ → List Spot → ℕ
statement_line n [] = 0
statement_line n (q ∷ qs) = if is_statement n q.part then q.first else statement_line n qs

-- an executable statement has a line of its own
abbrev pub has_spot : ℕ → List Spot → Bool
has_spot n [] = false
has_spot n (q ∷ qs) = is_statement n q.part || has_spot n qs

abbrev pub carrier_or : ℕ → Option ℕ → ℕ
carrier_or n None = n
carrier_or n (Some c) = c

-- the line of a CALL: where it has none, that of the statement of the text that it belongs to
abbrev pub call_line : ℕ → ParsedTree → ℕ
call_line n p = statement_line (if has_spot n p.places.spots then n else carrier_or n (carrier_in n p.module_read.body)) p.places.spots

-- ---- the modules of a program

-- so many modules at most
abbrev pub most_modules : ℕ
most_modules = 256

abbrev pub too_many_at : Option ParsedTree → Option Fault
too_many_at None = None
too_many_at (Some p) = Some (fault.At most_modules (module_line p) TooManyModules)

-- a module after these
abbrev pub too_many : List ParsedTree → Option Fault
too_many ps = too_many_at (slice_get ps most_modules)

abbrev pub is_place : ℕ → Option ℕ → Bool
is_place k None = false
is_place k (Some m) = nat_eq m k

-- of these modules, the first of which has the place k, the first whose name is that of an earlier one
abbrev pub twice_from : ℕ → List (List ℕ) → List ParsedTree → Option Fault
twice_from k names [] = None
twice_from k names (p ∷ ps) =
    if is_place k (number_from 0 names p.module_read.name) then twice_from (suc k) names ps
    else Some (fault.At k (module_line p) ModuleTwice)

-- a second module of one name
abbrev pub name_twice : List ParsedTree → Option Fault
name_twice ps = twice_from 0 (names_of ps) ps

-- of these modules the first main program, or the second where one was found before
abbrev pub second_main : ℕ → Bool → List ParsedTree → Option Fault
second_main k found [] = None
second_main k found (p ∷ ps) =
    if p.module_read.main && found then Some (fault.At k (module_line p) TwoMains)
    else second_main (suc k) (found || p.module_read.main) ps

-- a second main program
abbrev pub main_twice : List ParsedTree → Option Fault
main_twice ps = second_main 0 false ps

-- no main program
abbrev pub no_main : List ParsedTree → Option Fault
no_main [] = Some fault.NoMain
no_main (p ∷ ps) = if p.module_read.main then None else no_main ps
