-- What a line of a region is read as.
use Rattle.std.specs.Prelude.{◌≡◌, ℕ, Bool, true, false, not, if◌then◌else◌, List, [], ◌++◌, map, Option, Some, None, bytes_eq}
use Rattle.std.specs.List.{AllByRecursion, AllZip, list_any}
use Rattle.f77_ast.specs.DeclTrees.{ModuleTree}
use Rattle.f77_ast.specs.Trees.{StmtTree, WhatTree, ArmTrees, ElseTree, LoopTree, StmtTrees}
use Rattle.f77_ast.specs.Trees as tree
use Rattle.f77_ast.specs.Hidden.{is_hidden}
use Rattle.f77_printer.specs.declared.added.Added.{Added}
use Rattle.f77_ast.specs.declared.results.At.{At}
use Rattle.f77_ast.specs.declared.results.Results.{Results}
use Rattle.f77_meaning.specs.Modules.{Known, symbol_names}
use Rattle.preconditions.specs.transformers.Lists.{value_at}
use Rattle.result_lines.specs.ScalarLines.{says_changes}
use Rattle.in_out_regions.specs.region_sets.declared.region.Region.{Region}
use Rattle.laws_lines.specs.RegionTexts.Reading.{phi_names, read_region_line}
use Rattle.laws_lines.specs.RegionTexts.Printed.{as_shown}
use Rattle.laws_lines.specs.RegionTexts.Added.{MeansRegion}

-- PHI1 to PHI7, as subscripts are written
abbrev pub is_phi : List ℕ → Bool
is_phi x = list_any (bytes_eq x) phi_names

-- no symbol is named so: else a line does not tell the symbol from the subscript
abbrev pub HaveNoPhi : List (List ℕ) → Type 0
HaveNoPhi names = list_any is_phi names ≡ false

-- ---- the regions of a module that have lines

abbrev pub regions_at : ℕ → List Region → List (At Region)
regions_at n rs = map (λ r. record { id = n; value = r }) rs

-- those of the set of a statement, by its number
abbrev pub regions_found : ℕ → Option (List Region) → List (At Region)
regions_found n None = []
regions_found n (Some rs) = regions_at n rs

-- those of a statement of the text that may change something
abbrev pub visible_shown : ℕ → WhatTree → List (At (List Region)) → List (At Region)
visible_shown n w sets = if says_changes w then regions_found n (value_at sets n) else []

-- of a statement itself; a hidden one has no line
abbrev pub own_shown : ℕ → WhatTree → List (At (List Region)) → List (At Region)
own_shown n w sets = if not (is_hidden n) then visible_shown n w sets else []

abbrev mutual
  -- of a statement and its parts; the statement of a logical IF has no line of its own
  pub stmt_shown : StmtTree → List (At (List Region)) → List (At Region)
  stmt_shown (tree.stmt n label w) sets = own_shown n w sets ++ part_shown w sets

  pub part_shown : WhatTree → List (At (List Region)) → List (At Region)
  part_shown (tree.assign a b) sets = []
  part_shown (tree.block_if arms other) sets = arms_shown arms sets ++ else_shown other sets
  part_shown (tree.logical_if e s) sets = []
  part_shown (tree.do_loop l) sets = loop_shown l sets
  part_shown (tree.call x es) sets = []
  part_shown (tree.goto l) sets = []
  part_shown tree.continue sets = []
  part_shown tree.return sets = []
  part_shown (tree.stop text) sets = []
  part_shown (tree.print es) sets = []
  part_shown (tree.read es) sets = []

  pub list_shown : StmtTrees → List (At (List Region)) → List (At Region)
  list_shown tree.no_stmts sets = []
  list_shown (tree.more_stmts s rest) sets = stmt_shown s sets ++ list_shown rest sets

  pub arms_shown : ArmTrees → List (At (List Region)) → List (At Region)
  arms_shown tree.no_arms sets = []
  arms_shown (tree.more_arms (tree.arm test body) rest) sets = list_shown body sets ++ arms_shown rest sets

  pub else_shown : ElseTree → List (At (List Region)) → List (At Region)
  else_shown tree.no_else sets = []
  else_shown (tree.otherwise body) sets = list_shown body sets

  pub loop_shown : LoopTree → List (At (List Region)) → List (At Region)
  loop_shown (tree.loop index first last step body) sets = list_shown body sets

-- by the number 0 those that callers of a subroutine or function see
abbrev pub entry_regions : (main : Bool) → List Region → List (At Region)
entry_regions true rs = []
entry_regions false rs = regions_at 0 rs

-- all, in the order of the text
abbrev pub shown_regions : ModuleTree → Results (List Region) → List (At Region)
shown_regions m sets = entry_regions m.main sets.summary ++ list_shown m.body sets.at

-- ---- their lines

-- a line stands before the statement of the region, and is read as just this region, as it is shown: its one flag for lost rows is for each system
abbrev pub IsLineOf : List (List ℕ) → Added → At Region → Type 0
IsLineOf names x r = (x.before ≡ r.id) × (read_region_line names x.line ≡ Some (as_shown r.value))

-- where no symbol is named as a subscript: each of some lines is read as a region that was found there, as it is shown, and there is one line for each region that is shown, in their order
abbrev pub AreRegionLines : Known → Results (List Region) → List Added → Type 0
AreRegionLines k sets lines =
    HaveNoPhi (symbol_names k.symbols) → AllByRecursion (MeansRegion (symbol_names k.symbols) sets) lines × AllZip (IsLineOf (symbol_names k.symbols)) lines (shown_regions k.read sets)
