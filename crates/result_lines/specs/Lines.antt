-- The lines that say the results of a module.
use Rattle.std.specs.Prelude.{Bool, true, false, List, ◌++◌}
use Rattle.affine_systems.specs.declared.row.System.{System}
use Rattle.f77_printer.specs.declared.added.Added.{Added}
use Rattle.f77_ast.specs.declared.results.At.{At}
use Rattle.f77_ast.specs.declared.results.Results.{Results}
use Rattle.f77_meaning.specs.Modules.{Known, symbol_names}
use Rattle.transformers.specs.transformer_algebra.declared.transformer.Transformer.{Transformer}
use Rattle.result_lines.specs.ScalarLines as scalars
use Rattle.region_sets.specs.declared.region.Region.{Region}
use Rattle.f77_ast.specs.declared.marks.Mark.{Mark}
use Rattle.result_lines.specs.RegionLines as regions
use Rattle.result_lines.specs.MarkLines as marks
use Rattle.result_lines.specs.ShownMarks.{shown_marks}
use Rattle.result_lines.specs.declared.show.Show.{Show}
use Rattle.result_lines.specs.declared.show.Show.TheVariants.{All, Bare, Why}
use Rattle.result_lines.specs.declared.lines.PrintedResults as code

-- the results of a module that lines say
pub record PrintedResults : Type 0 where
  pub transformers : Results Transformer
  pub preconditions : Results System
  pub regions : Results (List Region)
  pub ins : Results (List Region)
  pub outs : Results (List Region)
  pub marks : List (At Mark)

abbrev pub printed_tree : code.PrintedResults → PrintedResults
printed_tree r = record { transformers = r.transformers.now; preconditions = r.preconditions.now; regions = r.regions.now; ins = r.ins.now; outs = r.outs.now; marks = r.marks.now }

-- what is written of the preconditions and transformers of a module
abbrev pub scalar_lines_of : Known → Results Transformer → Results System → List Added
scalar_lines_of k own holds = scalars.scalar_lines_of k.read.main k.read.body (symbol_names k.symbols) own holds

-- and of its sets of regions of a kind
abbrev pub region_lines_of : Known → Results (List Region) → List Added
region_lines_of k sets = regions.region_lines_of k.read.main k.read.body (symbol_names k.symbols) sets

-- those on scalars, behind them those on READ and WRITE, then those on IN, and then those on OUT
abbrev pub claims_of : Known → PrintedResults → List Added
claims_of k r = scalar_lines_of k r.transformers r.preconditions ++ (region_lines_of k r.regions ++ (region_lines_of k r.ins ++ region_lines_of k r.outs))

-- the directives of its parallel loops, without the names of functions, and, where `why` says so, the obstacles of the others
abbrev pub mark_lines_of : Known → Bool → List (At Mark) → List Added
mark_lines_of k why ms = marks.mark_lines_of (symbol_names k.symbols) why (shown_marks k.read (symbol_names k.symbols) ms)

abbrev pub lines_of : Show → Known → PrintedResults → List Added
lines_of All k r = claims_of k r ++ mark_lines_of k true r.marks
lines_of Bare k r = mark_lines_of k false r.marks
lines_of Why k r = mark_lines_of k true r.marks
