-- The texts of modules, written from stored results, whatever these are, with the directives of loops with reduction variables and the lines on references.
use Rattle.std.specs.Prelude.{◌≡◌, ℕ, Bool, true, false, List, [], ◌∷◌, Option, Some, option_map, option_and_then}
use Rattle.f77_ast.specs.declared.effect_set.EffectSet.{EffectSet}
use Rattle.f77_ast.specs.declared.results.At.{At}
use Rattle.f77_printer.specs.ModuleText as printer
use Rattle.f77_printer.specs.declared.added.Added.{Added}
use Rattle.f77_ast.specs.PlainDecl.{module_tree}
use Rattle.pipsmake_base.specs.pipsmake_db.declared.kept.KeptModule.{KeptModule}
use Rattle.call_graph.specs.declared.graph.Graph.{Graph}
use Rattle.f77_meaning.specs.Modules.{Known, symbol_names}
use Rattle.pipsmake_base.specs.module_phases.ScalarPhases.{scope_of}
use Rattle.pipsmake_base.specs.loop_marker.Known.{knowledge_of}
use Rattle.pipsmake_base.specs.result_lines.Lines.{PrintedResults}
use Rattle.pipsmake_base.specs.result_lines.ReductionLines.{reduced_lines_of}
use Rattle.pipsmake_base.specs.result_lines.declared.reduction.Reduction.{Reduction}
use Rattle.reductions.specs.Reduced.{reduced_of}
use Rattle.laws_bounds.specs.Said.{checks_said}
use Rattle.pipsmake_base.specs.pipsmake_meaning.Texts.{ModuleText, ReadModule, graph_of}
use Rattle.pipsmake_base.specs.pipsmake_meaning.Definitions.{module_named}
use Rattle.pipsmake_base.specs.pipsmake_meaning.Rules.{known as known_read}
use Rattle.pipsmake_base.specs.module_phases.ScalarViews.{known}
use Rattle.pipsmake_base.specs.laws_database.ProgramTexts.{before_text}
use Rattle.pipsmake_base.specs.laws_database.Stands.{Valuation}
use Rattle.pipsmake_base.specs.laws_database.Unverified.{stored_results}
use Rattle.pipsmake_base.specs.pipsmake_db.State.{texts_of, memo_cells_in}
use Rattle.pipsmake_base.specs.pipsmake_db.declared.db.Db.{Db}
use Rattle.pipsmake_base.specs.pipsmake_meaning.Rules.{kept_results}
use Rattle.pipsmake_base.specs.pipsmake_meaning.Texts.{names_in}
use Rattle.pips_top.specs.declared.wanted.Wanted.{Wanted}

-- which loops have reduction variables rests on what a mark rests on, but for effects
abbrev pub no_effects : List (At EffectSet)
no_effects = []

abbrev pub reductions_known : Bool → Graph → Known → PrintedResults → List (At Reduction)
reductions_known false g k r = []
reductions_known true g k r =
    reduced_of (knowledge_of k.read k.symbols (symbol_names k.symbols) (scope_of g.untracked k) no_effects r.transformers.at r.preconditions.at r.regions.at r.ins.at r.outs.at) g.order r.marks

-- the lines that are wanted beside a module with results
abbrev pub lines_known : Wanted → Graph → Known → PrintedResults → List Added
lines_known w g k r = reduced_lines_of w.show k r (reductions_known w.reductions g k r) (checks_said w.bounds g k r.transformers r.preconditions)

-- the written text of a module with results
abbrev pub text_wanted : Wanted → Graph → ReadModule → PrintedResults → List ℕ
text_wanted w g m r = printer.module_text m.module_is.places m.module_is.module_read (lines_known w g (known_read m) r)

-- of the module of a name, with its stored results
abbrev pub module_from : List ModuleText → Valuation → Wanted → List ℕ → Option (List ℕ)
module_from ts stored w x = option_and_then (λ m. option_map (text_wanted w (graph_of ts) m) (stored_results stored x)) (module_named ts x)

-- those of these modules one after another, where there are all
abbrev pub texts_wanted : List ModuleText → Valuation → Wanted → List (List ℕ) → Option (List ℕ)
texts_wanted ts stored w [] = Some []
texts_wanted ts stored w (x ∷ xs) = before_text (module_from ts stored w x) (texts_wanted ts stored w xs)

-- ---- a database

-- of the module of a name, with what is kept of it
abbrev pub module_kept : Wanted → Db → List ℕ → Option (List ℕ)
module_kept w d x = option_and_then (λ m. option_map (text_wanted w (graph_of (texts_of d)) m) (kept_results (memo_cells_in d) x)) (module_named (texts_of d) x)

abbrev pub modules_kept : Wanted → Db → List (List ℕ) → Option (List ℕ)
modules_kept w d [] = Some []
modules_kept w d (x ∷ xs) = before_text (module_kept w d x) (modules_kept w d xs)

-- the text is that of all modules of a database, with what is kept of them
abbrev pub KeptTexts : Wanted → Db → List ℕ → Type 0
KeptTexts w d text = modules_kept w d (names_in (texts_of d)) ≡ Some text

-- ---- what is lent of a module

abbrev pub lent_results : KeptModule → PrintedResults
lent_results k = record { transformers = k.transformers.now; preconditions = k.preconditions.now; regions = k.regions.now; ins = k.ins.now; outs = k.outs.now; marks = k.marks.now }

abbrev pub lent_module : KeptModule → Known
lent_module k = known k.«module».now k.symbols.now

abbrev pub kept_lines : Wanted → KeptModule → List Added
kept_lines w k = lines_known w k.graph.now (lent_module k) (lent_results k)

abbrev pub kept_text : Wanted → KeptModule → List ℕ
kept_text w k = printer.module_text k.places.now (module_tree k.«module».now) (kept_lines w k)
