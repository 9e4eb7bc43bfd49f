-- Without reduction variables and subscript checks, lines and texts are those of the results alone.
use Rattle.std.proofs.Common.{◌≡◌, ℕ, Bool, true, false, not, List, [], ◌∷◌, Option, Some, None, refl, ap, ◌∙◌}
use Rattle.std.specs.Prelude.{◌&&◌, option_map, option_and_then}
use Rattle.f77_ast.specs.DeclTrees.{ModuleTree}
use Rattle.f77_printer.specs.ModuleText as printer
use Rattle.f77_printer.specs.declared.added.Added.{Added}
use Rattle.call_graph.specs.declared.graph.Graph.{Graph}
use Rattle.f77_meaning.specs.Modules.{Known}
use Rattle.laws_programs.specs.roundtrip_programs.Texts.Texts.{modules_text}
use Rattle.laws_programs.specs.roundtrip_programs.Written.Laws.{by_tree}
use Rattle.pipsmake_base.specs.loop_marker.Results.{ModuleResults}
use Rattle.pipsmake_base.specs.result_lines.Lines.{PrintedResults, lines_of}
use Rattle.pipsmake_base.specs.result_lines.ReductionLines.{reduced_lines_of}
use Rattle.pipsmake_base.specs.result_lines.declared.show.Show.{Show}
use Rattle.pipsmake_base.specs.result_lines.declared.show.Show.TheVariants.{All, Bare, Why}
use Rattle.pipsmake_base.specs.pipsmake_meaning.ResultEntries.{results_for}
use Rattle.pipsmake_base.specs.pipsmake_meaning.Definitions.{module_named, printed_of}
use Rattle.pipsmake_base.specs.pipsmake_meaning.Rules.{known}
use Rattle.pipsmake_base.specs.pipsmake_meaning.Texts.{ModuleText, ReadModule}
use Rattle.pipsmake_base.specs.laws_database.ProgramTexts as stood
use Rattle.pipsmake_base.specs.laws_database.Stands.{Valuation}
use Rattle.pipsmake_base.specs.laws_database.Unverified.{stored_results}
use Rattle.pipsmake_base.specs.pipsmake_db.Shown.{printed_from, texts_from}
use Rattle.pips_top.specs.Kept.{module_from, texts_wanted}
use Rattle.pips_top.specs.Program.{ProgramTree}
use Rattle.pips_top.specs.Shown.{alone, is_alone, lines_wanted, lines_with, lines_found, results_of_program}
use Rattle.pips_top.specs.declared.wanted.Wanted.{Wanted}
use Rattle.pips_top.specs.Written.{written}

-- ---- what is wanted

alone_by : (s : Show) (r b : Bool) → (not r && not b) ≡ true → record { show = s; reductions = r; bounds = b } ≡ alone s
alone_by s true b e = cc
alone_by s false true e = cc
alone_by s false false e = refl

pub alone_is : (w : Wanted) → is_alone w ≡ true → w ≡ alone w.show
alone_is w e = alone_by w.show w.reductions w.bounds e

-- ---- lines

pub lines_alone : (s : Show) (k : Known) (r : PrintedResults) → reduced_lines_of s k r [] [] ≡ lines_of s k r
lines_alone All k r = refl
lines_alone Bare k r = refl
lines_alone Why k r = refl

pub wanted_alone : (w : Wanted) (g : Graph) (f : ModuleResults) → is_alone w ≡ true → lines_wanted w g f ≡ lines_of w.show f.known (printed_of f)
wanted_alone w g f e = ap (λ (v : Wanted). lines_wanted v g f) (alone_is w e) ∙ lines_alone w.show f.known (printed_of f)

with_alone : (s : Show) (g : Graph) (o : Option ModuleResults) → lines_with (alone s) g o ≡ stood.lines_with s o
with_alone s g None = refl
with_alone s g (Some f) = lines_alone s f.known (printed_of f)

pub found_alone : (s : Show) (g : Graph) (fs : List ModuleResults) (m : ModuleTree) → lines_found (alone s) g fs m ≡ stood.lines_found s fs m
found_alone s g fs m = with_alone s g (results_for fs m.name)

-- ---- programs

pub written_alone : (s : Show) (p : ProgramTree) → written (alone s) p ≡ stood.program_text s p.modules p.tables p.graph
written_alone s p =
    let fs : List ModuleResults = results_of_program p in
    let same : lines_found (alone s) p.graph fs ≡ stood.lines_found s fs = λ i m. found_alone s p.graph fs m i in
    ap (λ (added : ModuleTree → List Added). modules_text (by_tree added) p.modules) same

-- ---- stored results

module_alone : (ts : List ModuleText) (stored : Valuation) (s : Show) (x : List ℕ) → module_from ts stored (alone s) x ≡ printed_from ts stored s x
module_alone ts stored s x =
    λ i. option_and_then (λ (m : ReadModule). option_map (λ (r : PrintedResults). printer.module_text m.module_is.places m.module_is.module_read (lines_alone s (known m) r i)) (stored_results stored x)) (module_named ts x)

pub texts_alone : (ts : List ModuleText) (stored : Valuation) (s : Show) (xs : List (List ℕ)) → texts_wanted ts stored (alone s) xs ≡ texts_from ts stored s xs
texts_alone ts stored s [] = refl
texts_alone ts stored s (x ∷ xs) = λ i. stood.before_text (module_alone ts stored s x i) (texts_alone ts stored s xs i)
