-- Texts that are put together module by module, and modules that are looked for.
use Rattle.std.proofs.Common.{◌≡◌, ℕ, ◌+◌, ◌<◌, List, ◌++◌, get_or, drop, length, map, Option, Some, add-one, ap, sym, ◌∙◌, append_assoc, append-nil, bytes_eq, if◌then◌else◌}
use Rattle.std.specs.Prelude.{fold}
use Rattle.std.proofs.Math.Seq.{drop-cons}
use Rattle.f77_ast.specs.declared.places.Parsed.{Parsed}
use Rattle.f77_ast.specs.PlainDecl.{parsed_tree}
use Rattle.f77_ast.specs.DeclTrees.{ParsedTree}
use Rattle.f77_printer.specs.declared.added.Added.{Added}
use Rattle.pipsmake_base.specs.loop_marker.declared.phases.ModuleResults as code
use Rattle.pipsmake_base.specs.loop_marker.Results.{ModuleResults}
use Rattle.pipsmake_base.specs.loop_marker.Views.{results_tree}
use Rattle.laws_programs.specs.roundtrip_programs.Texts.Texts.{modules_text, text_of}
use Rattle.pipsmake_base.specs.pipsmake_meaning.ResultEntries.{results_for}
use Rattle.pips_top.specs.Counts.{with_module}
use Rattle.pips_top.specs.declared.counts.Counts.{Counts}

pub ruleset text_steps = (append_assoc, append-nil)

pub modules_text-drop_at : (added : ParsedTree → List Added) (ms : List Parsed) (i : ℕ) (p : Parsed) → i < length ms → p ≡ get_or ms i p
    → modules_text added (map parsed_tree (drop i ms)) ≡ text_of added (parsed_tree p) ++ modules_text added (map parsed_tree (drop (i + 1) ms))
modules_text-drop_at added ms i p h e =
    let d : modules_text added (map parsed_tree (drop i ms)) ≡ text_of added (parsed_tree (get_or ms i p)) ++ modules_text added (map parsed_tree (drop (i + 1) ms)) =
    rw (add-one, drop-cons ms i p) in
    d ∙ ap (λ q. text_of added (parsed_tree q) ++ modules_text added (map parsed_tree (drop (i + 1) ms))) (sym e)

-- modules, one after another
pub ruleset module_steps = (modules_text-drop_at, append_assoc, append-nil)

-- what is said of a module, or of one behind it
abbrev pub or_behind : List ℕ → ModuleResults → Option ModuleResults → Option ModuleResults
or_behind x f others = if bytes_eq f.known.read.name x then Some f else others

pub results_for-drop_at : (x : List ℕ) (all : List code.ModuleResults) (i : ℕ) (f : code.ModuleResults) → i < length all → f ≡ get_or all i f
    → results_for (map results_tree (drop i all)) x ≡ or_behind x (results_tree f) (results_for (map results_tree (drop (i + 1) all)) x)
results_for-drop_at x all i f h e =
    let d : results_for (map results_tree (drop i all)) x ≡ or_behind x (results_tree (get_or all i f)) (results_for (map results_tree (drop (i + 1) all)) x) =
    rw (add-one, drop-cons all i f) in
    d ∙ ap (λ b. or_behind x (results_tree b) (results_for (map results_tree (drop (i + 1) all)) x)) (sym e)

-- modules, one after another
pub ruleset result_steps = (results_for-drop_at)

pub counts-drop_at : (counts : Counts) (all : List code.ModuleResults) (i : ℕ) (f : code.ModuleResults) → i < length all → f ≡ get_or all i f
    → fold with_module counts (map results_tree (drop i all)) ≡ fold with_module (with_module counts (results_tree f)) (map results_tree (drop (i + 1) all))
counts-drop_at counts all i f h e =
    let d : fold with_module counts (map results_tree (drop i all)) ≡ fold with_module (with_module counts (results_tree (get_or all i f))) (map results_tree (drop (i + 1) all)) =
    rw (add-one, drop-cons all i f) in
    d ∙ ap (λ b. fold with_module (with_module counts (results_tree b)) (map results_tree (drop (i + 1) all))) (sym e)

-- modules, one after another
pub ruleset count_steps = (counts-drop_at)
