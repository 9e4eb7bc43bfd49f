-- The lines of the regions of a module are comment lines that reading drops.
use Rattle.std.proofs.Common.{◌≡◌, ℕ, Bool, true, false, not, List, [], ◌∷◌, ◌++◌, Option, Some, None, refl}
use Rattle.std.specs.Prelude.{if◌then◌else◌}
use Rattle.std.specs.List.{AllByRecursion}
use Rattle.f77_ast.specs.Trees.{StmtTree, WhatTree, ArmTree, ArmTrees, ElseTree, LoopTree, StmtTrees}
use Rattle.f77_ast.specs.Trees as tree
use Rattle.f77_ast.specs.Hidden.{is_hidden}
use Rattle.f77_printer.specs.declared.added.Added.{Added}
use Rattle.f77_ast.specs.declared.results.Results.{Results}
use Rattle.preconditions.specs.transformers.Lists.{value_at}
use Rattle.result_lines.specs.ScalarLines.{says_changes}
use Rattle.system_text.specs.Reading.{Bytes}
use Rattle.in_out_regions.specs.region_sets.declared.region.Region.{Region}
use Rattle.result_lines.specs.RegionLines.{set_lines, found_lines, visible_lines, own_lines, stmt_lines, part_lines, list_lines, arms_lines, arm_lines, else_lines, loop_lines, entry_lines, region_lines_of}
use Rattle.f77_ast.specs.declared.variable.Unit.{Unit as BlockUnit}
use Rattle.f77_ast.specs.declared.variable.Variable.{Variable}
use Rattle.f77_ast.specs.declared.variable.Variable.TheVariants.{Own, Block, Saved}
use Rattle.f77_ast.specs.Symbols.{SymbolTree}
use Rattle.f77_meaning.specs.Modules.{Known, known_of, symbol_names}
use Rattle.loop_marker.specs.module_phases.ScalarPhases.{analyses}
use Rattle.loop_marker.specs.module_phases.RegionPhases.{ModuleRegions, all_regions}
use Rattle.laws_programs.specs.roundtrip_programs.Texts.Texts.{IsPassedOver}
use Rattle.laws_programs.specs.roundtrip_programs.Lines.{IsShown, AreShown}
use Rattle.laws_lines.specs.RegionTexts.Laws.{IsShownVariable, RegionLinesArePassedOver}
use Rattle.laws_lines.specs.Laws.{IsTracked}
use Rattle.laws_lines.proofs.PhaseVars.{each_all, value_is}
use Rattle.laws_lines.specs.Regions.Names.{SymbolNamed, IsNamed}
use Rattle.laws_lines.specs.Regions.LineLaws.{SetLinesPass, RegionLinesPass, AllRegionLinesPass}
use Rattle.laws_lines.proofs.Regions.AccessVars.{IsNamedBy}
use Rattle.laws_lines.proofs.Regions.RegionVars.{AreFine}
use Rattle.laws_lines.proofs.Regions.ProgramRegions.{SetsFine, ModuleFine, modules_fine, each_named, regions_with}
use Rattle.fx_lists.proofs.Lists.{each_append}
use Rattle.fx_lists.proofs.Every.{Every}

abbrev AreShownRegions : List Region → Type 0
AreShownRegions rs = AllByRecursion (λ (r : Region). IsShownVariable r.variable) rs

record SetsShown (sets : Results (List Region)) : Type 0 where
  at : (n : ℕ) (rs : List Region) → value_at sets.at n ≡ Some rs → AreShownRegions rs
  summary : AreShownRegions sets.summary

module _ (law : RegionLinesArePassedOver) (names : List Bytes) (sets : Results (List Region)) (are : AreShown names) (shown : SetsShown sets) where
  abbrev Pass : List Added → Type 0
  Pass xs = AllByRecursion IsPassedOver xs

  both : (xs ys : List Added) → Pass xs → Pass ys → Pass (xs ++ ys)
  both xs ys h k = each_append IsPassedOver xs ys h k

  set_passes : (n : ℕ) (rs : List Region) → AreShownRegions rs → Pass (set_lines names n rs)
  set_passes n [] h = tt
  set_passes n (r ∷ rs) h = let line = law names r are h.0 in (record { comment = line.comment; dropped = line.dropped }, set_passes n rs h.1)

  found_passes : (n : ℕ) → Pass (found_lines names n (value_at sets.at n))
  found_passes n = go (value_at sets.at n) refl
    where
      go : (o : Option (List Region)) → value_at sets.at n ≡ o → Pass (found_lines names n o)
      go None e = tt
      go (Some rs) e = set_passes n rs (shown.at n rs e)

  visible_passes : (n : ℕ) (w : WhatTree) → Pass (visible_lines n w names sets.at)
  visible_passes n w = go (says_changes w)
    where
      go : (b : Bool) → Pass (if b then found_lines names n (value_at sets.at n) else [])
      go true = found_passes n
      go false = tt

  own_passes : (n : ℕ) (w : WhatTree) → Pass (own_lines n w names sets.at)
  own_passes n w = go (not (is_hidden n))
    where
      go : (b : Bool) → Pass (if b then visible_lines n w names sets.at else [])
      go true = visible_passes n w
      go false = tt

  mutual
    stmt_passes : (s : StmtTree) → Pass (stmt_lines s names sets.at)
    stmt_passes (tree.stmt n label w) = both (own_lines n w names sets.at) (part_lines w names sets.at) (own_passes n w) (part_passes w)

    part_passes : (w : WhatTree) → Pass (part_lines w names sets.at)
    part_passes (tree.assign x e) = tt
    part_passes (tree.block_if arms other) = both (arms_lines arms names sets.at) (else_lines other names sets.at) (arms_pass arms) (else_passes other)
    part_passes (tree.logical_if e s) = tt
    part_passes (tree.do_loop l) = loop_passes l
    part_passes (tree.call x es) = tt
    part_passes (tree.goto l) = tt
    part_passes tree.continue = tt
    part_passes tree.return = tt
    part_passes (tree.stop text) = tt
    part_passes (tree.print es) = tt
    part_passes (tree.read es) = tt

    list_passes : (ss : StmtTrees) → Pass (list_lines ss names sets.at)
    list_passes tree.no_stmts = tt
    list_passes (tree.more_stmts s rest) = both (stmt_lines s names sets.at) (list_lines rest names sets.at) (stmt_passes s) (list_passes rest)

    arms_pass : (xs : ArmTrees) → Pass (arms_lines xs names sets.at)
    arms_pass tree.no_arms = tt
    arms_pass (tree.more_arms x rest) = both (arm_lines x names sets.at) (arms_lines rest names sets.at) (arm_passes x) (arms_pass rest)

    arm_passes : (x : ArmTree) → Pass (arm_lines x names sets.at)
    arm_passes (tree.arm test body) = list_passes body

    else_passes : (x : ElseTree) → Pass (else_lines x names sets.at)
    else_passes tree.no_else = tt
    else_passes (tree.otherwise body) = list_passes body

    loop_passes : (l : LoopTree) → Pass (loop_lines l names sets.at)
    loop_passes (tree.loop index first last step body) = list_passes body

  entry_passes : (main : Bool) → Pass (entry_lines main names sets.summary)
  entry_passes true = tt
  entry_passes false = set_passes 0 sets.summary shown.summary

  lines_pass : (main : Bool) (body : StmtTrees) → Pass (region_lines_of main body names sets)
  lines_pass main body = both (entry_lines main names sets.summary) (list_lines body names sets.at) (entry_passes main) (list_passes body)

-- ---- modules

shown_variable : (names : List Bytes) (v : Variable) → IsNamedBy IsShown names v → IsShownVariable v
shown_variable names (Own n) h = tt
shown_variable names (Block b) h = h
shown_variable names (Saved s x) h = h

fine_shown : (names : List Bytes) (ok : ℕ → Type 0) (rs : List Region) → AreFine (IsNamedBy IsShown names) ok rs → AreShownRegions rs
fine_shown names ok [] h = tt
fine_shown names ok (r ∷ rs) h = (shown_variable names r.variable h.0.0, fine_shown names ok rs h.1)

pub names_shown : (ss : List SymbolTree) → AllByRecursion (SymbolNamed IsShown) ss → AreShown (symbol_names ss)
names_shown [] h = tt
names_shown (s ∷ ss) h = record { first = h.0.0; others = names_shown ss h.1 }

pub sets_pass : RegionLinesArePassedOver → (untracked : List BlockUnit) (k : Known) (sets : Results (List Region)) → IsNamed IsShown k → SetsFine IsShown untracked k sets → SetLinesPass k sets
sets_pass law untracked k sets named h =
    let ok = IsTracked untracked k in
    let names = symbol_names k.symbols in
    lines_pass law names sets (names_shown k.symbols named.1) (record {
      at = λ n rs e. fine_shown names ok rs (value_is (AreFine (IsNamedBy IsShown names) ok) sets.at n rs h.at e);
      summary = fine_shown names ok sets.summary h.summary;
    }) k.read.main k.read.body

each_passes : RegionLinesArePassedOver → (untracked : List BlockUnit) (fs : List ModuleRegions) → Every (λ (f : ModuleRegions). IsNamed IsShown f.analysis.found.known) fs → Every (ModuleFine IsShown untracked) fs → Every RegionLinesPass fs
each_passes law untracked [] n h = tt
each_passes law untracked (f ∷ fs) n h = (sets_pass law untracked f.analysis.found.known f.regions n.0 h.0, each_passes law untracked fs n.1 h.1)

pub all_pass : RegionLinesArePassedOver → AllRegionLinesPass
all_pass law ps sss g t n =
    let ks = known_of ps sss in
    let fs = all_regions g (analyses ks g) in
    each_all RegionLinesPass RegionLinesPass (λ f h. h) fs (each_passes law g.untracked fs (regions_with (IsNamed IsShown) ks g (each_named IsShown ks n)) (modules_fine IsShown ps sss g t n))
