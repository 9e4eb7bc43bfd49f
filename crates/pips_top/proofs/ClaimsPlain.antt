-- The lines of claims and on references are no lines for compilers.
use Rattle.std.proofs.Common.{◌≡◌, ℕ, Bool, true, false, not, List, [], ◌∷◌, ◌++◌, Option, Some, None, refl}
use Rattle.std.specs.Prelude.{codes, if◌then◌else◌}
use Rattle.affine_systems.specs.declared.row.System.{System}
use Rattle.f77_ast.specs.Trees.{ExprTree, StmtTree, WhatTree, ArmTree, ArmTrees, ElseTree, LoopTree, StmtTrees}
use Rattle.f77_ast.specs.Trees as tree
use Rattle.f77_ast.specs.Hidden.{is_hidden}
use Rattle.f77_printer.specs.declared.added.Added.{Added}
use Rattle.f77_ast.specs.declared.results.At.{At}
use Rattle.f77_ast.specs.declared.results.Results.{Results}
use Rattle.f77_meaning.specs.Modules.{Known, symbol_names}
use Rattle.in_out_regions.specs.transformer_algebra.declared.transformer.Transformer.{Transformer}
use Rattle.in_out_regions.specs.transformers.Lists.{value_at}
use Rattle.pipsmake_base.specs.module_phases.ScalarPhases.{Analysis}
use Rattle.pipsmake_base.specs.result_lines.ScalarLines.{Said, holds_lines, changes_lines, does_lines, says_changes, entry_lines, said}
use Rattle.pipsmake_base.specs.result_lines.ScalarLines as scalar
use Rattle.in_out_regions.specs.region_sets.declared.region.Region.{Region}
use Rattle.pipsmake_base.specs.result_lines.RegionLines.{set_lines, found_lines}
use Rattle.pipsmake_base.specs.result_lines.RegionLines as region
use Rattle.pipsmake_base.specs.module_phases.OutPhases.{ModuleOuts}
use Rattle.pipsmake_base.specs.loop_marker.Phases.{analysis_in, known_in}
use Rattle.laws_programs.specs.roundtrip_programs.Statements.Formed.{Each}
use Rattle.laws_programs.proofs.RoundtripPrograms.ModuleTexts.Kept.{Each-append}
use Rattle.laws_lines.specs.Marks.Directives.{is_sentinel}
use Rattle.call_graph.specs.declared.graph.Graph.{Graph}
use Rattle.pipsmake_base.specs.loop_marker.Results.{ModuleResults}
use Rattle.laws_bounds.specs.bound_check.CheckLines.{word_line, check_lines_of}
use Rattle.laws_bounds.specs.bound_check.Checked.{ChecksAt, checked_of}
use Rattle.laws_bounds.specs.Said.{knowledge_by}
use Rattle.pips_top.specs.Shown.{checks_of}
use Rattle.pips_top.proofs.LinesFound.{scalar_lines_found, region_lines_found, claims_found}

abbrev IsPlain : Added → Type 0
IsPlain a = is_sentinel a.line ≡ false

abbrev pub ArePlain : List Added → Type 0
ArePlain as' = Each IsPlain as'

pub join : (xs ys : List Added) → ArePlain xs → ArePlain ys → ArePlain (xs ++ ys)
join xs ys h e = Each-append IsPlain xs ys h e

if_plain : (b : Bool) (xs : List Added) → ArePlain xs → ArePlain (if b then xs else [])
if_plain true xs h = h
if_plain false xs h = tt

-- ---- on scalars

holds_plain : (names : List (List ℕ)) (n : ℕ) (o : Option System) → ArePlain (holds_lines names n o)
holds_plain names n None = tt
holds_plain names n (Some p) = record { first = refl; others = tt }

changes_plain : (names : List (List ℕ)) (n : ℕ) (cells : List ℕ) (s : System) → ArePlain (changes_lines names n cells s)
changes_plain names n [] s = tt
changes_plain names n (c ∷ cs) s = record { first = refl; others = tt }

does_plain : (names : List (List ℕ)) (n : ℕ) (o : Option Transformer) → ArePlain (does_lines names n o)
does_plain names n None = tt
does_plain names n (Some t) = changes_plain names n t.cells t.system

entry_plain : (main : Bool) (names : List (List ℕ)) (p : System) (t : Transformer) → ArePlain (entry_lines main names p t)
entry_plain true names p t = tt
entry_plain false names p t = record { first = refl; others = changes_plain names 0 t.cells t.system }

module _ (k : Said) where
  visible_plain : (n : ℕ) (w : WhatTree) → ArePlain (scalar.visible_lines n w k)
  visible_plain n w =
      join (holds_lines k.names n (k.holds n)) (if says_changes w then does_lines k.names n (k.does n) else []) (holds_plain k.names n (k.holds n))
      (if_plain (says_changes w) (does_lines k.names n (k.does n)) (does_plain k.names n (k.does n)))

  own_plain : (n : ℕ) (w : WhatTree) → ArePlain (scalar.own_lines n w k)
  own_plain n w = if_plain (not (is_hidden n)) (scalar.visible_lines n w k) (visible_plain n w)

  mutual
    stmt_plain : (s : StmtTree) → ArePlain (scalar.stmt_lines s k)
    stmt_plain (tree.stmt n label w) = join (scalar.own_lines n w k) (scalar.part_lines w k) (own_plain n w) (part_plain w)

    part_plain : (w : WhatTree) → ArePlain (scalar.part_lines w k)
    part_plain (tree.assign a b) = tt
    part_plain (tree.block_if arms other) = join (scalar.arms_lines arms k) (scalar.else_lines other k) (arms_plain arms) (else_plain other)
    part_plain (tree.logical_if e s) = tt
    part_plain (tree.do_loop l) = loop_plain l
    part_plain (tree.call x es) = tt
    part_plain (tree.goto l) = tt
    part_plain tree.continue = tt
    part_plain tree.return = tt
    part_plain (tree.stop text) = tt
    part_plain (tree.print es) = tt
    part_plain (tree.read es) = tt

    list_plain : (list : StmtTrees) → ArePlain (scalar.list_lines list k)
    list_plain tree.no_stmts = tt
    list_plain (tree.more_stmts s rest) = join (scalar.stmt_lines s k) (scalar.list_lines rest k) (stmt_plain s) (list_plain rest)

    arms_plain : (arms : ArmTrees) → ArePlain (scalar.arms_lines arms k)
    arms_plain tree.no_arms = tt
    arms_plain (tree.more_arms a rest) = join (scalar.arm_lines a k) (scalar.arms_lines rest k) (arm_plain a) (arms_plain rest)

    arm_plain : (a : ArmTree) → ArePlain (scalar.arm_lines a k)
    arm_plain (tree.arm test body) = list_plain body

    else_plain : (other : ElseTree) → ArePlain (scalar.else_lines other k)
    else_plain tree.no_else = tt
    else_plain (tree.otherwise body) = list_plain body

    loop_plain : (l : LoopTree) → ArePlain (scalar.loop_lines l k)
    loop_plain (tree.loop index first last step body) = list_plain body

scalars_plain : (a : Analysis) → ArePlain (scalar_lines_found a)
scalars_plain a =
    let k = a.found.known in
    let names = symbol_names k.symbols in
    let own = a.found.own in
    join (entry_lines k.read.main names a.holds.summary own.summary) (scalar.list_lines k.read.body (said names own.at a.holds.at)) (entry_plain k.read.main names a.holds.summary own.summary)
    (list_plain (said names own.at a.holds.at) k.read.body)

-- ---- on regions

module _ (names : List (List ℕ)) (sets : List (At (List Region))) where
  set_plain : (n : ℕ) (rs : List Region) → ArePlain (set_lines names n rs)
  set_plain n [] = tt
  set_plain n (r ∷ rs) = record { first = refl; others = set_plain n rs }

  found_plain : (n : ℕ) (o : Option (List Region)) → ArePlain (found_lines names n o)
  found_plain n None = tt
  found_plain n (Some rs) = set_plain n rs

  own_set_plain : (n : ℕ) (w : WhatTree) → ArePlain (region.own_lines n w names sets)
  own_set_plain n w =
      if_plain (not (is_hidden n)) (region.visible_lines n w names sets)
      (if_plain (says_changes w) (found_lines names n (value_at sets n)) (found_plain n (value_at sets n)))

  mutual
    stmt_sets_plain : (s : StmtTree) → ArePlain (region.stmt_lines s names sets)
    stmt_sets_plain (tree.stmt n label w) = join (region.own_lines n w names sets) (region.part_lines w names sets) (own_set_plain n w) (part_sets_plain w)

    part_sets_plain : (w : WhatTree) → ArePlain (region.part_lines w names sets)
    part_sets_plain (tree.assign a b) = tt
    part_sets_plain (tree.block_if arms other) = join (region.arms_lines arms names sets) (region.else_lines other names sets) (arms_sets_plain arms) (else_sets_plain other)
    part_sets_plain (tree.logical_if e s) = tt
    part_sets_plain (tree.do_loop l) = loop_sets_plain l
    part_sets_plain (tree.call x es) = tt
    part_sets_plain (tree.goto l) = tt
    part_sets_plain tree.continue = tt
    part_sets_plain tree.return = tt
    part_sets_plain (tree.stop text) = tt
    part_sets_plain (tree.print es) = tt
    part_sets_plain (tree.read es) = tt

    list_sets_plain : (list : StmtTrees) → ArePlain (region.list_lines list names sets)
    list_sets_plain tree.no_stmts = tt
    list_sets_plain (tree.more_stmts s rest) = join (region.stmt_lines s names sets) (region.list_lines rest names sets) (stmt_sets_plain s) (list_sets_plain rest)

    arms_sets_plain : (arms : ArmTrees) → ArePlain (region.arms_lines arms names sets)
    arms_sets_plain tree.no_arms = tt
    arms_sets_plain (tree.more_arms a rest) = join (region.arm_lines a names sets) (region.arms_lines rest names sets) (arm_sets_plain a) (arms_sets_plain rest)

    arm_sets_plain : (a : ArmTree) → ArePlain (region.arm_lines a names sets)
    arm_sets_plain (tree.arm test body) = list_sets_plain body

    else_sets_plain : (other : ElseTree) → ArePlain (region.else_lines other names sets)
    else_sets_plain tree.no_else = tt
    else_sets_plain (tree.otherwise body) = list_sets_plain body

    loop_sets_plain : (l : LoopTree) → ArePlain (region.loop_lines l names sets)
    loop_sets_plain (tree.loop index first last step body) = list_sets_plain body

entry_sets_plain : (main : Bool) (names : List (List ℕ)) (rs : List Region) → ArePlain (region.entry_lines main names rs)
entry_sets_plain true names rs = tt
entry_sets_plain false names rs = set_plain names [] 0 rs

regions_plain : (k : Known) (sets : Results (List Region)) → ArePlain (region_lines_found k sets)
regions_plain k sets =
    let names = symbol_names k.symbols in
    join (region.entry_lines k.read.main names sets.summary) (region.list_lines k.read.body names sets.at) (entry_sets_plain k.read.main names sets.summary) (list_sets_plain names sets.at k.read.body)

-- ---- of a module

pub claims_plain : (f : ModuleOuts) → ArePlain (claims_found f)
claims_plain f =
    let k = known_in f in
    let scalars = scalar_lines_found (analysis_in f) in
    let regions = region_lines_found k f.known.known.regions in
    let ins = region_lines_found k f.known.ins in
    let outs = region_lines_found k f.outs in
    join scalars (regions ++ (ins ++ outs)) (scalars_plain (analysis_in f))
    (join regions (ins ++ outs) (regions_plain k f.known.known.regions) (join ins outs (regions_plain k f.known.ins) (regions_plain k f.outs)))

-- ---- on references

safe_plain : (n : ℕ) (es : List ExprTree) → ArePlain (word_line n (codes "C> SAFE ") es)
safe_plain n [] = tt
safe_plain n (e ∷ es) = record { first = refl; others = tt }

check_plain : (n : ℕ) (es : List ExprTree) → ArePlain (word_line n (codes "C> CHECK ") es)
check_plain n [] = tt
check_plain n (e ∷ es) = record { first = refl; others = tt }

found_checks_plain : (cs : List ChecksAt) → ArePlain (check_lines_of cs)
found_checks_plain [] = tt
found_checks_plain (c ∷ cs) =
    let safe = word_line c.id (codes "C> SAFE ") c.checks.safe in
    let others = word_line c.id (codes "C> CHECK ") c.checks.others in
    join (safe ++ others) (check_lines_of cs) (join safe others (safe_plain c.id c.checks.safe) (check_plain c.id c.checks.others)) (found_checks_plain cs)

pub checks_plain : (bounds : Bool) (g : Graph) (f : ModuleResults) → ArePlain (checks_of bounds g f)
checks_plain false g f = tt
checks_plain true g f = found_checks_plain (checked_of (knowledge_by g f.known f.transformers f.preconditions) f.known.read.body)
