-- What is said of the loops of the modules of a program that was read is as the law of whole texts asks.
use Rattle.std.proofs.Common.{◌≡◌, ℕ, zero, suc, Bool, true, false, List, [], ◌∷◌, ◌++◌, map, Option, Some, None, refl, sym, ap, ◌∙◌, subst, append_assoc}
use Rattle.std.specs.Prelude.{slice_get}
use Rattle.f77_ast.specs.DeclTrees.{ModuleTree, ParsedTree}
use Rattle.f77_printer.specs.declared.added.Added.{Added}
use Rattle.f77_ast.specs.Symbols.{SymbolTree}
use Rattle.f77_ast.specs.declared.variable.Unit.{Unit as BlockUnit}
use Rattle.call_graph.specs.declared.graph.Graph.{Graph}
use Rattle.f77_meaning.specs.Modules.{Known, known_of, symbol_names}
use Rattle.f77_ast.specs.declared.effect_set.EffectSet.{EffectSet}
use Rattle.f77_ast.specs.declared.results.At.{At}
use Rattle.f77_ast.specs.declared.results.Results.{Results}
use Rattle.pipsmake_base.specs.module_phases.ScalarPhases.{analyses, scope_of}
use Rattle.pipsmake_base.specs.module_phases.RegionPhases.{all_regions}
use Rattle.pipsmake_base.specs.module_phases.InPhases.{all_ins}
use Rattle.pipsmake_base.specs.module_phases.OutPhases.{ModuleOuts, all_outs}
use Rattle.f77_ast.specs.declared.marks.Mark.{Mark}
use Rattle.f77_ast.specs.declared.marks.Mark.TheVariants.{Parallel, Serial}
use Rattle.pipsmake_base.specs.loop_marker.Known.{knowledge_of}
use Rattle.pipsmake_base.specs.loop_marker.Marks.{mark_of}
use Rattle.pipsmake_base.specs.privatizer.Functions.{module_functions}
use Rattle.pipsmake_base.specs.result_lines.ReductionLines.{LoopSaid, loop_said, loop_said_at, loops_said, said_lines, reduced_lines_of}
use Rattle.pipsmake_base.specs.result_lines.declared.reduction.Reduction.{Reduction}
use Rattle.pipsmake_base.specs.pipsmake_meaning.Definitions.{printed_of}
use Rattle.pipsmake_base.proofs.ResultLines.SaidLines.{loop_lines_said}
use Rattle.in_out_regions.specs.transformers.Lists.{value_at}
use Rattle.pipsmake_base.specs.loop_marker.Results.{ModuleResults}
use Rattle.pipsmake_base.specs.loop_marker.Phases.{phases_of, analysis_in, known_in, marks_found}
use Rattle.laws_programs.specs.roundtrip_programs.Statements.Formed.{Each}
use Rattle.laws_programs.specs.roundtrip_programs.ModuleTexts.Numbered.{IsWell}
use Rattle.laws_programs.specs.roundtrip_programs.Lines.{IsShown, AreShown}
use Rattle.system_text.specs.Printed.{AreNames}
use Rattle.laws_lines.specs.Marks.Marked.{loops_in, with_functions}
use Rattle.laws_lines.specs.Marks.MarkedLoops.{parallel_in}
use Rattle.laws_lines.specs.Marks.Lines.{IsNumberedSaid, AreNumberedSaid}
use Rattle.laws_lines.specs.Marks.WholeLaws.{IsMarking, IsMarked}
use Rattle.laws_lines.proofs.Marks.MarkNumbers.{marks_numbers}
use Rattle.laws_programs.proofs.Sources.{IsBuilt}
use Rattle.laws_programs.specs.Programs.{AreTables}
use Rattle.laws_bounds.specs.laws_analyses.Coverage.{AreWhole}
use Rattle.pips_top.specs.Program.{ProgramTree}
use Rattle.pipsmake_base.specs.pipsmake_meaning.ResultEntries.{results_for}
use Rattle.laws_bounds.specs.laws_marks.Said.{reductions_of}
use Rattle.pips_top.specs.MarkedText.{loops_of}
use Rattle.pips_top.specs.Shown.{results_of_program, checks_of, lines_with}
use Rattle.pips_top.specs.declared.wanted.Wanted.{Wanted}
use Rattle.pipsmake_base.specs.result_lines.declared.show.Show.{Show}
use Rattle.pipsmake_base.specs.result_lines.declared.show.Show.TheVariants.{All, Bare, Why}
use Rattle.pips_top.proofs.LinesFound.{claims_found}
use Rattle.pips_top.proofs.MarkNames.{MarkNamed, MarksNamed, ReductionNamed, ReductionsNamed, numbers_named, asked_named}
use Rattle.laws_lines.proofs.PhaseVars.{value_is}
use Rattle.pips_top.proofs.ClaimsPlain.{ArePlain, join, claims_plain, checks_plain}
use Rattle.pips_top.proofs.Said.{marks_are}
use Rattle.pips_top.proofs.ModulesSaid.{IsOwn, each_own, known_there}
use Rattle.pips_top.proofs.AddedLines.{IsSaid}
use Rattle.laws_lines.proofs.ProgramLines.{HasNames}
use Rattle.fx_lists.proofs.Every.{Every, every_at}
use Rattle.laws_lines.proofs.Marks.Cases.{numbers}

-- ---- the lines that are added to a module: those of its loops behind others

abbrev pub names_of : Option ModuleResults → List (List ℕ)
names_of None = []
names_of (Some f) = symbol_names f.known.symbols

abbrev pub said_of : Wanted → Graph → Option ModuleResults → List (At LoopSaid)
said_of show g None = []
said_of show g (Some f) = loops_said f.known (reductions_of show.reductions g f) f.marks

abbrev pub shows_why : Show → Bool
shows_why All = true
shows_why Bare = false
shows_why Why = true

abbrev claims_by : Show → ModuleResults → List Added
claims_by All f = claims_found (phases_of f)
claims_by Bare f = []
claims_by Why f = []

abbrev pub others_of : Wanted → Graph → Option ModuleResults → List Added
others_of show g None = []
others_of show g (Some f) = claims_by show.show f ++ checks_of show.bounds g f

parts_by : (show : Show) (f : ModuleResults) (rs : List (At Reduction)) (cs : List Added)
    → reduced_lines_of show f.known (printed_of f) rs cs ≡ (claims_by show f ++ cs) ++ said_lines (symbol_names f.known.symbols) (shows_why show) (loops_said f.known rs f.marks)
parts_by All f rs cs =
    ap (λ (lines : List Added). claims_found (phases_of f) ++ (cs ++ lines)) (loop_lines_said f.known true rs f.marks)
    ∙ sym (append_assoc (claims_found (phases_of f)) cs (said_lines (symbol_names f.known.symbols) true (loops_said f.known rs f.marks)))
parts_by Bare f rs cs = ap (λ (lines : List Added). cs ++ lines) (loop_lines_said f.known false rs f.marks)
parts_by Why f rs cs = ap (λ (lines : List Added). cs ++ lines) (loop_lines_said f.known true rs f.marks)

pub lines_parts : (show : Wanted) (g : Graph) (o : Option ModuleResults) → lines_with show g o ≡ others_of show g o ++ said_lines (names_of o) (shows_why show.show) (said_of show g o)
lines_parts show g None = refl
lines_parts show g (Some f) = parts_by show.show f (reductions_of show.reductions g f) (checks_of show.bounds g f)

by_show_plain : (show : Show) (f : ModuleResults) → ArePlain (claims_by show f)
by_show_plain All f = claims_plain (phases_of f)
by_show_plain Bare f = tt
by_show_plain Why f = tt

others_plain : (show : Wanted) (g : Graph) (o : Option ModuleResults) → ArePlain (others_of show g o)
others_plain show g None = tt
others_plain show g (Some f) = join (claims_by show.show f) (checks_of show.bounds g f) (by_show_plain show.show f) (checks_plain show.bounds g f)

-- ---- the marks of a module

pub found_numbers : (u : List BlockUnit) (f : ModuleOuts) (e : Results EffectSet) → IsWell (known_in f).read → numbers (marks_found u f e) ≡ loops_in (known_in f).read.body
found_numbers u f e w =
    let k = known_in f in
    let a = analysis_in f in
    marks_numbers (mark_of (knowledge_of k.read k.symbols (symbol_names k.symbols) (scope_of u k) e.at a.found.own.at a.holds.at f.known.known.regions.at f.known.ins.at f.outs.at)) k.read w

module _ (functions names : List (List ℕ)) (rs : List (At Reduction)) where
  -- what is said of them has their numbers
  said_numbers : (ms : List (At Mark)) → map (λ (s : At LoopSaid). s.id) (map (loop_said_at functions names rs) ms) ≡ numbers ms
  said_numbers [] = refl
  said_numbers (m ∷ ms) = ap (λ (ns : List ℕ). m.id ∷ ns) (said_numbers ms)

  numbered_said : (v : Mark) (o : Option Reduction) → MarkNamed IsShown names v → ((r : Reduction) → o ≡ Some r → ReductionNamed names r) → IsNumberedSaid names (loop_said functions names v o)
  numbered_said v (Some r) h k = let n = k r refl in (numbers_named functions names r.private n.0, n.1)
  numbered_said (Parallel ns) None h k = (numbers_named functions names ns h, tt)
  numbered_said (Serial r) None h k = tt

  numbered : (ms : List (At Mark)) → MarksNamed IsShown names ms → ReductionsNamed names rs → AreNumberedSaid names (map (loop_said_at functions names rs) ms)
  numbered [] h k = tt
  numbered (m ∷ ms) h k = (numbered_said m.value (value_at rs m.id) h.first (λ r e. value_is (ReductionNamed names) rs m.id r k e), numbered ms h.others k)

-- of a module with this tree
record IsGood (show : Wanted) (g : Graph) (m : ModuleTree) (o : Option ModuleResults) : Type 0 where
  named : AreNames (names_of o)
  shown : AreShown (names_of o)
  marking : IsMarking (names_of o) m.body (said_of show g o)

pub got : {A : Type 0} (P : A → Type 0) (xs : List A) (j : ℕ) (x : A) → Each P xs → slice_get xs j ≡ Some x → P x
got P [] j x h e = cc
got P (y ∷ xs) zero x h e = let same : y ≡ x = cc in subst P same h.first
got P (y ∷ xs) (suc j) x h e = got P xs j x h.others e

each_from : {A : Type 0} (P : A → Type 0) (xs : List A) → ((j : ℕ) (x : A) → slice_get xs j ≡ Some x → P x) → Each P xs
each_from P [] h = tt
each_from P (x ∷ xs) h = record { first = h zero x refl; others = each_from P xs (λ j y e. h (suc j) y e) }

module _ (p : ProgramTree) (show : Wanted) (whole : AreWhole (known_of p.modules p.tables) (analyses (known_of p.modules p.tables) p.graph)) (tables : AreTables p.modules p.tables)
    (built : Each IsBuilt p.modules) (are : Every HasNames (known_of p.modules p.tables)) (said : Each (IsSaid p.graph) (results_of_program p)) where
  abbrev ks : List Known
  ks = known_of p.modules p.tables

  abbrev outs : List ModuleOuts
  outs = all_outs p.graph (all_ins p.graph (all_regions p.graph (analyses ks p.graph)))

  good_at : (i : ℕ) (m : ParsedTree) (ss : List SymbolTree) → slice_get p.modules i ≡ Some m → slice_get ks i ≡ Some (record { read = m.module_read; symbols = ss })
      → IsOwn p (record { read = m.module_read; symbols = ss }) → IsGood show p.graph m.module_read (results_for (results_of_program p) m.module_read.name)
  good_at i m ss e k own =
      let this : Known = record { read = m.module_read; symbols = ss } in
      let f = own.found in
      let b = got IsBuilt p.modules i m built e in
      let names = symbol_names f.known.symbols in
      let functions = module_functions f.known.read in
      let is = got (IsSaid p.graph) (results_of_program p) own.place f said own.there in
      let read : m.module_read ≡ f.known.read = ap (λ (x : Known). x.read) (sym own.known) in
      let found = marks_are p.graph outs own.place f own.there in
      let count = found_numbers p.graph.untracked (phases_of f) f.effects (subst IsWell read b.well) in
      let rs = reductions_of show.reductions p.graph f in
      let here : IsGood show p.graph m.module_read (Some f) = record {
        named = subst HasNames (sym own.known) (every_at HasNames ks i this are k);
        shown = is.names;
        marking = record {
          each = said_numbers functions names rs f.marks ∙ ap numbers found ∙ count ∙ ap (λ (t : ModuleTree). loops_in t.body) (sym read);
          numbered = numbered functions names rs f.marks is.named (asked_named names show.reductions p.graph f is.reduced);
        };
      } in
      subst (IsGood show p.graph m.module_read) (sym own.own) here

  abbrev pub names : ParsedTree → List (List ℕ)
  names m = names_of (results_for (results_of_program p) m.module_read.name)

  abbrev pub loops : ParsedTree → List (At LoopSaid)
  loops m = said_of show p.graph (results_for (results_of_program p) m.module_read.name)

  abbrev pub others : ParsedTree → List Added
  others m = others_of show p.graph (results_for (results_of_program p) m.module_read.name)

  marked_at : (i : ℕ) (m : ParsedTree) → slice_get p.modules i ≡ Some m → IsMarked names loops others m
  marked_at i m e =
      let t = known_there p.modules p.tables i m tables e in
      let g = good_at i m t.0 e t.1 (each_own p whole i (record { read = m.module_read; symbols = t.0 }) t.1) in
      record { named = g.named; shown = g.shown; marking = g.marking; plain = others_plain show p.graph (results_for (results_of_program p) m.module_read.name) }

  -- with the functions of which its loops take values they are the parallel loops that were found
  pub loops_at : (i : ℕ) (m : ParsedTree) → slice_get p.modules i ≡ Some m → with_functions m.module_read (parallel_in (names m) (loops m)) ≡ loops_of show p.graph (results_for (results_of_program p) m.module_read.name)
  loops_at i m e =
      let t = known_there p.modules p.tables i m tables e in
      let own = each_own p whole i (record { read = m.module_read; symbols = t.0 }) t.1 in
      let f = own.found in
      let read : m.module_read ≡ f.known.read = ap (λ (x : Known). x.read) (sym own.known) in
      ap (λ (o : Option ModuleResults). with_functions m.module_read (parallel_in (names_of o) (said_of show p.graph o))) own.own
      ∙ ap (λ (r : ModuleTree). with_functions r (parallel_in (names_of (Some f)) (said_of show p.graph (Some f)))) read
      ∙ ap (loops_of show p.graph) (sym own.own)

  pub all_marked : Each (IsMarked names loops others) p.modules
  all_marked = each_from (IsMarked names loops others) p.modules marked_at
