-- Each reference on a line SAFE stays inside its array, at each arrival of a statement that evaluates it.
use Rattle.std.proofs.Common.{◌≡◌, ℕ, zero, suc, ◌<◌, true, List, [], sym, ◌∙◌, subst, arith}
use Rattle.affine_systems.specs.declared.row.Row.{Row}
use Rattle.f77_ast.specs.Trees.{ExprTree}
use Rattle.f77_ast.specs.Trees as tree
use Rattle.f77_ast.specs.DeclTrees.{ModuleTree}
use Rattle.f77_ast.specs.StatementNumbers.{HasNumbers}
use Rattle.f77_ast.specs.Store.{Store}
use Rattle.f77_ast.specs.Steps.{◌>>=◌}
use Rattle.f77_ast.specs.Runs.{Whole, run}
use Rattle.f77_ast.specs.Places.{Names, Places}
use Rattle.f77_ast.specs.Writes.{items_read}
use Rattle.f77_ast.specs.Calls.{actuals}
use Rattle.f77_ast.specs.Programs.{program_plan}
use Rattle.preconditions.specs.transformer_algebra.Laws.{In}
use Rattle.preconditions.specs.transformers.Simple.{named_cells}
use Rattle.call_graph.specs.declared.graph.Graph.{Graph}
use Rattle.call_graph.proofs.EachLaws.{each_of_all, each_place}
use Rattle.f77_meaning.specs.Modules.{known_of, names}
use Rattle.f77_meaning.specs.Linked.{program_of}
use Rattle.f77_meaning.specs.Occurrences.{Occurrence}
use Rattle.bound_check.specs.loop_marker.module_phases.ScalarPhases.{scope_of, Analysis, analyses}
use Rattle.laws_programs.proofs.Effects.Once.{known_at}
use Rattle.laws_programs.proofs.Whole.{bodies_numbered}
use Rattle.laws_analyses.specs.Laws.{AnalysesAreWhole}
use Rattle.laws_analyses.proofs.Regions.Numbering.{each_in}
use Rattle.laws_analyses.proofs.Statements.Ends.{more}
use Rattle.laws_analyses.proofs.ThroughoutLaws.{throughout_more}
use Rattle.bound_check.specs.Safe.{is_safe}
use Rattle.bound_check.specs.Checked.{Knowledge, rows_at}
use Rattle.laws_bounds.specs.Accepted.{ReadChecksHold}
use Rattle.laws_bounds.specs.Claims.{StaysInside, SameBut, SafeHolds, KeepsAt, Keeps, known_by, ChecksHold, AllChecksHold}
use Rattle.laws_bounds.specs.Evaluations.{Evaluation, evaluations}
use Rattle.laws_bounds.specs.Lines.{Evaluated, evaluated, Statement, body_all, SafeLinesAreSafe}
use Rattle.laws_bounds.specs.SafeLines.{AddsNoFault, HoldsIn, HoldsAt, ReadSafeLinesHold}
use Rattle.laws_bounds.proofs.Faults.{element_value_none, element_target_none, element_shown_none, element_actual_none}
use Rattle.laws_bounds.proofs.Parts.{StandsIn, all_stand}
use Rattle.laws_bounds.proofs.Whats.{above, one_statement}

-- ---- a safe reference adds no fault

adds_none : (k : Knowledge) (rs : List Row) (written : List ℕ) (w : Names) (at : Places) (z : Store) (e : ExprTree) → is_safe k.scope k.changed written rs e ≡ true → StaysInside e w at z → AddsNoFault w at z e
adds_none k rs written w at z (tree.element x es) s h = record {
  as_value = λ i n. element_value_none k.scope w at z i x es h n;
  as_target = λ i n. element_target_none k.scope w at z i x es h n;
  as_shown = λ i n. element_shown_none k.scope w at z i x es h n;
  as_actual = λ u i n. element_actual_none k.scope w at z i u x es h n;
}
adds_none k rs written w at z (tree.int n) s h = cc
adds_none k rs written w at z (tree.log b) s h = cc
adds_none k rs written w at z (tree.name x) s h = cc
adds_none k rs written w at z (tree.paren e) s h = cc
adds_none k rs written w at z (tree.unary o e) s h = cc
adds_none k rs written w at z (tree.binary o a b) s h = cc
adds_none k rs written w at z (tree.chars t) s h = cc

-- ---- runs

module _ (g : Graph) (a : Analysis) where
  abbrev by : Knowledge
  by = known_by g a

  abbrev ns : Names
  ns = names a.found.known.symbols

  -- at an arrival of the statement of this number
  stays_at : (n m : ℕ) (at : Places) (s : Store) (written : List ℕ) (e : ExprTree) → m ≡ n → 0 < n → SafeHolds ns by m at s → is_safe by.scope by.changed written (rows_at by n) e ≡ true → (z : Store) → SameBut by.scope at written s z → StaysInside e ns at z
  stays_at n zero at s written e q l h safe z same = absurd (omega (arith, q, l))
  stays_at n (suc m) at s written e q l h safe z same = h written e (subst (λ j. is_safe by.scope by.changed written (rows_at by j) e ≡ true) (sym q) safe) z same

  keeps_at : (n : ℕ) (x : Occurrence) → 0 < n → Keeps ns by.scope a.found.known.read.body n x → KeepsAt ns by.scope a.found.known.read.body x
  keeps_at zero x l h = absurd (omega (arith, l))
  keeps_at (suc n) x l h = h

  module _ (numbers : HasNumbers a.found.known.read.body) (s : Statement) (stands : In s (body_all a.found.known.read.body)) (written : List ℕ) (e : ExprTree) (safe : is_safe by.scope by.changed written (rows_at by s.number) e ≡ true) (v : Evaluation) (evaluated_is : In v (evaluations s.what)) (w : written ≡ named_cells by.scope.scalars v.items) where
    at_store : (x : Occurrence) → x.spot.statement ≡ s.number → ChecksHold g a x → (z : Store) → SameBut by.scope x.places (named_cells by.scope.scalars v.items) x.start z → StaysInside e ns x.places z × AddsNoFault ns x.places z e
    at_store x number h z same =
        let inside = stays_at s.number x.spot.statement x.places x.start written e number (above a.found.known.read.body numbers s stands) h.safe safe z (subst (λ cs. SameBut by.scope x.places cs x.start z) (sym w) same) in
        (inside, adds_none by (rows_at by s.number) written ns x.places z e safe inside)

    holds_at : (x : Occurrence) → (a.found.known.read.name ≡ x.spot.module_name → ChecksHold g a x) → HoldsAt a s v e x
    holds_at x h name number =
        let c = h name in
        let positive : 0 < x.spot.statement = subst (λ n. 0 < n) (sym number) (above a.found.known.read.body numbers s stands) in
        let k = keeps_at x.spot.statement x positive c.keeps in
        let same : k.statement ≡ s = one_statement a.found.known.read.body numbers k.statement s k.stands stands (k.number ∙ number) in
        subst (λ (t : Statement). In v (evaluations t.what) → HoldsIn ns t v e x) same
        (λ j. record {
          plan = k.plan;
          input = k.input;
          ran = k.ran;
          does = k.does;
          holds = more (run (items_read v.items ns x.places k.does.locked >>= λ o. actuals v.actuals 0 ns x.places (k.does.scope.own_unit k.statement.number)) (Whole x.start) k.input)
              (λ xs z i. SameBut by.scope x.places (named_cells by.scope.scalars v.items) x.start z) (λ xs z i. StaysInside e ns x.places z × AddsNoFault ns x.places z e) (λ xs z i q. at_store x number c z q) (k.keeps v j);
        }) evaluated_is

-- of each module of a program that is read
pub safe_lines_hold : SafeLinesAreSafe → ReadChecksHold → AnalysesAreWhole → ReadSafeLinesHold
safe_lines_hold lines hold whole ps sss g x j a there_is c i e k =
    let ks = known_of ps sss in
    let as' = analyses ks g in
    let body = a.found.known.read.body in
    let f = lines (known_by g a) body c i e k in
    let at = (whole ps sss g x).modules j a there_is in
    let m = known_at ps sss at.0 a.found.known at.1 in
    let numbers : HasNumbers body = subst (λ (t : ModuleTree). HasNumbers t.body) m.3 (bodies_numbered x.lines ps x.parsed at.0 m.0 m.1) in
    let r : Evaluated = record { element = e; written = f.written } in
    let p = each_in (StandsIn (scope_of g.untracked a.found.known) (evaluations f.statement.what)) (evaluated (scope_of g.untracked a.found.known) f.statement.what) r (all_stand (scope_of g.untracked a.found.known) f.statement.what) f.is_evaluated in
    record {
      statement = f.statement;
      stands = f.stands;
      line_is = f.line;
      evaluation = p.evaluation;
      is_evaluated = p.among;
      refers = p.refers;
      holds = λ turns input.
          throughout_more (AllChecksHold g as') (HoldsAt a f.statement p.evaluation e)
          (λ o h. holds_at g a numbers f.statement f.stands f.written e f.safe p.evaluation p.among p.written o (each_place (λ (b : Analysis). b.found.known.read.name ≡ o.spot.module_name → ChecksHold g b o) as' j a (each_of_all (λ (b : Analysis). b.found.known.read.name ≡ o.spot.module_name → ChecksHold g b o) as' h) there_is))
          (program_plan (program_of ks g) turns) (program_of ks g).initial input (λ f s i. []) (hold ps sss g x turns input);
    }
