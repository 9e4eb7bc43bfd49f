-- READ and WRITE of statements and modules: variables with names, READ and WRITE alone, and systems that calls take.
use Rattle.std.proofs.Common.{◌≡◌, ℕ, Bool, true, false, ◌&&◌, List, [], ◌∷◌, ◌++◌, Option, Some, None, refl}
use Rattle.std.specs.Prelude.{option_to_list, option_map, nat_lt}
use Rattle.affine_systems.specs.declared.row.Var.{Var}
use Rattle.affine_systems.specs.declared.row.Var.TheVariants.{Cell, Exit, Phi, Aux}
use Rattle.affine_systems.specs.declared.row.Row.{Row}
use Rattle.affine_systems.specs.declared.row.System.{System}
use Rattle.affine_systems.specs.Given.{Fits}
use Rattle.affine_systems.specs.Calls.{meet}
use Rattle.affine_systems.specs.Tidy.{tidy}
use Rattle.affine_systems.proofs.Basics.{if_cases}
use Rattle.hull_projection.specs.declared.projection.Shadow.{Shadow}
use Rattle.hull_projection.specs.Project.{shadow, project}
use Rattle.hull_projection.specs.Variables.{row_vars}
use Rattle.hull_projection.proofs.ProjectLaws.{project_fits}
use Rattle.preconditions.specs.transformer_algebra.Renaming.{rename_all}
use Rattle.f77_ast.specs.Trees.{ExprTree, ExprTrees, StmtTree, WhatTree, ArmTree, ArmTrees, ElseTree, LoopTree, StmtTrees}
use Rattle.f77_ast.specs.Trees as tree
use Rattle.f77_ast.specs.declared.variable.Variable.{Variable}
use Rattle.f77_ast.specs.declared.variable.Unit.{Unit as BlockUnit}
use Rattle.f77_ast.specs.Symbols.{BoundTree, SymbolTree, number_from}
use Rattle.f77_ast.specs.Shared.{symbol_at}
use Rattle.tracked_cells.specs.Standing.{has_bounds}
use Rattle.f77_ast.specs.declared.results.At.{At}
use Rattle.f77_ast.specs.Summaries.{SummaryTree}
use Rattle.affine_forms.specs.Conditions.{no_rows, condition_of}
use Rattle.preconditions.specs.transformer_algebra.declared.transformer.Transformer.{Transformer}
use Rattle.preconditions.specs.transformer_algebra.Transformers.{without}
use Rattle.preconditions.specs.call_translation.Scopes.{ScopeTree}
use Rattle.preconditions.specs.transformers.Lists.{value_at, transformer_at}
use Rattle.in_out_regions.specs.region_sets.declared.region.Access.{Access}
use Rattle.in_out_regions.specs.region_sets.declared.region.Access.TheVariants.{Read, Write}
use Rattle.in_out_regions.specs.region_sets.declared.region.Region.{Region}
use Rattle.in_out_regions.specs.region_sets.Regions.{region}
use Rattle.in_out_regions.specs.region_sets.Lists.{is_access, accesses, or_none, accesses_at, all_composed, list_regions}
use Rattle.in_out_regions.specs.region_sets.Sets.{unite_all}
use Rattle.in_out_regions.specs.region_sets.Loops.{over_loop}
use Rattle.in_out_regions.specs.call_equations.declared.link.Link.{Link}
use Rattle.in_out_regions.specs.call_equations.Sides.{SidesTree, changed_cells}
use Rattle.in_out_regions.specs.call_equations.Rows.{subscript_rows}
use Rattle.in_out_regions.specs.call_equations.Links.{link_of}
use Rattle.in_out_regions.specs.region_translation.Pieces.{names_of, are_own, linked, cell_row, if_row, with_var, with_forms, formless, subscripts, without_all, linked_piece, piece_in_caller}
use Rattle.in_out_regions.specs.region_translation.Caller.{by_link, to_caller}
use Rattle.in_out_regions.specs.array_regions.declared.arms.Reached.{Reached}
use Rattle.in_out_regions.specs.array_regions.References.{is_constant, scalar, scalar_at, array_at, element_at, whole_of, whole, element_of, element, named}
use Rattle.in_out_regions.specs.array_regions.Reads.{reads, all_reads, inner_reads, maybe_reads}
use Rattle.in_out_regions.specs.array_regions.Simple.{item_does, reading}
use Rattle.in_out_regions.specs.array_regions.Arms.{always, if_true, into_arm, past_arm, past_arms, under_tests, all_met, arm_reads, tests_reads}
use Rattle.in_out_regions.specs.array_regions.Loops.{Found, range_of, loop_reads, all_over, do_set}
use Rattle.in_out_regions.specs.array_regions.Calls.{Called, Callees, actual_reads, actuals_reads, sides, all_in_caller, summary_in_caller}
use Rattle.in_out_regions.specs.array_regions.Statement.{stmt_set, what_set, arm_sets, arm_set, else_set, body_set, at_stmt, at_parts, at_list, at_arms, at_arm, at_else, at_loop, list_set}
use Rattle.in_out_regions.specs.array_regions.Entry.{bounds_reads, symbols_reads, locals, for_callers, seen, summary_of}
use Rattle.in_out_regions.specs.array_regions.Modules.{calls_of, regions_with}
use Rattle.base_json.specs.Scopes.{is_short_name}
use Rattle.base_values.specs.Naming.{Each}
use Rattle.laws_stored.proofs.Lists.{at_found, set_found, each-append}
use Rattle.laws_stored.proofs.Symbols.{SymbolsNamed}
use Rattle.laws_stored.proofs.Tidied.{AreAscending, tidy_fit, fit_ascending, meet_fit, push_fit, of_rows_fit, rename_fit}
use Rattle.laws_stored.proofs.RulesFit.{none_fit, condition_fits, without_fits}
use Rattle.laws_stored.proofs.RegionRules.{all_put_ascend, mapped_fit, IsSuch, AreSuch, both_such, all_such, piece_such, all_composed_such, looped_such, united_such, list_such}
use Rattle.laws_stored.proofs.Links.{IsCalled, subscripts_ascend, MaybeLink, link_ok}
use Rattle.call_graph.specs.Visible.{is_visible_to_callers}

-- ---- a system of the callee as one of the caller

row_ascends : (n : ℕ) (o : Option Row) (s : System) → AreAscending s.rows → AreAscending (if_row n o s).rows
row_ascends n None s h = h
row_ascends n (Some e) s h = all_put_ascend (Aux n) e s.rows h

var_ascends : (c : SidesTree) (r : ℕ) (v : Var) (s : System) → AreAscending s.rows → AreAscending (with_var c r v s).rows
var_ascends c r (Cell n) s h = h
var_ascends c r (Exit n) s h = h
var_ascends c r (Phi n) s h = h
var_ascends c r (Aux n) s h = if_cases (λ (q : System). AreAscending q.rows) (nat_lt r n) (if_row n (cell_row c r n) s) s (λ e. row_ascends n (cell_row c r n) s h) (λ e. h)

forms_ascend : (c : SidesTree) (r : ℕ) (vs : List Var) (s : System) → AreAscending s.rows → AreAscending (with_forms c r vs s).rows
forms_ascend c r [] s h = h
forms_ascend c r (v ∷ vs) s h = forms_ascend c r vs (with_var c r v s) (var_ascends c r v s h)

without_all_fits : (vs ws : List Var) (s : System) → Fits s → Fits (without_all vs ws s).system
without_all_fits [] ws s h = project_fits s ws h
without_all_fits (v ∷ vs) ws s h = project_fits (project s (v ∷ vs)).system ws (project_fits s (v ∷ vs) h)

translated_fits : (c : SidesTree) (l : Link) → AreAscending l.rows → (s : System) → Fits (piece_in_caller c l s).system
translated_fits c l k s =
    let q = linked l s in
    let vs = row_vars q.rows in
    let h = push_fit (rename_all (names_of l.moved l.rank (row_vars s.rows)) s) l.rows (rename_fit (names_of l.moved l.rank (row_vars s.rows)) s) k in
    if_cases (λ (x : Shadow). Fits x.system) (are_own l.moved l.rank (row_vars s.rows)) (linked_piece c l q) (shadow no_rows false)
    (λ e. without_all_fits (formless c l.rank vs) (subscripts l) (tidy (with_forms c l.rank vs q)) (tidy_fit (with_forms c l.rank vs q) (forms_ascend c l.rank vs q (fit_ascending q h))))
    (λ e. none_fit)

-- ---- regions of such kinds

module _ (K : Access → Type 0) where
  abbrev S : List Region → Type 0
  S rs = AreSuch IsCalled K rs

  abbrev both : (rs qs : List Region) → S rs → S qs → S (rs ++ qs)
  both rs qs h k = both_such IsCalled K rs qs h k

  -- ---- what the callee does

  module _ (c : SidesTree) (title : is_short_name c.name ≡ true) (names : SymbolsNamed c.callee.symbols) where
    link_such : (r : Region) → IsSuch IsCalled K r → (o : Option Link) → MaybeLink c o → S (option_to_list (option_map (by_link c r) o))
    link_such r h None k = tt
    link_such r h (Some l) k = (piece_such IsCalled K (piece_in_caller c l) (λ s i. translated_fits c l k.1 s) (region l.variable r.kind (r.exact && l.exact) r.pieces) (k.0, h.1, h.2), tt)

    pub caller_such : (rs : List Region) → S rs → S (all_in_caller c rs)
    caller_such [] h = tt
    caller_such (r ∷ rs) h =
        both (option_to_list (to_caller c r)) (all_in_caller c rs) (link_such r h.0 (link_of c r.variable) (link_ok c title names r.variable h.0.0)) (caller_such rs h.1)

  -- of a module of this name
  pub record SummarySuch (x : List ℕ) (s : SummaryTree (List Region)) : Type 0 where
    pub name : is_short_name x ≡ true
    pub symbols : SymbolsNamed s.symbols
    pub value : S s.value

  abbrev pub MaybeSuch : List ℕ → Option (SummaryTree (List Region)) → Type 0
  MaybeSuch x None = Unit {0}
  MaybeSuch x (Some s) = SummarySuch x s

  abbrev pub CalleesSuch : Callees → Type 0
  CalleesSuch cs = (x : List ℕ) → MaybeSuch x (cs x)

  -- ---- tests

  pub met_such : (w : Reached) → Fits w.system → (rs : List Region) → S rs → S (all_met w rs)
  met_such w k rs h = all_such IsCalled K (under_tests w) (λ r i. (i.0, i.1, mapped_fit (λ q. meet q w.system) (λ q j. meet_fit q w.system j k) r.pieces i.2)) rs h

-- ---- what callers see

pub seen_such : (V : Variable → Type 0) (K : Access → Type 0) (ss : List SymbolTree) (cs : List ℕ) (rs : List Region) → AreSuch V K rs → AreSuch V K (seen ss cs rs)
seen_such V K ss cs [] h = tt
seen_such V K ss cs (r ∷ rs) h =
    let others = seen_such V K ss cs rs h.1 in
    if_cases (AreSuch V K) (is_visible_to_callers ss r.variable) (for_callers cs r ∷ seen ss cs rs) (seen ss cs rs) (λ e. ((h.0.0, h.0.1, mapped_fit (without cs) (without_fits cs) r.pieces h.0.2), others)) (λ e. others)

-- a test that is reached
pub always_fits : Fits always.system
always_fits = none_fit

pub into_fits : (m : ScopeTree) (x : ArmTree) (w : Reached) → Fits w.system → Fits (into_arm x m w).system
into_fits m (tree.arm e body) w h = meet_fit w.system (condition_of m.scalars e).yes h (condition_fits m.scalars e).0

pub past_fits : (m : ScopeTree) (x : ArmTree) (w : Reached) → Fits w.system → Fits (past_arm x m w).system
past_fits m (tree.arm e body) w h = meet_fit w.system (condition_of m.scalars e).no h (condition_fits m.scalars e).1

pub all_past_fit : (m : ScopeTree) (xs : ArmTrees) (w : Reached) → Fits w.system → Fits (past_arms xs m w).system
all_past_fit m tree.no_arms w h = h
all_past_fit m (tree.more_arms x rest) w h = all_past_fit m rest (past_arm x m w) (past_fits m x w h)

-- ---- READ and WRITE

abbrev pub IsAccess : Access → Type 0
IsAccess k = is_access k ≡ true

abbrev pub A : List Region → Type 0
A rs = AreSuch IsCalled IsAccess rs

abbrev join : (rs qs : List Region) → A rs → A qs → A (rs ++ qs)
join rs qs h k = both_such IsCalled IsAccess rs qs h k

module _ (m : ScopeTree) where
  module _ (a : Access) (k : IsAccess a) where
    scalar_such : (n : ℕ) (o : Option SymbolTree) → A (scalar_at a n o)
    scalar_such n None = tt
    scalar_such n (Some s) = if_cases A (is_constant s.place) [] (scalar a n ∷ []) (λ e. tt) (λ e. ((tt, k, (none_fit, tt)), tt))

    array_such : (n : ℕ) (es : ExprTrees) (bs : List BoundTree) → IsSuch IsCalled IsAccess (array_at m a n es bs)
    array_such n es bs = (tt, k, (of_rows_fit (subscript_rows m 1 es bs) (subscripts_ascend m 1 es bs), tt))

    element_such : (n : ℕ) (es : ExprTrees) (o : Option SymbolTree) → A (element_at m a n es o)
    element_such n es None = tt
    element_such n es (Some s) = if_cases A (has_bounds s.bounds) (array_at m a n es s.bounds ∷ []) [] (λ e. (array_such n es s.bounds, tt)) (λ e. tt)

    whole_such : (o : Option ℕ) → A (whole_of m a o)
    whole_such None = tt
    whole_such (Some n) = scalar_such n (symbol_at m.symbols n)

    elements_such : (es : ExprTrees) (o : Option ℕ) → A (element_of m a es o)
    elements_such es None = tt
    elements_such es (Some n) = element_such n es (symbol_at m.symbols n)

    pub named_such : (e : ExprTree) → A (named e m a)
    named_such (tree.int n) = tt
    named_such (tree.log b) = tt
    named_such (tree.name x) = whole_such (number_from 1 m.names x)
    named_such (tree.element x es) = elements_such es (number_from 1 m.names x)
    named_such (tree.paren e) = tt
    named_such (tree.unary o e) = tt
    named_such (tree.binary o e f) = tt
    named_such (tree.chars x) = tt

  mutual
    pub reads_such : (e : ExprTree) → A (reads e m)
    reads_such (tree.int n) = tt
    reads_such (tree.log b) = tt
    reads_such (tree.name x) = whole_such Read refl (number_from 1 m.names x)
    reads_such (tree.element x es) = join (all_reads es m) (element m Read x es) (all_reads_such es) (elements_such Read refl es (number_from 1 m.names x))
    reads_such (tree.paren e) = reads_such e
    reads_such (tree.unary o e) = reads_such e
    reads_such (tree.binary o e f) = join (reads e m) (reads f m) (reads_such e) (reads_such f)
    reads_such (tree.chars x) = tt

    pub all_reads_such : (es : ExprTrees) → A (all_reads es m)
    all_reads_such tree.no_exprs = tt
    all_reads_such (tree.more_exprs e es) = join (reads e m) (all_reads es m) (reads_such e) (all_reads_such es)

  pub inner_such : (e : ExprTree) → A (inner_reads e m)
  inner_such (tree.int n) = tt
  inner_such (tree.log b) = tt
  inner_such (tree.name x) = tt
  inner_such (tree.element x es) = all_reads_such es
  inner_such (tree.paren e) = tt
  inner_such (tree.unary o e) = tt
  inner_such (tree.binary o e f) = tt
  inner_such (tree.chars x) = tt

  pub maybe_such : (o : Option ExprTree) → A (maybe_reads o m)
  maybe_such None = tt
  maybe_such (Some e) = reads_such e

  actual_such : (e : ExprTree) → A (actual_reads e m)
  actual_such (tree.int n) = tt
  actual_such (tree.log b) = tt
  actual_such (tree.name x) = tt
  actual_such (tree.element x es) = all_reads_such es
  actual_such (tree.paren e) = reads_such e
  actual_such (tree.unary o e) = reads_such e
  actual_such (tree.binary o e f) = join (reads e m) (reads f m) (reads_such e) (reads_such f)
  actual_such (tree.chars x) = tt

  pub actuals_such : (es : ExprTrees) → A (actuals_reads es m)
  actuals_such tree.no_exprs = tt
  actuals_such (tree.more_exprs e es) = join (actual_reads e m) (actuals_reads es m) (actual_such e) (actuals_such es)

  pub loop_reads_such : (l : LoopTree) → A (loop_reads l m)
  loop_reads_such (tree.loop index first last step body) = join (reads first m) (reads last m ++ maybe_reads step m) (reads_such first) (join (reads last m) (maybe_reads step m) (reads_such last) (maybe_such step))

  bounds_such : (bs : List BoundTree) → A (bounds_reads bs m)
  bounds_such [] = tt
  bounds_such (b ∷ bs) = join (reads b.low m) (maybe_reads b.high m ++ bounds_reads bs m) (reads_such b.low) (join (maybe_reads b.high m) (bounds_reads bs m) (maybe_such b.high) (bounds_such bs))

  pub symbols_such : (ss : List SymbolTree) → A (symbols_reads ss m)
  symbols_such [] = tt
  symbols_such (s ∷ ss) = join (bounds_reads s.bounds m) (symbols_reads ss m) (bounds_such s.bounds) (symbols_such ss)

  pub tests_such : (arms : ArmTrees) (w : Reached) → Fits w.system → A (tests_reads arms m w)
  tests_such tree.no_arms w h = tt
  tests_such (tree.more_arms (tree.arm e body) rest) w h =
      let x = tree.arm e body in
      join (arm_reads x m w) (tests_reads rest m (past_arm x m w)) (met_such IsAccess w h (reads e m) (reads_such e)) (tests_such rest (past_arm x m w) (past_fits m x w h))

  reading_such : (es : ExprTrees) → A (reading es m)
  reading_such tree.no_exprs = tt
  reading_such (tree.more_exprs e es) =
      let later = all_composed (item_does m e) (reading es m) in
      united_such IsCalled IsAccess (inner_reads e m ++ (named e m Write ++ later))
      (join (inner_reads e m) (named e m Write ++ later) (inner_such e) (join (named e m Write) later (named_such Write refl e) (all_composed_such IsCalled IsAccess (item_does m e) none_fit (reading es m) (reading_such es))))

  -- ---- statements

  module _ (t : Found) (fit : (n : ℕ) → Fits (t n).system) (c : Called) (called : (x : List ℕ) (es : ExprTrees) → A (c x es)) where
    do_such : (l : LoopTree) (rs : List Region) → A rs → A (do_set l m t rs)
    do_such l rs h =
        let g = range_of l m t in
        united_such IsCalled IsAccess (loop_reads l m ++ (scalar Write g.index ∷ all_over g rs))
        (join (loop_reads l m) (scalar Write g.index ∷ all_over g rs) (loop_reads_such l) ((tt, refl, (none_fit, tt)), all_such IsCalled IsAccess (λ r. over_loop r g) (looped_such IsCalled IsAccess g) rs h))

    abbrev At-such : At (List Region) → Type 0
    At-such a = A a.value

    accesses_such : (rs : List Region) → A rs → A (accesses rs)
    accesses_such [] h = tt
    accesses_such (r ∷ rs) h = let others = accesses_such rs h.1 in if_cases A (is_access r.kind) (r ∷ accesses rs) (accesses rs) (λ e. (h.0, others)) (λ e. others)

    found_such : (as' : List (At (List Region))) → Each At-such as' → (n : ℕ) → A (accesses_at as' n)
    found_such as' h n = accesses_such (or_none (value_at as' n)) (set_found A tt as' h n)

    lists : (body : StmtTrees) (whole : Bool) → Each At-such (at_list body m t c) → A (list_regions t (accesses_at (at_list body m t c)) whole body)
    lists body whole h = list_such IsCalled IsAccess t fit (accesses_at (at_list body m t c)) (found_such (at_list body m t c) h) whole body

    mutual
      stmt_such : (s : StmtTree) → A (stmt_set s m t c)
      stmt_such (tree.stmt n label w) = what_such w

      what_such : (w : WhatTree) → A (what_set w m t c)
      what_such (tree.assign x y) = united_such IsCalled IsAccess (reads y m ++ (inner_reads x m ++ named x m Write)) (join (reads y m) (inner_reads x m ++ named x m Write) (reads_such y) (join (inner_reads x m) (named x m Write) (inner_such x) (named_such Write refl x)))
      what_such (tree.block_if arms other) =
          let sets = arm_sets arms m t c always in
          let rest = else_set other m t c (past_arms arms m always) in
          united_such IsCalled IsAccess (tests_reads arms m always ++ (sets ++ rest))
          (join (tests_reads arms m always) (sets ++ rest) (tests_such arms always always_fits) (join sets rest (arms_such arms always always_fits) (else_such other (past_arms arms m always) (all_past_fit m arms always always_fits))))
      what_such (tree.logical_if e s) =
          let met = all_met (if_true m e always) (stmt_set s m t c) in
          united_such IsCalled IsAccess (reads e m ++ met) (join (reads e m) met (reads_such e) (met_such IsAccess (if_true m e always) (meet_fit no_rows (condition_of m.scalars e).yes none_fit (condition_fits m.scalars e).0) (stmt_set s m t c) (stmt_such s)))
      what_such (tree.do_loop l) = loop_such l
      what_such (tree.call x es) = called x es
      what_such (tree.goto l) = tt
      what_such tree.continue = tt
      what_such tree.return = tt
      what_such (tree.stop text) = tt
      what_such (tree.print es) = united_such IsCalled IsAccess (all_reads es m) (all_reads_such es)
      what_such (tree.read es) = reading_such es

      arms_such : (xs : ArmTrees) (w : Reached) → Fits w.system → A (arm_sets xs m t c w)
      arms_such tree.no_arms w h = tt
      arms_such (tree.more_arms x rest) w h =
          join (arm_set x m t c (into_arm x m w)) (arm_sets rest m t c (past_arm x m w)) (arm_such x (into_arm x m w) (into_fits m x w h)) (arms_such rest (past_arm x m w) (past_fits m x w h))

      arm_such : (x : ArmTree) (w : Reached) → Fits w.system → A (arm_set x m t c w)
      arm_such (tree.arm e body) w h = met_such IsAccess w h (list_regions t (accesses_at (at_list body m t c)) false body) (lists body false (at_list_such body))

      else_such : (x : ElseTree) (w : Reached) → Fits w.system → A (else_set x m t c w)
      else_such tree.no_else w h = tt
      else_such (tree.otherwise body) w h = met_such IsAccess w h (list_regions t (accesses_at (at_list body m t c)) false body) (lists body false (at_list_such body))

      loop_such : (l : LoopTree) → A (body_set l m t c)
      loop_such (tree.loop index first last step body) =
          do_such (tree.loop index first last step body) (list_regions t (accesses_at (at_list body m t c)) false body) (lists body false (at_list_such body))

      -- ---- at each statement

      at_stmt_such : (s : StmtTree) → Each At-such (at_stmt s m t c)
      at_stmt_such (tree.stmt n label w) = (what_such w, at_parts_such w)

      at_parts_such : (w : WhatTree) → Each At-such (at_parts w m t c)
      at_parts_such (tree.assign x e) = tt
      at_parts_such (tree.block_if arms other) = each-append At-such (at_arms arms m t c) (at_else other m t c) (at_arms_such arms) (at_else_such other)
      at_parts_such (tree.logical_if e s) = at_stmt_such s
      at_parts_such (tree.do_loop l) = at_loop_such l
      at_parts_such (tree.call x es) = tt
      at_parts_such (tree.goto l) = tt
      at_parts_such tree.continue = tt
      at_parts_such tree.return = tt
      at_parts_such (tree.stop text) = tt
      at_parts_such (tree.print es) = tt
      at_parts_such (tree.read es) = tt

      pub at_list_such : (ss : StmtTrees) → Each At-such (at_list ss m t c)
      at_list_such tree.no_stmts = tt
      at_list_such (tree.more_stmts s rest) = each-append At-such (at_stmt s m t c) (at_list rest m t c) (at_stmt_such s) (at_list_such rest)

      at_arms_such : (xs : ArmTrees) → Each At-such (at_arms xs m t c)
      at_arms_such tree.no_arms = tt
      at_arms_such (tree.more_arms x rest) = each-append At-such (at_arm x m t c) (at_arms rest m t c) (at_arm_such x) (at_arms_such rest)

      at_arm_such : (x : ArmTree) → Each At-such (at_arm x m t c)
      at_arm_such (tree.arm e body) = at_list_such body

      at_else_such : (x : ElseTree) → Each At-such (at_else x m t c)
      at_else_such tree.no_else = tt
      at_else_such (tree.otherwise body) = at_list_such body

      at_loop_such : (l : LoopTree) → Each At-such (at_loop l m t c)
      at_loop_such (tree.loop index first last step body) = at_list_such body

    pub summary_such : (body : StmtTrees) → A (summary_of m (list_set true body m t c))
    summary_such body =
        let all = symbols_reads m.symbols m ++ list_set true body m t c in
        let out = seen m.symbols (locals m.symbols) (unite_all all) in
        united_such IsCalled IsAccess out
        (seen_such IsCalled IsAccess m.symbols (locals m.symbols) (unite_all all) (united_such IsCalled IsAccess all (join (symbols_reads m.symbols m) (list_set true body m t c) (symbols_such m.symbols) (lists body true (at_list_such body)))))

-- ---- modules

-- what statements do
abbrev pub OwnFits : List (At Transformer) → Type 0
OwnFits as' = Each (λ (a : At Transformer). Fits a.value.system) as'

pub own_fits : (as' : List (At Transformer)) → OwnFits as' → (n : ℕ) → Fits (transformer_at as' n).system
own_fits as' h n = at_found (λ (t : Transformer). Fits t.system) none_fit as' h n

pub regions_such : (body : StmtTrees) (m : ScopeTree) (untracked : List BlockUnit) (own : List (At Transformer)) → OwnFits own → (cs : Callees) → CalleesSuch IsAccess cs
    → Each (λ (a : At (List Region)). A a.value) (regions_with body m untracked own cs).at × A (regions_with body m untracked own cs).summary
regions_such body m untracked own h cs k =
    (at_list_such m (transformer_at own) (own_fits own h) c called body, summary_such m (transformer_at own) (own_fits own h) c called body)
  where
    c : Called
    c = calls_of m untracked own cs

    summary : (x : List ℕ) (es : ExprTrees) (o : Option (SummaryTree (List Region))) → MaybeSuch IsAccess x o → A (summary_in_caller m (changed_cells own) untracked x es o)
    summary x es None i = tt
    summary x es (Some s) i = caller_such IsAccess (sides m (changed_cells own) untracked x es s.symbols) i.name i.symbols s.value i.value

    called : (x : List ℕ) (es : ExprTrees) → A (c x es)
    called x es =
        let rs = summary_in_caller m (changed_cells own) untracked x es (cs x) in
        united_such IsCalled IsAccess (actuals_reads es m ++ rs) (join (actuals_reads es m) rs (actuals_such m es) (summary x es (cs x) (k x)))
