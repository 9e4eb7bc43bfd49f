-- IN of statements and modules: variables with names, IN alone, and systems that calls take.
use Rattle.std.proofs.Common.{◌≡◌, ℕ, Bool, true, false, ◌&&◌, List, [], ◌∷◌, ◌++◌, map, Option, Some, None, ℤ, refl}
use Rattle.std.specs.Prelude.{option_to_list}
use Rattle.affine_systems.specs.declared.row.Var.TheVariants.{Cell, Aux}
use Rattle.affine_systems.specs.declared.row.System.{System}
use Rattle.affine_systems.specs.Given.{Fits}
use Rattle.affine_systems.proofs.Basics.{if_cases}
use Rattle.hull_projection.specs.Minus.{AllFit}
use Rattle.hull_projection.proofs.ProjectLaws.{project_fits}
use Rattle.preconditions.specs.transformer_algebra.Renaming.{naming, rename_all, push_rows}
use Rattle.f77_ast.specs.Trees.{ExprTree, ExprTrees, StmtTree, WhatTree, ArmTree, ArmTrees, ElseTree, LoopTree, StmtTrees}
use Rattle.f77_ast.specs.Trees as tree
use Rattle.f77_ast.specs.declared.variable.Variable.{Variable}
use Rattle.f77_ast.specs.declared.variable.Variable.TheVariants.{Own}
use Rattle.f77_ast.specs.declared.variable.Unit.{Unit as BlockUnit}
use Rattle.f77_ast.specs.Symbols.{SymbolTree}
use Rattle.f77_ast.specs.declared.results.At.{At}
use Rattle.f77_ast.specs.Summaries.{SummaryTree}
use Rattle.affine_forms.specs.declared.affine.Affine.{Affine}
use Rattle.affine_forms.specs.Scalars.{is_cell}
use Rattle.affine_forms.specs.Comparisons.{var_form, at_most_row, below_row}
use Rattle.affine_forms.specs.Conditions.{no_rows, condition_of}
use Rattle.preconditions.specs.transformer_algebra.declared.transformer.Transformer.{Transformer}
use Rattle.preconditions.specs.transformer_algebra.Loops.{goes_up, within_row, beyond_row, terms_stay}
use Rattle.preconditions.specs.call_translation.Scopes.{ScopeTree}
use Rattle.preconditions.specs.transformers.Jumps.{unstructured}
use Rattle.preconditions.specs.transformers.Lists.{transformer_at, list_at}
use Rattle.in_out_regions.specs.region_sets.declared.range.Range.{Range}
use Rattle.in_out_regions.specs.region_sets.declared.region.Access.{Access}
use Rattle.in_out_regions.specs.region_sets.declared.region.Access.TheVariants.{Write, In}
use Rattle.in_out_regions.specs.region_sets.declared.region.Region.{Region}
use Rattle.in_out_regions.specs.region_sets.Regions.{remade, all_exact, systems}
use Rattle.in_out_regions.specs.region_sets.Trim.{trim}
use Rattle.in_out_regions.specs.region_sets.Subtract.{are_places, less_all, unless_empty, all_left, all_apart, subtract}
use Rattle.in_out_regions.specs.region_sets.Sets.{unite_all}
use Rattle.in_out_regions.specs.region_sets.Lists.{is_access, all_composed, in_any_order, numbers, set_at}
use Rattle.in_out_regions.specs.call_equations.Sides.{changed_cells}
use Rattle.in_out_regions.specs.array_regions.declared.arms.Reached.{Reached}
use Rattle.in_out_regions.specs.array_regions.References.{scalar, named}
use Rattle.in_out_regions.specs.array_regions.Reads.{reads, inner_reads}
use Rattle.in_out_regions.specs.array_regions.Simple.{item_does}
use Rattle.in_out_regions.specs.array_regions.Arms.{always, if_true, into_arm, past_arm, past_arms, all_met, tests_reads}
use Rattle.in_out_regions.specs.array_regions.Loops.{range_of, loop_reads}
use Rattle.in_out_regions.specs.array_regions.Calls.{Callees, actuals_reads, sides, all_in_caller}
use Rattle.in_out_regions.specs.array_regions.Entry.{symbols_reads, locals, seen}
use Rattle.in_out_regions.specs.Kinds.{as_in, all_in, is_read, first_reads}
use Rattle.in_out_regions.specs.Writes.{is_write_of, write_of}
use Rattle.in_out_regions.specs.Lists.{less_write, all_unwritten, unless_overlapped, all_unless_overlapped, before_rest, ins_in_order, list_in}
use Rattle.in_out_regions.specs.Known.{KnownTree}
use Rattle.in_out_regions.specs.Calls.{summary_in, call_in}
use Rattle.in_out_regions.specs.Simple.{item_in, item_written, reading}
use Rattle.in_out_regions.specs.Loops.{after_first, before_last, index_rows_by, index_rows, in_range, meets_each, is_steady, earlier_rows_by, earlier_rows, earlier_piece, if_exact, earlier, less_earlier, in_iteration, over_maybe, unless_index, all_iterations, do_with}
use Rattle.in_out_regions.specs.Statement.{list_of, body_accesses, do_of, only_in, what_in, arms_in, arm_in, else_in, at_stmt, at_parts, at_list, at_arms, at_arm, at_else, at_loop, list_set}
use Rattle.in_out_regions.specs.Modules.{summary_of, ins_with}
use Rattle.base_values.specs.Naming.{Each}
use Rattle.laws_stored.proofs.Lists.{set_found, each-append}
use Rattle.laws_stored.proofs.Tidied.{IsAscending, AreAscending, ascending-append, meet_fit, push_fit, rename_fit}
use Rattle.laws_stored.proofs.RulesFit.{none_fit, condition_fits, at_most_ascending, below_ascending}
use Rattle.laws_stored.proofs.TrimsFit.{trim_fit, less_fit}
use Rattle.laws_stored.proofs.RegionRules.{mapped_fit, IsSuch, AreSuch, both_such, all_such, all_composed_such, looped_such, united_such, any_such}
use Rattle.laws_stored.proofs.Links.{IsCalled}
use Rattle.laws_stored.proofs.Access.{caller_such, MaybeSuch, CalleesSuch, met_such, seen_such, always_fits, into_fits, past_fits, all_past_fit, A, reads_such, inner_such, named_such, actuals_such, loop_reads_such, symbols_such, tests_such, OwnFits, own_fits}
use Rattle.f77_ast.specs.Variables.{same_variable}

abbrev pub IsIn : Access → Type 0
IsIn k = k ≡ In

abbrev pub I : List Region → Type 0
I rs = AreSuch IsCalled IsIn rs

abbrev pub One : Region → Type 0
One r = IsSuch IsCalled IsIn r

abbrev join : (rs qs : List Region) → I rs → I qs → I (rs ++ qs)
join rs qs h k = both_such IsCalled IsIn rs qs h k

-- ---- READ and WRITE as IN

abbrev pub SystemsFit : List Region → Type 0
SystemsFit rs = Each (λ (r : Region). AllFit r.pieces) rs

-- those of a region, where there is one
abbrev pub MaybeSystems : Option Region → Type 0
MaybeSystems None = Unit {0}
MaybeSystems (Some r) = AllFit r.pieces

pub as_in_such : (rs : List Region) → A rs → I (all_in rs)
as_in_such [] h = tt
as_in_such (r ∷ rs) h = ((h.0.0, refl, h.0.2), as_in_such rs h.1)

first_such : (rs : List Region) → A rs → I (first_reads rs)
first_such [] h = tt
first_such (r ∷ rs) h = let others = first_such rs h.1 in if_cases I (is_read r.kind) (as_in r ∷ first_reads rs) (first_reads rs) (λ e. ((h.0.0, refl, h.0.2), others)) (λ e. others)

-- ---- what is left

module _ (V : Variable → Type 0) (K : Access → Type 0) where
  abbrev pub MaybeRegion : Option Region → Type 0
  MaybeRegion None = Unit {0}
  MaybeRegion (Some r) = IsSuch V K r

  unless_such : (r : Region) (e : Bool) (ps : List System) → IsSuch V K r → AllFit ps → MaybeRegion (unless_empty r e ps)
  unless_such r e [] h k = tt
  unless_such r e (p ∷ ps) h k = (h.0, h.1, k)

  pub subtract_such : (a b : Region) → IsSuch V K a → AllFit b.pieces → MaybeRegion (subtract a b)
  subtract_such a b h k =
      let ss = less_all a.pieces b.pieces in
      if_cases MaybeRegion (b.exact && are_places b.pieces) (all_left a ss) (Some (remade a (a.exact && all_apart a.pieces b.pieces) a.pieces))
      (λ e. unless_such a (a.exact && (trim ss).exact) (trim ss).pieces h (trim_fit ss (less_fit a.pieces b.pieces h.2 k))) (λ e. h)

  maybe_list : (o : Option Region) → MaybeRegion o → AreSuch V K (option_to_list o)
  maybe_list None h = tt
  maybe_list (Some r) h = (h, tt)

  write_fits : (v : Variable) (ws : List Region) → SystemsFit ws → MaybeSystems (write_of v ws)
  write_fits v [] h = tt
  write_fits v (w ∷ ws) h = if_cases MaybeSystems (is_write_of v w) (Some w) (write_of v ws) (λ e. h.0) (λ e. write_fits v ws h.1)

  less_such : (o : Option Region) (r : Region) → MaybeSystems o → IsSuch V K r → MaybeRegion (less_write o r)
  less_such None r h k = k
  less_such (Some w) r h k = subtract_such r w k h

  pub unwritten_such : (ws rs : List Region) → SystemsFit ws → AreSuch V K rs → AreSuch V K (all_unwritten ws rs)
  unwritten_such ws [] h k = tt
  unwritten_such ws (r ∷ rs) h k =
      both_such V K (option_to_list (less_write (write_of r.variable ws) r)) (all_unwritten ws rs)
      (maybe_list (less_write (write_of r.variable ws) r) (less_such (write_of r.variable ws) r (write_fits r.variable ws h) k.0)) (unwritten_such ws rs h k.1)

pub overlapped_such : (ss : List SymbolTree) (ws rs : List Region) → I rs → I (all_unless_overlapped ss ws rs)
overlapped_such ss ws rs h = all_such IsCalled IsIn (unless_overlapped ss ws) (λ r k. k) rs h

pub before_such : (ss : List SymbolTree) (is ws : List Region) (t : Transformer) (rest : List Region) → Fits t.system → I is → SystemsFit ws → I rest → I (before_rest ss is ws t rest)
before_such ss is ws t rest fit h i k =
    let later = unite_all (all_composed t rest) in
    let both = is ++ all_unwritten ws later in
    overlapped_such ss ws (unite_all both)
    (united_such IsCalled IsIn both (join is (all_unwritten ws later) h (unwritten_such IsCalled IsIn ws later i (united_such IsCalled IsIn (all_composed t rest) (all_composed_such IsCalled IsIn t fit rest k)))))

module _ (ss : List SymbolTree) (t : ℕ → Transformer) (fit : (n : ℕ) → Fits (t n).system) (f : ℕ → List Region) (sets : (n : ℕ) → SystemsFit (f n)) (g : ℕ → List Region) (such : (n : ℕ) → I (g n)) where
  pub order_in_such : (ns : List ℕ) → I (ins_in_order ss t f g ns)
  order_in_such [] = tt
  order_in_such (n ∷ ns) = before_such ss (g n) (f n) (t n) (ins_in_order ss t f g ns) (fit n) (such n) (sets n) (order_in_such ns)

  pub list_in_such : (whole : Bool) (body : StmtTrees) → I (list_in ss t f g whole body)
  list_in_such whole body =
      if_cases I (unstructured whole body) (in_any_order (list_at t whole body).cells g (numbers body)) (ins_in_order ss t f g (numbers body))
      (λ e. any_such IsCalled IsIn t fit g such (list_at t whole body).cells (numbers body)) (λ e. order_in_such (numbers body))

-- ---- DO

pub within_ascends : (s : ℤ) (f g : Affine) → IsAscending (within_row s f g)
within_ascends s f g = if_cases IsAscending (goes_up s) (at_most_row f g) (at_most_row g f) (λ e. at_most_ascending f g) (λ e. at_most_ascending g f)

pub beyond_ascends : (s : ℤ) (f g : Affine) → IsAscending (beyond_row s f g)
beyond_ascends s f g = if_cases IsAscending (goes_up s) (below_row g f) (below_row f g) (λ e. below_ascending g f) (λ e. below_ascending f g)

after_ascend : (s : ℤ) (cs : List ℕ) (i : ℕ) (f : Option Affine) → AreAscending (after_first s cs i f)
after_ascend s cs i None = tt
after_ascend s cs i (Some f) = if_cases AreAscending (terms_stay cs f.terms) (within_row s f (var_form (Cell i)) ∷ []) [] (λ e. (within_ascends s f (var_form (Cell i)), tt)) (λ e. tt)

last_ascend : (s : ℤ) (cs : List ℕ) (i : ℕ) (f : Option Affine) → AreAscending (before_last s cs i f)
last_ascend s cs i None = tt
last_ascend s cs i (Some f) = if_cases AreAscending (terms_stay cs f.terms) (within_row s (var_form (Cell i)) f ∷ []) [] (λ e. (within_ascends s (var_form (Cell i)) f, tt)) (λ e. tt)

index_ascend : (o : Option ℤ) (tracked : Bool) (g : Range) → AreAscending (index_rows_by o tracked g)
index_ascend None tracked g = tt
index_ascend (Some s) false g = tt
index_ascend (Some s) true g =
    ascending-append (after_first s g.turn.cells g.index g.first) (before_last s g.turn.cells g.index g.last) (after_ascend s g.turn.cells g.index g.first) (last_ascend s g.turn.cells g.index g.last)

range_such : (tracked : Bool) (g : Range) (r : Region) → One r → One (in_range tracked g r)
range_such tracked g r h = (h.0, h.1, mapped_fit (λ s. push_rows s (index_rows tracked g)) (λ s k. push_fit s (index_rows tracked g) k (index_ascend g.step tracked g)) r.pieces h.2)

earlier_ascend : (o : Option ℤ) (f : Option Affine) (i : ℕ) → AreAscending (earlier_rows_by o f i)
earlier_ascend None f i = tt
earlier_ascend (Some s) None i = tt
earlier_ascend (Some s) (Some f) i = (within_ascends s f (var_form (Aux 2)), (beyond_ascends s (var_form (Cell i)) (var_form (Aux 2)), tt))

earlier_fits : (g : Range) (s : System) → Fits (earlier_piece g s).system
earlier_fits g s =
    let q = rename_all (naming (Cell g.index) (Aux 2) ∷ []) s in
    project_fits (push_rows q (earlier_rows g)) (Aux 2 ∷ []) (push_fit q (earlier_rows g) (rename_fit (naming (Cell g.index) (Aux 2) ∷ []) s) (earlier_ascend g.step g.first g.index))

all_earlier_fit : (g : Range) (ss : List System) → AllFit (systems (map (earlier_piece g) ss))
all_earlier_fit g [] = tt
all_earlier_fit g (s ∷ ss) = (earlier_fits g s, all_earlier_fit g ss)

earlier_maybe : (tracked : Bool) (g : Range) (o : Option Region) → MaybeSystems (earlier tracked g o)
earlier_maybe tracked g None = tt
earlier_maybe tracked g (Some w) =
    let ss = map (earlier_piece g) w.pieces in
    if_cases MaybeSystems (meets_each tracked g && is_steady g w) (if_exact w ss) None
    (λ e. if_cases MaybeSystems (all_exact ss) (Some (remade w true (systems ss))) None (λ q. all_earlier_fit g w.pieces) (λ q. tt)) (λ e. tt)

less_earlier_such : (o : Option Region) (ss : List SymbolTree) (ws : List Region) (r : Region) → MaybeSystems o → One r → MaybeRegion IsCalled IsIn (less_earlier o ss ws r)
less_earlier_such None ss ws r h k = k
less_earlier_such (Some e) ss ws r h k = subtract_such IsCalled IsIn r e k h

iteration_such : (tracked : Bool) (g : Range) (ss : List SymbolTree) (ws : List Region) (r : Region) → One r → MaybeRegion IsCalled IsIn (in_iteration tracked g ss ws r)
iteration_such tracked g ss ws r h = less_earlier_such (earlier tracked g (write_of r.variable ws)) ss ws (in_range tracked g r) (earlier_maybe tracked g (write_of r.variable ws)) (range_such tracked g r h)

over_such : (g : Range) (o : Option Region) → MaybeRegion IsCalled IsIn o → I (over_maybe g o)
over_such g None h = tt
over_such g (Some r) h = (looped_such IsCalled IsIn g r h, tt)

iterations_such : (tracked : Bool) (g : Range) (ss : List SymbolTree) (ws rs : List Region) → I rs → I (all_iterations tracked g ss ws rs)
iterations_such tracked g ss ws [] h = tt
iterations_such tracked g ss ws (r ∷ rs) h =
    let own = over_maybe g (in_iteration tracked g ss ws r) in
    join (unless_index g r.variable own) (all_iterations tracked g ss ws rs)
    (if_cases I (same_variable (Own g.index) r.variable) [] own (λ e. tt) (λ e. over_such g (in_iteration tracked g ss ws r) (iteration_such tracked g ss ws r h.0)))
    (iterations_such tracked g ss ws rs h.1)

do_such : (g : Range) (l : LoopTree) (m : ScopeTree) (ws is : List Region) → I is → I (do_with g l m ws is)
do_such g l m ws is h =
    let tracked = is_cell m.tracked g.index in
    let all = all_in (loop_reads l m) ++ all_iterations tracked g m.symbols ws is in
    overlapped_such m.symbols (scalar Write g.index ∷ ws) (unite_all all)
    (united_such IsCalled IsIn all (join (all_in (loop_reads l m)) (all_iterations tracked g m.symbols ws is) (as_in_such (loop_reads l m) (loop_reads_such m l)) (iterations_such tracked g m.symbols ws is h)))

-- ---- READ

systems_of : (rs : List Region) → A rs → SystemsFit rs
systems_of [] h = tt
systems_of (r ∷ rs) h = (h.0.2, systems_of rs h.1)

module _ (m : ScopeTree) where
  reading_such : (es : ExprTrees) → I (reading es m)
  reading_such tree.no_exprs = tt
  reading_such (tree.more_exprs e es) =
      before_such m.symbols (item_in m e) (item_written m e) (item_does m e) (reading es m) none_fit
      (united_such IsCalled IsIn (all_in (inner_reads e m)) (as_in_such (inner_reads e m) (inner_such m e)))
      (systems_of (item_written m e) (united_such IsCalled (λ k. is_access k ≡ true) (named e m Write) (named_such m Write refl e))) (reading_such es)

-- ---- statements

module _ (k : KnownTree) (fit : (n : ℕ) → Fits (k.does n).system) (sets : (n : ℕ) → A (set_at k.accesses n)) (called : (x : List ℕ) (es : ExprTrees) → I (k.called x es)) where
  abbrev At-in : At (List Region) → Type 0
  At-in a = I a.value

  lists : (whole : Bool) (body : StmtTrees) (as' : List (At (List Region))) → Each At-in as' → I (list_of whole body k as')
  lists whole body as' h = list_in_such k.scope.symbols k.does fit (set_at k.accesses) (λ n. systems_of (set_at k.accesses n) (sets n)) (set_at as') (λ n. set_found I tt as' h n) whole body

  mutual
    what_such : (n : ℕ) (w : WhatTree) → I (what_in n w k)
    what_such n (tree.assign x y) = first_such (set_at k.accesses n) (sets n)
    what_such n (tree.block_if arms other) =
        let m = k.scope in
        let tests = all_in (tests_reads arms m always) in
        let own = arms_in arms k always in
        let rest = else_in other k (past_arms arms m always) in
        united_such IsCalled IsIn (tests ++ (own ++ rest))
        (join tests (own ++ rest) (as_in_such (tests_reads arms m always) (tests_such m arms always always_fits))
        (join own rest (arms_such arms always always_fits) (else_such other (past_arms arms m always) (all_past_fit m arms always always_fits))))
    what_such n (tree.logical_if e s) =
        let m = k.scope in
        let met = all_met (if_true m e always) (only_in s k) in
        united_such IsCalled IsIn (all_in (reads e m) ++ met)
        (join (all_in (reads e m)) met (as_in_such (reads e m) (reads_such m e)) (met_such IsIn (if_true m e always) (meet_fit no_rows (condition_of m.scalars e).yes none_fit (condition_fits m.scalars e).0) (only_in s k) (only_such s)))
    what_such n (tree.do_loop l) = loop_such l
    what_such n (tree.call x es) = called x es
    what_such n (tree.goto l) = first_such (set_at k.accesses n) (sets n)
    what_such n tree.continue = first_such (set_at k.accesses n) (sets n)
    what_such n tree.return = first_such (set_at k.accesses n) (sets n)
    what_such n (tree.stop text) = first_such (set_at k.accesses n) (sets n)
    what_such n (tree.print es) = first_such (set_at k.accesses n) (sets n)
    what_such n (tree.read es) = reading_such k.scope es

    only_such : (s : StmtTree) → I (only_in s k)
    only_such (tree.stmt n label w) = overlapped_such k.scope.symbols (set_at k.accesses n) (unite_all (what_in n w k)) (united_such IsCalled IsIn (what_in n w k) (what_such n w))

    arms_such : (xs : ArmTrees) (w : Reached) → Fits w.system → I (arms_in xs k w)
    arms_such tree.no_arms w h = tt
    arms_such (tree.more_arms x rest) w h =
        join (arm_in x k (into_arm x k.scope w)) (arms_in rest k (past_arm x k.scope w)) (arm_such x (into_arm x k.scope w) (into_fits k.scope x w h)) (arms_such rest (past_arm x k.scope w) (past_fits k.scope x w h))

    arm_such : (x : ArmTree) (w : Reached) → Fits w.system → I (arm_in x k w)
    arm_such (tree.arm e body) w h = met_such IsIn w h (list_of false body k (at_list body k)) (lists false body (at_list body k) (at_list_such body))

    else_such : (x : ElseTree) (w : Reached) → Fits w.system → I (else_in x k w)
    else_such tree.no_else w h = tt
    else_such (tree.otherwise body) w h = met_such IsIn w h (list_of false body k (at_list body k)) (lists false body (at_list body k) (at_list_such body))

    loop_such : (l : LoopTree) → I (do_of l k (at_loop l k))
    loop_such (tree.loop index first last step body) =
        let l = tree.loop index first last step body in
        do_such (range_of l k.scope k.does) l k.scope (body_accesses body k) (list_of false body k (at_list body k)) (lists false body (at_list body k) (at_list_such body))

    -- ---- at each statement

    at_stmt_such : (s : StmtTree) → Each At-in (at_stmt s k)
    at_stmt_such (tree.stmt n label w) = (what_such n w, at_parts_such w)

    at_parts_such : (w : WhatTree) → Each At-in (at_parts w k)
    at_parts_such (tree.assign x e) = tt
    at_parts_such (tree.block_if arms other) = each-append At-in (at_arms arms k) (at_else other k) (at_arms_such arms) (at_else_such other)
    at_parts_such (tree.logical_if e s) = at_stmt_such s
    at_parts_such (tree.do_loop l) = at_loop_such l
    at_parts_such (tree.call x es) = tt
    at_parts_such (tree.goto l) = tt
    at_parts_such tree.continue = tt
    at_parts_such tree.return = tt
    at_parts_such (tree.stop text) = tt
    at_parts_such (tree.print es) = tt
    at_parts_such (tree.read es) = tt

    pub at_list_such : (ss : StmtTrees) → Each At-in (at_list ss k)
    at_list_such tree.no_stmts = tt
    at_list_such (tree.more_stmts s rest) = each-append At-in (at_stmt s k) (at_list rest k) (at_stmt_such s) (at_list_such rest)

    at_arms_such : (xs : ArmTrees) → Each At-in (at_arms xs k)
    at_arms_such tree.no_arms = tt
    at_arms_such (tree.more_arms x rest) = each-append At-in (at_arm x k) (at_arms rest k) (at_arm_such x) (at_arms_such rest)

    at_arm_such : (x : ArmTree) → Each At-in (at_arm x k)
    at_arm_such (tree.arm e body) = at_list_such body

    at_else_such : (x : ElseTree) → Each At-in (at_else x k)
    at_else_such tree.no_else = tt
    at_else_such (tree.otherwise body) = at_list_such body

    at_loop_such : (l : LoopTree) → Each At-in (at_loop l k)
    at_loop_such (tree.loop index first last step body) = at_list_such body

  pub summary_such : (body : StmtTrees) → I (summary_of k.scope (list_set true body k))
  summary_such body =
      let m = k.scope in
      let all = all_in (symbols_reads m.symbols m) ++ list_set true body k in
      let out = seen m.symbols (locals m.symbols) (unite_all all) in
      united_such IsCalled IsIn out
      (seen_such IsCalled IsIn m.symbols (locals m.symbols) (unite_all all)
      (united_such IsCalled IsIn all (join (all_in (symbols_reads m.symbols m)) (list_set true body k) (as_in_such (symbols_reads m.symbols m) (symbols_such m m.symbols)) (lists true body (at_list body k) (at_list_such body)))))

-- ---- modules

pub ins_such : (body : StmtTrees) (m : ScopeTree) (untracked : List BlockUnit) (own : List (At Transformer)) → OwnFits own → (accesses : List (At (List Region))) → Each (λ (a : At (List Region)). A a.value) accesses
    → (cs : Callees) → CalleesSuch IsIn cs → Each (λ (a : At (List Region)). I a.value) (ins_with body m untracked own accesses cs).at × I (ins_with body m untracked own accesses cs).summary
ins_such body m untracked own fit accesses sets cs named = (at_list_such k (own_fits own fit) found called body, summary_such k (own_fits own fit) found called body)
  where
    k : KnownTree
    k = record { scope = m; does = transformer_at own; accesses = accesses; called = call_in m (changed_cells own) untracked cs }

    found : (n : ℕ) → A (set_at accesses n)
    found n = set_found A tt accesses sets n

    summary : (x : List ℕ) (es : ExprTrees) (o : Option (SummaryTree (List Region))) → MaybeSuch IsIn x o → I (summary_in m (changed_cells own) untracked x es o)
    summary x es None i = tt
    summary x es (Some s) i =
        let c = sides m (changed_cells own) untracked x es s.symbols in
        let rs = all_in_caller c s.value in
        united_such IsCalled IsIn (all_in (actuals_reads es m) ++ rs) (join (all_in (actuals_reads es m)) rs (as_in_such (actuals_reads es m) (actuals_such m es)) (caller_such IsIn c i.name i.symbols s.value i.value))

    called : (x : List ℕ) (es : ExprTrees) → I (call_in m (changed_cells own) untracked cs x es)
    called x es = summary x es (cs x) (named x)
