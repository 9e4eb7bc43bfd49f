-- OUT of statements and modules: of variables that are written there, OUT alone, and systems that calls take.
use Rattle.std.proofs.Common.{◌≡◌, ℕ, Bool, true, false, List, [], ◌∷◌, ◌++◌, map, Option, Some, None, ℤ, refl}
use Rattle.affine_systems.specs.declared.row.Var.TheVariants.{Cell, Aux}
use Rattle.affine_systems.specs.declared.row.System.{System}
use Rattle.affine_systems.specs.Given.{Fits}
use Rattle.affine_systems.specs.Calls.{meet}
use Rattle.affine_systems.proofs.Basics.{if_cases}
use Rattle.hull_projection.specs.Minus.{AllFit}
use Rattle.hull_projection.proofs.ProjectLaws.{project_fits}
use Rattle.preconditions.specs.transformer_algebra.Renaming.{naming, rename_all, push_rows}
use Rattle.f77_ast.specs.Trees.{ExprTree, StmtTree, WhatTree, ArmTree, ArmTrees, ElseTree, LoopTree, StmtTrees}
use Rattle.f77_ast.specs.Trees as tree
use Rattle.f77_ast.specs.declared.variable.Variable.{Variable}
use Rattle.f77_ast.specs.Symbols.{SymbolTree}
use Rattle.f77_ast.specs.declared.results.At.{At}
use Rattle.affine_forms.specs.declared.affine.Affine.{Affine}
use Rattle.affine_forms.specs.Scalars.{is_cell}
use Rattle.affine_forms.specs.Comparisons.{var_form, at_most_row, below_row}
use Rattle.preconditions.specs.transformer_algebra.declared.transformer.Transformer.{Transformer}
use Rattle.preconditions.specs.transformer_algebra.Transformers.{without, apply}
use Rattle.preconditions.specs.transformer_algebra.Loops.{goes_up, within_row, beyond_row}
use Rattle.preconditions.specs.call_translation.Scopes.{ScopeTree}
use Rattle.preconditions.specs.transformers.Jumps.{unstructured}
use Rattle.preconditions.specs.transformers.Lists.{transformer_at, list_at, number_of}
use Rattle.in_out_regions.specs.region_sets.declared.range.Range.{Range}
use Rattle.in_out_regions.specs.region_sets.declared.region.Access.{Access}
use Rattle.in_out_regions.specs.region_sets.declared.region.Access.TheVariants.{Out}
use Rattle.in_out_regions.specs.region_sets.declared.region.Region.{Region}
use Rattle.in_out_regions.specs.region_sets.Regions.{region}
use Rattle.in_out_regions.specs.region_sets.Trim.{trim}
use Rattle.in_out_regions.specs.region_sets.Sets.{all_trimmed, unite_all}
use Rattle.in_out_regions.specs.region_sets.Lists.{is_access, accesses, accesses_at, all_composed, all_forgetting, all_accesses, numbers, list_regions, set_at}
use Rattle.in_out_regions.specs.array_regions.Loops.{range_of}
use Rattle.in_out_regions.specs.array_regions.Entry.{locals, seen}
use Rattle.in_out_regions.specs.Kinds.{is_write}
use Rattle.in_out_regions.specs.Lists.{all_unwritten}
use Rattle.loop_marker.specs.out_regions.Known.{KnownTree}
use Rattle.loop_marker.specs.out_regions.Used.{as_out, all_out, is_used_beside, joined, used_joined, used_in, is_none, unless_empty, each_met, met_with, used_of, if_write, used}
use Rattle.loop_marker.specs.out_regions.Lists.{writes, writes_at, rest_in, rest_writes, applied, all_applied, rest_of, left_over, used_behind, first_out, rest_out, may_leave, used_around, any_out}
use Rattle.loop_marker.specs.out_regions.Later.{later_rows_by, later_rows, is_steady, later_index, later_piece, later, all_later}
use Rattle.loop_marker.specs.out_regions.Statement.{body_writes, body_out, body_in, used_after, loop_out, only_out, at_parts, at_arms, at_arm, at_else, at_loop, at_only, at_any, at_used, at_rest, at_first, at_list}
use Rattle.loop_marker.specs.out_regions.Modules.{summary_of, outs_with}
use Rattle.base_values.specs.Naming.{Each}
use Rattle.laws_stored.proofs.Lists.{set_found, each-append}
use Rattle.laws_stored.proofs.Tidied.{IsAscending, AreAscending, meet_fit, push_fit, rename_fit}
use Rattle.laws_stored.proofs.RulesFit.{without_fits, apply_fits, at_most_ascending, below_ascending}
use Rattle.laws_stored.proofs.TrimsFit.{trim_fit}
use Rattle.laws_stored.proofs.RegionRules.{fit-append, mapped_fit, IsSuch, AreSuch, both_such, all_such, all_composed_such, forgetting_such, unite_such, all_trimmed_such, united_such, order_such, accesses_such, list_such}
use Rattle.laws_stored.proofs.Links.{IsCalled}
use Rattle.laws_stored.proofs.Access.{IsAccess, seen_such, OwnFits, own_fits}
use Rattle.laws_stored.proofs.Ins.{SystemsFit, MaybeSystems, IsIn, I, unwritten_such, order_in_such, list_in_such, within_ascends, beyond_ascends}
use Rattle.f77_ast.specs.Variables.{same_variable}

abbrev pub IsOut : Access → Type 0
IsOut k = k ≡ Out

-- of any variable and kind
abbrev pub AnyVariable : Variable → Type 0
AnyVariable v = Unit {0}

abbrev pub AnyKind : Access → Type 0
AnyKind k = Unit {0}

abbrev pub T : List Region → Type 0
T rs = AreSuch AnyVariable AnyKind rs

pub of_any : (V : Variable → Type 0) (K : Access → Type 0) (rs : List Region) → AreSuch V K rs → T rs
of_any V K [] h = tt
of_any V K (r ∷ rs) h = ((tt, tt, h.0.2), of_any V K rs h.1)

both : (rs qs : List Region) → T rs → T qs → T (rs ++ qs)
both rs qs h k = both_such AnyVariable AnyKind rs qs h k

as_outs : (rs : List Region) → T rs → T (map as_out rs)
as_outs [] h = tt
as_outs (r ∷ rs) h = (h.0, as_outs rs h.1)

pub all_out_such : (rs : List Region) → T rs → T (all_out rs)
all_out_such rs h = as_outs (all_trimmed rs) (all_trimmed_such AnyVariable AnyKind rs h)

systems : (rs : List Region) → T rs → SystemsFit rs
systems [] h = tt
systems (r ∷ rs) h = (h.0.2, systems rs h.1)

-- ---- what is used of WRITE regions

joined_fits : (o : Option Region) (u : Region) → MaybeSystems o → AllFit u.pieces → AllFit (joined o u).pieces
joined_fits None u h k = k
joined_fits (Some r) u h k = (unite_such AnyVariable AnyKind r (as_out u) (tt, tt, h) (tt, tt, k)).2

joined_fit : (v : Variable) (o : Option Region) (us : List Region) → MaybeSystems o → T us → MaybeSystems (used_joined v o us)
joined_fit v o [] h k = h
joined_fit v o (u ∷ us) h k =
    if_cases MaybeSystems (same_variable v u.variable) (used_joined v (Some (joined o u)) us) (used_joined v o us) (λ e. joined_fit v (Some (joined o u)) us (joined_fits o u h k.0.2) k.1) (λ e. joined_fit v o us h k.1)

met_fit : (ss ts : List System) → AllFit ss → AllFit ts → AllFit (each_met ss ts)
met_fit [] ts h k = tt
met_fit (s ∷ ss) ts h k = fit-append (map (λ t. meet s t) ts) (each_met ss ts) (mapped_fit (λ t. meet s t) (λ t i. meet_fit s t h.0 i) ts k) (met_fit ss ts h.1 k)

module _ (V : Variable → Type 0) where
  abbrev pub O : List Region → Type 0
  O rs = AreSuch V IsOut rs

  abbrev U : List Region → Type 0
  U rs = AreSuch V AnyKind rs

  unless_such : (w : Region) (ss : List System) → V w.variable → AllFit ss → O (unless_empty w ss)
  unless_such w ss h k = if_cases O (is_none ss) [] (region w.variable Out false ss ∷ []) (λ e. tt) (λ e. ((h, refl, k), tt))

  met_such : (w : Region) (o : Option Region) → IsSuch V AnyKind w → MaybeSystems o → O (met_with w o)
  met_such w None h k = tt
  met_such w (Some u) h k = let ss = each_met w.pieces u.pieces in unless_such w (trim ss).pieces h.0 (trim_fit ss (met_fit w.pieces u.pieces h.2 k))

  used_of_such : (ss : List SymbolTree) (us : List Region) (w : Region) → T us → IsSuch V AnyKind w → O (used_of ss us w)
  used_of_such ss us w h k =
      if_cases O (is_used_beside ss us w.variable) (as_out w ∷ []) (met_with w (used_in w.variable us)) (λ e. ((k.0, refl, k.2), tt)) (λ e. met_such w (used_in w.variable us) k (joined_fit w.variable None us tt h))

  pub used_such : (ss : List SymbolTree) (us ws : List Region) → T us → U ws → O (used ss us ws)
  used_such ss us [] h k = tt
  used_such ss us (w ∷ ws) h k =
      both_such V IsOut (if_write ss us w) (used ss us ws) (if_cases O (is_write w.kind) (used_of ss us w) [] (λ e. used_of_such ss us w h k.0) (λ e. tt)) (used_such ss us ws h k.1)

  writes_such : (rs : List Region) → U rs → U (writes rs)
  writes_such [] h = tt
  writes_such (r ∷ rs) h = let ih = writes_such rs h.1 in if_cases U (is_write r.kind) (r ∷ writes rs) (writes rs) (λ e. (h.0, ih)) (λ e. ih)

  kinds : (rs : List Region) → AreSuch V IsAccess rs → U rs
  kinds [] h = tt
  kinds (r ∷ rs) h = ((h.0.0, tt, h.0.2), kinds rs h.1)

-- ---- later iterations

later_ascend : (o : Option ℤ) (i : ℕ) (l : Option Affine) → AreAscending (later_rows_by o i l)
later_ascend None i l = tt
later_ascend (Some s) i None = tt
later_ascend (Some s) i (Some l) = (beyond_ascends s (var_form (Aux 2)) (var_form (Cell i)), (within_ascends s (var_form (Aux 2)) l, tt))

later_fits : (tracked : Bool) (g : Range) (s : System) → Fits s → Fits (later_piece tracked g s)
later_fits tracked g s h =
    let q = rename_all (naming (Cell g.index) (Aux 2) ∷ []) s in
    let rows = later_rows tracked g in
    if_cases Fits (is_steady g s) (later_index tracked g s) (without g.turn.cells s)
    (λ e. project_fits (push_rows q rows) (Aux 2 ∷ [])
    (push_fit q rows (rename_fit (naming (Cell g.index) (Aux 2) ∷ []) s) (if_cases AreAscending tracked (later_rows_by g.step g.index g.last) [] (λ i. later_ascend g.step g.index g.last) (λ i. tt))))
    (λ e. without_fits g.turn.cells s h)

later_such : (tracked : Bool) (g : Range) (rs : List Region) → T rs → T (all_later tracked g rs)
later_such tracked g rs h = all_such AnyVariable AnyKind (later tracked g) (λ r k. (tt, tt, mapped_fit (later_piece tracked g) (later_fits tracked g) r.pieces k.2)) rs h

applied_such : (t : Transformer) (rs : List Region) → T rs → T (all_applied t rs)
applied_such t rs h = all_such AnyVariable AnyKind (applied t) (λ r k. (tt, tt, mapped_fit (apply t) (λ s i. apply_fits t s) r.pieces k.2)) rs h

forgotten_such : (cs : List ℕ) (rs : List Region) → T rs → T (all_forgetting cs rs)
forgotten_such cs rs h = forgetting_such AnyVariable AnyKind cs rs h

composed : (t : Transformer) → Fits t.system → (rs : List Region) → T rs → T (all_composed t rs)
composed t h rs k = all_composed_such AnyVariable AnyKind t h rs k

-- ---- statements

module _ (V : Variable → Type 0) (k : KnownTree) (fit : (n : ℕ) → Fits (k.does n).system) (sets : (n : ℕ) → AreSuch V IsAccess (set_at k.accesses n)) (ins : (n : ℕ) → I (set_at k.ins n)) where
  abbrev P : List Region → Type 0
  P rs = AreSuch V IsOut rs

  abbrev W : List Region → Type 0
  W rs = AreSuch V AnyKind rs

  found_writes : (n : ℕ) → W (writes_at k n)
  found_writes n = writes_such V (set_at k.accesses n) (kinds V (set_at k.accesses n) (sets n))

  set_systems : (n : ℕ) → SystemsFit (set_at k.accesses n)
  set_systems n = systems (set_at k.accesses n) (of_any V IsAccess (set_at k.accesses n) (sets n))

  rest_ins : (rest : StmtTrees) → T (rest_in k rest)
  rest_ins rest = of_any IsCalled IsIn (rest_in k rest) (order_in_such k.scope.symbols k.does fit (set_at k.accesses) set_systems (set_at k.ins) ins (numbers rest))

  rest_writes_such : (rest : StmtTrees) → W (rest_writes k rest)
  rest_writes_such rest = order_such V AnyKind k.does fit (writes_at k) found_writes (numbers rest)

  left_such : (leaving : Bool) (ws out : List Region) → T ws → T out → T (left_over leaving ws out)
  left_such leaving ws out h i =
      let rs = all_trimmed ws in if_cases T leaving out (all_unwritten rs out) (λ e. i) (λ e. unwritten_such AnyVariable AnyKind rs out (systems rs (all_trimmed_such AnyVariable AnyKind ws h)) i)

  behind_such : (leaving : Bool) (n : ℕ) (whole : Bool) (rest : StmtTrees) (out : List Region) → P out → T (used_behind k leaving n (rest_of k whole rest) out)
  behind_such leaving n whole rest out h =
      let t = k.does n in
      let is = all_composed t (rest_in k rest) in
      let ws = all_composed t (rest_writes k rest) in
      both (all_out is) (all_out (left_over leaving ws out)) (all_out_such is (composed t (fit n) (rest_in k rest) (rest_ins rest)))
      (all_out_such (left_over leaving ws out) (left_such leaving ws out (composed t (fit n) (rest_writes k rest) (of_any V AnyKind (rest_writes k rest) (rest_writes_such rest))) (of_any V IsOut out h)))

  first_such : (leaving : Bool) (n : ℕ) (whole : Bool) (rest : StmtTrees) (out : List Region) → P out → P (first_out k leaving n (rest_of k whole rest) out)
  first_such leaving n whole rest out h = used_such V k.scope.symbols (used_behind k leaving n (rest_of k whole rest) out) (writes_at k n) (behind_such leaving n whole rest out h) (found_writes n)

  rest_out_such : (n : ℕ) (whole : Bool) (rest : StmtTrees) (out : List Region) → P out → P (rest_out k n (rest_of k whole rest) out)
  rest_out_such n whole rest out h =
      let us = all_out (all_applied (k.does n) out) in
      used_such V k.scope.symbols us (rest_writes k rest) (all_out_such (all_applied (k.does n) out) (applied_such (k.does n) out (of_any V IsOut out h))) (rest_writes_such rest)

  around_such : (whole : Bool) (body : StmtTrees) (out : List Region) → P out → T (used_around k whole body out)
  around_such whole body out h =
      let cs = (list_at k.does whole body).cells in
      let is = all_accesses (set_at k.ins) (numbers body) in
      both (all_out (all_forgetting cs is)) (all_out (all_forgetting cs out))
      (all_out_such (all_forgetting cs is) (forgotten_such cs is (of_any IsCalled IsIn is (accesses_such IsCalled IsIn k.does fit (set_at k.ins) ins (numbers body)))))
      (all_out_such (all_forgetting cs out) (forgotten_such cs out (of_any V IsOut out h)))

  any_out_such : (us : List Region) (n : ℕ) → T us → P (any_out k us n)
  any_out_such us n h = used_such V k.scope.symbols us (writes_at k n) h (found_writes n)

  only_such : (n : ℕ) (out : List Region) → P out → P (only_out k n out)
  only_such n out h =
      let own = any_out k out n in
      let i = any_out_such out n (of_any V IsOut out h) in
      any_out_such (all_out own) n (all_out_such own (of_any V IsOut own i))

  kept : (rs : List Region) → W rs → W (accesses rs)
  kept [] h = tt
  kept (r ∷ rs) h = let ih = kept rs h.1 in if_cases W (is_access r.kind) (r ∷ accesses rs) (accesses rs) (λ e. (h.0, ih)) (λ e. ih)

  body_writes_such : (whole : Bool) (body : StmtTrees) → W (body_writes k whole body)
  body_writes_such whole body =
      let f = accesses_at k.accesses in
      writes_such V (list_regions k.does f whole body) (list_such V AnyKind k.does fit f (λ n. kept (set_at k.accesses n) (kinds V (set_at k.accesses n) (sets n))) whole body)

  pub body_such : (whole : Bool) (body : StmtTrees) (us : List Region) → T us → P (body_out k whole body us)
  body_such whole body us h = used_such V k.scope.symbols us (body_writes k whole body) h (body_writes_such whole body)

  after_such : (g : Range) (body : StmtTrees) (out : List Region) → P out → T (used_after k g body out)
  after_such g body out h =
      let tracked = is_cell k.scope.tracked g.index in
      let is = body_in k body in
      both (all_out (all_forgetting g.turn.cells out)) (all_out (all_later tracked g is)) (all_out_such (all_forgetting g.turn.cells out) (forgotten_such g.turn.cells out (of_any V IsOut out h)))
      (all_out_such (all_later tracked g is) (later_such tracked g is (of_any IsCalled IsIn is (list_in_such k.scope.symbols k.does fit (set_at k.accesses) set_systems (set_at k.ins) ins false body))))

  loop_out_such : (l : LoopTree) (out : List Region) → P out → P (loop_out k l out)
  loop_out_such (tree.loop index first last step body) out h =
      let g = range_of (tree.loop index first last step body) k.scope k.does in
      body_such false body (used_after k g body out) (after_such g body out h)

  -- ---- at each statement

  abbrev At-out : At (List Region) → Type 0
  At-out a = P a.value

  mutual
    parts_such : (w : WhatTree) (out : List Region) → P out → Each At-out (at_parts w k out)
    parts_such (tree.assign x e) out h = tt
    parts_such (tree.block_if arms other) out h = each-append At-out (at_arms arms k out) (at_else other k out) (arms_such arms out h) (else_such other out h)
    parts_such (tree.logical_if e s) out h = only_at_such s out h
    parts_such (tree.do_loop l) out h = loop_such l (loop_out k l out) (loop_out_such l out h)
    parts_such (tree.call x es) out h = tt
    parts_such (tree.goto l) out h = tt
    parts_such tree.continue out h = tt
    parts_such tree.return out h = tt
    parts_such (tree.stop text) out h = tt
    parts_such (tree.print es) out h = tt
    parts_such (tree.read es) out h = tt

    arms_such : (xs : ArmTrees) (out : List Region) → P out → Each At-out (at_arms xs k out)
    arms_such tree.no_arms out h = tt
    arms_such (tree.more_arms x rest) out h = each-append At-out (at_arm x k out) (at_arms rest k out) (arm_such x out h) (arms_such rest out h)

    arm_such : (x : ArmTree) (out : List Region) → P out → Each At-out (at_arm x k out)
    arm_such (tree.arm e body) out h =
        let own = body_out k false body out in
        let i = body_such false body out (of_any V IsOut out h) in
        if_cases (Each At-out) (unstructured false body) (at_any body k (used_around k false body own)) (at_rest false body k own) (λ u. any_such body (used_around k false body own) (around_such false body own i)) (λ u. rest_such false body own i)

    else_such : (x : ElseTree) (out : List Region) → P out → Each At-out (at_else x k out)
    else_such tree.no_else out h = tt
    else_such (tree.otherwise body) out h =
        let own = body_out k false body out in
        let i = body_such false body out (of_any V IsOut out h) in
        if_cases (Each At-out) (unstructured false body) (at_any body k (used_around k false body own)) (at_rest false body k own) (λ u. any_such body (used_around k false body own) (around_such false body own i)) (λ u. rest_such false body own i)

    loop_such : (l : LoopTree) (out : List Region) → P out → Each At-out (at_loop l k out)
    loop_such (tree.loop index first last step body) out h =
        if_cases (Each At-out) (unstructured false body) (at_any body k (used_around k false body out)) (at_rest false body k out) (λ u. any_such body (used_around k false body out) (around_such false body out h)) (λ u. rest_such false body out h)

    only_at_such : (s : StmtTree) (out : List Region) → P out → Each At-out (at_only s k out)
    only_at_such (tree.stmt n label w) out h = (only_such n out h, parts_such w (only_out k n out) (only_such n out h))

    any_such : (ss : StmtTrees) (us : List Region) → T us → Each At-out (at_any ss k us)
    any_such tree.no_stmts us h = tt
    any_such (tree.more_stmts s rest) us h = each-append At-out (at_used s k us) (at_any rest k us) (used_at_such s us h) (any_such rest us h)

    used_at_such : (s : StmtTree) (us : List Region) → T us → Each At-out (at_used s k us)
    used_at_such (tree.stmt n label w) us h = (any_out_such us n h, parts_such w (any_out k us n) (any_out_such us n h))

    rest_such : (whole : Bool) (ss : StmtTrees) (out : List Region) → P out → Each At-out (at_rest whole ss k out)
    rest_such whole tree.no_stmts out h = tt
    rest_such whole (tree.more_stmts s rest) out h =
        let r = rest_of k whole rest in
        each-append At-out (at_first whole s k r out) (at_rest whole rest k (rest_out k (number_of s) r out)) (first_at_such whole s rest out h) (rest_such whole rest (rest_out k (number_of s) r out) (rest_out_such (number_of s) whole rest out h))

    first_at_such : (whole : Bool) (s : StmtTree) (rest : StmtTrees) (out : List Region) → P out → Each At-out (at_first whole s k (rest_of k whole rest) out)
    first_at_such whole (tree.stmt n label w) rest out h =
        let r = rest_of k whole rest in
        let leaving = may_leave whole (tree.stmt n label w) r in
        let i = first_such leaving n whole rest out h in
        (i, parts_such w (first_out k leaving n r out) i)

  pub at_list_such : (whole : Bool) (body : StmtTrees) (out : List Region) → P out → Each At-out (at_list whole body k out)
  at_list_such whole body out h =
      if_cases (Each At-out) (unstructured whole body) (at_any body k (used_around k whole body out)) (at_rest whole body k out) (λ u. any_such body (used_around k whole body out) (around_such whole body out h)) (λ u. rest_such whole body out h)

  pub summary_such : (out : List Region) → P out → P (summary_of k.scope out)
  summary_such out h =
      let m = k.scope in
      let rs = seen m.symbols (locals m.symbols) (unite_all out) in
      united_such V IsOut rs (seen_such V IsOut m.symbols (locals m.symbols) (unite_all out) (united_such V IsOut out h))

-- ---- modules

pub outs_such : (V : Variable → Type 0) (body : StmtTrees) (m : ScopeTree) (own : List (At Transformer)) → OwnFits own → (accesses ins : List (At (List Region))) → Each (λ (a : At (List Region)). AreSuch V IsAccess a.value) accesses
    → Each (λ (a : At (List Region)). I a.value) ins → (us : List Region) → T us → Each (λ (a : At (List Region)). AreSuch V IsOut a.value) (outs_with body m own accesses ins us).at × AreSuch V IsOut (outs_with body m own accesses ins us).summary
outs_such V body m own fit accesses ins sets firsts us h = (at_list_such V k (own_fits own fit) found first true body out i, summary_such V k (own_fits own fit) found first out i)
  where
    k : KnownTree
    k = record { scope = m; does = transformer_at own; accesses = accesses; ins = ins }

    found : (n : ℕ) → AreSuch V IsAccess (set_at accesses n)
    found n = set_found (AreSuch V IsAccess) tt accesses sets n

    first : (n : ℕ) → I (set_at ins n)
    first n = set_found I tt ins firsts n

    out : List Region
    out = body_out k true body us

    i : AreSuch V IsOut (body_out k true body us)
    i = body_such V k (own_fits own fit) found first true body us h
