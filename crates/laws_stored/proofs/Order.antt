-- The sets that are found at statements and of modules are in order.
use Rattle.std.proofs.Common.{◌≡◌, ℕ, Bool, true, false, List, [], ◌∷◌, ◌++◌, map, Option, Some, None, refl, sym, ◌∙◌}
use Rattle.std.specs.Prelude.{if◌then◌else◌}
use Rattle.std.specs.declared.cmp.Ordering.TheVariants.{Less}
use Rattle.affine_systems.specs.declared.row.System.{System}
use Rattle.affine_systems.proofs.Basics.{if_cases}
use Rattle.f77_ast.specs.Trees.{ExprTree, ExprTrees, StmtTree, WhatTree, ArmTree, ArmTrees, ElseTree, LoopTree, StmtTrees}
use Rattle.f77_ast.specs.Trees as tree
use Rattle.f77_ast.specs.declared.variable.Unit.{Unit as BlockUnit}
use Rattle.f77_ast.specs.Symbols.{SymbolTree}
use Rattle.f77_ast.specs.declared.results.At.{At}
use Rattle.f77_ast.specs.declared.results.Results.{Results}
use Rattle.f77_ast.specs.Summaries.{SummaryTree}
use Rattle.preconditions.specs.transformer_algebra.declared.transformer.Transformer.{Transformer}
use Rattle.preconditions.specs.transformer_algebra.Laws.{In, here, there}
use Rattle.preconditions.specs.call_translation.Scopes.{ScopeTree}
use Rattle.preconditions.specs.transformers.Jumps.{unstructured}
use Rattle.preconditions.specs.transformers.Lists.{transformer_at, list_at, number_of}
use Rattle.in_out_regions.specs.region_sets.declared.region.Access.{Access}
use Rattle.in_out_regions.specs.region_sets.declared.region.Access.TheVariants as access
use Rattle.in_out_regions.specs.region_sets.declared.region.Region.{Region}
use Rattle.in_out_regions.specs.region_sets.Regions.{region}
use Rattle.in_out_regions.specs.region_sets.Trim.{trim}
use Rattle.in_out_regions.specs.region_sets.Sets.{region_cmp, unite_all}
use Rattle.in_out_regions.specs.region_sets.Lists.{accesses_at, all_composed, all_accesses, all_forgetting, in_order, in_any_order, numbers, list_regions, set_at}
use Rattle.in_out_regions.specs.call_equations.Sides.{changed_cells}
use Rattle.affine_forms.specs.Scalars.{is_cell}
use Rattle.in_out_regions.specs.array_regions.References.{scalar, named}
use Rattle.in_out_regions.specs.array_regions.Reads.{reads, all_reads, inner_reads}
use Rattle.in_out_regions.specs.array_regions.Arms.{always, if_true, past_arms, all_met, tests_reads}
use Rattle.in_out_regions.specs.array_regions.Entry.{symbols_reads, locals, seen}
use Rattle.in_out_regions.specs.array_regions.Simple.{item_does, reading}
use Rattle.in_out_regions.specs.array_regions.Loops.{Found, range_of, loop_reads, all_over}
use Rattle.in_out_regions.specs.array_regions.Calls.{Called, Callees, actuals_reads, sides, all_in_caller, summary_in_caller}
use Rattle.in_out_regions.specs.array_regions.Statement as accesses
use Rattle.in_out_regions.specs.array_regions.Modules.{calls_of, regions_with}
use Rattle.in_out_regions.specs.Kinds.{as_in, all_in, is_read, is_write, first_reads}
use Rattle.in_out_regions.specs.Lists.{all_unwritten, unless_overlapped, all_unless_overlapped}
use Rattle.in_out_regions.specs.Known as known
use Rattle.in_out_regions.specs.Calls.{summary_in, call_in}
use Rattle.in_out_regions.specs.Simple as simple
use Rattle.in_out_regions.specs.Loops.{all_iterations}
use Rattle.in_out_regions.specs.Statement as firsts
use Rattle.in_out_regions.specs.Modules.{ins_with}
use Rattle.loop_marker.specs.out_regions.Known.{KnownTree}
use Rattle.loop_marker.specs.out_regions.Used.{as_out, all_out, is_used_beside, used_in, is_none, unless_empty, each_met, met_with, used_of, if_write, used}
use Rattle.loop_marker.specs.out_regions.Lists.{writes, writes_at, rest_of, used_behind, first_out, rest_out, may_leave, used_around, any_out}
use Rattle.loop_marker.specs.out_regions.Statement.{body_out, loop_out, only_out, at_parts, at_arms, at_arm, at_else, at_loop, at_only, at_any, at_used, at_rest, at_first, at_list}
use Rattle.loop_marker.specs.out_regions.Modules.{outs_with}
use Rattle.base_values.specs.Naming.{Each}
use Rattle.laws_marks.proofs.InUnique.{Ordered, gathered_ordered, inexact_ordered, Ahead}
use Rattle.laws_stored.proofs.Lists.{set_found, each-append}
use Rattle.laws_marks.proofs.InSets.{list_ordered}

-- ---- sets with other systems

ahead_mapped : (f : Region → Region) → ((a b : Region) → region_cmp (f a) (f b) ≡ region_cmp a b) → (x : Region) (qs : List Region) → Ahead x qs → Ahead (f x) (map f qs)
ahead_mapped f same x [] h q i = elim i [ ]
ahead_mapped f same x (y ∷ qs) h q here = same x y ∙ h y here
ahead_mapped f same x (y ∷ qs) h q (there i) = ahead_mapped f same x qs (λ w j. h w (there j)) q i

mapped_ordered : (f : Region → Region) → ((a b : Region) → region_cmp (f a) (f b) ≡ region_cmp a b) → (rs : List Region) → Ordered rs → Ordered (map f rs)
mapped_ordered f same [] h = tt
mapped_ordered f same (r ∷ rs) h = (ahead_mapped f same r rs h.0, mapped_ordered f same rs h.1)

overlapped_ordered : (ss : List SymbolTree) (ws rs : List Region) → Ordered rs → Ordered (all_unless_overlapped ss ws rs)
overlapped_ordered ss ws rs h = mapped_ordered (unless_overlapped ss ws) (λ a b. refl) rs h

-- ---- parts of sets

one_is : (a : Access) → is_read a ≡ true → a ≡ access.Read
one_is access.Read e = refl
one_is access.Write e = cc
one_is access.In e = cc
one_is access.Out e = cc

write_is : (a : Access) → is_write a ≡ true → a ≡ access.Write
write_is access.Read e = cc
write_is access.Write e = refl
write_is access.In e = cc
write_is access.Out e = cc

-- of one kind
abbrev with_kind : Access → Region → Region
with_kind a r = region r.variable a r.exact r.pieces

by_variable : (a : Access) (x y : Region) → x.kind ≡ a → y.kind ≡ a → region_cmp (with_kind access.Read x) (with_kind access.Read y) ≡ region_cmp x y
by_variable access.Read x y e f = (λ i. region_cmp (with_kind (sym e i) x) (with_kind (sym f i) y))
by_variable access.Write x y e f = (λ i. region_cmp (with_kind (sym e i) x) (with_kind (sym f i) y))
by_variable access.In x y e f = (λ i. region_cmp (with_kind (sym e i) x) (with_kind (sym f i) y))
by_variable access.Out x y e f = (λ i. region_cmp (with_kind (sym e i) x) (with_kind (sym f i) y))

first_ahead : (x : Region) (rs : List Region) → x.kind ≡ access.Read → Ahead x rs → Ahead (as_in x) (first_reads rs)
first_ahead x [] e h = λ q i. elim i [ ]
first_ahead x (r ∷ rs) e h = go (is_read r.kind) refl (first_ahead x rs e (λ w j. h w (there j)))
  where
    go : (b : Bool) → is_read r.kind ≡ b → Ahead (as_in x) (first_reads rs) → Ahead (as_in x) (if b then as_in r ∷ first_reads rs else first_reads rs)
    go true f ih q here = by_variable access.Read x r e (one_is r.kind f) ∙ h r here
    go true f ih q (there i) = ih q i
    go false f ih q i = ih q i

first_ordered : (rs : List Region) → Ordered rs → Ordered (first_reads rs)
first_ordered [] h = tt
first_ordered (r ∷ rs) h = go (is_read r.kind) refl (first_ordered rs h.1)
  where
    go : (b : Bool) → is_read r.kind ≡ b → Ordered (first_reads rs) → Ordered (if b then as_in r ∷ first_reads rs else first_reads rs)
    go true e ih = (first_ahead r rs (one_is r.kind e) h.0, ih)
    go false e ih = ih

writes_ahead : (x : Region) (rs : List Region) → Ahead x rs → Ahead x (writes rs)
writes_ahead x [] h = λ q i. elim i [ ]
writes_ahead x (r ∷ rs) h = go (is_write r.kind) (writes_ahead x rs (λ w j. h w (there j)))
  where
    go : (b : Bool) → Ahead x (writes rs) → Ahead x (if b then r ∷ writes rs else writes rs)
    go true ih q here = h r here
    go true ih q (there i) = ih q i
    go false ih q i = ih q i

writes_ordered : (rs : List Region) → Ordered rs → Ordered (writes rs)
writes_ordered [] h = tt
writes_ordered (r ∷ rs) h = go (is_write r.kind) (writes_ordered rs h.1)
  where
    go : (b : Bool) → Ordered (writes rs) → Ordered (if b then r ∷ writes rs else writes rs)
    go true ih = (writes_ahead r rs h.0, ih)
    go false ih = ih

order_ordered : (t : ℕ → Transformer) (f : ℕ → List Region) (ns : List ℕ) → Ordered (in_order t f ns)
order_ordered t f [] = tt
order_ordered t f (n ∷ ns) = gathered_ordered (f n ++ all_composed (t n) (in_order t f ns))

-- ---- what is used of WRITE regions

-- of the variable of one of these
record IsOfWrite (ws : List Region) (r : Region) : Type 0 where
  of : Region
  among : In of ws
  kind : of.kind ≡ access.Write
  variable : r.variable ≡ of.variable
  out : r.kind ≡ access.Out

each_in : (P : Region → Type 0) (xs : List Region) → Each P xs → (x : Region) → In x xs → P x
each_in P [] h x i = elim i [ ]
each_in P (y ∷ ys) h x here = h.0
each_in P (y ∷ ys) h x (there i) = each_in P ys h.1 x i

-- the regions of one of them
ones : (P : List Region → Type 0) (ss : List SymbolTree) (us : List Region) (w : Region) → P [] → ((pieces : List System) → is_write w.kind ≡ true → P (region w.variable access.Out false pieces ∷ [])) → P (if_write ss us w)
ones P ss us w none one =
    if_cases P (is_write w.kind) (used_of ss us w) []
    (λ e. if_cases P (is_used_beside ss us w.variable) (as_out w ∷ []) (met_with w (used_in w.variable us)) (λ f. one w.pieces e) (λ f. met (used_in w.variable us) e)) (λ e. none)
  where
    met : (o : Option Region) → is_write w.kind ≡ true → P (met_with w o)
    met None e = none
    met (Some u) e = let qs = (trim (each_met w.pieces u.pieces)).pieces in if_cases P (is_none qs) [] (region w.variable access.Out false qs ∷ []) (λ f. none) (λ f. one qs e)

of_writes : (ss : List SymbolTree) (us all ws : List Region) → ((w : Region) → In w ws → In w all) → Each (IsOfWrite all) (used ss us ws)
of_writes ss us all [] sub = tt
of_writes ss us all (w ∷ ws) sub =
    each-append (IsOfWrite all) (if_write ss us w) (used ss us ws)
    (ones (Each (IsOfWrite all)) ss us w tt (λ pieces e. (record { of = w; among = sub w here; kind = write_is w.kind e; variable = refl; out = refl }, tt)))
    (of_writes ss us all ws (λ v i. sub v (there i)))

used_ahead : (ss : List SymbolTree) (us ws : List Region) (w : Region) (pieces : List System) → w.kind ≡ access.Write → Ahead w ws → Ahead (region w.variable access.Out false pieces) (used ss us ws)
used_ahead ss us ws w pieces k h q i =
    let r = each_in (IsOfWrite ws) (used ss us ws) (of_writes ss us ws ws (λ v j. j)) q i in
    let first : region_cmp (region w.variable access.Out false pieces) q ≡ region_cmp (with_kind access.Read w) (with_kind access.Read r.of) = (λ j. region_cmp (region w.variable access.Out false pieces) (region (r.variable j) (r.out j) q.exact q.pieces)) in
    first ∙ (by_variable access.Write w r.of k r.kind ∙ h r.of r.among)

used_ordered : (ss : List SymbolTree) (us ws : List Region) → Ordered ws → Ordered (used ss us ws)
used_ordered ss us [] h = tt
used_ordered ss us (w ∷ ws) h =
    let rest = used_ordered ss us ws h.1 in
    ones (λ (rs : List Region). Ordered (rs ++ used ss us ws)) ss us w rest (λ pieces e. (used_ahead ss us ws w pieces (write_is w.kind e) h.0, rest))

-- ---- READ and WRITE

module _ (m : ScopeTree) (t : Found) (c : Called) (called : (x : List ℕ) (es : ExprTrees) → Ordered (c x es)) where
  reading_ordered : (es : ExprTrees) → Ordered (reading es m)
  reading_ordered tree.no_exprs = tt
  reading_ordered (tree.more_exprs e es) = gathered_ordered (inner_reads e m ++ (named e m access.Write ++ all_composed (item_does m e) (reading es m)))

  what_ordered : (w : WhatTree) → Ordered (accesses.what_set w m t c)
  what_ordered (tree.assign x y) = gathered_ordered (reads y m ++ (inner_reads x m ++ named x m access.Write))
  what_ordered (tree.block_if arms other) =
      gathered_ordered (tests_reads arms m always ++ (accesses.arm_sets arms m t c always ++ accesses.else_set other m t c (past_arms arms m always)))
  what_ordered (tree.logical_if e s) = gathered_ordered (reads e m ++ all_met (if_true m e always) (accesses.stmt_set s m t c))
  what_ordered (tree.do_loop (tree.loop index first last step body)) =
      let l = tree.loop index first last step body in
      let g = range_of l m t in
      gathered_ordered (loop_reads l m ++ (scalar access.Write g.index ∷ all_over g (list_regions t (accesses_at (accesses.at_list body m t c)) false body)))
  what_ordered (tree.call x es) = called x es
  what_ordered (tree.goto l) = tt
  what_ordered tree.continue = tt
  what_ordered tree.return = tt
  what_ordered (tree.stop text) = tt
  what_ordered (tree.print es) = gathered_ordered (all_reads es m)
  what_ordered (tree.read es) = reading_ordered es

  abbrev At-ordered : At (List Region) → Type 0
  At-ordered a = Ordered a.value

  mutual
    r_stmt : (s : StmtTree) → Each At-ordered (accesses.at_stmt s m t c)
    r_stmt (tree.stmt n label w) = (what_ordered w, r_parts w)

    r_parts : (w : WhatTree) → Each At-ordered (accesses.at_parts w m t c)
    r_parts (tree.assign x e) = tt
    r_parts (tree.block_if arms other) = each-append At-ordered (accesses.at_arms arms m t c) (accesses.at_else other m t c) (r_arms arms) (r_else other)
    r_parts (tree.logical_if e s) = r_stmt s
    r_parts (tree.do_loop l) = r_loop l
    r_parts (tree.call x es) = tt
    r_parts (tree.goto l) = tt
    r_parts tree.continue = tt
    r_parts tree.return = tt
    r_parts (tree.stop text) = tt
    r_parts (tree.print es) = tt
    r_parts (tree.read es) = tt

    pub r_list : (ss : StmtTrees) → Each At-ordered (accesses.at_list ss m t c)
    r_list tree.no_stmts = tt
    r_list (tree.more_stmts s rest) = each-append At-ordered (accesses.at_stmt s m t c) (accesses.at_list rest m t c) (r_stmt s) (r_list rest)

    r_arms : (xs : ArmTrees) → Each At-ordered (accesses.at_arms xs m t c)
    r_arms tree.no_arms = tt
    r_arms (tree.more_arms x rest) = each-append At-ordered (accesses.at_arm x m t c) (accesses.at_arms rest m t c) (r_arm x) (r_arms rest)

    r_arm : (x : ArmTree) → Each At-ordered (accesses.at_arm x m t c)
    r_arm (tree.arm test body) = r_list body

    r_else : (x : ElseTree) → Each At-ordered (accesses.at_else x m t c)
    r_else tree.no_else = tt
    r_else (tree.otherwise body) = r_list body

    r_loop : (l : LoopTree) → Each At-ordered (accesses.at_loop l m t c)
    r_loop (tree.loop index first last step body) = r_list body

abbrev pub SetsOrdered : Results (List Region) → Type 0
SetsOrdered r = Each (λ (a : At (List Region)). Ordered a.value) r.at × Ordered r.summary

pub regions_ordered : (body : StmtTrees) (m : ScopeTree) (untracked : List BlockUnit) (own : List (At Transformer)) (cs : Callees) → SetsOrdered (regions_with body m untracked own cs)
regions_ordered body m untracked own cs =
    let t = transformer_at own in
    let c = calls_of m untracked own cs in (
      r_list m t c (λ x es. gathered_ordered (actuals_reads es m ++ summary_in_caller m (changed_cells own) untracked x es (cs x))) body,
      gathered_ordered (seen m.symbols (locals m.symbols) (unite_all (symbols_reads m.symbols m ++ accesses.list_set true body m t c))),
    )

-- ---- IN

module _ (k : known.KnownTree) (sets : (n : ℕ) → Ordered (set_at k.accesses n)) (called : (x : List ℕ) (es : ExprTrees) → Ordered (k.called x es)) where
  items_ordered : (es : ExprTrees) (m : ScopeTree) → Ordered (simple.reading es m)
  items_ordered tree.no_exprs m = tt
  items_ordered (tree.more_exprs e es) m =
      let both = simple.item_in m e ++ all_unwritten (simple.item_written m e) (unite_all (all_composed (item_does m e) (simple.reading es m))) in
      overlapped_ordered m.symbols (simple.item_written m e) (unite_all both) (gathered_ordered both)

  first_in : (n : ℕ) (w : WhatTree) → Ordered (firsts.what_in n w k)
  first_in n (tree.assign x y) = first_ordered (set_at k.accesses n) (sets n)
  first_in n (tree.block_if arms other) =
      gathered_ordered (all_in (tests_reads arms k.scope always) ++ (firsts.arms_in arms k always ++ firsts.else_in other k (past_arms arms k.scope always)))
  first_in n (tree.logical_if e s) = gathered_ordered (all_in (reads e k.scope) ++ all_met (if_true k.scope e always) (firsts.only_in s k))
  first_in n (tree.do_loop (tree.loop index first last step body)) =
      let l = tree.loop index first last step body in
      let m = k.scope in
      let g = range_of l m k.does in
      let ws = firsts.body_accesses body k in
      let all = all_in (loop_reads l m) ++ all_iterations (is_cell m.tracked g.index) g m.symbols ws (firsts.list_of false body k (firsts.at_list body k)) in
      overlapped_ordered m.symbols (scalar access.Write g.index ∷ ws) (unite_all all) (gathered_ordered all)
  first_in n (tree.call x es) = called x es
  first_in n (tree.goto l) = first_ordered (set_at k.accesses n) (sets n)
  first_in n tree.continue = first_ordered (set_at k.accesses n) (sets n)
  first_in n tree.return = first_ordered (set_at k.accesses n) (sets n)
  first_in n (tree.stop text) = first_ordered (set_at k.accesses n) (sets n)
  first_in n (tree.print es) = first_ordered (set_at k.accesses n) (sets n)
  first_in n (tree.read es) = items_ordered es k.scope

  abbrev At-in : At (List Region) → Type 0
  At-in a = Ordered a.value

  mutual
    i_stmt : (s : StmtTree) → Each At-in (firsts.at_stmt s k)
    i_stmt (tree.stmt n label w) = (first_in n w, i_parts w)

    i_parts : (w : WhatTree) → Each At-in (firsts.at_parts w k)
    i_parts (tree.assign x e) = tt
    i_parts (tree.block_if arms other) = each-append At-in (firsts.at_arms arms k) (firsts.at_else other k) (i_arms arms) (i_else other)
    i_parts (tree.logical_if e s) = i_stmt s
    i_parts (tree.do_loop l) = i_loop l
    i_parts (tree.call x es) = tt
    i_parts (tree.goto l) = tt
    i_parts tree.continue = tt
    i_parts tree.return = tt
    i_parts (tree.stop text) = tt
    i_parts (tree.print es) = tt
    i_parts (tree.read es) = tt

    pub i_list : (ss : StmtTrees) → Each At-in (firsts.at_list ss k)
    i_list tree.no_stmts = tt
    i_list (tree.more_stmts s rest) = each-append At-in (firsts.at_stmt s k) (firsts.at_list rest k) (i_stmt s) (i_list rest)

    i_arms : (xs : ArmTrees) → Each At-in (firsts.at_arms xs k)
    i_arms tree.no_arms = tt
    i_arms (tree.more_arms x rest) = each-append At-in (firsts.at_arm x k) (firsts.at_arms rest k) (i_arm x) (i_arms rest)

    i_arm : (x : ArmTree) → Each At-in (firsts.at_arm x k)
    i_arm (tree.arm test body) = i_list body

    i_else : (x : ElseTree) → Each At-in (firsts.at_else x k)
    i_else tree.no_else = tt
    i_else (tree.otherwise body) = i_list body

    i_loop : (l : LoopTree) → Each At-in (firsts.at_loop l k)
    i_loop (tree.loop index first last step body) = i_list body

pub ins_ordered : (body : StmtTrees) (m : ScopeTree) (untracked : List BlockUnit) (own : List (At Transformer)) (found : List (At (List Region))) (cs : Callees) → Each (λ (a : At (List Region)). Ordered a.value) found → SetsOrdered (ins_with body m untracked own found cs)
ins_ordered body m untracked own found cs h = (i_list k (λ n. set_found Ordered tt found h n) (λ x es. summary x es (cs x)) body, gathered_ordered (seen m.symbols (locals m.symbols) (unite_all (all_in (symbols_reads m.symbols m) ++ firsts.list_set true body k))))
  where
    k : known.KnownTree
    k = record { scope = m; does = transformer_at own; accesses = found; called = call_in m (changed_cells own) untracked cs }

    summary : (x : List ℕ) (es : ExprTrees) (o : Option (SummaryTree (List Region))) → Ordered (summary_in m (changed_cells own) untracked x es o)
    summary x es None = tt
    summary x es (Some s) = gathered_ordered (all_in (actuals_reads es m) ++ all_in_caller (sides m (changed_cells own) untracked x es s.symbols) s.value)

-- ---- OUT

module _ (k : KnownTree) (sets : (n : ℕ) → Ordered (set_at k.accesses n)) where
  any_ordered : (us : List Region) (n : ℕ) → Ordered (any_out k us n)
  any_ordered us n = used_ordered k.scope.symbols us (writes_at k n) (writes_ordered (set_at k.accesses n) (sets n))

  abbrev At-out : At (List Region) → Type 0
  At-out a = Ordered a.value

  mutual
    o_parts : (w : WhatTree) (out : List Region) → Each At-out (at_parts w k out)
    o_parts (tree.assign x e) out = tt
    o_parts (tree.block_if arms other) out = each-append At-out (at_arms arms k out) (at_else other k out) (o_arms arms out) (o_else other out)
    o_parts (tree.logical_if e s) out = o_only s out
    o_parts (tree.do_loop l) out = o_loop l (loop_out k l out)
    o_parts (tree.call x es) out = tt
    o_parts (tree.goto l) out = tt
    o_parts tree.continue out = tt
    o_parts tree.return out = tt
    o_parts (tree.stop text) out = tt
    o_parts (tree.print es) out = tt
    o_parts (tree.read es) out = tt

    o_arms : (xs : ArmTrees) (out : List Region) → Each At-out (at_arms xs k out)
    o_arms tree.no_arms out = tt
    o_arms (tree.more_arms x rest) out = each-append At-out (at_arm x k out) (at_arms rest k out) (o_arm x out) (o_arms rest out)

    o_arm : (x : ArmTree) (out : List Region) → Each At-out (at_arm x k out)
    o_arm (tree.arm e body) out =
        let own = body_out k false body out in
        if_cases (Each At-out) (unstructured false body) (at_any body k (used_around k false body own)) (at_rest false body k own) (λ u. o_any body (used_around k false body own)) (λ u. o_rest false body own)

    o_else : (x : ElseTree) (out : List Region) → Each At-out (at_else x k out)
    o_else tree.no_else out = tt
    o_else (tree.otherwise body) out =
        let own = body_out k false body out in
        if_cases (Each At-out) (unstructured false body) (at_any body k (used_around k false body own)) (at_rest false body k own) (λ u. o_any body (used_around k false body own)) (λ u. o_rest false body own)

    o_loop : (l : LoopTree) (out : List Region) → Each At-out (at_loop l k out)
    o_loop (tree.loop index first last step body) out =
        if_cases (Each At-out) (unstructured false body) (at_any body k (used_around k false body out)) (at_rest false body k out) (λ u. o_any body (used_around k false body out)) (λ u. o_rest false body out)

    o_only : (s : StmtTree) (out : List Region) → Each At-out (at_only s k out)
    o_only (tree.stmt n label w) out = (any_ordered (all_out (any_out k out n)) n, o_parts w (only_out k n out))

    o_any : (ss : StmtTrees) (us : List Region) → Each At-out (at_any ss k us)
    o_any tree.no_stmts us = tt
    o_any (tree.more_stmts s rest) us = each-append At-out (at_used s k us) (at_any rest k us) (o_used s us) (o_any rest us)

    o_used : (s : StmtTree) (us : List Region) → Each At-out (at_used s k us)
    o_used (tree.stmt n label w) us = (any_ordered us n, o_parts w (any_out k us n))

    o_rest : (whole : Bool) (ss : StmtTrees) (out : List Region) → Each At-out (at_rest whole ss k out)
    o_rest whole tree.no_stmts out = tt
    o_rest whole (tree.more_stmts s rest) out =
        let r = rest_of k whole rest in
        each-append At-out (at_first whole s k r out) (at_rest whole rest k (rest_out k (number_of s) r out)) (o_first whole s rest out) (o_rest whole rest (rest_out k (number_of s) r out))

    o_first : (whole : Bool) (s : StmtTree) (rest : StmtTrees) (out : List Region) → Each At-out (at_first whole s k (rest_of k whole rest) out)
    o_first whole (tree.stmt n label w) rest out =
        let r = rest_of k whole rest in
        let leaving = may_leave whole (tree.stmt n label w) r in
        (any_ordered (used_behind k leaving n r out) n, o_parts w (first_out k leaving n r out))

  o_list : (whole : Bool) (body : StmtTrees) (out : List Region) → Each At-out (at_list whole body k out)
  o_list whole body out =
      if_cases (Each At-out) (unstructured whole body) (at_any body k (used_around k whole body out)) (at_rest whole body k out) (λ u. o_any body (used_around k whole body out)) (λ u. o_rest whole body out)

pub outs_ordered : (body : StmtTrees) (m : ScopeTree) (own : List (At Transformer)) (found ins : List (At (List Region))) (us : List Region) → Each (λ (a : At (List Region)). Ordered a.value) found → SetsOrdered (outs_with body m own found ins us)
outs_ordered body m own found ins us h = (o_list k (λ n. set_found Ordered tt found h n) true body (body_out k true body us), gathered_ordered (seen m.symbols (locals m.symbols) (unite_all (body_out k true body us))))
  where
    k : KnownTree
    k = record { scope = m; does = transformer_at own; accesses = found; ins = ins }
