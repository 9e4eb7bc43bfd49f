-- What the graph of a program says of its modules: the names in the CALLs of each, and so the modules that call one.
use Rattle.std.proofs.Common.{◌≡◌, ℕ, zero, suc, Bool, true, false, List, [], ◌∷◌, ◌++◌, length, Option, Some, None, refl, sym, ap, ◌∙◌, subst, append_assoc, append-nil, arith}
use Rattle.std.specs.Prelude.{map, reverse, slice_get, bytes_eq, cond, option_to_list, if◌then◌else◌, ◌||◌}
use Rattle.std.specs.List.{list_any, filter}
use mathlib.Core.List.{map-append}
use Rattle.f77_ast.specs.Trees.{StmtTree, WhatTree, ArmTree, ArmTrees, ElseTree, LoopTree, StmtTrees}
use Rattle.f77_ast.specs.Trees as tree
use Rattle.f77_ast.specs.DeclTrees.{ParsedTree}
use Rattle.f77_ast.specs.Symbols.{SymbolTree, number_from}
use Rattle.call_graph.specs.declared.calls.Called.{Called}
use Rattle.call_graph.specs.declared.graph.Edge.{Edge}
use Rattle.call_graph.specs.declared.graph.Graph.{Graph}
use Rattle.call_graph.specs.Actuals.{actuals_of}
use Rattle.call_graph.specs.Calls.{with_list, with_stmt, with_what, with_arms, with_arm, with_else, with_loop, calls_of, all_calls}
use Rattle.call_graph.specs.Callees.{edges_of, all_edges}
use Rattle.call_graph.specs.Modules.{names_of}
use Rattle.call_graph.specs.Order.{order_of, names_at}
use Rattle.call_graph.specs.Links.{callees_of}
use Rattle.call_graph.proofs.CycleLaws.{in_order}
use Rattle.f77_meaning.specs.Linked.{callees}
use Rattle.f77_meaning.specs.Modules.{Known, known_of}
use Rattle.loop_marker.specs.module_phases.ScalarPhases.{module_of}
use Rattle.loop_marker.specs.Results.{ModuleResults}
use Rattle.laws_programs.specs.Storage.Programs.{IsLinked, known}
use Rattle.laws_programs.proofs.Storage.ModuleLaws.{place_of_name}
use Rattle.call_graph.specs.CallsIn.{CallAt, Each, stmt_calls, what_calls, list_calls, arms_calls, arm_calls, else_calls, loop_calls}
use Rattle.laws_analyses.proofs.Founds.{module_of_is, module_found}
use Rattle.laws_analyses.proofs.Passes.{each_reversed}
use Rattle.laws_analyses.proofs.UnitLaws.{module_at as place_module}
use Rattle.session_texts.specs.pipsmake_meaning.ResultEntries.{results_of_modules, name_in}
use Rattle.laws_database.specs.ResultCallers.{calls, callers, calls_by, caller_names}
use Rattle.laws_database.specs.ResultLaws.{IsFound, IsInGraph, AreInGraph}
use Rattle.laws_database.proofs.ResultEntries.{through, entries, entries_are, modules_of_entries, modules_have_entries}
use Rattle.f77_meaning.proofs.LinkedLaws.{is_graph as graph_is}
use Rattle.fx_lists.proofs.Texts.{same_name, unequal_texts}
use Rattle.fx_lists.proofs.Lists.{map_reverse}
use Rattle.call_graph.proofs.EachLaws.{each_more}
use Rattle.laws_analyses.proofs.Modules.{modules_at}

-- ---- the CALLs of a module, as links and as bodies have them

abbrev name_called : Called → List ℕ
name_called c = c.callee

abbrev pub name_in_call : CallAt → List ℕ
name_in_call c = c.callee

module _ (ss : List SymbolTree) where
  both : (a b : List (List ℕ)) (xs ys zs : List (List ℕ)) → zs ≡ a ++ xs → b ≡ zs ++ ys → b ≡ a ++ (xs ++ ys)
  both a b xs ys zs e f = f ∙ (ap (λ w. w ++ ys) e ∙ append_assoc a xs ys)

  joined : (cs ds es : List Called) (xs ys : List CallAt) → map name_called ds ≡ map name_called cs ++ map name_in_call xs → map name_called es ≡ map name_called ds ++ map name_in_call ys → map name_called es ≡ map name_called cs ++ map name_in_call (xs ++ ys)
  joined cs ds es xs ys e f =
      both (map name_called cs) (map name_called es) (map name_in_call xs) (map name_in_call ys) (map name_called ds) e f ∙ ap (λ w. map name_called cs ++ w) (sym (map-append name_in_call xs ys))

  none : (cs : List Called) → map name_called cs ≡ map name_called cs ++ []
  none cs = sym (append-nil (map name_called cs))

  mutual
    list_names : (t : StmtTrees) (cs : List Called) → map name_called (with_list t ss cs) ≡ map name_called cs ++ map name_in_call (list_calls t)
    list_names tree.no_stmts cs = none cs
    list_names (tree.more_stmts s rest) cs = joined cs (with_stmt s ss cs) (with_list rest ss (with_stmt s ss cs)) (stmt_calls s) (list_calls rest) (stmt_names s cs) (list_names rest (with_stmt s ss cs))

    stmt_names : (s : StmtTree) (cs : List Called) → map name_called (with_stmt s ss cs) ≡ map name_called cs ++ map name_in_call (stmt_calls s)
    stmt_names (tree.stmt n label w) cs = what_names w n cs

    what_names : (w : WhatTree) (n : ℕ) (cs : List Called) → map name_called (with_what w n ss cs) ≡ map name_called cs ++ map name_in_call (what_calls w n)
    what_names (tree.assign a b) n cs = none cs
    what_names (tree.block_if arms other) n cs = joined cs (with_arms arms ss cs) (with_else other ss (with_arms arms ss cs)) (arms_calls arms) (else_calls other) (arms_names arms cs) (else_names other (with_arms arms ss cs))
    what_names (tree.logical_if e s) n cs = stmt_names s cs
    what_names (tree.do_loop l) n cs = loop_names l cs
    what_names (tree.call x es) n cs = map-append name_called cs (record { at = n; callee = x; actuals = actuals_of es ss } ∷ [])
    what_names (tree.goto l) n cs = none cs
    what_names tree.continue n cs = none cs
    what_names tree.return n cs = none cs
    what_names (tree.stop text) n cs = none cs
    what_names (tree.print es) n cs = none cs
    what_names (tree.read es) n cs = none cs

    arms_names : (arms : ArmTrees) (cs : List Called) → map name_called (with_arms arms ss cs) ≡ map name_called cs ++ map name_in_call (arms_calls arms)
    arms_names tree.no_arms cs = none cs
    arms_names (tree.more_arms a rest) cs = joined cs (with_arm a ss cs) (with_arms rest ss (with_arm a ss cs)) (arm_calls a) (arms_calls rest) (arm_names a cs) (arms_names rest (with_arm a ss cs))

    arm_names : (a : ArmTree) (cs : List Called) → map name_called (with_arm a ss cs) ≡ map name_called cs ++ map name_in_call (arm_calls a)
    arm_names (tree.arm test body) cs = list_names body cs

    else_names : (other : ElseTree) (cs : List Called) → map name_called (with_else other ss cs) ≡ map name_called cs ++ map name_in_call (else_calls other)
    else_names tree.no_else cs = none cs
    else_names (tree.otherwise body) cs = list_names body cs

    loop_names : (l : LoopTree) (cs : List Called) → map name_called (with_loop l ss cs) ≡ map name_called cs ++ map name_in_call (loop_calls l)
    loop_names (tree.loop index first last step body) cs = list_names body cs

-- ---- the edges from a module

callees_joined : (es ds : List Edge) (x : List ℕ) → callees (es ++ ds) x ≡ callees es x ++ callees ds x
callees_joined [] ds x = refl
callees_joined (e ∷ es) ds x = go (bytes_eq e.caller x) (callees_joined es ds x)
  where
    go : (b : Bool) → callees (es ++ ds) x ≡ callees es x ++ callees ds x → (if b then e.callee ∷ callees (es ++ ds) x else callees (es ++ ds) x) ≡ (if b then e.callee ∷ callees es x else callees es x) ++ callees ds x
    go true ih = ap (λ z. e.callee ∷ z) ih
    go false ih = ih

own_callees : (x : List ℕ) (cs : List Called) → callees (edges_of x cs) x ≡ map name_called cs
own_callees x [] = refl
own_callees x (c ∷ cs) = ap (λ b. if b then c.callee ∷ callees (edges_of x cs) x else callees (edges_of x cs) x) (same_name x) ∙ ap (λ z. c.callee ∷ z) (own_callees x cs)

no_callees : (y x : List ℕ) (cs : List Called) → bytes_eq y x ≡ false → callees (edges_of y cs) x ≡ []
no_callees y x [] e = refl
no_callees y x (c ∷ cs) e = ap (λ b. if b then c.callee ∷ callees (edges_of y cs) x else callees (edges_of y cs) x) e ∙ no_callees y x cs e

none_from : (ps : List ParsedTree) (sss : List (List SymbolTree)) (x : List ℕ) → ((j : ℕ) (q : ParsedTree) → slice_get ps j ≡ Some q → q.module_read.name ≡ x → ⊥) → callees (all_edges (names_of ps) (all_calls ps sss)) x ≡ []
none_from [] sss x only = refl
none_from (q ∷ ps) [] x only = refl
none_from (q ∷ ps) (ss ∷ sss) x only =
    callees_joined (edges_of q.module_read.name (calls_of q ss)) (all_edges (names_of ps) (all_calls ps sss)) x
    ∙ (λ i. no_callees q.module_read.name x (calls_of q ss) (unequal_texts q.module_read.name x (only zero q refl)) i ++ none_from ps sss x (λ j r e. only (suc j) r e) i)

callees_are : (ps : List ParsedTree) (sss : List (List SymbolTree)) (i : ℕ) (p : ParsedTree) (ss : List SymbolTree) → slice_get ps i ≡ Some p → slice_get sss i ≡ Some ss → (x : List ℕ) → p.module_read.name ≡ x →
    ((j : ℕ) (q : ParsedTree) → slice_get ps j ≡ Some q → q.module_read.name ≡ x → j ≡ i) → callees (all_edges (names_of ps) (all_calls ps sss)) x ≡ map name_called (calls_of p ss)
callees_are [] sss i p ss e f x n only = cc
callees_are (q ∷ ps) [] i p ss e f x n only = cc
callees_are (q ∷ ps) (us ∷ sss) zero p ss e f x n only =
    let one : q ≡ p = cc in
    let two : us ≡ ss = cc in
    let same : q.module_read.name ≡ x = ap (λ (z : ParsedTree). z.module_read.name) one ∙ n in
    let rest : callees (all_edges (names_of ps) (all_calls ps sss)) x ≡ [] = none_from ps sss x (λ j r h w. absurd (let z = only (suc j) r h w in omega (arith, z))) in
    let own : callees (edges_of q.module_read.name (calls_of q us)) x ≡ map name_called (calls_of q us) = ap (callees (edges_of q.module_read.name (calls_of q us))) (sym same) ∙ own_callees q.module_read.name (calls_of q us) in
    callees_joined (edges_of q.module_read.name (calls_of q us)) (all_edges (names_of ps) (all_calls ps sss)) x
    ∙ ((λ i. own i ++ rest i) ∙ (append-nil (map name_called (calls_of q us)) ∙ (λ i. map name_called (calls_of (one i) (two i)))))
callees_are (q ∷ ps) (us ∷ sss) (suc i) p ss e f x n only =
    let other : bytes_eq q.module_read.name x ≡ false = unequal_texts q.module_read.name x (λ w. absurd (let z = only zero q refl w in omega (arith, z))) in
    callees_joined (edges_of q.module_read.name (calls_of q us)) (all_edges (names_of ps) (all_calls ps sss)) x
    ∙ (ap (λ z. z ++ callees (all_edges (names_of ps) (all_calls ps sss)) x) (no_callees q.module_read.name x (calls_of q us) other)
    ∙ callees_are ps sss i p ss e f x n (λ j r h w. (let z = only (suc j) r h w in omega (arith, z))))

-- ---- the order of the graph

-- it has names of modules
record Stands (ps : List ParsedTree) (z : List ℕ) : Type 0 where
  at : ℕ
  parsed : ParsedTree
  is_module : slice_get ps at ≡ Some parsed
  named : parsed.module_read.name ≡ z

stands_at : (ps : List ParsedTree) (b : ℕ) (z : List ℕ) → slice_get (names_of ps) b ≡ Some z → Stands ps z
stands_at [] b z e = cc
stands_at (p ∷ ps) zero z e = let same : p.module_read.name ≡ z = cc in record { at = zero; parsed = p; is_module = refl; named = same }
stands_at (p ∷ ps) (suc b) z e = let r = stands_at ps b z e in record { at = suc r.at; parsed = r.parsed; is_module = r.is_module; named = r.named }

all_stand : (ps : List ParsedTree) (ks : List ℕ) → Each (Stands ps) (names_at ks (names_of ps))
all_stand ps [] = tt
all_stand ps (k ∷ ks) = go (slice_get (names_of ps) k) refl (all_stand ps ks)
  where
    go : (o : Option (List ℕ)) → slice_get (names_of ps) k ≡ o → Each (Stands ps) (names_at ks (names_of ps)) → Each (Stands ps) (option_to_list o ++ names_at ks (names_of ps))
    go None e ih = ih
    go (Some z) e ih = (stands_at ps k z e, ih)

table_at : (ps : List ParsedTree) (sss : List (List SymbolTree)) (i : ℕ) (p : ParsedTree) → length ps ≡ length sss → slice_get ps i ≡ Some p → (ss : List SymbolTree) × (slice_get sss i ≡ Some ss)
table_at [] sss i p e h = cc
table_at (q ∷ ps) [] i p e h = absurd (omega (arith, e))
table_at (q ∷ ps) (ss ∷ sss) zero p e h = (ss, refl)
table_at (q ∷ ps) (ss ∷ sss) (suc i) p e h = table_at ps sss i p (omega (arith, e)) h

names_kept : (ks : List Known) (xs : List (List ℕ)) → Each (λ (x : List ℕ). (k : Known) × (module_of ks x ≡ Some k)) xs → map (λ (k : Known). k.read.name) (modules_at ks xs) ≡ xs
names_kept ks [] h = refl
names_kept ks (x ∷ xs) h =
    ap (λ o. map (λ (k : Known). k.read.name) (option_to_list o ++ modules_at ks xs)) h.0.1 ∙ (λ i. (module_of_is ks x h.0.0 h.0.1).name i ∷ names_kept ks xs h.1 i)

-- ---- programs

any_mapped : {A B : Type 0} (P : B → Bool) (h : A → B) (xs : List A) → list_any P (map h xs) ≡ list_any (λ x. P (h x)) xs
any_mapped P h [] = refl
any_mapped P h (x ∷ xs) = ap (λ b. P (h x) || b) (any_mapped P h xs)

filter_mapped : {A B : Type 0} (P : A → Bool) (Q : B → Bool) (h : A → B) (xs : List A) → Each (λ x. P x ≡ Q (h x)) xs → map h (filter P xs) ≡ filter Q (map h xs)
filter_mapped P Q h [] e = refl
filter_mapped P Q h (x ∷ xs) e = ap (λ b. map h (cond b (x ∷ filter P xs) (filter P xs))) e.0 ∙ go (Q (h x)) (filter_mapped P Q h xs e.1)
  where
    go : (b : Bool) → map h (filter P xs) ≡ filter Q (map h xs) → map h (cond b (x ∷ filter P xs) (filter P xs)) ≡ cond b (h x ∷ filter Q (map h xs)) (filter Q (map h xs))
    go true ih = ap (λ z. h x ∷ z) ih
    go false ih = ih

module _ (ps : List ParsedTree) (sss : List (List SymbolTree)) (g : Graph) (l : IsLinked ps sss g) where
  abbrev fs : List ModuleResults
  fs = results_of_modules (known_of ps sss) g

  one_place : (x : List ℕ) (i j : ℕ) (p q : ParsedTree) → slice_get ps i ≡ Some p → slice_get ps j ≡ Some q → p.module_read.name ≡ x → q.module_read.name ≡ x → j ≡ i
  one_place x i j p q e f n m =
      let z : Some j ≡ Some i = sym (place_of_name ps sss g l.links j q f) ∙ (ap (number_from 0 (names_of ps)) (m ∙ sym n) ∙ place_of_name ps sss g l.links i p e) in cc

  edges_named : (i : ℕ) (k : Known) → slice_get (known_of ps sss) i ≡ Some k → map name_in_call (list_calls k.read.body) ≡ callees g.edges k.read.name
  edges_named i k e =
      let m = place_module ps sss i k e in
      let p = m.parsed in
      let x = p.module_read.name in
      subst (λ (z : Known). map name_in_call (list_calls z.read.body) ≡ callees g.edges z.read.name) m.same
      (sym (list_names m.table p.module_read.body [])
      ∙ (sym (callees_are ps sss i p m.table m.is_module.parsed m.is_module.table x refl (λ j q f n. one_place x i j p q m.is_module.parsed f refl n))
      ∙ ap (λ (h : Graph). callees h.edges x) (graph_is ps sss g l.links)))

  in_graph : Each (IsInGraph g) fs
  in_graph =
      each_more (IsFound (known_of ps sss) fs) (IsInGraph g) fs
      (λ f r. edges_named r.at f.known r.is_module)
      (modules_have_entries ps sss g l).found

  module_of_name : (z : List ℕ) → Stands ps z → (k : Known) × (module_of (known_of ps sss) z ≡ Some k)
  module_of_name z s =
      let t = table_at ps sss s.at s.parsed l.many s.is_module in
      (known s.parsed t.0, ap (module_of (known_of ps sss)) (sym s.named) ∙ module_found ps sss g l s.at s.parsed t.0 (record { parsed = s.is_module; table = t.1 }))

  order_named : map name_in fs ≡ g.order
  order_named =
      ap (map name_in) (entries_are (known_of ps sss) g)
      ∙ through (λ (f : ModuleResults). f.known) (λ (k : Known). k.read.name) (entries (known_of ps sss) g) (modules_at (known_of ps sss) g.order) g.order (modules_of_entries (known_of ps sss) g)
      (names_kept (known_of ps sss) g.order
      (each_more (Stands ps) (λ (x : List ℕ). (k : Known) × (module_of (known_of ps sss) x ≡ Some k)) g.order module_of_name
      (subst (Each (Stands ps)) (sym (in_order ps sss g l.many l.links).0) (all_stand ps (order_of (callees_of ps sss))))))

  callers_named : (x : List ℕ) → map name_in (callers fs x) ≡ caller_names g x
  callers_named x =
      filter_mapped (λ f. calls x f.known) (calls_by g x) name_in (reverse fs)
      (each_reversed (λ f. calls x f.known ≡ calls_by g x (name_in f)) fs
      (each_more (IsInGraph g) (λ f. calls x f.known ≡ calls_by g x (name_in f)) fs
      (λ f e. sym (any_mapped (λ z. bytes_eq z x) name_in_call (list_calls f.known.read.body)) ∙ ap (list_any (λ z. bytes_eq z x)) e) in_graph))
      ∙ ap (filter (calls_by g x)) (map_reverse name_in fs ∙ ap reverse order_named)

  pub are_in_graph : AreInGraph g fs
  are_in_graph = record { order = order_named; callees_are = in_graph; callers_are = callers_named }
