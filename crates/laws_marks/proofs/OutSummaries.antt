-- OUT of the modules of a program, from their analyses: what may be read after a module is what the CALLs of it hand down, all of which stand before it.
use Rattle.std.proofs.Common.{◌≡◌, ℕ, List, [], ◌∷◌, ◌++◌, append_assoc, append-nil, true, refl, sym, ap, ap₂, ◌∙◌, subst}
use Rattle.std.specs.Prelude.{if◌then◌else◌, bytes_eq, reverse}
use mathlib.Core.List.{reverse-cons}
use Rattle.std.proofs.lemmas.Slice.Eq.{bytes_eq-Decides}
use Rattle.f77_ast.specs.Trees.{ExprTrees, StmtTree, WhatTree, ArmTree, ArmTrees, ElseTree, LoopTree, StmtTrees}
use Rattle.f77_ast.specs.Trees as tree
use Rattle.f77_ast.specs.declared.variable.Unit.{Unit as BlockUnit}
use Rattle.call_graph.specs.declared.graph.Graph.{Graph}
use Rattle.preconditions.specs.call_translation.Scopes.{ScopeTree}
use Rattle.preconditions.specs.call_translation.Sites.{SiteTree}
use Rattle.loop_marker.specs.module_phases.ScalarPhases.{Analysis}
use Rattle.preconditions.specs.transformer_algebra.Laws.{In, here, there}
use Rattle.in_out_regions.specs.region_sets.declared.region.Region.{Region}
use Rattle.in_out_regions.specs.array_regions.Calls.{Callees as Summaries}
use Rattle.loop_marker.specs.module_phases.RegionPhases.{ModuleRegions, no_callees, with_regions, all_regions}
use Rattle.loop_marker.specs.module_phases.InPhases.{ModuleIns, with_callee, with_ins, found_in, all_ins}
use Rattle.loop_marker.specs.out_regions.Used.{all_out}
use Rattle.in_out_regions.specs.region_translation.Callee.{to_callee}
use Rattle.in_out_regions.specs.call_equations.Sides.{SidesTree}
use Rattle.loop_marker.specs.module_phases.declared.out_site.OutSite.{OutSite}
use Rattle.loop_marker.specs.module_phases.OutPhases.{ModuleOuts, Caller, call_site, stmt_sites, what_sites, list_sites, arms_sites, arm_sites, else_sites, loop_sites, sides_at, handed_each, handed_by, handed_down, used_after, with_outs, caller_of, body_of, sites_of, outs_from, all_outs}
use Rattle.call_graph.specs.CallsIn.{CallAt, Each, stmt_calls, what_calls, list_calls, arms_calls, arm_calls, else_calls, loop_calls}
use Rattle.laws_analyses.proofs.Passes.{NoAnalysis, name_of}
use Rattle.laws_analyses.specs.Regions.Accepted.{after as reads_after}
use Rattle.laws_analyses.proofs.Regions.Summaries.{found_back, found_is}
use Rattle.laws_marks.specs.InAccepted.{after}
use Rattle.laws_marks.specs.OutAccepted.{used_run}
use Rattle.preconditions.proofs.TransformerAlgebra.Members.{in_left, in_right}
use Rattle.call_graph.proofs.EachLaws.{each_joined}

-- ---- the CALLs of a module

module _ (c : Caller) (x : List ℕ) where
  -- each of the module of the name is one of its sites
  abbrev Sited : List (SiteTree OutSite) → CallAt → Type 0
  Sited all a = bytes_eq a.callee x ≡ true → In (call_site c a.actuals a.number) all

  sited_left : (all more : List (SiteTree OutSite)) (cs : List CallAt) → Each (Sited all) cs → Each (Sited (all ++ more)) cs
  sited_left all more [] h = tt
  sited_left all more (a ∷ cs) h = ((λ e. in_left (call_site c a.actuals a.number) all more (h.0 e)), sited_left all more cs h.1)

  sited_right : (all more : List (SiteTree OutSite)) (cs : List CallAt) → Each (Sited more) cs → Each (Sited (all ++ more)) cs
  sited_right all more [] h = tt
  sited_right all more (a ∷ cs) h = ((λ e. in_right (call_site c a.actuals a.number) all more (h.0 e)), sited_right all more cs h.1)

  both_sited : (all more : List (SiteTree OutSite)) (cs ds : List CallAt) → Each (Sited all) cs → Each (Sited more) ds → Each (Sited (all ++ more)) (cs ++ ds)
  both_sited all more cs ds h k = each_joined (Sited (all ++ more)) cs ds (sited_left all more cs h) (sited_right all more ds k)

  mutual
    stmt_sited : (s : StmtTree) → Each (Sited (stmt_sites s c x)) (stmt_calls s)
    stmt_sited (tree.stmt n label w) = what_sited w n

    what_sited : (w : WhatTree) (n : ℕ) → Each (Sited (what_sites w n c x)) (what_calls w n)
    what_sited (tree.assign a b) n = tt
    what_sited (tree.block_if arms other) n = both_sited (arms_sites arms c x) (else_sites other c x) (arms_calls arms) (else_calls other) (arms_sited arms) (else_sited other)
    what_sited (tree.logical_if e s) n = stmt_sited s
    what_sited (tree.do_loop l) n = loop_sited l
    what_sited (tree.call y es) n = ((λ e. subst (λ b. In (call_site c es n) (if b then call_site c es n ∷ [] else [])) (sym e) here), tt)
    what_sited (tree.goto l) n = tt
    what_sited tree.continue n = tt
    what_sited tree.return n = tt
    what_sited (tree.stop text) n = tt
    what_sited (tree.print es) n = tt
    what_sited (tree.read es) n = tt

    list_sited : (ss : StmtTrees) → Each (Sited (list_sites ss c x)) (list_calls ss)
    list_sited tree.no_stmts = tt
    list_sited (tree.more_stmts s rest) = both_sited (stmt_sites s c x) (list_sites rest c x) (stmt_calls s) (list_calls rest) (stmt_sited s) (list_sited rest)

    arms_sited : (arms : ArmTrees) → Each (Sited (arms_sites arms c x)) (arms_calls arms)
    arms_sited tree.no_arms = tt
    arms_sited (tree.more_arms a rest) = both_sited (arm_sites a c x) (arms_sites rest c x) (arm_calls a) (arms_calls rest) (arm_sited a) (arms_sited rest)

    arm_sited : (a : ArmTree) → Each (Sited (arm_sites a c x)) (arm_calls a)
    arm_sited (tree.arm test body) = list_sited body

    else_sited : (other : ElseTree) → Each (Sited (else_sites other c x)) (else_calls other)
    else_sited tree.no_else = tt
    else_sited (tree.otherwise body) = list_sited body

    loop_sited : (l : LoopTree) → Each (Sited (loop_sites l c x)) (loop_calls l)
    loop_sited (tree.loop index first last step body) = list_sited body

  pub calls_sited : (ss : StmtTrees) → Each (λ a. bytes_eq a.callee x ≡ true → In (call_site c a.actuals a.number) (list_sites ss c x)) (list_calls ss)
  calls_sited ss = list_sited ss

-- what a site hands down
in_each : (size : List ℕ → ℕ) (c : SidesTree) (rs : List Region) (r q : Region) → In r rs → In q (all_out (to_callee size c r)) → In q (handed_each size c rs)
in_each size c [] r q i j = elim i [ ]
in_each size c (v ∷ rs) r q here j = in_left q (all_out (to_callee size c r)) (handed_each size c rs) j
in_each size c (v ∷ rs) r q (there i) j = in_right q (all_out (to_callee size c v)) (handed_each size c rs) (in_each size c rs r q i j)

pub in_handed : (size : List ℕ → ℕ) (callee : ScopeTree) (x : List ℕ) (ss : List (SiteTree OutSite)) (s : SiteTree OutSite) (r q : Region) → In s ss → In r s.value.out → In q (all_out (to_callee size (sides_at callee x s) r)) → In q (handed_down size callee x ss)
in_handed size callee x [] s r q i j k = elim i [ ]
in_handed size callee x (v ∷ ss) s r q here j k = in_left q (handed_by size callee x s) (handed_down size callee x ss) (in_each size (sides_at callee x s) s.value.out r q j k)
in_handed size callee x (v ∷ ss) s r q (there i) j k = in_right q (handed_by size callee x v) (handed_down size callee x ss) (in_handed size callee x ss s r q i j k)

-- ---- the modules, callers before callees

module _ (g : Graph) where
  abbrev u : List BlockUnit
  u = g.untracked

  -- its IN regions, with those behind it
  abbrev pub made : List Analysis → Analysis → ModuleIns
  made as' a = with_ins g.untracked (after g.untracked as') (with_regions g.untracked (reads_after g.untracked as') a)

  abbrev table : Summaries → List ModuleRegions → Summaries
  table cs [] = cs
  table cs (f ∷ fs) = table (with_callee (with_ins g.untracked cs f) cs) fs

  table_more : (cs : Summaries) (xs : List ModuleRegions) (f : ModuleRegions) → table cs (xs ++ f ∷ []) ≡ with_callee (with_ins g.untracked (table cs xs) f) (table cs xs)
  table_more cs [] f = refl
  table_more cs (x ∷ xs) f = table_more (with_callee (with_ins g.untracked cs x) cs) xs f

  table_is : (as' : List Analysis) → table no_callees (found_back g.untracked as') ≡ after g.untracked as'
  table_is [] = refl
  table_is (a ∷ as') =
      table_more no_callees (found_back g.untracked as') (with_regions g.untracked (reads_after g.untracked as') a)
      ∙ ap (λ (c : Summaries). with_callee (with_ins g.untracked c (with_regions g.untracked (reads_after g.untracked as') a)) c) (table_is as')

  found_more : (cs : Summaries) (xs : List ModuleRegions) (f : ModuleRegions) → found_in g.untracked cs (xs ++ f ∷ []) ≡ found_in g.untracked cs xs ++ with_ins g.untracked (table cs xs) f ∷ []
  found_more cs [] f = refl
  found_more cs (x ∷ xs) f = ap (λ fs. with_ins g.untracked cs x ∷ fs) (found_more (with_callee (with_ins g.untracked cs x) cs) xs f)

  abbrev ins_back : List Analysis → List ModuleIns
  ins_back [] = []
  ins_back (a ∷ as') = ins_back as' ++ made as' a ∷ []

  ins_are : (as' : List Analysis) → found_in g.untracked no_callees (found_back g.untracked as') ≡ ins_back as'
  ins_are [] = refl
  ins_are (a ∷ as') =
      found_more no_callees (found_back g.untracked as') (with_regions g.untracked (reads_after g.untracked as') a)
      ∙ ap₂ (λ (fs : List ModuleIns) (c : Summaries). fs ++ with_ins g.untracked c (with_regions g.untracked (reads_after g.untracked as') a) ∷ []) (ins_are as') (table_is as')

  abbrev ins_fore : List Analysis → List ModuleIns
  ins_fore [] = []
  ins_fore (a ∷ as') = made as' a ∷ ins_fore as'

  turned : (xs : List ModuleIns) (y : ModuleIns) → reverse (xs ++ y ∷ []) ≡ y ∷ reverse xs
  turned [] y = refl
  turned (x ∷ xs) y = reverse-cons x (xs ++ y ∷ []) ∙ (ap (λ zs. zs ++ x ∷ []) (turned xs y) ∙ ap (λ zs. y ∷ zs) (sym (reverse-cons x xs)))

  fore_is : (as' : List Analysis) → reverse (ins_back as') ≡ ins_fore as'
  fore_is [] = refl
  fore_is (a ∷ as') = turned (ins_back as') (made as' a) ∙ ap (λ fs. made as' a ∷ fs) (fore_is as')

  -- ---- their OUT regions, each with what those before it hand down

  abbrev pub next : List ModuleOuts → List Analysis → Analysis → ModuleOuts
  next done as' a = with_outs g (sites_of g.untracked done (name_of a)) (made as' a)

  abbrev pub run : List ModuleOuts → List Analysis → List ModuleOuts
  run done [] = []
  run done (a ∷ as') = next done as' a ∷ run (done ++ next done as' a ∷ []) as'

  run_is : (done : List ModuleOuts) (as' : List Analysis) → outs_from g done (ins_fore as') ≡ done ++ run done as'
  run_is done [] = sym (append-nil done)
  run_is done (a ∷ as') = run_is (done ++ next done as' a ∷ []) as' ∙ append_assoc done (next done as' a ∷ []) (run (done ++ next done as' a ∷ []) as')

  pub outs_are : (as' : List Analysis) → all_outs g (all_ins g (all_regions g as')) ≡ run [] as'
  outs_are as' =
      ap (λ fs. outs_from g [] (reverse fs)) (ap (found_in g.untracked no_callees) (found_is g.untracked as') ∙ ins_are as')
      ∙ (ap (outs_from g []) (fore_is as') ∙ run_is [] as')

  -- those of the first ones, which stand before others
  abbrev pub front_outs : List ModuleOuts → List Analysis → List Analysis → List ModuleOuts
  front_outs done [] rest = []
  front_outs done (a ∷ front) rest = next done (front ++ rest) a ∷ front_outs (done ++ next done (front ++ rest) a ∷ []) front rest

  run_parts : (done : List ModuleOuts) (front rest : List Analysis) → run done (front ++ rest) ≡ front_outs done front rest ++ run (done ++ front_outs done front rest) rest
  run_parts done [] rest = ap (λ fs. run fs rest) (sym (append-nil done))
  run_parts done (a ∷ front) rest =
      let f = next done (front ++ rest) a in
      ap (λ fs. f ∷ fs) (run_parts (done ++ f ∷ []) front rest ∙ ap (λ fs. front_outs (done ++ f ∷ []) front rest ++ run fs rest) (append_assoc done (f ∷ []) (front_outs (done ++ f ∷ []) front rest)))

  -- one that stands among them
  among : (done : List ModuleOuts) (front : List Analysis) (a : Analysis) (between rest : List Analysis) → In (next (done ++ front_outs done front (a ∷ (between ++ rest))) (between ++ rest) a) (front_outs done (front ++ a ∷ between) rest)
  among done [] a between rest = subst (λ fs. In (next fs (between ++ rest) a) (front_outs done (a ∷ between) rest)) (sym (append-nil done)) here
  among done (b ∷ front) a between rest =
      let e : (front ++ a ∷ between) ++ rest ≡ front ++ a ∷ (between ++ rest) = append_assoc front (a ∷ between) rest in
      let f = next done (front ++ a ∷ (between ++ rest)) b in
      let ih = among (done ++ f ∷ []) front a between rest in
      let same : (done ++ f ∷ []) ++ front_outs (done ++ f ∷ []) front (a ∷ (between ++ rest)) ≡ done ++ f ∷ front_outs (done ++ f ∷ []) front (a ∷ (between ++ rest)) = append_assoc done (f ∷ []) (front_outs (done ++ f ∷ []) front (a ∷ (between ++ rest))) in
      let moved : In (next (done ++ f ∷ front_outs (done ++ f ∷ []) front (a ∷ (between ++ rest))) (between ++ rest) a) (front_outs (done ++ f ∷ []) (front ++ a ∷ between) rest) =
      subst (λ fs. In (next fs (between ++ rest) a) (front_outs (done ++ f ∷ []) (front ++ a ∷ between) rest)) same ih in
      subst (λ zs. In (next (done ++ f ∷ front_outs (done ++ f ∷ []) front (a ∷ (between ++ rest))) (between ++ rest) a) (next done zs b ∷ front_outs (done ++ next done zs b ∷ []) (front ++ a ∷ between) rest)) (sym e) (there moved)

  -- the OUT regions of the module at a place
  abbrev pub outs_at : List Analysis → Analysis → List Analysis → ModuleOuts
  outs_at front a rest = next (front_outs [] front (a ∷ rest)) rest a

  -- of one that stands before another
  pub stands_before : (front : List Analysis) (a : Analysis) (between : List Analysis) (b : Analysis) (rest : List Analysis) → In (outs_at front a (between ++ b ∷ rest)) (front_outs [] (front ++ a ∷ between) (b ∷ rest))
  stands_before front a between b rest = among [] front a between (b ∷ rest)

  pub sites_in : (fs : List ModuleOuts) (f : ModuleOuts) (x : List ℕ) (s : SiteTree OutSite) → In f fs → In s (list_sites (body_of f) (caller_of g.untracked f) x) → In s (sites_of g.untracked fs x)
  sites_in [] f x s i j = elim i [ ]
  sites_in (h ∷ fs) f x s here j = in_left s (list_sites (body_of f) (caller_of g.untracked f) x) (sites_of g.untracked fs x) j
  sites_in (h ∷ fs) f x s (there i) j = in_right s (list_sites (body_of h) (caller_of g.untracked h) x) (sites_of g.untracked fs x) (sites_in fs f x s i j)

  -- ---- by names

  same_name : (x : List ℕ) → bytes_eq x x ≡ true
  same_name x = (bytes_eq-Decides x x).1 refl

  used_there : (done : List ModuleOuts) (front : List Analysis) (a : Analysis) (rest : List Analysis) → NoAnalysis (name_of a) front → used_run g done (front ++ a ∷ rest) (name_of a) ≡ used_after g a.found.known (sites_of g.untracked (done ++ front_outs done front (a ∷ rest)) (name_of a))
  used_there done [] a rest n =
      ap (λ c. if c then used_after g a.found.known (sites_of g.untracked done (name_of a)) else used_run g (done ++ next done rest a ∷ []) rest (name_of a)) (same_name (name_of a))
      ∙ ap (λ fs. used_after g a.found.known (sites_of g.untracked fs (name_of a))) (sym (append-nil done))
  used_there done (b ∷ front) a rest n =
      let f = next done (front ++ a ∷ rest) b in
      ap (λ c. if c then used_after g b.found.known (sites_of g.untracked done (name_of a)) else used_run g (done ++ f ∷ []) (front ++ a ∷ rest) (name_of a)) n.0
      ∙ (used_there (done ++ f ∷ []) front a rest n.1
      ∙ ap (λ fs. used_after g a.found.known (sites_of g.untracked fs (name_of a))) (append_assoc done (f ∷ []) (front_outs (done ++ f ∷ []) front (a ∷ rest))))

  -- what may be read after the module of a name
  pub used_at_place : (front : List Analysis) (a : Analysis) (rest : List Analysis) → NoAnalysis (name_of a) front → used_run g [] (front ++ a ∷ rest) (name_of a) ≡ used_after g a.found.known (sites_of g.untracked (front_outs [] front (a ∷ rest)) (name_of a))
  used_at_place front a rest n = used_there [] front a rest n

  -- where a module stands whose OUT regions are found
  pub record Placed (whole : List Analysis) (f : ModuleOuts) : Type 0 where
    pub front : List Analysis
    pub analysis : Analysis
    pub rest : List Analysis
    pub parts : whole ≡ front ++ analysis ∷ rest
    pub is : f ≡ outs_at front analysis rest

  run_placed : (whole : List Analysis) (done : List ModuleOuts) (front as' : List Analysis) → whole ≡ front ++ as' → done ≡ front_outs [] front as' → Each (Placed whole) (run done as')
  run_placed whole done front [] e d = tt
  run_placed whole done front (a ∷ as') e d =
      let f = next done as' a in (
        record { front = front; analysis = a; rest = as'; parts = e; is = ap (λ fs. next fs as' a) d },
        run_placed whole (done ++ f ∷ []) (front ++ a ∷ []) as' (e ∙ sym (append_assoc front (a ∷ []) as'))
            (ap (λ fs. fs ++ next fs as' a ∷ []) d ∙ more [] front a as'),
      )
    where
      more : (done : List ModuleOuts) (front : List Analysis) (a : Analysis) (as' : List Analysis) → front_outs done front (a ∷ as') ++ next (done ++ front_outs done front (a ∷ as')) as' a ∷ [] ≡ front_outs done (front ++ a ∷ []) as'
      more done [] a as' = ap (λ fs. next fs as' a ∷ []) (append-nil done)
      more done (b ∷ front) a as' =
          let e : (front ++ a ∷ []) ++ as' ≡ front ++ a ∷ as' = append_assoc front (a ∷ []) as' in
          let f = next done (front ++ a ∷ as') b in
          let same : done ++ f ∷ front_outs (done ++ f ∷ []) front (a ∷ as') ≡ (done ++ f ∷ []) ++ front_outs (done ++ f ∷ []) front (a ∷ as') = sym (append_assoc done (f ∷ []) (front_outs (done ++ f ∷ []) front (a ∷ as'))) in
          ap (λ fs. f ∷ (front_outs (done ++ f ∷ []) front (a ∷ as') ++ next fs as' a ∷ [])) same
          ∙ (ap (λ fs. f ∷ fs) (more (done ++ f ∷ []) front a as')
          ∙ ap (λ zs. next done zs b ∷ front_outs (done ++ next done zs b ∷ []) (front ++ a ∷ []) as') (sym e))

  pub outs_placed : (whole : List Analysis) → Each (Placed whole) (all_outs g (all_ins g (all_regions g whole)))
  outs_placed whole = subst (Each (Placed whole)) (sym (outs_are whole)) (run_placed whole [] [] whole refl refl)
