-- The analyses of a program that is read give summaries and entries that follow from one another.
use Rattle.std.proofs.Common.{◌≡◌, inl, inr, ℕ, zero, suc, true, false, List, [], ◌∷◌, ◌++◌, Some, None, refl, sym, ap, ◌∙◌, subst, append_assoc}
use Rattle.std.specs.Prelude.{if◌then◌else◌, slice_get, bytes_eq, reverse}
use mathlib.Core.List.{reverse-cons}
use Rattle.affine_systems.specs.declared.row.System.{System}
use Rattle.f77_ast.specs.DeclTrees.{ParsedTree}
use Rattle.f77_ast.specs.Symbols.{SymbolTree}
use Rattle.f77_ast.specs.declared.results.At.{At}
use Rattle.f77_ast.specs.declared.results.Results.{Results}
use Rattle.call_graph.specs.declared.graph.Graph.{Graph}
use Rattle.f77_meaning.specs.Modules.{Known, known_of}
use Rattle.preconditions.specs.transformer_algebra.Laws.{In}
use Rattle.preconditions.specs.transformer_algebra.declared.transformer.Transformer.{Transformer}
use Rattle.preconditions.specs.call_translation.Sites.{HoldingSite}
use Rattle.preconditions.specs.transformers.Given.{Callees}
use Rattle.preconditions.specs.transformers.Lists.{value_at, transformer_at}
use Rattle.preconditions.specs.transformers.Modules.{transformers_of}
use Rattle.preconditions.specs.Entry.{main_entry, sites_entry, entry_of}
use Rattle.preconditions.specs.Modules.{preconditions_of}
use Rattle.laws_programs.specs.Storage.Programs.{IsLinked, IsModule, known}
use Rattle.call_graph.specs.CallsIn.{CallAt, Each, list_calls}
use Rattle.f77_ast.specs.StatementNumbers.{HasNumbers, list_numbers}
use Rattle.laws_analyses.specs.Statements.Results.{or_no_rows, found_in as found_of_module, pre_in}
use Rattle.laws_analyses.proofs.Statements.MainResults.{found_at}
use Rattle.laws_analyses.proofs.Statements.NumberLaws.{ids, own_numbers, p_list}
use Rattle.module_phases.specs.ScalarPhases.{scope_of, Found, no_callees, found_in, list_sites, Analysis, caller_of, sites_of, analyses}
use Rattle.laws_analyses.specs.Parts.{scope_in}
use Rattle.laws_analyses.specs.Analysed.{AreAnalysed}
use Rattle.laws_analyses.proofs.CallLists.{each_in}
use Rattle.laws_analyses.proofs.UnitLaws.{module_at as place_module}
use Rattle.laws_programs.specs.Storage.Below.{HasCall}
use Rattle.laws_programs.proofs.Storage.CallLaws.{calls_are_listed}
use Rattle.laws_analyses.specs.Results.{summary_named, analyses_before, callees_of_all, analysed_entry, analysed_sites}
use Rattle.laws_analyses.proofs.Orders.{NotIn, order_sorted, each_stands}
use Rattle.laws_analyses.proofs.CallNumbers.{Stands, list_stands}
use Rattle.laws_analyses.proofs.CallSites.{Sited, list_sited}
use Rattle.laws_analyses.proofs.Founds.{NoneNamed, HasKnown, Calls, GoodFound, founds, InOrder, found_in_order, found_has, module_found}
use Rattle.laws_analyses.proofs.Passes.{each_reversed, known_reversed, run_is, in_sites, before_here, before_other, summary_here, NoAnalysis, next, run}
use Rattle.call_graph.proofs.EachLaws.{each_both, each_more, each_joined}

module _ (ps : List ParsedTree) (sss : List (List SymbolTree)) (g : Graph) (l : IsLinked ps sss g) where
  abbrev ks : List Known
  ks = known_of ps sss

  abbrev all : Callees
  all = callees_of_all (known_of ps sss) g

  -- modules behind those that call them, after modules with these names
  abbrev pub Fronted : List (List ℕ) → List Found → Type 0
  Fronted ns [] = Unit {0}
  Fronted ns (f ∷ fs) = NotIn f.known.read.name ns × ((y : List ℕ) → Calls ps sss g l f.known y → NotIn y ns × (bytes_eq f.known.read.name y ≡ false)) × Fronted (f.known.read.name ∷ ns) fs

  fronted_more : (ns : List (List ℕ)) (xs : List Found) (f : Found) → Fronted ns xs → NotIn f.known.read.name ns → NoneNamed f.known.read.name xs →
      ((y : List ℕ) → Calls ps sss g l f.known y → NotIn y ns × NoneNamed y xs × (bytes_eq f.known.read.name y ≡ false)) → Fronted ns (xs ++ f ∷ [])
  fronted_more ns [] f h n e c = (n, (λ y k. (let r = c y k in (r.0, r.2))), tt)
  fronted_more ns (x ∷ xs) f h n e c =
      (h.0, h.1, fronted_more (x.known.read.name ∷ ns) xs f h.2 (e.0, n) e.1 (λ y k. (let r = c y k in ((r.1.0, r.0), r.1.1, r.2))))

  pub fronted : (fs : List Found) → InOrder ps sss g l fs → Fronted [] (reverse fs)
  fronted [] s = tt
  fronted (f ∷ fs) s =
      subst (Fronted []) (sym (reverse-cons f fs))
      (fronted_more [] (reverse fs) f (fronted fs s.2) tt (each_reversed (λ (h : Found). bytes_eq h.known.read.name f.known.read.name ≡ false) fs s.0)
      (λ y c. (let r = s.1 y c in (tt, each_reversed (λ (h : Found). bytes_eq h.known.read.name y ≡ false) fs r.1, r.0))))

  -- ---- one module among the analyses

  pub record Located (whole : List Analysis) (a : Analysis) : Type 0 where
    pub front : List Analysis
    pub rest : List Analysis
    pub parts : whole ≡ front ++ a ∷ rest
    pub is : a ≡ next g.untracked front a.found
    pub fresh : NoAnalysis a.found.known.read.name front
    pub calls : (y : List ℕ) → Calls ps sss g l a.found.known y → NoAnalysis y front × (bytes_eq a.found.known.read.name y ≡ false)
    pub good : GoodFound ps sss g l all a.found

  locate : (fs : List Found) (done : List Analysis) (ns : List (List ℕ)) → ((y : List ℕ) → NotIn y ns → NoAnalysis y done) → Fronted ns fs → Each (GoodFound ps sss g l all) fs → (whole : List Analysis) → whole ≡ done ++ run g.untracked done fs → Each (Located whole) (run g.untracked done fs)
  locate [] done ns p h q whole e = tt
  locate (f ∷ fs) done ns p h q whole e =
      let a = next g.untracked done f in (
        record {
          front = done;
          rest = run g.untracked (done ++ a ∷ []) fs;
          parts = e;
          is = refl;
          fresh = p f.known.read.name h.0;
          calls = λ y c. (let r = h.1 y c in (p y r.0, r.1));
          good = q.0;
        },
        locate fs (done ++ a ∷ []) (f.known.read.name ∷ ns) (λ y n. each_joined (λ (b : Analysis). bytes_eq b.found.known.read.name y ≡ false) done (a ∷ []) (p y n.1) (n.0, tt)) h.2 q.1 whole (e ∙ sym (append_assoc done (a ∷ []) (run g.untracked (done ++ a ∷ []) fs))),
      )

  -- the analysis of a module
  picked : (P : Analysis → Type 0) (fs : List Found) (done : List Analysis) → Each P (run g.untracked done fs) → (k : Known) → HasKnown k fs → (a : Analysis) × P a × (a.found.known ≡ k)
  picked P [] done h k has = absurd has
  picked P (f ∷ fs) done h k (inl e) = (next g.untracked done f, h.0, e)
  picked P (f ∷ fs) done h k (inr has) = picked P fs (done ++ next g.untracked done f ∷ []) h.1 k has

  abbrev pub in_order_found : List Found
  in_order_found = found_in g.untracked (known_of ps sss) no_callees g.order

  pub analyses_are : analyses (known_of ps sss) g ≡ run g.untracked [] (reverse in_order_found)
  analyses_are = run_is g.untracked [] (reverse in_order_found)

  -- each analysis is so
  each_located : Each (Located (analyses (known_of ps sss) g)) (run g.untracked [] (reverse in_order_found))
  each_located =
      let sorted = order_sorted ps sss g l in
      locate (reverse in_order_found) [] [] (λ y n. tt) (fronted in_order_found (found_in_order ps sss g l g.order no_callees sorted))
      (each_reversed (GoodFound ps sss g l all) in_order_found (founds ps sss g l g.order no_callees sorted all (λ y. refl))) (analyses (known_of ps sss) g) analyses_are

  pub all_located : Each (Located (analyses (known_of ps sss) g)) (analyses (known_of ps sss) g)
  all_located = subst (Each (Located (analyses (known_of ps sss) g))) (sym analyses_are) each_located

  pub analysis_of_module : (i : ℕ) (p : ParsedTree) (ss : List SymbolTree) → IsModule ps sss i p ss → (a : Analysis) × Located (analyses (known_of ps sss) g) a × (a.found.known ≡ known p ss)
  analysis_of_module i p ss m =
      picked (Located (analyses (known_of ps sss) g)) (reverse in_order_found) [] each_located (known p ss)
      (known_reversed (known p ss) in_order_found (found_has ps sss g l g.order no_callees p.module_read.name (known p ss) (module_found ps sss g l i p ss m) (each_stands ps sss g l i p m.parsed)))

  -- ---- one module

  module _ (i : ℕ) (p : ParsedTree) (ss : List SymbolTree) (m : IsModule ps sss i p ss) (numbered : HasNumbers p.module_read.body) (a : Analysis) (r : Located (analyses (known_of ps sss) g) a) (same : a.found.known ≡ known p ss) where
    name : a.found.known.read.name ≡ p.module_read.name
    name = ap (λ z. z.read.name) same

    -- what holds at its entry
    pub entry_is : analysed_entry (known_of ps sss) g (known p ss) ≡ entry_of p.module_read.main (scope_in g (known p ss)) (sites_of g.untracked r.front p.module_read.name)
    entry_is =
        ap (λ as'. summary_named as' p.module_read.name) r.parts ∙ (ap (summary_named (r.front ++ a ∷ r.rest)) (sym name) ∙ (summary_here r.front a r.rest r.fresh
        ∙ (ap (λ z. z.holds.summary) r.is ∙ ap (λ (z : Known). entry_of z.read.main (scope_of g.untracked z) (sites_of g.untracked r.front z.read.name)) same)))

    sites_are : analysed_sites (known_of ps sss) g p.module_read.name ≡ sites_of g.untracked r.front p.module_read.name
    sites_are =
        ap (λ as'. sites_of g.untracked (analyses_before as' p.module_read.name) p.module_read.name) r.parts
        ∙ ap (λ as'. sites_of g.untracked as' p.module_read.name) (ap (analyses_before (r.front ++ a ∷ r.rest)) (sym name) ∙ before_here r.front a r.rest r.fresh)

    pub summary_is : all p.module_read.name ≡ Some (record { symbols = ss; value = (transformers_of p.module_read.body (scope_in g (known p ss)) all).summary })
    summary_is =
        subst (λ (z : Known). all z.read.name ≡ Some (record { symbols = z.symbols; value = (transformers_of z.read.body (scope_of g.untracked z) all).summary })) same
        (r.good.callee ∙ ap (λ (t : Results Transformer). Some (record { symbols = a.found.known.symbols; value = t.summary })) r.good.own)

    pub main_is : p.module_read.main ≡ true → analysed_entry (known_of ps sss) g (known p ss) ≡ main_entry (scope_in g (known p ss))
    main_is h = entry_is ∙ ap (λ b. if b then main_entry (scope_in g (known p ss)) else sites_entry (scope_in g (known p ss)) (sites_of g.untracked r.front p.module_read.name)) h

    pub other_is : p.module_read.main ≡ false → analysed_entry (known_of ps sss) g (known p ss) ≡ sites_entry (scope_in g (known p ss)) (analysed_sites (known_of ps sss) g p.module_read.name)
    other_is h =
        entry_is ∙ (ap (λ b. if b then main_entry (scope_in g (known p ss)) else sites_entry (scope_in g (known p ss)) (sites_of g.untracked r.front p.module_read.name)) h
        ∙ ap (sites_entry (scope_in g (known p ss))) (sym sites_are))

    -- what holds at its statements
    pub holds_are : a.holds ≡ preconditions_of p.module_read.body (scope_in g (known p ss)) (found_of_module p.module_read.body (scope_in g (known p ss)) all) (analysed_entry (known_of ps sss) g (known p ss))
    holds_are =
        ap (λ z. z.holds) r.is
        ∙ (ap (λ (t : Results Transformer). preconditions_of a.found.known.read.body (scope_of g.untracked a.found.known) (transformer_at t.at) (entry_of a.found.known.read.main (scope_of g.untracked a.found.known) (sites_of g.untracked r.front a.found.known.read.name))) r.good.own
        ∙ (ap (λ (z : Known). preconditions_of z.read.body (scope_of g.untracked z) (transformer_at (transformers_of z.read.body (scope_of g.untracked z) all).at) (entry_of z.read.main (scope_of g.untracked z) (sites_of g.untracked r.front z.read.name))) same
        ∙ ap (preconditions_of p.module_read.body (scope_in g (known p ss)) (found_of_module p.module_read.body (scope_in g (known p ss)) all)) (sym entry_is)))

    abbrev results : Results System
    results = preconditions_of p.module_read.body (scope_in g (known p ss)) (found_of_module p.module_read.body (scope_in g (known p ss)) all) (analysed_entry (known_of ps sss) g (known p ss))

    -- each CALL has a result
    at_number : (as' : List (At System)) (ns : List ℕ) (j n : ℕ) → ids as' ≡ ns → slice_get ns j ≡ Some n → (b : At System) × (slice_get as' j ≡ Some b) × (b.id ≡ n)
    at_number [] ns j n e h = let z : None ≡ Some n = ap (λ xs. slice_get xs j) e ∙ h in cc
    at_number (b ∷ as') ns zero n e h = let z : Some b.id ≡ Some n = ap (λ xs. slice_get xs 0) e ∙ h in let one : b.id ≡ n = cc in (b, refl, one)
    at_number (b ∷ as') ns (suc j) n e h =
        let r' = at_number as' (ids as') j n refl (ap (λ xs. slice_get xs (suc j)) e ∙ h) in
        (r'.0, r'.1, r'.2)

    has_result : (c : CallAt) → Stands (list_numbers p.module_read.body) c → (v : System) × (value_at results.at c.number ≡ Some v)
    has_result c h =
        let numbers = p_list (scope_in g (known p ss)) (found_of_module p.module_read.body (scope_in g (known p ss)) all) true p.module_read.body (analysed_entry (known_of ps sss) g (known p ss)) in
        let b = at_number results.at (list_numbers p.module_read.body) h.0 c.number numbers h.1 in
        let f = found_at results.at h.0 b.0 (own_numbers results.at p.module_read.body numbers numbered) b.1 in
        (b.0.value, ap (value_at results.at) (sym b.2) ∙ f.1)

    caller_holds : (n : ℕ) → (caller_of g.untracked a).holds n ≡ value_at results.at n
    caller_holds n = ap (λ (z : Results System). value_at z.at n) holds_are

    caller_scope : (caller_of g.untracked a).scope ≡ scope_in g (known p ss)
    caller_scope = ap (scope_of g.untracked) same

    call_sited : (c : CallAt) → HasCall p ss c.callee → Stands (list_numbers p.module_read.body) c → Sited (caller_of g.untracked a) c.callee (list_sites p.module_read.body (caller_of g.untracked a) c.callee) c →
        In (record { caller = scope_in g (known p ss); actuals = c.actuals; value = pre_in p.module_read.body (scope_in g (known p ss)) all (analysed_entry (known_of ps sss) g (known p ss)) c.number }) (analysed_sites (known_of ps sss) g c.callee)
    call_sited c has stands sited =
        let v = has_result c stands in
        let n = r.calls c.callee (record { at = i; parsed = p; table = ss; is_module = m; same = sym same; call = has }) in
        let value : pre_in p.module_read.body (scope_in g (known p ss)) all (analysed_entry (known_of ps sss) g (known p ss)) c.number ≡ v.0 = ap or_no_rows v.1 in
        let site : HoldingSite = record { caller = scope_in g (known p ss); actuals = c.actuals; value = v.0 } in
        let own = subst (λ (z : Known). In (record { caller = (caller_of g.untracked a).scope; actuals = c.actuals; value = v.0 }) (list_sites z.read.body (caller_of g.untracked a) c.callee)) (sym same) (sited v.0 refl (caller_holds c.number ∙ v.1)) in
        let there = in_sites g.untracked r.front a (analyses_before r.rest c.callee) c.callee (record { caller = (caller_of g.untracked a).scope; actuals = c.actuals; value = v.0 }) own in
        let before : analyses_before (analyses (known_of ps sss) g) c.callee ≡ r.front ++ a ∷ analyses_before r.rest c.callee = ap (λ as'. analyses_before as' c.callee) r.parts ∙ before_other r.front a r.rest c.callee n.0 n.1 in
        subst (λ w. In (record { caller = scope_in g (known p ss); actuals = c.actuals; value = w }) (analysed_sites (known_of ps sss) g c.callee)) (sym value)
        (subst (λ as'. In site (sites_of g.untracked as' c.callee)) (sym before)
        (subst (λ w. In (record { caller = w; actuals = c.actuals; value = v.0 }) (sites_of g.untracked (r.front ++ a ∷ analyses_before r.rest c.callee) c.callee)) caller_scope there))

    sited_all : (cs : List CallAt) → ((x : List ℕ) → Each (Sited (caller_of g.untracked a) x (list_sites p.module_read.body (caller_of g.untracked a) x)) cs) → Each (λ (c : CallAt). Sited (caller_of g.untracked a) c.callee (list_sites p.module_read.body (caller_of g.untracked a) c.callee) c) cs
    sited_all [] h = tt
    sited_all (c ∷ cs) h = ((h c.callee).0, sited_all cs (λ x. (h x).1))

    pub calls_are : Each (λ (c : CallAt). In (record { caller = scope_in g (known p ss); actuals = c.actuals; value = pre_in p.module_read.body (scope_in g (known p ss)) all (analysed_entry (known_of ps sss) g (known p ss)) c.number }) (analysed_sites (known_of ps sss) g c.callee)) (list_calls p.module_read.body)
    calls_are =
        let cl = list_calls p.module_read.body in
        let H : CallAt → Type 0 = λ c. HasCall p ss c.callee in
        let S : CallAt → Type 0 = λ c. Stands (list_numbers p.module_read.body) c in
        let T : CallAt → Type 0 = λ c. Sited (caller_of g.untracked a) c.callee (list_sites p.module_read.body (caller_of g.untracked a) c.callee) c in
        let ST : CallAt → Type 0 = λ c. S c × T c in
        let HS : CallAt → Type 0 = λ c. H c × ST c in
        each_more HS (λ (c : CallAt). In (record { caller = scope_in g (known p ss); actuals = c.actuals; value = pre_in p.module_read.body (scope_in g (known p ss)) all (analysed_entry (known_of ps sss) g (known p ss)) c.number }) (analysed_sites (known_of ps sss) g c.callee)) cl
        (λ c h. call_sited c h.0 h.1.0 h.1.1)
        (each_both H ST cl (each_in (λ n x es. HasCall p ss x) p.module_read.body (calls_are_listed p ss))
        (each_both S T cl (list_stands p.module_read.body) (sited_all cl (λ x. list_sited (caller_of g.untracked a) x p.module_read.body))))

  -- ---- all modules

  pub are_analysed : ((i : ℕ) (p : ParsedTree) (ss : List SymbolTree) → IsModule ps sss i p ss → HasNumbers p.module_read.body) → AreAnalysed (known_of ps sss) g (callees_of_all (known_of ps sss) g) (analysed_sites (known_of ps sss) g) (analysed_entry (known_of ps sss) g)
  are_analysed numbered = record {
    summaries = λ i k e. (let q = place_module ps sss i k e in let f = analysis_of_module i q.parsed q.table q.is_module in subst (λ (z : Known). all z.read.name ≡ Some (record { symbols = z.symbols; value = (transformers_of z.read.body (scope_in g z) all).summary })) q.same (summary_is i q.parsed q.table q.is_module (numbered i q.parsed q.table q.is_module) f.0 f.1 f.2));
    main = λ i k e h. (let q = place_module ps sss i k e in let f = analysis_of_module i q.parsed q.table q.is_module in subst (λ (z : Known). analysed_entry (known_of ps sss) g z ≡ main_entry (scope_in g z)) q.same (main_is i q.parsed q.table q.is_module (numbered i q.parsed q.table q.is_module) f.0 f.1 f.2 (ap (λ z. z.read.main) q.same ∙ h)));
    others = λ i k e h. (let q = place_module ps sss i k e in let f = analysis_of_module i q.parsed q.table q.is_module in subst (λ (z : Known). analysed_entry (known_of ps sss) g z ≡ sites_entry (scope_in g z) (analysed_sites (known_of ps sss) g z.read.name)) q.same (other_is i q.parsed q.table q.is_module (numbered i q.parsed q.table q.is_module) f.0 f.1 f.2 (ap (λ z. z.read.main) q.same ∙ h)));
    calls = λ i k e. (let q = place_module ps sss i k e in let f = analysis_of_module i q.parsed q.table q.is_module in subst (λ (z : Known). Each (λ (c : CallAt). In (record { caller = scope_in g z; actuals = c.actuals; value = pre_in z.read.body (scope_in g z) all (analysed_entry (known_of ps sss) g z) c.number }) (analysed_sites (known_of ps sss) g c.callee)) (list_calls z.read.body)) q.same (calls_are i q.parsed q.table q.is_module (numbered i q.parsed q.table q.is_module) f.0 f.1 f.2));
  }
