-- IN of the modules of a program, from their analyses: each module has the summaries of those behind it, among which are all that it calls.
use Rattle.std.proofs.Common.{◌≡◌, ℕ, List, [], ◌∷◌, ◌++◌, append_assoc, Some, true, false, refl, sym, ap, ap₂, ◌∙◌, subst}
use Rattle.std.specs.Prelude.{if◌then◌else◌, bytes_eq, reverse}
use Rattle.std.proofs.lemmas.Slice.Eq.{bytes_eq-Decides}
use Rattle.f77_ast.specs.DeclTrees.{ParsedTree}
use Rattle.f77_ast.specs.declared.variable.Unit.{Unit as BlockUnit}
use Rattle.f77_ast.specs.Symbols.{SymbolTree}
use Rattle.call_graph.specs.declared.graph.Graph.{Graph}
use Rattle.f77_meaning.specs.Modules.{known_of}
use Rattle.loop_marker.specs.module_phases.ScalarPhases.{Analysis, analyses}
use Rattle.in_out_regions.specs.array_regions.Calls.{Callees as Summaries}
use Rattle.loop_marker.specs.module_phases.RegionPhases.{ModuleRegions, no_callees, with_regions, all_regions}
use Rattle.loop_marker.specs.module_phases.InPhases.{ModuleIns, with_callee, ins_found, with_ins, found_in, all_ins}
use Rattle.call_graph.specs.CallsIn.{Each}
use Rattle.laws_programs.specs.Storage.Programs.{IsLinked}
use Rattle.laws_analyses.proofs.Founds.{Calls}
use Rattle.laws_analyses.proofs.Passes.{NoAnalysis, name_of}
use Rattle.laws_analyses.specs.Regions.Accepted.{after as reads_after, behind, summaries_of as reads_of}
use Rattle.laws_analyses.proofs.Regions.Summaries.{found_back, found_is, each_back, behind_here, is_behind, Stand, stands_at, all_stand, once, summaries_are as reads_are}
use Rattle.laws_marks.specs.InAccepted.{after, summaries_of}
use Rattle.call_graph.proofs.EachLaws.{each_joined}

module _ (u : List BlockUnit) where
  -- ---- IN from the last module to the first

  abbrev table : Summaries → List ModuleRegions → Summaries
  table cs [] = cs
  table cs (f ∷ fs) = table (with_callee (with_ins u cs f) cs) fs

  table_more : (cs : Summaries) (xs : List ModuleRegions) (f : ModuleRegions) → table cs (xs ++ f ∷ []) ≡ with_callee (with_ins u (table cs xs) f) (table cs xs)
  table_more cs [] f = refl
  table_more cs (x ∷ xs) f = table_more (with_callee (with_ins u cs x) cs) xs f

  -- a module, with those behind it
  abbrev made : List Analysis → Analysis → ModuleRegions
  made as' a = with_regions u (reads_after u as') a

  table_is : (as' : List Analysis) → table no_callees (found_back u as') ≡ after u as'
  table_is [] = refl
  table_is (a ∷ as') = table_more no_callees (found_back u as') (made as' a) ∙ ap (λ (c : Summaries). with_callee (with_ins u c (made as' a)) c) (table_is as')

  found_more : (cs : Summaries) (xs : List ModuleRegions) (f : ModuleRegions) → found_in u cs (xs ++ f ∷ []) ≡ found_in u cs xs ++ with_ins u (table cs xs) f ∷ []
  found_more cs [] f = refl
  found_more cs (x ∷ xs) f = ap (λ fs. with_ins u cs x ∷ fs) (found_more (with_callee (with_ins u cs x) cs) xs f)

  abbrev ins_back : List Analysis → List ModuleIns
  ins_back [] = []
  ins_back (a ∷ as') = ins_back as' ++ with_ins u (after u as') (made as' a) ∷ []

  ins_are : (as' : List Analysis) → found_in u no_callees (found_back u as') ≡ ins_back as'
  ins_are [] = refl
  ins_are (a ∷ as') =
      found_more no_callees (found_back u as') (made as' a)
      ∙ ap₂ (λ (fs : List ModuleIns) (c : Summaries). fs ++ with_ins u c (made as' a) ∷ []) (ins_are as') (table_is as')

  -- where a module stands whose IN regions are found
  pub record Placed (whole : List Analysis) (f : ModuleIns) : Type 0 where
    pub front : List Analysis
    pub rest : List Analysis
    pub parts : whole ≡ front ++ f.known.analysis ∷ rest
    pub ins : f.ins ≡ ins_found u (after u rest) (with_regions u (reads_after u rest) f.known.analysis)

  back_placed : (whole front as' : List Analysis) → whole ≡ front ++ as' → Each (Placed whole) (ins_back as')
  back_placed whole front [] e = tt
  back_placed whole front (a ∷ as') e =
      each_joined (Placed whole) (ins_back as') (with_ins u (after u as') (made as' a) ∷ [])
      (back_placed whole (front ++ a ∷ []) as' (e ∙ sym (append_assoc front (a ∷ []) as')))
      (record { front = front; rest = as'; parts = e; ins = refl }, tt)

  all_placed : (whole : List Analysis) → Each (Placed whole) (ins_back whole)
  all_placed whole = back_placed whole [] whole refl

  -- ---- names

  same_name : (x : List ℕ) → bytes_eq x x ≡ true
  same_name x = (bytes_eq-Decides x x).1 refl

  -- the summary of the module of a name
  after_here : (front : List Analysis) (a : Analysis) (rest : List Analysis) → NoAnalysis (name_of a) front →
      after u (front ++ a ∷ rest) (name_of a) ≡ Some (record { symbols = a.found.known.symbols; value = (ins_found u (after u rest) (made rest a)).summary })
  after_here [] a rest n = ap (λ c. if c then Some (record { symbols = a.found.known.symbols; value = (ins_found u (after u rest) (made rest a)).summary }) else after u rest (name_of a)) (same_name (name_of a))
  after_here (b ∷ front) a rest n =
      ap (λ c. if c then Some (record { symbols = b.found.known.symbols; value = (ins_found u (after u (front ++ a ∷ rest)) (made (front ++ a ∷ rest) b)).summary }) else after u (front ++ a ∷ rest) (name_of a)) n.0
      ∙ after_here front a rest n.1

-- ---- the modules of a program

module _ (ps : List ParsedTree) (sss : List (List SymbolTree)) (g : Graph) (l : IsLinked ps sss g) where
  -- the summaries of the module of a name are those behind it
  pub summaries_are : (front : List Analysis) (a : Analysis) (rest : List Analysis) → analyses (known_of ps sss) g ≡ front ++ a ∷ rest → summaries_of g (analyses (known_of ps sss) g) (name_of a) ≡ after g.untracked rest
  summaries_are front a rest e =
      ap (λ as'. after g.untracked (behind as' (name_of a))) e
      ∙ ap (after g.untracked) (behind_here g.untracked front a rest (once ps sss g l front a rest e))

  -- and have that of each module that it calls
  pub called_summary : (front : List Analysis) (a : Analysis) (rest : List Analysis) → analyses (known_of ps sss) g ≡ front ++ a ∷ rest → (front2 : List Analysis) (b : Analysis) (rest2 : List Analysis) → analyses (known_of ps sss) g ≡ front2 ++ b ∷ rest2 → Calls ps sss g l a.found.known (name_of b) →
      summaries_of g (analyses (known_of ps sss) g) (name_of a) (name_of b) ≡ Some (record { symbols = b.found.known.symbols; value = (ins_found g.untracked (summaries_of g (analyses (known_of ps sss) g) (name_of b)) (with_regions g.untracked (reads_of g (analyses (known_of ps sss) g) (name_of b)) b)).summary })
  called_summary front a rest e front2 b rest2 f c =
      let s = (stands_at ps sss g l [] front a rest (subst (Stand ps sss g l []) e (all_stand ps sss g l))).1 (name_of b) c in
      let r = is_behind front a rest front2 b rest2 (sym e ∙ f) s.0 s.1 in
      let alone : NoAnalysis (name_of b) (front ++ a ∷ r.between) = subst (NoAnalysis (name_of b)) r.before (once ps sss g l front2 b rest2 f) in
      let inside : NoAnalysis (name_of b) r.between = (each_back (λ (z : Analysis). bytes_eq z.found.known.read.name (name_of b) ≡ false) front (a ∷ r.between) alone).1 in
      ap (λ (c : Summaries). c (name_of b)) (summaries_are front a rest e)
      ∙ (ap (λ as'. after g.untracked as' (name_of b)) r.parts
      ∙ (after_here g.untracked r.between b rest2 inside
      ∙ ap₂ (λ (c d : Summaries). Some (record { symbols = b.found.known.symbols; value = (ins_found g.untracked c (with_regions g.untracked d b)).summary })) (sym (summaries_are front2 b rest2 f)) (sym (reads_are ps sss g l front2 b rest2 f))))

  pub ins_placed : Each (Placed g.untracked (analyses (known_of ps sss) g)) (all_ins g (all_regions g (analyses (known_of ps sss) g)))
  ins_placed =
      let whole = analyses (known_of ps sss) g in
      subst (Each (Placed g.untracked whole)) (sym (ap (found_in g.untracked no_callees) (found_is g.untracked whole) ∙ ins_are g.untracked whole)) (all_placed g.untracked whole)
