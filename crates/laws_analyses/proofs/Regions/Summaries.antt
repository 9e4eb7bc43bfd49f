-- The regions of the modules of a program, from their analyses: each module has the summaries of those behind it, among which are all that it calls.
use Rattle.std.proofs.Common.{◌≡◌, ℕ, List, [], ◌∷◌, ◌++◌, append_assoc, Some, true, false, refl, sym, ap, ap₂, ◌∙◌, subst, true≢false}
use Rattle.std.specs.Prelude.{if◌then◌else◌, bytes_eq, reverse}
use mathlib.Core.List.{reverse-cons}
use Rattle.std.proofs.lemmas.Slice.Eq.{bytes_eq-Decides}
use Rattle.f77_ast.specs.DeclTrees.{ParsedTree}
use Rattle.f77_ast.specs.declared.variable.Unit.{Unit as BlockUnit}
use Rattle.f77_ast.specs.Symbols.{SymbolTree}
use Rattle.call_graph.specs.declared.graph.Graph.{Graph}
use Rattle.f77_meaning.specs.Modules.{known_of}
use Rattle.module_phases.specs.ScalarPhases.{Found, Analysis, analyses, no_callees as no_summaries}
use Rattle.in_out_regions.specs.array_regions.Calls.{Callees as Summaries}
use Rattle.module_phases.specs.RegionPhases.{ModuleRegions, no_callees, with_callee, regions_found, with_regions, found_in, all_regions}
use Rattle.call_graph.specs.CallsIn.{Each}
use Rattle.laws_programs.specs.Storage.Programs.{IsLinked}
use Rattle.laws_analyses.proofs.Analyses.{Fronted, fronted, in_order_found, analyses_are}
use Rattle.laws_analyses.proofs.Founds.{Calls, found_in_order}
use Rattle.laws_analyses.proofs.Orders.{NotIn, order_sorted}
use Rattle.laws_analyses.proofs.Passes.{NoAnalysis, next, run, name_of}
use Rattle.laws_analyses.specs.Regions.Accepted.{after, behind, summaries_of}
use Rattle.call_graph.proofs.EachLaws.{each_joined as each_both}

pub each_back : {T : Type 0} (P : T → Type 0) (xs ys : List T) → Each P (xs ++ ys) → Each P ys
each_back P [] ys h = h
each_back P (x ∷ xs) ys h = each_back P xs ys h.1

module _ (u : List BlockUnit) where
  -- ---- regions from the last module to the first

  abbrev table : Summaries → List Analysis → Summaries
  table cs [] = cs
  table cs (a ∷ as') = table (with_callee (with_regions u cs a) cs) as'

  table_more : (cs : Summaries) (xs : List Analysis) (a : Analysis) → table cs (xs ++ a ∷ []) ≡ with_callee (with_regions u (table cs xs) a) (table cs xs)
  table_more cs [] a = refl
  table_more cs (x ∷ xs) a = table_more (with_callee (with_regions u cs x) cs) xs a

  table_is : (as' : List Analysis) → table no_callees (reverse as') ≡ after u as'
  table_is [] = refl
  table_is (a ∷ as') =
      ap (table no_callees) (reverse-cons a as')
      ∙ (table_more no_callees (reverse as') a
      ∙ ap (λ (c : Summaries). with_callee (with_regions u c a) c) (table_is as'))

  found_more : (cs : Summaries) (xs : List Analysis) (a : Analysis) → found_in u cs (xs ++ a ∷ []) ≡ found_in u cs xs ++ with_regions u (table cs xs) a ∷ []
  found_more cs [] a = refl
  found_more cs (x ∷ xs) a = ap (λ fs. with_regions u cs x ∷ fs) (found_more (with_callee (with_regions u cs x) cs) xs a)

  abbrev pub found_back : List Analysis → List ModuleRegions
  found_back [] = []
  found_back (a ∷ as') = found_back as' ++ with_regions u (after u as') a ∷ []

  pub found_is : (as' : List Analysis) → found_in u no_callees (reverse as') ≡ found_back as'
  found_is [] = refl
  found_is (a ∷ as') =
      ap (found_in u no_callees) (reverse-cons a as')
      ∙ (found_more no_callees (reverse as') a
      ∙ ap₂ (λ (fs : List ModuleRegions) (c : Summaries). fs ++ with_regions u c a ∷ []) (found_is as') (table_is as'))

  -- where a module stands whose regions are found
  pub record Placed (whole : List Analysis) (f : ModuleRegions) : Type 0 where
    pub front : List Analysis
    pub rest : List Analysis
    pub parts : whole ≡ front ++ f.analysis ∷ rest
    pub regions : f.regions ≡ regions_found u (after u rest) f.analysis

  back_placed : (whole front as' : List Analysis) → whole ≡ front ++ as' → Each (Placed whole) (found_back as')
  back_placed whole front [] e = tt
  back_placed whole front (a ∷ as') e =
      each_both (Placed whole) (found_back as') (with_regions u (after u as') a ∷ [])
      (back_placed whole (front ++ a ∷ []) as' (e ∙ sym (append_assoc front (a ∷ []) as')))
      (record { front = front; rest = as'; parts = e; regions = refl }, tt)

  all_placed : (whole : List Analysis) → Each (Placed whole) (found_in u no_callees (reverse whole))
  all_placed whole = subst (Each (Placed whole)) (sym (found_is whole)) (back_placed whole [] whole refl)

  -- ---- names

  same_name : (x : List ℕ) → bytes_eq x x ≡ true
  same_name x = (bytes_eq-Decides x x).1 refl

  -- what stands behind the module of a name
  pub behind_here : (front : List Analysis) (a : Analysis) (rest : List Analysis) → NoAnalysis (name_of a) front → behind (front ++ a ∷ rest) (name_of a) ≡ rest
  behind_here [] a rest n = ap (λ c. if c then rest else behind rest (name_of a)) (same_name (name_of a))
  behind_here (b ∷ front) a rest n = ap (λ c. if c then front ++ a ∷ rest else behind (front ++ a ∷ rest) (name_of a)) n.0 ∙ behind_here front a rest n.1

  -- and its summary
  after_here : (front : List Analysis) (a : Analysis) (rest : List Analysis) → NoAnalysis (name_of a) front →
      after u (front ++ a ∷ rest) (name_of a) ≡ Some (record { symbols = a.found.known.symbols; value = (regions_found u (after u rest) a).summary })
  after_here [] a rest n = ap (λ c. if c then Some (record { symbols = a.found.known.symbols; value = (regions_found u (after u rest) a).summary }) else after u rest (name_of a)) (same_name (name_of a))
  after_here (b ∷ front) a rest n =
      ap (λ c. if c then Some (record { symbols = b.found.known.symbols; value = (regions_found u (after u (front ++ a ∷ rest)) b).summary }) else after u (front ++ a ∷ rest) (name_of a)) n.0
      ∙ after_here front a rest n.1

-- ---- two modules in a list

-- one stands behind another
pub record Behind (front : List Analysis) (a : Analysis) (rest : List Analysis) (front2 : List Analysis) (b : Analysis) (rest2 : List Analysis) : Type 0 where
  pub between : List Analysis
  pub parts : rest ≡ between ++ b ∷ rest2
  pub before : front2 ≡ front ++ a ∷ between

heads : (a b : Analysis) (xs ys : List Analysis) → a ∷ xs ≡ b ∷ ys → a ≡ b
heads a b xs ys e = cc

tails : (a b : Analysis) (xs ys : List Analysis) → a ∷ xs ≡ b ∷ ys → xs ≡ ys
tails a b xs ys e = cc

pub is_behind : (front : List Analysis) (a : Analysis) (rest front2 : List Analysis) (b : Analysis) (rest2 : List Analysis) → front ++ a ∷ rest ≡ front2 ++ b ∷ rest2 → NoAnalysis (name_of b) front → bytes_eq (name_of a) (name_of b) ≡ false → Behind front a rest front2 b rest2
is_behind [] a rest [] b rest2 e n d = (let same = heads a b rest rest2 e in absurd (true≢false (sym (ap (λ z. bytes_eq (name_of z) (name_of b)) same ∙ (bytes_eq-Decides (name_of b) (name_of b)).1 refl) ∙ d)))
is_behind [] a rest (f ∷ front2) b rest2 e n d = record { between = front2; parts = tails a f rest (front2 ++ b ∷ rest2) e; before = ap (λ z. z ∷ front2) (sym (heads a f rest (front2 ++ b ∷ rest2) e)) }
is_behind (c ∷ front) a rest [] b rest2 e n d = (let same = heads c b (front ++ a ∷ rest) rest2 e in absurd (true≢false (sym (ap (λ z. bytes_eq (name_of z) (name_of b)) same ∙ (bytes_eq-Decides (name_of b) (name_of b)).1 refl) ∙ n.0)))
is_behind (c ∷ front) a rest (f ∷ front2) b rest2 e n d =
    let r = is_behind front a rest front2 b rest2 (tails c f (front ++ a ∷ rest) (front2 ++ b ∷ rest2) e) n.1 d in
    record { between = r.between; parts = r.parts; before = ap₂ (λ z zs. z ∷ zs) (sym (heads c f (front ++ a ∷ rest) (front2 ++ b ∷ rest2) e)) r.before }

-- ---- the modules of a program

module _ (ps : List ParsedTree) (sss : List (List SymbolTree)) (g : Graph) (l : IsLinked ps sss g) where
  abbrev whole : List Analysis
  whole = analyses (known_of ps sss) g

  -- each stands once, and before those that it calls
  abbrev pub Stand : List Analysis → List Analysis → Type 0
  Stand done [] = Unit {0}
  Stand done (a ∷ as') = NoAnalysis (name_of a) done × ((y : List ℕ) → Calls ps sss g l a.found.known y → NoAnalysis y done × (bytes_eq (name_of a) y ≡ false)) × Stand (done ++ a ∷ []) as'

  run_stands : (fs : List Found) (done : List Analysis) (ns : List (List ℕ)) → ((y : List ℕ) → NotIn y ns → NoAnalysis y done) → Fronted ps sss g l ns fs → Stand done (run g.untracked done fs)
  run_stands [] done ns p h = tt
  run_stands (f ∷ fs) done ns p h =
      let a = next g.untracked done f in (
        p f.known.read.name h.0,
        (λ y c. (let r = h.1 y c in (p y r.0, r.1))),
        run_stands fs (done ++ a ∷ []) (f.known.read.name ∷ ns) (λ y n. each_both (λ (b : Analysis). bytes_eq b.found.known.read.name y ≡ false) done (a ∷ []) (p y n.1) (n.0, tt)) h.2,
      )

  pub all_stand : Stand [] (analyses (known_of ps sss) g)
  all_stand =
      subst (Stand []) (sym (analyses_are ps sss g l))
      (run_stands (reverse (in_order_found ps sss g l)) [] [] (λ y n. tt) (fronted ps sss g l (in_order_found ps sss g l) (found_in_order ps sss g l g.order no_summaries (order_sorted ps sss g l))))

  pub stands_at : (done front : List Analysis) (a : Analysis) (rest : List Analysis) → Stand done (front ++ a ∷ rest) → NoAnalysis (name_of a) (done ++ front) × ((y : List ℕ) → Calls ps sss g l a.found.known y → NoAnalysis y (done ++ front) × (bytes_eq (name_of a) y ≡ false))
  stands_at done [] a rest h = (subst (NoAnalysis (name_of a)) (sym (nil_right done)) h.0, λ y c. (let r = h.1 y c in (subst (NoAnalysis y) (sym (nil_right done)) r.0, r.1)))
    where
      nil_right : (xs : List Analysis) → xs ++ [] ≡ xs
      nil_right [] = refl
      nil_right (x ∷ xs) = ap (λ z. x ∷ z) (nil_right xs)
  stands_at done (b ∷ front) a rest h =
      let r = stands_at (done ++ b ∷ []) front a rest h.2 in
      let e : (done ++ b ∷ []) ++ front ≡ done ++ b ∷ front = append_assoc done (b ∷ []) front in
      (subst (NoAnalysis (name_of a)) e r.0, λ y c. (let q = r.1 y c in (subst (NoAnalysis y) e q.0, q.1)))

  -- a place in the list
  pub once : (front : List Analysis) (a : Analysis) (rest : List Analysis) → analyses (known_of ps sss) g ≡ front ++ a ∷ rest → NoAnalysis (name_of a) front
  once front a rest e = (stands_at [] front a rest (subst (Stand []) e all_stand)).0

  -- the summaries of the module of a name are those behind it
  pub summaries_are : (front : List Analysis) (a : Analysis) (rest : List Analysis) → analyses (known_of ps sss) g ≡ front ++ a ∷ rest → summaries_of g (analyses (known_of ps sss) g) (name_of a) ≡ after g.untracked rest
  summaries_are front a rest e =
      ap (λ as'. after g.untracked (behind as' (name_of a))) e
      ∙ ap (after g.untracked) (behind_here g.untracked front a rest (once front a rest e))

  -- and have that of each module that it calls
  pub called_summary : (front : List Analysis) (a : Analysis) (rest : List Analysis) → analyses (known_of ps sss) g ≡ front ++ a ∷ rest → (front2 : List Analysis) (b : Analysis) (rest2 : List Analysis) → analyses (known_of ps sss) g ≡ front2 ++ b ∷ rest2 → Calls ps sss g l a.found.known (name_of b) →
      summaries_of g (analyses (known_of ps sss) g) (name_of a) (name_of b) ≡ Some (record { symbols = b.found.known.symbols; value = (regions_found g.untracked (summaries_of g (analyses (known_of ps sss) g) (name_of b)) b).summary })
  called_summary front a rest e front2 b rest2 f c =
      let s = (stands_at [] front a rest (subst (Stand []) e all_stand)).1 (name_of b) c in
      let r = is_behind front a rest front2 b rest2 (sym e ∙ f) s.0 s.1 in
      let alone : NoAnalysis (name_of b) (front ++ a ∷ r.between) = subst (NoAnalysis (name_of b)) r.before (once front2 b rest2 f) in
      let inside : NoAnalysis (name_of b) r.between = (each_back (λ (z : Analysis). bytes_eq z.found.known.read.name (name_of b) ≡ false) front (a ∷ r.between) alone).1 in
      ap (λ (c : Summaries). c (name_of b)) (summaries_are front a rest e)
      ∙ (ap (λ as'. after g.untracked as' (name_of b)) r.parts
      ∙ (after_here g.untracked r.between b rest2 inside
      ∙ ap (λ (c : Summaries). Some (record { symbols = b.found.known.symbols; value = (regions_found g.untracked c b).summary })) (sym (summaries_are front2 b rest2 f))))

  pub regions_placed : Each (Placed g.untracked (analyses (known_of ps sss) g)) (all_regions g (analyses (known_of ps sss) g))
  regions_placed = all_placed g.untracked (analyses (known_of ps sss) g)
