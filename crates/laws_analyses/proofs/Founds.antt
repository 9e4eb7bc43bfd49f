-- What the first pass finds of the modules of a program that is read: as if it had been made with the summaries of all modules.
use Rattle.std.proofs.Common.{◌≡◌, ◌⊎◌, inl, inr, ℕ, zero, suc, ◌-◌, Bool, true, false, List, [], ◌∷◌, ◌++◌, length, Option, Some, None, refl, sym, ap, ◌∙◌, subst, arith}
use Rattle.std.specs.Prelude.{if◌then◌else◌, slice_get, bytes_eq, option_to_list}
use Rattle.std.proofs.lemmas.Slice.Eq.{bytes_eq-Decides}
use Rattle.f77_ast.specs.DeclTrees.{ParsedTree}
use Rattle.f77_ast.specs.declared.variable.Unit.{Unit as BlockUnit}
use Rattle.f77_ast.specs.Symbols.{SymbolTree, number_from}
use Rattle.call_graph.specs.declared.graph.Graph.{Graph}
use Rattle.call_graph.specs.Modules.{names_of}
use Rattle.f77_meaning.specs.Modules.{Known, known_of}
use Rattle.preconditions.specs.transformers.Given.{Callees}
use Rattle.preconditions.specs.transformers.Modules.{transformers_of}
use Rattle.laws_programs.specs.Storage.Programs.{IsLinked, IsModule, known}
use Rattle.laws_programs.proofs.Storage.ModuleLaws.{known_module, place_of_name}
use Rattle.laws_programs.specs.Storage.Below.{HasCall}
use Rattle.laws_programs.proofs.Storage.CallLaws.{calls_are_listed}
use Rattle.call_graph.specs.CallsIn.{CallAt, Each, list_calls}
use Rattle.module_phases.specs.ScalarPhases.{scope_of, module_names, module_at, module_of, Found, with_callee, found_of, maybe_found, found_in}
use Rattle.laws_analyses.proofs.CallLists.{each_in}
use Rattle.laws_analyses.proofs.UnitLaws.{ModuleAt, module_at as place_module}
use Rattle.laws_analyses.specs.Results.{callees_after}
use Rattle.laws_analyses.proofs.CalleeLaws.{Same, same_transformers}
use Rattle.laws_analyses.proofs.Orders.{NotIn, Sorted, Among}
use Rattle.f77_ast.proofs.NumberedNames.{number_from-least}
use Rattle.call_graph.proofs.EachLaws.{each_more}

-- ---- the module of a name

pub record ModuleOf (ks : List Known) (x : List ℕ) (k : Known) : Type 0 where
  pub name : k.read.name ≡ x
  pub at : ℕ
  pub is_module : slice_get ks at ≡ Some k

first_of : (n : ℕ) (ks : List Known) (x : List ℕ) (i : ℕ) (k : Known) → number_from n (module_names ks) x ≡ Some i → slice_get ks (i - n) ≡ Some k → k.read.name ≡ x
first_of n [] x i k e h = cc
first_of n (y ∷ ks) x i k e h = go (bytes_eq x y.read.name) refl e (first_of (suc n) ks x i k)
  where
    go : (b : Bool) → bytes_eq x y.read.name ≡ b → (if b then Some n else number_from (suc n) (module_names ks) x) ≡ Some i → (number_from (suc n) (module_names ks) x ≡ Some i → slice_get ks (i - suc n) ≡ Some k → k.read.name ≡ x) → k.read.name ≡ x
    go true q f ih =
        let same : n ≡ i = cc in
        let none : i - n ≡ zero = omega (arith, same) in
        let here : Some y ≡ Some k = sym (ap (slice_get (y ∷ ks)) none) ∙ h in
        let one : y ≡ k = cc in
        ap (λ z. z.read.name) (sym one) ∙ sym ((bytes_eq-Decides x y.read.name).0 q)
    go false q f ih =
        let least = number_from-least (suc n) i (module_names ks) x f in
        let less : i - n ≡ suc (i - suc n) = omega (arith, least) in
        ih f (sym (ap (slice_get (y ∷ ks)) less) ∙ h)

pub module_of_is : (ks : List Known) (x : List ℕ) (k : Known) → module_of ks x ≡ Some k → ModuleOf ks x k
module_of_is ks x k e = go (number_from 0 (module_names ks) x) refl e
  where
    go : (o : Option ℕ) → number_from 0 (module_names ks) x ≡ o → module_at ks o ≡ Some k → ModuleOf ks x k
    go None q h = cc
    go (Some i) q h = let same : i ≡ i - 0 = omega arith in record { name = first_of 0 ks x i k q (sym (ap (slice_get ks) same) ∙ h); at = i; is_module = h }

names_same : (ps : List ParsedTree) (sss : List (List SymbolTree)) → length ps ≡ length sss → module_names (known_of ps sss) ≡ names_of ps
names_same [] sss e = refl
names_same (p ∷ ps) [] e = absurd (omega (arith, e))
names_same (p ∷ ps) (ss ∷ sss) e = ap (λ ns. p.module_read.name ∷ ns) (names_same ps sss (omega (arith, e)))

pub module_found : (ps : List ParsedTree) (sss : List (List SymbolTree)) (g : Graph) → IsLinked ps sss g → (i : ℕ) (p : ParsedTree) (ss : List SymbolTree) → IsModule ps sss i p ss → module_of (known_of ps sss) p.module_read.name ≡ Some (known p ss)
module_found ps sss g l i p ss m =
    ap (λ ns. module_at (known_of ps sss) (number_from 0 ns p.module_read.name)) (names_same ps sss l.many)
    ∙ ap (module_at (known_of ps sss)) (place_of_name ps sss g l.links i p m.parsed) ∙ known_module ps sss i p ss m

-- ---- what is found

-- none of these modules has the name
abbrev pub NoneNamed : List ℕ → List Found → Type 0
NoneNamed y fs = Each (λ (f : Found). bytes_eq f.known.read.name y ≡ false) fs

abbrev pub HasKnown : Known → List Found → Type 0
HasKnown k [] = ⊥
HasKnown k (f ∷ fs) = (f.known ≡ k) ⊎ HasKnown k fs

module _ (ps : List ParsedTree) (sss : List (List SymbolTree)) (g : Graph) (l : IsLinked ps sss g) where
  abbrev ks : List Known
  ks = known_of ps sss

  abbrev u : List BlockUnit
  u = g.untracked

  -- a CALL of the name in the module
  pub record Calls (k : Known) (y : List ℕ) : Type 0 where
    pub at : ℕ
    pub parsed : ParsedTree
    pub table : List SymbolTree
    pub is_module : IsModule ps sss at parsed table
    pub same : known parsed table ≡ k
    pub call : HasCall parsed table y

  abbrev pub final : Callees → List (List ℕ) → Callees
  final cs xs = callees_after g.untracked (known_of ps sss) cs xs

  left : (k : Known) (x y : List ℕ) (cs : Callees) → k.read.name ≡ x → bytes_eq x y ≡ false → with_callee (Some (found_of g.untracked cs k)) cs y ≡ cs y
  left k x y cs e n = ap (λ b. if b then Some (record { symbols = k.symbols; value = (found_of g.untracked cs k).own.summary }) else cs y) (ap (λ z. bytes_eq z y) e ∙ n)

  one_keeps : (x y : List ℕ) (cs : Callees) → bytes_eq x y ≡ false → with_callee (maybe_found g.untracked cs (module_of (known_of ps sss) x)) cs y ≡ cs y
  one_keeps x y cs n = go (module_of (known_of ps sss) x) refl
    where
      go : (o : Option Known) → module_of (known_of ps sss) x ≡ o → with_callee (maybe_found g.untracked cs o) cs y ≡ cs y
      go None e = refl
      go (Some k) e = left k x y cs (module_of_is (known_of ps sss) x k e).name n

  keeps : (xs : List (List ℕ)) (cs : Callees) (y : List ℕ) → NotIn y xs → final cs xs y ≡ cs y
  keeps [] cs y n = refl
  keeps (x ∷ xs) cs y n = keeps xs (with_callee (maybe_found g.untracked cs (module_of (known_of ps sss) x)) cs) y n.1 ∙ one_keeps x y cs n.0

  -- a module with what is found of it
  pub record GoodFound (all : Callees) (f : Found) : Type 0 where
    pub at : ℕ
    pub is_module : slice_get (known_of ps sss) at ≡ Some f.known
    pub own : f.own ≡ transformers_of f.known.read.body (scope_of g.untracked f.known) all
    pub callee : all f.known.read.name ≡ Some (record { symbols = f.known.symbols; value = f.own.summary })

  pub founds : (xs : List (List ℕ)) (cs : Callees) → Sorted ps sss xs → (all : Callees) → ((y : List ℕ) → final cs xs y ≡ all y) → Each (GoodFound all) (found_in g.untracked (known_of ps sss) cs xs)
  founds [] cs s all same = tt
  founds (x ∷ xs) cs s all same = go (module_of (known_of ps sss) x) refl same (λ ds q. founds xs ds s.2 all q)
    where
      go : (o : Option Known) → module_of (known_of ps sss) x ≡ o → ((y : List ℕ) → final (with_callee (maybe_found g.untracked cs o) cs) xs y ≡ all y) →
          ((ds : Callees) → ((y : List ℕ) → final ds xs y ≡ all y) → Each (GoodFound all) (found_in g.untracked (known_of ps sss) ds xs)) →
          Each (GoodFound all) (option_to_list (maybe_found g.untracked cs o) ++ found_in g.untracked (known_of ps sss) (with_callee (maybe_found g.untracked cs o) cs) xs)
      go None e q ih = ih (with_callee None cs) q
      go (Some k) e q ih = (good, ih (with_callee (Some (found_of g.untracked cs k)) cs) q)
        where
          r : ModuleOf (known_of ps sss) x k
          r = module_of_is (known_of ps sss) x k e

          m : ModuleAt ps sss r.at k
          m = place_module ps sss r.at k r.is_module

          name : m.parsed.module_read.name ≡ x
          name = ap (λ z. z.read.name) m.same ∙ r.name

          agree : Each (Same (scope_of g.untracked k) cs all) (list_calls k.read.body)
          agree =
              subst (λ z. Each (Same (scope_of g.untracked k) cs all) (list_calls z.read.body)) m.same
              (each_more (λ (c : CallAt). HasCall m.parsed m.table c.callee) (Same (scope_of g.untracked k) cs all) (list_calls m.parsed.module_read.body)
              (λ c h. (let n = s.1 r.at m.parsed m.table m.is_module name c.callee h in sym (left k x c.callee cs r.name n.0) ∙ (sym (keeps xs (with_callee (Some (found_of g.untracked cs k)) cs) c.callee n.1) ∙ q c.callee)))
              (each_in (λ n y es. HasCall m.parsed m.table y) m.parsed.module_read.body (calls_are_listed m.parsed m.table)))

          good : GoodFound all (found_of g.untracked cs k)
          good = record {
            at = r.at;
            is_module = r.is_module;
            own = same_transformers (scope_of g.untracked k) cs all k.read.body agree;
            callee = sym (q k.read.name) ∙ (keeps xs (with_callee (Some (found_of g.untracked cs k)) cs) k.read.name (subst (λ y. NotIn y xs) (sym r.name) s.0) ∙ ap (λ b. if b then Some (record { symbols = k.symbols; value = (found_of g.untracked cs k).own.summary }) else cs k.read.name) ((bytes_eq-Decides k.read.name k.read.name).1 refl));
          }

  -- ---- their order

  pub not_found : (xs : List (List ℕ)) (cs : Callees) (y : List ℕ) → NotIn y xs → NoneNamed y (found_in g.untracked (known_of ps sss) cs xs)
  not_found [] cs y n = tt
  not_found (x ∷ xs) cs y n = go (module_of (known_of ps sss) x) refl (λ ds. not_found xs ds y n.1)
    where
      go : (o : Option Known) → module_of (known_of ps sss) x ≡ o → ((ds : Callees) → NoneNamed y (found_in g.untracked (known_of ps sss) ds xs)) → NoneNamed y (option_to_list (maybe_found g.untracked cs o) ++ found_in g.untracked (known_of ps sss) (with_callee (maybe_found g.untracked cs o) cs) xs)
      go None e ih = ih (with_callee None cs)
      go (Some k) e ih = (ap (λ z. bytes_eq z y) (module_of_is (known_of ps sss) x k e).name ∙ n.0, ih (with_callee (Some (found_of g.untracked cs k)) cs))

  -- each stands once, and before those that call it
  abbrev pub InOrder : List Found → Type 0
  InOrder [] = Unit {0}
  InOrder (f ∷ fs) = NoneNamed f.known.read.name fs × ((y : List ℕ) → Calls f.known y → (bytes_eq f.known.read.name y ≡ false) × NoneNamed y fs) × InOrder fs

  pub found_in_order : (xs : List (List ℕ)) (cs : Callees) → Sorted ps sss xs → InOrder (found_in g.untracked (known_of ps sss) cs xs)
  found_in_order [] cs s = tt
  found_in_order (x ∷ xs) cs s = go (module_of (known_of ps sss) x) refl (λ ds. found_in_order xs ds s.2)
    where
      go : (o : Option Known) → module_of (known_of ps sss) x ≡ o → ((ds : Callees) → InOrder (found_in g.untracked (known_of ps sss) ds xs)) → InOrder (option_to_list (maybe_found g.untracked cs o) ++ found_in g.untracked (known_of ps sss) (with_callee (maybe_found g.untracked cs o) cs) xs)
      go None e ih = ih (with_callee None cs)
      go (Some k) e ih =
          let ds = with_callee (Some (found_of g.untracked cs k)) cs in
          let name = (module_of_is (known_of ps sss) x k e).name in (
            not_found xs ds k.read.name (subst (λ y. NotIn y xs) (sym name) s.0),
            (λ y c. (let n = s.1 c.at c.parsed c.table c.is_module (ap (λ z. z.read.name) c.same ∙ name) y c.call in (ap (λ z. bytes_eq z y) name ∙ n.0, not_found xs ds y n.1))),
            ih ds,
          )

  pub found_has : (xs : List (List ℕ)) (cs : Callees) (x : List ℕ) (k : Known) → module_of (known_of ps sss) x ≡ Some k → Among x xs → HasKnown k (found_in g.untracked (known_of ps sss) cs xs)
  found_has [] cs x k e (i, h) = cc
  found_has (z ∷ xs) cs x k e (zero, h) =
      let same : z ≡ x = cc in
      let there : module_of (known_of ps sss) z ≡ Some k = ap (module_of (known_of ps sss)) same ∙ e in
      subst (λ o. HasKnown k (option_to_list (maybe_found g.untracked cs o) ++ found_in g.untracked (known_of ps sss) (with_callee (maybe_found g.untracked cs o) cs) xs)) (sym there) (inl refl)
  found_has (z ∷ xs) cs x k e (suc i, h) = go (module_of (known_of ps sss) z) (λ ds. found_has xs ds x k e (i, h))
    where
      go : (o : Option Known) → ((ds : Callees) → HasKnown k (found_in g.untracked (known_of ps sss) ds xs)) → HasKnown k (option_to_list (maybe_found g.untracked cs o) ++ found_in g.untracked (known_of ps sss) (with_callee (maybe_found g.untracked cs o) cs) xs)
      go None ih = ih (with_callee None cs)
      go (Some f) ih = inr (ih (with_callee (Some (found_of g.untracked cs f)) cs))
