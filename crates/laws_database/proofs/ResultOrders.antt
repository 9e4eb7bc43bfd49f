-- The modules of a program in the order of its graph: each once, behind those that it calls; and in the opposite order.
use Rattle.std.proofs.Common.{◌≡◌, ℕ, false, List, [], ◌∷◌, ◌++◌, Option, Some, None, refl, sym, ap, ◌∙◌, subst}
use Rattle.std.specs.Prelude.{bytes_eq, reverse, option_to_list}
use mathlib.Core.List.{reverse-cons}
use Rattle.f77_ast.specs.DeclTrees.{ParsedTree}
use Rattle.f77_ast.specs.Symbols.{SymbolTree}
use Rattle.call_graph.specs.declared.graph.Graph.{Graph}
use Rattle.f77_meaning.specs.Modules.{Known, known_of}
use Rattle.loop_marker.specs.module_phases.ScalarPhases.{module_of}
use Rattle.laws_programs.specs.Storage.Programs.{IsLinked}
use Rattle.laws_programs.specs.Storage.Below.{HasCall}
use Rattle.laws_programs.proofs.Storage.CallLaws.{calls_are_listed}
use Rattle.call_graph.specs.CallsIn.{CallAt, Each, list_calls}
use Rattle.laws_analyses.proofs.CallLists.{each_in}
use Rattle.laws_analyses.proofs.Founds.{ModuleOf, module_of_is}
use Rattle.laws_analyses.proofs.Orders.{NotIn, Sorted, order_sorted}
use Rattle.laws_analyses.proofs.Passes.{each_reversed}
use Rattle.laws_analyses.proofs.UnitLaws.{ModuleAt, module_at as place_module}
use Rattle.laws_database.proofs.ResultLists.{each_turned}
use Rattle.fx_lists.proofs.Texts.{turned}
use Rattle.call_graph.proofs.EachLaws.{each_more, each_joined}
use Rattle.laws_analyses.proofs.Modules.{modules_at}

-- none of these modules has the name
abbrev pub NoneNamed : List ℕ → List Known → Type 0
NoneNamed y ks = Each (λ (k : Known). bytes_eq k.read.name y ≡ false) ks

-- no CALL of the module has the name
abbrev pub NoCall : List ℕ → Known → Type 0
NoCall x k = Each (λ (c : CallAt). bytes_eq c.callee x ≡ false) (list_calls k.read.body)

abbrev pub CalleesFirst : List Known → Type 0
CalleesFirst [] = Unit {0}
CalleesFirst (k ∷ ks) = NoneNamed k.read.name ks × Each (λ (c : CallAt). NoneNamed c.callee (k ∷ ks)) (list_calls k.read.body) × CalleesFirst ks

abbrev pub CallersFirst : List Known → Type 0
CallersFirst [] = Unit {0}
CallersFirst (k ∷ ks) = Each (NoCall k.read.name) (k ∷ ks) × CallersFirst ks

-- ---- the opposite order

one_more : (xs : List Known) (k : Known) → CallersFirst xs → Each (λ (x : Known). NoCall x.read.name k) xs → NoCall k.read.name k → CallersFirst (xs ++ k ∷ [])
one_more [] k h q own = ((own, tt), tt)
one_more (x ∷ xs) k h q own = (each_joined (NoCall x.read.name) (x ∷ xs) (k ∷ []) h.0 (q.0, tt), one_more xs k h.1 q.1 own)

pub callers_first : (ks : List Known) → CalleesFirst ks → CallersFirst (reverse ks)
callers_first [] s = tt
callers_first (k ∷ ks) s =
    let quiet = each_turned (λ (c : CallAt) (y : Known). bytes_eq y.read.name c.callee ≡ false) (list_calls k.read.body) (k ∷ ks) s.1 in
    let silent : Each (λ (x : Known). NoCall x.read.name k) (k ∷ ks) =
    each_more (λ (y : Known). Each (λ (c : CallAt). bytes_eq y.read.name c.callee ≡ false) (list_calls k.read.body)) (λ (y : Known). NoCall y.read.name k) (k ∷ ks)
    (λ y h. each_more (λ (c : CallAt). bytes_eq y.read.name c.callee ≡ false) (λ (c : CallAt). bytes_eq c.callee y.read.name ≡ false) (list_calls k.read.body) (λ c e. turned c.callee y.read.name ∙ e) h) quiet in
    subst CallersFirst (sym (reverse-cons k ks)) (one_more (reverse ks) k (callers_first ks s.2) (each_reversed (λ (x : Known). NoCall x.read.name k) ks silent.1) silent.0)

-- ---- the modules of these names

none_named : (ks : List Known) (xs : List (List ℕ)) (y : List ℕ) → NotIn y xs → NoneNamed y (modules_at ks xs)
none_named ks [] y n = tt
none_named ks (x ∷ xs) y n = go (module_of ks x) refl (none_named ks xs y n.1)
  where
    go : (o : Option Known) → module_of ks x ≡ o → NoneNamed y (modules_at ks xs) → NoneNamed y (option_to_list o ++ modules_at ks xs)
    go None e ih = ih
    go (Some k) e ih = (ap (λ z. bytes_eq z y) (module_of_is ks x k e).name ∙ n.0, ih)

module _ (ps : List ParsedTree) (sss : List (List SymbolTree)) where
  sorted : (xs : List (List ℕ)) → Sorted ps sss xs → CalleesFirst (modules_at (known_of ps sss) xs)
  sorted [] s = tt
  sorted (x ∷ xs) s = go (module_of (known_of ps sss) x) refl (sorted xs s.2)
    where
      go : (o : Option Known) → module_of (known_of ps sss) x ≡ o → CalleesFirst (modules_at (known_of ps sss) xs) → CalleesFirst (option_to_list o ++ modules_at (known_of ps sss) xs)
      go None e ih = ih
      go (Some k) e ih = (none_named (known_of ps sss) xs k.read.name (subst (λ y. NotIn y xs) (sym r.name) s.0), calls, ih)
        where
          r : ModuleOf (known_of ps sss) x k
          r = module_of_is (known_of ps sss) x k e

          m : ModuleAt ps sss r.at k
          m = place_module ps sss r.at k r.is_module

          rest : List Known
          rest = modules_at (known_of ps sss) xs

          name : m.parsed.module_read.name ≡ x
          name = ap (λ z. z.read.name) m.same ∙ r.name

          calls : Each (λ (c : CallAt). NoneNamed c.callee (k ∷ modules_at (known_of ps sss) xs)) (list_calls k.read.body)
          calls =
              subst (λ (z : Known). Each (λ (c : CallAt). NoneNamed c.callee (k ∷ modules_at (known_of ps sss) xs)) (list_calls z.read.body)) m.same
              (each_more (λ (c : CallAt). HasCall m.parsed m.table c.callee) (λ (c : CallAt). NoneNamed c.callee (k ∷ modules_at (known_of ps sss) xs)) (list_calls m.parsed.module_read.body)
              (λ c h. (let n = s.1 r.at m.parsed m.table m.is_module name c.callee h in (ap (λ z. bytes_eq z c.callee) r.name ∙ n.0, none_named (known_of ps sss) xs c.callee n.1)))
              (each_in (λ n y es. HasCall m.parsed m.table y) m.parsed.module_read.body (calls_are_listed m.parsed m.table)))

  -- in the order of the graph
  pub modules_sorted : (g : Graph) → IsLinked ps sss g → CalleesFirst (modules_at (known_of ps sss) g.order)
  modules_sorted g l = sorted g.order (order_sorted ps sss g l)
