-- In the order of the graph of a program what a module calls stands before it; and the graph names modules alone.
use Rattle.std.proofs.Common.{◌≡◌, ℕ, zero, suc, ◌<◌, Bool, true, false, List, [], ◌∷◌, Some, refl, sym, ap, ◌∙◌, subst, arith}
use Rattle.std.specs.Prelude.{slice_get, bytes_eq, nat_lt, if◌then◌else◌}
use Rattle.std.specs.List.{list_all}
use Rattle.std.proofs.lemmas.Bool.{lt-ltb, and_from}
use Rattle.std.proofs.lemmas.Slice.Eq.{bytes_eq-Decides}
use Rattle.f77_ast.specs.DeclTrees.{ParsedTree}
use Rattle.f77_ast.specs.Symbols.{SymbolTree}
use Rattle.call_graph.specs.declared.graph.Edge.{Edge}
use Rattle.call_graph.specs.declared.graph.Graph.{Graph}
use Rattle.f77_meaning.proofs.LinkedLaws.{linked_calls_fit, is_graph as graph_is}
use Rattle.laws_programs.specs.Storage.Programs.{IsLinked, IsModule}
use Rattle.laws_programs.specs.Storage.Below.{HasCall}
use Rattle.laws_programs.proofs.Storage.EdgeLaws.{edge_call}
use Rattle.laws_analyses.proofs.Orders.{NotIn, Sorted, Among, order_sorted, each_stands}
use Rattle.session_texts.specs.pipsmake_rules.Laws.{place_in, is_bottom_up}

not_among : (x : List ℕ) (ys : List (List ℕ)) → NotIn x ys → Among x ys → ⊥
not_among x [] n a = let e = a.1 in cc
not_among x (y ∷ ys) n a = at a.0 a.1 (not_among x ys n.1)
  where
    at : (k : ℕ) → slice_get (y ∷ ys) k ≡ Some x → (Among x ys → ⊥) → ⊥
    at zero e ih = let s : y ≡ x = cc in let z : true ≡ false = sym ((bytes_eq-Decides y x).1 s) ∙ n.0 in cc
    at (suc k) e ih = ih (k, e)

among_rest : (z x : List ℕ) (zs : List (List ℕ)) → bytes_eq z x ≡ false → Among x (z ∷ zs) → Among x zs
among_rest z x zs f a = at a.0 a.1
  where
    at : (k : ℕ) → slice_get (z ∷ zs) k ≡ Some x → Among x zs
    at zero e = absurd (let s : z ≡ x = cc in let t : true ≡ false = sym ((bytes_eq-Decides z x).1 s) ∙ f in cc)
    at (suc k) e = (k, e)

module _ (ps : List ParsedTree) (sss : List (List SymbolTree)) where
  before : (order : List (List ℕ)) → Sorted ps sss order → (i : ℕ) (p : ParsedTree) (ss : List SymbolTree) → IsModule ps sss i p ss → (x y : List ℕ) → p.module_read.name ≡ x → HasCall p ss y → Among x order → Among y order → place_in order y < place_in order x
  before [] s i p ss m x y n c a b = let e = a.1 in cc
  before (z ∷ zs) s i p ss m x y n c a b = go (bytes_eq z x) refl (bytes_eq z y) refl (before zs s.2 i p ss m x y n c)
    where
      go : (u : Bool) → bytes_eq z x ≡ u → (w : Bool) → bytes_eq z y ≡ w → (Among x zs → Among y zs → place_in zs y < place_in zs x) → (if w then 0 else suc (place_in zs y)) < (if u then 0 else suc (place_in zs x))
      go true e w f ih = absurd (not_among y (z ∷ zs) (s.1 i p ss m (n ∙ sym ((bytes_eq-Decides z x).0 e)) y c) b)
      go false e true f ih = omega arith
      go false e false f ih = let h = ih (among_rest z x zs e a) (among_rest z y zs f b) in omega (arith, h)

all_at : (P : Edge → Bool) (es : List Edge) → ((i : ℕ) (e : Edge) → slice_get es i ≡ Some e → P e ≡ true) → list_all P es ≡ true
all_at P [] h = refl
all_at P (e ∷ es) h = and_from (P e) (list_all P es) (h zero e refl) (all_at P es (λ i d q. h (suc i) d q))

-- the modules that an edge joins
pub record Joins (ps : List ParsedTree) (e : Edge) : Type 0 where
  pub caller_at : ℕ
  pub caller : ParsedTree
  pub is_caller : slice_get ps caller_at ≡ Some caller
  pub caller_named : caller.module_read.name ≡ e.caller
  pub callee_at : ℕ
  pub callee : ParsedTree
  pub is_callee : slice_get ps callee_at ≡ Some callee
  pub callee_named : callee.module_read.name ≡ e.callee

module _ (ps : List ParsedTree) (sss : List (List SymbolTree)) (g : Graph) (l : IsLinked ps sss g) where
  pub joins : (i : ℕ) (e : Edge) → slice_get g.edges i ≡ Some e → Joins ps e
  joins i e q =
      let r = edge_call ps sss i e (ap (λ (h : Graph). slice_get h.edges i) (graph_is ps sss g l.links) ∙ q) in
      let f = linked_calls_fit ps sss g l.links r.at r.parsed r.table r.is_module.parsed r.is_module.table r.place r.call r.is_call in
      record { caller_at = r.at; caller = r.parsed; is_caller = r.is_module.parsed; caller_named = r.is_named; callee_at = f.at; callee = f.callee; is_callee = f.is_module; callee_named = f.is_named ∙ r.calls }

  below : (i : ℕ) (e : Edge) → slice_get g.edges i ≡ Some e → nat_lt (place_in g.order e.callee) (place_in g.order e.caller) ≡ true
  below i e q =
      let r = edge_call ps sss i e (ap (λ (h : Graph). slice_get h.edges i) (graph_is ps sss g l.links) ∙ q) in
      let j = joins i e q in
      let has : HasCall r.parsed r.table e.callee = record { at = r.place; call = r.call; is_call = r.is_call; is_named = r.calls } in
      let caller : Among e.caller g.order = subst (λ z. Among z g.order) j.caller_named (each_stands ps sss g l j.caller_at j.caller j.is_caller) in
      let callee : Among e.callee g.order = subst (λ z. Among z g.order) j.callee_named (each_stands ps sss g l j.callee_at j.callee j.is_callee) in
      lt-ltb (place_in g.order e.callee) (place_in g.order e.caller) (before ps sss g.order (order_sorted ps sss g l) r.at r.parsed r.table r.is_module e.caller e.callee r.is_named has caller callee)

  pub bottom_up : is_bottom_up g ≡ true
  bottom_up = all_at (λ e. nat_lt (place_in g.order e.callee) (place_in g.order e.caller)) g.edges below
