-- What modules reach by calls.
use Rattle.std.proofs.Common.{◌≡◌, ℕ, zero, suc, ◌+◌, ◌-◌, ◌<◌, ◌≤◌, Bool, true, false, List, [], ◌∷◌, length, Option, Some, None, ◌⊎◌, inl, inr, refl, sym, ap, ◌∙◌, subst, arith}
use Rattle.std.specs.Prelude.{bytes_eq, ◌&&◌, ◌||◌, slice_get}
use Rattle.std.specs.List.{list_any}
use Rattle.std.proofs.lemmas.Bool.{and_parts, and_from, or_left, or_right, or_cases}
use Rattle.std.proofs.lemmas.Slice.Eq.{bytes_eq-Decides}
use Rattle.f77_ast.specs.DeclTrees.{ParsedTree}
use Rattle.f77_ast.specs.Symbols.{SymbolTree, number_from}
use Rattle.call_graph.specs.declared.graph.Graph.{Graph}
use Rattle.call_graph.specs.declared.graph.Edge.{Edge}
use Rattle.call_graph.specs.Modules.{names_of}
use Rattle.call_graph.specs.Calls.{calls_of, all_calls}
use Rattle.call_graph.specs.Callees.{all_places, all_edges}
use Rattle.call_graph.specs.Order.{holds, order_of}
use Rattle.call_graph.specs.Links.{callees_of}
use Rattle.call_graph.specs.Laws.{IsBottomUp, HasEach}
use Rattle.call_graph.proofs.CycleLaws.{in_order, length-all_calls_same as length-calls}
use Rattle.call_graph.proofs.LinkLaws.{length-all_places}
use Rattle.f77_meaning.specs.Areas.{block, is_unit_of}
use Rattle.f77_meaning.specs.Modules.{Known, known_of}
use Rattle.f77_meaning.specs.Linked.{numbering, declares, callees, reaches, is_common}
use Rattle.f77_meaning.proofs.LinkLaws.{any_found}
use Rattle.f77_meaning.proofs.LinkedLaws.{linked_calls_fit, is_graph as graph_is}
use Rattle.laws_programs.specs.Storage.Programs.{IsLinked, IsModule}
use Rattle.laws_programs.specs.Storage.Below.{leads_to, HasCall, CallGraphIsAcyclic, ReachabilityIsTransitive, CommonIsShared}
use Rattle.laws_programs.proofs.Storage.ModuleLaws.{place_of_name}
use Rattle.laws_programs.proofs.Storage.RankLaws.{rank, rank_falls, rank_below}
use Rattle.laws_programs.proofs.Storage.EdgeLaws.{HasEdge, callee_edge, edge_callee, CallOf, edge_call, call_edge, callees_have}
use Rattle.fx_lists.proofs.Lists.{got_below as slice_within}
use Rattle.fx_lists.proofs.Lookups.{any_at}

-- ---- lengths

length-known : (ps : List ParsedTree) (sss : List (List SymbolTree)) → length ps ≡ length sss → length (known_of ps sss) ≡ length ps
length-known [] sss e = refl
length-known (p ∷ ps) [] e = absurd (omega (arith, e))
length-known (p ∷ ps) (ss ∷ sss) e = ap suc (length-known ps sss (omega (arith, e)))

-- ---- reaching

module _ (es : List Edge) where
  pub at_once : (n : ℕ) (x y : List ℕ) → bytes_eq x y ≡ true → reaches n es x y ≡ true
  at_once zero x y e = e
  at_once (suc n) x y e = or_left (bytes_eq x y) (list_any (λ z. reaches n es z y) (callees es x)) e

  once_more : (n : ℕ) (x y : List ℕ) → reaches n es x y ≡ true → reaches (suc n) es x y ≡ true
  once_more zero x y h = at_once 1 x y h
  once_more (suc n) x y h = go (or_cases (bytes_eq x y) (list_any (λ z. reaches n es z y) (callees es x)) h) (λ z r. once_more n z y r)
    where
      go : (bytes_eq x y ≡ true) ⊎ (list_any (λ z. reaches n es z y) (callees es x) ≡ true) → ((z : List ℕ) → reaches n es z y ≡ true → reaches (suc n) es z y ≡ true) → reaches (suc (suc n)) es x y ≡ true
      go (inl e) ih = at_once (suc (suc n)) x y e
      go (inr a) ih =
          let f = any_found (λ z. reaches n es z y) (callees es x) a in
          or_right (bytes_eq x y) (list_any (λ z. reaches (suc n) es z y) (callees es x)) (any_at (λ z. reaches (suc n) es z y) (callees es x) f.place f.item f.is_item (ih f.item f.holds))

  many_more : (k n : ℕ) (x y : List ℕ) → reaches n es x y ≡ true → (m : ℕ) → m ≡ k + n → reaches m es x y ≡ true
  many_more zero n x y h m e = let same : n ≡ m = omega (arith, e) in subst (λ i. reaches i es x y ≡ true) same h
  many_more (suc k) n x y h m e = many_more k (suc n) x y (once_more n x y h) m (omega (arith, e))

  no_less : (n m : ℕ) (x y : List ℕ) → n ≤ m → reaches n es x y ≡ true → reaches m es x y ≡ true
  no_less n m x y l h = many_more (m - n) n x y h m (omega (arith, l))

  -- levels that fall along edges
  module _ (level : List ℕ → ℕ) (falls : (x y : List ℕ) → HasEdge es x y → level y < level x) where
    pub level_falls : (n : ℕ) (x y : List ℕ) → reaches n es x y ≡ true → level y ≤ level x
    level_falls zero x y h = let same = (bytes_eq-Decides x y).0 h in let z : level x ≡ level y = ap level same in omega (arith, z)
    level_falls (suc n) x y h = go (or_cases (bytes_eq x y) (list_any (λ z. reaches n es z y) (callees es x)) h) (λ z r. level_falls n z y r)
      where
        go : (bytes_eq x y ≡ true) ⊎ (list_any (λ z. reaches n es z y) (callees es x) ≡ true) → ((z : List ℕ) → reaches n es z y ≡ true → level y ≤ level z) → level y ≤ level x
        go (inl e) ih = let same = (bytes_eq-Decides x y).0 e in let z : level x ≡ level y = ap level same in omega (arith, z)
        go (inr a) ih =
            let f = any_found (λ z. reaches n es z y) (callees es x) a in
            let low = ih f.item f.holds in
            let less = falls x f.item (callee_edge es x f.item f.place f.is_item) in
            omega (arith, low, less)

    -- one call, and so many behind it
    pub step_on : (n m : ℕ) (x z y : List ℕ) → HasEdge es x z → reaches n es z y ≡ true → suc n ≤ m → reaches m es x y ≡ true
    step_on n zero x z y e h l = absurd (omega (arith, l))
    step_on n (suc m) x z y e h l = or_right (bytes_eq x y) (list_any (λ w. reaches m es w y) (callees es x)) (edge_callee es x z (λ w. reaches m es w y) e (no_less n m z y (omega (arith, l)) h))

    -- no more calls than the level says are needed
    pub by_level : (n : ℕ) (x y : List ℕ) → reaches n es x y ≡ true → reaches (level x) es x y ≡ true
    by_level zero x y h = at_once (level x) x y h
    by_level (suc n) x y h = go (or_cases (bytes_eq x y) (list_any (λ z. reaches n es z y) (callees es x)) h) (λ z r. by_level n z y r)
      where
        go : (bytes_eq x y ≡ true) ⊎ (list_any (λ z. reaches n es z y) (callees es x) ≡ true) → ((z : List ℕ) → reaches n es z y ≡ true → reaches (level z) es z y ≡ true) → reaches (level x) es x y ≡ true
        go (inl e) ih = at_once (level x) x y e
        go (inr a) ih =
            let f = any_found (λ z. reaches n es z y) (callees es x) a in
            let edge = callee_edge es x f.item f.place f.is_item in
            let less = falls x f.item edge in
            step_on (level f.item) (level x) x f.item y edge (ih f.item f.holds) (omega (arith, less))

-- ---- the order of modules that link

abbrev ranked : List ℕ → Option ℕ → ℕ
ranked order None = 0
ranked order (Some k) = rank order k

module _ (ps : List ParsedTree) (sss : List (List SymbolTree)) (g : Graph) (l : IsLinked ps sss g) where
  abbrev css : List (List ℕ)
  css = callees_of ps sss

  abbrev edges : List Edge
  edges = all_edges (names_of ps) (all_calls ps sss)

  abbrev level : List ℕ → ℕ
  level x = ranked (order_of (callees_of ps sss)) (number_from 0 (names_of ps) x)

  edges_are : g.edges ≡ edges
  edges_are = ap (λ z. z.edges) (sym (graph_is ps sss g l.links))

  length-css : length css ≡ length ps
  length-css = length-all_places (names_of ps) (all_calls ps sss) ∙ length-calls ps sss l.many

  module_level : (i : ℕ) (p : ParsedTree) → slice_get ps i ≡ Some p → level p.module_read.name ≡ rank (order_of css) i
  module_level i p e = ap (ranked (order_of css)) (place_of_name ps sss g l.links i p e)

  pub stands : (i : ℕ) (p : ParsedTree) → slice_get ps i ≡ Some p → holds (order_of css) i ≡ true
  stands i p e = let within = slice_within ps i p e in (in_order ps sss g l.many l.links).2 i (omega (arith, within, length-css))

  pub level_below : (i : ℕ) (p : ParsedTree) → slice_get ps i ≡ Some p → level p.module_read.name < length ps
  level_below i p e =
      let low = rank_below css i (stands i p e) in
      let same = module_level i p e in
      omega (arith, low, same, length-css)

  falls : (x y : List ℕ) → HasEdge edges x y → level y < level x
  falls x y h =
      let c = edge_call ps sss h.at h.edge h.is_edge in
      let f = linked_calls_fit ps sss g l.links c.at c.parsed c.table c.is_module.parsed c.is_module.table c.place c.call c.is_call in
      let number = ap (number_from 0 (names_of ps)) (sym f.is_named) ∙ place_of_name ps sss g l.links f.at f.callee f.is_module in
      let called = callees_have (names_of ps) ps sss c.at c.parsed c.table c.is_module c.place f.at c.call c.is_call number in
      let less = rank_falls css (order_of css) c.at f.at (in_order ps sss g l.many l.links).1 (stands c.at c.parsed c.is_module.parsed) called in
      let here : level x ≡ rank (order_of css) c.at = ap level (sym h.from) ∙ ap level (sym c.is_named) ∙ module_level c.at c.parsed c.is_module.parsed in
      let there : level y ≡ rank (order_of css) f.at = ap level (sym h.to) ∙ ap level (sym c.calls) ∙ ap level (sym f.is_named) ∙ module_level f.at f.callee f.is_module in
      omega (arith, less, here, there)

  call_down : (i : ℕ) (p : ParsedTree) (ss : List SymbolTree) → IsModule ps sss i p ss → (x : List ℕ) → HasCall p ss x → HasEdge edges p.module_read.name x
  call_down i p ss m x c =
      let h = call_edge ps sss i p ss m c.at c.call c.is_call in
      record { at = h.at; edge = h.edge; is_edge = h.is_edge; from = h.from; to = h.to ∙ c.is_named }

  in_edges : (n : ℕ) (x y : List ℕ) → reaches n g.edges x y ≡ true → reaches n edges x y ≡ true
  in_edges n x y h = ap (λ z. reaches n z x y) (sym edges_are) ∙ h

  pub never_back : (i : ℕ) (p : ParsedTree) (ss : List SymbolTree) → IsModule ps sss i p ss → (x : List ℕ) → HasCall p ss x → leads_to ps sss g x p.module_read.name → ⊥
  never_back i p ss m x c h =
      let up = level_falls edges level falls (length (known_of ps sss)) x p.module_read.name (in_edges (length (known_of ps sss)) x p.module_read.name h) in
      let down = falls p.module_read.name x (call_down i p ss m x c) in
      omega (arith, up, down)

  pub lead_on : (i : ℕ) (p : ParsedTree) (ss : List SymbolTree) → IsModule ps sss i p ss → (x y : List ℕ) → HasCall p ss x → leads_to ps sss g x y → leads_to ps sss g p.module_read.name y
  lead_on i p ss m x y c h =
      let edge = call_down i p ss m x c in
      let down = falls p.module_read.name x edge in
      let all = level_below i p m.parsed in
      let many = length-known ps sss l.many in
      let short = by_level edges level falls (length (known_of ps sss)) x y (in_edges (length (known_of ps sss)) x y h) in
      ap (λ z. reaches (length (known_of ps sss)) z p.module_read.name y) edges_are ∙ step_on edges level falls (level x) (length (known_of ps sss)) p.module_read.name x y edge short (omega (arith, down, all, many))

pub call_graph_is_acyclic : CallGraphIsAcyclic
call_graph_is_acyclic ps sss g l i p ss m x c h = never_back ps sss g l i p ss m x c h

pub reachability_is_transitive : ReachabilityIsTransitive
reachability_is_transitive ps sss g l i p ss m x y c h = lead_on ps sss g l i p ss m x y c h

pub common_is_shared : CommonIsShared
common_is_shared ps sss g l i p ss m x u c h =
    let ks = known_of ps sss in
    let here = λ (k : Known). list_any (λ b. declares b.name k && is_unit_of (numbering ks g) (block b.name) u) g.blocks in
    let f = any_found (λ k. reaches (length ks) g.edges x k.read.name && here k) ks h in
    let both = and_parts (reaches (length ks) g.edges x f.item.read.name) (here f.item) f.holds in
    any_at (λ k. reaches (length ks) g.edges p.module_read.name k.read.name && here k) ks f.place f.item f.is_item (and_from (reaches (length ks) g.edges p.module_read.name f.item.read.name) (here f.item) (lead_on ps sss g l i p ss m x f.item.read.name c both.0) both.1)
