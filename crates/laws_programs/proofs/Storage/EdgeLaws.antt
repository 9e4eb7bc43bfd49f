-- The edges of a graph are the CALLs of modules.
use Rattle.std.proofs.Common.{◌≡◌, ℕ, zero, suc, Bool, true, false, List, [], ◌∷◌, ◌++◌, length, Option, Some, None, ◌⊎◌, inl, inr, refl, sym, ap, ◌∙◌, arith}
use Rattle.std.specs.Prelude.{if◌then◌else◌, bytes_eq, nat_eq, ◌||◌, slice_get}
use Rattle.std.specs.List.{list_any}
use Rattle.std.proofs.lemmas.Bool.{or_left, or_right, eq-eqb}
use Rattle.std.proofs.lemmas.Slice.Eq.{bytes_eq-Decides}
use Rattle.f77_ast.specs.DeclTrees.{ParsedTree}
use Rattle.f77_ast.specs.Symbols.{SymbolTree, number_from}
use Rattle.call_graph.specs.declared.graph.Edge.{Edge}
use Rattle.call_graph.specs.declared.calls.Called.{Called}
use Rattle.call_graph.specs.Modules.{names_of}
use Rattle.call_graph.specs.Calls.{calls_of, all_calls}
use Rattle.call_graph.specs.Callees.{place_put, found_put, places_of, all_places, edge_of, edges_of, all_edges}
use Rattle.call_graph.specs.Order.{holds}
use Rattle.call_graph.specs.Recursion.{callees_at}
use Rattle.f77_meaning.specs.Linked.{callees}
use Rattle.laws_programs.specs.Storage.Programs.{IsModule}

-- ---- lists

first_part : {A : Type 0} (xs ys : List A) (i : ℕ) (x : A) → slice_get xs i ≡ Some x → slice_get (xs ++ ys) i ≡ Some x
first_part [] ys i x e = cc
first_part (y ∷ xs) ys zero x e = e
first_part (y ∷ xs) ys (suc i) x e = first_part xs ys i x e

last_part : {A : Type 0} (xs ys : List A) (i : ℕ) (x : A) → slice_get ys i ≡ Some x → (j : ℕ) × (slice_get (xs ++ ys) j ≡ Some x)
last_part [] ys i x e = (i, e)
last_part (y ∷ xs) ys i x e = let r = last_part xs ys i x e in (suc r.0, r.1)

in_part : {A : Type 0} (xs ys : List A) (i : ℕ) (x : A) → slice_get (xs ++ ys) i ≡ Some x → (slice_get xs i ≡ Some x) ⊎ ((j : ℕ) × (slice_get ys j ≡ Some x))
in_part [] ys i x e = inr (i, e)
in_part (y ∷ xs) ys zero x e = inl e
in_part (y ∷ xs) ys (suc i) x e = in_part xs ys i x e

-- ---- edges and callees

-- an edge from this module to that
pub record HasEdge (es : List Edge) (x y : List ℕ) : Type 0 where
  pub at : ℕ
  pub edge : Edge
  pub is_edge : slice_get es at ≡ Some edge
  pub from : edge.caller ≡ x
  pub to : edge.callee ≡ y

pub callee_edge : (es : List Edge) (x y : List ℕ) (k : ℕ) → slice_get (callees es x) k ≡ Some y → HasEdge es x y
callee_edge [] x y k e = cc
callee_edge (d ∷ es) x y k e = go (bytes_eq d.caller x) refl k e (callee_edge es x y)
  where
    later : HasEdge es x y → HasEdge (d ∷ es) x y
    later r = record { at = suc r.at; edge = r.edge; is_edge = r.is_edge; from = r.from; to = r.to }

    go : (b : Bool) → bytes_eq d.caller x ≡ b → (k : ℕ) → slice_get (if b then d.callee ∷ callees es x else callees es x) k ≡ Some y → ((j : ℕ) → slice_get (callees es x) j ≡ Some y → HasEdge es x y) → HasEdge (d ∷ es) x y
    go true t zero q ih = let same : d.callee ≡ y = cc in record { at = zero; edge = d; is_edge = refl; from = (bytes_eq-Decides d.caller x).0 t; to = same }
    go true t (suc j) q ih = later (ih j q)
    go false t j q ih = later (ih j q)

pub edge_callee : (es : List Edge) (x y : List ℕ) (P : List ℕ → Bool) → HasEdge es x y → P y ≡ true → list_any P (callees es x) ≡ true
edge_callee [] x y P h t = let e = h.is_edge in cc
edge_callee (d ∷ es) x y P h t = at h.at refl (λ r. edge_callee es x y P r t)
  where
    here : d ≡ h.edge → list_any P (callees (d ∷ es) x) ≡ true
    here e =
        let caller = (bytes_eq-Decides d.caller x).1 (ap (λ z. z.caller) e ∙ h.from) in
        ap (λ b. list_any P (if b then d.callee ∷ callees es x else callees es x)) caller ∙ or_left (P d.callee) (list_any P (callees es x)) (ap P (ap (λ z. z.callee) e ∙ h.to) ∙ t)

    there : list_any P (callees es x) ≡ true → (b : Bool) → list_any P (if b then d.callee ∷ callees es x else callees es x) ≡ true
    there r true = or_right (P d.callee) (list_any P (callees es x)) r
    there r false = r

    at : (j : ℕ) → h.at ≡ j → (HasEdge es x y → list_any P (callees es x) ≡ true) → list_any P (callees (d ∷ es) x) ≡ true
    at zero e ih = let q : Some d ≡ Some h.edge = ap (slice_get (d ∷ es)) (sym e) ∙ h.is_edge in let same : d ≡ h.edge = cc in here same
    at (suc j) e ih = there (ih (record { at = j; edge = h.edge; is_edge = ap (slice_get (d ∷ es)) (sym e) ∙ h.is_edge; from = h.from; to = h.to })) (bytes_eq d.caller x)

-- ---- edges and CALLs

edges_from : (x : List ℕ) (cs : List Called) (i : ℕ) (e : Edge) → slice_get (edges_of x cs) i ≡ Some e → (c : Called) × (slice_get cs i ≡ Some c) × (edge_of x c ≡ e)
edges_from x [] i e h = cc
edges_from x (c ∷ cs) zero e h = let same : edge_of x c ≡ e = cc in (c, refl, same)
edges_from x (c ∷ cs) (suc i) e h = edges_from x cs i e h

edges_to : (x : List ℕ) (cs : List Called) (i : ℕ) (c : Called) → slice_get cs i ≡ Some c → slice_get (edges_of x cs) i ≡ Some (edge_of x c)
edges_to x [] i c h = cc
edges_to x (d ∷ cs) zero c h = let same : d ≡ c = cc in ap (λ z. Some (edge_of x z)) same
edges_to x (d ∷ cs) (suc i) c h = edges_to x cs i c h

-- the CALL of an edge
pub record CallOf (ps : List ParsedTree) (sss : List (List SymbolTree)) (e : Edge) : Type 0 where
  pub at : ℕ
  pub parsed : ParsedTree
  pub table : List SymbolTree
  pub is_module : IsModule ps sss at parsed table
  pub is_named : parsed.module_read.name ≡ e.caller
  pub place : ℕ
  pub call : Called
  pub is_call : slice_get (calls_of parsed table) place ≡ Some call
  pub calls : call.callee ≡ e.callee

pub edge_call : (ps : List ParsedTree) (sss : List (List SymbolTree)) (i : ℕ) (e : Edge) → slice_get (all_edges (names_of ps) (all_calls ps sss)) i ≡ Some e → CallOf ps sss e
edge_call [] sss i e h = cc
edge_call (p ∷ ps) [] i e h = cc
edge_call (p ∷ ps) (ss ∷ sss) i e h =
    elim (in_part (edges_of p.module_read.name (calls_of p ss)) (all_edges (names_of ps) (all_calls ps sss)) i e h) [
      | inl a ↦ (let r = edges_from p.module_read.name (calls_of p ss) i e a in
          record { at = zero; parsed = p; table = ss; is_module = record { parsed = refl; table = refl }; is_named = ap (λ z. z.caller) r.2; place = i; call = r.0; is_call = r.1; calls = ap (λ z. z.callee) r.2 })
      | inr b ↦ (let r = edge_call ps sss b.0 e b.1 in
          record { at = suc r.at; parsed = r.parsed; table = r.table; is_module = record { parsed = r.is_module.parsed; table = r.is_module.table }; is_named = r.is_named; place = r.place; call = r.call; is_call = r.is_call; calls = r.calls })
    ]

pub call_edge : (ps : List ParsedTree) (sss : List (List SymbolTree)) (i : ℕ) (p : ParsedTree) (ss : List SymbolTree) → IsModule ps sss i p ss → (j : ℕ) (c : Called) → slice_get (calls_of p ss) j ≡ Some c → HasEdge (all_edges (names_of ps) (all_calls ps sss)) p.module_read.name c.callee
call_edge [] sss i p ss m j c h = let e = m.parsed in cc
call_edge (q ∷ ps) [] i p ss m j c h = let e = m.table in cc
call_edge (q ∷ ps) (tt' ∷ sss) i p ss m j c h = at i m.parsed m.table (λ k r. call_edge ps sss k p ss r j c h)
  where
    at : (k : ℕ) → slice_get (q ∷ ps) k ≡ Some p → slice_get (tt' ∷ sss) k ≡ Some ss → ((a : ℕ) → IsModule ps sss a p ss → HasEdge (all_edges (names_of ps) (all_calls ps sss)) p.module_read.name c.callee) → HasEdge (all_edges (names_of (q ∷ ps)) (all_calls (q ∷ ps) (tt' ∷ sss))) p.module_read.name c.callee
    at zero e f ih =
        let one : q ≡ p = cc in
        let two : tt' ≡ ss = cc in
        let is : slice_get (calls_of q tt') j ≡ Some c = ap (λ z. slice_get (calls_of z tt') j) one ∙ ap (λ z. slice_get (calls_of p z) j) two ∙ h in
        record { at = j; edge = edge_of q.module_read.name c; is_edge = first_part (edges_of q.module_read.name (calls_of q tt')) (all_edges (names_of ps) (all_calls ps sss)) j (edge_of q.module_read.name c) (edges_to q.module_read.name (calls_of q tt') j c is); from = ap (λ z. z.module_read.name) one; to = refl }
    at (suc k) e f ih =
        let r = ih k (record { parsed = e; table = f }) in
        let more = last_part (edges_of q.module_read.name (calls_of q tt')) (all_edges (names_of ps) (all_calls ps sss)) r.at r.edge r.is_edge in
        record { at = more.0; edge = r.edge; is_edge = more.1; from = r.from; to = r.to }

-- ---- the places of what is called

put_keeps : (k : ℕ) (ks : List ℕ) (c : ℕ) → holds ks c ≡ true → holds (place_put k ks) c ≡ true
put_keeps k ks c h = go (list_any (λ m. nat_eq m k) ks)
  where
    longer : (xs : List ℕ) → holds xs c ≡ true → holds (xs ++ k ∷ []) c ≡ true
    longer [] i = cc
    longer (x ∷ xs) i = inner (nat_eq x c) i (longer xs)
      where
        inner : (b : Bool) → (b || holds xs c) ≡ true → (holds xs c ≡ true → holds (xs ++ k ∷ []) c ≡ true) → (b || holds (xs ++ k ∷ []) c) ≡ true
        inner true i ih = refl
        inner false i ih = ih i

    go : (b : Bool) → holds (if b then ks else ks ++ k ∷ []) c ≡ true
    go true = h
    go false = longer ks h

pub put_has : (k : ℕ) (ks : List ℕ) → holds (place_put k ks) k ≡ true
put_has k ks = go (list_any (λ m. nat_eq m k) ks) refl
  where
    last : (xs : List ℕ) → holds (xs ++ k ∷ []) k ≡ true
    last [] = or_left (nat_eq k k) false (eq-eqb k k refl)
    last (x ∷ xs) = or_right (nat_eq x k) (holds (xs ++ k ∷ []) k) (last xs)

    go : (b : Bool) → list_any (λ m. nat_eq m k) ks ≡ b → holds (if b then ks else ks ++ k ∷ []) k ≡ true
    go true e = e
    go false e = last ks

found_keeps : (o : Option ℕ) (ks : List ℕ) (c : ℕ) → holds ks c ≡ true → holds (found_put o ks) c ≡ true
found_keeps None ks c h = h
found_keeps (Some k) ks c h = put_keeps k ks c h

places_keep : (cs : List Called) (names : List (List ℕ)) (ks : List ℕ) (c : ℕ) → holds ks c ≡ true → holds (places_of cs names ks) c ≡ true
places_keep [] names ks c h = h
places_keep (d ∷ cs) names ks c h = places_keep cs names (found_put (number_from 0 names d.callee) ks) c (found_keeps (number_from 0 names d.callee) ks c h)

places_have : (cs : List Called) (names : List (List ℕ)) (ks : List ℕ) (i k : ℕ) (c : Called) → slice_get cs i ≡ Some c → number_from 0 names c.callee ≡ Some k → holds (places_of cs names ks) k ≡ true
places_have [] names ks i k c e n = cc
places_have (d ∷ cs) names ks zero k c e n =
    let same : d ≡ c = cc in
    let number : number_from 0 names d.callee ≡ Some k = ap (λ z. number_from 0 names z.callee) same ∙ n in
    places_keep cs names (found_put (number_from 0 names d.callee) ks) k (ap (λ o. holds (found_put o ks) k) number ∙ put_has k ks)
places_have (d ∷ cs) names ks (suc i) k c e n = places_have cs names (found_put (number_from 0 names d.callee) ks) i k c e n

pub callees_have : (names : List (List ℕ)) (ps : List ParsedTree) (sss : List (List SymbolTree)) (i : ℕ) (p : ParsedTree) (ss : List SymbolTree) → IsModule ps sss i p ss → (j k : ℕ) (c : Called) → slice_get (calls_of p ss) j ≡ Some c → number_from 0 names c.callee ≡ Some k → holds (callees_at (all_places names (all_calls ps sss)) i) k ≡ true
callees_have names [] sss i p ss m j k c h n = let e = m.parsed in cc
callees_have names (q ∷ ps) [] i p ss m j k c h n = let e = m.table in cc
callees_have names (q ∷ ps) (tt' ∷ sss) i p ss m j k c h n = at i m.parsed m.table (λ a r. callees_have names ps sss a p ss r j k c h n)
  where
    at : (a : ℕ) → slice_get (q ∷ ps) a ≡ Some p → slice_get (tt' ∷ sss) a ≡ Some ss → ((b : ℕ) → IsModule ps sss b p ss → holds (callees_at (all_places names (all_calls ps sss)) b) k ≡ true) → holds (callees_at (all_places names (all_calls (q ∷ ps) (tt' ∷ sss))) a) k ≡ true
    at zero e f ih =
        let one : q ≡ p = cc in
        let two : tt' ≡ ss = cc in
        let is : slice_get (calls_of q tt') j ≡ Some c = ap (λ z. slice_get (calls_of z tt') j) one ∙ ap (λ z. slice_get (calls_of p z) j) two ∙ h in
        places_have (calls_of q tt') names [] j k c is n
    at (suc a) e f ih = ih a (record { parsed = e; table = f })
