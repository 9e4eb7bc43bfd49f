-- The modules that a module calls, and what is known of each CALL.
use Rattle.std.proofs.Common.{◌≡◌, inl, inr, ℕ, zero, suc, ◌+◌, Bool, true, false, List, [], ◌∷◌, ◌++◌, length, Option, Some, None, Ok, refl, sym, ap, ◌∙◌, subst, arith}
use Rattle.std.specs.Prelude.{if◌then◌else◌, nat_eq, slice_get}
use Rattle.std.specs.List.{list_any}
use Rattle.std.proofs.lemmas.Bool.{or_left, eq-eqb}
use Rattle.f77_ast.specs.DeclTrees.{ParsedTree}
use Rattle.f77_ast.specs.Symbols.{SymbolTree, number_from}
use Rattle.call_graph.specs.declared.graph.Graph.{Graph}
use Rattle.call_graph.specs.declared.calls.Called.{Called}
use Rattle.call_graph.specs.Actuals.{all_fit}
use Rattle.call_graph.specs.Calls.{calls_of, all_calls}
use Rattle.call_graph.specs.Callees.{place_put, found_put, places_of, all_places}
use Rattle.call_graph.specs.Modules.{names_of}
use Rattle.call_graph.specs.Recursion.{callees_at}
use Rattle.call_graph.specs.Order.{holds}
use Rattle.call_graph.specs.Links.{callees_of, link_of}
use Rattle.f77_meaning.specs.Modules.{Known, known_of}
use Rattle.f77_meaning.specs.Laws.{FitsCall}
use Rattle.f77_meaning.proofs.LinkedLaws.{linked_calls_fit}
use Rattle.laws_programs.proofs.Effects.Members.{In, index_of}
use Rattle.laws_programs.proofs.Effects.Once.{known_at, own_places, once_of}
use Rattle.laws_programs.proofs.Storage.EdgeLaws.{put_has as put_itself}
use Rattle.fx_lists.proofs.Lists.{any_left}

-- ---- places of callees

put_holds : (k j : ℕ) (ks : List ℕ) → holds ks j ≡ true → holds (place_put k ks) j ≡ true
put_holds k j ks h = go (list_any (λ m. nat_eq m k) ks)
  where
    go : (b : Bool) → holds (if b then ks else ks ++ k ∷ []) j ≡ true
    go true = h
    go false = any_left (λ m. nat_eq m j) ks (k ∷ []) h

found_holds : (o : Option ℕ) (j : ℕ) (ks : List ℕ) → holds ks j ≡ true → holds (found_put o ks) j ≡ true
found_holds None j ks h = h
found_holds (Some k) j ks h = put_holds k j ks h

places_hold : (cs : List Called) (names : List (List ℕ)) (ks : List ℕ) (j : ℕ) → holds ks j ≡ true → holds (places_of cs names ks) j ≡ true
places_hold [] names ks j h = h
places_hold (c ∷ cs) names ks j h = places_hold cs names (found_put (number_from 0 names c.callee) ks) j (found_holds (number_from 0 names c.callee) j ks h)

places_have : (cs : List Called) (names : List (List ℕ)) (ks : List ℕ) (c : Called) (j : ℕ) → In c cs → number_from 0 names c.callee ≡ Some j → holds (places_of cs names ks) j ≡ true
places_have [] names ks c j h e = absurd h
places_have (d ∷ cs) names ks c j (inl same) e =
    let q : number_from 0 names d.callee ≡ Some j = ap (λ x. number_from 0 names x.callee) same ∙ e in
    places_hold cs names (found_put (number_from 0 names d.callee) ks) j (subst (λ o. holds (found_put o ks) j ≡ true) (sym q) (put_itself j ks))
places_have (d ∷ cs) names ks c j (inr h) e = places_have cs names (found_put (number_from 0 names d.callee) ks) c j h e

-- the row of a module
row_of : (names : List (List ℕ)) (ps : List ParsedTree) (sss : List (List SymbolTree)) (i : ℕ) (p : ParsedTree) (ss : List SymbolTree) → slice_get ps i ≡ Some p → slice_get sss i ≡ Some ss → callees_at (all_places names (all_calls ps sss)) i ≡ places_of (calls_of p ss) names []
row_of names [] sss i p ss e h = cc
row_of names (q ∷ ps) [] i p ss e h = cc
row_of names (q ∷ ps) (t ∷ sss) zero p ss e h =
    let one : q ≡ p = cc in
    let two : t ≡ ss = cc in
    λ j. places_of (calls_of (one j) (two j)) names []
row_of names (q ∷ ps) (t ∷ sss) (suc i) p ss e h = row_of names ps sss i p ss e h

pub known_here : (ps : List ParsedTree) (sss : List (List SymbolTree)) (i : ℕ) (p : ParsedTree) (ss : List SymbolTree) → slice_get ps i ≡ Some p → slice_get sss i ≡ Some ss → slice_get (known_of ps sss) i ≡ Some (record { read = p.module_read; symbols = ss })
known_here [] sss i p ss e h = cc
known_here (q ∷ ps) [] i p ss e h = cc
known_here (q ∷ ps) (t ∷ sss) zero p ss e h =
    let one : q ≡ p = cc in
    let two : t ≡ ss = cc in
    λ j. Some (record { read = (one j).module_read; symbols = two j })
known_here (q ∷ ps) (t ∷ sss) (suc i) p ss e h = known_here ps sss i p ss e h

-- ---- what a CALL calls

-- the module that a CALL of a module calls, and the only one
pub record Callee (ps : List ParsedTree) (sss : List (List SymbolTree)) (i : ℕ) (c : Called) : Type 0 where
  pub at : ℕ
  pub by : Known
  pub is_module : slice_get (known_of ps sss) at ≡ Some by
  pub is_named : by.read.name ≡ c.callee
  pub count : length c.actuals ≡ length by.read.dummies
  pub types : all_fit c.actuals by.symbols ≡ true
  pub is_called : holds (callees_at (callees_of ps sss) i) at ≡ true
  pub only : (j : ℕ) (l : Known) → slice_get (known_of ps sss) j ≡ Some l → l.read.name ≡ c.callee → by ≡ l

module _ (ps : List ParsedTree) (sss : List (List SymbolTree)) (g : Graph) (e : link_of ps sss ≡ Ok g) where
  numbered_one : (i : ℕ) (p : ParsedTree) → slice_get ps i ≡ Some p → number_from 0 (names_of ps) p.module_read.name ≡ Some i
  numbered_one i p h = own_places 0 (names_of ps) ps i p (once_of ps sss g e) h ∙ (let z : 0 + i ≡ i = omega arith in ap Some z)

  pub callee_of : (i : ℕ) (p : ParsedTree) (ss : List SymbolTree) → slice_get ps i ≡ Some p → slice_get sss i ≡ Some ss → (c : Called) → In c (calls_of p ss) → Callee ps sss i c
  callee_of i p ss is has c h =
      let at = index_of c (calls_of p ss) h in
      let f : FitsCall ps sss c = linked_calls_fit ps sss g e i p ss is has at.0 c at.1 in
      let number : number_from 0 (names_of ps) c.callee ≡ Some f.at = ap (number_from 0 (names_of ps)) (sym f.is_named) ∙ numbered_one f.at f.callee f.is_module in
      record {
        at = f.at;
        by = record { read = f.callee.module_read; symbols = f.table };
        is_module = known_here ps sss f.at f.callee f.table f.is_module f.has_table;
        is_named = f.is_named;
        count = f.count;
        types = f.types;
        is_called = subst (λ ks. holds ks f.at ≡ true) (sym (row_of (names_of ps) ps sss i p ss is has)) (places_have (calls_of p ss) (names_of ps) [] c f.at h number);
        only = λ j l m n.
            let q = known_at ps sss j l m in
            let there : number_from 0 (names_of ps) c.callee ≡ Some j = ap (number_from 0 (names_of ps)) (sym n ∙ ap (λ x. x.name) (sym q.3)) ∙ numbered_one j q.0 q.1 in
            let same : Some f.at ≡ Some j = sym number ∙ there in
            let z : f.at ≡ j = cc in
            let here : Known = record { read = f.callee.module_read; symbols = f.table } in
            let y : Some here ≡ Some l = sym (known_here ps sss f.at f.callee f.table f.is_module f.has_table) ∙ ap (slice_get (known_of ps sss)) z ∙ m in
            cc;
      }
