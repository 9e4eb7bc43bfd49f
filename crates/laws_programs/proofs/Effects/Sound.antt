-- Modules that are read, linked and summarised are sound.
use Rattle.std.proofs.Common.{◌≡◌, ◌⊎◌, inl, inr, ⊎_elim, ℕ, zero, suc, ◌<◌, Bool, true, false, List, [], ◌∷◌, ◌++◌, append-nil, length, Some, Ok, refl, sym, ap, ◌∙◌, subst, arith}
use Rattle.std.specs.Prelude.{◌||◌, nat_eq, slice_get}
use Rattle.std.specs.List.{list_all}
use Rattle.std.proofs.lemmas.Bool.{and_parts, eqb-true}
use Rattle.f77_ast.specs.Trees.{ExprTrees}
use Rattle.f77_ast.specs.DeclTrees.{ParsedTree}
use Rattle.f77_ast.specs.Symbols.{SymbolTree}
use Rattle.call_graph.specs.declared.graph.Graph.{Graph}
use Rattle.call_graph.specs.declared.calls.Called.{Called}
use Rattle.call_graph.specs.Actuals.{actuals_of, all_fit}
use Rattle.call_graph.specs.Calls.{calls_of, all_calls}
use Rattle.call_graph.specs.Callees.{all_places}
use Rattle.call_graph.specs.Modules.{names_of}
use Rattle.call_graph.specs.Recursion.{callees_at}
use Rattle.call_graph.specs.Order.{holds, order_of}
use Rattle.call_graph.specs.Links.{callees_of, link_of}
use Rattle.call_graph.specs.Laws.{IsBottomUp}
use Rattle.call_graph.proofs.CycleLaws.{in_order}
use Rattle.f77_ast.specs.Variables.{union}
use Rattle.f77_ast.specs.Effects.{no_effect}
use Rattle.f77_meaning.specs.Modules.{Known, known_of}
use Rattle.effects.specs.List.{Callees, with_list}
use Rattle.effects.specs.Modules.{with_symbols}
use Rattle.laws_programs.specs.Effects.Tables.{is_plain}
use Rattle.laws_programs.specs.Effects.Trees.{ListFits}
use Rattle.laws_programs.specs.Effects.Laws.{summary_for, AreSummarised, AreRead}
use Rattle.laws_programs.proofs.Effects.Named.{of_filtered}
use Rattle.laws_programs.proofs.Effects.Members.{In, index_of}
use Rattle.laws_programs.proofs.Effects.Plain.{PlainEffect}
use Rattle.laws_programs.proofs.Effects.PlainStatements.{PlainCallee, plain_list}
use Rattle.laws_programs.proofs.Effects.Plains.{plain_summary}
use Rattle.laws_programs.proofs.Effects.Calls.{AllGoOut, FitsAll}
use Rattle.laws_programs.proofs.Effects.Inside.{goes_out_key}
use Rattle.laws_programs.proofs.Effects.Bodies.{Asked, IsSound}
use Rattle.laws_programs.proofs.Effects.Linking.{list_asked}
use Rattle.laws_programs.proofs.Effects.Once.{known_at}
use Rattle.laws_programs.proofs.Effects.Callees.{Callee, callee_of}
use Rattle.call_graph.specs.Visible.{is_visible_to_callers}

reads_out : (tables : List ℕ → Callees) (l : Known) → AllGoOut l (summary_for tables l).value.reads
reads_out tables l v s = of_filtered (is_visible_to_callers l.symbols) (goes_out_key l.symbols) v (union (with_list l.read.body (tables l.read.name) l.symbols no_effect).reads (with_symbols l.symbols l.symbols [])) s

writes_out : (tables : List ℕ → Callees) (l : Known) → AllGoOut l (summary_for tables l).value.writes
writes_out tables l v s = of_filtered (is_visible_to_callers l.symbols) (goes_out_key l.symbols) v (with_list l.read.body (tables l.read.name) l.symbols no_effect).writes s

-- ---- lists of places

pub all_has : (before cs : List ℕ) (j : ℕ) → list_all (λ c. holds before c) cs ≡ true → holds cs j ≡ true → holds before j ≡ true
all_has before [] j h i = cc
all_has before (c ∷ cs) j h i = go (nat_eq c j) refl i (all_has before cs j (and_parts (holds before c) (list_all (λ d. holds before d) cs) h).1)
  where
    go : (b : Bool) → nat_eq c j ≡ b → (b || holds cs j) ≡ true → (holds cs j ≡ true → holds before j ≡ true) → holds before j ≡ true
    go true e q ih = subst (λ k. holds before k ≡ true) (eqb-true c j e) (and_parts (holds before c) (list_all (λ d. holds before d) cs) h).0
    go false e q ih = ih q

pub one_or_before : (before : List ℕ) (k j : ℕ) → holds (before ++ k ∷ []) j ≡ true → (holds before j ≡ true) ⊎ (k ≡ j)
one_or_before [] k j h = go (nat_eq k j) refl h
  where
    go : (b : Bool) → nat_eq k j ≡ b → (b || false) ≡ true → (false ≡ true) ⊎ (k ≡ j)
    go true e q = inr (eqb-true k j e)
    go false e q = cc
one_or_before (c ∷ cs) k j h = go (nat_eq c j) h (one_or_before cs k j)
  where
    go : (b : Bool) → (b || holds (cs ++ k ∷ []) j) ≡ true → (holds (cs ++ k ∷ []) j ≡ true → (holds cs j ≡ true) ⊎ (k ≡ j)) → ((b || holds cs j) ≡ true) ⊎ (k ≡ j)
    go true q ih = inl refl
    go false q ih = ih q

pub one_on : (before : List ℕ) (k : ℕ) (after : List ℕ) → before ++ k ∷ after ≡ (before ++ k ∷ []) ++ after
one_on [] k after = refl
one_on (c ∷ cs) k after = ap (λ xs. c ∷ xs) (one_on cs k after)

-- what holds of a module where it holds of all that it calls holds of all modules
from_callees : (css : List (List ℕ)) (order : List ℕ) (P : ℕ → Type 0) → IsBottomUp css order → ((k : ℕ) → ((j : ℕ) → holds (callees_at css k) j ≡ true → P j) → P k) →
    (after before : List ℕ) → order ≡ before ++ after → ((j : ℕ) → holds before j ≡ true → P j) → (j : ℕ) → holds order j ≡ true → P j
from_callees css order P up step [] before e so_far = λ j h. so_far j (subst (λ xs. holds xs j ≡ true) (e ∙ append-nil before) h)
from_callees css order P up step (k ∷ after) before e so_far =
    let here : P k = step k (λ j h. so_far j (all_has before (callees_at css k) j (up before k after e).1 h)) in
    from_callees css order P up step after (before ++ k ∷ []) (e ∙ one_on before k after) (λ j h. ⊎_elim (λ i. so_far j i) (λ same. subst P same here) (one_or_before before k j h))

pub below_rows : (names : List (List ℕ)) (ps : List ParsedTree) (sss : List (List SymbolTree)) (i : ℕ) (p : ParsedTree) (ss : List SymbolTree) → slice_get ps i ≡ Some p → slice_get sss i ≡ Some ss → i < length (all_places names (all_calls ps sss))
below_rows names [] sss i p ss e h = cc
below_rows names (q ∷ ps) [] i p ss e h = cc
below_rows names (q ∷ ps) (t ∷ sss) zero p ss e h = omega arith
below_rows names (q ∷ ps) (t ∷ sss) (suc i) p ss e h = let r = below_rows names ps sss i p ss e h in omega (arith, r)

-- ---- the modules of a program

module _ (ps : List ParsedTree) (sss : List (List SymbolTree)) (g : Graph) (tables : List ℕ → Callees) (same : length ps ≡ length sss) (e : link_of ps sss ≡ Ok g) (read : AreRead (known_of ps sss)) (summarised : AreSummarised ps sss tables) where
  abbrev ks : List Known
  ks = known_of ps sss

  abbrev PlainAt : ℕ → Type 0
  PlainAt i = (k : Known) → slice_get ks i ≡ Some k → PlainEffect (summary_for tables k).value

  abbrev PlainBelow : ℕ → Type 0
  PlainBelow i = (j : ℕ) → holds (callees_at (callees_of ps sss) i) j ≡ true → PlainAt j

  module _ (i : ℕ) (k : Known) (is : slice_get ks i ≡ Some k) (plain : PlainBelow i) where
    -- what linking and the summaries say of a CALL
    abbrev Said : Called → Type 0
    Said c = (q : Callee ps sss i c) × (tables k.read.name c.callee ≡ Some (summary_for tables q.by))

    said : (p : ParsedTree) → slice_get ps i ≡ Some p → slice_get sss i ≡ Some k.symbols → p.module_read ≡ k.read → (c : Called) → In c (calls_of p k.symbols) → Said c
    said p h m n c stands =
        let q = callee_of ps sss g e i p k.symbols h m c stands in
        let at = index_of c (calls_of p k.symbols) stands in
        (q, ap (λ x. tables x.name c.callee) (sym n) ∙ summarised i p k.symbols h m at.0 c at.1 q.at q.by q.is_module q.is_named)

    fits_all : (x : List ℕ) (es : ExprTrees) (n : ℕ) → Said (record { at = n; callee = x; actuals = actuals_of es k.symbols }) → FitsAll ks tables k x es
    fits_all x es n s j l m named =
        let q = s.0 in
        let one : q.by ≡ l = q.only j l m named in
        let r = read j l m in
        record {
          count = q.count ∙ ap (λ y. length y.read.dummies) one;
          types = ap (λ y. all_fit (actuals_of es k.symbols) y.symbols) (sym one) ∙ q.types;
          lead = r.dummies;
          plain = r.name;
          summary = ap (tables k.read.name) named ∙ s.1 ∙ ap (λ y. Some (summary_for tables y)) one;
          reads_out = reads_out tables l;
          writes_out = writes_out tables l;
        }

    asked : (x : List ℕ) (es : ExprTrees) (n : ℕ) → Said (record { at = n; callee = x; actuals = actuals_of es k.symbols }) → Asked ks tables k x es
    asked x es n s =
        let q = s.0 in
        let plain_name : is_plain x ≡ true = subst (λ y. is_plain y ≡ true) q.is_named (read q.at q.by q.is_module).name in
        (fits_all x es n s, subst (PlainCallee k.symbols x) (sym s.1) (plain_name, plain q.at q.is_called q.by q.is_module))

    body_asked : ListFits k.read.body k.symbols (Asked ks tables k)
    body_asked =
        let p = known_at ps sss i k is in
        let all : (c : Called) → In c (calls_of p.0 k.symbols) → Said c = said p.0 p.1 p.2 p.3 in
        list_asked k.symbols (Asked ks tables k) Said asked k.read.body [] (read i k is).body
        (subst (λ m. (c : Called) → In c (Rattle.call_graph.specs.Calls.with_list m.body k.symbols []) → Said c) p.3 all)

    plain_here : PlainEffect (summary_for tables k).value
    plain_here =
        plain_summary k.symbols (with_list k.read.body (tables k.read.name) k.symbols no_effect)
        (plain_list k.symbols (tables k.read.name) (Asked ks tables k) (λ x es a. a.1) k.read.body body_asked no_effect (record { reads = tt; writes = tt }))

  plain_all : (i : ℕ) → PlainAt i
  plain_all i k is =
      let order = in_order ps sss g same e in
      let p = known_at ps sss i k is in
      from_callees (callees_of ps sss) (order_of (callees_of ps sss)) PlainAt order.1 (λ j below l m. plain_here j l m below) (order_of (callees_of ps sss)) [] refl (λ j h. cc) i
      (order.2 i (below_rows (names_of ps) ps sss i p.0 k.symbols p.1 p.2)) k is

  pub sound : (i : ℕ) (k : Known) → slice_get ks i ≡ Some k → IsSound ks tables k
  sound i k is =
      let r = read i k is in
      record { index = i; is_module = is; lead = r.dummies; bounds = r.bounds; body = body_asked i k is (λ j h. plain_all j); summary = plain_all i k is }
