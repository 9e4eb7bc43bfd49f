-- Results stand at the numbers of statements, one at each.
use Rattle.std.proofs.Common.{◌≡◌, ℕ, zero, suc, List, [], ◌∷◌, ◌++◌, Some, refl, sym, ap, ◌∙◌, subst}
use Rattle.std.specs.Prelude.{slice_get}
use Rattle.f77_ast.specs.Trees.{StmtTree, WhatTree, ArmTree, ArmTrees, ElseTree, LoopTree, StmtTrees}
use Rattle.f77_ast.specs.Trees as tree
use Rattle.f77_ast.specs.Store.{Content, Store, put, undefined}
use Rattle.f77_ast.specs.Runs.{Answer, Gave, Broke, store_of, first_of, rest_of}
use Rattle.f77_ast.specs.Plans.{Flow, Plan, Ends, Breaks, Look, Set, Hold, Forget, Show, Take, Within}
use Rattle.f77_ast.specs.Executions.{run_of, AtEnd}
use Rattle.f77_ast.specs.Symbols.{SymbolTree}
use Rattle.call_graph.specs.declared.graph.Graph.{Graph}
use Rattle.f77_ast.specs.declared.effect_set.EffectSet.{EffectSet}
use Rattle.f77_ast.specs.declared.results.At.{At}
use Rattle.f77_ast.specs.declared.results.Results.{Results}
use Rattle.f77_meaning.specs.Modules.{Known}
use Rattle.f77_meaning.specs.Occurrences.{Occurrence, Onward, Throughout, places_in, events_from, events_after}
use Rattle.effects.specs.List.{Callees, at as result_at, at_stmt, at_parts, at_list, at_arms, at_arm, at_else, at_loop}
use Rattle.effects.specs.Modules.{cumulated_of}
use Rattle.f77_ast.specs.StatementNumbers.{stmt_numbers, part_numbers, list_numbers, arms_numbers, arm_numbers, else_numbers, loop_numbers, StandOnce}
use Rattle.laws_programs.specs.Effects.Claims.{EffectsHold, GivesEffect, IsOfModule}
use Rattle.laws_programs.specs.Effects.Laws.{AllHold}
use Rattle.laws_programs.proofs.Effects.Once.{NamesOnce}

abbrev ids : List (At EffectSet) → List ℕ
ids [] = []
ids (a ∷ as') = a.id ∷ ids as'

ids_join : (xs ys : List (At EffectSet)) → ids (xs ++ ys) ≡ ids xs ++ ids ys
ids_join [] ys = refl
ids_join (x ∷ xs) ys = ap (λ ns. x.id ∷ ns) (ids_join xs ys)

id_at : (xs : List (At EffectSet)) (i : ℕ) (a : At EffectSet) → slice_get xs i ≡ Some a → slice_get (ids xs) i ≡ Some a.id
id_at [] i a e = cc
id_at (x ∷ xs) zero a e = let same : x ≡ a = cc in ap (λ y. Some y.id) same
id_at (x ∷ xs) (suc i) a e = id_at xs i a e

module _ (cs : Callees) (ss : List SymbolTree) where
  mutual
    ids_stmt : (s : StmtTree) → ids (at_stmt s cs ss) ≡ stmt_numbers s
    ids_stmt (tree.stmt n label w) = ap (λ ns. n ∷ ns) (ids_parts w)

    ids_parts : (w : WhatTree) → ids (at_parts w cs ss) ≡ part_numbers w
    ids_parts (tree.assign a b) = refl
    ids_parts (tree.block_if arms other) = ids_join (at_arms arms cs ss) (at_else other cs ss) ∙ (λ i. ids_arms arms i ++ ids_else other i)
    ids_parts (tree.logical_if e s) = ids_stmt s
    ids_parts (tree.do_loop l) = ids_loop l
    ids_parts (tree.call x es) = refl
    ids_parts (tree.goto l) = refl
    ids_parts tree.continue = refl
    ids_parts tree.return = refl
    ids_parts (tree.stop text) = refl
    ids_parts (tree.print es) = refl
    ids_parts (tree.read es) = refl

    ids_list : (body : StmtTrees) → ids (at_list body cs ss) ≡ list_numbers body
    ids_list tree.no_stmts = refl
    ids_list (tree.more_stmts s rest) = ids_join (at_stmt s cs ss) (at_list rest cs ss) ∙ (λ i. ids_stmt s i ++ ids_list rest i)

    ids_arms : (arms : ArmTrees) → ids (at_arms arms cs ss) ≡ arms_numbers arms
    ids_arms tree.no_arms = refl
    ids_arms (tree.more_arms a rest) = ids_join (at_arm a cs ss) (at_arms rest cs ss) ∙ (λ i. ids_arm a i ++ ids_arms rest i)

    ids_arm : (a : ArmTree) → ids (at_arm a cs ss) ≡ arm_numbers a
    ids_arm (tree.arm test body) = ids_list body

    ids_else : (other : ElseTree) → ids (at_else other cs ss) ≡ else_numbers other
    ids_else tree.no_else = refl
    ids_else (tree.otherwise body) = ids_list body

    ids_loop : (l : LoopTree) → ids (at_loop l cs ss) ≡ loop_numbers l
    ids_loop (tree.loop index first last step body) = ids_list body

-- ---- one result

gives_once : (r : Results EffectSet) (n : ℕ) (e f : EffectSet) → StandOnce (ids r.at) → GivesEffect r n e → GivesEffect r n f → e ≡ f
gives_once r zero e f once g h = sym g ∙ h
gives_once r (suc n) e f once g h =
    let same = once g.0 h.0 (suc n) (id_at r.at g.0 (result_at (suc n) e) g.1) (id_at r.at h.0 (result_at (suc n) f) h.1) in
    let both : Some (result_at (suc n) e) ≡ Some (result_at (suc n) f) = sym g.1 ∙ ap (slice_get r.at) same ∙ h.1 in
    let one : result_at (suc n) e ≡ result_at (suc n) f = cc in
    ap (λ a. a.value) one

pub all_hold : (ks : List Known) (g : Graph) (tables : List ℕ → Callees) → NamesOnce ks → ((i : ℕ) (k : Known) → slice_get ks i ≡ Some k → StandOnce (list_numbers k.read.body)) → (x : Occurrence) → IsOfModule ks g tables x → AllHold ks g tables x
all_hold ks g tables names numbers x h i k e is named gives =
    let at = names h.index i h.by k h.is_module is (h.is_named ∙ sym named) in
    let both : Some h.by ≡ Some k = sym h.is_module ∙ ap (slice_get ks) at ∙ is in
    let one : h.by ≡ k = cc in
    let mine : GivesEffect (cumulated_of k.read.body (tables k.read.name) k.symbols) x.spot.statement h.effect = subst (λ l. GivesEffect (cumulated_of l.read.body (tables l.read.name) l.symbols) x.spot.statement h.effect) one h.is_given in
    let once : StandOnce (ids (at_list k.read.body (tables k.read.name) k.symbols)) = subst StandOnce (sym (ids_list (tables k.read.name) k.symbols k.read.body)) (numbers i k is) in
    let same = gives_once (cumulated_of k.read.body (tables k.read.name) k.symbols) x.spot.statement h.effect e once mine gives in
    subst (λ f. EffectsHold ks g f x) same h.holds

-- ---- a claim that follows from another

module _ (C D : Occurrence → Type 0) (more : (x : Occurrence) → C x → D x) where
  end_more : (a : Answer Flow) (s : Store) (i : List Content) (P Q : Flow → Store → List Content → Type 0) → ((f : Flow) (z : Store) (j : List Content) → P f z j → Q f z j) → AtEnd a s i P → AtEnd a s i Q
  end_more (Gave f) s i P Q m h = m f s i h
  end_more (Broke b) s i P Q m h = tt

  pub throughout_more : (t : Plan) (s : Store) (i : List Content) (onward : Onward) → Throughout C t s i onward → Throughout D t s i onward
  throughout_more (Ends f) s i onward h = tt
  throughout_more (Breaks b) s i onward h = tt
  throughout_more (Look u k) s i onward h = throughout_more (k (s u)) s i onward h
  throughout_more (Set u c t) s i onward h = throughout_more t (put s u c) i onward h
  throughout_more (Hold u c t) s i onward h = throughout_more t (put s u c) i onward h
  throughout_more (Forget u t) s i onward h = throughout_more t (put s u (undefined (s u))) i onward h
  throughout_more (Show xs t) s i onward h = throughout_more t s i onward h
  throughout_more (Take k) s i onward h = throughout_more (k (first_of i)) s (rest_of i) onward h
  throughout_more (Within p at t k) s i onward h =
      let q = run_of t s i in
      let next : Onward = λ f z j. events_from (k f) onward z j in (
        more (record { spot = p; places = places_in p.statement t s i at; start = s; ran = q; later = events_after q next }) h.0,
        throughout_more t s i next h.1,
        end_more q.answer (store_of q.memory) q.input (λ f z j. Throughout C (k f) z j onward) (λ f z j. Throughout D (k f) z j onward) (λ f z j r. throughout_more (k f) z j onward r) h.2,
      )
