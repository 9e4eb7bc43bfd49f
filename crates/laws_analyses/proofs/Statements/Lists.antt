-- Lists of statements, from what their statements do.
use Rattle.std.proofs.Common.{◌≡◌, ℕ, zero, suc, ◌<◌, List, [], ◌∷◌, ◌||◌, ◌&&◌, Option, Some, None, Bool, true, false, refl, sym, ap, ap₂, ◌∙◌, subst, arith, true≢false}
use Rattle.std.specs.Prelude.{if◌then◌else◌}
use Rattle.std.proofs.lemmas.Bool.{or_left, or_right, or_parts, and_parts}
use Rattle.affine_systems.specs.declared.row.System.{System}
use Rattle.f77_ast.specs.Trees.{ExprTrees, StmtTree, WhatTree, StmtTrees}
use Rattle.f77_ast.specs.Trees as tree
use Rattle.f77_ast.specs.Store.{Content, Store}
use Rattle.f77_ast.specs.Steps.{OutOfTurns}
use Rattle.f77_ast.specs.Runs.{Ran}
use Rattle.f77_ast.specs.Places.{Places}
use Rattle.f77_ast.specs.Writes.{Locks}
use Rattle.f77_ast.specs.Plans.{Flow, Normal, Jump, Returned, Stopped, Plan, Ends, Breaks}
use Rattle.f77_ast.specs.Executions.{run_of, AtEndOf, Claim}
use Rattle.f77_ast.specs.Lists.{Part, has_label, from_label, go_on, in_order, with_jumps, list_plan}
use Rattle.f77_ast.specs.Statements.{Scope, spot, statement_plan, parts}
use Rattle.f77_meaning.specs.Occurrences.{places_in, is_normal}
use Rattle.f77_ast.specs.declared.variable.Unit.{Unit as BlockUnit}
use Rattle.affine_forms.specs.Claims.{numbers_of}
use Rattle.preconditions.specs.transformer_algebra.declared.transformer.Transformer.{Transformer}
use Rattle.preconditions.specs.transformer_algebra.Cells.{has, others}
use Rattle.preconditions.specs.transformer_algebra.Transformers.{without, all_cells}
use Rattle.preconditions.specs.transformer_algebra.Claims.{Scene, HoldsAt, Kept, Does}
use Rattle.preconditions.specs.transformer_algebra.Laws.{In, here, there}
use Rattle.preconditions.proofs.TransformerAlgebra.RuleLaws.{holds_without, kept_in}
use Rattle.preconditions.specs.call_translation.Scopes.{ScopeTree}
use Rattle.preconditions.specs.transformers.Jumps.{stmt_has, parts_have, list_has, labels, goes_to, is_end, returns_early, early_return, unstructured}
use Rattle.preconditions.specs.transformers.Lists.{in_order as in_order_of, in_any_order, list_of, each_at, list_at}
use Rattle.preconditions.specs.transformers.Statement.{stmt_transformer, what_transformer, each_transformer}
use Rattle.preconditions.specs.transformers.Given.{Callees}
use Rattle.preconditions.specs.Statement.{throughout, after, after_each, after_list}
use Rattle.laws_analyses.specs.Statements.Good.{Ending, Good}
use Rattle.laws_analyses.proofs.Statements.Ends.{more}
use Rattle.laws_analyses.proofs.Statements.Rules.{good_ends, good_more, good_then}
use Rattle.laws_analyses.proofs.Statements.ListRules.{Choice, Next_holds, Verified, jumps_good}
use Rattle.laws_analyses.specs.Statements.Leads.{stmt_leads, each_leads, list_leads}
use Rattle.laws_analyses.specs.Statements.Activation.{scene_at, Still, Stayed, Done, Jumps, Ended}
use Rattle.laws_analyses.specs.Statements.Placed.{Found, Either, PlacedAt, Placed, PlacedEach, PlacedAll, PlacedList}
use Rattle.laws_analyses.proofs.Statements.LeadLaws.{in_others, leads_has}
use Rattle.laws_analyses.proofs.Statements.Rows.{labelled, returned_last, added, row_from, row_in_order, SoFar, so_far_done, so_far_stayed, so_far_end, row_stayed}
use Rattle.fx_lists.proofs.Booleans.{clash as clashes}
use Rattle.f77_ast.specs.Shapes.{is_return}

-- statements from one of a list on, among all of it
pub record Inc (m : ScopeTree) (cs : Callees) (whole : Bool) (ss all : StmtTrees) : Type 0 where
  pub leads : (ls : List ℕ) → each_leads ss ls ≡ true → each_leads all ls ≡ true
  pub jumps : (ls : List ℕ) → list_has (goes_to ls) ss ≡ true → list_has (goes_to ls) all ≡ true
  pub rets : list_has is_return ss ≡ true → list_has is_return all ≡ true
  pub inside : (t : Transformer) → In t (each_transformer ss m cs whole) → In t (each_transformer all m cs whole)

pub inc_all : (m : ScopeTree) (cs : Callees) (whole : Bool) (all : StmtTrees) → Inc m cs whole all all
inc_all m cs whole all = record { leads = λ ls h. h; jumps = λ ls h. h; rets = λ h. h; inside = λ t i. i }

pub inc_next : (m : ScopeTree) (cs : Callees) (whole : Bool) (s : StmtTree) (rest all : StmtTrees) → Inc m cs whole (tree.more_stmts s rest) all → Inc m cs whole rest all
inc_next m cs whole s rest all i = record {
  leads = λ ls h. i.leads ls (or_right (stmt_leads s ls) (each_leads rest ls) h);
  jumps = λ ls h. i.jumps ls (or_right (stmt_has (goes_to ls) s) (list_has (goes_to ls) rest) h);
  rets = λ h. i.rets (or_right (stmt_has is_return s) (list_has is_return rest) h);
  inside = λ t h. i.inside t (there h);
}

abbrev pub own_of : Bool → StmtTree → Bool
own_of last (tree.stmt n label v) = last && is_return v

module _ (C : Claim) (m : ScopeTree) (cs : Callees) (r : Found) (covers : List ℕ → ExprTrees → System → Type 0) (scalar : List ℕ → Bool) (sc : Scope) (at : Places) (far : BlockUnit → Bool) (place : BlockUnit → ℕ) where
  abbrev pub e : Scene
  e = scene_at m at far place

  abbrev pub H : System → Store → Type 0
  H p z = HoldsAt e p (numbers_of z)

  abbrev pub E : Transformer → System → (List ℕ → Bool) → Bool → Bool → (ℕ → Bool) → Store → Flow → Store → Type 0
  E = Ended e

  abbrev pub goes_in : StmtTrees → List ℕ → Bool
  goes_in ss ls = list_leads ss ls

  -- how a statement ends
  abbrev pub Stmt_ended : StmtTree → Bool → System → (ℕ → Bool) → Store → Flow → Store → Type 0
  Stmt_ended s last P still z = E (stmt_transformer s m cs last) (after s m r.transformer P) (λ ls. stmt_leads s ls) (stmt_has is_return s) (own_of last s) still z

  -- what it is to claim a statement's execution
  abbrev pub Claimed : Type 0
  Claimed = (k : ℕ) (s : Store) (q : Ran Flow) → HoldsAt e (r.pre (suc k)) (numbers_of s) → AtEndOf q (λ f z j. is_normal (suc k) f ≡ true → Does e (r.transformer (suc k)) (numbers_of s) (numbers_of z)) → C (spot sc.module_name (suc k)) at s q

  pub claim_of : Claimed → (n : ℕ) (v : WhatTree) (last : Bool) (P q : System) (goes : List ℕ → Bool) (ret own : Bool) (still : ℕ → Bool) (t : Plan) (z : Store) → PlacedAt r covers m cs scalar n v last P → H P z → Ending t z (E (what_transformer v m cs last) q goes ret own still z) → (i : List Content) → C (spot sc.module_name n) (places_in n t z i at) z (run_of t z i)
  claim_of claimed zero v last P q goes ret own still t z pl h en i = (let k = pl.numbered in absurd (omega (arith, k)))
  claim_of claimed (suc k) v last P q goes ret own still t z pl h en i =
      claimed k z (run_of t z i) (subst (λ p. HoldsAt e p (numbers_of z)) (sym pl.pre) h)
      (more (run_of t z i) (λ f y j. E (what_transformer v m cs last) q goes ret own still z f y) (λ f y j. is_normal (suc k) f ≡ true → Does e (r.transformer (suc k)) (numbers_of z) (numbers_of y)) (λ f y j d n. one f y d n) (en i))
    where
      one : (f : Flow) (y : Store) → E (what_transformer v m cs last) q goes ret own still z f y → is_normal (suc k) f ≡ true → Does e (r.transformer (suc k)) (numbers_of z) (numbers_of y)
      one Normal y d n = subst (λ x. Does e x (numbers_of z) (numbers_of y)) (sym pl.transformer) d.does
      one (Jump l) y d n = absurd (true≢false (sym n))
      one Returned y d n = absurd (true≢false (sym n))
      one Stopped y d n = absurd (true≢false (sym n))

  -- ---- results that are placed

  each_found : (ss : StmtTrees) (whole : Bool) (P : System) → PlacedEach r covers m cs scalar ss whole P → each_at r.transformer ss ≡ each_transformer ss m cs whole
  each_found tree.no_stmts whole P pl = refl
  each_found (tree.more_stmts (tree.stmt n label v) rest) whole P pl = ap₂ (λ x xs. x ∷ xs) pl.0.0.transformer (each_found rest whole (after (tree.stmt n label v) m r.transformer P) pl.1)

  all_found : (ss : StmtTrees) (whole : Bool) (P : System) → PlacedAll r covers m cs scalar ss whole P → each_at r.transformer ss ≡ each_transformer ss m cs whole
  all_found tree.no_stmts whole P pl = refl
  all_found (tree.more_stmts (tree.stmt n label v) rest) whole P pl = ap₂ (λ x xs. x ∷ xs) pl.0.0.transformer (all_found rest whole P pl.1)

  pub list_found : (ss : StmtTrees) (whole : Bool) (P : System) → PlacedList r covers m cs scalar ss whole P → each_at r.transformer ss ≡ each_transformer ss m cs whole
  list_found ss whole P pl = go (unstructured whole ss) pl
    where
      go : (c : Bool) → Either c (PlacedAll r covers m cs scalar ss whole (throughout whole ss r.transformer P)) (PlacedEach r covers m cs scalar ss whole P) → each_at r.transformer ss ≡ each_transformer ss m cs whole
      go true p = all_found ss whole (throughout whole ss r.transformer P) p
      go false p = each_found ss whole P p

  -- ---- a list that is unstructured: where each statement begins, what the list does not change is as it was at its arrival

  module _ (all : StmtTrees) (whole : Bool) (P : System) (locked : Locks) (still : ℕ → Bool) (s : Store) (hp : H P s) where
    abbrev pub ts : List Transformer
    ts = each_transformer all m cs whole

    abbrev pub U : Transformer
    U = in_any_order ts

    abbrev pub I : ℕ → Store → Type 0
    I k z = Stayed e U still s z

    abbrev pub QU : Flow → Store → Type 0
    QU = E U (without U.cells P) (goes_in all) (list_has is_return all) whole still s

    abbrev pub Verified_all : ℕ → List Part → Type 0
    Verified_all k qs = Verified C I QU (parts all sc at locked) k qs

    pub loose_holds : (z : Store) → Stayed e U still s z → H (without U.cells P) z
    loose_holds z h = holds_without e U.cells U.foreign P (numbers_of s) (numbers_of z) hp h.kept

    pub loose_done : (z : Store) → Stayed e U still s z → Done e U (without U.cells P) still s z
    loose_done z h = record { does = record { relates = λ p st en. tt; kept = h.kept }; after = loose_holds z h; steady = h.steady }

    loose_more : (t : Transformer) (y z : Store) → In t ts → Stayed e U still s y → Kept e t.cells t.foreign (numbers_of y) (numbers_of z) → Still still y z → Stayed e U still s z
    loose_more t y z i h k st =
        let n = kept_in e t ts (numbers_of y) (numbers_of z) i k in
        record { kept = record { cells = λ c q g. n.cells c q g ∙ h.kept.cells c q g; foreign = λ u q g. n.foreign u q g ∙ h.kept.foreign u q g }; steady = λ u f. st u f ∙ h.steady u f }

    pub loose_next : (k : ℕ) (t : Transformer) (q : System) (goes : List ℕ → Bool) (ret own : Bool) → In t ts → ((ls : List ℕ) → goes ls ≡ true → each_leads all ls ≡ true) → (ret ≡ true → list_has is_return all ≡ true) → (y : Store) → Stayed e U still s y → (f : Flow) (z : Store) → E t q goes ret own still y f z → Next_holds C I QU (parts all sc at locked) k f z
    loose_next k t q goes ret own i gm rm y h Normal z d = loose_more t y z i h d.does.kept d.steady
    loose_next k t q goes ret own i gm rm y h (Jump l) z d = go (has_label l (parts all sc at locked)) refl
      where
        st : Stayed e U still s z
        st = loose_more t y z i h d.1.kept d.1.steady

        go : (b : Bool) → has_label l (parts all sc at locked) ≡ b → Choice b (Stayed e U still s z) (QU (Jump l) z)
        go true p = st
        go false p = ((λ ls n. gm (others ls (labels all)) (d.0 (others ls (labels all)) (in_others ls (labels all) l n (sym (labelled l all sc at locked) ∙ p)))), st)
    loose_next k t q goes ret own i gm rm y h Returned z d = let st = loose_more t y z i h d.1.kept d.1.steady in (rm d.0, st, λ o. loose_done z st)
    loose_next k t q goes ret own i gm rm y h Stopped z d = tt

  -- ---- a list in order

  abbrev pub Straight : StmtTrees → Bool → StmtTrees → Type 0
  Straight all whole ss = (list_has (goes_to (labels all)) all ≡ false) × (whole ≡ true → early_return ss ≡ false)

  -- the end of the list
  at_last : (rest : StmtTrees) (whole : Bool) (still : ℕ → Bool) (a : Transformer) (q : System) (z0 y : Store) → is_end rest ≡ true → SoFar e still (Some a) z0 y → H q y → Done e (row_from (Some a) (each_transformer rest m cs whole)) (after_each rest m r.transformer q) still z0 y
  at_last tree.no_stmts whole still a q z0 y k sf h = so_far_end e still (Some a) q z0 y sf h
  at_last (tree.more_stmts s rest) whole still a q z0 y k sf h = absurd (true≢false (sym k))

  and_both : (a b c : Bool) → a ≡ true → b ≡ true → c ≡ true → ((a && b) && c) ≡ true
  and_both true true c p q h = h
  and_both true false c p q h = absurd (true≢false (sym q))
  and_both false b c p q h = absurd (true≢false (sym p))

  -- one statement, and what follows
  module _ (n : ℕ) (label : Option ℕ) (v : WhatTree) (rest all : StmtTrees) (whole : Bool) (jump : ℕ → Plan) (locked : Locks) (still : ℕ → Bool) (acc : Option Transformer) (P : System) (z0 z : Store) where
    abbrev now : StmtTree
    now = tree.stmt n label v

    abbrev T : Transformer
    T = what_transformer v m cs (whole && is_end rest)

    abbrev A : Transformer
    A = added acc T

    abbrev P' : System
    P' = after now m r.transformer P

    abbrev R : Flow → Store → Type 0
    R = E (row_from (Some A) (each_transformer rest m cs whole)) (after_each rest m r.transformer P') (goes_in all) (list_has is_return all) whole still z0

    abbrev on : Flow → Plan
    on = go_on jump (parts all sc at locked) (in_order jump (parts all sc at locked) (parts rest sc at locked))

    row_next : Straight all whole (tree.more_stmts now rest) → Inc m cs whole (tree.more_stmts now rest) all → SoFar e still acc z0 z → Good C (statement_plan now sc at locked) z (Stmt_ended now (whole && is_end rest) P still z) → ((y : Store) → SoFar e still (Some A) z0 y → H P' y → Good C (in_order jump (parts all sc at locked) (parts rest sc at locked)) y R) → Good C (in_order jump (parts all sc at locked) (parts (tree.more_stmts now rest) sc at locked)) z (E (row_from acc (each_transformer (tree.more_stmts now rest) m cs whole)) (after_each (tree.more_stmts now rest) m r.transformer P) (goes_in all) (list_has is_return all) whole still z0)
    row_next straight inc sf g onward =
        good_then C (statement_plan now sc at locked) on z R
        (good_more C (statement_plan now sc at locked) z (Stmt_ended now (whole && is_end rest) P still z) (λ f y. Good C (on f) y R) next g)
      where
        stayed : (y : Store) → Stayed e T still z y → Stayed e (row_from (Some A) (each_transformer rest m cs whole)) still z0 y
        stayed y d = row_stayed e still A (each_transformer rest m cs whole) z0 y (so_far_stayed e still acc T z0 z y sf d)

        gone : (ls : List ℕ) → stmt_leads now ls ≡ true → list_has (goes_to ls) all ≡ true
        gone ls h = inc.jumps ls (or_left (stmt_has (goes_to ls) now) (list_has (goes_to ls) rest) (leads_has now ls ls (λ l q. q) h))

        lifted : (ls : List ℕ) → stmt_leads now ls ≡ true → each_leads all ls ≡ true
        lifted ls h = inc.leads ls (or_left (stmt_leads now ls) (each_leads rest ls) h)

        jumps_out : (l : ℕ) (y : Store) → Jumps (λ ls. stmt_leads now ls) l → Stayed e (row_from (Some A) (each_transformer rest m cs whole)) still z0 y → Good C (on (Jump l)) y R
        jumps_out l y k st = go (has_label l (parts all sc at locked)) refl
          where
            go : (b : Bool) → has_label l (parts all sc at locked) ≡ b → Good C (if b then jump l else Ends (Jump l)) y R
            go true q = clashes (list_has (goes_to (labels all)) all) (gone (labels all) (k (labels all) (sym (labelled l all sc at locked) ∙ q))) straight.0
            go false q = good_ends C (Jump l) y R ((λ ls n. lifted (others ls (labels all)) (k (others ls (labels all)) (in_others ls (labels all) l n (sym (labelled l all sc at locked) ∙ q)))), st)

        own_done : (y : Store) → Done e T P' still z y → is_end rest ≡ true → Done e (row_from (Some A) (each_transformer rest m cs whole)) (after_each rest m r.transformer P') still z0 y
        own_done y x k = at_last rest whole still A P' z0 y k (so_far_done e still acc T z0 z y sf x.does x.steady) x.after

        returned : (y : Store) → stmt_has is_return now ≡ true → ((whole && is_end rest) && is_return v ≡ true → Done e T P' still z y) → whole ≡ true → Done e (row_from (Some A) (each_transformer rest m cs whole)) (after_each rest m r.transformer P') still z0 y
        returned y h d wh =
            let o = or_parts (returns_early (is_end rest) now) (early_return rest) (straight.1 wh) in
            let k = returned_last v rest o.0 h in
            own_done y (d (and_both whole (is_end rest) (is_return v) wh k.1 k.0)) k.1

        next : (f : Flow) (y : Store) → Stmt_ended now (whole && is_end rest) P still z f y → Good C (on f) y R
        next Normal y d = onward y (so_far_done e still acc T z0 z y sf d.does d.steady) d.after
        next (Jump l) y d = jumps_out l y d.0 (stayed y d.1)
        next Returned y d = good_ends C Returned y R (inc.rets (or_left (stmt_has is_return now) (list_has is_return rest) d.0), stayed y d.1, returned y d.0 d.2)
        next Stopped y d = good_ends C Stopped y R tt

  pub row_one : (s : StmtTree) (rest all : StmtTrees) (whole : Bool) (jump : ℕ → Plan) (locked : Locks) (still : ℕ → Bool) (acc : Option Transformer) (P : System) (z0 z : Store) → Straight all whole (tree.more_stmts s rest) → Inc m cs whole (tree.more_stmts s rest) all → SoFar e still acc z0 z → Good C (statement_plan s sc at locked) z (Stmt_ended s (whole && is_end rest) P still z) → (Straight all whole rest → (y : Store) → SoFar e still (Some (added acc (stmt_transformer s m cs (whole && is_end rest)))) z0 y → H (after s m r.transformer P) y → Good C (in_order jump (parts all sc at locked) (parts rest sc at locked)) y (E (row_from (Some (added acc (stmt_transformer s m cs (whole && is_end rest)))) (each_transformer rest m cs whole)) (after_each rest m r.transformer (after s m r.transformer P)) (goes_in all) (list_has is_return all) whole still z0)) → Good C (in_order jump (parts all sc at locked) (parts (tree.more_stmts s rest) sc at locked)) z (E (row_from acc (each_transformer (tree.more_stmts s rest) m cs whole)) (after_each (tree.more_stmts s rest) m r.transformer P) (goes_in all) (list_has is_return all) whole still z0)
  row_one (tree.stmt n label v) rest all whole jump locked still acc P z0 z straight inc sf g onward =
      row_next n label v rest all whole jump locked still acc P z0 z straight inc sf g (onward (straight.0, λ h. (or_parts (returns_early (is_end rest) (tree.stmt n label v)) (early_return rest) (straight.1 h)).1))

  -- ---- a list, from its two cases

  pub list_from : (ss : StmtTrees) (whole : Bool) (P : System) (locked : Locks) (still : ℕ → Bool) (z : Store) (hp : H P z) → PlacedList r covers m cs scalar ss whole P → ((jump : ℕ → Plan) → Straight ss whole ss → PlacedEach r covers m cs scalar ss whole P → Good C (in_order jump (parts ss sc at locked) (parts ss sc at locked)) z (E (row_from None (each_transformer ss m cs whole)) (after_each ss m r.transformer P) (goes_in ss) (list_has is_return ss) whole still z)) → (PlacedAll r covers m cs scalar ss whole (without (all_cells (each_transformer ss m cs whole)) P) → Verified_all ss whole P locked still z hp 0 (parts ss sc at locked)) → Good C (list_plan sc.turns (parts ss sc at locked)) z (E (list_of whole ss (each_transformer ss m cs whole)) (after_list whole ss m r.transformer P) (goes_in ss) (list_has is_return ss) whole still z)
  list_from ss whole P locked still z hp pl row loosely = go (unstructured whole ss) refl pl
    where
      straight : unstructured whole ss ≡ false → Straight ss whole ss
      straight q = let o = or_parts (list_has (goes_to (labels ss)) ss) (whole && early_return ss) q in (o.0, λ h. early whole (early_return ss) h o.1)
        where
          early : (a b : Bool) → a ≡ true → (a && b) ≡ false → b ≡ false
          early true b h k = k
          early false b h k = absurd (true≢false (sym h))

      in_jumps : (n : ℕ) → Straight ss whole ss → PlacedEach r covers m cs scalar ss whole P → Good C (with_jumps n (parts ss sc at locked) (parts ss sc at locked)) z (E (row_from None (each_transformer ss m cs whole)) (after_each ss m r.transformer P) (goes_in ss) (list_has is_return ss) whole still z)
      in_jumps zero q p = row (λ l. Breaks OutOfTurns) q p
      in_jumps (suc n) q p = row (λ l. with_jumps n (parts ss sc at locked) (from_label l (parts ss sc at locked))) q p

      go : (c : Bool) → unstructured whole ss ≡ c → Either c (PlacedAll r covers m cs scalar ss whole (without (if c then in_any_order (each_at r.transformer ss) else in_order_of (each_at r.transformer ss)).cells P)) (PlacedEach r covers m cs scalar ss whole P) → Good C (list_plan sc.turns (parts ss sc at locked)) z (E (if c then in_any_order (each_transformer ss m cs whole) else in_order_of (each_transformer ss m cs whole)) (if c then without (if c then in_any_order (each_at r.transformer ss) else in_order_of (each_at r.transformer ss)).cells P else after_each ss m r.transformer P) (goes_in ss) (list_has is_return ss) whole still z)
      go true q p =
          let path = all_found ss whole (without (all_cells (each_at r.transformer ss)) P) p in
          let p' = subst (λ xs. PlacedAll r covers m cs scalar ss whole (without (all_cells xs) P)) path p in
          subst (λ xs. Good C (list_plan sc.turns (parts ss sc at locked)) z (E (in_any_order (each_transformer ss m cs whole)) (without (all_cells xs) P) (goes_in ss) (list_has is_return ss) whole still z)) (sym path)
          (jumps_good C (I ss whole P locked still z hp) (QU ss whole P locked still z hp) (parts ss sc at locked) (loosely p') sc.turns 0 (parts ss sc at locked) (loosely p') z
          (record { kept = record { cells = λ c t g. refl; foreign = λ u t g. refl }; steady = λ u f. refl }))
      go false q p =
          subst (λ x. Good C (list_plan sc.turns (parts ss sc at locked)) z (E x (after_each ss m r.transformer P) (goes_in ss) (list_has is_return ss) whole still z)) (row_in_order (each_transformer ss m cs whole))
          (in_jumps sc.turns (straight q) p)
