-- The statements of a DO WHILE with the GO TO behind them: they end by the GO TO as their transformer says, and never normally.
use Rattle.std.proofs.Common.{◌≡◌, ℕ, zero, suc, List, [], ◌∷◌, ◌||◌, Option, Some, None, Bool, true, false, refl, sym, ap, ◌∙◌, subst, nat_eq, true≢false}
use Rattle.std.specs.Prelude.{if◌then◌else◌}
use Rattle.std.proofs.lemmas.Bool.{or_left, or_parts}
use Rattle.affine_systems.specs.declared.row.System.{System}
use Rattle.f77_ast.specs.Trees.{ExprTrees, StmtTree, WhatTree, StmtTrees}
use Rattle.f77_ast.specs.Trees as tree
use Rattle.f77_ast.specs.Store.{Store}
use Rattle.f77_ast.specs.Steps.{OutOfTurns}
use Rattle.f77_ast.specs.Places.{Places}
use Rattle.f77_ast.specs.Writes.{Locks}
use Rattle.f77_ast.specs.Plans.{Flow, Normal, Jump, Returned, Stopped, Plan, Ends, Breaks}
use Rattle.f77_ast.specs.Executions.{Claim}
use Rattle.f77_ast.specs.Lists.{has_label, from_label, go_on, in_order, with_jumps, list_plan}
use Rattle.f77_ast.specs.Statements.{Scope, spot, statement_plan, parts}
use Rattle.f77_ast.specs.declared.variable.Unit.{Unit as BlockUnit}
use Rattle.affine_forms.specs.Claims.{numbers_of}
use Rattle.preconditions.specs.transformer_algebra.declared.transformer.Transformer.{Transformer}
use Rattle.preconditions.specs.transformer_algebra.Cells.{has, others}
use Rattle.preconditions.specs.transformer_algebra.Transformers.{without, all_cells}
use Rattle.preconditions.specs.transformer_algebra.Claims.{Scene, HoldsAt}
use Rattle.preconditions.specs.call_translation.Scopes.{ScopeTree}
use Rattle.preconditions.specs.transformers.Given.{Callees}
use Rattle.preconditions.specs.transformers.Jumps.{stmt_has, list_has, labels, goes_to, unstructured}
use Rattle.preconditions.specs.transformers.Lists.{in_order as in_order_of, in_any_order, each_at}
use Rattle.preconditions.specs.transformers.Whiles.{does_such, goes_back, all_before_last, while_body}
use Rattle.preconditions.specs.transformers.Statement.{stmt_transformer, what_transformer, each_transformer}
use Rattle.preconditions.specs.Statement.{after, before_last}
use Rattle.preconditions.specs.WhileParts.{last_begins}
use Rattle.laws_analyses.specs.Statements.Good.{Good}
use Rattle.laws_analyses.proofs.Statements.Rules.{good_ends, good_more, good_then, good_at}
use Rattle.laws_analyses.proofs.Statements.ListRules.{jumps_good}
use Rattle.laws_analyses.specs.Statements.Leads.{stmt_leads, each_leads}
use Rattle.laws_analyses.specs.Statements.Activation.{Stayed, Done, Jumps}
use Rattle.laws_analyses.specs.Statements.Placed.{Found, Either, PlacedEach, PlacedAll, PlacedList}
use Rattle.laws_analyses.proofs.Statements.LeadLaws.{in_others, leads_has}
use Rattle.laws_analyses.proofs.Statements.Rows.{labelled, added, or_idle, row_from, row_in_order, SoFar, so_far_done, so_far_stayed, so_far_end, row_stayed}
use Rattle.laws_analyses.proofs.Statements.Never.{NotNormal, jumps_never, good_never}
use Rattle.laws_analyses.proofs.Statements.Backs.{goto_is, parts_never}
use Rattle.laws_analyses.proofs.Statements.Lists.{Inc, e, goes_in, Stmt_ended, list_found, I, QU, Verified_all, loose_holds, Straight}
use Rattle.fx_lists.proofs.Booleans.{clash as clashes}
use Rattle.fx_lists.proofs.Numbers.{nat_eq_same}
use Rattle.f77_ast.specs.Shapes.{is_return}

module _ (C : Claim) (m : ScopeTree) (cs : Callees) (r : Found) (covers : List ℕ → ExprTrees → System → Type 0) (scalar : List ℕ → Bool) (sc : Scope) (at : Places) (far : BlockUnit → Bool) (place : BlockUnit → ℕ) where
  abbrev Sc : Scene
  Sc = e C m cs r covers scalar sc at far place

  abbrev Hs : System → Store → Type 0
  Hs p z = HoldsAt Sc p (numbers_of z)

  -- from the store s to an end with the store z; L: the label of the GO TO behind them
  abbrev pub BackEnded : ℕ → Transformer → System → (List ℕ → Bool) → Bool → (ℕ → Bool) → Store → Flow → Store → Type 0
  BackEnded L t q goes ret still s Normal z = ⊥
  BackEnded L t q goes ret still s (Jump l) z = (l ≡ L → Done Sc t q still s z) × Jumps goes l × Stayed Sc t still s z
  BackEnded L t q goes ret still s Returned z = (ret ≡ true) × Stayed Sc t still s z
  BackEnded L t q goes ret still s Stopped z = Unit {0}

  abbrev pub Body_ended : ℕ → StmtTrees → System → (ℕ → Bool) → Store → Flow → Store → Type 0
  Body_ended L ss P still s = BackEnded L (while_body ss (each_transformer ss m cs false)) (last_begins ss m r.transformer P) (λ ls. goes_in C m cs r covers scalar sc at far place ss ls) (list_has is_return ss) still s

  -- of statements of a list in order, where some came before
  abbrev pub Row_back : ℕ → StmtTrees → StmtTrees → Option Transformer → System → (ℕ → Bool) → Store → Flow → Store → Type 0
  Row_back L ss all acc P still s = BackEnded L (row_from acc (all_before_last (each_transformer ss m cs false))) (before_last ss m r.transformer P) (λ ls. goes_in C m cs r covers scalar sc at far place all ls) (list_has is_return all) still s

  done_stayed : (t : Transformer) (q : System) (still : ℕ → Bool) (s z : Store) → Done Sc t q still s z → Stayed Sc t still s z
  done_stayed t q still s z d = record { kept = d.does.kept; steady = d.steady }

  -- ---- the GO TO

  abbrev GoneTo : ℕ → Store → Flow → Store → Type 0
  GoneTo k z Normal y = ⊥
  GoneTo k z (Jump l) y = (l ≡ k) × (y ≡ z)
  GoneTo k z Returned y = ⊥
  GoneTo k z Stopped y = ⊥

  module _ (L : ℕ) (all : StmtTrees) (jump : ℕ → Plan) (locked : Locks) (still : ℕ → Bool) (acc : Option Transformer) (P : System) (z0 z : Store) where
    abbrev LastGood : StmtTree → Type 0
    LastGood s = Straight C m cs r covers scalar sc at far place all false (tree.more_stmts s tree.no_stmts) → Inc m cs false (tree.more_stmts s tree.no_stmts) all → SoFar Sc still acc z0 z → Hs P z → Good C (statement_plan s sc at locked) z (Stmt_ended C m cs r covers scalar sc at far place s false P still z) → Good C (in_order jump (parts all sc at locked) (parts (tree.more_stmts s tree.no_stmts) sc at locked)) z (Row_back L (tree.more_stmts s tree.no_stmts) all acc P still z0)

    module _ (n : ℕ) (label : Option ℕ) (k : ℕ) where
      abbrev now : StmtTree
      now = tree.stmt n label (tree.goto k)

      abbrev only : StmtTrees
      only = tree.more_stmts now tree.no_stmts

      abbrev R : Flow → Store → Type 0
      R = Row_back L only all acc P still z0

      abbrev on : Flow → Plan
      on = go_on jump (parts all sc at locked) (Ends Normal)

      module _ (straight : Straight C m cs r covers scalar sc at far place all false only) (inc : Inc m cs false only all) (sf : SoFar Sc still acc z0 z) (hp : Hs P z) where
        -- no statement directly in the list has the label
        outside : has (labels all) k ≡ true → ⊥
        outside h = clashes (list_has (goes_to (labels all)) all) (inc.jumps (labels all) (or_left (has (labels all) k || false) false (or_left (has (labels all) k) false h))) straight.0

        leads : (ls : List ℕ) → has ls k ≡ true → has (labels all) k ≡ false → each_leads all (others ls (labels all)) ≡ true
        leads ls h q = inc.leads (others ls (labels all)) (or_left (has (others ls (labels all)) k) false (in_others ls (labels all) k h q))

        ended : Done Sc (or_idle acc) P still z0 z
        ended = so_far_end Sc still acc P z0 z sf hp

        gone : has (labels all) k ≡ false → R (Jump k) z
        gone q = ((λ same. ended), (λ ls h. leads ls h q), done_stayed (or_idle acc) P still z0 z ended)

        jumps_out : Good C (on (Jump k)) z R
        jumps_out = go (has_label k (parts all sc at locked)) refl
          where
            go : (b : Bool) → has_label k (parts all sc at locked) ≡ b → Good C (if b then jump k else Ends (Jump k)) z R
            go true q = absurd (outside (sym (labelled k all sc at locked) ∙ q))
            go false q = good_ends C (Jump k) z R (gone (sym (labelled k all sc at locked) ∙ q))

        next : (f : Flow) (y : Store) → GoneTo k z f y → Good C (on f) y R
        next Normal y h = absurd h
        next (Jump l) y h = subst (λ x. Good C (on (Jump x)) y R) (sym h.0) (subst (λ x. Good C (on (Jump k)) x R) (sym h.1) jumps_out)
        next Returned y h = absurd h
        next Stopped y h = absurd h

        goto_back : Good C (statement_plan now sc at locked) z (Stmt_ended C m cs r covers scalar sc at far place now false P still z) → Good C (in_order jump (parts all sc at locked) (parts only sc at locked)) z R
        goto_back g =
            good_then C (statement_plan now sc at locked) on z R
            (good_more C (statement_plan now sc at locked) z (GoneTo k z) (λ f y. Good C (on f) y R) next
            (good_at C (spot sc.module_name n) at (Ends (Jump k)) z (GoneTo k z) (λ i. (g.inside i).0) (good_ends C (Jump k) z (GoneTo k z) (refl, refl))))

    pub last_back : (s : StmtTree) → does_such (goes_to (L ∷ [])) s ≡ true → LastGood s
    last_back (tree.stmt n label v) h = subst (λ x. LastGood (tree.stmt n label x)) (sym (goto_is L v h)) (goto_back n label L)

  -- ---- one of the others, and what follows

  module _ (L n : ℕ) (label : Option ℕ) (v : WhatTree) (r2 : StmtTree) (rest all : StmtTrees) (jump : ℕ → Plan) (locked : Locks) (still : ℕ → Bool) (acc : Option Transformer) (P : System) (z0 z : Store) where
    abbrev here : StmtTree
    here = tree.stmt n label v

    abbrev behind : StmtTrees
    behind = tree.more_stmts r2 rest

    abbrev T : Transformer
    T = what_transformer v m cs false

    abbrev A : Transformer
    A = added acc T

    abbrev P' : System
    P' = after here m r.transformer P

    abbrev Rb : Flow → Store → Type 0
    Rb = Row_back L behind all (Some A) P' still z0

    abbrev then_on : Flow → Plan
    then_on = go_on jump (parts all sc at locked) (in_order jump (parts all sc at locked) (parts behind sc at locked))

    back_next : Straight C m cs r covers scalar sc at far place all false (tree.more_stmts here behind) → Inc m cs false (tree.more_stmts here behind) all → SoFar Sc still acc z0 z → stmt_leads here (L ∷ []) ≡ false → Good C (statement_plan here sc at locked) z (Stmt_ended C m cs r covers scalar sc at far place here false P still z) → ((y : Store) → SoFar Sc still (Some A) z0 y → Hs P' y → Good C (in_order jump (parts all sc at locked) (parts behind sc at locked)) y Rb) → Good C (in_order jump (parts all sc at locked) (parts (tree.more_stmts here behind) sc at locked)) z (Row_back L (tree.more_stmts here behind) all acc P still z0)
    back_next straight inc sf aside g onward =
        good_then C (statement_plan here sc at locked) then_on z Rb
        (good_more C (statement_plan here sc at locked) z (Stmt_ended C m cs r covers scalar sc at far place here false P still z) (λ f y. Good C (then_on f) y Rb) next g)
      where
        stayed : (y : Store) → Stayed Sc T still z y → Stayed Sc (row_from (Some A) (all_before_last (each_transformer behind m cs false))) still z0 y
        stayed y d = row_stayed Sc still A (all_before_last (each_transformer behind m cs false)) z0 y (so_far_stayed Sc still acc T z0 z y sf d)

        gone : (ls : List ℕ) → stmt_leads here ls ≡ true → list_has (goes_to ls) all ≡ true
        gone ls h = inc.jumps ls (or_left (stmt_has (goes_to ls) here) (list_has (goes_to ls) behind) (leads_has here ls ls (λ l q. q) h))

        lifted : (ls : List ℕ) → stmt_leads here ls ≡ true → each_leads all ls ≡ true
        lifted ls h = inc.leads ls (or_left (stmt_leads here ls) (each_leads behind ls) h)

        not_back : {X : Type 0} (l : ℕ) → Jumps (λ ls. stmt_leads here ls) l → l ≡ L → X
        not_back l k q = clashes (stmt_leads here (L ∷ [])) (k (L ∷ []) (or_left (nat_eq L l) false (ap (λ x. nat_eq L x) q ∙ nat_eq_same L))) aside

        jumps_out : (l : ℕ) (y : Store) → Jumps (λ ls. stmt_leads here ls) l → Stayed Sc (row_from (Some A) (all_before_last (each_transformer behind m cs false))) still z0 y → Good C (then_on (Jump l)) y Rb
        jumps_out l y k st = go (has_label l (parts all sc at locked)) refl
          where
            go : (b : Bool) → has_label l (parts all sc at locked) ≡ b → Good C (if b then jump l else Ends (Jump l)) y Rb
            go true q = clashes (list_has (goes_to (labels all)) all) (gone (labels all) (k (labels all) (sym (labelled l all sc at locked) ∙ q))) straight.0
            go false q = good_ends C (Jump l) y Rb (not_back l k, (λ ls h. lifted (others ls (labels all)) (k (others ls (labels all)) (in_others ls (labels all) l h (sym (labelled l all sc at locked) ∙ q)))), st)

        next : (f : Flow) (y : Store) → Stmt_ended C m cs r covers scalar sc at far place here false P still z f y → Good C (then_on f) y Rb
        next Normal y d = onward y (so_far_done Sc still acc T z0 z y sf d.does d.steady) d.after
        next (Jump l) y d = jumps_out l y d.0 (stayed y d.1)
        next Returned y d = good_ends C Returned y Rb (inc.rets (or_left (stmt_has is_return here) (list_has is_return behind) d.0), stayed y d.1)
        next Stopped y d = good_ends C Stopped y Rb tt

  pub one_back : (L : ℕ) (s r2 : StmtTree) (rest all : StmtTrees) (jump : ℕ → Plan) (locked : Locks) (still : ℕ → Bool) (acc : Option Transformer) (P : System) (z0 z : Store) → Straight C m cs r covers scalar sc at far place all false (tree.more_stmts s (tree.more_stmts r2 rest)) → Inc m cs false (tree.more_stmts s (tree.more_stmts r2 rest)) all → SoFar Sc still acc z0 z → stmt_leads s (L ∷ []) ≡ false → Good C (statement_plan s sc at locked) z (Stmt_ended C m cs r covers scalar sc at far place s false P still z) → ((y : Store) → SoFar Sc still (Some (added acc (stmt_transformer s m cs false))) z0 y → Hs (after s m r.transformer P) y → Good C (in_order jump (parts all sc at locked) (parts (tree.more_stmts r2 rest) sc at locked)) y (Row_back L (tree.more_stmts r2 rest) all (Some (added acc (stmt_transformer s m cs false))) (after s m r.transformer P) still z0)) → Good C (in_order jump (parts all sc at locked) (parts (tree.more_stmts s (tree.more_stmts r2 rest)) sc at locked)) z (Row_back L (tree.more_stmts s (tree.more_stmts r2 rest)) all acc P still z0)
  one_back L (tree.stmt n label v) r2 rest all jump locked still acc P z0 z = back_next L n label v r2 rest all jump locked still acc P z0 z

  -- ---- the list, from its two cases

  module _ (L : ℕ) (ss : StmtTrees) (back : goes_back L ss ≡ true) (P : System) (locked : Locks) (still : ℕ → Bool) (z : Store) (hp : Hs P z) where
    abbrev ts : List Transformer
    ts = each_transformer ss m cs false

    abbrev goes : List ℕ → Bool
    goes ls = goes_in C m cs r covers scalar sc at far place ss ls

    abbrev plan : Plan
    plan = list_plan sc.turns (parts ss sc at locked)

    -- it is unstructured: what it does not change is as it was at its arrival
    module _ (path : each_at r.transformer ss ≡ ts) where
      abbrev Loose : Flow → Store → Type 0
      Loose = BackEnded L (in_any_order ts) (without (all_cells ts) P) goes (list_has is_return ss) still z

      any_done : (y : Store) → Stayed Sc (in_any_order ts) still z y → Done Sc (in_any_order ts) (without (all_cells ts) P) still z y
      any_done y h = record {
        does = record { relates = λ p st en. tt; kept = h.kept };
        after = loose_holds C m cs r covers scalar sc at far place ss false P locked still z hp y h;
        steady = h.steady;
      }

      loose_ended : (f : Flow) (y : Store) → QU C m cs r covers scalar sc at far place ss false P locked still z hp f y × NotNormal f → Loose f y
      loose_ended Normal y h = h.1
      loose_ended (Jump l) y h = ((λ same. any_done y h.0.1), h.0.0, h.0.1)
      loose_ended Returned y h = (h.0.0, h.0.1)
      loose_ended Stopped y h = tt

      loose_back : Verified_all C m cs r covers scalar sc at far place ss false P locked still z hp 0 (parts ss sc at locked) → Good C plan z Loose
      loose_back v =
          good_more C plan z (λ f y. QU C m cs r covers scalar sc at far place ss false P locked still z hp f y × NotNormal f) Loose loose_ended
          (good_never C plan z (QU C m cs r covers scalar sc at far place ss false P locked still z hp) (jumps_never sc.turns (parts ss sc at locked) (parts ss sc at locked) (parts_never sc at locked L ss back) (parts_never sc at locked L ss back))
          (jumps_good C (I C m cs r covers scalar sc at far place ss false P locked still z hp) (QU C m cs r covers scalar sc at far place ss false P locked still z hp) (parts ss sc at locked) v sc.turns 0 (parts ss sc at locked) v z
          (record { kept = record { cells = λ c t g. refl; foreign = λ u t g. refl }; steady = λ u f. refl })))

    abbrev Rows : Type 0
    Rows = (jump : ℕ → Plan) → Straight C m cs r covers scalar sc at far place ss false ss → PlacedEach r covers m cs scalar ss false P → Good C (in_order jump (parts ss sc at locked) (parts ss sc at locked)) z (Row_back L ss ss None P still z)

    in_jumps : Rows → (n : ℕ) → Straight C m cs r covers scalar sc at far place ss false ss → PlacedEach r covers m cs scalar ss false P → Good C (with_jumps n (parts ss sc at locked) (parts ss sc at locked)) z (Row_back L ss ss None P still z)
    in_jumps row zero q p = row (λ l. Breaks OutOfTurns) q p
    in_jumps row (suc n) q p = row (λ l. with_jumps n (parts ss sc at locked) (from_label l (parts ss sc at locked))) q p

    pub body_from : PlacedList r covers m cs scalar ss false P → Rows → (PlacedAll r covers m cs scalar ss false (without (all_cells ts) P) → Verified_all C m cs r covers scalar sc at far place ss false P locked still z hp 0 (parts ss sc at locked)) → Good C plan z (Body_ended L ss P still z)
    body_from pl row loosely = go (unstructured false ss) refl pl
      where
        path : each_at r.transformer ss ≡ ts
        path = list_found C m cs r covers scalar sc at far place ss false P pl

        straight : unstructured false ss ≡ false → Straight C m cs r covers scalar sc at far place ss false ss
        straight q = ((or_parts (list_has (goes_to (labels ss)) ss) false q).0, λ h. absurd (true≢false (sym h)))

        go : (c : Bool) → unstructured false ss ≡ c → Either c (PlacedAll r covers m cs scalar ss false (without (if c then in_any_order (each_at r.transformer ss) else in_order_of (each_at r.transformer ss)).cells P)) (PlacedEach r covers m cs scalar ss false P) → Good C plan z (BackEnded L (if c then in_any_order ts else in_order_of (all_before_last ts)) (if c then without (if c then in_any_order (each_at r.transformer ss) else in_order_of (each_at r.transformer ss)).cells P else before_last ss m r.transformer P) goes (list_has is_return ss) still z)
        go true q p =
            let p' = subst (λ xs. PlacedAll r covers m cs scalar ss false (without (all_cells xs) P)) path p in
            subst (λ xs. Good C plan z (BackEnded L (in_any_order ts) (without (all_cells xs) P) goes (list_has is_return ss) still z)) (sym path)
            (loose_back path (loosely p'))
        go false q p =
            subst (λ x. Good C plan z (BackEnded L x (before_last ss m r.transformer P) goes (list_has is_return ss) still z)) (row_in_order (all_before_last ts))
            (in_jumps row sc.turns (straight q) p)
