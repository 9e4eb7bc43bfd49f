-- A DO WHILE: the arrivals at its labelled block IF, one after the other.
use Rattle.std.proofs.Common.{◌≡◌, ℕ, zero, suc, List, [], ◌||◌, Option, Some, None, Bool, true, false, refl, sym, ap, ◌∙◌, subst, nat_eq, ◌⊎◌, ⊎_elim, inl, inr, true≢false}
use Rattle.std.specs.Prelude.{if◌then◌else◌}
use Rattle.affine_systems.specs.declared.row.System.{System}
use Rattle.hull_projection.specs.Clean.{clean}
use Rattle.hull_projection.proofs.CleanLaws.{clean_same}
use Rattle.hull_projection.proofs.HullLaws.{hull_holds}
use Rattle.f77_ast.specs.Trees.{ExprTrees, StmtTree, WhatTree, StmtTrees}
use Rattle.f77_ast.specs.Trees as tree
use Rattle.f77_ast.specs.Store.{Store}
use Rattle.f77_ast.specs.Places.{Places}
use Rattle.f77_ast.specs.Writes.{Locks}
use Rattle.f77_ast.specs.Plans.{Flow, Normal, Jump, Returned, Stopped, Plan, Ends}
use Rattle.f77_ast.specs.Executions.{Claim}
use Rattle.f77_ast.specs.Lists.{Part, list_plan}
use Rattle.f77_ast.specs.Statements.{Scope, spot, statement_plan, execution, parts}
use Rattle.f77_ast.specs.Shapes.{is_return}
use Rattle.f77_ast.specs.declared.variable.Unit.{Unit as BlockUnit}
use Rattle.affine_forms.specs.Conditions.{condition_of}
use Rattle.affine_forms.specs.Claims.{numbers_of}
use Rattle.preconditions.specs.transformer_algebra.declared.transformer.Transformer.{Transformer}
use Rattle.preconditions.specs.transformer_algebra.Cells.{has, others}
use Rattle.preconditions.specs.transformer_algebra.Transformers.{test, apply, iterate}
use Rattle.preconditions.specs.transformer_algebra.Claims.{Scene, HoldsAt, Chain, none_yet, then_iteration, Tracks}
use Rattle.preconditions.proofs.TransformerAlgebra.CellLaws.{left_out, right_out, unit_left, unit_right}
use Rattle.preconditions.proofs.TransformerAlgebra.RuleLaws.{does_then, does_test, holds_apply}
use Rattle.preconditions.proofs.TransformerAlgebra.TurnLaws.{kept_chain, does_closed}
use Rattle.preconditions.specs.call_translation.Scopes.{ScopeTree}
use Rattle.preconditions.specs.transformers.Given.{Callees}
use Rattle.preconditions.specs.transformers.Jumps.{list_has, labels}
use Rattle.preconditions.specs.transformers.Lists.{each_at, list_of}
use Rattle.preconditions.specs.transformers.Whiles.{WhileTree, goes_back, while_in, while_body, while_iteration, while_does, while_or}
use Rattle.preconditions.specs.transformers.Statement.{each_transformer, inner_transformers, arm_list_transformer}
use Rattle.preconditions.specs.Statement.{if_true, if_false, each_while, while_begins, while_done, while_ends, at_goto, after_list, after_arm_list}
use Rattle.preconditions.specs.WhileParts.{last_begins}
use Rattle.preconditions.proofs.Transformers.WhileLaws.{back_alone}
use Rattle.laws_analyses.specs.Statements.Good.{Good}
use Rattle.laws_analyses.proofs.Statements.Rules.{good_ends, good_more, good_at}
use Rattle.laws_analyses.proofs.Statements.ListRules.{Choice, Next_holds, Verified, jumps_good}
use Rattle.laws_analyses.specs.Statements.Leads.{each_leads}
use Rattle.laws_analyses.specs.Statements.Activation.{NamesFit, scene_at, Still, Stayed, Done, Jumps}
use Rattle.laws_analyses.specs.Statements.Placed.{Found, PlacedOr, Placed, PlacedAll, PlacedList, PlacedArmList}
use Rattle.laws_analyses.proofs.Statements.LeadLaws.{in_others}
use Rattle.laws_analyses.proofs.Statements.Rows.{labelled}
use Rattle.laws_analyses.proofs.Statements.Tests.{tested, met}
use Rattle.laws_analyses.proofs.Statements.Backs.{while_list, while_shape, OfInner, OfFirst}
use Rattle.laws_analyses.proofs.Statements.Bodies.{Body_ended}
use Rattle.laws_analyses.proofs.Statements.Lists.{E, goes_in, Stmt_ended, list_found}
use Rattle.fx_lists.proofs.Numbers.{same_is as nat_same}

module _ (C : Claim) (m : ScopeTree) (cs : Callees) (r : Found) (covers : List ℕ → ExprTrees → System → Type 0) (scalar : List ℕ → Bool) (sc : Scope) (at : Places) (far : BlockUnit → Bool) (place : BlockUnit → ℕ) (nf : NamesFit sc.names m) (locked : Locks) (still : ℕ → Bool) where
  abbrev e : Scene
  e = scene_at m at far place

  abbrev Hs : System → Store → Type 0
  Hs p z = HoldsAt e p (numbers_of z)

  -- what is proved of the statements of a DO WHILE, and of its labelled block IF
  abbrev pub BodyGood : StmtTrees → Type 0
  BodyGood ss = (L : ℕ) (P : System) (z : Store) → goes_back L ss ≡ true → Hs P z → PlacedList r covers m cs scalar ss false P → Good C (list_plan sc.turns (parts ss sc at locked)) z (Body_ended C m cs r covers scalar sc at far place L ss P still z)

  abbrev pub FirstGood : StmtTree → Type 0
  FirstGood s = (P : System) (z : Store) → Hs P z → Placed r covers m cs scalar s false P → Good C (statement_plan s sc at locked) z (Stmt_ended C m cs r covers scalar sc at far place s false P still z)

  module _ (n L : ℕ) (w : WhileTree) (back : goes_back L w.body ≡ true) (P : System) (z : Store) (hp : Hs P z) where
    abbrev body : StmtTrees
    body = while_list n L w

    abbrev s : StmtTree
    s = tree.stmt n (Some L) (tree.block_if (tree.more_arms (tree.arm w.test w.body) tree.no_arms) tree.no_else)

    abbrev ts : List Transformer
    ts = each_transformer w.body m cs false

    abbrev yes : System
    yes = (condition_of m.scalars w.test).yes

    abbrev no : System
    no = (condition_of m.scalars w.test).no

    abbrev t : Transformer
    t = while_iteration m w ts

    abbrev W : Transformer
    W = while_does m w ts

    -- at each arrival, and where the GO TO comes
    abbrev Hw : System
    Hw = each_while w m r.transformer P

    abbrev q : System
    q = last_begins w.body m r.transformer (if_true m w.test Hw)

    abbrev plan : Plan
    plan = list_plan sc.turns (parts body sc at locked)

    abbrev all : List Part
    all = parts body sc at locked

    abbrev Q : Flow → Store → Type 0
    Q = E C m cs r covers scalar sc at far place W (while_done w m P q) (λ ls. goes_in C m cs r covers scalar sc at far place body ls) (list_has is_return body) false still z

    -- at an arrival: the first one, or one that a GO TO led to
    record Arrived (y : Store) : Type 0 where
      chain : Chain e t (numbers_of z) (numbers_of y)
      steady : Still still z y
      came : Hs P y ⊎ Hs q y

    abbrev I : ℕ → Store → Type 0
    I zero y = Arrived y
    I (suc k) y = Done e W (while_done w m P q) still z y

    module _ (trs : Tracks e t.cells) (path : each_at r.transformer w.body ≡ ts) where
      arrived_holds : (y : Store) → Arrived y → Hs Hw y
      arrived_holds y a =
          subst (λ xs. Hs (clean (apply (iterate (while_iteration m w xs)) P)) y) (sym path)
          (λ p st. (clean_same p (apply (iterate t) P)).0 (holds_apply e (iterate t) P (numbers_of z) (numbers_of y) hp (does_closed e t (numbers_of z) (numbers_of y) trs a.chain) p st))

      at_end : (y : Store) → Arrived y → Hs no y → Done e W (while_done w m P q) still z y
      at_end y a h = record {
        does = does_then e (iterate t) (test no) (numbers_of z) (numbers_of y) (numbers_of y) (does_closed e t (numbers_of z) (numbers_of y) trs a.chain) (does_test e no (numbers_of y) h);
        after = λ p st. hull_holds (if_false m w.test P) (if_false m w.test q) p
            (⊎_elim (λ k. inl (met C m sc.names at far place nf P no y k h p st)) (λ k. inr (met C m sc.names at far place nf q no y k h p st)) a.came);
        steady = a.steady;
      }

      -- what the statements keep, all of it keeps
      stayed : (y v : Store) → Arrived y → Stayed e (while_body w.body ts) still y v → Stayed e W still z v
      stayed y v a h =
          let k = kept_chain e t (numbers_of z) (numbers_of y) a.chain in
          record {
            kept = record {
              cells = λ c g o. h.kept.cells c g (right_out [] (while_body w.body ts).cells c (left_out t.cells [] c o)) ∙ k.cells c g (left_out t.cells [] c o);
              foreign = λ u g o. h.kept.foreign u g (λ i. o (unit_left t.foreign [] u (unit_right [] (while_body w.body ts).foreign u i))) ∙ k.foreign u g (λ i. o (unit_left t.foreign [] u i));
            };
            steady = λ u f. h.steady u f ∙ a.steady u f;
          }

      next_arrival : (y v : Store) → Arrived y → Hs yes y → Done e (while_body w.body ts) q still y v → Arrived v
      next_arrival y v a h d = record {
        chain = then_iteration a.chain (does_then e (test yes) (while_body w.body ts) (numbers_of y) (numbers_of y) (numbers_of v) (does_test e yes (numbers_of y) h) d.does);
        steady = λ u f. d.steady u f ∙ a.steady u f;
        came = inr d.after;
      }

      -- ---- the end of its statements

      with_nones : (b : Bool) → b ≡ true → (((b || false) || false) || false) ≡ true
      with_nones true h = refl
      with_nones false h = h

      jumps_out : (l : ℕ) → Jumps (λ ls. goes_in C m cs r covers scalar sc at far place w.body ls) l → has (labels body) l ≡ false → Jumps (λ ls. goes_in C m cs r covers scalar sc at far place body ls) l
      jumps_out l k o = λ ls h. with_nones (each_leads w.body (others (others ls (labels body)) (labels w.body))) (k (others ls (labels body)) (in_others ls (labels body) l h o))

      back_or_out : (y v : Store) (l : ℕ) → Arrived y → Hs yes y → Body_ended C m cs r covers scalar sc at far place L w.body (if_true m w.test Hw) still y (Jump l) v → Next_holds C I Q all 0 (Jump l) v
      back_or_out y v l a h d = go (nat_eq l L) refl
        where
          go : (b : Bool) → nat_eq l L ≡ b → Choice (b || false) (I (if b then 0 else 1) v) (Q (Jump l) v)
          go true k = next_arrival y v a h (d.0 (nat_same l L k))
          go false k = (jumps_out l d.1 (sym (labelled l body sc at locked) ∙ ap (λ b. b || false) k), stayed y v a d.2)

      ended : (y : Store) → Arrived y → Hs yes y → (f : Flow) (v : Store) → Body_ended C m cs r covers scalar sc at far place L w.body (if_true m w.test Hw) still y f v → Next_holds C I Q all 0 f v
      ended y a h Normal v d = absurd d
      ended y a h (Jump l) v d = back_or_out y v l a h d
      ended y a h Returned v d = (with_nones (list_has is_return w.body) d.0, stayed y v a d.1, λ k. absurd (true≢false (sym k)))
      ended y a h Stopped v d = tt

      -- ---- an arrival, and all of them

      abbrev what : WhatTree
      what = tree.block_if (tree.more_arms (tree.arm w.test w.body) tree.no_arms) tree.no_else

      module _ (inner : BodyGood w.body) (first : FirstGood s) (pf : Placed r covers m cs scalar s false Hw) (pb : PlacedList r covers m cs scalar w.body false (if_true m w.test Hw)) where
        arrival_good : (y : Store) → Arrived y → Good C (statement_plan s sc at locked) y (Next_holds C I Q all 0)
        arrival_good y a =
            let h = arrived_holds y a in
            good_at C (spot sc.module_name n) at (execution what n sc at locked) y (Next_holds C I Q all 0) (λ i. ((first Hw y h pf).inside i).0)
            (tested C m sc.names at far place nf w.test (list_plan sc.turns (parts w.body sc at locked)) (Ends Normal) y (Next_holds C I Q all 0)
            (λ k. good_more C (list_plan sc.turns (parts w.body sc at locked)) y (Body_ended C m cs r covers scalar sc at far place L w.body (if_true m w.test Hw) still y) (Next_holds C I Q all 0) (ended y a k)
            (inner L (if_true m w.test Hw) y back (met C m sc.names at far place nf Hw yes y h k) pb))
            (λ k. good_ends C Normal y (Next_holds C I Q all 0) (at_end y a k)))

        verified : Verified C I Q all 0 all
        verified = (arrival_good, λ y d. d)

        all_good : Good C plan z Q
        all_good = jumps_good C I Q all verified sc.turns 0 all verified z (record { chain = none_yet; steady = λ u f. refl; came = inl hp })

    while_good : Tracks e t.cells → BodyGood w.body → FirstGood s → PlacedAll r covers m cs scalar body false Hw → Good C plan z Q
    while_good trs inner first pl =
        let pb = placed_body pl.0.1.0.0 in
        all_good trs (list_found C m cs r covers scalar sc at far place w.body false (if_true m w.test Hw) pb) inner first pl.0 pb
      where
        placed_body : PlacedArmList r covers m cs scalar w.body (if_true m w.test Hw) → PlacedList r covers m cs scalar w.body false (if_true m w.test Hw)
        placed_body p = go (while_in w.body) (back_alone L w.body back) p
          where
            go : (o : Option WhileTree) → o ≡ None → PlacedOr o (PlacedAll r covers m cs scalar w.body false (while_begins o m r.transformer (if_true m w.test Hw))) (PlacedList r covers m cs scalar w.body false (if_true m w.test Hw)) → PlacedList r covers m cs scalar w.body false (if_true m w.test Hw)
            go None e p = p
            go (Some x) e p = cc

  -- ---- the statements of an arm

  -- how a list ends that does t, after which q holds
  abbrev Ended_so : StmtTrees → Store → Transformer → System → Type 0
  Ended_so ss z t q = Good C (list_plan sc.turns (parts ss sc at locked)) z (E C m cs r covers scalar sc at far place t q (λ ls. goes_in C m cs r covers scalar sc at far place ss ls) (list_has is_return ss) false still z)

  -- of a list of a DO WHILE
  abbrev WhileGood : WhileTree → System → Store → StmtTrees → Type 0
  WhileGood w P z ss = Tracks e (while_iteration m w (inner_transformers ss m cs)).cells → OfInner BodyGood ss → OfFirst FirstGood ss → PlacedAll r covers m cs scalar ss false (each_while w m r.transformer P) → Ended_so ss z (while_does m w (inner_transformers ss m cs)) (while_done w m P (at_goto ss m r.transformer (each_while w m r.transformer P)))

  module _ (ss : StmtTrees) (P : System) (z : Store) (hp : Hs P z) (tracked : (w : WhileTree) → Tracks e (while_iteration m w (inner_transformers ss m cs)).cells) where
    while_list_good : (w : WhileTree) → while_in ss ≡ Some w → WhileGood w P z ss
    while_list_good w h =
        let shape = while_shape ss w h in
        subst (WhileGood w P z) (sym shape.is_list) (while_good shape.number shape.label w shape.back P z hp)

    pub arm_list_good : OfInner BodyGood ss → OfFirst FirstGood ss → (PlacedList r covers m cs scalar ss false P → Ended_so ss z (list_of false ss (each_transformer ss m cs false)) (after_list false ss m r.transformer P)) → PlacedArmList r covers m cs scalar ss P → Ended_so ss z (arm_list_transformer ss m cs) (after_arm_list ss m r.transformer P)
    arm_list_good inner first plain = go (while_in ss) refl
      where
        go : (o : Option WhileTree) → while_in ss ≡ o → PlacedOr o (PlacedAll r covers m cs scalar ss false (while_begins o m r.transformer P)) (PlacedList r covers m cs scalar ss false P) → Ended_so ss z (while_or o m (inner_transformers ss m cs) (list_of false ss (each_transformer ss m cs false))) (while_ends o m P (at_goto ss m r.transformer (while_begins o m r.transformer P)) (after_list false ss m r.transformer P))
        go None h pl = plain pl
        go (Some w) h pl = while_list_good w h (tracked w) inner first pl
