-- GO TOs that lead out are GO TOs.
use Rattle.std.proofs.Common.{◌≡◌, ℕ, List, [], ◌∷◌, ◌||◌, Bool, true, false, refl, sym, ap, ◌∙◌, nat_eq, true≢false}
use Rattle.std.specs.Prelude.{if◌then◌else◌}
use Rattle.std.proofs.lemmas.Bool.{or_left, or_right}
use Rattle.f77_ast.specs.Trees.{StmtTree, WhatTree, ArmTree, ArmTrees, ElseTree, LoopTree, StmtTrees}
use Rattle.f77_ast.specs.Trees as tree
use Rattle.preconditions.specs.transformer_algebra.Cells.{has, others}
use Rattle.preconditions.specs.transformers.Jumps.{labels, stmt_has, parts_have, list_has, arms_have, arm_has, else_has, loop_has, goes_to}
use Rattle.laws_analyses.specs.Statements.Leads.{stmt_leads, what_leads, each_leads, arms_lead, arm_leads, else_leads, loop_leads}
use Rattle.fx_lists.proofs.Booleans.{or_map, clash as clashes}
use Rattle.fx_lists.proofs.Numbers.{same_is as nat_same}
use Rattle.preconditions.proofs.TransformerAlgebra.HasLaws.{others_in}

-- what is among the first and not among the second
pub in_others : (ls ms : List ℕ) (l : ℕ) → has ls l ≡ true → has ms l ≡ false → has (others ls ms) l ≡ true
in_others [] ms l h k = h
in_others (a ∷ ls) ms l h k = go (has ms a) refl (nat_eq a l) refl h (λ q. in_others ls ms l q k)
  where
    go : (b : Bool) → has ms a ≡ b → (c : Bool) → nat_eq a l ≡ c → (c || has ls l) ≡ true → (has ls l ≡ true → has (others ls ms) l ≡ true) → has (if b then others ls ms else a ∷ others ls ms) l ≡ true
    go true p true q r ih = clashes (has ms l) (ap (has ms) (sym (nat_same a l q)) ∙ p) k
    go true p false q r ih = ih r
    go false p true q r ih = or_left (nat_eq a l) (has (others ls ms) l) q
    go false p false q r ih = or_right (nat_eq a l) (has (others ls ms) l) (ih r)

abbrev Sub : List ℕ → List ℕ → Type 0
Sub ms ls = (l : ℕ) → has ms l ≡ true → has ls l ≡ true

less : (ms ls ns : List ℕ) → Sub ms ls → Sub (others ms ns) ls
less ms ls ns f l h = f l (others_in ms ns l h)

mutual
  pub leads_has : (s : StmtTree) (ms ls : List ℕ) → Sub ms ls → stmt_leads s ms ≡ true → stmt_has (goes_to ls) s ≡ true
  leads_has (tree.stmt n label w) ms ls f h = what_has w ms ls f h

  what_has : (w : WhatTree) (ms ls : List ℕ) → Sub ms ls → what_leads w ms ≡ true → (goes_to ls w || parts_have (goes_to ls) w) ≡ true
  what_has (tree.assign a b) ms ls f h = absurd (true≢false (sym h))
  what_has (tree.block_if arms other) ms ls f h = or_map (arms_lead arms ms) (else_leads other ms) (arms_have (goes_to ls) arms) (else_has (goes_to ls) other) (arms_has arms ms ls f) (else_goes other ms ls f) h
  what_has (tree.logical_if e s) ms ls f h = leads_has s ms ls f h
  what_has (tree.do_loop l) ms ls f h = loop_goes l ms ls f h
  what_has (tree.call x es) ms ls f h = absurd (true≢false (sym h))
  what_has (tree.goto l) ms ls f h = or_left (has ls l) false (f l h)
  what_has tree.continue ms ls f h = absurd (true≢false (sym h))
  what_has tree.return ms ls f h = absurd (true≢false (sym h))
  what_has (tree.stop text) ms ls f h = absurd (true≢false (sym h))
  what_has (tree.print es) ms ls f h = absurd (true≢false (sym h))
  what_has (tree.read es) ms ls f h = absurd (true≢false (sym h))

  pub list_goes : (ss : StmtTrees) (ms ls : List ℕ) → Sub ms ls → each_leads ss ms ≡ true → list_has (goes_to ls) ss ≡ true
  list_goes tree.no_stmts ms ls f h = h
  list_goes (tree.more_stmts s rest) ms ls f h = or_map (stmt_leads s ms) (each_leads rest ms) (stmt_has (goes_to ls) s) (list_has (goes_to ls) rest) (leads_has s ms ls f) (list_goes rest ms ls f) h

  arms_has : (arms : ArmTrees) (ms ls : List ℕ) → Sub ms ls → arms_lead arms ms ≡ true → arms_have (goes_to ls) arms ≡ true
  arms_has tree.no_arms ms ls f h = h
  arms_has (tree.more_arms a rest) ms ls f h = or_map (arm_leads a ms) (arms_lead rest ms) (arm_has (goes_to ls) a) (arms_have (goes_to ls) rest) (arm_goes a ms ls f) (arms_has rest ms ls f) h

  arm_goes : (a : ArmTree) (ms ls : List ℕ) → Sub ms ls → arm_leads a ms ≡ true → arm_has (goes_to ls) a ≡ true
  arm_goes (tree.arm e body) ms ls f h = list_goes body (others ms (labels body)) ls (less ms ls (labels body) f) h

  else_goes : (other : ElseTree) (ms ls : List ℕ) → Sub ms ls → else_leads other ms ≡ true → else_has (goes_to ls) other ≡ true
  else_goes tree.no_else ms ls f h = h
  else_goes (tree.otherwise body) ms ls f h = list_goes body (others ms (labels body)) ls (less ms ls (labels body) f) h

  loop_goes : (l : LoopTree) (ms ls : List ℕ) → Sub ms ls → loop_leads l ms ≡ true → loop_has (goes_to ls) l ≡ true
  loop_goes (tree.loop index first last step body) ms ls f h = list_goes body (others ms (labels body)) ls (less ms ls (labels body) f) h
