-- The CALLs of a name in a module without a CALL of it are none, so all that there are stand in the modules that call it.
use Rattle.std.proofs.Common.{◌≡◌, ℕ, Bool, true, false, List, [], ◌∷◌, ◌++◌, refl, ap, ◌∙◌}
use Rattle.std.specs.Prelude.{reverse, bytes_eq, cond, if◌then◌else◌}
use Rattle.std.specs.List.{list_any, filter}
use Rattle.std.proofs.lemmas.Bool.{or_parts}
use Rattle.f77_ast.specs.Trees.{StmtTree, WhatTree, ArmTree, ArmTrees, ElseTree, LoopTree, StmtTrees}
use Rattle.f77_ast.specs.Trees as tree
use Rattle.f77_ast.specs.declared.variable.Unit.{Unit as BlockUnit}
use Rattle.loop_marker.specs.module_phases.ScalarPhases as scalar
use Rattle.loop_marker.specs.module_phases.OutPhases as out
use Rattle.loop_marker.specs.Results.{ModuleResults}
use Rattle.loop_marker.specs.Phases.{phases_of, analysis_in}
use Rattle.call_graph.specs.CallsIn.{CallAt, Each, stmt_calls, what_calls, list_calls, arms_calls, arm_calls, else_calls, loop_calls}
use Rattle.laws_analyses.proofs.Statements.Placing.{each_parts}
use Rattle.laws_database.specs.ResultCallers.{calls, holding_sites, later_sites}
use Rattle.laws_database.specs.ResultLaws.{HaveAllSites}

module _ (x : List ℕ) where
  abbrev Other : CallAt → Type 0
  Other c = bytes_eq c.callee x ≡ false

  module _ (c : scalar.Caller) where
    mutual
      list_none : (t : StmtTrees) → Each Other (list_calls t) → scalar.list_sites t c x ≡ []
      list_none tree.no_stmts h = refl
      list_none (tree.more_stmts s rest) h = let r = each_parts Other (stmt_calls s) (list_calls rest) h in λ i. stmt_none s r.0 i ++ list_none rest r.1 i

      stmt_none : (s : StmtTree) → Each Other (stmt_calls s) → scalar.stmt_sites s c x ≡ []
      stmt_none (tree.stmt n label w) h = what_none w n h

      what_none : (w : WhatTree) (n : ℕ) → Each Other (what_calls w n) → scalar.what_sites w n c x ≡ []
      what_none (tree.assign a b) n h = refl
      what_none (tree.block_if arms other) n h = let r = each_parts Other (arms_calls arms) (else_calls other) h in λ i. arms_none arms r.0 i ++ else_none other r.1 i
      what_none (tree.logical_if e s) n h = stmt_none s h
      what_none (tree.do_loop l) n h = loop_none l h
      what_none (tree.call y es) n h = ap (λ b. if b then scalar.site c.scope es (c.holds n) else []) h.0
      what_none (tree.goto l) n h = refl
      what_none tree.continue n h = refl
      what_none tree.return n h = refl
      what_none (tree.stop text) n h = refl
      what_none (tree.print es) n h = refl
      what_none (tree.read es) n h = refl

      arms_none : (arms : ArmTrees) → Each Other (arms_calls arms) → scalar.arms_sites arms c x ≡ []
      arms_none tree.no_arms h = refl
      arms_none (tree.more_arms a rest) h = let r = each_parts Other (arm_calls a) (arms_calls rest) h in λ i. arm_none a r.0 i ++ arms_none rest r.1 i

      arm_none : (a : ArmTree) → Each Other (arm_calls a) → scalar.arm_sites a c x ≡ []
      arm_none (tree.arm test body) h = list_none body h

      else_none : (other : ElseTree) → Each Other (else_calls other) → scalar.else_sites other c x ≡ []
      else_none tree.no_else h = refl
      else_none (tree.otherwise body) h = list_none body h

      loop_none : (l : LoopTree) → Each Other (loop_calls l) → scalar.loop_sites l c x ≡ []
      loop_none (tree.loop index first last step body) h = list_none body h

    pub no_holding_sites : (t : StmtTrees) → Each Other (list_calls t) → scalar.list_sites t c x ≡ []
    no_holding_sites t h = list_none t h

  module _ (c : out.Caller) where
    mutual
      list_no : (t : StmtTrees) → Each Other (list_calls t) → out.list_sites t c x ≡ []
      list_no tree.no_stmts h = refl
      list_no (tree.more_stmts s rest) h = let r = each_parts Other (stmt_calls s) (list_calls rest) h in λ i. stmt_no s r.0 i ++ list_no rest r.1 i

      stmt_no : (s : StmtTree) → Each Other (stmt_calls s) → out.stmt_sites s c x ≡ []
      stmt_no (tree.stmt n label w) h = what_no w n h

      what_no : (w : WhatTree) (n : ℕ) → Each Other (what_calls w n) → out.what_sites w n c x ≡ []
      what_no (tree.assign a b) n h = refl
      what_no (tree.block_if arms other) n h = let r = each_parts Other (arms_calls arms) (else_calls other) h in λ i. arms_no arms r.0 i ++ else_no other r.1 i
      what_no (tree.logical_if e s) n h = stmt_no s h
      what_no (tree.do_loop l) n h = loop_no l h
      what_no (tree.call y es) n h = ap (λ b. if b then out.call_site c es n ∷ [] else []) h.0
      what_no (tree.goto l) n h = refl
      what_no tree.continue n h = refl
      what_no tree.return n h = refl
      what_no (tree.stop text) n h = refl
      what_no (tree.print es) n h = refl
      what_no (tree.read es) n h = refl

      arms_no : (arms : ArmTrees) → Each Other (arms_calls arms) → out.arms_sites arms c x ≡ []
      arms_no tree.no_arms h = refl
      arms_no (tree.more_arms a rest) h = let r = each_parts Other (arm_calls a) (arms_calls rest) h in λ i. arm_no a r.0 i ++ arms_no rest r.1 i

      arm_no : (a : ArmTree) → Each Other (arm_calls a) → out.arm_sites a c x ≡ []
      arm_no (tree.arm test body) h = list_no body h

      else_no : (other : ElseTree) → Each Other (else_calls other) → out.else_sites other c x ≡ []
      else_no tree.no_else h = refl
      else_no (tree.otherwise body) h = list_no body h

      loop_no : (l : LoopTree) → Each Other (loop_calls l) → out.loop_sites l c x ≡ []
      loop_no (tree.loop index first last step body) h = list_no body h

    pub no_later_sites : (t : StmtTrees) → Each Other (list_calls t) → out.list_sites t c x ≡ []
    no_later_sites t h = list_no t h

-- ---- the modules that call

others : (x : List ℕ) (cs : List CallAt) → list_any (λ (c : CallAt). bytes_eq c.callee x) cs ≡ false → Each (λ (c : CallAt). bytes_eq c.callee x ≡ false) cs
others x [] e = tt
others x (c ∷ cs) e = let p = or_parts (bytes_eq c.callee x) (list_any (λ (d : CallAt). bytes_eq d.callee x) cs) e in (p.0, others x cs p.1)

module _ (u : List BlockUnit) (x : List ℕ) where
  abbrev kept : List ModuleResults → List ModuleResults
  kept fs = filter (λ f. calls x f.known) fs

  holding_kept : (fs : List ModuleResults) → holding_sites u fs x ≡ holding_sites u (kept fs) x
  holding_kept [] = refl
  holding_kept (f ∷ fs) = go (calls x f.known) refl (holding_kept fs)
    where
      go : (b : Bool) → calls x f.known ≡ b → holding_sites u fs x ≡ holding_sites u (kept fs) x → (scalar.list_sites f.known.read.body (scalar.caller_of u (analysis_in (phases_of f))) x ++ holding_sites u fs x) ≡ holding_sites u (cond b (f ∷ kept fs) (kept fs)) x
      go true e ih = ap (λ z. scalar.list_sites f.known.read.body (scalar.caller_of u (analysis_in (phases_of f))) x ++ z) ih
      go false e ih = ap (λ z. z ++ holding_sites u fs x) (no_holding_sites x (scalar.caller_of u (analysis_in (phases_of f))) f.known.read.body (others x (list_calls f.known.read.body) e)) ∙ ih

  later_kept : (fs : List ModuleResults) → later_sites u fs x ≡ later_sites u (kept fs) x
  later_kept [] = refl
  later_kept (f ∷ fs) = go (calls x f.known) refl (later_kept fs)
    where
      go : (b : Bool) → calls x f.known ≡ b → later_sites u fs x ≡ later_sites u (kept fs) x → (out.list_sites f.known.read.body (out.caller_of u (phases_of f)) x ++ later_sites u fs x) ≡ later_sites u (cond b (f ∷ kept fs) (kept fs)) x
      go true e ih = ap (λ z. out.list_sites f.known.read.body (out.caller_of u (phases_of f)) x ++ z) ih
      go false e ih = ap (λ z. z ++ later_sites u fs x) (no_later_sites x (out.caller_of u (phases_of f)) f.known.read.body (others x (list_calls f.known.read.body) e)) ∙ ih

pub all_sites : (u : List BlockUnit) (fs : List ModuleResults) (x : List ℕ) → HaveAllSites u fs x
all_sites u fs x = record { holding = holding_kept u x (reverse fs); later = later_kept u x (reverse fs) }
