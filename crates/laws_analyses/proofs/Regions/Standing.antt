-- Statements of a module, with what is known of them by their numbers.
use Rattle.std.proofs.Common.{◌≡◌, ℕ, ◌<◌, List, [], ◌∷◌, ◌++◌, ◌||◌, ◌&&◌, Option, Some, Bool, true, false, refl, sym, ap, ap₂, ◌∙◌, nat_eq}
use Rattle.std.specs.Prelude.{if◌then◌else◌}
use Rattle.std.proofs.lemmas.Bool.{or_parts, or_left, or_right}
use Rattle.affine_systems.specs.declared.row.System.{System}
use Rattle.f77_ast.specs.Trees.{ExprTrees, StmtTree, WhatTree, ArmTree, ArmTrees, ElseTree, LoopTree, StmtTrees}
use Rattle.f77_ast.specs.Trees as tree
use Rattle.f77_ast.specs.Store.{Store}
use Rattle.f77_ast.specs.Runs.{Ran}
use Rattle.f77_ast.specs.Writes.{Locks}
use Rattle.f77_ast.specs.Plans.{Flow, Plan}
use Rattle.f77_ast.specs.Calls.{actuals, call_plan}
use Rattle.f77_ast.specs.Executions.{Claim}
use Rattle.f77_ast.specs.Statements.{spot}
use Rattle.f77_ast.specs.StatementNumbers.{stmt_numbers, part_numbers, list_numbers, arms_numbers, arm_numbers, else_numbers, loop_numbers}
use Rattle.f77_ast.specs.declared.results.At.{At}
use Rattle.affine_forms.specs.Claims.{numbers_of}
use Rattle.preconditions.specs.transformer_algebra.declared.transformer.Transformer.{Transformer}
use Rattle.preconditions.specs.transformer_algebra.Transformers.{apply}
use Rattle.preconditions.specs.transformer_algebra.Claims.{HoldsAt, Kept}
use Rattle.preconditions.specs.call_translation.Summary.{call_transformer}
use Rattle.preconditions.specs.transformer_algebra.Cells.{has}
use Rattle.preconditions.specs.transformers.Jumps.{stmt_has, parts_have, list_has, arms_have, arm_has, else_has, loop_has, is_end}
use Rattle.preconditions.specs.transformers.Lists.{first_at, each_at}
use Rattle.preconditions.specs.transformers.Statement.{each_transformer}
use Rattle.preconditions.specs.transformers.Statement as transformers
use Rattle.in_out_regions.specs.region_sets.declared.region.Region.{Region}
use Rattle.in_out_regions.specs.array_regions.Statement as regions
use Rattle.laws_analyses.specs.Statements.Targets.{lacks_targets}
use Rattle.laws_analyses.specs.Statements.Good.{Good}
use Rattle.laws_analyses.specs.Statements.Activation.{Ended}
use Rattle.call_graph.specs.CallsIn.{CallAt, Each, stmt_calls, what_calls, list_calls, arms_calls, arm_calls, else_calls, loop_calls}
use Rattle.laws_analyses.proofs.Statements.Placing.{each_parts}
use Rattle.laws_analyses.proofs.Statements.NumberLaws.{ids}
use Rattle.laws_analyses.specs.Regions.Settings.{Setting, scene, actuals_plain, lacks_plain}
use Rattle.laws_analyses.specs.Regions.Shown.{Shown}
use Rattle.laws_analyses.proofs.Regions.Rules.{Goes}
use Rattle.fx_lists.proofs.Numbers.{same_is as nat_same, nat_eq_same}
use Rattle.fx_lists.proofs.Booleans.{clash as clashes}
use Rattle.preconditions.proofs.TransformerAlgebra.HasLaws.{has_parts}

-- ---- numbers that differ

abbrev pub Distinct : List ℕ → Type 0
Distinct [] = Unit {0}
Distinct (n ∷ ns) = (has ns n ≡ false) × Distinct ns

pub distinct_parts : (ns ms : List ℕ) → Distinct (ns ++ ms) → Distinct ns × Distinct ms
distinct_parts [] ms h = (tt, h)
distinct_parts (n ∷ ns) ms h = let q = has_parts ns ms n h.0 in let r = distinct_parts ns ms h.1 in ((q.0, r.0), r.1)

-- the first result with a number is the one with that number
pub each_first : {T : Type 0} (as' all : List (At T)) → ((n : ℕ) → has (ids as') n ≡ true → first_at n all ≡ first_at n as') → Distinct (ids as') → Each (λ a. first_at a.id all ≡ Some a.value) as'
each_first [] all f d = tt
each_first (a ∷ as') all f d = (
  f a.id (or_left (nat_eq a.id a.id) (has (ids as') a.id) (nat_eq_same a.id)) ∙ ap (λ b. if b then Some a.value else first_at a.id as') (nat_eq_same a.id),
  each_first as' all (λ n h. f n (or_right (nat_eq a.id n) (has (ids as') n) h) ∙ later n h (nat_eq a.id n) refl) d.1,
)
  where
    later : (n : ℕ) → has (ids as') n ≡ true → (b : Bool) → nat_eq a.id n ≡ b → (if b then Some a.value else first_at n as') ≡ first_at n as'
    later n h true e = clashes (has (ids as') n) h (ap (has (ids as')) (sym (nat_same a.id n e)) ∙ d.0)
    later n h false e = refl

-- of executions nothing is claimed
abbrev pub Nothing : Claim
Nothing p at s q = Unit {0}

-- ---- what is known

-- Fits: what is known of locks
module _ (k : Setting) (Fits : Locks → (ℕ → Bool) → Type 0) where
  -- a CALL, by the number of its statement
  abbrev pub call_at : CallAt → Locks → Plan
  call_at c locked = call_plan (actuals c.actuals 0 k.sc.names k.at (k.sc.own_unit c.number)) (k.sc.callee c.callee) locked

  -- how a CALL ends, whatever holds where it begins
  abbrev pub CallEnds : List ℕ → ExprTrees → Type 0
  CallEnds x es =
      (n : ℕ) (locked : Locks) (still : ℕ → Bool) → Fits locked still → (P : System) (z : Store) → HoldsAt (scene k) P (numbers_of z) →
      Good Nothing (call_plan (actuals es 0 k.sc.names k.at (k.sc.own_unit n)) (k.sc.callee x) locked) z (Ended (scene k) (call_transformer k.m (k.cs x) es) (apply (call_transformer k.m (k.cs x) es) P) (λ ls. false) false false still z)

-- I: what holds at each store of the module that runs
module _ (C : Claim) (k : Setting) (Fits : Locks → (ℕ → Bool) → Type 0) (I : Store → Type 0) where
  -- what a CALL accesses
  abbrev pub CallGoes : CallAt → Type 0
  CallGoes c = actuals_plain k.scalar c.actuals ≡ true → (locked : Locks) (still : ℕ → Bool) → Fits locked still → (z : Store) → I z → Goes C (call_at k Fits c locked) z (λ a y es. Shown k false (regions.what_set (tree.call c.callee c.actuals) k.m k.does k.calls) z a es)

  pub record CallStands (c : CallAt) : Type 0 where
    pub ends : CallEnds k Fits c.callee c.actuals
    pub goes : CallGoes c

  -- what holds at a store stays where only cells of the statement change
  abbrev pub Keeps : At Transformer → Type 0
  Keeps a = (x y : Store) → Kept (scene k) a.value.cells a.value.foreign (numbers_of x) (numbers_of y) → I x → I y

  -- the transformer that is found is that of the statement
  abbrev pub FoundT : At Transformer → Type 0
  FoundT a = (0 < a.id) × (k.does a.id ≡ a.value)

  -- an execution of the statement is claimed, where its set shows what it does
  abbrev pub Owes : At (List Region) → Type 0
  Owes a = (s : Store) (q : Ran Flow) → Shown k false a.value s q.answer q.trace → C (spot k.sc.module_name a.id) k.at s q

  pub record Stands (ns : List ℕ) (ts : List (At Transformer)) (rs : List (At (List Region))) (bad rough : Bool) (cs : List CallAt) : Type 0 where
    pub numbers : Distinct ns
    pub found : Each FoundT ts
    pub owes : Each Owes rs
    pub targets : bad ≡ false
    pub plain : rough ≡ false
    pub keeps : Each Keeps ts
    pub calls : Each CallStands cs

  abbrev pub bad : WhatTree → Bool
  bad w = lacks_targets k.scalar w

  abbrev pub rough : WhatTree → Bool
  rough w = lacks_plain k.scalar w

  abbrev pub StandsStmt : StmtTree → Bool → Type 0
  StandsStmt s last = Stands (stmt_numbers s) (transformers.at_stmt s k.m k.cs last) (regions.at_stmt s k.m k.does k.calls) (stmt_has bad s) (stmt_has rough s) (stmt_calls s)

  -- of the parts of a statement with a number
  abbrev pub StandsParts : WhatTree → ℕ → Type 0
  StandsParts w n = Stands (part_numbers w) (transformers.at_parts w k.m k.cs) (regions.at_parts w k.m k.does k.calls) (parts_have bad w) (parts_have rough w) (what_calls w n)

  abbrev pub StandsList : StmtTrees → Bool → Type 0
  StandsList ss whole = Stands (list_numbers ss) (transformers.at_list ss k.m k.cs whole) (regions.at_list ss k.m k.does k.calls) (list_has bad ss) (list_has rough ss) (list_calls ss)

  abbrev pub StandsArms : ArmTrees → Type 0
  StandsArms arms = Stands (arms_numbers arms) (transformers.at_arms arms k.m k.cs) (regions.at_arms arms k.m k.does k.calls) (arms_have bad arms) (arms_have rough arms) (arms_calls arms)

  abbrev pub StandsArm : ArmTree → Type 0
  StandsArm a = Stands (arm_numbers a) (transformers.at_arm a k.m k.cs) (regions.at_arm a k.m k.does k.calls) (arm_has bad a) (arm_has rough a) (arm_calls a)

  abbrev pub StandsElse : ElseTree → Type 0
  StandsElse other = Stands (else_numbers other) (transformers.at_else other k.m k.cs) (regions.at_else other k.m k.does k.calls) (else_has bad other) (else_has rough other) (else_calls other)

  abbrev pub StandsLoop : LoopTree → Type 0
  StandsLoop l = Stands (loop_numbers l) (transformers.at_loop l k.m k.cs) (regions.at_loop l k.m k.does k.calls) (loop_has bad l) (loop_has rough l) (loop_calls l)

  pub stands_parts : (ns ms : List ℕ) (ts us : List (At Transformer)) (rs qs : List (At (List Region))) (a b c d : Bool) (cs ds : List CallAt) → Stands (ns ++ ms) (ts ++ us) (rs ++ qs) (a || b) (c || d) (cs ++ ds) → Stands ns ts rs a c cs × Stands ms us qs b d ds
  stands_parts ns ms ts us rs qs a b c d cs ds h =
      let n = distinct_parts ns ms h.numbers in
      let t = each_parts FoundT ts us h.found in
      let r = each_parts Owes rs qs h.owes in
      let x = or_parts a b h.targets in
      let y = or_parts c d h.plain in
      let w = each_parts Keeps ts us h.keeps in
      let z = each_parts CallStands cs ds h.calls in (
        record { numbers = n.0; found = t.0; owes = r.0; targets = x.0; plain = y.0; keeps = w.0; calls = z.0 },
        record { numbers = n.1; found = t.1; owes = r.1; targets = x.1; plain = y.1; keeps = w.1; calls = z.1 },
      )

  pub stands_next : (s : StmtTree) (rest : StmtTrees) (whole : Bool) → StandsList (tree.more_stmts s rest) whole → StandsStmt s (whole && is_end rest) × StandsList rest whole
  stands_next s rest whole h = stands_parts (stmt_numbers s) (list_numbers rest) _ _ _ _ (stmt_has bad s) (list_has bad rest) (stmt_has rough s) (list_has rough rest) (stmt_calls s) (list_calls rest) h

  pub stands_arms : (a : ArmTree) (rest : ArmTrees) → StandsArms (tree.more_arms a rest) → StandsArm a × StandsArms rest
  stands_arms a rest h = stands_parts (arm_numbers a) (arms_numbers rest) _ _ _ _ (arm_has bad a) (arms_have bad rest) (arm_has rough a) (arms_have rough rest) (arm_calls a) (arms_calls rest) h

  pub stands_if : (arms : ArmTrees) (other : ElseTree) (n : ℕ) → StandsParts (tree.block_if arms other) n → StandsArms arms × StandsElse other
  stands_if arms other n h = stands_parts (arms_numbers arms) (else_numbers other) _ _ _ _ (arms_have bad arms) (else_has bad other) (arms_have rough arms) (else_has rough other) (arms_calls arms) (else_calls other) h

  -- of a statement itself, and of its parts
  pub record StandsAt (n : ℕ) (w : WhatTree) (last : Bool) : Type 0 where
    pub numbered : 0 < n
    pub transformer : k.does n ≡ transformers.what_transformer w k.m k.cs last
    pub owes : Owes (transformers.at n (regions.what_set w k.m k.does k.calls))
    pub targets : bad w ≡ false
    pub plain : rough w ≡ false
    pub keeps : Keeps (transformers.at n (transformers.what_transformer w k.m k.cs last))

  pub stands_at : (n : ℕ) (label : Option ℕ) (w : WhatTree) (last : Bool) → StandsStmt (tree.stmt n label w) last → StandsAt n w last
  stands_at n label w last h = record {
    numbered = h.found.0.0;
    transformer = h.found.0.1;
    owes = h.owes.0;
    targets = (or_parts (bad w) (parts_have bad w) h.targets).0;
    plain = (or_parts (rough w) (parts_have rough w) h.plain).0;
    keeps = h.keeps.0;
  }

  pub stands_within : (n : ℕ) (label : Option ℕ) (w : WhatTree) (last : Bool) → StandsStmt (tree.stmt n label w) last → StandsParts w n
  stands_within n label w last h = record {
    numbers = h.numbers.1;
    found = h.found.1;
    owes = h.owes.1;
    targets = (or_parts (bad w) (parts_have bad w) h.targets).1;
    plain = (or_parts (rough w) (parts_have rough w) h.plain).1;
    keeps = h.keeps.1;
    calls = h.calls;
  }

  pub found_each : (ss : StmtTrees) (whole : Bool) → StandsList ss whole → each_at k.does ss ≡ each_transformer ss k.m k.cs whole
  found_each tree.no_stmts whole h = refl
  found_each (tree.more_stmts (tree.stmt n label w) rest) whole h =
      let q = stands_next (tree.stmt n label w) rest whole h in
      ap₂ (λ x xs. x ∷ xs) q.0.found.0.1 (found_each rest whole q.1)
