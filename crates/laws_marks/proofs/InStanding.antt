-- Statements of a module, with what is known of their IN regions by their numbers.
use Rattle.std.proofs.Common.{◌≡◌, ℕ, List, [], ◌∷◌, ◌++◌, ◌||◌, ◌&&◌, Option, Bool, true, false, refl, sym, ap, ◌∙◌, subst}
use Rattle.std.specs.Prelude.{if◌then◌else◌}
use Rattle.f77_ast.specs.Trees.{StmtTree, WhatTree, ArmTree, ArmTrees, ElseTree, LoopTree, StmtTrees}
use Rattle.f77_ast.specs.Trees as tree
use Rattle.f77_ast.specs.Store.{Store}
use Rattle.f77_ast.specs.Runs.{Ran}
use Rattle.f77_ast.specs.Writes.{Locks}
use Rattle.f77_ast.specs.Plans.{Flow}
use Rattle.f77_ast.specs.Executions.{Claim}
use Rattle.f77_ast.specs.Statements.{spot}
use Rattle.f77_ast.specs.StatementNumbers.{stmt_numbers, part_numbers, list_numbers, arms_numbers, arm_numbers, else_numbers, loop_numbers}
use Rattle.f77_ast.specs.declared.results.At.{At}
use Rattle.preconditions.specs.transformer_algebra.declared.transformer.Transformer.{Transformer}
use Rattle.preconditions.specs.transformer_algebra.Laws.{In, here, there}
use Rattle.preconditions.specs.transformers.Jumps.{stmt_has, parts_have, list_has, arms_have, arm_has, else_has, is_end, unstructured}
use Rattle.preconditions.specs.transformers.Lists.{list_at}
use Rattle.preconditions.specs.transformers.Statement as transformers
use Rattle.in_out_regions.specs.region_sets.declared.region.Region.{Region}
use Rattle.in_out_regions.specs.region_sets.Sets.{unite_all}
use Rattle.in_out_regions.specs.region_sets.Lists.{or_none, accesses, accesses_at, all_composed, in_order, all_forgetting, all_accesses, all_inexact, in_any_order, numbers, list_regions, set_at}
use Rattle.in_out_regions.specs.array_regions.Statement as regions
use Rattle.in_out_regions.specs.array_regions.Calls.{Called}
use Rattle.in_out_regions.specs.Known.{KnownTree}
use Rattle.in_out_regions.specs.Statement.{what_in}
use Rattle.in_out_regions.specs.Statement as ins
use Rattle.call_graph.specs.CallsIn.{CallAt, Each, stmt_calls, what_calls, list_calls, arms_calls, arm_calls, else_calls}
use Rattle.laws_analyses.proofs.Statements.Placing.{each_parts}
use Rattle.laws_analyses.proofs.Statements.NumberLaws.{ids}
use Rattle.laws_analyses.specs.Regions.Settings.{actuals_plain}
use Rattle.laws_analyses.proofs.Regions.Rules.{Goes}
use Rattle.laws_analyses.proofs.Regions.Standing.{Distinct, Stands, StandsAt, stands_parts, stands_at, stands_within, bad, rough, call_at}
use Rattle.laws_analyses.proofs.Regions.Numbering.{ids_parts, r_list, value_found, accesses_found}
use Rattle.laws_marks.specs.InFrames.{Frame}
use Rattle.laws_marks.specs.InShown.{FirstShown}
use Rattle.laws_marks.specs.InUnits.{UnitsFit}
use Rattle.laws_marks.specs.InKnowns.{known_in}
use Rattle.preconditions.proofs.TransformerAlgebra.Members.{in_right}

-- ---- numbers

module _ (t : KnownTree) where
  mutual
    i_stmt : (s : StmtTree) → ids (ins.at_stmt s t) ≡ stmt_numbers s
    i_stmt (tree.stmt n label w) = ap (λ l. n ∷ l) (i_parts w)

    i_parts : (w : WhatTree) → ids (ins.at_parts w t) ≡ part_numbers w
    i_parts (tree.assign a b) = refl
    i_parts (tree.block_if arms other) = ids_parts (ins.at_arms arms t) (ins.at_else other t) (arms_numbers arms) (else_numbers other) (i_arms arms) (i_else other)
    i_parts (tree.logical_if e s) = i_stmt s
    i_parts (tree.do_loop l) = i_loop l
    i_parts (tree.call x es) = refl
    i_parts (tree.goto l) = refl
    i_parts tree.continue = refl
    i_parts tree.return = refl
    i_parts (tree.stop text) = refl
    i_parts (tree.print es) = refl
    i_parts (tree.read es) = refl

    pub i_list : (ss : StmtTrees) → ids (ins.at_list ss t) ≡ list_numbers ss
    i_list tree.no_stmts = refl
    i_list (tree.more_stmts s rest) = ids_parts (ins.at_stmt s t) (ins.at_list rest t) (stmt_numbers s) (list_numbers rest) (i_stmt s) (i_list rest)

    i_arms : (arms : ArmTrees) → ids (ins.at_arms arms t) ≡ arms_numbers arms
    i_arms tree.no_arms = refl
    i_arms (tree.more_arms a rest) = ids_parts (ins.at_arm a t) (ins.at_arms rest t) (arm_numbers a) (arms_numbers rest) (i_arm a) (i_arms rest)

    i_arm : (a : ArmTree) → ids (ins.at_arm a t) ≡ arm_numbers a
    i_arm (tree.arm e body) = i_list body

    i_else : (other : ElseTree) → ids (ins.at_else other t) ≡ else_numbers other
    i_else tree.no_else = refl
    i_else (tree.otherwise body) = i_list body

    i_loop : (l : LoopTree) → ids (ins.at_loop l t) ≡ loop_numbers l
    i_loop (tree.loop index first last step body) = i_list body

-- ---- sets that are looked up elsewhere are the same

module _ (t : ℕ → Transformer) (f g : ℕ → List Region) where
  order_same : (ns : List ℕ) → ((n : ℕ) → In n ns → f n ≡ g n) → in_order t f ns ≡ in_order t g ns
  order_same [] h = refl
  order_same (n ∷ ns) h = ap (λ rs. unite_all (rs ++ all_composed (t n) (in_order t f ns))) (h n here) ∙ ap (λ rs. unite_all (g n ++ all_composed (t n) rs)) (order_same ns (λ m i. h m (there i)))

  pub accesses_same : (ns : List ℕ) → ((n : ℕ) → In n ns → f n ≡ g n) → all_accesses f ns ≡ all_accesses g ns
  accesses_same [] h = refl
  accesses_same (n ∷ ns) h = ap (λ rs. rs ++ all_accesses f ns) (h n here) ∙ ap (λ rs. g n ++ rs) (accesses_same ns (λ m i. h m (there i)))

  pub regions_same : (whole : Bool) (body : StmtTrees) → ((n : ℕ) → In n (numbers body) → f n ≡ g n) → list_regions t f whole body ≡ list_regions t g whole body
  regions_same whole body h =
      ap (λ rs. if unstructured whole body then all_inexact (unite_all (all_forgetting (list_at t whole body).cells rs)) else in_order t f (numbers body)) (accesses_same (numbers body) h)
      ∙ ap (λ rs. if unstructured whole body then in_any_order (list_at t whole body).cells g (numbers body) else rs) (order_same (numbers body) h)

-- ---- what is known

-- C0: what is claimed of executions beside; Fits: what is known of locks; I: what holds at each store of the module that runs
module _ (C0 C : Claim) (k : Frame) (Fits : Locks → (ℕ → Bool) → Type 0) (I : Store → Type 0) (acc : List (At (List Region))) (called : Called) where
  -- READ and WRITE are looked up by the number of the statement
  abbrev pub FoundR : At (List Region) → Type 0
  FoundR a = set_at acc a.id ≡ a.value

  -- an execution of the statement is claimed, where its IN regions show what it reads first
  abbrev pub OwesIn : At (List Region) → Type 0
  OwesIn a = (locked : Locks) (s : Store) (q : Ran Flow) → FirstShown k false locked a.value s q.answer q.trace → C (spot k.sc.module_name a.id) k.at s q

  -- what a CALL reads first
  abbrev pub CallFirst : CallAt → Type 0
  CallFirst c = actuals_plain k.scalar c.actuals ≡ true → (locked : Locks) (still : ℕ → Bool) → Fits locked still → UnitsFit k locked → (z : Store) → I z → Goes C (call_at k.base Fits c locked) z (λ a y es. FirstShown k false locked (called c.callee c.actuals) z a es)

  pub record StandsIn (ns : List ℕ) (ts : List (At Transformer)) (rs is : List (At (List Region))) (b r : Bool) (cs : List CallAt) : Type 0 where
    pub base : Stands C0 k.base Fits I ns ts rs b r cs
    pub found : Each FoundR rs
    pub owes : Each OwesIn is
    pub calls : Each CallFirst cs

  abbrev T : KnownTree
  T = known_in k acc called

  abbrev pub StandsStmt : StmtTree → Bool → Type 0
  StandsStmt s last = StandsIn (stmt_numbers s) (transformers.at_stmt s k.m k.cs last) (regions.at_stmt s k.m k.does k.calls) (ins.at_stmt s T) (stmt_has (bad C0 k.base Fits I) s) (stmt_has (rough C0 k.base Fits I) s) (stmt_calls s)

  abbrev pub StandsParts : WhatTree → ℕ → Type 0
  StandsParts w n = StandsIn (part_numbers w) (transformers.at_parts w k.m k.cs) (regions.at_parts w k.m k.does k.calls) (ins.at_parts w T) (parts_have (bad C0 k.base Fits I) w) (parts_have (rough C0 k.base Fits I) w) (what_calls w n)

  abbrev pub StandsList : StmtTrees → Bool → Type 0
  StandsList ss whole = StandsIn (list_numbers ss) (transformers.at_list ss k.m k.cs whole) (regions.at_list ss k.m k.does k.calls) (ins.at_list ss T) (list_has (bad C0 k.base Fits I) ss) (list_has (rough C0 k.base Fits I) ss) (list_calls ss)

  abbrev pub StandsArms : ArmTrees → Type 0
  StandsArms arms = StandsIn (arms_numbers arms) (transformers.at_arms arms k.m k.cs) (regions.at_arms arms k.m k.does k.calls) (ins.at_arms arms T) (arms_have (bad C0 k.base Fits I) arms) (arms_have (rough C0 k.base Fits I) arms) (arms_calls arms)

  abbrev pub StandsArm : ArmTree → Type 0
  StandsArm a = StandsIn (arm_numbers a) (transformers.at_arm a k.m k.cs) (regions.at_arm a k.m k.does k.calls) (ins.at_arm a T) (arm_has (bad C0 k.base Fits I) a) (arm_has (rough C0 k.base Fits I) a) (arm_calls a)

  abbrev pub StandsElse : ElseTree → Type 0
  StandsElse other = StandsIn (else_numbers other) (transformers.at_else other k.m k.cs) (regions.at_else other k.m k.does k.calls) (ins.at_else other T) (else_has (bad C0 k.base Fits I) other) (else_has (rough C0 k.base Fits I) other) (else_calls other)

  in_parts : (ns ms : List ℕ) (ts us : List (At Transformer)) (rs qs is js : List (At (List Region))) (a b c d : Bool) (cs ds : List CallAt) → StandsIn (ns ++ ms) (ts ++ us) (rs ++ qs) (is ++ js) (a || b) (c || d) (cs ++ ds) → StandsIn ns ts rs is a c cs × StandsIn ms us qs js b d ds
  in_parts ns ms ts us rs qs is js a b c d cs ds h =
      let o = stands_parts C0 k.base Fits I ns ms ts us rs qs a b c d cs ds h.base in
      let f = each_parts FoundR rs qs h.found in
      let w = each_parts OwesIn is js h.owes in
      let q = each_parts CallFirst cs ds h.calls in
      (record { base = o.0; found = f.0; owes = w.0; calls = q.0 }, record { base = o.1; found = f.1; owes = w.1; calls = q.1 })

  pub in_next : (s : StmtTree) (rest : StmtTrees) (whole : Bool) → StandsList (tree.more_stmts s rest) whole → StandsStmt s (whole && is_end rest) × StandsList rest whole
  in_next s rest whole h = in_parts (stmt_numbers s) (list_numbers rest) _ _ _ _ (ins.at_stmt s T) (ins.at_list rest T) (stmt_has (bad C0 k.base Fits I) s) (list_has (bad C0 k.base Fits I) rest) (stmt_has (rough C0 k.base Fits I) s) (list_has (rough C0 k.base Fits I) rest) (stmt_calls s) (list_calls rest) h

  pub in_arms : (a : ArmTree) (rest : ArmTrees) → StandsArms (tree.more_arms a rest) → StandsArm a × StandsArms rest
  in_arms a rest h = in_parts (arm_numbers a) (arms_numbers rest) _ _ _ _ (ins.at_arm a T) (ins.at_arms rest T) (arm_has (bad C0 k.base Fits I) a) (arms_have (bad C0 k.base Fits I) rest) (arm_has (rough C0 k.base Fits I) a) (arms_have (rough C0 k.base Fits I) rest) (arm_calls a) (arms_calls rest) h

  pub in_if : (arms : ArmTrees) (other : ElseTree) (n : ℕ) → StandsParts (tree.block_if arms other) n → StandsArms arms × StandsElse other
  in_if arms other n h = in_parts (arms_numbers arms) (else_numbers other) _ _ _ _ (ins.at_arms arms T) (ins.at_else other T) (arms_have (bad C0 k.base Fits I) arms) (else_has (bad C0 k.base Fits I) other) (arms_have (rough C0 k.base Fits I) arms) (else_has (rough C0 k.base Fits I) other) (arms_calls arms) (else_calls other) h

  -- of a statement itself, and of its parts
  pub record InAt (n : ℕ) (w : WhatTree) (last : Bool) : Type 0 where
    pub base : StandsAt C0 k.base Fits I n w last
    pub found : set_at acc n ≡ regions.what_set w k.m k.does k.calls
    pub owes : OwesIn (transformers.at n (what_in n w T))

  pub in_at : (n : ℕ) (label : Option ℕ) (w : WhatTree) (last : Bool) → StandsStmt (tree.stmt n label w) last → InAt n w last
  in_at n label w last h = record { base = stands_at C0 k.base Fits I n label w last h.base; found = h.found.0; owes = h.owes.0 }

  pub in_within : (n : ℕ) (label : Option ℕ) (w : WhatTree) (last : Bool) → StandsStmt (tree.stmt n label w) last → StandsParts w n
  in_within n label w last h = record { base = stands_within C0 k.base Fits I n label w last h.base; found = h.found.1; owes = h.owes.1; calls = h.calls }

  -- READ and WRITE of a list that are looked up are those of its own
  pub body_same : (body : StmtTrees) (whole : Bool) → StandsList body whole → list_regions k.does (accesses_at acc) false body ≡ list_regions k.does (accesses_at (regions.at_list body k.m k.does k.calls)) false body
  body_same body whole h = regions_same k.does (accesses_at acc) (accesses_at (regions.at_list body k.m k.does k.calls)) false body (each body (λ a i. i) whole h)
    where
      each : (ss : StmtTrees) → ((a : At (List Region)) → In a (regions.at_list ss k.m k.does k.calls) → In a (regions.at_list body k.m k.does k.calls)) → (whole : Bool) → StandsList ss whole → (n : ℕ) → In n (numbers ss) → accesses_at acc n ≡ accesses_at (regions.at_list body k.m k.does k.calls) n
      each tree.no_stmts f o g n i = elim i [ ]
      each (tree.more_stmts (tree.stmt j label w) rest) f o g n i = one n i (λ l y. each rest (λ a z. f a (in_right a (regions.at_stmt (tree.stmt j label w) k.m k.does k.calls) (regions.at_list rest k.m k.does k.calls) z)) o q.1 l y)
        where
          q : StandsStmt (tree.stmt j label w) (o && is_end rest) × StandsList rest o
          q = in_next (tree.stmt j label w) rest o g

          one : (l : ℕ) → In l (j ∷ numbers rest) → ((n : ℕ) → In n (numbers rest) → accesses_at acc n ≡ accesses_at (regions.at_list body k.m k.does k.calls) n) → accesses_at acc l ≡ accesses_at (regions.at_list body k.m k.does k.calls) l
          one l here ih = ap accesses (in_at j label w (o && is_end rest) q.0).found ∙ sym (accesses_found (regions.at_list body k.m k.does k.calls) (subst Distinct (sym (r_list k.m k.does k.calls body)) h.base.numbers) j (regions.what_set w k.m k.does k.calls) (f (record { id = j; value = regions.what_set w k.m k.does k.calls }) here))
          one l (there y) ih = ih l y

  -- IN of a statement of a list is found by its number
  pub in_found : (all : StmtTrees) → Distinct (list_numbers all) → (n : ℕ) (w : WhatTree) → In (transformers.at n (what_in n w T)) (ins.at_list all T) → set_at (ins.at_list all T) n ≡ what_in n w T
  in_found all d n w i = ap or_none (value_found (ins.at_list all T) (subst Distinct (sym (i_list T all)) d) (transformers.at n (what_in n w T)) i)
