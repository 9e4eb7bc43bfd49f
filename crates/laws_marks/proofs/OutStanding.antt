-- Statements of a module, with what is known of their OUT regions by their numbers.
use Rattle.std.proofs.Common.{◌≡◌, ℕ, List, [], ◌∷◌, ◌++◌, Option, Bool, true, refl, sym, ap, ◌∙◌}
use Rattle.std.specs.Prelude.{if◌then◌else◌}
use Rattle.f77_ast.specs.Trees.{StmtTree, WhatTree, ArmTree, ArmTrees, ElseTree, LoopTree, StmtTrees}
use Rattle.f77_ast.specs.Trees as tree
use Rattle.f77_ast.specs.Store.{Store}
use Rattle.f77_ast.specs.Runs.{Event, Ran}
use Rattle.f77_ast.specs.Writes.{Locks}
use Rattle.f77_ast.specs.Plans.{Flow}
use Rattle.f77_ast.specs.Executions.{Claim}
use Rattle.f77_ast.specs.Statements.{spot}
use Rattle.f77_ast.specs.StatementNumbers.{list_numbers}
use Rattle.f77_ast.specs.declared.results.At.{At}
use Rattle.f77_ast.specs.Symbols.{SymbolTree}
use Rattle.f77_meaning.specs.Occurrences.{Occurrence}
use Rattle.preconditions.specs.transformer_algebra.declared.transformer.Transformer.{Transformer}
use Rattle.preconditions.specs.transformer_algebra.Laws.{In, here, there}
use Rattle.preconditions.specs.transformers.Jumps.{unstructured}
use Rattle.preconditions.specs.transformers.Lists.{list_at}
use Rattle.preconditions.specs.transformers.Statement as transformers
use Rattle.in_out_regions.specs.region_sets.declared.region.Region.{Region}
use Rattle.in_out_regions.specs.region_sets.Lists.{all_forgetting, all_inexact, in_any_order, numbers, set_at}
use Rattle.in_out_regions.specs.region_sets.Sets.{unite_all}
use Rattle.in_out_regions.specs.array_regions.Calls.{Called}
use Rattle.in_out_regions.specs.Known.{KnownTree}
use Rattle.in_out_regions.specs.Lists.{before_rest, ins_in_order, list_in}
use Rattle.in_out_regions.specs.Statement.{what_in}
use Rattle.in_out_regions.specs.Statement as ins
use Rattle.loop_marker.specs.out_regions.Known as outs
use Rattle.loop_marker.specs.out_regions.Used.{used}
use Rattle.loop_marker.specs.out_regions.Lists.{writes}
use Rattle.call_graph.specs.CallsIn.{CallAt, Each, stmt_calls, what_calls, list_calls, arms_calls, arm_calls, else_calls}
use Rattle.laws_analyses.proofs.Statements.Placing.{each_parts}
use Rattle.laws_analyses.specs.Regions.Settings.{actuals_plain}
use Rattle.laws_analyses.proofs.Regions.Standing.{Distinct, call_at}
use Rattle.laws_marks.specs.InFrames.{Frame}
use Rattle.laws_marks.specs.InUnits.{UnitsFit}
use Rattle.laws_marks.specs.InKnowns.{known_in}
use Rattle.laws_marks.proofs.InStanding.{in_found, accesses_same}
use Rattle.laws_marks.specs.OutShown.{OutShown, IsHanded}
use Rattle.laws_marks.proofs.OutHands.{Hands}
use Rattle.preconditions.proofs.TransformerAlgebra.Members.{in_right}

-- ---- IN of a list, by sets that are looked up elsewhere and are the same

module _ (ss : List SymbolTree) (t : ℕ → Transformer) (f g h : ℕ → List Region) where
  order_same : (ns : List ℕ) → ((n : ℕ) → In n ns → g n ≡ h n) → ins_in_order ss t f g ns ≡ ins_in_order ss t f h ns
  order_same [] e = refl
  order_same (n ∷ ns) e = ap (λ rs. before_rest ss rs (f n) (t n) (ins_in_order ss t f g ns)) (e n here) ∙ ap (λ rs. before_rest ss (h n) (f n) (t n) rs) (order_same ns (λ m i. e m (there i)))

  pub list_same : (whole : Bool) (body : StmtTrees) → ((n : ℕ) → In n (numbers body) → g n ≡ h n) → list_in ss t f g whole body ≡ list_in ss t f h whole body
  list_same whole body e =
      ap (λ rs. if unstructured whole body then all_inexact (unite_all (all_forgetting (list_at t whole body).cells rs)) else ins_in_order ss t f g (numbers body)) (accesses_same t g h (numbers body) e)
      ∙ ap (λ rs. if unstructured whole body then in_any_order (list_at t whole body).cells h (numbers body) else rs) (order_same (numbers body) e)

-- ---- what is known

-- C0, C: what READ and WRITE, and IN, claim of executions beside; O: what is claimed here
module _ (C0 C : Claim) (O : Occurrence → Type 0) (lost : ℕ → Bool) (k : Frame) (Fits : Locks → (ℕ → Bool) → Type 0) (I : Store → Type 0) (acc isets osets : List (At (List Region))) (called : Called) where
  abbrev pub T : KnownTree
  T = known_in k acc called

  abbrev pub U : outs.KnownTree
  U = record { scope = k.m; does = k.does; accesses = acc; ins = isets }

  -- IN is looked up by the number of the statement
  abbrev pub FoundI : At (List Region) → Type 0
  FoundI a = set_at isets a.id ≡ a.value

  -- so is OUT, and an execution of the statement is claimed, where its OUT regions show what is needed of it later
  pub record OwesOut (a : At (List Region)) : Type 0 where
    pub found : set_at osets a.id ≡ a.value
    pub owes : (s : Store) (q : Ran Flow) (later : List Event) → OutShown k a.value s q.trace later → O (record { spot = spot k.sc.module_name a.id; places = k.at; start = s; ran = q; later = later })

  -- a CALL hands down what is needed of it, by its OUT regions
  abbrev pub CallOut : CallAt → Type 0
  CallOut c =
      actuals_plain k.scalar c.actuals ≡ true → (locked : Locks) (still : ℕ → Bool) → Fits locked still → UnitsFit k locked → (us : List Region) → set_at osets c.number ≡ used k.m.symbols us (writes (set_at acc c.number)) → (z : Store) → I z →
      Hands O lost (call_at k.base Fits c locked) z (λ es later. IsHanded k (writes (set_at acc c.number)) (set_at osets c.number) z es later)

  pub record StandsOut (is : List (At (List Region))) (cs : List CallAt) : Type 0 where
    pub found : Each FoundI is
    pub calls : Each CallOut cs

  out_parts : (is js : List (At (List Region))) (cs ds : List CallAt) → StandsOut (is ++ js) (cs ++ ds) → StandsOut is cs × StandsOut js ds
  out_parts is js cs ds h =
      let f = each_parts FoundI is js h.found in
      let q = each_parts CallOut cs ds h.calls in
      (record { found = f.0; calls = q.0 }, record { found = f.1; calls = q.1 })

  abbrev pub OutStmt : StmtTree → Type 0
  OutStmt s = StandsOut (ins.at_stmt s T) (stmt_calls s)

  abbrev pub OutParts : WhatTree → ℕ → Type 0
  OutParts w n = StandsOut (ins.at_parts w T) (what_calls w n)

  abbrev pub OutList : StmtTrees → Type 0
  OutList ss = StandsOut (ins.at_list ss T) (list_calls ss)

  abbrev pub OutArms : ArmTrees → Type 0
  OutArms arms = StandsOut (ins.at_arms arms T) (arms_calls arms)

  abbrev pub OutArm : ArmTree → Type 0
  OutArm a = StandsOut (ins.at_arm a T) (arm_calls a)

  abbrev pub OutElse : ElseTree → Type 0
  OutElse other = StandsOut (ins.at_else other T) (else_calls other)

  pub out_next : (s : StmtTree) (rest : StmtTrees) → OutList (tree.more_stmts s rest) → OutStmt s × OutList rest
  out_next s rest h = out_parts (ins.at_stmt s T) (ins.at_list rest T) (stmt_calls s) (list_calls rest) h

  pub out_arms : (a : ArmTree) (rest : ArmTrees) → OutArms (tree.more_arms a rest) → OutArm a × OutArms rest
  out_arms a rest h = out_parts (ins.at_arm a T) (ins.at_arms rest T) (arm_calls a) (arms_calls rest) h

  pub out_if : (arms : ArmTrees) (other : ElseTree) (n : ℕ) → OutParts (tree.block_if arms other) n → OutArms arms × OutElse other
  out_if arms other n h = out_parts (ins.at_arms arms T) (ins.at_else other T) (arms_calls arms) (else_calls other) h

  pub out_within : (n : ℕ) (label : Option ℕ) (w : WhatTree) → OutStmt (tree.stmt n label w) → OutParts w n
  out_within n label w h = record { found = h.found.1; calls = h.calls }

  -- the IN regions of the statements of a list are those that are looked up
  pub sets_same : (all : StmtTrees) → Distinct (list_numbers all) → OutList all → (n : ℕ) → In n (numbers all) → set_at isets n ≡ set_at (ins.at_list all T) n
  sets_same all d h = each all (λ a i. i) h
    where
      each : (ss : StmtTrees) → ((a : At (List Region)) → In a (ins.at_list ss T) → In a (ins.at_list all T)) → OutList ss → (n : ℕ) → In n (numbers ss) → set_at isets n ≡ set_at (ins.at_list all T) n
      each tree.no_stmts f o n i = elim i [ ]
      each (tree.more_stmts (tree.stmt j label w) rest) f o n i = one n i (λ l y. each rest (λ a z. f a (in_right a (ins.at_stmt (tree.stmt j label w) T) (ins.at_list rest T) z)) q.1 l y)
        where
          q : OutStmt (tree.stmt j label w) × OutList rest
          q = out_next (tree.stmt j label w) rest o

          one : (l : ℕ) → In l (j ∷ numbers rest) → ((n : ℕ) → In n (numbers rest) → set_at isets n ≡ set_at (ins.at_list all T) n) → set_at isets l ≡ set_at (ins.at_list all T) l
          one l here ih = q.0.found.0 ∙ sym (in_found C0 C k Fits I acc called all d j w (f (transformers.at j (what_in j w T)) here))
          one l (there y) ih = ih l y

  -- IN of a list
  pub ins_same : (whole : Bool) (body : StmtTrees) → Distinct (list_numbers body) → OutList body → list_in k.m.symbols k.does (set_at acc) (set_at isets) whole body ≡ ins.list_of whole body T (ins.at_list body T)
  ins_same whole body d h = list_same k.m.symbols k.does (set_at acc) (set_at isets) (set_at (ins.at_list body T)) whole body (sets_same body d h)
