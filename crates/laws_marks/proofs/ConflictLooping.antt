-- What is claimed of the iterations of a DO of a module that runs.
use Rattle.std.proofs.Common.{◌≡◌, ℕ, ℤ, suc, List, [], ◌∷◌, ◌&&◌, Option, Some, None, Bool, true, false, refl, sym, ap, ◌∙◌, subst, nat_eq}
use Rattle.std.specs.Prelude.{slice_get}
use Rattle.std.proofs.lemmas.Bool.{and_parts, or_parts, not-false}
use Rattle.affine_systems.specs.declared.row.System.{System}
use Rattle.f77_ast.specs.Trees.{ExprTree, LoopTree, StmtTrees}
use Rattle.f77_ast.specs.Trees as tree
use Rattle.f77_ast.specs.Store.{Content, Store}
use Rattle.f77_ast.specs.Faults.{Locked}
use Rattle.f77_ast.specs.Runs.{Ran}
use Rattle.f77_ast.specs.Places.{Variable}
use Rattle.f77_ast.specs.Writes.{Locks, lock}
use Rattle.f77_ast.specs.Plans.{Flow}
use Rattle.f77_ast.specs.Executions.{Claim}
use Rattle.f77_ast.specs.Lists.{list_plan}
use Rattle.f77_ast.specs.StatementNumbers.{list_numbers}
use Rattle.f77_ast.specs.Statements.{spot, do_plan, parts}
use Rattle.f77_ast.specs.declared.results.At.{At}
use Rattle.affine_forms.specs.Conditions.{no_rows}
use Rattle.preconditions.specs.transformer_algebra.declared.loop_parts.LoopParts.{LoopParts}
use Rattle.preconditions.specs.transformer_algebra.Loops.{iteration}
use Rattle.preconditions.specs.transformers.Jumps.{list_has}
use Rattle.preconditions.specs.transformers.Statement.{body_transformer}
use Rattle.laws_analyses.specs.Statements.Leads.{list_leads}
use Rattle.affine_forms.specs.Scalars.{is_cell}
use Rattle.affine_forms.specs.Claims.{unit_in, numbers_of}
use Rattle.preconditions.specs.transformer_algebra.Claims.{Scene, HoldsAt, Kept, Chain, none_yet, then_iteration}
use Rattle.preconditions.specs.transformer_algebra.Cells.{has}
use Rattle.preconditions.specs.transformer_algebra.Laws.{In}
use Rattle.preconditions.specs.transformer_algebra.declared.transformer.Transformer.{Transformer}
use Rattle.preconditions.proofs.TransformerAlgebra.CellLaws.{right_out}
use Rattle.preconditions.specs.transformers.Loops.{number_in, loop_parts}
use Rattle.preconditions.specs.transformers.Lists.{list_of as transformer_of, list_at}
use Rattle.in_out_regions.specs.region_sets.declared.region.Region.{Region}
use Rattle.in_out_regions.specs.region_sets.Lists.{accesses_at, list_regions, set_at}
use Rattle.in_out_regions.specs.array_regions.Loops.{range_with}
use Rattle.in_out_regions.specs.array_regions.Calls.{Called}
use Rattle.in_out_regions.specs.region_sets.declared.region.Access.TheVariants.{In as AtIn}
use Rattle.in_out_regions.specs.region_sets.Claims.{LiesInSet}
use Rattle.in_out_regions.specs.Statement.{list_of, at_list, at_loop}
use Rattle.loop_marker.specs.privatizer.Uses.{ins_in}
use Rattle.loop_marker.specs.dependence_test.declared.body.LoopBody.{LoopBody}
use Rattle.loop_marker.specs.dependence_test.Body.{system_at, head_of, body_of}
use Rattle.loop_marker.specs.dependence_test.declared.answer.Conflict.TheVariants as answer
use Rattle.loop_marker.specs.dependence_test.Conflicts.{kept_system, conflict_of}
use Rattle.loop_marker.proofs.DependenceTest.RangeLaws.{has_range}
use Rattle.laws_analyses.specs.Statements.Good.{AtEach, Ending}
use Rattle.call_graph.specs.CallsIn.{list_calls}
use Rattle.laws_analyses.specs.Statements.Activation.{Fit, Ended}
use Rattle.laws_analyses.proofs.Statements.Loops.{also}
use Rattle.laws_analyses.specs.Regions.Settings.{scene, Sound, is_plain, maybe_plain, has_plain, elements_with}
use Rattle.laws_analyses.specs.Regions.Shown.{Shown}
use Rattle.laws_analyses.proofs.Regions.Moving.{list_moves}
use Rattle.laws_analyses.proofs.Regions.Rules.{Goes}
use Rattle.laws_analyses.proofs.Regions.Standing.{Distinct, found_each}
use Rattle.laws_analyses.proofs.Regions.Statements.{body_goes}
use Rattle.laws_marks.specs.InFrames.{Frame, elements_in}
use Rattle.laws_marks.specs.InKnowns.{known_in}
use Rattle.laws_marks.specs.InShown.{FirstHolds, FirstShown}
use Rattle.laws_marks.specs.InUnits.{UnitsFit, SetsFit}
use Rattle.laws_marks.proofs.InFramed.{lies_back}
use Rattle.laws_marks.proofs.InSimple.{goes_both}
use Rattle.laws_marks.proofs.InStanding.{StandsParts, StandsList, InAt, body_same}
use Rattle.laws_marks.proofs.InStatements.{units_lock, body_first}
use Rattle.laws_marks.specs.ConflictIterations.{Iteration, iterations}
use Rattle.laws_marks.specs.ConflictClaims.{scene_in, KnownLoop, IterationIs, LoopIs}
use Rattle.laws_marks.proofs.ConflictCopies.{AllSole, written_first}
use Rattle.laws_marks.proofs.ConflictCuts.{at_place}
use Rattle.laws_marks.proofs.ConflictDoing.{Turned, Cut, do_cut}
use Rattle.laws_marks.proofs.ConflictInside.{ins_same}
use Rattle.laws_marks.proofs.ConflictMeeting.{Known, do_not_meet}
use Rattle.laws_marks.proofs.ConflictNarrows.{AreNarrow}
use Rattle.laws_marks.proofs.ConflictReaching.{calls_end, turn_keeps}
use Rattle.f77_ast.specs.Shapes.{is_return}

-- a cell that an iteration does not change keeps its number over iterations
chain_keeps : (m : Scene) (t : Transformer) (x y : ℕ → ℤ) (c : ℕ) → m.tracked c ≡ true → has t.cells c ≡ false → Chain m t x y → y (m.unit c) ≡ x (m.unit c)
chain_keeps m t x y c e h none_yet = refl
chain_keeps m t x z c e h (then_iteration {y = y} ch d) = d.kept.cells c e h ∙ chain_keeps m t x y c e h ch

-- no conflict was kept
none_kept : (o : Option System) → conflict_of o ≡ answer.None → o ≡ None
none_kept None e = refl
none_kept (Some s) e = cc

module _ (k : Frame) (sound : Sound k.base) (C0 D0 : Claim) (Fits : Locks → (ℕ → Bool) → Type 0) (base : (locked : Locks) (still : ℕ → Bool) → Fits locked still → Fit k.sc.names k.scalar k.at (scene k.base) locked still) (more_fits : (locked : Locks) (still : ℕ → Bool) (x : List ℕ) (v : ℕ) → k.sc.names x ≡ Variable v → k.scalar x ≡ true → Fits locked still → Fits (lock locked (k.at v).first Locked) (also still (k.at v).first)) (I : Store → Type 0) (acc : List (At (List Region))) (called : Called) (sets : SetsFit k acc) (narrow : (ss : StmtTrees) → AreNarrow k (list_regions k.does (accesses_at acc) false ss))
    (sole : AllSole k) (all : StmtTrees) (distinct : Distinct (list_numbers all)) (D : Claim) (holding : List (At System)) (knows : (n : ℕ) (s : Store) (q : Ran Flow) → D (spot k.sc.module_name (suc n)) k.at s q → HoldsAt (scene k.base) (system_at holding (suc n)) (numbers_of s)) where
  -- the body of a DO at the beginning of an iteration
  body_shown : (index : List ℕ) (body : StmtTrees) (locked : Locks) (still : ℕ → Bool) → UnitsFit k locked → StandsList C0 D0 k Fits I acc called body false → (y : Store) → Fits (lock locked (unit_in k.at (number_in k.m index)) Locked) (also still (unit_in k.at (number_in k.m index))) → I y →
      Goes D0 (list_plan k.sc.turns (parts body k.sc k.at (lock locked (unit_in k.at (number_in k.m index)) Locked))) y (λ a x fs. Shown k.base false (list_regions k.does (accesses_at acc) false body) y a fs × FirstShown k false (lock locked (unit_in k.at (number_in k.m index)) Locked) (list_of false body (known_in k acc called) (at_list body (known_in k acc called))) y a fs)
  body_shown index body locked still units pa y f iy =
      goes_both C0 D0 (list_plan k.sc.turns (parts body k.sc k.at (lock locked (unit_in k.at (number_in k.m index)) Locked))) y (λ a x fs. Shown k.base false (list_regions k.does (accesses_at acc) false body) y a fs) (λ a x fs. FirstShown k false (lock locked (unit_in k.at (number_in k.m index)) Locked) (list_of false body (known_in k acc called) (at_list body (known_in k acc called))) y a fs)
      (subst (λ rs. Goes C0 (list_plan k.sc.turns (parts body k.sc k.at (lock locked (unit_in k.at (number_in k.m index)) Locked))) y (λ a x fs. Shown k.base false rs y a fs)) (sym (body_same C0 D0 k Fits I acc called body false pa))
      (body_goes k.base sound C0 Fits base more_fits I body false (lock locked (unit_in k.at (number_in k.m index)) Locked) (also still (unit_in k.at (number_in k.m index))) f pa.base y iy))
      (body_first k sound C0 D0 Fits base more_fits I acc called sets body false (lock locked (unit_in k.at (number_in k.m index)) Locked) (also still (unit_in k.at (number_in k.m index))) f (units_lock k locked (unit_in k.at (number_in k.m index)) Locked units) pa y iy)

  module _ (index : List ℕ) (e1 e2 : ExprTree) (e3 : Option ExprTree) (body : StmtTrees) (n : ℕ) (last : Bool) (locked : Locks) (still : ℕ → Bool) (fit : Fits locked still) (units : UnitsFit k locked) (st : InAt C0 D0 k Fits I acc called n (tree.do_loop (tree.loop index e1 e2 e3 body)) last) (pa : StandsParts C0 D0 k Fits I acc called (tree.do_loop (tree.loop index e1 e2 e3 body)) n) (among : (a : At (List Region)) → In a (at_list body (known_in k acc called)) → In a (at_list all (known_in k acc called))) (z : Store) (iz : I z) (i : List Content) (at : AtEach D (do_plan (tree.loop index e1 e2 e3 body) k.sc k.at locked) z i) where
    abbrev L : LoopTree
    L = tree.loop index e1 e2 e3 body

    abbrev lp : LoopParts
    lp = loop_parts k.m (tree.loop index e1 e2 e3 body) (list_at k.does false body)

    abbrev inner : Locks
    inner = lock locked (unit_in k.at (number_in k.m index)) Locked

    abbrev ws : List Region
    ws = list_regions k.does (accesses_at acc) false body

    abbrev is : List Region
    is = list_of false body (known_in k acc called) (at_list body (known_in k acc called))

    abbrev b : LoopBody
    b = body_of (tree.loop index e1 e2 e3 body) k.m k.does holding (accesses_at acc)

    abbrev d : KnownLoop
    d = record {
      loop = tree.loop index e1 e2 e3 body;
      body = body_of (tree.loop index e1 e2 e3 body) k.m k.does holding (accesses_at acc);
      ins = ins_in k.m.symbols k.does (set_at acc) (set_at (at_list all (known_in k acc called))) (tree.loop index e1 e2 e3 body);
    }

    abbrev its : List Iteration
    its = iterations (do_plan (tree.loop index e1 e2 e3 body) k.sc k.at locked) z i

    plain : (k.scalar index ≡ true) × (is_plain k.scalar e1 ≡ true) × (is_plain k.scalar e2 ≡ true) × (maybe_plain k.scalar e3 ≡ true)
    plain =
        let p = and_parts (k.scalar index) (is_plain k.scalar e1 && (is_plain k.scalar e2 && maybe_plain k.scalar e3)) (not-false (has_plain k.scalar (tree.do_loop (tree.loop index e1 e2 e3 body))) st.base.plain) in
        let q = and_parts (is_plain k.scalar e1) (is_plain k.scalar e2 && maybe_plain k.scalar e3) p.1 in
        let r = and_parts (is_plain k.scalar e2) (maybe_plain k.scalar e3) q.1 in
        (p.0, q.0, r.0, r.1)

    path : list_at k.does false body ≡ body_transformer (tree.loop index e1 e2 e3 body) k.m k.cs
    path = ap (λ xs. transformer_of false body xs) (found_each C0 k.base Fits I body false pa.base)

    moves : (y : Store) → Fits inner (also still (unit_in k.at (number_in k.m index))) → Ending (list_plan k.sc.turns (parts body k.sc k.at inner)) y (Ended (scene k.base) (body_transformer (tree.loop index e1 e2 e3 body) k.m k.cs) no_rows (λ ls. list_leads body ls) (list_has is_return body) false (also still (unit_in k.at (number_in k.m index))) y)
    moves y f = list_moves k.base sound Fits base more_fits body false inner (also still (unit_in k.at (number_in k.m index))) f pa.base.numbers pa.base.found pa.base.targets (calls_end k sound C0 D0 Fits base more_fits I acc called (list_calls body) pa.base.calls) y

    keeps : (y v : Store) → Kept (scene k.base) (iteration lp).cells (iteration lp).foreign (numbers_of y) (numbers_of v) → I y → I v
    keeps = turn_keeps k sound C0 D0 Fits base more_fits I acc called index e1 e2 e3 body path st.base.keeps

    cut : Cut k sound C0 D0 Fits base more_fits I acc called index e1 e2 e3 body locked still fit z iz plain.0 path moves keeps ws is (head_of holding body) its
    cut =
        do_cut k sound C0 D0 Fits base more_fits I acc called index e1 e2 e3 body locked still fit z iz plain.0 path moves keeps D holding knows pa ws is
        (λ y f iy. body_shown index body locked still units pa y f iy) plain.1 plain.2 plain.3 i at

    turned : (j : ℕ) (it : Iteration) → slice_get its j ≡ Some it → Turned k sound C0 D0 Fits base more_fits I acc called index e1 e2 e3 body locked still fit z iz plain.0 path moves keeps ws is (head_of holding body) cut.first cut.last j it
    turned j it e = at_place (Turned k sound C0 D0 Fits base more_fits I acc called index e1 e2 e3 body locked still fit z iz plain.0 path moves keeps ws is (head_of holding body) cut.first cut.last) its cut.each j it e

    known : (j : ℕ) (it : Iteration) → slice_get its j ≡ Some it → Known k inner b (range_with lp) (numbers_of z) cut.first cut.last j it
    known j it e = (let h = turned j it e in record { number = h.number; iteration = h.iteration; holds = h.holds; accesses = h.accesses; free = h.free })

    -- cells that are not among those of the body
    steady : (j : ℕ) (it : Iteration) → slice_get its j ≡ Some it → (c : ℕ) → is_cell k.m.tracked c ≡ true → has b.cells c ≡ false → numbers_of it.start (unit_in k.at c) ≡ numbers_of z (unit_in k.at c)
    steady j it e c t h =
        let n = (turned j it e).iteration in
        chain_keeps (scene k.base) (iteration lp) n.begin (numbers_of it.start) c t ((has_range L k.m k.does holding (accesses_at acc)).cells c h) n.chain
        ∙ n.wrote.cells c t (or_parts (nat_eq lp.index c) false (right_out lp.body.cells (lp.index ∷ []) c h)).0

    -- IN by the results of the module
    ins_are : ins_in k.m.symbols k.does (set_at acc) (set_at (at_list all (known_in k acc called))) L ≡ is
    ins_are = ins_same C0 D0 k Fits I acc called all distinct body pa.base.numbers among (set_at acc)

    first_in : (it : Iteration) (u : ℕ) → LiesInSet (scene k.base) (elements_in k) AtIn is (numbers_of it.start) u → LiesInSet (scene_in k.m k.at) (elements_with k.ks k.g k.m.symbols k.at) AtIn is (numbers_of it.start) u
    first_in it u l = (let w = lies_back k l.region (numbers_of it.start) u l.lies in record { region = l.region; is_one = l.is_one; kind = l.kind; lies = record { phi = w.phi; there = w.there; described = w.described } })

    iteration_is : (j : ℕ) (it : Iteration) → slice_get its j ≡ Some it → IterationIs k.ks k.g k.m k.at d z it
    iteration_is j it e =
        let h = turned j it e in
        record {
          head = h.holds;
          steady = steady j it e;
          accesses = λ a u t. (let l = h.accesses a u t in record { region = l.region; is_one = l.is_one; kind = l.kind; lies = record { phi = l.lies.phi; there = l.lies.there; described = l.lies.described } });
          firsts = λ u t. subst (λ rs. LiesInSet (scene_in k.m k.at) (elements_with k.ks k.g k.m.symbols k.at) AtIn rs (numbers_of it.start) u) (sym ins_are) (first_in it u (h.firsts u t));
          leaves = h.leaves;
        }

    pub this_is : LoopIs k.ks k.g k.m k.at d z its
    this_is = record {
      each = iteration_is;
      private = λ t before outs v yes alone j it e phi u p.
          written_first k inner (units_lock k locked (unit_in k.at (number_in k.m index)) Locked units) sole L (head_of holding body) (ins_in k.m.symbols k.does (set_at acc) (set_at (at_list all (known_in k acc called))) L) it (turned j it e).holds
          (subst (λ rs. FirstHolds k rs it.start it.did) (sym ins_are) (turned j it e).firsts) (turned j it e).free t before outs v yes alone phi u p;
      apart = λ v kinds none j j' x y less e f u m.
          do_not_meet k inner (units_lock k locked (unit_in k.at (number_in k.m index)) Locked units) b (narrow body) (range_with lp) (has_range L k.m k.does holding (accesses_at acc)) (numbers_of z) cut.first cut.last
          v kinds (none_kept (kept_system k.m.symbols b v kinds) none) j j' less x y (known j x e) (known j' y f) u m;
    }

  pub loop_is : (l : LoopTree) (n : ℕ) (last : Bool) (locked : Locks) (still : ℕ → Bool) → Fits locked still → UnitsFit k locked → InAt C0 D0 k Fits I acc called n (tree.do_loop l) last → StandsParts C0 D0 k Fits I acc called (tree.do_loop l) n → ((a : At (List Region)) → In a (at_loop l (known_in k acc called)) → In a (at_list all (known_in k acc called))) → (z : Store) → I z → (i : List Content) → AtEach D (do_plan l k.sc k.at locked) z i →
      LoopIs k.ks k.g k.m k.at (record { loop = l; body = body_of l k.m k.does holding (accesses_at acc); ins = ins_in k.m.symbols k.does (set_at acc) (set_at (at_list all (known_in k acc called))) l }) z (iterations (do_plan l k.sc k.at locked) z i)
  loop_is (tree.loop index e1 e2 e3 body) n last locked still fit units st pa among z iz i at = this_is index e1 e2 e3 body n last locked still fit units st pa among z iz i at
