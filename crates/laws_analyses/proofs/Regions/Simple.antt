-- Assignments, PRINTs and READs.
use Rattle.std.proofs.Common.{◌≡◌, ℕ, ◌+◌, ◌<◌, ℤ, List, [], ◌∷◌, ◌++◌, ◌&&◌, Option, Some, None, Bool, true, false, refl, sym, subst, nat_eq}
use Rattle.std.specs.Prelude.{if◌then◌else◌}
use Rattle.std.proofs.lemmas.Bool.{and_parts, or_left}
use Rattle.f77_ast.specs.Trees.{ExprTree, ExprTrees}
use Rattle.f77_ast.specs.Trees as tree
use Rattle.f77_ast.specs.Store.{Content, content, Store, put, same_tag}
use Rattle.f77_ast.specs.Faults.{Fault, Input, Unset, Bounds}
use Rattle.f77_ast.specs.Steps.{Break, Faulty, Steps, Done, Take, ◌>>=◌}
use Rattle.f77_ast.specs.Runs.{Event, Wrote, Printed, Took, Answer, Gave, Broke}
use Rattle.f77_ast.specs.Places.{Meant, Constant, Variable, Function, element_in}
use Rattle.f77_ast.specs.Values.{fault, value, values, Target, to, unit_after, name_target, element_target, target, all_shown}
use Rattle.f77_ast.specs.Writes.{Locks, written, write, assigned, is_value, taken, items_read}
use Rattle.f77_ast.specs.Plans.{Flow, Normal, Ends, Show as ShowPlan, first}
use Rattle.f77_ast.specs.Executions.{Claim}
use Rattle.tracked_cells.specs.Standing.{has_bounds}
use Rattle.affine_forms.specs.Claims.{numbers_of}
use Rattle.preconditions.specs.transformer_algebra.Claims.{Does}
use Rattle.preconditions.proofs.TransformerAlgebra.CellLaws.{left_out}
use Rattle.preconditions.specs.call_translation.Actuals.{named_cell, one_cell}
use Rattle.in_out_regions.specs.region_sets.declared.region.Access.{Access}
use Rattle.in_out_regions.specs.region_sets.declared.region.Access.TheVariants.{Write}
use Rattle.in_out_regions.specs.region_sets.declared.region.Region.{Region}
use Rattle.in_out_regions.specs.region_sets.Lists.{all_composed}
use Rattle.in_out_regions.specs.region_sets.Claims.{LiesInSet, IsSharpSet}
use Rattle.in_out_regions.specs.array_regions.References.{scalar, array_at, named}
use Rattle.in_out_regions.specs.array_regions.Reads.{reads, all_reads, inner_reads}
use Rattle.in_out_regions.specs.array_regions.Simple.{assignment, printing, item_does, reading}
use Rattle.laws_analyses.specs.Statements.Evaluations.{IsUnit}
use Rattle.laws_analyses.specs.Statements.Targets.{is_target, are_targets}
use Rattle.laws_analyses.specs.Statements.Activation.{Fit}
use Rattle.laws_analyses.proofs.Statements.Evaluations.{target_leads}
use Rattle.laws_analyses.proofs.Statements.Writes.{hit_of, hit_kept}
use Rattle.laws_analyses.specs.Regions.Settings.{Setting, scene, elements_at, HasSymbol, Sound, is_indexed, is_plain, are_plain}
use Rattle.laws_analyses.specs.Regions.Shown.{accessed, Holds, Sharp, Shown}
use Rattle.laws_analyses.proofs.Regions.Traces.{trace_nil}
use Rattle.laws_analyses.proofs.Regions.Rules.{Goes, goes_ends, goes_breaks, goes_set, goes_show, goes_take, goes_more, goes_write}
use Rattle.laws_analyses.proofs.Regions.Looks.{Looked, IfGave, looked_then, looked_with, goes_first, goes_first_then}
use Rattle.laws_analyses.proofs.Regions.Holding.{set_one, set_moved, sharp_none, sharp_one, sharp_moved, holds_none, holds_left, holds_then, holds_both, sharp_both, sharp_first}
use Rattle.laws_analyses.proofs.Regions.Elements.{stored_by, scalar_lies, scalar_sharp, MeanEach, element_lies, element_sharp}
use Rattle.laws_analyses.proofs.Regions.Expressions.{named_region, element_region, bounded, flat_scalar, Seen, value_looks, values_look, all_shown_look}
use Rattle.laws_analyses.proofs.Regions.Showing.{shown_normal, shown_broke, shown_more, shown_gathered, finally_more, shown_idle, quiet_printed, quiet_took, holds_after, sharp_after, one_write}
use Rattle.fx_lists.proofs.Numbers.{nat_eq_same}

module _ (k : Setting) (sound : Sound k) (solid : (x : List ℕ) (v : ℕ) → k.sc.names x ≡ Variable v → k.scalar x ≡ true → 0 < (k.at v).extent) where
  -- ---- left sides and items

  module _ (s : Store) where
    -- the unit lies in what is named, and that is no more than it
    pub record Hits (a : ExprTree) (u : ℕ) : Type 0 where
      pub lies : LiesInSet (scene k) (elements_at k) Write (named a k.m Write) (numbers_of s) u
      pub sharp : (c : Access → ℕ → Bool) → c Write u ≡ true → IsSharpSet (scene k) (elements_at k) (named a k.m Write) (numbers_of s) c

    pub record Aimed (a : ExprTree) (b : Answer Target) (es : List Event) : Type 0 where
      pub holds : Holds k (inner_reads a k.m) s es
      pub sharp : IfGave b (λ t. Sharp k (inner_reads a k.m) s es × Hits a t.unit)

    missed : (a : ExprTree) (f : Fault) (es : List Event) → Holds k (inner_reads a k.m) s es → Aimed a (Broke (Faulty f)) es
    missed a f es h = record { holds = h; sharp = tt }

    name_aims : (x : List ℕ) → k.scalar x ≡ true → (w : Meant) → k.sc.names x ≡ w → Looked (name_target w k.at) s (Aimed (tree.name x))
    name_aims x b (Constant c) e = missed (tree.name x) Unset [] (holds_none k [] s)
    name_aims x b Function e = missed (tree.name x) Unset [] (holds_none k [] s)
    name_aims x b (Variable v) e =
        let y = sound.variables x v e in
        let flat = flat_scalar k x v y b in
        let on = solid x v e b in
        let here = sym (named_region k x v y (sound.names_fit.numbers x v e) Write) in
        record {
          holds = holds_none k [] s;
          sharp = (
            sharp_none (scene k) (elements_at k) (numbers_of s) (λ a. accessed a []),
            record {
              lies = subst (λ rs. LiesInSet (scene k) (elements_at k) Write rs (numbers_of s) (k.at v).first) here (set_one (scene k) (elements_at k) Write (numbers_of s) (k.at v).first (scalar Write v) refl (scalar_lies k v (stored_by k x v y) flat on Write (numbers_of s)));
              sharp = λ c h. subst (λ rs. IsSharpSet (scene k) (elements_at k) rs (numbers_of s) c) here (sharp_one (scene k) (elements_at k) (numbers_of s) (scalar Write v) c (scalar_sharp k v (stored_by k x v y) flat on Write (numbers_of s) (c Write) h));
            },
          );
        }

    element_aims : (x : List ℕ) (fs : ExprTrees) (ns : List ℤ) (es : List Event) → is_indexed k.scalar x fs ≡ true → Seen k sound s (all_reads fs k.m) (Gave ns) es → MeanEach k s fs ns → (w : Meant) → k.sc.names x ≡ w → Looked (element_target w k.at ns) s (λ b gs. Aimed (tree.element x fs) b (es ++ gs))
    element_aims x fs ns es ix h m (Constant c) q = subst (λ t. Aimed (tree.element x fs) (Broke (Faulty Unset)) t) (sym (trace_nil es)) (missed (tree.element x fs) Unset es h.holds)
    element_aims x fs ns es ix h m Function q = subst (λ t. Aimed (tree.element x fs) (Broke (Faulty Unset)) t) (sym (trace_nil es)) (missed (tree.element x fs) Unset es h.holds)
    element_aims x fs ns es ix h m (Variable v) q = found (element_in (k.at v) ns) refl
      where
        y : HasSymbol k x v
        y = sound.variables x v q

        hits : (o : ℕ) → element_in (k.at v) ns ≡ Some o → has_bounds y.symbol.bounds ≡ true → Hits (tree.element x fs) ((k.at v).first + o)
        hits o f b =
            let r = array_at k.m Write v fs y.symbol.bounds in
            let here = sym (element_region k x fs v y (sound.names_fit.numbers x v q) b Write) in
            record {
              lies = subst (λ rs. LiesInSet (scene k) (elements_at k) Write rs (numbers_of s) ((k.at v).first + o)) here (set_one (scene k) (elements_at k) Write (numbers_of s) ((k.at v).first + o) r refl (element_lies k s v fs y.symbol.bounds ns o y.dims m f (stored_by k x v y) Write));
              sharp = λ c g. subst (λ rs. IsSharpSet (scene k) (elements_at k) rs (numbers_of s) c) here (sharp_one (scene k) (elements_at k) (numbers_of s) r c (element_sharp k s v fs y.symbol.bounds ns o y.dims m f (stored_by k x v y) Write (c Write) g));
            }

        has : (o : ℕ) → element_in (k.at v) ns ≡ Some o → (b : Bool) → has_bounds y.symbol.bounds ≡ b → has_bounds y.symbol.bounds ≡ true
        has o f true b = b
        has o f false b = absurd (bounded k s x v y fs ns o ix m f b)

        found : (o : Option ℕ) → element_in (k.at v) ns ≡ o → Looked (unit_after (k.at v).first o >>= λ u. Done (to u (k.at v).tag)) s (λ b gs. Aimed (tree.element x fs) b (es ++ gs))
        found None f = subst (λ t. Aimed (tree.element x fs) (Broke (Faulty Bounds)) t) (sym (trace_nil es)) (missed (tree.element x fs) Bounds es h.holds)
        found (Some o) f = subst (λ t. Aimed (tree.element x fs) (Gave (to ((k.at v).first + o) (k.at v).tag)) t) (sym (trace_nil es)) (record { holds = h.holds; sharp = (h.sharp, hits o f (has o f (has_bounds y.symbol.bounds) refl)) })

    pub target_looks : (a : ExprTree) → is_plain k.scalar a ≡ true → Looked (target a k.sc.names k.at) s (Aimed a)
    target_looks (tree.int n) p = missed (tree.int n) Unset [] (holds_none k [] s)
    target_looks (tree.log b) p = missed (tree.log b) Unset [] (holds_none k [] s)
    target_looks (tree.name x) p = name_aims x p (k.sc.names x) refl
    target_looks (tree.element x es) p =
        let q = and_parts (is_indexed k.scalar x es) (are_plain k.scalar es) p in
        looked_then (values es k.sc.names k.at) (element_target (k.sc.names x) k.at) s (λ a fs. Seen k sound s (all_reads es k.m) a fs × IfGave a (λ ns. MeanEach k s es ns)) (Aimed (tree.element x es))
        (values_look k sound s solid es q.1)
        (λ ns fs h. element_aims x es ns fs q.0 h.0 h.1 (k.sc.names x) refl)
        (λ b fs h. record { holds = h.0.holds; sharp = tt })
    target_looks (tree.paren e) p = missed (tree.paren e) Unset [] (holds_none k [] s)
    target_looks (tree.unary o e) p = missed (tree.unary o e) Unset [] (holds_none k [] s)
    target_looks (tree.binary o a b) p = missed (tree.binary o a b) Unset [] (holds_none k [] s)
    target_looks (tree.chars x) p = missed (tree.chars x) Unset [] (holds_none k [] s)

    -- what a write leaves to be shown
    aimed_written : (a : ExprTree) (u : ℕ) (c : Content) (fs : List Event) → Holds k (inner_reads a k.m) s fs → Hits a u → Holds k (inner_reads a k.m ++ named a k.m Write) s (fs ++ Wrote u c ∷ [])
    aimed_written a u c fs h g = holds_both k (inner_reads a k.m) (named a k.m Write) s fs (Wrote u c ∷ []) h (one_write k (named a k.m Write) s u c g.lies)

    was_written : (u : ℕ) (c : Content) (fs : List Event) → accessed Write (Wrote u c ∷ fs) u ≡ true
    was_written u c fs = or_left (nat_eq u u) _ (nat_eq_same u)

    sharp_written : (a : ExprTree) (u : ℕ) (c : Content) (fs : List Event) → Sharp k (inner_reads a k.m) s fs → Hits a u → Sharp k (inner_reads a k.m ++ named a k.m Write) s (fs ++ Wrote u c ∷ [])
    sharp_written a u c fs h g = sharp_both k (inner_reads a k.m) (named a k.m Write) s fs (Wrote u c ∷ []) h (g.sharp (λ x. accessed x (Wrote u c ∷ [])) (was_written u c []))

  -- ---- assignment

  module _ (D : Claim) (locked : Locks) where
    pub assign_goes : (a b : ExprTree) (s : Store) → is_plain k.scalar a ≡ true → is_plain k.scalar b ≡ true → Goes D (first (assigned a b k.sc.names k.at locked) (λ o. Ends Normal)) s (λ x z es. Shown k false (assignment k.m a b) s x es)
    assign_goes a b s p q =
        goes_more D (first (assigned a b k.sc.names k.at locked) (λ o. Ends Normal)) s (λ x z es. Shown k false all s x es) (λ x z es. Shown k false (assignment k.m a b) s x es) (λ x z es h. shown_gathered k false all s x es h)
        (goes_first_then D (value b k.sc.names k.at) (λ c. target a k.sc.names k.at >>= λ t. write locked t.unit (content t.tag c.number)) (λ o. Ends Normal) s (Seen k sound s (reads b k.m)) (λ x z es. Shown k false all s x es) (value_looks k sound s solid b q)
        (λ c es h. goes_first_then D (target a k.sc.names k.at) (λ t. write locked t.unit (content t.tag c.number)) (λ o. Ends Normal) s (Aimed s a) (λ x z fs. Shown k false all s x (es ++ fs)) (target_looks s a p)
        (λ t fs g. goes_write D locked t.unit (content t.tag c.number) (λ o. Ends Normal) s (λ x z gs. Shown k false all s x (es ++ (fs ++ gs)))
        (λ free. goes_ends D Normal (put s t.unit (content t.tag c.number)) (λ x z gs. Shown k false all s x (es ++ (fs ++ Wrote t.unit (content t.tag c.number) ∷ gs)))
        (shown_normal k false all s (es ++ (fs ++ Wrote t.unit (content t.tag c.number) ∷ []))
        (holds_both k (reads b k.m) (inner_reads a k.m ++ named a k.m Write) s es (fs ++ Wrote t.unit (content t.tag c.number) ∷ []) h.holds (aimed_written s a t.unit (content t.tag c.number) fs g.holds g.sharp.1))
        (sharp_both k (reads b k.m) (inner_reads a k.m ++ named a k.m Write) s es (fs ++ Wrote t.unit (content t.tag c.number) ∷ []) h.sharp (sharp_written s a t.unit (content t.tag c.number) fs g.sharp.0 g.sharp.1))))
        (λ z. subst (λ gs. Shown k false all s (Broke z) (es ++ gs)) (sym (trace_nil fs)) (aim_broke z es fs h.holds g.holds)))
        (λ z fs g. aim_broke z es fs h.holds g.holds))
        (λ z es h. shown_broke k false all s z es (holds_left k (reads b k.m) (inner_reads a k.m ++ named a k.m Write) s es h.holds)))
      where
        all : List Region
        all = reads b k.m ++ (inner_reads a k.m ++ named a k.m Write)

        aim_broke : (z : Break) (es fs : List Event) → Holds k (reads b k.m) s es → Holds k (inner_reads a k.m) s fs → Shown k false (reads b k.m ++ (inner_reads a k.m ++ named a k.m Write)) s (Broke z) (es ++ fs)
        aim_broke z es fs h g = shown_broke k false (reads b k.m ++ (inner_reads a k.m ++ named a k.m Write)) s z (es ++ fs) (holds_both k (reads b k.m) (inner_reads a k.m ++ named a k.m Write) s es fs h (holds_left k (inner_reads a k.m) (named a k.m Write) s fs g))

    -- ---- PRINT

    pub print_goes : (es : ExprTrees) (s : Store) → are_plain k.scalar es ≡ true → Goes D (first (all_shown es k.sc.names k.at) (λ xs. ShowPlan xs (Ends Normal))) s (λ x z fs. Shown k false (printing k.m es) s x fs)
    print_goes es s p =
        goes_more D (first (all_shown es k.sc.names k.at) (λ xs. ShowPlan xs (Ends Normal))) s (λ x z fs. Shown k false (all_reads es k.m) s x fs) (λ x z fs. Shown k false (printing k.m es) s x fs) (λ x z fs h. shown_gathered k false (all_reads es k.m) s x fs h)
        (goes_first D (all_shown es k.sc.names k.at) (λ xs. ShowPlan xs (Ends Normal)) s (Seen k sound s (all_reads es k.m)) (λ x z fs. Shown k false (all_reads es k.m) s x fs) (all_shown_look k sound s solid es p)
        (λ xs fs h. goes_show D xs (Ends Normal) s (λ x z gs. Shown k false (all_reads es k.m) s x (fs ++ gs))
        (goes_ends D Normal s (λ x z gs. Shown k false (all_reads es k.m) s x (fs ++ Printed xs ∷ gs))
        (shown_normal k false (all_reads es k.m) s (fs ++ Printed xs ∷ [])
        (holds_then k (all_reads es k.m) s fs (Printed xs ∷ []) h.holds (holds_after k (all_reads es k.m) s (Printed xs) [] (quiet_printed k xs) (holds_none k (all_reads es k.m) s)))
        (sharp_first k (all_reads es k.m) s fs (Printed xs ∷ []) h.sharp))))
        (λ z fs h. shown_broke k false (all_reads es k.m) s z fs h.holds))

    -- ---- READ

    module _ (still : ℕ → Bool) (fit : Fit k.sc.names k.scalar k.at (scene k) locked still) where
      -- an item is given a number
      pub item_moves : (e : ExprTree) (t : Target) (s : Store) (c : Content) → is_target k.scalar e ≡ true → IsUnit e k.sc.names k.at t → locked t.unit ≡ None → Does (scene k) (item_does k.m e) (numbers_of s) (numbers_of (put s t.unit c))
      item_moves e t s c h q free =
          let hit = hit_of k.sc.names k.m k.scalar k.at k.far k.place sound.names_fit locked still fit e t h q in
          let kept = hit_kept k.sc.names k.m k.scalar k.at k.far k.place sound.names_fit locked still fit e s c t.unit hit free in
          record { relates = λ p st en. tt; kept = record { cells = λ d r g. kept.cells d r (left_out (one_cell (named_cell k.m.scalars e)) [] d g); foreign = λ u r g. kept.foreign u r (λ n. n) } }

      abbrev items : ExprTrees → Steps (Unit {0})
      items es = items_read es k.sc.names k.at locked

      pub aimed_with : (e : ExprTree) (s : Store) → is_plain k.scalar e ≡ true → Looked (target e k.sc.names k.at) s (λ b fs. Aimed s e b fs × IfGave b (λ t. IsUnit e k.sc.names k.at t))
      aimed_with e s p = looked_with (target e k.sc.names k.at) s [] (Aimed s e) (λ t z j. IsUnit e k.sc.names k.at t) (target_looks s e p) (target_leads k.sc.names k.at s [] e (λ t z j. IsUnit e k.sc.names k.at t) (λ t h. h))

      abbrev item_rest : ExprTree → ExprTrees → List Region
      item_rest e es = named e k.m Write ++ all_composed (item_does k.m e) (reading es k.m)

      abbrev item_all : ExprTree → ExprTrees → List Region
      item_all e es = inner_reads e k.m ++ (named e k.m Write ++ all_composed (item_does k.m e) (reading es k.m))

      -- the rest of the items, after this one
      item_then : (e : ExprTree) (es : ExprTrees) (t : Target) (s : Store) (fs : List Event) (o : Option Content) (c : Content) → Aimed s e (Gave t) fs → Does (scene k) (item_does k.m e) (numbers_of s) (numbers_of (put s t.unit c)) → (x : Answer Flow) (gs : List Event) → Shown k false (reading es k.m) (put s t.unit c) x gs → Shown k false (item_all e es) s x (fs ++ Took o ∷ (Wrote t.unit c ∷ gs))
      item_then e es t s fs o c g d x gs h =
          shown_more k false (all_composed (item_does k.m e) (reading es k.m)) (item_all e es) s x gs (fs ++ Took o ∷ (Wrote t.unit c ∷ gs))
          (λ a. holds_both k (inner_reads e k.m) (item_rest e es) s fs (Took o ∷ (Wrote t.unit c ∷ gs)) g.holds
          (holds_after k (item_rest e es) s (Took o) (Wrote t.unit c ∷ gs) (quiet_took k o)
          (holds_both k (named e k.m Write) (all_composed (item_does k.m e) (reading es k.m)) s (Wrote t.unit c ∷ []) gs (one_write k (named e k.m Write) s t.unit c g.sharp.1.lies) a)))
          (λ a. sharp_both k (inner_reads e k.m) (item_rest e es) s fs (Took o ∷ (Wrote t.unit c ∷ gs)) g.sharp.0
          (sharp_after k (item_rest e es) s (Took o) (Wrote t.unit c ∷ gs) (quiet_took k o)
          (sharp_both k (named e k.m Write) (all_composed (item_does k.m e) (reading es k.m)) s (Wrote t.unit c ∷ []) gs (g.sharp.1.sharp (λ y. accessed y (Wrote t.unit c ∷ [])) (was_written s t.unit c [])) a)))
          (record {
            holds = λ a u i. set_moved (scene k) (elements_at k) a (numbers_of s) u (item_does k.m e) (reading es k.m) (numbers_of (put s t.unit c)) d (h.holds a u i);
            sharp = finally_more false x (Sharp k (reading es k.m) (put s t.unit c) gs) (Sharp k (all_composed (item_does k.m e) (reading es k.m)) s gs) (λ a. sharp_moved (scene k) (elements_at k) (numbers_of s) (item_does k.m e) (reading es k.m) (numbers_of (put s t.unit c)) (λ y. accessed y gs) d a) h.sharp;
          })

      took_goes : (e : ExprTree) (es : ExprTrees) (t : Target) (s : Store) (fs : List Event) (o : Option Content) → Aimed s e (Gave t) fs → IsUnit e k.sc.names k.at t → is_target k.scalar e ≡ true → ((y : Store) → Goes D (first (items_read es k.sc.names k.at locked) (λ o. Ends Normal)) y (λ x z gs. Shown k false (reading es k.m) y x gs)) → Goes D (first (taken locked t o >>= λ o. items_read es k.sc.names k.at locked) (λ o. Ends Normal)) s (λ x z gs. Shown k false (item_all e es) s x (fs ++ Took o ∷ gs))
      took_goes e es t s fs o g q h ih = go o
        where
          failed : (o : Option Content) (b : Break) → Shown k false (item_all e es) s (Broke b) (fs ++ Took o ∷ [])
          failed o b = shown_broke k false (item_all e es) s b (fs ++ Took o ∷ []) (holds_then k (item_all e es) s fs (Took o ∷ []) (holds_left k (inner_reads e k.m) (item_rest e es) s fs g.holds) (holds_after k (item_all e es) s (Took o) [] (quiet_took k o) (holds_none k (item_all e es) s)))

          wrote : (c : Content) (l : Option Fault) → locked t.unit ≡ l → Goes D (first (written l t.unit c >>= λ o. items_read es k.sc.names k.at locked) (λ o. Ends Normal)) s (λ x z gs. Shown k false (item_all e es) s x (fs ++ Took (Some c) ∷ gs))
          wrote c (Some f) r = goes_breaks D (Faulty f) s (λ x z gs. Shown k false (item_all e es) s x (fs ++ Took (Some c) ∷ gs)) (failed (Some c) (Faulty f))
          wrote c None r =
              goes_set D t.unit c (first (items_read es k.sc.names k.at locked) (λ o. Ends Normal)) s (λ x z gs. Shown k false (item_all e es) s x (fs ++ Took (Some c) ∷ gs))
              (goes_more D (first (items_read es k.sc.names k.at locked) (λ o. Ends Normal)) (put s t.unit c) (λ x z gs. Shown k false (reading es k.m) (put s t.unit c) x gs) (λ x z gs. Shown k false (item_all e es) s x (fs ++ Took (Some c) ∷ (Wrote t.unit c ∷ gs)))
              (λ x z gs a. item_then e es t s fs (Some c) c g (item_moves e t s c h q r) x gs a) (ih (put s t.unit c)))

          tested : (c : Content) (b : Bool) → Goes D (first ((if b then write locked t.unit c else fault Input) >>= λ o. items_read es k.sc.names k.at locked) (λ o. Ends Normal)) s (λ x z gs. Shown k false (item_all e es) s x (fs ++ Took (Some c) ∷ gs))
          tested c true = wrote c (locked t.unit) refl
          tested c false = goes_breaks D (Faulty Input) s (λ x z gs. Shown k false (item_all e es) s x (fs ++ Took (Some c) ∷ gs)) (failed (Some c) (Faulty Input))

          go : (o : Option Content) → Goes D (first (taken locked t o >>= λ o. items_read es k.sc.names k.at locked) (λ o. Ends Normal)) s (λ x z gs. Shown k false (item_all e es) s x (fs ++ Took o ∷ gs))
          go None = goes_breaks D (Faulty Input) s (λ x z gs. Shown k false (item_all e es) s x (fs ++ Took None ∷ gs)) (failed None (Faulty Input))
          go (Some c) = tested c (same_tag t.tag c.tag && is_value t.tag c.number)

      pub read_goes : (es : ExprTrees) (s : Store) → are_targets k.scalar es ≡ true → are_plain k.scalar es ≡ true → Goes D (first (items_read es k.sc.names k.at locked) (λ o. Ends Normal)) s (λ x z fs. Shown k false (reading es k.m) s x fs)
      read_goes tree.no_exprs s h p = goes_ends D Normal s (λ x z fs. Shown k false [] s x fs) (shown_idle k false s (Gave Normal))
      read_goes (tree.more_exprs e es) s h p =
          let hs = and_parts (is_target k.scalar e) (are_targets k.scalar es) h in
          let ps = and_parts (is_plain k.scalar e) (are_plain k.scalar es) p in
          goes_more D (first (items_read (tree.more_exprs e es) k.sc.names k.at locked) (λ o. Ends Normal)) s (λ x z fs. Shown k false (item_all e es) s x fs) (λ x z fs. Shown k false (reading (tree.more_exprs e es) k.m) s x fs) (λ x z fs g. shown_gathered k false (item_all e es) s x fs g)
          (goes_first_then D (target e k.sc.names k.at) (λ t. Take (taken locked t) >>= λ o. items_read es k.sc.names k.at locked) (λ o. Ends Normal) s (λ b fs. Aimed s e b fs × IfGave b (λ t. IsUnit e k.sc.names k.at t)) (λ x z fs. Shown k false (item_all e es) s x fs) (aimed_with e s ps.0)
          (λ t fs g. goes_take D (λ o. first (taken locked t o >>= λ o. items_read es k.sc.names k.at locked) (λ o. Ends Normal)) s (λ x z gs. Shown k false (item_all e es) s x (fs ++ gs))
          (λ o. took_goes e es t s fs o g.0 g.1 hs.0 (λ y. read_goes es y hs.1 ps.1)))
          (λ z fs g. shown_broke k false (item_all e es) s z fs (holds_left k (inner_reads e k.m) (item_rest e es) s fs g.0.holds)))
