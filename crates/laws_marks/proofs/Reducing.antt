-- A loop with reduction variables of a program that is read accumulates in them alone, and each iteration has what it writes of them for itself.
use Rattle.std.proofs.Common.{◌≡◌, ◌⊎◌, inl, inr, ⊎_elim, ℕ, ◌+◌, ◌<◌, Bool, true, false, ◌||◌, List, [], ◌∷◌, map, Option, Some, None, refl, sym, ap, ◌∙◌, subst, arith, nat_eq, bytes_eq, true≢false}
use Rattle.std.specs.Prelude.{is_some}
use Rattle.std.specs.List.{list_any, IsDistinct}
use Rattle.std.proofs.lemmas.Bool.{or_from, eqb-true}
use Rattle.std.proofs.lemmas.Bool.Decides.{nat_tests}
use Rattle.system_text.specs.SystemText.{name_at}
use Rattle.f77_ast.specs.Trees.{StmtTrees, LoopTree}
use Rattle.f77_ast.specs.DeclTrees.{ParsedTree}
use Rattle.f77_ast.specs.Store.{Store}
use Rattle.f77_ast.specs.Places.{Meant, Constant, Variable, Function, Names, Place, Places}
use Rattle.f77_ast.specs.Writes.{Locks}
use Rattle.f77_ast.specs.Loops.{Range}
use Rattle.f77_ast.specs.Lists.{list_plan}
use Rattle.f77_ast.specs.Calls.{in_place}
use Rattle.f77_ast.specs.Plans.{steps_of}
use Rattle.f77_ast.specs.StatementNumbers.{HasNumbers}
use Rattle.f77_ast.specs.Statements.{parts}
use Rattle.f77_ast.specs.Programs.{Routine, Program, meanings}
use Rattle.f77_ast.specs.declared.symbol.Place.{Place as SymbolPlace}
use Rattle.f77_ast.specs.declared.symbol.Place.TheVariants as place
use Rattle.f77_ast.specs.declared.variable.Variable.TheVariants.{Own}
use Rattle.f77_ast.specs.Symbols.{SymbolTree, value_in}
use Rattle.f77_ast.specs.Shared.{symbol_at}
use Rattle.f77_ast.specs.Units.{bounds_units}
use Rattle.call_graph.specs.declared.graph.Graph.{Graph}
use Rattle.call_graph.specs.CallsIn.{Each}
use Rattle.call_graph.specs.Visible.{is_local}
use Rattle.f77_meaning.specs.Areas.{Numbering, own, unit_at, is_own_unit}
use Rattle.f77_meaning.specs.Accesses.{is_written}
use Rattle.f77_meaning.specs.Modules.{Known, known_of, is_function, names, symbol_names, fixed, fixed_place, fixed_maybe, dummies_from}
use Rattle.f77_meaning.specs.Linked.{numbering, routine, program_of}
use Rattle.f77_meaning.proofs.ModuleLaws.{has_room}
use Rattle.f77_meaning.proofs.UnitLaws.{temporaries_are_recognisable}
use Rattle.preconditions.specs.transformer_algebra.Laws.{In, here, there}
use Rattle.preconditions.specs.call_translation.Scopes.{ScopeTree}
use Rattle.result_lines.specs.declared.reduction.Part.{Part}
use Rattle.result_lines.specs.declared.reduction.Reduction.{Reduction}
use Rattle.laws_programs.specs.Programs.{IsProgram}
use Rattle.laws_analyses.specs.Regions.Settings.{is_stored}
use Rattle.laws_analyses.proofs.Modules.{IsIn}
use Rattle.laws_analyses.proofs.UnitLaws.{in_own}
use Rattle.laws_interleavings.specs.Reductions.{ReduceOp, Sum, Max, Min, And, Or, Accumulator, operator_at, is_accumulator, Reduced}
use Rattle.laws_interleavings.specs.Reductions as reductions
use Rattle.laws_interleavings.specs.ReducedLoops.{AreDistinct, HasRange, HaveRange}
use Rattle.laws_interleavings.specs.Rides.{Outside, Rides}
use Rattle.laws_interleavings.specs.Accumulating.{accumulators_of, summed_parts}
use Rattle.laws_interleavings.specs.Accumulated.{IsFree, KeepsClear, ListAdds}
use Rattle.laws_interleavings.specs.Typed.{IsNoDummy}
use Rattle.laws_interleavings.specs.MarkedStatements.{MarkedScope, unit_of, unit_of_some, own_in, marked_loop, reduced_loop}
use Rattle.laws_interleavings.specs.MarkedPrograms.{Directives, marked_scope, marked_meanings}
use Rattle.laws_interleavings.specs.Plans.Touched.{AnyNumber, IsOther, AllUnused, MeaningAvoids, StoreInRange}
use Rattle.laws_interleavings.proofs.Accumulating.Statements.{bodies_ride}
use Rattle.laws_interleavings.proofs.Plans.TouchedRuns.{modules_avoid}
use Rattle.laws_marks.specs.Dead.{index_name}
use Rattle.laws_marks.specs.Inactive.{IsOfExpression, IsOfSome}
use Rattle.laws_marks.specs.Loops.{IsOutside}
use Rattle.laws_marks.specs.MarkedBegun.{did_in}
use Rattle.laws_marks.specs.MarkedFit.{HasOwnUnits, AccumulatesAlone}
use Rattle.laws_marks.specs.Named.{AreNamesOf}
use Rattle.laws_marks.specs.Names.{op_meant, reduction_named}
use Rattle.laws_marks.specs.Parts.{PartStands, PartsStand}
use Rattle.laws_marks.specs.Units.{IsPassing}
use Rattle.laws_marks.proofs.Accumulators.{found, at_unit, part_of, is_there, distinct_units}
use Rattle.laws_marks.proofs.Clear.{keeps_clear, others_all}
use Rattle.laws_marks.proofs.Fitted.{Stands, IsFixed, inactive_outside}
use Rattle.laws_marks.proofs.Order.{Named, Distinct}
use Rattle.laws_marks.proofs.OwnIn.{own_units_are_inactive}
use Rattle.laws_marks.proofs.Private.{stored_place}
use Rattle.laws_marks.proofs.Spared.{AllOutside}
use Rattle.laws_marks.proofs.Units.{others_off, local_has, no_expression, no_local, local_nonzero, others_outside, nameless_local, nameless_outside}
use Rattle.laws_marks.proofs.Written.{name_means}
use Rattle.fx_lists.proofs.Booleans.{or_there}
use Rattle.fx_lists.proofs.Numbers.{nat_eq_same}
use Rattle.fx_lists.proofs.Texts.{same_name}

-- ---- places of one unit

first_there : (p : Place) → p.extent ≡ 1 → in_place p p.first ≡ true
first_there p e = grind (arith, nat_tests)

only_first : (p : Place) (u : ℕ) → p.extent ≡ 1 → in_place p u ≡ true → u ≡ p.first
only_first p u e h = grind (arith, nat_tests)

-- no name of a list stands for a variable with the unit
none_named : (w : Names) (at : Places) (u : ℕ) (ys : List (List ℕ)) → ((y : List ℕ) → In y ys → (v : ℕ) → w y ≡ Variable v → in_place (at v) u ≡ false) → unit_of_some ys w at u ≡ false
none_named w at u [] f = refl
none_named w at u (y ∷ ys) f = or_from (unit_of (w y) at u) (unit_of_some ys w at u) (one (w y) refl) (none_named w at u ys (λ z j v e. f z (there j) v e))
  where
    one : (m : Meant) → w y ≡ m → unit_of m at u ≡ false
    one (Constant c) e = refl
    one (Variable v) e = f y here v e
    one Function e = refl

module _ (ps : List ParsedTree) (sss : List (List SymbolTree)) (g : Graph) (x : IsProgram ps sss g) (k : Known) (is_in : IsIn (known_of ps sss) k) (l : LoopTree) (r : Reduction) (at : Places) (once : IsDistinct bytes_eq (symbol_names k.symbols)) (stands : PartsStand (known_of ps sss) g k l r at) where
  abbrev N : Numbering
  N = numbering (known_of ps sss) g

  abbrev of : Known → Routine
  of z = routine (known_of ps sss) g z

  abbrev pub accumulators : List Accumulator
  accumulators = accumulators_of (map (reduction_named k.symbols) r.parts) (names k.symbols) at

  pass : (p : Part) → In p r.parts → IsPassing k.symbols p.cell
  pass p i = (stands.each p i).local

  -- ---- the unit of one of them

  module _ (p : Part) (q : PartStands (known_of ps sss) g k l at p) where
    abbrev unit : ℕ
    unit = (at p.cell).first

    one_unit : (at p.cell).extent ≡ 1
    one_unit = ap (λ (z : Place). z.extent) q.placed ∙ (ap (λ o. (fixed_maybe N k.read.name k.symbols o).extent) q.local.is_symbol ∙ by q.local.symbol.place q.local.local)
      where
        by : (z : SymbolPlace) → is_local z ≡ true → (fixed_place N k.read.name k.symbols q.local.symbol z).extent ≡ 1
        by (place.Local h o) e = ap (bounds_units (value_in k.symbols)) q.scalar
        by (place.Dummy d) e = cc
        by (place.Block b o) e = cc
        by (place.Constant c) e = cc

    has : in_place (fixed (numbering (known_of ps sss) g) k p.cell) (at p.cell).first ≡ true
    has = subst (λ (z : Place). in_place z (at p.cell).first ≡ true) q.placed (first_there (at p.cell) one_unit)

    -- no name of another variable that is no dummy reaches it
    apart_from : (y : List ℕ) (v : ℕ) → names k.symbols y ≡ Variable v → (p.cell ≡ v → ⊥) → IsNoDummy (dummies_from 1 k.symbols) v → (in_place (fixed (numbering (known_of ps sss) g) k v) (at p.cell).first ≡ false) × (nat_eq (fixed (numbering (known_of ps sss) g) k v).first (at p.cell).first ≡ false)
    apart_from y v e other none = others_off ps sss g x k is_in p.cell q.local q.sole (at p.cell).first has y v e other none

    -- nor does a module of another name have it
    not_expression : (z : Known) (call spot : ℕ) → nat_eq ((of z).own_unit call spot) (at p.cell).first ≡ false
    not_expression z call spot = go (nat_eq ((of z).own_unit call spot) (at p.cell).first) refl
      where
        go : (b : Bool) → nat_eq ((of z).own_unit call spot) (at p.cell).first ≡ b → b ≡ false
        go false e = refl
        go true e =
            let same : (of z).own_unit call spot ≡ (at p.cell).first = eqb-true ((of z).own_unit call spot) (at p.cell).first e in
            absurd (true≢false (sym (temporaries_are_recognisable N (own z.read.name call spot) 0 (has_room (known_of ps sss))) ∙ (ap (is_own_unit N) same ∙ no_expression ps sss g x k is_in p.cell q.local q.sole (at p.cell).first has)))

    all_unused : (zs : List Known) → Each (IsIn (known_of ps sss)) zs → ((y : List ℕ) → Named (map of zs) y → bytes_eq y k.read.name ≡ false) → AllOutside (at p.cell).first (map of zs) → AllUnused (at p.cell).first (map of zs)
    all_unused [] h d o = tt
    all_unused (z ∷ zs) h d o = (
      record {
        fixed = λ y v e n. (let f = o.0 y v e n in (f.1, λ u i. other u v i f.0));
        locals = others_all (at p.cell).first (of z).locals (no_local ps sss g x k is_in p.cell q.local q.sole (at p.cell).first has z h.0 (d z.read.name (inl (same_name z.read.name))));
        own = λ call spot. not_expression z call spot;
      },
      all_unused zs h.1 (λ y n. d y (inr n)) o.1,
    )
      where
        other : (u v : ℕ) → in_place ((of z).fixed v) u ≡ true → in_place ((of z).fixed v) (at p.cell).first ≡ false → nat_eq u (at p.cell).first ≡ false
        other u v i f = go (nat_eq u (at p.cell).first) refl
          where
            go : (b : Bool) → nat_eq u (at p.cell).first ≡ b → b ≡ false
            go false e = refl
            go true e = absurd (true≢false (sym i ∙ (ap (in_place ((of z).fixed v)) (eqb-true u (at p.cell).first e) ∙ f)))

  -- ---- no two have one unit

  pub are_distinct : AreDistinct accumulators
  are_distinct = distinct_units k.symbols once at (PartStands (known_of ps sss) g k l at) differ r.parts pass stands.each stands.once
    where
      differ : (p q : Part) → PartStands (known_of ps sss) g k l at p → PartStands (known_of ps sss) g k l at q → (q.cell ≡ p.cell → ⊥) → names k.symbols (name_at (symbol_names k.symbols) p.cell) ≡ Variable p.cell →
          names k.symbols (name_at (symbol_names k.symbols) q.cell) ≡ Variable q.cell → (at p.cell).first ≡ (at q.cell).first → ⊥
      differ p q a b other n m same =
          true≢false (sym (nat_eq_same (at p.cell).first) ∙ (ap (λ u. nat_eq u (at p.cell).first) (same ∙ ap (λ (z : Place). z.first) b.placed) ∙ (apart_from p a (name_at (symbol_names k.symbols) q.cell) q.cell m (λ e. other (sym e)) b.no_dummy).1))

  -- ---- what a unit of theirs is

  record IsOfOne (u : ℕ) : Type 0 where
    part : Part
    is_one : In part r.parts
    named : names k.symbols (name_at (symbol_names k.symbols) part.cell) ≡ Variable part.cell
    unit : (at part.cell).first ≡ u

  of_accumulator : (a : Accumulator) → In a accumulators → IsOfOne a.unit
  of_accumulator a i = (let q = part_of k.symbols once at r.parts pass a i in record { part = q.part; is_one = q.is_one; named = q.named; unit = sym q.unit })

  of_unit : (u : ℕ) → is_accumulator accumulators u ≡ true → IsOfOne u
  of_unit u h = go (operator_at accumulators u) refl h
    where
      go : (o : Option ReduceOp) → operator_at accumulators u ≡ o → is_some o ≡ true → IsOfOne u
      go None e i = absurd (true≢false (sym i))
      go (Some o) e i = (let f = found accumulators u o e in subst IsOfOne f.unit (of_accumulator f.one f.is_one))

  free_unit : (u : ℕ) → (IsOfOne u → ⊥) → IsFree accumulators u
  free_unit u h = go (operator_at accumulators u) refl
    where
      go : (o : Option ReduceOp) → operator_at accumulators u ≡ o → o ≡ None
      go None e = refl
      go (Some o) e = absurd (h (of_unit u (ap is_some e)))

  -- ---- numbers

  pub ranges : (body : StmtTrees) (d : Reduced) (s : Store) → StoreInRange s → HaveRange d s
  ranges body d s h u o e t = go o
    where
      go : (o : ReduceOp) → HasRange o (s u).number
      go Sum = tt
      go Max = h u
      go Min = h u
      go And = tt
      go Or = tt

  -- ---- its module, with those that it may call

  module _ (turns : ℕ) (d : Directives) (numbered : (z : Known) → IsIn (known_of ps sss) z → HasNumbers z.read.body) (xs : List Known) (behind : Each (IsIn (known_of ps sss)) xs) (distinct : Distinct (map (routine (known_of ps sss) g) (k ∷ xs))) (st : Stands (program_of (known_of ps sss) g) turns (routine (known_of ps sss) g k) (map (routine (known_of ps sss) g) xs)) where
    abbrev sc : MarkedScope
    sc = marked_scope (of k) turns d (meanings (map of xs) turns) (marked_meanings (map of xs) turns d)

    callee_clear : (y : List ℕ) → KeepsClear accumulators (meanings (map of xs) turns y)
    callee_clear y = keeps_clear accumulators (meanings (map of xs) turns y) avoids
      where
        avoids : (a : Accumulator) → In a accumulators → MeaningAvoids a.unit (meanings (map of xs) turns y)
        avoids a i =
            let o = of_accumulator a i in
            let q = stands.each o.part o.is_one in
            let local = local_has ps sss g x k is_in o.part.cell q.local q.sole (at o.part.cell).first (has o.part q) in
            subst (λ u. MeaningAvoids u (meanings (map of xs) turns y)) o.unit
            (modules_avoid (map of xs) turns (at o.part.cell).first (local_nonzero ps sss g x k is_in (at o.part.cell).first local)
            (all_unused o.part q xs behind distinct.0 (others_outside ps sss g x k is_in (at o.part.cell).first local xs behind distinct.0)) y)

    own_clear : (call spot : ℕ) → IsFree accumulators ((of k).own_unit call spot)
    own_clear call spot =
        free_unit ((of k).own_unit call spot)
        (λ o. true≢false (sym (nat_eq_same ((of k).own_unit call spot)) ∙ (ap (nat_eq ((of k).own_unit call spot)) (sym o.unit) ∙ not_expression o.part (stands.each o.part o.is_one) k call spot)))

    -- the body rides, where it accumulates
    pub rides : (body : StmtTrees) (locked : Locks) → ListAdds (map (reduction_named k.symbols) r.parts) (names k.symbols) at body →
        Rides accumulators Outside (steps_of (list_plan turns (parts body sc.plain at locked))) (steps_of (list_plan turns (summed_parts (map (reduction_named k.symbols) r.parts) body sc.plain at locked)))
    rides body locked adds = bodies_ride (map (reduction_named k.symbols) r.parts) sc.plain at locked body callee_clear own_clear adds

    -- ---- a loop of the DO

    module _ (ns : List (List ℕ)) (are : AreNamesOf ns (names k.symbols) l r.private) (placed : (v : ℕ) → In v r.private ⊎ (names k.symbols (index_name l) ≡ Variable v) → IsFixed (routine (known_of ps sss) g k) at v)
        (symbol : ℕ) (is_symbol : names k.symbols (index_name l) ≡ Variable symbol) (body : StmtTrees) (range : Range) (w : ℕ) (at_index : w ≡ (at symbol).first) (locked : Locks) where
      abbrev pub reduced : Reduced
      reduced = reduced_loop (record { private = ns; reductions = map (reduction_named k.symbols) r.parts }) sc body at range w locked

      none_private : (u : ℕ) → is_accumulator accumulators u ≡ true → reduced.loop.private u ≡ false
      none_private u h =
          subst (λ u. reduced.loop.private u ≡ false) o.unit
          (or_from (nat_eq (at o.part.cell).first w) (unit_of_some ns (of k).names at (at o.part.cell).first || own_in sc body (at o.part.cell).first) not_index (or_from (unit_of_some ns (of k).names at (at o.part.cell).first) (own_in sc body (at o.part.cell).first) (none_named (of k).names at (at o.part.cell).first ns no_name) not_own))
        where
          o : IsOfOne u
          o = of_unit u h

          q : PartStands (known_of ps sss) g k l at o.part
          q = stands.each o.part o.is_one

          swap : (a b : ℕ) → nat_eq a b ≡ false → nat_eq b a ≡ false
          swap a b e = grind (arith, nat_tests, e)

          at_place : (y : List ℕ) (v : ℕ) → names k.symbols y ≡ Variable v → (o.part.cell ≡ v → ⊥) → IsFixed (of k) at v → (in_place (at v) (at o.part.cell).first ≡ false) × (nat_eq (at v).first (at o.part.cell).first ≡ false)
          at_place y v e other f = subst (λ (z : Place). (in_place z (at o.part.cell).first ≡ false) × (nat_eq z.first (at o.part.cell).first ≡ false)) (sym f.fixed) (apart_from o.part q y v e other f.no_dummy)

          not_index : nat_eq (at o.part.cell).first w ≡ false
          not_index = swap w (at o.part.cell).first (ap (λ v. nat_eq v (at o.part.cell).first) at_index ∙ (at_place (index_name l) symbol is_symbol (stands.no_index o.part o.is_one symbol is_symbol) (placed symbol (inr is_symbol))).1)

          no_name : (y : List ℕ) → In y ns → (v : ℕ) → names k.symbols y ≡ Variable v → in_place (at v) (at o.part.cell).first ≡ false
          no_name y i v e =
              let a = are y i v e in
              (at_place y v e
              (λ same. ⊎_elim (λ j. stands.apart o.part o.is_one (subst (λ n. In n r.private) (sym same) j)) (λ z. stands.no_index o.part o.is_one v z same) a) (placed v a)).0

          not_own : own_in sc body (at o.part.cell).first ≡ false
          not_own = go (own_in sc body (at o.part.cell).first) refl
            where
              go : (b : Bool) → own_in sc body (at o.part.cell).first ≡ b → b ≡ false
              go false e = refl
              go true e =
                  let i = own_units_are_inactive (of k) (map of xs) turns d body (at o.part.cell).first e in
                  absurd (true≢false (sym (has o.part q) ∙ (inactive_outside ps sss g x turns d numbered k is_in xs behind distinct st (at o.part.cell).first i (name_at (symbol_names k.symbols) o.part.cell) o.part.cell o.named q.no_dummy).0))

      pub alone : ListAdds (map (reduction_named k.symbols) r.parts) (names k.symbols) at body → (s : Store) → StoreInRange s → AccumulatesAlone reduced s
      alone adds s h = record { rides = rides body locked adds; distinct = are_distinct; none_private = none_private; have_range = ranges body reduced s h }

      -- what is written of them each iteration has for itself, where what no name stands for is not written
      pub own_units : (z : ScopeTree) → z.symbols ≡ k.symbols → ((u : ℕ) → list_any (λ v. nat_eq v u) (of k).locals ≡ true → IsOutside u (of k) → (j : ℕ) (s : Store) → is_written u (did_in reduced.loop s j) ≡ false) →
          (s : Store) (p : Part) → In p r.parts → HasOwnUnits (known_of ps sss) g z at (reductions.own reduced) reduced.loop s (Own p.cell)
      own_units z same unwritten s p i u h j lt v = go (is_function q.local.symbol) refl
        where
          q : PartStands (known_of ps sss) g k l at p
          q = stands.each p i

          in_it : in_place (at p.cell) u ≡ true
          in_it = stored_place (is_stored (symbol_at z.symbols p.cell)) (at p.cell) h.phi u h.there

          go : (b : Bool) → is_function q.local.symbol ≡ b → reductions.own reduced u ≡ true
          go false f =
              or_there (reduced.loop.private u) (is_accumulator accumulators u)
              (subst (λ v. is_accumulator accumulators v ≡ true) (sym (only_first (at p.cell) u (one_unit p q) in_it))
              (at_unit accumulators (record { unit = (at p.cell).first; op = op_meant p.op }) (is_there k.symbols once at r.parts p i (name_means k.symbols p.cell q.local once f))))
          go true f =
              let has' = subst (λ (z : Place). in_place z u ≡ true) q.placed in_it in
              absurd (true≢false (sym v ∙ unwritten u (nameless_local ps sss g x k is_in p.cell q.local f q.sole u has') (nameless_outside ps sss g x k is_in p.cell q.local f q.sole u has') j s))
