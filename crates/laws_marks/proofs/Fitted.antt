-- A marked loop of a module of a program that is read: units that are hidden, and units of its own.
use Rattle.std.proofs.Common.{◌≡◌, ◌⊎◌, inl, inr, ⊎_elim, ℕ, suc, ◌<◌, Bool, true, false, ◌||◌, ◌&&◌, List, [], ◌∷◌, map, Option, Some, None, refl, sym, ap, ap₂, ◌∙◌, subst, arith, nat_eq, bytes_eq, true≢false}
use Rattle.std.specs.Prelude.{not, ◌%◌, if◌then◌else◌, slice_get}
use Rattle.std.specs.List.{list_any}
use Rattle.std.proofs.lemmas.Bool.{and_from, and_parts, or_parts, or_left, or_right, or_from, not-true}
use Rattle.std.proofs.lemmas.Bool.Decides.{nat_tests}
use Rattle.std.proofs.Math.Nat.{zero-div}
use Rattle.std.proofs.lemmas.Slice.Eq.{bytes_eq-Decides}
use Rattle.f77_ast.specs.Trees.{StmtTrees}
use Rattle.f77_ast.specs.DeclTrees.{ParsedTree}
use Rattle.f77_ast.specs.StatementNumbers.{list_numbers, HasNumbers}
use Rattle.f77_ast.specs.Store.{Content, Store}
use Rattle.f77_ast.specs.Faults.{Fault, Locked}
use Rattle.f77_ast.specs.Runs.{Event, Arrived, Read, Wrote, Printed, Took}
use Rattle.f77_ast.specs.Places.{Meant, Constant, Variable, Function, Names, Place, Places}
use Rattle.f77_ast.specs.Writes.{Locks, lock}
use Rattle.f77_ast.specs.Loops.{Range}
use Rattle.f77_ast.specs.Calls.{in_place}
use Rattle.f77_ast.specs.Plans.{Plan}
use Rattle.f77_ast.specs.Executions.{run_of}
use Rattle.f77_ast.specs.Programs.{Routine, Program, called, meanings}
use Rattle.f77_ast.specs.Symbols.{SymbolTree}
use Rattle.call_graph.specs.declared.graph.Graph.{Graph}
use Rattle.f77_meaning.specs.Areas.{Numbering, own, is_own_unit}
use Rattle.f77_meaning.specs.Accesses.{is_written}
use Rattle.f77_meaning.specs.Modules.{Known, known_of, all_lost}
use Rattle.f77_meaning.specs.Linked.{numbering, routine, program_of}
use Rattle.f77_meaning.specs.Processes.{Marked, writes}
use Rattle.f77_meaning.proofs.ModuleLaws.{has_room}
use Rattle.f77_meaning.proofs.UnitLaws.{temporaries_are_recognisable}
use Rattle.preconditions.specs.transformer_algebra.Cells.{has}
use Rattle.preconditions.specs.transformer_algebra.Laws.{In, here, there}
use Rattle.laws_programs.specs.Programs.{IsProgram}
use Rattle.call_graph.specs.CallsIn.{Each}
use Rattle.laws_analyses.proofs.Modules.{IsIn}
use Rattle.laws_analyses.specs.Regions.Shown.{is_lost, is_hidden}
use Rattle.laws_marks.specs.ConflictExecutions.{Execution}
use Rattle.laws_marks.proofs.ConflictModules.{numbered_above}
use Rattle.laws_interleavings.specs.MarkedStatements.{MarkedScope, marked_loop, own_in, unit_of, unit_of_some}
use Rattle.laws_interleavings.specs.MarkedPrograms.{Directives, marked_scope, marked_meanings}
use Rattle.laws_interleavings.specs.Sound.{is_own}
use Rattle.laws_interleavings.specs.Typed.{TagsStand, IsNoDummy, AllTagged}
use Rattle.laws_interleavings.specs.Plans.Fine.{IsFine, Frees}
use Rattle.laws_interleavings.specs.Plans.Cleared.{HasNoValue, Cleared, Off, EndsWell, MeaningCleared, AllApart, AllEnd}
use Rattle.laws_interleavings.proofs.Plans.Cleared.{other, off_more, lock_none, cleared_meanings, cleared_body}
use Rattle.laws_interleavings.proofs.Plans.Fine.{fine_body_list, fine_meanings}
use Rattle.laws_interleavings.proofs.Plans.Uses.{unwritten_of}
use Rattle.laws_marks.specs.MarkedBegun.{did_in}
use Rattle.laws_marks.specs.Inactive.{IsOfExpression, IsOfModule, IsOfSome, IsInactive, HasNone, InactiveHaveNone}
use Rattle.laws_marks.proofs.Order.{Distinct, names_once}
use Rattle.laws_marks.proofs.OwnIn.{own_units_are_inactive}
use Rattle.laws_marks.proofs.Apart.{linked, units_are_apart}
use Rattle.laws_marks.specs.Loops.{AreOff, IsOutside}
use Rattle.laws_marks.proofs.Spared.{AllOutside, spared_meanings, spared_body}
use Rattle.laws_marks.proofs.Entered.{EntersNone, IsEntered, AreEntered, body_enters, meanings_enter, run_enters, is_lost_of, none_lost}
use Rattle.laws_marks.proofs.Units.{IsLocalOf, units, expression_off, local_off, local_nonzero, others_outside}
use Rattle.laws_interleavings.proofs.Plans.MarkedStrict.{all}

-- ---- events

-- the two ways of saying that a unit is written
unwritten : (u : ℕ) (es : List Event) → writes u es ≡ false → is_written u es ≡ false
unwritten u [] h = refl
unwritten u (Arrived p ∷ es) h = unwritten u es h
unwritten u (Read v c ∷ es) h = unwritten u es h
unwritten u (Wrote v c ∷ es) h = let z = or_parts (nat_eq u v) (writes u es) h in or_from (nat_eq v u) (is_written u es) (swap u v z.0) (unwritten u es z.1)
  where
    swap : (a b : ℕ) → nat_eq a b ≡ false → nat_eq b a ≡ false
    swap a b e = grind (arith, nat_tests, e)
unwritten u (Printed xs ∷ es) h = unwritten u es h
unwritten u (Took o ∷ es) h = unwritten u es h

-- ---- what is not locked

abbrev pub is_free : Locks → ℕ → Bool
is_free locked u = none (locked u)
  where
    none : Option Fault → Bool
    none None = true
    none (Some f) = false

free_frees : (locked : Locks) → Frees locked (is_free locked)
free_frees locked u e = go (locked u) e
  where
    go : (o : Option Fault) → o ≡ None → is_free (λ v. o) u ≡ true
    go None q = refl
    go (Some f) q = cc

-- no CALL ends by a GO TO
all_well : (turns : ℕ) (rs : List Routine) → AllEnd turns rs → (y : List ℕ) → EndsWell (meanings rs turns y)
all_well turns [] h y = λ a b s i. tt
all_well turns (r ∷ rs) h y = go (bytes_eq y r.name)
  where
    go : (b : Bool) → EndsWell (if b then called r turns (meanings rs turns) else meanings rs turns y)
    go true = h.0
    go false = h.1 y

-- ---- a module with those behind it, in a program

-- what is known of the modules behind it, and of units of theirs
pub record Stands (p : Program) (turns : ℕ) (r : Routine) (rs : List Routine) : Type 0 where
  pub tagged : AllTagged rs
  pub ends : AllEnd turns rs
  pub inside : (u : ℕ) → IsOfExpression r u ⊎ IsOfSome rs u → IsOfExpression p.main u ⊎ IsOfSome p.others u
  pub apart : (u : ℕ) → AllApart u p.others → AllApart u rs
  pub inactive : (u : ℕ) → IsOfExpression r u ⊎ IsOfSome rs u → IsInactive (p.main ∷ p.others) r.name u

-- the variable is no dummy, and lies at its own place
pub record IsFixed (r : Routine) (at : Places) (v : ℕ) : Type 0 where
  pub no_dummy : IsNoDummy r.dummies v
  pub fixed : at v ≡ r.fixed v

module _ (ps : List ParsedTree) (sss : List (List SymbolTree)) (g : Graph) (x : IsProgram ps sss g) (turns : ℕ) (d : Directives) where
  abbrev N : Numbering
  N = numbering (known_of ps sss) g

  abbrev of : Known → Routine
  of k = routine (known_of ps sss) g k

  abbrev P : Program
  P = program_of (known_of ps sss) g

  zero_no_own : is_own_unit N 0 ≡ false
  zero_no_own = ap (λ n. nat_eq (n % 3) 2) (zero-div N.room)

  own_nonzero : (u : ℕ) → is_own_unit N u ≡ true → nat_eq 0 u ≡ false
  own_nonzero u o = go (nat_eq 0 u) refl
    where
      go : (b : Bool) → nat_eq 0 u ≡ b → b ≡ false
      go true e = (let same : u ≡ 0 = grind (arith, nat_tests, e) in absurd (true≢false (sym o ∙ ap (is_own_unit N) same ∙ zero_no_own)))
      go false e = refl

  pub expression_own : (k : Known) (u : ℕ) → IsOfExpression (of k) u → is_own_unit N u ≡ true
  expression_own k u e = subst (λ v. is_own_unit N v ≡ true) e.is_unit (temporaries_are_recognisable N (own k.read.name e.call e.place) 0 (has_room (known_of ps sss)))

  some_units : (xs : List Known) (u : ℕ) → IsOfSome (map of xs) u → (is_own_unit N u ≡ true) ⊎ IsLocalOf (map of xs) u
  some_units [] u h = absurd h
  some_units (k ∷ xs) u h = ⊎_elim (λ m. ⊎_elim (λ l. inr (inl l)) (λ e. inl (expression_own k u e)) m) (λ s. ⊎_elim inl (λ l. inr (inr l)) (some_units xs u s)) h

  -- ---- modules by their names

  same_named : (k : Known) → IsIn (known_of ps sss) k → (zs : List Known) → ((i : ℕ) (z : Known) → slice_get zs i ≡ Some z → IsIn (known_of ps sss) z) → (u : ℕ) → list_any (λ v. nat_eq v u) (of k).locals ≡ false → is_lost_of N u zs k.read.name ≡ false
  same_named k h [] f u e = refl
  same_named k h (z ∷ zs) f u e = or_from _ (is_lost_of N u zs k.read.name) (go (bytes_eq z.read.name k.read.name) refl) (same_named k h zs (λ i y q. f (suc i) y q) u e)
    where
      go : (b : Bool) → bytes_eq z.read.name k.read.name ≡ b → (b && list_any (λ v. nat_eq v u) (all_lost N z.read.name z.symbols z.symbols)) ≡ false
      go false q = refl
      go true q =
          let i = f 0 z refl in
          let at : i.at ≡ h.at = names_once ps sss g (linked ps sss g x) i.at h.at z k i.is_module h.is_module ((bytes_eq-Decides z.read.name k.read.name).0 q) in
          let one : Some z ≡ Some k = sym i.is_module ∙ ap (slice_get (known_of ps sss)) at ∙ h.is_module in
          let same : z ≡ k = cc in
          subst (λ (y : Known). list_any (λ v. nat_eq v u) (of y).locals ≡ false) (sym same) e

  not_lost_named : (k : Known) → IsIn (known_of ps sss) k → (u : ℕ) → list_any (λ v. nat_eq v u) (of k).locals ≡ false → is_lost_of N u (known_of ps sss) k.read.name ≡ false
  not_lost_named k h u e = same_named k h (known_of ps sss) (λ i z q. record { at = i; is_module = q }) u e

  all_entered : (u : ℕ) (numbered : (k : Known) → IsIn (known_of ps sss) k → HasNumbers k.read.body) (xs : List Known) → Each (IsIn (known_of ps sss)) xs → AreEntered (is_lost_of N u (known_of ps sss)) u (map of xs)
  all_entered u numbered [] h = tt
  all_entered u numbered (k ∷ xs) h = (record { numbers = numbered_above k.read.body (numbered k h.0); locals = λ e. not_lost_named k h.0 u e }, all_entered u numbered xs h.1)

  all_off : (u : ℕ) → is_own_unit N u ≡ true → (xs : List Known) → Each (IsIn (known_of ps sss)) xs → AllOutside u (map of xs)
  all_off u o [] h = tt
  all_off u o (k ∷ xs) h = (expression_off ps sss g x u o k h.0, all_off u o xs h.1)

  -- ---- the loop

  module _ (numbered : (k : Known) → IsIn (known_of ps sss) k → HasNumbers k.read.body) (k : Known) (is_in : IsIn (known_of ps sss) k) (xs : List Known) (behind : Each (IsIn (known_of ps sss)) xs) (distinct : Distinct (map of (k ∷ xs))) (st : Stands P turns (of k) (map of xs)) where
    abbrev sc : MarkedScope
    sc = marked_scope (of k) turns d (meanings (map of xs) turns) (marked_meanings (map of xs) turns d)

    abbrev Inactive : ℕ → Type 0
    Inactive u = IsOfExpression (of k) u ⊎ IsOfSome (map of xs) u

    pub inactive_outside : (u : ℕ) → Inactive u → IsOutside u (of k)
    inactive_outside u h =
        ⊎_elim (λ e. expression_off ps sss g x u (expression_own k u e) k is_in)
        (λ s. ⊎_elim (λ o. expression_off ps sss g x u o k is_in) (λ l. local_off ps sss g x k is_in xs behind distinct u l) (some_units xs u s)) h

    inactive_units : (u : ℕ) → Inactive u → units N (of k ∷ map of xs) u
    inactive_units u h = (⊎_elim (λ e. inl (expression_own k u e)) (λ s. ⊎_elim inl (λ l. inr (inl l)) (some_units xs u s)) h, (units_are_apart ps sss g x u (st.inside u h)).1)

    module _ (body : StmtTrees) (numbers : has (list_numbers body) 0 ≡ false) (at : Places) (tags : TagsStand (of k).names at) (locked : Locks) (off : AreOff (units N (of k ∷ map of xs)) locked (of k).names at) (ns : List (List ℕ)) (r : Range) (w : ℕ) where
      abbrev locks : Locks
      locks = lock locked w Locked

      abbrev m : Marked
      m = marked_loop ns sc body at r w locks

      off_here : (u : ℕ) → units N (of k ∷ map of xs) u → Off u locks (of k).names at
      off_here u h = off_more u locked locks (of k).names at (lock_none u locked w u Locked) (off u h)

      -- the body
      pub body_fine : IsFine (is_free locks) (own_in sc body) m.body
      body_fine =
          fine_body_list (is_free locks) (own_in sc body) sc (λ y h. fine_meanings (is_free locks) (own_in sc body) turns d (map of xs) st.tagged y h) at tags body locks (free_frees locks) (λ u e. e)

      -- units of its own
      pub own_inactive : (u : ℕ) → own_in sc body u ≡ true → Inactive u
      own_inactive u e = own_units_are_inactive (of k) (map of xs) turns d body u e

      own_of : (u : ℕ) → is_own m u ≡ true → own_in sc body u ≡ true
      own_of u h =
          let a = and_parts (not (nat_eq u w)) (not (m.named u) && m.private u) h in
          let b = and_parts (not (m.named u)) (m.private u) a.1 in
          by (nat_eq u w) (m.named u) (not-true (nat_eq u w) a.0) (not-true (m.named u) b.0) b.1
        where
          by : (c e : Bool) → c ≡ false → e ≡ false → (c || (e || own_in sc body u)) ≡ true → own_in sc body u ≡ true
          by true e p q z = absurd (true≢false p)
          by false true p q z = absurd (true≢false q)
          by false false p q z = z

      pub own_cleared : (u : ℕ) → is_own m u ≡ true → Cleared u m.body
      own_cleared u h =
          let i = own_inactive u (own_of u h) in
          let a = units_are_apart ps sss g x u (st.inside u i) in
          cleared_body u sc.plain (λ y. cleared_meanings u turns a.1 (map of xs) st.tagged (st.apart u a.0) st.ends y) (λ y. all_well turns (map of xs) st.ends y) at tags body locks (off_here u (inactive_units u i))

      pub own_valueless : (e : Execution) → InactiveHaveNone P e → e.spot.module_name ≡ k.read.name → (u : ℕ) → is_own m u ≡ true → HasNoValue e.start u
      own_valueless e h q u o = (h u (subst (λ y. IsInactive (P.main ∷ P.others) y u) (sym q) (st.inactive u (own_inactive u (own_of u o))))).before

      private_own : (u : ℕ) → own_in sc body u ≡ true → m.private u ≡ true
      private_own u e = or_right (nat_eq u w) (unit_of_some ns (of k).names at u || own_in sc body u) (or_right (unit_of_some ns (of k).names at u) (own_in sc body u) e)

      -- what is written and hidden is private
      module _ (j : ℕ) (s : Store) (u : ℕ) where
        abbrev es : List Event
        es = did_in m s j

        spared : is_own_unit N u ≡ true → is_written u (did_in m s j) ≡ false
        spared o =
            let z = own_nonzero u o in
            let h = spared_body u sc.plain (λ y. spared_meanings u turns z (map of xs) st.tagged (all_off u o xs behind) y) at tags body locks (off_here u (inl o, z)) in
            unwritten u (did_in m s j) (unwritten_of (other u) all m.body h _ [] u (itself u))
          where
            itself : (v : ℕ) → other v v ≡ false
            itself v = grind (arith, nat_tests)

        unlost : own_in sc body u ≡ false → is_lost (known_of ps sss) g (did_in m s j) u ≡ false
        unlost e =
            none_lost N u (known_of ps sss) (did_in m s j)
            (run_enters (is_lost_of N u (known_of ps sss)) m.body
            (body_enters (is_lost_of N u (known_of ps sss)) u sc (λ y o a l. meanings_enter (is_lost_of N u (known_of ps sss)) u turns d (map of xs) (all_entered u numbered xs behind) y o a l) at body e numbers locks) _ [])

        pub hidden_private : is_hidden (known_of ps sss) g (did_in m s j) u ≡ true → is_written u (did_in m s j) ≡ true → m.private u ≡ true
        hidden_private h v = go (own_in sc body u) refl
          where
            go : (b : Bool) → own_in sc body u ≡ b → m.private u ≡ true
            go true e = private_own u e
            go false e = by (is_own_unit N u) (is_lost (known_of ps sss) g (did_in m s j) u) refl (unlost e) h
              where
                by : (o l : Bool) → is_own_unit N u ≡ o → l ≡ false → (o || l) ≡ true → m.private u ≡ true
                by true l p q z = absurd (true≢false (sym v ∙ spared p))
                by false true p q z = absurd (true≢false q)
                by false false p q z = absurd (true≢false (sym z))

      -- a unit of a local without a name is not written
      pub nameless_unwritten : (u : ℕ) → list_any (λ v. nat_eq v u) (of k).locals ≡ true → IsOutside u (of k) → (j : ℕ) (s : Store) → is_written u (did_in m s j) ≡ false
      nameless_unwritten u l o j s =
          let z = local_nonzero ps sss g x k is_in u l in
          let h = spared_body u sc.plain (λ y. spared_meanings u turns z (map of xs) st.tagged (others_outside ps sss g x k is_in u l xs behind distinct.0) y) at tags body locks (off_here u (inr (inr (l, o)), z)) in
          unwritten u (did_in m s j) (unwritten_of (other u) all m.body h _ [] u (itself u))
        where
          itself : (v : ℕ) → other v v ≡ false
          itself v = grind (arith, nat_tests)

      -- its own units are no units of names
      module _ (named : (y : List ℕ) → In y ns → (v : ℕ) → (of k).names y ≡ Variable v → IsFixed (of k) at v) (index : List ℕ) (symbol : ℕ) (is_symbol : (of k).names index ≡ Variable symbol) (fixed : IsFixed (of k) at symbol) (unit : w ≡ (at symbol).first) where
        not_index : (u : ℕ) → Inactive u → nat_eq u w ≡ false
        not_index u i =
            let o = (inactive_outside u i index symbol is_symbol fixed.no_dummy).1 in
            swap w u (ap (λ v. nat_eq v u) (unit ∙ ap (λ (q : Place). q.first) fixed.fixed) ∙ o)
          where
            swap : (a b : ℕ) → nat_eq a b ≡ false → nat_eq b a ≡ false
            swap a b e = grind (arith, nat_tests, e)

        none_named : (u : ℕ) → Inactive u → (ys : List (List ℕ)) → ((y : List ℕ) → In y ys → (v : ℕ) → (of k).names y ≡ Variable v → IsFixed (of k) at v) → unit_of_some ys (of k).names at u ≡ false
        none_named u i [] f = refl
        none_named u i (y ∷ ys) f = or_from (unit_of ((of k).names y) at u) (unit_of_some ys (of k).names at u) (one ((of k).names y) refl) (none_named u i ys (λ z j v e. f z (there j) v e))
          where
            one : (t : Meant) → (of k).names y ≡ t → unit_of t at u ≡ false
            one (Constant c) e = refl
            one (Variable v) e =
                let q = f y here v e in
                ap (λ (z : Place). in_place z u) q.fixed ∙ (inactive_outside u i y v e q.no_dummy).0
            one Function e = refl

        pub owned : (u : ℕ) → own_in sc body u ≡ true → is_own m u ≡ true
        owned u e =
            let i = own_inactive u e in
            and_from (not (nat_eq u w)) (not (m.named u) && m.private u) (ap not (not_index u i)) (and_from (not (m.named u)) (m.private u) (ap not (none_named u i ns named)) (private_own u e))
