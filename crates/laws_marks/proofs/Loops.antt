-- What comes after a marked loop reads nothing that the loop loses.
use Rattle.std.proofs.Common.{◌≡◌, ◌⊎◌, ⊎_elim, ℕ, zero, suc, ◌<◌, ◌||◌, Bool, true, false, List, [], ◌∷◌, ◌++◌, Some, arith, refl, sym, ap, ◌∙◌, subst, nat_eq, true≢false}
use Rattle.std.specs.Prelude.{slice_get}
use Rattle.std.proofs.lemmas.Bool.{eqb-true, eq-eqb}
use Rattle.f77_ast.specs.Trees.{LoopTree, StmtTrees}
use Rattle.f77_ast.specs.Store.{Content, Store}
use Rattle.f77_ast.specs.Places.{Variable, Names, Places}
use Rattle.f77_ast.specs.Writes.{Locks}
use Rattle.f77_ast.specs.Runs.{Event, Arrived, Read, Wrote, Printed, Took}
use Rattle.f77_ast.specs.Loops.{Range}
use Rattle.f77_ast.specs.Plans.{steps_of}
use Rattle.f77_ast.specs.Executions.{run_of}
use Rattle.f77_ast.specs.Statements.{do_plan}
use Rattle.f77_ast.specs.declared.variable.Variable.TheVariants.{Own}
use Rattle.call_graph.specs.declared.graph.Graph.{Graph}
use Rattle.f77_meaning.specs.Modules.{Known, names}
use Rattle.f77_meaning.specs.Occurrences.{Occurrence}
use Rattle.f77_meaning.specs.Accesses.{is_written, is_read_first}
use Rattle.f77_meaning.specs.Processes.{Marked, writes}
use Rattle.affine_forms.specs.Claims.{unit_in}
use Rattle.preconditions.specs.call_translation.Scopes.{ScopeTree}
use Rattle.laws_interleavings.specs.Iterations.{on_store, begun, loop_plan}
use Rattle.laws_interleavings.specs.MarkedStatements.{MarkedScope, unit_of_some, marked_loop}
use Rattle.laws_interleavings.specs.Sound.{some_wrote}
use Rattle.laws_analyses.specs.Regions.Settings.{elements_with}
use Rattle.laws_marks.proofs.InFirsts.{written_left, written_right}
use Rattle.laws_marks.specs.ConflictClaims.{KnownLoop}
use Rattle.laws_marks.proofs.ConflictParts.{iterations_are_parts}
use Rattle.laws_marks.specs.MarkedBegun.{begun_plan, did_in, iteration_at}
use Rattle.laws_marks.specs.MarkedBegins.{Begins}
use Rattle.laws_marks.specs.MarkedEnding.{EndsQuietly}
use Rattle.laws_marks.specs.MarkedFit.{IsCopied, IsDeadAfter}
use Rattle.laws_marks.specs.MarkedLaws.{IterationsAreBegun}
use Rattle.laws_marks.specs.Dead.{index_name, MarkedIsDead}
use Rattle.laws_marks.specs.Named.{AreNamesOf, IsOfIndex, IsOfOne, NamesStand, NamesAreCopied}

-- ---- what an iteration wrote, the DO wrote

also_written : (u : ℕ) (es : List Event) → writes u es ≡ true → is_written u es ≡ true
also_written u [] h = absurd (true≢false (sym h))
also_written u (Arrived p ∷ es) h = also_written u es h
also_written u (Read v c ∷ es) h = also_written u es h
also_written u (Wrote v c ∷ es) h = go (nat_eq u v) refl h (also_written u es)
  where
    other : (b : Bool) → (b || true) ≡ true
    other true = refl
    other false = refl

    go : (b : Bool) → nat_eq u v ≡ b → (b || writes u es) ≡ true → (writes u es ≡ true → is_written u es ≡ true) → (nat_eq v u || is_written u es) ≡ true
    go true e q ih = ap (λ b. b || is_written u es) (eq-eqb v u (sym (eqb-true u v e)))
    go false e q ih = ap (λ b. nat_eq v u || b) (ih q) ∙ other (nat_eq v u)
also_written u (Printed xs ∷ es) h = also_written u es h
also_written u (Took o ∷ es) h = also_written u es h

record WroteOne (m : Marked) (s : Store) (n u : ℕ) : Type 0 where
  number : ℕ
  less : number < n
  wrote : writes u (on_store (steps_of m.body) (begun m s number)).trace ≡ true

wrote_one : (m : Marked) (s : Store) (n u : ℕ) → some_wrote m s n u ≡ true → WroteOne m s n u
wrote_one m s zero u h = absurd (true≢false (sym h))
wrote_one m s (suc n) u h = go (some_wrote m s n u) refl h (λ q. wrote_one m s n u q)
  where
    go : (b : Bool) → some_wrote m s n u ≡ b → (b || writes u (on_store (steps_of m.body) (begun m s n)).trace) ≡ true → (some_wrote m s n u ≡ true → WroteOne m s n u) → WroteOne m s (suc n) u
    go true e q ih = (let r = ih e in let l = r.less in record { number = r.number; less = omega (arith, l); wrote = r.wrote })
    go false e q ih = record { number = n; less = omega arith; wrote = q }

-- ---- a loop to which a DO comes

module _ (xs : List (List ℕ)) (sc : MarkedScope) (body : StmtTrees) (at : Places) (r : Range) (first : ℕ) (inner : Locks) (l : LoopTree) (locked : Locks) (s : Store) (i : List Content) (begins : Begins sc.plain (index_name l) l at locked (marked_loop xs sc body at r first inner) s i) where
  abbrev m : Marked
  m = marked_loop xs sc body at r first inner

  -- its variable
  index_written : is_written first (run_of (do_plan l sc.plain at locked) s i).trace ≡ true
  index_written =
      ap (λ q. is_written first q.trace) begins.run
      ∙ written_right first begins.looks (run_of (begun_plan m) s i).trace (ap (λ b. b || is_written first (run_of (loop_plan m) (begun m s 0) i).trace) (eq-eqb first first refl))

  module _ (iterations_begun : IterationsAreBegun) (quiet : EndsQuietly (marked_loop xs sc body at r first inner) s) where
    written : (u : ℕ) → some_wrote m s m.count u ≡ true → is_written u (run_of (do_plan l sc.plain at locked) s i).trace ≡ true
    written u h =
        let w = wrote_one m s m.count u h in
        let there = iterations_begun xs sc body at r first inner s i quiet.normal quiet.takes_nothing w.number w.less in
        let part = iterations_are_parts (do_plan l sc.plain at locked) s i w.number (iteration_at m s w.number) (ap (λ ys. slice_get ys w.number) begins.cut ∙ there) in
        ap (is_written u) part.did ∙ written_right u part.before (did_in m s w.number ++ part.after) (written_left u (did_in m s w.number) part.after (also_written u (did_in m s w.number) w.wrote))

    module _ (ks : List Known) (g : Graph) (k : ScopeTree) (d : KnownLoop) (ns : List ℕ) (x : Occurrence) (places : x.places ≡ at) (ran : x.ran ≡ run_of (do_plan l sc.plain at locked) s i) (same : sc.plain.names ≡ names k.symbols) (are : AreNamesOf xs (names k.symbols) l ns) (stand : NamesStand ks g k (names k.symbols) d l ns at) (dead : MarkedIsDead ks g k l ns x) where
      dead_written : (u : ℕ) → is_written u (run_of (do_plan l sc.plain at locked) s i).trace ≡ true → is_written u x.ran.trace ≡ true
      dead_written u h = ap (λ q. is_written u q.trace) ran ∙ h

      index_dead : (v u : ℕ) → names k.symbols (index_name l) ≡ Variable v → unit_in at v ≡ u → is_written u x.ran.trace ≡ true → is_read_first u x.later ≡ false
      index_dead v u e q w =
          let there : unit_in x.places v ≡ u = ap (λ (p : Places). unit_in p v) places ∙ q in
          ap (λ y. is_read_first y x.later) (sym there) ∙ dead.index v e (ap (λ y. is_written y x.ran.trace) there ∙ w)

      named_dead : (u : ℕ) → IsOfIndex (names k.symbols) l at u ⊎ IsOfOne ks g k.symbols at ns u → is_written u x.ran.trace ≡ true → is_read_first u x.later ≡ false
      named_dead u o w = ⊎_elim (λ j. index_dead j.symbol u j.is_symbol j.unit w) (λ j. one j) o
        where
          one : IsOfOne ks g k.symbols at ns u → is_read_first u x.later ≡ false
          one j = dead.names j.number j.is_one j.phi u (subst (λ (p : Places). elements_with ks g k.symbols p (Own j.number) j.phi ≡ Some u) (sym places) j.there) w

      pub loop_is_dead : IsDeadAfter m s x.later
      loop_is_dead = record {
        index = index_dead begins.symbol first (ap (λ (w : Names). w (index_name l)) (sym same) ∙ begins.is_symbol) (sym begins.unit) (dead_written first index_written);
        named = λ u n h. named_dead u (stand.units xs are u (ap (λ (w : Names). unit_of_some xs w at u) (sym same) ∙ n)) (dead_written u (written u h));
      }

-- ---- and its names are of variables that may be copied

pub names_copied : NamesAreCopied
names_copied ks g k w d l ns at stand xs are sc body r u inner locked s i same begins y n other =
    ⊎_elim index (λ (o : IsOfOne ks g k.symbols at ns y). stand.copied y o) (stand.units xs are y (ap (λ (v : Names). unit_of_some xs v at y) (sym same) ∙ n))
  where
    index : IsOfIndex w l at y → IsCopied ks g k at d y
    index o =
        let twice : Variable o.symbol ≡ Variable begins.symbol = sym o.is_symbol ∙ (ap (λ (v : Names). v (index_name l)) (sym same) ∙ begins.is_symbol) in
        let one : o.symbol ≡ begins.symbol = cc in
        let there : y ≡ u = sym o.unit ∙ (ap (unit_in at) one ∙ sym begins.unit) in
        absurd (true≢false (sym (eq-eqb y u there) ∙ other))
