-- A private variable is dead: nothing that a DO writes of it is read by the rest of the run.
use Rattle.std.proofs.Common.{◌≡◌, ℕ, ℤ, suc, ◌&&◌, Bool, true, false, List, Option, Some, None, refl, sym, ap, ◌∙◌, subst, nat_eq, true≢false}
use Rattle.std.specs.Prelude.{IfSome, if◌then◌else◌}
use Rattle.std.proofs.lemmas.Bool.{and_from, eqb-true, eq-eqb}
use Rattle.affine_systems.specs.declared.row.System.{System}
use Rattle.f77_ast.specs.Trees.{LoopTree}
use Rattle.f77_ast.specs.DeclTrees.{ModuleTree}
use Rattle.f77_ast.specs.Claims.{number_in}
use Rattle.f77_ast.specs.declared.variable.Variable.{Variable as Named}
use Rattle.f77_ast.specs.Symbols.{SymbolTree}
use Rattle.call_graph.specs.declared.graph.Graph.{Graph}
use Rattle.f77_meaning.specs.Modules.{Known}
use Rattle.f77_meaning.specs.Occurrences.{Occurrence}
use Rattle.f77_meaning.specs.Accesses.{is_read_first}
use Rattle.f77_meaning.specs.Claims.{PreconditionHolds, writes}
use Rattle.affine_forms.specs.Scalars.{is_cell}
use Rattle.preconditions.specs.transformer_algebra.Claims.{Scene, HoldsAt}
use Rattle.preconditions.specs.call_translation.Scopes.{ScopeTree}
use Rattle.preconditions.specs.transformers.Lists.{value_at}
use Rattle.f77_ast.specs.declared.marks.Private.{Private}
use Rattle.f77_ast.specs.declared.marks.Private.TheVariants.{Yes}
use Rattle.in_out_regions.specs.region_sets.declared.region.Access.TheVariants.{Out}
use Rattle.in_out_regions.specs.region_sets.Claims.{Elements, LiesInSet}
use Rattle.in_out_regions.proofs.RegionSets.DescribedLaws.{by_piece}
use Rattle.loop_marker.specs.dependence_test.Body.{or_no_rows, system_at}
use Rattle.loop_marker.specs.dependence_test.Finding.{loop_in}
use Rattle.loop_marker.specs.module_phases.OutPhases.{ModuleOuts}
use Rattle.loop_marker.specs.module_phases.ScalarPhases.{scope_of}
use Rattle.loop_marker.specs.privatizer.Names.{may_copy}
use Rattle.loop_marker.specs.privatizer.Uses.{Uses}
use Rattle.loop_marker.specs.privatizer.Private.{is_carried, is_live, private_by, private_in}
use Rattle.loop_marker.specs.privatizer.Claims.{IsPrivate, IfPrivate}
use Rattle.loop_marker.proofs.Privatizer.PrivateLaws.{answer_sound}
use Rattle.laws_analyses.specs.Statements.Results.{SystemHolds}
use Rattle.laws_analyses.specs.Claims.{precondition_in, AnalysisHolds}
use Rattle.laws_marks.specs.Dead.{IsDead, LiesInOwn, CopiesLieInOwn, uses_in, PrivatesAreDead}
use Rattle.in_out_regions.specs.region_sets.Lists.{set_at}
use Rattle.f77_ast.specs.Variables.{same_variable}
use Rattle.f77_ast.proofs.SameLaws.{same_itself}

-- only a variable whose name allows copies is private
pub copy_of : (a b c : Bool) → private_by a b c ≡ Yes → a ≡ true
copy_of true b c e = refl
copy_of false b c e = cc

-- what was found to hold where a statement begins
pub before_holds : (tracked : ℕ → Bool) (x : Occurrence) (o : Option System) → IfSome o (λ s. PreconditionHolds tracked (SystemHolds s) x) → (n : ℕ → ℤ) → ((c : ℕ) → tracked c ≡ true → n c ≡ number_in x.start x.places c) → SystemHolds (or_no_rows o) n
before_holds tracked x None h n a = λ p c. tt
before_holds tracked x (Some s) h n a = h n a

-- ---- a unit that lies in a region of the variable, at numbers where what holds before holds, is none of a private variable

module _ (ks : List Known) (g : Graph) (m : ScopeTree) (t : ModuleTree) (ss : List SymbolTree) (u : Uses) (l : LoopTree) (v : Named) (answer : private_in t ss u v ≡ Yes) (x : Occurrence) (before : (n : ℕ → ℤ) → ((c : ℕ) → is_cell m.tracked c ≡ true → n c ≡ number_in x.start x.places c) → SystemHolds u.before n) where
  is_private : IsPrivate u v
  is_private = subst (λ (a : Private). IfPrivate a (λ l. u) (Some l) v) answer (answer_sound t ss v (λ l. u) (Some l))

  abbrev numbers : ℕ → ℤ
  numbers c = number_in x.start x.places c

  -- the numbers of all cells
  abbrev all_cells : Scene
  all_cells = record { tracked = λ c. true; unit = λ c. c; far = λ b. false; place = λ b. 0 }

  holds : HoldsAt all_cells u.before numbers
  holds p st = before numbers (λ c e. refl) p (λ c. st c refl)

  -- one unit, of the variable alone
  abbrev at_one : ℕ → Named → Elements
  at_one y w phi = if same_variable w v then Some y else None

  pub none_in_own : (y : ℕ) → LiesInOwn ks g m v u.outs x y → ⊥
  none_in_own y o = true≢false (sym (eq-eqb y y refl) ∙ is_private.dead all_cells (at_one y) numbers holds (nat_eq y) contained y alone)
    where
      alone : (w : Named) (phi : ℕ → ℤ) → (if same_variable w v then Some y else None) ≡ Some y → same_variable w v ≡ true
      alone w phi e = go (same_variable w v) refl e
        where
          go : (b : Bool) → same_variable w v ≡ b → (if b then Some y else None) ≡ Some y → same_variable w v ≡ true
          go true q h = q
          go false q h = cc

      itself : same_variable o.region.variable v ≡ true
      itself = subst (λ w. same_variable w v ≡ true) (sym o.same) (same_itself v)

      contained : (z : ℕ) → nat_eq y z ≡ true → LiesInSet all_cells (at_one y) Out u.outs numbers z
      contained z e =
          let d = o.lies.2 numbers (λ c q. refl) in
          let same : y ≡ z = eqb-true y z e in
          record {
            region = o.region;
            is_one = o.is_one;
            kind = o.kind;
            lies = record {
              phi = d.phi;
              there = ap (λ b. if b then Some y else None) itself ∙ ap Some same;
              described = by_piece all_cells numbers d.phi d.describes.piece o.region.pieces d.describes.is_one (λ p st hs. d.describes.holds p (λ c. st c refl) hs);
            };
          }

-- ---- at a DO

dead_unless : (written first : Bool) → written ≡ true → ((written && first) ≡ true → ⊥) → first ≡ false
dead_unless w true e h = absurd (h (and_from w true e refl))
dead_unless w false e h = refl

module _ (ks : List Known) (g : Graph) (f : ModuleOuts) (x : Occurrence) (j : ℕ) (at : x.spot.statement ≡ suc j) (own : CopiesLieInOwn ks g f x) where
  -- no unit of the variable is given out
  pub dead_if : (l : LoopTree) → loop_in x.spot.statement f.known.known.analysis.found.known.read.body ≡ Some l → (v : Named) → may_copy f.known.known.analysis.found.known.read f.known.known.analysis.found.known.symbols v ≡ true →
      ((u : ℕ) → LiesInOwn ks g (scope_of g.untracked f.known.known.analysis.found.known) v (set_at f.outs.at x.spot.statement) x u → ⊥) → IsDead ks g f.known.known.analysis.found.known.symbols v x
  dead_if l is_do v may none phi u e w = dead_unless (writes x u) (is_read_first u x.later) w (λ q. none u (own l is_do v may phi u e q))

  pub privates_dead : AnalysisHolds g f.known.known.analysis x → PrivatesAreDead ks g f x
  privates_dead h l is_do v answer =
      let k = f.known.known.analysis.found.known in
      let u : Uses = uses_in f x.spot.statement l in
      let may = copy_of (may_copy k.read k.symbols v) (is_carried u v) (is_live u v) answer in
      let holds = subst (λ n. IfSome (precondition_in f.known.known.analysis n) (λ s. PreconditionHolds (is_cell (scope_of g.untracked k).tracked) (SystemHolds s) x)) at h.precondition in
      let before : (n : ℕ → ℤ) → ((c : ℕ) → is_cell (scope_of g.untracked k).tracked c ≡ true → n c ≡ number_in x.start x.places c) → SystemHolds (system_at f.known.known.analysis.holds.at x.spot.statement) n =
      λ n a. subst (λ i. SystemHolds (system_at f.known.known.analysis.holds.at i) n) (sym at) (before_holds (is_cell (scope_of g.untracked k).tracked) x (value_at f.known.known.analysis.holds.at (suc j)) holds n a) in
      dead_if l is_do v may (λ y o. none_in_own ks g (scope_of g.untracked k) k.read k.symbols u l v answer x before y o)
