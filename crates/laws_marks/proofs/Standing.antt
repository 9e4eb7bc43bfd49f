-- The units of a module's variables where a DO of it is executed.
use Rattle.std.proofs.Common.{◌≡◌, ◌⊎◌, ℕ, ℤ, ◌+◌, ◌<◌, List, [], ◌∷◌, ◌&&◌, length, Option, Some, None, Bool, true, false, refl, sym, ap, ◌∙◌, arith}
use Rattle.std.specs.Prelude.{if◌then◌else◌, option_map, unwrap_or}
use Rattle.std.proofs.lemmas.Bool.{and_parts, not-true, not-false, or_from, lt-ltb}
use Rattle.f77_ast.specs.Trees.{ExprTree, LoopTree, StmtTrees}
use Rattle.f77_ast.specs.Trees as tree
use Rattle.f77_ast.specs.Store.{Content, Store}
use Rattle.f77_ast.specs.Faults.{Locked}
use Rattle.f77_ast.specs.Places.{Dim, Place, Places, Variable, position, within}
use Rattle.f77_ast.specs.Calls.{Dummy}
use Rattle.f77_ast.specs.Writes.{Locks, lock}
use Rattle.f77_ast.specs.Executions.{run_of, Claim}
use Rattle.f77_ast.specs.Statements.{spot, do_plan}
use Rattle.f77_ast.specs.declared.constant.Constant.{Constant}
use Rattle.f77_ast.specs.declared.variable.Variable.TheVariants.{Own}
use Rattle.f77_ast.specs.Symbols.{BoundTree}
use Rattle.f77_ast.specs.Shared.{symbol_at, overlap}
use Rattle.f77_ast.specs.declared.results.At.{At}
use Rattle.tracked_cells.specs.Standing.{has_bounds}
use Rattle.f77_meaning.specs.Areas.{is_own_unit}
use Rattle.f77_meaning.specs.Linked.{numbering}
use Rattle.affine_forms.specs.Claims.{unit_in}
use Rattle.preconditions.specs.transformer_algebra.Laws.{In}
use Rattle.in_out_regions.specs.region_sets.declared.region.Region.{Region}
use Rattle.in_out_regions.specs.array_regions.Calls.{Called}
use Rattle.laws_analyses.specs.Statements.Activation.{Fit}
use Rattle.laws_analyses.proofs.Statements.Loops.{also}
use Rattle.laws_analyses.specs.Calls.Parts.{NoDummy}
use Rattle.laws_analyses.specs.Regions.Claims.{listed, elements_of}
use Rattle.laws_analyses.specs.Regions.Settings.{scene, Sound, DimsFit, is_stored, elements_if, elements_at, is_plain, maybe_plain, has_plain}
use Rattle.laws_analyses.specs.Regions.Shown.{is_lost, is_hidden}
use Rattle.laws_marks.specs.InFrames.{Frame, elements_in}
use Rattle.laws_marks.specs.InShown.{IsFree}
use Rattle.laws_marks.specs.InUnits.{UnitsFit, SetsFit}
use Rattle.laws_marks.proofs.InFirsts.{lost_known}
use Rattle.laws_marks.proofs.InFramed.{elements_on}
use Rattle.laws_marks.proofs.InStanding.{StandsParts, InAt}
use Rattle.laws_marks.proofs.InStatements.{what_first}
use Rattle.laws_marks.specs.ConflictExecutions.{Execution}
use Rattle.laws_marks.proofs.ConflictCopies.{AllSole}
use Rattle.laws_marks.specs.Units.{IsPassing, UnitsStand}
use Rattle.laws_marks.proofs.Elements.{passing_stored}
use Rattle.laws_analyses.proofs.Regions.Elements.{scalar_there as scalar_element}
use Rattle.in_out_regions.specs.region_sets.Lists.{set_at}

-- ---- scalars

no_dims : (value : List ℕ → Option Constant) (bs : List BoundTree) (ds : List Dim) → has_bounds bs ≡ false → DimsFit value bs ds → ds ≡ []
no_dims value [] [] h f = refl
no_dims value [] (d ∷ ds) h f = absurd f
no_dims value (b ∷ bs) ds h f = cc

module _ (k : Frame) (sound : Sound k.base) (C0 D0 : Claim) (Fits : Locks → (ℕ → Bool) → Type 0) (base : (locked : Locks) (still : ℕ → Bool) → Fits locked still → Fit k.sc.names k.scalar k.at (scene k.base) locked still) (more_fits : (locked : Locks) (still : ℕ → Bool) (x : List ℕ) (v : ℕ) → k.sc.names x ≡ Variable v → k.scalar x ≡ true → Fits locked still → Fits (lock locked (k.at v).first Locked) (also still (k.at v).first)) (I : Store → Type 0) (acc : List (At (List Region))) (called : Called) (sets : SetsFit k acc) (sole : AllSole k)
    (index : List ℕ) (e1 e2 : ExprTree) (e3 : Option ExprTree) (body : StmtTrees) (n : ℕ) (last : Bool) (locked : Locks) (still : ℕ → Bool) (fit : Fits locked still) (units : UnitsFit k locked) (st : InAt C0 D0 k Fits I acc called n (tree.do_loop (tree.loop index e1 e2 e3 body)) last) (pa : StandsParts C0 D0 k Fits I acc called (tree.do_loop (tree.loop index e1 e2 e3 body)) n) (z : Store) (iz : I z) (i : List Content) where
  abbrev L : LoopTree
  L = tree.loop index e1 e2 e3 body

  abbrev x : Execution
  x = record { spot = spot k.sc.module_name n; places = k.at; does = do_plan (tree.loop index e1 e2 e3 body) k.sc k.at locked; start = z; input = i }

  free : IsFree k locked (run_of (do_plan (tree.loop index e1 e2 e3 body) k.sc k.at locked) z i).trace
  free = (what_first k sound C0 D0 Fits base more_fits I acc called sets (tree.do_loop (tree.loop index e1 e2 e3 body)) n last locked still fit units st pa z iz i).ending.free

  plain : k.scalar index ≡ true
  plain = (and_parts (k.scalar index) (is_plain k.scalar e1 && (is_plain k.scalar e2 && maybe_plain k.scalar e3)) (not-false (has_plain k.scalar (tree.do_loop (tree.loop index e1 e2 e3 body))) st.base.plain)).0

  there' : (v : ℕ) (phi : ℕ → ℤ) (u : ℕ) → elements_at k.base (Own v) phi ≡ Some u → elements_in k (Own v) phi ≡ Some u
  there' v phi u e = ap (λ f. f phi) (sym (elements_on k (Own v) (k.own v))) ∙ e

  seen : (v : ℕ) → IsPassing k.m.symbols v → (phi : ℕ → ℤ) (u : ℕ) → elements_at k.base (Own v) phi ≡ Some u → is_hidden k.ks k.g (run_of (do_plan (tree.loop index e1 e2 e3 body) k.sc k.at locked) z i).trace u ≡ false
  seen v p phi u e = or_from (is_own_unit (numbering k.ks k.g) u) (is_lost k.ks k.g (run_of (do_plan (tree.loop index e1 e2 e3 body) k.sc k.at locked) z i).trace u) (sole v p.symbol p.is_symbol p.local p.unsaved phi u (there' v phi u e)).own (not_lost (is_lost k.ks k.g (run_of (do_plan (tree.loop index e1 e2 e3 body) k.sc k.at locked) z i).trace u) refl)
    where
      not_lost : (b : Bool) → is_lost k.ks k.g (run_of (do_plan (tree.loop index e1 e2 e3 body) k.sc k.at locked) z i).trace u ≡ b → b ≡ false
      not_lost true q = (let w = lost_known k.ks k.g u (run_of (do_plan (tree.loop index e1 e2 e3 body) k.sc k.at locked) z i).trace q in absurd (units.not_lost (Own v) phi u (there' v phi u e) (free.lost u q) w.0 w.1))
      not_lost false q = refl

  named_on : (r : Region) → In r (set_at acc n) → k.may_name r.variable ≡ true
  named_on r j = (sets.sets n).named r j

  others : (v : ℕ) → IsPassing k.m.symbols v → (phi : ℕ → ℤ) (u : ℕ) → elements_at k.base (Own v) phi ≡ Some u → (r : Region) → In r (set_at acc n) → (psi : ℕ → ℤ) → elements_at k.base r.variable psi ≡ Some u → (r.variable ≡ Own v) ⊎ (overlap k.m.symbols r.variable (Own v) ≡ true)
  others v p phi u e r j psi q = (sole v p.symbol p.is_symbol p.local p.unsaved phi u (there' v phi u e)).others r.variable psi (ap (λ f. f psi) (sym (elements_on k r.variable (named_on r j))) ∙ q)

  scalar : (v : ℕ) → k.sc.names index ≡ Variable v → IsPassing k.m.symbols v → (phi : ℕ → ℤ) → elements_at k.base (Own v) phi ≡ Some (unit_in k.at v)
  scalar v e p phi =
      let h = sound.variables index v e in
      let flat : has_bounds h.symbol.bounds ≡ false = not-true (has_bounds h.symbol.bounds) (sym h.shape ∙ plain) in
      let stored : is_stored (symbol_at k.m.symbols v) ≡ true = passing_stored k.m.symbols v p in
      ap (λ b. elements_if b (k.at v) phi) stored ∙ scalar_element (k.at v) phi (no_dims k.m.scalars.value h.symbol.bounds (k.at v).dims flat h.dims) ((base locked still fit).solid index v e plain)

  pub units_stand : (dummies : List Dummy) (fixed : Places) → ((v : ℕ) → NoDummy dummies v → k.at v ≡ fixed v) → UnitsStand k.ks k.g k.sc.names fixed dummies k.m (set_at acc n) L x
  units_stand dummies fixed other = record {
    seen = seen;
    others = others;
    told = λ r j. k.told r.variable (named_on r j);
    fixed = other;
    number = λ v e. ap (λ o. unwrap_or o 0) (sound.names_fit.numbers index v e);
    index = scalar;
  }
