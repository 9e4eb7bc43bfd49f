-- Each variable of a WRITE region of the body of a DO of which this is said has no conflict, or each iteration has its units for itself.
use Rattle.std.proofs.Common.{◌≡◌, ◌⊎◌, inl, inr, ℕ, ℤ, Bool, true, false, List, [], ◌∷◌, Some, sym, ap, ◌∙◌, subst, nat_eq}
use Rattle.std.proofs.lemmas.Bool.{or_left, or_right}
use Rattle.f77_ast.specs.Trees.{StmtTrees}
use Rattle.f77_ast.specs.DeclTrees.{ModuleTree}
use Rattle.f77_ast.specs.Places.{Meant, Variable, Names, Place, Places}
use Rattle.f77_ast.specs.Store.{Store}
use Rattle.f77_ast.specs.Calls.{in_place}
use Rattle.f77_ast.specs.Loops.{Range}
use Rattle.f77_ast.specs.Writes.{Locks}
use Rattle.f77_ast.specs.Shared.{symbol_at}
use Rattle.f77_ast.specs.declared.variable.Variable.{Variable as Named}
use Rattle.f77_ast.specs.declared.variable.Variable.TheVariants.{Own}
use Rattle.call_graph.specs.declared.graph.Graph.{Graph}
use Rattle.f77_meaning.specs.Modules.{Known}
use Rattle.f77_meaning.specs.Processes.{Marked}
use Rattle.preconditions.specs.transformer_algebra.Laws.{In, here, there}
use Rattle.preconditions.specs.call_translation.Scopes.{ScopeTree}
use Rattle.loop_marker.specs.dependence_test.Conflicts.{conflict_of}
use Rattle.laws_interleavings.specs.MarkedStatements.{MarkedScope, own_in, unit_of, unit_of_some, marked_loop}
use Rattle.laws_analyses.specs.Regions.Settings.{is_stored, elements_if, elements_with}
use Rattle.laws_marks.specs.ConflictClaims.{KnownLoop}
use Rattle.result_lines.specs.declared.reduction.Part.{Part}
use Rattle.result_lines.specs.declared.reduction.Reduction.{Reduction}
use Rattle.laws_marks.specs.MarkedFit.{IsUnitOf, IsFree, HasOwnUnits, HasPrivateUnits}
use Rattle.laws_marks.proofs.Own.{in_its_place}
use Rattle.laws_marks.specs.Verdicts.{IsCleared}
use Rattle.fx_lists.proofs.Options.{some_same}
use Rattle.fx_lists.proofs.Numbers.{nat_eq_same}

-- ---- names

-- a unit in the place of what a name stands for
some_unit : (w : Names) (at : Places) (xs : List (List ℕ)) (x : List ℕ) (n u : ℕ) → In x xs → w x ≡ Variable n → in_place (at n) u ≡ true → unit_of_some xs w at u ≡ true
some_unit w at [] x n u i e h = elim i [ ]
some_unit w at (y ∷ xs) x n u here e h = or_left (unit_of (w x) at u) (unit_of_some xs w at u) (ap (λ (m : Meant). unit_of m at u) e ∙ h)
some_unit w at (y ∷ xs) x n u (there i) e h = or_right (unit_of (w y) at u) (unit_of_some xs w at u) (some_unit w at xs x n u i e h)

-- an element of a variable is in its place
pub stored_place : (b : Bool) (p : Place) (phi : ℕ → ℤ) (u : ℕ) → elements_if b p phi ≡ Some u → in_place p u ≡ true
stored_place true p phi u e = in_its_place p phi u e
stored_place false p phi u e = cc

module _ (ks : List Known) (g : Graph) (k : ScopeTree) (at : Places) (d : KnownLoop) (xs : List (List ℕ)) (sc : MarkedScope) (body : StmtTrees) (r : Range) (v : ℕ) (inner : Locks) where
  abbrev m : Marked
  m = marked_loop xs sc body at r v inner

  -- an element of a variable for which one of the names stands
  pub name_private : (y : List ℕ) (n u : ℕ) → In y xs → sc.plain.names y ≡ Variable n → IsUnitOf ks g k at (Own n) u → m.private u ≡ true
  name_private y n u i e h =
      let there : in_place (at n) u ≡ true = stored_place (is_stored (symbol_at k.symbols n)) (at n) h.phi u h.there in
      or_right (nat_eq u v) _ (or_left (unit_of_some xs sc.plain.names at u) (own_in sc body u) (some_unit sc.plain.names at xs y n u i e there))

  -- ---- the variable of the DO, whose one element has the unit of the loop, those of which iterations have copies, and reduction variables

  module _ (s : Store) (scalar : (phi : ℕ → ℤ) → elements_with ks g k.symbols at (Own d.body.index) phi ≡ Some v) (tree : ModuleTree) (said : Reduction) (own : ℕ → Bool) (wider : (u : ℕ) → (marked_loop xs sc body at r v inner).private u ≡ true → own u ≡ true)
      (private : (n : ℕ) → In n said.private → HasPrivateUnits ks g k at (marked_loop xs sc body at r v inner) s (Own n)) (parts : (p : Part) → In p said.parts → HasOwnUnits ks g k at own (marked_loop xs sc body at r v inner) s (Own p.cell)) where
    abbrev Has : Named → Type 0
    Has y = HasOwnUnits ks g k at own (marked_loop xs sc body at r v inner) s y

    of_index : Has (Own d.body.index)
    of_index u h j lt w = wider u (or_left (nat_eq u v) _ (ap (nat_eq u) (some_same v u (sym (scalar h.phi) ∙ h.there)) ∙ nat_eq_same u))

    pub verdict : (y : Named) → IsCleared tree k.symbols d.body said y → IsFree k d y ⊎ Has y
    verdict y (inl e) = inr (subst Has (sym e) of_index)
    verdict y (inr (inl f)) = inl (λ kinds. ap conflict_of (f kinds))
    verdict y (inr (inr (inl q))) = inr (subst Has (sym q.is) (λ u h j lt w. wider u (private q.number q.one u h j lt w)))
    verdict y (inr (inr (inr q))) = inr (subst Has (sym q.is) (parts q.part q.one))
