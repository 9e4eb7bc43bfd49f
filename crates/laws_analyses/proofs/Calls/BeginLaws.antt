-- Dummies that are bound to what actuals offer begin with the values of these.
use Rattle.std.proofs.Common.{◌≡◌, ℕ, ◌-◌, List, Option, Some, None, true, refl, sym, ap, ◌∙◌, subst}
use Rattle.f77_ast.specs.Trees.{ExprTree, ExprTrees}
use Rattle.f77_ast.specs.Store.{Content, Store}
use Rattle.f77_ast.specs.Calls.{Actual}
use Rattle.f77_ast.specs.Symbols.{SymbolTree}
use Rattle.affine_forms.specs.declared.affine.Affine.{Affine}
use Rattle.affine_forms.specs.Forms.{affine_of}
use Rattle.affine_forms.specs.Claims.{unit_in, numbers_of}
use Rattle.preconditions.specs.transformer_algebra.Claims.{Scene, Means}
use Rattle.preconditions.specs.call_translation.Actuals.{named_cell, actual_of, form_in, cell_named}
use Rattle.laws_analyses.specs.Calls.Bindings.{IsDummy, Begins}
use Rattle.laws_analyses.proofs.Calls.TableLaws.{nothing_some}
use Rattle.laws_analyses.specs.Calls.Actuals.{Activation, scene, Fits, Offers, value_of, cell_of, part_of, AreOffered}
use Rattle.laws_analyses.specs.Calls.ActualLaws.{call_in, AreBound, AreLent}
use Rattle.fx_lists.proofs.Options.{some_is as some_same}

module _ (a : Activation) (fits : Fits a) (es : ExprTrees) (s z : Store) (xs : List Actual) (offered : AreOffered a es 0 s z xs) (ss : List SymbolTree) (k : Scene) (bound : AreBound ss xs k) where
  cell_stays : (c : ℕ) → a.tracked c ≡ true → z (unit_in a.at c) ≡ s (unit_in a.at c)
  cell_stays c t = offered.others (unit_in a.at c) (λ i l q. fits.cells i c t q)

  -- a dummy with what its actual offers
  value_begins : (e : ExprTree) (j u : ℕ) (x : Actual) → u ≡ x.place.first → Offers a e j s z x → Means (scene a) (affine_of a.table.scalars e) (numbers_of s) (numbers_of z u)
  value_begins e j u x q (value_of c f g m h) =
      let r : u ≡ a.own j = q ∙ ap (λ (y : Actual). y.place.first) f in
      subst (λ (b : Content). Means (scene a) (affine_of a.table.scalars e) (numbers_of s) b.number) (sym (ap z r ∙ g)) m
  value_begins e j u x q (cell_of y v f g t h m) =
      let r : u ≡ (a.at v).first = q ∙ ap (λ (y : Actual). y.place.first) h in
      subst (λ (b : Content). Means (scene a) (affine_of a.table.scalars e) (numbers_of s) b.number) (sym (ap z r ∙ cell_stays v t)) m
  value_begins e j u x q (part_of y v f g h l m) = subst (λ (o : Option Affine). Means (scene a) o (numbers_of s) (numbers_of z u)) (sym l) tt

  values : (d n : ℕ) → IsDummy ss d n → Means (scene a) (form_in a.table (actual_of es n)) (numbers_of s) (numbers_of z (k.unit d))
  values d n e = go (actual_of es n) refl
    where
      go : (o : Option ExprTree) → actual_of es n ≡ o → Means (scene a) (form_in a.table o) (numbers_of s) (numbers_of z (k.unit d))
      go None q = tt
      go (Some f) q = let r = offered.each (n - 1) f q in value_begins f _ (k.unit d) r.0 (bound d n r.0 e r.1) r.2

  cell_passed : (e : ExprTree) (j u v : ℕ) (x : Actual) → u ≡ x.place.first → named_cell a.table.scalars e ≡ Some v → Offers a e j s z x → (a.tracked v ≡ true) × (u ≡ unit_in a.at v)
  cell_passed e j u v x q i (value_of c f g m h) = nothing_some v (sym h ∙ i)
  cell_passed e j u v x q i (cell_of y w f g t h m) =
      let r : w ≡ v = some_same w v (sym g ∙ i) in
      (subst (λ c. a.tracked c ≡ true) r t, q ∙ (ap (λ (y : Actual). y.place.first) h ∙ ap (unit_in a.at) r))
  cell_passed e j u v x q i (part_of y w f g h l m) = nothing_some v (sym m ∙ i)

  lends : AreLent (call_in a es ss) (scene a) k
  lends d n v e f = go (actual_of es n) refl f
    where
      go : (o : Option ExprTree) → actual_of es n ≡ o → cell_named a.table o ≡ Some v → (a.tracked v ≡ true) × (k.unit d ≡ unit_in a.at v)
      go None q i = nothing_some v i
      go (Some g) q i = let r = offered.each (n - 1) g q in cell_passed g _ (k.unit d) v r.0 (bound d n r.0 e r.1) i r.2

  pub begin_dummies : Begins (call_in a es ss) (scene a) k (numbers_of s) (numbers_of z) × AreLent (call_in a es ss) (scene a) k
  begin_dummies = (
    record {
      kept = record {
        cells = λ c t e. ap (λ (b : Content). b.number) (cell_stays c t);
        foreign = λ u f i. ap (λ (b : Content). b.number) (offered.others (a.place u) (λ j l q. fits.far j u f q));
      };
      values = values;
    },
    lends,
  )
