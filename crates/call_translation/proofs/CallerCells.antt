-- The cells of the caller that are cells of the callee.
use Rattle.std.proofs.Common.{◌≡◌, ℕ, List, [], ◌∷◌, ◌++◌, ◌||◌, Option, Some, Bool, true, false, refl, sym, ap, ◌∙◌, subst, nat_eq}
use Rattle.f77_ast.specs.Shared.{place_at}
use Rattle.transformer_algebra.specs.Cells.{has}
use Rattle.transformer_algebra.proofs.HasLaws.{has_left, has_right}
use Rattle.call_translation.specs.Actuals.{one_cell}
use Rattle.call_translation.specs.Call.{CallTree, cell_at}
use Rattle.call_translation.specs.Summary.{cells_of}
use Rattle.fx_lists.proofs.Booleans.{clash as clashes}
use Rattle.fx_lists.proofs.Numbers.{same_is as nat_same, nat_eq_same}

pub has_one : (o : Option ℕ) (c : ℕ) → o ≡ Some c → has (one_cell o) c ≡ true
has_one o c e = subst (λ (p : Option ℕ). has (one_cell p) c ≡ true) (sym e) (ap (λ b. b || false) (nat_eq_same c))

-- a cell of the caller that is one of these cells of the callee
pub cells_of_has : (c : CallTree) (ds : List ℕ) (d v : ℕ) → has ds d ≡ true → cell_at c (place_at c.symbols d) ≡ Some v → has (cells_of c ds) v ≡ true
cells_of_has c [] d v h e = clashes false h refl
cells_of_has c (a ∷ ds) d v h e = go (nat_eq a d) refl h (λ k. cells_of_has c ds d v k e)
  where
    go : (b : Bool) → nat_eq a d ≡ b → (b || has ds d) ≡ true → (has ds d ≡ true → has (cells_of c ds) v ≡ true) → has (one_cell (cell_at c (place_at c.symbols a)) ++ cells_of c ds) v ≡ true
    go true q k ih = has_left (one_cell (cell_at c (place_at c.symbols a))) (cells_of c ds) v (has_one (cell_at c (place_at c.symbols a)) v (ap (λ j. cell_at c (place_at c.symbols j)) (nat_same a d q) ∙ e))
    go false q k ih = has_right (one_cell (cell_at c (place_at c.symbols a))) (cells_of c ds) v (ih k)
