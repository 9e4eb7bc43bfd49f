-- Any number of iterations.
use Rattle.std.proofs.Common.{◌≡◌, ℕ, zero, suc, List, [], ◌∷◌, Bool, true, false, refl, sym, ap, ◌∙◌, subst, ℤ, pos, nat_eq, ◌||◌, ◌⊎◌, inl, inr}
use Rattle.std.specs.Prelude.{if◌then◌else◌}
use Rattle.std.proofs.lemmas.Bool.{or_right}
use Rattle.affine_systems.specs.declared.row.Var.{Var}
use Rattle.affine_systems.specs.declared.row.Var.TheVariants.{Cell, Exit, Phi, Aux}
use Rattle.affine_systems.specs.declared.row.System.{System}
use Rattle.affine_systems.specs.Terms.{var_eq}
use Rattle.affine_systems.specs.Points.{Point, HoldsAll, only}
use Rattle.affine_systems.proofs.LackLaws.{RowsNil}
use Rattle.hull_projection.specs.Iterations.{Store, between, Joined}
use Rattle.hull_projection.specs.Closure.{AreCells, exit_of, closure}
use Rattle.hull_projection.specs.Laws.{IsOneOf}
use Rattle.hull_projection.proofs.ProjectLaws.{all-agree}
use Rattle.hull_projection.proofs.ClosureLaws.{closure_holds, zero_point}
use Rattle.hull_projection.proofs.LiftLaws.{old_apart}
use Rattle.affine_systems.proofs.AscendLaws.{var_eq-sym, only-other as only_zero}
use Rattle.transformer_algebra.specs.declared.transformer.Transformer.{Transformer}
use Rattle.transformer_algebra.specs.Cells.{has}
use Rattle.transformer_algebra.specs.Halves.{cell_vars}
use Rattle.transformer_algebra.specs.Transformers.{iterate}
use Rattle.transformer_algebra.specs.Claims.{Scene, AtStart, AtEnd, Kept, Does, Chain, none_yet, then_iteration, Tracks}
use Rattle.transformer_algebra.proofs.CellLaws.{cell_exit, exit_cell, cell_same, exit_same}
use Rattle.hull_projection.proofs.ClosureLaws.{rows_elsewhere}
use Rattle.transformer_algebra.proofs.ElsewhereLaws.{closure_nil}
use Rattle.transformer_algebra.proofs.GivenSteps.{are_cells}
use Rattle.fx_lists.proofs.Booleans.{clash as clashes}
use Rattle.fx_lists.proofs.Numbers.{nat_eq_same}

-- one iteration more at the end
between_same : (q : Point) (s u w : Store) → ((c : ℕ) → s c ≡ u c) → (v : Var) → between q s w v ≡ between q u w v
between_same q s u w f (Cell c) = f c
between_same q s u w f (Exit c) = refl
between_same q s u w f (Phi c) = refl
between_same q s u w f (Aux c) = refl

joined_more : (n : ℕ) (t : System) (s u w : Store) (q : Point) → Joined n t s u → HoldsAll (between q u w) t.rows → Joined (suc n) t s w
joined_more zero t s u w q j h = (w, q, all-agree (between q u w) (between q s w) t.rows (between_same q s u w j) h, (λ c. refl))
joined_more (suc n) t s u w q j h = (j.0, j.1, j.2, joined_more n t j.0 u w q j.3 h)

-- a cell that is none of these, and its exit
absent : (cs : List ℕ) (c d : ℕ) → has cs c ≡ false → has cs d ≡ true → c ≡ d → ⊥
absent cs c d e h q = clashes (has cs c) (ap (has cs) q ∙ h) e

one_cell : (cs : List ℕ) (w : Var) → IsOneOf w (cell_vars cs) → (d : ℕ) × (w ≡ Cell d) × (has cs d ≡ true)
one_cell [] w h = absurd h
one_cell (c ∷ cs) w (inl e) = (c, e, ap (λ b. b || has cs c) (nat_eq_same c))
one_cell (c ∷ cs) w (inr h) = let k = one_cell cs w h in (k.0, k.1, or_right (nat_eq c k.0) (has cs k.0) k.2)

cell_off : (cs : List ℕ) (c : ℕ) → has cs c ≡ false → (w : Var) → IsOneOf w (cell_vars cs) → (only (Cell c) w ≡ pos 0) × (only (Cell c) (exit_of w) ≡ pos 0)
cell_off cs c e w h =
    let k = one_cell cs w h in
    subst (λ (v : Var). (only (Cell c) v ≡ pos 0) × (only (Cell c) (exit_of v) ≡ pos 0)) (sym k.1)
    (only_zero (Cell c) (Cell k.0) (go k.0 (var_eq (Cell c) (Cell k.0)) refl k.2), only_zero (Cell c) (Exit k.0) (cell_exit c k.0))
  where
    go : (d : ℕ) (b : Bool) → var_eq (Cell c) (Cell d) ≡ b → has cs d ≡ true → var_eq (Cell c) (Cell d) ≡ false
    go d true q i = absurd (absent cs c d e i (cell_same c d q))
    go d false q i = q

exit_off : (cs : List ℕ) (c : ℕ) → has cs c ≡ false → (w : Var) → IsOneOf w (cell_vars cs) → (only (Exit c) w ≡ pos 0) × (only (Exit c) (exit_of w) ≡ pos 0)
exit_off cs c e w h =
    let k = one_cell cs w h in
    subst (λ (v : Var). (only (Exit c) v ≡ pos 0) × (only (Exit c) (exit_of v) ≡ pos 0)) (sym k.1)
    (only_zero (Exit c) (Cell k.0) (exit_cell c k.0), only_zero (Exit c) (Exit k.0) (go k.0 (var_eq (Exit c) (Exit k.0)) refl k.2))
  where
    go : (d : ℕ) (b : Bool) → var_eq (Exit c) (Exit d) ≡ b → has cs d ≡ true → var_eq (Exit c) (Exit d) ≡ false
    go d true q i = absurd (absent cs c d e i (exit_same c d q))
    go d false q i = q

aux_zero : (v : Var) (n : ℕ) → var_eq (Aux n) v ≡ false → only v (Aux n) ≡ pos 0
aux_zero v n e = only_zero v (Aux n) (var_eq-sym (Aux n) v e)

module _ (m : Scene) where
  abbrev numbers : (ℕ → ℤ) → Store
  numbers x c = x (m.unit c)

  pub joined_of : (t : Transformer) (x y : ℕ → ℤ) → Chain m t x y → (n : ℕ) × Joined n t.system (numbers x) (numbers y)
  joined_of t x y none_yet = (zero, λ c. refl)
  joined_of t x z (then_iteration {y = y} c d) =
      let k = joined_of t x y c in
      (suc k.0, joined_more k.0 t.system (numbers x) (numbers y) (numbers z) zero_point k.1 (d.relates (between zero_point (numbers y) (numbers z)) (λ c r. refl) (λ c r h. refl)))

  pub kept_chain : (t : Transformer) (x y : ℕ → ℤ) → Chain m t x y → Kept m t.cells t.foreign x y
  kept_chain t x y none_yet = record { cells = λ c r e. refl; foreign = λ u r f. refl }
  kept_chain t x z (then_iteration {y = y} c d) =
      let k = kept_chain t x y c in
      record { cells = λ c r e. d.kept.cells c r e ∙ k.cells c r e; foreign = λ u r f. d.kept.foreign u r f ∙ k.foreign u r f }

  -- the closure has no other variables than those that the two points have in common
  point_agrees : (t : Transformer) (x y : ℕ → ℤ) (p : Point) → Tracks m t.cells → AtStart m x p → AtEnd m t.cells y p → (v : Var) → (between p (numbers x) (numbers y) v ≡ p v) ⊎ RowsNil (only v) (closure (cell_vars t.cells) t.system).rows
  point_agrees t x y p tr st en (Cell c) = go (has t.cells c) refl
    where
      go : (b : Bool) → has t.cells c ≡ b → (x (m.unit c) ≡ p (Cell c)) ⊎ RowsNil (only (Cell c)) (closure (cell_vars t.cells) t.system).rows
      go true e = inl (sym (st c (tr c e)))
      go false e = inr (closure_nil (only (Cell c)) (cell_vars t.cells) t.system (cell_off t.cells c e) (λ n. aux_zero (Cell c) n (old_apart n (Cell c) tt)))
  point_agrees t x y p tr st en (Exit c) = go (has t.cells c) refl
    where
      go : (b : Bool) → has t.cells c ≡ b → (y (m.unit c) ≡ p (Exit c)) ⊎ RowsNil (only (Exit c)) (closure (cell_vars t.cells) t.system).rows
      go true e = inl (sym (en c (tr c e) e))
      go false e = inr (closure_nil (only (Exit c)) (cell_vars t.cells) t.system (exit_off t.cells c e) (λ n. aux_zero (Exit c) n (old_apart n (Exit c) tt)))
  point_agrees t x y p tr st en (Phi c) = inl refl
  point_agrees t x y p tr st en (Aux c) = inl refl

  -- any number of iterations; the iteration changes tracked cells alone
  pub does_closed : (t : Transformer) (x y : ℕ → ℤ) → Tracks m t.cells → Chain m t x y → Does m (iterate t) x y
  does_closed t x y tr ch = record {
    relates = λ p st en.
        let k = joined_of t x y ch in
        rows_elsewhere (between p (numbers x) (numbers y)) p (closure (cell_vars t.cells) t.system).rows (point_agrees t x y p tr st en)
        (closure_holds (cell_vars t.cells) t.system (are_cells t.cells) k.0 p (numbers x) (numbers y) k.1);
    kept = kept_chain t x y ch;
  }
