-- Which cells and units a CALL lists as changed.
use Rattle.std.proofs.Common.{◌≡◌, ℕ, List, [], ◌∷◌, ◌++◌, ◌||◌, Some, Bool, true, false, refl, sym, ap, ◌∙◌, inl, inr, ⊎_elim, nat_eq}
use Rattle.std.specs.Prelude.{if◌then◌else◌}
use Rattle.f77_ast.specs.declared.symbol.Place.TheVariants.{Block}
use Rattle.f77_ast.specs.declared.variable.Unit.{Unit as BlockUnit}
use Rattle.f77_ast.specs.Shared.{place_at}
use Rattle.preconditions.specs.transformer_algebra.Cells.{has}
use Rattle.preconditions.specs.transformer_algebra.Claims.{IsIn}
use Rattle.preconditions.specs.call_translation.Common.{tracked_at, declares}
use Rattle.preconditions.specs.call_translation.Call.{CallTree}
use Rattle.preconditions.specs.call_translation.Summary.{unit_cell, unit_cells, if_hidden, hidden_units, unit_of, units_of}
use Rattle.laws_analyses.specs.Calls.Scenes.{IsInBlock}
use Rattle.fx_lists.proofs.Booleans.{clash as clashes}
use Rattle.fx_lists.proofs.Numbers.{same_is as nat_same}
use Rattle.preconditions.proofs.TransformerAlgebra.HasLaws.{has_left, has_right}
use Rattle.preconditions.proofs.CallTranslation.CallerCells.{has_one}

-- ---- cells

-- a cell of the caller at one of these units
pub unit_cells_has : (c : CallTree) (us : List BlockUnit) (u : BlockUnit) (v : ℕ) → IsIn u us → tracked_at c.caller u.block u.offset ≡ Some v → has (unit_cells c us) v ≡ true
unit_cells_has c [] u v i e = absurd i
unit_cells_has c (w ∷ us) u v i e =
    ⊎_elim
    (λ q. has_left (unit_cell c w) (unit_cells c us) v (has_one (tracked_at c.caller w.block w.offset) v (ap (λ (j : BlockUnit). tracked_at c.caller j.block j.offset) (sym q) ∙ e)))
    (λ r. has_right (unit_cell c w) (unit_cells c us) v (unit_cells_has c us u v r e))
    i

-- ---- units

in_left : (us vs : List BlockUnit) (u : BlockUnit) → IsIn u us → IsIn u (us ++ vs)
in_left [] vs u i = absurd i
in_left (w ∷ us) vs u i = ⊎_elim (λ q. inl q) (λ r. inr (in_left us vs u r)) i

in_right : (us vs : List BlockUnit) (u : BlockUnit) → IsIn u vs → IsIn u (us ++ vs)
in_right [] vs u i = i
in_right (w ∷ us) vs u i = inr (in_right us vs u i)

-- a unit where the caller has no variable stays
pub hidden_has : (c : CallTree) (us : List BlockUnit) (u : BlockUnit) → IsIn u us → declares c.caller u.block u.offset ≡ false → IsIn u (hidden_units c us)
hidden_has c [] u i e = i
hidden_has c (w ∷ us) u i e = ⊎_elim (λ q. in_left (if_hidden c w) (hidden_units c us) u (here q)) (λ r. in_right (if_hidden c w) (hidden_units c us) u (hidden_has c us u r e)) i
  where
    here : u ≡ w → IsIn u (if declares c.caller w.block w.offset then [] else w ∷ [])
    here q =
        let d : declares c.caller w.block w.offset ≡ false = ap (λ (j : BlockUnit). declares c.caller j.block j.offset) (sym q) ∙ e in
        rw d (inl q)

-- the unit of one of these cells of the callee
pub units_of_has : (c : CallTree) (ds : List ℕ) (d : ℕ) (u : BlockUnit) → has ds d ≡ true → IsInBlock c.symbols d u.block u.offset → IsIn u (units_of c ds)
units_of_has c [] d u h e = clashes false h refl
units_of_has c (a ∷ ds) d u h e = go (nat_eq a d) refl h (λ k. units_of_has c ds d u k e)
  where
    one : (b : BlockUnit) → IsIn b (b ∷ [])
    one b = inl refl

    go : (b : Bool) → nat_eq a d ≡ b → (b || has ds d) ≡ true → (has ds d ≡ true → IsIn u (units_of c ds)) → IsIn u (unit_of (place_at c.symbols a) ++ units_of c ds)
    go true q k ih =
        let p : place_at c.symbols a ≡ Some (Block u.block u.offset) = ap (λ j. place_at c.symbols j) (nat_same a d q) ∙ e in
        in_left (unit_of (place_at c.symbols a)) (units_of c ds) u (rw p (one u))
    go false q k ih = in_right (unit_of (place_at c.symbols a)) (units_of c ds) u (ih k)
