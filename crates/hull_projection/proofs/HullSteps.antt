-- What the steps of a hull come to.
use Rattle.std.proofs.Common.{◌≡◌, ℕ, suc, Bool, true, ◌||◌, List, length, ap, ap₂, ◌∙◌}
use Rattle.affine_systems.specs.declared.row.Var.{Var}
use Rattle.affine_systems.specs.declared.row.Row.{Row}
use Rattle.affine_systems.specs.declared.row.System.{System}
use Rattle.affine_systems.specs.declared.items.Item.{Item}
use Rattle.affine_systems.specs.declared.items.Tidied.{Tidied}
use Rattle.hull_projection.specs.declared.eliminations.Left.{Left}
use Rattle.affine_systems.specs.Items.{items_from}
use Rattle.affine_systems.specs.Tidy.{tidy_items}
use Rattle.hull_projection.specs.Refute.{eliminate_all, all_left}
use Rattle.hull_projection.specs.Fresh.{aux_from}
use Rattle.hull_projection.specs.Hull.{lift_rows, hull_left, hull_tidied, lifted_hull}

pub hull_is : (n : ℕ) (xs : List Var) (a b : System) (rows : List Row) (is : List Item) (t : Tidied) (w : Bool) (s l : Left) (aux : List Var) (sys : System) → rows ≡ lift_rows n xs a.rows b.rows → is ≡ items_from 0 rows → t ≡ tidy_items true is → w ≡ ((a.weak || b.weak) || t.lost) → s ≡ all_left t.items → aux ≡ aux_from n (suc (length xs)) → l ≡ eliminate_all true s aux → sys ≡ hull_left w l → sys ≡ lifted_hull n xs a b
hull_is n xs a b rows is t w s l aux sys er ei et ew es ea el f =
    f ∙ (ap₂ (λ (v : Bool) (m : Left). hull_left v m) ew (el ∙ ap₂ (λ (m : Left) (vs : List Var). eliminate_all true m vs) es ea)
    ∙ ap (λ (u : Tidied). hull_tidied n xs (a.weak || b.weak) u) (et ∙ ap (tidy_items true) (ei ∙ ap (items_from 0) er)))
