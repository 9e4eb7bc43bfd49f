-- The convex hull: the points between one of a and one of b, as rows with a multiplier l, of which all but the points is eliminated.
-- With y = l x' for a point x' of a, x - y = (1 - l) x'' for a point x'' of b, and l from 0 to 1, x lies between x' and x''.
use Rattle.std.specs.Prelude.{ℕ, suc, ◌+◌, Bool, true, false, ◌||◌, if◌then◌else◌, List, [], ◌∷◌, ◌++◌, length, map, pos, negsuc, neg_ℤ}
use Rattle.affine_systems.specs.declared.row.Var.{Var}
use Rattle.affine_systems.specs.declared.row.Var.TheVariants.{Aux}
use Rattle.affine_systems.specs.declared.row.Term.{Term}
use Rattle.affine_systems.specs.declared.row.Row.{Row}
use Rattle.affine_systems.specs.declared.row.System.{System}
use Rattle.affine_systems.specs.declared.items.Tidied.{Tidied}
use Rattle.affine_systems.specs.Terms.{var_eq, term, term_before}
use Rattle.affine_systems.specs.Rows.{row, system}
use Rattle.affine_systems.specs.Items.{items_from, rows_of}
use Rattle.affine_systems.specs.Tidy.{tidy_items, tidy}
use Rattle.hull_projection.specs.declared.eliminations.Left.{Left}
use Rattle.hull_projection.specs.Variables.{with_rows, row_vars}
use Rattle.hull_projection.specs.Refute.{eliminate_all, all_left, refuted}
use Rattle.hull_projection.specs.Clean.{clean}
use Rattle.hull_projection.specs.Fresh.{fresh_after, aux_from}

abbrev pub place_of : Var → List Var → ℕ
place_of v [] = 0
place_of v (w ∷ ws) = if var_eq v w then 0 else suc (place_of v ws)

-- the y of a variable x, where those of xs are numbered from n on
abbrev pub copy_of : ℕ → List Var → Var → Var
copy_of n xs v = Aux (n + place_of v xs)

-- l comes after the y
abbrev pub share_of : ℕ → List Var → Var
share_of n xs = Aux (n + length xs)

abbrev pub copies : ℕ → List Var → List Term → List Term
copies n xs ts = map (λ t. term (copy_of n xs t.var) t.factor) ts

abbrev pub negated_copies : ℕ → List Var → List Term → List Term
negated_copies n xs ts = map (λ t. term (copy_of n xs t.var) (neg_ℤ t.factor)) ts

-- A x <= p as A y <= p l
abbrev pub scale : ℕ → List Var → Row → Row
scale n xs r = row r.equal (copies n xs r.terms ++ term_before (share_of n xs) (neg_ℤ r.bound) []) (pos 0)

-- C x <= q as C (x - y) <= q (1 - l)
abbrev pub rest_scaled : ℕ → List Var → Row → Row
rest_scaled n xs r = row r.equal ((r.terms ++ negated_copies n xs r.terms) ++ term_before (share_of n xs) r.bound []) r.bound

-- 0 <= v
abbrev pub at_least_0 : Var → Row
at_least_0 v = row false (term v (negsuc 0) ∷ []) (pos 0)

-- v <= 1
abbrev pub at_most_1 : Var → Row
at_most_1 v = row false (term v (pos 1) ∷ []) (pos 1)

abbrev pub lift_rows : ℕ → List Var → List Row → List Row → List Row
lift_rows n xs rs ss =
    (map (scale n xs) rs ++ map (rest_scaled n xs) ss) ++ at_least_0 (share_of n xs) ∷ at_most_1 (share_of n xs) ∷ []

-- from here on rows are whole again
abbrev pub hull_left : Bool → Left → System
hull_left w s = clean (tidy (system (rows_of s.items) (w || s.lost)))

-- the tidied rows without the y and l
abbrev pub hull_tidied : ℕ → List Var → Bool → Tidied → System
hull_tidied n xs w t = hull_left (w || t.lost) (eliminate_all true (all_left t.items) (aux_from n (suc (length xs))))

-- rational rows until the y and l are gone
abbrev pub lifted_hull : ℕ → List Var → System → System → System
lifted_hull n xs a b = hull_tidied n xs (a.weak || b.weak) (tidy_items true (items_from 0 (lift_rows n xs a.rows b.rows)))

-- the variables of both
abbrev pub both_vars : System → System → List Var
both_vars a b = with_rows (row_vars a.rows) b.rows

-- where the one is refuted, the other as it stands
abbrev pub hull : System → System → System
hull a b =
    if refuted a.rows then b
    else if refuted b.rows then a
    else lifted_hull (fresh_after (both_vars a b)) (both_vars a b) a b
