-- Hulls, closures and parts of systems that fit.
use Rattle.std.proofs.Common.{suc, Bool, true, false, ◌||◌, List, [], ◌∷◌, ◌++◌, length, map, refl, subst}
use Rattle.std.specs.Prelude.{if◌then◌else◌}
use Rattle.affine_systems.specs.declared.row.Var.{Var}
use Rattle.affine_systems.specs.declared.row.Term.{Term}
use Rattle.affine_systems.specs.declared.row.Row.{Row}
use Rattle.affine_systems.specs.declared.row.System.{System}
use Rattle.affine_systems.specs.declared.items.Item.{Item}
use Rattle.affine_systems.specs.Terms.{negated_terms, Ascends}
use Rattle.affine_systems.specs.Rows.{system, AllRows}
use Rattle.affine_systems.specs.Items.{items_from, rows_of}
use Rattle.affine_systems.specs.Tidy.{tidy_items, tidy}
use Rattle.affine_systems.specs.Eliminate.{eliminate_item, eliminate}
use Rattle.affine_systems.specs.Given.{IsSmallRow, Fits, ItemsFit, ItemsSmall}
use Rattle.affine_systems.specs.Calls.{push_row}
use Rattle.affine_systems.proofs.Basics.{if_cases}
use Rattle.affine_systems.proofs.AscendLaws.{ascends-negated, ascends-negated as negated_ascending}
use Rattle.affine_systems.proofs.FitLaws.{eliminate_fits, eliminated_fits, items_fit, rows_of-items_from}
use Rattle.elimination.proofs.ElimSteps.{fit_small}
use Rattle.hull_projection.specs.declared.eliminations.Left.{Left}
use Rattle.hull_projection.specs.Variables.{in_order, row_vars}
use Rattle.hull_projection.specs.Refute.{count_pairs, left_after, eliminate_all, all_left, refuted, negations, above, below}
use Rattle.hull_projection.specs.Fresh.{fresh_after, aux_from, old_vars}
use Rattle.hull_projection.specs.Hull.{lift_rows, both_vars, lifted_hull, hull}
use Rattle.hull_projection.specs.Closure.{AreCells, step_rows, same_row, iterations_var, steps, changes_of, is_false, iteration_rows, some_iterations, no_iteration, closure}
use Rattle.hull_projection.specs.Clean.{clean}
use Rattle.hull_projection.specs.Minus.{AllFit, all_negations, parts, apart}
use Rattle.hull_projection.proofs.CleanLaws.{clean_fits}
use Rattle.hull_projection.proofs.FitLaws.{few_fits, originals_fit}
use Rattle.hull_projection.proofs.GivenLaws.{lifted_given, steps_given, all_same_given, turns_given, ordered_cells, left_given}
use Rattle.hull_projection.proofs.ProjectLaws.{project_fits}
use Rattle.laws_stored.proofs.Tidied.{IsAscending, AreAscending, ascending-append, given_ascending, tidied_fits, items_ascend, tidy_fit, fit_ascending, push_one_fit}

-- ---- small rows

rows_small : (is : List Item) → ItemsSmall is → AllRows IsSmallRow (rows_of is)
rows_small [] h = tt
rows_small (i ∷ is) h = (h.0, rows_small is h.1)

pub fit_small_rows : (s : System) → Fits s → AllRows IsSmallRow s.rows
fit_small_rows s h = subst (AllRows IsSmallRow) (rows_of-items_from 0 s.rows) (rows_small (items_from 0 s.rows) (fit_small false (items_from 0 s.rows) (items_fit 0 s.rows h)))

-- ---- hulls

left_fits : (s : Left) (vs : List Var) → ItemsFit true s.items → ItemsFit true (eliminate_all true s vs).items
left_fits s [] h = h
left_fits s (v ∷ vs) h =
    let e = eliminate_item true v s.items in
    left_fits (left_after s e) vs (few_fits true (count_pairs s.pairs e) e.items (left_after s e).items refl (eliminated_fits true v s.items h))

lifted_fits : (a b : System) → Fits a → Fits b → Fits (lifted_hull (fresh_after (both_vars a b)) (both_vars a b) a b)
lifted_fits a b h k =
    let xs = both_vars a b in
    let n = fresh_after xs in
    let rows = lift_rows n xs a.rows b.rows in
    let given = lifted_given n xs a b rows refl refl (fit_small_rows a h) (fit_small_rows b k) refl in
    let t = tidy_items true (items_from 0 rows) in
    let ys = aux_from n (suc (length xs)) in
    let s = eliminate_all true (all_left t.items) ys in
    let fit = left_fits (all_left t.items) ys (originals_fit true t.items (tidied_fits true (items_from 0 rows) (items_ascend 0 rows (given_ascending rows given)))) in
    let w = ((a.weak || b.weak) || t.lost) || s.lost in
    clean_fits (tidy (system (rows_of s.items) w)) (tidy_fit (system (rows_of s.items) w) (given_ascending (rows_of s.items) (left_given s.items fit)))

pub hull_fit : (a b : System) → Fits a → Fits b → Fits (hull a b)
hull_fit a b h k =
    if_cases Fits (refuted a.rows) b (if refuted b.rows then a else lifted_hull (fresh_after (both_vars a b)) (both_vars a b) a b)
    (λ e. k)
    (λ e. if_cases Fits (refuted b.rows) a (lifted_hull (fresh_after (both_vars a b)) (both_vars a b) a b) (λ f. h) (λ f. lifted_fits a b h k))

-- ---- closures

pub closure_fit : (cs : List Var) (t : System) → AreCells cs → Fits t → Fits (closure cs t)
closure_fit cs t o h =
    let n = fresh_after (row_vars t.rows) in
    let ds = in_order cs in
    let ordered = ordered_cells cs o in
    let s = changes_of n ds t in
    let k = iterations_var n ds in
    let rows = iteration_rows n ds s.rows in
    let many = system rows s.weak in
    let stepped = tidy_fit (system (t.rows ++ step_rows n ds) t.weak) (ascending-append t.rows (step_rows n ds) (fit_ascending t h) (given_ascending (step_rows n ds) (steps_given n ds ordered.cells))) in
    let changes = project_fits (steps n ds t) (old_vars n (row_vars (steps n ds t).rows)) stepped in
    if_cases Fits (is_false s.rows) (no_iteration ds s.weak) (some_iterations n ds s)
    (λ e. tidy_fit (system (map same_row ds) s.weak) (given_ascending (map same_row ds) (all_same_given ds ordered.cells)))
    (λ e. clean_fits (eliminate (tidy many) k).system
    (eliminate_fits (tidy many) k (tidy_fit many (given_ascending rows (turns_given n ds s.rows rows ordered (fit_small_rows s changes) refl)))))

-- ---- parts outside another system

negations_ascending : (r : Row) → IsAscending r → AreAscending (negations r)
negations_ascending r h = if_cases AreAscending r.equal (above r ∷ below r ∷ []) (above r ∷ []) (λ e. (negated_ascending r.terms h, (h, tt))) (λ e. (negated_ascending r.terms h, tt))

all_ascending : (rs : List Row) → AreAscending rs → AreAscending (all_negations rs)
all_ascending [] h = tt
all_ascending (r ∷ rs) h = ascending-append (negations r) (all_negations rs) (negations_ascending r h.0) (all_ascending rs h.1)

parts_fit : (a : System) (ns : List Row) → Fits a → AreAscending ns → AllFit (parts a ns)
parts_fit a [] h k = tt
parts_fit a (n ∷ ns) h k =
    let ih = parts_fit a ns h k.1 in
    if_cases AllFit (refuted (push_row a n).rows) (parts a ns) (push_row a n ∷ parts a ns) (λ e. ih) (λ e. (push_one_fit a n h k.0, ih))

cleaned_fit : (ss : List System) → AllFit ss → AllFit (map clean ss)
cleaned_fit [] h = tt
cleaned_fit (s ∷ ss) h = (clean_fits s h.0, cleaned_fit ss h.1)

pub apart_fit : (a b : System) → Fits a → Fits b → AllFit (apart a b)
apart_fit a b h k = cleaned_fit (parts a (all_negations b.rows)) (parts_fit a (all_negations b.rows) h (all_ascending b.rows (fit_ascending b k)))
