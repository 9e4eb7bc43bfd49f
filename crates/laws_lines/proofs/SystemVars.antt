-- Systems of tidied rows over some variables: what the calls on rows make of them.
use Rattle.std.proofs.Common.{◌≡◌, ℕ, suc, Bool, true, false, ◌||◌, List, [], ◌∷◌, ◌++◌, map}
use Rattle.affine_systems.specs.declared.row.Var.{Var}
use Rattle.affine_systems.specs.declared.row.Row.{Row}
use Rattle.affine_systems.specs.declared.row.System.{System}
use Rattle.affine_systems.specs.declared.items.Item.{Item}
use Rattle.affine_systems.specs.Rows.{system, AllRows, renamed_row}
use Rattle.affine_systems.specs.Points.{only}
use Rattle.affine_systems.specs.Items.{items_from, rows_of}
use Rattle.affine_systems.specs.Tidy.{tidy_items, tidy}
use Rattle.affine_systems.specs.Eliminate.{eliminate_item, eliminate}
use Rattle.affine_systems.specs.Calls.{meet}
use Rattle.affine_systems.proofs.AscendLaws.{ascends-renamed}
use Rattle.affine_systems.proofs.LastLaws.{Has, tidied_has, eliminated_has}
use Rattle.affine_systems.proofs.LackLaws.{RowsNil}
use Rattle.hull_projection.specs.declared.projection.Shadow.{Shadow}
use Rattle.hull_projection.specs.Variables.{in_order}
use Rattle.hull_projection.specs.Clean.{clean}
use Rattle.hull_projection.specs.Project.{shadow, shadow_after, eliminate_each, project}
use Rattle.hull_projection.specs.Laws.{IsOneOf}
use Rattle.hull_projection.proofs.ProjectLaws.{project_nil}
use Rattle.preconditions.specs.transformer_algebra.declared.naming.Naming.{Naming}
use Rattle.preconditions.specs.transformer_algebra.Renaming.{renamed_by, rename_all, of_rows, push_rows}
use Rattle.laws_lines.specs.Variables.{EachVar, IsOver}
use Rattle.laws_lines.proofs.RowVars.{each-renamed, Given, Neat, neat_given, neat_more, neat_without, over_lasts, over_survives}
use Rattle.elimination.proofs.ClosedLaws.{rows_weaker as all_more}
use Rattle.hull_projection.proofs.CleanLaws.{cleaned_all}

-- ---- lists of rows

pub all-append : (P : Row → Type 0) (rs ss : List Row) → AllRows P rs → AllRows P ss → AllRows P (rs ++ ss)
all-append P [] ss h k = k
all-append P (r ∷ rs) ss h k = (h.0, all-append P rs ss h.1 k)

pub all-map : (P : Row → Type 0) (f : Row → Row) (Q : Row → Type 0) → ((r : Row) → Q r → P (f r)) → (rs : List Row) → AllRows Q rs → AllRows P (map f rs)
all-map P f Q g [] h = tt
all-map P f Q g (r ∷ rs) h = (g r h.0, all-map P f Q g rs h.1)

pub items_have : (P : Row → Type 0) (n : ℕ) (rs : List Row) → AllRows P rs → Has P (items_from n rs)
items_have P n [] h = tt
items_have P n (r ∷ rs) h = (h.0, items_have P (suc n) rs h.1)

pub rows_have : (P : Row → Type 0) (is : List Item) → Has P is → AllRows P (rows_of is)
rows_have P [] h = tt
rows_have P (i ∷ is) h = (h.0, rows_have P is h.1)

pub have_more : (P Q : Row → Type 0) → ((r : Row) → P r → Q r) → (is : List Item) → Has P is → Has Q is
have_more P Q f [] h = tt
have_more P Q f (i ∷ is) h = (f i.row h.0, have_more P Q f is h.1)

-- ---- systems of tidied rows

abbrev pub IsNeat : (Var → Type 0) → System → Type 0
IsNeat such s = AllRows (Neat false such) s.rows

abbrev pub AreGiven : (Var → Type 0) → List Row → Type 0
AreGiven such rs = AllRows (Given such) rs

pub neat_over : (such : Var → Type 0) (s : System) → IsNeat such s → IsOver such s
neat_over such s h = all_more (Neat false such) (λ r. EachVar such r.terms) (λ r k. k.1) s.rows h

pub system_more : (such other : Var → Type 0) → ((v : Var) → such v → other v) → (s : System) → IsNeat such s → IsNeat other s
system_more such other f s h = all_more (Neat false such) (Neat false other) (neat_more false such other f) s.rows h

pub given_again : (such : Var → Type 0) (s : System) → IsNeat such s → AreGiven such s.rows
given_again such s h = all_more (Neat false such) (Given such) (neat_given false such) s.rows h

pub tidy_neat : (such : Var → Type 0) (s : System) → AreGiven such s.rows → IsNeat such (tidy s)
tidy_neat such s h =
    rows_have (Neat false such) (tidy_items false (items_from 0 s.rows)).items
    (tidied_has (Given such) (Neat false such) false (over_lasts such false) (items_from 0 s.rows) (items_have (Given such) 0 s.rows h))

eliminate_neat : (such : Var → Type 0) (s : System) (v : Var) → IsNeat such s → IsNeat such (eliminate s v).system
eliminate_neat such s v h =
    rows_have (Neat false such) (eliminate_item false v (items_from 0 s.rows)).items
    (eliminated_has (Given such) (Neat false such) false (over_survives such false) v (items_from 0 s.rows) (items_have (Neat false such) 0 s.rows h))

-- variables at which all rows come to 0 are none of theirs
pub rows_without : (q : Bool) (such bad : Var → Type 0) (rs : List Row) → AllRows (Neat q such) rs → ((w : Var) → bad w → RowsNil (only w) rs) → AllRows (Neat q (λ w. such w × (bad w → ⊥))) rs
rows_without q such bad [] h n = tt
rows_without q such bad (r ∷ rs) h n = (neat_without q such bad r h.0 (λ w b. (n w b).0), rows_without q such bad rs h.1 (λ w b. (n w b).1))

-- ---- projection

pub clean_neat : (such : Var → Type 0) (s : System) → IsNeat such s → IsNeat such (clean s)
clean_neat such s h = cleaned_all (Neat false such) [] s.rows h

each_neat : (such : Var → Type 0) (s : Shadow) (vs : List Var) → IsNeat such s.system → IsNeat such (eliminate_each s vs).system
each_neat such s [] h = h
each_neat such s (v ∷ vs) h = each_neat such (shadow_after s (eliminate s.system v)) vs (eliminate_neat such s.system v h)

-- the variables that are projected away are gone
pub project_neat : (such : Var → Type 0) (s : System) (vs : List Var) → IsNeat such s → IsNeat (λ w. such w × (IsOneOf w vs → ⊥)) (project s vs).system
project_neat such s vs h =
    rows_without false such (λ w. IsOneOf w vs) (project s vs).system.rows
    (cleaned_all (Neat false such) [] (eliminate_each (shadow s true) (in_order vs)).system.rows (each_neat such (shadow s true) (in_order vs) h))
    (λ w b. project_nil w s vs b)

-- one eliminated variable is gone
pub eliminate_without : (such : Var → Type 0) (s : System) (v : Var) → IsNeat such s → ((w : Var) → (w ≡ v) → RowsNil (only w) (eliminate s v).system.rows) → IsNeat (λ w. such w × (w ≡ v → ⊥)) (eliminate s v).system
eliminate_without such s v h n = rows_without false such (λ w. w ≡ v) (eliminate s v).system.rows (eliminate_neat such s v h) n

-- ---- rows together, and renamed

pub meet_neat : (such : Var → Type 0) (a b : System) → IsNeat such a → IsNeat such b → IsNeat such (meet a b)
meet_neat such a b h k = tidy_neat such (system (a.rows ++ b.rows) (a.weak || b.weak)) (all-append (Given such) a.rows b.rows (given_again such a h) (given_again such b k))

pub push_rows_neat : (such : Var → Type 0) (s : System) (rs : List Row) → IsNeat such s → AreGiven such rs → IsNeat such (push_rows s rs)
push_rows_neat such s rs h k = tidy_neat such (system (s.rows ++ rs) s.weak) (all-append (Given such) s.rows rs (given_again such s h) k)

pub of_rows_neat : (such : Var → Type 0) (rs : List Row) → AreGiven such rs → IsNeat such (of_rows rs)
of_rows_neat such rs h = tidy_neat such (system rs false) h

pub renamed_given : (such other : Var → Type 0) (f : Var → Var) → ((v : Var) → such v → other (f v)) → (rs : List Row) → AllRows (λ r. EachVar such r.terms) rs → AreGiven other (map (renamed_row f) rs)
renamed_given such other f g rs h =
    all-map (Given other) (renamed_row f) (λ r. EachVar such r.terms) (λ r k. (ascends-renamed f r.terms, each-renamed such other f g r.terms k)) rs h

pub rename_neat : (such other : Var → Type 0) (ns : List Naming) → ((v : Var) → such v → other (renamed_by ns v)) → (s : System) → IsNeat such s → IsNeat other (rename_all ns s)
rename_neat such other ns g s h = tidy_neat other (system (map (renamed_row (renamed_by ns)) s.rows) s.weak) (renamed_given such other (renamed_by ns) g s.rows (neat_over such s h))
