-- Steps of the loops over systems, rows and regions, and what is handed on may be handed on.
use Rattle.std.proofs.Common.{◌≡◌, ℕ, ◌≤◌, ◌&&◌, ◌||◌, Bool, true, false, List, [], ◌∷◌, ◌++◌, append_assoc, append-nil, refl, sym, ap, subst, ◌∙◌, ⊎_elim}
use Rattle.affine_systems.specs.declared.row.Row.{Row}
use Rattle.affine_systems.specs.declared.row.System.{System}
use Rattle.affine_systems.specs.Terms.{Ascends, has_no_terms}
use Rattle.affine_systems.specs.Rows.{AllRows}
use Rattle.affine_systems.specs.Given.{IsGiven, IsNormal, Fits}
use Rattle.affine_systems.proofs.FitLaws.{small_given}
use Rattle.affine_systems.proofs.RenameSteps.{fits_given, normal_small_row}
use Rattle.hull_projection.specs.Minus.{AllFit}
use Rattle.region_sets.specs.declared.region.Region.{Region}
use Rattle.region_sets.specs.Regions.{RegionFits}
use Rattle.region_sets.specs.Ready.{IsReady}
use Rattle.region_sets.specs.Sets.{SetFits}
use Rattle.fx_lists.proofs.Booleans.{clash as clashes}

pub fits-push : (ss : List System) (s : System) → AllFit ss → Fits s → AllFit (ss ++ s ∷ [])
fits-push [] s h f = (f, tt)
fits-push (a ∷ ss) s h f = (h.0, fits-push ss s h.1 f)

pub set-push : (rs : List Region) (r : Region) → SetFits rs → RegionFits r → SetFits (rs ++ r ∷ [])
set-push [] r h f = (f, tt)
set-push (a ∷ rs) r h f = (h.0, set-push rs r h.1 f)

pub ready-push : (rs : List Row) (r : Row) → AllRows IsReady rs → IsReady r → AllRows IsReady (rs ++ r ∷ [])
ready-push [] r h f = (f, tt)
ready-push (a ∷ rs) r h f = (h.0, ready-push rs r h.1 f)

pub and_assoc : (a b c : Bool) → ((a && b) && c) ≡ (a && (b && c))
and_assoc true b c = refl
and_assoc false b c = refl

pub ruleset fitting = (fits-push, set-push, ready-push, append_assoc, append-nil, and_assoc)

pub ruleset leaving = (fits-push, append_assoc, append-nil)

-- ---- the rows of a system that calls take

normal_ready : (r : Row) → IsNormal r → IsReady r
normal_ready r h = record { given = small_given r (normal_small_row r h); normal = λ e. h }

all_normal : (rs : List Row) → AllRows IsNormal rs → AllRows IsReady rs
all_normal [] h = tt
all_normal (r ∷ rs) h = (normal_ready r h.0, all_normal rs h.1)

pub fits_ready : (s : System) → Fits s → AllRows IsReady s.rows
fits_ready s h = ⊎_elim (λ e. subst (AllRows IsReady) (sym e) (record { given = (subst (λ (rs : List Row). AllRows IsGiven rs) e (fits_given s.rows h)).0; normal = λ n. clashes true refl n }, tt)) (λ k. all_normal s.rows k) h.1

pub ready_given : (rs : List Row) → AllRows IsReady rs → AllRows IsGiven rs
ready_given [] h = tt
ready_given (r ∷ rs) h = (h.0.given, ready_given rs h.1)

pub ready_ascends : (r : Row) → IsReady r → Ascends r.terms
ready_ascends r h = h.given.0

pub ready_normal : (r : Row) → IsReady r → has_no_terms r.terms ≡ false → IsNormal r
ready_normal r h e = h.normal e

pub ruleset ready_rows = (fits_ready, ready_given, ready_ascends, ready_normal)
