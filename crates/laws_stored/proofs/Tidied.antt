-- Systems that end in a tidy fit, whatever the sizes of the rows are, where their terms ascend.
use Rattle.std.proofs.Common.{◌≡◌, ℕ, suc, Bool, false, ◌||◌, List, [], ◌∷◌, ◌++◌, map, take, pos, neg_ℤ, ◌*ℤ◌, refl, inl, inr, ⊎_elim, subst, sym}
use Rattle.affine_systems.specs.declared.row.Var.{Var}
use Rattle.affine_systems.specs.declared.row.Row.{Row}
use Rattle.affine_systems.specs.declared.row.System.{System}
use Rattle.affine_systems.specs.declared.items.Item.{Item}
use Rattle.affine_systems.specs.Terms.{Ascends}
use Rattle.affine_systems.specs.Rows.{system, false_row, AllRows, renamed_row}
use Rattle.affine_systems.specs.Points.{factor_of}
use Rattle.affine_systems.specs.Items.{next_made, items_from}
use Rattle.affine_systems.specs.Tidy.{sorted, one_each, row_limit, faced_all, in_form, round, turn_limit, tidy_items, tidy}
use Rattle.affine_systems.specs.Given.{IsGiven, IsNormalAs, Fits, ItemsFit}
use Rattle.affine_systems.specs.Calls.{meet, push_row}
use Rattle.affine_systems.proofs.AscendLaws.{ascends-combined, ascends-renamed}
use Rattle.affine_systems.proofs.ReducedLaws.{kept-reduced}
use Rattle.affine_systems.proofs.LastLaws.{Lasts, Has, ordered_has, faced_all_has, cut_form_has, next_has, each_round, round_at_most}
use Rattle.affine_systems.proofs.FitLaws.{IsTidy, tidy_small, tidy_lasts, kept-ascends, system_fits, collapsed_normal}
use Rattle.preconditions.specs.transformer_algebra.declared.naming.Naming.{Naming}
use Rattle.preconditions.specs.transformer_algebra.Renaming.{renamed_by, rename_all, of_rows, push_rows}
use Rattle.elimination.proofs.ClosedLaws.{rows_weaker as all_more}

-- ---- rows

abbrev pub IsAscending : Row → Type 0
IsAscending r = Ascends r.terms

abbrev pub AreAscending : List Row → Type 0
AreAscending rs = AllRows IsAscending rs

pub ascending-append : (rs ss : List Row) → AreAscending rs → AreAscending ss → AreAscending (rs ++ ss)
ascending-append [] ss h k = k
ascending-append (r ∷ rs) ss h k = (h.0, ascending-append rs ss h.1 k)

pub given_ascending : (rs : List Row) → AllRows IsGiven rs → AreAscending rs
given_ascending rs h = all_more IsGiven IsAscending (λ r k. k.0) rs h

-- ---- a round

ascending_lasts : (q : Bool) → Lasts IsAscending (IsTidy q) q
ascending_lasts q = record {
  of_false = inr refl;
  of_normal = λ r s h e. inl (kept-ascends q r s h e, kept-reduced q r s h e);
  of_merged = (tidy_lasts q).of_merged;
  again = λ r h. (tidy_small q r h).0;
  of_pivot = λ r e v u h k. ascends-combined (pos 1) r.terms (neg_ℤ (factor_of v r.terms *ℤ factor_of v e.terms)) e.terms;
}

round_fits : (q : Bool) (is : List Item) → Has IsAscending is → ItemsFit q (round q is).items
round_fits q is h =
    let some = take row_limit (in_form q is) in
    let f = faced_all (next_made some) some some in
    let k = cut_form_has IsAscending (IsTidy q) q (ascending_lasts q) is h in
    (round_at_most q is, collapsed_normal q (one_each (sorted f)) (ordered_has (IsTidy q) (inr refl) f (faced_all_has IsAscending (IsTidy q) q (ascending_lasts q) (next_made some) some some k k)))

pub tidied_fits : (q : Bool) (is : List Item) → Has IsAscending is → ItemsFit q (tidy_items q is).items
tidied_fits q is h = each_round IsAscending (λ t. ItemsFit q t.items) q (round_fits q) (next_has IsAscending (IsTidy q) q (ascending_lasts q)) (λ t b k. k) turn_limit is h

pub items_ascend : (n : ℕ) (rs : List Row) → AreAscending rs → Has IsAscending (items_from n rs)
items_ascend n [] h = tt
items_ascend n (r ∷ rs) h = (h.0, items_ascend (suc n) rs h.1)

-- ---- systems

pub tidy_fit : (s : System) → AreAscending s.rows → Fits (tidy s)
tidy_fit s h = let is = items_from 0 s.rows in system_fits (tidy_items false is).items (s.weak || (tidy_items false is).lost) (tidied_fits false is (items_ascend 0 s.rows h))

normal_ascending : (q : Bool) (rs : List Row) → AllRows (IsNormalAs q) rs → AreAscending rs
normal_ascending q rs h = all_more (IsNormalAs q) IsAscending (λ r k. k.0) rs h

false_ascending : (rs : List Row) → rs ≡ false_row ∷ [] → AreAscending rs
false_ascending [] e = tt
false_ascending (r ∷ []) e = let same : r ≡ false_row = cc in (subst IsAscending (sym same) tt, tt)
false_ascending (r ∷ (s ∷ ss)) e = cc

pub fit_ascending : (s : System) → Fits s → AreAscending s.rows
fit_ascending s h = ⊎_elim (λ e. false_ascending s.rows e) (λ k. normal_ascending false s.rows k) h.1

pub meet_fit : (a b : System) → Fits a → Fits b → Fits (meet a b)
meet_fit a b h k = tidy_fit (system (a.rows ++ b.rows) (a.weak || b.weak)) (ascending-append a.rows b.rows (fit_ascending a h) (fit_ascending b k))

pub push_fit : (s : System) (rs : List Row) → Fits s → AreAscending rs → Fits (push_rows s rs)
push_fit s rs h k = tidy_fit (system (s.rows ++ rs) s.weak) (ascending-append s.rows rs (fit_ascending s h) k)

pub push_one_fit : (s : System) (r : Row) → Fits s → IsAscending r → Fits (push_row s r)
push_one_fit s r h k = tidy_fit (system (s.rows ++ r ∷ []) s.weak) (ascending-append s.rows (r ∷ []) (fit_ascending s h) (k, tt))

pub of_rows_fit : (rs : List Row) → AreAscending rs → Fits (of_rows rs)
of_rows_fit rs h = tidy_fit (system rs false) h

renamed_ascending : (f : Var → Var) (rs : List Row) → AreAscending (map (renamed_row f) rs)
renamed_ascending f [] = tt
renamed_ascending f (r ∷ rs) = (ascends-renamed f r.terms, renamed_ascending f rs)

-- whatever it was before
pub rename_fit : (ns : List Naming) (s : System) → Fits (rename_all ns s)
rename_fit ns s = tidy_fit (system (map (renamed_row (renamed_by ns)) s.rows) s.weak) (renamed_ascending (renamed_by ns) s.rows)

pub renamed_rows : (f : Var → Var) (rs : List Row) → AreAscending (map (renamed_row f) rs)
renamed_rows f rs = renamed_ascending f rs
