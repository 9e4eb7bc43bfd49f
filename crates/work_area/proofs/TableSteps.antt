-- Steps on the tables.
use Rattle.std.proofs.Common.{◌≡◌, ◌∙◌, ℕ, ◌≤◌, ◌<◌, Bool, true, false, ◌||◌, Some, List, [], ◌∷◌, length, take, arith, ap, sym, refl, subst}
use Rattle.std.proofs.lemmas.List.Elements.{All-cons, All-nil}
use Rattle.affine_systems.specs.declared.row.Term.{Term}
use Rattle.affine_systems.specs.declared.items.Item.{Item}
use Rattle.affine_systems.specs.Terms.{Ascends}
use Rattle.affine_systems.specs.Items.{AllItems}
use Rattle.affine_systems.specs.Given.{IsGiven, ItemsFit, ItemsGiven, ItemsSmall}
use Rattle.affine_systems.proofs.FitLaws.{IsTidy, tidy_small, tidy_lasts, fits_tidy}
use Rattle.std.proofs.lemmas.List.{take_all, length-take-le}
use Rattle.std.proofs.lemmas.Bool.{false_from_ne_true}
use Rattle.std.proofs.lemmas.Bool.Decides.{Decides-ltb}
use Rattle.std.specs.Prelude.{nat_lt, not, ◌&&◌}
use Rattle.affine_systems.specs.declared.row.Var.{Var}
use Rattle.affine_systems.specs.Items.{Cut, next_made, cut_of, others, false_item, tidied}
use Rattle.affine_systems.specs.declared.items.Tidied.{Tidied}
use Rattle.affine_systems.specs.Eliminate.{all_cancelled, elimination_of, eliminate_item}
use Rattle.work_area.specs.declared.substitution.Outcome.{Outcome}
use Rattle.work_area.specs.Outcomes.{Eliminates, paired_items}
use Rattle.affine_systems.specs.Forms.{IsForm, HasForm}
use Rattle.affine_systems.proofs.ItemSteps.{item_at as all_at}
use Rattle.work_area.proofs.AllLaws.{all_removed}
use Rattle.affine_systems.specs.Tidy.{row_limit, in_form, is_lossy, any_too_big, merged, round, next_pivot, pivoted, tidy_items}
use Rattle.affine_systems.proofs.LastLaws.{Has, in_form_has, cut_form_has, merged_has, round_has, next_has, pivoted_has, tidied_has, cancelled_items_has, paired_items_has, eliminated_has}
use Rattle.work_area.specs.declared.slot.Slot.{Slot}
use Rattle.work_area.specs.declared.tables.Tables.{Tables}
use Rattle.work_area.specs.Slots.{items_in, room, HaveRoom, AreShort, KeepsRoom}
use Rattle.work_area.specs.Columns.{AreAmong, InColumns}
use Rattle.work_area.specs.Tables.{items_of, IsReady, KeepsReady}
use Rattle.work_area.proofs.Swaps.{items_in-take, length-items_in, both_have, first_has, rest_has}
use Rattle.work_area.proofs.ColumnLaws.{among_count, Given, TidyIn, columns_last, columns_survive}

-- other rows in the first table
pub ready_rows : (n : ℕ) (t u : Tables) (out : List Slot) → u.rows.items ≡ out → length out ≡ length t.rows.items → KeepsRoom t.rows.items out → u.len ≤ 512 → u.others ≡ t.others → u.scratch ≡ t.scratch → u.pivot ≡ t.pivot → IsReady n t → IsReady n u
ready_rows n t u out e l k w o s p r = record {
  places = ap length e ∙ (l ∙ r.places);
  more = ap (λ v. length v.items) o ∙ r.more;
  within = w;
  rows = subst (HaveRoom n) (sym e) (k.kept n r.rows);
  others = subst (λ v. HaveRoom n v.items) (sym o) r.others;
  scratch = subst (λ x. n ≤ room x) (sym s) r.scratch;
  pivot = subst (λ x. n ≤ room x) (sym p) r.pivot;
}

-- the tables in each other's place, with other rows in the second
pub ready_turned : (n : ℕ) (t u : Tables) (out : List Slot) → u.rows.items ≡ out → length out ≡ length t.others.items → KeepsRoom t.others.items out → u.len ≤ 512 → u.others ≡ t.rows → u.scratch ≡ t.scratch → u.pivot ≡ t.pivot → IsReady n t → IsReady n u
ready_turned n t u out e l k w o s p r = record {
  places = ap length e ∙ (l ∙ r.more);
  more = ap (λ v. length v.items) o ∙ r.places;
  within = w;
  rows = subst (HaveRoom n) (sym e) (k.kept n r.others);
  others = subst (λ v. HaveRoom n v.items) (sym o) r.rows;
  scratch = subst (λ x. n ≤ room x) (sym s) r.scratch;
  pivot = subst (λ x. n ≤ room x) (sym p) r.pivot;
}

-- the same, with a place changed with them
pub ready_formed : (n : ℕ) (t u : Tables) (out : List Slot) → u.rows.items ≡ out → length out ≡ length t.others.items → KeepsRoom (t.scratch ∷ t.others.items) (u.scratch ∷ out) → u.len ≤ 512 → u.others ≡ t.rows → u.pivot ≡ t.pivot → IsReady n t → IsReady n u
ready_formed n t u out e l k w o p r =
    let a = k.kept n (both_have n t.scratch t.others.items r.scratch r.others) in
    record {
      places = ap length e ∙ (l ∙ r.more);
      more = ap (λ v. length v.items) o ∙ r.places;
      within = w;
      rows = subst (HaveRoom n) (sym e) (rest_has n u.scratch out a);
      others = subst (λ v. HaveRoom n v.items) (sym o) r.rows;
      scratch = first_has n u.scratch out a;
      pivot = subst (λ x. n ≤ room x) (sym p) r.pivot;
    }

pub keeps_same : (t : Tables) → KeepsReady t t
keeps_same t = record { kept = λ n r. r }

pub keeps_both : (a b c : Tables) → KeepsReady a b → KeepsReady b c → KeepsReady a c
keeps_both a b c f g = record { kept = λ n r. g.kept n (f.kept n r) }

-- rows with few variables have few terms
short_all : (us : List Term) (n : ℕ) (ss : List Slot) → Ascends us → length us ≤ n → ItemsSmall (items_in ss) → AllItems (λ i. AreAmong us i.row.terms) (items_in ss) → AreShort n ss
short_all us n [] a l h k = All-nil (λ (s : Slot). length s.terms.items ≤ n)
short_all us n (s ∷ ss) a l h k =
    let c = among_count us s.terms.items a h.0.0 k.0 in
    All-cons (λ (t : Slot). length t.terms.items ≤ n) s ss (omega (arith, c, l)) (short_all us n ss a l h.1 k.1)

pub short_slots : (n : ℕ) (ss : List Slot) → InColumns n (items_in ss) → ItemsSmall (items_in ss) → AreShort n ss
short_slots n ss c h = short_all c.columns n ss c.ascends c.few h c.among

-- the rows in front
pub front_is : (t : Tables) (ss : List Slot) → ss ≡ t.rows.items → items_in (take t.len ss) ≡ items_of t
front_is t ss e = items_in-take ss t.len ∙ ap (λ (xs : List Slot). take t.len (items_in xs)) e

pub ready_zero : (n : ℕ) (t : Tables) → IsReady n t → IsReady 0 t
ready_zero n t r = record {
  places = r.places;
  more = r.more;
  within = r.within;
  rows = λ k d l. omega arith;
  others = λ k d l. omega arith;
  scratch = omega arith;
  pivot = omega arith;
}

-- ---- given rows of few variables, and what becomes of them

given_among : (us : List Term) (is : List Item) → ItemsGiven is → AllItems (λ i. AreAmong us i.row.terms) is → Has (Given us) is
given_among us [] h k = tt
given_among us (i ∷ is) h k = ((h.0, k.0), given_among us is h.1 k.1)

given_all : (us : List Term) (is : List Item) → Has (Given us) is → ItemsGiven is
given_all us [] h = tt
given_all us (i ∷ is) h = (h.0.0, given_all us is h.1)

among_given : (us : List Term) (is : List Item) → Has (Given us) is → AllItems (λ i. AreAmong us i.row.terms) is
among_given us [] h = tt
among_given us (i ∷ is) h = (h.0.1, among_given us is h.1)

small_tidy : (us : List Term) (is : List Item) → Has (TidyIn us false) is → ItemsSmall is
small_tidy us [] h = tt
small_tidy us (i ∷ is) h = (tidy_small false i.row h.0.0, small_tidy us is h.1)

among_tidy : (us : List Term) (is : List Item) → Has (TidyIn us false) is → AllItems (λ i. AreAmong us i.row.terms) is
among_tidy us [] h = tt
among_tidy us (i ∷ is) h = (h.0.1, among_tidy us is h.1)

-- small rows of at most n variables
pub record IsNarrow (n : ℕ) (is : List Item) : Type 0 where
  pub held : InColumns n is
  pub small : ItemsSmall is

narrow : (n : ℕ) (c : List Term) (is : List Item) → Ascends c → length c ≤ n → Has (TidyIn c false) is → IsNarrow n is
narrow n c is a l h = record { held = record { columns = c; ascends = a; few = l; among = among_tidy c is h }; small = small_tidy c is h }

pub form_narrow : (n : ℕ) (is : List Item) → ItemsGiven is → InColumns n is → IsNarrow n (in_form false is)
form_narrow n is g c = narrow n c.columns (in_form false is) c.ascends c.few (in_form_has (Given c.columns) (TidyIn c.columns false) false (columns_last c.columns false) is (given_among c.columns is g c.among))

pub round_narrow : (n : ℕ) (is : List Item) → ItemsGiven is → InColumns n is → IsNarrow n (round false is).items
round_narrow n is g c = narrow n c.columns (round false is).items c.ascends c.few (round_has (Given c.columns) (TidyIn c.columns false) false (columns_last c.columns false) is (given_among c.columns is g c.among))

pub next_narrow : (n : ℕ) (is : List Item) (u : Cut) → ItemsGiven is → InColumns n is → next_pivot (round false is).items ≡ Some u → InColumns n (pivoted (round false is).items u)
next_narrow n is u g c e = record {
  columns = c.columns;
  ascends = c.ascends;
  few = c.few;
  among = among_given c.columns (pivoted (round false is).items u) (next_has (Given c.columns) (TidyIn c.columns false) false (columns_last c.columns false) is u (given_among c.columns is g c.among) e);
}

-- the first 512 of rows that are no more
pub round_whole : (is : List Item) → length (in_form false is) ≤ 512 → (round false is).items ≡ merged (in_form false is)
round_whole is l = ap merged (take_all 512 (in_form false is) l)

pub lossy_whole : (is : List Item) → length (in_form false is) ≤ 512 → is_lossy false is ≡ any_too_big false is
lossy_whole is l = ap (λ b. any_too_big false is || b) (false_from_ne_true (nat_lt 512 (length (in_form false is))) (λ e. let x = (Decides-ltb 512 (length (in_form false is))).0 e in omega (arith, x, l))) ∙ or_false (any_too_big false is) where
  or_false : (b : Bool) → (b || false) ≡ b
  or_false true = refl
  or_false false = refl

pub length-items_of : (n : ℕ) (t : Tables) → IsReady n t → length (items_of t) ≡ t.len
length-items_of n t r = length-take-le t.len (items_in t.rows.items) (omega (arith, r.within, r.places, length-items_in t.rows.items))

-- other rows in the first table, and the two places changed with them
pub ready_pivot : (n : ℕ) (t u : Tables) (out : List Slot) → u.rows.items ≡ out → length out ≡ length t.rows.items → KeepsRoom (t.scratch ∷ t.pivot ∷ t.rows.items) (u.scratch ∷ u.pivot ∷ out) → u.len ≤ 512 → u.others ≡ t.others → IsReady n t → IsReady n u
ready_pivot n t u out e l k w o r =
    let a = k.kept n (both_have n t.scratch (t.pivot ∷ t.rows.items) r.scratch (both_have n t.pivot t.rows.items r.pivot r.rows)) in
    let d = rest_has n u.scratch (u.pivot ∷ out) a in
    record {
      places = ap length e ∙ (l ∙ r.places);
      more = ap (λ v. length v.items) o ∙ r.more;
      within = w;
      rows = subst (HaveRoom n) (sym e) (rest_has n u.pivot out d);
      others = subst (λ v. HaveRoom n v.items) (sym o) r.others;
      scratch = first_has n u.scratch (u.pivot ∷ out) a;
      pivot = first_has n u.pivot out d;
    }

-- tidied rows have no other variables
pub tidy_narrow : (n : ℕ) (is : List Item) → ItemsGiven is → InColumns n is → IsNarrow n (tidy_items false is).items
tidy_narrow n is g c = narrow n c.columns (tidy_items false is).items c.ascends c.few (tidied_has (Given c.columns) (TidyIn c.columns false) false (columns_last c.columns false) is (given_among c.columns is g c.among))

-- nor have rows in which a variable is cancelled
tidy_among : (us : List Term) (is : List Item) → Has (IsTidy false) is → AllItems (λ i. AreAmong us i.row.terms) is → Has (TidyIn us false) is
tidy_among us [] h k = tt
tidy_among us (i ∷ is) h k = ((h.0, k.0), tidy_among us is h.1 k.1)

pub cancelled_columns : (n : ℕ) (is : List Item) (at : ℕ) (v : Var) → ItemsFit false is → InColumns n is → at < length is → InColumns n (all_cancelled (next_made is) (cut_of is at).at v (others (cut_of is at)))
cancelled_columns n is at v f c l =
    let us = c.columns in
    let P = λ (i : Item). TidyIn us false i.row in
    let t = tidy_among us is (fits_tidy false is f) c.among in
    record {
      columns = us;
      ascends = c.ascends;
      few = c.few;
      among = among_given us (all_cancelled (next_made is) (cut_of is at).at v (others (cut_of is at)))
          (cancelled_items_has (Given us) (TidyIn us false) false (columns_survive us false) v is (cut_of is at) (all_at P is at false_item t l) (all_removed P is at t));
    }

-- nor have pairs, and what becomes of them
pub formed_columns : (n : ℕ) (v : Var) (is js : List Item) (lost : Bool) → ItemsFit false is → InColumns n is → IsForm false (paired_items (next_made is) v is) js lost → InColumns n js
formed_columns n v is js lost f c h =
    let us = c.columns in
    let all = paired_items (next_made is) v is in
    let t = tidy_among us is (fits_tidy false is f) c.among in
    let g = paired_items_has (Given us) (TidyIn us false) false (columns_survive us false) v is t in
    subst (InColumns n) (sym h.form) (narrow n us (take row_limit (in_form false all)) c.ascends c.few (cut_form_has (Given us) (TidyIn us false) false (columns_last us false) all g)).held

form_tidy : (us : List Term) (js : List Item) (lost : Bool) → HasForm false js lost → AllItems (λ i. AreAmong us i.row.terms) js → Has (TidyIn us false) js
form_tidy us js lost h a =
    tidy_among us js (subst (Has (IsTidy false)) (sym h.is_form.form) (cut_form_has IsGiven (IsTidy false) false (tidy_lasts false) h.rows h.given)) a

pub merged_columns : (n : ℕ) (js : List Item) (lost : Bool) → HasForm false js lost → InColumns n js → InColumns n (merged js)
merged_columns n js lost h c = (narrow n c.columns (merged js) c.ascends c.few (merged_has (Given c.columns) (TidyIn c.columns false) false (columns_last c.columns false) js (form_tidy c.columns js lost h c.among))).held

pub pivoted_columns : (n : ℕ) (js some : List Item) (at : ℕ) (lost : Bool) → HasForm false js lost → InColumns n js → some ≡ merged js → at < length some → InColumns n (pivoted some (cut_of some at))
pivoted_columns n js some at lost h c e l =
    let us = c.columns in
    let P = λ (i : Item). TidyIn us false i.row in
    let t = subst (Has (TidyIn us false)) (sym e) (merged_has (Given us) (TidyIn us false) false (columns_last us false) js (form_tidy us js lost h c.among)) in
    record {
      columns = us;
      ascends = c.ascends;
      few = c.few;
      among = among_given us (pivoted some (cut_of some at)) (pivoted_has (Given us) (TidyIn us false) false (columns_last us false) some (cut_of some at) (all_at P some at false_item t l) (all_removed P some at t));
    }

-- ---- what elimination says

pub by_outcome : (v : Var) (is new : List Item) (lost : Bool) (o : Outcome) (unit paired : Bool) (t : Tidied) → tidied new lost ≡ t → elimination_of unit paired t ≡ eliminate_item false v is → o.exact ≡ (unit && not lost) → o.lost ≡ lost → o.paired ≡ paired → Eliminates v is new o
by_outcome v is new lost o unit paired t d e x l p = record {
  items = ap (λ y. y.items) d ∙ ap (λ y. y.items) e;
  exact = x ∙ (ap (λ b. unit && not b) (ap (λ y. y.lost) d) ∙ ap (λ y. y.exact) e);
  lost = l ∙ (ap (λ y. y.lost) d ∙ ap (λ y. y.lost) e);
  paired = p ∙ ap (λ y. y.paired) e;
}

-- eliminated rows have no other variables
pub eliminated_columns : (n : ℕ) (v : Var) (is : List Item) → ItemsFit false is → InColumns n is → InColumns n (eliminate_item false v is).items
eliminated_columns n v is f c =
    let us = c.columns in
    (narrow n us (eliminate_item false v is).items c.ascends c.few (eliminated_has (Given us) (TidyIn us false) false (columns_survive us false) v is (tidy_among us is (fits_tidy false is f) c.among))).held
