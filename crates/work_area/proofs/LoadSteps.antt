-- Steps of taking a system in and giving it.
use Rattle.std.proofs.Common.{◌≡◌, ◌∙◌, false, ℕ, suc, ◌+◌, ◌≤◌, ◌<◌, List, [], ◌∷◌, ◌++◌, length, take, drop, get_or, set, arith, ap, ap₂, sym, refl, subst, inl, inr, append_assoc, append-nil}
use Rattle.std.specs.Prelude.{map}
use Rattle.std.specs.List.{All}
use Rattle.std.proofs.lemmas.List.{take_more, take_more_set, length-take-le, take-map, take_all, drop_more, drop_all, get_or_at, set_at, map-append}
use Rattle.std.proofs.lemmas.List.Elements.{All-cons, All-nil}
use Rattle.affine_systems.specs.declared.row.Term.{Term}
use Rattle.affine_systems.specs.declared.row.Row.{Row}
use Rattle.affine_systems.specs.declared.items.Item.{Item}
use Rattle.affine_systems.specs.Terms.{Ascends}
use Rattle.affine_systems.specs.Rows.{AllRows}
use Rattle.affine_systems.specs.Items.{AllItems, item, no_originals, items_from, rows_of}
use Rattle.affine_systems.specs.Given.{AreNormal, IsNormalAs, ItemsFit, ItemsGiven, ItemsSmall}
use Rattle.affine_systems.proofs.FitLaws.{length-rows_of, small_given}
use Rattle.elimination.proofs.ElimSteps.{fit_small}
use Rattle.work_area.specs.declared.slot.Slot.{Slot}
use Rattle.work_area.specs.Slots.{row_in, item_in, items_in}
use Rattle.work_area.specs.Columns.{AreAmong, InColumns}
use Rattle.work_area.specs.Tables.{MadeBelow}
use Rattle.work_area.proofs.ColumnLaws.{among_count}
use Rattle.affine_systems.proofs.SystemSteps.{items_from-push}

pub put_more : (rs : List Row) (cur new : List Item) (i : ℕ) (d : Row) → i < length rs → i < length cur → new ≡ set cur i (item (get_or rs i d) no_originals i) → take i cur ≡ items_from 0 (take i rs) → take (i + 1) new ≡ items_from 0 (take (i + 1) rs)
put_more rs cur new i d l m e h =
    let r = get_or rs i d in
    let a : length (take i rs) ≡ i = length-take-le i rs (omega (arith, l)) in
    let z : 0 + length (take i rs) ≡ i = omega (arith, a) in
    ap (take (i + 1)) e ∙ (take_more_set cur i (item r no_originals i) m
    ∙ (ap₂ (λ (us : List Item) k. us ++ item r no_originals k ∷ []) h (sym z) ∙ (sym (items_from-push 0 (take i rs) r) ∙ ap (items_from 0) (sym (take_more rs i d l)))))

-- ---- rows of a system that fits are no longer than it has variables

ascends_of : (rs : List Row) → AreNormal false rs → AllRows (λ r. Ascends r.terms) rs
ascends_of rs n = go n where
  each : (rs : List Row) → AllRows (IsNormalAs false) rs → AllRows (λ r. Ascends r.terms) rs
  each [] h = tt
  each (r ∷ rs) h = (h.0.0, each rs h.1)

  go : AreNormal false rs → AllRows (λ r. Ascends r.terms) rs
  go (inl e) = subst (λ (ss : List Row). AllRows (λ r. Ascends r.terms) ss) (sym e) (tt, tt)
  go (inr h) = each rs h

short_rows : (us : List Term) (rs : List Row) (n m : ℕ) → Ascends us → length us ≤ n → AllRows (λ r. Ascends r.terms) rs → AllItems (λ i. AreAmong us i.row.terms) (items_from m rs) → All (λ (r : Row). length r.terms ≤ n) rs
short_rows us [] n m a l h k = All-nil (λ (r : Row). length r.terms ≤ n)
short_rows us (r ∷ rs) n m a l h k =
    let c = among_count us r.terms a h.0 k.0 in
    All-cons (λ (s : Row). length s.terms ≤ n) r rs (omega (arith, c, l)) (short_rows us rs n (suc m) a l h.1 k.1)

pub short : (rs : List Row) (n : ℕ) → AreNormal false rs → InColumns n (items_from 0 rs) → All (λ (r : Row). length r.terms ≤ n) rs
short rs n f c = short_rows c.columns rs n 0 c.ascends c.few (ascends_of rs f) c.among

pub rows_in : (ss : List Slot) → map row_in ss ≡ rows_of (items_in ss)
rows_in [] = refl
rows_in (s ∷ ss) = ap (λ (rs : List Row). row_in s ∷ rs) (rows_in ss)

pub rows_in_front : (ss : List Slot) (n : ℕ) → map row_in (take n ss) ≡ rows_of (take n (items_in ss))
rows_in_front ss n = rows_in (take n ss) ∙ ap rows_of (sym (take-map item_in n ss))

-- ---- rows numbered anew

length-from : (n : ℕ) (rs : List Row) → length (items_from n rs) ≡ length rs
length-from n [] = refl
length-from n (r ∷ rs) = ap suc (length-from (suc n) rs)

pub number_more : (old cur new : List Item) (i : ℕ) (d : Item) → i < length old → new ≡ set cur i (item (get_or cur i d).row no_originals i) → cur ≡ items_from 0 (rows_of (take i old)) ++ drop i old → new ≡ items_from 0 (rows_of (take (i + 1) old)) ++ drop (i + 1) old
number_more old cur new i d l n h =
    let x = get_or old i d in
    let front = items_from 0 (rows_of (take i old)) in
    let a : length (rows_of (take i old)) ≡ i = length-rows_of (take i old) ∙ length-take-le i old (omega (arith, l)) in
    let b : length front ≡ i = length-from 0 (rows_of (take i old)) ∙ a in
    let e : cur ≡ front ++ x ∷ drop (i + 1) old = h ∙ ap (λ is. front ++ is) (drop_more old i d l) in
    let y = item x.row no_originals i in
    let z : 0 + length (rows_of (take i old)) ≡ i = omega (arith, a) in
    n ∙ (ap₂ (λ (is : List Item) (j : Item). set is i (item j.row no_originals i)) e (ap (λ is. get_or is i d) e ∙ get_or_at front x (drop (i + 1) old) d i b)
    ∙ (set_at front x (drop (i + 1) old) y i b
    ∙ (sym (append_assoc front (y ∷ []) (drop (i + 1) old))
    ∙ ap (λ is. is ++ drop (i + 1) old) (ap (λ m. front ++ item x.row no_originals m ∷ []) (sym z) ∙ (sym (items_from-push 0 (rows_of (take i old)) x.row)
    ∙ ap (items_from 0) (sym (ap rows_of (take_more old i d l) ∙ map-append (λ (j : Item). j.row) (take i old) (x ∷ []))))))))

pub number_end : (old cur : List Item) (i : ℕ) → length old ≤ i → cur ≡ items_from 0 (rows_of (take i old)) ++ drop i old → cur ≡ items_from 0 (rows_of old)
number_end old cur i l h = h ∙ (ap₂ (λ (is js : List Item). items_from 0 (rows_of is) ++ js) (take_all i old l) (drop_all i old l) ∙ append-nil (items_from 0 (rows_of old)))

pub from_below : (m n : ℕ) (rs : List Row) → n + length rs ≤ m → MadeBelow m (items_from n rs)
from_below m n [] l = tt
from_below m n (r ∷ rs) l = (omega (arith, l), from_below m (suc n) rs (omega (arith, l)))

from_among : (us : List Term) (n : ℕ) (is : List Item) → AllItems (λ i. AreAmong us i.row.terms) is → AllItems (λ i. AreAmong us i.row.terms) (items_from n (rows_of is))
from_among us n [] h = tt
from_among us n (i ∷ is) h = (h.0, from_among us (suc n) is h.1)

pub from_columns : (m n : ℕ) (is : List Item) → InColumns m is → InColumns m (items_from n (rows_of is))
from_columns m n is c = record { columns = c.columns; ascends = c.ascends; few = c.few; among = from_among c.columns n is c.among }

all_given : (is : List Item) → ItemsSmall is → ItemsGiven is
all_given [] h = tt
all_given (i ∷ is) h = (small_given i.row h.0, all_given is h.1)

pub fit_given : (is : List Item) → ItemsFit false is → ItemsGiven is
fit_given is h = all_given is (fit_small false is h)
