-- Steps of refutation in the tables.
use Rattle.std.proofs.Common.{◌≡◌, ◌∙◌, ℕ, suc, ◌+◌, ◌≤◌, ◌<◌, Bool, true, false, ◌||◌, List, [], ◌∷◌, ◌++◌, length, take, drop, get_or, set, arith, ap, ap₂, sym, refl, append_assoc, append-nil}
use Rattle.std.specs.Prelude.{if◌then◌else◌}
use Rattle.std.proofs.lemmas.List.{length-take-le, take_more, drop_more, get_or_at, set_at, take_at, get_or-map, length-map}
use Rattle.std.specs.List.{swap}
use Rattle.affine_systems.specs.declared.row.Var.{Var}
use Rattle.affine_systems.specs.declared.row.Term.{Term}
use Rattle.affine_systems.specs.declared.items.Item.{Item}
use Rattle.affine_systems.specs.Items.{AllItems}
use Rattle.affine_systems.specs.Eliminate.{keep, eliminate_item}
use Rattle.affine_systems.proofs.LastLaws.{keep_has}
use Rattle.work_area.specs.Columns.{AreAmong, InColumns}
use Rattle.work_area.proofs.SortSteps.{heads, take-swap}
use Rattle.hull_projection.specs.Refute.{as_original, with_originals, has_few, with_few, count_pairs, left, eliminate_all}
use Rattle.work_area.specs.Refuting.{vars_of, LeavesFew}
use Rattle.elimination.proofs.ElimSteps.{keep-push}
use Rattle.hull_projection.proofs.FitLaws.{originals_length as length-originals}
use Rattle.hull_projection.proofs.IterationSteps.{originals-push}

-- ---- originals

pub mark_more : (old cur new : List Item) (i : ℕ) (d : Item) → i < length old → new ≡ set cur i (as_original i (get_or cur i d)) → cur ≡ with_originals 0 (take i old) ++ drop i old → new ≡ with_originals 0 (take (i + 1) old) ++ drop (i + 1) old
mark_more old cur new i d l n h =
    let x = get_or old i d in
    let front = with_originals 0 (take i old) in
    let a : length (take i old) ≡ i = length-take-le i old (omega (arith, l)) in
    let b : length front ≡ i = length-originals 0 (take i old) ∙ a in
    let e : cur ≡ front ++ x ∷ drop (i + 1) old = h ∙ ap (λ is. front ++ is) (drop_more old i d l) in
    let y = as_original i x in
    let z : 0 + length (take i old) ≡ i = omega (arith, a) in
    n ∙ (ap₂ (λ (is : List Item) (j : Item). set is i (as_original i j)) e (ap (λ is. get_or is i d) e ∙ get_or_at front x (drop (i + 1) old) d i b)
    ∙ (set_at front x (drop (i + 1) old) y i b
    ∙ (sym (append_assoc front (y ∷ []) (drop (i + 1) old))
    ∙ ap (λ is. is ++ drop (i + 1) old) (ap (λ m. front ++ as_original m x ∷ []) (sym z) ∙ (sym (originals-push 0 (take i old) x) ∙ ap (with_originals 0) (sym (take_more old i d l)))))))

pub mark_end : (old cur : List Item) (i n : ℕ) → i ≡ n → n ≤ length old → cur ≡ with_originals 0 (take i old) ++ drop i old → take n cur ≡ with_originals 0 (take n old)
mark_end old cur i n e l h =
    let a : length (with_originals 0 (take i old)) ≡ n = length-originals 0 (take i old) ∙ (length-take-le i old (omega (arith, e, l)) ∙ e) in
    ap (take n) h ∙ (take_at (with_originals 0 (take i old)) (drop i old) n a ∙ ap (λ m. with_originals 0 (take m old)) e)

-- ---- rows of few originals, brought to the front

pub few_stays : (f : Item → Bool) (old cur new : List Item) (i kept : ℕ) (d : Item) → kept ≤ i → i < length cur → i < length old → f (get_or cur i d) ≡ true → drop i cur ≡ drop i old → new ≡ swap cur kept i → take kept cur ≡ keep f (take i old) → take (kept + 1) new ≡ keep f (take (i + 1) old)
few_stays f old cur new i kept d k l m p r n h =
    let x = get_or cur i d in
    ap (take (kept + 1)) n ∙ (take-swap cur kept i d k l
    ∙ (ap (λ us. us ++ x ∷ []) h
    ∙ (ap (λ b. keep f (take i old) ++ (if b then x ∷ [] else [])) (sym p)
    ∙ (sym (keep-push f (take i old) x) ∙ ap (keep f) (ap (λ y. take i old ++ y ∷ []) (heads cur old i d l m r) ∙ sym (take_more old i d m))))))

pub few_goes : (f : Item → Bool) (old cur : List Item) (i kept : ℕ) (d : Item) → i < length cur → i < length old → f (get_or cur i d) ≡ false → drop i cur ≡ drop i old → take kept cur ≡ keep f (take i old) → take kept cur ≡ keep f (take (i + 1) old)
few_goes f old cur i kept d l m p r h =
    let x = get_or cur i d in
    h ∙ (sym (append-nil (keep f (take i old)))
    ∙ (ap (λ b. keep f (take i old) ++ (if b then x ∷ [] else [])) (sym p)
    ∙ (sym (keep-push f (take i old) x) ∙ ap (keep f) (ap (λ y. take i old ++ y ∷ []) (heads cur old i d l m r) ∙ sym (take_more old i d m)))))

pub few_columns : (n k : ℕ) (is : List Item) → InColumns n is → InColumns n (with_few k is)
few_columns n k is c = record { columns = c.columns; ascends = c.ascends; few = c.few; among = keep_has (λ i. AreAmong c.columns i.row.terms) (has_few k) is c.among }

originals_among : (us : List Term) (n : ℕ) (is : List Item) → AllItems (λ i. AreAmong us i.row.terms) is → AllItems (λ i. AreAmong us i.row.terms) (with_originals n is)
originals_among us n [] h = tt
originals_among us n (i ∷ is) h = (h.0, originals_among us (suc n) is h.1)

pub originals_columns : (n : ℕ) (is : List Item) → InColumns n is → InColumns n (with_originals 0 is)
originals_columns n is c = record { columns = c.columns; ascends = c.ascends; few = c.few; among = originals_among c.columns 0 is c.among }

-- ---- one variable after another

-- the rows that are left do not depend on what was lost
lost_apart : (is : List Item) (a b : Bool) (k : ℕ) (vs : List Var) → (eliminate_all false (left is a k) vs).items ≡ (eliminate_all false (left is b k) vs).items
lost_apart is a b k [] = refl
lost_apart is a b k (v ∷ vs) =
    let e = eliminate_item false v is in
    lost_apart (with_few (count_pairs k e) e.items) (a || e.lost) (b || e.lost) (count_pairs k e) vs

pub all_step : (is new goal : List Item) (k n : ℕ) (v : Var) (vs ws : List Var) → ws ≡ v ∷ vs → LeavesFew v k is new n → (eliminate_all false (left is false k) ws).items ≡ goal → (eliminate_all false (left new false n) vs).items ≡ goal
all_step is new goal k n v vs ws w h g =
    let e = eliminate_item false v is in
    let x = h.items ∙ ap (λ m. with_few m e.items) h.pairs in
    ap₂ (λ js m. (eliminate_all false (left js false m) vs).items) x h.pairs
    ∙ (lost_apart (with_few (count_pairs k e) e.items) false e.lost (count_pairs k e) vs ∙ (ap (λ us. (eliminate_all false (left is false k) us).items) (sym w) ∙ g))

pub var_next : (ts : List Term) (i : ℕ) (d : Term) → i < length ts → drop i (vars_of ts) ≡ (get_or ts i d).var ∷ drop (i + 1) (vars_of ts)
var_next ts i d l =
    drop_more (vars_of ts) i d.var (omega (arith, l, length-map ts (λ (t : Term). t.var)))
    ∙ ap (λ v. v ∷ drop (i + 1) (vars_of ts)) (get_or-map (λ (t : Term). t.var) ts i d d.var l)

pub counted : (k n : ℕ) (b : Bool) → n ≡ (if b then suc k else k) → n ≤ k + 1
counted k n true e = omega (arith, e)
counted k n false e = omega (arith, e)
