-- Steps of the loops over lower and upper rows.
use Rattle.std.proofs.Common.{◌≡◌, ◌∙◌, ℕ, zero, suc, ◌+◌, ◌*◌, ◌≤◌, ◌<◌, Bool, true, false, ◌&&◌, ◌||◌, List, [], ◌∷◌, ◌++◌, length, take, drop, get_or, arith, append-nil, append_assoc, ap, ap₂, sym, refl, ⊎_elim}
use Rattle.std.specs.Prelude.{if◌then◌else◌}
use Rattle.std.proofs.lemmas.List.{drop_more, drop_all, take_more, take_all}
use Rattle.affine_systems.specs.declared.row.Var.{Var}
use Rattle.affine_systems.specs.declared.row.Row.{Row}
use Rattle.affine_systems.specs.declared.items.Item.{Item}
use Rattle.affine_systems.specs.Points.{factor_of, occurs}
use Rattle.affine_systems.specs.Rows.{AllRows, false_row}
use Rattle.affine_systems.specs.Items.{rows_of}
use Rattle.affine_systems.specs.Given.{IsNormal, ItemsFit}
use Rattle.affine_systems.specs.Eliminate.{any_has, has_unit, all_have_unit, every_pair_unit, is_lower, is_upper, keep, pair, with_uppers, pairs}
use Rattle.affine_systems.proofs.Basics.{if_cases}
use Rattle.work_area.specs.declared.slot.Slot.{Slot}
use Rattle.work_area.specs.Slots.{item_in, items_in}
use Rattle.work_area.proofs.Swaps.{item_read, length-items_in}
use Rattle.elimination.proofs.ClosedLaws.{length-keep as kept_no_more}
use Rattle.elimination.proofs.ElimSteps.{keep-push as keep_push}
use Rattle.elimination.proofs.PairLaws.{uppers_last, pairs_last, none_taken as nothing_taken}
use Rattle.fx_lists.proofs.Booleans.{clash}

-- ---- what is kept of a list, item by item

module _ (f : Item → Bool) (ss : List Slot) (k : ℕ) (s : Slot) (l : k < length ss) (h : s ≡ get_or ss k s) where
  next_item : drop k (items_in ss) ≡ item_in s ∷ drop (k + 1) (items_in ss)
  next_item = drop_more (items_in ss) k (item_in s) (omega (arith, l, length-items_in ss)) ∙ ap (λ (i : Item). i ∷ drop (k + 1) (items_in ss)) (item_read ss k s (item_in s) l h)

  last_item : take (k + 1) (items_in ss) ≡ take k (items_in ss) ++ item_in s ∷ []
  last_item = take_more (items_in ss) k (item_in s) (omega (arith, l, length-items_in ss)) ∙ ap (λ (i : Item). take k (items_in ss) ++ i ∷ []) (item_read ss k s (item_in s) l h)

  pub left_in : f (item_in s) ≡ true → keep f (drop k (items_in ss)) ≡ item_in s ∷ keep f (drop (k + 1) (items_in ss))
  left_in e = ap (keep f) next_item ∙ ap (λ b. if b then item_in s ∷ keep f (drop (k + 1) (items_in ss)) else keep f (drop (k + 1) (items_in ss))) e

  pub left_out : f (item_in s) ≡ false → keep f (drop k (items_in ss)) ≡ keep f (drop (k + 1) (items_in ss))
  left_out e = ap (keep f) next_item ∙ ap (λ b. if b then item_in s ∷ keep f (drop (k + 1) (items_in ss)) else keep f (drop (k + 1) (items_in ss))) e

  pub kept_in : f (item_in s) ≡ true → keep f (take (k + 1) (items_in ss)) ≡ keep f (take k (items_in ss)) ++ item_in s ∷ []
  kept_in e = ap (keep f) last_item ∙ (keep_push f (take k (items_in ss)) (item_in s) ∙ ap (λ b. keep f (take k (items_in ss)) ++ (if b then item_in s ∷ [] else [])) e)

  pub kept_out : f (item_in s) ≡ false → keep f (take (k + 1) (items_in ss)) ≡ keep f (take k (items_in ss))
  kept_out e = ap (keep f) last_item ∙ (keep_push f (take k (items_in ss)) (item_in s) ∙ (ap (λ b. keep f (take k (items_in ss)) ++ (if b then item_in s ∷ [] else [])) e ∙ append-nil (keep f (take k (items_in ss)))))

pub nothing_kept : (f : Item → Bool) (is : List Item) → keep f (take 0 is) ≡ []
nothing_kept f [] = refl
nothing_kept f (i ∷ is) = refl

pub all_kept : (f : Item → Bool) (ss : List Slot) (k : ℕ) → length ss ≤ k → keep f (take k (items_in ss)) ≡ keep f (items_in ss)
all_kept f ss k l = ap (keep f) (take_all k (items_in ss) (omega (arith, l, length-items_in ss)))

pub kept_few : (f : Item → Bool) (is : List Item) (k : ℕ) → length (keep f (take k is)) ≤ k
kept_few f [] zero = omega arith
kept_few f [] (suc k) = omega arith
kept_few f (i ∷ is) zero = omega arith
kept_few f (i ∷ is) (suc k) = let a = kept_few f is k in if_cases (λ (js : List Item). length js ≤ suc k) (f i) (i ∷ keep f (take k is)) (keep f (take k is)) (λ _. omega (arith, a)) (λ _. omega (arith, a))

-- ---- whether one factor is 1 or -1

pub uppers-passed : (v : Var) (ss : List Slot) (k : ℕ) (s : Slot) → k < length ss → s ≡ get_or ss k s → is_upper v (item_in s) ≡ false → all_have_unit v (keep (is_upper v) (drop k (items_in ss))) ≡ all_have_unit v (keep (is_upper v) (drop (k + 1) (items_in ss)))
uppers-passed v ss k s l h e = ap (all_have_unit v) (left_out (is_upper v) ss k s l h e)

pub uppers-have : (v : Var) (ss : List Slot) (k : ℕ) (s : Slot) → k < length ss → s ≡ get_or ss k s → is_upper v (item_in s) ≡ true → has_unit v (item_in s) ≡ true → all_have_unit v (keep (is_upper v) (drop k (items_in ss))) ≡ all_have_unit v (keep (is_upper v) (drop (k + 1) (items_in ss)))
uppers-have v ss k s l h e u = ap (all_have_unit v) (left_in (is_upper v) ss k s l h e) ∙ ap (λ b. b && all_have_unit v (keep (is_upper v) (drop (k + 1) (items_in ss)))) u

pub uppers-lack : (v : Var) (ss : List Slot) (k : ℕ) (s : Slot) → k < length ss → s ≡ get_or ss k s → is_upper v (item_in s) ≡ true → has_unit v (item_in s) ≡ false → all_have_unit v (keep (is_upper v) (drop k (items_in ss))) ≡ false
uppers-lack v ss k s l h e u = ap (all_have_unit v) (left_in (is_upper v) ss k s l h e) ∙ ap (λ b. b && all_have_unit v (keep (is_upper v) (drop (k + 1) (items_in ss)))) u

pub uppers-end : (v : Var) (ss : List Slot) (k : ℕ) → length ss ≤ k → all_have_unit v (keep (is_upper v) (drop k (items_in ss))) ≡ true
uppers-end v ss k l = ap (λ is. all_have_unit v (keep (is_upper v) is)) (drop_all k (items_in ss) (omega (arith, l, length-items_in ss)))

pub ruleset uppers_loop = (uppers-passed, uppers-have, uppers-lack, uppers-end)

module _ (v : Var) (ss : List Slot) (ups : List Item) (k : ℕ) (s : Slot) (l : k < length ss) (h : s ≡ get_or ss k s) where
  pub units-passed : is_lower v (item_in s) ≡ false → every_pair_unit v (keep (is_lower v) (drop k (items_in ss))) ups ≡ every_pair_unit v (keep (is_lower v) (drop (k + 1) (items_in ss))) ups
  units-passed e = ap (λ is. every_pair_unit v is ups) (left_out (is_lower v) ss k s l h e)

  pub units-have : is_lower v (item_in s) ≡ true → has_unit v (item_in s) ≡ true → every_pair_unit v (keep (is_lower v) (drop k (items_in ss))) ups ≡ every_pair_unit v (keep (is_lower v) (drop (k + 1) (items_in ss))) ups
  units-have e u = ap (λ is. every_pair_unit v is ups) (left_in (is_lower v) ss k s l h e) ∙ ap (λ b. (b || all_have_unit v ups) && every_pair_unit v (keep (is_lower v) (drop (k + 1) (items_in ss))) ups) u

  pub units-ups : is_lower v (item_in s) ≡ true → all_have_unit v ups ≡ true → every_pair_unit v (keep (is_lower v) (drop k (items_in ss))) ups ≡ every_pair_unit v (keep (is_lower v) (drop (k + 1) (items_in ss))) ups
  units-ups e u =
      ap (λ is. every_pair_unit v is ups) (left_in (is_lower v) ss k s l h e)
      ∙ ap (λ b. b && every_pair_unit v (keep (is_lower v) (drop (k + 1) (items_in ss))) ups) (ap (λ b. has_unit v (item_in s) || b) u ∙ or_true (has_unit v (item_in s)))
    where
      or_true : (b : Bool) → (b || true) ≡ true
      or_true true = refl
      or_true false = refl

  pub units-lack : is_lower v (item_in s) ≡ true → has_unit v (item_in s) ≡ false → all_have_unit v ups ≡ false → every_pair_unit v (keep (is_lower v) (drop k (items_in ss))) ups ≡ false
  units-lack e u w =
      ap (λ is. every_pair_unit v is ups) (left_in (is_lower v) ss k s l h e)
      ∙ ap₂ (λ a b. (a || b) && every_pair_unit v (keep (is_lower v) (drop (k + 1) (items_in ss))) ups) u w

pub units-end : (v : Var) (ss : List Slot) (ups : List Item) (k : ℕ) → length ss ≤ k → every_pair_unit v (keep (is_lower v) (drop k (items_in ss))) ups ≡ true
units-end v ss ups k l = ap (λ is. every_pair_unit v (keep (is_lower v) is) ups) (drop_all k (items_in ss) (omega (arith, l, length-items_in ss)))

pub ruleset units_loop = (units-passed, units-have, units-ups, units-lack, units-end)

-- ---- pairs taken in

-- the list so far, with one pair more
pub one_pair : (n m : ℕ) (v : Var) (low up : Item) (us vs is : List Item) → vs ≡ us ++ up ∷ [] → m ≡ n + length us → (is ++ with_uppers n v low us) ++ pair m v low up ∷ [] ≡ is ++ with_uppers n v low vs
one_pair n m v low up us vs is e s =
    append_assoc is (with_uppers n v low us) (pair m v low up ∷ [])
    ∙ ap (λ xs. is ++ xs) (ap (λ k. with_uppers n v low us ++ pair k v low up ∷ []) s ∙ (sym (uppers_last n v low us up) ∙ ap (with_uppers n v low) (sym e)))

-- with those of one lower row more
pub more_pairs : (n m : ℕ) (v : Var) (low : Item) (ls ks ups is : List Item) → ks ≡ ls ++ low ∷ [] → m ≡ n + length ls * length ups → (is ++ pairs n v ls ups) ++ with_uppers m v low ups ≡ is ++ pairs n v ks ups
more_pairs n m v low ls ks ups is e s =
    append_assoc is (pairs n v ls ups) (with_uppers m v low ups)
    ∙ ap (λ xs. is ++ xs) (ap (λ k. pairs n v ls ups ++ with_uppers k v low ups) s ∙ (sym (pairs_last n v ls ups low) ∙ ap (λ us. pairs n v us ups) (sym e)))

pub length_more : (us vs : List Item) (x : Item) → vs ≡ us ++ x ∷ [] → length vs ≡ suc (length us)
length_more us vs x e = ap length e ∙ go us where
  go : (us : List Item) → length (us ++ x ∷ []) ≡ suc (length us)
  go [] = refl
  go (u ∷ us) = ap suc (go us)

-- ---- rows in which a variable occurs are normal

lacks_all : (v : Var) → occurs v false_row ≡ false
unfolding factor_of
lacks_all v = refl

pub fit_normal : (v : Var) (is : List Item) → ItemsFit false is → any_has v is ≡ true → AllRows IsNormal (rows_of is)
fit_normal v is h e = ⊎_elim (λ f. clash (any_has v is) e (lacks is f)) (λ n. n) h.1 where
  lacks : (is : List Item) → rows_of is ≡ false_row ∷ [] → any_has v is ≡ false
  lacks [] f = refl
  lacks (i ∷ []) f = let r : i.row ≡ false_row = cc in ap (λ (s : Row). occurs v s || false) r ∙ ap (λ b. b || false) (lacks_all v)
  lacks (i ∷ (j ∷ js)) f = cc

pub kept_normal : (f : Item → Bool) (is : List Item) → AllRows IsNormal (rows_of is) → AllRows IsNormal (rows_of (keep f is))
kept_normal f [] h = tt
kept_normal f (i ∷ is) h = if_cases (λ (js : List Item). AllRows IsNormal (rows_of js)) (f i) (i ∷ keep f is) (keep f is) (λ _. (h.0, kept_normal f is h.1)) (λ _. kept_normal f is h.1)
