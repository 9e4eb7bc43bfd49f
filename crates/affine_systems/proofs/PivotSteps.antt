-- Steps of the loops over pivots.
use Rattle.std.proofs.Common.{◌≡◌, ℕ, zero, suc, ◌+◌, ◌<◌, ◌≤◌, Bool, true, false, List, [], ◌∷◌, ◌++◌, length, take, drop, get_or, set, drop-cons, drop_of_length-le, take_all, length-take, length-drop, length-append, add-one, append-nil, append_assoc, negsuc, arith, ap, ap₂, refl, sym, subst, ◌∙◌, Option, Some, None, ℤ, pos, neg_ℤ, ◌*ℤ◌, int_lt}
use Rattle.std.specs.Prelude.{if◌then◌else◌, insert, remove}
use Rattle.std.proofs.lemmas.List.{take_more, get_or_default}
use Rattle.std.proofs.lemmas.Int.{ints}
use Rattle.std.proofs.lemmas.Bool.Decides.{Decides-eqb, nat_tests}
use Rattle.std.proofs.lemmas.Bool.{false_from_ne_true}
use Rattle.affine_systems.specs.declared.row.Var.{Var}
use Rattle.affine_systems.specs.declared.row.Term.{Term}
use Rattle.affine_systems.specs.declared.row.Row.{Row}
use Rattle.affine_systems.specs.declared.items.Item.{Item}
use Rattle.affine_systems.specs.Terms.{Ascends}
use Rattle.affine_systems.specs.Rows.{combine}
use Rattle.affine_systems.specs.Points.{factor_of, occurs}
use Rattle.affine_systems.specs.Items.{joined, item, next_made, false_item, Cut, cut, cut_later, cut_at, cut_of}
use Rattle.affine_systems.specs.Tidy.{is_unit, last_unit, unit_var, times, by_row, all_substituted, taken, pivoted}
use Rattle.affine_systems.specs.Eliminate.{cancelling, cancel_variable, all_cancelled}
use Rattle.affine_systems.specs.Given.{ItemsSmall, IsSmallRow}
use Rattle.affine_systems.proofs.ItemSteps.{item_at, small_item_at as small_taken_out}
use Rattle.affine_systems.proofs.FitLaws.{unit_var_has}

-- ---- the pivot

pub unit-skip : (ts : List Term) (k : ℕ) (d : Term) (o : Option Var) → k < length ts → is_unit (get_or ts k d).factor ≡ false → last_unit o (drop k ts) ≡ last_unit o (drop (k + 1) ts)
unit-skip ts k d o h e = rw (add-one k) (ap (last_unit o) (drop-cons ts k d h) ∙ ap (λ b. last_unit (if b then Some (get_or ts k d).var else o) (drop (suc k) ts)) e)

pub unit-found : (ts : List Term) (k : ℕ) (d : Term) (o : Option Var) → k < length ts → is_unit (get_or ts k d).factor ≡ true → last_unit o (drop k ts) ≡ last_unit (Some (get_or ts k d).var) (drop (k + 1) ts)
unit-found ts k d o h e = rw (add-one k) (ap (last_unit o) (drop-cons ts k d h) ∙ ap (λ b. last_unit (if b then Some (get_or ts k d).var else o) (drop (suc k) ts)) e)

pub unit-end : (ts : List Term) (k : ℕ) (o : Option Var) → length ts ≤ k → last_unit o (drop k ts) ≡ o
unit-end ts k o h = ap (last_unit o) (drop_of_length-le ts h)

pub ruleset unit_loop = (unit-skip, unit-found, unit-end)

-- ---- a cut

-- a cut of a list, after others
abbrev pub after : List Item → Option Cut → Option Cut
after is None = None
after is (Some c) = Some (cut (is ++ c.before) c.at c.after)

after-later : (is : List Item) (i : Item) (o : Option Cut) → after is (cut_later i o) ≡ after (is ++ i ∷ []) o
after-later is i None = refl
after-later is i (Some c) = ap (λ (js : List Item). Some (cut js c.at c.after)) (sym (append_assoc is (i ∷ []) c.before))

pub cut-passed : (f : Item → Bool) (is : List Item) (k : ℕ) (i : Item) → k < length is → i ≡ get_or is k i → f i ≡ false → after (take k is) (cut_at f (drop k is)) ≡ after (take (k + 1) is) (cut_at f (drop (k + 1) is))
cut-passed f is k i h e p =
    let x : drop k is ≡ i ∷ drop (suc k) is = drop-cons is k i h ∙ ap (λ (j : Item). j ∷ drop (suc k) is) (sym e) in
    let y : take k is ++ i ∷ [] ≡ take (k + 1) is = ap (λ (j : Item). take k is ++ j ∷ []) e ∙ sym (take_more is k i h) in
    ap (λ js. after (take k is) (cut_at f js)) x
    ∙ (ap (λ b. after (take k is) (if b then Some (cut [] i (drop (suc k) is)) else cut_later i (cut_at f (drop (suc k) is)))) p
    ∙ (after-later (take k is) i (cut_at f (drop (suc k) is))
    ∙ ap₂ (λ (js : List Item) m. after js (cut_at f (drop m is))) y (sym (add-one k))))

pub cut-found : (f : Item → Bool) (is : List Item) (k : ℕ) (i : Item) → k < length is → i ≡ get_or is k i → f i ≡ true → after (take k is) (cut_at f (drop k is)) ≡ Some (cut_of is k)
cut-found f is k i h e p =
    let x : drop k is ≡ i ∷ drop (suc k) is = drop-cons is k i h ∙ ap (λ (j : Item). j ∷ drop (suc k) is) (sym e) in
    let y : i ≡ get_or is k false_item = e ∙ get_or_default is k i false_item h in
    ap (λ js. after (take k is) (cut_at f js)) x
    ∙ (ap (λ b. after (take k is) (if b then Some (cut [] i (drop (suc k) is)) else cut_later i (cut_at f (drop (suc k) is)))) p
    ∙ ap₂ (λ (js : List Item) j. Some (cut js j (drop (suc k) is))) (append-nil (take k is)) y)

pub cut-end : (f : Item → Bool) (is : List Item) (k : ℕ) → length is ≤ k → after (take k is) (cut_at f (drop k is)) ≡ None
cut-end f is k h = ap (λ js. after (take k is) (cut_at f js)) (drop_of_length-le is h)

pub ruleset cut_loop = (cut-passed, cut-found, cut-end)

-- ---- how many rows have a variable

abbrev pub seen_once : Bool → ℕ
seen_once b = if b then 1 else 0

pub times-have : (v : Var) (is : List Item) (k : ℕ) (i : Item) → k < length is → i ≡ get_or is k i → occurs v i.row ≡ true → times v (drop k is) ≡ 1 + times v (drop (k + 1) is)
times-have v is k i h e p =
    let x : drop k is ≡ i ∷ drop (suc k) is = drop-cons is k i h ∙ ap (λ (j : Item). j ∷ drop (suc k) is) (sym e) in
    let s : suc (times v (drop (suc k) is)) ≡ 1 + times v (drop (suc k) is) = omega arith in
    rw (add-one k) (ap (times v) x ∙ (ap (λ b. if b then suc (times v (drop (suc k) is)) else times v (drop (suc k) is)) p ∙ s))

pub times-lack : (v : Var) (is : List Item) (k : ℕ) (i : Item) → k < length is → i ≡ get_or is k i → occurs v i.row ≡ false → times v (drop k is) ≡ times v (drop (k + 1) is)
times-lack v is k i h e p =
    let x : drop k is ≡ i ∷ drop (suc k) is = drop-cons is k i h ∙ ap (λ (j : Item). j ∷ drop (suc k) is) (sym e) in
    rw (add-one k) (ap (times v) x ∙ ap (λ b. if b then suc (times v (drop (suc k) is)) else times v (drop (suc k) is)) p)

pub times-end : (v : Var) (is : List Item) (k : ℕ) → length is ≤ k → times v (drop k is) ≡ 0
times-end v is k h = ap (times v) (drop_of_length-le is h)

pub ruleset times_loop = (times-have, times-lack, times-end, nat_tests)

-- ---- an equal row with factor 1 or -1 on the variable

pub by_row-cancelling : (r : Row) (v : Var) (e : Row) → is_unit (factor_of v e.terms) ≡ true → by_row r v e ≡ cancelling (factor_of v e.terms) r e (factor_of v r.terms)
by_row-cancelling r v e u = go (factor_of v e.terms) (factor_of v r.terms) u where
  go : (a c : ℤ) → is_unit a ≡ true → combine (pos 1) r (neg_ℤ (c *ℤ a)) e ≡ cancelling a r e c
  go (pos n) c u =
      let h : n ≡ 1 = (Decides-eqb n 1).0 u in
      let l : int_lt (pos n) (pos 0) ≡ false = false_from_ne_true (int_lt (pos n) (pos 0)) (λ t. omega (arith, ints, t)) in
      let m : c *ℤ pos 1 ≡ c = omega (arith, ints) in
      let k : neg_ℤ (c *ℤ pos n) ≡ (if int_lt (pos n) (pos 0) then c else neg_ℤ c) = ap (λ x. neg_ℤ (c *ℤ pos x)) h ∙ (ap neg_ℤ m ∙ ap (λ b. if b then c else neg_ℤ c) (sym l)) in
      ap₂ (λ x y. combine (pos x) r y e) (sym h) k
  go (negsuc n) c u =
      let h : suc n ≡ 1 = (Decides-eqb (suc n) 1).0 u in
      let z : n ≡ 0 = omega arith in
      let m : neg_ℤ (c *ℤ negsuc 0) ≡ c = omega (arith, ints) in
      ap₂ (λ x y. combine (pos x) r y e) (sym h) (ap (λ x. neg_ℤ (c *ℤ negsuc x)) z ∙ m)

pub substituted-cancelled : (n : ℕ) (e : Item) (v : Var) (is : List Item) → is_unit (factor_of v e.row.terms) ≡ true → all_substituted n e v is ≡ all_cancelled n e v is
substituted-cancelled n e v [] u = refl
substituted-cancelled n e v (i ∷ is) u =
    ap₂ (λ (r : Row) (js : List Item). (if occurs v i.row then item r (joined i.originals e.originals) n else i) ∷ js) (by_row-cancelling i.row v e.row u) (substituted-cancelled (suc n) e v is u)

-- ---- each item with the variable cancelled

all_cancelled-push : (n : ℕ) (e : Item) (v : Var) (is : List Item) (i : Item) → all_cancelled n e v (is ++ i ∷ []) ≡ all_cancelled n e v is ++ cancel_variable (n + length is) e v i ∷ []
all_cancelled-push n e v [] i = let z : n ≡ n + 0 = omega arith in ap (λ m. cancel_variable m e v i ∷ []) z
all_cancelled-push n e v (j ∷ js) i =
    let s : suc n + length js ≡ n + suc (length js) = omega arith in
    ap (λ (ks : List Item). cancel_variable n e v j ∷ ks) (all_cancelled-push (suc n) e v js i ∙ ap (λ m. all_cancelled (suc n) e v js ++ cancel_variable m e v i ∷ []) s)

length-all_cancelled : (n : ℕ) (e : Item) (v : Var) (is : List Item) → length (all_cancelled n e v is) ≡ length is
length-all_cancelled n e v [] = refl
length-all_cancelled n e v (i ∷ is) = ap suc (length-all_cancelled (suc n) e v is)

set-seam : (xs : List Item) (x y : Item) (ys : List Item) (i : ℕ) → i ≡ length xs → set (xs ++ x ∷ ys) i y ≡ xs ++ y ∷ ys
set-seam [] x y ys zero e = refl
set-seam [] x y ys (suc i) e = absurd (omega arith)
set-seam (z ∷ zs) x y ys zero e = absurd (omega arith)
set-seam (z ∷ zs) x y ys (suc i) e = ap (λ (ks : List Item). z ∷ ks) (set-seam zs x y ys i (omega arith))

get_or-seam : (xs : List Item) (x : Item) (ys : List Item) (i : ℕ) (d : Item) → i ≡ length xs → get_or (xs ++ x ∷ ys) i d ≡ x
get_or-seam [] x ys zero d e = refl
get_or-seam [] x ys (suc i) d e = absurd (omega arith)
get_or-seam (z ∷ zs) x ys zero d e = absurd (omega arith)
get_or-seam (z ∷ zs) x ys (suc i) d e = get_or-seam zs x ys i d (omega arith)

-- the items up to a place are cancelled
abbrev pub cancelled_to : ℕ → Item → Var → List Item → ℕ → List Item
cancelled_to n e v is k = all_cancelled n e v (take k is) ++ drop k is

module _ (n : ℕ) (e : Item) (v : Var) (is ys : List Item) (k : ℕ) (l : k < length is) (h : ys ≡ cancelled_to n e v is k) where
  place : k ≡ length (all_cancelled n e v (take k is))
  place = omega (arith, length-all_cancelled n e v (take k is), length-take k is)

  split : (d : Item) → ys ≡ all_cancelled n e v (take k is) ++ get_or is k d ∷ drop (suc k) is
  split d = h ∙ ap (λ js. all_cancelled n e v (take k is) ++ js) (drop-cons is k d l)

  pub cancelled-read : (d : Item) → get_or ys k d ≡ get_or is k d
  cancelled-read d = ap (λ js. get_or js k d) (split d) ∙ get_or-seam (all_cancelled n e v (take k is)) (get_or is k d) (drop (suc k) is) k d place

  pub cancelled-length : length ys ≡ length is
  cancelled-length =
      let a = ap length h in
      omega (arith, a, length-append (all_cancelled n e v (take k is)) (drop k is), length-all_cancelled n e v (take k is), length-take k is, length-drop k is)

  pub cancelled-more : (d : Item) → set ys k (cancel_variable (n + k) e v (get_or ys k d)) ≡ cancelled_to n e v is (k + 1)
  cancelled-more d =
      let x = get_or is k d in
      let y = cancel_variable (n + k) e v x in
      let t : length (take k is) ≡ k = omega (arith, length-take k is) in
      ap (λ (j : Item). set ys k (cancel_variable (n + k) e v j)) (cancelled-read d)
      ∙ (ap (λ js. set js k y) (split d)
      ∙ (set-seam (all_cancelled n e v (take k is)) x y (drop (suc k) is) k place
      ∙ (sym (append_assoc (all_cancelled n e v (take k is)) (y ∷ []) (drop (suc k) is))
      ∙ ap₂ (λ (js : List Item) m. js ++ drop m is)
      (ap (λ m. all_cancelled n e v (take k is) ++ cancel_variable (n + m) e v x ∷ []) (sym t) ∙ (sym (all_cancelled-push n e v (take k is) x) ∙ ap (all_cancelled n e v) (sym (take_more is k d l))))
      (sym (add-one k)))))

pub cancelled-all : (n : ℕ) (e : Item) (v : Var) (is ys : List Item) (k : ℕ) → length is ≤ k → ys ≡ cancelled_to n e v is k → ys ≡ all_cancelled n e v is
cancelled-all n e v is ys k l h =
    h ∙ (ap₂ (λ (js ks : List Item). all_cancelled n e v js ++ ks) (take_all k is l) (drop_of_length-le is l) ∙ append-nil (all_cancelled n e v is))

-- an item put where it stands
pub set-same : (is : List Item) (k : ℕ) (d : Item) → k < length is → set is k (get_or is k d) ≡ is
set-same [] k d h = absurd (omega arith)
set-same (i ∷ is) zero d h = refl
set-same (i ∷ is) (suc k) d h = ap (λ (ks : List Item). i ∷ ks) (set-same is k d (omega arith))

-- small items stay small where each is yet as it was
pub small_rest : (n : ℕ) (e : Item) (v : Var) (is ys : List Item) (k : ℕ) → ItemsSmall is → k < length is → ys ≡ cancelled_to n e v is k → (d : Item) → IsSmallRow (get_or ys k d).row
small_rest n e v is ys k s l h d = subst (λ (j : Item). IsSmallRow j.row) (sym (cancelled-read n e v is ys k l h d)) (item_at (λ j. IsSmallRow j.row) is k d s l)

-- ---- the pivot taken

pub small_removed : (is : List Item) (k : ℕ) → ItemsSmall is → ItemsSmall (remove is k)
small_removed [] zero h = tt
small_removed [] (suc k) h = tt
small_removed (i ∷ is) zero h = h.1
small_removed (i ∷ is) (suc k) h = (h.0, small_removed is k h.1)

insert-first : (is : List Item) (i : Item) → insert is 0 i ≡ i ∷ is
insert-first [] i = refl
insert-first (j ∷ js) i = refl

pub pivot_taken : (is left new out : List Item) (k made : ℕ) (p : Item) → k < length is → p ≡ get_or is k p → left ≡ remove is k → made ≡ next_made is → p ∷ new ≡ taken made p left (unit_var p.row.terms) → out ≡ insert new 0 p → out ≡ pivoted is (cut_of is k)
pivot_taken is left new out k made p l e r m t o =
    let x : p ≡ get_or is k false_item = e ∙ get_or_default is k p false_item l in
    o ∙ (insert-first new p ∙ (t ∙ λ i. taken (m i) (x i) (r i) (unit_var (x i).row.terms)))

pub substituted_is : (n : ℕ) (e : Item) (v : Var) (is new : List Item) → Ascends e.row.terms → unit_var e.row.terms ≡ Some v → new ≡ all_cancelled n e v is → e ∷ new ≡ taken n e is (unit_var e.row.terms)
substituted_is n e v is new a u h =
    ap (λ (js : List Item). e ∷ js) (h ∙ sym (substituted-cancelled n e v is (unit_var_has v e.row.terms a u))) ∙ ap (taken n e is) (sym u)
