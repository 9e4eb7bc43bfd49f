-- Variables that one row alone has are eliminated with their rows.
use Rattle.std.proofs.Common.{◌≡◌, ℕ, zero, suc, ◌+◌, ◌-◌, ◌<◌, ◌≤◌, Bool, true, false, not, ◌&&◌, ◌||◌, inl, inr, List, [], ◌∷◌, ◌++◌, length, take, drop, get_or, take_all, take-append-drop, drop_of_length-le, length-drop, arith, ap, ap₂, refl, sym, subst, ◌∙◌}
use Rattle.std.specs.Prelude.{if◌then◌else◌}
use Rattle.std.proofs.lemmas.List.{take_more, drop-drop}
use Rattle.affine_systems.specs.declared.row.Var.{Var}
use Rattle.affine_systems.specs.declared.row.Row.{Row}
use Rattle.affine_systems.specs.declared.items.Item.{Item}
use Rattle.affine_systems.specs.Points.{occurs}
use Rattle.affine_systems.specs.Rows.{system, AllRows}
use Rattle.affine_systems.specs.Items.{item, no_originals, AllItems, items_from, rows_of}
use Rattle.affine_systems.specs.Eliminate.{unchanged, keep, is_without, eliminate_item, elim_of, eliminate}
use Rattle.affine_systems.specs.Lone.{IsClosed, AllWithout, IsLone, left_by, AllLone}
use Rattle.affine_systems.proofs.Basics.{if_cases}
use Rattle.elimination.proofs.ClosedLaws.{closed_keep, lone_eliminated, length-keep}
use Rattle.affine_systems.proofs.FitLaws.{rows_of-items_from, length-rows_of}
use Rattle.hull_projection.specs.declared.projection.Shadow.{Shadow}
use Rattle.affine_systems.specs.Given.{IsNormalAs, AreNormal, ItemsFit}
use Rattle.hull_projection.specs.declared.eliminations.Left.{Left}
use Rattle.hull_projection.specs.Refute.{has_few, with_few, left, left_after, eliminate_all}
use Rattle.hull_projection.specs.Project.{shadow, shadow_after, eliminate_each}
use Rattle.fx_lists.proofs.Booleans.{alone as or_false, and_true}

without_again : (v : Var) (n : ℕ) (is : List Item) → AllWithout v is → AllWithout v (items_from n (rows_of is))
without_again v n [] h = tt
without_again v n (i ∷ is) h = (h.0, without_again v (suc n) is h.1)

lone_again : (v : Var) (n : ℕ) (is : List Item) → IsLone v is → IsLone v (items_from n (rows_of is))
lone_again v n [] h = tt
lone_again v n (i ∷ is) (inl h) = inl (h.0, lone_again v (suc n) is h.1)
lone_again v n (i ∷ is) (inr h) = inr (h.0, without_again v (suc n) is h.1)

kept_again : (v : Var) (n : ℕ) (is : List Item) → rows_of (keep (is_without v) (items_from n (rows_of is))) ≡ rows_of (keep (is_without v) is)
kept_again v n [] = refl
kept_again v n (i ∷ is) = go (occurs v i.row) (kept_again v (suc n) is) where
  go : (b : Bool) → rows_of (keep (is_without v) (items_from (suc n) (rows_of is))) ≡ rows_of (keep (is_without v) is) → rows_of (if not b then item i.row no_originals n ∷ keep (is_without v) (items_from (suc n) (rows_of is)) else keep (is_without v) (items_from (suc n) (rows_of is))) ≡ rows_of (if not b then i ∷ keep (is_without v) is else keep (is_without v) is)
  go true h = h
  go false h = ap (λ (rs : List Row). i.row ∷ rs) h

pub each_lone : (vs : List Var) (is : List Item) (w e : Bool) → IsClosed false (rows_of is) → length is ≤ 512 → AllLone vs is → eliminate_each (shadow (system (rows_of is) w) e) vs ≡ shadow (system (rows_of (left_by vs is)) w) e
each_lone [] is w e c l h = refl
each_lone (v ∷ vs) is w e c l h =
    let js = items_from 0 (rows_of is) in
    let r : rows_of js ≡ rows_of is = rows_of-items_from 0 (rows_of is) in
    let n : length js ≤ 512 = (let x = length-rows_of js in let y = length-rows_of is in let z = ap length r in omega (arith, l, x, y, z)) in
    let one : eliminate (system (rows_of is) w) v ≡ elim_of w (unchanged (keep (is_without v) js)) = ap (elim_of w) (lone_eliminated false v js (subst (IsClosed false) (sym r) c) n (lone_again v 0 is h.0)) in
    let k : shadow_after (shadow (system (rows_of is) w) e) (eliminate (system (rows_of is) w) v) ≡ shadow (system (rows_of (keep (is_without v) is)) w) e
    = ap (shadow_after (shadow (system (rows_of is) w) e)) one
    ∙ (ap (λ (rs : List Row). shadow (system rs (w || false)) (e && true)) (kept_again v 0 is) ∙ ap₂ (λ a b. shadow (system (rows_of (keep (is_without v) is)) a) b) (or_false w) (and_true e)) in
    ap (λ s. eliminate_each s vs) k
    ∙ each_lone vs (keep (is_without v) is) w e (closed_keep false (is_without v) is c) (let x = length-keep (is_without v) is in omega (arith, l, x)) h.1

pub each_append : (s : Shadow) (vs ws : List Var) → eliminate_each s (vs ++ ws) ≡ eliminate_each (eliminate_each s vs) ws
each_append s [] ws = refl
each_append s (v ∷ vs) ws = each_append (shadow_after s (eliminate s.system v)) vs ws

-- ---- the same of rows with originals

few_same : (k : ℕ) (is : List Item) → AllItems (λ i. has_few k i ≡ true) is → with_few k is ≡ is
few_same k [] h = refl
few_same k (i ∷ is) h = ap₂ (λ b (js : List Item). if b then i ∷ js else js) h.0 (few_same k is h.1)

few_kept : (k : ℕ) (f : Item → Bool) (is : List Item) → AllItems (λ i. has_few k i ≡ true) is → AllItems (λ i. has_few k i ≡ true) (keep f is)
few_kept k f [] h = tt
few_kept k f (i ∷ is) h = if_cases (AllItems (λ i. has_few k i ≡ true)) (f i) (i ∷ keep f is) (keep f is) (λ e. (h.0, few_kept k f is h.1)) (λ e. few_kept k f is h.1)

pub all_lone : (q : Bool) (vs : List Var) (is : List Item) (l : Bool) (k : ℕ) → IsClosed q (rows_of is) → length is ≤ 512 → AllLone vs is → AllItems (λ i. has_few k i ≡ true) is → eliminate_all q (left is l k) vs ≡ left (left_by vs is) l k
all_lone q [] is l k c n h f = refl
all_lone q (v ∷ vs) is l k c n h f =
    let js = keep (is_without v) is in
    let g = few_kept k (is_without v) is f in
    let m = length-keep (is_without v) is in
    let e : left_after (left is l k) (eliminate_item q v is) ≡ left js l k
    = ap (left_after (left is l k)) (lone_eliminated q v is c n h.0) ∙ ap₂ (λ (ks : List Item) b. left ks b k) (few_same k js g) (or_false l) in
    ap (λ s. eliminate_all q s vs) e ∙ all_lone q vs js l k (closed_keep q (is_without v) is c) (omega (arith, n, m)) h.1 g

pub all_append : (q : Bool) (s : Left) (vs ws : List Var) → eliminate_all q s (vs ++ ws) ≡ eliminate_all q (eliminate_all q s vs) ws
all_append q s [] ws = refl
all_append q s (v ∷ vs) ws = all_append q (left_after s (eliminate_item q v s.items)) vs ws

pub left_by_kept : (vs : List Var) (is : List Item) → length (left_by vs is) ≤ length is
left_by_kept [] is = omega arith
left_by_kept (v ∷ vs) is = omega (arith, left_by_kept vs (keep (is_without v) is), length-keep (is_without v) is)

kept_normal : (q : Bool) (f : Item → Bool) (is : List Item) → AllRows (IsNormalAs q) (rows_of is) → AllRows (IsNormalAs q) (rows_of (keep f is))
kept_normal q f [] h = tt
kept_normal q f (i ∷ is) h = if_cases (λ (js : List Item). AllRows (IsNormalAs q) (rows_of js)) (f i) (i ∷ keep f is) (keep f is) (λ e. (h.0, kept_normal q f is h.1)) (λ e. kept_normal q f is h.1)

left_normal : (q : Bool) (vs : List Var) (is : List Item) → AllRows (IsNormalAs q) (rows_of is) → AllRows (IsNormalAs q) (rows_of (left_by vs is))
left_normal q [] is h = h
left_normal q (v ∷ vs) is h = left_normal q vs (keep (is_without v) is) (kept_normal q (is_without v) is h)

-- what the first of the variables leave; none where there are none
pub lone_left : (q : Bool) (n : ℕ) (vs : List Var) (is : List Item) (l : Bool) (k : ℕ) → ItemsFit q is → (0 < n → (r : Bool) → AreNormal r (rows_of is) → IsClosed r (rows_of is)) → AllLone (take n vs) is → AllItems (λ i. has_few k i ≡ true) is → eliminate_all q (left is l k) (take n vs) ≡ left (left_by (take n vs) is) l k
lone_left q zero [] is l k f c h g = refl
lone_left q zero (v ∷ vs) is l k f c h g = refl
lone_left q (suc n) vs is l k f c h g = all_lone q (take (suc n) vs) is l k (c (omega arith) q f.1) f.0 h g

pub left_fits : (q : Bool) (n : ℕ) (vs : List Var) (is : List Item) → ItemsFit q is → (0 < n → (r : Bool) → AreNormal r (rows_of is) → IsClosed r (rows_of is)) → ItemsFit q (left_by (take n vs) is)
left_fits q zero [] is f c = f
left_fits q zero (v ∷ vs) is f c = f
left_fits q (suc n) vs is f c = (omega (arith, f.0, left_by_kept (take (suc n) vs) is), inr (left_normal q (take (suc n) vs) is (c (omega arith) q f.1).normal))

-- the same of a shadow
pub lone_shadow : (n : ℕ) (vs : List Var) (rs : List Row) (w e : Bool) → ItemsFit false (items_from 0 rs) → (0 < n → (r : Bool) → AreNormal r (rows_of (items_from 0 rs)) → IsClosed r (rows_of (items_from 0 rs))) → AllLone (take n vs) (items_from 0 rs) → eliminate_each (shadow (system rs w) e) (take n vs) ≡ shadow (system (rows_of (left_by (take n vs) (items_from 0 rs))) w) e
lone_shadow zero [] rs w e f c h = ap (λ ss. shadow (system ss w) e) (sym (rows_of-items_from 0 rs))
lone_shadow zero (v ∷ vs) rs w e f c h = ap (λ ss. shadow (system ss w) e) (sym (rows_of-items_from 0 rs))
lone_shadow (suc n) vs rs w e f c h =
    ap (λ ss. eliminate_each (shadow (system ss w) e) (take (suc n) vs)) (sym (rows_of-items_from 0 rs))
    ∙ each_lone (take (suc n) vs) (items_from 0 rs) w e (c (omega arith) false f.1) f.0 h

-- ---- steps of the loops that take some of the variables at a time

pub each_one : (s t u : Shadow) (vs : List Var) (n : ℕ) (d : Var) → n < length vs → t ≡ eliminate_each s (take n vs) → u ≡ shadow_after t (eliminate t.system (get_or vs n d)) → u ≡ eliminate_each s (take (n + 1) vs)
each_one s t u vs n d l e h =
    let v = get_or vs n d in
    h ∙ (ap (λ (x : Shadow). shadow_after x (eliminate x.system v)) e ∙ (sym (each_append s (take n vs) (v ∷ [])) ∙ ap (eliminate_each s) (sym (take_more vs n d l))))

pub each_more : (s t goal : Shadow) (vs : List Var) (at done : ℕ) → t ≡ eliminate_each s (take done (drop at vs)) → eliminate_each s (drop at vs) ≡ goal → eliminate_each t (drop (at + done) vs) ≡ goal
each_more s t goal vs at done e h =
    ap₂ (λ (x : Shadow) (ws : List Var). eliminate_each x ws) e (sym (drop-drop done at vs))
    ∙ (sym (each_append s (take done (drop at vs)) (drop done (drop at vs))) ∙ (ap (eliminate_each s) (take-append-drop done (drop at vs)) ∙ h))

pub each_end : (t goal : Shadow) (vs : List Var) (at : ℕ) → length vs ≤ at → eliminate_each t (drop at vs) ≡ goal → t ≡ goal
each_end t goal vs at l h = sym (ap (eliminate_each t) (drop_of_length-le vs l)) ∙ h

pub all_one : (q : Bool) (s t u : Left) (vs : List Var) (n : ℕ) (d : Var) → n < length vs → t ≡ eliminate_all q s (take n vs) → u ≡ left_after t (eliminate_item q (get_or vs n d) t.items) → u ≡ eliminate_all q s (take (n + 1) vs)
all_one q s t u vs n d l e h =
    let v = get_or vs n d in
    h ∙ (ap (λ (x : Left). left_after x (eliminate_item q v x.items)) e ∙ (sym (all_append q s (take n vs) (v ∷ [])) ∙ ap (eliminate_all q s) (sym (take_more vs n d l))))

pub all_more : (q : Bool) (s t goal : Left) (vs : List Var) (at done : ℕ) → t ≡ eliminate_all q s (take done (drop at vs)) → eliminate_all q s (drop at vs) ≡ goal → eliminate_all q t (drop (at + done) vs) ≡ goal
all_more q s t goal vs at done e h =
    ap₂ (λ (x : Left) (ws : List Var). eliminate_all q x ws) e (sym (drop-drop done at vs))
    ∙ (sym (all_append q s (take done (drop at vs)) (drop done (drop at vs))) ∙ (ap (eliminate_all q s) (take-append-drop done (drop at vs)) ∙ h))

pub all_end : (q : Bool) (t goal : Left) (vs : List Var) (at : ℕ) → length vs ≤ at → eliminate_all q t (drop at vs) ≡ goal → t ≡ goal
all_end q t goal vs at l h = sym (ap (eliminate_all q t) (drop_of_length-le vs l)) ∙ h

pub ruleset each_some = (each_one, take_all)

pub ruleset each_loop = (each_more, each_end)

pub ruleset all_some = (all_one, take_all)

pub ruleset all_loop = (all_more, all_end)

-- a slice from a place to the end
pub slice_vars : (vs : List Var) (i : ℕ) → take (length vs - i) (drop i vs) ≡ drop i vs
slice_vars vs i = take_all (length vs - i) (drop i vs) (omega (arith, length-drop i vs))

pub slice_within : (vs : List Var) (i n : ℕ) → i ≤ length vs → n ≤ length (take (length vs - i) (drop i vs)) → i + n ≤ length vs
slice_within vs i n l h = let a = ap length (slice_vars vs i) in let b = length-drop i vs in omega (arith, l, h, a, b)
