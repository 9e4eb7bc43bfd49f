-- A form stands for rows: it begins with rows in order, and takes in one row after another.
use Rattle.std.proofs.Common.{◌≡◌, ℕ, zero, suc, ◌+◌, ◌*◌, ◌<◌, ◌≤◌, Bool, true, false, ◌&&◌, ◌||◌, ◌⊎◌, inl, inr, ⊎_elim, List, [], ◌∷◌, ◌++◌, length, get_or, take, take_all, append-nil, append_assoc, Some, None, arith, ap, ap₂, refl, sym, subst, ◌∙◌, pos, int_lt}
use Rattle.std.specs.Prelude.{if◌then◌else◌, nat_lt}
use Rattle.std.specs.List.{list_any}
use Rattle.std.specs.Int.{int_div_euclid}
use Rattle.std.proofs.lemmas.Bool.{cases_Bool, false_from_ne_true}
use Rattle.std.proofs.lemmas.Bool.Decides.{Decides-ltb}
use Rattle.affine_systems.specs.declared.row.Term.{Term}
use Rattle.affine_systems.specs.declared.row.Row.{Row}
use Rattle.affine_systems.specs.declared.items.Item.{Item}
use Rattle.affine_systems.specs.declared.items.Tidied.{Tidied}
use Rattle.affine_systems.specs.declared.row.Var.{Var}
use Rattle.elimination.specs.declared.pairing.Form.{Form}
use Rattle.affine_systems.specs.Rows.{row, false_row, AllRows}
use Rattle.affine_systems.specs.Items.{item, tidied, AllItems, rows_of, false_item, is_false_row, any_false, collapsed, next_made, cut_of}
use Rattle.affine_systems.specs.Normal.{Kept, Always, Never, TooBig, normal, normal_terms, divisor, start_of, divided, is_small, are_small}
use Rattle.affine_systems.specs.Tidy.{with_normal, normal_items, is_too_big, any_too_big, sorted, one_each, row_limit, in_form, merged, round, next_pivot, pivoted, turn_limit, after_round, tidy_turns, tidy_items}
use Rattle.affine_systems.specs.Eliminate.{keep, is_lower, is_upper, is_without, pair, with_uppers, pairs}
use Rattle.affine_systems.specs.Given.{IsNormalAs, AreNormal, ItemsGiven, ItemsSmall}
use Rattle.affine_systems.specs.Lone.{Rises}
use Rattle.affine_systems.specs.Forms.{put_one, Ordered, IsForm, HasForm}
use Rattle.elimination.specs.Held.{Holds, Stands}
use Rattle.affine_systems.proofs.Basics.{if_cases}
use Rattle.affine_systems.proofs.ItemSteps.{normal_items-push}
use Rattle.std.proofs.lemmas.List.{take_more}
use Rattle.elimination.proofs.ClosedLaws.{normal_not_false, normal_same, none_too_big, rising_sorted, rising_once}
use Rattle.elimination.proofs.FormLaws.{ordered_more, once_more, take_put, length_put, rises_put, rises_taken, rising_items, rising_ordered, clear_put, none_false_of}
use Rattle.fx_lists.proofs.Booleans.{or_false, or_true, clash}

pub any_more : {X : Type 0} (p : X → Bool) (xs : List X) (x : X) → list_any p (xs ++ x ∷ []) ≡ (list_any p xs || p x)
any_more p [] x = go (p x) where
  go : (b : Bool) → (b || false) ≡ (false || b)
  go true = refl
  go false = refl
any_more p (y ∷ ys) x = ap (λ b. p y || b) (any_more p ys x) ∙ go (p y) (list_any p ys) (p x) where
  go : (a b c : Bool) → (a || (b || c)) ≡ ((a || b) || c)
  go true b c = refl
  go false b c = refl

same_holds : (ns ms : List Item) (f g : Form) → ns ≡ ms → g.items.items ≡ f.items.items → g.is_over ≡ f.is_over → Holds ns f → Holds ms g
same_holds ns ms f g e i o h = subst (λ ks. Holds ks g) e (record { whole = h.whole; ordered = h.ordered; once = h.once; rises = h.rises; clear = h.clear; held = i ∙ h.held; over = o ∙ h.over })

module _ (q : Bool) (all : List Item) (x : Item) (f : Form) (h : Stands q all f) where
  more : normal_items q (all ++ x ∷ []) ≡ normal_items q all ++ with_normal x (normal q x.row) []
  more = normal_items-push q all x

  big_more : any_too_big q (all ++ x ∷ []) ≡ (any_too_big q all || is_too_big (normal q x.row))
  big_more = any_more (λ (i : Item). is_too_big (normal q i.row)) all x

  -- a row that always holds
  pub stands_always : normal q x.row ≡ Always → Stands q (all ++ x ∷ []) f
  stands_always e =
      let s : normal_items q (all ++ x ∷ []) ≡ normal_items q all = more ∙ (ap (λ n. normal_items q all ++ with_normal x n []) e ∙ append-nil (normal_items q all)) in
      record {
        big = h.big ∙ sym (big_more ∙ (ap (λ n. any_too_big q all || is_too_big n) e ∙ or_false (any_too_big q all)));
        never = h.never ∙ sym (ap any_false s);
        rises = h.rises;
        rest = λ n. subst (λ ks. Holds ks f) (sym s) (h.rest n);
      }

  pub stands_big : (g : Form) → normal q x.row ≡ TooBig → g.too_big ≡ true → g.is_false ≡ f.is_false → g.items.items ≡ f.items.items → g.is_over ≡ f.is_over → Stands q (all ++ x ∷ []) g
  stands_big g e b n i o =
      let s : normal_items q (all ++ x ∷ []) ≡ normal_items q all = more ∙ (ap (λ n. normal_items q all ++ with_normal x n []) e ∙ append-nil (normal_items q all)) in
      record {
        big = b ∙ sym (big_more ∙ (ap (λ n. any_too_big q all || is_too_big n) e ∙ or_true (any_too_big q all)));
        never = n ∙ (h.never ∙ sym (ap any_false s));
        rises = subst (λ (js : List Item). Rises (rows_of js)) (sym i) h.rises;
        rest = λ k. same_holds (normal_items q all) (normal_items q (all ++ x ∷ [])) f g (sym s) i o (h.rest (sym n ∙ k));
      }

  pub stands_never : (g : Form) → normal q x.row ≡ Never → g.is_false ≡ true → g.too_big ≡ f.too_big → g.items.items ≡ f.items.items → Stands q (all ++ x ∷ []) g
  stands_never g e n b i =
      let s : normal_items q (all ++ x ∷ []) ≡ normal_items q all ++ false_item ∷ [] = more ∙ ap (λ n. normal_items q all ++ with_normal x n []) e in
      record {
        big = b ∙ (h.big ∙ sym (big_more ∙ (ap (λ n. any_too_big q all || is_too_big n) e ∙ or_false (any_too_big q all))));
        never = n ∙ sym (ap any_false s ∙ (any_more (λ (j : Item). is_false_row j.row) (normal_items q all) false_item ∙ or_true (any_false (normal_items q all))));
        rises = subst (λ (js : List Item). Rises (rows_of js)) (sym i) h.rises;
        rest = λ k. clash g.is_false n k;
      }

  -- the row in normal form
  module _ (r : Row) (e : normal q x.row ≡ Kept r) where
    kept_more : normal_items q (all ++ x ∷ []) ≡ normal_items q all ++ item r x.originals x.made ∷ []
    kept_more = more ∙ ap (λ n. normal_items q all ++ with_normal x n []) e

    kept_big : any_too_big q (all ++ x ∷ []) ≡ any_too_big q all
    kept_big = big_more ∙ (ap (λ n. any_too_big q all || is_too_big n) e ∙ or_false (any_too_big q all))

    -- where one never holds already
    pub stands_idle : f.is_false ≡ true → Stands q (all ++ x ∷ []) f
    stands_idle n = record {
      big = h.big ∙ sym kept_big;
      never = n ∙ sym (ap any_false kept_more ∙ (any_more (λ (j : Item). is_false_row j.row) (normal_items q all) (item r x.originals x.made) ∙ ap (λ b. b || is_false_row r) (sym h.never ∙ n)));
      rises = h.rises;
      rest = λ k. clash f.is_false n k;
    }

    pub stands_put : (g : Form) (y : Item) → y ≡ item r x.originals x.made → r.equal ≡ false → is_false_row r ≡ false → f.is_false ≡ false → g.is_false ≡ f.is_false → g.too_big ≡ f.too_big → g.items.items ≡ take row_limit (put_one y f.items.items) → g.is_over ≡ (f.is_over || nat_lt row_limit (length (put_one y f.items.items))) → Stands q (all ++ x ∷ []) g
    stands_put g y s a c n m b i o =
        let k = h.rest n in
        let z : Item = item r x.originals x.made in
        let i2 : g.items.items ≡ take row_limit (put_one z f.items.items) = i ∙ ap (λ j. take row_limit (put_one j f.items.items)) s in
        let o2 : g.is_over ≡ (f.is_over || nat_lt row_limit (length (put_one z f.items.items))) = o ∙ ap (λ j. f.is_over || nat_lt row_limit (length (put_one j f.items.items))) s in
        let held : g.items.items ≡ take row_limit (put_one z k.whole) = i2 ∙ (ap (λ js. take row_limit (put_one z js)) k.held ∙ sym (take_put row_limit z k.whole)) in
        let whole_rises = rises_put z k.whole a k.rises in
        record {
          big = b ∙ (h.big ∙ sym kept_big);
          never = m ∙ (h.never ∙ sym (ap any_false kept_more ∙ (any_more (λ (j : Item). is_false_row j.row) (normal_items q all) z ∙ (ap (λ t. any_false (normal_items q all) || t) c ∙ or_false (any_false (normal_items q all))))));
          rises = subst (λ (js : List Item). Rises (rows_of js)) (sym held) (rises_taken row_limit (put_one z k.whole) whole_rises);
          rest = λ _. record {
            whole = put_one z k.whole;
            ordered = subst (λ ks. Ordered (sorted ks)) (sym kept_more) (ordered_more (normal_items q all) z a k.ordered);
            once = ap (put_one z) k.once ∙ (once_more (normal_items q all) z a k.ordered ∙ ap (λ ks. one_each (sorted ks)) (sym kept_more));
            rises = whole_rises;
            clear = clear_put z k.whole a c k.clear;
            held = held;
            over = o2 ∙ over_more z k.whole f.items.items f.is_over k.held k.over;
          };
        }
      where
        over_more : (z : Item) (w js : List Item) (b : Bool) → js ≡ take row_limit w → b ≡ nat_lt row_limit (length w) → (b || nat_lt row_limit (length (put_one z js))) ≡ nat_lt row_limit (length (put_one z w))
        over_more z w js b e o = ⊎_elim
            (λ (t : nat_lt row_limit (length w) ≡ true). let x = (Decides-ltb row_limit (length w)).0 t in
            let l = length_put z w in
            let y : nat_lt row_limit (length (put_one z w)) ≡ true = (Decides-ltb row_limit (length (put_one z w))).1 (omega (arith, x, l)) in
            ap (λ c. c || nat_lt row_limit (length (put_one z js))) (o ∙ t) ∙ sym y)
            (λ (t : nat_lt row_limit (length w) ≡ false).
            let m : length w ≤ row_limit = (⊎_elim (λ (l : row_limit < length w). clash (nat_lt row_limit (length w)) ((Decides-ltb row_limit (length w)).1 l) t) (λ (l : length w ≤ row_limit). l) (above_or (length w))) in
            let s : js ≡ w = e ∙ take_all row_limit w m in
            ap (λ c. c || nat_lt row_limit (length (put_one z js))) (o ∙ t) ∙ ap (λ ks. nat_lt row_limit (length (put_one z ks))) s)
            (cases_Bool (nat_lt row_limit (length w)))
          where
            above_or : (n : ℕ) → (row_limit < n) ⊎ (n ≤ row_limit)
            above_or n = ⊎_elim (λ t. inl ((Decides-ltb row_limit n).0 t)) (λ t. inr (not_above n t)) (cases_Bool (nat_lt row_limit n)) where
              not_above : (n : ℕ) → nat_lt row_limit n ≡ false → n ≤ row_limit
              not_above n t = grind (arith, Decides-ltb)

-- an at-most row stays one, and has terms
pub kept_side : (q : Bool) (r s : Row) → r.equal ≡ false → normal q r ≡ Kept s → (s.equal ≡ false) × (is_false_row s ≡ false)
kept_side q r s a e = go r.equal r.terms a e where
  same : (m s : Row) → Kept m ≡ Kept s → (m.equal ≡ false) × (is_false_row m ≡ false) → (s.equal ≡ false) × (is_false_row s ≡ false)
  same m s e a = let x : m ≡ s = cc in subst (λ (r : Row). (r.equal ≡ false) × (is_false_row r ≡ false)) x a

  go : (b : Bool) (ts : List Term) → b ≡ false → normal_terms q b ts r.bound ≡ Kept s → (s.equal ≡ false) × (is_false_row s ≡ false)
  go true ts a e = cc
  go false [] a e = none (int_lt r.bound (pos 0)) e where
    none : (c : Bool) → (if c then Never else Always) ≡ Kept s → (s.equal ≡ false) × (is_false_row s ≡ false)
    none true e = cc
    none false e = cc
  go false (t ∷ ts) a e =
      let g = divisor (t ∷ ts) (start_of q r.bound) in
      let m = row false (divided g (t ∷ ts)) (int_div_euclid r.bound (pos g)) in
      some (is_small m.bound && are_small m.terms) m (refl, refl) e
    where
      some : (c : Bool) (m : Row) → (m.equal ≡ false) × (is_false_row m ≡ false) → (if c then Kept m else TooBig) ≡ Kept s → (s.equal ≡ false) × (is_false_row s ≡ false)
      some true m f e = same m s e f
      some false m f e = cc

-- ---- the begin and the end

pub stands_begin : (q : Bool) (is : List Item) (f : Form) → AllRows (IsNormalAs q) (rows_of is) → Rises (rows_of is) → length is ≤ 512 → f.items.items ≡ is → f.too_big ≡ false → f.is_false ≡ false → f.is_over ≡ false → Stands q is f
stands_begin q is f n r l i b m o = record {
  big = b ∙ sym (none_too_big q is n);
  never = m ∙ sym (ap any_false (normal_same q is n) ∙ none_false_of is (all_clear is n));
  rises = subst (λ (js : List Item). Rises (rows_of js)) (sym i) r;
  rest = λ _. subst (λ ks. Holds ks f) (sym (normal_same q is n)) (record {
    whole = is;
    ordered = subst Ordered (sym (rising_sorted is r)) (rising_ordered is (rising_items is r));
    once = sym (ap one_each (rising_sorted is r) ∙ rising_once is r);
    rises = r;
    clear = all_clear is n;
    held = i ∙ sym (take_all row_limit is l);
    over = o ∙ sym (false_from_ne_true (nat_lt row_limit (length is)) (λ t. let x = (Decides-ltb row_limit (length is)).0 t in omega (arith, x, l)));
  });
} where
  all_clear : (is : List Item) → AllRows (IsNormalAs q) (rows_of is) → AllItems (λ i. is_false_row i.row ≡ false) is
  all_clear [] h = tt
  all_clear (i ∷ is) h = (normal_not_false q i.row h.0, all_clear is h.1)

pub stands_false : (q : Bool) (is : List Item) (f : Form) → Stands q is f → f.is_false ≡ true → IsForm q is (false_item ∷ []) f.too_big
stands_false q is f h n =
    let e : in_form q is ≡ false_item ∷ [] = ap (λ b. collapsed (one_each (sorted (if b then false_item ∷ [] else normal_items q is)))) (sym h.never ∙ n) in
    record {
      form = sym (ap (take row_limit) e);
      losing = h.big ∙ sym (ap (λ (js : List Item). any_too_big q is || nat_lt row_limit (length js)) e ∙ or_false (any_too_big q is));
    }

pub stands_whole : (q : Bool) (is : List Item) (f : Form) → Stands q is f → f.is_false ≡ false → IsForm q is f.items.items (f.too_big || f.is_over)
stands_whole q is f h n =
    let k = h.rest n in
    let e : in_form q is ≡ k.whole = ap (λ b. collapsed (one_each (sorted (if b then false_item ∷ [] else normal_items q is)))) (sym h.never ∙ n)
    ∙ (ap collapsed (sym k.once) ∙ ap (λ b. if b then false_item ∷ [] else k.whole) (none_false_of k.whole k.clear)) in
    record {
      form = k.held ∙ sym (ap (take row_limit) e);
      losing = ap₂ (λ a b. a || b) h.big k.over ∙ sym (ap (λ (js : List Item). any_too_big q is || nat_lt row_limit (length js)) e);
    }

-- ---- pairs taken in

pub stands_same : (q : Bool) (is js : List Item) (f : Form) → is ≡ js → Stands q is f → Stands q js f
stands_same q is js f e h = subst (λ ks. Stands q ks f) e h

length_taken : (k : ℕ) (is : List Item) → k ≤ length is → length (take k is) ≡ k
length_taken zero [] l = refl
length_taken zero (i ∷ is) l = refl
length_taken (suc k) [] l = absurd (omega (arith, l))
length_taken (suc k) (i ∷ is) l = ap suc (length_taken k is (omega (arith, l)))

pub uppers_last : (n : ℕ) (v : Var) (low : Item) (ups : List Item) (up : Item) → with_uppers n v low (ups ++ up ∷ []) ≡ with_uppers n v low ups ++ pair (n + length ups) v low up ∷ []
uppers_last n v low [] up = ap (λ m. pair m v low up ∷ []) (omega arith)
uppers_last n v low (u ∷ us) up =
    ap (λ (is : List Item). pair n v low u ∷ is) (uppers_last (suc n) v low us up ∙ ap (λ m. with_uppers (suc n) v low us ++ pair m v low up ∷ []) (omega arith))

pub uppers_more : (n : ℕ) (v : Var) (low : Item) (ups : List Item) (k : ℕ) (d : Item) → k < length ups → with_uppers n v low (take (k + 1) ups) ≡ with_uppers n v low (take k ups) ++ pair (n + k) v low (get_or ups k d) ∷ []
uppers_more n v low ups k d l =
    let t : length (take k ups) ≡ k = length_taken k ups (omega (arith, l)) in
    ap (with_uppers n v low) (take_more ups k d l)
    ∙ (uppers_last n v low (take k ups) (get_or ups k d) ∙ ap (λ m. with_uppers n v low (take k ups) ++ pair (n + m) v low (get_or ups k d) ∷ []) t)

pub pairs_last : (n : ℕ) (v : Var) (lows ups : List Item) (low : Item) → pairs n v (lows ++ low ∷ []) ups ≡ pairs n v lows ups ++ with_uppers (n + length lows * length ups) v low ups
pairs_last n v [] ups low = append-nil (with_uppers n v low ups) ∙ ap (λ m. with_uppers m v low ups) (omega arith)
pairs_last n v (l ∷ ls) ups low =
    let s : n + length ups + length ls * length ups ≡ n + suc (length ls) * length ups = omega arith in
    ap (λ is. with_uppers n v l ups ++ is) (pairs_last (n + length ups) v ls ups low ∙ ap (λ m. pairs (n + length ups) v ls ups ++ with_uppers m v low ups) s)
    ∙ sym (append_assoc (with_uppers n v l ups) (pairs (n + length ups) v ls ups) (with_uppers (n + suc (length ls) * length ups) v low ups))

pub pairs_more : (n : ℕ) (v : Var) (lows ups : List Item) (k : ℕ) (d : Item) → k < length lows → pairs n v (take (k + 1) lows) ups ≡ pairs n v (take k lows) ups ++ with_uppers (n + k * length ups) v (get_or lows k d) ups
pairs_more n v lows ups k d l =
    let t : length (take k lows) ≡ k = length_taken k lows (omega (arith, l)) in
    ap (λ is. pairs n v is ups) (take_more lows k d l)
    ∙ (pairs_last n v (take k lows) ups (get_or lows k d) ∙ ap (λ m. pairs n v (take k lows) ups ++ with_uppers (n + m * length ups) v (get_or lows k d) ups) t)

pub none_taken : (is : List Item) → take 0 is ≡ []
none_taken [] = refl
none_taken (i ∷ is) = refl

pub uppers_none : (n : ℕ) (v : Var) (low : Item) (ups is : List Item) → is ≡ is ++ with_uppers n v low (take 0 ups)
uppers_none n v low ups is = sym (ap (λ us. is ++ with_uppers n v low us) (none_taken ups) ∙ append-nil is)

pub pairs_none : (n : ℕ) (v : Var) (lows ups is : List Item) → is ≡ is ++ pairs n v (take 0 lows) ups
pairs_none n v lows ups is = sym (ap (λ us. is ++ pairs n v us ups) (none_taken lows) ∙ append-nil is)

pub uppers_grow : (n : ℕ) (v : Var) (low : Item) (ups is : List Item) (k : ℕ) (d x : Item) → k < length ups → x ≡ pair (n + k) v low (get_or ups k d) → (is ++ with_uppers n v low (take k ups)) ++ x ∷ [] ≡ is ++ with_uppers n v low (take (k + 1) ups)
uppers_grow n v low ups is k d x l e =
    append_assoc is (with_uppers n v low (take k ups)) (x ∷ [])
    ∙ ap (λ us. is ++ us) (ap (λ y. with_uppers n v low (take k ups) ++ y ∷ []) e ∙ sym (uppers_more n v low ups k d l))

pub pairs_grow : (n m : ℕ) (v : Var) (lows ups is : List Item) (k : ℕ) (low : Item) → k < length lows → low ≡ get_or lows k low → m ≡ n + k * length ups → (is ++ pairs n v (take k lows) ups) ++ with_uppers m v low ups ≡ is ++ pairs n v (take (k + 1) lows) ups
pairs_grow n m v lows ups is k low l e s =
    append_assoc is (pairs n v (take k lows) ups) (with_uppers m v low ups)
    ∙ ap (λ us. is ++ us) (ap₂ (λ j (x : Item). pairs n v (take k lows) ups ++ with_uppers j v x ups) s e ∙ sym (pairs_more n v lows ups k low l))

pub uppers_all : (n : ℕ) (v : Var) (low : Item) (ups is : List Item) (k : ℕ) → length ups ≤ k → is ++ with_uppers n v low (take k ups) ≡ is ++ with_uppers n v low ups
uppers_all n v low ups is k l = ap (λ us. is ++ with_uppers n v low us) (take_all k ups l)

pub pairs_all : (n : ℕ) (v : Var) (lows ups is : List Item) (k : ℕ) → length lows ≤ k → is ++ pairs n v (take k lows) ups ≡ is ++ pairs n v lows ups
pairs_all n v lows ups is k l = ap (λ us. is ++ pairs n v us ups) (take_all k lows l)

pub all_paired : (v : Var) (is : List Item) (made : ℕ) (lows ups rest : List Item) → made ≡ next_made is → lows ≡ keep (is_lower v) is → ups ≡ keep (is_upper v) is → rest ≡ keep (is_without v) is → rest ++ pairs made v lows ups ≡ keep (is_without v) is ++ pairs (next_made is) v (keep (is_lower v) is) (keep (is_upper v) is)
all_paired v is made lows ups rest m l u r =
    ap (λ (js : List Item). js ++ pairs made v lows ups) r
    ∙ (ap (λ n. keep (is_without v) is ++ pairs n v lows ups) m ∙ ap₂ (λ (ls us : List Item). keep (is_without v) is ++ pairs (next_made is) v ls us) l u)

-- rows in order that are not false are normal
pub normal_of : (q : Bool) (is : List Item) → any_false is ≡ false → AreNormal q (rows_of is) → AllRows (IsNormalAs q) (rows_of is)
normal_of q [] a (inl e) = tt
normal_of q (i ∷ is) a (inl e) =
    let x : i.row ≡ false_row = cc in
    clash (any_false (i ∷ is)) (ap (λ (r : Row). is_false_row r || any_false is) x) a
normal_of q is a (inr h) = h

-- what is kept of normal rows
pub normal_kept : (q : Bool) (f : Item → Bool) (is : List Item) → AreNormal q (rows_of is) → AreNormal q (rows_of (keep f is))
normal_kept q f [] (inl e) = inr tt
normal_kept q f (i ∷ []) (inl e) = if_cases (λ (js : List Item). AreNormal q (rows_of js)) (f i) (i ∷ []) [] (λ _. inl e) (λ _. inr tt)
normal_kept q f (i ∷ (j ∷ js)) (inl e) = cc
normal_kept q f is (inr h) = inr (all_kept is h) where
  all_kept : (is : List Item) → AllRows (IsNormalAs q) (rows_of is) → AllRows (IsNormalAs q) (rows_of (keep f is))
  all_kept [] h = tt
  all_kept (i ∷ is) h = if_cases (λ (js : List Item). AllRows (IsNormalAs q) (rows_of js)) (f i) (i ∷ keep f is) (keep f is) (λ _. (h.0, all_kept is h.1)) (λ _. all_kept is h.1)
