-- Tidying leaves closed rows as they are, and elimination of a lone variable takes one of them away.
use Rattle.std.proofs.Common.{◌≡◌, ℕ, zero, suc, ◌≤◌, Bool, true, false, not, ◌&&◌, ◌||◌, ◌⊎◌, inl, inr, ⊎_elim, List, [], ◌∷◌, length, take, take_all, arith, ap, ap₂, refl, sym, ◌∙◌, ℤ, pos, int_eq, int_lt, unsigned_abs, Option, Some, None}
use Rattle.std.specs.Prelude.{if◌then◌else◌, nat_lt}
use Rattle.std.proofs.lemmas.Bool.{false_from_ne_true, and_parts}
use Rattle.std.proofs.lemmas.Bool.Decides.{Decides-ltb, Decides-eqb}
use Rattle.affine_systems.specs.declared.row.Var.{Var}
use Rattle.affine_systems.specs.declared.row.Row.{Row}
use Rattle.affine_systems.specs.declared.items.Item.{Item}
use Rattle.affine_systems.specs.declared.items.Tidied.{Tidied}
use Rattle.affine_systems.specs.Terms.{has_no_terms}
use Rattle.affine_systems.specs.Points.{factor_of, occurs}
use Rattle.affine_systems.specs.Rows.{shape_cmp, is_before, AllRows}
use Rattle.affine_systems.specs.Items.{item, joined, tidied, next_made, rows_of, false_item, is_false_row, any_false, collapsed, Cut, cut, cut_later, cut_at, others}
use Rattle.affine_systems.specs.Tidy.{with_normal, normal_items, is_too_big, any_too_big, put, sorted, stronger, one_each, one_each_after, row_limit, are_opposite, against, face_opposite, faced_all, in_form, is_lossy, merged, round, is_unit, unit_var, times, is_elsewhere, is_to_take, next_pivot, by_row, all_substituted, turn_limit, after_round, tidy_turns, tidy_items}
use Rattle.affine_systems.specs.Eliminate.{unchanged, any_has, is_unit_on, keep, is_without, by_unit, eliminate_item, elimination_of}
use Rattle.affine_systems.specs.Given.{IsNormalAs}
use Rattle.affine_systems.specs.Lone.{Rises, AreApart, AllApart, row_times, IsOwn, HasOwn, IsClosed, AllWithout, IsLone}
use Rattle.affine_systems.proofs.Basics.{if_cases}
use Rattle.affine_systems.proofs.ReducedLaws.{kept-reduced}
use Rattle.affine_systems.proofs.SortLaws.{item_order}
use Rattle.affine_systems.proofs.ArrangeSteps.{lt_not_eq}
use Rattle.affine_systems.proofs.ItemSteps.{against-stays}
use Rattle.fx_lists.proofs.Booleans.{clash}
use Rattle.fx_lists.proofs.Numbers.{is_number}

-- ---- lists of rows

pub rows_weaker : (P Q : Row → Type 0) → ((r : Row) → P r → Q r) → (rs : List Row) → AllRows P rs → AllRows Q rs
rows_weaker P Q f [] h = tt
rows_weaker P Q f (r ∷ rs) h = (f r h.0, rows_weaker P Q f rs h.1)

pub kept_rows : (P : Row → Type 0) (f : Item → Bool) (is : List Item) → AllRows P (rows_of is) → AllRows P (rows_of (keep f is))
kept_rows P f [] h = tt
kept_rows P f (i ∷ is) h =
    if_cases (λ (js : List Item). AllRows P (rows_of js)) (f i) (i ∷ keep f is) (keep f is) (λ e. (h.0, kept_rows P f is h.1)) (λ e. kept_rows P f is h.1)

pub length-keep : (f : Item → Bool) (is : List Item) → length (keep f is) ≤ length is
length-keep f [] = omega arith
length-keep f (i ∷ is) =
    let h = length-keep f is in
    if_cases (λ (js : List Item). length js ≤ suc (length is)) (f i) (i ∷ keep f is) (keep f is) (λ e. omega (arith, h)) (λ e. omega (arith, h))

kept_rises : (f : Item → Bool) (is : List Item) → Rises (rows_of is) → Rises (rows_of (keep f is))
kept_rises f [] h = tt
kept_rises f (i ∷ is) h =
    if_cases (λ (js : List Item). Rises (rows_of js)) (f i) (i ∷ keep f is) (keep f is)
    (λ e. (kept_rows (λ s. is_before i.row s ≡ true) f is h.0, kept_rises f is h.1))
    (λ e. kept_rises f is h.1)

kept_times : (v : Var) (f : Item → Bool) (is : List Item) → row_times v (rows_of (keep f is)) ≤ row_times v (rows_of is)
kept_times v f [] = omega arith
kept_times v f (i ∷ is) =
    let n = row_times v (rows_of is) in
    let h = kept_times v f is in
    if_cases (λ (js : List Item). row_times v (rows_of js) ≤ (if occurs v i.row then suc n else n)) (f i) (i ∷ keep f is) (keep f is)
    (λ e. both (occurs v i.row) (row_times v (rows_of (keep f is))) n h)
    (λ e. later (occurs v i.row) (row_times v (rows_of (keep f is))) n h)
  where
    both : (o : Bool) (m n : ℕ) → m ≤ n → (if o then suc m else m) ≤ (if o then suc n else n)
    both true m n h = omega (arith, h)
    both false m n h = h

    later : (o : Bool) (m n : ℕ) → m ≤ n → m ≤ (if o then suc n else n)
    later true m n h = omega (arith, h)
    later false m n h = h

kept_own : (f : Item → Bool) (is : List Item) (o : Option Var) → IsOwn (rows_of is) o → IsOwn (rows_of (keep f is)) o
kept_own f is None h = tt
kept_own f is (Some v) h = omega (arith, h, kept_times v f is)

pub closed_keep : (q : Bool) (f : Item → Bool) (is : List Item) → IsClosed q (rows_of is) → IsClosed q (rows_of (keep f is))
closed_keep q f is c = record {
  normal = kept_rows (IsNormalAs q) f is c.normal;
  rises = kept_rises f is c.rises;
  apart = kept_rows (λ r. AllRows (AreApart r) (rows_of (keep f is))) f is
      (rows_weaker (λ r. AllRows (AreApart r) (rows_of is)) (λ r. AllRows (AreApart r) (rows_of (keep f is))) (λ r h. kept_rows (AreApart r) f is h) (rows_of is) c.apart);
  own = kept_rows (HasOwn (rows_of (keep f is))) f is
      (rows_weaker (HasOwn (rows_of is)) (HasOwn (rows_of (keep f is))) (λ r h e. kept_own f is (unit_var r.terms) (h e)) (rows_of is) c.own);
}

-- ---- a round over closed rows

pub normal_terms : (q : Bool) (r : Row) → IsNormalAs q r → has_no_terms r.terms ≡ false
normal_terms q r h = (kept-reduced q r r h.0 h.1).some

pub normal_not_false : (q : Bool) (r : Row) → IsNormalAs q r → is_false_row r ≡ false
normal_not_false q r h = go r.equal (has_no_terms r.terms) (normal_terms q r h) where
  go : (e n : Bool) → n ≡ false → (not e && (n && int_lt r.bound (pos 0))) ≡ false
  go true n h = refl
  go false true h = cc
  go false false h = refl

pub normal_same : (q : Bool) (is : List Item) → AllRows (IsNormalAs q) (rows_of is) → normal_items q is ≡ is
normal_same q [] h = refl
normal_same q (i ∷ is) h = ap₂ (λ n (js : List Item). with_normal i n js) h.0.1 (normal_same q is h.1)

pub none_too_big : (q : Bool) (is : List Item) → AllRows (IsNormalAs q) (rows_of is) → any_too_big q is ≡ false
none_too_big q [] h = refl
none_too_big q (i ∷ is) h = ap₂ (λ n b. is_too_big n || b) h.0.1 (none_too_big q is h.1)

none_false : (q : Bool) (is : List Item) → AllRows (IsNormalAs q) (rows_of is) → any_false is ≡ false
none_false q [] h = refl
none_false q (i ∷ is) h = ap₂ (λ a b. a || b) (normal_not_false q i.row h.0) (none_false q is h.1)

pub rising_sorted : (is : List Item) → Rises (rows_of is) → sorted is ≡ is
rising_sorted [] h = refl
rising_sorted (i ∷ []) h = refl
rising_sorted (i ∷ (j ∷ js)) h =
    ap (put i) (rising_sorted (j ∷ js) h.1) ∙ ap (λ b. if b then j ∷ put i js else i ∷ j ∷ js) (item_order.one_way i j h.0.0)

pub rising_once : (is : List Item) → Rises (rows_of is) → one_each is ≡ is
rising_once [] h = refl
rising_once (i ∷ []) h = refl
rising_once (i ∷ (j ∷ js)) h =
    ap (λ b. if b then one_each_after (stronger i j) js else i ∷ one_each_after j js) (lt_not_eq (shape_cmp i.row j.row) h.0.0)
    ∙ ap (λ (ks : List Item). i ∷ ks) (rising_once (j ∷ js) h.1)

arranged_same : (is : List Item) → Rises (rows_of is) → any_false is ≡ false → collapsed (one_each (sorted is)) ≡ is
arranged_same is h f = ap (λ js. collapsed (one_each js)) (rising_sorted is h) ∙ (ap collapsed (rising_once is h) ∙ ap (λ b. if b then false_item ∷ [] else is) f)

faced_same : (n : ℕ) (i : Item) (js : List Item) → AllRows (AreApart i.row) (rows_of js) → face_opposite n i js ≡ i
faced_same n i [] h = refl
faced_same n i (j ∷ js) h =
    if_cases (λ (k : Item). k ≡ i) (are_opposite i.row j.row) (against n i j) (face_opposite n i js) (λ e. against-stays n i j (h.0 e)) (λ e. faced_same n i js h.1)

faced_all_same : (n : ℕ) (is js : List Item) → AllApart (rows_of is) (rows_of js) → faced_all n is js ≡ is
faced_all_same n [] js h = refl
faced_all_same n (i ∷ is) js h = ap₂ (λ k (ks : List Item). k ∷ ks) (faced_same n i js h.0) (faced_all_same (suc n) is js h.1)

pub times_rows : (v : Var) (is : List Item) → times v is ≡ row_times v (rows_of is)
times_rows v [] = refl
times_rows v (i ∷ is) = ap (λ n. if occurs v i.row then suc n else n) (times_rows v is)

not_elsewhere : (is : List Item) (o : Option Var) → IsOwn (rows_of is) o → is_elsewhere is o ≡ false
not_elsewhere is None h = refl
not_elsewhere is (Some v) h =
    false_from_ne_true (nat_lt 1 (times v is)) (λ t. let x = (Decides-ltb 1 (times v is)).0 t in let y = times_rows v is in omega (arith, x, y, h))

none_taken : (all is : List Item) → AllRows (HasOwn (rows_of all)) (rows_of is) → cut_at (is_to_take all) is ≡ None
none_taken all [] h = refl
none_taken all (i ∷ is) h =
    ap₂ (λ b o. if b then Some (cut [] i is) else cut_later i o) (stays i.row.equal refl) (none_taken all is h.1)
  where
    stays : (e : Bool) → i.row.equal ≡ e → is_to_take all i ≡ false
    stays true e = ap (λ b. b && is_elsewhere all (unit_var i.row.terms)) e ∙ not_elsewhere all (unit_var i.row.terms) (h.0 e)
    stays false e = ap (λ b. b && is_elsewhere all (unit_var i.row.terms)) e

module _ (q : Bool) (is : List Item) (c : IsClosed q (rows_of is)) (l : length is ≤ 512) where
  clear : any_false is ≡ false
  clear = none_false q is c.normal

  form_same : in_form q is ≡ is
  form_same =
      ap (λ js. collapsed (one_each (sorted (collapsed js)))) (normal_same q is c.normal)
      ∙ (ap (λ b. collapsed (one_each (sorted (if b then false_item ∷ [] else is)))) clear ∙ arranged_same is c.rises clear)

  none_lost : is_lossy q is ≡ false
  none_lost =
      ap₂ (λ a (js : List Item). a || nat_lt row_limit (length js)) (none_too_big q is c.normal) form_same
      ∙ false_from_ne_true (nat_lt row_limit (length is)) (λ t. let x = (Decides-ltb row_limit (length is)).0 t in omega (arith, x, l))

  round_same : round q is ≡ tidied is false
  round_same =
      let e : take row_limit (in_form q is) ≡ is = ap (take row_limit) form_same ∙ take_all row_limit is l in
      let m : merged is ≡ is = ap (λ js. collapsed (one_each (sorted js))) (faced_all_same (next_made is) is is c.apart) ∙ arranged_same is c.rises clear in
      ap₂ (λ (js : List Item) b. tidied js b) (ap merged e ∙ m) none_lost

  turns_same : (n : ℕ) → tidy_turns n q is ≡ tidied is false
  turns_same zero = round_same
  turns_same (suc n) =
      ap (λ (t : Tidied). after_round (λ js. tidy_turns n q js) t (next_pivot t.items)) round_same
      ∙ ap (after_round (λ js. tidy_turns n q js) (tidied is false)) (none_taken is is c.own)

  pub closed_tidy : tidy_items q is ≡ tidied is false
  closed_tidy = turns_same turn_limit

-- ---- a lone variable

pub unit_occurs : (v : Var) (i : Item) → is_unit_on v i ≡ true → occurs v i.row ≡ true
unit_occurs v i u = go (factor_of v i.row.terms) (and_parts i.row.equal (is_unit (factor_of v i.row.terms)) u).1 where
  go : (z : ℤ) → is_unit z ≡ true → not (int_eq z (pos 0)) ≡ true
  go z h = ap not (false_from_ne_true (int_eq z (pos 0)) (λ e. apart z h e)) where
    apart : (z : ℤ) → is_unit z ≡ true → int_eq z (pos 0) ≡ true → ⊥
    apart z h e =
        let x : unsigned_abs z ≡ 1 = (Decides-eqb (unsigned_abs z) 1).0 h in
        let y : unsigned_abs z ≡ 0 = ap unsigned_abs (is_number z (pos 0) e) in
        absurd (omega (arith, x, y))

pub without_kept : (v : Var) (is : List Item) → AllWithout v is → keep (is_without v) is ≡ is
without_kept v [] h = refl
without_kept v (i ∷ is) h = ap₂ (λ b (js : List Item). if not b then i ∷ js else js) h.0 (without_kept v is h.1)

pub kept_without : (v : Var) (f : Item → Bool) (is : List Item) → AllWithout v is → AllWithout v (keep f is)
kept_without v f [] h = tt
kept_without v f (i ∷ is) h = if_cases (AllWithout v) (f i) (i ∷ keep f is) (keep f is) (λ e. (h.0, kept_without v f is h.1)) (λ e. kept_without v f is h.1)

rest_without : (v : Var) (is : List Item) → AllWithout v (keep (is_without v) is)
rest_without v [] = tt
rest_without v (i ∷ is) =
    if_cases (AllWithout v) (is_without v i) (i ∷ keep (is_without v) is) (keep (is_without v) is) (λ e. (passed (occurs v i.row) e, rest_without v is)) (λ e. rest_without v is)
  where
    passed : (b : Bool) → not b ≡ true → b ≡ false
    passed true e = cc
    passed false e = refl

none_has : (v : Var) (is : List Item) → AllWithout v is → any_has v is ≡ false
none_has v [] h = refl
none_has v (i ∷ is) h = ap₂ (λ a b. a || b) h.0 (none_has v is h.1)

none_substituted : (n : ℕ) (e : Item) (v : Var) (is : List Item) → AllWithout v is → all_substituted n e v is ≡ is
none_substituted n e v [] h = refl
none_substituted n e v (i ∷ is) h =
    ap₂ (λ b (js : List Item). (if b then item (by_row i.row v e.row) (joined i.originals e.originals) n else i) ∷ js) h.0 (none_substituted (suc n) e v is h.1)

-- where the items are cut that the variable is taken from
record LoneCut (v : Var) (is : List Item) : Type 0 where
  pub at : Cut
  pub found : cut_at (is_unit_on v) is ≡ Some at
  pub rest : others at ≡ keep (is_without v) is
  pub has : any_has v is ≡ true

lone_cut : (v : Var) (is : List Item) → IsLone v is → AllWithout v is ⊎ LoneCut v is
lone_cut v [] h = inl tt
lone_cut v (i ∷ is) (inl h) = ⊎_elim (λ w. inl (h.0, w)) (λ c. inr (later c)) (lone_cut v is h.1) where
  not_here : is_unit_on v i ≡ false
  not_here = false_from_ne_true (is_unit_on v i) (λ u. clash (occurs v i.row) (unit_occurs v i u) h.0)

  later : LoneCut v is → LoneCut v (i ∷ is)
  later c = record {
    at = cut (i ∷ c.at.before) c.at.at c.at.after;
    found = ap₂ (λ b o. if b then Some (cut [] i is) else cut_later i o) not_here c.found;
    rest = ap (λ (js : List Item). i ∷ js) c.rest ∙ sym (ap (λ b. if not b then i ∷ keep (is_without v) is else keep (is_without v) is) h.0);
    has = ap₂ (λ a b. a || b) h.0 c.has;
  }
lone_cut v (i ∷ is) (inr h) =
    let o = unit_occurs v i h.0 in
    inr (record {
      at = cut [] i is;
      found = ap (λ b. if b then Some (cut [] i is) else cut_later i (cut_at (is_unit_on v) is)) h.0;
      rest = sym (ap (λ b. if not b then i ∷ keep (is_without v) is else keep (is_without v) is) o ∙ without_kept v is h.1);
      has = ap (λ b. b || any_has v is) o;
    })

pub lone_eliminated : (q : Bool) (v : Var) (is : List Item) → IsClosed q (rows_of is) → length is ≤ 512 → IsLone v is → eliminate_item q v is ≡ unchanged (keep (is_without v) is)
lone_eliminated q v is c l h = ⊎_elim absent present (lone_cut v is h) where
  absent : AllWithout v is → eliminate_item q v is ≡ unchanged (keep (is_without v) is)
  absent w = ap (λ b. if b then by_unit q v is (cut_at (is_unit_on v) is) else unchanged is) (none_has v is w) ∙ ap unchanged (sym (without_kept v is w))

  present : LoneCut v is → eliminate_item q v is ≡ unchanged (keep (is_without v) is)
  present k =
      let rest = keep (is_without v) is in
      ap (λ b. if b then by_unit q v is (cut_at (is_unit_on v) is) else unchanged is) k.has
      ∙ (ap (by_unit q v is) k.found
      ∙ (ap (λ js. elimination_of true false (tidy_items q (all_substituted (next_made is) k.at.at v js))) k.rest
      ∙ (ap (λ js. elimination_of true false (tidy_items q js)) (none_substituted (next_made is) k.at.at v rest (rest_without v is))
      ∙ ap (elimination_of true false) (closed_tidy q rest (closed_keep q (is_without v) is c) (omega (arith, l, length-keep (is_without v) is))))))
