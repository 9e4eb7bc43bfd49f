-- Steps of the loops that look for lone variables and take their rows away.
use Rattle.std.proofs.Common.{◌≡◌, ℕ, zero, suc, ◌+◌, ◌<◌, ◌≤◌, Bool, true, false, not, ◌&&◌, ◌⊎◌, inl, inr, ⊎_elim, List, [], ◌∷◌, ◌++◌, length, take, get_or, take_all, arith, ap, ap₂, refl, sym, subst, ◌∙◌, Option, Some, None}
use Rattle.std.specs.Prelude.{if◌then◌else◌, nat_lt, slice_index, slice_index_or, slice_set}
use Rattle.std.proofs.lemmas.List.{take_more, get_or_default}
use Rattle.std.proofs.lemmas.Bool.{cases_Bool, cases_eq, false_from_ne_true}
use Rattle.affine_systems.specs.declared.row.Var.{Var}
use Rattle.affine_systems.specs.declared.row.Term.{Term}
use Rattle.affine_systems.specs.declared.row.Row.{Row}
use Rattle.affine_systems.specs.declared.items.Item.{Item}
use Rattle.affine_systems.specs.Terms.{has_no_terms, Ascends}
use Rattle.affine_systems.specs.Points.{occurs}
use Rattle.affine_systems.specs.Rows.{false_row, is_before, AllRows}
use Rattle.affine_systems.specs.Items.{AllItems, rows_of, false_item, Cut, cut, cut_later, cut_at}
use Rattle.affine_systems.specs.Tidy.{are_opposite, rises_at, unit_var, times, is_elsewhere, is_to_take}
use Rattle.affine_systems.specs.Eliminate.{is_unit_on, keep, is_without}
use Rattle.affine_systems.specs.Given.{ItemsSmall, IsSmallRow, AreNormal}
use Rattle.affine_systems.specs.Places.{place_of, has_var, Sided, may_face}
use Rattle.affine_systems.specs.Lone.{Rises, AreApart, AllApart, IsOwn, HasOwn, IsClosed, AllHaveTerms, AllWithout, IsLone, left_by, AllLone, has_terms}
use Rattle.elimination.specs.Homes.{IsHome, HasHomes, row_at, Homed, OnlyAt}
use Rattle.std.proofs.lemmas.Bool.Decides.{Decides-ltb}
use Rattle.affine_systems.proofs.TermLaws.{var_eq-true}
use Rattle.affine_systems.proofs.PlaceSteps.{has_of_occurs, has_pushed, IsAt, apart}
use Rattle.affine_systems.proofs.ArrangeSteps.{rises_first, rises_rest}
use Rattle.affine_systems.proofs.SortLaws.{item_order}
use Rattle.elimination.proofs.ClosedLaws.{times_rows, unit_occurs, without_kept, kept_without}
use Rattle.fx_lists.proofs.Booleans.{clash}

-- ---- rows in order

before_all : (i j : Item) (js : List Item) → is_before i.row j.row ≡ true → AllRows (λ s. is_before j.row s ≡ true) (rows_of js) → AllRows (λ s. is_before i.row s ≡ true) (rows_of js)
before_all i j [] e h = tt
before_all i j (k ∷ ks) e h = (further, before_all i j ks e h.1) where
  further : is_before i.row k.row ≡ true
  further = ⊎_elim (λ t. t) (λ f. clash (is_before i.row j.row) e (item_order.chain i k j f (item_order.one_way j k h.0))) (cases_Bool (is_before i.row k.row))

pub all_rise : (is : List Item) → ((k : ℕ) → k < length is → rises_at is k ≡ true) → Rises (rows_of is)
all_rise [] h = tt
all_rise (i ∷ []) h = (tt, tt)
all_rise (i ∷ (j ∷ js)) h =
    let r : Rises (rows_of (j ∷ js)) = all_rise (j ∷ js) (rises_rest i j js h) in
    let e = rises_first i j js h in
    ((e, before_all i j js e r.0), r)

-- ---- a table of homes

pub no_homes : (k : ℕ) (t : List ℕ) → HasHomes k t t []
no_homes k t = record { kept = λ b j h. h; each = λ v e. clash false e refl }

pub homes_more : (j : ℕ) (old now new : List ℕ) (ts : List Term) (k : ℕ) (d : Term) → k < length ts → HasHomes j old now (take k ts) → ((b i : ℕ) → IsHome i (slice_index now b) → IsHome i (slice_index new b)) → IsHome j (slice_index new (place_of (get_or ts k d).var)) → HasHomes j old new (take (k + 1) ts)
homes_more j old now new ts k d l h g n = record {
  kept = λ b i p. g b i (h.kept b i p);
  each = λ v e. ⊎_elim
      (λ p. g (place_of v) j (h.each v p))
      (λ p. subst (λ (w : Var). IsHome j (slice_index new (place_of w))) (sym (var_eq-true v (get_or ts k d).var p)) n)
      (has_pushed v (take k ts) (get_or ts k d) (ap (has_var v) (sym (take_more ts k d l)) ∙ e));
}

pub homes_end : (j : ℕ) (old new : List ℕ) (ts : List Term) (k : ℕ) → length ts ≤ k → HasHomes j old new (take k ts) → HasHomes j old new ts
homes_end j old new ts k l h = subst (λ us. HasHomes j old new us) (take_all k ts l) h

-- the homes of the rows up to a place
pub record HomedTo (table : List ℕ) (is : List Item) (n : ℕ) : Type 0 where
  pub each : (k : ℕ) → k < n → k < length is → (v : Var) → occurs v (row_at is k) ≡ true → IsHome k (slice_index table (place_of v))

pub homed_none : (table : List ℕ) (is : List Item) → HomedTo table is 0
homed_none table is = record { each = λ k l. absurd (omega arith) }

pub homed_more : (old new : List ℕ) (is : List Item) (n : ℕ) (i : Item) → n < length is → i ≡ get_or is n i → HomedTo old is n → HasHomes n old new i.row.terms → HomedTo new is (n + 1)
homed_more old new is n i l e h g = record {
  each = λ k m s v o.
      ⊎_elim
      (λ (x : k ≡ n). let y : row_at is k ≡ i.row = ap (row_at is) x ∙ sym (ap (λ (j : Item). j.row) (e ∙ get_or_default is n i false_item l)) in
      let z : IsHome n (slice_index new (place_of v)) = g.each v (has_of_occurs v i.row (ap (occurs v) (sym y) ∙ o)) in
      subst (λ (p : ℕ). IsHome p (slice_index new (place_of v))) (sym x) z)
      (λ x. g.kept (place_of v) k (h.each k (omega (arith, m, x)) s v o))
      (cases_eq k n);
}

pub homed_end : (table : List ℕ) (is : List Item) (n : ℕ) → length is ≤ n → HomedTo table is n → Homed table is
homed_end table is n l h = record { each = λ k s v o. h.each k (omega (arith, l, s)) s v o }

-- ---- where a variable is

row_later : (i : Item) (is : List Item) (k : ℕ) → row_at (i ∷ is) (suc k) ≡ row_at is k
row_later i is k = refl

pub nowhere : (v : Var) (is : List Item) → ((k : ℕ) → k < length is → occurs v (row_at is k) ≡ true → ⊥) → AllWithout v is
nowhere v [] h = tt
nowhere v (i ∷ is) h = (false_from_ne_true (occurs v i.row) (λ o. h 0 (omega arith) o), nowhere v is (λ k l o. h (suc k) (omega (arith, l)) o))

pub none_at : (v : Var) (table : List ℕ) (is : List Item) → Homed table is → slice_index table (place_of v) ≡ 0 → AllWithout v is
none_at v table is h e = nowhere v is (λ k l o. ⊎_elim (λ x. absurd (omega (arith, e, x))) (λ x. absurd (omega (arith, e, x))) (h.each k l v o))

pub only_at : (v : Var) (table : List ℕ) (is : List Item) (at : ℕ) → Homed table is → length is ≤ 512 → slice_index table (place_of v) ≡ suc at → at < length is → OnlyAt v is at
only_at v table is at h m e l = λ k s o. ⊎_elim (λ x. omega (arith, e, x)) (λ x. absurd (omega (arith, e, x, l, m))) (h.each k s v o)

pub lacks_at : (v : Var) (is : List Item) (at : ℕ) → OnlyAt v is at → occurs v (row_at is at) ≡ false → AllWithout v is
lacks_at v is at h e = nowhere v is (λ k l o. clash (occurs v (row_at is at)) (ap (λ n. occurs v (row_at is n)) (sym (h k l o)) ∙ o) e)

-- ---- the row of a lone variable taken away

has_terms_of_occurs : (v : Var) (i : Item) → occurs v i.row ≡ true → has_terms i ≡ true
has_terms_of_occurs v i o = go i.row.terms (has_of_occurs v i.row o) where
  go : (ts : List Term) → has_var v ts ≡ true → not (has_no_terms ts) ≡ true
  go [] e = cc
  go (t ∷ ts) e = refl

rest_without : (v : Var) (i : Item) (is : List Item) → OnlyAt v (i ∷ is) 0 → AllWithout v is
rest_without v i is h = nowhere v is (λ k l o. let x = h (suc k) (omega (arith, l)) o in absurd (omega (arith, x)))

pub record TakenAway (v : Var) (is js : List Item) : Type 0 where
  pub lone : IsLone v (keep has_terms is)
  pub rest : keep has_terms js ≡ keep (is_without v) (keep has_terms is)

pub taken_away : (v : Var) (is : List Item) (k : ℕ) (b : Item) → k < length is → is_unit_on v (slice_index_or is k false_item) ≡ true → OnlyAt v is k → has_terms b ≡ false → TakenAway v is (slice_set is k b)
taken_away v [] k b l u h n = absurd (omega (arith, l))
taken_away v (i ∷ is) zero b l u h n =
    let o = unit_occurs v i u in
    let w = kept_without v has_terms is (rest_without v i is h) in
    let e : keep has_terms (i ∷ is) ≡ i ∷ keep has_terms is = ap (λ c. if c then i ∷ keep has_terms is else keep has_terms is) (has_terms_of_occurs v i o) in
    record {
      lone = subst (IsLone v) (sym e) (inr (u, w));
      rest = ap (λ c. if c then b ∷ keep has_terms is else keep has_terms is) n
          ∙ sym (ap (keep (is_without v)) e ∙ (ap (λ c. if not c then i ∷ keep (is_without v) (keep has_terms is) else keep (is_without v) (keep has_terms is)) o ∙ without_kept v (keep has_terms is) w));
    }
taken_away v (i ∷ is) (suc k) b l u h n =
    go (cases_Bool (has_terms i)) (taken_away v is k b (omega (arith, l)) u (λ j m o. let x = h (suc j) (omega (arith, m)) o in omega (arith, x)) n)
  where
    lacks : occurs v i.row ≡ false
    lacks = false_from_ne_true (occurs v i.row) (λ o. let x = h 0 (omega (arith, l)) o in absurd (omega (arith, x)))

    go : (has_terms i ≡ true) ⊎ (has_terms i ≡ false) → TakenAway v is (slice_set is k b) → TakenAway v (i ∷ is) (i ∷ slice_set is k b)
    go (inl t) r =
        let e : keep has_terms (i ∷ is) ≡ i ∷ keep has_terms is = ap (λ c. if c then i ∷ keep has_terms is else keep has_terms is) t in
        record {
          lone = subst (IsLone v) (sym e) (inl (lacks, r.lone));
          rest = ap (λ c. if c then i ∷ keep has_terms (slice_set is k b) else keep has_terms (slice_set is k b)) t
              ∙ (ap (λ (js : List Item). i ∷ js) r.rest
              ∙ sym (ap (keep (is_without v)) e ∙ ap (λ c. if not c then i ∷ keep (is_without v) (keep has_terms is) else keep (is_without v) (keep has_terms is)) lacks));
        }
    go (inr f) r =
        let e : keep has_terms (i ∷ is) ≡ keep has_terms is = ap (λ c. if c then i ∷ keep has_terms is else keep has_terms is) f in
        record {
          lone = subst (IsLone v) (sym e) r.lone;
          rest = ap (λ c. if c then i ∷ keep has_terms (slice_set is k b) else keep has_terms (slice_set is k b)) f ∙ (r.rest ∙ ap (keep (is_without v)) (sym e));
        }

-- ---- one variable after another

left_by-more : (vs : List Var) (v : Var) (is : List Item) → left_by (vs ++ v ∷ []) is ≡ keep (is_without v) (left_by vs is)
left_by-more [] v is = refl
left_by-more (w ∷ vs) v is = left_by-more vs v (keep (is_without w) is)

all_lone-more : (vs : List Var) (v : Var) (is : List Item) → AllLone vs is → IsLone v (left_by vs is) → AllLone (vs ++ v ∷ []) is
all_lone-more [] v is h l = (l, tt)
all_lone-more (w ∷ vs) v is h l = (h.0, all_lone-more vs v (keep (is_without w) is) h.1 l)

pub without_lone : (v : Var) (is : List Item) → AllWithout v is → IsLone v is
without_lone v [] h = tt
without_lone v (i ∷ is) h = inl (h.0, without_lone v is h.1)

-- what is so after the first variables
pub record Blanked (all now : List Item) (table : List ℕ) (vs : List Var) : Type 0 where
  pub same_length : length now ≡ length all
  pub small : ItemsSmall now
  pub homed : Homed table now
  pub left : keep has_terms now ≡ left_by vs (keep has_terms all)
  pub lone : AllLone vs (keep has_terms all)

pub blanked_none : (all : List Item) (table : List ℕ) → ItemsSmall all → Homed table all → Blanked all all table []
blanked_none all table s h = record { same_length = refl; small = s; homed = h; left = refl; lone = tt }

blanked_by : (all now new : List Item) (table : List ℕ) (vs : List Var) (k : ℕ) (v : Var) → k < length vs → v ≡ get_or vs k v → Blanked all now table (take k vs) → length new ≡ length now → ItemsSmall new → Homed table new → TakenAway v now new → Blanked all new table (take (k + 1) vs)
blanked_by all now new table vs k v l e b n s h t =
    let x : take (k + 1) vs ≡ take k vs ++ v ∷ [] = take_more vs k v l ∙ ap (λ (w : Var). take k vs ++ w ∷ []) (sym e) in
    record {
      same_length = n ∙ b.same_length;
      small = s;
      homed = h;
      left = t.rest ∙ (ap (keep (is_without v)) b.left ∙ (sym (left_by-more (take k vs) v (keep has_terms all)) ∙ ap (λ ws. left_by ws (keep has_terms all)) (sym x)));
      lone = subst (λ ws. AllLone ws (keep has_terms all)) (sym x) (all_lone-more (take k vs) v (keep has_terms all) b.lone (subst (IsLone v) b.left t.lone));
    }

pub blanked_nowhere : (all now : List Item) (table : List ℕ) (vs : List Var) (k : ℕ) (v : Var) → k < length vs → v ≡ get_or vs k v → Blanked all now table (take k vs) → AllWithout v now → Blanked all now table (take (k + 1) vs)
blanked_nowhere all now table vs k v l e b w =
    let x = kept_without v has_terms now w in
    blanked_by all now now table vs k v l e b refl b.small b.homed (record { lone = without_lone v (keep has_terms now) x; rest = sym (without_kept v (keep has_terms now) x) })

length-put : (is : List Item) (k : ℕ) (b : Item) → length (slice_set is k b) ≡ length is
length-put [] k b = refl
length-put (i ∷ is) zero b = refl
length-put (i ∷ is) (suc k) b = ap suc (length-put is k b)

small_put : (is : List Item) (k : ℕ) (b : Item) → ItemsSmall is → IsSmallRow b.row → ItemsSmall (slice_set is k b)
small_put [] k b h s = tt
small_put (i ∷ is) zero b h s = (s, h.1)
small_put (i ∷ is) (suc k) b h s = (h.0, small_put is k b h.1 s)

-- a row that has a variable after one without any was put in is one that stood there
still_there : (v : Var) (is : List Item) (k j : ℕ) (b : Item) → occurs v b.row ≡ false → j < length is → occurs v (row_at (slice_set is k b) j) ≡ true → occurs v (row_at is j) ≡ true
still_there v [] k j b n l o = o
still_there v (i ∷ is) zero zero b n l o = clash (occurs v b.row) o n
still_there v (i ∷ is) zero (suc j) b n l o = o
still_there v (i ∷ is) (suc k) zero b n l o = o
still_there v (i ∷ is) (suc k) (suc j) b n l o = still_there v is k j b n (omega (arith, l)) o

homed_put : (table : List ℕ) (is : List Item) (k : ℕ) (b : Item) → ((v : Var) → occurs v b.row ≡ false) → Homed table is → Homed table (slice_set is k b)
homed_put table is k b n h = record {
  each = λ j l v o. let m = length-put is k b in let s : j < length is = omega (arith, l, m) in h.each j s v (still_there v is k j b (n v) s o);
}

pub blanked_here : (all now new : List Item) (table : List ℕ) (vs : List Var) (k : ℕ) (v : Var) (at : ℕ) (b : Item) → k < length vs → v ≡ get_or vs k v → Blanked all now table (take k vs) → at < length now → is_unit_on v (slice_index_or now at false_item) ≡ true → OnlyAt v now at → has_terms b ≡ false → IsSmallRow b.row → ((w : Var) → occurs w b.row ≡ false) → new ≡ slice_set now at b → Blanked all new table (take (k + 1) vs)
blanked_here all now new table vs k v at b l e h m u o n s w p =
    subst (λ (js : List Item). Blanked all js table (take (k + 1) vs)) (sym p)
    (blanked_by all now (slice_set now at b) table vs k v l e h (length-put now at b) (small_put now at b h.small s) (homed_put table now at b w h.homed) (taken_away v now at b m u o n))

-- items that all have terms
pub all_kept : (is : List Item) → AllHaveTerms is → keep has_terms is ≡ is
all_kept [] h = refl
all_kept (i ∷ is) h = ap₂ (λ b (js : List Item). if b then i ∷ js else js) h.0 (all_kept is h.1)

pub terms-push : (is : List Item) (k : ℕ) (i : Item) → k < length is → i ≡ get_or is k i → has_no_terms i.row.terms ≡ false → AllHaveTerms (take k is) → AllHaveTerms (take (k + 1) is)
terms-push is k i l e n h = subst AllHaveTerms (sym (take_more is k i l ∙ ap (λ (j : Item). take k is ++ j ∷ []) (sym e))) (push (take k is) h) where
  push : (js : List Item) → AllHaveTerms js → AllHaveTerms (js ++ i ∷ [])
  push [] h = (ap not n, tt)
  push (j ∷ js) h = (h.0, push js h.1)

pub terms-all : (is : List Item) (k : ℕ) → length is ≤ k → AllHaveTerms (take k is) → AllHaveTerms is
terms-all is k l h = subst AllHaveTerms (take_all k is l) h

pub ruleset terms_loop = (terms-push, terms-all)

-- ---- rows apart

pub apart_push : (r : Row) (is : List Item) (i : Item) → AllRows (AreApart r) (rows_of is) → AreApart r i.row → AllRows (AreApart r) (rows_of (is ++ i ∷ []))
apart_push r [] i h a = (a, tt)
apart_push r (j ∷ js) i h a = (h.0, apart_push r js i h.1 a)

pub apart_more : (r : Row) (is : List Item) (k : ℕ) (i : Item) → k < length is → i ≡ get_or is k i → AllRows (AreApart r) (rows_of (take k is)) → AreApart r i.row → AllRows (AreApart r) (rows_of (take (k + 1) is))
apart_more r is k i l e h a =
    subst (λ (js : List Item). AllRows (AreApart r) (rows_of js)) (sym (take_more is k i l ∙ ap (λ (j : Item). take k is ++ j ∷ []) (sym e))) (apart_push r (take k is) i h a)

pub rows_push : (P : Row → Type 0) (is : List Item) (k : ℕ) (i : Item) → k < length is → i ≡ get_or is k i → AllRows P (rows_of (take k is)) → P i.row → AllRows P (rows_of (take (k + 1) is))
rows_push P is k i l e h a = subst (λ (js : List Item). AllRows P (rows_of js)) (sym (take_more is k i l ∙ ap (λ (j : Item). take k is ++ j ∷ []) (sym e))) (push (take k is) h) where
  push : (js : List Item) → AllRows P (rows_of js) → AllRows P (rows_of (js ++ i ∷ []))
  push [] h = (a, tt)
  push (j ∷ js) h = (h.0, push js h.1)

pub rows_all : (P : Row → Type 0) (is : List Item) (k : ℕ) → length is ≤ k → AllRows P (rows_of (take k is)) → AllRows P (rows_of is)
rows_all P is k l h = subst (λ (js : List Item). AllRows P (rows_of js)) (take_all k is l) h

-- a row whose opposites have an empty place is apart from all
pub unfaced_apart : (table : List ℕ) (r : Row) (is : List Item) → Ascends r.terms → Sided table is → may_face table r ≡ false → AllRows (AreApart r) (rows_of is)
unfaced_apart table r is a s m = go is s.each where
  go : (js : List Item) → AllItems (IsAt table) js → AllRows (AreApart r) (rows_of js)
  go [] h = tt
  go (j ∷ js) h = (λ o. clash (are_opposite r j.row) o (apart table r j.row a m h.0), go js h.1)

-- ---- closed items

own_of_times : (is : List Item) (o : Option Var) → is_elsewhere is o ≡ false → IsOwn (rows_of is) o
own_of_times is None e = tt
own_of_times is (Some v) e =
    let y = times_rows v is in
    ⊎_elim (λ l. clash (nat_lt 1 (times v is)) ((Decides-ltb 1 (times v is)).1 l) e) (λ l. omega (arith, l, y)) (two_or_less (times v is))
  where
    two_or_less : (n : ℕ) → (1 < n) ⊎ (n ≤ 1)
    two_or_less zero = inr (omega arith)
    two_or_less (suc zero) = inr (omega arith)
    two_or_less (suc (suc n)) = inl (omega arith)

own_of_cut : (all is : List Item) → cut_at (is_to_take all) is ≡ None → AllRows (HasOwn (rows_of all)) (rows_of is)
own_of_cut all [] e = tt
own_of_cut all (i ∷ is) e = go (is_to_take all i) (cut_at (is_to_take all) is) refl refl (λ h. own_of_cut all is h) e where
  later : (o : Option Cut) → cut_later i o ≡ None → o ≡ None
  later None e = refl
  later (Some c) e = cc

  stays : is_to_take all i ≡ false → HasOwn (rows_of all) i.row
  stays f q = own_of_times all (unit_var i.row.terms) (sym (ap (λ b. b && is_elsewhere all (unit_var i.row.terms)) q) ∙ f)

  go : (b : Bool) (o : Option Cut) → is_to_take all i ≡ b → cut_at (is_to_take all) is ≡ o → (cut_at (is_to_take all) is ≡ None → AllRows (HasOwn (rows_of all)) (rows_of is)) → (if b then Some (cut [] i is) else cut_later i o) ≡ None → AllRows (HasOwn (rows_of all)) (i.row ∷ rows_of is)
  go true o p r f h = cc
  go false o p r f h = (stays p, f (r ∙ later o h))

not_false_alone : (is : List Item) → rows_of is ≡ false_row ∷ [] → AllHaveTerms is → ⊥
not_false_alone [] e f = cc
not_false_alone (i ∷ is) e f = clash (has_terms i) f.0 (ap (λ (r : Row). not (has_no_terms r.terms)) (head e)) where
  head : (i.row ∷ rows_of is) ≡ (false_row ∷ []) → i.row ≡ false_row
  head e = cc

pub closed_by : (q : Bool) (is : List Item) → AreNormal q (rows_of is) → AllHaveTerms is → Rises (rows_of is) → AllApart (rows_of is) (rows_of is) → cut_at (is_to_take is) is ≡ None → IsClosed q (rows_of is)
closed_by q is n f r a c = record {
  normal = ⊎_elim (λ e. absurd (not_false_alone is e f)) (λ h. h) n;
  rises = r;
  apart = a;
  own = own_of_cut is is c;
}

-- ---- what a place of the table says

pub lacks_found : (v : Var) (table : List ℕ) (is : List Item) (home at : ℕ) (i : Item) → Homed table is → length is ≤ 512 → slice_index table (place_of v) ≡ home → 0 < home → home ≤ length is → suc at ≡ home → i ≡ get_or is at i → occurs v i.row ≡ false → AllWithout v is
lacks_found v table is home at i h m e p l s x o =
    let y : slice_index table (place_of v) ≡ suc at = e ∙ sym s in
    let b : at < length is = omega (arith, l, s) in
    let z : row_at is at ≡ i.row = ap (λ (j : Item). j.row) (sym (x ∙ get_or_default is at i false_item b)) in
    lacks_at v is at (only_at v table is at h m y b) (ap (occurs v) z ∙ o)
