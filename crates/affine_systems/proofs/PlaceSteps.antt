-- Steps of the loops that fill tables, and what an empty place says.
use Rattle.std.proofs.Common.{◌≡◌, ℕ, zero, suc, ◌+◌, ◌*◌, ◌<◌, ◌≤◌, ◌≢◌, Bool, true, false, not, ◌&&◌, ◌||◌, List, [], ◌∷◌, ◌++◌, length, take, drop, get_or, take_all, drop-cons, drop_of_length-le, add-one, ◌⊎◌, inl, inr, ⊎_elim, ℤ, pos, negsuc, neg_ℤ, unsigned_abs, int_eq, int_lt, arith, ap, ap₂, refl, sym, subst, ◌∙◌}
use Rattle.std.specs.Prelude.{◌%◌, if◌then◌else◌, min, nat_lt, slice_index}
use Rattle.std.proofs.lemmas.List.{take_more}
use Rattle.std.proofs.lemmas.Int.{ints}
use Rattle.std.proofs.lemmas.Bool.{cases_Bool, cases_eq, and_parts, or_parts, false_from_ne_true}
use Rattle.std.proofs.lemmas.Bool.Decides.{Decides-ltb, Decides-int_eq}
use Rattle.affine_systems.specs.declared.row.Var.{Var}
use Rattle.affine_systems.specs.declared.row.Term.{Term}
use Rattle.affine_systems.specs.declared.row.Row.{Row}
use Rattle.affine_systems.specs.declared.items.Item.{Item}
use Rattle.affine_systems.specs.Terms.{var_eq, is_opposite, are_opposite_terms, has_no_terms, Ascends}
use Rattle.affine_systems.specs.Points.{factor_of, occurs}
use Rattle.affine_systems.specs.Items.{AllItems}
use Rattle.affine_systems.specs.Normal.{last_is_negative}
use Rattle.affine_systems.specs.Tidy.{times, are_opposite, against, face_opposite}
use Rattle.affine_systems.specs.Places.{place_of, has_var, Noted, Covers, key_after, key_of, side_of, far_side_of, Sided, may_face}
use Rattle.affine_systems.proofs.TermLaws.{var_eq-true}
use Rattle.affine_systems.proofs.LastLaws.{append_items}
use Rattle.affine_systems.proofs.AscendLaws.{factor_of-nil, factor_of-there}
use Rattle.fx_lists.proofs.Numbers.{size_turned, is_number}
use Rattle.fx_lists.proofs.Booleans.{not_true, clash}

-- ---- variables of terms

absent : (v : Var) (ts : List Term) → has_var v ts ≡ false → factor_of v ts ≡ pos 0
absent v [] e = factor_of-nil v
absent v (t ∷ ts) e = let h = or_parts (var_eq v t.var) (has_var v ts) e in factor_of-there v t ts h.0 ∙ absent v ts h.1

pub has_of_occurs : (v : Var) (r : Row) → occurs v r ≡ true → has_var v r.terms ≡ true
has_of_occurs v r e = ⊎_elim (λ t. t) (λ f. clash (occurs v r) e (ap (λ z. not (int_eq z (pos 0))) (absent v r.terms f))) (cases_Bool (has_var v r.terms))

pub has_pushed : (v : Var) (ts : List Term) (t : Term) → has_var v (ts ++ t ∷ []) ≡ true → (has_var v ts ≡ true) ⊎ (var_eq v t.var ≡ true)
has_pushed v [] t e = go (var_eq v t.var) e where
  go : (b : Bool) → (b || false) ≡ true → (false ≡ true) ⊎ (b ≡ true)
  go true h = inr refl
  go false h = inl h
has_pushed v (u ∷ us) t e = go (var_eq v u.var) (λ h. has_pushed v us t h) e where
  go : (b : Bool) → (has_var v (us ++ t ∷ []) ≡ true → (has_var v us ≡ true) ⊎ (var_eq v t.var ≡ true)) → (b || has_var v (us ++ t ∷ [])) ≡ true → ((b || has_var v us) ≡ true) ⊎ (var_eq v t.var ≡ true)
  go true f h = inl refl
  go false f h = f h

-- ---- variables noted in a table

-- no number is less where one is raised
pub raised_kept : (old new : List ℕ) (at b : ℕ) → slice_index new at ≡ suc (slice_index old at) → ((n : ℕ) → n ≢ at → slice_index new n ≡ slice_index old n) → slice_index old b ≤ slice_index new b
raised_kept old new at b h o =
    ⊎_elim
    (λ e. let x : slice_index old at ≤ slice_index new at = omega (arith, h) in subst (λ n. slice_index old n ≤ slice_index new n) (sym e) x)
    (λ e. let x = o b e in omega (arith, x))
    (cases_eq b at)

pub noted_none : (t : List ℕ) → Noted t t []
noted_none t = record { kept = λ b. omega arith; more = λ v e. clash false e refl }

pub noted_more : (old now new : List ℕ) (ts : List Term) (k : ℕ) (d : Term) → k < length ts → Noted old now (take k ts) → ((b : ℕ) → slice_index now b ≤ slice_index new b) → min 2 (suc (slice_index now (place_of (get_or ts k d).var))) ≤ slice_index new (place_of (get_or ts k d).var) → Noted old new (take (k + 1) ts)
noted_more old now new ts k d l n g h = record {
  kept = λ b. let x = n.kept b in let y = g b in omega (arith, x, y);
  more = λ v e. ⊎_elim
      (λ p. let x = n.more v p in let y = g (place_of v) in omega (arith, x, y))
      (λ p. let q : v ≡ (get_or ts k d).var = var_eq-true v (get_or ts k d).var p in
      let x = n.kept (place_of v) in
      let y : min 2 (suc (slice_index now (place_of v))) ≤ slice_index new (place_of v) = subst (λ (w : Var). min 2 (suc (slice_index now (place_of w))) ≤ slice_index new (place_of w)) (sym q) h in
      omega (arith, x, y))
      (has_pushed v (take k ts) (get_or ts k d) (ap (has_var v) (sym (take_more ts k d l)) ∙ e));
}

pub noted_end : (old new : List ℕ) (ts : List Term) (k : ℕ) → length ts ≤ k → Noted old new (take k ts) → Noted old new ts
noted_end old new ts k l n = subst (λ us. Noted old new us) (take_all k ts l) n

-- ---- how many rows have a variable

-- at each place what the rows have there, up to 2
pub record Counted (table : List ℕ) (is : List Item) : Type 0 where
  pub least : (v : Var) → min 2 (times v is) ≤ slice_index table (place_of v)

times-pushed : (v : Var) (is : List Item) (i : Item) → occurs v i.row ≡ true → times v (is ++ i ∷ []) ≡ suc (times v is)
times-pushed v [] i e = ap (λ b. if b then 1 else 0) e
times-pushed v (j ∷ js) i e = go (occurs v j.row) (times-pushed v js i e) where
  go : (b : Bool) → times v (js ++ i ∷ []) ≡ suc (times v js) → (if b then suc (times v (js ++ i ∷ [])) else times v (js ++ i ∷ [])) ≡ suc (if b then suc (times v js) else times v js)
  go true h = ap suc h
  go false h = h

times-passed : (v : Var) (is : List Item) (i : Item) → occurs v i.row ≡ false → times v (is ++ i ∷ []) ≡ times v is
times-passed v [] i e = ap (λ b. if b then 1 else 0) e
times-passed v (j ∷ js) i e = go (occurs v j.row) (times-passed v js i e) where
  go : (b : Bool) → times v (js ++ i ∷ []) ≡ times v js → (if b then suc (times v (js ++ i ∷ [])) else times v (js ++ i ∷ [])) ≡ (if b then suc (times v js) else times v js)
  go true h = ap suc h
  go false h = h

pub counted_none : (t : List ℕ) → Counted t []
counted_none t = record { least = λ v. let z : times v [] ≡ 0 = refl in omega (arith, z) }

pub counted_more : (old new : List ℕ) (is : List Item) (k : ℕ) (i : Item) → k < length is → i ≡ get_or is k i → Counted old (take k is) → Noted old new i.row.terms → Counted new (take (k + 1) is)
counted_more old new is k i l e c n = record {
  least = λ v.
      let s : take (k + 1) is ≡ take k is ++ i ∷ [] = take_more is k i l ∙ ap (λ (j : Item). take k is ++ j ∷ []) (sym e) in
      let x = c.least v in
      ⊎_elim
      (λ o. let t : times v (take (k + 1) is) ≡ suc (times v (take k is)) = ap (times v) s ∙ times-pushed v (take k is) i o in
      let y = n.more v (has_of_occurs v i.row o) in
      omega (arith, x, y, t))
      (λ o. let t : times v (take (k + 1) is) ≡ times v (take k is) = ap (times v) s ∙ times-passed v (take k is) i o in
      let y = n.kept (place_of v) in
      omega (arith, x, y, t))
      (cases_Bool (occurs v i.row));
}

pub counted_end : (table : List ℕ) (is : List Item) (k : ℕ) → length is ≤ k → Counted table (take k is) → Covers table is
counted_end table is k l c = record {
  twice = λ v e.
      let h : 1 < times v is = (Decides-ltb 1 (times v is)).0 e in
      let x = c.least v in
      let s : times v (take k is) ≡ times v is = ap (times v) (take_all k is l) in
      omega (arith, h, x, s);
}

-- a variable whose place has less than 2 is in one row at most
pub few_rows : (table : List ℕ) (is : List Item) (v : Var) → Covers table is → nat_lt (slice_index table (place_of v)) 2 ≡ true → nat_lt 1 (times v is) ≡ false
few_rows table is v c h =
    let y : slice_index table (place_of v) < 2 = (Decides-ltb (slice_index table (place_of v)) 2).0 h in
    false_from_ne_true (nat_lt 1 (times v is)) (λ t. let x = c.twice v t in omega (arith, x, y))

-- ---- the places of rows

abbrev pub IsAt : List ℕ → Item → Type 0
IsAt table i = 1 ≤ slice_index table (side_of i.row.terms)

still : (m n : ℕ) → 1 ≤ m → m ≤ n → 1 ≤ n
still m n h l = omega (arith, h, l)

raised : (old new : List ℕ) → ((b : ℕ) → slice_index old b ≤ slice_index new b) → (is : List Item) → AllItems (IsAt old) is → AllItems (IsAt new) is
raised old new g [] h = tt
raised old new g (i ∷ is) h = (still (slice_index old (side_of i.row.terms)) (slice_index new (side_of i.row.terms)) h.0 (g (side_of i.row.terms)), raised old new g is h.1)

pub sided_none : (table : List ℕ) → Sided table []
sided_none table = record { each = tt }

pub sided_more : (old new : List ℕ) (is : List Item) (k : ℕ) (i : Item) → k < length is → i ≡ get_or is k i → Sided old (take k is) → ((b : ℕ) → slice_index old b ≤ slice_index new b) → 1 ≤ slice_index new (side_of i.row.terms) → Sided new (take (k + 1) is)
sided_more old new is k i l e s g h =
    let t : take (k + 1) is ≡ take k is ++ i ∷ [] = take_more is k i l ∙ ap (λ (j : Item). take k is ++ j ∷ []) (sym e) in
    record { each = subst (AllItems (IsAt new)) (sym t) (append_items (IsAt new) (take k is) (i ∷ []) (raised old new g (take k is) s.each) (h, tt)) }

pub sided_end : (table : List ℕ) (is : List Item) (k : ℕ) → length is ≤ k → Sided table (take k is) → Sided table is
sided_end table is k l s = subst (λ js. Sided table js) (take_all k is l) s

-- opposite rows share the number of their variables, and their last factors have opposite signs

pub key-more : (n : ℕ) (ts : List Term) (k : ℕ) (d : Term) → k < length ts → key_of n (drop k ts) ≡ key_of (key_after n (get_or ts k d)) (drop (k + 1) ts)
key-more n ts k d h = rw (add-one k) (ap (key_of n) (drop-cons ts k d h))

pub key-end : (n : ℕ) (ts : List Term) (k : ℕ) → length ts ≤ k → key_of n (drop k ts) ≡ n
key-end n ts k h = ap (key_of n) (drop_of_length-le ts h)

size_of_less : (n : ℕ) → unsigned_abs (neg_ℤ (pos n)) ≡ n
size_of_less zero = refl
size_of_less (suc n) = refl

same_key : (n : ℕ) (t u : Term) → is_opposite t u ≡ true → key_after n t ≡ key_after n u
unfolding key_after
same_key n t u o =
    let p = and_parts (var_eq t.var u.var) (int_eq t.factor (neg_ℤ u.factor)) o in
    let f : unsigned_abs t.factor ≡ unsigned_abs u.factor = ap unsigned_abs (is_number t.factor (neg_ℤ u.factor) p.1) ∙ size_turned u.factor in
    ap₂ (λ (v : Var) (m : ℕ). (31 * n + 7 * (m % 256) + place_of v) % 2048) (var_eq-true t.var u.var p.0) f

keys : (n : ℕ) (ts us : List Term) → are_opposite_terms ts us ≡ true → key_of n ts ≡ key_of n us
keys n [] [] o = refl
keys n [] (u ∷ us) o = cc
keys n (t ∷ ts) [] o = cc
keys n (t ∷ ts) (u ∷ us) o =
    let p = and_parts (is_opposite t u) (are_opposite_terms ts us) o in
    ap (λ m. key_of m ts) (same_key n t u p.0) ∙ keys (key_after n u) ts us p.1

signs : (x y : ℤ) → x ≡ neg_ℤ y → int_eq x (pos 0) ≡ false → int_lt y (pos 0) ≡ not (int_lt x (pos 0))
signs x y h z = go (int_lt x (pos 0)) (int_lt y (pos 0)) refl refl where
  go : (a b : Bool) → int_lt x (pos 0) ≡ a → int_lt y (pos 0) ≡ b → b ≡ not a
  go true true p q = absurd (omega (arith, ints, h, p, q))
  go true false p q = refl
  go false true p q = refl
  go false false p q = let e : x ≡ pos 0 = omega (arith, ints, h, p, q) in clash (int_eq x (pos 0)) ((Decides-int_eq x (pos 0)).1 e) z

last_signs : (ts us : List Term) → Ascends ts → has_no_terms ts ≡ false → are_opposite_terms ts us ≡ true → last_is_negative us ≡ not (last_is_negative ts)
last_signs [] us a n o = cc
last_signs (t ∷ ts) [] a n o = cc
last_signs (t ∷ []) (u ∷ []) a n o =
    let h = and_parts (is_opposite t u) true o in
    let k = and_parts (var_eq t.var u.var) (int_eq t.factor (neg_ℤ u.factor)) h.0 in
    signs t.factor u.factor (is_number t.factor (neg_ℤ u.factor) k.1) a.0
last_signs (t ∷ []) (u ∷ (w ∷ ws)) a n o = let h = and_parts (is_opposite t u) false o in cc (h.1)
last_signs (t ∷ (x ∷ xs)) (u ∷ []) a n o = let h = and_parts (is_opposite t u) false o in cc (h.1)
last_signs (t ∷ (x ∷ xs)) (u ∷ (w ∷ ws)) a n o =
    let h = and_parts (is_opposite t u) (are_opposite_terms (x ∷ xs) (w ∷ ws)) o in
    last_signs (x ∷ xs) (w ∷ ws) a.2 refl h.1

sides_meet : (ts us : List Term) → Ascends ts → has_no_terms ts ≡ false → are_opposite_terms ts us ≡ true → side_of us ≡ far_side_of ts
sides_meet ts us a n o = go (last_is_negative ts) (last_is_negative us) (key_of 0 ts) (key_of 0 us) (last_signs ts us a n o) (keys 0 ts us o) where
  go : (b c : Bool) (m n : ℕ) → c ≡ not b → m ≡ n → (if c then 2048 + n else n) ≡ (if b then m else 2048 + m)
  go true true m n e h = cc
  go true false m n e h = sym h
  go false true m n e h = ap (λ k. 2048 + k) (sym h)
  go false false m n e h = cc

may_parts : (e b c : Bool) → e ≡ false → (not e && (b || c)) ≡ false → (b ≡ false) × (c ≡ false)
may_parts true b c h m = clash true refl h
may_parts false b c h m = or_parts b c m

pub apart : (table : List ℕ) (r s : Row) → Ascends r.terms → may_face table r ≡ false → 1 ≤ slice_index table (side_of s.terms) → are_opposite r s ≡ false
apart table r s a m h =
    false_from_ne_true (are_opposite r s) (λ o.
    let p = and_parts (not (r.equal || s.equal)) (are_opposite_terms r.terms s.terms) o in
    let q = or_parts r.equal s.equal (not_true (r.equal || s.equal) p.0) in
    let far = slice_index table (far_side_of r.terms) in
    let z = may_parts r.equal (has_no_terms r.terms) (nat_lt 0 far) q.0 m in
    let x : 1 ≤ far = subst (λ n. 1 ≤ slice_index table n) (sides_meet r.terms s.terms a z.0 p.1) h in
    clash (nat_lt 0 far) ((Decides-ltb 0 far).1 (omega (arith, x))) z.1)

-- a row whose opposites have an empty place has none
pub unfaced : (table : List ℕ) (i : Item) (is : List Item) → Ascends i.row.terms → Sided table is → may_face table i.row ≡ false → (n : ℕ) → face_opposite n i is ≡ i
unfaced table i is a s m n = go is s.each where
  go : (js : List Item) → AllItems (IsAt table) js → face_opposite n i js ≡ i
  go [] h = refl
  go (j ∷ js) h = ap (λ b. if b then against n i j else face_opposite n i js) (apart table i.row j.row a m h.0) ∙ go js h.1
