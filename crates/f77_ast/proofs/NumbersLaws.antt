-- Names with their numbers, one name more, and the index of names.
use Rattle.std.proofs.Common.{◌≡◌, ℕ, suc, ◌+◌, ◌-◌, Bool, true, false, List, [], ◌∷◌, ◌++◌, length, Option, Some, None, refl, sym, ap, ◌∙◌, subst, arith, Vec, Global}
use Rattle.std.proofs.lemmas.List.{length-append}
use Rattle.std.specs.Prelude.{if◌then◌else◌, bytes_eq, is_some}
use Rattle.std.specs.Cmp.Lexicographic.{bytes_decides, nat_list_eq_equiv}
use Rattle.std.specs.HashMap.{HashMap, get_by, Updates}
use Rattle.std.specs.Map.{KeepsOthers}
use Rattle.std.specs.declared.hash.FoldHasher.{FoldHasher}
use Rattle.std.specs.declared.hash.BuildHasherDefault.{BuildHasherDefault}
use Rattle.f77_ast.specs.Symbols.{number_from}
use Rattle.f77_ast.specs.declared.name_index.NameIndex.{NameIndex}
use Rattle.f77_ast.specs.Index.{Indexes, number_in}
use Rattle.f77_ast.proofs.MapLaws.{same_key}
use Rattle.fx_lists.proofs.Options.{not_found}

differs : (x q y : List ℕ) → bytes_eq x y ≡ false → bytes_eq x q ≡ true → bytes_eq q y ≡ false
differs x q y n e = sym (nat_list_eq_equiv.congr x q y e) ∙ n

none_here : (n : ℕ) (b : Bool) (o : Option ℕ) → (if b then Some n else o) ≡ None → (b ≡ false) × (o ≡ None)
none_here n true o e = cc
none_here n false o e = (refl, e)

pub number_from-append : (n : ℕ) (ys : List (List ℕ)) (x q : List ℕ) → number_from n ys x ≡ None → number_from n (ys ++ x ∷ []) q ≡ (if bytes_eq x q then Some (n + length ys) else number_from n ys q)
number_from-append n [] x q e = ap (λ b. if b then Some n else None) (nat_list_eq_equiv.symm q x) ∙ (let z : n ≡ n + 0 = omega arith in ap (λ k. if bytes_eq x q then Some k else None) z)
number_from-append n (y ∷ ys) x q e =
    let none = none_here n (bytes_eq x y) (number_from (suc n) ys x) e in
    ap (λ o. if bytes_eq q y then Some n else o) (number_from-append (suc n) ys x q none.1) ∙ go (bytes_eq x q) (bytes_eq q y) (differs x q y none.0)
  where
    go : (b c : Bool) → (b ≡ true → c ≡ false) → (if c then Some n else if b then Some (suc n + length ys) else number_from (suc n) ys q) ≡ (if b then Some (n + suc (length ys)) else if c then Some n else number_from (suc n) ys q)
    go true true h = let z : true ≡ false = h refl in cc
    go true false h = let z : suc n + length ys ≡ n + suc (length ys) = omega arith in ap Some z
    go false c h = refl

-- ---- a name that is there keeps its number

unless_same : (b : Bool) (n : ℕ) (o p : Option ℕ) → (b ≡ false → o ≡ p) → (if b then Some n else o) ≡ (if b then Some n else p)
unless_same true n o p h = refl
unless_same false n o p h = h refl

number_from-other : (n : ℕ) (ys : List (List ℕ)) (x q : List ℕ) → bytes_eq q x ≡ false → number_from n (ys ++ x ∷ []) q ≡ number_from n ys q
number_from-other n [] x q e = ap (λ b. if b then Some n else None) e
number_from-other n (y ∷ ys) x q e = ap (λ o. if bytes_eq q y then Some n else o) (number_from-other (suc n) ys x q e)

pub number_from-again : (n k : ℕ) (ys : List (List ℕ)) (x q : List ℕ) → number_from n ys x ≡ Some k → number_from n (ys ++ x ∷ []) q ≡ number_from n ys q
number_from-again n k [] x q e = cc
number_from-again n k (y ∷ ys) x q e =
    unless_same (bytes_eq q y) n _ _ (λ s. go (bytes_eq x y) refl e s (λ r. number_from-again (suc n) k ys x q r))
  where
    go : (b : Bool) → bytes_eq x y ≡ b → (if b then Some n else number_from (suc n) ys x) ≡ Some k → bytes_eq q y ≡ false → (number_from (suc n) ys x ≡ Some k → number_from (suc n) (ys ++ x ∷ []) q ≡ number_from (suc n) ys q) → number_from (suc n) (ys ++ x ∷ []) q ≡ number_from (suc n) ys q
    go true t r s ih = number_from-other (suc n) ys x q (nat_list_eq_equiv.symm q x ∙ nat_list_eq_equiv.congr x y q t ∙ nat_list_eq_equiv.symm y q ∙ s)
    go false t r s ih = ih r

-- ---- the table

module _ (m n : HashMap (Vec ℕ Global) ℕ (BuildHasherDefault FoldHasher)) (k : Vec ℕ Global) (w : Option ℕ) where
  others_stay : KeepsOthers same_key (same_key k) m.entries n.entries → (q : List ℕ) → bytes_eq k.items q ≡ false → get_by (λ l. bytes_eq q l.items) n ≡ get_by (λ l. bytes_eq q l.items) m
  unfolding KeepsOthers
  others_stay h q e =
      h (λ l. bytes_eq q l.items) (λ a b. nat_list_eq_equiv.congr q a.items b.items)
      (λ l t. nat_list_eq_equiv.symm q l.items ∙ sym (nat_list_eq_equiv.congr k.items l.items q t) ∙ e)

  pub inserted : Updates same_key m n k w → (q : List ℕ) → get_by (λ l. bytes_eq q l.items) n ≡ (if bytes_eq k.items q then w else get_by (λ l. bytes_eq q l.items) m)
  inserted h q = go (bytes_eq k.items q) refl
    where
      go : (b : Bool) → bytes_eq k.items q ≡ b → get_by (λ l. bytes_eq q l.items) n ≡ (if b then w else get_by (λ l. bytes_eq q l.items) m)
      go true e = subst (λ r. get_by (λ l. bytes_eq r l.items) n ≡ w) ((bytes_decides k.items q).0 e) h.1
      go false e = others_stay h.3 q e

-- ---- the index

found : (ys : List (List ℕ)) (x : List ℕ) (o : Option ℕ) → o ≡ number_from 1 ys x → is_some o ≡ true → (q : List ℕ) → number_from 1 ys q ≡ number_from 1 (ys ++ x ∷ []) q
found ys x (Some k) e t q = sym (number_from-again 1 k ys x q (sym e))
found ys x None e t q = cc

module _ (i j : NameIndex) (names : List (List ℕ)) (k : Vec ℕ Global) (are : Indexes i names) (next : j.count ≡ i.count + 1) where
  one_more : j.count ≡ length (names ++ k.items ∷ [])
  one_more = omega (arith, next, are.count, length-append names (k.items ∷ []))

  -- a name that is there
  pub indexes_again : j.numbers ≡ i.numbers → is_some (number_in i k.items) ≡ true → Indexes j (names ++ k.items ∷ [])
  indexes_again same t = record {
    count = one_more;
    numbers = λ q. ap (λ m. get_by (λ l. bytes_eq q l.items) m) same ∙ are.numbers q ∙ found names k.items (number_in i k.items) (are.numbers k.items) t q;
  }

  -- a name that is new
  pub indexes_after : Updates same_key i.numbers j.numbers k (Some j.count) → is_some (number_in i k.items) ≡ false → Indexes j (names ++ k.items ∷ [])
  indexes_after h t =
      let none : number_from 1 names k.items ≡ None = sym (are.numbers k.items) ∙ not_found (number_in i k.items) t in
      let z : j.count ≡ 1 + length names = omega (arith, next, are.count) in
      record {
        count = one_more;
        numbers = λ q. inserted i.numbers j.numbers k (Some j.count) h q
            ∙ ap (λ r. if bytes_eq k.items q then Some j.count else r) (are.numbers q)
            ∙ ap (λ r. if bytes_eq k.items q then Some r else number_from 1 names q) z
            ∙ sym (number_from-append 1 names k.items q none);
      }

-- ---- places

abbrev pub one_less : Option ℕ → Option ℕ
one_less None = None
one_less (Some k) = Some (k - 1)

-- counted from one less, each number is one less
pub number_from-suc : (n : ℕ) (ys : List (List ℕ)) (x : List ℕ) → one_less (number_from (suc n) ys x) ≡ number_from n ys x
number_from-suc n [] x = refl
number_from-suc n (y ∷ ys) x = go (bytes_eq x y) (number_from-suc (suc n) ys x)
  where
    go : (b : Bool) → one_less (number_from (suc (suc n)) ys x) ≡ number_from (suc n) ys x → one_less (if b then Some (suc n) else number_from (suc (suc n)) ys x) ≡ (if b then Some n else number_from (suc n) ys x)
    go true e = let z : suc n - 1 ≡ n = omega arith in ap Some z
    go false e = e
