-- The parts of a row, one after the other.
use Rattle.std.proofs.Common.{◌≡◌, ℕ, Bool, true, List, ℤ, pos, neg_ℤ, ap, sym, ◌∙◌, subst}
use Rattle.std.specs.Int.{int_div_euclid}
use Rattle.affine_systems.specs.declared.row.Term.{Term}
use Rattle.affine_systems.specs.Terms.{negated_terms}
use Rattle.affine_systems.specs.Rows.{row}
use Rattle.affine_systems.specs.Normal.{divided, last_is_negative, turned_divided}

same_row : (e : Bool) (us vs : List Term) (x y : ℤ) → us ≡ vs → x ≡ y → row e us x ≡ row e vs y
same_row e us vs x y h k = λ i. row e (h i) (k i)

pub turned_is : (e : Bool) (ts us vs : List Term) (b x y : ℤ) (g : ℕ) → e ≡ true → us ≡ divided g ts → last_is_negative us ≡ true → vs ≡ negated_terms us → x ≡ int_div_euclid b (pos g) → y ≡ neg_ℤ x → row e vs y ≡ turned_divided g (row e ts b)
turned_is e ts us vs b x y g h a l n c d =
    let m : last_is_negative (divided g ts) ≡ true = ap last_is_negative (sym a) ∙ l in
    let r = same_row true vs (negated_terms (divided g ts)) y (neg_ℤ (int_div_euclid b (pos g))) (n ∙ ap negated_terms a) (d ∙ ap neg_ℤ c) in
    subst (λ (f : Bool). row f vs y ≡ turned_divided g (row f ts b)) (sym h) (rw m r)
