-- Loops over two lists of terms.
use Rattle.std.proofs.Common.{◌≡◌, ◌≢◌, ℕ, suc, ◌+◌, ◌<◌, ◌≤◌, Bool, true, false, ◌&&◌, List, [], ◌∷◌, length, drop, get_or, add-one, drop-cons, drop_of_length-le, arith, ap, ap₂, refl, ◌∙◌, Ordering}
use Rattle.std.specs.declared.cmp.Ordering.TheVariants.{Less, Equal, Greater}
use Rattle.std.specs.Ordering.{ordering_then, int_cmp}
use Rattle.affine_systems.specs.declared.row.Term.{Term}
use Rattle.affine_systems.specs.Terms.{are_opposite_terms, is_opposite}
use Rattle.affine_systems.specs.Rows.{var_cmp, vars_cmp, factors_cmp}

split_both : {A : Type 0} (f : List Term → List Term → A) (ts us : List Term) (i : ℕ) (d : Term) → i < length ts → length us ≡ length ts → f (drop i ts) (drop i us) ≡ f (get_or ts i d ∷ drop (suc i) ts) (get_or us i d ∷ drop (suc i) us)
split_both f ts us i d h e = ap₂ f (drop-cons ts i d h) (drop-cons us i d (omega arith))

end_both : {A : Type 0} (f : List Term → List Term → A) (ts us : List Term) (i : ℕ) → length ts ≤ i → length us ≡ length ts → f (drop i ts) (drop i us) ≡ f [] []
end_both f ts us i h e = ap₂ f (drop_of_length-le ts h) (drop_of_length-le us (omega arith))

then-first : (a b : Ordering) → a ≢ Equal → ordering_then a b ≡ a
then-first Less b n = refl
then-first Equal b n = absurd (n refl)
then-first Greater b n = refl

then-next : (a b : Ordering) → a ≡ Equal → ordering_then a b ≡ b
then-next a b e = ap (λ o. ordering_then o b) e

pub vars_cmp-same : (ts us : List Term) (i : ℕ) (d : Term) → i < length ts → length us ≡ length ts → var_cmp (get_or ts i d).var (get_or us i d).var ≡ Equal → vars_cmp (drop i ts) (drop i us) ≡ vars_cmp (drop (i + 1) ts) (drop (i + 1) us)
vars_cmp-same ts us i d h e o = rw (add-one i) (split_both vars_cmp ts us i d h e ∙ then-next (var_cmp (get_or ts i d).var (get_or us i d).var) (vars_cmp (drop (suc i) ts) (drop (suc i) us)) o)

pub vars_cmp-found : (ts us : List Term) (i : ℕ) (d : Term) → i < length ts → length us ≡ length ts → var_cmp (get_or ts i d).var (get_or us i d).var ≢ Equal → vars_cmp (drop i ts) (drop i us) ≡ var_cmp (get_or ts i d).var (get_or us i d).var
vars_cmp-found ts us i d h e o = split_both vars_cmp ts us i d h e ∙ then-first (var_cmp (get_or ts i d).var (get_or us i d).var) (vars_cmp (drop (suc i) ts) (drop (suc i) us)) o

pub vars_cmp-end : (ts us : List Term) (i : ℕ) → length ts ≤ i → length us ≡ length ts → vars_cmp (drop i ts) (drop i us) ≡ Equal
vars_cmp-end ts us i h e = end_both vars_cmp ts us i h e

pub ruleset vars_loop = (vars_cmp-same, vars_cmp-found, vars_cmp-end)

pub factors_cmp-same : (ts us : List Term) (i : ℕ) (d : Term) → i < length ts → length us ≡ length ts → int_cmp (get_or ts i d).factor (get_or us i d).factor ≡ Equal → factors_cmp (drop i ts) (drop i us) ≡ factors_cmp (drop (i + 1) ts) (drop (i + 1) us)
factors_cmp-same ts us i d h e o = rw (add-one i) (split_both factors_cmp ts us i d h e ∙ then-next (int_cmp (get_or ts i d).factor (get_or us i d).factor) (factors_cmp (drop (suc i) ts) (drop (suc i) us)) o)

pub factors_cmp-found : (ts us : List Term) (i : ℕ) (d : Term) → i < length ts → length us ≡ length ts → int_cmp (get_or ts i d).factor (get_or us i d).factor ≢ Equal → factors_cmp (drop i ts) (drop i us) ≡ int_cmp (get_or ts i d).factor (get_or us i d).factor
factors_cmp-found ts us i d h e o = split_both factors_cmp ts us i d h e ∙ then-first (int_cmp (get_or ts i d).factor (get_or us i d).factor) (factors_cmp (drop (suc i) ts) (drop (suc i) us)) o

pub factors_cmp-end : (ts us : List Term) (i : ℕ) → length ts ≤ i → length us ≡ length ts → factors_cmp (drop i ts) (drop i us) ≡ Equal
factors_cmp-end ts us i h e = end_both factors_cmp ts us i h e

pub ruleset factors_loop = (factors_cmp-same, factors_cmp-found, factors_cmp-end)

pub opposite-same : (ts us : List Term) (i : ℕ) (d : Term) → i < length ts → length us ≡ length ts → is_opposite (get_or ts i d) (get_or us i d) ≡ true → are_opposite_terms (drop i ts) (drop i us) ≡ are_opposite_terms (drop (i + 1) ts) (drop (i + 1) us)
opposite-same ts us i d h e v =
    rw (add-one i) (split_both are_opposite_terms ts us i d h e ∙ ap (λ a. a && are_opposite_terms (drop (suc i) ts) (drop (suc i) us)) v)

pub opposite-other : (ts us : List Term) (i : ℕ) (d : Term) → i < length ts → length us ≡ length ts → is_opposite (get_or ts i d) (get_or us i d) ≡ false → are_opposite_terms (drop i ts) (drop i us) ≡ false
opposite-other ts us i d h e v =
    split_both are_opposite_terms ts us i d h e ∙ ap (λ a. a && are_opposite_terms (drop (suc i) ts) (drop (suc i) us)) v

pub opposite-end : (ts us : List Term) (i : ℕ) → length ts ≤ i → length us ≡ length ts → are_opposite_terms (drop i ts) (drop i us) ≡ true
opposite-end ts us i h e = end_both are_opposite_terms ts us i h e

pub ruleset opposite_loop = (opposite-same, opposite-other, opposite-end)

-- lists of two lengths are not opposite
pub opposite-lengths : (ts us : List Term) → length ts ≢ length us → are_opposite_terms ts us ≡ false
opposite-lengths [] [] n = absurd (n refl)
opposite-lengths [] (u ∷ us) n = refl
opposite-lengths (t ∷ ts) [] n = refl
opposite-lengths (t ∷ ts) (u ∷ us) n =
    let ih : are_opposite_terms ts us ≡ false = opposite-lengths ts us (λ e. n (ap suc e)) in
    ap (λ b. is_opposite t u && b) ih ∙ and_false (is_opposite t u)
  where
    and_false : (a : Bool) → (a && false) ≡ false
    and_false true = refl
    and_false false = refl

pub ruleset opposite_lengths = opposite-lengths
