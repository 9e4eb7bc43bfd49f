-- Steps of the loops that number items, eliminate, and iteration signs.
use Rattle.std.proofs.Common.{◌≡◌, ℕ, suc, ◌+◌, ◌<◌, ◌≤◌, List, [], ◌∷◌, ◌++◌, length, drop, get_or, reverse, drop-cons, drop_of_length-le, add-one, append-nil, append_assoc, arith, ap, ap₂, sym, ◌∙◌, neg_ℤ}
use Rattle.affine_systems.specs.declared.row.Var.{Var}
use Rattle.affine_systems.specs.declared.row.Term.{Term}
use Rattle.affine_systems.specs.declared.items.Item.{Item}
use Rattle.hull_projection.specs.declared.eliminations.Left.{Left}
use Rattle.hull_projection.specs.declared.projection.Shadow.{Shadow}
use Rattle.std.specs.Prelude.{Bool}
use Rattle.affine_systems.specs.Terms.{term, negated_terms}
use Rattle.affine_systems.specs.Eliminate.{eliminate_item, eliminate}
use Rattle.hull_projection.specs.Refute.{as_original, with_originals, left_after, eliminate_all}
use Rattle.hull_projection.specs.Project.{shadow_after, eliminate_each}
use Rattle.affine_systems.proofs.ItemSteps.{popped}

pub originals-push : (n : ℕ) (is : List Item) (i : Item) → with_originals n (is ++ i ∷ []) ≡ with_originals n is ++ as_original (n + length is) i ∷ []
originals-push n [] i = let z : n ≡ n + 0 = omega arith in ap (λ m. as_original m i ∷ []) z
originals-push n (j ∷ js) i =
    let z : suc n + length js ≡ n + suc (length js) = omega arith in
    ap (λ (is : List Item). as_original n j ∷ is) (originals-push (suc n) js i ∙ ap (λ m. with_originals (suc n) js ++ as_original m i ∷ []) z)

-- items taken from the end, and those pushed for them
pub originals-more : (left more all out new : List Item) (i : Item) (n : ℕ) → left ≡ more ++ i ∷ [] → n ≡ length more → new ≡ out ++ as_original n i ∷ [] → with_originals 0 left ++ reverse out ≡ with_originals 0 all → with_originals 0 more ++ reverse new ≡ with_originals 0 all
originals-more left more all out new i n e m p h =
    let z : n ≡ 0 + length more = omega arith in
    ap (λ is. with_originals 0 more ++ is) (popped new out (as_original n i) p)
    ∙ (sym (append_assoc (with_originals 0 more) (as_original n i ∷ []) (reverse out))
    ∙ (ap (λ is. is ++ reverse out) (ap (λ k. with_originals 0 more ++ as_original k i ∷ []) z ∙ (sym (originals-push 0 more i) ∙ ap (with_originals 0) (sym e))) ∙ h))

pub all-more : (q : Bool) (s t goal : Left) (vs : List Var) (i : ℕ) (d : Var) → i < length vs → t ≡ left_after s (eliminate_item q (get_or vs i d) s.items) → eliminate_all q s (drop i vs) ≡ goal → eliminate_all q t (drop (i + 1) vs) ≡ goal
all-more q s t goal vs i d l e h =
    ap₂ (λ (x : Left) n. eliminate_all q x (drop n vs)) e (add-one i) ∙ (sym (ap (eliminate_all q s) (drop-cons vs i d l)) ∙ h)

pub all-end : (q : Bool) (s goal : Left) (vs : List Var) (i : ℕ) → length vs ≤ i → eliminate_all q s (drop i vs) ≡ goal → s ≡ goal
all-end q s goal vs i l h = sym (ap (eliminate_all q s) (drop_of_length-le vs l)) ∙ h

pub each-more : (s t goal : Shadow) (vs : List Var) (i : ℕ) (d : Var) → i < length vs → t ≡ shadow_after s (eliminate s.system (get_or vs i d)) → eliminate_each s (drop i vs) ≡ goal → eliminate_each t (drop (i + 1) vs) ≡ goal
each-more s t goal vs i d l e h =
    ap₂ (λ (x : Shadow) n. eliminate_each x (drop n vs)) e (add-one i) ∙ (sym (ap (eliminate_each s) (drop-cons vs i d l)) ∙ h)

pub each-end : (s goal : Shadow) (vs : List Var) (i : ℕ) → length vs ≤ i → eliminate_each s (drop i vs) ≡ goal → s ≡ goal
each-end s goal vs i l h = sym (ap (eliminate_each s) (drop_of_length-le vs l)) ∙ h

-- ---- terms with their signs turned

pub turned-more : (out new ts all : List Term) (t : Term) (i : ℕ) (d : Term) → i < length ts → t ≡ term (get_or ts i d).var (neg_ℤ (get_or ts i d).factor) → new ≡ out ++ t ∷ [] → out ++ negated_terms (drop i ts) ≡ all → new ++ negated_terms (drop (i + 1) ts) ≡ all
turned-more out new ts all t i d l e n h =
    ap₂ (λ (us : List Term) m. us ++ negated_terms (drop m ts)) (n ∙ ap (λ (u : Term). out ++ u ∷ []) e) (add-one i)
    ∙ (append_assoc out (term (get_or ts i d).var (neg_ℤ (get_or ts i d).factor) ∷ []) (negated_terms (drop (suc i) ts))
    ∙ (ap (λ us. out ++ negated_terms us) (sym (drop-cons ts i d l)) ∙ h))

pub turned-end : (out ts all : List Term) (i : ℕ) → length ts ≤ i → out ++ negated_terms (drop i ts) ≡ all → out ≡ all
turned-end out ts all i l h = sym (append-nil out) ∙ (ap (λ us. out ++ negated_terms us) (sym (drop_of_length-le ts l)) ∙ h)
