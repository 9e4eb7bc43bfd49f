-- Steps of the loops over units, transformers and terms.
use Rattle.std.proofs.Common.{◌≡◌, ℕ, suc, ◌+◌, ◌<◌, ◌≤◌, true, false, not, ◌&&◌, List, [], ◌∷◌, ◌++◌, length, take, drop, get_or, drop-cons, drop_of_length-le, take_all, take-append-drop, add-one, append_assoc, ap, ap₂, sym, subst, ◌∙◌, Ordering}
use Rattle.std.specs.Prelude.{insert}
use Rattle.std.specs.declared.cmp.Ordering.TheVariants.{Less, Equal, Greater}
use Rattle.std.specs.Ordering.{match_ordering}
use Rattle.std.proofs.lemmas.List.{take_more}
use Rattle.affine_systems.specs.declared.row.Term.{Term}
use Rattle.affine_systems.specs.declared.row.System.{System}
use Rattle.affine_systems.specs.Terms.{number}
use Rattle.affine_systems.specs.Given.{Fits}
use Rattle.hull_projection.specs.Hull.{hull}
use Rattle.f77_ast.specs.declared.variable.Unit.{Unit as BlockUnit}
use Rattle.transformer_algebra.specs.declared.transformer.Transformer.{Transformer}
use Rattle.transformer_algebra.specs.Cells.{has, joined_cells}
use Rattle.transformer_algebra.specs.Units.{unit_cmp, with_unit, with_units, joined_units}
use Rattle.transformer_algebra.specs.Transformers.{cells_from, units_from, hull_of_arms, complete, AllFit}
use Rattle.transformer_algebra.specs.Loops.{terms_stay}

-- ---- units

-- u comes behind the units before the place
abbrev pub IsBehind : BlockUnit → List BlockUnit → ℕ → Type 0
IsBehind u vs i = take i vs ++ with_unit u (drop i vs) ≡ with_unit u vs

at_place : (vs : List BlockUnit) (i : ℕ) (w : BlockUnit) → i < length vs → w ≡ get_or vs i w → drop i vs ≡ w ∷ drop (suc i) vs
at_place vs i w l g = drop-cons vs i w l ∙ ap (λ (u : BlockUnit). u ∷ drop (suc i) vs) (sym g)

unit_step : (u w : BlockUnit) (vs : List BlockUnit) (o : Ordering) → unit_cmp u w ≡ o → with_unit u (w ∷ vs) ≡ match_ordering o (u ∷ w ∷ vs) (w ∷ vs) (w ∷ with_unit u vs)
unit_step u w vs o e = ap (λ p. match_ordering p (u ∷ w ∷ vs) (w ∷ vs) (w ∷ with_unit u vs)) e

pub unit-passed : (u : BlockUnit) (vs : List BlockUnit) (i : ℕ) (w : BlockUnit) → i < length vs → w ≡ get_or vs i w → unit_cmp u w ≡ Greater → IsBehind u vs i → IsBehind u vs (i + 1)
unit-passed u vs i w l g a h =
    let x : with_unit u (drop i vs) ≡ w ∷ with_unit u (drop (suc i) vs) = ap (with_unit u) (at_place vs i w l g) ∙ unit_step u w (drop (suc i) vs) Greater a in
    let y : take (i + 1) vs ≡ take i vs ++ w ∷ [] = take_more vs i w l ∙ ap (λ (v : BlockUnit). take i vs ++ v ∷ []) (sym g) in
    ap₂ (λ (us : List BlockUnit) n. us ++ with_unit u (drop n vs)) y (add-one i)
    ∙ (append_assoc (take i vs) (w ∷ []) (with_unit u (drop (suc i) vs)) ∙ (ap (λ (us : List BlockUnit). take i vs ++ us) (sym x) ∙ h))

pub unit-same : (u : BlockUnit) (vs : List BlockUnit) (i : ℕ) (w : BlockUnit) → i < length vs → w ≡ get_or vs i w → unit_cmp u w ≡ Equal → IsBehind u vs i → vs ≡ with_unit u vs
unit-same u vs i w l g a h =
    let x : with_unit u (drop i vs) ≡ drop i vs = ap (with_unit u) (at_place vs i w l g) ∙ (unit_step u w (drop (suc i) vs) Equal a ∙ sym (at_place vs i w l g)) in
    sym (take-append-drop i vs) ∙ (ap (λ (us : List BlockUnit). take i vs ++ us) (sym x) ∙ h)

pub unit-before : (u : BlockUnit) (vs : List BlockUnit) (i : ℕ) (w : BlockUnit) → i < length vs → w ≡ get_or vs i w → unit_cmp u w ≡ Less → IsBehind u vs i → insert vs i u ≡ with_unit u vs
unit-before u vs i w l g a h =
    let x : with_unit u (drop i vs) ≡ u ∷ drop i vs = ap (with_unit u) (at_place vs i w l g) ∙ (unit_step u w (drop (suc i) vs) Less a ∙ ap (λ (us : List BlockUnit). u ∷ us) (sym (at_place vs i w l g))) in
    ap (λ (us : List BlockUnit). take i vs ++ us) (sym x) ∙ h

pub unit-last : (u : BlockUnit) (vs : List BlockUnit) (i : ℕ) → length vs ≤ i → IsBehind u vs i → vs ++ u ∷ [] ≡ with_unit u vs
unit-last u vs i l h = ap₂ (λ (us ws : List BlockUnit). us ++ with_unit u ws) (sym (take_all i vs l)) (sym (drop_of_length-le vs l)) ∙ h

pub ruleset unit_loop = (unit-passed, unit-same, unit-before, unit-last)

pub units-more : (ws us vs : List BlockUnit) (i : ℕ) (w : BlockUnit) → i < length vs → w ≡ get_or vs i w → us ≡ with_unit w ws → with_units us (drop (i + 1) vs) ≡ with_units ws (drop i vs)
units-more ws us vs i w l g e = ap₂ (λ (xs : List BlockUnit) n. with_units xs (drop n vs)) e (add-one i) ∙ sym (ap (with_units ws) (at_place vs i w l g))

pub units-end : (ws vs : List BlockUnit) (i : ℕ) → length vs ≤ i → with_units ws (drop i vs) ≡ ws
units-end ws vs i l = ap (with_units ws) (drop_of_length-le vs l)

pub ruleset units_loop = (units-more, units-end)

-- ---- transformers

arm_at : (ts : List Transformer) (i : ℕ) (t : Transformer) → i < length ts → t ≡ get_or ts i t → drop i ts ≡ t ∷ drop (suc i) ts
arm_at ts i t l g = drop-cons ts i t l ∙ ap (λ (u : Transformer). u ∷ drop (suc i) ts) (sym g)

pub cells_from-more : (cs ds : List ℕ) (ts : List Transformer) (i : ℕ) (t : Transformer) → i < length ts → t ≡ get_or ts i t → ds ≡ joined_cells cs t.cells → cells_from ds (drop (i + 1) ts) ≡ cells_from cs (drop i ts)
cells_from-more cs ds ts i t l g e = ap₂ (λ (xs : List ℕ) n. cells_from xs (drop n ts)) e (add-one i) ∙ sym (ap (cells_from cs) (arm_at ts i t l g))

pub cells_from-end : (cs : List ℕ) (ts : List Transformer) (i : ℕ) → length ts ≤ i → cells_from cs (drop i ts) ≡ cs
cells_from-end cs ts i l = ap (cells_from cs) (drop_of_length-le ts l)

pub ruleset all_cells_loop = (cells_from-more, cells_from-end)

pub units_from-more : (us vs : List BlockUnit) (ts : List Transformer) (i : ℕ) (t : Transformer) → i < length ts → t ≡ get_or ts i t → vs ≡ joined_units us t.foreign → units_from vs (drop (i + 1) ts) ≡ units_from us (drop i ts)
units_from-more us vs ts i t l g e = ap₂ (λ (xs : List BlockUnit) n. units_from xs (drop n ts)) e (add-one i) ∙ sym (ap (units_from us) (arm_at ts i t l g))

pub units_from-end : (us : List BlockUnit) (ts : List Transformer) (i : ℕ) → length ts ≤ i → units_from us (drop i ts) ≡ us
units_from-end us ts i l = ap (units_from us) (drop_of_length-le ts l)

pub ruleset all_units_loop = (units_from-more, units_from-end)

pub hulled-more : (cs : List ℕ) (s r : System) (ts : List Transformer) (i : ℕ) (t : Transformer) → i < length ts → t ≡ get_or ts i t → r ≡ hull s (complete cs t) → hull_of_arms cs r (drop (i + 1) ts) ≡ hull_of_arms cs s (drop i ts)
hulled-more cs s r ts i t l g e = ap₂ (λ (x : System) n. hull_of_arms cs x (drop n ts)) e (add-one i) ∙ sym (ap (hull_of_arms cs s) (arm_at ts i t l g))

pub hulled-end : (cs : List ℕ) (s : System) (ts : List Transformer) (i : ℕ) → length ts ≤ i → hull_of_arms cs s (drop i ts) ≡ s
hulled-end cs s ts i l = ap (hull_of_arms cs s) (drop_of_length-le ts l)

pub arm_fits : (ts : List Transformer) (i : ℕ) (t : Transformer) → i < length ts → t ≡ get_or ts i t → AllFit (drop i ts) → Fits t.system
arm_fits ts i t l g h = (subst AllFit (arm_at ts i t l g) h).0

pub arms_fit : (ts : List Transformer) (i : ℕ) (t : Transformer) → i < length ts → t ≡ get_or ts i t → AllFit (drop i ts) → AllFit (drop (i + 1) ts)
arms_fit ts i t l g h = subst (λ n. AllFit (drop n ts)) (sym (add-one i)) (subst AllFit (arm_at ts i t l g) h).1

pub ruleset hulled_loop = (hulled-more, hulled-end, arm_fits, arms_fit)

-- ---- terms

pub stay-none : (cs : List ℕ) (ts : List Term) (i : ℕ) (d : Term) → i < length ts → has cs (number (get_or ts i d).var) ≡ true → terms_stay cs (drop i ts) ≡ false
stay-none cs ts i d l e = ap (terms_stay cs) (drop-cons ts i d l) ∙ ap (λ b. not b && terms_stay cs (drop (suc i) ts)) e

pub stay-more : (cs : List ℕ) (ts : List Term) (i : ℕ) (d : Term) → i < length ts → has cs (number (get_or ts i d).var) ≡ false → terms_stay cs (drop (i + 1) ts) ≡ terms_stay cs (drop i ts)
stay-more cs ts i d l e = ap (λ n. terms_stay cs (drop n ts)) (add-one i) ∙ sym (ap (terms_stay cs) (drop-cons ts i d l) ∙ ap (λ b. not b && terms_stay cs (drop (suc i) ts)) e)

pub stay-end : (cs : List ℕ) (ts : List Term) (i : ℕ) → length ts ≤ i → terms_stay cs (drop i ts) ≡ true
stay-end cs ts i l = ap (terms_stay cs) (drop_of_length-le ts l)

pub ruleset stay_loop = (stay-none, stay-more, stay-end)
