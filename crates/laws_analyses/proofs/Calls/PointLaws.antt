-- Points that have other numbers at some variables: at auxiliary ones, those of what they stand for.
use Rattle.std.proofs.Common.{◌≡◌, ℕ, suc, ◌≤◌, List, [], ◌∷◌, ◌++◌, Bool, true, false, refl, sym, ap, ◌∙◌, subst, arith, ◌⊎◌, inl, inr, ⊎_elim}
use Rattle.std.specs.Prelude.{if◌then◌else◌, filter}
use Rattle.std.proofs.lemmas.Bool.{cases_Bool}
use Rattle.affine_systems.specs.declared.row.Var.{Var}
use Rattle.affine_systems.specs.declared.row.Var.TheVariants.{Cell, Exit, Phi, Aux}
use Rattle.affine_systems.specs.Terms.{var_eq}
use Rattle.affine_systems.specs.Points.{Point}
use Rattle.affine_systems.proofs.TermLaws.{var_eq-true, true-var_eq}
use Rattle.affine_systems.proofs.AscendLaws.{var_eq-sym}
use Rattle.hull_projection.specs.Laws.{IsOneOf}
use Rattle.hull_projection.proofs.LiftLaws.{aux_apart}
use Rattle.preconditions.specs.transformer_algebra.declared.naming.Naming.{Naming}
use Rattle.preconditions.specs.transformer_algebra.Renaming.{renamed_by}
use Rattle.preconditions.proofs.TransformerAlgebra.HalfLaws.{IsAux}
use Rattle.preconditions.specs.call_translation.Variables.{auxiliary_of, auxiliaries_in}
use Rattle.fx_lists.proofs.Booleans.{clash as clashes}

-- ---- other numbers at the variables of a list

abbrev pub patched : Point → Point → List Var → Point
patched p r [] w = p w
patched p r (v ∷ vs) w = if var_eq v w then r w else patched p r vs w

pub patched_in : (p r : Point) (vs : List Var) (w : Var) → IsOneOf w vs → patched p r vs w ≡ r w
patched_in p r [] w h = absurd h
patched_in p r (v ∷ vs) w h =
    ⊎_elim
    (λ e. rw e refl)
    (λ e. rw e (patched_in p r vs w (⊎_elim (λ k. clashes (var_eq v w) (true-var_eq v w (sym k)) e) (λ k. k) h)))
    (cases_Bool (var_eq v w))

pub patched_off : (p r : Point) (vs : List Var) (w : Var) → (IsOneOf w vs → ⊥) → patched p r vs w ≡ p w
patched_off p r [] w f = refl
patched_off p r (v ∷ vs) w f =
    ⊎_elim
    (λ e. absurd (f (inl (sym (var_eq-true v w e)))))
    (λ e. rw e (patched_off p r vs w (λ h. f (inr h))))
    (cases_Bool (var_eq v w))

pub patched_same : (p r : Point) (vs : List Var) (w : Var) → p w ≡ r w → patched p r vs w ≡ r w
patched_same p r [] w h = h
patched_same p r (v ∷ vs) w h =
    ⊎_elim
    (λ e. rw e refl)
    (λ e. rw e (patched_same p r vs w h))
    (cases_Bool (var_eq v w))

pub filter_var : (f : Var → Bool) (vs : List Var) (w : Var) → IsOneOf w vs → f w ≡ true → IsOneOf w (filter f vs)
filter_var f [] w h e = h
filter_var f (v ∷ vs) w h e = go (f v) refl h (λ k. filter_var f vs w k e)
  where
    go : (b : Bool) → f v ≡ b → (w ≡ v) ⊎ IsOneOf w vs → (IsOneOf w vs → IsOneOf w (filter f vs)) → IsOneOf w (if b then v ∷ filter f vs else filter f vs)
    go true t k ih = ⊎_elim (λ q. inl q) (λ q. inr (ih q)) k
    go false t k ih = ⊎_elim (λ q. clashes (f v) (ap f (sym q) ∙ e) t) ih k

-- ---- numbers at the auxiliary variables of namings

abbrev is_at : Var → Var → Bool
is_at (Cell c) w = false
is_at (Exit c) w = false
is_at (Phi c) w = false
is_at (Aux k) w = var_eq w (Aux k)

module _ (r p : Point) where
  -- p, with the numbers of r for what has become an auxiliary variable
  abbrev pub lifted : List Naming → Point
  lifted [] w = p w
  lifted (a ∷ ns) w = if is_at a.to w then r a.from else lifted ns w

  pub lifted_off : (ns : List Naming) (w : Var) → (IsOneOf w (auxiliaries_in ns) → ⊥) → lifted ns w ≡ p w
  lifted_off [] w f = refl
  lifted_off (a ∷ ns) w f = go a.to f (λ g. lifted_off ns w g)
    where
      here : (k : ℕ) (b : Bool) → var_eq w (Aux k) ≡ b → (IsOneOf w (Aux k ∷ auxiliaries_in ns) → ⊥) → ((IsOneOf w (auxiliaries_in ns) → ⊥) → lifted ns w ≡ p w) → (if b then r a.from else lifted ns w) ≡ p w
      here k true e g ih = absurd (g (inl (var_eq-true w (Aux k) e)))
      here k false e g ih = ih (λ h. g (inr h))

      go : (t : Var) → (IsOneOf w (auxiliary_of t ++ auxiliaries_in ns) → ⊥) → ((IsOneOf w (auxiliaries_in ns) → ⊥) → lifted ns w ≡ p w) → (if is_at t w then r a.from else lifted ns w) ≡ p w
      go (Cell c) g ih = ih g
      go (Exit c) g ih = ih g
      go (Phi c) g ih = ih g
      go (Aux k) g ih = here k (var_eq w (Aux k)) refl g ih

  not_left : (ns : List Naming) (w : Var) → (IsAux w → ⊥) → IsOneOf w (auxiliaries_in ns) → ⊥
  not_left [] w f h = h
  not_left (a ∷ ns) w f h = go a.to h (λ k. not_left ns w f k)
    where
      go : (t : Var) → IsOneOf w (auxiliary_of t ++ auxiliaries_in ns) → (IsOneOf w (auxiliaries_in ns) → ⊥) → ⊥
      go (Cell c) k ih = ih k
      go (Exit c) k ih = ih k
      go (Phi c) k ih = ih k
      go (Aux j) k ih = ⊎_elim (λ e. f (subst IsAux (sym e) tt)) ih k

  pub lifted_plain : (ns : List Naming) (w : Var) → (IsAux w → ⊥) → lifted ns w ≡ p w
  lifted_plain ns w f = lifted_off ns w (not_left ns w f)

-- ---- what namings find there

-- a variable is one that is named
abbrev pub IsNamed : Var → List Naming → Type 0
IsNamed v [] = ⊥
IsNamed v (a ∷ ns) = (v ≡ a.from) ⊎ IsNamed v ns

-- must: the variables whose numbers count
module _ (r p : Point) (must : Var → Bool) where
  -- what stands for v: the auxiliary variable with the number n, or a variable that has v's number
  abbrev pub StandsFor : ℕ → Var → Var → Type 0
  StandsFor n v (Cell c) = must v ≡ true → p (Cell c) ≡ r v
  StandsFor n v (Exit c) = must v ≡ true → p (Exit c) ≡ r v
  StandsFor n v (Phi c) = must v ≡ true → p (Phi c) ≡ r v
  StandsFor n v (Aux k) = k ≡ n

  -- auxiliary variables are numbered from n on
  abbrev pub Named : ℕ → List Naming → Type 0
  Named n [] = Unit {0}
  Named n (a ∷ ns) = StandsFor n a.from a.to × Named (suc n) ns

  abbrev pub Filled : Point → List Naming → Type 0
  Filled q [] = Unit {0}
  Filled q (a ∷ ns) = ((k : ℕ) → a.to ≡ Aux k → q (Aux k) ≡ r a.from) × Filled q ns

  filled_more : (q s : Point) (n : ℕ) (ns : List Naming) → Named n ns → ((k : ℕ) → n ≤ k → s (Aux k) ≡ q (Aux k)) → Filled q ns → Filled s ns
  filled_more q s n [] h e f = tt
  filled_more q s n (a ∷ ns) h e f = ((λ k t. e k (least k t) ∙ f.0 k t), filled_more q s (suc n) ns h.1 (λ k l. e k (omega (arith, l))) f.1)
    where
      least : (k : ℕ) → a.to ≡ Aux k → n ≤ k
      least k t = let i : k ≡ n = subst (StandsFor n a.from) t h.0 in omega (arith, i)

  pub filled : (n : ℕ) (ns : List Naming) → Named n ns → Filled (lifted r p ns) ns
  filled n [] h = tt
  filled n (a ∷ ns) h = (head, filled_more (lifted r p ns) (lifted r p (a ∷ ns)) (suc n) ns h.1 later (filled (suc n) ns h.1))
    where
      head : (k : ℕ) → a.to ≡ Aux k → lifted r p (a ∷ ns) (Aux k) ≡ r a.from
      head k t =
          subst (λ (w : Var). (if is_at w (Aux k) then r a.from else lifted r p ns (Aux k)) ≡ r a.from) (sym t)
          (ap (λ b. if b then r a.from else lifted r p ns (Aux k)) (true-var_eq (Aux k) (Aux k) refl))

      after : (k : ℕ) → suc n ≤ k → (t : Var) → StandsFor n a.from t → (if is_at t (Aux k) then r a.from else lifted r p ns (Aux k)) ≡ lifted r p ns (Aux k)
      after k l (Cell c) s = refl
      after k l (Exit c) s = refl
      after k l (Phi c) s = refl
      after k l (Aux j) s = ap (λ b. if b then r a.from else lifted r p ns (Aux k)) (var_eq-sym (Aux j) (Aux k) (aux_apart j k (omega (arith, l, s))))

      later : (k : ℕ) → suc n ≤ k → lifted r p (a ∷ ns) (Aux k) ≡ lifted r p ns (Aux k)
      later k l = after k l a.to h.0

  pub found : (q : Point) (n : ℕ) (ns : List Naming) (v : Var) → Named n ns → Filled q ns → ((w : Var) → (IsAux w → ⊥) → q w ≡ p w) → must v ≡ true → IsNamed v ns → q (renamed_by ns v) ≡ r v
  found q n [] v h f e m i = absurd i
  found q n (a ∷ ns) v h f e m i =
      ⊎_elim
      (λ t. let s : v ≡ a.from = var_eq-true v a.from t in rw t (is a.to h.0 f.0 (ap must (sym s) ∙ m) ∙ ap r (sym s)))
      (λ t. rw t (found q (suc n) ns v h.1 f.1 e m (⊎_elim (λ k. clashes (var_eq v a.from) (true-var_eq v a.from k) t) (λ k. k) i)))
      (cases_Bool (var_eq v a.from))
    where
      is : (t : Var) → StandsFor n a.from t → ((k : ℕ) → t ≡ Aux k → q (Aux k) ≡ r a.from) → must a.from ≡ true → q t ≡ r a.from
      is (Cell c) s g j = e (Cell c) (λ x. x) ∙ s j
      is (Exit c) s g j = e (Exit c) (λ x. x) ∙ s j
      is (Phi c) s g j = e (Phi c) (λ x. x) ∙ s j
      is (Aux k) s g j = g k refl
