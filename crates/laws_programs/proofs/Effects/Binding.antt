-- Where dummies lie once they are associated, and what is read for that.
use Rattle.std.proofs.Common.{◌≡◌, ◌⊎◌, inl, inr, ℕ, zero, suc, ◌+◌, ◌≤◌, ◌<◌, Bool, true, false, List, [], ◌∷◌, ◌++◌, map, Some, refl, sym, ap, ◌∙◌, arith}
use Rattle.std.specs.Prelude.{if◌then◌else◌, nat_eq, nat_le, slice_get}
use Rattle.std.proofs.lemmas.Bool.{eqb-true, eq-eqb, leb-true}
use Rattle.f77_ast.specs.Store.{Tag, put}
use Rattle.f77_ast.specs.Faults.{Bounds}
use Rattle.f77_ast.specs.Steps.{Done}
use Rattle.f77_ast.specs.Places.{Dim, Place, Places, scalar_place, total_size}
use Rattle.f77_ast.specs.Values.{fault}
use Rattle.f77_ast.specs.Calls.{Dummy, first_place, other_places, scalars_bound, is_open, open_extent, array_at, array_place, in_place}
use Rattle.f77_ast.specs.declared.symbol.Place.{Place as SymbolPlace}
use Rattle.f77_ast.specs.declared.symbol.Place.TheVariants as place
use Rattle.f77_ast.specs.Symbols.{SymbolTree}
use Rattle.f77_meaning.specs.Modules.{tag_of, bound_of, as_dummy, dummies_from}
use Rattle.laws_programs.specs.Effects.Tables.{is_dummy, HasNoDummy, DummiesLead}
use Rattle.laws_programs.proofs.Effects.Access.{Allowed}
use Rattle.laws_programs.proofs.Effects.Fine.{Doing}
use Rattle.laws_programs.proofs.Effects.Units.{within_bounds}
use Rattle.laws_programs.proofs.Effects.Offers.{others_after, others_shift}
use Rattle.laws_programs.proofs.Storage.KeepLaws.{the_dummy as dummy_of}
use Rattle.f77_meaning.proofs.ModuleLaws.{in_laid as in_bounds}

-- ---- the dummies, from the first on

abbrev pub leading : ℕ → ℕ → List SymbolTree → List Dummy
leading zero n ss = []
leading (suc c) n [] = []
leading (suc c) n (s ∷ ss) = dummy_of n s ∷ leading c (suc n) ss

pub not_there : (n : ℕ) (s : SymbolTree) (p : SymbolPlace) → is_dummy p ≡ false → as_dummy n s p ≡ []
not_there n s (place.Local g o) e = refl
not_there n s (place.Dummy m) e = cc
not_there n s (place.Block b o) e = refl
not_there n s (place.Constant v) e = refl

none_from : (n : ℕ) (ss : List SymbolTree) → HasNoDummy ss → dummies_from n ss ≡ []
none_from n [] h = refl
none_from n (s ∷ ss) h = λ i. not_there n s s.place h.0 i ++ none_from (suc n) ss h.1 i

pub dummies_lead : (c n : ℕ) (ss : List SymbolTree) → DummiesLead c n ss → dummies_from n ss ≡ leading c n ss
dummies_lead zero n ss h = none_from n ss h
dummies_lead (suc c) n [] h = absurd h
dummies_lead (suc c) n (s ∷ ss) h = λ i. as_dummy n s (h.0 i) ++ dummies_lead c (suc n) ss h.1 i

-- ---- each as a scalar

pub put_other : {A : Type 0} (f : ℕ → A) (k : ℕ) (a : A) (x : ℕ) → (x ≡ k → ⊥) → put f k a x ≡ f x
put_other f k a x h = go (nat_eq x k) refl
  where
    go : (b : Bool) → nat_eq x k ≡ b → (if b then a else f x) ≡ f x
    go true e = absurd (h (eqb-true x k e))
    go false e = refl

pub put_same : {A : Type 0} (f : ℕ → A) (k : ℕ) (a : A) (x : ℕ) → x ≡ k → put f k a x ≡ a
put_same f k a x h = go (nat_eq x k) refl
  where
    go : (b : Bool) → nat_eq x k ≡ b → (if b then a else f x) ≡ a
    go true e = refl
    go false e = let t : nat_eq x k ≡ true = eq-eqb x k h in cc

pub scalars_other : (c n : ℕ) (ss : List SymbolTree) (qs : List Place) (at : Places) (m : ℕ) → (m < n) ⊎ (n + c ≤ m) → scalars_bound (leading c n ss) qs at m ≡ at m
scalars_other zero n ss qs at m h = refl
scalars_other (suc c) n [] qs at m h = refl
scalars_other (suc c) n (s ∷ ss) qs at m (inl h) =
    put_other (scalars_bound (leading c (suc n) ss) (other_places qs) at) n (scalar_place (first_place qs).first (tag_of s.scalar)) m (λ e. omega (arith, h, e)) ∙ scalars_other c (suc n) ss (other_places qs) at m (inl (omega (arith, h)))
scalars_other (suc c) n (s ∷ ss) qs at m (inr h) =
    put_other (scalars_bound (leading c (suc n) ss) (other_places qs) at) n (scalar_place (first_place qs).first (tag_of s.scalar)) m (λ e. omega (arith, h, e)) ∙ scalars_other c (suc n) ss (other_places qs) at m (inr (omega (arith, h)))

pub scalars_here : (c n : ℕ) (ss : List SymbolTree) (qs : List Place) (at : Places) (i m : ℕ) (s : SymbolTree) → m ≡ n + i → i < c → slice_get ss i ≡ Some s → scalars_bound (leading c n ss) qs at m ≡ scalar_place (first_place (others_after i qs)).first (tag_of s.scalar)
scalars_here zero n ss qs at i m s e below is = absurd (omega (arith, below))
scalars_here (suc c) n [] qs at i m s e below is = cc
scalars_here (suc c) n (t ∷ ss) qs at zero m s e below is =
    let same : t ≡ s = cc in
    put_same (scalars_bound (leading c (suc n) ss) (other_places qs) at) n (scalar_place (first_place qs).first (tag_of t.scalar)) m (omega (arith, e)) ∙ ap (λ x. scalar_place (first_place qs).first (tag_of x.scalar)) same
scalars_here (suc c) n (t ∷ ss) qs at (suc i) m s e below is =
    put_other (scalars_bound (leading c (suc n) ss) (other_places qs) at) n (scalar_place (first_place qs).first (tag_of t.scalar)) m (λ z. omega (arith, e, z))
    ∙ scalars_here c (suc n) ss (other_places qs) at i m s (omega (arith, e)) (omega (arith, below)) is
    ∙ ap (λ ps. scalar_place (first_place ps).first (tag_of s.scalar)) (sym (others_shift i qs))

-- ---- an array

-- it reaches no more than what is offered
abbrev pub Inside : Place → Place → Type 0
Inside p q = (u : ℕ) → in_place q u ≡ true → in_place p u ≡ true

pub array_does : (A : Allowed) (p : Place) (t : Tag) (ds : List Dim) → Doing (array_place p t ds) A (Inside p)
array_does A p t ds = go (is_open ds) (nat_le (total_size ds) p.extent) refl
  where
    smaller : (n : ℕ) → n ≤ p.extent → Inside p (array_at p t ds n)
    smaller n h u i = let b = in_bounds (array_at p t ds n) u i in within_bounds p u b.0 (omega (arith, b.1, h))

    reached : (b : Bool) → (if b then 0 else p.extent) ≤ p.extent
    reached true = omega arith
    reached false = omega arith

    go : (o f : Bool) → nat_le (total_size ds) p.extent ≡ f → Doing (if o then Done (array_at p t ds (open_extent p ds)) else if f then Done (array_at p t ds (total_size ds)) else fault Bounds) A (Inside p)
    go true f e = smaller (open_extent p ds) (reached (nat_eq (total_size ds) 0))
    go false true e = smaller (total_size ds) (leb-true (total_size ds) p.extent e)
    go false false e = tt
