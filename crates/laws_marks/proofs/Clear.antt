-- Plans that touch none of the units of reduction variables.
use Rattle.std.proofs.Common.{◌≡◌, ℕ, Bool, true, false, List, [], ◌∷◌, Option, Some, None, refl, sym, ap, ◌∙◌, nat_eq, true≢false}
use Rattle.std.specs.Prelude.{is_some, if◌then◌else◌}
use Rattle.std.specs.List.{list_any}
use Rattle.std.proofs.lemmas.Bool.{or_parts, eqb-true}
use Rattle.f77_ast.specs.Calls.{Meaning}
use Rattle.f77_ast.specs.Places.{Place}
use Rattle.f77_ast.specs.Plans.{Plan, Ends, Breaks, Look, Set, Hold, Forget, Show, Take, Within}
use Rattle.preconditions.specs.transformer_algebra.Laws.{In, here, there}
use Rattle.laws_interleavings.specs.Reductions.{Accumulator, operator_at, is_accumulator}
use Rattle.laws_interleavings.specs.Accumulated.{IsFree, KeepsClear}
use Rattle.laws_interleavings.specs.Plans.Touched.{AnyNumber, IsOther, EachStep, Reaches, AllReach, EachUnit, MeaningAvoids}
use Rattle.laws_marks.proofs.Accumulators.{at_unit}

-- ---- steps

any_step : (U : ℕ → Type 0) → ((u : ℕ) → U u) → (t : Plan) → EachStep U AnyNumber t
any_step U h (Ends f) = tt
any_step U h (Breaks b) = tt
any_step U h (Look u k) = (h u, λ c i. any_step U h (k c))
any_step U h (Set u c t) = (h u, tt, any_step U h t)
any_step U h (Hold u c t) = (h u, tt, any_step U h t)
any_step U h (Forget u t) = (h u, any_step U h t)
any_step U h (Show xs t) = any_step U h t
any_step U h (Take k) = λ o. any_step U h (k o)
any_step U h (Within p at t k) = (any_step U h t, λ f. any_step U h (k f))

both_steps : (U V W : ℕ → Type 0) → ((u : ℕ) → U u → V u → W u) → (t : Plan) → EachStep U AnyNumber t → EachStep V AnyNumber t → EachStep W AnyNumber t
both_steps U V W h (Ends f) a b = tt
both_steps U V W h (Breaks c) a b = tt
both_steps U V W h (Look u k) a b = (h u a.0 b.0, λ c i. both_steps U V W h (k c) (a.1 c i) (b.1 c i))
both_steps U V W h (Set u c t) a b = (h u a.0 b.0, tt, both_steps U V W h t a.2 b.2)
both_steps U V W h (Hold u c t) a b = (h u a.0 b.0, tt, both_steps U V W h t a.2 b.2)
both_steps U V W h (Forget u t) a b = (h u a.0 b.0, both_steps U V W h t a.1 b.1)
both_steps U V W h (Show xs t) a b = both_steps U V W h t a b
both_steps U V W h (Take k) a b = λ o. both_steps U V W h (k o) (a o) (b o)
both_steps U V W h (Within p at t k) a b = (both_steps U V W h t a.0 b.0, λ f. both_steps U V W h (k f) (a.1 f) (b.1 f))

-- ---- units

pub free_more : (a : Accumulator) (as' : List Accumulator) (u : ℕ) → IsOther a.unit u → IsFree as' u → IsFree (a ∷ as') u
free_more a as' u h f = go (nat_eq u a.unit) h
  where
    go : (b : Bool) → b ≡ false → (if b then Some a.op else operator_at as' u) ≡ None
    go true e = absurd (true≢false e)
    go false e = f

-- none of them is a unit that is free
pub free_other : (as' : List Accumulator) (a : Accumulator) (u : ℕ) → In a as' → IsFree as' u → IsOther a.unit u
free_other as' a u i f = go (nat_eq u a.unit) refl
  where
    go : (b : Bool) → nat_eq u a.unit ≡ b → b ≡ false
    go false e = refl
    go true e = (let same : u ≡ a.unit = eqb-true u a.unit e in absurd (true≢false (sym (at_unit as' a i) ∙ (ap (is_accumulator as') (sym same) ∙ ap is_some f))))

-- a plan that avoids each
each_clear : (as' : List Accumulator) (t : Plan) → ((a : Accumulator) → In a as' → EachStep (IsOther a.unit) AnyNumber t) → EachStep (IsFree as') AnyNumber t
each_clear [] t h = any_step (IsFree []) (λ u. refl) t
each_clear (a ∷ as') t h = both_steps (IsOther a.unit) (IsFree as') (IsFree (a ∷ as')) (free_more a as') t (h a here) (each_clear as' t (λ b i. h b (there i)))

other_places : (as' : List Accumulator) (a : Accumulator) → In a as' → (ps : List Place) → AllReach (IsFree as') ps → AllReach (IsOther a.unit) ps
other_places as' a i [] h = tt
other_places as' a i (p ∷ ps) h = ((free_other as' a p.first i h.0.0, λ u e. free_other as' a u i (h.0.1 u e)), other_places as' a i ps h.1)

-- what is called
pub keeps_clear : (as' : List Accumulator) (m : Meaning) → ((a : Accumulator) → In a as' → MeaningAvoids a.unit m) → KeepsClear as' m
keeps_clear as' m h ps locked r = each_clear as' (m ps locked) (λ a i. h a i ps locked (other_places as' a i ps r))

-- ---- lists of units

pub others_all : (u : ℕ) (us : List ℕ) → list_any (λ v. nat_eq v u) us ≡ false → EachUnit (IsOther u) us
others_all u [] h = tt
others_all u (v ∷ us) h = (let z = or_parts (nat_eq v u) (list_any (λ w. nat_eq w u) us) h in (z.0, others_all u us z.1))
