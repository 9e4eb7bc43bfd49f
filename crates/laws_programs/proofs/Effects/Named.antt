-- Which variables stand in lists of variables, as far as what is written of them tells.
use Rattle.std.proofs.Common.{◌≡◌, ◌⊎◌, inl, inr, ℕ, Bool, true, false, ◌<◌, List, [], ◌∷◌, refl, sym, ap, ◌∙◌}
use Rattle.std.specs.Prelude.{filter, if◌then◌else◌}
use Rattle.std.specs.declared.cmp.Ordering.{Ordering}
use Rattle.std.specs.declared.cmp.Ordering.TheVariants.{Less, Equal, Greater}
use Rattle.std.specs.Ordering.{nat_cmp, is_eq, MatchOrdering, match_ordering}
use Rattle.std.specs.Cmp.{ranks}
use Rattle.std.proofs.lemmas.Map.Text.{is_eq-slice_cmp}
use Rattle.std.proofs.lemmas.Slice.Eq.{bytes_eq-Decides}
use Rattle.f77_ast.specs.declared.variable.Variable.{Variable}
use Rattle.f77_ast.specs.declared.variable.Variable.TheVariants.{Own, Block, Saved}
use Rattle.f77_ast.specs.Variables.{variable_text, text_cmp, variable_cmp, merged, union}
use Rattle.fx_lists.proofs.Orders.{at_equal, same_numbers}
use Rattle.f77_ast.proofs.Shared.{same_texts}

-- an own symbol's number, or what is written
pub data Key : Type 0 where
  number : ℕ → Key
  text : List ℕ → Key

abbrev pub key : Variable → Key
key (Own n) = number n
key (Block b) = text (variable_text (Block b))
key (Saved s x) = text (variable_text (Saved s x))

abbrev pub Stands : Variable → List Variable → Type 0
Stands v [] = ⊥
Stands v (w ∷ ws) = (key w ≡ key v) ⊎ Stands v ws

-- ---- the order of variables

pub equal_key : (v w : Variable) → variable_cmp v w ≡ Equal → key v ≡ key w
equal_key (Own m) (Own n) e = ap number (same_numbers m n e)
equal_key (Own m) (Block c) e = cc
equal_key (Own m) (Saved t y) e = cc
equal_key (Block b) (Own n) e = cc
equal_key (Block b) (Block c) e = ap text (same_texts (variable_text (Block b)) (variable_text (Block c)) e)
equal_key (Block b) (Saved t y) e = ap text (same_texts (variable_text (Block b)) (variable_text (Saved t y)) e)
equal_key (Saved s x) (Own n) e = cc
equal_key (Saved s x) (Block c) e = ap text (same_texts (variable_text (Saved s x)) (variable_text (Block c)) e)
equal_key (Saved s x) (Saved t y) e = ap text (same_texts (variable_text (Saved s x)) (variable_text (Saved t y)) e)

-- ---- unions

module _ (x v : Variable) (others : List Variable → List Variable) (A : Type 0) (h : (zs : List Variable) → A ⊎ Stands x zs → Stands x (others zs)) where
  before : (ws : List Variable) → ((key v ≡ key x) ⊎ A) ⊎ Stands x ws → Stands x (v ∷ others ws)
  before ws (inl (inl e)) = inl e
  before ws (inl (inr a)) = inr (h ws (inl a))
  before ws (inr s) = inr (h ws (inr s))

  in_place_of : (w : Variable) (ws : List Variable) → key v ≡ key w → ((key v ≡ key x) ⊎ A) ⊎ Stands x (w ∷ ws) → Stands x (v ∷ others ws)
  in_place_of w ws same (inl (inl e)) = inl e
  in_place_of w ws same (inl (inr a)) = inr (h ws (inl a))
  in_place_of w ws same (inr (inl e)) = inl (same ∙ e)
  in_place_of w ws same (inr (inr s)) = inr (h ws (inr s))

  behind : (w : Variable) (ws rest : List Variable) → (((key v ≡ key x) ⊎ A) ⊎ Stands x ws → Stands x rest) → ((key v ≡ key x) ⊎ A) ⊎ Stands x (w ∷ ws) → Stands x (w ∷ rest)
  behind w ws rest ih (inl a) = inr (ih (inl a))
  behind w ws rest ih (inr (inl e)) = inl e
  behind w ws rest ih (inr (inr s)) = inr (ih (inr s))

  in_merged : (ws : List Variable) → ((key v ≡ key x) ⊎ A) ⊎ Stands x ws → Stands x (merged v others ws)
  in_merged [] s = before [] s
  in_merged (w ∷ ws) s = go (variable_cmp v w) refl (in_merged ws)
    where
      go : (o : Ordering) → variable_cmp v w ≡ o → (((key v ≡ key x) ⊎ A) ⊎ Stands x ws → Stands x (merged v others ws)) → Stands x (match_ordering o (v ∷ others (w ∷ ws)) (v ∷ others ws) (w ∷ merged v others ws))
      go Less e ih = before (w ∷ ws) s
      go Equal e ih = in_place_of w ws (equal_key v w e) s
      go Greater e ih = behind w ws (merged v others ws) ih s

-- what stands in one of two lists stands in their union
pub in_union : (x : Variable) (vs ws : List Variable) → Stands x vs ⊎ Stands x ws → Stands x (union vs ws)
in_union x [] ws (inl s) = absurd s
in_union x [] ws (inr s) = s
in_union x (v ∷ vs) ws s = in_merged x v (union vs) (Stands x vs) (in_union x vs) ws s

-- ---- tests that look at what is written alone

pub in_filtered : (p : Variable → Bool) → ((v w : Variable) → key v ≡ key w → p v ≡ p w) → (x : Variable) (vs : List Variable) → Stands x vs → p x ≡ true → Stands x (filter p vs)
in_filtered p same x [] s e = s
in_filtered p same x (v ∷ vs) s e = go (p v) refl s (λ r. in_filtered p same x vs r e)
  where
    go : (b : Bool) → p v ≡ b → (key v ≡ key x) ⊎ Stands x vs → (Stands x vs → Stands x (filter p vs)) → Stands x (if b then v ∷ filter p vs else filter p vs)
    go true q (inl k) ih = inl k
    go true q (inr r) ih = inr (ih r)
    go false q (inl k) ih = let t : p v ≡ true = same v x k ∙ e in cc
    go false q (inr r) ih = ih r

pub of_filtered : (p : Variable → Bool) → ((v w : Variable) → key v ≡ key w → p v ≡ p w) → (x : Variable) (vs : List Variable) → Stands x (filter p vs) → p x ≡ true
of_filtered p same x [] s = absurd s
of_filtered p same x (v ∷ vs) s = go (p v) refl s (of_filtered p same x vs)
  where
    go : (b : Bool) → p v ≡ b → Stands x (if b then v ∷ filter p vs else filter p vs) → (Stands x (filter p vs) → p x ≡ true) → p x ≡ true
    go true q (inl k) ih = sym (same v x k) ∙ q
    go true q (inr r) ih = ih r
    go false q r ih = ih r
