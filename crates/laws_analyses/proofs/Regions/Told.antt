-- Variables of which what is written tells which they are.
use Rattle.std.proofs.Common.{◌≡◌, ℕ, Bool, true, false, List, [], ◌∷◌, ◌++◌, None, refl, sym, ap, ◌∙◌, true≢false}
use Rattle.std.specs.Prelude.{nat_eq, not}
use Rattle.std.specs.List.{list_any}
use Rattle.std.proofs.lemmas.Bool.{and_parts, not-true, or_parts, or_from, or_right, eq-eqb}
use Rattle.f77_ast.specs.declared.variable.Variable.{Variable}
use Rattle.f77_ast.specs.declared.variable.Variable.TheVariants.{Own, Block, Saved}
use Rattle.f77_ast.specs.Variables.{variable_text}
use Rattle.f77_meaning.specs.Claims.{block_place, saved_place}
use Rattle.in_out_regions.specs.region_sets.Claims.{AreByOrder}
use Rattle.laws_programs.specs.Effects.Tables.{is_plain}
use Rattle.laws_analyses.specs.Regions.Settings.{Setting, elements_if, has_colon, is_told, elements_at}
use Rattle.fx_lists.proofs.Lists.{head_of}
use Rattle.laws_programs.proofs.Effects.Plain.{IsPlain, same_variable, text_of}
use Rattle.laws_programs.proofs.Effects.Named.{key, equal_key}

-- ---- texts

colon_in : (s x : List ℕ) → has_colon (s ++ 58 ∷ x) ≡ true
colon_in [] x = refl
colon_in (c ∷ s) x = or_right (nat_eq c 58) (has_colon (s ++ 58 ∷ x)) (colon_in s x)

no_colon_end : (b : List ℕ) → has_colon b ≡ false → has_colon (b ++ 47 ∷ []) ≡ false
no_colon_end [] h = refl
no_colon_end (c ∷ b) h = let q = or_parts (nat_eq c 58) (has_colon b) h in or_from (nat_eq c 58) (has_colon (b ++ 47 ∷ [])) q.0 (no_colon_end b q.1)

-- up to the only colon
only_colon : (s t x y : List ℕ) → has_colon s ≡ false → has_colon x ≡ false → s ++ 58 ∷ x ≡ t ++ 58 ∷ y → s ≡ t
only_colon [] [] x y h i e = refl
only_colon [] (d ∷ t) x y h i e = absurd (true≢false (sym (ap has_colon (head_of 58 d x (t ++ 58 ∷ y) e).1 ∙ colon_in t y) ∙ i))
only_colon (c ∷ s) [] x y h i e = absurd (true≢false (sym (eq-eqb c 58 (head_of c 58 (s ++ 58 ∷ x) y e).0) ∙ (or_parts (nat_eq c 58) (has_colon s) h).0))
only_colon (c ∷ s) (d ∷ t) x y h i e =
    let p = head_of c d (s ++ 58 ∷ x) (t ++ 58 ∷ y) e in
    let q = only_colon s t x y (or_parts (nat_eq c 58) (has_colon s) h).1 i p.1 in
    λ j. p.0 j ∷ q j

-- ---- variables

told_saved : (s x : List ℕ) → is_told (Saved s x) ≡ true → (is_plain s ≡ true) × (has_colon x ≡ false)
told_saved s x h = let q = and_parts (is_plain s) (not (has_colon x)) h in (q.0, not-true (has_colon x) q.1)

no_colon : (s : List ℕ) → is_plain s ≡ true → has_colon s ≡ false
no_colon s h = not-true (has_colon s) (and_parts (not (has_colon s)) (not (list_any (λ c. nat_eq c 47) s)) h).0

plain_told : (v : Variable) → is_told v ≡ true → IsPlain v
plain_told (Own n) h = tt
plain_told (Block b) h = tt
plain_told (Saved s x) h = (told_saved s x h).0

-- another that is written the same
plain_other : (v w : Variable) → is_told v ≡ true → key v ≡ key w → IsPlain w
plain_other v (Own n) h e = tt
plain_other v (Block c) h e = tt
plain_other (Own m) (Saved t y) h e = cc
plain_other (Block b) (Saved t y) h e =
    let same = text_of (variable_text (Block b)) (variable_text (Saved t y)) e in
    absurd (true≢false (sym (ap has_colon same ∙ colon_in t y) ∙ no_colon_end b (not-true (has_colon b) h)))
plain_other (Saved s x) (Saved t y) h e =
    let q = told_saved s x h in
    let same = only_colon s t x y (no_colon s q.0) q.1 (text_of (variable_text (Saved s x)) (variable_text (Saved t y)) e) in
    ap is_plain (sym same) ∙ q.0

pub told_same : (v w : Variable) → is_told v ≡ true → key v ≡ key w → v ≡ w
told_same v w h e = same_variable v w (plain_told v h) (plain_other v w h e) e

-- ---- elements

not_told : (k : Setting) (v : Variable) → is_told v ≡ false → elements_at k v ≡ (λ phi. None)
not_told k (Own n) h = absurd (true≢false h)
not_told k (Block b) h = ap (λ z. elements_if z (block_place k.ks k.g b)) h
not_told k (Saved s x) h = ap (λ z. elements_if z (saved_place k.ks k.g k.ks s x)) h

pub by_order : (k : Setting) → AreByOrder (elements_at k)
by_order k v w e = go (is_told v) refl (is_told w) refl
  where
    go : (b : Bool) → is_told v ≡ b → (c : Bool) → is_told w ≡ c → elements_at k v ≡ elements_at k w
    go true p c q = ap (elements_at k) (told_same v w p (equal_key v w e))
    go false p true q = ap (elements_at k) (sym (told_same w v q (sym (equal_key v w e))))
    go false p false q = not_told k v p ∙ sym (not_told k w q)
