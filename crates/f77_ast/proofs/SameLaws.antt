-- Variables that their order does not tell apart are in one order to every other.
use Rattle.std.proofs.Common.{◌≡◌, ℕ, ◌<◌, Bool, true, List, refl, sym, ap, ◌∙◌, arith}
use Rattle.std.specs.declared.cmp.Ordering.{Ordering}
use Rattle.std.specs.declared.cmp.Ordering.TheVariants.{Less, Equal, Greater}
use Rattle.std.specs.Ordering.{nat_cmp, is_eq, MatchOrdering}
use Rattle.std.specs.Cmp.{ranks}
use Rattle.std.proofs.lemmas.Map.Text.{is_eq-slice_cmp}
use Rattle.std.proofs.lemmas.Slice.Eq.{bytes_eq-Decides}
use Rattle.f77_ast.specs.declared.variable.Variable.{Variable}
use Rattle.f77_ast.specs.declared.variable.Variable.TheVariants.{Own, Block, Saved}
use Rattle.f77_ast.specs.Variables.{variable_text, text_cmp, variable_cmp, same_variable}
use Rattle.fx_lists.proofs.Orders.{same_numbers}
use Rattle.f77_ast.proofs.Shared.{same_texts}

-- the order of a variable with this text
abbrev by_text : List ℕ → Variable → Ordering
by_text t (Own n) = Greater
by_text t (Block c) = text_cmp t (variable_text (Block c))
by_text t (Saved s x) = text_cmp t (variable_text (Saved s x))

block_text : (b : List ℕ) (v : Variable) → variable_cmp (Block b) v ≡ by_text (variable_text (Block b)) v
block_text b (Own n) = refl
block_text b (Block c) = refl
block_text b (Saved s x) = refl

saved_text : (s x : List ℕ) (v : Variable) → variable_cmp (Saved s x) v ≡ by_text (variable_text (Saved s x)) v
saved_text s x (Own n) = refl
saved_text s x (Block c) = refl
saved_text s x (Saved t y) = refl

-- two that the order does not tell apart stand in one order to every other
pub cmp_same : (v w z : Variable) → variable_cmp v w ≡ Equal → variable_cmp v z ≡ variable_cmp w z
cmp_same (Own m) (Own n) z e = ap (λ k. variable_cmp (Own k) z) (same_numbers m n e)
cmp_same (Own m) (Block c) z e = cc
cmp_same (Own m) (Saved t y) z e = cc
cmp_same (Block b) (Own n) z e = cc
cmp_same (Block b) (Block c) z e = block_text b z ∙ (ap (λ t. by_text t z) (same_texts (variable_text (Block b)) (variable_text (Block c)) e) ∙ sym (block_text c z))
cmp_same (Block b) (Saved t y) z e = block_text b z ∙ (ap (λ u. by_text u z) (same_texts (variable_text (Block b)) (variable_text (Saved t y)) e) ∙ sym (saved_text t y z))
cmp_same (Saved s x) (Own n) z e = cc
cmp_same (Saved s x) (Block c) z e = saved_text s x z ∙ (ap (λ t. by_text t z) (same_texts (variable_text (Saved s x)) (variable_text (Block c)) e) ∙ sym (block_text c z))
cmp_same (Saved s x) (Saved t y) z e = saved_text s x z ∙ (ap (λ u. by_text u z) (same_texts (variable_text (Saved s x)) (variable_text (Saved t y)) e) ∙ sym (saved_text t y z))

-- the order of a variable to one with this text
abbrev to_text : Variable → List ℕ → Ordering
to_text (Own m) t = Less
to_text (Block b) t = text_cmp (variable_text (Block b)) t
to_text (Saved s x) t = text_cmp (variable_text (Saved s x)) t

text_block : (v : Variable) (b : List ℕ) → variable_cmp v (Block b) ≡ to_text v (variable_text (Block b))
text_block (Own m) b = refl
text_block (Block c) b = refl
text_block (Saved s x) b = refl

text_saved : (v : Variable) (t y : List ℕ) → variable_cmp v (Saved t y) ≡ to_text v (variable_text (Saved t y))
text_saved (Own m) t y = refl
text_saved (Block c) t y = refl
text_saved (Saved s x) t y = refl

-- and every other stands in one order to both
pub cmp_to_same : (v w z : Variable) → variable_cmp w z ≡ Equal → variable_cmp v w ≡ variable_cmp v z
cmp_to_same v (Own m) (Own n) e = ap (λ k. variable_cmp v (Own k)) (same_numbers m n e)
cmp_to_same v (Own m) (Block c) e = cc
cmp_to_same v (Own m) (Saved t y) e = cc
cmp_to_same v (Block b) (Own n) e = cc
cmp_to_same v (Block b) (Block c) e = text_block v b ∙ (ap (to_text v) (same_texts (variable_text (Block b)) (variable_text (Block c)) e) ∙ sym (text_block v c))
cmp_to_same v (Block b) (Saved t y) e = text_block v b ∙ (ap (to_text v) (same_texts (variable_text (Block b)) (variable_text (Saved t y)) e) ∙ sym (text_saved v t y))
cmp_to_same v (Saved s x) (Own n) e = cc
cmp_to_same v (Saved s x) (Block c) e = text_saved v s x ∙ (ap (to_text v) (same_texts (variable_text (Saved s x)) (variable_text (Block c)) e) ∙ sym (text_block v c))
cmp_to_same v (Saved s x) (Saved t y) e = text_saved v s x ∙ (ap (to_text v) (same_texts (variable_text (Saved s x)) (variable_text (Saved t y)) e) ∙ sym (text_saved v t y))

own_itself : (n : ℕ) → is_eq (nat_cmp n n) ≡ true
own_itself n = go (nat_cmp n n) (ranks n n)
  where
    go : (o : Ordering) → MatchOrdering o (n < n) (n ≡ n) (n < n) → is_eq o ≡ true
    go Less h = let below : n < n = h in absurd (omega arith)
    go Equal h = refl
    go Greater h = let below : n < n = h in absurd (omega arith)

text_itself : (t : List ℕ) → is_eq (text_cmp t t) ≡ true
text_itself t = is_eq-slice_cmp t t ∙ (bytes_eq-Decides t t).1 refl

pub same_itself : (v : Variable) → same_variable v v ≡ true
same_itself (Own n) = own_itself n
same_itself (Block b) = text_itself (variable_text (Block b))
same_itself (Saved s x) = text_itself (variable_text (Saved s x))

equal_if : (o : Ordering) → is_eq o ≡ true → o ≡ Equal
equal_if Less e = cc
equal_if Equal e = refl
equal_if Greater e = cc

pub cmp_if : (v w : Variable) → same_variable v w ≡ true → variable_cmp v w ≡ Equal
cmp_if v w e = equal_if (variable_cmp v w) e
