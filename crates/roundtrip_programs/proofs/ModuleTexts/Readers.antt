-- What is read leads back to as many open parentheses as there were, and so does what is written of it.
use Rattle.std.proofs.Common.{◌≡◌, ℕ, List, ◌++◌, refl, ap, sym, ◌∙◌, Option, Some, None}
use Rattle.std.specs.Prelude.{option_map}
use Rattle.f77_structure.specs.Depth.{is_deep_from}
use Rattle.f77_exprs.specs.Words.{after}
use Rattle.f77_exprs.specs.State.{State, Reader, parse_word, or_done, or_else, ◌>>=◌}
use Rattle.roundtrip_programs.proofs.Statements.TypedFormed.{splits}
use Rattle.roundtrip_programs.proofs.ModuleTexts.Levels.{at, IsShallow, Leads}

-- the value is as V says, and what is left does not stand too deep
abbrev pub Within : {A : Type 0} → Option (A × State) → ℕ → (A → Type 0) → Type 0
Within None m V = Unit {0}
Within (Some r) m V = V r.0 × IsShallow m r.1.rest

-- a reader that closes each parenthesis that it opens
abbrev pub Even : {A : Type 0} → Reader A → (ℕ → A → Type 0) → Type 0
Even R V = (n : ℕ) (s : State) → IsShallow n s.rest → Within (R s) n (V n)

-- the same of what is written of its value
abbrev pub Level : {A : Type 0} → (A → List ℕ) → ℕ → A → Type 0
Level text n x = Leads n n (text x)

pub lower : {B : Type 0} (o : Option (B × State)) (m : ℕ) (U V : B → Type 0) → Within o m U → ((b : B) → U b → V b) → Within o m V
lower None m U V h f = tt
lower (Some r) m U V h f = (f r.0 h.0, h.1)

pub seq : {A B : Type 0} (o : Option (A × State)) (g : A × State → Option (B × State)) (n m : ℕ) (U : A → Type 0) (V : B → Type 0)
    → Within o n U → ((r : A × State) → U r.0 → IsShallow n r.1.rest → Within (g r) m V) → Within (o >>= g) m V
seq None g n m U V h f = tt
seq (Some r) g n m U V h f = f r h.0 h.1

-- one reader behind another
pub then_read : {A B : Type 0} (R : Reader A) (U : ℕ → A → Type 0) (g : A × State → Option (B × State)) (s : State) (n m : ℕ) (V : B → Type 0)
    → Even R U → IsShallow n s.rest → ((r : A × State) → U n r.0 → IsShallow n r.1.rest → Within (g r) m V) → Within (R s >>= g) m V
then_read R U g s n m V e h f = seq (R s) g n m (U n) V (e n s h) f

-- what stands behind a word
abbrev pub Go : {B : Type 0} → List ℕ → State → (State → Option (B × State)) → ℕ → ℕ → (B → Type 0) → Type 0
Go word s g n m V = (r : List ℕ) → IsShallow n (word ++ r) → Within (g (record s { rest = r })) m V

pub split_shallow : (word r : List ℕ) (s : State) (n : ℕ) → after word s.rest ≡ Some r → IsShallow n s.rest → IsShallow n (word ++ r)
split_shallow word r s n e h = ap (is_deep_from (at n)) (sym (splits word s.rest r e)) ∙ h

word_at : {B : Type 0} (o : Option (List ℕ)) (word : List ℕ) (s : State) (g : State → Option (B × State)) (n m : ℕ) (V : B → Type 0) → after word s.rest ≡ o → IsShallow n s.rest → Go word s g n m V
    → Within (option_map (λ r. record s { rest = r }) o >>= g) m V
word_at None word s g n m V e h f = tt
word_at (Some r) word s g n m V e h f = f r (split_shallow word r s n e h)

-- a reader behind a word
pub then_word : {B : Type 0} (word : List ℕ) (s : State) (g : State → Option (B × State)) (n m : ℕ) (V : B → Type 0) → IsShallow n s.rest → Go word s g n m V → Within (parse_word word s >>= g) m V
then_word word s g n m V h f = word_at (after word s.rest) word s g n m V refl h f

else_at : {B : Type 0} (o : Option (List ℕ)) (word : List ℕ) (s : State) (g : State → Option (B × State)) (other : Option (B × State)) (n m : ℕ) (V : B → Type 0)
    → after word s.rest ≡ o → IsShallow n s.rest → Go word s g n m V → Within other m V → Within (or_else (option_map (λ r. record s { rest = r }) o) g other) m V
else_at None word s g other n m V e h f x = x
else_at (Some r) word s g other n m V e h f x = f r (split_shallow word r s n e h)

-- a reader behind a word, or another one
pub else_word : {B : Type 0} (word : List ℕ) (s : State) (g : State → Option (B × State)) (other : Option (B × State)) (n m : ℕ) (V : B → Type 0)
    → IsShallow n s.rest → Go word s g n m V → Within other m V → Within (or_else (parse_word word s) g other) m V
else_word word s g other n m V h f x = else_at (after word s.rest) word s g other n m V refl h f x

done_at : {B : Type 0} (o : Option (List ℕ)) (word : List ℕ) (b : B) (s : State) (g : State → Option (B × State)) (n : ℕ) (V : B → Type 0)
    → after word s.rest ≡ o → IsShallow n s.rest → V b → Go word s g n n V → Within (or_done b s (option_map (λ r. record s { rest = r }) o) g) n V
done_at None word b s g n V e h v f = (v, h)
done_at (Some r) word b s g n V e h v f = f r (split_shallow word r s n e h)

-- what was read, or what a reader behind a word makes of it
pub done_word : {B : Type 0} (word : List ℕ) (b : B) (s : State) (g : State → Option (B × State)) (n : ℕ) (V : B → Type 0)
    → IsShallow n s.rest → V b → Go word s g n n V → Within (or_done b s (parse_word word s) g) n V
done_word word b s g n V h v f = done_at (after word s.rest) word b s g n V refl h v f
