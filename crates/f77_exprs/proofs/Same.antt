-- Readers that give the same on short texts, and never lengthen the rest.
use Rattle.std.proofs.Common.{◌≡◌, ℕ, ◌<◌, ◌≤◌, ◌+◌, List, [], ◌∷◌, length, refl, ap, ◌∙◌, subst, arith, Option, Some, None, Bool, true, false, if◌then◌else◌}
use Rattle.std.specs.Prelude.{option_map, nat_eq}
use Rattle.f77_ast.specs.declared.expr.BinaryOp.{BinaryOp}
use Rattle.f77_ast.specs.Operators.{binary_word}
use Rattle.f77_exprs.specs.Words.{after}
use Rattle.f77_exprs.specs.State.{State, Reader, parse_word, or_done, or_else, ◌>>=◌}
use Rattle.f77_exprs.specs.Operators.{one_of, or_other}

abbrev pub Within : {A : Type 0} → Option (A × State) → ℕ → Type 0
Within None k = Unit {0}
Within (Some r) k = length r.1.rest ≤ k

pub within-le : {A : Type 0} (o : Option (A × State)) (j k : ℕ) → Within o j → j ≤ k → Within o k
within-le None j k h l = tt
within-le (Some r) j k h l = omega (arith, h)

pub record Same {A : Type 0} (b : ℕ) (R S : Reader A) : Type 0 where
  pub same : (s : State) → length s.rest < b → R s ≡ S s
  pub within : (s : State) → Within (R s) (length s.rest)

pub fixed : {A : Type 0} (b : ℕ) (R : Reader A) → ((s : State) → Within (R s) (length s.rest)) → Same b R R
fixed b R h = record { same = λ s l. refl; within = h }

pub weaker : {A : Type 0} (b c : ℕ) (R S : Reader A) → b ≤ c → Same c R S → Same b R S
weaker b c R S l x = record { same = λ s h. x.same s (omega (arith, h, l)); within = x.within }

bind_at : {A B : Type 0} (o : Option A) (f g : A → Option B) → ((a : A) → o ≡ Some a → f a ≡ g a) → (o >>= f) ≡ (o >>= g)
bind_at None f g h = refl
bind_at (Some a) f g h = h a refl

bind-within : {A B : Type 0} (o : Option (A × State)) (f : A × State → Option (B × State)) (k : ℕ) → Within o k
    → ((a : A × State) → o ≡ Some a → Within (f a) (length a.1.rest)) → Within (o >>= f) k
bind-within None f k h g = tt
bind-within (Some a) f k h g = within-le (f a) (length a.1.rest) k (g a refl) h

pub seq : {A B : Type 0} (b : ℕ) (R S : Reader A) (F G : A → Reader B) → Same b R S → ((a : A) → Same b (F a) (G a))
    → Same b (λ s. R s >>= λ r. F r.0 r.1) (λ s. S s >>= λ r. G r.0 r.1)
seq b R S F G x y = record {
  same = λ s h. bind_at (R s) (λ r. F r.0 r.1) (λ r. G r.0 r.1)
      (λ r e. let w : length r.1.rest ≤ length s.rest = subst (λ o. Within o (length s.rest)) e (x.within s) in (y r.0).same r.1 (omega (arith, w, h)))
      ∙ ap (λ o. o >>= λ r. G r.0 r.1) (x.same s h);
  within = λ s. bind-within (R s) (λ r. F r.0 r.1) (length s.rest) (x.within s) (λ r e. (y r.0).within r.1);
}

taken_by : (t : Bool) (x c : ℕ) (w cs rest : List ℕ) → (if t then after w cs else None) ≡ Some rest → (after w cs ≡ Some rest → length rest + length w ≡ length cs)
    → length rest + length (x ∷ w) ≡ length (c ∷ cs)
taken_by true x c w cs rest e ih = omega (arith, ih e)
taken_by false x c w cs rest e ih = cc

after-length : (w text rest : List ℕ) → after w text ≡ Some rest → length rest + length w ≡ length text
after-length [] text rest h = let e : text ≡ rest = cc in omega (arith, ap length e)
after-length (x ∷ w) [] rest h = cc
after-length (x ∷ w) (c ∷ cs) rest h = taken_by (nat_eq c x) x c w cs rest h (after-length w cs rest)

abbrev pub Taken : Option State → ℕ → Type 0
Taken None k = Unit {0}
Taken (Some t) k = length t.rest < k

taken_at : (w text : List ℕ) (s : State) (o : Option (List ℕ)) → ((r : List ℕ) → o ≡ Some r → length r < length s.rest)
    → Taken (option_map (λ r. record s { rest = r }) o) (length s.rest)
taken_at w text s None h = tt
taken_at w text s (Some r) h = h r refl

-- a word that was taken shortens the rest
pub taken : (c : ℕ) (w : List ℕ) (s : State) → Taken (parse_word (c ∷ w) s) (length s.rest)
taken c w s = taken_at w s.rest s (after (c ∷ w) s.rest) (λ r e. omega (arith, after-length (c ∷ w) s.rest r e))

items_at : {A : Type 0} (b : ℕ) (a : A) (s : State) (o : Option State) (F G : Reader A) → Taken o (length s.rest) → Same b F G → length s.rest < b + 1
    → or_done a s o F ≡ or_done a s o G
items_at b a s None F G t x h = refl
items_at b a s (Some u) F G t x h = x.same u (omega (arith, t, h))

items-within : {A : Type 0} (a : A) (s : State) (o : Option State) (F : Reader A) → Taken o (length s.rest) → ((u : State) → Within (F u) (length u.rest))
    → Within (or_done a s o F) (length s.rest)
items-within a s None F t x = omega arith
items-within a s (Some u) F t x = within-le (F u) (length u.rest) (length s.rest) (x u) (omega (arith, t))

-- what stands behind a word, or nothing
pub behind : {A : Type 0} (b : ℕ) (c : ℕ) (w : List ℕ) (a : A) (F G : Reader A) → Same b F G
    → Same (b + 1) (λ s. or_done a s (parse_word (c ∷ w) s) F) (λ s. or_done a s (parse_word (c ∷ w) s) G)
behind b c w a F G x = record {
  same = λ s h. items_at b a s (parse_word (c ∷ w) s) F G (taken c w s) x h;
  within = λ s. items-within a s (parse_word (c ∷ w) s) F (taken c w s) x.within;
}

else_at : {A : Type 0} (b : ℕ) (s : State) (o : Option State) (F G : Reader A) (p q : Option (A × State)) → Taken o (length s.rest) → Same b F G → p ≡ q → length s.rest < b + 1
    → or_else o F p ≡ or_else o G q
else_at b s None F G p q t x e h = e
else_at b s (Some u) F G p q t x e h = x.same u (omega (arith, t, h))

else-within : {A : Type 0} (s : State) (o : Option State) (F : Reader A) (p : Option (A × State)) → Taken o (length s.rest) → ((u : State) → Within (F u) (length u.rest))
    → Within p (length s.rest) → Within (or_else o F p) (length s.rest)
else-within s None F p t x y = y
else-within s (Some u) F p t x y = within-le (F u) (length u.rest) (length s.rest) (x u) (omega (arith, t))

pub either : {A : Type 0} (b : ℕ) (c : ℕ) (w : List ℕ) (F G P Q : Reader A) → Same b F G → Same (b + 1) P Q
    → Same (b + 1) (λ s. or_else (parse_word (c ∷ w) s) F (P s)) (λ s. or_else (parse_word (c ∷ w) s) G (Q s))
either b c w F G P Q x y = record {
  same = λ s h. else_at b s (parse_word (c ∷ w) s) F G (P s) (Q s) (taken c w s) x (y.same s h) h;
  within = λ s. else-within s (parse_word (c ∷ w) s) F (P s) (taken c w s) x.within (y.within s);
}

word_at : (w : List ℕ) (s : State) (o : Option (List ℕ)) → ((r : List ℕ) → o ≡ Some r → length r ≤ length s.rest)
    → (t : State) → option_map (λ r. record s { rest = r }) o ≡ Some t → length t.rest ≤ length s.rest
word_at w s None h t e = cc
word_at w s (Some r) h t e = let f : r ≡ t.rest = cc in let g = h r refl in omega (arith, g, ap length f)

pub word-le : (w : List ℕ) (s : State) (t : State) → parse_word w s ≡ Some t → length t.rest ≤ length s.rest
word-le w s t e = word_at w s (after w s.rest) (λ r e. omega (arith, after-length w s.rest r e)) t e

left_at : {A : Type 0} (b : ℕ) (a : A) (s : State) (o : Option (BinaryOp × State)) (F G : BinaryOp → Reader A) → Within o (length s.rest) → ((op : BinaryOp) → Same b (F op) (G op)) → length s.rest < b
    → or_done a s o (λ u. F u.0 u.1) ≡ or_done a s o (λ u. G u.0 u.1)
left_at b a s None F G t x h = refl
left_at b a s (Some u) F G t x h = (x u.0).same u.1 (omega (arith, t, h))

left-within : {A : Type 0} (a : A) (s : State) (o : Option (BinaryOp × State)) (F : BinaryOp → Reader A) → Within o (length s.rest) → ((op : BinaryOp) (u : State) → Within (F op u) (length u.rest))
    → Within (or_done a s o (λ u. F u.0 u.1)) (length s.rest)
left-within a s None F t x = omega arith
left-within a s (Some u) F t x = within-le (F u.0 u.1) (length u.1.rest) (length s.rest) (x u.0 u.1) t

other-within : (o : Option State) (op : BinaryOp) (p : Option (BinaryOp × State)) (k : ℕ) → ((t : State) → o ≡ Some t → length t.rest ≤ k) → Within p k → Within (or_other op o p) k
other-within None op p k h y = y
other-within (Some t) op p k h y = h t refl

one_of-within : (ops : List BinaryOp) (s : State) → Within (one_of ops s) (length s.rest)
one_of-within [] s = tt
one_of-within (op ∷ ops) s = other-within (parse_word (binary_word op) s) op (one_of ops s) (length s.rest) (word-le (binary_word op) s) (one_of-within ops s)

-- what stands behind an operator, or nothing
pub operated : {A : Type 0} (b : ℕ) (ops : List BinaryOp) (a : A) (F G : BinaryOp → Reader A) → ((op : BinaryOp) → Same b (F op) (G op))
    → Same b (λ s. or_done a s (one_of ops s) (λ u. F u.0 u.1)) (λ s. or_done a s (one_of ops s) (λ u. G u.0 u.1))
operated b ops a F G x = record {
  same = λ s h. left_at b a s (one_of ops s) F G (one_of-within ops s) x h;
  within = λ s. left-within a s (one_of ops s) F (one_of-within ops s) (λ op. (x op).within);
}

-- a reader that is told how long the rest is
pub counted : {A : Type 0} (b : ℕ) (F G : ℕ → Reader A) → ((n : ℕ) → Same b (F n) (G n)) → Same b (λ s. F (length s.rest) s) (λ s. G (length s.rest) s)
counted b F G x = record { same = λ s h. (x (length s.rest)).same s h; within = λ s. (x (length s.rest)).within s }
