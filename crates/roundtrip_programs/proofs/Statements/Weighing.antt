-- What is read and what is left weigh no more than what was there.
use Rattle.std.proofs.Common.{◌≡◌, ℕ, ◌+◌, ◌≤◌, List, [], ◌∷◌, ◌++◌, refl, ap, ◌∙◌, arith, Option, Some, None}
use Rattle.std.specs.Prelude.{option_map}
use Rattle.f77_exprs.specs.Words.{after}
use Rattle.f77_exprs.specs.State.{State, Reader, parse_word, or_done, or_else, ◌>>=◌}
use Rattle.roundtrip_programs.specs.Statements.Weights.{Weight, weigh}
use Rattle.roundtrip_programs.proofs.Statements.TypedFormed.{splits}

module _ (w : Weight) where
  pub weigh-append : (a b : List ℕ) → weigh w (a ++ b) ≡ weigh w a + weigh w b
  weigh-append [] b = omega arith
  weigh-append (c ∷ cs) b = omega (arith, weigh-append cs b)

  -- the value weighs v, and with what is left at most b
  abbrev pub Within : {A : Type 0} → Option (A × State) → ℕ → (A → ℕ) → Type 0
  Within None b v = Unit {0}
  Within (Some r) b v = v r.0 + weigh w r.1.rest ≤ b

  -- a reader whose value weighs u, at each place and with any weight before it
  abbrev pub Light : {A : Type 0} → Reader A → (A → ℕ) → Type 0
  Light R u = (e : ℕ) (s : State) → Within (R s) (e + weigh w s.rest) (λ a. e + u a)

  pub widen : {B : Type 0} (o : Option (B × State)) (a b : ℕ) (v : B → ℕ) → a ≤ b → Within o a v → Within o b v
  widen None a b v h x = tt
  widen (Some r) a b v h x = omega arith

  pub lower : {B : Type 0} (o : Option (B × State)) (b : ℕ) (u v : B → ℕ) → ((a : B) → v a ≤ u a) → Within o b u → Within o b v
  lower None b u v h x = tt
  lower (Some r) b u v h x = let l = h r.0 in omega arith

  pub seq : {A B : Type 0} (o : Option (A × State)) (g : A × State → Option (B × State)) (b : ℕ) (u : A → ℕ) (v : B → ℕ)
      → Within o b u → ((r : A × State) → Within (g r) (u r.0 + weigh w r.1.rest) v) → Within (o >>= g) b v
  seq None g b u v h f = tt
  seq (Some r) g b u v h f = widen (g r) (u r.0 + weigh w r.1.rest) b v h (f r)

  -- one reader behind another
  pub then_read : {A B : Type 0} (R : Reader A) (u : A → ℕ) (g : A × State → Option (B × State)) (s : State) (e : ℕ) (v : B → ℕ)
      → Light R u → ((r : A × State) → Within (g r) ((e + u r.0) + weigh w r.1.rest) v) → Within (R s >>= g) (e + weigh w s.rest) v
  then_read R u g s e v h f = seq (R s) g (e + weigh w s.rest) (λ a. e + u a) v (h e s) f

  -- what stands behind a word
  abbrev pub Go : {B : Type 0} → List ℕ → State → (State → Option (B × State)) → ℕ → (B → ℕ) → Type 0
  Go word s g e v = (r : List ℕ) → Within (g (record s { rest = r })) ((e + weigh w word) + weigh w r) v

  gone : {B : Type 0} (word r : List ℕ) (s : State) (g : State → Option (B × State)) (e : ℕ) (v : B → ℕ) → after word s.rest ≡ Some r → Go word s g e v
      → Within (g (record s { rest = r })) (e + weigh w s.rest) v
  gone word r s g e v h f =
      let q : weigh w s.rest ≡ weigh w word + weigh w r = ap (weigh w) (splits word s.rest r h) ∙ weigh-append word r in
      widen (g (record s { rest = r })) ((e + weigh w word) + weigh w r) (e + weigh w s.rest) v (omega arith) (f r)

  word_at : {B : Type 0} (o : Option (List ℕ)) (word : List ℕ) (s : State) (g : State → Option (B × State)) (e : ℕ) (v : B → ℕ) → after word s.rest ≡ o → Go word s g e v
      → Within (option_map (λ r. record s { rest = r }) o >>= g) (e + weigh w s.rest) v
  word_at None word s g e v h f = tt
  word_at (Some r) word s g e v h f = gone word r s g e v h f

  -- a reader behind a word
  pub then_word : {B : Type 0} (word : List ℕ) (s : State) (g : State → Option (B × State)) (e : ℕ) (v : B → ℕ) → Go word s g e v
      → Within (parse_word word s >>= g) (e + weigh w s.rest) v
  then_word word s g e v f = word_at (after word s.rest) word s g e v refl f

  else_at : {B : Type 0} (o : Option (List ℕ)) (word : List ℕ) (s : State) (g : State → Option (B × State)) (other : Option (B × State)) (e : ℕ) (v : B → ℕ)
      → after word s.rest ≡ o → Go word s g e v → Within other (e + weigh w s.rest) v → Within (or_else (option_map (λ r. record s { rest = r }) o) g other) (e + weigh w s.rest) v
  else_at None word s g other e v h f x = x
  else_at (Some r) word s g other e v h f x = gone word r s g e v h f

  -- a reader behind a word, or another one
  pub else_word : {B : Type 0} (word : List ℕ) (s : State) (g : State → Option (B × State)) (other : Option (B × State)) (e : ℕ) (v : B → ℕ)
      → Go word s g e v → Within other (e + weigh w s.rest) v → Within (or_else (parse_word word s) g other) (e + weigh w s.rest) v
  else_word word s g other e v f x = else_at (after word s.rest) word s g other e v refl f x

  done_at : {B : Type 0} (o : Option (List ℕ)) (word : List ℕ) (b : B) (s : State) (g : State → Option (B × State)) (e : ℕ) (v : B → ℕ)
      → after word s.rest ≡ o → v b ≤ e → Go word s g e v → Within (or_done b s (option_map (λ r. record s { rest = r }) o) g) (e + weigh w s.rest) v
  done_at None word b s g e v h l f = omega arith
  done_at (Some r) word b s g e v h l f = gone word r s g e v h f

  -- what was read, or what a reader behind a word makes of it
  pub done_word : {B : Type 0} (word : List ℕ) (b : B) (s : State) (g : State → Option (B × State)) (e : ℕ) (v : B → ℕ)
      → v b ≤ e → Go word s g e v → Within (or_done b s (parse_word word s) g) (e + weigh w s.rest) v
  done_word word b s g e v l f = done_at (after word s.rest) word b s g e v refl l f
