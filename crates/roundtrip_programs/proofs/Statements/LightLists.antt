-- Lists: their items and what stands between them weigh no more than what was there.
use Rattle.std.proofs.Common.{◌≡◌, ℕ, zero, suc, ◌+◌, ◌≤◌, List, [], ◌∷◌, ◌++◌, length, refl, ap, ◌∙◌, arith, Option, Some, None}
use Rattle.std.specs.Prelude.{codes, option_map}
use Rattle.f77_ast.specs.Trees.{ExprTree}
use Rattle.f77_ast.specs.Plain.{exprs_of}
use Rattle.f77_exprs.specs.Words.{after}
use Rattle.f77_exprs.specs.State.{State, Reader, parse_word, or_done, ◌>>=◌}
use Rattle.f77_exprs.specs.Grammar.{Between, comma, more_by, items_by, items}
use Rattle.f77_statements.specs.Lists.{ending, or_end, items_left, in_parentheses, maybe_in_parentheses, maybe_after_comma}
use Rattle.f77_printer.specs.ExprText.{expr_text, exprs_text, items_text}
use Rattle.f77_printer.specs.DeclText.{others_by, joined_by}
use Rattle.roundtrip_programs.specs.Statements.Weights.{Weight, weigh}
use Rattle.roundtrip_programs.proofs.Statements.TypedFormed.{splits}
use Rattle.roundtrip_programs.proofs.Statements.Weighing.{weigh-append, Within, Light, widen, lower, then_read, then_word, else_word, done_word}

-- each behind something that weighs d
abbrev pub led : {A : Type 0} → ℕ → (A → ℕ) → List A → ℕ
led d u [] = 0
led d u (x ∷ xs) = (d + u x) + led d u xs

-- something that weighs d between them
abbrev pub parted : {A : Type 0} → ℕ → (A → ℕ) → List A → ℕ
parted d u [] = 0
parted d u (x ∷ xs) = u x + led d u xs

pub led-push : {A : Type 0} (d : ℕ) (u : A → ℕ) (xs : List A) (x : A) → led d u (xs ++ x ∷ []) ≡ led d u xs + (d + u x)
led-push d u [] x = omega arith
led-push d u (y ∷ ys) x = omega (arith, led-push d u ys x)

-- what one item more adds to the weight of a list
abbrev pub Pushes : {A : Type 0} → ℕ → (A → ℕ) → (List A → ℕ) → Type 0
Pushes d u L = (xs : List _) (x : _) → L (xs ++ x ∷ []) ≤ L xs + (d + u x)

pub parted-push : {A : Type 0} (d : ℕ) (u : A → ℕ) → Pushes d u (parted d u)
parted-push d u [] x = omega arith
parted-push d u (y ∷ ys) x = omega (arith, led-push d u ys x)

pub parted_led : {A : Type 0} (d : ℕ) (u : A → ℕ) (xs : List A) → led d u xs ≤ d + parted d u xs
parted_led d u [] = omega arith
parted_led d u (x ∷ xs) = omega arith

module _ (w : Weight) where
  -- ---- their texts

  pub others_weight : {A : Type 0} (text : A → List ℕ) (xs : List A) → weigh w (others_by text xs) ≡ led (w.of 44) (λ x. weigh w (text x)) xs
  others_weight text [] = refl
  others_weight text (x ∷ xs) = omega (arith, weigh-append w (text x) (others_by text xs), others_weight text xs)

  pub joined_weight : {A : Type 0} (text : A → List ℕ) (xs : List A) → weigh w (joined_by text xs) ≡ parted (w.of 44) (λ x. weigh w (text x)) xs
  joined_weight text [] = refl
  joined_weight text (x ∷ xs) = omega (arith, weigh-append w (text x) (others_by text xs), others_weight text xs)

  abbrev pub ew : ExprTree → ℕ
  ew x = weigh w (expr_text x)

  pub items_weight : (xs : List ExprTree) → weigh w (items_text (exprs_of xs)) ≡ led (w.of 44) ew xs
  items_weight [] = refl
  items_weight (x ∷ xs) = omega (arith, weigh-append w (expr_text x) (items_text (exprs_of xs)), items_weight xs)

  pub exprs_weight : (xs : List ExprTree) → weigh w (exprs_text (exprs_of xs)) ≡ parted (w.of 44) ew xs
  exprs_weight [] = refl
  exprs_weight (x ∷ xs) = omega (arith, weigh-append w (expr_text x) (items_text (exprs_of xs)), items_weight xs)

  -- ---- what stands between two items

  abbrev pub Cost : ℕ → State → Option State → Type 0
  Cost d s None = Unit {0}
  Cost d s (Some t) = d + weigh w t.rest ≤ weigh w s.rest

  abbrev pub Costs : ℕ → Between → Type 0
  Costs d between = (s : State) → Cost d s (between s)

  cost_at : (o : Option (List ℕ)) (word : List ℕ) (s : State) → after word s.rest ≡ o → Cost (weigh w word) s (option_map (λ r. record s { rest = r }) o)
  cost_at None word s h = tt
  cost_at (Some r) word s h = let q : weigh w s.rest ≡ weigh w word + weigh w r = ap (weigh w) (splits word s.rest r h) ∙ weigh-append w word r in omega arith

  pub word_costs : (word : List ℕ) → Costs (weigh w word) (parse_word word)
  word_costs word s = cost_at (after word s.rest) word s refl

  pub cheaper : (d c : ℕ) (s : State) (o : Option State) → d ≤ c → Cost c s o → Cost d s o
  cheaper d c s None h x = tt
  cheaper d c s (Some t) h x = omega arith

  pub comma_costs : Costs (w.of 44) comma
  comma_costs s = cheaper (w.of 44) (weigh w (codes ",")) s (parse_word (codes ",") s) (omega arith) (word_costs (codes ",") s)

  done_between : {B : Type 0} (o : Option State) (b : B) (s : State) (go : State → Option (B × State)) (d e : ℕ) (v : B → ℕ) → Cost d s o → v b ≤ e
      → ((t : State) → Within w (go t) ((e + d) + weigh w t.rest) v) → Within w (or_done b s o go) (e + weigh w s.rest) v
  done_between None b s go d e v c l f = omega arith
  done_between (Some t) b s go d e v c l f = widen w (go t) ((e + d) + weigh w t.rest) (e + weigh w s.rest) v (omega arith) (f t)

  -- ---- lists

  pub more_by-light : {A : Type 0} (between : Between) (one : Reader A) (d : ℕ) (u : A → ℕ) (L : List A → ℕ) → Costs d between → Light w one u → Pushes d u L
      → (n : ℕ) (found : List A) (e : ℕ) (s : State) → Within w (more_by between one n found s) ((e + L found) + weigh w s.rest) (λ xs. e + L xs)
  unfolding more_by
  more_by-light between one d u L c h push zero found e s = omega arith
  more_by-light between one d u L c h push (suc n) found e s =
      done_between (between s) found s (λ t. one t >>= λ r. more_by between one n (found ++ r.0 ∷ []) r.1) d (e + L found) (λ xs. e + L xs) (c s) (omega arith)
      (λ t. then_read w one u (λ r. more_by between one n (found ++ r.0 ∷ []) r.1) t ((e + L found) + d) (λ xs. e + L xs) h
      (λ r. let p = push found r.0 in
      widen w (more_by between one n (found ++ r.0 ∷ []) r.1) ((e + L (found ++ r.0 ∷ [])) + weigh w r.1.rest) ((((e + L found) + d) + u r.0) + weigh w r.1.rest) (λ xs. e + L xs) (omega arith)
      (more_by-light between one d u L c h push n (found ++ r.0 ∷ []) e r.1)))

  pub items_by-light : {A : Type 0} (between : Between) (one : Reader A) (d : ℕ) (u : A → ℕ) → Costs d between → Light w one u → Light w (items_by between one) (parted d u)
  unfolding items_by
  items_by-light between one d u c h e s =
      then_read w one u (λ x. more_by between one (length x.1.rest) (x.0 ∷ []) x.1) s e (λ xs. e + parted d u xs) h
      (λ x. widen w (more_by between one (length x.1.rest) (x.0 ∷ []) x.1) ((e + parted d u (x.0 ∷ [])) + weigh w x.1.rest) ((e + u x.0) + weigh w x.1.rest) (λ xs. e + parted d u xs) (omega arith)
      (more_by-light between one d u (parted d u) c h (parted-push d u) (length x.1.rest) (x.0 ∷ []) e x.1))

  pub items-light : {A : Type 0} (one : Reader A) (u : A → ℕ) → Light w one u → Light w (items one) (parted (w.of 44) u)
  items-light one u h = items_by-light comma one (w.of 44) u comma_costs h

  pub ending-light : {A : Type 0} (word : List ℕ) (one : Reader A) (u : A → ℕ) → Light w one u → Light w (ending word one) (λ x. u x + weigh w word)
  unfolding ending
  ending-light word one u h e s =
      then_read w one u (λ r. parse_word word r.1 >>= λ t. Some (r.0, t)) s e (λ x. e + (u x + weigh w word)) h
      (λ r. then_word w word r.1 (λ t. Some (r.0, t)) (e + u r.0) (λ x. e + (u x + weigh w word)) (λ t. omega arith))

  end_at : {A : Type 0} (t : List ℕ) (s : State) (a : A) (other : Option (A × State)) (e : ℕ) (v : A → ℕ) → v a ≤ e → Within w other (e + weigh w s.rest) v → Within w (or_end t s a other) (e + weigh w s.rest) v
  end_at [] s a other e v l h = omega arith
  end_at (x ∷ xs) s a other e v l h = h

  pub end_light : {A : Type 0} (s : State) (a : A) (other : Option (A × State)) (e : ℕ) (v : A → ℕ) → v a ≤ e → Within w other (e + weigh w s.rest) v → Within w (or_end s.rest s a other) (e + weigh w s.rest) v
  end_light s a other e v l h = end_at s.rest s a other e v l h

  pub items_left-light : {A : Type 0} (one : Reader A) (u : A → ℕ) → Light w one u → Light w (items_left one) (parted (w.of 44) u)
  unfolding items_left
  items_left-light one u h e s = end_light s [] (items one s) e (λ xs. e + parted (w.of 44) u xs) (omega arith) (items-light one u h e s)

  -- in parentheses, with the closing one
  pub closed-light : {A : Type 0} (one : Reader A) (u : A → ℕ) → Light w one u → Light w (in_parentheses one) (λ xs. parted (w.of 44) u xs + weigh w (codes ")"))
  unfolding in_parentheses
  closed-light one u h e s =
      else_word w (codes ")") s (λ t. Some ([], t)) (ending (codes ")") (items one) s) e (λ xs. e + (parted (w.of 44) u xs + weigh w (codes ")"))) (λ r. omega arith)
      (ending-light (codes ")") (items one) (parted (w.of 44) u) (items-light one u h) e s)

  -- in parentheses, where there are any
  abbrev pub wrapped : {A : Type 0} → (A → ℕ) → List A → ℕ
  wrapped u [] = 0
  wrapped u (x ∷ xs) = w.of 40 + (parted (w.of 44) u (x ∷ xs) + w.of 41)

  wrapped-le : {A : Type 0} (u : A → ℕ) (e : ℕ) (xs : List A) → e + wrapped u xs ≤ (e + weigh w (codes "(")) + (parted (w.of 44) u xs + weigh w (codes ")"))
  wrapped-le u e [] = omega arith
  wrapped-le u e (x ∷ xs) = omega arith

  enclosed-light : {A : Type 0} (one : Reader A) (u : A → ℕ) → Light w one u → (e : ℕ) (s : State)
      → Within w (in_parentheses one s) ((e + weigh w (codes "(")) + weigh w s.rest) (λ xs. e + wrapped u xs)
  unfolding in_parentheses
  enclosed-light one u h e s =
      let b : ℕ = e + weigh w (codes "(") in
      else_word w (codes ")") s (λ t. Some ([], t)) (ending (codes ")") (items one) s) b (λ xs. e + wrapped u xs) (λ r. omega arith)
      (lower w (ending (codes ")") (items one) s) (b + weigh w s.rest) (λ xs. b + (parted (w.of 44) u xs + weigh w (codes ")"))) (λ xs. e + wrapped u xs) (wrapped-le u e)
      (ending-light (codes ")") (items one) (parted (w.of 44) u) (items-light one u h) b s))

  pub maybe_enclosed-light : {A : Type 0} (one : Reader A) (u : A → ℕ) → Light w one u → Light w (maybe_in_parentheses one) (wrapped u)
  unfolding maybe_in_parentheses
  maybe_enclosed-light one u h e s = done_word w (codes "(") [] s (in_parentheses one) e (λ xs. e + wrapped u xs) (omega arith) (λ r. enclosed-light one u h e (record s { rest = r }))

  pub maybe_listed-light : {A : Type 0} (one : Reader A) (u : A → ℕ) → Light w one u → Light w (maybe_after_comma one) (led (w.of 44) u)
  unfolding maybe_after_comma
  maybe_listed-light one u h e s =
      done_word w (codes ",") [] s (items one) e (λ xs. e + led (w.of 44) u xs) (omega arith)
      (λ r. let t : State = record s { rest = r } in
      lower w (items one t) ((e + weigh w (codes ",")) + weigh w r) (λ xs. (e + weigh w (codes ",")) + parted (w.of 44) u xs) (λ xs. e + led (w.of 44) u xs)
      (λ xs. omega (arith, parted_led (w.of 44) u xs)) (items-light one u h (e + weigh w (codes ",")) t))
