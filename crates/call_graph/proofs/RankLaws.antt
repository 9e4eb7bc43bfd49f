-- Where ranks fall along each CALL, no calls lead back.
use Rattle.std.proofs.Common.{◌≡◌, ℕ, zero, suc, ◌+◌, ◌<◌, ◌≤◌, Bool, true, false, ◌&&◌, ◌||◌, List, [], ◌∷◌, length, get_or, Option, Some, None, refl, ap, ◌∙◌, subst, arith}
use Rattle.std.specs.Prelude.{nat_eq, nat_lt, if◌then◌else◌}
use Rattle.std.specs.List.{list_any}
use Rattle.std.proofs.lemmas.Bool.{eqb-true, and_parts}
use Rattle.std.proofs.lemmas.Bool.Decides.{nat_tests}
use Rattle.f77_ast.specs.DeclTrees.{ParsedTree}
use Rattle.f77_ast.specs.Symbols.{number_from}
use Rattle.call_graph.specs.declared.calls.Called.{Called}
use Rattle.call_graph.specs.Recursion.{callees_at, leads, reaches, is_back, cyclic_in, cyclic_at, cyclic_from}
use Rattle.call_graph.specs.Tables.{rank, are_below, fall_from, is_below, calls_below, calls_fall}

less : (m n : ℕ) → nat_lt m n ≡ true → m < n
less m n h = grind (arith, nat_tests)

-- the callees of a module have lower ranks
fall-at : (ranks : List ℕ) (k : ℕ) (css : List (List ℕ)) (i : ℕ) → fall_from ranks k css ≡ true → are_below ranks (rank ranks (k + i)) (get_or css i []) ≡ true
fall-at ranks k [] i h = refl
fall-at ranks k (cs ∷ css) zero h =
    let z : k ≡ k + zero = omega arith in
    subst (λ m. are_below ranks (rank ranks m) cs ≡ true) z (and_parts (are_below ranks (rank ranks k) cs) (fall_from ranks (suc k) css) h).0
fall-at ranks k (cs ∷ css) (suc i) h =
    let z : suc k + i ≡ k + suc i = omega arith in
    subst (λ m. are_below ranks (rank ranks m) (get_or css i []) ≡ true) z (fall-at ranks (suc k) css i (and_parts (are_below ranks (rank ranks k) cs) (fall_from ranks (suc k) css) h).1)

-- from one module to another the rank does not grow
any-fall : (ranks : List ℕ) (leading : ℕ → Bool) (to limit : ℕ) (cs : List ℕ) → ((c : ℕ) → leading c ≡ true → rank ranks to ≤ rank ranks c) → are_below ranks limit cs ≡ true → list_any leading cs ≡ true → rank ranks to ≤ limit
any-fall ranks leading to limit [] ih h e = cc
any-fall ranks leading to limit (c ∷ cs) ih h e = go (leading c) refl e (any-fall ranks leading to limit cs ih)
  where
    go : (b : Bool) → leading c ≡ b → (b || list_any leading cs) ≡ true → (are_below ranks limit cs ≡ true → list_any leading cs ≡ true → rank ranks to ≤ limit) → rank ranks to ≤ limit
    go true q r later = omega (arith, ih c q, less (rank ranks c) limit (and_parts (nat_lt (rank ranks c) limit) (are_below ranks limit cs) h).0)
    go false q r later = later (and_parts (nat_lt (rank ranks c) limit) (are_below ranks limit cs) h).1 r

leads-fall : (t : ℕ) (ranks : List ℕ) (css : List (List ℕ)) (from to : ℕ) → fall_from ranks 0 css ≡ true → leads t css from to ≡ true → rank ranks to ≤ rank ranks from
leads-fall zero ranks css from to h e = cc
leads-fall (suc t) ranks css from to h e = go (nat_eq from to) refl e (λ c. leads-fall t ranks css c to h)
  where
    go : (b : Bool) → nat_eq from to ≡ b → (b || list_any (λ c. leads t css c to) (callees_at css from)) ≡ true → ((c : ℕ) → leads t css c to ≡ true → rank ranks to ≤ rank ranks c) → rank ranks to ≤ rank ranks from
    go true q r ih = subst (λ m. rank ranks m ≤ rank ranks from) (eqb-true from to q) (omega arith)
    go false q r ih =
        let z : 0 + from ≡ from = omega arith in
        any-fall ranks (λ c. leads t css c to) to (rank ranks from) (callees_at css from) ih
        (subst (λ m. are_below ranks (rank ranks m) (get_or css from []) ≡ true) z (fall-at ranks 0 css from h)) r

not-back : (ranks : List ℕ) (css : List (List ℕ)) (k : ℕ) (o : Option ℕ) → fall_from ranks 0 css ≡ true → is_below ranks (rank ranks k) o ≡ true → is_back (λ c. reaches css c k) o ≡ false
not-back ranks css k None h e = refl
not-back ranks css k (Some c) h e = go (reaches css c k) refl
  where
    go : (b : Bool) → reaches css c k ≡ b → b ≡ false
    go true q = absurd (omega (arith, leads-fall (length css) ranks css c k h q, less (rank ranks c) (rank ranks k) e))
    go false q = refl

none-in : (ranks : List ℕ) (css : List (List ℕ)) (names : List (List ℕ)) (k : ℕ) (cs : List Called) → fall_from ranks 0 css ≡ true → calls_below ranks (rank ranks k) names cs ≡ true → cyclic_in (λ c. reaches css c k) names cs ≡ None
none-in ranks css names k [] h e = refl
none-in ranks css names k (c ∷ cs) h e =
    let both = and_parts (is_below ranks (rank ranks k) (number_from 0 names c.callee)) (calls_below ranks (rank ranks k) names cs) e in
    ap (λ b. if b then Some c.at else cyclic_in (λ d. reaches css d k) names cs) (not-back ranks css k (number_from 0 names c.callee) h both.0)
    ∙ none-in ranks css names k cs h both.1

pub none-from : (ranks : List ℕ) (css : List (List ℕ)) (k : ℕ) (ps : List ParsedTree) (calls : List (List Called)) (names : List (List ℕ)) → fall_from ranks 0 css ≡ true → calls_fall ranks k names calls ≡ true → cyclic_from (reaches css) k ps calls names ≡ None
none-from ranks css k [] calls names h e = refl
none-from ranks css k (p ∷ ps) [] names h e = refl
none-from ranks css k (p ∷ ps) (cs ∷ calls) names h e =
    let both = and_parts (calls_below ranks (rank ranks k) names cs) (calls_fall ranks (suc k) names calls) e in
    ap (λ o. cyclic_at k p o (cyclic_from (reaches css) (suc k) ps calls names)) (none-in ranks css names k cs h both.0)
    ∙ none-from ranks css (suc k) ps calls names h both.1
