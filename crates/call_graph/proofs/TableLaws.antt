-- The table has what leads where.
use Rattle.std.proofs.Common.{◌≡◌, ℕ, zero, suc, ◌+◌, ◌-◌, ◌<◌, ◌≤◌, Bool, true, false, ◌||◌, List, [], ◌∷◌, length, get_or, Option, Some, None, refl, sym, ap, ◌∙◌, subst, arith, add-one}
use Rattle.std.specs.Prelude.{nat_eq, nat_lt, if◌then◌else◌}
use Rattle.std.specs.List.{list_any}
use Rattle.std.proofs.lemmas.Bool.Decides.{nat_tests}
use Rattle.f77_ast.specs.DeclTrees.{ParsedTree}
use Rattle.f77_ast.specs.Symbols.{number_from}
use Rattle.call_graph.specs.declared.calls.Called.{Called}
use Rattle.call_graph.specs.Recursion.{callees_at, leads, reaches, is_back, cyclic_in, cyclic_at, cyclic_from}
use Rattle.call_graph.specs.Tables.{cell, longer_cell, row_from, rows_from, longer, table_after}

-- ---- loops that count up

pub row_step : (table : List (List Bool)) (cs : List ℕ) (from to size : ℕ) → to < size → row_from table cs from to (size - to) ≡ longer_cell table cs from to ∷ row_from table cs from (to + 1) (size - (to + 1))
row_step table cs from to size h = let e : size - to ≡ suc (size - (to + 1)) = omega arith in rw (e, add-one) refl

pub row_end : (table : List (List Bool)) (cs : List ℕ) (from to size : ℕ) → size ≤ to → row_from table cs from to (size - to) ≡ []
row_end table cs from to size h = let e : size - to ≡ zero = omega arith in rw e refl

pub ruleset row_steps = (row_step, row_end)

pub table_step : (r n : ℕ) (css : List (List ℕ)) (table : List (List Bool)) → r < n → table_after (n - r) css table ≡ table_after (n - (r + 1)) css (longer css table)
table_step r n css table h = let e : n - r ≡ suc (n - (r + 1)) = omega arith in rw e refl

pub table_end : (r n : ℕ) (css : List (List ℕ)) (table : List (List Bool)) → n ≤ r → table_after (n - r) css table ≡ table
table_end r n css table h = let e : n - r ≡ zero = omega arith in rw e refl

-- where one call more changes nothing, no further one does
pub settled : (t : ℕ) (css : List (List ℕ)) (table : List (List Bool)) → longer css table ≡ table → table_after t css table ≡ table
settled zero css table e = refl
settled (suc t) css table e = ap (table_after t css) e ∙ settled t css table e

pub ruleset table_steps = (table_step, table_end)

-- ---- cells

any_same : (f g : ℕ → Bool) (xs : List ℕ) → ((x : ℕ) → f x ≡ g x) → list_any f xs ≡ list_any g xs
any_same f g [] h = refl
any_same f g (x ∷ xs) h = λ i. h x i || any_same f g xs h i

row-in : (table : List (List Bool)) (cs : List ℕ) (from to n j : ℕ) → j < n → get_or (row_from table cs from to n) j false ≡ (nat_eq from (to + j) || list_any (λ c. cell table c (to + j)) cs)
row-in table cs from to zero j h = absurd (omega (arith, h))
row-in table cs from to (suc n) zero h =
    let e : to ≡ to + zero = omega arith in ap (λ m. nat_eq from m || list_any (λ c. cell table c m) cs) e
row-in table cs from to (suc n) (suc j) h =
    let e : suc to + j ≡ to + suc j = omega arith in
    row-in table cs from (suc to) n j (omega (arith, h)) ∙ ap (λ m. nat_eq from m || list_any (λ c. cell table c m) cs) e

rows-in : (table : List (List Bool)) (n from : ℕ) (css : List (List ℕ)) (i j : ℕ) → i < length css → j < n → get_or (get_or (rows_from table n from css) i []) j false ≡ (nat_eq (from + i) j || list_any (λ c. cell table c j) (get_or css i []))
rows-in table n from [] i j h k = absurd (omega (arith, h))
rows-in table n from (cs ∷ css) zero j h k =
    let e : from ≡ from + zero = omega arith in
    let f : 0 + j ≡ j = omega arith in
    row-in table cs from 0 n j k ∙ ap (λ m. nat_eq from m || list_any (λ c. cell table c m) cs) f ∙ ap (λ m. nat_eq m j || list_any (λ c. cell table c j) cs) e
rows-in table n from (cs ∷ css) (suc i) j h k =
    let e : suc from + i ≡ from + suc i = omega arith in
    rows-in table n (suc from) css i j (omega (arith, h)) k ∙ ap (λ m. nat_eq m j || list_any (λ c. cell table c j) (get_or css i [])) e

rows-past : (table : List (List Bool)) (n from : ℕ) (css : List (List ℕ)) (i : ℕ) → length css ≤ i → get_or (rows_from table n from css) i [] ≡ []
rows-past table n from [] i h = refl
rows-past table n from (cs ∷ css) zero h = absurd (omega (arith, h))
rows-past table n from (cs ∷ css) (suc i) h = rows-past table n (suc from) css i (omega (arith, h))

pub callees-past : (css : List (List ℕ)) (i : ℕ) → length css ≤ i → get_or css i [] ≡ []
callees-past [] i h = refl
callees-past (cs ∷ css) zero h = absurd (omega (arith, h))
callees-past (cs ∷ css) (suc i) h = callees-past css i (omega (arith, h))

differ : (i j : ℕ) → j < i → nat_eq i j ≡ false
differ i j h = grind (arith, nat_tests)

-- one call more
longer-leads : (t : ℕ) (css : List (List ℕ)) (table : List (List Bool)) → ((i j : ℕ) → j < length css → cell table i j ≡ leads t css i j) → (i j : ℕ) → j < length css → cell (longer css table) i j ≡ leads (suc t) css i j
longer-leads t css table same i j k = go (nat_lt i (length css)) refl
  where
    go : (b : Bool) → nat_lt i (length css) ≡ b → cell (longer css table) i j ≡ leads (suc t) css i j
    go true e =
        let h : i < length css = grind (arith, nat_tests) in
        let z : 0 + i ≡ i = omega arith in
        rows-in table (length css) 0 css i j h k ∙ ap (λ m. nat_eq m j || list_any (λ c. cell table c j) (get_or css i [])) z
        ∙ ap (λ b. nat_eq i j || b) (any_same (λ c. cell table c j) (λ c. leads t css c j) (get_or css i []) (λ c. same c j k))
    go false e =
        let h : length css ≤ i = grind (arith, nat_tests) in
        let past : get_or css i [] ≡ [] = callees-past css i h in
        let none : nat_eq i j ≡ false = differ i j (omega arith) in
        ap (λ r. get_or r j false) (rows-past table (length css) 0 css i h)
        ∙ sym (ap (λ b. b || list_any (λ c. leads t css c j) (get_or css i [])) none ∙ ap (λ cs. list_any (λ c. leads t css c j) cs) past)

after-leads : (t s r : ℕ) (css : List (List ℕ)) (table : List (List Bool)) → r ≡ t + s → ((i j : ℕ) → j < length css → cell table i j ≡ leads s css i j) → (i j : ℕ) → j < length css → cell (table_after t css table) i j ≡ leads r css i j
after-leads zero s r css table e same i j k = let z : s ≡ r = omega arith in same i j k ∙ ap (λ m. leads m css i j) z
after-leads (suc t) s r css table e same i j k =
    after-leads t (suc s) r css (longer css table) (omega arith) (longer-leads s css table same) i j k

pub table-reaches : (css : List (List ℕ)) (i j : ℕ) → j < length css → cell (table_after (length css) css []) i j ≡ reaches css i j
table-reaches css i j k = after-leads (length css) 0 (length css) css [] (omega arith) (λ m n h. refl) i j k

-- ---- tests that say the same

back_same : (f g : ℕ → Bool) (o : Option ℕ) → ((c : ℕ) → f c ≡ g c) → is_back f o ≡ is_back g o
back_same f g None h = refl
back_same f g (Some c) h = h c

in_same : (f g : ℕ → Bool) (names : List (List ℕ)) (cs : List Called) → ((c : ℕ) → f c ≡ g c) → cyclic_in f names cs ≡ cyclic_in g names cs
in_same f g names [] h = refl
in_same f g names (c ∷ cs) h = λ i. if back_same f g (number_from 0 names c.callee) h i then Some c.at else in_same f g names cs h i

pub from_same : (f g : ℕ → ℕ → Bool) (n k : ℕ) (ps : List ParsedTree) (css : List (List Called)) (names : List (List ℕ)) → ((c to : ℕ) → to < n → f c to ≡ g c to) → k + length css ≤ n → cyclic_from f k ps css names ≡ cyclic_from g k ps css names
from_same f g n k [] css names h r = refl
from_same f g n k (p ∷ ps) [] names h r = refl
from_same f g n k (p ∷ ps) (cs ∷ css) names h r =
    let here = in_same (λ c. f c k) (λ c. g c k) names cs (λ c. h c k (omega (arith, r))) in
    let later = from_same f g n (suc k) ps css names h (omega (arith, r)) in
    λ i. cyclic_at k p (here i) (later i)
