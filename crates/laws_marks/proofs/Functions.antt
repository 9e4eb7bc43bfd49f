-- The names of functions of which the iterations of a DO have the results for themselves.
use Rattle.std.proofs.Common.{◌≡◌, ℕ, zero, suc, ◌-◌, ◌||◌, Bool, true, false, List, [], ◌∷◌, Option, Some, None, arith, refl, sym, ap, ◌∙◌, subst, true≢false, bytes_eq}
use Rattle.std.specs.Prelude.{if◌then◌else◌, slice_get, slice_index_or, unwrap_or}
use Rattle.std.specs.List.{list_any}
use Rattle.std.proofs.lemmas.Slice.Eq.{bytes_eq-Decides}
use Rattle.system_text.specs.SystemText.{name_at}
use Rattle.f77_ast.specs.Trees.{LoopTree}
use Rattle.f77_ast.specs.DeclTrees.{ModuleTree}
use Rattle.f77_ast.specs.Places.{Variable, Function}
use Rattle.f77_ast.specs.Symbols.{SymbolTree, number_from}
use Rattle.f77_ast.specs.Shared.{symbol_at}
use Rattle.f77_ast.proofs.StorageLaws.{from_number}
use Rattle.f77_meaning.specs.Modules.{meant_in, names, symbol_names}
use Rattle.preconditions.specs.transformer_algebra.Laws.{In, here, there}
use Rattle.loop_marker.specs.privatizer.Functions.{is_function, is_one_of, own_functions}
use Rattle.loop_marker.specs.Jumps.{body_of}
use Rattle.loop_marker.specs.Marks.{is_other_name, symbol_is_other}
use Rattle.result_lines.specs.ShownMarks.{shown_numbers}
use Rattle.fx_lists.proofs.Booleans.{plain_from}
use Rattle.laws_analyses.proofs.NameLaws.{name_number}

-- ---- symbols and names

function_variable : (n : ℕ) → Function ≡ Variable n → ⊥
function_variable n e = cc

meant_there : (ss : List SymbolTree) (y : List ℕ) (v : ℕ) → names ss y ≡ Variable v → meant_in ss (Some v) ≡ Variable v
meant_there ss y v e = ap (meant_in ss) (sym (name_number ss y v e)) ∙ e

no_zero : (ss : List SymbolTree) (v : ℕ) → v ≡ 0 → meant_in ss (Some v) ≡ Variable v → ⊥
no_zero ss v z e = function_variable 0 (subst (λ n. meant_in ss (Some n) ≡ Variable n) z e)

-- a name that has the number of a variable stands for it
pub number_means : (ss : List SymbolTree) (y x : List ℕ) (v : ℕ) → names ss y ≡ Variable v → v ≡ unwrap_or (number_from 1 (symbol_names ss) x) 0 → names ss x ≡ Variable v
number_means ss y x v e same = go (number_from 1 (symbol_names ss) x) same
  where
    go : (o : Option ℕ) → v ≡ unwrap_or o 0 → meant_in ss o ≡ Variable v
    go None h = absurd (no_zero ss v h (meant_there ss y v e))
    go (Some n) h = subst (λ i. meant_in ss (Some i) ≡ Variable v) h (meant_there ss y v e)

got_name : (ss : List SymbolTree) (k : ℕ) (s : SymbolTree) → slice_get ss k ≡ Some s → slice_index_or (symbol_names ss) k [] ≡ s.name
got_name [] k s e = cc
got_name (x ∷ xs) zero s e = (let same : x ≡ s = cc in ap (λ (y : SymbolTree). y.name) same)
got_name (x ∷ xs) (suc k) s e = got_name xs k s e

pub symbol_name : (ss : List SymbolTree) (n : ℕ) (s : SymbolTree) → symbol_at ss n ≡ Some s → name_at (symbol_names ss) n ≡ s.name
symbol_name ss zero s e = cc
symbol_name ss (suc k) s e = got_name ss k s (ap (slice_get ss) (one_less k) ∙ from_number ss (suc k) s e)
  where
    one_less : (k : ℕ) → k ≡ suc k - 1
    one_less k = omega arith

-- ---- names of functions

listed : (x : List ℕ) (xs : List (List ℕ)) → list_any (bytes_eq x) xs ≡ true → In x xs
listed x [] e = absurd (true≢false (sym e))
listed x (y ∷ ys) e = go (bytes_eq x y) refl e (listed x ys)
  where
    go : (b : Bool) → bytes_eq x y ≡ b → (b || list_any (bytes_eq x) ys) ≡ true → (list_any (bytes_eq x) ys ≡ true → In x ys) → In x (y ∷ ys)
    go true w q ih = subst (λ (z : List ℕ). In x (z ∷ ys)) ((bytes_eq-Decides x y).0 w) here
    go false w q ih = there (ih q)

-- a function of which the module takes a value is one of those of the body, unless it is another
pub own_there : (m : ModuleTree) (l : LoopTree) (ss : List SymbolTree) (n : ℕ) (s : SymbolTree) → symbol_at ss n ≡ Some s → symbol_is_other m l (symbol_at ss n) ≡ false → is_function m (name_at (symbol_names ss) n) ≡ true →
    In (name_at (symbol_names ss) n) (own_functions m (body_of l))
own_there m l ss n s e other is =
    let same = symbol_name ss n s e in
    let not_other : is_other_name m l s.name ≡ false = ap (symbol_is_other m l) (sym e) ∙ other in
    let own = plain_from (is_function m s.name) (is_one_of (own_functions m (body_of l)) s.name) not_other (subst (λ (x : List ℕ). is_function m x ≡ true) same is) in
    subst (λ (x : List ℕ). In x (own_functions m (body_of l))) (sym same) (listed s.name (own_functions m (body_of l)) own)

-- ---- the numbers that a directive shows

more : (k : ℕ) (ns ms : List ℕ) (n : ℕ) → (In n ms → In n ns) → In n (k ∷ ms) → In n (k ∷ ns)
more k ns ms n h here = here
more k ns ms n h (there i) = there (h i)

pub shown_all : (m : ModuleTree) (names : List (List ℕ)) (ns : List ℕ) (n : ℕ) → In n (shown_numbers m names ns) → In n ns
shown_all m names [] n i = i
shown_all m names (k ∷ ns) n i = go (is_function m (name_at names k)) i (shown_all m names ns n)
  where
    go : (b : Bool) → In n (if b then shown_numbers m names ns else k ∷ shown_numbers m names ns) → (In n (shown_numbers m names ns) → In n ns) → In n (k ∷ ns)
    go true j ih = there (ih j)
    go false j ih = more k ns (shown_numbers m names ns) n ih j

pub shown_there : (m : ModuleTree) (names : List (List ℕ)) (ns : List ℕ) (n : ℕ) → is_function m (name_at names n) ≡ false → In n ns → In n (shown_numbers m names ns)
shown_there m names [] n e i = i
shown_there m names (k ∷ ns) n e here = subst (λ b. In n (if b then shown_numbers m names ns else n ∷ shown_numbers m names ns)) (sym e) here
shown_there m names (k ∷ ns) n e (there i) = go (is_function m (name_at names k)) (shown_there m names ns n e i)
  where
    go : (b : Bool) → In n (shown_numbers m names ns) → In n (if b then shown_numbers m names ns else k ∷ shown_numbers m names ns)
    go true j = j
    go false j = there j
