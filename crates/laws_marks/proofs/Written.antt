-- The names of the symbols of a table stand for these.
use Rattle.std.proofs.Common.{◌≡◌, inl, ℕ, zero, suc, ◌+◌, ◌-◌, true, false, List, [], ◌∷◌, Some, arith, refl, sym, ap, ◌∙◌, subst}
use Rattle.std.specs.Prelude.{if◌then◌else◌, map, bytes_eq, slice_get, slice_index_or}
use Rattle.std.specs.List.{IsDistinct, AllByRecursion}
use Rattle.std.proofs.lemmas.Slice.Eq.{bytes_eq-Decides}
use Rattle.system_text.specs.SystemText.{name_at}
use Rattle.f77_ast.specs.Trees.{LoopTree}
use Rattle.f77_ast.specs.declared.symbol.Place.{Place as SymbolPlace}
use Rattle.f77_ast.specs.declared.symbol.Place.TheVariants as place
use Rattle.f77_ast.specs.Symbols.{SymbolTree, number_from}
use Rattle.f77_ast.specs.Shared.{symbol_at}
use Rattle.f77_ast.specs.Places.{Variable, Function}
use Rattle.f77_meaning.specs.Modules.{is_function, meant_by, meant_at, meant_in, names, symbol_names}
use Rattle.preconditions.specs.transformer_algebra.Laws.{In, here, there}
use Rattle.laws_analyses.proofs.NameLaws.{name_number}
use Rattle.laws_marks.specs.Units.{IsPassing}
use Rattle.laws_marks.specs.Named.{AreNamesOf}
use Rattle.fx_lists.proofs.Options.{some_same as same_number}
use Rattle.f77_ast.proofs.StorageLaws.{from_number as numbered_place}
use Rattle.call_graph.specs.Visible.{is_local}
use Rattle.fx_lists.proofs.Lists.{other_way as turned}

differs_there : (x : List ℕ) (ss : List SymbolTree) (k : ℕ) (s : SymbolTree) → slice_get ss k ≡ Some s → AllByRecursion (λ y. bytes_eq x y ≡ false) (symbol_names ss) → bytes_eq (slice_index_or (symbol_names ss) k []) x ≡ false
differs_there x [] k s e h = cc
differs_there x (y ∷ ys) zero s e h = turned x y.name h.0
differs_there x (y ∷ ys) (suc k) s e h = differs_there x ys k s e h.1

number_there : (ss : List SymbolTree) (k n : ℕ) (s : SymbolTree) → IsDistinct bytes_eq (symbol_names ss) → slice_get ss k ≡ Some s → number_from n (symbol_names ss) (slice_index_or (symbol_names ss) k []) ≡ Some (n + k)
unfolding IsDistinct
number_there [] k n s d e = cc
number_there (x ∷ xs) zero n s d e =
    ap (λ b. if b then Some n else number_from (suc n) (symbol_names xs) x.name) ((bytes_eq-Decides x.name x.name).1 refl) ∙ ap Some (none_more n)
  where
    none_more : (n : ℕ) → n ≡ n + 0
    none_more n = omega arith
number_there (x ∷ xs) (suc k) n s d e =
    ap (λ b. if b then Some n else number_from (suc n) (symbol_names xs) (slice_index_or (symbol_names xs) k [])) (differs_there x.name xs k s e d.0) ∙ (number_there xs k (suc n) s d.1 e ∙ ap Some (one_more n k))
  where
    one_more : (n k : ℕ) → suc n + k ≡ n + suc k
    one_more n k = omega arith

pub name_back : (ss : List SymbolTree) (n : ℕ) (s : SymbolTree) → IsDistinct bytes_eq (symbol_names ss) → symbol_at ss n ≡ Some s → number_from 1 (symbol_names ss) (name_at (symbol_names ss) n) ≡ Some n
name_back ss zero s d e = cc
name_back ss (suc k) s d e = number_there ss k 1 s d (ap (slice_get ss) (one_less k) ∙ numbered_place ss (suc k) s e) ∙ ap Some (one_more k)
  where
    one_less : (k : ℕ) → k ≡ suc k - 1
    one_less k = omega arith

    one_more : (k : ℕ) → 1 + k ≡ suc k
    one_more k = omega arith

-- the name of a local stands for it, unless it is that of an intrinsic function
pub name_means : (ss : List SymbolTree) (n : ℕ) (p : IsPassing ss n) → IsDistinct bytes_eq (symbol_names ss) → is_function p.symbol ≡ false → names ss (name_at (symbol_names ss) n) ≡ Variable n
name_means ss n p d e =
    ap (meant_in ss) (name_back ss n p.symbol d p.is_symbol) ∙ (ap (meant_at n) p.is_symbol ∙ (ap (λ b. if b then Function else meant_by p.symbol.scalar n p.symbol.place) e ∙ stored p.symbol.place p.local refl))
  where
    stored : (q : SymbolPlace) → is_local q ≡ true → p.symbol.place ≡ q → meant_by p.symbol.scalar n p.symbol.place ≡ Variable n
    stored (place.Local g o) h e = ap (meant_by p.symbol.scalar n) e
    stored (place.Dummy k) h e = cc
    stored (place.Block b o) h e = cc
    stored (place.Constant c) h e = cc

record Mapped (f : ℕ → List ℕ) (ns : List ℕ) (y : List ℕ) : Type 0 where
  number : ℕ
  is_one : In number ns
  is : f number ≡ y

mapped_one : (f : ℕ → List ℕ) (ns : List ℕ) (y : List ℕ) → In y (map f ns) → Mapped f ns y
mapped_one f [] y i = elim i [ ]
mapped_one f (n ∷ ns) y here = record { number = n; is_one = here; is = refl }
mapped_one f (n ∷ ns) y (there i) = (let q = mapped_one f ns y i in record { number = q.number; is_one = there q.is_one; is = q.is })

pub written_names : (ss : List SymbolTree) (l : LoopTree) (ns : List ℕ) → IsDistinct bytes_eq (symbol_names ss) → ((n : ℕ) → In n ns → IsPassing ss n) → AreNamesOf (map (name_at (symbol_names ss)) ns) (names ss) l ns
written_names ss l ns d pass y i v e =
    let q = mapped_one (name_at (symbol_names ss)) ns y i in
    let p = pass q.number q.is_one in
    let same = same_number q.number v (sym (name_back ss q.number p.symbol d p.is_symbol) ∙ (ap (number_from 1 (symbol_names ss)) q.is ∙ name_number ss y v e)) in
    inl (subst (λ n. In n ns) same q.is_one)
