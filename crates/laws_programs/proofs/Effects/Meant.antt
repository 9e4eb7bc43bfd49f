-- A name that stands for a variable: its symbol, and its number for effects.
use Rattle.std.proofs.Common.{◌≡◌, ℕ, zero, suc, ◌-◌, ◌≤◌, Bool, true, false, List, [], ◌∷◌, Option, Some, None, refl, sym, ap, ◌∙◌, subst, arith}
use Rattle.std.specs.Prelude.{if◌then◌else◌, bytes_eq, slice_get}
use Rattle.std.proofs.lemmas.Slice.Eq.{bytes_eq-Decides}
use Rattle.f77_ast.specs.declared.decl.Scalar.{Scalar}
use Rattle.f77_ast.specs.Places.{Variable, Function}
use Rattle.f77_ast.specs.declared.symbol.Place.{Place}
use Rattle.f77_ast.specs.declared.symbol.Place.TheVariants as place
use Rattle.f77_ast.specs.Symbols.{SymbolTree, number_from}
use Rattle.f77_ast.specs.Shared.{symbol_at}
use Rattle.call_graph.specs.Actuals.{symbol_with_name}
use Rattle.f77_meaning.specs.Modules.{symbol_names, is_function, meant_by, meant_at, meant_in, names}
use Rattle.effects.specs.Names.{variable_number, number_of}
use Rattle.f77_ast.proofs.NumberedNames.{number_from-least}
use Rattle.f77_ast.proofs.StorageLaws.{at_number}

-- no constant
abbrev pub IsVariable : Place → Type 0
IsVariable (place.Local g o) = Unit {0}
IsVariable (place.Dummy m) = Unit {0}
IsVariable (place.Block b o) = Unit {0}
IsVariable (place.Constant v) = ⊥

-- the name stands for the variable with this number
pub record StandsFor (ss : List SymbolTree) (x : List ℕ) (n : ℕ) : Type 0 where
  pub symbol : SymbolTree
  pub is_symbol : symbol_at ss n ≡ Some symbol
  pub is_first : number_from 1 (symbol_names ss) symbol.name ≡ Some n
  pub is_named : symbol_with_name ss x ≡ Some symbol
  pub is_variable : IsVariable symbol.place
  pub is_number : number_of 1 ss x ≡ Some n

-- what the search for a name finds
found : (n m : ℕ) (ss : List SymbolTree) (x : List ℕ) → number_from n (symbol_names ss) x ≡ Some m →
    (s : SymbolTree) × (slice_get ss (m - n) ≡ Some s) × (symbol_with_name ss x ≡ Some s) × (s.name ≡ x) × (number_of n ss x ≡ variable_number m s)
found n m [] x e = cc
found n m (t ∷ ss) x e = go (bytes_eq x t.name) refl e (found (suc n) m ss x)
  where
    go : (b : Bool) → bytes_eq x t.name ≡ b → (if b then Some n else number_from (suc n) (symbol_names ss) x) ≡ Some m →
        (number_from (suc n) (symbol_names ss) x ≡ Some m → (s : SymbolTree) × (slice_get ss (m - suc n) ≡ Some s) × (symbol_with_name ss x ≡ Some s) × (s.name ≡ x) × (number_of (suc n) ss x ≡ variable_number m s)) →
        (s : SymbolTree) × (slice_get (t ∷ ss) (m - n) ≡ Some s) × ((if b then Some t else symbol_with_name ss x) ≡ Some s) × (s.name ≡ x) × ((if b then variable_number n t else number_of (suc n) ss x) ≡ variable_number m s)
    go true q h ih =
        let same : n ≡ m = cc in
        let z : m - n ≡ zero = omega arith in
        (t, ap (slice_get (t ∷ ss)) z, refl, sym ((bytes_eq-Decides x t.name).0 q), ap (λ j. variable_number j t) same)
    go false q h ih =
        let r = ih h in
        let low : suc n ≤ m = number_from-least (suc n) m (symbol_names ss) x h in
        let z : m - n ≡ suc (m - suc n) = omega (arith, low) in
        (r.0, ap (slice_get (t ∷ ss)) z ∙ r.1, r.2, r.3, r.4)

by_place : (t : Scalar) (m n : ℕ) (p : Place) → meant_by t m p ≡ Variable n → (m ≡ n) × IsVariable p
by_place t m n (place.Local g o) e = (cc, tt)
by_place t m n (place.Dummy k) e = (cc, tt)
by_place t m n (place.Block b o) e = (cc, tt)
by_place t m n (place.Constant v) e = cc

by_symbol : (s : SymbolTree) (m n : ℕ) (b : Bool) → (if b then Function else meant_by s.scalar m s.place) ≡ Variable n → (m ≡ n) × IsVariable s.place
by_symbol s m n true e = cc
by_symbol s m n false e = by_place s.scalar m n s.place e

variable_here : (m : ℕ) (s : SymbolTree) (p : Place) → s.place ≡ p → IsVariable p → variable_number m s ≡ Some m
variable_here m s (place.Local g o) e h = ap (Rattle.effects.specs.Names.number_at m) e
variable_here m s (place.Dummy k) e h = ap (Rattle.effects.specs.Names.number_at m) e
variable_here m s (place.Block b o) e h = ap (Rattle.effects.specs.Names.number_at m) e
variable_here m s (place.Constant v) e h = absurd h

pub meant : (ss : List SymbolTree) (x : List ℕ) (n : ℕ) → names ss x ≡ Variable n → StandsFor ss x n
meant ss x n e = go (number_from 1 (symbol_names ss) x) refl e
  where
    with_symbol : (m : ℕ) → number_from 1 (symbol_names ss) x ≡ Some m → meant_at m (symbol_at ss m) ≡ Variable n → StandsFor ss x n
    with_symbol m q h =
        let r = found 1 m ss x q in
        let s = r.0 in
        let here = at_number ss m s (number_from-least 1 m (symbol_names ss) x q) r.1 in
        let k = by_symbol s m n (is_function s) (subst (λ o. meant_at m o ≡ Variable n) here h) in
        record {
          symbol = s;
          is_symbol = ap (symbol_at ss) (sym k.0) ∙ here;
          is_first = ap (number_from 1 (symbol_names ss)) r.3 ∙ q ∙ ap Some k.0;
          is_named = r.2;
          is_variable = k.1;
          is_number = r.4 ∙ variable_here m s s.place refl k.1 ∙ ap Some k.0;
        }

    go : (o : Option ℕ) → number_from 1 (symbol_names ss) x ≡ o → meant_in ss o ≡ Variable n → StandsFor ss x n
    go None q h = cc
    go (Some m) q h = with_symbol m q h
