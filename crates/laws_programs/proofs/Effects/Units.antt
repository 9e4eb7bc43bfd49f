-- The units of variables of an activation, and accesses that effects allow there.
use Rattle.std.proofs.Common.{◌≡◌, ◌⊎◌, inl, inr, ℕ, ◌+◌, ◌≤◌, ◌<◌, true, false, List, Some}
use Rattle.std.specs.Prelude.{nat_le, nat_lt}
use Rattle.std.proofs.lemmas.Bool.{or_left, or_right, and_parts, and_from, leb-true, ltb-true, le-leb, lt-ltb}
use Rattle.f77_ast.specs.Places.{Place, Places}
use Rattle.f77_ast.specs.Calls.{in_place}
use Rattle.f77_ast.specs.declared.symbol.Place.{Place as SymbolPlace}
use Rattle.f77_ast.specs.declared.symbol.Place.TheVariants as place
use Rattle.f77_ast.specs.declared.variable.Variable.{Variable}
use Rattle.f77_ast.specs.declared.variable.Variable.TheVariants.{Own, Block, Saved}
use Rattle.f77_ast.specs.Symbols.{SymbolTree, number_from}
use Rattle.f77_ast.specs.Shared.{symbol_at}
use Rattle.call_graph.specs.declared.graph.Graph.{Graph}
use Rattle.call_graph.specs.Actuals.{has_bounds}
use Rattle.f77_ast.specs.declared.effect_set.EffectSet.{EffectSet}
use Rattle.f77_ast.specs.Variables.{union}
use Rattle.f77_ast.specs.Effects.{unite}
use Rattle.f77_meaning.specs.Areas.{is_own_unit}
use Rattle.f77_meaning.specs.Modules.{Known, symbol_names, fixed}
use Rattle.f77_meaning.specs.Linked.{numbering}
use Rattle.f77_meaning.specs.Claims.{block_place, saved_place}
use Rattle.laws_programs.specs.Effects.Tables.{is_dummy, is_plain}
use Rattle.laws_programs.proofs.Effects.Named.{Stands, in_union}
use Rattle.laws_programs.proofs.Effects.Access.{Access, Reading, Writing, Talking, Stopping, Allowed, Sub}
use Rattle.laws_programs.proofs.Effects.Meant.{IsVariable}
use Rattle.f77_meaning.proofs.ModuleLaws.{in_laid as in_bounds}

-- ---- places

pub within_bounds : (p : Place) (u : ℕ) → p.first ≤ u → u < p.first + p.extent → in_place p u ≡ true
within_bounds p u a b = and_from (nat_le p.first u) (nat_lt u (p.first + p.extent)) (le-leb p.first u a) (lt-ltb u (p.first + p.extent) b)

-- a symbol by which effects know a variable: of a local the first of its name
abbrev pub IsKnownBy : List SymbolTree → ℕ → SymbolTree → SymbolPlace → Type 0
IsKnownBy ss n s (place.Local g o) = number_from 1 (symbol_names ss) s.name ≡ Some n
IsKnownBy ss n s (place.Dummy m) = Unit {0}
IsKnownBy ss n s (place.Block b o) = Unit {0}
IsKnownBy ss n s (place.Constant v) = ⊥

pub known_variable : (ss : List SymbolTree) (n : ℕ) (s : SymbolTree) (p : SymbolPlace) → IsVariable p → number_from 1 (symbol_names ss) s.name ≡ Some n → IsKnownBy ss n s p
known_variable ss n s (place.Local g o) v e = e
known_variable ss n s (place.Dummy m) v e = tt
known_variable ss n s (place.Block b o) v e = tt
known_variable ss n s (place.Constant c) v e = v

-- a unit of a variable of a module whose variables lie at these places
abbrev pub Has : List Known → Graph → Known → Places → Variable → ℕ → Type 0
Has ks g k at (Own n) u = (s : SymbolTree) × (symbol_at k.symbols n ≡ Some s) × IsKnownBy k.symbols n s s.place × (in_place (at n) u ≡ true)
Has ks g k at (Block b) u = in_place (block_place ks g b) u ≡ true
Has ks g k at (Saved m x) u = (is_plain m ≡ true) × (in_place (saved_place ks g ks m x) u ≡ true)

-- scalars have a unit
abbrev pub ScalarsReach : Known → Places → Type 0
ScalarsReach k at = (n : ℕ) (s : SymbolTree) → symbol_at k.symbols n ≡ Some s → IsVariable s.place → has_bounds s.bounds ≡ false → 1 ≤ (at n).extent

-- the places of an activation: variables that are no dummies lie where they always do
pub record AreAt (ks : List Known) (g : Graph) (k : Known) (at : Places) : Type 0 where
  pub scalars : ScalarsReach k at
  pub others : (n : ℕ) (s : SymbolTree) → symbol_at k.symbols n ≡ Some s → is_dummy s.place ≡ false → at n ≡ fixed (numbering ks g) k n

-- ---- accesses that effects allow

module _ (ks : List Known) (g : Graph) (k : Known) (at : Places) where
  -- every access of a unit of one of these variables
  abbrev pub Lets : (ℕ → Access) → Allowed → List Variable → Type 0
  Lets access A vs = (v : Variable) (u : ℕ) → Stands v vs → Has ks g k at v u → A (access u)

  pub lets_first : (access : ℕ → Access) (A : Allowed) (vs ws : List Variable) → Lets access A (union vs ws) → Lets access A vs
  lets_first access A vs ws h v u s m = h v u (in_union v vs ws (inl s)) m

  pub lets_second : (access : ℕ → Access) (A : Allowed) (vs ws : List Variable) → Lets access A (union vs ws) → Lets access A ws
  lets_second access A vs ws h v u s m = h v u (in_union v vs ws (inr s)) m

  pub record LetsAll (A : Allowed) (e : EffectSet) : Type 0 where
    pub to_read : Lets Reading A e.reads
    pub to_write : Lets Writing A e.writes
    pub to_talk : e.io ≡ true → A Talking
    pub to_stop : e.stops ≡ true → A Stopping

  pub lets_one : (A : Allowed) (a b : EffectSet) → LetsAll A (unite a b) → LetsAll A a
  lets_one A a b h = record {
    to_read = lets_first Reading A a.reads b.reads h.to_read;
    to_write = lets_first Writing A a.writes b.writes h.to_write;
    to_talk = λ e. h.to_talk (or_left a.io b.io e);
    to_stop = λ e. h.to_stop (or_left a.stops b.stops e);
  }

  pub lets_other : (A : Allowed) (a b : EffectSet) → LetsAll A (unite a b) → LetsAll A b
  lets_other A a b h = record {
    to_read = lets_second Reading A a.reads b.reads h.to_read;
    to_write = lets_second Writing A a.writes b.writes h.to_write;
    to_talk = λ e. h.to_talk (or_right a.io b.io e);
    to_stop = λ e. h.to_stop (or_right a.stops b.stops e);
  }

  pub lets_more : (A B : Allowed) → Sub A B → (e : EffectSet) → LetsAll A e → LetsAll B e
  lets_more A B sub e h = record {
    to_read = λ v u s m. sub (Reading u) (h.to_read v u s m);
    to_write = λ v u s m. sub (Writing u) (h.to_write v u s m);
    to_talk = λ q. sub Talking (h.to_talk q);
    to_stop = λ q. sub Stopping (h.to_stop q);
  }

  -- ---- what effects allow

  abbrev pub Allows : EffectSet → Access → Type 0
  Allows e (Reading u) = (is_own_unit (numbering ks g) u ≡ true) ⊎ ((v : Variable) × Stands v e.reads × Has ks g k at v u)
  Allows e (Writing u) = (is_own_unit (numbering ks g) u ≡ true) ⊎ ((v : Variable) × Stands v e.writes × Has ks g k at v u)
  Allows e Talking = e.io ≡ true
  Allows e Stopping = e.stops ≡ true

  pub allows_all : (e : EffectSet) → LetsAll (Allows e) e
  allows_all e = record { to_read = λ v u s m. inr (v, s, m); to_write = λ v u s m. inr (v, s, m); to_talk = λ q. q; to_stop = λ q. q }

-- the units of expressions that are actuals are free
pub record OwnAreFree (ks : List Known) (g : Graph) (A : Allowed) : Type 0 where
  pub to_read : (u : ℕ) → is_own_unit (numbering ks g) u ≡ true → A (Reading u)
  pub to_write : (u : ℕ) → is_own_unit (numbering ks g) u ≡ true → A (Writing u)

pub own_free : (ks : List Known) (g : Graph) (k : Known) (at : Places) (e : EffectSet) → OwnAreFree ks g (Allows ks g k at e)
own_free ks g k at e = record { to_read = λ u h. inl h; to_write = λ u h. inl h }

pub own_free_more : (ks : List Known) (g : Graph) (A B : Allowed) → Sub A B → OwnAreFree ks g A → OwnAreFree ks g B
own_free_more ks g A B sub h = record { to_read = λ u e. sub (Reading u) (h.to_read u e); to_write = λ u e. sub (Writing u) (h.to_write u e) }
