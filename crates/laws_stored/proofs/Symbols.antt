-- Modules whose symbols, blocks and own names are names of FORTRAN, and the numbers of their symbols.
use Rattle.std.proofs.Common.{◌≡◌, ℕ, zero, suc, ◌+◌, ◌-◌, ◌<◌, ◌≤◌, arith, Bool, true, false, List, [], ◌∷◌, length, Some, None, refl, ap, subst}
use Rattle.std.specs.Prelude.{if◌then◌else◌, nat_eq, nat_lt, nat_le, slice_get}
use Rattle.std.proofs.lemmas.Bool.{and_from, lt-ltb, le-leb}
use Rattle.f77_ast.specs.declared.symbol.Place.{Place}
use Rattle.f77_ast.specs.declared.symbol.Place.TheVariants.{Local, Dummy, Block, Constant}
use Rattle.f77_ast.specs.Symbols.{SymbolTree}
use Rattle.f77_ast.specs.Shared.{symbol_at}
use Rattle.f77_meaning.specs.Modules.{Known, symbol_names}
use Rattle.base_json.specs.Scopes.{is_symbol, is_short_name, is_block}
use Rattle.base_values.specs.Naming.{Each}

-- the block of a symbol has such a name
abbrev pub PlaceNamed : Place → Type 0
PlaceNamed (Local g o) = Unit {0}
PlaceNamed (Dummy n) = Unit {0}
PlaceNamed (Block b o) = is_block b ≡ true
PlaceNamed (Constant v) = Unit {0}

abbrev pub SymbolNamed : SymbolTree → Type 0
SymbolNamed s = (is_short_name s.name ≡ true) × PlaceNamed s.place

abbrev pub SymbolsNamed : List SymbolTree → Type 0
SymbolsNamed ss = Each SymbolNamed ss

abbrev pub ModuleNamed : Known → Type 0
ModuleNamed k = (is_short_name k.read.name ≡ true) × SymbolsNamed k.symbols

got_named : (ss : List SymbolTree) (i : ℕ) (s : SymbolTree) → SymbolsNamed ss → slice_get ss i ≡ Some s → SymbolNamed s
got_named [] i s h e = cc
got_named (t ∷ ss) zero s h e = let same : t ≡ s = cc in subst SymbolNamed same h.0
got_named (t ∷ ss) (suc i) s h e = got_named ss i s h.1 e

pub named_at : (ss : List SymbolTree) (n : ℕ) (s : SymbolTree) → SymbolsNamed ss → symbol_at ss n ≡ Some s → SymbolNamed s
named_at ss n s h e = go (nat_eq n 0) e
  where
    go : (b : Bool) → (if b then None else slice_get ss (n - 1)) ≡ Some s → SymbolNamed s
    go true q = cc
    go false q = got_named ss (n - 1) s h q

-- ---- numbers of symbols

pub names_long : (ss : List SymbolTree) → length (symbol_names ss) ≡ length ss
names_long [] = refl
names_long (s ∷ ss) = ap suc (names_long ss)

pub between : (names : List (List ℕ)) (n : ℕ) → 0 < n → n ≤ length names → is_symbol names n ≡ true
between names n h k = and_from (nat_lt 0 n) (nat_le n (length names)) (lt-ltb 0 n h) (le-leb n (length names) k)

pub symbol_between : (ss : List SymbolTree) (n : ℕ) → 1 ≤ n → n < 1 + length ss → is_symbol (symbol_names ss) n ≡ true
symbol_between ss n h k = let e = names_long ss in between (symbol_names ss) n (omega (arith, h)) (omega (arith, k, e))
