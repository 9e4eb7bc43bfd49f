-- A symbol that is found by its name is that of the entry that is found by it, and where it is a constant the entry has its value.
use Rattle.std.proofs.Common.{◌≡◌, ℕ, ◌+◌, Bool, true, false, ℤ, List, [], ◌∷◌, Option, Some, None, refl, sym, ap, ◌∙◌}
use Rattle.std.specs.Prelude.{if◌then◌else◌, bytes_eq, slice_get}
use Rattle.f77_ast.specs.DeclTrees.{ParsedTree}
use Rattle.f77_ast.specs.declared.constant.Constant.{Constant}
use Rattle.f77_ast.specs.Constants.{number_of}
use Rattle.f77_ast.specs.declared.symbol.Place.{Place}
use Rattle.f77_ast.specs.declared.symbol.Place.TheVariants as place
use Rattle.f77_ast.specs.Symbols.{SymbolTree}
use Rattle.f77_names.specs.Entries.{EntryTree, find}
use Rattle.laws_programs.specs.storage_data.declared.offset_node.Home.{Home}
use Rattle.laws_programs.specs.storage_data.declared.offset_node.Home.TheVariants.{Block, Own}
use Rattle.laws_programs.specs.storage_data.declared.offset_node.OffsetNode.{OffsetNode}
use Rattle.storage_layout.specs.Table.{Layout, home_place, place_in, unless_dummy, unless_value, symbol_of, symbols_from}
use Rattle.laws_programs.specs.SymbolTables.Shapes.{symbol_named}
use Rattle.laws_programs.proofs.SymbolTables.Answers.{Answered, names_in, layout_in}

-- ---- entries

pub record EntryNamed (l : Layout) (es : List EntryTree) (x : List ℕ) (s : SymbolTree) : Type 0 where
  pub entry : EntryTree
  pub place : ℕ
  pub found : find x es ≡ Some entry
  pub symbol : s ≡ symbol_of l place entry

entry_from : (l : Layout) (n : ℕ) (es : List EntryTree) (x : List ℕ) (s : SymbolTree) → symbol_named (symbols_from l n es) x ≡ Some s → EntryNamed l es x s
unfolding find
entry_from l n [] x s h = cc
entry_from l n (e ∷ es) x s h = go (bytes_eq x e.name) refl h (entry_from l (n + 1) es x s)
  where
    go : (b : Bool) → bytes_eq x e.name ≡ b → (if b then Some (symbol_of l n e) else symbol_named (symbols_from l (n + 1) es) x) ≡ Some s → (symbol_named (symbols_from l (n + 1) es) x ≡ Some s → EntryNamed l es x s) → EntryNamed l (e ∷ es) x s
    go true q i ih = let same : symbol_of l n e ≡ s = cc in record { entry = e; place = n; found = ap (λ b. if b then Some e else find x es) q; symbol = sym same }
    go false q i ih = let r = ih i in record { entry = r.entry; place = r.place; found = ap (λ b. if b then Some e else find x es) q ∙ r.found; symbol = r.symbol }

pub entry_named : (p : ParsedTree) (ss : List SymbolTree) → Answered p ss → (x : List ℕ) (s : SymbolTree) → symbol_named ss x ≡ Some s → EntryNamed (layout_in p) (names_in p).entries x s
entry_named p ss a x s h = entry_from (layout_in p) 0 (names_in p).entries x s (ap (λ z. symbol_named z x) (sym a.table) ∙ h)

-- ---- constants

no_home : (l : Layout) (o : ℤ) (h : Home) (k : ℤ) → home_place l o h ≡ place.Constant k → ⊥
no_home l o (Block b) k e = cc
no_home l o (Own n) k e = cc

no_offset_node : (l : Layout) (s : Option OffsetNode) (k : ℤ) → place_in l s ≡ place.Constant k → ⊥
no_offset_node l None k e = cc
no_offset_node l (Some s) k e = no_home l s.offset s.home k e

pub record Valued (e : EntryTree) (k : ℤ) : Type 0 where
  pub constant : Constant
  pub value : e.value ≡ Some constant
  pub number : number_of constant ≡ k

value_for : (l : Layout) (e : EntryTree) (v : Option Constant) (d : Option ℕ) (s : Option OffsetNode) (k : ℤ) → e.value ≡ v → unless_value v (unless_dummy d (place_in l s)) ≡ place.Constant k → Valued e k
value_for l e (Some c) d s k q h = let same : number_of c ≡ k = cc in record { constant = c; value = q; number = same }
value_for l e None (Some n) s k q h = cc
value_for l e None None s k q h = absurd (no_offset_node l s k h)

pub valued : (l : Layout) (n : ℕ) (e : EntryTree) (k : ℤ) → (symbol_of l n e).place ≡ place.Constant k → Valued e k
valued l n e k h = value_for l e e.value e.dummy (slice_get l.offset_nodes n) k refl h
