-- The dummies of a module are the first symbols of its table.
use Rattle.std.proofs.Common.{◌≡◌, ℕ, zero, suc, ◌+◌, Bool, true, false, List, [], ◌∷◌, ◌++◌, length, Option, Some, None, refl, sym, ap, ◌∙◌, subst}
use Rattle.f77_ast.specs.DeclTrees.{ParsedTree}
use Rattle.f77_ast.specs.declared.constant.Constant.{Constant}
use Rattle.f77_ast.specs.declared.symbol.Place.{Place}
use Rattle.f77_ast.specs.declared.symbol.Place.TheVariants as place
use Rattle.f77_ast.specs.Symbols.{SymbolTree}
use Rattle.f77_names.specs.Entries.{EntryTree}
use Rattle.storage_data.specs.declared.offset_node.Home.TheVariants.{Block, Own}
use Rattle.storage_data.specs.declared.offset_node.Home.{Home}
use Rattle.storage_data.specs.declared.offset_node.OffsetNode.{OffsetNode}
use Rattle.std.specs.Prelude.{slice_get}
use Rattle.storage_layout.specs.Table.{Layout, home_place, place_in, unless_dummy, unless_value, entry_place, symbol_of, symbols_from, symbols_in}
use Rattle.laws_programs.specs.SymbolTables.Laws.{NoDummies, DummiesFirst, DummiesComeFirst}
use Rattle.laws_programs.proofs.SymbolTables.Marks.{Dummies, marked, mark, marks, nones, dummy_marks}
use Rattle.laws_programs.proofs.SymbolTables.Answers.{names_in, layout_in, answered_by, names_have_dummies}

no_dummy_home : (l : Layout) (o : _) (h : Home) (k : ℕ) → home_place l o h ≡ place.Dummy k → ⊥
no_dummy_home l o (Block b) k e = cc
no_dummy_home l o (Own n) k e = cc

pub no_dummy_offset_node : (l : Layout) (s : Option OffsetNode) (k : ℕ) → place_in l s ≡ place.Dummy k → ⊥
no_dummy_offset_node l None k e = cc
no_dummy_offset_node l (Some s) k e = no_dummy_home l s.offset s.home k e

-- where a name without a mark lies
unmarked_place : (l : Layout) (d : Option ℕ) (v : Option Constant) (s : Option OffsetNode) (k : ℕ) → marked d v ≡ None → unless_value v (unless_dummy d (place_in l s)) ≡ place.Dummy k → ⊥
unmarked_place l None None s k e h = no_dummy_offset_node l s k h
unmarked_place l None (Some c) s k e h = cc
unmarked_place l (Some n) v s k e h = cc

-- the number and the value of a mark
abbrev number_of : Option (ℕ × Option Constant) → ℕ
number_of None = 0
number_of (Some p) = p.0

abbrev value_of : Option (ℕ × Option Constant) → Option Constant
value_of None = None
value_of (Some p) = p.1

marked_place : (l : Layout) (d : Option ℕ) (v : Option Constant) (s : Option OffsetNode) (m : ℕ) → marked d v ≡ Some (m, None) → unless_value v (unless_dummy d (place_in l s)) ≡ place.Dummy m
marked_place l None v s m e = cc
marked_place l (Some n) None s m e = ap place.Dummy (ap number_of e)
marked_place l (Some n) (Some c) s m e = let z : Some c ≡ None = ap value_of e in cc

none_among : (l : Layout) (at k : ℕ) (es : List EntryTree) → marks es ≡ nones k → NoDummies (symbols_from l at es)
none_among l at k [] e = tt
none_among l at zero (x ∷ es) e = cc
none_among l at (suc k) (x ∷ es) e =
    let here : mark x ≡ None = cc in
    let rest : marks es ≡ nones k = cc in
    (λ m h. unmarked_place l x.dummy x.value (slice_get l.offset_nodes at) m here h, none_among l (at + 1) k es rest)

first_among : (l : Layout) (at m n k : ℕ) (es : List EntryTree) → marks es ≡ dummy_marks m n ++ nones k → DummiesFirst m n (symbols_from l at es)
first_among l at m zero k es e = none_among l at k es e
first_among l at m (suc n) k [] e = cc
first_among l at m (suc n) k (x ∷ es) e =
    let here : mark x ≡ Some (m, None) = cc in
    let rest : marks es ≡ dummy_marks (suc m) n ++ nones k = cc in
    (marked_place l x.dummy x.value (slice_get l.offset_nodes at) m here, first_among l (at + 1) (suc m) n k es rest)

pub dummies_come_first : DummiesComeFirst
dummies_come_first p ss e =
    let a = answered_by p ss e in
    let d = names_have_dummies p ss a in
    subst (DummiesFirst 1 (length p.module_read.dummies)) (sym a.table) (first_among (layout_in p) 0 1 (length p.module_read.dummies) d.others (names_in p).entries d.are)
