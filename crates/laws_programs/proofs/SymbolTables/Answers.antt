-- A table that is not refused: what it is made of, and that nothing was refused on the way.
use Rattle.std.proofs.Common.{◌≡◌, ℕ, ◌+◌, Bool, true, false, List, [], ◌∷◌, length, Option, Some, None, Result, Ok, refl, sym, ap, ◌∙◌}
use Rattle.std.specs.Prelude.{if◌then◌else◌, not, nat_eq, ◌||◌}
use Rattle.std.specs.List.{list_any}
use Rattle.f77_ast.specs.Trees.{ExprTree}
use Rattle.f77_ast.specs.DeclTrees.{DataTree, DeclTree, ParsedTree}
use Rattle.f77_ast.specs.DeclTrees as decl
use Rattle.f77_ast.specs.Symbols.{SymbolTree}
use Rattle.fx_lists.specs.declared.code.Code.TheVariants.{InitialMismatch}
use Rattle.fx_lists.specs.declared.refusal.Refusal.{Refusal}
use Rattle.f77_names.specs.declared.lines.Sited.TheVariants.{Decl}
use Rattle.f77_names.specs.Lines.{LineTable, lines_of, line_or}
use Rattle.f77_names.specs.Tables.{NameTable, table_of, check_names}
use Rattle.f77_checks.specs.Parameters.{Valued, decls_valued}
use Rattle.f77_checks.specs.Dimensions.{check_shapes}
use Rattle.f77_checks.specs.Statements.{check_stmts}
use Rattle.storage_data.specs.declared.offset_node.OffsetNode.{OffsetNode}
use Rattle.storage_data.specs.declared.initials.Filled.{Filled}
use Rattle.storage_data.specs.declared.targets.Target.{Target}
use Rattle.storage_data.specs.declared.values.Run.{Run}
use Rattle.storage_data.specs.Items.{item_fault, both, check_items}
use Rattle.storage_data.specs.Initials.{is_excluded, is_open, units_in, values_in, runs_of, targets_of, dealt, stretches_of, is_mistyped, meet_twice, mismatch, given, targets_filled, faulted, group_filled, groups_filled, decl_filled, decls_filled, unfilled}
use Rattle.storage_layout.specs.declared.blocks.Laid.{Laid}
use Rattle.storage_layout.specs.declared.equivalences.Shared.{Shared}
use Rattle.storage_layout.specs.Equivalences.{group_shared, groups_shared, decl_shared, decls_shared}
use Rattle.storage_layout.specs.Table.{Layout, symbols_in}
use Rattle.storage_layout.specs.Symbols.{laid, unshared, shared, filled, answer, layout_for, symbols_or_refusal, after_shared, lay_shared_and_data, lay_out, valued, checked, check_and_lay_out, symbols_at, symbols_of}
use Rattle.laws_programs.proofs.SymbolTables.StatementRefusals.{noted_back, stmts_back}
use Rattle.laws_programs.proofs.SymbolTables.NameRefusals.{shapes_back}
use Rattle.laws_programs.proofs.SymbolTables.Values.{values_back, values_keep}
use Rattle.laws_programs.proofs.SymbolTables.Marks.{Dummies}
use Rattle.laws_programs.proofs.SymbolTables.DummiesTold.{table_dummies}

-- ---- what a table is made of

abbrev pub lines_in : ParsedTree → LineTable
lines_in p = lines_of p.places.spots

abbrev pub names_in : ParsedTree → NameTable
names_in p = (valued (lines_in p) p.module_read).table

abbrev pub found_in : ParsedTree → Option Refusal
found_in p = checked (lines_in p) p.module_read (valued (lines_in p) p.module_read)

abbrev pub laid_in : ParsedTree → Laid
laid_in p = laid (names_in p) p.module_read.decls

abbrev pub shared_in : ParsedTree → Shared
shared_in p = shared (names_in p) (lines_in p) p.module_read.decls (laid_in p).offset_nodes (found_in p)

abbrev pub filled_in : ParsedTree → Filled
filled_in p = filled (names_in p) (shared_in p).group.offset_nodes (lines_in p) p.module_read.decls (shared_in p).found

abbrev pub layout_in : ParsedTree → Layout
layout_in p = layout_for (names_in p) p.module_read.decls (shared_in p).group.offset_nodes (laid_in p).names (filled_in p)

pub record Answered (p : ParsedTree) (ss : List SymbolTree) : Type 0 where
  pub found : (filled_in p).found ≡ None
  pub late : (shared_in p).late ≡ None
  pub table : ss ≡ symbols_in (layout_in p)

none_given : (found late : Option Refusal) (l : Layout) (ss : List SymbolTree) → answer found late l ≡ Ok ss → (found ≡ None) × (late ≡ None) × (ss ≡ symbols_in l)
none_given (Some r) late l ss e = cc
none_given None (Some r) l ss e = cc
none_given None None l ss e = let same : symbols_in l ≡ ss = cc in (refl, refl, sym same)

pub answered_by : (p : ParsedTree) (ss : List SymbolTree) → symbols_of p ≡ Ok ss → Answered p ss
unfolding symbols_or_refusal after_shared lay_shared_and_data lay_out check_and_lay_out symbols_at symbols_of
answered_by p ss e =
    let r = none_given (filled_in p).found (shared_in p).late (layout_in p) ss e in
    record { found = r.0; late = r.1; table = r.2 }

-- ---- nothing was refused before

both_back : (a b : Option Refusal) → both a b ≡ None → b ≡ None
both_back None b e = e
both_back (Some r) b e = noted_back true r.line r.code b e

items_back : (t : NameTable) (is : List ExprTree) (line : ℕ) (o : Option Refusal) → check_items t is line o ≡ None → o ≡ None
items_back t [] line o e = e
items_back t (i ∷ is) line o e = both_back (item_fault t i line) o (items_back t is line (both (item_fault t i line) o) e)

-- DATA
targets_back : (t : NameTable) (ss : List OffsetNode) (cs : List Target) (rs : List Run) (line : ℕ) (f : Filled) → (targets_filled t ss cs rs line f).found ≡ None → f.found ≡ None
targets_back t ss cs rs line f e = one (list_any is_excluded cs) e
  where
    three : (b : Bool) → (let r : Filled = if b then mismatch true line f else given t ss cs rs line f in r.found) ≡ None → f.found ≡ None
    three true h = noted_back true line InitialMismatch f.found h
    three false h = noted_back (list_any (is_mistyped t) (dealt cs rs) || meet_twice f.stretches (stretches_of ss cs)) line InitialMismatch f.found h

    two : (b : Bool) → (let r : Filled = if b then f else if not (nat_eq (units_in cs) (values_in rs)) then mismatch true line f else given t ss cs rs line f in r.found) ≡ None → f.found ≡ None
    two true h = h
    two false h = three (not (nat_eq (units_in cs) (values_in rs))) h

    one : (b : Bool) → (let r : Filled = if b then mismatch true line f else if list_any is_open cs then f else if not (nat_eq (units_in cs) (values_in rs)) then mismatch true line f else given t ss cs rs line f in r.found) ≡ None → f.found ≡ None
    one true h = noted_back true line InitialMismatch f.found h
    one false h = two (list_any is_open cs) h

group_back : (t : NameTable) (ss : List OffsetNode) (g : DataTree) (line : ℕ) (f : Filled) → (group_filled t ss g line f).found ≡ None → f.found ≡ None
group_back t ss g line f e = items_back t g.targets line f.found (targets_back t ss (targets_of t ss g.targets) (runs_of g.values) line (faulted t g.targets line f) e)

groups_back : (t : NameTable) (ss : List OffsetNode) (gs : List DataTree) (line : ℕ) (f : Filled) → (groups_filled t ss gs line f).found ≡ None → f.found ≡ None
groups_back t ss [] line f e = e
groups_back t ss (g ∷ gs) line f e = group_back t ss g line f (groups_back t ss gs line (group_filled t ss g line f) e)

decl_filled_back : (t : NameTable) (ss : List OffsetNode) (d : DeclTree) (line : ℕ) (f : Filled) → (decl_filled t ss d line f).found ≡ None → f.found ≡ None
decl_filled_back t ss (decl.initial gs) line f e = groups_back t ss gs line f e
decl_filled_back t ss (decl.implicit ps) line f e = e
decl_filled_back t ss (decl.integer es) line f e = e
decl_filled_back t ss (decl.logical es) line f e = e
decl_filled_back t ss (decl.dimension es) line f e = e
decl_filled_back t ss (decl.parameter xs) line f e = e
decl_filled_back t ss (decl.common cs) line f e = e
decl_filled_back t ss (decl.equivalence gs) line f e = e
decl_filled_back t ss (decl.save is) line f e = e

pub filled_back : (t : NameTable) (ss : List OffsetNode) (at : LineTable) (ds : List DeclTree) (n : ℕ) (f : Filled) → (decls_filled t ss at ds n f).found ≡ None → f.found ≡ None
filled_back t ss at [] n f e = e
filled_back t ss at (d ∷ ds) n f e = decl_filled_back t ss d (line_or at (Decl n) 0) f (filled_back t ss at ds (n + 1) (decl_filled t ss d (line_or at (Decl n) 0) f) e)

-- EQUIVALENCE
groups_shared_back : (t : NameTable) (gs : List (List ExprTree)) (line : ℕ) (s : Shared) → (groups_shared t gs line s).found ≡ None → s.found ≡ None
groups_shared_back t [] line s e = e
groups_shared_back t (g ∷ gs) line s e = items_back t g line s.found (groups_shared_back t gs line (group_shared t g line s) e)

decl_shared_back : (t : NameTable) (d : DeclTree) (line : ℕ) (s : Shared) → (decl_shared t d line s).found ≡ None → s.found ≡ None
decl_shared_back t (decl.equivalence gs) line s e = groups_shared_back t gs line s e
decl_shared_back t (decl.implicit ps) line s e = e
decl_shared_back t (decl.integer es) line s e = e
decl_shared_back t (decl.logical es) line s e = e
decl_shared_back t (decl.dimension es) line s e = e
decl_shared_back t (decl.parameter ss) line s e = e
decl_shared_back t (decl.common cs) line s e = e
decl_shared_back t (decl.save is) line s e = e
decl_shared_back t (decl.initial gs) line s e = e

shared_back : (t : NameTable) (at : LineTable) (ds : List DeclTree) (n : ℕ) (s : Shared) → (decls_shared t at ds n s).found ≡ None → s.found ≡ None
shared_back t at [] n s e = e
shared_back t at (d ∷ ds) n s e = decl_shared_back t d (line_or at (Decl n) 0) s (shared_back t at ds (n + 1) (decl_shared t d (line_or at (Decl n) 0) s) e)

-- ---- a module

pub found_none : (p : ParsedTree) (ss : List SymbolTree) → Answered p ss → found_in p ≡ None
unfolding shared filled
found_none p ss a =
    let t = names_in p in
    let shares = filled_back t (shared_in p).group.offset_nodes (lines_in p) p.module_read.decls 0 (unfilled (shared_in p).found) a.found in
    shared_back t (lines_in p) p.module_read.decls 0 (unshared (laid_in p).offset_nodes (found_in p)) shares

pub values_none : (p : ParsedTree) → found_in p ≡ None → (valued (lines_in p) p.module_read).found ≡ None
unfolding checked
values_none p e =
    let v = valued (lines_in p) p.module_read in
    shapes_back v.table v.table.entries v.found (stmts_back v.table (lines_in p) p.module_read.body 0 (check_shapes v.table v.table.entries v.found) e)

pub names_none : (p : ParsedTree) → (valued (lines_in p) p.module_read).found ≡ None → check_names (lines_in p) p.module_read ≡ None
unfolding valued
names_none p e = values_back (lines_in p) p.module_read.decls 0 (record { table = table_of (lines_in p) p.module_read; found = check_names (lines_in p) p.module_read }) e

valued_dummies : (p : ParsedTree) → check_names (lines_in p) p.module_read ≡ None → Dummies (length p.module_read.dummies) (names_in p).entries
unfolding valued
valued_dummies p e = values_keep (length p.module_read.dummies) (lines_in p) p.module_read.decls 0 (record { table = table_of (lines_in p) p.module_read; found = check_names (lines_in p) p.module_read }) (table_dummies (lines_in p) p.module_read e)

pub names_have_dummies : (p : ParsedTree) (ss : List SymbolTree) → Answered p ss → Dummies (length p.module_read.dummies) (names_in p).entries
names_have_dummies p ss a = valued_dummies p (names_none p (values_none p (found_none p ss a)))
