-- A module has the same table of symbols wherever its statements stand.
use Rattle.std.proofs.Common.{◌≡◌, ℕ, List, [], Option, Some, None, Result, Ok, Err, refl, sym, ap, ◌∙◌, subst}
use Rattle.std.proofs.lemmas.List.{length-map}
use Rattle.f77_ast.specs.DeclTrees.{DeclTree, ModuleTree}
use Rattle.f77_ast.specs.Symbols.{SymbolTree}
use Rattle.fx_lists.specs.declared.refusal.Refusal.{Refusal}
use Rattle.f77_names.specs.Lines.{LineTable, lines_of}
use Rattle.f77_names.specs.Tables.{NameTable}
use Rattle.f77_checks.specs.Parameters.{Valued}
use Rattle.storage_data.specs.declared.offset_node.OffsetNode.{OffsetNode}
use Rattle.storage_data.specs.OffsetNodes.{alone_from}
use Rattle.storage_data.specs.declared.initials.Filled.{Filled}
use Rattle.storage_data.specs.declared.deals.Piece.{Piece}
use Rattle.storage_layout.specs.declared.blocks.Laid.{Laid}
use Rattle.storage_layout.specs.declared.equivalences.Grouping.{Grouping}
use Rattle.storage_layout.specs.declared.equivalences.Shared.{Shared}
use Rattle.storage_layout.specs.Blocks.{decls_put}
use Rattle.storage_layout.specs.Table.{Layout}
use Rattle.storage_layout.specs.Symbols.{alone, laid, shared, filled, answer, layout_for, symbols_or_refusal, after_shared, lay_shared_and_data, lay_out, valued, checked, check_and_lay_out, symbols_at, symbols_of}
use Rattle.roundtrip_programs.specs.Laws.{TablesIgnorePlaces}
use Rattle.roundtrip_programs.proofs.Found.{SameFound}
use Rattle.roundtrip_programs.proofs.Bare.{no_lines, bare, bare_table}
use Rattle.roundtrip_programs.proofs.Told.{names_same, judged_same}
use Rattle.roundtrip_programs.proofs.Values as values
use Rattle.roundtrip_programs.proofs.Values.{SameValued}
use Rattle.roundtrip_programs.proofs.Shapes.{shapes_same}
use Rattle.roundtrip_programs.proofs.Judged.{stmts_same}
use Rattle.roundtrip_programs.proofs.Put.{decls_bare}
use Rattle.roundtrip_programs.proofs.Shared as groups
use Rattle.roundtrip_programs.proofs.Shared.{SameShared}
use Rattle.roundtrip_programs.proofs.Filled as initials
use Rattle.roundtrip_programs.proofs.Filled.{SameFilled}
use Rattle.roundtrip_programs.proofs.Symbols.{bare_layout, symbols_bare}

-- the same table, or a refusal of both
abbrev SameAnswer : Result (List SymbolTree) Refusal → Result (List SymbolTree) Refusal → Type 0
SameAnswer (Ok ss) (Ok rs) = ss ≡ rs
SameAnswer (Ok ss) (Err r) = ⊥
SameAnswer (Err r) (Ok ss) = ⊥
SameAnswer (Err r) (Err s) = Unit {0}

answer_same : (f g a b : Option Refusal) (l : Layout) → SameFound f g → SameFound a b → SameAnswer (answer f a l) (answer g b (bare_layout l))
answer_same None None None None l h k = symbols_bare l
answer_same None None (Some r) (Some s) l h k = tt
answer_same None None None (Some s) l h k = let e = k.same in cc
answer_same None None (Some r) None l h k = let e = k.same in cc
answer_same (Some r) (Some s) a b l h k = tt
answer_same None (Some s) a b l h k = let e = h.same in cc
answer_same (Some r) None a b l h k = let e = h.same in cc

-- ---- storage

answered_same : (t : NameTable) (ds : List DeclTree) (names : List (List ℕ)) (ss : List OffsetNode) (a b : Option Refusal) (f g : Filled) → SameFound a b → SameFilled f g
    → SameAnswer (symbols_or_refusal t ds names ss a f) (symbols_or_refusal (bare_table t) ds names ss b g)
unfolding symbols_or_refusal
answered_same t ds names ss a b f g k h =
    subst (λ (ps : List Piece). SameAnswer (answer f.found a (layout_for t ds ss names f)) (answer g.found b (record (layout_for (bare_table t) ds ss names g) { pieces = ps }))) h.pieces
    (answer_same f.found g.found a b (layout_for t ds ss names f) h.found k)

after_shared_same : (t : NameTable) (at : LineTable) (ds : List DeclTree) (names : List (List ℕ)) (s r : Shared) → SameShared s r
    → SameAnswer (after_shared t at ds names s) (after_shared (bare_table t) no_lines ds names r)
unfolding after_shared filled
after_shared_same t at ds names s r h =
    let all : SameFilled (filled t s.group.offset_nodes at ds s.found) (filled (bare_table t) s.group.offset_nodes no_lines ds r.found) =
    initials.decls_same t s.group.offset_nodes at ds 0 (record { pieces = refl; stretches = refl; found = h.found }) in
    subst (λ (g : Grouping). SameAnswer (symbols_or_refusal t ds names s.group.offset_nodes s.late (filled t s.group.offset_nodes at ds s.found)) (symbols_or_refusal (bare_table t) ds names g.offset_nodes r.late (filled (bare_table t) g.offset_nodes no_lines ds r.found))) h.group
    (answered_same t ds names s.group.offset_nodes s.late r.late (filled t s.group.offset_nodes at ds s.found) (filled (bare_table t) s.group.offset_nodes no_lines ds r.found) h.late all)

after_laid_same : (t : NameTable) (at : LineTable) (ds : List DeclTree) (f g : Option Refusal) (l : Laid) → SameFound f g → SameAnswer (lay_shared_and_data t at ds f l) (lay_shared_and_data (bare_table t) no_lines ds g l)
unfolding lay_shared_and_data shared
after_laid_same t at ds f g l h =
    after_shared_same t at ds l.names (shared t at ds l.offset_nodes f) (shared (bare_table t) no_lines ds l.offset_nodes g)
    (groups.decls_same t at ds 0 (record { group = refl; found = h; late = record { same = refl } }))

laid_bare : (t : NameTable) (ds : List DeclTree) → laid t ds ≡ laid (bare_table t) ds
unfolding laid
laid_bare t ds =
    decls_bare t ds (alone t)
    ∙ ap (λ n. decls_put (bare_table t) ds (record { offset_nodes = alone_from 0 n; names = []; sizes = [] })) (sym (length-map t.entries bare))

laid_out_same : (t : NameTable) (at : LineTable) (ds : List DeclTree) (f g : Option Refusal) → SameFound f g → SameAnswer (lay_out t at ds f) (lay_out (bare_table t) no_lines ds g)
unfolding lay_out
laid_out_same t at ds f g h =
    subst (λ l. SameAnswer (lay_out t at ds f) (lay_shared_and_data (bare_table t) no_lines ds g l)) (laid_bare t ds) (after_laid_same t at ds f g (laid t ds) h)

-- ---- names and checks

valued_same : (at : LineTable) (m : ModuleTree) → SameValued (valued at m) (valued no_lines m)
unfolding valued
valued_same at m = values.decls_same at m.decls 0 (record { table = names_same at m; found = judged_same at m })

checked_same : (at : LineTable) (m : ModuleTree) (v : Valued) (g : Option Refusal) → SameFound v.found g → SameFound (checked at m v) (checked no_lines m (record { table = bare_table v.table; found = g }))
unfolding checked
checked_same at m v g h = stmts_same v.table at m.body 0 (shapes_same v.table v.table.entries h)

after_valued_same : (at : LineTable) (m : ModuleTree) (v w : Valued) → SameValued v w → SameAnswer (check_and_lay_out at m v) (check_and_lay_out no_lines m w)
unfolding check_and_lay_out
after_valued_same at m v w h =
    subst (λ t. SameAnswer (check_and_lay_out at m v) (check_and_lay_out no_lines m (record { table = t; found = w.found }))) h.table
    (laid_out_same v.table at m.decls (checked at m v) (checked no_lines m (record { table = bare_table v.table; found = w.found })) (checked_same at m v w.found h.found))

symbols_same : (at : LineTable) (m : ModuleTree) → SameAnswer (symbols_at at m) (symbols_at no_lines m)
unfolding symbols_at
symbols_same at m = after_valued_same at m (valued at m) (valued no_lines m) (valued_same at m)

-- ---- the law

same_ok : (a b : Result (List SymbolTree) Refusal) (ss : List SymbolTree) → SameAnswer a b → a ≡ Ok ss → b ≡ Ok ss
same_ok (Ok rs) (Ok qs) ss h e = ap (λ (z : List SymbolTree). Ok z) (sym h) ∙ e
same_ok (Ok rs) (Err r) ss h e = absurd h
same_ok (Err r) b ss h e = cc

ok_same : (a b : Result (List SymbolTree) Refusal) (ss : List SymbolTree) → SameAnswer a b → b ≡ Ok ss → a ≡ Ok ss
ok_same (Ok rs) (Ok qs) ss h e = ap (λ (z : List SymbolTree). Ok z) h ∙ e
ok_same (Err r) (Ok qs) ss h e = absurd h
ok_same a (Err r) ss h e = cc

pub tables_ignore_places : TablesIgnorePlaces
unfolding symbols_of
tables_ignore_places p q ss same e =
    let bared = same_ok _ _ ss (symbols_same (lines_of p.places.spots) p.module_read) e in
    ok_same _ _ ss (symbols_same (lines_of q.places.spots) q.module_read) (ap (symbols_at no_lines) same ∙ bared)
