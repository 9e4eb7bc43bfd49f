-- DATA gives the same values, whatever the lines.
use Rattle.std.proofs.Common.{◌≡◌, ℕ, ◌+◌, Bool, true, false, List, [], ◌∷◌, ◌++◌, Option, Some, None, refl, sym, ap, ◌∙◌, subst}
use Rattle.std.specs.Prelude.{if◌then◌else◌, not, ◌||◌, nat_eq, slice_get, option_map, is_some, is_none}
use Rattle.std.specs.List.{list_any}
use Rattle.std.proofs.Math.Path.{fun_ext}
use Rattle.std.proofs.lemmas.Option.{slice_get-map}
use Rattle.f77_ast.specs.Trees.{ExprTree}
use Rattle.f77_ast.specs.Trees as tree
use Rattle.f77_ast.specs.DeclTrees.{DataTree, DeclTree}
use Rattle.f77_ast.specs.DeclTrees as decl
use Rattle.f77_names.specs.declared.lines.Sited.TheVariants.{Decl}
use Rattle.f77_names.specs.Lines.{LineTable, line_or}
use Rattle.f77_names.specs.Entries.{EntryTree, find}
use Rattle.f77_names.specs.Tables.{NameTable, entry_kind}
use Rattle.f77_checks.specs.Dimensions.{dims_in}
use Rattle.storage_data.specs.declared.offset_node.OffsetNode.{OffsetNode}
use Rattle.storage_data.specs.declared.targets.Target.{Target}
use Rattle.storage_data.specs.declared.targets.Target.TheVariants.{Excluded, Open, Covers}
use Rattle.storage_data.specs.declared.values.Run.{Run}
use Rattle.storage_data.specs.declared.deals.Piece.{Piece}
use Rattle.storage_data.specs.declared.stretches.Stretch.{Stretch}
use Rattle.storage_data.specs.declared.initials.Filled.{Filled}
use Rattle.storage_data.specs.Units.{place_of}
use Rattle.storage_data.specs.Items.{item_name, item_fault}
use Rattle.storage_data.specs.Initials.{is_excluded, is_open, covers_element, covers, is_associated, is_barred, entry_target, named_target, target_of, targets_of, units_in, runs_of, values_in, dealt, has_other_type, kind_at, is_mistyped, stretches_of, meet_twice, mismatch, given, targets_filled, faulted, group_filled, groups_filled, decl_filled, decls_filled}
use Rattle.roundtrip_programs.proofs.Found.{SameFound, noted_same}
use Rattle.roundtrip_programs.proofs.Bare.{no_lines, bare, bares, bare_found, bare_table, find_bare, some_line}
use Rattle.roundtrip_programs.proofs.Shapes.{dims_bare}
use Rattle.roundtrip_programs.proofs.Items.{place_bare, units_bare, position_bare, fault_same, items_same}

-- ---- targets

covers_bare : (t : NameTable) (place : ℕ) (i : ExprTree) → covers t place i ≡ covers (bare_table t) place i
covers_bare t place (tree.name x) = ap (λ n. Covers place 0 n) (units_bare t x)
covers_bare t place (tree.element x es) = ap (covers_element place) (position_bare t (tree.element x es))
covers_bare t place (tree.int n) = refl
covers_bare t place (tree.log b) = refl
covers_bare t place (tree.paren e) = refl
covers_bare t place (tree.unary o e) = refl
covers_bare t place (tree.binary o a b) = refl
covers_bare t place (tree.chars x) = refl

barred_bare : (e : EntryTree) (s : Option OffsetNode) → is_barred e s ≡ is_barred (bare e) s
barred_bare e s = ap (λ b. is_some e.dummy || (b || (e.parameter || is_associated s))) (some_line e.common)

open_bare : (t : NameTable) (i : ExprTree) (e : EntryTree) → (is_none (dims_in t e) || is_some (item_fault t i 0)) ≡ (is_none (dims_in (bare_table t) (bare e)) || is_some (item_fault (bare_table t) i 0))
open_bare t i e =
    ap (λ ds. is_none ds || is_some (item_fault t i 0)) (dims_bare t e)
    ∙ ap (λ b. is_none (dims_in (bare_table t) (bare e)) || b) (fault_same t i 0 0).same

entry_target_bare : (t : NameTable) (ss : List OffsetNode) (i : ExprTree) (p : Option ℕ) (o : Option EntryTree) → entry_target t ss i p o ≡ entry_target (bare_table t) ss i p (bare_found o)
entry_target_bare t ss i None o = refl
entry_target_bare t ss i (Some place) None = refl
entry_target_bare t ss i (Some place) (Some e) =
    ap (λ b. if b then Excluded else if is_none (dims_in t e) || is_some (item_fault t i 0) then Open else covers t place i) (barred_bare e (slice_get ss place))
    ∙ ap (λ b. if is_barred (bare e) (slice_get ss place) then Excluded else if b then Open else covers t place i) (open_bare t i e)
    ∙ ap (λ c. if is_barred (bare e) (slice_get ss place) then Excluded else if is_none (dims_in (bare_table t) (bare e)) || is_some (item_fault (bare_table t) i 0) then Open else c) (covers_bare t place i)

named_target_bare : (t : NameTable) (ss : List OffsetNode) (i : ExprTree) (x : Option (List ℕ)) → named_target t ss i x ≡ named_target (bare_table t) ss i x
named_target_bare t ss i None = refl
named_target_bare t ss i (Some x) =
    entry_target_bare t ss i (place_of t x) (find x t.entries)
    ∙ ap (λ o. entry_target (bare_table t) ss i (place_of t x) o) (sym (find_bare x t.entries))
    ∙ ap (λ p. entry_target (bare_table t) ss i p (find x (bares t.entries))) (place_bare t x)

targets_bare : (t : NameTable) (ss : List OffsetNode) (is : List ExprTree) → targets_of t ss is ≡ targets_of (bare_table t) ss is
targets_bare t ss [] = refl
targets_bare t ss (i ∷ is) =
    ap (λ c. c ∷ targets_of t ss is) (named_target_bare t ss i (item_name i))
    ∙ ap (λ (cs : List Target). target_of (bare_table t) ss i ∷ cs) (targets_bare t ss is)

-- ---- types of values

kind_same : (t : NameTable) (o : Option EntryTree) → kind_at t o ≡ kind_at (bare_table t) (option_map bare o)
unfolding entry_kind
kind_same t None = refl
kind_same t (Some e) = refl

mistyped_bare : (t : NameTable) (p : Piece) → is_mistyped t p ≡ is_mistyped (bare_table t) p
mistyped_bare t p = ap (λ k. has_other_type k p.value) (kind_same t (slice_get t.entries p.place) ∙ ap (kind_at (bare_table t)) (sym (slice_get-map bare t.entries p.place)))

some_mistyped : (t : NameTable) (ps : List Piece) → list_any (is_mistyped t) ps ≡ list_any (is_mistyped (bare_table t)) ps
some_mistyped t ps = ap (λ f. list_any f ps) (fun_ext (mistyped_bare t))

-- ---- statements

-- the same values of the same units
pub record SameFilled (f g : Filled) : Type 0 where
  pub pieces : f.pieces ≡ g.pieces
  pub stretches : f.stretches ≡ g.stretches
  pub found : SameFound f.found g.found

mismatch_same : (l : ℕ) {f g : Filled} → SameFilled f g → SameFilled (mismatch true l f) (mismatch true 0 g)
mismatch_same l h = record { pieces = h.pieces; stretches = h.stretches; found = noted_same _ _ _ _ _ _ refl h.found }

given_same : (t : NameTable) (ss : List OffsetNode) (cs : List Target) (rs : List Run) (l : ℕ) {f g : Filled} → SameFilled f g → SameFilled (given t ss cs rs l f) (given (bare_table t) ss cs rs 0 g)
given_same t ss cs rs l {f} {g} h =
    let wrong =
    ap (λ b. b || meet_twice f.stretches (stretches_of ss cs)) (some_mistyped t (dealt cs rs))
    ∙ ap (λ (z : List Stretch). list_any (is_mistyped (bare_table t)) (dealt cs rs) || meet_twice z (stretches_of ss cs)) h.stretches in
    record {
      pieces = ap (λ (ps : List Piece). ps ++ dealt cs rs) h.pieces;
      stretches = ap (λ (z : List Stretch). z ++ stretches_of ss cs) h.stretches;
      found = noted_same _ _ _ _ _ _ wrong h.found;
    }

if_same : (b : Bool) (f g v w : Filled) → SameFilled f g → SameFilled v w → SameFilled (if b then f else v) (if b then g else w)
if_same true f g v w h k = h
if_same false f g v w h k = k

targets_same : (t : NameTable) (ss : List OffsetNode) (cs : List Target) (rs : List Run) (l : ℕ) {f g : Filled} → SameFilled f g → SameFilled (targets_filled t ss cs rs l f) (targets_filled (bare_table t) ss cs rs 0 g)
targets_same t ss cs rs l {f} {g} h =
    let wrong = mismatch_same l h in
    if_same (list_any is_excluded cs) _ _ _ _ wrong
    (if_same (list_any is_open cs) _ _ _ _ h
    (if_same (not (nat_eq (units_in cs) (values_in rs))) _ _ _ _ wrong (given_same t ss cs rs l h)))

group_same : (t : NameTable) (ss : List OffsetNode) (d : DataTree) (l : ℕ) {f g : Filled} → SameFilled f g → SameFilled (group_filled t ss d l f) (group_filled (bare_table t) ss d 0 g)
group_same t ss d l {f} {g} h =
    let faults : SameFilled (faulted t d.targets l f) (faulted (bare_table t) d.targets 0 g) =
    record { pieces = h.pieces; stretches = h.stretches; found = items_same t d.targets l 0 h.found } in
    subst (λ cs. SameFilled (group_filled t ss d l f) (targets_filled (bare_table t) ss cs (runs_of d.values) 0 (faulted (bare_table t) d.targets 0 g))) (targets_bare t ss d.targets)
    (targets_same t ss (targets_of t ss d.targets) (runs_of d.values) l faults)

groups_same : (t : NameTable) (ss : List OffsetNode) (gs : List DataTree) (l : ℕ) {f g : Filled} → SameFilled f g → SameFilled (groups_filled t ss gs l f) (groups_filled (bare_table t) ss gs 0 g)
groups_same t ss [] l h = h
groups_same t ss (d ∷ gs) l h = groups_same t ss gs l (group_same t ss d l h)

decl_same : (t : NameTable) (ss : List OffsetNode) (d : DeclTree) (l : ℕ) {f g : Filled} → SameFilled f g → SameFilled (decl_filled t ss d l f) (decl_filled (bare_table t) ss d 0 g)
decl_same t ss (decl.initial gs) l h = groups_same t ss gs l h
decl_same t ss (decl.implicit ps) l h = h
decl_same t ss (decl.integer es) l h = h
decl_same t ss (decl.logical es) l h = h
decl_same t ss (decl.dimension es) l h = h
decl_same t ss (decl.parameter ps) l h = h
decl_same t ss (decl.common cs) l h = h
decl_same t ss (decl.equivalence gs) l h = h
decl_same t ss (decl.save is) l h = h

pub decls_same : (t : NameTable) (ss : List OffsetNode) (at : LineTable) (ds : List DeclTree) (n : ℕ) {f g : Filled} → SameFilled f g → SameFilled (decls_filled t ss at ds n f) (decls_filled (bare_table t) ss no_lines ds n g)
decls_same t ss at [] n h = h
decls_same t ss at (d ∷ ds) n h = decls_same t ss at ds (n + 1) (decl_same t ss d (line_or at (Decl n) 0) h)
