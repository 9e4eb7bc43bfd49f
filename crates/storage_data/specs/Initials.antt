-- DATA: values are given to units in order (ANSI X3.9-1978 §9).
use Rattle.std.specs.Prelude.{◌≡◌, ℕ, ◌+◌, ◌-◌, Bool, true, false, not, ◌&&◌, ◌||◌, nat_eq, nat_le, pos, ◌+ℤ◌, int_lt, List, [], ◌∷◌, ◌++◌, slice_get, reverse, Option, Some, None, is_some, is_none, if◌then◌else◌}
use Rattle.std.specs.List.{list_any}
use Rattle.f77_ast.specs.Trees.{ExprTree}
use Rattle.f77_ast.specs.Trees as tree
use Rattle.f77_ast.specs.DeclTrees.{DataValueTree, DataTree, DeclTree}
use Rattle.f77_ast.specs.DeclTrees as decl
use Rattle.f77_ast.specs.declared.constant.Constant.{Constant}
use Rattle.f77_ast.specs.declared.constant.Constant.TheVariants as constant
use Rattle.f77_ast.specs.declared.constant.ConstantValue.{ConstantValue}
use Rattle.f77_ast.specs.declared.constant.ConstantValue.TheVariants.{Is, Faults, Varies}
use Rattle.f77_ast.specs.Constants.{const_value}
use Rattle.fx_lists.specs.declared.code.Code.TheVariants.{InitialMismatch}
use Rattle.fx_lists.specs.declared.refusal.Refusal.{Refusal}
use Rattle.f77_names.specs.declared.kinds.Kind.{Kind}
use Rattle.f77_names.specs.declared.kinds.Kind.TheVariants.{Int, Log, Real}
use Rattle.f77_names.specs.declared.lines.Sited.TheVariants.{Decl}
use Rattle.fx_lists.specs.Refusals.{refuse_if}
use Rattle.f77_names.specs.Lines.{LineTable, line_or}
use Rattle.f77_names.specs.Entries.{EntryTree, find}
use Rattle.f77_names.specs.Tables.{NameTable, entry_kind}
use Rattle.f77_checks.specs.Dimensions.{dims_in}
use Rattle.storage_data.specs.declared.offset_node.OffsetNode.{OffsetNode}
use Rattle.storage_data.specs.OffsetNodes.{same_home, is_block}
use Rattle.storage_data.specs.declared.targets.Target.{Target}
use Rattle.storage_data.specs.declared.targets.Target.TheVariants.{Excluded, Open, Covers}
use Rattle.storage_data.specs.declared.values.Run.{Run}
use Rattle.storage_data.specs.declared.deals.Piece.{Piece}
use Rattle.storage_data.specs.declared.stretches.Stretch.{Stretch}
use Rattle.storage_data.specs.declared.initials.Filled.{Filled}
use Rattle.storage_data.specs.Units.{place_of, units_of}
use Rattle.storage_data.specs.Items.{item_name, item_fault, item_position, check_items}

-- ---- targets

abbrev pub is_excluded : Target → Bool
is_excluded Excluded = true
is_excluded Open = false
is_excluded (Covers p o n) = false

abbrev pub is_open : Target → Bool
is_open Excluded = false
is_open Open = true
is_open (Covers p o n) = false

abbrev pub covers_element : ℕ → Option ℕ → Target
covers_element place None = Excluded
covers_element place (Some k) = Covers place k 1

abbrev pub covers : NameTable → ℕ → ExprTree → Target
covers t place (tree.name x) = Covers place 0 (units_of t x)
covers t place (tree.element x es) = covers_element place (item_position t (tree.element x es))
covers t place (tree.int n) = Excluded
covers t place (tree.log b) = Excluded
covers t place (tree.paren e) = Excluded
covers t place (tree.unary o e) = Excluded
covers t place (tree.binary o a b) = Excluded
covers t place (tree.chars x) = Excluded

abbrev pub is_associated : Option OffsetNode → Bool
is_associated None = false
is_associated (Some s) = is_block s.home

-- dummies, PARAMETER names and what lies in a block have no DATA
abbrev pub is_barred : EntryTree → Option OffsetNode → Bool
is_barred e s = is_some e.dummy || (is_some e.common || (e.parameter || is_associated s))

abbrev pub entry_target : NameTable → List OffsetNode → ExprTree → Option ℕ → Option EntryTree → Target
entry_target t ss i None e = Excluded
entry_target t ss i (Some place) None = Excluded
entry_target t ss i (Some place) (Some e) =
    if is_barred e (slice_get ss place) then Excluded
    else if is_none (dims_in t e) || is_some (item_fault t i 0) then Open
    else covers t place i

abbrev pub named_target : NameTable → List OffsetNode → ExprTree → Option (List ℕ) → Target
named_target t ss i None = Excluded
named_target t ss i (Some x) = entry_target t ss i (place_of t x) (find x t.entries)

-- what a target asks for
abbrev pub target_of : NameTable → List OffsetNode → ExprTree → Target
target_of t ss i = named_target t ss i (item_name i)

abbrev pub targets_of : NameTable → List OffsetNode → List ExprTree → List Target
targets_of t ss [] = []
targets_of t ss (i ∷ is) = target_of t ss i ∷ targets_of t ss is

abbrev pub count_of : Target → ℕ
count_of Excluded = 0
count_of Open = 0
count_of (Covers p o n) = n

abbrev pub units_in : List Target → ℕ
units_in [] = 0
units_in (c ∷ cs) = count_of c + units_in cs

-- ---- values

abbrev pub times : Option ℕ → ℕ
times None = 1
times (Some n) = n

abbrev pub constant_of : ConstantValue → Option Constant
constant_of (Is c) = Some c
constant_of Faults = None
constant_of Varies = None

-- a value is a literal, perhaps with a sign
abbrev pub literal_of : ExprTree → Option Constant
literal_of e = constant_of (const_value (λ x. None) e)

abbrev pub run_of : DataValueTree → Run
run_of v = record { count = times v.repeat; value = literal_of v.value }

-- a value that is repeated no times is none
abbrev pub with_run : Run → List Run → List Run
with_run r rs = if nat_eq r.count 0 then rs else r ∷ rs

abbrev pub runs_of : List DataValueTree → List Run
runs_of [] = []
runs_of (v ∷ vs) = with_run (run_of v) (runs_of vs)

abbrev pub values_in : List Run → ℕ
values_in [] = 0
values_in (r ∷ rs) = r.count + values_in rs

-- ---- values for targets

pub record Dealt : Type 0 where
  pub pieces : List Piece
  pub rest : List Run

abbrev pub with_piece : Piece → Dealt → Dealt
with_piece p d = record { pieces = p ∷ d.pieces; rest = d.rest }

abbrev pub piece_of : ℕ → ℕ → ℕ → Run → Piece
piece_of place offset n r = record { place = place; offset = offset; count = n; value = r.value }

-- the first of these values for so many units of a name from an offset on
abbrev pub taken : ℕ → ℕ → ℕ → List Run → Dealt
taken place offset n [] = record { pieces = []; rest = [] }
taken place offset n (r ∷ rs) =
    if nat_eq n 0 then record { pieces = []; rest = r ∷ rs }
    else if nat_le r.count n
    then with_piece (piece_of place offset r.count r) (taken place (offset + r.count) (n - r.count) rs)
    else record { pieces = piece_of place offset n r ∷ []; rest = record { count = r.count - n; value = r.value } ∷ rs }

abbrev pub taken_for : Target → List Run → Dealt
taken_for Excluded rs = record { pieces = []; rest = rs }
taken_for Open rs = record { pieces = []; rest = rs }
taken_for (Covers place offset n) rs = taken place offset n rs

-- the targets take their values one after another
abbrev pub dealt : List Target → List Run → List Piece
dealt [] rs = []
dealt (c ∷ cs) rs = (taken_for c rs).pieces ++ dealt cs (taken_for c rs).rest

-- the pieces stand behind those before, and the values that are left the other way round
pub record Takes (d : Dealt) (before after : List Piece) (left : List Run) : Type 0 where
  pub pieces : after ≡ before ++ d.pieces
  pub rest : reverse left ≡ d.rest

-- ---- refusals

abbrev pub has_other_type : Kind → Option Constant → Bool
has_other_type k None = true
has_other_type Int (Some (constant.Int n)) = false
has_other_type Int (Some (constant.Log b)) = true
has_other_type Log (Some (constant.Int n)) = true
has_other_type Log (Some (constant.Log b)) = false
has_other_type Real (Some c) = false

abbrev pub kind_at : NameTable → Option EntryTree → Kind
kind_at t None = Real
kind_at t (Some e) = entry_kind t.kinds e

abbrev pub is_mistyped : NameTable → Piece → Bool
is_mistyped t p = has_other_type (kind_at t (slice_get t.entries p.place)) p.value

-- two stretches of units have one in common
abbrev pub meets : Stretch → Stretch → Bool
meets a b = same_home a.home b.home && (int_lt a.from b.end && int_lt b.from a.end)

abbrev pub stretch_at : Option OffsetNode → ℕ → ℕ → List Stretch
stretch_at None offset n = []
stretch_at (Some s) offset n = record { home = s.home; from = s.offset +ℤ pos offset; end = (s.offset +ℤ pos offset) +ℤ pos n } ∷ []

abbrev pub stretch_of : List OffsetNode → Target → List Stretch
stretch_of ss Excluded = []
stretch_of ss Open = []
stretch_of ss (Covers place offset n) = stretch_at (slice_get ss place) offset n

abbrev pub stretches_of : List OffsetNode → List Target → List Stretch
stretches_of ss [] = []
stretches_of ss (c ∷ cs) = stretch_of ss c ++ stretches_of ss cs

abbrev pub meets_some : Stretch → List Stretch → Bool
meets_some s before = list_any (meets s) before

-- one of these meets one before it
abbrev pub meet_twice : List Stretch → List Stretch → Bool
meet_twice before [] = false
meet_twice before (s ∷ ss) = meets_some s before || meet_twice (before ++ s ∷ []) ss

-- ---- statements

-- no values yet
abbrev pub unfilled : Option Refusal → Filled
unfilled found = record { pieces = []; stretches = []; found = found }

abbrev pub mismatch : Bool → ℕ → Filled → Filled
mismatch wrong line f = record f { found = refuse_if wrong line InitialMismatch f.found }

-- as many values as units: they are given, and refused where a type differs or a unit has one
abbrev pub given_pieces : NameTable → List Piece → List Stretch → ℕ → Filled → Filled
given_pieces t ps new line f = record {
  pieces = f.pieces ++ ps;
  stretches = f.stretches ++ new;
  found = refuse_if (list_any (is_mistyped t) ps || meet_twice f.stretches new) line InitialMismatch f.found;
}

abbrev pub given : NameTable → List OffsetNode → List Target → List Run → ℕ → Filled → Filled
given t ss cs rs line f = given_pieces t (dealt cs rs) (stretches_of ss cs) line f

-- where a target is open nothing is said of the number of values
abbrev pub targets_filled : NameTable → List OffsetNode → List Target → List Run → ℕ → Filled → Filled
targets_filled t ss cs rs line f =
    if list_any is_excluded cs then mismatch true line f
    else if list_any is_open cs then f
    else if not (nat_eq (units_in cs) (values_in rs)) then mismatch true line f
    else given t ss cs rs line f

abbrev pub faulted : NameTable → List ExprTree → ℕ → Filled → Filled
faulted t is line f = record f { found = check_items t is line f.found }

abbrev pub group_filled : NameTable → List OffsetNode → DataTree → ℕ → Filled → Filled
group_filled t ss g line f = targets_filled t ss (targets_of t ss g.targets) (runs_of g.values) line (faulted t g.targets line f)

abbrev pub groups_filled : NameTable → List OffsetNode → List DataTree → ℕ → Filled → Filled
groups_filled t ss [] line f = f
groups_filled t ss (g ∷ gs) line f = groups_filled t ss gs line (group_filled t ss g line f)

abbrev pub decl_filled : NameTable → List OffsetNode → DeclTree → ℕ → Filled → Filled
decl_filled t ss (decl.initial gs) line f = groups_filled t ss gs line f
decl_filled t ss (decl.implicit ps) line f = f
decl_filled t ss (decl.integer es) line f = f
decl_filled t ss (decl.logical es) line f = f
decl_filled t ss (decl.dimension es) line f = f
decl_filled t ss (decl.parameter ps) line f = f
decl_filled t ss (decl.common cs) line f = f
decl_filled t ss (decl.equivalence gs) line f = f
decl_filled t ss (decl.save is) line f = f

abbrev pub decls_filled : NameTable → List OffsetNode → LineTable → List DeclTree → ℕ → Filled → Filled
decls_filled t ss at [] n f = f
decls_filled t ss at (d ∷ ds) n f = decls_filled t ss at ds (n + 1) (decl_filled t ss d (line_or at (Decl n) 0) f)
