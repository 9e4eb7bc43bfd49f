-- The numbers that DATA gives, of modules that are read, have 32 bits.
use Rattle.std.proofs.Common.{◌≡◌, ℕ, zero, suc, ◌+◌, ◌-◌, ◌&&◌, Bool, true, false, ℤ, List, [], ◌∷◌, Option, Some, None, Ok, refl, sym, subst}
use Rattle.std.specs.Prelude.{if◌then◌else◌, not, nat_eq, nat_le, nat_lt, slice_get}
use Rattle.std.specs.List.{list_any}
use Rattle.f77_ast.specs.Trees.{ExprTree}
use Rattle.f77_ast.specs.DeclTrees.{DataValueTree, DataTree, DeclTree, ParsedTree}
use Rattle.f77_ast.specs.DeclTrees as decl
use Rattle.f77_ast.specs.Numbers.{in_range}
use Rattle.f77_ast.specs.declared.constant.Constant.{Constant}
use Rattle.f77_ast.specs.declared.constant.Constant.TheVariants as constant
use Rattle.f77_ast.specs.declared.constant.ConstantValue.{ConstantValue}
use Rattle.f77_ast.specs.declared.constant.ConstantValue.TheVariants.{Is, Faults, Varies}
use Rattle.f77_ast.specs.Constants.{number_of, const_value}
use Rattle.f77_ast.specs.declared.symbol.InitialRun.{InitialRun}
use Rattle.f77_ast.specs.Symbols.{SymbolTree}
use Rattle.f77_names.specs.declared.lines.Sited.TheVariants.{Decl}
use Rattle.f77_names.specs.Lines.{LineTable, line_or}
use Rattle.f77_names.specs.Entries.{EntryTree}
use Rattle.f77_names.specs.Tables.{NameTable}
use Rattle.laws_programs.specs.storage_data.declared.offset_node.OffsetNode.{OffsetNode}
use Rattle.laws_programs.specs.storage_data.declared.targets.Target.{Target}
use Rattle.laws_programs.specs.storage_data.declared.targets.Target.TheVariants.{Excluded, Open, Covers}
use Rattle.laws_programs.specs.storage_data.declared.values.Run.{Run}
use Rattle.laws_programs.specs.storage_data.declared.deals.Piece.{Piece}
use Rattle.laws_programs.specs.storage_data.declared.initials.Filled.{Filled}
use Rattle.laws_programs.specs.storage_data.Initials.{is_excluded, is_open, targets_of, units_in, constant_of, literal_of, values_in, run_of, runs_of, Dealt, with_piece, piece_of, taken, taken_for, dealt, unfilled, mismatch, given, targets_filled, faulted, group_filled, groups_filled, decl_filled, decls_filled}
use Rattle.laws_programs.specs.storage_data.Runs.{place_before, run_of as initial_run, with_value, with_piece as with_initial, pieces_for, is_next, one_run, behind, all_behind, initial_of}
use Rattle.storage_layout.specs.Table.{Layout, symbols_from}
use Rattle.storage_layout.specs.Symbols.{symbols_of, filled}
use Rattle.laws_programs.specs.roundtrip_programs.Statements.Formed.{Each, number}
use Rattle.laws_programs.specs.roundtrip_programs.Statements.Declared.{IsConstant, truth, whole, raised, lowered, IsValue, IsInitial}
use Rattle.laws_programs.specs.roundtrip_programs.Statements.Phrased.{IsPhrase}
use Rattle.f77_statements.specs.Phrases.{specification}
use Rattle.laws_programs.specs.roundtrip_programs.ModuleTexts.Cards.{decl_cards}
use Rattle.laws_programs.proofs.RoundtripPrograms.Statements.DeclBack.{each_of}
use Rattle.laws_programs.proofs.Ordered.{AllFormed}
use Rattle.laws_programs.proofs.Sources.{IsBuilt}
use Rattle.laws_programs.proofs.SymbolTables.Answers.{lines_in, names_in, shared_in, filled_in, layout_in, answered_by}
use Rattle.laws_programs.proofs.Storage.EveryLaws.{every_inserted}
use Rattle.fx_lists.proofs.Every.{Every, every_joined, every_turned}
use Rattle.f77_ast.specs.declared.decl.Scalar.{Scalar}
use Rattle.f77_ast.specs.Store.{Content}
use Rattle.call_graph.specs.declared.graph.Graph.{Graph}
use Rattle.f77_meaning.specs.Areas.{Numbering}
use Rattle.f77_meaning.specs.Modules.{Known, fixed_place, value_from}
use Rattle.f77_meaning.specs.Linked.{numbering, content_of, or_else, initial_by, initial_in, initial_of as store_of, or_empty, initial}
use Rattle.laws_interleavings.specs.Plans.Touched.{StoreInRange}
use Rattle.laws_marks.proofs.Literals.{decls_formed}
use Rattle.laws_analyses.proofs.LiteralLaws.{Small, formed_small, MaybeFits, ConstantValueFits, const_value_fits}

-- ---- the values

constant_small : {e : ExprTree} → IsConstant e → Small e
constant_small (truth b) = tt
constant_small (whole n h) = formed_small (number n h)
constant_small (raised n h) = formed_small (number n h)
constant_small (lowered n h) = formed_small (number n h)

maybe_fits : (w : ConstantValue) → ConstantValueFits w → MaybeFits (constant_of w)
maybe_fits (Is c) h = h
maybe_fits Faults h = tt
maybe_fits Varies h = tt

literal_fits : (e : ExprTree) → IsConstant e → MaybeFits (literal_of e)
literal_fits e h = maybe_fits (const_value (λ x. None) e) (const_value_fits (λ x. None) (λ x. tt) e (constant_small h))

number_small : (c : Constant) → MaybeFits (Some c) → in_range (number_of c) ≡ true
number_small (constant.Int n) h = h
number_small (constant.Log true) h = refl
number_small (constant.Log false) h = refl

abbrev RunFits : Run → Type 0
RunFits r = MaybeFits r.value

abbrev PieceFits : Piece → Type 0
PieceFits p = MaybeFits p.value

runs_fit : (vs : List DataValueTree) → Each IsValue vs → Every RunFits (runs_of vs)
runs_fit [] h = tt
runs_fit (v ∷ vs) h = go (nat_eq (run_of v).count 0) (runs_fit vs h.others)
  where
    go : (b : Bool) → Every RunFits (runs_of vs) → Every RunFits (if b then runs_of vs else run_of v ∷ runs_of vs)
    go true k = k
    go false k = (literal_fits v.value h.first.value, k)

-- ---- their pieces

abbrev DealtFits : Dealt → Type 0
DealtFits d = Every PieceFits d.pieces × Every RunFits d.rest

taken_fits : (rs : List Run) (place offset n : ℕ) → Every RunFits rs → DealtFits (taken place offset n rs)
taken_fits [] place offset n h = (tt, tt)
taken_fits (r ∷ rs) place offset n h = go (nat_eq n 0) (nat_le r.count n) (taken_fits rs place (offset + r.count) (n - r.count) h.1)
  where
    go : (b c : Bool) → DealtFits (taken place (offset + r.count) (n - r.count) rs) →
        DealtFits (if b then record { pieces = []; rest = r ∷ rs } else if c then with_piece (piece_of place offset r.count r) (taken place (offset + r.count) (n - r.count) rs) else record { pieces = piece_of place offset n r ∷ []; rest = record { count = r.count - n; value = r.value } ∷ rs })
    go true c ih = (tt, h)
    go false true ih = ((h.0, ih.0), ih.1)
    go false false ih = ((h.0, tt), (h.0, h.1))

target_fits : (c : Target) (rs : List Run) → Every RunFits rs → DealtFits (taken_for c rs)
target_fits Excluded rs h = (tt, h)
target_fits Open rs h = (tt, h)
target_fits (Covers place offset n) rs h = taken_fits rs place offset n h

dealt_fits : (cs : List Target) (rs : List Run) → Every RunFits rs → Every PieceFits (dealt cs rs)
dealt_fits [] rs h = tt
dealt_fits (c ∷ cs) rs h = (let r = target_fits c rs h in every_joined PieceFits (taken_for c rs).pieces (dealt cs (taken_for c rs).rest) r.0 (dealt_fits cs (taken_for c rs).rest r.1))

-- ---- statements

module _ (t : NameTable) (ss : List OffsetNode) where
  filled_fit : (cs : List Target) (rs : List Run) (line : ℕ) (f : Filled) → Every RunFits rs → Every PieceFits f.pieces → Every PieceFits (targets_filled t ss cs rs line f).pieces
  filled_fit cs rs line f h p = go (list_any is_excluded cs) (list_any is_open cs) (not (nat_eq (units_in cs) (values_in rs)))
    where
      go : (a b d : Bool) → Every PieceFits (let r : Filled = if a then mismatch true line f else if b then f else if d then mismatch true line f else given t ss cs rs line f in r.pieces)
      go true b d = p
      go false true d = p
      go false false true = p
      go false false false = every_joined PieceFits f.pieces (dealt cs rs) p (dealt_fits cs rs h)

  groups_fit : (gs : List DataTree) (line : ℕ) (f : Filled) → Each IsInitial gs → Every PieceFits f.pieces → Every PieceFits (groups_filled t ss gs line f).pieces
  groups_fit [] line f h p = p
  groups_fit (g ∷ gs) line f h p =
      groups_fit gs line (group_filled t ss g line f) h.others (filled_fit (targets_of t ss g.targets) (runs_of g.values) line (faulted t g.targets line f) (runs_fit g.values (each_of IsValue g.values h.first.values)) p)

  decl_fits : (d : DeclTree) (line : ℕ) (f : Filled) → IsPhrase (specification d) → Every PieceFits f.pieces → Every PieceFits (decl_filled t ss d line f).pieces
  decl_fits (decl.initial gs) line f h p = groups_fit gs line f (each_of IsInitial gs h) p
  decl_fits (decl.implicit ps) line f h p = p
  decl_fits (decl.integer es) line f h p = p
  decl_fits (decl.logical es) line f h p = p
  decl_fits (decl.dimension es) line f h p = p
  decl_fits (decl.parameter xs) line f h p = p
  decl_fits (decl.common cs) line f h p = p
  decl_fits (decl.equivalence gs) line f h p = p
  decl_fits (decl.save is) line f h p = p

  decls_fit : (at : LineTable) (ds : List DeclTree) (n : ℕ) (f : Filled) → AllFormed (decl_cards n ds) → Every PieceFits f.pieces → Every PieceFits (decls_filled t ss at ds n f).pieces
  decls_fit at [] n f h p = p
  decls_fit at (d ∷ ds) n f h p = decls_fit at ds (n + 1) (decl_filled t ss d (line_or at (Decl n) 0) f) h.others (decl_fits d (line_or at (Decl n) 0) f h.first.1 p)

pieces_fit : (p : ParsedTree) → IsBuilt p → Every PieceFits (filled_in p).pieces
unfolding filled
pieces_fit p b = decls_fit (names_in p) (shared_in p).group.offset_nodes (lines_in p) p.module_read.decls 0 (unfilled (shared_in p).found) (decls_formed p.module_read b.formed) tt

-- ---- the runs of a name

abbrev pub IsSmallRun : InitialRun → Type 0
IsSmallRun r = in_range r.value ≡ true

valued_fit : (p : Piece) (v : Option Constant) (rs : List InitialRun) → MaybeFits v → Every IsSmallRun rs → Every IsSmallRun (with_value p v rs)
valued_fit p None rs f h = h
valued_fit p (Some c) rs f h = every_inserted IsSmallRun rs (place_before 0 (initial_run p c) rs) (initial_run p c) h (number_small c f)

piece_fits : (n : ℕ) (p : Piece) (rs : List InitialRun) → PieceFits p → Every IsSmallRun rs → Every IsSmallRun (with_initial n p rs)
piece_fits n p rs f h = go (nat_eq p.place n)
  where
    go : (b : Bool) → Every IsSmallRun (if b then with_value p p.value rs else rs)
    go true = valued_fit p p.value rs f h
    go false = h

all_pieces_fit : (n : ℕ) (ps : List Piece) (rs : List InitialRun) → Every PieceFits ps → Every IsSmallRun rs → Every IsSmallRun (pieces_for n ps rs)
all_pieces_fit n [] rs f h = h
all_pieces_fit n (p ∷ ps) rs f h = all_pieces_fit n ps (with_initial n p rs) f.1 (piece_fits n p rs f.0 h)

behind_fits : (r : InitialRun) (qs : List InitialRun) → IsSmallRun r → Every IsSmallRun qs → Every IsSmallRun (behind r qs)
behind_fits r [] w h = (w, tt)
behind_fits r (q ∷ qs) w h = go (is_next q r)
  where
    go : (b : Bool) → Every IsSmallRun (if b then one_run q r ∷ qs else r ∷ q ∷ qs)
    go true = h
    go false = (w, h)

all_behind_fit : (rs qs : List InitialRun) → Every IsSmallRun rs → Every IsSmallRun qs → Every IsSmallRun (all_behind rs qs)
all_behind_fit [] qs h k = k
all_behind_fit (r ∷ rs) qs h k = all_behind_fit rs (behind r qs) h.1 (behind_fits r qs h.0 k)

initial_fits : (initial : Bool) (n : ℕ) (ps : List Piece) → Every PieceFits ps → Every IsSmallRun (initial_of initial n ps)
initial_fits false n ps f = tt
initial_fits true n ps f = every_turned IsSmallRun (all_behind (pieces_for n ps []) []) (all_behind_fit (pieces_for n ps []) [] (all_pieces_fit n ps [] f tt) tt)

-- ---- the symbols of a module

abbrev pub BeginsSmall : SymbolTree → Type 0
BeginsSmall s = Every IsSmallRun s.initial

symbols_small : (l : Layout) → Every PieceFits l.pieces → (n : ℕ) (es : List EntryTree) → Every BeginsSmall (symbols_from l n es)
symbols_small l f n [] = tt
symbols_small l f n (e ∷ es) = (initial_fits e.initial n l.pieces f, symbols_small l f (n + 1) es)

-- of a module that is read
pub data_small : (p : ParsedTree) (ss : List SymbolTree) → IsBuilt p → symbols_of p ≡ Ok ss → Every BeginsSmall ss
data_small p ss b t = subst (Every BeginsSmall) (sym (answered_by p ss t).table) (symbols_small (layout_in p) (pieces_fit p b) 0 (names_in p).entries)

-- ---- the store at the start of a program

value_small : (first : ℕ) (rs : List InitialRun) (u : ℕ) (v : ℤ) → Every IsSmallRun rs → value_from first rs u ≡ Some v → in_range v ≡ true
value_small first [] u v h e = cc
value_small first (r ∷ rs) u v h e = go (nat_le (first + r.offset) u && nat_lt u (first + r.offset + r.count)) e (value_small first rs u v h.1)
  where
    go : (b : Bool) → (if b then Some r.value else value_from first rs u) ≡ Some v → (value_from first rs u ≡ Some v → in_range v ≡ true) → in_range v ≡ true
    go true q ih = (let same : r.value ≡ v = cc in subst (λ n. in_range n ≡ true) same h.0)
    go false q ih = ih q

abbrev SmallContent : Option Content → Type 0
SmallContent None = Unit {0}
SmallContent (Some c) = in_range c.number ≡ true

content_small : (t : Scalar) (o : Option ℤ) → ((v : ℤ) → o ≡ Some v → in_range v ≡ true) → SmallContent (content_of t o)
content_small t None h = tt
content_small t (Some v) h = h v refl

or_else_small : (a b : Option Content) → SmallContent a → SmallContent b → SmallContent (or_else a b)
or_else_small None b h k = k
or_else_small (Some c) b h k = h

module _ (n : Numbering) (u : ℕ) where
  in_module : (k : Known) (ss : List SymbolTree) → Every BeginsSmall ss → SmallContent (initial_in n k ss u)
  in_module k [] h = tt
  in_module k (s ∷ ss) h =
      let first = (fixed_place n k.read.name k.symbols s s.place).first in
      or_else_small (initial_by s first u) (initial_in n k ss u) (content_small s.scalar (value_from first s.initial u) (λ v e. value_small first s.initial u v h.0 e)) (in_module k ss h.1)

  in_modules : (ks : List Known) → Every (λ (k : Known). Every BeginsSmall k.symbols) ks → SmallContent (store_of n ks u)
  in_modules [] h = tt
  in_modules (k ∷ ks) h = or_else_small (initial_in n k k.symbols u) (store_of n ks u) (in_module k k.symbols h.0) (in_modules ks h.1)

every_slice : {A : Type 0} (P : A → Type 0) (xs : List A) → ((i : ℕ) (x : A) → slice_get xs i ≡ Some x → P x) → Every P xs
every_slice P [] h = tt
every_slice P (x ∷ xs) h = (h zero x refl, every_slice P xs (λ i y e. h (suc i) y e))

or_empty_small : (u : ℕ) (o : Option Content) → SmallContent o → in_range (or_empty u o).number ≡ true
or_empty_small u None h = refl
or_empty_small u (Some c) h = h

-- of programs whose modules begin so
pub store_small : (ks : List Known) (g : Graph) → ((i : ℕ) (k : Known) → slice_get ks i ≡ Some k → Every BeginsSmall k.symbols) → StoreInRange (initial ks g)
store_small ks g h u = or_empty_small u (store_of (numbering ks g) ks u) (in_modules (numbering ks g) u ks (every_slice (λ (k : Known). Every BeginsSmall k.symbols) ks h))
