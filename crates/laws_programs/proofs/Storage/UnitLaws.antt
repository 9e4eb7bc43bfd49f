-- The units of a variable are as many as its dimensions say.
use Rattle.std.proofs.Common.{◌≡◌, ℕ, zero, suc, ◌+◌, ◌*◌, Bool, true, false, not, ℤ, pos, List, [], ◌∷◌, length, Option, Some, None, ◌⊎◌, inl, inr, refl, sym, ap, ◌∙◌, subst, arith}
use Rattle.std.specs.Prelude.{if◌then◌else◌, bytes_eq, nat_lt, ◌||◌, is_some, slice_get}
use Rattle.std.proofs.lemmas.Bool.{or_parts, ltb-false, cases_lt}
use Rattle.std.proofs.Math.Path.{fun_ext}
use Rattle.f77_ast.specs.Trees.{ExprTree}
use Rattle.f77_ast.specs.DeclTrees.{ParsedTree}
use Rattle.f77_ast.specs.declared.decl.Scalar.{Scalar}
use Rattle.f77_ast.specs.declared.decl.Scalar.TheVariants as scalar
use Rattle.f77_ast.specs.Numbers.{in_range, is_true}
use Rattle.f77_ast.specs.Store.{truth}
use Rattle.f77_ast.specs.Places.{Dim, dim_size, total_size}
use Rattle.f77_ast.specs.declared.constant.Constant.{Constant}
use Rattle.f77_ast.specs.declared.constant.Constant.TheVariants as constant
use Rattle.f77_ast.specs.declared.constant.ConstantValue.{ConstantValue}
use Rattle.f77_ast.specs.declared.constant.ConstantValue.TheVariants.{Is, Faults, Varies}
use Rattle.f77_ast.specs.Constants.{number_of, const_value}
use Rattle.f77_ast.specs.declared.symbol.Place.{Place}
use Rattle.f77_ast.specs.declared.symbol.Place.TheVariants as place
use Rattle.f77_ast.specs.Symbols.{BoundTree, SymbolTree, constant_of, constant_in, constant_at, value_in}
use Rattle.f77_ast.specs.Units.{to_high, span_units, span_to, bound_units, bounds_units, units_in}
use Rattle.f77_names.specs.declared.kinds.Kind.{Kind}
use Rattle.f77_names.specs.declared.kinds.Kind.TheVariants as kind
use Rattle.f77_names.specs.Entries.{ShapeTree, EntryTree, find, of_entry, value_among}
use Rattle.f77_names.specs.Tables.{NameTable, entry_kind}
use Rattle.f77_checks.specs.Dimensions.{const_value_in, dim_to, dim_from, dim_up_to, dim_of, with_dim, dims_of, has_bad_bound, is_too_big, is_bad_shape, entry_dims, dims_in}
use Rattle.storage_data.specs.declared.offset_node.Home.{Home}
use Rattle.storage_data.specs.declared.offset_node.Home.TheVariants.{Block, Own}
use Rattle.storage_data.specs.declared.offset_node.OffsetNode.{OffsetNode}
use Rattle.storage_layout.specs.Table.{Layout, home_place, place_in, unless_dummy, unless_value, entry_place, scalar_of, bounds_in, symbol_of, symbols_from}
use Rattle.laws_programs.specs.SymbolTables.Shapes.{symbol_named}
use Rattle.laws_programs.proofs.SymbolTables.Answers.{Answered, names_in, layout_in}
use Rattle.laws_programs.specs.Storage.DataLaws.{ConstantsFit}
use Rattle.laws_programs.proofs.Storage.ParameterLaws.{OfKind, Right, no_value, a_value, names_right}

-- ---- constants

home_none : (t : Scalar) (l : Layout) (o : ℤ) (h : Home) → constant_in t (home_place l o h) ≡ None
home_none t l o (Block b) = refl
home_none t l o (Own n) = refl

offset_node_none : (t : Scalar) (l : Layout) (s : Option OffsetNode) → constant_in t (place_in l s) ≡ None
offset_node_none t l None = refl
offset_node_none t l (Some s) = home_none t l s.offset s.home

dummy_none : (t : Scalar) (l : Layout) (d : Option ℕ) (s : Option OffsetNode) → constant_in t (unless_dummy d (place_in l s)) ≡ None
dummy_none t l None s = offset_node_none t l s
dummy_none t l (Some n) s = refl

constant_back : (k : Kind) (c : Constant) → OfKind k c → (scalar_of k ≡ scalar.Int → in_range (number_of c) ≡ true) → constant_of (scalar_of k) (number_of c) ≡ Some c
constant_back kind.Int (constant.Int n) o r = ap (λ b. if b then Some (constant.Int n) else None) (r refl)
constant_back kind.Int (constant.Log b) o r = absurd o
constant_back kind.Log (constant.Int n) o r = absurd o
constant_back kind.Log (constant.Log true) o r = refl
constant_back kind.Log (constant.Log false) o r = refl
constant_back kind.Real c o r = absurd o

entry_value : (l : Layout) (n : ℕ) (e : EntryTree) → Right l.table.kinds e → ((k : ℤ) → (symbol_of l n e).place ≡ place.Constant k → (symbol_of l n e).scalar ≡ scalar.Int → in_range k ≡ true) → constant_at (symbol_of l n e) ≡ e.value
entry_value l n e (no_value q) r = ap (λ v. constant_in (scalar_of (entry_kind l.table.kinds e)) (unless_value v (unless_dummy e.dummy (place_in l (slice_get l.offset_nodes n))))) q ∙ dummy_none (scalar_of (entry_kind l.table.kinds e)) l e.dummy (slice_get l.offset_nodes n) ∙ sym q
entry_value l n e (a_value c q p o) r =
    let at : (symbol_of l n e).place ≡ place.Constant (number_of c) = ap (λ v. unless_value v (unless_dummy e.dummy (place_in l (slice_get l.offset_nodes n)))) q in
    ap (constant_in (scalar_of (entry_kind l.table.kinds e))) at ∙ constant_back (entry_kind l.table.kinds e) c o (λ i. r (number_of c) at i) ∙ sym q

value_from : (l : Layout) (n : ℕ) (es : List EntryTree) (x : List ℕ) → ((e : EntryTree) → find x es ≡ Some e → Right l.table.kinds e) → ((s : SymbolTree) (k : ℤ) → symbol_named (symbols_from l n es) x ≡ Some s → s.place ≡ place.Constant k → s.scalar ≡ scalar.Int → in_range k ≡ true) → value_in (symbols_from l n es) x ≡ value_among es x
unfolding find
value_from l n [] x right range = refl
value_from l n (e ∷ es) x right range = go (bytes_eq x e.name) refl (λ a b. value_from l (n + 1) es x a b)
  where
    go : (b : Bool) → bytes_eq x e.name ≡ b → (((d : EntryTree) → find x es ≡ Some d → Right l.table.kinds d) → ((s : SymbolTree) (k : ℤ) → symbol_named (symbols_from l (n + 1) es) x ≡ Some s → s.place ≡ place.Constant k → s.scalar ≡ scalar.Int → in_range k ≡ true) → value_in (symbols_from l (n + 1) es) x ≡ value_among es x) →
        (if b then constant_at (symbol_of l n e) else value_in (symbols_from l (n + 1) es) x) ≡ of_entry None (λ d. d.value) (if b then Some e else find x es)
    go true q ih = entry_value l n e (right e (ap (λ b. if b then Some e else find x es) q)) (λ k at int. range (symbol_of l n e) k (ap (λ b. if b then Some (symbol_of l n e) else symbol_named (symbols_from l (n + 1) es) x) q) at int)
    go false q ih = ih (λ d h. right d (ap (λ b. if b then Some e else find x es) q ∙ h)) (λ s k h at int. range s k (ap (λ b. if b then Some (symbol_of l n e) else symbol_named (symbols_from l (n + 1) es) x) q ∙ h) at int)

pub values_same : (p : ParsedTree) (ss : List SymbolTree) → Answered p ss → ConstantsFit ss → value_in ss ≡ value_among (names_in p).entries
values_same p ss a fit = fun_ext (λ x. ap (λ z. value_in z x) a.table ∙ value_from (layout_in p) 0 (names_in p).entries x (λ e h. (names_right p).right x e h) (λ s k h at int. fit x s k (ap (λ z. symbol_named z x) a.table ∙ h) at int))

-- ---- bounds

span_from : (w v : ConstantValue) (d : Dim) → dim_from w v ≡ Some d → span_units w v ≡ dim_size d
span_from (Is (constant.Int low)) (Is (constant.Int high)) d e = let same : record { low = low; high = Some high } ≡ d = cc in ap dim_size same
span_from (Is (constant.Int low)) (Is (constant.Log b)) d e = cc
span_from (Is (constant.Int low)) Faults d e = cc
span_from (Is (constant.Int low)) Varies d e = cc
span_from (Is (constant.Log b)) v d e = cc
span_from Faults v d e = cc
span_from Varies v d e = cc

span_is : (t : NameTable) (w : ConstantValue) (o : Option ExprTree) (d : Dim) → dim_up_to t w o ≡ Some d → span_to (value_among t.entries) w o ≡ dim_size d
span_is t w None d e = cc
span_is t w (Some high) d e = span_from w (const_value_in t high) d e

-- the first dimension and the others
pub record Parts (t : NameTable) (b : BoundTree) (bs : List BoundTree) (ds : List Dim) : Type 0 where
  pub first : Dim
  pub rest : List Dim
  pub is_first : dim_of t b ≡ Some first
  pub is_rest : dims_of t bs ≡ Some rest
  pub are : first ∷ rest ≡ ds

pub parts_of : (t : NameTable) (b : BoundTree) (bs : List BoundTree) (ds : List Dim) → dims_of t (b ∷ bs) ≡ Some ds → Parts t b bs ds
parts_of t b bs ds e = go (dim_of t b) (dims_of t bs) refl refl e
  where
    go : (o : Option Dim) (q : Option (List Dim)) → dim_of t b ≡ o → dims_of t bs ≡ q → with_dim o q ≡ Some ds → Parts t b bs ds
    go None q f h i = cc
    go (Some d) None f h i = cc
    go (Some d) (Some es) f h i = let same : d ∷ es ≡ ds = cc in record { first = d; rest = es; is_first = f; is_rest = h; are = same }

-- ---- units

bounds_total : (t : NameTable) (bs : List BoundTree) (ds : List Dim) → dims_of t bs ≡ Some ds → bounds_units (value_among t.entries) bs ≡ total_size ds
bounds_total t [] ds e = let same : [] ≡ ds = cc in ap total_size same
bounds_total t (b ∷ bs) ds e =
    let r = parts_of t b bs ds e in
    let size = span_is t (const_value_in t b.low) b.high r.first r.is_first in
    let product : bounds_units (value_among t.entries) (b ∷ bs) ≡ total_size (r.first ∷ r.rest) = λ i. size i * bounds_total t bs r.rest r.is_rest i in
    product ∙ ap total_size r.are

shape_total : (t : NameTable) (dummy : Bool) (s : Option ShapeTree) (ds : List Dim) → entry_dims t dummy s ≡ Some ds → bounds_units (value_among t.entries) (bounds_in s) ≡ total_size ds
shape_total t dummy None ds e = let same : [] ≡ ds = cc in ap total_size same
shape_total t dummy (Some s) ds e = go (is_bad_shape t dummy s.bounds) e
  where
    go : (b : Bool) → (if b then None else dims_of t s.bounds) ≡ Some ds → bounds_units (value_among t.entries) s.bounds ≡ total_size ds
    go true h = cc
    go false h = bounds_total t s.bounds ds h

pub units_are : (p : ParsedTree) (ss : List SymbolTree) → Answered p ss → ConstantsFit ss → (n : ℕ) (e : EntryTree) (ds : List Dim) → dims_in (names_in p) e ≡ Some ds → units_in ss (symbol_of (layout_in p) n e) ≡ total_size ds
units_are p ss a fit n e ds k = ap (λ v. bounds_units v (bounds_in e.shape)) (values_same p ss a fit) ∙ shape_total (names_in p) (is_some e.dummy) e.shape ds k
