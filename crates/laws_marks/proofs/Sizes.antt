-- A variable that is no dummy has a unit: its bounds are constant, and none is below the other (ANSI X3.9-1978 §5.1.1.2).
use Rattle.std.proofs.Common.{◌≡◌, ℕ, ◌-◌, ◌<◌, ◌||◌, Bool, true, false, List, [], ◌∷◌, Option, Some, None, refl, sym, ap, ◌∙◌, subst, arith, ℤ, pos, negsuc, ◌+ℤ◌, ◌-ℤ◌, ◌≤ℤ◌}
use Rattle.std.specs.Prelude.{if◌then◌else◌, is_some, slice_get, length, nat_lt, int_lt, Ok}
use Rattle.std.proofs.lemmas.Bool.{or_parts}
use Rattle.std.proofs.lemmas.Int.{ints}
use Rattle.std.proofs.Math.Nat.{mul-pos}
use Rattle.f77_ast.specs.Trees.{ExprTree}
use Rattle.f77_ast.specs.DeclTrees.{ParsedTree}
use Rattle.f77_ast.specs.Places.{Dim, as_count, dim_size, total_size}
use Rattle.f77_ast.specs.declared.constant.Constant.{Constant}
use Rattle.f77_ast.specs.declared.constant.Constant.TheVariants as constant
use Rattle.f77_ast.specs.declared.constant.ConstantValue.{ConstantValue}
use Rattle.f77_ast.specs.declared.constant.ConstantValue.TheVariants.{Is, Faults, Varies}
use Rattle.f77_ast.specs.declared.symbol.Place.{Place}
use Rattle.f77_ast.specs.declared.symbol.Place.TheVariants as place
use Rattle.f77_ast.specs.Symbols.{BoundTree, SymbolTree}
use Rattle.f77_ast.specs.Units.{units_in}
use Rattle.f77_ast.specs.Shared.{symbol_at}
use Rattle.f77_names.specs.Entries.{ShapeTree, EntryTree}
use Rattle.f77_names.specs.Tables.{NameTable}
use Rattle.f77_checks.specs.Dimensions.{const_value_in, is_bad_limit, is_below, is_bad_high, is_bad_bound, is_last, has_bad_bound, dim_from, dim_up_to, dims_of, is_too_big, is_bad_shape, entry_dims}
use Rattle.storage_layout.specs.Symbols.{symbols_of}
use Rattle.storage_layout.specs.Table.{unless_dummy, unless_value, place_in, symbol_of}
use Rattle.laws_programs.proofs.SymbolTables.Answers.{Answered, names_in, layout_in, answered_by, found_none}
use Rattle.laws_programs.proofs.SymbolTables.EntryLaws.{entry_of}
use Rattle.laws_programs.specs.Storage.DataLaws.{ConstantsFit}
use Rattle.laws_programs.proofs.Storage.UnitLaws.{parts_of, units_are}
use Rattle.laws_programs.proofs.Layouts.SizeLaws.{entry_known}
use Rattle.laws_programs.proofs.Layouts.CommonLaws.{shapes_at}
use Rattle.fx_lists.proofs.Numbers.{less_false}
use Rattle.f77_ast.proofs.StorageLaws.{from_number as numbered_place}

count_positive : (z : ℤ) → pos 1 ≤ℤ z → 0 < as_count z
count_positive (pos n) h = omega (arith, ints, h)
count_positive (negsuc n) h = absurd (omega (arith, ints, h))

span_positive : (low high : ℤ) → low ≤ℤ high → 0 < as_count ((high -ℤ low) +ℤ pos 1)
span_positive low high h = count_positive ((high -ℤ low) +ℤ pos 1) (omega (arith, ints, h))

from_positive : (w v : ConstantValue) (d : Dim) → is_below v w ≡ false → dim_from w v ≡ Some d → 0 < dim_size d
from_positive (Is (constant.Int low)) (Is (constant.Int high)) d h e =
    let same : record { low = low; high = Some high } ≡ d = cc in
    subst (λ (z : Dim). 0 < dim_size z) same (span_positive low high (less_false high low h))
from_positive (Is (constant.Int low)) (Is (constant.Log b)) d h e = cc
from_positive (Is (constant.Int low)) Faults d h e = cc
from_positive (Is (constant.Int low)) Varies d h e = cc
from_positive (Is (constant.Log b)) v d h e = cc
from_positive Faults v d h e = cc
from_positive Varies v d h e = cc

high_positive : (t : NameTable) (dummy last : Bool) (low : ExprTree) (o : Option ExprTree) (d : Dim) → is_bad_high t dummy last low o ≡ false → dim_up_to t (const_value_in t low) o ≡ Some d → 0 < dim_size d
high_positive t dummy last low None d h e = cc
high_positive t dummy last low (Some high) d h e = from_positive (const_value_in t low) (const_value_in t high) d (or_parts (is_bad_limit t dummy high) (is_below (const_value_in t high) (const_value_in t low)) h).1 e

dims_positive : (t : NameTable) (dummy : Bool) (bs : List BoundTree) (ds : List Dim) → has_bad_bound t dummy bs ≡ false → dims_of t bs ≡ Some ds → 0 < total_size ds
dims_positive t dummy [] ds h e = (let same : [] ≡ ds = cc in subst (λ (z : List Dim). 0 < total_size z) same (omega arith))
dims_positive t dummy (b ∷ bs) ds h e =
    let r = parts_of t b bs ds e in
    let parts = or_parts (is_bad_bound t dummy (is_last bs) b) (has_bad_bound t dummy bs) h in
    let one = high_positive t dummy (is_last bs) b.low b.high r.first (or_parts (is_bad_limit t dummy b.low) (is_bad_high t dummy (is_last bs) b.low b.high) parts.0).1 r.is_first in
    let rest = dims_positive t dummy bs r.rest parts.1 r.is_rest in
    subst (λ (z : List Dim). 0 < total_size z) r.are (mul-pos one rest)

shape_positive : (t : NameTable) (dummy : Bool) (o : Option ShapeTree) (ds : List Dim) → entry_dims t dummy o ≡ Some ds → 0 < total_size ds
shape_positive t dummy None ds e = (let same : [] ≡ ds = cc in subst (λ (z : List Dim). 0 < total_size z) same (omega arith))
shape_positive t dummy (Some s) ds e = go (is_bad_shape t dummy s.bounds) refl e
  where
    go : (b : Bool) → is_bad_shape t dummy s.bounds ≡ b → (if b then None else dims_of t s.bounds) ≡ Some ds → 0 < total_size ds
    go true q h = cc
    go false q h =
        let few = or_parts (nat_lt 7 (length s.bounds)) (has_bad_bound t dummy s.bounds || is_too_big (dims_of t s.bounds)) q in
        dims_positive t dummy s.bounds ds (or_parts (has_bad_bound t dummy s.bounds) (is_too_big (dims_of t s.bounds)) few.1).0 h

module _ (p : ParsedTree) (ss : List SymbolTree) (laid : symbols_of p ≡ Ok ss) (fit : ConstantsFit ss) where
  answered : Answered p ss
  answered = answered_by p ss laid

  entry_positive : (n : ℕ) (e : EntryTree) → slice_get (names_in p).entries n ≡ Some e → e.dummy ≡ None → 0 < units_in ss (symbol_of (layout_in p) n e)
  entry_positive n e is none =
      let dims = entry_known (names_in p) e none (shapes_at p (found_none p ss answered) n e is) in
      let size = units_are p ss answered fit n e dims.0 dims.1 in
      let some = shape_positive (names_in p) (is_some e.dummy) e.shape dims.0 dims.1 in
      subst (λ z. 0 < z) (sym size) some

  no_number : (v : Option Constant) (d : Option ℕ) (q : Place) → ((c : _) → unless_value v (unless_dummy d q) ≡ place.Constant c → ⊥) → ((k : ℕ) → unless_value v (unless_dummy d q) ≡ place.Dummy k → ⊥) → d ≡ None
  no_number (Some c) d q f g = absurd (f _ refl)
  no_number None (Some k) q f g = absurd (g k refl)
  no_number None None q f g = refl

  -- a variable that is no dummy
  pub units_positive : (v : ℕ) (s : SymbolTree) → symbol_at ss v ≡ Some s → ((c : _) → s.place ≡ place.Constant c → ⊥) → ((k : ℕ) → s.place ≡ place.Dummy k → ⊥) → 0 < units_in ss s
  units_positive v s e f g =
      let r = entry_of (layout_in p) 0 (names_in p).entries (v - 1) s (subst (λ z. slice_get z (v - 1) ≡ Some s) answered.table (numbered_place ss v s e)) in
      let here = r.is_place in
      let at : v - 1 ≡ r.place = omega (arith, here) in
      let same = ap (λ (z : SymbolTree). z.place) (sym r.symbol) in
      subst (λ (z : SymbolTree). 0 < units_in ss z) (sym r.symbol)
      (entry_positive r.place r.entry (ap (slice_get (names_in p).entries) (sym at) ∙ r.is_entry)
      (no_number r.entry.value r.entry.dummy (place_in (layout_in p) (slice_get (layout_in p).offset_nodes r.place)) (λ c q. f c (sym same ∙ q)) (λ k q. g k (sym same ∙ q))))
