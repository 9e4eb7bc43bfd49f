-- Elements: their numbers by names and by the table.
use Rattle.std.proofs.Common.{◌≡◌, ℕ, Bool, true, false, ℤ, List, [], ◌∷◌, map, Option, Some, None, refl, ap, ◌∙◌}
use Rattle.std.specs.Prelude.{if◌then◌else◌, is_some}
use Rattle.f77_ast.specs.Trees.{ExprTree, ExprTrees}
use Rattle.f77_ast.specs.Trees as tree
use Rattle.f77_ast.specs.Places.{Dim, position}
use Rattle.f77_ast.specs.declared.constant.Constant.TheVariants as constant
use Rattle.f77_ast.specs.declared.constant.ConstantValue.{ConstantValue}
use Rattle.f77_ast.specs.declared.constant.ConstantValue.TheVariants.{Is, Faults, Varies}
use Rattle.f77_ast.specs.Constants.{const_value}
use Rattle.f77_ast.specs.Symbols.{BoundTree, SymbolTree, value_in}
use Rattle.f77_names.specs.Entries.{ShapeTree, EntryTree, value_among}
use Rattle.f77_names.specs.Tables.{NameTable}
use Rattle.f77_checks.specs.Dimensions.{const_value_in, dim_to, dim_from, dim_up_to, dims_of, is_bad_shape, entry_dims, dims_in}
use Rattle.f77_checks.specs.Dimensions as checks
use Rattle.f77_meaning.specs.Modules.{as_number, constant_high, dim_of}
use Rattle.storage_data.specs.Items.{with_number, numbers_of, position_at}
use Rattle.storage_layout.specs.Table.{bounds_in}
use Rattle.laws_programs.specs.Layout.Layout.{subscripts}
use Rattle.laws_programs.proofs.Storage.UnitLaws.{parts_of}

module _ (t : NameTable) (ss : List SymbolTree) (same : value_in ss ≡ value_among t.entries) where
  const_value_same : (e : ExprTree) → const_value (value_in ss) e ≡ const_value_in t e
  const_value_same e = ap (λ v. const_value v e) same

  from_same : (w v : ConstantValue) (d : Dim) → dim_from w v ≡ Some d → record { low = as_number w; high = Some (as_number v) } ≡ d
  from_same (Is (constant.Int low)) (Is (constant.Int high)) d h = cc
  from_same (Is (constant.Int low)) (Is (constant.Log b)) d h = cc
  from_same (Is (constant.Int low)) Faults d h = cc
  from_same (Is (constant.Int low)) Varies d h = cc
  from_same (Is (constant.Log b)) v d h = cc
  from_same Faults v d h = cc
  from_same Varies v d h = cc

  high_same : (w : ConstantValue) (o : Option ExprTree) (d : Dim) → dim_up_to t w o ≡ Some d → record { low = as_number w; high = constant_high ss o } ≡ d
  high_same w None d h = cc
  high_same w (Some e) d h = ap (λ v. record { low = as_number w; high = Some (as_number v) }) (const_value_same e) ∙ from_same w (const_value_in t e) d h

  dim_same : (b : BoundTree) (d : Dim) → checks.dim_of t b ≡ Some d → dim_of ss b ≡ d
  dim_same b d h = ap (λ w. record { low = as_number w; high = constant_high ss b.high }) (const_value_same b.low) ∙ high_same (const_value_in t b.low) b.high d h

  dims_same : (bs : List BoundTree) (ds : List Dim) → dims_of t bs ≡ Some ds → map (dim_of ss) bs ≡ ds
  dims_same [] ds h = cc
  dims_same (b ∷ bs) ds h =
      let r = parts_of t b bs ds h in
      ap (λ d. d ∷ map (dim_of ss) bs) (dim_same b r.first r.is_first) ∙ ap (λ es. r.first ∷ es) (dims_same bs r.rest r.is_rest) ∙ r.are

  entry_same : (dummy : Bool) (s : Option ShapeTree) (ds : List Dim) → entry_dims t dummy s ≡ Some ds → map (dim_of ss) (bounds_in s) ≡ ds
  entry_same dummy None ds h = cc
  entry_same dummy (Some s) ds h = go (is_bad_shape t dummy s.bounds) h
    where
      go : (b : Bool) → (if b then None else dims_of t s.bounds) ≡ Some ds → map (dim_of ss) s.bounds ≡ ds
      go true k = cc
      go false k = dims_same s.bounds ds k

  numbers_same : (es : ExprTrees) (ns : List ℤ) → numbers_of t es ≡ Some ns → subscripts ss es ≡ ns
  numbers_same tree.no_exprs ns h = cc
  numbers_same (tree.more_exprs e es) ns h = go (const_value_in t e) (numbers_of t es) refl refl h (λ ms q. numbers_same es ms q)
    where
      go : (w : ConstantValue) (o : Option (List ℤ)) → const_value_in t e ≡ w → numbers_of t es ≡ o → with_number w o ≡ Some ns → ((ms : List ℤ) → o ≡ Some ms → subscripts ss es ≡ ms) → subscripts ss (tree.more_exprs e es) ≡ ns
      go w None p q k ih = cc
      go (Is (constant.Int n)) (Some ms) p q k ih =
          let is : n ∷ ms ≡ ns = cc in
          ap (λ v. as_number v ∷ subscripts ss es) (const_value_same e ∙ p) ∙ ap (λ z. n ∷ z) (ih ms refl) ∙ is
      go (Is (constant.Log b)) (Some ms) p q k ih = cc
      go Faults (Some ms) p q k ih = cc
      go Varies (Some ms) p q k ih = cc

  pub position_same : (e : EntryTree) (es : ExprTrees) (k : ℕ) → position_at (dims_in t e) (numbers_of t es) ≡ Some k → position (map (dim_of ss) (bounds_in e.shape)) (subscripts ss es) ≡ Some k
  position_same e es k h = go (dims_in t e) (numbers_of t es) refl refl h
    where
      go : (o : Option (List Dim)) (q : Option (List ℤ)) → dims_in t e ≡ o → numbers_of t es ≡ q → position_at o q ≡ Some k → position (map (dim_of ss) (bounds_in e.shape)) (subscripts ss es) ≡ Some k
      go None q a b c = cc
      go (Some ds) None a b c = cc
      go (Some ds) (Some ns) a b c = ap (λ z. position z (subscripts ss es)) (entry_same (is_some e.dummy) e.shape ds a) ∙ ap (position ds) (numbers_same es ns b) ∙ c
