-- The equations of a CALL have rows whose terms ascend, and the variables of the caller have names.
use Rattle.std.proofs.Common.{◌≡◌, ℕ, suc, true, ◌&&◌, ◌||◌, List, [], ◌∷◌, Option, Some, None, refl}
use Rattle.std.specs.Prelude.{length}
use Rattle.std.proofs.lemmas.Bool.{and_from}
use Rattle.affine_systems.specs.declared.row.Var.TheVariants.{Phi, Aux}
use Rattle.affine_systems.specs.declared.row.Row.{Row}
use Rattle.affine_systems.proofs.Basics.{if_cases}
use Rattle.f77_ast.specs.Trees.{ExprTree, ExprTrees}
use Rattle.f77_ast.specs.Trees as tree
use Rattle.f77_ast.specs.declared.constant.Constant.{Constant}
use Rattle.f77_ast.specs.Constants.{const_value}
use Rattle.f77_ast.specs.declared.symbol.Place.{Place}
use Rattle.f77_ast.specs.declared.symbol.Place.TheVariants.{Local, Dummy, Block as Lies, Constant as Value}
use Rattle.f77_ast.specs.declared.variable.Variable.{Variable}
use Rattle.f77_ast.specs.declared.variable.Variable.TheVariants.{Own, Block, Saved}
use Rattle.f77_ast.specs.Symbols.{BoundTree, SymbolTree, number_from}
use Rattle.f77_ast.specs.Shared.{symbol_at}
use Rattle.tracked_cells.specs.Standing.{has_bounds}
use Rattle.affine_forms.specs.declared.affine.Affine.{Affine}
use Rattle.affine_forms.specs.Forms.{affine_of}
use Rattle.affine_forms.specs.Comparisons.{var_form}
use Rattle.in_out_regions.specs.effects.Callee.{first_like}
use Rattle.preconditions.specs.call_translation.Scopes.{ScopeTree}
use Rattle.preconditions.specs.call_translation.Actuals.{actual_of}
use Rattle.in_out_regions.specs.call_equations.declared.link.Link.{Link}
use Rattle.in_out_regions.specs.call_equations.Sides.{SidesTree}
use Rattle.in_out_regions.specs.call_equations.Forms.{offset, equation}
use Rattle.in_out_regions.specs.call_equations.Cells.{named_form, actual_bound, dummy_bound}
use Rattle.in_out_regions.specs.call_equations.Rows.{constant_form, low_rows, high_rows, high_form, bound_rows, dimension_rows, subscript_rows, bounds_rows}
use Rattle.in_out_regions.specs.call_equations.Positions.{aligned_row, is_none_left, same_extent, dimension_row, row_before, aligned_rows, whole_position, element_position, dummy_position, block_position}
use Rattle.in_out_regions.specs.call_equations.Links.{same_elements, by_position, actual_bounds, whole_by_position, aligned_or, bounds_unless_lines, variable_link, subscripts_link, is_constant, variable_at, element_at, variable_of, element_of, expr_link, actual_link, by_unit, like_or_block, common_link, place_link, symbol_link, link_of}
use Rattle.base_json.specs.Scopes.{is_short_name, is_block}
use Rattle.laws_stored.proofs.Symbols.{PlaceNamed, SymbolNamed, SymbolsNamed, named_at}
use Rattle.laws_stored.proofs.Tidied.{AreAscending, ascending-append}
use Rattle.laws_stored.proofs.RulesFit.{at_most_ascending, same_ascending}
use Rattle.laws_stored.proofs.RegionRules.{MaybeAscends}

-- what is no symbol has a name
abbrev pub IsCalled : Variable → Type 0
IsCalled (Own n) = Unit {0}
IsCalled (Block b) = is_block b ≡ true
IsCalled (Saved m x) = (is_short_name m && is_short_name x) ≡ true

-- ---- rows

pub low_ascend : (o : Option Affine) (k : ℕ) → AreAscending (low_rows o k)
low_ascend None k = tt
low_ascend (Some f) k = (at_most_ascending f (var_form (Phi k)), tt)

pub high_ascend : (o : Option Affine) (k : ℕ) → AreAscending (high_rows o k)
high_ascend None k = tt
high_ascend (Some f) k = (at_most_ascending (var_form (Phi k)) f, tt)

bound_ascend : (value : List ℕ → Option Constant) (b : BoundTree) (k : ℕ) → AreAscending (bound_rows value b k)
bound_ascend value b k = ascending-append (low_rows (constant_form (const_value value b.low)) k) (high_rows (high_form value b.high) k) (low_ascend (constant_form (const_value value b.low)) k) (high_ascend (high_form value b.high) k)

dimension_ascend : (value : List ℕ → Option Constant) (o : Option Affine) (b : BoundTree) (k : ℕ) → AreAscending (dimension_rows value o b k)
dimension_ascend value (Some f) b k = (same_ascending (var_form (Phi k)) f, tt)
dimension_ascend value None b k = bound_ascend value b k

pub subscripts_ascend : (m : ScopeTree) (k : ℕ) (es : ExprTrees) (bs : List BoundTree) → AreAscending (subscript_rows m k es bs)
subscripts_ascend m k tree.no_exprs bs = tt
subscripts_ascend m k (tree.more_exprs e es) [] = tt
subscripts_ascend m k (tree.more_exprs e es) (b ∷ bs) =
    ascending-append (dimension_rows m.scalars.value (affine_of m.scalars e) b k) (subscript_rows m (suc k) es bs) (dimension_ascend m.scalars.value (affine_of m.scalars e) b k) (subscripts_ascend m (suc k) es bs)

bounds_ascend : (value : List ℕ → Option Constant) (k : ℕ) (bs : List BoundTree) → AreAscending (bounds_rows value k bs)
bounds_ascend value k [] = tt
bounds_ascend value k (b ∷ bs) = ascending-append (bound_rows value b k) (bounds_rows value (suc k) bs) (bound_ascend value b k) (bounds_ascend value (suc k) bs)

pub equation_ascends : (f g : Option Affine) → MaybeAscends (equation f g)
equation_ascends None g = tt
equation_ascends (Some f) None = tt
equation_ascends (Some f) (Some g) = same_ascending f g

abbrev MaybeAscend : Option (List Row) → Type 0
MaybeAscend None = Unit {0}
MaybeAscend (Some rs) = AreAscending rs

before_ascend : (o : Option Row) (p : Option (List Row)) → MaybeAscends o → MaybeAscend p → MaybeAscend (row_before o p)
before_ascend None p h k = tt
before_ascend (Some r) None h k = tt
before_ascend (Some r) (Some rs) h k = (h, k)

module _ (c : SidesTree) where
  one_ascends : (r k : ℕ) (a d : BoundTree) (as' : List BoundTree) → MaybeAscends (dimension_row c r k a d as')
  one_ascends r k a d as' = if_cases MaybeAscends (is_none_left as' || same_extent c a d) (aligned_row c r k a d) None (λ e. equation_ascends (offset (Phi k) (actual_bound c a.low)) (offset (Aux k) (named_form r (dummy_bound c d.low)))) (λ e. tt)

  aligned_ascend : (r k : ℕ) (as' ds : List BoundTree) → MaybeAscend (aligned_rows c r k as' ds)
  aligned_ascend r k [] [] = tt
  aligned_ascend r k [] (d ∷ ds) = tt
  aligned_ascend r k (a ∷ as') [] = tt
  aligned_ascend r k (a ∷ as') (d ∷ ds) = before_ascend (dimension_row c r k a d as') (aligned_rows c r (suc k) as' ds) (one_ascends r k a d as') (aligned_ascend r (suc k) as' ds)

  -- ---- links

  abbrev pub LinkOk : Link → Type 0
  LinkOk l = IsCalled l.variable × AreAscending l.rows

  abbrev pub MaybeLink : Option Link → Type 0
  MaybeLink None = Unit {0}
  MaybeLink (Some l) = LinkOk l

  position_ok : (n r : ℕ) (o : Option Row) (more bounds : List Row) → MaybeAscends o → AreAscending more → AreAscending bounds → LinkOk (by_position n r o more bounds)
  position_ok n r None more bounds h i j = (tt, j)
  position_ok n r (Some row) more bounds h i j = (tt, (h, i))

  aligned_ok : (n r : ℕ) (o : Option (List Row)) (l : Link) → MaybeAscend o → LinkOk l → LinkOk (aligned_or n r o l)
  aligned_ok n r None l h k = k
  aligned_ok n r (Some rs) l h k = (tt, h)

  whole_ok : (n : ℕ) (as' ds : List BoundTree) → LinkOk (whole_by_position c n as' ds)
  whole_ok n as' ds =
      position_ok n (length ds) (equation (whole_position c 1 as') (dummy_position c (length ds) 1 ds)) (actual_bounds c as') (actual_bounds c as') (equation_ascends (whole_position c 1 as') (dummy_position c (length ds) 1 ds))
      (bounds_ascend c.caller.scalars.value 1 as') (bounds_ascend c.caller.scalars.value 1 as')

  variable_ok : (n : ℕ) (as' ds : List BoundTree) → LinkOk (variable_link c n as' ds)
  variable_ok n as' [] = (tt, tt)
  variable_ok n as' (d ∷ ds) =
      aligned_ok n (length (d ∷ ds)) (aligned_rows c (length (d ∷ ds)) 1 as' (d ∷ ds)) (whole_by_position c n as' (d ∷ ds)) (aligned_ascend (length (d ∷ ds)) 1 as' (d ∷ ds)) (whole_ok n as' (d ∷ ds))

  lines_ascend : (rows : List Row) (as' ds : List BoundTree) → AreAscending rows → AreAscending (bounds_unless_lines rows as' ds)
  lines_ascend rows [] ds h = h
  lines_ascend rows (b ∷ []) [] h = h
  lines_ascend rows (b ∷ []) (d ∷ []) h = tt
  lines_ascend rows (b ∷ []) (d ∷ (e ∷ ds)) h = h
  lines_ascend rows (b ∷ (d ∷ cs)) ds h = h

  subscripts_ok : (n : ℕ) (es : ExprTrees) (as' ds : List BoundTree) → LinkOk (subscripts_link c n es as' ds)
  subscripts_ok n es as' [] = (tt, subscripts_ascend c.caller 1 es as')
  subscripts_ok n es as' (d ∷ ds) =
      let r = length (d ∷ ds) in
      position_ok n r (equation (element_position c 1 es as') (dummy_position c r 1 (d ∷ ds))) (bounds_unless_lines (actual_bounds c as') as' (d ∷ ds)) (actual_bounds c as')
      (equation_ascends (element_position c 1 es as') (dummy_position c r 1 (d ∷ ds))) (lines_ascend (actual_bounds c as') as' (d ∷ ds) (bounds_ascend c.caller.scalars.value 1 as')) (bounds_ascend c.caller.scalars.value 1 as')

  variable_at_ok : (ds : List BoundTree) (n : ℕ) (o : Option SymbolTree) → MaybeLink (variable_at c ds n o)
  variable_at_ok ds n None = tt
  variable_at_ok ds n (Some t) = if_cases MaybeLink (is_constant t.place) None (Some (variable_link c n t.bounds ds)) (λ e. tt) (λ e. variable_ok n t.bounds ds)

  element_at_ok : (ds : List BoundTree) (es : ExprTrees) (n : ℕ) (o : Option SymbolTree) → MaybeLink (element_at c ds es n o)
  element_at_ok ds es n None = tt
  element_at_ok ds es n (Some t) = if_cases MaybeLink (has_bounds t.bounds) (Some (subscripts_link c n es t.bounds ds)) None (λ e. subscripts_ok n es t.bounds ds) (λ e. tt)

  variable_of_ok : (ds : List BoundTree) (o : Option ℕ) → MaybeLink (variable_of c ds o)
  variable_of_ok ds None = tt
  variable_of_ok ds (Some n) = variable_at_ok ds n (symbol_at c.caller.symbols n)

  element_of_ok : (ds : List BoundTree) (es : ExprTrees) (o : Option ℕ) → MaybeLink (element_of c ds es o)
  element_of_ok ds es None = tt
  element_of_ok ds es (Some n) = element_at_ok ds es n (symbol_at c.caller.symbols n)

  expr_ok : (ds : List BoundTree) (e : ExprTree) → MaybeLink (expr_link c ds e)
  expr_ok ds (tree.int n) = tt
  expr_ok ds (tree.log b) = tt
  expr_ok ds (tree.name x) = variable_of_ok ds (number_from 1 c.caller.names x)
  expr_ok ds (tree.element x es) = element_of_ok ds es (number_from 1 c.caller.names x)
  expr_ok ds (tree.paren e) = tt
  expr_ok ds (tree.unary o e) = tt
  expr_ok ds (tree.binary o e f) = tt
  expr_ok ds (tree.chars x) = tt

  actual_ok : (ds : List BoundTree) (o : Option ExprTree) → MaybeLink (actual_link c ds o)
  actual_ok ds None = tt
  actual_ok ds (Some e) = expr_ok ds e

  -- ---- variables of blocks

  unit_ok : (b : List ℕ) (r : ℕ) (o : Option Row) → is_block b ≡ true → MaybeAscends o → LinkOk (by_unit b r o)
  unit_ok b r None n h = (n, tt)
  unit_ok b r (Some row) n h = (n, (h, tt))

  common_ok : (b : List ℕ) (o : ℕ) (s : SymbolTree) → is_block b ≡ true → LinkOk (common_link c b o s)
  common_ok b o s n = go (first_like 1 c.caller.symbols b o c.callee.symbols s c.caller.symbols)
    where
      go : (q : Option ℕ) → LinkOk (like_or_block c b o s.bounds q)
      go None = unit_ok b (length s.bounds) (equation (block_position o) (dummy_position c (length s.bounds) 1 s.bounds)) n (equation_ascends (block_position o) (dummy_position c (length s.bounds) 1 s.bounds))
      go (Some k) = (tt, tt)

  -- ---- all variables

  module _ (title : is_short_name c.name ≡ true) (named : SymbolsNamed c.callee.symbols) where
    place_ok : (s : SymbolTree) (p : Place) → is_short_name s.name ≡ true → PlaceNamed p → MaybeLink (place_link c s p)
    place_ok s (Local g o) n h = if_cases MaybeLink s.saved (Some (same_elements (Saved c.name s.name))) None (λ e. (and_from (is_short_name c.name) (is_short_name s.name) title n, tt)) (λ e. tt)
    place_ok s (Dummy d) n h = actual_ok s.bounds (actual_of c.actuals d)
    place_ok s (Lies b o) n h = common_ok b o s h
    place_ok s (Value v) n h = tt

    symbol_ok : (o : Option SymbolTree) → ((s : SymbolTree) → o ≡ Some s → SymbolNamed s) → MaybeLink (symbol_link c o)
    symbol_ok None f = tt
    symbol_ok (Some s) f = let h = f s refl in place_ok s s.place h.0 h.1

    pub link_ok : (v : Variable) → IsCalled v → MaybeLink (link_of c v)
    link_ok (Own n) h = symbol_ok (symbol_at c.callee.symbols n) (λ s e. named_at c.callee.symbols n s named e)
    link_ok (Block b) h = (h, tt)
    link_ok (Saved s x) h = (h, tt)

  pub dummy_ok : (n : ℕ) (s : SymbolTree) (d : ℕ) → MaybeLink (place_link c s (Dummy d))
  dummy_ok n s d = actual_ok s.bounds (actual_of c.actuals d)
