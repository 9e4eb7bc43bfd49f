-- What a CALL says of subscripts: the equations of each variable of what is called name no others than the caller's variable has.
use Rattle.std.proofs.Common.{◌≡◌, ℕ, zero, suc, ◌+◌, ◌<◌, ◌≤◌, Bool, true, false, ◌&&◌, ◌||◌, List, [], ◌∷◌, ◌++◌, length, Option, Some, None, arith, refl, sym, ap, ◌∙◌, subst, ℤ, pos, negsuc, true≢false}
use Rattle.std.specs.Prelude.{if◌then◌else◌, slice_get, ◌-ℤ◌, ◌+ℤ◌, ◌*ℤ◌}
use Rattle.affine_systems.specs.declared.row.Var.{Var}
use Rattle.affine_systems.specs.declared.row.Var.TheVariants.{Cell, Exit, Phi, Aux}
use Rattle.affine_systems.specs.declared.row.Term.{Term}
use Rattle.affine_systems.specs.declared.row.Row.{Row}
use Rattle.affine_systems.specs.Normal.{is_small, are_small}
use Rattle.affine_systems.specs.Rows.{combined_terms}
use Rattle.affine_systems.proofs.Basics.{if_cases}
use Rattle.f77_ast.specs.Trees.{ExprTree, ExprTrees}
use Rattle.f77_ast.specs.Trees as tree
use Rattle.f77_ast.specs.declared.constant.Constant.{Constant}
use Rattle.f77_ast.specs.Constants.{const_value}
use Rattle.f77_ast.specs.declared.symbol.Place.{Place}
use Rattle.f77_ast.specs.declared.symbol.Place.TheVariants as place
use Rattle.f77_ast.specs.declared.variable.Variable.{Variable as Named}
use Rattle.f77_ast.specs.declared.variable.Variable.TheVariants.{Own, Block, Saved}
use Rattle.f77_ast.specs.Symbols.{BoundTree, SymbolTree, number_from, value_in}
use Rattle.f77_ast.specs.Shared.{symbol_at}
use Rattle.tracked_cells.specs.Standing.{has_bounds}
use Rattle.in_out_regions.specs.effects.Callee.{same_bound, same_bounds, same_scalar, is_at, is_like, first_like}
use Rattle.affine_forms.specs.declared.affine.Affine.{Affine}
use Rattle.affine_forms.specs.Forms.{affine, affine_of, limited, sum_of}
use Rattle.affine_forms.specs.Comparisons.{var_form}
use Rattle.preconditions.specs.call_translation.Actuals.{actual_of}
use Rattle.in_out_regions.specs.call_equations.declared.link.Link.{Link}
use Rattle.in_out_regions.specs.call_equations.Sides.{SidesTree}
use Rattle.in_out_regions.specs.call_equations.Rows.{low_rows, high_rows, high_form, constant_form, bound_rows, bounds_rows}
use Rattle.in_out_regions.specs.call_equations.Forms.{offset, equation, lack, unless_among}
use Rattle.in_out_regions.specs.call_equations.Cells.{named, named_terms, named_form, actual_bound, dummy_bound}
use Rattle.in_out_regions.specs.call_equations.Positions.{aligned_row, is_none_left, same_extent, dimension_row, row_before, aligned_rows, size_of, sum_with, before_dimensions, whole_position, element_position, dummy_position, block_position}
use Rattle.in_out_regions.specs.call_equations.Links.{same_elements, scalar_link, element_link, by_position, actual_bounds, aligned_or, whole_by_position, array_link, bounds_unless_lines, rest_link, variable_link, subscripts_link, is_constant, variable_at, element_at, variable_of, element_of, expr_link, actual_link, by_unit, block_link, like_or_block, common_link, place_link, symbol_link, link_of}
use Rattle.laws_lines.specs.Variables.{EachVar, IsCellOf}
use Rattle.laws_lines.proofs.RowVars.{each-combined, Given}
use Rattle.laws_lines.proofs.SystemVars.{AreGiven, all-append}
use Rattle.laws_lines.proofs.FormVars.{FormOf, affine_over, compared_given}
use Rattle.laws_marks.specs.InFrames.{bounds_count, rank}
use Rattle.laws_marks.proofs.InNarrow.{Upto}
use Rattle.laws_marks.proofs.InNarrowed.{MayName, FormAt, form_at, constant_at, high_at, low_given, high_given, subscripts_given}
use Rattle.f77_ast.proofs.StorageLaws.{to_number as next_symbol}
use Rattle.fx_lists.proofs.Every.{Anything}

-- ---- forms

module _ (n : ℕ) where
  limited_at : (f : Affine) → EachVar (Upto n) f.terms → FormAt n (limited f)
  limited_at f h = if_cases (FormAt n) (is_small f.constant && are_small f.terms) (Some f) None (λ e. h) (λ e. tt)

  sum_at : (f : Option Affine) (k : ℤ) (g : Option Affine) → FormAt n f → FormAt n g → FormAt n (sum_of f k g)
  sum_at (Some f) k (Some g) h i = limited_at (affine (combined_terms (pos 1) f.terms k g.terms) (f.constant +ℤ (k *ℤ g.constant))) (each-combined (Upto n) (pos 1) f.terms k g.terms h i)
  sum_at (Some f) k None h i = tt
  sum_at None k g h i = tt

  offset_at : (v : Var) (low : Option Affine) → Upto n v → FormAt n low → FormAt n (offset v low)
  offset_at v low p h = sum_at (Some (var_form v)) (negsuc 0) low (p, tt) h

  abbrev RowIf : Option Row → Type 0
  RowIf None = Unit {0}
  RowIf (Some r) = Given (Upto n) r

  abbrev RowsIf : Option (List Row) → Type 0
  RowsIf None = Unit {0}
  RowsIf (Some rs) = AreGiven (Upto n) rs

  equation_given : (f g : Option Affine) → FormAt n f → FormAt n g → RowIf (equation f g)
  equation_given None g h i = tt
  equation_given (Some f) None h i = tt
  equation_given (Some f) (Some g) h i = compared_given (Upto n) true f g (g.constant -ℤ f.constant) h i

  named_upto : (r : ℕ) (v : Var) → IsCellOf Anything v → Upto n (named r v)
  named_upto r (Cell i) h = tt
  named_upto r (Exit i) h = absurd h
  named_upto r (Phi i) h = absurd h
  named_upto r (Aux i) h = absurd h

  terms_at : (r : ℕ) (f : Option Affine) (ts : List Term) → FormAt n f → EachVar (IsCellOf Anything) ts → FormAt n (named_terms r f ts)
  terms_at r f [] h k = h
  terms_at r f (t ∷ ts) h k = terms_at r (sum_of f t.factor (Some (var_form (named r t.var)))) ts (sum_at f t.factor (Some (var_form (named r t.var))) h (named_upto r t.var k.0, tt)) k.1

  named_at : (r : ℕ) (f : Option Affine) → FormOf (IsCellOf Anything) f → FormAt n (named_form r f)
  named_at r None h = tt
  named_at r (Some f) h = terms_at r (limited (affine [] f.constant)) f.terms (limited_at (affine [] f.constant) tt) h.1

  among_at : (cs : List ℕ) (f : Option Affine) → FormAt n f → FormAt n (unless_among cs f)
  among_at cs None h = tt
  among_at cs (Some f) h = if_cases (FormAt n) (lack cs f.terms) (Some f) None (λ e. h) (λ e. tt)

  module _ (c : SidesTree) where
    caller_at : (e : ExprTree) → FormAt n (affine_of c.caller.scalars e)
    caller_at e = form_at n (affine_of c.caller.scalars e) (affine_over (IsCellOf Anything) c.caller.scalars (λ x i q. tt) e)

    actual_at : (e : ExprTree) → FormAt n (actual_bound c e)
    actual_at e = among_at c.changed (affine_of c.caller.scalars e) (caller_at e)

    dummy_at : (r : ℕ) (e : ExprTree) → FormAt n (named_form r (dummy_bound c e))
    dummy_at r e = named_at r (affine_of c.callee.scalars e) (affine_over (IsCellOf Anything) c.callee.scalars (λ x i q. tt) e)

    -- ---- dimension by dimension

    aligned_one : (r k : ℕ) (a d : BoundTree) → Upto n (Phi k) → RowIf (aligned_row c r k a d)
    aligned_one r k a d p = equation_given (offset (Phi k) (actual_bound c a.low)) (offset (Aux k) (named_form r (dummy_bound c d.low))) (offset_at (Phi k) (actual_bound c a.low) p (actual_at a.low)) (offset_at (Aux k) (named_form r (dummy_bound c d.low)) tt (dummy_at r d.low))

    dimension_one : (r k : ℕ) (a d : BoundTree) (as' : List BoundTree) → Upto n (Phi k) → RowIf (dimension_row c r k a d as')
    dimension_one r k a d as' p = if_cases RowIf (is_none_left as' || same_extent c a d) (aligned_row c r k a d) None (λ e. aligned_one r k a d p) (λ e. tt)

    before_one : (o : Option Row) (rs : Option (List Row)) → RowIf o → RowsIf rs → RowsIf (row_before o rs)
    before_one None rs h i = tt
    before_one (Some r) None h i = tt
    before_one (Some r) (Some rs) h i = (h, i)

    aligned_given : (r k : ℕ) (as' ds : List BoundTree) → 0 < k → k + length as' ≤ suc n → RowsIf (aligned_rows c r k as' ds)
    aligned_given r k [] [] l h = tt
    aligned_given r k [] (d ∷ ds) l h = tt
    aligned_given r k (a ∷ as') [] l h = tt
    aligned_given r k (a ∷ as') (d ∷ ds) l h =
        before_one (dimension_row c r k a d as') (aligned_rows c r (suc k) as' ds) (dimension_one r k a d as' (l, omega (arith, h))) (aligned_given r (suc k) as' ds (omega arith) (omega (arith, h)))

    -- ---- places in the order of elements

    with_at : (f : Option Affine) (o : Option ℤ) (g : Option Affine) → FormAt n f → FormAt n g → FormAt n (sum_with f o g)
    with_at f None g h i = tt
    with_at f (Some m) g h i = sum_at f m g h i

    before_at : (f : Option Affine) (o : Option ℤ) (bs : List BoundTree) (g : Option Affine) → FormAt n f → FormAt n g → FormAt n (before_dimensions f o bs g)
    before_at f o [] g h i = h
    before_at f o (b ∷ bs) g h i = with_at f o g h i

    whole_at : (k : ℕ) (bs : List BoundTree) → 0 < k → k + length bs ≤ suc n → FormAt n (whole_position c k bs)
    whole_at k [] l h = tt
    whole_at k (b ∷ bs) l h =
        before_at (offset (Phi k) (actual_bound c b.low)) (size_of c.caller.scalars.value b) bs (whole_position c (suc k) bs)
        (offset_at (Phi k) (actual_bound c b.low) (l, omega (arith, h)) (actual_at b.low)) (whole_at (suc k) bs (omega arith) (omega (arith, h)))

    element_place_at : (k : ℕ) (es : ExprTrees) (bs : List BoundTree) → 0 < k → k + length bs ≤ suc n → FormAt n (element_position c k es bs)
    element_place_at k tree.no_exprs [] l h = tt
    element_place_at k tree.no_exprs (b ∷ bs) l h = tt
    element_place_at k (tree.more_exprs e es) [] l h = tt
    element_place_at k (tree.more_exprs e es) (b ∷ bs) l h =
        before_at (offset (Phi k) (affine_of c.caller.scalars e)) (size_of c.caller.scalars.value b) bs (element_position c (suc k) es bs)
        (offset_at (Phi k) (affine_of c.caller.scalars e) (l, omega (arith, h)) (caller_at e)) (element_place_at (suc k) es bs (omega arith) (omega (arith, h)))

    dummy_place_at : (r k : ℕ) (bs : List BoundTree) → FormAt n (dummy_position c r k bs)
    dummy_place_at r k [] = tt
    dummy_place_at r k (b ∷ bs) =
        before_at (offset (Aux k) (named_form r (dummy_bound c b.low))) (size_of c.callee.scalars.value b) bs (dummy_position c r (suc k) bs)
        (offset_at (Aux k) (named_form r (dummy_bound c b.low)) tt (dummy_at r b.low)) (dummy_place_at r (suc k) bs)

    -- ---- constant bounds

    bounds_given : (value : List ℕ → Option Constant) (k : ℕ) (bs : List BoundTree) → 0 < k → k + length bs ≤ suc n → AreGiven (Upto n) (bounds_rows value k bs)
    bounds_given value k [] l h = tt
    bounds_given value k (b ∷ bs) l h =
        let low = low_rows (constant_form (const_value value b.low)) k in
        let high = high_rows (high_form value b.high) k in
        all-append (Given (Upto n)) (bound_rows value b k) (bounds_rows value (suc k) bs)
        (all-append (Given (Upto n)) low high
        (low_given n (constant_form (const_value value b.low)) k (l, omega (arith, h)) (constant_at n (const_value value b.low))) (high_given n (high_form value b.high) k (l, omega (arith, h)) (high_at n value b.high)))
        (bounds_given value (suc k) bs (omega arith) (omega (arith, h)))

-- ---- variables of the same bounds

like_count : (f g : List ℕ → Option Constant) (as' bs : List BoundTree) → same_bounds f as' g bs ≡ true → length as' ≡ length bs
like_count f g [] [] e = refl
like_count f g [] (b ∷ bs) e = absurd (true≢false (sym e))
like_count f g (a ∷ as') [] e = absurd (true≢false (sym e))
like_count f g (a ∷ as') (b ∷ bs) e = ap suc (like_count f g as' bs (second (same_bound f a g b) e))
  where
    second : (p : Bool) → (p && same_bounds f as' g bs) ≡ true → same_bounds f as' g bs ≡ true
    second true q = q
    second false q = absurd (true≢false (sym q))

-- the first one that is like another has as many
record LikeIt (n : ℕ) (ts : List SymbolTree) (s : SymbolTree) (m : ℕ) : Type 0 where
  place : ℕ
  is_place : m ≡ n + place
  symbol : SymbolTree
  is_symbol : slice_get ts place ≡ Some symbol
  count : length s.bounds ≡ length symbol.bounds

like_it : (n : ℕ) (ts : List SymbolTree) (b : List ℕ) (o : ℕ) (cs : List SymbolTree) (s : SymbolTree) (ss : List SymbolTree) (m : ℕ) → first_like n ts b o cs s ss ≡ Some m → LikeIt n ts s m
like_it n [] b o cs s ss m e = cc
like_it n (t ∷ ts) b o cs s ss m e = go (is_like b o cs s ss t) refl e (λ i. like_it (suc n) ts b o cs s ss m i)
  where
    bounds : (p q r : Bool) → (p && q && r) ≡ true → r ≡ true
    bounds true true r i = i
    bounds true false r i = absurd (true≢false (sym i))
    bounds false q r i = absurd (true≢false (sym i))

    go : (c : Bool) → is_like b o cs s ss t ≡ c → (if c then Some n else first_like (suc n) ts b o cs s ss) ≡ Some m → (first_like (suc n) ts b o cs s ss ≡ Some m → LikeIt (suc n) ts s m) → LikeIt n (t ∷ ts) s m
    go true q i ih =
        let same : n ≡ m = cc in
        record { place = zero; is_place = omega (arith, same); symbol = t; is_symbol = refl; count = like_count (value_in cs) (value_in ss) s.bounds t.bounds (bounds (is_at b o t.place) (same_scalar s.scalar t.scalar) (same_bounds (value_in cs) s.bounds (value_in ss) t.bounds) q) }
    go false q i ih = (let r = ih i in let p = r.is_place in record { place = suc r.place; is_place = omega (arith, p); symbol = r.symbol; is_symbol = r.is_symbol; count = r.count })

-- the symbol of a number
symbol_there : (ss : List SymbolTree) (m i : ℕ) (s : SymbolTree) → m ≡ 1 + i → slice_get ss i ≡ Some s → symbol_at ss m ≡ Some s
symbol_there ss m i s e q = (let same : suc i ≡ m = omega (arith, e) in subst (λ j. symbol_at ss j ≡ Some s) same (next_symbol ss i s q))

-- ---- links

-- inner: how many subscripts each variable of what is called has
module _ (may : MayName) (c : SidesTree) (inner : Named → ℕ) where
  abbrev outer : Named → ℕ
  outer v = rank may.ks may.g c.caller.symbols v

  pub record IsNarrowLink (v : Named) (l : Link) : Type 0 where
    pub named : may.such l.variable ≡ true
    pub rows : AreGiven (Upto (outer l.variable)) l.rows
    pub same : l.moved ≡ false → inner v ≡ outer l.variable

  abbrev pub NarrowIf : Named → Option Link → Type 0
  NarrowIf v None = Unit {0}
  NarrowIf v (Some l) = IsNarrowLink v l

  same_narrow : (v w : Named) → may.such w ≡ true → inner v ≡ outer w → IsNarrowLink v (same_elements w)
  same_narrow v w h e = record { named = h; rows = tt; same = λ q. e }

  scalar_narrow : (v : Named) (n : ℕ) → IsNarrowLink v (scalar_link n)
  scalar_narrow v n = record { named = may.own n; rows = tt; same = λ q. absurd (true≢false q) }

  module _ (v : Named) (n : ℕ) (as' : List BoundTree) (count : outer (Own n) ≡ length as') where
    enough : 1 + length as' ≤ suc (outer (Own n))
    enough = omega (arith, count)

    element_narrow : (es : ExprTrees) → IsNarrowLink v (element_link c n es as')
    element_narrow es = record { named = may.own n; rows = subscripts_given may c.caller (outer (Own n)) 1 es as' (omega arith) enough; same = λ q. absurd (true≢false q) }

    position_narrow : (r : ℕ) (o : Option Row) (more bounds : List Row) → RowIf (outer (Own n)) o → AreGiven (Upto (outer (Own n))) more → AreGiven (Upto (outer (Own n))) bounds → IsNarrowLink v (by_position n r o more bounds)
    position_narrow r None more bounds h i j = record { named = may.own n; rows = j; same = λ q. absurd (true≢false q) }
    position_narrow r (Some row) more bounds h i j = record { named = may.own n; rows = (h, i); same = λ q. absurd (true≢false q) }

    bounds_narrow : AreGiven (Upto (outer (Own n))) (actual_bounds c as')
    bounds_narrow = bounds_given (outer (Own n)) c c.caller.scalars.value 1 as' (omega arith) enough

    aligned_narrow : (r : ℕ) (o : Option (List Row)) (l : Link) → RowsIf (outer (Own n)) o → IsNarrowLink v l → IsNarrowLink v (aligned_or n r o l)
    aligned_narrow r None l h i = i
    aligned_narrow r (Some rs) l h i = record { named = may.own n; rows = h; same = λ q. absurd (true≢false q) }

    array_narrow : (ds : List BoundTree) → IsNarrowLink v (array_link c n as' ds)
    array_narrow ds =
        let N = outer (Own n) in
        aligned_narrow (length ds) (aligned_rows c (length ds) 1 as' ds) (whole_by_position c n as' ds) (aligned_given N c (length ds) 1 as' ds (omega arith) enough)
        (position_narrow (length ds) (equation (whole_position c 1 as') (dummy_position c (length ds) 1 ds)) (actual_bounds c as') (actual_bounds c as')
        (equation_given N (whole_position c 1 as') (dummy_position c (length ds) 1 ds) (whole_at N c 1 as' (omega arith) enough) (dummy_place_at N c (length ds) 1 ds)) bounds_narrow bounds_narrow)

    lines_narrow : (bs ds : List BoundTree) (rs : List Row) → AreGiven (Upto (outer (Own n))) rs → AreGiven (Upto (outer (Own n))) (bounds_unless_lines rs bs ds)
    lines_narrow [] ds rs h = h
    lines_narrow (a ∷ []) [] rs h = h
    lines_narrow (a ∷ []) (d ∷ []) rs h = tt
    lines_narrow (a ∷ []) (d ∷ (e ∷ ds)) rs h = h
    lines_narrow (a ∷ (b ∷ bs)) ds rs h = h

    rest_narrow : (es : ExprTrees) (ds : List BoundTree) → IsNarrowLink v (rest_link c n es as' ds)
    rest_narrow es ds =
        let N = outer (Own n) in
        position_narrow (length ds) (equation (element_position c 1 es as') (dummy_position c (length ds) 1 ds)) (bounds_unless_lines (actual_bounds c as') as' ds) (actual_bounds c as')
        (equation_given N (element_position c 1 es as') (dummy_position c (length ds) 1 ds) (element_place_at N c 1 es as' (omega arith) enough) (dummy_place_at N c (length ds) 1 ds))
        (lines_narrow as' ds (actual_bounds c as') bounds_narrow) bounds_narrow

    variable_narrow : (ds : List BoundTree) → IsNarrowLink v (variable_link c n as' ds)
    variable_narrow [] = scalar_narrow v n
    variable_narrow (d ∷ ds) = array_narrow (d ∷ ds)

    subscripts_narrow : (es : ExprTrees) (ds : List BoundTree) → IsNarrowLink v (subscripts_link c n es as' ds)
    subscripts_narrow es [] = element_narrow es
    subscripts_narrow es (d ∷ ds) = rest_narrow es (d ∷ ds)

  -- a dummy
  named_variable : (v : Named) (ds : List BoundTree) (o : Option ℕ) → NarrowIf v (variable_of c ds o)
  named_variable v ds None = tt
  named_variable v ds (Some n) = go (symbol_at c.caller.symbols n) refl
    where
      go : (o : Option SymbolTree) → symbol_at c.caller.symbols n ≡ o → NarrowIf v (variable_at c ds n o)
      go None e = tt
      go (Some t) e = if_cases (NarrowIf v) (is_constant t.place) None (Some (variable_link c n t.bounds ds)) (λ q. tt) (λ q. variable_narrow v n t.bounds (ap bounds_count e) ds)

  named_element : (v : Named) (ds : List BoundTree) (es : ExprTrees) (o : Option ℕ) → NarrowIf v (element_of c ds es o)
  named_element v ds es None = tt
  named_element v ds es (Some n) = go (symbol_at c.caller.symbols n) refl
    where
      go : (o : Option SymbolTree) → symbol_at c.caller.symbols n ≡ o → NarrowIf v (element_at c ds es n o)
      go None e = tt
      go (Some t) e = if_cases (NarrowIf v) (has_bounds t.bounds) (Some (subscripts_link c n es t.bounds ds)) None (λ q. subscripts_narrow v n t.bounds (ap bounds_count e) es ds) (λ q. tt)

  expr_narrow : (v : Named) (ds : List BoundTree) (e : ExprTree) → NarrowIf v (expr_link c ds e)
  expr_narrow v ds (tree.int n) = tt
  expr_narrow v ds (tree.log b) = tt
  expr_narrow v ds (tree.name x) = named_variable v ds (number_from 1 c.caller.names x)
  expr_narrow v ds (tree.element x es) = named_element v ds es (number_from 1 c.caller.names x)
  expr_narrow v ds (tree.paren e) = tt
  expr_narrow v ds (tree.unary o e) = tt
  expr_narrow v ds (tree.binary o a b) = tt
  expr_narrow v ds (tree.chars x) = tt

  actual_narrow : (v : Named) (ds : List BoundTree) (o : Option ExprTree) → NarrowIf v (actual_link c ds o)
  actual_narrow v ds None = tt
  actual_narrow v ds (Some e) = expr_narrow v ds e

  -- a variable of a block
  unit_narrow : (v : Named) (b : List ℕ) (r : ℕ) (o : Option Row) → may.such (Block b) ≡ true → RowIf 1 o → IsNarrowLink v (by_unit b r o)
  unit_narrow v b r None h g = record { named = h; rows = tt; same = λ q. absurd (true≢false q) }
  unit_narrow v b r (Some row) h g = record { named = h; rows = (g, tt); same = λ q. absurd (true≢false q) }

  block_narrow : (v : Named) (b : List ℕ) (o : ℕ) (ds : List BoundTree) → may.such (Block b) ≡ true → IsNarrowLink v (block_link c b o ds)
  block_narrow v b o ds h =
      unit_narrow v b (length ds) (equation (block_position o) (dummy_position c (length ds) 1 ds)) h
      (equation_given 1 (block_position o) (dummy_position c (length ds) 1 ds) (offset_at 1 (Phi 1) (limited (affine [] (pos (suc o)))) (omega arith, omega arith) (limited_at 1 (affine [] (pos (suc o))) tt)) (dummy_place_at 1 c (length ds) 1 ds))

  like_narrow : (v : Named) (b : List ℕ) (o : ℕ) (s : SymbolTree) → inner v ≡ length s.bounds → may.such (Block b) ≡ true → IsNarrowLink v (common_link c b o s)
  like_narrow v b o s count h = go (first_like 1 c.caller.symbols b o c.callee.symbols s c.caller.symbols) refl
    where
      go : (q : Option ℕ) → first_like 1 c.caller.symbols b o c.callee.symbols s c.caller.symbols ≡ q → IsNarrowLink v (like_or_block c b o s.bounds q)
      go None e = block_narrow v b o s.bounds h
      go (Some m) e =
          let r = like_it 1 c.caller.symbols b o c.callee.symbols s c.caller.symbols m e in
          same_narrow v (Own m) (may.own m) (count ∙ (r.count ∙ sym (ap bounds_count (symbol_there c.caller.symbols m r.place r.symbol r.is_place r.is_symbol))))

  -- ---- all variables

  -- such: the variables of what is called that its regions may name
  pub record NamesMeet (such : Named → Bool) : Type 0 where
    pub own : (n : ℕ) (s : SymbolTree) → symbol_at c.callee.symbols n ≡ Some s → inner (Own n) ≡ length s.bounds
    pub saved : (n : ℕ) (s : SymbolTree) (g o : ℕ) → symbol_at c.callee.symbols n ≡ Some s → s.place ≡ place.Local g o → s.saved ≡ true → (may.such (Saved c.name s.name) ≡ true) × (inner (Own n) ≡ outer (Saved c.name s.name))
    pub block : (n : ℕ) (s : SymbolTree) (b : List ℕ) (o : ℕ) → symbol_at c.callee.symbols n ≡ Some s → s.place ≡ place.Block b o → may.such (Block b) ≡ true
    pub blocks : (b : List ℕ) → such (Block b) ≡ true → (may.such (Block b) ≡ true) × (inner (Block b) ≡ outer (Block b))
    pub others : (m x : List ℕ) → such (Saved m x) ≡ true → (may.such (Saved m x) ≡ true) × (inner (Saved m x) ≡ outer (Saved m x))

  module _ (such : Named → Bool) (meet : NamesMeet such) where
    symbol_narrow : (n : ℕ) (s : SymbolTree) → symbol_at c.callee.symbols n ≡ Some s → (p : Place) → s.place ≡ p → NarrowIf (Own n) (place_link c s p)
    symbol_narrow n s e (place.Local g o) q = go s.saved refl
      where
        go : (b : Bool) → s.saved ≡ b → NarrowIf (Own n) (if b then Some (same_elements (Saved c.name s.name)) else None)
        go true r = (let w = meet.saved n s g o e q r in same_narrow (Own n) (Saved c.name s.name) w.0 w.1)
        go false r = tt
    symbol_narrow n s e (place.Dummy d) q = actual_narrow (Own n) s.bounds (actual_of c.actuals d)
    symbol_narrow n s e (place.Block b o) q = like_narrow (Own n) b o s (meet.own n s e) (meet.block n s b o e q)
    symbol_narrow n s e (place.Constant k) q = tt

    pub link_narrow : (v : Named) → such v ≡ true → NarrowIf v (link_of c v)
    link_narrow (Own n) h = go (symbol_at c.callee.symbols n) refl
      where
        go : (o : Option SymbolTree) → symbol_at c.callee.symbols n ≡ o → NarrowIf (Own n) (symbol_link c o)
        go None e = tt
        go (Some s) e = symbol_narrow n s e s.place refl
    link_narrow (Block b) h = (let w = meet.blocks b h in same_narrow (Block b) (Block b) w.0 w.1)
    link_narrow (Saved m x) h = (let w = meet.others m x h in same_narrow (Saved m x) (Saved m x) w.0 w.1)

    pub link_is_narrow : (v : Named) (l : Link) → such v ≡ true → link_of c v ≡ Some l → IsNarrowLink v l
    link_is_narrow v l h e = subst (NarrowIf v) e (link_narrow v h)
