-- The variables of the equations between subscripts of the callee and of the caller, and the variable of the caller that they are of.
use Rattle.std.proofs.Common.{◌≡◌, ℕ, suc, ◌+◌, ◌<◌, ◌≤◌, Bool, true, false, List, [], ◌∷◌, length, Option, Some, None, ℤ, pos, negsuc, ◌+ℤ◌, ◌*ℤ◌, arith, refl}
use Rattle.std.specs.Prelude.{if◌then◌else◌, ◌&&◌, ◌||◌, ◌-ℤ◌}
use Rattle.affine_systems.specs.declared.row.Var.{Var}
use Rattle.affine_systems.specs.declared.row.Var.TheVariants.{Cell, Exit, Phi, Aux}
use Rattle.affine_systems.specs.declared.row.Term.{Term}
use Rattle.affine_systems.specs.declared.row.Row.{Row}
use Rattle.affine_systems.specs.Rows.{combined_terms}
use Rattle.affine_systems.specs.Normal.{is_small, are_small}
use Rattle.affine_systems.proofs.Basics.{if_cases}
use Rattle.affine_systems.proofs.AscendLaws.{ascends-combined}
use Rattle.f77_ast.specs.Trees.{ExprTree, ExprTrees}
use Rattle.f77_ast.specs.Trees as tree
use Rattle.f77_ast.specs.declared.symbol.Place.{Place}
use Rattle.f77_ast.specs.declared.symbol.Place.TheVariants.{Local, Dummy, Block, Constant as Value}
use Rattle.f77_ast.specs.declared.variable.Variable.{Variable}
use Rattle.f77_ast.specs.declared.variable.Variable.TheVariants.{Own, Block as Whole, Saved}
use Rattle.f77_ast.specs.Symbols.{BoundTree, SymbolTree, number_from}
use Rattle.f77_ast.specs.Shared.{symbol_at}
use Rattle.tracked_cells.specs.Standing.{has_bounds}
use Rattle.in_out_regions.specs.effects.Callee.{is_like, first_like}
use Rattle.affine_forms.specs.declared.affine.Affine.{Affine}
use Rattle.affine_forms.specs.Comparisons.{var_form}
use Rattle.affine_forms.specs.Forms.{affine, affine_of, limited, plus, sum_of}
use Rattle.preconditions.specs.call_translation.Actuals.{actual_of}
use Rattle.in_out_regions.specs.call_equations.declared.link.Link.{Link}
use Rattle.in_out_regions.specs.call_equations.Sides.{SidesTree}
use Rattle.in_out_regions.specs.call_equations.Rows.{bounds_rows, bound_rows, subscript_rows}
use Rattle.in_out_regions.specs.call_equations.Forms.{offset, equation, lack, unless_among}
use Rattle.in_out_regions.specs.call_equations.Cells.{named, named_terms, named_form, actual_bound, dummy_bound}
use Rattle.in_out_regions.specs.call_equations.Positions.{aligned_row, is_none_left, same_extent, dimension_row, row_before, aligned_rows, size_of, before_dimensions, whole_position, element_position, dummy_position, block_position}
use Rattle.in_out_regions.specs.call_equations.Links.{same_elements, by_position, actual_bounds, whole_by_position, aligned_or, bounds_unless_lines, variable_link, subscripts_link, is_constant, variable_at, element_at, variable_of, element_of, expr_link, actual_link, by_unit, like_or_block, common_link, place_link, symbol_link, link_of}
use Rattle.laws_lines.specs.Variables.{EachVar, IsCellOf}
use Rattle.laws_lines.proofs.RowVars.{each_more, each-combined, Given}
use Rattle.laws_lines.proofs.SystemVars.{AreGiven, all-append}
use Rattle.laws_lines.proofs.FormVars.{IsFormOf, FormOf, var_of, affine_over, compared_given}
use Rattle.laws_lines.proofs.StatementVars.{Scope}
use Rattle.system_text.specs.Printed.{IsNumber}
use Rattle.laws_lines.specs.Regions.Names.{PlaceNamed, SymbolNamed}
use Rattle.laws_lines.specs.Regions.Places.{IsPlaceOf}
use Rattle.laws_lines.proofs.Regions.AccessVars.{IsNamedBy, named_number, FewBounds, dimension_given, subscripts_given}
use Rattle.laws_lines.proofs.Regions.CalleeVars.{IsLinkedOf, cell_linked, place_linked}
use Rattle.elimination.proofs.ClosedLaws.{rows_weaker as all_more}
use Rattle.fx_lists.proofs.Every.{Anything}

-- ---- sums of forms

module _ (such : Var → Type 0) where
  pub limited_of : (f : Affine) → IsFormOf such f → FormOf such (limited f)
  limited_of f h = if_cases (FormOf such) (is_small f.constant && are_small f.terms) (Some f) None (λ e. h) (λ e. tt)

  plus_of : (f : Affine) (k : ℤ) (g : Affine) → IsFormOf such f → IsFormOf such g → FormOf such (plus f k g)
  plus_of f k g h i =
      limited_of (affine (combined_terms (pos 1) f.terms k g.terms) (f.constant +ℤ (k *ℤ g.constant)))
      (ascends-combined (pos 1) f.terms k g.terms, each-combined such (pos 1) f.terms k g.terms h.1 i.1)

  pub sum_form : (f : Option Affine) (k : ℤ) (g : Option Affine) → FormOf such f → FormOf such g → FormOf such (sum_of f k g)
  sum_form (Some f) k (Some g) h i = plus_of f k g h i
  sum_form (Some f) k None h i = tt
  sum_form None k g h i = tt

  pub offset_form : (v : Var) (low : Option Affine) → such v → FormOf such low → FormOf such (offset v low)
  offset_form v low p h = sum_form (Some (var_form v)) (negsuc 0) low (var_of such v p) h

  unless_form : (cs : List ℕ) (o : Option Affine) → FormOf such o → FormOf such (unless_among cs o)
  unless_form cs None h = tt
  unless_form cs (Some f) h = if_cases (FormOf such) (lack cs f.terms) (Some f) None (λ e. h) (λ e. tt)

  pub before_form : (f : Option Affine) (n : Option ℤ) (bs : List BoundTree) (g : Option Affine) → FormOf such f → FormOf such g → FormOf such (before_dimensions f n bs g)
  before_form f n [] g h i = h
  before_form f None (b ∷ bs) g h i = tt
  before_form f (Some n) (b ∷ bs) g h i = sum_form f n g h i

  abbrev pub MaybeRow : Option Row → Type 0
  MaybeRow None = Unit {0}
  MaybeRow (Some r) = Given such r

  abbrev MaybeRows : Option (List Row) → Type 0
  MaybeRows None = Unit {0}
  MaybeRows (Some rs) = AreGiven such rs

  pub equation_given : (f g : Option Affine) → FormOf such f → FormOf such g → MaybeRow (equation f g)
  equation_given None g h i = tt
  equation_given (Some f) None h i = tt
  equation_given (Some f) (Some g) h i = compared_given such true f g (g.constant -ℤ f.constant) h.1 i.1

  row_before_given : (o : Option Row) (q : Option (List Row)) → MaybeRow o → MaybeRows q → MaybeRows (row_before o q)
  row_before_given None q h k = tt
  row_before_given (Some r) None h k = tt
  row_before_given (Some r) (Some rs) h k = (h, k)

pub form_more : (such other : Var → Type 0) → ((v : Var) → such v → other v) → (o : Option Affine) → FormOf such o → FormOf other o
form_more such other f None h = tt
form_more such other f (Some g) h = (h.0, each_more such other f g.terms h.1)

pub rows_linked : (ok : ℕ → Type 0) (rs : List Row) → AreGiven (IsPlaceOf ok) rs → AreGiven (IsLinkedOf ok) rs
rows_linked ok rs h = all_more (Given (IsPlaceOf ok)) (Given (IsLinkedOf ok)) (λ r g. (g.0, each_more (IsPlaceOf ok) (IsLinkedOf ok) (place_linked ok) r.terms g.1)) rs h

-- ---- symbols

-- the number of a symbol that is found
pub first_between : (n : ℕ) (ts : List SymbolTree) (b : List ℕ) (o : ℕ) (cs : List SymbolTree) (s : SymbolTree) (ss : List SymbolTree) (k : ℕ) → first_like n ts b o cs s ss ≡ Some k → (n ≤ k) × (k < n + length ts)
first_between n [] b o cs s ss k e = cc
first_between n (t ∷ ts) b o cs s ss k e = go (is_like b o cs s ss t) e (first_between (suc n) ts b o cs s ss k)
  where
    go : (g : Bool) → (if g then Some n else first_like (suc n) ts b o cs s ss) ≡ Some k → (first_like (suc n) ts b o cs s ss ≡ Some k → (suc n ≤ k) × (k < suc n + length ts)) → (n ≤ k) × (k < n + suc (length ts))
    go true q ih = let same : n ≡ k = cc in (omega (arith, same), omega (arith, same))
    go false q ih =
        let r = ih q in
        let least = r.0 in
        let most = r.1 in
        (omega (arith, least), omega (arith, most))

abbrev pub MaybeNamed : (List ℕ → Type 0) → Option SymbolTree → Type 0
MaybeNamed Name None = Unit {0}
MaybeNamed Name (Some s) = SymbolNamed Name s

-- ---- links

module _ (Name : List ℕ → Type 0) (ok : ℕ → Type 0) (c : SidesTree) (a : Scope ok c.caller) (few : FewBounds c.caller.symbols) (long : length c.caller.symbols ≡ length c.caller.names) where
  abbrev S : Var → Type 0
  S = IsLinkedOf ok

  abbrev F : Option Affine → Type 0
  F o = FormOf S o

  actual_form : (e : ExprTree) → F (affine_of c.caller.scalars e)
  actual_form e = form_more (IsCellOf ok) S (cell_linked ok) (affine_of c.caller.scalars e) (affine_over (IsCellOf ok) c.caller.scalars a.allows.names e)

  actual_bound_form : (e : ExprTree) → F (actual_bound c e)
  actual_bound_form e = unless_form S c.changed (affine_of c.caller.scalars e) (actual_form e)

  named_var : (r : ℕ) (v : Var) → IsCellOf Anything v → S (named r v)
  named_var r (Cell n) h = omega arith
  named_var r (Exit n) h = absurd h
  named_var r (Phi n) h = absurd h
  named_var r (Aux n) h = absurd h

  terms_form : (r : ℕ) (o : Option Affine) (ts : List Term) → F o → EachVar (IsCellOf Anything) ts → F (named_terms r o ts)
  terms_form r o [] h k = h
  terms_form r o (t ∷ ts) h k =
      let f = Some (var_form (named r t.var)) in
      terms_form r (sum_of o t.factor f) ts (sum_form S o t.factor f h (var_of S (named r t.var) (named_var r t.var k.0))) k.1

  pub named_formed : (r : ℕ) (o : Option Affine) → FormOf (IsCellOf Anything) o → F (named_form r o)
  named_formed r None h = tt
  named_formed r (Some f) h = terms_form r (limited (affine [] f.constant)) f.terms (limited_of S (affine [] f.constant) (tt, tt)) h.1

  dummy_bound_form : (r : ℕ) (e : ExprTree) → F (named_form r (dummy_bound c e))
  dummy_bound_form r e = named_formed r (dummy_bound c e) (affine_over (IsCellOf Anything) c.callee.scalars (λ x n q. tt) e)

  -- ---- positions

  whole_form : (k : ℕ) (bs : List BoundTree) → 0 < k → k + length bs ≤ 8 → F (whole_position c k bs)
  whole_form k [] l h = (tt, tt)
  whole_form k (b ∷ bs) l h =
      before_form S (offset (Phi k) (actual_bound c b.low)) (size_of c.caller.scalars.value b) bs (whole_position c (suc k) bs)
      (offset_form S (Phi k) (actual_bound c b.low) (l, omega (arith, h)) (actual_bound_form b.low)) (whole_form (suc k) bs (omega arith) (omega (arith, h)))

  element_form : (k : ℕ) (es : ExprTrees) (bs : List BoundTree) → 0 < k → k + length bs ≤ 8 → F (element_position c k es bs)
  element_form k tree.no_exprs [] l h = (tt, tt)
  element_form k tree.no_exprs (b ∷ bs) l h = tt
  element_form k (tree.more_exprs e es) [] l h = tt
  element_form k (tree.more_exprs e es) (b ∷ bs) l h =
      before_form S (offset (Phi k) (affine_of c.caller.scalars e)) (size_of c.caller.scalars.value b) bs (element_position c (suc k) es bs)
      (offset_form S (Phi k) (affine_of c.caller.scalars e) (l, omega (arith, h)) (actual_form e)) (element_form (suc k) es bs (omega arith) (omega (arith, h)))

  dummy_form : (r k : ℕ) (ds : List BoundTree) → 0 < k → F (dummy_position c r k ds)
  dummy_form r k [] l = (tt, tt)
  dummy_form r k (b ∷ bs) l =
      before_form S (offset (Aux k) (named_form r (dummy_bound c b.low))) (size_of c.callee.scalars.value b) bs (dummy_position c r (suc k) bs)
      (offset_form S (Aux k) (named_form r (dummy_bound c b.low)) l (dummy_bound_form r b.low)) (dummy_form r (suc k) bs (omega arith))

  block_form : (o : ℕ) → F (block_position o)
  block_form o = offset_form S (Phi 1) (limited (affine [] (pos (suc o)))) (omega arith, omega arith) (limited_of S (affine [] (pos (suc o))) (tt, tt))

  -- ---- dimension by dimension

  aligned_row_given : (r k : ℕ) (b d : BoundTree) → 0 < k → k ≤ 7 → MaybeRow S (aligned_row c r k b d)
  aligned_row_given r k b d l h =
      equation_given S (offset (Phi k) (actual_bound c b.low)) (offset (Aux k) (named_form r (dummy_bound c d.low)))
      (offset_form S (Phi k) (actual_bound c b.low) (l, h) (actual_bound_form b.low)) (offset_form S (Aux k) (named_form r (dummy_bound c d.low)) l (dummy_bound_form r d.low))

  dimension_row_given : (r k : ℕ) (b d : BoundTree) (bs : List BoundTree) → 0 < k → k ≤ 7 → MaybeRow S (dimension_row c r k b d bs)
  dimension_row_given r k b d bs l h =
      if_cases (MaybeRow S) (is_none_left bs || same_extent c b d) (aligned_row c r k b d) None (λ e. aligned_row_given r k b d l h) (λ e. tt)

  aligned_given : (r k : ℕ) (bs ds : List BoundTree) → 0 < k → k + length bs ≤ 8 → MaybeRows S (aligned_rows c r k bs ds)
  aligned_given r k [] [] l h = tt
  aligned_given r k [] (d ∷ ds) l h = tt
  aligned_given r k (b ∷ bs) [] l h = tt
  aligned_given r k (b ∷ bs) (d ∷ ds) l h =
      row_before_given S (dimension_row c r k b d bs) (aligned_rows c r (suc k) bs ds) (dimension_row_given r k b d bs l (omega (arith, h))) (aligned_given r (suc k) bs ds (omega arith) (omega (arith, h)))

  bounds_given : (k : ℕ) (bs : List BoundTree) → 0 < k → k + length bs ≤ 8 → AreGiven S (bounds_rows c.caller.scalars.value k bs)
  bounds_given k [] l h = tt
  bounds_given k (b ∷ bs) l h =
      all-append (Given S) (bound_rows c.caller.scalars.value b k) (bounds_rows c.caller.scalars.value (suc k) bs)
      (rows_linked ok (bound_rows c.caller.scalars.value b k) (dimension_given Name ok c.caller a few c.caller.scalars.value None b k (l, omega (arith, h)) tt))
      (bounds_given (suc k) bs (omega arith) (omega (arith, h)))

  -- ---- what is of a link

  pub record LinkOk (l : Link) : Type 0 where
    pub named : IsNamedBy Name c.caller.names l.variable
    pub rows : AreGiven S l.rows
    pub flat : l.moved ≡ false → l.rank ≡ 0

  abbrev pub MaybeLink : Option Link → Type 0
  MaybeLink None = Unit {0}
  MaybeLink (Some l) = LinkOk l

  same_ok : (v : Variable) → IsNamedBy Name c.caller.names v → LinkOk (same_elements v)
  same_ok v h = record { named = h; rows = tt; flat = λ e. refl }

  module _ (n : ℕ) (number : IsNumber c.caller.names n) where
    by_position_ok : (r : ℕ) (o : Option Row) (more bounds : List Row) → MaybeRow S o → AreGiven S more → AreGiven S bounds → LinkOk (by_position n r o more bounds)
    by_position_ok r None more bounds h i j = record { named = number; rows = j; flat = λ e. cc }
    by_position_ok r (Some row) more bounds h i j = record { named = number; rows = (h, i); flat = λ e. cc }

    aligned_ok : (r : ℕ) (o : Option (List Row)) (l : Link) → MaybeRows S o → LinkOk l → LinkOk (aligned_or n r o l)
    aligned_ok r None l h k = k
    aligned_ok r (Some rs) l h k = record { named = number; rows = h; flat = λ e. cc }

    module _ (bs : List BoundTree) (short : length bs ≤ 7) where
      whole_ok : (ds : List BoundTree) → LinkOk (whole_by_position c n bs ds)
      whole_ok ds =
          by_position_ok (length ds) (equation (whole_position c 1 bs) (dummy_position c (length ds) 1 ds)) (actual_bounds c bs) (actual_bounds c bs)
          (equation_given S (whole_position c 1 bs) (dummy_position c (length ds) 1 ds) (whole_form 1 bs (omega arith) (omega (arith, short))) (dummy_form (length ds) 1 ds (omega arith)))
          (bounds_given 1 bs (omega arith) (omega (arith, short))) (bounds_given 1 bs (omega arith) (omega (arith, short)))

      variable_ok : (ds : List BoundTree) → LinkOk (variable_link c n bs ds)
      variable_ok [] = record { named = number; rows = tt; flat = λ e. cc }
      variable_ok (d ∷ ds) =
          aligned_ok (length (d ∷ ds)) (aligned_rows c (length (d ∷ ds)) 1 bs (d ∷ ds)) (whole_by_position c n bs (d ∷ ds))
          (aligned_given (length (d ∷ ds)) 1 bs (d ∷ ds) (omega arith) (omega (arith, short))) (whole_ok (d ∷ ds))

      unless_lines_given : (rows : List Row) (cs ds : List BoundTree) → AreGiven S rows → AreGiven S (bounds_unless_lines rows cs ds)
      unless_lines_given rows [] ds h = h
      unless_lines_given rows (b ∷ []) [] h = h
      unless_lines_given rows (b ∷ []) (d ∷ []) h = tt
      unless_lines_given rows (b ∷ []) (d ∷ (e ∷ ds)) h = h
      unless_lines_given rows (b ∷ (d ∷ cs)) ds h = h

      subscripts_ok : (es : ExprTrees) (ds : List BoundTree) → LinkOk (subscripts_link c n es bs ds)
      subscripts_ok es [] =
          record { named = number; rows = rows_linked ok (subscript_rows c.caller 1 es bs) (subscripts_given Name ok c.caller a few 1 es bs (omega arith) (omega (arith, short))); flat = λ e. cc }
      subscripts_ok es (d ∷ ds) =
          let r = length (d ∷ ds) in
          by_position_ok r (equation (element_position c 1 es bs) (dummy_position c r 1 (d ∷ ds))) (bounds_unless_lines (actual_bounds c bs) bs (d ∷ ds)) (actual_bounds c bs)
          (equation_given S (element_position c 1 es bs) (dummy_position c r 1 (d ∷ ds)) (element_form 1 es bs (omega arith) (omega (arith, short))) (dummy_form r 1 (d ∷ ds) (omega arith)))
          (unless_lines_given (actual_bounds c bs) bs (d ∷ ds) (bounds_given 1 bs (omega arith) (omega (arith, short)))) (bounds_given 1 bs (omega arith) (omega (arith, short)))

    variable_at_ok : (ds : List BoundTree) (o : Option SymbolTree) → symbol_at c.caller.symbols n ≡ o → MaybeLink (variable_at c ds n o)
    variable_at_ok ds None q = tt
    variable_at_ok ds (Some t) q = if_cases MaybeLink (is_constant t.place) None (Some (variable_link c n t.bounds ds)) (λ e. tt) (λ e. variable_ok t.bounds (few n t q) ds)

    element_at_ok : (ds : List BoundTree) (es : ExprTrees) (o : Option SymbolTree) → symbol_at c.caller.symbols n ≡ o → MaybeLink (element_at c ds es n o)
    element_at_ok ds es None q = tt
    element_at_ok ds es (Some t) q = if_cases MaybeLink (has_bounds t.bounds) (Some (subscripts_link c n es t.bounds ds)) None (λ e. subscripts_ok t.bounds (few n t q) es ds) (λ e. tt)

  variable_of_ok : (ds : List BoundTree) (x : List ℕ) → MaybeLink (variable_of c ds (number_from 1 c.caller.names x))
  variable_of_ok ds x = go (number_from 1 c.caller.names x) refl
    where
      go : (o : Option ℕ) → number_from 1 c.caller.names x ≡ o → MaybeLink (variable_of c ds o)
      go None q = tt
      go (Some n) q = variable_at_ok n (named_number c.caller.names x n q) ds (symbol_at c.caller.symbols n) refl

  element_of_ok : (ds : List BoundTree) (es : ExprTrees) (x : List ℕ) → MaybeLink (element_of c ds es (number_from 1 c.caller.names x))
  element_of_ok ds es x = go (number_from 1 c.caller.names x) refl
    where
      go : (o : Option ℕ) → number_from 1 c.caller.names x ≡ o → MaybeLink (element_of c ds es o)
      go None q = tt
      go (Some n) q = element_at_ok n (named_number c.caller.names x n q) ds es (symbol_at c.caller.symbols n) refl

  expr_ok : (ds : List BoundTree) (e : ExprTree) → MaybeLink (expr_link c ds e)
  expr_ok ds (tree.int n) = tt
  expr_ok ds (tree.log b) = tt
  expr_ok ds (tree.name x) = variable_of_ok ds x
  expr_ok ds (tree.element x es) = element_of_ok ds es x
  expr_ok ds (tree.paren e) = tt
  expr_ok ds (tree.unary o e) = tt
  expr_ok ds (tree.binary o e f) = tt
  expr_ok ds (tree.chars x) = tt

  actual_ok : (ds : List BoundTree) (o : Option ExprTree) → MaybeLink (actual_link c ds o)
  actual_ok ds None = tt
  actual_ok ds (Some e) = expr_ok ds e

  -- ---- variables of blocks

  unit_ok : (b : List ℕ) (r : ℕ) (o : Option Row) → Name b → MaybeRow S o → LinkOk (by_unit b r o)
  unit_ok b r None n h = record { named = n; rows = tt; flat = λ e. cc }
  unit_ok b r (Some row) n h = record { named = n; rows = (h, tt); flat = λ e. cc }

  common_ok : (b : List ℕ) (o : ℕ) (s : SymbolTree) → Name b → LinkOk (common_link c b o s)
  common_ok b o s n = go (first_like 1 c.caller.symbols b o c.callee.symbols s c.caller.symbols) refl
    where
      go : (q : Option ℕ) → first_like 1 c.caller.symbols b o c.callee.symbols s c.caller.symbols ≡ q → LinkOk (like_or_block c b o s.bounds q)
      go None e =
          unit_ok b (length s.bounds) (equation (block_position o) (dummy_position c (length s.bounds) 1 s.bounds)) n
          (equation_given S (block_position o) (dummy_position c (length s.bounds) 1 s.bounds) (block_form o) (dummy_form (length s.bounds) 1 s.bounds (omega arith)))
      go (Some k) e =
          let r = first_between 1 c.caller.symbols b o c.callee.symbols s c.caller.symbols k e in
          let least = r.0 in
          let most = r.1 in
          same_ok (Own k) (omega (arith, least), omega (arith, most, long))

  -- ---- all variables

  module _ (title : Name c.name) where
    place_ok : (s : SymbolTree) (p : Place) → Name s.name → PlaceNamed Name p → MaybeLink (place_link c s p)
    place_ok s (Local g o) n h = if_cases MaybeLink s.saved (Some (same_elements (Saved c.name s.name))) None (λ e. same_ok (Saved c.name s.name) (title, n)) (λ e. tt)
    place_ok s (Dummy d) n h = actual_ok s.bounds (actual_of c.actuals d)
    place_ok s (Block b o) n h = common_ok b o s h
    place_ok s (Value v) n h = tt

    symbol_ok : (o : Option SymbolTree) → MaybeNamed Name o → MaybeLink (symbol_link c o)
    symbol_ok None h = tt
    symbol_ok (Some s) h = place_ok s s.place h.0 h.1

    pub link_ok : ((n : ℕ) → MaybeNamed Name (symbol_at c.callee.symbols n)) → (names : List (List ℕ)) (v : Variable) → IsNamedBy Name names v → MaybeLink (link_of c v)
    link_ok t names (Own n) h = symbol_ok (symbol_at c.callee.symbols n) (t n)
    link_ok t names (Whole b) h = same_ok (Whole b) h
    link_ok t names (Saved s x) h = same_ok (Saved s x) h
