-- The regions of the callee that a region of the caller is: their variables have names in the callee, and their equations join both sides alone.
use Rattle.std.proofs.Common.{◌≡◌, ℕ, suc, ◌+◌, ◌-◌, ◌<◌, ◌≤◌, Bool, true, false, List, [], ◌∷◌, length, Option, Some, None, pos, arith, refl}
use Rattle.std.specs.Prelude.{if◌then◌else◌, ◌&&◌, map, bytes_eq, nat_le}
use Rattle.std.specs.List.{AllByRecursion}
use Rattle.std.proofs.lemmas.Bool.Decides.{nat_tests}
use Rattle.affine_systems.specs.declared.row.Var.{Var}
use Rattle.affine_systems.specs.declared.row.Var.TheVariants.{Cell, Exit, Phi, Aux}
use Rattle.affine_systems.specs.declared.row.Term.{Term}
use Rattle.affine_systems.specs.declared.row.Row.{Row}
use Rattle.affine_systems.specs.Terms.{var_eq}
use Rattle.affine_systems.specs.Normal.{Normal, Kept, Always, Never, TooBig, normal}
use Rattle.affine_systems.proofs.Basics.{if_cases}
use Rattle.preconditions.specs.transformer_algebra.Renaming.{renamed_by}
use Rattle.f77_ast.specs.Trees.{ExprTree, ExprTrees}
use Rattle.f77_ast.specs.Trees as tree
use Rattle.f77_ast.specs.declared.constant.Constant.{Constant}
use Rattle.f77_ast.specs.declared.constant.Constant.TheVariants.{Int, Log}
use Rattle.f77_ast.specs.declared.constant.ConstantValue.{ConstantValue}
use Rattle.f77_ast.specs.declared.constant.ConstantValue.TheVariants.{Is, Faults, Varies}
use Rattle.f77_ast.specs.Constants.{const_value}
use Rattle.f77_ast.specs.declared.symbol.Place.{Place}
use Rattle.f77_ast.specs.declared.symbol.Place.TheVariants.{Local, Dummy, Block, Constant as Value}
use Rattle.f77_ast.specs.declared.variable.Variable.{Variable}
use Rattle.f77_ast.specs.declared.variable.Variable.TheVariants.{Own, Block as Whole, Saved}
use Rattle.f77_ast.specs.Symbols.{BoundTree, SymbolTree, number_from}
use Rattle.f77_ast.specs.Shared.{symbol_at}
use Rattle.tracked_cells.specs.Standing.{has_bounds}
use Rattle.in_out_regions.specs.effects.Callee.{first_like}
use Rattle.affine_forms.specs.declared.affine.Affine.{Affine}
use Rattle.affine_forms.specs.Comparisons.{var_form}
use Rattle.affine_forms.specs.Forms.{affine, limited}
use Rattle.preconditions.specs.call_translation.Actuals.{actual_of}
use Rattle.in_out_regions.specs.region_sets.declared.region.Region.{Region}
use Rattle.in_out_regions.specs.call_equations.declared.link.Link.{Link}
use Rattle.in_out_regions.specs.call_equations.Sides.{SidesTree}
use Rattle.in_out_regions.specs.call_equations.Rows.{constant_form}
use Rattle.in_out_regions.specs.call_equations.Forms.{offset, equation}
use Rattle.in_out_regions.specs.call_equations.Positions.{size_of, aligned_rows, whole_position, element_position, dummy_position, block_position}
use Rattle.in_out_regions.specs.call_equations.Links as outward
use Rattle.in_out_regions.specs.call_equations.Links.{by_position, actual_bounds, whole_by_position, aligned_or, bounds_unless_lines, variable_link, subscripts_link, is_constant, variable_at, element_at, variable_of, element_of, expr_link, actual_link, by_unit, like_or_block, place_link, symbol_link, link_of}
use Rattle.in_out_regions.specs.region_translation.declared.links.CalleeLink.{CalleeLink}
use Rattle.in_out_regions.specs.region_translation.declared.units.Units.{Units}
use Rattle.in_out_regions.specs.region_translation.Names.{turned_name, turned_names, turned_normal, turned_rows}
use Rattle.in_out_regions.specs.region_translation.Units.{subscript, element_place, unit_place, units_of, meet, are_covered}
use Rattle.in_out_regions.specs.region_translation.Values.{is_scalar_dummy}
use Rattle.in_out_regions.specs.region_translation.CalleePieces.{piece_in_callee}
use Rattle.in_out_regions.specs.region_translation.Links.{link, same_link, by_row, if_actual, dummy_link, dummy_links, is_like, common_link, in_block, common_links, all_units, block_rest, block_links, subscripts_of, own_common, own_links, saved_as, saved_variable, callee_links}
use Rattle.in_out_regions.specs.region_translation.Callee.{by_link, to_callee}
use Rattle.laws_lines.specs.Variables.{EachVar}
use Rattle.laws_lines.proofs.RowVars.{Given}
use Rattle.laws_lines.proofs.SystemVars.{IsNeat, AreGiven, all-append, renamed_given}
use Rattle.laws_lines.proofs.FormVars.{FormOf, var_of}
use Rattle.system_text.specs.Printed.{IsNumber}
use Rattle.laws_lines.specs.Regions.Names.{PlaceNamed, SymbolNamed}
use Rattle.laws_lines.specs.Regions.Places.{IsPlaceOf}
use Rattle.laws_lines.proofs.Regions.PutVars.{NormalGiven, normal_given}
use Rattle.laws_lines.proofs.Regions.RegionVars.{few_map, IsFine, AreFine, united_fine}
use Rattle.laws_lines.proofs.Regions.AccessVars.{IsNamedBy, named_number, FewBounds}
use Rattle.laws_lines.proofs.Regions.CalleeVars.{IsLinkedOf}
use Rattle.laws_lines.proofs.Regions.LinkVars.{limited_of, sum_form, offset_form, before_form, MaybeRow, equation_given, MaybeNamed, MaybeLink, link_ok}
use Rattle.laws_lines.proofs.Regions.CallRegions.{numbered_named}
use Rattle.laws_lines.proofs.Outs.CalleePieces.{IsJoined, linked_joined, every_scope, piece_neat}
use Rattle.fx_lists.proofs.Lists.{each_append as both_all}
use Rattle.f77_ast.specs.Variables.{same_variable}
use Rattle.fx_lists.proofs.Every.{Anything, Every}

-- ---- equations the other way round

turned_joined : (r q : ℕ) → r ≤ 7 → (v : Var) → IsLinkedOf Anything v → IsJoined (turned_name r q v)
turned_joined r q short (Cell n) h = tt
turned_joined r q short (Exit n) h = absurd h
turned_joined r q short (Phi n) h = tt
turned_joined r q short (Aux n) h = go (nat_le n r) refl
  where
    go : (b : Bool) → nat_le n r ≡ b → IsJoined (if b then Phi n else Cell ((n - r) - 1))
    go true e = let l : n ≤ r = grind (arith, nat_tests) in (h, omega (arith, l, short))
    go false e = tt

names_joined : (r q : ℕ) → r ≤ 7 → (ts : List Term) → EachVar (IsLinkedOf Anything) ts → (v : Var) → IsLinkedOf Anything v → IsJoined (renamed_by (turned_names r q ts) v)
names_joined r q short [] h v i = linked_joined v i
names_joined r q short (t ∷ ts) h v i = go (var_eq v t.var) (names_joined r q short ts h.1 v i)
  where
    go : (b : Bool) → IsJoined (renamed_by (turned_names r q ts) v) → IsJoined (if b then turned_name r q t.var else renamed_by (turned_names r q ts) v)
    go true ih = turned_joined r q short t.var h.0
    go false ih = ih

normal_turned : (r q : ℕ) → r ≤ 7 → (n : Normal) → NormalGiven (IsLinkedOf Anything) n → AreGiven IsJoined (turned_normal r q n)
normal_turned r q short (Kept e) h = renamed_given (IsLinkedOf Anything) IsJoined (renamed_by (turned_names r q e.terms)) (names_joined r q short e.terms h.1) (e ∷ []) (h.1, tt)
normal_turned r q short Always h = tt
normal_turned r q short Never h = ((tt, tt), tt)
normal_turned r q short TooBig h = tt

rows_turned : (r q : ℕ) → r ≤ 7 → (es : List Row) → AreGiven (IsLinkedOf Anything) es → AreGiven IsJoined (turned_rows r q es)
rows_turned r q short [] h = tt
rows_turned r q short (e ∷ es) h =
    all-append (Given IsJoined) (turned_normal r q (normal false e)) (turned_rows r q es) (normal_turned r q short (normal false e) (normal_given (IsLinkedOf Anything) e h.0)) (rows_turned r q short es h.1)

-- ---- a link has no more subscripts than the variable of the callee

abbrev IsShort : Option Link → Type 0
IsShort None = Unit {0}
IsShort (Some l) = l.rank ≤ 7

module _ (c : SidesTree) where
  position_short : (n r : ℕ) (o : Option Row) (more bounds : List Row) → r ≤ 7 → (by_position n r o more bounds).rank ≤ 7
  position_short n r None more bounds h = h
  position_short n r (Some row) more bounds h = h

  aligned_short : (n r : ℕ) (o : Option (List Row)) (l : Link) → r ≤ 7 → l.rank ≤ 7 → (aligned_or n r o l).rank ≤ 7
  aligned_short n r None l h k = k
  aligned_short n r (Some rs) l h k = h

  variable_short : (n : ℕ) (bs ds : List BoundTree) → length ds ≤ 7 → (variable_link c n bs ds).rank ≤ 7
  variable_short n bs [] h = omega arith
  variable_short n bs (d ∷ ds) h =
      let r = length (d ∷ ds) in
      aligned_short n r (aligned_rows c r 1 bs (d ∷ ds)) (whole_by_position c n bs (d ∷ ds)) h
      (position_short n r (equation (whole_position c 1 bs) (dummy_position c r 1 (d ∷ ds))) (actual_bounds c bs) (actual_bounds c bs) h)

  subscripts_short : (n : ℕ) (es : ExprTrees) (bs ds : List BoundTree) → length ds ≤ 7 → (subscripts_link c n es bs ds).rank ≤ 7
  subscripts_short n es bs [] h = omega arith
  subscripts_short n es bs (d ∷ ds) h =
      let r = length (d ∷ ds) in
      position_short n r (equation (element_position c 1 es bs) (dummy_position c r 1 (d ∷ ds))) (bounds_unless_lines (actual_bounds c bs) bs (d ∷ ds)) (actual_bounds c bs) h

  module _ (ds : List BoundTree) (h : length ds ≤ 7) where
    variable_at_short : (n : ℕ) (o : Option SymbolTree) → IsShort (variable_at c ds n o)
    variable_at_short n None = tt
    variable_at_short n (Some t) = if_cases IsShort (is_constant t.place) None (Some (variable_link c n t.bounds ds)) (λ e. tt) (λ e. variable_short n t.bounds ds h)

    element_at_short : (es : ExprTrees) (n : ℕ) (o : Option SymbolTree) → IsShort (element_at c ds es n o)
    element_at_short es n None = tt
    element_at_short es n (Some t) = if_cases IsShort (has_bounds t.bounds) (Some (subscripts_link c n es t.bounds ds)) None (λ e. subscripts_short n es t.bounds ds h) (λ e. tt)

    variable_of_short : (o : Option ℕ) → IsShort (variable_of c ds o)
    variable_of_short None = tt
    variable_of_short (Some n) = variable_at_short n (symbol_at c.caller.symbols n)

    element_of_short : (es : ExprTrees) (o : Option ℕ) → IsShort (element_of c ds es o)
    element_of_short es None = tt
    element_of_short es (Some n) = element_at_short es n (symbol_at c.caller.symbols n)

    expr_short : (e : ExprTree) → IsShort (expr_link c ds e)
    expr_short (tree.int n) = tt
    expr_short (tree.log b) = tt
    expr_short (tree.name x) = variable_of_short (number_from 1 c.caller.names x)
    expr_short (tree.element x es) = element_of_short es (number_from 1 c.caller.names x)
    expr_short (tree.paren e) = tt
    expr_short (tree.unary o e) = tt
    expr_short (tree.binary o e f) = tt
    expr_short (tree.chars x) = tt

    actual_short : (o : Option ExprTree) → IsShort (actual_link c ds o)
    actual_short None = tt
    actual_short (Some e) = expr_short e

    unit_short : (b : List ℕ) (o : Option Row) → (by_unit b (length ds) o).rank ≤ 7
    unit_short b None = h
    unit_short b (Some row) = h

    like_short : (b : List ℕ) (o : ℕ) (q : Option ℕ) → (like_or_block c b o ds q).rank ≤ 7
    like_short b o None = unit_short b (equation (block_position o) (dummy_position c (length ds) 1 ds))
    like_short b o (Some n) = omega arith

  place_short : (s : SymbolTree) (p : Place) → length s.bounds ≤ 7 → IsShort (place_link c s p)
  place_short s (Local g o) h = if_cases IsShort s.saved (Some (outward.same_elements (Saved c.name s.name))) None (λ e. omega arith) (λ e. tt)
  place_short s (Dummy d) h = actual_short s.bounds h (actual_of c.actuals d)
  place_short s (Block b o) h = like_short s.bounds h b o (first_like 1 c.caller.symbols b o c.callee.symbols s c.caller.symbols)
  place_short s (Value v) h = tt

  symbol_short : (o : Option SymbolTree) → ((s : SymbolTree) → o ≡ Some s → length s.bounds ≤ 7) → IsShort (symbol_link c o)
  symbol_short None h = tt
  symbol_short (Some s) h = place_short s s.place (h s refl)

-- ---- units of blocks

constant_formed : (w : ConstantValue) → FormOf IsJoined (constant_form w)
constant_formed (Is (Int n)) = (tt, tt)
constant_formed (Is (Log b)) = tt
constant_formed Faults = tt
constant_formed Varies = tt

subscript_joined : (of_caller : Bool) (k : ℕ) → 0 < k → k ≤ 7 → IsJoined (subscript of_caller k)
subscript_joined true k l h = tt
subscript_joined false k l h = (l, h)

element_formed : (value : List ℕ → Option Constant) (of_caller : Bool) (k : ℕ) (bs : List BoundTree) → 0 < k → k + length bs ≤ 8 → FormOf IsJoined (element_place value of_caller k bs)
element_formed value of_caller k [] l h = (tt, tt)
element_formed value of_caller k (b ∷ bs) l h =
    let low = constant_form (const_value value b.low) in
    before_form IsJoined (offset (subscript of_caller k) low) (size_of value b) bs (element_place value of_caller (suc k) bs)
    (offset_form IsJoined (subscript of_caller k) low (subscript_joined of_caller k l (omega (arith, h))) (constant_formed (const_value value b.low))) (element_formed value of_caller (suc k) bs (omega arith) (omega (arith, h)))

unit_formed : (value : List ℕ → Option Constant) (of_caller : Bool) (o : ℕ) (bs : List BoundTree) → length bs ≤ 7 → FormOf IsJoined (unit_place value of_caller o bs)
unit_formed value of_caller o bs h =
    sum_form IsJoined (limited (affine [] (pos (suc o)))) (pos 1) (element_place value of_caller 1 bs) (limited_of IsJoined (affine [] (pos (suc o))) (tt, tt))
    (element_formed value of_caller 1 bs (omega arith) (omega (arith, h)))

-- ---- links

-- a module whose symbols and blocks have such names, and whose arrays have at most seven dimensions
abbrev pub HasSeven : SymbolTree → Type 0
HasSeven s = length s.bounds ≤ 7

module _ (Name : List ℕ → Type 0) (c : SidesTree) (few : FewBounds c.caller.symbols) (long : length c.caller.symbols ≡ length c.caller.names) (table : AllByRecursion (SymbolNamed Name) c.caller.symbols)
    (title : Name c.name) (inner : AllByRecursion (SymbolNamed Name) c.callee.symbols) (seven : Every HasSeven c.callee.symbols) (fewer : FewBounds c.callee.symbols) (size : length c.callee.symbols ≡ length c.callee.names) where
  abbrev N : Variable → Type 0
  N = IsNamedBy Name c.callee.names

  record IsLinked (l : CalleeLink) : Type 0 where
    named : N l.variable
    rows : AreGiven IsJoined l.rows

  abbrev AreLinked : List CalleeLink → Type 0
  AreLinked ls = AllByRecursion IsLinked ls

  row_linked : (v : Variable) (o : Option Row) → N v → MaybeRow IsJoined o → IsLinked (by_row v o)
  row_linked v None n h = record { named = n; rows = tt }
  row_linked v (Some r) n h = record { named = n; rows = (h, tt) }

  -- dummies

  actual_linked : (v : Variable) (q n : ℕ) → IsNumber c.callee.names n → (o : Option Link) → MaybeLink Name Anything c (every_scope c.caller) few long o → IsShort o → AreLinked (if_actual v q n o)
  actual_linked v q n i None h k = tt
  actual_linked v q n i (Some l) h k =
      if_cases AreLinked (same_variable v l.variable) (link (Own n) true (turned_rows l.rank q l.rows) ∷ []) [] (λ e. (record { named = i; rows = rows_turned l.rank q k l.rows h.rows }, tt)) (λ e. tt)

  dummy_linked : (v : Variable) (q n : ℕ) → IsNumber c.callee.names n → (p : Place) → AreLinked (dummy_link c v q n p)
  dummy_linked v q n i (Local g o) = tt
  dummy_linked v q n i (Dummy d) =
      actual_linked v q n i (link_of c (Own n)) (link_ok Name Anything c (every_scope c.caller) few long title (numbered_named Name c.callee.symbols inner) c.callee.names (Own n) i)
      (symbol_short c (symbol_at c.callee.symbols n) (λ s e. fewer n s e))
  dummy_linked v q n i (Block b o) = tt
  dummy_linked v q n i (Value k) = tt

  dummies_linked : (v : Variable) (q n : ℕ) (ss : List SymbolTree) → n + length ss ≤ length c.callee.names → AreLinked (dummy_links c v q n ss)
  dummies_linked v q n [] h = tt
  dummies_linked v q n (s ∷ ss) h =
      both_all IsLinked (dummy_link c v q (suc n) s.place) (dummy_links c v q (suc n) ss) (dummy_linked v q (suc n) (omega arith, omega (arith, h)) s.place) (dummies_linked v q (suc n) ss (omega (arith, h)))

  -- blocks

  common_linked : (v : Variable) (f : Option Affine) (n : ℕ) (b : List ℕ) (o : ℕ) (s : SymbolTree) → FormOf IsJoined f → IsNumber c.callee.names n → HasSeven s → IsLinked (common_link c v f n b o s)
  common_linked v f n b o s g i h =
      let unit = unit_place c.callee.scalars.value false o s.bounds in
      if_cases IsLinked (is_like c v b o s) (same_link (Own n)) (by_row (Own n) (equation f unit)) (λ e. record { named = i; rows = tt })
      (λ e. row_linked (Own n) (equation f unit) i (equation_given IsJoined f unit g (unit_formed c.callee.scalars.value false o s.bounds h)))

  block_linked : (v : Variable) (b : List ℕ) (u : Units) (f : Option Affine) (n : ℕ) (s : SymbolTree) (p : Place) → FormOf IsJoined f → IsNumber c.callee.names n → HasSeven s → AreLinked (in_block c v b u f n s p)
  block_linked v b u f n s (Local g o) w i h = tt
  block_linked v b u f n s (Dummy d) w i h = tt
  block_linked v b u f n s (Block x o) w i h =
      if_cases AreLinked (bytes_eq x b && meet (units_of c.callee.symbols o s) u) (common_link c v f n b o s ∷ []) [] (λ e. (common_linked v f n b o s w i h, tt)) (λ e. tt)
  block_linked v b u f n s (Value k) w i h = tt

  commons_linked : (v : Variable) (b : List ℕ) (u : Units) (f : Option Affine) (n : ℕ) (ss : List SymbolTree) → FormOf IsJoined f → n + length ss ≤ length c.callee.names → Every HasSeven ss → AreLinked (common_links c v b u f n ss)
  commons_linked v b u f n [] w h k = tt
  commons_linked v b u f n (s ∷ ss) w h k =
      both_all IsLinked (in_block c v b u f (suc n) s s.place) (common_links c v b u f (suc n) ss) (block_linked v b u f (suc n) s s.place w (omega arith, omega (arith, h)) k.0)
      (commons_linked v b u f (suc n) ss w (omega (arith, h)) k.1)

  all_names : 0 + length c.callee.symbols ≤ length c.callee.names
  all_names = let same = size in omega (arith, same)

  blocks_linked : (v : Variable) (b : List ℕ) (u : Units) (f : Option Affine) (whole : CalleeLink) → FormOf IsJoined f → IsLinked whole → AreLinked (block_links c v b u f whole)
  blocks_linked v b u f whole w h =
      both_all IsLinked (common_links c v b u f 0 c.callee.symbols) (block_rest c b u whole) (commons_linked v b u f 0 c.callee.symbols w all_names seven)
      (if_cases AreLinked (are_covered u (all_units c.callee.symbols b c.callee.symbols)) [] (whole ∷ []) (λ e. tt) (λ e. (h, tt)))

  -- all variables

  common_place : (v : Variable) (s : SymbolTree) (p : Place) → HasSeven s → PlaceNamed Name p → AreLinked (own_common c v s p)
  common_place v s (Local g o) h n = tt
  common_place v s (Dummy d) h n = tt
  common_place v s (Block b o) h n =
      let f = unit_place c.caller.scalars.value true o s.bounds in
      let w = unit_formed c.caller.scalars.value true o s.bounds h in
      blocks_linked v b (units_of c.caller.symbols o s) f (by_row (Whole b) (equation (Some (var_form (Phi 1))) f)) w
      (row_linked (Whole b) (equation (Some (var_form (Phi 1))) f) n (equation_given IsJoined (Some (var_form (Phi 1))) f (var_of IsJoined (Phi 1) (omega arith, omega arith)) w))
  common_place v s (Value k) h n = tt

  own_linked : (m : ℕ) (o : Option SymbolTree) → ((s : SymbolTree) → o ≡ Some s → HasSeven s) → MaybeNamed Name o → AreLinked (own_links c m o)
  own_linked m None h n = tt
  own_linked m (Some s) h n =
      both_all IsLinked (dummy_links c (Own m) (length s.bounds) 0 c.callee.symbols) (own_common c (Own m) s s.place) (dummies_linked (Own m) (length s.bounds) 0 c.callee.symbols all_names)
      (common_place (Own m) s s.place (h s refl) n.1)

  saved_named : (x y : List ℕ) → Name x → Name y → N (saved_variable c x y)
  saved_named x y n k = if_cases N (bytes_eq x c.name) (saved_as x y (number_from 1 c.callee.names y)) (Saved x y) (λ e. go (number_from 1 c.callee.names y) refl) (λ e. (n, k))
    where
      go : (o : Option ℕ) → number_from 1 c.callee.names y ≡ o → N (saved_as x y o)
      go None e = (n, k)
      go (Some i) e = named_number c.callee.names y i e

  links_fine : (units : List ℕ → ℕ) (v : Variable) → IsNamedBy Name c.caller.names v → AreLinked (callee_links units c v)
  links_fine units (Own m) h = own_linked m (symbol_at c.caller.symbols m) (λ s e. few m s e) (numbered_named Name c.caller.symbols table m)
  links_fine units (Whole b) h =
      blocks_linked (Whole b) b (record { first = 0; count = units b }) (Some (var_form (Aux 1))) (same_link (Whole b)) (var_of IsJoined (Aux 1) tt) (record { named = h; rows = tt })
  links_fine units (Saved x y) h = (record { named = saved_named x y h.0 h.1; rows = tt }, tt)

  -- ---- a region

  module _ (ok : ℕ → Type 0) (dummies : (n : ℕ) → is_scalar_dummy (symbol_at c.callee.symbols n) ≡ true → ok n) where
    each_fine : (r : Region) → IsFine (IsNamedBy Name c.caller.names) Anything r → (ls : List CalleeLink) → AreLinked ls → AreFine N ok (map (by_link c r) ls)
    each_fine r h [] k = tt
    each_fine r h (l ∷ ls) k =
        let q = subscripts_of c r.variable in
        ((k.0.named, few_map (IsNeat (IsPlaceOf Anything)) (IsNeat (IsPlaceOf ok)) (piece_in_callee c l.moved q l.rows) (piece_neat Name c few long ok dummies l.moved q l.rows k.0.rows) r.pieces h.1), each_fine r h ls k.1)

    pub in_callee_fine : (units : List ℕ → ℕ) (r : Region) → IsFine (IsNamedBy Name c.caller.names) Anything r → AreFine N ok (to_callee units c r)
    in_callee_fine units r h = united_fine N ok (map (by_link c r) (callee_links units c r.variable)) (each_fine r h (callee_links units c r.variable) (links_fine units r.variable h.0))
