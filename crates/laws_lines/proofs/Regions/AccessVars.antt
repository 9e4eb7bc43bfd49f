-- The variables of the regions of names, elements, expressions and simple statements.
use Rattle.std.proofs.Common.{◌≡◌, ℕ, suc, ◌+◌, ◌<◌, ◌≤◌, true, false, List, [], ◌∷◌, ◌++◌, length, Option, Some, None, pos, arith, refl}
use Rattle.std.specs.Prelude.{◌-ℤ◌}
use Rattle.affine_systems.specs.declared.row.Var.{Var}
use Rattle.affine_systems.specs.declared.row.Var.TheVariants.{Cell, Exit, Phi, Aux}
use Rattle.affine_systems.specs.Calls.{meet}
use Rattle.affine_systems.proofs.Basics.{if_cases}
use Rattle.f77_ast.specs.Trees.{ExprTree, ExprTrees, ArmTree, ArmTrees}
use Rattle.f77_ast.specs.Trees as tree
use Rattle.f77_ast.specs.declared.constant.Constant.{Constant}
use Rattle.f77_ast.specs.declared.constant.Constant.TheVariants.{Int, Log}
use Rattle.f77_ast.specs.declared.constant.ConstantValue.{ConstantValue}
use Rattle.f77_ast.specs.declared.constant.ConstantValue.TheVariants.{Is, Faults, Varies}
use Rattle.f77_ast.specs.Constants.{const_value}
use Rattle.f77_ast.specs.declared.variable.Variable.{Variable}
use Rattle.f77_ast.specs.declared.variable.Variable.TheVariants.{Own, Block, Saved}
use Rattle.f77_ast.specs.Symbols.{BoundTree, SymbolTree, number_from}
use Rattle.f77_ast.specs.Shared.{symbol_at}
use Rattle.tracked_cells.specs.Standing.{has_bounds}
use Rattle.affine_forms.specs.declared.affine.Affine.{Affine}
use Rattle.affine_forms.specs.Forms.{affine_of}
use Rattle.affine_forms.specs.Comparisons.{var_form}
use Rattle.affine_forms.specs.Conditions.{no_rows, condition_of}
use Rattle.preconditions.specs.transformer_algebra.Renaming.{of_rows}
use Rattle.preconditions.specs.call_translation.Scopes.{ScopeTree}
use Rattle.preconditions.specs.call_translation.Actuals.{named_cell, one_cell}
use Rattle.in_out_regions.specs.region_sets.declared.region.Access.{Access}
use Rattle.in_out_regions.specs.region_sets.declared.region.Access.TheVariants.{Read, Write}
use Rattle.in_out_regions.specs.region_sets.declared.region.Region.{Region}
use Rattle.in_out_regions.specs.region_sets.Compose.{compose}
use Rattle.in_out_regions.specs.region_sets.Lists.{all_composed}
use Rattle.in_out_regions.specs.array_regions.declared.arms.Reached.{Reached}
use Rattle.in_out_regions.specs.array_regions.Rows.{constant_form, low_rows, high_rows, high_form, dimension_rows, subscript_rows}
use Rattle.in_out_regions.specs.array_regions.References.{is_constant, scalar, scalar_at, array_at, element_at, whole_of, whole, element_of, element, named}
use Rattle.in_out_regions.specs.array_regions.Reads.{reads, all_reads, inner_reads, maybe_reads}
use Rattle.in_out_regions.specs.array_regions.Simple.{assignment, printing, item_does, reading}
use Rattle.in_out_regions.specs.array_regions.Arms.{always, if_true, if_false, into_arm, past_arm, past_arms, under_tests, all_met, arm_reads, tests_reads, if_set}
use Rattle.laws_lines.specs.Variables.{EachVar, IsCellOf}
use Rattle.laws_lines.proofs.RowVars.{each_more, Given}
use Rattle.laws_lines.proofs.SystemVars.{IsNeat, AreGiven, all-append, system_more, meet_neat, of_rows_neat}
use Rattle.laws_lines.proofs.FormVars.{FormOf, affine_over, condition_over, compared_given, none_neat}
use Rattle.laws_lines.proofs.RuleVars.{IsDone, forgotten_done}
use Rattle.laws_lines.proofs.CallVars.{named_cell_ok, one_cell_ok}
use Rattle.laws_lines.proofs.StatementVars.{Scope}
use Rattle.system_text.specs.Printed.{IsNumber}
use Rattle.laws_lines.specs.Regions.Places.{IsPlaceOf}
use Rattle.laws_lines.proofs.Regions.RegionVars.{map_all, one_few, IsFine, AreFine, composed_fine, mapped_fine, united_fine}
use Rattle.fx_lists.proofs.Lists.{each_append as both_all}
use Rattle.f77_ast.proofs.NumberedNames.{number_from-between}

-- a symbol of these names, or what has a name of which something holds
abbrev pub IsNamedBy : (List ℕ → Type 0) → List (List ℕ) → Variable → Type 0
IsNamedBy Name names (Own n) = IsNumber names n
IsNamedBy Name names (Block b) = Name b
IsNamedBy Name names (Saved s x) = Name s × Name x

pub named_number : (names : List (List ℕ)) (x : List ℕ) (k : ℕ) → number_from 1 names x ≡ Some k → IsNumber names k
named_number names x k e =
    let r = number_from-between 1 names x k e in
    let least = r.0 in
    let most = r.1 in
    (omega (arith, least), omega (arith, most))

-- arrays have at most seven dimensions
abbrev pub FewBounds : List SymbolTree → Type 0
FewBounds ss = (n : ℕ) (s : SymbolTree) → symbol_at ss n ≡ Some s → length s.bounds ≤ 7

module _ (Name : List ℕ → Type 0) (ok : ℕ → Type 0) (m : ScopeTree) (a : Scope ok m) (few : FewBounds m.symbols) where
  abbrev P : Var → Type 0
  P = IsPlaceOf ok

  abbrev IsNamedOne : Variable → Type 0
  IsNamedOne = IsNamedBy Name m.names

  abbrev pub Fine : List Region → Type 0
  Fine rs = AreFine IsNamedOne ok rs

  abbrev join : (xs ys : List Region) → Fine xs → Fine ys → Fine (xs ++ ys)
  join xs ys h k = both_all (IsFine IsNamedOne ok) xs ys h k

  cell_place : (v : Var) → IsCellOf ok v → P v
  cell_place (Cell n) h = h
  cell_place (Exit n) h = h
  cell_place (Phi n) h = absurd h
  cell_place (Aux n) h = h

  -- ---- rows of subscripts

  abbrev FormAt : Option Affine → Type 0
  FormAt None = Unit {0}
  FormAt (Some f) = EachVar P f.terms

  form_at : (o : Option Affine) → FormOf (IsCellOf ok) o → FormAt o
  form_at None h = tt
  form_at (Some f) h = each_more (IsCellOf ok) P cell_place f.terms h.1

  constant_at : (w : ConstantValue) → FormAt (constant_form w)
  constant_at (Is (Int n)) = tt
  constant_at (Is (Log b)) = tt
  constant_at Faults = tt
  constant_at Varies = tt

  high_at : (value : List ℕ → Option Constant) (o : Option ExprTree) → FormAt (high_form value o)
  high_at value None = tt
  high_at value (Some e) = constant_at (const_value value e)

  low_given : (o : Option Affine) (k : ℕ) → P (Phi k) → FormAt o → AreGiven P (low_rows o k)
  low_given None k p h = tt
  low_given (Some f) k p h = (compared_given P false f (var_form (Phi k)) (pos 0 -ℤ f.constant) h (p, tt), tt)

  high_given : (o : Option Affine) (k : ℕ) → P (Phi k) → FormAt o → AreGiven P (high_rows o k)
  high_given None k p h = tt
  high_given (Some f) k p h = (compared_given P false (var_form (Phi k)) f (f.constant -ℤ pos 0) (p, tt) h, tt)

  pub dimension_given : (value : List ℕ → Option Constant) (o : Option Affine) (b : BoundTree) (k : ℕ) → P (Phi k) → FormAt o → AreGiven P (dimension_rows value o b k)
  dimension_given value (Some f) b k p h = (compared_given P true (var_form (Phi k)) f (f.constant -ℤ pos 0) (p, tt) h, tt)
  dimension_given value None b k p h =
      all-append (Given P) (low_rows (constant_form (const_value value b.low)) k) (high_rows (high_form value b.high) k)
      (low_given (constant_form (const_value value b.low)) k p (constant_at (const_value value b.low))) (high_given (high_form value b.high) k p (high_at value b.high))

  pub subscripts_given : (k : ℕ) (es : ExprTrees) (bs : List BoundTree) → 0 < k → k + length bs ≤ 8 → AreGiven P (subscript_rows m k es bs)
  subscripts_given k tree.no_exprs bs l h = tt
  subscripts_given k (tree.more_exprs e es) [] l h = tt
  subscripts_given k (tree.more_exprs e es) (b ∷ bs) l h =
      all-append (Given P) (dimension_rows m.scalars.value (affine_of m.scalars e) b k) (subscript_rows m (suc k) es bs)
      (dimension_given m.scalars.value (affine_of m.scalars e) b k (l, omega (arith, h)) (form_at (affine_of m.scalars e) (affine_over (IsCellOf ok) m.scalars a.allows.names e)))
      (subscripts_given (suc k) es bs (omega arith) (omega (arith, h)))

  -- ---- names and elements

  scalar_fine : (x : Access) (n : ℕ) → IsNumber m.names n → (s : Option SymbolTree) → Fine (scalar_at x n s)
  scalar_fine x n i None = tt
  scalar_fine x n i (Some s) = if_cases Fine (is_constant s.place) [] (scalar x n ∷ []) (λ e. tt) (λ e. ((i, one_few (IsNeat P) no_rows (none_neat P)), tt))

  element_fine : (x : Access) (n : ℕ) → IsNumber m.names n → (es : ExprTrees) (s : Option SymbolTree) → symbol_at m.symbols n ≡ s → Fine (element_at m x n es s)
  element_fine x n i es None q = tt
  element_fine x n i es (Some s) q =
      let l = few n s q in
      let rows = subscript_rows m 1 es s.bounds in
      if_cases Fine (has_bounds s.bounds) (array_at m x n es s.bounds ∷ []) [] (λ e. ((i, one_few (IsNeat P) (of_rows rows) (of_rows_neat P rows (subscripts_given 1 es s.bounds (omega arith) (omega (arith, l))))), tt)) (λ e. tt)

  whole_fine : (x : Access) (y : List ℕ) → Fine (whole m x y)
  whole_fine x y = go (number_from 1 m.names y) refl
    where
      go : (o : Option ℕ) → number_from 1 m.names y ≡ o → Fine (whole_of m x o)
      go None q = tt
      go (Some n) q = scalar_fine x n (named_number m.names y n q) (symbol_at m.symbols n)

  one_fine : (x : Access) (y : List ℕ) (es : ExprTrees) → Fine (element m x y es)
  one_fine x y es = go (number_from 1 m.names y) refl
    where
      go : (o : Option ℕ) → number_from 1 m.names y ≡ o → Fine (element_of m x es o)
      go None q = tt
      go (Some n) q = element_fine x n (named_number m.names y n q) es (symbol_at m.symbols n) refl

  pub named_fine : (e : ExprTree) (x : Access) → Fine (named e m x)
  named_fine (tree.int n) x = tt
  named_fine (tree.log b) x = tt
  named_fine (tree.name y) x = whole_fine x y
  named_fine (tree.element y es) x = one_fine x y es
  named_fine (tree.paren e) x = tt
  named_fine (tree.unary o e) x = tt
  named_fine (tree.binary o e f) x = tt
  named_fine (tree.chars y) x = tt

  -- ---- expressions

  mutual
    pub reads_fine : (e : ExprTree) → Fine (reads e m)
    reads_fine (tree.int n) = tt
    reads_fine (tree.log b) = tt
    reads_fine (tree.name x) = whole_fine Read x
    reads_fine (tree.element x es) = join (all_reads es m) (element m Read x es) (all_fine es) (one_fine Read x es)
    reads_fine (tree.paren e) = reads_fine e
    reads_fine (tree.unary o e) = reads_fine e
    reads_fine (tree.binary o e f) = join (reads e m) (reads f m) (reads_fine e) (reads_fine f)
    reads_fine (tree.chars x) = tt

    pub all_fine : (es : ExprTrees) → Fine (all_reads es m)
    all_fine tree.no_exprs = tt
    all_fine (tree.more_exprs e es) = join (reads e m) (all_reads es m) (reads_fine e) (all_fine es)

  pub inner_fine : (e : ExprTree) → Fine (inner_reads e m)
  inner_fine (tree.int n) = tt
  inner_fine (tree.log b) = tt
  inner_fine (tree.name x) = tt
  inner_fine (tree.element x es) = all_fine es
  inner_fine (tree.paren e) = tt
  inner_fine (tree.unary o e) = tt
  inner_fine (tree.binary o e f) = tt
  inner_fine (tree.chars x) = tt

  pub maybe_fine : (o : Option ExprTree) → Fine (maybe_reads o m)
  maybe_fine None = tt
  maybe_fine (Some e) = reads_fine e

  -- ---- simple statements

  pub assignment_fine : (x y : ExprTree) → Fine (assignment m x y)
  assignment_fine x y =
      united_fine IsNamedOne ok (reads y m ++ (inner_reads x m ++ named x m Write))
      (join (reads y m) (inner_reads x m ++ named x m Write) (reads_fine y) (join (inner_reads x m) (named x m Write) (inner_fine x) (named_fine x Write)))

  pub printing_fine : (es : ExprTrees) → Fine (printing m es)
  printing_fine es = united_fine IsNamedOne ok (all_reads es m) (all_fine es)

  pub item_done : (e : ExprTree) → IsDone ok (item_does m e)
  item_done e = forgotten_done ok (one_cell (named_cell m.scalars e)) (λ c h. one_cell_ok ok (named_cell m.scalars e) (λ d k. named_cell_ok ok m a.allows e d k) c h)

  pub reading_fine : (es : ExprTrees) → Fine (reading es m)
  reading_fine tree.no_exprs = tt
  reading_fine (tree.more_exprs e es) =
      let others = all_composed (item_does m e) (reading es m) in
      united_fine IsNamedOne ok (inner_reads e m ++ (named e m Write ++ others))
      (join (inner_reads e m) (named e m Write ++ others) (inner_fine e)
      (join (named e m Write) others (named_fine e Write) (map_all (IsFine IsNamedOne ok) (λ r. compose r (item_does m e)) (composed_fine IsNamedOne ok (item_does m e) (item_done e)) (reading es m) (reading_fine es))))

  -- ---- parts of an IF

  abbrev pub ReachedOk : Reached → Type 0
  ReachedOk w = IsNeat P w.system

  yes_place : (e : ExprTree) → IsNeat P (condition_of m.scalars e).yes
  yes_place e = system_more (IsCellOf ok) P cell_place (condition_of m.scalars e).yes (condition_over (IsCellOf ok) m.scalars a.allows.names e).0

  no_place : (e : ExprTree) → IsNeat P (condition_of m.scalars e).no
  no_place e = system_more (IsCellOf ok) P cell_place (condition_of m.scalars e).no (condition_over (IsCellOf ok) m.scalars a.allows.names e).1

  pub true_ok : (e : ExprTree) (w : Reached) → ReachedOk w → ReachedOk (if_true m e w)
  true_ok e w h = meet_neat P w.system (condition_of m.scalars e).yes h (yes_place e)

  false_ok : (e : ExprTree) (w : Reached) → ReachedOk w → ReachedOk (if_false m e w)
  false_ok e w h = meet_neat P w.system (condition_of m.scalars e).no h (no_place e)

  pub into_ok : (x : ArmTree) (w : Reached) → ReachedOk w → ReachedOk (into_arm x m w)
  into_ok (tree.arm e body) w h = true_ok e w h

  pub past_ok : (x : ArmTree) (w : Reached) → ReachedOk w → ReachedOk (past_arm x m w)
  past_ok (tree.arm e body) w h = false_ok e w h

  pub all_past_ok : (xs : ArmTrees) (w : Reached) → ReachedOk w → ReachedOk (past_arms xs m w)
  all_past_ok tree.no_arms w h = h
  all_past_ok (tree.more_arms x rest) w h = all_past_ok rest (past_arm x m w) (past_ok x w h)

  pub always_ok : ReachedOk always
  always_ok = none_neat P

  pub met_fine : (w : Reached) → ReachedOk w → (rs : List Region) → Fine rs → Fine (all_met w rs)
  met_fine w h rs k =
      map_all (IsFine IsNamedOne ok) (under_tests w) (λ r i. mapped_fine IsNamedOne ok (λ q. meet q w.system) (λ s j. meet_neat P s w.system j h) false r i) rs k

  arm_reads_fine : (x : ArmTree) (w : Reached) → ReachedOk w → Fine (arm_reads x m w)
  arm_reads_fine (tree.arm e body) w h = met_fine w h (reads e m) (reads_fine e)

  pub tests_fine : (xs : ArmTrees) (w : Reached) → ReachedOk w → Fine (tests_reads xs m w)
  tests_fine tree.no_arms w h = tt
  tests_fine (tree.more_arms x rest) w h = join (arm_reads x m w) (tests_reads rest m (past_arm x m w)) (arm_reads_fine x w h) (tests_fine rest (past_arm x m w) (past_ok x w h))

  pub if_fine : (e : ExprTree) (rs : List Region) → Fine rs → Fine (if_set m e rs)
  if_fine e rs h =
      united_fine IsNamedOne ok (reads e m ++ all_met (if_true m e always) rs)
      (join (reads e m) (all_met (if_true m e always) rs) (reads_fine e) (met_fine (if_true m e always) (true_ok e always always_ok) rs h))
