-- What the names of a module stand for, by its table, as its regions take them.
use Rattle.std.proofs.Common.{◌≡◌, ℕ, zero, suc, ◌+◌, Bool, true, false, not, ◌&&◌, List, [], ◌∷◌, map, Option, Some, None, refl, sym, ap, ◌∙◌, subst, arith, true≢false}
use Rattle.std.specs.Prelude.{if◌then◌else◌, bytes_eq, slice_get, is_some}
use Rattle.std.proofs.lemmas.Slice.Eq.{bytes_eq-Decides}
use Rattle.f77_ast.specs.Store.{Content}
use Rattle.f77_ast.specs.Trees.{ExprTree, ExprTrees}
use Rattle.f77_ast.specs.Numbers.{intrinsic_named}
use Rattle.f77_ast.specs.Places.{Constant, Variable, Function}
use Rattle.f77_ast.specs.declared.constant.Constant.TheVariants as constant
use Rattle.f77_ast.specs.declared.constant.ConstantValue.TheVariants.{Is}
use Rattle.f77_ast.specs.Constants.{const_value}
use Rattle.f77_ast.specs.declared.symbol.Place.{Place}
use Rattle.f77_ast.specs.declared.symbol.Place.TheVariants as place
use Rattle.f77_ast.specs.Symbols.{BoundTree, SymbolTree, number_from, value_in}
use Rattle.f77_ast.specs.Shared.{symbol_at}
use Rattle.tracked_cells.specs.Standing.{has_bounds}
use Rattle.f77_meaning.specs.Areas.{Numbering}
use Rattle.f77_meaning.specs.Modules.{Known, is_function, meant_by, meant_at, meant_in, symbol_names, names, as_number, constant_high, dim_of, fixed_place, fixed_maybe, fixed}
use Rattle.preconditions.specs.call_translation.Scopes.{ScopeTree}
use Rattle.in_out_regions.specs.region_sets.declared.region.Access.{Access}
use Rattle.in_out_regions.specs.region_sets.declared.region.Region.{Region}
use Rattle.in_out_regions.specs.array_regions.References.{is_constant, scalar, array_at, whole_of, whole, element_of, element}
use Rattle.laws_programs.specs.SymbolTables.Shapes.{symbol_named}
use Rattle.laws_analyses.specs.Statements.Laws.{scope_of, is_scalar_symbol, scalar_at, is_scalar}
use Rattle.laws_analyses.specs.Regions.Settings.{DimsFit}
use Rattle.f77_ast.proofs.StorageLaws.{to_number as next_symbol}
use Rattle.fx_lists.proofs.Booleans.{not_first}

-- ---- the first symbol with a name, or none

pub data Found (n : ℕ) (ss : List SymbolTree) (x : List ℕ) : Type 0 where
  missing : number_from n (symbol_names ss) x ≡ None → Found n ss x
  at_place : (i k : ℕ) (s : SymbolTree) → k ≡ n + i → number_from n (symbol_names ss) x ≡ Some k → slice_get ss i ≡ Some s → symbol_named ss x ≡ Some s → x ≡ s.name → Found n ss x

pub found : (n : ℕ) (ss : List SymbolTree) (x : List ℕ) → Found n ss x
found n [] x = missing refl
found n (s ∷ ss) x = go (bytes_eq x s.name) refl (found (suc n) ss x)
  where
    go : (b : Bool) → bytes_eq x s.name ≡ b → Found (suc n) ss x → Found n (s ∷ ss) x
    go true q r = at_place zero n s (omega arith) (ap (λ b. if b then Some n else number_from (suc n) (symbol_names ss) x) q) refl (ap (λ b. if b then Some s else symbol_named ss x) q) ((bytes_eq-Decides x s.name).0 q)
    go false q (missing r) = missing (ap (λ b. if b then Some n else number_from (suc n) (symbol_names ss) x) q ∙ r)
    go false q (at_place i k t same r e d m) =
        at_place (suc i) k t (omega (arith, same)) (ap (λ b. if b then Some n else number_from (suc n) (symbol_names ss) x) q ∙ r) e (ap (λ b. if b then Some s else symbol_named ss x) q ∙ d) m

-- a name has no symbol, or is that of a function, of a constant, or of a variable
pub data Stands (ss : List SymbolTree) (x : List ℕ) : Type 0 where
  no_symbol : number_from 1 (symbol_names ss) x ≡ None → Stands ss x
  as_function : (n : ℕ) (s : SymbolTree) → number_from 1 (symbol_names ss) x ≡ Some n → symbol_at ss n ≡ Some s → has_bounds s.bounds ≡ false → names ss x ≡ Function → Stands ss x
  as_constant : (n : ℕ) (s : SymbolTree) (c : Content) → number_from 1 (symbol_names ss) x ≡ Some n → symbol_at ss n ≡ Some s → is_constant s.place ≡ true → names ss x ≡ Constant c → Stands ss x
  as_variable : (n : ℕ) (s : SymbolTree) → number_from 1 (symbol_names ss) x ≡ Some n → symbol_at ss n ≡ Some s → is_constant s.place ≡ false → (is_some (intrinsic_named x) ≡ true → has_bounds s.bounds ≡ true) → names ss x ≡ Variable n → Stands ss x

an_array : (b i : Bool) → (not b && i) ≡ false → i ≡ true → b ≡ true
an_array true i h e = refl
an_array false i h e = absurd (true≢false (sym e ∙ h))

pub stands : (ss : List SymbolTree) (x : List ℕ) → Stands ss x
stands ss x = go (found 1 ss x)
  where
    go : Found 1 ss x → Stands ss x
    go (missing q) = no_symbol q
    go (at_place i k s same q e d m) = by_function (is_function s) refl
      where
        number : k ≡ suc i
        number = omega (arith, same)

        symbol : symbol_at ss k ≡ Some s
        symbol = ap (symbol_at ss) number ∙ next_symbol ss i s e

        means : names ss x ≡ meant_at k (Some s)
        means = ap (meant_in ss) q ∙ ap (meant_at k) symbol

        by_place : (p : Place) → s.place ≡ p → (is_some (intrinsic_named x) ≡ true → has_bounds s.bounds ≡ true) → names ss x ≡ meant_by s.scalar k p → Stands ss x
        by_place (place.Local g o) r f w = as_variable k s q symbol (ap is_constant r) f w
        by_place (place.Dummy n) r f w = as_variable k s q symbol (ap is_constant r) f w
        by_place (place.Block b o) r f w = as_variable k s q symbol (ap is_constant r) f w
        by_place (place.Constant v) r f w = as_constant k s _ q symbol (ap is_constant r) w

        by_function : (b : Bool) → is_function s ≡ b → Stands ss x
        by_function true r = as_function k s q symbol (not_first (has_bounds s.bounds) (is_some (intrinsic_named s.name)) r) (means ∙ ap (λ b. if b then Function else meant_by s.scalar k s.place) r)
        by_function false r =
            by_place s.place refl (λ f. an_array (has_bounds s.bounds) (is_some (intrinsic_named s.name)) r (ap (λ y. is_some (intrinsic_named y)) (sym m) ∙ f))
            (means ∙ ap (λ b. if b then Function else meant_by s.scalar k s.place) r)

-- ---- what regions say of names

module _ (ss : List SymbolTree) (flags : List Bool) where
  abbrev m : ScopeTree
  m = scope_of ss flags

  pub constants_none : (x : List ℕ) (c : Content) → names ss x ≡ Constant c → (a : Access) → whole (scope_of ss flags) a x ≡ []
  constants_none x c e a = go (stands ss x)
    where
      go : Stands ss x → whole (scope_of ss flags) a x ≡ []
      go (no_symbol q) = ap (whole_of (scope_of ss flags) a) q
      go (as_function n s q r f w) = let z : Function ≡ Constant c = sym w ∙ e in cc
      go (as_constant n s d q r f w) = ap (whole_of (scope_of ss flags) a) q ∙ (ap (λ o. by_symbol n o) r ∙ ap (λ b. if b then [] else scalar a n ∷ []) f)
        where
          by_symbol : ℕ → Option SymbolTree → List Region
          by_symbol n None = []
          by_symbol n (Some t) = if is_constant t.place then [] else scalar a n ∷ []
      go (as_variable n s q r f i w) = let z : Variable n ≡ Constant c = sym w ∙ e in cc

  pub functions_none : (x : List ℕ) → names ss x ≡ Function → (a : Access) (es : ExprTrees) → element (scope_of ss flags) a x es ≡ []
  functions_none x e a es = go (stands ss x)
    where
      by_symbol : ℕ → Option SymbolTree → List Region
      by_symbol n None = []
      by_symbol n (Some t) = if has_bounds t.bounds then array_at (scope_of ss flags) a n es t.bounds ∷ [] else []

      go : Stands ss x → element (scope_of ss flags) a x es ≡ []
      go (no_symbol q) = ap (element_of (scope_of ss flags) a es) q
      go (as_function n s q r f w) = ap (element_of (scope_of ss flags) a es) q ∙ (ap (by_symbol n) r ∙ ap (λ b. if b then array_at (scope_of ss flags) a n es s.bounds ∷ [] else []) f)
      go (as_constant n s d q r f w) = let z : Constant d ≡ Function = sym w ∙ e in cc
      go (as_variable n s q r f i w) = let z : Variable n ≡ Function = sym w ∙ e in cc

-- the symbol of a variable
pub record Variable_of (ss : List SymbolTree) (x : List ℕ) (v : ℕ) : Type 0 where
  pub symbol : SymbolTree
  pub is_symbol : symbol_at ss v ≡ Some symbol
  pub stored : is_constant symbol.place ≡ false
  pub shape : is_scalar ss x ≡ not (has_bounds symbol.bounds)
  pub no_function : is_some (intrinsic_named x) ≡ true → has_bounds symbol.bounds ≡ true

pub variable_of : (ss : List SymbolTree) (x : List ℕ) (v : ℕ) → names ss x ≡ Variable v → Variable_of ss x v
variable_of ss x v e = go (stands ss x)
  where
    go : Stands ss x → Variable_of ss x v
    go (no_symbol q) = let z : Function ≡ Variable v = sym (ap (meant_in ss) q) ∙ e in cc
    go (as_function n s q r f w) = let z : Function ≡ Variable v = sym w ∙ e in cc
    go (as_constant n s d q r f w) = let z : Constant d ≡ Variable v = sym w ∙ e in cc
    go (as_variable n s q r f i w) =
        let z : Variable n ≡ Variable v = sym w ∙ e in
        let same : n ≡ v = cc in
        record { symbol = s; is_symbol = ap (symbol_at ss) (sym same) ∙ r; stored = f; shape = ap (scalar_at ss) q ∙ ap is_scalar_symbol r; no_function = i }

-- ---- dimensions

high_fits : (ss : List SymbolTree) (o : Option ExprTree) (e : ExprTree) (n : _) → o ≡ Some e → const_value (value_in ss) e ≡ Is (constant.Int n) → constant_high ss o ≡ Some n
high_fits ss None e n q h = cc
high_fits ss (Some f) e n q h = let same : f ≡ e = cc in ap (λ y. Some (as_number (const_value (value_in ss) y))) same ∙ ap (λ w. Some (as_number w)) h

dims_of : (ss : List SymbolTree) (bs : List BoundTree) → DimsFit (value_in ss) bs (map (dim_of ss) bs)
dims_of ss [] = tt
dims_of ss (b ∷ bs) = (record { low = λ n h. ap as_number h; high = λ e n q h. high_fits ss b.high e n q h }, dims_of ss bs)

-- a variable that is no dummy has the dimensions of its bounds
pub fixed_dims : (g : Numbering) (k : Known) (v : ℕ) (s : SymbolTree) → symbol_at k.symbols v ≡ Some s → is_constant s.place ≡ false → ((n : ℕ) → s.place ≡ place.Dummy n → ⊥) → DimsFit (value_in k.symbols) s.bounds (fixed g k v).dims
fixed_dims g k v s e c none =
    subst (λ (p : _). DimsFit (value_in k.symbols) s.bounds p.dims) (sym (ap (fixed_maybe g k.read.name k.symbols) e)) (go s.place refl)
  where
    go : (p : Place) → s.place ≡ p → DimsFit (value_in k.symbols) s.bounds (fixed_place g k.read.name k.symbols s p).dims
    go (place.Local n o) q = dims_of k.symbols s.bounds
    go (place.Dummy n) q = absurd (none n q)
    go (place.Block b o) q = dims_of k.symbols s.bounds
    go (place.Constant w) q = absurd (true≢false (sym (ap is_constant q) ∙ c))
