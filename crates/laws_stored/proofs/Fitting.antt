-- What results are made of, and over, fits the module: as it is stored.
use Rattle.std.proofs.Common.{◌≡◌, ℕ, zero, suc, ◌-◌, ◌<◌, ◌^◌, arith, true, inl, inr, List, [], ◌∷◌, length, map, nat_eq, refl, sym, ap, ◌∙◌, subst}
use Rattle.std.specs.Prelude.{All, nat_lt, nat_le}
use Rattle.std.specs.List.{AllByRecursion, list_any}
use Rattle.std.proofs.lemmas.Bool.{and_parts, or_left, or_right, or_cases, leb-true}
use Rattle.std.proofs.lemmas.Bool.Decides.{nat_tests}
use Rattle.affine_systems.specs.declared.row.Var.{Var}
use Rattle.affine_systems.specs.declared.row.Var.TheVariants.{Cell, Exit, Phi, Aux}
use Rattle.affine_systems.specs.declared.row.Term.{Term}
use Rattle.affine_systems.specs.declared.row.Row.{Row}
use Rattle.affine_systems.specs.declared.row.System.{System}
use Rattle.affine_systems.specs.Given.{Fits}
use Rattle.affine_systems.specs.Rows.{AllRows}
use Rattle.hull_projection.specs.Minus.{AllFit}
use Rattle.f77_ast.specs.declared.variable.Unit.{Unit as BlockUnit}
use Rattle.f77_ast.specs.declared.variable.Variable.{Variable}
use Rattle.f77_ast.specs.declared.variable.Variable.TheVariants.{Own, Block, Saved}
use Rattle.f77_ast.specs.declared.results.At.{At}
use Rattle.f77_ast.specs.declared.results.Results.{Results}
use Rattle.f77_meaning.specs.Modules.{Known, symbol_names}
use Rattle.affine_forms.specs.Scalars.{is_cell}
use Rattle.preconditions.specs.transformer_algebra.declared.transformer.Transformer.{Transformer}
use Rattle.preconditions.specs.transformer_algebra.Cells.{has}
use Rattle.loop_marker.specs.module_phases.ScalarPhases.{scope_of}
use Rattle.session_texts.specs.pipsmake_rules.declared.kind.Kind.{Kind}
use Rattle.session_texts.specs.pipsmake_rules.Kinds.{same_kind}
use Rattle.in_out_regions.specs.region_sets.declared.region.Access.{Access}
use Rattle.in_out_regions.specs.region_sets.declared.region.Region.{Region}
use Rattle.in_out_regions.specs.region_sets.Live.{IsFew}
use Rattle.laws_analyses.proofs.Statements.NumberLaws.{ids}
use Rattle.laws_marks.proofs.InUnique.{Ordered}
use Rattle.laws_lines.specs.Variables.{EachVar, IsOver, IsCellOf}
use Rattle.laws_lines.specs.Halves.{IsHalfOf, IsTransformerOf}
use Rattle.laws_lines.specs.Laws.{IsTracked}
use Rattle.laws_lines.proofs.StatementVars.{AllAt}
use Rattle.laws_lines.specs.Regions.Places.{IsPlaceOf, AreFew}
use Rattle.laws_lines.specs.Regions.Laws.{AreOverPlaces, SetsAreOver}
use Rattle.laws_lines.proofs.Regions.RegionVars.{AreFine}
use Rattle.laws_lines.proofs.Regions.ProgramRegions.{IsNamedHere, SetsFine}
use Rattle.base_json.specs.Scopes.{ScopeTree, is_symbol, cells_alone, with_exits, with_phi}
use Rattle.base_values.specs.Naming.{Each, AreNames, VariableFits, VarFits, RowNames, SystemFits}
use Rattle.base_values.specs.Words.{result_with}
use Rattle.base_values.specs.Read.{are_few}
use Rattle.base_values.specs.Fits.{TransformerFits, PiecesFit, RegionFits, RegionsFit, ResultsFit}
use Rattle.laws_stored.proofs.Symbols.{between}
use Rattle.laws_stored.proofs.RegionRules.{AreSuch}
use Rattle.laws_stored.proofs.Foreign.{IsForeign}
use Rattle.laws_stored.proofs.Links.{IsCalled}
use Rattle.laws_stored.proofs.Order.{SetsOrdered}
use Rattle.laws_stored.proofs.Apart.{ordered_apart}
use Rattle.laws_stored.proofs.Phases.{of_all, SetsSuch}
use Rattle.laws_lines.proofs.LineBack.{cell_number}
use Rattle.fx_lists.proofs.Lists.{map_length}
use Rattle.fx_lists.proofs.Booleans.{and_from}
use Rattle.fx_lists.proofs.Numbers.{below_is, same_is as nat_same}
use Rattle.fx_lists.proofs.Every.{Anything, Every}

-- ---- lists

each_got : {A : Type 0} (P : A → Type 0) (xs : List A) → Every P xs → Each P xs
each_got P [] h = tt
each_got P (x ∷ xs) h = (h.0, each_got P xs h.1)

pub of_each : {A : Type 0} (P : A → Type 0) (xs : List A) → All P xs → Each P xs
of_each P xs h = each_got P xs (of_all P xs h)

pub ids_are : {T : Type 0} (xs : List (At T)) → map (λ (a : At T). a.id) xs ≡ ids xs
ids_are [] = refl
ids_are (x ∷ xs) = ap (λ l. x.id ∷ l) (ids_are xs)

-- ---- numbers of cells

pub tracked_symbol : (untracked : List BlockUnit) (k : Known) (n : ℕ) → IsTracked untracked k n → is_symbol (symbol_names k.symbols) n ≡ true
tracked_symbol untracked k n h =
    let r = cell_number (scope_of untracked k).tracked n h in
    let a : length (scope_of untracked k).tracked ≡ length k.symbols = map_length _ k.symbols in
    let b : length (symbol_names k.symbols) ≡ length k.symbols = map_length _ k.symbols in
    let l = r.1 in
    between (symbol_names k.symbols) n r.0 (omega (arith, l, a, b))

-- ---- systems

module _ (names : List (List ℕ)) (few : length names < 2 ^ 32) (such : ℕ → Type 0) (symbol : (n : ℕ) → such n → is_symbol names n ≡ true) where
  below : (n : ℕ) → is_symbol names n ≡ true → n < 2 ^ 32
  below n h = let l = leb-true n (length names) (and_parts (nat_lt 0 n) (nat_le n (length names)) h).1 in omega (arith, l, few)

  cell_fits : (v : Var) → IsCellOf such v → VarFits (cells_alone names) v
  cell_fits (Cell n) h = symbol n h
  cell_fits (Exit n) h = absurd h
  cell_fits (Phi n) h = absurd h
  cell_fits (Aux n) h = h

  any_has : (cs : List ℕ) (n : ℕ) → has cs n ≡ true → list_any (nat_eq n) cs ≡ true
  any_has [] n h = h
  any_has (c ∷ cs) n h =
      elim (or_cases (nat_eq c n) (has cs n) h) [
        | inl e ↦ or_left (nat_eq n c) (list_any (nat_eq n) cs) (subst (λ (m : ℕ). nat_eq m c ≡ true) (nat_same c n e) (subst (λ (m : ℕ). nat_eq c m ≡ true) (sym (nat_same c n e)) e))
        | inr e ↦ or_right (nat_eq n c) (list_any (nat_eq n) cs) (any_has cs n e)
      ]

  half_fits : (cs : List ℕ) → ((c : ℕ) → has cs c ≡ true → such c) → (v : Var) → IsHalfOf such cs v → VarFits (with_exits cs (cells_alone names)) v
  half_fits cs f (Cell n) h = symbol n h
  half_fits cs f (Exit n) h = (any_has cs n h, below n (symbol n (f n h)))
  half_fits cs f (Phi n) h = absurd h
  half_fits cs f (Aux n) h = h

  place_fits : (v : Var) → IsPlaceOf such v → VarFits (with_phi (cells_alone names)) v
  place_fits (Cell n) h = symbol n h
  place_fits (Exit n) h = absurd h
  place_fits (Phi n) h = let l = h.1 in (refl, omega (arith, l))
  place_fits (Aux n) h = h

  terms_fit : (s : ScopeTree) (P : Var → Type 0) → ((v : Var) → P v → VarFits s v) → (ts : List Term) → EachVar P ts → Each (λ (t : Term). VarFits s t.var) ts
  terms_fit s P f [] h = tt
  terms_fit s P f (t ∷ ts) h = (f t.var h.0, terms_fit s P f ts h.1)

  rows_fit : (s : ScopeTree) (P : Var → Type 0) → ((v : Var) → P v → VarFits s v) → (rs : List Row) → AllRows (λ r. EachVar P r.terms) rs → Each (RowNames s) rs
  rows_fit s P f [] h = tt
  rows_fit s P f (r ∷ rs) h = (terms_fit s P f r.terms h.0, rows_fit s P f rs h.1)

  pub system_fits : (y : System) → Fits y → IsOver (IsCellOf such) y → SystemFits (cells_alone names) y
  system_fits y h o = (h, rows_fit (cells_alone names) (IsCellOf such) cell_fits y.rows o)

  each_has : (P : ℕ → Type 0) (cs : List ℕ) → ((c : ℕ) → has cs c ≡ true → P c) → Each P cs
  each_has P [] f = tt
  each_has P (c ∷ cs) f = (f c (or_left (nat_eq c c) (has cs c) (itself c)), each_has P cs (λ d h. f d (or_right (nat_eq c d) (has cs d) h)))
    where
      itself : (n : ℕ) → nat_eq n n ≡ true
      itself n = grind (arith, nat_tests)

  pub transformer_fits : (t : Transformer) → Fits t.system → IsForeign t → IsTransformerOf such t → TransformerFits names t
  transformer_fits t h u o = (
    each_has (λ n. is_symbol names n ≡ true) t.cells (λ c i. symbol c (o.cells c i)),
    u,
    (h, rows_fit (with_exits t.cells (cells_alone names)) (IsHalfOf such t.cells) (half_fits t.cells o.cells) t.system.rows o.system),
  )

  -- ---- regions

  each_piece : (ss : List System) → AllFit ss → AllByRecursion (IsOver (IsPlaceOf such)) ss → Each (SystemFits (with_phi (cells_alone names))) ss
  each_piece [] h o = tt
  each_piece (s ∷ ss) h o = ((h.0, rows_fit (with_phi (cells_alone names)) (IsPlaceOf such) place_fits s.rows o.0), each_piece ss h.1 o.1)

  few_are : (ss : List System) → IsFew ss → are_few ss ≡ true
  few_are ss h = let l = h.1 in and_from (nat_lt 0 (length ss)) (nat_lt (length ss) 5) (below_is 0 (length ss) h.0) (below_is (length ss) 5 (omega (arith, l)))

  pieces_fit : (ss : List System) → AllFit ss → AreFew (IsOver (IsPlaceOf such)) ss → PiecesFit names ss
  pieces_fit ss h o = (each_piece ss h o.1, few_are ss o.0)

  each_region : (K : Access → Type 0) (kind : Kind) → ((a : Access) → K a → same_kind (result_with a) kind ≡ true) → (rs : List Region) → AreSuch (VariableFits names) K rs → AllByRecursion (λ (r : Region). AreFew (IsOver (IsPlaceOf such)) r.pieces) rs
      → Each (RegionFits names kind) rs
  each_region K kind right [] h o = tt
  each_region K kind right (r ∷ rs) h o = ((h.0.0, right r.kind h.0.1, pieces_fit r.pieces h.0.2 o.0), each_region K kind right rs h.1 o.1)

  variables_fit : (K : Access → Type 0) (rs : List Region) → AreSuch (VariableFits names) K rs → Each (λ (r : Region). VariableFits names r.variable) rs
  variables_fit K [] h = tt
  variables_fit K (r ∷ rs) h = (h.0.0, variables_fit K rs h.1)

  pub regions_fit : AreNames names → (K : Access → Type 0) (kind : Kind) → ((a : Access) → K a → same_kind (result_with a) kind ≡ true) → (rs : List Region) → AreSuch (VariableFits names) K rs
      → AllByRecursion (λ (r : Region). AreFew (IsOver (IsPlaceOf such)) r.pieces) rs → Ordered rs → RegionsFit names kind rs
  regions_fit are K kind right rs h o d = (each_region K kind right rs h o, ordered_apart names are rs (variables_fit K rs h) d)

-- its symbols are those of the module
called_fits : (k : Known) (v : Variable) → IsCalled v → IsNamedHere Anything k v → VariableFits (symbol_names k.symbols) v
called_fits k (Own n) h i = between (symbol_names k.symbols) n i.0 i.1
called_fits k (Block b) h i = h
called_fits k (Saved m x) h i = h

named_regions : (K : Access → Type 0) (k : Known) (ok : ℕ → Type 0) (rs : List Region) → AreSuch IsCalled K rs → AreFine (IsNamedHere Anything k) ok rs → AreSuch (VariableFits (symbol_names k.symbols)) K rs
named_regions K k ok [] h f = tt
named_regions K k ok (r ∷ rs) h f = ((called_fits k r.variable h.0.0 f.0.0, h.0.1, h.0.2), named_regions K k ok rs h.1 f.1)

named_at : (K : Access → Type 0) (k : Known) (ok : ℕ → Type 0) (xs : List (At (List Region))) → Each (λ (a : At (List Region)). AreSuch IsCalled K a.value) xs → AllAt (AreFine (IsNamedHere Anything k) ok) xs
    → Each (λ (a : At (List Region)). AreSuch (VariableFits (symbol_names k.symbols)) K a.value) xs
named_at K k ok [] h f = tt
named_at K k ok (x ∷ xs) h f = (named_regions K k ok x.value h.0 f.0, named_at K k ok xs h.1 f.1)

pub named_sets : (K : Access → Type 0) (untracked : List BlockUnit) (k : Known) (sets : Results (List Region)) → SetsSuch (AreSuch IsCalled K) sets → SetsFine Anything untracked k sets → SetsSuch (AreSuch (VariableFits (symbol_names k.symbols)) K) sets
named_sets K untracked k sets h f = (named_at K k (IsTracked untracked k) sets.at h.0 f.at, named_regions K k (IsTracked untracked k) sets.summary h.1 f.summary)

-- ---- results

module _ (untracked : List BlockUnit) (k : Known) (are : AreNames (symbol_names k.symbols)) where
  abbrev names : List (List ℕ)
  names = symbol_names k.symbols

  abbrev tracked : ℕ → Type 0
  tracked = IsTracked untracked k

  symbols : (n : ℕ) → tracked n → is_symbol names n ≡ true
  symbols n h = tracked_symbol untracked k n h

  pub each_transformer : (xs : List (At Transformer)) → Each (λ (a : At Transformer). Fits a.value.system) xs → Each (λ (a : At Transformer). IsForeign a.value) xs → Each (λ (a : At Transformer). IsTransformerOf tracked a.value) xs
      → Each (λ (a : At Transformer). TransformerFits names a.value) xs
  each_transformer [] h u o = tt
  each_transformer (x ∷ xs) h u o = (transformer_fits names are.few tracked symbols x.value h.0 u.0 o.0, each_transformer xs h.1 u.1 o.1)

  pub one_transformer : (t : Transformer) → Fits t.system → IsForeign t → IsTransformerOf tracked t → TransformerFits names t
  one_transformer t h u o = transformer_fits names are.few tracked symbols t h u o

  pub each_system : (xs : List (At System)) → Each (λ (a : At System). Fits a.value) xs → Each (λ (a : At System). IsOver (IsCellOf tracked) a.value) xs → Each (λ (a : At System). SystemFits (cells_alone names) a.value) xs
  each_system [] h o = tt
  each_system (x ∷ xs) h o = (system_fits names are.few tracked symbols x.value h.0 o.0, each_system xs h.1 o.1)

  pub one_system : (y : System) → Fits y → IsOver (IsCellOf tracked) y → SystemFits (cells_alone names) y
  one_system y h o = system_fits names are.few tracked symbols y h o

  module _ (K : Access → Type 0) (kind : Kind) (right : (a : Access) → K a → same_kind (result_with a) kind ≡ true) where
    each_set : (xs : List (At (List Region))) → Each (λ (a : At (List Region)). AreSuch (VariableFits names) K a.value) xs → Each (λ (a : At (List Region)). AreOverPlaces untracked k a.value) xs
        → Each (λ (a : At (List Region)). Ordered a.value) xs → Each (λ (a : At (List Region)). RegionsFit names kind a.value) xs
    each_set [] h o d = tt
    each_set (x ∷ xs) h o d = (regions_fit names are.few tracked symbols are K kind right x.value h.0 o.0 d.0, each_set xs h.1 o.1 d.1)

    pub sets_fit : (ns : List ℕ) (sets : Results (List Region)) → ids sets.at ≡ ns → SetsSuch (AreSuch (VariableFits names) K) sets → SetsAreOver untracked k sets → SetsOrdered sets → ResultsFit (RegionsFit names kind) ns sets
    sets_fit ns sets e h o d = (
      (ids_are sets.at ∙ e, each_set sets.at h.0 (of_each (λ (a : At (List Region)). AreOverPlaces untracked k a.value) sets.at o.at) d.0),
      regions_fit names are.few tracked symbols are K kind right sets.summary h.1 o.summary d.1,
    )
