-- What names are taken for in forms is what they stand for in runs.
use Rattle.std.proofs.Common.{◌≡◌, ℕ, zero, suc, ◌-◌, Bool, true, false, not, ℤ, List, [], ◌∷◌, map, Option, Some, None, Ok, refl, sym, ap, ◌∙◌, subst}
use Rattle.std.specs.Prelude.{if◌then◌else◌, ◌&&◌, bytes_eq, nat_eq, slice_get, option_map, is_none}
use Rattle.std.proofs.lemmas.Bool.{and_parts}
use Rattle.f77_ast.specs.DeclTrees.{ParsedTree}
use Rattle.f77_ast.specs.declared.decl.Scalar.{Scalar}
use Rattle.f77_ast.specs.declared.decl.Scalar.TheVariants as scalar
use Rattle.f77_ast.specs.Store.{content, truth}
use Rattle.f77_ast.specs.Numbers.{in_range, is_true}
use Rattle.f77_ast.specs.Places.{Meant, Variable, Function}
use Rattle.f77_ast.specs.Places as meant
use Rattle.f77_ast.specs.declared.constant.Constant.{Constant}
use Rattle.f77_ast.specs.declared.constant.Constant.TheVariants as constant
use Rattle.f77_ast.specs.declared.symbol.Place.{Place}
use Rattle.f77_ast.specs.declared.symbol.Place.TheVariants as place
use Rattle.f77_ast.specs.declared.variable.Unit.{Unit as BlockUnit}
use Rattle.f77_ast.specs.Symbols.{SymbolTree, number_from, constant_of, constant_in, constant_at, value_in}
use Rattle.f77_ast.specs.Shared.{numbered, symbol_at}
use Rattle.storage_layout.specs.Symbols.{symbols_of}
use Rattle.tracked_cells.specs.Equivalences.{equivalenced_names}
use Rattle.tracked_cells.specs.Standing.{is_plain}
use Rattle.tracked_cells.specs.Tracked.{is_alone, is_tracked, tracked_of}
use Rattle.call_graph.specs.Actuals.{symbol_with_name}
use Rattle.laws_programs.specs.SymbolTables.Shapes.{symbol_named}
use Rattle.f77_meaning.specs.Modules.{tag_of, is_function, meant_by, meant_at, meant_in, symbol_names, names}
use Rattle.laws_programs.proofs.Storage.ActualLaws.{Meaning, meaning}
use Rattle.affine_forms.specs.Scalars.{flag_of, is_cell, if_cell, cell_in}
use Rattle.affine_forms.specs.Claims.{content_of, Agrees}
use Rattle.laws_analyses.specs.ScalarLaws.{LogicalsAreTruths, NamesAgree}
use Rattle.laws_programs.proofs.Fitting.{same_named}
use Rattle.fx_lists.proofs.Lists.{slice_get-map}

-- ---- constants

-- the symbol whose constant it is
record ConstantOf (ss : List SymbolTree) (x : List ℕ) (c : Constant) : Type 0 where
  symbol : SymbolTree
  is_named : symbol_named ss x ≡ Some symbol
  constant : constant_at symbol ≡ Some c

constant_named : (ss : List SymbolTree) (x : List ℕ) (c : Constant) → value_in ss x ≡ Some c → ConstantOf ss x c
constant_named [] x c h = cc
constant_named (s ∷ ss) x c h = go (bytes_eq x s.name) refl h (constant_named ss x c)
  where
    go : (b : Bool) → bytes_eq x s.name ≡ b → (if b then constant_at s else value_in ss x) ≡ Some c → (value_in ss x ≡ Some c → ConstantOf ss x c) → ConstantOf (s ∷ ss) x c
    go true q i ih = record { symbol = s; is_named = ap (λ b. if b then Some s else symbol_named ss x) q; constant = i }
    go false q i ih = let r = ih i in record { symbol = r.symbol; is_named = ap (λ b. if b then Some s else symbol_named ss x) q ∙ r.is_named; constant = r.constant }

-- what stands in a run for a constant of the type
meant_for : (t : Scalar) (n : ℕ) (k : ℤ) (c : Constant) → constant_of t k ≡ Some c → (t ≡ scalar.Log → truth (is_true k) ≡ k) → meant_by t n (place.Constant k) ≡ meant.Constant (content_of c)
meant_for scalar.Int n k c h l = go (in_range k) h
  where
    go : (b : Bool) → (if b then Some (constant.Int k) else None) ≡ Some c → meant.Constant (content (tag_of scalar.Int) k) ≡ meant.Constant (content_of c)
    go true i = let same : constant.Int k ≡ c = cc in ap (λ d. meant.Constant (content_of d)) same
    go false i = cc
meant_for scalar.Log n k c h l =
    let same : constant.Log (is_true k) ≡ c = cc in
    ap (λ m. meant.Constant (content (tag_of scalar.Log) m)) (sym (l refl)) ∙ ap (λ d. meant.Constant (content_of d)) same

meant_there : (t : Scalar) (n : ℕ) (q : Place) (c : Constant) → constant_in t q ≡ Some c → ((k : ℤ) → q ≡ place.Constant k → t ≡ scalar.Log → truth (is_true k) ≡ k) → meant_by t n q ≡ meant.Constant (content_of c)
meant_there t n (place.Local g o) c h l = cc
meant_there t n (place.Dummy d) c h l = cc
meant_there t n (place.Block b o) c h l = cc
meant_there t n (place.Constant k) c h l = meant_for t n k c h (l k refl)

-- a name that stands for no function stands for what its symbol says
pub unless_function : (b : Bool) (m w : Meant) → w ≡ (if b then Function else m) → (w ≡ Function → ⊥) → w ≡ m
unless_function true m w h f = absurd (f h)
unless_function false m w h f = h

constant_meant : LogicalsAreTruths → (p : ParsedTree) (ss : List SymbolTree) → symbols_of p ≡ Ok ss → (x : List ℕ) (c : Constant) → value_in ss x ≡ Some c → (names ss x ≡ Function → ⊥) → names ss x ≡ meant.Constant (content_of c)
constant_meant truths p ss t x c h f =
    let r = constant_named ss x c h in
    let m = meaning ss x r.symbol (sym (same_named ss x) ∙ r.is_named) in
    unless_function (is_function r.symbol) (meant_by r.symbol.scalar m.number r.symbol.place) (names ss x) m.meant f
    ∙ meant_there r.symbol.scalar m.number r.symbol.place c r.constant (λ k q l. truths p ss t x r.symbol k r.is_named q l)

-- ---- tracked cells

-- the symbol of a flag that is set
pub record Flagged (f : SymbolTree → Bool) (ss : List SymbolTree) (n : ℕ) : Type 0 where
  pub symbol : SymbolTree
  pub is_symbol : symbol_at ss n ≡ Some symbol
  pub flag : f symbol ≡ true

pub flagged : (f : SymbolTree → Bool) (ss : List SymbolTree) (n : ℕ) → is_cell (map f ss) n ≡ true → Flagged f ss n
flagged f ss n h = go (nat_eq n 0) refl h
  where
    there : (o : Option SymbolTree) → slice_get ss (n - 1) ≡ o → nat_eq n 0 ≡ false → flag_of (option_map f o) ≡ true → Flagged f ss n
    there None q z k = cc
    there (Some s) q z k = record { symbol = s; is_symbol = ap (λ b. if b then None else slice_get ss (n - 1)) z ∙ q; flag = k }

    go : (b : Bool) → nat_eq n 0 ≡ b → flag_of (if b then None else slice_get (map f ss) (n - 1)) ≡ true → Flagged f ss n
    go true z k = cc
    go false z k = there (slice_get ss (n - 1)) refl z (ap flag_of (sym (slice_get-map f ss (n - 1))) ∙ k)

-- a name that is taken for a cell
pub record CellOf (ss : List SymbolTree) (flags : List Bool) (x : List ℕ) (n : ℕ) : Type 0 where
  pub number : number_from 1 (symbol_names ss) x ≡ Some n
  pub flag : is_cell flags n ≡ true

pub cell_of : (ss : List SymbolTree) (flags : List Bool) (x : List ℕ) (n : ℕ) → cell_in (symbol_names ss) flags x ≡ Some n → CellOf ss flags x n
cell_of ss flags x n h = go (number_from 1 (symbol_names ss) x) refl h
  where
    flagged_so : (m : ℕ) (b : Bool) → number_from 1 (symbol_names ss) x ≡ Some m → is_cell flags m ≡ b → (if b then Some m else None) ≡ Some n → CellOf ss flags x n
    flagged_so m true q f k = let same : m ≡ n = cc in record { number = q ∙ ap Some same; flag = ap (is_cell flags) (sym same) ∙ f }
    flagged_so m false q f k = cc

    go : (o : Option ℕ) → number_from 1 (symbol_names ss) x ≡ o → if_cell flags o ≡ Some n → CellOf ss flags x n
    go None q k = cc
    go (Some m) q k = flagged_so m (is_cell flags m) q refl k

-- a tracked cell is no constant
cell_meant : (names : List (List ℕ)) (ss : List SymbolTree) (untracked : List BlockUnit) (t : Scalar) (n : ℕ) (q : Place) → is_alone names ss untracked q ≡ true → meant_by t n q ≡ Variable n
cell_meant names ss untracked t n (place.Local g o) h = refl
cell_meant names ss untracked t n (place.Dummy d) h = refl
cell_meant names ss untracked t n (place.Block b o) h = refl
cell_meant names ss untracked t n (place.Constant k) h = cc

cell_named : (p : ParsedTree) (ss : List SymbolTree) (untracked : List BlockUnit) (x : List ℕ) (n : ℕ) → cell_in (symbol_names ss) (tracked_of p.module_read ss untracked) x ≡ Some n → (names ss x ≡ Function → ⊥) → names ss x ≡ Variable n
cell_named p ss untracked x n h f =
    let c = cell_of ss (tracked_of p.module_read ss untracked) x n h in
    let s = flagged (is_tracked (equivalenced_names p.module_read) ss untracked) ss n c.flag in
    let a = (and_parts (is_plain (equivalenced_names p.module_read) s.symbol) (is_alone (equivalenced_names p.module_read) ss untracked s.symbol.place) s.flag).1 in
    let means : names ss x ≡ meant_at n (Some s.symbol) = ap (meant_in ss) c.number ∙ ap (meant_at n) s.is_symbol in
    unless_function (is_function s.symbol) (meant_by s.symbol.scalar n s.symbol.place) (names ss x) means f
    ∙ cell_meant (equivalenced_names p.module_read) ss untracked s.symbol.scalar n s.symbol.place a

pub names_agree : LogicalsAreTruths → NamesAgree
names_agree truths p ss untracked t = record {
  constants = λ x c h f. constant_meant truths p ss t x c h f;
  cells = λ x n h. (λ f. cell_named p ss untracked x n h f, (cell_of ss (tracked_of p.module_read ss untracked) x n h).flag);
}
