-- What systems and variables of a module may name.
use Rattle.std.specs.Prelude.{◌≡◌, ℕ, ◌<◌, ◌^◌, true, ◌&&◌, List, [], ◌∷◌, length}
use Rattle.affine_systems.specs.declared.row.Var.{Var}
use Rattle.affine_systems.specs.declared.row.Var.TheVariants.{Cell, Exit, Phi, Aux}
use Rattle.affine_systems.specs.declared.row.Term.{Term}
use Rattle.affine_systems.specs.declared.row.Row.{Row}
use Rattle.affine_systems.specs.declared.row.System.{System}
use Rattle.affine_systems.specs.Given.{Fits}
use Rattle.f77_ast.specs.declared.variable.Variable.{Variable}
use Rattle.f77_ast.specs.declared.variable.Variable.TheVariants.{Own, Block, Saved}
use Rattle.base_json.specs.Scopes.{ScopeTree, is_symbol, is_name, is_short_name, is_block}
use Rattle.base_json.specs.Distinct.{are_new}

abbrev pub Each : {A : Type 0} → (A → Type 0) → List A → Type 0
Each P [] = Unit {0}
Each P (x ∷ xs) = P x × Each P xs

abbrev pub AreBytes : List ℕ → Type 0
AreBytes x = Each (λ c. c < 256) x

-- the names of symbols: each a letter and then letters, digits and `_`, none twice
pub record AreNames (names : List (List ℕ)) : Type 0 where
  pub few : length names < 2 ^ 32
  pub are : Each (λ x. is_name x ≡ true) names
  pub once : are_new [] names ≡ true

-- an own variable is a symbol; blocks and saved locals have names
abbrev pub VariableFits : List (List ℕ) → Variable → Type 0
VariableFits names (Own n) = is_symbol names n ≡ true
VariableFits names (Block b) = is_block b ≡ true
VariableFits names (Saved m x) = (is_short_name m && is_short_name x) ≡ true

-- what may be named there; never an auxiliary variable
abbrev pub VarFits : ScopeTree → Var → Type 0
VarFits s (Cell n) = is_symbol s.names n ≡ true
VarFits s (Exit n) = (s.may_exit n ≡ true) × (n < 2 ^ 32)
VarFits s (Phi n) = (s.phi ≡ true) × (n < 256)
VarFits s (Aux n) = ⊥

abbrev pub RowNames : ScopeTree → Row → Type 0
RowNames s r = Each (λ (t : Term). VarFits s t.var) r.terms

-- a system that calls take, with variables that may be named
abbrev pub SystemFits : ScopeTree → System → Type 0
SystemFits s y = Fits y × Each (RowNames s) y.rows
