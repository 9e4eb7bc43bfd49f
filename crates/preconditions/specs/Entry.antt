-- What holds of the tracked cells where a module is entered.
use Rattle.std.specs.Prelude.{ℕ, suc, pos, Bool, true, List, [], ◌∷◌, ◌++◌, map, if◌then◌else◌}
use Rattle.affine_systems.specs.declared.row.Var.TheVariants.{Cell}
use Rattle.affine_systems.specs.declared.row.Row.{Row}
use Rattle.affine_systems.specs.declared.row.System.{System}
use Rattle.affine_systems.specs.Terms.{term}
use Rattle.affine_systems.specs.Rows.{row}
use Rattle.transformers.specs.transformer_algebra.Renaming.{of_rows}
use Rattle.f77_ast.specs.declared.symbol.InitialRun.{InitialRun}
use Rattle.f77_ast.specs.Symbols.{SymbolTree}
use Rattle.affine_forms.specs.Scalars.{is_cell}
use Rattle.transformers.specs.call_translation.declared.sites.Site.{Site}
use Rattle.transformers.specs.call_translation.Scopes.{ScopeTree}
use Rattle.transformers.specs.call_translation.Sites.{HoldingSite, site_tree}
use Rattle.transformers.specs.call_translation.SiteEntry.{site_entry}
use Rattle.preconditions.specs.Statement.{some_holds}

-- ---- the main program (ANSI X3.9-1978 §9)

abbrev pub begins_with : ℕ → List InitialRun → List Row
begins_with n [] = []
begins_with n (r ∷ rs) = row true (term (Cell n) (pos 1) ∷ []) r.value ∷ []

-- of the symbol with the number n
abbrev pub initial_row : ℕ → Bool → SymbolTree → List Row
initial_row n tracked s = if tracked then begins_with n s.initial else []

-- tracked cells begin with their values from DATA; the first symbol has the number n
abbrev pub initial_from : List Bool → ℕ → List SymbolTree → List Row
initial_from flags n [] = []
initial_from flags n (s ∷ ss) = initial_row n (is_cell flags n) s ++ initial_from flags (suc n) ss

abbrev pub main_entry : ScopeTree → System
main_entry m = of_rows (initial_from m.tracked 1 m.symbols)

-- ---- a subroutine, from the CALLs that name it

-- of each of some CALLs
abbrev pub entries_of : ScopeTree → List (Site System) → List System
entries_of m cs = map (site_entry m) (map site_tree cs)

-- hulls from left to right; without CALLs nothing holds
abbrev pub sites_entry : ScopeTree → List HoldingSite → System
sites_entry m cs = some_holds (map (site_entry m) cs)

-- ---- a module

abbrev pub entry_of : Bool → ScopeTree → List HoldingSite → System
entry_of main m cs = if main then main_entry m else sites_entry m cs
