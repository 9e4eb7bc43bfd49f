-- The namings of two transformers that are put together. Of the cells that the first changes, those that the second changes again have an
-- auxiliary variable in between, numbered from n on in the order of the cells.
use Rattle.std.specs.Prelude.{ℕ, suc, if◌then◌else◌, List, [], ◌∷◌, map}
use Rattle.affine_systems.specs.declared.row.Var.{Var}
use Rattle.affine_systems.specs.declared.row.Var.TheVariants.{Cell, Exit, Aux}
use Rattle.transformer_algebra.specs.declared.naming.Naming.{Naming}
use Rattle.transformer_algebra.specs.Renaming.{naming}
use Rattle.transformer_algebra.specs.Cells.{has}

-- of the first: exits
abbrev pub first_names : ℕ → List ℕ → List ℕ → List Naming
first_names n again [] = []
first_names n again (c ∷ cs) = if has again c then naming (Exit c) (Aux n) ∷ first_names (suc n) again cs else first_names n again cs

-- of the second: cells, which are exits where only the first changes them
abbrev pub second_names : ℕ → List ℕ → List ℕ → List Naming
second_names n again [] = []
second_names n again (c ∷ cs) =
    if has again c then naming (Cell c) (Aux n) ∷ second_names (suc n) again cs
    else naming (Cell c) (Exit c) ∷ second_names n again cs

-- the auxiliary variables
abbrev pub middle : ℕ → List ℕ → List ℕ → List Var
middle n again [] = []
middle n again (c ∷ cs) = if has again c then Aux n ∷ middle (suc n) again cs else middle n again cs

-- each exit becomes its cell
abbrev pub to_cells : List ℕ → List Naming
to_cells cs = map (λ c. naming (Exit c) (Cell c)) cs

abbrev pub cell_vars : List ℕ → List Var
cell_vars cs = map (λ c. Cell c) cs
