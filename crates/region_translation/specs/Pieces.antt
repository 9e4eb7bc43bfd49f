-- A system of the callee as one of the caller. Its subscripts and its cells get names of their own, the equations of the link are added, cells
-- become forms over the cells of the caller, and what has no form is projected away; so are the callee's subscripts in the end.
use Rattle.std.specs.Prelude.{◌≡◌, ℕ, zero, suc, ◌-◌, Bool, true, false, not, ◌&&◌, ◌||◌, nat_lt, nat_le, if◌then◌else◌, List, [], ◌∷◌, ◌++◌, map, Option, Some, None}
use Rattle.affine_systems.specs.declared.row.Var.{Var}
use Rattle.affine_systems.specs.declared.row.Var.TheVariants.{Cell, Exit, Phi, Aux}
use Rattle.affine_systems.specs.declared.row.Term.{Term}
use Rattle.affine_systems.specs.declared.row.Row.{Row}
use Rattle.affine_systems.specs.declared.row.System.{System}
use Rattle.affine_systems.specs.Terms.{var_eq}
use Rattle.affine_systems.specs.Points.{factor_of}
use Rattle.affine_systems.specs.Given.{IsNormal}
use Rattle.affine_systems.specs.Normal.{Normal, Kept, Always, Never, TooBig, normal}
use Rattle.affine_systems.specs.Tidy.{is_unit, tidy}
use Rattle.hull_projection.specs.declared.projection.Shadow.{Shadow}
use Rattle.hull_projection.specs.Variables.{row_vars}
use Rattle.hull_projection.specs.Project.{shadow, project}
use Rattle.call_translation.specs.transformer_algebra.declared.naming.Naming.{Naming}
use Rattle.call_translation.specs.transformer_algebra.Renaming.{naming, rename_all, push_rows}
use Rattle.affine_forms.specs.declared.affine.Affine.{Affine}
use Rattle.affine_forms.specs.Comparisons.{var_form, same_row}
use Rattle.affine_forms.specs.Conditions.{no_rows}
use Rattle.call_equations.specs.declared.link.Link.{Link}
use Rattle.call_equations.specs.Sides.{SidesTree}
use Rattle.call_equations.specs.Cells.{form_of, cell_name}
use Rattle.region_sets.specs.Putting.{put_row}

-- ---- names

-- what stands for a variable of the callee: subscripts keep their names where they are not moved
abbrev pub standing : Bool → ℕ → Var → Var
standing moved r (Cell n) = cell_name r n
standing moved r (Exit n) = Exit n
standing moved r (Phi n) = if moved then Aux n else Phi n
standing moved r (Aux n) = Aux n

abbrev pub names_of : Bool → ℕ → List Var → List Naming
names_of moved r vs = map (λ v. naming v (standing moved r v)) vs

-- a cell, or a subscript of the variable
abbrev pub is_own : Bool → ℕ → Var → Bool
is_own moved r (Cell n) = true
is_own moved r (Exit n) = false
is_own moved r (Phi n) = not moved || (nat_lt 0 n && nat_le n r)
is_own moved r (Aux n) = false

abbrev pub are_own : Bool → ℕ → List Var → Bool
are_own moved r [] = true
are_own moved r (v ∷ vs) = is_own moved r v && are_own moved r vs

-- with the equations
abbrev pub linked : Link → System → System
linked l s = push_rows (rename_all (names_of l.moved l.rank (row_vars s.rows)) s) l.rows

-- ---- rows that say what an auxiliary variable is

abbrev pub is_other_aux : ℕ → Var → Bool
is_other_aux n (Cell k) = false
is_other_aux n (Exit k) = false
is_other_aux n (Phi k) = false
is_other_aux n (Aux k) = not (var_eq (Aux n) (Aux k))

abbrev pub has_other_aux : ℕ → List Term → Bool
has_other_aux n [] = false
has_other_aux n (t ∷ ts) = is_other_aux n t.var || has_other_aux n ts

-- an equal row with the factor 1 or -1 on it, and without another one
abbrev pub is_aux_row : ℕ → Row → Bool
is_aux_row n e = e.equal && (is_unit (factor_of (Aux n) e.terms) && not (has_other_aux n e.terms))

abbrev pub if_aux_row : ℕ → Normal → Option Row
if_aux_row n (Kept e) = if is_aux_row n e then Some e else None
if_aux_row n Always = None
if_aux_row n Never = None
if_aux_row n TooBig = None

-- that it has the value of a form; none where a number reaches 2^62
abbrev pub aux_row : ℕ → Option Affine → Option Row
aux_row n None = None
aux_row n (Some f) = if_aux_row n (normal false (same_row (var_form (Aux n)) f))

-- such a row in normal form
pub record IsAuxRow (n : ℕ) (e : Row) : Type 0 where
  pub normal : IsNormal e
  pub says : is_aux_row n e ≡ true

-- ---- the callee's cells

-- a variable behind the first r is the name of a cell
abbrev pub cell_row : SidesTree → ℕ → ℕ → Option Row
cell_row c r n = aux_row n (form_of c ((n - r) - 1))

abbrev pub if_row : ℕ → Option Row → System → System
if_row n None s = s
if_row n (Some e) s = put_row (Aux n) e s

abbrev pub with_var : SidesTree → ℕ → Var → System → System
with_var c r (Cell n) s = s
with_var c r (Exit n) s = s
with_var c r (Phi n) s = s
with_var c r (Aux n) s = if nat_lt r n then if_row n (cell_row c r n) s else s

-- each of these that is the name of a cell becomes the form of that, one after the other
abbrev pub with_forms : SidesTree → ℕ → List Var → System → System
with_forms c r [] s = s
with_forms c r (v ∷ vs) s = with_forms c r vs (with_var c r v s)

abbrev pub if_formless : ℕ → Option Row → List Var
if_formless n None = Aux n ∷ []
if_formless n (Some e) = []

abbrev pub one_formless : SidesTree → ℕ → Var → List Var
one_formless c r (Cell n) = []
one_formless c r (Exit n) = []
one_formless c r (Phi n) = []
one_formless c r (Aux n) = if nat_lt r n then if_formless n (cell_row c r n) else []

-- those that have none
abbrev pub formless : SidesTree → ℕ → List Var → List Var
formless c r [] = []
formless c r (v ∷ vs) = one_formless c r v ++ formless c r vs

-- ---- what is projected away

abbrev pub subscripts_from : ℕ → ℕ → List Var
subscripts_from k zero = []
subscripts_from k (suc r) = Aux k ∷ subscripts_from (suc k) r

-- the callee's subscripts, where they are moved
abbrev pub subscripts : Link → List Var
subscripts l = if l.moved then subscripts_from 1 l.rank else []

-- not exact where a cell has no form
abbrev pub without_all : List Var → List Var → System → Shadow
without_all [] ws s = project s ws
without_all (v ∷ vs) ws s = shadow (project (project s (v ∷ vs)).system ws).system false

-- ---- the rule

abbrev pub linked_piece : SidesTree → Link → System → Shadow
linked_piece c l s = let vs = row_vars s.rows in without_all (formless c l.rank vs) (subscripts l) (tidy (with_forms c l.rank vs s))

-- what names other variables says nothing; no analysis makes such a system
abbrev pub piece_in_caller : SidesTree → Link → System → Shadow
piece_in_caller c l s = if are_own l.moved l.rank (row_vars s.rows) then linked_piece c l (linked l s) else shadow no_rows false
