-- Lines that are read.
use Rattle.std.proofs.Common.{◌≡◌, true, false, List, [], ◌∷◌, pos, negsuc, refl, Some, None}
use Rattle.std.specs.Prelude.{codes}
use Rattle.affine_systems.specs.declared.row.Var.TheVariants.{Cell, Phi}
use Rattle.affine_systems.specs.Terms.{var_eq, var_lt, term}
use Rattle.affine_systems.specs.Rows.{row, system}
use Rattle.f77_ast.specs.declared.variable.Variable.TheVariants.{Own, Block, Saved}
use Rattle.system_text.specs.Reading.{Bytes}
use Rattle.in_out_regions.specs.region_sets.declared.region.Access.TheVariants.{Read, Write, In, Out}
use Rattle.in_out_regions.specs.region_sets.Regions.{region}
use Rattle.laws_lines.specs.RegionTexts.Reading.{read_region_line}

symbols : List Bytes
symbols = codes "A" ∷ (codes "I" ∷ (codes "N" ∷ []))

bounds : read_region_line symbols (codes "C> READ A {1<=PHI1, PHI1<=N} EXACT")
    ≡ Some (region (Own 1) Read true (system (row false (term (Phi 1) (negsuc 0) ∷ []) (negsuc 0) ∷ row false (term (Cell 3) (negsuc 0) ∷ term (Phi 1) (pos 1) ∷ []) (pos 0) ∷ []) false ∷ []))
unfolding symbols var_eq var_lt
bounds = refl

block : read_region_line symbols (codes "C> WRITE /B/ {} MAY") ≡ Some (region (Block (codes "B")) Write false (system [] false ∷ []))
unfolding symbols
block = refl

saved : read_region_line symbols (codes "C> IN S:X {I==PHI2} MAY WEAK")
    ≡ Some (region (Saved (codes "S") (codes "X")) In false (system (row true (term (Cell 2) (pos 1) ∷ term (Phi 2) (negsuc 0) ∷ []) (pos 0) ∷ []) true ∷ []))
unfolding symbols var_eq var_lt
saved = refl

two_systems : read_region_line symbols (codes "C> OUT A {PHI1==1} + {PHI1==3} EXACT")
    ≡ Some (region (Own 1) Out true (system (row true (term (Phi 1) (pos 1) ∷ []) (pos 1) ∷ []) false ∷ system (row true (term (Phi 1) (pos 1) ∷ []) (pos 3) ∷ []) false ∷ []))
unfolding symbols var_eq var_lt
two_systems = refl

-- an eighth subscript is none, and a line says whether it is EXACT or MAY
no_subscript : read_region_line symbols (codes "C> READ A {PHI8==1} EXACT") ≡ None
unfolding symbols
no_subscript = refl

no_flag : read_region_line symbols (codes "C> READ A {PHI1==1}") ≡ None
unfolding symbols
no_flag = refl
