-- Lines that are read.
use Rattle.std.proofs.Common.{◌≡◌, true, false, List, [], ◌∷◌, pos, negsuc, refl, Some, None}
use Rattle.std.specs.Prelude.{codes}
use Rattle.affine_systems.specs.declared.row.Var.TheVariants.{Cell, Exit}
use Rattle.affine_systems.specs.Terms.{var_eq, var_lt, term}
use Rattle.affine_systems.specs.Rows.{row, system, false_row}
use Rattle.system_text.specs.Reading.{Bytes, read_system, read_precondition_line, read_transformer_line}

pub symbols : List Bytes
symbols = codes "I" ∷ (codes "J" ∷ (codes "K" ∷ (codes "N" ∷ [])))

equal_rows : read_system symbols (codes "{N==100, K==199}") ≡ Some (system (row true (term (Cell 4) (pos 1) ∷ []) (pos 100) ∷ row true (term (Cell 3) (pos 1) ∷ []) (pos 199) ∷ []) false)
unfolding symbols var_eq var_lt
equal_rows = refl

bounds : read_system symbols (codes "{1<=I, I<=100}") ≡ Some (system (row false (term (Cell 1) (negsuc 0) ∷ []) (negsuc 0) ∷ row false (term (Cell 1) (pos 1) ∷ []) (pos 100) ∷ []) false)
unfolding symbols var_eq var_lt
bounds = refl

step : read_system symbols (codes "{I'==I+1}") ≡ Some (system (row true (term (Cell 1) (negsuc 0) ∷ term (Exit 1) (pos 1) ∷ []) (pos 1) ∷ []) false)
unfolding symbols var_eq var_lt
step = refl

weak : read_system symbols (codes "{2*I+3<=J} WEAK") ≡ Some (system (row false (term (Cell 1) (pos 2) ∷ term (Cell 2) (negsuc 0) ∷ []) (negsuc 2) ∷ []) true)
unfolding symbols var_eq var_lt
weak = refl

never : read_system symbols (codes "{FALSE}") ≡ Some (system (false_row ∷ []) false)
unfolding symbols
never = refl

no_rows : read_system symbols (codes "{}") ≡ Some (system [] false)
unfolding symbols
no_rows = refl

-- the order in which a side is written does not matter
other_order : read_system symbols (codes "{3+2*I<=J}") ≡ Some (system (row false (term (Cell 1) (pos 2) ∷ term (Cell 2) (negsuc 0) ∷ []) (negsuc 2) ∷ []) false)
unfolding symbols var_eq var_lt
other_order = refl

-- `>=` is not written, and M is no symbol
no_sign : read_system symbols (codes "{I>=1}") ≡ None
unfolding symbols
no_sign = refl

no_symbol : read_system symbols (codes "{M==1}") ≡ None
unfolding symbols
no_symbol = refl

precondition : read_precondition_line symbols (codes "C> P {K<=3*J+1} WEAK") ≡ Some (system (row false (term (Cell 2) (negsuc 2) ∷ term (Cell 3) (pos 1) ∷ []) (pos 1) ∷ []) true)
unfolding symbols var_eq var_lt
precondition = refl

transformer : read_transformer_line symbols (codes "C> T I,J {I'==I+1}") ≡ Some (1 ∷ 2 ∷ [], system (row true (term (Cell 1) (negsuc 0) ∷ term (Exit 1) (pos 1) ∷ []) (pos 1) ∷ []) false)
unfolding symbols var_eq var_lt
transformer = refl
