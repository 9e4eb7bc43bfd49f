-- The least number above every auxiliary variable of two systems.
use Rattle.std.specs.Prelude.{ℕ, List, [], ◌∷◌}
use Rattle.affine_systems.specs.declared.row.Term.{Term}
use Rattle.affine_systems.specs.declared.row.Row.{Row}
use Rattle.affine_systems.specs.declared.row.System.{System}
use Rattle.hull_projection.specs.Fresh.{above_aux}

-- not below m, and above each of the terms'
abbrev pub above_terms : ℕ → List Term → ℕ
above_terms m [] = m
above_terms m (t ∷ ts) = above_terms (above_aux t.var m) ts

abbrev pub above_rows : ℕ → List Row → ℕ
above_rows m [] = m
above_rows m (r ∷ rs) = above_rows (above_terms m r.terms) rs

abbrev pub fresh_over : System → System → ℕ
fresh_over s t = above_rows (above_rows 0 s.rows) t.rows
