-- The parts of a DO (ANSI X3.9-1978 §11.10).
use Rattle.std.specs.Prelude.{ℕ, ℤ, pos, Option, Some, None, unwrap_or, List, if◌then◌else◌}
use Rattle.std.specs.Ordering.{int_eq}
use Rattle.f77_ast.specs.Trees.{ExprTree, LoopTree}
use Rattle.f77_ast.specs.Trees as tree
use Rattle.f77_ast.specs.declared.constant.Constant.{Constant}
use Rattle.f77_ast.specs.declared.constant.Constant.TheVariants.{Int, Log}
use Rattle.f77_ast.specs.declared.constant.ConstantValue.{ConstantValue}
use Rattle.f77_ast.specs.declared.constant.ConstantValue.TheVariants.{Is, Faults, Varies}
use Rattle.f77_ast.specs.Constants.{const_value}
use Rattle.f77_ast.specs.Symbols.{number_from}
use Rattle.affine_forms.specs.Scalars.{is_cell}
use Rattle.affine_forms.specs.Forms.{affine_of}
use Rattle.call_translation.specs.transformer_algebra.declared.transformer.Transformer.{Transformer}
use Rattle.call_translation.specs.transformer_algebra.declared.loop_parts.LoopParts.{LoopParts}
use Rattle.call_translation.specs.Scopes.{ScopeTree}

-- a number that is not 0
abbrev pub counting : ConstantValue → Option ℤ
counting (Is (Int n)) = if int_eq n (pos 0) then None else Some n
counting (Is (Log b)) = None
counting Faults = None
counting Varies = None

-- 1 where none was written; none where it is no constant, or 0
abbrev pub step_of : (List ℕ → Option Constant) → Option ExprTree → Option ℤ
step_of value None = Some (pos 1)
step_of value (Some e) = counting (const_value value e)

-- the number of a symbol, 0 of a name without one
abbrev pub number_in : ScopeTree → List ℕ → ℕ
number_in m x = unwrap_or (number_from 1 m.names x) 0

-- a DO whose body has this transformer
abbrev pub loop_parts : ScopeTree → LoopTree → Transformer → LoopParts
loop_parts m (tree.loop index first last step body) t = record {
  index = number_in m index;
  tracked = is_cell m.tracked (number_in m index);
  step = step_of m.scalars.value step;
  first = affine_of m.scalars first;
  last = affine_of m.scalars last;
  body = t;
}
