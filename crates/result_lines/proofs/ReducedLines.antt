-- The lines on loops, of which some have reduction variables.
use Rattle.std.proofs.Common.{◌≡◌, Bool, true, false, List, [], ◌∷◌, refl, sym, ◌∙◌}
use Rattle.std.specs.Prelude.{IsTrue, ◌↔◌}
use Rattle.f77_ast.specs.declared.results.At.{At}
use Rattle.f77_ast.specs.declared.marks.Mark.{Mark}
use Rattle.f77_meaning.specs.Modules.{Known, symbol_names}
use Rattle.privatizer.specs.Functions.{module_functions}
use Rattle.result_lines.specs.ReductionLines.{loop_lines, loop_lines_of}
use Rattle.result_lines.specs.declared.reduction.Reduction.{Reduction}

-- where some have
pub lines_of_some : (k : Known) (why b : Bool) (rs : List (At Reduction)) (ms : List (At Mark)) → (IsTrue b ↔ (rs ≡ [])) → b ≡ false → loop_lines_of k why rs ms ≡ loop_lines (module_functions k.read) (symbol_names k.symbols) why rs ms
lines_of_some k why b [] ms h e = let z : true ≡ false = sym (h.1 refl) ∙ e in cc
lines_of_some k why b (r ∷ rs) ms h e = refl
