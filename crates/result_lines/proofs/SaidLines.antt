-- The lines on the loops of a module are those of what is said of these loops.
use Rattle.std.proofs.Common.{◌≡◌, ℕ, ◌-◌, Bool, true, false, List, [], ◌∷◌, ◌++◌, map, Option, Some, None, refl, sym, ap, ap₂, ◌∙◌, append-nil}
use Rattle.std.specs.Prelude.{nat_eq, slice_get, if◌then◌else◌}
use Rattle.f77_printer.specs.declared.added.Added.{Added}
use Rattle.f77_ast.specs.declared.results.At.{At}
use Rattle.f77_ast.specs.declared.marks.Mark.{Mark}
use Rattle.f77_ast.specs.declared.marks.Mark.TheVariants.{Parallel, Serial}
use Rattle.f77_meaning.specs.Modules.{Known, symbol_names}
use Rattle.transformers.specs.Lists.{or_first, value_at}
use Rattle.privatizer.specs.Functions.{module_functions}
use Rattle.result_lines.specs.ScalarLines.{before}
use Rattle.result_lines.specs.MarkText.{directive_text, directive_lines}
use Rattle.result_lines.specs.MarkLines.{lines_at, mark_lines_of}
use Rattle.result_lines.specs.ShownMarks.{mark_without, marks_without}
use Rattle.result_lines.specs.ReductionLines.{by_reduction, loop_lines, loop_lines_of, said_lines_at, said_lines, said_by_mark, loop_said, loop_said_at, loops_said}
use Rattle.result_lines.specs.declared.reduction.Reduction.{Reduction}

-- no loop has a reduction
none_there : (n : ℕ) → value_at {T = Reduction} [] n ≡ None
none_there n = go (nat_eq n 0)
  where
    go : (b : Bool) → or_first {T = Reduction} (if b then None else slice_get [] (n - 1)) n [] ≡ None
    go true = refl
    go false = refl

module _ (functions names : List (List ℕ)) (why : Bool) where
  by_mark : (n : ℕ) (v : Mark) → lines_at names why n v ≡ said_lines_at names why n (said_by_mark v)
  by_mark n (Parallel ns) = ap (λ (t : List ℕ). map (before n) (directive_lines t)) (sym (append-nil (directive_text names ns)))
  by_mark n (Serial r) = refl

  by_both : (n : ℕ) (v : Mark) (o : Option Reduction) → by_reduction functions names n o (lines_at names why n (mark_without functions names v)) ≡ said_lines_at names why n (loop_said functions names v o)
  by_both n v None = by_mark n (mark_without functions names v)
  by_both n v (Some r) = refl

  loops_are : (rs : List (At Reduction)) (ms : List (At Mark)) → loop_lines functions names why rs ms ≡ said_lines names why (map (loop_said_at functions names rs) ms)
  loops_are rs [] = refl
  loops_are rs (m ∷ ms) = ap₂ (λ (x y : List Added). x ++ y) (by_both m.id m.value (value_at rs m.id)) (loops_are rs ms)

  marks_are : (ms : List (At Mark)) → mark_lines_of names why (marks_without functions names ms) ≡ said_lines names why (map (loop_said_at functions names []) ms)
  marks_are [] = refl
  marks_are (m ∷ ms) =
      ap₂ (λ (x y : List Added). x ++ y)
      (by_mark m.id (mark_without functions names m.value) ∙ ap (λ (o : Option Reduction). said_lines_at names why m.id (loop_said functions names m.value o)) (sym (none_there m.id)))
      (marks_are ms)

-- of a module, with reductions or without
pub loop_lines_said : (k : Known) (why : Bool) (rs : List (At Reduction)) (ms : List (At Mark)) → loop_lines_of k why rs ms ≡ said_lines (symbol_names k.symbols) why (loops_said k rs ms)
loop_lines_said k why [] ms = marks_are (module_functions k.read) (symbol_names k.symbols) why ms
loop_lines_said k why (r ∷ rs) ms = loops_are (module_functions k.read) (symbol_names k.symbols) why (r ∷ rs) ms
