-- What the analyses give of the small programs with a function.
use Rattle.std.proofs.Common.{◌≡◌, [], ◌∷◌, Some, refl}
use Rattle.std.specs.Prelude.{codes}
use Rattle.std.specs.Fmt.{digits}
use Rattle.affine_systems.specs.Terms.{var_eq, var_lt}
use Rattle.affine_systems.specs.Rows.{shape_cmp}
use Rattle.affine_systems.specs.Points.{factor_of}
use Rattle.affine_systems.specs.Normal.{gcd, divisor, is_small}
use Rattle.affine_systems.specs.Tidy.{turn_limit}
use Rattle.f77_ast.specs.declared.marks.Mark.TheVariants.{Parallel}
use Rattle.f77_printer.specs.PageText.{with_text, with_comments}
use Rattle.pipsmake_base.specs.result_lines.declared.show.Show.TheVariants.{Bare}
use Rattle.pips_top.specs.Shown.{alone}
use Rattle.pips_top.specs.Written.{written}
use Rattle.pips_top.specs.SmallFunction as small
use Rattle.pips_top.specs.SmallParallel as parallel
use Rattle.pips_top.specs.ExampleLaws.{does_at, holds_at, mark_at, turns_do, both_are_three, at_entry, FunctionIsAnalysedSo, FunctionIsPrivateSo}

-- ---- the program with a DO WHILE

turns_do_so : does_at small.program (codes "P") 2 ≡ Some turns_do
unfolding var_eq var_lt shape_cmp factor_of gcd divisor is_small turn_limit lib.Count.ones
turns_do_so = refl

are_three : holds_at small.program (codes "P") 4 ≡ Some both_are_three
unfolding var_eq var_lt shape_cmp factor_of gcd divisor is_small turn_limit lib.Count.ones
are_three = refl

called_so : holds_at small.program (codes "F") 1 ≡ Some at_entry
unfolding var_eq var_lt shape_cmp factor_of gcd divisor is_small turn_limit lib.Count.ones
called_so = refl

pub is_analysed_so : FunctionIsAnalysedSo
is_analysed_so = record { turns = turns_do_so; after = are_three; called = called_so }

-- ---- the program with a loop

marked_so : mark_at parallel.program (codes "P") 1 ≡ Some (Parallel (2 ∷ []))
unfolding var_eq var_lt shape_cmp factor_of gcd divisor is_small turn_limit lib.Count.ones
marked_so = refl

is_written_so : written (alone Bare) parallel.program ≡ parallel.text
unfolding var_eq var_lt shape_cmp factor_of gcd divisor is_small turn_limit lib.Count.ones digits with_text with_comments
is_written_so = refl

pub is_private_so : FunctionIsPrivateSo
is_private_so = record { marked = marked_so; written_so = is_written_so }
