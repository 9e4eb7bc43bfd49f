-- What is found of the small program with a sum, what is written, and what the written program does.
use Rattle.std.proofs.Common.{◌≡◌, true, false, [], ◌∷◌, None, Some, refl}
use Rattle.std.specs.Prelude.{codes}
use Rattle.std.specs.Fmt.{digits}
use Rattle.std.specs.Int.{int_wrap}
use Rattle.affine_systems.specs.Terms.{var_eq, var_lt}
use Rattle.affine_systems.specs.Rows.{shape_cmp}
use Rattle.affine_systems.specs.Points.{factor_of}
use Rattle.affine_systems.specs.Normal.{gcd, divisor, is_small}
use Rattle.affine_systems.specs.Tidy.{turn_limit}
use Rattle.f77_ast.specs.Plans.{Normal}
use Rattle.f77_printer.specs.PageText.{with_text, with_comments}
use Rattle.pipsmake_base.specs.result_lines.declared.reduction.ReduceOp.TheVariants.{Sum}
use Rattle.pipsmake_base.specs.result_lines.declared.show.Show.TheVariants.{Bare}
use Rattle.laws_interleavings.specs.Marks.{Ended, OutOfPicks}
use Rattle.laws_lines.specs.Marks.MarkedLoops.{directives_of}
use Rattle.pips_top.specs.MarkedText.{loops_found}
use Rattle.pips_top.specs.Shown.{alone}
use Rattle.pips_top.specs.Written.{written}
use Rattle.pips_top.specs.SmallReduced.{program, text, text_with_directive, printed}
use Rattle.pips_top.specs.ExampleLaws.{reduction_at, with_reductions, sum_of_k, run_by, SumIsReducedSo}

is_found : reduction_at true program (codes "P") 2 ≡ Some (record { private = []; parts = record { cell = 1; op = Sum } ∷ [] })
unfolding var_eq var_lt shape_cmp factor_of gcd divisor is_small turn_limit lib.Count.ones
is_found = refl

is_none : reduction_at false program (codes "P") 2 ≡ None
unfolding var_eq var_lt shape_cmp factor_of gcd divisor is_small turn_limit lib.Count.ones
is_none = refl

-- ---- what is written

is_written_so : written with_reductions program ≡ text_with_directive
unfolding var_eq var_lt shape_cmp factor_of gcd divisor is_small turn_limit lib.Count.ones digits with_text with_comments
is_written_so = refl

is_written_alone : written (alone Bare) program ≡ text
unfolding var_eq var_lt shape_cmp factor_of gcd divisor is_small turn_limit lib.Count.ones digits with_text with_comments
is_written_alone = refl

has_directive : directives_of program.modules (loops_found with_reductions program) (codes "P") 2 ≡ Some sum_of_k
unfolding var_eq var_lt shape_cmp factor_of gcd divisor is_small turn_limit lib.Count.ones
has_directive = refl

-- ---- what it does

in_order_ends : (run_by (0 ∷ 0 ∷ [])).outcome ≡ Ended Normal
unfolding var_eq var_lt shape_cmp factor_of gcd divisor is_small turn_limit lib.Count.ones int_wrap
in_order_ends = refl

in_order_prints : (run_by (0 ∷ 0 ∷ [])).printed ≡ printed
unfolding var_eq var_lt shape_cmp factor_of gcd divisor is_small turn_limit lib.Count.ones int_wrap
in_order_prints = refl

backwards_ends : (run_by (1 ∷ 0 ∷ [])).outcome ≡ Ended Normal
unfolding var_eq var_lt shape_cmp factor_of gcd divisor is_small turn_limit lib.Count.ones int_wrap
backwards_ends = refl

backwards_prints : (run_by (1 ∷ 0 ∷ [])).printed ≡ printed
unfolding var_eq var_lt shape_cmp factor_of gcd divisor is_small turn_limit lib.Count.ones int_wrap
backwards_prints = refl

short_is_out : (run_by (1 ∷ [])).outcome ≡ OutOfPicks
unfolding var_eq var_lt shape_cmp factor_of gcd divisor is_small turn_limit lib.Count.ones int_wrap
short_is_out = refl

short_prints : (run_by (1 ∷ [])).printed ≡ []
unfolding var_eq var_lt shape_cmp factor_of gcd divisor is_small turn_limit lib.Count.ones int_wrap
short_prints = refl

pub is_reduced_so : SumIsReducedSo
is_reduced_so = record {
  found = is_found;
  none = is_none;
  written_so = is_written_so;
  written_alone = is_written_alone;
  directive = has_directive;
  in_order = (in_order_ends, in_order_prints);
  backwards = (backwards_ends, backwards_prints);
  short = (short_is_out, short_prints);
}
