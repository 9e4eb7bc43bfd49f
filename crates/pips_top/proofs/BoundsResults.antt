-- What is written of the small program with references to an array.
use Rattle.std.proofs.Common.{◌≡◌, refl}
use Rattle.std.specs.Fmt.{digits}
use Rattle.affine_systems.specs.Terms.{var_eq, var_lt}
use Rattle.affine_systems.specs.Rows.{shape_cmp}
use Rattle.affine_systems.specs.Points.{factor_of}
use Rattle.affine_systems.specs.Normal.{gcd, divisor, is_small}
use Rattle.affine_systems.specs.Tidy.{turn_limit}
use Rattle.f77_printer.specs.PageText.{with_text, with_comments}
use Rattle.laws_bounds.specs.bound_check.Checked.{join, statement}
use Rattle.pipsmake_base.specs.result_lines.declared.show.Show.TheVariants.{Bare}
use Rattle.pips_top.specs.ExampleLaws.{with_bounds, ReferencesAreCheckedSo}
use Rattle.pips_top.specs.Shown.{alone}
use Rattle.pips_top.specs.SmallBounds.{program, text, text_with_checks}
use Rattle.pips_top.specs.Written.{written}

is_written_so : written with_bounds program ≡ text_with_checks
unfolding var_eq var_lt shape_cmp factor_of gcd divisor is_small turn_limit lib.Count.ones digits with_text with_comments join statement
is_written_so = refl

is_written_alone : written (alone Bare) program ≡ text
unfolding var_eq var_lt shape_cmp factor_of gcd divisor is_small turn_limit lib.Count.ones digits with_text with_comments
is_written_alone = refl

pub are_checked_so : ReferencesAreCheckedSo
are_checked_so = record { written_so = is_written_so; written_alone = is_written_alone }
