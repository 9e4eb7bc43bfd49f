-- Rows on the subscripts of an array element.
pub use Rattle.region_translation.specs.call_equations.Rows.{constant_form, low_rows, high_rows, high_form, bound_rows, dimension_rows, subscript_rows, all_affine}
