-- What is said of a name, in the code's entries and in plain ones.
use Rattle.std.proofs.Common.{◌≡◌, Option, Some, None, refl}
use Rattle.std.specs.Prelude.{is_some}
use Rattle.f77_names.specs.declared.entry.Shape.{Shape}
use Rattle.f77_names.specs.Entries.{maybe_shape, shape_tree, or_this}

pub maybe_shape-or_this : (o : Option Shape) (s : Shape) → maybe_shape (or_this o s) ≡ or_this (maybe_shape o) (shape_tree s)
maybe_shape-or_this None s = refl
maybe_shape-or_this (Some t) s = refl

pub is_some-maybe_shape : (o : Option Shape) → is_some (maybe_shape o) ≡ is_some o
is_some-maybe_shape None = refl
is_some-maybe_shape (Some t) = refl

pub ruleset words = (maybe_shape-or_this, is_some-maybe_shape)
