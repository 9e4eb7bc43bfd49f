-- Steps of the search for a DO.
use Rattle.std.proofs.Common.{◌≡◌, Option, Some, None, refl}
use Rattle.f77_ast.specs.Trees.{LoopTree}
use Rattle.f77_ast.proofs.WalkLaws.{shape_calls}
use Rattle.dependence_test.specs.Finding.{or_loop}

pub found : (o q : Option LoopTree) (l : LoopTree) → Some l ≡ o → or_loop o q ≡ Some l
found None q l e = cc
found (Some k) q l e = cc

pub not_found : (o q : Option LoopTree) → None ≡ o → or_loop o q ≡ q
not_found None q e = refl
not_found (Some k) q e = cc

pub ruleset search_calls = (shape_calls, found, not_found)
