-- The results of the modules of a program, module by module.
use Rattle.std.proofs.Common.{◌≡◌, ℕ, zero, suc, List, [], ◌∷◌, Some, arith, refl}
use Rattle.std.specs.Prelude.{All as EachOf, slice_get}
use Rattle.pipsmake_base.specs.loop_marker.Results.{ModuleResults}

-- what holds of each at its place
pub each_result : (P : ModuleResults → Type 0) (fs : List ModuleResults) → ((j : ℕ) (f : ModuleResults) → slice_get fs j ≡ Some f → P f) → EachOf P fs
each_result P [] h k d l = absurd (omega (arith, l))
each_result P (f ∷ fs) h zero d l = h zero f refl
each_result P (f ∷ fs) h (suc k) d l = each_result P fs (λ j g e. h (suc j) g e) k d (omega (arith, l))
