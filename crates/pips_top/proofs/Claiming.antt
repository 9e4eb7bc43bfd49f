-- What a claim on the number of K says of the run.
use Rattle.std.proofs.Common.{◌≡◌, [], refl, subst, ℤ, pos, ◌<◌, arith}
use Rattle.std.specs.Prelude.{◌+ℤ◌, ◌*ℤ◌, IfSome}
use Rattle.affine_systems.specs.Terms.{number}
use Rattle.affine_systems.specs.Points.{HoldsAll}
use Rattle.f77_ast.specs.Claims.{number_in}
use Rattle.f77_meaning.specs.Modules.{Known}
use Rattle.f77_meaning.specs.Linked.{no_module}
use Rattle.f77_meaning.specs.Occurrences.{Occurrence}
use Rattle.f77_meaning.specs.Claims.{PreconditionHolds}
use Rattle.laws_bounds.specs.laws_analyses.Statements.Results.{SystemHolds}
use Rattle.laws_bounds.specs.laws_analyses.Claims.{AnalysisHolds, precondition_in, is_tracked}
use Rattle.pips_top.specs.Small.{graph}
use Rattle.pips_top.specs.ExampleLaws.{k_is, says, WrongClaimFails}

-- where the PRINT begins K has the number that the claim says
said_of_k : (m : Known) (n : ℤ) (x : Occurrence) → AnalysisHolds graph (says m n) x → x.spot.statement ≡ 4 → (pos 1 *ℤ number_in x.start x.places 2) +ℤ pos 0 ≡ n
said_of_k m n x h e =
    let here : IfSome (precondition_in (says m n) 4) (λ s. PreconditionHolds (is_tracked graph (says m n)) (SystemHolds s) x) = subst (λ j. IfSome (precondition_in (says m n) j) (λ s. PreconditionHolds (is_tracked graph (says m n)) (SystemHolds s) x)) e h.precondition in
    let row : HoldsAll (λ v. number_in x.start x.places (number v)) (k_is n).rows = here (number_in x.start x.places) (λ c t. refl) (λ v. number_in x.start x.places (number v)) (λ c. refl) in
    row.0

four_is_not_five : pos 4 ≡ pos 5 → ⊥
four_is_not_five e = cc

pub wrong_fails : WrongClaimFails
wrong_fails h =
    let first : 0 < 1 = omega arith in
    four_is_not_five (said_of_k _ (pos 5) _ ((h 0 []).1.2.2.0 0 (says no_module (pos 5)) first refl) refl)
