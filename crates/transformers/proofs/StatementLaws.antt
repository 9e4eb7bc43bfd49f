-- What is known of statements and their parts, and of a list into which a place is filled later.
use Rattle.std.proofs.Common.{◌≡◌, ℕ, zero, suc, ◌+◌, ◌-◌, ◌<◌, Bool, List, [], ◌∷◌, ◌++◌, length, drop, refl, ap, ◌∙◌, append_assoc, append-nil}
use Rattle.affine_systems.specs.Given.{Fits}
use Rattle.f77_ast.proofs.PlainlyStmt.{what_calls, list_calls, loop_calls as do_calls, arm_calls as if_calls}
use Rattle.f77_ast.specs.declared.results.At.{At}
use Rattle.call_translation.specs.transformer_algebra.declared.transformer.Transformer.{Transformer}
use Rattle.transformers.specs.Given.{ResultsFit}
use Rattle.transformers.proofs.Steps.{results-push}
use Rattle.call_translation.proofs.TransformerAlgebra.Shared.{fits-push}

pub ruleset part_calls = (what_calls, results-push, append_assoc, append-nil)

pub ruleset statement_calls = (list_calls, fits-push, append_assoc, append-nil)

pub ruleset body_calls = (do_calls, append_assoc, append-nil)

pub ruleset arm_calls = (if_calls, fits-push, append_assoc, append-nil)

-- results of which one is another
pub fits-other : (xs ys : List (At Transformer)) (x y : At Transformer) → ResultsFit (xs ++ x ∷ ys) → Fits y.value.system → ResultsFit (xs ++ y ∷ ys)
fits-other [] ys x y h f = (f, h.1)
fits-other (z ∷ xs) ys x y h f = (h.0, fits-other xs ys x y h.1 f)
