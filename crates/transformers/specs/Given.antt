-- What the calls ask of summaries and of results at statements, and what they give: systems that further calls take.
use Rattle.std.specs.Prelude.{ℕ, List, [], ◌∷◌, Option}
use Rattle.affine_systems.specs.Given.{Fits}
use Rattle.f77_ast.specs.declared.results.At.{At}
use Rattle.f77_ast.specs.Summaries.{SummaryTree}
use Rattle.call_translation.specs.transformer_algebra.declared.transformer.Transformer.{Transformer}
use Rattle.call_translation.specs.Summary.{SummaryFits}

-- the summary of the module of a name
abbrev pub Callees : Type 0
Callees = List ℕ → Option (SummaryTree Transformer)

-- each of the summaries
abbrev pub CalleesFit : Callees → Type 0
CalleesFit cs = (x : List ℕ) → SummaryFits (cs x)

-- each of the results
abbrev pub ResultsFit : List (At Transformer) → Type 0
ResultsFit [] = Unit {0}
ResultsFit (a ∷ as') = Fits a.value.system × ResultsFit as'
