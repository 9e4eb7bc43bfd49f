-- What the calls ask of the results of analyses, and what is known of the iterations of a DO by them.
use Rattle.f77_ast.specs.Trees.{LoopTree}
use Rattle.affine_systems.specs.Given.{Fits}
use Rattle.preconditions.specs.call_translation.Scopes.{scope_of}
use Rattle.preconditions.specs.transformers.Given.{ResultsFit}
use Rattle.preconditions.specs.transformers.Lists.{transformer_at}
use Rattle.preconditions.specs.Statement.{EachFits}
use Rattle.region_sets.specs.Sets.{SetFits}
use Rattle.region_sets.specs.Lists.{SetsFit, accesses_at}
use Rattle.dependence_test.specs.declared.analysis.Analysis.{Analysis}
use Rattle.dependence_test.specs.declared.body.LoopBody.{LoopBody}
use Rattle.dependence_test.specs.Body.{body_of}

-- systems that calls take
pub record AnalysisFits (a : Analysis) : Type 0 where
  pub transformers : ResultsFit a.transformers.now.at
  pub preconditions : EachFits a.preconditions.now.at
  pub regions : SetsFit a.regions.now.at
  pub ins : SetsFit a.ins.now.at
  pub outs : SetsFit a.outs.now.at

pub record BodyFits (b : LoopBody) : Type 0 where
  pub head : Fits b.head
  pub regions : SetFits b.regions

-- of a DO of the module
abbrev pub known_body : Analysis → LoopTree → LoopBody
known_body a l =
    body_of l (scope_of a.view.now.«module».now a.view.now.symbols.now a.view.now.graph.now.untracked) (transformer_at a.transformers.now.at) a.preconditions.now.at (accesses_at a.regions.now.at)
