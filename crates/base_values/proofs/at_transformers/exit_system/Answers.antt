use Rattle.std.proofs.Common.{subst}
use Rattle.std.specs.Prelude.{codes}
use Rattle.serde_json.specs.View.{view}
use Rattle.f77_ast.specs.Index.{names_of}
use Rattle.base_json.specs.Gives.{Gives}
use Rattle.base_json.specs.Shapes.{member_as}
use Rattle.base_json.specs.Scopes.{ScopeTree}
use Rattle.base_json.specs.Read.{system_of}
use Rattle.base_values.proofs.ScopeLaws.{same_scope}
use Rattle.base_values.proofs.at_transformers.exit_system.Goals as goal

-- the scope that is made has the exits of these cells
pub returns : goal.returns
returns c =
    let s = c.args.scope.now.cells in
    subst (λ (t : ScopeTree). Gives c.field.result (member_as (system_of t) (codes "system") (view c.args.value.now)))
    (same_scope (names_of s.symbols.now) s.phi _ _ (λ n. c.in_ok-exits.ensures.0 n)) c.field.ensures
