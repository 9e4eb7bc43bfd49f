use Rattle.std.proofs.Common.{ap, subst, false}
use Rattle.std.specs.Prelude.{nat_eq}
use Rattle.std.specs.List.{list_any}
use Rattle.serde_json.specs.View.{view}
use Rattle.f77_ast.specs.Index.{names_of}
use Rattle.base_json.specs.Gives.{Gives}
use Rattle.base_json.specs.Scopes.{ScopeTree}
use Rattle.base_values.specs.Read.{value_of}
use Rattle.base_values.proofs.ScopeLaws.{same_scope}
use Rattle.base_values.proofs.read.stored_at.Goals as goal

-- the scope that is made has no exits
pub returns : goal.returns
returns c =
    let n = c.args.names.now in
    subst (λ (t : ScopeTree). Gives c.value_at.result (value_of n.numbers.now.statements n.numbers.now.loops t c.args.kind (view c.args.value.now)))
    (same_scope (names_of n.symbols.now) false _ (λ _. false) (λ k. ap (list_any (nat_eq k)) c.new-none.ensures.empty)) c.value_at.ensures
