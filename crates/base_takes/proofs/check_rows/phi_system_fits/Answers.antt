use Rattle.std.proofs.Common.{◌≡◌, true, false, ap, subst}
use Rattle.std.specs.Prelude.{nat_eq, IfOk}
use Rattle.std.specs.List.{list_any}
use Rattle.f77_ast.specs.Index.{names_of}
use Rattle.base_json.specs.Scopes.{ScopeTree}
use Rattle.base_values.specs.Naming.{SystemFits}
use Rattle.base_values.proofs.ScopeLaws.{same_scope}
use Rattle.base_takes.proofs.check_rows.phi_system_fits.Goals as goal

-- the scope that is made has no exits
pub returns : goal.returns
returns c =
    subst (λ (t : ScopeTree). IfOk c.system_fits.result (λ b. b ≡ true → SystemFits t c.args.system.now))
    (same_scope (names_of c.args.symbols.now) true _ (λ _. false) (λ k. ap (list_any (nat_eq k)) c.new-none.ensures.empty)) c.system_fits.ensures
