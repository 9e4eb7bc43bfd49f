use Rattle.std.proofs.Common.{◌≡◌, true, false, subst}
use Rattle.std.specs.Prelude.{IfOk}
use Rattle.f77_ast.specs.Index.{names_of}
use Rattle.base_json.specs.Scopes.{ScopeTree}
use Rattle.base_values.specs.Naming.{SystemFits}
use Rattle.base_values.proofs.ScopeLaws.{same_scope}
use Rattle.base_takes.proofs.check_rows.exit_system_fits.Goals as goal

-- the scope that is made has the exits of these cells
pub returns : goal.returns
returns c =
    subst (λ (t : ScopeTree). IfOk c.system_fits.result (λ b. b ≡ true → SystemFits t c.args.system.now))
    (same_scope (names_of c.args.symbols.now) false _ _ (λ n. c.in_ok-exits.ensures.0 n)) c.system_fits.ensures
