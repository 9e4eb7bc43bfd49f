use Rattle.std.proofs.Common.{◌≡◌, ◌-◌, List, map, sym, ap, ◌∙◌, subst, arith}
use Rattle.std.specs.Prelude.{IfOk}
use Rattle.f77_ast.specs.Plain.{expr_trees}
use Rattle.f77_ast.specs.declared.variable.Variable.{Variable}
use Rattle.f77_ast.specs.Symbols.{symbol_tree}
use Rattle.effects.specs.Callee.{actual_variable}
use Rattle.effects.proofs.CalleeLaws.{actual-none, actual-some}
use Rattle.effects.proofs.callee.actual_variable.Goals as goal

pub returns-in-None : goal.returns-in-None
returns-in-None c =
    let es = c.args.actuals.now in
    let ss = map symbol_tree c.args.symbols.now in
    let e : c.saturating_sub-place.result ≡ c.args.dummy - 1 = omega arith in
    c.new.ensures ∙ sym (actual-none es c.saturating_sub-place.result ss (sym c.in-None.ensures)) ∙ ap (λ n. actual_variable (expr_trees es) n ss) e

pub returns-in-Some : goal.returns-in-Some
returns-in-Some c =
    let es = c.args.actuals.now in
    let ss = map symbol_tree c.args.symbols.now in
    let e : c.saturating_sub-place.result ≡ c.args.dummy - 1 = omega arith in
    let same = sym (actual-some es c.saturating_sub-place.result ss c.in-Some.actual.now (sym c.in-Some.ensures)) ∙ ap (λ n. actual_variable (expr_trees es) n ss) e in
    subst (λ (ws : List Variable). IfOk c.variable_named.result (λ vs. vs ≡ ws)) same c.variable_named.ensures
