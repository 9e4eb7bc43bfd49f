use Rattle.std.proofs.Common.{◌≡◌, Bool, true, sym, subst}
use Rattle.f77_ast.specs.Plain.{expr_trees}
use Rattle.same_values.proofs.TestLaws.{exprs_decides}
use Rattle.same_values.proofs.exprs.same_exprs.Goals as goal

pub returns : goal.returns
returns c = subst (λ (r : Bool). (r ≡ true → expr_trees c.args.es.now ≡ expr_trees c.args.ds.now) × (expr_trees c.args.es.now ≡ expr_trees c.args.ds.now → r ≡ true)) (sym c.exprs_test.ensures) (exprs_decides (expr_trees c.args.es.now) (expr_trees c.args.ds.now))
