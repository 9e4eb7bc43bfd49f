use Rattle.std.proofs.Common.{◌≡◌, Bool, true, sym, subst}
use Rattle.f77_ast.specs.PlainDecl.{module_tree}
use Rattle.same_values.proofs.DeclLaws.{module_decides}
use Rattle.same_values.proofs.modules.same_module.Goals as goal

pub returns : goal.returns
returns c =
    let a = module_tree c.args.a.now in
    let b = module_tree c.args.b.now in
    subst (λ (r : Bool). (r ≡ true → a ≡ b) × (a ≡ b → r ≡ true)) (sym c.module_test.ensures) (module_decides a b)
