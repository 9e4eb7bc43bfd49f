use Rattle.std.proofs.Common.{◌≡◌, List, map, ap, ◌∙◌, subst}
use Rattle.std.specs.Prelude.{IfOk, []}
use Rattle.f77_ast.specs.PlainDecl.{parsed_tree}
use Rattle.f77_ast.specs.Symbols.{symbol_tree}
use Rattle.f77_ast.specs.declared.variable.Unit.{Unit as BlockUnit}
use Rattle.tracked_cells.specs.Scalars.{all_scalars, keyed}
use Rattle.tracked_cells.specs.Untracked.{untrackable, untracked_of}
use Rattle.tracked_cells.proofs.untracked.untracked_of.Goals as goal

pub returns : goal.returns
returns c =
    let ps = map parsed_tree c.args.modules.now in
    let sss = map (map symbol_tree) c.args.tables.now in
    let order : keyed c.as_slice.result.now ≡ all_scalars sss [] = ap keyed (c.as_slice.ensures.value ∙ c.in_ok-keys.ensures) ∙ c.in_ok-units.ensures in
    let made : untrackable c.in_ok-names.names sss (keyed c.as_slice.result.now) ≡ untracked_of ps sss = λ i. untrackable (c.in_ok-names.ensures i) sss (order i) in
    subst (λ (us : List BlockUnit). IfOk c.untrackable.result (λ units. units ≡ us)) made c.untrackable.ensures
