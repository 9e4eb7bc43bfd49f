use Rattle.std.proofs.Common.{◌≡◌, List, map, sym, subst}
use Rattle.std.proofs.lemmas.Result.{IfOk-weaker}
use Rattle.f77_ast.specs.PlainStmt.{stmt_trees}
use Rattle.f77_ast.specs.Symbols.{symbol_tree}
use Rattle.array_regions.specs.transformers.Lists.{transformer_at}
use Rattle.array_regions.specs.region_sets.declared.region.Region.{Region}
use Rattle.in_out_regions.specs.Lists.{list_in}
use Rattle.in_out_regions.specs.ListClaims.{HasListIn, HasListInAlone}
use Rattle.in_out_regions.proofs.ListLaws.{list_sound, list_sharp}
use Rattle.in_out_regions.proofs.lists.list_in.Goals as goal
use Rattle.array_regions.specs.region_sets.Lists.{set_at}

pub returns-clause-sound : goal.returns-clause-sound
returns-clause-sound c =
    let ss = map symbol_tree c.args.view.now.symbols.now in
    let t = transformer_at c.args.own.now.at in
    let f = set_at c.args.regions.now in
    let g = set_at c.args.ins.now in
    let b = stmt_trees c.args.list.now in
    let P = HasListIn t f g c.args.whole b in
    IfOk-weaker c.of_list.result (λ (qs : List Region). qs ≡ list_in ss t f g c.args.whole b) P (λ qs e. subst P (sym e) (list_sound ss t f g c.args.whole b)) c.of_list.ensures.defined

pub returns-clause-exact : goal.returns-clause-exact
returns-clause-exact c =
    let ss = map symbol_tree c.args.view.now.symbols.now in
    let t = transformer_at c.args.own.now.at in
    let f = set_at c.args.regions.now in
    let g = set_at c.args.ins.now in
    let b = stmt_trees c.args.list.now in
    let P = HasListInAlone ss t f g c.args.whole b in
    IfOk-weaker c.of_list.result (λ (qs : List Region). qs ≡ list_in ss t f g c.args.whole b) P (λ qs e. subst P (sym e) (list_sharp ss t f g c.args.whole b)) c.of_list.ensures.defined
