use Rattle.std.proofs.Common.{◌≡◌, List, sym, subst}
use Rattle.std.proofs.lemmas.Result.{IfOk-weaker}
use Rattle.f77_ast.specs.PlainStmt.{stmt_trees}
use Rattle.transformers.specs.Lists.{transformer_at}
use Rattle.region_sets.specs.declared.region.Region.{Region}
use Rattle.region_sets.specs.Lists.{accesses_at, list_regions}
use Rattle.region_sets.specs.Laws.{HasList, HasListAlone}
use Rattle.region_sets.proofs.StepLaws.{list_sound, list_sharp}
use Rattle.region_sets.proofs.list.list_regions.Goals as goal

pub returns-clause-sound : goal.returns-clause-sound
returns-clause-sound c =
    let t = transformer_at c.args.own.now.at in
    let f = accesses_at c.args.at.now in
    let b = stmt_trees c.args.list.now in
    let P = HasList t f c.args.whole b in
    IfOk-weaker c.of_list.result (λ (qs : List Region). qs ≡ list_regions t f c.args.whole b) P (λ qs e. subst P (sym e) (list_sound t f c.args.whole b)) c.of_list.ensures.defined

pub returns-clause-exact : goal.returns-clause-exact
returns-clause-exact c =
    let t = transformer_at c.args.own.now.at in
    let f = accesses_at c.args.at.now in
    let b = stmt_trees c.args.list.now in
    let P = HasListAlone t f c.args.whole b in
    IfOk-weaker c.of_list.result (λ (qs : List Region). qs ≡ list_regions t f c.args.whole b) P (λ qs e. subst P (sym e) (list_sharp t f c.args.whole b)) c.of_list.ensures.defined
