use Rattle.std.proofs.Common.{◌≡◌, List, Some, map, subst}
use Rattle.std.specs.Prelude.{option_map}
use Rattle.f77_ast.specs.PlainDecl.{parsed_tree}
use Rattle.f77_ast.specs.Symbols.{symbol_tree}
use Rattle.pipsmake_db.specs.pipsmake_meaning.Definitions.{module_named}
use Rattle.pipsmake_db.specs.pipsmake_meaning.Texts.{ModuleText, ReadModule}
use Rattle.pipsmake_base.proofs.FittingLaws.{module_fits, if_ok}
use Rattle.pipsmake_base.proofs.results.push_module.Goals as goal

pub returns-clause-fits : goal.returns-clause-fits
returns-clause-fits c =
    let d = c.args.db.now in
    let x = c.args.name.now in
    let ss = c.in-Some.symbols.now in
    let p = c.in-Some-parsed_named.parsed.now in
    let table = subst (λ (ts : List ModuleText). Some (map symbol_tree ss) ≡ option_map (λ (m : ReadModule). m.table) (module_named ts x)) c.sources-sources.ensures c.in-Some.ensures in
    let tree = subst (λ (ts : List ModuleText). Some (parsed_tree p) ≡ option_map (λ (m : ReadModule). m.module_is) (module_named ts x)) c.sources-sources.ensures c.in-Some-parsed_named.ensures in
    if_ok c.push_kinds.result (module_fits d x ss p c.in_ok-numbers.numbers.statements c.in_ok-numbers.numbers.loops table tree c.in_ok-numbers.ensures.statements c.in_ok-numbers.ensures.loops)
    c.push_kinds.ensures.fits
