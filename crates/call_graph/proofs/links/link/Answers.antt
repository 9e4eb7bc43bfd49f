use Rattle.std.proofs.Common.{◌≡◌, ◌≤◌, List, length, map, None, sym, ap, ◌∙◌, arith}
use Rattle.std.specs.Prelude.{Ok}
use Rattle.f77_ast.specs.DeclTrees.{ParsedTree}
use Rattle.f77_ast.specs.PlainDecl.{parsed_tree}
use Rattle.f77_ast.specs.Symbols.{SymbolTree, symbol_tree}
use Rattle.call_graph.specs.Modules.{too_many}
use Rattle.call_graph.specs.Links.{named_of}
use Rattle.call_graph.proofs.LinkLaws.{refused_by, passed, few}
use Rattle.call_graph.proofs.links.link.Goals as goal
use Rattle.fx_lists.proofs.Lists.{map_length as length-map}

pub returns-in-Some : goal.returns-in-Some
returns-in-Some c =
    let ps = map parsed_tree c.args.modules.now in
    let sss = map (map symbol_tree) c.args.tables.now in
    refused_by (too_many ps) c.in-Some.fault c.refusal_of.result (named_of ps sss) (sym c.in-Some.ensures) c.refusal_of.ensures

pub link_few-requires : goal.link_few-requires
link_few-requires c =
    omega (arith, few (map parsed_tree c.args.modules.now) (sym c.in-None.ensures), length-map parsed_tree c.args.modules.now)

pub returns-in-None : goal.returns-in-None
returns-in-None c =
    let ps = map parsed_tree c.args.modules.now in
    let sss = map (map symbol_tree) c.args.tables.now in
    passed (too_many ps) c.link_few.result (named_of ps sss) (sym c.in-None.ensures) c.link_few.ensures
