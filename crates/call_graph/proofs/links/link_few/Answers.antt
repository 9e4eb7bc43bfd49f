use Rattle.std.proofs.Common.{◌≡◌, ◌≤◌, List, length, map, None, sym, ap, ◌∙◌, arith}
use Rattle.std.specs.Prelude.{Ok}
use Rattle.f77_ast.specs.DeclTrees.{ParsedTree}
use Rattle.f77_ast.specs.PlainDecl.{parsed_tree}
use Rattle.f77_ast.specs.Symbols.{SymbolTree, symbol_tree}
use Rattle.call_graph.specs.Links.{module_fault, joined_of}
use Rattle.call_graph.proofs.LinkLaws.{refused_by, passed}
use Rattle.call_graph.proofs.links.link_few.Goals as goal

pub returns-in-Some : goal.returns-in-Some
returns-in-Some c =
    let ps = map parsed_tree c.args.modules.now in
    let sss = map (map symbol_tree) c.args.tables.now in
    refused_by (module_fault ps) c.in-Some.fault c.refusal_of.result (joined_of ps sss) (sym c.in-Some.ensures) c.refusal_of.ensures

pub returns : goal.returns
returns c =
    let ps = map parsed_tree c.args.modules.now in
    let sss = map (map symbol_tree) c.args.tables.now in
    passed (module_fault ps) c.link_distinct.result (joined_of ps sss) (sym c.in-None.ensures) c.link_distinct.ensures
