use Rattle.std.proofs.Common.{map, ap}
use Rattle.f77_ast.specs.PlainDecl.{parsed_tree}
use Rattle.f77_ast.specs.Symbols.{symbol_tree}
use Rattle.call_graph.specs.Links.{link_of}
use Rattle.pips_top.specs.Reading.{graph_or}
use Rattle.pips_top.proofs.LinkLaws.{refused_links}
use Rattle.pips_top.proofs.reading.graph_of.Goals as goal

pub returns-in-Ok : goal.returns-in-Ok
returns-in-Ok c = ap graph_or c.in-Ok.ensures

pub returns-in-Err : goal.returns-in-Err
returns-in-Err c =
    let found = link_of (map parsed_tree c.args.modules.now) (map (map symbol_tree) c.args.tables.now) in
    refused_links found c.in-Err.refusal c.in_reading.result c.in_reading.ensures c.in-Err.ensures
