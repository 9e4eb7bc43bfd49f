use Rattle.std.proofs.Common.{◌≡◌, ◌≤◌, List, length, map, None, sym, ap, ◌∙◌, arith}
use Rattle.std.specs.Prelude.{Ok}
use Rattle.f77_ast.specs.DeclTrees.{ParsedTree}
use Rattle.f77_ast.specs.PlainDecl.{parsed_tree}
use Rattle.f77_ast.specs.Symbols.{SymbolTree, symbol_tree}
use Rattle.call_graph.specs.Callees.{all_places}
use Rattle.call_graph.specs.Recursion.{reaches, cyclic_from}
use Rattle.call_graph.specs.Links.{callees_of, cyclic, graph_from, graph_of, program_calls}
use Rattle.call_graph.proofs.LinkLaws.{refused_by, passed, length-all_places, length-all_calls}
use Rattle.call_graph.proofs.links.link_fitting.Goals as goal
use Rattle.fx_lists.proofs.Lists.{map_length as length-map}

pub recursion-requires-clause-few_callees : goal.recursion-requires-clause-few_callees
recursion-requires-clause-few_callees c =
    let ps = map parsed_tree c.args.modules.now in
    let sss = map (map symbol_tree) c.args.tables.now in
    omega
    (arith, ap length c.in_ok-callees.ensures, length-all_places c.args.names.now c.args.calls.now, ap length c.requires.called, length-all_calls ps sss, length-map parsed_tree c.args.modules.now, c.requires.few)

pub recursion-requires-clause-one_each : goal.recursion-requires-clause-one_each
recursion-requires-clause-one_each c = sym (ap length c.in_ok-callees.ensures ∙ length-all_places c.args.names.now c.args.calls.now)

pub graph_of-requires : goal.graph_of-requires
graph_of-requires c =
    let ps = map parsed_tree c.args.modules.now in
    let sss = map (map symbol_tree) c.args.tables.now in
    omega
    (arith, ap length c.in_ok-callees.ensures, length-all_places c.args.names.now c.args.calls.now, ap length c.requires.called, length-all_calls ps sss, length-map parsed_tree c.args.modules.now, c.requires.few)

pub returns-in-Some : goal.returns-in-Some
returns-in-Some c =
    let ps = map parsed_tree c.args.modules.now in
    let sss = map (map symbol_tree) c.args.tables.now in
    let named = c.requires.named in
    let called = c.requires.called in
    let places : c.in_ok-callees.callees ≡ callees_of ps sss = c.in_ok-callees.ensures ∙ (λ i. all_places (named i) (called i)) in
    let is : c.in_ok-found.found ≡ cyclic ps sss = c.in_ok-found.ensures ∙ (λ i. cyclic_from (reaches (places i)) 0 ps (called i) (named i)) in
    refused_by (cyclic ps sss) c.in-Some.fault c.refusal_of.result (Ok (graph_of ps sss)) (sym is ∙ c.in-Some.is) c.refusal_of.ensures

pub returns : goal.returns
returns c =
    let ps = map parsed_tree c.args.modules.now in
    let sss = map (map symbol_tree) c.args.tables.now in
    let named = c.requires.named in
    let called = c.requires.called in
    let places : c.in_ok-callees.callees ≡ callees_of ps sss = c.in_ok-callees.ensures ∙ (λ i. all_places (named i) (called i)) in
    let is : c.in_ok-found.found ≡ cyclic ps sss = c.in_ok-found.ensures ∙ (λ i. cyclic_from (reaches (places i)) 0 ps (called i) (named i)) in
    let made : c.in_ok-graph-in-None.graph ≡ graph_of ps sss = c.in_ok-graph-in-None.ensures ∙ (λ i. graph_from ps sss (named i) (called i) (places i)) in
    passed (cyclic ps sss) (Ok c.in_ok-graph-in-None.graph) (Ok (graph_of ps sss)) (sym is ∙ c.in-None.is) (ap Ok (sym made))
