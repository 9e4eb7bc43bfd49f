use Rattle.std.proofs.Common.{◌≡◌, ◌≤◌, List, length, map, None, sym, ap, ◌∙◌, arith}
use Rattle.std.specs.Prelude.{Ok}
use Rattle.f77_ast.specs.DeclTrees.{ParsedTree}
use Rattle.f77_ast.specs.PlainDecl.{parsed_tree}
use Rattle.f77_ast.specs.Symbols.{SymbolTree, symbol_tree}
use Rattle.call_graph.specs.Callees.{unfit_from}
use Rattle.call_graph.specs.Links.{unfit, acyclic_of}
use Rattle.call_graph.proofs.LinkLaws.{refused_by, passed}
use Rattle.call_graph.proofs.links.link_distinct.Goals as goal

pub returns-in-Some : goal.returns-in-Some
returns-in-Some c =
    let ps = map parsed_tree c.args.modules.now in
    let sss = map (map symbol_tree) c.args.tables.now in
    let named = c.requires.named in
    let called = c.in_ok-calls.ensures in
    refused_by (unfit ps sss) c.in-Some.fault c.refusal_of.result (acyclic_of ps sss) (sym (c.in-Some.ensures ∙ (λ i. unfit_from 0 ps (called i) (named i) ps sss))) c.refusal_of.ensures

pub returns : goal.returns
returns c =
    let ps = map parsed_tree c.args.modules.now in
    let sss = map (map symbol_tree) c.args.tables.now in
    let named = c.requires.named in
    let called = c.in_ok-calls.ensures in
    passed (unfit ps sss) c.link_fitting.result (acyclic_of ps sss) (sym (c.in-None.ensures ∙ (λ i. unfit_from 0 ps (called i) (named i) ps sss))) c.link_fitting.ensures
