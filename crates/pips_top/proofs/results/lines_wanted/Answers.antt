use Rattle.std.proofs.Common.{◌≡◌, List, refl, sym, ◌∙◌, subst}
use Rattle.std.specs.Prelude.{IfOk}
use Rattle.f77_printer.specs.declared.added.Added.{Added}
use Rattle.call_graph.specs.declared.view.View.{View}
use Rattle.pipsmake_base.specs.loop_marker.Views.{results_tree}
use Rattle.pipsmake_base.specs.loop_marker.dependence_test.declared.analysis.Analysis.{Analysis}
use Rattle.pips_top.proofs.Alone.{wanted_alone}
use Rattle.pips_top.proofs.Analysed.{lines_are}
use Rattle.pips_top.proofs.results.lines_wanted.Goals as goal

pub returns-then-is_alone : goal.returns-then-is_alone
returns-then-is_alone c =
    let f = results_tree c.args.results.now in
    subst (λ (ls : List Added). IfOk c.lines_on.result (λ lines. lines ≡ ls)) (sym (wanted_alone c.args.wanted c.args.graph.now f (sym c.is_alone.ensures ∙ c.if-is_alone.true))) c.lines_on.ensures

pub returns : goal.returns
returns c =
    let r = c.args.results.now in
    let p = c.args.results.ref_ptr in
    let f = results_tree r in
    let v : View = record { «module» = r.«module»; symbols = r.symbols; graph = c.args.graph } in
    let a : Analysis = record {
      view = record { ref_ptr = p; now = v };
      effects = record { ref_ptr = p; now = r.effects };
      transformers = record { ref_ptr = p; now = r.transformers };
      preconditions = record { ref_ptr = p; now = r.preconditions };
      regions = record { ref_ptr = p; now = r.regions };
      ins = record { ref_ptr = p; now = r.ins };
      outs = record { ref_ptr = p; now = r.outs };
    } in
    subst (λ (ls : List Added). IfOk c.lines_reduced.result (λ lines. lines ≡ ls)) (lines_are c.args.wanted a r.marks c.args.graph.now f refl) c.lines_reduced.ensures
