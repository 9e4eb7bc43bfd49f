use Rattle.std.proofs.Common.{◌≡◌, List, subst}
use Rattle.std.specs.Prelude.{IfOk}
use Rattle.f77_printer.specs.declared.added.Added.{Added}
use Rattle.call_graph.specs.declared.view.View.{View}
use Rattle.pipsmake_base.specs.loop_marker.dependence_test.declared.analysis.Analysis.{Analysis}
use Rattle.pips_top.proofs.Analysed.{lines_apart}
use Rattle.pips_top.proofs.kept.lines_of.Goals as goal

pub returns : goal.returns
returns c =
    let k = c.args.kept.now in
    let v : View = record { «module» = k.«module»; symbols = k.symbols; graph = k.graph } in
    let a : Analysis = record {
      view = record { ref_ptr = c.args.kept.ref_ptr; now = v };
      effects = k.effects;
      transformers = k.transformers;
      preconditions = k.preconditions;
      regions = k.regions;
      ins = k.ins;
      outs = k.outs;
    } in
    subst (λ (ls : List Added). IfOk c.lines_reduced.result (λ lines. lines ≡ ls)) (lines_apart c.args.wanted a k.marks.now) c.lines_reduced.ensures
