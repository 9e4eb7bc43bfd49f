use Rattle.std.proofs.Common.{length, ap, arith}
use Rattle.session_texts.specs.pipsmake_rules.declared.kind.Kind.TheVariants.{Printed}
use Rattle.session_texts.specs.pipsmake_rules.Walk.{depth_of}
use Rattle.session_texts.specs.pipsmake_meaning.Texts.{names_in, graph_of}
use Rattle.pipsmake_db.specs.Calls.{key}
use Rattle.pipsmake_db.specs.State.{texts_of}
use Rattle.pipsmake_db.proofs.WalkedLists.{longer}
use Rattle.pipsmake_db.proofs.print.print_next.Goals as goal

pub slice_bounds-added-start : goal.slice_bounds-added-start
slice_bounds-added-start c =
    let ts = texts_of c.args.db.now in
    omega (arith, longer (names_in ts) (graph_of ts) (depth_of (graph_of ts)) c.args.walked.now.listed (key Printed c.args.name.now), ap length c.requires.same, ap length c.in_ok-walk_next.ensures.keys, ap length c.as_slice-before.ensures, ap length c.as_slice.ensures)

pub slice_bounds-added-count : goal.slice_bounds-added-count
slice_bounds-added-count c =
    let ts = texts_of c.args.db.now in
    omega (arith, longer (names_in ts) (graph_of ts) (depth_of (graph_of ts)) c.args.walked.now.listed (key Printed c.args.name.now), ap length c.requires.same, ap length c.in_ok-walk_next.ensures.keys, ap length c.as_slice-before.ensures, ap length c.as_slice.ensures)
