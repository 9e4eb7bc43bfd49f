use Rattle.std.proofs.Common.{◌≡◌, ℕ, List, ◌++◌, Some, get_or, sym, ap, ap₂, ◌∙◌}
use Rattle.std.proofs.lemmas.List.Elements.{All-pop}
use Rattle.f77_ast.specs.declared.stmt.Stmt.{Stmt}
use Rattle.f77_ast.specs.PlainStmt.{stmt_tree}
use Rattle.in_out_regions.specs.region_sets.declared.region.Region.{Region}
use Rattle.out_regions.specs.Contexts.{known_in, RestFits}
use Rattle.out_regions.specs.Lists.{rest_out}
use Rattle.out_regions.specs.Statement.{at_first}
use Rattle.out_regions.proofs.RestLaws.{taken-rest, taken-left, at-step}
use Rattle.out_regions.proofs.statement.+outs.Goals as goal

pub put_rest-loop-s-preserved : goal.put_rest-loop-s-preserved
put_rest-loop-s-preserved t c =
    let k = known_in c.args.known.now in
    let w = c.args.whole in
    let ss = c.as_slice-s-items.result.now in
    let i = c.loop-s.s-index in
    let s = c.s-item.result in
    let l = c.loop-s-test.true in
    let rests = c.loop-s.rests.items in
    let left = c.pop.new.self.items in
    let r = c.in-Some.rest in
    record {
      rests = taken-left k w ss i s l rests left r c.loop-s.invariant.rests c.in-Some.ensures.items;
      rests_fit = (All-pop RestFits _ _ (Some r) c.in-Some.ensures.items c.loop-s.invariant.rests_fit).0;
      added = at-step k w ss i s l c.loop-s.current c.in_ok-current-in-Some.current r c.loop-s.at c.put_first.new.at _
          (taken-rest k w ss i s l rests left r c.loop-s.invariant.rests c.in-Some.ensures.items)
          (c.in_ok-current-in-Some.ensures.defined ∙ ap₂ (λ (x : Stmt) (o : List Region). rest_out k x.id r o) c.s-item.is c.as_slice-in-Some-2.ensures)
          (c.in_ok-put_first-in-Some.ensures.added ∙ ap₂ (λ (x : Stmt) (o : List Region). c.loop-s.at ++ at_first w (stmt_tree x) k r o) c.s-item.is c.as_slice-in-Some.ensures)
          c.loop-s.invariant.added;
      current = c.in_ok-current-in-Some.ensures.fits;
      fits = c.in_ok-put_first-in-Some.ensures.fits;
    }
