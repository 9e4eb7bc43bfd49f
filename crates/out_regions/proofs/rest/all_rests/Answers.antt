use Rattle.std.proofs.Common.{◌≡◌, ℕ, ◌+◌, ◌-◌, ◌<◌, ◌≤◌, List, [], All, length, drop, get_or, reverse, arith, refl, sym, ap, subst, ◌∙◌}
use Rattle.std.proofs.lemmas.List.Elements.{All-push}
use Rattle.f77_ast.specs.declared.stmt.Stmt.{Stmt}
use Rattle.f77_ast.specs.PlainStmt.{stmt_trees}
use Rattle.out_regions.specs.Contexts.{known_in, RestFits}
use Rattle.out_regions.specs.Lists.{rest_of, rest_before, rests_behind}
use Rattle.out_regions.specs.declared.rest.Rest.{Rest}
use Rattle.out_regions.proofs.RestLaws.{rest-step, behind-step, rest-end, behind-end, from-here, none-fit}
use Rattle.out_regions.proofs.rest.all_rests.Goals as goal

pub loop-left-init : goal.loop-left-init
loop-left-init c =
    let k = known_in c.args.known.now in
    let w = c.args.whole in
    let ss = c.args.list.now in
    let n = length ss in
    let all : n ≤ n = omega arith in
    record {
      within = all;
      same = behind-end k w ss n c.new-rests.result.items all c.new-rests.ensures.items;
      current = rest-end k w ss n c.nothing-current.result all (c.nothing-current.ensures.defined k w);
      current_fits = c.nothing-current.ensures.fits;
      fits = none-fit c.new-rests.result.items c.new-rests.ensures.items;
    }

pub loop-left-preserved : goal.loop-left-preserved
loop-left-preserved c =
    let k = known_in c.args.known.now in
    let w = c.args.whole in
    let ss = c.args.list.now in
    let i = c.loop-left.left - 1 in
    let s = c.index-list-left.result in
    let next : c.loop-left.left ≡ i + 1 = omega (arith, c.loop-left-test.true) in
    let l : i < length ss = omega (arith, c.loop-left.invariant.within, c.loop-left-test.true) in
    let after = c.loop-left.current in
    let current : after ≡ rest_of k w (stmt_trees (drop (i + 1) ss)) = subst (λ (n : ℕ). after ≡ rest_of k w (stmt_trees (drop n ss))) next c.loop-left.invariant.current in
    let same : reverse c.loop-left.rests.items ≡ rests_behind k w (stmt_trees (drop (i + 1) ss)) =
    subst (λ (n : ℕ). reverse c.loop-left.rests.items ≡ rests_behind k w (stmt_trees (drop n ss))) next c.loop-left.invariant.same in
    record {
      within = omega (arith, l);
      same = behind-step k w ss i s l after c.loop-left.rests.items c.push.new.self.items current same c.in_ok-push.ensures.items;
      current = rest-step k w ss i s l after c.in_ok-next.next current (c.in_ok-next.ensures.defined ∙ ap (λ (zs : List Stmt). rest_before k w (stmt_trees zs) (get_or ss i s).id after) (from-here ss i));
      current_fits = c.in_ok-next.ensures.fits;
      fits = subst (All RestFits) (sym c.in_ok-push.ensures.items) (All-push RestFits _ _ c.loop-left.invariant.fits c.loop-left.invariant.current_fits);
    }
