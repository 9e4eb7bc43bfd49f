use Rattle.std.proofs.Common.{◌≡◌, ◌∙◌, ◌<ℤ◌, ℤ, pos, sym, subst, SFits, to_z, of_z, to_z-of_z, rules}
use Rattle.std.proofs.lemmas.Cmp.{int_ranked}
use Rattle.std.specs.Int.{w128}
use Rattle.std.specs.declared.cmp.Ordering.TheVariants.{Less, Equal, Greater}
use Rattle.affine_systems.specs.Points.{factor_of}
use Rattle.elimination.proofs.ElimSteps.{split_lower, split_upper, split_without}
use Rattle.elimination.proofs.elimination.split_by_sign.Goals as goal

pub loop-item-preserved-in-Continue-1 : goal.loop-item-preserved-in-Continue-1
loop-item-preserved-in-Continue-1 c =
    let f : SFits w128 c.factor.result = search rules in
    let e : to_z w128 (of_z w128 c.factor.result) ≡ factor_of c.args.v c.in-Some.item.row.terms = to_z-of_z f ∙ c.factor.ensures.defined in
    split_lower c.args.v c.loop-item.items.items c.pop.new.self.items c.loop-item.lows.items c.loop-item.ups.items c.loop-item.rest.items c.args.items.items c.push.new.self.items c.in-Some.item c.in-Some.ensures.items c.loop-item.invariant
    (subst (λ (z : ℤ). z <ℤ pos 0) e (int_ranked (to_z w128 (of_z w128 c.factor.result)) (pos 0) Less c.in-Less.ensures)) c.in_ok-push-in-Less.ensures.items

pub loop-item-preserved-in-Continue-branch-2 : goal.loop-item-preserved-in-Continue-branch-2
loop-item-preserved-in-Continue-branch-2 c =
    let f : SFits w128 c.factor.result = search rules in
    let e : to_z w128 (of_z w128 c.factor.result) ≡ factor_of c.args.v c.in-Some.item.row.terms = to_z-of_z f ∙ c.factor.ensures.defined in
    split_without c.args.v c.loop-item.items.items c.pop.new.self.items c.loop-item.lows.items c.loop-item.ups.items c.loop-item.rest.items c.args.items.items c.push-in-Equal.new.self.items c.in-Some.item c.in-Some.ensures.items c.loop-item.invariant
    (sym e ∙ int_ranked (to_z w128 (of_z w128 c.factor.result)) (pos 0) Equal c.in-Equal.ensures) c.in_ok-push-in-Equal.ensures.items

pub loop-item-preserved : goal.loop-item-preserved
loop-item-preserved c =
    let f : SFits w128 c.factor.result = search rules in
    let e : to_z w128 (of_z w128 c.factor.result) ≡ factor_of c.args.v c.in-Some.item.row.terms = to_z-of_z f ∙ c.factor.ensures.defined in
    split_upper c.args.v c.loop-item.items.items c.pop.new.self.items c.loop-item.lows.items c.loop-item.ups.items c.loop-item.rest.items c.args.items.items c.push-in-Greater.new.self.items c.in-Some.item c.in-Some.ensures.items c.loop-item.invariant
    (subst (λ (z : ℤ). pos 0 <ℤ z) e (int_ranked (to_z w128 (of_z w128 c.factor.result)) (pos 0) Greater c.in-Greater.ensures)) c.in_ok-push-in-Greater.ensures.items
