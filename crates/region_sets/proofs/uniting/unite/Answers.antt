use Rattle.std.proofs.Common.{◌≡◌, sym, subst}
use Rattle.std.proofs.lemmas.Result.{IfOk-weaker}
use Rattle.region_sets.specs.declared.region.Region.{Region}
use Rattle.region_sets.specs.Unite.{unite}
use Rattle.region_sets.specs.Laws.{HasBoth, IsOneExact}
use Rattle.region_sets.proofs.UniteLaws.{unite_has, unite_exact}
use Rattle.region_sets.proofs.uniting.unite.Goals as goal

pub returns-clause-sound : goal.returns-clause-sound
returns-clause-sound c =
    let a = c.args.a.now in
    let b = c.args.b.now in
    IfOk-weaker c.union_of.result (λ (r : Region). r ≡ unite a b) (HasBoth a b) (λ r e. subst (HasBoth a b) (sym e) (unite_has a b)) c.union_of.ensures.defined

pub returns-clause-exact : goal.returns-clause-exact
returns-clause-exact c =
    let a = c.args.a.now in
    let b = c.args.b.now in
    IfOk-weaker c.union_of.result (λ (r : Region). r ≡ unite a b) (IsOneExact a b) (λ r e. subst (IsOneExact a b) (sym e) (unite_exact a b)) c.union_of.ensures.defined
