use Rattle.std.proofs.Common.{◌≡◌, sym, subst, Option}
use Rattle.std.proofs.lemmas.Result.{IfOk-weaker}
use Rattle.region_sets.specs.declared.region.Region.{Region}
use Rattle.region_sets.specs.Subtract.{subtract}
use Rattle.region_sets.specs.Laws.{KeepsRest, HasRestAlone}
use Rattle.region_sets.proofs.SubtractLaws.{subtract_keeps, subtract_exact}
use Rattle.region_sets.proofs.subtracting.subtract.Goals as goal

pub returns-clause-sound : goal.returns-clause-sound
returns-clause-sound c =
    let a = c.args.a.now in
    let b = c.args.b.now in
    IfOk-weaker c.subtract_known.result (λ (r : Option Region). r ≡ subtract a b) (KeepsRest a b) (λ r e. subst (KeepsRest a b) (sym e) (subtract_keeps a b)) c.subtract_known.ensures.defined

pub returns-clause-exact : goal.returns-clause-exact
returns-clause-exact c =
    let a = c.args.a.now in
    let b = c.args.b.now in
    IfOk-weaker c.subtract_known.result (λ (r : Option Region). r ≡ subtract a b) (HasRestAlone a b) (λ r e. subst (HasRestAlone a b) (sym e) (subtract_exact a b)) c.subtract_known.ensures.defined
