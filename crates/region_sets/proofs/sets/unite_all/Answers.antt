use Rattle.std.proofs.Common.{◌≡◌, List, sym, subst}
use Rattle.std.proofs.lemmas.Result.{IfOk-weaker}
use Rattle.region_sets.specs.declared.region.Region.{Region}
use Rattle.region_sets.specs.Sets.{unite_all}
use Rattle.region_sets.specs.Laws.{HasUnits, IsAsSharp}
use Rattle.region_sets.proofs.SetLaws.{gathered_units, gathered_sharp}
use Rattle.region_sets.proofs.sets.unite_all.Goals as goal

pub returns-clause-sound : goal.returns-clause-sound
returns-clause-sound c =
    let rs = c.args.regions.now in
    IfOk-weaker c.all_gathered.result (λ (qs : List Region). qs ≡ unite_all rs) (HasUnits rs) (λ qs e. subst (HasUnits rs) (sym e) (gathered_units rs)) c.all_gathered.ensures.defined

pub returns-clause-exact : goal.returns-clause-exact
returns-clause-exact c =
    let rs = c.args.regions.now in
    IfOk-weaker c.all_gathered.result (λ (qs : List Region). qs ≡ unite_all rs) (IsAsSharp rs) (λ qs e. subst (IsAsSharp rs) (sym e) (gathered_sharp rs)) c.all_gathered.ensures.defined
