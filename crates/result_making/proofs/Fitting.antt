-- One module more, whose systems are such as calls take.
use Rattle.std.proofs.Common.{◌≡◌, List, [], ◌∷◌, ◌++◌, sym, subst}
use Rattle.affine_systems.specs.Given.{Fits}
use Rattle.preconditions.specs.Statement.{EachFits}
use Rattle.preconditions.specs.transformer_algebra.declared.transformer.Transformer.{Transformer}
use Rattle.loop_marker.specs.region_sets.declared.region.Region.{Region}
use Rattle.loop_marker.specs.region_sets.Lists.{SetsFit}
use Rattle.loop_marker.specs.region_sets.Sets.{SetFits}
use Rattle.loop_marker.specs.module_phases.declared.callees.Callee.{Callee}
use Rattle.loop_marker.specs.module_phases.declared.callers.CallerHolds.{CallerHolds}
use Rattle.loop_marker.specs.module_phases.declared.callers.CallerOuts.{CallerOuts}
use Rattle.loop_marker.specs.module_phases.Callees.{AllFit, AllSetsFit}
use Rattle.loop_marker.specs.module_phases.Callers.{AllHold, AllOuts}

fit-more : (cs : List (Callee Transformer)) (c : Callee Transformer) → AllFit cs → Fits c.summary.now.system → AllFit (cs ++ c ∷ [])
fit-more [] c h f = (f, tt)
fit-more (d ∷ ds) c h f = (h.0, fit-more ds c h.1 f)

pub all_fit : (new old : List (Callee Transformer)) (c : Callee Transformer) → new ≡ old ++ c ∷ [] → AllFit old → Fits c.summary.now.system → AllFit new
all_fit new old c e h f = subst AllFit (sym e) (fit-more old c h f)

sets-more : (cs : List (Callee (List Region))) (c : Callee (List Region)) → AllSetsFit cs → SetFits c.summary.now → AllSetsFit (cs ++ c ∷ [])
sets-more [] c h f = (f, tt)
sets-more (d ∷ ds) c h f = (h.0, sets-more ds c h.1 f)

pub all_sets_fit : (new old : List (Callee (List Region))) (c : Callee (List Region)) → new ≡ old ++ c ∷ [] → AllSetsFit old → SetFits c.summary.now → AllSetsFit new
all_sets_fit new old c e h f = subst AllSetsFit (sym e) (sets-more old c h f)

hold-more : (cs : List CallerHolds) (c : CallerHolds) → AllHold cs → EachFits c.holds.now → AllHold (cs ++ c ∷ [])
hold-more [] c h f = (f, tt)
hold-more (d ∷ ds) c h f = (h.0, hold-more ds c h.1 f)

pub all_hold : (new old : List CallerHolds) (c : CallerHolds) → new ≡ old ++ c ∷ [] → AllHold old → EachFits c.holds.now → AllHold new
all_hold new old c e h f = subst AllHold (sym e) (hold-more old c h f)

outs-more : (cs : List CallerOuts) (c : CallerOuts) → AllOuts cs → SetsFit c.outs.now → AllOuts (cs ++ c ∷ [])
outs-more [] c h f = (f, tt)
outs-more (d ∷ ds) c h f = (h.0, outs-more ds c h.1 f)

pub all_outs : (new old : List CallerOuts) (c : CallerOuts) → new ≡ old ++ c ∷ [] → AllOuts old → SetsFit c.outs.now → AllOuts new
all_outs new old c e h f = subst AllOuts (sym e) (outs-more old c h f)
