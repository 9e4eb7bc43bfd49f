-- One module after another.
use Rattle.std.proofs.Common.{◌≡◌, ℕ, List, [], ◌∷◌, ◌++◌, append_assoc, append-nil, map, None, ap, ap₂, ◌∙◌}
use Rattle.std.proofs.lemmas.List.{map-append}
use Rattle.std.proofs.lemmas.List.Elements.{All-push, All-pop}
use Rattle.f77_ast.specs.declared.variable.Unit.{Unit as BlockUnit}
use Rattle.module_phases.specs.ScalarPhases.{Analysis}
use Rattle.module_phases.proofs.ScalarPhaseLaws.{popped}
use Rattle.in_out_regions.specs.array_regions.Calls.{Callees}
use Rattle.module_phases.specs.RegionPhases.{ModuleRegions, no_callees, with_callee, with_regions, found_in}
use Rattle.fx_lists.proofs.Numbers.{same_function}

pub ruleset one_more = (map-append, All-push, append_assoc, append-nil)

-- before any module
pub found-none : (untracked : List BlockUnit) (cs : Callees) (as' : List Analysis) → ((x : List ℕ) → cs x ≡ None) → found_in untracked cs as' ≡ found_in untracked no_callees as'
found-none untracked cs as' h = ap (λ (c : Callees). found_in untracked c as') (same_function cs no_callees h)

-- after one more
pub found-more : (untracked : List BlockUnit) (cs new : Callees) (out next : List ModuleRegions) (a : Analysis) (as' : List Analysis) →
    next ≡ out ++ with_regions untracked cs a ∷ [] → ((x : List ℕ) → new x ≡ with_callee (with_regions untracked cs a) cs x) →
    next ++ found_in untracked new as' ≡ out ++ found_in untracked cs (a ∷ as')
found-more untracked cs new out next a as' e h =
    let f : ModuleRegions = with_regions untracked cs a in
    ap₂ (λ (fs : List ModuleRegions) (c : Callees). fs ++ found_in untracked c as') e (same_function new (with_callee f cs) h)
    ∙ append_assoc out (f ∷ []) (found_in untracked (with_callee f cs) as')

pub ruleset module_steps = (found-none, popped, All-pop, append-nil)
