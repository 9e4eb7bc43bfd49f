-- One module after another.
use Rattle.std.proofs.Common.{◌≡◌, ℕ, List, [], ◌∷◌, ◌++◌, map, refl, append_assoc, append-nil, None, ap, ap₂, ◌∙◌}
use Rattle.std.proofs.lemmas.List.{map-append}
use Rattle.std.proofs.lemmas.List.Elements.{All-pop}
use Rattle.f77_ast.specs.declared.variable.Unit.{Unit as BlockUnit}
use Rattle.effects.specs.List.{Callees}
use Rattle.module_phases.specs.OutPhases.{ModuleOuts}
use Rattle.loop_marker.specs.Results.{ModuleResults}
use Rattle.loop_marker.specs.Phases.{no_callees, with_callee, with_marks, found_in}
use Rattle.fx_lists.proofs.Numbers.{same_function}

pub ruleset one_more = (map-append, append_assoc, append-nil)

-- before any module
pub found-none : (untracked : List BlockUnit) (cs : Callees) (fs : List ModuleOuts) → ((x : List ℕ) → cs x ≡ None) → found_in untracked cs fs ≡ found_in untracked no_callees fs
found-none untracked cs fs h = ap (λ (c : Callees). found_in untracked c fs) (same_function cs no_callees h)

-- after one more
pub found-more : (untracked : List BlockUnit) (cs new : Callees) (out next : List ModuleResults) (f : ModuleOuts) (fs : List ModuleOuts) →
    next ≡ out ++ with_marks untracked cs f ∷ [] → ((x : List ℕ) → new x ≡ with_callee (with_marks untracked cs f) cs x) →
    next ++ found_in untracked new fs ≡ out ++ found_in untracked cs (f ∷ fs)
found-more untracked cs new out next f fs e h =
    let n : ModuleResults = with_marks untracked cs f in
    ap₂ (λ (ns : List ModuleResults) (c : Callees). ns ++ found_in untracked c fs) e (same_function new (with_callee n cs) h)
    ∙ append_assoc out (n ∷ []) (found_in untracked (with_callee n cs) fs)

pub ruleset module_steps = (found-none, All-pop, append-nil)
