-- One module after another.
use Rattle.std.proofs.Common.{◌≡◌, ℕ, List, [], ◌∷◌, ◌++◌, append_assoc, append-nil, map, reverse, None, refl, sym, ap, ap₂, subst, ◌∙◌}
use Rattle.std.specs.Prelude.{All}
use Rattle.std.proofs.lemmas.List.{map-append, reverse-append, reverse-reverse}
use Rattle.std.proofs.lemmas.List.Elements.{All-head, All-tail, All-push, All-pop}
use Rattle.f77_ast.specs.declared.variable.Unit.{Unit as BlockUnit}
use Rattle.in_out_regions.specs.array_regions.Calls.{Callees}
use Rattle.module_phases.specs.RegionPhases.{ModuleRegions, no_callees}
use Rattle.module_phases.specs.InPhases.{ModuleIns, with_callee, with_ins, found_in}
use Rattle.fx_lists.proofs.Lists.{map_reverse as map-reverse}
use Rattle.fx_lists.proofs.Numbers.{same_function}

pub ruleset one_more = (map-append, All-push, append_assoc, append-nil)

-- before any module
pub found-none : (untracked : List BlockUnit) (cs : Callees) (fs : List ModuleRegions) → ((x : List ℕ) → cs x ≡ None) → found_in untracked cs fs ≡ found_in untracked no_callees fs
found-none untracked cs fs h = ap (λ (c : Callees). found_in untracked c fs) (same_function cs no_callees h)

-- after one more
pub found-more : (untracked : List BlockUnit) (cs new : Callees) (out next : List ModuleIns) (f : ModuleRegions) (fs : List ModuleRegions) →
    next ≡ out ++ with_ins untracked cs f ∷ [] → ((x : List ℕ) → new x ≡ with_callee (with_ins untracked cs f) cs x) →
    next ++ found_in untracked new fs ≡ out ++ found_in untracked cs (f ∷ fs)
found-more untracked cs new out next f fs e h =
    let n : ModuleIns = with_ins untracked cs f in
    ap₂ (λ (ns : List ModuleIns) (c : Callees). ns ++ found_in untracked c fs) e (same_function new (with_callee n cs) h)
    ∙ append_assoc out (n ∷ []) (found_in untracked (with_callee n cs) fs)

-- ---- from the last to the first

pub mapped-back : {A B : Type 0} (f : A → B) (xs ys : List A) → ys ≡ reverse xs → reverse (map f ys) ≡ map f xs
mapped-back f xs ys e = ap (λ zs. reverse (map f zs)) e ∙ (ap reverse (map-reverse f xs) ∙ reverse-reverse (map f xs))

All-reverse : {A : Type 0} (P : A → Type 0) (xs : List A) → All P xs → All P (reverse xs)
All-reverse P [] h = h
All-reverse P (x ∷ xs) h = subst (All P) (sym (reverse-append (x ∷ []) xs)) (All-push P (reverse xs) x (All-reverse P xs (All-tail P x xs h)) (All-head P x xs h))

pub all-back : {A : Type 0} (P : A → Type 0) (xs ys : List A) → ys ≡ reverse xs → All P xs → All P ys
all-back P xs ys e h = subst (All P) (sym e) (All-reverse P xs h)

pub ruleset module_steps = (found-none, mapped-back, all-back, All-pop, append-nil)
