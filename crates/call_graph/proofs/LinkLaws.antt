-- Linking step by step.
use Rattle.std.proofs.Common.{◌≡◌, ℕ, suc, ◌+◌, ◌≤◌, List, [], ◌∷◌, length, map, Option, Some, None, refl, sym, ap, ◌∙◌, subst, arith, inl, inr}
use Rattle.std.specs.Prelude.{Result, Ok, Err, slice_get}
use Rattle.std.proofs.lemmas.Option.{slice_get_cases}
use Rattle.f77_ast.specs.DeclTrees.{ParsedTree}
use Rattle.f77_ast.specs.Symbols.{SymbolTree}
use Rattle.call_graph.specs.declared.calls.Called.{Called}
use Rattle.call_graph.specs.declared.graph.Graph.{Graph}
use Rattle.call_graph.specs.declared.refusal.Fault.{Fault}
use Rattle.call_graph.specs.declared.refusal.Fault.TheVariants as fault
use Rattle.call_graph.specs.declared.refusal.LinkRefusal.{LinkRefusal}
use Rattle.call_graph.specs.Faults.{refusal_of, or_fault, unless, IsAt, Gives}
use Rattle.call_graph.specs.Modules.{most_modules, too_many_at, too_many}
use Rattle.call_graph.specs.Calls.{all_calls}
use Rattle.call_graph.specs.Callees.{all_places}
use Rattle.fx_lists.proofs.Lists.{map_length as length-map}

-- the refusal of a fault that was found
pub refused : (f : Fault) (linked : Result Graph Fault) → linked ≡ Err f → Gives (Err (refusal_of f)) linked
refused fault.NoMain linked e = e
refused (fault.At place line cause) linked e = (cause, refl, e)

pub refused_by : (o : Option Fault) (f : Fault) (e : LinkRefusal) (linked : Result Graph Fault) → o ≡ Some f → e ≡ refusal_of f → Gives (Err e) (unless o linked)
refused_by o f e linked found same =
    let is : unless o linked ≡ Err f = ap (λ x. unless x linked) found in
    subst (λ (x : LinkRefusal). Gives (Err x) (unless o linked)) (sym same) (refused f (unless o linked) is)

-- nothing was wrong so far
pub passed : (o : Option Fault) (r : Result Graph LinkRefusal) (linked : Result Graph Fault) → o ≡ None → Gives r linked → Gives r (unless o linked)
passed o r linked none given = subst (λ (x : Option Fault). Gives r (unless x linked)) (sym none) given

-- ---- sizes

pub length-all_places : (names : List (List ℕ)) (css : List (List Called)) → length (all_places names css) ≡ length css
length-all_places names [] = refl
length-all_places names (cs ∷ css) = ap suc (length-all_places names css)

pub length-all_calls : (ps : List ParsedTree) (sss : List (List SymbolTree)) → length (all_calls ps sss) ≤ length ps
length-all_calls [] sss = omega arith
length-all_calls (p ∷ ps) [] = omega arith
length-all_calls (p ∷ ps) (ss ∷ sss) = omega (arith, length-all_calls ps sss)

pub ruleset link_sizes = (length-all_places, length-all_calls, length-map)

-- no module after the most that there may be
pub few : (ps : List ParsedTree) → too_many ps ≡ None → length ps ≤ most_modules
few ps e = elim (slice_get_cases ps most_modules).1 [ inl w ↦ (let z = ap too_many_at w.2 in cc) | inr w ↦ w.0 ]
