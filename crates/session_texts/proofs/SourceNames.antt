-- The names of modules that no check refuses differ.
use Rattle.std.proofs.Common.{◌≡◌, ℕ, zero, suc, ◌+◌, Bool, true, false, ◌||◌, List, [], ◌∷◌, ◌++◌, length, map, Option, Some, None, refl, sym, ap, ◌∙◌, subst, arith, append_assoc, append-nil, length-append}
use Rattle.std.specs.Prelude.{bytes_eq, nat_eq, option_map, if◌then◌else◌}
use Rattle.std.specs.List.{list_any, IsDistinct}
use Rattle.std.specs.Cmp.Lexicographic.{nat_list_eq_equiv}
use Rattle.std.proofs.lemmas.Bool.{eqb-true}
use Rattle.std.proofs.lemmas.Map.Keys.{IsDistinct-push}
use Rattle.f77_ast.specs.DeclTrees.{ParsedTree}
use Rattle.f77_ast.specs.Symbols.{number_from}
use Rattle.fx_lists.specs.declared.refusal.Refusal.{Refusal}
use Rattle.call_graph.specs.declared.refusal.Fault.{Fault}
use Rattle.call_graph.specs.declared.refusal.Fault.TheVariants as fault
use Rattle.call_graph.specs.Faults.{or_fault}
use Rattle.call_graph.specs.Modules.{module_line, too_many, is_place, names_of, twice_from, name_twice, main_twice}
use Rattle.fx_lists.specs.declared.code.Code.TheVariants.{ModuleTwice}
use Rattle.session_texts.specs.Sources.{refusal_for, source_refusal}
use Rattle.fx_lists.proofs.Texts.{no_names}

-- a name that is first found at a place has no equal before it
first_there : (n : ℕ) (before : List (List ℕ)) (x : List ℕ) (after : List (List ℕ)) → number_from n (before ++ x ∷ after) x ≡ Some (n + length before) → list_any (bytes_eq x) before ≡ false
first_there n [] x after e = refl
first_there n (y ∷ ys) x after e = go (bytes_eq x y) e (first_there (suc n) ys x after)
  where
    go : (b : Bool) → (if b then Some n else number_from (suc n) (ys ++ x ∷ after) x) ≡ Some (n + length (y ∷ ys))
        → (number_from (suc n) (ys ++ x ∷ after) x ≡ Some (suc n + length ys) → list_any (bytes_eq x) ys ≡ false) → (b || list_any (bytes_eq x) ys) ≡ false
    go true f ih = let same : n ≡ n + length (y ∷ ys) = cc in absurd (omega arith)
    go false f ih = ih (f ∙ ap Some (let s : n + length (y ∷ ys) ≡ suc n + length ys = omega arith in s))

-- what is asked of the first of some modules holds, and of the others
record Passes (k : ℕ) (names : List (List ℕ)) (p : ParsedTree) (ps : List ParsedTree) : Type 0 where
  pub here : number_from 0 names p.module_read.name ≡ Some k
  pub others : twice_from (suc k) names ps ≡ None

passes : (k : ℕ) (names : List (List ℕ)) (p : ParsedTree) (ps : List ParsedTree) → twice_from k names (p ∷ ps) ≡ None → Passes k names p ps
passes k names p ps e = by (number_from 0 names p.module_read.name) refl e
  where
    settled : (m : ℕ) (b : Bool) → nat_eq m k ≡ b → number_from 0 names p.module_read.name ≡ Some m
        → (if b then twice_from (suc k) names ps else Some (fault.At k (module_line p) ModuleTwice)) ≡ None → Passes k names p ps
    settled m true t f g = record { here = f ∙ ap Some (eqb-true m k t); others = g }
    settled m false t f g = cc

    by : (o : Option ℕ) → number_from 0 names p.module_read.name ≡ o
        → (if is_place k o then twice_from (suc k) names ps else Some (fault.At k (module_line p) ModuleTwice)) ≡ None → Passes k names p ps
    by None f g = cc
    by (Some m) f g = settled m (nat_eq m k) refl f g

distinct_from : (before : List (List ℕ)) (ps : List ParsedTree) → IsDistinct bytes_eq before → twice_from (length before) (before ++ names_of ps) ps ≡ None
    → IsDistinct bytes_eq (before ++ names_of ps)
distinct_from before [] d e = subst (IsDistinct bytes_eq) (sym (append-nil before)) d
distinct_from before (p ∷ ps) d e =
    let x : List ℕ = p.module_read.name in
    let h = passes (length before) (before ++ names_of (p ∷ ps)) p ps e in
    let new : list_any (bytes_eq x) before ≡ false = first_there 0 before x (names_of ps) (h.here ∙ ap Some (let s : length before ≡ 0 + length before = omega arith in s)) in
    let same : (before ++ x ∷ []) ++ names_of ps ≡ before ++ names_of (p ∷ ps) = append_assoc before (x ∷ []) (names_of ps) in
    let count : suc (length before) ≡ length (before ++ x ∷ []) = omega (arith, length-append before (x ∷ [])) in
    let later : twice_from (length (before ++ x ∷ [])) ((before ++ x ∷ []) ++ names_of ps) ps ≡ None =
    ap (λ k. twice_from k ((before ++ x ∷ []) ++ names_of ps) ps) (sym count)
    ∙ ap (λ ns. twice_from (suc (length before)) ns ps) same
    ∙ h.others in
    subst (IsDistinct bytes_eq) same (distinct_from (before ++ x ∷ []) ps (IsDistinct-push nat_list_eq_equiv before x d new) later)

unfaulted : (a b c : Option Fault) → option_map refusal_for (or_fault a (or_fault b c)) ≡ None → b ≡ None
unfaulted None None c e = refl
unfaulted None (Some f) c e = cc
unfaulted (Some f) b c e = cc

-- modules of one text that are not refused have different names
pub names_differ : (ps : List ParsedTree) → source_refusal ps ≡ None → IsDistinct bytes_eq (names_of ps)
names_differ ps e = distinct_from [] ps no_names (unfaulted (too_many ps) (name_twice ps) (main_twice ps) e)
