-- The second pass over the modules: what stands before an analysis, and which CALLs it has.
use Rattle.std.proofs.Common.{◌≡◌, inl, inr, ℕ, false, List, [], ◌∷◌, ◌++◌, refl, sym, ap, ◌∙◌, subst, append_assoc, append-nil}
use Rattle.std.specs.Prelude.{if◌then◌else◌, bytes_eq, reverse}
use mathlib.Core.List.{reverse-cons}
use Rattle.std.proofs.lemmas.Slice.Eq.{bytes_eq-Decides}
use Rattle.f77_ast.specs.declared.variable.Unit.{Unit as BlockUnit}
use Rattle.f77_meaning.specs.Modules.{Known}
use Rattle.preconditions.specs.transformer_algebra.Laws.{In}
use Rattle.preconditions.specs.call_translation.Sites.{HoldingSite}
use Rattle.laws_programs.specs.Storage.Programs.{known}
use Rattle.call_graph.specs.CallsIn.{Each}
use Rattle.module_phases.specs.ScalarPhases.{Found, list_sites, Analysis, caller_of, sites_of, analysis_of, analyses_from}
use Rattle.laws_analyses.specs.Results.{summary_named, analyses_before}
use Rattle.laws_analyses.proofs.Founds.{HasKnown}
use Rattle.call_graph.proofs.EachLaws.{each_joined}
use Rattle.preconditions.proofs.TransformerAlgebra.Members.{in_left, in_right}

-- ---- lists turned around

pub each_reversed : {T : Type 0} (P : T → Type 0) (xs : List T) → Each P xs → Each P (reverse xs)
each_reversed P [] h = tt
each_reversed P (x ∷ xs) h = subst (Each P) (sym (reverse-cons x xs)) (each_joined P (reverse xs) (x ∷ []) (each_reversed P xs h.1) (h.0, tt))

known_front : (k : Known) (xs ys : List Found) → HasKnown k xs → HasKnown k (xs ++ ys)
known_front k [] ys h = absurd h
known_front k (x ∷ xs) ys (inl e) = inl e
known_front k (x ∷ xs) ys (inr h) = inr (known_front k xs ys h)

known_back : (k : Known) (xs ys : List Found) → HasKnown k ys → HasKnown k (xs ++ ys)
known_back k [] ys h = h
known_back k (x ∷ xs) ys h = inr (known_back k xs ys h)

pub known_reversed : (k : Known) (xs : List Found) → HasKnown k xs → HasKnown k (reverse xs)
known_reversed k [] h = absurd h
known_reversed k (x ∷ xs) (inl e) = subst (HasKnown k) (sym (reverse-cons x xs)) (known_back k (reverse xs) (x ∷ []) (inl e))
known_reversed k (x ∷ xs) (inr h) = subst (HasKnown k) (sym (reverse-cons x xs)) (known_front k (reverse xs) (x ∷ []) (known_reversed k xs h))

-- ---- the second pass

-- none of these has the name
abbrev pub NoAnalysis : List ℕ → List Analysis → Type 0
NoAnalysis y as' = Each (λ (a : Analysis). bytes_eq a.found.known.read.name y ≡ false) as'

abbrev pub name_of : Analysis → List ℕ
name_of a = a.found.known.read.name

module _ (u : List BlockUnit) where
  abbrev pub next : List Analysis → Found → Analysis
  next done f = analysis_of u (sites_of u done f.known.read.name) f

  abbrev pub run : List Analysis → List Found → List Analysis
  run done [] = []
  run done (f ∷ fs) = next done f ∷ run (done ++ next done f ∷ []) fs

  pub run_is : (done : List Analysis) (fs : List Found) → analyses_from u done fs ≡ done ++ run done fs
  run_is done [] = sym (append-nil done)
  run_is done (f ∷ fs) = run_is (done ++ next done f ∷ []) fs ∙ append_assoc done (next done f ∷ []) (run (done ++ next done f ∷ []) fs)

  pub in_sites : (front : List Analysis) (a : Analysis) (rest : List Analysis) (x : List ℕ) (s : HoldingSite) → In s (list_sites a.found.known.read.body (caller_of u a) x) → In s (sites_of u (front ++ a ∷ rest) x)
  in_sites [] a rest x s h = in_left s (list_sites a.found.known.read.body (caller_of u a) x) (sites_of u rest x) h
  in_sites (b ∷ front) a rest x s h = in_right s (list_sites b.found.known.read.body (caller_of u b) x) (sites_of u (front ++ a ∷ rest) x) (in_sites front a rest x s h)

-- what stands before the analysis of a name
pub before_here : (front : List Analysis) (a : Analysis) (rest : List Analysis) → NoAnalysis (name_of a) front → analyses_before (front ++ a ∷ rest) (name_of a) ≡ front
before_here [] a rest n = ap (λ b. if b then [] else a ∷ analyses_before rest (name_of a)) ((bytes_eq-Decides (name_of a) (name_of a)).1 refl)
before_here (b ∷ front) a rest n = ap (λ c. if c then [] else b ∷ analyses_before (front ++ a ∷ rest) (name_of a)) n.0 ∙ ap (λ as'. b ∷ as') (before_here front a rest n.1)

pub before_other : (front : List Analysis) (a : Analysis) (rest : List Analysis) (y : List ℕ) → NoAnalysis y front → bytes_eq (name_of a) y ≡ false → analyses_before (front ++ a ∷ rest) y ≡ front ++ a ∷ analyses_before rest y
before_other [] a rest y n h = ap (λ b. if b then [] else a ∷ analyses_before rest y) h
before_other (b ∷ front) a rest y n h = ap (λ c. if c then [] else b ∷ analyses_before (front ++ a ∷ rest) y) n.0 ∙ ap (λ as'. b ∷ as') (before_other front a rest y n.1 h)

pub summary_here : (front : List Analysis) (a : Analysis) (rest : List Analysis) → NoAnalysis (name_of a) front → summary_named (front ++ a ∷ rest) (name_of a) ≡ a.holds.summary
summary_here [] a rest n = ap (λ b. if b then a.holds.summary else summary_named rest (name_of a)) ((bytes_eq-Decides (name_of a) (name_of a)).1 refl)
summary_here (b ∷ front) a rest n = ap (λ c. if c then b.holds.summary else summary_named (front ++ a ∷ rest) (name_of a)) n.0 ∙ summary_here front a rest n.1
