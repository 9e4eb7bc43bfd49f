-- The runs of a straight main program alone, with its symbols and links.
use Rattle.std.proofs.Common.{◌≡◌, ℕ, suc, ℤ, Bool, true, List, [], ◌∷◌, None, refl, sym, ap, subst}
use Rattle.std.specs.Prelude.{if◌then◌else◌, ◌&&◌}
use Rattle.std.proofs.lemmas.Bool.{and_parts}
use Rattle.f77_ast.specs.DeclTrees.{ModuleTree}
use Rattle.f77_ast.specs.Store.{Content, Store, empty_store}
use Rattle.f77_ast.specs.Steps.{Spot}
use Rattle.f77_ast.specs.Runs.{Answer, Ran, store_of}
use Rattle.f77_ast.specs.Places.{Places}
use Rattle.f77_ast.specs.Writes.{no_locks}
use Rattle.f77_ast.specs.Calls.{Dummy, Meaning, arrays_bound, lock_doubly}
use Rattle.f77_ast.specs.Plans.{Flow, Plan, first}
use Rattle.f77_ast.specs.Statements.{body_plan}
use Rattle.f77_ast.specs.Programs.{program_plan}
use Rattle.f77_ast.specs.Claims.{number_in}
use Rattle.f77_ast.specs.Executions.{Claim, Executions, run_of}
use Rattle.f77_ast.specs.Straight.{is_straight, are_straight_from, has_no_decls, variables, straight_names, straight_places, straight_program}
use Rattle.f77_meaning.specs.Areas.{Numbering}
use Rattle.f77_meaning.specs.Modules.{Known, dummies_from, fixed, names}
use Rattle.f77_meaning.specs.Linked.{numbering, routine, subroutines, initial_in, or_else, or_empty, no_module}
use Rattle.f77_meaning.specs.StraightRuns.{scalars_from, straight_known, alone, known_program, have_no_function, StraightRunsAgree}
use Rattle.f77_meaning.proofs.ModuleLaws.{has_room}
use Rattle.f77_meaning.proofs.LinkLaws.{modules_are_known}
use Rattle.f77_meaning.proofs.Alike.{Alike, alike_ends, alike_within, Same, run_alike, executions_alike}
use Rattle.f77_meaning.proofs.StraightLaws.{body_alike}
use Rattle.f77_meaning.proofs.StraightNames.{is_declared, names_alias, first_of, placed_alone, first_apart}

no_dummies : (n k : ℕ) (ys : List (List ℕ)) → dummies_from n (scalars_from k ys) ≡ []
no_dummies n k [] = refl
no_dummies n k (y ∷ ys) = no_dummies (suc n) (suc k) ys

no_values : (g : Numbering) (k : Known) (n : ℕ) (ys : List (List ℕ)) (u : ℕ) → initial_in g k (scalars_from n ys) u ≡ None
no_values g k n [] u = refl
no_values g k n (y ∷ ys) u = no_values g k (suc n) ys u

module _ (m : ModuleTree) (is : is_straight m ≡ true) (free : have_no_function (variables m.body) ≡ true) where
  abbrev ys : List (List ℕ)
  ys = variables m.body

  abbrev k : Known
  k = straight_known m

  abbrev n : Numbering
  n = numbering (k ∷ []) (alone m.name)

  abbrev at' : Places
  at' = fixed n k

  abbrev f : ℕ → ℕ
  f = first_of ys n m.name

  abbrev D : ℕ → Bool
  D = is_declared ys

  apart : (u v : ℕ) → D u ≡ true → (v ≡ u → ⊥) → f v ≡ f u → ⊥
  apart = first_apart ys n m.name (has_room (k ∷ [])) (modules_are_known (k ∷ []) (alone m.name) 0 0 k refl)

  body_is : are_straight_from 1 m.body ≡ true
  body_is = (and_parts (has_no_decls m.decls) (are_straight_from 1 m.body) (and_parts m.main (has_no_decls m.decls && are_straight_from 1 m.body) is).1).1

  is_main : m.main ≡ true
  is_main = (and_parts m.main (has_no_decls m.decls && are_straight_from 1 m.body) is).0

  bodies : (turns : ℕ) (callee callee' : List ℕ → Meaning) (ds : List Dummy) (common : ℕ → Bool) (own own' : ℕ → ℕ → ℕ) → ds ≡ [] →
      Alike f D straight_places at'
      (body_plan m.body (record { module_name = m.name; names = straight_names m.body; turns = turns; own_unit = own; callee = callee }) straight_places no_locks)
      (first (arrays_bound ds [] (names k.symbols) at') (λ at. body_plan m.body (record { module_name = m.name; names = names k.symbols; turns = turns; own_unit = own'; callee = callee' }) at (lock_doubly no_locks ds at common)))
  bodies turns callee callee' ds common own own' e =
      subst (λ ds. Alike f D straight_places at' (body_plan m.body (record { module_name = m.name; names = straight_names m.body; turns = turns; own_unit = own; callee = callee }) straight_places no_locks)
      (first (arrays_bound ds [] (names k.symbols) at') (λ at. body_plan m.body (record { module_name = m.name; names = names k.symbols; turns = turns; own_unit = own'; callee = callee' }) at (lock_doubly no_locks ds at common)))) (sym e)
      (body_alike f D at' (placed_alone ys n m.name) (straight_names m.body) (names k.symbols) (names_alias ys free) m.name turns own own' callee callee' m.body body_is)

  plan_with : ℕ → Known → Plan
  plan_with turns x = program_plan (record { main = routine (k ∷ []) (alone m.name) x; others = subroutines (k ∷ []) (alone m.name) (m.name ∷ []); initial = empty_store }) turns

  plans : (turns : ℕ) → Alike f D straight_places at' (program_plan (straight_program m) turns) (program_plan (known_program m) turns)
  unfolding plan_with
  plans turns =
      subst (λ x. Alike f D straight_places at' (program_plan (straight_program m) turns) (plan_with turns x)) (sym (ap (λ b. if b then k else no_module) is_main))
      (alike_within (bodies turns _ _ (dummies_from 1 k.symbols) _ _ _ (no_dummies 1 1 ys)) (λ g. alike_ends))

  stores : (u : ℕ) → (known_program m).initial (f u) ≡ empty_store u
  stores u = ap (λ o. or_empty (f u) (or_else o None)) (no_values n k 1 ys (f u))

  pub same_runs : (turns : ℕ) (input : List Content) → Same f (run_of (program_plan (known_program m) turns) (known_program m).initial input) (run_of (program_plan (straight_program m) turns) empty_store input)
  same_runs turns input = run_alike apart (plans turns) empty_store (known_program m).initial stores input

  -- a claim on the numbers of cells, at the arrival and at the end, and on the answer
  abbrev pub Speaks : (Spot → (ℕ → ℤ) → Answer Flow → (ℕ → ℤ) → Type 0) → Claim
  Speaks P p at s q = P p (number_in s at) q.answer (number_in (store_of q.memory) at)

  module _ (P : Spot → (ℕ → ℤ) → Answer Flow → (ℕ → ℤ) → Type 0) where
    numbers : (s s' : Store) → ((u : ℕ) → s' (f u) ≡ s u) → number_in s straight_places ≡ number_in s' at'
    numbers s s' r = λ i. λ c. ap (λ x. x.number) (sym (r c)) i

    carries : (p : Spot) (s s' : Store) → ((u : ℕ) → s' (f u) ≡ s u) → (a b : Ran Flow) → Same f a b → Speaks P p straight_places s b → Speaks P p at' s' a
    carries p s s' r a b same h =
        let h1 = subst (λ x. P p x b.answer (number_in (store_of b.memory) straight_places)) (numbers s s' r) h in
        let h2 = subst (λ x. P p (number_in s' at') x (number_in (store_of b.memory) straight_places)) (sym same.answer) h1 in
        subst (λ x. P p (number_in s' at') a.answer x) (numbers (store_of b.memory) (store_of a.memory) same.store) h2

    -- what holds of the executions of the straight program holds of those of the program that was read
    pub same_claims : (turns : ℕ) (input : List Content) → Executions (Speaks P) (program_plan (straight_program m) turns) empty_store input → Executions (Speaks P) (program_plan (known_program m) turns) (known_program m).initial input
    same_claims turns input h = executions_alike apart (Speaks P) carries (plans turns) empty_store (known_program m).initial stores input h

pub straight_runs_agree : StraightRunsAgree
straight_runs_agree m is free turns input = let same = same_runs m is free turns input in (same.answer, same.input, same.printed)
