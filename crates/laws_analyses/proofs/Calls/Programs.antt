-- The modules of a program, from the last to the first.
use Rattle.std.proofs.Common.{◌≡◌, ℕ, zero, suc, List, [], ◌∷◌, ◌&&◌, Option, Some, None, Bool, true, false, refl, sym, ap, ◌∙◌, subst, true≢false}
use Rattle.std.specs.Prelude.{if◌then◌else◌, slice_get, bytes_eq}
use Rattle.std.proofs.lemmas.Bool.{and_from}
use Rattle.affine_systems.specs.declared.row.System.{System}
use Rattle.f77_ast.specs.Store.{Content, Store}
use Rattle.f77_ast.specs.Places.{Places}
use Rattle.f77_ast.specs.Writes.{no_locks}
use Rattle.f77_ast.specs.Plans.{Ends, Within}
use Rattle.f77_ast.specs.Executions.{Claim}
use Rattle.f77_ast.specs.Calls.{Dummy, Meaning, scalars_bound}
use Rattle.f77_ast.specs.Statements.{spot}
use Rattle.f77_ast.specs.Programs.{Program, scope, body_of, called, meanings, program_plan}
use Rattle.f77_ast.specs.declared.symbol.Place.{Place as SymbolPlace}
use Rattle.f77_ast.specs.declared.symbol.Place.TheVariants as place
use Rattle.f77_ast.specs.Symbols.{SymbolTree}
use Rattle.f77_ast.specs.Shared.{symbol_at, place_of}
use Rattle.f77_meaning.specs.Occurrences.{Throughout, is_normal}
use Rattle.f77_meaning.specs.Claims.{is_outer, is_outer_symbol}
use Rattle.affine_forms.specs.Scalars.{is_cell}
use Rattle.affine_forms.specs.Claims.{unit_in, numbers_of}
use Rattle.preconditions.specs.transformer_algebra.Cells.{has}
use Rattle.preconditions.specs.transformer_algebra.Claims.{HoldsAt, Does}
use Rattle.preconditions.specs.call_translation.Sites.{HoldingSite}
use Rattle.preconditions.specs.transformers.Given.{Callees}
use Rattle.preconditions.specs.transformers.Modules.{is_seen, is_visible_to_callers}
use Rattle.laws_analyses.specs.Statements.Good.{said, Good}
use Rattle.laws_analyses.proofs.Statements.Ends.{more, throughout}
use Rattle.laws_analyses.specs.Statements.Placed.{Found, PlacedList}
use Rattle.laws_analyses.proofs.Statements.ResultLaws.{results_placed}
use Rattle.laws_analyses.specs.Calls.Scenes.{outside}
use Rattle.laws_analyses.proofs.Calls.AllLaws.{entry_rules_hold}
use Rattle.laws_analyses.specs.Calls.Parts.{Blocks, Part, summary, in_bound, places_in, scene_in}
use Rattle.laws_analyses.specs.Calls.Sites.{Covers, lookup, Entered, CalleeOk}
use Rattle.laws_analyses.specs.Calls.ProgramLaws.{ScalarsHold, EachHolds, routines, Analysed, AnalysedParts, AnalysedProgram, ProgramHolds}
use Rattle.laws_analyses.proofs.Calls.Entries.{EntryClaimed, StatementsClaimed, meaning_good, main_good}

-- dummies and variables of blocks are seen from outside
seen_outer : (o : Option SymbolTree) → is_outer_symbol o ≡ is_seen (place_of o)
seen_outer None = refl
seen_outer (Some s) = go s.place
  where
    go : (p : SymbolPlace) → is_outer p ≡ is_seen (Some p)
    go (place.Local g o) = refl
    go (place.Dummy n) = refl
    go (place.Block b o) = refl
    go (place.Constant v) = refl

module _ (b : Blocks) (cs : Callees) (sites : List ℕ → List HoldingSite) (of : List ℕ → Part) (turns : ℕ) where
  abbrev C : Claim
  C = said (EachHolds cs of)

  -- ---- claims

  statements_claimed : (k : Part) (below : List Part) (callee : List ℕ → Meaning) → of k.routine.name ≡ k → StatementsClaimed C b cs sites below k (scope k.routine turns callee)
  statements_claimed k below callee named ps at j z q hold d = λ later. subst (λ (p : Part). ScalarsHold cs p (suc j) (record { spot = spot k.routine.name (suc j); places = at; start = z; ran = q; later = later })) (sym named) (
    (λ n ag p hp. hold p (λ c t. hp c ∙ ag c t)),
    more q (λ f y i. is_normal (suc j) f ≡ true → Does (scene_in b k ps at) (k.found.transformer (suc j)) (numbers_of z) (numbers_of y)) _
        (λ f y i dd n. (let w = dd n in (
          (λ a e agrees changed p before after. w.relates p (λ c t. before c ∙ agrees c t) (λ c t v. after c ∙ changed c (and_from (is_cell k.scope.tracked c) (has (k.found.transformer (suc j)).cells c) t v))),
          (λ c t v. w.kept.cells c t v),
        ))) d,
  )

  entries_claimed : (k : Part) → of k.routine.name ≡ k → EntryClaimed C b cs k
  entries_claimed k named ps at z q same hold d = λ later. subst (λ (p : Part). ScalarsHold cs p zero (record { spot = spot k.routine.name zero; places = at; start = z; ran = q; later = later })) (sym named) (
    (λ n ag p hp. hold p (λ c t. hp c ∙ (ag c t ∙ at_unit z c))),
    more q (λ f y i. is_normal 0 f ≡ true → Does (outside k.scope.symbols (scene_in b k ps (places_in k ps))) (summary cs k) (numbers_of z) (numbers_of y)) _
        (λ f y i dd n. (let w = dd n in (
          (λ a e agrees changed p before after. w.relates p (λ c t. before c ∙ (agrees c (spoken c t) ∙ at_unit z c)) (λ c t v. after c ∙ (changed c (and_from _ (has (summary cs k).cells c) (spoken c t) v) ∙ at_unit y c))),
          (λ c t v. at_unit y c ∙ (w.kept.cells c (seen c t) v ∙ sym (at_unit z c))),
        ))) d,
  )
    where
      at_unit : (s : Store) (c : ℕ) → (s (at c).first).number ≡ numbers_of s (unit_in (places_in k ps) c)
      at_unit s c = ap (λ u. (s u).number) (same c)

      spoken : (c : ℕ) → (is_cell k.scope.tracked c && is_visible_to_callers k.scope.symbols c) ≡ true → (is_cell k.scope.tracked c && is_outer_symbol (symbol_at k.scope.symbols c)) ≡ true
      spoken c t = ap (λ x. is_cell k.scope.tracked c && x) (seen_outer (symbol_at k.scope.symbols c)) ∙ t

      seen : (c : ℕ) → (is_cell k.scope.tracked c && is_outer_symbol (symbol_at k.scope.symbols c)) ≡ true → (is_cell k.scope.tracked c && is_visible_to_callers k.scope.symbols c) ≡ true
      seen c t = ap (λ x. is_cell k.scope.tracked c && x) (sym (seen_outer (symbol_at k.scope.symbols c))) ∙ t

  -- ---- results

  placed_part : (below : List Part) (k : Part) → Analysed b cs sites below k → PlacedList k.found (Covers b cs sites below k) k.scope cs k.scalar k.routine.body true k.entry
  placed_part below k a =
      subst (λ (r : Found). PlacedList r (Covers b cs sites below k) k.scope cs k.scalar k.routine.body true k.entry) (sym a.found)
      (results_placed k.routine.body k.scope cs k.entry k.scalar (Covers b cs sites below k) a.numbered a.targets a.calls)

  -- ---- the modules

  all_good : (ks : List Part) → AnalysedParts b cs sites of ks → (x : List ℕ) → CalleeOk C b cs (lookup ks x) (meanings (routines ks) turns x)
  all_good [] pl x = refl
  all_good (k ∷ ks) pl x = go (bytes_eq x k.routine.name) (all_good ks pl.3 x) (λ y. all_good ks pl.3 y)
    where
      go : (c : Bool) → CalleeOk C b cs (lookup ks x) (meanings (routines ks) turns x) → ((y : List ℕ) → CalleeOk C b cs (lookup ks y) (meanings (routines ks) turns y)) → CalleeOk C b cs (if c then Some k else lookup ks x) (if c then called k.routine turns (meanings (routines ks) turns) else meanings (routines ks) turns x)
      go true h f = (pl.0, λ ps locked z ent hold. meaning_good C b cs sites k pl.0 ks turns (meanings (routines ks) turns) f (statements_claimed k ks (meanings (routines ks) turns) pl.2) (entries_claimed k pl.2) (placed_part ks k pl.1) ps locked ent z (entry_rules_hold.inside_holds k.scope.symbols (scene_in b k ps (places_in k ps)) k.entry (numbers_of z) hold))
      go false h f = h

  -- ---- the main program

  module _ (main : Part) (parts : List Part) (z : Store) (pl : AnalysedProgram b cs sites of main parts z) where
    begins : Entered main [] no_locks
    begins = record {
      locks = λ u l. absurd (true≢false (sym l));
      places = λ u h. absurd (true≢false (sym (sym (ap (λ ds. in_bound ds [] u) pl.no_dummies) ∙ h)));
      solid = λ i d e f. absurd (nothing i d (sym (ap (λ ds. slice_get ds i) pl.no_dummies) ∙ e));
    }
      where
        nothing : (i : ℕ) (d : Dummy) → slice_get [] i ≡ Some d → ⊥
        nothing i d e = cc

    fixed_places : places_in main [] ≡ main.routine.fixed
    fixed_places = ap (λ ds. scalars_bound ds [] main.routine.fixed) pl.no_dummies

    entry_holds : HoldsAt (scene_in b main [] (places_in main [])) main.entry (numbers_of z)
    entry_holds =
        subst (λ (at : Places). HoldsAt (scene_in b main [] at) main.entry (numbers_of z)) (sym fixed_places)
        (subst (λ (p : System). HoldsAt (scene_in b main [] main.routine.fixed) p (numbers_of z)) (sym pl.entry)
        (entry_rules_hold.main_holds main.scope (scene_in b main [] main.routine.fixed) (numbers_of z) pl.begins))

    abbrev callee : List ℕ → Meaning
    callee = meanings (routines parts) turns

    program_good : Good C (Within (spot main.routine.name 0) main.routine.fixed (body_of main.routine turns callee [] main.routine.fixed no_locks) (λ f. Ends f)) z (λ f y. Unit {0})
    program_good =
        subst (λ (at : Places). Good C (Within (spot main.routine.name 0) at (body_of main.routine turns callee [] at no_locks) (λ f. Ends f)) z (λ f y. Unit {0})) fixed_places
        (main_good C b cs sites main pl.sane parts turns callee (all_good parts pl.parts_analysed) (statements_claimed main parts callee pl.named) (entries_claimed main pl.named) (placed_part parts main pl.analysed) [] no_locks begins z entry_holds)

    pub program_holds_at : (input : List Content) → Throughout (EachHolds cs of) (program_plan (record { main = main.routine; others = routines parts; initial = z }) turns) z input (λ f s i. [])
    program_holds_at input = throughout (EachHolds cs of) (program_plan (record { main = main.routine; others = routines parts; initial = z }) turns) z input (λ f s i. []) (program_good.inside input)

pub program_holds : ProgramHolds
program_holds b cs sites of main parts z pl ks g e turns input =
    subst (λ (p : Program). Throughout (EachHolds cs of) (program_plan p turns) p.initial input (λ f s i. [])) (sym e) (program_holds_at b cs sites of turns main parts z pl input)
