-- The program of sound modules is fine.
use Rattle.std.proofs.Common.{◌≡◌, ◌⊎◌, inl, inr, ℕ, ◌-◌, ◌≤◌, Bool, true, false, List, [], ◌∷◌, ◌++◌, map, Some, refl, sym, ap, ◌∙◌, subst}
use Rattle.std.specs.Prelude.{if◌then◌else◌, ◌||◌, bytes_eq, slice_get}
use Rattle.std.specs.List.{list_any}
use Rattle.std.proofs.lemmas.Slice.Eq.{bytes_eq-Decides}
use Rattle.f77_ast.specs.Places.{Place}
use Rattle.f77_ast.specs.Writes.{no_locks}
use Rattle.f77_ast.specs.Plans.{Ends, Within}
use Rattle.f77_ast.specs.Calls.{scalars_bound}
use Rattle.f77_ast.specs.Statements.{spot}
use Rattle.f77_ast.specs.Programs.{Routine, body_of, called, meanings, program_plan}
use Rattle.f77_ast.specs.declared.symbol.Place.{Place as SymbolPlace}
use Rattle.f77_ast.specs.declared.symbol.Place.TheVariants as place
use Rattle.call_graph.specs.declared.graph.Graph.{Graph}
use Rattle.f77_meaning.specs.Modules.{Known, dummies_from, fixed}
use Rattle.f77_meaning.specs.Linked.{numbering, routine, named, subroutines_among, subroutines, main_of, program_of}
use Rattle.f77_meaning.specs.Claimed.{InEveryRun}
use Rattle.effects.specs.List.{Callees}
use Rattle.laws_programs.specs.Effects.Tables.{is_dummy, DummiesLead}
use Rattle.laws_programs.specs.Effects.Claims.{IsOfModule}
use Rattle.laws_programs.proofs.Effects.Members.{In, index_of}
use Rattle.laws_programs.proofs.Effects.Access.{Access}
use Rattle.laws_programs.proofs.Effects.Fine.{Fine}
use Rattle.laws_programs.proofs.Effects.Traces.{fine_throughout}
use Rattle.laws_programs.proofs.Effects.Units.{ScalarsReach}
use Rattle.laws_programs.proofs.Effects.Callers.{BlocksReach, SavedFound}
use Rattle.laws_programs.proofs.Effects.Calls.{Accepts, MeaningsFine}
use Rattle.laws_programs.proofs.Effects.Passing.{passing}
use Rattle.laws_programs.proofs.Effects.Binding.{dummies_lead}
use Rattle.laws_programs.proofs.Effects.Dummies.{no_dummy, offered, offered_place, offered_symbol, fixed_reaches}
use Rattle.laws_programs.proofs.Effects.Entered.{first_at}
use Rattle.laws_programs.proofs.Effects.Bodies.{IsSound, module_fine, module_claim, called_fine}
use Rattle.f77_ast.proofs.StorageLaws.{from_number as numbered_place}

-- ---- members

in_named : (ks : List Known) (x : List ℕ) (k : Known) → In k (named ks x) → In k ks
in_named [] x k h = h
in_named (l ∷ ks) x k h = go (bytes_eq l.read.name x) h (in_named ks x k)
  where
    go : (b : Bool) → In k (if b then l ∷ named ks x else named ks x) → (In k (named ks x) → In k ks) → (l ≡ k) ⊎ In k ks
    go true (inl e) ih = inl e
    go true (inr i) ih = inr (ih i)
    go false i ih = inr (ih i)

in_among : (ks : List Known) (k : Known) → In k (subroutines_among ks) → In k ks
in_among [] k h = h
in_among (l ∷ ks) k h = go l.read.main h (in_among ks k)
  where
    go : (b : Bool) → In k (if b then subroutines_among ks else l ∷ subroutines_among ks) → (In k (subroutines_among ks) → In k ks) → (l ≡ k) ⊎ In k ks
    go true i ih = inr (ih i)
    go false (inl e) ih = inl e
    go false (inr i) ih = inr (ih i)

-- there is a main program
pub main_in : (ks : List Known) → list_any (λ k. k.read.main) ks ≡ true → In (main_of ks) ks × ((main_of ks).read.main ≡ true)
main_in [] h = cc
main_in (k ∷ ks) h = go k.read.main refl h (main_in ks)
  where
    go : (b : Bool) → k.read.main ≡ b → (b || list_any (λ l. l.read.main) ks) ≡ true → (list_any (λ l. l.read.main) ks ≡ true → In (main_of ks) ks × ((main_of ks).read.main ≡ true)) →
        In (if b then k else main_of ks) (k ∷ ks) × ((if b then k else main_of ks).read.main ≡ true)
    go true e q ih = (inl refl, e)
    go false e q ih = let r = ih q in (inr r.0, r.1)

module _ (ks : List Known) (g : Graph) (tables : List ℕ → Callees) (reach : BlocksReach ks g) (saved : SavedFound ks g) (sound : (i : ℕ) (k : Known) → slice_get ks i ≡ Some k → IsSound ks tables k) where
  -- ---- the subroutines

  abbrev AreRoutines : List Routine → Type 0
  AreRoutines [] = Unit {0}
  AreRoutines (r ∷ rs) = ((l : Known) × In l ks × (r ≡ routine ks g l)) × AreRoutines rs

  of_members : (qs : List Known) → ((k : Known) → In k qs → In k ks) → AreRoutines (map (routine ks g) qs)
  of_members [] h = tt
  of_members (k ∷ qs) h = ((k, h k (inl refl), refl), of_members qs (λ l i. h l (inr i)))

  joined : (rs qs : List Routine) → AreRoutines rs → AreRoutines qs → AreRoutines (rs ++ qs)
  joined [] qs h i = i
  joined (r ∷ rs) qs h i = (h.0, joined rs qs h.1 i)

  all_routines : (xs : List (List ℕ)) → AreRoutines (subroutines ks g xs)
  all_routines [] = tt
  all_routines (x ∷ xs) = joined (subroutines ks g xs) (map (routine ks g) (subroutines_among (named ks x))) (all_routines xs) (of_members (subroutines_among (named ks x)) (λ k i. in_named ks x k (in_among (named ks x) k i)))

  sound_member : (k : Known) → In k ks → IsSound ks tables k
  sound_member k h = let r = index_of k ks h in sound r.0 k r.1

  module _ (turns : ℕ) where
    -- one more subroutine
    one_more : (r : Routine) (rs : List Routine) → ((l : Known) × In l ks × (r ≡ routine ks g l)) → MeaningsFine ks g tables (passing ks g) (λ x. IsOfModule ks g tables x) (meanings rs turns) → MeaningsFine ks g tables (passing ks g) (λ x. IsOfModule ks g tables x) (meanings (r ∷ rs) turns)
    one_more r rs h others x ps locked A free accepts = go (bytes_eq x r.name) refl
      where
        is_sound : IsSound ks tables h.0
        is_sound = sound_member h.0 h.1

        here : bytes_eq x r.name ≡ true → Fine (called r turns (meanings rs turns) ps locked) (passing ks g) (λ y. IsOfModule ks g tables y) A
        here e =
            let same : h.0.read.name ≡ x = ap (λ q. q.name) (sym h.2) ∙ sym ((bytes_eq-Decides x r.name).0 e) in
            subst (λ q. Fine (called q turns (meanings rs turns) ps locked) (passing ks g) (λ y. IsOfModule ks g tables y) A) (sym h.2)
            (called_fine ks g tables reach saved turns (meanings rs turns) others h.0 is_sound ps locked A free (accepts is_sound.index h.0 is_sound.is_module same))

        go : (b : Bool) → bytes_eq x r.name ≡ b → Fine ((if b then called r turns (meanings rs turns) else meanings rs turns x) ps locked) (passing ks g) (λ y. IsOfModule ks g tables y) A
        go true e = here e
        go false e = others x ps locked A free accepts

    meanings_fine : (rs : List Routine) → AreRoutines rs → MeaningsFine ks g tables (passing ks g) (λ x. IsOfModule ks g tables x) (meanings rs turns)
    meanings_fine [] h = λ x ps locked A free accepts. tt
    meanings_fine (r ∷ rs) h = one_more r rs h.0 (meanings_fine rs h.1)

    -- ---- the main program

    abbrev every : Access → Type 0
    every a = Unit {0}

    module _ (m : Known) (is_sound : IsSound ks tables m) (none : DummiesLead 0 1 m.symbols) where
      no_dummies : dummies_from 1 m.symbols ≡ []
      no_dummies = dummies_lead 0 1 m.symbols none

      at_fixed : first_at ks g m [] ≡ fixed (numbering ks g) m
      at_fixed = ap (λ ds. scalars_bound ds [] (fixed (numbering ks g) m)) no_dummies

      main_reaches : ScalarsReach m (offered ks g m [])
      main_reaches n s e v b =
          let d : is_dummy s.place ≡ false = no_dummy m.symbols (n - 1) s none (numbered_place m.symbols n s e) in
          let there : 1 ≤ (fixed (numbering ks g) m n).extent = fixed_reaches ks g m n s e v d b in
          subst (λ o. 1 ≤ (offered_symbol (fixed (numbering ks g) m n) [] o).extent) (sym e) (stays (fixed (numbering ks g) m n) s.place d there)
        where
          stays : (p : Place) (q : SymbolPlace) → is_dummy q ≡ false → 1 ≤ p.extent → 1 ≤ (offered_place p [] q).extent
          stays p (place.Local h o) d i = i
          stays p (place.Dummy k) d i = cc
          stays p (place.Block b o) d i = i
          stays p (place.Constant c) d i = i

      main_accepts : Accepts ks g tables m [] every
      main_accepts = record { scalars = main_reaches; lets = record { to_read = λ v u s h. tt; to_write = λ v u s h. tt; to_talk = λ e. tt; to_stop = λ e. tt } }

      main_fine : (rs : List Routine) → AreRoutines rs → Fine (Within (spot m.read.name 0) (fixed (numbering ks g) m) (body_of (routine ks g m) turns (meanings rs turns) [] (fixed (numbering ks g) m) no_locks) (λ f. Ends f)) (passing ks g) (λ x. IsOfModule ks g tables x) every
      main_fine rs h =
          let others = meanings_fine rs h in
          subst (λ at. Fine (Within (spot m.read.name 0) at (body_of (routine ks g m) turns (meanings rs turns) [] at no_locks) (λ f. Ends f)) (passing ks g) (λ x. IsOfModule ks g tables x) every) at_fixed (
            module_claim ks g tables reach saved turns (meanings rs turns) others m is_sound [] no_locks [],
            module_fine ks g tables reach saved turns (meanings rs turns) others m is_sound [] no_locks every (record { to_read = λ u e. tt; to_write = λ u e. tt }) main_accepts,
            λ f e. e,
          )

  pub in_every_run : list_any (λ k. k.read.main) ks ≡ true → DummiesLead 0 1 (main_of ks).symbols → InEveryRun ks g (λ x. IsOfModule ks g tables x)
  in_every_run has_main none turns input =
      let m = main_in ks has_main in
      fine_throughout (passing ks g) (λ x. IsOfModule ks g tables x) (program_plan (program_of ks g) turns) (every turns)
      (main_fine turns (main_of ks) (sound_member (main_of ks) m.0) none (subroutines ks g g.order) (all_routines g.order)) (program_of ks g).initial input (λ f s i. [])
