-- A CALL: its actuals are evaluated, and then what is called does what its IN regions show.
use Rattle.std.proofs.Common.{◌≡◌, ℕ, ◌<◌, List, [], ◌++◌, true, false, refl, sym, subst}
use Rattle.f77_ast.specs.Trees.{ExprTrees}
use Rattle.f77_ast.specs.Store.{Content, Store}
use Rattle.f77_ast.specs.Runs.{Event, Answer, Gave, Broke}
use Rattle.f77_ast.specs.Places.{Variable}
use Rattle.f77_ast.specs.Writes.{Locks}
use Rattle.f77_ast.specs.Plans.{Flow, Normal, Jump, Returned, Stopped, Ends, ◌▹◌}
use Rattle.f77_ast.specs.Calls.{Actual, actuals, places_of, own_units, lock_own, after_call, call_plan}
use Rattle.f77_ast.specs.Executions.{Claim}
use Rattle.f77_ast.proofs.StepLaws.{Leads}
use Rattle.affine_forms.specs.Scalars.{is_cell}
use Rattle.affine_forms.specs.Claims.{unit_in}
use Rattle.in_out_regions.specs.region_sets.declared.region.Region.{Region}
use Rattle.in_out_regions.specs.region_sets.Sets.{unite_all}
use Rattle.in_out_regions.specs.array_regions.Calls.{actuals_reads}
use Rattle.in_out_regions.specs.Kinds.{all_in}
use Rattle.laws_analyses.specs.Regions.Settings.{Sound, actuals_plain}
use Rattle.laws_analyses.specs.Regions.Shown.{Holds, Sharp, Finally}
use Rattle.laws_analyses.proofs.Regions.Traces.{trace_nil}
use Rattle.laws_analyses.proofs.Regions.Rules.{Goes, goes_ends, goes_more, goes_then}
use Rattle.laws_analyses.proofs.Regions.Looks.{IfGave}
use Rattle.laws_analyses.proofs.Regions.Storing.{holding_with, goes_forget_all, goes_holding}
use Rattle.laws_analyses.proofs.Regions.Actuals.{AllOffer, actuals_hold}
use Rattle.laws_analyses.proofs.Regions.CallGoes.{Offered}
use Rattle.laws_marks.specs.InFrames.{Frame}
use Rattle.laws_marks.specs.InShown.{FirstHolds, FirstSharp, IsFree, FirstShown}
use Rattle.laws_marks.specs.InUnits.{AreOf}
use Rattle.laws_marks.proofs.InTaking.{NoWrites, free_none, free_both, first_holds_left, first_holds_both, first_sharp_first, first_sharp_last, first_sharp_append, seen_first, seen_sharp, first_broke, first_gathered}
use Rattle.laws_marks.proofs.InQuiet.{holding_quiet}

-- C: the claims that the actuals keep, D: those that are made here; the store is that where the CALL begins; Known: what else is known of actuals that were evaluated; Shows: of what is called where it is entered with
-- these places; rs: its IN regions in the terms of the caller
module _ (C D : Claim) (k : Frame) (sound : Sound k.base) (solid : (x : List ℕ) (v : ℕ) → k.sc.names x ≡ Variable v → k.scalar x ≡ true → 0 < (k.at v).extent) (x : List ℕ) (es : ExprTrees) (n : ℕ) (apart : (i c : ℕ) → is_cell k.m.tracked c ≡ true → k.sc.own_unit n i ≡ unit_in k.at c → ⊥) (locked : Locks) (z : Store) (Known : List Actual → Store → Type 0) (Shows : List Actual → Store → Answer Flow → List Event → Type 0) (rs : List Region) where
  abbrev pub OfferedSo : List Actual → Store → Type 0
  OfferedSo xs s = Offered C k.base sound solid x es n apart locked z Known xs s

  abbrev reads_of : List Region
  reads_of = actuals_reads es k.m

  abbrev all : List Region
  all = all_in (actuals_reads es k.m) ++ rs

  module _ (plain : actuals_plain k.scalar es ≡ true) (named : AreOf k.may_name (actuals_reads es k.m)) (leads : (i : List Content) → Leads (actuals es 0 k.sc.names k.at (k.sc.own_unit n)) z i (λ xs s j. Known xs s))
      (goes : (xs : List Actual) (s : Store) → OfferedSo xs s → Goes D (k.sc.callee x (places_of xs) (lock_own locked (own_units xs))) s (λ a y fs. Shows xs s a fs))
      (lies : (xs : List Actual) (s : Store) → OfferedSo xs s → (a : Answer Flow) (fs : List Event) → Shows xs s a fs → FirstHolds k rs z fs)
      (sharp : (xs : List Actual) (s : Store) → OfferedSo xs s → (a : Answer Flow) (fs : List Event) → Shows xs s a fs → Finally true a (FirstSharp k rs z fs))
      (free : (xs : List Actual) (s : Store) → OfferedSo xs s → (a : Answer Flow) (fs : List Event) → Shows xs s a fs → IsFree k locked fs) where
    module _ (xs : List Actual) (s : Store) (o : OfferedSo xs s) (es1 : List Event) (h : Holds k.base reads_of z es1) (g : Sharp k.base reads_of z es1) (quiet : NoWrites es1) where
      both : (a : Answer Flow) (fs : List Event) → Shows xs s a fs → FirstHolds k all z (es1 ++ fs)
      both a fs w = first_holds_both k (all_in reads_of) rs z es1 fs (seen_first k reads_of z es1 named h) (lies xs s o a fs w)

      both_free : (a : Answer Flow) (fs : List Event) → Shows xs s a fs → IsFree k locked (es1 ++ fs)
      both_free a fs w = free_both k locked es1 fs (free_none k locked es1 quiet) (free xs s o a fs w)

      both_sharp : (fs : List Event) → FirstSharp k rs z fs → FirstSharp k all z (es1 ++ fs)
      both_sharp fs i = first_sharp_append k (all_in reads_of) rs z (es1 ++ fs) (first_sharp_first k (all_in reads_of) z es1 fs (seen_sharp k reads_of z es1 named quiet g)) (first_sharp_last k rs z es1 fs quiet i)

      -- a normal end
      ended : (y : Store) (fs : List Event) → FirstHolds k all z (es1 ++ fs) → IsFree k locked (es1 ++ fs) → FirstSharp k rs z fs → Goes D (after_call (own_units xs) Normal) y (λ b v gs. FirstShown k false locked all z b (es1 ++ (fs ++ gs)))
      ended y fs w f i =
          goes_forget_all D (own_units xs) (Ends Normal) y (λ b v gs. FirstShown k false locked all z b (es1 ++ (fs ++ gs)))
          (λ v e. goes_ends D Normal v (λ b u gs. FirstShown k false locked all z b (es1 ++ (fs ++ gs)))
          (subst (λ ts. FirstShown k false locked all z (Gave Normal) (es1 ++ ts)) (sym (trace_nil fs)) (record { holds = w; sharp = both_sharp fs i; free = f })))

      next : (f : Flow) (y : Store) (fs : List Event) → Shows xs s (Gave f) fs → Goes D (after_call (own_units xs) f) y (λ b v gs. FirstShown k false locked all z b (es1 ++ (fs ++ gs)))
      next Normal y fs w = ended y fs (both (Gave Normal) fs w) (both_free (Gave Normal) fs w) (sharp xs s o (Gave Normal) fs w)
      next Returned y fs w = ended y fs (both (Gave Returned) fs w) (both_free (Gave Returned) fs w) (sharp xs s o (Gave Returned) fs w refl)
      next (Jump l) y fs w =
          goes_ends D (Jump l) y (λ b v gs. FirstShown k false locked all z b (es1 ++ (fs ++ gs)))
          (subst (λ ts. FirstShown k false locked all z (Gave (Jump l)) (es1 ++ ts)) (sym (trace_nil fs)) (record { holds = both (Gave (Jump l)) fs w; sharp = tt; free = both_free (Gave (Jump l)) fs w }))
      next Stopped y fs w =
          goes_ends D Stopped y (λ b v gs. FirstShown k false locked all z b (es1 ++ (fs ++ gs)))
          (subst (λ ts. FirstShown k false locked all z (Gave Stopped) (es1 ++ ts)) (sym (trace_nil fs)) (record { holds = both (Gave Stopped) fs w; sharp = tt; free = both_free (Gave Stopped) fs w }))

      called_first : Goes D (k.sc.callee x (places_of xs) (lock_own locked (own_units xs)) ▹ after_call (own_units xs)) s (λ b v gs. FirstShown k false locked all z b (es1 ++ gs))
      called_first =
          goes_then D (k.sc.callee x (places_of xs) (lock_own locked (own_units xs))) (after_call (own_units xs)) s (λ a y fs. Shows xs s a fs) (λ b v gs. FirstShown k false locked all z b (es1 ++ gs)) (goes xs s o)
          next
          (λ b y fs w. first_broke k false locked all z b (es1 ++ fs) (both (Broke b) fs w) (both_free (Broke b) fs w))

    pub call_first : Goes D (call_plan (actuals es 0 k.sc.names k.at (k.sc.own_unit n)) (k.sc.callee x) locked) z (λ a y fs. FirstShown k false locked (unite_all (all_in (actuals_reads es k.m) ++ rs)) z a fs)
    call_first =
        goes_more D (call_plan (actuals es 0 k.sc.names k.at (k.sc.own_unit n)) (k.sc.callee x) locked) z (λ a y fs. FirstShown k false locked all z a fs) (λ a y fs. FirstShown k false locked (unite_all (all_in (actuals_reads es k.m) ++ rs)) z a fs) (λ a y fs w. first_gathered k false locked all z a fs w)
        (goes_holding D (actuals es 0 k.sc.names k.at (k.sc.own_unit n)) (λ xs. k.sc.callee x (places_of xs) (lock_own locked (own_units xs)) ▹ after_call (own_units xs)) z
        (λ a w fs. (AllOffer k.base sound solid (k.sc.own_unit n) apart z es 0 a w fs × IfGave a (λ xs. Known xs w)) × NoWrites fs) (λ a y fs. FirstShown k false locked all z a fs)
        (holding_quiet (actuals es 0 k.sc.names k.at (k.sc.own_unit n)) z (λ a w fs. AllOffer k.base sound solid (k.sc.own_unit n) apart z es 0 a w fs × IfGave a (λ xs. Known xs w))
        (holding_with (actuals es 0 k.sc.names k.at (k.sc.own_unit n)) z [] (AllOffer k.base sound solid (k.sc.own_unit n) apart z es 0) (λ xs s j. Known xs s) (actuals_hold k.base sound solid (k.sc.own_unit n) apart z es 0 z (λ c t. refl) plain) (leads [])))
        (λ xs w fs p. called_first xs w (record { each = p.0.0.2; same = p.0.0.0; known = p.0.1 }) fs p.0.0.1.holds p.0.0.1.sharp p.1)
        (λ b w fs p. first_broke k false locked all z b fs (first_holds_left k (all_in reads_of) rs z fs (seen_first k reads_of z fs named p.0.0.1.holds)) (free_none k locked fs p.1)))
