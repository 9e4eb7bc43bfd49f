-- A CALL: its actuals are evaluated, and then what is called does what its regions say.
use Rattle.std.proofs.Common.{◌≡◌, ℕ, ◌<◌, List, [], ◌++◌, true, false, refl, sym, subst}
use Rattle.f77_ast.specs.Trees.{ExprTrees}
use Rattle.f77_ast.specs.Store.{Content, Store}
use Rattle.f77_ast.specs.Runs.{Event, Answer, Gave, Broke}
use Rattle.f77_ast.specs.Places.{Variable}
use Rattle.f77_ast.specs.Writes.{Locks}
use Rattle.f77_ast.specs.Plans.{Flow, Normal, Jump, Returned, Stopped, Ends, ◌▹◌}
use Rattle.f77_ast.specs.Calls.{Actual, actuals, places_of, own_units, lock_own, after_call, call_plan}
use Rattle.f77_ast.specs.Executions.{Claim}
use Rattle.f77_ast.proofs.StepLaws.{Leads}
use Rattle.affine_forms.specs.Scalars.{is_cell}
use Rattle.affine_forms.specs.Claims.{unit_in}
use Rattle.in_out_regions.specs.region_sets.declared.region.Region.{Region}
use Rattle.in_out_regions.specs.region_sets.Sets.{unite_all}
use Rattle.in_out_regions.specs.array_regions.Calls.{actuals_reads}
use Rattle.laws_analyses.specs.Regions.Settings.{Setting, Sound, actuals_plain}
use Rattle.laws_analyses.specs.Regions.Shown.{Holds, Sharp, Finally, Shown}
use Rattle.laws_analyses.proofs.Regions.Traces.{trace_nil}
use Rattle.laws_analyses.proofs.Regions.Rules.{Post, Goes, goes_ends, goes_more, goes_then}
use Rattle.laws_analyses.proofs.Regions.Looks.{IfGave}
use Rattle.laws_analyses.proofs.Regions.Holding.{holds_left, holds_both, sharp_both}
use Rattle.laws_analyses.proofs.Regions.Showing.{shown_broke, shown_gathered}
use Rattle.laws_analyses.proofs.Regions.Storing.{holding_with, goes_forget_all, goes_holding}
use Rattle.laws_analyses.proofs.Regions.Actuals.{AllAre, Same, AllOffer, actuals_hold}

-- the store is that where the CALL begins; Known: what else is known of actuals that were evaluated; Shows: of what is called where it is entered with
-- these places; rs: its regions in the terms of the caller
module _ (D : Claim) (k : Setting) (sound : Sound k) (solid : (x : List ℕ) (v : ℕ) → k.sc.names x ≡ Variable v → k.scalar x ≡ true → 0 < (k.at v).extent) (x : List ℕ) (es : ExprTrees) (n : ℕ) (apart : (i c : ℕ) → is_cell k.m.tracked c ≡ true → k.sc.own_unit n i ≡ unit_in k.at c → ⊥) (locked : Locks) (z : Store) (Known : List Actual → Store → Type 0) where
  abbrev own : ℕ → ℕ
  own = k.sc.own_unit n

  -- the actuals offer these, at this store
  pub record Offered (xs : List Actual) (s : Store) : Type 0 where
    pub each : AllAre k sound solid (k.sc.own_unit n) apart z es 0 xs
    pub same : Same k sound solid (k.sc.own_unit n) apart z s
    pub known : Known xs s

  module _ (Shows : List Actual → Store → Answer Flow → List Event → Type 0) (rs : List Region) where
    abbrev reads_of : List Region
    reads_of = actuals_reads es k.m

    abbrev all : List Region
    all = actuals_reads es k.m ++ rs

    module _ (plain : actuals_plain k.scalar es ≡ true) (leads : (i : List Content) → Leads (actuals es 0 k.sc.names k.at (k.sc.own_unit n)) z i (λ xs s j. Known xs s))
        (goes : (xs : List Actual) (s : Store) → Offered xs s → Goes D (k.sc.callee x (places_of xs) (lock_own locked (own_units xs))) s (λ a y fs. Shows xs s a fs))
        (lies : (xs : List Actual) (s : Store) → Offered xs s → (a : Answer Flow) (fs : List Event) → Shows xs s a fs → Holds k rs z fs)
        (sharp : (xs : List Actual) (s : Store) → Offered xs s → (a : Answer Flow) (fs : List Event) → Shows xs s a fs → Finally true a (Sharp k rs z fs)) where
      abbrev Q : Post Flow
      Q a y fs = Shown k false all z a fs

      module _ (xs : List Actual) (s : Store) (o : Offered xs s) (es1 : List Event) (h : Holds k reads_of z es1) (g : Sharp k reads_of z es1) where
        both : (a : Answer Flow) (fs : List Event) → Shows xs s a fs → Holds k all z (es1 ++ fs)
        both a fs w = holds_both k reads_of rs z es1 fs h (lies xs s o a fs w)

        -- a normal end
        ended : (y : Store) (fs : List Event) → Holds k all z (es1 ++ fs) → Sharp k rs z fs → Goes D (after_call (own_units xs) Normal) y (λ b v gs. Shown k false all z b (es1 ++ (fs ++ gs)))
        ended y fs w i =
            goes_forget_all D (own_units xs) (Ends Normal) y (λ b v gs. Shown k false all z b (es1 ++ (fs ++ gs)))
            (λ v e. goes_ends D Normal v (λ b u gs. Shown k false all z b (es1 ++ (fs ++ gs)))
            (subst (λ ts. Shown k false all z (Gave Normal) (es1 ++ ts)) (sym (trace_nil fs)) (record { holds = w; sharp = sharp_both k reads_of rs z es1 fs g i })))

        next : (f : Flow) (y : Store) (fs : List Event) → Shows xs s (Gave f) fs → Goes D (after_call (own_units xs) f) y (λ b v gs. Shown k false all z b (es1 ++ (fs ++ gs)))
        next Normal y fs w = ended y fs (both (Gave Normal) fs w) (sharp xs s o (Gave Normal) fs w)
        next Returned y fs w = ended y fs (both (Gave Returned) fs w) (sharp xs s o (Gave Returned) fs w refl)
        next (Jump l) y fs w =
            goes_ends D (Jump l) y (λ b v gs. Shown k false all z b (es1 ++ (fs ++ gs)))
            (subst (λ ts. Shown k false all z (Gave (Jump l)) (es1 ++ ts)) (sym (trace_nil fs)) (record { holds = both (Gave (Jump l)) fs w; sharp = tt }))
        next Stopped y fs w =
            goes_ends D Stopped y (λ b v gs. Shown k false all z b (es1 ++ (fs ++ gs)))
            (subst (λ ts. Shown k false all z (Gave Stopped) (es1 ++ ts)) (sym (trace_nil fs)) (record { holds = both (Gave Stopped) fs w; sharp = tt }))

        called_goes : Goes D (k.sc.callee x (places_of xs) (lock_own locked (own_units xs)) ▹ after_call (own_units xs)) s (λ b v gs. Shown k false all z b (es1 ++ gs))
        called_goes =
            goes_then D (k.sc.callee x (places_of xs) (lock_own locked (own_units xs))) (after_call (own_units xs)) s (λ a y fs. Shows xs s a fs) (λ b v gs. Shown k false all z b (es1 ++ gs)) (goes xs s o)
            next
            (λ b y fs w. shown_broke k false all z b (es1 ++ fs) (both (Broke b) fs w))

      pub call_goes : Goes D (call_plan (actuals es 0 k.sc.names k.at (k.sc.own_unit n)) (k.sc.callee x) locked) z (λ a y fs. Shown k false (unite_all (actuals_reads es k.m ++ rs)) z a fs)
      call_goes =
          goes_more D (call_plan (actuals es 0 k.sc.names k.at (k.sc.own_unit n)) (k.sc.callee x) locked) z Q (λ a y fs. Shown k false (unite_all (actuals_reads es k.m ++ rs)) z a fs) (λ a y fs w. shown_gathered k false all z a fs w)
          (goes_holding D (actuals es 0 k.sc.names k.at (k.sc.own_unit n)) (λ xs. k.sc.callee x (places_of xs) (lock_own locked (own_units xs)) ▹ after_call (own_units xs)) z
          (λ a w fs. AllOffer k sound solid (k.sc.own_unit n) apart z es 0 a w fs × IfGave a (λ xs. Known xs w)) Q
          (holding_with (actuals es 0 k.sc.names k.at (k.sc.own_unit n)) z [] (AllOffer k sound solid (k.sc.own_unit n) apart z es 0) (λ xs s j. Known xs s) (actuals_hold k sound solid (k.sc.own_unit n) apart z es 0 z (λ c t. refl) plain) (leads []))
          (λ xs w fs p. called_goes xs w (record { each = p.0.2; same = p.0.0; known = p.1 }) fs p.0.1.holds p.0.1.sharp)
          (λ b w fs p. shown_broke k false all z b fs (holds_left k reads_of rs z fs p.0.1.holds)))
