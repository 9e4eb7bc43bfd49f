-- What IN regions show of a run is what is claimed of its execution.
use Rattle.std.proofs.Common.{◌≡◌, ℕ, List, Bool, true, false, refl, sym, ap, ◌∙◌, true≢false}
use Rattle.f77_ast.specs.Store.{Store}
use Rattle.f77_ast.specs.Steps.{Spot}
use Rattle.f77_ast.specs.Runs.{Event, Ran, Answer, Gave, Broke, store_of}
use Rattle.f77_ast.specs.Plans.{Flow, Normal, Jump, Returned, Stopped}
use Rattle.f77_ast.specs.Executions.{AtEnd, AtEndOf}
use Rattle.f77_meaning.specs.Occurrences.{Occurrence, is_normal}
use Rattle.f77_meaning.specs.Claims.{AreExact, takes_in}
use Rattle.f77_meaning.specs.Accesses.{is_read_first, is_visible}
use Rattle.affine_forms.specs.Scalars.{is_cell}
use Rattle.affine_forms.specs.Claims.{numbers_of}
use Rattle.preconditions.specs.transformer_algebra.Laws.{In}
use Rattle.in_out_regions.specs.region_sets.declared.region.Access.TheVariants as access
use Rattle.in_out_regions.specs.region_sets.declared.region.Region.{Region}
use Rattle.in_out_regions.specs.region_sets.Claims.{LiesInSet}
use Rattle.laws_analyses.specs.Regions.Claims.{regions_in, PointsAre}
use Rattle.laws_analyses.specs.Regions.Settings.{scene}
use Rattle.laws_analyses.specs.Regions.Shown.{Finally}
use Rattle.laws_analyses.proofs.Regions.Claimed.{visible_seen, lies_one, points_one, some_of, all_exact}
use Rattle.laws_marks.specs.InClaims.{is_in, InSetHolds}
use Rattle.laws_marks.specs.InFrames.{Frame, elements_in}
use Rattle.laws_marks.specs.InShown.{FirstHolds, FirstSharp}
use Rattle.laws_marks.proofs.InFramed.{lies_back, sharp_back}

module _ (k : Frame) (p : Spot) (s : Store) (q : Ran Flow) (later : List Event) where
  abbrev x : Occurrence
  x = record { spot = p; places = k.at; start = s; ran = q; later = later }

  -- where all that is not hidden lies in the set
  pub visible_first : (rs : List Region) → FirstHolds k rs s q.trace → (u : ℕ) → is_read_first u q.trace ≡ true → is_visible k.ks k.g x u ≡ true → LiesInSet (scene k.base) (elements_in k) access.In rs (numbers_of s) u
  visible_first rs h u e v = h u (record { is_so = e; seen = visible_seen k.ks k.g x u v })

  module _ (own : Bool) (normal : (f : Flow) → is_normal p.statement f ≡ true → Finally own (Gave f) ⊥ → ⊥) (rs : List Region) (lies : (u : ℕ) → is_read_first u q.trace ≡ true → is_visible k.ks k.g x u ≡ true → LiesInSet (scene k.base) (elements_in k) access.In rs (numbers_of s) u) (sharp : Finally own q.answer (FirstSharp k rs s q.trace)) where
    at_normal : (P : Type 0) → (FirstSharp k rs s q.trace → P) → AtEndOf q (λ f z j. is_normal p.statement f ≡ true → P)
    at_normal P f = go q.answer sharp
      where
        flows : (a : Flow) → Finally own (Gave a) (FirstSharp k rs s q.trace) → is_normal p.statement a ≡ true → P
        flows Normal w n = f w
        flows (Jump l) w n = absurd (normal (Jump l) n tt)
        flows Returned w n = by own refl
          where
            by : (b : Bool) → own ≡ b → P
            by true e = f (w e)
            by false e = absurd (normal Returned n (λ o. absurd (true≢false (sym o ∙ e))))
        flows Stopped w n = absurd (normal Stopped n tt)

        go : (a : Answer Flow) → Finally own a (FirstSharp k rs s q.trace) → AtEnd a (store_of q.memory) q.input (λ f z j. is_normal p.statement f ≡ true → P)
        go (Gave a) w = λ n. flows a w n
        go (Broke b) w = tt

    pub in_set_holds : InSetHolds k.ks k.g k.m rs x
    in_set_holds = record {
      ins = (
        (λ u r v. (let l = lies u r v in some_of k.base p s q later is_in rs u l.region l.is_one (ap is_in l.kind) (lies_one k.base p s q later l.region u (lies_back k l.region (numbers_of s) u l.lies)))),
        at_normal (AreExact k.ks k.g (is_cell k.m.tracked) x (takes_in x) (regions_in is_in k.ks k.g k.at rs)) (λ w. all_exact k.base p s q later is_in rs (takes_in x) (λ r i e. sharp_back k r (numbers_of s) (takes_in x) (w r i))),
      );
      points = at_normal ((r : Region) → In r rs → is_in r.kind ≡ true → PointsAre k.ks k.g (is_cell k.m.tracked) x (takes_in x) r) (λ w r i e. points_one k.base p s q later r (takes_in x) (sharp_back k r (numbers_of s) (takes_in x) (w r i)));
    }
