-- What OUT regions show of a run and of what comes later is what is claimed of its execution.
use Rattle.std.proofs.Common.{◌≡◌, ℕ, List, true, ap}
use Rattle.std.proofs.lemmas.Bool.{and_parts}
use Rattle.f77_ast.specs.Store.{Store}
use Rattle.f77_ast.specs.Steps.{Spot}
use Rattle.f77_ast.specs.Runs.{Event, Ran}
use Rattle.f77_ast.specs.Plans.{Flow}
use Rattle.f77_meaning.specs.Occurrences.{Occurrence}
use Rattle.f77_meaning.specs.Accesses.{is_written, is_read_first, is_visible}
use Rattle.affine_forms.specs.Claims.{numbers_of}
use Rattle.in_out_regions.specs.region_sets.declared.region.Access.TheVariants.{Out}
use Rattle.in_out_regions.specs.region_sets.declared.region.Region.{Region}
use Rattle.in_out_regions.specs.region_sets.Claims.{LiesInSet}
use Rattle.laws_analyses.specs.Regions.Settings.{scene}
use Rattle.laws_analyses.proofs.Regions.Claimed.{visible_seen, lies_one, some_of}
use Rattle.laws_marks.specs.InFrames.{Frame, elements_in}
use Rattle.laws_marks.proofs.InFramed.{lies_back}
use Rattle.laws_marks.specs.OutClaims.{is_out, OutSetHolds}
use Rattle.laws_marks.specs.OutShown.{IsNeeded, OutShown}

module _ (k : Frame) (p : Spot) (s : Store) (q : Ran Flow) (later : List Event) where
  abbrev x : Occurrence
  x = record { spot = p; places = k.at; start = s; ran = q; later = later }

  pub out_set_holds : (rs : List Region) → ((u : ℕ) → IsNeeded q.trace later u → is_visible k.ks k.g x u ≡ true → LiesInSet (scene k.base) (elements_in k) Out rs (numbers_of s) u) → OutSetHolds k.ks k.g k.m rs x
  out_set_holds rs h u e v =
      let b = and_parts (is_written u q.trace) (is_read_first u later) e in
      let l = h u (record { written = b.0; read = b.1 }) v in
      some_of k.base p s q later is_out rs u l.region l.is_one (ap is_out l.kind) (lies_one k.base p s q later l.region u (lies_back k l.region (numbers_of s) u l.lies))

  pub shown_holds : (rs : List Region) → OutShown k rs s q.trace later → OutSetHolds k.ks k.g k.m rs x
  shown_holds rs h = out_set_holds rs (λ u n v. h u n (visible_seen k.ks k.g x u v))
