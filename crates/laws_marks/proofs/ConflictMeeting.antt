-- Where no conflict is found, none two iterations of a DO meet.
use Rattle.std.proofs.Common.{◌≡◌, ◌⊎◌, inl, inr, ⊎_elim, ℕ, ◌<◌, List, ◌&&◌, Some, None, Bool, true, false, refl, ap, ◌∙◌, subst, ℤ}
use Rattle.std.specs.Prelude.{not}
use Rattle.std.proofs.lemmas.Bool.{and_parts, and_from, or_from, or_left, or_right, not-true}
use Rattle.f77_ast.specs.Writes.{Locks}
use Rattle.f77_ast.specs.Runs.{Event}
use Rattle.f77_ast.specs.Shared.{overlap}
use Rattle.f77_ast.specs.declared.variable.Variable.{Variable}
use Rattle.f77_meaning.specs.Accesses.{is_written}
use Rattle.f77_meaning.specs.Areas.{is_own_unit}
use Rattle.f77_meaning.specs.Linked.{numbering}
use Rattle.affine_forms.specs.Claims.{numbers_of}
use Rattle.preconditions.specs.transformer_algebra.Claims.{HoldsAt}
use Rattle.f77_ast.specs.declared.marks.Kinds.{Kinds}
use Rattle.in_out_regions.specs.region_sets.declared.range.Range.{Range as Bounds}
use Rattle.in_out_regions.specs.region_sets.declared.region.Access.{Access}
use Rattle.in_out_regions.specs.region_sets.declared.region.Access.TheVariants.{Write}
use Rattle.in_out_regions.specs.region_sets.Claims.{Iteration as Numbered}
use Rattle.loop_marker.specs.dependence_test.declared.body.LoopBody.{LoopBody}
use Rattle.loop_marker.specs.dependence_test.Kinds.{first_access, second_access}
use Rattle.loop_marker.specs.dependence_test.Conflicts.{kept_system}
use Rattle.loop_marker.specs.dependence_test.Claims.{IsRange, Executed, IsWritten, HasOneElement, IsShared}
use Rattle.loop_marker.proofs.DependenceTest.ConflictLaws.{no_meeting}
use Rattle.laws_analyses.specs.Regions.Settings.{scene, elements_with}
use Rattle.laws_analyses.specs.Regions.Shown.{accessed, is_lost, is_hidden, Holds}
use Rattle.laws_marks.specs.InFrames.{Frame, elements_in}
use Rattle.laws_marks.specs.InShown.{IsFree}
use Rattle.laws_marks.specs.InUnits.{UnitsFit}
use Rattle.laws_marks.proofs.InFirsts.{lost_known}
use Rattle.laws_marks.proofs.InFramed.{by_order, lies_in, set_in}
use Rattle.laws_marks.specs.ConflictIterations.{Iteration}
use Rattle.laws_marks.specs.ConflictClaims.{scene_in, Meet}
use Rattle.laws_marks.proofs.ConflictNarrows.{AreNarrow}
use Rattle.f77_ast.specs.Variables.{same_variable}
use Rattle.f77_ast.proofs.SameLaws.{same_itself}

-- what a write is
write_of : (a : Access) (es : List Event) (u : ℕ) → a ≡ Write → accessed a es u ≡ true → is_written u es ≡ true
write_of a es u e h = subst (λ c. accessed c es u ≡ true) e h

-- an iteration of a DO whose iterations have these regions, and what holds where they begin
pub record Known (k : Frame) (locked : Locks) (b : LoopBody) (g : Bounds) (x : ℕ → ℤ) (first last : ℤ) (d : ℕ) (it : Iteration) : Type 0 where
  pub number : ℤ
  pub iteration : Numbered (scene k.base) g x first last number d (numbers_of it.start)
  pub holds : HoldsAt (scene k.base) b.head (numbers_of it.start)
  pub accesses : Holds k.base b.regions it.start it.did
  pub free : IsFree k locked it.did

module _ (k : Frame) (locked : Locks) (units : UnitsFit k locked) (b : LoopBody) (narrow : AreNarrow k b.regions) (g : Bounds) (is_range : IsRange b g) (x : ℕ → ℤ) (first last : ℤ) where
  -- ---- a unit that is written

  module _ (u : ℕ) (free : locked u ≡ None) where
    one : HasOneElement (elements_in k) b.regions u
    one r i phi psi e f s j n h = (let w = narrow.narrow r i s j n h in units.once r.variable phi psi u e f n w.0 w.1)

    shared : IsShared k.m.symbols (elements_in k) u
    shared v w phi psi e f = ⊎_elim
        (λ same. or_left (same_variable v w) (overlap k.m.symbols v w) (ap (same_variable v) same ∙ same_itself v))
        (λ over. or_right (same_variable v w) (overlap k.m.symbols v w) over)
        (units.apart w v psi phi u f e free)

    -- where it is an element, it is seen in each iteration
    seen : (v : Variable) (phi : ℕ → ℤ) → elements_in k v phi ≡ Some u → (es : List Event) → IsFree k locked es → is_hidden k.ks k.g es u ≡ false
    seen v phi e es f = or_from (is_own_unit (numbering k.ks k.g) u) (is_lost k.ks k.g es u) (units.no_actual v phi u e free) (not_lost (is_lost k.ks k.g es u) refl)
      where
        not_lost : (c : Bool) → is_lost k.ks k.g es u ≡ c → is_lost k.ks k.g es u ≡ false
        not_lost true q = (let w = lost_known k.ks k.g u es q in absurd (units.not_lost v phi u e (f.lost u q) w.0 w.1))
        not_lost false q = q

  -- ---- an iteration as the law knows it

  abbrev does : Iteration → Access → ℕ → Bool
  does it a u = accessed a it.did u && not (is_hidden k.ks k.g it.did u)

  abbrev executed : (d : ℕ) (it : Iteration) → Known k locked b g x first last d it → Executed (scene k.base) (elements_in k) b g x first last d
  executed d it h = record {
    number = h.number;
    begin = numbers_of it.start;
    iteration = h.iteration;
    head = h.holds;
    accesses = does it;
    contained = λ a u e. (let p = and_parts (accessed a it.did u) (not (is_hidden k.ks k.g it.did u)) e in
        set_in k a b.regions (numbers_of it.start) u narrow.named (h.accesses a u (record { is_so = p.0; seen = not-true (is_hidden k.ks k.g it.did u) p.1 })));
  }

  done : (it : Iteration) (a : Access) (u : ℕ) → accessed a it.did u ≡ true → is_hidden k.ks k.g it.did u ≡ false → does it a u ≡ true
  done it a u e s = and_from (accessed a it.did u) (not (is_hidden k.ks k.g it.did u)) e (ap not s)

  -- a unit in the WRITE region is one of a variable that may be named
  written_in : (v : Variable) (it : Iteration) (u : ℕ) → IsWritten (scene_in k.m k.at) (elements_with k.ks k.g k.m.symbols k.at) b.regions v (numbers_of it.start) u → IsWritten (scene k.base) (elements_in k) b.regions v (numbers_of it.start) u
  written_in v it u w = record {
    region = w.region;
    is_one = w.is_one;
    kind = w.kind;
    variable = w.variable;
    lies = lies_in k w.region (numbers_of it.start) u (narrow.named w.region w.is_one) (record { phi = w.lies.phi; there = w.lies.there; described = w.lies.described });
  }

  module _ (v : Variable) (kinds : Kinds) (no_conflict : kept_system k.m.symbols b v kinds ≡ None) (i j : ℕ) (less : i < j) (y z : Iteration) (p : Known k locked b g x first last i y) (q : Known k locked b g x first last j z) (u : ℕ) (m : Meet k.ks k.g k.m k.at b.regions v kinds y z u) where
    meets : (free : locked u ≡ None) (w : Variable) (phi : ℕ → ℤ) → elements_in k w phi ≡ Some u →
        ((first_access kinds ≡ Write) × IsWritten (scene k.base) (elements_in k) b.regions v (numbers_of y.start) u) ⊎ ((second_access kinds ≡ Write) × IsWritten (scene k.base) (elements_in k) b.regions v (numbers_of z.start) u) → ⊥
    meets free w phi e written =
        no_meeting k.m.symbols b v kinds no_conflict (scene k.base) (elements_in k) (by_order k) g is_range x first last i j less (executed i y p) (executed j z q) u (one u free) (shared u free)
        (done y (first_access kinds) u m.earlier (seen u free w phi e y.did p.free))
        (done z (second_access kinds) u m.later (seen u free w phi e z.did q.free))
        written

    pub do_not_meet : ⊥
    do_not_meet = ⊎_elim
        (λ h. (let w = written_in v y u h.1 in meets (p.free.unlocked u (write_of (first_access kinds) y.did u h.0 m.earlier)) w.region.variable w.lies.phi w.lies.there (inl (h.0, w))))
        (λ h. (let w = written_in v z u h.1 in meets (q.free.unlocked u (write_of (second_access kinds) z.did u h.0 m.later)) w.region.variable w.lies.phi w.lies.there (inr (h.0, w))))
        m.written
