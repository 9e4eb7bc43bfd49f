-- What is needed later of a stretch of a run, by its parts.
use Rattle.std.proofs.Common.{◌≡◌, ◌⊎◌, inl, inr, ⊎_elim, ℕ, ℤ, List, [], ◌++◌, None, Bool, true, false, refl, sym, ◌∙◌, true≢false}
use Rattle.std.proofs.lemmas.Bool.{or_from}
use Rattle.f77_ast.specs.Store.{Store}
use Rattle.f77_ast.specs.Runs.{Event}
use Rattle.f77_ast.specs.Writes.{Locks}
use Rattle.f77_meaning.specs.Areas.{is_own_unit}
use Rattle.f77_meaning.specs.Linked.{numbering}
use Rattle.f77_meaning.specs.Accesses.{is_written, is_read_first}
use Rattle.affine_forms.specs.Claims.{numbers_of}
use Rattle.in_out_regions.specs.region_sets.declared.region.Access.{Access}
use Rattle.in_out_regions.specs.region_sets.declared.region.Access.TheVariants.{Write, Out}
use Rattle.in_out_regions.specs.region_sets.declared.region.Region.{Region}
use Rattle.in_out_regions.specs.region_sets.Claims.{LiesInSet}
use Rattle.laws_analyses.specs.Regions.Settings.{scene}
use Rattle.laws_analyses.specs.Regions.Shown.{is_lost, is_hidden, Holds}
use Rattle.laws_marks.specs.InFrames.{Frame, elements_in}
use Rattle.laws_marks.specs.InShown.{IsFirst, IsFree}
use Rattle.laws_marks.specs.InUnits.{UnitsFit, AreOf}
use Rattle.laws_marks.proofs.InFramed.{set_in}
use Rattle.laws_marks.proofs.InFirsts.{not_so, first_split, written_split, written_left, written_right, lost_known}
use Rattle.laws_marks.specs.OutShown.{IsNeeded, IsElement, NeedsLie, OutShown}

pub nothing_later : (es : List Event) (u : ℕ) → IsNeeded es [] u → ⊥
nothing_later es u n = true≢false (sym n.read)

-- read first in the part that comes next, or not written there and needed of both
pub need_cases : (es fs later : List Event) (u : ℕ) → IsNeeded es (fs ++ later) u → (is_read_first u fs ≡ true) ⊎ ((is_written u fs ≡ false) × IsNeeded (es ++ fs) later u)
need_cases es fs later u n = ⊎_elim (λ r. inl r) (λ r. inr (r.0, record { written = written_left u es fs n.written; read = r.1 })) (first_split u fs later n.read)

module _ (k : Frame) where
  pub is_element : (a : Access) (rs : List Region) (x : ℕ → ℤ) (u : ℕ) → LiesInSet (scene k.base) (elements_in k) a rs x u → IsElement k u
  is_element a rs x u l = record { variable = l.region.variable; phi = l.lies.phi; there = l.lies.there }

  pub needs_none : (rs : List Region) (s : Store) (es : List Event) → NeedsLie k rs s es []
  needs_none rs s es u e n = absurd (nothing_later es u n)

  pub needs_right : (rs : List Region) (s : Store) (es fs later : List Event) → NeedsLie k rs s (es ++ fs) later → NeedsLie k rs s fs later
  needs_right rs s es fs later h u e n = h u e (record { written = written_right u es fs n.written; read = n.read })

  -- where the first part writes nothing
  pub needs_after : (rs : List Region) (s : Store) (es fs later : List Event) → ((u : ℕ) → is_written u es ≡ false) → NeedsLie k rs s fs later → NeedsLie k rs s (es ++ fs) later
  needs_after rs s es fs later q h u e n = h u e (record { written = inner n.written; read = n.read })
    where
      inner : is_written u (es ++ fs) ≡ true → is_written u fs ≡ true
      inner w = go (is_written u fs) refl
        where
          go : (b : Bool) → is_written u fs ≡ b → b ≡ true
          go true r = refl
          go false r = absurd (neither (written_split u es fs w))
            where
              neither : (is_written u es ≡ true) ⊎ (is_written u fs ≡ true) → ⊥
              neither p = ⊎_elim (λ i. true≢false (sym i ∙ q u)) (λ i. true≢false (sym i ∙ r)) p

  -- what an execution shows, where it is an element that is needed and not hidden
  pub shown_needs : (ws rs : List Region) (s : Store) (es later : List Event) → AreOf k.may_name ws → Holds k.base ws s es → ((u : ℕ) → IsNeeded es later u → LiesInSet (scene k.base) (elements_in k) Write ws (numbers_of s) u → LiesInSet (scene k.base) (elements_in k) Out rs (numbers_of s) u) → OutShown k rs s es later
  shown_needs ws rs s es later named h f u n seen = f u n (set_in k Write ws (numbers_of s) u named (h Write u (record { is_so = n.written; seen = seen })))

  module _ (locked : Locks) (units : UnitsFit k locked) where
    -- an element that was written is not hidden
    pub unhidden : (u : ℕ) → IsElement k u → locked u ≡ None → (fs : List Event) → IsFree k locked fs → is_hidden k.ks k.g fs u ≡ false
    unhidden u e free fs f =
        or_from (is_own_unit (numbering k.ks k.g) u) (is_lost k.ks k.g fs u) (units.no_actual e.variable e.phi u e.there free)
        (not_so (is_lost k.ks k.g fs u) (λ l. (let o = lost_known k.ks k.g u fs l in units.not_lost e.variable e.phi u e.there (f.lost u l) o.0 o.1)))

    pub touched : (ws : List Region) (s : Store) (es : List Event) → AreOf k.may_name ws → Holds k.base ws s es → IsFree k locked es → (u : ℕ) → IsElement k u → is_written u es ≡ true → LiesInSet (scene k.base) (elements_in k) Write ws (numbers_of s) u
    touched ws s es named h f u e w = set_in k Write ws (numbers_of s) u named (h Write u (record { is_so = w; seen = unhidden u e (f.unlocked u w) es f }))

    pub first_seen : (u : ℕ) → IsElement k u → locked u ≡ None → (fs : List Event) → IsFree k locked fs → is_read_first u fs ≡ true → IsFirst k.ks k.g fs u
    first_seen u e free fs f r = record { is_so = r; seen = unhidden u e free fs f }
