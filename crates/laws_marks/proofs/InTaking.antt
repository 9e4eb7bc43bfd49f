-- IN regions of parts of a statement, put together.
use Rattle.std.proofs.Common.{◌≡◌, ◌⊎◌, ⊎_elim, ℕ, ◌<◌, ℤ, List, [], ◌∷◌, ◌++◌, ◌&&◌, ◌||◌, Option, None, Bool, true, false, refl, sym, ◌∙◌, subst, ap, true≢false, nat_eq, arith}
use Rattle.std.specs.Prelude.{not, if◌then◌else◌, bytes_eq}
use Rattle.std.proofs.lemmas.Bool.Decides.{nat_tests}
use Rattle.std.proofs.lemmas.Bool.{and_parts, or_from}
use Rattle.f77_ast.specs.Store.{Content, Store}
use Rattle.f77_ast.specs.Steps.{Break, Shown as Text}
use Rattle.f77_ast.specs.Statements.{spot}
use Rattle.f77_ast.specs.Runs.{Event, Arrived, Wrote, Printed, Took, Answer, Gave, Broke}
use Rattle.f77_ast.specs.Writes.{Locks}
use Rattle.f77_ast.specs.Plans.{Flow, Normal, Jump, Returned, Stopped}
use Rattle.f77_meaning.specs.Accesses.{is_read, is_written, is_read_first, is_entered}
use Rattle.affine_forms.specs.Claims.{numbers_of}
use Rattle.preconditions.specs.transformer_algebra.Laws.{In, here, there}
use Rattle.in_out_regions.specs.region_sets.declared.region.Access.{Access}
use Rattle.in_out_regions.specs.region_sets.declared.region.Access.TheVariants.{Read, Write, In as AtIn, Out}
use Rattle.in_out_regions.specs.region_sets.declared.region.Region.{Region}
use Rattle.in_out_regions.specs.region_sets.Regions.{any_weak}
use Rattle.in_out_regions.specs.region_sets.Sets.{unite_all}
use Rattle.in_out_regions.specs.region_sets.Claims.{LiesIn, IsSharp}
use Rattle.in_out_regions.proofs.RegionSets.SetLaws.{gathered_units, gathered_sharp}
use Rattle.in_out_regions.proofs.RegionSets.StepLaws.{in_map, of_map}
use Rattle.in_out_regions.specs.Kinds.{as_in, all_in, is_read as is_read_kind, first_reads}
use Rattle.laws_analyses.specs.Regions.Settings.{scene, elements_at}
use Rattle.laws_analyses.specs.Regions.Shown.{accessed, Holds, Sharp, Finally, Shown}
use Rattle.laws_analyses.proofs.Regions.Traces.{entered_both, hidden_parts}
use Rattle.laws_analyses.proofs.Regions.Holding.{set_left, set_right, sharp_append}
use Rattle.laws_analyses.proofs.Regions.Showing.{finally_more}
use Rattle.laws_marks.specs.InFrames.{Frame, elements_in}
use Rattle.laws_marks.specs.InShown.{first_read, FirstHolds, FirstSharp, IsFree, FirstShown}
use Rattle.laws_marks.specs.InUnits.{AreOf}
use Rattle.laws_marks.proofs.InFramed.{by_order, sharp_in, set_in}
use Rattle.laws_marks.proofs.InFirsts.{written_split, unwritten_both, first_left, first_right, first_is_read, read_is_first, lost_none, lost_split, first_cases}
use Rattle.fx_lists.proofs.Numbers.{same_is as nat_same}

-- nothing is written, and no module is entered
pub record NoWrites (es : List Event) : Type 0 where
  pub unwritten : (u : ℕ) → is_written u es ≡ false
  pub unentered : (m : List ℕ) → is_entered m es ≡ false

-- what is read is read first
abbrev pub ReadsFirst : List Event → Type 0
ReadsFirst es = (u : ℕ) → is_read u es ≡ true → is_read_first u es ≡ true

pub no_writes_none : NoWrites []
no_writes_none = record { unwritten = λ u. refl; unentered = λ m. refl }

pub no_writes_printed : (xs : List Text) → NoWrites (Printed xs ∷ [])
no_writes_printed xs = record { unwritten = λ u. refl; unentered = λ m. refl }

pub no_writes_took : (o : Option Content) → NoWrites (Took o ∷ [])
no_writes_took o = record { unwritten = λ u. refl; unentered = λ m. refl }

pub no_writes_both : (es fs : List Event) → NoWrites es → NoWrites fs → NoWrites (es ++ fs)
no_writes_both es fs h g = record {
  unwritten = λ u. unwritten_both u es fs (h.unwritten u) (g.unwritten u);
  unentered = λ m. entered_both m es fs ∙ or_from (is_entered m es) (is_entered m fs) (h.unentered m) (g.unentered m);
}

module _ (k : Frame) (locked : Locks) where
  pub free_none : (es : List Event) → NoWrites es → IsFree k locked es
  free_none es n = record { unlocked = λ u h. absurd (true≢false (sym h ∙ n.unwritten u)); lost = λ u h. absurd (true≢false (sym h ∙ lost_none k.ks k.g u es n.unentered)) }

  pub free_both : (es fs : List Event) → IsFree k locked es → IsFree k locked fs → IsFree k locked (es ++ fs)
  free_both es fs h g = record {
    unlocked = λ u e. ⊎_elim (λ i. h.unlocked u i) (λ i. g.unlocked u i) (written_split u es fs e);
    lost = λ u e. ⊎_elim (λ i. h.lost u i) (λ i. g.lost u i) (lost_split k.ks k.g u es fs e);
  }

  pub free_write : (v : ℕ) (c : Content) → locked v ≡ None → IsFree k locked (Wrote v c ∷ [])
  free_write v c free = record { unlocked = λ u e. go u (nat_eq v u) refl e; lost = λ u h. absurd (true≢false (sym h ∙ lost_none k.ks k.g u (Wrote v c ∷ []) (λ m. refl))) }
    where
      go : (u : ℕ) (b : Bool) → nat_eq v u ≡ b → (b || false) ≡ true → locked u ≡ None
      go u true q h = subst (λ z. locked z ≡ None) (nat_same v u q) free
      go u false q h = absurd (true≢false (sym h))

-- reads, and then writes
pub reads_then : (es fs : List Event) → NoWrites es → ((u : ℕ) → is_read u fs ≡ false) → ((u : ℕ) → is_read u (es ++ fs) ≡ true → (is_read u es ≡ true) ⊎ (is_read u fs ≡ true)) → ReadsFirst (es ++ fs)
reads_then es fs h g split u e = first_left u es fs (read_is_first u es (h.unwritten u) (⊎_elim (λ i. i) (λ i. absurd (true≢false (sym i ∙ g u))) (split u e)))

-- ---- regions as those of IN

in_first : (r : Region) (rs : List Region) → In r rs → r.kind ≡ Read → In (as_in r) (first_reads rs)
in_first r [] i e = elim i [ ]
in_first r (q ∷ rs) here e = subst (λ b. In (as_in q) (if b then as_in q ∷ first_reads rs else first_reads rs)) (sym (ap is_read_kind e)) here
in_first r (q ∷ rs) (there i) e = go (is_read_kind q.kind) (in_first r rs i e)
  where
    go : (b : Bool) → In (as_in r) (first_reads rs) → In (as_in r) (if b then as_in q ∷ first_reads rs else first_reads rs)
    go true j = there j
    go false j = j

read_kind : (a : Access) → is_read_kind a ≡ true → a ≡ Read
read_kind Read e = refl
read_kind Write e = cc
read_kind AtIn e = cc
read_kind Out e = cc

-- each of them is made of a READ region
of_first : (P : Region → Type 0) (rs : List Region) → ((r : Region) → In r rs → r.kind ≡ Read → P (as_in r)) → (q : Region) → In q (first_reads rs) → P q
of_first P [] h q i = elim i [ ]
of_first P (r ∷ rs) h q i = go (is_read_kind r.kind) refl i (λ o j. of_first P rs (λ w z. h w (there z)) o j)
  where
    one : r.kind ≡ Read → (o : Region) → In o (as_in r ∷ first_reads rs) → ((w : Region) → In w (first_reads rs) → P w) → P o
    one e o here ih = h r here e
    one e o (there j) ih = ih o j

    go : (b : Bool) → is_read_kind r.kind ≡ b → In q (if b then as_in r ∷ first_reads rs else first_reads rs) → ((w : Region) → In w (first_reads rs) → P w) → P q
    go true e j ih = one (read_kind r.kind e) q j ih
    go false e j ih = ih q j

module _ (k : Frame) where
  as_in_lies : (r : Region) (x : ℕ → ℤ) (u : ℕ) → LiesIn (scene k.base) (elements_in k r.variable) r x u → LiesIn (scene k.base) (elements_in k r.variable) (as_in r) x u
  as_in_lies r x u l = record { phi = l.phi; there = l.there; described = l.described }

  as_in_sharp : (r : Region) (x : ℕ → ℤ) (c : ℕ → Bool) → IsSharp (scene k.base) (elements_in k r.variable) r x c → IsSharp (scene k.base) (elements_in k r.variable) (as_in r) x c
  as_in_sharp r x c h e p st g = h (and_parts r.exact (not (any_weak r.pieces)) e).0 p st g

  -- ---- of one kind of events

  pub first_holds_none : (rs : List Region) (s : Store) → FirstHolds k rs s []
  first_holds_none rs s u h = absurd (true≢false (sym h.is_so))

  pub first_holds_then : (rs : List Region) (s : Store) (es fs : List Event) → FirstHolds k rs s es → FirstHolds k rs s fs → FirstHolds k rs s (es ++ fs)
  first_holds_then rs s es fs h g u e = ⊎_elim (λ i. h u i) (λ i. g u i.1) (first_cases k.ks k.g u es fs e)

  pub first_holds_left : (rs qs : List Region) (s : Store) (es : List Event) → FirstHolds k rs s es → FirstHolds k (rs ++ qs) s es
  first_holds_left rs qs s es h u e = set_left (scene k.base) (elements_in k) AtIn (numbers_of s) u rs qs (h u e)

  pub first_holds_right : (rs qs : List Region) (s : Store) (es : List Event) → FirstHolds k qs s es → FirstHolds k (rs ++ qs) s es
  first_holds_right rs qs s es h u e = set_right (scene k.base) (elements_in k) AtIn (numbers_of s) u rs qs (h u e)

  pub first_holds_both : (rs qs : List Region) (s : Store) (es fs : List Event) → FirstHolds k rs s es → FirstHolds k qs s fs → FirstHolds k (rs ++ qs) s (es ++ fs)
  first_holds_both rs qs s es fs h g = first_holds_then (rs ++ qs) s es fs (first_holds_left rs qs s es h) (first_holds_right rs qs s fs g)

  pub first_holds_gathered : (rs : List Region) (s : Store) (es : List Event) → FirstHolds k rs s es → FirstHolds k (unite_all rs) s es
  first_holds_gathered rs s es h u e = gathered_units rs (scene k.base) (elements_in k) (by_order k) AtIn (numbers_of s) u (h u e)

  pub first_holds_wider : (rs qs : List Region) (s : Store) (es : List Event) → ((r : Region) → In r rs → In r qs) → FirstHolds k rs s es → FirstHolds k qs s es
  first_holds_wider rs qs s es f h u e = (let l = h u e in record { region = l.region; is_one = f l.region l.is_one; kind = l.kind; lies = l.lies })

  pub first_sharp_none : (s : Store) (es : List Event) → FirstSharp k [] s es
  first_sharp_none s es r i = elim i [ ]

  pub first_sharp_more : (rs : List Region) (s : Store) (es fs : List Event) → ((u : ℕ) → is_read_first u es ≡ true → is_read_first u fs ≡ true) → FirstSharp k rs s es → FirstSharp k rs s fs
  first_sharp_more rs s es fs f h r i e p st g = (let a = h r i e p st g in record { unit = a.unit; there = a.there; is_so = f a.unit a.is_so })

  pub first_sharp_first : (rs : List Region) (s : Store) (es fs : List Event) → FirstSharp k rs s es → FirstSharp k rs s (es ++ fs)
  first_sharp_first rs s es fs h = first_sharp_more rs s es (es ++ fs) (λ u e. first_left u es fs e) h

  pub first_sharp_last : (rs : List Region) (s : Store) (es fs : List Event) → NoWrites es → FirstSharp k rs s fs → FirstSharp k rs s (es ++ fs)
  first_sharp_last rs s es fs n h = first_sharp_more rs s fs (es ++ fs) (λ u e. first_right u es fs (n.unwritten u) e) h

  pub first_sharp_append : (rs qs : List Region) (s : Store) (es : List Event) → FirstSharp k rs s es → FirstSharp k qs s es → FirstSharp k (rs ++ qs) s es
  first_sharp_append rs qs s es h g = sharp_append (scene k.base) (elements_in k) (numbers_of s) rs qs (λ a. first_read es) h g

  pub first_sharp_gathered : (rs : List Region) (s : Store) (es : List Event) → FirstSharp k rs s es → FirstSharp k (unite_all rs) s es
  first_sharp_gathered rs s es h = gathered_sharp rs (scene k.base) (elements_in k) (by_order k) (numbers_of s) (λ a. first_read es) h

  -- ---- of what is shown

  pub first_more : (own : Bool) (locked : Locks) (rs qs : List Region) (s : Store) (a : Answer Flow) (es fs : List Event) → (FirstHolds k rs s es → FirstHolds k qs s fs) → (FirstSharp k rs s es → FirstSharp k qs s fs) → (IsFree k locked es → IsFree k locked fs) → FirstShown k own locked rs s a es → FirstShown k own locked qs s a fs
  first_more own locked rs qs s a es fs f g j h = record { holds = f h.holds; sharp = finally_more own a (FirstSharp k rs s es) (FirstSharp k qs s fs) g h.sharp; free = j h.free }

  pub first_gathered : (own : Bool) (locked : Locks) (rs : List Region) (s : Store) (a : Answer Flow) (es : List Event) → FirstShown k own locked rs s a es → FirstShown k own locked (unite_all rs) s a es
  first_gathered own locked rs s a es h = first_more own locked rs (unite_all rs) s a es es (first_holds_gathered rs s es) (first_sharp_gathered rs s es) (λ f. f) h

  pub first_broke : (own : Bool) (locked : Locks) (rs : List Region) (s : Store) (b : Break) (es : List Event) → FirstHolds k rs s es → IsFree k locked es → FirstShown k own locked rs s (Broke b) es
  first_broke own locked rs s b es h f = record { holds = h; sharp = tt; free = f }

  pub first_normal : (own : Bool) (locked : Locks) (rs : List Region) (s : Store) (es : List Event) → FirstHolds k rs s es → FirstSharp k rs s es → IsFree k locked es → FirstShown k own locked rs s (Gave Normal) es
  first_normal own locked rs s es h g f = record { holds = h; sharp = g; free = f }

  -- whatever the end is
  pub first_all : (own : Bool) (locked : Locks) (rs : List Region) (s : Store) (a : Answer Flow) (es : List Event) → FirstHolds k rs s es → FirstSharp k rs s es → IsFree k locked es → FirstShown k own locked rs s a es
  first_all own locked rs s a es h g f = record { holds = h; sharp = go a; free = f }
    where
      go : (a : Answer Flow) → Finally own a (FirstSharp k rs s es)
      go (Gave Normal) = g
      go (Gave (Jump l)) = tt
      go (Gave Returned) = λ e. g
      go (Gave Stopped) = tt
      go (Broke b) = tt

  pub first_idle : (own : Bool) (locked : Locks) (s : Store) (a : Answer Flow) → FirstShown k own locked [] s a []
  first_idle own locked s a = first_all own locked [] s a [] (first_holds_none [] s) (first_sharp_none s []) (free_none k locked [] no_writes_none)

  -- ---- from READ

  -- reads before writes
  pub first_of_reads : (own : Bool) (locked : Locks) (rs : List Region) (s : Store) (a : Answer Flow) (es : List Event) → AreOf k.may_name rs → Shown k.base own rs s a es → ReadsFirst es → IsFree k locked es → FirstShown k own locked (first_reads rs) s a es
  first_of_reads own locked rs s a es named h f g = record {
    holds = λ u e. (let l = set_in k Read rs (numbers_of s) u named (h.holds Read u (record { is_so = first_is_read u es e.is_so; seen = e.seen })) in record { region = as_in l.region; is_one = in_first l.region rs l.is_one l.kind; kind = refl; lies = as_in_lies l.region (numbers_of s) u l.lies });
    sharp = finally_more own a (Sharp k.base rs s es) (FirstSharp k (first_reads rs) s es) sharp h.sharp;
    free = g;
  }
    where
      sharp : Sharp k.base rs s es → FirstSharp k (first_reads rs) s es
      sharp w = of_first (λ (q : Region). IsSharp (scene k.base) (elements_in k q.variable) q (numbers_of s) (first_read es)) rs one
        where
          one : (r : Region) → In r rs → r.kind ≡ Read → IsSharp (scene k.base) (elements_in k r.variable) (as_in r) (numbers_of s) (first_read es)
          one r i e = as_in_sharp r (numbers_of s) (first_read es) (λ x p st c. (let z = sharp_in k r (numbers_of s) (accessed Read es) (named r i) (subst (λ (y : Access). IsSharp (scene k.base) (elements_at k.base r.variable) r (numbers_of s) (accessed y es)) e (w r i)) x p st c in record { unit = z.unit; there = z.there; is_so = f z.unit z.is_so }))

  -- nothing is written
  pub seen_first : (rs : List Region) (s : Store) (es : List Event) → AreOf k.may_name rs → Holds k.base rs s es → FirstHolds k (all_in rs) s es
  seen_first rs s es named h u e = (let l = set_in k Read rs (numbers_of s) u named (h Read u (record { is_so = first_is_read u es e.is_so; seen = e.seen })) in record { region = as_in l.region; is_one = in_map as_in l.region rs l.is_one; kind = refl; lies = as_in_lies l.region (numbers_of s) u l.lies })

  pub seen_sharp : (rs : List Region) (s : Store) (es : List Event) → AreOf k.may_name rs → NoWrites es → Sharp k.base rs s es → FirstSharp k (all_in rs) s es
  seen_sharp rs s es named n w = of_map as_in (λ (q : Region). IsSharp (scene k.base) (elements_in k q.variable) q (numbers_of s) (first_read es)) rs (λ r i. as_in_sharp r (numbers_of s) (first_read es) (λ x p st c. (let z = sharp_in k r (numbers_of s) (accessed r.kind es) (named r i) (w r i) x p st c in record { unit = z.unit; there = z.there; is_so = only r.kind z.unit z.is_so })))
    where
      only : (a : Access) (u : ℕ) → accessed a es u ≡ true → is_read_first u es ≡ true
      only Read u e = read_is_first u es (n.unwritten u) e
      only Write u e = absurd (true≢false (sym e ∙ n.unwritten u))
      only AtIn u e = absurd (true≢false (sym e))
      only Out u e = absurd (true≢false (sym e))

-- the arrival at a statement
arrived_quiet : (x : List ℕ) (n : ℕ) → 0 < n → NoWrites (Arrived (spot x n) ∷ [])
arrived_quiet x n l = record { unwritten = λ u. refl; unentered = λ m. go (bytes_eq x m) (nat_eq n 0) refl }
  where
    go : (a b : Bool) → nat_eq n 0 ≡ b → ((a && b) || false) ≡ false
    go true true q = absurd (grind (arith, nat_tests))
    go true false q = refl
    go false b q = refl

pub first_arrived : (k : Frame) (own : Bool) (locked : Locks) (rs : List Region) (s : Store) (a : Answer Flow) (x : List ℕ) (n : ℕ) (es : List Event) → 0 < n → FirstShown k own locked rs s a es → FirstShown k own locked rs s a (Arrived (spot x n) ∷ es)
first_arrived k own locked rs s a x n es l h = record {
  holds = λ u i. h.holds u (record { is_so = i.is_so; seen = (hidden_parts k.ks k.g (Arrived (spot x n) ∷ []) es u i.seen).1 });
  sharp = finally_more own a (FirstSharp k rs s es) (FirstSharp k rs s (Arrived (spot x n) ∷ es)) (λ w. w) h.sharp;
  free = free_both k locked (Arrived (spot x n) ∷ []) es (free_none k locked (Arrived (spot x n) ∷ []) (arrived_quiet x n l)) h.free;
}
