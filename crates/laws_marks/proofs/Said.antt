-- What is said of a DO that runs in parallel, by its mark or with reduction variables.
use Rattle.std.proofs.Common.{◌≡◌, ◌⊎◌, inl, inr, ℕ, ◌||◌, Bool, true, false, List, [], ◌∷◌, ◌++◌, Option, Some, None, refl, sym, ap, ◌∙◌, subst, true≢false}
use Rattle.std.specs.declared.cmp.Ordering.TheVariants.{Less}
use Rattle.std.proofs.lemmas.Bool.{or_parts, not-false}
use Rattle.f77_ast.specs.Trees.{LoopTree}
use Rattle.f77_ast.specs.Trees as tree
use Rattle.f77_ast.specs.Symbols.{number_from}
use Rattle.f77_ast.specs.declared.variable.Variable.{Variable as Named}
use Rattle.f77_ast.specs.declared.variable.Variable.TheVariants.{Own, Block, Saved}
use Rattle.f77_ast.specs.Variables.{variable_cmp, union}
use Rattle.preconditions.specs.transformer_algebra.Laws.{In, here, there}
use Rattle.f77_ast.specs.declared.marks.Mark.{Mark}
use Rattle.f77_ast.specs.declared.marks.Mark.TheVariants.{Parallel, Serial}
use Rattle.f77_ast.specs.declared.marks.Private.TheVariants.{Yes}
use Rattle.f77_ast.specs.declared.marks.Reason.{Reason}
use Rattle.loop_marker.specs.dependence_test.declared.body.LoopBody.{LoopBody}
use Rattle.loop_marker.specs.privatizer.Functions.{own_functions}
use Rattle.loop_marker.specs.privatizer.Names.{may_copy}
use Rattle.loop_marker.specs.privatizer.Private.{is_carried, is_live, private_in}
use Rattle.loop_marker.specs.privatizer.Uses.{Uses}
use Rattle.loop_marker.specs.out_regions.Leaving.{leaves}
use Rattle.loop_marker.specs.declared.verdict.Verdict.{Verdict}
use Rattle.loop_marker.specs.declared.verdict.Verdict.TheVariants.{Free, Copied, Bad}
use Rattle.loop_marker.specs.Jumps.{is_jumped_to, may_stop, may_jump, may_have_io, body_of}
use Rattle.loop_marker.specs.Marks.{Knowledge, is_in_bounds, index_is_bad, with_own, verdict_of, by_verdict, marked, by_variables, has_step, by_index, by_step, by_io, mark_of}
use Rattle.loop_marker.specs.Variables.{inner_in, written_in, is_of_some}
use Rattle.laws_marks.proofs.Dead.{copy_of as yes_copy}
use Rattle.preconditions.proofs.TransformerAlgebra.Members.{in_left, in_right}
use Rattle.std.specs.Prelude.{if◌then◌else◌, not}
use Rattle.call_graph.specs.declared.graph.Graph.{Graph}
use Rattle.f77_ast.specs.declared.marks.Reason.TheVariants.{Jump, InputOutput, Step, Index}
use Rattle.preconditions.specs.transformers.Lists.{transformer_at}
use Rattle.in_out_regions.specs.region_sets.Lists.{accesses_at}
use Rattle.loop_marker.specs.Results.{ModuleResults}
use Rattle.result_lines.specs.declared.reduction.Part.{Part}
use Rattle.result_lines.specs.declared.reduction.Reduction.{Reduction}
use Rattle.reductions.specs.Reduced.{part_of, reduction_with, by_part, by_verdict as reduction_step, reduction_from, is_carried_by}
use Rattle.laws_marks.specs.Said.{knowledge, without_parts}
use Rattle.laws_marks.specs.Known.{ReductionsSay}
use Rattle.laws_marks.specs.Verdicts.{IsOneOf, IsCleared, IsPartOf, AreOnce, Says}
use Rattle.laws_marks.proofs.InSets.{list_ordered}
use Rattle.laws_marks.proofs.InUnique.{itself, Ordered}
use Rattle.laws_marks.proofs.Outs.{in_both}
use Rattle.laws_marks.proofs.ReducedParts.{part_is, part_no_function}
use Rattle.laws_marks.proofs.VariableOrder.{IsBefore, Ascends, all_ascend}
use Rattle.fx_lists.proofs.Orders.{no_equal_less}
use Rattle.laws_marks.proofs.Verdicts.{in_union, in_first, inner_symbols, function_inner, in_written, own_number, copied_private, copied_other, free_index, free_so, index_free}

-- ---- what is chosen for each variable

kept_own : (so_far : List ℕ) (v : Named) (m : ℕ) → In m so_far → In m (with_own so_far v)
kept_own so_far (Own n) m i = in_left m so_far (n ∷ []) i
kept_own so_far (Block x) m i = i
kept_own so_far (Saved x y) m i = i

new_own : (so_far : List ℕ) (n : ℕ) → In n (with_own so_far (Own n))
new_own so_far n = in_right n so_far (n ∷ []) here

-- a symbol is one of these
abbrev OwnIn : List ℕ → Named → Type 0
OwnIn ms (Own n) = In n ms
OwnIn ms (Block b) = Unit {0}
OwnIn ms (Saved s x) = Unit {0}

abbrev IsBad : Verdict → Type 0
IsBad Free = ⊥
IsBad Copied = ⊥
IsBad (Bad ks p) = Unit {0}

bad_free : (v : Verdict) → IsBad v → v ≡ Free → ⊥
bad_free v h e = subst IsBad e h

bad_copied : (v : Verdict) → IsBad v → v ≡ Copied → ⊥
bad_copied v h e = subst IsBad e h

-- with what is chosen so far, and variables to go, these symbols have copies in the end, and these are the reduction variables; `part` gives that of a variable
module _ (part : Named → Option Part) (f : Named → Verdict) (r : Reduction) where
  abbrev Chosen : List ℕ → List Part → List Named → Type 0
  Chosen ns ps [] = (ns ≡ r.private) × (ps ≡ r.parts)
  Chosen ns ps (v ∷ vs) = ((f v ≡ Free) × Chosen ns ps vs) ⊎ (((f v ≡ Copied) × Chosen (with_own ns v) ps vs) ⊎ ((q : Part) × IsBad (f v) × (part v ≡ Some q) × Chosen ns (ps ++ q ∷ []) vs))

  -- what is chosen stays
  own_stays : (vs : List Named) (ns : List ℕ) (ps : List Part) → Chosen ns ps vs → (m : ℕ) → In m ns → In m r.private
  own_stays [] ns ps c m i = subst (In m) c.0 i
  own_stays (v ∷ vs) ns ps (inl c) m i = own_stays vs ns ps c.1 m i
  own_stays (v ∷ vs) ns ps (inr (inl c)) m i = own_stays vs (with_own ns v) ps c.1 m (kept_own ns v m i)
  own_stays (v ∷ vs) ns ps (inr (inr c)) m i = own_stays vs ns (ps ++ c.0 ∷ []) c.3 m i

  part_stays : (vs : List Named) (ns : List ℕ) (ps : List Part) → Chosen ns ps vs → (p : Part) → In p ps → In p r.parts
  part_stays [] ns ps c p i = subst (In p) c.1 i
  part_stays (v ∷ vs) ns ps (inl c) p i = part_stays vs ns ps c.1 p i
  part_stays (v ∷ vs) ns ps (inr (inl c)) p i = part_stays vs (with_own ns v) ps c.1 p i
  part_stays (v ∷ vs) ns ps (inr (inr c)) p i = part_stays vs ns (ps ++ c.0 ∷ []) c.3 p (in_left p ps (c.0 ∷ []) i)

  abbrev Said : Named → Type 0
  Said v = (f v ≡ Free) ⊎ (((f v ≡ Copied) × OwnIn r.private v) ⊎ ((q : Part) × (part v ≡ Some q) × In q r.parts))

  copied_said : (v : Named) (vs : List Named) (ns : List ℕ) (ps : List Part) → Chosen (with_own ns v) ps vs → OwnIn r.private v
  copied_said (Own n) vs ns ps c = own_stays vs (with_own ns (Own n)) ps c n (new_own ns n)
  copied_said (Block b) vs ns ps c = tt
  copied_said (Saved s x) vs ns ps c = tt

  first_said : (v : Named) (vs : List Named) (ns : List ℕ) (ps : List Part) → Chosen ns ps (v ∷ vs) → Said v
  first_said v vs ns ps (inl c) = inl c.0
  first_said v vs ns ps (inr (inl c)) = inr (inl (c.0, copied_said v vs ns ps c.1))
  first_said v vs ns ps (inr (inr c)) = inr (inr (c.0, c.2, part_stays vs ns (ps ++ c.0 ∷ []) c.3 c.0 (in_right c.0 ps (c.0 ∷ []) here)))

  said : (vs : List Named) (ns : List ℕ) (ps : List Part) → Chosen ns ps vs → (v : Named) → In v vs → Said v
  said [] ns ps c v i = elim i [ ]
  said (w ∷ vs) ns ps c v here = first_said w vs ns ps c
  said (w ∷ vs) ns ps (inl c) v (there i) = said vs ns ps c.1 v i
  said (w ∷ vs) ns ps (inr (inl c)) v (there i) = said vs (with_own ns w) ps c.1 v i
  said (w ∷ vs) ns ps (inr (inr c)) v (there i) = said vs ns (ps ++ c.0 ∷ []) c.3 v i

  -- of each symbol that is copied, and of each reduction variable
  module _ (P : ℕ → Type 0) (copied : (n : ℕ) → f (Own n) ≡ Copied → P n) where
    more_own : (v : Named) → f v ≡ Copied → (ns : List ℕ) → ((n : ℕ) → In n ns → P n) → (n : ℕ) → In n (with_own ns v) → P n
    more_own (Own m) e ns h n i = in_both P ns (m ∷ []) h one n i
      where
        one : (n : ℕ) → In n (m ∷ []) → P n
        one n here = copied n e
        one n (there j) = elim j [ ]
    more_own (Block x) e ns h n i = h n i
    more_own (Saved x y) e ns h n i = h n i

    own_copied : (vs : List Named) (ns : List ℕ) (ps : List Part) → ((n : ℕ) → In n ns → P n) → Chosen ns ps vs → (n : ℕ) → In n r.private → P n
    own_copied [] ns ps h c n i = h n (subst (In n) (sym c.0) i)
    own_copied (v ∷ vs) ns ps h (inl c) n i = own_copied vs ns ps h c.1 n i
    own_copied (v ∷ vs) ns ps h (inr (inl c)) n i = own_copied vs (with_own ns v) ps (more_own v c.0 ns h) c.1 n i
    own_copied (v ∷ vs) ns ps h (inr (inr c)) n i = own_copied vs ns (ps ++ c.0 ∷ []) h c.3 n i

  module _ (P : Part → Type 0) (bad : (v : Named) (q : Part) → IsBad (f v) → part v ≡ Some q → P q) where
    more_parts : (q : Part) → P q → (ps : List Part) → ((p : Part) → In p ps → P p) → (p : Part) → In p (ps ++ q ∷ []) → P p
    more_parts q z ps h p i = in_both P ps (q ∷ []) h one p i
      where
        one : (p : Part) → In p (q ∷ []) → P p
        one p here = z
        one p (there j) = elim j [ ]

    parts_bad : (vs : List Named) (ns : List ℕ) (ps : List Part) → ((p : Part) → In p ps → P p) → Chosen ns ps vs → (p : Part) → In p r.parts → P p
    parts_bad [] ns ps h c p i = h p (subst (In p) (sym c.1) i)
    parts_bad (v ∷ vs) ns ps h (inl c) p i = parts_bad vs ns ps h c.1 p i
    parts_bad (v ∷ vs) ns ps h (inr (inl c)) p i = parts_bad vs (with_own ns v) ps h c.1 p i
    parts_bad (v ∷ vs) ns ps h (inr (inr c)) p i = parts_bad vs ns (ps ++ c.0 ∷ []) (more_parts c.0 (bad v c.0 c.1 c.2) ps h) c.3 p i

  -- reduction variables come in their order
  module _ (is_own : (v : Named) (q : Part) → part v ≡ Some q → v ≡ Own q.cell) where
    abbrev Precedes : List Part → List Named → Type 0
    Precedes ps vs = (p : Part) → In p ps → IsBefore (Own p.cell) vs

    once_more : (ps : List Part) (q : Part) → AreOnce ps → ((p : Part) → In p ps → variable_cmp (Own p.cell) (Own q.cell) ≡ Less) → AreOnce (ps ++ q ∷ [])
    once_more [] q o h = ((λ p i. elim i [ ]), tt)
    once_more (p ∷ ps) q o h = (in_both (λ (z : Part). z.cell ≡ p.cell → ⊥) ps (q ∷ []) o.0 last, once_more ps q o.1 (λ z i. h z (there i)))
      where
        last : (z : Part) → In z (q ∷ []) → z.cell ≡ p.cell → ⊥
        last z here e = no_equal_less (sym (ap (λ (c : ℕ). variable_cmp (Own p.cell) (Own c)) e ∙ itself (Own p.cell)) ∙ h p here)
        last z (there j) e = elim j [ ]

    parts_once : (vs : List Named) (ns : List ℕ) (ps : List Part) → Ascends vs → AreOnce ps → Precedes ps vs → Chosen ns ps vs → AreOnce r.parts
    parts_once [] ns ps a o h c = subst AreOnce c.1 o
    parts_once (v ∷ vs) ns ps a o h (inl c) = parts_once vs ns ps a.1 o (λ p i w j. h p i w (there j)) c.1
    parts_once (v ∷ vs) ns ps a o h (inr (inl c)) = parts_once vs (with_own ns v) ps a.1 o (λ p i w j. h p i w (there j)) c.1
    parts_once (v ∷ vs) ns ps a o h (inr (inr c)) =
        let e = is_own v c.0 c.2 in
        parts_once vs ns (ps ++ c.0 ∷ []) a.1 (once_more ps c.0 o (λ p i. subst (λ w. variable_cmp (Own p.cell) w ≡ Less) e (h p i v here)))
        (in_both (λ (p : Part). IsBefore (Own p.cell) vs) ps (c.0 ∷ []) (λ p i w j. h p i w (there j)) (last c.0 e)) c.3
      where
        last : (q : Part) → v ≡ Own q.cell → (p : Part) → In p (q ∷ []) → IsBefore (Own p.cell) vs
        last q e p here = subst (λ w. IsBefore w vs) e a.0
        last q e p (there j) = elim j [ ]

-- ---- marks, and reductions

abbrev no_part : Named → Option Part
no_part v = None

parallel_same : (ns ms : List ℕ) → Parallel ns ≡ Parallel ms → ns ≡ ms
parallel_same ns ms e = cc

serial_no : (r : Reason) (ns : List ℕ) → Serial r ≡ Parallel ns → ⊥
serial_no r ns e = cc

marks_choose : (f : Named → Verdict) (ms : List ℕ) (vs : List Named) (ns : List ℕ) → marked f ns vs ≡ Parallel ms → Chosen no_part f (without_parts ms) ns [] vs
marks_choose f ms [] ns e = (parallel_same ns ms e, refl)
marks_choose f ms (v ∷ vs) ns e = go (f v) refl e (marks_choose f ms vs ns) (marks_choose f ms vs (with_own ns v))
  where
    go : (w : Verdict) → f v ≡ w → by_verdict v (marked f ns vs) (marked f (with_own ns v) vs) w ≡ Parallel ms → (marked f ns vs ≡ Parallel ms → Chosen no_part f (without_parts ms) ns [] vs) →
        (marked f (with_own ns v) vs ≡ Parallel ms → Chosen no_part f (without_parts ms) (with_own ns v) [] vs) → Chosen no_part f (without_parts ms) ns [] (v ∷ vs)
    go Free w q next copied = inl (w, next q)
    go Copied w q next copied = inr (inl (w, copied q))
    go (Bad ks p) w q next copied = absurd (serial_no _ ms q)

none_no : (r : Reduction) → None ≡ Some r → ⊥
none_no r e = cc

with_same : (ns : List ℕ) (ps : List Part) (r : Reduction) → reduction_with ns ps ≡ Some r → (ns ≡ r.private) × (ps ≡ r.parts)
with_same ns [] r e = absurd (none_no r e)
with_same ns (p ∷ ps) r e = (let same : record { private = ns; parts = p ∷ ps } ≡ r = cc in (ap (λ (z : Reduction). z.private) same, ap (λ (z : Reduction). z.parts) same))

module _ (k : Knowledge) (modules : List (List ℕ)) (l : LoopTree) (f : Named → Verdict) (r : Reduction) where
  abbrev part : Named → Option Part
  part v = part_of k.tree k.symbols modules l v

  abbrev ChosenFrom : List Named → List ℕ → List Part → Type 0
  ChosenFrom vs ns ps = Chosen (part_of k.tree k.symbols modules l) f r ns ps vs

  abbrev Next : List Named → Type 0
  Next vs = (ms : List ℕ) (qs : List Part) → reduction_from k modules l f ms qs vs ≡ Some r → ChosenFrom vs ms qs

  bad_chooses : (v : Named) (vs : List Named) (ns : List ℕ) (ps : List Part) → IsBad (f v) → Next vs → (o : Option Part) → part v ≡ o → by_part ps o (λ qs. reduction_from k modules l f ns qs vs) ≡ Some r → ChosenFrom (v ∷ vs) ns ps
  bad_chooses v vs ns ps w next None z h = absurd (none_no r h)
  bad_chooses v vs ns ps w next (Some c) z h = inr (inr (c, w, z, next ns (ps ++ c ∷ []) h))

  reductions_choose : (vs : List Named) → Next vs
  reductions_choose [] ns ps e = with_same ns ps r e
  reductions_choose (v ∷ vs) ns ps e = go (f v) refl e (reductions_choose vs)
    where
      go : (w : Verdict) → f v ≡ w → reduction_step ns ps v (part v) w (λ ms qs. reduction_from k modules l f ms qs vs) ≡ Some r → Next vs → ChosenFrom (v ∷ vs) ns ps
      go Free w q next = inl (w, next ns ps q)
      go Copied w q next = inr (inl (w, next (with_own ns v) ps q))
      go (Bad ks p) w q next = bad_chooses v vs ns ps (subst IsBad (sym w) tt) next (part v) refl q

-- ---- what is looked at before the variables

-- it is found behind these tests
abbrev IsLate : Mark → Type 0
IsLate (Parallel ns) = Unit {0}
IsLate (Serial s) = is_carried_by s ≡ true

unless : (c : Bool) (s : Reason) (m z : Mark) → is_carried_by s ≡ false → IsLate z → (if c then Serial s else m) ≡ z → (c ≡ false) × (m ≡ z)
unless true s m z early late e = (let h : is_carried_by s ≡ true = subst IsLate (sym e) late in absurd (true≢false (sym h ∙ early)))
unless false s m z early late e = (refl, e)

only_if : (c : Bool) (s : Reason) (m z : Mark) → is_carried_by s ≡ false → IsLate z → (if c then m else Serial s) ≡ z → m ≡ z
only_if true s m z early late e = e
only_if false s m z early late e = (let h : is_carried_by s ≡ true = subst IsLate (sym e) late in absurd (true≢false (sym h ∙ early)))

-- and so nothing but its variables stands against the DO
record Tests (k : Knowledge) (n : ℕ) (l : LoopTree) (m : Mark) : Type 0 where
  stays : leaves false (body_of l) ≡ false
  no_stop : may_stop k.effects (body_of l) ≡ false
  no_io : may_have_io k.effects (body_of l) ≡ false
  index : may_copy k.tree k.symbols (Own (k.body l).index) ≡ true
  unused : is_of_some (Own (k.body l).index) (k.uses n l).outs ≡ false
  mark : by_variables k (k.body l) (k.uses n l) l (inner_in k.names k.tree l) ≡ m

behind_tests : (k : Knowledge) (n : ℕ) (label : Option ℕ) (l : LoopTree) (m : Mark) → mark_of k n label l ≡ m → IsLate m → Tests k n l m
behind_tests k n label l m e late =
    let b = k.body l in
    let u = k.uses n l in
    let inner = inner_in k.names k.tree l in
    let a = unless (may_jump k.tree.body k.effects label l) Jump (by_io k n l) m refl late e in
    let jump = or_parts (is_jumped_to k.tree.body label) (leaves false (body_of l) || may_stop k.effects (body_of l)) a.0 in
    let leave = or_parts (leaves false (body_of l)) (may_stop k.effects (body_of l)) jump.1 in
    let c = unless (may_have_io k.effects (body_of l)) InputOutput (by_step k b u l inner) m refl late a.1 in
    let d = only_if (has_step b) Step (by_index k b u l inner) m refl late c.1 in
    let i = unless (index_is_bad k b u l) Index (by_variables k b u l inner) m refl late d in
    let o = or_parts (not (may_copy k.tree k.symbols (Own b.index))) (is_of_some (Own b.index) u.outs || is_in_bounds k.symbols l (Own b.index)) i.0 in
    record {
      stays = leave.0;
      no_stop = leave.1;
      no_io = c.0;
      index = not-false (may_copy k.tree k.symbols (Own b.index)) o.0;
      unused = (or_parts (is_of_some (Own b.index) u.outs) (is_in_bounds k.symbols l (Own b.index)) o.1).0;
      mark = i.1;
    }

-- ---- what is said of a DO

one_of : (k : Knowledge) (u : Uses) (ns : List ℕ) (v : Named) → private_in k.tree k.symbols u v ≡ Yes → OwnIn ns v → IsOneOf k.tree k.symbols ns v
one_of k u ns (Own n) s i = record { number = n; is = refl; one = i; may = yes_copy (may_copy k.tree k.symbols (Own n)) (is_carried u (Own n)) (is_live u (Own n)) s }
one_of k u ns (Block b) s i = cc
one_of k u ns (Saved t x) s i = cc

-- from what is chosen for its variables. Reduction variables are such, and no functions of which the body takes a value
module _ (k : Knowledge) (n : ℕ) (l : LoopTree) (r : Reduction) (m : Mark) (tests : Tests k n l m) (part : Named → Option Part) (is_part : (v : Named) (q : Part) → part v ≡ Some q → (v ≡ Own q.cell) × IsPartOf k l q)
    (no_function : (v : Named) (q : Part) → part v ≡ Some q → (y : List ℕ) → In y (own_functions k.tree (body_of l)) → number_from 1 k.names y ≡ Some q.cell → ⊥) (once : AreOnce r.parts)
    (chosen : Chosen part (verdict_of k (k.body l) (k.uses n l) l (inner_in k.names k.tree l)) r [] [] (union (inner_in k.names k.tree l) (written_in (k.body l).regions))) where
  abbrev b : LoopBody
  b = k.body l

  abbrev inner : List Named
  inner = inner_in k.names k.tree l

  abbrev f : Named → Verdict
  f = verdict_of k (k.body l) (k.uses n l) l (inner_in k.names k.tree l)

  abbrev vs : List Named
  vs = union (inner_in k.names k.tree l) (written_in (k.body l).regions)

  abbrev SaidOf : Named → Type 0
  SaidOf v = Said part f r v

  all_said : (v : Named) → In v vs → SaidOf v
  all_said v i = said part f r vs [] [] chosen v i

  none : (P : ℕ → Type 0) (v : ℕ) → In v [] → P v
  none P v j = elim j [ ]

  private_copied : (v : ℕ) → In v r.private → f (Own v) ≡ Copied
  private_copied v i = own_copied part f r (λ (z : ℕ). f (Own z) ≡ Copied) (λ z e. e) vs [] [] (none (λ (z : ℕ). f (Own z) ≡ Copied)) chosen v i

  -- a reduction variable, and that each iteration may not have its own copy
  abbrev BadPart : Part → Type 0
  BadPart q = IsBad (f (Own q.cell)) × IsPartOf k l q

  all_parts : (q : Part) → In q r.parts → BadPart q
  all_parts q i = parts_bad part f r BadPart (λ v z h e. (let w = is_part v z e in (subst (λ y. IsBad (f y)) w.0 h, w.1))) vs [] [] (λ z j. elim j [ ]) chosen q i

  cleared : (v : Named) → SaidOf v → IsCleared k.tree k.symbols (k.body l) r v
  cleared v (inl q) = free_so k (k.body l) (k.uses n l) l (inner_in k.names k.tree l) r v q
  cleared v (inr (inl q)) = inr (inr (inl (one_of k (k.uses n l) r.private v (copied_private k (k.body l) (k.uses n l) l (inner_in k.names k.tree l) v q.0) q.1)))
  cleared v (inr (inr q)) = inr (inr (inr (record { part = q.0; is = (is_part v q.0 q.1).0; one = q.2 })))

  taken : (y : List ℕ) → In y (own_functions k.tree (body_of l)) → (v : ℕ) → number_from 1 k.names y ≡ Some v → In v r.private ⊎ (v ≡ (k.body l).index)
  taken y j v e = (let own = function_inner k.names k.tree l y j v e in of_own own (all_said (Own v) (in_first (Own v) inner (written_in b.regions) own)))
    where
      of_own : In (Own v) inner → SaidOf (Own v) → In v r.private ⊎ (v ≡ (k.body l).index)
      of_own i (inl q) = inr (free_index k (k.body l) (k.uses n l) l (inner_in k.names k.tree l) v i q)
      of_own i (inr (inl q)) = inl q.1
      of_own i (inr (inr q)) = absurd (no_function (Own v) q.0 q.1 y j (e ∙ ap Some (own_number v q.0.cell (is_part (Own v) q.0 q.1).0)))

  says : Says k n l r
  says = record {
    stays = tests.stays;
    no_stop = tests.no_stop;
    no_io = tests.no_io;
    index = tests.index;
    unused = tests.unused;
    verdicts = λ q j w. cleared q.variable (all_said q.variable (in_union q.variable inner (written_in b.regions) (inner_symbols k.names k.tree l) (in_written b.regions q j w)));
    private = λ v i. copied_private k (k.body l) (k.uses n l) l (inner_in k.names k.tree l) (Own v) (private_copied v i);
    taken = taken;
    others = λ v i. copied_other k (k.body l) (k.uses n l) l (inner_in k.names k.tree l) (Own v) (private_copied v i);
    parts = λ q i. (all_parts q i).1;
    once = once;
    apart = λ q i j. bad_copied (f (Own q.cell)) (all_parts q i).0 (private_copied q.cell j);
    no_index = λ q i e. bad_free (f (Own q.cell)) (all_parts q i).0 (ap (λ (c : ℕ). f (Own c)) e ∙ index_free k (k.body l) (k.uses n l) l (inner_in k.names k.tree l));
  }

-- ---- of marks, and of reductions

no_such : (q : Part) → None ≡ Some q → ⊥
no_such q e = cc

pub says_parallel : (k : Knowledge) (n : ℕ) (label : Option ℕ) (l : LoopTree) (ns : List ℕ) → mark_of k n label l ≡ Parallel ns → Says k n l (without_parts ns)
says_parallel k n label l ns e =
    let t = behind_tests k n label l (Parallel ns) e tt in
    says k n l (without_parts ns) (Parallel ns) t no_part (λ v q h. absurd (no_such q h)) (λ v q h y i w. absurd (no_such q h)) tt
    (marks_choose (verdict_of k (k.body l) (k.uses n l) l (inner_in k.names k.tree l)) ns (union (inner_in k.names k.tree l) (written_in (k.body l).regions)) [] t.mark)

-- the regions of a body are in order
body_ordered : (g : Graph) (f : ModuleResults) (l : LoopTree) → Ordered ((knowledge g f).body l).regions
body_ordered g f (tree.loop index first last step body) = list_ordered (transformer_at f.transformers.at) (accesses_at f.regions.at) false body

pub reductions_say : ReductionsSay
reductions_say g f n label l s r e late found =
    let k = knowledge g f in
    let t = behind_tests k n label l (Serial s) e late in
    let v = verdict_of k (k.body l) (k.uses n l) l (inner_in k.names k.tree l) in
    let vs = union (inner_in k.names k.tree l) (written_in (k.body l).regions) in
    let part = part_of k.tree k.symbols g.order l in
    let c = reductions_choose k g.order l v r vs [] [] found in
    says k n l r (Serial s) t part (λ w q h. part_is k g.order l w q h) (λ w q h. part_no_function k l q (part_is k g.order l w q h).1 refl)
    (parts_once part v r (λ w q h. (part_is k g.order l w q h).0) vs [] [] (all_ascend k.names k.tree l (k.body l).regions (body_ordered g f l)) tt (λ p i. elim i [ ]) c) c
