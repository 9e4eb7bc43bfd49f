-- Assignments, PRINTs and READs.
use Rattle.std.proofs.Common.{◌≡◌, ⊎_elim, ℕ, ◌<◌, List, [], ◌∷◌, ◌++◌, ◌&&◌, Option, Some, None, Bool, true, false, refl, sym, subst, nat_eq, true≢false}
use Rattle.std.specs.Prelude.{if◌then◌else◌, not}
use Rattle.std.proofs.lemmas.Bool.{and_parts, or_left}
use Rattle.f77_ast.specs.Trees.{ExprTree, ExprTrees}
use Rattle.f77_ast.specs.Trees as tree
use Rattle.f77_ast.specs.Store.{Content, content, Store, put, same_tag}
use Rattle.f77_ast.specs.Faults.{Fault, Input}
use Rattle.f77_ast.specs.Steps.{Break, Faulty, Take, ◌>>=◌}
use Rattle.f77_ast.specs.Runs.{Event, Wrote, Printed, Took, Answer, Gave, Broke}
use Rattle.f77_ast.specs.Places.{Variable}
use Rattle.f77_ast.specs.Values.{fault, value, Target, target, all_shown}
use Rattle.f77_ast.specs.Writes.{Locks, written, write, assigned, is_value, taken, items_read}
use Rattle.f77_ast.specs.Plans.{Flow, Normal, Plan, Ends, Show as ShowPlan, first}
use Rattle.f77_ast.specs.Executions.{Claim}
use Rattle.f77_ast.specs.Symbols.{SymbolTree}
use Rattle.f77_meaning.specs.Accesses.{is_written, is_read_first}
use Rattle.affine_forms.specs.Claims.{numbers_of}
use Rattle.preconditions.specs.transformer_algebra.Claims.{Does}
use Rattle.in_out_regions.specs.region_sets.declared.region.Access.TheVariants.{Read, Write, In as AtIn}
use Rattle.in_out_regions.specs.region_sets.declared.region.Region.{Region}
use Rattle.in_out_regions.proofs.RegionSets.SetLaws.{gathered_sharp}
use Rattle.in_out_regions.specs.array_regions.References.{named}
use Rattle.in_out_regions.specs.array_regions.Reads.{reads, all_reads, inner_reads}
use Rattle.in_out_regions.specs.array_regions.Simple.{assignment, printing, item_does}
use Rattle.in_out_regions.specs.Kinds.{all_in, first_reads}
use Rattle.in_out_regions.specs.Simple.{item_in, item_written, with_item, reading}
use Rattle.in_out_regions.specs.ListClaims.{AreWritten, IsWithinWrites}
use Rattle.laws_analyses.specs.Statements.Evaluations.{IsUnit}
use Rattle.laws_analyses.specs.Statements.Targets.{is_target, are_targets}
use Rattle.laws_analyses.specs.Statements.Activation.{Fit}
use Rattle.laws_analyses.specs.Regions.Settings.{scene, elements_at, Sound, is_plain, are_plain}
use Rattle.laws_marks.specs.InFrames.{Frame, elements_in}
use Rattle.laws_analyses.specs.Regions.Shown.{Shown}
use Rattle.laws_analyses.proofs.Regions.Traces.{trace_assoc, trace_nil, accessed_cases}
use Rattle.laws_analyses.proofs.Regions.Rules.{Goes, goes_ends, goes_breaks, goes_set, goes_show, goes_take, goes_more, goes_write}
use Rattle.laws_analyses.proofs.Regions.Looks.{IfGave, goes_first, goes_first_then}
use Rattle.laws_analyses.proofs.Regions.Expressions.{Seen, value_looks, all_shown_look}
use Rattle.laws_analyses.proofs.Regions.Holding.{holds_gathered}
use Rattle.laws_analyses.proofs.Regions.Told.{by_order as base_order}
use Rattle.laws_marks.proofs.InFramed.{by_order, sharp_in}
use Rattle.laws_analyses.proofs.Regions.Showing.{finally_more, one_write}
use Rattle.laws_analyses.proofs.Regions.Simple.{Hits, Aimed, target_looks, aimed_with, item_moves, assign_goes, print_goes}
use Rattle.laws_marks.specs.InShown.{first_read, FirstHolds, FirstSharp, IsFree, FirstShown}
use Rattle.laws_marks.specs.InUnits.{UnitsFit, AreOf, SetFits}
use Rattle.laws_marks.proofs.InFirsts.{first_left, first_right, read_is_first, first_cases}
use Rattle.laws_marks.proofs.InRests.{before_lies, after_lies, both_sharp}
use Rattle.laws_marks.proofs.InWithin.{within_writes}
use Rattle.laws_marks.proofs.InTaking.{NoWrites, ReadsFirst, free_none, free_both, free_write, no_writes_printed, no_writes_took, no_writes_both, first_holds_then, first_holds_gathered, first_sharp_gathered, first_of_reads, seen_first, seen_sharp, first_broke, first_idle}
use Rattle.laws_marks.proofs.InQuiet.{looked_quiet}
use Rattle.fx_lists.proofs.Numbers.{nat_eq_same}

-- what is claimed of executions beside how they end
pub goes_both : (C D : Claim) → (t : Plan) (s : Store) (P Q : Answer Flow → Store → List Event → Type 0) → Goes C t s P → Goes D t s Q → Goes D t s (λ a z es. P a z es × Q a z es)
goes_both C D t s P Q h g i = record { inside = (g i).inside; ending = ((h i).ending, (g i).ending) }

-- reads, and one write at their end
written_last : (es : List Event) (v : ℕ) (c : Content) → NoWrites es → ReadsFirst (es ++ Wrote v c ∷ [])
written_last es v c n u e = first_left u es (Wrote v c ∷ []) (read_is_first u es (n.unwritten u) (⊎_elim (λ i. i) (λ i. absurd (true≢false (sym i))) (accessed_cases Read es (Wrote v c ∷ []) u e)))

only_reads : (es : List Event) → NoWrites es → ReadsFirst es
only_reads es n u e = read_is_first u es (n.unwritten u) e

module _ (k : Frame) (sound : Sound k.base) (solid : (x : List ℕ) (v : ℕ) → k.sc.names x ≡ Variable v → k.scalar x ≡ true → 0 < (k.at v).extent) (D : Claim) (locked : Locks) where
  -- reads before writes, which are not locked
  abbrev Tidy : Answer Flow → Store → List Event → Type 0
  Tidy a z es = ReadsFirst es × IsFree k locked es

  tidy_quiet : (es : List Event) → NoWrites es → ReadsFirst es × IsFree k locked es
  tidy_quiet es n = (only_reads es n, free_none k locked es n)

  assign_tidy : (a b : ExprTree) (s : Store) → is_plain k.scalar a ≡ true → is_plain k.scalar b ≡ true → Goes D (first (assigned a b k.sc.names k.at locked) (λ o. Ends Normal)) s (λ x z es. ReadsFirst es × IsFree k locked es)
  assign_tidy a b s p q =
      goes_first_then D (value b k.sc.names k.at) (λ c. target a k.sc.names k.at >>= λ t. write locked t.unit (content t.tag c.number)) (λ o. Ends Normal) s (λ x es. Seen k.base sound s (reads b k.m) x es × NoWrites es) (λ x z es. ReadsFirst es × IsFree k locked es) (looked_quiet (value b k.sc.names k.at) s (Seen k.base sound s (reads b k.m)) (value_looks k.base sound s solid b q))
      (λ c es h. goes_first_then D (target a k.sc.names k.at) (λ t. write locked t.unit (content t.tag c.number)) (λ o. Ends Normal) s (λ x fs. Aimed k.base sound solid s a x fs × NoWrites fs) (λ x z fs. ReadsFirst (es ++ fs) × IsFree k locked (es ++ fs)) (looked_quiet (target a k.sc.names k.at) s (Aimed k.base sound solid s a) (target_looks k.base sound solid s a p))
      (λ t fs g. goes_write D locked t.unit (content t.tag c.number) (λ o. Ends Normal) s (λ x z gs. ReadsFirst (es ++ (fs ++ gs)) × IsFree k locked (es ++ (fs ++ gs)))
      (λ free. goes_ends D Normal (put s t.unit (content t.tag c.number)) (λ x z gs. ReadsFirst (es ++ (fs ++ Wrote t.unit (content t.tag c.number) ∷ gs)) × IsFree k locked (es ++ (fs ++ Wrote t.unit (content t.tag c.number) ∷ gs)))
      (subst (λ ts. ReadsFirst ts × IsFree k locked ts) (append_twice es fs (Wrote t.unit (content t.tag c.number) ∷ []))
      (written_last (es ++ fs) t.unit (content t.tag c.number) (no_writes_both es fs h.1 g.1), free_both k locked (es ++ fs) (Wrote t.unit (content t.tag c.number) ∷ []) (free_none k locked (es ++ fs) (no_writes_both es fs h.1 g.1)) (free_write k locked t.unit (content t.tag c.number) free))))
      (λ z. subst (λ gs. ReadsFirst (es ++ gs) × IsFree k locked (es ++ gs)) (sym (trace_nil fs)) (tidy_quiet (es ++ fs) (no_writes_both es fs h.1 g.1))))
      (λ z fs g. tidy_quiet (es ++ fs) (no_writes_both es fs h.1 g.1)))
      (λ z es h. tidy_quiet es h.1)
    where
      append_twice : (es fs gs : List Event) → ((es ++ fs) ++ gs) ≡ (es ++ (fs ++ gs))
      append_twice es fs gs = trace_assoc es fs gs

  pub assign_in : (a b : ExprTree) (s : Store) → AreOf k.may_name (assignment k.m a b) → is_plain k.scalar a ≡ true → is_plain k.scalar b ≡ true → Goes D (first (assigned a b k.sc.names k.at locked) (λ o. Ends Normal)) s (λ x z es. FirstShown k false locked (first_reads (assignment k.m a b)) s x es)
  assign_in a b s named p q =
      goes_more D (first (assigned a b k.sc.names k.at locked) (λ o. Ends Normal)) s (λ x z es. Shown k.base false (assignment k.m a b) s x es × (ReadsFirst es × IsFree k locked es)) (λ x z es. FirstShown k false locked (first_reads (assignment k.m a b)) s x es)
      (λ x z es h. first_of_reads k false locked (assignment k.m a b) s x es named h.0 h.1.0 h.1.1)
      (goes_both D D (first (assigned a b k.sc.names k.at locked) (λ o. Ends Normal)) s (λ x z es. Shown k.base false (assignment k.m a b) s x es) (λ x z es. ReadsFirst es × IsFree k locked es) (assign_goes k.base sound solid D locked a b s p q) (assign_tidy a b s p q))

  -- ---- PRINT

  print_tidy : (es : ExprTrees) (s : Store) → are_plain k.scalar es ≡ true → Goes D (first (all_shown es k.sc.names k.at) (λ xs. ShowPlan xs (Ends Normal))) s (λ x z fs. ReadsFirst fs × IsFree k locked fs)
  print_tidy es s p =
      goes_first D (all_shown es k.sc.names k.at) (λ xs. ShowPlan xs (Ends Normal)) s (λ x fs. Seen k.base sound s (all_reads es k.m) x fs × NoWrites fs) (λ x z fs. ReadsFirst fs × IsFree k locked fs) (looked_quiet (all_shown es k.sc.names k.at) s (Seen k.base sound s (all_reads es k.m)) (all_shown_look k.base sound s solid es p))
      (λ xs fs h. goes_show D xs (Ends Normal) s (λ x z gs. ReadsFirst (fs ++ gs) × IsFree k locked (fs ++ gs))
      (goes_ends D Normal s (λ x z gs. ReadsFirst (fs ++ Printed xs ∷ gs) × IsFree k locked (fs ++ Printed xs ∷ gs)) (tidy_quiet (fs ++ Printed xs ∷ []) (no_writes_both fs (Printed xs ∷ []) h.1 (no_writes_printed xs)))))
      (λ z fs h. tidy_quiet fs h.1)

  pub print_in : (es : ExprTrees) (s : Store) → AreOf k.may_name (printing k.m es) → are_plain k.scalar es ≡ true → Goes D (first (all_shown es k.sc.names k.at) (λ xs. ShowPlan xs (Ends Normal))) s (λ x z fs. FirstShown k false locked (first_reads (printing k.m es)) s x fs)
  print_in es s named p =
      goes_more D (first (all_shown es k.sc.names k.at) (λ xs. ShowPlan xs (Ends Normal))) s (λ x z fs. Shown k.base false (printing k.m es) s x fs × (ReadsFirst fs × IsFree k locked fs)) (λ x z fs. FirstShown k false locked (first_reads (printing k.m es)) s x fs)
      (λ x z fs h. first_of_reads k false locked (printing k.m es) s x fs named h.0 h.1.0 h.1.1)
      (goes_both D D (first (all_shown es k.sc.names k.at) (λ xs. ShowPlan xs (Ends Normal))) s (λ x z fs. Shown k.base false (printing k.m es) s x fs) (λ x z fs. ReadsFirst fs × IsFree k locked fs) (print_goes k.base sound solid D locked es s p) (print_tidy es s p))

  -- ---- READ

  module _ (still : ℕ → Bool) (fit : Fit k.sc.names k.scalar k.at (scene k.base) locked still) (units : UnitsFit k locked) (sets : (e : ExprTree) → SetFits k (item_written k.m e)) (inner : (e : ExprTree) → AreOf k.may_name (inner_reads e k.m)) where
    abbrev ss : List SymbolTree
    ss = k.m.symbols

    abbrev set : ExprTree → ExprTrees → List Region
    set e es = with_item k.m e (reading es k.m)

    -- before an item is written
    aimed_first : (e : ExprTree) (es : ExprTrees) (s : Store) (b : Answer Target) (fs : List Event) → Aimed k.base sound solid s e b fs → FirstHolds k (with_item k.m e (reading es k.m)) s fs
    aimed_first e es s b fs g u i =
        before_lies k.m.symbols (scene k.base) (elements_in k) (by_order k) (item_in k.m e) (item_written k.m e) (reading es k.m) (item_does k.m e) AtIn (numbers_of s) u
        (first_holds_gathered k (all_in (inner_reads e k.m)) s fs (seen_first k (inner_reads e k.m) s fs (inner e) g.holds) u i)

    -- and with the rest of the items
    item_first : (e : ExprTree) (es : ExprTrees) (t : Target) (s : Store) (fs : List Event) (o : Option Content) (c : Content) → Aimed k.base sound solid s e (Gave t) fs → NoWrites fs → locked t.unit ≡ None → Does (scene k.base) (item_does k.m e) (numbers_of s) (numbers_of (put s t.unit c)) → (x : Answer Flow) (gs : List Event) → FirstShown k false locked (reading es k.m) (put s t.unit c) x gs → FirstShown k false locked (with_item k.m e (reading es k.m)) s x (fs ++ Took o ∷ (Wrote t.unit c ∷ gs))
    item_first e es t s fs o c g n free d x gs h = record {
      holds = first_holds_then k (with_item k.m e (reading es k.m)) s fs (Took o ∷ (Wrote t.unit c ∷ gs)) (aimed_first e es s (Gave t) fs g) later;
      sharp = finally_more false x (FirstSharp k (reading es k.m) (put s t.unit c) gs) (FirstSharp k (with_item k.m e (reading es k.m)) s (fs ++ Took o ∷ (Wrote t.unit c ∷ gs))) sharp h.sharp;
      free = free_both k locked fs (Took o ∷ (Wrote t.unit c ∷ gs)) (free_none k locked fs n) (free_both k locked (Took o ∷ []) (Wrote t.unit c ∷ gs) (free_none k locked (Took o ∷ []) (no_writes_took o)) (free_both k locked (Wrote t.unit c ∷ []) gs (free_write k locked t.unit c free) h.free));
    }
      where
        W : List Region
        W = item_written k.m e

        wrote : List Event
        wrote = Wrote t.unit c ∷ []

        hits : Hits k.base sound solid s e t.unit
        hits = g.sharp.1

        writes : AreWritten (scene k.base) (elements_in k) (item_written k.m e) (numbers_of s) (λ u. is_written u (Wrote t.unit c ∷ []))
        writes w i q =
            sharp_in k w (numbers_of s) (λ u. is_written u (Wrote t.unit c ∷ [])) ((sets e).named w i)
            (gathered_sharp (named e k.m Write) (scene k.base) (elements_at k.base) (base_order k.base) (numbers_of s) (λ a u. is_written u (Wrote t.unit c ∷ [])) (hits.sharp (λ a u. is_written u (Wrote t.unit c ∷ [])) (or_left (nat_eq t.unit t.unit) false (nat_eq_same t.unit))) w i)

        within : IsWithinWrites k.m.symbols (scene k.base) (elements_in k) (item_written k.m e) (numbers_of s) (λ u. is_written u (Wrote t.unit c ∷ []))
        within = within_writes k locked units (item_written k.m e) (sets e) s (Wrote t.unit c ∷ []) (holds_gathered k.base (named e k.m Write) s (Wrote t.unit c ∷ []) (one_write k.base (named e k.m Write) s t.unit c hits.lies)) (free_write k locked t.unit c free)

        later : FirstHolds k (with_item k.m e (reading es k.m)) s (Took o ∷ (Wrote t.unit c ∷ gs))
        later u i = ⊎_elim (λ j. absurd (true≢false (sym (only j.is_so)))) (λ j. after_lies k.m.symbols (scene k.base) (elements_in k) (by_order k) (item_in k.m e) (item_written k.m e) (reading es k.m) (item_does k.m e) AtIn (numbers_of s) (numbers_of (put s t.unit c)) (λ v. is_written v (Wrote t.unit c ∷ [])) u d writes j.0 (h.holds u j.1)) (first_cases k.ks k.g u (Wrote t.unit c ∷ []) gs (record { is_so = i.is_so; seen = i.seen }))
          where
            only : is_read_first u (Wrote t.unit c ∷ []) ≡ true → false ≡ true
            only j = go (nat_eq t.unit u) j
              where
                go : (z : Bool) → (not z && false) ≡ true → false ≡ true
                go true q = q
                go false q = q

        sharp : FirstSharp k (reading es k.m) (put s t.unit c) gs → FirstSharp k (with_item k.m e (reading es k.m)) s (fs ++ Took o ∷ (Wrote t.unit c ∷ gs))
        sharp r =
            both_sharp k.m.symbols (scene k.base) (elements_in k) (by_order k) (item_in k.m e) (item_written k.m e) (reading es k.m) (item_does k.m e) (numbers_of s) (numbers_of (put s t.unit c))
            (first_read fs) (λ u. is_written u (Wrote t.unit c ∷ [])) (first_read gs) (first_read (fs ++ Took o ∷ (Wrote t.unit c ∷ gs))) d
            (first_sharp_gathered k (all_in (inner_reads e k.m)) s fs (seen_sharp k (inner_reads e k.m) s fs (inner e) n g.sharp.0)) within r
            (record { at_once = λ u i. first_left u fs (Took o ∷ (Wrote t.unit c ∷ gs)) i; after = λ u w i. first_right u fs (Took o ∷ (Wrote t.unit c ∷ gs)) (n.unwritten u) (first_right u (Wrote t.unit c ∷ []) gs w i) })

    took_in : (e : ExprTree) (es : ExprTrees) (t : Target) (s : Store) (fs : List Event) (o : Option Content) → Aimed k.base sound solid s e (Gave t) fs → NoWrites fs → IsUnit e k.sc.names k.at t → is_target k.scalar e ≡ true → ((y : Store) → Goes D (first (items_read es k.sc.names k.at locked) (λ o. Ends Normal)) y (λ x z gs. FirstShown k false locked (reading es k.m) y x gs)) → Goes D (first (taken locked t o >>= λ o. items_read es k.sc.names k.at locked) (λ o. Ends Normal)) s (λ x z gs. FirstShown k false locked (with_item k.m e (reading es k.m)) s x (fs ++ Took o ∷ gs))
    took_in e es t s fs o g n q h ih = go o
      where
        failed : (o : Option Content) (b : Break) → FirstShown k false locked (with_item k.m e (reading es k.m)) s (Broke b) (fs ++ Took o ∷ [])
        failed o b = first_broke k false locked (with_item k.m e (reading es k.m)) s b (fs ++ Took o ∷ []) (first_holds_then k (with_item k.m e (reading es k.m)) s fs (Took o ∷ []) (aimed_first e es s (Gave t) fs g) (λ u i. absurd (true≢false (sym i.is_so)))) (free_none k locked (fs ++ Took o ∷ []) (no_writes_both fs (Took o ∷ []) n (no_writes_took o)))

        wrote : (c : Content) (l : Option Fault) → locked t.unit ≡ l → Goes D (first (written l t.unit c >>= λ o. items_read es k.sc.names k.at locked) (λ o. Ends Normal)) s (λ x z gs. FirstShown k false locked (with_item k.m e (reading es k.m)) s x (fs ++ Took (Some c) ∷ gs))
        wrote c (Some f) r = goes_breaks D (Faulty f) s (λ x z gs. FirstShown k false locked (with_item k.m e (reading es k.m)) s x (fs ++ Took (Some c) ∷ gs)) (failed (Some c) (Faulty f))
        wrote c None r =
            goes_set D t.unit c (first (items_read es k.sc.names k.at locked) (λ o. Ends Normal)) s (λ x z gs. FirstShown k false locked (with_item k.m e (reading es k.m)) s x (fs ++ Took (Some c) ∷ gs))
            (goes_more D (first (items_read es k.sc.names k.at locked) (λ o. Ends Normal)) (put s t.unit c) (λ x z gs. FirstShown k false locked (reading es k.m) (put s t.unit c) x gs) (λ x z gs. FirstShown k false locked (with_item k.m e (reading es k.m)) s x (fs ++ Took (Some c) ∷ (Wrote t.unit c ∷ gs)))
            (λ x z gs a. item_first e es t s fs (Some c) c g n r (item_moves k.base sound solid D locked still fit e t s c h q r) x gs a) (ih (put s t.unit c)))

        tested : (c : Content) (b : Bool) → Goes D (first ((if b then write locked t.unit c else fault Input) >>= λ o. items_read es k.sc.names k.at locked) (λ o. Ends Normal)) s (λ x z gs. FirstShown k false locked (with_item k.m e (reading es k.m)) s x (fs ++ Took (Some c) ∷ gs))
        tested c true = wrote c (locked t.unit) refl
        tested c false = goes_breaks D (Faulty Input) s (λ x z gs. FirstShown k false locked (with_item k.m e (reading es k.m)) s x (fs ++ Took (Some c) ∷ gs)) (failed (Some c) (Faulty Input))

        go : (o : Option Content) → Goes D (first (taken locked t o >>= λ o. items_read es k.sc.names k.at locked) (λ o. Ends Normal)) s (λ x z gs. FirstShown k false locked (with_item k.m e (reading es k.m)) s x (fs ++ Took o ∷ gs))
        go None = goes_breaks D (Faulty Input) s (λ x z gs. FirstShown k false locked (with_item k.m e (reading es k.m)) s x (fs ++ Took None ∷ gs)) (failed None (Faulty Input))
        go (Some c) = tested c (same_tag t.tag c.tag && is_value t.tag c.number)

    pub read_in : (es : ExprTrees) (s : Store) → are_targets k.scalar es ≡ true → are_plain k.scalar es ≡ true → Goes D (first (items_read es k.sc.names k.at locked) (λ o. Ends Normal)) s (λ x z fs. FirstShown k false locked (reading es k.m) s x fs)
    read_in tree.no_exprs s h p = goes_ends D Normal s (λ x z fs. FirstShown k false locked [] s x fs) (first_idle k false locked s (Gave Normal))
    read_in (tree.more_exprs e es) s h p =
        let hs = and_parts (is_target k.scalar e) (are_targets k.scalar es) h in
        let ps = and_parts (is_plain k.scalar e) (are_plain k.scalar es) p in
        goes_first_then D (target e k.sc.names k.at) (λ t. Take (taken locked t) >>= λ o. items_read es k.sc.names k.at locked) (λ o. Ends Normal) s (λ b fs. (Aimed k.base sound solid s e b fs × IfGave b (λ t. IsUnit e k.sc.names k.at t)) × NoWrites fs) (λ x z fs. FirstShown k false locked (with_item k.m e (reading es k.m)) s x fs)
        (looked_quiet (target e k.sc.names k.at) s (λ b fs. Aimed k.base sound solid s e b fs × IfGave b (λ t. IsUnit e k.sc.names k.at t)) (aimed_with k.base sound solid D locked still fit e s ps.0))
        (λ t fs g. goes_take D (λ o. first (taken locked t o >>= λ o. items_read es k.sc.names k.at locked) (λ o. Ends Normal)) s (λ x z gs. FirstShown k false locked (with_item k.m e (reading es k.m)) s x (fs ++ gs))
        (λ o. took_in e es t s fs o g.0.0 g.1 g.0.1 hs.0 (λ y. read_in es y hs.1 ps.1)))
        (λ z fs g. first_broke k false locked (with_item k.m e (reading es k.m)) s z fs (aimed_first e es s (Broke z) fs g.0.0) (free_none k locked fs g.1))
