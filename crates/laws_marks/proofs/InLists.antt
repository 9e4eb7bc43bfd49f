-- Lists of statements, from what their statements read first.
use Rattle.std.proofs.Common.{◌≡◌, ⊎_elim, ℕ, zero, suc, List, [], ◌∷◌, ◌++◌, ◌&&◌, Option, Bool, true, false, refl, sym, ap, ◌∙◌, subst, true≢false}
use Rattle.std.specs.Prelude.{if◌then◌else◌}
use Rattle.std.proofs.lemmas.Bool.{or_left, or_parts}
use Rattle.f77_ast.specs.Trees.{StmtTree, WhatTree, StmtTrees}
use Rattle.f77_ast.specs.Trees as tree
use Rattle.f77_ast.specs.Store.{Store}
use Rattle.f77_ast.specs.Steps.{OutOfTurns}
use Rattle.f77_ast.specs.Runs.{Event, Answer, Gave, Broke}
use Rattle.f77_ast.specs.Writes.{Locks}
use Rattle.f77_ast.specs.Plans.{Flow, Normal, Jump, Returned, Stopped, Plan, Ends, Breaks}
use Rattle.f77_ast.specs.Executions.{Claim}
use Rattle.f77_ast.specs.Lists.{Part, is_label, has_label, from_label, go_on, in_order as plan_in_order, with_jumps, list_plan}
use Rattle.f77_ast.specs.Statements.{statement_plan, parts}
use Rattle.f77_ast.specs.declared.results.At.{At}
use Rattle.f77_ast.specs.declared.variable.Unit.{Unit as BlockUnit}
use Rattle.f77_meaning.specs.Accesses.{is_written}
use Rattle.affine_forms.specs.Claims.{numbers_of}
use Rattle.preconditions.specs.transformer_algebra.Transformers.{all_cells, all_units}
use Rattle.preconditions.specs.transformer_algebra.Claims.{Kept, Does}
use Rattle.preconditions.specs.transformer_algebra.Laws.{here}
use Rattle.preconditions.proofs.TransformerAlgebra.RuleLaws.{kept_in}
use Rattle.preconditions.specs.transformers.Jumps.{stmt_has, list_has, labels, goes_to, is_end, returns_early, early_return, unstructured}
use Rattle.preconditions.specs.transformers.Lists.{each_at, list_at}
use Rattle.preconditions.specs.transformers.Lists as transformers
use Rattle.in_out_regions.specs.region_sets.declared.region.Access.{Access}
use Rattle.in_out_regions.specs.region_sets.declared.region.Access.TheVariants.{In as AtIn}
use Rattle.in_out_regions.specs.region_sets.declared.region.Region.{Region}
use Rattle.in_out_regions.specs.region_sets.Lists.{in_any_order, numbers, set_at}
use Rattle.in_out_regions.specs.region_sets.Claims.{LiesInSet, IsSharp}
use Rattle.in_out_regions.proofs.RegionSets.StepLaws.{any_units, any_inexact}
use Rattle.in_out_regions.specs.array_regions.Statement.{what_set}
use Rattle.in_out_regions.specs.Kinds.{first_reads}
use Rattle.in_out_regions.specs.array_regions.Calls.{Called}
use Rattle.in_out_regions.specs.Known.{KnownTree}
use Rattle.in_out_regions.specs.Lists.{before_rest, ins_in_order, list_in}
use Rattle.in_out_regions.specs.ListClaims.{AreWritten}
use Rattle.in_out_regions.specs.Statement.{what_in, at_list}
use Rattle.laws_analyses.specs.Statements.Good.{Ending}
use Rattle.laws_analyses.specs.Statements.Leads.{stmt_leads}
use Rattle.laws_analyses.specs.Statements.Activation.{Jumps}
use Rattle.laws_analyses.proofs.Statements.LeadLaws.{leads_has}
use Rattle.laws_analyses.proofs.Statements.Rows.{labelled, returned_last}
use Rattle.laws_analyses.specs.Regions.Settings.{scene, elements_at}
use Rattle.laws_marks.specs.InFrames.{Frame, elements_in}
use Rattle.laws_analyses.specs.Regions.Shown.{accessed, Holds, Sharp, Shown}
use Rattle.laws_analyses.proofs.Regions.Traces.{trace_assoc, trace_nil}
use Rattle.laws_analyses.proofs.Regions.Rules.{Goes, OnGave, goes_ends, goes_breaks, goes_more, goes_with, goes_then}
use Rattle.laws_marks.proofs.InFramed.{by_order, sharp_in}
use Rattle.laws_analyses.proofs.Regions.Showing.{finally_more}
use Rattle.laws_analyses.proofs.Regions.Lists.{KeepsAt, Moved, Suffix}
use Rattle.laws_marks.specs.InShown.{first_read, FirstHolds, FirstSharp, IsFree, FirstShown}
use Rattle.laws_marks.specs.InUnits.{UnitsFit, AreOf, SetFits}
use Rattle.laws_marks.specs.InKnowns.{known_in}
use Rattle.laws_marks.proofs.InFirsts.{first_left, first_right, first_cases}
use Rattle.laws_marks.proofs.InRests.{before_lies, after_lies, both_sharp}
use Rattle.laws_marks.proofs.InWithin.{within_writes}
use Rattle.laws_marks.proofs.InTaking.{no_writes_none, free_none, free_both, first_holds_none, first_holds_then, first_sharp_none, first_all}
use Rattle.fx_lists.proofs.Booleans.{clash as clashes}
use Rattle.f77_ast.specs.Shapes.{is_return}

-- exact WRITE regions of a set tell what is written
pub are_written : (k : Frame) (rs : List Region) (s : Store) (es : List Event) → AreOf k.may_name rs → Sharp k.base rs s es → AreWritten (scene k.base) (elements_in k) rs (numbers_of s) (λ u. is_written u es)
are_written k rs s es named h w i e = sharp_in k w (numbers_of s) (λ u. is_written u es) (named w i) (subst (λ (a : Access). IsSharp (scene k.base) (elements_at k.base w.variable) w (numbers_of s) (accessed a es)) e (h w i))

-- I: what holds at each store of the module
module _ (k : Frame) (D : Claim) (I : Store → Type 0) (acc : List (At (List Region))) (called : Called) (locked : Locks) (still : ℕ → Bool) (units : UnitsFit k locked) where
  abbrev t : KnownTree
  t = known_in k acc called

  -- what a statement shows: of READ and WRITE, and of IN
  pub record Both (w : WhatTree) (n : ℕ) (s : Store) (a : Answer Flow) (es : List Event) : Type 0 where
    pub accesses : Shown k.base false (what_set w k.m k.does k.calls) s a es
    pub firsts : FirstShown k false locked (what_in n w (known_in k acc called)) s a es

  -- the sets that a list takes for a statement are its own
  pub record Taken (all : StmtTrees) (n : ℕ) (w : WhatTree) : Type 0 where
    pub accesses : set_at acc n ≡ what_set w k.m k.does k.calls
    pub firsts : set_at (at_list all (known_in k acc called)) n ≡ what_in n w (known_in k acc called)
    pub fit : SetFits k (what_set w k.m k.does k.calls)

  module _ (all : StmtTrees) (whole : Bool) where
    abbrev pub G : ℕ → List Region
    G n = set_at (at_list all (known_in k acc called)) n

    abbrev ps : List Part
    ps = parts all k.sc k.at locked

    abbrev pub ordered : StmtTrees → List Region
    ordered ss = ins_in_order k.m.symbols k.does (set_at acc) G (numbers ss)

    -- ---- in order

    module _ (n : ℕ) (label : Option ℕ) (w : WhatTree) (rest : StmtTrees) (straight : unstructured whole all ≡ false) (x : Suffix k.base D I all whole (tree.more_stmts (tree.stmt n label w) rest)) (taken : Taken all n w) where
      abbrev now : StmtTree
      now = tree.stmt n label w

      abbrev set : List Region
      set = what_set w k.m k.does k.calls

      abbrev ins : List Region
      ins = what_in n w (known_in k acc called)

      abbrev later : List Region
      later = ordered rest

      -- with the sets of the statement
      abbrev own_row : List Region
      own_row = before_rest k.m.symbols ins set (k.does n) later

      abbrev row : List Region
      row = before_rest k.m.symbols (G n) (set_at acc n) (k.does n) later

      same_row : own_row ≡ row
      same_row = ap (λ rs. before_rest k.m.symbols rs set (k.does n) later) (sym taken.firsts) ∙ ap (λ rs. before_rest k.m.symbols (G n) rs (k.does n) later) (sym taken.accesses)

      first_own : (s : Store) (es : List Event) → FirstHolds k ins s es → FirstHolds k own_row s es
      first_own s es h u i = before_lies k.m.symbols (scene k.base) (elements_in k) (by_order k) ins set later (k.does n) AtIn (numbers_of s) u (h u i)

      both_own : (s z : Store) (a : Answer Flow) (es fs : List Event) → Does (scene k.base) (k.does n) (numbers_of s) (numbers_of z) → Holds k.base set s es → Sharp k.base set s es → FirstHolds k ins s es → FirstSharp k ins s es → IsFree k locked es → FirstShown k whole locked later z a fs → FirstShown k whole locked own_row s a (es ++ fs)
      both_own s z a es fs d h g fh fg free l = record {
        holds = λ u i. ⊎_elim (λ j. first_own s es fh u j) (λ j. after_lies k.m.symbols (scene k.base) (elements_in k) (by_order k) ins set later (k.does n) AtIn (numbers_of s) (numbers_of z) (λ v. is_written v es) u d (are_written k set s es taken.fit.named g) j.0 (l.holds u j.1)) (first_cases k.ks k.g u es fs i);
        sharp = finally_more whole a (FirstSharp k later z fs) (FirstSharp k own_row s (es ++ fs))
            (λ r. both_sharp k.m.symbols (scene k.base) (elements_in k) (by_order k) ins set later (k.does n) (numbers_of s) (numbers_of z) (first_read es) (λ v. is_written v es) (first_read fs) (first_read (es ++ fs)) d fg
            (within_writes k locked units set taken.fit s es h free) r
            (record { at_once = λ u j. first_left u es fs j; after = λ u j i. first_right u es fs j i }))
            l.sharp;
        free = free_both k locked es fs free l.free;
      }

      to_row : (s : Store) (a : Answer Flow) (es : List Event) → FirstShown k whole locked own_row s a es → FirstShown k whole locked row s a es
      to_row s a es h = subst (λ rs. FirstShown k whole locked rs s a es) same_row h

      two : whole ≡ true → early_return all ≡ false
      two e = let o = or_parts (list_has (goes_to (labels all)) all) (whole && early_return all) straight in ap (λ b. b && early_return all) (sym e) ∙ o.1

      no_goto : list_has (goes_to (labels all)) all ≡ false
      no_goto = (or_parts (list_has (goes_to (labels all)) all) (whole && early_return all) straight).0

      -- no jump leads to a label of the list
      no_label : (l : ℕ) → Jumps (λ ls. stmt_leads now ls) l → has_label l ps ≡ false
      no_label l j = go (has_label l ps) refl
        where
          go : (b : Bool) → has_label l ps ≡ b → b ≡ false
          go false e = refl
          go true e = clashes (list_has (goes_to (labels all)) all) (x.jumps (labels all) (or_left (stmt_has (goes_to (labels all)) now) (list_has (goes_to (labels all)) rest) (leads_has now (labels all) (labels all) (λ m q. q) (j (labels all) (sym (labelled l all k.sc k.at locked) ∙ e))))) no_goto

      -- after a RETURN that ends the module nothing comes, and it reads nothing
      none_later : (ss : StmtTrees) → is_end ss ≡ true → ordered ss ≡ []
      none_later tree.no_stmts e = refl
      none_later (tree.more_stmts s ss) e = absurd (true≢false (sym e))

      return_set : (v : WhatTree) → is_return v ≡ true → what_set v k.m k.does k.calls ≡ []
      return_set (tree.assign a b) e = absurd (true≢false (sym e))
      return_set (tree.block_if arms other) e = absurd (true≢false (sym e))
      return_set (tree.logical_if f s) e = absurd (true≢false (sym e))
      return_set (tree.do_loop l) e = absurd (true≢false (sym e))
      return_set (tree.call y es) e = absurd (true≢false (sym e))
      return_set (tree.goto l) e = absurd (true≢false (sym e))
      return_set tree.continue e = absurd (true≢false (sym e))
      return_set tree.return e = refl
      return_set (tree.stop text) e = absurd (true≢false (sym e))
      return_set (tree.print es) e = absurd (true≢false (sym e))
      return_set (tree.read es) e = absurd (true≢false (sym e))

      return_in : (v : WhatTree) → is_return v ≡ true → what_in n v (known_in k acc called) ≡ first_reads (set_at acc n)
      return_in (tree.assign a b) e = absurd (true≢false (sym e))
      return_in (tree.block_if arms other) e = absurd (true≢false (sym e))
      return_in (tree.logical_if f s) e = absurd (true≢false (sym e))
      return_in (tree.do_loop l) e = absurd (true≢false (sym e))
      return_in (tree.call y es) e = absurd (true≢false (sym e))
      return_in (tree.goto l) e = absurd (true≢false (sym e))
      return_in tree.continue e = absurd (true≢false (sym e))
      return_in tree.return e = refl
      return_in (tree.stop text) e = absurd (true≢false (sym e))
      return_in (tree.print es) e = absurd (true≢false (sym e))
      return_in (tree.read es) e = absurd (true≢false (sym e))

      return_sharp : (s : Store) (es : List Event) → stmt_has is_return now ≡ true → whole ≡ true → FirstSharp k own_row s es
      return_sharp s es h e =
          let o = returned_last w rest (or_parts (returns_early (is_end rest) now) (early_return rest) (x.early (two e))).0 h in
          subst (λ rs. FirstSharp k (before_rest k.m.symbols rs set (k.does n) later) s es) (sym (return_in w o.0 ∙ ap first_reads (taken.accesses ∙ return_set w o.0)))
          (subst (λ rs. FirstSharp k (before_rest k.m.symbols [] set (k.does n) rs) s es) (sym (none_later rest o.1)) (first_sharp_none k s es))

      module _ (jump : ℕ → Plan) (s : Store) (since : I s) (keeps : KeepsAt k.base D I n) (own : Bool) where
        abbrev P : Answer Flow → Store → List Event → Type 0
        P a z es = Both w n s a es × OnGave D a z (Moved k.base D I n (λ ls. stmt_leads now ls) (stmt_has is_return now) own still s)

        abbrev on : Flow → Plan
        on = go_on jump ps (plan_in_order jump ps (parts rest k.sc k.at locked))

        next : ((z : Store) → I z → Goes D (plan_in_order jump ps (parts rest k.sc k.at locked)) z (λ a y fs. FirstShown k whole locked later z a fs)) → (g : Flow) (z : Store) (es : List Event) → P (Gave g) z es → Goes D (on g) z (λ a y fs. FirstShown k whole locked row s a (es ++ fs))
        next ih Normal z es p = goes_more D (plan_in_order jump ps (parts rest k.sc k.at locked)) z (λ a y fs. FirstShown k whole locked later z a fs) (λ a y fs. FirstShown k whole locked row s a (es ++ fs)) (λ a y fs l. to_row s a (es ++ fs) (both_own s z a es fs p.1.does p.0.accesses.holds p.0.accesses.sharp p.0.firsts.holds p.0.firsts.sharp p.0.firsts.free l)) (ih z (keeps s z p.1.does.kept since))
        next ih (Jump l) z es p =
            subst (λ b. Goes D (if b then jump l else Ends (Jump l)) z (λ a y fs. FirstShown k whole locked row s a (es ++ fs))) (sym (no_label l p.1.0))
            (goes_ends D (Jump l) z (λ a y fs. FirstShown k whole locked row s a (es ++ fs)) (subst (λ ts. FirstShown k whole locked row s (Gave (Jump l)) ts) (sym (trace_nil es)) (to_row s (Gave (Jump l)) es (record { holds = first_own s es p.0.firsts.holds; sharp = tt; free = p.0.firsts.free }))))
        next ih Returned z es p = goes_ends D Returned z (λ a y fs. FirstShown k whole locked row s a (es ++ fs)) (subst (λ ts. FirstShown k whole locked row s (Gave Returned) ts) (sym (trace_nil es)) (to_row s (Gave Returned) es (record { holds = first_own s es p.0.firsts.holds; sharp = λ e. return_sharp s es p.1.0 e; free = p.0.firsts.free })))
        next ih Stopped z es p = goes_ends D Stopped z (λ a y fs. FirstShown k whole locked row s a (es ++ fs)) (subst (λ ts. FirstShown k whole locked row s (Gave Stopped) ts) (sym (trace_nil es)) (to_row s (Gave Stopped) es (record { holds = first_own s es p.0.firsts.holds; sharp = tt; free = p.0.firsts.free })))

        pub row_first : Goes D (statement_plan now k.sc k.at locked) s (λ a z es. Both w n s a es) → Ending (statement_plan now k.sc k.at locked) s (Moved k.base D I n (λ ls. stmt_leads now ls) (stmt_has is_return now) own still s) → ((z : Store) → I z → Goes D (plan_in_order jump ps (parts rest k.sc k.at locked)) z (λ a y fs. FirstShown k whole locked later z a fs)) → Goes D (plan_in_order jump ps (parts (tree.more_stmts now rest) k.sc k.at locked)) s (λ a z es. FirstShown k whole locked row s a es)
        row_first h m ih =
            goes_then D (statement_plan now k.sc k.at locked) on s P (λ a z es. FirstShown k whole locked row s a es)
            (goes_with D (statement_plan now k.sc k.at locked) s (λ a z es. Both w n s a es) (Moved k.base D I n (λ ls. stmt_leads now ls) (stmt_has is_return now) own still s) h m)
            (λ g z es p. next ih g z es p)
            (λ b z es p. to_row s (Broke b) es (record { holds = first_own s es p.0.firsts.holds; sharp = tt; free = p.0.firsts.free }))

    -- ---- in any order

    abbrev pub cells : List ℕ
    cells = all_cells (each_at k.does all)

    abbrev pub far_units : List BlockUnit
    far_units = all_units (each_at k.does all)

    abbrev pub loose : List Region
    loose = in_any_order cells G (numbers all)

    module _ (s : Store) (begun : I s) where
      -- all so far lies in it, and what the list does not change is as it was
      pub record Loosely (es : List Event) (z : Store) : Type 0 where
        pub holds : FirstHolds k loose s es
        pub free : IsFree k locked es
        pub kept : Kept (scene k.base) cells far_units (numbers_of s) (numbers_of z)
        pub since : I z

      pub loosely_begin : Loosely [] s
      loosely_begin = record { holds = first_holds_none k loose s; free = free_none k locked [] no_writes_none; kept = record { cells = λ c r e. refl; foreign = λ u r e. refl }; since = begun }

      loosely_shown : (a : Answer Flow) (es : List Event) → FirstHolds k loose s es → IsFree k locked es → FirstShown k whole locked loose s a es
      loosely_shown a es h f = first_all k whole locked loose s a es h (λ r i e. clashes r.exact e (any_inexact cells G (numbers all) r i)) f

      abbrev Held : List Event → Type 0
      Held es = FirstHolds k loose s es × IsFree k locked es

      -- after a statement
      abbrev After : Answer Flow → Store → List Event → Type 0
      After (Gave Normal) z es = Loosely es z
      After (Gave (Jump l)) z es = Loosely es z
      After (Gave Returned) z es = Held es
      After (Gave Stopped) z es = Held es
      After (Broke b) z es = Held es

      abbrev pub Each_first : List Part → Type 0
      Each_first [] = Unit {0}
      Each_first (q ∷ qs) = ((z : Store) (es : List Event) → Loosely es z → Goes D q.does z (λ a y fs. After a y (es ++ fs))) × Each_first qs

      loose_after : (n : ℕ) (label : Option ℕ) (w : WhatTree) (rest : StmtTrees) → Suffix k.base D I all whole (tree.more_stmts (tree.stmt n label w) rest) → Taken all n w → KeepsAt k.base D I n → (goes : List ℕ → Bool) (ret own : Bool) (z : Store) (es : List Event) → Loosely es z → (a : Answer Flow) (y : Store) (fs : List Event) → FirstShown k false locked (what_in n w (known_in k acc called)) z a fs → OnGave D a y (Moved k.base D I n goes ret own still z) → After a y (es ++ fs)
      loose_after n label w rest x taken keeps goes ret own z es l a y fs h m = go a m
        where
          hold : FirstHolds k loose s (es ++ fs)
          hold = first_holds_then k loose s es fs l.holds (λ u i. any_units cells G (numbers all) (scene k.base) (elements_in k) (by_order k) AtIn n (x.inside n here) far_units (numbers_of s) (numbers_of z) l.kept u (subst (λ rs. LiesInSet (scene k.base) (elements_in k) AtIn rs (numbers_of z) u) (sym taken.firsts) (h.holds u i)))

          free : IsFree k locked (es ++ fs)
          free = free_both k locked es fs l.free h.free

          more : Kept (scene k.base) (k.does n).cells (k.does n).foreign (numbers_of z) (numbers_of y) → Loosely (es ++ fs) y
          more d =
              let e = kept_in (scene k.base) (k.does n) (each_at k.does all) (numbers_of z) (numbers_of y) (x.moves (k.does n) here) d in
              record { holds = hold; free = free; kept = record { cells = λ c r g. e.cells c r g ∙ l.kept.cells c r g; foreign = λ u r g. e.foreign u r g ∙ l.kept.foreign u r g }; since = keeps z y d l.since }

          go : (a : Answer Flow) → OnGave D a y (Moved k.base D I n goes ret own still z) → After a y (es ++ fs)
          go (Gave Normal) d = more d.does.kept
          go (Gave (Jump j)) d = more d.1.kept
          go (Gave Returned) d = (hold, free)
          go (Gave Stopped) d = (hold, free)
          go (Broke b) d = (hold, free)

      pub loose_first : (n : ℕ) (label : Option ℕ) (w : WhatTree) (rest : StmtTrees) → Suffix k.base D I all whole (tree.more_stmts (tree.stmt n label w) rest) → Taken all n w → KeepsAt k.base D I n → (own : Bool) (z : Store) (es : List Event) → Loosely es z → Goes D (statement_plan (tree.stmt n label w) k.sc k.at locked) z (λ a y fs. Both w n z a fs) → Ending (statement_plan (tree.stmt n label w) k.sc k.at locked) z (Moved k.base D I n (λ ls. stmt_leads (tree.stmt n label w) ls) (stmt_has is_return (tree.stmt n label w)) own still z) → Goes D (statement_plan (tree.stmt n label w) k.sc k.at locked) z (λ a y fs. After a y (es ++ fs))
      loose_first n label w rest x taken keeps own z es l h m =
          goes_more D (statement_plan (tree.stmt n label w) k.sc k.at locked) z (λ a y fs. Both w n z a fs × OnGave D a y (Moved k.base D I n (λ ls. stmt_leads (tree.stmt n label w) ls) (stmt_has is_return (tree.stmt n label w)) own still z)) (λ a y fs. After a y (es ++ fs))
          (λ a y fs p. loose_after n label w rest x taken keeps (λ ls. stmt_leads (tree.stmt n label w) ls) (stmt_has is_return (tree.stmt n label w)) own z es l a y fs p.0.firsts p.1)
          (goes_with D (statement_plan (tree.stmt n label w) k.sc k.at locked) z (λ a y fs. Both w n z a fs) (Moved k.base D I n (λ ls. stmt_leads (tree.stmt n label w) ls) (stmt_has is_return (tree.stmt n label w)) own still z) h m)

      each_from : (l : ℕ) (qs : List Part) → Each_first qs → Each_first (from_label l qs)
      each_from l [] h = tt
      each_from l (q ∷ qs) h = go (is_label l q.label) (each_from l qs h.1)
        where
          go : (b : Bool) → Each_first (from_label l qs) → Each_first (if b then q ∷ qs else from_label l qs)
          go true ih = h
          go false ih = ih

      row_loose : (jump : ℕ → Plan) → ((l : ℕ) (z : Store) (es : List Event) → Loosely es z → Goes D (jump l) z (λ a y fs. FirstShown k whole locked loose s a (es ++ fs))) → (qs : List Part) → Each_first qs → (z : Store) (es : List Event) → Loosely es z → Goes D (plan_in_order jump ps qs) z (λ a y fs. FirstShown k whole locked loose s a (es ++ fs))
      row_loose jump jumps [] h z es l = goes_ends D Normal z (λ a y fs. FirstShown k whole locked loose s a (es ++ fs)) (subst (λ ts. FirstShown k whole locked loose s (Gave Normal) ts) (sym (trace_nil es)) (loosely_shown (Gave Normal) es l.holds l.free))
      row_loose jump jumps (q ∷ qs) h z es l =
          goes_then D q.does (go_on jump ps (plan_in_order jump ps qs)) z (λ a y fs. After a y (es ++ fs)) (λ a y fs. FirstShown k whole locked loose s a (es ++ fs)) (h.0 z es l)
          (λ g y fs p. goes_more D (go_on jump ps (plan_in_order jump ps qs) g) y (λ a v gs. FirstShown k whole locked loose s a ((es ++ fs) ++ gs)) (λ a v gs. FirstShown k whole locked loose s a (es ++ (fs ++ gs))) (λ a v gs i. subst (λ ts. FirstShown k whole locked loose s a ts) (trace_assoc es fs gs) i) (next g y (es ++ fs) p (λ v ts i. row_loose jump jumps qs h.1 v ts i)))
          (λ b y fs p. loosely_shown (Broke b) (es ++ fs) p.0 p.1)
        where
          ended : (g : Flow) (y : Store) (ts : List Event) → FirstHolds k loose s ts → IsFree k locked ts → Goes D (Ends g) y (λ a v gs. FirstShown k whole locked loose s a (ts ++ gs))
          ended g y ts i f = goes_ends D g y (λ a v gs. FirstShown k whole locked loose s a (ts ++ gs)) (subst (λ us. FirstShown k whole locked loose s (Gave g) us) (sym (trace_nil ts)) (loosely_shown (Gave g) ts i f))

          next : (g : Flow) (y : Store) (ts : List Event) → After (Gave g) y ts → ((v : Store) (us : List Event) → Loosely us v → Goes D (plan_in_order jump ps qs) v (λ a x fs. FirstShown k whole locked loose s a (us ++ fs))) → Goes D (go_on jump ps (plan_in_order jump ps qs) g) y (λ a v gs. FirstShown k whole locked loose s a (ts ++ gs))
          next Normal y ts i ih = ih y ts i
          next (Jump j) y ts i ih = go (has_label j ps)
            where
              go : (b : Bool) → Goes D (if b then jump j else Ends (Jump j)) y (λ a v gs. FirstShown k whole locked loose s a (ts ++ gs))
              go true = jumps j y ts i
              go false = ended (Jump j) y ts i.holds i.free
          next Returned y ts i ih = ended Returned y ts i.0 i.1
          next Stopped y ts i ih = ended Stopped y ts i.0 i.1

      jumps_loose : Each_first ps → (n : ℕ) (qs : List Part) → Each_first qs → (z : Store) (es : List Event) → Loosely es z → Goes D (with_jumps n ps qs) z (λ a y fs. FirstShown k whole locked loose s a (es ++ fs))
      jumps_loose every zero qs h z es l = row_loose (λ j. Breaks OutOfTurns) (λ j y ts i. goes_breaks D OutOfTurns y (λ a v gs. FirstShown k whole locked loose s a (ts ++ gs)) (subst (λ us. FirstShown k whole locked loose s (Broke OutOfTurns) us) (sym (trace_nil ts)) (loosely_shown (Broke OutOfTurns) ts i.holds i.free))) qs h z es l
      jumps_loose every (suc n) qs h z es l = row_loose (λ j. with_jumps n ps (from_label j ps)) (λ j y ts i. jumps_loose every n (from_label j ps) (each_from j ps every) y ts i) qs h z es l

      pub any_first : Each_first ps → Goes D (list_plan k.sc.turns ps) s (λ a y fs. FirstShown k whole locked loose s a fs)
      any_first every = jumps_loose every k.sc.turns ps every s [] loosely_begin

    -- ---- a list of either kind

    pub list_first : (s : Store) (begun : I s) → (unstructured whole all ≡ false → (jump : ℕ → Plan) → Goes D (plan_in_order jump ps ps) s (λ a y fs. FirstShown k whole locked (ordered all) s a fs)) → Each_first s begun ps → Goes D (list_plan k.sc.turns ps) s (λ a y fs. FirstShown k whole locked (list_in k.m.symbols k.does (set_at acc) G whole all) s a fs)
    list_first s begun row every = go (unstructured whole all) refl
      where
        in_turns : (n : ℕ) → unstructured whole all ≡ false → Goes D (with_jumps n ps ps) s (λ a y fs. FirstShown k whole locked (ordered all) s a fs)
        in_turns zero e = row e (λ j. Breaks OutOfTurns)
        in_turns (suc n) e = row e (λ j. with_jumps n ps (from_label j ps))

        path : unstructured whole all ≡ true → (list_at k.does whole all).cells ≡ cells
        path e = ap (λ b. (if b then transformers.in_any_order (each_at k.does all) else transformers.in_order (each_at k.does all)).cells) e

        go : (b : Bool) → unstructured whole all ≡ b → Goes D (list_plan k.sc.turns ps) s (λ a y fs. FirstShown k whole locked (if b then in_any_order (list_at k.does whole all).cells G (numbers all) else ordered all) s a fs)
        go true e = subst (λ cs. Goes D (list_plan k.sc.turns ps) s (λ a y fs. FirstShown k whole locked (in_any_order cs G (numbers all)) s a fs)) (sym (path e)) (any_first s begun every)
        go false e = in_turns k.sc.turns e
