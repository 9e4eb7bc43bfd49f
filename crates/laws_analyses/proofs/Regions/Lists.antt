-- Lists of statements, from what their statements do.
use Rattle.std.proofs.Common.{◌≡◌, ℕ, zero, suc, List, [], ◌∷◌, ◌++◌, ◌&&◌, Option, Bool, true, false, refl, sym, ap, ◌∙◌, subst, true≢false}
use Rattle.std.specs.Prelude.{if◌then◌else◌}
use Rattle.std.proofs.lemmas.Bool.{or_left, or_right, or_parts}
use Rattle.f77_ast.specs.Trees.{StmtTree, WhatTree, StmtTrees}
use Rattle.f77_ast.specs.Trees as tree
use Rattle.f77_ast.specs.Store.{Store}
use Rattle.f77_ast.specs.Steps.{OutOfTurns}
use Rattle.f77_ast.specs.Runs.{Event, Answer, Gave, Broke}
use Rattle.f77_ast.specs.Writes.{Locks}
use Rattle.f77_ast.specs.Plans.{Flow, Normal, Jump, Returned, Stopped, Plan, Ends, Breaks}
use Rattle.f77_ast.specs.Executions.{Claim}
use Rattle.f77_ast.specs.Lists.{Part, is_label, has_label, from_label, go_on, in_order as plan_in_order, with_jumps, list_plan}
use Rattle.f77_ast.specs.Statements.{statement_plan, parts}
use Rattle.f77_ast.specs.declared.results.At.{At}
use Rattle.f77_ast.specs.declared.variable.Unit.{Unit as BlockUnit}
use Rattle.affine_forms.specs.Conditions.{no_rows}
use Rattle.affine_forms.specs.Claims.{numbers_of}
use Rattle.preconditions.specs.transformer_algebra.declared.transformer.Transformer.{Transformer}
use Rattle.preconditions.specs.transformer_algebra.Transformers.{all_cells, all_units}
use Rattle.preconditions.specs.transformer_algebra.Claims.{Kept, Does}
use Rattle.preconditions.specs.transformer_algebra.Laws.{In, here, there}
use Rattle.preconditions.proofs.TransformerAlgebra.RuleLaws.{kept_in}
use Rattle.preconditions.specs.transformers.Jumps.{stmt_has, list_has, labels, goes_to, is_end, returns_early, early_return, unstructured}
use Rattle.preconditions.specs.transformers.Lists.{each_at, list_at}
use Rattle.preconditions.specs.transformers.Lists as transformers
use Rattle.in_out_regions.specs.region_sets.declared.region.Access.{Access}
use Rattle.in_out_regions.specs.region_sets.declared.region.Access.TheVariants.{Read, Write, In as AtIn, Out}
use Rattle.in_out_regions.specs.region_sets.declared.region.Region.{Region}
use Rattle.in_out_regions.specs.region_sets.Lists.{is_access, accesses_at, all_composed, in_order, in_any_order, numbers, list_regions}
use Rattle.in_out_regions.specs.region_sets.Sets.{unite_all}
use Rattle.in_out_regions.proofs.RegionSets.StepLaws.{any_units, any_inexact}
use Rattle.in_out_regions.specs.array_regions.Statement.{what_set, at_stmt, at_list}
use Rattle.laws_analyses.specs.Statements.Good.{Ending}
use Rattle.laws_analyses.specs.Statements.Leads.{stmt_leads}
use Rattle.laws_analyses.specs.Statements.Activation.{Jumps, Ended}
use Rattle.laws_analyses.proofs.Statements.LeadLaws.{leads_has}
use Rattle.laws_analyses.proofs.Statements.NumberLaws.{ids}
use Rattle.laws_analyses.proofs.Statements.Rows.{labelled, returned_last}
use Rattle.laws_analyses.specs.Regions.Settings.{Setting, scene, elements_at}
use Rattle.laws_analyses.specs.Regions.Shown.{accessed, Holds, Sharp, Finally, Shown}
use Rattle.laws_analyses.proofs.Regions.Traces.{trace_assoc, trace_nil}
use Rattle.laws_analyses.proofs.Regions.Rules.{Post, Goes, OnGave, goes_ends, goes_breaks, goes_more, goes_with, goes_then}
use Rattle.laws_analyses.proofs.Regions.Told.{by_order}
use Rattle.laws_analyses.proofs.Regions.Holding.{set_moved, sharp_moved, holds_none, holds_left, holds_then, holds_both, holds_gathered, sharp_both, sharp_gathered}
use Rattle.laws_analyses.proofs.Regions.Showing.{finally_more}
use Rattle.laws_analyses.proofs.Regions.Standing.{Distinct}
use Rattle.laws_analyses.proofs.Regions.Numbering.{in_accesses, to_accesses, accesses_found}
use Rattle.fx_lists.proofs.Booleans.{clash as clashes}
use Rattle.f77_ast.specs.Shapes.{is_return}
use Rattle.preconditions.proofs.TransformerAlgebra.Members.{in_right}

-- I: what holds at each store of the module
module _ (k : Setting) (D : Claim) (I : Store → Type 0) where
  -- the set that a list takes for a statement is its own
  pub record Taken (rs set : List Region) : Type 0 where
    pub less : (r : Region) → In r rs → In r set
    pub keeps : (r : Region) → is_access r.kind ≡ true → In r set → In r rs

  taken_holds : (rs set : List Region) (s : Store) (es : List Event) → Taken rs set → Holds k set s es → Holds k rs s es
  taken_holds rs set s es t h a u i = (let l = h a u i in record { region = l.region; is_one = t.keeps l.region (ap is_access l.kind ∙ is_one a es u i.is_so) l.is_one; kind = l.kind; lies = l.lies })
    where
      is_one : (a : Access) (es : List Event) (u : ℕ) → accessed a es u ≡ true → is_access a ≡ true
      is_one Read es u i = refl
      is_one Write es u i = refl
      is_one AtIn es u i = absurd (true≢false (sym i))
      is_one Out es u i = absurd (true≢false (sym i))

  taken_sharp : (rs set : List Region) (s : Store) (es : List Event) → Taken rs set → Sharp k set s es → Sharp k rs s es
  taken_sharp rs set s es t h r i = h r (t.less r i)

  -- what holds at each store stays where a statement with a number ends
  abbrev pub KeepsAt : ℕ → Type 0
  KeepsAt n = (x y : Store) → Kept (scene k) (k.does n).cells (k.does n).foreign (numbers_of x) (numbers_of y) → I x → I y

  -- how a statement with a number ends
  abbrev pub Moved : ℕ → (List ℕ → Bool) → Bool → Bool → (ℕ → Bool) → Store → Flow → Store → Type 0
  Moved n goes ret own still s = Ended (scene k) (k.does n) no_rows goes ret own still s

  -- statements from one of a list on, among all of it
  pub record Suffix (all : StmtTrees) (whole : Bool) (ss : StmtTrees) : Type 0 where
    pub jumps : (ls : List ℕ) → list_has (goes_to ls) ss ≡ true → list_has (goes_to ls) all ≡ true
    pub found : (a : At (List Region)) → In a (at_list ss k.m k.does k.calls) → In a (at_list all k.m k.does k.calls)
    pub inside : (n : ℕ) → In n (numbers ss) → In n (numbers all)
    pub moves : (t : Transformer) → In t (each_at k.does ss) → In t (each_at k.does all)
    pub early : early_return all ≡ false → early_return ss ≡ false

  pub suffix_all : (all : StmtTrees) (whole : Bool) → Suffix all whole all
  suffix_all all whole = record { jumps = λ ls h. h; found = λ a i. i; inside = λ n i. i; moves = λ t i. i; early = λ e. e }

  pub suffix_next : (all : StmtTrees) (whole : Bool) (s : StmtTree) (rest : StmtTrees) → Suffix all whole (tree.more_stmts s rest) → Suffix all whole rest
  suffix_next all whole s rest x = record {
    jumps = λ ls h. x.jumps ls (or_right (stmt_has (goes_to ls) s) (list_has (goes_to ls) rest) h);
    found = λ a i. x.found a (in_right a (at_stmt s k.m k.does k.calls) (at_list rest k.m k.does k.calls) i);
    inside = λ n i. x.inside n (there i);
    moves = λ t i. x.moves t (there i);
    early = λ e. (or_parts (returns_early (is_end rest) s) (early_return rest) (x.early e)).1;
  }

  module _ (all : StmtTrees) (whole : Bool) (locked : Locks) (still : ℕ → Bool) (distinct : Distinct (ids (at_list all k.m k.does k.calls))) where
    abbrev pub F : ℕ → List Region
    F n = accesses_at (at_list all k.m k.does k.calls) n

    abbrev pub ps : List Part
    ps = parts all k.sc k.at locked

    pub taken_at : (n : ℕ) (label : Option ℕ) (w : WhatTree) (rest : StmtTrees) → Suffix all whole (tree.more_stmts (tree.stmt n label w) rest) → Taken (F n) (what_set w k.m k.does k.calls)
    taken_at n label w rest x =
        let e = accesses_found (at_list all k.m k.does k.calls) distinct n (what_set w k.m k.does k.calls) (x.found (record { id = n; value = what_set w k.m k.does k.calls }) here) in
        record {
          less = λ r i. in_accesses (what_set w k.m k.does k.calls) r (subst (In r) e i);
          keeps = λ r a i. subst (In r) (sym e) (to_accesses (what_set w k.m k.does k.calls) r a i);
        }

    -- ---- in order

    module _ (n : ℕ) (label : Option ℕ) (w : WhatTree) (rest : StmtTrees) (straight : unstructured whole all ≡ false) (x : Suffix all whole (tree.more_stmts (tree.stmt n label w) rest)) where
      abbrev now : StmtTree
      now = tree.stmt n label w

      abbrev set : List Region
      set = what_set w k.m k.does k.calls

      abbrev later : List Region
      later = in_order k.does F (numbers rest)

      abbrev row : List Region
      row = unite_all (F n ++ all_composed (k.does n) later)

      t : Taken (F n) (what_set w k.m k.does k.calls)
      t = taken_at n label w rest x

      first_holds : (s : Store) (es : List Event) → Holds k set s es → Holds k row s es
      first_holds s es h = holds_gathered k (F n ++ all_composed (k.does n) later) s es (holds_left k (F n) (all_composed (k.does n) later) s es (taken_holds (F n) set s es t h))

      moved_holds : (s z : Store) (fs : List Event) → Does (scene k) (k.does n) (numbers_of s) (numbers_of z) → Holds k later z fs → Holds k (all_composed (k.does n) later) s fs
      moved_holds s z fs d h a u i = set_moved (scene k) (elements_at k) a (numbers_of s) u (k.does n) later (numbers_of z) d (h a u i)

      both_shown : (s z : Store) (a : Answer Flow) (es fs : List Event) → Does (scene k) (k.does n) (numbers_of s) (numbers_of z) → Holds k set s es → Sharp k set s es → Shown k whole later z a fs → Shown k whole row s a (es ++ fs)
      both_shown s z a es fs d h g l = record {
        holds = holds_gathered k (F n ++ all_composed (k.does n) later) s (es ++ fs) (holds_both k (F n) (all_composed (k.does n) later) s es fs (taken_holds (F n) set s es t h) (moved_holds s z fs d l.holds));
        sharp = finally_more whole a (Sharp k later z fs) (Sharp k row s (es ++ fs)) (λ i. sharp_gathered k (F n ++ all_composed (k.does n) later) s (es ++ fs) (sharp_both k (F n) (all_composed (k.does n) later) s es fs (taken_sharp (F n) set s es t g) (sharp_moved (scene k) (elements_at k) (numbers_of s) (k.does n) later (numbers_of z) (λ b. accessed b fs) d i))) l.sharp;
      }

      two : whole ≡ true → (list_has (goes_to (labels all)) all ≡ false) × (early_return all ≡ false)
      two e = let o = or_parts (list_has (goes_to (labels all)) all) (whole && early_return all) straight in (o.0, ap (λ b. b && early_return all) (sym e) ∙ o.1)

      no_goto : list_has (goes_to (labels all)) all ≡ false
      no_goto = (or_parts (list_has (goes_to (labels all)) all) (whole && early_return all) straight).0

      -- no jump leads to a label of the list
      no_label : (l : ℕ) → Jumps (λ ls. stmt_leads now ls) l → has_label l ps ≡ false
      no_label l j = go (has_label l ps) refl
        where
          go : (b : Bool) → has_label l ps ≡ b → b ≡ false
          go false e = refl
          go true e = clashes (list_has (goes_to (labels all)) all) (x.jumps (labels all) (or_left (stmt_has (goes_to (labels all)) now) (list_has (goes_to (labels all)) rest) (leads_has now (labels all) (labels all) (λ m q. q) (j (labels all) (sym (labelled l all k.sc k.at locked) ∙ e))))) no_goto

      -- after a RETURN that ends the module nothing comes, and it accesses nothing
      none_later : (ss : StmtTrees) → is_end ss ≡ true → in_order k.does F (numbers ss) ≡ []
      none_later tree.no_stmts e = refl
      none_later (tree.more_stmts s ss) e = absurd (true≢false (sym e))

      return_set : (v : WhatTree) → is_return v ≡ true → what_set v k.m k.does k.calls ≡ []
      return_set (tree.assign a b) e = absurd (true≢false (sym e))
      return_set (tree.block_if arms other) e = absurd (true≢false (sym e))
      return_set (tree.logical_if f s) e = absurd (true≢false (sym e))
      return_set (tree.do_loop l) e = absurd (true≢false (sym e))
      return_set (tree.call y es) e = absurd (true≢false (sym e))
      return_set (tree.goto l) e = absurd (true≢false (sym e))
      return_set tree.continue e = absurd (true≢false (sym e))
      return_set tree.return e = refl
      return_set (tree.stop text) e = absurd (true≢false (sym e))
      return_set (tree.print es) e = absurd (true≢false (sym e))
      return_set (tree.read es) e = absurd (true≢false (sym e))

      return_sharp : (s : Store) (es : List Event) → stmt_has is_return now ≡ true → whole ≡ true → Sharp k row s es
      return_sharp s es h e =
          let o = returned_last w rest (or_parts (returns_early (is_end rest) now) (early_return rest) (x.early (two e).1)).0 h in
          sharp_gathered k (F n ++ all_composed (k.does n) later) s es
          (sharp_both' (taken_sharp (F n) set s es t (subst (λ rs. Sharp k rs s es) (sym (return_set w o.0)) (λ r i. elim i [ ])))
          (subst (λ rs. Sharp k (all_composed (k.does n) rs) s es) (sym (none_later rest o.1)) (λ r i. elim i [ ])))
        where
          sharp_both' : Sharp k (F n) s es → Sharp k (all_composed (k.does n) later) s es → Sharp k (F n ++ all_composed (k.does n) later) s es
          sharp_both' a b = subst (λ ts. Sharp k (F n ++ all_composed (k.does n) later) s ts) (trace_nil es) (sharp_both k (F n) (all_composed (k.does n) later) s es [] a (no_trace b))
            where
              no_trace : Sharp k (all_composed (k.does n) later) s es → Sharp k (all_composed (k.does n) later) s []
              no_trace c = subst (λ rs. Sharp k (all_composed (k.does n) rs) s []) (sym (none_later rest (returned_last w rest (or_parts (returns_early (is_end rest) now) (early_return rest) (x.early (two e).1)).0 h).1)) (λ r i. elim i [ ])

      module _ (jump : ℕ → Plan) (s : Store) (own : Bool) (keeps : KeepsAt n) (since : I s) where
        abbrev P : Post Flow
        P a z es = Shown k false set s a es × OnGave D a z (Moved n (λ ls. stmt_leads now ls) (stmt_has is_return now) own still s)

        abbrev Q : Post Flow
        Q a z es = Shown k whole row s a es

        abbrev on : Flow → Plan
        on = go_on jump ps (plan_in_order jump ps (parts rest k.sc k.at locked))

        next : ((z : Store) → I z → Goes D (plan_in_order jump ps (parts rest k.sc k.at locked)) z (λ a y fs. Shown k whole later z a fs)) → (g : Flow) (z : Store) (es : List Event) → P (Gave g) z es → Goes D (on g) z (λ a y fs. Shown k whole row s a (es ++ fs))
        next ih Normal z es p = goes_more D (plan_in_order jump ps (parts rest k.sc k.at locked)) z (λ a y fs. Shown k whole later z a fs) (λ a y fs. Shown k whole row s a (es ++ fs)) (λ a y fs l. both_shown s z a es fs p.1.does p.0.holds p.0.sharp l) (ih z (keeps s z p.1.does.kept since))
        next ih (Jump l) z es p =
            subst (λ b. Goes D (if b then jump l else Ends (Jump l)) z (λ a y fs. Shown k whole row s a (es ++ fs))) (sym (no_label l p.1.0))
            (goes_ends D (Jump l) z (λ a y fs. Shown k whole row s a (es ++ fs)) (subst (λ ts. Shown k whole row s (Gave (Jump l)) ts) (sym (trace_nil es)) (record { holds = first_holds s es p.0.holds; sharp = tt })))
        next ih Returned z es p = goes_ends D Returned z (λ a y fs. Shown k whole row s a (es ++ fs)) (subst (λ ts. Shown k whole row s (Gave Returned) ts) (sym (trace_nil es)) (record { holds = first_holds s es p.0.holds; sharp = λ e. return_sharp s es p.1.0 e }))
        next ih Stopped z es p = goes_ends D Stopped z (λ a y fs. Shown k whole row s a (es ++ fs)) (subst (λ ts. Shown k whole row s (Gave Stopped) ts) (sym (trace_nil es)) (record { holds = first_holds s es p.0.holds; sharp = tt }))

        pub row_goes : Goes D (statement_plan now k.sc k.at locked) s (λ a z es. Shown k false set s a es) → Ending (statement_plan now k.sc k.at locked) s (Moved n (λ ls. stmt_leads now ls) (stmt_has is_return now) own still s) → ((z : Store) → I z → Goes D (plan_in_order jump ps (parts rest k.sc k.at locked)) z (λ a y fs. Shown k whole later z a fs)) → Goes D (plan_in_order jump ps (parts (tree.more_stmts now rest) k.sc k.at locked)) s (λ a z es. Shown k whole row s a es)
        row_goes h m ih =
            goes_then D (statement_plan now k.sc k.at locked) on s P Q
            (goes_with D (statement_plan now k.sc k.at locked) s (λ a z es. Shown k false set s a es) (Moved n (λ ls. stmt_leads now ls) (stmt_has is_return now) own still s) h m)
            (λ g z es p. next ih g z es p)
            (λ b z es p. record { holds = first_holds s es p.0.holds; sharp = tt })

    -- ---- in any order

    abbrev pub cells : List ℕ
    cells = all_cells (each_at k.does all)

    abbrev pub units : List BlockUnit
    units = all_units (each_at k.does all)

    abbrev pub loose : List Region
    loose = in_any_order cells F (numbers all)

    module _ (s : Store) (begun : I s) where
      -- all so far lies in it, and what the list does not change is as it was
      pub record Loosely (es : List Event) (z : Store) : Type 0 where
        pub holds : Holds k loose s es
        pub kept : Kept (scene k) cells units (numbers_of s) (numbers_of z)
        pub since : I z

      pub loosely_begin : Loosely [] s
      loosely_begin = record { holds = holds_none k loose s; kept = record { cells = λ c r e. refl; foreign = λ u r e. refl }; since = begun }

      loose_sharp : (es : List Event) → Sharp k loose s es
      loose_sharp es r i e = clashes r.exact e (any_inexact cells F (numbers all) r i)

      loosely_shown : (a : Answer Flow) (es : List Event) → Holds k loose s es → Shown k whole loose s a es
      loosely_shown a es h = record { holds = h; sharp = go a }
        where
          go : (a : Answer Flow) → Finally whole a (Sharp k loose s es)
          go (Gave Normal) = loose_sharp es
          go (Gave (Jump l)) = tt
          go (Gave Returned) = λ e. loose_sharp es
          go (Gave Stopped) = tt
          go (Broke b) = tt

      abbrev LQ : Post Flow
      LQ a z es = Shown k whole loose s a es

      -- after a statement
      abbrev After : Answer Flow → Store → List Event → Type 0
      After (Gave Normal) z es = Loosely es z
      After (Gave (Jump l)) z es = Loosely es z
      After (Gave Returned) z es = Holds k loose s es
      After (Gave Stopped) z es = Holds k loose s es
      After (Broke b) z es = Holds k loose s es

      abbrev pub Each_goes : List Part → Type 0
      Each_goes [] = Unit {0}
      Each_goes (q ∷ qs) = ((z : Store) (es : List Event) → Loosely es z → Goes D q.does z (λ a y fs. After a y (es ++ fs))) × Each_goes qs

      loose_after : (n : ℕ) (label : Option ℕ) (w : WhatTree) (rest : StmtTrees) → Suffix all whole (tree.more_stmts (tree.stmt n label w) rest) → KeepsAt n → (goes : List ℕ → Bool) (ret own : Bool) (z : Store) (es : List Event) → Loosely es z → (a : Answer Flow) (y : Store) (fs : List Event) → Shown k false (what_set w k.m k.does k.calls) z a fs → OnGave D a y (Moved n goes ret own still z) → After a y (es ++ fs)
      loose_after n label w rest x keeps goes ret own z es l a y fs h m = go a m
        where
          hold : Holds k loose s (es ++ fs)
          hold = holds_then k loose s es fs l.holds (λ b u i. any_units cells F (numbers all) (scene k) (elements_at k) (by_order k) b n (x.inside n here) units (numbers_of s) (numbers_of z) l.kept u (taken_holds (F n) (what_set w k.m k.does k.calls) z fs (taken_at n label w rest x) h.holds b u i))

          more : Kept (scene k) (k.does n).cells (k.does n).foreign (numbers_of z) (numbers_of y) → Loosely (es ++ fs) y
          more d =
              let e = kept_in (scene k) (k.does n) (each_at k.does all) (numbers_of z) (numbers_of y) (x.moves (k.does n) here) d in
              record { holds = hold; kept = record { cells = λ c r g. e.cells c r g ∙ l.kept.cells c r g; foreign = λ u r g. e.foreign u r g ∙ l.kept.foreign u r g }; since = keeps z y d l.since }

          go : (a : Answer Flow) → OnGave D a y (Moved n goes ret own still z) → After a y (es ++ fs)
          go (Gave Normal) d = more d.does.kept
          go (Gave (Jump j)) d = more d.1.kept
          go (Gave Returned) d = hold
          go (Gave Stopped) d = hold
          go (Broke b) d = hold

      pub loose_goes : (n : ℕ) (label : Option ℕ) (w : WhatTree) (rest : StmtTrees) → Suffix all whole (tree.more_stmts (tree.stmt n label w) rest) → KeepsAt n → (own : Bool) (z : Store) (es : List Event) → Loosely es z → Goes D (statement_plan (tree.stmt n label w) k.sc k.at locked) z (λ a y fs. Shown k false (what_set w k.m k.does k.calls) z a fs) → Ending (statement_plan (tree.stmt n label w) k.sc k.at locked) z (Moved n (λ ls. stmt_leads (tree.stmt n label w) ls) (stmt_has is_return (tree.stmt n label w)) own still z) → Goes D (statement_plan (tree.stmt n label w) k.sc k.at locked) z (λ a y fs. After a y (es ++ fs))
      loose_goes n label w rest x keeps own z es l h m =
          let M = Moved n (λ ls. stmt_leads (tree.stmt n label w) ls) (stmt_has is_return (tree.stmt n label w)) own still z in
          goes_more D (statement_plan (tree.stmt n label w) k.sc k.at locked) z (λ a y fs. Shown k false (what_set w k.m k.does k.calls) z a fs × OnGave D a y (Moved n (λ ls. stmt_leads (tree.stmt n label w) ls) (stmt_has is_return (tree.stmt n label w)) own still z)) (λ a y fs. After a y (es ++ fs))
          (λ a y fs p. loose_after n label w rest x keeps (λ ls. stmt_leads (tree.stmt n label w) ls) (stmt_has is_return (tree.stmt n label w)) own z es l a y fs p.0 p.1)
          (goes_with D (statement_plan (tree.stmt n label w) k.sc k.at locked) z (λ a y fs. Shown k false (what_set w k.m k.does k.calls) z a fs) (Moved n (λ ls. stmt_leads (tree.stmt n label w) ls) (stmt_has is_return (tree.stmt n label w)) own still z) h m)

      each_from : (l : ℕ) (qs : List Part) → Each_goes qs → Each_goes (from_label l qs)
      each_from l [] h = tt
      each_from l (q ∷ qs) h = go (is_label l q.label) (each_from l qs h.1)
        where
          go : (b : Bool) → Each_goes (from_label l qs) → Each_goes (if b then q ∷ qs else from_label l qs)
          go true ih = h
          go false ih = ih

      row_loose : (jump : ℕ → Plan) → ((l : ℕ) (z : Store) (es : List Event) → Loosely es z → Goes D (jump l) z (λ a y fs. Shown k whole loose s a (es ++ fs))) → (qs : List Part) → Each_goes qs → (z : Store) (es : List Event) → Loosely es z → Goes D (plan_in_order jump ps qs) z (λ a y fs. Shown k whole loose s a (es ++ fs))
      row_loose jump jumps [] h z es l = goes_ends D Normal z (λ a y fs. Shown k whole loose s a (es ++ fs)) (subst (λ ts. Shown k whole loose s (Gave Normal) ts) (sym (trace_nil es)) (loosely_shown (Gave Normal) es l.holds))
      row_loose jump jumps (q ∷ qs) h z es l =
          goes_then D q.does (go_on jump ps (plan_in_order jump ps qs)) z (λ a y fs. After a y (es ++ fs)) (λ a y fs. Shown k whole loose s a (es ++ fs)) (h.0 z es l)
          (λ g y fs p. goes_more D (go_on jump ps (plan_in_order jump ps qs) g) y (λ a v gs. Shown k whole loose s a ((es ++ fs) ++ gs)) (λ a v gs. Shown k whole loose s a (es ++ (fs ++ gs))) (λ a v gs i. subst (λ ts. Shown k whole loose s a ts) (trace_assoc es fs gs) i) (next g y (es ++ fs) p (λ v ts i. row_loose jump jumps qs h.1 v ts i)))
          (λ b y fs p. loosely_shown (Broke b) (es ++ fs) p)
        where
          ended : (g : Flow) (y : Store) (ts : List Event) → Holds k loose s ts → Goes D (Ends g) y (λ a v gs. Shown k whole loose s a (ts ++ gs))
          ended g y ts i = goes_ends D g y (λ a v gs. Shown k whole loose s a (ts ++ gs)) (subst (λ us. Shown k whole loose s (Gave g) us) (sym (trace_nil ts)) (loosely_shown (Gave g) ts i))

          next : (g : Flow) (y : Store) (ts : List Event) → After (Gave g) y ts → ((v : Store) (us : List Event) → Loosely us v → Goes D (plan_in_order jump ps qs) v (λ a x fs. Shown k whole loose s a (us ++ fs))) → Goes D (go_on jump ps (plan_in_order jump ps qs) g) y (λ a v gs. Shown k whole loose s a (ts ++ gs))
          next Normal y ts i ih = ih y ts i
          next (Jump j) y ts i ih = go (has_label j ps)
            where
              go : (b : Bool) → Goes D (if b then jump j else Ends (Jump j)) y (λ a v gs. Shown k whole loose s a (ts ++ gs))
              go true = jumps j y ts i
              go false = ended (Jump j) y ts i.holds
          next Returned y ts i ih = ended Returned y ts i
          next Stopped y ts i ih = ended Stopped y ts i

      jumps_loose : Each_goes ps → (n : ℕ) (qs : List Part) → Each_goes qs → (z : Store) (es : List Event) → Loosely es z → Goes D (with_jumps n ps qs) z (λ a y fs. Shown k whole loose s a (es ++ fs))
      jumps_loose every zero qs h z es l = row_loose (λ j. Breaks OutOfTurns) (λ j y ts i. goes_breaks D OutOfTurns y (λ a v gs. Shown k whole loose s a (ts ++ gs)) (subst (λ us. Shown k whole loose s (Broke OutOfTurns) us) (sym (trace_nil ts)) (loosely_shown (Broke OutOfTurns) ts i.holds))) qs h z es l
      jumps_loose every (suc n) qs h z es l = row_loose (λ j. with_jumps n ps (from_label j ps)) (λ j y ts i. jumps_loose every n (from_label j ps) (each_from j ps every) y ts i) qs h z es l

      pub any_goes : Each_goes ps → Goes D (list_plan k.sc.turns ps) s (λ a y fs. Shown k whole loose s a fs)
      any_goes every = jumps_loose every k.sc.turns ps every s [] loosely_begin

    -- ---- a list of either kind

    pub list_goes : (s : Store) (begun : I s) → (unstructured whole all ≡ false → (jump : ℕ → Plan) → Goes D (plan_in_order jump ps ps) s (λ a y fs. Shown k whole (in_order k.does F (numbers all)) s a fs)) → Each_goes s begun ps → Goes D (list_plan k.sc.turns ps) s (λ a y fs. Shown k whole (list_regions k.does F whole all) s a fs)
    list_goes s begun row every = go (unstructured whole all) refl
      where
        in_turns : (n : ℕ) → unstructured whole all ≡ false → Goes D (with_jumps n ps ps) s (λ a y fs. Shown k whole (in_order k.does F (numbers all)) s a fs)
        in_turns zero e = row e (λ j. Breaks OutOfTurns)
        in_turns (suc n) e = row e (λ j. with_jumps n ps (from_label j ps))

        path : unstructured whole all ≡ true → (list_at k.does whole all).cells ≡ cells
        path e = ap (λ b. (if b then transformers.in_any_order (each_at k.does all) else transformers.in_order (each_at k.does all)).cells) e

        go : (b : Bool) → unstructured whole all ≡ b → Goes D (list_plan k.sc.turns ps) s (λ a y fs. Shown k whole (if b then in_any_order (list_at k.does whole all).cells F (numbers all) else in_order k.does F (numbers all)) s a fs)
        go true e = subst (λ cs. Goes D (list_plan k.sc.turns ps) s (λ a y fs. Shown k whole (in_any_order cs F (numbers all)) s a fs)) (sym (path e)) (any_goes s begun every)
        go false e = in_turns k.sc.turns e
