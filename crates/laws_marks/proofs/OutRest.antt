-- What comes after a statement in its list, which is executed in its order: what it reads first, and what it writes.
use Rattle.std.proofs.Common.{◌≡◌, ⊎_elim, ℕ, List, [], ◌∷◌, ◌++◌, ◌&&◌, Option, Bool, true, false, refl, sym, ap, ◌∙◌, subst, true≢false, nat_eq}
use Rattle.std.specs.Prelude.{if◌then◌else◌}
use Rattle.std.proofs.lemmas.Bool.{or_left, or_right, or_parts}
use Rattle.f77_ast.specs.Trees.{StmtTree, WhatTree, StmtTrees}
use Rattle.f77_ast.specs.Trees as tree
use Rattle.f77_ast.specs.Store.{Store}
use Rattle.f77_ast.specs.Steps.{Break}
use Rattle.f77_ast.specs.Runs.{Event, Answer, Gave, Broke}
use Rattle.f77_ast.specs.Writes.{Locks}
use Rattle.f77_ast.specs.Plans.{Flow, Normal, Jump, Returned, Stopped, Plan, Ends}
use Rattle.f77_ast.specs.Executions.{Claim}
use Rattle.f77_ast.specs.Lists.{Part, has_label, go_on, in_order as plan_in_order}
use Rattle.f77_ast.specs.Statements.{statement_plan, parts}
use Rattle.f77_ast.specs.declared.results.At.{At}
use Rattle.f77_meaning.specs.Accesses.{is_written}
use Rattle.affine_forms.specs.Claims.{numbers_of}
use Rattle.preconditions.specs.transformer_algebra.Claims.{Does}
use Rattle.preconditions.specs.transformers.Jumps.{stmt_has, list_has, labels, goes_to, is_end, returns_early, early_return, unstructured}
use Rattle.preconditions.specs.transformers.Lists.{number_of}
use Rattle.in_out_regions.specs.region_sets.declared.region.Access.TheVariants.{Write, In as AtIn}
use Rattle.in_out_regions.specs.region_sets.declared.region.Region.{Region}
use Rattle.in_out_regions.specs.region_sets.Sets.{unite_all}
use Rattle.in_out_regions.specs.region_sets.Lists.{all_composed, in_order, numbers, set_at}
use Rattle.in_out_regions.specs.region_sets.Claims.{LiesInSet, IsSharp, IsSharpSet}
use Rattle.in_out_regions.proofs.RegionSets.SetLaws.{gathered_units, gathered_sharp}
use Rattle.in_out_regions.specs.Lists.{ins_in_order}
use Rattle.loop_marker.specs.out_regions.Lists.{writes}
use Rattle.laws_analyses.specs.Statements.Leads.{stmt_leads, each_leads}
use Rattle.laws_analyses.specs.Statements.Activation.{Jumps}
use Rattle.laws_analyses.proofs.Statements.LeadLaws.{leads_has}
use Rattle.laws_analyses.proofs.Statements.Rows.{labelled, returned_last}
use Rattle.laws_analyses.specs.Regions.Settings.{scene}
use Rattle.laws_analyses.specs.Regions.Shown.{accessed, Touches, Holds, Sharp, Finally, Shown}
use Rattle.laws_analyses.proofs.Regions.Traces.{accessed_left, accessed_right, accessed_none, touches_cases, trace_nil}
use Rattle.laws_analyses.proofs.Regions.Rules.{Goes, OnGave, goes_ends, goes_more, goes_then}
use Rattle.laws_analyses.proofs.Regions.Holding.{set_left, set_right, set_moved, sharp_append, sharp_more, sharp_moved}
use Rattle.laws_analyses.proofs.Regions.Showing.{finally_more}
use Rattle.laws_analyses.proofs.Regions.Lists.{KeepsAt, Moved, Suffix, suffix_next}
use Rattle.laws_marks.specs.InFrames.{Frame, elements_in}
use Rattle.laws_marks.specs.InShown.{FirstHolds, IsFree, FirstShown}
use Rattle.laws_marks.specs.InUnits.{SetFits}
use Rattle.laws_marks.proofs.InFramed.{by_order, sharp_in, set_in}
use Rattle.laws_marks.proofs.InFirsts.{first_cases}
use Rattle.laws_marks.proofs.InRests.{before_lies, after_lies}
use Rattle.laws_marks.proofs.InLists.{are_written}
use Rattle.laws_marks.proofs.InTaking.{no_writes_none, free_none, free_both, first_holds_none}
use Rattle.laws_marks.proofs.OutUsed.{write_in, of_writes}
use Rattle.fx_lists.proofs.Numbers.{nat_eq_same}
use Rattle.fx_lists.proofs.Booleans.{clash as clashes}
use Rattle.f77_ast.specs.Shapes.{is_return}

-- ---- what is written

module _ (k : Frame) (acc : List (At (List Region))) (fits : (n : ℕ) → SetFits k (set_at acc n)) where
  abbrev pub own_writes : ℕ → List Region
  own_writes n = writes (set_at acc n)

  abbrev pub all_writes : List ℕ → List Region
  all_writes ns = in_order k.does own_writes ns

  -- it lies in the WRITE regions, and at a normal end exact ones are written in full
  pub record Written (whole : Bool) (ns : List ℕ) (s : Store) (a : Answer Flow) (es : List Event) : Type 0 where
    pub holds : (u : ℕ) → Touches k.ks k.g Write es u → LiesInSet (scene k.base) (elements_in k) Write (all_writes ns) (numbers_of s) u
    pub sharp : Finally whole a (IsSharpSet (scene k.base) (elements_in k) (all_writes ns) (numbers_of s) (λ b. accessed b es))

  written_here : (n : ℕ) (ns : List ℕ) (s : Store) (es : List Event) → Holds k.base (set_at acc n) s es → (u : ℕ) → Touches k.ks k.g Write es u → LiesInSet (scene k.base) (elements_in k) Write (all_writes (n ∷ ns)) (numbers_of s) u
  written_here n ns s es h u t =
      let l = set_in k Write (set_at acc n) (numbers_of s) u (fits n).named (h Write u t) in
      gathered_units (own_writes n ++ all_composed (k.does n) (all_writes ns)) (scene k.base) (elements_in k) (by_order k) Write (numbers_of s) u
      (set_left (scene k.base) (elements_in k) Write (numbers_of s) u (own_writes n) (all_composed (k.does n) (all_writes ns))
      (record { region = l.region; is_one = write_in (set_at acc n) l.region l.is_one l.kind; kind = l.kind; lies = l.lies }))

  written_then : (n : ℕ) (ns : List ℕ) (s z : Store) (es : List Event) → Does (scene k.base) (k.does n) (numbers_of s) (numbers_of z) → (u : ℕ) → LiesInSet (scene k.base) (elements_in k) Write (all_writes ns) (numbers_of z) u → LiesInSet (scene k.base) (elements_in k) Write (all_writes (n ∷ ns)) (numbers_of s) u
  written_then n ns s z es d u l =
      gathered_units (own_writes n ++ all_composed (k.does n) (all_writes ns)) (scene k.base) (elements_in k) (by_order k) Write (numbers_of s) u
      (set_right (scene k.base) (elements_in k) Write (numbers_of s) u (own_writes n) (all_composed (k.does n) (all_writes ns)) (set_moved (scene k.base) (elements_in k) Write (numbers_of s) u (k.does n) (all_writes ns) (numbers_of z) d l))

  written_sharp : (n : ℕ) (s : Store) (es : List Event) → Sharp k.base (set_at acc n) s es → IsSharpSet (scene k.base) (elements_in k) (own_writes n) (numbers_of s) (λ b. accessed b es)
  written_sharp n s es h r i = of_writes (λ (w : Region). IsSharp (scene k.base) (elements_in k w.variable) w (numbers_of s) (accessed w.kind es)) (set_at acc n) (λ w j e. sharp_in k w (numbers_of s) (accessed w.kind es) ((fits n).named w j) (h w j)) r i

  -- a statement, and then those behind it
  pub written_both : (whole : Bool) (n : ℕ) (ns : List ℕ) (s z : Store) (a : Answer Flow) (es fs : List Event) → Does (scene k.base) (k.does n) (numbers_of s) (numbers_of z) → Holds k.base (set_at acc n) s es → Sharp k.base (set_at acc n) s es → Written whole ns z a fs → Written whole (n ∷ ns) s a (es ++ fs)
  written_both whole n ns s z a es fs d h g l = record {
    holds = λ u t. ⊎_elim (λ i. written_here n ns s es h u i) (λ i. written_then n ns s z es d u (l.holds u i)) (touches_cases k.ks k.g Write es fs u t);
    sharp = finally_more whole a (IsSharpSet (scene k.base) (elements_in k) (all_writes ns) (numbers_of z) (λ b. accessed b fs)) (IsSharpSet (scene k.base) (elements_in k) (all_writes (n ∷ ns)) (numbers_of s) (λ b. accessed b (es ++ fs)))
        (λ i. gathered_sharp (own_writes n ++ all_composed (k.does n) (all_writes ns)) (scene k.base) (elements_in k) (by_order k) (numbers_of s) (λ b. accessed b (es ++ fs))
        (sharp_append (scene k.base) (elements_in k) (numbers_of s) (own_writes n) (all_composed (k.does n) (all_writes ns)) (λ b. accessed b (es ++ fs))
        (sharp_more (scene k.base) (elements_in k) (numbers_of s) (own_writes n) (λ b. accessed b es) (λ b. accessed b (es ++ fs)) (λ b u q. accessed_left b es fs u q) (written_sharp n s es g))
        (sharp_more (scene k.base) (elements_in k) (numbers_of s) (all_composed (k.does n) (all_writes ns)) (λ b. accessed b fs) (λ b. accessed b (es ++ fs)) (λ b u q. accessed_right b es fs u q) (sharp_moved (scene k.base) (elements_in k) (numbers_of s) (k.does n) (all_writes ns) (numbers_of z) (λ b. accessed b fs) d i))))
        l.sharp;
  }

  -- a statement after which nothing comes
  pub written_first : (whole : Bool) (n : ℕ) (ns : List ℕ) (s : Store) (a : Answer Flow) (es : List Event) → Holds k.base (set_at acc n) s es → Finally whole a (IsSharpSet (scene k.base) (elements_in k) (all_writes (n ∷ ns)) (numbers_of s) (λ b. accessed b es)) → Written whole (n ∷ ns) s a es
  written_first whole n ns s a es h g = record { holds = λ u t. written_here n ns s es h u t; sharp = g }

  pub written_none : (whole : Bool) (s : Store) (a : Answer Flow) → Written whole [] s a []
  written_none whole s a = record { holds = λ u t. absurd (accessed_none Write u t.is_so); sharp = go a }
    where
      go : (a : Answer Flow) → Finally whole a (IsSharpSet (scene k.base) (elements_in k) [] (numbers_of s) (λ b. accessed b []))
      go (Gave Normal) = λ r i. elim i [ ]
      go (Gave (Jump l)) = tt
      go (Gave Returned) = λ e r i. elim i [ ]
      go (Gave Stopped) = tt
      go (Broke b) = tt

-- ---- a list from a statement on

-- how it ends: by a GO TO that leads out of a statement, by a RETURN in one
abbrev pub LeadsSo : StmtTrees → Answer Flow → Type 0
LeadsSo ss (Gave Normal) = Unit {0}
LeadsSo ss (Gave (Jump l)) = each_leads ss (l ∷ []) ≡ true
LeadsSo ss (Gave Returned) = list_has is_return ss ≡ true
LeadsSo ss (Gave Stopped) = Unit {0}
LeadsSo ss (Broke b) = Unit {0}

module _ (k : Frame) (D : Claim) (I : Store → Type 0) (acc ins : List (At (List Region))) (fits : (n : ℕ) → SetFits k (set_at acc n)) (locked : Locks) (still : ℕ → Bool) where
  -- what a statement shows, by the sets of its number
  pub record StmtRan (st : StmtTree) (own : Bool) (s : Store) (a : Answer Flow) (z : Store) (es : List Event) : Type 0 where
    pub accesses : Shown k.base false (set_at acc (number_of st)) s a es
    pub firsts : FirstShown k false locked (set_at ins (number_of st)) s a es
    pub moved : OnGave D a z (Moved k.base D I (number_of st) (λ ls. stmt_leads st ls) (stmt_has is_return st) own still s)

  -- own: whether a RETURN counts as its normal end
  pub record OneRan (st : StmtTree) : Type 0 where
    pub own : Bool
    pub goes : (z : Store) → I z → Goes D (statement_plan st k.sc k.at locked) z (λ a y es. StmtRan st own z a y es)
    pub keeps : KeepsAt k.base D I (number_of st)

  -- of each statement
  abbrev pub EachRan : StmtTrees → Type 0
  EachRan tree.no_stmts = Unit {0}
  EachRan (tree.more_stmts st rest) = OneRan st × EachRan rest

  abbrev pub ordered_ins : StmtTrees → List Region
  ordered_ins ss = ins_in_order k.m.symbols k.does (set_at acc) (set_at ins) (numbers ss)

  -- what a list shows from a statement on
  pub record RestRan (whole : Bool) (ss : StmtTrees) (s : Store) (a : Answer Flow) (fs : List Event) : Type 0 where
    pub firsts : FirstHolds k (ordered_ins ss) s fs
    pub written : Written k acc fits whole (numbers ss) s a fs
    pub free : IsFree k locked fs
    pub leads : LeadsSo ss a

  module _ (all : StmtTrees) (whole : Bool) (straight : unstructured whole all ≡ false) where
    abbrev ps : List Part
    ps = parts all k.sc k.at locked

    no_goto : list_has (goes_to (labels all)) all ≡ false
    no_goto = (or_parts (list_has (goes_to (labels all)) all) (whole && early_return all) straight).0

    no_early : whole ≡ true → early_return all ≡ false
    no_early e = (let o = or_parts (list_has (goes_to (labels all)) all) (whole && early_return all) straight in ap (λ b. b && early_return all) (sym e) ∙ o.1)

    -- no jump leads to a label of the list
    pub no_label : (st : StmtTree) (rest : StmtTrees) → Suffix k.base D I all whole (tree.more_stmts st rest) → (l : ℕ) → Jumps (λ ls. stmt_leads st ls) l → has_label l ps ≡ false
    no_label st rest x l j = go (has_label l ps) refl
      where
        go : (b : Bool) → has_label l ps ≡ b → b ≡ false
        go false e = refl
        go true e = clashes (list_has (goes_to (labels all)) all) (x.jumps (labels all) (or_left (stmt_has (goes_to (labels all)) st) (list_has (goes_to (labels all)) rest) (leads_has st (labels all) (labels all) (λ m q. q) (j (labels all) (sym (labelled l all k.sc k.at locked) ∙ e))))) no_goto

    pub last_return : (n : ℕ) (label : Option ℕ) (w : WhatTree) (rest : StmtTrees) → Suffix k.base D I all whole (tree.more_stmts (tree.stmt n label w) rest) → stmt_has is_return (tree.stmt n label w) ≡ true → whole ≡ true → (is_return w ≡ true) × (is_end rest ≡ true)
    last_return n label w rest x h e = returned_last w rest (or_parts (returns_early (is_end rest) (tree.stmt n label w)) (early_return rest) (x.early (no_early e))).0 h

    module _ (jump : ℕ → Plan) (returns_nothing : (n : ℕ) (label : Option ℕ) (w : WhatTree) (rest : StmtTrees) → Suffix k.base D I all whole (tree.more_stmts (tree.stmt n label w) rest) → is_return w ≡ true → set_at acc n ≡ []) where
      pub rest_ran : (ss : StmtTrees) → Suffix k.base D I all whole ss → EachRan ss → (s : Store) → I s → Goes D (plan_in_order jump ps (parts ss k.sc k.at locked)) s (λ a z fs. RestRan whole ss s a fs)
      rest_ran tree.no_stmts x h s since = goes_ends D Normal s (λ a z fs. RestRan whole tree.no_stmts s a fs) (record { firsts = first_holds_none k [] s; written = written_none k acc fits whole s (Gave Normal); free = free_none k locked [] no_writes_none; leads = tt })
      rest_ran (tree.more_stmts (tree.stmt n label w) rest) x h s since =
          goes_then D (statement_plan now k.sc k.at locked) (go_on jump ps (plan_in_order jump ps (parts rest k.sc k.at locked))) s (λ a z es. StmtRan now h.0.own s a z es) (λ a z fs. RestRan whole all_of s a fs) (h.0.goes s since)
          (λ g z es p. next g z es p (λ y i. rest_ran rest (suffix_next k.base D I all whole now rest x) h.1 y i))
          (λ b z es p. one b es p)
        where
          now : StmtTree
          now = tree.stmt n label w

          all_of : StmtTrees
          all_of = tree.more_stmts (tree.stmt n label w) rest

          firsts_here : (es : List Event) → FirstHolds k (set_at ins n) s es → FirstHolds k (ordered_ins (tree.more_stmts (tree.stmt n label w) rest)) s es
          firsts_here es f u i = before_lies k.m.symbols (scene k.base) (elements_in k) (by_order k) (set_at ins n) (set_at acc n) (ordered_ins rest) (k.does n) AtIn (numbers_of s) u (f u i)

          one : {z : Store} (b : Break) (es : List Event) → StmtRan (tree.stmt n label w) h.0.own s (Broke b) z es → RestRan whole (tree.more_stmts (tree.stmt n label w) rest) s (Broke b) es
          one b es p = record { firsts = firsts_here es p.firsts.holds; written = written_first k acc fits whole n (numbers rest) s (Broke b) es p.accesses.holds tt; free = p.firsts.free; leads = tt }

          ended : (g : Flow) (z : Store) (es : List Event) → RestRan whole (tree.more_stmts (tree.stmt n label w) rest) s (Gave g) es → Goes D (Ends g) z (λ a y fs. RestRan whole (tree.more_stmts (tree.stmt n label w) rest) s a (es ++ fs))
          ended g z es r = goes_ends D g z (λ a y fs. RestRan whole (tree.more_stmts (tree.stmt n label w) rest) s a (es ++ fs)) (subst (λ ts. RestRan whole (tree.more_stmts (tree.stmt n label w) rest) s (Gave g) ts) (sym (trace_nil es)) r)

          none_later : (ss : StmtTrees) → is_end ss ≡ true → all_writes k acc fits (numbers ss) ≡ []
          none_later tree.no_stmts e = refl
          none_later (tree.more_stmts q qs) e = absurd (true≢false (sym e))

          return_sharp : (es : List Event) → stmt_has is_return (tree.stmt n label w) ≡ true → whole ≡ true → IsSharpSet (scene k.base) (elements_in k) (all_writes k acc fits (n ∷ numbers rest)) (numbers_of s) (λ b. accessed b es)
          return_sharp es q e =
              let o = last_return n label w rest x q e in
              let none : set_at acc n ≡ [] = returns_nothing n label w rest x o.0 in
              subst (λ rs. IsSharpSet (scene k.base) (elements_in k) (unite_all (writes rs ++ all_composed (k.does n) (all_writes k acc fits (numbers rest)))) (numbers_of s) (λ b. accessed b es)) (sym none)
              (subst (λ rs. IsSharpSet (scene k.base) (elements_in k) (unite_all (all_composed (k.does n) rs)) (numbers_of s) (λ b. accessed b es)) (sym (none_later rest o.1)) (λ r i. elim i [ ]))

          next : (g : Flow) (z : Store) (es : List Event) → StmtRan (tree.stmt n label w) h.0.own s (Gave g) z es → ((y : Store) → I y → Goes D (plan_in_order jump ps (parts rest k.sc k.at locked)) y (λ a v fs. RestRan whole rest y a fs)) → Goes D (go_on jump ps (plan_in_order jump ps (parts rest k.sc k.at locked)) g) z (λ a y fs. RestRan whole (tree.more_stmts (tree.stmt n label w) rest) s a (es ++ fs))
          next Normal z es p ih =
              goes_more D (plan_in_order jump ps (parts rest k.sc k.at locked)) z (λ a y fs. RestRan whole rest z a fs) (λ a y fs. RestRan whole (tree.more_stmts (tree.stmt n label w) rest) s a (es ++ fs))
              (λ a y fs l. record {
                firsts = λ u i. ⊎_elim (λ j. firsts_here es p.firsts.holds u j) (λ j. after_lies k.m.symbols (scene k.base) (elements_in k) (by_order k) (set_at ins n) (set_at acc n) (ordered_ins rest) (k.does n) AtIn (numbers_of s) (numbers_of z) (λ v. is_written v es) u p.moved.does (are_written k (set_at acc n) s es (fits n).named p.accesses.sharp) j.0 (l.firsts u j.1)) (first_cases k.ks k.g u es fs i);
                written = written_both k acc fits whole n (numbers rest) s z a es fs p.moved.does p.accesses.holds p.accesses.sharp l.written;
                free = free_both k locked es fs p.firsts.free l.free;
                leads = later a l.leads;
              })
              (ih z (h.0.keeps s z p.moved.does.kept since))
            where
              later : (a : Answer Flow) → LeadsSo rest a → LeadsSo (tree.more_stmts (tree.stmt n label w) rest) a
              later (Gave Normal) q = tt
              later (Gave (Jump l)) q = or_right (stmt_leads (tree.stmt n label w) (l ∷ [])) (each_leads rest (l ∷ [])) q
              later (Gave Returned) q = or_right (stmt_has is_return (tree.stmt n label w)) (list_has is_return rest) q
              later (Gave Stopped) q = tt
              later (Broke b) q = tt
          next (Jump l) z es p ih =
              subst (λ b. Goes D (if b then jump l else Ends (Jump l)) z (λ a y fs. RestRan whole (tree.more_stmts (tree.stmt n label w) rest) s a (es ++ fs))) (sym (no_label (tree.stmt n label w) rest x l p.moved.0))
              (ended (Jump l) z es (record {
                firsts = firsts_here es p.firsts.holds;
                written = written_first k acc fits whole n (numbers rest) s (Gave (Jump l)) es p.accesses.holds tt;
                free = p.firsts.free;
                leads = or_left (stmt_leads (tree.stmt n label w) (l ∷ [])) (each_leads rest (l ∷ [])) (p.moved.0 (l ∷ []) (or_left (nat_eq l l) false (nat_eq_same l)));
              }))
          next Returned z es p ih = ended Returned z es (record {
            firsts = firsts_here es p.firsts.holds;
            written = written_first k acc fits whole n (numbers rest) s (Gave Returned) es p.accesses.holds (λ e. return_sharp es p.moved.0 e);
            free = p.firsts.free;
            leads = or_left (stmt_has is_return (tree.stmt n label w)) (list_has is_return rest) p.moved.0;
          })
          next Stopped z es p ih = ended Stopped z es (record { firsts = firsts_here es p.firsts.holds; written = written_first k acc fits whole n (numbers rest) s (Gave Stopped) es p.accesses.holds tt; free = p.firsts.free; leads = tt })
