-- Lists that are executed in their order: what is needed later, handed down to their statements.
use Rattle.std.proofs.Common.{◌≡◌, ⊎_elim, ℕ, ℤ, List, [], ◌∷◌, ◌++◌, ◌&&◌, Option, Bool, true, false, refl, sym, ap, ◌∙◌, subst, true≢false, nat_eq}
use Rattle.std.specs.Prelude.{if◌then◌else◌, not}
use Rattle.std.proofs.lemmas.Bool.{or_parts, and_parts, or_left}
use Rattle.affine_systems.specs.declared.row.System.{System}
use Rattle.affine_systems.specs.Points.{Point}
use Rattle.f77_ast.specs.Trees.{StmtTree, WhatTree, StmtTrees}
use Rattle.f77_ast.specs.Trees as tree
use Rattle.f77_ast.specs.Store.{Content, Store}
use Rattle.f77_ast.specs.Runs.{Event, Answer, Gave, Broke}
use Rattle.f77_ast.specs.Writes.{Locks}
use Rattle.f77_ast.specs.Plans.{Flow, Normal, Jump, Returned, Stopped, Plan, Ends}
use Rattle.f77_ast.specs.Executions.{run_of, Claim}
use Rattle.f77_ast.specs.Lists.{Part, has_label, go_on, in_order as plan_in_order}
use Rattle.f77_ast.specs.Statements.{statement_plan, parts}
use Rattle.f77_ast.specs.declared.results.At.{At}
use Rattle.f77_meaning.specs.Accesses.{is_written, is_read_first}
use Rattle.f77_meaning.specs.Occurrences.{Occurrence}
use Rattle.affine_forms.specs.Claims.{numbers_of}
use Rattle.preconditions.specs.transformer_algebra.Cells.{has}
use Rattle.preconditions.specs.transformer_algebra.Claims.{Scene, Does}
use Rattle.preconditions.specs.transformer_algebra.Laws.{In, here, there}
use Rattle.preconditions.specs.transformers.Jumps.{is_end, unstructured}
use Rattle.preconditions.specs.transformers.Lists.{number_of}
use Rattle.in_out_regions.specs.region_sets.declared.region.Access.{Access}
use Rattle.in_out_regions.specs.region_sets.declared.region.Access.TheVariants.{Write, In as AtIn, Out}
use Rattle.in_out_regions.specs.region_sets.declared.region.Region.{Region}
use Rattle.in_out_regions.specs.region_sets.Regions.{remade, any_weak}
use Rattle.in_out_regions.specs.region_sets.Trim.{trim}
use Rattle.in_out_regions.specs.region_sets.Sets.{with_pieces, all_trimmed}
use Rattle.in_out_regions.specs.region_sets.Lists.{all_composed, numbers, set_at}
use Rattle.hull_projection.specs.Unions.{HoldsSome}
use Rattle.in_out_regions.specs.region_sets.Claims.{LiesInSet, IsSharp, IsSharpSet, Places}
use Rattle.in_out_regions.specs.Lists.{all_unwritten}
use Rattle.in_out_regions.specs.ListClaims.{AreWritten}
use Rattle.loop_marker.specs.out_regions.declared.rest.Rest.{Rest}
use Rattle.loop_marker.specs.out_regions.Known.{KnownTree}
use Rattle.loop_marker.specs.out_regions.Leaving.{stmt_labels, list_labels, leaves, stmt_leaves}
use Rattle.loop_marker.specs.out_regions.Used.{all_out}
use Rattle.loop_marker.specs.out_regions.Lists.{rest_of, left_over, used_behind, rest_out, may_leave, all_applied}
use Rattle.laws_analyses.specs.Statements.Leads.{stmt_leads, each_leads}
use Rattle.laws_analyses.specs.Regions.Settings.{scene, elements_at}
use Rattle.laws_analyses.specs.Regions.Shown.{accessed, Finally}
use Rattle.laws_analyses.proofs.Regions.Holding.{sharp_moved}
use Rattle.laws_analyses.proofs.Regions.Rules.{Goes}
use Rattle.laws_analyses.proofs.Regions.Lists.{KeepsAt, Suffix, suffix_next}
use Rattle.laws_marks.specs.InFrames.{Frame, elements_in, rank}
use Rattle.laws_marks.specs.InUnits.{UnitsFit, IsNarrow, SetFits}
use Rattle.laws_marks.proofs.InFramed.{by_order}
use Rattle.laws_marks.proofs.InRests.{unwritten_lies}
use Rattle.laws_marks.specs.OutRests.{IsStrict}
use Rattle.laws_marks.specs.OutShown.{IsNeeded, NeedsLie}
use Rattle.laws_marks.specs.OutLabels.{EachOutward}
use Rattle.laws_marks.proofs.OutStrictParts.{PartsStrict, strict_go_on, strict_in_order}
use Rattle.laws_marks.proofs.OutHands.{IsLater, Hands, hands_ends, hands_knowing, hands_then}
use Rattle.laws_marks.proofs.OutMoves.{out_lies, lies_left, lies_right, composed_lies, applied_lies}
use Rattle.laws_marks.proofs.OutUsed.{used_set}
use Rattle.laws_marks.proofs.OutNeeds.{nothing_later, need_cases, needs_none, needs_right, unhidden, first_seen}
use Rattle.laws_marks.proofs.OutLeaving.{stmt_jumps, list_jumps, list_returns, stmt_returns}
use Rattle.laws_marks.proofs.OutRest.{all_writes, LeadsSo, StmtRan, EachRan, RestRan, no_label, last_return, rest_ran}
use Rattle.in_out_regions.proofs.RegionSets.TrimLaws.{trim_back}
use Rattle.fx_lists.proofs.Numbers.{nat_eq_same}
use Rattle.f77_ast.specs.Shapes.{is_return}

-- ---- trimmed regions say no more

sharp_trimmed : (m : Scene) (at : Places) (x : ℕ → ℤ) (c : Access → ℕ → Bool) (rs : List Region) → IsSharpSet m at rs x c → IsSharpSet m at (all_trimmed rs) x c
sharp_trimmed m at x c [] h r i = elim i [ ]
sharp_trimmed m at x c (q ∷ rs) h r i = go (trim q.pieces).exact (trim q.pieces).pieces (λ e p w. trim_back p q.pieces e w) i (sharp_trimmed m at x c rs (λ o j. h o (there j)) r)
  where
    front : (o : Region) → In r (o ∷ all_trimmed rs) → IsSharp m (at o.variable) o x (c o.kind) → (In r (all_trimmed rs) → IsSharp m (at r.variable) r x (c r.kind)) → IsSharp m (at r.variable) r x (c r.kind)
    front o here s f = s
    front o (there j) s f = f j

    go : (b : Bool) (ss : List System) → (b ≡ true → (p : Point) → HoldsSome p ss → HoldsSome p q.pieces) → In r (with_pieces q (q.exact && b) ss (λ o. o ∷ all_trimmed rs) (all_trimmed rs)) → (In r (all_trimmed rs) → IsSharp m (at r.variable) r x (c r.kind)) → IsSharp m (at r.variable) r x (c r.kind)
    go b [] f j ih = ih j
    go b (s ∷ ss) f j ih =
        front (remade q (q.exact && b) (s ∷ ss)) j
        (λ e p st w. (let z = and_parts q.exact b (and_parts (q.exact && b) (not (any_weak (s ∷ ss))) e).0 in h q here z.0 p st (f z.1 p w))) ih

-- ---- lists

module _ (k : Frame) (D : Claim) (O : Occurrence → Type 0) (lost : ℕ → Bool) (I : Store → Type 0) (acc ins : List (At (List Region))) (fits : (n : ℕ) → SetFits k (set_at acc n)) (locked : Locks) (still : ℕ → Bool) (units : UnitsFit k locked)
    (narrow : (ns : List ℕ) (w : Region) → In w (all_writes k acc fits ns) → (p : System) → In p w.pieces → IsNarrow (rank k.ks k.g k.m.symbols w.variable) p) where
  abbrev pub U : KnownTree
  U = record { scope = k.m; does = k.does; accesses = acc; ins = ins }

  -- OUT of each statement: where what is needed of it later lies in what may be read behind it, its executions have their claims
  abbrev pub EachHands : Bool → StmtTrees → List Region → Type 0
  EachHands whole tree.no_stmts out = Unit {0}
  EachHands whole (tree.more_stmts s rest) out =
      ((z : Store) → I z → Hands O lost (statement_plan s k.sc k.at locked) z (NeedsLie k (used_behind U (may_leave whole s (rest_of U whole rest)) (number_of s) (rest_of U whole rest) out) z))
      × EachHands whole rest (rest_out U (number_of s) (rest_of U whole rest) out)

  module _ (all : StmtTrees) (whole : Bool) (straight : unstructured whole all ≡ false) (jump : ℕ → Plan) (jump_strict : (l : ℕ) → IsStrict lost (jump l))
      (returns_nothing : (n : ℕ) (label : Option ℕ) (w : WhatTree) (rest : StmtTrees) → Suffix k.base D I all whole (tree.more_stmts (tree.stmt n label w) rest) → is_return w ≡ true → set_at acc n ≡ []) where
    abbrev ps : List Part
    ps = parts all k.sc k.at locked

    abbrev Row : StmtTrees → Plan
    Row ss = plan_in_order jump ps (parts ss k.sc k.at locked)

    module _ (n : ℕ) (label : Option ℕ) (w : WhatTree) (rest : StmtTrees) (x : Suffix k.base D I all whole (tree.more_stmts (tree.stmt n label w) rest)) (out : List Region) (s : Store) (own : Bool)
        (free_labels : (l : ℕ) → stmt_leads (tree.stmt n label w) (l ∷ []) ≡ true → has (stmt_labels (tree.stmt n label w)) l ≡ false) (rest_labels : (l : ℕ) → each_leads rest (l ∷ []) ≡ true → has (list_labels rest) l ≡ false) where
      abbrev now : StmtTree
      now = tree.stmt n label w

      abbrev R : Rest
      R = rest_of U whole rest

      abbrev Leaves : Bool
      Leaves = may_leave whole now R

      abbrev Behind : List Region
      Behind = used_behind U Leaves n R out

      abbrev Lies : List Region → ℕ → Type 0
      Lies rs u = LiesInSet (scene k.base) (elements_in k) Out rs (numbers_of s) u

      -- what the list is given stays for its first statement, where it, or what is behind it, may leave the list
      all_left : Leaves ≡ true → (u : ℕ) → Lies out u → Lies Behind u
      all_left e u l =
          lies_right (scene k.base) (elements_in k) (all_out (all_composed (k.does n) R.ins)) (all_out (left_over Leaves (all_composed (k.does n) R.writes) out)) Out (numbers_of s) u
          (subst (λ b. Lies (all_out (if b then out else all_unwritten (all_trimmed (all_composed (k.does n) R.writes)) out)) u) (sym e) (out_lies (scene k.base) (elements_in k) out Out (numbers_of s) u l))

      -- or where exact WRITE regions of what is behind it tell that it is not written there
      not_written : (written : ℕ → Bool) → AreWritten (scene k.base) (elements_in k) (all_trimmed (all_composed (k.does n) R.writes)) (numbers_of s) written → (u : ℕ) → written u ≡ false → Lies out u → Lies Behind u
      not_written written h u f l =
          lies_right (scene k.base) (elements_in k) (all_out (all_composed (k.does n) R.ins)) (all_out (left_over Leaves (all_composed (k.does n) R.writes) out)) Out (numbers_of s) u (go Leaves)
        where
          go : (b : Bool) → Lies (all_out (if b then out else all_unwritten (all_trimmed (all_composed (k.does n) R.writes)) out)) u
          go true = out_lies (scene k.base) (elements_in k) out Out (numbers_of s) u l
          go false = out_lies (scene k.base) (elements_in k) (all_unwritten (all_trimmed (all_composed (k.does n) R.writes)) out) Out (numbers_of s) u
              (unwritten_lies k.m.symbols (scene k.base) (elements_in k) (by_order k) (all_trimmed (all_composed (k.does n) R.writes)) written (numbers_of s) u h f Out out l)

      by_rest : (z : Store) (u : ℕ) → Does (scene k.base) (k.does n) (numbers_of s) (numbers_of z) → LiesInSet (scene k.base) (elements_in k) AtIn R.ins (numbers_of z) u → Lies Behind u
      by_rest z u d l =
          lies_left (scene k.base) (elements_in k) (all_out (all_composed (k.does n) R.ins)) (all_out (left_over Leaves (all_composed (k.does n) R.writes) out)) Out (numbers_of s) u
          (out_lies (scene k.base) (elements_in k) (all_composed (k.does n) R.ins) AtIn (numbers_of s) u (composed_lies (scene k.base) (elements_in k) (k.does n) R.ins AtIn (numbers_of s) (numbers_of z) u d l))

      abbrev P : Answer Flow → Store → List Event → Type 0
      P a z es = StmtRan k D I acc ins fits locked still now own s a z es

      -- what is behind it ends so that all of it is executed, or the list may be left
      after_rest : (z : Store) (a : Answer Flow) (fs later : List Event) → IsLater a later → RestRan k D I acc ins fits locked still whole rest z a fs → Does (scene k.base) (k.does n) (numbers_of s) (numbers_of z) → (u : ℕ) → is_written u fs ≡ false → is_read_first u later ≡ true → Lies out u → Lies Behind u
      after_rest z a fs later il r d u f g l = go Leaves refl
        where
          sharp : IsSharpSet (scene k.base) (elements_in k) (all_writes k acc fits (numbers rest)) (numbers_of z) (λ b. accessed b fs) → AreWritten (scene k.base) (elements_in k) (all_trimmed (all_composed (k.does n) R.writes)) (numbers_of s) (λ v. is_written v fs)
          sharp h q i e =
              subst (λ b. IsSharp (scene k.base) (elements_in k q.variable) q (numbers_of s) (accessed b fs)) e
              (sharp_trimmed (scene k.base) (elements_in k) (numbers_of s) (λ b. accessed b fs) (all_composed (k.does n) R.writes) (sharp_moved (scene k.base) (elements_in k) (numbers_of s) (k.does n) R.writes (numbers_of z) (λ b. accessed b fs) d h) q i)

          stays : Leaves ≡ false → leaves whole rest ≡ false
          stays e = (or_parts (stmt_leaves whole now) R.leaves e).1

          nothing : later ≡ [] → Lies Behind u
          nothing q = absurd (true≢false (sym g ∙ ap (is_read_first u) q))

          ended : Leaves ≡ false → (a : Answer Flow) → IsLater a later → LeadsSo rest a → Finally whole a (IsSharpSet (scene k.base) (elements_in k) (all_writes k acc fits (numbers rest)) (numbers_of z) (λ b. accessed b fs)) → Lies Behind u
          ended e (Gave Normal) il q h = not_written (λ v. is_written v fs) (sharp h) u f l
          ended e (Gave (Jump j)) il q h = absurd (true≢false (sym (list_jumps whole rest j q (rest_labels j q)) ∙ stays e))
          ended e (Gave Returned) il q h = by_whole whole refl
            where
              by_whole : (b : Bool) → whole ≡ b → Lies Behind u
              by_whole true t = not_written (λ v. is_written v fs) (sharp (h t)) u f l
              by_whole false t = absurd (true≢false (sym (list_returns rest q) ∙ (ap (λ b. leaves b rest) (sym t) ∙ stays e)))
          ended e (Gave Stopped) il q h = nothing il
          ended e (Broke b) il q h = nothing il

          go : (b : Bool) → Leaves ≡ b → Lies Behind u
          go true e = all_left e u l
          go false e = ended e a il r.leads r.written.sharp

      -- what is needed of the list is needed of its first statement
      given : ((z : Store) → I z → Goes D (Row rest) z (λ a y fs. RestRan k D I acc ins fits locked still whole rest z a fs)) → KeepsAt k.base D I n → I s → (g : Flow) (z : Store) (es : List Event) → P (Gave g) z es → (j : List Content) (later : List Event) →
          IsLater (run_of (go_on jump ps (Row rest) g) z j).answer later → NeedsLie k out s (es ++ (run_of (go_on jump ps (Row rest) g) z j).trace) later → NeedsLie k Behind s es ((run_of (go_on jump ps (Row rest) g) z j).trace ++ later)
      given ran keeps since Normal z es p j later il h u e nd =
          let r = (ran z (keeps s z p.moved.does.kept since) j).ending in
          let fs = (run_of (Row rest) z j).trace in
          ⊎_elim (λ i. by_rest z u p.moved.does (r.firsts u (first_seen k locked units u e (p.firsts.free.unlocked u nd.written) fs r.free i)))
          (λ i. after_rest z (run_of (Row rest) z j).answer fs later il r p.moved.does u i.0 i.1.read (h u e i.1))
          (need_cases es fs later u nd)
      given ran keeps since (Jump l) z es p j later il h u e nd =
          jumped (has_label l ps) (no_label k D I acc ins fits locked still all whole straight now rest x l p.moved.0) il h u e nd
        where
          may : Leaves ≡ true
          may = or_left (stmt_leaves whole now) R.leaves (stmt_jumps whole now l (p.moved.0 (l ∷ []) (or_left (nat_eq l l) false (nat_eq_same l))) (free_labels l (p.moved.0 (l ∷ []) (or_left (nat_eq l l) false (nat_eq_same l)))))

          jumped : (b : Bool) → b ≡ false → IsLater (run_of (if b then jump l else Ends (Jump l)) z j).answer later → NeedsLie k out s (es ++ (run_of (if b then jump l else Ends (Jump l)) z j).trace) later → NeedsLie k Behind s es ((run_of (if b then jump l else Ends (Jump l)) z j).trace ++ later)
          jumped true e il h = absurd (true≢false e)
          jumped false e il h = λ u q nd. all_left may u (h u q (ended_need es later u nd))
            where
              ended_need : (es later : List Event) (u : ℕ) → IsNeeded es later u → IsNeeded (es ++ []) later u
              ended_need es later u nd = ⊎_elim (λ i. absurd (true≢false (sym i))) (λ i. i.1) (need_cases es [] later u nd)
      given ran keeps since Returned z es p j later il h u q nd = go whole refl (is_return w) refl
        where
          at_end : IsNeeded (es ++ []) later u
          at_end = ⊎_elim (λ i. absurd (true≢false (sym i))) (λ i. i.1) (need_cases es [] later u nd)

          left : (whole ≡ true → is_return w ≡ false) → Lies Behind u
          left f = all_left (or_left (stmt_leaves whole now) R.leaves (stmt_returns whole n label w p.moved.0 f)) u (h u q at_end)

          none_later : (ss : StmtTrees) → is_end ss ≡ true → all_writes k acc fits (numbers ss) ≡ []
          none_later tree.no_stmts e = refl
          none_later (tree.more_stmts a b) e = absurd (true≢false (sym e))

          go : (b : Bool) → whole ≡ b → (c : Bool) → is_return w ≡ c → Lies Behind u
          go false e c t = left (λ o. absurd (true≢false (sym o ∙ e)))
          go true e false t = left (λ o. t)
          go true e true t =
              let o = last_return k D I acc ins fits locked still all whole straight n label w rest x p.moved.0 e in
              not_written (λ v. is_written v es) (subst (λ rs. AreWritten (scene k.base) (elements_in k) (all_trimmed (all_composed (k.does n) rs)) (numbers_of s) (λ v. is_written v es)) (sym (none_later rest o.1)) (λ r i. elim i [ ])) u (never (returns_nothing n label w rest x t)) (h u q at_end)
            where
              never : set_at acc n ≡ [] → is_written u es ≡ false
              never r = absurd (none_in (p.accesses.holds Write u (record { is_so = nd.written; seen = unhidden k locked units u q (p.firsts.free.unlocked u nd.written) es p.firsts.free })))
                where
                  none_in : LiesInSet (scene k.base) (elements_at k.base) Write (set_at acc n) (numbers_of s) u → ⊥
                  none_in l = empty (subst (λ rs. In l.region rs) r l.is_one)
                    where
                      empty : In l.region [] → ⊥
                      empty i = elim i [ ]
      given ran keeps since Stopped z es p j later il h u q nd = absurd (nothing_later es u (subst (λ fs. IsNeeded es fs u) il nd))

      -- and what is left of it, of those behind
      behind : (z : Store) (a : Answer Flow) (y : Store) (es fs later : List Event) → Does (scene k.base) (k.does n) (numbers_of s) (numbers_of z) → RestRan k D I acc ins fits locked still whole rest z a fs → NeedsLie k out s (es ++ fs) later → NeedsLie k (rest_out U n R out) z fs later
      behind z a y es fs later d r h u e nd =
          let free = r.free.unlocked u nd.written in
          used_set k locked units (all_out (all_applied (k.does n) out)) z R.writes (λ v i q p j. narrow (numbers rest) v i p j) u free
          (r.written.holds u (record { is_so = nd.written; seen = unhidden k locked units u e free fs r.free }))
          (out_lies (scene k.base) (elements_in k) (all_applied (k.does n) out) Out (numbers_of z) u (applied_lies (scene k.base) (elements_in k) (k.does n) out Out (numbers_of s) (numbers_of z) u d (needs_right k out s es fs later h u e nd)))

    -- a list from a statement on
    pub row_hands : (ss : StmtTrees) → Suffix k.base D I all whole ss → EachRan k D I acc ins fits locked still ss → PartsStrict lost (parts ss k.sc k.at locked) → EachOutward ss → (out : List Region) → EachHands whole ss out → (s : Store) → I s → Hands O lost (Row ss) s (NeedsLie k out s)
    row_hands tree.no_stmts x ran strict labels out h s since = hands_ends O lost Normal s (NeedsLie k out s)
    row_hands (tree.more_stmts (tree.stmt n label w) rest) x ran strict labels out h s since =
        hands_then O lost (statement_plan (tree.stmt n label w) k.sc k.at locked) (go_on jump ps (Row rest)) s (P n label w rest x out s ran.0.own labels.0 labels.1) (NeedsLie k out s) (NeedsLie k (Behind n label w rest x out s ran.0.own labels.0 labels.1) s)
        (strict_go_on lost jump ps (Row rest) jump_strict (strict_in_order lost jump ps (parts rest k.sc k.at locked) jump_strict strict.1)) refl
        (λ i. (ran.0.goes s since i).ending) (h.0 s since) (λ es. needs_none k (Behind n label w rest x out s ran.0.own labels.0 labels.1) s es)
        (λ g z es p j later il nd. given n label w rest x out s ran.0.own labels.0 labels.1 behind_ran ran.0.keeps since g z es p j later il nd)
        (λ g z es p. next g z es p (λ y i. row_hands rest (suffix_next k.base D I all whole (tree.stmt n label w) rest x) ran.1 strict.1 labels.2 (rest_out U n (rest_of U whole rest) out) h.1 y i))
      where
        behind_ran : (z : Store) → I z → Goes D (plan_in_order jump (parts all k.sc k.at locked) (parts rest k.sc k.at locked)) z (λ a y fs. RestRan k D I acc ins fits locked still whole rest z a fs)
        behind_ran z i = rest_ran k D I acc ins fits locked still all whole straight jump returns_nothing rest (suffix_next k.base D I all whole (tree.stmt n label w) rest x) ran.1 z i

        next : (g : Flow) (z : Store) (es : List Event) → StmtRan k D I acc ins fits locked still (tree.stmt n label w) ran.0.own s (Gave g) z es → ((y : Store) → I y → Hands O lost (plan_in_order jump (parts all k.sc k.at locked) (parts rest k.sc k.at locked)) y (NeedsLie k (rest_out U n (rest_of U whole rest) out) y)) →
            Hands O lost (go_on jump (parts all k.sc k.at locked) (plan_in_order jump (parts all k.sc k.at locked) (parts rest k.sc k.at locked)) g) z (λ fs later. NeedsLie k out s (es ++ fs) later)
        next Normal z es p ih =
            let iz = ran.0.keeps s z p.moved.does.kept since in
            hands_knowing O lost (Row rest) z (λ a y fs. RestRan k D I acc ins fits locked still whole rest z a fs) (λ fs later. NeedsLie k out s (es ++ fs) later) (NeedsLie k (rest_out U n (rest_of U whole rest) out) z)
            (λ i. (behind_ran z iz i).ending) (λ a y fs later r nd. behind n label w rest x out s ran.0.own labels.0 labels.1 z a y es fs later p.moved.does r nd) (ih z iz)
        next (Jump l) z es p ih = subst (λ b. Hands O lost (if b then jump l else Ends (Jump l)) z (λ fs later. NeedsLie k out s (es ++ fs) later)) (sym (no_label k D I acc ins fits locked still all whole straight (tree.stmt n label w) rest x l p.moved.0)) (hands_ends O lost (Jump l) z (λ fs later. NeedsLie k out s (es ++ fs) later))
        next Returned z es p ih = hands_ends O lost Returned z (λ fs later. NeedsLie k out s (es ++ fs) later)
        next Stopped z es p ih = hands_ends O lost Stopped z (λ fs later. NeedsLie k out s (es ++ fs) later)
