-- The run of a DO that is parallel is quiet.
use Rattle.std.proofs.Common.{◌≡◌, ℕ, ◌||◌, Bool, true, false, List, [], ◌∷◌, ◌++◌, Option, Some, None, refl, sym, ap, ◌∙◌, subst, nat_eq, true≢false}
use Rattle.std.specs.Prelude.{if◌then◌else◌, slice_get}
use Rattle.std.proofs.lemmas.Bool.{or_left, or_right}
use Rattle.f77_ast.specs.Trees.{StmtTree, LoopTree, StmtTrees}
use Rattle.f77_ast.specs.Trees as tree
use Rattle.f77_ast.specs.Places.{Places}
use Rattle.f77_ast.specs.Store.{Content, Store}
use Rattle.f77_ast.specs.Writes.{Locks}
use Rattle.f77_ast.specs.Runs.{Event, Arrived, Read, Wrote, Printed, Took, Answer, Gave, Broke, Ran}
use Rattle.f77_ast.specs.Plans.{Flow, Stopped}
use Rattle.f77_ast.specs.Statements.{Scope, do_plan}
use Rattle.f77_ast.specs.declared.effect_set.EffectSet.{EffectSet}
use Rattle.call_graph.specs.declared.graph.Graph.{Graph}
use Rattle.f77_meaning.specs.Modules.{Known}
use Rattle.f77_meaning.specs.Occurrences.{Occurrence}
use Rattle.preconditions.specs.transformer_algebra.Cells.{has, others}
use Rattle.preconditions.specs.call_translation.Scopes.{ScopeTree}
use Rattle.preconditions.specs.transformers.Jumps.{list_has, label_of, before_labels, labels}
use Rattle.loop_marker.specs.out_regions.Leaving.{stmt_labels, what_labels, list_labels, leaves}
use Rattle.laws_programs.specs.Effects.Claims.{has_io, is_stopped, EffectsHold}
use Rattle.laws_analyses.specs.Statements.Leads.{each_leads, list_leads}
use Rattle.laws_analyses.specs.Statements.Activation.{Jumps}
use Rattle.laws_interleavings.specs.Sound.{NoTake, printed_by}
use Rattle.laws_marks.specs.ConflictIterations.{Iteration, iterations}
use Rattle.laws_marks.specs.ConflictClaims.{LeavesBy, body_list, KnownLoop, LoopIs}
use Rattle.laws_marks.proofs.InFirsts.{not_so}
use Rattle.laws_marks.proofs.OutLeaving.{list_jumps, list_returns}
use Rattle.laws_marks.specs.MarkedEnding.{do_run, IsQuietDo}
use Rattle.laws_marks.proofs.Inside.{LeadsBeyond}
use Rattle.fx_lists.proofs.Numbers.{nat_eq_same}
use Rattle.f77_ast.specs.Shapes.{is_return}

-- ---- events without input and output

silent : (es : List Event) → has_io es ≡ false → printed_by es ≡ []
silent [] h = refl
silent (Arrived p ∷ es) h = silent es h
silent (Read u c ∷ es) h = silent es h
silent (Wrote u c ∷ es) h = silent es h
silent (Printed xs ∷ es) h = absurd (true≢false h)
silent (Took o ∷ es) h = absurd (true≢false h)

takes_nothing : (es : List Event) → has_io es ≡ false → NoTake es
takes_nothing [] h = tt
takes_nothing (Arrived p ∷ es) h = takes_nothing es h
takes_nothing (Read u c ∷ es) h = takes_nothing es h
takes_nothing (Wrote u c ∷ es) h = takes_nothing es h
takes_nothing (Printed xs ∷ es) h = absurd (true≢false h)
takes_nothing (Took o ∷ es) h = absurd (true≢false h)

-- ---- GO TOs

-- a label directly in a list is a label in it
direct : (ss : StmtTrees) (l : ℕ) → has (labels ss) l ≡ true → has (list_labels ss) l ≡ true
direct tree.no_stmts l h = h
direct (tree.more_stmts (tree.stmt n label w) rest) l h = go label h (direct rest l)
  where
    behind : (ls : List ℕ) → (has (labels rest) l ≡ true → has (list_labels rest) l ≡ true) → has (labels rest) l ≡ true → has (ls ++ list_labels rest) l ≡ true
    behind [] ih q = ih q
    behind (k ∷ ls) ih q = or_right (nat_eq k l) (has (ls ++ list_labels rest) l) (behind ls ih q)

    go : (o : Option ℕ) → has (before_labels o (labels rest)) l ≡ true → (has (labels rest) l ≡ true → has (list_labels rest) l ≡ true) → has (before_labels o (what_labels w) ++ list_labels rest) l ≡ true
    go None q ih = behind (what_labels w) ih q
    go (Some k) q ih = either (nat_eq k l) q
      where
        either : (b : Bool) → (b || has (labels rest) l) ≡ true → (b || has (what_labels w ++ list_labels rest) l) ≡ true
        either true p = refl
        either false p = behind (what_labels w) ih p

-- a GO TO that leads out of the body makes it leave
no_jump : (n : ℕ) (l : LoopTree) → LeadsBeyond n l → leaves false (body_list l) ≡ false → (m : ℕ) → Jumps (λ ls. list_leads (body_list l) ls) m → ⊥
no_jump n (tree.loop index first last step body) beyond stays m jumps =
    true≢false (sym (list_jumps false body m (subst (λ ls. each_leads body ls ≡ true) alone out) none) ∙ stays)
  where
    out : list_leads body (m ∷ []) ≡ true
    out = jumps (m ∷ []) (or_left (nat_eq m m) false (nat_eq_same m))

    none : has (list_labels body) m ≡ false
    none = beyond m out

    not_direct : has (labels body) m ≡ false
    not_direct = not_so (has (labels body) m) (λ e. true≢false (sym (direct body m e) ∙ none))

    alone : others (m ∷ []) (labels body) ≡ m ∷ []
    alone = ap (λ b. if b then [] else m ∷ []) not_direct

no_return : (ss : StmtTrees) → leaves false ss ≡ false → list_has is_return ss ≡ false
no_return ss stays = not_so (list_has is_return ss) (λ e. true≢false (sym (list_returns ss e) ∙ stays))

-- ---- a DO

stops_so : (a : Answer Flow) → a ≡ Gave Stopped → is_stopped a ≡ true
stops_so a e = ap is_stopped e

-- x: its execution
module _ (ks : List Known) (g : Graph) (k : ScopeTree) (d : KnownLoop) (sc : Scope) (at : Places) (locked : Locks) (s : Store) (i : List Content) (n : ℕ) (beyond : LeadsBeyond n d.loop) (stays : leaves false (body_list d.loop) ≡ false) (e : EffectSet) (stops : e.stops ≡ false) (io : e.io ≡ false) where
  pub is_quiet : (flow : Flow) → (do_run sc d.loop at locked s i).answer ≡ Gave flow → (x : Occurrence) → x.ran ≡ do_run sc d.loop at locked s i → EffectsHold ks g e x → LoopIs ks g k at d s (iterations (do_plan d.loop sc at locked) s i) → IsQuietDo sc d.loop at locked s i
  is_quiet flow ends x same hold known =
      let calm : has_io (do_run sc d.loop at locked s i).trace ≡ false = not_so (has_io (do_run sc d.loop at locked s i).trace) (λ q. true≢false (sym (hold.io (ap (λ (r : Ran Flow). has_io r.trace) same ∙ q)) ∙ io)) in
      record {
        flow = flow;
        ends = ends;
        no_stop = λ q. true≢false (sym (hold.stops (ap (λ (r : Ran Flow). is_stopped r.answer) same ∙ stops_so (do_run sc d.loop at locked s i).answer q)) ∙ stops);
        silent = silent (do_run sc d.loop at locked s i).trace calm;
        takes_nothing = takes_nothing (do_run sc d.loop at locked s i).trace calm;
        leaves = λ j y q. (known.each j y q).leaves;
        no_jump = no_jump n d.loop beyond stays;
        no_return = no_return (body_list d.loop) stays;
      }
