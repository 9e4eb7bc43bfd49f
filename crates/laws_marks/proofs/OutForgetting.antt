-- At the end of a call its locals, if they are not saved, become undefined: what a conforming run does later does not read what was written in them.
use Rattle.std.proofs.Common.{◌≡◌, ℕ, List, [], ◌∷◌, Bool, true, false, refl, ap, nat_eq}
use Rattle.std.specs.Prelude.{if◌then◌else◌}
use Rattle.std.specs.List.{list_any}
use Rattle.std.proofs.lemmas.Bool.{or_left, or_right}
use Rattle.f77_ast.specs.Store.{Undefined, Content, Store, put, undefined}
use Rattle.f77_ast.specs.Plans.{Flow, Normal, Jump, Returned, Stopped, Plan, Ends, ◌▹◌}
use Rattle.f77_ast.specs.Calls.{forget_all, after_call}
use Rattle.f77_ast.specs.Executions.{run_of}
use Rattle.f77_ast.specs.Programs.{Conforms}
use Rattle.call_graph.specs.declared.graph.Graph.{Graph}
use Rattle.f77_meaning.specs.Accesses.{is_read_first}
use Rattle.f77_meaning.specs.Modules.{Known, all_lost}
use Rattle.f77_meaning.specs.Linked.{numbering}
use Rattle.preconditions.specs.transformer_algebra.Laws.{In, here, there}
use Rattle.laws_analyses.specs.Regions.Entries.{IsLost}
use Rattle.laws_marks.specs.OutPrograms.{is_some_lost}
use Rattle.laws_marks.specs.OutRests.{IsStrict, Follows}
use Rattle.laws_marks.proofs.OutStrictness.{unread}
use Rattle.laws_analyses.proofs.Regions.CalledShown.{any_in}
use Rattle.fx_lists.proofs.Numbers.{nat_eq_same}

put_here : (s : Store) (u : ℕ) → (put s u (undefined (s u)) u).tag ≡ Undefined
put_here s u = ap (λ b. (if b then undefined (s u) else s u).tag) (nat_eq_same u)

put_keeps : (s : Store) (v u : ℕ) → (s u).tag ≡ Undefined → (put s v (undefined (s v)) u).tag ≡ Undefined
put_keeps s v u h = go (nat_eq u v)
  where
    go : (b : Bool) → (if b then undefined (s v) else s u).tag ≡ Undefined
    go true = refl
    go false = h

module _ (lost : ℕ → Bool) where
  -- one that has no value
  kept_away : (us : List ℕ) (t : Plan) (k : Flow → Plan) → IsStrict lost (t ▹ k) → (u : ℕ) → lost u ≡ true → (s : Store) (i : List Content) → (s u).tag ≡ Undefined → Conforms (run_of (forget_all us t ▹ k) s i).answer → is_read_first u (run_of (forget_all us t ▹ k) s i).trace ≡ false
  kept_away [] t k h u l s i d c = (unread lost (t ▹ k) h u l s i d c).0
  kept_away (v ∷ us) t k h u l s i d c = kept_away us t k h u l (put s v (undefined (s v))) i (put_keeps s v u d) c

  forgotten : (us : List ℕ) (t : Plan) (k : Flow → Plan) → IsStrict lost (t ▹ k) → (u : ℕ) → lost u ≡ true → In u us → (s : Store) (i : List Content) → Conforms (run_of (forget_all us t ▹ k) s i).answer → is_read_first u (run_of (forget_all us t ▹ k) s i).trace ≡ false
  forgotten [] t k h u l m s i c = elim m [ ]
  forgotten (v ∷ us) t k h u l here s i c = kept_away us t k h u l (put s u (undefined (s u))) i (put_here s u) c
  forgotten (v ∷ us) t k h u l (there m) s i c = forgotten us t k h u l m (put s v (undefined (s v))) i c

  -- what follows a call
  pub unread_after : (us : List ℕ) (g : Flow) → ((l : ℕ) → g ≡ Jump l → ⊥) → (k : Flow → Plan) → Follows lost k → (u : ℕ) → lost u ≡ true → In u us → (s : Store) (i : List Content) → Conforms (run_of (after_call us g ▹ k) s i).answer → is_read_first u (run_of (after_call us g ▹ k) s i).trace ≡ false
  unread_after us Normal n k fl u l m s i c = forgotten us (Ends Normal) k (fl.strict Normal) u l m s i c
  unread_after us Returned n k fl u l m s i c = forgotten us (Ends Normal) k (fl.strict Normal) u l m s i c
  unread_after us Stopped n k fl u l m s i c = ap (λ t. is_read_first u (run_of t s i).trace) fl.stopped
  unread_after us (Jump l') n k fl u l m s i c = absurd (n l' refl)

-- there are no events where they become undefined
quiet_forget : (us : List ℕ) (s : Store) (i : List Content) → (run_of (forget_all us (Ends Normal)) s i).trace ≡ []
quiet_forget [] s i = refl
quiet_forget (u ∷ us) s i = quiet_forget us (put s u (undefined (s u))) i

pub quiet_after : (us : List ℕ) (g : Flow) (s : Store) (i : List Content) → (run_of (after_call us g) s i).trace ≡ []
quiet_after us Normal s i = quiet_forget us s i
quiet_after us Returned s i = quiet_forget us s i
quiet_after us Stopped s i = refl
quiet_after us (Jump l) s i = refl

pub some_lost : (ks : List Known) (g : Graph) (m : List ℕ) (u : ℕ) → IsLost ks g m u → is_some_lost ks g u ≡ true
some_lost ks g m u l = any_in (λ k. list_any (λ v. nat_eq v u) (all_lost (numbering ks g) k.read.name k.symbols k.symbols)) ks l.known l.is_one l.lost
