-- In a run without a fault a private unit that is read was written before, where it has no value at first or is not read first.
use Rattle.std.proofs.Common.{◌≡◌, ◌≢◌, ℕ, ◌⊎◌, inl, inr, ⊎_elim, List, Bool, true, false, not, ◌&&◌, ◌||◌, refl, sym, ap, ◌∙◌, subst, arith, true≢false, nat_eq}
use Rattle.std.proofs.lemmas.Bool.Decides.{eqb_tells, nat_tests}
use Rattle.f77_ast.specs.Store.{Undefined, Content, Store, put, undefined}
use Rattle.f77_ast.specs.Steps.{Faulty, Wants, OutOfTurns, Steps, Done, Breaks, Look, Set, Hold, Forget, Show, Take, Arrive}
use Rattle.f77_ast.specs.Runs.{Event}
use Rattle.f77_ast.specs.Plans.{Flow}
use Rattle.f77_ast.specs.Programs.{Conforms}
use Rattle.f77_meaning.specs.Accesses.{is_read_first}
use Rattle.laws_interleavings.specs.Iterations.{on_store, OwnFirst, with_unit, without_unit}
use Rattle.laws_interleavings.specs.Faults.{StepsFault}
use Rattle.laws_interleavings.specs.Strict.{Strict, Quiet}
use Rattle.laws_interleavings.specs.Sound.{NoTake}
use Rattle.laws_interleavings.proofs.Stores.{put_other}
use Rattle.fx_lists.proofs.Numbers.{eq_refl}
use Rattle.fx_lists.proofs.Booleans.{not_and, or_neither as or_false}
use Rattle.f77_ast.proofs.Shared.{put_same}

pub fault_ends : (t : Steps Flow) (s : Store) → StepsFault t → Conforms (on_store t s).answer → ⊥
fault_ends (Breaks (Faulty k)) s f n = n
fault_ends (Breaks (Wants u)) s f n = f
fault_ends (Breaks OutOfTurns) s f n = f
fault_ends (Done a) s f n = f
fault_ends (Look u k) s f n = f
fault_ends (Set u c t) s f n = f
fault_ends (Hold u c t) s f n = f
fault_ends (Forget u t) s f n = f
fault_ends (Show xs t) s f n = f
fault_ends (Take k) s f n = f
fault_ends (Arrive a t) s f n = f

eq_swap : (u v : ℕ) → nat_eq v u ≡ false → nat_eq u v ≡ false
eq_swap u v e = grind (arith, nat_tests)

apart_of : (u v : ℕ) → nat_eq v u ≡ false → v ≢ u
apart_of u v e q = true≢false (sym (subst (λ z. nat_eq v z ≡ true) q (eq_refl v)) ∙ e)

module _ (p : ℕ → Bool) where
  -- a private unit that is not known is undefined, or is not read first
  abbrev pub Safe : (ℕ → Bool) → Store → List Event → Type 0
  Safe known s es = (v : ℕ) → p v ≡ true → known v ≡ false → ((s v).tag ≡ Undefined) ⊎ (is_read_first v es ≡ false)

  -- the unit is given contents; events of writes of it may stand before those
  given : (known : ℕ → Bool) (s : Store) (u : ℕ) (c : Content) (es fs : List Event) → ((v : ℕ) → nat_eq u v ≡ false → is_read_first v es ≡ false → is_read_first v fs ≡ false) → Safe known s es → Safe (with_unit u known) (put s u c) fs
  given known s u c es fs less h v pv k =
      let q = or_false (nat_eq v u) (known v) k in
      ⊎_elim
      (λ t. inl (ap (λ z. z.tag) (put_other s u c v (apart_of u v q.0)) ∙ t))
      (λ e. inr (less v (eq_swap u v q.0) e))
      (h v pv q.1)

  forgotten : (known : ℕ → Bool) (s : Store) (u : ℕ) (es : List Event) → Safe known s es → Safe (without_unit u known) (put s u (undefined (s u))) es
  forgotten known s u es h v pv k =
      ⊎_elim
      (λ e. inl (subst (λ z. (put s u (undefined (s u)) z).tag ≡ Undefined) (sym e.1) (ap (λ z. z.tag) (put_same s u (undefined (s u))))))
      (λ e. ⊎_elim
      (λ t. inl (ap (λ z. z.tag) (put_other s u (undefined (s u)) v e.1) ∙ t))
      (λ r. inr r)
      (h v pv (not_and (nat_eq v u) (known v) e.0 k)))
      (eqb_tells v u)

  pub own_first : (t : Steps Flow) (known : ℕ → Bool) (s : Store) → Strict t → Quiet p t → Conforms (on_store t s).answer → NoTake (on_store t s).trace → Safe known s (on_store t s).trace → OwnFirst p t known s
  own_first (Done a) known s st q nf nt h = tt
  own_first (Breaks b) known s st q nf nt h = tt
  own_first (Look u k) known s st q nf nt h = (
    λ pu. go pu (known u) refl,
    own_first (k (s u)) known s (st.1 (s u)) (q (s u)) nf nt (λ v pv kv. ⊎_elim (λ t. inl t) (λ r. inr (or_false (nat_eq u v) _ r).1) (h v pv kv)),
  )
    where
      go : p u ≡ true → (b : Bool) → known u ≡ b → b ≡ true
      go pu true e = refl
      go pu false e =
          absurd (⊎_elim
          (λ t. fault_ends (k (s u)) s (st.0 (s u) t) nf)
          (λ r. true≢false (sym (eq_refl u) ∙ (or_false (nat_eq u u) _ r).0))
          (h u pu e))
  own_first (Set u c t) known s st q nf nt h =
      own_first t (with_unit u known) (put s u c) st q nf nt
      (given known s u c (on_store (Set u c t) s).trace (on_store t (put s u c)).trace (λ v e r. not_and (nat_eq u v) _ e r) h)
  own_first (Hold u c t) known s st q nf nt h =
      (q.0, own_first t (with_unit u known) (put s u c) st q.1 nf nt (given known s u c (on_store t (put s u c)).trace (on_store t (put s u c)).trace (λ v e r. r) h))
  own_first (Forget u t) known s st q nf nt h =
      (q.0, own_first t (without_unit u known) (put s u (undefined (s u))) st q.1 nf nt (forgotten known s u (on_store t (put s u (undefined (s u)))).trace h))
  own_first (Show xs t) known s st q nf nt h = own_first t known s st q nf nt h
  own_first (Take k) known s st q nf nt h = nt
  own_first (Arrive a t) known s st q nf nt h = own_first t known s st q nf nt h
