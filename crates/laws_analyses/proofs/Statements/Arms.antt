-- IF: one of its arms runs.
use Rattle.std.proofs.Common.{◌≡◌, ℕ, List, [], ◌∷◌, Bool, true, false, inl, inr}
use Rattle.affine_systems.specs.declared.row.System.{System}
use Rattle.affine_systems.specs.Points.{Point, HoldsAll}
use Rattle.hull_projection.specs.Hull.{hull}
use Rattle.hull_projection.proofs.HullLaws.{hull_holds}
use Rattle.f77_ast.specs.Store.{Store}
use Rattle.f77_ast.specs.Plans.{Flow, Normal, Jump, Returned, Stopped}
use Rattle.affine_forms.specs.Claims.{numbers_of}
use Rattle.preconditions.specs.transformer_algebra.declared.transformer.Transformer.{Transformer}
use Rattle.preconditions.specs.transformer_algebra.Transformers.{test, followed, all_cells, one_of}
use Rattle.preconditions.specs.transformer_algebra.Claims.{Scene, HoldsAt, Kept, Does, Tracks}
use Rattle.preconditions.specs.transformer_algebra.Laws.{In, here, there}
use Rattle.preconditions.proofs.TransformerAlgebra.CellLaws.{right_out, unit_right}
use Rattle.preconditions.proofs.TransformerAlgebra.RuleLaws.{does_then, does_test, does_one, kept_in}
use Rattle.preconditions.specs.Statement.{hull_from, some_holds}
use Rattle.laws_analyses.specs.Statements.Activation.{Still, Stayed, Done, Jumps, Ended}

-- a hull of some holds where one of them does
hulled_first : (s : System) (qs : List System) (p : Point) → HoldsAll p s.rows → HoldsAll p (hull_from s qs).rows
hulled_first s [] p h = h
hulled_first s (r ∷ qs) p h = hulled_first (hull s r) qs p (hull_holds s r p (inl h))

hulled_among : (s q : System) (qs : List System) (p : Point) → In q qs → HoldsAll p q.rows → HoldsAll p (hull_from s qs).rows
hulled_among s q [] p i h = elim i [ ]
hulled_among s q (r ∷ qs) p here h = hulled_first (hull s q) qs p (hull_holds s q p (inr h))
hulled_among s q (r ∷ qs) p (there i) h = hulled_among (hull s r) q qs p i h

pub some_hold : (q : System) (qs : List System) (p : Point) → In q qs → HoldsAll p q.rows → HoldsAll p (some_holds qs).rows
some_hold q [] p i h = elim i [ ]
some_hold q (r ∷ qs) p here h = hulled_first q qs p h
some_hold q (r ∷ qs) p (there i) h = hulled_among r q qs p i h

module _ (e : Scene) (still : ℕ → Bool) (s : Store) where
  pub record SomeArm (ts : List Transformer) (qs : List System) (z : Store) : Type 0 where
    pub t : Transformer
    pub t_in : In t ts
    pub does : Does e t (numbers_of s) (numbers_of z)
    pub q : System
    pub q_in : In q qs
    pub after : HoldsAt e q (numbers_of z)
    pub steady : Still still s z

  pub record SomeStay (ts : List Transformer) (z : Store) : Type 0 where
    pub t : Transformer
    pub t_in : In t ts
    pub stayed : Stayed e t still s z

  -- how some arms end, of which one ran
  abbrev pub ArmsEnded : List Transformer → List System → (List ℕ → Bool) → Bool → Flow → Store → Type 0
  ArmsEnded ts qs goes ret Normal z = SomeArm ts qs z
  ArmsEnded ts qs goes ret (Jump l) z = Jumps goes l × SomeStay ts z
  ArmsEnded ts qs goes ret Returned z = (ret ≡ true) × SomeStay ts z
  ArmsEnded ts qs goes ret Stopped z = Unit {0}

  kept_one : (t : Transformer) (ts : List Transformer) (z : Store) → In t ts → Stayed e t still s z → Stayed e (one_of ts) still s z
  kept_one t [] z i h = elim i [ ]
  kept_one t (b ∷ ts) z i h = record { kept = kept_in e t (b ∷ ts) (numbers_of s) (numbers_of z) i h.kept; steady = h.steady }

  pub if_ends : (ts : List Transformer) (qs : List System) (goes : List ℕ → Bool) (ret own : Bool) → (own ≡ true → ⊥) → Tracks e (all_cells ts) → (f : Flow) (z : Store) → ArmsEnded ts qs goes ret f z → Ended e (one_of ts) (some_holds qs) goes ret own still s f z
  if_ends ts qs goes ret own never tracked Normal z h = record {
    does = does_one e h.t ts (numbers_of s) (numbers_of z) tracked h.t_in h.does;
    after = λ p st. some_hold h.q qs p h.q_in (h.after p st);
    steady = h.steady;
  }
  if_ends ts qs goes ret own never tracked (Jump l) z h = (h.0, kept_one h.1.t ts z h.1.t_in h.1.stayed)
  if_ends ts qs goes ret own never tracked Returned z h = (h.0, kept_one h.1.t ts z h.1.t_in h.1.stayed, λ k. absurd (never k))
  if_ends ts qs goes ret own never tracked Stopped z h = tt

  tested : (before : System) (t : Transformer) (z : Store) → Stayed e t still s z → Stayed e (followed (test before) t) still s z
  tested before t z h = record {
    kept = record { cells = λ c r q. h.kept.cells c r (right_out [] t.cells c q); foreign = λ u r n. h.kept.foreign u r (λ i. n (unit_right [] t.foreign u i)) };
    steady = h.steady;
  }

  -- an arm, begun where the tests so far hold
  pub arm_ends : (before : System) (t : Transformer) (q : System) (ts : List Transformer) (qs : List System) (ga gb : List ℕ → Bool) (ra rb own : Bool) → HoldsAt e before (numbers_of s) → In (followed (test before) t) ts → In q qs → ((ls : List ℕ) → ga ls ≡ true → gb ls ≡ true) → (ra ≡ true → rb ≡ true) → (f : Flow) (z : Store) → Ended e t q ga ra own still s f z → ArmsEnded ts qs gb rb f z
  arm_ends before t q ts qs ga gb ra rb own h i k gm rm Normal z d = record {
    t = followed (test before) t;
    t_in = i;
    does = does_then e (test before) t (numbers_of s) (numbers_of s) (numbers_of z) (does_test e before (numbers_of s) h) d.does;
    q = q;
    q_in = k;
    after = d.after;
    steady = d.steady;
  }
  arm_ends before t q ts qs ga gb ra rb own h i k gm rm (Jump l) z d = ((λ ls n. gm ls (d.0 ls n)), record { t = followed (test before) t; t_in = i; stayed = tested before t z d.1 })
  arm_ends before t q ts qs ga gb ra rb own h i k gm rm Returned z d = (rm d.0, record { t = followed (test before) t; t_in = i; stayed = tested before t z d.1 })
  arm_ends before t q ts qs ga gb ra rb own h i k gm rm Stopped z d = tt

  pub more_arms : (t : Transformer) (q : System) (ts : List Transformer) (qs : List System) (ga gb : List ℕ → Bool) (ra rb : Bool) → ((ls : List ℕ) → ga ls ≡ true → gb ls ≡ true) → (ra ≡ true → rb ≡ true) → (f : Flow) (z : Store) → ArmsEnded ts qs ga ra f z → ArmsEnded (t ∷ ts) (q ∷ qs) gb rb f z
  more_arms t q ts qs ga gb ra rb gm rm Normal z h = record { t = h.t; t_in = there h.t_in; does = h.does; q = h.q; q_in = there h.q_in; after = h.after; steady = h.steady }
  more_arms t q ts qs ga gb ra rb gm rm (Jump l) z h = ((λ ls n. gm ls (h.0 ls n)), record { t = h.1.t; t_in = there h.1.t_in; stayed = h.1.stayed })
  more_arms t q ts qs ga gb ra rb gm rm Returned z h = (rm h.0, record { t = h.1.t; t_in = there h.1.t_in; stayed = h.1.stayed })
  more_arms t q ts qs ga gb ra rb gm rm Stopped z h = tt
