-- What gathering keeps: each unit stays in a region of its kind, and what exact regions say stays so.
use Rattle.std.proofs.Common.{◌≡◌, ℕ, ℤ, List, [], ◌∷◌, ◌++◌, Bool, true, false, refl, sym, subst, ◌∙◌, inl, inr, ⊎_elim, ◌⊎◌, Ordering}
use Rattle.std.specs.Prelude.{if◌then◌else◌, not, ◌&&◌}
use Rattle.std.specs.declared.cmp.Ordering.TheVariants.{Less, Equal, Greater}
use Rattle.std.specs.Ordering.{nat_cmp, match_ordering}
use Rattle.affine_systems.specs.declared.row.System.{System}
use Rattle.f77_ast.specs.Variables.{variable_cmp}
use Rattle.transformers.specs.transformer_algebra.Laws.{In, here, there}
use Rattle.transformers.specs.transformer_algebra.Claims.{Scene}
use Rattle.region_sets.specs.declared.region.Access.{Access}
use Rattle.region_sets.specs.declared.region.Access.TheVariants.{Read, Write, In as ReadFirst, Out}
use Rattle.region_sets.specs.declared.region.Region.{Region}
use Rattle.region_sets.specs.Regions.{any_weak, remade}
use Rattle.region_sets.specs.Within.{all_within}
use Rattle.region_sets.specs.Trim.{trim, trimmed_to}
use Rattle.region_sets.specs.Sets.{access_number, region_cmp, with_pieces, with_region, with_trimmed, with_regions, all_trimmed, unite_all}
use Rattle.region_sets.specs.Unite.{unite}
use Rattle.region_sets.specs.Claims.{DescribedBy, Elements, LiesIn, IsSharp, Places, AreByOrder, LiesInSet, IsSharpSet}
use Rattle.region_sets.specs.Laws.{HasAll, HasUnits, IsAsSharp}
use Rattle.std.proofs.lemmas.Bool.{and_parts}
use Rattle.region_sets.proofs.DescribedLaws.{stored}
use Rattle.region_sets.proofs.TrimLaws.{trim_by, trim_back}
use Rattle.region_sets.proofs.UniteLaws.{unite_has, unite_exact}
use Rattle.fx_lists.proofs.Orders.{then_equal, same_numbers}

none_in : {A : Type 0} {B : Type 0} (a : A) → In a [] → B
none_in a i = elim i [ ]

-- ---- regions with their pieces trimmed

abbrev pub alive : Region → Region
alive r = remade r (r.exact && (trim r.pieces).exact) (trim r.pieces).pieces

lies_alive : (m : Scene) (at : Elements) (r : Region) (x : ℕ → ℤ) (u : ℕ) → LiesIn m at r x u → LiesIn m at (alive r) x u
lies_alive m at r x u l = record { phi = l.phi; there = l.there; described = λ n a. trim_by r.pieces n l.phi (l.described n a) }

-- what describes it at the numbers of the units
described_now : (m : Scene) (at : Elements) (r : Region) (x : ℕ → ℤ) (u : ℕ) (l : LiesIn m at r x u) → DescribedBy r.pieces (stored m x) l.phi
described_now m at r x u l = l.described (stored m x) (λ c t. refl)

sharp_alive : (m : Scene) (at : Elements) (r : Region) (x : ℕ → ℤ) (accessed : ℕ → Bool) → IsSharp m at r x accessed → IsSharp m at (alive r) x accessed
sharp_alive m at r x accessed s e p st h =
    let k = and_parts (r.exact && (trim r.pieces).exact) (not (any_weak (trim r.pieces).pieces)) e in
    let l = and_parts r.exact (trim r.pieces).exact k.0 in
    s l.0 p st (trim_back p r.pieces l.1 h)

-- where a piece is left, the region is handed on; where it does not matter, it may be
with_some : (P : List Region → Type 0) (r : Region) (e : Bool) (ss : List System) (k : Region → List Region) (none : List Region) (s : System) → In s ss → P (k (remade r e ss)) → P (with_pieces r e ss k none)
with_some P r e [] k none s i h = none_in s i
with_some P r e (u ∷ ss) k none s i h = h

pub with_any : (P : List Region → Type 0) (r : Region) (e : Bool) (ss : List System) (k : Region → List Region) (none : List Region) → P (k (remade r e ss)) → P none → P (with_pieces r e ss k none)
with_any P r e [] k none h n = n
with_any P r e (u ∷ ss) k none h n = h

-- ---- the order of regions

same_access : (a b : Access) → access_number a ≡ access_number b → a ≡ b
same_access Read Read e = refl
same_access Read Write e = cc
same_access Read ReadFirst e = cc
same_access Read Out e = cc
same_access Write Read e = cc
same_access Write Write e = refl
same_access Write ReadFirst e = cc
same_access Write Out e = cc
same_access ReadFirst Read e = cc
same_access ReadFirst Write e = cc
same_access ReadFirst ReadFirst e = refl
same_access ReadFirst Out e = cc
same_access Out Read e = cc
same_access Out Write e = cc
same_access Out ReadFirst e = cc
same_access Out Out e = refl

-- two regions of one place in the order
record Fellows (at : Places) (r q : Region) : Type 0 where
  kind : r.kind ≡ q.kind
  place : at r.variable ≡ at q.variable

fellows : (at : Places) → AreByOrder at → (r q : Region) → region_cmp r q ≡ Equal → Fellows at r q
fellows at o r q e =
    let b = then_equal (nat_cmp (access_number r.kind) (access_number q.kind)) (variable_cmp r.variable q.variable) e in
    record { kind = same_access r.kind q.kind (same_numbers (access_number r.kind) (access_number q.kind) b.0); place = o r.variable q.variable b.1 }

-- ---- two regions united

united_kind : (k : Access) (a b : Region) → a.kind ≡ k → b.kind ≡ k → (unite a b).kind ≡ k
united_kind k a b p q = go (all_within a.pieces b.pieces) (all_within b.pieces a.pieces)
  where
    go : (m n : Bool) → (if m then remade a a.exact a.pieces else if n then remade b b.exact b.pieces else trimmed_to a (a.exact && b.exact) (a.pieces ++ b.pieces)).kind ≡ k
    go true n = p
    go false true = q
    go false false = p

united_place : (at : Places) (e : Elements) (a b : Region) → at a.variable ≡ e → at b.variable ≡ e → at (unite a b).variable ≡ e
united_place at e a b p q = go (all_within a.pieces b.pieces) (all_within b.pieces a.pieces)
  where
    go : (m n : Bool) → at (if m then remade a a.exact a.pieces else if n then remade b b.exact b.pieces else trimmed_to a (a.exact && b.exact) (a.pieces ++ b.pieces)).variable ≡ e
    go true n = p
    go false true = q
    go false false = p

lies_within : (m : Scene) (at : Elements) (r a : Region) (x : ℕ → ℤ) (u : ℕ) → HasAll r a → LiesIn m at a x u → LiesIn m at r x u
lies_within m at r a x u h l = record { phi = l.phi; there = l.there; described = λ n e. within n (l.described n e) }
  where
    within : (n : ℕ → ℤ) → DescribedBy a.pieces n l.phi → DescribedBy r.pieces n l.phi
    within n d = let w = h d.piece d.is_one in record { piece = w.piece; is_one = w.is_one; holds = λ p c ph. w.has p (d.holds p c ph) }

united_sharp : (m : Scene) (at : Elements) (a b : Region) (x : ℕ → ℤ) (accessed : ℕ → Bool) → IsSharp m at a x accessed → IsSharp m at b x accessed → IsSharp m at (unite a b) x accessed
united_sharp m at a b x accessed s t e p st h = ⊎_elim (λ k. s k.0 p st k.1) (λ k. t k.0 p st k.1) (unite_exact a b e p h)

-- ---- units in sets

module _ (m : Scene) (at : Places) (by_order : AreByOrder at) (k : Access) (x : ℕ → ℤ) (u : ℕ) where
  abbrev Lies : List Region → Type 0
  Lies rs = LiesInSet m at k rs x u

  lies_here : (r : Region) (rs : List Region) → r.kind ≡ k → LiesIn m (at r.variable) r x u → Lies (r ∷ rs)
  lies_here r rs e l = record { region = r; is_one = here; kind = e; lies = l }

  lies_later : (r : Region) (rs : List Region) → Lies rs → Lies (r ∷ rs)
  lies_later r rs l = record { region = l.region; is_one = there l.is_one; kind = l.kind; lies = l.lies }

  -- the first, or one of the others
  lies_split : (r : Region) (rs : List Region) → Lies (r ∷ rs) → ((r.kind ≡ k) × LiesIn m (at r.variable) r x u) ⊎ Lies rs
  lies_split r rs l = go l.region l.is_one l.kind l.lies
    where
      go : (q : Region) → In q (r ∷ rs) → q.kind ≡ k → LiesIn m (at q.variable) q x u → ((r.kind ≡ k) × LiesIn m (at r.variable) r x u) ⊎ Lies rs
      go q here e h = inl (e, h)
      go q (there i) e h = inr (record { region = q; is_one = i; kind = e; lies = h })

  -- in a region of the same place in the order
  lies_united : (q r : Region) → Fellows at r q → (r.kind ≡ k) → HasAll (unite q r) r → LiesIn m (at r.variable) r x u → ((unite q r).kind ≡ k) × LiesIn m (at (unite q r).variable) (unite q r) x u
  lies_united q r f e h l = (
    united_kind k q r (sym f.kind ∙ e) e,
    subst (λ (a : Elements). LiesIn m a (unite q r) x u) (sym (united_place at (at r.variable) q r (sym f.place) refl)) (lies_within m (at r.variable) (unite q r) r x u h l),
  )

  lies_united_first : (q r : Region) → Fellows at r q → (q.kind ≡ k) → HasAll (unite q r) q → LiesIn m (at q.variable) q x u → ((unite q r).kind ≡ k) × LiesIn m (at (unite q r).variable) (unite q r) x u
  lies_united_first q r f e h l = (
    united_kind k q r e (f.kind ∙ e),
    subst (λ (a : Elements). LiesIn m a (unite q r) x u) (sym (united_place at (at q.variable) q r refl f.place)) (lies_within m (at q.variable) (unite q r) q x u h l),
  )

  -- put into a set
  lies_put : (r : Region) (qs : List Region) → r.kind ≡ k → LiesIn m (at r.variable) r x u → Lies (with_region r qs)
  lies_put r [] e l = lies_here r [] e l
  lies_put r (q ∷ qs) e l = go (region_cmp r q) refl (lies_put r qs e l)
    where
      go : (o : Ordering) → region_cmp r q ≡ o → Lies (with_region r qs) → Lies (match_ordering o (r ∷ (q ∷ qs)) (unite q r ∷ qs) (q ∷ with_region r qs))
      go Less c ih = lies_here r (q ∷ qs) e l
      go Equal c ih = let w = lies_united q r (fellows at by_order r q c) e (unite_has q r).1 l in lies_here (unite q r) qs w.0 w.1
      go Greater c ih = lies_later q (with_region r qs) ih

  lies_beside : (r : Region) (qs : List Region) → Lies qs → Lies (with_region r qs)
  lies_beside r [] l = none_in l.region l.is_one
  lies_beside r (q ∷ qs) l = go (region_cmp r q) refl (λ h. lies_beside r qs h)
    where
      go : (o : Ordering) → region_cmp r q ≡ o → (Lies qs → Lies (with_region r qs)) → Lies (match_ordering o (r ∷ (q ∷ qs)) (unite q r ∷ qs) (q ∷ with_region r qs))
      go Less c ih = lies_later r (q ∷ qs) l
      go Equal c ih =
          ⊎_elim
          (λ h. let w = lies_united_first q r (fellows at by_order r q c) h.0 (unite_has q r).0 h.1 in lies_here (unite q r) qs w.0 w.1)
          (λ h. lies_later (unite q r) qs h)
          (lies_split q qs l)
      go Greater c ih = ⊎_elim (λ h. lies_here q (with_region r qs) h.0 h.1) (λ h. lies_later q (with_region r qs) (ih h)) (lies_split q qs l)

  lies_put_alive : (r : Region) (qs : List Region) → r.kind ≡ k → LiesIn m (at r.variable) r x u → Lies (with_trimmed r qs)
  lies_put_alive r qs e l =
      let a = lies_alive m (at r.variable) r x u l in
      let d = described_now m (at r.variable) (alive r) x u a in
      with_some Lies r (r.exact && (trim r.pieces).exact) (trim r.pieces).pieces (λ s. with_region s qs) qs d.piece d.is_one (lies_put (alive r) qs e a)

  lies_beside_alive : (r : Region) (qs : List Region) → Lies qs → Lies (with_trimmed r qs)
  lies_beside_alive r qs l = with_any Lies r (r.exact && (trim r.pieces).exact) (trim r.pieces).pieces (λ s. with_region s qs) qs (lies_beside (alive r) qs l) l

  lies_put_all : (rs qs : List Region) → Lies qs ⊎ Lies rs → Lies (with_regions qs rs)
  lies_put_all [] qs (inl l) = l
  lies_put_all [] qs (inr l) = none_in l.region l.is_one
  lies_put_all (r ∷ rs) qs (inl l) = lies_put_all rs (with_trimmed r qs) (inl (lies_beside_alive r qs l))
  lies_put_all (r ∷ rs) qs (inr l) =
      lies_put_all rs (with_trimmed r qs) (⊎_elim (λ h. inl (lies_put_alive r qs h.0 h.1)) (λ h. inr h) (lies_split r rs l))

  lies_trimmed : (rs : List Region) → Lies rs → Lies (all_trimmed rs)
  lies_trimmed [] l = l
  lies_trimmed (r ∷ rs) l =
      ⊎_elim
      (λ h.
      let a = lies_alive m (at r.variable) r x u h.1 in
      let d = described_now m (at r.variable) (alive r) x u a in
      with_some Lies r (r.exact && (trim r.pieces).exact) (trim r.pieces).pieces (λ s. s ∷ all_trimmed rs) (all_trimmed rs) d.piece d.is_one (lies_here (alive r) (all_trimmed rs) h.0 a))
      (λ h. let t = lies_trimmed rs h in with_any Lies r (r.exact && (trim r.pieces).exact) (trim r.pieces).pieces (λ s. s ∷ all_trimmed rs) (all_trimmed rs) (lies_later (alive r) (all_trimmed rs) t) t)
      (lies_split r rs l)

pub gathered_units : (rs : List Region) → HasUnits rs (unite_all rs)
gathered_units rs m at o k x u l = lies_trimmed m at o k x u (with_regions [] rs) (lies_put_all m at o k x u rs [] (inr l))

-- ---- what exact regions say

module _ (m : Scene) (at : Places) (by_order : AreByOrder at) (x : ℕ → ℤ) (accessed : Access → ℕ → Bool) where
  abbrev One : Region → Type 0
  One r = IsSharp m (at r.variable) r x (accessed r.kind)

  abbrev Sharp : List Region → Type 0
  Sharp rs = IsSharpSet m at rs x accessed

  no_region : Sharp []
  no_region r i = none_in r i

  one_more : (r : Region) (rs : List Region) → One r → Sharp rs → Sharp (r ∷ rs)
  one_more r rs s t q here = s
  one_more r rs s t q (there i) = t q i

  first_of : (r : Region) (rs : List Region) → Sharp (r ∷ rs) → One r
  first_of r rs s = s r here

  rest_of : (r : Region) (rs : List Region) → Sharp (r ∷ rs) → Sharp rs
  rest_of r rs s q i = s q (there i)

  as_placed : (r : Region) (e : Elements) (k : Access) → at r.variable ≡ e → r.kind ≡ k → One r → IsSharp m e r x (accessed k)
  as_placed r e k p q h =
      subst (λ (j : Access). IsSharp m e r x (accessed j)) q (subst (λ (a : Elements). IsSharp m a r x (accessed r.kind)) p h)

  as_one : (r : Region) (e : Elements) (k : Access) → at r.variable ≡ e → r.kind ≡ k → IsSharp m e r x (accessed k) → One r
  as_one r e k p q h =
      subst (λ (a : Elements). IsSharp m a r x (accessed r.kind)) (sym p) (subst (λ (j : Access). IsSharp m e r x (accessed j)) (sym q) h)

  united_one : (q r : Region) → Fellows at r q → One q → One r → One (unite q r)
  united_one q r f s t =
      let e = at q.variable in
      let k = q.kind in
      as_one (unite q r) e k (united_place at e q r refl f.place) (united_kind k q r refl f.kind)
      (united_sharp m e q r x (accessed k) (as_placed q e k refl refl s) (as_placed r e k f.place f.kind t))

  sharp_put : (r : Region) (qs : List Region) → One r → Sharp qs → Sharp (with_region r qs)
  sharp_put r [] s t = one_more r [] s t
  sharp_put r (q ∷ qs) s t = go (region_cmp r q) refl (sharp_put r qs s (rest_of q qs t))
    where
      go : (o : Ordering) → region_cmp r q ≡ o → Sharp (with_region r qs) → Sharp (match_ordering o (r ∷ (q ∷ qs)) (unite q r ∷ qs) (q ∷ with_region r qs))
      go Less c ih = one_more r (q ∷ qs) s t
      go Equal c ih = one_more (unite q r) qs (united_one q r (fellows at by_order r q c) (first_of q qs t) s) (rest_of q qs t)
      go Greater c ih = one_more q (with_region r qs) (first_of q qs t) ih

  alive_one : (r : Region) → One r → One (alive r)
  alive_one r s = sharp_alive m (at r.variable) r x (accessed r.kind) s

  sharp_put_all : (rs qs : List Region) → Sharp qs → Sharp rs → Sharp (with_regions qs rs)
  sharp_put_all [] qs s t = s
  sharp_put_all (r ∷ rs) qs s t =
      sharp_put_all rs (with_trimmed r qs)
      (with_any Sharp r (r.exact && (trim r.pieces).exact) (trim r.pieces).pieces (λ a. with_region a qs) qs (sharp_put (alive r) qs (alive_one r (first_of r rs t)) s) s)
      (rest_of r rs t)

  sharp_trimmed : (rs : List Region) → Sharp rs → Sharp (all_trimmed rs)
  sharp_trimmed [] s = s
  sharp_trimmed (r ∷ rs) s =
      let t = sharp_trimmed rs (rest_of r rs s) in
      with_any Sharp r (r.exact && (trim r.pieces).exact) (trim r.pieces).pieces (λ a. a ∷ all_trimmed rs) (all_trimmed rs) (one_more (alive r) (all_trimmed rs) (alive_one r (first_of r rs s)) t) t

pub gathered_sharp : (rs : List Region) → IsAsSharp rs (unite_all rs)
gathered_sharp rs m at o x accessed s = sharp_trimmed m at o x accessed (with_regions [] rs) (sharp_put_all m at o x accessed rs [] (no_region m at o x accessed) s)
