-- Regions met with how a part is reached.
use Rattle.std.proofs.Common.{◌≡◌, ⊎_elim, inl, inr, ℕ, ℤ, List, [], ◌∷◌, ◌&&◌, Bool, true, false}
use Rattle.std.specs.Prelude.{not}
use Rattle.std.proofs.lemmas.Bool.{and_parts, or_parts, not-true}
use Rattle.affine_systems.specs.declared.row.System.{System}
use Rattle.affine_systems.specs.Points.{Point, HoldsAll}
use Rattle.affine_systems.specs.Calls.{meet}
use Rattle.affine_systems.proofs.CallLaws.{meet_holds, meet_back}
use Rattle.f77_ast.specs.Trees.{ExprTree}
use Rattle.affine_forms.specs.Conditions.{condition_of}
use Rattle.preconditions.specs.transformer_algebra.Claims.{Scene, AtStart, HoldsAt}
use Rattle.preconditions.specs.call_translation.Scopes.{ScopeTree}
use Rattle.in_out_regions.specs.region_sets.declared.region.Access.{Access}
use Rattle.in_out_regions.specs.region_sets.declared.region.Region.{Region}
use Rattle.in_out_regions.specs.region_sets.Regions.{any_weak}
use Rattle.hull_projection.specs.Unions.{HoldsSome}
use Rattle.in_out_regions.specs.region_sets.Claims.{Elements, Places, AreNumbers, DescribedBy, LiesIn, LiesInSet, IsSharp, IsSharpSet}
use Rattle.in_out_regions.proofs.RegionSets.DescribedLaws.{at_start}
use Rattle.in_out_regions.proofs.RegionSets.BackLaws.{meet_weak}
use Rattle.in_out_regions.proofs.RegionSets.StepLaws.{in_map, of_map}
use Rattle.in_out_regions.specs.array_regions.declared.arms.Reached.{Reached}
use Rattle.in_out_regions.specs.array_regions.Arms.{if_true, if_false, met_pieces, under_tests, all_met}

-- a point of pieces that were met is one of the system and of a piece
met_some : (s : System) (ss : List System) (p : Point) → any_weak (met_pieces s ss) ≡ false → HoldsSome p (met_pieces s ss) → HoldsSome p ss × (HoldsAll p s.rows × (s.weak ≡ false))
met_some s [] p w h = absurd h
met_some s (r ∷ ss) p w h =
    let q = or_parts (meet r s).weak (any_weak (met_pieces s ss)) w in
    ⊎_elim
    (λ g. (let b = meet_back p r s q.0 g in (inl b.0, (b.1, (meet_weak r s q.0).1))))
    (λ g. (let b = met_some s ss p q.1 g in (inr b.0, b.1)))
    h

module _ (m : Scene) (x : ℕ → ℤ) where
  -- no point of the system has these numbers
  abbrev pub Off : Reached → Type 0
  Off w = w.exact ≡ true → w.system.weak ≡ false → (p : Point) → AtStart m x p → HoldsAll p w.system.rows → ⊥

  pub lies_met : (e : Elements) (w : Reached) (r : Region) (u : ℕ) → HoldsAt m w.system x → LiesIn m e r x u → LiesIn m e (under_tests w r) x u
  lies_met e w r u h l = record { phi = l.phi; there = l.there; described = λ n a. met n a (l.described n a) }
    where
      met : (n : ℕ → ℤ) → AreNumbers m x n → DescribedBy r.pieces n l.phi → DescribedBy (met_pieces w.system r.pieces) n l.phi
      met n a d = record {
        piece = meet d.piece w.system;
        is_one = in_map (λ (q : System). meet q w.system) d.piece r.pieces d.is_one;
        holds = λ p c ph. meet_holds p d.piece w.system (d.holds p c ph, h p (at_start m x n p a c));
      }

  sharp_parts : (w : Reached) (r : Region) → (under_tests w r).exact ≡ true → (r.exact ≡ true) × (w.exact ≡ true) × (any_weak (met_pieces w.system r.pieces) ≡ false)
  sharp_parts w r e =
      let q = and_parts (r.exact && w.exact) (not (any_weak (met_pieces w.system r.pieces))) e in
      let z = and_parts r.exact w.exact q.0 in
      (z.0, z.1, not-true (any_weak (met_pieces w.system r.pieces)) q.1)

  pub sharp_met : (e : Elements) (w : Reached) (r : Region) (c : ℕ → Bool) → IsSharp m e r x c → IsSharp m e (under_tests w r) x c
  sharp_met e w r c h t p st g = let q = sharp_parts w r t in h q.0 p st (met_some w.system r.pieces p q.2 g).0

  pub sharp_off : (e : Elements) (w : Reached) (r : Region) (c : ℕ → Bool) → Off w → IsSharp m e (under_tests w r) x c
  sharp_off e w r c o t p st g =
      let q = sharp_parts w r t in
      let z = met_some w.system r.pieces p q.2 g in
      absurd (o q.1 z.1.1 p st z.1.0)

  module _ (at : Places) where
    pub set_met : (a : Access) (w : Reached) (rs : List Region) (u : ℕ) → HoldsAt m w.system x → LiesInSet m at a rs x u → LiesInSet m at a (all_met w rs) x u
    set_met a w rs u h l = record { region = under_tests w l.region; is_one = in_map (under_tests w) l.region rs l.is_one; kind = l.kind; lies = lies_met (at l.region.variable) w l.region u h l.lies }

    pub all_sharp_met : (w : Reached) (rs : List Region) (c : Access → ℕ → Bool) → IsSharpSet m at rs x c → IsSharpSet m at (all_met w rs) x c
    all_sharp_met w rs c h = of_map (under_tests w) (λ (r : Region). IsSharp m (at r.variable) r x (c r.kind)) rs (λ r i. sharp_met (at r.variable) w r (c r.kind) (h r i))

    pub all_sharp_off : (w : Reached) (rs : List Region) (c : Access → ℕ → Bool) → Off w → IsSharpSet m at (all_met w rs) x c
    all_sharp_off w rs c o = of_map (under_tests w) (λ (r : Region). IsSharp m (at r.variable) r x (c r.kind)) rs (λ r i. sharp_off (at r.variable) w r (c r.kind) o)

  -- ---- past tests

  module _ (k : ScopeTree) (e : ExprTree) (w : Reached) where
    pub holds_true : HoldsAt m w.system x → HoldsAt m (condition_of k.scalars e).yes x → HoldsAt m (if_true k e w).system x
    holds_true h g p st = meet_holds p w.system (condition_of k.scalars e).yes (h p st, g p st)

    pub holds_false : HoldsAt m w.system x → HoldsAt m (condition_of k.scalars e).no x → HoldsAt m (if_false k e w).system x
    holds_false h g p st = meet_holds p w.system (condition_of k.scalars e).no (h p st, g p st)

    pub off_true : Off w → Off (if_true k e w)
    off_true o t v p st h =
        let q = and_parts w.exact (condition_of k.scalars e).yes_exact t in
        let z = meet_weak w.system (condition_of k.scalars e).yes v in
        o q.0 z.0 p st (meet_back p w.system (condition_of k.scalars e).yes v h).0

    pub off_false : Off w → Off (if_false k e w)
    off_false o t v p st h =
        let q = and_parts w.exact (condition_of k.scalars e).no_exact t in
        let z = meet_weak w.system (condition_of k.scalars e).no v in
        o q.0 z.0 p st (meet_back p w.system (condition_of k.scalars e).no v h).0

    -- the test is false, and the true side says no more than it should
    pub test_off_true : ((condition_of k.scalars e).yes_exact ≡ true → (condition_of k.scalars e).yes.weak ≡ false → (p : Point) → AtStart m x p → HoldsAll p (condition_of k.scalars e).yes.rows → ⊥) → Off (if_true k e w)
    test_off_true o t v p st h =
        let q = and_parts w.exact (condition_of k.scalars e).yes_exact t in
        let z = meet_weak w.system (condition_of k.scalars e).yes v in
        o q.1 z.1 p st (meet_back p w.system (condition_of k.scalars e).yes v h).1

    pub test_off_false : ((condition_of k.scalars e).no_exact ≡ true → (condition_of k.scalars e).no.weak ≡ false → (p : Point) → AtStart m x p → HoldsAll p (condition_of k.scalars e).no.rows → ⊥) → Off (if_false k e w)
    test_off_false o t v p st h =
        let q = and_parts w.exact (condition_of k.scalars e).no_exact t in
        let z = meet_weak w.system (condition_of k.scalars e).no v in
        o q.1 z.1 p st (meet_back p w.system (condition_of k.scalars e).no v h).1
