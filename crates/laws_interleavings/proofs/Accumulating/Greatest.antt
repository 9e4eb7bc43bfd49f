-- Right sides that accumulate the greatest or the least of numbers.
use Rattle.std.proofs.Common.{◌≡◌, arith, ℕ, List, [], ◌∷◌, Bool, true, false, refl, sym, ap, ap₂, subst, ◌∙◌, ℤ, Option, Some}
use Rattle.std.specs.Prelude.{if◌then◌else◌}
use Rattle.std.specs.Int.{int_max, int_min}
use Rattle.std.proofs.lemmas.Int.{ints}
use Rattle.f77_ast.specs.Trees.{ExprTree}
use Rattle.f77_ast.specs.Trees as tree
use Rattle.f77_ast.specs.Store.{Int, Content, content}
use Rattle.f77_ast.specs.Steps.{Steps, Done, ◌>>=◌}
use Rattle.f77_ast.specs.Numbers.{Intrinsic, intrinsic_named}
use Rattle.f77_ast.specs.Numbers as number
use Rattle.f77_ast.specs.Places.{Meant, Variable, Function, Names, Places}
use Rattle.f77_ast.specs.Values.{intrinsic_value, element_value, value, values}
use Rattle.laws_interleavings.specs.Reductions.{ReduceOp, Max, Min, tag_of, joined, Accumulator, operator_at}
use Rattle.laws_interleavings.specs.Rides.{Phase, Outside, Inside}
use Rattle.laws_interleavings.specs.Accumulated.{IsClear, IsFunctionOf}
use Rattle.laws_interleavings.proofs.Accumulating.To.{RidesTo, rides_then, rides_alone, rides_inside, reads_clear, Both}
use Rattle.laws_interleavings.proofs.Accumulating.Reading.{reads_value}
use Rattle.laws_interleavings.proofs.Accumulating.Chains.{Opened, opens}
use Rattle.laws_interleavings.proofs.Accumulating.Added.{Amount}

-- of MAX and MIN
pub record Laws (p : ReduceOp) (i : Intrinsic) : Type 0 where
  pub only : (o : Option Intrinsic) → IsFunctionOf p o → o ≡ Some i
  pub gives : (c k : ℤ) → intrinsic_value (Some i) (c ∷ k ∷ []) ≡ Done (content Int (joined p c k))
  pub comm : (a b : ℤ) → joined p a b ≡ joined p b a

pub max_laws : Laws Max number.Max
max_laws = record { only = λ o h. h; gives = λ c k. refl; comm = λ a b. comm a b }
  where
    comm : (a b : ℤ) → int_max a b ≡ int_max b a
    comm a b = grind (arith, ints)

pub min_laws : Laws Min number.Min
min_laws = record { only = λ o h. h; gives = λ c k. refl; comm = λ a b. comm a b }
  where
    comm : (a b : ℤ) → int_min a b ≡ int_min b a
    comm a b = grind (arith, ints)

module _ (p : ReduceOp) (i : Intrinsic) (laws : Laws p i) (as' : List Accumulator) (w : Names) (at : Places) (x : List ℕ) (v : ℕ) (stands : w x ≡ Variable v) (one : operator_at as' (at v).first ≡ Some p) (tag : (at v).tag ≡ tag_of p) where
  -- what was read
  record Read (m n c d : ℤ) : Type 0 where
    first : c ≡ m
    second : d ≡ n

  was_read : (m n : ℤ) → Read m n m n
  was_read m n = record { first = refl; second = refl }

  -- the arguments, inside an accumulation: one of them is what was read, the other is the same
  record Arguments (m n : ℤ) (ns ls : List ℤ) : Type 0 where
    other : ℤ
    swapped : Bool
    first : ns ≡ (if swapped then other ∷ m ∷ [] else m ∷ other ∷ [])
    second : ls ≡ (if swapped then other ∷ n ∷ [] else n ∷ other ∷ [])

  abbrev Given : Phase → List ℤ → List ℤ → Type 0
  Given Outside ns ls = ⊥
  Given (Inside y o m n) ns ls = (y ≡ (at v).first) × (o ≡ p) × Arguments m n ns ls

  gives_so : (m k : ℤ) (s : Bool) → intrinsic_value (Some i) (if s then k ∷ m ∷ [] else m ∷ k ∷ []) ≡ Done (content Int (joined p m k))
  gives_so m k false = laws.gives m k
  gives_so m k true = laws.gives k m ∙ ap (λ z. Done (content Int z)) (laws.comm k m)

  called : (f : List ℕ) → w f ≡ Function → IsFunctionOf p (intrinsic_named f) → (ns : List ℤ) → element_value (w f) f at ns ≡ intrinsic_value (Some i) ns
  called f e h ns = ap (λ (m : Meant). element_value m f at ns) e ∙ ap (λ o. intrinsic_value o ns) (laws.only (intrinsic_named f) h)

  -- what the function gives of them
  gives_amount : (f : List ℕ) → w f ≡ Function → IsFunctionOf p (intrinsic_named f) → (ph : Phase) (ns ls : List ℤ) → Given ph ns ls →
      RidesTo as' (Opened as' w at x v stands p one tag (Amount p)) ph (element_value (w f) f at ns) (element_value (w f) f at ls)
  gives_amount f e h Outside ns ls q = absurd q
  gives_amount f e h (Inside y o m n) ns ls q =
      let r = q.2 in
      let one_side = called f e h ns ∙ ap (intrinsic_value (Some i)) r.first ∙ gives_so m r.other r.swapped in
      let two_side = called f e h ls ∙ ap (intrinsic_value (Some i)) r.second ∙ gives_so n r.other r.swapped in
      subst (λ (t : Steps Content). RidesTo as' (Opened as' w at x v stands p one tag (Amount p)) (Inside y o m n) t (element_value (w f) f at ls)) (sym one_side)
      (subst (λ (t : Steps Content). RidesTo as' (Opened as' w at x v stands p one tag (Amount p)) (Inside y o m n) (Done (content Int (joined p m r.other))) t) (sym two_side)
      (q.0, q.1, record { amount = r.other; first = refl; second = refl }))

  -- ---- MAX(V,e)

  abbrev Single : Phase → Phase → List ℤ → List ℤ → Type 0
  Single phase ph ns ls = (ph ≡ phase) × ((k : ℤ) × (ns ≡ k ∷ []) × (ls ≡ k ∷ []))

  single : (phase ph : Phase) (k l : Content) → Both as' phase ph k l → RidesTo as' (Single phase) ph (Done (k.number ∷ [])) (Done (l.number ∷ []))
  single phase Outside k l both = (both.0, (k.number, refl, ap (λ (c : Content). c.number ∷ []) (sym both.1)))
  single phase (Inside y o m n) k l both = (both.0, (k.number, refl, ap (λ (c : Content). c.number ∷ []) (sym both.1)))

  two : (m n : ℤ) (c d : Content) → Read m n c.number d.number → (ph : Phase) (ns ls : List ℤ) → Single (Inside ((at v).first) p m n) ph ns ls →
      RidesTo as' Given ph (Done (c.number ∷ ns)) (Done (d.number ∷ ls))
  two m n c d r ph ns ls q =
      subst (λ ph. RidesTo as' Given ph (Done (c.number ∷ ns)) (Done (d.number ∷ ls))) (sym q.0)
      (refl, refl, record { other = q.1.0; swapped = false; first = ap₂ (λ (a : ℤ) (b : List ℤ). a ∷ b) r.first q.1.1; second = ap₂ (λ (a : ℤ) (b : List ℤ). a ∷ b) r.second q.1.2 })

  rest : (b : ExprTree) → IsClear as' w at b → (ph : Phase) (c d : Content) → Opened as' w at x v stands p one tag Read ph c d →
      RidesTo as' Given ph (values (tree.more_exprs b tree.no_exprs) w at >>= λ ns. Done (c.number ∷ ns)) (values (tree.more_exprs b tree.no_exprs) w at >>= λ ns. Done (d.number ∷ ns))
  rest b cb Outside c d q = absurd q
  rest b cb (Inside y o m n) c d q =
      subst (λ y. RidesTo as' Given (Inside y o m n) (values (tree.more_exprs b tree.no_exprs) w at >>= λ ns. Done (c.number ∷ ns)) (values (tree.more_exprs b tree.no_exprs) w at >>= λ ns. Done (d.number ∷ ns))) (sym q.0)
      (subst (λ o. RidesTo as' Given (Inside ((at v).first) o m n) (values (tree.more_exprs b tree.no_exprs) w at >>= λ ns. Done (c.number ∷ ns)) (values (tree.more_exprs b tree.no_exprs) w at >>= λ ns. Done (d.number ∷ ns))) (sym q.1)
      (rides_then as' (Single (Inside ((at v).first) p m n)) Given (Inside ((at v).first) p m n) (values (tree.more_exprs b tree.no_exprs) w at) (values (tree.more_exprs b tree.no_exprs) w at) (λ ns. Done (c.number ∷ ns)) (λ ns. Done (d.number ∷ ns))
      (rides_then as' (Both as' (Inside ((at v).first) p m n)) (Single (Inside ((at v).first) p m n)) (Inside ((at v).first) p m n) (value b w at) (value b w at) (λ k. Done (k.number ∷ [])) (λ k. Done (k.number ∷ []))
      (rides_inside as' ((at v).first) p m n (value b w at) (reads_value as' w at b cb)) (single (Inside ((at v).first) p m n)))
      (two m n c d q.2)))

  pub pick_first : (f : List ℕ) (b : ExprTree) → w f ≡ Function → IsFunctionOf p (intrinsic_named f) → IsClear as' w at b →
      RidesTo as' (Opened as' w at x v stands p one tag (Amount p)) Outside (value (tree.element f (tree.more_exprs (tree.name x) (tree.more_exprs b tree.no_exprs))) w at)
      (value (tree.element f (tree.more_exprs (tree.name x) (tree.more_exprs b tree.no_exprs))) w at)
  pick_first f b e h cb =
      rides_then as' Given (Opened as' w at x v stands p one tag (Amount p)) Outside (values (tree.more_exprs (tree.name x) (tree.more_exprs b tree.no_exprs)) w at) (values (tree.more_exprs (tree.name x) (tree.more_exprs b tree.no_exprs)) w at)
      (element_value (w f) f at) (element_value (w f) f at)
      (rides_then as' (Opened as' w at x v stands p one tag Read) Given Outside (value (tree.name x) w at) (value (tree.name x) w at)
      (λ c. values (tree.more_exprs b tree.no_exprs) w at >>= λ ns. Done (c.number ∷ ns)) (λ c. values (tree.more_exprs b tree.no_exprs) w at >>= λ ns. Done (c.number ∷ ns)) (opens as' w at x v stands p one tag Read was_read) (rest b cb))
      (gives_amount f e h)

  -- ---- MAX(e,V)

  abbrev Alone : Phase → List ℤ → List ℤ → Type 0
  Alone Outside ns ls = ⊥
  Alone (Inside y o m n) ns ls = (y ≡ (at v).first) × (o ≡ p) × (ns ≡ m ∷ []) × (ls ≡ n ∷ [])

  alone : (ph : Phase) (c d : Content) → Opened as' w at x v stands p one tag Read ph c d → RidesTo as' Alone ph (Done (c.number ∷ [])) (Done (d.number ∷ []))
  alone Outside c d q = absurd q
  alone (Inside y o m n) c d q = (q.0, q.1, ap (λ (z : ℤ). z ∷ []) q.2.first, ap (λ (z : ℤ). z ∷ []) q.2.second)

  behind : (k : ℤ) (ph : Phase) (ns ls : List ℤ) → Alone ph ns ls → RidesTo as' Given ph (Done (k ∷ ns)) (Done (k ∷ ls))
  behind k Outside ns ls q = absurd q
  behind k (Inside y o m n) ns ls q = (q.0, q.1, record { other = k; swapped = true; first = ap (λ (z : List ℤ). k ∷ z) q.2; second = ap (λ (z : List ℤ). k ∷ z) q.3 })

  last_read : (ph : Phase) (k l : Content) → Both as' Outside ph k l →
      RidesTo as' Given ph (values (tree.more_exprs (tree.name x) tree.no_exprs) w at >>= λ ns. Done (k.number ∷ ns)) (values (tree.more_exprs (tree.name x) tree.no_exprs) w at >>= λ ns. Done (l.number ∷ ns))
  last_read ph k l both =
      subst (λ ph. RidesTo as' Given ph (values (tree.more_exprs (tree.name x) tree.no_exprs) w at >>= λ ns. Done (k.number ∷ ns)) (values (tree.more_exprs (tree.name x) tree.no_exprs) w at >>= λ ns. Done (l.number ∷ ns))) (sym both.0)
      (subst (λ (l : Content). RidesTo as' Given Outside (values (tree.more_exprs (tree.name x) tree.no_exprs) w at >>= λ ns. Done (k.number ∷ ns)) (values (tree.more_exprs (tree.name x) tree.no_exprs) w at >>= λ ns. Done (l.number ∷ ns))) both.1
      (rides_then as' Alone Given Outside (values (tree.more_exprs (tree.name x) tree.no_exprs) w at) (values (tree.more_exprs (tree.name x) tree.no_exprs) w at) (λ ns. Done (k.number ∷ ns)) (λ ns. Done (k.number ∷ ns))
      (rides_then as' (Opened as' w at x v stands p one tag Read) Alone Outside (value (tree.name x) w at) (value (tree.name x) w at) (λ c. Done (c.number ∷ [])) (λ c. Done (c.number ∷ [])) (opens as' w at x v stands p one tag Read was_read) alone)
      (behind k.number)))

  pub pick_last : (f : List ℕ) (a : ExprTree) → w f ≡ Function → IsFunctionOf p (intrinsic_named f) → IsClear as' w at a →
      RidesTo as' (Opened as' w at x v stands p one tag (Amount p)) Outside (value (tree.element f (tree.more_exprs a (tree.more_exprs (tree.name x) tree.no_exprs))) w at)
      (value (tree.element f (tree.more_exprs a (tree.more_exprs (tree.name x) tree.no_exprs))) w at)
  pick_last f a e h ca =
      rides_then as' Given (Opened as' w at x v stands p one tag (Amount p)) Outside (values (tree.more_exprs a (tree.more_exprs (tree.name x) tree.no_exprs)) w at) (values (tree.more_exprs a (tree.more_exprs (tree.name x) tree.no_exprs)) w at)
      (element_value (w f) f at) (element_value (w f) f at)
      (rides_then as' (Both as' Outside) Given Outside (value a w at) (value a w at) (λ c. values (tree.more_exprs (tree.name x) tree.no_exprs) w at >>= λ ns. Done (c.number ∷ ns)) (λ c. values (tree.more_exprs (tree.name x) tree.no_exprs) w at >>= λ ns. Done (c.number ∷ ns))
      (rides_alone as' (value a w at) (reads_clear as' (value a w at) (reads_value as' w at a ca))) last_read)
      (gives_amount f e h)
