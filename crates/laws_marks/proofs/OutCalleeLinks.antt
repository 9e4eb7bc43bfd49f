-- Which links a variable of the caller has to variables of the module that is called: those of dummies, and of variables of blocks.
use Rattle.std.proofs.Common.{◌≡◌, ◌⊎◌, inl, inr, ⊎_elim, ℕ, zero, suc, ◌+◌, ◌-◌, ◌<◌, ◌≤◌, min, max, List, [], ◌∷◌, Option, Some, None, Bool, true, false, ◌&&◌, refl, sym, ap, ◌∙◌, subst, arith, true≢false, nat_eq, nat_lt, nat_le}
use Rattle.std.specs.Prelude.{if◌then◌else◌, slice_get, bytes_eq}
use Rattle.std.proofs.lemmas.Bool.{and_from, eq-eqb, lt-ltb, ltb-true, ltb-false, leb-true}
use Rattle.std.proofs.lemmas.Slice.Eq.{bytes_eq-Decides}
use Rattle.f77_ast.specs.Trees.{ExprTree}
use Rattle.f77_ast.specs.Trees as tree
use Rattle.f77_ast.specs.declared.symbol.Place.{Place}
use Rattle.f77_ast.specs.declared.symbol.Place.TheVariants as place
use Rattle.f77_ast.specs.declared.variable.Variable.{Variable}
use Rattle.f77_ast.specs.declared.variable.Variable.TheVariants.{Own}
use Rattle.f77_ast.specs.Symbols.{BoundTree, SymbolTree, number_from}
use Rattle.f77_ast.specs.Shared.{symbol_at}
use Rattle.tracked_cells.specs.Standing.{has_bounds}
use Rattle.affine_systems.specs.declared.row.Row.{Row}
use Rattle.affine_forms.specs.declared.affine.Affine.{Affine}
use Rattle.preconditions.specs.transformer_algebra.Laws.{In, here, there}
use Rattle.in_out_regions.proofs.RegionSets.StepLaws.{in_either}
use Rattle.in_out_regions.specs.call_equations.declared.link.Link.{Link}
use Rattle.in_out_regions.specs.call_equations.Sides.{SidesTree}
use Rattle.in_out_regions.specs.call_equations.Links.{by_position, aligned_or, variable_link, subscripts_link, is_constant, variable_at, element_at, variable_of, element_of, expr_link, link_of}
use Rattle.in_out_regions.specs.region_translation.declared.units.Units.{Units}
use Rattle.in_out_regions.specs.region_translation.Names.{turned_rows}
use Rattle.in_out_regions.specs.region_translation.Units.{end_of, meet, units_of, reach_by, reach, reach_each, are_covered}
use Rattle.in_out_regions.specs.region_translation.Links.{link, if_actual, dummy_link, dummy_links, common_link, in_block, common_links, place_units, all_units}
use Rattle.f77_ast.specs.Variables.{same_variable}
use Rattle.preconditions.proofs.TransformerAlgebra.Members.{in_left, in_right}

-- ---- symbols by their numbers

-- what stands at a number stands in the list
pub record Stands (ss : List SymbolTree) (n : ℕ) (s : SymbolTree) : Type 0 where
  pub before : ℕ
  pub number : n ≡ suc before
  pub is_there : slice_get ss before ≡ Some s

pub stands : (ss : List SymbolTree) (n : ℕ) (s : SymbolTree) → symbol_at ss n ≡ Some s → Stands ss n s
stands ss n s e = go (nat_eq n 0) refl e
  where
    counted : (n : ℕ) → nat_eq n 0 ≡ false → n ≡ suc (n - 1)
    counted zero h = absurd (true≢false (sym (eq-eqb 0 0 refl) ∙ h))
    counted (suc n) h = omega arith

    go : (b : Bool) → nat_eq n 0 ≡ b → (if b then None else slice_get ss (n - 1)) ≡ Some s → Stands ss n s
    go true f h = cc
    go false f h = record { before = n - 1; number = counted n f; is_there = h }

-- ---- links of dummies to the caller

-- they are of a variable of the caller, with equations of their own
pub record IsOfCaller (c : SidesTree) (l : Link) : Type 0 where
  pub number : ℕ
  pub symbol : SymbolTree
  pub is_symbol : symbol_at c.caller.symbols number ≡ Some symbol
  pub variable : l.variable ≡ Own number
  pub moved : l.moved ≡ true

position_of : (n r : ℕ) (o : Option Row) (more bounds : List Row) → ((by_position n r o more bounds).variable ≡ Own n) × ((by_position n r o more bounds).moved ≡ true)
position_of n r None more bounds = (refl, refl)
position_of n r (Some e) more bounds = (refl, refl)

aligned_of : (n r : ℕ) (o : Option (List Row)) (l : Link) → (l.variable ≡ Own n) × (l.moved ≡ true) → ((aligned_or n r o l).variable ≡ Own n) × ((aligned_or n r o l).moved ≡ true)
aligned_of n r None l h = h
aligned_of n r (Some rs) l h = (refl, refl)

module _ (c : SidesTree) (ds : List BoundTree) where
  variable_link_of : (n : ℕ) (as' es : List BoundTree) → ((variable_link c n as' es).variable ≡ Own n) × ((variable_link c n as' es).moved ≡ true)
  variable_link_of n as' [] = (refl, refl)
  variable_link_of n as' (d ∷ es) = aligned_of n _ _ _ (position_of n _ _ _ _)

  subscripts_link_of : (n : ℕ) (fs : tree.ExprTrees) (as' es : List BoundTree) → ((subscripts_link c n fs as' es).variable ≡ Own n) × ((subscripts_link c n fs as' es).moved ≡ true)
  subscripts_link_of n fs as' [] = (refl, refl)
  subscripts_link_of n fs as' (d ∷ es) = position_of n _ _ _ _

  made_of : (n : ℕ) (t : SymbolTree) (l k : Link) → symbol_at c.caller.symbols n ≡ Some t → (k.variable ≡ Own n) × (k.moved ≡ true) → k ≡ l → IsOfCaller c l
  made_of n t l k q h e = record { number = n; symbol = t; is_symbol = q; variable = ap (λ (z : Link). z.variable) (sym e) ∙ h.0; moved = ap (λ (z : Link). z.moved) (sym e) ∙ h.1 }

  variable_is : (n : ℕ) (o : Option SymbolTree) (l : Link) → symbol_at c.caller.symbols n ≡ o → variable_at c ds n o ≡ Some l → IsOfCaller c l
  variable_is n None l q e = cc
  variable_is n (Some t) l q e = go (is_constant t.place) e
    where
      go : (b : Bool) → (if b then None else Some (variable_link c n t.bounds ds)) ≡ Some l → IsOfCaller c l
      go true h = cc
      go false h = (let same : variable_link c n t.bounds ds ≡ l = cc in made_of n t l (variable_link c n t.bounds ds) q (variable_link_of n t.bounds ds) same)

  element_is : (fs : tree.ExprTrees) (n : ℕ) (o : Option SymbolTree) (l : Link) → symbol_at c.caller.symbols n ≡ o → element_at c ds fs n o ≡ Some l → IsOfCaller c l
  element_is fs n None l q e = cc
  element_is fs n (Some t) l q e = go (has_bounds t.bounds) e
    where
      go : (b : Bool) → (if b then Some (subscripts_link c n fs t.bounds ds) else None) ≡ Some l → IsOfCaller c l
      go true h = (let same : subscripts_link c n fs t.bounds ds ≡ l = cc in made_of n t l (subscripts_link c n fs t.bounds ds) q (subscripts_link_of n fs t.bounds ds) same)
      go false h = cc

  named_is : (o : Option ℕ) (l : Link) → variable_of c ds o ≡ Some l → IsOfCaller c l
  named_is None l e = cc
  named_is (Some n) l e = variable_is n (symbol_at c.caller.symbols n) l refl e

  named_element : (fs : tree.ExprTrees) (o : Option ℕ) (l : Link) → element_of c ds fs o ≡ Some l → IsOfCaller c l
  named_element fs None l e = cc
  named_element fs (Some n) l e = element_is fs n (symbol_at c.caller.symbols n) l refl e

  pub actual_is : (a : ExprTree) (l : Link) → expr_link c ds a ≡ Some l → IsOfCaller c l
  actual_is (tree.int n) l e = cc
  actual_is (tree.log b) l e = cc
  actual_is (tree.name x) l e = named_is (number_from 1 c.caller.names x) l e
  actual_is (tree.element x fs) l e = named_element fs (number_from 1 c.caller.names x) l e
  actual_is (tree.paren a) l e = cc
  actual_is (tree.unary o a) l e = cc
  actual_is (tree.binary o a b) l e = cc
  actual_is (tree.chars x) l e = cc

-- ---- and from the caller to them

module _ (c : SidesTree) (v : Variable) where
  in_dummies : (q n : ℕ) (ss : List SymbolTree) (i : ℕ) (s : SymbolTree) (d : ℕ) (l : Link) → slice_get ss i ≡ Some s → s.place ≡ place.Dummy d → link_of c (Own (suc (n + i))) ≡ Some l → same_variable v l.variable ≡ true → In (link (Own (suc (n + i))) true (turned_rows l.rank q l.rows)) (dummy_links c v q n ss)
  in_dummies q n [] i s d l e lies is same = cc
  in_dummies q n (t ∷ ss) zero s d l e lies is same =
      let one : t ≡ s = cc in
      let off : n + 0 ≡ n = omega arith in
      let is' : link_of c (Own (suc n)) ≡ Some l = subst (λ j. link_of c (Own (suc j)) ≡ Some l) off is in
      let found : dummy_link c v q (suc n) t.place ≡ link (Own (suc n)) true (turned_rows l.rank q l.rows) ∷ [] =
      ap (λ (z : SymbolTree). dummy_link c v q (suc n) z.place) one ∙ (ap (dummy_link c v q (suc n)) lies
      ∙ (ap (if_actual v q (suc n)) is' ∙ ap (λ b. if b then link (Own (suc n)) true (turned_rows l.rank q l.rows) ∷ [] else []) same)) in
      subst (λ j. In (link (Own (suc j)) true (turned_rows l.rank q l.rows)) (dummy_links c v q n (t ∷ ss))) (sym off)
      (in_left (link (Own (suc n)) true (turned_rows l.rank q l.rows)) (dummy_link c v q (suc n) t.place) (dummy_links c v q (suc n) ss)
      (subst (λ ls. In (link (Own (suc n)) true (turned_rows l.rank q l.rows)) ls) (sym found) here))
  in_dummies q n (t ∷ ss) (suc i) s d l e lies is same =
      let off : n + suc i ≡ suc n + i = omega arith in
      subst (λ j. In (link (Own (suc j)) true (turned_rows l.rank q l.rows)) (dummy_links c v q n (t ∷ ss))) (sym off)
      (in_right (link (Own (suc (suc n + i))) true (turned_rows l.rank q l.rows)) (dummy_link c v q (suc n) t.place) (dummy_links c v q (suc n) ss)
      (in_dummies q (suc n) ss i s d l e lies (subst (λ j. link_of c (Own (suc j)) ≡ Some l) off is) same))

  -- of a dummy
  pub dummy_linked : (q n : ℕ) (s : SymbolTree) (d : ℕ) (l : Link) → symbol_at c.callee.symbols n ≡ Some s → s.place ≡ place.Dummy d → link_of c (Own n) ≡ Some l → same_variable v l.variable ≡ true → In (link (Own n) true (turned_rows l.rank q l.rows)) (dummy_links c v q 0 c.callee.symbols)
  dummy_linked q n s d l e lies is same =
      let w = stands c.callee.symbols n s e in
      let at : n ≡ suc (0 + w.before) = (let k = w.number in omega (arith, k)) in
      subst (λ j. In (link (Own j) true (turned_rows l.rank q l.rows)) (dummy_links c v q 0 c.callee.symbols)) (sym at)
      (in_dummies q 0 c.callee.symbols w.before s d l w.is_there lies (subst (λ j. link_of c (Own j) ≡ Some l) at is) same)

  module _ (b : List ℕ) (u : Units) (f : Option Affine) where
    in_commons : (n : ℕ) (ss : List SymbolTree) (i : ℕ) (s : SymbolTree) (o : ℕ) → slice_get ss i ≡ Some s → s.place ≡ place.Block b o → meet (units_of c.callee.symbols o s) u ≡ true → In (common_link c v f (suc (n + i)) b o s) (common_links c v b u f n ss)
    in_commons n [] i s o e lies meets = cc
    in_commons n (t ∷ ss) zero s o e lies meets =
        let one : t ≡ s = cc in
        let off : n + 0 ≡ n = omega arith in
        let test : (bytes_eq b b && meet (units_of c.callee.symbols o s) u) ≡ true = and_from (bytes_eq b b) (meet (units_of c.callee.symbols o s) u) ((bytes_eq-Decides b b).1 refl) meets in
        let found : in_block c v b u f (suc n) t t.place ≡ common_link c v f (suc n) b o s ∷ [] =
        ap (λ (z : SymbolTree). in_block c v b u f (suc n) z z.place) one ∙ (ap (in_block c v b u f (suc n) s) lies ∙ ap (λ w. if w then common_link c v f (suc n) b o s ∷ [] else []) test) in
        subst (λ j. In (common_link c v f (suc j) b o s) (common_links c v b u f n (t ∷ ss))) (sym off)
        (in_left (common_link c v f (suc n) b o s) (in_block c v b u f (suc n) t t.place) (common_links c v b u f (suc n) ss)
        (subst (λ ls. In (common_link c v f (suc n) b o s) ls) (sym found) here))
    in_commons n (t ∷ ss) (suc i) s o e lies meets =
        let off : n + suc i ≡ suc n + i = omega arith in
        subst (λ j. In (common_link c v f (suc j) b o s) (common_links c v b u f n (t ∷ ss))) (sym off)
        (in_right (common_link c v f (suc (suc n + i)) b o s) (in_block c v b u f (suc n) t t.place) (common_links c v b u f (suc n) ss) (in_commons (suc n) ss i s o e lies meets))

    -- of a variable of a block
    pub common_linked : (n : ℕ) (s : SymbolTree) (o : ℕ) → symbol_at c.callee.symbols n ≡ Some s → s.place ≡ place.Block b o → meet (units_of c.callee.symbols o s) u ≡ true → In (common_link c v f n b o s) (common_links c v b u f 0 c.callee.symbols)
    common_linked n s o e lies meets =
        let w = stands c.callee.symbols n s e in
        let at : n ≡ suc (0 + w.before) = (let k = w.number in omega (arith, k)) in
        subst (λ j. In (common_link c v f j b o s) (common_links c v b u f 0 c.callee.symbols)) (sym at) (in_commons 0 c.callee.symbols w.before s o w.is_there lies meets)

-- two have a unit
pub meets_at : (u v : Units) (j : ℕ) → u.first ≤ j → j < end_of u → v.first ≤ j → j < end_of v → meet u v ≡ true
meets_at u v j a b c d = lt-ltb (max u.first v.first) (min (end_of u) (end_of v)) (omega (arith, a, b, c, d))

-- ---- units that variables cover

pub record IsAmong (us : List Units) (j : ℕ) : Type 0 where
  pub one : Units
  pub is_one : In one us
  pub from : one.first ≤ j
  pub below : j < end_of one

among_later : (v : Units) (us : List Units) (j : ℕ) → IsAmong us j → IsAmong (v ∷ us) j
among_later v us j h = record { one = h.one; is_one = there h.is_one; from = h.from; below = h.below }

reached : (us : List Units) (at j : ℕ) → j < reach us at → (j < at) ⊎ IsAmong us j
reached [] at j h = inl h
reached (u ∷ us) at j h = ⊎_elim (λ l. go (nat_le u.first at) refl l) (λ i. inr (among_later u us j i)) (reached us (reach_by u at) j h)
  where
    go : (b : Bool) → nat_le u.first at ≡ b → j < (if b then max at (end_of u) else at) → (j < at) ⊎ IsAmong (u ∷ us) j
    go false e l = inl l
    go true e l = by (nat_lt j at) refl
      where
        from : u.first ≤ at
        from = leb-true u.first at e

        by : (c : Bool) → nat_lt j at ≡ c → (j < at) ⊎ IsAmong (u ∷ us) j
        by true f = inl (ltb-true j at f)
        by false f = inr (let high = ltb-false j at f in record { one = u; is_one = here; from = omega (arith, from, high); below = omega (arith, l, high) })

reached_each : (vs us : List Units) (at j : ℕ) → j < reach_each vs us at → (j < at) ⊎ IsAmong us j
reached_each [] us at j h = inl h
reached_each (v ∷ vs) us at j h = ⊎_elim (λ l. reached us at j l) (λ i. inr i) (reached_each vs us (reach us at) j h)

-- a unit of them is one of the others
pub covered_one : (u : Units) (us : List Units) (j : ℕ) → are_covered u us ≡ true → u.first ≤ j → j < end_of u → IsAmong us j
covered_one u us j e from below =
    let far : end_of u ≤ reach_each us us u.first = leb-true (end_of u) (reach_each us us u.first) e in
    ⊎_elim (λ l. absurd (omega (arith, l, from))) (λ i. i) (reached_each us us u.first j (omega (arith, far, below)))

-- the variable that has such units
pub record HasUnits (ss : List SymbolTree) (b : List ℕ) (ts : List SymbolTree) (u : Units) : Type 0 where
  pub before : ℕ
  pub symbol : SymbolTree
  pub is_there : slice_get ts before ≡ Some symbol
  pub offset : ℕ
  pub lies : symbol.place ≡ place.Block b offset
  pub units : u ≡ units_of ss offset symbol

only_in : (u v : Units) → In u (v ∷ []) → u ≡ v
only_in u v here = refl
only_in u v (there i) = elim i [ ]

placed_units : (ss : List SymbolTree) (b : List ℕ) (t : SymbolTree) (ts : List SymbolTree) (u : Units) (p : Place) → t.place ≡ p → In u (place_units ss b t p) → HasUnits ss b (t ∷ ts) u
placed_units ss b t ts u (place.Local g o) q i = elim i [ ]
placed_units ss b t ts u (place.Dummy d) q i = elim i [ ]
placed_units ss b t ts u (place.Constant v) q i = elim i [ ]
placed_units ss b t ts u (place.Block x o) q i = go (bytes_eq x b) refl i
  where
    go : (c : Bool) → bytes_eq x b ≡ c → In u (if c then units_of ss o t ∷ [] else []) → HasUnits ss b (t ∷ ts) u
    go true e j = record { before = zero; symbol = t; is_there = refl; offset = o; lies = q ∙ ap (λ y. place.Block y o) ((bytes_eq-Decides x b).0 e); units = only_in u (units_of ss o t) j }
    go false e j = elim j [ ]

pub units_there : (ss : List SymbolTree) (b : List ℕ) (ts : List SymbolTree) (u : Units) → In u (all_units ss b ts) → HasUnits ss b ts u
units_there ss b [] u i = elim i [ ]
units_there ss b (t ∷ ts) u i = ⊎_elim (λ j. placed_units ss b t ts u t.place refl j) (λ j. (let h = units_there ss b ts u j in record { before = suc h.before; symbol = h.symbol; is_there = h.is_there; offset = h.offset; lies = h.lies; units = h.units })) (in_either u (place_units ss b t t.place) (all_units ss b ts) i)
