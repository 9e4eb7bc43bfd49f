-- What the write of a unit of a name leaves as it was.
use Rattle.std.proofs.Common.{◌≡◌, ℕ, ◌+◌, ◌<◌, List, [], ◌∷◌, ◌++◌, ◌||◌, Option, Some, None, Bool, true, false, refl, sym, ap, ◌∙◌, subst, arith, ℤ, nat_eq, true≢false}
use Rattle.std.specs.Prelude.{is_some}
use Rattle.f77_ast.specs.Trees.{ExprTree, ExprTrees}
use Rattle.f77_ast.specs.Trees as tree
use Rattle.f77_ast.specs.Store.{Content, Store, put}
use Rattle.f77_ast.specs.Places.{Names, Places, Variable, Function, Dim, Place, position, within, element_in}
use Rattle.f77_ast.specs.Values.{Target}
use Rattle.f77_ast.specs.Writes.{Locks}
use Rattle.f77_ast.specs.declared.variable.Unit.{Unit as BlockUnit}
use Rattle.affine_forms.specs.Scalars.{is_cell}
use Rattle.affine_forms.specs.Claims.{unit_in, numbers_of}
use Rattle.preconditions.specs.transformer_algebra.Cells.{has}
use Rattle.preconditions.specs.transformer_algebra.Claims.{Scene, Kept, Wrote, IsIn}
use Rattle.preconditions.specs.call_translation.Scopes.{ScopeTree}
use Rattle.preconditions.specs.call_translation.Actuals.{named_cell, one_cell}
use Rattle.laws_analyses.specs.Statements.Evaluations.{AreMany, NamedUnit, ElementUnit, IsUnit}
use Rattle.laws_analyses.specs.Statements.Targets.{is_target}
use Rattle.laws_analyses.specs.Statements.Activation.{NamesFit, scene_at, is_locked, Fit, Still}
use Rattle.laws_analyses.proofs.Statements.Basics.{not_locked, put_other, put_here}
use Rattle.fx_lists.proofs.Options.{some_same}
use Rattle.fx_lists.proofs.Numbers.{same_is as nat_same, nat_eq_same}
use Rattle.fx_lists.proofs.Booleans.{clash as clashes}

none_not : {A : Type 0} (a : ℕ) → None ≡ Some a → A
none_not a e = absurd (grind arith)

no_function : (w : Names) (x : List ℕ) (v : ℕ) → w x ≡ Variable v → w x ≡ Function → ⊥
no_function w x v e f = let k : Variable v ≡ Function = sym e ∙ f in cc

variable_same : (a b : ℕ) → Variable a ≡ Variable b → a ≡ b
variable_same a b e = cc

module _ (w : Names) (m : ScopeTree) (scalar : List ℕ → Bool) (at : Places) (far : BlockUnit → Bool) (place : BlockUnit → ℕ) (nf : NamesFit w m) (locked : Locks) (still : ℕ → Bool) (fit : Fit w scalar at (scene_at m at far place) locked still) where
  abbrev e : Scene
  e = scene_at m at far place

  module _ (s : Store) (c : Content) (x : List ℕ) (v n u : ℕ) (named : w x ≡ Variable v) (inside : n < (at v).extent) (is : u ≡ (at v).first + n) (free : locked u ≡ None) where
    pub put_cells : (d : ℕ) → is_cell m.tracked d ≡ true → nat_eq v d ≡ false → numbers_of (put s u c) (unit_in at d) ≡ numbers_of s (unit_in at d)
    put_cells d t k = put_other s u c (unit_in at d) (λ q. not_locked (locked u) free (subst (λ y. is_locked locked y ≡ true) q (fit.apart x v n d named inside t k (sym is ∙ sym q))))

    pub put_far : (b : BlockUnit) → far b ≡ true → numbers_of (put s u c) (place b) ≡ numbers_of s (place b)
    put_far b f = put_other s u c (place b) (λ q. fit.near x v n named inside b f (q ∙ is))

    pub put_still : Still still s (put s u c)
    put_still y f = put_other s u c y (λ q. not_locked (locked u) free (subst (λ z. is_locked locked z ≡ true) (sym is) (fit.stays x v n named inside (subst (λ z. still z ≡ true) (q ∙ is) f))))

  -- a unit that a left side or an item names: which cell it is
  pub record Hit (a : ExprTree) (u : ℕ) : Type 0 where
    pub name : List ℕ
    pub variable : ℕ
    pub offset : ℕ
    pub names : w name ≡ Variable variable
    pub inside : offset < (at variable).extent
    pub unit : u ≡ (at variable).first + offset
    pub cell : is_cell m.tracked variable ≡ true → named_cell m.scalars a ≡ Some variable
    pub back : (d : ℕ) → named_cell m.scalars a ≡ Some d → (d ≡ variable) × (is_cell m.tracked d ≡ true) × (u ≡ unit_in at d)

  no_position : (ds : List Dim) (n : ℤ) (ns : List ℤ) → ds ≡ [] → position ds (n ∷ ns) ≡ None
  no_position ds n ns q = ap (λ d. position d (n ∷ ns)) q

  -- a scalar has no subscripts
  not_flat : {A : Type 0} (p : Place) (es : ExprTrees) (f : ExprTree) (ns : List ℤ) (k : ℕ) → p.dims ≡ [] → AreMany (tree.more_exprs f es) ns → element_in p ns ≡ Some k → A
  not_flat p es f [] k d many found = absurd many
  not_flat p es f (n ∷ ns) k d many found = none_not k (sym (ap (λ o. within p o) (no_position p.dims n ns d)) ∙ found)

  name_hit : (x : List ℕ) (t : Target) → scalar x ≡ true → NamedUnit w at x t → Hit (tree.name x) t.unit
  name_hit x t sc h = record {
    name = x;
    variable = h.variable;
    offset = 0;
    names = h.names;
    inside = fit.solid x h.variable h.names sc;
    unit = h.unit ∙ zero_off (at h.variable).first;
    cell = λ k. nf.cells x h.variable h.names k;
    back = λ d q. (let a = nf.agrees.cells x d q in let same : d ≡ h.variable = variable_same d h.variable (sym (a.0 (no_function w x h.variable h.names)) ∙ h.names) in (same, a.1, h.unit ∙ ap (unit_in at) (sym same)));
  }
    where
      zero_off : (a : ℕ) → a ≡ a + 0
      zero_off a = omega arith

  element_hit : (x : List ℕ) (f : ExprTree) (es : ExprTrees) (t : Target) → ElementUnit w at x (tree.more_exprs f es) t → Hit (tree.element x (tree.more_exprs f es)) t.unit
  element_hit x f es t h = record {
    name = x;
    variable = h.variable;
    offset = h.offset;
    names = h.names;
    inside = h.inside;
    unit = h.unit;
    cell = λ k. not_flat (at h.variable) es f h.subscripts h.offset (fit.flat x h.variable h.names k) h.many h.found;
    back = λ d q. none_not d q;
  }

  pub hit_of : (a : ExprTree) (t : Target) → is_target scalar a ≡ true → IsUnit a w at t → Hit a t.unit
  hit_of (tree.int n) t k h = absurd h
  hit_of (tree.log b) t k h = absurd h
  hit_of (tree.name x) t k h = name_hit x t k h
  hit_of (tree.element x tree.no_exprs) t k h = absurd (true≢false (sym k))
  hit_of (tree.element x (tree.more_exprs f es)) t k h = element_hit x f es t h
  hit_of (tree.paren f) t k h = absurd h
  hit_of (tree.unary o f) t k h = absurd h
  hit_of (tree.binary o f g) t k h = absurd h
  hit_of (tree.chars x) t k h = absurd h

  module _ (a : ExprTree) (s : Store) (c : Content) (u : ℕ) (h : Hit a u) (free : locked u ≡ None) where
    pub hit_still : Still still s (put s u c)
    hit_still = put_still s c h.name h.variable h.offset u h.names h.inside h.unit free

    pub hit_kept : Kept e (one_cell (named_cell m.scalars a)) [] (numbers_of s) (numbers_of (put s u c))
    hit_kept = record {
      cells = λ d t k. put_cells s c h.name h.variable h.offset u h.names h.inside h.unit free d t (other d t k (nat_eq h.variable d) refl);
      foreign = λ b f q. put_far s c h.name h.variable h.offset u h.names h.inside h.unit free b f;
    }
      where
        other : (d : ℕ) → is_cell m.tracked d ≡ true → has (one_cell (named_cell m.scalars a)) d ≡ false → (b : Bool) → nat_eq h.variable d ≡ b → b ≡ false
        other d t k false q = refl
        other d t k true q =
            let same : h.variable ≡ d = nat_same h.variable d q in
            let is : named_cell m.scalars a ≡ Some h.variable = h.cell (subst (λ y. is_cell m.tracked y ≡ true) (sym same) t) in
            clashes (has (one_cell (named_cell m.scalars a)) d) (ap (λ o. has (one_cell o) d) is ∙ ap (λ b. b || false) q) k

    -- of the cell that it is
    pub hit_wrote : (d : ℕ) → named_cell m.scalars a ≡ Some d → Wrote e d c.number (numbers_of s) (numbers_of (put s u c))
    hit_wrote d q =
        let b = h.back d q in
        record {
          there = ap (λ y. numbers_of (put s u c) y) (sym b.2) ∙ put_here s u c;
          cells = λ g t k. put_cells s c h.name h.variable h.offset u h.names h.inside h.unit free g t (ap (λ y. nat_eq y g) (sym b.0) ∙ k);
          foreign = λ g f. put_far s c h.name h.variable h.offset u h.names h.inside h.unit free g f;
        }
