-- Lists in order: what the statements so far did, and which ends leave a list.
use Rattle.std.proofs.Common.{◌≡◌, ℕ, List, [], ◌∷◌, ◌||◌, ◌&&◌, not, Option, Some, None, Bool, true, false, refl, sym, ap, ◌∙◌, subst, arith, nat_eq, true≢false}
use Rattle.std.specs.Prelude.{if◌then◌else◌}
use Rattle.std.proofs.lemmas.Bool.Decides.{nat_tests}
use Rattle.std.proofs.lemmas.Bool.{or_left, or_right, or_parts, and_parts}
use Rattle.affine_systems.specs.declared.row.System.{System}
use Rattle.f77_ast.specs.Trees.{StmtTree, WhatTree, StmtTrees}
use Rattle.f77_ast.specs.Trees as tree
use Rattle.f77_ast.specs.Store.{Store}
use Rattle.f77_ast.specs.Places.{Places}
use Rattle.f77_ast.specs.Writes.{Locks}
use Rattle.f77_ast.specs.Lists.{is_label, has_label}
use Rattle.f77_ast.specs.Statements.{Scope, parts}
use Rattle.affine_forms.specs.Claims.{numbers_of}
use Rattle.affine_forms.specs.Conditions.{no_rows}
use Rattle.preconditions.specs.transformer_algebra.declared.transformer.Transformer.{Transformer}
use Rattle.preconditions.specs.transformer_algebra.Cells.{has}
use Rattle.preconditions.specs.transformer_algebra.Transformers.{identity_transformer, followed}
use Rattle.preconditions.specs.transformer_algebra.Claims.{Scene, HoldsAt, Does}
use Rattle.preconditions.proofs.TransformerAlgebra.CellLaws.{left_out, unit_left}
use Rattle.preconditions.proofs.TransformerAlgebra.RuleLaws.{does_then, kept_then}
use Rattle.preconditions.specs.transformers.Jumps.{stmt_has, parts_have, list_has, label_of, before_labels, labels, goes_to, is_end, returns_early, early_return}
use Rattle.preconditions.specs.transformers.Lists.{followed_by, in_order}
use Rattle.laws_analyses.specs.Statements.Activation.{Still, Stayed, Done}
use Rattle.fx_lists.proofs.Booleans.{clash as clashes}
use Rattle.f77_ast.specs.Shapes.{is_return}

-- ---- labels

-- the labels of the parts of a list are its labels
pub labelled : (l : ℕ) (ss : StmtTrees) (sc : Scope) (at : Places) (locked : Locks) → has_label l (parts ss sc at locked) ≡ has (labels ss) l
labelled l tree.no_stmts sc at locked = refl
labelled l (tree.more_stmts (tree.stmt n label w) rest) sc at locked = go label (labelled l rest sc at locked)
  where
    turned : (m : ℕ) → nat_eq l m ≡ nat_eq m l
    turned m = both (nat_eq l m) (nat_eq m l) (λ e. grind (arith, nat_tests)) (λ e. grind (arith, nat_tests))
      where
        both : (a b : Bool) → (a ≡ true → b ≡ true) → (b ≡ true → a ≡ true) → a ≡ b
        both true true f g = refl
        both true false f g = absurd (true≢false (sym (f refl)))
        both false true f g = absurd (true≢false (sym (g refl)))
        both false false f g = refl

    go : (o : Option ℕ) → has_label l (parts rest sc at locked) ≡ has (labels rest) l → (is_label l o || has_label l (parts rest sc at locked)) ≡ has (before_labels o (labels rest)) l
    go None ih = ih
    go (Some m) ih = ap (λ b. b || has_label l (parts rest sc at locked)) (turned m) ∙ ap (λ b. nat_eq m l || b) ih

-- ---- RETURN

-- a RETURN that ends the first statement of a list that has none early is the last statement
pub returned_last : (w : WhatTree) (rest : StmtTrees) → returns_early (is_end rest) (tree.stmt 0 None w) ≡ false → (is_return w || parts_have is_return w) ≡ true → (is_return w ≡ true) × (is_end rest ≡ true)
returned_last w rest e r = go (is_return w) (parts_have is_return w) (is_end rest) e r
  where
    go : (a p b : Bool) → (p || (a && not b)) ≡ false → (a || p) ≡ true → (a ≡ true) × (b ≡ true)
    go true false true k h = (refl, refl)
    go true false false k h = absurd (true≢false k)
    go true true b k h = absurd (true≢false k)
    go false true b k h = absurd (true≢false k)
    go false false b k h = absurd (true≢false (sym h))

-- ---- what came so far

-- from the transformer so far on
abbrev pub added : Option Transformer → Transformer → Transformer
added None a = a
added (Some t) a = followed t a

abbrev pub or_idle : Option Transformer → Transformer
or_idle None = identity_transformer
or_idle (Some t) = t

abbrev pub row_from : Option Transformer → List Transformer → Transformer
row_from so_far [] = or_idle so_far
row_from so_far (a ∷ ts) = row_from (Some (added so_far a)) ts

row_followed : (t : Transformer) (ts : List Transformer) → row_from (Some t) ts ≡ followed_by t ts
row_followed t [] = refl
row_followed t (a ∷ ts) = row_followed (followed t a) ts

pub row_in_order : (ts : List Transformer) → row_from None ts ≡ in_order ts
row_in_order [] = refl
row_in_order (t ∷ ts) = row_followed t ts

module _ (e : Scene) (still : ℕ → Bool) where
  -- what the statements so far did
  abbrev pub SoFar : Option Transformer → Store → Store → Type 0
  SoFar None s z = s ≡ z
  SoFar (Some t) s z = Does e t (numbers_of s) (numbers_of z) × Still still s z

  pub so_far_done : (acc : Option Transformer) (t : Transformer) (s y z : Store) → SoFar acc s y → Does e t (numbers_of y) (numbers_of z) → Still still y z → SoFar (Some (added acc t)) s z
  so_far_done None t s y z h d st = subst (λ x. Does e t (numbers_of x) (numbers_of z) × Still still x z) (sym h) (d, st)
  so_far_done (Some a) t s y z h d st = (does_then e a t (numbers_of s) (numbers_of y) (numbers_of z) h.0 d, λ u f. st u f ∙ h.1 u f)

  pub so_far_stayed : (acc : Option Transformer) (t : Transformer) (s y z : Store) → SoFar acc s y → Stayed e t still y z → Stayed e (added acc t) still s z
  so_far_stayed None t s y z h d = subst (λ x. Stayed e t still x z) (sym h) d
  so_far_stayed (Some a) t s y z h d = record { kept = kept_then e a.cells t.cells a.foreign t.foreign (numbers_of s) (numbers_of y) (numbers_of z) h.0.kept d.kept; steady = λ u f. d.steady u f ∙ h.1 u f }

  pub so_far_end : (acc : Option Transformer) (p : System) (s z : Store) → SoFar acc s z → HoldsAt e p (numbers_of z) → Done e (or_idle acc) p still s z
  so_far_end None p s z h k = record {
    does = record { relates = λ q st en. tt; kept = record { cells = λ c t r. ap (λ x. numbers_of x (e.unit c)) (sym h); foreign = λ u t r. ap (λ x. numbers_of x (e.place u)) (sym h) } };
    after = k;
    steady = λ u f. ap (λ x. numbers_of x u) (sym h);
  }
  so_far_end (Some a) p s z h k = record { does = h.0; after = k; steady = h.1 }

  pub row_stayed : (t : Transformer) (ts : List Transformer) (s z : Store) → Stayed e t still s z → Stayed e (row_from (Some t) ts) still s z
  row_stayed t [] s z h = h
  row_stayed t (a ∷ ts) s z h =
      row_stayed (followed t a) ts s z (record { kept = record { cells = λ c r q. h.kept.cells c r (left_out t.cells a.cells c q); foreign = λ u r n. h.kept.foreign u r (λ i. n (unit_left t.foreign a.foreign u i)) }; steady = h.steady })
