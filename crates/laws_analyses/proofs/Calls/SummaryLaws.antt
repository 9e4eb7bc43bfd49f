-- A summary describes, for those that see the module from outside, what the transformer of the body describes.
use Rattle.std.proofs.Common.{◌≡◌, ℕ, List, not, Bool, true, false, refl, sym, ap, ℤ}
use Rattle.std.specs.Prelude.{if◌then◌else◌, filter}
use Rattle.std.proofs.lemmas.Bool.{and_from, and_parts, false_from_ne_true}
use Rattle.affine_systems.specs.declared.row.Var.{Var}
use Rattle.affine_systems.specs.declared.row.Var.TheVariants.{Cell, Exit, Phi, Aux}
use Rattle.affine_systems.specs.Terms.{number}
use Rattle.affine_systems.specs.Points.{Point}
use Rattle.hull_projection.specs.Variables.{row_vars}
use Rattle.hull_projection.specs.Laws.{IsOneOf}
use Rattle.hull_projection.proofs.ProjectLaws.{project_keeps}
use Rattle.hull_projection.proofs.VarLaws.{rows_covered}
use Rattle.hull_projection.proofs.LiftLaws.{agree_hold}
use Rattle.f77_ast.specs.Symbols.{SymbolTree}
use Rattle.preconditions.specs.transformer_algebra.declared.transformer.Transformer.{Transformer}
use Rattle.preconditions.specs.transformer_algebra.Cells.{has}
use Rattle.preconditions.specs.transformer_algebra.Claims.{Scene, AtStart, AtEnd, Does}
use Rattle.preconditions.specs.transformers.Modules.{is_visible_to_callers, stays_in, hidden_vars, summary_of}
use Rattle.laws_analyses.specs.Calls.Scenes.{outside}
use Rattle.laws_analyses.proofs.Calls.PointLaws.{patched, patched_in, patched_off, patched_same, filter_var}
use Rattle.fx_lists.proofs.Booleans.{clash as clashes}
use Rattle.preconditions.proofs.TransformerAlgebra.CellLaws.{has-filter}

module _ (m : Scene) (ss : List SymbolTree) (t : Transformer) (x y : ℕ → ℤ) (d : Does m t x y) where
  -- a point with the numbers of what does not go out
  abbrev full : Point → Point
  full p (Cell c) = if is_visible_to_callers ss c then p (Cell c) else x (m.unit c)
  full p (Exit c) = if is_visible_to_callers ss c then p (Exit c) else y (m.unit c)
  full p (Phi c) = p (Phi c)
  full p (Aux c) = p (Aux c)

  module _ (p : Point) (st : AtStart (outside ss m) x p) (en : AtEnd (outside ss m) (filter (is_visible_to_callers ss) t.cells) y p) where
    full_start : AtStart m x (full p)
    full_start c k = go (is_visible_to_callers ss c) refl
      where
        go : (b : Bool) → is_visible_to_callers ss c ≡ b → (if b then p (Cell c) else x (m.unit c)) ≡ x (m.unit c)
        go true e = st c (and_from (m.tracked c) (is_visible_to_callers ss c) k e)
        go false e = refl

    full_end : AtEnd m t.cells y (full p)
    full_end c k h = go (is_visible_to_callers ss c) refl
      where
        go : (b : Bool) → is_visible_to_callers ss c ≡ b → (if b then p (Exit c) else y (m.unit c)) ≡ y (m.unit c)
        go true e = en c (and_from (m.tracked c) (is_visible_to_callers ss c) k e) (has-filter (is_visible_to_callers ss) t.cells c h e)
        go false e = refl

    same : (v : Var) → is_visible_to_callers ss (number v) ≡ true → p v ≡ full p v
    same (Cell c) e = rw e refl
    same (Exit c) e = rw e refl
    same (Phi c) e = refl
    same (Aux c) e = refl

    abbrev hidden : Point
    hidden v = patched p (full p) (hidden_vars ss t.system) v

    agrees : (v : Var) → IsOneOf v (row_vars t.system.rows) → full p v ≡ hidden v
    agrees v i = sym (go (is_visible_to_callers ss (number v)) refl)
      where
        go : (b : Bool) → is_visible_to_callers ss (number v) ≡ b → hidden v ≡ full p v
        go true e = patched_same p (full p) (hidden_vars ss t.system) v (same v e)
        go false e = patched_in p (full p) (hidden_vars ss t.system) v (filter_var (stays_in ss) (row_vars t.system.rows) v i (ap not e))

  pub does_summary : Does (outside ss m) (summary_of ss t) x y
  does_summary = record {
    relates = λ p st en. project_keeps t.system (hidden_vars ss t.system) (hidden p st en) p (λ w f. sym (patched_off p (full p) (hidden_vars ss t.system) w f))
        (agree_hold (full p) (hidden p st en) (row_vars t.system.rows) t.system.rows (agrees p st en) (rows_covered _ t.system.rows) (d.relates (full p) (full_start p st en) (full_end p st en)));
    kept = record {
      cells = λ c k e. let b = and_parts (m.tracked c) (is_visible_to_callers ss c) k in d.kept.cells c b.0 (false_from_ne_true (has t.cells c) (λ h. clashes (has (filter (is_visible_to_callers ss) t.cells) c) (has-filter (is_visible_to_callers ss) t.cells c h b.1) e));
      foreign = d.kept.foreign;
    };
  }
