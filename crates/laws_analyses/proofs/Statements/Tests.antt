-- Tests: what is done where one is true, and where it is false.
use Rattle.std.proofs.Common.{ℕ, Bool, true, false, refl}
use Rattle.std.specs.Prelude.{if◌then◌else◌}
use Rattle.affine_systems.specs.declared.row.System.{System}
use Rattle.affine_systems.specs.Calls.{meet}
use Rattle.affine_systems.proofs.CallLaws.{meet_holds}
use Rattle.f77_ast.specs.Trees.{ExprTree}
use Rattle.f77_ast.specs.Store.{Store}
use Rattle.f77_ast.specs.Numbers.{is_true}
use Rattle.f77_ast.specs.Places.{Names, Places}
use Rattle.f77_ast.specs.Values.{value}
use Rattle.f77_ast.specs.Plans.{Flow, Plan, first}
use Rattle.f77_ast.specs.Executions.{Claim}
use Rattle.f77_ast.specs.declared.variable.Unit.{Unit as BlockUnit}
use Rattle.affine_forms.specs.Scalars.{is_cell}
use Rattle.affine_forms.specs.Conditions.{no_rows, condition_of}
use Rattle.affine_forms.specs.Claims.{Says, unit_in, numbers_of}
use Rattle.affine_forms.proofs.ConditionLaws.{condition_leads}
use Rattle.preconditions.specs.transformer_algebra.Claims.{HoldsAt}
use Rattle.preconditions.specs.call_translation.Scopes.{ScopeTree}
use Rattle.laws_analyses.specs.Statements.Good.{Good}
use Rattle.laws_analyses.specs.Statements.Activation.{NamesFit, scene_at}
use Rattle.laws_analyses.proofs.Statements.Rules.{good_first}

module _ (C : Claim) (m : ScopeTree) (w : Names) (at : Places) (far : BlockUnit → Bool) (place : BlockUnit → ℕ) (nf : NamesFit w m) where
  abbrev pub Holds : System → Store → Type 0
  Holds p z = HoldsAt (scene_at m at far place) p (numbers_of z)

  pub tested : (f : ExprTree) (one two : Plan) (z : Store) (Q : Flow → Store → Type 0) → (Holds (condition_of m.scalars f).yes z → Good C one z Q) → (Holds (condition_of m.scalars f).no z → Good C two z Q) → Good C (first (value f w at) (λ c. if is_true c.number then one else two)) z Q
  tested f one two z Q gy gn =
      good_first C (value f w at) _ z Q (λ i. condition_leads w m.scalars (is_cell m.tracked) at z i nf.agrees f _ (λ c h. go (is_true c.number) h))
    where
      go : (b : Bool) → Says (is_cell m.tracked) (unit_in at) (condition_of m.scalars f).yes (condition_of m.scalars f).no (numbers_of z) b → Good C (if b then one else two) z Q
      go true h = gy (h.true_side refl)
      go false h = gn (h.false_side refl)

  pub met : (p q : System) (z : Store) → Holds p z → Holds q z → Holds (meet p q) z
  met p q z h k = λ x st. meet_holds x p q (h x st, k x st)

  pub nothing_asked : (z : Store) → Holds no_rows z
  nothing_asked z = λ x st. tt
