-- The numbers that a DO begins with.
use Rattle.std.proofs.Common.{◌≡◌, ℕ, List, [], ◌∷◌, Option, Some, None, Bool, true, false, refl, sym, ap, ◌∙◌, subst, ℤ, pos, true≢false}
use Rattle.std.specs.Prelude.{if◌then◌else◌}
use Rattle.std.specs.Ordering.{int_eq}
use Rattle.f77_ast.specs.Trees.{ExprTree}
use Rattle.f77_ast.specs.Store.{Content, Store}
use Rattle.f77_ast.specs.Faults.{Arithmetic}
use Rattle.f77_ast.specs.Steps.{Done}
use Rattle.f77_ast.specs.Places.{Names, Places}
use Rattle.f77_ast.specs.Values.{fault, value}
use Rattle.f77_ast.specs.Loops.{Range, range, step_value, range_of}
use Rattle.f77_ast.proofs.StepLaws.{Leads, leads_then}
use Rattle.f77_ast.specs.declared.constant.Constant.{Constant}
use Rattle.f77_ast.specs.declared.constant.Constant.TheVariants.{Int, Log}
use Rattle.f77_ast.specs.declared.constant.ConstantValue.{ConstantValue}
use Rattle.f77_ast.specs.declared.constant.ConstantValue.TheVariants.{Is, Faults, Varies}
use Rattle.f77_ast.specs.Constants.{const_value}
use Rattle.affine_forms.specs.Scalars.{Scalars}
use Rattle.affine_forms.specs.Forms.{affine_of}
use Rattle.affine_forms.specs.Claims.{Means, unit_in, numbers_of, Agrees}
use Rattle.affine_forms.proofs.ValueLaws.{HasConstantValue, value_leads}
use Rattle.preconditions.specs.transformers.Loops.{counting, step_of}

-- the step has this value, where it is a constant
abbrev pub StepIs : Option ℤ → ℤ → Type 0
StepIs None c = Unit {0}
StepIs (Some s) c = c ≡ s

module _ (w : Names) (k : Scalars) (tracked : ℕ → Bool) (at : Places) (s : Store) (i : List Content) (agrees : Agrees w k tracked) where
  counting_is : (v : ConstantValue) (n : ℤ) → HasConstantValue v n → StepIs (counting v) n
  counting_is (Is (Int d)) n h = go (int_eq d (pos 0))
    where
      go : (b : Bool) → StepIs (if b then None else Some d) n
      go true = tt
      go false = h
  counting_is (Is (Log b)) n h = tt
  counting_is Faults n h = tt
  counting_is Varies n h = tt

  step_leads : (e : Option ExprTree) (Q : Content → Store → List Content → Type 0) → ((c : Content) → StepIs (step_of k.value e) c.number → Q c s i) → Leads (step_value e w at) s i Q
  step_leads None Q go = go _ refl
  step_leads (Some e) Q go = value_leads w k tracked at s i agrees e Q (λ c h. go c (counting_is (const_value k.value e) c.number h.0))

  abbrev pub M : ExprTree → ℤ → Type 0
  M e n = Means tracked (unit_in at) (affine_of k e) (numbers_of s) n

  pub range_leads : (e1 e2 : ExprTree) (e3 : Option ExprTree) (Q : Range → Store → List Content → Type 0) → ((a b c : ℤ) → M e1 a → M e2 b → StepIs (step_of k.value e3) c → int_eq c (pos 0) ≡ false → Q (record { from = a; last = b; step = c }) s i) → Leads (range_of e1 e2 e3 w at) s i Q
  range_leads e1 e2 e3 Q go =
      leads_then (value e1 w at) _ s i Q (value_leads w k tracked at s i agrees e1 _ (λ a h.
      leads_then (value e2 w at) _ s i Q (value_leads w k tracked at s i agrees e2 _ (λ b j.
      leads_then (step_value e3 w at) _ s i Q (step_leads e3 _ (λ c q. pick a.number b.number c.number h.1 j.1 q (int_eq c.number (pos 0)) refl))))))
    where
      pick : (a b c : ℤ) → M e1 a → M e2 b → StepIs (step_of k.value e3) c → (z : Bool) → int_eq c (pos 0) ≡ z → Leads (if z then fault Arithmetic else Done (record { from = a; last = b; step = c })) s i Q
      pick a b c h j q true n = tt
      pick a b c h j q false n = go a b c h j q n
