-- The numbers of subscripts are the values of their forms.
use Rattle.std.proofs.Common.{ℕ, List, [], ◌∷◌, Bool, ℤ}
use Rattle.f77_ast.specs.Trees.{ExprTrees}
use Rattle.f77_ast.specs.Trees as tree
use Rattle.f77_ast.specs.Store.{Content, Store}
use Rattle.f77_ast.specs.Places.{Names, Places}
use Rattle.f77_ast.specs.Values.{value, values}
use Rattle.f77_ast.proofs.StepLaws.{Leads, leads_then}
use Rattle.affine_forms.specs.Scalars.{Scalars}
use Rattle.affine_forms.specs.Forms.{affine_of}
use Rattle.affine_forms.specs.Claims.{Agrees, Means, unit_in, numbers_of}
use Rattle.affine_forms.proofs.ValueLaws.{value_leads}

-- as many numbers as expressions, each the value of its form
abbrev pub AllMean : Scalars → (ℕ → Bool) → Places → Store → ExprTrees → List ℤ → Type 0
AllMean k tracked at s tree.no_exprs [] = Unit {0}
AllMean k tracked at s tree.no_exprs (n ∷ ns) = ⊥
AllMean k tracked at s (tree.more_exprs e es) [] = ⊥
AllMean k tracked at s (tree.more_exprs e es) (n ∷ ns) = Means tracked (unit_in at) (affine_of k e) (numbers_of s) n × AllMean k tracked at s es ns

module _ (w : Names) (k : Scalars) (tracked : ℕ → Bool) (at : Places) (s : Store) (i : List Content) (agrees : Agrees w k tracked) where
  pub values_mean : (es : ExprTrees) (Q : List ℤ → Store → List Content → Type 0) → ((ns : List ℤ) → AllMean k tracked at s es ns → Q ns s i) → Leads (values es w at) s i Q
  values_mean tree.no_exprs Q go = go [] tt
  values_mean (tree.more_exprs e es) Q go =
      leads_then (value e w at) _ s i Q (value_leads w k tracked at s i agrees e _ (λ c h.
      leads_then (values es w at) _ s i Q (values_mean es _ (λ ns q.
      go (c.number ∷ ns) (h.1, q)))))
