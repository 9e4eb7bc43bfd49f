-- The scopes that are made in code are those of the definitions.
use Rattle.std.proofs.Common.{◌≡◌, ℕ, Bool, false, List, [], refl, ap, ◌∙◌}
use mathlib.Core.Path.{fun_ext}
use Rattle.std.specs.Prelude.{nat_eq}
use Rattle.std.specs.List.{list_any}
use Rattle.std.specs.HashSet.{contains_by}
use Rattle.base_json.specs.declared.scope.Scope.{Scope}
use Rattle.base_json.specs.Scopes.{ScopeTree, cells_alone, with_exits, scope_tree}

abbrev with_test : List (List ℕ) → Bool → (ℕ → Bool) → ScopeTree
with_test names phi f = record { names = names; may_exit = f; phi = phi }

-- scopes with the same names whose tests agree
pub same_scope : (names : List (List ℕ)) (phi : Bool) (f g : ℕ → Bool) → ((n : ℕ) → f n ≡ g n) → with_test names phi f ≡ with_test names phi g
same_scope names phi f g h = ap (with_test names phi) (fun_ext h)
