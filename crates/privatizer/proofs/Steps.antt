-- What is known of a DO is that of its body, and what is looked up may be handed on.
use Rattle.std.proofs.Common.{◌≡◌, ℕ, List, ◌||◌, Bool, true, false, Option, Some, None, append_assoc, append-nil, refl, sym, ap, ◌∙◌}
use Rattle.affine_systems.specs.declared.row.System.{System}
use Rattle.f77_ast.specs.declared.stmt.Loop.{Loop, out-Loop}
use Rattle.f77_ast.specs.Trees.{LoopTree}
use Rattle.f77_ast.specs.PlainStmt.{stmt_trees, loop_tree}
use Rattle.f77_ast.proofs.PlainlyStmt.{loop_tree-out}
use Rattle.f77_ast.specs.Symbols.{SymbolTree}
use Rattle.f77_ast.specs.declared.results.At.{At}
use Rattle.preconditions.specs.transformer_algebra.declared.transformer.Transformer.{Transformer}
use Rattle.in_out_regions.specs.region_sets.declared.region.Region.{Region}
use Rattle.in_out_regions.specs.region_sets.Lists.{or_none}
use Rattle.in_out_regions.specs.Lists.{list_in}
use Rattle.dependence_test.specs.Body.{head_of}
use Rattle.privatizer.specs.Uses.{head_in, ins_in}
use Rattle.fx_lists.proofs.Booleans.{or_here}
use Rattle.f77_ast.proofs.WalkLaws.{shape_calls}

pub head_made : (l : Loop) (ps : List (At System)) (s : System) → s ≡ head_of ps (stmt_trees (out-Loop l).body) → s ≡ head_in ps (loop_tree l)
head_made l ps s e = e ∙ sym (ap (λ (y : LoopTree). head_in ps y) (loop_tree-out l))

pub ins_made : (l : Loop) (ss : List SymbolTree) (t : ℕ → Transformer) (f g : ℕ → List Region) (rs : List Region) → rs ≡ list_in ss t f g false (stmt_trees (out-Loop l).body) → rs ≡ ins_in ss t f g (loop_tree l)
ins_made l ss t f g rs e = e ∙ sym (ap (λ (y : LoopTree). ins_in ss t f g y) (loop_tree-out l))

pub ruleset bodies = (head_made, ins_made)

pub or_false : (b c : Bool) → b ≡ false → (b || c) ≡ c
or_false true c e = cc
or_false false c e = refl

pub ruleset parts = (or_here, or_false)

-- ---- sets that are looked up

pub found : (o : Option (List Region)) (rs t : List Region) → Some t ≡ o → rs ≡ t → rs ≡ or_none o
found None rs t e q = cc
found (Some s) rs t e q = cc

pub ruleset sets = (found)

-- ---- names that are added

pub ruleset walks = (shape_calls, append_assoc, append-nil)
