-- What is known of a DO is made of its parts, and what is looked up may be handed on.
use Rattle.std.proofs.Common.{◌≡◌, ℕ, ◌-◌, false, List, Option, Some, None, refl, sym, ap, ◌∙◌}
use Rattle.std.specs.Prelude.{unwrap_or}
use Rattle.std.proofs.lemmas.Option.{slice_get_within, unwrap_or-slice_get}
use Rattle.affine_systems.specs.declared.row.System.{System}
use Rattle.affine_systems.specs.Given.{Fits}
use Rattle.f77_ast.specs.declared.stmt.Loop.{Loop, out-Loop}
use Rattle.f77_ast.specs.Trees.{LoopTree}
use Rattle.f77_ast.specs.PlainStmt.{stmt_trees, loop_tree}
use Rattle.f77_ast.proofs.PlainlyStmt.{loop_tree-out}
use Rattle.f77_ast.specs.Shared.{numbered}
use Rattle.f77_ast.specs.declared.results.At.{At}
use Rattle.preconditions.specs.transformer_algebra.declared.transformer.Transformer.{Transformer}
use Rattle.preconditions.specs.transformer_algebra.declared.loop_parts.LoopParts.{LoopParts}
use Rattle.preconditions.specs.call_translation.Scopes.{ScopeTree}
use Rattle.preconditions.specs.transformers.Lists.{value_at, list_at}
use Rattle.preconditions.specs.transformers.Loops.{loop_parts}
use Rattle.preconditions.specs.Statement.{EachFits}
use Rattle.region_sets.specs.declared.region.Region.{Region}
use Rattle.region_sets.specs.Lists.{list_regions}
use Rattle.dependence_test.specs.declared.body.LoopBody.{LoopBody}
use Rattle.dependence_test.specs.Body.{or_no_rows, head_of, changed_cells, with_parts, parts_of, body_of}
use Rattle.preconditions.proofs.Shared.{or-fits}

-- ---- what holds at a statement

pub value-fits : (as' : List (At System)) (n : ℕ) (s : System) → value_at as' n ≡ Some s → EachFits as' → Fits s
value-fits as' n s q h = or-fits (numbered as' n) n as' s refl q h

pub system_is : (o : Option System) (s t : System) → Some s ≡ o → t ≡ s → t ≡ or_no_rows o
system_is None s t e f = cc
system_is (Some r) s t e f = cc

pub ruleset systems = (system_is)

-- ---- parts

pub parts-made : (l : Loop) (m : ScopeTree) (t : ℕ → Transformer) (body : Transformer) (parts : LoopParts) → parts ≡ loop_parts m (loop_tree l) body → body ≡ list_at t false (stmt_trees (out-Loop l).body) → parts ≡ parts_of (loop_tree l) m t
parts-made l m t body parts f e =
    let q = loop_tree-out l in
    let does = list_at t false (stmt_trees (out-Loop l).body) in
    f ∙ ap (loop_parts m (loop_tree l)) e ∙ ap (λ (y : LoopTree). loop_parts m y does) q ∙ sym (ap (λ (y : LoopTree). parts_of y m t) q)

pub body-made : (l : Loop) (m : ScopeTree) (t : ℕ → Transformer) (ps : List (At System)) (f : ℕ → List Region) (parts : LoopParts) (cs : List ℕ) (head : System) (rs : List Region) → parts ≡ parts_of (loop_tree l) m t → cs ≡ changed_cells parts → head ≡ head_of ps (stmt_trees (out-Loop l).body) → rs ≡ list_regions t f false (stmt_trees (out-Loop l).body) → record { index = parts.index; step = parts.step; cells = cs; head = head; regions = rs } ≡ body_of (loop_tree l) m t ps f
body-made l m t ps f parts cs head rs ep ec eh er =
    let q = loop_tree-out l in
    let body = stmt_trees (out-Loop l).body in
    let with_cells : LoopBody → List ℕ → LoopBody = λ (b : LoopBody) (c : List ℕ). record b { cells = c } in
    ap (with_cells (with_parts parts head rs)) ec
    ∙ ap (λ (p : LoopParts). with_parts p head rs) ep
    ∙ ap (λ (s : System). with_parts (parts_of (loop_tree l) m t) s rs) eh
    ∙ ap (λ (r : List Region). with_parts (parts_of (loop_tree l) m t) (head_of ps body) r) er
    ∙ ap (λ (y : LoopTree). with_parts (parts_of y m t) (head_of ps body) (list_regions t f false body)) q
    ∙ sym (ap (λ (y : LoopTree). body_of y m t ps f) q)

pub ruleset bodies = (parts-made, body-made)
