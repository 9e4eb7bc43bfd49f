-- Steps of the loops over subscripts, expressions, arms, symbols and sets, and what is handed on may be handed on.
use Rattle.std.proofs.Common.{◌≡◌, ℕ, suc, false, ◌+◌, ◌<◌, ◌^◌, List, [], ◌∷◌, ◌++◌, length, get_or, drop, ℤ, unsigned_abs, add-one, append_assoc, append-nil, ap, sym, ◌∙◌}
use Rattle.f77_ast.specs.declared.expr.Expr.{Expr, the_lemmas}
use Rattle.f77_ast.specs.Trees.{ExprTrees, LoopTree}
use Rattle.f77_ast.specs.declared.stmt.Loop.{Loop, out-Loop}
use Rattle.f77_ast.specs.Plain.{expr_tree, expr_trees}
use Rattle.f77_ast.specs.PlainStmt.{stmt_trees, loop_tree}
use Rattle.f77_ast.proofs.Plainly.{expr_cases, expr_lists, expr_trees-drop}
use Rattle.f77_ast.proofs.PlainlyStmt.{arm_trees-drop_at, loop_tree-out}
use Rattle.f77_ast.specs.declared.results.At.{At}
use Rattle.transformers.specs.call_translation.Scopes.{ScopeTree}
use Rattle.region_translation.specs.region_sets.declared.region.Region.{Region}
use Rattle.region_translation.specs.region_sets.Lists.{SetsFit}
use Rattle.region_translation.specs.region_sets.Sets.{SetFits}
use Rattle.transformers.specs.transformer_algebra.declared.transformer.Transformer.{Transformer}
use Rattle.transformers.specs.transformer_algebra.declared.loop_parts.LoopParts.{LoopParts}
use Rattle.transformers.specs.Lists.{list_at}
use Rattle.transformers.specs.Loops.{loop_parts}
use Rattle.array_regions.specs.Simple.{with_item, reading}
use Rattle.array_regions.specs.Loops.{Found, range_with, range_of}

-- ---- symbols

pub ruleset locals = (append_assoc, append-nil, add-one)

-- ---- expressions

pub ruleset expr_parts = (expr_cases, the_lemmas, append_assoc, append-nil)

pub ruleset expr_rest = (expr_lists, the_lemmas)

-- an item of a READ before those behind it
pub reading-step : (m : ScopeTree) (es : List Expr) (i : ℕ) (x : Expr) (set new : List Region) → i < length es → x ≡ get_or es i x → set ≡ reading (expr_trees (drop (i + 1) es)) m → new ≡ with_item m (expr_tree x) set → new ≡ reading (expr_trees (drop i es)) m
reading-step m es i x set new l g e h =
    h ∙ (ap (with_item m (expr_tree x)) e ∙ (ap (λ (y : Expr). with_item m (expr_tree y) (reading (expr_trees (drop (i + 1) es)) m)) g
    ∙ ap (λ (ts : ExprTrees). reading ts m) (sym (expr_trees-drop es i x l))))

pub ruleset item_step = (reading-step)

-- ---- statements

pub ruleset arm_rest = (arm_trees-drop_at, append_assoc, append-nil)

pub ruleset loop_values = (loop_tree-out, append_assoc, append-nil)

-- what a DO is to the regions of its body, by its parts
pub range-made : (l : Loop) (m : ScopeTree) (t : Found) (body : Transformer) (parts : LoopParts) → parts ≡ loop_parts m (loop_tree l) body → body ≡ list_at t false (stmt_trees (out-Loop l).body) → range_with parts ≡ range_of (loop_tree l) m t
range-made l m t body parts f e =
    let q = loop_tree-out l in
    let does = list_at t false (stmt_trees (out-Loop l).body) in
    ap range_with (f ∙ (ap (loop_parts m (loop_tree l)) e ∙ ap (λ (y : LoopTree). loop_parts m y does) q)) ∙ sym (ap (λ (y : LoopTree). range_of y m t) q)

pub ruleset range_parts = (range-made)

-- ---- sets at statements

pub sets-push : (as' : List (At (List Region))) (a : At (List Region)) → SetsFit as' → SetFits a.value → SetsFit (as' ++ a ∷ [])
sets-push [] a h f = (f, tt)
sets-push (b ∷ as') a h f = (h.0, sets-push as' a h.1 f)

pub sets-append : (as' bs : List (At (List Region))) → SetsFit as' → SetsFit bs → SetsFit (as' ++ bs)
sets-append [] bs h k = k
sets-append (a ∷ as') bs h k = (h.0, sets-append as' bs h.1 k)

pub ruleset sets = (sets-push, sets-append, append_assoc, append-nil)
