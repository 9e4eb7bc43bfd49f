-- Statements that assign F(), or the value of a function.
use Rattle.std.proofs.Common.{◌≡◌, ℕ, ◌≤◌, Bool, true, false, List, [], ◌∷◌, length, Option, Some, None, refl, arith}
use Rattle.std.specs.Prelude.{not, ◌&&◌, if◌then◌else◌}
use Rattle.fx_lists.proofs.Booleans.{or_neither}
use Rattle.f77_ast.specs.declared.expr.Expr.{Expr}
use Rattle.f77_ast.specs.Plain.{expr_trees}
use Rattle.f77_parser.specs.Functions.{has, bounded_names, is_external}
use Rattle.f77_parser.specs.Statements.{StatementTree}
use Rattle.f77_parser.specs.Ends.{ends_module, decls_to_end}
use Rattle.f77_parser.specs.References.{Application, are_none, assigned_by, is_empty_call, is_bad_call, has_empty_call, empty_call_from, is_reference, is_bad_reference, has_reference, bad_reference_from}

pub are_some : (es : List Expr) → 1 ≤ length es → are_none (expr_trees es) ≡ false
are_some [] h = absurd (omega (arith, h))
are_some (e ∷ es) h = refl

pub ruleset arguments = (are_some)

-- ---- without F() there is no fault of one

both_false : (a b : Bool) → a ≡ false → (a && b) ≡ false
both_false true b e = cc
both_false false b e = refl

no_bad_call : (bounded : List (List ℕ)) (a : Option Application) → is_empty_call a ≡ false → is_bad_call bounded a ≡ false
no_bad_call bounded None e = refl
no_bad_call bounded (Some a) e = both_false (are_none a.arguments) (not (is_external bounded a.name)) e

if_both_none : (b : Bool) (p q : Option ℕ) → p ≡ None → q ≡ None → (if b then p else q) ≡ None
if_both_none true p q e f = e
if_both_none false p q e f = f

pub no_empty_call : (bounded : List (List ℕ)) (ss : List StatementTree) → has_empty_call ss ≡ false → empty_call_from bounded ss ≡ None
no_empty_call bounded [] e = refl
no_empty_call bounded (s ∷ ss) e =
    let parts = or_neither (is_empty_call (assigned_by s.phrase)) (has_empty_call ss) e in
    rw (no_bad_call bounded (assigned_by s.phrase) parts.0)
    (if_both_none (ends_module s.phrase) _ _ (no_empty_call (bounded_names (decls_to_end ss)) ss parts.1) (no_empty_call bounded ss parts.1))

-- ---- without the value of a function there is no fault of one

no_bad_reference : (bounded names : List (List ℕ)) (a : Option Application) → is_reference bounded a ≡ false → is_bad_reference bounded names a ≡ false
no_bad_reference bounded names None e = refl
no_bad_reference bounded names (Some a) e = both_false (is_external bounded a.name) (has names a.name) e

pub no_reference : (bounded names : List (List ℕ)) (ss : List StatementTree) → has_reference bounded ss ≡ false → bad_reference_from bounded names ss ≡ None
no_reference bounded names [] e = refl
no_reference bounded names (s ∷ ss) e =
    let parts = or_neither (is_reference bounded (assigned_by s.phrase)) (has_reference bounded ss) e in
    rw (no_bad_reference bounded names (assigned_by s.phrase) parts.0) (no_reference bounded names ss parts.1)

pub ruleset quiet = (no_empty_call, no_reference)
