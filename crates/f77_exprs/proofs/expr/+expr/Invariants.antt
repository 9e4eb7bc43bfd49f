use Rattle.std.proofs.Common.{◌≡◌, ℕ, ◌+◌, ◌*◌, length, map}
use Rattle.f77_ast.specs.Plain.{expr_tree}
use Rattle.f77_exprs.specs.State.{state}
use Rattle.f77_exprs.specs.Grammar.{part, whole, more, comma, more_by, operators_of, operand_of}
use Rattle.f77_exprs.specs.declared.operators.Level.{Level}
use Rattle.f77_exprs.specs.declared.operators.Level.TheVariants.{Equivalence, Disjunction, Conjunction, Sum, Product}
use Rattle.f77_exprs.proofs.expr.+expr.Given as goal

-- the callers of a function have a higher rank
abbrev rank_of : Level → ℕ
rank_of Equivalence = 28
rank_of Disjunction = 25
rank_of Conjunction = 22
rank_of Sum = 15
rank_of Product = 10

abbrev pub decreases-whole : goal.decreases-whole
decreases-whole l = l.depth * 40 + 0

abbrev pub decreases-power : goal.decreases-power
decreases-power l = l.depth * 40 + 1

abbrev pub decreases-more_items : goal.decreases-more_items
decreases-more_items l = l.depth * 40 + 2

abbrev pub decreases-items : goal.decreases-items
decreases-items l = l.depth * 40 + 3

abbrev pub decreases-element_at : goal.decreases-element_at
decreases-element_at l = l.depth * 40 + 4

abbrev pub decreases-parenthesis : goal.decreases-parenthesis
decreases-parenthesis l = l.depth * 40 + 5

abbrev pub decreases-variable_in : goal.decreases-variable_in
decreases-variable_in l = l.depth * 40 + 6

abbrev pub decreases-primary : goal.decreases-primary
decreases-primary l = l.depth * 40 + 7

abbrev pub decreases-exponent : goal.decreases-exponent
decreases-exponent l = l.depth * 40 + 8

abbrev pub decreases-factor : goal.decreases-factor
decreases-factor l = l.depth * 40 + 9

abbrev pub decreases-term : goal.decreases-term
decreases-term l = l.depth * 40 + 12

abbrev pub decreases-signed_terms : goal.decreases-signed_terms
decreases-signed_terms l = l.depth * 40 + 13

abbrev pub decreases-signed_term : goal.decreases-signed_term
decreases-signed_term l = l.depth * 40 + 14

abbrev pub decreases-arithmetic : goal.decreases-arithmetic
decreases-arithmetic l = l.depth * 40 + 17

abbrev pub decreases-comparison : goal.decreases-comparison
decreases-comparison l = l.depth * 40 + 18

abbrev pub decreases-relation : goal.decreases-relation
decreases-relation l = l.depth * 40 + 19

abbrev pub decreases-negated_relation : goal.decreases-negated_relation
decreases-negated_relation l = l.depth * 40 + 20

abbrev pub decreases-negation : goal.decreases-negation
decreases-negation l = l.depth * 40 + 21

abbrev pub decreases-conjunction : goal.decreases-conjunction
decreases-conjunction l = l.depth * 40 + 24

abbrev pub decreases-disjunction : goal.decreases-disjunction
decreases-disjunction l = l.depth * 40 + 27

abbrev pub decreases-equivalence : goal.decreases-equivalence
decreases-equivalence l = l.depth * 40 + 30

abbrev pub decreases-operand : goal.decreases-operand
decreases-operand l = l.depth * 40 + rank_of l.level

abbrev pub decreases-more : goal.decreases-more
decreases-more l = l.depth * 40 + (rank_of l.level + 1)

abbrev pub decreases-more-loop-turns : goal.decreases-more-loop-turns
decreases-more-loop-turns l = l.turns

abbrev pub invariant-more-loop-turns : goal.invariant-more-loop-turns
invariant-more-loop-turns l =
    more (operators_of l.level) (operand_of l.level (part l.depth)) l.turns (expr_tree l.left) (state l.at)
    ≡ more (operators_of l.level) (operand_of l.level (part l.depth)) (length l.fn.at.rest.now) (expr_tree l.fn.left) (state l.fn.at)

abbrev pub decreases-more_items-loop-turns : goal.decreases-more_items-loop-turns
decreases-more_items-loop-turns l = l.turns

abbrev pub invariant-more_items-loop-turns : goal.invariant-more_items-loop-turns
invariant-more_items-loop-turns l =
    more_by comma (part l.depth whole) l.turns (map expr_tree l.found) (state l.at)
    ≡ more_by comma (part l.depth whole) (length l.fn.at.rest.now) (map expr_tree l.fn.found) (state l.fn.at)
