use Rattle.std.proofs.Common.{◌≡◌, ℕ, suc, ◌≤◌, Bool, List, [], ◌∷◌, length, map, get_or, Option, Some, sym, ap, ◌∙◌, arith}
use Rattle.f77_ast.specs.DeclTrees.{ParsedTree}
use Rattle.f77_ast.specs.PlainDecl.{parsed_tree}
use Rattle.call_graph.specs.declared.calls.Called.{Called}
use Rattle.call_graph.specs.declared.refusal.Fault.{Fault}
use Rattle.call_graph.specs.Recursion.{cyclic_in, cyclic_fault, cyclic_at, cyclic_from}
use Rattle.call_graph.specs.Tables.{cell}
use Rattle.call_graph.proofs.recursion.cyclic_from.Goals as goal

-- a CALL of the first module leads back
at_first : {A : Type 0} (f : A → ParsedTree) (back : ℕ → ℕ → Bool) (k : ℕ) (xs : List A) (x : A) (css : List (List Called)) (cs : List Called) (names : List (List ℕ)) (n : ℕ) → 1 ≤ length xs → 1 ≤ length css → x ≡ get_or xs 0 x → cs ≡ get_or css 0 cs → cyclic_in (λ c. back c k) names cs ≡ Some n → cyclic_from back k (map f xs) css names ≡ Some (cyclic_fault k (f x) n)
at_first f back k [] x css cs names n some others e g h = absurd (omega (arith, some))
at_first f back k (y ∷ xs) x [] cs names n some others e g h = absurd (omega (arith, others))
at_first f back k (y ∷ xs) x (ds ∷ css) cs names n some others e g h =
    let later : Option Fault = cyclic_from back (suc k) (map f xs) css names in
    ap (λ z. cyclic_at k (f z) (cyclic_in (λ c. back c k) names ds) later) (sym e)
    ∙ ap (λ o. cyclic_at k (f x) o later) (ap (cyclic_in (λ c. back c k) names) (sym g) ∙ h)

pub returns-in-Some : goal.returns-in-Some
returns-in-Some c =
    ap Some c.cyclic_fault.ensures
    ∙ sym (at_first parsed_tree (cell c.args.table.now) c.loop-rest.caller c.loop-rest.rest.now c.parsed-item.result c.loop-rest.others.now c.own-item.result c.args.names.now c.in-Some.at c.in-len1-up.len_at_least c.in-len1-up-others.len_at_least c.parsed-item.is c.own-item.is (sym c.cyclic_in.ensures ∙ c.in-Some.is))
    ∙ c.loop-rest.invariant.same
