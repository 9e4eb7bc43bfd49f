use Rattle.std.proofs.Common.{◌≡◌, ◌∙◌, [], ◌∷◌, ◌++◌, Ok, map, sym, ap, ap₂}
use Rattle.std.proofs.lemmas.List.{map-append}
use Rattle.f77_ast.specs.PlainDecl.{parsed_tree}
use Rattle.f77_parser.specs.Statements.{statement_tree}
use Rattle.f77_structure.specs.Lists.{is_none_of}
use Rattle.f77_parser.specs.Modules.{closing_at, module_read, modules_from}
use Rattle.f77_parser.proofs.ModuleLemmas.{none_mapped, module_ended}
use Rattle.f77_parser.proofs.read.modules_of.Goals as goal

pub loop-statement-preserved-then-ends : goal.loop-statement-preserved-then-ends
loop-statement-preserved-then-ends c =
    let cl = c.args.closing.now in
    let s = c.in-Some.statement in
    let p = c.in-Ok.parsed in
    let done = map parsed_tree c.loop-statement.done in
    let begun = map statement_tree c.loop-statement.begun in
    let rest = map statement_tree c.pop.new.self in
    let more : map parsed_tree c.push-in-Ok.new.self ≡ done ++ parsed_tree p ∷ [] = ap (map parsed_tree) c.in_ok-push-in-Ok.ensures.ok ∙ map-append parsed_tree c.loop-statement.done (p ∷ []) in
    let one : map statement_tree c.push.new.self ≡ begun ++ statement_tree s ∷ [] = ap (map statement_tree) c.in_ok-push.ensures.ok ∙ map-append statement_tree c.loop-statement.begun (s ∷ []) in
    let last : c.in_ok-closing.closing ≡ closing_at (is_none_of rest) cl = c.in_ok-closing.ensures ∙ ap (λ b. closing_at b cl) (c.is_empty.ensures ∙ none_mapped statement_tree c.pop.new.self) in
    let read : module_read (closing_at (is_none_of rest) cl) (begun ++ statement_tree s ∷ []) ≡ Ok (parsed_tree p) = sym (ap₂ (λ x y. module_read x y) last one) ∙ c.in-Ok.ensures in
    let old : modules_from cl done begun (map statement_tree c.loop-statement.rest) ≡ modules_from cl done begun (statement_tree s ∷ rest) = ap (λ ss. modules_from cl done begun (map statement_tree ss)) c.in-Some.ensures in
    ap₂ (λ x y. modules_from cl x (map statement_tree y) rest) more c.new-begun-then-ends.ensures
    ∙ (sym (module_ended cl done begun (statement_tree s) rest (parsed_tree p) (sym c.ends_module-ends.ensures ∙ c.if-ends.true) read) ∙ (sym old ∙ c.loop-statement.invariant))
