-- The text of a module, card by card.
use Rattle.std.proofs.Common.{◌≡◌, ℕ, List, [], ◌∷◌, ◌++◌, Bool, true, false, refl, sym, ap, ◌∙◌}
use Rattle.std.specs.Prelude.{Option, Some, None, ◌||◌, not, if◌then◌else◌}
use Rattle.f77_ast.specs.declared.places.Part.{Part}
use Rattle.f77_ast.specs.declared.places.Part.TheVariants as parts
use Rattle.f77_ast.specs.DeclTrees.{ModuleTree}
use Rattle.f77_ast.specs.declared.module.FunctionForm.{FunctionForm}
use Rattle.f77_statements.specs.Phrases.{program, end_module}
use Rattle.f77_parser.specs.Elaborated.{meant_in, elaborated}
use Rattle.f77_printer.specs.PageText.{PageTree, with_text, with_line, lines_text}
use Rattle.f77_printer.specs.AddedText.{added_text}
use Rattle.f77_printer.specs.ModuleText.{with_start, head_text, title_text, with_decls, with_statements, with_end, with_module, first_part}
use Rattle.roundtrip_programs.specs.Statements.Written.{phrase_text}
use Rattle.roundtrip_programs.specs.ModuleTexts.Cards.{card, cards_in, head_phrase, title_of, title_cards, decl_cards, statements_of}
use Rattle.roundtrip_programs.specs.ModuleTexts.Folded.{folded}
use Rattle.roundtrip_programs.specs.ModuleTexts.Numbered.{IsWell}
use Rattle.roundtrip_programs.specs.ModuleTexts.ModuleLaws.{WrittenByCards}
use Rattle.roundtrip_programs.proofs.ModuleTexts.PageSteps.{with_cards, with_cards-append, page-cards}
use Rattle.roundtrip_programs.proofs.ModuleTexts.TreePages.{list_page, decls_page}

head_by : (function : Option FunctionForm) (name : List ℕ) (dummies : List (List ℕ)) → head_text function name dummies ≡ phrase_text (head_phrase function name dummies)
head_by None name dummies = refl
head_by (Some form) name dummies = refl

title_by : (b : Bool) (m : ModuleTree) → (if b then phrase_text (program m.name) else head_text m.function m.name m.dummies) ≡ phrase_text (if b then program m.name else head_phrase m.function m.name m.dummies)
title_by true m = refl
title_by false m = head_by m.function m.name m.dummies

title_page : (added : Part → List ℕ) (m : ModuleTree) (p : PageTree) (b : Bool)
    → (if b then with_line None (title_text m) (with_start added parts.Title p) else p) ≡ with_cards added (if b then card parts.Title None (title_of m) ∷ [] else []) p
title_page added m p true = ap (λ t. with_line None t (with_start added parts.Title p)) (title_by m.main m)
title_page added m p false = refl

-- the statements are those that stand for the statements of the text
body_page : (added : Part → List ℕ) (m : ModuleTree) (p : PageTree) → IsWell m → with_statements added m.body p ≡ with_cards added (cards_in (meant_in m).is_while (folded m).body) p
unfolding elaborated folded
body_page added m p well =
    ap (λ (x : ModuleTree). with_statements added x.body p) (sym well.same)
    ∙ list_page added (meant_in (folded m)) 0 0 (folded m).body p well.body well.few well.whiles

module_page : (added : Part → List ℕ) (m : ModuleTree) (p : PageTree) → IsWell m → with_module added m p ≡ with_cards added (statements_of m) p
unfolding statements_of
module_page added m p well =
    let title = title_cards m in let decls = decl_cards 0 m.decls in let body = cards_in (meant_in m).is_while (folded m).body in let end = card parts.End None end_module ∷ [] in
    ap (λ x. with_end added (with_statements added m.body (with_decls added 0 m.decls x))) (title_page added m p (m.titled || not m.main))
    ∙ ap (λ x. with_end added (with_statements added m.body x)) (decls_page added 0 m.decls (with_cards added title p) ∙ sym (with_cards-append added title decls p))
    ∙ ap (λ x. with_end added x) (body_page added m (with_cards added (title ++ decls) p) well ∙ sym (with_cards-append added (title ++ decls) body p))
    ∙ sym (with_cards-append added (title ++ decls ++ body) end p)

pub written_by_cards : WrittenByCards
unfolding with_text
written_by_cards places m added well =
    let by = added_text (first_part m) added in
    ap (λ p. p.text ++ lines_text places.closing) (module_page by m (record { text = []; spots = places.spots }) well)
    ∙ ap (λ t. t ++ lines_text places.closing) (page-cards by (statements_of m) [] places.spots)
