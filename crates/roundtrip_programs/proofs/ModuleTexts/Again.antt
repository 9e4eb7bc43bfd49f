-- What is written of a module makes it again.
use Rattle.std.proofs.Common.{◌≡◌, ℕ, ◌+◌, Bool, true, false, List, [], ◌∷◌, ◌++◌, refl, sym, ap, ◌∙◌, append_assoc, append-nil}
use Rattle.std.specs.Prelude.{None, Option, Some}
use Rattle.f77_ast.specs.declared.module.FunctionForm.{FunctionForm}
use Rattle.f77_ast.specs.declared.places.Part.TheVariants as parts
use Rattle.f77_ast.specs.DeclTrees.{DeclTree, ModuleTree}
use Rattle.f77_statements.specs.Phrases.{end_module}
use Rattle.f77_parser.specs.declared.progress.Heading.{Heading}
use Rattle.f77_parser.specs.SoFar.{SoFar, add_spot}
use Rattle.f77_parser.specs.Building.{no_statements, whole, written_module, build_module}
use Rattle.f77_parser.specs.Elaborated.{meant_in, elaborated}
use Rattle.roundtrip_programs.specs.ModuleTexts.Cards.{card, cards_in, head_phrase, title_cards, decl_cards, statements_of}
use Rattle.roundtrip_programs.specs.ModuleTexts.Numbered.{last_in, TitleFits, FunctionFits, IsWell}
use Rattle.roundtrip_programs.specs.ModuleTexts.Folded.{folded}
use Rattle.roundtrip_programs.specs.ModuleTexts.ModuleLaws.{AreWritten, BuiltAgain}
use Rattle.f77_parser.specs.Statements.{StatementTree}
use Rattle.roundtrip_programs.proofs.ModuleTexts.Bare.{all_turned, all_made, all_stated-bare, all_made-turned, all_made-append}
use Rattle.roundtrip_programs.proofs.ModuleTexts.TreeLists.{list_of, stmts_of-list_of}
use Rattle.roundtrip_programs.proofs.ModuleTexts.TreeBack.{so, list_back}

-- the title of a module
abbrev pub heading_of : ModuleTree → Heading
heading_of m = record { name = m.name; main = m.main; titled = m.titled; dummies = m.dummies; function = m.function }

-- of a module that is no main program
head_by : (function : Option FunctionForm) (name : List ℕ) (dummies : List (List ℕ)) → FunctionFits function false name dummies
    → all_made (card parts.Title None (head_phrase function name dummies) ∷ []) no_statements
    ≡ so (record { name = name; main = false; titled = false; dummies = dummies; function = function }) [] 0 [] [] []
unfolding add_spot
head_by None name dummies fits = refl
head_by (Some form) name dummies fits = ap (λ ds. so (record { name = name; main = false; titled = false; dummies = ds; function = Some form }) [] 0 [] [] []) fits.last

-- a main program is no function
main-plain : (function : Option FunctionForm) (name : List ℕ) (dummies : List (List ℕ)) → FunctionFits function true name dummies → function ≡ None
main-plain None name dummies fits = refl
main-plain (Some form) name dummies fits = cc fits.called

pub title_by : (main titled : Bool) (m : ModuleTree) → m.main ≡ main → m.titled ≡ titled → TitleFits main titled m.name m.dummies → FunctionFits m.function main m.name m.dummies
    → all_made (title_cards m) no_statements ≡ so (heading_of m) [] 0 [] [] []
unfolding add_spot
title_by true true m e f fits own = let g = main-plain m.function m.name m.dummies own in rw (e, f, fits, g) refl
title_by true false m e f fits own = let g = main-plain m.function m.name m.dummies own in rw (e, f, fits.alone, fits.unnamed, g) refl
title_by false titled m e f fits own = let g = f ∙ fits in rw (e, g) (head_by m.function m.name m.dummies own)

pub decls_back : (h : Heading) (done : List DeclTree) (place : ℕ) (ds : List DeclTree) → all_made (decl_cards place ds) (so h done 0 [] [] []) ≡ so h (done ++ ds) 0 [] [] []
unfolding add_spot
decls_back h done place [] = ap (λ x. so h x 0 [] [] []) (sym (append-nil done))
decls_back h done place (d ∷ ds) =
    decls_back h (done ++ d ∷ []) (place + 1) ds ∙ ap (λ x. so h x 0 [] [] []) (append_assoc done (d ∷ []) ds)

pub made : (m : ModuleTree) → IsWell m → all_made (statements_of m) no_statements ≡ so (heading_of m) m.decls (last_in 0 (folded m).body) m.whiles (list_of (folded m).body) []
unfolding statements_of add_spot
made m well =
    let h = heading_of m in
    let f = (meant_in m).is_while in
    let list = (folded m).body in
    let title = title_cards m in let decls = decl_cards 0 m.decls in let body = cards_in f list in let end = card parts.End None end_module ∷ [] in
    all_made-append (title ++ decls ++ body) end no_statements
    ∙ ap (all_made end) (all_made-append (title ++ decls) body no_statements
    ∙ ap (all_made body) (all_made-append title decls no_statements
    ∙ ap (all_made decls) (title_by m.main m.titled m refl refl well.title well.function) ∙ decls_back h [] 0 m.decls)
    ∙ list_back f h m.decls 0 [] [] [] list (λ l p. refl) well.body well.whiles)
    ∙ ap (λ ws. so h m.decls (last_in 0 list) ws (list_of list) []) well.listed

-- the module as it is written
pub written_again : (m : ModuleTree) (closing : List (List ℕ)) (ss : List StatementTree) → IsWell m → AreWritten m ss → (written_module closing ss).module_read ≡ folded m
unfolding written_module folded
written_again m closing ss well written =
    let read = λ (p : SoFar). (whole [] p).module_read in
    ap read (all_stated-bare ss no_statements
    ∙ ap (λ ls. all_turned ls no_statements) written
    ∙ sym (all_made-turned (statements_of m) no_statements)
    ∙ made m well)
    ∙ ap (λ x. record m { body = x; references = [] }) (stmts_of-list_of (folded m).body)

pub built_again : BuiltAgain
unfolding build_module
built_again m closing ss well written = ap elaborated (written_again m closing ss well written) ∙ well.same
