-- A module without a fault is built as one that is numbered in the order of its text.
use Rattle.std.proofs.Common.{◌≡◌, ℕ, ◌≤◌, Bool, List, [], ◌∷◌, ◌++◌, refl, sym, ap, ◌∙◌, subst}
use Rattle.std.specs.Prelude.{None}
use Rattle.f77_ast.specs.PlainStmt.{stmts_of}
use Rattle.f77_statements.specs.Phrases.{end_module}
use Rattle.f77_structure.specs.Checks.{fault_of}
use Rattle.f77_structure.specs.Order.{nothing_ordered}
use Rattle.f77_structure.specs.Steps.{nothing_open}
use Rattle.f77_parser.specs.Statements.{StatementTree, marks_of}
use Rattle.f77_parser.specs.SoFar.{AroundTree}
use Rattle.f77_parser.specs.Building.{add_all, no_statements, written_module, build_module}
use Rattle.roundtrip_programs.specs.Statements.Formed.{Each}
use Rattle.roundtrip_programs.specs.ModuleTexts.Cards.{cards_in, while_numbers}
use Rattle.roundtrip_programs.specs.ModuleTexts.Numbered.{last_in, AreNumbered, IsAsWritten}
use Rattle.roundtrip_programs.specs.ModuleTexts.ModuleLaws.{IsStatement, BuiltWell}
use Rattle.roundtrip_programs.proofs.ModuleTexts.Steady.{no-fault}
use Rattle.roundtrip_programs.proofs.ModuleTexts.Counting.{start_of}
use Rattle.roundtrip_programs.proofs.ModuleTexts.Well.{all-go, all-closed, nothing-goes}
use Rattle.roundtrip_programs.proofs.ModuleTexts.Openings.{told_by, AllMay, all-may}
use Rattle.roundtrip_programs.proofs.ModuleTexts.Fitting.{all-fit}
use Rattle.roundtrip_programs.proofs.ModuleTexts.Standing.{around_cards}
use Rattle.roundtrip_programs.proofs.ModuleTexts.Reading.{all-ordered, nothing-ordered}
use Rattle.roundtrip_programs.proofs.ModuleTexts.FoldedLaws.{elaborated_well}

-- the DO WHILEs of these statements by their numbers
abbrev pub told_of : List StatementTree → ℕ → Bool
told_of ss = told_by (add_all ss no_statements).whiles

pub all-told : (begun : List StatementTree) (s : StatementTree) → Each IsStatement (begun ++ s ∷ []) → fault_of (marks_of (begun ++ s ∷ [])) ≡ None
    → AllMay (told_of (begun ++ s ∷ [])) (begun ++ s ∷ []) no_statements
all-told begun s i h = let ss = begun ++ s ∷ [] in all-may ss 0 no_statements nothing_open i nothing-goes (no-fault (marks_of ss) h).2 tt

pub written_well : (closing : List (List ℕ)) (begun : List StatementTree) (s : StatementTree) → s.phrase ≡ end_module → Each IsStatement (begun ++ s ∷ [])
    → fault_of (marks_of (begun ++ s ∷ [])) ≡ None → IsAsWritten (written_module closing (begun ++ s ∷ [])).module_read
unfolding written_module
written_well closing begun s e i h =
    let ss = begun ++ s ∷ [] in
    let none = no-fault (marks_of ss) h in
    let f = told_of ss in
    let p = add_all ss no_statements in
    let may = all-told begun s i h in
    let g = all-go ss 0 no_statements nothing_open i nothing-goes none.2 in
    let r = all-ordered f ss no_statements nothing_ordered i may (nothing-ordered f) none.0 in
    let t = all-fit f ss no_statements i may (record { around = tt; list = tt }) in
    let closed = all-closed begun s 0 no_statements nothing_open e i nothing-goes none.2 in
    let body = stmts_of p.list in
    let Numbered : List AroundTree → Type 0 = λ xs. AreNumbered (start_of xs) body in
    let Few : ℕ → Type 0 = λ n. n ≤ 4096 in
    record {
      title = g.counts.heading.title;
      function = g.counts.heading.function;
      body = subst Numbered closed g.counts.list;
      few = subst Few (sym r.same ∙ g.counts.count ∙ ap (λ xs. last_in (start_of xs) body) closed) r.few;
      whiles = t.list;
      listed = sym (ap (λ xs. while_numbers (around_cards f xs ++ cards_in f body)) closed) ∙ r.whiles;
      plain = refl;
    }

pub built_well : BuiltWell
unfolding build_module
built_well closing begun s e i h = elaborated_well (written_module closing (begun ++ s ∷ [])).module_read (written_well closing begun s e i h)
