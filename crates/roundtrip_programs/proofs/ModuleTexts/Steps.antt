-- The blocks of a module that was read, and of what is written of it.
use Rattle.std.proofs.Common.{◌≡◌, ℕ, zero, suc, ◌+◌, List, [], ◌∷◌, ◌++◌, map, length, refl, sym, ap, ◌∙◌, subst, arith}
use Rattle.std.specs.Prelude.{Option, Some, None, Bool, true, false, ◌||◌, not, if◌then◌else◌}
use Rattle.f77_ast.specs.declared.places.Part.TheVariants as parts
use Rattle.f77_ast.specs.DeclTrees.{DeclTree, ModuleTree}
use Rattle.f77_ast.specs.PlainStmt.{stmts_of}
use Rattle.f77_statements.specs.Phrases.{PhraseTree, program, specification, end_module}
use Rattle.f77_ast.specs.declared.module.FunctionForm.{FunctionForm}
use Rattle.f77_structure.specs.declared.open.Open.{Open}
use Rattle.f77_structure.specs.declared.open.Sought.TheVariants as sought
use Rattle.f77_structure.specs.declared.blocks.Blocks.{Blocks}
use Rattle.f77_structure.specs.Blocks.{down_to, parse_executable}
use Rattle.f77_structure.specs.Terminals.{spoiled_by}
use Rattle.f77_structure.specs.Checks.{fault_of}
use Rattle.f77_structure.specs.Steps.{by_role, parse_statement, all_stepped, nothing_open}
use Rattle.f77_parser.specs.Roles.{role_of}
use Rattle.f77_parser.specs.Statements.{StatementTree, mark_of, marks_of}
use Rattle.f77_parser.specs.SoFar.{AroundTree, SoFar}
use Rattle.f77_parser.specs.Building.{add_statement, add_all, no_statements, written_module, build_module}
use Rattle.f77_parser.specs.Elaborated.{meant_in}
use Rattle.roundtrip_programs.specs.Statements.Formed.{Each}
use Rattle.roundtrip_programs.specs.ModuleTexts.Cards.{Card, card, cards_in, head_phrase, title_of, title_cards, decl_cards, statements_of}
use Rattle.roundtrip_programs.specs.ModuleTexts.Folded.{folded}
use Rattle.roundtrip_programs.specs.ModuleTexts.Shallow.{AreShallow}
use Rattle.roundtrip_programs.specs.ModuleTexts.ModuleLaws.{of_statement, of_card, IsStatement, BuiltNested, BlocksAgain}
use Rattle.roundtrip_programs.proofs.ModuleTexts.Steady.{step-calm, all-found, no-fault}
use Rattle.roundtrip_programs.proofs.ModuleTexts.Nested.{Nests, phrase-nests}
use Rattle.roundtrip_programs.proofs.ModuleTexts.Well.{Goes, one-goes, nothing-goes, all-closed}
use Rattle.roundtrip_programs.proofs.ModuleTexts.FoldedLaws.{written_back}
use Rattle.roundtrip_programs.proofs.ModuleTexts.Built.{written_well, built_well}
use Rattle.roundtrip_programs.proofs.ModuleTexts.Alone.{some-first, first-same}
use Rattle.roundtrip_programs.proofs.ModuleTexts.Stepping.{mark_at, all_set, Stays, unlabelled-at}
use Rattle.roundtrip_programs.proofs.ModuleTexts.Setting.{set-append, list_set}

-- ---- what was read

all-nest : (ss : List StatementTree) (place : ℕ) (p : SoFar) (b : Blocks) → Each IsStatement ss → Goes p b → Nests p → (all_stepped place (marks_of ss) b).found ≡ None
    → Nests (add_all ss p)
all-nest [] place p b i g n h = n
all-nest (s ∷ ss) place p b i g n h =
    let next = parse_statement place (mark_of s) b in
    let e = all-found (place + 1) (marks_of ss) next h in
    let c = step-calm place (mark_of s) b e in
    all-nest ss (place + 1) (add_statement s p) next i.others (one-goes s place p b i.first g e)
    (phrase-nests s.first s.label s.comments s.phrase s.first p (record b { place = place }) i.first g.matched (sym (ap (λ x. x.found) c.same) ∙ e) n) h

written_nested : (closing : List (List ℕ)) (begun : List StatementTree) (s : StatementTree) → s.phrase ≡ end_module → Each IsStatement (begun ++ s ∷ [])
    → fault_of (marks_of (begun ++ s ∷ [])) ≡ None → AreShallow 0 (written_module closing (begun ++ s ∷ [])).module_read.body
unfolding written_module
written_nested closing begun s e i h =
    let ss = begun ++ s ∷ [] in
    let f = (no-fault (marks_of ss) h).2 in
    let n = all-nest ss 0 no_statements nothing_open i nothing-goes (record { around = tt; list = tt }) f in
    let p = add_all ss no_statements in
    let P : List AroundTree → Type 0 = λ xs. AreShallow (length xs) (stmts_of p.list) in
    subst P (all-closed begun s 0 no_statements nothing_open e i nothing-goes f) n.list

pub built_nested : BuiltNested
unfolding build_module
built_nested closing begun s e i h =
    let w = (written_module closing (begun ++ s ∷ [])).module_read in
    let P : ModuleTree → Type 0 = λ x. AreShallow 0 x.body in
    record {
      shallow = subst P (sym (written_back w (written_well closing begun s e i h))) (written_nested closing begun s e i h);
      whiles = (built_well closing begun s e i h).whiles;
    }

-- ---- what is written, at the lines of statements

abbrev first_at : List StatementTree → ℕ → ℕ
first_at [] k = 0
first_at (s ∷ ss) zero = s.first
first_at (s ∷ ss) (suc k) = first_at ss k

abbrev Lines : (ℕ → ℕ) → ℕ → List StatementTree → Type 0
Lines f place [] = Unit {0}
Lines f place (s ∷ ss) = record { line : f place ≡ s.first; others : Lines f (place + 1) ss }

lines-of : (f : ℕ → ℕ) (place : ℕ) (ss : List StatementTree) → ((k : ℕ) → f (place + k) ≡ first_at ss k) → Lines f place ss
lines-of f place [] g = tt
lines-of f place (s ∷ ss) g =
    let here : place ≡ place + 0 = omega arith in
    record {
      line = ap f here ∙ g 0;
      others = lines-of f (place + 1) ss (λ k. let there : place + 1 + k ≡ place + suc k = omega arith in ap f there ∙ g (suc k));
    }

lines-at : (ss : List StatementTree) → Lines (first_at ss) 0 ss
lines-at ss = lines-of (first_at ss) 0 ss (λ k. let e : 0 + k ≡ k = omega arith in ap (first_at ss) e)

-- the step of a statement with this label and phrase at a line
abbrev step_by : ℕ → Blocks → Option ℕ → PhraseTree → ℕ → Blocks
step_by place b label phrase line = by_role (role_of phrase) label line (spoiled_by (role_of phrase) label line (record b { place = place }))

step-set : (f : ℕ → ℕ) (place : ℕ) (s : StatementTree) (c : Card) (b : Blocks) → f place ≡ s.first → of_statement s ≡ of_card c → parse_statement place (mark_of s) b ≡ parse_statement place (mark_at f place c) b
unfolding parse_statement
step-set f place s c b line e = ap (λ x. step_by place b x.label x.phrase s.first) e ∙ ap (λ n. step_by place b c.label c.phrase n) (sym line)

steps-set : (f : ℕ → ℕ) (place : ℕ) (ss : List StatementTree) (cs : List Card) (b : Blocks) → Lines f place ss → map of_statement ss ≡ map of_card cs
    → all_stepped place (marks_of ss) b ≡ all_set f place cs b
steps-set f place [] [] b l e = refl
steps-set f place [] (c ∷ cs) b l e = absurd (some-first (of_card c) (map of_card cs) e)
steps-set f place (s ∷ ss) [] b l e = absurd (some-first (of_statement s) (map of_statement ss) (sym e))
steps-set f place (s ∷ ss) (c ∷ cs) b l e =
    let g = first-same (of_statement s) (of_card c) (map of_statement ss) (map of_card cs) e in
    ap (all_stepped (place + 1) (marks_of ss)) (step-set f place s c b l.line g.0)
    ∙ steps-set f (place + 1) ss cs (parse_statement place (mark_at f place c) b) l.others g.1

-- ---- a whole module

heading-set : (f : ℕ → ℕ) (place : ℕ) (v : Bool) (function : Option FunctionForm) (n : List ℕ) (ds : List (List ℕ)) (b : Blocks)
    → Stays b (parse_statement place (mark_at f place (card parts.Title None (if v then program n else head_phrase function n ds))) b)
unfolding parse_statement
heading-set f place true function n ds b = record { stack = refl; found = refl }
heading-set f place false None n ds b = record { stack = refl; found = refl }
heading-set f place false (Some form) n ds b = record { stack = refl; found = refl }

title-set : (f : ℕ → ℕ) (place : ℕ) (v : Bool) (m : ModuleTree) (b : Blocks) → Stays b (all_set f place (if v then card parts.Title None (title_of m) ∷ [] else []) b)
title-set f place true m b = heading-set f place m.main m.function m.name m.dummies b
title-set f place false m b = record { stack = refl; found = refl }

decl-set : (f : ℕ → ℕ) (place n : ℕ) (ds : List DeclTree) (b : Blocks) → Stays b (all_set f place (decl_cards n ds) b)
unfolding parse_statement
decl-set f place n [] b = record { stack = refl; found = refl }
decl-set f place n (d ∷ ds) b =
    let s = decl-set f (place + 1) (n + 1) ds (parse_statement place (mark_at f place (card (parts.Decl n) None (specification d))) b) in record { stack = s.stack; found = s.found }

end-set : (f : ℕ → ℕ) (place : ℕ) (b : Blocks) → b.stack ≡ [] → (all_set f place (card parts.End None end_module ∷ []) b).found ≡ b.found
unfolding parse_statement parse_executable
end-set f place b e = ap (λ s. (down_to sought.Neither s (record b { place = place })).found) e

pub blocks_again : BlocksAgain
unfolding statements_of
blocks_again m ss n written =
    let f = first_at ss in
    let title = title_cards m in let decls = decl_cards 0 m.decls in let tells = (meant_in m).is_while in let body = cards_in tells (folded m).body in let end = card parts.End None end_module ∷ [] in
    let None-found : Blocks → Type 0 = λ x. x.found ≡ None in
    let Closed : Blocks → Type 0 = λ x. Stays nothing_open x in
    let t = title-set f 0 (m.titled || not m.main) m nothing_open in
    let heads = set-append Closed f 0 title decls nothing_open (λ q.
    let d = decl-set f q 0 m.decls (all_set f 0 title nothing_open) in record { stack = d.stack ∙ t.stack; found = d.found ∙ t.found }) in
    let bodies = set-append Closed f 0 (title ++ decls) body nothing_open (λ q.
    let c = all_set f 0 (title ++ decls) nothing_open in
    let P : List Open → Type 0 = λ s. AreShallow (length s) (folded m).body in
    let r = list_set f tells q (folded m).body c (unlabelled-at [] c.stack (sym heads.stack) tt) (subst P (sym heads.stack) n.shallow) n.whiles in record { stack = r.stack ∙ heads.stack; found = r.found ∙ heads.found }) in
    ap (λ x. x.found) (steps-set f 0 ss (title ++ decls ++ body ++ end) nothing_open (lines-at ss) written)
    ∙ set-append None-found f 0 (title ++ decls ++ body) end nothing_open (λ q.
    let c = all_set f 0 (title ++ decls ++ body) nothing_open in end-set f q c bodies.stack ∙ bodies.found)
