-- The statements that are written of a module by themselves open and close no block.
use Rattle.std.proofs.Common.{◌≡◌, ℕ, ◌+◌, Bool, true, false, List, [], ◌∷◌, ◌++◌, map, refl, sym, ap, subst}
use Rattle.std.specs.Prelude.{Option, Some, None, ◌||◌, not, if◌then◌else◌}
use Rattle.f77_ast.specs.declared.places.Part.TheVariants as parts
use Rattle.f77_ast.specs.Trees.{ExprTree, StmtTree, stmt, WhatTree, assign, do_loop, call, goto, continue, return, stop, print, read, arm, ArmTrees, no_arms, more_arms, ElseTree, no_else, otherwise, loop, StmtTrees, no_stmts, more_stmts}
use Rattle.f77_ast.specs.Trees as trees
use Rattle.f77_ast.specs.DeclTrees.{DeclTree, ModuleTree}
use Rattle.f77_statements.specs.Phrases.{PhraseTree, program, end_module, end_do}
use Rattle.f77_ast.specs.declared.module.FunctionForm.{FunctionForm}
use Rattle.f77_parser.specs.Elaborated.{meant_in}
use Rattle.f77_parser.specs.Statements.{StatementTree}
use Rattle.roundtrip_programs.specs.Statements.Formed.{Each}
use Rattle.roundtrip_programs.specs.ModuleTexts.Cards.{Card, card, if_head, if_end, cards_of, cards_by, part_cards, else_cards, cards_in, head_phrase, title_of, title_cards, decl_cards, statements_of}
use Rattle.roundtrip_programs.specs.ModuleTexts.Folded.{folded}
use Rattle.roundtrip_programs.specs.ModuleTexts.ModuleLaws.{of_statement, of_card, AreWritten}
use Rattle.roundtrip_programs.proofs.ModuleTexts.Alone.{some-first, first-same}
use Rattle.roundtrip_programs.proofs.ModuleTexts.Each.{Each-append}
use Rattle.roundtrip_programs.proofs.ModuleTexts.SoFarOutlines.{StandsAlone}

abbrev Alone : Card → Type 0
Alone c = StandsAlone c.phrase

abbrev AllAlone : List Card → Type 0
AllAlone cs = Each Alone cs

join : (xs ys : List Card) → AllAlone xs → AllAlone ys → AllAlone (xs ++ ys)
join xs ys h e = Each-append Alone xs ys h e

one : (c : Card) → Alone c → AllAlone (c ∷ [])
one c h = record { first = h; others = tt }

head_alone : (c : Bool) (e : ExprTree) → StandsAlone (if_head c e)
head_alone true e = tt
head_alone false e = tt

close_alone : (c : Bool) → StandsAlone (if_end c)
close_alone true = tt
close_alone false = tt

mutual
  stmt_alone : (f : ℕ → Bool) (s : StmtTree) → AllAlone (cards_of f s)
  stmt_alone f (stmt id label w) = what_alone f id label w

  what_alone : (f : ℕ → Bool) (id : ℕ) (label : Option ℕ) (w : WhatTree) → AllAlone (cards_by f id label w)
  what_alone f id label (assign v e) = record { first = λ l o. refl; others = tt }
  what_alone f id label (trees.block_if no_arms other) = tt
  what_alone f id label (trees.block_if (more_arms (arm test body) others) other) =
      let end = else_cards f id other ++ card (parts.Close id) None (if_end (f id)) ∷ [] in record {
        first = head_alone (f id) test;
        others = join (cards_in f body) (part_cards f id 1 others end) (list_alone f body) (parts_alone f id 1 others end
            (join (else_cards f id other) (card (parts.Close id) None (if_end (f id)) ∷ []) (else_alone f id other) (one (card (parts.Close id) None (if_end (f id))) (close_alone (f id)))));
      }
  what_alone f id label (trees.logical_if e (stmt inner own w)) = record { first = tt; others = tt }
  what_alone f id label (do_loop (loop index first last step body)) = record {
    first = tt;
    others = join (cards_in f body) (card (parts.Close id) None end_do ∷ []) (list_alone f body) (one (card (parts.Close id) None end_do) tt);
  }
  what_alone f id label (call c es) = record { first = λ l o. refl; others = tt }
  what_alone f id label (goto t) = record { first = λ l o. refl; others = tt }
  what_alone f id label continue = record { first = λ l o. refl; others = tt }
  what_alone f id label return = record { first = λ l o. refl; others = tt }
  what_alone f id label (stop t) = record { first = λ l o. refl; others = tt }
  what_alone f id label (print es) = record { first = λ l o. refl; others = tt }
  what_alone f id label (read es) = record { first = λ l o. refl; others = tt }

  parts_alone : (f : ℕ → Bool) (id place : ℕ) (others : ArmTrees) (end : List Card) → AllAlone end → AllAlone (part_cards f id place others end)
  parts_alone f id place no_arms end h = h
  parts_alone f id place (more_arms (arm t body) others) end h =
      record { first = tt; others = join (cards_in f body) (part_cards f id (place + 1) others end) (list_alone f body) (parts_alone f id (place + 1) others end h) }

  else_alone : (f : ℕ → Bool) (id : ℕ) (other : ElseTree) → AllAlone (else_cards f id other)
  else_alone f id no_else = tt
  else_alone f id (otherwise body) = record { first = tt; others = list_alone f body }

  list_alone : (f : ℕ → Bool) (body : StmtTrees) → AllAlone (cards_in f body)
  list_alone f no_stmts = tt
  list_alone f (more_stmts s others) = join (cards_of f s) (cards_in f others) (stmt_alone f s) (list_alone f others)

decls_alone : (place : ℕ) (ds : List DeclTree) → AllAlone (decl_cards place ds)
decls_alone place [] = tt
decls_alone place (d ∷ ds) = record { first = tt; others = decls_alone (place + 1) ds }

title_by : (b : Bool) (function : Option FunctionForm) (n : List ℕ) (ds : List (List ℕ)) → StandsAlone (if b then program n else head_phrase function n ds)
title_by true function n ds = tt
title_by false None n ds = tt
title_by false (Some form) n ds = tt

title_alone : (b : Bool) (m : ModuleTree) → AllAlone (if b then card parts.Title None (title_of m) ∷ [] else [])
title_alone true m = record { first = title_by m.main m.function m.name m.dummies; others = tt }
title_alone false m = tt

module_alone : (m : ModuleTree) → AllAlone (statements_of m)
unfolding statements_of
module_alone m =
    let title = title_cards m in let decls = decl_cards 0 m.decls in let f = (meant_in m).is_while in let body = cards_in f (folded m).body in
    join (title ++ decls ++ body) (card parts.End None end_module ∷ [])
    (join (title ++ decls) body (join title decls (title_alone (m.titled || not m.main) m) (decls_alone 0 m.decls)) (list_alone f (folded m).body))
    (one (card parts.End None end_module) tt)

-- a statement that stands by itself
abbrev pub IsAlone : StatementTree → Type 0
IsAlone s = StandsAlone s.phrase

all_alone : (ss : List StatementTree) (cs : List Card) → map of_statement ss ≡ map of_card cs → AllAlone cs → Each IsAlone ss
all_alone [] cs e h = tt
all_alone (s ∷ ss) [] e h = absurd (some-first (of_statement s) (map of_statement ss) (sym e))
all_alone (s ∷ ss) (c ∷ cs) e h =
    let f = first-same (of_statement s) (of_card c) (map of_statement ss) (map of_card cs) e in
    let P : PhraseTree → Type 0 = λ x. StandsAlone x in
    record { first = subst P (sym (ap (λ x. x.phrase) f.0)) h.first; others = all_alone ss cs f.1 h.others }

pub written_alone : (m : ModuleTree) (ss : List StatementTree) → AreWritten m ss → Each IsAlone ss
written_alone m ss written = all_alone ss (statements_of m) written (module_alone m)
