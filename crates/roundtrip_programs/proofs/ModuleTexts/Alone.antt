-- Of the statements of a module only the last is END.
use Rattle.std.proofs.Common.{◌≡◌, ℕ, ◌+◌, Bool, true, false, List, [], ◌∷◌, ◌++◌, map, refl, sym, ap, ◌∙◌, append_assoc, append-nil}
use Rattle.std.specs.Prelude.{Option, Some, None, ◌||◌, not, if◌then◌else◌}
use Rattle.f77_ast.specs.declared.places.Part.TheVariants as parts
use Rattle.f77_ast.specs.Trees.{ExprTree, StmtTree, stmt, WhatTree, assign, do_loop, call, goto, continue, return, stop, print, read, arm, ArmTrees, no_arms, more_arms, ElseTree, no_else, otherwise, loop, StmtTrees, no_stmts, more_stmts}
use Rattle.f77_ast.specs.Trees as trees
use Rattle.f77_ast.specs.DeclTrees.{DeclTree, ModuleTree, ParsedTree}
use Rattle.f77_ast.specs.declared.module.FunctionForm.{FunctionForm}
use Rattle.f77_statements.specs.Phrases.{program, end_module, end_do}
use Rattle.f77_parser.specs.Gives.{and_then}
use Rattle.f77_parser.specs.Statements.{StatementTree}
use Rattle.f77_parser.specs.Building.{build_module}
use Rattle.f77_parser.specs.Modules.{closing_at, unless_faulty, module_read, modules_from}
use Rattle.f77_parser.specs.Ends.{ends_module}
use Rattle.f77_parser.specs.Elaborated.{meant_in}
use Rattle.f77_parser.specs.Modules as modules
use Rattle.f77_structure.specs.Lists.{is_none_of}
use Rattle.roundtrip_programs.specs.Statements.Formed.{Each}
use Rattle.roundtrip_programs.specs.ModuleTexts.Cards.{Card, card, if_head, if_end, cards_of, cards_by, part_cards, else_cards, cards_in, head_phrase, title_of, title_cards, decl_cards, statements_of}
use Rattle.roundtrip_programs.specs.ModuleTexts.Folded.{folded}
use Rattle.roundtrip_programs.specs.ModuleTexts.ModuleLaws.{of_statement, of_card, ReadAlone, ReadNext}
use Rattle.roundtrip_programs.proofs.ModuleTexts.Again.{built_again}
use Rattle.roundtrip_programs.proofs.ModuleTexts.Each.{Each-append}

abbrev Inside : Card → Type 0
Inside c = ends_module c.phrase ≡ false

abbrev AllInside : List Card → Type 0
AllInside cs = Each Inside cs

join : (xs ys : List Card) → AllInside xs → AllInside ys → AllInside (xs ++ ys)
join xs ys h e = Each-append Inside xs ys h e

alone : (c : Card) → Inside c → AllInside (c ∷ [])
alone c h = record { first = h; others = tt }

head_inside : (c : Bool) (e : ExprTree) → ends_module (if_head c e) ≡ false
head_inside true e = refl
head_inside false e = refl

close_inside : (c : Bool) → ends_module (if_end c) ≡ false
close_inside true = refl
close_inside false = refl

mutual
  stmt_inside : (f : ℕ → Bool) (s : StmtTree) → AllInside (cards_of f s)
  stmt_inside f (stmt id label w) = what_inside f id label w

  what_inside : (f : ℕ → Bool) (id : ℕ) (label : Option ℕ) (w : WhatTree) → AllInside (cards_by f id label w)
  what_inside f id label (assign v e) = record { first = refl; others = tt }
  what_inside f id label (trees.block_if no_arms other) = tt
  what_inside f id label (trees.block_if (more_arms (arm test body) others) other) =
      let end = else_cards f id other ++ card (parts.Close id) None (if_end (f id)) ∷ [] in record {
        first = head_inside (f id) test;
        others = join (cards_in f body) (part_cards f id 1 others end) (list_inside f body) (parts_inside f id 1 others end
            (join (else_cards f id other) (card (parts.Close id) None (if_end (f id)) ∷ []) (else_inside f id other) (alone (card (parts.Close id) None (if_end (f id))) (close_inside (f id)))));
      }
  what_inside f id label (trees.logical_if e (stmt inner own w)) = record { first = refl; others = tt }
  what_inside f id label (do_loop (loop index first last step body)) = record {
    first = refl;
    others = join (cards_in f body) (card (parts.Close id) None end_do ∷ []) (list_inside f body) (alone (card (parts.Close id) None end_do) refl);
  }
  what_inside f id label (call c es) = record { first = refl; others = tt }
  what_inside f id label (goto t) = record { first = refl; others = tt }
  what_inside f id label continue = record { first = refl; others = tt }
  what_inside f id label return = record { first = refl; others = tt }
  what_inside f id label (stop t) = record { first = refl; others = tt }
  what_inside f id label (print es) = record { first = refl; others = tt }
  what_inside f id label (read es) = record { first = refl; others = tt }

  parts_inside : (f : ℕ → Bool) (id place : ℕ) (others : ArmTrees) (end : List Card) → AllInside end → AllInside (part_cards f id place others end)
  parts_inside f id place no_arms end h = h
  parts_inside f id place (more_arms (arm t body) others) end h =
      record { first = refl; others = join (cards_in f body) (part_cards f id (place + 1) others end) (list_inside f body) (parts_inside f id (place + 1) others end h) }

  else_inside : (f : ℕ → Bool) (id : ℕ) (other : ElseTree) → AllInside (else_cards f id other)
  else_inside f id no_else = tt
  else_inside f id (otherwise body) = record { first = refl; others = list_inside f body }

  list_inside : (f : ℕ → Bool) (body : StmtTrees) → AllInside (cards_in f body)
  list_inside f no_stmts = tt
  list_inside f (more_stmts s others) = join (cards_of f s) (cards_in f others) (stmt_inside f s) (list_inside f others)

decls_inside : (place : ℕ) (ds : List DeclTree) → AllInside (decl_cards place ds)
decls_inside place [] = tt
decls_inside place (d ∷ ds) = record { first = refl; others = decls_inside (place + 1) ds }

title_by : (b : Bool) (function : Option FunctionForm) (n : List ℕ) (ds : List (List ℕ)) → ends_module (if b then program n else head_phrase function n ds) ≡ false
title_by true function n ds = refl
title_by false None n ds = refl
title_by false (Some form) n ds = refl

title_inside : (b : Bool) (m : ModuleTree) → AllInside (if b then card parts.Title None (title_of m) ∷ [] else [])
title_inside true m = record { first = title_by m.main m.function m.name m.dummies; others = tt }
title_inside false m = tt

-- ---- up to END

-- what the statements so far and these make, before others
abbrev Wholly : List (List ℕ) → List ParsedTree → List StatementTree → List StatementTree → List StatementTree → Type 0
Wholly closing done begun ss more =
    modules_from closing done begun (ss ++ more)
    ≡ and_then (modules.module_read (closing_at (is_none_of more) closing) (begun ++ ss)) (λ p. modules_from closing (done ++ p ∷ []) [] more)

chosen : {A : Type 0} (v w : Bool) (x y : A) → v ≡ w → (if v then x else y) ≡ (if w then x else y)
chosen v w x y e = ap (λ b. if b then x else y) e

pub some-first : {A : Type 0} (x : A) (xs : List A) → [] ≡ x ∷ xs → ⊥
some-first x xs h = cc

pub first-same : {A : Type 0} (x y : A) (xs ys : List A) → x ∷ xs ≡ y ∷ ys → (x ≡ y) × (xs ≡ ys)
first-same x y xs ys h = (cc, cc)

none-left : (ss : List StatementTree) → map of_statement ss ≡ [] → ss ≡ []
none-left [] h = refl
none-left (s ∷ ss) h = absurd (some-first (of_statement s) (map of_statement ss) (sym h))

wholly : (cs : List Card) (end : Card) (closing : List (List ℕ)) (done : List ParsedTree) (begun ss more : List StatementTree) → AllInside cs → end.phrase ≡ end_module
    → map of_statement ss ≡ map of_card (cs ++ end ∷ []) → Wholly closing done begun ss more
wholly [] end closing done begun [] more i e h = absurd (some-first _ _ h)
wholly (c ∷ cs) end closing done begun [] more i e h = absurd (some-first _ _ h)
wholly [] end closing done begun (s ∷ ss) more i e h =
    let f = first-same (of_statement s) (of_card end) (map of_statement ss) [] h in
    let last : ends_module s.phrase ≡ true = ap (λ x. ends_module x.phrase) f.0 ∙ ap ends_module e in
    let none = none-left ss f.1 in
    chosen (ends_module s.phrase) true
    (and_then (modules.module_read (closing_at (is_none_of (ss ++ more)) closing) (begun ++ s ∷ [])) (λ p. modules_from closing (done ++ p ∷ []) [] (ss ++ more)))
    (modules_from closing done (begun ++ s ∷ []) (ss ++ more)) last
    ∙ ap (λ x. and_then (modules.module_read (closing_at (is_none_of (x ++ more)) closing) (begun ++ s ∷ [])) (λ p. modules_from closing (done ++ p ∷ []) [] (x ++ more))) none
    ∙ ap (λ x. and_then (modules.module_read (closing_at (is_none_of more) closing) (begun ++ s ∷ x)) (λ p. modules_from closing (done ++ p ∷ []) [] more)) (sym none)
wholly (c ∷ cs) end closing done begun (s ∷ ss) more i e h =
    let f = first-same (of_statement s) (of_card c) (map of_statement ss) (map of_card (cs ++ end ∷ [])) h in
    let inside : ends_module s.phrase ≡ false = ap (λ x. ends_module x.phrase) f.0 ∙ i.first in
    chosen (ends_module s.phrase) false
    (and_then (modules.module_read (closing_at (is_none_of (ss ++ more)) closing) (begun ++ s ∷ [])) (λ p. modules_from closing (done ++ p ∷ []) [] (ss ++ more)))
    (modules_from closing done (begun ++ s ∷ []) (ss ++ more)) inside
    ∙ wholly cs end closing done (begun ++ s ∷ []) ss more i.others e f.1
    ∙ ap (λ x. and_then (modules.module_read (closing_at (is_none_of more) closing) x) (λ p. modules_from closing (done ++ p ∷ []) [] more)) (append_assoc begun (s ∷ []) ss)

pub read_next : ReadNext
unfolding statements_of
read_next m closing done ss more written h =
    let title = title_cards m in let decls = decl_cards 0 m.decls in let f = (meant_in m).is_while in let body = cards_in f (folded m).body in
    let inside = join (title ++ decls) body (join title decls (title_inside (m.titled || not m.main) m) (decls_inside 0 m.decls)) (list_inside f (folded m).body) in
    let own = closing_at (is_none_of more) closing in
    wholly (title ++ decls ++ body) (card parts.End None end_module) closing done [] ss more inside refl written
    ∙ ap (λ f. and_then (unless_faulty f (build_module own ss)) (λ p. modules_from closing (done ++ p ∷ []) [] more)) h

pub read_alone : ReadAlone
read_alone m closing ss well written h = record {
  alone = ap (modules_from closing [] []) (sym (append-nil ss)) ∙ read_next m closing [] ss [] written h;
  same = built_again m closing ss well written;
}
