-- The text of a statement ends outside its character constants, and its letters outside them are capitals.
use Rattle.std.proofs.Common.{ℕ, List, [], ◌∷◌, ◌++◌, refl, ap, ◌∙◌, sym, subst, append_assoc, Option, Some, None, false, true, decimal}
use Rattle.std.specs.Prelude.{codes}
use Rattle.f77_ast.specs.declared.module.FunctionForm.{FunctionForm}
use Rattle.f77_ast.specs.declared.module.FunctionForm.TheVariants.{Plain, Integer, Logical}
use Rattle.f77_ast.specs.Trees.{ExprTree, WhatTree, assign, call, goto, continue, return, stop, print, read}
use Rattle.f77_ast.specs.Trees as trees
use Rattle.f77_ast.specs.DeclTrees.{CommonTree, DataTree, DeclTree, implicit, integer, logical, dimension, parameter, common, equivalence, save, initial}
use Rattle.f77_statements.specs.Phrases.{PhraseTree, program, subroutine, function, specification, simple, block_if, else_if, else_part, end_if, do_head, while_head, end_do, end_module}
use Rattle.f77_statements.specs.Phrases as phrases
use Rattle.fixed_form.specs.Body as body
use Rattle.f77_printer.specs.ExprText.{expr_text, items_text}
use Rattle.f77_printer.specs.Layout.{stripped}
use Rattle.f77_printer.specs.StatementText.{what_text, actuals_text, step_text}
use Rattle.f77_printer.specs.DeclText.{joined_by, entity_text, part_text, settings_text, block_text, common_text, other_commons_text, group_text, save_item_text, data_value_text, data_group_text, other_groups_text, decl_text}
use Rattle.roundtrip_programs.specs.Statements.Formed.{IsExpression, Each}
use Rattle.roundtrip_programs.specs.Statements.Declared.{MaybeExpression, IsArray, IsBlock, IsCommon, IsGroup, IsSaved, IsInitial, IsDecl}
use Rattle.roundtrip_programs.specs.Statements.Phrased.{IsWhat, IsPhrase}
use Rattle.roundtrip_programs.specs.Statements.Written.{phrase_text}
use Rattle.f77_printer.specs.ModuleText.{dummies_text, function_word}
use Rattle.roundtrip_programs.specs.Statements.Laws.{IsClosed, IsLined, HasNoTab}
use Rattle.roundtrip_programs.proofs.Statements.Balanced.{Kind, tight, Balanced, pair, word, decimal_quiet, expr_balanced}
use Rattle.roundtrip_programs.proofs.Statements.Stripping.{solid}
use Rattle.roundtrip_programs.proofs.Statements.Folding.{stays, pair_tabless, tabless}
use Rattle.roundtrip_programs.proofs.Statements.Compact.{solid_end, name_balanced, right_balanced, variable_balanced, listed_balanced, variables_balanced, actuals_balanced, message_balanced}
use Rattle.roundtrip_programs.proofs.Statements.TitleBack.{dummies_balanced, enclosed, enclosed_balanced, function-text}
use Rattle.roundtrip_programs.proofs.Statements.EntityBack.{entity_balanced}
use Rattle.roundtrip_programs.proofs.Statements.SmallParts.{saved_balanced, group_balanced}
use Rattle.roundtrip_programs.proofs.Statements.DeclBack.{list_balanced, each_of, array_entity, typed_balanced, settings_balanced, implicit_balanced}
use Rattle.roundtrip_programs.proofs.Statements.CommonBack.{members_balanced}
use Rattle.roundtrip_programs.proofs.Statements.DataBack.{targets_balanced, values_balanced}

record IsText (t : List ℕ) : Type 0 where
  pub closed : IsClosed t
  pub lined : IsLined t
  pub tabless : HasNoTab t

both_closed : (a b : List ℕ) → IsClosed a → IsClosed b → IsClosed (a ++ b)
both_closed a b x y u =
    ap (stripped false) (append_assoc a b u) ∙ x (b ++ u) ∙ ap (λ (z : List ℕ). stripped false a ++ z) (y u) ∙ sym (append_assoc (stripped false a) (stripped false b) (stripped false u))
    ∙ ap (λ (z : List ℕ). z ++ stripped false u) (sym (x b))

both_lined : (a b : List ℕ) → IsClosed a → IsLined a → IsLined b → IsLined (a ++ b)
both_lined a b x v w u =
    ap (body.stripped false) (append_assoc a b u) ∙ v (b ++ u) ∙ ap (λ (z : List ℕ). stripped false a ++ z) (w u) ∙ sym (append_assoc (stripped false a) (stripped false b) (body.stripped false u))
    ∙ ap (λ (z : List ℕ). z ++ body.stripped false u) (sym (x b))

both : (a b : List ℕ) → IsText a → IsText b → IsText (a ++ b)
both a b x y = record { closed = both_closed a b x.closed y.closed; lined = both_lined a b x.closed x.lined y.lined; tabless = pair_tabless a b x.tabless y.tabless }

part : {d : Kind} {t : List ℕ} → Balanced d t → IsText t
part {d} {t} b = record {
  closed = λ u. solid b u ∙ ap (λ (z : List ℕ). z ++ stripped false u) (sym (solid_end b));
  tabless = tabless b;
  lined = λ u. stays b u ∙ ap (λ (z : List ℕ). z ++ body.stripped false u) (sym (solid_end b));
}

expression : (e : ExprTree) → IsExpression e → IsText (expr_text e)
expression e f = part (expr_balanced f tight)

-- ---- executable statements

what_closed : (w : WhatTree) → IsWhat w → IsText (what_text w)
what_closed (assign v e) h =
    both (expr_text v ++ codes " = ") (expr_text e) (both (expr_text v) (codes " = ") (part (variable_balanced v h.left tight)) (record { closed = λ u. refl; lined = λ u. refl; tabless = λ u. refl })) (part (right_balanced h.right tight))
what_closed (call n es) h = both (codes "CALL " ++ n) (actuals_text es) (both (codes "CALL ") n (record { closed = λ u. refl; lined = λ u. refl; tabless = λ u. refl }) (part (name_balanced n h.callee tight))) (part (actuals_balanced h.actuals tight))
what_closed (goto l) h = both (codes "GO TO ") (decimal l) (record { closed = λ u. refl; lined = λ u. refl; tabless = λ u. refl }) (part (word tight (decimal l) (decimal_quiet l h)))
what_closed continue h = record { closed = λ u. refl; lined = λ u. refl; tabless = λ u. refl }
what_closed return h = record { closed = λ u. refl; lined = λ u. refl; tabless = λ u. refl }
what_closed (stop None) h = record { closed = λ u. refl; lined = λ u. refl; tabless = λ u. refl }
what_closed (stop (Some t)) h = both (codes "STOP ") t (record { closed = λ u. refl; lined = λ u. refl; tabless = λ u. refl }) (part (message_balanced (Some t) h tight))
what_closed (print es) h = both (codes "PRINT *") (items_text es) (record { closed = λ u. refl; lined = λ u. refl; tabless = λ u. refl }) (part (listed_balanced h))
what_closed (read es) h = both (codes "READ *") (items_text es) (record { closed = λ u. refl; lined = λ u. refl; tabless = λ u. refl }) (part (variables_balanced es h))
what_closed (trees.block_if arms other) h = absurd h
what_closed (trees.logical_if e s) h = absurd h
what_closed (trees.do_loop l) h = absurd h

step_closed : (s : Option ExprTree) → MaybeExpression s → IsText (step_text s)
step_closed None h = record { closed = λ u. refl; lined = λ u. refl; tabless = λ u. refl }
step_closed (Some e) h = both (codes ",") (expr_text e) (record { closed = λ u. refl; lined = λ u. refl; tabless = λ u. refl }) (expression e h)

-- ---- specification statements

block_closed : (b : List ℕ) → IsBlock b → IsText (block_text false b)
block_closed [] h = record { closed = λ u. refl; lined = λ u. refl; tabless = λ u. refl }
block_closed (c ∷ cs) h = both (codes "/" ++ (c ∷ cs)) (codes "/ ") (both (codes "/") (c ∷ cs) (record { closed = λ u. refl; lined = λ u. refl; tabless = λ u. refl }) (part (name_balanced (c ∷ cs) h tight))) (record { closed = λ u. refl; lined = λ u. refl; tabless = λ u. refl })

first_closed : (b : List ℕ) → IsBlock b → IsText (block_text true b)
first_closed [] h = record { closed = λ u. refl; lined = λ u. refl; tabless = λ u. refl }
first_closed (c ∷ cs) h = block_closed (c ∷ cs) h

commons_closed : (cs : List CommonTree) → Each IsCommon cs → IsText (other_commons_text cs)
commons_closed [] h = record { closed = λ u. refl; lined = λ u. refl; tabless = λ u. refl }
commons_closed (c ∷ cs) h =
    both (codes " " ++ common_text false c) (other_commons_text cs)
    (both (codes " ") (common_text false c) (record { closed = λ u. refl; lined = λ u. refl; tabless = λ u. refl })
    (both (block_text false c.block) (joined_by entity_text c.members) (block_closed c.block h.first.block) (part (members_balanced c.members h.first.members))))
    (commons_closed cs h.others)

group_closed : (g : DataTree) → IsInitial g → IsText (data_group_text g)
group_closed g h =
    both (joined_by expr_text g.targets ++ codes " /" ++ joined_by data_value_text g.values) (codes "/")
    (both (joined_by expr_text g.targets ++ codes " /") (joined_by data_value_text g.values)
    (both (joined_by expr_text g.targets) (codes " /") (part (targets_balanced g.targets h.targets)) (record { closed = λ u. refl; lined = λ u. refl; tabless = λ u. refl })) (part (values_balanced g.values h.values)))
    (record { closed = λ u. refl; lined = λ u. refl; tabless = λ u. refl })

groups_closed : (gs : List DataTree) → Each IsInitial gs → IsText (other_groups_text gs)
groups_closed [] h = record { closed = λ u. refl; lined = λ u. refl; tabless = λ u. refl }
groups_closed (g ∷ gs) h =
    both (codes " " ++ data_group_text g) (other_groups_text gs) (both (codes " ") (data_group_text g) (record { closed = λ u. refl; lined = λ u. refl; tabless = λ u. refl }) (group_closed g h.first)) (groups_closed gs h.others)

decl_closed : (d : DeclTree) → IsDecl d → IsText (decl_text d)
decl_closed (implicit None) h = record { closed = λ u. refl; lined = λ u. refl; tabless = λ u. refl }
decl_closed (implicit (Some ps)) h = both (codes "IMPLICIT ") (joined_by part_text ps) (record { closed = λ u. refl; lined = λ u. refl; tabless = λ u. refl }) (part (implicit_balanced (Some ps) h))
decl_closed (integer es) h = both (codes "INTEGER ") (joined_by entity_text es) (record { closed = λ u. refl; lined = λ u. refl; tabless = λ u. refl }) (part (typed_balanced es h))
decl_closed (logical es) h = both (codes "LOGICAL ") (joined_by entity_text es) (record { closed = λ u. refl; lined = λ u. refl; tabless = λ u. refl }) (part (typed_balanced es h))
decl_closed (dimension es) h =
    both (codes "DIMENSION ") (joined_by entity_text es) (record { closed = λ u. refl; lined = λ u. refl; tabless = λ u. refl }) (part (list_balanced entity_text IsArray (λ e i. entity_balanced e (array_entity e i)) es (each_of IsArray es h)))
decl_closed (parameter ss) h = both (codes "PARAMETER ") (settings_text ss) (record { closed = λ u. refl; lined = λ u. refl; tabless = λ u. refl }) (part (settings_balanced ss h tight))
decl_closed (common []) h = absurd h
decl_closed (common (c ∷ cs)) h =
    both (codes "COMMON ") (common_text true c ++ other_commons_text cs) (record { closed = λ u. refl; lined = λ u. refl; tabless = λ u. refl })
    (both (common_text true c) (other_commons_text cs)
    (both (block_text true c.block) (joined_by entity_text c.members) (first_closed c.block h.first.block) (part (members_balanced c.members h.first.members))) (commons_closed cs h.others))
decl_closed (equivalence gs) h = both (codes "EQUIVALENCE ") (joined_by group_text gs) (record { closed = λ u. refl; lined = λ u. refl; tabless = λ u. refl }) (part (list_balanced group_text IsGroup group_balanced gs (each_of IsGroup gs h)))
decl_closed (save []) h = record { closed = λ u. refl; lined = λ u. refl; tabless = λ u. refl }
decl_closed (save (i ∷ is)) h = both (codes "SAVE ") (joined_by save_item_text (i ∷ is)) (record { closed = λ u. refl; lined = λ u. refl; tabless = λ u. refl }) (part (list_balanced save_item_text IsSaved saved_balanced (i ∷ is) h))
decl_closed (initial []) h = absurd h
decl_closed (initial (g ∷ gs)) h =
    both (codes "DATA ") (data_group_text g ++ other_groups_text gs) (record { closed = λ u. refl; lined = λ u. refl; tabless = λ u. refl }) (both (data_group_text g) (other_groups_text gs) (group_closed g h.first) (groups_closed gs h.others))

-- ---- each

word_closed : (form : FunctionForm) → IsText (function_word form)
word_closed Plain = record { closed = λ u. refl; lined = λ u. refl; tabless = λ u. refl }
word_closed Integer = record { closed = λ u. refl; lined = λ u. refl; tabless = λ u. refl }
word_closed Logical = record { closed = λ u. refl; lined = λ u. refl; tabless = λ u. refl }

phrase_is : (p : PhraseTree) → IsPhrase p → IsText (phrase_text p)
phrase_is (program n) h = both (codes "PROGRAM ") n (record { closed = λ u. refl; lined = λ u. refl; tabless = λ u. refl }) (part (name_balanced n h tight))
phrase_is (subroutine n ds) h =
    both (codes "SUBROUTINE " ++ n) (dummies_text ds) (both (codes "SUBROUTINE ") n (record { closed = λ u. refl; lined = λ u. refl; tabless = λ u. refl }) (part (name_balanced n h.name tight))) (part (dummies_balanced ds h.dummies tight))
phrase_is (function form n ds) h =
    subst IsText (sym (function-text form n ds))
    (both (function_word form) (n ++ enclosed ds) (word_closed form) (part (pair tight n (enclosed ds) (name_balanced n h.name tight) (enclosed_balanced ds h.dummies tight))))
phrase_is (specification d) h = decl_closed d h
phrase_is (simple w) h = what_closed w h
phrase_is (phrases.logical_if e w) h =
    both (codes "IF (" ++ expr_text e ++ codes ") ") (what_text w)
    (both (codes "IF (" ++ expr_text e) (codes ") ") (both (codes "IF (") (expr_text e) (record { closed = λ u. refl; lined = λ u. refl; tabless = λ u. refl }) (expression e h.test)) (record { closed = λ u. refl; lined = λ u. refl; tabless = λ u. refl })) (what_closed w h.inner)
phrase_is (block_if e) h = both (codes "IF (" ++ expr_text e) (codes ") THEN") (both (codes "IF (") (expr_text e) (record { closed = λ u. refl; lined = λ u. refl; tabless = λ u. refl }) (expression e h)) (record { closed = λ u. refl; lined = λ u. refl; tabless = λ u. refl })
phrase_is (else_if e) h = both (codes "ELSE IF (" ++ expr_text e) (codes ") THEN") (both (codes "ELSE IF (") (expr_text e) (record { closed = λ u. refl; lined = λ u. refl; tabless = λ u. refl }) (expression e h)) (record { closed = λ u. refl; lined = λ u. refl; tabless = λ u. refl })
phrase_is else_part h = record { closed = λ u. refl; lined = λ u. refl; tabless = λ u. refl }
phrase_is end_if h = record { closed = λ u. refl; lined = λ u. refl; tabless = λ u. refl }
phrase_is (do_head d) h =
    both (codes "DO " ++ d.index ++ codes " = " ++ expr_text d.first ++ codes "," ++ expr_text d.last) (step_text d.step)
    (both (codes "DO " ++ d.index ++ codes " = " ++ expr_text d.first ++ codes ",") (expr_text d.last)
    (both (codes "DO " ++ d.index ++ codes " = " ++ expr_text d.first) (codes ",")
    (both (codes "DO " ++ d.index ++ codes " = ") (expr_text d.first)
    (both (codes "DO " ++ d.index) (codes " = ") (both (codes "DO ") d.index (record { closed = λ u. refl; lined = λ u. refl; tabless = λ u. refl }) (part (name_balanced d.index h.index tight))) (record { closed = λ u. refl; lined = λ u. refl; tabless = λ u. refl }))
    (expression d.first h.first))
    (record { closed = λ u. refl; lined = λ u. refl; tabless = λ u. refl }))
    (expression d.last h.last))
    (step_closed d.step h.step)
phrase_is (while_head l e) h = both (codes "DO WHILE (" ++ expr_text e) (codes ")") (both (codes "DO WHILE (") (expr_text e) (record { closed = λ u. refl; lined = λ u. refl; tabless = λ u. refl }) (expression e h)) (record { closed = λ u. refl; lined = λ u. refl; tabless = λ u. refl })
phrase_is end_do h = record { closed = λ u. refl; lined = λ u. refl; tabless = λ u. refl }
phrase_is end_module h = record { closed = λ u. refl; lined = λ u. refl; tabless = λ u. refl }

pub phrase_closed : (p : PhraseTree) → IsPhrase p → IsClosed (phrase_text p)
phrase_closed p h = (phrase_is p h).closed

pub phrase_lined : (p : PhraseTree) → IsPhrase p → IsLined (phrase_text p)
phrase_lined p h = (phrase_is p h).lined

pub phrase_tabless : (p : PhraseTree) → IsPhrase p → HasNoTab (phrase_text p)
phrase_tabless p h = (phrase_is p h).tabless
