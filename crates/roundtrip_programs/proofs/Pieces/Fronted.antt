-- More comments before the first statement of a module.
use Rattle.std.proofs.Common.{◌≡◌, ℕ, List, [], ◌∷◌, ◌++◌, drop, refl, ap, sym, ◌∙◌, Bool, true, false, if◌then◌else◌}
use Rattle.std.specs.Prelude.{Option, Some, None, Result, Ok, Err}
use Rattle.fixed_form.specs.declared.line.Line.{Line}
use Rattle.f77_ast.specs.declared.places.Part.{Part}
use Rattle.f77_ast.specs.declared.places.Part.TheVariants as parts
use Rattle.f77_ast.specs.DeclTrees.{ParsedTree}
use Rattle.fx_lists.specs.declared.code.Code.TheVariants.{BadTerminal}
use Rattle.fx_lists.specs.declared.refusal.Refusal.{Refusal}
use Rattle.fx_lists.specs.Refusals.{refuse_if}
use Rattle.f77_statements.specs.declared.refusal.Cause.{Cause}
use Rattle.f77_statements.specs.Phrases.{PhraseTree, program, subroutine, function, specification, simple, logical_if, block_if, else_if, else_part, end_if, do_head, while_head, end_do, end_module}
use Rattle.f77_statements.specs.Statements.{phrase_of}
use Rattle.f77_structure.specs.declared.mark.Mark.{Mark}
use Rattle.f77_structure.specs.Lists.{is_none_of}
use Rattle.f77_structure.specs.Nesting.{nothing, after, is_bad_end, over_by}
use Rattle.f77_structure.specs.Order.{order_of}
use Rattle.f77_structure.specs.Checks.{fault_if, faults_by, faults_at, nest_faults, first_among, fault_of}
use Rattle.f77_structure.specs.declared.mark.Role.{Role}
use Rattle.f77_structure.specs.declared.mark.Role.TheVariants as roles
use Rattle.f77_parser.specs.Gives.{Refused, and_then}
use Rattle.f77_parser.specs.Statements.{StatementTree, read_as, statement_of, mark_of, marks_of}
use Rattle.f77_parser.specs.SoFar.{SoFar, spot, add_spot, add_executable, add_logical_if, open_block, add_while}
use Rattle.f77_parser.specs.Building.{add_phrase, add_all, no_statements, whole, elaborated_parsed, written_module, build_module}
use Rattle.f77_parser.specs.Ends.{ends_module}
use Rattle.f77_parser.specs.Modules.{module_fault, closing_at, unless_faulty, module_read, modules_from}
use Rattle.roundtrip_programs.specs.Pieces.Joined.{after_comments, unclosed}
use Rattle.f77_parser.specs.References.{reference_fault}
use Rattle.roundtrip_programs.proofs.Assigned.{no-fault}
use Rattle.roundtrip_programs.proofs.Pieces.Parsing.{result_map}
use Rattle.roundtrip_programs.proofs.Pieces.First.{prefixed, modules-prefixed}
use Rattle.roundtrip_programs.proofs.Pieces.JoinedLines.{after_line}
use Rattle.roundtrip_programs.proofs.Pieces.Frame.{behind, all-behind}

abbrev pub after_statement : List (List ℕ) → StatementTree → StatementTree
after_statement comments s = record s { comments = comments ++ s.comments }

read-by : (comments : List (List ℕ)) (l : Line) (r : Result PhraseTree Cause) (s : StatementTree) → read_as l r ≡ Ok s → read_as (after_line comments l) r ≡ Ok (after_statement comments s)
read-by comments l (Ok p) s h = ap (result_map (after_statement comments) (λ e. e)) h
read-by comments l (Err c) s h = cc

pub read-after-comments : (comments : List (List ℕ)) (l : Line) (s : StatementTree) → statement_of l ≡ Ok s → statement_of (after_line comments l) ≡ Ok (after_statement comments s)
read-after-comments comments l s h = read-by comments l (phrase_of l.body) s h

-- ---- the first statement of a module has a place

-- a statement that may be the first of a module
abbrev Opens : PhraseTree → Type 0
Opens (program n) = Unit {0}
Opens (subroutine n ds) = Unit {0}
Opens (function form n ds) = Unit {0}
Opens (specification d) = Unit {0}
Opens (simple w) = Unit {0}
Opens (logical_if e w) = Unit {0}
Opens (block_if e) = Unit {0}
Opens (else_if e) = ⊥
Opens else_part = ⊥
Opens end_if = ⊥
Opens (do_head d) = Unit {0}
Opens (while_head l e) = Unit {0}
Opens end_do = ⊥
Opens end_module = Unit {0}

abbrev without_first : SoFar → SoFar
without_first p = record p { spots = drop 1 p.spots }

record FirstSpot (first : ℕ) (label : Option ℕ) (phrase : PhraseTree) : Type 0 where
  pub part : Part
  pub is : (comments : List (List ℕ)) → add_phrase first label comments phrase no_statements
      ≡ behind (spot part first comments ∷ []) (without_first (add_phrase first label [] phrase no_statements))

first-spot : (first : ℕ) (label : Option ℕ) (phrase : PhraseTree) → Opens phrase → FirstSpot first label phrase
unfolding add_spot add_executable add_logical_if open_block add_while
first-spot first label (program n) h = record { part = parts.Title; is = λ c. refl }
first-spot first label (subroutine n ds) h = record { part = parts.Title; is = λ c. refl }
first-spot first label (function form n ds) h = record { part = parts.Title; is = λ c. refl }
first-spot first label (specification d) h = record { part = parts.Decl 0; is = λ c. refl }
first-spot first None (simple w) h = record { part = parts.Stmt 1; is = λ c. refl }
first-spot first (Some l) (simple w) h = record { part = parts.Stmt 1; is = λ c. refl }
first-spot first None (logical_if e w) h = record { part = parts.Stmt 1; is = λ c. refl }
first-spot first (Some l) (logical_if e w) h = record { part = parts.Stmt 1; is = λ c. refl }
first-spot first label (block_if e) h = record { part = parts.Stmt 1; is = λ c. refl }
first-spot first label (else_if e) h = absurd h
first-spot first label else_part h = absurd h
first-spot first label end_if h = absurd h
first-spot first label (do_head d) h = record { part = parts.Stmt 1; is = λ c. refl }
first-spot first label (while_head l e) h = record { part = parts.Stmt 1; is = λ c. refl }
first-spot first label end_do h = absurd h
first-spot first None end_module h = record { part = parts.End; is = λ c. refl }
first-spot first (Some l) end_module h = record { part = parts.Stmt 1; is = λ c. refl }

built-after : (comments closing : List (List ℕ)) (s : StatementTree) (ss : List StatementTree) → Opens s.phrase
    → build_module closing (after_statement comments s ∷ ss) ≡ after_comments comments (build_module closing (s ∷ ss))
unfolding build_module written_module
built-after comments closing s ss h =
    let f = first-spot s.first s.label s.phrase h in
    let rest : SoFar = without_first (add_phrase s.first s.label [] s.phrase no_statements) in
    let at : (c : List (List ℕ)) → add_all ss (add_phrase s.first s.label c s.phrase no_statements) ≡ behind (spot f.part s.first c ∷ []) (add_all ss rest) =
    λ c. ap (add_all ss) (f.is c) ∙ all-behind (spot f.part s.first c ∷ []) ss rest in
    ap (λ p. elaborated_parsed (whole closing p)) (at (comments ++ s.comments)) ∙ ap (λ p. after_comments comments (elaborated_parsed (whole closing p))) (sym (at s.comments))

-- ---- which it is, where nothing is wrong

among-some : (fs : List Refusal) (r : Refusal) → first_among fs (Some r) ≡ None → ⊥
unfolding refuse_if
among-some [] r h = cc
among-some (f ∷ fs) r h = among-some fs _ h

among-none : (fs : List Refusal) (found : Option Refusal) → first_among fs found ≡ None → fs ≡ []
unfolding refuse_if
among-none [] found h = refl
among-none (f ∷ fs) found h = absurd (among-some fs _ h)

left-none : (xs ys : List Refusal) → xs ++ ys ≡ [] → xs ≡ []
left-none [] ys h = refl
left-none (x ∷ xs) ys h = cc

right-none : (xs ys : List Refusal) → xs ++ ys ≡ [] → ys ≡ []
right-none [] ys h = h
right-none (x ∷ xs) ys h = cc

-- what is wrong with the first statement
first-faults : (m : Mark) (ms : List Mark) → fault_of (m ∷ ms) ≡ None → faults_by m.role m.label m.line (over_by m.role m.label []) ≡ []
unfolding fault_of
first-faults m ms h =
    let all = among-none (nest_faults nothing (m ∷ ms)) (order_of (m ∷ ms)) h in
    right-none (fault_if (is_bad_end m.role m.label []) m.line BadTerminal) (faults_by m.role m.label m.line (over_by m.role m.label []))
    (left-none (faults_at m []) (nest_faults (after m nothing) ms) all)

abbrev Stray : Role → Option ℕ → ℕ → Type 0
Stray role label line = faults_by role label line (over_by role label []) ≡ [] → ⊥

else-if-stray : (label : Option ℕ) (line : ℕ) → Stray roles.ElseIf label line
else-if-stray None line h = cc
else-if-stray (Some l) line h = cc

else-stray : (label : Option ℕ) (line : ℕ) → Stray roles.Else label line
else-stray None line h = cc
else-stray (Some l) line h = cc

end-if-stray : (label : Option ℕ) (line : ℕ) → Stray roles.EndIf label line
end-if-stray None line h = cc
end-if-stray (Some l) line h = cc

end-do-stray : (label : Option ℕ) (line : ℕ) → Stray roles.EndDo label line
end-do-stray None line h = cc
end-do-stray (Some l) line h = cc

opens-by : (first : ℕ) (label : Option ℕ) (deep : Bool) (comments : List (List ℕ)) (phrase : PhraseTree) (ms : List Mark)
    → fault_of (mark_of (record { first = first; label = label; deep = deep; comments = comments; phrase = phrase }) ∷ ms) ≡ None → Opens phrase
opens-by first label deep comments (program n) ms h = tt
opens-by first label deep comments (subroutine n ds) ms h = tt
opens-by first label deep comments (function form n ds) ms h = tt
opens-by first label deep comments (specification d) ms h = tt
opens-by first label deep comments (simple w) ms h = tt
opens-by first label deep comments (logical_if e w) ms h = tt
opens-by first label deep comments (block_if e) ms h = tt
opens-by first label deep comments (else_if e) ms h = else-if-stray label first (first-faults (record { line = first; label = label; role = roles.ElseIf; deep = deep }) ms h)
opens-by first label deep comments else_part ms h = else-stray label first (first-faults (record { line = first; label = label; role = roles.Else; deep = deep }) ms h)
opens-by first label deep comments end_if ms h = end-if-stray label first (first-faults (record { line = first; label = label; role = roles.EndIf; deep = deep }) ms h)
opens-by first label deep comments (do_head d) ms h = tt
opens-by first label deep comments (while_head l e) ms h = tt
opens-by first label deep comments end_do ms h = end-do-stray label first (first-faults (record { line = first; label = label; role = roles.EndDo; deep = deep }) ms h)
opens-by first label deep comments end_module ms h = tt

-- ---- modules

-- the fault of a module does not depend on comments
same-fault : (comments : List (List ℕ)) (s : StatementTree) (ss : List StatementTree) → module_fault (after_statement comments s ∷ ss) ≡ module_fault (s ∷ ss)
unfolding reference_fault
same-fault comments s ss = refl

faultless-after : (o : Option Refusal) (comments closing : List (List ℕ)) (s : StatementTree) (ss : List StatementTree) (m : ParsedTree) → module_fault (s ∷ ss) ≡ o
    → unless_faulty o (build_module closing (s ∷ ss)) ≡ Ok m → unless_faulty o (build_module closing (after_statement comments s ∷ ss)) ≡ Ok (after_comments comments m)
faultless-after None comments closing s ss m e h =
    let opens = opens-by s.first s.label s.deep s.comments s.phrase (marks_of ss) (no-fault (s ∷ ss) e).structure in
    ap Ok (built-after comments closing s ss opens) ∙ ap (result_map (after_comments comments) (λ r. r)) h
faultless-after (Some f) comments closing s ss m e h = cc

module-after : (comments closing : List (List ℕ)) (s : StatementTree) (ss : List StatementTree) (m : ParsedTree) → module_read closing (s ∷ ss) ≡ Ok m
    → module_read closing (after_statement comments s ∷ ss) ≡ Ok (after_comments comments m)
module-after comments closing s ss m h =
    ap (λ o. unless_faulty o (build_module closing (after_statement comments s ∷ ss))) (same-fault comments s ss)
    ∙ faultless-after (module_fault (s ∷ ss)) comments closing s ss m refl h

-- a module, and others after it
prefixed-after : (comments : List (List ℕ)) (r : Result (List ParsedTree) Refused) (p m : ParsedTree) (ms : List ParsedTree) → prefixed (p ∷ []) r ≡ Ok (m ∷ ms)
    → prefixed (after_comments comments p ∷ []) r ≡ Ok (after_comments comments m ∷ ms)
prefixed-after comments (Ok xs) p m ms h =
    let first : p ≡ m = cc in
    let others : xs ≡ ms = cc in
    ap (λ x. Ok (after_comments comments x ∷ xs)) first ∙ ap (λ x. Ok (after_comments comments m ∷ x)) others
prefixed-after comments (Err e) p m ms h = cc

ended-after : (r : Result ParsedTree Refused) (comments closing own : List (List ℕ)) (s : StatementTree) (begun xs : List StatementTree) (m : ParsedTree) (ms : List ParsedTree) → module_read own (s ∷ begun) ≡ r
    → and_then r (λ p. modules_from closing (p ∷ []) [] xs) ≡ Ok (m ∷ ms)
    → and_then (module_read own (after_statement comments s ∷ begun)) (λ p. modules_from closing (p ∷ []) [] xs) ≡ Ok (after_comments comments m ∷ ms)
ended-after (Ok p) comments closing own s begun xs m ms e h =
    ap (λ r. and_then r (λ q. modules_from closing (q ∷ []) [] xs)) (module-after comments own s begun p e)
    ∙ modules-prefixed closing (after_comments comments p ∷ []) [] xs
    ∙ prefixed-after comments (modules_from closing [] [] xs) p m ms (sym (modules-prefixed closing (p ∷ []) [] xs) ∙ h)
ended-after (Err f) comments closing own s begun xs m ms e h = cc

either-after : (b : Bool) (x y x' y' : Result (List ParsedTree) Refused) (to from : Result (List ParsedTree) Refused) → (if b then x else y) ≡ from → (x ≡ from → x' ≡ to) → (y ≡ from → y' ≡ to)
    → (if b then x' else y') ≡ to
either-after true x y x' y' to from h f g = f h
either-after false x y x' y' to from h f g = g h

begun-after : (comments closing : List (List ℕ)) (s : StatementTree) (begun ss : List StatementTree) (m : ParsedTree) (ms : List ParsedTree) → modules_from closing [] (s ∷ begun) ss ≡ Ok (m ∷ ms)
    → modules_from closing [] (after_statement comments s ∷ begun) ss ≡ Ok (after_comments comments m ∷ ms)
begun-after comments closing s begun [] m ms h = cc
begun-after comments closing s begun (x ∷ xs) m ms h =
    let own : List (List ℕ) = closing_at (is_none_of xs) closing in
    either-after (ends_module x.phrase) (and_then (module_read own (s ∷ (begun ++ x ∷ []))) (λ p. modules_from closing (p ∷ []) [] xs)) (modules_from closing [] (s ∷ (begun ++ x ∷ [])) xs) _ _
    (Ok (after_comments comments m ∷ ms)) (Ok (m ∷ ms)) h
    (λ g. ended-after (module_read own (s ∷ (begun ++ x ∷ []))) comments closing own s (begun ++ x ∷ []) xs m ms refl g)
    (λ g. begun-after comments closing s (begun ++ x ∷ []) xs m ms g)

-- the first of these modules has more comments before its first statement
pub modules-after : (comments closing : List (List ℕ)) (s : StatementTree) (ss : List StatementTree) (m : ParsedTree) (ms : List ParsedTree) → modules_from closing [] [] (s ∷ ss) ≡ Ok (m ∷ ms)
    → modules_from closing [] [] (after_statement comments s ∷ ss) ≡ Ok (after_comments comments m ∷ ms)
modules-after comments closing s ss m ms h =
    let own : List (List ℕ) = closing_at (is_none_of ss) closing in
    either-after (ends_module s.phrase) (and_then (module_read own (s ∷ [])) (λ p. modules_from closing (p ∷ []) [] ss)) (modules_from closing [] (s ∷ []) ss) _ _
    (Ok (after_comments comments m ∷ ms)) (Ok (m ∷ ms)) h
    (λ g. ended-after (module_read own (s ∷ [])) comments closing own s [] ss m ms refl g)
    (λ g. begun-after comments closing s [] ss m ms g)

-- ---- without the comments after END

pub record Closed (closing : List (List ℕ)) (ss : List StatementTree) (m : ParsedTree) : Type 0 where
  pub unclosed_read : module_read [] ss ≡ Ok (unclosed m)
  pub closing_is : m.places.closing ≡ closing

closed-by : (o : Option Refusal) (closing : List (List ℕ)) (ss : List StatementTree) (m : ParsedTree) → module_fault ss ≡ o → unless_faulty o (build_module closing ss) ≡ Ok m → Closed closing ss m
unfolding build_module written_module
closed-by None closing ss m e h =
    let same : build_module closing ss ≡ m = cc in
    record {
      unclosed_read = ap (λ f. unless_faulty f (build_module [] ss)) e ∙ ap (λ x. Ok (unclosed x)) same;
      closing_is = sym (ap (λ x. x.places.closing) same);
    }
closed-by (Some f) closing ss m e h = cc

pub closed-module : (closing : List (List ℕ)) (ss : List StatementTree) (m : ParsedTree) → module_read closing ss ≡ Ok m → Closed closing ss m
closed-module closing ss m h = closed-by (module_fault ss) closing ss m refl h
