-- In what is written of a module without a fault no fault is found.
use Rattle.std.proofs.Common.{◌≡◌, ℕ, false, List, [], ◌∷◌, ◌++◌, map, sym, ap, ◌∙◌, subst}
use Rattle.std.specs.Prelude.{Option, Some, None}
use Rattle.f77_ast.specs.DeclTrees.{ParsedTree}
use Rattle.f77_structure.specs.declared.mark.Mark.{Mark}
use Rattle.f77_structure.specs.declared.order.Order.{Order}
use Rattle.f77_structure.specs.First.{first_fault}
use Rattle.f77_structure.specs.Jumps.{block_fault}
use Rattle.f77_structure.specs.Checks.{fault_of}
use Rattle.f77_structure.specs.Depth.{is_deep}
use Rattle.f77_structure.specs.Marks.{label_in}
use Rattle.f77_structure.specs.Order.{keep_label, check_next, all_ordered, nothing_ordered, order_of}
use Rattle.f77_structure.specs.Steps.{blocks_of}
use Rattle.f77_structure.proofs.AsCode.{as_code}
use Rattle.f77_parser.specs.Statements.{StatementTree, mark_of, marks_of}
use Rattle.f77_parser.specs.Building.{build_module}
use Rattle.f77_printer.specs.Layout.{stripped}
use Rattle.roundtrip_programs.specs.Statements.Formed.{Each}
use Rattle.roundtrip_programs.specs.Statements.Written.{phrase_text}
use Rattle.roundtrip_programs.proofs.Statements.Phrases.{statements_read_back}
use Rattle.roundtrip_programs.specs.ModuleTexts.Cards.{Card, statements_of}
use Rattle.roundtrip_programs.specs.ModuleTexts.ModuleLaws.{IsStatement, AreWritten, of_statement, of_card}
use Rattle.roundtrip_programs.proofs.ModuleTexts.Alone.{some-first, first-same}
use Rattle.roundtrip_programs.proofs.ModuleTexts.Each.{each-map}
use Rattle.roundtrip_programs.proofs.ModuleTexts.Steady.{no-fault}
use Rattle.roundtrip_programs.specs.ModuleTexts.DepthLaws.{FlatStatement, FlatCard}
use Rattle.roundtrip_programs.proofs.ModuleTexts.Phrases.{not_deeper}
use Rattle.roundtrip_programs.proofs.ModuleTexts.Cards.{cards_flat}
use Rattle.roundtrip_programs.proofs.ModuleTexts.Writing.{order_again}
use Rattle.roundtrip_programs.proofs.ModuleTexts.JumpsAgain.{jumps_again}
use Rattle.roundtrip_programs.proofs.Texts.Read.{IsSourced, AreSourced, IsParsed}
use Rattle.roundtrip_programs.proofs.Written.Beginning.{found-before as all-ordered-found}
use Rattle.fx_lists.proofs.Refused.{none_refused}

-- ---- no statement of a module without a fault is too deep

abbrev IsShallow : StatementTree → Type 0
IsShallow s = s.deep ≡ false

labelled-found : (line : ℕ) (label : Option ℕ) (o : Order) → (keep_label line label o).found ≡ None → o.found ≡ None
labelled-found line None o h = h
labelled-found line (Some l) o h = (none_refused _ _ _ _ h).1

ordered-found : (m : Mark) (o : Order) → (check_next m o).found ≡ None → (m.deep ≡ false) × (o.found ≡ None)
unfolding check_next
ordered-found m o h =
    let d = none_refused m.deep _ _ _ (none_refused _ _ _ _ (none_refused _ _ _ _ h).1).1 in
    (d.0, labelled-found m.line (label_in m) o d.1)

all-shallow : (ss : List StatementTree) (o : Order) → (all_ordered (marks_of ss) o).found ≡ None → Each IsShallow ss
all-shallow [] o h = tt
all-shallow (s ∷ ss) o h =
    let next = check_next (mark_of s) o in
    record { first = (ordered-found (mark_of s) o (all-ordered-found (marks_of ss) next h)).0; others = all-shallow ss next h }

all-flat : (ss : List StatementTree) → AreSourced ss → Each IsShallow ss → Each FlatStatement ss
all-flat [] h d = tt
all-flat (s ∷ ss) h d = record { first = not_deeper.flat h.first.body s.phrase h.first.read (sym h.first.deep ∙ d.first); others = all-flat ss h.others d.others }

-- ---- so none that is written is

-- a statement of lines, where its body is what was written
abbrev pub IsAsWritten : StatementTree → Type 0
IsAsWritten s = s.deep ≡ is_deep (stripped false (phrase_text s.phrase))

written-shallow : (ss : List StatementTree) (cs : List Card) → map of_statement ss ≡ map of_card cs → Each FlatCard cs → Each IsAsWritten ss → Each IsShallow ss
written-shallow [] cs e f h = tt
written-shallow (s ∷ ss) [] e f h = absurd (some-first _ _ (sym e))
written-shallow (s ∷ ss) (c ∷ cs) e f h =
    let p = first-same (of_statement s) (of_card c) (map of_statement ss) (map of_card cs) e in
    record {
      first = h.first ∙ ap (λ x. is_deep (stripped false (phrase_text x.phrase))) p.0 ∙ f.first;
      others = written-shallow ss cs p.1 f.others h.others;
    }

none-found : (ms : List Mark) → order_of ms ≡ None → block_fault (blocks_of ms) ≡ None → fault_of ms ≡ None
none-found ms h e = sym (as_code ms) ∙ ap (λ x. first_fault x (block_fault (blocks_of ms))) h ∙ e

formed : (s : StatementTree) → IsSourced s → IsStatement s
formed s h = statements_read_back.formed h.body s.phrase h.read

pub all-formed : (ss : List StatementTree) → AreSourced ss → Each IsStatement ss
all-formed ss h = each-map IsSourced IsStatement ss formed h

-- what is written of a module without a fault, by statements as lines give them
abbrev pub StaysFaultless : ParsedTree → Type 0
StaysFaultless p = (ss : List StatementTree) → AreWritten p.module_read ss → Each IsAsWritten ss → fault_of (marks_of ss) ≡ None

pub again-faultless : (p : ParsedTree) → IsParsed p → StaysFaultless p
again-faultless p h = subst StaysFaultless (sym h.is) again
  where
    again : StaysFaultless (build_module h.closing (h.begun ++ h.end ∷ []))
    again ss w d =
        let i = all-formed (h.begun ++ h.end ∷ []) h.sourced in
        let shallow = all-shallow (h.begun ++ h.end ∷ []) nothing_ordered (no-fault (marks_of (h.begun ++ h.end ∷ [])) h.faultless).0 in
        let flat = cards_flat h.closing h.begun h.end h.ends i (all-flat (h.begun ++ h.end ∷ []) h.sourced shallow) h.faultless in
        let own = written-shallow ss (statements_of (build_module h.closing (h.begun ++ h.end ∷ [])).module_read) w flat d in
        none-found (marks_of ss) (order_again h.closing h.begun h.end ss h.ends i h.faultless w own) (jumps_again h.closing h.begun h.end ss h.ends i h.faultless w)
