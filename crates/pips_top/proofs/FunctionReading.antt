-- The small text with a function and a DO WHILE is read as the program that is written for it, pass by pass, and written as it is.
use Rattle.std.proofs.Common.{◌≡◌, ℕ, List, [], ◌∷◌, None, Result, Ok, refl, ap, ◌∙◌}
use Rattle.std.specs.Prelude.{codes}
use Rattle.std.specs.Fmt.{digits}
use Rattle.fixed_form.specs.declared.line.Line.{Line}
use Rattle.fixed_form.specs.declared.line.Lines.{Lines}
use Rattle.fixed_form.specs.Cards.{front, filled}
use Rattle.fixed_form.specs.Faults.{first_fault, fault_of as line_fault}
use Rattle.fixed_form.specs.Reading.{rest_from, reading as lines_reading}
use Rattle.f77_ast.specs.DeclTrees.{ParsedTree}
use Rattle.f77_exprs.specs.Lexical.{name_at, label_at, number}
use Rattle.f77_exprs.specs.Grammar.{more, chain, more_by, items_by, element_at, variable_in, parenthesis, constant_at, primary, exponent, factor, signed_terms, signed_term, arithmetic, comparison, relation, negated_relation, negation, part, expression, variable}
use Rattle.f77_statements.specs.Lists.{ending, in_parentheses, maybe_after_comma}
use Rattle.f77_statements.specs.Parts.{entity, bounds}
use Rattle.f77_statements.specs.Specifications.{integer_statement}
use Rattle.f77_statements.specs.Executables.{right_side, assignment, print_statement}
use Rattle.f77_statements.specs.Statements.{program_statement, function_statement, if_test, form_at, terminal, while_statement, alone, specified, simply, phrase_of}
use Rattle.f77_structure.specs.Blocks.{parse_executable}
use Rattle.f77_structure.specs.Opens.{can_spoil, contains}
use Rattle.f77_structure.specs.Order.{check_next}
use Rattle.f77_structure.specs.Steps.{parse_statement}
use Rattle.f77_structure.specs.Checks.{fault_of}
use Rattle.f77_parser.specs.Gives.{Refused, and_then}
use Rattle.f77_parser.specs.SoFar.{add_spot, add_executable, open_block, add_while}
use Rattle.f77_parser.specs.Building.{written_module, build_module}
use Rattle.f77_parser.specs.Elaborated.{elaborated}
use Rattle.f77_parser.specs.References.{empty_call_fault, reference_fault}
use Rattle.f77_parser.specs.Modules.{parse_of}
use Rattle.f77_printer.specs.PageText.{with_text, with_comments}
use Rattle.f77_ast.specs.Symbols.{SymbolTree}
use Rattle.fx_lists.specs.declared.refusal.Refusal.{Refusal}
use Rattle.fx_lists.specs.Refusals.{refuse_if, is_before}
use Rattle.f77_names.specs.Entries.{find, place_in}
use Rattle.f77_names.specs.Functions.{function_of}
use Rattle.f77_names.specs.Tables.{entry_kind, kind_in}
use Rattle.storage_layout.specs.Symbols.{laid, shared, filled as data_filled, symbols_or_refusal, after_shared, lay_shared_and_data, lay_out, valued, checked, check_and_lay_out, symbols_at, symbols_of}
use Rattle.call_graph.specs.Links.{link_of}
use Rattle.call_graph.specs.declared.graph.Graph.{Graph}
use Rattle.call_graph.specs.declared.refusal.Fault.{Fault}
use Rattle.laws_programs.specs.roundtrip_programs.Texts.Texts.{modules_text}
use Rattle.pips_top.specs.Reading.{reading, program_of, lines_or, linked_by, graph_or}
use Rattle.pips_top.specs.SmallFunction.{text, main_parsed, function_parsed, main_table, function_table, links, program}
use Rattle.pips_top.specs.ExampleLaws.{FunctionIsReadSo}
use Rattle.pipsmake_base.specs.session_texts.Sources.{table_or, tables_of}

-- ---- lines

abbrev line : ℕ → List ℕ → Line
line n body = record { first = n; last = n; label = None; body = body; comments = [] }

abbrev statements : Lines
statements = record {
  lines =
      line 1 (codes "PROGRAMP")
      ∷ line 2 (codes "INTEGERK,F")
      ∷ line 3 (codes "K=0")
      ∷ line 4 (codes "DOWHILE(K.LT.3)")
      ∷ line 5 (codes "K=F(K)")
      ∷ line 6 (codes "ENDDO")
      ∷ line 7 (codes "PRINT*,K")
      ∷ line 8 (codes "END")
      ∷ line 9 (codes "INTEGERFUNCTIONF(N)")
      ∷ line 10 (codes "F=N+1")
      ∷ line 11 (codes "END")
      ∷ [];
  closing = [];
}

lines_are_read : lines_reading text ≡ Ok statements
unfolding front filled first_fault line_fault rest_from lines_reading
lines_are_read = refl

-- ---- statements and structure

abbrev both : List ParsedTree
both = main_parsed ∷ function_parsed ∷ []

modules_are_read : parse_of statements ≡ Ok both
unfolding name_at label_at number more chain more_by items_by element_at variable_in parenthesis constant_at primary exponent factor signed_terms signed_term arithmetic comparison relation negated_relation negation part expression variable ending in_parentheses maybe_after_comma entity bounds integer_statement right_side assignment print_statement program_statement function_statement if_test form_at terminal while_statement alone specified simply phrase_of parse_executable can_spoil contains check_next parse_statement fault_of add_spot add_executable open_block add_while written_module build_module elaborated empty_call_fault reference_fault parse_of refuse_if is_before
modules_are_read = refl

-- ---- the tables of symbols

main_symbols : symbols_of main_parsed ≡ Ok main_table
unfolding find place_in function_of kind_in entry_kind refuse_if is_before laid shared data_filled symbols_or_refusal after_shared lay_shared_and_data lay_out valued checked check_and_lay_out symbols_at symbols_of
main_symbols = refl

function_symbols : symbols_of function_parsed ≡ Ok function_table
unfolding find place_in function_of kind_in entry_kind refuse_if is_before laid shared data_filled symbols_or_refusal after_shared lay_shared_and_data lay_out valued checked check_and_lay_out symbols_at symbols_of
function_symbols = refl

-- ---- links

links_are_read : link_of both (main_table ∷ function_table ∷ []) ≡ Ok links
links_are_read = refl

-- ---- all of it

tables_are_read : tables_of both ≡ Ok (main_table ∷ function_table ∷ [])
tables_are_read =
    ap (λ (s : Result (List SymbolTree) Refusal). and_then (table_or s) (λ t. and_then (and_then (table_or (symbols_of function_parsed)) (λ u. Ok (u ∷ []))) (λ us. Ok (t ∷ us)))) main_symbols
    ∙ ap (λ (s : Result (List SymbolTree) Refusal). and_then (and_then (table_or s) (λ u. Ok (u ∷ []))) (λ us. Ok (main_table ∷ us))) function_symbols

program_is_read : program_of both ≡ Ok program
unfolding program_of
program_is_read =
    ap (λ (read : Result (List (List SymbolTree)) Refused). and_then read (λ ts. linked_by both ts (graph_or (link_of both ts)))) tables_are_read
    ∙ ap (λ (linked : Result Graph Fault). linked_by both (main_table ∷ function_table ∷ []) (graph_or linked)) links_are_read

text_is_read : reading text ≡ Ok program
unfolding reading
text_is_read =
    ap (λ (read : Result Lines (ℕ × ℕ)). and_then (and_then (lines_or read) parse_of) program_of) lines_are_read
    ∙ ap (λ (read : Result (List ParsedTree) Refused). and_then read program_of) modules_are_read
    ∙ program_is_read

-- ---- and written

text_is_written : modules_text (λ m. []) both ≡ text
unfolding digits with_text with_comments
text_is_written = refl

pub is_read_so : FunctionIsReadSo
is_read_so = record { read = text_is_read; written = text_is_written }
