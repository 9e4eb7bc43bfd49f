-- The small text is read as the program that is written for it, pass by pass.
use Rattle.std.proofs.Common.{◌≡◌, ℕ, List, [], ◌∷◌, Option, None, Some, Result, Ok, refl, ap, ◌∙◌}
use Rattle.std.specs.Prelude.{codes}
use Rattle.fixed_form.specs.declared.line.Line.{Line}
use Rattle.fixed_form.specs.declared.line.Lines.{Lines}
use Rattle.fixed_form.specs.Cards.{front, filled}
use Rattle.fixed_form.specs.Faults.{first_fault, fault_of as line_fault}
use Rattle.fixed_form.specs.Reading.{rest_from, reading as lines_reading}
use Rattle.f77_ast.specs.DeclTrees.{ParsedTree}
use Rattle.f77_exprs.specs.Lexical.{name_at, label_at, number}
use Rattle.f77_exprs.specs.Grammar.{more, chain, more_by, items_by, element_at, variable_in, parenthesis, constant_at, primary, exponent, factor, signed_terms, signed_term, arithmetic, comparison, relation, negated_relation, negation, part, expression, variable}
use Rattle.f77_statements.specs.Lists.{maybe_after_comma}
use Rattle.f77_statements.specs.Parts.{entity, bounds}
use Rattle.f77_statements.specs.Specifications.{integer_statement}
use Rattle.f77_statements.specs.Executables.{right_side, assignment, print_statement}
use Rattle.f77_statements.specs.Statements.{program_statement, form_at, terminal, some_step, step, range, do_statement, alone, specified, simply, phrase_of}
use Rattle.f77_structure.specs.Blocks.{parse_executable}
use Rattle.f77_structure.specs.Opens.{can_spoil, contains}
use Rattle.f77_structure.specs.Order.{check_next}
use Rattle.f77_structure.specs.Steps.{parse_statement}
use Rattle.f77_structure.specs.Checks.{fault_of}
use Rattle.f77_parser.specs.Gives.{Refused, and_then}
use Rattle.f77_parser.specs.SoFar.{add_spot, add_executable, add_logical_if, open_block}
use Rattle.f77_parser.specs.Building.{written_module, build_module}
use Rattle.f77_parser.specs.Elaborated.{elaborated}
use Rattle.f77_parser.specs.References.{empty_call_fault, reference_fault}
use Rattle.f77_parser.specs.Modules.{parse_of}
use Rattle.f77_ast.specs.Symbols.{SymbolTree}
use Rattle.fx_lists.specs.declared.refusal.Refusal.{Refusal}
use Rattle.fx_lists.specs.Refusals.{refuse_if, is_before}
use Rattle.f77_names.specs.Entries.{find, place_in}
use Rattle.f77_names.specs.Functions.{function_of}
use Rattle.f77_names.specs.Tables.{entry_kind, kind_in}
use Rattle.storage_layout.specs.Symbols.{laid, shared, filled as data_filled, symbols_or_refusal, after_shared, lay_shared_and_data, lay_out, valued, checked, check_and_lay_out, symbols_at, symbols_of}
use Rattle.call_graph.specs.Links.{link_of}
use Rattle.call_graph.specs.declared.graph.Graph.{Graph}
use Rattle.call_graph.specs.declared.refusal.Fault.{Fault}
use Rattle.pips_top.specs.Reading.{reading, program_of, lines_or, linked_by, graph_or}
use Rattle.pips_top.specs.Small.{text, parsed, table, graph}
use Rattle.pips_top.specs.ExampleLaws.{program}
use Rattle.pipsmake_base.specs.session_texts.Sources.{table_or, tables_of}

-- ---- lines

abbrev line : ℕ → Option ℕ → List ℕ → Line
line n label body = record { first = n; last = n; label = label; body = body; comments = [] }

abbrev statements : Lines
statements = record {
  lines =
      line 1 None (codes "PROGRAMP")
      ∷ line 2 None (codes "INTEGERI,K")
      ∷ line 3 None (codes "K=1")
      ∷ line 4 None (codes "DO10I=1,2")
      ∷ line 5 (Some 10) (codes "K=K+I")
      ∷ line 6 None (codes "PRINT*,K")
      ∷ line 7 None (codes "END")
      ∷ [];
  closing = [];
}

lines_are_read : lines_reading text ≡ Ok statements
unfolding front filled first_fault line_fault rest_from lines_reading
lines_are_read = refl

-- ---- statements and structure

modules_are_read : parse_of statements ≡ Ok (parsed ∷ [])
unfolding name_at label_at number more chain more_by items_by element_at variable_in parenthesis constant_at primary exponent factor signed_terms signed_term arithmetic comparison relation negated_relation negation part expression variable maybe_after_comma entity bounds integer_statement right_side assignment print_statement program_statement form_at terminal some_step step range do_statement alone specified simply phrase_of parse_executable can_spoil contains check_next parse_statement fault_of add_spot add_executable add_logical_if open_block written_module build_module elaborated empty_call_fault reference_fault parse_of refuse_if is_before
modules_are_read = refl

-- ---- the table of symbols

symbols_are_read : symbols_of parsed ≡ Ok table
unfolding find place_in function_of kind_in entry_kind refuse_if is_before laid shared data_filled symbols_or_refusal after_shared lay_shared_and_data lay_out valued checked check_and_lay_out symbols_at symbols_of
symbols_are_read = refl

-- ---- links

links_are_read : link_of (parsed ∷ []) (table ∷ []) ≡ Ok graph
links_are_read = refl

-- ---- all of it

tables_are_read : tables_of (parsed ∷ []) ≡ Ok (table ∷ [])
tables_are_read = ap (λ (s : Result (List SymbolTree) Refusal). and_then (table_or s) (λ t. Ok (t ∷ []))) symbols_are_read

program_is_read : program_of (parsed ∷ []) ≡ Ok program
unfolding program_of
program_is_read =
    ap (λ (read : Result (List (List SymbolTree)) Refused). and_then read (λ ts. linked_by (parsed ∷ []) ts (graph_or (link_of (parsed ∷ []) ts)))) tables_are_read
    ∙ ap (λ (linked : Result Graph Fault). linked_by (parsed ∷ []) (table ∷ []) (graph_or linked)) links_are_read

pub text_is_read : reading text ≡ Ok program
unfolding reading
text_is_read =
    ap (λ (read : Result Lines (ℕ × ℕ)). and_then (and_then (lines_or read) parse_of) program_of) lines_are_read
    ∙ ap (λ (read : Result (List ParsedTree) Refused). and_then read program_of) modules_are_read
    ∙ program_is_read
