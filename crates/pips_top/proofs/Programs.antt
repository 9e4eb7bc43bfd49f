-- What reading gives is a program, as laws on runs ask.
use Rattle.std.proofs.Common.{◌≡◌, ℕ, zero, suc, List, [], ◌∷◌, Some, Result, Ok, Err, arith, refl, sym, subst}
use Rattle.std.specs.Prelude.{All as Every, slice_get}
use Rattle.fixed_form.specs.declared.line.Line.{Line}
use Rattle.fixed_form.specs.declared.line.Lines.{Lines}
use Rattle.fixed_form.specs.Reading as lines
use Rattle.f77_ast.specs.DeclTrees.{ParsedTree}
use Rattle.f77_parser.specs.Gives.{Refused, and_then}
use Rattle.f77_parser.specs.Modules.{parse_of}
use Rattle.f77_ast.specs.Symbols.{SymbolTree}
use Rattle.call_graph.specs.declared.graph.Graph.{Graph}
use Rattle.call_graph.specs.declared.refusal.Fault.{Fault}
use Rattle.call_graph.specs.Links.{link_of}
use Rattle.laws_programs.specs.Programs.{AreLabelled, IsProgram}
use Rattle.laws_programs.specs.roundtrip_programs.Statements.Formed.{Each}
use Rattle.laws_programs.proofs.RoundtripPrograms.Texts.Sources.{IsSource, given}
use Rattle.pips_top.specs.Program.{ProgramTree}
use Rattle.pips_top.specs.Reading.{lines_or, graph_or, linked_by, program_of, reading}
use Rattle.pipsmake_base.specs.session_texts.Sources.{tables_of}
use Rattle.pipsmake_base.proofs.SessionTexts.SourceTexts.{all_tables}

-- ---- links

abbrev pub Linked : List ParsedTree → Result (List (List SymbolTree)) Refused → ProgramTree → Type 0
Linked ms r p = (p.modules ≡ ms) × (r ≡ Ok p.tables) × (link_of ms p.tables ≡ Ok p.graph)

from_links : (ms : List ParsedTree) (ts : List (List SymbolTree)) (r : Result Graph Fault) (p : ProgramTree) → link_of ms ts ≡ r → linked_by ms ts (graph_or r) ≡ Ok p → Linked ms (Ok ts) p
from_links ms ts (Ok g) p is e =
    let same : record { modules = ms; tables = ts; graph = g } ≡ p = cc in
    subst (λ (q : ProgramTree). Linked ms (Ok ts) q) same (refl, refl, is)
from_links ms ts (Err f) p is e = cc

from_tables : (ms : List ParsedTree) (r : Result (List (List SymbolTree)) Refused) (p : ProgramTree) → and_then r (λ ts. linked_by ms ts (graph_or (link_of ms ts))) ≡ Ok p → Linked ms r p
from_tables ms (Ok ts) p e = from_links ms ts (link_of ms ts) p refl e
from_tables ms (Err r) p e = cc

pub linked_from : (ms : List ParsedTree) (p : ProgramTree) → program_of ms ≡ Ok p → Linked ms (tables_of ms) p
unfolding program_of
linked_from ms p e = from_tables ms (tables_of ms) p e

-- ---- modules

abbrev pub Parsed : List ℕ → ProgramTree → Type 0
Parsed text p = (ls : Lines) × (ms : List ParsedTree) × (lines.reading text ≡ Ok ls) × (parse_of ls ≡ Ok ms) × (program_of ms ≡ Ok p)

from_parsed : (text : List ℕ) (ls : Lines) (r : Result (List ParsedTree) Refused) (p : ProgramTree) → lines.reading text ≡ Ok ls → parse_of ls ≡ r → and_then r program_of ≡ Ok p → Parsed text p
from_parsed text ls (Ok ms) p lined is e = (ls, ms, lined, is, e)
from_parsed text ls (Err r) p lined is e = cc

from_lines : (text : List ℕ) (r : Result Lines (ℕ × ℕ)) (p : ProgramTree) → lines.reading text ≡ r → and_then (and_then (lines_or r) parse_of) program_of ≡ Ok p → Parsed text p
from_lines text (Ok ls) p lined e = from_parsed text ls (parse_of ls) p lined refl e
from_lines text (Err f) p lined e = cc

pub parsed_from : (text : List ℕ) (p : ProgramTree) → reading text ≡ Ok p → Parsed text p
unfolding reading
parsed_from text p e = from_lines text (lines.reading text) p refl e

-- ---- programs

labels_given : (ls : List Line) → Each IsSource ls → AreLabelled ls
labels_given [] h = tt
labels_given (l ∷ ls) h = record { first = h.first.label; others = labels_given ls h.others }

of_parts : (ls : Lines) (ms : List ParsedTree) (p : ProgramTree) → AreLabelled ls.lines → parse_of ls ≡ Ok ms → Linked ms (tables_of ms) p → IsProgram p.modules p.tables p.graph
of_parts ls ms p labelled parsed (same, tables, links) =
    let Q : List ParsedTree → Type 0 = λ ns. IsProgram ns p.tables p.graph in
    subst Q (sym same) (record { lines = ls; labelled = labelled; parsed = parsed; tables = all_tables ms p.tables tables; links = links })

pub is_program : (text : List ℕ) (p : ProgramTree) → reading text ≡ Ok p → IsProgram p.modules p.tables p.graph
is_program text p e =
    let f = parsed_from text p e in
    of_parts f.0 f.1 p (labels_given f.0.lines (given text f.0 f.2).statements) f.3 (linked_from f.1 p f.4)

pub each_at : {A : Type 0} (P : A → Type 0) (xs : List A) → Every P xs → (j : ℕ) (a : A) → slice_get xs j ≡ Some a → P a
each_at P [] h j a e = cc
each_at P (x ∷ xs) h zero a e = let same : x ≡ a = cc in subst P same (h zero x (omega arith))
each_at P (x ∷ xs) h (suc j) a e = each_at P xs (λ k d l. h (suc k) d (omega (arith, l))) j a e
