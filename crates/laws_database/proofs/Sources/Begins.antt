-- The texts of a source begin at lines of it, which are counted from 1.
use Rattle.std.proofs.Common.{◌≡◌, ℕ, ◌+◌, ◌-◌, ◌≤◌, List, [], ◌∷◌, Option, Some, None, Result, Ok, Err, subst, arith}
use Rattle.fixed_form.specs.declared.line.Lines.{Lines}
use Rattle.fixed_form.specs.Reading.{reading}
use Rattle.f77_ast.specs.DeclTrees.{ParsedTree}
use Rattle.f77_parser.specs.Gives.{Refused, and_then}
use Rattle.f77_parser.specs.Modules.{parse_of}
use Rattle.f77_ast.specs.Symbols.{SymbolTree}
use Rattle.fx_lists.specs.declared.refusal.Refusal.{Refusal}
use Rattle.fixed_form.specs.declared.source.Piece.{Piece}
use Rattle.fixed_form.specs.Cuts.{after_lines}
use Rattle.fixed_form.specs.Pieces.{end_lines, cut_from, pieces_of}
use Rattle.laws_programs.specs.roundtrip_programs.Statements.Formed.{Each}
use Rattle.session_texts.specs.pipsmake_meaning.Texts.{ModuleText, lines_or}
use Rattle.session_texts.specs.Sources.{tables_of, source_refusal, unless_refused, named_texts, texts_with, texts_of_lines, source_modules}
use Rattle.laws_database.specs.Sources.Whole.{BeginsAtLine, TextsBeginAtLines}

cut-begins : (first : ℕ) (ends text : List ℕ) → 1 ≤ first → Each (λ (p : Piece). 1 ≤ p.first) (cut_from first ends text)
cut-begins first [] text h = tt
cut-begins first (end ∷ ends) text h = record { first = h; others = cut-begins (end + 1) ends (after_lines (end + 1 - first) text) (omega arith) }

named-begin : (ps : List Piece) (ms : List ParsedTree) → Each (λ (p : Piece). 1 ≤ p.first) ps → Each BeginsAtLine (named_texts ps ms)
named-begin [] ms h = tt
named-begin (p ∷ ps) [] h = tt
named-begin (p ∷ ps) (m ∷ ms) h = record { first = h.first; others = named-begin ps ms h.others }

pieces-begin : (text : List ℕ) (lines : Lines) (ms : List ParsedTree) → Each BeginsAtLine (named_texts (pieces_of text lines.lines) ms)
unfolding pieces_of
pieces-begin text lines ms = named-begin (cut_from 1 (end_lines lines.lines) text) ms (cut-begins 1 (end_lines lines.lines) text (omega arith))

unless-begin : (o : Option Refusal) (us ts : List ModuleText) → unless_refused o us ≡ Ok ts → Each BeginsAtLine us → Each BeginsAtLine ts
unless-begin None us ts e h = let same : us ≡ ts = cc in subst (Each BeginsAtLine) same h
unless-begin (Some r) us ts e h = cc

with-begin : (text : List ℕ) (lines : Lines) (ms : List ParsedTree) (r : Result (List (List SymbolTree)) Refused) (ts : List ModuleText)
    → and_then r (λ tables. unless_refused (source_refusal ms) (named_texts (pieces_of text lines.lines) ms)) ≡ Ok ts → Each BeginsAtLine ts
with-begin text lines ms (Err x) ts e = cc
with-begin text lines ms (Ok tables) ts e = unless-begin (source_refusal ms) (named_texts (pieces_of text lines.lines) ms) ts e (pieces-begin text lines ms)

parsed-begin : (text : List ℕ) (lines : Lines) (r : Result (List ParsedTree) Refused) (ts : List ModuleText) → and_then r (texts_with text lines) ≡ Ok ts → Each BeginsAtLine ts
parsed-begin text lines (Err x) ts e = cc
parsed-begin text lines (Ok ms) ts e = with-begin text lines ms (tables_of ms) ts e

lined-begin : (text : List ℕ) (r : Result Lines (ℕ × ℕ)) (ts : List ModuleText) → and_then (lines_or r) (texts_of_lines text) ≡ Ok ts → Each BeginsAtLine ts
lined-begin text (Err x) ts e = cc
lined-begin text (Ok lines) ts e = parsed-begin text lines (parse_of lines) ts e

pub texts_begin_at_lines : TextsBeginAtLines
unfolding source_modules
texts_begin_at_lines text ts e = lined-begin text (reading text) ts e
