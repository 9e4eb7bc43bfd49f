-- The modules of a text, each by itself.
use Rattle.std.proofs.Common.{◌≡◌, ℕ, ◌+◌, ◌-◌, List, [], ◌∷◌, map, Option, Some, None, Result, Ok, Err, refl, sym, ap, ◌∙◌, subst, arith}
use Rattle.std.specs.Prelude.{bytes_eq}
use Rattle.std.specs.List.{IsDistinct}
use Rattle.fixed_form.specs.declared.line.Lines.{Lines}
use Rattle.fixed_form.specs.Reading.{reading}
use Rattle.f77_ast.specs.declared.places.Parsed.{Parsed}
use Rattle.f77_ast.specs.declared.places.Spot.{Spot}
use Rattle.f77_ast.specs.DeclTrees.{ParsedTree}
use Rattle.f77_ast.specs.PlainDecl.{parsed_tree}
use Rattle.f77_parser.specs.Gives.{Refused, and_then}
use Rattle.f77_parser.specs.Modules.{parse_of}
use Rattle.f77_ast.specs.declared.symbol.Symbol.{Symbol}
use Rattle.f77_ast.specs.Symbols.{SymbolTree, symbol_tree}
use Rattle.fx_lists.specs.declared.refusal.Refusal.{Refusal}
use Rattle.storage_layout.specs.Symbols.{symbols_of}
use Rattle.call_graph.specs.Modules.{names_of}
use Rattle.fixed_form.specs.declared.source.Piece.{Piece}
use Rattle.fixed_form.specs.Pieces.{pieces_of}
use Rattle.roundtrip_programs.specs.Texts.Texts.{IsReadAs}
use Rattle.roundtrip_programs.specs.Laws.{tree_of, TablesIgnorePlaces}
use Rattle.roundtrip_programs.specs.Programs.{AreTables}
use Rattle.roundtrip_programs.specs.Pieces.Moved.{moved, moved_spot}
use Rattle.roundtrip_programs.specs.Pieces.Laws.{IsPieceOf, ArePiecesOf, PiecesAreModules}
use Rattle.pipsmake_meaning.specs.Texts.{ModuleText, ReadModule, lines_or, modules_of, with_table, one_module, module_read, names_in}
use Rattle.session_texts.specs.declared.source.Source.{Source}
use Rattle.session_texts.specs.Modules.{source_text, source_read, IsSource, AreSources, NamesDiffer}
use Rattle.session_texts.specs.Sources.{table_or, tables_of, source_refusal, unless_refused, named_texts, texts_with}
use Rattle.session_texts.specs.Joined.{spot_back, counted_back, made_of, sources_from}
use Rattle.session_texts.proofs.SourceNames.{names_differ}

-- ---- lines counted back

abbrev tree_back : ℕ → ParsedTree → ParsedTree
tree_back by p = record p { places = record p.places { spots = map (spot_back by) p.places.spots } }

spot_again : (by : ℕ) (s : Spot) → spot_back by (moved_spot by s) ≡ s
spot_again by s = ap (λ n. record s { first = n }) (let e : s.first + by - by ≡ s.first = omega arith in e)

spots_again : (by : ℕ) (ss : List Spot) → map (spot_back by) (map (moved_spot by) ss) ≡ ss
spots_again by [] = refl
spots_again by (s ∷ ss) = ap (λ r. spot_back by (moved_spot by s) ∷ r) (spots_again by ss) ∙ ap (λ r. r ∷ ss) (spot_again by s)

tree_again : (by : ℕ) (p : ParsedTree) → tree_back by (moved by p) ≡ p
tree_again by p = ap (λ ss. record p { places = record p.places { spots = ss } }) (spots_again by p.places.spots)

-- ---- one module

pub read_alone : (text : List ℕ) (p : ParsedTree) (table : List SymbolTree) → IsReadAs text (p ∷ []) → symbols_of p ≡ Ok table → module_read text ≡ Some (record { module_is = p; table = table })
read_alone text p table r e =
    let read : modules_of text ≡ Ok (p ∷ []) = ap (λ l. and_then (lines_or l) parse_of) r.lined ∙ r.parsed in
    ap one_module read ∙ ap (with_table p) e

made_is : TablesIgnorePlaces → (p : Piece) (m : Parsed) (t : List Symbol) → IsPieceOf p (parsed_tree m) → symbols_of (parsed_tree m) ≡ Ok (map symbol_tree t) → IsSource (made_of p m t)
made_is law p m t h e =
    let back : tree_back (p.first - 1) (parsed_tree m) ≡ h.alone = ap (tree_back (p.first - 1)) (sym h.same) ∙ tree_again (p.first - 1) h.alone in
    let same : tree_of h.alone ≡ tree_of (parsed_tree m) = ap tree_of h.same in
    let table : List SymbolTree = map symbol_tree t in
    record {
      is_read = read_alone p.text h.alone table h.read (law (parsed_tree m) h.alone table same e) ∙ ap (λ q. Some (record { module_is = q; table = table })) (sym back);
      is_named = refl;
    }

-- ---- the modules of a text

pub sources_are : TablesIgnorePlaces → (ps : List Piece) (ms : List Parsed) (ts : List (List Symbol)) → ArePiecesOf ps (map parsed_tree ms) → AreTables (map parsed_tree ms) (map (map symbol_tree) ts)
    → AreSources (sources_from ps ms ts)
sources_are law [] ms ts h k = tt
sources_are law (p ∷ ps) [] ts h k = absurd h
sources_are law (p ∷ ps) (m ∷ ms) [] h k = absurd k
sources_are law (p ∷ ps) (m ∷ ms) (t ∷ ts) h k = (made_is law p m t h.0 k.0, sources_are law ps ms ts h.1 k.1)

texts_are : (ps : List Piece) (ms : List Parsed) (ts : List (List Symbol)) → ArePiecesOf ps (map parsed_tree ms) → AreTables (map parsed_tree ms) (map (map symbol_tree) ts)
    → named_texts ps (map parsed_tree ms) ≡ map source_text (sources_from ps ms ts)
texts_are [] ms ts h k = refl
texts_are (p ∷ ps) [] ts h k = absurd h
texts_are (p ∷ ps) (m ∷ ms) [] h k = absurd k
texts_are (p ∷ ps) (m ∷ ms) (t ∷ ts) h k = ap (λ rest. source_text (made_of p m t) ∷ rest) (texts_are ps ms ts h.1 k.1)

names_are : (ps : List Piece) (ms : List ParsedTree) → ArePiecesOf ps ms → names_of ms ≡ names_in (named_texts ps ms)
names_are [] [] h = refl
names_are [] (m ∷ ms) h = absurd h
names_are (p ∷ ps) [] h = absurd h
names_are (p ∷ ps) (m ∷ ms) h = ap (λ rest. m.module_read.name ∷ rest) (names_are ps ms h.1)

-- tables that all modules have
pub all_tables : (ms : List ParsedTree) (ts : List (List SymbolTree)) → tables_of ms ≡ Ok ts → AreTables ms ts
all_tables [] [] e = tt
all_tables [] (t ∷ ts) e = cc
all_tables (m ∷ ms) ts e = go (symbols_of m) refl (tables_of ms) refl ts e (all_tables ms)
  where
    go : (r : Result (List SymbolTree) Refusal) → symbols_of m ≡ r → (q : Result (List (List SymbolTree)) Refused) → tables_of ms ≡ q → (us : List (List SymbolTree))
        → and_then (table_or r) (λ t. and_then q (λ later. Ok (t ∷ later))) ≡ Ok us → ((vs : List (List SymbolTree)) → tables_of ms ≡ Ok vs → AreTables ms vs) → AreTables (m ∷ ms) us
    go (Err r) d q f us g ih = cc
    go (Ok t) d (Err r) f us g ih = cc
    go (Ok t) d (Ok later) f [] g ih = cc
    go (Ok t) d (Ok later) f (u ∷ us) g ih =
        let first : t ≡ u = cc in
        let rest : later ≡ us = cc in
        (d ∙ ap Ok first, ih us (f ∙ ap Ok rest))

pub record ReadSources (text : List ℕ) (lines : Lines) (ms : List Parsed) (found : List Source) : Type 0 where
  pub texts : texts_with text lines (map parsed_tree ms) ≡ Ok (map source_text found)
  pub sources : AreSources found
  pub differ : NamesDiffer (map source_text found)

pub read_sources : PiecesAreModules → TablesIgnorePlaces → (text : List ℕ) (lines : Lines) (ms : List Parsed) (ts : List (List Symbol))
    → reading text ≡ Ok lines → parse_of lines ≡ Ok (map parsed_tree ms) → tables_of (map parsed_tree ms) ≡ Ok (map (map symbol_tree) ts) → source_refusal (map parsed_tree ms) ≡ None
    → ReadSources text lines ms (sources_from (pieces_of text lines.lines) ms ts)
read_sources pieces tables text lines ms ts r p t n =
    let trees : List ParsedTree = map parsed_tree ms in
    let ps : List Piece = pieces_of text lines.lines in
    let cut : ArePiecesOf ps trees = pieces text lines trees r p in
    let own : AreTables trees (map (map symbol_tree) ts) = all_tables trees (map (map symbol_tree) ts) t in
    let same : named_texts ps trees ≡ map source_text (sources_from ps ms ts) = texts_are ps ms ts cut own in
    let names : names_of trees ≡ names_in (map source_text (sources_from ps ms ts)) = names_are ps trees cut ∙ ap names_in same in
    record {
      texts =
          ap (λ a. and_then a (λ found. unless_refused (source_refusal trees) (named_texts ps trees))) t
          ∙ ap (λ o. unless_refused o (named_texts ps trees)) n
          ∙ ap Ok same;
      sources = sources_are tables ps ms ts cut own;
      differ = subst (IsDistinct bytes_eq) names (names_differ trees n);
    }

-- for what the function returns
pub read_sources_as : PiecesAreModules → TablesIgnorePlaces → (text : List ℕ) (lines : Lines) (ms : List Parsed) (ts : List (List Symbol)) (found : List Source)
    → reading text ≡ Ok lines → parse_of lines ≡ Ok (map parsed_tree ms) → tables_of (map parsed_tree ms) ≡ Ok (map (map symbol_tree) ts) → source_refusal (map parsed_tree ms) ≡ None
    → found ≡ sources_from (pieces_of text lines.lines) ms ts → ReadSources text lines ms found
read_sources_as pieces tables text lines ms ts found r p t n e =
    subst (λ (ss : List Source). ReadSources text lines ms ss) (sym e) (read_sources pieces tables text lines ms ts r p t n)
