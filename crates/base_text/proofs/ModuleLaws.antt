-- Modules that are read, one after another.
use Rattle.std.proofs.Common.{◌≡◌, ℕ, ◌<◌, ◌≤◌, true, ◌&&◌, List, [], ◌∷◌, ◌++◌, length, map, Option, Some, None, option_map, option_and_then, Result, Ok, Err, refl, sym, ap, ◌∙◌, append-nil, append_assoc, arith, drop, get_or, ◌+◌, drop_of_length-le}
use Rattle.std.specs.Prelude.{bytes_eq, nat_lt, nat_le}
use Rattle.std.proofs.lemmas.List.{map-append, length-map}
use Rattle.std.proofs.lemmas.Bool.Decides.{Decides-ltb}
use Rattle.f77_ast.specs.PlainStmt.{stmt_trees}
use Rattle.f77_ast.specs.StatementNumbers.{list_numbers}
use Rattle.f77_ast.specs.declared.places.Parsed.{Parsed}
use Rattle.f77_ast.specs.DeclTrees.{ParsedTree}
use Rattle.f77_ast.specs.PlainDecl.{parsed_tree}
use Rattle.f77_parser.specs.Gives.{Refused}
use Rattle.f77_ast.specs.declared.symbol.Symbol.{Symbol}
use Rattle.f77_ast.specs.Symbols.{SymbolTree, symbol_tree}
use Rattle.f77_ast.specs.Index.{names_of as own_names}
use Rattle.f77_meaning.specs.Modules.{symbol_names}
use Rattle.fx_lists.specs.declared.refusal.Refusal.{Refusal}
use Rattle.storage_layout.specs.Gives.{IsRefusal}
use Rattle.storage_layout.specs.Symbols.{symbols_of}
use Rattle.session_texts.specs.pipsmake_meaning.Texts.{modules_of, with_table, one_module, module_read}
use Rattle.base_json.proofs.Lists.{after, drop_step, after_one}
use Rattle.base_text.specs.declared.base.BaseModule.{BaseModule}
use Rattle.base_values.specs.Modules.{ModuleNames}
use Rattle.base_values.specs.declared.names.Numbers.{Numbers}
use Rattle.base_values.specs.Modules.{loops_in}
use Rattle.base_values.proofs.Options.{Decides-leb}
use Rattle.base_values.proofs.RowsBack.{when_true}
use Rattle.base_text.specs.declared.modules.Table.{Table}
use Rattle.base_text.specs.Modules.{names_read, names_if, names_of, names_each, table_names, tree_in}
use Rattle.fx_lists.proofs.Booleans.{and_from, chosen}

-- ---- one module

-- the last of some modules, with others before it
pub tree_last : (ps : List Parsed) (p : Parsed) (rest : List Parsed) → ps ≡ rest ++ p ∷ [] → rest ≡ [] → tree_in (Ok (map parsed_tree ps)) ≡ Some (parsed_tree p)
tree_last ps p rest e f = ap (λ qs. tree_in (Ok (map parsed_tree qs))) (e ∙ ap (λ qs. qs ++ p ∷ []) f)

tree_more : (rest : List Parsed) (p : Parsed) → (rest ≡ [] → ⊥) → tree_in (Ok (map parsed_tree (rest ++ p ∷ []))) ≡ None
tree_more [] p h = absurd (h refl)
tree_more (q ∷ []) p h = refl
tree_more (q ∷ r ∷ rest) p h = refl

pub tree_many : (ps : List Parsed) (p : Parsed) (rest : List Parsed) → ps ≡ rest ++ p ∷ [] → (rest ≡ [] → ⊥) → tree_in (Ok (map parsed_tree ps)) ≡ None
tree_many ps p rest e h = ap (λ qs. tree_in (Ok (map parsed_tree qs))) e ∙ tree_more rest p h

pub tree_none : (ps : List Parsed) → ps ≡ [] → tree_in (Ok (map parsed_tree ps)) ≡ None
tree_none ps e = ap (λ qs. tree_in (Ok (map parsed_tree qs))) e

pub ruleset trees = (tree_last, tree_many, tree_none)

-- a refusal of symbols gives no table
pub refused_table : (p : ParsedTree) (r : Result (List SymbolTree) Refusal) (line code : ℕ) → IsRefusal r line code → with_table p r ≡ None
refused_table p (Ok table) line code h = elim h [ ]
refused_table p (Err r) line code h = refl

pub own_symbols : (ss : List Symbol) → symbol_names (map symbol_tree ss) ≡ own_names ss
own_symbols [] = refl
own_symbols (s ∷ ss) = ap (λ xs. s.name ∷ xs) (own_symbols ss)

-- the module of a text by its tree, then by its symbols
by_tree : (x : List ℕ) (r : Result (List ParsedTree) Refused) →
    option_and_then (names_if x) (one_module r) ≡ option_and_then (λ p. option_and_then (names_if x) (with_table p (symbols_of p))) (tree_in r)
by_tree x (Ok []) = refl
by_tree x (Ok (p ∷ [])) = refl
by_tree x (Ok (p ∷ q ∷ ps)) = refl
by_tree x (Err r) = refl

pub names_by_tree : (x text : List ℕ) → option_and_then (names_if x) (module_read text) ≡ option_and_then (λ p. option_and_then (names_if x) (with_table p (symbols_of p))) (tree_in (modules_of text))
names_by_tree x text = by_tree x (modules_of text)

-- the names of a module of a base, by its tree
pub names_of_tree : (m : BaseModule) (p : ParsedTree) → length m.text ≤ 16777216 → tree_in (modules_of m.text) ≡ Some p → option_and_then (names_if m.name) (with_table p (symbols_of p)) ≡ names_of m
names_of_tree m p h e =
    sym (chosen (nat_le (length m.text) 16777216) (option_and_then (names_if m.name) (module_read m.text)) None ((Decides-leb (length m.text) 16777216).1 h)
    ∙ (names_by_tree m.name m.text ∙ ap (option_and_then (λ q. option_and_then (names_if m.name) (with_table q (symbols_of q)))) e))

abbrev pub module_of : List (List ℕ) → List ℕ → List ℕ → ModuleNames
module_of xs ns ls = record { names = xs; statements = ns; loops = ls }

-- what is made in code of the symbols and numbers of a module
pub table_back : (x : List ℕ) (p : Parsed) (ss : List Symbol) (n : Numbers) → symbols_of (parsed_tree p) ≡ Ok (map symbol_tree ss) → bytes_eq p.module.name x ≡ true → length ss < 4294967296
    → n.statements ≡ list_numbers (stmt_trees p.module.body) → n.loops ≡ loops_in (stmt_trees p.module.body)
    → option_and_then (names_if x) (with_table (parsed_tree p) (symbols_of (parsed_tree p))) ≡ Some (table_names (record { symbols = ss; numbers = n }))
table_back x p ss n e same few st lo =
    let table : List SymbolTree = map symbol_tree ss in
    let count : length ss ≡ length table = sym (length-map ss symbol_tree) in
    let t : nat_lt (length table) 4294967296 ≡ true = (Decides-ltb (length table) 4294967296).1 (omega arith) in
    ap (λ r. option_and_then (names_if x) (with_table (parsed_tree p) r)) e
    ∙ (when_true (bytes_eq p.module.name x && nat_lt (length table) 4294967296) (names_read (record { module_is = parsed_tree p; table = table })) (and_from (bytes_eq p.module.name x) (nat_lt (length table) 4294967296) same t)
    ∙ (ap (λ xs. Some (module_of xs (list_numbers (stmt_trees p.module.body)) (loops_in (stmt_trees p.module.body)))) (own_symbols ss)
    ∙ (ap (λ ns. Some (module_of (own_names ss) ns (loops_in (stmt_trees p.module.body)))) (sym st)
    ∙ ap (λ ls. Some (module_of (own_names ss) n.statements ls)) (sym lo))))

-- ---- one module after another

pub names_more : (xs : List ModuleNames) (m : BaseModule) (ms : List BaseModule) (n : ModuleNames) → names_of m ≡ Some n → after (xs ++ n ∷ []) (names_each ms) ≡ after xs (names_each (m ∷ ms))
names_more xs m ms n e =
    after_one xs n (names_each ms) ∙ ap (λ o. after xs (option_and_then (λ k. option_map (λ ns. k ∷ ns) (names_each ms)) o)) (sym e)

pub names_none : (xs : List ModuleNames) (m : BaseModule) (ms : List BaseModule) → names_of m ≡ None → after xs (names_each (m ∷ ms)) ≡ None
names_none xs m ms e = ap (λ o. after xs (option_and_then (λ k. option_map (λ ns. k ∷ ns) (names_each ms)) o)) e

pub tables_more : (ts : List Table) (t : Table) (ms : List BaseModule) (i : ℕ) (m : BaseModule) (all : Option (List ModuleNames)) → i < length ms → m ≡ get_or ms i m → names_of m ≡ Some (table_names t)
    → after (map table_names ts) (names_each (drop i ms)) ≡ all → after (map table_names (ts ++ t ∷ [])) (names_each (drop (i + 1) ms)) ≡ all
tables_more ts t ms i m all l e h k =
    ap (λ xs. after xs (names_each (drop (i + 1) ms))) (map-append table_names ts (t ∷ []))
    ∙ (names_more (map table_names ts) m (drop (i + 1) ms) (table_names t) h
    ∙ (ap (λ x. after (map table_names ts) (names_each (x ∷ drop (i + 1) ms))) e
    ∙ (ap (λ xs. after (map table_names ts) (names_each xs)) (sym (drop_step ms i m l)) ∙ k)))

pub tables_none : (ts : List Table) (ms : List BaseModule) (i : ℕ) (m : BaseModule) (all : Option (List ModuleNames)) → i < length ms → m ≡ get_or ms i m → names_of m ≡ None
    → after (map table_names ts) (names_each (drop i ms)) ≡ all → all ≡ None
tables_none ts ms i m all l e h k =
    sym k
    ∙ (ap (λ xs. after (map table_names ts) (names_each xs)) (drop_step ms i m l)
    ∙ (ap (λ x. after (map table_names ts) (names_each (x ∷ drop (i + 1) ms))) (sym e) ∙ names_none (map table_names ts) m (drop (i + 1) ms) h))

pub tables_all : (ts : List Table) (ms : List BaseModule) (i : ℕ) (all : Option (List ModuleNames)) → length ms ≤ i → after (map table_names ts) (names_each (drop i ms)) ≡ all → all ≡ Some (map table_names ts)
tables_all ts ms i all l k =
    sym k ∙ (ap (λ xs. after (map table_names ts) (names_each xs)) (drop_of_length-le ms l) ∙ ap Some (append-nil (map table_names ts)))

pub ruleset each_names = (tables_more, tables_none, tables_all, append-nil)

pub ruleset tables = (refused_table)
