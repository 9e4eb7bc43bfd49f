-- The module of a name, by the symbols and the tree that are at hand.
use Rattle.std.proofs.Common.{◌≡◌, ℕ, List, map, Option, Some, None, Result, Ok, Err, OnOk, refl, sym, ap, ◌∙◌, subst}
use Rattle.std.specs.Prelude.{option_map, unwrap_or}
use Rattle.f77_ast.specs.DeclTrees.{ParsedTree}
use Rattle.f77_ast.specs.PlainDecl.{parsed_tree}
use Rattle.f77_ast.specs.PlainStmt.{stmt_trees}
use Rattle.f77_ast.specs.StatementNumbers.{list_numbers}
use Rattle.f77_ast.specs.declared.places.Parsed.{Parsed}
use Rattle.f77_ast.specs.declared.symbol.Symbol.{Symbol}
use Rattle.f77_ast.specs.Index.{names_of}
use Rattle.f77_ast.specs.Symbols.{SymbolTree, symbol_tree}
use Rattle.pipsmake_db.specs.base_values.Modules.{loops_in}
use Rattle.pipsmake_db.specs.pipsmake_meaning.Definitions.{module_named}
use Rattle.pipsmake_db.specs.pipsmake_meaning.Texts.{ReadModule}
use Rattle.base_text.specs.Modules.{names_read}
use Rattle.base_text.proofs.ModuleLaws.{own_symbols, module_of}
use Rattle.pipsmake_db.specs.declared.db.Db.{Db}
use Rattle.pipsmake_db.specs.State.{texts_of}
use Rattle.pipsmake_base.specs.Fitting.{KindsFit, ModuleFits}
use Rattle.pipsmake_base.specs.Saving.{stored_kinds}

abbrev read_as : ParsedTree → List SymbolTree → ReadModule
read_as p table = record { module_is = p; table = table }

by_module : (d : Db) (x : List ℕ) (o : Option ReadModule) → module_named (texts_of d) x ≡ o → (table : List SymbolTree) (tree : ParsedTree) → Some table ≡ option_map (λ (m : ReadModule). m.table) o
    → Some tree ≡ option_map (λ (m : ReadModule). m.module_is) o → KindsFit (names_read (read_as tree table)) d x stored_kinds → ModuleFits d x
by_module d x None e table tree t p f =
    let none : Some table ≡ None = t in
    cc
by_module d x (Some r) e table tree t p f =
    let own : table ≡ r.table = ap (λ o. unwrap_or o table) t in
    let read : tree ≡ r.module_is = ap (λ o. unwrap_or o tree) p in
    let same : names_read (read_as tree table) ≡ names_read r = ap (λ (ts : List SymbolTree). names_read (read_as tree ts)) own ∙ ap (λ (q : ParsedTree). names_read (read_as q r.table)) read in
    record { read = r; is_read = e; fits = subst (λ ns. KindsFit ns d x stored_kinds) same f }

pub module_fits : (d : Db) (x : List ℕ) (ss : List Symbol) (p : Parsed) (statements loops : List ℕ) → Some (map symbol_tree ss) ≡ option_map (λ (m : ReadModule). m.table) (module_named (texts_of d) x)
    → Some (parsed_tree p) ≡ option_map (λ (m : ReadModule). m.module_is) (module_named (texts_of d) x) → statements ≡ list_numbers (stmt_trees p.module.body)
    → loops ≡ loops_in (stmt_trees p.module.body) → KindsFit (module_of (names_of ss) statements loops) d x stored_kinds → ModuleFits d x
module_fits d x ss p statements loops t q st lo f =
    let same : module_of (names_of ss) statements loops ≡ names_read (read_as (parsed_tree p) (map symbol_tree ss)) =
    ap (λ (ns : List ℕ). module_of (names_of ss) ns loops) st ∙ (ap (λ (ls : List ℕ). module_of (names_of ss) (list_numbers (stmt_trees p.module.body)) ls) lo
    ∙ ap (λ (xs : List (List ℕ)). module_of xs (list_numbers (stmt_trees p.module.body)) (loops_in (stmt_trees p.module.body))) (sym (own_symbols ss))) in
    by_module d x (module_named (texts_of d) x) refl (map symbol_tree ss) (parsed_tree p) t q (subst (λ ns. KindsFit ns d x stored_kinds) same f)

pub if_ok : {A E : Type 0} {P Q : Type 0} (r : Result A E) → (P → Q) → OnOk r P → OnOk r Q
if_ok (Ok a) h p = h p
if_ok (Err e) h p = tt
