-- Tables of symbols, one module after another.
use Rattle.std.proofs.Common.{◌≡◌, ℕ, List, [], ◌∷◌, ◌++◌, Result, Ok, Err, refl, sym, ap, ◌∙◌, append_assoc, append-nil}
use Rattle.f77_ast.specs.DeclTrees.{ParsedTree}
use Rattle.f77_parser.specs.Gives.{Refused, and_then}
use Rattle.f77_ast.specs.Symbols.{SymbolTree}
use Rattle.fx_lists.specs.declared.refusal.Refusal.{Refusal}
use Rattle.storage_layout.specs.Gives.{IsRefusal}
use Rattle.storage_layout.specs.Symbols.{symbols_of}
use Rattle.session_texts.specs.Sources.{table_or, tables_of}

-- a refusal of symbols is one of reading
pub refused_table : (r : Result (List SymbolTree) Refusal) (line code : ℕ) → IsRefusal r line code → table_or r ≡ Err (record { line = line; code = code; keyword = [] })
refused_table (Ok table) line code h = elim h [ ]
refused_table (Err r) line code (at_line, as_number) = cc

-- the tables so far, and those of the modules that remain
abbrev pub remaining : List (List SymbolTree) → List ParsedTree → Result (List (List SymbolTree)) Refused
remaining done [] = Ok done
remaining done (m ∷ ms) = and_then (table_or (symbols_of m)) (λ t. remaining (done ++ t ∷ []) ms)

-- one more table in front
pub in_front : (done : List (List SymbolTree)) (t : List SymbolTree) (r : Result (List (List SymbolTree)) Refused)
    → and_then (and_then r (λ ts. Ok (t ∷ ts))) (λ ts. Ok (done ++ ts)) ≡ and_then r (λ ts. Ok ((done ++ t ∷ []) ++ ts))
in_front done t (Ok ts) = ap Ok (sym (append_assoc done (t ∷ []) ts))
in_front done t (Err r) = refl

-- a module, then those after it
one_table : (done : List (List SymbolTree)) (ms : List ParsedTree) (r : Result (List SymbolTree) Refused)
    → ((t : List SymbolTree) → and_then (tables_of ms) (λ ts. Ok ((done ++ t ∷ []) ++ ts)) ≡ remaining (done ++ t ∷ []) ms)
    → and_then (and_then r (λ t. and_then (tables_of ms) (λ ts. Ok (t ∷ ts)))) (λ ts. Ok (done ++ ts)) ≡ and_then r (λ t. remaining (done ++ t ∷ []) ms)
one_table done ms (Ok t) e = in_front done t (tables_of ms) ∙ e t
one_table done ms (Err r) e = refl

from_tables : (done : List (List SymbolTree)) (ms : List ParsedTree) → and_then (tables_of ms) (λ ts. Ok (done ++ ts)) ≡ remaining done ms
from_tables done [] = ap Ok (append-nil done)
from_tables done (m ∷ ms) = one_table done ms (table_or (symbols_of m)) (λ t. from_tables (done ++ t ∷ []) ms)

pub ok_again : (r : Result (List (List SymbolTree)) Refused) → r ≡ and_then r (λ ts. Ok ([] ++ ts))
ok_again (Ok ts) = refl
ok_again (Err r) = refl

pub tables_of-remaining : (ms : List ParsedTree) → tables_of ms ≡ remaining [] ms
tables_of-remaining ms = ok_again (tables_of ms) ∙ from_tables [] ms

pub ruleset symbol_steps = (tables_of-remaining, append_assoc, append-nil)
