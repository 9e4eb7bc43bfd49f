-- Texts, trees and tables of modules, in one order: cited by private functions alone.
use Rattle.std.specs.Prelude.{ℕ, ◌+◌, ◌≤◌, List, map, remove, vec_len, vec_capacity}
use Rattle.f77_ast.specs.declared.places.Parsed.{Parsed}
use Rattle.f77_ast.specs.declared.symbol.Symbol.{Symbol}
use Rattle.session_texts.specs.declared.lists.Lists.{Lists}
use Rattle.session_texts.specs.declared.lists.Rooms.{Rooms}
use Rattle.session_texts.specs.declared.source.ModuleText.{ModuleText as Kept}
use Rattle.session_texts.specs.declared.source.Source.{Source}
use Rattle.session_texts.specs.Places.{all_put}

abbrev pub own_texts : List Source → List Kept
own_texts ss = map (λ s. s.text) ss

abbrev pub own_trees : List Source → List Parsed
own_trees ss = map (λ s. s.parsed) ss

abbrev pub own_tables : List Source → List (List Symbol)
own_tables ss = map (λ s. s.symbols) ss

-- the lists that have room
abbrev pub lists_in : Rooms → Lists
lists_in r = record { texts = r.texts.items; trees = r.trees.items; tables = r.tables.items }

-- room for so many more
pub record HasRoom (count : ℕ) (r : Rooms) : Type 0 where
  pub texts : vec_len r.texts + count ≤ vec_capacity r.texts
  pub trees : vec_len r.trees + count ≤ vec_capacity r.trees
  pub tables : vec_len r.tables + count ≤ vec_capacity r.tables

-- modules one after another, each at its place
abbrev pub all_placed : List ℕ → Lists → Lists → Lists
all_placed places more old = record {
  texts = all_put places more.texts old.texts;
  trees = all_put places more.trees old.trees;
  tables = all_put places more.tables old.tables;
}

-- without the module at a place
abbrev pub all_but : ℕ → Lists → Lists
all_but at old = record { texts = remove old.texts at; trees = remove old.trees at; tables = remove old.tables at }
