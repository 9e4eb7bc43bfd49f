-- What is lent of a module: its fresh results, and the graph.
use Rattle.std.specs.Prelude.{◌≡◌, ℕ, Bool, ◌&&◌, List, [], ◌∷◌, map, codes, Ok, Some}
use Rattle.std.specs.List.{list_all}
use Rattle.f77_ast.specs.PlainDecl.{module_tree}
use Rattle.f77_ast.specs.Symbols.{symbol_tree}
use Rattle.session_texts.specs.pipsmake_rules.Keys.{holds}
use Rattle.session_texts.specs.pipsmake_rules.declared.key.Key.{Key}
use Rattle.session_texts.specs.pipsmake_rules.declared.kind.Kind.{Kind}
use Rattle.session_texts.specs.pipsmake_rules.declared.kind.Kind.TheVariants.{Parsed, Lines, Symbols, CallGraph, Effects, Transformers, Preconditions, Regions, InRegions, OutRegions, Marks}
use Rattle.session_texts.specs.pipsmake_meaning.Definitions.{module_named}
use Rattle.session_texts.specs.pipsmake_meaning.Rules.{effects_kept, transformers_kept, preconditions_kept, regions_kept, ins_kept, outs_kept, marks_kept}
use Rattle.session_texts.specs.pipsmake_meaning.Texts.{ReadModule, links_in}
use Rattle.preconditions.specs.Statement.{EachFits}
use Rattle.preconditions.specs.transformers.Given.{ResultsFit}
use Rattle.region_sets.specs.Lists.{SetsFit}
use Rattle.pipsmake_db.specs.State.{texts_of, memo_cells_in}
use Rattle.pipsmake_db.specs.declared.db.Db.{Db}
use Rattle.pipsmake_db.specs.declared.kept.KeptModule.{KeptModule}

-- the kinds of results of a module that are lent
abbrev pub lent_kinds : List Kind
lent_kinds = Parsed ∷ Lines ∷ Symbols ∷ Effects ∷ Transformers ∷ Preconditions ∷ Regions ∷ InRegions ∷ OutRegions ∷ Marks ∷ []

-- those of a module, and the graph, are among the fresh results
abbrev pub are_fresh : List Key → List ℕ → Bool
are_fresh fresh x = list_all (λ k. holds fresh (record { kind = k; name = x })) lent_kinds && holds fresh (record { kind = CallGraph; name = codes "*" })

-- just what is kept of the module of this name
pub record IsKept (d : Db) (x : List ℕ) (k : KeptModule) : Type 0 where
  pub found : ReadModule
  pub named : module_named (texts_of d) x ≡ Some found
  pub statements : module_tree k.«module».now ≡ found.module_is.module_read
  pub places : k.places.now ≡ found.module_is.places
  pub symbols : map symbol_tree k.symbols.now ≡ found.table
  pub graph : links_in (texts_of d) ≡ Ok k.graph.now
  pub effects : effects_kept (memo_cells_in d) x ≡ Some k.effects.now
  pub transformers : transformers_kept (memo_cells_in d) x ≡ Some k.transformers.now
  pub preconditions : preconditions_kept (memo_cells_in d) x ≡ Some k.preconditions.now
  pub regions : regions_kept (memo_cells_in d) x ≡ Some k.regions.now
  pub ins : ins_kept (memo_cells_in d) x ≡ Some k.ins.now
  pub outs : outs_kept (memo_cells_in d) x ≡ Some k.outs.now
  pub marks : marks_kept (memo_cells_in d) x ≡ Some k.marks.now

-- systems that calls take
pub record KeptFits (k : KeptModule) : Type 0 where
  pub transformers : ResultsFit k.transformers.now.at
  pub preconditions : EachFits k.preconditions.now.at
  pub regions : SetsFit k.regions.now.at
  pub ins : SetsFit k.ins.now.at
  pub outs : SetsFit k.outs.now.at
