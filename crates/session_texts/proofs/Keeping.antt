-- What is kept stays in one order when modules are put at places or removed.
use Rattle.std.proofs.Common.{◌≡◌, ℕ, zero, suc, ◌+◌, ◌<◌, List, [], ◌∷◌, ◌++◌, length, map, Option, Some, None, refl, sym, ap, ◌∙◌, subst, arith}
use Rattle.std.specs.Prelude.{bytes_eq, filter, not, remove}
use Rattle.std.specs.List.{IsDistinct}
use Rattle.std.proofs.lemmas.List.{length-map}
use Rattle.f77_ast.specs.declared.places.Parsed.{Parsed}
use Rattle.f77_ast.specs.DeclTrees.{ParsedTree}
use Rattle.f77_ast.specs.PlainDecl.{parsed_tree}
use Rattle.f77_ast.specs.declared.symbol.Symbol.{Symbol}
use Rattle.f77_ast.specs.Symbols.{SymbolTree, symbol_tree, number_from}
use Rattle.pipsmake_meaning.specs.Texts.{ModuleText, ReadModule, AreModules, modules_in, names_in, trees_in, tables_in}
use Rattle.session_texts.specs.declared.lists.Lists.{Lists}
use Rattle.session_texts.specs.declared.source.ModuleText.{ModuleText as Kept}
use Rattle.session_texts.specs.declared.source.Source.{Source}
use Rattle.session_texts.specs.Modules.{text_record, source_text, source_read, AreSources}
use Rattle.session_texts.specs.Changes.{replaced, without}
use Rattle.session_texts.specs.Places.{places_from, names_after, all_put}
use Rattle.session_texts.specs.Lists.{own_texts, own_trees, own_tables, all_placed, all_but}
use Rattle.session_texts.specs.Kept.{AreKept}
use Rattle.session_texts.proofs.Replaced.{replaced_keeps}
use Rattle.session_texts.proofs.Removed.{RemovedAt, one_removed, names_without, without_keeps}
use Rattle.session_texts.proofs.AtPlaces.{replaced_is, names_replaced, map_all_put, part_removed, part_length, are_modules, parts_put}
use Rattle.fx_lists.proofs.Texts.{no_names}

map_own : {A B : Type 0} (part : Source → A) (view : A → B) (ss : List Source) → map view (map part ss) ≡ map (λ s. view (part s)) ss
map_own part view [] = refl
map_own part view (s ∷ ss) = ap (λ bs. view (part s) ∷ bs) (map_own part view ss)

abbrev table_tree : List Symbol → List SymbolTree
table_tree t = map symbol_tree t

abbrev pub tree_in : ReadModule → ParsedTree
tree_in m = m.module_is

abbrev pub table_in : ReadModule → List SymbolTree
table_in m = m.table

-- ---- modules that are put

module _ (old : Lists) (names : List (List ℕ)) (kept : AreKept (map text_record old.texts) names old.trees old.tables) (found : List Source) (sources : AreSources found) where
  abbrev before : List ModuleText
  before = map text_record old.texts

  abbrev new : List ModuleText
  new = map source_text found

  abbrev spots : List ℕ
  spots = places_from (names_in before) (names_in new)

  texts_put : map text_record (all_put spots (own_texts found) old.texts) ≡ replaced before new
  texts_put =
      map_all_put text_record spots (own_texts found) old.texts
      ∙ ap (λ xs. all_put spots xs before) (map_own (λ s. s.text) text_record found)
      ∙ sym (replaced_is before new)

  trees_put : map parsed_tree (all_put spots (own_trees found) old.trees) ≡ trees_in (replaced before new)
  trees_put =
      map_all_put parsed_tree spots (own_trees found) old.trees
      ∙ ap (λ xs. all_put spots xs (map parsed_tree old.trees)) (map_own (λ s. s.parsed) parsed_tree found)
      ∙ ap (λ ys. all_put spots (map (λ s. parsed_tree s.parsed) found) ys) kept.trees_are
      ∙ sym (parts_put tree_in spots found sources before kept.modules)
      ∙ ap trees_in (sym (replaced_is before new))

  tables_put : map table_tree (all_put spots (own_tables found) old.tables) ≡ tables_in (replaced before new)
  tables_put =
      map_all_put table_tree spots (own_tables found) old.tables
      ∙ ap (λ xs. all_put spots xs (map table_tree old.tables)) (map_own (λ s. s.symbols) table_tree found)
      ∙ ap (λ ys. all_put spots (map (λ s. table_tree s.symbols) found) ys) kept.tables_are
      ∙ sym (parts_put table_in spots found sources before kept.modules)
      ∙ ap tables_in (sym (replaced_is before new))

  names_put : names_after names (names_in new) ≡ names_in (replaced before new)
  names_put = ap (λ ns. names_after ns (names_in new)) kept.names_are ∙ names_replaced before new

-- the lists and the names after modules were put
pub record KeptAfter (after : List ModuleText) (names : List (List ℕ)) (lists : Lists) : Type 0 where
  pub same : map text_record lists.texts ≡ after
  pub kept : AreKept (map text_record lists.texts) names lists.trees lists.tables

pub kept_after : (old : Lists) (names : List (List ℕ)) → AreKept (map text_record old.texts) names old.trees old.tables
    → (found : List Source) → AreSources found → (places : List ℕ) (more : Lists) (now : List (List ℕ)) (lists : Lists)
    → places ≡ places_from names (names_in (map source_text found))
    → more.texts ≡ own_texts found → more.trees ≡ own_trees found → more.tables ≡ own_tables found
    → now ≡ names_after names (names_in (map source_text found)) → lists ≡ all_placed places more old
    → KeptAfter (replaced (map text_record old.texts) (map source_text found)) now lists
kept_after old names kept found sources places more now lists p x t s n l =
    let ts : List ModuleText = map text_record old.texts in
    let us : List ModuleText = map source_text found in
    let ns : List ℕ = places_from (names_in ts) (names_in us) in
    let q : places ≡ ns = p ∙ ap (λ z. places_from z (names_in us)) kept.names_are in
    let texts : map text_record lists.texts ≡ replaced ts us =
    ap (λ (z : Lists). map text_record z.texts) l
    ∙ ap (λ z. map text_record (all_put z more.texts old.texts)) q
    ∙ ap (λ z. map text_record (all_put ns z old.texts)) x
    ∙ texts_put old names kept found sources in
    let trees : map parsed_tree lists.trees ≡ trees_in (replaced ts us) =
    ap (λ (z : Lists). map parsed_tree z.trees) l
    ∙ ap (λ z. map parsed_tree (all_put z more.trees old.trees)) q
    ∙ ap (λ z. map parsed_tree (all_put ns z old.trees)) t
    ∙ trees_put old names kept found sources in
    let tables : map (map symbol_tree) lists.tables ≡ tables_in (replaced ts us) =
    ap (λ (z : Lists). map table_tree z.tables) l
    ∙ ap (λ z. map table_tree (all_put z more.tables old.tables)) q
    ∙ ap (λ z. map table_tree (all_put ns z old.tables)) s
    ∙ tables_put old names kept found sources in
    let keeps = replaced_keeps ts us in
    let done : AreKept (replaced ts us) now lists.trees lists.tables = record {
      names_are = n ∙ names_put old names kept found sources;
      trees_are = trees;
      tables_are = tables;
      modules = keeps.modules (are_modules found sources) kept.modules;
      distinct = keeps.distinct kept.distinct;
    } in record {
      same = texts;
      kept = subst (λ (z : List ModuleText). AreKept z now lists.trees lists.tables) (sym texts) done;
    }

-- ---- a module that is removed

map_remove : {A B : Type 0} (g : A → B) (xs : List A) (k : ℕ) → k < length xs → map g (remove xs k) ≡ remove (map g xs) k
map_remove g [] k h = absurd (omega arith)
map_remove g (x ∷ xs) zero h = refl
map_remove g (x ∷ xs) (suc k) h = ap (λ ys. g x ∷ ys) (map_remove g xs k (omega arith))

lengths : (names : List (List ℕ)) (old : Lists) → AreKept (map text_record old.texts) names old.trees old.tables → (k : ℕ) → k < length (map text_record old.texts)
    → (k < length old.texts) × (k < length old.trees) × (k < length old.tables)
lengths names old kept k h =
    let n : length (map text_record old.texts) ≡ length old.texts = length-map old.texts text_record in
    let t : length old.trees ≡ length (map text_record old.texts) =
    sym (length-map old.trees parsed_tree) ∙ ap length kept.trees_are ∙ part_length tree_in (map text_record old.texts) kept.modules in
    let s : length old.tables ≡ length (map text_record old.texts) =
    sym (length-map old.tables table_tree) ∙ ap length kept.tables_are ∙ part_length table_in (map text_record old.texts) kept.modules in
    (omega arith, omega arith, omega arith)

-- where the module is, and what is kept without it
pub record KeptBut (old : Lists) (names : List (List ℕ)) (x : List ℕ) (k : ℕ) : Type 0 where
  pub in_texts : k < length old.texts
  pub in_trees : k < length old.trees
  pub in_tables : k < length old.tables
  pub same : map text_record (remove old.texts k) ≡ without x (map text_record old.texts)
  pub kept : AreKept (map text_record (remove old.texts k)) (filter (λ y. not (bytes_eq y x)) names) (remove old.trees k) (remove old.tables k)

pub kept_but : (old : Lists) (names : List (List ℕ)) → AreKept (map text_record old.texts) names old.trees old.tables
    → (x : List ℕ) (k : ℕ) → number_from 0 names x ≡ Some k → KeptBut old names x k
kept_but old names kept x k e =
    let ts : List ModuleText = map text_record old.texts in
    let found : number_from 0 (names_in ts) x ≡ Some k = ap (λ ns. number_from 0 ns x) (sym kept.names_are) ∙ e in
    let r = one_removed 0 ts x k kept.distinct found in
    let here : r.place ≡ k = omega (arith, r.counted) in
    let gone : without x ts ≡ remove ts k = r.same ∙ ap (remove ts) here in
    let within : k < length ts = omega (arith, r.within, r.counted) in
    let in_all = lengths names old kept k within in
    let texts : map text_record (remove old.texts k) ≡ without x ts = map_remove text_record old.texts k in_all.0 ∙ sym gone in
    let trees : map parsed_tree (remove old.trees k) ≡ trees_in (without x ts) =
    map_remove parsed_tree old.trees k in_all.1
    ∙ ap (λ z. remove z k) kept.trees_are
    ∙ sym (part_removed tree_in ts kept.modules k within)
    ∙ ap trees_in (sym gone) in
    let tables : map table_tree (remove old.tables k) ≡ tables_in (without x ts) =
    map_remove table_tree old.tables k in_all.2
    ∙ ap (λ z. remove z k) kept.tables_are
    ∙ sym (part_removed table_in ts kept.modules k within)
    ∙ ap tables_in (sym gone) in
    let keeps = without_keeps x ts in
    let done : AreKept (without x ts) (filter (λ y. not (bytes_eq y x)) names) (remove old.trees k) (remove old.tables k) = record {
      names_are = ap (λ ns. filter (λ y. not (bytes_eq y x)) ns) kept.names_are ∙ sym (names_without x ts);
      trees_are = trees;
      tables_are = tables;
      modules = keeps.modules kept.modules;
      distinct = keeps.distinct kept.distinct;
    } in record {
      in_texts = in_all.0;
      in_trees = in_all.1;
      in_tables = in_all.2;
      same = texts;
      kept = subst (λ (z : List ModuleText). AreKept z (filter (λ y. not (bytes_eq y x)) names) (remove old.trees k) (remove old.tables k)) (sym texts) done;
    }

-- ---- nothing

none_kept : AreKept [] [] [] []
none_kept = record { names_are = refl; trees_are = refl; tables_are = refl; modules = tt; distinct = no_names }

pub nothing_kept : (names : List (List ℕ)) (lists : Lists) → names ≡ [] → lists ≡ record { texts = []; trees = []; tables = [] } → AreKept (map text_record lists.texts) names lists.trees lists.tables
nothing_kept names lists n l =
    subst (λ (ns : List (List ℕ)). AreKept (map text_record lists.texts) ns lists.trees lists.tables) (sym n)
    (subst (λ (ls : Lists). AreKept (map text_record ls.texts) [] ls.trees ls.tables) (sym l) none_kept)

-- as many trees as tables
pub one_each : (texts : List Kept) (names : List (List ℕ)) (trees : List Parsed) (tables : List (List Symbol)) → AreKept (map text_record texts) names trees tables → length trees ≡ length tables
one_each texts names trees tables kept =
    sym (length-map trees parsed_tree) ∙ ap length kept.trees_are ∙ part_length tree_in (map text_record texts) kept.modules
    ∙ sym (sym (length-map tables table_tree) ∙ ap length kept.tables_are ∙ part_length table_in (map text_record texts) kept.modules)
