-- The text and the module of a name, by its place.
use Rattle.std.proofs.Common.{◌≡◌, ℕ, zero, suc, Bool, true, false, List, [], ◌∷◌, ◌++◌, map, Option, Some, None, refl, sym, ap, ◌∙◌}
use Rattle.std.specs.Prelude.{bytes_eq, option_map, option_and_then, slice_get, if◌then◌else◌}
use Rattle.f77_ast.specs.declared.places.Parsed.{Parsed}
use Rattle.f77_ast.specs.DeclTrees.{ParsedTree}
use Rattle.f77_ast.specs.PlainDecl.{parsed_tree}
use Rattle.f77_ast.specs.declared.symbol.Symbol.{Symbol}
use Rattle.f77_ast.specs.Symbols.{SymbolTree, symbol_tree, number_from}
use Rattle.pipsmake_meaning.specs.Texts.{ModuleText, ReadModule, module_read, AreModules, modules_in, names_in, trees_in, tables_in, text_of}
use Rattle.pipsmake_meaning.specs.Definitions.{module_named}
use Rattle.session_texts.specs.declared.source.ModuleText.{ModuleText as Kept}
use Rattle.session_texts.specs.Modules.{text_record}
use Rattle.session_texts.specs.Kept.{AreKept}
use Rattle.session_texts.proofs.AtPlaces.{number_later, part_first}
use Rattle.session_texts.proofs.Keeping.{tree_in, table_in}
use Rattle.fx_lists.proofs.Texts.{turned as either_way}
use Rattle.fx_lists.proofs.Lists.{slice_get-map}

abbrev text_in : ModuleText → List ℕ
text_in t = t.text

abbrev text_there : List ModuleText → ℕ → Option (List ℕ)
text_there ts k = option_map text_in (slice_get ts k)

later_there : (t : ModuleText) (ts : List ModuleText) (o : Option ℕ) → option_and_then (text_there ts) o ≡ option_and_then (text_there (t ∷ ts)) (option_map suc o)
later_there t ts None = refl
later_there t ts (Some k) = refl

pub text_is : (ts : List ModuleText) (x : List ℕ) → text_of ts x ≡ option_and_then (text_there ts) (number_from 0 (names_in ts) x)
text_is [] x = refl
text_is (t ∷ ts) x = go (bytes_eq t.name x) (bytes_eq x t.name) (either_way t.name x) (text_is ts x)
  where
    go : (a b : Bool) → a ≡ b → text_of ts x ≡ option_and_then (text_there ts) (number_from 0 (names_in ts) x)
        → (if a then Some t.text else text_of ts x) ≡ option_and_then (text_there (t ∷ ts)) (if b then Some 0 else number_from 1 (names_in ts) x)
    go true true e ih = refl
    go true false e ih = cc
    go false true e ih = cc
    go false false e ih =
        ih
        ∙ later_there t ts (number_from 0 (names_in ts) x)
        ∙ ap (λ o. option_and_then (text_there (t ∷ ts)) o) (sym (number_later 0 (names_in ts) x))

module _ {B : Type 0} (f : ReadModule → B) where
  part_there : (ts : List ModuleText) → AreModules ts → (k : ℕ) → slice_get (map f (modules_in ts)) k ≡ option_map f (option_and_then module_read (text_there ts k))
  part_there [] ms k = refl
  part_there (t ∷ ts) ms zero =
      ap (λ bs. slice_get bs zero) (part_first f t ts ms.0) ∙ ap (option_map f) (sym ms.0.is_read)
  part_there (t ∷ ts) ms (suc k) =
      ap (λ bs. slice_get bs (suc k)) (part_first f t ts ms.0) ∙ part_there ts ms.1 k

  part_by : (ts : List ModuleText) → AreModules ts → (o : Option ℕ)
      → option_map f (option_and_then module_read (option_and_then (text_there ts) o)) ≡ option_and_then (λ k. slice_get (map f (modules_in ts)) k) o
  part_by ts ms None = refl
  part_by ts ms (Some k) = sym (part_there ts ms k)

  pub part_named : (ts : List ModuleText) → AreModules ts → (x : List ℕ)
      → option_map f (module_named ts x) ≡ option_and_then (λ k. slice_get (map f (modules_in ts)) k) (number_from 0 (names_in ts) x)
  part_named ts ms x =
      ap (λ o. option_map f (option_and_then module_read o)) (text_is ts x) ∙ part_by ts ms (number_from 0 (names_in ts) x)

-- ---- what is kept of a name

module _ (texts : List Kept) (names : List (List ℕ)) (trees : List Parsed) (tables : List (List Symbol)) (kept : AreKept (map text_record texts) names trees tables) (x : List ℕ) where
  number_is : number_from 0 (names_in (map text_record texts)) x ≡ number_from 0 names x
  number_is = ap (λ ns. number_from 0 ns x) (sym kept.names_are)

  text_kept : (o : Option ℕ) → number_from 0 names x ≡ o → text_of (map text_record texts) x ≡ option_and_then (text_there (map text_record texts)) o
  text_kept o e = text_is (map text_record texts) x ∙ ap (λ n. option_and_then (text_there (map text_record texts)) n) (number_is ∙ e)

  pub text_missing : number_from 0 names x ≡ None → text_of (map text_record texts) x ≡ None
  text_missing e = text_kept None e

  pub text_found : (k : ℕ) → number_from 0 names x ≡ Some k → text_of (map text_record texts) x ≡ option_map (λ (t : Kept). t.text) (slice_get texts k)
  text_found k e = text_kept (Some k) e ∙ ap (option_map text_in) (slice_get-map text_record texts k) ∙ own (slice_get texts k)
    where
      own : (o : Option Kept) → option_map text_in (option_map text_record o) ≡ option_map (λ (t : Kept). t.text) o
      own None = refl
      own (Some t) = refl

  pub tree_missing : number_from 0 names x ≡ None → option_map tree_in (module_named (map text_record texts) x) ≡ None
  tree_missing e =
      part_named tree_in (map text_record texts) kept.modules x
      ∙ ap (λ n. option_and_then (λ k. slice_get (map tree_in (modules_in (map text_record texts))) k) n) (number_is ∙ e)

  pub tree_found : (k : ℕ) → number_from 0 names x ≡ Some k → option_map tree_in (module_named (map text_record texts) x) ≡ option_map parsed_tree (slice_get trees k)
  tree_found k e =
      part_named tree_in (map text_record texts) kept.modules x
      ∙ ap (λ n. option_and_then (λ j. slice_get (map tree_in (modules_in (map text_record texts))) j) n) (number_is ∙ e)
      ∙ ap (λ ps. slice_get ps k) (sym kept.trees_are)
      ∙ slice_get-map parsed_tree trees k

  pub table_missing : number_from 0 names x ≡ None → option_map table_in (module_named (map text_record texts) x) ≡ None
  table_missing e =
      part_named table_in (map text_record texts) kept.modules x
      ∙ ap (λ n. option_and_then (λ k. slice_get (map table_in (modules_in (map text_record texts))) k) n) (number_is ∙ e)

  pub table_found : (k : ℕ) → number_from 0 names x ≡ Some k → option_map table_in (module_named (map text_record texts) x) ≡ option_map (map symbol_tree) (slice_get tables k)
  table_found k e =
      part_named table_in (map text_record texts) kept.modules x
      ∙ ap (λ n. option_and_then (λ j. slice_get (map table_in (modules_in (map text_record texts))) j) n) (number_is ∙ e)
      ∙ ap (λ ps. slice_get ps k) (sym kept.tables_are)
      ∙ slice_get-map (map symbol_tree) tables k

-- ---- at a place

module _ (texts : List Kept) (names : List (List ℕ)) (trees : List Parsed) (tables : List (List Symbol)) (kept : AreKept (map text_record texts) names trees tables) where
  pub text_at : (k : ℕ) → slice_get (map text_record texts) k ≡ option_map text_record (slice_get texts k)
  text_at k = slice_get-map text_record texts k

  pub tree_at : (k : ℕ) → slice_get (trees_in (map text_record texts)) k ≡ option_map parsed_tree (slice_get trees k)
  tree_at k = ap (λ ps. slice_get ps k) (sym kept.trees_are) ∙ slice_get-map parsed_tree trees k

  pub table_at : (k : ℕ) → slice_get (tables_in (map text_record texts)) k ≡ option_map (map symbol_tree) (slice_get tables k)
  table_at k = ap (λ ps. slice_get ps k) (sym kept.tables_are) ∙ slice_get-map (map symbol_tree) tables k
