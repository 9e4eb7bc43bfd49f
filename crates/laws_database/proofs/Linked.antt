-- Texts whose modules have the same statements and symbols, and the same names, have the same graph.
use Rattle.std.proofs.Common.{◌≡◌, inl, inr, ℕ, zero, suc, true, List, [], ◌∷◌, ◌++◌, map, Some, refl, sym, ap, ◌∙◌, subst, append_assoc, append-nil}
use Rattle.std.specs.Prelude.{bytes_eq, slice_get, option_and_then, option_to_list, Result, Ok, Err}
use Rattle.std.proofs.lemmas.Bool.{or_cases}
use Rattle.std.proofs.lemmas.Slice.Eq.{bytes_eq-Decides}
use Rattle.f77_ast.specs.DeclTrees.{ParsedTree}
use Rattle.f77_ast.specs.Symbols.{SymbolTree, number_from}
use Rattle.f77_parser.specs.Gives.{Refused}
use Rattle.fx_lists.specs.declared.refusal.Refusal.{Refusal}
use Rattle.storage_layout.specs.Symbols.{symbols_of}
use Rattle.f77_meaning.specs.Modules.{Known, known_of}
use Rattle.call_graph.specs.declared.graph.Graph.{Graph}
use Rattle.call_graph.specs.Links.{link_of}
use Rattle.call_graph.specs.Modules.{names_of}
use Rattle.laws_programs.specs.roundtrip_programs.Laws.{tree_of, GraphsIgnorePlaces}
use Rattle.laws_programs.proofs.Storage.ModuleLaws.{place_of_name}
use Rattle.call_graph.specs.CallsIn.{Each}
use Rattle.laws_analyses.proofs.UnitLaws.{module_at}
use Rattle.laws_database.proofs.ResultLists.{each_mapped}
use Rattle.session_texts.specs.pipsmake_rules.declared.kind.Kind.{Kind}
use Rattle.session_texts.specs.pipsmake_rules.declared.kind.Kind.TheVariants as kind
use Rattle.session_texts.specs.pipsmake_rules.declared.key.Key.{Key}
use Rattle.session_texts.specs.pipsmake_rules.Keys.{key_of}
use Rattle.session_texts.specs.pipsmake_rules.Needs.{by_module}
use Rattle.session_texts.specs.pipsmake_rules.Neighbours.{has_name, callees_of, callers_of}
use Rattle.session_texts.specs.pipsmake_meaning.Texts.{ModuleText, ReadModule, with_table, one_module, modules_of, module_read, AreModules, modules_in, trees_in, tables_in, names_in, links_in, known_in, graph_of}
use Rattle.session_texts.specs.pipsmake_meaning.Session.{needs_in, SameValue}
use Rattle.session_texts.specs.pipsmake_meaning.MemoCells.{MemoCells}
use Rattle.session_texts.specs.pipsmake_meaning.Rules.{known}
use Rattle.laws_database.proofs.Modules.{Read, read_at, trees_named}
use Rattle.laws_database.proofs.Same.{known_same}
use Rattle.fx_lists.proofs.Options.{some_same}

-- ---- the table of a module

abbrev pub with_these : ParsedTree → List SymbolTree → ReadModule
with_these p t = record { module_is = p; table = t }

one_table : (r : Result (List ParsedTree) Refused) (m : ReadModule) → one_module r ≡ Some m → symbols_of m.module_is ≡ Ok m.table
one_table (Ok []) m e = cc
one_table (Ok (p ∷ [])) m e = go (symbols_of p) refl e
  where
    go : (s : Result (List SymbolTree) Refusal) → symbols_of p ≡ s → with_table p s ≡ Some m → symbols_of m.module_is ≡ Ok m.table
    go (Ok t) q w = let same : with_these p t ≡ m = cc in subst (λ (z : ReadModule). symbols_of z.module_is ≡ Ok z.table) same q
    go (Err f) q w = cc
one_table (Ok (p ∷ q ∷ ps)) m e = cc
one_table (Err f) m e = cc

pub table_of : (ts : List ModuleText) (x : List ℕ) (r : Read ts x) → symbols_of r.read.module_is ≡ Ok r.read.table
table_of ts x r = one_table (modules_of r.text) r.read (sym (ap (option_and_then module_read) r.is_text) ∙ r.is_read)

-- ---- the names of the modules, from what a graph needs

abbrev name_if : Kind → List ℕ → List (List ℕ)
name_if kind.Parsed x = x ∷ []
name_if k x = []

abbrev read_names : List Key → List (List ℕ)
read_names [] = []
read_names (k ∷ ks) = name_if k.kind k.name ++ read_names ks

names_joined : (xs ys : List Key) → read_names (xs ++ ys) ≡ read_names xs ++ read_names ys
names_joined [] ys = refl
names_joined (x ∷ xs) ys = ap (λ z. name_if x.kind x.name ++ z) (names_joined xs ys) ∙ sym (append_assoc (name_if x.kind x.name) (read_names xs) (read_names ys))

names_read : (xs : List (List ℕ)) → read_names (map (λ y. key_of kind.Parsed y) xs) ≡ xs
names_read [] = refl
names_read (x ∷ xs) = ap (λ z. x ∷ z) (names_read xs)

none_read : (xs : List (List ℕ)) → read_names (map (λ y. key_of kind.Symbols y) xs) ≡ []
none_read [] = refl
none_read (x ∷ xs) = none_read xs

none_by : (xs : List (List ℕ)) → read_names (by_module [] xs) ≡ []
none_by [] = refl
none_by (x ∷ xs) = none_by xs

abbrev trees_of : List (List ℕ) → List Key
trees_of xs = map (λ y. key_of kind.Parsed y) xs

abbrev tables_of : List (List ℕ) → List Key
tables_of xs = map (λ y. key_of kind.Symbols y) xs

named : (xs cs ds : List (List ℕ)) → read_names (((trees_of xs ++ (tables_of xs ++ [])) ++ by_module [] cs) ++ by_module [] ds) ≡ xs
named xs cs ds =
    names_joined ((trees_of xs ++ (tables_of xs ++ [])) ++ by_module [] cs) (by_module [] ds)
    ∙ ((λ i. names_joined (trees_of xs ++ (tables_of xs ++ [])) (by_module [] cs) i ++ none_by ds i)
    ∙ ((λ i. (names_joined (trees_of xs) (tables_of xs ++ []) i ++ none_by cs i) ++ [])
    ∙ ((λ i. ((names_read xs i ++ names_joined (tables_of xs) [] i) ++ []) ++ [])
    ∙ ((λ i. ((xs ++ (none_read xs i ++ [])) ++ []) ++ [])
    ∙ (append-nil ((xs ++ []) ++ []) ∙ (append-nil (xs ++ []) ∙ append-nil xs))))))

each_left : (P : Key → Type 0) (xs ys : List Key) → Each P (xs ++ ys) → Each P xs
each_left P [] ys h = tt
each_left P (x ∷ xs) ys h = (h.0, each_left P xs ys h.1)

pub each_right : (P : Key → Type 0) (xs ys : List Key) → Each P (xs ++ ys) → Each P ys
each_right P [] ys h = h
each_right P (x ∷ xs) ys h = each_right P xs ys h.1

each_at : (Q : List ℕ → Type 0) (xs : List (List ℕ)) → Each Q xs → (y : List ℕ) → has_name xs y ≡ true → Q y
each_at Q [] h y e = cc
each_at Q (x ∷ xs) h y e =
    elim (or_cases (bytes_eq x y) (has_name xs y) e) [
      | inl s ↦ subst Q ((bytes_eq-Decides x y).0 s) h.0
      | inr r ↦ each_at Q xs h.1 y r
    ]

-- ---- modules in their order

pub names_are : (ts : List ModuleText) → AreModules ts → names_of (trees_in ts) ≡ names_in ts
names_are [] ms = refl
names_are (t ∷ ts) ms =
    ap (λ o. names_of (map (λ (m : ReadModule). m.module_is) (option_to_list o ++ modules_in ts))) ms.0.is_read ∙ (λ i. ms.0.is_named i ∷ names_are ts ms.1 i)

trees_are : (ms : List ReadModule) → map tree_of (map (λ (m : ReadModule). m.module_is) ms) ≡ map (λ (k : Known). k.read) (known_of (map (λ (m : ReadModule). m.module_is) ms) (map (λ (m : ReadModule). m.table) ms))
trees_are [] = refl
trees_are (m ∷ ms) = ap (λ z. m.module_is.module_read ∷ z) (trees_are ms)

tables_are : (ms : List ReadModule) → map (λ (m : ReadModule). m.table) ms ≡ map (λ (k : Known). k.symbols) (known_of (map (λ (m : ReadModule). m.module_is) ms) (map (λ (m : ReadModule). m.table) ms))
tables_are [] = refl
tables_are (m ∷ ms) = ap (λ z. m.table ∷ z) (tables_are ms)

one_known : (a b : Known) → Some a ≡ Some b → a ≡ b
one_known a b e = cc

same_lists : (xs ys : List Known) → ((i : ℕ) (k : Known) → slice_get xs i ≡ Some k → slice_get ys i ≡ Some k) → ((i : ℕ) (k : Known) → slice_get ys i ≡ Some k → slice_get xs i ≡ Some k) → xs ≡ ys
same_lists [] [] f g = refl
same_lists [] (y ∷ ys) f g = let e = g zero y refl in cc
same_lists (x ∷ xs) [] f g = let e = f zero x refl in cc
same_lists (x ∷ xs) (y ∷ ys) f g = let s : y ≡ x = one_known y x (f zero x refl) in let rest = same_lists xs ys (λ i k e. f (suc i) k e) (λ i k e. g (suc i) k e) in λ i. sym s i ∷ rest i

module _ (ts : List ModuleText) (ms : AreModules ts) (g : Graph) (l : links_in ts ≡ Ok g) where
  place_of : (i : ℕ) (k : Known) → slice_get (known_in ts) i ≡ Some k → number_from 0 (names_in ts) k.read.name ≡ Some i
  place_of i k e =
      let m = module_at (trees_in ts) (tables_in ts) i k e in
      (λ j. number_from 0 (sym (names_are ts ms) j) (sym m.same j).read.name) ∙ place_of_name (trees_in ts) (tables_in ts) g l i m.parsed m.is_module.parsed

pub known_named : (ts : List ModuleText) → AreModules ts → (i : ℕ) (k : Known) → slice_get (known_in ts) i ≡ Some k → has_name (names_in ts) k.read.name ≡ true
known_named ts ms i k e =
    let m = module_at (trees_in ts) (tables_in ts) i k e in
    subst (λ (z : Known). has_name (names_in ts) z.read.name ≡ true) m.same (trees_named ts ms i m.parsed m.is_module.parsed)

-- of two texts that link, with the same names and values
module _ (sh : MemoCells) (old ts : List ModuleText) (mo : AreModules old) (ms : AreModules ts) (g d : Graph) (lo : links_in old ≡ Ok g) (l : links_in ts ≡ Ok d) (names : names_in old ≡ names_in ts)
    (same : (y : List ℕ) → has_name (names_in ts) y ≡ true → SameValue old ts (key_of kind.Parsed y) × SameValue old ts (key_of kind.Symbols y)) where
  module _ (y : List ℕ) (no : has_name (names_in old) y ≡ true) (n : has_name (names_in ts) y ≡ true) where
    both : known (read_at old mo y no).read ≡ known (read_at ts ms y n).read
    both = known_same old ts mo ms sh y no n (same y n).0 (same y n).1

    at_old : number_from 0 (names_in old) y ≡ Some (read_at old mo y no).at
    at_old = ap (number_from 0 (names_in old)) (sym (read_at old mo y no).named) ∙ place_of old mo g lo (read_at old mo y no).at (known (read_at old mo y no).read) (read_at old mo y no).is_known

    at_new : number_from 0 (names_in ts) y ≡ Some (read_at ts ms y n).at
    at_new = ap (number_from 0 (names_in ts)) (sym (read_at ts ms y n).named) ∙ place_of ts ms d l (read_at ts ms y n).at (known (read_at ts ms y n).read) (read_at ts ms y n).is_known

  forth : (i : ℕ) (k : Known) → slice_get (known_in old) i ≡ Some k → slice_get (known_in ts) i ≡ Some k
  forth i k e =
      let y = k.read.name in
      let no = known_named old mo i k e in
      let n : has_name (names_in ts) k.read.name ≡ true = subst (λ xs. has_name xs k.read.name ≡ true) names no in
      let here = place_of old mo g lo i k e in
      let a : (read_at old mo y no).at ≡ i = some_same (read_at old mo y no).at i (sym (at_old y no n) ∙ here) in
      let b : (read_at ts ms y n).at ≡ i = some_same (read_at ts ms y n).at i (sym (at_new y no n) ∙ (ap (λ xs. number_from 0 xs k.read.name) (sym names) ∙ here)) in
      let s : Some k ≡ Some (known (read_at old mo y no).read) = sym e ∙ (ap (slice_get (known_in old)) (sym a) ∙ (read_at old mo y no).is_known) in
      ap (slice_get (known_in ts)) (sym b) ∙ ((read_at ts ms y n).is_known ∙ (ap (λ z. Some z) (sym (both y no n)) ∙ sym s))

  back : (i : ℕ) (k : Known) → slice_get (known_in ts) i ≡ Some k → slice_get (known_in old) i ≡ Some k
  back i k e =
      let y = k.read.name in
      let n = known_named ts ms i k e in
      let no : has_name (names_in old) k.read.name ≡ true = subst (λ xs. has_name xs k.read.name ≡ true) (sym names) n in
      let here = place_of ts ms d l i k e in
      let a : (read_at ts ms y n).at ≡ i = some_same (read_at ts ms y n).at i (sym (at_new y no n) ∙ here) in
      let b : (read_at old mo y no).at ≡ i = some_same (read_at old mo y no).at i (sym (at_old y no n) ∙ (ap (λ xs. number_from 0 xs k.read.name) names ∙ here)) in
      let s : Some k ≡ Some (known (read_at ts ms y n).read) = sym e ∙ (ap (slice_get (known_in ts)) (sym a) ∙ (read_at ts ms y n).is_known) in
      ap (slice_get (known_in old)) (sym b) ∙ ((read_at old mo y no).is_known ∙ (ap (λ z. Some z) (both y no n) ∙ sym s))

  all_same : known_in old ≡ known_in ts
  all_same = same_lists (known_in old) (known_in ts) forth back

  pub graph_stays : GraphsIgnorePlaces → links_in ts ≡ Ok g
  graph_stays law =
      let trees : map tree_of (trees_in ts) ≡ map tree_of (trees_in old) = trees_are (modules_in ts) ∙ (ap (map (λ (k : Known). k.read)) (sym all_same) ∙ sym (trees_are (modules_in old))) in
      let tables : tables_in ts ≡ tables_in old = tables_are (modules_in ts) ∙ (ap (map (λ (k : Known). k.symbols)) (sym all_same) ∙ sym (tables_are (modules_in old))) in
      ap (link_of (trees_in ts)) tables ∙ law (trees_in old) (trees_in ts) (tables_in old) g trees lo

-- what a graph needs are its modules' names, with the same values
pub record SameModules (old ts : List ModuleText) : Type 0 where
  pub names : names_in old ≡ names_in ts
  pub values : (y : List ℕ) → has_name (names_in ts) y ≡ true → SameValue old ts (key_of kind.Parsed y) × SameValue old ts (key_of kind.Symbols y)

pub modules_same : (old ts : List ModuleText) (x : List ℕ) → needs_in old (record { kind = kind.CallGraph; name = x }) ≡ needs_in ts (record { kind = kind.CallGraph; name = x }) → Each (SameValue old ts) (needs_in ts (record { kind = kind.CallGraph; name = x })) →
    SameModules old ts
modules_same old ts x e h =
    let xs = names_in ts in
    let cs = callees_of (graph_of ts) x in
    let ds = callers_of (graph_of ts) x in
    let P : Key → Type 0 = SameValue old ts in
    let all = each_left P (trees_of xs ++ (tables_of xs ++ [])) (by_module [] cs) (each_left P ((trees_of xs ++ (tables_of xs ++ [])) ++ by_module [] cs) (by_module [] ds) h) in
    let first = each_mapped P (λ y. key_of kind.Parsed y) xs (each_left P (trees_of xs) (tables_of xs ++ []) all) in
    let second = each_mapped P (λ y. key_of kind.Symbols y) xs (each_left P (tables_of xs) [] (each_right P (trees_of xs) (tables_of xs ++ []) all)) in
    record {
      names = sym (named (names_in old) (callees_of (graph_of old) x) (callers_of (graph_of old) x)) ∙ (ap read_names e ∙ named xs cs ds);
      values = λ y n. (each_at (λ z. P (key_of kind.Parsed z)) xs first y n, each_at (λ z. P (key_of kind.Symbols z)) xs second y n);
    }
