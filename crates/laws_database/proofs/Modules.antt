-- The modules of texts by their names, and what the graph of texts that link names.
use Rattle.std.proofs.Common.{◌≡◌, ℕ, zero, suc, Bool, true, false, ◌||◌, inl, inr, List, [], ◌∷◌, ◌++◌, length, map, Option, Some, refl, sym, ap, ◌∙◌, subst}
use Rattle.std.specs.Prelude.{slice_get, bytes_eq, option_and_then, option_to_list, Ok, filter, if◌then◌else◌}
use Rattle.std.specs.List.{list_any}
use Rattle.std.proofs.lemmas.Bool.{and_parts, or_left, or_right, or_cases}
use Rattle.std.proofs.lemmas.Slice.Eq.{bytes_eq-Decides}
use Rattle.f77_ast.specs.DeclTrees.{ParsedTree}
use Rattle.call_graph.specs.declared.graph.Edge.{Edge}
use Rattle.call_graph.specs.declared.graph.Graph.{Graph}
use Rattle.f77_meaning.specs.Modules.{Known, known_of}
use Rattle.loop_marker.specs.Results.{ModuleResults}
use Rattle.laws_programs.specs.Storage.Programs.{IsLinked}
use Rattle.call_graph.specs.CallsIn.{Each}
use Rattle.laws_analyses.proofs.Passes.{each_reversed}
use Rattle.session_texts.specs.pipsmake_meaning.ResultEntries.{results_of_modules, results_for}
use Rattle.laws_database.proofs.ResultEntries.{modules_have_entries}
use Rattle.session_texts.specs.pipsmake_rules.Neighbours.{has_name, name_put, callees_from, callees_of, calls, callers_of}
use Rattle.session_texts.specs.pipsmake_meaning.Texts.{ModuleText, ReadModule, module_read, AreModules, modules_in, trees_in, tables_in, names_in, links_in, known_in, text_of}
use Rattle.session_texts.specs.pipsmake_meaning.Definitions.{module_named, results_with, results_in}
use Rattle.session_texts.specs.pipsmake_meaning.Rules.{known}
use Rattle.laws_database.proofs.InOrder.{Joins, joins}
use Rattle.session_texts.proofs.Keeping.{tree_in as tree}

-- ---- a module by its name

pub record Read (ts : List ModuleText) (x : List ℕ) : Type 0 where
  pub text : List ℕ
  pub is_text : text_of ts x ≡ Some text
  pub read : ReadModule
  pub is_read : module_named ts x ≡ Some read
  pub named : read.module_is.module_read.name ≡ x
  pub at : ℕ
  pub is_known : slice_get (known_in ts) at ≡ Some (known read)

abbrev known_with : List ModuleText → Option ReadModule → List Known
known_with ts o = known_of (map (λ (m : ReadModule). m.module_is) (option_to_list o ++ modules_in ts)) (map (λ (m : ReadModule). m.table) (option_to_list o ++ modules_in ts))

pub read_at : (ts : List ModuleText) → AreModules ts → (x : List ℕ) → has_name (names_in ts) x ≡ true → Read ts x
read_at [] ms x h = cc
read_at (t ∷ ts) ms x h = go (bytes_eq t.name x) refl h (read_at ts ms.1 x)
  where
    go : (b : Bool) → bytes_eq t.name x ≡ b → (b || has_name (names_in ts) x) ≡ true → (has_name (names_in ts) x ≡ true → Read ts x) → Read (t ∷ ts) x
    go true e q ih =
        let found : text_of (t ∷ ts) x ≡ Some t.text = ap (λ b. if b then Some t.text else text_of ts x) e in
        record {
          text = t.text;
          is_text = found;
          read = ms.0.found;
          is_read = ap (option_and_then module_read) found ∙ ms.0.is_read;
          named = ms.0.is_named ∙ (bytes_eq-Decides t.name x).0 e;
          at = zero;
          is_known = ap (λ o. slice_get (known_with ts o) zero) ms.0.is_read;
        }
    go false e q ih =
        let r = ih q in
        let found : text_of (t ∷ ts) x ≡ text_of ts x = ap (λ b. if b then Some t.text else text_of ts x) e in
        record {
          text = r.text;
          is_text = found ∙ r.is_text;
          read = r.read;
          is_read = ap (option_and_then module_read) found ∙ r.is_read;
          named = r.named;
          at = suc r.at;
          is_known = ap (λ o. slice_get (known_with ts o) (suc r.at)) ms.0.is_read ∙ r.is_known;
        }

pub trees_named : (ts : List ModuleText) → AreModules ts → (i : ℕ) (p : ParsedTree) → slice_get (trees_in ts) i ≡ Some p → has_name (names_in ts) p.module_read.name ≡ true
trees_named [] ms i p e = cc
trees_named (t ∷ ts) ms i p e = go i (sym (ap (λ o. slice_get (map tree (option_to_list o ++ modules_in ts)) i) ms.0.is_read) ∙ e) (trees_named ts ms.1)
  where
    go : (i : ℕ) → slice_get (ms.0.found.module_is ∷ trees_in ts) i ≡ Some p → ((j : ℕ) (q : ParsedTree) → slice_get (trees_in ts) j ≡ Some q → has_name (names_in ts) q.module_read.name ≡ true) → has_name (names_in (t ∷ ts)) p.module_read.name ≡ true
    go zero q ih =
        let s : ms.0.found.module_is ≡ p = cc in
        or_left (bytes_eq t.name p.module_read.name) (has_name (names_in ts) p.module_read.name) ((bytes_eq-Decides t.name p.module_read.name).1 (sym ms.0.is_named ∙ ap (λ (z : ParsedTree). z.module_read.name) s))
    go (suc j) q ih = or_right (bytes_eq t.name p.module_read.name) (has_name (names_in ts) p.module_read.name) (ih j p q)

same_length : (ms : List ReadModule) → length (map (λ (m : ReadModule). m.module_is) ms) ≡ length (map (λ (m : ReadModule). m.table) ms)
same_length [] = refl
same_length (m ∷ ms) = ap suc (same_length ms)

pub linked : (ts : List ModuleText) (g : Graph) → links_in ts ≡ Ok g → IsLinked (trees_in ts) (tables_in ts) g
linked ts g e = record { many = same_length (modules_in ts); links = e }

-- ---- results of a module

pub record Entry (ts : List ModuleText) (g : Graph) (x : List ℕ) (m : ReadModule) : Type 0 where
  pub entry : ModuleResults
  pub said : results_for (results_of_modules (known_in ts) g) x ≡ Some entry
  pub is_of : entry.known ≡ known m
  pub result : results_in ts x ≡ Some entry

pub entry_of : (ts : List ModuleText) (g : Graph) → links_in ts ≡ Ok g → (x : List ℕ) (r : Read ts x) → Entry ts g x r.read
entry_of ts g e x r =
    let h = (modules_have_entries (trees_in ts) (tables_in ts) g (linked ts g e)).modules r.at (known r.read) r.is_known in
    let said : results_for (results_of_modules (known_in ts) g) x ≡ Some h.entry = ap (results_for (results_of_modules (known_in ts) g)) (sym r.named) ∙ h.found in
    record { entry = h.entry; said = said; is_of = h.is; result = ap (λ l. results_with ts l x) e ∙ said }

-- ---- the modules that a graph names

put_each : (P : List ℕ → Type 0) (y : List ℕ) (xs : List (List ℕ)) → P y → Each P xs → Each P (name_put y xs)
put_each P y xs p h = go (has_name xs y)
  where
    more : (zs : List (List ℕ)) → Each P zs → Each P (zs ++ y ∷ [])
    more [] k = (p, tt)
    more (z ∷ zs) k = (k.0, more zs k.1)

    go : (b : Bool) → Each P (if b then xs else xs ++ y ∷ [])
    go true = h
    go false = more xs h

callees_each : (P : List ℕ → Type 0) (x : List ℕ) (es : List Edge) (found : List (List ℕ)) → Each (λ (e : Edge). P e.callee) es → Each P found → Each P (callees_from x es found)
callees_each P x [] found h k = k
callees_each P x (e ∷ es) found h k = go (bytes_eq e.caller x) (λ more. callees_each P x es more h.1)
  where
    go : (b : Bool) → ((more : List (List ℕ)) → Each P more → Each P (callees_from x es more)) → Each P (callees_from x es (if b then name_put e.callee found else found))
    go true ih = ih (name_put e.callee found) (put_each P e.callee found h.0 k)
    go false ih = ih found k

filter_each : (P : List ℕ → Type 0) (q : List ℕ → Bool) → ((y : List ℕ) → q y ≡ true → P y) → (ys : List (List ℕ)) → Each P (filter q ys)
filter_each P q h [] = tt
filter_each P q h (y ∷ ys) = go (q y) refl (filter_each P q h ys)
  where
    go : (b : Bool) → q y ≡ b → Each P (filter q ys) → Each P (if b then y ∷ filter q ys else filter q ys)
    go true e ih = (h y e, ih)
    go false e ih = ih

caller_is : (P : List ℕ → Type 0) (x : List ℕ) (es : List Edge) → Each (λ (e : Edge). P e.caller) es → (y : List ℕ) → list_any (calls y x) es ≡ true → P y
caller_is P x [] h y e = cc
caller_is P x (d ∷ es) h y e =
    elim (or_cases (calls y x d) (list_any (calls y x) es) e) [
      | inl s ↦ subst P ((bytes_eq-Decides d.caller y).0 (and_parts (bytes_eq d.caller y) (bytes_eq d.callee x) s).0) h.0
      | inr r ↦ caller_is P x es h.1 y r
    ]

each_edge : (P : Edge → Type 0) (es : List Edge) → ((i : ℕ) (e : Edge) → slice_get es i ≡ Some e → P e) → Each P es
each_edge P [] h = tt
each_edge P (e ∷ es) h = (h zero e refl, each_edge P es (λ i d q. h (suc i) d q))

module _ (ts : List ModuleText) (ms : AreModules ts) (g : Graph) (l : links_in ts ≡ Ok g) where
  abbrev IsName : List ℕ → Type 0
  IsName y = has_name (names_in ts) y ≡ true

  join : (i : ℕ) (e : Edge) → slice_get g.edges i ≡ Some e → Joins (trees_in ts) e
  join = joins (trees_in ts) (tables_in ts) g (linked ts g l)

  pub callees_named : (x : List ℕ) → Each IsName (callees_of g x)
  callees_named x =
      callees_each IsName x g.edges []
      (each_edge (λ e. IsName e.callee) g.edges (λ i e q. (let j = join i e q in subst IsName j.callee_named (trees_named ts ms j.callee_at j.callee j.is_callee)))) tt

  pub callers_named : (x : List ℕ) → Each IsName (callers_of g x)
  callers_named x =
      each_reversed IsName (filter (λ y. list_any (calls y x) g.edges) g.order)
      (filter_each IsName (λ y. list_any (calls y x) g.edges)
      (caller_is IsName x g.edges (each_edge (λ e. IsName e.caller) g.edges (λ i e q. (let j = join i e q in subst IsName j.caller_named (trees_named ts ms j.caller_at j.caller j.is_caller))))) g.order)
