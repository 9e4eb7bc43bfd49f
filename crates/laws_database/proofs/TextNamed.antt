-- In linked texts each name is that of one module.
use Rattle.std.proofs.Common.{◌≡◌, ℕ, zero, suc, ◌+◌, Bool, true, false, List, [], ◌∷◌, ◌++◌, map, refl, sym, ap, ◌∙◌, arith, if◌then◌else◌}
use Rattle.std.specs.Prelude.{Option, Some, None, option_map, option_and_then, option_to_list, slice_get, bytes_eq, Ok}
use Rattle.std.proofs.lemmas.Slice.Eq.{bytes_eq-Decides}
use Rattle.f77_ast.specs.DeclTrees.{ParsedTree}
use Rattle.f77_ast.specs.Symbols.{number_from}
use Rattle.call_graph.specs.declared.graph.Graph.{Graph}
use Rattle.call_graph.specs.Modules.{names_of}
use Rattle.loop_marker.specs.Results.{ModuleResults}
use Rattle.result_lines.specs.declared.show.Show.{Show}
use Rattle.laws_programs.specs.roundtrip_programs.Statements.Formed.{Each}
use Rattle.laws_programs.proofs.Storage.ModuleLaws.{place_of_name}
use Rattle.session_texts.specs.pipsmake_meaning.ResultEntries.{results_of_modules, results_for}
use Rattle.session_texts.specs.pipsmake_meaning.Texts.{ModuleText, ReadModule, module_read, AreModules, modules_in, trees_in, tables_in, names_in, links_in, known_in, text_of}
use Rattle.session_texts.specs.pipsmake_meaning.Definitions.{module_named, results_with, results_in, text_shown}
use Rattle.laws_database.specs.ProgramTexts.{text_with, texts_with, text_named, before_text, texts_named}
use Rattle.laws_database.specs.ProgramTextLaws.{NamesShowTheText}
use Rattle.laws_database.proofs.Linked.{names_are as names-same}
use Rattle.session_texts.proofs.Keeping.{tree_in as tree}
use Rattle.fx_lists.proofs.Texts.{apart_back}

-- ---- each text is the one of its name

tree-at : (ts : List ModuleText) → AreModules ts → (i : ℕ) (u : ModuleText) → slice_get ts i ≡ Some u → (p : ParsedTree) × (slice_get (trees_in ts) i ≡ Some p) × (p.module_read.name ≡ u.name)
tree-at [] h i u e = cc
tree-at (t ∷ ts) h zero u e =
    let same : t ≡ u = cc in
    (h.0.found.module_is, ap (λ o. slice_get (map tree (option_to_list o ++ modules_in ts)) zero) h.0.is_read, h.0.is_named ∙ ap (λ x. x.name) same)
tree-at (t ∷ ts) h (suc i) u e =
    let r = tree-at ts h.1 i u e in
    (r.0, ap (λ o. slice_get (map tree (option_to_list o ++ modules_in ts)) (suc i)) h.0.is_read ∙ r.1, r.2)

text-at : (k i : ℕ) (ts : List ModuleText) (x : List ℕ) (u : ModuleText) → u.name ≡ x → number_from k (names_in ts) x ≡ Some (k + i) → slice_get ts i ≡ Some u → text_of ts x ≡ Some u.text
text-at k i [] x u n h e = cc
text-at k zero (t ∷ ts) x u n h e =
    let same : t ≡ u = cc in
    let named : bytes_eq t.name x ≡ true = (bytes_eq-Decides t.name x).1 (ap (λ y. y.name) same ∙ n) in
    ap (λ b. if b then Some t.text else text_of ts x) named ∙ ap (λ y. Some y.text) same
text-at k (suc i) (t ∷ ts) x u n h e = go (bytes_eq x t.name) refl h (λ f. text-at (suc k) i ts x u n f e)
  where
    go : (b : Bool) → bytes_eq x t.name ≡ b → (if b then Some k else number_from (suc k) (names_in ts) x) ≡ Some (k + suc i) → (number_from (suc k) (names_in ts) x ≡ Some (suc k + i) → text_of ts x ≡ Some u.text)
        → text_of (t ∷ ts) x ≡ Some u.text
    go true g f ih =
        let same : k ≡ k + suc i = cc in
        absurd (omega (arith, same))
    go false g f ih =
        let next : k + suc i ≡ suc k + i = omega arith in
        ap (λ b. if b then Some t.text else text_of ts x) (apart_back x t.name g) ∙ ih (f ∙ ap Some next)

own-text : (ts : List ModuleText) (g : Graph) → AreModules ts → links_in ts ≡ Ok g → (i : ℕ) (u : ModuleText) → slice_get ts i ≡ Some u → text_of ts u.name ≡ Some u.text
own-text ts g h l i u e =
    let r = tree-at ts h i u e in
    let counted : i ≡ 0 + i = omega arith in
    let number : number_from 0 (names_in ts) u.name ≡ Some (0 + i) =
    ap (λ ns. number_from 0 ns u.name) (sym (names-same ts h))
    ∙ ap (number_from 0 (names_of (trees_in ts))) (sym r.2)
    ∙ place_of_name (trees_in ts) (tables_in ts) g l i r.0 r.1
    ∙ ap Some counted in
    text-at 0 i ts u.name u refl number e

each-at : (P : ModuleText → Type 0) (us : List ModuleText) → ((i : ℕ) (u : ModuleText) → slice_get us i ≡ Some u → P u) → Each P us
each-at P [] f = tt
each-at P (u ∷ us) f = record { first = f zero u refl; others = each-at P us (λ i v e. f (suc i) v e) }

-- ---- the text of all

both-by : (show : Show) (m : ReadModule) (o : Option ModuleResults) (later : Option (List ℕ)) (text more : List ℕ) → before_text (option_map (text_shown show m) o) later ≡ Some text
    → ((b : List ℕ) → later ≡ Some b → more ≡ b) → text_with show m o ++ more ≡ text
both-by show m None later text more h f = cc
both-by show m (Some r) None text more h f = cc
both-by show m (Some r) (Some b) text more h f =
    let whole : text_shown show m r ++ b ≡ text = cc in
    ap (λ (x : List ℕ). text_shown show m r ++ x) (f b refl) ∙ whole

module _ (show : Show) (ts : List ModuleText) (g : Graph) (l : links_in ts ≡ Ok g) where
  abbrev IsOwn : ModuleText → Type 0
  IsOwn u = text_of ts u.name ≡ Some u.text

  abbrev found : List ModuleResults
  found = results_of_modules (known_in ts) g

  abbrev shown : ReadModule → Option (List ℕ)
  shown m = option_map (text_shown show m) (results_for found m.module_is.module_read.name)

  named-text : (u : ModuleText) (m : ReadModule) → IsOwn u → module_read u.text ≡ Some m → m.module_is.module_read.name ≡ u.name → text_named show ts u.name ≡ shown m
  named-text u m o r n =
      let read : module_named ts u.name ≡ Some m = ap (option_and_then module_read) o ∙ r in
      ap (option_and_then (λ x. option_map (text_shown show x) (results_in ts u.name))) read
      ∙ ap (λ x. option_map (text_shown show m) (results_with ts x u.name)) l
      ∙ ap (λ x. option_map (text_shown show m) (results_for found x)) (sym n)

  all-named : (us : List ModuleText) (text : List ℕ) → AreModules us → Each IsOwn us → texts_named show ts (names_in us) ≡ Some text → texts_with show found (modules_in us) ≡ text
  all-named [] text h o e = cc
  all-named (u ∷ us) text h o e =
      let m = h.0.found in
      let later = texts_named show ts (names_in us) in
      let whole : before_text (shown m) later ≡ Some text = ap (λ x. before_text x later) (sym (named-text u m o.first h.0.is_read h.0.is_named)) ∙ e in
      ap (λ x. texts_with show found (option_to_list x ++ modules_in us)) h.0.is_read
      ∙ both-by show m (results_for found m.module_is.module_read.name) later text (texts_with show found (modules_in us)) whole (λ b f. all-named us b h.1 o.others f)

pub names_show_the_text : NamesShowTheText
names_show_the_text show ts g text h l e = all-named show ts g l ts text h (each-at (λ u. text_of ts u.name ≡ Some u.text) ts (own-text ts g h l)) e
