-- What is made of kept results is what is defined.
use Rattle.std.proofs.Common.{◌≡◌, ℕ, zero, suc, Bool, true, false, ◌||◌, List, [], ◌∷◌, ◌++◌, Option, Some, None, refl, sym, ap, ◌∙◌, subst, append_assoc, append-nil}
use Rattle.std.specs.Prelude.{bytes_eq, fold, option_map, option_and_then, option_to_list, Result, Ok, Err, if◌then◌else◌}
use Rattle.std.specs.List.{list_all}
use Rattle.std.proofs.lemmas.Slice.Eq.{bytes_eq-Decides}
use Rattle.f77_ast.specs.Symbols.{SymbolTree}
use Rattle.call_graph.specs.declared.graph.Graph.{Graph}
use Rattle.call_graph.specs.declared.refusal.Fault.{Fault}
use Rattle.loop_marker.specs.Results.{ModuleResults}
use Rattle.laws_programs.specs.roundtrip_programs.Laws.{TablesIgnorePlaces, GraphsIgnorePlaces}
use Rattle.fx_lists.specs.declared.refusal.Refusal.{Refusal}
use Rattle.call_graph.specs.CallsIn.{Each}
use Rattle.session_texts.specs.pipsmake_meaning.ResultEntries.{results_of_modules, name_in, results_for}
use Rattle.laws_database.specs.ResultLaws.{IsFound}
use Rattle.laws_database.proofs.ResultEntries.{modules_have_entries}
use Rattle.session_texts.specs.pipsmake_rules.declared.kind.Kind.{Kind}
use Rattle.session_texts.specs.pipsmake_rules.declared.kind.Kind.TheVariants as kind
use Rattle.session_texts.specs.pipsmake_rules.declared.key.Key.{Key}
use Rattle.session_texts.specs.pipsmake_rules.Keys.{holds}
use Rattle.session_texts.specs.pipsmake_rules.Needs.{needs_of}
use Rattle.session_texts.specs.pipsmake_rules.Neighbours.{has_name}
use Rattle.session_texts.specs.pipsmake_rules.Walk.{walk_from, depth_of}
use Rattle.session_texts.specs.pipsmake_rules.Laws.{is_bottom_up}
use Rattle.session_texts.proofs.PipsmakeRules.WalkLaws.{complete}
use Rattle.session_texts.specs.pipsmake_meaning.Values.{Value, parsed, lines, symbols, effects, transformers, preconditions, regions, ins, outs, marks, text, result}
use Rattle.session_texts.specs.pipsmake_meaning.Texts.{ModuleText, ReadModule, module_read, AreModules, trees_in, tables_in, names_in, links_in, known_in, graph_or_none, graph_of, text_of}
use Rattle.session_texts.specs.pipsmake_meaning.Definitions.{module_named, results_with, results_in, graph_found, printed_with, definition}
use Rattle.session_texts.specs.pipsmake_meaning.Session.{needs_in, SameValue}
use Rattle.session_texts.specs.pipsmake_meaning.MemoCells.{MemoCells, MemoCell, value_under}
use Rattle.session_texts.specs.pipsmake_meaning.Rules.{rule_value}
use Rattle.laws_database.specs.Laws.{AreLinked, CanMake, walk_in, IsDefined, MakingIsDefined, MakingMayStop, ResultsHaveValues, RulesHaveValues, printed_key, TextsAreShown}
use Rattle.laws_database.proofs.Stamps.{IsKnown, SameNeeds}
use Rattle.laws_database.proofs.Keeping.{Facts, brought, each_last, all_held}
use Rattle.laws_database.proofs.InOrder.{bottom_up}
use Rattle.laws_database.proofs.Modules.{read_at, linked}
use Rattle.laws_database.proofs.Needs.{Can, has_value, has_text, needs_can}
use Rattle.laws_database.proofs.Made.{said_each, rule_is, shown_is}
use Rattle.laws_database.proofs.Same.{read_is, tree_same, rule_same, effects_same, transformers_same, preconditions_same, regions_same, ins_same, outs_same, marks_same, printed_same}
use Rattle.laws_database.proofs.Linked.{table_of, known_named, graph_stays, modules_same, each_right as each_back}
use Rattle.call_graph.proofs.EachLaws.{each_both, each_more}

-- ---- what has a value can be made

pub some_mapped : {A : Type 0} (f : A → Value) (o : Option A) (v : Value) → option_map f o ≡ Some v → (a : A) × (o ≡ Some a)
some_mapped f None v e = cc
some_mapped f (Some a) v e = (a, refl)

pub text_named : (ts : List ModuleText) (x t : List ℕ) → text_of ts x ≡ Some t → has_name (names_in ts) x ≡ true
text_named [] x t e = cc
text_named (u ∷ ts) x t e = go (bytes_eq u.name x) e (text_named ts x t)
  where
    go : (b : Bool) → (if b then Some u.text else text_of ts x) ≡ Some t → (text_of ts x ≡ Some t → has_name (names_in ts) x ≡ true) → (b || has_name (names_in ts) x) ≡ true
    go true q ih = refl
    go false q ih = ih q

pub read_named : (ts : List ModuleText) (x : List ℕ) (m : ReadModule) → module_named ts x ≡ Some m → has_name (names_in ts) x ≡ true
read_named ts x m e = go (text_of ts x) refl e
  where
    go : (o : Option (List ℕ)) → text_of ts x ≡ o → option_and_then module_read o ≡ Some m → has_name (names_in ts) x ≡ true
    go None q w = cc
    go (Some t) q w = text_named ts x t q

pub linked_result : (ts : List ModuleText) (x : List ℕ) (f : ModuleResults) → results_in ts x ≡ Some f → (g : Graph) × (links_in ts ≡ Ok g) × (results_for (results_of_modules (known_in ts) g) x ≡ Some f)
linked_result ts x f e = go (links_in ts) refl e
  where
    go : (r : Result Graph Fault) → links_in ts ≡ r → results_with ts r x ≡ Some f → (g : Graph) × (links_in ts ≡ Ok g) × (results_for (results_of_modules (known_in ts) g) x ≡ Some f)
    go (Ok g) q w = (g, q, w)
    go (Err a) q w = cc

pub said_name : (fs : List ModuleResults) (x : List ℕ) (f : ModuleResults) → results_for fs x ≡ Some f → bytes_eq (name_in f) x ≡ true
said_name [] x f e = cc
said_name (d ∷ fs) x f e = go (bytes_eq (name_in d) x) refl e (said_name fs x f)
  where
    go : (b : Bool) → bytes_eq (name_in d) x ≡ b → (if b then Some d else results_for fs x) ≡ Some f → (results_for fs x ≡ Some f → bytes_eq (name_in f) x ≡ true) → bytes_eq (name_in f) x ≡ true
    go true q w ih = (let same : d ≡ f = cc in subst (λ z. bytes_eq (name_in z) x ≡ true) same q)
    go false q w ih = ih w

module _ (ts : List ModuleText) (ms : AreModules ts) (x : List ℕ) where
  result_can : (f : ModuleResults) → results_in ts x ≡ Some f → AreLinked ts × (has_name (names_in ts) x ≡ true)
  result_can f e =
      let r = linked_result ts x f e in
      let fs = results_of_modules (known_in ts) r.0 in
      let i : IsFound (known_in ts) fs f = said_each (IsFound (known_in ts) fs) fs x f (modules_have_entries (trees_in ts) (tables_in ts) r.0 (linked ts r.0 r.1)).found r.2 in
      ((r.0, r.1), subst (λ y. has_name (names_in ts) y ≡ true) ((bytes_eq-Decides (name_in f) x).0 (said_name fs x f r.2)) (known_named ts ms i.at f.known i.is_module))

  of_module : (f : ReadModule → Value) (v : Value) → option_map f (module_named ts x) ≡ Some v → has_name (names_in ts) x ≡ true
  of_module f v e = let r = some_mapped f (module_named ts x) v e in read_named ts x r.0 r.1

  of_result : (f : ModuleResults → Value) (v : Value) → option_map f (results_in ts x) ≡ Some v → AreLinked ts × (has_name (names_in ts) x ≡ true)
  of_result f v e = let r = some_mapped f (results_in ts x) v e in result_can r.0 r.1

  of_printed : (v : Value) → printed_with (module_named ts x) (results_in ts x) ≡ Some v → AreLinked ts × (has_name (names_in ts) x ≡ true)
  of_printed v e = go (module_named ts x) (results_in ts x) refl e
    where
      go : (o : Option ReadModule) (p : Option ModuleResults) → results_in ts x ≡ p → printed_with o p ≡ Some v → AreLinked ts × (has_name (names_in ts) x ≡ true)
      go None p q w = cc
      go (Some m) None q w = cc
      go (Some m) (Some f) q w = result_can f q

-- ---- the values of some texts as what is kept

abbrev memo_cell_with : Option Value → MemoCell
memo_cell_with o = record { values = option_to_list o; kept = option_map (λ (v : Value). record { stamp = 0; needs = [] }) o }

abbrev memo_cells_of : List ModuleText → MemoCells
memo_cells_of ts text x = memo_cell_with None
memo_cells_of ts (result k) x = memo_cell_with (definition ts k x)

memo_cell_keeps : (o : Option Value) → value_under (memo_cell_with o).values (memo_cell_with o).kept ≡ o
memo_cell_keeps None = refl
memo_cell_keeps (Some v) = refl

-- ---- the same needs give the same value

abbrev with_ok : List SymbolTree → Result (List SymbolTree) Refusal
with_ok t = Ok t

ok_is : (a b : List SymbolTree) → with_ok a ≡ with_ok b → a ≡ b
ok_is a b e = cc

module _ (tables_law : TablesIgnorePlaces) (graphs_law : GraphsIgnorePlaces) (old ts : List ModuleText) (mo : AreModules old) (ms : AreModules ts) where
  abbrev sh : MemoCells
  sh = memo_cells_of old

  known_old : (ns : List Key) → Each (Can old mo) ns → Each (IsKnown (memo_cells_of old) old) ns
  known_old ns h = each_more (Can old mo) (IsKnown (memo_cells_of old) old) ns one h
    where
      one : (n : Key) → Can old mo n → IsKnown (memo_cells_of old) old n
      one n c = let w = has_value old mo n c in record { value = w.0; defined = w.1; kept = memo_cell_keeps (definition old n.kind n.name) ∙ w.1 }

  by_rule : (k : Key) → Can old mo k → Can ts ms k → (v : Value) → definition old k.kind k.name ≡ Some v → SameNeeds old ts k → rule_value (memo_cells_of old) old k ≡ rule_value (memo_cells_of old) ts k → definition ts k.kind k.name ≡ Some v
  by_rule k co c v e s same =
      let before = known_old (needs_in old k) (needs_can old mo k co) in
      let pairs = each_both (IsKnown (memo_cells_of old) old) (SameValue old ts) (needs_in ts k) (subst (Each (IsKnown (memo_cells_of old) old)) s.needs before) s.values in
      let now = each_more (λ n. IsKnown (memo_cells_of old) old n × SameValue old ts n) (IsKnown (memo_cells_of old) ts) (needs_in ts k) still pairs in
      sym (rule_is ts ms (memo_cells_of old) k c now) ∙ (sym same ∙ (rule_is old mo (memo_cells_of old) k co before ∙ e))
    where
      still : (n : Key) → IsKnown (memo_cells_of old) old n × SameValue old ts n → IsKnown (memo_cells_of old) ts n
      still n q = record { value = q.0.value; defined = sym q.1 ∙ q.0.defined; kept = q.0.kept }

  read_same : (x : List ℕ) (was : has_name (names_in old) x ≡ true) (n : has_name (names_in ts) x ≡ true) → text_of old x ≡ text_of ts x → (read_at old mo x was).read ≡ (read_at ts ms x n).read
  read_same x was n s =
      read_is (read_at old mo x was).read (read_at ts ms x n).read (sym (read_at old mo x was).is_read ∙ (ap (option_and_then module_read) s ∙ (read_at ts ms x n).is_read))

  table_same : (x : List ℕ) (was : has_name (names_in old) x ≡ true) (n : has_name (names_in ts) x ≡ true) → SameValue old ts (record { kind = kind.Parsed; name = x }) → (read_at old mo x was).read.table ≡ (read_at ts ms x n).read.table
  table_same x was n s =
      let m = read_at old mo x was in
      let d = read_at ts ms x n in
      ok_is m.read.table d.read.table (sym (tables_law m.read.module_is d.read.module_is m.read.table (sym (tree_same old ts mo ms (memo_cells_of old) x was n s)) (table_of old x m)) ∙ table_of ts x d)

  graph_stays_so : (x : List ℕ) → AreLinked ts → (v : Value) → graph_found (links_in old) ≡ Some v → SameNeeds old ts (record { kind = kind.CallGraph; name = x }) → graph_found (links_in ts) ≡ Some v
  graph_stays_so x l v e s = go (links_in old) refl e
    where
      go : (r : Result Graph Fault) → links_in old ≡ r → graph_found r ≡ Some v → graph_found (links_in ts) ≡ Some v
      go (Ok g) q w =
          let m = modules_same old ts x s.needs s.values in
          ap graph_found (graph_stays (memo_cells_of old) old ts mo ms g l.0 q l.1 m.names m.values graphs_law) ∙ w
      go (Err f) q w = cc

  pub same_for : (k : Kind) (x : List ℕ) → CanMake ts k x → (v : Value) → definition old k x ≡ Some v → SameNeeds old ts (record { kind = k; name = x }) → definition ts k x ≡ Some v
  same_for kind.Parsed x c v e s =
      let no = of_module old mo x (λ m. parsed m.module_is.module_read) v e in
      by_rule (record { kind = kind.Parsed; name = x }) no c v e s (rule_same old ts mo ms (memo_cells_of old) x no c kind.Parsed (ap (λ z. Some (parsed z.module_is.module_read)) (read_same x no c s.text)))
  same_for kind.Lines x c v e s =
      let no = of_module old mo x (λ m. lines m.module_is.places) v e in
      by_rule (record { kind = kind.Lines; name = x }) no c v e s (rule_same old ts mo ms (memo_cells_of old) x no c kind.Lines (ap (λ z. Some (lines z.module_is.places)) (read_same x no c s.text)))
  same_for kind.Symbols x c v e s =
      let no = of_module old mo x (λ m. symbols m.table) v e in
      by_rule (record { kind = kind.Symbols; name = x }) no c v e s (rule_same old ts mo ms (memo_cells_of old) x no c kind.Symbols (ap (λ z. Some (symbols z)) (table_same x no c s.values.0)))
  same_for kind.CallGraph x c v e s = graph_stays_so x c.0 v e s
  same_for kind.Effects x c v e s =
      let co = of_result old mo x (λ f. effects f.effects) v e in
      by_rule (record { kind = kind.Effects; name = x }) co c v e s (effects_same old ts mo ms (memo_cells_of old) x co.1 c.1 co.0 c.0 s.values)
  same_for kind.Transformers x c v e s =
      let co = of_result old mo x (λ f. transformers f.transformers) v e in
      by_rule (record { kind = kind.Transformers; name = x }) co c v e s (transformers_same old ts mo ms (memo_cells_of old) x co.1 c.1 co.0 c.0 s.values)
  same_for kind.Preconditions x c v e s =
      let co = of_result old mo x (λ f. preconditions f.preconditions) v e in
      by_rule (record { kind = kind.Preconditions; name = x }) co c v e s (preconditions_same old ts mo ms (memo_cells_of old) x co.1 c.1 co.0 c.0 s.values)
  same_for kind.Regions x c v e s =
      let co = of_result old mo x (λ f. regions f.regions) v e in
      by_rule (record { kind = kind.Regions; name = x }) co c v e s (regions_same old ts mo ms (memo_cells_of old) x co.1 c.1 co.0 c.0 s.values)
  same_for kind.InRegions x c v e s =
      let co = of_result old mo x (λ f. ins f.ins) v e in
      by_rule (record { kind = kind.InRegions; name = x }) co c v e s (ins_same old ts mo ms (memo_cells_of old) x co.1 c.1 co.0 c.0 s.values)
  same_for kind.OutRegions x c v e s =
      let co = of_result old mo x (λ f. outs f.outs) v e in
      by_rule (record { kind = kind.OutRegions; name = x }) co c v e s (outs_same old ts mo ms (memo_cells_of old) x co.1 c.1 co.0 c.0 s.values)
  same_for kind.Marks x c v e s =
      let co = of_result old mo x (λ f. marks f.marks) v e in
      by_rule (record { kind = kind.Marks; name = x }) co c v e s (marks_same old ts mo ms (memo_cells_of old) x co.1 c.1 co.0 c.0 s.values)
  same_for kind.Printed x c v e s =
      let co = of_printed old mo x v e in
      by_rule (record { kind = kind.Printed; name = x }) co c v e s (printed_same old ts mo ms (memo_cells_of old) x co.1 c.1 co.0 c.0 s.values)

-- ---- the walk

module _ (names : List (List ℕ)) (g : Graph) (P : Key → Type 0) (closed : (k : Key) → P k → Each P (needs_of names g k)) where
  fold_each : (t : ℕ) → ((done : List Key) (k : Key) → P k → Each P done → Each P (walk_from t names g done k)) → (ns : List Key) → Each P ns → (done : List Key) → Each P done → Each P (fold (λ d n. walk_from t names g d n) done ns)
  fold_each t walks [] q done h = h
  fold_each t walks (n ∷ ns) q done h = fold_each t walks ns q.1 (walk_from t names g done n) (walks done n q.0 h)

  walk_each : (t : ℕ) (done : List Key) (k : Key) → P k → Each P done → Each P (walk_from t names g done k)
  walk_each zero done k p h = h
  walk_each (suc t) done k p h = go (holds done k) (fold_each t (walk_each t) (needs_of names g k) (closed k p) done h)
    where
      go : (b : Bool) → Each P (fold (λ d n. walk_from t names g d n) done (needs_of names g k)) → Each P (if b then done else fold (λ d n. walk_from t names g d n) done (needs_of names g k) ++ k ∷ [])
      go true q = h
      go false q = each_last P (fold (λ d n. walk_from t names g d n) done (needs_of names g k)) k q p

pub graph_in_order : (ts : List ModuleText) → is_bottom_up (graph_of ts) ≡ true
graph_in_order ts = go (links_in ts) refl
  where
    go : (r : Result Graph Fault) → links_in ts ≡ r → is_bottom_up (graph_or_none r) ≡ true
    go (Ok g) e = bottom_up (trees_in ts) (tables_in ts) g (linked ts g e)
    go (Err f) e = refl

pub each_front : (P : Key → Type 0) (xs ys : List Key) → Each P (xs ++ ys) → Each P xs
each_front P [] ys h = tt
each_front P (x ∷ xs) ys h = (h.0, each_front P xs ys h.1)

pub walk_can : (ts : List ModuleText) (ms : AreModules ts) (k : Key) → CanMake ts k.kind k.name → Each (Can ts ms) (walk_in ts k)
walk_can ts ms k can = walk_each (names_in ts) (graph_of ts) (Can ts ms) (needs_can ts ms) (depth_of (graph_of ts)) [] k can tt

pub in_order : (ts : List ModuleText) (k : Key) (before : List Key) (j : Key) (after : List Key) → walk_in ts k ≡ before ++ j ∷ after → (holds before j ≡ false) × (list_all (λ n. holds before n) (needs_in ts j) ≡ true)
in_order ts k = (complete (names_in ts) (graph_of ts) k (graph_in_order ts)).0

pub results_have_values : ResultsHaveValues
results_have_values ts k ms can = has_value ts ms k can

-- what comes before a result of a walk has all that it needs
module _ (sh : MemoCells) (ts : List ModuleText) (ms : AreModules ts) (k : Key) (can : CanMake ts k.kind k.name) (before : List Key) (j : Key) (after : List Key) (parts : walk_in ts k ≡ before ++ j ∷ after) (are : Each (IsDefined sh ts) before) where
  cans_in : Each (Can ts ms) (before ++ j ∷ after)
  cans_in = subst (Each (Can ts ms)) parts (walk_can ts ms k can)

  can_there : Can ts ms j
  can_there = (each_back (Can ts ms) before (j ∷ after) cans_in).0

  known_there : Each (IsKnown sh ts) before
  known_there =
      each_more (λ n. Can ts ms n × IsDefined sh ts n) (IsKnown sh ts) before one (each_both (Can ts ms) (IsDefined sh ts) before (each_front (Can ts ms) before (j ∷ after) cans_in) are)
    where
      one : (n : Key) → Can ts ms n × IsDefined sh ts n → IsKnown sh ts n
      one n q = let w = has_value ts ms n q.0 in record { value = w.0; defined = w.1; kept = q.1 ∙ w.1 }

  needs_known : Each (IsKnown sh ts) (needs_in ts j)
  needs_known = all_held (IsKnown sh ts) before (needs_in ts j) known_there (in_order ts k before j after parts).1

pub rules_have_values : RulesHaveValues
rules_have_values sh ts k before j after ms can parts are =
    let c = can_there sh ts ms k can before j after parts are in
    let w = has_value ts ms j c in
    (w.0, w.1, rule_is ts ms sh j c (needs_known sh ts ms k can before j after parts are) ∙ w.1)

pub texts_are_shown : TextsAreShown
texts_are_shown sh ts x show ms can are =
    let k = printed_key x in
    let end = (complete (names_in ts) (graph_of ts) k (graph_in_order ts)).1 in
    let front : Each (IsDefined sh ts) end.0 = each_front (IsDefined sh ts) end.0 (k ∷ []) (subst (Each (IsDefined sh ts)) end.1 are) in
    shown_is ts ms sh x show can (needs_known sh ts ms k can end.0 k [] end.1 front)

module _ (tables_law : TablesIgnorePlaces) (graphs_law : GraphsIgnorePlaces) where
  facts : (ts : List ModuleText) (ms : AreModules ts) → Facts ts (Can ts ms)
  facts ts ms = record {
    has = has_text ts ms;
    some = has_value ts ms;
    rule = λ sh k v c h e. rule_is ts ms sh k c h ∙ e;
    same = λ k c old v mo e s. same_for tables_law graphs_law old ts mo ms k.kind k.name c v e s;
  }

  pub making_may_stop : MakingMayStop
  making_may_stop sh new ts made k before after now can stands parts b =
      let ms = stands.modules in
      let cans : Each (Can ts ms) before = each_front (Can ts ms) before after (subst (Each (Can ts ms)) parts (walk_can ts ms k can)) in
      let r = brought ts (Can ts ms) (facts ts ms) made before
      (λ front j rest e. in_order ts k front j (rest ++ after) (parts ∙ (ap (λ ks. ks ++ after) e ∙ append_assoc front (j ∷ rest) after)))
      before [] [] sh new now refl cans (λ j e. e) stands tt b in
      record {
        are_made = r.are_made;
        stands = r.stands;
        defined = each_more (IsKnown new ts) (IsDefined new ts) before (λ n q. q.kept ∙ sym q.defined) r.known;
      }

  pub making_is_defined : MakingIsDefined
  making_is_defined sh new ts made k now can stands b = making_may_stop sh new ts made k (walk_in ts k) [] now can stands (sym (append-nil (walk_in ts k))) b
