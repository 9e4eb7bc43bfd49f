-- A rule makes the same of the same kept values for texts between which its needs do not differ.
use Rattle.std.proofs.Common.{◌≡◌, ℕ, true, List, [], ◌∷◌, ◌++◌, Option, Some, None, refl, sym, ap, ◌∙◌}
use Rattle.std.specs.Prelude.{option_map, option_and_then, option_to_list, codes}
use Rattle.affine_systems.specs.declared.row.System.{System}
use Rattle.f77_ast.specs.declared.places.Places.{Places}
use Rattle.f77_ast.specs.DeclTrees.{ModuleTree}
use Rattle.f77_ast.specs.Symbols.{SymbolTree}
use Rattle.f77_ast.specs.declared.results.Results.{Results}
use Rattle.f77_meaning.specs.Modules.{symbol_names}
use Rattle.f77_printer.specs.ModuleText as printer
use Rattle.call_graph.specs.declared.graph.Graph.{Graph}
use Rattle.preconditions.specs.transformer_algebra.declared.transformer.Transformer.{Transformer}
use Rattle.in_out_regions.specs.region_sets.declared.region.Region.{Region}
use Rattle.loop_marker.specs.module_phases.ScalarPhases.{scope_of}
use Rattle.loop_marker.specs.Known.{knowledge_of}
use Rattle.loop_marker.specs.Marks.{marks_of}
use Rattle.call_graph.specs.CallsIn.{Each}
use Rattle.result_lines.specs.Lines.{lines_of}
use Rattle.result_lines.specs.declared.show.Show.TheVariants.{All}
use Rattle.loop_marker.specs.module_phases.Rules.{effects_from, transformers_from, preconditions_from, regions_from, ins_from, outs_from}
use Rattle.session_texts.specs.pipsmake_rules.declared.kind.Kind.{Kind}
use Rattle.session_texts.specs.pipsmake_rules.declared.kind.Kind.TheVariants as kind
use Rattle.session_texts.specs.pipsmake_rules.declared.key.Key.{Key}
use Rattle.session_texts.specs.pipsmake_rules.Keys.{key_of}
use Rattle.session_texts.specs.pipsmake_rules.Needs.{by_module}
use Rattle.session_texts.specs.pipsmake_rules.Neighbours.{has_name, callees_of, callers_of}
use Rattle.session_texts.specs.pipsmake_meaning.Values.{Value, parsed, lines, symbols, graph, effects, transformers, preconditions, regions, ins, outs, marks, printed}
use Rattle.session_texts.specs.pipsmake_meaning.Texts.{ModuleText, ReadModule, AreModules, names_in, graph_or_none, graph_of}
use Rattle.session_texts.specs.pipsmake_meaning.Definitions.{module_named, graph_found}
use Rattle.session_texts.specs.pipsmake_meaning.Session.{needs_in, SameValue}
use Rattle.session_texts.specs.pipsmake_meaning.MemoCells.{MemoCells}
use Rattle.session_texts.specs.pipsmake_meaning.Rules.{known, effects_kept, transformers_kept, preconditions_kept, regions_kept, ins_kept, outs_kept, marks_kept, callee_with, callees_with, holding_with, holding_callers, outs_with, later_callers, rule_of, rule_with, rule_for}
use Rattle.laws_database.specs.Laws.{AreLinked}
use Rattle.laws_database.proofs.Modules.{read_at}
use Rattle.laws_database.proofs.Called.{second_of, third_of, fourth_of, skip_none}
use Rattle.call_graph.proofs.EachLaws.{each_more}

-- ---- what values tell

tree_is : (a b : ModuleTree) → Some (parsed a) ≡ Some (parsed b) → a ≡ b
tree_is a b e = cc

places_are : (a b : Places) → Some (lines a) ≡ Some (lines b) → a ≡ b
places_are a b e = cc

table_is : (a b : List SymbolTree) → Some (symbols a) ≡ Some (symbols b) → a ≡ b
table_is a b e = cc

pub graph_is : (a b : Graph) → Some (graph a) ≡ Some (graph b) → a ≡ b
graph_is a b e = cc

pub read_is : (a b : ReadModule) → Some a ≡ Some b → a ≡ b
read_is a b e = cc

same_callee : {T : Type 0} (y : List ℕ) (o p : Option ReadModule) (r : Option (Results T)) → option_map (λ (m : ReadModule). symbols m.table) o ≡ option_map (λ (m : ReadModule). symbols m.table) p → callee_with y o r ≡ callee_with y p r
same_callee y None None r e = refl
same_callee y None (Some m) r e = cc
same_callee y (Some m) None r e = cc
same_callee y (Some m) (Some d) None e = refl
same_callee y (Some m) (Some d) (Some r) e = let t = table_is m.table d.table e in λ i. Some (record { name = y; symbols = t i; summary = r.summary })

abbrev tree_in : Option ReadModule → Option Value
tree_in o = option_map (λ (m : ReadModule). parsed m.module_is.module_read) o

abbrev table_in : Option ReadModule → Option Value
table_in o = option_map (λ (m : ReadModule). symbols m.table) o

same_known : (m d : ReadModule) → Some (parsed m.module_is.module_read) ≡ Some (parsed d.module_is.module_read) → Some (symbols m.table) ≡ Some (symbols d.table) → known m ≡ known d
same_known m d e f = let p = tree_is m.module_is.module_read d.module_is.module_read e in let t = table_is m.table d.table f in λ i. record { read = p i; symbols = t i }

same_holding : (o p : Option ReadModule) (r : Option (Results System)) → tree_in o ≡ tree_in p → table_in o ≡ table_in p → holding_with o r ≡ holding_with p r
same_holding None None r e f = refl
same_holding None (Some m) r e f = cc
same_holding (Some m) None r e f = cc
same_holding (Some m) (Some d) None e f = refl
same_holding (Some m) (Some d) (Some r) e f = let k = same_known m d e f in λ i. Some (record { known = k i; holds = r.at })

same_later : (o p : Option ReadModule) (own : Option (Results Transformer)) (r : Option (Results (List Region))) → tree_in o ≡ tree_in p → table_in o ≡ table_in p → outs_with o own r ≡ outs_with p own r
same_later None None own r e f = refl
same_later None (Some m) own r e f = cc
same_later (Some m) None own r e f = cc
same_later (Some m) (Some d) None r e f = refl
same_later (Some m) (Some d) (Some own) None e f = refl
same_later (Some m) (Some d) (Some own) (Some r) e f = let k = same_known m d e f in λ i. Some (record { known = k i; own = own; outs = r.at })

-- ---- other modules

module _ (old ts : List ModuleText) where
  abbrev Same : Key → Type 0
  Same = SameValue old ts

  same_callees : {T : Type 0} (kept : List ℕ → Option (Results T)) (ys : List (List ℕ)) → Each (λ y. Same (key_of kind.Symbols y)) ys → callees_with kept old ys ≡ callees_with kept ts ys
  same_callees kept [] h = refl
  same_callees kept (y ∷ ys) h = λ i. option_to_list (same_callee y (module_named old y) (module_named ts y) (kept y) h.0 i) ++ same_callees kept ys h.1 i

  same_holders : (sh : MemoCells) (ys : List (List ℕ)) → Each (λ y. Same (key_of kind.Parsed y) × Same (key_of kind.Symbols y)) ys → holding_callers sh old ys ≡ holding_callers sh ts ys
  same_holders sh [] h = refl
  same_holders sh (y ∷ ys) h = λ i. option_to_list (same_holding (module_named old y) (module_named ts y) (preconditions_kept sh y) h.0.0 h.0.1 i) ++ same_holders sh ys h.1 i

  same_laters : (sh : MemoCells) (ys : List (List ℕ)) → Each (λ y. Same (key_of kind.Parsed y) × Same (key_of kind.Symbols y)) ys → later_callers sh old ys ≡ later_callers sh ts ys
  same_laters sh [] h = refl
  same_laters sh (y ∷ ys) h = λ i. option_to_list (same_later (module_named old y) (module_named ts y) (transformers_kept sh y) (outs_kept sh y) h.0.0 h.0.1 i) ++ same_laters sh ys h.1 i

  module _ (mo : AreModules old) (ms : AreModules ts) (sh : MemoCells) (x : List ℕ) (no : has_name (names_in old) x ≡ true) (n : has_name (names_in ts) x ≡ true) where
    abbrev m : ReadModule
    m = (read_at old mo x no).read

    abbrev d : ReadModule
    d = (read_at ts ms x n).read

    pub from_old : module_named old x ≡ Some (read_at old mo x no).read
    from_old = (read_at old mo x no).is_read

    pub from_new : module_named ts x ≡ Some (read_at ts ms x n).read
    from_new = (read_at ts ms x n).is_read

    pub rule_same : (k : Kind) → rule_of sh old k x (read_at old mo x no).read ≡ rule_of sh ts k x (read_at ts ms x n).read → rule_with sh old k x (module_named old x) ≡ rule_with sh ts k x (module_named ts x)
    rule_same k e = ap (rule_with sh old k x) from_old ∙ (e ∙ sym (ap (rule_with sh ts k x) from_new))

    pub tree_same : Same (record { kind = kind.Parsed; name = x }) → (read_at old mo x no).read.module_is.module_read ≡ (read_at ts ms x n).read.module_is.module_read
    tree_same s = tree_is m.module_is.module_read d.module_is.module_read (sym (ap tree_in from_old) ∙ (s ∙ ap tree_in from_new))

    pub known_same : Same (record { kind = kind.Parsed; name = x }) → Same (record { kind = kind.Symbols; name = x }) → known (read_at old mo x no).read ≡ known (read_at ts ms x n).read
    known_same p s = same_known m d (sym (ap tree_in from_old) ∙ (p ∙ ap tree_in from_new)) (sym (ap table_in from_old) ∙ (s ∙ ap table_in from_new))

    places_same : Same (record { kind = kind.Lines; name = x }) → (read_at old mo x no).read.module_is.places ≡ (read_at ts ms x n).read.module_is.places
    places_same s =
        let at : Option ReadModule → Option Value = option_map (λ (z : ReadModule). lines z.module_is.places) in
        places_are m.module_is.places d.module_is.places (sym (ap at from_old) ∙ (s ∙ ap at from_new))

    module _ (lo : AreLinked old) (l : AreLinked ts) where
      graph_same : Same (record { kind = kind.CallGraph; name = codes "*" }) → graph_of old ≡ graph_of ts
      graph_same s =
          let e : lo.0 ≡ l.0 = graph_is lo.0 l.0 (sym (ap graph_found lo.1) ∙ (s ∙ ap graph_found l.1)) in
          ap graph_or_none lo.1 ∙ (e ∙ sym (ap graph_or_none l.1))

      below : {T : Type 0} (kept : List ℕ → Option (Results T)) (k : Kind) (rest : List Key) → graph_of old ≡ graph_of ts → Each Same (by_module (kind.Symbols ∷ k ∷ []) (callees_of (graph_of ts) x) ++ rest) →
          callees_with kept old (callees_of (graph_of old) x) ≡ callees_with kept ts (callees_of (graph_of ts) x)
      below kept k rest gr h =
          ap (λ g. callees_with kept old (callees_of g x)) gr
          ∙ same_callees kept (callees_of (graph_of ts) x)
          (each_more (λ y. Same (key_of kind.Symbols y) × Same (key_of k y)) (λ y. Same (key_of kind.Symbols y)) (callees_of (graph_of ts) x) (λ y q. q.0) (second_of Same kind.Symbols k (callees_of (graph_of ts) x) rest h))

      abbrev none : List Key
      none = by_module [] (callers_of (graph_of ts) x)

      pub effects_same : Each Same (needs_in ts (record { kind = kind.Effects; name = x })) → rule_for sh old kind.Effects x ≡ rule_for sh ts kind.Effects x
      effects_same h =
          let gr = graph_same h.1.1.0 in let kn = known_same h.0 h.1.0 in
          let cs = below (effects_kept sh) kind.Effects none gr h.1.1.1 in
          rule_same kind.Effects (λ i. Some (effects (effects_from (kn i) (cs i))))

      pub transformers_same : Each Same (needs_in ts (record { kind = kind.Transformers; name = x })) → rule_for sh old kind.Transformers x ≡ rule_for sh ts kind.Transformers x
      transformers_same h =
          let gr = graph_same h.1.1.0 in let kn = known_same h.0 h.1.0 in
          let cs = below (transformers_kept sh) kind.Transformers none gr h.1.1.1.1 in
          rule_same kind.Transformers (λ i. Some (transformers (transformers_from (gr i).untracked (kn i) (cs i))))

      pub preconditions_same : Each Same (needs_in ts (record { kind = kind.Preconditions; name = x })) → rule_for sh old kind.Preconditions x ≡ rule_for sh ts kind.Preconditions x
      preconditions_same h =
          let gr = graph_same h.1.1.0 in let kn = known_same h.0 h.1.0 in
          let ys = callers_of (graph_of ts) x in
          let q = third_of Same kind.Parsed kind.Symbols kind.Preconditions ys (skip_none Same (callees_of (graph_of ts) x) (by_module (kind.Parsed ∷ kind.Symbols ∷ kind.Preconditions ∷ []) ys) h.1.1.1.1) in
          let pairs = each_more (λ y. Same (key_of kind.Parsed y) × Same (key_of kind.Symbols y) × Same (key_of kind.Preconditions y)) (λ y. Same (key_of kind.Parsed y) × Same (key_of kind.Symbols y)) ys (λ y z. (z.0, z.1)) q in
          let cs : holding_callers sh old (callers_of (graph_of old) x) ≡ holding_callers sh ts (callers_of (graph_of ts) x) = ap (λ g. holding_callers sh old (callers_of g x)) gr ∙ same_holders sh ys pairs in
          rule_same kind.Preconditions (λ i. option_map (λ own. preconditions (preconditions_from (gr i).untracked (kn i) own (cs i))) (transformers_kept sh x))

      pub regions_same : Each Same (needs_in ts (record { kind = kind.Regions; name = x })) → rule_for sh old kind.Regions x ≡ rule_for sh ts kind.Regions x
      regions_same h =
          let gr = graph_same h.1.1.0 in let kn = known_same h.0 h.1.0 in
          let cs = below (regions_kept sh) kind.Regions none gr h.1.1.1.1 in
          rule_same kind.Regions (λ i. option_map (λ own. regions (regions_from (gr i).untracked (kn i) own (cs i))) (transformers_kept sh x))

      pub ins_same : Each Same (needs_in ts (record { kind = kind.InRegions; name = x })) → rule_for sh old kind.InRegions x ≡ rule_for sh ts kind.InRegions x
      ins_same h =
          let gr = graph_same h.1.1.0 in let kn = known_same h.0 h.1.0 in
          let cs = below (ins_kept sh) kind.InRegions none gr h.1.1.1.1.1 in
          rule_same kind.InRegions (λ i. option_and_then (λ own. option_map (λ found. ins (ins_from (gr i).untracked (kn i) own found (cs i))) (regions_kept sh x)) (transformers_kept sh x))

      pub outs_same : Each Same (needs_in ts (record { kind = kind.OutRegions; name = x })) → rule_for sh old kind.OutRegions x ≡ rule_for sh ts kind.OutRegions x
      outs_same h =
          let gr = graph_same h.1.1.0 in let kn = known_same h.0 h.1.0 in
          let ys = callers_of (graph_of ts) x in
          let q = fourth_of Same kind.Parsed kind.Symbols kind.Transformers kind.OutRegions ys
          (skip_none Same (callees_of (graph_of ts) x) (by_module (kind.Parsed ∷ kind.Symbols ∷ kind.Transformers ∷ kind.OutRegions ∷ []) ys) h.1.1.1.1.1.1) in
          let pairs = each_more (λ y. Same (key_of kind.Parsed y) × Same (key_of kind.Symbols y) × Same (key_of kind.Transformers y) × Same (key_of kind.OutRegions y)) (λ y. Same (key_of kind.Parsed y) × Same (key_of kind.Symbols y)) ys
          (λ y z. (z.0, z.1)) q in
          let cs : later_callers sh old (callers_of (graph_of old) x) ≡ later_callers sh ts (callers_of (graph_of ts) x) = ap (λ g. later_callers sh old (callers_of g x)) gr ∙ same_laters sh ys pairs in
          rule_same kind.OutRegions (λ i. option_and_then (λ own. option_and_then (λ found. option_map (λ taken. outs (outs_from (gr i) (kn i) own found taken (cs i))) (ins_kept sh x)) (regions_kept sh x)) (transformers_kept sh x))

      pub marks_same : Each Same (needs_in ts (record { kind = kind.Marks; name = x })) → rule_for sh old kind.Marks x ≡ rule_for sh ts kind.Marks x
      marks_same h =
          let gr = graph_same h.1.1.0 in let kn = known_same h.0 h.1.0 in
          rule_same kind.Marks (λ i. option_and_then (λ e. option_and_then (λ own. option_and_then (λ holds. option_and_then (λ found. option_and_then (λ taken. option_map (λ after.
          marks (marks_of (knowledge_of (kn i).read (kn i).symbols (symbol_names (kn i).symbols) (scope_of (gr i).untracked (kn i)) e.at own.at holds.at found.at taken.at after.at)))
          (outs_kept sh x)) (ins_kept sh x)) (regions_kept sh x)) (preconditions_kept sh x)) (transformers_kept sh x)) (effects_kept sh x))

      pub printed_same : Each Same (needs_in ts (record { kind = kind.Printed; name = x })) → rule_for sh old kind.Printed x ≡ rule_for sh ts kind.Printed x
      printed_same h =
          let tr = tree_same h.0 in let pl = places_same h.1.0 in let kn = known_same h.0 h.1.1.0 in
          rule_same kind.Printed (λ i. option_and_then (λ own. option_and_then (λ holds. option_and_then (λ found. option_and_then (λ taken. option_and_then (λ after. option_map (λ all.
          printed (printer.module_text (pl i) (tr i) (lines_of All (kn i) (record { transformers = own; preconditions = holds; regions = found; ins = taken; outs = after; marks = all }))))
          (marks_kept sh x)) (outs_kept sh x)) (ins_kept sh x)) (regions_kept sh x)) (preconditions_kept sh x)) (transformers_kept sh x))
