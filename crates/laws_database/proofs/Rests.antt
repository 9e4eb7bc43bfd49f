-- Stored results are kept as they are, while all others are made of them.
use Rattle.std.proofs.Common.{◌≡◌, ℕ, true, List, [], ◌∷◌, ◌++◌, Option, Some, None, refl, sym, ap, ◌∙◌, subst, append_assoc}
use Rattle.std.specs.Prelude.{option_map, option_and_then}
use Rattle.affine_systems.specs.declared.row.System.{System}
use Rattle.f77_ast.specs.declared.results.At.{At}
use Rattle.f77_ast.specs.declared.results.Results.{Results}
use Rattle.preconditions.specs.transformer_algebra.declared.transformer.Transformer.{Transformer}
use Rattle.in_out_regions.specs.region_sets.declared.region.Region.{Region}
use Rattle.f77_ast.specs.declared.marks.Mark.{Mark}
use Rattle.result_lines.specs.Lines.{PrintedResults}
use Rattle.call_graph.specs.CallsIn.{Each}
use Rattle.session_texts.specs.pipsmake_rules.declared.kind.Kind.{Kind}
use Rattle.session_texts.specs.pipsmake_rules.declared.kind.Kind.TheVariants as kind
use Rattle.session_texts.specs.pipsmake_rules.declared.key.Key.{Key}
use Rattle.session_texts.specs.pipsmake_rules.Neighbours.{has_name}
use Rattle.session_texts.specs.pipsmake_meaning.Values.{Value, parsed, lines, symbols}
use Rattle.session_texts.specs.pipsmake_meaning.Texts.{ModuleText, ReadModule, AreModules, names_in}
use Rattle.session_texts.specs.pipsmake_meaning.Definitions.{module_named}
use Rattle.session_texts.specs.pipsmake_meaning.Session.{needs_in}
use Rattle.session_texts.specs.pipsmake_meaning.MemoCells.{MemoCells, kept_of}
use Rattle.session_texts.specs.pipsmake_meaning.Rules.{transformers_in, preconditions_in, regions_in, ins_in, outs_in, marks_in, transformers_kept, preconditions_kept, regions_kept, ins_kept, outs_kept, marks_kept, rule_with, rule_for, results_from}
use Rattle.laws_database.specs.Laws.{CanMake}
use Rattle.laws_database.specs.Stands.{Valuation}
use Rattle.laws_database.specs.Unverified.{IsStored, stored_results, printed_with_results, value_with, IsWhole, RestingStays}
use Rattle.laws_database.proofs.Modules.{read_at}
use Rattle.laws_database.proofs.Needs.{Can, has_value, has_text}
use Rattle.laws_database.proofs.Unverified.{IsKept, RestFacts, rested}
use Rattle.laws_database.proofs.Whole.{each_front, walk_can, in_order}
use Rattle.call_graph.proofs.EachLaws.{each_more}

same_kept : (d : Valuation) (sh : MemoCells) (n : Key) → IsKept d sh n → kept_of sh n.kind n.name ≡ d n.kind n.name
same_kept d sh n q = q.kept ∙ sym q.is

-- a value that is made of six that are there
made_of : (f : PrintedResults → Value) (own : Option (Results Transformer)) (holds : Option (Results System)) (found taken later : Option (Results (List Region))) (ms : Option (List (At Mark))) →
    option_and_then (λ a. option_and_then (λ b. option_and_then (λ c. option_and_then (λ d. option_and_then (λ e. option_map (λ g. f (record { transformers = a; preconditions = b; regions = c; ins = d; outs = e; marks = g })) ms) later) taken) found) holds) own
    ≡ option_map f (results_from own holds found taken later ms)
made_of f None holds found taken later ms = refl
made_of f (Some a) None found taken later ms = refl
made_of f (Some a) (Some b) None taken later ms = refl
made_of f (Some a) (Some b) (Some c) None later ms = refl
made_of f (Some a) (Some b) (Some c) (Some d) None ms = refl
made_of f (Some a) (Some b) (Some c) (Some d) (Some e) None = refl
made_of f (Some a) (Some b) (Some c) (Some d) (Some e) (Some g) = refl

module _ (ts : List ModuleText) (stored : Valuation) where
  parsed_rule : (sh : MemoCells) (x : List ℕ) (o : Option ReadModule) → rule_with sh ts kind.Parsed x o ≡ option_map (λ m. parsed m.module_is.module_read) o
  parsed_rule sh x None = refl
  parsed_rule sh x (Some m) = refl

  lines_rule : (sh : MemoCells) (x : List ℕ) (o : Option ReadModule) → rule_with sh ts kind.Lines x o ≡ option_map (λ m. lines m.module_is.places) o
  lines_rule sh x None = refl
  lines_rule sh x (Some m) = refl

  symbols_rule : (sh : MemoCells) (x : List ℕ) (o : Option ReadModule) → rule_with sh ts kind.Symbols x o ≡ option_map (λ m. symbols m.table) o
  symbols_rule sh x None = refl
  symbols_rule sh x (Some m) = refl

  printed_rule : (sh : MemoCells) (x : List ℕ) → Each (IsKept (value_with ts stored) sh) (needs_in ts (record { kind = kind.Printed; name = x })) → (o : Option ReadModule) →
      rule_with sh ts kind.Printed x o ≡ option_and_then (λ m. option_map (printed_with_results m) (stored_results stored x)) o
  printed_rule sh x h None = refl
  printed_rule sh x h (Some m) =
      let own : transformers_kept sh x ≡ option_and_then transformers_in (stored kind.Transformers x) = ap (option_and_then transformers_in) (same_kept (value_with ts stored) sh (record { kind = kind.Transformers; name = x }) h.1.1.1.0) in
      let holds : preconditions_kept sh x ≡ option_and_then preconditions_in (stored kind.Preconditions x) =
      ap (option_and_then preconditions_in) (same_kept (value_with ts stored) sh (record { kind = kind.Preconditions; name = x }) h.1.1.1.1.0) in
      let found : regions_kept sh x ≡ option_and_then regions_in (stored kind.Regions x) = ap (option_and_then regions_in) (same_kept (value_with ts stored) sh (record { kind = kind.Regions; name = x }) h.1.1.1.1.1.0) in
      let taken : ins_kept sh x ≡ option_and_then ins_in (stored kind.InRegions x) = ap (option_and_then ins_in) (same_kept (value_with ts stored) sh (record { kind = kind.InRegions; name = x }) h.1.1.1.1.1.1.0) in
      let later : outs_kept sh x ≡ option_and_then outs_in (stored kind.OutRegions x) = ap (option_and_then outs_in) (same_kept (value_with ts stored) sh (record { kind = kind.OutRegions; name = x }) h.1.1.1.1.1.1.1.0) in
      let all : marks_kept sh x ≡ option_and_then marks_in (stored kind.Marks x) = ap (option_and_then marks_in) (same_kept (value_with ts stored) sh (record { kind = kind.Marks; name = x }) h.1.1.1.1.1.1.1.1.0) in
      made_of (printed_with_results m) (transformers_kept sh x) (preconditions_kept sh x) (regions_kept sh x) (ins_kept sh x) (outs_kept sh x) (marks_kept sh x)
      ∙ (λ i. option_map (printed_with_results m) (results_from (own i) (holds i) (found i) (taken i) (later i) (all i)))

  rule_for_kind : (sh : MemoCells) (k : Kind) (x : List ℕ) → (IsStored k → ⊥) → Each (IsKept (value_with ts stored) sh) (needs_in ts (record { kind = k; name = x })) → rule_for sh ts k x ≡ value_with ts stored k x
  rule_for_kind sh kind.Parsed x n h = parsed_rule sh x (module_named ts x)
  rule_for_kind sh kind.Lines x n h = lines_rule sh x (module_named ts x)
  rule_for_kind sh kind.Symbols x n h = symbols_rule sh x (module_named ts x)
  rule_for_kind sh kind.CallGraph x n h = refl
  rule_for_kind sh kind.Effects x n h = absurd (n tt)
  rule_for_kind sh kind.Transformers x n h = absurd (n tt)
  rule_for_kind sh kind.Preconditions x n h = absurd (n tt)
  rule_for_kind sh kind.Regions x n h = absurd (n tt)
  rule_for_kind sh kind.InRegions x n h = absurd (n tt)
  rule_for_kind sh kind.OutRegions x n h = absurd (n tt)
  rule_for_kind sh kind.Marks x n h = absurd (n tt)
  rule_for_kind sh kind.Printed x n h = printed_rule sh x h (module_named ts x)

  named_for : (k : Kind) (x : List ℕ) → CanMake ts k x → IsStored k → has_name (names_in ts) x ≡ true
  named_for kind.Parsed x c s = absurd s
  named_for kind.Lines x c s = absurd s
  named_for kind.Symbols x c s = absurd s
  named_for kind.CallGraph x c s = absurd s
  named_for kind.Effects x c s = c.1
  named_for kind.Transformers x c s = c.1
  named_for kind.Preconditions x c s = c.1
  named_for kind.Regions x c s = c.1
  named_for kind.InRegions x c s = c.1
  named_for kind.OutRegions x c s = c.1
  named_for kind.Marks x c s = c.1
  named_for kind.Printed x c s = absurd s

  module _ (ms : AreModules ts) (whole : IsWhole ts stored) where
    some_for : (k : Kind) (x : List ℕ) → CanMake ts k x → (IsStored k → ⊥) → (v : Value) × (value_with ts stored k x ≡ Some v)
    some_for kind.Parsed x c n = has_value ts ms (record { kind = kind.Parsed; name = x }) c
    some_for kind.Lines x c n = has_value ts ms (record { kind = kind.Lines; name = x }) c
    some_for kind.Symbols x c n = has_value ts ms (record { kind = kind.Symbols; name = x }) c
    some_for kind.CallGraph x c n = has_value ts ms (record { kind = kind.CallGraph; name = x }) c
    some_for kind.Effects x c n = absurd (n tt)
    some_for kind.Transformers x c n = absurd (n tt)
    some_for kind.Preconditions x c n = absurd (n tt)
    some_for kind.Regions x c n = absurd (n tt)
    some_for kind.InRegions x c n = absurd (n tt)
    some_for kind.OutRegions x c n = absurd (n tt)
    some_for kind.Marks x c n = absurd (n tt)
    some_for kind.Printed x c n =
        let m = read_at ts ms x c.1 in
        let r = whole x c.1 in
        (printed_with_results m.read r.0, (λ i. option_and_then (λ z. option_map (printed_with_results z) (r.1 i)) (m.is_read i)))

    pub rest_facts : RestFacts ts (value_with ts stored) (Can ts ms)
    rest_facts = record {
      has = has_text ts ms;
      named = λ k c s. named_for k.kind k.name c s;
      some = λ k c n. some_for k.kind k.name c n;
      rule = λ sh k c n h. rule_for_kind sh k.kind k.name n h;
    }

pub resting_stays : RestingStays
resting_stays sh new ts stored k before after now can whole rests parts b =
    let ms = rests.keeps.modules in
    let cans : Each (Can ts ms) before = each_front (Can ts ms) before after (subst (Each (Can ts ms)) parts (walk_can ts ms k can)) in
    let r = rested ts (value_with ts stored) (Can ts ms) (rest_facts ts stored ms whole) before
    (λ front j rest e. in_order ts k front j (rest ++ after) (parts ∙ (ap (λ ks. ks ++ after) e ∙ append_assoc front (j ∷ rest) after)))
    before [] sh new now refl cans rests tt b in
    record {
      rests = r.rests;
      none_stored = r.none_stored;
      shown = each_more (IsKept (value_with ts stored) new) (λ (n : Key). kept_of new n.kind n.name ≡ value_with ts stored n.kind n.name) before (λ n q. q.kept ∙ sym q.is) r.known;
    }
