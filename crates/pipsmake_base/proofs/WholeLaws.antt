-- The results of a whole base, whatever they are, are rested on.
use Rattle.std.proofs.Common.{◌≡◌, inr, ℕ, Bool, true, false, List, [], ◌∷◌, ◌++◌, map, Option, Some, None, refl, sym, ap, ◌∙◌, subst}
use Rattle.std.specs.Prelude.{not, is_some, option_and_then, IfSome}
use Rattle.std.specs.List.{list_all}
use Rattle.std.proofs.lemmas.Bool.{and_parts}
use Rattle.affine_systems.specs.declared.row.System.{System}
use Rattle.f77_ast.specs.declared.results.At.{At}
use Rattle.f77_ast.specs.declared.results.Results.{Results}
use Rattle.loop_marker.specs.transformer_algebra.declared.transformer.Transformer.{Transformer}
use Rattle.loop_marker.specs.region_sets.declared.region.Region.{Region}
use Rattle.f77_ast.specs.declared.marks.Mark.{Mark}
use Rattle.pipsmake_db.specs.result_lines.Lines.{PrintedResults}
use Rattle.pipsmake_db.specs.pipsmake_rules.declared.kind.Kind.{Kind}
use Rattle.pipsmake_db.specs.pipsmake_rules.declared.kind.Kind.TheVariants as kind
use Rattle.pipsmake_db.specs.pipsmake_rules.declared.key.Key.{Key}
use Rattle.pipsmake_db.specs.pipsmake_rules.Kinds.{same_kind}
use Rattle.pipsmake_db.specs.pipsmake_rules.Keys.{key_of, holds}
use Rattle.pipsmake_db.specs.pipsmake_rules.Neighbours.{has_name, callees_of, callers_of}
use Rattle.pipsmake_db.specs.pipsmake_rules.Table.{own_needs, program_needs, callee_needs, caller_needs}
use Rattle.pipsmake_db.specs.pipsmake_rules.Needs.{keys_of, by_module, by_kind}
use Rattle.pipsmake_db.specs.base_values.declared.stored.StoredValue.{StoredValue}
use Rattle.pipsmake_db.specs.base_values.declared.stored.StoredValue.TheVariants as stored
use Rattle.pipsmake_db.specs.base_values.Naming.{Each as EachStored}
use Rattle.pipsmake_db.specs.base_values.Sizes.{kind_of}
use Rattle.base_text.specs.declared.base.Base.{Base}
use Rattle.base_text.specs.declared.base.StoredResult.{StoredResult}
use Rattle.base_text.specs.Order.{are_in_order}
use Rattle.call_graph.specs.CallsIn.{Each}
use Rattle.pipsmake_db.specs.pipsmake_meaning.Texts.{ModuleText, AreModules, names_in, graph_of}
use Rattle.pipsmake_db.specs.pipsmake_meaning.Definitions.{definition}
use Rattle.pipsmake_db.specs.pipsmake_meaning.Session.{needs_in, none_made}
use Rattle.pipsmake_db.specs.pipsmake_meaning.MemoCells.{MemoCells, Kept}
use Rattle.pipsmake_db.specs.pipsmake_meaning.Rules.{transformers_in, preconditions_in, regions_in, ins_in, outs_in, marks_in, results_from}
use Rattle.pipsmake_db.specs.laws_database.Stands.{text_needed, AreStamps, StandsFor, Valuation, needed_with, HasValue, KeepsValues}
use Rattle.pipsmake_db.specs.laws_database.Unverified.{IsStored, stored_results, value_with, IsWhole, RestsOn}
use Rattle.pipsmake_db.specs.pipsmake_meaning.Values.{Value, result}
use Rattle.pipsmake_db.specs.declared.db.Db.{Db}
use Rattle.pipsmake_db.specs.Calls.{key, Rests}
use Rattle.pipsmake_db.specs.State.{texts_of, memo_cells_in}
use Rattle.pipsmake_base.specs.Saved.{texts_in, key_at, keys_in, value_in}
use Rattle.pipsmake_base.specs.Whole.{value_among, values_in, IsCompleteBase}
use Rattle.pipsmake_base.specs.Taken.{IsGivenAt, OthersDefined, Taken, SeesResults, IsStoredKey, need_at, KeepsAll}
use Rattle.pipsmake_base.proofs.LoadLaws.{keys_are_stored}
use Rattle.pipsmake_base.proofs.Ordered.{all_found, none_found, some_found}
use Rattle.pipsmake_base.proofs.StoredCan.{stored_can}
use Rattle.fx_lists.proofs.Booleans.{no_both as clash}
use Rattle.pipsmake_db.proofs.LawsDatabase.Keeping.{held}
use Rattle.call_graph.proofs.EachLaws.{each_joined}

-- ---- what is stored where it is stored, and else what is defined

abbrev given : List ModuleText → Valuation → Valuation
given ts st kind.Parsed x = definition ts kind.Parsed x
given ts st kind.Lines x = definition ts kind.Lines x
given ts st kind.Symbols x = definition ts kind.Symbols x
given ts st kind.CallGraph x = definition ts kind.CallGraph x
given ts st kind.Effects x = st kind.Effects x
given ts st kind.Transformers x = st kind.Transformers x
given ts st kind.Preconditions x = st kind.Preconditions x
given ts st kind.Regions x = st kind.Regions x
given ts st kind.InRegions x = st kind.InRegions x
given ts st kind.OutRegions x = st kind.OutRegions x
given ts st kind.Marks x = st kind.Marks x
given ts st kind.Printed x = definition ts kind.Printed x

given_at : (ts : List ModuleText) (st : Valuation) (v : StoredValue) (x : List ℕ) → given ts st (kind_of v) x ≡ st (kind_of v) x
given_at ts st (stored.Effects r) x = refl
given_at ts st (stored.Transformers r) x = refl
given_at ts st (stored.Preconditions r) x = refl
given_at ts st (stored.Regions r) x = refl
given_at ts st (stored.InRegions r) x = refl
given_at ts st (stored.OutRegions r) x = refl
given_at ts st (stored.Marks r) x = refl

all_given : (ts : List ModuleText) (st : Valuation) (rs : List StoredResult) → EachStored (λ (r : StoredResult). st (kind_of r.value) r.name ≡ Some (value_in r.value)) rs → EachStored (IsGivenAt (given ts st)) rs
all_given ts st [] h = tt
all_given ts st (r ∷ rs) h = (given_at ts st r.value r.name ∙ h.0, all_given ts st rs h.1)

-- ---- what a whole base does not hold has no value

module _ (b : Base) (ms : AreModules (texts_in b)) (whole : IsCompleteBase b) where
  none_defined : (k : Kind) (x : List ℕ) → IsStored k → holds (keys_in b) (key k x) ≡ false → definition (texts_in b) k x ≡ None
  none_defined k x s e = go (definition (texts_in b) k x) refl
    where
      go : (o : Option Value) → definition (texts_in b) k x ≡ o → o ≡ None
      go None d = refl
      go (Some v) d = absurd (clash (holds (keys_in b) (key k x)) (whole.all k x s (stored_can (texts_in b) ms k x v s d).1) e)

  same_none : (k : Kind) (x : List ℕ) → IsStored k → holds (keys_in b) (key k x) ≡ false → values_in b k x ≡ definition (texts_in b) k x
  same_none k x s e = none_found b.results k x e ∙ sym (none_defined k x s e)

  other_defined : (k : Kind) (x : List ℕ) → holds (keys_in b) (key k x) ≡ false → given (texts_in b) (values_in b) k x ≡ definition (texts_in b) k x
  other_defined kind.Parsed x e = refl
  other_defined kind.Lines x e = refl
  other_defined kind.Symbols x e = refl
  other_defined kind.CallGraph x e = refl
  other_defined kind.Effects x e = same_none kind.Effects x tt e
  other_defined kind.Transformers x e = same_none kind.Transformers x tt e
  other_defined kind.Preconditions x e = same_none kind.Preconditions x tt e
  other_defined kind.Regions x e = same_none kind.Regions x tt e
  other_defined kind.InRegions x e = same_none kind.InRegions x tt e
  other_defined kind.OutRegions x e = same_none kind.OutRegions x tt e
  other_defined kind.Marks x e = same_none kind.Marks x tt e
  other_defined kind.Printed x e = refl

  others_defined : OthersDefined (texts_in b) (given (texts_in b) (values_in b)) (keys_in b)
  others_defined k e = other_defined k.kind k.name e

-- ---- written texts are needed by nothing

abbrev is_needed : Kind → Bool
is_needed k = not (same_kind k kind.Printed)

abbrev NeededKey : Key → Type 0
NeededKey n = is_needed n.kind ≡ true

own_needed : (k : Kind) → list_all is_needed (own_needs k) ≡ true
own_needed kind.Parsed = refl
own_needed k = refl

program_needed : (k : Kind) → list_all is_needed (program_needs k) ≡ true
program_needed kind.Parsed = refl
program_needed k = refl

callee_needed : (k : Kind) → list_all is_needed (callee_needs k) ≡ true
callee_needed kind.Parsed = refl
callee_needed k = refl

caller_needed : (k : Kind) → list_all is_needed (caller_needs k) ≡ true
caller_needed kind.Parsed = refl
caller_needed k = refl

keys_needed : (ks : List Kind) (x : List ℕ) → list_all is_needed ks ≡ true → Each NeededKey (keys_of ks x)
keys_needed [] x e = tt
keys_needed (k ∷ ks) x e = let p = and_parts (is_needed k) (list_all is_needed ks) e in (p.0, keys_needed ks x p.1)

of_kind_needed : (k : Kind) (xs : List (List ℕ)) → is_needed k ≡ true → Each NeededKey (map (λ x. key_of k x) xs)
of_kind_needed k [] e = tt
of_kind_needed k (x ∷ xs) e = (e, of_kind_needed k xs e)

by_kind_needed : (ks : List Kind) (xs : List (List ℕ)) → list_all is_needed ks ≡ true → Each NeededKey (by_kind ks xs)
by_kind_needed [] xs e = tt
by_kind_needed (k ∷ ks) xs e =
    let p = and_parts (is_needed k) (list_all is_needed ks) e in
    each_joined NeededKey (map (λ x. key_of k x) xs) (by_kind ks xs) (of_kind_needed k xs p.0) (by_kind_needed ks xs p.1)

by_module_needed : (ks : List Kind) (xs : List (List ℕ)) → list_all is_needed ks ≡ true → Each NeededKey (by_module ks xs)
by_module_needed ks [] e = tt
by_module_needed ks (x ∷ xs) e = each_joined NeededKey (keys_of ks x) (by_module ks xs) (keys_needed ks x e) (by_module_needed ks xs e)

all_needed : (ts : List ModuleText) (k : Key) → Each NeededKey (needs_in ts k)
all_needed ts k =
    let own : List Key = keys_of (own_needs k.kind) k.name in
    let program : List Key = by_kind (program_needs k.kind) (names_in ts) in
    let callees : List Key = by_module (callee_needs k.kind) (callees_of (graph_of ts) k.name) in
    let callers : List Key = by_module (caller_needs k.kind) (callers_of (graph_of ts) k.name) in
    each_joined NeededKey ((own ++ program) ++ callees) callers
    (each_joined NeededKey (own ++ program) callees
    (each_joined NeededKey own program (keys_needed (own_needs k.kind) k.name (own_needed k.kind)) (by_kind_needed (program_needs k.kind) (names_in ts) (program_needed k.kind)))
    (by_module_needed (callee_needs k.kind) (callees_of (graph_of ts) k.name) (callee_needed k.kind)))
    (by_module_needed (caller_needs k.kind) (callers_of (graph_of ts) k.name) (caller_needed k.kind))

-- ---- so what is kept is kept with what was stored

given_is : (ts : List ModuleText) (st : Valuation) (k : Kind) (x : List ℕ) → is_needed k ≡ true → given ts st k x ≡ value_with ts st k x
given_is ts st kind.Printed x e = cc
given_is ts st k x e = refl

stored_is_needed : (k : Kind) → IsStored k → is_needed k ≡ true
stored_is_needed kind.Printed s = absurd s
stored_is_needed k s = refl

needs_are : (ts : List ModuleText) (st : Valuation) (ns : List Key) → Each NeededKey ns → map (need_at (given ts st)) ns ≡ map (need_at (value_with ts st)) ns
needs_are ts st [] h = refl
needs_are ts st (n ∷ ns) h = λ i. record { item = result n.kind; name = n.name; value = given_is ts st n.kind n.name h.0 i } ∷ needs_are ts st ns h.1 i

needed_is : (ts : List ModuleText) (st : Valuation) (k : Key) → needed_with ts (given ts st) k ≡ needed_with ts (value_with ts st) k
needed_is ts st k = ap (λ ns. text_needed ts k.kind k.name ++ ns) (needs_are ts st (needs_in ts k) (all_needed ts k))

is_there : (o : Option Kept) → is_some o ≡ true → (kept : Kept) × (o ≡ Some kept)
is_there None e = cc
is_there (Some kept) e = (kept, refl)

module _ (sh : MemoCells) (ts : List ModuleText) (st : Valuation) (seen ks : List Key) (taken : Taken sh ts (given ts st) seen ks) where
  kept_as : Each IsStoredKey ks → KeepsValues sh ts (value_with ts st)
  kept_as are = record {
    modules = taken.keeps.modules;
    texts = taken.keeps.texts;
    distinct = taken.keeps.distinct;
    kept = λ k x. go k x ((sh (result k) x).kept) refl (taken.keeps.kept k x);
  }
    where
      go : (k : Kind) (x : List ℕ) (o : Option Kept) → (sh (result k) x).kept ≡ o → IfSome o (λ kept. HasValue sh ts (given ts st) (key k x) kept) → IfSome o (λ kept. HasValue sh ts (value_with ts st) (key k x) kept)
      go k x None e h = tt
      go k x (Some kept) e h =
          let there : holds ks (key k x) ≡ true = sym (taken.kept_are k x) ∙ ap is_some e in
          record {
            value = h.value;
            is = sym (given_is ts st k x (stored_is_needed k (held IsStoredKey ks (key k x) are there))) ∙ h.is;
            at = h.at;
            needs = subst (AreStamps sh kept.needs) (needed_is ts st (key k x)) h.needs;
          }

  rested_on : Each IsStoredKey ks → ((k : Kind) (x : List ℕ) → IsStored k → has_name (names_in ts) x ≡ true → holds ks (key k x) ≡ true) → RestsOn sh ts (value_with ts st)
  rested_on are all = record {
    keeps = kept_as are;
    stored = λ k x s h. is_there ((sh (result k) x).kept) (taken.kept_are k x ∙ all k x s h);
  }

-- ---- a whole base has all that lines say

own_in : (v : StoredValue) → kind_of v ≡ kind.Transformers → (r : Results Transformer) × (transformers_in (value_in v) ≡ Some r)
own_in (stored.Transformers r) e = (r, refl)
own_in v e = cc

holds_in : (v : StoredValue) → kind_of v ≡ kind.Preconditions → (r : Results System) × (preconditions_in (value_in v) ≡ Some r)
holds_in (stored.Preconditions r) e = (r, refl)
holds_in v e = cc

found_in : (v : StoredValue) → kind_of v ≡ kind.Regions → (r : Results (List Region)) × (regions_in (value_in v) ≡ Some r)
found_in (stored.Regions r) e = (r, refl)
found_in v e = cc

taken_in : (v : StoredValue) → kind_of v ≡ kind.InRegions → (r : Results (List Region)) × (ins_in (value_in v) ≡ Some r)
taken_in (stored.InRegions r) e = (r, refl)
taken_in v e = cc

later_in : (v : StoredValue) → kind_of v ≡ kind.OutRegions → (r : Results (List Region)) × (outs_in (value_in v) ≡ Some r)
later_in (stored.OutRegions r) e = (r, refl)
later_in v e = cc

loops_in : (v : StoredValue) → kind_of v ≡ kind.Marks → (r : List (At Mark)) × (marks_in (value_in v) ≡ Some r)
loops_in (stored.Marks r) e = (r, refl)
loops_in v e = cc

module _ (rs : List StoredResult) (x : List ℕ) (all : (k : Kind) → IsStored k → holds (map key_at rs) (key k x) ≡ true) where
  one_in : {T : Type 0} (k : Kind) (read : Value → Option T) → IsStored k → ((v : StoredValue) → kind_of v ≡ k → (r : T) × (read (value_in v) ≡ Some r)) → (r : T) × (option_and_then read (value_among rs k x) ≡ Some r)
  one_in k read s f =
      let q = some_found rs k x (all k s) in
      let r = f q.0.value q.2 in
      (r.0, ap (option_and_then read) q.1 ∙ r.1)

  all_in : (r : PrintedResults) × (stored_results (value_among rs) x ≡ Some r)
  all_in =
      let own = one_in kind.Transformers transformers_in tt own_in in
      let holding = one_in kind.Preconditions preconditions_in tt holds_in in
      let found = one_in kind.Regions regions_in tt found_in in
      let taken = one_in kind.InRegions ins_in tt taken_in in
      let later = one_in kind.OutRegions outs_in tt later_in in
      let loops = one_in kind.Marks marks_in tt loops_in in
      (record { transformers = own.0; preconditions = holding.0; regions = found.0; ins = taken.0; outs = later.0; marks = loops.0 }, λ i. results_from (own.1 i) (holding.1 i) (found.1 i) (taken.1 i) (later.1 i) (loops.1 i))

whole_in : (b : Base) → IsCompleteBase b → IsWhole (texts_in b) (values_in b)
whole_in b whole x h = all_in b.results x (λ k s. whole.all k x s h)

-- ---- a database that goes on from a whole base

pub rests_loaded : (b : Base) (names : List (List ℕ)) (old mid : MemoCells) (d : Db) (ks : List Key) → are_in_order names b.results ≡ true → StandsFor old (texts_in b) none_made → SeesResults old b.results mid ks → KeepsAll (texts_in b) mid ks (memo_cells_in d) → texts_of d ≡ texts_in b
    → IsCompleteBase b → Rests d (values_in b)
rests_loaded b names old mid d ks ordered s sees keeps texts whole =
    let ts : List ModuleText = texts_in b in
    let st : Valuation = values_in b in
    let first : Taken mid ts (given ts st) ks [] = sees.takes ts (given ts st) (all_given ts st b.results (all_found names b.results ordered)) (others_defined b s.modules whole) s in
    let are : Each IsStoredKey ks = subst (Each IsStoredKey) (sym sees.adds) (keys_are_stored b.results) in
    let all = keeps (inr whole.linked) (given ts st) first are in
    let all_held : (k : Kind) (x : List ℕ) → IsStored k → has_name (names_in ts) x ≡ true → holds ks (key k x) ≡ true = λ k x i h. ap (λ js. holds js (key k x)) sees.adds ∙ whole.all k x i h in
    record {
      whole = subst (λ us. IsWhole us st) (sym texts) (whole_in b whole);
      kept = subst (λ us. RestsOn (memo_cells_in d) us (value_with us st)) (sym texts) (rested_on (memo_cells_in d) ts st all.0 ks all.1 are all_held);
    }
