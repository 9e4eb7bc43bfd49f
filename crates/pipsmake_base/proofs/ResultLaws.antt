-- The results that are saved are those that are defined.
use Rattle.std.proofs.Common.{◌≡◌, ◌⊎◌, inl, inr, ℕ, Bool, true, false, List, [], ◌∷◌, Option, Some, None, refl, sym, ap, ◌∙◌}
use Rattle.std.specs.Prelude.{option_map, option_and_then, option_to_list, if◌then◌else◌}
use Rattle.pipsmake_db.specs.pipsmake_rules.declared.kind.Kind.{Kind}
use Rattle.pipsmake_db.specs.pipsmake_rules.declared.kind.Kind.TheVariants as kind
use Rattle.pipsmake_db.specs.pipsmake_rules.Keys.{holds}
use Rattle.pipsmake_db.specs.roundtrip_programs.Laws.{TablesIgnorePlaces, GraphsIgnorePlaces}
use Rattle.pipsmake_db.specs.base_values.declared.stored.StoredValue.{StoredValue}
use Rattle.pipsmake_db.specs.base_values.declared.stored.StoredValue.TheVariants as stored
use Rattle.pipsmake_db.specs.base_values.Sizes.{kind_of}
use Rattle.base_text.specs.declared.base.StoredResult.{StoredResult}
use Rattle.call_graph.specs.CallsIn.{Each}
use Rattle.pipsmake_db.specs.pipsmake_meaning.Definitions.{results_in, definition}
use Rattle.pipsmake_db.specs.laws_database.Unverified.{IsStored}
use Rattle.pipsmake_db.specs.pipsmake_meaning.Session.{UpToDate}
use Rattle.pipsmake_db.specs.pipsmake_meaning.MemoCells.{kept_of}
use Rattle.pipsmake_db.specs.pipsmake_meaning.Texts.{ModuleText}
use Rattle.pipsmake_db.specs.pipsmake_meaning.Values.{Value, effects, transformers, preconditions, regions, ins, outs, marks}
use Rattle.loop_marker.specs.Results.{ModuleResults}
use Rattle.pipsmake_db.specs.declared.db.Db.{Db}
use Rattle.pipsmake_db.specs.Calls.{key}
use Rattle.pipsmake_db.specs.Shown.{stored_in}
use Rattle.pipsmake_db.specs.State.{State, texts_of, memo_cells_in, IsIn}
use Rattle.pipsmake_base.specs.Current.{FreshIsCurrent}
use Rattle.pipsmake_base.specs.Saved.{value_in}
use Rattle.pipsmake_base.proofs.Defined.{stored_value}
use Rattle.pipsmake_base.proofs.StoredLaws.{stored_back}
use Rattle.pipsmake_base.specs.Saving.{stored_result, kept_results, result_saved}
use Rattle.pipsmake_db.proofs.LawsDatabase.Keeping.{held}
use Rattle.fx_lists.proofs.Options.{some_is}

-- ---- a value of a stored kind

-- as it is stored
record IsStoredAs (v : Value) (k : Kind) : Type 0 where
  pub value : StoredValue
  pub is : stored_in v ≡ Some value
  pub kind : kind_of value ≡ k

mapped_as : {A : Type 0} (f : A → Value) (g : A → StoredValue) (o : Option A) (v : Value) (k : Kind) → ((a : A) → stored_in (f a) ≡ Some (g a)) → ((a : A) → kind_of (g a) ≡ k) → option_map f o ≡ Some v → IsStoredAs v k
mapped_as f g None v k s h e = cc
mapped_as f g (Some a) v k s h e = let same : f a ≡ v = some_is (f a) v e in record { value = g a; is = ap stored_in (sym same) ∙ s a; kind = h a }

stored_as : (ts : List ModuleText) (k : Kind) (x : List ℕ) (v : Value) → IsStored k → definition ts k x ≡ Some v → IsStoredAs v k
stored_as ts kind.Parsed x v s e = absurd s
stored_as ts kind.Lines x v s e = absurd s
stored_as ts kind.Symbols x v s e = absurd s
stored_as ts kind.CallGraph x v s e = absurd s
stored_as ts kind.Effects x v s e = mapped_as (λ (f : ModuleResults). effects f.effects) (λ (f : ModuleResults). stored.Effects f.effects) (results_in ts x) v kind.Effects (λ a. refl) (λ a. refl) e
stored_as ts kind.Transformers x v s e = mapped_as (λ (f : ModuleResults). transformers f.transformers) (λ (f : ModuleResults). stored.Transformers f.transformers) (results_in ts x) v kind.Transformers (λ a. refl) (λ a. refl) e
stored_as ts kind.Preconditions x v s e = mapped_as (λ (f : ModuleResults). preconditions f.preconditions) (λ (f : ModuleResults). stored.Preconditions f.preconditions) (results_in ts x) v kind.Preconditions (λ a. refl) (λ a. refl) e
stored_as ts kind.Regions x v s e = mapped_as (λ (f : ModuleResults). regions f.regions) (λ (f : ModuleResults). stored.Regions f.regions) (results_in ts x) v kind.Regions (λ a. refl) (λ a. refl) e
stored_as ts kind.InRegions x v s e = mapped_as (λ (f : ModuleResults). ins f.ins) (λ (f : ModuleResults). stored.InRegions f.ins) (results_in ts x) v kind.InRegions (λ a. refl) (λ a. refl) e
stored_as ts kind.OutRegions x v s e = mapped_as (λ (f : ModuleResults). outs f.outs) (λ (f : ModuleResults). stored.OutRegions f.outs) (results_in ts x) v kind.OutRegions (λ a. refl) (λ a. refl) e
stored_as ts kind.Marks x v s e = mapped_as (λ (f : ModuleResults). marks f.marks) (λ (f : ModuleResults). stored.Marks f.marks) (results_in ts x) v kind.Marks (λ a. refl) (λ a. refl) e
stored_as ts kind.Printed x v s e = absurd s

-- ---- one result

-- a result that is fresh is saved as it is defined
pub record IsPresent (d : Db) (x : List ℕ) (k : Kind) : Type 0 where
  pub value : StoredValue
  pub fresh : holds d.fresh (key k x) ≡ true
  pub is : result_saved d x k ≡ stored_result x value ∷ []
  pub kind : kind_of value ≡ k
  pub defined : definition (texts_of d) k x ≡ Some (value_in value)

-- of another nothing is
pub record IsAbsent (d : Db) (x : List ℕ) (k : Kind) : Type 0 where
  pub stale : holds d.fresh (key k x) ≡ false
  pub is : result_saved d x k ≡ []

abbrev pub OneResult : Db → List ℕ → Kind → Type 0
OneResult d x k = IsAbsent d x k ⊎ IsPresent d x k

abbrev listed : List ℕ → Option StoredValue → List StoredResult
listed x o = option_to_list (option_map (stored_result x) o)

module _ (tables_law : TablesIgnorePlaces) (graphs_law : GraphsIgnorePlaces) (d : Db) (s : State) (i : IsIn d s) (f : FreshIsCurrent s) (x : List ℕ) (k : Kind) (is_stored : IsStored k) where
  fresh_up : holds d.fresh (key k x) ≡ true → UpToDate s.made s.texts (key k x)
  fresh_up e = held (UpToDate s.made s.texts) s.fresh (key k x) f (ap (λ ks. holds ks (key k x)) (sym i.fresh) ∙ e)

  present : holds d.fresh (key k x) ≡ true → IsPresent d x k
  present e =
      let v = stored_value tables_law graphs_law (memo_cells_in d) s.texts s.made i.stands (key k x) (fresh_up e) is_stored in
      let defined : definition (texts_of d) k x ≡ Some v.0 = ap (λ ts. definition ts k x) i.texts ∙ v.1 in
      let a : IsStoredAs v.0 k = stored_as (texts_of d) k x v.0 is_stored defined in
      let saved : result_saved d x k ≡ listed x (option_and_then stored_in (kept_of (memo_cells_in d) k x)) = ap (λ b. if b then kept_results d k x else []) e in
      record { value = a.value; fresh = e; is = saved ∙ ap (λ q. listed x (option_and_then stored_in q)) v.2 ∙ ap (listed x) a.is; kind = a.kind; defined = defined ∙ ap (λ u. Some u) (sym (stored_back v.0 a.value a.is)) }

  pub one_result : OneResult d x k
  one_result = go (holds d.fresh (key k x)) refl
    where
      go : (b : Bool) → holds d.fresh (key k x) ≡ b → OneResult d x k
      go true e = inr (present e)
      go false e = inl (record { stale = e; is = ap (λ b. if b then kept_results d k x else []) e })

-- ---- all results of a module

abbrev pub AllStored : List Kind → Type 0
AllStored ks = Each IsStored ks

pub all_results : (tables_law : TablesIgnorePlaces) (graphs_law : GraphsIgnorePlaces) (d : Db) (s : State) → IsIn d s → FreshIsCurrent s → (x : List ℕ) (ks : List Kind) → AllStored ks → Each (OneResult d x) ks
all_results tables_law graphs_law d s i f x [] h = tt
all_results tables_law graphs_law d s i f x (k ∷ ks) h = (one_result tables_law graphs_law d s i f x k h.0, all_results tables_law graphs_law d s i f x ks h.1)
