-- Results that fit their module are read again as they were written.
use Rattle.std.proofs.Common.{◌≡◌, ℕ, ◌<◌, ◌^◌, Bool, true, false, ◌&&◌, List, [], ◌∷◌, length, map, Option, Some, None, option_map, option_and_then, refl, ap, ap₂, ◌∙◌, sym, subst, if◌then◌else◌}
use Rattle.std.specs.Prelude.{codes, nat_eq}
use Rattle.std.proofs.lemmas.Bool.Decides.{Decides-eqb}
use Rattle.serde_json.specs.Data.{Data, string}
use Rattle.affine_systems.specs.declared.row.System.{System}
use Rattle.f77_ast.specs.declared.variable.Unit.{Unit as BlockUnit}
use Rattle.f77_ast.specs.declared.variable.Variable.{Variable}
use Rattle.f77_ast.specs.declared.variable.Variable.TheVariants.{Own, Block, Saved}
use Rattle.system_text.specs.SystemText.{name_at}
use Rattle.f77_ast.specs.declared.effect_set.EffectSet.{EffectSet}
use Rattle.f77_ast.specs.declared.results.At.{At}
use Rattle.f77_ast.specs.declared.results.Results.{Results}
use Rattle.pipsmake_rules.specs.declared.kind.Kind.{Kind}
use Rattle.pipsmake_rules.specs.declared.kind.Kind.TheVariants.{Regions, InRegions, OutRegions}
use Rattle.pipsmake_rules.specs.Kinds.{same_kind}
use Rattle.preconditions.specs.transformer_algebra.declared.transformer.Transformer.{Transformer}
use Rattle.region_sets.specs.declared.region.Access.{Access}
use Rattle.region_sets.specs.declared.region.Access.TheVariants.{Read, Write, In, Out}
use Rattle.region_sets.specs.declared.region.Region.{Region}
use Rattle.region_sets.specs.Regions.{region}
use Rattle.f77_ast.specs.declared.marks.Kinds.{Kinds}
use Rattle.f77_ast.specs.declared.marks.Kinds.TheVariants.{WriteRead, ReadWrite, WriteWrite}
use Rattle.f77_ast.specs.declared.marks.Private.{Private}
use Rattle.f77_ast.specs.declared.marks.Private.TheVariants.{Yes, Name, Carried, Live}
use Rattle.f77_ast.specs.declared.marks.Reason.{Reason}
use Rattle.f77_ast.specs.declared.marks.Reason.TheVariants.{Jump, InputOutput, Step, Index, Carries}
use Rattle.f77_ast.specs.declared.marks.Mark.{Mark}
use Rattle.f77_ast.specs.declared.marks.Mark.TheVariants.{Parallel, Serial}
use Rattle.base_json.specs.Shapes.{each_as, list_as, when, text_of}
use Rattle.base_json.specs.Written.{list_data, number_data, text_data}
use Rattle.base_json.proofs.Parts.{data-items}
use Rattle.base_json.specs.Scopes.{ScopeTree, is_symbol, is_block, cell_of, variable_of, cells_alone, with_exits, with_phi}
use Rattle.base_json.specs.Read.{system_of}
use Rattle.base_json.specs.RowsWritten.{system_data}
use Rattle.base_values.specs.declared.stored.StoredValue.{StoredValue}
use Rattle.base_values.specs.declared.stored.StoredValue.TheVariants as stored
use Rattle.base_values.specs.Modules.{ModuleNames}
use Rattle.base_values.specs.Words.{access_word, result_with, access_named, conflict_word, conflict_named, answer_word, answer_named}
use Rattle.base_values.specs.Naming.{Each, AreNames, VariableFits, SystemFits}
use Rattle.base_values.specs.Read.{effect_set, effects_of, block_unit, unit_of, transformer, transformer_of, access_of, are_few, pieces_of, region_of, are_apart, regions_of, with_number, numbers_of, conflict_of, answer_of, mark_in, mark_of, at_number, at_in, at_one, at_each, at_all, results, results_of, value_of, stored_of}
use Rattle.base_values.specs.Written.{variable_data, variables_data, effects_data, unit_data, transformer_data, pieces_data, region_data, regions_data, conflict_data, private_data, carried_data, reason_data, mark_data, at_data, all_data, results_data, entry_data, stored_data}
use Rattle.base_values.specs.Sizes.{kind_of}
use Rattle.base_values.specs.Fits.{EffectsFit, TransformerFits, PiecesFit, RegionFits, RegionsFit, ReasonFits, MarkFits, AllFit, ResultsFit, StoredFits}
use Rattle.base_values.specs.Laws.{WrittenIsRead}
use Rattle.base_values.proofs.Options.{each_map, each_to, each_back, list_back}
use Rattle.base_values.proofs.RowsBack.{when_true, cell_back, system_back}
use Rattle.base_values.proofs.NamesBack.{block_bytes, text_back, own_read_back, block_read_back, saved_read_back}
use Rattle.fx_lists.proofs.Booleans.{chosen}

-- ---- variables, effects

variable_back : (s : ScopeTree) (v : Variable) → AreNames s.names → VariableFits s.names v → variable_of s (variable_data s.names v) ≡ Some v
variable_back s (Own n) h e = own_read_back s n h e
variable_back s (Block b) h e = block_read_back s b h e
variable_back s (Saved m x) h e = saved_read_back s m x h e

variables_back : (s : ScopeTree) (vs : List Variable) → AreNames s.names → Each (VariableFits s.names) vs → list_as (variable_of s) (variables_data s.names vs) ≡ Some vs
variables_back s vs h e =
    list_back (variable_of s) (variable_data s.names) vs (each_map (VariableFits s.names) (λ v. variable_of s (variable_data s.names v) ≡ Some v) (λ v k. variable_back s v h k) vs e)

effects_back : (s : ScopeTree) (e : EffectSet) → AreNames s.names → EffectsFit s.names e → effects_of s (effects_data s.names e) ≡ Some e
effects_back s e h k =
    ap (option_and_then (λ rs. option_and_then (λ ws. option_and_then (λ io. option_map (effect_set rs ws io) (Some e.stops)) (Some e.io)) (list_as (variable_of s) (variables_data s.names e.writes)))) (variables_back s e.reads h k.0)
    ∙ ap (option_and_then (λ ws. option_and_then (λ io. option_map (effect_set e.reads ws io) (Some e.stops)) (Some e.io))) (variables_back s e.writes h k.1)

-- ---- transformers

unit_back : (u : BlockUnit) → is_block u.block ≡ true → unit_of (unit_data u) ≡ Some u
unit_back u e =
    ap (option_and_then (λ x. option_and_then (λ n. when (is_block x) (block_unit x n)) (Some u.offset))) (text_back u.block (block_bytes u.block e)) ∙ when_true (is_block u.block) u e

transformer_back : (names : List (List ℕ)) (t : Transformer) → AreNames names → TransformerFits names t → transformer_of (cells_alone names) (transformer_data t) ≡ Some t
transformer_back names t h k =
    ap (option_and_then (λ cs. option_and_then (λ us. option_map (transformer cs us) (system_of (with_exits cs (cells_alone names)) (system_data t.system))) (list_as unit_of (list_data (map unit_data t.foreign)))))
    (list_back (cell_of (cells_alone names)) number_data t.cells (each_map (λ n. is_symbol names n ≡ true) (λ n. cell_of (cells_alone names) (number_data n) ≡ Some n) (λ n e. cell_back (cells_alone names) n h.few e) t.cells k.0))
    ∙ (ap (option_and_then (λ us. option_map (transformer t.cells us) (system_of (with_exits t.cells (cells_alone names)) (system_data t.system))))
    (list_back unit_of unit_data t.foreign (each_map (λ (u : BlockUnit). is_block u.block ≡ true) (λ u. unit_of (unit_data u) ≡ Some u) unit_back t.foreign k.1))
    ∙ ap (option_map (transformer t.cells t.foreign)) (system_back (with_exits t.cells (cells_alone names)) t.system h.few k.2))

-- ---- regions

named_access : (a : Access) → access_named (access_word a) ≡ Some a
named_access Read = refl
named_access Write = refl
named_access In = refl
named_access Out = refl

access_back : (k : Kind) (a : Access) → same_kind (result_with a) k ≡ true → access_of k (string (access_word a)) ≡ Some a
access_back k a e = ap (option_and_then (λ b. when (same_kind (result_with b) k) b)) (named_access a) ∙ when_true (same_kind (result_with a) k) a e

pieces_back : (names : List (List ℕ)) (ss : List System) → AreNames names → PiecesFit names ss → pieces_of (cells_alone names) (pieces_data ss) ≡ Some ss
pieces_back names ss h f =
    let s = with_phi (cells_alone names) in
    ap (option_and_then (λ qs. when (are_few qs) qs)) (list_back (system_of s) system_data ss (each_map (SystemFits s) (λ y. system_of s (system_data y) ≡ Some y) (λ y g. system_back s y h.few g) ss f.0))
    ∙ when_true (are_few ss) ss f.1

region_back : (names : List (List ℕ)) (k : Kind) (r : Region) → AreNames names → RegionFits names k r → region_of (cells_alone names) k (region_data names r) ≡ Some r
region_back names k r h f =
    ap (option_and_then (λ a. option_and_then (λ v. option_map (region v a r.exact) (pieces_of (cells_alone names) (pieces_data r.pieces))) (variable_of (cells_alone names) (variable_data names r.variable)))) (access_back k r.kind f.1)
    ∙ (ap (option_and_then (λ v. option_map (region v r.kind r.exact) (pieces_of (cells_alone names) (pieces_data r.pieces)))) (variable_back (cells_alone names) r.variable h f.0)
    ∙ ap (option_map (region r.variable r.kind r.exact)) (pieces_back names r.pieces h f.2))

regions_back : (names : List (List ℕ)) (k : Kind) (rs : List Region) → AreNames names → RegionsFit names k rs → regions_of (cells_alone names) k (regions_data names rs) ≡ Some rs
regions_back names k rs h f =
    ap (option_and_then (λ qs. when (are_apart names qs) qs)) (list_back (region_of (cells_alone names) k) (region_data names) rs (each_map (RegionFits names k) (λ r. region_of (cells_alone names) k (region_data names r) ≡ Some r) (λ r g. region_back names k r h g) rs f.0))
    ∙ when_true (are_apart names rs) rs f.1

-- ---- marks

own_numbers : (ns : List ℕ) → numbers_of (map Own ns) ≡ Some ns
own_numbers [] = refl
own_numbers (n ∷ ns) = ap (option_map (λ ms. n ∷ ms)) (own_numbers ns)

private_back : (names : List (List ℕ)) (ns : List ℕ) → AreNames names → Each (λ n. is_symbol names n ≡ true) ns → option_and_then numbers_of (each_as (variable_of (cells_alone names)) (map (private_data names) ns)) ≡ Some ns
private_back names ns h e =
    ap (option_and_then numbers_of) (each_to (variable_of (cells_alone names)) (private_data names) Own ns
    (each_map (λ n. is_symbol names n ≡ true) (λ n. variable_of (cells_alone names) (private_data names n) ≡ Some (Own n)) (λ n k. own_read_back (cells_alone names) n h k) ns e))
    ∙ own_numbers ns

named_conflict : (k : Kinds) → conflict_of (conflict_data k) ≡ Some k
named_conflict WriteRead = refl
named_conflict ReadWrite = refl
named_conflict WriteWrite = refl

named_answer : (p : Private) → answer_of (string (answer_word p)) ≡ Some p
named_answer Yes = refl
named_answer Name = refl
named_answer Carried = refl
named_answer Live = refl

all_of : {A : Type 0} (P : A → Type 0) → ((x : A) → P x) → (xs : List A) → Each P xs
all_of P f [] = tt
all_of P f (x ∷ xs) = (f x, all_of P f xs)

carried_back : (names : List (List ℕ)) (v : Variable) (ks : List Kinds) (p : Private) → AreNames names → VariableFits names v → mark_of (cells_alone names) (carried_data names v ks p) ≡ Some (Serial (Carries v ks p))
carried_back names v ks p h e =
    ap (option_map Serial)
    (ap (option_and_then (λ w. option_and_then (λ ls. option_map (Carries w ls) (answer_of (string (answer_word p)))) (list_as conflict_of (list_data (map conflict_data ks))))) (variable_back (cells_alone names) v h e)
    ∙ (ap (option_and_then (λ ls. option_map (Carries v ls) (answer_of (string (answer_word p))))) (list_back conflict_of conflict_data ks (all_of (λ k. conflict_of (conflict_data k) ≡ Some k) named_conflict ks))
    ∙ ap (option_map (Carries v ks)) (named_answer p)))

reason_back : (names : List (List ℕ)) (r : Reason) → AreNames names → ReasonFits names r → mark_of (cells_alone names) (reason_data names r) ≡ Some (Serial r)
reason_back names Jump h e = refl
reason_back names InputOutput h e = refl
reason_back names Step h e = refl
reason_back names Index h e = refl
reason_back names (Carries v ks p) h e = carried_back names v ks p h e

mark_back : (names : List (List ℕ)) (m : Mark) → AreNames names → MarkFits names m → mark_of (cells_alone names) (mark_data names m) ≡ Some m
mark_back names (Parallel ns) h e =
    ap (λ ds. mark_in (cells_alone names) (string (codes "PARALLEL") ∷ ds)) (data-items (map (private_data names) ns)) ∙ ap (option_map Parallel) (private_back names ns h e)
mark_back names (Serial r) h e = reason_back names r h e

-- ---- at statements

at_back : {T : Type 0} (f : Data → Option T) (g : T → Data) (a : At T) → f (g a.value) ≡ Some a.value → at_one f a.id (at_data g a) ≡ Some a
at_back f g a e =
    chosen (nat_eq a.id a.id) (option_map (at_number a.id) (f (g a.value))) None ((Decides-eqb a.id a.id).1 refl) ∙ ap (option_map (at_number a.id)) e

each_at_back : (T : Type 0) (f : Data → Option T) (g : T → Data) (as' : List (At T)) → Each (λ (a : At T). f (g a.value) ≡ Some a.value) as' → at_each f (map (λ (a : At T). a.id) as') (map (at_data g) as') ≡ Some as'
each_at_back T f g [] h = refl
each_at_back T f g (a ∷ as') h =
    ap (option_and_then (λ b. option_map (λ bs. b ∷ bs) (at_each f (map (λ (c : At T). c.id) as') (map (at_data g) as')))) (at_back f g a h.0)
    ∙ ap (option_map (λ bs. a ∷ bs)) (each_at_back T f g as' h.1)

all_back : {T : Type 0} (f : Data → Option T) (g : T → Data) (P : T → Type 0) → ((x : T) → P x → f (g x) ≡ Some x) → (ns : List ℕ) (as' : List (At T)) → AllFit P ns as' → at_all f ns (all_data g as') ≡ Some as'
all_back {T} f g P h ns as' k =
    let each = each_map (λ (a : At T). P a.value) (λ (a : At T). f (g a.value) ≡ Some a.value) (λ a p. h a.value p) as' k.1 in
    subst (λ ms. at_all f ms (all_data g as') ≡ Some as') k.0 (ap (at_each f (map (λ (a : At T). a.id) as')) (data-items (map (at_data g) as')) ∙ each_at_back T f g as' each)

results_back : {T : Type 0} (f : Data → Option T) (g : T → Data) (P : T → Type 0) → ((x : T) → P x → f (g x) ≡ Some x) → (ns : List ℕ) (r : Results T) → ResultsFit P ns r → results_of f ns (codes "summary") (results_data g r) ≡ Some r
results_back f g P h ns r k =
    ap (option_and_then (λ as'. option_map (results as') (f (g r.summary)))) (all_back f g P h ns r.at k.0) ∙ ap (option_map (results r.at)) (h r.summary k.1)

entry_back : (names : List (List ℕ)) (ns : List ℕ) (r : Results System) → AreNames names → ResultsFit (SystemFits (cells_alone names)) ns r → results_of (system_of (cells_alone names)) ns (codes "entry") (entry_data r) ≡ Some r
entry_back names ns r h k =
    let back = λ (y : System) (f : SystemFits (cells_alone names) y). system_back (cells_alone names) y h.few f in
    ap (option_and_then (λ as'. option_map (results as') (system_of (cells_alone names) (system_data r.summary)))) (all_back (system_of (cells_alone names)) system_data (SystemFits (cells_alone names)) back ns r.at k.0)
    ∙ ap (option_map (results r.at)) (back r.summary k.1)

-- ---- a result

regions_all_back : (m : ModuleNames) (k : Kind) (r : Results (List Region)) → AreNames m.names → ResultsFit (RegionsFit m.names k) m.statements r →
    results_of (regions_of (cells_alone m.names) k) m.statements (codes "summary") (results_data (regions_data m.names) r) ≡ Some r
regions_all_back m k r h f =
    results_back (regions_of (cells_alone m.names) k) (regions_data m.names) (RegionsFit m.names k) (λ rs g. regions_back m.names k rs h g) m.statements r f

pub written_is_read : WrittenIsRead
written_is_read m (stored.Effects r) h f =
    ap (option_map stored.Effects) (results_back (effects_of (cells_alone m.names)) (effects_data m.names) (EffectsFit m.names) (λ e k. effects_back (cells_alone m.names) e h k) m.statements r f)
written_is_read m (stored.Transformers r) h f =
    ap (option_map stored.Transformers) (results_back (transformer_of (cells_alone m.names)) transformer_data (TransformerFits m.names) (λ t k. transformer_back m.names t h k) m.statements r f)
written_is_read m (stored.Preconditions r) h f = ap (option_map stored.Preconditions) (entry_back m.names m.statements r h f)
written_is_read m (stored.Regions r) h f = ap (option_map stored.Regions) (regions_all_back m Regions r h f)
written_is_read m (stored.InRegions r) h f = ap (option_map stored.InRegions) (regions_all_back m InRegions r h f)
written_is_read m (stored.OutRegions r) h f = ap (option_map stored.OutRegions) (regions_all_back m OutRegions r h f)
written_is_read m (stored.Marks ms) h f =
    ap (option_map stored.Marks) (all_back (mark_of (cells_alone m.names)) (mark_data m.names) (MarkFits m.names) (λ x k. mark_back m.names x h k) m.loops ms f)
