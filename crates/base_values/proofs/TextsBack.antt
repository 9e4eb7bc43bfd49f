-- The compact text of a result that fits its module is read again as its data.
use Rattle.std.proofs.Common.{◌≡◌, ℕ, ◌<◌, ◌≤◌, ◌^◌, Bool, true, false, List, [], ◌∷◌, length, map, IsUtf8, refl, arith}
use Rattle.std.specs.Prelude.{codes}
use Rattle.std.specs.Str.{encode_utf8_all}
use Rattle.serde_json.specs.Data.{Data, string}
use Rattle.serde_json.specs.View.{items_of}
use Rattle.affine_systems.specs.declared.row.Var.{Var}
use Rattle.affine_systems.specs.declared.row.Var.TheVariants.{Cell, Exit, Phi, Aux}
use Rattle.affine_systems.specs.declared.row.Term.{Term}
use Rattle.affine_systems.specs.declared.row.Row.{Row}
use Rattle.affine_systems.specs.declared.row.System.{System}
use Rattle.affine_systems.specs.Terms.{number as number_of}
use Rattle.f77_ast.specs.declared.variable.Unit.{Unit as BlockUnit}
use Rattle.f77_ast.specs.declared.variable.Variable.{Variable}
use Rattle.f77_ast.specs.declared.variable.Variable.TheVariants.{Own, Block, Saved}
use Rattle.f77_ast.specs.declared.effect_set.EffectSet.{EffectSet}
use Rattle.f77_ast.specs.declared.results.At.{At}
use Rattle.f77_ast.specs.declared.results.Results.{Results}
use Rattle.pipsmake_rules.specs.declared.kind.Kind.{Kind}
use Rattle.pipsmake_rules.specs.declared.kind.Kind.TheVariants.{Regions, InRegions, OutRegions}
use Rattle.preconditions.specs.transformer_algebra.declared.transformer.Transformer.{Transformer}
use Rattle.region_sets.specs.declared.region.Access.{Access}
use Rattle.region_sets.specs.declared.region.Access.TheVariants.{Read, Write, In, Out}
use Rattle.region_sets.specs.declared.region.Region.{Region}
use Rattle.region_sets.specs.Written.{name_text}
use Rattle.f77_ast.specs.declared.marks.Kinds.{Kinds}
use Rattle.f77_ast.specs.declared.marks.Kinds.TheVariants.{WriteRead, ReadWrite, WriteWrite}
use Rattle.f77_ast.specs.declared.marks.Private.{Private}
use Rattle.f77_ast.specs.declared.marks.Private.TheVariants.{Yes, Name, Carried, Live}
use Rattle.f77_ast.specs.declared.marks.Reason.{Reason}
use Rattle.f77_ast.specs.declared.marks.Reason.TheVariants.{Jump, InputOutput, Step, Index, Carries}
use Rattle.f77_ast.specs.declared.marks.Mark.{Mark}
use Rattle.f77_ast.specs.declared.marks.Mark.TheVariants.{Parallel, Serial}
use Rattle.base_json.specs.Written.{list_data, number_data, text_data}
use Rattle.base_json.proofs.Back.{IsBack, AreBack, string_back, word_back, number_back, whole_back, boolean_back, no_items_back, item_back, array_back, no_members_back, member_back, object_back}
use Rattle.base_json.specs.Scopes.{ScopeTree, is_symbol, is_block, is_short_name, cells_alone, with_exits, with_phi}
use Rattle.base_json.specs.RowsWritten.{letter, flag_data, term_data, row_data, system_data}
use Rattle.base_values.specs.declared.stored.StoredValue.{StoredValue}
use Rattle.base_values.specs.declared.stored.StoredValue.TheVariants as stored
use Rattle.base_values.specs.Modules.{ModuleNames}
use Rattle.base_values.specs.Words.{access_word, answer_word}
use Rattle.base_values.specs.Naming.{Each, AreBytes, AreNames, VariableFits, VarFits, RowNames, SystemFits}
use Rattle.base_values.specs.Written.{variable_data, variables_data, effects_data, unit_data, transformer_data, pieces_data, region_data, regions_data, conflict_data, private_data, reason_data, mark_data, at_data, all_data, results_data, entry_data, stored_data}
use Rattle.base_values.specs.Fits.{EffectsFit, TransformerFits, PiecesFit, RegionFits, RegionsFit, ReasonFits, MarkFits, ResultsFit, StoredFits}
use Rattle.base_values.specs.Ranges.{IdsFit, OffsetsFit, TransformersFit, NumbersFit}
use Rattle.base_values.proofs.Options.{each_map, each_both}
use Rattle.base_values.proofs.NamesBack.{scalars_of, bytes_append, name_bytes, short_name, block_bytes, symbol_between, own_bytes}
use Rattle.fx_lists.proofs.Booleans.{and_parts}

-- ---- lists

items_back : {A : Type 0} (g : A → Data) (xs : List A) → Each (λ x. IsBack (g x)) xs → AreBack (items_of (map g xs))
items_back g [] h = no_items_back
items_back g (x ∷ xs) h = item_back h.0 (items_back g xs h.1)

pub list_is_back : {A : Type 0} (g : A → Data) (xs : List A) → Each (λ x. IsBack (g x)) xs → IsBack (list_data (map g xs))
list_is_back g xs h = array_back (items_back g xs h)

-- the list of what holds of each
each_back : {A : Type 0} (P : A → Type 0) (g : A → Data) → ((x : A) → P x → IsBack (g x)) → (xs : List A) → Each P xs → IsBack (list_data (map g xs))
each_back P g h xs k = list_is_back g xs (each_map P (λ x. IsBack (g x)) h xs k)

-- ---- texts and variables

pub text_is_back : (x : List ℕ) → AreBytes x → IsBack (text_data x)
text_is_back x h = let u : IsUtf8 (encode_utf8_all x) = (x, (scalars_of x h, refl)) in string_back (encode_utf8_all x) u

variable_bytes : (names : List (List ℕ)) (v : Variable) → AreNames names → VariableFits names v → AreBytes (name_text names v)
variable_bytes names (Own n) h e = own_bytes names n h.are e
variable_bytes names (Block b) h e = let slash : 47 < 256 = omega arith in (slash, bytes_append b (47 ∷ []) (block_bytes b e) (slash, tt))
variable_bytes names (Saved m x) h e =
    let a = and_parts (is_short_name m) (is_short_name x) e in
    let colon : 58 < 256 = omega arith in
    bytes_append m (58 ∷ x) (name_bytes m (short_name m a.0)) (colon, name_bytes x (short_name x a.1))

variable_back : (names : List (List ℕ)) → AreNames names → (v : Variable) → VariableFits names v → IsBack (variable_data names v)
variable_back names h v e = text_is_back (name_text names v) (variable_bytes names v h e)

variables_back : (names : List (List ℕ)) → AreNames names → (vs : List Variable) → Each (VariableFits names) vs → IsBack (variables_data names vs)
variables_back names h vs e = each_back (VariableFits names) (variable_data names) (variable_back names h) vs e

-- ---- systems

symbol_small : (names : List (List ℕ)) (n : ℕ) → length names < 2 ^ 32 → is_symbol names n ≡ true → n < 2 ^ 64
symbol_small names n few e = let k = symbol_between names n e in let l : n ≤ length names = k.1 in omega arith

var_small : (s : ScopeTree) (v : Var) → length s.names < 2 ^ 32 → VarFits s v → number_of v < 2 ^ 64
var_small s (Cell n) few e = symbol_small s.names n few e
var_small s (Exit n) few e = let l : n < 2 ^ 32 = e.1 in omega arith
var_small s (Phi n) few e = let l : n < 256 = e.1 in omega arith
var_small s (Aux n) few e = absurd e

letter_back : (v : Var) → IsBack (string (letter v))
letter_back (Cell n) = word_back (codes "c") refl
letter_back (Exit n) = word_back (codes "x") refl
letter_back (Phi n) = word_back (codes "p") refl
letter_back (Aux n) = word_back (codes "a") refl

flag_back : (b : Bool) → IsBack (flag_data b)
flag_back true = number_back 1 (omega arith)
flag_back false = number_back 0 (omega arith)

term_back : (s : ScopeTree) → length s.names < 2 ^ 32 → (t : Term) → VarFits s t.var → IsBack (term_data t)
term_back s few t e = array_back (item_back (letter_back t.var) (item_back (number_back (number_of t.var) (var_small s t.var few e)) (item_back (whole_back t.factor) no_items_back)))

row_back : (s : ScopeTree) → length s.names < 2 ^ 32 → (r : Row) → RowNames s r → IsBack (row_data r)
row_back s few r e =
    array_back (item_back (flag_back r.equal) (item_back (whole_back r.bound) (item_back (each_back (λ (t : Term). VarFits s t.var) term_data (term_back s few) r.terms e) no_items_back)))

system_back : (s : ScopeTree) → length s.names < 2 ^ 32 → (y : System) → SystemFits s y → IsBack (system_data y)
system_back s few y e = object_back (member_back refl (each_back (RowNames s) row_data (row_back s few) y.rows e.1) (member_back refl (boolean_back y.weak) no_members_back))

-- ---- effects

effects_back : (names : List (List ℕ)) → AreNames names → (e : EffectSet) → EffectsFit names e → IsBack (effects_data names e)
effects_back names h e k =
    object_back (member_back refl (boolean_back e.io) (member_back refl (variables_back names h e.reads k.0)
    (member_back refl (boolean_back e.stops) (member_back refl (variables_back names h e.writes k.1) no_members_back))))

-- ---- transformers

unit_back : (u : BlockUnit) → is_block u.block ≡ true → u.offset < 2 ^ 64 → IsBack (unit_data u)
unit_back u e l = array_back (item_back (text_is_back u.block (block_bytes u.block e)) (item_back (number_back u.offset l) no_items_back))

abbrev TransformerHas : List (List ℕ) → Transformer → Type 0
TransformerHas names t = TransformerFits names t × OffsetsFit t.foreign

transformer_back : (names : List (List ℕ)) → AreNames names → (t : Transformer) → TransformerHas names t → IsBack (transformer_data t)
transformer_back names h t k =
    let units = each_both (λ (u : BlockUnit). is_block u.block ≡ true) (λ (u : BlockUnit). u.offset < 2 ^ 64) (λ u. IsBack (unit_data u)) unit_back t.foreign k.0.1 k.1 in
    object_back (member_back refl (each_back (λ n. is_symbol names n ≡ true) number_data (λ n e. number_back n (symbol_small names n h.few e)) t.cells k.0.0)
    (member_back refl (list_is_back unit_data t.foreign units) (member_back refl (system_back (with_exits t.cells (cells_alone names)) h.few t.system k.0.2) no_members_back)))

-- ---- regions

access_back : (a : Access) → IsBack (string (access_word a))
access_back Read = word_back (codes "READ") refl
access_back Write = word_back (codes "WRITE") refl
access_back In = word_back (codes "IN") refl
access_back Out = word_back (codes "OUT") refl

pieces_back : (names : List (List ℕ)) → AreNames names → (ps : List System) → PiecesFit names ps → IsBack (pieces_data ps)
pieces_back names h ps e = let s = with_phi (cells_alone names) in each_back (SystemFits s) system_data (system_back s h.few) ps e.0

region_back : (names : List (List ℕ)) → AreNames names → (k : Kind) (r : Region) → RegionFits names k r → IsBack (region_data names r)
region_back names h k r e =
    object_back (member_back refl (boolean_back r.exact) (member_back refl (access_back r.kind)
    (member_back refl (variable_back names h r.variable e.0) (member_back refl (pieces_back names h r.pieces e.2) no_members_back))))

regions_back : (names : List (List ℕ)) → AreNames names → (k : Kind) (rs : List Region) → RegionsFit names k rs → IsBack (regions_data names rs)
regions_back names h k rs e = each_back (RegionFits names k) (region_data names) (region_back names h k) rs e.0

-- ---- marks

conflict_back : (k : Kinds) → IsBack (conflict_data k)
conflict_back WriteRead = word_back (codes "W-R") refl
conflict_back ReadWrite = word_back (codes "R-W") refl
conflict_back WriteWrite = word_back (codes "W-W") refl

conflicts_back : (ks : List Kinds) → Each (λ k. IsBack (conflict_data k)) ks
conflicts_back [] = tt
conflicts_back (k ∷ ks) = (conflict_back k, conflicts_back ks)

answer_back : (p : Private) → IsBack (string (answer_word p))
answer_back Yes = word_back (codes "Yes") refl
answer_back Name = word_back (codes "Name") refl
answer_back Carried = word_back (codes "Carried") refl
answer_back Live = word_back (codes "Live") refl

serial_back : (w : List ℕ) → IsBack (string w) → IsBack (list_data (string (codes "SERIAL") ∷ string w ∷ []))
serial_back w h = array_back (item_back (word_back (codes "SERIAL") refl) (item_back h no_items_back))

reason_back : (names : List (List ℕ)) → AreNames names → (r : Reason) → ReasonFits names r → IsBack (reason_data names r)
reason_back names h Jump e = serial_back (codes "Jump") (word_back (codes "Jump") refl)
reason_back names h InputOutput e = serial_back (codes "InputOutput") (word_back (codes "InputOutput") refl)
reason_back names h Step e = serial_back (codes "Step") (word_back (codes "Step") refl)
reason_back names h Index e = serial_back (codes "Index") (word_back (codes "Index") refl)
reason_back names h (Carries v ks p) e =
    array_back (item_back (word_back (codes "SERIAL") refl) (item_back (variable_back names h v e)
    (item_back (list_is_back conflict_data ks (conflicts_back ks)) (item_back (answer_back p) no_items_back))))

mark_back : (names : List (List ℕ)) → AreNames names → (m : Mark) → MarkFits names m → IsBack (mark_data names m)
mark_back names h (Parallel ns) e =
    array_back (item_back (word_back (codes "PARALLEL") refl)
    (items_back (private_data names) ns (each_map (λ n. is_symbol names n ≡ true) (λ n. IsBack (private_data names n)) (λ n k. variable_back names h (Own n) k) ns e)))
mark_back names h (Serial r) e = reason_back names h r e

-- ---- at statements

at_back : {T : Type 0} (g : T → Data) (a : At T) → a.id < 2 ^ 64 → IsBack (g a.value) → IsBack (at_data g a)
at_back g a l h = array_back (item_back (number_back a.id l) (item_back h no_items_back))

all_back : {T : Type 0} (P : T → Type 0) (g : T → Data) → ((x : T) → P x → IsBack (g x)) → (as' : List (At T)) → IdsFit as' → Each (λ (a : At T). P a.value) as' → IsBack (all_data g as')
all_back {T} P g h as' l k =
    list_is_back (at_data g) as' (each_both (λ (a : At T). a.id < 2 ^ 64) (λ (a : At T). P a.value) (λ (a : At T). IsBack (at_data g a)) (λ a i p. at_back g a i (h a.value p)) as' l k)

results_back : {T : Type 0} (P : T → Type 0) (g : T → Data) → ((x : T) → P x → IsBack (g x)) → (r : Results T) → IdsFit r.at → Each (λ (a : At T). P a.value) r.at → P r.summary → IsBack (results_data g r)
results_back P g h r l k p = object_back (member_back refl (all_back P g h r.at l k) (member_back refl (h r.summary p) no_members_back))

entry_back : (names : List (List ℕ)) → AreNames names → (r : Results System) → IdsFit r.at → Each (λ (a : At System). SystemFits (cells_alone names) a.value) r.at → SystemFits (cells_alone names) r.summary
    → IsBack (entry_data r)
entry_back names h r l k p =
    object_back (member_back refl (all_back (SystemFits (cells_alone names)) system_data (system_back (cells_alone names) h.few) r.at l k) (member_back refl (system_back (cells_alone names) h.few r.summary p) no_members_back))

transformers_have : (names : List (List ℕ)) (as' : List (At Transformer)) → Each (λ (a : At Transformer). TransformerFits names a.value) as' → TransformersFit as' → Each (λ (a : At Transformer). TransformerHas names a.value) as'
transformers_have names [] h k = tt
transformers_have names (a ∷ as') h k = ((h.0, k.0), transformers_have names as' h.1 k.1)

regions_results_back : (m : ModuleNames) → AreNames m.names → (k : Kind) (r : Results (List Region)) → ResultsFit (RegionsFit m.names k) m.statements r → IdsFit r.at → IsBack (results_data (regions_data m.names) r)
regions_results_back m h k r f l = results_back (RegionsFit m.names k) (regions_data m.names) (regions_back m.names h k) r l f.0.1 f.1

-- ---- a result

pub stored_back : (m : ModuleNames) (v : StoredValue) → AreNames m.names → StoredFits m v → NumbersFit v → IsBack (stored_data m.names v)
stored_back m (stored.Effects r) h f l = results_back (EffectsFit m.names) (effects_data m.names) (effects_back m.names h) r l f.0.1 f.1
stored_back m (stored.Transformers r) h f l =
    results_back (TransformerHas m.names) transformer_data (transformer_back m.names h) r l.0 (transformers_have m.names r.at f.0.1 l.1) (f.1, l.2)
stored_back m (stored.Preconditions r) h f l = entry_back m.names h r l f.0.1 f.1
stored_back m (stored.Regions r) h f l = regions_results_back m h Regions r f l
stored_back m (stored.InRegions r) h f l = regions_results_back m h InRegions r f l
stored_back m (stored.OutRegions r) h f l = regions_results_back m h OutRegions r f l
stored_back m (stored.Marks ms) h f l = all_back (MarkFits m.names) (mark_data m.names) (mark_back m.names h) ms l f.1
