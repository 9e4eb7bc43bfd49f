-- Results that are read and small fit their module.
use Rattle.std.proofs.Common.{◌≡◌, ℕ, ◌<◌, Bool, true, false, ◌&&◌, List, [], ◌∷◌, ◌++◌, length, map, Option, Some, None, option_map, option_and_then, refl, ap, ap₂, ◌∙◌, sym, subst, if◌then◌else◌}
use Rattle.std.specs.Prelude.{codes, nat_eq, bytes_eq}
use Rattle.std.specs.List.{list_all}
use Rattle.std.proofs.lemmas.Bool.Decides.{Decides-eqb}
use Rattle.serde_json.specs.Data.{Data}
use Rattle.serde_json.specs.Find.{get, as_bool, as_str}
use Rattle.affine_systems.specs.declared.row.System.{System}
use Rattle.f77_ast.specs.declared.variable.Unit.{Unit as BlockUnit}
use Rattle.f77_ast.specs.declared.variable.Variable.{Variable}
use Rattle.f77_ast.specs.declared.variable.Variable.TheVariants.{Own, Block, Saved}
use Rattle.f77_ast.specs.declared.effect_set.EffectSet.{EffectSet}
use Rattle.f77_ast.specs.declared.results.At.{At}
use Rattle.f77_ast.specs.declared.results.Results.{Results}
use Rattle.pipsmake_rules.specs.declared.kind.Kind.{Kind}
use Rattle.pipsmake_rules.specs.declared.kind.Kind.TheVariants.{Parsed, Lines, Symbols, CallGraph, Effects, Transformers, Preconditions, Regions, InRegions, OutRegions, Marks, Printed}
use Rattle.pipsmake_rules.specs.Kinds.{same_kind}
use Rattle.preconditions.specs.transformer_algebra.declared.transformer.Transformer.{Transformer}
use Rattle.region_sets.specs.declared.region.Access.{Access}
use Rattle.region_sets.specs.declared.region.Region.{Region}
use Rattle.region_sets.specs.Regions.{region}
use Rattle.f77_ast.specs.declared.marks.Reason.{Reason}
use Rattle.f77_ast.specs.declared.marks.Reason.TheVariants.{Jump, InputOutput, Step, Index, Carries}
use Rattle.f77_ast.specs.declared.marks.Mark.{Mark}
use Rattle.f77_ast.specs.declared.marks.Mark.TheVariants.{Parallel, Serial}
use Rattle.base_json.specs.Shapes.{list_of, has_members, pair_of, member_as, each_as, list_as, when, offset_of, text_of}
use Rattle.base_json.specs.Scopes.{ScopeTree, is_symbol, is_block, cell_of, variable_of, cells_alone, with_exits, with_phi}
use Rattle.base_json.specs.Read.{system_of, is_small_system}
use Rattle.base_values.specs.declared.stored.StoredValue.{StoredValue}
use Rattle.base_values.specs.declared.stored.StoredValue.TheVariants as stored
use Rattle.base_values.specs.Modules.{ModuleNames}
use Rattle.base_values.specs.Words.{result_with, access_named, reason_named}
use Rattle.base_values.specs.Naming.{Each, VariableFits, SystemFits}
use Rattle.base_values.specs.Read.{effect_set, effects_of, block_unit, unit_in, unit_of, transformer, transformer_of, access_of, are_few, pieces_of, region_of, are_apart, regions_of, with_number, numbers_of, conflict_of, answer_of, carried_in, reason_in, mark_by, mark_in, mark_of, at_number, is_number, at_in, at_one, at_each, at_all, results, results_of, value_of, stored_of}
use Rattle.base_values.specs.Sizes.{kind_of, is_small_transformer, is_small_region, are_small_regions, all_small, is_small_value}
use Rattle.base_values.specs.Fits.{EffectsFit, TransformerFits, PiecesFit, RegionFits, RegionsFit, ReasonFits, MarkFits, AllFit, ResultsFit, StoredFits}
use Rattle.base_values.specs.Laws.{ReadFits}
use Rattle.base_values.proofs.Options.{and_then_some, map_some, then_read, map_read, if_read, when_read, each_map, each_both, each_all, each_read, list_read}
use Rattle.base_values.proofs.RowsBack.{either_some, cell_read, system_read}
use Rattle.base_values.proofs.NamesBack.{variable_read}
use Rattle.fx_lists.proofs.Booleans.{and_parts}

-- ---- members

-- what is made of a member is made of some data
pub member_some : {T : Type 0} (f : Data → Option T) (k : List ℕ) (d : Data) (x : T) → member_as f k d ≡ Some x → (e : Data) × (f e ≡ Some x)
member_some f k d x e = let a = and_then_some f (get k d) x e in (a.0, a.2)

member_list : {T : Type 0} (f : Data → Option T) (P : T → Type 0) → ((d : Data) (x : T) → f d ≡ Some x → P x) → (k : List ℕ) (d : Data) (xs : List T) → member_as (list_as f) k d ≡ Some xs → Each P xs
member_list f P h k d xs e = let a = member_some (list_as f) k d xs e in list_read f P h a.0 xs a.1

-- a system under a key fits where it is small
member_small : (s : ScopeTree) (k : List ℕ) (d : Data) (y : System) → member_as (system_of s) k d ≡ Some y → is_small_system y ≡ true → SystemFits s y
member_small s k d y e small = then_read (SystemFits s y) (system_of s) (get k d) y e (λ x ex ey. system_read s x y ey small)

-- ---- effects

effects_read : (s : ScopeTree) (d : Data) (x : EffectSet) → effects_of s d ≡ Some x → EffectsFit s.names x
effects_read s d x e =
    if_read (EffectsFit s.names x) (has_members 4 d) _ x e (λ e1.
    then_read (EffectsFit s.names x) _ (member_as (list_as (variable_of s)) (codes "reads") d) x e1 (λ rs er e2.
    then_read (EffectsFit s.names x) _ (member_as (list_as (variable_of s)) (codes "writes") d) x e2 (λ ws ew e3.
    then_read (EffectsFit s.names x) _ (member_as as_bool (codes "io") d) x e3 (λ i ei e4.
    map_read (EffectsFit s.names) (effect_set rs ws i) (member_as as_bool (codes "stops") d) x e4 (λ t et.
    (member_list (variable_of s) (VariableFits s.names) (variable_read s) (codes "reads") d rs er, member_list (variable_of s) (VariableFits s.names) (variable_read s) (codes "writes") d ws ew))))))

-- ---- transformers

unit_read : (d : Data) (u : BlockUnit) → unit_of d ≡ Some u → is_block u.block ≡ true
unit_read d u e =
    then_read (is_block u.block ≡ true) (λ p. unit_in p.0 p.1) (pair_of d) u e (λ p ep e1.
    then_read (is_block u.block ≡ true) _ (text_of p.0) u e1 (λ x ex e2.
    then_read (is_block u.block ≡ true) (λ n. when (is_block x) (block_unit x n)) (offset_of p.1) u e2 (λ n en e3.
    when_read (λ (v : BlockUnit). is_block v.block ≡ true) (is_block x) (block_unit x n) u e3 (λ t. t))))

-- a transformer that is read fits where it is small
abbrev TransformerIfSmall : List (List ℕ) → Transformer → Type 0
TransformerIfSmall names t = is_small_transformer t ≡ true → TransformerFits names t

transformer_read : (names : List (List ℕ)) (d : Data) (t : Transformer) → transformer_of (cells_alone names) d ≡ Some t → TransformerIfSmall names t
transformer_read names d t e =
    if_read (TransformerIfSmall names t) (has_members 3 d) _ t e (λ e1.
    then_read (TransformerIfSmall names t) _ (member_as (list_as (cell_of (cells_alone names))) (codes "cells") d) t e1 (λ cs ec e2.
    then_read (TransformerIfSmall names t) _ (member_as (list_as unit_of) (codes "foreign") d) t e2 (λ us eu e3.
    map_read (TransformerIfSmall names) (transformer cs us) (member_as (system_of (with_exits cs (cells_alone names))) (codes "system") d) t e3 (λ y ey small. (
      member_list (cell_of (cells_alone names)) (λ n. is_symbol names n ≡ true) (cell_read (cells_alone names)) (codes "cells") d cs ec,
      member_list unit_of (λ (u : BlockUnit). is_block u.block ≡ true) unit_read (codes "foreign") d us eu,
      member_small (with_exits cs (cells_alone names)) (codes "system") d y ey small,
    )))))

-- ---- regions

access_read : (k : Kind) (d : Data) (a : Access) → access_of k d ≡ Some a → same_kind (result_with a) k ≡ true
access_read k d a e =
    then_read (same_kind (result_with a) k ≡ true) (λ c. when (same_kind (result_with c) k) c) (option_and_then access_named (as_str d)) a e (λ b eb e1.
    when_read (λ c. same_kind (result_with c) k ≡ true) (same_kind (result_with b) k) b a e1 (λ t. t))

-- a system that is read fits where it is small
abbrev PieceIfSmall : List (List ℕ) → System → Type 0
PieceIfSmall names y = is_small_system y ≡ true → SystemFits (with_phi (cells_alone names)) y

-- and so do systems, from one to four
abbrev PiecesIfSmall : List (List ℕ) → List System → Type 0
PiecesIfSmall names ss = list_all is_small_system ss ≡ true → PiecesFit names ss

pieces_read : (names : List (List ℕ)) (d : Data) (ss : List System) → pieces_of (cells_alone names) d ≡ Some ss → PiecesIfSmall names ss
pieces_read names d ss e =
    let s = with_phi (cells_alone names) in
    then_read (PiecesIfSmall names ss) (λ qs. when (are_few qs) qs) (list_as (system_of s) d) ss e (λ qs eq e1.
    when_read (PiecesIfSmall names) (are_few qs) qs ss e1 (λ t small. (
      each_both (PieceIfSmall names) (λ y. is_small_system y ≡ true) (SystemFits s) (λ y f k. f k) qs (list_read (system_of s) (PieceIfSmall names) (system_read s) d qs eq) (each_all is_small_system qs small),
      t,
    )))

-- a region that is read fits where it is small
abbrev IfSmall : List (List ℕ) → Kind → Region → Type 0
IfSmall names k r = is_small_region r ≡ true → RegionFits names k r

region_read : (names : List (List ℕ)) (k : Kind) (d : Data) (r : Region) → region_of (cells_alone names) k d ≡ Some r → IfSmall names k r
region_read names k d r e =
    if_read (IfSmall names k r) (has_members 4 d) _ r e (λ e1.
    then_read (IfSmall names k r) _ (member_as as_bool (codes "exact") d) r e1 (λ x ex e2.
    then_read (IfSmall names k r) _ (member_as (access_of k) (codes "kind") d) r e2 (λ a ea e3.
    then_read (IfSmall names k r) _ (member_as (variable_of (cells_alone names)) (codes "of") d) r e3 (λ v ev e4.
    map_read (IfSmall names k) (region v a x) (member_as (pieces_of (cells_alone names)) (codes "pieces") d) r e4 (λ ss es small. (
      then_read (VariableFits names v) (variable_of (cells_alone names)) (get (codes "of") d) v ev (λ w ew f. variable_read (cells_alone names) w v f),
      then_read (same_kind (result_with a) k ≡ true) (access_of k) (get (codes "kind") d) a ea (λ w ew f. access_read k w a f),
      then_read (PiecesFit names ss) (pieces_of (cells_alone names)) (get (codes "pieces") d) ss es (λ w ew f. pieces_read names w ss f small),
    ))))))

-- where they are small, they fit
abbrev SetIfSmall : List (List ℕ) → Kind → List Region → Type 0
SetIfSmall names k rs = are_small_regions rs ≡ true → RegionsFit names k rs

regions_read : (names : List (List ℕ)) (k : Kind) (d : Data) (rs : List Region) → regions_of (cells_alone names) k d ≡ Some rs → SetIfSmall names k rs
regions_read names k d rs e =
    then_read (SetIfSmall names k rs) (λ qs. when (are_apart names qs) qs) (list_as (region_of (cells_alone names) k) d) rs e (λ qs eq e1.
    when_read (SetIfSmall names k) (are_apart names qs) qs rs e1 (λ t small. (
      each_both (IfSmall names k) (λ r. is_small_region r ≡ true) (RegionFits names k) (λ r f s. f s) qs (list_read (region_of (cells_alone names) k) (IfSmall names k) (region_read names k) d qs eq) (each_all is_small_region qs small),
      t,
    )))

-- ---- marks

numbers_read : (names : List (List ℕ)) (vs : List Variable) (ns : List ℕ) → Each (VariableFits names) vs → numbers_of vs ≡ Some ns → Each (λ n. is_symbol names n ≡ true) ns
numbers_read names [] ns h e = let z : [] ≡ ns = cc in subst (Each (λ n. is_symbol names n ≡ true)) z tt
numbers_read names (v ∷ vs) ns h e = go v h.0 e (λ ms f. numbers_read names vs ms h.1 f) where
  go : (v : Variable) → VariableFits names v → with_number v (numbers_of vs) ≡ Some ns → ((ms : List ℕ) → numbers_of vs ≡ Some ms → Each (λ n. is_symbol names n ≡ true) ms) → Each (λ n. is_symbol names n ≡ true) ns
  go (Own n) f g rest = let m = map_some (λ ms. n ∷ ms) (numbers_of vs) ns g in subst (Each (λ k. is_symbol names k ≡ true)) m.2 (f, rest m.0 m.1)
  go (Block b) f g rest = cc
  go (Saved x y) f g rest = cc

carried_read : (names : List (List ℕ)) (v ks p : Data) (r : Reason) → carried_in (cells_alone names) v ks p ≡ Some r → ReasonFits names r
carried_read names v ks p r e =
    then_read (ReasonFits names r) _ (variable_of (cells_alone names) v) r e (λ w ew e1.
    then_read (ReasonFits names r) (λ ls. option_map (Carries w ls) (answer_of p)) (list_as conflict_of ks) r e1 (λ ls el e2.
    map_read (ReasonFits names) (Carries w ls) (answer_of p) r e2 (λ q eq. variable_read (cells_alone names) v w ew)))

word_fits : (names : List (List ℕ)) (w : List ℕ) (r : Reason) → reason_named w ≡ Some r → ReasonFits names r
word_fits names w r e =
    either_some (ReasonFits names r) (bytes_eq w (codes "Jump")) (Some Jump) _ r (λ f. let z : Jump ≡ r = cc in subst (ReasonFits names) z tt)
    (either_some (ReasonFits names r) (bytes_eq w (codes "InputOutput")) (Some InputOutput) _ r (λ f. let z : InputOutput ≡ r = cc in subst (ReasonFits names) z tt)
    (either_some (ReasonFits names r) (bytes_eq w (codes "Step")) (Some Step) _ r (λ f. let z : Step ≡ r = cc in subst (ReasonFits names) z tt)
    (either_some (ReasonFits names r) (bytes_eq w (codes "Index")) (Some Index) None r (λ f. let z : Index ≡ r = cc in subst (ReasonFits names) z tt) (λ f. cc)))) e

reason_read : (names : List (List ℕ)) (ds : List Data) (r : Reason) → reason_in (cells_alone names) ds ≡ Some r → ReasonFits names r
reason_read names [] r e = cc
reason_read names (d ∷ []) r e = then_read (ReasonFits names r) reason_named (as_str d) r e (λ w ew f. word_fits names w r f)
reason_read names (d ∷ f ∷ []) r e = cc
reason_read names (d ∷ f ∷ g ∷ []) r e = carried_read names d f g r e
reason_read names (d ∷ f ∷ g ∷ h ∷ hs) r e = cc

mark_read_by : (names : List (List ℕ)) (ds : List Data) (w : List ℕ) (m : Mark) → mark_by (cells_alone names) ds w ≡ Some m → MarkFits names m
mark_read_by names ds w m e =
    either_some (MarkFits names m) (bytes_eq w (codes "PARALLEL")) (option_map Parallel (option_and_then numbers_of (each_as (variable_of (cells_alone names)) ds))) _ m parallel
    (either_some (MarkFits names m) (bytes_eq w (codes "SERIAL")) (option_map Serial (reason_in (cells_alone names) ds)) None m serial (λ f. cc)) e
  where
    parallel : option_map Parallel (option_and_then numbers_of (each_as (variable_of (cells_alone names)) ds)) ≡ Some m → MarkFits names m
    parallel f =
        map_read (MarkFits names) Parallel (option_and_then numbers_of (each_as (variable_of (cells_alone names)) ds)) m f (λ ns en.
        then_read (Each (λ n. is_symbol names n ≡ true) ns) numbers_of (each_as (variable_of (cells_alone names)) ds) ns en (λ vs ev g.
        numbers_read names vs ns (each_read (variable_of (cells_alone names)) (VariableFits names) (variable_read (cells_alone names)) ds vs ev) g))

    serial : option_map Serial (reason_in (cells_alone names) ds) ≡ Some m → MarkFits names m
    serial f = map_read (MarkFits names) Serial (reason_in (cells_alone names) ds) m f (λ r er. reason_read names ds r er)

mark_read_in : (names : List (List ℕ)) (ds : List Data) (m : Mark) → mark_in (cells_alone names) ds ≡ Some m → MarkFits names m
mark_read_in names [] m e = cc
mark_read_in names (d ∷ ds) m e = then_read (MarkFits names m) (mark_by (cells_alone names) ds) (as_str d) m e (λ w ew f. mark_read_by names ds w m f)

mark_read : (names : List (List ℕ)) (d : Data) (m : Mark) → mark_of (cells_alone names) d ≡ Some m → MarkFits names m
mark_read names d m e = then_read (MarkFits names m) (mark_in (cells_alone names)) (list_of d) m e (λ ds ed f. mark_read_in names ds m f)

-- ---- at statements

-- it is of the statement with this number, and was read as what it says
abbrev WasRead : {T : Type 0} → (Data → Option T) → At T → Type 0
WasRead f a = (d : Data) × (f d ≡ Some a.value)

-- it has this number
abbrev IsAt : {T : Type 0} → (Data → Option T) → ℕ → At T → Type 0
IsAt f n a = (a.id ≡ n) × WasRead f a

number_is : (T : Type 0) (f : Data → Option T) (n : ℕ) (d : Data) (a : At T) → at_one f n d ≡ Some a → IsAt f n a
number_is T f n d a e =
    then_read (IsAt f n a) (λ p. at_in f n p.0 p.1) (pair_of d) a e (λ p ep e1.
    if_read (IsAt f n a) (is_number n (offset_of p.0)) (option_map (at_number n) (f p.1)) a e1 (λ e2.
    map_read (IsAt f n) (at_number n) (f p.1) a e2 (λ x ex. (refl, (p.1, ex)))))

-- they are of the statements with these numbers
abbrev AreAt : {T : Type 0} → (Data → Option T) → List ℕ → List (At T) → Type 0
AreAt f ns as' = (map (λ (a : At _). a.id) as' ≡ ns) × Each (WasRead f) as'

each_at_read : (T : Type 0) (f : Data → Option T) (ns : List ℕ) (ds : List Data) (as' : List (At T)) → at_each f ns ds ≡ Some as' → AreAt f ns as'
each_at_read T f [] [] as' e = let z : [] ≡ as' = cc in subst (AreAt f []) z (refl, tt)
each_at_read T f [] (d ∷ ds) as' e = cc
each_at_read T f (n ∷ ns) [] as' e = cc
each_at_read T f (n ∷ ns) (d ∷ ds) as' e =
    then_read (AreAt f (n ∷ ns) as') (λ b. option_map (λ bs. b ∷ bs) (at_each f ns ds)) (at_one f n d) as' e (λ a ea e1.
    map_read (AreAt f (n ∷ ns)) (λ bs. a ∷ bs) (at_each f ns ds) as' e1 (λ bs eb.
    more a bs (number_is T f n d a ea) (each_at_read T f ns ds bs eb)))
  where
    more : (a : At T) (bs : List (At T)) → IsAt f n a → AreAt f ns bs → AreAt f (n ∷ ns) (a ∷ bs)
    more a bs one rest = (ap₂ (λ m ms. m ∷ ms) one.0 rest.0, (one.1, rest.1))

all_read : (T : Type 0) (f : Data → Option T) (ns : List ℕ) (d : Data) (as' : List (At T)) → at_all f ns d ≡ Some as' → AreAt f ns as'
all_read T f ns d as' e = then_read (AreAt f ns as') (at_each f ns) (list_of d) as' e (λ ds ed e1. each_at_read T f ns ds as' e1)

member_at : (T : Type 0) (f : Data → Option T) (ns : List ℕ) (d : Data) (as' : List (At T)) → member_as (at_all f ns) (codes "at") d ≡ Some as' → AreAt f ns as'
member_at T f ns d as' e = then_read (AreAt f ns as') (at_all f ns) (get (codes "at") d) as' e (λ x ex e1. all_read T f ns x as' e1)

-- each that is read fits where it passes a test
results_read : (T : Type 0) (f : Data → Option T) (p : T → Bool) (P : T → Type 0) → ((d : Data) (x : T) → f d ≡ Some x → p x ≡ true → P x) →
    (ns key : List ℕ) (d : Data) (r : Results T) → results_of f ns key d ≡ Some r → all_small p r ≡ true → ResultsFit P ns r
results_read T f p P h ns key d r e =
    if_read (all_small p r ≡ true → ResultsFit P ns r) (has_members 2 d) (option_and_then (λ as'. option_map (results as') (member_as f key d)) (member_as (at_all f ns) (codes "at") d)) r e (λ e1.
    then_read (all_small p r ≡ true → ResultsFit P ns r) (λ as'. option_map (results as') (member_as f key d)) (member_as (at_all f ns) (codes "at") d) r e1 (λ as' ea e2.
    map_read (λ (q : Results T). all_small p q ≡ true → ResultsFit P ns q) (results as') (member_as f key d) r e2 (λ x ex small.
    fit as' x (member_at T f ns d as' ea) (member_some f key d x ex) (and_parts (p x) (list_all (λ (c : At T). p c.value) as') small))))
  where
    fit : (as' : List (At T)) (x : T) → AreAt f ns as' → ((q : Data) × (f q ≡ Some x)) → (p x ≡ true) × (list_all (λ (c : At T). p c.value) as' ≡ true) → ResultsFit P ns (results as' x)
    fit as' x each last small = (
      (each.0, each_both (WasRead f) (λ (c : At T). p c.value ≡ true) (λ (c : At T). P c.value) (λ c w s. h w.0 c.value w.1 s) as' each.1 (each_all (λ (c : At T). p c.value) as' small.1)),
      h last.0 x last.1 small.0,
    )

-- ---- a result

-- what passes where there are no rows
abbrev always : {T : Type 0} → T → Bool
always x = true

all_true : {A : Type 0} (xs : List A) → list_all (λ (x : A). true) xs ≡ true
all_true [] = refl
all_true (x ∷ xs) = all_true xs

all_always : {T : Type 0} (r : Results T) → all_small always r ≡ true
all_always r = all_true r.at

regions_all_read : (m : ModuleNames) (k : Kind) (d : Data) (r : Results (List Region)) → results_of (regions_of (cells_alone m.names) k) m.statements (codes "summary") d ≡ Some r → all_small are_small_regions r ≡ true →
    ResultsFit (RegionsFit m.names k) m.statements r
regions_all_read m k d r e s = results_read (List Region) (regions_of (cells_alone m.names) k) are_small_regions (RegionsFit m.names k) (regions_read m.names k) m.statements (codes "summary") d r e s

-- of a kind that is stored, and fits where it is small
abbrev IsOf : ModuleNames → Kind → StoredValue → Type 0
IsOf m k v = is_small_value v ≡ true → (kind_of v ≡ k) × StoredFits m v

pub read_fits : ReadFits
read_fits m Parsed d v e = λ small. cc
read_fits m Lines d v e = λ small. cc
read_fits m Symbols d v e = λ small. cc
read_fits m CallGraph d v e = λ small. cc
read_fits m Effects d v e =
    map_read (IsOf m Effects) stored.Effects (results_of (effects_of (cells_alone m.names)) m.statements (codes "summary") d) v e (λ r er small.
    (refl, results_read EffectSet (effects_of (cells_alone m.names)) always (EffectsFit m.names) (λ w x f s. effects_read (cells_alone m.names) w x f) m.statements (codes "summary") d r er (all_always r)))
read_fits m Transformers d v e =
    map_read (IsOf m Transformers) stored.Transformers (results_of (transformer_of (cells_alone m.names)) m.statements (codes "summary") d) v e (λ r er small.
    (refl, results_read Transformer (transformer_of (cells_alone m.names)) is_small_transformer (TransformerFits m.names) (transformer_read m.names) m.statements (codes "summary") d r er small))
read_fits m Preconditions d v e =
    map_read (IsOf m Preconditions) stored.Preconditions (results_of (system_of (cells_alone m.names)) m.statements (codes "entry") d) v e (λ r er small.
    (refl, results_read System (system_of (cells_alone m.names)) is_small_system (SystemFits (cells_alone m.names)) (system_read (cells_alone m.names)) m.statements (codes "entry") d r er small))
read_fits m Regions d v e =
    map_read (IsOf m Regions) stored.Regions (results_of (regions_of (cells_alone m.names) Regions) m.statements (codes "summary") d) v e (λ r er small. (refl, regions_all_read m Regions d r er small))
read_fits m InRegions d v e =
    map_read (IsOf m InRegions) stored.InRegions (results_of (regions_of (cells_alone m.names) InRegions) m.statements (codes "summary") d) v e (λ r er small. (refl, regions_all_read m InRegions d r er small))
read_fits m OutRegions d v e =
    map_read (IsOf m OutRegions) stored.OutRegions (results_of (regions_of (cells_alone m.names) OutRegions) m.statements (codes "summary") d) v e (λ r er small. (refl, regions_all_read m OutRegions d r er small))
read_fits m Marks d v e =
    map_read (IsOf m Marks) stored.Marks (at_all (mark_of (cells_alone m.names)) m.loops d) v e (λ ms em small. (refl, marks ms (all_read Mark (mark_of (cells_alone m.names)) m.loops d ms em)))
  where
    marks : (ms : List (At Mark)) → AreAt (mark_of (cells_alone m.names)) m.loops ms → AllFit (MarkFits m.names) m.loops ms
    marks ms a = (a.0, each_map (WasRead (mark_of (cells_alone m.names))) (λ (c : At Mark). MarkFits m.names c.value) (λ c w. mark_read m.names w.0 c.value w.1) ms a.1)
read_fits m Printed d v e = λ small. cc
