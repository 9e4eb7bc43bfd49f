-- The tests of results that are derived decide whether results are equal.
use Rattle.std.proofs.Common.{◌≡◌, ℕ, Bool, true, false, ◌&&◌, List, refl, ap, ◌∙◌, subst, sym}
use Rattle.std.specs.Prelude.{nat_eq, bytes_eq, ◌↔◌, IsTrue}
use Rattle.std.specs.Cmp.Lexicographic.{pointwise, pointwise_decides, bytes_decides}
use Rattle.std.proofs.lemmas.Bool.{eqb-true, eq-eqb, and_parts, and_from}
use mathlib.Core.Bool.{beq}
use Rattle.f77_ast.specs.declared.variable.Unit.{Unit}
use Rattle.f77_ast.specs.declared.variable.Variable.{Variable}
use Rattle.f77_ast.specs.declared.variable.Variable.TheVariants.{Own, Block, Saved}
use Rattle.f77_ast.specs.contracts.variable.VariablePartialEq.TheImpl as variable_impl
use Rattle.f77_ast.specs.contracts.variable.VariableEq.TheImpl.Laws as variable_laws
use Rattle.f77_ast.specs.contracts.variable.UnitPartialEq.TheImpl as unit_impl
use Rattle.f77_ast.specs.contracts.variable.UnitEq.TheImpl.Laws as unit_laws
use Rattle.f77_ast.specs.declared.effect_set.EffectSet.{EffectSet}
use Rattle.f77_ast.specs.contracts.effect_set.EffectSetPartialEq.TheImpl as effect_impl
use Rattle.f77_ast.specs.contracts.effect_set.EffectSetEq.TheImpl.Laws as effect_laws
use Rattle.f77_ast.specs.declared.results.At.{At}
use Rattle.f77_ast.specs.declared.results.Results.{Results}
use denote.Enum.Bare.{same_true}
use Rattle.affine_systems.specs.declared.row.Var.TheVariants as var
use Rattle.affine_systems.specs.declared.row.System.{System}
use Rattle.affine_systems.specs.contracts.row.VarPartialEq.TheImpl as var_impl
use Rattle.affine_systems.specs.contracts.row.TermPartialEq.TheImpl as term_impl
use Rattle.affine_systems.specs.contracts.row.RowPartialEq.TheImpl as row_impl
use Rattle.affine_systems.specs.contracts.row.SystemPartialEq.TheImpl as system_impl
use Rattle.affine_systems.specs.contracts.row.TermEq.TheImpl.Laws as term_laws
use Rattle.affine_systems.specs.contracts.row.RowEq.TheImpl.Laws as row_laws
use Rattle.affine_systems.specs.contracts.row.SystemEq.TheImpl.Laws as system_laws
use Rattle.preconditions.specs.transformer_algebra.declared.transformer.Transformer.{Transformer}
use Rattle.preconditions.specs.transformer_algebra.contracts.transformer.TransformerPartialEq.TheImpl as transformer_impl
use Rattle.preconditions.specs.transformer_algebra.contracts.transformer.TransformerEq.TheImpl.Laws as transformer_laws
use Rattle.loop_marker.specs.region_sets.declared.region.Access.{Access}
use Rattle.loop_marker.specs.region_sets.contracts.region.Access.{the_type as access_type}
use Rattle.loop_marker.specs.region_sets.declared.region.Region.{Region}
use Rattle.loop_marker.specs.region_sets.contracts.region.AccessPartialEq.TheImpl as access_impl
use Rattle.loop_marker.specs.region_sets.contracts.region.RegionPartialEq.TheImpl as region_impl
use Rattle.loop_marker.specs.region_sets.contracts.region.RegionEq.TheImpl.Laws as region_laws
use Rattle.f77_ast.specs.declared.marks.Kinds.{Kinds}
use Rattle.f77_ast.specs.contracts.marks.Kinds.{the_type as kinds_type}
use Rattle.f77_ast.specs.declared.marks.Private.{Private}
use Rattle.f77_ast.specs.contracts.marks.Private.{the_type as private_type}
use Rattle.f77_ast.specs.declared.marks.Reason.{Reason}
use Rattle.f77_ast.specs.declared.marks.Reason.TheVariants.{Jump, InputOutput, Step, Index, Carries}
use Rattle.f77_ast.specs.declared.marks.Mark.{Mark}
use Rattle.f77_ast.specs.declared.marks.Mark.TheVariants.{Parallel, Serial}
use Rattle.f77_ast.specs.contracts.marks.KindsPartialEq.TheImpl as kinds_impl
use Rattle.f77_ast.specs.contracts.marks.KindsEq.TheImpl.Laws as kinds_laws
use Rattle.f77_ast.specs.contracts.marks.PrivatePartialEq.TheImpl as private_impl
use Rattle.f77_ast.specs.contracts.marks.ReasonPartialEq.TheImpl as reason_impl
use Rattle.f77_ast.specs.contracts.marks.MarkPartialEq.TheImpl as mark_impl
use Rattle.f77_ast.specs.contracts.marks.MarkEq.TheImpl.Laws as mark_laws
use Rattle.loop_marker.proofs.RegionSets.SameSystems.{Decided, system_eq, system_decides, system-true, decides}
use Rattle.fx_lists.proofs.Booleans.{beq-true}

abbrev variable_eq : Variable → Variable → Bool
variable_eq = (variable_impl.ghosts).eq

abbrev unit_eq : Unit → Unit → Bool
unit_eq = (unit_impl.ghosts).eq

abbrev effect_eq : EffectSet → EffectSet → Bool
effect_eq = (effect_impl.ghosts).eq

variable-true : (a b : Variable) → variable_eq a b ≡ true → a ≡ b
variable-true (Own n) (Own m) e = ap Own (eqb-true n m e)
variable-true (Own n) (Block y) e = cc
variable-true (Own n) (Saved y w) e = cc
variable-true (Block x) (Own m) e = cc
variable-true (Block x) (Block y) e = ap Block ((bytes_decides x y).0 e)
variable-true (Block x) (Saved y w) e = cc
variable-true (Saved x z) (Own m) e = cc
variable-true (Saved x z) (Block y) e = cc
variable-true (Saved x z) (Saved y w) e =
    let p = and_parts (bytes_eq x y) (bytes_eq z w) e in
    ap (λ v. Saved v z) ((bytes_decides x y).0 p.0) ∙ ap (Saved y) ((bytes_decides z w).0 p.1)

variable_decides : Decided variable_eq
variable_decides = decides variable_laws.laws-law variable-true

effect-true : (a b : EffectSet) → effect_eq a b ≡ true → a ≡ b
effect-true a b e =
    let p0 = and_parts (pointwise variable_eq a.reads b.reads) (pointwise variable_eq a.writes b.writes && (beq a.io b.io && beq a.stops b.stops)) e in
    let p1 = and_parts (pointwise variable_eq a.writes b.writes) (beq a.io b.io && beq a.stops b.stops) p0.1 in
    let p2 = and_parts (beq a.io b.io) (beq a.stops b.stops) p1.1 in
    let mk : List Variable → List Variable → Bool → Bool → EffectSet = λ x0 x1 x2 x3. record { reads = x0; writes = x1; io = x2; stops = x3 } in
    ap (λ x. mk x a.writes a.io a.stops) ((pointwise_decides {E = variable_eq} variable_decides a.reads b.reads).0 p0.0)
    ∙ ap (λ x. mk b.reads x a.io a.stops) ((pointwise_decides {E = variable_eq} variable_decides a.writes b.writes).0 p1.0)
    ∙ ap (λ x. mk b.reads b.writes x a.stops) (beq-true a.io b.io p2.0)
    ∙ ap (λ x. mk b.reads b.writes b.io x) (beq-true a.stops b.stops p2.1)

effect_decides : Decided effect_eq
effect_decides = decides effect_laws.laws-law effect-true

-- ---- transformers

abbrev transformer_eq : Transformer → Transformer → Bool
transformer_eq = (transformer_impl.ghosts).eq

unit-true : (a b : Unit) → unit_eq a b ≡ true → a ≡ b
unit-true a b e =
    let p0 = and_parts (bytes_eq a.block b.block) (nat_eq a.offset b.offset) e in
    let mk : List ℕ → ℕ → Unit = λ x0 x1. record { block = x0; offset = x1 } in
    ap (λ x. mk x a.offset) ((bytes_decides a.block b.block).0 p0.0)
    ∙ ap (λ x. mk b.block x) (eqb-true a.offset b.offset p0.1)

unit_decides : Decided unit_eq
unit_decides = decides unit_laws.laws-law unit-true

transformer-true : (a b : Transformer) → transformer_eq a b ≡ true → a ≡ b
transformer-true a b e =
    let p0 = and_parts (bytes_eq a.cells b.cells) (pointwise unit_eq a.foreign b.foreign && system_eq a.system b.system) e in
    let p1 = and_parts (pointwise unit_eq a.foreign b.foreign) (system_eq a.system b.system) p0.1 in
    let mk : List ℕ → List Unit → System → Transformer = λ x0 x1 x2. record { cells = x0; foreign = x1; system = x2 } in
    ap (λ x. mk x a.foreign a.system) ((bytes_decides a.cells b.cells).0 p0.0)
    ∙ ap (λ x. mk b.cells x a.system) ((pointwise_decides {E = unit_eq} unit_decides a.foreign b.foreign).0 p1.0)
    ∙ ap (λ x. mk b.cells b.foreign x) (system-true a.system b.system p1.1)

transformer_decides : Decided transformer_eq
transformer_decides = decides transformer_laws.laws-law transformer-true

-- ---- regions

abbrev access_eq : Access → Access → Bool
access_eq = (access_impl.ghosts).eq

abbrev region_eq : Region → Region → Bool
region_eq = (region_impl.ghosts).eq

access-true : (a b : Access) → access_eq a b ≡ true → a ≡ b
access-true a b e = same_true access_type tt a b e

region-true : (a b : Region) → region_eq a b ≡ true → a ≡ b
region-true a b e =
    let p0 = and_parts (variable_eq a.variable b.variable) (access_eq a.kind b.kind && (beq a.exact b.exact && pointwise system_eq a.pieces b.pieces)) e in
    let p1 = and_parts (access_eq a.kind b.kind) (beq a.exact b.exact && pointwise system_eq a.pieces b.pieces) p0.1 in
    let p2 = and_parts (beq a.exact b.exact) (pointwise system_eq a.pieces b.pieces) p1.1 in
    let mk : Variable → Access → Bool → List System → Region = λ x0 x1 x2 x3. record { variable = x0; kind = x1; exact = x2; pieces = x3 } in
    ap (λ x. mk x a.kind a.exact a.pieces) (variable-true a.variable b.variable p0.0)
    ∙ ap (λ x. mk b.variable x a.exact a.pieces) (access-true a.kind b.kind p1.0)
    ∙ ap (λ x. mk b.variable b.kind x a.pieces) (beq-true a.exact b.exact p2.0)
    ∙ ap (λ x. mk b.variable b.kind b.exact x) ((pointwise_decides {E = system_eq} system_decides a.pieces b.pieces).0 p2.1)

region_decides : Decided region_eq
region_decides = decides region_laws.laws-law region-true

-- ---- marks

abbrev kinds_eq : Kinds → Kinds → Bool
kinds_eq = (kinds_impl.ghosts).eq

abbrev private_eq : Private → Private → Bool
private_eq = (private_impl.ghosts).eq

abbrev reason_eq : Reason → Reason → Bool
reason_eq = (reason_impl.ghosts).eq

abbrev mark_eq : Mark → Mark → Bool
mark_eq = (mark_impl.ghosts).eq

kinds_decides : Decided kinds_eq
kinds_decides = decides kinds_laws.laws-law (λ a b e. same_true kinds_type tt a b e)

reason-true : (a b : Reason) → reason_eq a b ≡ true → a ≡ b
reason-true Jump Jump e = refl
reason-true Jump InputOutput e = cc
reason-true Jump Step e = cc
reason-true Jump Index e = cc
reason-true Jump (Carries w ls q) e = cc
reason-true InputOutput Jump e = cc
reason-true InputOutput InputOutput e = refl
reason-true InputOutput Step e = cc
reason-true InputOutput Index e = cc
reason-true InputOutput (Carries w ls q) e = cc
reason-true Step Jump e = cc
reason-true Step InputOutput e = cc
reason-true Step Step e = refl
reason-true Step Index e = cc
reason-true Step (Carries w ls q) e = cc
reason-true Index Jump e = cc
reason-true Index InputOutput e = cc
reason-true Index Step e = cc
reason-true Index Index e = refl
reason-true Index (Carries w ls q) e = cc
reason-true (Carries v ks p) Jump e = cc
reason-true (Carries v ks p) InputOutput e = cc
reason-true (Carries v ks p) Step e = cc
reason-true (Carries v ks p) Index e = cc
reason-true (Carries v ks p) (Carries w ls q) e =
    let h0 = and_parts (variable_eq v w) (pointwise kinds_eq ks ls && private_eq p q) e in
    let h1 = and_parts (pointwise kinds_eq ks ls) (private_eq p q) h0.1 in
    ap (λ x. Carries x ks p) (variable-true v w h0.0)
    ∙ ap (λ x. Carries w x p) ((pointwise_decides {E = kinds_eq} kinds_decides ks ls).0 h1.0)
    ∙ ap (λ x. Carries w ls x) (same_true private_type tt p q h1.1)

mark-true : (a b : Mark) → mark_eq a b ≡ true → a ≡ b
mark-true (Parallel x) (Parallel y) e = ap Parallel ((bytes_decides x y).0 e)
mark-true (Parallel x) (Serial s) e = cc
mark-true (Serial r) (Parallel y) e = cc
mark-true (Serial r) (Serial s) e = ap Serial (reason-true r s e)

mark_decides : Decided mark_eq
mark_decides = decides mark_laws.laws-law mark-true

-- ---- results at statements

abbrev at_eq : {K : Type 0} → (K → K → Bool) → At K → At K → Bool
at_eq E a b = nat_eq a.id b.id && E a.value b.value

abbrev results_eq : {K : Type 0} → (K → K → Bool) → Results K → Results K → Bool
results_eq E a b = pointwise (at_eq E) a.at b.at && E a.summary b.summary

module _ {K : Type 0} {E : K → K → Bool} (d : Decided E) where
  at-true : (a b : At K) → at_eq E a b ≡ true → a ≡ b
  at-true a b e =
      let p = and_parts (nat_eq a.id b.id) (E a.value b.value) e in
      let mk : ℕ → K → At K = λ x0 x1. record { id = x0; value = x1 } in
      ap (λ x. mk x a.value) (eqb-true a.id b.id p.0) ∙ ap (λ x. mk b.id x) ((d a.value b.value).0 p.1)

  pub at_decides : Decided (at_eq E)
  at_decides a b = (at-true a b, λ e. subst (λ c. at_eq E a c ≡ true) e (and_from (nat_eq a.id a.id) (E a.value a.value) (eq-eqb a.id a.id refl) ((d a.value a.value).1 refl)))

  results-true : (a b : Results K) → results_eq E a b ≡ true → a ≡ b
  results-true a b e =
      let p = and_parts (pointwise (at_eq E) a.at b.at) (E a.summary b.summary) e in
      let mk : List (At K) → K → Results K = λ x0 x1. record { at = x0; summary = x1 } in
      ap (λ x. mk x a.summary) ((pointwise_decides {E = at_eq E} at_decides a.at b.at).0 p.0) ∙ ap (λ x. mk b.at x) ((d a.summary b.summary).0 p.1)

  pub results_decide : Decided (results_eq E)
  results_decide a b =
      (results-true a b, λ e. subst (λ c. results_eq E a c ≡ true) e (and_from (pointwise (at_eq E) a.at a.at) (E a.summary a.summary) ((pointwise_decides {E = at_eq E} at_decides a.at a.at).1 refl) ((d a.summary a.summary).1 refl)))

-- ---- for the code

answer : {K : Type 0} {E : K → K → Bool} → Decided E → (r : Bool) (a b : K) → r ≡ E a b → IsTrue r ↔ (a ≡ b)
answer {K} {E} d r a b e = subst (λ (s : Bool). (s ≡ true → a ≡ b) × (a ≡ b → s ≡ true)) (sym e) (d a b)

pub effects_same : (r : Bool) (a b : Results EffectSet) → r ≡ results_eq effect_eq a b → IsTrue r ↔ (a ≡ b)
effects_same = answer (results_decide effect_decides)

pub transformers_same : (r : Bool) (a b : Results Transformer) → r ≡ results_eq transformer_eq a b → IsTrue r ↔ (a ≡ b)
transformers_same = answer (results_decide transformer_decides)

pub preconditions_same : (r : Bool) (a b : Results System) → r ≡ results_eq system_eq a b → IsTrue r ↔ (a ≡ b)
preconditions_same = answer (results_decide system_decides)

pub region_sets_same : (r : Bool) (a b : Results (List Region)) → r ≡ results_eq (pointwise region_eq) a b → IsTrue r ↔ (a ≡ b)
region_sets_same = answer (results_decide (pointwise_decides {E = region_eq} region_decides))

pub marks_same : (r : Bool) (a b : List (At Mark)) → r ≡ pointwise (at_eq mark_eq) a b → IsTrue r ↔ (a ≡ b)
marks_same = answer (pointwise_decides {E = at_eq mark_eq} (at_decides mark_decides))
