-- The tests of systems that are derived decide whether systems are equal.
use Rattle.std.proofs.Common.{◌≡◌, ℤ, Bool, true, ◌&&◌, List, ap, ◌∙◌, subst, sym}
use Rattle.std.specs.Ordering.{int_eq}
use Rattle.std.specs.Cmp.{IsEquivalence, signed_Decides}
use Rattle.std.specs.Cmp.Lexicographic.{pointwise, pointwise_decides}
use Rattle.std.proofs.lemmas.Bool.{eqb-true, and_parts}
use mathlib.Core.Bool.{beq}
use Rattle.affine_systems.specs.declared.row.Var.{Var}
use Rattle.affine_systems.specs.declared.row.Var.TheVariants as var
use Rattle.affine_systems.specs.declared.row.Term.{Term}
use Rattle.affine_systems.specs.declared.row.Row.{Row}
use Rattle.affine_systems.specs.declared.row.System.{System}
use Rattle.affine_systems.specs.contracts.row.VarPartialEq.TheImpl as var_impl
use Rattle.affine_systems.specs.contracts.row.TermPartialEq.TheImpl as term_impl
use Rattle.affine_systems.specs.contracts.row.RowPartialEq.TheImpl as row_impl
use Rattle.affine_systems.specs.contracts.row.SystemPartialEq.TheImpl as system_impl
use Rattle.affine_systems.specs.contracts.row.TermEq.TheImpl.Laws as term_laws
use Rattle.affine_systems.specs.contracts.row.RowEq.TheImpl.Laws as row_laws
use Rattle.affine_systems.specs.contracts.row.SystemEq.TheImpl.Laws as system_laws
use Rattle.fx_lists.proofs.Booleans.{beq-true}

abbrev pub Decided : {K : Type 0} → (K → K → Bool) → Type 0
Decided {K} E = (a b : K) → (E a b ≡ true → a ≡ b) × (a ≡ b → E a b ≡ true)

pub decides : {K : Type 0} {E : K → K → Bool} → IsEquivalence E → ((a b : K) → E a b ≡ true → a ≡ b) → Decided E
decides {K} {E} q f a b = (f a b, λ e. subst (λ c. E a c ≡ true) e (q.refl a))

abbrev pub var_eq : Var → Var → Bool
var_eq = (var_impl.ghosts).eq

abbrev pub term_eq : Term → Term → Bool
term_eq = (term_impl.ghosts).eq

abbrev pub row_eq : Row → Row → Bool
row_eq = (row_impl.ghosts).eq

abbrev pub system_eq : System → System → Bool
system_eq = (system_impl.ghosts).eq

pub var-true : (a b : Var) → var_eq a b ≡ true → a ≡ b
var-true (var.Cell n) (var.Cell m) e = ap var.Cell (eqb-true n m e)
var-true (var.Cell n) (var.Exit m) e = cc
var-true (var.Cell n) (var.Phi m) e = cc
var-true (var.Cell n) (var.Aux m) e = cc
var-true (var.Exit n) (var.Cell m) e = cc
var-true (var.Exit n) (var.Exit m) e = ap var.Exit (eqb-true n m e)
var-true (var.Exit n) (var.Phi m) e = cc
var-true (var.Exit n) (var.Aux m) e = cc
var-true (var.Phi n) (var.Cell m) e = cc
var-true (var.Phi n) (var.Exit m) e = cc
var-true (var.Phi n) (var.Phi m) e = ap var.Phi (eqb-true n m e)
var-true (var.Phi n) (var.Aux m) e = cc
var-true (var.Aux n) (var.Cell m) e = cc
var-true (var.Aux n) (var.Exit m) e = cc
var-true (var.Aux n) (var.Phi m) e = cc
var-true (var.Aux n) (var.Aux m) e = ap var.Aux (eqb-true n m e)

pub term-true : (a b : Term) → term_eq a b ≡ true → a ≡ b
term-true a b e =
    let p0 = and_parts (var_eq a.var b.var) (int_eq a.factor b.factor) e in
    let mk : Var → ℤ → Term = λ x0 x1. record { var = x0; factor = x1 } in
    ap (λ x. mk x a.factor) (var-true a.var b.var p0.0)
    ∙ ap (λ x. mk b.var x) ((signed_Decides a.factor b.factor).0 p0.1)

pub term_decides : Decided term_eq
term_decides = decides term_laws.laws-law term-true

pub row-true : (a b : Row) → row_eq a b ≡ true → a ≡ b
row-true a b e =
    let p0 = and_parts (beq a.equal b.equal) (pointwise term_eq a.terms b.terms && int_eq a.bound b.bound) e in
    let p1 = and_parts (pointwise term_eq a.terms b.terms) (int_eq a.bound b.bound) p0.1 in
    let mk : Bool → List Term → ℤ → Row = λ x0 x1 x2. record { equal = x0; terms = x1; bound = x2 } in
    ap (λ x. mk x a.terms a.bound) (beq-true a.equal b.equal p0.0)
    ∙ ap (λ x. mk b.equal x a.bound) ((pointwise_decides {E = term_eq} term_decides a.terms b.terms).0 p1.0)
    ∙ ap (λ x. mk b.equal b.terms x) ((signed_Decides a.bound b.bound).0 p1.1)

pub row_decides : Decided row_eq
row_decides = decides row_laws.laws-law row-true

pub system-true : (a b : System) → system_eq a b ≡ true → a ≡ b
system-true a b e =
    let p0 = and_parts (pointwise row_eq a.rows b.rows) (beq a.weak b.weak) e in
    let mk : List Row → Bool → System = λ x0 x1. record { rows = x0; weak = x1 } in
    ap (λ x. mk x a.weak) ((pointwise_decides {E = row_eq} row_decides a.rows b.rows).0 p0.0)
    ∙ ap (λ x. mk b.rows x) (beq-true a.weak b.weak p0.1)

pub system_decides : Decided system_eq
system_decides = decides system_laws.laws-law system-true

pub pieces_same : (r : Bool) (a b : List System) → r ≡ pointwise system_eq a b → r ≡ true → a ≡ b
pieces_same r a b e t = (pointwise_decides {E = system_eq} system_decides a b).0 (sym e ∙ t)
