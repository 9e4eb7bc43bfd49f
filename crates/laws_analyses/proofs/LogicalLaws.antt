-- The number of a LOGICAL constant is 0 or 1.
use Rattle.std.proofs.Common.{◌≡◌, ℕ, Bool, true, false, ℤ, List, Option, Some, None, refl, sym, ap, ◌∙◌, subst}
use Rattle.f77_ast.specs.DeclTrees.{ParsedTree}
use Rattle.f77_ast.specs.declared.decl.Scalar.TheVariants as scalar
use Rattle.f77_ast.specs.Numbers.{is_true}
use Rattle.f77_ast.specs.Store.{truth}
use Rattle.f77_ast.specs.declared.constant.Constant.{Constant}
use Rattle.f77_ast.specs.declared.constant.Constant.TheVariants as constant
use Rattle.f77_ast.specs.Constants.{number_of}
use Rattle.f77_ast.specs.declared.symbol.Place.TheVariants as place
use Rattle.f77_ast.specs.Symbols.{SymbolTree}
use Rattle.f77_names.specs.declared.kinds.Kind.{Kind}
use Rattle.f77_names.specs.declared.kinds.Kind.TheVariants as kind
use Rattle.f77_names.specs.Entries.{EntryTree}
use Rattle.f77_names.specs.Tables.{entry_kind}
use Rattle.storage_layout.specs.Table.{scalar_of, symbol_of}
use Rattle.laws_programs.proofs.SymbolTables.Answers.{Answered, names_in, layout_in, answered_by}
use Rattle.laws_programs.proofs.Storage.ParameterLaws.{OfKind, Right, no_value, a_value, names_right}
use Rattle.laws_analyses.specs.ScalarLaws.{LogicalsAreTruths}
use Rattle.laws_analyses.proofs.EntryNames.{EntryNamed, entry_named, Valued, valued}

truth_back : (b : Bool) → truth (is_true (truth b)) ≡ truth b
truth_back true = refl
truth_back false = refl

logical_number : (k : Kind) (c : Constant) → OfKind k c → scalar_of k ≡ scalar.Log → truth (is_true (number_of c)) ≡ number_of c
logical_number kind.Int c o e = cc
logical_number kind.Log (constant.Int n) o e = absurd o
logical_number kind.Log (constant.Log b) o e = truth_back b
logical_number kind.Real c o e = absurd o

-- the type of a value
pub kind_of_value : (ks : List Kind) (e : EntryTree) (c : Constant) → Right ks e → e.value ≡ Some c → OfKind (entry_kind ks e) c
kind_of_value ks e c (no_value q) h = let z : None ≡ Some c = sym q ∙ h in cc
kind_of_value ks e c (a_value d q p o) h = let same : d ≡ c = (let z : Some d ≡ Some c = sym q ∙ h in cc) in subst (OfKind (entry_kind ks e)) same o

pub logicals_are_truths : LogicalsAreTruths
logicals_are_truths p ss t x s k h q l =
    let a = answered_by p ss t in
    let r = entry_named p ss a x s h in
    let v = valued (layout_in p) r.place r.entry k (ap (λ z. z.place) (sym r.symbol) ∙ q) in
    let o = kind_of_value (names_in p).kinds r.entry v.constant ((names_right p).right x r.entry r.found) v.value in
    subst (λ n. truth (is_true n) ≡ n) v.number (logical_number (entry_kind (names_in p).kinds r.entry) v.constant o (ap (λ z. z.scalar) (sym r.symbol) ∙ l))
