-- The bounds of array dummies are read: they name scalars alone.
use Rattle.std.proofs.Common.{◌≡◌, inl, inr, ℕ, zero, suc, false, List, [], ◌∷◌, map, Option, Some, None, refl, sym, subst}
use Rattle.std.specs.Prelude.{slice_get}
use Rattle.f77_ast.specs.Trees.{ExprTree}
use Rattle.f77_ast.specs.Trees as tree
use Rattle.f77_ast.specs.Steps.{Done, ◌>>=◌}
use Rattle.f77_ast.specs.Numbers.{unary_number, unary_tag, binary_number, binary_tag}
use Rattle.f77_ast.specs.Places.{Meant, Constant, Variable, Function, Dim, Places}
use Rattle.f77_ast.specs.Values.{given, name_value, value}
use Rattle.f77_ast.specs.Calls.{high_value, dims_read}
use Rattle.f77_ast.specs.declared.variable.Variable.{Variable as Named}
use Rattle.f77_ast.specs.declared.variable.Variable.TheVariants.{Own}
use Rattle.f77_ast.specs.Symbols.{BoundTree, SymbolTree, number_from}
use Rattle.f77_ast.specs.Shared.{symbol_at}
use Rattle.f77_ast.specs.Variables.{union}
use Rattle.call_graph.specs.Actuals.{has_bounds, is_array}
use Rattle.f77_meaning.specs.Modules.{names, symbol_names, bound_of}
use Rattle.effects.specs.Reads.{reads}
use Rattle.effects.specs.Statement.{step_reads}
use Rattle.effects.specs.Modules.{with_bounds, with_symbols}
use Rattle.laws_programs.specs.Effects.Trees.{StandsBare}
use Rattle.laws_programs.specs.Effects.Tables.{IsBound, IsHigh, AreBounds, AllBounds}
use Rattle.laws_programs.proofs.Effects.Named.{Stands, in_union}
use Rattle.laws_programs.proofs.Effects.Kept.{kept_bounds, kept_symbols}
use Rattle.laws_programs.proofs.Effects.Access.{Reading, Allowed}
use Rattle.laws_programs.proofs.Effects.Fine.{Doing, doing_bind}
use Rattle.laws_programs.proofs.Effects.Orders.{given_does}
use Rattle.laws_programs.proofs.Effects.Meant.{IsVariable, meant}
use Rattle.laws_programs.proofs.Effects.Values.{of_type_does, stands_own}
use Rattle.fx_lists.proofs.Every.{Anything}

-- scalars of a list of variables, at their first units, may be read
abbrev pub LetsScalars : List SymbolTree → Places → Allowed → List Named → Type 0
LetsScalars ss at A vs = (n : ℕ) (s : SymbolTree) → Stands (Own n) vs → symbol_at ss n ≡ Some s → IsVariable s.place → number_from 1 (symbol_names ss) s.name ≡ Some n → has_bounds s.bounds ≡ false → A (Reading (at n).first)

-- so many bounds, so many dimensions
abbrev pub AsMany : List BoundTree → List Dim → Type 0
AsMany [] [] = Unit {0}
AsMany [] (d ∷ ds) = ⊥
AsMany (b ∷ bs) [] = ⊥
AsMany (b ∷ bs) (d ∷ ds) = Unit {0}

module _ (ss : List SymbolTree) (at : Places) (A : Allowed) where
  name_does : (x : List ℕ) (m : Meant) → names ss x ≡ m → StandsBare x ss → LetsScalars ss at A (reads (tree.name x) ss) → Doing (name_value m at) A Anything
  name_does x (Constant c) e bare lets = tt
  name_does x (Variable n) e bare lets =
      let m = meant ss x n e in
      let none : is_array (Some m.symbol) ≡ false = subst (λ o. is_array o ≡ false) m.is_named bare in
      (lets n m.symbol (stands_own ss x n m) m.is_symbol m.is_variable m.is_first none, λ c. of_type_does A (at n).tag c)
  name_does x Function e bare lets = tt

  bound_does : (e : ExprTree) → IsBound e ss → LetsScalars ss at A (reads e ss) → Doing (value e (names ss) at) A Anything
  bound_does (tree.int n) h lets = tt
  bound_does (tree.log b) h lets = tt
  bound_does (tree.name x) h lets = name_does x (names ss x) refl h lets
  bound_does (tree.element x es) h lets = absurd h
  bound_does (tree.paren e) h lets = bound_does e h lets
  bound_does (tree.unary o e) h lets = doing_bind (value e (names ss) at) (λ c. given (unary_tag o) (unary_number o c.number)) A Anything Anything (bound_does e h lets) (λ c z. given_does A (unary_tag o) (unary_number o c.number))
  bound_does (tree.binary o a b) h lets =
      doing_bind (value a (names ss) at) (λ c. value b (names ss) at >>= λ d. given (binary_tag o) (binary_number o c.number d.number)) A Anything Anything
      (bound_does a h.0 (λ n s i. lets n s (in_union (Own n) (reads a ss) (reads b ss) (inl i)))) (λ c z.
      doing_bind (value b (names ss) at) (λ d. given (binary_tag o) (binary_number o c.number d.number)) A Anything Anything
      (bound_does b h.1 (λ n s i. lets n s (in_union (Own n) (reads a ss) (reads b ss) (inr i)))) (λ d y.
      given_does A (binary_tag o) (binary_number o c.number d.number)))
  bound_does (tree.chars x) h lets = tt

  high_does : (o : Option ExprTree) → IsHigh o ss → LetsScalars ss at A (step_reads o ss) → Doing (high_value o (names ss) at) A Anything
  high_does None h lets = tt
  high_does (Some e) h lets = doing_bind (value e (names ss) at) (λ c. Done (Some c.number)) A Anything Anything (bound_does e h lets) (λ c z. tt)

  -- all that stands in the bounds, whatever stood there before, may be read
  pub dims_do : (bs : List BoundTree) (whole : List Named) → AreBounds bs ss → ((v : Named) → ((vs : List Named) → Stands v (with_bounds bs ss vs)) → Stands v whole) → LetsScalars ss at A whole → Doing (dims_read (map bound_of bs) (names ss) at) A (AsMany bs)
  dims_do [] whole h inside lets = tt
  dims_do (b ∷ bs) whole h inside lets =
      let w = names ss in
      let low : LetsScalars ss at A (reads b.low ss) = λ n s i. lets n s (inside (Own n) (λ vs. kept_bounds ss (Own n) bs (union (union vs (reads b.low ss)) (step_reads b.high ss)) (in_union (Own n) (union vs (reads b.low ss)) (step_reads b.high ss) (inl (in_union (Own n) vs (reads b.low ss) (inr i)))))) in
      let high : LetsScalars ss at A (step_reads b.high ss) = λ n s i. lets n s (inside (Own n) (λ vs. kept_bounds ss (Own n) bs (union (union vs (reads b.low ss)) (step_reads b.high ss)) (in_union (Own n) (union vs (reads b.low ss)) (step_reads b.high ss) (inr i)))) in
      let rest = dims_do bs whole h.2 (λ v f. inside v (λ vs. f (union (union vs (reads b.low ss)) (step_reads b.high ss)))) lets in
      doing_bind (value b.low w at) (λ m. high_value b.high w at >>= λ n. dims_read (map bound_of bs) w at >>= λ ds. Done (record { low = m.number; high = n } ∷ ds)) A Anything (AsMany (b ∷ bs)) (bound_does b.low h.0 low) (λ m z.
      doing_bind (high_value b.high w at) (λ n. dims_read (map bound_of bs) w at >>= λ ds. Done (record { low = m.number; high = n } ∷ ds)) A Anything (AsMany (b ∷ bs)) (high_does b.high h.1 high) (λ n y.
      doing_bind (dims_read (map bound_of bs) w at) (λ ds. Done (record { low = m.number; high = n } ∷ ds)) A (AsMany bs) (AsMany (b ∷ bs)) rest (λ ds x. tt)))

-- what stands in the bounds of a symbol stands in those of all
pub in_symbols : (ss rest : List SymbolTree) (i : ℕ) (s : SymbolTree) (v : Named) (vs : List Named) → slice_get rest i ≡ Some s → ((ws : List Named) → Stands v (with_bounds s.bounds ss ws)) → Stands v (with_symbols rest ss vs)
in_symbols ss [] i s v vs e f = cc
in_symbols ss (t ∷ rest) zero s v vs e f =
    let same : t ≡ s = cc in
    kept_symbols ss v rest (with_bounds t.bounds ss vs) (subst (λ x. Stands v (with_bounds x.bounds ss vs)) (sym same) (f vs))
in_symbols ss (t ∷ rest) (suc i) s v vs e f = in_symbols ss rest i s v (with_bounds t.bounds ss vs) e f

pub bounds_at : (ss rest : List SymbolTree) (i : ℕ) (s : SymbolTree) → AllBounds rest ss → slice_get rest i ≡ Some s → AreBounds s.bounds ss
bounds_at ss [] i s h e = cc
bounds_at ss (t ∷ rest) zero s h e = let same : t ≡ s = cc in subst (λ x. AreBounds x.bounds ss) same h.0
bounds_at ss (t ∷ rest) (suc i) s h e = bounds_at ss rest i s h.1 e
