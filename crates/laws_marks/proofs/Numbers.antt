-- The constants, literals and first contents of programs that are read are numbers of 32 bits; so each execution in their runs begins with such numbers in all units.
use Rattle.std.proofs.Common.{◌≡◌, ℕ, zero, suc, ◌-◌, ◌≤◌, Bool, true, false, ℤ, List, [], ◌∷◌, map, Option, Some, None, Ok, arith, refl, sym, ap, ◌∙◌, subst, bytes_eq}
use Rattle.std.specs.Prelude.{if◌then◌else◌, slice_get}
use Rattle.f77_ast.specs.DeclTrees.{ParsedTree}
use Rattle.f77_ast.specs.declared.decl.Scalar.{Scalar}
use Rattle.f77_ast.specs.declared.decl.Scalar.TheVariants as scalar
use Rattle.f77_ast.specs.declared.symbol.Place.{Place}
use Rattle.f77_ast.specs.declared.symbol.Place.TheVariants as place
use Rattle.f77_ast.specs.Numbers.{in_range, is_true}
use Rattle.f77_ast.specs.Store.{Content, truth}
use Rattle.f77_ast.specs.Places.{Constant, Function}
use Rattle.f77_ast.specs.Programs.{Routine, Program, program_plan}
use Rattle.f77_ast.specs.Symbols.{SymbolTree, number_from}
use Rattle.f77_ast.specs.Shared.{symbol_at}
use Rattle.f77_ast.proofs.StorageLaws.{from_number}
use Rattle.f77_ast.proofs.NumberedNames.{number_from-least}
use Rattle.call_graph.specs.declared.graph.Graph.{Graph}
use Rattle.call_graph.specs.CallsIn.{Each}
use Rattle.f77_meaning.specs.Modules.{Known, known_of, is_function, meant_by, meant_at, meant_in, symbol_names, names}
use Rattle.f77_meaning.specs.Linked.{routine, main_of, program_of}
use Rattle.storage_layout.specs.Symbols.{symbols_of}
use Rattle.laws_programs.specs.roundtrip_programs.Statements.Formed.{Each as EachOf}
use Rattle.laws_programs.specs.SymbolTables.Shapes.{symbol_named}
use Rattle.laws_programs.specs.Storage.DataLaws.{ConstantsFit}
use Rattle.laws_programs.specs.Storage.Programs.{known}
use Rattle.laws_programs.specs.Programs.{IsProgram}
use Rattle.laws_programs.proofs.Sources.{IsBuilt, all_built}
use Rattle.laws_programs.proofs.Tables.{laid_out}
use Rattle.laws_programs.proofs.Storage.ModuleLaws.{known_module}
use Rattle.laws_programs.proofs.Effects.Once.{main_of_linked as some_main}
use Rattle.laws_analyses.proofs.IntegerLaws.{integers_fit}
use Rattle.laws_analyses.proofs.LogicalLaws.{logicals_are_truths}
use Rattle.laws_analyses.proofs.MainLaws.{MainOf, main_from}
use Rattle.laws_analyses.proofs.Modules.{IsIn, subs, subs_in, subs_are}
use Rattle.laws_analyses.proofs.UnitLaws.{module_at}
use Rattle.laws_interleavings.specs.Plans.Touched.{InRange, HasNumbers, AllHaveNumbers, StoreInRange}
use Rattle.laws_interleavings.proofs.Plans.Ranges.{program_ranged}
use Rattle.laws_marks.specs.ConflictExecutions.{InEachExecution}
use Rattle.laws_programs.proofs.SymbolTables.Answers.{answered_by}
use Rattle.laws_marks.proofs.BoundNumbers.{built_bounds}
use Rattle.laws_marks.proofs.DataNumbers.{BeginsSmall, data_small, store_small}
use Rattle.fx_lists.proofs.Every.{Every}
use Rattle.laws_marks.specs.Standings.{StoresStayInRange}
use Rattle.laws_marks.proofs.InRange.{begin_in_range}
use Rattle.laws_marks.proofs.Literals.{body_literals}

-- ---- constants

no_symbol : (s : SymbolTree) → None ≡ Some s → ⊥
no_symbol s e = cc

-- the symbol of a number is that of the name
named_there : (ss : List SymbolTree) (n k : ℕ) (x : List ℕ) → number_from n (symbol_names ss) x ≡ Some k → (s : SymbolTree) → slice_get ss (k - n) ≡ Some s → symbol_named ss x ≡ Some s
named_there [] n k x e s h = cc
named_there (y ∷ ys) n k x e s h = go (bytes_eq x y.name) e (named_there ys (suc n) k x)
  where
    zero_less : (n : ℕ) → n - n ≡ 0
    zero_less n = omega arith

    one_less : (n k : ℕ) → suc n ≤ k → k - n ≡ suc (k - suc n)
    one_less n k l = omega (arith, l)

    go : (b : Bool) → (if b then Some n else number_from (suc n) (symbol_names ys) x) ≡ Some k → (number_from (suc n) (symbol_names ys) x ≡ Some k → (z : SymbolTree) → slice_get ys (k - suc n) ≡ Some z → symbol_named ys x ≡ Some z) → (if b then Some y else symbol_named ys x) ≡ Some s
    go true q ih = (let same : n ≡ k = cc in ap (slice_get (y ∷ ys)) (sym (ap (λ i. i - n) (sym same) ∙ zero_less n)) ∙ h)
    go false q ih = ih q s (ap (slice_get (y ∷ ys)) (sym (one_less n k (number_from-least (suc n) k (symbol_names ys) x q))) ∙ h)

truth_small : (b : Bool) → in_range (truth b) ≡ true
truth_small true = refl
truth_small false = refl

module _ (p : ParsedTree) (ss : List SymbolTree) (t : symbols_of p ≡ Ok ss) (fit : ConstantsFit ss) where
  constant_small : (x : List ℕ) (s : SymbolTree) (k : ℤ) → symbol_named ss x ≡ Some s → s.place ≡ place.Constant k → (w : Scalar) → s.scalar ≡ w → in_range k ≡ true
  constant_small x s k is lies scalar.Int e = fit x s k is lies e
  constant_small x s k is lies scalar.Log e = subst (λ n. in_range n ≡ true) (logicals_are_truths p ss t x s k is lies e) (truth_small (is_true k))

  by_place : (x : List ℕ) (n : ℕ) (s : SymbolTree) (c : Content) → symbol_named ss x ≡ Some s → (q : Place) → s.place ≡ q → meant_by s.scalar n q ≡ Constant c → InRange c.number
  by_place x n s c is (place.Local g o) lies e = cc
  by_place x n s c is (place.Dummy d) lies e = cc
  by_place x n s c is (place.Block b o) lies e = cc
  by_place x n s c is (place.Constant k) lies e = (let same : k ≡ c.number = cc in subst (λ (n : ℤ). in_range n ≡ true) same (constant_small x s k is lies s.scalar refl))

  constants_small : (x : List ℕ) (c : Content) → names ss x ≡ Constant c → InRange c.number
  constants_small x c e = by_number (number_from 1 (symbol_names ss) x) refl e
    where
      by_symbol : (n : ℕ) → number_from 1 (symbol_names ss) x ≡ Some n → (o : Option SymbolTree) → symbol_at ss n ≡ o → meant_at n o ≡ Constant c → InRange c.number
      by_symbol n q None r f = cc
      by_symbol n q (Some s) r f = go (is_function s) f
        where
          go : (b : Bool) → (if b then Function else meant_by s.scalar n s.place) ≡ Constant c → InRange c.number
          go true h = cc
          go false h = by_place x n s c (named_there ss 1 n x q s (from_number ss n s r)) s.place refl h

      by_number : (o : Option ℕ) → number_from 1 (symbol_names ss) x ≡ o → meant_in ss o ≡ Constant c → InRange c.number
      by_number None q f = cc
      by_number (Some n) q f = by_symbol n q (symbol_at ss n) refl f

-- ---- programs

built_at : (P : ParsedTree → Type 0) (qs : List ParsedTree) → EachOf P qs → (i : ℕ) (p : ParsedTree) → slice_get qs i ≡ Some p → P p
built_at P [] h i p e = cc
built_at P (q ∷ qs) h zero p e = let same : q ≡ p = cc in subst P same h.first
built_at P (q ∷ qs) h (suc i) p e = built_at P qs h.others i p e

module _ (ps : List ParsedTree) (sss : List (List SymbolTree)) (g : Graph) (x : IsProgram ps sss g) where
  abbrev ks : List Known
  ks = known_of ps sss

  abbrev P : Program
  P = program_of (known_of ps sss) g

  abbrev of : Known → Routine
  of k = routine (known_of ps sss) g k

  built : (i : ℕ) (p : ParsedTree) → slice_get ps i ≡ Some p → IsBuilt p
  built i p e = built_at IsBuilt ps (all_built x.lines ps x.parsed) i p e

  has_numbers : (k : Known) → IsIn (known_of ps sss) k → HasNumbers (routine (known_of ps sss) g k)
  has_numbers k h =
      let m = module_at ps sss h.at k h.is_module in
      let b = built h.at m.parsed m.is_module.parsed in
      let t = laid_out ps sss x.tables h.at m.parsed m.table m.is_module.parsed m.is_module.table in
      let numbers : HasNumbers (of (known m.parsed m.table)) = record {
        constants = constants_small m.parsed m.table t (integers_fit x.lines ps sss x.parsed x.tables h.at m.parsed m.table m.is_module);
        bounds = built_bounds m.parsed m.table b (answered_by m.parsed m.table t);
        literals = body_literals m.parsed.module_read b.well b.formed;
      } in
      subst (λ (z : Known). HasNumbers (routine (known_of ps sss) g z)) m.same numbers

  all_numbers : (xs : List Known) → Each (IsIn (known_of ps sss)) xs → AllHaveNumbers (map of xs)
  all_numbers [] h = tt
  all_numbers (k ∷ xs) h = (has_numbers k h.0, all_numbers xs h.1)

  main_is : MainOf ps sss
  main_is = main_from ps sss x.tables (some_main ps sss g x.links)

  main_in : IsIn (known_of ps sss) (main_of (known_of ps sss))
  main_in = subst (IsIn (known_of ps sss)) (sym main_is.is_main) (record { at = main_is.at; is_module = known_module ps sss main_is.at main_is.parsed main_is.table main_is.is_module })

  others_numbers : AllHaveNumbers P.others
  others_numbers = subst AllHaveNumbers (subs_are (known_of ps sss) g g.order) (all_numbers (subs (known_of ps sss) g.order) (subs_in (known_of ps sss) g.order))

  begins_small : StoreInRange P.initial
  begins_small = store_small (known_of ps sss) g (λ i k e.
      let m = module_at ps sss i k e in
      let b = built i m.parsed m.is_module.parsed in
      subst (λ (z : Known). Every BeginsSmall z.symbols) m.same (data_small m.parsed m.table b (laid_out ps sss x.tables i m.parsed m.table m.is_module.parsed m.is_module.table)))

  in_each : InEachExecution (known_of ps sss) g (λ e. StoreInRange e.start)
  in_each turns input = begin_in_range (program_plan P turns) P.initial input (program_ranged P turns (has_numbers (main_of (known_of ps sss)) main_in) others_numbers) begins_small

pub stores_in_range : StoresStayInRange
stores_in_range ps sss g x = in_each ps sss g x
