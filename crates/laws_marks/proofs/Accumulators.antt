-- The reduction variables of a directive, by the symbols for which the names of its clauses stand.
use Rattle.std.proofs.Common.{◌≡◌, ◌⊎◌, inl, inr, ⊎_elim, ℕ, Bool, true, false, List, [], ◌∷◌, map, Option, Some, None, refl, sym, ap, ◌∙◌, subst, nat_eq, bytes_eq, true≢false}
use Rattle.std.specs.Prelude.{is_some, if◌then◌else◌}
use Rattle.std.specs.List.{IsDistinct}
use Rattle.std.proofs.lemmas.Bool.{eqb-true}
use Rattle.system_text.specs.SystemText.{name_at}
use Rattle.f77_ast.specs.Places.{Meant, Constant, Variable, Function, Places}
use Rattle.f77_ast.specs.Symbols.{SymbolTree}
use Rattle.f77_meaning.specs.Modules.{names, symbol_names}
use Rattle.preconditions.specs.transformer_algebra.Laws.{In, here, there}
use Rattle.result_lines.specs.declared.reduction.Part.{Part}
use Rattle.laws_interleavings.specs.Reductions.{ReduceOp, Accumulator, operator_at, is_accumulator}
use Rattle.laws_interleavings.specs.ReducedLoops.{AreDistinct}
use Rattle.laws_interleavings.specs.Accumulating.{with_meaning, accumulators_of}
use Rattle.laws_analyses.proofs.NameLaws.{name_number}
use Rattle.laws_marks.specs.Names.{op_meant, reduction_named}
use Rattle.laws_marks.specs.Units.{IsPassing}
use Rattle.laws_marks.specs.Verdicts.{AreOnce}
use Rattle.laws_marks.proofs.Written.{name_back}
use Rattle.fx_lists.proofs.Options.{some_same}
use Rattle.fx_lists.proofs.Numbers.{nat_eq_same}

-- ---- lists of reduction variables

first_or : {T : Type 0} (x y : T) (ys : List T) → In x (y ∷ ys) → (x ≡ y) ⊎ In x ys
first_or x y ys here = inl refl
first_or x y ys (there i) = inr i

-- the one at a unit
pub record Found (as' : List Accumulator) (u : ℕ) (o : ReduceOp) : Type 0 where
  pub one : Accumulator
  pub is_one : In one as'
  pub unit : one.unit ≡ u
  pub op : one.op ≡ o

pub found : (as' : List Accumulator) (u : ℕ) (o : ReduceOp) → operator_at as' u ≡ Some o → Found as' u o
found [] u o e = cc
found (a ∷ as') u o e = go (nat_eq u a.unit) refl e (found as' u o)
  where
    go : (b : Bool) → nat_eq u a.unit ≡ b → (if b then Some a.op else operator_at as' u) ≡ Some o → (operator_at as' u ≡ Some o → Found as' u o) → Found (a ∷ as') u o
    go true q h ih = record { one = a; is_one = here; unit = sym (eqb-true u a.unit q); op = (let z : Some a.op ≡ Some o = h in cc) }
    go false q h ih = (let f = ih h in record { one = f.one; is_one = there f.is_one; unit = f.unit; op = f.op })

-- each has its unit
pub at_unit : (as' : List Accumulator) (a : Accumulator) → In a as' → is_accumulator as' a.unit ≡ true
at_unit [] a i = elim i [ ]
at_unit (b ∷ as') a i = go (nat_eq a.unit b.unit) refl (at_unit as' a)
  where
    go : (z : Bool) → nat_eq a.unit b.unit ≡ z → (In a as' → is_accumulator as' a.unit ≡ true) → is_some (if z then Some b.op else operator_at as' a.unit) ≡ true
    go true e ih = refl
    go false e ih =
        ⊎_elim
        (λ q. absurd (true≢false (sym (nat_eq_same a.unit) ∙ (ap (λ (c : Accumulator). nat_eq a.unit c.unit) q ∙ e))))
        ih (first_or a b as' i)

-- ---- of the symbols of a table

module _ (ss : List SymbolTree) (distinct : IsDistinct bytes_eq (symbol_names ss)) (at : Places) where
  abbrev pub of_parts : List Part → List Accumulator
  of_parts ps = accumulators_of (map (reduction_named ss) ps) (names ss) at

  -- the name of the symbol stands for it
  abbrev pub IsNamed : Part → Type 0
  IsNamed p = names ss (name_at (symbol_names ss) p.cell) ≡ Variable p.cell

  number_of : (n : ℕ) → IsPassing ss n → (v : ℕ) → names ss (name_at (symbol_names ss) n) ≡ Variable v → v ≡ n
  number_of n p v e = some_same v n (sym (name_number ss (name_at (symbol_names ss) n) v e) ∙ name_back ss n p.symbol distinct p.is_symbol)

  -- it is one of these
  pub record IsOfPart (ps : List Part) (a : Accumulator) : Type 0 where
    pub part : Part
    pub is_one : In part ps
    pub named : names ss (name_at (symbol_names ss) part.cell) ≡ Variable part.cell
    pub unit : a.unit ≡ (at part.cell).first
    pub op : a.op ≡ op_meant part.op

  later : (p : Part) (ps : List Part) (a : Accumulator) → IsOfPart ps a → IsOfPart (p ∷ ps) a
  later p ps a q = record { part = q.part; is_one = there q.is_one; named = q.named; unit = q.unit; op = q.op }

  pub part_of : (ps : List Part) → ((p : Part) → In p ps → IsPassing ss p.cell) → (a : Accumulator) → In a (of_parts ps) → IsOfPart ps a
  part_of [] pass a i = elim i [ ]
  part_of (p ∷ ps) pass a i = go (names ss (name_at (symbol_names ss) p.cell)) refl i (λ j. later p ps a (part_of ps (λ q k. pass q (there k)) a j))
    where
      go : (m : Meant) → names ss (name_at (symbol_names ss) p.cell) ≡ m → In a (with_meaning (op_meant p.op) m at (of_parts ps)) → (In a (of_parts ps) → IsOfPart (p ∷ ps) a) → IsOfPart (p ∷ ps) a
      go (Constant c) e j ih = ih j
      go (Variable v) e j ih =
          let same : v ≡ p.cell = number_of p.cell (pass p here) v e in
          ⊎_elim
          (λ q. record { part = p; is_one = here; named = e ∙ ap Variable same; unit = ap (λ (b : Accumulator). b.unit) q ∙ ap (λ n. (at n).first) same; op = ap (λ (b : Accumulator). b.op) q })
          ih (first_or a (record { unit = (at v).first; op = op_meant p.op }) (of_parts ps) j)
      go Function e j ih = ih j

  -- each of these that has a name is one
  pub is_there : (ps : List Part) (p : Part) → In p ps → names ss (name_at (symbol_names ss) p.cell) ≡ Variable p.cell → In {A = Accumulator} (record { unit = (at p.cell).first; op = op_meant p.op }) (of_parts ps)
  is_there [] p i e = elim i [ ]
  is_there (q ∷ ps) p i e = ⊎_elim here_so (λ j. more (names ss (name_at (symbol_names ss) q.cell)) (is_there ps p j e)) (first_or p q ps i)
    where
      a : Accumulator
      a = record { unit = (at p.cell).first; op = op_meant p.op }

      here_so : p ≡ q → In a (with_meaning (op_meant q.op) (names ss (name_at (symbol_names ss) q.cell)) at (of_parts ps))
      here_so s =
          subst (λ (z : Part). In a (with_meaning (op_meant z.op) (names ss (name_at (symbol_names ss) z.cell)) at (of_parts ps))) s
          (subst (λ m. In a (with_meaning (op_meant p.op) m at (of_parts ps))) (sym e) here)

      more : (m : Meant) → In a (of_parts ps) → In a (with_meaning (op_meant q.op) m at (of_parts ps))
      more (Constant c) j = j
      more (Variable v) j = there j
      more Function j = j

  -- no two have one unit, where two of different symbols have not
  pub distinct_units : (Q : Part → Type 0) → ((p q : Part) → Q p → Q q → (q.cell ≡ p.cell → ⊥) → IsNamed p → IsNamed q → (at p.cell).first ≡ (at q.cell).first → ⊥) → (ps : List Part) → ((p : Part) → In p ps → IsPassing ss p.cell) → ((p : Part) → In p ps → Q p) → AreOnce ps → AreDistinct (of_parts ps)
  distinct_units Q differ [] pass each once = tt
  distinct_units Q differ (p ∷ ps) pass each once = go (names ss (name_at (symbol_names ss) p.cell)) refl (distinct_units Q differ ps (λ q i. pass q (there i)) (λ q i. each q (there i)) once.1)
    where
      alone : IsNamed p → (o : Option ReduceOp) → operator_at (of_parts ps) (at p.cell).first ≡ o → o ≡ None
      alone n None e = refl
      alone n (Some o) e =
          let f = found (of_parts ps) (at p.cell).first o e in
          let q = part_of ps (λ q i. pass q (there i)) f.one f.is_one in
          absurd (differ p q.part (each p here) (each q.part (there q.is_one)) (once.0 q.part q.is_one) n q.named (sym f.unit ∙ q.unit))

      go : (m : Meant) → names ss (name_at (symbol_names ss) p.cell) ≡ m → AreDistinct (of_parts ps) → AreDistinct (with_meaning (op_meant p.op) m at (of_parts ps))
      go (Constant c) e ih = ih
      go (Variable v) e ih =
          let same : v ≡ p.cell = number_of p.cell (pass p here) v e in
          (subst (λ n. operator_at (of_parts ps) (at n).first ≡ None) (sym same) (alone (e ∙ ap Variable same) (operator_at (of_parts ps) (at p.cell).first) refl), ih)
      go Function e ih = ih
