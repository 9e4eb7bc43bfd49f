-- Reduction variables of a DO, and the functions of which its body takes a value.
use Rattle.std.proofs.Common.{◌≡◌, ℕ, suc, ◌-◌, ◌≤◌, ◌||◌, ◌&&◌, Bool, true, false, List, [], ◌∷◌, Option, Some, None, arith, refl, sym, ap, ◌∙◌, subst, true≢false, bytes_eq}
use Rattle.std.specs.Prelude.{if◌then◌else◌, not, slice_get}
use Rattle.std.proofs.lemmas.Bool.{or_parts, not-false}
use Rattle.std.proofs.lemmas.Slice.Eq.{bytes_eq-Decides}
use Rattle.f77_ast.specs.Trees.{StmtTree, WhatTree, ArmTrees, ElseTree, LoopTree, StmtTrees}
use Rattle.f77_ast.specs.Trees as tree
use Rattle.f77_ast.specs.DeclTrees.{ModuleTree}
use Rattle.f77_ast.specs.Hidden.{is_hidden}
use Rattle.f77_ast.specs.Shapes.{walk_stmt, walk_what, walk_body, walk_arms, walk_else, walk_list}
use Rattle.f77_ast.specs.Symbols.{BoundTree, SymbolTree, number_from}
use Rattle.f77_ast.specs.Shared.{symbol_at}
use Rattle.f77_ast.specs.declared.variable.Variable.{Variable}
use Rattle.f77_ast.specs.declared.variable.Variable.TheVariants.{Own, Block, Saved}
use Rattle.f77_ast.proofs.StorageLaws.{from_number}
use Rattle.f77_ast.proofs.NumberedNames.{number_from-least}
use Rattle.f77_meaning.specs.Modules.{symbol_names}
use Rattle.call_graph.specs.CallsIn.{Each}
use Rattle.call_graph.proofs.EachLaws.{each_joined}
use Rattle.preconditions.specs.transformer_algebra.Laws.{In, here, there}
use Rattle.loop_marker.specs.privatizer.Functions.{the_functions, functions_in, has_some as has_references, saves_all, own_functions}
use Rattle.loop_marker.specs.privatizer.Names.{may_copy}
use Rattle.loop_marker.specs.Jumps.{body_of}
use Rattle.loop_marker.specs.Marks.{Knowledge, is_in_bounds}
use Rattle.loop_marker.specs.Names.{has_name, have_name}
use Rattle.result_lines.specs.declared.reduction.ReduceOp.{ReduceOp}
use Rattle.result_lines.specs.declared.reduction.Part.{Part}
use Rattle.reductions.specs.Standings.{both, if_named, in_header, the_standing, standing_in}
use Rattle.reductions.specs.declared.standing.Standing.{Standing}
use Rattle.reductions.specs.declared.standing.Standing.TheVariants.{Absent, Accumulated, Otherwise}
use Rattle.reductions.specs.Reduced.{has_other_meaning, by_standing, has_some, if_symbol, operator_of, part_with, part_of}
use Rattle.laws_marks.specs.Verdicts.{IsPartOf}
use Rattle.fx_lists.proofs.Options.{none_some}
use Rattle.fx_lists.proofs.Texts.{same_name}

-- ---- standings

-- the body does not use the variable but to accumulate in it
abbrev IsUnused : Standing → Type 0
IsUnused Absent = Unit {0}
IsUnused (Accumulated p) = Unit {0}
IsUnused Otherwise = ⊥

both_unused : (a b : Standing) → IsUnused (both a b) → IsUnused a × IsUnused b
both_unused Absent b h = (tt, h)
both_unused Otherwise b h = absurd h
both_unused (Accumulated p) Absent h = (tt, tt)
both_unused (Accumulated p) (Accumulated q) h = (tt, tt)
both_unused (Accumulated p) Otherwise h = absurd h

unnamed : (b : Bool) → IsUnused (if_named b) → b ≡ false
unnamed true h = absurd h
unnamed false h = refl

-- ---- what hidden CALLs call is none of them

module _ (ss : List SymbolTree) (v : SymbolTree) where
  abbrev Other : List ℕ → Type 0
  Other y = bytes_eq v.name y ≡ false

  none : (b : Bool) → Each Other (if b then [] else [])
  none true = tt
  none false = tt

  called : (x : List ℕ) (b : Bool) → (b && bytes_eq v.name x) ≡ false → Each Other (if b then x ∷ [] else [])
  called x true e = (e, tt)
  called x false e = tt

  mutual
    stmt_others : (s : StmtTree) → IsUnused (walk_stmt (the_standing ss v) s) → Each Other (walk_stmt the_functions s)
    stmt_others (tree.stmt n label w) h = what_others n label w h

    what_others : (n : ℕ) (label : Option ℕ) (w : WhatTree) → IsUnused (walk_what (the_standing ss v) n label w) → Each Other (walk_what the_functions n label w)
    what_others n label (tree.assign a b) h = none (is_hidden n)
    what_others n label (tree.block_if arms other) h =
        let q = both_unused (walk_arms (the_standing ss v) arms) (walk_else (the_standing ss v) other) h in
        each_joined Other (walk_arms the_functions arms) (walk_else the_functions other) (arms_others arms q.0) (else_others other q.1)
    what_others n label (tree.logical_if test s) h = stmt_others s (both_unused (if_named (has_name v.name test)) (walk_stmt (the_standing ss v) s) h).1
    what_others n label (tree.do_loop l) h = loop_others l (both_unused (in_header v l) (walk_body (the_standing ss v) l) h).1
    what_others n label (tree.call x es) h = called x (is_hidden n) (or_parts (is_hidden n && bytes_eq v.name x) (have_name v.name es) (unnamed ((is_hidden n && bytes_eq v.name x) || have_name v.name es) h)).0
    what_others n label (tree.goto l) h = none (is_hidden n)
    what_others n label tree.continue h = none (is_hidden n)
    what_others n label tree.return h = none (is_hidden n)
    what_others n label (tree.stop text) h = none (is_hidden n)
    what_others n label (tree.print es) h = none (is_hidden n)
    what_others n label (tree.read es) h = none (is_hidden n)

    loop_others : (l : LoopTree) → IsUnused (walk_body (the_standing ss v) l) → Each Other (walk_body the_functions l)
    loop_others (tree.loop index first last step body) h = list_others body h

    arms_others : (arms : ArmTrees) → IsUnused (walk_arms (the_standing ss v) arms) → Each Other (walk_arms the_functions arms)
    arms_others tree.no_arms h = tt
    arms_others (tree.more_arms (tree.arm test body) rest) h =
        let q = both_unused (both (if_named (has_name v.name test)) (walk_list (the_standing ss v) body)) (walk_arms (the_standing ss v) rest) h in
        let p = both_unused (if_named (has_name v.name test)) (walk_list (the_standing ss v) body) q.0 in
        each_joined Other (walk_list the_functions body) (walk_arms the_functions rest) (list_others body p.1) (arms_others rest q.1)

    else_others : (other : ElseTree) → IsUnused (walk_else (the_standing ss v) other) → Each Other (walk_else the_functions other)
    else_others tree.no_else h = tt
    else_others (tree.otherwise body) h = list_others body h

    list_others : (list : StmtTrees) → IsUnused (walk_list (the_standing ss v) list) → Each Other (walk_list the_functions list)
    list_others tree.no_stmts h = tt
    list_others (tree.more_stmts s rest) h =
        let q = both_unused (walk_stmt (the_standing ss v) s) (walk_list (the_standing ss v) rest) h in
        each_joined Other (walk_stmt the_functions s) (walk_list the_functions rest) (stmt_others s q.0) (list_others rest q.1)

each_one : (P : List ℕ → Type 0) (xs : List (List ℕ)) → Each P xs → (y : List ℕ) → In y xs → P y
each_one P [] h y i = elim i [ ]
each_one P (x ∷ xs) h y here = h.0
each_one P (x ∷ xs) h y (there i) = each_one P xs h.1 y i

own_in_body : (m : ModuleTree) (body : StmtTrees) (y : List ℕ) → In y (own_functions m body) → In y (functions_in body)
own_in_body m body y i = go (has_references m.references) (not (saves_all m)) i
  where
    go : (a b : Bool) → In y (if a && b then functions_in body else []) → In y (functions_in body)
    go true true i = i
    go true false i = elim i [ ]
    go false b i = elim i [ ]

-- the name of a number
named_there : (ss : List SymbolTree) (n k : ℕ) (y : List ℕ) → number_from n (symbol_names ss) y ≡ Some k → (s : SymbolTree) → slice_get ss (k - n) ≡ Some s → s.name ≡ y
named_there [] n k y e s h = cc
named_there (x ∷ xs) n k y e s h = go (bytes_eq y x.name) refl e (named_there xs (suc n) k y)
  where
    zero_less : (n : ℕ) → n - n ≡ 0
    zero_less n = omega arith

    one_less : (n k : ℕ) → suc n ≤ k → k - n ≡ suc (k - suc n)
    one_less n k l = omega (arith, l)

    first : n ≡ k → y ≡ x.name → s.name ≡ y
    first same w =
        let one : Some x ≡ Some s = ap (slice_get (x ∷ xs)) (sym (ap (λ i. i - n) (sym same) ∙ zero_less n)) ∙ h in
        let is : x ≡ s = cc in
        ap (λ (z : SymbolTree). z.name) (sym is) ∙ sym w

    go : (b : Bool) → bytes_eq y x.name ≡ b → (if b then Some n else number_from (suc n) (symbol_names xs) y) ≡ Some k → (number_from (suc n) (symbol_names xs) y ≡ Some k → (z : SymbolTree) → slice_get xs (k - suc n) ≡ Some z → z.name ≡ y) → s.name ≡ y
    go true w q ih = (let same : n ≡ k = cc in first same ((bytes_eq-Decides y x.name).0 w))
    go false w q ih = ih q s (ap (slice_get (x ∷ xs)) (sym (one_less n k (number_from-least (suc n) k (symbol_names xs) y q))) ∙ h)

-- ---- a reduction variable

no_bounds : (bs : List BoundTree) → has_some bs ≡ false → bs ≡ []
no_bounds [] e = refl
no_bounds (b ∷ bs) e = absurd (true≢false e)

by_standing_is : (ss : List SymbolTree) (modules : List (List ℕ)) (s : Standing) (p : ReduceOp) → by_standing ss modules s ≡ Some p → s ≡ Accumulated p
by_standing_is ss modules Absent p e = none_some p e
by_standing_is ss modules Otherwise p e = none_some p e
by_standing_is ss modules (Accumulated q) p e = go (has_other_meaning ss modules q) e
  where
    go : (b : Bool) → (if b then None else Some q) ≡ Some p → Accumulated q ≡ Accumulated p
    go true f = none_some p f
    go false f = (let same : q ≡ p = cc in ap Accumulated same)

module _ (k : Knowledge) (modules : List (List ℕ)) (l : LoopTree) where
  part_by : (n : ℕ) (p : ReduceOp) → operator_of k.tree k.symbols modules l n ≡ Some p → IsPartOf k l (record { cell = n; op = p })
  part_by n p e = outer (not (may_copy k.tree k.symbols (Own n)) || is_in_bounds k.symbols l (Own n)) refl e
    where
      found : (s : SymbolTree) → not (may_copy k.tree k.symbols (Own n)) || is_in_bounds k.symbols l (Own n) ≡ false → symbol_at k.symbols n ≡ Some s → (b : Bool) → has_some s.bounds ≡ b →
          (if b then None else by_standing k.symbols modules (standing_in k.symbols s (body_of l))) ≡ Some p → IsPartOf k l (record { cell = n; op = p })
      found s t q true w f = none_some p f
      found s t q false w f =
          let a = or_parts (not (may_copy k.tree k.symbols (Own n))) (is_in_bounds k.symbols l (Own n)) t in
          record {
            may = not-false (may_copy k.tree k.symbols (Own n)) a.0;
            outside = a.1;
            symbol = s;
            is_symbol = q;
            scalar = no_bounds s.bounds w;
            stands = by_standing_is k.symbols modules (standing_in k.symbols s (body_of l)) p f;
          }

      inner : (o : Option SymbolTree) → not (may_copy k.tree k.symbols (Own n)) || is_in_bounds k.symbols l (Own n) ≡ false → symbol_at k.symbols n ≡ o → if_symbol k.symbols modules (body_of l) o ≡ Some p → IsPartOf k l (record { cell = n; op = p })
      inner None t q f = none_some p f
      inner (Some s) t q f = found s t q (has_some s.bounds) refl f

      outer : (b : Bool) → not (may_copy k.tree k.symbols (Own n)) || is_in_bounds k.symbols l (Own n) ≡ b → (if b then None else if_symbol k.symbols modules (body_of l) (symbol_at k.symbols n)) ≡ Some p → IsPartOf k l (record { cell = n; op = p })
      outer true t f = none_some p f
      outer false t f = inner (symbol_at k.symbols n) t refl f

  part_in : (n : ℕ) (o : Option ReduceOp) (q : Part) → operator_of k.tree k.symbols modules l n ≡ o → part_with n o ≡ Some q → (n ≡ q.cell) × IsPartOf k l q
  part_in n None q e f = none_some q f
  part_in n (Some p) q e f = (let same : record { cell = n; op = p } ≡ q = cc in (ap (λ (z : Part). z.cell) same, subst (IsPartOf k l) same (part_by n p e)))

  -- a variable that is a part is that of its cell
  pub part_is : (v : Variable) (q : Part) → part_of k.tree k.symbols modules l v ≡ Some q → (v ≡ Own q.cell) × IsPartOf k l q
  part_is (Own n) q e = (let r = part_in n (operator_of k.tree k.symbols modules l n) q refl e in (ap Own r.0, r.1))
  part_is (Block b) q e = none_some q e
  part_is (Saved s x) q e = none_some q e

-- a reduction variable is no function of which the body takes a value
pub part_no_function : (k : Knowledge) (l : LoopTree) (p : Part) → IsPartOf k l p → k.names ≡ symbol_names k.symbols → (y : List ℕ) → In y (own_functions k.tree (body_of l)) → number_from 1 k.names y ≡ Some p.cell → ⊥
part_no_function k l p h same y i e =
    let name : h.symbol.name ≡ y = named_there k.symbols 1 p.cell y (ap (λ xs. number_from 1 xs y) (sym same) ∙ e) h.symbol (from_number k.symbols p.cell h.symbol h.is_symbol) in
    let others = list_others k.symbols h.symbol (body_of l) (subst IsUnused (sym h.stands) tt) in
    let other : bytes_eq h.symbol.name y ≡ false = each_one (λ z. bytes_eq h.symbol.name z ≡ false) (functions_in (body_of l)) others y (own_in_body k.tree (body_of l) y i) in
    true≢false (sym (ap (λ z. bytes_eq z y) name ∙ same_name y) ∙ other)
