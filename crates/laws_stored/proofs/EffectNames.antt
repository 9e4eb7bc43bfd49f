-- The variables of effects are symbols, blocks and saved locals with names.
use Rattle.std.proofs.Common.{◌≡◌, ℕ, zero, suc, ◌+◌, ◌<◌, ◌≤◌, arith, Bool, true, false, List, [], ◌∷◌, length, Option, Some, None, refl}
use Rattle.std.specs.Prelude.{if◌then◌else◌, bytes_eq, ◌-◌}
use Rattle.std.specs.declared.cmp.Ordering.{Ordering}
use Rattle.std.specs.declared.cmp.Ordering.TheVariants.{Less, Equal, Greater}
use Rattle.std.specs.Ordering.{match_ordering}
use Rattle.std.proofs.lemmas.Bool.{and_from}
use Rattle.f77_ast.specs.Trees.{ExprTree, ExprTrees, StmtTree, WhatTree, ArmTree, ArmTrees, ElseTree, LoopTree, StmtTrees}
use Rattle.f77_ast.specs.Trees as tree
use Rattle.f77_ast.specs.declared.symbol.Place.{Place}
use Rattle.f77_ast.specs.declared.symbol.Place.TheVariants.{Local, Dummy, Block as Lies, Constant}
use Rattle.f77_ast.specs.declared.variable.Variable.{Variable}
use Rattle.f77_ast.specs.declared.variable.Variable.TheVariants.{Own, Block, Saved}
use Rattle.f77_ast.specs.Symbols.{BoundTree, SymbolTree}
use Rattle.f77_ast.specs.Shared.{symbol_at}
use Rattle.f77_ast.specs.declared.effect_set.EffectSet.{EffectSet}
use Rattle.f77_ast.specs.declared.results.At.{At}
use Rattle.f77_ast.specs.Variables.{variable_cmp, merged, union}
use Rattle.f77_ast.specs.Effects.{no_effect, unite}
use Rattle.f77_ast.specs.Summaries.{SummaryTree}
use Rattle.call_graph.specs.Actuals.{symbol_with_name, is_array}
use Rattle.in_out_regions.specs.effects.Names.{number_at, variable_number, number_of, one, own, array, variable_named}
use Rattle.in_out_regions.specs.effects.Reads.{reads, with_reads, inner_reads, actual_reads, with_actuals, with_items, with_named}
use Rattle.in_out_regions.specs.effects.Statement.{with_tests, step_reads, loop_effect, proper_of}
use Rattle.in_out_regions.specs.effects.Callee.{is_like, first_like, or_block, actual_variable, if_saved, at_place, symbol_in_caller, in_caller, all_in_caller, call_effect}
use Rattle.in_out_regions.specs.effects.List.{Callees, stmt_effect, with_parts, with_list, with_arms, with_arm, with_else, with_loop, at_stmt, at_parts, at_list, at_arms, at_arm, at_else, at_loop}
use Rattle.in_out_regions.specs.effects.Modules.{with_bounds, with_symbols, summary_of, cumulated_of}
use Rattle.f77_meaning.specs.Modules.{symbol_names}
use Rattle.base_json.specs.Scopes.{is_short_name, is_block}
use Rattle.base_values.specs.Naming.{Each, VariableFits}
use Rattle.laws_stored.proofs.Lists.{each_kept, each-append}
use Rattle.laws_stored.proofs.Symbols.{PlaceNamed, SymbolNamed, SymbolsNamed, named_at, symbol_between}
use Rattle.laws_lines.proofs.Regions.LinkVars.{first_between as like_between}
use Rattle.call_graph.specs.Visible.{is_visible_to_callers}

-- ---- lists of variables

module _ (N : Variable → Type 0) where
  ordered_each : (o : Ordering) (xs ys zs : List Variable) → Each N xs → Each N ys → Each N zs → Each N (match_ordering o xs ys zs)
  ordered_each Less xs ys zs h i k = h
  ordered_each Equal xs ys zs h i k = i
  ordered_each Greater xs ys zs h i k = k

  merged_each : (v : Variable) (others : List Variable → List Variable) (ws : List Variable) → N v → ((xs : List Variable) → Each N xs → Each N (others xs)) → Each N ws → Each N (merged v others ws)
  merged_each v others [] h f k = (h, f [] tt)
  merged_each v others (w ∷ ws) h f k =
      ordered_each (variable_cmp v w) (v ∷ others (w ∷ ws)) (v ∷ others ws) (w ∷ merged v others ws) (h, f (w ∷ ws) k) (h, f ws k.1) (k.0, merged_each v others ws h f k.1)

  pub union_each : (vs ws : List Variable) → Each N vs → Each N ws → Each N (union vs ws)
  union_each [] ws h k = k
  union_each (v ∷ vs) ws h k = merged_each v (union vs) ws h.0 (λ xs i. union_each vs xs h.1 i) k

-- ---- the numbers of variables

number_between : (n : ℕ) (ss : List SymbolTree) (x : List ℕ) (k : ℕ) → number_of n ss x ≡ Some k → (n ≤ k) × (k < n + length ss)
number_between n [] x k e = cc
number_between n (s ∷ ss) x k e = go (bytes_eq x s.name) e (number_between (suc n) ss x k)
  where
    here : (p : Place) → number_at n p ≡ Some k → (n ≤ k) × (k < n + suc (length ss))
    here (Local g o) q = let same : n ≡ k = cc in (omega (arith, same), omega (arith, same))
    here (Dummy m) q = let same : n ≡ k = cc in (omega (arith, same), omega (arith, same))
    here (Lies b o) q = let same : n ≡ k = cc in (omega (arith, same), omega (arith, same))
    here (Constant m) q = cc

    go : (b : Bool) → (if b then variable_number n s else number_of (suc n) ss x) ≡ Some k → (number_of (suc n) ss x ≡ Some k → (suc n ≤ k) × (k < suc n + length ss)) → (n ≤ k) × (k < n + suc (length ss))
    go true q ih = here s.place q
    go false q ih =
        let r = ih q in
        let least = r.0 in
        let most = r.1 in
        (omega (arith, least), omega (arith, most))

-- ---- a module with these symbols

abbrev pub EffectNamed : List (List ℕ) → EffectSet → Type 0
EffectNamed names e = Each (VariableFits names) e.reads × Each (VariableFits names) e.writes

-- a summary of a module of this name
pub record SummaryNamed (x : List ℕ) (c : SummaryTree EffectSet) : Type 0 where
  pub name : is_short_name x ≡ true
  pub symbols : SymbolsNamed c.symbols
  pub value : EffectNamed (symbol_names c.symbols) c.value

abbrev pub MaybeNamed : List ℕ → Option (SummaryTree EffectSet) → Type 0
MaybeNamed x None = Unit {0}
MaybeNamed x (Some c) = SummaryNamed x c

abbrev pub CalleesNamed : Callees → Type 0
CalleesNamed cs = (x : List ℕ) → MaybeNamed x (cs x)

module _ (ss : List SymbolTree) where
  abbrev N : Variable → Type 0
  N = VariableFits (symbol_names ss)

  abbrev AreN : List Variable → Type 0
  AreN vs = Each N vs

  abbrev E : EffectSet → Type 0
  E e = EffectNamed (symbol_names ss) e

  join : (vs ws : List Variable) → AreN vs → AreN ws → AreN (union vs ws)
  join vs ws h k = union_each N vs ws h k

  one_named : (o : Option ℕ) → ((n : ℕ) → o ≡ Some n → (1 ≤ n) × (n < 1 + length ss)) → AreN (one o)
  one_named None f = tt
  one_named (Some n) f = let r = f n refl in (symbol_between ss n r.0 r.1, tt)

  own_named : (x : List ℕ) → AreN (own x ss)
  own_named x = one_named (number_of 1 ss x) (λ n e. number_between 1 ss x n e)

  array_named : (x : List ℕ) → AreN (array x ss)
  array_named x = go (is_array (symbol_with_name ss x))
    where
      go : (b : Bool) → AreN (if b then own x ss else [])
      go true = own_named x
      go false = tt

  variable_is : (e : ExprTree) → AreN (variable_named e ss)
  variable_is (tree.int n) = tt
  variable_is (tree.log b) = tt
  variable_is (tree.name x) = own_named x
  variable_is (tree.element x es) = array_named x
  variable_is (tree.paren e) = tt
  variable_is (tree.unary o e) = tt
  variable_is (tree.binary o a b) = tt
  variable_is (tree.chars x) = tt

  -- ---- what is read

  mutual
    reads_named : (e : ExprTree) → AreN (reads e ss)
    reads_named (tree.int n) = tt
    reads_named (tree.log b) = tt
    reads_named (tree.name x) = own_named x
    reads_named (tree.element x es) = join (with_reads es ss []) (array x ss) (all_named es [] tt) (array_named x)
    reads_named (tree.paren e) = reads_named e
    reads_named (tree.unary o e) = reads_named e
    reads_named (tree.binary o a b) = join (reads a ss) (reads b ss) (reads_named a) (reads_named b)
    reads_named (tree.chars x) = tt

    all_named : (es : ExprTrees) (vs : List Variable) → AreN vs → AreN (with_reads es ss vs)
    all_named tree.no_exprs vs h = h
    all_named (tree.more_exprs e es) vs h = all_named es (union vs (reads e ss)) (join vs (reads e ss) h (reads_named e))

  inner_named : (e : ExprTree) → AreN (inner_reads e ss)
  inner_named (tree.int n) = tt
  inner_named (tree.log b) = tt
  inner_named (tree.name x) = tt
  inner_named (tree.element x es) = all_named es [] tt
  inner_named (tree.paren e) = tt
  inner_named (tree.unary o e) = tt
  inner_named (tree.binary o a b) = tt
  inner_named (tree.chars x) = tt

  actual_named : (e : ExprTree) → AreN (actual_reads e ss)
  actual_named (tree.int n) = tt
  actual_named (tree.log b) = tt
  actual_named (tree.name x) = tt
  actual_named (tree.element x es) = all_named es [] tt
  actual_named (tree.paren e) = reads_named e
  actual_named (tree.unary o e) = reads_named e
  actual_named (tree.binary o a b) = join (reads a ss) (reads b ss) (reads_named a) (reads_named b)
  actual_named (tree.chars x) = tt

  actuals_named : (es : ExprTrees) (vs : List Variable) → AreN vs → AreN (with_actuals es ss vs)
  actuals_named tree.no_exprs vs h = h
  actuals_named (tree.more_exprs e es) vs h = actuals_named es (union vs (actual_reads e ss)) (join vs (actual_reads e ss) h (actual_named e))

  items_named : (es : ExprTrees) (vs : List Variable) → AreN vs → AreN (with_items es ss vs)
  items_named tree.no_exprs vs h = h
  items_named (tree.more_exprs e es) vs h = items_named es (union vs (inner_reads e ss)) (join vs (inner_reads e ss) h (inner_named e))

  targets_named : (es : ExprTrees) (vs : List Variable) → AreN vs → AreN (with_named es ss vs)
  targets_named tree.no_exprs vs h = h
  targets_named (tree.more_exprs e es) vs h = targets_named es (union vs (variable_named e ss)) (join vs (variable_named e ss) h (variable_is e))

  tests_named : (arms : ArmTrees) (vs : List Variable) → AreN vs → AreN (with_tests arms ss vs)
  tests_named tree.no_arms vs h = h
  tests_named (tree.more_arms (tree.arm test body) rest) vs h = tests_named rest (union vs (reads test ss)) (join vs (reads test ss) h (reads_named test))

  step_named : (e : Option ExprTree) → AreN (step_reads e ss)
  step_named None = tt
  step_named (Some e) = reads_named e

  -- ---- statements

  loop_named : (l : LoopTree) → E (loop_effect l ss)
  loop_named (tree.loop index first last step body) = (
    join (union (reads first ss) (reads last ss)) (step_reads step ss) (join (reads first ss) (reads last ss) (reads_named first) (reads_named last)) (step_named step),
    own_named index,
  )

  proper_named : (w : WhatTree) → E (proper_of w ss)
  proper_named (tree.assign a b) = (join (reads b ss) (inner_reads a ss) (reads_named b) (inner_named a), variable_is a)
  proper_named (tree.block_if arms other) = (tests_named arms [] tt, tt)
  proper_named (tree.logical_if e s) = (reads_named e, tt)
  proper_named (tree.do_loop l) = loop_named l
  proper_named (tree.call x es) = (actuals_named es [] tt, tt)
  proper_named (tree.goto l) = (tt, tt)
  proper_named tree.continue = (tt, tt)
  proper_named tree.return = (tt, tt)
  proper_named (tree.stop text) = (tt, tt)
  proper_named (tree.print es) = (all_named es [] tt, tt)
  proper_named (tree.read es) = (items_named es [] tt, targets_named es [] tt)

  united_named : (a b : EffectSet) → E a → E b → E (unite a b)
  united_named a b h k = (join a.reads b.reads h.0 k.0, join a.writes b.writes h.1 k.1)

  -- ---- CALLs

  actual_is : (es : ExprTrees) (k : ℕ) → AreN (actual_variable es k ss)
  actual_is tree.no_exprs k = tt
  actual_is (tree.more_exprs e es) zero = variable_is e
  actual_is (tree.more_exprs e es) (suc k) = actual_is es k

  saved_named : (saved : Bool) (x y : List ℕ) → is_short_name x ≡ true → is_short_name y ≡ true → AreN (if_saved saved x y)
  saved_named true x y h k = (and_from (is_short_name x) (is_short_name y) h k, tt)
  saved_named false x y h k = tt

  block_named : (b : List ℕ) (o : Option ℕ) → is_block b ≡ true → ((n : ℕ) → o ≡ Some n → (1 ≤ n) × (n < 1 + length ss)) → AreN (or_block b o)
  block_named b None h f = (h, tt)
  block_named b (Some n) h f = let r = f n refl in (symbol_between ss n r.0 r.1, tt)

  place_named : (s : SymbolTree) → SymbolNamed s → (x : List ℕ) → is_short_name x ≡ true → (es : ExprTrees) (cs : List SymbolTree) → AreN (at_place s.place s x es cs ss)
  place_named s h x i es cs = go s.place h.1
    where
      go : (p : Place) → PlaceNamed p → AreN (at_place p s x es cs ss)
      go (Local g o) k = saved_named s.saved x s.name i h.0
      go (Dummy m) k = actual_is es (m - 1)
      go (Lies b o) k = block_named b (first_like 1 ss b o cs s ss) k (λ n e. like_between 1 ss b o cs s ss n e)
      go (Constant m) k = tt

  symbol_named : (o : Option SymbolTree) → ((s : SymbolTree) → o ≡ Some s → SymbolNamed s) → (x : List ℕ) → is_short_name x ≡ true → (es : ExprTrees) (cs : List SymbolTree) → AreN (symbol_in_caller o x es cs ss)
  symbol_named None f x i es cs = tt
  symbol_named (Some s) f x i es cs = place_named s (f s refl) x i es cs

  module _ (x : List ℕ) (i : is_short_name x ≡ true) (es : ExprTrees) (cs : List SymbolTree) (named : SymbolsNamed cs) where
    caller_named : (v : Variable) → VariableFits (symbol_names cs) v → AreN (in_caller v x es cs ss)
    caller_named (Own n) h = symbol_named (symbol_at cs n) (λ s e. named_at cs n s named e) x i es cs
    caller_named (Block b) h = (h, tt)
    caller_named (Saved t y) h = (h, tt)

    all_in_named : (vs ws : List Variable) → Each (VariableFits (symbol_names cs)) vs → AreN ws → AreN (all_in_caller vs x es cs ss ws)
    all_in_named [] ws h k = k
    all_in_named (v ∷ vs) ws h k = all_in_named vs (union ws (in_caller v x es cs ss)) h.1 (join ws (in_caller v x es cs ss) k (caller_named v h.0))

  call_named : (x : List ℕ) (c : Option (SummaryTree EffectSet)) (es : ExprTrees) → MaybeNamed x c → E (call_effect c x es ss)
  call_named x None es h = (tt, tt)
  call_named x (Some c) es h = (all_in_named x h.name es c.symbols h.symbols c.value.reads [] h.value.0 tt, all_in_named x h.name es c.symbols h.symbols c.value.writes [] h.value.1 tt)

  -- ---- with parts and callees

  module _ (cs : Callees) (named : CalleesNamed cs) where
    mutual
      stmt_named : (s : StmtTree) → E (stmt_effect s cs ss)
      stmt_named (tree.stmt n label w) = parts_named w (proper_of w ss) (proper_named w)

      parts_named : (w : WhatTree) (e : EffectSet) → E e → E (with_parts w cs ss e)
      parts_named (tree.assign a b) e h = h
      parts_named (tree.block_if arms other) e h = else_named other (with_arms arms cs ss e) (arms_named arms e h)
      parts_named (tree.logical_if test s) e h = united_named e (stmt_effect s cs ss) h (stmt_named s)
      parts_named (tree.do_loop l) e h = body_named l e h
      parts_named (tree.call x es) e h = united_named e (call_effect (cs x) x es ss) h (call_named x (cs x) es (named x))
      parts_named (tree.goto l) e h = h
      parts_named tree.continue e h = h
      parts_named tree.return e h = h
      parts_named (tree.stop text) e h = h
      parts_named (tree.print es) e h = h
      parts_named (tree.read es) e h = h

      list_named : (body : StmtTrees) (e : EffectSet) → E e → E (with_list body cs ss e)
      list_named tree.no_stmts e h = h
      list_named (tree.more_stmts s rest) e h = list_named rest (unite e (stmt_effect s cs ss)) (united_named e (stmt_effect s cs ss) h (stmt_named s))

      arms_named : (arms : ArmTrees) (e : EffectSet) → E e → E (with_arms arms cs ss e)
      arms_named tree.no_arms e h = h
      arms_named (tree.more_arms a rest) e h = arms_named rest (with_arm a cs ss e) (arm_named a e h)

      arm_named : (a : ArmTree) (e : EffectSet) → E e → E (with_arm a cs ss e)
      arm_named (tree.arm test body) e h = list_named body e h

      else_named : (other : ElseTree) (e : EffectSet) → E e → E (with_else other cs ss e)
      else_named tree.no_else e h = h
      else_named (tree.otherwise body) e h = list_named body e h

      body_named : (l : LoopTree) (e : EffectSet) → E e → E (with_loop l cs ss e)
      body_named (tree.loop index first last step body) e h = list_named body e h

    abbrev A : At EffectSet → Type 0
    A a = E a.value

    mutual
      at_stmt_named : (s : StmtTree) → Each A (at_stmt s cs ss)
      at_stmt_named (tree.stmt n label w) = (parts_named w (proper_of w ss) (proper_named w), at_parts_named w)

      at_parts_named : (w : WhatTree) → Each A (at_parts w cs ss)
      at_parts_named (tree.assign a b) = tt
      at_parts_named (tree.block_if arms other) = each-append A (at_arms arms cs ss) (at_else other cs ss) (at_arms_named arms) (at_else_named other)
      at_parts_named (tree.logical_if test s) = at_stmt_named s
      at_parts_named (tree.do_loop l) = at_loop_named l
      at_parts_named (tree.call x es) = tt
      at_parts_named (tree.goto l) = tt
      at_parts_named tree.continue = tt
      at_parts_named tree.return = tt
      at_parts_named (tree.stop text) = tt
      at_parts_named (tree.print es) = tt
      at_parts_named (tree.read es) = tt

      at_list_named : (body : StmtTrees) → Each A (at_list body cs ss)
      at_list_named tree.no_stmts = tt
      at_list_named (tree.more_stmts s rest) = each-append A (at_stmt s cs ss) (at_list rest cs ss) (at_stmt_named s) (at_list_named rest)

      at_arms_named : (arms : ArmTrees) → Each A (at_arms arms cs ss)
      at_arms_named tree.no_arms = tt
      at_arms_named (tree.more_arms a rest) = each-append A (at_arm a cs ss) (at_arms rest cs ss) (at_arm_named a) (at_arms_named rest)

      at_arm_named : (a : ArmTree) → Each A (at_arm a cs ss)
      at_arm_named (tree.arm test body) = at_list_named body

      at_else_named : (other : ElseTree) → Each A (at_else other cs ss)
      at_else_named tree.no_else = tt
      at_else_named (tree.otherwise body) = at_list_named body

      at_loop_named : (l : LoopTree) → Each A (at_loop l cs ss)
      at_loop_named (tree.loop index first last step body) = at_list_named body

    -- ---- what callers see

    bounds_named : (bs : List BoundTree) (vs : List Variable) → AreN vs → AreN (with_bounds bs ss vs)
    bounds_named [] vs h = h
    bounds_named (b ∷ bs) vs h =
        let low = union vs (reads b.low ss) in
        bounds_named bs (union low (step_reads b.high ss)) (join low (step_reads b.high ss) (join vs (reads b.low ss) h (reads_named b.low)) (step_named b.high))

    symbols_named : (rest : List SymbolTree) (vs : List Variable) → AreN vs → AreN (with_symbols rest ss vs)
    symbols_named [] vs h = h
    symbols_named (s ∷ rest) vs h = symbols_named rest (with_bounds s.bounds ss vs) (bounds_named s.bounds vs h)

    summary_named : (e : EffectSet) → E e → E (summary_of e ss)
    summary_named e h = (
      each_kept N (is_visible_to_callers ss) (union e.reads (with_symbols ss ss [])) (join e.reads (with_symbols ss ss []) h.0 (symbols_named ss [] tt)),
      each_kept N (is_visible_to_callers ss) e.writes h.1,
    )

    pub effects_named : (body : StmtTrees) → Each A (cumulated_of body cs ss).at × E (cumulated_of body cs ss).summary
    effects_named body = (at_list_named body, summary_named (with_list body cs ss no_effect) (list_named body no_effect (tt, tt)))
