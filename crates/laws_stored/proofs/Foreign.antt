-- The units of blocks that a transformer speaks of without a cell of the module are of blocks with names.
use Rattle.std.proofs.Common.{◌≡◌, ℕ, Bool, true, false, ◌&&◌, List, [], ◌∷◌, ◌++◌, Option, Some, None, refl}
use Rattle.affine_systems.specs.declared.row.System.{System}
use Rattle.affine_systems.specs.Calls.{meet}
use Rattle.affine_systems.proofs.Basics.{if_cases}
use Rattle.f77_ast.specs.Trees.{ExprTrees, StmtTree, WhatTree, ArmTree, ArmTrees, ElseTree, LoopTree, StmtTrees}
use Rattle.f77_ast.specs.Trees as tree
use Rattle.f77_ast.specs.declared.symbol.Place.{Place}
use Rattle.f77_ast.specs.declared.symbol.Place.TheVariants.{Local, Dummy, Block, Constant}
use Rattle.f77_ast.specs.declared.variable.Unit.{Unit as BlockUnit}
use Rattle.f77_ast.specs.Symbols.{SymbolTree}
use Rattle.f77_ast.specs.Shared.{symbol_at, place_of, place_at}
use Rattle.f77_ast.specs.declared.results.At.{At}
use Rattle.f77_ast.specs.Summaries.{SummaryTree}
use Rattle.affine_forms.specs.declared.affine.Affine.{Affine}
use Rattle.affine_forms.specs.Forms.{affine_of}
use Rattle.affine_forms.specs.Conditions.{no_rows, condition_of}
use Rattle.preconditions.specs.transformer_algebra.declared.transformer.Transformer.{Transformer}
use Rattle.std.specs.declared.cmp.Ordering.{Ordering}
use Rattle.std.specs.declared.cmp.Ordering.TheVariants.{Less, Equal, Greater}
use Rattle.std.specs.Ordering.{match_ordering}
use Rattle.preconditions.specs.transformer_algebra.Units.{unit_cmp, with_unit, with_units, joined_units}
use Rattle.preconditions.specs.transformer_algebra.Transformers.{test, identity_transformer, nowhere, followed, iterate, units_from, one_of}
use Rattle.preconditions.specs.transformer_algebra.Loops.{next}
use Rattle.preconditions.specs.call_translation.Scopes.{ScopeTree}
use Rattle.preconditions.specs.call_translation.Actuals.{named_cell}
use Rattle.preconditions.specs.call_translation.Common.{declares}
use Rattle.preconditions.specs.call_translation.Call.{CallTree}
use Rattle.preconditions.specs.call_translation.Summary.{if_hidden, hidden_units, unit_of, units_of, call_transformer}
use Rattle.preconditions.specs.transformers.Given.{Callees}
use Rattle.preconditions.specs.transformers.Jumps.{unstructured, is_end}
use Rattle.preconditions.specs.transformers.Lists.{followed_by, in_order, in_any_order, list_of}
use Rattle.preconditions.specs.transformers.Loops.{loop_parts}
use Rattle.preconditions.specs.transformers.Simple.{becomes}
use Rattle.preconditions.specs.transformers.Whiles.{WhileTree, while_in, all_before_last, while_body, while_iteration, while_or}
use Rattle.preconditions.specs.transformers.Statement.{where_holds, without_arm, without_arms, stmt_transformer, what_transformer, each_transformer, arm_transformers, arm_transformer, inner_transformers, inner_of_stmt, inner_of_what, inner_of_arms, inner_of_arm, else_transformer, body_transformer, list_transformer, at_stmt, at_parts, at_list, at_arms, at_arm, at_else, at_loop}
use Rattle.base_json.specs.Scopes.{is_block}
use Rattle.base_values.specs.Naming.{Each}
use Rattle.laws_stored.proofs.Symbols.{PlaceNamed, SymbolsNamed, named_at}
use Rattle.laws_stored.proofs.Lists.{each-append}

abbrev pub UnitNamed : BlockUnit → Type 0
UnitNamed u = is_block u.block ≡ true

abbrev pub UnitsNamed : List BlockUnit → Type 0
UnitsNamed us = Each UnitNamed us

abbrev pub IsForeign : Transformer → Type 0
IsForeign t = UnitsNamed t.foreign

abbrev AreForeign : List Transformer → Type 0
AreForeign ts = Each IsForeign ts

-- ---- lists of units

ordered_each : (o : Ordering) (xs ys zs : List BlockUnit) → UnitsNamed xs → UnitsNamed ys → UnitsNamed zs → UnitsNamed (match_ordering o xs ys zs)
ordered_each Less xs ys zs h i k = h
ordered_each Equal xs ys zs h i k = i
ordered_each Greater xs ys zs h i k = k

with_one : (u : BlockUnit) (vs : List BlockUnit) → UnitNamed u → UnitsNamed vs → UnitsNamed (with_unit u vs)
with_one u [] h k = (h, tt)
with_one u (v ∷ vs) h k = ordered_each (unit_cmp u v) (u ∷ v ∷ vs) (v ∷ vs) (v ∷ with_unit u vs) (h, k) k (k.0, with_one u vs h k.1)

with_all : (vs us : List BlockUnit) → UnitsNamed vs → UnitsNamed us → UnitsNamed (with_units vs us)
with_all vs [] h k = h
with_all vs (u ∷ us) h k = with_all (with_unit u vs) us (with_one u vs k.0 h) k.1

joined_named : (us vs : List BlockUnit) → UnitsNamed us → UnitsNamed vs → UnitsNamed (joined_units us vs)
joined_named us vs h k = with_all (with_units [] us) vs (with_all [] us tt h) k

-- ---- transformers

followed_named : (a b : Transformer) → IsForeign a → IsForeign b → IsForeign (followed a b)
followed_named a b h k = joined_named a.foreign b.foreign h k

from_named : (us : List BlockUnit) (ts : List Transformer) → UnitsNamed us → AreForeign ts → UnitsNamed (units_from us ts)
from_named us [] h k = h
from_named us (t ∷ ts) h k = from_named (joined_units us t.foreign) ts (joined_named us t.foreign h k.0) k.1

one_named : (ts : List Transformer) → AreForeign ts → IsForeign (one_of ts)
one_named [] h = tt
one_named (t ∷ ts) h = from_named [] (t ∷ ts) tt h

-- ---- CALLs

-- of a module whose symbols have such names
pub record SummaryForeign (s : SummaryTree Transformer) : Type 0 where
  pub symbols : SymbolsNamed s.symbols
  pub value : IsForeign s.value

abbrev pub MaybeForeign : Option (SummaryTree Transformer) → Type 0
MaybeForeign None = Unit {0}
MaybeForeign (Some s) = SummaryForeign s

abbrev pub CalleesForeign : Callees → Type 0
CalleesForeign cs = (x : List ℕ) → MaybeForeign (cs x)

hidden_named : (c : CallTree) (us : List BlockUnit) → UnitsNamed us → UnitsNamed (hidden_units c us)
hidden_named c [] h = tt
hidden_named c (u ∷ us) h =
    each-append UnitNamed (if_hidden c u) (hidden_units c us) (if_cases UnitsNamed (declares c.caller u.block u.offset) [] (u ∷ []) (λ e. tt) (λ e. (h.0, tt))) (hidden_named c us h.1)

place_named : (ss : List SymbolTree) → SymbolsNamed ss → (n : ℕ) → UnitsNamed (unit_of (place_at ss n))
place_named ss h n = go (symbol_at ss n) (λ s e. (named_at ss n s h e).1)
  where
    here : (p : Place) → PlaceNamed p → UnitsNamed (unit_of (Some p))
    here (Local g o) k = tt
    here (Dummy m) k = tt
    here (Block b o) k = (k, tt)
    here (Constant v) k = tt

    go : (o : Option SymbolTree) → ((s : SymbolTree) → o ≡ Some s → PlaceNamed s.place) → UnitsNamed (unit_of (place_of o))
    go None f = tt
    go (Some s) f = here s.place (f s refl)

units_named : (c : CallTree) → SymbolsNamed c.symbols → (ds : List ℕ) → UnitsNamed (units_of c ds)
units_named c h [] = tt
units_named c h (d ∷ ds) = each-append UnitNamed (unit_of (place_at c.symbols d)) (units_of c ds) (place_named c.symbols h d) (units_named c h ds)

called_named : (m : ScopeTree) (s : Option (SummaryTree Transformer)) (es : ExprTrees) → MaybeForeign s → IsForeign (call_transformer m s es)
called_named m None es h = tt
called_named m (Some s) es h =
    let c : CallTree = record { caller = m; actuals = es; symbols = s.symbols } in
    joined_named (hidden_units c s.value.foreign) (hidden_units c (units_of c s.value.cells)) (hidden_named c s.value.foreign h.value)
    (hidden_named c (units_of c s.value.cells) (units_named c h.symbols s.value.cells))

-- ---- lists

followed_all : (a : Transformer) (ts : List Transformer) → IsForeign a → AreForeign ts → IsForeign (followed_by a ts)
followed_all a [] h k = h
followed_all a (t ∷ ts) h k = followed_all (followed a t) ts (followed_named a t h k.0) k.1

order_named : (ts : List Transformer) → AreForeign ts → IsForeign (in_order ts)
order_named [] h = tt
order_named (t ∷ ts) h = followed_all t ts h.0 h.1

list_named : (whole : Bool) (body : StmtTrees) (ts : List Transformer) → AreForeign ts → IsForeign (list_of whole body ts)
list_named whole body ts h = if_cases IsForeign (unstructured whole body) (in_any_order ts) (in_order ts) (λ e. from_named [] ts tt h) (λ e. order_named ts h)

before_last_named : (ts : List Transformer) → AreForeign ts → AreForeign (all_before_last ts)
before_last_named [] h = tt
before_last_named (t ∷ []) h = tt
before_last_named (t ∷ u ∷ ts) h = (h.0, before_last_named (u ∷ ts) h.1)

while_named : (m : ScopeTree) (o : Option WhileTree) (ts : List Transformer) (t : Transformer) → AreForeign ts → IsForeign t → IsForeign (while_or o m ts t)
while_named m None ts t h k = k
while_named m (Some w) ts t h k =
    let b = while_body w.body ts in
    let i = while_iteration m w ts in
    let named = if_cases IsForeign (unstructured false w.body) (in_any_order ts) (in_order (all_before_last ts))
    (λ e. from_named [] ts tt h) (λ e. order_named (all_before_last ts) (before_last_named ts h)) in
    followed_named (iterate i) (test (condition_of m.scalars w.test).no) (followed_named (test (condition_of m.scalars w.test).yes) b tt named) tt

becomes_named : (o : Option ℕ) (f : Option Affine) → IsForeign (becomes o f)
becomes_named None f = tt
becomes_named (Some c) f = tt

module _ (m : ScopeTree) (cs : Callees) (named : CalleesForeign cs) where
  mutual
    stmt_named : (s : StmtTree) (last : Bool) → IsForeign (stmt_transformer s m cs last)
    stmt_named (tree.stmt n label w) last = what_named w last

    what_named : (w : WhatTree) (last : Bool) → IsForeign (what_transformer w m cs last)
    what_named (tree.assign x e) last = becomes_named (named_cell m.scalars x) (affine_of m.scalars e)
    what_named (tree.block_if arms other) last =
        let ts = arm_transformers arms m cs no_rows in
        let end = where_holds (without_arms arms m no_rows) (else_transformer other m cs) in
        one_named (ts ++ end ∷ []) (each-append IsForeign ts (end ∷ []) (arms_named arms no_rows) (followed_named (test (without_arms arms m no_rows)) (else_transformer other m cs) tt (else_named other), tt))
    what_named (tree.logical_if e s) last =
        let yes = meet no_rows (condition_of m.scalars e).yes in
        let no = meet no_rows (condition_of m.scalars e).no in
        let t = stmt_transformer s m cs false in
        one_named (where_holds yes t ∷ where_holds no identity_transformer ∷ []) (followed_named (test yes) t tt (stmt_named s false), (followed_named (test no) identity_transformer tt tt, tt))
    what_named (tree.do_loop l) last = loop_named l
    what_named (tree.call x es) last = called_named m (cs x) es (named x)
    what_named (tree.goto l) last = tt
    what_named tree.continue last = tt
    what_named tree.return last = if_cases IsForeign last identity_transformer nowhere (λ e. tt) (λ e. tt)
    what_named (tree.stop text) last = tt
    what_named (tree.print es) last = tt
    what_named (tree.read es) last = tt

    loop_named : (l : LoopTree) → IsForeign (what_transformer (tree.do_loop l) m cs false)
    loop_named (tree.loop index first last step body) =
        let t = body_transformer (tree.loop index first last step body) m cs in
        followed_named t (next (loop_parts m (tree.loop index first last step body) t)) (list_named false body (each_transformer body m cs false) (each_named body false)) tt

    pub each_named : (ss : StmtTrees) (whole : Bool) → AreForeign (each_transformer ss m cs whole)
    each_named tree.no_stmts whole = tt
    each_named (tree.more_stmts s rest) whole = (stmt_named s (whole && is_end rest), each_named rest whole)

    arms_named : (xs : ArmTrees) (before : System) → AreForeign (arm_transformers xs m cs before)
    arms_named tree.no_arms before = tt
    arms_named (tree.more_arms x rest) before = (arm_named x before, arms_named rest (without_arm x m before))

    arm_named : (x : ArmTree) (before : System) → IsForeign (arm_transformer x m cs before)
    arm_named (tree.arm e body) before =
        let ts = inner_transformers body m cs in
        let t = list_of false body (each_transformer body m cs false) in
        followed_named (test (meet before (condition_of m.scalars e).yes)) (while_or (while_in body) m ts t) tt
        (while_named m (while_in body) ts t (inner_named body) (list_named false body (each_transformer body m cs false) (each_named body false)))

    inner_named : (ss : StmtTrees) → AreForeign (inner_transformers ss m cs)
    inner_named tree.no_stmts = tt
    inner_named (tree.more_stmts s rest) = inner_stmt s

    inner_stmt : (s : StmtTree) → AreForeign (inner_of_stmt s m cs)
    inner_stmt (tree.stmt n label w) = inner_what w

    inner_what : (w : WhatTree) → AreForeign (inner_of_what w m cs)
    inner_what (tree.assign x e) = tt
    inner_what (tree.block_if arms other) = inner_arms arms
    inner_what (tree.logical_if e s) = tt
    inner_what (tree.do_loop l) = tt
    inner_what (tree.call x es) = tt
    inner_what (tree.goto l) = tt
    inner_what tree.continue = tt
    inner_what tree.return = tt
    inner_what (tree.stop text) = tt
    inner_what (tree.print es) = tt
    inner_what (tree.read es) = tt

    inner_arms : (xs : ArmTrees) → AreForeign (inner_of_arms xs m cs)
    inner_arms tree.no_arms = tt
    inner_arms (tree.more_arms x rest) = inner_arm x

    inner_arm : (x : ArmTree) → AreForeign (inner_of_arm x m cs)
    inner_arm (tree.arm e body) = each_named body false

    else_named : (x : ElseTree) → IsForeign (else_transformer x m cs)
    else_named tree.no_else = tt
    else_named (tree.otherwise body) = list_named false body (each_transformer body m cs false) (each_named body false)

  pub summary_named : (body : StmtTrees) (whole : Bool) → IsForeign (list_transformer body m cs whole)
  summary_named body whole = list_named whole body (each_transformer body m cs whole) (each_named body whole)

  abbrev F : At Transformer → Type 0
  F a = IsForeign a.value

  mutual
    at_stmt_named : (s : StmtTree) (last : Bool) → Each F (at_stmt s m cs last)
    at_stmt_named (tree.stmt n label w) last = (what_named w last, at_parts_named w)

    at_parts_named : (w : WhatTree) → Each F (at_parts w m cs)
    at_parts_named (tree.assign x e) = tt
    at_parts_named (tree.block_if arms other) = each-append F (at_arms arms m cs) (at_else other m cs) (at_arms_named arms) (at_else_named other)
    at_parts_named (tree.logical_if e s) = at_stmt_named s false
    at_parts_named (tree.do_loop l) = at_loop_named l
    at_parts_named (tree.call x es) = tt
    at_parts_named (tree.goto l) = tt
    at_parts_named tree.continue = tt
    at_parts_named tree.return = tt
    at_parts_named (tree.stop text) = tt
    at_parts_named (tree.print es) = tt
    at_parts_named (tree.read es) = tt

    pub at_list_named : (ss : StmtTrees) (whole : Bool) → Each F (at_list ss m cs whole)
    at_list_named tree.no_stmts whole = tt
    at_list_named (tree.more_stmts s rest) whole = each-append F (at_stmt s m cs (whole && is_end rest)) (at_list rest m cs whole) (at_stmt_named s (whole && is_end rest)) (at_list_named rest whole)

    at_arms_named : (xs : ArmTrees) → Each F (at_arms xs m cs)
    at_arms_named tree.no_arms = tt
    at_arms_named (tree.more_arms x rest) = each-append F (at_arm x m cs) (at_arms rest m cs) (at_arm_named x) (at_arms_named rest)

    at_arm_named : (x : ArmTree) → Each F (at_arm x m cs)
    at_arm_named (tree.arm test body) = at_list_named body false

    at_else_named : (x : ElseTree) → Each F (at_else x m cs)
    at_else_named tree.no_else = tt
    at_else_named (tree.otherwise body) = at_list_named body false

    at_loop_named : (l : LoopTree) → Each F (at_loop l m cs)
    at_loop_named (tree.loop index first last step body) = at_list_named body false
