-- What a CALL reads and writes as its callee does, as the caller names it.
use Rattle.std.specs.Prelude.{ℕ, zero, suc, ℤ, Bool, true, false, ◌&&◌, ◌-◌, nat_eq, List, [], ◌∷◌, Option, Some, None, if◌then◌else◌, bytes_eq}
use Rattle.std.specs.Ordering.{int_eq}
use Rattle.f77_ast.specs.declared.decl.Scalar.{Scalar}
use Rattle.f77_ast.specs.declared.decl.Scalar.TheVariants as scalar
use Rattle.f77_ast.specs.Trees.{ExprTree, ExprTrees}
use Rattle.f77_ast.specs.Trees as tree
use Rattle.f77_ast.specs.declared.constant.Constant.{Constant}
use Rattle.f77_ast.specs.declared.constant.Constant.TheVariants as constant
use Rattle.f77_ast.specs.declared.constant.ConstantValue.{ConstantValue}
use Rattle.f77_ast.specs.declared.constant.ConstantValue.TheVariants.{Is, Faults, Varies}
use Rattle.f77_ast.specs.Constants.{const_value}
use Rattle.f77_ast.specs.declared.symbol.Place.{Place}
use Rattle.f77_ast.specs.declared.symbol.Place.TheVariants.{Local, Dummy, Block, Constant as Value}
use Rattle.f77_ast.specs.declared.variable.Variable.{Variable}
use Rattle.f77_ast.specs.declared.variable.Variable.TheVariants.{Own, Block as Whole, Saved}
use Rattle.f77_ast.specs.Symbols.{BoundTree, SymbolTree, value_in}
use Rattle.f77_ast.specs.Shared.{symbol_at}
use Rattle.f77_ast.specs.declared.effect_set.EffectSet.{EffectSet}
use Rattle.f77_ast.specs.Variables.{union}
use Rattle.f77_ast.specs.Effects.{no_effect}
use Rattle.f77_ast.specs.Summaries.{SummaryTree}
use Rattle.effects.specs.Names.{one, variable_named}

-- ---- the same variable of a block in two modules

abbrev pub same_scalar : Scalar → Scalar → Bool
same_scalar scalar.Int scalar.Int = true
same_scalar scalar.Int scalar.Log = false
same_scalar scalar.Log scalar.Int = false
same_scalar scalar.Log scalar.Log = true

-- two constant expressions of one number
abbrev pub is_number : ℤ → ConstantValue → Bool
is_number m (Is (constant.Int n)) = int_eq m n
is_number m (Is (constant.Log b)) = false
is_number m Faults = false
is_number m Varies = false

abbrev pub same_number : ConstantValue → ConstantValue → Bool
same_number (Is (constant.Int m)) v = is_number m v
same_number (Is (constant.Log b)) v = false
same_number Faults v = false
same_number Varies v = false

abbrev pub same_high : (List ℕ → Option Constant) → Option ExprTree → (List ℕ → Option Constant) → Option ExprTree → Bool
same_high f None g high = false
same_high f (Some a) g None = false
same_high f (Some a) g (Some b) = same_number (const_value f a) (const_value g b)

-- the same constant bounds, each with the constants of its module
abbrev pub same_bound : (List ℕ → Option Constant) → BoundTree → (List ℕ → Option Constant) → BoundTree → Bool
same_bound f a g b = same_number (const_value f a.low) (const_value g b.low) && same_high f a.high g b.high

abbrev pub same_bounds : (List ℕ → Option Constant) → List BoundTree → (List ℕ → Option Constant) → List BoundTree → Bool
same_bounds f [] g [] = true
same_bounds f [] g (b ∷ bs) = false
same_bounds f (a ∷ as') g [] = false
same_bounds f (a ∷ as') g (b ∷ bs) = same_bound f a g b && same_bounds f as' g bs

abbrev pub is_at : List ℕ → ℕ → Place → Bool
is_at b o (Local h k) = false
is_at b o (Dummy m) = false
is_at b o (Block c k) = bytes_eq b c && nat_eq o k
is_at b o (Value m) = false

-- a symbol of the caller that stands at this offset of the block, with the type, the rank and the constant bounds of a symbol of the
-- callee
abbrev pub is_like : List ℕ → ℕ → List SymbolTree → SymbolTree → List SymbolTree → SymbolTree → Bool
is_like b o cs s ss t =
    is_at b o t.place && same_scalar s.scalar t.scalar && same_bounds (value_in cs) s.bounds (value_in ss) t.bounds

-- the number of the first of these symbols that is like it; the first has the number n
abbrev pub first_like : ℕ → List SymbolTree → List ℕ → ℕ → List SymbolTree → SymbolTree → List SymbolTree → Option ℕ
first_like n [] b o cs s ss = None
first_like n (t ∷ ts) b o cs s ss = if is_like b o cs s ss t then Some n else first_like (suc n) ts b o cs s ss

abbrev pub or_block : List ℕ → Option ℕ → List Variable
or_block b None = Whole b ∷ []
or_block b (Some n) = Own n ∷ []

-- ---- variables of the callee

-- the variable that the actual at a place names, from 0
abbrev pub actual_variable : ExprTrees → ℕ → List SymbolTree → List Variable
actual_variable tree.no_exprs k ss = []
actual_variable (tree.more_exprs e es) zero ss = variable_named e ss
actual_variable (tree.more_exprs e es) (suc k) ss = actual_variable es k ss

abbrev pub if_saved : Bool → List ℕ → List ℕ → List Variable
if_saved saved callee x = if saved then Saved callee x ∷ [] else []

-- a symbol of the callee: of a dummy what its actual names, which is nothing for an expression; of a variable of a block one that is
-- like it, or the block; of a local only a saved one
abbrev pub at_place : Place → SymbolTree → List ℕ → ExprTrees → List SymbolTree → List SymbolTree → List Variable
at_place (Local g o) s callee es cs ss = if_saved s.saved callee s.name
at_place (Dummy m) s callee es cs ss = actual_variable es (m - 1) ss
at_place (Block b o) s callee es cs ss = or_block b (first_like 1 ss b o cs s ss)
at_place (Value m) s callee es cs ss = []

abbrev pub symbol_in_caller : Option SymbolTree → List ℕ → ExprTrees → List SymbolTree → List SymbolTree → List Variable
symbol_in_caller None callee es cs ss = []
symbol_in_caller (Some s) callee es cs ss = at_place s.place s callee es cs ss

-- what a variable of the callee, with the symbols cs, is to the caller, with the symbols ss, at a CALL with these actuals; blocks and
-- saved locals of other modules stay
abbrev pub in_caller : Variable → List ℕ → ExprTrees → List SymbolTree → List SymbolTree → List Variable
in_caller (Own n) callee es cs ss = symbol_in_caller (symbol_at cs n) callee es cs ss
in_caller (Whole b) callee es cs ss = Whole b ∷ []
in_caller (Saved t y) callee es cs ss = Saved t y ∷ []

-- those so far, and these
abbrev pub all_in_caller : List Variable → List ℕ → ExprTrees → List SymbolTree → List SymbolTree → List Variable → List Variable
all_in_caller [] callee es cs ss ws = ws
all_in_caller (v ∷ vs) callee es cs ss ws = all_in_caller vs callee es cs ss (union ws (in_caller v callee es cs ss))

-- ---- the callee's summary

abbrev pub summary_effect : SummaryTree EffectSet → List ℕ → ExprTrees → List SymbolTree → EffectSet
summary_effect c callee es ss = record {
  reads = all_in_caller c.value.reads callee es c.symbols ss [];
  writes = all_in_caller c.value.writes callee es c.symbols ss [];
  io = c.value.io;
  stops = c.value.stops;
}

abbrev pub call_effect : Option (SummaryTree EffectSet) → List ℕ → ExprTrees → List SymbolTree → EffectSet
call_effect None callee es ss = no_effect
call_effect (Some c) callee es ss = summary_effect c callee es ss
