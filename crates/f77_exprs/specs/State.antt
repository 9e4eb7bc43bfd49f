-- What a reader has before it, and what reading gives.
use Rattle.std.specs.Prelude.{◌≡◌, ℕ, List, Option, Some, None, option_map, Result, Ok, Err, false}
use Rattle.f77_ast.specs.declared.expr.Expr.{Expr}
use Rattle.f77_ast.specs.Trees.{ExprTree}
use Rattle.f77_ast.specs.Plain.{expr_tree}
use Rattle.f77_exprs.specs.declared.at.Notes.{Notes}
use Rattle.f77_exprs.specs.declared.at.Cursor.{Cursor}
use Rattle.f77_exprs.specs.declared.parse_error.ParseError.{ParseError}
use Rattle.f77_exprs.specs.declared.parse_error.ParseError.TheVariants.{Memory, Syntax}
use Rattle.f77_exprs.specs.Words.{after}

-- what is left of a statement, and what was met before it
pub record State : Type 0 where
  pub rest : List ℕ
  pub notes : Notes

-- the state that the code has
abbrev pub state : Cursor → State
state at = record { rest = at.rest.now; notes = at.notes }

-- the front of a statement, where nothing was met
abbrev pub start : List ℕ → State
start body = record { rest = body; notes = record { real = false; big = false; long = false } }

-- reading gives a value and what is left, or nothing where the text is not in the grammar
abbrev pub Reader : Type 0 → Type 0
Reader A = State → Option (A × State)

infixl 10 ◌>>=◌
abbrev pub ◌>>=◌ : {A B : Type 0} → Option A → (A → Option B) → Option B
(Some x) >>= f = f x
None >>= f = None

-- what follows a word that stands here
abbrev pub parse_word : List ℕ → State → Option State
parse_word w s = option_map (λ r. record s { rest = r }) (after w s.rest)

-- ---- the two ways to go on

-- what is read so far, or what an optional part makes of it
abbrev pub or_done : {A B : Type 0} → A → State → Option B → (B → Option (A × State)) → Option (A × State)
or_done a s None go = Some (a, s)
or_done a s (Some b) go = go b

-- what stands behind a word, or another reading where the word is not there
abbrev pub or_else : {A : Type 0} → Option State → (State → Option (A × State)) → Option (A × State) → Option (A × State)
or_else (Some t) go other = go t
or_else None go other = other

-- ---- what a function returns

-- no reading, unless memory ran out
abbrev pub Fails : {Y : Type 0} → ParseError → Option Y → Type 0
Fails Memory read = Unit {0}
Fails Syntax read = read ≡ None

-- what a function returned, seen by view, is what reading gives, unless memory ran out
abbrev pub Gives : {X Y : Type 0} → (X → Y) → Result X ParseError → Option Y → Type 0
Gives view (Ok x) read = read ≡ Some (view x)
Gives view (Err e) read = Fails e read

-- the same of a value and of where its reader stopped
abbrev pub GivesAs : {X A : Type 0} → (X → A) → Result (X × Cursor) ParseError → Option (A × State) → Type 0
GivesAs view result read = Gives (λ x. (view x.0, state x.1)) result read

-- the same of an expression
abbrev pub GivesExpr : Result (Expr × Cursor) ParseError → Option (ExprTree × State) → Type 0
GivesExpr result read = Gives (λ x. (expr_tree x.0, state x.1)) result read
