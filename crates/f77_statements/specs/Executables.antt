-- The grammar of the executable statements that open and close no block (ANSI X3.9-1978 §10 to §12 and §15).
use Rattle.std.specs.Prelude.{ℕ, List, [], ◌∷◌, length, Option, Some, None, ◌&&◌, if◌then◌else◌, nat_le, codes}
use Rattle.f77_ast.specs.Trees.{ExprTree, element, no_exprs, WhatTree, assign, call, goto, continue, return, stop, print, read}
use Rattle.f77_ast.specs.Plain.{exprs_of}
use Rattle.f77_exprs.specs.Words.{before}
use Rattle.f77_exprs.specs.State.{State, Reader, parse_word, or_else, ◌>>=◌}
use Rattle.f77_exprs.specs.Lexical.{name_at, label_at, digit_first, skip_digits, constant}
use Rattle.f77_exprs.specs.Grammar.{expression, variable}
use Rattle.f77_statements.specs.Lists.{or_end, items_left, maybe_in_parentheses, maybe_after_comma}

-- what is read where nothing is left behind it
abbrev pub at_end : {A : Type 0} → A → State → List ℕ → Option (A × State)
at_end a s [] = Some (a, s)
at_end a s (c ∷ cs) = None

-- F(), a function without actual arguments, where nothing is left behind it
unfoldable pub empty_call : Reader ExprTree
empty_call s = do
  n ← name_at s
  t ← parse_word (codes "()") n.1
  at_end (element n.0 no_exprs) t t.rest

-- one reading, or another where it gives nothing
abbrev pub or_other : {A : Type 0} → Option A → Option A → Option A
or_other (Some a) other = Some a
or_other None other = other

unfoldable pub right_side : Reader ExprTree
right_side s = or_other (expression s) (empty_call s)

-- v=e and v=F()
unfoldable pub assignment : Reader WhatTree
assignment s = do
  v ← variable s
  t ← parse_word (codes "=") v.1
  e ← right_side t
  Some (assign v.0 e.0, e.1)

-- CALLn[([a,..])]
unfoldable pub call_statement : Reader WhatTree
call_statement s = do
  t ← parse_word (codes "CALL") s
  n ← name_at t
  es ← maybe_in_parentheses expression n.1
  Some (call n.0 (exprs_of es.0), es.1)

-- GOTOl
unfoldable pub goto_statement : Reader WhatTree
goto_statement s = do
  t ← parse_word (codes "GOTO") s
  l ← label_at t
  Some (goto l.0, l.1)

unfoldable pub continue_statement : Reader WhatTree
continue_statement s = parse_word (codes "CONTINUE") s >>= λ t. Some (continue, t)

unfoldable pub return_statement : Reader WhatTree
return_statement s = parse_word (codes "RETURN") s >>= λ t. Some (return, t)

-- up to five digits, as they are written
unfoldable pub five_digits : Reader (Option (List ℕ))
five_digits s =
    if digit_first s.rest && nat_le (length (before s.rest (skip_digits s.rest))) 5
    then Some (Some (before s.rest (skip_digits s.rest)), record s { rest = skip_digits s.rest })
    else None

-- a character constant with its apostrophes, which the text before its first apostrophe and what stands behind this give
unfoldable pub message : List ℕ → Reader (Option (List ℕ))
message text s = constant s.rest >>= λ c. Some (Some (before text c.1), record s { rest = c.1 })

-- nothing, up to five digits, or a character constant
unfoldable pub stop_text : Reader (Option (List ℕ))
stop_text s = or_end s.rest s None (or_else (parse_word (codes "'") s) (message s.rest) (five_digits s))

unfoldable pub stop_statement : Reader WhatTree
stop_statement s = do
  t ← parse_word (codes "STOP") s
  m ← stop_text t
  Some (stop m.0, m.1)

-- PRINT*[,list]
unfoldable pub print_statement : Reader WhatTree
print_statement s = do
  t ← parse_word (codes "PRINT*") s
  es ← maybe_after_comma expression t
  Some (print (exprs_of es.0), es.1)

-- the list of a WRITE
unfoldable pub write_list : Reader WhatTree
write_list s = items_left expression s >>= λ es. Some (print (exprs_of es.0), es.1)

-- WRITE(*,*)[list] and WRITE(6,*)[list], which are read as PRINT
unfoldable pub write_statement : Reader WhatTree
write_statement s =
    or_else (parse_word (codes "WRITE(*,*)") s) write_list
    (or_else (parse_word (codes "WRITE(6,*)") s) write_list None)

unfoldable pub read_listed : Reader WhatTree
read_listed s = maybe_after_comma variable s >>= λ es. Some (read (exprs_of es.0), es.1)

unfoldable pub read_left : Reader WhatTree
read_left s = items_left variable s >>= λ es. Some (read (exprs_of es.0), es.1)

-- READ*[,list], READ(*,*)[list] and READ(5,*)[list]
unfoldable pub read_statement : Reader WhatTree
read_statement s =
    or_else (parse_word (codes "READ*") s) read_listed
    (or_else (parse_word (codes "READ(*,*)") s) read_left
    (or_else (parse_word (codes "READ(5,*)") s) read_left None))
