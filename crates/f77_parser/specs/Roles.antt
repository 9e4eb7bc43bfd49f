-- What a statement is in its module.
use Rattle.f77_ast.specs.Trees.{WhatTree, assign, block_if, logical_if, do_loop, call, goto, continue, return, stop, print, read}
use Rattle.f77_statements.specs.Phrases.{PhraseTree, program, subroutine, function, specification, simple, else_if, else_part, end_if, do_head, while_head, end_do, end_module}
use Rattle.f77_statements.specs.Phrases as phrases
use Rattle.f77_structure.specs.declared.mark.Action.{Action}
use Rattle.f77_structure.specs.declared.mark.Action.TheVariants.{Goto, Return, Stop, Other}
use Rattle.f77_structure.specs.declared.mark.Role.{Role}
use Rattle.f77_structure.specs.declared.mark.Role.TheVariants.{Program, Subroutine, Specification, Plain, LogicalIf, BlockIf, ElseIf, Else, EndIf, Do, EndDo, End}

-- what an executable statement does, of what structure asks
abbrev pub action_of : WhatTree → Action
action_of (goto l) = Goto l
action_of return = Return
action_of (stop t) = Stop
action_of (assign a b) = Other
action_of (block_if arms other) = Other
action_of (logical_if e s) = Other
action_of (do_loop l) = Other
action_of (call n es) = Other
action_of continue = Other
action_of (print es) = Other
action_of (read es) = Other

-- what a statement is in its module
abbrev pub role_of : PhraseTree → Role
role_of (program n) = Program
role_of (subroutine n ds) = Subroutine
-- a function is a subroutine whose last dummy argument is its result
role_of (function form n ds) = Subroutine
role_of (specification d) = Specification
role_of (simple w) = Plain (action_of w)
role_of (phrases.logical_if e w) = LogicalIf (action_of w)
role_of (phrases.block_if e) = BlockIf
role_of (else_if e) = ElseIf
role_of else_part = Else
role_of end_if = EndIf
role_of (do_head d) = Do d.label
-- a DO WHILE ends as a DO does
role_of (while_head l e) = Do l
role_of end_do = EndDo
role_of end_module = End
