-- Statements are formed as the grammar says, and are read back.
use Rattle.std.proofs.Common.{◌≡◌, ℕ, List, refl}
use Rattle.std.specs.Prelude.{codes, Result, Ok, Err}
use Rattle.f77_ast.specs.declared.module.FunctionForm.TheVariants.{Plain, Integer, Logical}
use Rattle.f77_exprs.specs.State.{start}
use Rattle.f77_forms.specs.declared.form.FormId.{FormId}
use Rattle.f77_forms.specs.declared.form.FormId.TheVariants as forms
use Rattle.f77_statements.specs.declared.refusal.Cause.{Cause}
use Rattle.f77_statements.specs.Specifications.{implicit_statement, integer_statement, logical_statement, dimension_statement, parameter_statement, common_statement, equivalence_statement, save_statement, data_statement}
use Rattle.f77_statements.specs.Executables.{assignment, call_statement, goto_statement, continue_statement, return_statement, stop_statement, print_statement, write_statement, read_statement}
use Rattle.f77_statements.specs.Phrases.{PhraseTree, else_part, end_if, end_do, end_module}
use Rattle.f77_statements.specs.Statements.{form_at, phrase_by, phrase_in, phrase_of}
use Rattle.roundtrip_programs.specs.Statements.Phrased.{IsPhrase}
use Rattle.roundtrip_programs.specs.Statements.Laws.{StatementsReadBack}
use Rattle.roundtrip_programs.proofs.Statements.Readings.{After}
use Rattle.roundtrip_programs.proofs.Statements.WhatFormed.{what-formed}
use Rattle.roundtrip_programs.proofs.Statements.PhraseFormed.{program-formed, subroutine-formed, function-formed, block-formed, else-formed, logical-formed, do-formed, while-formed, alone-formed, simply-formed}
use Rattle.roundtrip_programs.proofs.Statements.TypedFormed.{integer-formed, logical-formed as logicals-formed}
use Rattle.roundtrip_programs.proofs.Statements.DeclFormed.{implicit-formed, dimension-formed, parameter-formed, common-formed, equivalence-formed, save-formed, data-formed, specified-at}
use Rattle.roundtrip_programs.proofs.Statements.Verdicts.{clean, verdict_given}
use Rattle.roundtrip_programs.proofs.Statements.PhraseBack.{phrase-back}
use Rattle.roundtrip_programs.proofs.Statements.Closed.{phrase_closed, phrase_lined, phrase_tabless}

-- what each form gives
form-formed : (form : FormId) (body : List ℕ) → form_at body ≡ Ok form → After (phrase_by form (start body)) clean IsPhrase
form-formed forms.Program body h = program-formed (start body)
form-formed forms.Subroutine body h = subroutine-formed (start body)
form-formed forms.Function body h = function-formed (codes "FUNCTION") Plain (start body)
form-formed forms.IntegerFunction body h = function-formed (codes "INTEGERFUNCTION") Integer (start body)
form-formed forms.LogicalFunction body h = function-formed (codes "LOGICALFUNCTION") Logical (start body)
form-formed forms.Implicit body h = specified-at implicit_statement (start body) (implicit-formed (start body))
form-formed forms.Integer body h = specified-at integer_statement (start body) (integer-formed body h)
form-formed forms.Logical body h = specified-at logical_statement (start body) (logicals-formed body h)
form-formed forms.Dimension body h = specified-at dimension_statement (start body) (dimension-formed (start body))
form-formed forms.Parameter body h = specified-at parameter_statement (start body) (parameter-formed (start body))
form-formed forms.Common body h = specified-at common_statement (start body) (common-formed (start body))
form-formed forms.Equivalence body h = specified-at equivalence_statement (start body) (equivalence-formed (start body))
form-formed forms.Save body h = specified-at save_statement (start body) (save-formed (start body))
form-formed forms.Data body h = specified-at data_statement (start body) (data-formed (start body))
form-formed forms.Assignment body h = simply-formed assignment (what-formed forms.Assignment) (start body)
form-formed forms.LogicalIf body h = logical-formed (start body)
form-formed forms.BlockIf body h = block-formed (start body)
form-formed forms.ElseIf body h = else-formed (start body)
form-formed forms.Else body h = alone-formed (codes "ELSE") else_part tt (start body)
form-formed forms.EndIf body h = alone-formed (codes "ENDIF") end_if tt (start body)
form-formed forms.Do body h = do-formed (start body)
form-formed forms.DoWhile body h = while-formed (start body)
form-formed forms.EndDo body h = alone-formed (codes "ENDDO") end_do tt (start body)
form-formed forms.Continue body h = simply-formed continue_statement (what-formed forms.Continue) (start body)
form-formed forms.Return body h = simply-formed return_statement (what-formed forms.Return) (start body)
form-formed forms.End body h = alone-formed (codes "END") end_module tt (start body)
form-formed forms.Goto body h = simply-formed goto_statement (what-formed forms.Goto) (start body)
form-formed forms.Call body h = simply-formed call_statement (what-formed forms.Call) (start body)
form-formed forms.Stop body h = simply-formed stop_statement (what-formed forms.Stop) (start body)
form-formed forms.Print body h = simply-formed print_statement (what-formed forms.Print) (start body)
form-formed forms.Write body h = simply-formed write_statement (what-formed forms.Write) (start body)
form-formed forms.Read body h = simply-formed read_statement (what-formed forms.Read) (start body)

in_formed : (f : Result FormId Cause) (body : List ℕ) (p : PhraseTree) → form_at body ≡ f → phrase_in f body ≡ Ok p → IsPhrase p
in_formed (Ok form) body p e h = verdict_given (phrase_by form (start body)) clean IsPhrase p (form-formed form body e) h
in_formed (Err cause) body p e h = absurd (apart h)
  where
    apart : Err cause ≡ Ok p → ⊥
    apart g = cc

phrase-formed : (body : List ℕ) (p : PhraseTree) → phrase_of body ≡ Ok p → IsPhrase p
unfolding phrase_of
phrase-formed body p h = in_formed (form_at body) body p refl h

pub statements_read_back : StatementsReadBack
statements_read_back = record {
  formed = phrase-formed;
  written_back = phrase-back;
  closed = phrase_closed;
  lined = phrase_lined;
  tabless = phrase_tabless;
  read_back = λ body p h. phrase-back p (phrase-formed body p h);
}
