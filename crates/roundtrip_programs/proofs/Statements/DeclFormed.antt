-- What the grammar of the other specification statements gives without a cause to refuse it is formed as it says.
use Rattle.std.proofs.Common.{[], ◌∷◌, length, Some, None}
use Rattle.std.specs.Prelude.{codes}
use Rattle.f77_ast.specs.DeclTrees.{DeclTree, implicit, dimension, parameter, common, equivalence, save, initial}
use Rattle.f77_exprs.specs.State.{State, Reader, parse_word, or_else, ◌>>=◌}
use Rattle.f77_exprs.specs.Grammar.{comma, items, items_by, more_by}
use Rattle.f77_statements.specs.Lists.{ending, items_left}
use Rattle.f77_statements.specs.Parts.{implicit_part, array, setting, group, save_item, block, first_block, next_block, data_group, next_group}
use Rattle.f77_statements.specs.Specifications.{implicit_parts, implicit_statement, dimension_statement, parameter_statement, common_statement, equivalence_statement, save_statement, data_statement}
use Rattle.f77_statements.specs.Phrases.{specification}
use Rattle.f77_statements.specs.Statements.{specified}
use Rattle.roundtrip_programs.specs.Statements.Formed.{Each, Filled}
use Rattle.roundtrip_programs.specs.Statements.Declared.{IsPart, IsArray, IsSetting, IsCommon, IsGroup, IsSaved, IsInitial, IsDecl}
use Rattle.roundtrip_programs.specs.Statements.Phrased.{IsPhrase}
use Rattle.roundtrip_programs.proofs.Statements.Readings.{After, Sound, seq, then_word, else_word}
use Rattle.roundtrip_programs.proofs.Statements.Lists.{more_by-sound, items_by-sound, comma_keeps, filled-push}
use Rattle.roundtrip_programs.proofs.Statements.WhatFormed.{ending-sound, items_left-sound}
use Rattle.roundtrip_programs.proofs.Statements.PartsFormed.{part-sound, array-sound, setting-sound, group-sound, save-sound, block-sound, first-sound, next_keeps, group_keeps, data-group-sound}

parts-sound : Sound implicit_parts IsDecl
unfolding implicit_parts
parts-sound s =
    seq (items implicit_part s) (λ ps. Some (implicit (Some ps.0), ps.1)) s.notes (Filled IsPart) IsDecl (items_by-sound comma implicit_part IsPart comma_keeps part-sound s) (λ ps c. (c, λ h. h))

pub implicit-formed : Sound implicit_statement IsDecl
unfolding implicit_statement
implicit-formed s =
    then_word (codes "IMPLICIT") s (λ t. or_else (parse_word (codes "NONE") t) (λ u. Some (implicit None, u)) (implicit_parts t)) IsDecl
    (λ r. let t : State = record s { rest = r } in else_word (codes "NONE") t (λ u. Some (implicit None, u)) (implicit_parts t) IsDecl (λ q c. (c, tt)) (parts-sound t))

pub dimension-formed : Sound dimension_statement IsDecl
unfolding dimension_statement
dimension-formed s =
    then_word (codes "DIMENSION") s (λ t. items array t >>= λ es. Some (dimension es.0, es.1)) IsDecl
    (λ r. let t : State = record s { rest = r } in
    seq (items array t) (λ es. Some (dimension es.0, es.1)) s.notes (Filled IsArray) IsDecl (items_by-sound comma array IsArray comma_keeps array-sound t) (λ es c. (c, λ h. h)))

pub parameter-formed : Sound parameter_statement IsDecl
unfolding parameter_statement
parameter-formed s =
    then_word (codes "PARAMETER(") s (λ t. ending (codes ")") (items setting) t >>= λ ss. Some (parameter ss.0, ss.1)) IsDecl
    (λ r. let t : State = record s { rest = r } in
    seq (ending (codes ")") (items setting) t) (λ ss. Some (parameter ss.0, ss.1)) s.notes (Filled IsSetting) IsDecl
    (ending-sound (codes ")") (items setting) (Filled IsSetting) (items_by-sound comma setting IsSetting comma_keeps setting-sound) t) (λ ss c. (c, λ h. h)))

pub common-formed : Sound common_statement IsDecl
unfolding common_statement
common-formed s =
    then_word (codes "COMMON") s (λ t. first_block t >>= λ b. more_by next_block block (length b.1.rest) (b.0 ∷ []) b.1 >>= λ bs. Some (common bs.0, bs.1)) IsDecl
    (λ r. let t : State = record s { rest = r } in
    seq (first_block t) (λ b. more_by next_block block (length b.1.rest) (b.0 ∷ []) b.1 >>= λ bs. Some (common bs.0, bs.1)) s.notes IsCommon IsDecl (first-sound t)
    (λ b. seq (more_by next_block block (length b.1.rest) (b.0 ∷ []) b.1) (λ bs. Some (common bs.0, bs.1)) b.1.notes (λ bs. Filled IsCommon (b.0 ∷ []) → Filled IsCommon bs) (λ d. IsCommon b.0 → IsDecl d)
    (more_by-sound next_block block IsCommon (Filled IsCommon) next_keeps block-sound (filled-push IsCommon) (length b.1.rest) (b.0 ∷ []) b.1)
    (λ bs c. (c, λ f h. f (record { first = h; others = tt })))))

pub equivalence-formed : Sound equivalence_statement IsDecl
unfolding equivalence_statement
equivalence-formed s =
    then_word (codes "EQUIVALENCE") s (λ t. items group t >>= λ gs. Some (equivalence gs.0, gs.1)) IsDecl
    (λ r. let t : State = record s { rest = r } in
    seq (items group t) (λ gs. Some (equivalence gs.0, gs.1)) s.notes (Filled IsGroup) IsDecl (items_by-sound comma group IsGroup comma_keeps group-sound t) (λ gs c. (c, λ h. h)))

pub save-formed : Sound save_statement IsDecl
unfolding save_statement
save-formed s =
    then_word (codes "SAVE") s (λ t. items_left save_item t >>= λ is. Some (save is.0, is.1)) IsDecl
    (λ r. let t : State = record s { rest = r } in
    seq (items_left save_item t) (λ is. Some (save is.0, is.1)) s.notes (Each IsSaved) IsDecl (items_left-sound save_item IsSaved save-sound t) (λ is c. (c, λ h. h)))

pub data-formed : Sound data_statement IsDecl
unfolding data_statement
data-formed s =
    then_word (codes "DATA") s (λ t. items_by next_group data_group t >>= λ gs. Some (initial gs.0, gs.1)) IsDecl
    (λ r. let t : State = record s { rest = r } in
    seq (items_by next_group data_group t) (λ gs. Some (initial gs.0, gs.1)) s.notes (Filled IsInitial) IsDecl (items_by-sound next_group data_group IsInitial group_keeps data-group-sound t) (λ gs c. (c, λ h. h)))

pub specified-at : (R : Reader DeclTree) (s : State) → After (R s) s.notes IsDecl → After (specified R s) s.notes IsPhrase
unfolding specified
specified-at R s h = seq (R s) (λ d. Some (specification d.0, d.1)) s.notes IsDecl IsPhrase h (λ d c. (c, λ g. g))
