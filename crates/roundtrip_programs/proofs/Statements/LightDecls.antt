-- The text of a specification statement that is read, without its blanks, weighs no more than what was read.
use Rattle.std.proofs.Common.{◌≡◌, ℕ, ◌+◌, List, [], ◌∷◌, ◌++◌, length, refl, arith, Option, Some, None, false}
use Rattle.std.specs.Prelude.{codes}
use Rattle.f77_ast.specs.DeclTrees.{DeclTree, implicit, integer, logical, dimension, parameter, common, equivalence, save, initial}
use Rattle.f77_exprs.specs.State.{State, ◌>>=◌}
use Rattle.f77_exprs.specs.Grammar.{items, items_by, more_by}
use Rattle.f77_statements.specs.Lists.{ending, items_left}
use Rattle.f77_statements.specs.Parts.{implicit_part, entity, array, setting, group, save_item, first_block, block, next_block, data_group, next_group}
use Rattle.f77_statements.specs.Specifications.{implicit_parts, implicit_statement, integer_statement, logical_statement, dimension_statement, parameter_statement, common_statement, equivalence_statement, save_statement, data_statement}
use Rattle.f77_printer.specs.Layout.{stripped}
use Rattle.f77_printer.specs.DeclText.{joined_by, entity_text, part_text, setting_text, settings_text, group_text, save_item_text, decl_text}
use Rattle.roundtrip_programs.specs.Statements.Declared.{IsDecl}
use Rattle.roundtrip_programs.specs.Statements.Weights.{Weight, weigh}
use Rattle.roundtrip_programs.proofs.Statements.DeclBack.{compact_implicit, stripped_integer, stripped_logical, stripped_dimension, stripped_parameter, stripped_equivalence, stripped_save, stripped_implicit}
use Rattle.roundtrip_programs.proofs.Statements.CommonBack.{compact_commons, stripped_common}
use Rattle.roundtrip_programs.proofs.Statements.DataBack.{compact_data, stripped_data}
use Rattle.roundtrip_programs.proofs.Statements.Weighing.{weigh-append, Within, Light, seq, then_read, then_word, else_word}
use Rattle.roundtrip_programs.proofs.Statements.LightLists.{parted, joined_weight, items-light, items_left-light, ending-light}
use Rattle.roundtrip_programs.proofs.Statements.LightParts.{pw, part-light, nw, entity-light, array-light, sw, setting-light, gw, group-light, iw, save-light}
use Rattle.roundtrip_programs.proofs.Statements.LightBlocks.{lw, blocks_light, commons_weight, dw, groups_light, groups_weight}

-- a specification statement without its blanks
abbrev pub compact_decl : DeclTree → List ℕ
compact_decl (implicit parts) = codes "IMPLICIT" ++ compact_implicit parts
compact_decl (integer es) = codes "INTEGER" ++ joined_by entity_text es
compact_decl (logical es) = codes "LOGICAL" ++ joined_by entity_text es
compact_decl (dimension es) = codes "DIMENSION" ++ joined_by entity_text es
compact_decl (parameter ss) = codes "PARAMETER" ++ settings_text ss
compact_decl (common cs) = codes "COMMON" ++ compact_commons cs
compact_decl (equivalence gs) = codes "EQUIVALENCE" ++ joined_by group_text gs
compact_decl (save is) = codes "SAVE" ++ joined_by save_item_text is
compact_decl (initial gs) = codes "DATA" ++ compact_data gs

pub stripped_decl : (d : DeclTree) → IsDecl d → stripped false (decl_text d) ≡ compact_decl d
stripped_decl (implicit parts) h = stripped_implicit parts h
stripped_decl (integer es) h = stripped_integer es h
stripped_decl (logical es) h = stripped_logical es h
stripped_decl (dimension es) h = stripped_dimension es h
stripped_decl (parameter ss) h = stripped_parameter ss h
stripped_decl (common cs) h = stripped_common cs h
stripped_decl (equivalence gs) h = stripped_equivalence gs h
stripped_decl (save is) h = stripped_save is h
stripped_decl (initial gs) h = stripped_data gs h

module _ (w : Weight) where
  abbrev pub tw : DeclTree → ℕ
  tw d = weigh w (compact_decl d)

  parts-light : (e : ℕ) (s : State) → Within w (implicit_parts s) ((e + weigh w (codes "IMPLICIT")) + weigh w s.rest) (λ d. e + tw d)
  unfolding implicit_parts
  parts-light e s =
      then_read w (items implicit_part) (parted (w.of 44) (pw w)) _ s (e + weigh w (codes "IMPLICIT")) (λ d. e + tw d) (items-light w implicit_part (pw w) (part-light w))
      (λ ps. omega (arith, joined_weight w part_text ps.0))

  pub implicit_light : Light w implicit_statement tw
  unfolding implicit_statement
  implicit_light e s =
      then_word w (codes "IMPLICIT") s _ e (λ d. e + tw d)
      (λ r. let t : State = record s { rest = r } in
      else_word w (codes "NONE") t (λ u. Some (implicit None, u)) (implicit_parts t) (e + weigh w (codes "IMPLICIT")) (λ d. e + tw d) (λ q. omega arith) (parts-light e t))

  pub integer_light : Light w integer_statement tw
  unfolding integer_statement
  integer_light e s =
      then_word w (codes "INTEGER") s _ e (λ d. e + tw d)
      (λ r. then_read w (items entity) (parted (w.of 44) (nw w)) _ (record s { rest = r }) _ (λ d. e + tw d) (items-light w entity (nw w) (entity-light w)) (λ es. omega (arith, joined_weight w entity_text es.0)))

  pub logical_light : Light w logical_statement tw
  unfolding logical_statement
  logical_light e s =
      then_word w (codes "LOGICAL") s _ e (λ d. e + tw d)
      (λ r. then_read w (items entity) (parted (w.of 44) (nw w)) _ (record s { rest = r }) _ (λ d. e + tw d) (items-light w entity (nw w) (entity-light w)) (λ es. omega (arith, joined_weight w entity_text es.0)))

  pub dimension_light : Light w dimension_statement tw
  unfolding dimension_statement
  dimension_light e s =
      then_word w (codes "DIMENSION") s _ e (λ d. e + tw d)
      (λ r. then_read w (items array) (parted (w.of 44) (nw w)) _ (record s { rest = r }) _ (λ d. e + tw d) (items-light w array (nw w) (array-light w)) (λ es. omega (arith, joined_weight w entity_text es.0)))

  pub parameter_light : Light w parameter_statement tw
  unfolding parameter_statement
  parameter_light e s =
      then_word w (codes "PARAMETER(") s _ e (λ d. e + tw d)
      (λ r. then_read w (ending (codes ")") (items setting)) (λ x. parted (w.of 44) (sw w) x + weigh w (codes ")")) _ (record s { rest = r }) _ (λ d. e + tw d)
      (ending-light w (codes ")") (items setting) (parted (w.of 44) (sw w)) (items-light w setting (sw w) (setting-light w)))
      (λ ss. omega (arith, weigh-append w (joined_by setting_text ss.0) (codes ")"), joined_weight w setting_text ss.0)))

  pub common_light : Light w common_statement tw
  unfolding common_statement
  common_light e s = then_word w (codes "COMMON") s _ e (λ d. e + tw d) (λ r. all e (record s { rest = r }))
    where
      -- the blocks first, and then the statement
      regroup : {A B C : Type 0} (o : Option A) (f : A → Option B) (g : B → Option C) → ((o >>= f) >>= g) ≡ (o >>= λ x. f x >>= g)
      regroup None f g = refl
      regroup (Some x) f g = refl

      all : (e : ℕ) (t : State) → Within w (first_block t >>= λ b. more_by next_block block (length b.1.rest) (b.0 ∷ []) b.1 >>= λ bs. Some (common bs.0, bs.1)) ((e + weigh w (codes "COMMON")) + weigh w t.rest) (λ d. e + tw d)
      all e t =
          rw (← regroup {C = DeclTree × State} (first_block t) (λ b. more_by next_block block (length b.1.rest) (b.0 ∷ []) b.1) (λ bs. Some (common bs.0, bs.1)))
          (seq w (first_block t >>= λ b. more_by next_block block (length b.1.rest) (b.0 ∷ []) b.1) (λ bs. Some (common bs.0, bs.1)) ((e + weigh w (codes "COMMON")) + weigh w t.rest)
          (λ cs. (e + weigh w (codes "COMMON")) + lw w cs) (λ d. e + tw d) (blocks_light w (e + weigh w (codes "COMMON")) t) (λ bs. omega (arith, commons_weight w bs.0)))

  pub equivalence_light : Light w equivalence_statement tw
  unfolding equivalence_statement
  equivalence_light e s =
      then_word w (codes "EQUIVALENCE") s _ e (λ d. e + tw d)
      (λ r. then_read w (items group) (parted (w.of 44) (gw w)) _ (record s { rest = r }) _ (λ d. e + tw d) (items-light w group (gw w) (group-light w)) (λ gs. omega (arith, joined_weight w group_text gs.0)))

  pub save_light : Light w save_statement tw
  unfolding save_statement
  save_light e s =
      then_word w (codes "SAVE") s _ e (λ d. e + tw d)
      (λ r. then_read w (items_left save_item) (parted (w.of 44) (iw w)) _ (record s { rest = r }) _ (λ d. e + tw d) (items_left-light w save_item (iw w) (save-light w)) (λ is. omega (arith, joined_weight w save_item_text is.0)))

  pub data_light : Light w data_statement tw
  unfolding data_statement
  data_light e s =
      then_word w (codes "DATA") s _ e (λ d. e + tw d)
      (λ r. then_read w (items_by next_group data_group) (parted 0 (dw w)) _ (record s { rest = r }) _ (λ d. e + tw d) (groups_light w) (λ gs. omega (arith, groups_weight w gs.0)))
