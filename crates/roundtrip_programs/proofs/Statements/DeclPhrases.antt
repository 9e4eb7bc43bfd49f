-- Each specification statement is read back from the text that is written for it.
use Rattle.std.proofs.Common.{◌≡◌, ◌++◌, ap, Option, Some, false}
use Rattle.std.specs.Prelude.{codes, Ok}
use Rattle.f77_ast.specs.DeclTrees.{DeclTree, implicit, integer, logical, dimension, parameter, common, equivalence, save, initial}
use Rattle.f77_exprs.specs.State.{State, ◌>>=◌}
use Rattle.f77_forms.specs.declared.form.FormId.TheVariants as forms
use Rattle.f77_statements.specs.Phrases.{specification}
use Rattle.f77_statements.specs.Statements.{specified, phrase_of}
use Rattle.f77_printer.specs.Layout.{stripped}
use Rattle.f77_printer.specs.DeclText.{joined_by, entity_text, settings_text, group_text, save_item_text, decl_text}
use Rattle.roundtrip_programs.specs.Statements.Declared.{IsDecl}
use Rattle.roundtrip_programs.proofs.Statements.Verdicts.{whole}
use Rattle.roundtrip_programs.proofs.Statements.DeclBack.{stripped_integer, integer_form, integer_back, stripped_logical, logical_form, logical_back, stripped_dimension, dimension_form, dimension_back, stripped_parameter, parameter_form, parameter_back, stripped_equivalence, equivalence_form, equivalence_back, stripped_save, save_form, save_back, compact_implicit, stripped_implicit, implicit_form, implicit_back}
use Rattle.roundtrip_programs.proofs.Statements.CommonBack.{compact_commons, stripped_common, common_form, common_back}
use Rattle.roundtrip_programs.proofs.Statements.DataBack.{compact_data, stripped_data, data_form, data_back}

pub decl-back : (d : DeclTree) → IsDecl d → phrase_of (stripped false (decl_text d)) ≡ Ok (specification d)
unfolding specified
decl-back (implicit o) h =
    whole (decl_text (implicit o)) (codes "IMPLICIT" ++ compact_implicit o) forms.Implicit (specification (implicit o)) (stripped_implicit o h) (implicit_form o h)
    (λ k. ap (λ (x : Option (DeclTree × State)). x >>= λ d. Some (specification d.0, d.1)) (implicit_back o k h))
decl-back (integer es) h =
    whole (decl_text (integer es)) (codes "INTEGER" ++ joined_by entity_text es) forms.Integer (specification (integer es)) (stripped_integer es h) (integer_form es h)
    (λ k. ap (λ (x : Option (DeclTree × State)). x >>= λ d. Some (specification d.0, d.1)) (integer_back es k h))
decl-back (logical es) h =
    whole (decl_text (logical es)) (codes "LOGICAL" ++ joined_by entity_text es) forms.Logical (specification (logical es)) (stripped_logical es h) (logical_form es h)
    (λ k. ap (λ (x : Option (DeclTree × State)). x >>= λ d. Some (specification d.0, d.1)) (logical_back es k h))
decl-back (dimension es) h =
    whole (decl_text (dimension es)) (codes "DIMENSION" ++ joined_by entity_text es) forms.Dimension (specification (dimension es)) (stripped_dimension es h) (dimension_form es h)
    (λ k. ap (λ (x : Option (DeclTree × State)). x >>= λ d. Some (specification d.0, d.1)) (dimension_back es k h))
decl-back (parameter ss) h =
    whole (decl_text (parameter ss)) (codes "PARAMETER" ++ settings_text ss) forms.Parameter (specification (parameter ss)) (stripped_parameter ss h) (parameter_form ss h)
    (λ k. ap (λ (x : Option (DeclTree × State)). x >>= λ d. Some (specification d.0, d.1)) (parameter_back ss k h))
decl-back (common cs) h =
    whole (decl_text (common cs)) (codes "COMMON" ++ compact_commons cs) forms.Common (specification (common cs)) (stripped_common cs h) (common_form cs h)
    (λ k. ap (λ (x : Option (DeclTree × State)). x >>= λ d. Some (specification d.0, d.1)) (common_back cs k h))
decl-back (equivalence gs) h =
    whole (decl_text (equivalence gs)) (codes "EQUIVALENCE" ++ joined_by group_text gs) forms.Equivalence (specification (equivalence gs)) (stripped_equivalence gs h) (equivalence_form gs h)
    (λ k. ap (λ (x : Option (DeclTree × State)). x >>= λ d. Some (specification d.0, d.1)) (equivalence_back gs k h))
decl-back (save is) h =
    whole (decl_text (save is)) (codes "SAVE" ++ joined_by save_item_text is) forms.Save (specification (save is)) (stripped_save is h) (save_form is h)
    (λ k. ap (λ (x : Option (DeclTree × State)). x >>= λ d. Some (specification d.0, d.1)) (save_back is k h))
decl-back (initial gs) h =
    whole (decl_text (initial gs)) (codes "DATA" ++ compact_data gs) forms.Data (specification (initial gs)) (stripped_data gs h) (data_form gs h)
    (λ k. ap (λ (x : Option (DeclTree × State)). x >>= λ d. Some (specification d.0, d.1)) (data_back gs k h))
