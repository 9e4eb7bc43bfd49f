-- A text is read as one program, with one choice of marked loops.
use Rattle.std.proofs.Common.{◌≡◌, List, sym, ap, ◌∙◌, Some}
use Rattle.std.specs.Prelude.{Ok}
use Rattle.f77_ast.specs.DeclTrees.{ParsedTree}
use Rattle.f77_parser.specs.Modules.{parse_of}
use Rattle.system_text.specs.Reading.{Bytes}
use Rattle.laws_programs.specs.roundtrip_programs.Texts.Texts.{IsReadAs}
use Rattle.laws_lines.specs.Marks.Marked.{all_attached, all_with_functions}
use Rattle.laws_lines.specs.Marks.Laws.{ReadingIsUnique}

pub one_reading : (text : Bytes) (ps qs : List ParsedTree) → IsReadAs text ps → IsReadAs text qs → ps ≡ qs
one_reading text ps qs h k =
    let e : Ok h.lines ≡ Ok k.lines = sym h.lined ∙ k.lined in
    let same : h.lines ≡ k.lines = cc in
    let f : Ok ps ≡ Ok qs = sym h.parsed ∙ ap parse_of same ∙ k.parsed in
    cc

pub reading_is_unique : ReadingIsUnique
reading_is_unique text ps qs ms ns h k =
    let p : ps ≡ qs = one_reading text ps qs h.read k.read in
    let e : Some h.directives ≡ Some k.directives = sym h.found ∙ k.found in
    let d : h.directives ≡ k.directives = cc in
    let a = sym h.attached ∙ ap (λ (x : List ParsedTree). all_attached x h.directives) p ∙ ap (all_attached qs) d ∙ k.attached in
    let n : h.named ≡ k.named = ap (λ x. x.0) a in
    record { modules = p; marks = sym h.marked ∙ ap (λ (x : List ParsedTree). all_with_functions x h.named) p ∙ ap (all_with_functions qs) n ∙ k.marked }
