use Rattle.std.proofs.Common.{◌≡◌, None, map, sym, ap, ◌∙◌}
use Rattle.f77_ast.specs.PlainDecl.{parsed_tree}
use Rattle.session_texts.specs.Joined.{sources_from}
use Rattle.session_texts.specs.Sources.{source_refusal}
use Rattle.session_texts.proofs.SourceTexts.{read_sources_as}
use Rattle.session_texts.proofs.reading.sources_with.Goals as goal

pub returns-clause-defined : goal.returns-clause-defined
returns-clause-defined c =
    let none : source_refusal (map parsed_tree c.args.modules) ≡ None = sym c.in_ok-refusal.ensures ∙ c.in_default.is in
    (read_sources_as c.pieces_are_modules.ensures c.tables_ignore_places.ensures c.args.text.now c.args.lines.now c.args.modules c.in-Ok.tables c.in_ok-sources.sources
    c.requires.lined c.requires.parsed c.in-Ok.ensures.defined none (c.in_ok-sources.ensures ∙ ap (λ ps. sources_from ps c.args.modules c.in-Ok.tables) c.in_ok-pieces.ensures.defined)).texts

pub returns-clause-sources : goal.returns-clause-sources
returns-clause-sources c =
    let none : source_refusal (map parsed_tree c.args.modules) ≡ None = sym c.in_ok-refusal.ensures ∙ c.in_default.is in
    (read_sources_as c.pieces_are_modules.ensures c.tables_ignore_places.ensures c.args.text.now c.args.lines.now c.args.modules c.in-Ok.tables c.in_ok-sources.sources
    c.requires.lined c.requires.parsed c.in-Ok.ensures.defined none (c.in_ok-sources.ensures ∙ ap (λ ps. sources_from ps c.args.modules c.in-Ok.tables) c.in_ok-pieces.ensures.defined)).sources

pub returns-clause-differ : goal.returns-clause-differ
returns-clause-differ c =
    let none : source_refusal (map parsed_tree c.args.modules) ≡ None = sym c.in_ok-refusal.ensures ∙ c.in_default.is in
    (read_sources_as c.pieces_are_modules.ensures c.tables_ignore_places.ensures c.args.text.now c.args.lines.now c.args.modules c.in-Ok.tables c.in_ok-sources.sources
    c.requires.lined c.requires.parsed c.in-Ok.ensures.defined none (c.in_ok-sources.ensures ∙ ap (λ ps. sources_from ps c.args.modules c.in-Ok.tables) c.in_ok-pieces.ensures.defined)).differ
