use Rattle.std.proofs.Common.{◌≡◌, ℕ, List, [], ◌++◌, ap, ◌∙◌}
use Rattle.f77_ast.specs.declared.places.Part.{Part}
use Rattle.f77_ast.specs.declared.places.Spot.{Spot}
use Rattle.f77_ast.specs.PlainDecl.{module_tree}
use Rattle.f77_printer.specs.AddedText.{added_text}
use Rattle.f77_printer.specs.Lines.{lines_of}
use Rattle.f77_printer.specs.PageText.{PageTree, lines_text, with_text}
use Rattle.f77_printer.specs.ModuleText.{first_part, with_module}
use Rattle.f77_printer.proofs.module.plain.Goals as goal

pub returns : goal.returns
unfolding with_text
returns c =
    let m = module_tree c.args.module.now in
    let start : List ℕ → List Spot → PageTree = λ t s. record { text = t; spots = s } in
    let whole : (Part → List ℕ) → List ℕ → List Spot → List ℕ = λ f t s. (with_module f m (start t s)).text ++ lines_text c.args.places.now.closing in
    let lines : lines_of c.in_ok-lines.lines ≡ added_text (first_part m) c.args.added.now =
    c.in_ok-lines.ensures ∙ ap (λ p. added_text p c.args.added.now) c.first_written.ensures in
    c.in_ok-write_whole.ensures
    ∙ ap (λ (p : PageTree). p.text ++ lines_text c.args.places.now.closing) c.in_ok-put_module.ensures
    ∙ ap (λ f. whole f c.new.result c.as_slice.result.now) lines
    ∙ ap (λ t. whole (added_text (first_part m) c.args.added.now) t c.as_slice.result.now) c.new.ensures
    ∙ ap (λ s. whole (added_text (first_part m) c.args.added.now) [] s) c.as_slice.ensures
