use Rattle.std.proofs.Common.{◌≡◌, ◌∷◌, [], ◌++◌, map, sym, ap, ◌∙◌, None}
use Rattle.std.proofs.lemmas.List.{map-append}
use Rattle.f77_names.specs.Entries.{entry_tree, fresh, place_in}
use Rattle.f77_names.proofs.NamesLaws.{seen-old, not_placed, seen-new}
use Rattle.f77_names.proofs.names.Names.see.Goals as goal

pub returns-then-is_some-clause-ok : goal.returns-then-is_some-clause-ok
returns-then-is_some-clause-ok c = seen-old c.place.result c.args.name.now c.args.line (map entry_tree c.args.self.now) c.place.ensures.place (sym c.is_some.ensures ∙ c.if-is_some.true)

pub returns-clause-ok : goal.returns-clause-ok
returns-clause-ok c =
    let old = map entry_tree c.args.self.now in
    let none : place_in old c.args.name.now ≡ None = not_placed c.place.result c.args.name.now old c.place.ensures.place (sym c.is_some.ensures ∙ c.if-is_some.false) in
    let made : entry_tree c.new-entry.result ≡ fresh c.args.name.now c.args.line = c.new-entry.ensures ∙ ap (λ x. fresh x c.args.line) c.in_ok-clone.ensures.cases in
    ap (map entry_tree) (c.in_ok-push.ensures.list ∙ ap (λ es. es ++ c.new-entry.result ∷ []) c.self.view_is)
    ∙ map-append entry_tree c.args.self.now (c.new-entry.result ∷ []) ∙ ap (λ e. old ++ e ∷ []) made ∙ sym (seen-new c.args.name.now c.args.line old none)
