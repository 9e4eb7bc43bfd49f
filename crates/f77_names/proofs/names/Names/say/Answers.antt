use Rattle.std.proofs.Common.{map, false, sym, ap, ◌∙◌, subst}
use Rattle.f77_ast.specs.Index.{Indexes}
use Rattle.f77_names.specs.Entries.{entry_tree, changed, find, entry_names, of_entry, place_in}
use Rattle.f77_names.specs.Words.{with_word, was_said}
use Rattle.f77_names.proofs.NamesLaws.{find-none, find-at, changed-none, changed-at, entry_names-changed}
use Rattle.f77_names.proofs.names.Names.say.Goals as goal

pub invariant_of-self : goal.invariant_of-self
invariant_of-self c =
    let items = c.self.inside.entries.items in
    let placed = ap (λ zs. place_in (map entry_tree zs) c.args.name.now) c.self.view_is ∙ sym c.in-Some.ensures.place in
    let said = c.say.ensures.entry ∙ ap (λ z. with_word c.args.word (entry_tree z)) c.index_mut-entry.ensures.value in
    let now = changed-at c.args.name.now (with_word c.args.word) c.in-Some.at items c.index_mut-entry.result.now c.say.new.self placed said in
    subst (Indexes c.self.inside.index) (sym (ap entry_names now ∙ entry_names-changed c.args.name.now c.args.word (map entry_tree items))) c.self.invariant

pub returns-in-None-clause-entries : goal.returns-in-None-clause-entries
returns-in-None-clause-entries c = sym (changed-none c.args.name.now (with_word c.args.word) (map entry_tree c.args.self.now) (sym c.in-None.ensures.place))

pub returns-in-None-clause-twice : goal.returns-in-None-clause-twice
returns-in-None-clause-twice c = sym (ap (of_entry false (was_said c.args.word)) (find-none c.args.name.now (map entry_tree c.args.self.now) (sym c.in-None.ensures.place)))

pub returns-in-Some-clause-entries : goal.returns-in-Some-clause-entries
returns-in-Some-clause-entries c =
    let items = c.self.inside.entries.items in
    let placed = ap (λ zs. place_in (map entry_tree zs) c.args.name.now) c.self.view_is ∙ sym c.in-Some.ensures.place in
    let said = c.say.ensures.entry ∙ ap (λ z. with_word c.args.word (entry_tree z)) c.index_mut-entry.ensures.value in
    changed-at c.args.name.now (with_word c.args.word) c.in-Some.at items c.index_mut-entry.result.now c.say.new.self placed said
    ∙ ap (λ zs. changed c.args.name.now (with_word c.args.word) (map entry_tree zs)) c.self.view_is

pub returns-in-Some-clause-twice : goal.returns-in-Some-clause-twice
returns-in-Some-clause-twice c =
    let items = c.self.inside.entries.items in
    let placed = ap (λ zs. place_in (map entry_tree zs) c.args.name.now) c.self.view_is ∙ sym c.in-Some.ensures.place in
    let there = find-at c.args.name.now c.in-Some.at items c.index_mut-entry.result.now placed in
    c.say.ensures.twice ∙ ap (λ z. was_said c.args.word (entry_tree z)) c.index_mut-entry.ensures.value
    ∙ sym (ap (of_entry false (was_said c.args.word)) there)
    ∙ ap (λ zs. of_entry false (was_said c.args.word) (find c.args.name.now (map entry_tree zs))) c.self.view_is
