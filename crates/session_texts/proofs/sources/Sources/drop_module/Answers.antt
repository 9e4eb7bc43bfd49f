use Rattle.std.proofs.Common.{List, map, sym, ap, ◌∙◌}
use Rattle.std.specs.Prelude.{is_some}
use Rattle.pipsmake_rules.specs.Neighbours.{has_name}
use Rattle.pipsmake_meaning.specs.Texts.{names_in}
use Rattle.f77_ast.specs.Symbols.{number_from}
use Rattle.session_texts.specs.declared.lists.Lists.{Lists}
use Rattle.session_texts.specs.Changes.{without}
use Rattle.session_texts.specs.Modules.{text_record}
use Rattle.session_texts.proofs.Removed.{there, none_removed}
use Rattle.session_texts.proofs.Keeping.{kept_but}
use Rattle.session_texts.proofs.sources.Sources.drop_module.Goals as goal

pub remove-requires-clause-texts : goal.remove-requires-clause-texts
remove-requires-clause-texts c = (kept_but c.self.inside.lists c.self.inside.names c.self.invariant c.args.name.now c.in-Some.place (sym c.in-Some.ensures)).in_texts

pub remove-requires-clause-trees : goal.remove-requires-clause-trees
remove-requires-clause-trees c = (kept_but c.self.inside.lists c.self.inside.names c.self.invariant c.args.name.now c.in-Some.place (sym c.in-Some.ensures)).in_trees

pub remove-requires-clause-tables : goal.remove-requires-clause-tables
remove-requires-clause-tables c = (kept_but c.self.inside.lists c.self.inside.names c.self.invariant c.args.name.now c.in-Some.place (sym c.in-Some.ensures)).in_tables

pub returns-in_default-clause-there : goal.returns-in_default-clause-there
returns-in_default-clause-there c =
    let x = c.args.name.now in
    ap is_some c.in_default.ensures
    ∙ sym (there 0 c.self.inside.names x)
    ∙ ap (λ ns. has_name ns x) (c.self.invariant.names_are ∙ ap names_in c.self.view_is)

pub returns-in_default-clause-ok : goal.returns-in_default-clause-ok
returns-in_default-clause-ok c =
    let x = c.args.name.now in
    sym (none_removed 0 c.args.self.now x (sym (c.in_default.ensures ∙ ap (λ ns. number_from 0 ns x) (c.self.invariant.names_are ∙ ap names_in c.self.view_is))))

pub invariant_of-self : goal.invariant_of-self
invariant_of-self c =
    let k = kept_but c.self.inside.lists c.self.inside.names c.self.invariant c.args.name.now c.in-Some.place (sym c.in-Some.ensures) in
    rw (c.remove.ensures, c.in_ok-names.ensures, c.names.ensures) k.kept

pub returns-clause-there : goal.returns-clause-there
returns-clause-there c =
    let x = c.args.name.now in
    ap is_some c.in-Some.ensures
    ∙ sym (there 0 c.self.inside.names x)
    ∙ ap (λ ns. has_name ns x) (c.self.invariant.names_are ∙ ap names_in c.self.view_is)

pub returns-clause-ok : goal.returns-clause-ok
returns-clause-ok c =
    let k = kept_but c.self.inside.lists c.self.inside.names c.self.invariant c.args.name.now c.in-Some.place (sym c.in-Some.ensures) in
    ap (λ (l : Lists). map text_record l.texts) c.remove.ensures ∙ k.same ∙ ap (without c.args.name.now) c.self.view_is
