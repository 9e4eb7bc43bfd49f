use Rattle.std.proofs.Common.{ap, ◌∙◌, Some}
use Rattle.f77_forms.specs.Choice.{entries, choice_of, chosen}
use Rattle.f77_forms.proofs.ClaimLemmas.{form-begins}
use Rattle.f77_forms.proofs.choice.form_of.Goals as goal

pub returns-in-Chosen-clause-longest : goal.returns-in-Chosen-clause-longest
returns-in-Chosen-clause-longest c = λ k.
    form-begins (entries c.args.table.now) c.args.body.now (Some c.in-Chosen.id)
    (ap chosen c.in-Chosen.ensures ∙ ap (λ b. chosen (choice_of (entries c.args.table.now) b)) c.as_slice.ensures) k
