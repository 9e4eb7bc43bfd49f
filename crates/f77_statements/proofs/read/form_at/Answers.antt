-- The form and the refused keyword are two sides of one choice.
use Rattle.f77_forms.specs.Choice.{choice_of}
use Rattle.f77_forms.specs.Profile.{profile}
use Rattle.f77_statements.specs.Statements.{form_at}
use Rattle.f77_statements.proofs.Choices.{form_in-chosen, form_in-refused}
use Rattle.f77_statements.proofs.read.form_at.Goals as goal

pub returns-in-Some : goal.returns-in-Some
unfolding form_at
returns-in-Some c = form_in-chosen (choice_of profile c.args.body.now) c.in-Some.form c.in-Some.ensures.defined

pub returns-in-Some-refused_keyword : goal.returns-in-Some-refused_keyword
unfolding form_at
returns-in-Some-refused_keyword c = form_in-refused (choice_of profile c.args.body.now) c.in-Some-refused_keyword.keyword c.in-Some-refused_keyword.ensures
