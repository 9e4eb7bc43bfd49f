-- The form of a text from what the table gives, and from the keyword for which it is refused.
use Rattle.std.proofs.Common.{◌≡◌, refl, Some, None}
use Rattle.std.specs.Prelude.{Ok, Err}
use Rattle.f77_forms.specs.declared.choice.Choice.{Choice}
use Rattle.f77_forms.specs.declared.choice.Choice.TheVariants.{Chosen, OutOfProfile, Syntax}
use Rattle.f77_forms.specs.declared.form.FormId.{FormId}
use Rattle.f77_forms.specs.declared.refused.Refused.{Refused}
use Rattle.f77_forms.specs.Choice.{chosen, refused_of}
use Rattle.f77_statements.specs.declared.refusal.Cause.TheVariants as causes
use Rattle.f77_statements.specs.Statements.{form_in}

pub form_in-chosen : (c : Choice) (form : FormId) → Some form ≡ chosen c → Ok form ≡ form_in c
form_in-chosen (Chosen id) form h = cc
form_in-chosen (OutOfProfile r) form h = cc
form_in-chosen Syntax form h = cc

pub form_in-refused : (c : Choice) (keyword : Refused) → Some keyword ≡ refused_of c → Err (causes.OutOfProfile keyword) ≡ form_in c
form_in-refused (Chosen id) keyword h = cc
form_in-refused (OutOfProfile r) keyword h = cc
form_in-refused Syntax keyword h = cc

pub form_in-none : (c : Choice) → None ≡ chosen c → None ≡ refused_of c → Err causes.Syntax ≡ form_in c
form_in-none (Chosen id) h j = cc
form_in-none (OutOfProfile r) h j = cc
form_in-none Syntax h j = refl

pub ruleset form_at_cases = (form_in-chosen, form_in-refused, form_in-none)
