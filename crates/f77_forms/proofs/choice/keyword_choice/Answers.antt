use Rattle.std.proofs.Common.{◌≡◌, ap, ◌∙◌, option_map}
use Rattle.f77_forms.specs.Choice.{entry, entries, entry_stands, longer_of}
use Rattle.f77_forms.specs.Longest.{longest}
use Rattle.f77_forms.specs.Refused.{refused_word, refused_keywords, refused_stands}
use Rattle.f77_forms.proofs.LongestLemmas.{longest-map}
use Rattle.f77_forms.proofs.choice.keyword_choice.Goals as goal

pub returns : goal.returns
returns c =
    let form : option_map entry c.longest.result ≡ longest (λ e. e.word) (entry_stands c.args.body.now) (entries c.args.table.now) =
    ap (option_map entry) c.longest.ensures ∙ longest-map entry (λ e. e.word) (entry_stands c.args.body.now) c.args.table.now in
    let refused : c.longest-2.result ≡ longest refused_word (refused_stands c.args.body.now) refused_keywords = c.longest-2.ensures in
    c.longer_of.ensures
    ∙ ap (λ o. longer_of o c.longest-2.result) form
    ∙ ap (λ r. longer_of (longest (λ e. e.word) (entry_stands c.args.body.now) (entries c.args.table.now)) r) refused
