use Rattle.std.proofs.Common.{◌≡◌, subst}
use Rattle.fx_base.specs.declared.store.Role.{Role}
use Rattle.fx_base.specs.declared.store.Role.TheVariants.{Input, Base}
use Rattle.pips_top.specs.Based.{OpensBy}
use Rattle.pips_top.proofs.over.opened.Goals as goal

abbrev is_base : Role → Type 0
is_base Input = ⊥
is_base Base = Unit {0}

not_input : Base ≡ Input → ⊥
not_input e = subst is_base e tt

pub returns-in-Ok-load-clause-answer : goal.returns-in-Ok-load-clause-answer
returns-in-Ok-load-clause-answer g c =
    let counts = g.F.Store.counts in
    let base = c.in-Ok-open_base.base in
    let found = c.in-Ok-open_base.ensures.answer in
    let name = c.args.opening.now.name in
    let last = counts c.open_base.new.files Base in
    let opened = subst (λ f. OpensBy f (counts c.input_of.new.files Base) last name base) c.input_of.ensures.files found.0 in (
      c.in-Ok.ensures.answer,
      record {
        opened = base;
        opens = subst (λ n. OpensBy (g.F.Store.files c.args.files.now) n last name base) (c.input_of.ensures.counts.others Base not_input) opened;
        verified = found.1;
        grammar = c.in-Ok-open_base.ensures.grammar;
        texts = c.in-Ok-load.ensures.texts;
        fresh = c.in-Ok-load.ensures.fresh;
        rests = c.in-Ok-load.ensures.rests;
        stands = c.in-Ok-load.ensures.stands;
      },
    )
