use Rattle.std.proofs.Common.{◌≡◌, ◌<◌, ◌^◌, drop, true}
use Rattle.std.specs.List.{list_all}
use Rattle.fixed_form.specs.Cards.{number_from, is_label_mark}
use Rattle.fixed_form.proofs.label.number.Given as goal

abbrev pub invariant-loop-b : goal.invariant-loop-b
invariant-loop-b l = record {
  same : number_from l.number (drop l.b-index l.field) ≡ number_from 0 l.field;
  marks : list_all is_label_mark (drop l.b-index l.field) ≡ true;
  small : l.number < 10 ^ l.b-index;
}
