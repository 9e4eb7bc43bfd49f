use Rattle.std.proofs.Common.{◌≡◌, Bool}
use Rattle.std.proofs.lemmas.Result.{IfOk-weaker}
use Rattle.affine_systems.proofs.SystemSteps.{items_given_from}
use Rattle.hull_projection.specs.Refute.{refuted_items, refuted}
use Rattle.hull_projection.proofs.RefuteSteps.{refutes_rows}
use Rattle.hull_projection.proofs.refutation.refuted_rows.Goals as goal

pub tidy_items-requires : goal.tidy_items-requires
tidy_items-requires c = record { fits = items_given_from c.args.rows.items c.in_ok-items.items c.requires c.in_ok-items.ensures }

pub returns : goal.returns
returns c =
    IfOk-weaker c.refuted_items.result (λ (b : Bool). b ≡ refuted_items c.in_ok-t.t.items) (λ (b : Bool). b ≡ refuted c.args.rows.items)
    (λ b e. refutes_rows c.args.rows.items c.in_ok-items.items c.in_ok-t.t b c.in_ok-items.ensures c.in_ok-t.ensures.defined e) c.refuted_items.ensures
