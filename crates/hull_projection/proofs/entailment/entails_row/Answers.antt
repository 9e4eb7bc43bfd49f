use Rattle.std.proofs.Common.{◌≡◌, ◌++◌, ◌∷◌, [], Bool, true, rules}
use Rattle.std.proofs.lemmas.Result.{IfOk-weaker}
use Rattle.hull_projection.specs.Refute.{refuted, entails}
use Rattle.hull_projection.proofs.RefuteSteps.{above_given, below_given, entailed-twice}
use Rattle.hull_projection.proofs.entailment.entails_row.Goals as goal

pub refuted_with-requires-clause-one : goal.refuted_with-requires-clause-one
refuted_with-requires-clause-one c = above_given c.args.row.now c.in_ok-over.over c.requires.row c.in_ok-over.ensures

pub refuted_with-requires-2-clause-one : goal.refuted_with-requires-2-clause-one
refuted_with-requires-2-clause-one c = below_given c.args.row.now c.in_ok-under.under c.requires.row c.in_ok-under.ensures

pub returns : goal.returns
returns c =
    let b : c.in_ok-one.one ≡ true = search rules in
    let q : c.args.row.now.equal ≡ true = search rules in
    IfOk-weaker c.refuted_with-2.result (λ (x : Bool). x ≡ refuted (c.args.rows.now ++ c.in_ok-under.under ∷ [])) (λ (x : Bool). x ≡ entails c.args.rows.now c.args.row.now)
    (λ x e. entailed-twice c.args.rows.now c.args.row.now c.in_ok-over.over c.in_ok-under.under c.in_ok-one.one x c.in_ok-over.ensures c.in_ok-one.ensures b q c.in_ok-under.ensures e) c.refuted_with-2.ensures
