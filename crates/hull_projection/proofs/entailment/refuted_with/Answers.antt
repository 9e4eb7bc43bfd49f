use Rattle.std.proofs.Common.{◌≡◌, ◌∙◌, ◌++◌, ◌∷◌, [], List, ap, sym, subst}
use Rattle.affine_systems.specs.declared.row.Row.{Row}
use Rattle.affine_systems.specs.Rows.{AllRows}
use Rattle.affine_systems.specs.Given.{IsGiven}
use Rattle.affine_systems.proofs.RenameSteps.{given_append}
use Rattle.hull_projection.proofs.entailment.refuted_with.Goals as goal

pub refuted_rows-requires : goal.refuted_rows-requires
refuted_rows-requires c =
    let e : c.push.new.self.items ≡ c.args.rows.now ++ c.args.row ∷ [] = c.in_ok-push.ensures.items ∙ ap (λ (rs : List Row). rs ++ c.args.row ∷ []) c.in_ok-all.ensures in
    subst (λ (rs : List Row). AllRows IsGiven rs) (sym e) (given_append c.args.rows.now (c.args.row ∷ []) c.requires.each (c.requires.one, tt))
