use Rattle.std.proofs.Common.{◌≡◌, ◌∙◌, ◌++◌, ◌∷◌, [], Bool, false, List, reverse, ap₂, refl, rules}
use Rattle.std.proofs.lemmas.Result.{IfOk-weaker}
use Rattle.affine_systems.specs.declared.row.Row.{Row}
use Rattle.hull_projection.specs.Refute.{refuted, above}
use Rattle.hull_projection.specs.Clean.{is_spare}
use Rattle.hull_projection.proofs.CleanSteps.{spare-refuted, spare_given}
use Rattle.hull_projection.proofs.cleaning.is_spare.Goals as goal

pub refuted_rows-requires : goal.refuted_rows-requires
refuted_rows-requires c =
    let a : c.append.new.self.items ≡ c.args.front.now ++ reverse c.args.behind.now = c.in_ok-append.ensures.items ∙ ap₂ (λ (rs ss : List Row). rs ++ ss) c.in_ok-rows.ensures c.in_ok-rest.ensures in
    let e : c.push.new.self.items ≡ (c.args.front.now ++ reverse c.args.behind.now) ++ above c.args.row.now ∷ [] = c.in_ok-push.ensures.items ∙ ap₂ (λ (rs : List Row) (r : Row). rs ++ r ∷ []) a c.in_ok-over.ensures in
    spare_given c.args.front.now c.args.behind.now (reverse c.args.behind.now) c.push.new.self.items c.args.row.now (above c.args.row.now) c.requires.front c.requires.behind c.requires.row refl refl e

pub returns : goal.returns
returns c =
    let a : c.append.new.self.items ≡ c.args.front.now ++ reverse c.args.behind.now = c.in_ok-append.ensures.items ∙ ap₂ (λ (rs ss : List Row). rs ++ ss) c.in_ok-rows.ensures c.in_ok-rest.ensures in
    let e : c.push.new.self.items ≡ (c.args.front.now ++ reverse c.args.behind.now) ++ above c.args.row.now ∷ [] = c.in_ok-push.ensures.items ∙ ap₂ (λ (rs : List Row) (r : Row). rs ++ r ∷ []) a c.in_ok-over.ensures in
    let q : c.args.row.now.equal ≡ false = search rules in
    IfOk-weaker c.refuted_rows.result (λ (b : Bool). b ≡ refuted c.push.new.self.items) (λ (b : Bool). b ≡ is_spare (c.args.front.now ++ reverse c.args.behind.now) c.args.row.now)
    (λ b f. spare-refuted (c.args.front.now ++ reverse c.args.behind.now) c.push.new.self.items c.args.row.now b q e f) c.refuted_rows.ensures
