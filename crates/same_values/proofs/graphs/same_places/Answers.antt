use Rattle.std.proofs.Common.{◌≡◌, Bool, true, sym, subst}
use Rattle.same_values.proofs.GraphLaws.{places_decides}
use Rattle.same_values.proofs.graphs.same_places.Goals as goal

pub returns : goal.returns
returns c = subst (λ (r : Bool). (r ≡ true → c.args.a.now ≡ c.args.b.now) × (c.args.a.now ≡ c.args.b.now → r ≡ true)) (sym c.places_test.ensures) (places_decides (c.args.a.now) (c.args.b.now))
