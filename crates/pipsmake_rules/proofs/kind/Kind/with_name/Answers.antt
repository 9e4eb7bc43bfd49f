use Rattle.std.proofs.Common.{◌≡◌, sym, subst, Option}
use Rattle.std.specs.Prelude.{◌≢◌, IfSome, IfNone}
use Rattle.pipsmake_rules.specs.declared.kind.Kind.{Kind}
use Rattle.pipsmake_rules.specs.Kinds.{name_of}
use Rattle.pipsmake_rules.proofs.KindLaws.{named, unnamed}
use Rattle.pipsmake_rules.proofs.kind.Kind.with_name.Goals as goal

pub returns-clause-found : goal.returns-clause-found
returns-clause-found c = subst (λ (o : Option Kind). IfSome o (λ k. name_of k ≡ c.args.name.now)) (sym c.kind_with.ensures) (named c.args.name.now)

pub returns-clause-none : goal.returns-clause-none
returns-clause-none c = subst (λ (o : Option Kind). IfNone o ((k : Kind) → name_of k ≢ c.args.name.now)) (sym c.kind_with.ensures) (unnamed c.args.name.now)
