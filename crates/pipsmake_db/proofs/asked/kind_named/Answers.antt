use Rattle.std.proofs.Common.{◌≡◌, IfSome, IfNone, ◌≢◌, subst}
use Rattle.session_texts.specs.pipsmake_rules.declared.kind.Kind.{Kind}
use Rattle.session_texts.specs.pipsmake_rules.Kinds.{name_of}
use Rattle.pipsmake_db.proofs.AskedLaws.{kind_is}
use Rattle.pipsmake_db.proofs.asked.kind_named.Goals as goal

pub returns : goal.returns
returns c =
    kind_is c.args.kind.now c.with_name.result
    (subst (λ x. IfSome c.with_name.result (λ k. name_of k ≡ x)) c.as_slice.ensures c.with_name.ensures.found)
    (subst (λ x. IfNone c.with_name.result ((k : Kind) → name_of k ≢ x)) c.as_slice.ensures c.with_name.ensures.none)
