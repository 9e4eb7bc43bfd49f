use Rattle.std.proofs.Common.{Some, sym, ap, ◌∙◌, subst}
use Rattle.std.specs.HashMap.{Updates}
use Rattle.f77_ast.specs.declared.name_index.NameIndex.{NameIndex}
use Rattle.f77_ast.proofs.NumbersLaws.{indexes_again, indexes_after}
use Rattle.f77_ast.proofs.name_index.NameIndex.add.Goals as goal
use Rattle.f77_ast.proofs.name_index.NameIndex.add.Goals.{then-not-contains_key+in_ok-insert, else-not-contains_key}
use Rattle.f77_ast.proofs.MapLaws.{same_key}

pub returns-clause-ok : goal.returns-clause-ok
returns-clause-ok c names are =
    let old = c.args.self.now in
    let numbers = c.if-not-contains_key.self.numbers in
    let new : NameIndex = record { count = c.in_ok-number.number; numbers = numbers } in
    elim c.if-not-contains_key.branch [
      | then-not-contains_key+in_ok-insert w ↦
          let more : Updates same_key old.numbers numbers c.args.name (Some c.in_ok-number.number) =
          subst (λ (i : NameIndex). Updates same_key old.numbers i.numbers c.args.name (Some c.in_ok-number.number)) (sym w.self-is) w.in_ok-insert.ensures.updates in
          indexes_after old new names c.args.name are c.in_ok-number.ensures more (sym c.contains_key.ensures ∙ w.if-not-contains_key.true)
      | else-not-contains_key w ↦
          indexes_again old new names c.args.name are c.in_ok-number.ensures (ap (λ i. i.numbers) w.self-is) (sym c.contains_key.ensures ∙ w.if-not-contains_key.false)
    ]
