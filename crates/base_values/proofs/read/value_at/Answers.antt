use Rattle.std.proofs.Common.{sym, subst}
use Rattle.serde_json.specs.View.{view}
use Rattle.base_json.specs.Gives.{Gives}
use Rattle.base_json.specs.Scopes.{scope_tree}
use Rattle.pipsmake_rules.specs.declared.kind.Kind.{Kind}
use Rattle.std.specs.Prelude.{codes, option_map}
use Rattle.base_values.specs.declared.stored.StoredValue.TheVariants as stored
use Rattle.base_values.specs.Read.{value_of, results_of, regions_of}
use Rattle.base_values.proofs.read.value_at.Goals as goal

pub returns-in-Effects : goal.returns-in-Effects
returns-in-Effects c =
    subst (λ (k : Kind). Gives c.effects_at.result (value_of c.args.names.now.numbers.now.statements c.args.names.now.numbers.now.loops (scope_tree c.args.scope.now.cells) k (view c.args.value.now))) (sym c.in-Effects.is) c.effects_at.ensures

pub returns-in-Transformers : goal.returns-in-Transformers
returns-in-Transformers c =
    subst (λ (k : Kind). Gives c.transformers_at.result (value_of c.args.names.now.numbers.now.statements c.args.names.now.numbers.now.loops (scope_tree c.args.scope.now.cells) k (view c.args.value.now))) (sym c.in-Transformers.is) c.transformers_at.ensures

pub returns-in-Preconditions : goal.returns-in-Preconditions
returns-in-Preconditions c =
    subst (λ (k : Kind). Gives c.preconditions_at.result (value_of c.args.names.now.numbers.now.statements c.args.names.now.numbers.now.loops (scope_tree c.args.scope.now.cells) k (view c.args.value.now))) (sym c.in-Preconditions.is) c.preconditions_at.ensures

pub returns-in-Regions : goal.returns-in-Regions
returns-in-Regions c =
    subst (λ (k : Kind). Gives c.read_writes_at.result (value_of c.args.names.now.numbers.now.statements c.args.names.now.numbers.now.loops (scope_tree c.args.scope.now.cells) k (view c.args.value.now))) (sym c.in-Regions.is) (subst (λ (k : Kind). Gives c.read_writes_at.result (option_map stored.Regions (results_of (regions_of (scope_tree c.args.scope.now.cells) k) c.args.names.now.numbers.now.statements (codes "summary") (view c.args.value.now)))) c.in-Regions.is c.read_writes_at.ensures)

pub returns-in-InRegions : goal.returns-in-InRegions
returns-in-InRegions c =
    subst (λ (k : Kind). Gives c.ins_at.result (value_of c.args.names.now.numbers.now.statements c.args.names.now.numbers.now.loops (scope_tree c.args.scope.now.cells) k (view c.args.value.now))) (sym c.in-InRegions.is) (subst (λ (k : Kind). Gives c.ins_at.result (option_map stored.InRegions (results_of (regions_of (scope_tree c.args.scope.now.cells) k) c.args.names.now.numbers.now.statements (codes "summary") (view c.args.value.now)))) c.in-InRegions.is c.ins_at.ensures)

pub returns-in-OutRegions : goal.returns-in-OutRegions
returns-in-OutRegions c =
    subst (λ (k : Kind). Gives c.outs_at.result (value_of c.args.names.now.numbers.now.statements c.args.names.now.numbers.now.loops (scope_tree c.args.scope.now.cells) k (view c.args.value.now))) (sym c.in-OutRegions.is) (subst (λ (k : Kind). Gives c.outs_at.result (option_map stored.OutRegions (results_of (regions_of (scope_tree c.args.scope.now.cells) k) c.args.names.now.numbers.now.statements (codes "summary") (view c.args.value.now)))) c.in-OutRegions.is c.outs_at.ensures)

pub returns-in-Marks : goal.returns-in-Marks
returns-in-Marks c =
    subst (λ (k : Kind). Gives c.marks_at.result (value_of c.args.names.now.numbers.now.statements c.args.names.now.numbers.now.loops (scope_tree c.args.scope.now.cells) k (view c.args.value.now))) (sym c.in-Marks.is) c.marks_at.ensures
