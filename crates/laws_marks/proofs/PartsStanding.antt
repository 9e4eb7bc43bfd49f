-- At an execution of a DO its reduction variables are scalars at their own places, which no other variable overlaps.
use Rattle.std.proofs.Common.{◌≡◌, ℕ, true, List, Some, sym, ap, ◌∙◌, subst}
use Rattle.f77_ast.specs.Trees.{LoopTree}
use Rattle.f77_ast.specs.Places.{Variable, Places}
use Rattle.f77_ast.specs.Symbols.{SymbolTree}
use Rattle.f77_ast.specs.declared.variable.Variable.{Variable as Named}
use Rattle.f77_ast.specs.declared.variable.Variable.TheVariants.{Own}
use Rattle.call_graph.specs.declared.graph.Graph.{Graph}
use Rattle.f77_meaning.specs.Modules.{Known, names, fixed, dummies_from}
use Rattle.f77_meaning.specs.Linked.{numbering}
use Rattle.preconditions.specs.transformer_algebra.Laws.{In}
use Rattle.loop_marker.specs.Jumps.{body_of}
use Rattle.loop_marker.specs.Marks.{Knowledge}
use Rattle.loop_marker.specs.Results.{ModuleResults}
use Rattle.loop_marker.specs.privatizer.Names.{may_copy}
use Rattle.result_lines.specs.declared.reduction.Part.{Part}
use Rattle.result_lines.specs.declared.reduction.Reduction.{Reduction}
use Rattle.reductions.specs.Standings.{standing_in}
use Rattle.reductions.specs.declared.standing.Standing.TheVariants.{Accumulated}
use Rattle.laws_interleavings.specs.Typed.{IsNoDummy}
use Rattle.laws_marks.specs.ConflictClaims.{IsSole}
use Rattle.laws_marks.specs.Dead.{index_name}
use Rattle.laws_marks.specs.Said.{knowledge}
use Rattle.laws_marks.specs.Units.{IsPassing}
use Rattle.laws_marks.specs.Verdicts.{IsPartOf, Says}
use Rattle.laws_marks.specs.Parts.{PartStands, PartsStand}
use Rattle.laws_marks.proofs.Own.{passing}

-- of a DO of which this is said; variables whose names allow copies are overlapped by none, and locals that are not saved lie at their own places
module _ (ks : List Known) (g : Graph) (f : ModuleResults) (n : ℕ) (l : LoopTree) (r : Reduction) (said : Says (knowledge g f) n l r) (at : Places) (sole : (v : Named) → may_copy f.known.read f.known.symbols v ≡ true → IsSole f.known.symbols v)
    (placed : (v : ℕ) → IsPassing f.known.symbols v → IsNoDummy (dummies_from 1 f.known.symbols) v × (at v ≡ fixed (numbering ks g) f.known v))
    (index : (v : ℕ) → names f.known.symbols (index_name l) ≡ Variable v → ((knowledge g f).body l).index ≡ v) where
  abbrev k : Known
  k = f.known

  part_stands : (p : Part) → IsPartOf (knowledge g f) l p → PartStands ks g f.known l at p
  part_stands p q =
      let local = passing k.read k.symbols p.cell q.may in
      let found : Some q.symbol ≡ Some local.symbol = sym q.is_symbol ∙ local.is_symbol in
      let same : q.symbol ≡ local.symbol = cc in
      record {
        local = local;
        scalar = ap (λ (s : SymbolTree). s.bounds) (sym same) ∙ q.scalar;
        sole = sole (Own p.cell) q.may;
        no_dummy = (placed p.cell local).0;
        placed = (placed p.cell local).1;
        stands = subst (λ s. standing_in k.symbols s (body_of l) ≡ Accumulated p.op) same q.stands;
      }

  pub parts_stand : PartsStand ks g f.known l r at
  parts_stand = record {
    each = λ p i. part_stands p (said.parts p i);
    once = said.once;
    apart = said.apart;
    no_index = λ p i v e q. said.no_index p i (q ∙ sym (index v e));
  }
