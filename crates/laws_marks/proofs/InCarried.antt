-- What a CALL reads and writes as what it calls: regions of variables that the caller may name, on the subscripts that they have.
use Rattle.std.proofs.Common.{◌≡◌, ℕ, Bool, true, false, ◌&&◌, List, [], ◌∷◌, ◌++◌, length, map, Option, Some, None, refl, sym, ap, ◌∙◌, subst}
use Rattle.std.specs.Prelude.{if◌then◌else◌, option_map}
use Rattle.affine_systems.specs.declared.row.System.{System}
use Rattle.affine_systems.proofs.Basics.{if_cases}
use Rattle.hull_projection.specs.declared.projection.Shadow.{Shadow}
use Rattle.f77_ast.specs.Trees.{ExprTrees}
use Rattle.f77_ast.specs.declared.symbol.Place.TheVariants as place
use Rattle.f77_ast.specs.declared.variable.Unit.{Unit as BlockUnit}
use Rattle.f77_ast.specs.declared.variable.Variable.{Variable as Named}
use Rattle.f77_ast.specs.declared.variable.Variable.TheVariants.{Own, Saved}
use Rattle.f77_ast.specs.Symbols.{BoundTree, SymbolTree}
use Rattle.f77_ast.specs.Shared.{symbol_at}
use Rattle.f77_ast.specs.Summaries.{SummaryTree}
use Rattle.call_graph.specs.declared.graph.Graph.{Graph}
use Rattle.f77_meaning.specs.Modules.{Known}
use Rattle.preconditions.specs.transformer_algebra.Transformers.{without}
use Rattle.preconditions.specs.transformer_algebra.Laws.{here, there}
use Rattle.preconditions.specs.call_translation.Scopes.{ScopeTree}
use Rattle.preconditions.specs.transformers.Given.{Callees}
use Rattle.in_out_regions.specs.region_sets.declared.region.Region.{Region}
use Rattle.in_out_regions.specs.region_sets.Sets.{unite_all}
use Rattle.in_out_regions.proofs.RegionSets.StepLaws.{of_map}
use Rattle.in_out_regions.specs.call_equations.declared.link.Link.{Link}
use Rattle.in_out_regions.specs.call_equations.Sides.{SidesTree}
use Rattle.in_out_regions.specs.region_translation.Pieces.{piece_in_caller}
use Rattle.in_out_regions.specs.call_equations.Links.{link_of}
use Rattle.in_out_regions.specs.region_translation.Caller.{by_link}
use Rattle.in_out_regions.specs.array_regions.Reads.{reads, maybe_reads}
use Rattle.in_out_regions.specs.array_regions.Calls.{Callees as Summaries, actuals_reads, sides, all_in_caller, summary_in_caller, call_set}
use Rattle.in_out_regions.specs.array_regions.Entry.{bounds_reads, symbols_reads, locals, names_none, for_callers, seen, summary_of}
use Rattle.in_out_regions.specs.array_regions.References.{is_constant}
use Rattle.laws_analyses.specs.Calls.Parts.{Blocks, Part}
use Rattle.laws_lines.proofs.RuleVars.{without_neat}
use Rattle.laws_analyses.specs.Regions.Entries.{Enters}
use Rattle.laws_analyses.specs.Regions.Programs.{Joins, Sends}
use Rattle.laws_analyses.proofs.Regions.Sent.{of_sent}
use Rattle.laws_marks.specs.InFrames.{bounds_count, rank}
use Rattle.laws_marks.specs.InLaid.{Laid, NamesGo}
use Rattle.laws_marks.proofs.InApart.{constants_count}
use Rattle.laws_marks.proofs.InLinked.{IsNarrowLink, NamesMeet, link_is_narrow}
use Rattle.laws_marks.proofs.InNarrow.{Upto, IsUpto}
use Rattle.laws_marks.proofs.InNarrowed.{MayName, IsNarrowed, AreNarrowed, none_narrowed, both_narrowed, more_narrowed, each_narrowed, united_narrowed, reads_narrowed, maybe_narrowed, actuals_narrowed}
use Rattle.laws_marks.proofs.InSets.{IsFit, united_fit}
use Rattle.laws_marks.proofs.InTranslated.{piece_upto}
use Rattle.call_graph.specs.Visible.{is_visible_to_callers, is_local}

-- ---- what callers see

module _ (may : MayName) (m : ScopeTree) where
  bounds_narrowed : (bs : List BoundTree) → AreNarrowed may m.symbols (bounds_reads bs m)
  bounds_narrowed [] = none_narrowed may m.symbols
  bounds_narrowed (b ∷ bs) =
      both_narrowed may m.symbols (reads b.low m) (maybe_reads b.high m ++ bounds_reads bs m) (reads_narrowed may m b.low)
      (both_narrowed may m.symbols (maybe_reads b.high m) (bounds_reads bs m) (maybe_narrowed may m b.high) (bounds_narrowed bs))

  symbols_narrowed : (ss : List SymbolTree) → AreNarrowed may m.symbols (symbols_reads ss m)
  symbols_narrowed [] = none_narrowed may m.symbols
  symbols_narrowed (s ∷ ss) = both_narrowed may m.symbols (bounds_reads s.bounds m) (symbols_reads ss m) (bounds_narrowed s.bounds) (symbols_narrowed ss)

  callers_narrowed : (cs : List ℕ) (r : Region) → IsNarrowed may m.symbols r → IsNarrowed may m.symbols (for_callers cs r)
  callers_narrowed cs r h = each_narrowed may m.symbols (without cs) (λ n s k. without_neat (Upto n) cs s k) (r.exact && names_none cs r.pieces) r h

  seen_narrowed : (cs : List ℕ) (rs : List Region) → AreNarrowed may m.symbols rs → AreNarrowed may m.symbols (seen m.symbols cs rs)
  seen_narrowed cs [] h = none_narrowed may m.symbols
  seen_narrowed cs (r ∷ rs) h =
      let others = seen_narrowed cs rs (λ q i. h q (there i)) in
      if_cases (AreNarrowed may m.symbols) (is_visible_to_callers m.symbols r.variable) (for_callers cs r ∷ seen m.symbols cs rs) (seen m.symbols cs rs)
      (λ e. more_narrowed may m.symbols (for_callers cs r) (seen m.symbols cs rs) (callers_narrowed cs r (h r here)) others) (λ e. others)

  pub summary_narrowed : (rs : List Region) → AreNarrowed may m.symbols rs → AreNarrowed may m.symbols (summary_of m rs)
  summary_narrowed rs h =
      let all = unite_all (symbols_reads m.symbols m ++ rs) in
      united_narrowed may m.symbols (seen m.symbols (locals m.symbols) all)
      (seen_narrowed (locals m.symbols) all (united_narrowed may m.symbols (symbols_reads m.symbols m ++ rs) (both_narrowed may m.symbols (symbols_reads m.symbols m) rs (symbols_narrowed m.symbols) h)))

-- ---- at a CALL in the module h of the module k by the name x

module _ (ks : List Known) (g : Graph) (may_name : Part → Named → Bool) where
  abbrev pub may_in : (p : Part) → Laid ks g p (may_name p) → MayName
  may_in p laid = record { ks = ks; g = g; such = may_name p; own = laid.own; told = laid.told }

  module _ (h k : Part) (laid_h : Laid ks g h (may_name h)) (laid_k : Laid ks g k (may_name k)) (changed : List ℕ) (untracked : List BlockUnit) (x : List ℕ) (es : ExprTrees) where
    abbrev c : SidesTree
    c = sides h.scope changed untracked x es k.scope.symbols

    abbrev inner : Named → ℕ
    inner v = rank ks g k.scope.symbols v

    module _ (b : Blocks) (cs : Callees) (rs : List ℕ → Summaries) (sends : Sends b ks g cs rs h k x) (enters : Enters ks g k) (joins : Joins ks g k) (names : NamesGo k (may_name h) (may_name k) x) where
      -- a saved local has as many subscripts as where it lies
      saved_rank : (n : ℕ) (s : SymbolTree) → symbol_at k.scope.symbols n ≡ Some s → is_local s.place ≡ true → is_constant s.place ≡ false → s.saved ≡ true → inner (Own n) ≡ rank ks g h.scope.symbols (Saved x s.name)
      saved_rank n s e local stored kept =
          let fits = joins.fixed n s e stored (enters.local n s e local) in
          ap bounds_count e ∙ (constants_count k.scope.scalars.value s.bounds (k.routine.fixed n).dims fits.constants ∙ ap (λ p. length p.dims) (sym (sends.saved n s e local kept).1))

      names_meet : NamesMeet (may_in h laid_h) c inner (may_name k)
      names_meet = record {
        own = λ n s e. ap bounds_count e;
        saved = λ n s g' o e q r. (names.saved n s e (ap is_local q) r, saved_rank n s e (ap is_local q) (ap is_constant q) r);
        block = λ n s y o e q. names.block n s y o e q;
        blocks = λ y e. (names.blocks y e, refl);
        others = λ m y e. (names.others m y e, refl);
      }

      pub narrow : (v : Named) (l : Link) → may_name k v ≡ true → link_of c v ≡ Some l → IsNarrowLink (may_in h laid_h) c inner v l
      narrow v l e f = link_is_narrow (may_in h laid_h) c inner (may_name k) names_meet v l e f

      -- what the callee may name the caller may name
      pub link_named : (v : Named) (l : Link) → may_name k v ≡ true → link_of (sides h.scope changed untracked x es k.scope.symbols) v ≡ Some l → may_name h l.variable ≡ true
      link_named v l e f = (narrow v l e f).named

      link_narrowed : (r : Region) (l : Link) → IsNarrowLink (may_in h laid_h) c inner r.variable l → IsNarrowed (may_in k laid_k) k.scope.symbols r → IsNarrowed (may_in h laid_h) h.scope.symbols (by_link c r l)
      link_narrowed r l n i =
          let N = rank ks g h.scope.symbols l.variable in (
            n.named,
            λ s j.
                of_map (λ (w : Shadow). w.system) (IsUpto N) (map (piece_in_caller c l) r.pieces)
                (λ w j'. of_map (piece_in_caller c l) (λ (w' : Shadow). IsUpto N w'.system) r.pieces (λ q j''. piece_upto N c l (inner r.variable) n.same n.rows q (i.1 q j'')) w j') s j,
          )

      sent_narrowed : (ws : List Region) → AreNarrowed (may_in k laid_k) k.scope.symbols ws → AreNarrowed (may_in h laid_h) h.scope.symbols (all_in_caller c ws)
      sent_narrowed ws w q i = (let r = of_sent c ws q i in go r.region (link_of c r.region.variable) refl r.sent (w r.region r.is_one))
        where
          go : (r : Region) (o : Option Link) → link_of c r.variable ≡ o → option_map (by_link c r) o ≡ Some q → IsNarrowed (may_in k laid_k) k.scope.symbols r → IsNarrowed (may_in h laid_h) h.scope.symbols q
          go r None e f j = cc
          go r (Some l) e f j = (let same : by_link c r l ≡ q = cc in subst (IsNarrowed (may_in h laid_h) h.scope.symbols) same (link_narrowed r l (narrow r.variable l j.0 e) j))

      -- its set
      pub call_fit : (known : Summaries) (ws : List Region) → known x ≡ Some (record { symbols = k.scope.symbols; value = ws }) → AreNarrowed (may_in k laid_k) k.scope.symbols ws → IsFit (may_in h laid_h) h.scope.symbols (call_set h.scope changed untracked known x es)
      call_fit known ws e w =
          subst (λ (o : Option (SummaryTree (List Region))). IsFit (may_in h laid_h) h.scope.symbols (unite_all (actuals_reads es h.scope ++ summary_in_caller h.scope changed untracked x es o))) (sym e)
          (united_fit (may_in h laid_h) h.scope.symbols (actuals_reads es h.scope ++ all_in_caller c ws)
          (both_narrowed (may_in h laid_h) h.scope.symbols (actuals_reads es h.scope) (all_in_caller c ws) (actuals_narrowed (may_in h laid_h) h.scope es) (sent_narrowed ws w)))
