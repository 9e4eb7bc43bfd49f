-- The modules of a program that is read, with their OUT regions.
use Rattle.std.proofs.Common.{◌≡◌, ℕ, true, List, [], ◌∷◌, ◌++◌, Some, None, refl, sym, ◌∙◌, subst}
use Rattle.std.specs.Prelude.{reverse}
use mathlib.Core.List.{reverse-cons}
use Rattle.f77_ast.specs.Trees.{LoopTree, StmtTrees}
use Rattle.f77_ast.specs.DeclTrees.{ParsedTree}
use Rattle.f77_ast.specs.StatementNumbers.{HasNumbers}
use Rattle.f77_ast.specs.Symbols.{SymbolTree}
use Rattle.call_graph.specs.declared.graph.Graph.{Graph}
use Rattle.f77_meaning.specs.Modules.{Known, known_of}
use Rattle.f77_meaning.specs.Occurrences.{Occurrence}
use Rattle.preconditions.specs.call_translation.Sites.{SiteTree}
use Rattle.preconditions.specs.transformers.Lists.{value_at, transformer_at}
use Rattle.in_out_regions.specs.region_sets.declared.region.Region.{Region}
use Rattle.loop_marker.specs.module_phases.InPhases.{ModuleIns}
use Rattle.loop_marker.specs.out_regions.Known.{KnownTree}
use Rattle.loop_marker.specs.out_regions.Statement.{body_out, at_list}
use Rattle.loop_marker.specs.module_phases.declared.out_site.OutSite.{OutSite}
use Rattle.loop_marker.specs.module_phases.OutPhases.{ModuleOuts, used_after, outs_found, sites_of}
use Rattle.in_out_regions.specs.effects.List.{Callees as EffectCallees}
use Rattle.loop_marker.specs.Results.{ModuleResults}
use Rattle.loop_marker.specs.Phases.{phases_of, no_callees, with_callee, with_marks, marks_found, found_in, all_marks}
use Rattle.loop_marker.specs.module_phases.ScalarPhases.{Analysis, analyses, scope_of}
use Rattle.loop_marker.specs.dependence_test.Finding.{loop_in}
use Rattle.laws_programs.specs.Programs.{IsProgram}
use Rattle.laws_programs.proofs.Tables.{programs_are_linked}
use Rattle.laws_programs.proofs.Whole.{bodies_numbered}
use Rattle.call_graph.specs.CallsIn.{Each}
use Rattle.laws_programs.specs.Storage.Programs.{IsLinked, known}
use Rattle.laws_analyses.specs.Claims.{AnalysisHolds, AnalysesHold}
use Rattle.laws_analyses.proofs.Analyses.{Located, all_located}
use Rattle.laws_analyses.proofs.Modules.{IsIn}
use Rattle.laws_analyses.proofs.UnitLaws.{module_at}
use Rattle.laws_marks.specs.ConflictAccepted.{CopiesAreSole}
use Rattle.laws_marks.proofs.ConflictModules.{numbered_above}
use Rattle.laws_marks.proofs.ConflictWhats.{no_list}
use Rattle.laws_marks.proofs.OutSummaries.{front_outs, outs_at, Placed, outs_placed}
use Rattle.laws_marks.specs.DeadLaws.{outs_of}
use Rattle.laws_marks.proofs.Marks.{found_at}
use Rattle.laws_marks.proofs.Outs.{AreWritten, IsWrittenAt, list_written}
use Rattle.laws_marks.proofs.Own.{TablesTell}
use Rattle.laws_marks.proofs.PrivateTables.{tables_tell}
use Rattle.laws_analyses.proofs.Passes.{each_reversed as each_reverse}
use Rattle.in_out_regions.specs.region_sets.Lists.{set_at}
use Rattle.call_graph.proofs.EachLaws.{each_more, each_of_all}

-- ---- lists

-- two claims of each, and what follows
pub each_two : {T : Type 0} (P Q R : T → Type 0) → ((x : T) → P x → Q x → R x) → (xs : List T) → Each P xs → Each Q xs → Each R xs
each_two P Q R f [] p q = tt
each_two P Q R f (x ∷ xs) p q = (f x p.0 q.0, each_two P Q R f xs p.1 q.1)

-- what is claimed of modules with their OUT regions is claimed of them with their marks
marked_from : (g : Graph) (P : ModuleOuts → Type 0) (cs : EffectCallees) (fs : List ModuleOuts) → Each P fs → Each (λ (f : ModuleResults). P (phases_of f)) (found_in g.untracked cs fs)
marked_from g P cs [] h = tt
marked_from g P cs (f ∷ fs) h = (h.0, marked_from g P (with_callee (with_marks g.untracked cs f) cs) fs h.1)

pub with_their_marks : (g : Graph) (P : ModuleOuts → Type 0) (fs : List ModuleOuts) → Each P fs → Each (λ (f : ModuleResults). P (phases_of f)) (all_marks g fs)
with_their_marks g P fs h = marked_from g P no_callees (reverse fs) (each_reverse P fs h)

-- ---- OUT regions of a statement

written_in : (k : KnownTree) (body : StmtTrees) (out : List Region) (n : ℕ) (rs : List Region) → value_at (at_list true body k out) n ≡ Some rs → AreWritten (set_at k.accesses n) rs
written_in k body out n rs v =
    let q = found_at (IsWrittenAt k) n rs (at_list true body k out) (list_written k true body out) v in
    subst (λ i. AreWritten (set_at k.accesses i) rs) q.number (subst (λ zs. AreWritten (set_at k.accesses q.item.id) zs) q.value q.is_so)

set_written : (g : Graph) (cs : List (SiteTree OutSite)) (f : ModuleIns) (n : ℕ) (rs : List Region) → value_at (outs_found g cs f).at n ≡ Some rs → AreWritten (set_at f.known.regions.at n) rs
set_written g cs f n rs v =
    let a = f.known.analysis.found in
    let k : KnownTree = record { scope = scope_of g.untracked a.known; does = transformer_at a.own.at; accesses = f.known.regions.at; ins = f.ins.at } in
    written_in k a.known.read.body (body_out k true a.known.read.body (used_after g a.known cs)) n rs v

-- ---- modules

module _ (ps : List ParsedTree) (sss : List (List SymbolTree)) (g : Graph) (x : IsProgram ps sss g) (copies : CopiesAreSole) where
  abbrev linked : IsLinked ps sss g
  linked = (programs_are_linked ps sss g x).0

  -- what is known of a module, wherever it stands
  pub record Stands (f : ModuleOuts) : Type 0 where
    pub tables : TablesTell (known_of ps sss) g f.known.known.analysis.found.known
    pub is_in : IsIn (known_of ps sss) f.known.known.analysis.found.known
    pub numbered : HasNumbers f.known.known.analysis.found.known.read.body
    pub written : (n : ℕ) (rs : List Region) → value_at f.outs.at n ≡ Some rs → AreWritten (set_at f.known.known.regions.at n) rs
    pub analysed : (y : Occurrence) → AnalysesHold g (analyses (known_of ps sss) g) y → f.known.known.analysis.found.known.read.name ≡ y.spot.module_name → AnalysisHolds g f.known.known.analysis y

  each_back : {T : Type 0} (P : T → Type 0) (xs ys : List T) → Each P (xs ++ ys) → Each P ys
  each_back P [] ys h = h
  each_back P (z ∷ xs) ys h = each_back P xs ys h.1

  one_stands : (front : List Analysis) (a : Analysis) (rest : List Analysis) → analyses (known_of ps sss) g ≡ front ++ a ∷ rest → Stands (outs_at g front a rest)
  one_stands front a rest e =
      let r = (each_back (Located ps sss g linked (analyses (known_of ps sss) g)) front (a ∷ rest) (subst (Each (Located ps sss g linked (analyses (known_of ps sss) g))) e (all_located ps sss g linked))).0 in
      let w = module_at ps sss r.good.at a.found.known r.good.is_module in
      let body : HasNumbers (known w.parsed w.table).read.body = bodies_numbered x.lines ps x.parsed r.good.at w.parsed w.is_module.parsed in
      record {
        tables = subst (λ (k : Known). TablesTell (known_of ps sss) g k) w.same (tables_tell ps sss g x copies linked (programs_are_linked ps sss g x).1 r.good.at w.parsed w.table w.is_module);
        is_in = record { at = r.good.at; is_module = r.good.is_module };
        numbered = subst (λ (k : Known). HasNumbers k.read.body) w.same body;
        written = λ n rs v. set_written g (sites_of g.untracked (front_outs g [] front (a ∷ rest)) a.found.known.read.name) (outs_at g front a rest).known n rs v;
        analysed = λ y h n. (each_back (λ (b : Analysis). b.found.known.read.name ≡ y.spot.module_name → AnalysisHolds g b y) front (a ∷ rest) (subst (Each (λ (b : Analysis). b.found.known.read.name ≡ y.spot.module_name → AnalysisHolds g b y)) e (each_of_all (λ (b : Analysis). b.found.known.read.name ≡ y.spot.module_name → AnalysisHolds g b y) (analyses (known_of ps sss) g) h))).0 n;
      }

  pub stands : Each Stands (outs_of ps sss g)
  stands = each_more (Placed g (analyses (known_of ps sss) g)) Stands (outs_of ps sss g) (λ f q. subst Stands (sym q.is) (one_stands q.front q.analysis q.rest q.parts)) (outs_placed g (analyses (known_of ps sss) g))

  -- the entry of a module is no DO
  pub no_entry : (f : ModuleOuts) → Stands f → (l : LoopTree) → loop_in 0 f.known.known.analysis.found.known.read.body ≡ Some l → ⊥
  no_entry f s l e = none_some l (sym (no_list 0 f.known.known.analysis.found.known.read.body (numbered_above f.known.known.analysis.found.known.read.body s.numbered)) ∙ e)
    where
      none_some : (l : LoopTree) → None ≡ Some l → ⊥
      none_some l e = cc

  -- ---- modules with their marks

  -- what is known of one
  pub record MarksStand (f : ModuleResults) : Type 0 where
    pub module_stands : Stands (phases_of f)
    pub is : f.marks ≡ marks_found g.untracked (phases_of f) f.effects

  marks_from : (cs : EffectCallees) (fs : List ModuleOuts) → Each Stands fs → Each MarksStand (found_in g.untracked cs fs)
  marks_from cs [] h = tt
  marks_from cs (f ∷ fs) h = (record { module_stands = h.0; is = refl }, marks_from (with_callee (with_marks g.untracked cs f) cs) fs h.1)

  pub marks_stand : Each MarksStand (all_marks g (outs_of ps sss g))
  marks_stand = marks_from no_callees (reverse (outs_of ps sss g)) (each_reverse Stands (outs_of ps sss g) stands)
