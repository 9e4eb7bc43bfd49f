-- Whole programs that are read, with their summaries and entries, are such as the law on their runs asks.
use Rattle.std.proofs.Common.{◌≡◌, ℕ, Bool, true, false, List, [], ◌∷◌, length, map, Option, Some, None, refl, sym, ap, ◌∙◌, subst}
use Rattle.std.specs.Prelude.{if◌then◌else◌, slice_get, bytes_eq}
use Rattle.std.proofs.lemmas.Slice.Eq.{bytes_eq-Decides}
use Rattle.affine_systems.specs.declared.row.System.{System}
use Rattle.f77_ast.specs.DeclTrees.{ParsedTree}
use Rattle.f77_ast.specs.Programs.{Routine, Program}
use Rattle.f77_ast.specs.Symbols.{SymbolTree}
use Rattle.laws_programs.specs.SymbolTables.Laws.{DummiesFirst}
use Rattle.laws_programs.proofs.SymbolTables.DummyLaws.{dummies_come_first}
use Rattle.call_graph.specs.declared.graph.Graph.{Graph}
use Rattle.f77_meaning.specs.Modules.{Known, known_of, dummies_from}
use Rattle.f77_meaning.specs.Linked.{routine, named, subroutines, main_of, initial, program_of}
use Rattle.f77_meaning.specs.Claimed.{InEveryRun}
use Rattle.affine_forms.specs.Claims.{numbers_of}
use Rattle.preconditions.specs.transformer_algebra.Laws.{In}
use Rattle.preconditions.specs.call_translation.Sites.{HoldingSite}
use Rattle.preconditions.specs.transformers.Given.{Callees}
use Rattle.preconditions.specs.Entry.{sites_entry}
use Rattle.laws_programs.specs.Storage.Programs.{IsLinked, IsModule, known}
use Rattle.laws_programs.specs.Storage.Initial.{DataLies}
use Rattle.laws_programs.proofs.Storage.ModuleLaws.{known_module, names_tell_modules}
use Rattle.laws_programs.proofs.Storage.FoundLaws.{data_initialises_scalars}
use Rattle.laws_programs.specs.Storage.Calls.{AreLaidOut, CallFits, AllRead, Args, EachCall}
use Rattle.laws_programs.specs.Storage.Below.{HasCall}
use Rattle.laws_programs.proofs.Storage.CallLaws.{calls_fit, calls_are_listed}
use Rattle.laws_programs.proofs.Storage.ReadLaws.{calls_are_read}
use Rattle.call_graph.specs.CallsIn.{CallAt, Each, list_calls}
use Rattle.laws_analyses.specs.Statements.Results.{pre_in}
use Rattle.laws_analyses.specs.Calls.Entries.{BeginsWithData}
use Rattle.laws_analyses.specs.Calls.Parts.{Blocks, Part, scene_in, Sane}
use Rattle.laws_analyses.specs.Calls.Sites.{Site, have_subscripts, lookup, CoversFrom, Covers}
use Rattle.laws_analyses.specs.Calls.ProgramLaws.{routines, Analysed, AnalysedParts, AnalysedProgram, EachHolds, ProgramHolds}
use Rattle.laws_analyses.specs.Parts.{scope_in, blocks_in, part_of}
use Rattle.laws_analyses.specs.CallLaws.{Settled}
use Rattle.laws_analyses.specs.Analysed.{part_named, AreAnalysed}
use Rattle.laws_analyses.proofs.DummyLaws.{none_listed}
use Rattle.laws_analyses.proofs.UnitLaws.{module_at, scope_is}
use Rattle.laws_analyses.proofs.CallLists.{each_in}
use Rattle.laws_analyses.proofs.Subscripts.{HaveSubscripts}
use Rattle.laws_analyses.proofs.Saneness.{module_sane}
use Rattle.laws_analyses.proofs.SiteLaws.{call_site}
use Rattle.laws_analyses.proofs.Modules.{IsIn, subs, subs_in, subs_are, module_named_is}
use Rattle.call_graph.proofs.EachLaws.{each_both, each_more}

-- what is known of a module
pub record Ready (g : Graph) (p : ParsedTree) (ss : List SymbolTree) : Type 0 where
  pub settled : Settled g p ss
  pub subscripts : EachCall HaveSubscripts p.module_read.body

module _ (ps : List ParsedTree) (sss : List (List SymbolTree)) (g : Graph) (l : IsLinked ps sss g) (laid : AreLaidOut ps sss) (ready : (i : ℕ) (p : ParsedTree) (ss : List SymbolTree) → IsModule ps sss i p ss → Ready g p ss) (cs : Callees) (sites : List ℕ → List HoldingSite) (entry : Known → System) (analysed : AreAnalysed (known_of ps sss) g cs sites entry) where
  abbrev ks : List Known
  ks = known_of ps sss

  abbrev part : Known → Part
  part k = part_of (known_of ps sss) g cs (entry k) k

  abbrev b : Blocks
  b = blocks_in (known_of ps sss) g

  -- ---- names

  named_part : (k : Known) → IsIn ks k → part_named ks g cs entry k.read.name ≡ part k
  named_part k h = ap (λ z. part_of (known_of ps sss) g cs (entry z) z) (module_named_is ps sss g l h.at k h.is_module)

  -- ---- the part of a name

  record FoundPart (x : List ℕ) (k : Part) : Type 0 where
    item : Known
    is_in : IsIn ks item
    same : k ≡ part item
    named : x ≡ item.read.name

  found_part : (xs : List Known) → Each (IsIn ks) xs → (x : List ℕ) (k : Part) → lookup (map part xs) x ≡ Some k → FoundPart x k
  found_part [] h x k e = cc
  found_part (z ∷ xs) h x k e = go (bytes_eq x z.read.name) refl e (found_part xs h.1 x k)
    where
      go : (c : Bool) → bytes_eq x z.read.name ≡ c → (if c then Some (part z) else lookup (map part xs) x) ≡ Some k → (lookup (map part xs) x ≡ Some k → FoundPart x k) → FoundPart x k
      go true q r ih = let same : part z ≡ k = cc in record { item = z; is_in = h.0; same = sym same; named = (bytes_eq-Decides x z.read.name).0 q }
      go false q r ih = ih r

  -- ---- modules

  sane : (k : Known) → IsIn ks k → Sane b (part k)
  sane k h =
      let r = module_at ps sss h.at k h.is_module in
      let q = ready h.at r.parsed r.table r.is_module in
      subst (λ z. Sane b (part z)) r.same (module_sane ps sss g l h.at r.parsed r.table r.is_module (laid h.at r.parsed r.table r.is_module) cs (entry (known r.parsed r.table)) q.settled.agrees q.settled.stays)

  module _ (i : ℕ) (p : ParsedTree) (ss : List SymbolTree) (m : IsModule ps sss i p ss) where
    -- what is known of a CALL of a module
    record CallOf (c : CallAt) : Type 0 where
      fits : CallFits ps sss ss c.callee c.actuals
      read : AllRead ss c.actuals
      listed : HasCall p ss c.callee
      subscripts : have_subscripts c.actuals ≡ true
      site : In (record { caller = scope_in g (known p ss); actuals = c.actuals; value = pre_in p.module_read.body (scope_in g (known p ss)) cs (entry (known p ss)) c.number }) (sites c.callee)

    all_calls : Each CallOf (list_calls p.module_read.body)
    all_calls =
        let cl = list_calls p.module_read.body in
        let F : CallAt → Type 0 = λ c. CallFits ps sss ss c.callee c.actuals in
        let R : CallAt → Type 0 = λ c. AllRead ss c.actuals in
        let H : CallAt → Type 0 = λ c. HasCall p ss c.callee in
        let S : CallAt → Type 0 = λ c. have_subscripts c.actuals ≡ true in
        let I : CallAt → Type 0 = λ c. In (record { caller = scope_in g (known p ss); actuals = c.actuals; value = pre_in p.module_read.body (scope_in g (known p ss)) cs (entry (known p ss)) c.number }) (sites c.callee) in
        let f = each_in (λ n x es. CallFits ps sss ss x es) p.module_read.body (calls_fit ps sss g l laid i p ss m) in
        let r = each_in (λ n x es. AllRead ss es) p.module_read.body (calls_are_read p ss (laid i p ss m)) in
        let h = each_in (λ n x es. HasCall p ss x) p.module_read.body (calls_are_listed p ss) in
        let s = each_in HaveSubscripts p.module_read.body (ready i p ss m).subscripts in
        let t = analysed.calls i (known p ss) (known_module ps sss i p ss m) in
        let SI : CallAt → Type 0 = λ c. S c × I c in
        let HS : CallAt → Type 0 = λ c. H c × SI c in
        let RH : CallAt → Type 0 = λ c. R c × HS c in
        let FR : CallAt → Type 0 = λ c. F c × RH c in
        each_more FR CallOf cl
        (λ c z. record { fits = z.0; read = z.1.0; listed = z.1.1.0; subscripts = z.1.1.1.0; site = z.1.1.1.1 })
        (each_both F RH cl f (each_both R HS cl r (each_both H SI cl h (each_both S I cl s t))))

    site_of : (c : CallAt) → CallOf c → (j : ℕ) (q : ParsedTree) (tt' : List SymbolTree) → IsModule ps sss j q tt' → c.callee ≡ q.module_read.name → Site b cs sites (part (known p ss)) (part (known q tt')) c.callee c.actuals (pre_in p.module_read.body (scope_in g (known p ss)) cs (entry (known p ss)) c.number)
    site_of c h j q tt' mq e =
        let f = h.fits in
        let same : f.at ≡ j = names_tell_modules ps sss g l f.at j f.callee q f.table tt' f.is_module mq (f.is_named ∙ e) in
        let table : f.table ≡ tt' = (let z : Some f.table ≡ Some tt' = sym f.is_module.table ∙ ap (slice_get sss) same ∙ mq.table in cc) in
        let callee : f.callee ≡ q = (let z : Some f.callee ≡ Some q = sym f.is_module.parsed ∙ ap (slice_get ps) same ∙ mq.parsed in cc) in
        let listed : HasCall p ss q.module_read.name = record { at = h.listed.at; call = h.listed.call; is_call = h.listed.is_call; is_named = h.listed.is_named ∙ e } in
        let args : Args ss c.actuals 1 tt' = subst (Args ss c.actuals 1) table f.args in
        let is = known_module ps sss j q tt' mq in
        call_site ps sss g l laid i p ss m j q tt' mq listed c.actuals args h.read cs sites (entry (known p ss)) (entry (known q tt')) (pre_in p.module_read.body (scope_in g (known p ss)) cs (entry (known p ss)) c.number) c.callee h.subscripts
        (ap cs e ∙ analysed.summaries j (known q tt') is)
        (analysed.others j (known q tt') is (ap (λ z. z.module_read.main) (sym callee) ∙ f.is_subroutine) ∙ ap (λ x. sites_entry (scope_in g (known q tt')) (sites x)) (sym e))
        h.site

    covers : (below : List Known) → Each (IsIn ks) below → (c : CallAt) → CallOf c → Covers b cs sites (map part below) (part (known p ss)) c.callee c.actuals (pre_in p.module_read.body (scope_in g (known p ss)) cs (entry (known p ss)) c.number)
    covers below inside c h = go (lookup (map part below) c.callee) refl
      where
        P : System
        P = pre_in p.module_read.body (scope_in g (known p ss)) cs (entry (known p ss)) c.number

        go : (o : Option Part) → lookup (map part below) c.callee ≡ o → CoversFrom b cs sites (part (known p ss)) c.callee c.actuals (pre_in p.module_read.body (scope_in g (known p ss)) cs (entry (known p ss)) c.number) o
        go None e = tt
        go (Some k) e =
            let f = found_part below inside c.callee k e in
            let r = module_at ps sss f.is_in.at f.item f.is_in.is_module in
            let there = site_of c h f.is_in.at r.parsed r.table r.is_module (f.named ∙ ap (λ z. z.read.name) (sym r.same)) in
            subst (λ z. Site b cs sites (part (known p ss)) z c.callee c.actuals P) (ap part r.same ∙ sym f.same) there

    module_analysed : (below : List Known) → Each (IsIn ks) below → Analysed b cs sites (map part below) (part (known p ss))
    module_analysed below inside =
        let q = ready i p ss m in
        record {
          found = refl;
          numbered = q.settled.numbered;
          targets = q.settled.targets;
          calls = each_more CallOf (λ c. Covers b cs sites (map part below) (part (known p ss)) c.callee c.actuals (pre_in p.module_read.body (scope_in g (known p ss)) cs (entry (known p ss)) c.number)) (list_calls p.module_read.body) (covers below inside) all_calls;
        }

  is_analysed : (below : List Known) → Each (IsIn ks) below → (k : Known) → IsIn ks k → Analysed b cs sites (map part below) (part k)
  is_analysed below inside k h =
      let r = module_at ps sss h.at k h.is_module in
      subst (λ z. Analysed b cs sites (map part below) (part z)) r.same (module_analysed h.at r.parsed r.table r.is_module below inside)

  parts_analysed : (xs : List Known) → Each (IsIn ks) xs → AnalysedParts b cs sites (part_named ks g cs entry) (map part xs)
  parts_analysed [] h = tt
  parts_analysed (k ∷ xs) h = (sane k h.0, is_analysed xs h.1 k h.0, named_part k h.0, parts_analysed xs h.1)

  routines_are : (xs : List Known) → routines (map part xs) ≡ map (routine (known_of ps sss) g) xs
  routines_are [] = refl
  routines_are (k ∷ xs) = ap (λ rs. routine (known_of ps sss) g k ∷ rs) (routines_are xs)

  -- ---- the main program

  module _ (data_lies : DataLies ps sss) (i : ℕ) (p : ParsedTree) (ss : List SymbolTree) (m : IsModule ps sss i p ss) (is_main : main_of (known_of ps sss) ≡ known p ss) (main : p.module_read.main ≡ true) (alone : p.module_read.dummies ≡ []) where
    abbrev others : List Known
    others = subs (known_of ps sss) g.order

    no_dummies : dummies_from 1 ss ≡ []
    no_dummies = none_listed 1 ss (subst (λ ds. DummiesFirst 1 (length ds) ss) alone (dummies_come_first p ss (laid i p ss m)))

    begins : BeginsWithData (part (known p ss)).scope (scene_in b (part (known p ss)) [] (part (known p ss)).routine.fixed) (numbers_of (initial (known_of ps sss) g))
    begins c v r rs t e f = (t, ap (λ z. z.number) (data_initialises_scalars ps sss g l data_lies i p ss m (scope_in g (known p ss)) (scope_is g p ss) c v r rs t e f))

    inside : IsIn ks (known p ss)
    inside = record { at = i; is_module = known_module ps sss i p ss m }

    program : AnalysedProgram b cs sites (part_named ks g cs entry) (part (known p ss)) (map part others) (initial (known_of ps sss) g)
    program = record {
      sane = sane (known p ss) inside;
      no_dummies = no_dummies;
      analysed = is_analysed others (subs_in ks g.order) (known p ss) inside;
      named = named_part (known p ss) inside;
      entry = analysed.main i (known p ss) (known_module ps sss i p ss m) main;
      begins = begins;
      parts_analysed = parts_analysed others (subs_in ks g.order);
    }

    program_is : program_of (known_of ps sss) g ≡ record { main = (part (known p ss)).routine; others = routines (map part others); initial = initial (known_of ps sss) g }
    program_is =
        let made : Known → List Routine → Program = λ k rs. record { main = routine (known_of ps sss) g k; others = rs; initial = initial (known_of ps sss) g } in
        ap (λ k. made k (subroutines (known_of ps sss) g g.order)) is_main ∙ ap (made (known p ss)) (sym (routines_are others ∙ subs_are (known_of ps sss) g g.order))

    pub all_hold : ProgramHolds → InEveryRun (known_of ps sss) g (EachHolds cs (part_named (known_of ps sss) g cs entry))
    all_hold holds = holds b cs sites (part_named ks g cs entry) (part (known p ss)) (map part others) (initial (known_of ps sss) g) program (known_of ps sss) g program_is
